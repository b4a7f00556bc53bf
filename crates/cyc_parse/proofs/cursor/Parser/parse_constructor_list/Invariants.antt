use Rattle.std.proofs.Common.{◌≡◌, ◌-◌}
use Rattle.cyc_syntax.specs.inside.TreeView.{view_constructor}
use Rattle.cyc_parse.specs.inside.Declarations.{begins_constructor, constructor, some_of}
use Rattle.cyc_parse.proofs.Rounds.{with_items, next_of}
use Rattle.cyc_parse.proofs.cursor.Parser.parse_constructor_list.Given as goal

abbrev pub invariant-loop : goal.invariant-loop
invariant-loop l = with_items view_constructor l.constructors.items (next_of begins_constructor (constructor 200) (64 - l.counter) l.self) ≡ some_of begins_constructor (constructor 200) l.fn.self
