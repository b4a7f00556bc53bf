use Rattle.std.proofs.Common.{◌≡◌, ℕ, suc, ◌-◌}
use Rattle.cyc_syntax.specs.inside.TreeView.{view_member}
use Rattle.cyc_parse.specs.inside.Types.{begins_type}
use Rattle.cyc_parse.specs.inside.Declarations.{field, some_of}
use Rattle.cyc_parse.proofs.Rounds.{with_items, next_of}
use Rattle.cyc_parse.proofs.cursor.Parser.parse_field_list.Given as goal

abbrev pub invariant-loop : goal.invariant-loop
invariant-loop l = (room : ℕ) → with_items view_member l.fields.items (next_of begins_type (field (suc room)) (64 - l.counter) l.self) ≡ some_of begins_type (field (suc room)) l.fn.self
