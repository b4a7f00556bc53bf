use Rattle.std.proofs.Common.{◌≡◌, ℕ, suc, ◌-◌}
use Rattle.cyc_syntax.specs.inside.TreeView.{view_constraint}
use Rattle.cyc_parse.specs.inside.Parsing.{begins_region, separated}
use Rattle.cyc_parse.specs.inside.Declarations.{constraint}
use Rattle.cyc_parse.proofs.Rounds.{with_items, next_item}
use Rattle.cyc_parse.proofs.cursor.Parser.parse_constraint_list.Given as goal

abbrev pub invariant-loop : goal.invariant-loop
invariant-loop l = (room : ℕ) → with_items view_constraint l.constraints.items (next_item (suc room) begins_region (constraint (suc room)) (64 - l.counter) l.self) ≡ separated (suc room) begins_region (constraint (suc room)) l.fn.self
