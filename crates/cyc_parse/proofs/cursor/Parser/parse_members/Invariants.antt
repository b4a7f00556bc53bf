use Rattle.std.proofs.Common.{◌≡◌, ℕ, suc, ◌-◌}
use Rattle.cyc_syntax.specs.inside.TreeView.{view_member}
use Rattle.cyc_parse.specs.inside.Parsing.{separated}
use Rattle.cyc_parse.specs.inside.Types.{begins_type}
use Rattle.cyc_parse.specs.inside.Declarations.{member}
use Rattle.cyc_parse.proofs.Rounds.{with_items, next_item}
use Rattle.cyc_parse.proofs.cursor.Parser.parse_members.Given as goal

abbrev pub invariant-loop : goal.invariant-loop
invariant-loop l = (room : ℕ) → with_items view_member l.members.items (next_item (suc room) begins_type (member (suc room)) (64 - l.counter) l.self) ≡ separated (suc room) begins_type (member (suc room)) l.fn.self
