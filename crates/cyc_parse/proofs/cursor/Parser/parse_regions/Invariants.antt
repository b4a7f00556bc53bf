use Rattle.std.proofs.Common.{◌≡◌, ℕ, suc, ◌-◌}
use Rattle.cyc_syntax.specs.inside.TreeView.{view_name}
use Rattle.cyc_parse.specs.inside.Parsing.{begins_region, region_name, regions}
use Rattle.cyc_parse.proofs.Rounds.{with_items, next_item}
use Rattle.cyc_parse.proofs.cursor.Parser.parse_regions.Given as goal

abbrev pub invariant-loop : goal.invariant-loop
invariant-loop l = (room : ℕ) → with_items view_name l.regions.items (next_item (suc room) begins_region (region_name (suc room)) (64 - l.counter) l.self) ≡ regions (suc room) l.fn.self
