use Rattle.std.specs.List.{list_any}
use Rattle.std.proofs.Common.{◌≡◌, ℕ, nat_eq, not, ◌&&◌, false, get_or, drop}
use Rattle.cyc_types.proofs.name_set.unmark_all.Given as goal

abbrev pub invariant-loop-name : goal.invariant-loop-name
invariant-loop-name l = (x : ℕ) → (not (list_any (nat_eq x) (drop l.name-index l.names)) && get_or l.table.items x false) ≡ (not (list_any (nat_eq x) l.names) && get_or l.fn.table.items x false)
