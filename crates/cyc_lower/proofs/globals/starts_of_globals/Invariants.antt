use Rattle.cyc_lower_proof.proofs.slots.GlobalWords.{StartsLeft}
use Rattle.cyc_lower.proofs.globals.starts_of_globals.Given as goal

abbrev pub invariant-loop-global : goal.invariant-loop-global
invariant-loop-global l = StartsLeft l.globals l.global-index l.first l.starts.items
