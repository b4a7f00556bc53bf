use Rattle.cyc_lower.proofs.emission.CellCode.{KindsLeft}
use Rattle.cyc_lower.proofs.objects.kinds_passed.Given as goal

abbrev pub invariant-loop-value : goal.invariant-loop-value
invariant-loop-value l = KindsLeft l.values l.value-index l.kinds.items
