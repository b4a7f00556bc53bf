use Rattle.cyc_lower.proofs.emission.CellCode.{BytesLeft}
use Rattle.cyc_lower.proofs.objects.bytes_of_kinds.Given as goal

abbrev pub invariant-loop-kind : goal.invariant-loop-kind
invariant-loop-kind l = BytesLeft l.kinds l.kind-index l.bytes
