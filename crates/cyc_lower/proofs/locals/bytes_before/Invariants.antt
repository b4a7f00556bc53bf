use Rattle.std.specs.Prelude.{map}
use Rattle.cyc_types.specs.TypeView.{view_ty}
use Rattle.cyc_lower_proof.proofs.slots.LocalSlots.{BytesLeft}
use Rattle.cyc_lower.proofs.locals.bytes_before.Given as goal

abbrev pub invariant-loop-of_type : goal.invariant-loop-of_type
invariant-loop-of_type l = BytesLeft (map view_ty) view_ty l.fields l.field l.of_type-index l.bytes l.left
