use Rattle.std.specs.Prelude.{map}
use Rattle.cyc_types.specs.TypeView.{view_ty}
use Rattle.cyc_lower_proof.proofs.slots.LocalSlots.{SlotsLeft}
use Rattle.cyc_lower.proofs.locals.add_locals.Given as goal

abbrev pub invariant-loop-of_type : goal.invariant-loop-of_type
invariant-loop-of_type l = SlotsLeft (map view_ty) view_ty l.types l.fn.first l.of_type-index l.slot l.fn.starts.items l.starts.items
