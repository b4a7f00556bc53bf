-- The law that an image whose limits are at least the bounds of its program ends by itself.
use Rattle.cyc_compiler.proofs.BoundedRuns.{is_not_full, ends_itself}
use Rattle.cyc_compiler.proofs.laws.bounded_images_end.Goals as goal

pub returns-clause-never_full : goal.returns-clause-never_full
returns-clause-never_full c = λ p image bounds does are limits store input allowed new bytes covers. is_not_full p image bounds does are limits store input allowed new bytes covers

pub returns-clause-ends : goal.returns-clause-ends
returns-clause-ends c = λ p image bounds does are sound limits store input allowed new bytes covers. ends_itself p image bounds does are limits store input allowed new bytes covers sound
