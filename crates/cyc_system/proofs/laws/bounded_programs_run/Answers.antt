-- The law that a program whose limits are at least its bounds ends by itself.
use Rattle.cyc_system.proofs.BoundedReports.{is_not_full, ends_itself}
use Rattle.cyc_system.proofs.laws.bounded_programs_run.Goals as goal

pub returns-clause-never_full : goal.returns-clause-never_full
returns-clause-never_full c = λ text p file bounds compiled is are limits input allowed bytes covers grows budget old new report tells.
    is_not_full p file bounds is are limits input allowed bytes covers grows budget old new report tells

pub returns-clause-ends : goal.returns-clause-ends
returns-clause-ends c = λ text p file bounds compiled is are limits input allowed bytes covers grows budget old new report tells enough.
    ends_itself p file bounds is are limits input allowed bytes covers grows budget old new report tells (c.accepted_programs_are_sound.ensures text p compiled.0) enough
