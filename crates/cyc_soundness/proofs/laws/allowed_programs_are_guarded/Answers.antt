use Rattle.cyc_soundness.proofs.guard.Whole.{functions_guarded}
use Rattle.cyc_soundness.proofs.guard.WellNumbered.{functions_fresh}
use Rattle.cyc_soundness.proofs.laws.allowed_programs_are_guarded.Goals as goal

pub returns : goal.returns
returns c = λ p well allowed. functions_guarded p.functions (functions_fresh p p.functions well.functions) allowed
