use Rattle.std.proofs.lemmas.Result.{err_from_is_err_and}
use Rattle.cyc_front.proofs.Fronts.{HasProgram, HasPhases, refused_by_both, accepted_alike}
use Rattle.cyc_front.proofs.front.accept.Goals as goal

pub returns-in_err-phases : goal.returns-in_err-phases
returns-in_err-phases c =
    let e = err_from_is_err_and c.from_residual.result c.from_residual.ensures.1 in
    record { decides = rw (e.1, e.2) (refused_by_both HasPhases HasProgram c.in_err-phases.field-0.0 c.in_err-phases.ensures.decides); sound = rw e.1 tt }

pub returns : goal.returns
returns c =
    let phases = c.in_ok-phases.phases in
    record { decides = accepted_alike HasPhases HasProgram phases phases.program (λ p same. same) c.in_ok-phases.ensures.decides; sound = c.in_ok-phases.ensures.sound }
