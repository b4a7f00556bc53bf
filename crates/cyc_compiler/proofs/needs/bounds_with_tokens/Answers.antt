use Rattle.std.proofs.Common.{subst}
use Rattle.std.proofs.lemmas.Result.{err_from_is_err_and}
use Rattle.cyc_types.specs.TypedTrees.{Program}
use Rattle.cyc_compiler.specs.Needs.{AreBounds}
use Rattle.cyc_front.proofs.Fronts.{HasPhases, refused_by_both, accepted_alike}
use Rattle.cyc_compiler.proofs.Needing.{HasBoundsBeside}
use Rattle.cyc_compiler.proofs.needs.bounds_with_tokens.Goals as goal

pub returns-in_err-phases-clause-decides : goal.returns-in_err-phases-clause-decides
returns-in_err-phases-clause-decides c =
    let e = err_from_is_err_and c.from_residual.result c.from_residual.ensures.1 in
    rw (e.1, e.2) (refused_by_both HasPhases HasBoundsBeside c.in_err-phases.field-0.0 c.in_err-phases.ensures.decides)

pub returns-clause-decides : goal.returns-clause-decides
returns-clause-decides c =
    accepted_alike HasPhases HasBoundsBeside c.in_ok-phases.phases _ (λ p same. subst (λ (q : Program). AreBounds q c.in_ok-bounds.bounds) same c.in_ok-bounds.ensures) c.in_ok-phases.ensures.decides
