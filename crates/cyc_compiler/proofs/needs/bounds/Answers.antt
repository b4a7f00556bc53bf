use Rattle.std.proofs.Common.{subst}
use Rattle.std.proofs.lemmas.Result.{err_from_is_err_and}
use Rattle.cyc_types.specs.TypedTrees.{Program}
use Rattle.cyc_compiler.specs.Needs.{AreBounds}
use Rattle.cyc_front.proofs.Fronts.{HasProgram, refused_by_both, accepted_alike}
use Rattle.cyc_compiler.proofs.needs.bounds.Goals as goal

pub returns-in_err-program : goal.returns-in_err-program
returns-in_err-program c =
    let e = err_from_is_err_and c.from_residual.result c.from_residual.ensures.1 in
    record { decides = rw (e.1, e.2) (refused_by_both HasProgram AreBounds c.in_err-program.field-0.0 c.in_err-program.ensures.decides) }

pub returns : goal.returns
returns c =
    record { decides = accepted_alike HasProgram AreBounds c.in_ok-program.program _ (λ p same. subst (λ (q : Program). AreBounds q c.in_ok-bounds.bounds) same c.in_ok-bounds.ensures) c.in_ok-program.ensures.decides }
