use Rattle.std.proofs.Common.{Option, sym, subst}
use Rattle.std.specs.Prelude.{IfSome}
use Rattle.std.proofs.lemmas.Result.{err_from_is_err_and}
use Rattle.cyc_cli.specs.inside.Limits.{Given}
use Rattle.cyc_source_commands.specs.inside.Work.{CarriesEnough}
use Rattle.cyc_source_commands.proofs.LimitsFrom.{carries_enough}
use Rattle.cyc_source_commands.proofs.work.own_limits.Goals as goal

pub returns-in_err-needed : goal.returns-in_err-needed
returns-in_err-needed c =
    let e = err_from_is_err_and c.from_residual.result c.from_residual.ensures.1 in
    rw (e.1, e.2) c.in_err-needed.ensures.decides.refused

pub returns : goal.returns
returns c =
    let b = c.in_ok-needed.needed in
    let (p, accepted, are) = c.in_ok-needed.ensures.decides.accepted in
    (p, b, accepted, are, c.limits_of.ensures, subst (λ (found : Option Given). IfSome found (CarriesEnough b)) (sym c.limits_of.ensures) (carries_enough b))
