use Rattle.std.proofs.lemmas.Result.{err_from_is_err_and}
use Rattle.cyc_source_commands.proofs.work.check.Goals as goal

pub returns-in_err-run_phases-clause-refuses : goal.returns-in_err-run_phases-clause-refuses
returns-in_err-run_phases-clause-refuses c = λ fault has.
    let p = err_from_is_err_and c.from_residual.result c.from_residual.ensures.1 in
    rw (p.1, p.2) (c.in_err-run_phases.ensures.decides.refuses fault has)
