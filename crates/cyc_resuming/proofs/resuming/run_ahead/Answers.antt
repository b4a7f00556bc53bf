use Rattle.cyc_machine.proofs.Between.{ahead_few}
use Rattle.cyc_resuming.proofs.resuming.run_ahead.Goals as goal

pub returns-in-Ready-clause-few : goal.returns-in-Ready-clause-few
returns-in-Ready-clause-few g c =
    let few = ahead_few _ _ _ _ _ c.fast-ahead.ensures.runs in (few.read, few.written)
