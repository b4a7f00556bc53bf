-- The law that no run has more active calls than the bound states.
use Rattle.cyc_bound.proofs.CallRuns.{depth_within, calls_within, runs_alike}
use Rattle.cyc_bound.proofs.laws.calls_stay_within.Goals as goal

pub returns-clause-depth : goal.returns-clause-depth
returns-clause-depth c = λ program bound input count most. depth_within program bound most input count

pub returns-clause-within : goal.returns-clause-within
returns-clause-within c = λ program bound pages calls input count most enough. calls_within program bound most pages calls enough input count

pub returns-clause-alike : goal.returns-clause-alike
returns-clause-alike c = λ program bound pages calls more input count most enough also. runs_alike program bound most pages calls more enough also input count
