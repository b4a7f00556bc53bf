use Rattle.cyc_resuming.specs.Resuming.{point_of}
use Rattle.cyc_resuming.proofs.Resumings.{rests_over}
use Rattle.cyc_resuming.proofs.resuming.resume.Goals as goal

pub returns-in-Ended-clause-resumes : goal.returns-in-Ended-clause-resumes
returns-in-Ended-clause-resumes g c = λ at stands. rests_over g.S.Store.GROWS (point_of g.S.Store.held c.args.run.now) at c.args.budget _ c.in-Ended.end c.in-Ended.is stands
