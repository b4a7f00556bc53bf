use Rattle.cyc_store.proofs.MadeLemmas.{saves}
use Rattle.cyc_store.proofs.runs.write.Goals as goal

pub returns : goal.returns
returns g c = saves g.S.Store.GROWS c.args.address c.args.word c.save-done.result _ _ c.ranges.word.fits c.save-done.ensures.done c.save-done.ensures.saved
