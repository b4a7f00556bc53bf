-- The imported lemma proves the law that assembled words run as the labelled code does.
use Rattle.cyc_asm.proofs.Arranging.{runs}
use Rattle.cyc_asm.proofs.laws.texts_run.Goals as goal

pub returns : goal.returns
returns c = runs
