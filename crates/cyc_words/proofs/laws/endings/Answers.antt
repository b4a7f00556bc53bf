-- Two endings of runs that are related by `Alike` are equal.
use Rattle.cyc_words.proofs.EndingLemmas.{same_when_alike, alike_when_same}
use Rattle.cyc_words.proofs.laws.endings.Goals as goal

pub returns : goal.returns
returns c = λ e f. (same_when_alike e f, alike_when_same e f)
