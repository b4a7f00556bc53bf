-- The imported lemma proves the law that each word of the text is among the own words of exactly one line.
use Rattle.cyc_asm.proofs.Stretches.{own-parts}
use Rattle.cyc_asm.proofs.laws.words_are_shared_out.Goals as goal

pub returns : goal.returns
returns c = own-parts
