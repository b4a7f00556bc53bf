-- The imported lemma proves the law that the assembler's order contains each line once.
use Rattle.cyc_asm.proofs.Arranging.{permutes}
use Rattle.cyc_asm.proofs.laws.orders_have_each_line.Goals as goal

pub returns : goal.returns
returns c = permutes
