-- The imported lemma proves the law that the MIPS machine's output only grows and that an ended run stays in its state.
use Rattle.cyc_asm.proofs.Running.{world_is_lawful}
use Rattle.cyc_asm.proofs.laws.worlds_are_lawful.Goals as goal

pub returns : goal.returns
returns c = world_is_lawful
