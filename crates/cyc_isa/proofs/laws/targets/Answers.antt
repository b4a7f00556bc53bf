-- Proves the law that branch and jump targets are those computed with integers of any size, modulo 2^32.
use Rattle.cyc_isa.proofs.EffectLemmas.{branch_target-unsigned, jump_target-upper, jump_target-lower}
use Rattle.cyc_isa.proofs.laws.targets.Goals as goal

pub returns-clause-branch : goal.returns-clause-branch
returns-clause-branch c = branch_target-unsigned

pub returns-clause-jump_upper : goal.returns-clause-jump_upper
returns-clause-jump_upper c = jump_target-upper

pub returns-clause-jump_lower : goal.returns-clause-jump_lower
returns-clause-jump_lower c = jump_target-lower
