-- This file proves the law that live blocks are disjoint.
use Rattle.cyc_store.proofs.ServiceLemmas.{one_block, word-live}
use Rattle.cyc_store.proofs.laws.blocks_stand_apart.Goals as goal

pub returns-clause-placed : goal.returns-clause-placed
returns-clause-placed c = λ s sound. sound.regions.placed

pub returns-clause-one : goal.returns-clause-one
returns-clause-one c = one_block

pub returns-clause-words : goal.returns-clause-words
returns-clause-words c = word-live
