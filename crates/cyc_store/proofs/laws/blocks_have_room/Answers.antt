-- This file proves the law about the sizes of blocks: a unique block has the size of its class, and
-- any other block exactly the requested size.
use Rattle.std.proofs.Common.{◌^◌, refl}
use Rattle.cyc_words.specs.Demand.{class_of}
use Rattle.cyc_words.proofs.Numbers.{when_equal}
use Rattle.cyc_store.specs.declared.range.TheConstants.{UNIQUE}
use Rattle.cyc_store.proofs.LookupLemmas.{when_other}
use Rattle.cyc_store.proofs.CountLemmas.{class_of-holds}
use Rattle.cyc_store.proofs.laws.blocks_have_room.Goals as goal

pub returns-clause-unique : goal.returns-clause-unique
returns-clause-unique c = λ words. when_equal UNIQUE UNIQUE (2 ^ class_of words) words refl

pub returns-clause-enough : goal.returns-clause-enough
returns-clause-enough c = class_of-holds

pub returns-clause-asked : goal.returns-clause-asked
returns-clause-asked c = λ handle words other. when_other handle UNIQUE (2 ^ class_of words) words other
