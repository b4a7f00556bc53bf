-- This file proves the law that the prefix relation is a partial order.
use Rattle.cyc_words.proofs.PrefixLemmas.{IsPrefix-refl, IsPrefix-trans, IsPrefix-antisym}
use Rattle.cyc_words.proofs.laws.prefixes.Goals as goal

pub returns-clause-reflexive : goal.returns-clause-reflexive
returns-clause-reflexive c = IsPrefix-refl

pub returns-clause-transitive : goal.returns-clause-transitive
returns-clause-transitive c = IsPrefix-trans

pub returns-clause-antisymmetric : goal.returns-clause-antisymmetric
returns-clause-antisymmetric c = IsPrefix-antisym
