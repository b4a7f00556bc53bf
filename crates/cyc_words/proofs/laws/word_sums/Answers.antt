-- This file proves the law that sums, differences and products of words wrap.
use Rattle.cyc_words.proofs.WordLemmas.{add_of-signed, sub_of-signed, mul_of-signed}
use Rattle.cyc_words.proofs.laws.word_sums.Goals as goal

pub returns-clause-sum : goal.returns-clause-sum
returns-clause-sum c = add_of-signed

pub returns-clause-difference : goal.returns-clause-difference
returns-clause-difference c = sub_of-signed

pub returns-clause-product : goal.returns-clause-product
returns-clause-product c = mul_of-signed
