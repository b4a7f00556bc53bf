-- This file proves the law about quotients, remainders and arithmetic shifts.
use Rattle.cyc_words.proofs.WordLemmas.{divided, signed-div_of, signed-rem_of, least_by_minus_one, signed-sar_of}
use Rattle.cyc_words.proofs.laws.word_quotients.Goals as goal

pub returns-clause-dividend : goal.returns-clause-dividend
returns-clause-dividend c = divided

pub returns-clause-quotient : goal.returns-clause-quotient
returns-clause-quotient c = signed-div_of

pub returns-clause-remainder : goal.returns-clause-remainder
returns-clause-remainder c = signed-rem_of

pub returns-clause-wraps : goal.returns-clause-wraps
returns-clause-wraps c = least_by_minus_one

pub returns-clause-shift : goal.returns-clause-shift
returns-clause-shift c = signed-sar_of
