-- A 32-bit word is determined by its bits. A 32-bit word is determined by its two 16-bit halves as well.
use Rattle.cyc_words.proofs.WordLemmas.{same_bits, sign_bit, bit_or-halves, signed-sign_extended, sign_extended-low_half}
use Rattle.cyc_words.proofs.laws.word_parts.Goals as goal

pub returns-clause-bits : goal.returns-clause-bits
returns-clause-bits c = same_bits

pub returns-clause-sign : goal.returns-clause-sign
returns-clause-sign c = sign_bit

pub returns-clause-halves : goal.returns-clause-halves
returns-clause-halves c = bit_or-halves

pub returns-clause-extended : goal.returns-clause-extended
returns-clause-extended c = signed-sign_extended

pub returns-clause-low_half : goal.returns-clause-low_half
returns-clause-low_half c = sign_extended-low_half
