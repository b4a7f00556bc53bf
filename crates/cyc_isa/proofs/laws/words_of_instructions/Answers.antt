-- Each law about instructions and their words is proved by an imported lemma.
use Rattle.cyc_isa.proofs.Listed.{word_of-fits, IsInstance-word_of}
use Rattle.cyc_isa.proofs.RoundTrip.{fields-word_of, decode_of-word_of, word_of-injective}
use Rattle.cyc_isa.proofs.laws.words_of_instructions.Goals as goal

pub returns-clause-is_word : goal.returns-clause-is_word
returns-clause-is_word c = word_of-fits

pub returns-clause-fields : goal.returns-clause-fields
returns-clause-fields c = fields-word_of

pub returns-clause-instance : goal.returns-clause-instance
returns-clause-instance c = IsInstance-word_of

pub returns-clause-decodes : goal.returns-clause-decodes
returns-clause-decodes c = decode_of-word_of

pub returns-clause-distinct : goal.returns-clause-distinct
returns-clause-distinct c = word_of-injective
