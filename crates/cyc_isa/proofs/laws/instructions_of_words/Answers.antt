-- Each law about words and their instructions is proved by an imported lemma.
use Rattle.cyc_isa.proofs.Sound.{IsSome-decode_of, word_of-decoded, IsEncodable-decoded}
use Rattle.cyc_isa.proofs.laws.instructions_of_words.Goals as goal

pub returns-clause-instruction : goal.returns-clause-instruction
returns-clause-instruction c = IsSome-decode_of

pub returns-clause-encodes : goal.returns-clause-encodes
returns-clause-encodes c = word_of-decoded

pub returns-clause-fits : goal.returns-clause-fits
returns-clause-fits c = IsEncodable-decoded
