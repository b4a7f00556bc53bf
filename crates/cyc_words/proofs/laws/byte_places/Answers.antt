-- The law about reading and writing a byte of a word follows from the lemmas on bytes by position.
use Rattle.std.proofs.Common.{refl}
use Rattle.cyc_words.proofs.WordBytesLemmas.{byte-same, byte-other, with_byte-word}
use Rattle.cyc_words.proofs.laws.byte_places.Goals as goal

pub returns-clause-listed : goal.returns-clause-listed
returns-clause-listed c = λ w. refl

pub returns-clause-here : goal.returns-clause-here
returns-clause-here c = byte-same

pub returns-clause-there : goal.returns-clause-there
returns-clause-there c = byte-other

pub returns-clause-word : goal.returns-clause-word
returns-clause-word c = with_byte-word
