-- This file proves the law that a word and its bytes determine each other.
use Rattle.cyc_words.proofs.BytesLemmas.{word_of_bytes-bytes_of_word, bytes_of_word-word_of_bytes}
use Rattle.cyc_words.proofs.laws.word_bytes.Goals as goal

pub returns-clause-word : goal.returns-clause-word
returns-clause-word c = word_of_bytes-bytes_of_word

pub returns-clause-bytes : goal.returns-clause-bytes
returns-clause-bytes c = bytes_of_word-word_of_bytes
