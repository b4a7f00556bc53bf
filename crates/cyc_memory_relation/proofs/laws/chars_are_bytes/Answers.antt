-- This file proves the law about chars in cells and in variables.
use Rattle.std.proofs.Common.{◌+◌, ◌%◌, ap, ◌∙◌}
use Rattle.cyc_words.specs.Bytes.{byte_in}
use Rattle.cyc_words.proofs.Numbers.{last_byte_of_word}
use Rattle.cyc_memory_relation.proofs.Chars.{char-loaded, char-stored, last-word, last-loaded, last-stored}
use Rattle.cyc_memory_relation.proofs.laws.chars_are_bytes.Goals as goal

pub returns-clause-loaded : goal.returns-clause-loaded
returns-clause-loaded c = λ t v m address holds. char-loaded t v m address holds

pub returns-clause-stored : goal.returns-clause-stored
returns-clause-stored c = λ t v words place m address is. char-stored t v words place m address is

pub returns-clause-last_loaded : goal.returns-clause-last_loaded
returns-clause-last_loaded c = λ m address even small.
    ap (λ x. byte_in (m x) ((address + 3) % 4)) (last-word address even) ∙ (ap (byte_in (m address)) (last_byte_of_word address even) ∙ last-loaded (m address) small)

pub returns-clause-last_stored : goal.returns-clause-last_stored
returns-clause-last_stored c = λ old byte small. last-stored old byte small
