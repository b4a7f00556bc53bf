-- Conversions of chars.
use Rattle.cyc_memory_relation.proofs.Chars.{char-converted, char-kept, char-to_int}
use Rattle.cyc_memory_relation.proofs.laws.chars_convert.Goals as goal

pub returns-clause-low : goal.returns-clause-low
returns-clause-low c = λ t v u words others place other is gives same. char-converted t v u words others place other is gives same

pub returns-clause-kept : goal.returns-clause-kept
returns-clause-kept c = λ t v u words others place other is gives same. char-kept t v u words others place other is gives same

pub returns-clause-int : goal.returns-clause-int
returns-clause-int c = λ t v u words others place other is gives same. char-to_int t v u words others place other is gives same
