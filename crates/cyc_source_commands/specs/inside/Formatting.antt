-- The program's answer to the command that formats a source text.
use Rattle.std.specs.Prelude.{◌≡◌, ◌⊎◌, ℕ, Bool, List, Option, Result, Ok, Err}
use Rattle.std.specs.Io.KnownBytes.{Appends, Keeps}
use Rattle.cyc_words.specs.Device.{AppendsPrefix}
use Rattle.cyc_words.specs.declared.fault.Fault.{Fault}
use Rattle.cyc_words.specs.Fault.{memory_fault}
use Rattle.cyc_syntax.specs.Tokens.{Token}
use Rattle.cyc_lex.specs.Refusals.{IsAccepted, IsRefused}
use Rattle.cyc_format.specs.Formatted.{HasSameTokens}
use Rattle.cyc_host.specs.inside.Console.{EndsAs}
use Rattle.cyc_host.specs.declared.answer.Answer.{Answer}
use Rattle.cyc_host.specs.declared.answer.Answer.TheVariants.{Done, WriteFault}

-- Says that two texts have the same tokens, except for the positions of the tokens.
abbrev pub IsLaidOut : (text laid : List ℕ) → Type 0
IsLaidOut text laid = (tokens : List Token) × IsAccepted text tokens × HasSameTokens tokens laid

-- Says that the formatted text was written to the device completely, or a prefix of the text if the device failed. A text that the lexer
-- rejects is answered by its fault, unless memory ran out. If the lexer rejects the text or memory runs out, no byte is written.
abbrev pub AnswersFormat : (text : List ℕ) → (old new : Option (List ℕ)) → Result Answer Fault → Type 0
AnswersFormat text old new (Ok answer) =
    (laid : List ℕ) × IsLaidOut text laid × (((answer ≡ Done) × Appends old new laid) ⊎ ((answer ≡ WriteFault) × AppendsPrefix old new laid))
AnswersFormat text old new (Err fault) = ((fault ≡ memory_fault) ⊎ IsRefused text fault) × Keeps old new

-- The final answer to the command that formats a text. Flushing the device does not change the bytes that count as written.
-- `held` are the bytes in the buffer; `stuck` is true if some bytes could not be flushed when they had to be.
abbrev pub EndsFormat : (text : List ℕ) → (old new : Option (List ℕ)) (held : List ℕ) (stuck : Bool) → (last : Result Answer Fault) → Type 0
EndsFormat text old new held stuck (Ok last) =
    (answer : Answer) × (written : Option (List ℕ)) × AnswersFormat text old written (Ok answer) × Keeps written new × EndsAs answer held stuck last
EndsFormat text old new held stuck (Err fault) = AnswersFormat text old new (Err fault)
