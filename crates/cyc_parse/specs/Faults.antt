-- THE MEANING OF A PARSE FAULT: why the symbols are rejected, and at which symbol. A fault states the reason by a code and the symbol by a
-- source position. (The codes are this project's own choice.)
use Rattle.std.specs.Prelude.{ℕ, List, [], ◌∷◌}
use Rattle.cyc_words.specs.declared.fault.Code.{Code}
use Rattle.cyc_words.specs.declared.fault.Code.TheVariants as codes
use Rattle.cyc_words.specs.declared.fault.Fault.{Fault}
use Rattle.cyc_syntax.specs.TokenRule.{line_after, column_after}
use Rattle.cyc_syntax.specs.Symbols.{Place, Symbol}

-- the reasons for which symbols are rejected
pub data Reason : Type 0 where
  -- No program continues with the rejected symbol, or no program ends at the end of the text.
  Unexpected : Reason
  -- The rejected symbol is nested too deep.
  TooDeep : Reason
  -- The list element that begins at the rejected symbol exceeds the maximal number of elements of its list.
  TooLong : Reason

-- A rejection has a reason and the symbols left; it is located at the first symbol left, or at the end of the text.
pub record Refusal : Type 0 where
  pub reason : Reason
  pub left : List Symbol

-- Returns the fault code of a rejection at the first of the given symbols.
abbrev pub code_of : Reason → List Symbol → Code
code_of Unexpected [] = codes.UnexpectedEnd
code_of Unexpected (t ∷ ts) = codes.UnexpectedToken
code_of TooDeep ts = codes.NestingTooDeep
code_of TooLong ts = codes.ListTooLong

-- Returns the source position of the first of the given symbols, or the end of the text if the list of symbols is empty.
abbrev pub place_at : Place → List Symbol → Place
place_at end [] = end
place_at end (t ∷ ts) = t.place

-- Returns the position just past the last byte of a text.
abbrev pub end_of : List ℕ → Place
end_of text = record { line = line_after text; column = column_after text }

-- Returns the fault for a rejection, in a text that ends at the given position.
abbrev pub fault_of : Place → Refusal → Fault
fault_of end refusal = record {
  code = code_of refusal.reason refusal.left;
  line = (place_at end refusal.left).line;
  column = (place_at end refusal.left).column;
}
