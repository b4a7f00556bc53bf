-- The type of parsers, functions that read a list of symbols, and the parsers of a single symbol. The parser's code computes the parser
-- functions of this file and of the files that build on it; `proofs/` relates them to the grammar.
use Rattle.std.specs.Prelude.{ℕ, zero, suc, Bool, false, List, [], ◌∷◌, Option, Some, None, is_some, ◌&&◌, Result, Ok, Err, if◌then◌else◌}
use denote.Enum.Bare.{sameb}
use Rattle.cyc_syntax.specs.declared.tokens.Keyword.{Keyword}
use Rattle.cyc_syntax.specs.declared.tokens.Keyword.TheVariants as words
use Rattle.cyc_syntax.specs.declared.tokens.Sign.{Sign}
use Rattle.cyc_syntax.specs.contracts.tokens.Keyword as keyword
use Rattle.cyc_syntax.specs.contracts.tokens.Sign as signs
use Rattle.cyc_syntax.specs.declared.tokens.Sign.TheVariants as marks
use Rattle.cyc_syntax.specs.Symbols.{Place, Terminal, Identifier, RegionName, Number, Character, Word, Mark, Symbol}
use Rattle.cyc_syntax.specs.Trees.{Named}
pub use Rattle.cyc_parse.specs.Faults.{Reason, Unexpected, TooDeep, TooLong, Refusal}
pub use Rattle.cyc_parse.specs.Refusals.{next, starts, region_of_terminal, begins_region}

abbrev pub Outcome : Type 0 → Type 0
Outcome A = Result (A × List Symbol) Refusal

-- The type of parsers: a parser reads some of the symbols, and returns their meaning and the symbols left.
abbrev pub Parser : Type 0 → Type 0
Parser A = List Symbol → Outcome A

abbrev pub and_then : {A B : Type 0} → Outcome A → (A → Parser B) → Outcome B
and_then (Ok p) f = f p.0 p.1
and_then (Err e) f = Err e

-- Runs a parser, and then runs another parser on the symbols that the first leaves unread.
unfoldable pub bind : {A B : Type 0} → Parser A → (A → Parser B) → Parser B
bind p f = λ ts. and_then (p ts) f

infixr 10 ◌>>=◌
abbrev pub ◌>>=◌ : {A B : Type 0} → Parser A → (A → Parser B) → Parser B
p >>= f = bind p f

infixr 10 ◌>>◌
abbrev pub ◌>>◌ : {A B : Type 0} → Parser A → Parser B → Parser B
p >> q = bind p (λ _. q)

abbrev pub pure : {A : Type 0} → A → Parser A
pure a = λ ts. Ok (a, ts)

abbrev pub refuse : {A : Type 0} → Reason → Parser A
refuse why = λ ts. Err (record { reason = why; left = ts })

-- Reads the next symbol, of any kind, and returns its source position.
abbrev pub advance : Parser Place
advance [] = Err (record { reason = Unexpected; left = [] })
advance (t ∷ ts) = Ok (t.place, ts)

-- Chooses a parser by the next symbol, which stays unread.
unfoldable pub choose : {A : Type 0} → (Option Terminal → Parser A) → Parser A
choose f = λ ts. f (next ts) ts

-- ---- one symbol. `room` counts the levels of nesting that are left, including the present one: with none, the symbol is nested too deep.

-- Returns the number of nesting levels that are left inside one more pair of brackets.
abbrev pub inside : ℕ → ℕ
inside zero = zero
inside (suc room) = room

abbrev pub accept : {B : Type 0} → ℕ → B → Symbol → List Symbol → Outcome B
accept zero b t ts = Err (record { reason = TooDeep; left = t ∷ ts })
accept (suc room) b t ts = Ok (b, ts)

abbrev pub accept_if : {A B : Type 0} → ℕ → Option A → (A → Place → B) → Symbol → List Symbol → Outcome B
accept_if room (Some a) give t ts = accept room (give a t.place) t ts
accept_if room None give t ts = Err (record { reason = Unexpected; left = t ∷ ts })

-- Reads a symbol that the test `reads` accepts, and returns a value made of it.
unfoldable pub take : {A B : Type 0} → ℕ → (Terminal → Option A) → (A → Place → B) → Parser B
take room reads give [] = Err (record { reason = Unexpected; left = [] })
take room reads give (t ∷ ts) = accept_if room (reads t.terminal) give t ts

abbrev pub same_keyword : Keyword → Keyword → Bool
same_keyword = sameb keyword.the_type

abbrev pub same_sign : Sign → Sign → Bool
same_sign = sameb signs.the_type

abbrev pub is_word : Keyword → Terminal → Option (Unit {0})
is_word k (Word other) = if same_keyword other k then Some tt else None
is_word k (Identifier x) = None
is_word k (RegionName x) = None
is_word k (Number n) = None
is_word k (Character c) = None
is_word k (Mark s) = None

abbrev pub is_sign : Sign → Terminal → Option (Unit {0})
is_sign s (Mark other) = if same_sign other s then Some tt else None
is_sign s (Identifier x) = None
is_sign s (RegionName x) = None
is_sign s (Number n) = None
is_sign s (Character c) = None
is_sign s (Word k) = None

abbrev pub identifier_name : Terminal → Option ℕ
identifier_name (Identifier x) = Some x
identifier_name (RegionName x) = None
identifier_name (Number n) = None
identifier_name (Character c) = None
identifier_name (Word k) = None
identifier_name (Mark s) = None

abbrev pub named : ℕ → Place → Named
named x p = record { name = x; place = p }

abbrev pub only_place : {A : Type 0} → A → Place → Place
only_place a p = p

-- Reads a given keyword (`word`) and returns its source position; the parser of a sign also returns a source position, and the parser of
-- a name returns the name.
abbrev pub word : ℕ → Keyword → Parser Place
word room k = take room (is_word k) only_place

abbrev pub sign : ℕ → Sign → Parser Place
sign room s = take room (is_sign s) only_place

abbrev pub identifier : ℕ → Parser Named
identifier room = take room identifier_name named

abbrev pub region_name : ℕ → Parser Named
region_name room = take room region_of_terminal named

-- ---- decisions by the next symbol

abbrev pub sees_terminal : Sign → Option Terminal → Bool
sees_terminal s None = false
sees_terminal s (Some t) = is_some (is_sign s t)

-- Returns true if the given sign (punctuation token) comes next.
abbrev pub sees : Sign → List Symbol → Bool
sees s ts = sees_terminal s (next ts)

unfoldable pub if_sees : {A : Type 0} → Sign → Parser A → Parser A → Parser A
if_sees s p q = λ ts. (if sees s ts then p else q) ts

unfoldable pub if_starts : {A : Type 0} → (Terminal → Bool) → Parser A → Parser A → Parser A
if_starts begins p q = λ ts. (if starts begins (next ts) then p else q) ts

abbrev pub on_some : {A B : Type 0} → Option A → (A → Parser B) → Parser B → Parser B
on_some None f q = q
on_some (Some a) f q = f a

-- Continues with the first parser if the next symbol passes the test, otherwise with the second.
unfoldable pub if_is : {A B : Type 0} → (Option Terminal → Option A) → (A → Parser B) → Parser B → Parser B
if_is reads f q = λ ts. on_some (reads (next ts)) f q ts

abbrev pub reason_by : (Terminal → Bool) → Reason → Option Terminal → Reason
reason_by begins why None = Unexpected
reason_by begins why (Some t) = if begins t then why else Unexpected

-- If a list element begins at the next symbol, rejects the symbol for the given reason; a symbol that begins no element is unexpected.
unfoldable pub refuse_item : {A : Type 0} → (Terminal → Bool) → Reason → Parser A
refuse_item begins why = λ ts. refuse (reason_by begins why (next ts)) ts

-- Returns true if `char` and a parenthesis come next, which begin a conversion to a low byte, not a declaration.
abbrev pub opens_low_byte : List Symbol → Bool
opens_low_byte [] = false
opens_low_byte (t ∷ ts) = is_some (is_word words.Char t.terminal) && sees marks.LeftParen ts

-- ---- lists with commas. The number counts the items that may still follow.

-- Ends a list that has the maximal number of elements; one more element is rejected.
abbrev pub no_more_items : {A : Type 0} → ℕ → (Terminal → Bool) → Parser (List A)
no_more_items room begins = if_sees marks.Comma (sign room marks.Comma >> refuse_item begins TooLong) (pure [])

unfoldable pub more_items : {A : Type 0} → ℕ → (Terminal → Bool) → Parser A → ℕ → Parser (List A)
more_items room begins item zero = no_more_items room begins
more_items room begins item (suc left) = if_sees marks.Comma (sign room marks.Comma >> item >>= (λ x. more_items room begins item left >>= (λ xs. pure (x ∷ xs)))) (pure [])

abbrev pub separated : {A : Type 0} → ℕ → (Terminal → Bool) → Parser A → Parser (List A)
separated room begins item = item >>= (λ x. more_items room begins item 63 >>= (λ xs. pure (x ∷ xs)))

-- ---- lists of regions

abbrev pub regions : ℕ → Parser (List Named)
regions room = separated room begins_region (region_name room)

-- Returns true if `<` and a region come next, which is how region arguments begin.
abbrev pub opens_regions : List Symbol → Bool
opens_regions [] = false
opens_regions (t ∷ ts) = is_some (is_sign marks.Less t.terminal) && starts begins_region (next ts)

-- Parses region arguments in angle brackets.
abbrev pub region_list : ℕ → Parser (List Named)
region_list room = sign room marks.Less >> regions room >>= (λ rs. sign room marks.Greater >> pure rs)
