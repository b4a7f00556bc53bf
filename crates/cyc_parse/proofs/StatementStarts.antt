-- Facts about the first symbols of the yields of statements and of block items.
use Rattle.std.proofs.Common.{◌≡◌, ℕ, Bool, true, refl, zero-le}
use Rattle.cyc_syntax.specs.declared.tokens.Keyword.{Keyword}
use Rattle.cyc_syntax.specs.declared.tokens.Keyword.TheVariants as words
use Rattle.cyc_syntax.specs.declared.tokens.Sign.{Sign}
use Rattle.cyc_syntax.specs.declared.tokens.Sign.TheVariants as signs
use Rattle.cyc_syntax.specs.Symbols.{Terminal, Identifier, RegionName, Word, Mark}
use Rattle.cyc_syntax.specs.Symbols as terminals
use Rattle.cyc_syntax.specs.Trees.{Statement, Block, Labelled, Empty, Evaluate, Swap, If, IfElse, While, Return, Break, Continue, Throw, Try, Braces, Item, Execute, Local, Region, Alias, DynamicRegion}
use Rattle.cyc_syntax.specs.Yields.{Yield}
use Rattle.cyc_syntax.specs.Yields as yields
use Rattle.cyc_parse.specs.inside.Types.{begins_type, is_type_word}
use Rattle.cyc_parse.specs.inside.Expressions.{begins_expression, begins_by_word, begins_by_sign}
use Rattle.cyc_parse.specs.inside.Statements.{begins_statement, begins_item, statement_word, statement_sign, item_word}
use Rattle.cyc_parse.proofs.Rules.{Starts, starts_append, leaf_at}
use Rattle.cyc_parse.proofs.Starts.{expression_starts, OpensParen, opens_append, char_opens}
use Rattle.cyc_parse.proofs.TypeReads.{type_starts}

unfoldable pub starts_as : {first second : Terminal → Bool} {d : ℕ} {xs : Yield} → ((t : Terminal) → first t ≡ true → second t ≡ true) → Starts first d xs → Starts second d xs
starts_as weaker s = record { first = s.first; others = s.others; are = s.are; begin = weaker s.first.terminal s.begin; nesting = s.nesting; item = s.item }

word_in_statement : (k : Keyword) → begins_by_word k ≡ true → statement_word k ≡ true
word_in_statement words.If h = refl
word_in_statement words.While h = refl
word_in_statement words.Return h = refl
word_in_statement words.Break h = refl
word_in_statement words.Continue h = refl
word_in_statement words.Throw h = refl
word_in_statement words.Try h = refl
word_in_statement _ h = h

sign_in_statement : (s : Sign) → begins_by_sign s ≡ true → statement_sign s ≡ true
sign_in_statement signs.LeftBrace h = refl
sign_in_statement signs.Semicolon h = refl
sign_in_statement _ h = h

pub in_statement : (t : Terminal) → begins_expression t ≡ true → begins_statement t ≡ true
in_statement (Identifier x) h = refl
in_statement (RegionName r) h = h
in_statement (terminals.Number n) h = refl
in_statement (terminals.Character c) h = refl
in_statement (Word k) h = word_in_statement k h
in_statement (Mark s) h = sign_in_statement s h

statement_in_item : (k : Keyword) → statement_word k ≡ true → item_word k ≡ true
statement_in_item words.Int h = refl
statement_in_item words.Char h = refl
statement_in_item words.Struct h = refl
statement_in_item words.RegionType h = refl
statement_in_item words.KeyType h = refl
statement_in_item words.Region h = refl
statement_in_item words.Let h = refl
statement_in_item _ h = h

pub in_item : (t : Terminal) → begins_statement t ≡ true → begins_item t ≡ true
in_item (Identifier x) h = refl
in_item (RegionName r) h = h
in_item (terminals.Number n) h = refl
in_item (terminals.Character c) h = refl
in_item (Word k) h = statement_in_item k h
in_item (Mark s) h = h

type_in_item : (k : Keyword) → is_type_word k ≡ true → item_word k ≡ true
type_in_item words.Int h = refl
type_in_item words.Char h = refl
type_in_item words.Struct h = refl
type_in_item words.RegionType h = refl
type_in_item words.KeyType h = refl
type_in_item _ h = absurd (cc)

pub local_in_item : (t : Terminal) → begins_type t ≡ true → begins_item t ≡ true
local_in_item (Word k) h = type_in_item k h
local_in_item _ h = absurd (cc)

unfoldable pub statement_starts : (d : ℕ) (s : Statement) → Starts begins_statement d (yields.statement d s)
statement_starts d (Block (Braces p is q)) = record { first = leaf_at d (Mark signs.LeftBrace) p; others = _; are = refl; begin = refl; nesting = refl; item = zero-le }
statement_starts d (Labelled l b) = record { first = _; others = _; are = refl; begin = refl; nesting = refl; item = zero-le }
statement_starts d (Empty p) = record { first = _; others = _; are = refl; begin = refl; nesting = refl; item = zero-le }
statement_starts d (Evaluate e) = starts_append _ (starts_as in_statement (expression_starts d e))
statement_starts d (Swap a b) = starts_append _ (starts_as in_statement (expression_starts d a))
statement_starts d (If p c s) = record { first = _; others = _; are = refl; begin = refl; nesting = refl; item = zero-le }
statement_starts d (IfElse p c s t) = record { first = _; others = _; are = refl; begin = refl; nesting = refl; item = zero-le }
statement_starts d (While p c s) = record { first = _; others = _; are = refl; begin = refl; nesting = refl; item = zero-le }
statement_starts d (Return p v) = record { first = _; others = _; are = refl; begin = refl; nesting = refl; item = zero-le }
statement_starts d (Break p) = record { first = _; others = _; are = refl; begin = refl; nesting = refl; item = zero-le }
statement_starts d (Continue p) = record { first = _; others = _; are = refl; begin = refl; nesting = refl; item = zero-le }
statement_starts d (Throw p x v) = record { first = _; others = _; are = refl; begin = refl; nesting = refl; item = zero-le }
statement_starts d (Try p s cs) = record { first = _; others = _; are = refl; begin = refl; nesting = refl; item = zero-le }

-- If a statement's yield begins with `char`, then a parenthesis follows the `char`.
pub statement_char_opens : (d : ℕ) (s : Statement) → (statement_starts d s).first.terminal ≡ Word words.Char → OpensParen (statement_starts d s).others
unfolding statement_starts starts_as starts_append
statement_char_opens d (Block (Braces p is q)) h = absurd (cc)
statement_char_opens d (Labelled l b) h = absurd (cc)
statement_char_opens d (Empty p) h = absurd (cc)
statement_char_opens d (Evaluate e) h = opens_append _ _ (char_opens d e h)
statement_char_opens d (Swap a b) h = opens_append _ _ (char_opens d a h)
statement_char_opens d (If p c s) h = absurd (cc)
statement_char_opens d (IfElse p c s t) h = absurd (cc)
statement_char_opens d (While p c s) h = absurd (cc)
statement_char_opens d (Return p v) h = absurd (cc)
statement_char_opens d (Break p) h = absurd (cc)
statement_char_opens d (Continue p) h = absurd (cc)
statement_char_opens d (Throw p x v) h = absurd (cc)
statement_char_opens d (Try p s cs) h = absurd (cc)

pub item_starts : (d : ℕ) (i : Item) → Starts begins_item d (yields.item d i)
item_starts d (Execute s) = starts_as in_item (statement_starts d s)
item_starts d (Local t x v) = starts_append _ (starts_as local_in_item (type_starts d t))
item_starts d (Region r h k) = record { first = _; others = _; are = refl; begin = refl; nesting = refl; item = zero-le }
item_starts d (Alias r t x y) = record { first = _; others = _; are = refl; begin = refl; nesting = refl; item = zero-le }
item_starts d (DynamicRegion r k) = record { first = _; others = _; are = refl; begin = refl; nesting = refl; item = zero-le }
