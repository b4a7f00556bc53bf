-- Each symbol that may begin a type, an expression, a statement or a block item does begin the yield of one. This file constructs examples.
use Rattle.std.proofs.Common.{◌≡◌, ℕ, suc, ◌≤◌, true, false, List, [], ◌∷◌, ◌++◌, Option, Some, None, is_some, refl, sym, arith, true≢false}
use Rattle.cyc_syntax.specs.declared.tokens.Keyword.{Keyword}
use Rattle.cyc_syntax.specs.declared.tokens.Keyword.TheVariants as words
use Rattle.cyc_syntax.specs.declared.tokens.Sign.{Sign}
use Rattle.cyc_syntax.specs.declared.tokens.Sign.TheVariants as signs
use Rattle.cyc_syntax.specs.declared.tree.PrefixOperator.{PrefixOperator}
use Rattle.cyc_syntax.specs.Symbols.{Place, Terminal, Identifier, RegionName, Word, Mark, Symbol}
use Rattle.cyc_syntax.specs.Symbols as terminals
use Rattle.cyc_syntax.specs.Trees.{Named, Int, Char, Struct, Handle, Key, Expression, Number, Character, Null, HeapRegion, UniqueRegion, Variable, Bracketed, NumberOfElements, LowByteOf, FreeUnique, FreeKey, Prefixed, New}
use Rattle.cyc_syntax.specs.Trees.{RegionNew, Binary, Assign, Plain, Array, Statement, Block, Empty, Evaluate, If, While, Return, Break, Continue, Throw, Try, Braces, NoItems, MoreItems, Execute, Local, Region, Alias, Default}
use Rattle.cyc_syntax.specs.Yields.{Yield, prefix_sign}
use Rattle.cyc_syntax.specs.Yields as yields
use Rattle.cyc_syntax.specs.Grammar.{IsExpression, IsInitial, wants_else, IsStatement, AreItems, IsItem}
use Rattle.cyc_parse.specs.inside.Parsing.{next, starts, begins_region, is_sign}
use Rattle.cyc_parse.specs.inside.Types.{begins_type}
use Rattle.cyc_parse.specs.inside.Expressions.{begins_expression, begins_initial, prefix_operator}
use Rattle.cyc_parse.specs.inside.Statements.{statement_word, statement_sign, begins_statement, item_word, begins_item, is_else}
use Rattle.cyc_parse.specs.inside.Declarations.{begins_constructor}
use Rattle.cyc_parse.proofs.Rules.{leaf_of}
use Rattle.cyc_parse.proofs.OperatorSigns.{is_prefix_sign}
use Rattle.cyc_parse.proofs.Gives.{Spells, Any, Opened, possibly, opened_at, opened_item, opened_then}

-- A name and a number serve as examples of operands.
abbrev pub named_at : Place → Named
named_at p = record { name = 0; place = p }

abbrev pub zero_at : Place → Expression
zero_at p = Number p 0

-- ---- regions and types

pub region_opened : (d : ℕ) (u : Terminal) (p : Place) → begins_region u ≡ true → Opened (Spells (yields.region_name d) Any) u p
region_opened d (RegionName r) p h = opened_at d (RegionName r) p (record { name = r; place = p }) _ (refl, tt)
region_opened d (Identifier x) p h = absurd (true≢false (sym h))
region_opened d (terminals.Number n) p h = absurd (true≢false (sym h))
region_opened d (terminals.Character c) p h = absurd (true≢false (sym h))
region_opened d (Word k) p h = absurd (true≢false (sym h))
region_opened d (Mark s) p h = absurd (true≢false (sym h))

pub constraint_opened : (d : ℕ) (u : Terminal) (p : Place) → begins_region u ≡ true → Opened (Spells (yields.constraint d) Any) u p
constraint_opened d u p h = opened_then (region_opened d u p h) (λ r _. possibly (record { longer = r; shorter = named_at p }) _ (refl, tt))

pub type_opened : (d : ℕ) (u : Terminal) (p : Place) → begins_type u ≡ true → Opened (Spells (yields.written_type d) Any) u p
type_opened d (Word words.Int) p h = opened_at d (Word words.Int) p (record { place = p; base = Int; marks = [] }) _ (refl, tt)
type_opened d (Word words.Char) p h = opened_at d (Word words.Char) p (record { place = p; base = Char; marks = [] }) _ (refl, tt)
type_opened d (Word words.Struct) p h = opened_at d (Word words.Struct) p (record { place = p; base = Struct (named_at p) []; marks = [] }) _ (refl, tt)
type_opened d (Word words.RegionType) p h = opened_at d (Word words.RegionType) p (record { place = p; base = Handle (named_at p); marks = [] }) _ (refl, tt)
type_opened d (Word words.KeyType) p h = opened_at d (Word words.KeyType) p (record { place = p; base = Key (named_at p); marks = [] }) _ (refl, tt)
type_opened d (Word _) p h = absurd (true≢false (sym h))
type_opened d _ p h = absurd (true≢false (sym h))

pub member_opened : (d : ℕ) (u : Terminal) (p : Place) → begins_type u ≡ true → Opened (Spells (yields.member d) Any) u p
member_opened d u p h = opened_then (type_opened d u p h) (λ t _. possibly (record { of_type = t; name = named_at p }) _ (refl, tt))

pub field_opened : (d : ℕ) (u : Terminal) (p : Place) → begins_type u ≡ true → Opened (Spells (yields.field d) Any) u p
field_opened d u p h = opened_then (member_opened d u p h) (λ m _. possibly m _ (refl, tt))

pub constructor_opened : (d : ℕ) (u : Terminal) (p : Place) → begins_constructor u ≡ true → Opened (Spells (yields.constructor d) Any) u p
constructor_opened d (Identifier x) p h = opened_at d (Identifier x) p (record { name = record { name = x; place = p }; has_int = false }) _ (refl, tt)
constructor_opened d (RegionName r) p h = absurd (true≢false (sym h))
constructor_opened d (terminals.Number n) p h = absurd (true≢false (sym h))
constructor_opened d (terminals.Character c) p h = absurd (true≢false (sym h))
constructor_opened d (Word k) p h = absurd (true≢false (sym h))
constructor_opened d (Mark s) p h = absurd (true≢false (sym h))

-- ---- expressions

prefixed_opened : (d : ℕ) (s : Sign) (p : Place) → is_some (prefix_operator s) ≡ true → Opened (Spells (yields.expression d) (λ e _. IsExpression 0 e)) (Mark s) p
prefixed_opened d s p h = go (prefix_operator s) refl h
  where
    go : (o : Option PrefixOperator) → prefix_operator s ≡ o → is_some o ≡ true → Opened (Spells (yields.expression d) (λ e _. IsExpression 0 e)) (Mark s) p
    go None is h = absurd (true≢false (sym h))
    go (Some o) is h = rw (is_prefix_sign s o is) (opened_at d (Mark (prefix_sign o)) p (Prefixed p o (zero_at p)) _ (refl, tt))

pub expression_opened : (d : ℕ) (u : Terminal) (p : Place) → begins_expression u ≡ true → Opened (Spells (yields.expression d) (λ e _. IsExpression 0 e)) u p
expression_opened d (Identifier x) p h = opened_at d (Identifier x) p (Variable (record { name = x; place = p })) _ (refl, tt)
expression_opened d (RegionName r) p h = absurd (true≢false (sym h))
expression_opened d (terminals.Number n) p h = opened_at d (terminals.Number n) p (Number p n) _ (refl, tt)
expression_opened d (terminals.Character c) p h = opened_at d (terminals.Character c) p (Character p c) _ (refl, tt)
expression_opened d (Word words.Null) p h = opened_at d (Word words.Null) p (Null p) _ (refl, tt)
expression_opened d (Word words.HeapRegion) p h = opened_at d (Word words.HeapRegion) p (HeapRegion p) _ (refl, tt)
expression_opened d (Word words.UniqueRegion) p h = opened_at d (Word words.UniqueRegion) p (UniqueRegion p) _ (refl, tt)
expression_opened d (Word words.NumberOfElements) p h = opened_at d (Word words.NumberOfElements) p (NumberOfElements p (zero_at p)) _ (refl, tt)
expression_opened d (Word words.Char) p h = opened_at d (Word words.Char) p (LowByteOf p (zero_at p)) _ (refl, tt)
expression_opened d (Word words.FreeUnique) p h = opened_at d (Word words.FreeUnique) p (FreeUnique p (zero_at p)) _ (refl, tt)
expression_opened d (Word words.FreeKey) p h = opened_at d (Word words.FreeKey) p (FreeKey p (named_at p)) _ (refl, tt)
expression_opened d (Word words.New) p h = opened_at d (Word words.New) p (New p (Plain (zero_at p))) _ (refl, tt)
expression_opened d (Word words.RegionNew) p h = opened_at d (Word words.RegionNew) p (RegionNew p (zero_at p) (Plain (zero_at p))) _ (refl, (tt, tt))
expression_opened d (Word _) p h = absurd (true≢false (sym h))
expression_opened d (Mark signs.LeftParen) p h = opened_at d (Mark signs.LeftParen) p (Bracketed p (zero_at p)) _ (refl, tt)
expression_opened d (Mark s) p h = prefixed_opened d s p h

abbrev pub group_yield : ℕ → Expression → Yield
group_yield d e = leaf_of d (Mark signs.LeftParen) ∷ (yields.expression (suc d) e ++ leaf_of (suc d) (Mark signs.RightParen) ∷ [])

pub group_opened : (d : ℕ) (u : Terminal) (p : Place) → is_some (is_sign signs.LeftParen u) ≡ true → Opened (Spells (group_yield d) (λ e _. IsExpression 11 e)) u p
group_opened d (Mark signs.LeftParen) p h = opened_item d 0 (Mark signs.LeftParen) p (zero_at p) _ (refl, tt)
group_opened d (Mark _) p h = absurd (true≢false (sym h))
group_opened d (Identifier x) p h = absurd (true≢false (sym h))
group_opened d (RegionName r) p h = absurd (true≢false (sym h))
group_opened d (terminals.Number n) p h = absurd (true≢false (sym h))
group_opened d (terminals.Character c) p h = absurd (true≢false (sym h))
group_opened d (Word k) p h = absurd (true≢false (sym h))

as_plain : {d : ℕ} {u : Terminal} {p : Place} → Opened (Spells (yields.expression d) (λ e _. IsExpression 0 e)) u p → Opened (Spells (yields.initial d) (λ i _. IsInitial i)) u p
as_plain o = record { value = Plain o.value; leaf = o.leaf; following = o.following; terminal = o.terminal; place = o.place; post = o.post }

pub initial_opened : (d : ℕ) (u : Terminal) (p : Place) → begins_initial u ≡ true → Opened (Spells (yields.initial d) (λ i _. IsInitial i)) u p
initial_opened d (Mark signs.LeftBrace) p h = opened_item d 0 (Mark signs.LeftBrace) p (Array p (named_at p) (zero_at p) (zero_at p)) _ (refl, (tt, tt))
initial_opened d (Mark s) p h = as_plain (expression_opened d (Mark s) p h)
initial_opened d (Identifier x) p h = as_plain (expression_opened d (Identifier x) p refl)
initial_opened d (RegionName r) p h = absurd (true≢false (sym h))
initial_opened d (terminals.Number n) p h = as_plain (expression_opened d (terminals.Number n) p refl)
initial_opened d (terminals.Character c) p h = as_plain (expression_opened d (terminals.Character c) p refl)
initial_opened d (Word k) p h = as_plain (expression_opened d (Word k) p h)

-- ---- statements

-- Says that a statement may precede the given symbols: if the statement ends in an `if` without `else`, no `else` follows.
abbrev pub IsStatementBefore : Statement → List Symbol → Type 0
IsStatementBefore s rest = IsStatement s × (wants_else s ≡ true → starts is_else (next rest) ≡ false)

abbrev OpenedStatement : ℕ → Terminal → Place → Type 0
OpenedStatement d u p = Opened (Spells (yields.statement d) IsStatementBefore) u p

pub looser : (j k : ℕ) → j ≤ k → (e : Expression) → IsExpression j e → IsExpression k e
looser j k le (Binary e os) (below, less, few, parts, some, are) = (below, omega (arith, less, le), few, parts, some, are)
looser j k le (Assign a b) (high, left, right) = (omega (arith, high, le), left, right)
looser j k le e is = is

evaluated : {d : ℕ} {u : Terminal} {p : Place} → Opened (Spells (yields.expression d) (λ e _. IsExpression 0 e)) u p → OpenedStatement d u p
evaluated o = opened_then o (λ e is. possibly (Evaluate e) _ (refl, (looser 0 11 (omega arith) e is, (λ _. refl))))

statement_word_opened : (d : ℕ) (k : Keyword) (p : Place) → statement_word k ≡ true → OpenedStatement d (Word k) p
statement_word_opened d words.If p h = opened_at d (Word words.If) p (If p (zero_at p) (Empty p)) _ (refl, ((tt, tt), (λ _. refl)))
statement_word_opened d words.While p h = opened_at d (Word words.While) p (While p (zero_at p) (Empty p)) _ (refl, ((tt, tt), (λ _. refl)))
statement_word_opened d words.Return p h = opened_at d (Word words.Return) p (Return p None) _ (refl, (tt, (λ _. refl)))
statement_word_opened d words.Break p h = opened_at d (Word words.Break) p (Break p) _ (refl, (tt, (λ _. refl)))
statement_word_opened d words.Continue p h = opened_at d (Word words.Continue) p (Continue p) _ (refl, (tt, (λ _. refl)))
statement_word_opened d words.Throw p h = opened_at d (Word words.Throw) p (Throw p (named_at p) None) _ (refl, (tt, (λ _. refl)))
statement_word_opened d words.Try p h = opened_at d (Word words.Try) p (Try p (Empty p) (Default NoItems)) _ (refl, ((tt, tt, tt), (λ _. refl)))
statement_word_opened d k p h = evaluated (expression_opened d (Word k) p h)

statement_sign_opened : (d : ℕ) (s : Sign) (p : Place) → statement_sign s ≡ true → OpenedStatement d (Mark s) p
statement_sign_opened d signs.LeftBrace p h = opened_at d (Mark signs.LeftBrace) p (Block (Braces p NoItems p)) _ (refl, (tt, (λ _. refl)))
statement_sign_opened d signs.Semicolon p h = opened_at d (Mark signs.Semicolon) p (Empty p) _ (refl, (tt, (λ _. refl)))
statement_sign_opened d s p h = evaluated (expression_opened d (Mark s) p h)

pub statement_opened : (d : ℕ) (u : Terminal) (p : Place) → begins_statement u ≡ true → OpenedStatement d u p
statement_opened d (Identifier x) p h = evaluated (expression_opened d (Identifier x) p refl)
statement_opened d (RegionName r) p h = absurd (true≢false (sym h))
statement_opened d (terminals.Number n) p h = evaluated (expression_opened d (terminals.Number n) p refl)
statement_opened d (terminals.Character c) p h = evaluated (expression_opened d (terminals.Character c) p refl)
statement_opened d (Word k) p h = statement_word_opened d k p h
statement_opened d (Mark s) p h = statement_sign_opened d s p h

-- ---- items

abbrev OpenedItem : ℕ → Terminal → Place → Type 0
OpenedItem d u p = Opened (Spells (yields.item d) (λ i _. IsItem i)) u p

declared : {d : ℕ} {u : Terminal} {p : Place} → Opened (Spells (yields.written_type d) Any) u p → OpenedItem d u p
declared {p = p} o = opened_then o (λ t _. possibly (Local t (named_at p) None) _ (refl, tt))

executed : {d : ℕ} {u : Terminal} {p : Place} → OpenedStatement d u p → OpenedItem d u p
executed o = record { value = Execute o.value; leaf = o.leaf; following = o.following; terminal = o.terminal; place = o.place; post = (o.post.0, o.post.1.0) }

item_word_opened : (d : ℕ) (k : Keyword) (p : Place) → item_word k ≡ true → OpenedItem d (Word k) p
item_word_opened d words.Int p h = declared (type_opened d (Word words.Int) p refl)
item_word_opened d words.Char p h = declared (type_opened d (Word words.Char) p refl)
item_word_opened d words.Struct p h = declared (type_opened d (Word words.Struct) p refl)
item_word_opened d words.RegionType p h = declared (type_opened d (Word words.RegionType) p refl)
item_word_opened d words.KeyType p h = declared (type_opened d (Word words.KeyType) p refl)
item_word_opened d words.Region p h = opened_item d 0 (Word words.Region) p (Region (named_at p) (named_at p) None) _ (refl, tt)
item_word_opened d words.Let p h = opened_item d 0 (Word words.Let) p (Alias (named_at p) (record { place = p; base = Int; marks = [] }) (named_at p) (named_at p)) _ (refl, tt)
item_word_opened d k p h = executed (statement_word_opened d k p h)

item_opened : (d : ℕ) (u : Terminal) (p : Place) → begins_item u ≡ true → OpenedItem d u p
item_opened d (Identifier x) p h = executed (statement_opened d (Identifier x) p refl)
item_opened d (RegionName r) p h = absurd (true≢false (sym h))
item_opened d (terminals.Number n) p h = executed (statement_opened d (terminals.Number n) p refl)
item_opened d (terminals.Character c) p h = executed (statement_opened d (terminals.Character c) p refl)
item_opened d (Word k) p h = item_word_opened d k p h
item_opened d (Mark s) p h = executed (statement_sign_opened d s p h)

pub items_opened : (d : ℕ) (u : Terminal) (p : Place) → begins_item u ≡ true → Opened (Spells (yields.items d) (λ is _. AreItems is)) u p
items_opened d u p h = opened_then (item_opened d u p h) (λ i is. possibly (MoreItems i NoItems) _ (refl, (is, tt)))
