-- Facts about the first symbols of the yields of expressions.
use Rattle.std.proofs.Common.{◌≡◌, ℕ, ◌≤◌, ◌<◌, Bool, true, false, [], ◌∷◌, ◌++◌, Some, refl, arith, zero-le}
use Rattle.cyc_syntax.specs.declared.tokens.Sign.TheVariants as signs
use Rattle.cyc_syntax.specs.declared.tree.BinaryOperator.{BinaryOperator}
use Rattle.cyc_syntax.specs.declared.tree.BinaryOperator.TheVariants as operators
use Rattle.cyc_syntax.specs.declared.tokens.Keyword.TheVariants as words
use Rattle.cyc_syntax.specs.Symbols as terminals
use Rattle.cyc_syntax.specs.Symbols.{Terminal, Identifier, RegionName, Word, Mark}
use Rattle.cyc_syntax.specs.Trees.{Expression, Number, Character, Variable, Call, LowByteOf, Chained, Prefixed, New, RegionNew, Binary, Assign, Initial, Plain, Fields, Array, Postfixes, NoPostfixes, ThenIndex, ThenField, Operations, NoOperations, ThenOperation}
use Rattle.cyc_syntax.specs.Yields.{Leaf, Yield, expression, initial, postfixes, operations, operator_sign}
use Rattle.cyc_syntax.specs.Grammar.{is_primary, IsExpression, AreOperations}
use Rattle.cyc_parse.specs.inside.Parsing.{sees_terminal}
use Rattle.cyc_parse.specs.inside.Expressions.{begins_by_word, begins_expression, begins_initial}
use Rattle.cyc_parse.proofs.Rules.{Starts, starts_append}
use Rattle.cyc_parse.proofs.Stops.{binds_terminal}
use Rattle.cyc_parse.proofs.OperatorSigns.{prefix_begins, operator_binds}

unfoldable pub expression_starts : (d : ℕ) (e : Expression) → Starts begins_expression d (expression d e)
expression_starts d (Chained e ps) = starts_append (postfixes d 1 ps) (expression_starts d e)
expression_starts d (Prefixed p o e) = record { first = _; others = _; are = refl; begin = prefix_begins o; nesting = refl; item = zero-le }
expression_starts d (Binary e os) = starts_append (operations d 1 os) (expression_starts d e)
expression_starts d (Assign a b) = starts_append _ (expression_starts d a)
expression_starts d e = record { first = _; others = _; are = refl; begin = refl; nesting = refl; item = zero-le }

-- A symbol that may begin an expression may also begin an initial value; an initial value may also begin with a brace.
in_initial : (t : Terminal) → begins_expression t ≡ true → begins_initial t ≡ true
in_initial (Mark signs.LeftBrace) h = refl
in_initial (Mark _) h = h
in_initial _ h = h

pub initial_starts : (d : ℕ) (i : Initial) → Starts begins_initial d (initial d i)
initial_starts d (Plain e) = let s = expression_starts d e in record { first = s.first; others = s.others; are = s.are; begin = in_initial s.first.terminal s.begin; nesting = s.nesting; item = s.item }
initial_starts d (Fields s rs es) = record { first = _; others = _; are = refl; begin = refl; nesting = refl; item = zero-le }
initial_starts d (Array p x n e) = record { first = _; others = _; are = refl; begin = refl; nesting = refl; item = zero-le }

-- ---- the symbols after a name at the start of an expression of a level: none, or symbols that continue it

pub data IsSecond (k : ℕ) : Yield → Type 0 where
  alone : IsSecond k []
  goes_on : (leaf : Leaf) (ys : Yield) → binds_terminal leaf.terminal ≤ k → sees_terminal signs.LeftBrace (Some leaf.terminal) ≡ false → IsSecond k (leaf ∷ ys)

second_append : {k : ℕ} {xs : Yield} (ys : Yield) → IsSecond k xs → IsSecond k ys → IsSecond k (xs ++ ys)
second_append ys alone h = h
second_append ys (goes_on leaf others binds plain) h = goes_on leaf (others ++ ys) binds plain

second_less : {j k : ℕ} {xs : Yield} → j ≤ k → IsSecond j xs → IsSecond k xs
second_less h alone = alone
second_less h (goes_on leaf ys binds plain) = goes_on leaf ys (omega arith) plain

operator_plain : (o : BinaryOperator) → sees_terminal signs.LeftBrace (Some (Mark (operator_sign o))) ≡ false
operator_plain operators.Add = refl
operator_plain o = refl

postfixes_second : (d : ℕ) (ps : Postfixes) (k : ℕ) → IsSecond k (postfixes d 1 ps)
postfixes_second d NoPostfixes k = alone
postfixes_second d (ThenIndex e ps) k = goes_on _ _ (omega arith) refl
postfixes_second d (ThenField x ps) k = goes_on _ _ (omega arith) refl

operations_second : (d : ℕ) (os : Operations) (below k : ℕ) → below < k → AreOperations below os → IsSecond k (operations d 1 os)
operations_second d NoOperations below k h are = alone
operations_second d (ThenOperation o p e os) below k h (is, operand, rest) = goes_on _ _ (omega (arith, operator_binds o)) (operator_plain o)

pub second_goes_on : (k d : ℕ) (e : Expression) (x : ℕ) → IsExpression k e → (expression_starts d e).first.terminal ≡ Identifier x → IsSecond k (expression_starts d e).others
unfolding expression_starts starts_append
second_goes_on k d (Variable y) x is named = alone
second_goes_on k d (Call f es) x is named = goes_on _ _ (omega arith) refl
second_goes_on k d (Chained e ps) x (primary, unary, some, are) named = second_append (postfixes d 1 ps) (second_less (omega arith) (second_goes_on 0 d e x unary named)) (postfixes_second d ps k)
second_goes_on k d (Binary e os) x (below, less, limit, first, some, are) named = second_append (operations d 1 os) (second_less (omega arith) (second_goes_on below d e x first named)) (operations_second d os below k less are)
second_goes_on k d (Assign a b) x (most, left, right) named = second_append _ (second_less (omega arith) (second_goes_on 10 d a x left named)) (goes_on _ _ (omega arith) refl)
second_goes_on k d e x is named = absurd (cc)

-- ---- the symbol after `char` at the start of an expression is a parenthesis

abbrev pub OpensParen : Yield → Type 0
OpensParen [] = ⊥
OpensParen (leaf ∷ ys) = leaf.terminal ≡ Mark signs.LeftParen

pub opens_append : (xs ys : Yield) → OpensParen xs → OpensParen (xs ++ ys)
opens_append [] ys h = absurd h
opens_append (leaf ∷ xs) ys h = h

pub char_opens : (d : ℕ) (e : Expression) → (expression_starts d e).first.terminal ≡ Word words.Char → OpensParen (expression_starts d e).others
unfolding expression_starts starts_append
char_opens d (LowByteOf p e) h = refl
char_opens d (Chained e ps) h = opens_append _ _ (char_opens d e h)
char_opens d (Binary e os) h = opens_append _ _ (char_opens d e h)
char_opens d (Assign a b) h = opens_append _ _ (char_opens d a h)
char_opens d e h = absurd (cc)

-- ---- first symbols of operands

abbrev pub begins_primary : Terminal → Bool
begins_primary (Identifier x) = true
begins_primary (RegionName r) = false
begins_primary (terminals.Number n) = true
begins_primary (terminals.Character c) = true
begins_primary (Word words.New) = false
begins_primary (Word words.RegionNew) = false
begins_primary (Word k) = begins_by_word k
begins_primary (Mark signs.LeftParen) = true
begins_primary (Mark _) = false

pub primary_starts : (d : ℕ) (e : Expression) → is_primary e ≡ true → Starts begins_primary d (expression d e)
primary_starts d (Chained e ps) is = absurd (cc)
primary_starts d (Prefixed p o e) is = absurd (cc)
primary_starts d (New p i) is = absurd (cc)
primary_starts d (RegionNew p h i) is = absurd (cc)
primary_starts d (Binary e os) is = absurd (cc)
primary_starts d (Assign a b) is = absurd (cc)
primary_starts d e is = record { first = _; others = _; are = refl; begin = refl; nesting = refl; item = zero-le }
