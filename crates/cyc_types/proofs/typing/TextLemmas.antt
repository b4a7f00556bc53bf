-- The typed program of a source text satisfies the requirements on programs from source texts (`specs/Texts`), and its constants
-- are 32-bit words. By the typing rules, a typed program satisfies the requirements of `specs/Texts` if its syntax tree satisfies
-- the grammar and the limits.
use Rattle.std.proofs.Common.{◌≡◌, ℕ, zero, suc, ◌+◌, ◌≤◌, ◌<◌, Bool, true, false, not, nat_eq, ◌&&◌, ◌||◌, cond, List, [], ◌∷◌, ◌++◌, map, Option, Some, None, length, slice_get, refl, sym, ap, subst, ◌∙◌, arith, length-append}
use Rattle.std.specs.Prelude.{◌^◌, unwrap_or, if◌then◌else◌}
use Rattle.std.specs.List.{AllByRecursion}
use Rattle.std.proofs.lemmas.Bool.{eqb-true}
use Rattle.std.proofs.lemmas.List.{length-map}
use Rattle.cyc_words.specs.Word.{IsWord}
use Rattle.cyc_syntax.specs.declared.tokens.Sign.TheVariants as signs
use Rattle.cyc_syntax.specs.declared.tree.PrefixOperator.TheVariants as prefixes
use Rattle.cyc_syntax.specs.declared.tree.BinaryOperator.{BinaryOperator}
use Rattle.cyc_syntax.specs.declared.tree.BinaryOperator.TheVariants as operators
use Rattle.cyc_syntax.specs.Symbols.{Place, Symbol}
use Rattle.cyc_syntax.specs.Trees.{Named, WrittenType, Expression, Number, Character, Null, HeapRegion, UniqueRegion, Variable, Call, Bracketed, NumberOfElements, LowByteOf, FreeUnique, FreeKey, Chained, Prefixed, New, RegionNew, Binary, Assign, Initial, Plain}
use Rattle.cyc_syntax.specs.Trees.{Fields, Array, Expressions, NoExpressions, MoreExpressions, Postfixes, NoPostfixes, ThenIndex, ThenField, Operations, NoOperations, ThenOperation, Statement, Block, Labelled, Empty, Evaluate, Swap, If, IfElse, While, Return, Break}
use Rattle.cyc_syntax.specs.Trees.{Continue, Throw, Try, Body, Braces, Items, NoItems, MoreItems, Execute, Local, Region, Alias, DynamicRegion, Clauses, NoClauses, Default, Case, Member, Constructor, Declaration, StructType, Exceptions, Global, Function, place_of}
use Rattle.cyc_syntax.specs.Yields.{Yield}
use Rattle.cyc_syntax.specs.Yields as yields
use Rattle.cyc_syntax.specs.inside.Weight.{sum_of, constructor_weight, tree_weight}
use Rattle.cyc_syntax.specs.Grammar.{level, binary_level, unary_level, assignment_level, IsExpression, IsInitial, AreExpressions, ArePostfixes, AreOperations, IsExpressionOrNone, IsStatement, IsBody, AreItems, AreClauses, AreDeclarations, HasTree, max_items, IsWithin, IsWithinLimits}
use Rattle.cyc_syntax.specs.TokenRule.{max_tokens}
use Rattle.cyc_syntax.proofs.WeightLemmas.{tree_weight-length}
use Rattle.cyc_types.specs.declared.typed.UnaryOperator.TheVariants as unary
use Rattle.cyc_types.specs.declared.typed.Operator.{Operator}
use Rattle.cyc_types.specs.declared.typed.LogicalOperator.{LogicalOperator}
use Rattle.cyc_types.specs.declared.typed.PointerOperator.{PointerOperator}
use Rattle.cyc_types.specs.declared.typed.PointerOperator.TheVariants as pointers
use Rattle.cyc_types.specs.Types.{Ty, Int, Pointer, ValueType, Void, Value}
use Rattle.cyc_types.specs.Types as types
use Rattle.cyc_types.specs.TypedTrees.{Lvalue, Side, VariableSide, CellSide, Converted, type_of}
use Rattle.cyc_types.specs.TypedTrees as typed
use Rattle.cyc_types.specs.Numbered.{argument_count}
use Rattle.cyc_types.specs.Rules.{Rule, Derives, AllKept}
use Rattle.cyc_types.specs.typing.Scopes.{Field, Exception, Meaning, Unknown, Fixed, Counter, Routine, Scope, meaning_of, counted, following, in_block, in_labelled, in_body, with_counter}
use Rattle.cyc_types.specs.typing.Scopes as scopes
use Rattle.cyc_types.specs.typing.Tests.{is_unique, is_moved, is_thin_mark, is_int, is_char, is_value, value_of}
use Rattle.cyc_types.specs.typing.Formation.{struct_demanded}
use Rattle.cyc_types.specs.typing.Expressions.{passed, passed_demanded, as_int, variable_read, variable_looked, read, looked, rule_looked, Found, place_meant, Reached, pointed, indexed, selected, loaded, pointer_to, address_of, assignment, is_looking}
use Rattle.cyc_types.specs.typing.Expressions.{is_looking_first, operand, Joined, peeked_local, then_pointer, is_movable, then_added, ints_joined, tests_joined, sums_joined, null_test, then_compared, equality_joined, joined, instance_of, instantiated, called}
use Rattle.cyc_types.specs.typing.Expressions.{key_freed, Placed, Made, on_heap, rule_placement, field_types, arguments_written, fields_known, fields_made, plain_made, array_made, created, rule, rule_all, rule_chain, rule_place, rule_postfixed, rule_further}
use Rattle.cyc_types.specs.typing.Expressions.{rule_made}
use Rattle.cyc_types.specs.typing.Statements.{rule_condition, returned, rule_returned, exception_number, exception_among, thrown, caught, rule_initial, following_item, rule_statement, rule_body, rule_items, rule_thrown, rule_clauses, with_caught, after_clause}
use Rattle.cyc_types.specs.typing.DeclarationRules.{Known, fields_of, exceptions_of, signature_of}
use Rattle.cyc_types.specs.typing.Programs.{Program, exceptions_before, program_known, body_scope, rule_functions, IsTypedProgram}
use Rattle.cyc_types.proofs.typing.TestLemmas.{kept_append}
use Rattle.cyc_types.proofs.typing.CountLemmas.{opened_shape, aliased_shape}
use Rattle.cyc_types.specs.Demands.{Demands, Meets, CellMeets, PlacementMeets, ObjectMeets, ArgumentsMeet, OperationsMeet, SideMeets, ValueMeets, ThrownMeets, StatementMeets, ItemsMeet, ClausesMeet, FunctionsMeet}
use Rattle.cyc_types.specs.Texts.{is_comparison, are_sums, stands_alone, text_demands, IsOfTextProgram}
use Rattle.cyc_types.proofs.typing.TreeConstants.{AreOfWordsSymbols, IsOfWordsWritten, IsOfWordsMadeOf, AreOfWordsWritten, AreOfWordsPostfixes, AreOfWordsChain, IsOfWordsValue, IsOfWordsWrittenStatement, AreOfWordsWrittenClauses, IsOfWordsBody, AreOfWordsWrittenItems, IsOfWordsTree, tree_constants}
use Rattle.cyc_types.proofs.typing.DemandLemmas.{functions_meet}

-- ---- the demands

-- The requirements that typed trees of source texts satisfy: those of `specs/Texts`, and that each constant is a 32-bit word.
abbrev pub tree_demands : Demands
tree_demands = record {
  number = IsWord;
  fields = λ cs. (1 ≤ argument_count cs) × (argument_count cs ≤ max_items);
  pointer = λ o os. stands_alone o os ≡ true;
  exception = IsWord;
}

-- ---- facts about the program in a scope

abbrev AreFewFields : List (List Field) → Type 0
AreFewFields fss = AllByRecursion (λ (fs : List Field). length fs ≤ max_items) fss

-- says that each struct in scope has few fields, and that the number that identifies each exception fits a 32-bit word
abbrev KnowsFew : Scope → Type 0
KnowsFew g = AreFewFields g.fields × (suc (length g.exceptions) < 2 ^ 32)

struct_few : (fss : List (List Field)) (n : ℕ) → AreFewFields fss → length (unwrap_or (slice_get fss n) []) ≤ max_items
struct_few [] n w = omega arith
struct_few (fs ∷ fss) zero (w, ws) = w
struct_few (fs ∷ fss) (suc n) (w, ws) = struct_few fss n ws

one_or_more : (b : Bool) (n most : ℕ) → n ≤ suc most → (if b then 1 else suc n) ≤ suc (suc most)
one_or_more true n most few = omega arith
one_or_more false n most few = omega (arith, few)

number_few : (es : List Exception) (x : ℕ) → exception_number es x ≤ suc (length es)
number_few [] x = omega arith
number_few (e ∷ es) x = one_or_more (nat_eq e.name x) (exception_number es x) (length es) (number_few es x)

tag_word : (g : Scope) (x : ℕ) → KnowsFew g → IsWord (exception_number g.exceptions x)
tag_word g x few = omega (arith, number_few g.exceptions x, few.1)

-- ---- from the rules: names and places

-- says that each expression that a typing rule derives satisfies the requirements on typed trees of source texts
abbrev GivesText : Rule typed.Expression → Type 0
GivesText r = (a : typed.Expression) → Derives r a → Meets tree_demands a

abbrev GivesCell : Rule Reached → Type 0
GivesCell r = (w : Reached) → Derives r w → CellMeets tree_demands w.cell

either_text : (b : Bool) (a c : typed.Expression) → Meets tree_demands a → Meets tree_demands c → Meets tree_demands (cond b a c)
either_text true a c h k = h
either_text false a c h k = k

variable_text : (l : Lvalue) (t : Ty) → Meets tree_demands (variable_read l t)
variable_text (typed.Local p n) t = either_text (is_moved t) (typed.Move p n t) (typed.Copy (typed.Local p n) t) tt tt
variable_text (typed.Global n) t = tt

looked_variable : (l : Lvalue) (t : Ty) → Meets tree_demands (variable_looked l t)
looked_variable (typed.Local p n) t = either_text (is_unique t) (typed.Peek p n t) (variable_read (typed.Local p n) t) tt (variable_text (typed.Local p n) t)
looked_variable (typed.Global n) t = tt

read_text : (m : Meaning) (p : Place) → GivesText (read m p)
read_text Unknown p a d = absurd d
read_text (scopes.Variable l t home) p a (k, eq) = subst (Meets tree_demands) (sym eq) (variable_text l t)
read_text (Fixed l t) p a (k, eq) = subst (Meets tree_demands) (sym eq) tt
read_text (Counter n) p a (k, eq) = subst (Meets tree_demands) (sym eq) tt
read_text (Routine f s) p a d = absurd d

looked_text : (m : Meaning) (p : Place) → GivesText (looked m p)
looked_text (scopes.Variable l t home) p a (k, eq) = subst (Meets tree_demands) (sym eq) (looked_variable l t)
looked_text Unknown p a d = read_text Unknown p a d
looked_text (Fixed l t) p a d = read_text (Fixed l t) p a d
looked_text (Counter n) p a d = read_text (Counter n) p a d
looked_text (Routine f s) p a d = read_text (Routine f s) p a d

seen_text : (g : Scope) (e : Expression) (walked : Rule typed.Expression) → GivesText walked → GivesText (rule_looked g e walked)
seen_text g (Variable x) walked w a d = looked_text (meaning_of g x) x.place a d
seen_text g (Bracketed p e) walked w a d = seen_text g e walked w a d
seen_text g e walked w a d = w a d

served_text : (a : typed.Expression) → Meets tree_demands a → Meets tree_demands (as_int a)
served_text a w = either_text (is_char (type_of a)) (typed.Unary unary.Widen a) a w w

operand_text : (g : Scope) (seen : Bool) (e : Expression) → GivesText (rule g e) → GivesText (operand seen (rule g e) (rule_looked g e (rule g e)))
operand_text g true e w a d = seen_text g e (rule g e) w a d
operand_text g false e w a d = w a d

loaded_text : (p : Place) (w : Reached) → CellMeets tree_demands w.cell → GivesText (loaded p w)
loaded_text p w h a (k, eq) = subst (Meets tree_demands) (sym eq) h

place_text : (m : Meaning) (p q : Place) (x : Found) → Derives (place_meant m p q) x → SideMeets tree_demands x.side
place_text Unknown p q x d = absurd d
place_text (scopes.Variable l t home) p q x (k, eq) = subst (λ (z : Found). SideMeets tree_demands z.side) (sym eq) tt
place_text (Fixed l t) p q x d = absurd d
place_text (Counter n) p q x d = absurd d
place_text (Routine f s) p q x d = absurd d

address_text : (s : Side) (t : Ty) → SideMeets tree_demands s → Meets tree_demands (address_of s t)
address_text (VariableSide l u) t h = tt
address_text (CellSide d) t h = h

assignment_text : (s : Side) (b : typed.Expression) → SideMeets tree_demands s → Meets tree_demands b → Meets tree_demands (assignment s b)
assignment_text (VariableSide l t) b h k = k
assignment_text (CellSide d) b h k = (h, k)

-- ---- from the rules: calls and keys

abbrev AreOfText : List typed.Expression → Type 0
AreOfText [] = Unit {0}
AreOfText (a ∷ as') = Meets tree_demands a × AreOfText as'

passed_text : (as' : List typed.Expression) (ts : List Ty) → AreOfText as' → ArgumentsMeet tree_demands (passed as' ts)
passed_text [] ts w = tt
passed_text (a ∷ as') [] w = tt
passed_text (a ∷ as') (t ∷ ts) (w, ws) = (w, passed_text as' ts ws)

called_text : (g : Scope) (m : Meaning) (p : Place) (es : Expressions) (as' : List typed.Expression) → AreOfText as' → GivesText (called g m p es as')
called_text g Unknown p es as' w a d = absurd d
called_text g (scopes.Variable l t home) p es as' w a d = absurd d
called_text g (Fixed l t) p es as' w a d = absurd d
called_text g (Counter n) p es as' w a d = absurd d
called_text g (Routine f s) p es as' w a (k, eq) = subst (Meets tree_demands) (sym eq) (passed_text as' (instantiated (instance_of s as') s).parameters w)

key_text : (m : Meaning) (p : Place) → GivesText (key_freed m p)
key_text Unknown p a d = absurd d
key_text (scopes.Variable (typed.Local q n) t home) p a (k, eq) = subst (Meets tree_demands) (sym eq) tt
key_text (scopes.Variable (typed.Global n) t home) p a d = absurd d
key_text (Fixed l t) p a d = absurd d
key_text (Counter n) p a d = absurd d
key_text (Routine f s) p a d = absurd d

-- ---- sums

-- If the first operand of a sum is not an int, the sum is pointer arithmetic and has the pointer's type.
sum_put : (left : ValueType) (o : Operator) (fat : PointerOperator) (a : typed.Expression) (os : typed.Operations) → is_int left ≡ false → (is_int left || is_value is_movable left) ≡ true
    → (then_added left o fat a os ≡ typed.ThenPointer fat a os) × (is_int (Value (value_of left)) ≡ false)
sum_put Void o fat a os other kept = absurd (cc)
sum_put types.Null o fat a os other kept = absurd (cc)
sum_put (Value Int) o fat a os other kept = absurd (cc)
sum_put (Value t) o fat a os other kept = (refl, other)

module _ (g : Scope) (p : Place) (k : Option ℕ) (left : ValueType) (q : Place) (a : typed.Expression) (other : is_int left ≡ false) where
  -- putting a pointer-arithmetic operator in front of an operator chain of pointer arithmetic gives a chain of pointer arithmetic
  sum_of_pointer : (o : Operator) (fat : PointerOperator) (j : Joined) → is_comparison fat ≡ false → Derives (sums_joined p left o fat q a) j
      → (is_int (Value j.1) ≡ false) × ((os : typed.Operations) → are_sums os ≡ true → are_sums (j.0 os) ≡ true)
  sum_of_pointer o fat j sum ((kept, more), eq) =
      subst (λ (z : Joined). (is_int (Value z.1) ≡ false) × ((os : typed.Operations) → are_sums os ≡ true → are_sums (z.0 os) ≡ true)) (sym eq) (
        (sum_put left o fat a typed.NoOperations other kept).1,
        λ os sums. ap are_sums (sum_put left o fat a os other kept).0 ∙ (ap (λ b. not b && are_sums os) sum ∙ sums),
      )

  level_of_sums : (o : BinaryOperator) (j : Joined) → level o ≡ 2 → Derives (joined g p k left o q a) j
      → (is_int (Value j.1) ≡ false) × ((os : typed.Operations) → are_sums os ≡ true → are_sums (j.0 os) ≡ true)
  level_of_sums operators.Add j two d = sum_of_pointer _ pointers.AddFat j refl d
  level_of_sums operators.Subtract j two d = sum_of_pointer _ pointers.SubtractFat j refl d
  level_of_sums o j two d = absurd (cc)

-- if the left operand of an operator chain of `+` and `-` is not an int, all its operators are pointer arithmetic
sums_chain : (g : Scope) (p : Place) (k : Option ℕ) (left : ValueType) (os : Operations) → AreOperations 1 os → is_int left ≡ false → (bs : typed.Operations × Ty) → Derives (rule_chain g p k left os) bs
    → are_sums bs.0 ≡ true
sums_chain g p k left NoOperations w other bs (kept, eq) = ap (λ (z : typed.Operations × Ty). are_sums z.0) eq
sums_chain g p k left (ThenOperation o q e os) (two, w, ws) other bs (put, (b, kb, d), (cs, ks, (u, eq))) =
    let (next, sums) = level_of_sums g p k left (place_of e) (as_int b) other o put two d in
    ap (λ (z : typed.Operations × Ty). are_sums z.0) eq ∙ sums cs.0 (sums_chain g p None (Value put.1) os ws next cs ks)

-- says that, if `+` or `-` follows a left operand that is not an int, all operators after it in the expression are pointer arithmetic
abbrev IsAloneAfter : BinaryOperator → ValueType → typed.Operations → Type 0
IsAloneAfter operators.Add left os = is_int left ≡ false → are_sums os ≡ true
IsAloneAfter operators.Subtract left os = is_int left ≡ false → are_sums os ≡ true
IsAloneAfter o left os = Unit {0}

alone_after : (g : Scope) (p : Place) (k : Option ℕ) (left : ValueType) (q : Place) (a : typed.Expression) (below : ℕ) (o : BinaryOperator) (os : Operations) (put : Joined) (cs : typed.Operations × Ty) → level o ≡ suc below
    → AreOperations below os → Derives (joined g p k left o q a) put → Derives (rule_chain g p None (Value put.1) os) cs → IsAloneAfter o left cs.0
alone_after g p k left q a below operators.Add os put cs two w d h =
    λ other. sums_chain g p None (Value put.1) os (subst (λ n. AreOperations n os) (omega (arith, two)) w) (level_of_sums g p k left q a other operators.Add put refl d).0 cs h
alone_after g p k left q a below operators.Subtract os put cs two w d h =
    λ other. sums_chain g p None (Value put.1) os (subst (λ n. AreOperations n os) (omega (arith, two)) w) (level_of_sums g p k left q a other operators.Subtract put refl d).0 cs h
alone_after g p k left q a below o os put cs two w d h = tt

-- ---- operators

-- says that an operator put in front of an operator chain satisfies the requirements on trees of source texts if its right operand and the
-- chain do
abbrev IsTextBefore : typed.Expression → Joined → Type 0
IsTextBefore a j = (os : typed.Operations) → Meets tree_demands a → OperationsMeet tree_demands os → OperationsMeet tree_demands (j.0 os)

pointer_text : (k : Option ℕ) (o : PointerOperator) (a : typed.Expression) (os : typed.Operations) → stands_alone o os ≡ true → Meets tree_demands a → OperationsMeet tree_demands os → OperationsMeet tree_demands (then_pointer k o a os)
pointer_text None o a os alone w ws = (alone, w, ws)
pointer_text (Some n) o a os alone w ws = (alone, w, ws)

sum_text : (left : ValueType) (o : Operator) (fat : PointerOperator) (a : typed.Expression) (os : typed.Operations) → (is_int left ≡ false → stands_alone fat os ≡ true) → Meets tree_demands a → OperationsMeet tree_demands os
    → OperationsMeet tree_demands (then_added left o fat a os)
sum_text (Value Int) o fat a os alone w ws = (w, ws)
sum_text left o fat a os alone w ws = (alone refl, w, ws)

null_alone : (negated thin : Bool) (os : typed.Operations) → stands_alone (null_test negated thin) os ≡ true
null_alone false true os = refl
null_alone false false os = refl
null_alone true true os = refl
null_alone true false os = refl

compared_text : (k : Option ℕ) (negated : Bool) (left right : ValueType) (a : typed.Expression) (os : typed.Operations) → Meets tree_demands a → OperationsMeet tree_demands os
    → OperationsMeet tree_demands (then_compared k negated left right a os)
compared_text k negated (Value (Pointer m t r)) types.Null a os w ws = pointer_text k _ a os (null_alone negated (is_thin_mark m) os) w ws
compared_text k true (Value (Pointer m t r)) (Value u) a os w ws = pointer_text k _ a os refl w ws
compared_text k false (Value (Pointer m t r)) (Value u) a os w ws = pointer_text k _ a os refl w ws
compared_text k true types.Null right a os w ws = (refl, w, ws)
compared_text k false types.Null right a os w ws = (refl, w, ws)
compared_text k negated left right a os w ws = (w, ws)

module _ (g : Scope) (p : Place) (k : Option ℕ) (left : ValueType) (q : Place) (a : typed.Expression) where
  ints_text : (o : Operator) (j : Joined) → Derives (ints_joined p left o q a) j → IsTextBefore a j
  ints_text o j (kept, eq) = subst (IsTextBefore a) (sym eq) (λ os w ws. (w, ws))

  tests_text : (o : LogicalOperator) (j : Joined) → Derives (tests_joined p left o q a) j → IsTextBefore a j
  tests_text o j (kept, eq) = subst (IsTextBefore a) (sym eq) (λ os w ws. (w, ws))

  equality_text : (negated : Bool) (j : Joined) → Derives (equality_joined g p k left negated q a) j → IsTextBefore a j
  equality_text negated j (kept, eq) = subst (IsTextBefore a) (sym eq) (compared_text k negated left (type_of a) a)

  sums_text : (o : Operator) (fat : PointerOperator) (j : Joined) (os : typed.Operations) → (is_int left ≡ false → stands_alone fat os ≡ true) → Derives (sums_joined p left o fat q a) j → Meets tree_demands a
      → OperationsMeet tree_demands os → OperationsMeet tree_demands (j.0 os)
  sums_text o fat j os alone (kept, eq) w ws = subst (λ (z : Joined). OperationsMeet tree_demands (z.0 os)) (sym eq) (sum_text left o fat a os alone w ws)

  joined_text : (o : BinaryOperator) (j : Joined) (os : typed.Operations) → IsAloneAfter o left os → Derives (joined g p k left o q a) j → Meets tree_demands a → OperationsMeet tree_demands os → OperationsMeet tree_demands (j.0 os)
  joined_text operators.OrElse j os alone d w ws = tests_text _ j d os w ws
  joined_text operators.AndThen j os alone d w ws = tests_text _ j d os w ws
  joined_text operators.Equal j os alone d w ws = equality_text false j d os w ws
  joined_text operators.NotEqual j os alone d w ws = equality_text true j d os w ws
  joined_text operators.Add j os alone d w ws = sums_text _ pointers.AddFat j os alone d w ws
  joined_text operators.Subtract j os alone d w ws = sums_text _ pointers.SubtractFat j os alone d w ws
  joined_text operators.Or j os alone d w ws = ints_text _ j d os w ws
  joined_text operators.Xor j os alone d w ws = ints_text _ j d os w ws
  joined_text operators.And j os alone d w ws = ints_text _ j d os w ws
  joined_text operators.Less j os alone d w ws = ints_text _ j d os w ws
  joined_text operators.LessOrEqual j os alone d w ws = ints_text _ j d os w ws
  joined_text operators.Greater j os alone d w ws = ints_text _ j d os w ws
  joined_text operators.GreaterOrEqual j os alone d w ws = ints_text _ j d os w ws
  joined_text operators.ShiftLeft j os alone d w ws = ints_text _ j d os w ws
  joined_text operators.ShiftRight j os alone d w ws = ints_text _ j d os w ws
  joined_text operators.Multiply j os alone d w ws = ints_text _ j d os w ws
  joined_text operators.Divide j os alone d w ws = ints_text _ j d os w ws
  joined_text operators.Remainder j os alone d w ws = ints_text _ j d os w ws

-- ---- new objects

placement_text : (g : Scope) (p : Place) (e : Expression) (walked : Rule typed.Expression) (w : Placed) → GivesText walked → Derives (rule_placement g p e walked) w → PlacementMeets tree_demands w.placement
placement_text g p (UniqueRegion q) walked w h d = subst (λ (z : Placed). PlacementMeets tree_demands z.placement) (sym d.1) tt
placement_text g p (Bracketed q e) walked w h d = placement_text g p e walked w h d
placement_text g p e walked w h (a, ka, (u, eq)) = subst (λ (z : Placed). PlacementMeets tree_demands z.placement) (sym eq) (h a ka)

-- says that the initial values of a new object satisfy the requirements on typed trees of source texts
abbrev IsTextObject : Made → Type 0
IsTextObject m = AllKept m.asked → ObjectMeets tree_demands m.initial

created_text : (w : Placed) (m : Made) → PlacementMeets tree_demands w.placement → IsTextObject m → GivesText (created w m)
created_text w m h k a (kept, eq) = subst (Meets tree_demands) (sym eq) (h, k (kept_append w.asked m.asked kept).1)

passed_count : (as' : List typed.Expression) (ts : List Ty) → length as' ≡ length ts → argument_count (passed as' ts) ≡ length as'
passed_count [] ts e = refl
passed_count (a ∷ as') [] e = absurd (omega (arith, e))
passed_count (a ∷ as') (t ∷ ts) e = ap suc (passed_count as' ts (omega (arith, e)))

-- a struct initializer of the typed tree has as many values as the struct has fields, and at least one value
fields_text : (g : Scope) (s : Named) (rs : List Named) (es : Expressions) (as' : List typed.Expression) → KnowsFew g → 1 ≤ length as' → AreOfText as' → IsTextObject (fields_made g s rs es as')
fields_text g s rs es as' few some w kept =
    let ts : List Ty = field_types (arguments_written g s rs) (fields_known g s) in
    let count : nat_eq (length as') (length (fields_known g s)) ≡ true = (kept_append (struct_demanded g.structs g.names None s.place s rs) (_ ∷ passed_demanded g.regions es as' ts) kept).1.0 in
    let same : length as' ≡ length (fields_known g s) = eqb-true (length as') (length (fields_known g s)) count in
    let types : length ts ≡ length (fields_known g s) = length-map (fields_known g s) _ in
    let most : length (fields_known g s) ≤ max_items = struct_few g.fields _ few.0 in
    let all : argument_count (passed as' ts) ≡ length as' = passed_count as' ts (same ∙ sym types) in
    ((omega (arith, some, all), omega (arith, same, most, all)), passed_text as' ts w)

-- ---- all forms of expressions

mutual
  expression_text : (g : Scope) → KnowsFew g → (most : ℕ) (e : Expression) → IsExpression most e → IsOfWordsWritten e → GivesText (rule g e)
  expression_text g few most (Number p n) w words a (u, eq) = subst (Meets tree_demands) (sym eq) words
  expression_text g few most (Character p c) w words a (u, eq) = subst (Meets tree_demands) (sym eq) words
  expression_text g few most (Null p) w words a (u, eq) = subst (Meets tree_demands) (sym eq) tt
  expression_text g few most (HeapRegion p) w words a (u, eq) = subst (Meets tree_demands) (sym eq) tt
  expression_text g few most (UniqueRegion p) w words a d = absurd d
  expression_text g few most (Variable x) w words a d = read_text (meaning_of g x) x.place a d
  expression_text g few most (Call x es) w words a (bs, hs, d) = called_text g (meaning_of g x) x.place es bs (expressions_text g few es w words bs hs) a d
  expression_text g few most (Bracketed p e) w words a d = expression_text g few assignment_level e w words a d
  expression_text g few most (NumberOfElements p e) w words a (b, kb, (k, eq)) =
      subst (Meets tree_demands) (sym eq) (seen_text g e (rule g e) (λ c h. expression_text g few assignment_level e w words c h) b kb)
  expression_text g few most (LowByteOf p e) w words a (b, kb, (k, eq)) = subst (Meets tree_demands) (sym eq) (served_text b (expression_text g few assignment_level e w words b kb))
  expression_text g few most (FreeUnique p e) w words a (b, kb, (k, eq)) = subst (Meets tree_demands) (sym eq) (expression_text g few assignment_level e w words b kb)
  expression_text g few most (FreeKey p x) w words a d = key_text (meaning_of g x) x.place a d
  expression_text g few most (Chained e ps) (primary, w, some, ws) (words, more) a (v, kv, d) =
      loaded_text (place_of e) v (postfixed_text g few (place_of e) e ps (seen_text g e (rule g e) (λ c h. expression_text g few unary_level e w words c h)) ws more v kv) a d
  expression_text g few most (Prefixed p prefixes.Negate e) w words a (b, kb, (k, eq)) = subst (Meets tree_demands) (sym eq) (served_text b (expression_text g few unary_level e w words b kb))
  expression_text g few most (Prefixed p prefixes.Not e) w words a (b, kb, (k, eq)) =
      subst (Meets tree_demands) (sym eq) (served_text b (seen_text g e (rule g e) (λ c h. expression_text g few unary_level e w words c h) b kb))
  expression_text g few most (Prefixed p prefixes.Complement e) w words a (b, kb, (k, eq)) = subst (Meets tree_demands) (sym eq) (served_text b (expression_text g few unary_level e w words b kb))
  expression_text g few most (Prefixed p prefixes.Dereference e) w words a (b, kb, d) =
      loaded_text p (pointed g (place_of e) b) (seen_text g e (rule g e) (λ c h. expression_text g few unary_level e w words c h) b kb) a d
  expression_text g few most (Prefixed p prefixes.AddressOf e) w words a (x, kx, (k, eq)) =
      subst (Meets tree_demands) (sym eq) (address_text x.side (pointer_to x) (found_text g few unary_level (place_of e) e w words x kx))
  expression_text g few most (New p i) w words a (m, km, d) = created_text on_heap m tt (made_text g few i w words m km) a d
  expression_text g few most (RegionNew p e i) (w, ws) (words, more) a (v, kv, (m, km, d)) =
      created_text v m (placement_text g (place_of e) e (rule g e) v (λ c h. expression_text g few assignment_level e w words c h) kv) (made_text g few i ws more m km) a d
  expression_text g few most (Binary e os) (below, tighter, chain, w, some, ws) (words, more) a (b, kb, (bs, ks, (u, eq))) =
      let c : typed.Expression = as_int b in
      subst (Meets tree_demands) (sym eq)
      (served_text b (operand_text g (is_looking_first os) e (λ d h. expression_text g few below e w words d h) b kb), chain_text g few below (place_of e) (peeked_local c) (type_of c) os ws more bs ks)
  expression_text g few most (Assign e v) (last, w, ws) (words, more) a (x, kx, (b, kb, (k, eq))) =
      subst (Meets tree_demands) (sym eq) (assignment_text x.side b (found_text g few binary_level (place_of e) e w words x kx) (expression_text g few assignment_level v ws more b kb))

  expressions_text : (g : Scope) → KnowsFew g → (es : Expressions) → AreExpressions es → AreOfWordsWritten es → (as' : List typed.Expression) → Derives (rule_all g es) as' → AreOfText as'
  expressions_text g few NoExpressions w words as' (u, eq) = subst AreOfText (sym eq) tt
  expressions_text g few (MoreExpressions e es) (w, ws) (words, more) as' (a, h, (bs, hs, (u, eq))) =
      subst AreOfText (sym eq) (expression_text g few assignment_level e w words a h, expressions_text g few es ws more bs hs)

  chain_text : (g : Scope) → KnowsFew g → (below : ℕ) (p : Place) (k : Option ℕ) (left : ValueType) (os : Operations) → AreOperations below os → AreOfWordsChain os → (bs : typed.Operations × Ty)
      → Derives (rule_chain g p k left os) bs → OperationsMeet tree_demands bs.0
  chain_text g few below p k left NoOperations w words bs (kept, eq) = subst (λ (z : typed.Operations × Ty). OperationsMeet tree_demands z.0) (sym eq) tt
  chain_text g few below p k left (ThenOperation o q e os) (same, w, ws) (words, more) bs (put, (b, kb, d), (cs, ks, (u, eq))) =
      subst (λ (z : typed.Operations × Ty). OperationsMeet tree_demands z.0) (sym eq)
      (joined_text g p k left (place_of e) (as_int b) o put cs.0 (alone_after g p k left (place_of e) (as_int b) below o os put cs same ws d ks) d
      (served_text b (operand_text g (is_looking o) e (λ c h. expression_text g few below e w words c h) b kb))
      (chain_text g few below p None (Value put.1) os ws more cs ks))

  found_text : (g : Scope) → KnowsFew g → (most : ℕ) (p : Place) (e : Expression) → IsExpression most e → IsOfWordsWritten e → (x : Found) → Derives (rule_place g p e (rule g e)) x → SideMeets tree_demands x.side
  found_text g few most p (Variable y) w words x d = place_text (meaning_of g y) y.place p x d
  found_text g few most p (Bracketed q e) w words x d = found_text g few assignment_level p e w words x d
  found_text g few most p (Prefixed q prefixes.Negate e) w words x (b, kb, d) = absurd d
  found_text g few most p (Prefixed q prefixes.Not e) w words x (b, kb, d) = absurd d
  found_text g few most p (Prefixed q prefixes.Complement e) w words x (b, kb, d) = absurd d
  found_text g few most p (Prefixed q prefixes.AddressOf e) w words x (b, kb, d) = absurd d
  found_text g few most p (Prefixed q prefixes.Dereference e) w words x (b, kb, (k, eq)) =
      subst (λ (z : Found). SideMeets tree_demands z.side) (sym eq) (seen_text g e (rule g e) (λ c h. expression_text g few unary_level e w words c h) b kb)
  found_text g few most p (Chained e ps) (primary, w, some, ws) (words, more) x (v, kv, (k, eq)) =
      subst (λ (z : Found). SideMeets tree_demands z.side) (sym eq)
      (postfixed_text g few (place_of e) e ps (seen_text g e (rule g e) (λ c h. expression_text g few unary_level e w words c h)) ws more v kv)
  found_text g few most p e w words x (b, kb, d) = absurd d

  postfixed_text : (g : Scope) → KnowsFew g → (p : Place) (e : Expression) (ps : Postfixes) → GivesText (rule_looked g e (rule g e)) → ArePostfixes ps → AreOfWordsPostfixes ps
      → GivesCell (rule_postfixed g p (rule_looked g e (rule g e)) ps)
  postfixed_text g few p e NoPostfixes h w words v d = absurd d
  postfixed_text g few p e (ThenIndex i ps) h (w, ws) (words, more) v (a, ka, (b, kb, d)) =
      further_text g few p (indexed g p a (place_of i) (as_int b)) ps (h a ka, served_text b (expression_text g few assignment_level i w words b kb)) ws more v d
  postfixed_text g few p e (ThenField f ps) h w words v (a, ka, d) = further_text g few p (selected g p a f) ps (h a ka) w words v d

  further_text : (g : Scope) → KnowsFew g → (p : Place) (r : Reached) (ps : Postfixes) → CellMeets tree_demands r.cell → ArePostfixes ps → AreOfWordsPostfixes ps → GivesCell (rule_further g p r ps)
  further_text g few p r NoPostfixes h w words v (k, eq) = subst (λ (z : Reached). CellMeets tree_demands z.cell) (sym eq) h
  further_text g few p r (ThenIndex i ps) h (w, ws) (words, more) v (a, ka, (b, kb, d)) =
      further_text g few p (indexed g p a (place_of i) (as_int b)) ps (loaded_text p r h a ka, served_text b (expression_text g few assignment_level i w words b kb)) ws more v d
  further_text g few p r (ThenField f ps) h w words v (a, ka, d) = further_text g few p (selected g p a f) ps (loaded_text p r h a ka) w words v d

  made_text : (g : Scope) → KnowsFew g → (i : Initial) → IsInitial i → IsOfWordsMadeOf i → (m : Made) → Derives (rule_made g i) m → IsTextObject m
  made_text g few (Plain e) w words m (a, ka, (k, eq)) =
      subst IsTextObject (sym eq) (λ (kept : AllKept (plain_made (place_of e) a).asked). expression_text g few unary_level e w words a ka)
  made_text g few (Fields s rs NoExpressions) (some, w) words m d = absurd some
  made_text g few (Fields s rs (MoreExpressions e es)) (some, (w, ws)) (words, more) m (as', (a, ka, (bs, ks, (u, is))), (k, eq)) =
      subst IsTextObject (sym eq)
      (fields_text g s rs (MoreExpressions e es) as' few (let one : length as' ≡ suc (length bs) = ap length is in omega (arith, one))
      (subst AreOfText (sym is) (expression_text g few assignment_level e w words a ka, expressions_text g few es ws more bs ks)))
  made_text g few (Array p x n e) (w, ws) (words, more) m (a, ka, (b, kb, (k, eq))) =
      subst IsTextObject (sym eq)
      (λ (kept : AllKept (array_made g.counters p (place_of n) (as_int a) (place_of e) b).asked).
      (served_text a (expression_text g few binary_level n w words a ka), expression_text (with_counter x g) few assignment_level e ws more b kb))

-- ---- statements

module _ (g : Scope) (few : KnowsFew g) where
  initial_text : (t : WrittenType) (x : Named) (v : Option Expression) (c : Ty × Option Converted) → IsExpressionOrNone v → IsOfWordsValue v → Derives (rule_initial g t x v) c → ValueMeets tree_demands c.1
  initial_text t x None c w words (k, eq) = subst (λ (z : Ty × Option Converted). ValueMeets tree_demands z.1) (sym eq) tt
  initial_text t x (Some e) c w words (a, h, (k, eq)) = subst (λ (z : Ty × Option Converted). ValueMeets tree_demands z.1) (sym eq) (expression_text g few assignment_level e w words a h)

  value_text : (r : Option Ty) (p q : Place) (a : typed.Expression) (c : Option Converted) → Meets tree_demands a → Derives (returned g r p q a) c → ValueMeets tree_demands c
  value_text None p q a c w d = absurd d
  value_text (Some t) p q a c w (k, eq) = subst (ValueMeets tree_demands) (sym eq) w

  returned_text : (p : Place) (v : Option Expression) (c : Option Converted) → IsExpressionOrNone v → IsOfWordsValue v → Derives (rule_returned g p v) c → ValueMeets tree_demands c
  returned_text p None c w words (k, eq) = subst (ValueMeets tree_demands) (sym eq) tt
  returned_text p (Some e) c w words (a, h, k) = value_text g.result p (place_of e) a c (expression_text g few assignment_level e w words a h) k

  given_text : (v : Option Expression) (a : Option typed.Expression) → IsExpressionOrNone v → IsOfWordsValue v → Derives (rule_thrown g v) a → ThrownMeets tree_demands a
  given_text None a w words (k, eq) = subst (ThrownMeets tree_demands) (sym eq) tt
  given_text (Some e) a w words (b, h, (k, eq)) = subst (ThrownMeets tree_demands) (sym eq) (served_text b (expression_text g few assignment_level e w words b h))

  thrown_text : (o : Option Bool) (x : Named) (v : Option Expression) (a : Option typed.Expression) (t : typed.Statement) → ThrownMeets tree_demands a → Derives (thrown g o x v a) t → StatementMeets tree_demands t
  thrown_text None x v a t w d = absurd d
  thrown_text (Some has) x v a t w (kept, eq) = subst (StatementMeets tree_demands) (sym eq) (tag_word g x.name few, w)

  caught_text : (o : Option Bool) (before : List ℕ) (x : Named) (v : Option Named) (n : ℕ) → Derives (caught g o before x v) n → IsWord n
  caught_text None before x v n d = absurd d
  caught_text (Some has) before x v n (kept, eq) = subst IsWord (sym eq) (tag_word g x.name few)

  condition_text : (e : Expression) → IsExpression assignment_level e → IsOfWordsWritten e → GivesText (rule_condition g e)
  condition_text e w words a (b, h, (k, eq)) = subst (Meets tree_demands) (sym eq) (served_text b (seen_text g e (rule g e) (λ c d. expression_text g few assignment_level e w words c d) b h))

-- after the local that receives a caught exception's int is declared, the field counts and exception numbers known in the
-- scope are still within their bounds
caught_few : (v : Option Named) (g : Scope) → KnowsFew g → KnowsFew (with_caught v g)
caught_few None g few = few
caught_few (Some x) g few = few

mutual
  statement_text : (g : Scope) → KnowsFew g → (s : Statement) → IsStatement s → IsOfWordsWrittenStatement s → (t : typed.Statement) → Derives (rule_statement g s) t → StatementMeets tree_demands t
  statement_text g few (Block c) w words t (js, h, (u, eq)) = subst (StatementMeets tree_demands) (sym eq) (body_text (in_block g) few c w words js h)
  statement_text g few (Labelled l c) w words t (u, hu, (js, h, (v, eq))) = subst (StatementMeets tree_demands) (sym eq) (body_text (in_labelled l g) few c w words js h)
  statement_text g few (Empty p) w words t (u, eq) = subst (StatementMeets tree_demands) (sym eq) tt
  statement_text g few (Evaluate e) w words t (a, h, (u, eq)) = subst (StatementMeets tree_demands) (sym eq) (expression_text g few assignment_level e w words a h)
  statement_text g few (Swap a b) (w, ws) (words, more) t (x, kx, (y, ky, (k, eq))) =
      subst (StatementMeets tree_demands) (sym eq) (found_text g few unary_level (place_of a) a w words x kx, found_text g few unary_level (place_of b) b ws more y ky)
  statement_text g few (If p e u) (w, ws) (words, more) t (a, h, (c, k, (v, eq))) = subst (StatementMeets tree_demands) (sym eq) (condition_text g few e w words a h, statement_text g few u ws more c k, tt)
  statement_text g few (IfElse p e u v) (w, x, nearest, y) (words, first, second) t (a, h, (c, k, (d, m, (z, eq)))) =
      subst (StatementMeets tree_demands) (sym eq) (condition_text g few e w words a h, statement_text g few u x first c k, statement_text (following g u) few v y second d m)
  statement_text g few (While p e u) (w, ws) (words, more) t (a, h, (c, k, (v, eq))) = subst (StatementMeets tree_demands) (sym eq) (condition_text g few e w words a h, statement_text (in_body g) few u ws more c k)
  statement_text g few (Return p v) w words t (c, h, (u, eq)) = subst (StatementMeets tree_demands) (sym eq) (returned_text g few p v c w words h)
  statement_text g few (Break p) w words t (k, eq) = subst (StatementMeets tree_demands) (sym eq) tt
  statement_text g few (Continue p) w words t (k, eq) = subst (StatementMeets tree_demands) (sym eq) tt
  statement_text g few (Throw p x v) w words t (a, ka, d) = thrown_text g few (exception_among g.exceptions x.name) x v a t (given_text g few v a w words ka) d
  statement_text g few (Try p s cs) (w, some, ws) (words, more) t (b, kb, (ds, ks, (u, eq))) = subst (StatementMeets tree_demands) (sym eq) (statement_text g few s w words b kb, clauses_text (following g s) few [] cs ws more ds ks)

  clauses_text : (g : Scope) → KnowsFew g → (before : List ℕ) (cs : Clauses) → AreClauses cs → AreOfWordsWrittenClauses cs → (ds : typed.Clauses) → Derives (rule_clauses g before cs) ds → ClausesMeet tree_demands ds
  clauses_text g few before NoClauses w words ds (u, eq) = subst (ClausesMeet tree_demands) (sym eq) tt
  clauses_text g few before (Default is) w words ds (js, h, (u, eq)) = subst (ClausesMeet tree_demands) (sym eq) (items_text (in_block g) few is w words js h)
  clauses_text g few before (Case x v is cs) (w, ws) (words, more) ds (n, kn, (js, h, (es, hs, (u, eq)))) =
      subst (ClausesMeet tree_demands) (sym eq) (
        caught_text g few (exception_among g.exceptions x.name) before x v n kn,
        items_text (with_caught v (in_block g)) (caught_few v (in_block g) few) is w words js h,
        clauses_text (after_clause g (counted v) is) few (x.name ∷ before) cs ws more es hs,
      )

  body_text : (g : Scope) → KnowsFew g → (b : Body) → IsBody b → IsOfWordsBody b → (js : typed.Items) → Derives (rule_body g b) js → ItemsMeet tree_demands js
  body_text g few (Braces p is q) w words js h = items_text g few is w words js h

  items_text : (g : Scope) → KnowsFew g → (is : Items) → AreItems is → AreOfWordsWrittenItems is → (js : typed.Items) → Derives (rule_items g is) js → ItemsMeet tree_demands js
  items_text g few NoItems w words js (u, eq) = subst (ItemsMeet tree_demands) (sym eq) tt
  items_text g few (MoreItems (Execute s) is) (w, ws) (words, more) js (j, (t, h, (u, is_j)), (ks, hs, (v, eq))) =
      subst (ItemsMeet tree_demands) (sym (eq ∙ ap (λ k. typed.MoreItems k ks) is_j)) (statement_text g few s w words t h, items_text (following g s) few is ws more ks hs)
  items_text g few (MoreItems (Local t x v) is) (w, ws) (words, more) js (j, (u, ku, (c, kc, (y, is_j))), (ks, hs, (z, eq))) =
      subst (ItemsMeet tree_demands) (sym (eq ∙ ap (λ k. typed.MoreItems k ks) is_j)) (initial_text g few t x v c w words kc, items_text (following_item g (Local t x v) j) few is ws more ks hs)
  items_text g few (MoreItems (Region r h None) is) (w, ws) (none, more) js (j, (k, is_j), (ks, hs, (z, eq))) =
      subst (ItemsMeet tree_demands) (sym (eq ∙ ap (λ k. typed.MoreItems k ks) is_j)) (items_text (following_item g (Region r h None) j) few is ws more ks hs)
  items_text g few (MoreItems (Region r h (Some k)) is) (w, ws) (none, more) js (j, (u, ku, d), (ks, hs, (z, eq))) =
      let (o, l, is_j) = opened_shape g r h (meaning_of g k) k.place j d in
      subst (ItemsMeet tree_demands) (sym (eq ∙ ap (λ k. typed.MoreItems k ks) is_j)) (items_text (following_item g (Region r h (Some k)) j) few is ws more ks hs)
  items_text g few (MoreItems (Alias r t x y) is) (w, ws) (none, more) js (j, (u, ku, (v, kv, d)), (ks, hs, (z, eq))) =
      let (of_type, l, is_j) = aliased_shape g r x t (meaning_of g y) y.place j d in
      subst (ItemsMeet tree_demands) (sym (eq ∙ ap (λ k. typed.MoreItems k ks) is_j)) (items_text (following_item g (Alias r t x y) j) few is ws more ks hs)
  items_text g few (MoreItems (DynamicRegion r k) is) (w, ws) (none, more) js (j, (kept, is_j), (ks, hs, (z, eq))) =
      subst (ItemsMeet tree_demands) (sym (eq ∙ ap (λ k. typed.MoreItems k ks) is_j)) (items_text (following_item g (DynamicRegion r k) j) few is ws more ks hs)

-- ---- programs

-- says that each struct of the program has few fields, and that the number that identifies each exception fits a 32-bit word
abbrev ProgramKnowsFew : Program → Type 0
ProgramKnowsFew p = AreFewFields p.fields × (suc (length p.exceptions) < 2 ^ 32)

functions_text : (p : Program) → ProgramKnowsFew p → (tree : List Declaration) → AreDeclarations tree → IsOfWordsTree tree → (fs : List typed.Function) → Derives (rule_functions p tree) fs → FunctionsMeet tree_demands fs
functions_text p few [] w words fs (u, eq) = subst (FunctionsMeet tree_demands) (sym eq) tt
functions_text p few (StructType s rs ms ∷ tree) (w, ws) (words, more) fs h = functions_text p few tree ws more fs h
functions_text p few (Exceptions cs ∷ tree) (w, ws) (words, more) fs h = functions_text p few tree ws more fs h
functions_text p few (Global t x v ∷ tree) (w, ws) (words, more) fs h = functions_text p few tree ws more fs h
functions_text p few (Function r x ps (Braces o is q) ∷ tree) (w, ws) (words, more) fs (f, (js, h, (u, is_f)), (gs, hs, (v, eq))) =
    subst (FunctionsMeet tree_demands) (sym (eq ∙ ap (λ k. k ∷ gs) is_f)) (items_text (body_scope p (signature_of p.known r ps) x ps) few is w words js h, functions_text p few tree ws more gs hs)

-- ---- limits of the grammar

within_append : (xs ys : Yield) → AllByRecursion IsWithin (xs ++ ys) → AllByRecursion IsWithin xs × AllByRecursion IsWithin ys
within_append [] ys h = (tt, h)
within_append (x ∷ xs) ys (w, h) = let (l, r) = within_append xs ys h in ((w, l), r)

-- if the leaf symbols of a list element are within the language's limits, the element's index is at most the limit on list lengths
item_few : (i : ℕ) (leaves more : Yield) → 1 ≤ length leaves → AllByRecursion IsWithin (yields.item_number i leaves ++ more) → i ≤ max_items
item_few i [] more some w = absurd (omega (arith, some))
item_few i (leaf ∷ leaves) more some (w, ws) = w.item

field_some : (d : ℕ) (m : Member) → 1 ≤ length (yields.field d m)
field_some d m = omega (arith, length-append (yields.member d m) (yields.sign d signs.Semicolon))

members_few : (d i : ℕ) (ms : List Member) → AllByRecursion IsWithin (yields.each (yields.field d) i ms) → i ≤ suc max_items → length ms + i ≤ suc max_items
members_few d i [] w few = omega (arith, few)
members_few d i (m ∷ ms) w few =
    let one : i ≤ max_items = item_few i (yields.field d m) (yields.each (yields.field d) (suc i) ms) (field_some d m) w in
    let rest : length ms + suc i ≤ suc max_items = members_few d (suc i) ms (within_append (yields.item_number i (yields.field d m)) _ w).1 (omega (arith, one)) in
    omega (arith, rest)

declared_few : (k : Known) (s : Named) (rs : List Named) (ms : List Member) → AllByRecursion IsWithin (yields.declaration 0 (StructType s rs ms)) → length ms ≤ max_items
declared_few k s rs ms (w, (x, ws)) =
    let following = (within_append (yields.region_list 0 rs) _ ws).1.1 in
    let fields = (within_append (yields.each (yields.field 1) 1 ms) _ following).0 in
    let most : length ms + 1 ≤ suc max_items = members_few 1 1 ms fields (omega arith) in
    omega (arith, most)

fields_few : (k : Known) (tree : List Declaration) → IsWithinLimits tree → AreFewFields (fields_of k tree)
fields_few k [] w = tt
fields_few k (StructType s rs ms ∷ tree) w =
    let (first, rest) = within_append (yields.declaration 0 (StructType s rs ms)) (yields.program tree) w in
    (subst (λ n. n ≤ max_items) (sym (length-map ms _)) (declared_few k s rs ms first), fields_few k tree rest)
fields_few k (Exceptions cs ∷ tree) w = fields_few k tree (within_append (yields.declaration 0 (Exceptions cs)) (yields.program tree) w).1
fields_few k (Global t x v ∷ tree) w = fields_few k tree (within_append (yields.declaration 0 (Global t x v)) (yields.program tree) w).1
fields_few k (Function r x ps b ∷ tree) w = fields_few k tree (within_append (yields.declaration 0 (Function r x ps b)) (yields.program tree) w).1

constructors_few : (cs : List Constructor) → length cs ≤ sum_of constructor_weight cs
constructors_few [] = omega arith
constructors_few (c ∷ cs) = omega (arith, constructors_few cs)

exceptions_few : (tree : List Declaration) → length (exceptions_of tree) ≤ tree_weight tree
exceptions_few [] = omega arith
exceptions_few (StructType s rs ms ∷ tree) = omega (arith, exceptions_few tree)
exceptions_few (Exceptions cs ∷ tree) =
    let append = length-append (map (λ (c : Constructor). record { name = c.name.name; has_int = c.has_int }) cs) (exceptions_of tree) in
    let mapped = length-map {B = Exception} cs (λ (c : Constructor). record { name = c.name.name; has_int = c.has_int }) in
    omega (arith, append, mapped, constructors_few cs, exceptions_few tree)
exceptions_few (Global t x v ∷ tree) = omega (arith, exceptions_few tree)
exceptions_few (Function r x ps b ∷ tree) = omega (arith, exceptions_few tree)

-- The typed tree of a short enough text within the limits, whose constants are 32-bit words, satisfies all
-- requirements on typed trees of source texts.
pub program_meets : (texts : List (List ℕ)) (symbols : List Symbol) (tree : List Declaration) (p : typed.Program)
    → HasTree symbols tree → IsWithinLimits tree → AreOfWordsSymbols symbols → length symbols ≤ max_tokens → IsTypedProgram texts tree p → FunctionsMeet tree_demands p.functions
program_meets texts symbols tree p has within words short (u, heads, (v, main, (fs, functions, (w, eq)))) =
    let known : Program = program_known texts tree in
    let many : length known.exceptions ≡ 4 + length (exceptions_of tree) = length-append (exceptions_before texts) (exceptions_of tree) in
    let weight : tree_weight tree ≡ length symbols = tree_weight-length symbols tree has in
    let few : ProgramKnowsFew known = (fields_few known.known tree within, omega (arith, many, exceptions_few tree, weight, short)) in
    subst (λ (z : typed.Program). FunctionsMeet tree_demands z.functions) (sym eq) (functions_text known few tree has.formed (tree_constants symbols tree has words) fs functions)

-- a program whose functions satisfy the requirements `tree_demands` satisfies all requirements on programs from
-- source texts (`specs/Texts`)
pub of_text : (p : typed.Program) → FunctionsMeet tree_demands p.functions → IsOfTextProgram p
of_text p = functions_meet tree_demands text_demands (record { number = λ n w. tt; fields = λ cs w. w; pointer = λ o os w. w; exception = λ n w. w }) p.functions
