-- The weight (token count) of a typed tree is at most the weight of its syntax tree.
use Rattle.std.proofs.Common.{◌≡◌, ℕ, zero, suc, ◌+◌, ◌*◌, ◌≤◌, Bool, true, false, cond, List, [], ◌∷◌, ◌++◌, Option, Some, None, sym, ap, subst, ◌∙◌, arith, length, slice_get, length-append}
use Rattle.std.proofs.lemmas.Option.{same_Some, none-some}
use Rattle.std.specs.Prelude.{option_map}
use Rattle.cyc_syntax.specs.declared.tree.PrefixOperator.TheVariants as prefixes
use Rattle.cyc_syntax.specs.declared.tree.BinaryOperator.{BinaryOperator}
use Rattle.cyc_syntax.specs.declared.tree.BinaryOperator.TheVariants as operators
use Rattle.cyc_syntax.specs.Symbols.{Place}
use Rattle.cyc_syntax.specs.Trees.{Named, Expression, Number, Character, Null, HeapRegion, UniqueRegion, Variable, Call, Bracketed, NumberOfElements, LowByteOf, FreeUnique, FreeKey, Chained, Prefixed, New, RegionNew, Binary}
use Rattle.cyc_syntax.specs.Trees.{Assign, Initial, Plain, Fields, Array, Expressions, NoExpressions, MoreExpressions, Postfixes, NoPostfixes, ThenIndex, ThenField, Operations, NoOperations, ThenOperation, Statement, Block}
use Rattle.cyc_syntax.specs.Trees.{Labelled, Empty, Evaluate, Swap, If, IfElse, While, Return, Break, Continue, Throw, Try, Body, Braces, WrittenType, Items, NoItems, MoreItems, Execute, Local, Region, Alias, DynamicRegion}
use Rattle.cyc_syntax.specs.Trees.{Clauses, NoClauses, Default, Case, Member, GlobalValue, Positive, Negative, Byte, NullPointer, ParameterList, Void, Listed, Declaration, StructType, Exceptions, Global, Function, place_of}
use Rattle.cyc_syntax.specs.inside.Weight.{sum_of, separated_weight, optional_weight, type_weight, member_weight, value_weight, parameter_list_weight, tree_weight}
use Rattle.cyc_syntax.specs.inside.Weight as written
use Rattle.cyc_types.specs.declared.region.Region.TheVariants as regions
use Rattle.cyc_types.specs.declared.typed.UnaryOperator.TheVariants as unary
use Rattle.cyc_types.specs.declared.typed.Operator.{Operator}
use Rattle.cyc_types.specs.declared.typed.LogicalOperator.{LogicalOperator}
use Rattle.cyc_types.specs.declared.typed.PointerOperator.{PointerOperator}
use Rattle.cyc_types.specs.Types.{Ty, Int, Pointer, ValueType, Value}
use Rattle.cyc_types.specs.Types as types
use Rattle.cyc_types.specs.TypedTrees.{Lvalue, Side, VariableSide, CellSide, Converted, type_of}
use Rattle.cyc_types.specs.TypedTrees as typed
use Rattle.cyc_types.specs.Rules.{Rule, Derives}
use Rattle.cyc_types.specs.typing.Scopes.{Meaning, Unknown, Fixed, Counter, Routine, Scope, meaning_of, counted, following, in_block, in_labelled, in_body, with_counter}
use Rattle.cyc_types.specs.typing.Scopes as scopes
use Rattle.cyc_types.specs.typing.Tests.{is_unique, is_moved, is_char}
use Rattle.cyc_types.specs.typing.Formation.{Naming, type_written, types_for, after_type}
use Rattle.cyc_types.specs.typing.Expressions.{passed, as_int, variable_read, variable_looked, read, looked, rule_looked, Found, place_meant, Reached, pointed, indexed, selected, loaded, reached, address_of, addressed, place_inside, assignment}
use Rattle.cyc_types.specs.typing.Expressions.{is_looking, is_looking_first, operand, Joined, peeked_local, then_pointer, then_added, ints_joined, tests_joined, sums_joined, then_compared, equality_joined, joined, instance_of, instantiated}
use Rattle.cyc_types.specs.typing.Expressions.{called, key_freed, Placed, Made, on_heap, rule_placement, field_types, arguments_written, fields_known, created, rule, rule_all, rule_chain, rule_place, rule_postfixed, rule_further, rule_made}
use Rattle.cyc_types.specs.typing.Statements.{rule_condition, returned, rule_returned, exception_among, rule_thrown, with_caught, after_clause, rule_initial, following_item, rule_statement, rule_body, rule_items, rule_clauses}
use Rattle.cyc_types.specs.typing.DeclarationRules.{members_of, parameter_types, signature_of}
use Rattle.cyc_types.specs.typing.Programs.{Program, program_known, body_scope, rule_functions, constant_of, globals_of, IsTypedProgram}
use Rattle.cyc_types.specs.Weight.{expression_weight, dereference_weight, placement_weight, initial_weight, converted_weight, arguments_weight, more_arguments_weight, operations_weight}
use Rattle.cyc_types.specs.Weight.{side_weight, thrown_weight, caught_weight, statement_weight, items_weight, clauses_weight, constant_weight, global_weight, function_weight, program_weight}
use Rattle.cyc_types.specs.Declarations.{caught_types, declared_types, item_types, clause_types, declared_regions, item_regions, clause_regions}
use Rattle.cyc_types.specs.typing.WellTyped.{IsWellTypedFunction, AreWellTypedFunctions, IsWellTypedProgram}
use Rattle.cyc_types.proofs.WeightLemmas.{else_lighter, else_written, type_token, result_token, word_lighter, parameters_counted}
use Rattle.cyc_types.proofs.typing.CountLemmas.{thrown_shape, opened_shape, aliased_shape}

-- ---- expressions

-- says that each expression that a typing rule derives has a weight (token count) of at most n tokens
abbrev IsLight : Rule typed.Expression → ℕ → Type 0
IsLight r n = (a : typed.Expression) → Derives r a → expression_weight a ≤ n

either_token : (b : Bool) (a c : typed.Expression) → expression_weight a ≤ 1 → expression_weight c ≤ 1 → expression_weight (cond b a c) ≤ 1
either_token true a c h k = h
either_token false a c h k = k

variable_token : (l : Lvalue) (t : Ty) → expression_weight (variable_read l t) ≤ 1
variable_token (typed.Local p n) t = either_token (is_moved t) (typed.Move p n t) (typed.Copy (typed.Local p n) t) (omega arith) (omega arith)
variable_token (typed.Global n) t = omega arith

looked_token : (l : Lvalue) (t : Ty) → expression_weight (variable_looked l t) ≤ 1
looked_token (typed.Local p n) t = either_token (is_unique t) (typed.Peek p n t) (variable_read (typed.Local p n) t) (omega arith) (variable_token (typed.Local p n) t)
looked_token (typed.Global n) t = omega arith

-- the weight (token count) of an expression that reads a name is at most one token
read_lighter : (m : Meaning) (p : Place) → IsLight (read m p) 1
read_lighter Unknown p a d = absurd d
read_lighter (scopes.Variable l t home) p a (k, eq) = subst (λ z. expression_weight z ≤ 1) (sym eq) (variable_token l t)
read_lighter (Fixed l t) p a (k, eq) = subst (λ z. expression_weight z ≤ 1) (sym eq) (omega arith)
read_lighter (Counter n) p a (k, eq) = subst (λ z. expression_weight z ≤ 1) (sym eq) (omega arith)
read_lighter (Routine f s) p a d = absurd d

looked_lighter : (m : Meaning) (p : Place) → IsLight (looked m p) 1
looked_lighter (scopes.Variable l t home) p a (k, eq) = subst (λ z. expression_weight z ≤ 1) (sym eq) (looked_token l t)
looked_lighter Unknown p a d = read_lighter Unknown p a d
looked_lighter (Fixed l t) p a d = read_lighter (Fixed l t) p a d
looked_lighter (Counter n) p a d = read_lighter (Counter n) p a d
looked_lighter (Routine f s) p a d = read_lighter (Routine f s) p a d

seen_lighter : (g : Scope) (n : ℕ) (e : Expression) (walked : Rule typed.Expression) → written.expression_weight e ≤ n → IsLight walked n → IsLight (rule_looked g e walked) n
seen_lighter g n (Variable x) walked few w a d = omega (arith, few, looked_lighter (meaning_of g x) x.place a d)
seen_lighter g n (Bracketed p e) walked few w a d = seen_lighter g n e walked (omega (arith, few)) w a d
seen_lighter g n e walked few w a d = w a d

-- converting an expression from char to int adds nothing to its weight (token count)
either_served : (b : Bool) (a : typed.Expression) → expression_weight (cond b (typed.Unary unary.Widen a) a) ≤ expression_weight a
either_served true a = omega arith
either_served false a = omega arith

served_lighter : (a : typed.Expression) → expression_weight (as_int a) ≤ expression_weight a
served_lighter a = either_served (is_char (type_of a)) a

operand_lighter : (g : Scope) (seen : Bool) (e : Expression) → IsLight (rule g e) (written.expression_weight e) → IsLight (operand seen (rule g e) (rule_looked g e (rule g e))) (written.expression_weight e)
operand_lighter g true e w a d = seen_lighter g (written.expression_weight e) e (rule g e) (omega arith) w a d
operand_lighter g false e w a d = w a d

passed_lighter : (as' : List typed.Expression) (ts : List Ty)
    → (arguments_weight (passed as' ts) ≤ separated_weight expression_weight as') × (more_arguments_weight (passed as' ts) ≤ sum_of (λ a. 1 + expression_weight a) as')
passed_lighter [] ts = (omega arith, omega arith)
passed_lighter (a ∷ as') [] = (omega arith, omega arith)
passed_lighter (a ∷ as') (t ∷ ts) =
    let more : more_arguments_weight (passed as' ts) ≤ sum_of (λ b. 1 + expression_weight b) as' = (passed_lighter as' ts).1 in
    (omega arith, omega arith)

called_lighter : (g : Scope) (m : Meaning) (p : Place) (es : Expressions) (as' : List typed.Expression) → IsLight (called g m p es as') (3 + separated_weight expression_weight as')
called_lighter g Unknown p es as' a d = absurd d
called_lighter g (scopes.Variable l t home) p es as' a d = absurd d
called_lighter g (Fixed l t) p es as' a d = absurd d
called_lighter g (Counter n) p es as' a d = absurd d
called_lighter g (Routine f s) p es as' a (k, eq) =
    subst (λ z. expression_weight z ≤ 3 + separated_weight expression_weight as') (sym eq) (omega (arith, (passed_lighter as' (instantiated (instance_of s as') s).parameters).0))

key_freed_lighter : (m : Meaning) (p : Place) → IsLight (key_freed m p) 4
key_freed_lighter Unknown p a d = absurd d
key_freed_lighter (scopes.Variable (typed.Local q n) t home) p a (k, eq) = subst (λ z. expression_weight z ≤ 4) (sym eq) (omega arith)
key_freed_lighter (scopes.Variable (typed.Global n) t home) p a d = absurd d
key_freed_lighter (Fixed l t) p a d = absurd d
key_freed_lighter (Counter n) p a d = absurd d
key_freed_lighter (Routine f s) p a d = absurd d

-- ---- places

place_token : (m : Meaning) (p q : Place) (x : Found) → Derives (place_meant m p q) x → side_weight x.side ≤ 1
place_token Unknown p q x d = absurd d
place_token (scopes.Variable l t home) p q x (k, eq) = subst (λ (z : Found). side_weight z.side ≤ 1) (sym eq) (omega arith)
place_token (Fixed l t) p q x d = absurd d
place_token (Counter n) p q x d = absurd d
place_token (Routine f s) p q x d = absurd d

loaded_lighter : (p : Place) (w : Reached) → IsLight (loaded p w) (dereference_weight w.cell)
loaded_lighter p w a (k, eq) = subst (λ z. expression_weight z ≤ dereference_weight w.cell) (sym eq) (omega arith)

reached_lighter : (w : Reached) (x : Found) → Derives (reached w) x → side_weight x.side ≤ dereference_weight w.cell
reached_lighter w x (k, eq) = subst (λ (z : Found). side_weight z.side ≤ dereference_weight w.cell) (sym eq) (omega arith)

address_weight : (s : Side) (t : Ty) → expression_weight (address_of s t) ≤ 1 + side_weight s
address_weight (VariableSide l u) t = omega arith
address_weight (CellSide c) t = omega arith

addressed_lighter : (p : Place) (x : Found) → IsLight (addressed p x) (1 + side_weight x.side)
addressed_lighter p x a (k, eq) = subst (λ z. expression_weight z ≤ 1 + side_weight x.side) (sym eq) (address_weight x.side _)

assignment_weight : (s : Side) (b : typed.Expression) → expression_weight (assignment s b) ≤ 1 + side_weight s + expression_weight b
assignment_weight (VariableSide l t) b = omega arith
assignment_weight (CellSide c) b = omega arith

-- ---- operators

-- says that putting an operator in front of an operator chain adds at most one token for the operator and the weight of its right operand
abbrev IsAdded : typed.Expression → Joined → Type 0
IsAdded a j = (os : typed.Operations) → operations_weight (j.0 os) ≤ 1 + expression_weight a + operations_weight os

pointer_added : (k : Option ℕ) (o : PointerOperator) (a : typed.Expression) (os : typed.Operations) → operations_weight (then_pointer k o a os) ≤ 1 + expression_weight a + operations_weight os
pointer_added None o a os = omega arith
pointer_added (Some n) o a os = omega arith

sum_added : (left : ValueType) (o : Operator) (fat : PointerOperator) (a : typed.Expression) (os : typed.Operations) → operations_weight (then_added left o fat a os) ≤ 1 + expression_weight a + operations_weight os
sum_added (Value Int) o fat a os = omega arith
sum_added left o fat a os = omega arith

compared_added : (k : Option ℕ) (negated : Bool) (left right : ValueType) (a : typed.Expression) (os : typed.Operations)
    → operations_weight (then_compared k negated left right a os) ≤ 1 + expression_weight a + operations_weight os
compared_added k negated (Value (Pointer m t r)) types.Null a os = pointer_added k _ a os
compared_added k negated (Value (Pointer m t r)) (Value u) a os = pointer_added k _ a os
compared_added k negated types.Null right a os = omega arith
compared_added k negated left right a os = omega arith

module _ (g : Scope) (p : Place) (k : Option ℕ) (left : ValueType) (q : Place) (a : typed.Expression) where
  ints_added : (o : Operator) (j : Joined) → Derives (ints_joined p left o q a) j → IsAdded a j
  ints_added o j (kept, eq) = subst (IsAdded a) (sym eq) (λ os. omega arith)

  tests_added : (o : LogicalOperator) (j : Joined) → Derives (tests_joined p left o q a) j → IsAdded a j
  tests_added o j (kept, eq) = subst (IsAdded a) (sym eq) (λ os. omega arith)

  sums_added : (o : Operator) (fat : PointerOperator) (j : Joined) → Derives (sums_joined p left o fat q a) j → IsAdded a j
  sums_added o fat j (kept, eq) = subst (IsAdded a) (sym eq) (sum_added left o fat a)

  equality_added : (negated : Bool) (j : Joined) → Derives (equality_joined g p k left negated q a) j → IsAdded a j
  equality_added negated j (kept, eq) = subst (IsAdded a) (sym eq) (compared_added k negated left (type_of a) a)

  joined_added : (o : BinaryOperator) (j : Joined) → Derives (joined g p k left o q a) j → IsAdded a j
  joined_added operators.OrElse j d = tests_added _ j d
  joined_added operators.AndThen j d = tests_added _ j d
  joined_added operators.Equal j d = equality_added false j d
  joined_added operators.NotEqual j d = equality_added true j d
  joined_added operators.Add j d = sums_added _ _ j d
  joined_added operators.Subtract j d = sums_added _ _ j d
  joined_added operators.Or j d = ints_added _ j d
  joined_added operators.Xor j d = ints_added _ j d
  joined_added operators.And j d = ints_added _ j d
  joined_added operators.Less j d = ints_added _ j d
  joined_added operators.LessOrEqual j d = ints_added _ j d
  joined_added operators.Greater j d = ints_added _ j d
  joined_added operators.GreaterOrEqual j d = ints_added _ j d
  joined_added operators.ShiftLeft j d = ints_added _ j d
  joined_added operators.ShiftRight j d = ints_added _ j d
  joined_added operators.Multiply j d = ints_added _ j d
  joined_added operators.Divide j d = ints_added _ j d
  joined_added operators.Remainder j d = ints_added _ j d

-- ---- new objects

placement_lighter : (g : Scope) (n : ℕ) (p : Place) (e : Expression) (walked : Rule typed.Expression) (w : Placed) → written.expression_weight e ≤ n → IsLight walked n
    → Derives (rule_placement g p e walked) w → placement_weight w.placement ≤ 3 + n
placement_lighter g n p (UniqueRegion q) walked w few light d = subst (λ (z : Placed). placement_weight z.placement ≤ 3 + n) (sym d.1) (omega (arith, few))
placement_lighter g n p (Bracketed q e) walked w few light d = placement_lighter g n p e walked w (omega (arith, few)) light d
placement_lighter g n p e walked w few light (a, ka, (u, eq)) = subst (λ (z : Placed). placement_weight z.placement ≤ 3 + n) (sym eq) (omega (arith, light a ka))

created_lighter : (w : Placed) (m : Made) → IsLight (created w m) (placement_weight w.placement + initial_weight m.initial)
created_lighter w m a (k, eq) = subst (λ z. expression_weight z ≤ placement_weight w.placement + initial_weight m.initial) (sym eq) (omega arith)

-- ---- all forms of expressions

mutual
  expression_lighter : (g : Scope) (e : Expression) → IsLight (rule g e) (written.expression_weight e)
  expression_lighter g (Number p n) a (u, eq) = subst (λ z. expression_weight z ≤ 1) (sym eq) (omega arith)
  expression_lighter g (Character p c) a (u, eq) = subst (λ z. expression_weight z ≤ 1) (sym eq) (omega arith)
  expression_lighter g (Null p) a (u, eq) = subst (λ z. expression_weight z ≤ 1) (sym eq) (omega arith)
  expression_lighter g (HeapRegion p) a (u, eq) = subst (λ z. expression_weight z ≤ 1) (sym eq) (omega arith)
  expression_lighter g (UniqueRegion p) a d = absurd d
  expression_lighter g (Variable x) a d = read_lighter (meaning_of g x) x.place a d
  expression_lighter g (Call x es) a (bs, hs, d) = omega (arith, called_lighter g (meaning_of g x) x.place es bs a d, (expressions_lighter g es bs hs).0)
  expression_lighter g (Bracketed p e) a d = omega (arith, expression_lighter g e a d)
  expression_lighter g (NumberOfElements p e) a (b, kb, (k, eq)) =
      subst (λ z. expression_weight z ≤ written.expression_weight (NumberOfElements p e)) (sym eq)
      (omega (arith, seen_lighter g (written.expression_weight e) e (rule g e) (omega arith) (λ c j. expression_lighter g e c j) b kb))
  expression_lighter g (LowByteOf p e) a (b, kb, (k, eq)) =
      subst (λ z. expression_weight z ≤ written.expression_weight (LowByteOf p e)) (sym eq) (omega (arith, served_lighter b, expression_lighter g e b kb))
  expression_lighter g (FreeUnique p e) a (b, kb, (k, eq)) =
      subst (λ z. expression_weight z ≤ written.expression_weight (FreeUnique p e)) (sym eq) (omega (arith, expression_lighter g e b kb))
  expression_lighter g (FreeKey p x) a d = key_freed_lighter (meaning_of g x) x.place a d
  expression_lighter g (Chained e ps) a (w, kw, d) =
      omega (arith, loaded_lighter (place_of e) w a d, postfixed_lighter g (place_of e) e ps w (λ b k. seen_lighter g (written.expression_weight e) e (rule g e) (omega arith) (λ c j. expression_lighter g e c j) b k) kw)
  expression_lighter g (Prefixed p prefixes.Negate e) a (b, kb, (k, eq)) =
      subst (λ z. expression_weight z ≤ 1 + written.expression_weight e) (sym eq) (omega (arith, served_lighter b, expression_lighter g e b kb))
  expression_lighter g (Prefixed p prefixes.Not e) a (b, kb, (k, eq)) =
      subst (λ z. expression_weight z ≤ 1 + written.expression_weight e) (sym eq)
      (omega (arith, served_lighter b, seen_lighter g (written.expression_weight e) e (rule g e) (omega arith) (λ c j. expression_lighter g e c j) b kb))
  expression_lighter g (Prefixed p prefixes.Complement e) a (b, kb, (k, eq)) =
      subst (λ z. expression_weight z ≤ 1 + written.expression_weight e) (sym eq) (omega (arith, served_lighter b, expression_lighter g e b kb))
  expression_lighter g (Prefixed p prefixes.Dereference e) a (b, kb, d) =
      omega (arith, loaded_lighter p (pointed g (place_of e) b) a d, seen_lighter g (written.expression_weight e) e (rule g e) (omega arith) (λ c j. expression_lighter g e c j) b kb)
  expression_lighter g (Prefixed p prefixes.AddressOf e) a (x, kx, d) = omega (arith, addressed_lighter (place_inside e) x a d, found_lighter g (place_of e) e x kx)
  expression_lighter g (New p i) a (m, km, d) = omega (arith, created_lighter on_heap m a d, made_lighter g i m km)
  expression_lighter g (RegionNew p e i) a (w, kw, (m, km, d)) =
      omega (arith, created_lighter w m a d, made_lighter g i m km, placement_lighter g (written.expression_weight e) (place_of e) e (rule g e) w (omega arith) (λ c j. expression_lighter g e c j) kw)
  expression_lighter g (Binary e os) a (b, kb, (bs, ks, (u, eq))) =
      subst (λ z. expression_weight z ≤ written.expression_weight (Binary e os)) (sym eq)
      (omega (arith, served_lighter b, operand_lighter g (is_looking_first os) e (λ c j. expression_lighter g e c j) b kb, chain_lighter g (place_of e) (peeked_local (as_int b)) (type_of (as_int b)) os bs ks))
  expression_lighter g (Assign e v) a (x, kx, (b, kb, (k, eq))) =
      subst (λ z. expression_weight z ≤ written.expression_weight (Assign e v)) (sym eq)
      (omega (arith, assignment_weight x.side b, found_lighter g (place_of e) e x kx, expression_lighter g v b kb))

  expressions_lighter : (g : Scope) (es : Expressions) (as' : List typed.Expression) → Derives (rule_all g es) as'
      → (separated_weight expression_weight as' ≤ written.expressions_weight es) × (sum_of (λ a. 1 + expression_weight a) as' ≤ written.more_expressions_weight es)
  expressions_lighter g NoExpressions as' (u, eq) =
      (subst (λ z. separated_weight expression_weight z ≤ 0) (sym eq) (omega arith), subst (λ z. sum_of (λ a. 1 + expression_weight a) z ≤ 0) (sym eq) (omega arith))
  expressions_lighter g (MoreExpressions e es) as' (a, h, (bs, hs, (u, eq))) =
      let first : expression_weight a ≤ written.expression_weight e = expression_lighter g e a h in
      let rest : sum_of (λ b. 1 + expression_weight b) bs ≤ written.more_expressions_weight es = (expressions_lighter g es bs hs).1 in (
        subst (λ z. separated_weight expression_weight z ≤ written.expressions_weight (MoreExpressions e es)) (sym eq) (omega arith),
        subst (λ z. sum_of (λ b. 1 + expression_weight b) z ≤ written.more_expressions_weight (MoreExpressions e es)) (sym eq) (omega arith),
      )

  chain_lighter : (g : Scope) (p : Place) (k : Option ℕ) (left : ValueType) (os : Operations) (bs : typed.Operations × Ty) → Derives (rule_chain g p k left os) bs → operations_weight bs.0 ≤ written.operations_weight os
  chain_lighter g p k left NoOperations bs (kept, eq) = subst (λ (z : typed.Operations × Ty). operations_weight z.0 ≤ 0) (sym eq) (omega arith)
  chain_lighter g p k left (ThenOperation o q e os) bs (put, (a, ka, d), (cs, ks, (u, eq))) =
      subst (λ (z : typed.Operations × Ty). operations_weight z.0 ≤ written.operations_weight (ThenOperation o q e os)) (sym eq)
      (omega (arith, joined_added g p k left (place_of e) (as_int a) o put d cs.0, served_lighter a, operand_lighter g (is_looking o) e (λ c j. expression_lighter g e c j) a ka, chain_lighter g p None (Value put.1) os cs ks))

  found_lighter : (g : Scope) (p : Place) (e : Expression) (x : Found) → Derives (rule_place g p e (rule g e)) x → side_weight x.side ≤ written.expression_weight e
  found_lighter g p (Variable y) x d = place_token (meaning_of g y) y.place p x d
  found_lighter g p (Bracketed q e) x d = omega (arith, found_lighter g p e x d)
  found_lighter g p (Prefixed q prefixes.Dereference e) x (b, kb, d) =
      omega (arith, reached_lighter (pointed g (place_of e) b) x d, seen_lighter g (written.expression_weight e) e (rule g e) (omega arith) (λ c j. expression_lighter g e c j) b kb)
  found_lighter g p (Prefixed q prefixes.Negate e) x (b, kb, d) = absurd d
  found_lighter g p (Prefixed q prefixes.Not e) x (b, kb, d) = absurd d
  found_lighter g p (Prefixed q prefixes.Complement e) x (b, kb, d) = absurd d
  found_lighter g p (Prefixed q prefixes.AddressOf e) x (b, kb, d) = absurd d
  found_lighter g p (Chained e ps) x (w, kw, d) =
      omega (arith, reached_lighter w x d, postfixed_lighter g (place_of e) e ps w (λ b k. seen_lighter g (written.expression_weight e) e (rule g e) (omega arith) (λ c j. expression_lighter g e c j) b k) kw)
  found_lighter g p e x (b, kb, d) = absurd d

  postfixed_lighter : (g : Scope) (p : Place) (e : Expression) (ps : Postfixes) (w : Reached) → IsLight (rule_looked g e (rule g e)) (written.expression_weight e)
      → Derives (rule_postfixed g p (rule_looked g e (rule g e)) ps) w → dereference_weight w.cell ≤ written.expression_weight e + written.postfixes_weight ps
  postfixed_lighter g p e NoPostfixes w first d = absurd d
  postfixed_lighter g p e (ThenIndex i ps) w first (a, ka, (b, kb, d)) =
      omega (arith, first a ka, served_lighter b, expression_lighter g i b kb, further_lighter g p (indexed g p a (place_of i) (as_int b)) ps w d)
  postfixed_lighter g p e (ThenField f ps) w first (a, ka, d) = omega (arith, first a ka, further_lighter g p (selected g p a f) ps w d)

  further_lighter : (g : Scope) (p : Place) (v : Reached) (ps : Postfixes) (w : Reached) → Derives (rule_further g p v ps) w → dereference_weight w.cell ≤ dereference_weight v.cell + written.postfixes_weight ps
  further_lighter g p v NoPostfixes w (u, eq) = subst (λ (z : Reached). dereference_weight z.cell ≤ dereference_weight v.cell + 0) (sym eq) (omega arith)
  further_lighter g p v (ThenIndex i ps) w (a, ka, (b, kb, d)) =
      omega (arith, loaded_lighter p v a ka, served_lighter b, expression_lighter g i b kb, further_lighter g p (indexed g p a (place_of i) (as_int b)) ps w d)
  further_lighter g p v (ThenField f ps) w (a, ka, d) = omega (arith, loaded_lighter p v a ka, further_lighter g p (selected g p a f) ps w d)

  made_lighter : (g : Scope) (i : Initial) (m : Made) → Derives (rule_made g i) m → initial_weight m.initial ≤ written.initial_weight i
  made_lighter g (Plain e) m (a, ka, (u, eq)) = subst (λ (z : Made). initial_weight z.initial ≤ written.expression_weight e) (sym eq) (omega (arith, expression_lighter g e a ka))
  made_lighter g (Fields s rs es) m (as', ks, (u, eq)) =
      subst (λ (z : Made). initial_weight z.initial ≤ written.initial_weight (Fields s rs es)) (sym eq) (omega (arith, (passed_lighter as' (field_types (arguments_written g s rs) (fields_known g s))).0, (expressions_lighter g es as' ks).0))
  made_lighter g (Array p x n e) m (a, ka, (b, kb, (u, eq))) =
      subst (λ (z : Made). initial_weight z.initial ≤ written.initial_weight (Array p x n e)) (sym eq) (omega (arith, served_lighter a, expression_lighter g n a ka, expression_lighter (with_counter x g) e b kb))

-- ---- statements

-- the initial value of a local, with its `=` token, weighs (in tokens) at most as much in the typed tree as in the syntax tree
initial_lighter : (g : Scope) (w : WrittenType) (x : Named) (v : Option Expression) (c : Ty × Option Converted) → Derives (rule_initial g w x v) c
    → optional_weight (λ d. 1 + converted_weight d) c.1 ≤ optional_weight (λ e. 1 + written.expression_weight e) v
initial_lighter g w x None c (k, eq) = subst (λ (z : Ty × Option Converted). optional_weight (λ d. 1 + converted_weight d) z.1 ≤ 0) (sym eq) (omega arith)
initial_lighter g w x (Some e) c (a, h, (k, eq)) =
    subst (λ (z : Ty × Option Converted). optional_weight (λ d. 1 + converted_weight d) z.1 ≤ 1 + written.expression_weight e) (sym eq) (omega (arith, expression_lighter g e a h))

value_lighter : (g : Scope) (r : Option Ty) (p q : Place) (a : typed.Expression) (c : Option Converted) → Derives (returned g r p q a) c → optional_weight converted_weight c ≤ expression_weight a
value_lighter g None p q a c d = absurd d
value_lighter g (Some t) p q a c (k, eq) = subst (λ z. optional_weight converted_weight z ≤ expression_weight a) (sym eq) (omega arith)

returned_lighter : (g : Scope) (p : Place) (v : Option Expression) (c : Option Converted) → Derives (rule_returned g p v) c → optional_weight converted_weight c ≤ optional_weight written.expression_weight v
returned_lighter g p None c (k, eq) = subst (λ z. optional_weight converted_weight z ≤ 0) (sym eq) (omega arith)
returned_lighter g p (Some e) c (a, h, k) = omega (arith, expression_lighter g e a h, value_lighter g g.result p (place_of e) a c k)

condition_lighter : (g : Scope) (e : Expression) (a : typed.Expression) → Derives (rule_condition g e) a → expression_weight a ≤ written.expression_weight e
condition_lighter g e a (b, h, (k, eq)) =
    subst (λ z. expression_weight z ≤ written.expression_weight e) (sym eq)
    (omega (arith, served_lighter b, seen_lighter g (written.expression_weight e) e (rule g e) (omega arith) (λ c j. expression_lighter g e c j) b h))

thrown_lighter : (g : Scope) (v : Option Expression) (a : Option typed.Expression) → Derives (rule_thrown g v) a → thrown_weight a ≤ optional_weight (λ e. 2 + written.expression_weight e) v
thrown_lighter g None a (u, eq) = subst (λ z. thrown_weight z ≤ 0) (sym eq) (omega arith)
thrown_lighter g (Some e) a (b, h, (u, eq)) = subst (λ z. thrown_weight z ≤ 2 + written.expression_weight e) (sym eq) (omega (arith, served_lighter b, expression_lighter g e b h))

caught_lighter : (v : Option Named) (n : ℕ) → caught_weight (option_map (λ (y : Named). n) v) ≤ optional_weight (λ _. 3) v
caught_lighter None n = omega arith
caught_lighter (Some y) n = omega arith

mutual
  statement_lighter : (g : Scope) (s : Statement) (t : typed.Statement) → Derives (rule_statement g s) t → statement_weight t ≤ written.statement_weight s
  statement_lighter g (Block c) t (js, h, (u, eq)) = subst (λ z. statement_weight z ≤ written.statement_weight (Block c)) (sym eq) (omega (arith, body_lighter (in_block g) c js h))
  statement_lighter g (Labelled l c) t (u, hu, (js, h, (v, eq))) =
      subst (λ z. statement_weight z ≤ written.statement_weight (Labelled l c)) (sym eq) (omega (arith, body_lighter (in_labelled l g) c js h))
  statement_lighter g (Empty p) t (u, eq) = subst (λ z. statement_weight z ≤ 1) (sym eq) (omega arith)
  statement_lighter g (Evaluate e) t (a, h, (u, eq)) = subst (λ z. statement_weight z ≤ written.statement_weight (Evaluate e)) (sym eq) (omega (arith, expression_lighter g e a h))
  statement_lighter g (Swap a b) t (x, kx, (y, ky, (kept, eq))) =
      subst (λ z. statement_weight z ≤ written.statement_weight (Swap a b)) (sym eq) (omega (arith, found_lighter g (place_of a) a x kx, found_lighter g (place_of b) b y ky))
  statement_lighter g (If p e u) t (a, h, (c, k, (w, eq))) =
      subst (λ z. statement_weight z ≤ written.statement_weight (If p e u)) (sym eq) (omega (arith, condition_lighter g e a h, statement_lighter g u c k))
  statement_lighter g (IfElse p e u v) t (a, h, (c, k, (d, m, (w, eq)))) =
      subst (λ z. statement_weight z ≤ written.statement_weight (IfElse p e u v)) (sym eq)
      (omega (arith, condition_lighter g e a h, statement_lighter g u c k, statement_lighter (following g u) v d m, else_lighter d (statement_weight d)))
  statement_lighter g (While p e u) t (a, h, (c, k, (w, eq))) =
      subst (λ z. statement_weight z ≤ written.statement_weight (While p e u)) (sym eq) (omega (arith, condition_lighter g e a h, statement_lighter (in_body g) u c k))
  statement_lighter g (Return p v) t (c, h, (u, eq)) =
      subst (λ z. statement_weight z ≤ written.statement_weight (Return p v)) (sym eq) (omega (arith, returned_lighter g p v c h))
  statement_lighter g (Break p) t (k, eq) = subst (λ z. statement_weight z ≤ 2) (sym eq) (omega arith)
  statement_lighter g (Continue p) t (k, eq) = subst (λ z. statement_weight z ≤ 2) (sym eq) (omega arith)
  statement_lighter g (Throw p x v) t (a, ka, d) =
      let (n, eq) = thrown_shape g (exception_among g.exceptions x.name) x v a t d in
      subst (λ z. statement_weight z ≤ written.statement_weight (Throw p x v)) (sym eq) (omega (arith, thrown_lighter g v a ka))
  statement_lighter g (Try p s cs) t (b, kb, (ds, ks, (u, eq))) =
      subst (λ z. statement_weight z ≤ written.statement_weight (Try p s cs)) (sym eq) (omega (arith, statement_lighter g s b kb, clauses_lighter (following g s) [] cs ds ks))

  body_lighter : (g : Scope) (c : Body) (js : typed.Items) → Derives (rule_body g c) js → 2 + items_weight js ≤ written.body_weight c
  body_lighter g (Braces p is q) js h = omega (arith, items_lighter g is js h)

  items_lighter : (g : Scope) (is : Items) (js : typed.Items) → Derives (rule_items g is) js → items_weight js ≤ written.items_weight is
  items_lighter g NoItems js (u, eq) = subst (λ z. items_weight z ≤ 0) (sym eq) (omega arith)
  items_lighter g (MoreItems (Execute s) is) js (j, (t, h, (u, is_j)), (ks, hs, (w, eq))) =
      subst (λ z. items_weight z ≤ written.items_weight (MoreItems (Execute s) is)) (sym (eq ∙ ap (λ i. typed.MoreItems i ks) is_j))
      (omega (arith, statement_lighter g s t h, items_lighter (following g s) is ks hs))
  items_lighter g (MoreItems (Local w x v) is) js (j, (u, ku, (c, kc, (y, is_j))), (ks, hs, (z, eq))) =
      let rest : items_weight ks ≤ written.items_weight is = items_lighter (following_item g (Local w x v) j) is ks hs in
      subst (λ z. items_weight z ≤ written.items_weight (MoreItems (Local w x v) is)) (sym (eq ∙ ap (λ i. typed.MoreItems i ks) is_j))
      (omega (arith, type_token w, initial_lighter g w x v c kc, rest))
  items_lighter g (MoreItems (Region r h None) is) js (j, (kept, is_j), (ks, hs, (z, eq))) =
      let rest : items_weight ks ≤ written.items_weight is = items_lighter (following_item g (Region r h None) j) is ks hs in
      subst (λ z. items_weight z ≤ written.items_weight (MoreItems (Region r h None) is)) (sym (eq ∙ ap (λ i. typed.MoreItems i ks) is_j)) (omega (arith, rest))
  items_lighter g (MoreItems (Region r h (Some k)) is) js (j, (u, ku, d), (ks, hs, (z, eq))) =
      let rest : items_weight ks ≤ written.items_weight is = items_lighter (following_item g (Region r h (Some k)) j) is ks hs in
      let (o, l, is_j) = opened_shape g r h (meaning_of g k) k.place j d in
      subst (λ z. items_weight z ≤ written.items_weight (MoreItems (Region r h (Some k)) is)) (sym (eq ∙ ap (λ i. typed.MoreItems i ks) is_j)) (omega (arith, rest))
  items_lighter g (MoreItems (Alias r w x y) is) js (j, (u, ku, (v, kv, d)), (ks, hs, (z, eq))) =
      let rest : items_weight ks ≤ written.items_weight is = items_lighter (following_item g (Alias r w x y) j) is ks hs in
      let (t, l, is_j) = aliased_shape g r x w (meaning_of g y) y.place j d in
      subst (λ z. items_weight z ≤ written.items_weight (MoreItems (Alias r w x y) is)) (sym (eq ∙ ap (λ i. typed.MoreItems i ks) is_j)) (omega (arith, type_token w, rest))
  items_lighter g (MoreItems (DynamicRegion r k) is) js (j, (kept, is_j), (ks, hs, (z, eq))) =
      let rest : items_weight ks ≤ written.items_weight is = items_lighter (following_item g (DynamicRegion r k) j) is ks hs in
      subst (λ z. items_weight z ≤ written.items_weight (MoreItems (DynamicRegion r k) is)) (sym (eq ∙ ap (λ i. typed.MoreItems i ks) is_j)) (omega (arith, rest))

  clauses_lighter : (g : Scope) (before : List ℕ) (cs : Clauses) (ds : typed.Clauses) → Derives (rule_clauses g before cs) ds → clauses_weight ds ≤ written.clauses_weight cs
  clauses_lighter g before NoClauses ds (u, eq) = subst (λ z. clauses_weight z ≤ 0) (sym eq) (omega arith)
  clauses_lighter g before (Default is) ds (js, h, (u, eq)) = subst (λ z. clauses_weight z ≤ written.clauses_weight (Default is)) (sym eq) (omega (arith, items_lighter (in_block g) is js h))
  clauses_lighter g before (Case x v is cs) ds (n, kn, (js, h, (es, k, (u, eq)))) =
      subst (λ z. clauses_weight z ≤ written.clauses_weight (Case x v is cs)) (sym eq)
      (omega (arith, caught_lighter v g.next_local, items_lighter (with_caught v (in_block g)) is js h, clauses_lighter (after_clause g (counted v) is) (x.name ∷ before) cs es k))

-- ---- declarations

either_weightless : (b : Bool) → constant_weight (cond b typed.Null (typed.Word 0)) ≤ 0
either_weightless true = omega arith
either_weightless false = omega arith

constant_lighter : (t : Ty) (v : Option GlobalValue) → constant_weight (constant_of t v) ≤ optional_weight value_weight v
constant_lighter t None = either_weightless _
constant_lighter t (Some (Positive p n)) = word_lighter _
constant_lighter t (Some (Negative p n)) = let two : constant_weight (constant_of t (Some (Negative p n))) ≤ 2 = word_lighter _ in omega arith
constant_lighter t (Some (Byte p c)) = word_lighter _
constant_lighter t (Some (NullPointer p)) = omega arith

members_lighter : (structs : List scopes.StructName) (n : Naming) (ms : List Member)
    → (separated_weight (λ t. 2) (types_for structs n ms) ≤ separated_weight member_weight ms) × (sum_of (λ t. 1 + 2) (types_for structs n ms) ≤ sum_of (λ m. 1 + member_weight m) ms)
members_lighter structs n [] = (omega arith, omega arith)
members_lighter structs n (m ∷ ms) =
    let of_type : 1 ≤ type_weight m.of_type = type_token m.of_type in
    let rest : sum_of (λ t. 1 + 2) (types_for structs (after_type n m.of_type) ms) ≤ sum_of (λ m. 1 + member_weight m) ms = (members_lighter structs (after_type n m.of_type) ms).1 in
    (omega arith, omega arith)

parameters_lighter : (structs : List scopes.StructName) (n : Naming) (ps : ParameterList) → separated_weight (λ t. 2) (types_for structs n (members_of ps)) ≤ parameter_list_weight ps
parameters_lighter structs n Void = omega arith
parameters_lighter structs n (Listed ms) = (members_lighter structs n ms).0

declarations_lighter : (p : Program) (tree : List Declaration) (fs : List typed.Function) → Derives (rule_functions p tree) fs
    → sum_of global_weight (globals_of p.known tree) + sum_of function_weight fs ≤ tree_weight tree
declarations_lighter p [] fs (u, eq) = subst (λ z. 0 + sum_of function_weight z ≤ 0) (sym eq) (omega arith)
declarations_lighter p (StructType s rs ms ∷ tree) fs h = omega (arith, declarations_lighter p tree fs h)
declarations_lighter p (Exceptions cs ∷ tree) fs h = omega (arith, declarations_lighter p tree fs h)
declarations_lighter p (Global w x v ∷ tree) fs h = omega (arith, type_token w, constant_lighter (type_written p.known.structs p.known.regions regions.Heap w) v, declarations_lighter p tree fs h)
declarations_lighter p (Function r x ps (Braces o is q) ∷ tree) fs (f, (js, h, (u, is_f)), (gs, hs, (v, eq))) =
    let parameters : separated_weight (λ t. 2) (parameter_types p.known ps) ≤ parameter_list_weight ps.list = parameters_lighter p.known.structs (record { names = p.known.regions; next = 1 }) ps.list in
    let inside : items_weight js ≤ written.items_weight is = items_lighter (body_scope p (signature_of p.known r ps) x ps) is js h in
    let rest : sum_of global_weight (globals_of p.known tree) + sum_of function_weight gs ≤ tree_weight tree = declarations_lighter p tree gs hs in
    subst (λ z. sum_of global_weight (globals_of p.known tree) + sum_of function_weight z ≤ tree_weight (Function r x ps (Braces o is q) ∷ tree)) (sym (eq ∙ ap (λ k. k ∷ gs) is_f))
    (omega (arith, result_token r, parameters, inside, rest))

pub program_lighter : (texts : List (List ℕ)) (tree : List Declaration) (p : typed.Program) → IsTypedProgram texts tree p → program_weight p ≤ tree_weight tree
program_lighter texts tree p (u, heads, (v, main, (fs, functions, (w, eq)))) =
    subst (λ z. program_weight z ≤ tree_weight tree) (sym eq) (declarations_lighter (program_known texts tree) tree fs functions)

-- ---- counts bounded by the number of a function's tokens

caught_declares : (n : Option ℕ) → 3 * length (caught_types n) ≤ caught_weight n
caught_declares None = omega arith
caught_declares (Some n) = omega arith

mutual
  statement_declares : (t : typed.Statement) → 3 * length (declared_types t) + 2 * declared_regions t ≤ statement_weight t
  statement_declares (typed.Block r js) = omega (arith, items_declare js)
  statement_declares (typed.If a s t) = omega (arith, length-append (declared_types s) (declared_types t), statement_declares s, statement_declares t, else_written t)
  statement_declares (typed.While p a s) = omega (arith, statement_declares s)
  statement_declares (typed.Try s cs) = omega (arith, length-append (declared_types s) (clause_types cs), statement_declares s, clauses_declare cs)
  statement_declares t = omega arith

  items_declare : (js : typed.Items) → 3 * length (item_types js) + 2 * item_regions js ≤ items_weight js
  items_declare typed.NoItems = omega arith
  items_declare (typed.MoreItems (typed.Execute s) js) = omega (arith, length-append (declared_types s) (item_types js), statement_declares s, items_declare js)
  items_declare (typed.MoreItems (typed.Declare n t v) js) = omega (arith, items_declare js)
  items_declare (typed.MoreItems (typed.DeclareRegion r n) js) = omega (arith, items_declare js)
  items_declare (typed.MoreItems (typed.OpenRegion r n p k) js) = omega (arith, items_declare js)
  items_declare (typed.MoreItems (typed.DeclareAlias r n t p m) js) = omega (arith, items_declare js)
  items_declare (typed.MoreItems (typed.DeclareKey r n) js) = omega (arith, items_declare js)

  clauses_declare : (cs : typed.Clauses) → 3 * length (clause_types cs) + 2 * clause_regions cs ≤ clauses_weight cs
  clauses_declare typed.NoClauses = omega arith
  clauses_declare (typed.Default r js) = omega (arith, items_declare js)
  clauses_declare (typed.Case e n r js cs) =
      omega (arith, length-append (caught_types n) (item_types js ++ clause_types cs), length-append (item_types js) (clause_types cs), caught_declares n, items_declare js, clauses_declare cs)

-- says that the weight (token count) of a function bounds the number of its parameters, locals and regions
abbrev Outweighs : typed.Function → Type 0
Outweighs h = (h.variables + 1 ≤ h.regions) × (2 * length h.parameters + 3 * length h.locals + 2 * h.regions + 4 ≤ function_weight h + 2 * h.variables)

body_outweighs : (p : typed.Program) (h : typed.Function) → IsWellTypedFunction p h → Outweighs h
body_outweighs p h w = (omega (arith, w.regions), omega (arith, (parameters_counted h.parameters).0, ap length w.locals, w.regions, items_declare h.body))

functions_outweigh : (p : typed.Program) (hs : List typed.Function) → AreWellTypedFunctions p hs → (n : ℕ) (h : typed.Function) → slice_get hs n ≡ Some h → Outweighs h
functions_outweigh p [] w n h at = absurd (none-some h at)
functions_outweigh p (k ∷ hs) (w, ws) zero h at = subst Outweighs (same_Some k h at) (body_outweighs p k w)
functions_outweigh p (k ∷ hs) (w, ws) (suc n) h at = functions_outweigh p hs ws n h at

pub function_outweighs : (p : typed.Program) (n : ℕ) (h : typed.Function) → IsWellTypedProgram p → slice_get p.functions n ≡ Some h
    → (h.variables + 1 ≤ h.regions) × (2 * length h.parameters + 3 * length h.locals + 2 * h.regions + 4 ≤ function_weight h + 2 * h.variables)
function_outweighs p n h w at = functions_outweigh p p.functions w.functions n h at
