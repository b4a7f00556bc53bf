-- The parsers of expressions return a tree that the symbols spell and that is well-formed by the grammar.
use Rattle.std.proofs.Common.{◌≡◌, ℕ, zero, suc, ◌+◌, ◌≤◌, ◌<◌, Bool, true, false, List, [], ◌∷◌, ◌++◌, length, Option, Some, None, refl, sym, ap, subst, ◌∙◌, arith, append-nil, append_assoc, eqb-true}
use Rattle.std.specs.Prelude.{nat_eq, if◌then◌else◌}
use Rattle.std.specs.List.{AllByRecursion}
use Rattle.cyc_syntax.specs.declared.tokens.Keyword.TheVariants as words
use Rattle.cyc_syntax.specs.declared.tokens.Sign.{Sign}
use Rattle.cyc_syntax.specs.declared.tokens.Sign.TheVariants as signs
use Rattle.cyc_syntax.specs.declared.tree.PrefixOperator.{PrefixOperator}
use Rattle.cyc_syntax.specs.declared.tree.BinaryOperator.{BinaryOperator}
use Rattle.cyc_syntax.specs.Symbols.{Terminal, Identifier, Word, Mark, Symbol}
use Rattle.cyc_syntax.specs.Symbols as terminals
use Rattle.cyc_syntax.specs.Trees.{Named, Expression, NumberOfElements, LowByteOf, FreeUnique, Prefixed, New, RegionNew, Assign, Plain, MoreExpressions, Postfixes, NoPostfixes, ThenIndex, ThenField, Operations, NoOperations, ThenOperation}
use Rattle.cyc_syntax.specs.Yields.{Yield, prefix_sign, operator_sign}
use Rattle.cyc_syntax.specs.Yields as yields
use Rattle.cyc_syntax.specs.Grammar.{level, is_primary, IsExpression, IsInitial, AreExpressions, ArePostfixes, AreOperations, IsSomeExpression, max_nesting, max_items}
use Rattle.cyc_parse.specs.inside.Parsing.{Parser, TooDeep, TooLong, next, bind, refuse_item, opens_regions}
use Rattle.cyc_parse.specs.inside.Expressions.{begins_expression, begins_initial, prefix_operator, binary_operator, of_level, operator_at, chain_of, chained, binary_of, operations, climb, Nested, group, arguments, from_name, primary_by}
use Rattle.cyc_parse.specs.inside.Expressions.{primary, postfixes, with_postfixes, prefixed_by, unary_by, unary, assignment, binary, expression, more_values, values, fields, initial_from_name, array, initial_by, initial, nested}
use Rattle.cyc_parse.proofs.Rules.{Fits, leaf_of, leaf_at}
use Rattle.cyc_parse.proofs.OperatorSigns.{is_prefix_sign, is_operator_sign}
use Rattle.cyc_parse.proofs.Gives.{Gives, Follows, Spells, part_then, spelled_then, last_then, pure_gives, possibly, unexpected_gives, limit_gives, item_refusal_gives, gives_as, gives_instead, opened_item, opening_as}
use Rattle.cyc_parse.proofs.GivesSymbols.{some_place, sign_then, sign_item_then, word_then_at, identifier_then, advance_then, advance_leaf_then, choose_gives, test_gives, sees_gives, sees_limit_gives, is_gives}
use Rattle.cyc_parse.proofs.Openings.{named_at, zero_at, looser, expression_opened, group_opened, initial_opened}
use Rattle.cyc_parse.proofs.GivesTypes.{separated_gives, region_list_gives}

-- ---- levels

abbrev pub Level : ℕ → Expression → List Symbol → Type 0
Level k e rest = IsExpression k e

-- ---- operators

of_level_is : (k : ℕ) (b : Option BinaryOperator) (o : BinaryOperator) → of_level k b ≡ Some o → (b ≡ Some o) × (level o ≡ k)
of_level_is k None o h = absurd (cc)
of_level_is k (Some b) o h = go (nat_eq (level b) k) refl h
  where
    go : (x : Bool) → nat_eq (level b) k ≡ x → (if x then Some b else None) ≡ Some o → (Some b ≡ Some o) × (level o ≡ k)
    go true e h = (h, subst (λ (w : Option BinaryOperator). level_at w ≡ k) h (eqb-true (level b) k e))
      where
        level_at : Option BinaryOperator → ℕ
        level_at None = k
        level_at (Some o) = level o
    go false e h = absurd (cc)

operator_read : (k : ℕ) (u : Option Terminal) (o : BinaryOperator) → operator_at k u ≡ Some o → (u ≡ Some (Mark (operator_sign o))) × (level o ≡ k)
operator_read k (Some (Mark s)) o h = let (b, same) = of_level_is k (binary_operator s) o h in (ap (λ (w : Sign). Some (Mark w)) (is_operator_sign s o b), same)
operator_read k _ o h = absurd (cc)

module _ (d : ℕ) (shallow : d ≤ max_nesting) where
  operations_give : (operand : Parser Expression) (k : ℕ) → ((ts : List Symbol) → Gives operand (Spells (yields.expression d) (Level k)) ts)
      → (left i : ℕ) → left + i ≡ suc max_items → (ts : List Symbol) → Gives (operations operand (suc k) left) (Spells (yields.operations d i) (λ os _. AreOperations k os)) ts
  unfolding operations
  operations_give operand k h zero i count ts = is_gives (operator_at (suc k)) (λ o e. let (comes, same) = operator_read (suc k) (next ts) o e in limit_gives TooLong (Mark (operator_sign o)) comes (λ p. record {
    value = ThenOperation o p (zero_at p) NoOperations;
    leaf = record { terminal = Mark (operator_sign o); place = Some p; nesting = d; item = i };
    following = leaf_at d (terminals.Number 0) p ∷ [];
    terminal = refl;
    place = refl;
    post = (refl, (same, tt, tt));
  })) (pure_gives (refl, tt))
  operations_give operand k h (suc left) i count ts = is_gives (operator_at (suc k)) (λ o e. advance_leaf_then (λ p. record { terminal = Mark (operator_sign o); place = Some p; nesting = d; item = i }) (Mark (operator_sign o))
      ((operator_read (suc k) (next ts) o e).0) (λ _. refl) (λ _. shallow) (λ _. omega arith) (λ _. refl)
      (λ p mid. spelled_then (h mid) (λ r mid is. last_then (λ os. ThenOperation o p r os) (operations_give operand k h left (suc i) (omega arith) mid) (λ os rest are. (refl, ((operator_read (suc k) (next ts) o e).1, is, are))))))
      (pure_gives (refl, tt))

  binary_yield : (first : Expression) (os : Operations) → yields.expression d first ++ yields.operations d 1 os ≡ yields.expression d (binary_of first os)
  binary_yield first NoOperations = append-nil (yields.expression d first)
  binary_yield first (ThenOperation o p r os) = refl

  binary_is : (k : ℕ) (first : Expression) (os : Operations) → k < 10 → IsExpression k first → AreOperations k os → IsExpression (suc k) (binary_of first os)
  binary_is k first NoOperations few is are = looser k (suc k) (omega arith) first is
  binary_is k first (ThenOperation o p r os) few is are = (k, omega arith, few, is, tt, are)

  module _ (unary : Parser Expression) (h : (ts : List Symbol) → Gives unary (Spells (yields.expression d) (Level 0)) ts) where
    climb_gives : (k : ℕ) → k ≤ 10 → (e : Expression) → IsExpression 0 e → (ts : List Symbol) → Gives (climb unary k e) (Follows (yields.expression d e) (yields.expression d) (Level k)) ts
    unfolding climb
    climb_gives zero few e is ts = pure_gives (append-nil (yields.expression d e), is)
    climb_gives (suc k) few e is ts = part_then (climb_gives k (omega arith) e is ts) (λ first xs mid (eq, is1).
        last_then (binary_of first) (operations_give (bind unary (climb unary k)) k (λ s. spelled_then (h s) (λ r m is2. climb_gives k (omega arith) r is2 m)) max_items 1 refl mid)
        (λ os rest are. (sym (append_assoc (yields.expression d e) xs (yields.operations d 1 os)) ∙ ap (λ (zs : Yield). zs ++ yields.operations d 1 os) eq ∙ binary_yield first os, binary_is k first os few is1 are)))

-- ---- arguments

more_chain : (d i : ℕ) (es : List Expression) → yields.more (yields.expression d) d i es ≡ yields.more_arguments d i (chain_of es)
more_chain d i [] = refl
more_chain d i (e ∷ es) = ap (λ (ys : Yield). leaf_of d (Mark signs.Comma) ∷ (yields.item_number i (yields.expression d e) ++ ys)) (more_chain d (suc i) es)

chain_yield : (d : ℕ) (es : List Expression) → yields.separated (yields.expression d) d es ≡ yields.arguments d (chain_of es)
chain_yield d [] = refl
chain_yield d (e ∷ es) = ap (λ (ys : Yield). yields.item_number 1 (yields.expression d e) ++ ys) (more_chain d 2 es)

chain_are : (es : List Expression) → AllByRecursion (λ e. IsExpression 11 e) es → AreExpressions (chain_of es)
chain_are [] all = tt
chain_are (e ∷ es) (is, all) = (is, chain_are es all)

-- ---- the parsers at one depth

pub record NestedGive (d : ℕ) (inner : Nested) : Type 0 where
  pub unary : (ts : List Symbol) → Gives inner.unary (Spells (yields.expression d) (Level 0)) ts
  pub binary : (ts : List Symbol) → Gives inner.binary (Spells (yields.expression d) (Level 10)) ts
  pub expression : (ts : List Symbol) → Gives inner.expression (Spells (yields.expression d) (Level 11)) ts
  pub group : (ts : List Symbol) → Gives inner.group (Spells (λ e. leaf_of d (Mark signs.LeftParen) ∷ (yields.expression (suc d) e ++ leaf_of (suc d) (Mark signs.RightParen) ∷ [])) (Level 11)) ts
  pub initial : (ts : List Symbol) → Gives inner.initial (Spells (yields.initial d) (λ i _. IsInitial i)) ts

abbrev pub IsOperand : Expression → List Symbol → Type 0
IsOperand e rest = (is_primary e ≡ true) × IsExpression 0 e

module _ (room d : ℕ) (inner : Nested) (fits : Fits (suc room) d) (h : NestedGive (suc d) inner) where
  deeper : Fits room (suc d)
  deeper = omega arith

  shallow : d ≤ max_nesting
  shallow = omega arith

  group_gives : (ts : List Symbol) → Gives (group room inner) (Spells (λ e. leaf_of d (Mark signs.LeftParen) ∷ (yields.expression (suc d) e ++ leaf_of (suc d) (Mark signs.RightParen) ∷ [])) (Level 11)) ts
  group_gives ts = sign_then (suc room) d signs.LeftParen fits (λ _ mid. spelled_then (h.expression mid) (λ e mid is. sign_then room (suc d) signs.RightParen deeper (λ _ mid. pure_gives (refl, is))))

  arguments_give : (ts : List Symbol) → Gives (arguments room inner) (Spells (yields.arguments (suc d)) (λ es _. AreExpressions es)) ts
  arguments_give ts = sees_gives signs.RightParen (pure_gives (refl, tt))
      (last_then chain_of (separated_gives room (suc d) deeper begins_expression inner.expression (yields.expression (suc d)) (λ e. IsExpression 11 e) h.expression
      (λ u p begins. opening_as (λ e ls (eq, is). (eq, looser 0 11 (omega arith) e is)) (expression_opened (suc d) u p begins)) ts) (λ es rest all. (chain_yield (suc d) es, chain_are es all.1)))

  from_name_gives : (x : Named) (ts : List Symbol) → Gives (from_name room inner x) (Follows (leaf_at d (Identifier x.name) x.place ∷ []) (yields.expression d) IsOperand) ts
  from_name_gives x ts = sees_gives signs.LeftParen (sign_then (suc room) d signs.LeftParen fits (λ _ mid. spelled_then (arguments_give mid) (λ es mid are. sign_then room (suc d) signs.RightParen deeper (λ _ mid. pure_gives (refl, (refl, are))))))
      (pure_gives (refl, (refl, tt)))

  primary_by_gives : (o : Option Terminal) (ts : List Symbol) → next ts ≡ o → Gives (primary_by room inner o) (Spells (yields.expression d) IsOperand) ts
  primary_by_gives (Some (terminals.Number n)) ts e = advance_then d (terminals.Number n) e shallow (λ p mid. pure_gives (refl, (refl, tt)))
  primary_by_gives (Some (terminals.Character c)) ts e = advance_then d (terminals.Character c) e shallow (λ p mid. pure_gives (refl, (refl, tt)))
  primary_by_gives (Some (Identifier x)) ts e = advance_then d (Identifier x) e shallow (λ p mid. from_name_gives (record { name = x; place = p }) mid)
  primary_by_gives (Some (Word words.Null)) ts e = advance_then d (Word words.Null) e shallow (λ p mid. pure_gives (refl, (refl, tt)))
  primary_by_gives (Some (Word words.HeapRegion)) ts e = advance_then d (Word words.HeapRegion) e shallow (λ p mid. pure_gives (refl, (refl, tt)))
  primary_by_gives (Some (Word words.UniqueRegion)) ts e = advance_then d (Word words.UniqueRegion) e shallow (λ p mid. pure_gives (refl, (refl, tt)))
  primary_by_gives (Some (Word words.NumberOfElements)) ts e = advance_then d (Word words.NumberOfElements) e shallow (λ p mid. last_then (NumberOfElements p) (group_gives mid) (λ x rest is. (refl, (refl, is))))
  primary_by_gives (Some (Word words.Char)) ts e = advance_then d (Word words.Char) e shallow (λ p mid. last_then (LowByteOf p) (group_gives mid) (λ x rest is. (refl, (refl, is))))
  primary_by_gives (Some (Word words.FreeUnique)) ts e = advance_then d (Word words.FreeUnique) e shallow (λ p mid. last_then (FreeUnique p) (group_gives mid) (λ x rest is. (refl, (refl, is))))
  primary_by_gives (Some (Word words.FreeKey)) ts e = advance_then d (Word words.FreeKey) e shallow (λ p mid. sign_then (suc room) d signs.LeftParen fits (λ _ mid. identifier_then room (suc d) deeper (λ k mid. sign_then room (suc d) signs.RightParen deeper (λ _ mid. pure_gives (refl, (refl, tt))))))
  primary_by_gives (Some (Mark signs.LeftParen)) ts e = advance_then d (Mark signs.LeftParen) e shallow (λ p mid. spelled_then (h.expression mid) (λ x mid is. sign_then room (suc d) signs.RightParen deeper (λ _ mid. pure_gives (refl, (refl, is)))))
  primary_by_gives _ ts e = unexpected_gives (possibly (zero_at some_place) _ (refl, (refl, tt)))

  primary_gives : (ts : List Symbol) → Gives (primary room inner) (Spells (yields.expression d) IsOperand) ts
  unfolding primary
  primary_gives ts = choose_gives (λ o e. primary_by_gives o ts e)

  postfixes_give : (left i : ℕ) → left + i ≡ suc max_items → (ts : List Symbol) → Gives (postfixes room inner left) (Spells (yields.postfixes d i) (λ ps _. ArePostfixes ps)) ts
  unfolding postfixes
  postfixes_give zero i count ts = sees_limit_gives signs.LeftBracket TooLong (λ p. opened_item d i (Mark signs.LeftBracket) p (ThenIndex (zero_at p) NoPostfixes) _ (refl, (tt, tt)))
      (sees_limit_gives signs.Arrow TooLong (λ p. opened_item d i (Mark signs.Arrow) p (ThenField (named_at p) NoPostfixes) _ (refl, tt)) (pure_gives (refl, tt)))
  postfixes_give (suc left) i count ts =
      sees_gives signs.LeftBracket (sign_item_then (suc room) d i signs.LeftBracket fits (omega arith) (λ _ mid. spelled_then (h.expression mid) (λ e mid is. sign_then room (suc d) signs.RightBracket deeper
      (λ _ mid. last_then (ThenIndex e) (postfixes_give left (suc i) (omega arith) mid) (λ ps rest are. (refl, (is, are)))))))
      (sees_gives signs.Arrow (sign_item_then (suc room) d i signs.Arrow fits (omega arith) (λ _ mid. identifier_then (suc room) d fits (λ x mid. last_then (ThenField x) (postfixes_give left (suc i) (omega arith) mid) (λ ps rest are. (refl, are)))))
      (pure_gives (refl, tt)))

  chained_yield : (e : Expression) (ps : Postfixes) → yields.expression d e ++ yields.postfixes d 1 ps ≡ yields.expression d (chained e ps)
  chained_yield e NoPostfixes = append-nil (yields.expression d e)
  chained_yield e (ThenIndex i ps) = refl
  chained_yield e (ThenField x ps) = refl

  chained_is : (e : Expression) (ps : Postfixes) → is_primary e ≡ true → IsExpression 0 e → ArePostfixes ps → IsExpression 0 (chained e ps)
  chained_is e NoPostfixes prim is are = is
  chained_is e (ThenIndex i ps) prim is are = (prim, is, tt, are)
  chained_is e (ThenField x ps) prim is are = (prim, is, tt, are)

  with_postfixes_give : (before : Yield) (first : Parser Expression) (ts : List Symbol) → Gives first (Follows before (yields.expression d) IsOperand) ts
      → Gives (with_postfixes room inner first) (Follows before (yields.expression d) (Level 0)) ts
  with_postfixes_give before first ts k = part_then k (λ e xs mid (eq, (prim, is)). last_then (chained e) (postfixes_give max_items 1 refl mid)
      (λ ps rest are. (sym (append_assoc before xs (yields.postfixes d 1 ps)) ∙ ap (λ (zs : Yield). zs ++ yields.postfixes d 1 ps) eq ∙ chained_yield e ps, chained_is e ps prim is are)))

  -- The soundness statement `Gives` holds for the parser of an operand that begins with a given name.
  named_gives : (x : Named) (ts : List Symbol) → Gives (with_postfixes room inner (from_name room inner x)) (Follows (leaf_at d (Identifier x.name) x.place ∷ []) (yields.expression d) (Level 0)) ts
  named_gives x ts = with_postfixes_give (leaf_at d (Identifier x.name) x.place ∷ []) (from_name room inner x) ts (from_name_gives x ts)

  prefixed_by_gives : (s : Sign) (o : Option PrefixOperator) → prefix_operator s ≡ o → (ts : List Symbol) → next ts ≡ Some (Mark s) → Gives (prefixed_by room inner o) (Spells (yields.expression d) (Level 0)) ts
  prefixed_by_gives s (Some o) is ts e =
      advance_then d (Mark (prefix_sign o)) (e ∙ ap (λ (w : Sign). Some (Mark w)) (is_prefix_sign s o is)) shallow (λ p mid. last_then (Prefixed p o) (h.unary mid) (λ x rest is. (refl, is)))
  prefixed_by_gives s None is ts e = with_postfixes_give [] (primary room inner) ts (primary_gives ts)

  unary_by_gives : (o : Option Terminal) (ts : List Symbol) → next ts ≡ o → Gives (unary_by room inner o) (Spells (yields.expression d) (Level 0)) ts
  unary_by_gives (Some (Mark s)) ts e = prefixed_by_gives s (prefix_operator s) refl ts e
  unary_by_gives (Some (Word words.New)) ts e = advance_then d (Word words.New) e shallow (λ p mid. last_then (New p) (h.initial mid) (λ i rest is. (refl, is)))
  unary_by_gives (Some (Word words.RegionNew)) ts e = advance_then d (Word words.RegionNew) e shallow (λ p mid. spelled_then (h.group mid) (λ g mid isg. last_then (RegionNew p g) (h.initial mid)
      (λ i rest is. (ap (λ (zs : Yield). leaf_at d (Word words.RegionNew) p ∷ leaf_of (suc d) (Mark signs.LeftParen) ∷ zs) (append_assoc (yields.expression (suc (suc d)) g) (leaf_of (suc (suc d)) (Mark signs.RightParen) ∷ []) (yields.initial (suc d) i)), (isg, is)))))
  unary_by_gives _ ts e = with_postfixes_give [] (primary room inner) ts (primary_gives ts)

  unary_gives : (ts : List Symbol) → Gives (unary room inner) (Spells (yields.expression d) (Level 0)) ts
  unfolding unary
  unary_gives ts = choose_gives (λ o e. unary_by_gives o ts e)

  pub assignment_gives : (e : Expression) → IsExpression 10 e → (ts : List Symbol) → Gives (assignment room inner e) (Follows (yields.expression d e) (yields.expression d) (Level 11)) ts
  assignment_gives e is ts = sees_gives signs.Assign (sign_then (suc room) d signs.Assign fits (λ _ mid. last_then (Assign e) (h.expression mid) (λ v rest isv. (refl, (omega arith, is, isv)))))
      (pure_gives (append-nil (yields.expression d e), looser 10 11 (omega arith) e is))

  climbed_gives : (e : Expression) → IsExpression 0 e → (ts : List Symbol) → Gives (climb (unary room inner) 10 e) (Follows (yields.expression d e) (yields.expression d) (Level 10)) ts
  climbed_gives e is ts = climb_gives d shallow (unary room inner) unary_gives 10 (omega arith) e is ts

  -- The soundness statement `Gives` holds for the parser of chains of binary operators that begin with a given name.
  pub named_climb_gives : (x : Named) (ts : List Symbol) → Gives (bind (with_postfixes room inner (from_name room inner x)) (climb (unary room inner) 10)) (Follows (leaf_at d (Identifier x.name) x.place ∷ []) (yields.expression d) (Level 10)) ts
  named_climb_gives x ts = part_then (named_gives x ts) (λ e xs mid (eq, is). gives_as (λ y ys rest (e', is'). (ap (λ (zs : Yield). zs ++ ys) eq ∙ e', is')) (climbed_gives e is mid))

  binary_gives : (ts : List Symbol) → Gives (binary room inner) (Spells (yields.expression d) (Level 10)) ts
  binary_gives ts = spelled_then (unary_gives ts) (λ e mid is. climbed_gives e is mid)

  expression_gives : (ts : List Symbol) → Gives (expression room inner) (Spells (yields.expression d) (Level 11)) ts
  expression_gives ts = spelled_then (binary_gives ts) (λ e mid is. assignment_gives e is mid)

  -- ---- the initial contents of a new object

  more_values_give : (turns : ℕ) (ts : List Symbol) → Gives (more_values room inner turns) (Spells (yields.more_values (suc d)) (λ es _. AreExpressions es)) ts
  unfolding more_values
  more_values_give zero ts = pure_gives (refl, tt)
  more_values_give (suc turns) ts = sees_gives signs.Comma (sign_then room (suc d) signs.Comma deeper (λ _ mid. spelled_then (h.expression mid) (λ e mid is. last_then (MoreExpressions e) (more_values_give turns mid) (λ es rest are. (refl, (is, are))))))
      (pure_gives (refl, tt))

  values_give : (ts : List Symbol) → Gives (values room inner) (Spells (yields.values (suc d)) (λ es _. IsSomeExpression es × AreExpressions es)) ts
  values_give ts = spelled_then (h.expression ts) (λ e mid is. last_then (MoreExpressions e) (gives_instead (more_values room inner (length mid)) refl (more_values_give (length mid) mid)) (λ es rest are. (refl, (tt, (is, are)))))

  fields_give : (s : Named) (rs : List Named) (ts : List Symbol) → Gives (fields room inner s rs) (Follows (leaf_at d (Identifier s.name) s.place ∷ yields.region_list d rs) (yields.initial d) (λ i _. IsInitial i)) ts
  fields_give s rs ts = sign_then (suc room) d signs.LeftBrace fits (λ _ mid. spelled_then (values_give mid) (λ es mid are. sign_then room (suc d) signs.RightBrace deeper (λ _ mid. pure_gives (refl, are))))

  initial_from_name_gives : (s : Named) (ts : List Symbol) → Gives (initial_from_name room inner s) (Follows (leaf_at d (Identifier s.name) s.place ∷ []) (yields.initial d) (λ i _. IsInitial i)) ts
  initial_from_name_gives s ts = sees_gives signs.LeftBrace (fields_give s [] ts)
      (test_gives opens_regions (λ _. spelled_then (region_list_gives (suc room) d fits ts) (λ rs mid _. fields_give s rs mid))
      (λ _. part_then (named_gives s ts) (λ e xs mid (eq, is). pure_gives (ap (λ (zs : Yield). leaf_at d (Identifier s.name) s.place ∷ zs) (append-nil xs) ∙ eq, is))))

  array_gives : (ts : List Symbol) → Gives (array room inner) (Spells (yields.initial d) (λ i _. IsInitial i)) ts
  array_gives ts = sign_then (suc room) d signs.LeftBrace fits (λ _ mid. word_then_at room (suc d) words.For deeper (λ p mid. identifier_then room (suc d) deeper (λ x mid. sign_then room (suc d) signs.Less deeper (λ _ mid.
      spelled_then (h.binary mid) (λ n mid isn. sign_then room (suc d) signs.Colon deeper (λ _ mid. spelled_then (h.expression mid) (λ e mid ise. sign_then room (suc d) signs.RightBrace deeper (λ _ mid. pure_gives (refl, (isn, ise))))))))))

  initial_by_gives : (o : Option Terminal) (ts : List Symbol) → next ts ≡ o → Gives (initial_by room inner o) (Spells (yields.initial d) (λ i _. IsInitial i)) ts
  initial_by_gives (Some (Identifier x)) ts e = advance_then d (Identifier x) e shallow (λ p mid. initial_from_name_gives (record { name = x; place = p }) mid)
  initial_by_gives (Some (Mark signs.LeftBrace)) ts e = array_gives ts
  initial_by_gives _ ts e = last_then Plain (unary_gives ts) (λ x rest is. (refl, is))

  initial_gives : (ts : List Symbol) → Gives (initial room inner) (Spells (yields.initial d) (λ i _. IsInitial i)) ts
  unfolding initial
  initial_gives ts = choose_gives (λ o e. initial_by_gives o ts e)

pub nested_give : (room d : ℕ) → Fits room d → NestedGive d (nested room)
unfolding nested
nested_give zero d fits = record {
  unary = λ ts. stuck;
  binary = λ ts. gives_as (λ e ls rest (eq, is). (eq, looser 0 10 (omega arith) e is)) stuck;
  expression = λ ts. gives_as (λ e ls rest (eq, is). (eq, looser 0 11 (omega arith) e is)) stuck;
  group = λ ts. item_refusal_gives _ TooDeep (possibly (zero_at some_place) _ (refl, tt)) (group_opened d);
  initial = λ ts. item_refusal_gives begins_initial TooDeep (possibly (Plain (zero_at some_place)) _ (refl, tt)) (initial_opened d);
}
  where
    stuck : {ts : List Symbol} → Gives (refuse_item begins_expression TooDeep) (Spells (yields.expression d) (Level 0)) ts
    stuck = item_refusal_gives begins_expression TooDeep (possibly (zero_at some_place) _ (refl, tt)) (expression_opened d)
nested_give (suc room) d fits = let h = nested_give room (suc d) (omega arith) in record {
  unary = unary_gives room d (nested room) fits h;
  binary = binary_gives room d (nested room) fits h;
  expression = expression_gives room d (nested room) fits h;
  group = group_gives room d (nested room) fits h;
  initial = initial_gives room d (nested room) fits h;
}
