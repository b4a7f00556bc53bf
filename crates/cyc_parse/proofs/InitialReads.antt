-- The operand of `new` is parsed back from its yield, and so is every expression.
use Rattle.std.proofs.Common.{◌≡◌, ℕ, zero, suc, ◌≤◌, ◌<◌, Bool, true, false, cond, List, [], ◌∷◌, ◌++◌, length, Some, refl, sym, ap, subst, ◌∙◌, arith, length-append, inl, inr}
use Rattle.std.proofs.lemmas.Bool.Decides.{eqb_tells}
use Rattle.cyc_words.proofs.Numbers.{below_when_not_last}
use Rattle.cyc_syntax.specs.declared.tokens.Keyword.TheVariants as words
use Rattle.cyc_syntax.specs.declared.tokens.Sign.TheVariants as signs
use Rattle.cyc_syntax.specs.Symbols.{Place, Terminal, Identifier, RegionName, Word, Mark, Symbol}
use Rattle.cyc_syntax.specs.Symbols as terminals
use Rattle.cyc_syntax.specs.Trees.{Named, Expression, Number, Character, Null, HeapRegion, UniqueRegion, Variable, Call, Bracketed, NumberOfElements, LowByteOf, FreeUnique, FreeKey, Chained, Prefixed, New, RegionNew}
use Rattle.cyc_syntax.specs.Trees.{Binary, Assign, Initial, Plain, Fields, Array, Expressions, NoExpressions, MoreExpressions, Postfixes, NoPostfixes, ThenIndex, ThenField, Operations, NoOperations, ThenOperation}
use Rattle.cyc_syntax.specs.Yields.{Yield}
use Rattle.cyc_syntax.specs.Yields as yields
use Rattle.cyc_syntax.specs.Grammar.{IsExpression, AreExpressions, ArePostfixes, AreOperations, IsInitial, IsSomePostfix, IsSomeOperation, IsSomeExpression}
use Rattle.cyc_parse.specs.inside.Parsing.{Parser, pure, sees, sees_terminal, if_sees, bind, choose, opens_regions, region_list}
use Rattle.cyc_parse.specs.inside.Expressions.{begins_expression, begins_initial, nested, from_name, primary, chained, with_postfixes, unary, unary_by, climb, assignment, initial, initial_by, fields, values, more_values}
use Rattle.cyc_parse.proofs.Rules.{Front, Reads, Fits, Always, leaf_of, leaf_at, front-next, front-length, then_reads, last_reads, pure_reads, reads_instead, word_reads_at, sign_reads, identifier_reads, choose_reads, advance_reads_at, sees_reads, unseen_reads, deep_reads, between_then}
use Rattle.cyc_parse.proofs.Lists.{EndsList}
use Rattle.cyc_parse.proofs.Stops.{Stops, stops_leaf, no_brace, no_regions, binds, binds_terminal}
use Rattle.cyc_parse.proofs.Starts.{expression_starts, initial_starts, IsSecond, alone, goes_on, second_goes_on}
use Rattle.cyc_parse.proofs.RegionReads.{region_list_reads, regions_open, regions_next}
use Rattle.cyc_parse.proofs.OperatorReads.{OperationParts, climb_more, chain_reads}
use Rattle.cyc_parse.proofs.ExpressionReads.{deeper, shallow, ReadsDeeper, AreRead, list_of, PostfixParts}
use Rattle.cyc_parse.proofs.OperandReads.{IsReadAll, IsInitialRead, from_unary, chained_reads, alone_reads, prefixed_reads, new_reads, nested_group_reads, unassigned, deep_operand, deep_expression}

module _ (room d : ℕ) (fits : Fits (suc room) d) where
  pub region_new_reads : (p : Place) (h : Expression) (i : Initial) → IsReadAll h → IsExpression 11 h → Reads (nested room).initial i (yields.initial (suc d) i) (Stops 0)
      → Reads (unary room (nested room)) (RegionNew p h i) (yields.expression d (RegionNew p h i)) (Stops 0)
  unfolding unary
  region_new_reads p h i all is init = choose_reads (unary_by room (nested room)) (leaf_at d (Word words.RegionNew) p) _ (advance_reads_at d (Word words.RegionNew) p _ (shallow room d fits)
      (between_then _ _ (yields.expression (suc (suc d)) h) (yields.initial (suc d) i)
      (then_reads _ (nested_group_reads room (suc d) (deeper room d fits) h Always all is) (last_reads (λ (v : Initial). pure (RegionNew p h v)) (λ ts. refl) init) (λ mid rest front ends. tt))))

-- ---- the values of a struct's fields

-- Conditions on the symbols that may follow the values of a struct's fields.
abbrev pub EndsValues : List Symbol → Type 0
EndsValues = EndsList (Stops 11)

abbrev pub count : Expressions → ℕ
count NoExpressions = 0
count (MoreExpressions e es) = suc (count es)

count-length : (d : ℕ) (es : Expressions) → count es ≤ length (yields.more_values d es)
count-length d NoExpressions = omega arith
count-length d (MoreExpressions e es) = omega (arith, count-length d es, length-append (yields.expression d e) (yields.more_values d es))

values_end : (d : ℕ) (es : Expressions) (mid rest : List Symbol) → Front (yields.more_values d es) mid rest → EndsValues rest → Stops 11 mid
values_end d NoExpressions mid rest front ends = subst (λ (ts : List Symbol). Stops 11 ts) (sym front) ends.item
values_end d (MoreExpressions e es) mid rest front ends = stops_leaf 11 (leaf_of d (Mark signs.Comma)) _ mid rest refl (omega arith) front

module _ (room d : ℕ) (fits : Fits room d) where
  more_values_reads : (turns : ℕ) (es : Expressions) → count es ≤ turns → AreRead room d (list_of es) → Reads (more_values room (nested room) turns) es (yields.more_values d es) EndsValues
  unfolding more_values
  more_values_reads zero NoExpressions few all = pure_reads NoExpressions EndsValues
  more_values_reads zero (MoreExpressions e es) few all = absurd (omega arith)
  more_values_reads (suc turns) NoExpressions few all = unseen_reads signs.Comma _ _ (λ ts rest front ends. ap (sees signs.Comma) front ∙ ends.comma) (pure_reads NoExpressions EndsValues)
  more_values_reads (suc turns) (MoreExpressions e es) few (one, all) = sees_reads signs.Comma _ _ (leaf_of d (Mark signs.Comma)) _ refl
      (sign_reads room d signs.Comma _ fits (λ p. then_reads _ one (last_reads (λ (v : Expressions). pure (MoreExpressions e v)) (λ ts. refl) (more_values_reads turns es (omega arith) all))
      (λ mid rest front ends. values_end d es mid rest front ends)))

  all_values_reads : (es : Expressions) → AreRead room d (list_of es) → Reads (λ ts. more_values room (nested room) (length ts) ts) es (yields.more_values d es) EndsValues
  all_values_reads es all = record { reads = λ ts rest front ends. (more_values_reads (length ts) es (omega (arith, count-length d es, front-length (yields.more_values d es) ts rest front)) all).reads ts rest front ends }

  pub values_reads : (e : Expression) (es : Expressions) → AreRead room d (e ∷ list_of es) → Reads (values room (nested room)) (MoreExpressions e es) (yields.values d (MoreExpressions e es)) EndsValues
  values_reads e es (one, all) = then_reads _ one (last_reads (λ (v : Expressions). pure (MoreExpressions e v)) (λ ts. refl) (all_values_reads es all)) (λ mid rest front ends. values_end d es mid rest front ends)

-- ---- initial values

module _ (room d : ℕ) (fits : Fits (suc room) d) where
  pub fields_reads : (s : Named) (rs : List Named) (e : Expression) (es : Expressions) (Ends : List Symbol → Type 0) → AreRead room (suc d) (e ∷ list_of es)
      → Reads (fields room (nested room) s rs) (Fields s rs (MoreExpressions e es)) (leaf_of d (Mark signs.LeftBrace) ∷ (yields.values (suc d) (MoreExpressions e es) ++ leaf_of (suc d) (Mark signs.RightBrace) ∷ [])) Ends
  fields_reads s rs e es Ends all = sign_reads (suc room) d signs.LeftBrace _ fits (λ p. then_reads _ (values_reads room (suc d) (deeper room d fits) e es all)
      (sign_reads room (suc d) signs.RightBrace _ (deeper room d fits) (λ q. pure_reads (Fields s rs (MoreExpressions e es)) Ends))
      (λ mid rest front ends. record { item = stops_leaf 11 (leaf_of (suc d) (Mark signs.RightBrace)) [] mid rest refl (omega arith) front; comma = ap (sees_terminal signs.Comma) (front-next (leaf_of (suc d) (Mark signs.RightBrace)) [] mid rest front) }))

  pub struct_reads : (s : Named) (rs : List Named) (e : Expression) (es : Expressions) → AreRead room (suc d) (e ∷ list_of es)
      → Reads (initial room (nested room)) (Fields s rs (MoreExpressions e es)) (yields.initial d (Fields s rs (MoreExpressions e es))) (Stops 0)
  unfolding initial
  struct_reads s [] e es all = choose_reads (initial_by room (nested room)) (leaf_at d (Identifier s.name) s.place) _ (advance_reads_at d (Identifier s.name) s.place _ (shallow room d fits)
      (sees_reads signs.LeftBrace _ _ (leaf_of d (Mark signs.LeftBrace)) _ refl (fields_reads s [] e es (Stops 0) all)))
  struct_reads s (r ∷ rs) e es all = choose_reads (initial_by room (nested room)) (leaf_at d (Identifier s.name) s.place) _ (advance_reads_at d (Identifier s.name) s.place _ (shallow room d fits)
      (unseen_reads signs.LeftBrace _ _ (λ ts rest front ends. ap (sees_terminal signs.LeftBrace) (regions_next d r rs _ ts rest front))
      (reads_instead (bind (region_list (suc room)) (λ (v : List Named). fields room (nested room) s v))
      (λ ts rest front ends. ap (λ (b : Bool). (cond b (bind (region_list (suc room)) (λ (v : List Named). fields room (nested room) s v)) (bind (with_postfixes room (nested room) (from_name room (nested room) s)) (λ v. pure (Plain v)))) ts) (regions_open d r rs _ ts rest front))
      (then_reads _ (region_list_reads (suc room) d fits (shallow room d fits) r rs Always) (fields_reads s (r ∷ rs) e es (Stops 0) all) (λ mid rest front ends. tt)))))

  pub array_reads : (p : Place) (x : Named) (n e : Expression) → Reads (nested room).binary n (yields.expression (suc d) n) (Stops 10) → ReadsDeeper room (suc d) e
      → Reads (initial room (nested room)) (Array p x n e) (yields.initial d (Array p x n e)) (Stops 0)
  unfolding initial
  array_reads p x n e bound element = choose_reads (initial_by room (nested room)) (leaf_of d (Mark signs.LeftBrace)) _ (sign_reads (suc room) d signs.LeftBrace _ fits (λ q.
      word_reads_at room (suc d) words.For p _ (deeper room d fits) (identifier_reads room (suc d) x _ (deeper room d fits) (sign_reads room (suc d) signs.Less _ (deeper room d fits) (λ q.
      then_reads _ bound (sign_reads room (suc d) signs.Colon _ (deeper room d fits) (λ q.
      then_reads _ element (sign_reads room (suc d) signs.RightBrace _ (deeper room d fits) (λ q. pure_reads (Array p x n e) (Stops 0)))
      (λ mid rest front ends. stops_leaf 11 (leaf_of (suc d) (Mark signs.RightBrace)) [] mid rest refl (omega arith) front)))
      (λ mid rest front ends. stops_leaf 10 (leaf_of (suc d) (Mark signs.Colon)) _ mid rest refl (omega arith) front))))))

  -- ---- a plain expression

  -- If a name does not open a struct's fields, the parser of initial values parses it as an expression.
  on_name : (x : ℕ) (t : Symbol) (more : List Symbol) → t.terminal ≡ Identifier x → sees signs.LeftBrace more ≡ false → opens_regions more ≡ false
      → initial room (nested room) (t ∷ more) ≡ bind (unary room (nested room)) (λ v. pure (Plain v)) (t ∷ more)
  unfolding initial unary choose if_sees bind primary
  on_name x t more named plain closed = rw (named) (rw (plain) (rw (closed) refl))

  not_name : (t : Terminal) → begins_expression t ≡ true → ((x : ℕ) → t ≡ Identifier x → ⊥) → initial_by room (nested room) (Some t) ≡ bind (unary room (nested room)) (λ v. pure (Plain v))
  not_name (Identifier x) h other = absurd (other x refl)
  not_name (Mark signs.LeftBrace) h other = absurd (cc)
  not_name (Mark _) h other = refl
  not_name _ h other = refl

-- The symbol after a name at the start of an operand is not `<`.
low_not_less : (t : Terminal) → binds_terminal t ≤ 0 → sees_terminal signs.Less (Some t) ≡ false
low_not_less (Mark signs.Less) h = absurd (omega arith)
low_not_less (Mark _) h = refl
low_not_less _ h = refl

pub record NamesNoStruct (ts : List Symbol) : Type 0 where
  pub plain : sees signs.LeftBrace ts ≡ false
  pub closed : opens_regions ts ≡ false

no_struct : {others : Yield} (more rest : List Symbol) → IsSecond 0 others → Front others more rest → Stops 0 rest → NamesNoStruct more
no_struct more rest alone front ends = record { plain = ap (sees signs.LeftBrace) front ∙ no_brace rest ends; closed = ap opens_regions front ∙ no_regions rest ends }
no_struct more rest (goes_on leaf ys binds plain) (u, us, e, is_leaf, front) ends = record {
  plain = ap (sees signs.LeftBrace) e ∙ ap (λ (t : Terminal). sees_terminal signs.LeftBrace (Some t)) is_leaf.terminal ∙ plain;
  closed = ap opens_regions e ∙ rw (is_leaf.terminal) (rw (low_not_less leaf.terminal binds) refl);
}

module _ (room d : ℕ) (fits : Fits (suc room) d) where
  on_other : (t : Symbol) (more : List Symbol) (p : Parser Initial) → initial_by room (nested room) (Some t.terminal) ≡ p → initial room (nested room) (t ∷ more) ≡ p (t ∷ more)
  unfolding initial choose
  on_other t more p same = ap (λ (q : Parser Initial). q (t ∷ more)) same

  module _ (e : Expression) (is : IsExpression 0 e) where
    by_terminal : (u : Terminal) → (expression_starts d e).first.terminal ≡ u → (t : Symbol) (more rest : List Symbol) → t.terminal ≡ u → Front (expression_starts d e).others more rest → Stops 0 rest
        → initial room (nested room) (t ∷ more) ≡ bind (unary room (nested room)) (λ v. pure (Plain v)) (t ∷ more)
    by_terminal (Identifier x) same t more rest named front ends =
        let k : NamesNoStruct more = no_struct more rest (second_goes_on 0 d e x is same) front ends in on_name room d fits x t more named k.plain k.closed
    by_terminal (Mark s) same t more rest named front ends = on_other t more (bind (unary room (nested room)) (λ v. pure (Plain v))) (ap (λ (v : Terminal). initial_by room (nested room) (Some v)) named ∙ not_name room d fits (Mark s) (ap begins_expression (sym same) ∙ (expression_starts d e).begin) (λ x k. cc))
    by_terminal (Word w) same t more rest named front ends = on_other t more (bind (unary room (nested room)) (λ v. pure (Plain v))) (ap (λ (v : Terminal). initial_by room (nested room) (Some v)) named ∙ not_name room d fits (Word w) (ap begins_expression (sym same) ∙ (expression_starts d e).begin) (λ x k. cc))
    by_terminal (RegionName r) same t more rest named front ends = on_other t more (bind (unary room (nested room)) (λ v. pure (Plain v))) (ap (λ (v : Terminal). initial_by room (nested room) (Some v)) named ∙ not_name room d fits (RegionName r) (ap begins_expression (sym same) ∙ (expression_starts d e).begin) (λ x k. cc))
    by_terminal (terminals.Number n) same t more rest named front ends = on_other t more (bind (unary room (nested room)) (λ v. pure (Plain v))) (ap (λ (v : Terminal). initial_by room (nested room) (Some v)) named ∙ not_name room d fits (terminals.Number n) (ap begins_expression (sym same) ∙ (expression_starts d e).begin) (λ x k. cc))
    by_terminal (terminals.Character c) same t more rest named front ends = on_other t more (bind (unary room (nested room)) (λ v. pure (Plain v))) (ap (λ (v : Terminal). initial_by room (nested room) (Some v)) named ∙ not_name room d fits (terminals.Character c) (ap begins_expression (sym same) ∙ (expression_starts d e).begin) (λ x k. cc))

    at_first : (ts rest : List Symbol) → Front ((expression_starts d e).first ∷ (expression_starts d e).others) ts rest → Stops 0 rest → initial room (nested room) ts ≡ bind (unary room (nested room)) (λ v. pure (Plain v)) ts
    at_first ts rest (t, more, eq, is_leaf, front) ends =
        subst (λ (w : List Symbol). initial room (nested room) w ≡ bind (unary room (nested room)) (λ v. pure (Plain v)) w) (sym eq) (by_terminal ((expression_starts d e).first.terminal) refl t more rest is_leaf.terminal front ends)

    pub plain_reads : Reads (unary room (nested room)) e (yields.expression d e) (Stops 0) → Reads (initial room (nested room)) (Plain e) (yields.initial d (Plain e)) (Stops 0)
    plain_reads h = reads_instead (bind (unary room (nested room)) (λ v. pure (Plain v)))
        (λ ts rest front ends. at_first ts rest (subst (λ (ys : Yield). Front ys ts rest) (expression_starts d e).are front) ends)
        (last_reads (λ (v : Expression). pure (Plain v)) (λ ts. refl) h)

-- ---- all expressions

binary_read : (e : Expression) → IsReadAll e → (room d : ℕ) → Fits room d → IsExpression 10 e → Reads (nested room).binary e (yields.expression d e) (Stops 10)
unfolding nested
binary_read e h zero d fits is = deep_reads begins_expression d (omega arith) (expression_starts d e)
binary_read e h (suc room) d fits is = h.operand 10 (suc room) d fits (omega arith) is

-- An initial value is parsed back at every depth if it is parsed back where nesting levels are left.
initial_read : (i : Initial) → ((room d : ℕ) → Fits (suc room) d → IsInitial i → Reads (initial room (nested room)) i (yields.initial d i) (Stops 0)) → IsInitialRead i
unfolding nested
initial_read i h = record { reads = at }
  where
    at : (room d : ℕ) → Fits room d → IsInitial i → Reads (nested room).initial i (yields.initial d i) (Stops 0)
    at zero d fits is = deep_reads begins_initial d (omega arith) (initial_starts d i)
    at (suc room) d fits is = h room d fits is

-- A chain of binary operators is parsed back from its yield.
chain_read : (e : Expression) (os : Operations) → IsReadAll e → ((below room d : ℕ) → Fits (suc room) d → AreOperations below os → below ≤ 10 → OperationParts (bind (nested (suc room)).unary (climb (nested (suc room)).unary below)) below d os) → IsReadAll (Binary e os)
chain_read e os h parts = record { unary = at_unary; operand = at_operand; expression = at_expression; parts = λ room d fits is. tt }
  where
    at_unary : (room d : ℕ) → Fits room d → IsExpression 0 (Binary e os) → Reads (nested room).unary (Binary e os) (yields.expression d (Binary e os)) (Stops 0)
    at_unary room d fits (below, less, limit, first, some, are) = absurd (omega arith)

    climbing : (k below room d : ℕ) → Fits (suc room) d → below < k → below < 10 → IsExpression below e → IsSomeOperation os → AreOperations below os
        → Reads (bind (nested (suc room)).unary (climb (nested (suc room)).unary k)) (Binary e os) (yields.expression d (Binary e os)) (Stops k)
    climbing zero below room d fits less limit first some are = absurd (omega arith)
    climbing (suc k) below room d fits less limit first some are = elim (eqb_tells below k) [
      | inl same ↦ subst (λ (n : ℕ). Reads (bind (nested (suc room)).unary (climb (nested (suc room)).unary (suc n))) (Binary e os) (yields.expression d (Binary e os)) (Stops (suc n))) same.1
          (chain_reads (nested (suc room)).unary below d (shallow room d fits) e os some (h.operand below (suc room) d fits (omega arith) first) (parts below room d fits are (omega arith)))
      | inr other ↦ climb_more (nested (suc room)).unary k (climbing k below room d fits (below_when_not_last below k less other.1) limit first some are)
    ]

    at_operand : (k room d : ℕ) → Fits room d → k ≤ 10 → IsExpression k (Binary e os) → Reads (bind (nested room).unary (climb (nested room).unary k)) (Binary e os) (yields.expression d (Binary e os)) (Stops k)
    at_operand k zero d fits few is = deep_operand k d fits (Binary e os)
    at_operand k (suc room) d fits few (below, less, limit, first, some, are) = climbing k below room d fits less limit first some are

    at_expression : (room d : ℕ) → Fits room d → IsExpression 11 (Binary e os) → Reads (nested room).expression (Binary e os) (yields.expression d (Binary e os)) (Stops 11)
    at_expression zero d fits is = deep_expression d fits (Binary e os)
    at_expression (suc room) d fits (below, less, limit, first, some, are) = unassigned room d (climbing 10 below room d fits limit limit first some are)

-- An assignment expression is parsed back from its yield.
assign_read : (a b : Expression) → IsReadAll a → IsReadAll b → IsReadAll (Assign a b)
unfolding nested
assign_read a b left right = record { unary = at_unary; operand = at_operand; expression = at_expression; parts = λ room d fits is. tt }
  where
    at_unary : (room d : ℕ) → Fits room d → IsExpression 0 (Assign a b) → Reads (nested room).unary (Assign a b) (yields.expression d (Assign a b)) (Stops 0)
    at_unary room d fits (most, is_a, is_b) = absurd (omega arith)

    at_operand : (k room d : ℕ) → Fits room d → k ≤ 10 → IsExpression k (Assign a b) → Reads (bind (nested room).unary (climb (nested room).unary k)) (Assign a b) (yields.expression d (Assign a b)) (Stops k)
    at_operand k room d fits few (most, is_a, is_b) = absurd (omega arith)

    at_expression : (room d : ℕ) → Fits room d → IsExpression 11 (Assign a b) → Reads (nested room).expression (Assign a b) (yields.expression d (Assign a b)) (Stops 11)
    at_expression zero d fits is = deep_expression d fits (Assign a b)
    at_expression (suc room) d fits (most, is_a, is_b) = then_reads (assignment room (nested room)) (left.operand 10 (suc room) d fits (omega arith) is_a)
        (sees_reads signs.Assign _ _ (leaf_of d (Mark signs.Assign)) _ refl (sign_reads (suc room) d signs.Assign _ fits (λ p. last_reads (λ (v : Expression). pure (Assign a v)) (λ ts. refl) (right.expression room (suc d) (deeper room d fits) is_b))))
        (λ mid rest front ends. stops_leaf 10 (leaf_of d (Mark signs.Assign)) _ mid rest refl (omega arith) front)

-- ---- induction on trees

abbrev pub OperandsRead : Operations → Type 0
OperandsRead NoOperations = Unit {0}
OperandsRead (ThenOperation o p e os) = IsReadAll e × OperandsRead os

abbrev pub IndicesRead : Postfixes → Type 0
IndicesRead NoPostfixes = Unit {0}
IndicesRead (ThenIndex e ps) = IsReadAll e × IndicesRead ps
IndicesRead (ThenField x ps) = IndicesRead ps

abbrev pub AllRead : Expressions → Type 0
AllRead NoExpressions = Unit {0}
AllRead (MoreExpressions e es) = IsReadAll e × AllRead es

pub read_deeper : (es : Expressions) → AllRead es → AreExpressions es → (room d : ℕ) → Fits room d → AreRead room d (list_of es)
read_deeper NoExpressions all are room d fits = tt
read_deeper (MoreExpressions e es) (one, all) (is, are) room d fits = (one.expression room d fits is, read_deeper es all are room d fits)

postfix_parts : (ps : Postfixes) → IndicesRead ps → ArePostfixes ps → (room d : ℕ) → Fits (suc room) d → PostfixParts room d ps
postfix_parts NoPostfixes all are room d fits = tt
postfix_parts (ThenIndex e ps) (one, all) (is, are) room d fits = (one.expression room (suc d) (deeper room d fits) is, postfix_parts ps all are room d fits)
postfix_parts (ThenField x ps) all are room d fits = postfix_parts ps all are room d fits

operation_parts : (os : Operations) → OperandsRead os → (below room d : ℕ) → Fits (suc room) d → AreOperations below os → below ≤ 10 → OperationParts (bind (nested (suc room)).unary (climb (nested (suc room)).unary below)) below d os
operation_parts NoOperations all below room d fits are few = tt
operation_parts (ThenOperation o p e os) (one, all) below room d fits (same, is, are) few = (same, one.operand below (suc room) d fits few is, operation_parts os all below room d fits are few)

some-chained : (e : Expression) (ps : Postfixes) → IsSomePostfix ps → chained e ps ≡ Chained e ps
some-chained e NoPostfixes some = absurd some
some-chained e (ThenIndex i ps) some = refl
some-chained e (ThenField x ps) some = refl

unnested_reads : (room : ℕ) {e : Expression} {xs : Yield} → Reads (nested (suc room)).unary e xs (Stops 0) → Reads (unary room (nested room)) e xs (Stops 0)
unfolding nested
unnested_reads room h = h

struct_read : (room d : ℕ) → Fits (suc room) d → (s : Named) (rs : List Named) (es : Expressions) → IsSomeExpression es → AreRead room (suc d) (list_of es) → Reads (initial room (nested room)) (Fields s rs es) (yields.initial d (Fields s rs es)) (Stops 0)
struct_read room d fits s rs NoExpressions some all = absurd some
struct_read room d fits s rs (MoreExpressions e es) some all = struct_reads room d fits s rs e es all

mutual
  -- EVERY EXPRESSION is parsed back from its yield.
  pub all_read : (e : Expression) → IsReadAll e
  all_read (Number p n) = from_unary (Number p n) (λ k is. is) (λ room d fits is. alone_reads room d fits (Number p n) refl tt) (λ room d fits is. tt)
  all_read (Character p c) = from_unary (Character p c) (λ k is. is) (λ room d fits is. alone_reads room d fits (Character p c) refl tt) (λ room d fits is. tt)
  all_read (Null p) = from_unary (Null p) (λ k is. is) (λ room d fits is. alone_reads room d fits (Null p) refl tt) (λ room d fits is. tt)
  all_read (HeapRegion p) = from_unary (HeapRegion p) (λ k is. is) (λ room d fits is. alone_reads room d fits (HeapRegion p) refl tt) (λ room d fits is. tt)
  all_read (UniqueRegion p) = from_unary (UniqueRegion p) (λ k is. is) (λ room d fits is. alone_reads room d fits (UniqueRegion p) refl tt) (λ room d fits is. tt)
  all_read (Variable x) = from_unary (Variable x) (λ k is. is) (λ room d fits is. alone_reads room d fits (Variable x) refl tt) (λ room d fits is. tt)
  all_read (Call f es) = from_unary (Call f es) (λ k is. is) (λ room d fits is. alone_reads room d fits (Call f es) refl (read_deeper es (list_read es) is room (suc d) (deeper room d fits))) (λ room d fits is. read_deeper es (list_read es) is room (suc d) (deeper room d fits))
  all_read (Bracketed p e) = from_unary (Bracketed p e) (λ k is. is) (λ room d fits is. alone_reads room d fits (Bracketed p e) refl ((all_read e).expression room (suc d) (deeper room d fits) is)) (λ room d fits is. (all_read e).expression room (suc d) (deeper room d fits) is)
  all_read (NumberOfElements p e) = from_unary (NumberOfElements p e) (λ k is. is) (λ room d fits is. alone_reads room d fits (NumberOfElements p e) refl ((all_read e).expression room (suc d) (deeper room d fits) is)) (λ room d fits is. (all_read e).expression room (suc d) (deeper room d fits) is)
  all_read (LowByteOf p e) = from_unary (LowByteOf p e) (λ k is. is) (λ room d fits is. alone_reads room d fits (LowByteOf p e) refl ((all_read e).expression room (suc d) (deeper room d fits) is)) (λ room d fits is. (all_read e).expression room (suc d) (deeper room d fits) is)
  all_read (FreeUnique p e) = from_unary (FreeUnique p e) (λ k is. is) (λ room d fits is. alone_reads room d fits (FreeUnique p e) refl ((all_read e).expression room (suc d) (deeper room d fits) is)) (λ room d fits is. (all_read e).expression room (suc d) (deeper room d fits) is)
  all_read (FreeKey p x) = from_unary (FreeKey p x) (λ k is. is) (λ room d fits is. alone_reads room d fits (FreeKey p x) refl tt) (λ room d fits is. tt)
  all_read (Chained e ps) = from_unary (Chained e ps) (λ k is. is) (λ room d fits (primary, tight, some, are).
      subst (λ (v : Expression). Reads (unary room (nested room)) v (yields.expression d (Chained e ps)) (Stops 0)) (some-chained e ps some)
      (chained_reads room d fits e ps primary ((all_read e).parts room d fits tight) (postfix_parts ps (indices_read ps) are room d fits))) (λ room d fits is. tt)
  all_read (Prefixed p o e) = from_unary (Prefixed p o e) (λ k is. is) (λ room d fits is. prefixed_reads room d fits p o e ((all_read e).unary room (suc d) (deeper room d fits) is)) (λ room d fits is. tt)
  all_read (New p i) = from_unary (New p i) (λ k is. is) (λ room d fits is. new_reads room d fits p i ((value_read i).reads room (suc d) (deeper room d fits) is)) (λ room d fits is. tt)
  all_read (RegionNew p h i) = from_unary (RegionNew p h i) (λ k is. is) (λ room d fits (handle, value). region_new_reads room d fits p h i (all_read h) handle ((value_read i).reads room (suc d) (deeper room d fits) value)) (λ room d fits is. tt)
  all_read (Binary e os) = chain_read e os (all_read e) (operation_parts os (operands_read os))
  all_read (Assign a b) = assign_read a b (all_read a) (all_read b)

  pub value_read : (i : Initial) → IsInitialRead i
  value_read (Plain e) = initial_read (Plain e) (λ room d fits is. plain_reads room d fits e is (unnested_reads room ((all_read e).unary (suc room) d fits is)))
  value_read (Fields s rs es) = initial_read (Fields s rs es) (λ room d fits (some, are). struct_read room d fits s rs es some (read_deeper es (list_read es) are room (suc d) (deeper room d fits)))
  value_read (Array p x n e) = initial_read (Array p x n e) (λ room d fits (bound, element). array_reads room d fits p x n e (binary_read n (all_read n) room (suc d) (deeper room d fits) bound) ((all_read e).expression room (suc d) (deeper room d fits) element))

  list_read : (es : Expressions) → AllRead es
  list_read NoExpressions = tt
  list_read (MoreExpressions e es) = (all_read e, list_read es)

  indices_read : (ps : Postfixes) → IndicesRead ps
  indices_read NoPostfixes = tt
  indices_read (ThenIndex e ps) = (all_read e, indices_read ps)
  indices_read (ThenField x ps) = indices_read ps

  operands_read : (os : Operations) → OperandsRead os
  operands_read NoOperations = tt
  operands_read (ThenOperation o p e os) = (all_read e, operands_read os)
