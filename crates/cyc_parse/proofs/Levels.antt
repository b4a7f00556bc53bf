-- Facts about the parsers at a nesting level or a precedence level that is not the last.
use Rattle.std.proofs.Common.{◌≡◌, ℕ, zero, suc, ◌+◌, ◌-◌, ◌<◌, ◌≤◌, Bool, true, false, ◌&&◌, cond, inl, inr, List, [], ◌∷◌, map, length, Option, None, Some, Ok, Err, refl, sym, ap, ◌∙◌, arith}
use Rattle.std.proofs.lemmas.Bool.{leb-true, le-leb, ltb-true, lt-ltb, ne_eqb}
use Rattle.std.proofs.lemmas.Bool.Decides.{eqb_tells}
use Rattle.std.specs.Prelude.{nat_lt, is_some}
use Rattle.std.specs.declared.vec.Vec.{Vec}
use Rattle.std.specs.declared.boxed.Box.{Box}
use Rattle.std.specs.declared.alloc.Global.{Global as Heap}
use Rattle.cyc_words.proofs.Booleans.{and_false_not_both}
use Rattle.cyc_words.proofs.Options.{cond-some_same, cond-some_none}
use Rattle.cyc_syntax.specs.declared.tree.BinaryOperator.{BinaryOperator}
use Rattle.cyc_syntax.specs.declared.tree.Expr.{Expr}
use Rattle.cyc_syntax.specs.declared.tree.Expr.TheVariants as expr
use Rattle.cyc_syntax.specs.declared.tree.Postfix.{Postfix}
use Rattle.cyc_syntax.specs.declared.tree.Postfix.TheVariants as postfix
use Rattle.cyc_syntax.specs.declared.tree.Operation.{Operation}
use Rattle.cyc_syntax.specs.Grammar.{level, max_items}
use Rattle.cyc_syntax.specs.Symbols.{Terminal, Mark, Symbol}
use Rattle.cyc_syntax.specs.Trees.{Expression, MoreExpressions, Chained, Binary, NoPostfixes, Operations, NoOperations}
use Rattle.cyc_syntax.specs.inside.TreeView.{view_expression, expressions_of, postfixes_of, operations_of}
use Rattle.cyc_syntax.proofs.TreeViewLemmas.{view_chained, view_binary}
use Rattle.cyc_parse.specs.inside.Parsing.{Parser, Outcome, and_then, bind, next, if_is}
use Rattle.cyc_parse.specs.inside.Expressions.{nested, unary, binary, expression, group, initial, binary_operator, of_level, operator_at, operations, climb, chain_of, chained, binary_of}
use Rattle.cyc_parse.specs.inside.Steps.{is_within, level_within, level_at, climb_from, one_level}

pub nested_unary : (room : ℕ) (ts : List Symbol) → 0 < room → (nested room).unary ts ≡ unary (room - 1) (nested (room - 1)) ts
unfolding nested
nested_unary room ts h = let k : room ≡ suc (room - 1) = omega arith in ap (λ (n : ℕ). (nested n).unary ts) k

pub nested_binary : (room : ℕ) (ts : List Symbol) → 0 < room → (nested room).binary ts ≡ binary (room - 1) (nested (room - 1)) ts
unfolding nested
nested_binary room ts h = let k : room ≡ suc (room - 1) = omega arith in ap (λ (n : ℕ). (nested n).binary ts) k

pub nested_expression : (room : ℕ) (ts : List Symbol) → 0 < room → (nested room).expression ts ≡ expression (room - 1) (nested (room - 1)) ts
unfolding nested
nested_expression room ts h = let k : room ≡ suc (room - 1) = omega arith in ap (λ (n : ℕ). (nested n).expression ts) k

pub nested_group : (room : ℕ) (ts : List Symbol) → 0 < room → (nested room).group ts ≡ group (room - 1) (nested (room - 1)) ts
unfolding nested
nested_group room ts h = let k : room ≡ suc (room - 1) = omega arith in ap (λ (n : ℕ). (nested n).group ts) k

pub nested_initial : (room : ℕ) (ts : List Symbol) → 0 < room → (nested room).initial ts ≡ initial (room - 1) (nested (room - 1)) ts
unfolding nested
nested_initial room ts h = let k : room ≡ suc (room - 1) = omega arith in ap (λ (n : ℕ). (nested n).initial ts) k

pub operator_comes : (k : ℕ) (t : Option Terminal) (o : BinaryOperator) → Some o ≡ operator_at k t → is_some t ≡ true
operator_comes k None o h = absurd (cc)
operator_comes k (Some t) o h = refl

-- If an operator's precedence level is not above `below` and at most `most`, then the operator belongs to no level between these bounds.

operator_beyond : (o : Option BinaryOperator) (below most k : ℕ) → level_within below most o ≡ None → below < k → k ≤ most → of_level k o ≡ None
operator_beyond None below most k none lt le = refl
operator_beyond (Some o) below most k none lt le =
    rw (ne_eqb (level o) k (λ e. and_false_not_both (nat_lt below (level o)) (is_within most (Some o)) (cond-some_none (nat_lt below (level o) && is_within most (Some o)) (level o) none) (lt-ltb below (level o) (omega (arith, e, lt))) (le-leb (level o) most (omega (arith, e, le))))) refl

other : (o : Option BinaryOperator) (below most l k : ℕ) → level_within below most o ≡ Some l → (k ≡ l → ⊥) → of_level k o ≡ None
other None below most l k is apart = refl
other (Some o) below most l k is apart = rw (ne_eqb (level o) k (λ e. apart (sym e ∙ cond-some_same (nat_lt below (level o) && is_within most (Some o)) (level o) l is))) refl

none_beyond : (t : Option Terminal) (below most k : ℕ) → level_at below most t ≡ None → below < k → k ≤ most → operator_at k t ≡ None
none_beyond (Some (Mark s)) below most k none lt le = operator_beyond (binary_operator s) below most k none lt le
none_beyond _ below most k none lt le = refl

none_other : (t : Option Terminal) (below most l k : ℕ) → level_at below most t ≡ Some l → (k ≡ l → ⊥) → operator_at k t ≡ None
none_other (Some (Mark s)) below most l k is apart = other (binary_operator s) below most l k is apart
none_other _ below most l k is apart = refl

level_within_range : (o : Option BinaryOperator) (below most l : ℕ) → level_within below most o ≡ Some l → (below < l) × (l ≤ most)
level_within_range None below most l is = absurd (cc)
level_within_range (Some o) below most l is = go (nat_lt below (level o)) (is_within most (Some o)) refl refl is
  where
    go : (b c : Bool) → nat_lt below (level o) ≡ b → is_within most (Some o) ≡ c → cond (b && c) (Some (level o)) None ≡ Some l → (below < l) × (l ≤ most)
    go true true p q e = (omega (arith, ltb-true below (level o) p, cond-some_same true (level o) l e), omega (arith, leb-true (level o) most q, cond-some_same true (level o) l e))
    go true false p q e = absurd (cc)
    go false c p q e = absurd (cc)

level_in : (t : Option Terminal) (below most l : ℕ) → level_at below most t ≡ Some l → (below < l) × (l ≤ most)
level_in (Some (Mark s)) below most l is = level_within_range (binary_operator s) below most l is
level_in None below most l is = absurd (cc)
level_in _ below most l is = absurd (cc)

no_more_operators : (operand : Parser Expression) (k left : ℕ) (ts : List Symbol) → operator_at k (next ts) ≡ None → operations operand k left ts ≡ Ok (NoOperations, ts)
unfolding operations if_is
no_more_operators operand k zero ts none = rw none refl
no_more_operators operand k (suc left) ts none = rw none refl

module _ (unary : Parser Expression) where
  -- Extends an operand by the operators of the next precedence level, and then by those of all looser levels up to the last.
  abbrev chain : ℕ → ℕ → Expression → Parser Expression
  chain below most e = bind (operations (bind unary (climb unary below)) (suc below) max_items) (λ os. climb_from unary (below + 1) (most - (below + 1)) (binary_of e os))

  passes : (count below : ℕ) (e : Expression) (ts : List Symbol) → operator_at (suc below) (next ts) ≡ None → climb_from unary below (suc count) e ts ≡ climb_from unary (suc below) count e ts
  unfolding climb_from bind
  passes count below e ts none = ap (λ (o : Outcome Operations). and_then o (λ os us. climb_from unary (suc below) count (binary_of e os) us)) (no_more_operators (bind unary (climb unary below)) (suc below) max_items ts none)

  idle : (count below : ℕ) (e : Expression) (ts : List Symbol) → ((k : ℕ) → below < k → k ≤ below + count → operator_at k (next ts) ≡ None) → climb_from unary below count e ts ≡ Ok (e, ts)
  unfolding climb_from
  idle zero below e ts none = refl
  idle (suc count) below e ts none = passes count below e ts (none (suc below) (omega arith) (omega arith)) ∙ idle count (suc below) e ts (λ k lt le. none k (omega arith) (omega arith))

  chained_at : (count below : ℕ) (e : Expression) (ts : List Symbol) → climb_from unary below (suc count) e ts ≡ chain below (below + suc count) e ts
  unfolding climb_from
  chained_at count below e ts =
      let first : suc below ≡ below + 1 = omega arith in
      let rest : count ≡ below + suc count - (below + 1) = omega arith in
      let at : ℕ → ℕ → Outcome Expression = λ n m. bind (operations (bind unary (climb unary below)) (suc below) max_items) (λ os. climb_from unary n m (binary_of e os)) ts in
      ap (λ (n : ℕ). at n count) first ∙ ap (λ (m : ℕ). at (below + 1) m) rest

  goes : (count below l : ℕ) (e : Expression) (ts : List Symbol) → below < l → l ≤ below + count → ((k : ℕ) → (k ≡ l → ⊥) → operator_at k (next ts) ≡ None) → climb_from unary below count e ts ≡ chain (l - 1) (below + count) e ts
  goes zero below l e ts lt le none = absurd (omega arith)
  goes (suc count) below l e ts lt le none = elim (eqb_tells below (l - 1)) [
    | inl same ↦ chained_at count below e ts ∙ ap (λ (n : ℕ). chain n (below + suc count) e ts) same.1
    | inr apart ↦
        let more : suc below + count ≡ below + suc count = omega arith in
        passes count below e ts (none (suc below) (λ h. apart.1 (omega (arith, h)))) ∙ goes count (suc below) l e ts (omega (arith, apart.1)) (omega arith) none ∙ ap (λ (m : ℕ). chain (l - 1) m e ts) more
  ]

  then_pure : (o : Outcome Expression) → and_then o (λ e us. Ok (e, us)) ≡ o
  then_pure (Ok p) = refl
  then_pure (Err e) = refl

  regroup : (o : Outcome Expression) (ops : Parser Operations) (f : Expression → Parser Expression)
      → and_then o (λ e us. and_then (ops us) (λ os vs. f (binary_of e os) vs)) ≡ and_then (and_then o (λ e us. and_then (ops us) (λ os vs. Ok (binary_of e os, vs)))) f
  regroup (Err e) ops f = refl
  regroup (Ok p) ops f = inner (ops p.1)
    where
      inner : (q : Outcome Operations) → and_then q (λ os vs. f (binary_of p.0 os) vs) ≡ and_then (and_then q (λ os vs. Ok (binary_of p.0 os, vs))) f
      inner (Ok r) = refl
      inner (Err e) = refl

  splits : (count below n : ℕ) (e : Expression) (ts : List Symbol) → n ≡ below + count → and_then (climb unary below e ts) (climb_from unary below count) ≡ climb unary n e ts
  unfolding climb_from climb bind
  splits zero below n e ts h = let k : below ≡ n = omega arith in then_pure (climb unary below e ts) ∙ ap (λ (m : ℕ). climb unary m e ts) k
  splits (suc count) below n e ts h = regroup (climb unary below e ts) (operations (bind unary (climb unary below)) (suc below) max_items) (climb_from unary (suc below) count) ∙ splits count (suc below) n e ts (omega arith)

pub climb_all : (room most : ℕ) (e : Expression) (ts : List Symbol) → climb (unary room (nested room)) most e ts ≡ climb_from (unary room (nested room)) 0 (most - 0) e ts
unfolding climb
climb_all room most e ts = let k : most ≡ most - 0 = omega arith in sym (splits (unary room (nested room)) most 0 most e ts (omega arith)) ∙ ap (λ (n : ℕ). climb_from (unary room (nested room)) 0 n e ts) k

pub climb_ends : (room below most : ℕ) (e : Expression) (ts : List Symbol) → level_at below most (next ts) ≡ None → climb_from (unary room (nested room)) below (most - below) e ts ≡ Ok (e, ts)
climb_ends room below most e ts none = idle (unary room (nested room)) (most - below) below e ts (λ k lt le. none_beyond (next ts) below most k none lt (omega arith))

pub climb_goes : (room below most l : ℕ) (e : Expression) (ts : List Symbol) → level_at below most (next ts) ≡ Some l → climb_from (unary room (nested room)) below (most - below) e ts ≡ one_level room (nested room) (l - 1) most e ts
climb_goes room below most l e ts is =
    let range = level_in (next ts) below most l is in
    let last : below + (most - below) ≡ most = omega (arith, range.0, range.1) in
    goes (unary room (nested room)) (most - below) below l e ts range.0 (omega (arith, range.0, range.1)) (λ k apart. none_other (next ts) below most l k is apart) ∙ ap (λ (m : ℕ). chain (unary room (nested room)) (l - 1) m e ts) last

pub chain_of_view : (es : List Expr) → chain_of (map view_expression es) ≡ expressions_of es
chain_of_view [] = refl
chain_of_view (e ∷ es) = ap (MoreExpressions (view_expression e)) (chain_of_view es)

some_chained : (e : Expression) (ps : List Postfix) → 0 < length ps → chained e (postfixes_of ps) ≡ Chained e (postfixes_of ps)
some_chained e [] h = absurd (omega arith)
some_chained e (postfix.Index i ∷ ps) h = refl
some_chained e (postfix.Field x ∷ ps) h = refl

pub chained_view : (b : Box Expr Heap) (v : Vec Postfix Heap) → 0 < length v.items → view_expression (expr.Chained b v) ≡ chained (view_expression b.value) (postfixes_of v.items)
chained_view b v h = view_chained b v ∙ sym (some_chained (view_expression b.value) v.items h)

pub no_postfixes : (ps : List Postfix) → length ps ≡ 0 → postfixes_of ps ≡ NoPostfixes
no_postfixes [] h = refl
no_postfixes (p ∷ ps) h = absurd (omega arith)

some_binary : (e : Expression) (os : List Operation) → 0 < length os → binary_of e (operations_of os) ≡ Binary e (operations_of os)
some_binary e [] h = absurd (omega arith)
some_binary e (o ∷ os) h = refl

pub binary_view : (b : Box Expr Heap) (v : Vec Operation Heap) → 0 < length v.items → view_expression (expr.Binary b v) ≡ binary_of (view_expression b.value) (operations_of v.items)
binary_view b v h = view_binary b v ∙ sym (some_binary (view_expression b.value) v.items h)

pub no_operations : (os : List Operation) → length os ≡ 0 → operations_of os ≡ NoOperations
no_operations [] h = refl
no_operations (o ∷ os) h = absurd (omega arith)

-- The rewriting rules that the proofs about the functions of the expression parser use.
pub ruleset levels = (nested_unary, nested_binary, nested_expression, nested_group, nested_initial, climb_all, climb_ends, climb_goes, chain_of_view, chained_view, no_postfixes, binary_view, no_operations)
