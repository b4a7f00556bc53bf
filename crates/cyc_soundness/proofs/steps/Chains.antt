-- This file is about sequences of operators, conversions and tests for which the stack awaits an operand. When the operand's value is
-- passed, the step yields a well-typed run state.
use Rattle.std.proofs.Common.{◌≡◌, ◌⊎◌, inl, inr, ℕ, Bool, true, false, not, List, [], ◌∷◌, Option, Some, None, refl, sym, ap, subst, ◌∙◌, arith}
use Rattle.std.specs.Prelude.{◌+◌, nat_lt, if◌then◌else◌}
use Rattle.std.proofs.lemmas.Bool.{and_from}
use Rattle.cyc_syntax.specs.declared.tree.PointerKind.{PointerKind}
use Rattle.cyc_syntax.specs.declared.tree.PointerKind.TheVariants as marks
use Rattle.cyc_types.specs.declared.typed.Kind.{Kind}
use Rattle.cyc_types.specs.declared.typed.Kind.TheVariants as kinds
use Rattle.cyc_types.specs.declared.typed.PointerOperator.{PointerOperator}
use Rattle.cyc_types.specs.Types.{Ty, ValueType}
use Rattle.cyc_types.specs.Types as types
use Rattle.cyc_types.specs.TypedTrees.{Expression, Operations, NoOperations, ThenCompute, ThenTest, ThenPointer, ThenPointerPeek, Program}
use Rattle.cyc_types.specs.Rules.{Derives}
use Rattle.cyc_types.specs.typing.Tests.{is_tested, is_thin_mark}
use Rattle.cyc_types.specs.typing.Tests as tests
use Rattle.cyc_types.specs.typing.WellTyped.{Context, Converts, PointerOperation, adds, subtracts, equals, differs, thin_null, thin_there, fat_null, fat_there, null_is, null_is_not, IsChain}
use Rattle.cyc_types.specs.flow.States as flow
use Rattle.cyc_types.specs.flow.States.{meet}
use Rattle.cyc_types.specs.flow.Expressions.{and_peeked, rule_operations}
use Rattle.cyc_meaning.specs.Values.{Operand, is_kind}
use Rattle.cyc_meaning.specs.Values as values
use Rattle.cyc_meaning.specs.Operators.{Gives, Raises, null_exception, array_bounds, is_zero, truth, truth_result, truth_of, decides}
use Rattle.cyc_meaning.specs.Conversion.{conversion, thinned}
use Rattle.cyc_meaning.specs.Pointers.{takes_kind, followed}
use Rattle.cyc_meaning.specs.State.{World, Environment, Chain, Apply, ApplyPointer, Decide, Entry, Needs, Focus, Evaluating, Given, Running}
use Rattle.cyc_meaning.specs.Parts.{target_of_value, leads_to, wrong, computed}
use Rattle.cyc_meaning.specs.Step.{decided, tested, awaits_right, chained, converts}
use Rattle.cyc_soundness.specs.inside.Lives.{Life, OfRegion, Owned, Kept, heap_life, Lives, RunTy, RunValue, Value, looked}
use Rattle.cyc_soundness.specs.inside.Lives as lives
use Rattle.cyc_soundness.specs.inside.Worlds.{Thing, Holder, Nobody, Hand, thing_of, Owns, AtStart, Claims, ClaimsPart, ClaimsBy, IsLookedAt, given, IsPlain, HasType, Typing, AgreesWith, IsResult, IsTyped}
use Rattle.cyc_soundness.specs.inside.Frames.{InScope, IsBound, AreVariables, LiveIn, Holds, Implies, Exits, IsContext, KnowsProgram, lives_in, read, read_value}
use Rattle.cyc_soundness.specs.inside.Classes.{and_looked, InOperations}
use Rattle.cyc_soundness.specs.inside.Judgements.{Evaluates}
use Rattle.cyc_soundness.specs.inside.Judgements as judgements
use Rattle.cyc_soundness.specs.inside.Awaited.{KeepsUnique, IsCommonLife, IsPlainValue, IsChained, Val, relied_at, null}
use Rattle.cyc_soundness.specs.inside.Awaited as awaited
use Rattle.cyc_soundness.specs.inside.Stacks.{IsStack, IsFocus, IsWell}
use Rattle.cyc_soundness.proofs.types.TypeLemmas.{is_kind_same, kind_read}
use Rattle.cyc_soundness.proofs.flow.FlowLemmas.{meet_first, meet_second, holds_implied}
use Rattle.cyc_soundness.proofs.types.Sharing.{region_common}
use Rattle.cyc_soundness.proofs.states.StackLemmas.{comes_alone}
use Rattle.cyc_soundness.proofs.states.StackClaims.{pointer_left}
use Rattle.cyc_soundness.proofs.types.ValueLemmas.{zero_is, converted_by, kind_given}
use Rattle.cyc_soundness.proofs.states.Cells.{plain_claims, pointer_plain, running}
use Rattle.cyc_soundness.proofs.flow.Looking.{looked_expression}
use Rattle.cyc_soundness.proofs.steps.Places.{gives_same, looked_result, looked_part, takes_left, gives, gives_by, converted_leads}
use Rattle.cyc_soundness.proofs.steps.Evaluation.{hands}

-- The result of an operator is not a linear resource.
rest_chained : (r : RunValue) (os : Operations) → IsPlainValue r → IsChained None r os
rest_chained r NoOperations plain = refl
rest_chained r (ThenCompute o b os) plain = refl
rest_chained r (ThenTest o b os) plain = tt
rest_chained r (ThenPointer o b os) plain = refl
rest_chained r (ThenPointerPeek n o b os) plain = inr (refl, plain)

part_none : (g : Typing) (i : ℕ) (peek : Option ℕ) → ClaimsPart g i peek None
part_none g i None = tt
part_none g i (Some n) = tt

result_plain : {c : Context} {o : PointerOperator} {u v w : ValueType} (g : Typing) (bs : List InScope) → AreVariables g bs → PointerOperation c o u v w → IsPlainValue (read_value bs w)
result_plain g bs variables (adds t r other) = pointer_plain marks.Fat (read bs t) (lives_in bs r) (region_common g bs variables r other)
result_plain g bs variables (subtracts t r other) = pointer_plain marks.Fat (read bs t) (lives_in bs r) (region_common g bs variables r other)
result_plain g bs variables (equals k l t r s one two here there) = tt
result_plain g bs variables (differs k l t r s one two here there) = tt
result_plain g bs variables (thin_null k t r thin) = tt
result_plain g bs variables (thin_there k t r thin) = tt
result_plain g bs variables (fat_null k t r fat) = tt
result_plain g bs variables (fat_there k t r fat) = tt
result_plain g bs variables (null_is k t r) = tt
result_plain g bs variables (null_is_not k t r) = tt

-- A conversion of a pointer keeps the object to which the pointer points.
null_thing : (k : PointerKind) (t : RunTy) (l : Life) (z : values.Value) → conversion (tests.kind_of_mark k) values.Null ≡ Gives z → z ≡ values.Null
null_thing marks.Nullable t l z same = sym (gives_same values.Null z same)
null_thing marks.NonNull t l z same = absurd (let k : Raises null_exception ≡ Gives z = same in cc)
null_thing marks.Fat t l z same = sym (gives_same values.Null z same)

thin_claims : (own : Thing → Holder) (h : Holder) (k m : PointerKind) (t : RunTy) (l : Life) (object offset : ℕ) (z : values.Value) → conversion (tests.kind_of_mark m) (values.Thin object offset) ≡ Gives z → Claims own h (lives.Pointer k t l) (values.Thin object offset)
    → Claims own h (lives.Pointer m t l) z
thin_claims own h k marks.Nullable t l object offset z same is = subst (λ v. Claims own h (lives.Pointer marks.Nullable t l) v) (gives_same (values.Thin object offset) z same) is
thin_claims own h k marks.NonNull t l object offset z same is = subst (λ v. Claims own h (lives.Pointer marks.NonNull t l) v) (gives_same (values.Thin object offset) z same) is
thin_claims own h k marks.Fat t l object offset z same is = subst (λ v. Claims own h (lives.Pointer marks.Fat t l) v) (gives_same (values.Fat object offset 1 0) z same) is

-- A pointer to the start of its object still points to the start of the object after a conversion.
start_sum : (l : Life) (start index : ℕ) → AtStart l start index → AtStart l (start + index) 0
start_sum (OfRegion number ns us) start index at = tt
start_sum (Kept region) start index at = tt
start_sum Owned start index (first, second) = ((let e : start + index ≡ 0 = omega (arith, first, second) in e), refl)

thinned_claims : (own : Thing → Holder) (h : Holder) (m : PointerKind) (t : RunTy) (l : Life) (object start count index : ℕ) (z : values.Value) → thinned object start count index ≡ Gives z → is_thin_mark m ≡ true → Claims own h (lives.Pointer marks.Fat t l) (values.Fat object start count index)
    → Claims own h (lives.Pointer m t l) z
thinned_claims own h m t l object start count index z same thin (is, at) = go (nat_lt index count) same
  where
    go : (b : Bool) → (if b then Gives (values.Thin object (start + index)) else Raises array_bounds) ≡ Gives z → Claims own h (lives.Pointer m t l) z
    go true same = subst (λ v. Claims own h (lives.Pointer m t l) v) (gives_same (values.Thin object (start + index)) z same) (is, start_sum l start index at)
    go false same = absurd (let k : Raises array_bounds ≡ Gives z = same in cc)

fat_claims : (own : Thing → Holder) (h : Holder) (m : PointerKind) (t : RunTy) (l : Life) (object start count index : ℕ) (z : values.Value) → conversion (tests.kind_of_mark m) (values.Fat object start count index) ≡ Gives z
    → Claims own h (lives.Pointer marks.Fat t l) (values.Fat object start count index) → Claims own h (lives.Pointer m t l) z
fat_claims own h marks.Nullable t l object start count index z same is = thinned_claims own h marks.Nullable t l object start count index z same refl is
fat_claims own h marks.NonNull t l object start count index z same is = thinned_claims own h marks.NonNull t l object start count index z same refl is
fat_claims own h marks.Fat t l object start count index z same is = subst (λ v. Claims own h (lives.Pointer marks.Fat t l) v) (gives_same (values.Fat object start count index) z same) is

pointer_claims : (g : Typing) (own : Thing → Holder) (h : Holder) (k m : PointerKind) (t : RunTy) (l : Life) (v z : values.Value) → HasType g (lives.Pointer k t l) v → conversion (tests.kind_of_mark m) v ≡ Gives z → Claims own h (lives.Pointer k t l) v → Claims own h (lives.Pointer m t l) z
pointer_claims g own h marks.Nullable m t l values.Null z has same is = subst (λ v. Claims own h (lives.Pointer m t l) v) (sym (null_thing m t l z same)) (tt, tt)
pointer_claims g own h marks.Fat m t l values.Null z has same is = subst (λ v. Claims own h (lives.Pointer m t l) v) (sym (null_thing m t l z same)) (tt, tt)
pointer_claims g own h marks.Nullable m t l (values.Thin object offset) z has same is = thin_claims own h marks.Nullable m t l object offset z same is
pointer_claims g own h marks.NonNull m t l (values.Thin object offset) z has same is = thin_claims own h marks.NonNull m t l object offset z same is
pointer_claims g own h marks.Fat m t l (values.Fat object start count index) z has same is = fat_claims own h m t l object start count index z same is
pointer_claims g own h k m t l v z has same is = absurd has

-- The resource that a converted value represents is still owned by the same operand, cell or loan.
life_claims : (own : Thing → Holder) (h : Holder) (m : PointerKind) (t : RunTy) (l n : Life) (z : values.Value) → (n ≡ Owned → l ≡ Owned) → Claims own h (lives.Pointer m t l) z → Claims own h (lives.Pointer m t n) z
life_claims own h m t l n z keeps is = go n refl
  where
    go : (n' : Life) → n ≡ n' → Claims own h (lives.Pointer m t n) z
    go Owned same = subst (λ e. Claims own h (lives.Pointer m t e) z) (keeps same ∙ sym same) is
    go (OfRegion number ns us) same = plain_claims own h (lives.Pointer m t n) z (pointer_plain m t n (subst (λ e. IsCommonLife e) (sym same) tt))
    go (Kept region) same = plain_claims own h (lives.Pointer m t n) z (pointer_plain m t n (subst (λ e. IsCommonLife e) (sym same) tt))

converted_claims : (g : Typing) (i : ℕ) (n : Lives) (c : Context) (s : ValueType) (t : Ty) (v : Operand) (z : values.Value) → KeepsUnique c.regions n → Converts c s t → IsResult g (lives.value_at n s) v → conversion (tests.kind_of t) v.value ≡ Gives z
    → ClaimsBy g i (lives.value_at n s) v.value → Claims g.own (Hand i) (lives.at n t) z
converted_claims g i n c s types.Int v z keeps conv is same comes = (tt, tt)
converted_claims g i n c s types.Char v z keeps conv is same comes = (tt, tt)
converted_claims g i n c s (types.Handle r) v z keeps conv is same comes = (tt, tt)
converted_claims g i n c s (types.Struct m rs) v z keeps conv is same comes = (tt, tt)
converted_claims g i n c (types.Value (types.Key r)) (types.Key q) v z keeps conv is same comes = subst (λ o. Claims g.own (Hand i) (lives.Key (n o)) z) conv (comes.0, tt)
converted_claims g i n c (types.Value (types.Pointer k t r)) (types.Pointer m u q) v z keeps conv is same comes =
    subst (λ o. Claims g.own (Hand i) (lives.Pointer m (lives.at n o) (n q)) z) conv.0
    (life_claims g.own (Hand i) m (lives.at n t) (n r) (n q) z (λ e. keeps r q conv.1 e) (pointer_claims g g.own (Hand i) k m (lives.at n t) (n r) v.value z is.1 same comes))
converted_claims g i n c types.Null (types.Pointer m u q) v z keeps conv is same comes =
    subst (λ e. Claims g.own (Hand i) (lives.Pointer m (lives.at n u) (n q)) e) (sym (null_thing m (lives.at n u) (n q) z (ap (λ e. conversion (tests.kind_of_mark m) e) (sym is.1) ∙ same))) (tt, tt)
converted_claims g i n c s t v z keeps conv is same comes = absurd conv

module _ (p : Program) (g : Typing) (x : Exits) (bs : List InScope) (e : Environment) (w : World) (typed : IsTyped g w.regions w.objects) (globals : KnowsProgram g p) (bound : IsBound e.locals e.counters bs) (variables : AreVariables g bs) where
  on : (focus : Focus) (k : List Entry) → LiveIn k bs → IsFocus p g x bs focus k → IsWell p (Running focus k e w)
  on focus k live stands = running p g x bs e w typed globals bound variables focus k live stands

  -- The right operand of a pointer operator is an expression that is evaluated, or it is the null constant.
  null_on : {o : PointerOperator} (peek : Option ℕ) (kind : Kind) (value : values.Value) (b : Expression) (os : Operations) (k : List Entry) (c : Context) (v w' : ValueType) (f f1 : flow.State) → LiveIn k bs
      → kind ≡ kinds.Nullable → value ≡ values.Null → IsContext p x bs c → Holds g f bs → PointerOperation c o types.Null v w' → Evaluates (and_looked peek (relied_at x.relied k)) c b f v f1
      → IsStack p g x bs (Val (read_value bs w') f1) (Needs (Chain os) ∷ k) → IsWell p (Running (Evaluating b) (Needs (ApplyPointer peek o (record { kind = kind; value = value })) ∷ Needs (Chain os) ∷ k) e w)
  null_on {o} peek kind value b os k c v w' f f1 live kind_is value_is stands holds op evaluates stack =
      subst (λ z. IsWell p (Running (Evaluating b) (Needs (ApplyPointer peek o (record { kind = z; value = value })) ∷ Needs (Chain os) ∷ k) e w)) (sym kind_is)
      (subst (λ z. IsWell p (Running (Evaluating b) (Needs (ApplyPointer peek o (record { kind = kinds.Nullable; value = z })) ∷ Needs (Chain os) ∷ k) e w)) (sym value_is)
      (on (Evaluating b) (Needs (ApplyPointer peek o null) ∷ Needs (Chain os) ∷ k) live (
        c,
        v,
        f,
        f1,
        stands,
        holds,
        evaluates,
        (
          lives.Pointer marks.Nullable lives.Int heap_life ∷ [],
          bs,
          Val (read_value bs w') f1,
          awaited.null_points (judgements.seen_by b evaluates.typed) c v w' f1 op,
          (((refl, tt), tt), part_none g (awaited.operands_in (Needs (Chain os) ∷ k)) peek),
          stack,
        ),
      )))

  pointed : (o : PointerOperator) (peek : Option ℕ) (left : Operand) (b : Expression) (os : Operations) (k : List Entry) (c : Context) (s v w' : ValueType) (f f1 : flow.State) → LiveIn k bs → IsContext p x bs c → Holds g f bs
      → IsResult g (read_value bs s) left → ((t : Ty) → s ≡ types.Value t → ClaimsPart g (0 + awaited.operands_in k) peek (thing_of (read bs t) left.value)) → PointerOperation c o s v w' → Evaluates (and_looked peek (relied_at x.relied k)) c b f v f1
      → IsStack p g x bs (Val (read_value bs w') f1) (Needs (Chain os) ∷ k) → IsWell p (awaits_right (takes_kind o left.kind) (ApplyPointer peek o left) b os k e w)
  pointed o peek left b os k c s v w' f f1 live stands holds is part op evaluates stack =
      subst (λ z. IsWell p (awaits_right z (ApplyPointer peek o left) b os k e w)) (sym (takes_left (lives_in bs) g left op is)) (go s is part op)
    where
      go : (s : ValueType) → IsResult g (read_value bs s) left → ((t : Ty) → s ≡ types.Value t → ClaimsPart g (0 + awaited.operands_in k) peek (thing_of (read bs t) left.value)) → PointerOperation c o s v w'
          → IsWell p (Running (Evaluating b) (Needs (ApplyPointer peek o left) ∷ Needs (Chain os) ∷ k) e w)
      go types.Void is part op = absurd (pointer_left op refl)
      go types.Null is part op = null_on {o = o} peek left.kind left.value b os k c v w' f f1 live is.0 is.1 stands holds op evaluates stack
      go (types.Value t) is part op = on (Evaluating b) (Needs (ApplyPointer peek o left) ∷ Needs (Chain os) ∷ k) live
          (c, v, f, f1, stands, holds, evaluates, (read bs t ∷ [], bs, Val (read_value bs w') f1, awaited.points (judgements.seen_by b evaluates.typed) c t v w' f1 stands op, ((is, tt), part t refl), stack))

  -- The resource that a left operand represents, if the operator only peeks at the operand, that is, reads it without moving its value.
  left_part : (i : ℕ) (peek : Option ℕ) (n : ℕ) (s : ValueType) (v : values.Value) → (peek ≡ Some n) ⊎ ((peek ≡ None) × IsPlainValue (read_value bs s)) → ClaimsBy g i (looked peek (read_value bs s)) v → (t : Ty) → s ≡ types.Value t → ClaimsPart g i (Some n) (thing_of (read bs t) v)
  left_part i peek n s v (inl same) comes t is =
      subst (λ o. ClaimsPart g i o (thing_of (read bs t) v)) same (looked_part g i peek (read bs t) v (subst (λ z. ClaimsBy g i (looked peek (read_value bs z)) v) is comes))
  left_part i peek n s v (inr (same, plain)) comes t is = looked_at_plain (read bs t) v (subst (λ z. IsPlainValue (read_value bs z)) is plain)
    where
      nothing_at : (o : Option Thing) → Owns (λ a. Nobody) (Hand 0) o → IsLookedAt g n o
      nothing_at None has = tt
      nothing_at (Some a) has = let z : Nobody ≡ Hand 0 = has in absurd (cc)

      looked_at_plain : (t : lives.RunTy) (v : values.Value) → IsPlain t → IsLookedAt g n (thing_of t v)
      looked_at_plain t v plain = nothing_at (thing_of t v) (plain_claims (λ a. Nobody) (Hand 0) t v plain).0

  -- The value of a left operand is passed to the sequence of operators that are still to be applied to it.
  pub chain_on : (os : Operations) (peek : Option ℕ) (v : Operand) (k : List Entry) (c : Context) (s : ValueType) (u : Ty) (f h : flow.State) (q : List ℕ) → LiveIn k bs → IsContext p x bs c → Holds g f bs
      → IsResult g (looked peek (read_value bs s)) v → ClaimsBy g (0 + awaited.operands_in k) (looked peek (read_value bs s)) v.value → IsChained peek (read_value bs s) os → IsChain c s os u → Derives (rule_operations q os f) h → InOperations (relied_at x.relied k) os
      → IsStack p g x bs (Val (Value (read bs u)) h) k → IsWell p (chained os v k e w)
  chain_on NoOperations peek v k c s u f h q live stands holds is comes none chain (unit, same) kept stack =
      hands p g x bs e w typed globals bound variables k (Value (read bs u)) (read_value bs s) v f h live holds same (ap (read_value bs) (sym chain)) (looked_result g peek (read_value bs s) v is)
      (comes_alone g k (read_value bs s) v.value (subst (λ o. ClaimsBy g (0 + awaited.operands_in k) (looked o (read_value bs s)) v.value) none comes)) stack
  chain_on (ThenCompute o b os) peek v k c s u f h q live stands holds is comes none (int, well, chain) (f1, d, ds) (one, kept) stack =
      let is_int : IsResult g (Value lives.Int) v = subst (λ z. IsResult g (read_value bs z) v) int (looked_result g peek (read_value bs s) v is) in
      subst (λ z. IsWell p (awaits_right z (Apply o v) b os k e w)) (sym (is_kind_same v.kind kinds.Int is_int.0)) (
      on (Evaluating b) (Needs (Apply o v) ∷ Needs (Chain os) ∷ k) live (
        c,
        types.Value types.Int,
        f,
        f1,
        stands,
        holds,
        record { waiting = q; typed = inl well; flows = d; kept = one },
        (
          lives.Int ∷ [],
          bs,
          Val (Value lives.Int) f1,
          awaited.applies f1,
          ((is_int, tt), ((tt, tt), tt)),
          ([], bs, Val (Value (read bs u)) h, awaited.chains None c (types.Value types.Int) u f1 h stands (record { waiting = q; typed = chain; flows = ds; kept = kept }) (rest_chained (Value lives.Int) os tt), tt, stack),
        ),
      ))
  chain_on (ThenTest o b os) peek v k c s u f h q live stands holds is comes unit' (is_tested', (s2, well, tested2), chain) (f1, d, ds) (one, kept) stack =
      let (fails, at_zero) = zero_is g (lives_in bs) s v is_tested' (looked_result g peek (read_value bs s) v is) in
      let waits : IsStack p g x bs (Val (Value lives.Int) (meet f f1)) (Needs (Chain os) ∷ k) =
      ([], bs, Val (Value (read bs u)) h, awaited.chains None c (types.Value types.Int) u (meet f f1) h stands (record { waiting = q; typed = chain; flows = ds; kept = kept }) (rest_chained (Value lives.Int) os tt), tt, stack) in
      subst (λ z. IsWell p (tested z o b os k e w)) (sym at_zero) (go fails waits (decides o fails))
    where
      go : (fails : Bool) → IsStack p g x bs (Val (Value lives.Int) (meet f f1)) (Needs (Chain os) ∷ k) → (b' : Bool) → IsWell p (decided b' fails b os k e w)
      go fails waits true = on (Given (record { kind = kinds.Int; value = values.Int (if fails then 0 else 1) })) (Needs (Chain os) ∷ k) live
          (Value lives.Int, meet f f1, holds_implied g f (meet f f1) bs (meet_first f f1) holds, (refl, tt), (tt, tt), waits)
      go fails waits false = on (Evaluating b) (Needs Decide ∷ Needs (Chain os) ∷ k) live (
        c,
        s2,
        f,
        f1,
        stands,
        holds,
        record { waiting = q; typed = well; flows = d; kept = one },
        ([], bs, Val (Value lives.Int) (meet f f1), awaited.decides (judgements.seen_by b well) s2 f1 (meet f f1) tested2 (meet_second f f1), tt, waits),
      )
  chain_on (ThenPointer o b os) peek v k c s u f h q live stands holds is comes none (v2, w2, well, op, chain) (f1, d, ds) (one, kept) stack =
      pointed o None v b os k c s v2 w2 f f1 live stands holds (looked_result g peek (read_value bs s) v is)
      (λ t same. looked_part g (0 + awaited.operands_in k) None (read bs t) v.value (subst (λ z. ClaimsBy g (0 + awaited.operands_in k) (read_value bs z) v.value) same (subst (λ o. ClaimsBy g (0 + awaited.operands_in k) (looked o (read_value bs s)) v.value) none comes)))
      op (record { waiting = q; typed = well; flows = d; kept = one })
      ([], bs, Val (Value (read bs u)) h, awaited.chains None c w2 u f1 h stands (record { waiting = q; typed = chain; flows = ds; kept = kept }) (rest_chained (read_value bs w2) os (result_plain g bs variables op)), tt, stack)
  chain_on (ThenPointerPeek n o b os) peek v k c s u f h q live stands holds is comes some (v2, w2, well, op, chain) (f1, d, ds) (one, kept) stack =
      pointed o (Some n) v b os k c s v2 w2 f f1 live stands holds (looked_result g peek (read_value bs s) v is) (left_part (0 + awaited.operands_in k) peek n s v.value some comes) op
      (record { waiting = and_peeked (Some n) q; typed = well; flows = d; kept = looked_expression (relied_at x.relied k) (Some n) b q f f1 holds.0 d one })
      ([], bs, Val (Value (read bs u)) h, awaited.chains None c w2 u f1 h stands (record { waiting = q; typed = chain; flows = ds; kept = kept }) (rest_chained (read_value bs w2) os (result_plain g bs variables op)), tt, stack)

  pub converted_on : (from to : Kind) (target : Option Kind) (v : Operand) (k : List Entry) (c : Context) (s : ValueType) (t : Ty) (f : flow.State) → LiveIn k bs → AgreesWith c.regions (lives_in bs) → KeepsUnique c.regions (lives_in bs) → Holds g f bs → IsResult g (read_value bs s) v → awaited.Comes g (read_value bs s) v k → Converts c s t
      → from ≡ tests.kind_of_value s → to ≡ tests.kind_of t → target ≡ target_of_value s → IsStack p g x bs (Val (Value (read bs t)) f) k → IsWell p (converts from to target v k e w)
  converted_on from to target v k c s t f live agrees keeps holds is comes conv from_is to_is same stack =
      let leads_so : leads_to w target (followed v.value) ≡ true = ap (λ z. leads_to w z (followed v.value)) same ∙ converted_leads g w typed (lives_in bs) c s t v conv is in
      subst (λ (b : Bool). IsWell p (if b then computed to (conversion to v.value) k e w else wrong w))
      (sym (and_from (is_kind v.kind from) (leads_to w target (followed v.value)) (is_kind_same v.kind from (kind_given g (lives_in bs) c s t v conv is ∙ sym from_is)) leads_so))
      (subst (λ z. IsWell p (computed z (conversion z v.value) k e w)) (sym to_is)
      (gives_by p g x bs e w typed globals bound variables k (tests.kind_of t) (read bs t) f (conversion (tests.kind_of t) v.value) live holds (sym (kind_read (lives_in bs) t)) (converted_by g (lives_in bs) c s t v agrees conv is)
      (λ z given. converted_claims g (awaited.operands_in k) (lives_in bs) c s t v z keeps conv is given comes) stack))

  pub denied_on : (peek : Option ℕ) (v : Operand) (k : List Entry) (s : ValueType) (f : flow.State) → LiveIn k bs → Holds g f bs → is_tested s ≡ true → IsResult g (looked peek (read_value bs s)) v
      → IsStack p g x bs (Val (Value lives.Int) f) k → IsWell p (computed kinds.Int (truth_result (is_zero v.value)) k e w)
  denied_on peek v k s f live holds is_tested' is stack =
      let (b, at_zero) = zero_is g (lives_in bs) s v is_tested' (looked_result g peek (read_value bs s) v is) in
      subst (λ z. IsWell p (computed kinds.Int (truth_result z) k e w)) (sym at_zero) (gives p g x bs e w typed globals bound variables k kinds.Int lives.Int f (Gives (values.Int (truth b))) live holds tt refl tt stack)

  pub decided_on : (peek : Option ℕ) (v : Operand) (k : List Entry) (s : ValueType) (f h : flow.State) → LiveIn k bs → Holds g f bs → is_tested s ≡ true → Implies f h → IsResult g (looked peek (read_value bs s)) v
      → IsStack p g x bs (Val (Value lives.Int) h) k → IsWell p (computed kinds.Int (truth_of (is_zero v.value)) k e w)
  decided_on peek v k s f h live holds is_tested' implies is stack =
      let (b, at_zero) = zero_is g (lives_in bs) s v is_tested' (looked_result g peek (read_value bs s) v is) in
      subst (λ z. IsWell p (computed kinds.Int (truth_of z) k e w)) (sym at_zero) (gives p g x bs e w typed globals bound variables k kinds.Int lives.Int h (Gives (values.Int (truth (not b)))) live (holds_implied g f h bs implies holds) tt refl tt stack)
