-- This file proves that a stack stays well-typed when a resource (key or unique pointer) changes its owner, if no stack entry claims this
-- resource. A stack entry that waits for no value is only removed from the stack.
use Rattle.std.proofs.Common.{◌≡◌, ◌≢◌, inl, inr, ℕ, ◌≤◌, ◌<◌, ◌+◌, Bool, true, false, List, [], ◌∷◌, Option, Some, None, slice_get, refl, sym, ap, subst, ◌∙◌, arith}
use Rattle.std.specs.Prelude.{if◌then◌else◌, suc, length, get_or}
use Rattle.std.proofs.lemmas.Option.{same_Some}
use Rattle.cyc_syntax.specs.declared.tree.PointerKind.TheVariants as marks
use Rattle.cyc_types.specs.declared.typed.PointerOperator.{PointerOperator}
use Rattle.cyc_types.specs.Types.{Ty, ValueType}
use Rattle.cyc_types.specs.Types as types
use Rattle.cyc_types.specs.TypedTrees.{Operations, NoOperations, ThenCompute, ThenTest, ThenPointer, ThenPointerPeek, Program}
use Rattle.cyc_types.specs.typing.Tests.{is_tested}
use Rattle.cyc_types.specs.typing.WellTyped.{Context, Converts, PointerOperation, adds, subtracts, equals, differs, thin_null, thin_there, fat_null, fat_there, null_is, null_is_not, IsChain}
use Rattle.cyc_types.specs.flow.States as flow
use Rattle.cyc_types.specs.flow.States.{Vacant, Reached}
use Rattle.cyc_meaning.specs.Values.{Operand}
use Rattle.cyc_meaning.specs.Values as values
use Rattle.cyc_meaning.specs.State.{FillElement, AwaitingPlace, SwapRight, Awaiting, ApplyPointer, StoreCell, Advance, Entry, Needs, NeedsPlace, Discard, Rest, Join, Loop, CloseRegion, CloseLexical, EndLoan, Handler, Caller, Main}
use Rattle.cyc_soundness.specs.inside.Lives.{RunTy, RunValue, Void, Null, Value, Seen, Into, looked, Lives, at, value_at}
use Rattle.cyc_soundness.specs.inside.Lives as lives
use Rattle.cyc_soundness.specs.inside.Worlds.{OfLocal, Settled, Holder, Nobody, Hand, At, pointer_at, thing_of, IsHere, Stays, Typing, variable_type, IsHiding, Away}
use Rattle.cyc_soundness.specs.inside.Frames.{InScope, lives_in, read, IsFullIn, Holds, Exits, read_value, lending}
use Rattle.cyc_soundness.specs.inside.Classes.{is_full, Relied, only, and_looked, IsSpared, InOperations}
use Rattle.cyc_soundness.specs.inside.Awaited.{part, part_of_place, relied_by, relied_at, Want, Nothing, Val, PlaceOf, Go, held, Waits, place_operand, count_held, count_place, IsThrough, IsArrayOf, AreClaimed, IsHeldPart, operands_in, Keeps, IsLeftSpot, left_variable, left_cell}
use Rattle.cyc_soundness.specs.inside.Awaited.{KeepsPlace}
use Rattle.cyc_soundness.specs.inside.Awaited as awaited
use Rattle.cyc_soundness.specs.inside.Stacks.{IsStack, IsLentOut}
use Rattle.cyc_soundness.proofs.states.WorldLemmas.{type_grown, operands_grown}
use Rattle.cyc_soundness.proofs.states.Hands.{Changed, stays_changed, owns_kept, claims_kept, part_kept, variables_kept, holds_kept, holds_here, slot_kept}
use Rattle.cyc_soundness.proofs.states.StackLemmas.{relied_if, IsAboveBy, IsAbove, above_by, hand_other, lent_other, looked_other, none_lent, operands_long, above_to, statement_spared, ends_relied}
use Rattle.cyc_soundness.proofs.states.StackLemmas.{no_fewer, part_spared, waits_whole, place_whole, goes_relied, above_after, above_outside, relied_other, only_full, lender_other, outer_other, array_grown, full_at_grown}

-- The local, if any, from which a stored pointer operand was read early (peeked at), if the read value is not yet used.
abbrev held_peek : Awaiting → Option ℕ
held_peek (ApplyPointer peek operator left) = peek
held_peek (StoreCell peek place) = peek
held_peek (Advance peek target base) = peek
held_peek a = None

abbrev place_peek : AwaitingPlace → Option ℕ
place_peek (SwapRight kind peek is_cell left) = peek
place_peek a = None

looked_unspared : (peek : Option ℕ) (q : Relied) (n : ℕ) → peek ≡ Some n → IsSpared (and_looked peek q) n → ⊥
looked_unspared None q n e spared = let k : None ≡ Some n = e in absurd (cc)
looked_unspared (Some m) q n e spared =
    let same : m ≡ n = same_Some m n e in
    let one : is_full (get_or (only m) n Vacant) ≡ false = spared.0 in
    let z : true ≡ false = sym (ap is_full (ap (λ i. get_or (only i) n Vacant) same ∙ only_full n)) ∙ one in absurd (cc)

-- Let a stack entry store a value that was read early from a local (peeked at) and is not yet used. Then a flow
-- state on which the stack relies requires a local that was peeked at to hold its value.
unspared : (a : Awaiting) (q r : Relied) (n : ℕ) → held_peek a ≡ Some n → IsSpared (relied_by (part a) q r) n → ⊥
unspared (ApplyPointer peek operator left) q r n e spared = looked_unspared peek r n e spared
unspared (StoreCell peek place) q r n e spared = looked_unspared peek r n e spared
unspared (Advance peek target base) q r n e spared = looked_unspared peek r n e spared
unspared a q r n e spared = let k : None ≡ Some n = e in absurd (cc)

unspared_place : (a : AwaitingPlace) (q r : Relied) (n : ℕ) → place_peek a ≡ Some n → IsSpared (relied_by (part_of_place a) q r) n → ⊥
unspared_place (SwapRight kind peek is_cell left) q r n e spared = looked_unspared peek q n e spared
unspared_place a q r n e spared = let k : None ≡ Some n = e in absurd (cc)

held_counted : (a : Awaiting) → length (held a) ≤ count_held a
held_counted (FillElement object count index level kind element) = omega arith
held_counted a = let few : length (held a) ≤ length (held a) = omega arith in few

module _ (p : Program) (old : Holder) (g h : Typing) (changed : Changed old g h) where
  claimed_kept : (i : ℕ) (ts : List RunTy) (vs : List Operand) → ((j : ℕ) → j < i + length ts → Hand j ≢ old) → AreClaimed g.own i ts vs → AreClaimed h.own i ts vs
  claimed_kept i [] vs other are = tt
  claimed_kept i (t ∷ ts) [] other are = tt
  claimed_kept i (t ∷ ts) (v ∷ vs) other (is, are) = (
    claims_kept old g h changed (Hand (i + length ts)) t v.value (other (i + length ts) (let less : i + length ts < i + suc (length ts) = omega arith in less)) is,
    claimed_kept i ts vs (λ j less. other j (let more : j < i + suc (length ts) = omega (arith, less) in more)) are,
  )

  held_kept : (i : ℕ) (peek : Option ℕ) (ts : List RunTy) (v : Operand) → Hand i ≢ old → ((n object : ℕ) → peek ≡ Some n → IsHere g g.depth n object → IsHiding g object true → At object 0 ≢ old) → IsHeldPart g i peek ts v → IsHeldPart h i peek ts v
  held_kept i peek [] v apart other is = tt
  held_kept i peek (t ∷ ts) v apart other is = part_kept old g h changed i peek (thing_of t v.value) apart other is

  array_kept : (i : ℕ) (ts : List RunTy) (object count index : ℕ) → Hand i ≢ old → IsArrayOf g i ts object count index → IsArrayOf h i ts object count index
  array_kept i (lives.Pointer m t l ∷ []) object count index apart (less, array, is) = (less, array_grown p g h changed.grows t l object count index array, owns_kept old g h changed (Hand i) (pointer_at l object) apart is)
  array_kept i ts object count index apart is = absurd is

  left_kept : (i : ℕ) (peek : Option ℕ) (bs : List InScope) (t : Ty) (f : flow.State) (v : values.Value) → Hand i ≢ old → ((n object : ℕ) → peek ≡ Some n → IsHere g g.depth n object → IsHiding g object true → At object 0 ≢ old) → IsLeftSpot p g i peek bs t f v → IsLeftSpot p h i peek bs t f v
  left_kept i peek bs t f v apart other (left_variable place is) = left_variable place is
  left_kept i peek bs t f v apart other (left_cell place r alive has part) =
      left_cell place r alive (type_grown g h changed.grows (lives.Pointer marks.NonNull (read bs t) (lives_in bs r)) place has)
      (part_kept old g h changed i peek (thing_of (lives.Pointer marks.NonNull (read bs t) (lives_in bs r)) place) apart other part)

  keeps_place_kept : (i : ℕ) (bs : List InScope) (a : AwaitingPlace) (r : RunTy) (f : flow.State) → ((j : ℕ) → j < count_place a + i → Hand j ≢ old) → ((n object : ℕ) → place_peek a ≡ Some n → IsHere g g.depth n object → IsHiding g object true → At object 0 ≢ old)
      → KeepsPlace p g i bs a r f → KeepsPlace p h i bs a r f
  keeps_place_kept i bs (SwapRight kind peek is_cell left) r f hands other (t, same, plain, spot) = (t, same, plain, left_kept i peek bs t f left (hands i (let less : i < 1 + i = omega arith in less)) other spot)
  keeps_place_kept i bs a r f hands other keeps = tt

  keeps_kept : (i : ℕ) (a : Awaiting) (ts : List RunTy) → ((j : ℕ) → j < count_held a + i → Hand j ≢ old) → ((n object : ℕ) → held_peek a ≡ Some n → IsHere g g.depth n object → IsHiding g object true → At object 0 ≢ old) → Keeps g i a ts → Keeps h i a ts
  keeps_kept i (FillElement object count index level kind element) ts hands other are = array_kept i ts object count index (hands i (let less : i < 1 + i = omega arith in less)) are
  keeps_kept i (ApplyPointer peek operator left) ts hands other (are, is) = (operands_grown g h changed.grows ts (left ∷ []) are, held_kept i peek ts left (hands i (let less : i < 1 + i = omega arith in less)) other is)
  keeps_kept i (StoreCell peek place) ts hands other (are, is) = (operands_grown g h changed.grows ts (place_operand place ∷ []) are, held_kept i peek ts (place_operand place) (hands i (let less : i < 1 + i = omega arith in less)) other is)
  keeps_kept i (Advance peek target base) ts hands other (are, is) = (operands_grown g h changed.grows ts (base ∷ []) are, held_kept i peek ts base (hands i (let less : i < 1 + i = omega arith in less)) other is)
  keeps_kept i a [] hands other are = operands_grown g h changed.grows [] (held a) are
  keeps_kept i a (t ∷ ts) hands other (are, claims) = (
    operands_grown g h changed.grows (t ∷ ts) (held a) are,
    claimed_kept i (t ∷ ts) (held a) (λ j less. hands j (let long : suc (length ts) ≡ length (held a) = operands_long g (t ∷ ts) (held a) are in let most = held_counted a in let few : j < count_held a + i = omega (arith, less, long, most) in few)) claims,
  )

changed_following : (old : Holder) (g h : Typing) (j : ℕ) → Changed old g h → Changed old (record g { loans = j }) (record h { loans = j })
changed_following old g h j changed = record {
  grows = record { objects = changed.grows.objects; filled = changed.grows.filled; fields = changed.grows.fields; kept = changed.grows.kept };
  own = changed.own;
  here = changed.here;
  away = changed.away;
  pending = changed.pending;
  depth = changed.depth;
  loans = refl;
}

changed_outside : (old : Holder) (g h : Typing) (d : ℕ) → Changed old g h → Changed old (record g { depth = d }) (record h { depth = d })
changed_outside old g h d changed = record {
  grows = record { objects = changed.grows.objects; filled = changed.grows.filled; fields = changed.grows.fields; kept = changed.grows.kept };
  own = changed.own;
  here = changed.here;
  away = changed.away;
  pending = changed.pending;
  depth = refl;
  loans = changed.loans;
}

-- Says that all variables keep their values and their loans.
abbrev pub AreStill : Typing → Typing → Type 0
AreStill g h = (object : ℕ) → h.here object ≡ g.here object

clauses_spared : (empties : Bool) (f : flow.State) (q : Relied) (n : ℕ) → IsSpared (relied_if empties (f ∷ q)) n → IsSpared (relied_if empties q) n
clauses_spared false f q n spared = tt
clauses_spared true f q n spared = spared.1

-- Facts about locals stay true if no local is emptied, or if the emptied locals are not the locals of these facts.
holds_by : (empties : Bool) (old : Holder) (g h : Typing) (f : flow.State) (bs : List InScope) → (empties ≡ false → AreStill g h) → Changed old g h → (empties ≡ true → (n object : ℕ) → IsFullIn f n → IsHere g g.depth n object → At object 0 ≢ old) → Holds g f bs → Holds h f bs
holds_by false old g h f bs still changed other holds = holds_here g h changed.grows changed.depth f bs (λ n object full here. (still refl object ∙ here.0, slot_kept old g h changed g.depth n object here.1)) holds
holds_by true old g h f bs still changed other holds = holds_kept old g h changed f bs (other refl) holds

-- A variable that has lent its value before a step has still lent it after the step.
lent_still : (empties : Bool) (old : Holder) (g h : Typing) (x y : Exits) (k : List Entry) (lent j : ℕ) (t : RunTy) (object : ℕ) → (empties ≡ false → AreStill g h) → Changed old g h → x ≡ lending y lent → IsAboveBy empties x g (EndLoan lent ∷ k) old → j < g.loans
    → IsLentOut g lent j t object → IsLentOut h lent j t object
lent_still empties old g h x y k lent j t object still changed same above less (l, there, away) = (
  l,
  subst (λ d. slice_get h.objects object ≡ Some (variable_type t l true (OfLocal d lent))) (sym changed.depth) (changed.grows.objects object (variable_type t l true (OfLocal g.depth lent)) there),
  go empties still above,
)
  where
    go : (empties : Bool) → (empties ≡ false → AreStill g h) → IsAboveBy empties x g (EndLoan lent ∷ k) old → h.here object ≡ Away j
    go false still above = still refl object ∙ away
    go true still above = changed.away object j (variable_type t l true (OfLocal g.depth lent), there, refl) away
        (lender_other x y g k lent old object same above (variable_type t l true (OfLocal g.depth lent), there, refl)) (lent_other true x g (EndLoan lent ∷ k) j object old above less)

-- A stack stays well-typed when a resource (key or unique pointer) changes its owner, if no entry of the stack claims this resource.
pub stack_by : (empties : Bool) (p : Program) (old : Holder) (g h : Typing) (x : Exits) (bs : List InScope) (w : Want) (k : List Entry) → (empties ≡ false → AreStill g h) → Changed old g h → IsAboveBy empties x g k old → IsStack p g x bs w k → IsStack p h x bs w k
stack_by empties p old g h x bs Nothing [] still changed above is = changed.pending ∙ is
stack_by empties p old g h x bs (Val r f) (Needs a ∷ k) still changed above (ts, cs, next, waits, are, rest) = (
  ts,
  cs,
  next,
  waits,
  keeps_kept p old g h changed (operands_in k) a ts (λ j less. hand_other empties x g (Needs a ∷ k) j old above less) (λ n object same here hidden. looked_other empties x g (Needs a ∷ k) n object old above here.1 hidden (λ spared. unspared a (relied_if empties x.relied) (relied_at (relied_if empties x.relied) k) n same spared)) are,
  stack_by empties p old g h x cs next k still changed (above_to empties x x g (Needs a) k old (let fewer : operands_in k ≤ count_held a + operands_in k = omega arith in fewer)
      (λ n spared. part_spared (part a) (relied_if empties x.relied) (relied_at (relied_if empties x.relied) k) n (λ o same. goes_relied p g x cs next k (relied_if empties x.relied) (waits_whole waits o same) rest) spared) above) rest,
)
stack_by empties p old g h x bs (PlaceOf peek u l f) (NeedsPlace a ∷ k) still changed above (next, waits, keeps, rest) = (
  next,
  waits,
  keeps_place_kept p old g h changed (operands_in k) bs a u f (λ j less. hand_other empties x g (NeedsPlace a ∷ k) j old above less) (λ n object same here hidden. looked_other empties x g (NeedsPlace a ∷ k) n object old above here.1 hidden (λ spared. unspared_place a (relied_if empties x.relied) (relied_at (relied_if empties x.relied) k) n same spared)) keeps,
  stack_by empties p old g h x bs next k still changed
      (above_to empties x x g (NeedsPlace a) k old (let fewer : operands_in k ≤ count_place a + operands_in k = omega arith in fewer) (λ n spared. part_spared (part_of_place a) (relied_if empties x.relied) (relied_at (relied_if empties x.relied) k) n (λ o same. goes_relied p g x bs next k (relied_if empties x.relied) (place_whole waits o same) rest) spared) above) rest,
)
stack_by empties p old g h x bs (Val r f) (Discard ∷ k) still changed above is = stack_by empties p old g h x bs (Go f) k still changed (above_to empties x x g Discard k old (no_fewer k) (λ n spared. statement_spared p g x bs f k (relied_if empties x.relied) n is spared) above) is
stack_by empties p old g h x bs (Go f) (Discard ∷ k) still changed above is = stack_by empties p old g h x bs (Go f) k still changed (above_to empties x x g Discard k old (no_fewer k) (λ n spared. statement_spared p g x bs f k (relied_if empties x.relied) n is spared) above) is
stack_by empties p old g h x bs (Go f) (Rest js ∷ k) still changed above (cs, c, end, within, stands, continues, rest) =
    (cs, c, end, within, stands, continues, stack_by empties p old g h x cs (Go end) k still changed (above_to empties x x g (Rest js) k old (no_fewer k) (λ n spared. statement_spared p g x cs end k (relied_if empties x.relied) n rest spared) above) rest)
stack_by empties p old g h x bs (Go f) (Join ∷ k) still changed above (end, i, rest) = (end, i, stack_by empties p old g h x bs (Go end) k still changed (above_to empties x x g Join k old (no_fewer k) (λ n spared. statement_spared p g x bs end k (relied_if empties x.relied) n rest spared) above) rest)
stack_by empties p old g h x bs (Go f) (Loop condition body ∷ k) still changed above (y, l, v, u, end, same, loop, i, rest) =
    let inner = above_to empties x y g (Loop condition body) k old (no_fewer k) (λ n spared. statement_spared p g y bs end k (relied_if empties y.relied) n rest (subst (λ (z : Exits). IsSpared (relied_if empties z.relied) n) same spared)) above in
    (y, l, v, u, end, same, loop, i, stack_by empties p old g h y bs (Go end) k still changed inner rest)
stack_by empties p old g h x bs (Go f) (CloseRegion region home ∷ k) still changed above (cs, number, l, alive, end, same, i, live, rest) =
    (cs, number, l, alive, end, same, i, live, stack_by empties p old g h x cs (Go end) k still changed (above_to empties x x g (CloseRegion region home) k old (no_fewer k) (λ n spared. statement_spared p g x cs end k (relied_if empties x.relied) n rest spared) above) rest)
stack_by empties p old g h x bs (Go f) (CloseLexical region ∷ k) still changed above (end, i, live, rest) =
    (end, i, live, stack_by empties p old g h x bs (Go end) k still changed (above_to empties x x g (CloseLexical region) k old (no_fewer k) (λ n spared. statement_spared p g x bs end k (relied_if empties x.relied) n rest spared) above) rest)
stack_by empties p old g h x bs (Go f) (EndLoan lent ∷ k) still changed above (y, end, j, t, object, same, loans, lent_out, i, full, variables, rest) =
    let inner = above_to empties x y g (EndLoan lent) k old (no_fewer k) (λ n spared. statement_spared p (record g { loans = j }) y bs end k (relied_if empties y.relied) n rest (clauses_spared empties (Reached (only lent)) y.relied n (subst (λ (z : Exits). IsSpared (relied_if empties z.relied) n) same spared))) above in
    let following' = above_after empties y g k j old loans inner in
    let less : j < g.loans = omega (arith, loans) in
    let changed' = changed_following old g h j changed in (
      y,
      end,
      j,
      t,
      object,
      same,
      changed.loans ∙ loans,
      lent_still empties old g h x y k lent j t object still changed same above less lent_out,
      i,
      full_at_grown p g h changed.grows lent object bs full,
      variables_kept old (record g { loans = j }) (record h { loans = j }) changed' bs (none_lent empties y (record g { loans = j }) k old following') variables,
      stack_by empties p old (record g { loans = j }) (record h { loans = j }) y bs (Go end) k still changed' following' rest,
    )
stack_by empties p old g h x bs (Go f) (Handler cs ∷ k) still changed above (y, c, start, end, same, stands, holds, catches, i, rest) =
    let inner = above_to empties x y g (Handler cs) k old (no_fewer k) (λ n spared. statement_spared p g y bs end k (relied_if empties y.relied) n rest (clauses_spared empties start y.relied n (subst (λ (z : Exits). IsSpared (relied_if empties z.relied) n) same spared))) above in (
      y,
      c,
      start,
      end,
      same,
      stands,
      holds_by empties old g h start bs still changed (λ empty m object full here. relied_other x y g cs k start old m object same holds.0 (subst (λ z. IsAboveBy z x g (Handler cs ∷ k) old) empty above) full here.1) holds,
      catches,
      i,
      stack_by empties p old g h y bs (Go end) k still changed inner rest,
    )
stack_by empties p old g h x bs (Go f) (Caller e ∷ k) still changed above (y, cs, end, d, depth, loop, blocked, gives, bound, variables, live, holds, rest) =
    let outer = above_outside empties x y g e k d old depth above in
    let changed' = changed_outside old g h d changed in (
      y,
      cs,
      end,
      d,
      changed.depth ∙ depth,
      loop,
      blocked,
      gives,
      bound,
      variables_kept old (record g { depth = d }) (record h { depth = d }) changed' cs (none_lent empties y (record g { depth = d }) k old outer) variables,
      live,
      holds_by empties old (record g { depth = d }) (record h { depth = d }) end cs still changed' (λ empty m object full here. outer_other x g e k d old m object depth (subst (λ z. IsAboveBy z x g (Caller e ∷ k) old) empty above) here.1) holds,
      stack_by empties p old (record g { depth = d }) (record h { depth = d }) y cs (Val x.gives end) k still changed' outer rest,
    )
stack_by empties p old g h x bs (Go f) (Main ∷ k) still changed above (loop, int, gives, blocked, rest) =
    (loop, int, gives, blocked, stack_by empties p old g h x bs Nothing k still changed (above_to empties x x g Main k old (no_fewer k) (λ n spared. ends_relied p g x bs k (relied_if empties x.relied) n rest spared) above) rest)
stack_by empties p old g h x bs w k still changed above is = absurd is

pub stack_changed : (p : Program) (old : Holder) (g h : Typing) (x : Exits) (bs : List InScope) (w : Want) (k : List Entry) → Changed old g h → IsAbove x g k old → IsStack p g x bs w k → IsStack p h x bs w k
stack_changed p old g h x bs w k changed above is = stack_by true p old g h x bs w k (λ e. (let z : true ≡ false = e in absurd (cc))) changed (above_by x g k old above) is

-- While a stack is well-typed, no swap is between its two writes.
pub settled : (p : Program) (g : Typing) (x : Exits) (bs : List InScope) (w : Want) (k : List Entry) → IsStack p g x bs w k → g.pending ≡ Settled
settled p g x bs Nothing [] is = is
settled p g x bs (Val r f) (Needs a ∷ k) (ts, cs, next, waits, are, rest) = settled p g x cs next k rest
settled p g x bs (PlaceOf peek u l f) (NeedsPlace a ∷ k) (next, waits, keeps, rest) = settled p g x bs next k rest
settled p g x bs (Val r f) (Discard ∷ k) is = settled p g x bs (Go f) k is
settled p g x bs (Go f) (Discard ∷ k) is = settled p g x bs (Go f) k is
settled p g x bs (Go f) (Rest js ∷ k) (cs, c, end, within, stands, continues, rest) = settled p g x cs (Go end) k rest
settled p g x bs (Go f) (Join ∷ k) (end, i, rest) = settled p g x bs (Go end) k rest
settled p g x bs (Go f) (Loop condition body ∷ k) (y, l, v, u, end, same, loop, i, rest) = settled p g y bs (Go end) k rest
settled p g x bs (Go f) (CloseRegion region home ∷ k) (cs, number, l, alive, end, same, i, live, rest) = settled p g x cs (Go end) k rest
settled p g x bs (Go f) (CloseLexical region ∷ k) (end, i, live, rest) = settled p g x bs (Go end) k rest
settled p g x bs (Go f) (EndLoan lent ∷ k) (y, end, j, t, object, same, loans, claims, i, full, variables, rest) = settled p (record g { loans = j }) y bs (Go end) k rest
settled p g x bs (Go f) (Handler cs ∷ k) (y, c, start, end, same, stands, holds, catches, i, rest) = settled p g y bs (Go end) k rest
settled p g x bs (Go f) (Caller e ∷ k) (y, cs, end, d, depth, loop, blocked, gives, bound, variables, live, holds, rest) = settled p (record g { depth = d }) y cs (Val x.gives end) k rest
settled p g x bs (Go f) (Main ∷ k) (loop, int, gives, blocked, rest) = settled p g x bs Nothing k rest
settled p g x bs w k is = absurd is

-- A stack stays well-typed when facts about objects are added and no resource (key or unique pointer) changes its owner.
pub stack_grown : (p : Program) (g h : Typing) → Stays g h → (x : Exits) (bs : List InScope) (w : Want) (k : List Entry) → IsStack p g x bs w k → IsStack p h x bs w k
stack_grown p g h same x bs w k is = stack_changed p Nobody g h x bs w k (stays_changed Nobody g h same) tt is

-- ---- entries without a value are only dropped

void_read : (n : Lives) (v : ValueType) → value_at n v ≡ Void → v ≡ types.Void
void_read n types.Void e = refl
void_read n types.Null e = absurd (let k : Null ≡ Void = e in cc)
void_read n (types.Value t) e = absurd (let k : Value (at n t) ≡ Void = e in cc)

void_converts : (c : Context) (t : Ty) → Converts c types.Void t → ⊥
void_converts c types.Int conv = conv
void_converts c types.Char conv = conv
void_converts c (types.Pointer k t r) conv = conv
void_converts c (types.Handle r) conv = conv
void_converts c (types.Key r) conv = conv
void_converts c (types.Struct n rs) conv = conv

-- The left operand of a pointer operator is never `void`.
pub pointer_left : {c : Context} {o : PointerOperator} {u v w : ValueType} → PointerOperation c o u v w → u ≡ types.Void → ⊥
pointer_left (adds t r other) e = let k : types.Value (types.Pointer marks.Fat t r) ≡ types.Void = e in absurd (cc)
pointer_left (subtracts t r other) e = let k : types.Value (types.Pointer marks.Fat t r) ≡ types.Void = e in absurd (cc)
pointer_left (equals k l t r s one two here there) e = let z : types.Value (types.Pointer k t r) ≡ types.Void = e in absurd (cc)
pointer_left (differs k l t r s one two here there) e = let z : types.Value (types.Pointer k t r) ≡ types.Void = e in absurd (cc)
pointer_left (thin_null k t r thin) e = let z : types.Value (types.Pointer k t r) ≡ types.Void = e in absurd (cc)
pointer_left (thin_there k t r thin) e = let z : types.Value (types.Pointer k t r) ≡ types.Void = e in absurd (cc)
pointer_left (fat_null k t r fat) e = let z : types.Value (types.Pointer k t r) ≡ types.Void = e in absurd (cc)
pointer_left (fat_there k t r fat) e = let z : types.Value (types.Pointer k t r) ≡ types.Void = e in absurd (cc)
pointer_left (null_is k t r) e = let z : types.Null ≡ types.Void = e in absurd (cc)
pointer_left (null_is_not k t r) e = let z : types.Null ≡ types.Void = e in absurd (cc)

value_void : {t : RunTy} → Value t ≡ Void → ⊥
value_void {t} e = let k : Value t ≡ Void = e in absurd (cc)

seen_void : {object : ℕ} {t : RunTy} → Seen object t ≡ Void → ⊥
seen_void {object} {t} e = let k : Seen object t ≡ Void = e in absurd (cc)

null_void : Null ≡ Void → ⊥
null_void e = cc

pointer_right : {c : Context} {o : PointerOperator} {u v w : ValueType} (n : Lives) → PointerOperation c o u v w → value_at n v ≡ Void → ⊥
pointer_right n (adds t r other) e = value_void e
pointer_right n (subtracts t r other) e = value_void e
pointer_right n (equals k l t r s one two here there) e = value_void e
pointer_right n (differs k l t r s one two here there) e = value_void e
pointer_right n (thin_null k t r thin) e = null_void e
pointer_right n (thin_there k t r thin) e = null_void e
pointer_right n (fat_null k t r fat) e = null_void e
pointer_right n (fat_there k t r fat) e = null_void e
pointer_right n (null_is k t r) e = value_void e
pointer_right n (null_is_not k t r) e = value_void e

void_chain : (q : Relied) (c : Context) (os : Operations) (t : Ty) → IsChain c types.Void os t → InOperations q os → ⊥
void_chain q c NoOperations t e kept = absurd (let k : types.Void ≡ types.Value t = e in cc)
void_chain q c (ThenCompute o a os) t (e, well, chain) kept = absurd (let k : types.Void ≡ types.Value types.Int = e in cc)
void_chain q c (ThenTest o a os) t (e, well, chain) kept = absurd (let k : false ≡ true = e in cc)
void_chain q c (ThenPointer o a os) t (v, w, well, op, chain) kept = pointer_left op refl
void_chain q c (ThenPointerPeek n o a os) t (v, w, well, op, chain) kept = pointer_left op refl

void_tested : (n : Lives) (v : ValueType) → value_at n v ≡ Void → is_tested v ≡ true → ⊥
void_tested n v e tested = let k : false ≡ true = subst (λ z. is_tested z ≡ true) (void_read n v e) tested in absurd (cc)

looked_void : (peek : Option ℕ) (r : RunValue) → looked peek r ≡ Void → r ≡ Void
looked_void None r e = e
looked_void (Some n) Void e = refl
looked_void (Some n) Null e = absurd (let k : Null ≡ Void = e in cc)
looked_void (Some n) (Value t) e = absurd (let k : Into (Some n) t ≡ Void = e in cc)
looked_void (Some n) (Seen object t) e = absurd (let k : Seen object t ≡ Void = e in cc)
looked_void (Some n) (Into peek t) e = absurd (let k : Into peek t ≡ Void = e in cc)

through_void : (peek : Option ℕ) (t : RunTy) (r : RunValue) → IsThrough peek t r → r ≡ Void → ⊥
through_void peek t r (inl is) e = value_void (looked_void peek (Value t) (sym is ∙ e))
through_void peek t r (inr is) e = let k : Into peek t ≡ Void = sym is ∙ e in absurd (cc)

void_waits : {p : Program} {x : Exits} {q : Relied} {bs cs : List InScope} {a : Awaiting} {ts : List RunTy} {r : RunValue} {f : flow.State} {next : Want} → Waits p x q bs a ts r f cs next → r ≡ Void → ⊥
void_waits {bs = bs} (awaited.converts c v t f agrees keeps conv from to target) e = void_converts c t (subst (λ z. Converts c z t) (void_read (lives_in bs) v e) conv)
void_waits (awaited.negates f) e = value_void e
void_waits (awaited.complements f) e = value_void e
void_waits (awaited.widens f) e = value_void e
void_waits (awaited.narrows f) e = value_void e
void_waits {bs = bs} (awaited.denies seen v f tested) e = void_tested (lives_in bs) v (looked_void seen (read_value bs v) e) tested
void_waits {p} {q = q} {bs = bs} (awaited.chains {os} seen c v t f h stands computes chained) e = void_chain q c os t (subst (λ z. IsChain c z os t) (void_read (lives_in bs) v (looked_void seen (read_value bs v) e)) computes.typed) computes.kept
void_waits (awaited.applies f) e = value_void e
void_waits {bs = bs} (awaited.decides seen v f h tested i) e = void_tested (lives_in bs) v (looked_void seen (read_value bs v) e) tested
void_waits (awaited.stores_local b t f among same spared) e = value_void e
void_waits (awaited.stores_global number t f there same) e = value_void e
void_waits {bs = bs} (awaited.points also c t v w f stands op) e = pointer_right (lives_in bs) op (looked_void also (read_value bs v) e)
void_waits {bs = bs} (awaited.null_points also c v w f op) e = pointer_right (lives_in bs) op (looked_void also (read_value bs v) e)
void_waits (awaited.stores_cell t r f alive) e = value_void e
void_waits {bs = bs} (awaited.follows seen v m t r f through kind target alive) e = through_void seen (lives.Pointer m (read bs t) (lives_in bs r)) v through e
void_waits {bs = bs} (awaited.follows_member seen m n ls s t u r f kind struct fields field is alive) e = value_void (looked_void seen (Value (lives.Pointer m (lives.Struct n ls) (lives_in bs r))) e)
void_waits {bs = bs} (awaited.indexes {peek} c t r f h stands evaluates target alive) e = value_void (looked_void peek (Value (lives.Pointer marks.Fat (read bs t) (lives_in bs r))) e)
void_waits (awaited.advances t r f target alive) e = value_void e
void_waits (awaited.counts_elements seen t l f) e = value_void (looked_void seen (Value (lives.Pointer marks.Fat t l)) e)
void_waits (awaited.places_by c m t r f h stands makes alive) e = value_void e
void_waits (awaited.beside_handle t f) e = value_void e
void_waits (awaited.makes_plain t r f keyless alive owner kind) e = value_void e
void_waits (awaited.makes_fields c done t ts n ls r f h alive owner stands passes fields) e = value_void e
void_waits (awaited.makes_array c t r f alive owner stands repeats) e = value_void e
void_waits (awaited.fills cs c t r f h same alive stands repeats i) e = value_void e
void_waits (awaited.passes c done t ts r f h stands passes called) e = value_void e
void_waits (awaited.initialises cs c t f h within stands new number kind continues) e = value_void e
void_waits {bs = bs} (awaited.chooses seen c d v f g h i tested first_stands second_stands one two j k) e = void_tested (lives_in bs) v (looked_void seen (read_value bs v) e) tested
void_waits {bs = bs} (awaited.tests seen l v f h loop) e = void_tested (lives_in bs) v (looked_void seen (read_value bs v) e) loop.tested
void_waits (awaited.returns t u f h result gives) e = value_void e
void_waits (awaited.frees_object k t f) e = value_void e
void_waits (awaited.closes_by_key r f) e = value_void e
void_waits (awaited.throws f h) e = value_void e
void_waits (awaited.opens_by cs c b r f h i within stands among number of_type hides set spared full less alive next continues again) e = seen_void e
void_waits (awaited.aliases cs c b u t f h i within stands among number same hides set spared full unique known of_type alive next continues again) e = seen_void e

pub void_goes : (p : Program) (g : Typing) (x : Exits) (bs : List InScope) (f : flow.State) (r : RunValue) (k : List Entry) → r ≡ Void → IsStack p g x bs (Val r f) k → IsStack p g x bs (Go f) k
void_goes p g x bs f r (Needs a ∷ k) e (ts, cs, next, waits, are, rest) = absurd (void_waits waits e)
void_goes p g x bs f r (Discard ∷ k) e is = is
void_goes p g x bs f r k e is = absurd is
