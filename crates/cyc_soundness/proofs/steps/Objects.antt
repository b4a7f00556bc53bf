-- This file is about the creation of objects: an object is created with empty cells, which are then written one by one.
use Rattle.std.proofs.Common.{◌≡◌, ◌≢◌, ℕ, zero, suc, ◌+◌, ◌≤◌, ◌<◌, true, false, List, [], ◌∷◌, length, map, reverse, Some, slice_get, refl, sym, ap, subst, ◌∙◌, arith, None}
use Rattle.std.specs.Prelude.{if◌then◌else◌}
use mathlib.Core.List.{reverse_aux}
use Rattle.cyc_types.specs.declared.typed.Kind.{Kind}
use Rattle.cyc_types.specs.Types.{Ty}
use Rattle.cyc_types.specs.typing.Tests.{is_key}
use Rattle.std.proofs.lemmas.Option.{same_Some}
use Rattle.cyc_words.proofs.Items.{never_at_length}
use Rattle.cyc_meaning.specs.Values.{Operand, Cell, blank}
use Rattle.cyc_meaning.specs.Values as values
use Rattle.cyc_meaning.specs.State.{Region, Owner, InRegion, Unique, Object}
use Rattle.cyc_meaning.specs.Allocation.{blanks_of, blanks}
use Rattle.cyc_soundness.specs.inside.Lives.{at, Life, OfRegion, Kept, RunTy, Int, Char, Pointer, Handle, Key, Struct, Value, Owned, Lives}
use Rattle.cyc_soundness.specs.inside.Worlds.{NoLocal, Thing, PointerTo, Holder, Nobody, Hand, At, Lent, pointer_at, Owns, Claims, giving, AreOwned, IsUniqueObject, IsOpenObject, IsNewOwner, IsHeld}
use Rattle.cyc_soundness.specs.inside.Worlds.{AreKeyless, ObjectType, Typing, IsFilled, IsPart, HasType, IsResult, AreOperands, AreCells, IsOwner, IsTyped, IsOpenLife, Grows}
use Rattle.cyc_soundness.specs.inside.Awaited.{turned, AreClaimed, AreGiven}
use Rattle.cyc_soundness.specs.inside.Stacks.{AreNext, IsWhole, AreNextGiven}
use Rattle.cyc_soundness.proofs.states.WorldLemmas.{operands_grown}
use Rattle.cyc_soundness.proofs.states.Hands.{Changed, hand_same, claims_kept}
use Rattle.cyc_soundness.proofs.states.StillHands.{pointed_typed}
use Rattle.cyc_soundness.proofs.types.Sharing.{plain_keyless}

-- ---- lists of operands

operands_turned : (g : Typing) (ts us : List RunTy) (vs ws : List Operand) → AreOperands g ts vs → AreOperands g us ws → AreOperands g (turned ts us) (reverse_aux vs ws)
operands_turned g [] us [] ws are more = more
operands_turned g [] us (v ∷ vs) ws are more = absurd are
operands_turned g (t ∷ ts) us [] ws are more = absurd are
operands_turned g (t ∷ ts) us (v ∷ vs) ws (is, are) more = operands_turned g ts (t ∷ us) vs (v ∷ ws) are (is, more)

pub operands_reversed : (g : Typing) (ts : List RunTy) (vs : List Operand) → AreOperands g ts vs → AreOperands g (turned ts []) (reverse vs)
operands_reversed g ts vs are = operands_turned g ts [] vs [] are tt

pub blank_cells : (g h : Typing) (ts : List RunTy) (vs : List Operand) → AreOperands g ts vs → AreCells h ts (blanks_of vs) 0
blank_cells g h [] [] are = tt
blank_cells g h [] (v ∷ vs) are = absurd are
blank_cells g h (t ∷ ts) [] are = absurd are
blank_cells g h (t ∷ ts) (v ∷ vs) (is, are) = ((is.0, refl), blank_cells g h ts vs are)

-- Operands on the stack, the last on top, still own their resources (keys and unique pointers) when they become arguments in order.
pub given_turned : (g : Typing) (i : ℕ) (ts us : List RunTy) (vs ws : List Operand) → AreOperands g ts vs → AreClaimed g.own i ts vs → AreGiven g.own (i + length ts) us ws → AreGiven g.own i (turned ts us) (reverse_aux vs ws)
given_turned g i [] us [] ws operands are more = let e : i + 0 ≡ i = omega arith in subst (λ j. AreGiven g.own j us ws) e more
given_turned g i [] us (v ∷ vs) ws operands are more = absurd operands
given_turned g i (t ∷ ts) us [] ws operands are more = absurd operands
given_turned g i (t ∷ ts) us (v ∷ vs) ws operands (is, are) more =
    let e : i + suc (length ts) ≡ suc (i + length ts) = omega arith in
    given_turned g i ts (t ∷ us) vs (v ∷ ws) operands.1 are (is, subst (λ j. AreGiven g.own j us ws) e more)

-- When an operand moves elsewhere, the operands after it still own the resources that their values represent.
module _ (old : Holder) (g h : Typing) (changed : Changed old g h) where
  pub given_kept : (j : ℕ) (ts : List RunTy) (vs : List Operand) → ((i : ℕ) → j ≤ i → Hand i ≢ old) → AreGiven g.own j ts vs → AreGiven h.own j ts vs
  given_kept j [] vs other are = tt
  given_kept j (t ∷ ts) [] other are = tt
  given_kept j (t ∷ ts) (v ∷ vs) other (is, are) =
      (claims_kept old g h changed (Hand j) t v.value (other j (let le : j ≤ j = omega arith in le)) is, given_kept (suc j) ts vs (λ i less. other i (let le : j ≤ i = omega (arith, less) in le)) are)

  pub next_given_kept : (j o : ℕ) (ts : List RunTy) (vs : List Operand) → ((i : ℕ) → j ≤ i → Hand i ≢ old) → AreNextGiven g.own j o ts vs → AreNextGiven h.own j o ts vs
  next_given_kept j zero ts vs other are = given_kept j ts vs other are
  next_given_kept j (suc o) [] vs other are = tt
  next_given_kept j (suc o) (t ∷ ts) vs other are = next_given_kept j o ts vs other are

pub past_hand : (j i k : ℕ) → j < i → i ≤ k → Hand k ≢ Hand j
past_hand j i k less most e = let same : k ≡ j = hand_same k j e in absurd (omega (arith, less, most, same))

-- ---- operands for cells

pub next_grown : (g h : Typing) → Grows g h → (i : ℕ) (ts : List RunTy) (vs : List Operand) → AreNext g i ts vs → AreNext h i ts vs
next_grown g h grows zero ts vs are = operands_grown g h grows ts vs are
next_grown g h grows (suc i) [] vs are = absurd are
next_grown g h grows (suc i) (t ∷ ts) vs are = next_grown g h grows i ts vs are

-- The next operand with which a new object or a call is supplied, and the operands after it.
pub next_one : (g : Typing) (i : ℕ) (ts : List RunTy) (v : Operand) (vs : List Operand) → AreNext g i ts (v ∷ vs) → (t : RunTy) × (slice_get ts i ≡ Some t) × IsResult g (Value t) v × AreNext g (suc i) ts vs
next_one g zero [] v vs are = absurd are
next_one g zero (t ∷ ts) v vs (is, are) = (t, refl, is, are)
next_one g (suc i) [] v vs are = absurd are
next_one g (suc i) (t ∷ ts) v vs are = next_one g i ts v vs are

-- The next operand with which a new object or a call is supplied owns the resource that its value represents.
pub next_claims : (own : Thing → Holder) (g : Typing) (place i : ℕ) (ts : List RunTy) (v : Operand) (vs : List Operand) (t : RunTy) → slice_get ts i ≡ Some t → AreNextGiven own place i ts (v ∷ vs) → Claims own (Hand place) t v.value × AreNextGiven own (suc place) (suc i) ts vs
next_claims own g place zero [] v vs t at are = absurd (let k : None ≡ Some t = at in cc)
next_claims own g place zero (u ∷ ts) v vs t at (is, are) = (subst (λ z. Claims own (Hand place) z v.value) (same_Some u t at) is, are)
next_claims own g place (suc i) [] v vs t at are = absurd (let k : None ≡ Some t = at in cc)
next_claims own g place (suc i) (u ∷ ts) v vs t at are = next_claims own g place i ts v vs t at are

pub none_next : (g : Typing) (i : ℕ) (ts : List RunTy) → AreNext g i ts [] → length ts ≤ i
none_next g zero [] are = omega arith
none_next g zero (t ∷ ts) are = absurd are
none_next g (suc i) [] are = absurd are
none_next g (suc i) (t ∷ ts) are = let few : length ts ≤ i = none_next g i ts are in omega (arith, few)

-- ---- an object as a whole

pub whole_grown : (g h : Typing) → Grows g h → (y : ObjectType) (t : RunTy) → IsWhole g y t → IsWhole h y t
whole_grown g h grows y Int is = is
whole_grown g h grows y Char is = is
whole_grown g h grows y (Pointer k t l) is = is
whole_grown g h grows y (Handle l) is = is
whole_grown g h grows y (Key l) is = is
whole_grown g h grows y (Struct n ls) is = grows.fields n ls y.cells is

abbrev pub new_type : List RunTy → Life → ObjectType
new_type ts l = record { cells = ts; life = l; is_hidden = false; slot = NoLocal }

-- An object that has a single cell is complete once a value of the cell's type is stored in it.
pub whole_of : (g : Typing) (l : Life) (t : RunTy) (v : values.Value) → HasType g t v → IsWhole g (new_type (t ∷ []) l) t
whole_of g l Int v has = refl
whole_of g l Char v has = refl
whole_of g l (Pointer k t m) v has = refl
whole_of g l (Handle m) v has = refl
whole_of g l (Key m) v has = refl
whole_of g l (Struct n ls) v has = absurd has

pub filled_up : (g : Typing) (object count most : ℕ) → count ≤ most → IsFilled g object most → IsFilled g object count
filled_up g object count most few (m, flag, enough) = (m, flag, (let e : count ≤ m = omega (arith, few, enough) in e))

one_cell_filled : (g : Typing) (object : ℕ) (y : ObjectType) (t : RunTy) → y.cells ≡ t ∷ [] → IsFilled g object (length y.cells) → (slice_get y.cells 0 ≡ Some t) × IsFilled g object 1
one_cell_filled g object y t cells full =
    let count : length y.cells ≡ 1 = ap length cells in
    (ap (λ ts. slice_get ts 0) cells, filled_up g object 1 (length y.cells) (let e : 1 ≤ length y.cells = omega (arith, count) in e) full)

pub whole_part : (g : Typing) (object : ℕ) (y : ObjectType) (t : RunTy) → IsWhole g y t → IsFilled g object (length y.cells) → IsPart g object y t 0
whole_part g object y Int is full = one_cell_filled g object y Int is full
whole_part g object y Char is full = one_cell_filled g object y Char is full
whole_part g object y (Pointer k t l) is full = one_cell_filled g object y (Pointer k t l) is full
whole_part g object y (Handle l) is full = one_cell_filled g object y (Handle l) is full
whole_part g object y (Key l) is full = one_cell_filled g object y (Key l) is full
whole_part g object y (Struct n ls) is full = (refl, is, full)

-- ---- linear resources

pub plain_each : (n : Lives) (ts : List Ty) → ((field : ℕ) (t : Ty) → slice_get ts field ≡ Some t → is_key t ≡ false) → AreKeyless (map (at n) ts)
plain_each n [] plain = tt
plain_each n (t ∷ ts) plain = (plain_keyless n t (plain 0 t refl), plain_each n ts (λ i u there. plain (suc i) u there))

-- Says that all cells of a new object are empty.
abbrev pub AreEmpty : List Cell → Type 0
AreEmpty cs = (i : ℕ) (c : Cell) → slice_get cs i ≡ Some c → c.content ≡ None

pub blanks_empty : (vs : List Operand) → AreEmpty (blanks_of vs)
blanks_empty [] i c found = absurd (let k : None ≡ Some c = found in cc)
blanks_empty (v ∷ vs) zero c found = ap (λ (z : Cell). z.content) (sym (same_Some (blank v.kind) c found))
blanks_empty (v ∷ vs) (suc i) c found = blanks_empty vs i c found

pub all_empty : (n : ℕ) (kind : Kind) → AreEmpty (blanks n kind)
all_empty zero kind i c found = absurd (let k : None ≡ Some c = found in cc)
all_empty (suc n) kind zero c found = ap (λ (z : Cell). z.content) (sym (same_Some (blank kind) c found))
all_empty (suc n) kind (suc i) c found = all_empty n kind i c found

pub new_owned : (g : Typing) (n : ℕ) (y : ObjectType) (cs : List Cell) → AreEmpty cs → AreOwned g n y cs
new_owned g n y cs empty i u c v kept found at content = absurd (let k : None ≡ Some v = sym (empty i c at) ∙ content in cc)

-- an object under construction is live, because its pointer is held by an operand
pub made_open : (g : Typing) (regions : List Region) (object i : ℕ) (l : Life) → IsOpenLife regions l → Owns g.own (Hand i) (pointer_at l object) → IsOpenObject g regions object l
made_open g regions object i (OfRegion number ns us) opens has = opens
made_open g regions object i (Kept region) opens has = opens
made_open g regions object i Owned opens has = subst (λ h. IsHeld h) (sym has) tt

pub new_is_owner : (l : Life) (owner : Owner) → IsNewOwner l owner → IsOwner l owner
new_is_owner l (InRegion n) is = is
new_is_owner l (Unique true) is = is
new_is_owner l (Unique false) is = absurd is

-- No operand, cell or loan owns the pointer to an object that does not exist yet.
pub unheld_new : (g : Typing) (regions : List Region) (objects : List Object) → IsTyped g regions objects → g.own (PointerTo (length objects)) ≡ Nobody
unheld_new g regions objects typed = go (g.own (PointerTo (length objects))) refl
  where
    gone : IsUniqueObject g objects (length objects) → ⊥
    gone (t, x, there, life, stands, live) = never_at_length objects (length objects) x stands refl

    go : (h : Holder) → g.own (PointerTo (length objects)) ≡ h → g.own (PointerTo (length objects)) ≡ Nobody
    go Nobody same = same
    go (Hand i) same = absurd (gone (typed.unique (length objects) (subst (λ h. IsHeld h) (sym same) tt)))
    go (At object offset) same = absurd (gone (typed.unique (length objects) (subst (λ h. IsHeld h) (sym same) tt)))
    go (Lent j object) same = absurd (gone (typed.unique (length objects) (subst (λ h. IsHeld h) (sym same) tt)))

pub unheld_at : (g : Typing) (l : Life) (object : ℕ) → g.own (PointerTo object) ≡ Nobody → Owns g.own Nobody (pointer_at l object)
unheld_at g (OfRegion number ns us) object none = tt
unheld_at g (Kept region) object none = tt
unheld_at g Owned object none = none

-- An operand holds the pointer to a new object.
pub claimed_new : (g : Typing) (l : Life) (object : ℕ) (new : Holder) (t : ObjectType) (x : Object) (regions : List Region) (objects : List Object) → IsNewOwner l x.owner → t.life ≡ l → g.own (PointerTo object) ≡ Nobody → slice_get g.objects object ≡ Some t
    → slice_get objects object ≡ Some x → IsTyped g regions objects → IsTyped (giving g (pointer_at l object) new) regions objects
claimed_new g (OfRegion number ns us) object new t x regions objects owned life none there stands typed = typed
claimed_new g (Kept region) object new t x regions objects owned life none there stands typed = typed
claimed_new g Owned object new t x regions objects owned life none there stands typed =
    pointed_typed g object new regions objects none (t, x, there, life, stands, live x.owner refl owned) typed
  where
    live : (o : Owner) → x.owner ≡ o → IsNewOwner Owned o → x.owner ≡ Unique true
    live (Unique true) same is = same
    live (Unique false) same is = absurd is
    live (InRegion n) same is = absurd is
