-- This file is about the cells that a step reads and writes: cells of variables, and cells to which a pointer points.
use Rattle.std.proofs.Common.{◌≡◌, ◌≢◌, Option, ℕ, zero, suc, ◌≤◌, ◌<◌, Bool, true, false, List, [], ◌∷◌, Some, None, slice_get, refl, sym, ap, subst, ◌∙◌, arith}
use Rattle.std.specs.Prelude.{if◌then◌else◌}
use Rattle.std.proofs.lemmas.Option.{same_Some}
use Rattle.cyc_words.proofs.Items.{slice_get-set_same}
use Rattle.cyc_syntax.specs.declared.tree.PointerKind.{PointerKind}
use Rattle.cyc_types.specs.declared.typed.Kind.{Kind}
use Rattle.cyc_types.specs.Types.{Ty}
use Rattle.cyc_types.specs.Types as types
use Rattle.cyc_types.specs.typing.Tests.{is_struct}
use Rattle.cyc_types.specs.flow.States as flow
use Rattle.cyc_types.specs.TypedTrees.{Program}
use Rattle.cyc_meaning.specs.Values.{Operand, Cell}
use Rattle.cyc_meaning.specs.Values as values
use Rattle.cyc_meaning.specs.State.{Region, World, Object, Found, Closed, cell_at, written, Environment, Entry, Focus, Given, Running}
use Rattle.cyc_meaning.specs.Objects.{found_object, object_at}
use Rattle.cyc_meaning.specs.Parts.{wrong, read, loaded, stored}
use Rattle.cyc_meaning.specs.inside.Nesting.{ends_of, AreOpen}
use Rattle.cyc_soundness.specs.inside.Lives.{Life, OfRegion, Owned, Kept, RunTy, RunValue, Int, Char, Pointer, Handle, Key, Struct, Value, Lives, at, kind_at, heap_life, at as at'}
use Rattle.cyc_soundness.specs.inside.Worlds.{IsKept, IsPlain, PointerTo, thing_of, same_thing, given, giving, Thing, Holder, Hand, At, IsHeld, pointer_at, Claims, ClaimsPart, ClaimsBy, IsHad, IsOpenObject, IsKeyless, AreKeyless, Stays, ObjectType, Typing}
use Rattle.cyc_soundness.specs.inside.Worlds.{IsOpenIn, Outlasts, alike, heap as for_ever, globals as with_globals, stays, encloses, IsFilled, IsPart, IsTarget, HasType, IsResult, IsTyped, IsOpenLife, borrows, KeyOf, life_at, lent_now, global_life, Standing, Away}
use Rattle.cyc_soundness.specs.inside.Frames.{InScope, IsBound, AreVariables, LiveIn, Holds, Exits, KnowsProgram, IsLasting}
use Rattle.cyc_soundness.specs.inside.Awaited.{IsCommonLife, IsByType, Val, operands_in}
use Rattle.cyc_soundness.specs.inside.Stacks.{IsStack, IsFocus, IsWell}
use Rattle.cyc_soundness.proofs.types.TypeLemmas.{is_kind_same}
use Rattle.cyc_soundness.proofs.states.WorldLemmas.{typed_cell, cell_there, live_object, result_grown, risen, risen_past, with_filled, written_grows, cell_written, globals_grown}
use Rattle.cyc_soundness.proofs.states.Hands.{Changed, at_no_hand, given_now, giving_changed, variables_kept, changed_after, lent_no_hand}
use Rattle.cyc_soundness.proofs.states.StillHands.{variables_grown, given_typed}
use Rattle.cyc_soundness.proofs.states.CallHands.{hands_globals, variables_marked}
use Rattle.cyc_soundness.proofs.states.StackLocals.{open_of, globals_among, kept_open, object_known, open_outlasting, IsPresent, outlasting_open, lent_held}

-- A run state is typed if its heap state, its environment, its scope and its stack are typed.
pub running : (p : Program) (g : Typing) (x : Exits) (bs : List InScope) (e : Environment) (w : World) → IsTyped g w.regions w.objects → KnowsProgram g p → IsBound e.locals e.counters bs → AreVariables g bs
    → (focus : Focus) (k : List Entry) → LiveIn k bs → IsFocus p g x bs focus k → IsWell p (Running focus k e w)
running p g x bs e w typed globals bound variables focus k live stands =
    record { typing = g; exits = x; locals = bs; objects = typed; globals = globals; bound = bound; variables = variables; live = live; stands = stands }

-- ---- targets of pointers

-- If a lifetime outlasts a lifetime that is not that of a unique object, then the first lifetime is not that of a unique object either.
pub outlasts_common : (l m : Life) → Outlasts l m → IsCommonLife m → IsCommonLife l
outlasts_common l m (alike _) common = common
outlasts_common l m (for_ever _) common = tt
outlasts_common l m (with_globals _) common = tt
outlasts_common l m (stays a n ns us has) common = tt
outlasts_common l m (borrows object) common = tt
outlasts_common l m (encloses a b as' bs us vs end more) common = tt

pub lasting_common : (ns : List ℕ) (l : Life) → IsLasting ns l → IsCommonLife l
lasting_common ns (OfRegion number around lent) is = tt
lasting_common ns (Kept a) is = tt
lasting_common ns Owned is = absurd is

pub open_object : (g : Typing) (regions : List Region) (object : ℕ) (l : Life) → IsCommonLife l → IsOpenLife regions l → IsOpenObject g regions object l
open_object g regions object (OfRegion number around lent) common opens = opens
open_object g regions object (Kept a) common opens = opens
open_object g regions object Owned common opens = absurd common

-- A resource (key or unique pointer) has an owner if an operand holds it, or if a peek (a read without a move) has read it from a local.
pub part_had : (g : Typing) (i : ℕ) (peek : Option ℕ) (o : Option Thing) → ClaimsPart g i peek o → IsHad g o
part_had g i None None is = tt
part_had g i (Some n) None is = tt
part_had g i None (Some a) is = subst (λ h. IsHeld h) (sym is) tt
part_had g i (Some n) (Some a) (object, here, hidden, is) = subst (λ h. IsHeld h) (sym is) tt

kept_same : (a b : Thing) → Kept a ≡ Kept b → a ≡ b
kept_same a b same = ap thing_in same
  where
    thing_in : Life → Thing
    thing_in (Kept c) = c
    thing_in l = a

module _ (g : Typing) (w : World) (typed : IsTyped g w.regions w.objects) where
  -- No cell of an object contains a struct.
  never_struct : (number : ℕ) (x : ObjectType) (n : ℕ) (ls : List Life) (offset : ℕ) → slice_get g.objects number ≡ Some x → slice_get x.cells offset ≡ Some (Struct n ls) → IsFilled g number (suc offset) → ⊥
  never_struct number x n ls offset there at (m, flag, enough) =
      let (y, k, stands, filled, is) = typed.each number x there in
      let c = typed_cell g x.cells y.cells k offset (Struct n ls) is.cells at in
      let same : m ≡ k = same_Some m k (sym flag ∙ filled) in
      let (v, content, has) = c.content (let less : offset < k = omega (arith, same, enough) in less) in
      has

  pub part_at : (number : ℕ) (x : ObjectType) (t : RunTy) (offset : ℕ) → slice_get g.objects number ≡ Some x → slice_get x.cells offset ≡ Some t → IsFilled g number (suc offset) → IsPart g number x t offset
  part_at number x Int offset there at filled = (at, filled)
  part_at number x Char offset there at filled = (at, filled)
  part_at number x (Pointer k t l) offset there at filled = (at, filled)
  part_at number x (Handle l) offset there at filled = (at, filled)
  part_at number x (Key l) offset there at filled = (at, filled)
  part_at number x (Struct n ls) offset there at filled = absurd (never_struct number x n ls offset there at filled)

  life_by : (k : List Entry) (object : ℕ) (y : ObjectType) (m : Life) → slice_get g.objects object ≡ Some y → AreOpen w.regions (ends_of k) → Outlasts y.life m → IsLasting (ends_of k) m × IsOpenIn g m → IsOpenObject g w.regions object y.life
  life_by k object y m there opens outlasts lasting =
      open_object g w.regions object y.life (outlasts_common y.life m outlasts (lasting_common (ends_of k) m lasting.0))
      (outlasting_open w.regions (ends_of k) y.life m opens typed.heap (open_of w.regions (globals_among k) opens)
      (kept_open g w.regions w.objects y.life typed (object_known g w.regions w.objects object y typed there) (open_outlasting g y.life m outlasts (lasting_common (ends_of k) m lasting.0) lasting.1)) outlasts lasting.0)

  owned_by : (k : List Entry) (object : ℕ) (l m : Life) → m ≡ Owned → AreOpen w.regions (ends_of k) → Outlasts l m → IsHad g (pointer_at m object) → IsOpenObject g w.regions object l
  owned_by k object l m same opens (alike _) had = subst (λ z. IsOpenObject g w.regions object z) (sym same) (subst (λ z. IsHad g (pointer_at z object)) same had)
  owned_by k object l m same opens (for_ever _) had = typed.heap
  owned_by k object l m same opens (with_globals _) had = open_of w.regions (globals_among k) opens
  owned_by k object l m same opens (borrows o) had = tt
  owned_by k object l m same opens (stays a n ns us has) had = let z : OfRegion n ns us ≡ Owned = same in absurd (cc)
  owned_by k object l m same opens (encloses a b as' bs us vs end more) had = let z : OfRegion b bs vs ≡ Owned = same in absurd (cc)

  common_there : (k : List Entry) (object : ℕ) (y : ObjectType) (m : Life) → slice_get g.objects object ≡ Some y → AreOpen w.regions (ends_of k) → Outlasts y.life m → IsPresent g (ends_of k) m → IsHad g (pointer_at m object) → IsOpenObject g w.regions object y.life
  common_there k object y Owned there opens outlasts lasting had = owned_by k object y.life Owned refl opens outlasts had
  common_there k object y (OfRegion number around lent) there opens outlasts lasting had = life_by k object y (OfRegion number around lent) there opens outlasts lasting
  common_there k object y (Kept a) there opens outlasts lasting had = life_by k object y (Kept a) there opens outlasts lasting

  -- A unique object is live as long as some operand, cell or loan owns its pointer, even while the object is lent.
  lent_there : (ns : List ℕ) (object : ℕ) (l m : Life) → l ≡ Kept (PointerTo object) → Outlasts l m → IsPresent g ns m → IsHad g (pointer_at m object) → IsHeld (g.own (PointerTo object))
  lent_there ns object l m same (alike _) lasting had = lent_held g.loans (g.own (PointerTo object)) (subst (λ z. IsPresent g ns z) same lasting).1
  lent_there ns object l m same (for_ever _) lasting had = let z : heap_life ≡ Kept (PointerTo object) = same in absurd (cc)
  lent_there ns object l m same (with_globals _) lasting had = let z : global_life ≡ Kept (PointerTo object) = same in absurd (cc)
  lent_there ns object l m same (stays a n os us has) lasting had =
      let z : a ≡ PointerTo object = kept_same a (PointerTo object) same in
      lent_held g.loans (g.own (PointerTo object)) (subst (λ b. lent_now g b ≡ true) z (lasting.1 a has))
  lent_there ns object l m same (borrows o) lasting had = had
  lent_there ns object l m same (encloses a b as' bs us vs end more) lasting had = let z : OfRegion a as' us ≡ Kept (PointerTo object) = same in absurd (cc)

  -- The object to which a pointer points is live.
  pub life_of : (k : List Entry) (object : ℕ) (y : ObjectType) (m : Life) → slice_get g.objects object ≡ Some y → AreOpen w.regions (ends_of k) → Outlasts (life_at object y.life) m → IsPresent g (ends_of k) m → IsHad g (pointer_at m object) → IsOpenObject g w.regions object y.life
  life_of k object y m there opens outlasts lasting had = go y.life refl outlasts
    where
      go : (l : Life) → y.life ≡ l → Outlasts (life_at object l) m → IsOpenObject g w.regions object l
      go Owned same out = lent_there (ends_of k) object (Kept (PointerTo object)) m refl out lasting had
      go (OfRegion number ns us) same out =
          subst (λ z. IsOpenObject g w.regions object z) same (common_there k object y m there opens (subst (λ z. Outlasts z m) (sym same) out) lasting had)
      go (Kept a) same out =
          subst (λ z. IsOpenObject g w.regions object z) same (common_there k object y m there opens (subst (λ z. Outlasts z m) (sym same) out) lasting had)

  -- The target object of a typed pointer is live.
  pub target_live : (k : List Entry) (t : RunTy) (l : Life) (object offset : ℕ) → AreOpen w.regions (ends_of k) → IsPresent g (ends_of k) l → IsHad g (pointer_at l object) → IsTarget g t l object offset → (x : Object) × (object_at w object ≡ Found x)
  target_live k t l object offset opens lasting had (x, there, shown, outlasts, part) =
      let (y, m, stands, flag, is) = typed.each object x there in
      let open' = life_of k object x l there opens outlasts lasting had in
      (y, ap (λ o. found_object w o) stands ∙ ap (λ (b : Bool). if b then Found y else Closed) (live_object g w object x y typed there stands is.owner open'))

-- A memory location that is not a struct holds a value.
pub value_part : (n : Lives) (g : Typing) (object : ℕ) (x : ObjectType) (t : Ty) (offset : ℕ) → is_struct t ≡ false → IsPart g object x (at n t) offset → (slice_get x.cells offset ≡ Some (at n t)) × IsFilled g object (suc offset)
value_part n g object x types.Int offset plain is = is
value_part n g object x types.Char offset plain is = is
value_part n g object x (types.Pointer k t r) offset plain is = is
value_part n g object x (types.Handle r) offset plain is = is
value_part n g object x (types.Key r) offset plain is = is
value_part n g object x (types.Struct m rs) offset plain is = absurd (let e : true ≡ false = plain in cc)

pub stored_part : (g : Typing) (object : ℕ) (x : ObjectType) (t : RunTy) (offset : ℕ) (v : values.Value) → HasType g t v → IsPart g object x t offset → (slice_get x.cells offset ≡ Some t) × IsFilled g object (suc offset)
stored_part g object x Int offset v has is = is
stored_part g object x Char offset v has is = is
stored_part g object x (Pointer k t l) offset v has is = is
stored_part g object x (Handle l) offset v has is = is
stored_part g object x (Key l) offset v has is = is
stored_part g object x (Struct n ls) offset v has is = absurd has

-- ---- keys

pub keyless_at : (ts : List RunTy) (i : ℕ) (t : RunTy) → AreKeyless ts → slice_get ts i ≡ Some t → IsKeyless t
keyless_at [] i t are found = absurd (let k : None ≡ Some t = found in cc)
keyless_at (u ∷ ts) zero t (is, are) found = subst (λ z. IsKeyless z) (same_Some u t found) is
keyless_at (u ∷ ts) (suc i) t (is, are) found = keyless_at ts i t are found

-- a value that is neither a key nor a unique pointer represents no resource that needs a single owner
pub plain_claims : (own : Thing → Holder) (h : Holder) (t : RunTy) (v : values.Value) → IsPlain t → Claims own h t v
plain_claims own h Int v is = (tt, tt)
plain_claims own h Char v is = (tt, tt)
plain_claims own h (Handle l) v is = (tt, tt)
plain_claims own h (Struct n ls) v is = (tt, tt)
plain_claims own h (Key (Kept (KeyOf region))) v is = absurd is
plain_claims own h (Key (Kept (PointerTo object))) v is = (tt, tt)
plain_claims own h (Key (OfRegion number ns us)) v is = (tt, tt)
plain_claims own h (Key Owned) v is = (tt, tt)
plain_claims own h (Pointer k t l) v is = pointer_claims l v is
  where
    pointer_claims : (l : Life) (v : values.Value) → IsPlain (Pointer k t l) → Claims own h (Pointer k t l) v
    pointer_claims Owned v is = absurd is
    pointer_claims (OfRegion number ns us) values.Null is = (tt, tt)
    pointer_claims (OfRegion number ns us) (values.Int n) is = (tt, tt)
    pointer_claims (OfRegion number ns us) (values.Thin o i) is = (tt, tt)
    pointer_claims (OfRegion number ns us) (values.Fat o s c i) is = (tt, tt)
    pointer_claims (OfRegion number ns us) (values.Handle n) is = (tt, tt)
    pointer_claims (OfRegion number ns us) (values.Key n) is = (tt, tt)
    pointer_claims (Kept region) values.Null is = (tt, tt)
    pointer_claims (Kept region) (values.Int n) is = (tt, tt)
    pointer_claims (Kept region) (values.Thin o i) is = (tt, tt)
    pointer_claims (Kept region) (values.Fat o s c i) is = (tt, tt)
    pointer_claims (Kept region) (values.Handle n) is = (tt, tt)
    pointer_claims (Kept region) (values.Key n) is = (tt, tt)

pub pointer_plain : (k : PointerKind) (t : RunTy) (l : Life) → IsCommonLife l → IsPlain (Pointer k t l)
pointer_plain k t (OfRegion number ns us) common = tt
pointer_plain k t (Kept region) common = tt
pointer_plain k t Owned common = absurd common

-- a plain type contains no key
pub plain_unkept : (t : RunTy) → IsPlain t → IsKeyless t
plain_unkept Int plain = tt
plain_unkept Char plain = tt
plain_unkept (Pointer k t l) plain = tt
plain_unkept (Handle l) plain = tt
plain_unkept (Key (Kept (KeyOf region))) plain = plain
plain_unkept (Key (Kept (PointerTo object))) plain = tt
plain_unkept (Key (OfRegion number ns us)) plain = tt
plain_unkept (Key Owned) plain = tt
plain_unkept (Struct n ls) plain = tt

-- A type is plain if it contains no key and if it alone determines the resources that its values represent.
pub both_plain : (t : RunTy) → IsKeyless t → IsByType t → IsPlain t
both_plain Int keyless by = tt
both_plain Char keyless by = tt
both_plain (Pointer k t l) keyless by = pointer_plain k t l by
both_plain (Handle l) keyless by = tt
both_plain (Key (Kept (KeyOf region))) keyless by = keyless
both_plain (Key (Kept (PointerTo object))) keyless by = tt
both_plain (Key (OfRegion number ns us)) keyless by = tt
both_plain (Key Owned) keyless by = tt
both_plain (Struct n ls) keyless by = tt

pub shared_claims : (g : Typing) (w : World) (number offset : ℕ) (y : ObjectType) (t : RunTy) → IsTyped g w.regions w.objects → slice_get g.objects number ≡ Some y → y.is_hidden ≡ false → slice_get y.cells offset ≡ Some t → IsByType t → (h : Holder) (v : values.Value) → Claims g.own h t v
shared_claims g w number offset y t typed there shown at by h v = let (x, m, stands, flag, is) = typed.each number y there in plain_claims g.own h t v (both_plain t (keyless_at y.cells offset t (is.keyless shown) at) by)

-- ---- reads and writes

module _ (p : Program) (g : Typing) (x : Exits) (bs : List InScope) (e : Environment) (w : World) (typed : IsTyped g w.regions w.objects) (globals : KnowsProgram g p) (bound : IsBound e.locals e.counters bs) (variables : AreVariables g bs) where
  -- The value stored in a cell that a step reads.
  pub record Content (kind : Kind) (number offset : ℕ) (t : RunTy) : Type 0 where
    pub value : values.Value
    pub has : HasType g t value
    pub object : Object
    pub cell : Cell
    pub there : slice_get w.objects number ≡ Some object
    pub at : slice_get object.cells offset ≡ Some cell
    pub content : cell.content ≡ Some value
    pub loads : (k : List Entry) (e : Environment) → loaded kind (cell_at w number offset) k e w ≡ Running (Given (record { kind = kind; value = value })) k e w

  pub content_of : (kind : Kind) (number offset : ℕ) (t : RunTy) (y : ObjectType) → slice_get g.objects number ≡ Some y → slice_get y.cells offset ≡ Some t → IsOpenObject g w.regions number y.life → IsFilled g number (suc offset) → kind_at t ≡ kind
      → Content kind number offset t
  content_of kind number offset t y at cells opens (m, flag, enough) same =
      let c = cell_there g w number offset t y typed at cells opens in
      let count : m ≡ c.filled = same_Some m c.filled (sym flag ∙ c.flag) in
      let (v, content, has) = c.of.content (let less : offset < c.filled = omega (arith, count, enough) in less) in
      record {
        value = v;
        has = has;
        object = c.object;
        cell = c.of.cell;
        there = c.there;
        at = c.of.at;
        content = content;
        loads = λ k e. ap (λ a. loaded kind a k e w) c.found
            ∙ ap (λ (b : Bool). if b then read kind c.of.cell.content k e w else wrong w) (is_kind_same c.of.cell.kind kind (c.of.kind ∙ same))
            ∙ ap (λ o. read kind o k e w) content;
      }

  -- Reading a cell in a well-typed run state yields a well-typed run state.
  pub reads : (k : List Entry) (kind : Kind) (number offset : ℕ) (t : RunTy) (y : ObjectType) (f : flow.State) → LiveIn k bs → Holds g f bs
      → slice_get g.objects number ≡ Some y → slice_get y.cells offset ≡ Some t → IsOpenObject g w.regions number y.life → IsFilled g number (suc offset) → kind_at t ≡ kind
      → (r : RunValue) → ((v : values.Value) → HasType g t v → IsResult g r (record { kind = kind; value = v })) → ((c : Content kind number offset t) → ClaimsBy g (operands_in k) r c.value) → IsStack p g x bs (Val r f) k
      → IsWell p (loaded kind (cell_at w number offset) k e w)
  reads k kind number offset t y f live holds at cells opens filled same r fits comes stack =
      let c = content_of kind number offset t y at cells opens filled same in
      subst (λ s. IsWell p s) (sym (c.loads k e)) (running p g x bs e w typed globals bound variables (Given (record { kind = kind; value = c.value })) k live (r, f, holds, fits c.value c.has, comes c, stack))

  -- Writing a cell of an object that the typing lists yields a well-typed run state; the facts about objects in the
  -- typing of the run state have grown.
  module _ (v : Operand) (focus : Focus) (k : List Entry) (number offset m : ℕ) (t : RunTy) (y : ObjectType) (here : ℕ → Standing) where
    abbrev pub written_typing : Typing
    written_typing = record (with_filled g number (risen offset m)) { here = here }

    pub writes_marking : LiveIn k bs → slice_get g.objects number ≡ Some y → slice_get y.cells offset ≡ Some t → IsOpenObject g w.regions number y.life → slice_get g.filled number ≡ Some m → offset ≤ m
        → IsResult g (Value t) v → ((object i : ℕ) (hidden : Bool) → object ≢ number → IsKept written_typing object i hidden → IsKept g object i hidden)
        → ((i : ℕ) (u : RunTy) → slice_get y.cells i ≡ Some u → i ≢ offset → IsKept written_typing number i y.is_hidden → IsKept g number i y.is_hidden) → (y.is_hidden ≡ true → (j : ℕ) → here number ≡ Away j → ⊥)
        → ((object j : ℕ) → object ≢ number → here object ≡ Away j → g.here object ≡ Away j) → (IsKept written_typing number offset y.is_hidden → Claims g.own (At number offset) t v.value)
        → (Stays (record g { here = here }) written_typing → IsFilled written_typing number (suc offset) → IsFocus p written_typing x bs focus k)
        → IsWell p (stored (cell_at w number offset) number offset v focus k e w)
    writes_marking live at cells opens flag few is before beside free lasts claims goes =
        let c = cell_there g w number offset t y typed at cells opens in
        let count : m ≡ c.filled = same_Some m c.filled (sym flag ∙ c.flag) in
        let few_too : offset ≤ c.filled = omega (arith, count, few) in
        let h : Typing = record (with_filled g number (risen offset c.filled)) { here = here } in
        let grows = written_grows g w number offset y t v.value typed at cells c few_too is.1 in
        let changed : Stays (record g { here = here }) h = record {
          grows = record { objects = grows.objects; filled = grows.filled; fields = grows.fields; kept = grows.kept };
          own = refl;
          here = refl;
          pending = refl;
          depth = refl;
          loans = refl;
        } in
        let past : suc offset ≤ risen offset c.filled = risen_past offset c.filled few_too in
        let now : IsFilled h number (suc offset) = (risen offset c.filled, slice_get-set_same g.filled number c.filled (risen offset c.filled) c.flag, past) in
        let goes_on = subst (λ n. Stays (record g { here = here }) (record (with_filled g number (risen offset n)) { here = here }) → IsFilled (record (with_filled g number (risen offset n)) { here = here }) number (suc offset)
        → IsFocus p (record (with_filled g number (risen offset n)) { here = here }) x bs focus k) count goes in
        subst (λ a. IsWell p (stored a number offset v focus k e w)) (sym c.found)
        (subst (λ (b : Bool). IsWell p (if b then Running focus k e (written w number offset (record { object = c.object; cell = c.of.cell }) v.value) else wrong w))
        (sym (is_kind_same c.of.cell.kind v.kind (c.of.kind ∙ sym is.0)))
        (running p h x bs e (written w number offset (record { object = c.object; cell = c.of.cell }) v.value)
        (cell_written g w number offset y t v.value typed at cells c few_too is.1 g.own here g.pending (λ a held. held) (λ a none. none) (λ object i hidden apart kept a has. has) (λ object i hidden apart kept. before object i hidden apart kept) (λ i u found apart kept. beside i u found apart kept) (λ kept. claims kept) free lasts (λ object j a has. has))
        (globals_grown g h (record { objects = grows.objects; filled = grows.filled; fields = grows.fields; kept = grows.kept }) p (λ n ls. refl) globals) bound (variables_grown (record g { here = here }) h changed bs (variables_marked g here bs variables)) focus k live (goes_on changed now)))

  -- Reading the target of a pointer in a well-typed run state yields a well-typed run state.
  pub reads_target : (k : List Entry) (kind : Kind) (object offset : ℕ) (n : Lives) (t : Ty) (l : Life) (f : flow.State) → AreOpen w.regions (ends_of k) → LiveIn k bs → IsPresent g (ends_of k) l → IsHad g (pointer_at l object) → Holds g f bs
      → IsTarget g (at n t) l object offset → IsByType (at n t) → is_struct t ≡ false → kind_at (at n t) ≡ kind → IsStack p g x bs (Val (Value (at n t)) f) k
      → IsWell p (loaded kind (cell_at w object offset) k e w)
  reads_target k kind object offset n t l f opens live lasting had holds (y, there, shown, outlasts, part) by plain same stack =
      let open' = life_of g w typed k object y l there opens outlasts lasting had in
      let (cells, filled) = value_part n g object y t offset plain part in
      reads k kind object offset (at' n t) y f live holds there cells open' filled same (Value (at' n t)) (λ v has. (sym same, has))
      (λ c. shared_claims g w object offset y (at' n t) typed there shown cells by (Hand (operands_in k)) c.value) stack

-- ---- storing an operand's value

-- Let a typing be rebuilt with its own value in the record field `here`. If the relation `Changed` holds between the rebuilt typing and a
-- second typing, then it holds between the original typing and the second one.
changed_from : (old : Holder) (g h : Typing) → Changed old (record g { here = g.here }) h → Changed old g h
changed_from old g h changed = record {
  grows = record { objects = changed.grows.objects; filled = changed.grows.filled; fields = changed.grows.fields; kept = changed.grows.kept };
  own = changed.own;
  here = changed.here;
  away = changed.away;
  pending = changed.pending;
  depth = changed.depth;
  loans = changed.loans;
}

-- A resource (key or unique pointer) that some operand, cell or loan owned is still owned by one after a transfer.
pub held_still : (own : Thing → Holder) (o : Option Thing) (new : Holder) (a : Thing) → IsHeld new → IsHeld (own a) → IsHeld (given o new own a)
held_still own None new a now held = held
held_still own (Some b) new a now held = go (same_thing a b)
  where
    go : (z : Bool) → IsHeld (if z then new else own a)
    go true = now
    go false = held

open_still : (g : Typing) (o : Option Thing) (new : Holder) (regions : List Region) (object : ℕ) (l : Life) → IsHeld new → IsOpenObject g regions object l → IsOpenObject (giving g o new) regions object l
open_still g o new regions object (OfRegion number ns us) now opens = opens
open_still g o new regions object (Kept a) now opens = opens
open_still g o new regions object Owned now held = held_still g.own o new (PointerTo object) now held

module _ (p : Program) (g : Typing) (x : Exits) (bs : List InScope) (e : Environment) (w : World) (typed : IsTyped g w.regions w.objects) (globals : KnowsProgram g p) (bound : IsBound e.locals e.counters bs) (variables : AreVariables g bs) where
  -- A value, with the resource that it represents, moves from an operand on the stack into a cell.
  module _ (v : Operand) (focus : Focus) (k : List Entry) (number offset m i : ℕ) (t : RunTy) (y : ObjectType) (here : ℕ → Standing) where
    abbrev pub stored_given : Typing
    stored_given = giving g (thing_of t v.value) (At number offset)

    abbrev pub stored_typing : Typing
    stored_typing = record (with_filled stored_given number (risen offset m)) { here = here }

    pub stores_marking : LiveIn k bs → slice_get g.objects number ≡ Some y → slice_get y.cells offset ≡ Some t → IsOpenObject g w.regions number y.life → slice_get g.filled number ≡ Some m → offset ≤ m
        → IsResult g (Value t) v → Claims g.own (Hand i) t v.value → ((object j : ℕ) (hidden : Bool) → object ≢ number → IsKept stored_typing object j hidden → IsKept g object j hidden)
        → ((j : ℕ) (u : RunTy) → slice_get y.cells j ≡ Some u → j ≢ offset → IsKept stored_typing number j y.is_hidden → IsKept g number j y.is_hidden) → (y.is_hidden ≡ true → (j : ℕ) → here number ≡ Away j → ⊥)
        → ((object j : ℕ) → object ≢ number → here object ≡ Away j → g.here object ≡ Away j) → (Changed (Hand i) (record g { here = here }) stored_typing → IsFilled stored_typing number (suc offset) → IsFocus p stored_typing x bs focus k)
        → IsWell p (stored (cell_at w number offset) number offset v focus k e w)
    stores_marking live at cells opens flag few is claims before beside free lasts goes =
        let thing = thing_of t v.value in
        let its = At number offset in
        let changed : Changed (Hand i) g stored_given = giving_changed g thing (Hand i) its claims.0 in
        writes_marking p stored_given x bs e w (given_typed g thing (Hand i) its w.regions w.objects claims.0 tt (λ object j. at_no_hand object j i) (λ object j. lent_no_hand j object i) typed) (hands_globals p g (given thing its g.own) g.here globals) bound
        (variables_kept (Hand i) g stored_given changed bs refl variables) v focus k number offset m t y here live at cells (open_still g thing its w.regions number y.life tt opens) flag few (result_grown g stored_given changed.grows (Value t) v is)
        (λ object j hidden apart kept. before object j hidden apart kept) (λ j u found apart kept. beside j u found apart kept) free lasts (λ kept. (given_now g.own thing its, claims.1))
        (λ more now. goes (changed_after (Hand i) (record g { here = here }) (record stored_given { here = here }) stored_typing (giving_changed (record g { here = here }) thing (Hand i) its claims.0) more) now)

  -- A value is stored in a cell of an object, and no variable is recorded as gaining or losing its value.
  pub stores_on : (v : Operand) (focus : Focus) (k : List Entry) (number offset m i : ℕ) (t : RunTy) (y : ObjectType) → LiveIn k bs → slice_get g.objects number ≡ Some y → slice_get y.cells offset ≡ Some t → IsOpenObject g w.regions number y.life
      → slice_get g.filled number ≡ Some m → offset ≤ m → y.is_hidden ≡ false → IsResult g (Value t) v → Claims g.own (Hand i) t v.value
      → (Changed (Hand i) g (stored_typing v focus k number offset m i t y g.here) → IsFilled (stored_typing v focus k number offset m i t y g.here) number (suc offset) → IsFocus p (stored_typing v focus k number offset m i t y g.here) x bs focus k)
      → IsWell p (stored (cell_at w number offset) number offset v focus k e w)
  stores_on v focus k number offset m i t y live at cells opens flag few shown is claims goes =
      stores_marking v focus k number offset m i t y g.here live at cells opens flag few is claims (λ object j hidden apart kept. kept) (λ j u found apart kept. kept)
      (λ hides. let z : true ≡ false = sym hides ∙ shown in absurd (cc)) (λ object j apart now. now) (λ changed now. goes (changed_from (Hand i) g (stored_typing v focus k number offset m i t y g.here) changed) now)

  -- Writing the cell to which a pointer points yields a well-typed run state.
  pub writes_target : (v : Operand) (k : List Entry) (object offset i : ℕ) (t : RunTy) (l : Life) (focus : Focus) → AreOpen w.regions (ends_of k) → LiveIn k bs → IsPresent g (ends_of k) l → IsHad g (pointer_at l object)
      → IsTarget g t l object offset → IsResult g (Value t) v → Claims g.own (Hand i) t v.value → ((h : Typing) → Changed (Hand i) g h → IsFocus p h x bs focus k)
      → IsWell p (stored (cell_at w object offset) object offset v focus k e w)
  writes_target v k object offset i t l focus opens live lasting had (y, there, shown, outlasts, part) is claims goes =
      let open' = life_of g w typed k object y l there opens outlasts lasting had in
      let (cells, (m, flag, enough)) = stored_part g object y t offset v.value is.1 part in
      let few : offset ≤ m = omega (arith, enough) in
      stores_on v focus k object offset m i t y live there cells open' flag few shown is claims (λ changed now. goes (stored_typing v focus k object offset m i t y g.here) changed)
