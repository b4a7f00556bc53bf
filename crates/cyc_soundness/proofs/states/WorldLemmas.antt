-- Facts are added to the typing of a heap state (regions and objects) when an object is created or a cell is written. The well-typed
-- parts of the run state stay well-typed.
use Rattle.std.proofs.Common.{◌≡◌, ◌≢◌, ℕ, zero, suc, ◌+◌, ◌≤◌, ◌<◌, Bool, true, false, List, [], ◌∷◌, ◌++◌, length, map, set, Option, Some, None, refl, sym, ap, subst, ◌∙◌, inl, inr, arith, length-append}
use Rattle.std.specs.Prelude.{if◌then◌else◌, slice_get}
use Rattle.std.proofs.lemmas.List.{length-set}
use Rattle.std.proofs.lemmas.Option.{same_Some}
use Rattle.cyc_words.proofs.Numbers.{anything_below_zero, same_or_other}
use Rattle.cyc_words.proofs.Lists.{same_length_pushed, slice_get_last}
use Rattle.cyc_words.proofs.Items.{never_at_length, slice_get_front, slice_get-set_other, slice_get-set_same, slice_get_last_cases_turned}
use Rattle.cyc_syntax.specs.declared.tree.PointerKind.TheVariants as marks
use Rattle.cyc_types.specs.TypedTrees.{Program}
use Rattle.cyc_meaning.specs.Values.{Operand, Cell}
use Rattle.cyc_meaning.specs.Values as values
use Rattle.cyc_meaning.specs.State.{Region, Owner, InRegion, Unique, Object, World, Found, Closed, found_region, located, heap_number, is_open, is_live, cell_in, cell_at, written}
use Rattle.cyc_meaning.specs.inside.Nesting.{IsScoped, IsFound}
use Rattle.cyc_meaning.proofs.NestingLemmas.{open_region}
use Rattle.cyc_soundness.specs.inside.Lives.{Life, OfRegion, Owned, Kept, RunTy, Int, Char, Pointer, Handle, Key, Struct, RunValue, Void, Null, Value, Seen, Into, kind_at, at}
use Rattle.cyc_soundness.specs.inside.Worlds.{Pending, IsKept, IsAmong, KeyOf, PointerTo, At, ObjectType, Typing, IsHeld, Claims, AreOwned, IsUniqueObject, IsOpenObject, Stays, IsKnownLife, IsKnownOwner, IsDynamic, IsFilled}
use Rattle.cyc_soundness.specs.inside.Worlds.{IsPart, IsTarget, HasType, IsResult, AreOperands, IsContent, AreCells, IsOwner, IsObject, IsTyped, Grows, Thing, Holder, Nobody, Owns, thing_of, Standing, Here, Away, Lent, AreLent}
use Rattle.cyc_soundness.specs.inside.Frames.{lives_among, KnowsProgram}

-- ---- typed parts stay typed

module _ (g h : Typing) (grows : Grows g h) where
  part_grown : (object : ℕ) (x : ObjectType) (t : RunTy) (offset : ℕ) → IsPart g object x t offset → IsPart h object x t offset
  part_grown object x Int offset (at, filled) = (at, grows.filled object (suc offset) filled)
  part_grown object x Char offset (at, filled) = (at, grows.filled object (suc offset) filled)
  part_grown object x (Pointer k t l) offset (at, filled) = (at, grows.filled object (suc offset) filled)
  part_grown object x (Handle l) offset (at, filled) = (at, grows.filled object (suc offset) filled)
  part_grown object x (Key l) offset (at, filled) = (at, grows.filled object (suc offset) filled)
  part_grown object x (Struct n ls) offset (first, fields, filled) = (first, grows.fields n ls x.cells fields, grows.filled object (length x.cells) filled)

  target_grown : (t : RunTy) (l : Life) (object offset : ℕ) → IsTarget g t l object offset → IsTarget h t l object offset
  target_grown t l object offset (x, there, shown, outlasts, part) = (x, grows.objects object x there, shown, outlasts, part_grown object x t offset part)

  pub type_grown : (t : RunTy) (v : values.Value) → HasType g t v → HasType h t v
  type_grown Int (values.Int word) is = tt
  type_grown Char (values.Int word) is = tt
  type_grown (Pointer marks.Nullable t l) values.Null is = tt
  type_grown (Pointer marks.Nullable t l) (values.Thin object offset) is = target_grown t l object offset is
  type_grown (Pointer marks.NonNull t l) (values.Thin object offset) is = target_grown t l object offset is
  type_grown (Pointer marks.Fat t l) values.Null is = tt
  type_grown (Pointer marks.Fat t l) (values.Fat object start count index) is = λ i less. target_grown t l object (start + i) (is i less)
  type_grown (Handle l) (values.Handle region) is = is
  type_grown (Key l) (values.Key region) is = is
  type_grown t v is = absurd is

  pub result_grown : (r : RunValue) (v : Operand) → IsResult g r v → IsResult h r v
  result_grown Void v is = tt
  result_grown Null v is = is
  result_grown (Value t) v (kind, is) = (kind, type_grown t v.value is)
  result_grown (Seen object t) v (kind, is) = (kind, type_grown t v.value is)
  result_grown (Into peek t) v (kind, is) = (kind, type_grown t v.value is)

  pub operands_grown : (ts : List RunTy) (vs : List Operand) → AreOperands g ts vs → AreOperands h ts vs
  operands_grown [] [] are = tt
  operands_grown [] (v ∷ vs) are = absurd are
  operands_grown (t ∷ ts) [] are = absurd are
  operands_grown (t ∷ ts) (v ∷ vs) (is, are) = (result_grown (Value t) v is, operands_grown ts vs are)

  content_grown : (full : Bool) (t : RunTy) (o : Option values.Value) → IsContent g full t o → IsContent h full t o
  content_grown full t None is = is
  content_grown full t (Some v) is = type_grown t v is

  pub cells_grown : (ts : List RunTy) (cs : List Cell) (n : ℕ) → AreCells g ts cs n → AreCells h ts cs n
  cells_grown [] [] n are = tt
  cells_grown [] (c ∷ cs) n are = absurd are
  cells_grown (t ∷ ts) [] n are = absurd are
  cells_grown (t ∷ ts) (c ∷ cs) zero ((kind, is), are) = ((kind, content_grown false t c.content is), cells_grown ts cs zero are)
  cells_grown (t ∷ ts) (c ∷ cs) (suc n) ((kind, is), are) = ((kind, content_grown true t c.content is), cells_grown ts cs n are)

  pub life_grown : (l : Life) → IsKnownLife g l → IsKnownLife h l
  life_grown (Kept (KeyOf region)) is = grows.kept region is
  life_grown (Kept (PointerTo object)) is = tt
  life_grown (OfRegion region ns us) is = tt
  life_grown Owned is = absurd is

  pub owner_grown : (l : Life) → IsKnownOwner g l → IsKnownOwner h l
  owner_grown (Kept (KeyOf region)) is = grows.kept region is
  owner_grown (Kept (PointerTo object)) is = tt
  owner_grown (OfRegion region ns us) is = tt
  owner_grown Owned is = tt

  pub object_grown : (n : ℕ) (t : ObjectType) (x : Object) → IsObject g n t x → IsObject h n t x
  object_grown n t x is = record { owner = is.owner; known = owner_grown t.life is.known; keyless = is.keyless; cells = cells_grown t.cells x.cells n is.cells }

  pub globals_grown : (p : Program) → ((struct : ℕ) (ls : List Life) → g.fields struct ls ≡ h.fields struct ls) → KnowsProgram g p → KnowsProgram h p
  globals_grown p same knows = record {
    globals = λ number t there. (let (at, full, closed) = knows.globals number t there in (grows.objects number _ at, grows.filled number 1 full, closed));
    structs = λ number s ls there count. grows.fields number ls (map (at (lives_among ls)) s.fields) (knows.structs number s ls there count);
    counts = λ number s ls ts there is. knows.counts number s ls ts there (same number ls ∙ is);
    plain = knows.plain;
    constraints = knows.constraints;
    fields = knows.fields;
  }

-- ---- one more object

abbrev pub with_object : Typing → ObjectType → (filled : ℕ) → Typing
with_object g t n = record g { objects = g.objects ++ t ∷ []; filled = g.filled ++ n ∷ [] }

pub object_grows : (g : Typing) (t : ObjectType) (n : ℕ) → Grows g (with_object g t n)
object_grows g t n = record {
  objects = λ number u there. slice_get_front g.objects (t ∷ []) number u there;
  filled = λ number count. λ (m, is, enough). (m, slice_get_front g.filled (n ∷ []) number m is, enough);
  fields = λ number ls ts is. is;
  kept = λ number is. is;
}

pub object_stays : (g : Typing) (t : ObjectType) (n : ℕ) → Stays g (with_object g t n)
object_stays g t n = record { grows = object_grows g t n; own = refl; here = refl; pending = refl; depth = refl; loans = refl }

pub variable_grows : (g : Typing) (t : ObjectType) (n : ℕ) (here : ℕ → Standing) → Grows g (record (with_object g t n) { here = here })
variable_grows g t n here = record {
  objects = λ number u there. slice_get_front g.objects (t ∷ []) number u there;
  filled = λ number count. λ (m, is, enough). (m, slice_get_front g.filled (n ∷ []) number m is, enough);
  fields = λ number ls ts is. is;
  kept = λ number is. is;
}

-- The typing of the heap state with one more object. For each variable, it is given if the variable holds its value, has lost
-- it or has lent it.
abbrev pub with_variable : Typing → ObjectType → (filled : ℕ) → (here : ℕ → Standing) → Typing
with_variable g t n here = record (with_object g t n) { here = here }

pub object_typed : (g : Typing) (regions : List Region) (objects : List Object) (t : ObjectType) (n : ℕ) (x : Object) (here : ℕ → Standing) → IsTyped g regions objects → IsObject (with_variable g t n here) n t x
    → ((object : ℕ) (s : Standing) → object ≢ length objects → here object ≡ s → g.here object ≡ s) → AreOwned (with_variable g t n here) (length objects) t x.cells
    → ((j : ℕ) → here (length objects) ≡ Away j → t.is_hidden ≡ true → ⊥) → IsTyped (with_variable g t n here) regions (objects ++ x ∷ [])
object_typed g regions objects t n x here typed is before own none = record {
  count = same_length_pushed objects g.objects x t typed.count;
  counts = same_length_pushed objects g.filled x n typed.counts;
  each = each;
  heap = typed.heap;
  kept = typed.kept;
  fresh = typed.fresh;
  unique = λ object held. (let (u, y, there, owned, stands, live) = typed.unique object held in (u, y, slice_get_front g.objects (t ∷ []) object u there, owned, slice_get_front objects (x ∷ []) object y stands, live));
  owned = owned;
  lent = lent;
}
  where
    each : (number : ℕ) (u : ObjectType) → slice_get (g.objects ++ t ∷ []) number ≡ Some u
        → (y : Object) × (m : ℕ) × (slice_get (objects ++ x ∷ []) number ≡ Some y) × (slice_get (g.filled ++ n ∷ []) number ≡ Some m) × IsObject (with_variable g t n here) m u y
    each number u there = elim (slice_get_last_cases_turned g.objects t number u there) [
      | inl old ↦ (let (y, m, at, flag, was) = typed.each number u old in
          (y, m, slice_get_front objects (x ∷ []) number y at, slice_get_front g.filled (n ∷ []) number m flag, object_grown g (with_variable g t n here) (variable_grows g t n here) m u y was))
      | inr new ↦ (
        x,
        n,
        subst (λ i. slice_get (objects ++ x ∷ []) i ≡ Some x) (typed.count ∙ sym new.0) (slice_get_last objects x),
        subst (λ i. slice_get (g.filled ++ n ∷ []) i ≡ Some n) (sym typed.counts ∙ typed.count ∙ sym new.0) (slice_get_last g.filled n),
        subst (λ z. IsObject (with_variable g t n here) n z x) new.1 is,
      )
    ]

    -- Adding an object does not change the lookup of older objects.
    same_object : (number : ℕ) (y z : Object) → slice_get (objects ++ x ∷ []) number ≡ Some y → slice_get objects number ≡ Some z → z ≡ y
    same_object number y z found before = same_Some z y (sym (slice_get_front objects (x ∷ []) number z before) ∙ found)

    owned : (object : ℕ) (u : ObjectType) (y : Object) → slice_get (g.objects ++ t ∷ []) object ≡ Some u → slice_get (objects ++ x ∷ []) object ≡ Some y → AreOwned (with_variable g t n here) object u y.cells
    owned object u y there stands = elim (slice_get_last_cases_turned g.objects t object u there) [
      | inl old ↦ (let (z, m, at, flag, was) = typed.each object u old in
          let apart : object ≢ length objects = (λ e. never_at_length objects object z at e) in
          λ i r c v kept. typed.owned object u y old (at ∙ ap (λ z. Some z) (same_object object y z stands at)) i r c v ((λ hidden. before object Here apart (kept.0 hidden)), kept.1))
      | inr new ↦ (let here_is : object ≡ length objects = new.0 ∙ sym typed.count in
          let found : Some x ≡ Some y = sym (slice_get_last objects x) ∙ ap (λ i. slice_get (objects ++ x ∷ []) i) (sym here_is) ∙ stands in
          let same : x ≡ y = same_Some x y found in
          subst (λ i. AreOwned (with_variable g t n here) i u y.cells) (sym here_is) (subst (λ (z : Object). AreOwned (with_variable g t n here) (length objects) u z.cells) same (subst (λ z. AreOwned (with_variable g t n here) (length objects) z x.cells) new.1 own)))
    ]

    lent : (object : ℕ) (u : ObjectType) (y : Object) → slice_get (g.objects ++ t ∷ []) object ≡ Some u → slice_get (objects ++ x ∷ []) object ≡ Some y → AreLent (with_variable g t n here) object u y.cells
    lent object u y there stands = elim (slice_get_last_cases_turned g.objects t object u there) [
      | inl old ↦ (let (z, m, at, flag, was) = typed.each object u old in
          let apart : object ≢ length objects = (λ e. never_at_length objects object z at e) in
          λ i j r c v away. typed.lent object u y old (at ∙ ap (λ z. Some z) (same_object object y z stands at)) i j r c v (before object (Away j) apart away))
      | inr new ↦ (let here_is : object ≡ length objects = new.0 ∙ sym typed.count in
          λ i j r c v away hides. absurd (none j (ap here (sym here_is) ∙ away) (ap (λ (z : ObjectType). z.is_hidden) new.1 ∙ hides)))
    ]

-- ---- regions

-- The heap and the dynamic regions stay open when other regions open or close.
pub typed_beside : (g : Typing) (regions others : List Region) (objects : List Object) → IsTyped g regions objects → is_open (slice_get others heap_number) ≡ true
    → ((number : ℕ) → IsAmong number g.kept → IsHeld (g.own (KeyOf number)) → IsDynamic (slice_get others number)) → length regions ≤ length others → IsTyped g others objects
typed_beside g regions others objects typed heap kept more = record {
  count = typed.count;
  counts = typed.counts;
  each = typed.each;
  heap = heap;
  kept = λ n among. ((typed.kept n among).0, kept n among);
  fresh = λ n less. typed.fresh n (let few : length regions ≤ n = omega (arith, less, more) in few);
  unique = typed.unique;
  owned = typed.owned;
  lent = typed.lent;
}

-- If an open dynamic region is in a list of regions, it is still there as an open dynamic region after the list has grown.
dynamic_there : (o p : Option Region) → ((r : Region) → o ≡ Some r → p ≡ Some r) → IsDynamic o → IsDynamic p
dynamic_there None p same is = absurd is
dynamic_there (Some r) p same is = subst (λ z. IsDynamic z) (sym (same r refl)) is

-- A dynamic region is never closed by the end of a scope.
never_scoped : (o : Option Region) → IsDynamic o → IsFound (found_region o) → ⊥
never_scoped None is found = is
never_scoped (Some r) (sort, opens) found =
    let now : IsFound (Found r) = subst (λ (b : Bool). IsFound (if b then Found r else Closed)) opens found in
    subst (λ s. IsScoped s) sort now

-- If some operand, cell or loan owns a key, then the key's dynamic region is open.
pub dynamic_open : (o : Option Region) → IsDynamic o → is_open o ≡ true
dynamic_open None is = absurd is
dynamic_open (Some r) (sort, opens) = opens

pub opened_typed : (g : Typing) (regions more : List Region) (objects : List Object) → IsTyped g regions objects → IsTyped g (regions ++ more) objects
opened_typed g regions more objects typed =
    let (r, at, opens) = open_region (slice_get regions heap_number) typed.heap in
    typed_beside g regions (regions ++ more) objects typed (ap is_open (slice_get_front regions more heap_number r at) ∙ opens)
    (λ n among held. dynamic_there (slice_get regions n) (slice_get (regions ++ more) n) (λ s is. slice_get_front regions more n s is) ((typed.kept n among).1 held))
    (let all : length (regions ++ more) ≡ length regions + length more = length-append regions more in let few : length regions ≤ length (regions ++ more) = omega (arith, all) in few)

pub closed_typed : (g : Typing) (regions : List Region) (number : ℕ) (r : Region) (objects : List Object) → heap_number ≢ number → IsFound (found_region (slice_get regions number)) → IsTyped g regions objects → IsTyped g (set regions number r) objects
closed_typed g regions number r objects apart found typed =
    typed_beside g regions (set regions number r) objects typed (ap is_open (slice_get-set_other regions number heap_number r apart) ∙ typed.heap) kept
    (let same : length (set regions number r) ≡ length regions = length-set regions number r in let few : length regions ≤ length (set regions number r) = omega (arith, same) in few)
  where
    kept : (n : ℕ) → IsAmong n g.kept → IsHeld (g.own (KeyOf n)) → IsDynamic (slice_get (set regions number r) n)
    kept n among held =
        let other : n ≢ number = (λ e. never_scoped (slice_get regions number) (subst (λ i. IsDynamic (slice_get regions i)) e ((typed.kept n among).1 held)) found) in
        subst (λ z. IsDynamic z) (sym (slice_get-set_other regions number n r other)) ((typed.kept n among).1 held)

-- ---- cells

content_there : (g : Typing) (t : RunTy) (o : Option values.Value) → IsContent g true t o → (v : values.Value) × (o ≡ Some v) × HasType g t v
content_there g t None is = absurd (let e : true ≡ false = is in cc)
content_there g t (Some v) is = (v, refl, is)

-- A cell of an object whose first n cells hold values.
pub record CellAt (g : Typing) (n : ℕ) (t : RunTy) (offset : ℕ) (cells : List Cell) : Type 0 where
  pub cell : Cell
  pub at : slice_get cells offset ≡ Some cell
  pub kind : cell.kind ≡ kind_at t
  pub content : offset < n → (v : values.Value) × (cell.content ≡ Some v) × HasType g t v

pub typed_cell : (g : Typing) (ts : List RunTy) (cs : List Cell) (n i : ℕ) (t : RunTy) → AreCells g ts cs n → slice_get ts i ≡ Some t → CellAt g n t i cs
typed_cell g [] cs n i t are found = absurd (let e : None ≡ Some t = found in cc)
typed_cell g (u ∷ ts) [] n i t are found = absurd are
typed_cell g (u ∷ ts) (c ∷ cs) zero zero t ((kind, is), are) found =
    record { cell = c; at = refl; kind = kind ∙ ap kind_at (same_Some u t found); content = λ less. anything_below_zero 0 less }
typed_cell g (u ∷ ts) (c ∷ cs) (suc n) zero t ((kind, is), are) found =
    let same = same_Some u t found in
    record { cell = c; at = refl; kind = kind ∙ ap kind_at same; content = λ less. content_there g t c.content (subst (λ z. IsContent g true z c.content) same is) }
typed_cell g (u ∷ ts) (c ∷ cs) zero (suc i) t (one, are) found =
    let rest = typed_cell g ts cs zero i t are found in
    record { cell = rest.cell; at = rest.at; kind = rest.kind; content = λ less. anything_below_zero (suc i) less }
typed_cell g (u ∷ ts) (c ∷ cs) (suc n) (suc i) t (one, are) found =
    let rest = typed_cell g ts cs n i t are found in
    record { cell = rest.cell; at = rest.at; kind = rest.kind; content = λ less. rest.content (let e : i < n = omega (arith, less) in e) }

-- An object is live if its lifetime has not ended.
pub live_object : (g : Typing) (w : World) (number : ℕ) (x : ObjectType) (y : Object) → IsTyped g w.regions w.objects → slice_get g.objects number ≡ Some x → slice_get w.objects number ≡ Some y → IsOwner x.life y.owner → IsOpenObject g w.regions number x.life → is_live w y.owner ≡ true
live_object g w number x y typed there stands owner opens = go x.life refl y.owner refl owner opens
  where
    go : (l : Life) → x.life ≡ l → (o : Owner) → y.owner ≡ o → IsOwner l o → IsOpenObject g w.regions number l → is_live w o ≡ true
    go (OfRegion region ns us) e (InRegion m) f same opens = subst (λ n. is_open (slice_get w.regions n) ≡ true) same opens
    go (OfRegion region ns us) e (Unique live) f is opens = absurd is
    go (Kept (KeyOf region)) e (InRegion m) f same opens = subst (λ n. is_open (slice_get w.regions n) ≡ true) same opens
    go (Kept (KeyOf region)) e (Unique live) f is opens = absurd is
    go (Kept (PointerTo object)) e (InRegion m) f is opens = absurd is
    go (Kept (PointerTo object)) e (Unique live) f is opens = absurd is
    go Owned e o f is held =
        let (t, z, at, owned, found, live) = typed.unique number held in
        let same : z ≡ y = same_Some z y (sym found ∙ stands) in
        let owner_is : o ≡ Unique true = sym f ∙ ap (λ (z : Object). z.owner) (sym same) ∙ live in
        ap (λ z. is_live w z) owner_is

-- The object that the given number identifies, and its cell of the given type.
pub record HasCell (g : Typing) (w : World) (number offset : ℕ) (x : ObjectType) (t : RunTy) : Type 0 where
  pub object : Object
  pub filled : ℕ
  pub there : slice_get w.objects number ≡ Some object
  pub flag : slice_get g.filled number ≡ Some filled
  pub is : IsObject g filled x object
  pub live : is_live w object.owner ≡ true
  pub of : CellAt g filled t offset object.cells
  pub found : cell_at w number offset ≡ Found (record { object = object; cell = of.cell })

pub cell_there : (g : Typing) (w : World) (number offset : ℕ) (t : RunTy) (x : ObjectType) → IsTyped g w.regions w.objects → slice_get g.objects number ≡ Some x → slice_get x.cells offset ≡ Some t
    → IsOpenObject g w.regions number x.life → HasCell g w number offset x t
cell_there g w number offset t x typed at cells opens =
    let (y, n, there, flag, is) = typed.each number x at in
    let c = typed_cell g x.cells y.cells n offset t is.cells cells in
    let live : is_live w y.owner ≡ true = live_object g w number x y typed at there is.owner opens in
    record {
      object = y;
      filled = n;
      there = there;
      flag = flag;
      is = is;
      live = live;
      of = c;
      found = ap (λ o. cell_in w o offset) there
          ∙ ap (λ (b : Bool). if b then located y (slice_get y.cells offset) else Closed) live
          ∙ ap (λ o. located y o) c.at;
    }

-- ---- writing a cell

-- The number of filled cells after the cell at this offset was written.
abbrev pub risen : (offset filled : ℕ) → ℕ
risen zero zero = 1
risen zero (suc n) = suc n
risen (suc i) zero = zero
risen (suc i) (suc n) = suc (risen i n)

risen_keeps : (i n : ℕ) → n ≤ risen i n
risen_keeps zero zero = omega arith
risen_keeps zero (suc n) = omega arith
risen_keeps (suc i) zero = omega arith
risen_keeps (suc i) (suc n) = let e : n ≤ risen i n = risen_keeps i n in omega (arith, e)

pub risen_past : (i n : ℕ) → i ≤ n → suc i ≤ risen i n
risen_past zero zero few = omega arith
risen_past zero (suc n) few = omega arith
risen_past (suc i) zero few = absurd (omega (arith, few))
risen_past (suc i) (suc n) few = let less : i ≤ n = omega (arith, few) in let e : suc i ≤ risen i n = risen_past i n less in omega (arith, e)

abbrev pub with_filled : Typing → (number count : ℕ) → Typing
with_filled g number n = record g { filled = set g.filled number n }

pub filled_grows : (g : Typing) (number m n : ℕ) → slice_get g.filled number ≡ Some m → m ≤ n → Grows g (with_filled g number n)
filled_grows g number m n flag more = record { objects = λ other u there. there; filled = filled; fields = λ struct ls ts is. is; kept = λ n is. is }
  where
    filled : (other count : ℕ) → IsFilled g other count → IsFilled (with_filled g number n) other count
    filled other count (k, is, enough) = elim (same_or_other other number) [
      | inl same ↦ (let k_is : k ≡ m = same_Some k m (sym is ∙ ap (λ i. slice_get g.filled i) same ∙ flag) in (
        n,
        subst (λ i. slice_get (set g.filled number n) i ≡ Some n) (sym same) (slice_get-set_same g.filled number m n flag),
        (let le : count ≤ n = omega (arith, enough, k_is, more) in le),
      ))
      | inr apart ↦ (k, slice_get-set_other g.filled number other n apart ∙ is, enough)
    ]

-- The cell `c` with this value stored in it.
abbrev filled_with : Cell → values.Value → Cell
filled_with c v = record c { content = Some v }

cells_written : (g : Typing) (ts : List RunTy) (cs : List Cell) (n i : ℕ) (t : RunTy) (c : Cell) (v : values.Value) → AreCells g ts cs n → slice_get ts i ≡ Some t → slice_get cs i ≡ Some c → c.kind ≡ kind_at t → i ≤ n → HasType g t v
    → AreCells g ts (set cs i (filled_with c v)) (risen i n)
cells_written g [] cs n i t c v are found at kind few has = absurd (let e : None ≡ Some t = found in cc)
cells_written g (u ∷ ts) [] n i t c v are found at kind few has = absurd are
cells_written g (u ∷ ts) (d ∷ cs) zero zero t c v (one, are) found at kind few has =
    let same = sym (same_Some u t found) in ((kind ∙ ap kind_at same, subst (λ z. HasType g z v) same has), are)
cells_written g (u ∷ ts) (d ∷ cs) (suc n) zero t c v (one, are) found at kind few has =
    let same = sym (same_Some u t found) in ((kind ∙ ap kind_at same, subst (λ z. HasType g z v) same has), are)
cells_written g (u ∷ ts) (d ∷ cs) zero (suc i) t c v (one, are) found at kind few has = absurd (omega (arith, few))
cells_written g (u ∷ ts) (d ∷ cs) (suc n) (suc i) t c v (one, are) found at kind few has =
    (one, cells_written g ts cs n i t c v are found at kind (let e : i ≤ n = omega (arith, few) in e) has)

module _ (g : Typing) (w : World) (number offset : ℕ) (x : ObjectType) (t : RunTy) (v : values.Value) (typed : IsTyped g w.regions w.objects) (at : slice_get g.objects number ≡ Some x) (cell : slice_get x.cells offset ≡ Some t)
    (c : HasCell g w number offset x t) (few : offset ≤ c.filled) (has : HasType g t v) where
  pub written_grows : Grows g (with_filled g number (risen offset c.filled))
  written_grows = filled_grows g number c.filled (risen offset c.filled) c.flag (risen_keeps offset c.filled)

  abbrev pub with_value : Object
  with_value = record c.object { cells = set c.object.cells offset (filled_with c.of.cell v) }

  module _ (own : Thing → Holder) (here : ℕ → Standing) (pending : Pending) where
    abbrev pub now_typed : Typing
    now_typed = record (with_filled g number (risen offset c.filled)) { own = own; here = here; pending = pending }

    now_grows : Grows g now_typed
    now_grows = record { objects = written_grows.objects; filled = written_grows.filled; fields = written_grows.fields; kept = written_grows.kept }

    is_with_value : IsObject now_typed (risen offset c.filled) x with_value
    is_with_value = record {
      owner = c.is.owner;
      known = owner_grown g now_typed now_grows x.life c.is.known;
      keyless = c.is.keyless;
      cells = cells_written now_typed x.cells c.object.cells c.filled offset t c.of.cell v
          (cells_grown g now_typed now_grows x.cells c.object.cells c.filled c.is.cells) cell c.of.at c.of.kind few
          (type_grown g now_typed now_grows t v has);
    }

    -- Writing a cell leaves the owners of the resources in all other cells unchanged, and the written cell
    -- receives its value. Resources that no operand, cell or loan owns have no owner afterwards.
    pub cell_written : ((a : Thing) → IsHeld (own a) → IsHeld (g.own a)) → ((a : Thing) → g.own a ≡ Nobody → own a ≡ Nobody)
        → ((object i : ℕ) (hidden : Bool) → (object ≡ number → i ≢ offset) → IsKept now_typed object i hidden → (a : Thing) → g.own a ≡ At object i → own a ≡ At object i) → ((object i : ℕ) (hidden : Bool) → object ≢ number → IsKept now_typed object i hidden → IsKept g object i hidden)
        → ((i : ℕ) (u : RunTy) → slice_get x.cells i ≡ Some u → i ≢ offset → IsKept now_typed number i x.is_hidden → IsKept g number i x.is_hidden) → (IsKept now_typed number offset x.is_hidden → Claims own (At number offset) t v)
        → (x.is_hidden ≡ true → (j : ℕ) → here number ≡ Away j → ⊥) → ((object j : ℕ) → object ≢ number → here object ≡ Away j → g.here object ≡ Away j) → ((object j : ℕ) (a : Thing) → g.own a ≡ Lent j object → own a ≡ Lent j object)
        → IsTyped now_typed w.regions (written w number offset (record { object = c.object; cell = c.of.cell }) v).objects
    cell_written held none stays before beside claims free away lasts = record {
      count = length-set w.objects number with_value ∙ typed.count;
      counts = length-set w.objects number with_value ∙ typed.counts ∙ sym (length-set g.filled number (risen offset c.filled));
      each = each;
      heap = typed.heap;
      kept = λ n among. ((typed.kept n among).0, λ now. (typed.kept n among).1 (held (KeyOf n) now));
      fresh = λ n less. none (KeyOf n) (typed.fresh n less);
      unique = λ object now. unique object (held (PointerTo object) now);
      owned = owned;
      lent = lent;
    }
      where
        still : (h : Holder) (o : Option Thing) → ((a : Thing) → g.own a ≡ h → own a ≡ h) → Owns g.own h o → Owns own h o
        still h None all has = tt
        still h (Some a) all has = all a has

        now_there : slice_get (set w.objects number with_value) number ≡ Some with_value
        now_there = slice_get-set_same w.objects number c.object with_value c.there

        each : (other : ℕ) (u : ObjectType) → slice_get g.objects other ≡ Some u
            → (y : Object) × (m : ℕ) × (slice_get (set w.objects number with_value) other ≡ Some y) × (slice_get (set g.filled number (risen offset c.filled)) other ≡ Some m)
            × IsObject now_typed m u y
        each other u there = elim (same_or_other other number) [
          | inl same ↦ (
            with_value,
            risen offset c.filled,
            subst (λ n. slice_get (set w.objects number with_value) n ≡ Some with_value) (sym same) now_there,
            subst (λ n. slice_get (set g.filled number (risen offset c.filled)) n ≡ Some (risen offset c.filled)) (sym same) (slice_get-set_same g.filled number c.filled (risen offset c.filled) c.flag),
            subst (λ z. IsObject now_typed (risen offset c.filled) z with_value)
                (same_Some x u (sym at ∙ ap (λ n. slice_get g.objects n) (sym same) ∙ there)) is_with_value,
          )
          | inr apart ↦ (let (y, m, stands, flag, was) = typed.each other u there in (
            y,
            m,
            slice_get-set_other w.objects number other with_value apart ∙ stands,
            slice_get-set_other g.filled number other (risen offset c.filled) apart ∙ flag,
            object_grown g now_typed now_grows m u y was,
          ))
        ]

        unique : (object : ℕ) → IsHeld (g.own (PointerTo object)) → IsUniqueObject now_typed (set w.objects number with_value) object
        unique object held = let (u, y, there, life, stands, live) = typed.unique object held in elim (same_or_other object number) [
          | inl same ↦ (
            u,
            with_value,
            there,
            life,
            subst (λ n. slice_get (set w.objects number with_value) n ≡ Some with_value) (sym same) now_there,
            ap (λ (z : Object). z.owner) (same_Some c.object y (sym c.there ∙ ap (λ n. slice_get w.objects n) (sym same) ∙ stands)) ∙ live,
          )
          | inr apart ↦ (u, y, there, life, slice_get-set_other w.objects number object with_value apart ∙ stands, live)
        ]

        its_own : AreOwned now_typed number x with_value.cells
        its_own i u d z kept found there content = elim (same_or_other i offset) [
          | inl same ↦ (let type_is : t ≡ u = same_Some t u (sym cell ∙ ap (λ n. slice_get x.cells n) (sym same) ∙ found) in
              let filled' = filled_with c.of.cell v in
              let cell_is : filled' ≡ d = same_Some filled' d (sym (slice_get-set_same c.object.cells offset c.of.cell filled' c.of.at) ∙ ap (λ n. slice_get (set c.object.cells offset filled') n) (sym same) ∙ there) in
              let value_is : v ≡ z = same_Some v z (ap (λ (e : Cell). e.content) cell_is ∙ content) in
              subst (λ n. Claims own (At number n) u z) (sym same) (subst (λ e. Claims own (At number offset) u e) value_is (subst (λ e. Claims own (At number offset) e v) type_is (claims (subst (λ n. IsKept now_typed number n x.is_hidden) same kept)))))
          | inr apart ↦ (let (owns, start) = typed.owned number x c.object at c.there i u d z (beside i u found apart kept) found (sym (slice_get-set_other c.object.cells offset i (filled_with c.of.cell v) apart) ∙ there) content in
              (still (At number i) (thing_of u z) (stays number i x.is_hidden (λ same. apart) kept) owns, start))
        ]

        owned : (object : ℕ) (u : ObjectType) (y : Object) → slice_get g.objects object ≡ Some u → slice_get (set w.objects number with_value) object ≡ Some y → AreOwned now_typed object u y.cells
        owned object u y there stands = elim (same_or_other object number) [
          | inl same ↦ (let type_is : x ≡ u = same_Some x u (sym at ∙ ap (λ n. slice_get g.objects n) (sym same) ∙ there) in
              let is : with_value ≡ y = same_Some with_value y (sym now_there ∙ ap (λ n. slice_get (set w.objects number with_value) n) (sym same) ∙ stands) in
              subst (λ n. AreOwned now_typed n u y.cells) (sym same) (subst (λ (z : Object). AreOwned now_typed number u z.cells) is (subst (λ z. AreOwned now_typed number z with_value.cells) type_is its_own)))
          | inr apart ↦ λ i r d z kept found stored content. (let (owns, start) = typed.owned object u y there (sym (slice_get-set_other w.objects number object with_value apart) ∙ stands) i r d z (before object i u.is_hidden apart kept) found stored content in
              (still (At object i) (thing_of r z) (stays object i u.is_hidden (λ same. absurd (apart same)) kept) owns, start))
        ]

        -- The value in the cell that is written is not lent.
        lent : (object : ℕ) (u : ObjectType) (y : Object) → slice_get g.objects object ≡ Some u → slice_get (set w.objects number with_value) object ≡ Some y → AreLent now_typed object u y.cells
        lent object u y there stands = elim (same_or_other object number) [
          | inl same ↦ λ i j r d z now hides. (let type_is : x ≡ u = same_Some x u (sym at ∙ ap (λ n. slice_get g.objects n) (sym same) ∙ there) in
              absurd (free (ap (λ (y : ObjectType). y.is_hidden) type_is ∙ hides) j (ap here (sym same) ∙ now)))
          | inr apart ↦ λ i j r d z now hides found stored content. (let (owns, start) = typed.lent object u y there (sym (slice_get-set_other w.objects number object with_value apart) ∙ stands) i j r d z (away object j apart now) hides found stored content in
              (still (Lent j object) (thing_of r z) (lasts object j) owns, start))
        ]
