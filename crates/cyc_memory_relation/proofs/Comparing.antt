-- This file is about comparing pointers: two words are equal exactly if the pointers are equal, provided that both objects are live.
use Rattle.std.proofs.Common.{◌≡◌, ℕ, ◌+◌, ◌*◌, ◌<◌, ◌≤◌, Bool, true, false, length, Some, refl, sym, ap, subst, ◌∙◌, inl, inr, arith}
use Rattle.std.specs.Prelude.{◌==◌, ◌&&◌, ◌⊎◌, if◌then◌else◌, slice_get}
use Rattle.std.proofs.lemmas.Bool.{cases_eq, cases_Bool, cond-true, cond-false, and_from, eq-eqb, ne_eqb}
use Rattle.cyc_words.proofs.Options.{none_or_some}
use Rattle.cyc_words.proofs.Lists.{slice_get_below}
use Rattle.cyc_store.specs.State.{Block, StoreState, homes, covers, room}
use Rattle.cyc_store.specs.declared.range.TheConstants.{STORE_BASE, PAGE_WORDS, MOST_PAGES}
use Rattle.cyc_store.proofs.HolderLemmas.{covers_from}
use Rattle.cyc_store.proofs.ServiceLemmas.{one_block}
use Rattle.cyc_types.specs.declared.typed.Kind.{Kind}
use Rattle.cyc_meaning.specs.Values.{Value, bytes_of_kind, kinds_of, block_size}
use Rattle.cyc_meaning.specs.State.{Object, World, Access, Found, Closed, Missing, is_live}
use Rattle.cyc_meaning.specs.Objects.{found_object, object_at, both_found, compared}
use Rattle.cyc_memory_relation.specs.inside.Tables.{Placed, Tables}
use Rattle.cyc_memory_relation.specs.inside.Words.{bytes_of_kinds, before, Points}
use Rattle.cyc_memory_relation.specs.inside.Related.{Alive, Stands, LiveVariable, AreApart, Related}
use Rattle.cyc_memory_relation.proofs.Places.{bytes-some, before-inside, one-place}
use Rattle.cyc_memory_relation.proofs.Pointers.{same-row, not-null, one_address, ThinIs, thin_null, thin_cell}
use Rattle.cyc_memory_relation.proofs.Cells.{live-either, variable-outside}

-- An address in an object is the address of only one cell.
same-cell : {t : Tables} {o k q p : ℕ} → Points t o k p → Points t o q p → k ≡ q
same-cell {t} {o} {k} {q} {p} first second =
    let (address, kinds) = same-row first.row second.row in
    one-place first.kinds k q first.inside (subst (λ ks. q < length ks) (sym kinds) second.inside)
    (same-before p first.address second.address (before k first.kinds) (before q first.kinds) first.at
    (second.at ∙ ap (λ ks. second.address + before q ks) (sym kinds)) address)
  where
    same-before : (p a b m n : ℕ) → p ≡ a + m → p ≡ b + n → a ≡ b → m ≡ n
    same-before p a b m n first second same = omega (arith, first, second, same)

module _ {t : Tables} {w : World} {s : StoreState} (related : Related t w s) where
  -- A pointer points to a word of its object's block.
  pointer-covered : {o h k p : ℕ} {x : Object} → Alive t w o h x → Points t o k p → (st : Stands t (homes s) s.memory h o x.cells)
      → covers (record { address = st.address; size = room h (block_size x.cells) }) p ≡ true
  pointer-covered {o} {h} {k} {p} {x} alive points st =
      let (same, kinds) = same-row points.row st.row in
      let (kind, there) = slice_get_below points.kinds k points.inside in
      let short : before k points.kinds + bytes_of_kind kind ≤ bytes_of_kinds points.kinds = before-inside 0 k points.kinds kind there in
      let some : 0 < bytes_of_kind kind = bytes-some kind in
      let enough : bytes_of_kinds points.kinds ≤ 4 * room h (block_size x.cells) = subst (λ ks. bytes_of_kinds ks ≤ 4 * room h (block_size x.cells)) (sym kinds) st.enough in
      let at : p ≡ points.address + before k points.kinds = points.at in
      covers_from (record { address = st.address; size = room h (block_size x.cells) }) p
      (omega (arith, at, same))
      (omega (arith, at, same, short, some, enough))

  -- If two pointers into live objects have equal addresses, then they point to the same cell.
  pub one_cell : {o i h g k q p : ℕ} {x y : Object} → Alive t w o h x → Alive t w i g y → Points t o k p → Points t i q p → (o ≡ i) × (k ≡ q)
  one_cell {o} {i} {h} {g} {k} {q} {p} {x} {y} alive beside first second =
      let st : Stands t (homes s) s.memory h o x.cells = related.objects o h x alive in
      let also : Stands t (homes s) s.memory g i y.cells = related.objects i g y beside in
      let (same, blocks) = one_block s related.sound h g st.address also.address p
      (record { address = st.address; size = room h (block_size x.cells) })
      (record { address = also.address; size = room g (block_size y.cells) })
      st.found also.found (pointer-covered alive first st) (pointer-covered beside second also) in
      let number : o ≡ i =
      related.alone o i h g st.address x y (kinds_of x.cells) (kinds_of y.cells) alive beside st.row
      (subst (λ a. slice_get t.rows i ≡ Some (Placed a (kinds_of y.cells))) (sym (ap (λ (b : Block). b.address) blocks)) also.row) in
      (number, same-cell first (subst (λ n. Points t n q p) (sym number) second))

  -- ---- variables

  -- a pointer to an object of the heap store is in the address range of this store
  pub pointer-inside : {o h k p : ℕ} {x : Object} → Alive t w o h x → Points t o k p → (STORE_BASE ≤ p) × (p < STORE_BASE + 4 * (PAGE_WORDS * MOST_PAGES))
  pointer-inside {o} {h} {k} {p} {x} alive points =
      let st : Stands t (homes s) s.memory h o x.cells = related.objects o h x alive in
      let placed = related.sound.regions.placed h st.address (record { address = st.address; size = room h (block_size x.cells) }) st.found in
      let (same, kinds) = same-row points.row st.row in
      let (kind, there) = slice_get_below points.kinds k points.inside in
      let short : before k points.kinds + bytes_of_kind kind ≤ bytes_of_kinds points.kinds = before-inside 0 k points.kinds kind there in
      let some : 0 < bytes_of_kind kind = bytes-some kind in
      let enough : bytes_of_kinds points.kinds ≤ 4 * room h (block_size x.cells) = subst (λ ks. bytes_of_kinds ks ≤ 4 * room h (block_size x.cells)) (sym kinds) st.enough in
      let at : p ≡ points.address + before k points.kinds = points.at in
      let low : 536870912 ≤ st.address = placed.low in
      let high : st.address + 4 * room h (block_size x.cells) ≤ 536870912 + 4 * (1024 * s.pages) = placed.high in
      let most : s.pages ≤ 65536 = related.few in
      (omega (arith, low, at, same), omega (arith, high, most, at, same, short, some, enough))

  -- A pointer to a variable is outside the address range of the heap store.
  pub pointer-outside : {o k p : ℕ} {x : Object} → LiveVariable t w o x → Points t o k p → (p < STORE_BASE) ⊎ (STORE_BASE + 4 * (PAGE_WORDS * MOST_PAGES) ≤ p)
  pointer-outside {o} {k} {p} {x} variable points =
      let (kind, there) = slice_get_below points.kinds k points.inside in
      let short : before k points.kinds + bytes_of_kind kind ≤ bytes_of_kinds points.kinds = before-inside 0 k points.kinds kind there in
      let some : 0 < bytes_of_kind kind = bytes-some kind in
      let at : p ≡ points.address + before k points.kinds = points.at in
      elim (variable-outside related o points.address points.kinds x variable points.row) [
        | inl below ↦ inl (let e : points.address + bytes_of_kinds points.kinds ≤ 536870912 = below in omega (arith, e, at, short, some))
        | inr above ↦ inr (let e : 536870912 + 4 * (1024 * 65536) ≤ points.address = above in omega (arith, e, at))
      ]

  abbrev Lives : ℕ → Object → Type 0
  Lives o x = ((h : ℕ) × Alive t w o h x) ⊎ LiveVariable t w o x

  not-both-ranges : {p : ℕ} → (STORE_BASE ≤ p) × (p < STORE_BASE + 4 * (PAGE_WORDS * MOST_PAGES)) → (p < STORE_BASE) ⊎ (STORE_BASE + 4 * (PAGE_WORDS * MOST_PAGES) ≤ p) → ⊥
  not-both-ranges (low, high) (inl below) = omega (arith, low, below)
  not-both-ranges (low, high) (inr above) = omega (arith, high, above)

  -- If two pointers to live objects or variables have equal addresses, then they point to the same cell.
  pub one_live_cell : AreApart t w → {o i k q p : ℕ} {x y : Object} → Lives o x → Lives i y → Points t o k p → Points t i q p → (o ≡ i) × (k ≡ q)
  one_live_cell apart (inl (h, alive)) (inl (g, beside)) first second = one_cell alive beside first second
  one_live_cell apart (inl (h, alive)) (inr variable) first second = absurd (not-both-ranges (pointer-inside alive first) (pointer-outside variable second))
  one_live_cell apart (inr variable) (inl (g, beside)) first second = absurd (not-both-ranges (pointer-inside beside second) (pointer-outside variable first))
  one_live_cell apart {o} {i} {k} {q} {p} {x} {y} (inr variable) (inr other) first second =
      let number : o ≡ i = apart o i k q p x y variable other first second in
      (number, same-cell first (subst (λ n. Points t n q p) (sym number) second))

  live-found : (o : ℕ) (x : Object) → object_at w o ≡ Found x → (slice_get w.objects o ≡ Some x) × (is_live w x.owner ≡ true)
  live-found o x found = elim (none_or_some (slice_get w.objects o)) [
    | inl none ↦ absurd (let e : Missing ≡ Found x = sym (ap (found_object w) none) ∙ found in cc)
    | inr (y, there) ↦
        let at : (if is_live w y.owner then Found y else Closed) ≡ Found x = sym (ap (found_object w) there) ∙ found in
        elim (cases_Bool (is_live w y.owner)) [
          | inl live ↦
              let e : Found y ≡ Found x = sym (cond-true (is_live w y.owner) (Found y) Closed live) ∙ at in
              let same : y ≡ x = cc in
              (there ∙ ap (λ z. Some z) same, subst (λ (z : Object). is_live w z.owner ≡ true) same live)
          | inr dead ↦ absurd (let e : Closed ≡ Found x = sym (cond-false (is_live w y.owner) (Found y) Closed dead) ∙ at in cc)
        ]
  ]

  -- An object that a lookup in the source's heap state finds is an object of the heap store, or the object of a variable.
  pub object-lives : (o : ℕ) (x : Object) → object_at w o ≡ Found x → Lives o x
  object-lives o x found = let (there, live) = live-found o x found in live-either related o x there live

  -- ---- thin pointers are compared by their words

  both-cells : AreApart t w → (o k i q a b : ℕ) (equal : Bool) → Points t o k a → Points t i q b → (first second : Access Object)
      → object_at w o ≡ first → object_at w i ≡ second → both_found first second (o == i && k == q) ≡ Found equal → equal ≡ (a == b)
  both-cells apart o k i q a b equal points also (Found x) (Found y) at beside is =
      let e : Found (o == i && k == q) ≡ Found equal = is in
      let same : (o == i && k == q) ≡ equal = cc in
      sym same ∙ elim (cases_eq a b) [
        | inl one ↦
            let (number, place) = one_live_cell apart (object-lives o x at) (object-lives i y beside) points (subst (Points t i q) (sym one) also) in
            both-true o i k q number place ∙ sym (eq-eqb a b one)
        | inr two ↦ not-both-true o i k q (λ number place. two (one_address points (moved-cell number place also))) ∙ sym (ne_eqb a b two)
      ]
    where
      moved-cell : o ≡ i → k ≡ q → Points t i q b → Points t o k b
      moved-cell number place p = subst (λ n. Points t n k b) (sym number) (subst (λ n. Points t i n b) (sym place) p)

      both-true : (o i k q : ℕ) → o ≡ i → k ≡ q → (o == i && k == q) ≡ true
      both-true o i k q number place = and_from (o == i) (k == q) (eq-eqb o i number) (eq-eqb k q place)

      not-both-true : (o i k q : ℕ) → (o ≡ i → k ≡ q → ⊥) → (o == i && k == q) ≡ false
      not-both-true o i k q away = elim (cases_eq o i) [
        | inl number ↦ ap (λ c. c && k == q) (eq-eqb o i number) ∙ ne_eqb k q (away number)
        | inr other ↦ ap (λ c. c && k == q) (ne_eqb o i other)
      ]
  both-cells apart o k i q a b equal points also (Found x) Closed at beside is = absurd (let e : Closed ≡ Found equal = is in cc)
  both-cells apart o k i q a b equal points also (Found x) Missing at beside is = absurd (let e : Missing ≡ Found equal = is in cc)
  both-cells apart o k i q a b equal points also Closed Missing at beside is = absurd (let e : Missing ≡ Found equal = is in cc)
  both-cells apart o k i q a b equal points also Closed (Found y) at beside is = absurd (let e : Closed ≡ Found equal = is in cc)
  both-cells apart o k i q a b equal points also Closed Closed at beside is = absurd (let e : Closed ≡ Found equal = is in cc)
  both-cells apart o k i q a b equal points also Missing found at beside is = absurd (let e : Missing ≡ Found equal = is in cc)

  pub thin-compared : AreApart t w → (from to : Kind) (u v : Value) (a b : ℕ) (equal : Bool) → ThinIs t from a u → ThinIs t to b v → compared w u v ≡ Found equal → equal ≡ (a == b)
  thin-compared apart from to u v a b equal (thin_null one none) (thin_null two zeroed) is =
      let e : Found true ≡ Found equal = is in
      let same : true ≡ equal = cc in
      sym same ∙ sym (eq-eqb a b (none ∙ sym zeroed))
  thin-compared apart from to u v a b equal (thin_null one none) (thin_cell i q also) is =
      let e : Found false ≡ Found equal = is in
      let same : false ≡ equal = cc in
      sym same ∙ sym (ne_eqb a b (λ k. not-null also (sym k ∙ none)))
  thin-compared apart from to u v a b equal (thin_cell o k points) (thin_null two zeroed) is =
      let e : Found false ≡ Found equal = is in
      let same : false ≡ equal = cc in
      sym same ∙ sym (ne_eqb a b (λ k. not-null points (k ∙ zeroed)))
  thin-compared apart from to u v a b equal (thin_cell o k points) (thin_cell i q also) is =
      both-cells apart o k i q a b equal points also (object_at w o) (object_at w i) refl refl is
