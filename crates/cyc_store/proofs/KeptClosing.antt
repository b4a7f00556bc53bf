-- Closing a region preserves the invariant of a store on a table of pages.
use Rattle.std.proofs.Common.{◌≡◌, ◌≢◌, ℕ, suc, ◌+◌, ◌*◌, ◌/◌, ◌%◌, ◌<◌, ◌≤◌, true, false, List, [], ◌∷◌, length, Option, None, Some, refl, sym, ap, subst, ◌∙◌, inl, inr, arith}
use Rattle.std.specs.Prelude.{◌⊎◌, if◌then◌else◌, is_some, slice_index, slice_index_or}
use Rattle.std.specs.List.{AllByRecursion}
use Rattle.std.proofs.lemmas.Bool.{cases_eq}
use Rattle.cyc_words.proofs.Numbers.{when_equal}
use Rattle.cyc_words.proofs.Options.{none_or_some, same_from_some}
use Rattle.cyc_store.specs.State.{lookup, without, AreDistinct, Sort, Heap, Lexical, Dynamic, Uniques, Home, handle_of, is_lexical, StoreState}
use Rattle.cyc_store.specs.Services.{CloseDynamic, Done, is_dynamic, names_dynamic, Serves}
use Rattle.cyc_store.specs.Ledger.{Blocks, store_of}
use Rattle.cyc_store.specs.Pages.{given_back}
use Rattle.cyc_store.specs.Slots.{IsLaidOut}
use Rattle.cyc_store.specs.Table.{row_at, given_rows, given_free, AreThere}
use Rattle.cyc_store.specs.inside.Kept.{role_of, role_of_sort, role_of_owner, sort_of, handle_of_page, IsRooted, lexical_handles, IsTied, IsKept, table_of, no_slots}
use Rattle.cyc_store.specs.declared.row.PageTable.{PageTable}
use Rattle.cyc_store.specs.declared.row.Role.TheVariants as role
use Rattle.cyc_store.specs.declared.row.Row.{Row}
use Rattle.cyc_store.specs.declared.row.ClassSlots.{ClassSlots}
use Rattle.cyc_store.specs.declared.range.TheConstants.{PAGE_WORDS, UNIQUE}
use Rattle.cyc_store.proofs.LookupLemmas.{when_other, lookup-here, lookup-there, lookup-key, IsPart-without}
use Rattle.cyc_store.proofs.ServiceLemmas.{closed-sound}
use Rattle.cyc_store.proofs.Responses.{serves-close}
use Rattle.cyc_store.proofs.TableLemmas.{row_at-read}
use Rattle.cyc_store.proofs.LiveWords.{odd-apart}
use Rattle.cyc_store.proofs.PagedClosing.{without-none, owned-apart}
use Rattle.cyc_store.proofs.RegionServices.{moved, closed-laid}
use Rattle.cyc_store.proofs.TieClosing.{Frees, frees, chain-below, given-apart, closed-tied}
use Rattle.cyc_store.proofs.KeptServices.{held-same}
use Rattle.cyc_store.proofs.KeptMaking.{rooted, first-newest}

-- ---- the lexical regions

-- closing another region
pub lexical-without : (rs : List Home) (h : ℕ) (r : Home) → AreDistinct handle_of rs → lookup handle_of rs h ≡ Some r → is_lexical r.sort ≡ false
    → lexical_handles (without handle_of rs h) ≡ lexical_handles rs
lexical-without [] h r distinct there not = refl
lexical-without (q ∷ rs) h r distinct there not = elim (cases_eq q.handle h) [
  | inl same ↦
      let is : q ≡ r = same_from_some (sym (lookup-here handle_of q rs h same) ∙ there) in
      let none : lookup handle_of rs h ≡ None = subst (λ n. lookup handle_of rs n ≡ None) same distinct.0 in
      ap lexical_handles (when_equal q.handle h (without handle_of rs h) (q ∷ without handle_of rs h) same ∙ without-none rs h none)
      ∙ sym (ap (λ l. if l then q.handle ∷ lexical_handles rs else lexical_handles rs) (ap (λ (x : Home). is_lexical x.sort) is ∙ not))
  | inr other ↦
      ap lexical_handles (when_other q.handle h (without handle_of rs h) (q ∷ without handle_of rs h) other)
      ∙ ap (λ l. if is_lexical q.sort then q.handle ∷ l else l) (lexical-without rs h r distinct.1 (sym (lookup-there handle_of q rs h other) ∙ there) not)
]

-- ---- the region that a handle names

role-dynamic : (so : Option Sort) (owner : Option ℕ) (class : ℕ) → role_of so owner class ≡ role.Dynamic → so ≡ Some Dynamic
role-dynamic (Some Heap) owner class e = absurd (let k : role.Heap ≡ role.Dynamic = e in cc)
role-dynamic (Some Lexical) owner class e = absurd (let k : role.Lexical ≡ role.Dynamic = e in cc)
role-dynamic (Some Dynamic) owner class e = refl
role-dynamic (Some Uniques) owner class e = absurd (let k : role.Heap ≡ role.Dynamic = e in cc)
role-dynamic None None class e = absurd (let k : role.Rest ≡ role.Dynamic = e in cc)
role-dynamic None (Some h) class e = elim (cases_eq h UNIQUE) [
  | inl same ↦ absurd (let k : role.Slots class ≡ role.Dynamic = sym (when_equal h UNIQUE (role.Slots class) role.Rest same) ∙ e in cc)
  | inr other ↦ absurd (let k : role.Rest ≡ role.Dynamic = sym (when_other h UNIQUE (role.Slots class) role.Rest other) ∙ e in cc)
]

named-sort : (o : Option Home) (sort : Sort) → sort_of o ≡ Some sort → (r : Home) × (o ≡ Some r) × (r.sort ≡ sort)
named-sort None sort e = absurd (let k : None ≡ Some sort = e in cc)
named-sort (Some r) sort e = (r, refl, same_from_some e)

not-dynamic : (sort : Sort) → (sort ≡ Dynamic → ⊥) → is_dynamic sort ≡ false
not-dynamic Heap other = refl
not-dynamic Lexical other = refl
not-dynamic Dynamic other = absurd (other refl)
not-dynamic Uniques other = refl

rest-sort : (sort : Sort) → role.Rest ≡ role_of_sort sort → ⊥
rest-sort Heap e = cc
rest-sort Lexical e = cc
rest-sort Dynamic e = cc
rest-sort Uniques e = cc

slots-sort : (class : ℕ) (sort : Sort) → role.Slots class ≡ role_of_sort sort → ⊥
slots-sort class Heap e = cc
slots-sort class Lexical e = cc
slots-sort class Dynamic e = cc
slots-sort class Uniques e = cc

other-role : (sort : Sort) (owner : Option ℕ) (class : ℕ) → role_of_sort sort ≡ role_of_owner owner class → ⊥
other-role sort None class e = rest-sort sort (sym e)
other-role sort (Some h) class e = elim (cases_eq h UNIQUE) [
  | inl same ↦ slots-sort class sort (sym (e ∙ when_equal h UNIQUE (role.Slots class) role.Rest same))
  | inr other ↦ rest-sort sort (sym (e ∙ when_other h UNIQUE (role.Slots class) role.Rest other))
]

module _ (t : PageTable) (lexicals : List ℕ) (classes : List ClassSlots) (b : Blocks) (k : IsKept t lexicals classes b) where
  -- The handle of a region is twice the index of an existing page, plus one.
  pub handle-page : (h : ℕ) (r : Home) → lookup handle_of b.regions h ≡ Some r → (page : ℕ) × (h ≡ 2 * page + 1) × (page < length t.rows.items)
  handle-page h r found =
      let region : IsRooted (table_of t).row k.layout.pages r = k.tied.roots h r found in
      (region.root, sym (lookup-key handle_of b.regions h r found) ∙ region.handle, k.tied.drawn region.root r.handle region.owned)

  pub even-none : (h : ℕ) → h % 2 ≡ 0 → lookup handle_of b.regions h ≡ None
  even-none h even = elim (none_or_some (lookup handle_of b.regions h)) [
    | inl none ↦ none
    | inr (r, found) ↦ let (page, is, below) = handle-page h r found in absurd (odd h page even is)
  ]
    where
      odd : (h p : ℕ) → h % 2 ≡ 0 → h ≡ 2 * p + 1 → ⊥
      odd h p even is = omega (arith, even, is)

  pub past-none : (h : ℕ) → length t.rows.items ≤ h / 2 → lookup handle_of b.regions h ≡ None
  past-none h past = elim (none_or_some (lookup handle_of b.regions h)) [
    | inl none ↦ none
    | inr (r, found) ↦ let (page, is, below) = handle-page h r found in absurd (within h page (length t.rows.items) is below past)
  ]
    where
      within : (h p n : ℕ) → h ≡ 2 * p + 1 → p < n → n ≤ h / 2 → ⊥
      within h p n is below past = omega (arith, is, below, past)

  module _ (page : ℕ) (first : Row) (there : page < length t.rows.items) (read : first ≡ slice_index_or t.rows.items page first) where
    pub dynamic-named : first.role ≡ role.Dynamic → (r : Home) × (lookup handle_of b.regions (handle_of_page page) ≡ Some r) × (r.sort ≡ Dynamic)
    dynamic-named is = named-sort (lookup handle_of b.regions (handle_of_page page)) Dynamic
        (role-dynamic (sort_of (lookup handle_of b.regions (handle_of_page page))) (k.layout.pages.owner page) (k.layout.class page)
        (sym (k.tied.rows page).plays ∙ (ap (λ (x : Row). x.role) (row_at-read t.rows.items page first there read) ∙ is)))

    pub others-none : (first.role ≡ role.Dynamic → ⊥) → names_dynamic (lookup handle_of b.regions (handle_of_page page)) ≡ false
    others-none never = elim (none_or_some (lookup handle_of b.regions (handle_of_page page))) [
      | inl none ↦ ap names_dynamic none
      | inr (r, found) ↦ ap names_dynamic found ∙ not-dynamic r.sort (λ sort. never (ap (λ (x : Row). x.role) (sym (row_at-read t.rows.items page first there read))
          ∙ ((k.tied.rows page).plays ∙ (ap (λ o. role_of (sort_of o) (k.layout.pages.owner page) (k.layout.class page)) found ∙ ap role_of_sort sort))))
    ]

    played : (o : Option Home) → lookup handle_of b.regions (handle_of_page page) ≡ o → first.role ≡ role_of (sort_of o) (k.layout.pages.owner page) (k.layout.class page)
    played o is =
        ap (λ (x : Row). x.role) (sym (row_at-read t.rows.items page first there read))
        ∙ ((k.tied.rows page).plays ∙ ap (λ (p : Option Home). role_of (sort_of p) (k.layout.pages.owner page) (k.layout.class page)) is)

    -- If a page is not the first page of any region, then the handle computed from the page's index names no region.
    pub other-none : (first.role ≡ role.Heap → ⊥) → (first.role ≡ role.Lexical → ⊥) → (first.role ≡ role.Dynamic → ⊥) → lookup handle_of b.regions (handle_of_page page) ≡ None
    other-none heap lexical dynamic = elim (none_or_some (lookup handle_of b.regions (handle_of_page page))) [
      | inl none ↦ none
      | inr (r, found) ↦ absurd (by r.sort (played (Some r) found))
    ]
      where
        by : (sort : Sort) → first.role ≡ role_of_sort sort → ⊥
        by Heap e = heap e
        by Lexical e = lexical e
        by Dynamic e = dynamic e
        by Uniques e = heap e

    -- If a page has the role of a region's first page, then the handle computed from the page's index names a region.
    pub root-named : (first.role ≡ role.Heap) ⊎ ((first.role ≡ role.Lexical) ⊎ (first.role ≡ role.Dynamic)) → is_some (lookup handle_of b.regions (handle_of_page page)) ≡ true
    root-named is = elim (none_or_some (lookup handle_of b.regions (handle_of_page page))) [
      | inl none ↦ absurd (by none is)
      | inr (r, found) ↦ ap is_some found
    ]
      where
        other : lookup handle_of b.regions (handle_of_page page) ≡ None → (sort : Sort) → first.role ≡ role_of_sort sort → ⊥
        other none sort e = other-role sort (k.layout.pages.owner page) (k.layout.class page) (sym e ∙ played None none)

        by : lookup handle_of b.regions (handle_of_page page) ≡ None → (first.role ≡ role.Heap) ⊎ ((first.role ≡ role.Lexical) ⊎ (first.role ≡ role.Dynamic)) → ⊥
        by none (inl e) = other none Heap e
        by none (inr (inl e)) = other none Lexical e
        by none (inr (inr e)) = other none Dynamic e

-- ---- closing a dynamic region

module _ (t : PageTable) (lexicals : List ℕ) (classes : List ClassSlots) (b : Blocks) (k : IsKept t lexicals classes b)
    (h : ℕ) (r : Home) (named : lookup handle_of b.regions h ≡ Some r) (sort : r.sort ≡ Dynamic) where
  -- Closing a dynamic region leaves the list of lexical regions unchanged.
  pub dynamic-left : lexicals ≡ lexical_handles (without handle_of b.regions h)
  dynamic-left = k.tied.newest ∙ sym (lexical-without b.regions h r k.laid.sound.regions.handles.1 named (ap is_lexical sort))

  pub dynamic-closes : (c : Blocks) → c ≡ record b { regions = without handle_of b.regions h } → (v : PageTable) → v.most ≡ t.most → v.words.items ≡ t.words.items
      → Serves (store_of t.most t.words.items b) (CloseDynamic h) Done (store_of v.most v.words.items c)
  dynamic-closes c noted v most words =
      subst (Serves (store_of t.most t.words.items b) (CloseDynamic h) Done)
      (sym (ap (store_of v.most v.words.items) noted
      ∙ held-same t.most t.words.items v.most v.words.items (record b { regions = without handle_of b.regions h }) most (λ i. ap (λ ws. slice_index ws i) words)))
      (serves-close (store_of t.most t.words.items b) k.layout k.laid h r named (ap is_dynamic sort))

-- ---- closing a region

module _ (t : PageTable) (lexicals : List ℕ) (classes : List ClassSlots) (b : Blocks) (k : IsKept t lexicals classes b)
    (root : ℕ) (r : Home) (named : lookup handle_of b.regions (handle_of_page root) ≡ Some r)
    (first : Row) (read : first ≡ slice_index_or t.rows.items root first) (counted : first.count ≡ suc (length (rooted t lexicals classes b k root r named).chain.older)) where
  abbrev slots : ℕ → ClassSlots
  slots = λ (class : ℕ). slice_index_or classes class no_slots

  abbrev s : StoreState
  s = store_of t.most t.words.items b

  abbrev h : ℕ
  h = handle_of_page root

  abbrev region : IsRooted (table_of t).row k.layout.pages r
  region = rooted t lexicals classes b k root r named

  abbrev chain : List ℕ
  chain = region.chain.newest.page ∷ region.chain.older

  apart : (p : ℕ) → k.layout.pages.owner p ≡ Some h → AllByRecursion (λ x. p ≢ x) k.layout.free
  apart p owned = owned-apart t.most k.layout.pages p h owned k.layout.free k.laid.paged.unowned

  freed : Frees t.rows.items first.newest first.count t.free chain k.tied.given
  freed = frees t.rows.items first.newest first.count t.free chain k.tied.given counted
      (first-newest t lexicals classes b k root r named first read, region.linked.1) region.chain.apart
      (chain-below (table_of t) lexicals slots b k.layout k.tied h r named (odd-apart root) region apart)
      (given-apart (table_of t) lexicals slots b k.layout k.tied h r named (odd-apart root) region apart)
      k.tied.linked

  pub close-there : AreThere t.rows.items first.newest first.count t.free
  close-there = freed.there

  pub close-kept : (c : Blocks) → c ≡ record b { regions = without handle_of b.regions h } → (left : List ℕ) → left ≡ lexical_handles (without handle_of b.regions h)
      → (v : PageTable) → v.most ≡ t.most → v.words.items ≡ t.words.items → v.live.items ≡ t.live.items
      → v.rows.items ≡ given_rows t.rows.items first.newest first.count t.free → v.free ≡ given_free t.rows.items first.newest first.count t.free → IsKept v left classes c
  close-kept c noted left lexical v most_is words_is live_is rows_is free_is = subst (IsKept v left classes) (sym noted) (record {
    whole = record {
      words = ap length words_is ∙ (k.whole.words ∙ ap (λ n. PAGE_WORDS * n) (sym many));
      live = ap length live_is ∙ (k.whole.live ∙ ap (λ n. PAGE_WORDS * n) (sym many));
    };
    eleven = k.eleven;
    layout = record k.layout { pages = given_back k.layout.pages h; free = moved chain k.layout.free };
    laid = subst (λ held. IsLaidOut held (record k.layout { pages = given_back k.layout.pages h; free = moved chain k.layout.free }))
        (sym (held-same t.most t.words.items v.most v.words.items (record b { regions = without handle_of b.regions h }) most_is (λ i. ap (λ ws. slice_index ws i) words_is)))
        (closed-laid s k.layout h r s.memory k.laid named (odd-apart root) region.chain
        (closed-sound s (without handle_of b.regions h) s.memory k.laid.sound (IsPart-without handle_of b.regions h) k.laid.sound.words));
    tied = subst (λ table. IsTied table left slots (record b { regions = without handle_of b.regions h }) (record k.layout { pages = given_back k.layout.pages h; free = moved chain k.layout.free }))
        (sym table_is)
        (closed-tied (table_of t) lexicals slots b k.layout k.tied h r named (odd-apart root) region apart
        (λ p. row_at (given_rows t.rows.items first.newest first.count t.free) p) (given_free t.rows.items first.newest first.count t.free)
        freed.others freed.gone freed.linked left lexical);
  })
    where
      many : length v.rows.items ≡ length t.rows.items
      many = ap length rows_is ∙ freed.many

      table_is : table_of v ≡ record (table_of t) {
        row = λ (p : ℕ). row_at (given_rows t.rows.items first.newest first.count t.free) p;
        free = given_free t.rows.items first.newest first.count t.free;
      }
      table_is =
          ap (λ n. record (table_of v) { most = n }) most_is
          ∙ (ap (λ n. record (table_of v) { most = t.most; free = n }) free_is
          ∙ (ap (λ ws. record (table_of v) { most = t.most; free = given_free t.rows.items first.newest first.count t.free; word = λ (i : ℕ). slice_index ws i }) words_is
          ∙ (ap (λ ms. record (table_of v) { most = t.most; free = given_free t.rows.items first.newest first.count t.free; word = (table_of t).word; live = λ (i : ℕ). slice_index_or ms i false }) live_is
          ∙ (ap (λ rs. record (table_of t) { count = length rs; free = given_free t.rows.items first.newest first.count t.free; row = λ (p : ℕ). row_at rs p }) rows_is
          ∙ ap (λ n. record (table_of t) { count = n; free = given_free t.rows.items first.newest first.count t.free; row = λ (p : ℕ). row_at (given_rows t.rows.items first.newest first.count t.free) p }) freed.many))))
