-- This file is about the correspondence between the source's regions and the heap store's regions. The lemmas of this file show
-- which facts about the correspondence stay true when a region opens, closes or gets a block.
use Rattle.std.proofs.Common.{◌≡◌, ℕ, zero, suc, ◌<◌, Bool, true, false, List, [], ◌∷◌, ◌++◌, length, set, Option, None, Some, is_some, refl, sym, ap, subst, ◌∙◌, inl, inr}
use Rattle.std.specs.Prelude.{◌≢◌, if◌then◌else◌, slice_get}
use Rattle.std.proofs.lemmas.List.{map-append}
use Rattle.std.proofs.lemmas.Bool.{cases_Bool, cond-true, cond-false}
use Rattle.cyc_words.proofs.Numbers.{when_equal}
use Rattle.cyc_words.proofs.Booleans.{never_true_and_false}
use Rattle.cyc_words.proofs.Options.{same_from_some_some, none_or_some, never_none_and_some, same_from_some}
use Rattle.cyc_words.proofs.Items.{slice_get_front, slice_get-set_cases}
use Rattle.cyc_words.proofs.Lists.{slice_get_below}
use Rattle.cyc_store.specs.State.{lookup, without, changed, AreDistinct, Block, Home, handle_of, empty_home, sizes_of, sizes_in, with_block}
use Rattle.cyc_store.specs.State as stores
use Rattle.cyc_store.proofs.LookupLemmas.{when_other, lookup-here, lookup-there, lookup-none}
use Rattle.cyc_meaning.specs.State.{Sort, Heap, Globals, Stack, Lexical, Dynamic, Region, Owner, InRegion, Unique, new_region, has_pages, counted}
use Rattle.cyc_memory_relation.specs.inside.Related.{sort_of, has_home, Matches, Regions, no_regions, passed, taken, stands_there, entry_of, lies_in, Within}

-- ---- sorts

-- A region of variables is never one of the heap store's regions.
pub no-sort-no-pages : (sort : Sort) (flag : Bool) → is_some (sort_of sort) ≡ false → has_pages sort flag ≡ false
no-sort-no-pages Heap flag none = absurd (let e : true ≡ false = none in cc)
no-sort-no-pages Globals flag none = refl
no-sort-no-pages Stack flag none = refl
no-sort-no-pages Lexical flag none = absurd (let e : true ≡ false = none in cc)
no-sort-no-pages Dynamic flag none = absurd (let e : true ≡ false = none in cc)

-- A region that is not of variables is one of the heap store's regions while it is open.
pub sort-some : (sort : Sort) → is_some (sort_of sort) ≡ true → has_pages sort true ≡ true
sort-some Heap some = refl
sort-some Globals some = absurd (let e : false ≡ true = some in cc)
sort-some Stack some = absurd (let e : false ≡ true = some in cc)
sort-some Lexical some = refl
sort-some Dynamic some = refl

-- ---- demand

pub counted-same : {hs : List (Option ℕ)} {rs : List Region} {os : List Home} → Regions hs rs os → counted rs ≡ sizes_in os
counted-same no_regions = refl
counted-same (passed {r} {regions = rs} out entry empty rest) = cond-false (has_home r) (r.blocks ∷ counted rs) (counted rs) out ∙ counted-same rest
counted-same (taken {r} {home = o} {regions = rs} {open_homes = os} m rest) =
    cond-true (has_home r) (r.blocks ∷ counted rs) (counted rs) m.kept
    ∙ (ap (λ l. l ∷ counted rs) (sym m.sizes) ∙ ap (λ l. sizes_of o.blocks ∷ l) (counted-same rest))

-- ---- the correspondence of regions

pub handles-length : {hs : List (Option ℕ)} {rs : List Region} {os : List Home} → Regions hs rs os → length hs ≡ length rs
handles-length no_regions = refl
handles-length (passed out entry empty rest) = ap suc (handles-length rest)
handles-length (taken m rest) = ap suc (handles-length rest)

-- A region of the heap store has or had a handle, and a region of variables has no handle.
pub entry-found : {hs : List (Option ℕ)} {rs : List Region} {os : List Home} → Regions hs rs os → (n : ℕ) (r : Region) → slice_get rs n ≡ Some r
    → (h : Option ℕ) × (slice_get hs n ≡ Some h) × (is_some h ≡ is_some (sort_of r.sort))
entry-found no_regions n r found = absurd (let e : None ≡ Some r = found in cc)
entry-found (passed {handle = h} out entry empty rest) zero r found = (h, refl, entry ∙ ap (λ (q : Region). is_some (sort_of q.sort)) (same_from_some found))
entry-found (passed out entry empty rest) (suc n) r found = entry-found rest n r found
entry-found (taken {handle = h} {r = q} m rest) zero r found =
    (Some h, refl, sym (ap (λ o. is_some o) m.sort) ∙ ap (λ (q : Region). is_some (sort_of q.sort)) (same_from_some found))
entry-found (taken m rest) (suc n) r found = entry-found rest n r found

-- a region of variables has no blocks
pub variables-empty : {hs : List (Option ℕ)} {rs : List Region} {os : List Home} → Regions hs rs os → (n : ℕ) (r : Region) → slice_get hs n ≡ Some None → slice_get rs n ≡ Some r → r.blocks ≡ []
variables-empty no_regions n r entry found = absurd (let e : None ≡ Some r = found in cc)
variables-empty (passed out some empty rest) zero r entry found = sym (ap (λ (z : Region). z.blocks) (same_from_some found)) ∙ empty (same_from_some entry)
variables-empty (passed out some empty rest) (suc n) r entry found = variables-empty rest n r entry found
variables-empty (taken {handle = h} m rest) zero r entry found = absurd (let e : Some h ≡ None = same_from_some entry in cc)
variables-empty (taken m rest) (suc n) r entry found = variables-empty rest n r entry found

-- The heap store's region that corresponds to a source region.
pub record HasHome (hs : List (Option ℕ)) (os : List Home) (n : ℕ) (r : Region) : Type 0 where
  pub handle : ℕ
  pub home : Home
  pub entry : slice_get hs n ≡ Some (Some handle)
  pub there : lookup handle_of os handle ≡ Some home
  pub matches : Matches handle r home

pub home-found : {hs : List (Option ℕ)} {rs : List Region} {os : List Home} → Regions hs rs os → AreDistinct handle_of os → (n : ℕ) (r : Region)
    → slice_get rs n ≡ Some r → has_home r ≡ true → HasHome hs os n r
home-found no_regions distinct n r found kept = absurd (let e : None ≡ Some r = found in cc)
home-found (passed {r = q} out entry empty rest) distinct zero r found kept = absurd (never_true_and_false kept (sym (ap has_home (same_from_some found)) ∙ out))
home-found (passed out entry empty rest) distinct (suc n) r found kept =
    let is : HasHome _ _ n r = home-found rest distinct n r found kept in
    record { handle = is.handle; home = is.home; entry = is.entry; there = is.there; matches = is.matches }
home-found (taken {handle = h} {r = q} {home = o} {open_homes = os} m rest) distinct zero r found kept = record {
  handle = h;
  home = o;
  entry = refl;
  there = lookup-here handle_of o os h m.named;
  matches = subst (λ (z : Region). Matches h z o) (same_from_some found) m;
}
home-found (taken {home = o} {open_homes = os} m rest) distinct (suc n) r found kept =
    let is : HasHome _ _ n r = home-found rest distinct.1 n r found kept in
    record {
      handle = is.handle;
      home = is.home;
      entry = is.entry;
      there = lookup-there handle_of o os is.handle (λ e. never_none_and_some (subst (λ h. lookup handle_of os h ≡ None) e distinct.0) is.there) ∙ is.there;
      matches = is.matches;
    }

-- The first of the heap store's regions has a different handle from each later region.
pub first-other : {hs : List (Option ℕ)} {rs : List Region} {os : List Home} (o : Home) → Regions hs rs os → AreDistinct handle_of (o ∷ os) → (n g : ℕ) (r : Region)
    → slice_get rs n ≡ Some r → has_home r ≡ true → slice_get hs n ≡ Some (Some g) → o.handle ≢ g
first-other {os = os} o regions distinct n g r found kept entry e =
    let is : HasHome _ os n r = home-found regions distinct.1 n r found kept in
    never_none_and_some (subst (λ h. lookup handle_of os h ≡ None) (e ∙ same_from_some_some entry is.entry) distinct.0) is.there

-- A handle names only one of the open regions.
pub handle-names : {hs : List (Option ℕ)} {rs : List Region} {os : List Home} → Regions hs rs os → AreDistinct handle_of os → (n i g : ℕ) (q r : Region)
    → slice_get rs n ≡ Some q → slice_get rs i ≡ Some r → has_home q ≡ true → has_home r ≡ true
    → slice_get hs n ≡ Some (Some g) → slice_get hs i ≡ Some (Some g) → n ≡ i
handle-names no_regions distinct n i g q r at there first second e f = absurd (let k : None ≡ Some q = at in cc)
handle-names (passed out entry empty rest) distinct zero i g q r at there first second e f = absurd (never_true_and_false first (sym (ap has_home (same_from_some at)) ∙ out))
handle-names (passed out entry empty rest) distinct (suc n) zero g q r at there first second e f = absurd (never_true_and_false second (sym (ap has_home (same_from_some there)) ∙ out))
handle-names (passed out entry empty rest) distinct (suc n) (suc i) g q r at there first second e f =
    ap suc (handle-names rest distinct n i g q r at there first second e f)
handle-names (taken m rest) distinct zero zero g q r at there first second e f = refl
handle-names (taken {home = o} m rest) distinct zero (suc i) g q r at there first second e f =
    absurd (first-other o rest distinct i g r there second f (m.named ∙ same_from_some (same_from_some e)))
handle-names (taken {home = o} m rest) distinct (suc n) zero g q r at there first second e f =
    absurd (first-other o rest distinct n g q at first e (m.named ∙ same_from_some (same_from_some f)))
handle-names (taken m rest) distinct (suc n) (suc i) g q r at there first second e f =
    ap suc (handle-names rest distinct.1 n i g q r at there first second e f)

-- ---- opening a region

pub Regions-opened : {hs : List (Option ℕ)} {rs : List Region} {os : List Home} (h : ℕ) (sort : Sort) (is : stores.Sort) → sort_of sort ≡ Some is → Regions hs rs os
    → Regions (hs ++ Some h ∷ []) (rs ++ new_region sort ∷ []) (os ++ empty_home h is ∷ [])
Regions-opened h sort is same no_regions =
    taken (record { kept = sort-some sort (ap (λ o. is_some o) same); named = refl; sort = same; sizes = refl }) no_regions
Regions-opened h sort is same (passed out entry empty rest) = passed out entry empty (Regions-opened h sort is same rest)
Regions-opened h sort is same (taken m rest) = taken m (Regions-opened h sort is same rest)

-- Opening a region of variables preserves the correspondence between the source's regions and the heap store's regions.
pub Regions-variables : {hs : List (Option ℕ)} {rs : List Region} {os : List Home} (sort : Sort) → sort_of sort ≡ None → Regions hs rs os
    → Regions (hs ++ None ∷ []) (rs ++ new_region sort ∷ []) os
Regions-variables sort none no_regions =
    passed (no-sort-no-pages sort true (ap (λ o. is_some o) none)) (sym (ap (λ o. is_some o) none)) (λ is. refl) no_regions
Regions-variables sort none (passed out entry empty rest) = passed out entry empty (Regions-variables sort none rest)
Regions-variables sort none (taken m rest) = taken m (Regions-variables sort none rest)

-- ---- closing a region

abbrev pub shut : Region → Region
shut r = record r { is_open = false }

pub without-absent : {A : Type 0} (key : A → ℕ) (xs : List A) (n : ℕ) → lookup key xs n ≡ None → without key xs n ≡ xs
without-absent key [] n none = refl
without-absent key (x ∷ xs) n none =
    let (other, rest) = lookup-none key x xs n none in
    when_other (key x) n (without key xs n) (x ∷ without key xs n) other ∙ ap (λ l. x ∷ l) (without-absent key xs n rest)

pub Regions-shut : {hs : List (Option ℕ)} {rs : List Region} {os : List Home} → Regions hs rs os → (n : ℕ) (r : Region)
    → slice_get rs n ≡ Some r → slice_get hs n ≡ Some None → Regions hs (set rs n (shut r)) os
Regions-shut no_regions n r found entry = absurd (let e : None ≡ Some r = found in cc)
Regions-shut (passed {handle = h} {r = q} out some empty rest) zero r found entry =
    let none : is_some (sort_of r.sort) ≡ false =
    sym (ap (λ (z : Region). is_some (sort_of z.sort)) (same_from_some found)) ∙ (sym some ∙ ap (λ o. is_some o) (same_from_some entry)) in
    passed (no-sort-no-pages r.sort false none) (some ∙ ap (λ (z : Region). is_some (sort_of z.sort)) (same_from_some found)) (λ is. sym (ap (λ (z : Region). z.blocks) (same_from_some found)) ∙ empty is) rest
Regions-shut (passed out some empty rest) (suc n) r found entry = passed out some empty (Regions-shut rest n r found entry)
Regions-shut (taken {handle = h} m rest) zero r found entry = absurd (let e : Some h ≡ None = same_from_some entry in cc)
Regions-shut (taken m rest) (suc n) r found entry = taken m (Regions-shut rest n r found entry)

pub Regions-closed : {hs : List (Option ℕ)} {rs : List Region} {os : List Home} → Regions hs rs os → AreDistinct handle_of os → (n g : ℕ) (r : Region)
    → slice_get rs n ≡ Some r → has_home r ≡ true → has_home (shut r) ≡ false → slice_get hs n ≡ Some (Some g)
    → Regions hs (set rs n (shut r)) (without handle_of os g)
Regions-closed no_regions distinct n g r found kept ends entry = absurd (let e : None ≡ Some r = found in cc)
Regions-closed (passed out some empty rest) distinct zero g r found kept ends entry = absurd (never_true_and_false kept (sym (ap has_home (same_from_some found)) ∙ out))
Regions-closed (passed out some empty rest) distinct (suc n) g r found kept ends entry = passed out some empty (Regions-closed rest distinct n g r found kept ends entry)
Regions-closed (taken {handle = h} {r = q} {home = o} {handles = hs} {regions = rs} {open_homes = os} m rest) distinct zero g r found kept ends entry =
    let same : o.handle ≡ g = m.named ∙ same_from_some (same_from_some entry) in
    subst (Regions (Some h ∷ hs) (shut r ∷ rs))
    (sym (when_equal o.handle g (without handle_of os g) (o ∷ without handle_of os g) same
    ∙ without-absent handle_of os g (subst (λ n. lookup handle_of os n ≡ None) same distinct.0)))
    (passed ends (sym (ap (λ o. is_some o) m.sort) ∙ ap (λ (z : Region). is_some (sort_of z.sort)) (same_from_some found)) (λ is. absurd (let e : Some h ≡ None = is in cc)) rest)
Regions-closed (taken {handle = h} {r = q} {home = o} {handles = hs} {regions = rs} {open_homes = os} m rest) distinct (suc n) g r found kept ends entry =
    subst (Regions (Some h ∷ hs) (q ∷ set rs n (shut r)))
    (sym (when_other o.handle g (without handle_of os g) (o ∷ without handle_of os g) (first-other o rest distinct n g r found kept entry)))
    (taken m (Regions-closed rest distinct.1 n g r found kept ends entry))

-- ---- adding a block to a region

abbrev pub with_size : ℕ → Region → Region
with_size size r = record r { blocks = r.blocks ++ size ∷ [] }

pub Regions-made : {hs : List (Option ℕ)} {rs : List Region} {os : List Home} → Regions hs rs os → AreDistinct handle_of os → (n g : ℕ) (r : Region) (b : Block)
    → slice_get rs n ≡ Some r → has_home r ≡ true → slice_get hs n ≡ Some (Some g)
    → Regions hs (set rs n (with_size b.size r)) (changed handle_of (with_block b) os g)
Regions-made no_regions distinct n g r b found kept entry = absurd (let e : None ≡ Some r = found in cc)
Regions-made (passed out some empty rest) distinct zero g r b found kept entry = absurd (never_true_and_false kept (sym (ap has_home (same_from_some found)) ∙ out))
Regions-made (passed out some empty rest) distinct (suc n) g r b found kept entry = passed out some empty (Regions-made rest distinct n g r b found kept entry)
Regions-made (taken {handle = h} {r = q} {home = o} {handles = hs} {regions = rs} {open_homes = os} m rest) distinct zero g r b found kept entry =
    let same : o.handle ≡ g = m.named ∙ same_from_some (same_from_some entry) in
    let is : Matches h r o = subst (λ (z : Region). Matches h z o) (same_from_some found) m in
    subst (Regions (Some h ∷ hs) (with_size b.size r ∷ rs))
    (sym (when_equal o.handle g (with_block b o ∷ os) (o ∷ changed handle_of (with_block b) os g) same))
    (taken (record { kept = is.kept; named = is.named; sort = is.sort; sizes = map-append (λ (z : Block). z.size) o.blocks (b ∷ []) ∙ ap (λ l. l ++ b.size ∷ []) is.sizes }) rest)
Regions-made (taken {handle = h} {r = q} {home = o} {handles = hs} {regions = rs} {open_homes = os} m rest) distinct (suc n) g r b found kept entry =
    subst (Regions (Some h ∷ hs) (q ∷ set rs n (with_size b.size r)))
    (sym (when_other o.handle g (with_block b o ∷ os) (o ∷ changed handle_of (with_block b) os g) (first-other o rest distinct n g r found kept entry)))
    (taken m (Regions-made rest distinct.1 n g r b found kept entry))

-- ---- the region of an object

module _ (hs : List (Option ℕ)) where
  pub lies-from : (rs : List Region) (n h : ℕ) (r : Region) → slice_get rs n ≡ Some r → has_home r ≡ true → slice_get hs n ≡ Some (Some h)
      → lies_in hs rs (InRegion n) ≡ Some h
  lies-from rs n h r there kept entry =
      ap (λ o. if stands_there o then entry_of (slice_get hs n) else None) there
      ∙ (cond-true (has_home r) (entry_of (slice_get hs n)) None kept ∙ ap entry_of entry)

  entry-is : (o : Option (Option ℕ)) (h : ℕ) → entry_of o ≡ Some h → o ≡ Some (Some h)
  entry-is None h e = absurd (let k : None ≡ Some h = e in cc)
  entry-is (Some g) h e = ap (λ z. Some z) e

  pub lies-home : (rs : List Region) (n h : ℕ) → lies_in hs rs (InRegion n) ≡ Some h
      → (r : Region) × (slice_get rs n ≡ Some r) × (has_home r ≡ true) × (slice_get hs n ≡ Some (Some h))
  lies-home rs n h lies = elim (none_or_some (slice_get rs n)) [
    | inl none ↦ absurd (never_none_and_some (ap (λ o. if stands_there o then entry_of (slice_get hs n) else None) none) lies)
    | inr (r, there) ↦
        let at : (if has_home r then entry_of (slice_get hs n) else None) ≡ Some h =
        sym (ap (λ o. if stands_there o then entry_of (slice_get hs n) else None) there) ∙ lies in
        elim (cases_Bool (has_home r)) [
          | inl kept ↦ (r, there, kept, entry-is (slice_get hs n) h (sym (cond-true (has_home r) (entry_of (slice_get hs n)) None kept) ∙ at))
          | inr out ↦ absurd (never_none_and_some (cond-false (has_home r) (entry_of (slice_get hs n)) None out) at)
        ]
  ]

  -- If a region changes, and stays an open region of the heap store or stops being one, objects of other regions stay in their heap store
  -- regions.
  pub lies-set : (rs : List Region) (n h : ℕ) (q r : Region) (owner : Owner) → slice_get rs n ≡ Some r → (has_home q ≡ true → has_home r ≡ true)
      → lies_in hs (set rs n q) owner ≡ Some h → lies_in hs rs owner ≡ Some h
  lies-set rs n h q r (InRegion i) there only lies =
      let (z, at, kept, entry) = lies-home (set rs n q) i h lies in
      elim (slice_get-set_cases rs n i r q z there at) [
        | inl here ↦
            lies-from rs i h r (subst (λ k. slice_get rs k ≡ Some r) (sym here.0) there) (only (subst (λ (y : Region). has_home y ≡ true) here.1 kept)) entry
        | inr other ↦ lies-from rs i h z other.1 kept entry
      ]
  lies-set rs n h q r (Unique true) there only lies = lies
  lies-set rs n h q r (Unique false) there only lies = lies

-- Adding one region, with its entry in the table of handles, does not change in which of the heap store's regions objects lie.
pub lies-last : (hs : List (Option ℕ)) (rs : List Region) (e : Option ℕ) (q : Region) (h : ℕ) (owner : Owner) → length hs ≡ length rs → Within (length rs) owner
    → lies_in (hs ++ e ∷ []) (rs ++ q ∷ []) owner ≡ Some h → lies_in hs rs owner ≡ Some h
lies-last hs rs e q h (InRegion n) equal within lies =
    let (z, at, kept, entry) = lies-home (hs ++ e ∷ []) (rs ++ q ∷ []) n h lies in
    let (r, there) = slice_get_below rs n within in
    let (o, old) = slice_get_below hs n (subst (λ m. n < m) (sym equal) within) in
    let same : z ≡ r = same_from_some (sym at ∙ slice_get_front rs (q ∷ []) n r there) in
    lies-from hs rs n h r there (subst (λ (y : Region). has_home y ≡ true) same kept)
    (old ∙ (sym (slice_get_front hs (e ∷ []) n o old) ∙ entry))
lies-last hs rs e q h (Unique true) equal within lies = lies
lies-last hs rs e q h (Unique false) equal within lies = lies
