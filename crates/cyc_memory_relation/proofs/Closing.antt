-- This file is about leaving several lexical regions. The source closes lexical regions one by one, newest first, and the
-- heap store closes all of them at once, until the requested number stays open.
use Rattle.std.proofs.Common.{◌≡◌, ℕ, zero, suc, ◌+◌, ◌*◌, ◌≤◌, Bool, true, false, List, [], ◌∷◌, set, Option, None, Some, refl, sym, ap, subst, ◌∙◌, inl, inr, arith}
use Rattle.std.specs.Prelude.{◌≢◌, nat_le, if◌then◌else◌, slice_get}
use Rattle.std.proofs.lemmas.Bool.{cases_Bool, cond-true, cond-false, le-leb}
use Rattle.cyc_words.proofs.Numbers.{when_equal}
use Rattle.cyc_words.proofs.Options.{same_from_some}
use Rattle.cyc_words.proofs.Booleans.{never_true_and_false}
use Rattle.cyc_store.specs.State.{lookup, without, AreDistinct, Block, Home, handle_of, StoreState, homes, block_in, block_at, is_lexical, lexical_count, down_to}
use Rattle.cyc_store.specs.State as stores
use Rattle.cyc_store.specs.Services.{CloseTo, BadMark, Choice, served, any_choice, refusal, IsAllowed}
use Rattle.cyc_store.specs.Soundness.{IsSound}
use Rattle.cyc_store.proofs.LookupLemmas.{when_other, IsPart, is_kept, lookup-part}
use Rattle.cyc_store.proofs.HolderLemmas.{covers_from, IsPart-down_to}
use Rattle.cyc_store.proofs.ServiceLemmas.{served-sound}
use Rattle.cyc_meaning.specs.State.{Sort, Heap, Globals, Stack, Lexical, Dynamic, Region, World, has_pages, closed}
use Rattle.cyc_meaning.specs.inside.Nesting.{is_scope}
use Rattle.cyc_store.proofs.KeptUnwinding.{step-in, step-by, down_to-lower}
use Rattle.cyc_memory_relation.specs.inside.Tables.{Tables}
use Rattle.cyc_memory_relation.specs.inside.Related.{sort_of, has_home, Regions, no_regions, passed, taken, Related, scopes, IsNewest, closed_to}
use Rattle.cyc_memory_relation.proofs.Values.{Grows-same}
use Rattle.cyc_memory_relation.proofs.RegionLemmas.{HasHome, home-found, first-other, shut, without-absent}
use Rattle.cyc_memory_relation.proofs.Serving.{WordsStay, block-home, objects-inherited}
use Rattle.cyc_memory_relation.proofs.Services.{region-closed}

-- ---- closing down to a mark

down-lexical : (r : Home) (rs : List Home) → is_lexical r.sort ≡ true → down_to 0 (r ∷ rs) ≡ down_to 0 rs
down-lexical r rs lexical = cond-true (is_lexical r.sort) (down_to 0 rs) (r ∷ down_to 0 rs) lexical

count-lexical : (r : Home) (rs : List Home) → is_lexical r.sort ≡ true → lexical_count (r ∷ rs) ≡ suc (lexical_count rs)
count-lexical r rs lexical = cond-true (is_lexical r.sort) (suc (lexical_count rs)) (lexical_count rs) lexical

count-other : (r : Home) (rs : List Home) → is_lexical r.sort ≡ false → lexical_count (r ∷ rs) ≡ lexical_count rs
count-other r rs other = cond-false (is_lexical r.sort) (suc (lexical_count rs)) (lexical_count rs) other

-- If at least as many regions may stay open as there are lexical regions, then no region is closed.
pub down-all : (rs : List Home) → down_to (lexical_count rs) rs ≡ rs
down-all [] = refl
down-all (r ∷ rs) = elim (cases_Bool (is_lexical r.sort)) [
  | inl lexical ↦ ap (λ n. down_to n (r ∷ rs)) (count-lexical r rs lexical) ∙ (step-in (lexical_count rs) r rs lexical ∙ ap (λ l. r ∷ l) (down-all rs))
  | inr other ↦ ap (λ n. down_to n (r ∷ rs)) (count-other r rs other) ∙ (step-by (lexical_count rs) r rs other ∙ ap (λ l. r ∷ l) (down-all rs))
]

-- ---- lexical regions of the source and of the store

scope-sort : (sort : Sort) (flag : Bool) (is : stores.Sort) → sort_of sort ≡ Some is → has_pages sort flag ≡ true → is_lexical is ≡ is_scope sort flag
scope-sort Heap flag is same kept = ap is_lexical (sym (same_from_some same))
scope-sort Globals flag is same kept = absurd (let e : None ≡ Some is = same in cc)
scope-sort Stack flag is same kept = absurd (let e : None ≡ Some is = same in cc)
scope-sort Lexical flag is same kept = ap is_lexical (sym (same_from_some same)) ∙ sym kept
scope-sort Dynamic flag is same kept = ap is_lexical (sym (same_from_some same))

scope-kept : (sort : Sort) (flag : Bool) → is_scope sort flag ≡ true → has_pages sort flag ≡ true
scope-kept Heap flag scope = refl
scope-kept Globals flag scope = scope
scope-kept Stack flag scope = scope
scope-kept Lexical flag scope = scope
scope-kept Dynamic flag scope = absurd (let e : false ≡ true = scope in cc)

scope-ends : (sort : Sort) (flag : Bool) → is_scope sort flag ≡ true → has_pages sort false ≡ false
scope-ends Heap flag scope = absurd (let e : false ≡ true = scope in cc)
scope-ends Globals flag scope = refl
scope-ends Stack flag scope = refl
scope-ends Lexical flag scope = refl
scope-ends Dynamic flag scope = refl

scope-shut : (sort : Sort) → is_scope sort false ≡ false
scope-shut Heap = refl
scope-shut Globals = refl
scope-shut Stack = refl
scope-shut Lexical = refl
scope-shut Dynamic = refl

not-scope : (r : Region) → has_home r ≡ false → is_scope r.sort r.is_open ≡ false
not-scope r out = elim (cases_Bool (is_scope r.sort r.is_open)) [
  | inl scope ↦ absurd (never_true_and_false (scope-kept r.sort r.is_open scope) out)
  | inr other ↦ other
]

pub scopes-same : {hs : List (Option ℕ)} {rs : List Region} {os : List Home} → Regions hs rs os → lexical_count os ≡ scopes rs
scopes-same no_regions = refl
scopes-same (passed {r} {regions = rs} out entry empty rest) =
    scopes-same rest ∙ sym (cond-false (is_scope r.sort r.is_open) (suc (scopes rs)) (scopes rs) (not-scope r out))
scopes-same (taken {r} {home = o} {regions = rs} {open_homes = os} m rest) =
    ap (λ b. if b then suc (lexical_count os) else lexical_count os) (scope-sort r.sort r.is_open o.sort m.sort m.kept)
    ∙ ap (λ n. if is_scope r.sort r.is_open then suc n else n) (scopes-same rest)

-- Closing an open lexical region reduces the number of open lexical regions by one.
pub scopes-closed : (rs : List Region) (n : ℕ) (r : Region) → slice_get rs n ≡ Some r → is_scope r.sort r.is_open ≡ true → scopes rs ≡ suc (scopes (set rs n (shut r)))
scopes-closed [] n r there scope = absurd (let e : None ≡ Some r = there in cc)
scopes-closed (q ∷ rs) zero r there scope =
    cond-true (is_scope q.sort q.is_open) (suc (scopes rs)) (scopes rs) (ap (λ (z : Region). is_scope z.sort z.is_open) (same_from_some there) ∙ scope)
    ∙ ap suc (sym (cond-false (is_scope r.sort false) (suc (scopes rs)) (scopes rs) (scope-shut r.sort)))
scopes-closed (q ∷ rs) (suc n) r there scope =
    ap (λ m. if is_scope q.sort q.is_open then suc m else m) (scopes-closed rs n r there scope)
    ∙ either (is_scope q.sort q.is_open) (scopes (set rs n (shut r)))
  where
    either : (b : Bool) (m : ℕ) → (if b then suc (suc m) else suc m) ≡ suc (if b then suc m else m)
    either true m = refl
    either false m = refl

scopes-some : (rs : List Region) (n : ℕ) (r : Region) → slice_get rs n ≡ Some r → is_scope r.sort r.is_open ≡ true → (k : ℕ) × (scopes rs ≡ suc k)
scopes-some rs n r there scope = (scopes (set rs n (shut r)), scopes-closed rs n r there scope)

pub scopes-none : (rs : List Region) → ((i : ℕ) (q : Region) → slice_get rs i ≡ Some q → is_scope q.sort q.is_open ≡ true → ⊥) → scopes rs ≡ 0
scopes-none [] none = refl
scopes-none (q ∷ rs) none = elim (cases_Bool (is_scope q.sort q.is_open)) [
  | inl scope ↦ absurd (none 0 q refl scope)
  | inr other ↦ cond-false (is_scope q.sort q.is_open) (suc (scopes rs)) (scopes rs) other ∙ scopes-none rs (λ i z there scope. none (suc i) z there scope)
]

newest-rest : (q : Region) (rs : List Region) (n : ℕ) → IsNewest (q ∷ rs) (suc n) → IsNewest rs n
newest-rest q rs n newest i z there scope = let bound : suc i ≤ suc n = newest (suc i) z there scope in omega (arith, bound)

newest-none : (q : Region) (rs : List Region) → IsNewest (q ∷ rs) 0 → (i : ℕ) (z : Region) → slice_get rs i ≡ Some z → is_scope z.sort z.is_open ≡ true → ⊥
newest-none q rs newest i z there scope = let bound : suc i ≤ 0 = newest (suc i) z there scope in omega (arith, bound)

-- Closing lexical regions until one fewer is open equals closing the newest region by its handle.
down-newest : {hs : List (Option ℕ)} {rs : List Region} {os : List Home} → Regions hs rs os → AreDistinct handle_of os → (n g m : ℕ) (r : Region)
    → slice_get rs n ≡ Some r → is_scope r.sort r.is_open ≡ true → slice_get hs n ≡ Some (Some g) → IsNewest rs n → lexical_count os ≡ suc m
    → without handle_of os g ≡ down_to m os
down-newest no_regions distinct n g m r there scope entry newest count = absurd (let e : None ≡ Some r = there in cc)
down-newest (passed {r = q} out some empty rest) distinct zero g m r there scope entry newest count =
    absurd (never_true_and_false (ap (λ (z : Region). is_scope z.sort z.is_open) (same_from_some there) ∙ scope) (not-scope q out))
down-newest (passed {r = q} {regions = rs} out some empty rest) distinct (suc n) g m r there scope entry newest count =
    down-newest rest distinct n g m r there scope entry (newest-rest q rs n newest) count
down-newest (taken {handle = h} {r = q} {home = o} {regions = rs} {open_homes = os} found rest) distinct zero g m r there scope entry newest count =
    let same : o.handle ≡ g = found.named ∙ same_from_some (same_from_some entry) in
    let lexical : is_lexical o.sort ≡ true =
    scope-sort q.sort q.is_open o.sort found.sort found.kept ∙ (ap (λ (z : Region). is_scope z.sort z.is_open) (same_from_some there) ∙ scope) in
    let none : lexical_count os ≡ 0 = scopes-same rest ∙ scopes-none rs (newest-none q rs newest) in
    let last : m ≡ 0 = zero-left m (lexical_count os) (sym count ∙ count-lexical o os lexical) none in
    when_equal o.handle g (without handle_of os g) (o ∷ without handle_of os g) same
    ∙ (without-absent handle_of os g (subst (λ k. lookup handle_of os k ≡ None) same distinct.0)
    ∙ sym (ap (λ k. down_to k (o ∷ os)) last ∙ (down-lexical o os lexical ∙ (ap (λ k. down_to k os) (sym none) ∙ down-all os))))
  where
    zero-left : (m k : ℕ) → suc m ≡ suc k → k ≡ 0 → m ≡ 0
    zero-left m k same none = omega (arith, same, none)
down-newest (taken {handle = h} {r = q} {home = o} {regions = rs} {open_homes = os} found rest) distinct (suc n) g m r there scope entry newest count =
    let other : o.handle ≢ g = first-other o rest distinct n g r there (scope-kept r.sort r.is_open scope) entry in
    when_other o.handle g (without handle_of os g) (o ∷ without handle_of os g) other
    ∙ elim (cases_Bool (is_lexical o.sort)) [
      | inl lexical ↦
          let (k, more) = scopes-some rs n r there scope in
          let rest_count : lexical_count os ≡ suc k = scopes-same rest ∙ more in
          let one : m ≡ suc k = one-less m (lexical_count os) k (sym count ∙ count-lexical o os lexical) rest_count in
          ap (λ l. o ∷ l) (down-newest rest distinct.1 n g k r there scope entry (newest-rest q rs n newest) rest_count)
          ∙ sym (ap (λ j. down_to j (o ∷ os)) one ∙ step-in k o os lexical)
      | inr away ↦
          ap (λ l. o ∷ l) (down-newest rest distinct.1 n g m r there scope entry (newest-rest q rs n newest) (sym (count-other o os away) ∙ count))
          ∙ sym (step-by m o os away)
    ]
  where
    one-less : (m j k : ℕ) → suc m ≡ suc j → j ≡ suc k → m ≡ suc k
    one-less m j k first second = omega (arith, first, second)

-- ---- the store closed so far

-- Closing the heap store's lexical regions until as many are open as in the source preserves the relation to the source's heap state.
pub related-unclosed : {t : Tables} {w : World} {s : StoreState} → Related t w s → Related t w (closed_to s (scopes w.regions))
related-unclosed {t} {w} {s} related =
    subst (λ l. Related t w (record s { regions = l })) (sym (ap (λ n. down_to n s.regions) (sym (scopes-same related.regions)) ∙ down-all s.regions)) related

-- The source closes its newest lexical region while the heap store still has this region.
pub closed-following : {t : Tables} {w : World} (s : StoreState) (m n : ℕ) (r : Region) → Related t w (closed_to s (suc m)) → scopes w.regions ≡ suc m
    → slice_get w.regions n ≡ Some r → is_scope r.sort r.is_open ≡ true → IsNewest w.regions n → Related t (closed w n r) (closed_to s m)
closed-following {t} {w} s m n r related count there scope newest =
    let kept : has_home r ≡ true = scope-kept r.sort r.is_open scope in
    let is : HasHome t.handles (down_to (suc m) s.regions) n r = home-found related.regions related.sound.regions.handles.1 n r there kept in
    let lexicals : lexical_count (down_to (suc m) s.regions) ≡ suc m = scopes-same related.regions ∙ count in
    let same : without handle_of (down_to (suc m) s.regions) is.handle ≡ down_to m s.regions =
    down-newest related.regions related.sound.regions.handles.1 n is.handle m r there scope is.entry newest lexicals
    ∙ down_to-lower m (suc m) s.regions (omega arith) in
    let after : IsSound (record s { regions = down_to m (down_to (suc m) s.regions) }) =
    served-sound (closed_to s (suc m)) (CloseTo m) (any_choice (closed_to s (suc m))) related.sound
    (cond-true (nat_le m (lexical_count (down_to (suc m) s.regions))) None (Some BadMark)
    (le-leb m (lexical_count (down_to (suc m) s.regions)) (omega (arith, lexicals))))
    (record { may = tt; keeps = λ x h before later. refl; words = related.sound.words }) in
    subst (λ l. Related t (closed w n r) (record s { regions = l })) same
    (region-closed related n is.handle r s.memory there kept (scope-ends r.sort r.is_open scope) is.entry
    (subst (λ l. IsSound (record s { regions = l })) (down_to-lower m (suc m) s.regions (omega arith) ∙ sym same) after)
    (record { sound = related.sound; after = related.sound.words; words = λ h a b here stays j below. refl }))

-- One request closes all lexical regions of the heap store that the source has already closed one by one.
pub closed-at_once : {t : Tables} {w : World} {s : StoreState} (mark : ℕ) (c : Choice) → IsSound s → Related t w (closed_to s mark)
    → refusal s (CloseTo mark) ≡ None → IsAllowed s (CloseTo mark) c → Related t w (served s (CloseTo mark) c)
closed-at_once {t} {w} {s} mark c sound related none allowed = record {
  sound = after;
  few = related.few;
  heap = related.heap;
  rows = related.rows;
  regions = related.regions;
  classes = related.classes;
  uniques = related.uniques;
  owned = related.owned;
  shapes = related.shapes;
  variables = related.variables;
  objects = objects-inherited related (Grows-same t) stay (λ o h y alive. alive) (λ o h a ks y b alive row found. found);
  alone = related.alone;
}
  where
    after : IsSound (served s (CloseTo mark) c)
    after = served-sound s (CloseTo mark) c sound none allowed

    part : IsPart (homes (closed_to s mark)) (homes s)
    part = is_kept (IsPart-down_to mark s.regions)

    whole : (h a : ℕ) (b : Block) → block_at (homes (closed_to s mark)) h a ≡ Some b → block_at (homes s) h a ≡ Some b
    whole h a b at =
        let (r, there, found) = block-home (homes (closed_to s mark)) h a b at in
        ap (λ o. block_in o a) (lookup-part handle_of part sound.regions.handles h r there) ∙ found

    stay : WordsStay (closed_to s mark) (served s (CloseTo mark) c)
    stay = record {
      sound = related.sound;
      after = after.words;
      words = λ h a b here there j below.
          let inside : stores.covers b (b.address + 4 * j) ≡ true = covers_from b (b.address + 4 * j) (omega arith) (omega (arith, below)) in
          allowed.keeps (b.address + 4 * j) (record { handle = h; block = b })
          (sound.regions.apart h a (b.address + 4 * j) b (whole h a b here) inside)
          (after.regions.apart h a (b.address + 4 * j) b there inside);
    }

-- The heap store accepts a request to close lexical regions if at most as many are to stay open as are open.
pub refusal-close_to : (s : StoreState) (mark : ℕ) → mark ≤ lexical_count s.regions → refusal s (CloseTo mark) ≡ None
refusal-close_to s mark bound = cond-true (nat_le mark (lexical_count s.regions)) None (Some BadMark) (le-leb mark (lexical_count s.regions) bound)
