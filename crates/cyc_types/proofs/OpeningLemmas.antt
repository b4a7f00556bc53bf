-- Lemmas: the index of a region's oldest open scope decides whether the region is live and which regions outlive it.
use Rattle.std.proofs.Common.{◌≡◌, ◌⊎◌, inl, inr, ℕ, zero, suc, ◌+◌, ◌<◌, ◌≤◌, Bool, true, false, ◌&&◌, ◌||◌, not, List, [], ◌∷◌, ◌++◌, reverse, length, take, refl, ap, sym, ◌∙◌, subst, arith}
use Rattle.std.specs.List.{list_any}
use Rattle.std.proofs.lemmas.Bool.{or_cases, or_left, or_right, and_parts, and_from, false_from_ne_true, cases_lt, true_from_ne_false}
use Rattle.std.proofs.lemmas.List.{get_or-take, get_or_append_left, length-take-le, take-append-le, take_all, length-append, get_or_push}
use Rattle.std.proofs.lemmas.List.Folds.{list_any_at}
use Rattle.cyc_words.proofs.Booleans.{same_tests, never_true_and_false}
use Rattle.cyc_words.proofs.Searches.{any-true, any-from}
use Rattle.cyc_types.specs.declared.region.Region.{Region}
use Rattle.cyc_types.specs.declared.region.Region.TheVariants.{Heap, Unique}
use Rattle.cyc_types.specs.declared.scope.Kind.TheVariants.{Block}
use Rattle.cyc_types.specs.declared.scope.Scope.{Scope}
use Rattle.cyc_types.specs.Types.{region_eq, is_region_among}
use Rattle.cyc_types.specs.Outlives.{live_regions, is_outlived_by_live}
use Rattle.cyc_types.specs.Closure.{above, above_one_of, leads}
use Rattle.cyc_types.specs.inside.Openings.{opening_of, scope_at, live_before, IsOrderly, IsInOrder}
use Rattle.cyc_types.proofs.RegionLemmas.{region_eq-true}
use Rattle.cyc_types.proofs.ClosureLemmas.{above-refl, leads-refl, leads-cases, newest-parts}
use Rattle.cyc_types.proofs.SearchLemmas.{live_among, reverse-take_more, leads-found}
use Rattle.cyc_types.proofs.TableLemmas.{eq_true_at}

abbrev default : Scope
default = record { region = Heap; kind = Block }

-- if a predicate holds for one of the n oldest scopes, it holds for the scope at some index below n
any-place : (p : Scope → Bool) (n : ℕ) (scopes : List Scope) → list_any p (take n scopes) ≡ true →
    (i : ℕ) × (i < n) × (i < length scopes) × (p (scope_at scopes i) ≡ true)
any-place p zero scopes h = cc
any-place p (suc n) [] h = cc
any-place p (suc n) (s ∷ ss) h =
    elim (or_cases (p s) (list_any p (take n ss)) h) [
      | inl e ↦ (0, omega arith, omega arith, e)
      | inr r ↦ let q = any-place p n ss r in (suc q.0, omega (arith, q.1), omega (arith, q.2), q.3)
    ]

any-at : (p : Scope → Bool) (n i : ℕ) (scopes : List Scope) → i < n → n ≤ length scopes → p (scope_at scopes i) ≡ true →
    list_any p (take n scopes) ≡ true
any-at p n i scopes lt within e =
    list_any_at p (take n scopes) i default (let l : length (take n scopes) ≡ n = length-take-le n scopes within in omega (arith, lt, l))
    (ap p (get_or-take n scopes i default lt) ∙ e)

-- ---- live regions, and the regions that lead to live regions

-- if a region has no path to any other region and is not in a list of regions, it has no path to a region in the list
not-above : (w : List (Region × Region)) (rs : List Region) (a : Region) → ((b : Region) → above w a b ≡ region_eq a b) →
    is_region_among a rs ≡ false → above_one_of w rs a ≡ true → ⊥
not-above w rs a alone apart h =
    let r = any-true (λ r. not (region_eq r Unique) && above w a r) rs h in
    let e : a ≡ r.0 = region_eq-true a r.0 (sym (alone r.0) ∙ (and_parts (not (region_eq r.0 Unique)) (above w a r.0) r.2).1) in
    never_true_and_false (any-from (λ y. region_eq y a) rs r.0 r.1 (eq_true_at r.0 a (sym e))) apart

-- if a region's paths lead exactly to the regions in `below`, then searching `below` for a region
-- in `rs` decides whether a path leads into `rs`
pub above-among : (w : List (Region × Region)) (rs below : List Region) (a : Region) →
    ((b : Region) → above w a b ≡ is_region_among b below) →
    above_one_of w rs a ≡ list_any (λ r. not (region_eq r Unique) && is_region_among r rs) below
above-among w rs below a e = same_tests (above_one_of w rs a) (list_any (λ r. not (region_eq r Unique) && is_region_among r rs) below)
    (λ h.
    let r = any-true (λ r. not (region_eq r Unique) && above w a r) rs h in
    let u = and_parts (not (region_eq r.0 Unique)) (above w a r.0) r.2 in
    let q = any-true (λ y. region_eq y r.0) below (sym (e r.0) ∙ u.1) in
    let same : q.0 ≡ r.0 = region_eq-true q.0 r.0 q.2 in
    any-from (λ r. not (region_eq r Unique) && is_region_among r rs) below q.0 q.1
    (and_from (not (region_eq q.0 Unique)) (is_region_among q.0 rs)
    (subst (λ z. not (region_eq z Unique) ≡ true) (sym same) u.0)
    (any-from (λ y. region_eq y q.0) rs r.0 r.1 (eq_true_at r.0 q.0 (sym same)))))
    (λ h.
    let r = any-true (λ r. not (region_eq r Unique) && is_region_among r rs) below h in
    let u = and_parts (not (region_eq r.0 Unique)) (is_region_among r.0 rs) r.2 in
    let q = any-true (λ y. region_eq y r.0) rs u.1 in
    let same : q.0 ≡ r.0 = region_eq-true q.0 r.0 q.2 in
    any-from (λ r. not (region_eq r Unique) && above w a r) rs q.0 q.1
    (and_from (not (region_eq q.0 Unique)) (above w a q.0)
    (subst (λ z. not (region_eq z Unique) ≡ true) (sym same) u.0)
    (e q.0 ∙ any-from (λ y. region_eq y q.0) below r.0 r.1 (eq_true_at r.0 q.0 (sym same)))))

-- if a list of regions contains a region other than the unique region, that region has a path (of length 0) into the list
pub above-itself : (w : List (Region × Region)) (rs : List Region) (a : Region) → not (region_eq a Unique) ≡ true →
    is_region_among a rs ≡ true → above_one_of w rs a ≡ true
above-itself w rs a n h =
    let r = any-true (λ y. region_eq y a) rs h in
    let same : r.0 ≡ a = region_eq-true r.0 a r.2 in
    any-from (λ r. not (region_eq r Unique) && above w a r) rs r.0 r.1
    (subst (λ z. (not (region_eq z Unique) && above w a z) ≡ true) (sym same)
    (and_from (not (region_eq a Unique)) (above w a a) n (above-refl w a)))

module _ (live : List Region) (scopes : List Scope) where
  among-before : (n : ℕ) (r : Region) → is_region_among r (live_before live scopes n)
      ≡ (is_region_among r live || list_any (λ (s : Scope). region_eq s.region r) (take n scopes))
  among-before n r = live_among r live (take n scopes)

  pub live-from_start : (n : ℕ) (r : Region) → is_region_among r live ≡ true → is_region_among r (live_before live scopes n) ≡ true
  live-from_start n r h = among-before n r ∙ or_left (is_region_among r live) (list_any (λ (s : Scope). region_eq s.region r) (take n scopes)) h

  pub live-at : (n i : ℕ) (r : Region) → i < n → n ≤ length scopes → region_eq (scope_at scopes i).region r ≡ true →
      is_region_among r (live_before live scopes n) ≡ true
  live-at n i r lt within e =
      among-before n r
      ∙ or_right (is_region_among r live) (list_any (λ (s : Scope). region_eq s.region r) (take n scopes))
      (any-at (λ (s : Scope). region_eq s.region r) n i scopes lt within e)

module _ (w : List (Region × Region)) (live : List Region) (openings : List ℕ) (scopes : List Scope) (n : ℕ)
    (order : IsInOrder w live openings scopes n) where
  -- a region not live at the function's start is not live while only the `count` oldest scopes are open, if none of these opened it
  pub live-missed : (count : ℕ) (r : Region) → count ≤ n → is_region_among r live ≡ false →
      (opening_of openings r < count → region_eq (scope_at scopes (opening_of openings r)).region r ≡ false) →
      is_region_among r (live_before live scopes count) ≡ false
  live-missed count r le never_live missed = false_from_ne_true (is_region_among r (live_before live scopes count)) (λ t.
      elim (or_cases (is_region_among r live) (list_any (λ (s : Scope). region_eq s.region r) (take count scopes)) (sym (among-before live scopes count r) ∙ t)) [
        | inl l ↦ never_true_and_false l never_live
        | inr o ↦
            let p = any-place (λ (s : Scope). region_eq s.region r) count scopes o in
            let same : (scope_at scopes p.0).region ≡ r = region_eq-true (scope_at scopes p.0).region r p.3 in
            elim (order.each p.0 (omega (arith, p.1, le))).found [
              | inl m ↦ never_true_and_false (subst (λ z. is_region_among z live ≡ true) same m) never_live
              | inr f ↦
                  let g : (opening_of openings r ≤ p.0) × ((scope_at scopes (opening_of openings r)).region ≡ r) =
                  subst (λ z. (opening_of openings z ≤ p.0) × ((scope_at scopes (opening_of openings z)).region ≡ z)) same f in
                  never_true_and_false (eq_true_at (scope_at scopes (opening_of openings r)).region r g.1) (missed (omega (arith, p.1, g.0)))
            ]
      ])

  -- a region not live at the function's start is live while `count` scopes are open exactly if the scope that the table
  -- stores as its oldest scope has this region
  pub live-tested : (count : ℕ) (r : Region) → count ≤ n → is_region_among r live ≡ false → opening_of openings r < count →
      region_eq (scope_at scopes (opening_of openings r)).region r ≡ is_region_among r (live_before live scopes count)
  live-tested count r le never_live lt = same_tests (region_eq (scope_at scopes (opening_of openings r)).region r) (is_region_among r (live_before live scopes count))
      (λ h. live-at live scopes count (opening_of openings r) r lt (omega (arith, le, order.within)) h)
      (λ h. true_from_ne_false (region_eq (scope_at scopes (opening_of openings r)).region r)
      (λ f. never_true_and_false h (live-missed count r le never_live (λ l. f))))

  -- a path of the outlives relation from a to b either uses only the function's constraints, or goes by
  -- constraints to a region live before a scope with region b
  by-one-scope : (k : ℕ) (a b : Region) → k ≤ n → leads w live (reverse (take k scopes)) a b ≡ true →
      (above w a b ≡ true) ⊎ ((i : ℕ) × (i < n) × (is_outlived_by_live (scope_at scopes i).kind ≡ true)
      × ((scope_at scopes i).region ≡ b) × (above_one_of w (live_before live scopes i) a ≡ true))
  by-one-scope zero a b le h = inl h
  by-one-scope (suc k) a b le h =
      let s = scope_at scopes k in
      let e = reverse (take k scopes) in
      let next : suc k ≡ k + 1 = omega arith in
      let in_scopes : k < length scopes = omega (arith, le, order.within) in
      let more : reverse (take (suc k) scopes) ≡ scope_at scopes k ∷ reverse (take k scopes) =
      ap (λ (m : ℕ). reverse (take m scopes)) next ∙ reverse-take_more scopes k default in_scopes in
      let h' : leads w live (scope_at scopes k ∷ reverse (take k scopes)) a b ≡ true = subst (λ z. leads w live z a b ≡ true) more h in
      elim (or_cases (leads w live e a b) (is_outlived_by_live s.kind && above_one_of w (live_regions live e) a && leads w live e s.region b) h') [
        | inl m ↦ by-one-scope k a b (omega (arith, le)) m
        | inr m ↦
            let u = newest-parts w live s e a b m in
            let o = order.each k (omega (arith, le)) in
            elim (leads-cases w live e s.region b u.2) [
              | inl x ↦ inr (k, omega (arith, le), u.0, region_eq-true s.region b (sym (o.alone u.0 b) ∙ x), u.1)
              | inr y ↦ absurd (not-above w (live_before live scopes k) s.region (o.alone u.0) (o.fresh u.0) y)
            ]
      ]

  -- if the live regions outlive a scope's region, the table of opening indexes stores this scope as the oldest scope of its region
  its-own : (i : ℕ) → i < n → is_outlived_by_live (scope_at scopes i).kind ≡ true → opening_of openings (scope_at scopes i).region ≡ i
  its-own i lt k =
      let o = order.each i lt in
      elim o.found [
        | inl m ↦ absurd (never_true_and_false (live-from_start live scopes i (scope_at scopes i).region m) (o.fresh k))
        | inr f ↦ elim (cases_lt (opening_of openings (scope_at scopes i).region) i) [
          | inl less ↦ absurd (never_true_and_false (live-at live scopes i (opening_of openings (scope_at scopes i).region) (scope_at scopes i).region less (omega (arith, lt, order.within))
              (eq_true_at (scope_at scopes (opening_of openings (scope_at scopes i).region)).region (scope_at scopes i).region f.1)) (o.fresh k))
          | inr more ↦ omega (arith, f.0, more)
        ]
      ]

-- ---- paths if all scopes are in order
module _ (w : List (Region × Region)) (live : List Region) (openings : List ℕ) (scopes : List Scope)
    (order : IsInOrder w live openings scopes (length scopes)) where
  -- a path leads from a to b over b's scope if the live regions outlive b and a has a path to a region live before that scope
  pub leads-there : (a b : Region) → opening_of openings b < length scopes →
      (scope_at scopes (opening_of openings b)).region ≡ b →
      is_outlived_by_live (scope_at scopes (opening_of openings b)).kind ≡ true →
      above_one_of w (live_before live scopes (opening_of openings b)) a ≡ true → leads w live (reverse scopes) a b ≡ true
  leads-there a b lt e k u =
      leads-found w live scopes (opening_of openings b) default a b lt k u
      (subst (λ z. leads w live (reverse (take (opening_of openings b) scopes)) z b ≡ true) (sym e)
      (leads-refl w live (reverse (take (opening_of openings b) scopes)) b))

  -- if no path of constraints leads from a to b, and none leads over the scope that opened b, then no path leads from a to b
  pub leads-nowhere : (a b : Region) → above w a b ≡ false →
      (opening_of openings b < length scopes → (scope_at scopes (opening_of openings b)).region ≡ b →
      is_outlived_by_live (scope_at scopes (opening_of openings b)).kind ≡ true →
      above_one_of w (live_before live scopes (opening_of openings b)) a ≡ false) →
      leads w live (reverse scopes) a b ≡ false
  leads-nowhere a b apart none = false_from_ne_true (leads w live (reverse scopes) a b) (λ t.
      elim (by-one-scope w live openings scopes (length scopes) order (length scopes) a b (omega arith)
      (subst (λ z. leads w live (reverse z) a b ≡ true) (sym (take_all (length scopes) scopes (omega arith))) t)) [
        | inl x ↦ never_true_and_false x apart
        | inr p ↦
            let at : opening_of openings b ≡ p.0 =
            subst (λ z. opening_of openings z ≡ p.0) p.3 (its-own w live openings scopes (length scopes) order p.0 p.1 p.2) in
            never_true_and_false p.4 (subst (λ z. above_one_of w (live_before live scopes z) a ≡ false) at
            (none (subst (λ z. z < length scopes) (sym at) p.1)
            (subst (λ z. (scope_at scopes z).region ≡ b) (sym at) p.3)
            (subst (λ z. is_outlived_by_live (scope_at scopes z).kind ≡ true) (sym at) p.2)))
      ])

  -- if the live regions outlive region b, its scope decides: a path leads from a to b exactly if a has a path to a region live before the
  -- scope
  pub leads-by_place : (a b : Region) (place : ℕ) → place ≡ opening_of openings b → place < length scopes →
      (scope_at scopes place).region ≡ b → is_outlived_by_live (scope_at scopes place).kind ≡ true → above w a b ≡ false →
      above_one_of w (live_before live scopes place) a ≡ leads w live (reverse scopes) a b
  leads-by_place a b place at = subst (λ (p : ℕ). p < length scopes →
      (scope_at scopes p).region ≡ b → is_outlived_by_live (scope_at scopes p).kind ≡ true → above w a b ≡ false →
      above_one_of w (live_before live scopes p) a ≡ leads w live (reverse scopes) a b) (sym at)
      (λ lt same k apart. same_tests (above_one_of w (live_before live scopes (opening_of openings b)) a) (leads w live (reverse scopes) a b)
      (leads-there a b lt same k)
      (λ h. true_from_ne_false (above_one_of w (live_before live scopes (opening_of openings b)) a)
      (λ f. never_true_and_false h (leads-nowhere a b apart (λ x y z. f)))))

  pub leads-by_no_place : (a b : Region) (place : ℕ) → place ≡ opening_of openings b → above w a b ≡ false →
      (place < length scopes → (scope_at scopes place).region ≡ b → is_outlived_by_live (scope_at scopes place).kind ≡ true → ⊥) →
      leads w live (reverse scopes) a b ≡ false
  leads-by_no_place a b place at apart none = leads-nowhere a b apart (λ lt same k. absurd (none
      (subst (λ (p : ℕ). p < length scopes) (sym at) lt)
      (subst (λ (p : ℕ). (scope_at scopes p).region ≡ b) (sym at) same)
      (subst (λ (p : ℕ). is_outlived_by_live (scope_at scopes p).kind ≡ true) (sym at) k)))

-- ---- opening and closing of scopes

module _ (w : List (Region × Region)) (live : List Region) where
  -- the condition that the table of opening indexes is correct for the scope at index i depends only on the scopes up to index i
  orderly-same : (openings : List ℕ) (xs ys : List Scope) (i : ℕ) → ((j : ℕ) → j ≤ i → scope_at xs j ≡ scope_at ys j) → take i xs ≡ take i ys →
      IsOrderly w live openings xs i → IsOrderly w live openings ys i
  orderly-same openings xs ys i at older o =
      let e : scope_at xs i ≡ scope_at ys i = at i (omega arith) in
      let back : is_outlived_by_live (scope_at ys i).kind ≡ true → is_outlived_by_live (scope_at xs i).kind ≡ true =
      subst (λ (s : Scope). is_outlived_by_live s.kind ≡ true) (sym e) in
      record {
        found = elim o.found [
          | inl m ↦ inl (subst (λ (s : Scope). is_region_among s.region live ≡ true) e m)
          | inr f ↦
              let g : (opening_of openings (scope_at ys i).region ≤ i) × ((scope_at xs (opening_of openings (scope_at ys i).region)).region ≡ (scope_at ys i).region) =
              subst (λ (s : Scope). (opening_of openings s.region ≤ i) × ((scope_at xs (opening_of openings s.region)).region ≡ s.region)) e f in
              inr (g.0, ap (λ (s : Scope). s.region) (sym (at (opening_of openings (scope_at ys i).region) g.0)) ∙ g.1)
        ];
        alone = λ k b. subst (λ (s : Scope). above w s.region b ≡ region_eq s.region b) e (o.alone (back k) b);
        fresh = λ k.
            subst (λ (z : List Scope). is_region_among (scope_at ys i).region (live_regions live (reverse z)) ≡ false) older
            (subst (λ (s : Scope). is_region_among s.region (live_before live xs i) ≡ false) e (o.fresh (back k)));
      }

  -- if the table of opening indexes is correct for all open scopes, it stays correct for them after one more scope opens
  pub in_order-more : (openings : List ℕ) (scopes : List Scope) (s : Scope) (n : ℕ) → IsInOrder w live openings scopes n →
      IsInOrder w live openings (scopes ++ s ∷ []) n
  in_order-more openings scopes s n o = record {
    within = let l : length (scopes ++ s ∷ []) ≡ length scopes + 1 = length-append scopes (s ∷ []) in omega (arith, l, o.within);
    each = λ i lt. orderly-same openings scopes (scopes ++ s ∷ []) i
        (λ j before. sym (get_or_append_left scopes (s ∷ []) default j (omega (arith, lt, before, o.within))))
        (sym (take-append-le i scopes (s ∷ []) (omega (arith, lt, o.within))))
        (o.each i lt);
  }

  -- if the index of a not yet live region's opening is stored, the table of opening indexes stays correct for all open scopes (`IsInOrder`)
  pub in_order-noted : (openings noted : List ℕ) (scopes : List Scope) (n : ℕ) (region : Region) → IsInOrder w live openings scopes n →
      is_region_among region (live_before live scopes (length scopes)) ≡ false →
      ((r : Region) → region_eq region r ≡ false → opening_of noted r ≡ opening_of openings r) →
      IsInOrder w live noted scopes n
  in_order-noted openings noted scopes n region o apart others = record {
    within = o.within;
    each = λ i lt.
        let b = o.each i lt in
        let other : region_eq region (scope_at scopes i).region ≡ false =
        false_from_ne_true (region_eq region (scope_at scopes i).region) (λ t. never_true_and_false (live-at live scopes (length scopes) i region (omega (arith, lt, o.within)) (omega arith)
        (eq_true_at (scope_at scopes i).region region (sym (region_eq-true region (scope_at scopes i).region t)))) apart) in
        let same : opening_of openings (scope_at scopes i).region ≡ opening_of noted (scope_at scopes i).region = sym (others (scope_at scopes i).region other) in
        record {
          found = subst (λ z. (is_region_among (scope_at scopes i).region live ≡ true)
              ⊎ ((z ≤ i) × ((scope_at scopes z).region ≡ (scope_at scopes i).region))) same b.found;
          alone = b.alone;
          fresh = b.fresh;
        };
  }

  module _ (openings : List ℕ) (scopes : List Scope) (s : Scope) (o : IsInOrder w live openings scopes (length scopes)) where
    -- ---- opening a scope that is in order too
    in_order-next : ((is_region_among s.region live ≡ true)
        ⊎ ((opening_of openings s.region ≤ length scopes) × ((scope_at (scopes ++ s ∷ []) (opening_of openings s.region)).region ≡ s.region))) →
        (is_outlived_by_live s.kind ≡ true → (b : Region) → above w s.region b ≡ region_eq s.region b) →
        (is_outlived_by_live s.kind ≡ true → is_region_among s.region (live_before live scopes (length scopes)) ≡ false) →
        IsInOrder w live openings (scopes ++ s ∷ []) (length scopes + 1)
    in_order-next found alone fresh = record {
      within = let l : length (scopes ++ s ∷ []) ≡ length scopes + 1 = length-append scopes (s ∷ []) in omega (arith, l);
      each = λ i lt. elim (cases_lt i (length scopes)) [
        | inl older ↦ (in_order-more openings scopes s (length scopes) o).each i older
        | inr no_older ↦ let e : length scopes ≡ i = omega (arith, lt, no_older) in subst (λ (z : ℕ). IsOrderly w live openings (scopes ++ s ∷ []) z) e newest
      ];
    }
      where
        it : s ≡ scope_at (scopes ++ s ∷ []) (length scopes)
        it = sym (get_or_push scopes s default (length scopes) refl)

        older : take (length scopes) scopes ≡ take (length scopes) (scopes ++ s ∷ [])
        older = sym (take-append-le (length scopes) scopes (s ∷ []) (omega arith))

        newest : IsOrderly w live openings (scopes ++ s ∷ []) (length scopes)
        newest = record {
          found = subst (λ (z : Scope). (is_region_among z.region live ≡ true)
              ⊎ ((opening_of openings z.region ≤ length scopes) × ((scope_at (scopes ++ s ∷ []) (opening_of openings z.region)).region ≡ z.region))) it found;
          alone = subst (λ (z : Scope). is_outlived_by_live z.kind ≡ true → (b : Region) → above w z.region b ≡ region_eq z.region b) it alone;
          fresh = subst (λ (z : List Scope). is_outlived_by_live (scope_at (scopes ++ s ∷ []) (length scopes)).kind ≡ true →
              is_region_among (scope_at (scopes ++ s ∷ []) (length scopes)).region (live_regions live (reverse z)) ≡ false) older
              (subst (λ (z : Scope). is_outlived_by_live z.kind ≡ true → is_region_among z.region (live_before live scopes (length scopes)) ≡ false) it fresh);
        }

    -- if the region of a newly opened scope is already live, the table of opening indexes is correct for all scopes including the new one
    pub in_order-known : is_outlived_by_live s.kind ≡ false → is_region_among s.region (live_before live scopes (length scopes)) ≡ true →
        IsInOrder w live openings (scopes ++ s ∷ []) (length scopes + 1)
    in_order-known not_outlived known = in_order-next
        (elim (or_cases (is_region_among s.region live) (list_any (λ (z : Scope). region_eq z.region s.region) (take (length scopes) scopes))
        (sym (among-before live scopes (length scopes) s.region) ∙ known)) [
          | inl m ↦ inl m
          | inr among ↦
              let p = any-place (λ (z : Scope). region_eq z.region s.region) (length scopes) scopes among in
              let same : (scope_at scopes p.0).region ≡ s.region = region_eq-true (scope_at scopes p.0).region s.region p.3 in
              elim (o.each p.0 p.1).found [
                | inl m ↦ inl (subst (λ z. is_region_among z live ≡ true) same m)
                | inr f ↦
                    let g : (opening_of openings s.region ≤ p.0) × ((scope_at scopes (opening_of openings s.region)).region ≡ s.region) =
                    subst (λ z. (opening_of openings z ≤ p.0) × ((scope_at scopes (opening_of openings z)).region ≡ z)) same f in
                    inr (
                      omega (arith, g.0, p.1),
                      ap (λ (z : Scope). z.region) (get_or_append_left scopes (s ∷ []) default (opening_of openings s.region) (omega (arith, g.0, p.1))) ∙ g.1,
                    )
              ]
        ])
        (λ k. absurd (never_true_and_false k not_outlived))
        (λ k. absurd (never_true_and_false k not_outlived))

    -- the table of opening indexes is correct for a newly opened scope, if the table stores this scope's index for its
    -- region, and the region was not live before
    pub in_order-new : opening_of openings s.region ≡ length scopes →
        (is_outlived_by_live s.kind ≡ true → (b : Region) → above w s.region b ≡ region_eq s.region b) →
        is_region_among s.region (live_before live scopes (length scopes)) ≡ false →
        IsInOrder w live openings (scopes ++ s ∷ []) (length scopes + 1)
    in_order-new at alone fresh = in_order-next
        (inr (omega (arith, at), ap (λ (i : ℕ). (scope_at (scopes ++ s ∷ []) i).region) at ∙ ap (λ (z : Scope). z.region) (get_or_push scopes s default (length scopes) refl)))
        alone (λ k. fresh)
