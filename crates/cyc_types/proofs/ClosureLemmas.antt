-- The boolean tests of the specification file `Closure` return true exactly if one region outlives another.
use Rattle.std.proofs.Common.{◌≡◌, ◌≢◌, ◌⊎◌, inl, inr, true, not, ◌&&◌, ◌||◌, List, [], ◌∷◌, refl, sym, ◌∙◌, subst}
use Rattle.std.specs.Prelude.{Contains}
use Rattle.std.proofs.lemmas.Bool.{or_cases, or_left, or_right, and_parts, and_from, cases_Bool, true≢false, false_from_ne_true, not-true, not_from_false}
use Rattle.cyc_words.proofs.Members.{Contains-head, Contains-tail, Contains-empty, Contains-cons_cases}
use Rattle.cyc_words.proofs.Searches.{any-true, any-from, all-true}
use Rattle.cyc_types.specs.declared.region.Region.{Region}
use Rattle.cyc_types.specs.declared.region.Region.TheVariants.{Heap, Unique}
use Rattle.cyc_types.specs.declared.scope.Scope.{Scope}
use Rattle.cyc_types.specs.Types.{region_eq}
use Rattle.cyc_types.specs.Outlives.{RegionContext, live_regions, is_outlived_by_live, IsLiveAtOpening, IsGiven, OutlivesIn, itself, given, through, names_no_unique}
use Rattle.cyc_types.specs.Closure.{above, above_one_of, leads, is_outliving, names_no_unique_scope}
use Rattle.cyc_types.proofs.RegionLemmas.{region_eq-refl, region_eq-true}

-- ---- regions

pub not_unique : (r : Region) → r ≢ Unique → not (region_eq r Unique) ≡ true
not_unique r n = not_from_false (region_eq r Unique) (false_from_ne_true (region_eq r Unique) (λ e. n (region_eq-true r Unique e)))

pub unique_not : (r : Region) → not (region_eq r Unique) ≡ true → r ≢ Unique
unique_not r h e = let k : region_eq r Unique ≡ true = subst (λ z. region_eq z Unique ≡ true) (sym e) refl in true≢false (sym k ∙ not-true (region_eq r Unique) h)

-- ---- paths of pairs

pub above-refl : (w : List (Region × Region)) (a : Region) → above w a a ≡ true
above-refl [] a = region_eq-refl a
above-refl (p ∷ ps) a = or_left (above ps a a) (above ps a p.0 && above ps p.1 a) (above-refl ps a)

pub above-trans : (w : List (Region × Region)) (a b d : Region) → above w a b ≡ true → above w b d ≡ true → above w a d ≡ true
above-trans [] a b d h k = subst (λ z. region_eq z d ≡ true) (sym (region_eq-true a b h)) k
above-trans (p ∷ ps) a b d h k =
    let early : above ps a d ≡ true → above (p ∷ ps) a d ≡ true = or_left (above ps a d) (above ps a p.0 && above ps p.1 d) in
    let late : above ps a p.0 ≡ true → above ps p.1 d ≡ true → above (p ∷ ps) a d ≡ true =
    λ x y. or_right (above ps a d) (above ps a p.0 && above ps p.1 d) (and_from (above ps a p.0) (above ps p.1 d) x y) in
    elim (or_cases (above ps a b) (above ps a p.0 && above ps p.1 b) h) [
      | inl ab ↦ elim (or_cases (above ps b d) (above ps b p.0 && above ps p.1 d) k) [
        | inl bd ↦ early (above-trans ps a b d ab bd)
        | inr m ↦ let n = and_parts (above ps b p.0) (above ps p.1 d) m in late (above-trans ps a b p.0 ab n.0) n.1
      ]
      | inr l ↦
          let u = and_parts (above ps a p.0) (above ps p.1 b) l in
          elim (or_cases (above ps b d) (above ps b p.0 && above ps p.1 d) k) [
            | inl bd ↦ late u.0 (above-trans ps p.1 b d u.1 bd)
            | inr m ↦ let n = and_parts (above ps b p.0) (above ps p.1 d) m in late u.0 n.1
          ]
    ]

-- adding a pair (a, b) of regions to a list of pairs adds no path if a path from a to b already exists
pub above-known : (p : Region × Region) (ps : List (Region × Region)) → above ps p.0 p.1 ≡ true → (a b : Region) → above (p ∷ ps) a b ≡ above ps a b
above-known p ps h a b =
    elim (cases_Bool (above ps a b)) [
      | inl e ↦ rw e
      | inr n ↦
          let apart : (above ps a p.0 && above ps p.1 b) ≡ true → ⊥ =
          λ e. (
          let u = and_parts (above ps a p.0) (above ps p.1 b) e in
          true≢false (sym (above-trans ps a p.0 b u.0 (above-trans ps p.0 p.1 b h u.1)) ∙ n)
          ) in
          rw (n, false_from_ne_true (above ps a p.0 && above ps p.1 b) apart)
    ]

pub above-pair : (w : List (Region × Region)) (a b : Region) → Contains w (a, b) → above w a b ≡ true
above-pair [] a b h = absurd (Contains-empty (a, b) h)
above-pair (p ∷ ps) a b h =
    elim (Contains-cons_cases p ps (a, b) h) [
      | inl e ↦
          or_right (above ps a b) (above ps a p.0 && above ps p.1 b) (and_from (above ps a p.0) (above ps p.1 b)
          (subst (λ (z : Region × Region). above ps a z.0 ≡ true) (sym e) (above-refl ps a))
          (subst (λ (z : Region × Region). above ps z.1 b ≡ true) (sym e) (above-refl ps b)))
      | inr k ↦ or_left (above ps a b) (above ps a p.0 && above ps p.1 b) (above-pair ps a b k)
    ]

pub above-sound : (c : RegionContext) (w : List (Region × Region)) → ((a b : Region) → Contains w (a, b) → OutlivesIn c a b) →
    (a b : Region) → above w a b ≡ true → OutlivesIn c a b
above-sound c [] pairs a b h = subst (λ z. OutlivesIn c a z) (region_eq-true a b h) (itself a)
above-sound c (p ∷ ps) pairs a b h =
    let rest : (x y : Region) → above ps x y ≡ true → OutlivesIn c x y =
    above-sound c ps (λ x y k. pairs x y (Contains-tail p ps (x, y) k)) in
    elim (or_cases (above ps a b) (above ps a p.0 && above ps p.1 b) h) [
      | inl e ↦ rest a b e
      | inr l ↦
          let u = and_parts (above ps a p.0) (above ps p.1 b) l in
          through a p.0 b (rest a p.0 u.0) (through p.0 p.1 b (pairs p.0 p.1 (Contains-head p ps)) (rest p.1 b u.1))
    ]

-- if pairs form a path from a to b, and a path from b into a list of regions, then a path leads from a into the list
pub above_one_of-up : (w : List (Region × Region)) (rs : List Region) (a b : Region) →
    above w a b ≡ true → above_one_of w rs b ≡ true → above_one_of w rs a ≡ true
above_one_of-up w [] a b h k = k
above_one_of-up w (r ∷ rs) a b h k =
    elim (or_cases (not (region_eq r Unique) && above w b r) (above_one_of w rs b) k) [
      | inl e ↦
          let u = and_parts (not (region_eq r Unique)) (above w b r) e in
          or_left (not (region_eq r Unique) && above w a r) (above_one_of w rs a)
          (and_from (not (region_eq r Unique)) (above w a r) u.0 (above-trans w a b r h u.1))
      | inr m ↦ or_right (not (region_eq r Unique) && above w a r) (above_one_of w rs a) (above_one_of-up w rs a b h m)
    ]

-- ---- paths over pairs and open scopes

module _ (w : List (Region × Region)) (live : List Region) where
  pub leads-refl : (opened : List Scope) (a : Region) → leads w live opened a a ≡ true
  leads-refl [] a = above-refl w a
  leads-refl (s ∷ e) a = or_left (leads w live e a a) _ (leads-refl e a)

  pub leads-above : (opened : List Scope) (a b : Region) → above w a b ≡ true → leads w live opened a b ≡ true
  leads-above [] a b h = h
  leads-above (s ∷ e) a b h = or_left (leads w live e a b) _ (leads-above e a b h)

  -- If a path of the outlives relation from region a to region b uses the newest scope, it leads from a to a live region, and from
  -- the scope's region to b. The newest scope can be part of a path only if the live regions outlive the scope's region.
  pub newest-parts : (s : Scope) (e : List Scope) (a b : Region) →
      (is_outlived_by_live s.kind && above_one_of w (live_regions live e) a && leads w live e s.region b) ≡ true →
      (is_outlived_by_live s.kind ≡ true) × (above_one_of w (live_regions live e) a ≡ true) × (leads w live e s.region b ≡ true)
  newest-parts s e a b h =
      let u = and_parts (is_outlived_by_live s.kind && above_one_of w (live_regions live e) a) (leads w live e s.region b) h in
      let v = and_parts (is_outlived_by_live s.kind) (above_one_of w (live_regions live e) a) u.0 in
      (v.0, v.1, u.1)

  pub newest-from : (s : Scope) (e : List Scope) (a b : Region) →
      is_outlived_by_live s.kind ≡ true → above_one_of w (live_regions live e) a ≡ true → leads w live e s.region b ≡ true →
      leads w live (s ∷ e) a b ≡ true
  newest-from s e a b k u r =
      or_right (leads w live e a b) (is_outlived_by_live s.kind && above_one_of w (live_regions live e) a && leads w live e s.region b)
      (and_from (is_outlived_by_live s.kind && above_one_of w (live_regions live e) a) (leads w live e s.region b)
      (and_from (is_outlived_by_live s.kind) (above_one_of w (live_regions live e) a) k u) r)

  -- a path between two regions either uses only the function's constraints, or constraints lead from its first region to a live region
  pub leads-cases : (opened : List Scope) (a b : Region) → leads w live opened a b ≡ true →
      (above w a b ≡ true) ⊎ (above_one_of w (live_regions live opened) a ≡ true)
  leads-cases [] a b h = inl h
  leads-cases (s ∷ e) a b h =
      elim (or_cases (leads w live e a b) (is_outlived_by_live s.kind && above_one_of w (live_regions live e) a && leads w live e s.region b) h) [
        | inl m ↦ elim (leads-cases e a b m) [ inl x ↦ inl x | inr y ↦ inr (or_right _ (above_one_of w (live_regions live e) a) y) ]
        | inr n ↦ inr (or_right _ (above_one_of w (live_regions live e) a) ((newest-parts s e a b n).1))
      ]

  leads-up : (opened : List Scope) (a b : Region) → leads w live opened a b ≡ true →
      above_one_of w (live_regions live opened) b ≡ true → above_one_of w (live_regions live opened) a ≡ true
  leads-up opened a b h u =
      elim (leads-cases opened a b h) [ inl x ↦ above_one_of-up w (live_regions live opened) a b x u | inr y ↦ y ]

  pub leads-trans : (opened : List Scope) (a b d : Region) →
      leads w live opened a b ≡ true → leads w live opened b d ≡ true → leads w live opened a d ≡ true
  leads-trans [] a b d h k = above-trans w a b d h k
  leads-trans (s ∷ e) a b d h k =
      elim (or_cases (leads w live e a b) (is_outlived_by_live s.kind && above_one_of w (live_regions live e) a && leads w live e s.region b) h) [
        | inl ab ↦
            elim (or_cases (leads w live e b d) (is_outlived_by_live s.kind && above_one_of w (live_regions live e) b && leads w live e s.region d) k) [
              | inl bd ↦ or_left (leads w live e a d) _ (leads-trans e a b d ab bd)
              | inr m ↦ let n = newest-parts s e b d m in newest-from s e a d n.0 (leads-up e a b ab n.1) n.2
            ]
        | inr l ↦
            let u = newest-parts s e a b l in
            elim (or_cases (leads w live e b d) (is_outlived_by_live s.kind && above_one_of w (live_regions live e) b && leads w live e s.region d) k) [
              | inl bd ↦ newest-from s e a d u.0 u.1 (leads-trans e s.region b d u.2 bd)
              | inr m ↦ let n = newest-parts s e b d m in newest-from s e a d u.0 u.1 n.2
            ]
      ]

  pub leads-sound : (c : RegionContext) → ((a b : Region) → above w a b ≡ true → OutlivesIn c a b) →
      (opened : List Scope) → ((a b : Region) → IsLiveAtOpening live opened a b → OutlivesIn c a b) →
      (a b : Region) → leads w live opened a b ≡ true → OutlivesIn c a b
  leads-sound c pairs [] scopes a b h = pairs a b h
  leads-sound c pairs (s ∷ e) scopes a b h =
      let rest : (x y : Region) → leads w live e x y ≡ true → OutlivesIn c x y = leads-sound c pairs e (λ x y k. scopes x y (inr k)) in
      elim (or_cases (leads w live e a b) (is_outlived_by_live s.kind && above_one_of w (live_regions live e) a && leads w live e s.region b) h) [
        | inl m ↦ rest a b m
        | inr n ↦
            let u = newest-parts s e a b n in
            let l = any-true (λ r. not (region_eq r Unique) && above w a r) (live_regions live e) u.1 in
            let v = and_parts (not (region_eq l.0 Unique)) (above w a l.0) l.2 in
            through a l.0 b (pairs a l.0 v.1)
            (through l.0 s.region b (scopes l.0 s.region (inl (u.0, refl, unique_not l.0 v.0, l.1))) (rest s.region b u.2))
      ]

  pub leads-opening : (opened : List Scope) (a b : Region) → IsLiveAtOpening live opened a b → leads w live opened a b ≡ true
  leads-opening [] a b h = absurd h
  leads-opening (s ∷ e) a b h =
      elim h [
        | inl p ↦
            newest-from s e a b p.0
            (any-from (λ r. not (region_eq r Unique) && above w a r) (live_regions live e) a p.3
            (and_from (not (region_eq a Unique)) (above w a a) (not_unique a p.2) (above-refl w a)))
            (subst (λ z. leads w live e s.region z ≡ true) (sym p.1) (leads-refl e s.region))
        | inr q ↦ or_left (leads w live e a b) _ (leads-opening e a b q)
      ]

-- if no open scope has the unique region, the region of an open scope is not the unique region
opening_not_unique : (live : List Region) (opened : List Scope) (a b : Region) → names_no_unique_scope opened ≡ true →
    IsLiveAtOpening live opened a b → b ≢ Unique
opening_not_unique live [] a b n h = absurd h
opening_not_unique live (s ∷ e) a b n h =
    let u = and_parts (not (region_eq s.region Unique)) (names_no_unique_scope e) n in
    elim h [ inl p ↦ λ x. unique_not s.region u.0 (sym p.1 ∙ x) | inr q ↦ opening_not_unique live e a b u.1 q ]

-- ---- the relation

module _ (c : RegionContext) (no_unique : names_no_unique c.written ≡ true) (no_scope : names_no_unique_scope c.opened ≡ true) where
  lead-sound : (a b : Region) → leads c.written c.live c.opened a b ≡ true → OutlivesIn c a b
  lead-sound = leads-sound c.written c.live c
      (above-sound c c.written (λ a b h. given a b (inr (inl h)))) c.opened (λ a b h. given a b (inr (inr h)))

  pub outliving-sound : (a b : Region) → is_outliving c a b ≡ true → OutlivesIn c a b
  outliving-sound a b h =
      elim (or_cases (region_eq a b) _ h) [
        | inl e ↦ subst (λ z. OutlivesIn c a z) (region_eq-true a b e) (itself a)
        | inr m ↦
            let u = and_parts (not (region_eq b Unique)) (leads c.written c.live c.opened a b || leads c.written c.live c.opened a Heap) m in
            elim (or_cases (leads c.written c.live c.opened a b) (leads c.written c.live c.opened a Heap) u.1) [
              | inl x ↦ lead-sound a b x
              | inr y ↦ through a Heap b (lead-sound a Heap y) (given Heap b (inl (refl, unique_not b u.0)))
            ]
      ]

  -- `is_outliving` returns true for a and b if b is not the unique region and a path leads from a to b or from a to the heap
  outliving-from : (a b : Region) → b ≢ Unique →
      ((leads c.written c.live c.opened a b ≡ true) ⊎ (leads c.written c.live c.opened a Heap ≡ true)) → is_outliving c a b ≡ true
  outliving-from a b n h =
      or_right (region_eq a b) _
      (and_from (not (region_eq b Unique)) (leads c.written c.live c.opened a b || leads c.written c.live c.opened a Heap) (not_unique b n)
      (elim h [ inl x ↦ or_left _ (leads c.written c.live c.opened a Heap) x | inr y ↦ or_right (leads c.written c.live c.opened a b) _ y ]))

  outliving-cases : (a b : Region) → is_outliving c a b ≡ true →
      (a ≡ b) ⊎ ((b ≢ Unique) × ((leads c.written c.live c.opened a b ≡ true) ⊎ (leads c.written c.live c.opened a Heap ≡ true)))
  outliving-cases a b h =
      elim (or_cases (region_eq a b) _ h) [
        | inl e ↦ inl (region_eq-true a b e)
        | inr m ↦
            let u = and_parts (not (region_eq b Unique)) (leads c.written c.live c.opened a b || leads c.written c.live c.opened a Heap) m in
            inr (unique_not b u.0, or_cases (leads c.written c.live c.opened a b) (leads c.written c.live c.opened a Heap) u.1)
      ]

  outliving-trans : (a b d : Region) → is_outliving c a b ≡ true → is_outliving c b d ≡ true → is_outliving c a d ≡ true
  outliving-trans a b d h k =
      elim (outliving-cases a b h) [
        | inl e ↦ subst (λ z. is_outliving c z d ≡ true) (sym e) k
        | inr u ↦ elim (outliving-cases b d k) [
          | inl e ↦ subst (λ z. is_outliving c a z ≡ true) e h
          | inr v ↦ outliving-from a d v.0 (elim u.1 [
            | inr ah ↦ inr ah
            | inl ab ↦ elim v.1 [
              | inl bd ↦ inl (leads-trans c.written c.live c.opened a b d ab bd)
              | inr bh ↦ inr (leads-trans c.written c.live c.opened a b Heap ab bh)
            ]
          ])
        ]
      ]

  given-complete : (a b : Region) → IsGiven c a b → is_outliving c a b ≡ true
  given-complete a b h =
      elim h [
        | inl p ↦ outliving-from a b p.1 (inr (subst (λ z. leads c.written c.live c.opened z Heap ≡ true) (sym p.0) (leads-refl c.written c.live c.opened Heap)))
        | inr q ↦ elim q [
          | inl m ↦
              outliving-from a b
              (unique_not b ((and_parts (not (region_eq a Unique)) (not (region_eq b Unique))
              (all-true (λ (p : Region × Region). not (region_eq p.0 Unique) && not (region_eq p.1 Unique)) c.written (a, b) no_unique m)).1))
              (inl (leads-above c.written c.live c.opened a b (above-pair c.written a b m)))
          | inr o ↦ outliving-from a b (opening_not_unique c.live c.opened a b no_scope o) (inl (leads-opening c.written c.live c.opened a b o))
        ]
      ]

  pub outliving-complete : (a b : Region) → OutlivesIn c a b → is_outliving c a b ≡ true
  outliving-complete _ _ (itself a) = or_left (region_eq a a) _ (region_eq-refl a)
  outliving-complete _ _ (given a b g) = given-complete a b g
  outliving-complete _ _ (through a m b h k) = outliving-trans a m b (outliving-complete a m h) (outliving-complete m b k)
