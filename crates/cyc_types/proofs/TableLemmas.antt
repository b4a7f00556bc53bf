-- Lemmas about the table of outlives constraints: its loop invariants, and that the table is transitively closed after the loops.
use Rattle.std.proofs.Common.{◌≡◌, inl, inr, ℕ, zero, suc, ◌+◌, ◌<◌, true, false, ◌&&◌, ◌||◌, List, [], ◌∷◌, ◌++◌, length, get_or, set, take, refl, ap, sym, ◌∙◌, subst, arith, add-one}
use Rattle.std.proofs.lemmas.Bool.{or_left, or_right, true≢false, false_from_ne_true, cases_Bool}
use Rattle.std.proofs.lemmas.List.{take_more, map-append}
use Rattle.cyc_words.proofs.Booleans.{or_false_right}
use Rattle.cyc_types.specs.declared.region.Region.{Region}
use Rattle.cyc_types.specs.declared.constraints.Constraint.{Constraint}
use Rattle.cyc_types.specs.Types.{region_eq, is_region_among}
use Rattle.cyc_types.specs.Closure.{entry_leads, table_leads, has_entry, written_in}
use Rattle.cyc_types.proofs.RegionLemmas.{region_eq-refl, region_eq-true}

-- ---- the entry of a region

-- the equality test of two equal regions returns true
pub eq_true_at : (a b : Region) → a ≡ b → region_eq a b ≡ true
eq_true_at a b e = subst (λ z. region_eq a z ≡ true) e (region_eq-refl a)

pub eq_false_at : (a b : Region) → (a ≡ b → ⊥) → region_eq a b ≡ false
eq_false_at a b n = false_from_ne_true (region_eq a b) (λ e. n (region_eq-true a b e))

pub table_leads-here : (c : Constraint) (cs : List Constraint) (a b : Region) → c.longer ≡ a → table_leads (c ∷ cs) a b ≡ entry_leads c b
table_leads-here c cs a b e = rw (eq_true_at c.longer a e)

pub table_leads-there : (c : Constraint) (cs : List Constraint) (a b : Region) → (c.longer ≡ a → ⊥) → table_leads (c ∷ cs) a b ≡ table_leads cs a b
table_leads-there c cs a b n = rw (eq_false_at c.longer a n)

-- ---- the table before it is closed

abbrev pub AreOpen : List Constraint → Type 0
AreOpen [] = Unit {0}
AreOpen (c ∷ cs) = (c.outlived ≡ []) × AreOpen cs

pub AreOpen-push : (cs : List Constraint) (c : Constraint) → AreOpen cs → c.outlived ≡ [] → AreOpen (cs ++ c ∷ [])
AreOpen-push [] c h e = (e, tt)
AreOpen-push (k ∷ ks) c h e = (h.0, AreOpen-push ks c h.1 e)

pub open-leads : (cs : List Constraint) → AreOpen cs → (a b : Region) → table_leads cs a b ≡ region_eq a b
open-leads [] h a b = refl
open-leads (c ∷ cs) h a b =
    elim (cases_Bool (region_eq c.longer a)) [
      | inl e ↦
          let same : c.longer ≡ a = region_eq-true c.longer a e in
          table_leads-here c cs a b same ∙ ap (λ xs. region_eq c.longer b || is_region_among b xs) h.0 ∙ or_false_right (region_eq c.longer b)
          ∙ ap (λ z. region_eq z b) same
      | inr n ↦ rw n (open-leads cs h.1 a b)
    ]

same_pair : (p q : Region × Region) → p.0 ≡ q.0 → p.1 ≡ q.1 → p ≡ q
same_pair (a, b) (x, y) l m = cc

-- after the loop adds an entry for the next outlives constraint, the table lists one more pair; transitivity is not yet
-- applied to this entry
pub push_open : (cs : List Constraint) (w : List (Region × Region)) (i : ℕ) (d : Region × Region) (c : Constraint) (new : List Constraint) →
    i < length w → written_in cs ≡ take i w → AreOpen cs → new ≡ cs ++ c ∷ [] →
    c.longer ≡ (get_or w i d).0 → c.shorter ≡ (get_or w i d).1 → c.outlived ≡ [] →
    (written_in new ≡ take (i + 1) w) × AreOpen new
push_open cs w i d c new h e o n l m t =
    let head : (c.longer, c.shorter) ≡ get_or w i d = same_pair (c.longer, c.shorter) (get_or w i d) l m in (
      ap written_in n ∙ map-append (λ (k : Constraint). (k.longer, k.shorter)) cs (c ∷ []) ∙ ap (λ z. z ++ (c.longer, c.shorter) ∷ []) e
          ∙ ap (λ z. take i w ++ z ∷ []) head ∙ sym (take_more w i d h),
      rw n (AreOpen-push cs c o t),
    )

-- ---- one round: each entry that leads to `via` is extended by all of `below`

pub record EntryStep (via : Region) (below : List Region) (old new : Constraint) : Type 0 where
  pub longer : new.longer ≡ old.longer
  pub shorter : new.shorter ≡ old.shorter
  pub leads : (b : Region) → entry_leads new b ≡ (entry_leads old b || (entry_leads old via && is_region_among b below))

-- says that the transitive closure step for the region `via` has been applied to the first n entries of the constraint table
abbrev pub SteppedTo : Region → List Region → ℕ → List Constraint → List Constraint → Type 0
SteppedTo via below zero old new = new ≡ old
SteppedTo via below (suc n) [] new = new ≡ []
SteppedTo via below (suc n) (c ∷ cs) [] = ⊥
SteppedTo via below (suc n) (c ∷ cs) (k ∷ ks) = EntryStep via below c k × SteppedTo via below n cs ks

SteppedTo-suc : (via : Region) (below : List Region) (n : ℕ) (old new : List Constraint) (c k : Constraint) → n < length new →
    SteppedTo via below n old new → EntryStep via below (get_or new n c) k → SteppedTo via below (suc n) old (set new n k)
SteppedTo-suc via below zero old [] c k h s p = absurd (omega (arith, h))
SteppedTo-suc via below zero [] (x ∷ xs) c k h s p = cc
SteppedTo-suc via below zero (o ∷ os) (x ∷ xs) c k h s p =
    let head : x ≡ o = cc in
    let tail : xs ≡ os = cc in
    (subst (λ z. EntryStep via below z k) head p, tail)
SteppedTo-suc via below (suc n) old [] c k h s p = absurd (omega (arith, h))
SteppedTo-suc via below (suc n) [] (x ∷ xs) c k h s p = cc
SteppedTo-suc via below (suc n) (o ∷ os) (x ∷ xs) c k h s p =
    (s.0, SteppedTo-suc via below n os xs c k (omega (arith, h)) s.1 p)

pub SteppedTo-more : (via : Region) (below : List Region) (n : ℕ) (old new : List Constraint) (c k : Constraint) → n < length new →
    SteppedTo via below n old new → EntryStep via below (get_or new n c) k → SteppedTo via below (n + 1) old (set new n k)
SteppedTo-more via below n old new c k h s p = rw add-one (SteppedTo-suc via below n old new c k h s p)

pub SteppedTo-written : (via : Region) (below : List Region) (n : ℕ) (old new : List Constraint) → SteppedTo via below n old new →
    written_in new ≡ written_in old
SteppedTo-written via below zero old new s = ap written_in s
SteppedTo-written via below (suc n) [] new s = ap written_in s
SteppedTo-written via below (suc n) (c ∷ cs) [] s = absurd s
SteppedTo-written via below (suc n) (c ∷ cs) (k ∷ ks) s =
    let l = s.0.longer in
    let m = s.0.shorter in
    let r = SteppedTo-written via below n cs ks s.1 in
    cc

-- a region without an entry in the constraint table outlives only itself according to the table
no_entry : (cs : List Constraint) (a b : Region) → has_entry cs a ≡ false → table_leads cs a b ≡ region_eq a b
no_entry [] a b h = refl
no_entry (c ∷ cs) a b h = elim (cases_Bool (region_eq c.longer a)) [
  | inl e ↦ absurd (true≢false (sym (or_left (region_eq c.longer a) (has_entry cs a) e) ∙ h))
  | inr n ↦ rw n (no_entry cs a b (let g : (region_eq c.longer a || has_entry cs a) ≡ false = h in rw n at g))
]

-- extending the entries of the constraint table does not change which regions have entries
has_entry-stepped : (via : Region) (below : List Region) (old new : List Constraint) (a : Region) →
    SteppedTo via below (length old) old new → has_entry new a ≡ has_entry old a
has_entry-stepped via below [] new a s = ap (λ z. has_entry z a) s
has_entry-stepped via below (c ∷ cs) [] a s = absurd s
has_entry-stepped via below (c ∷ cs) (k ∷ ks) a s =
    let l = s.0.longer in
    let r = has_entry-stepped via below cs ks a s.1 in
    rw (l, r)

-- gives the entry of a region in the constraint table after one step of transitive closure has extended the entry
stepped-entry : (via : Region) (below : List Region) (old new : List Constraint) (a b : Region) →
    SteppedTo via below (length old) old new → has_entry old a ≡ true →
    table_leads new a b ≡ (table_leads old a b || (table_leads old a via && is_region_among b below))
stepped-entry via below [] new a b s h = cc
stepped-entry via below (c ∷ cs) [] a b s h = absurd s
stepped-entry via below (c ∷ cs) (k ∷ ks) a b s h =
    elim (cases_Bool (region_eq c.longer a)) [
      | inl e ↦
          let same : c.longer ≡ a = region_eq-true c.longer a e in
          let l = s.0.longer in
          table_leads-here k ks a b (l ∙ same) ∙ s.0.leads b
          ∙ ap (λ z. z || (entry_leads c via && is_region_among b below)) (sym (table_leads-here c cs a b same))
          ∙ ap (λ z. table_leads (c ∷ cs) a b || (z && is_region_among b below)) (sym (table_leads-here c cs a via same))
      | inr n ↦
          let apart : c.longer ≡ a → ⊥ = λ q. true≢false (sym (eq_true_at c.longer a q) ∙ n) in
          let l = s.0.longer in
          let more : has_entry cs a ≡ true = let g : (region_eq c.longer a || has_entry cs a) ≡ true = h in rw n at g in
          table_leads-there k ks a b (λ q. apart (sym l ∙ q)) ∙ stepped-entry via below cs ks a b s.1 more
          ∙ ap (λ z. z || (table_leads cs a via && is_region_among b below)) (sym (table_leads-there c cs a b apart))
          ∙ ap (λ z. table_leads (c ∷ cs) a b || (z && is_region_among b below)) (sym (table_leads-there c cs a via apart))
    ]

pub stepped-leads : (via : Region) (below : List Region) (old new : List Constraint) → SteppedTo via below (length old) old new →
    has_entry old via ≡ true → (a b : Region) →
    table_leads new a b ≡ (table_leads old a b || (table_leads old a via && is_region_among b below))
stepped-leads via below old new s has a b =
    elim (cases_Bool (has_entry old a)) [
      | inl h ↦ stepped-entry via below old new a b s h
      | inr n ↦
          let apart : region_eq a via ≡ false = eq_false_at a via (λ e. true≢false (sym has ∙ (ap (has_entry old) (sym e) ∙ n))) in
          no_entry new a b (has_entry-stepped via below old new a s ∙ n)
          ∙ sym (or_false_right (region_eq a b))
          ∙ ap (λ z. z || false) (sym (no_entry old a b n))
          ∙ ap (λ z. table_leads old a b || (z && is_region_among b below)) (sym (no_entry old a via n ∙ apart))
    ]

-- ---- all rounds, from the last constraint to the first

pub has_entry-at : (cs : List Constraint) (w : List (Region × Region)) (i : ℕ) (p : Region × Region) → written_in cs ≡ w → i < length w →
    get_or w i p ≡ p → has_entry cs p.0 ≡ true
has_entry-at [] w i p e h g = let none : length w ≡ 0 = ap length (sym e) in absurd (omega (arith, h, none))
has_entry-at (c ∷ cs) [] i p e h g = absurd (omega (arith, h))
has_entry-at (c ∷ cs) (q ∷ qs) zero p e h g =
    let l : c.longer ≡ p.0 = cc in
    or_left (region_eq c.longer p.0) (has_entry cs p.0) (eq_true_at c.longer p.0 l)
has_entry-at (c ∷ cs) (q ∷ qs) (suc i) p e h g =
    let t : written_in cs ≡ qs = cc in
    or_right (region_eq c.longer p.0) (has_entry cs p.0) (has_entry-at cs qs i p t (omega (arith, h)) g)
