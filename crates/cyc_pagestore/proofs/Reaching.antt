-- Lemmas about the number of live words of a page after a field of one page is written. The number depends on the serial numbers of pages.
use Rattle.std.proofs.Common.{◌≡◌, ℕ, ap, ◌∙◌, inl, inr}
use Rattle.std.specs.Prelude.{◌==◌, if◌then◌else◌}
use Rattle.std.proofs.lemmas.Bool.{cases_eq, cond-true, cond-false, eq-eqb, ne_eqb}
use Rattle.cyc_pagestore.specs.inside.Live.{reach_by}

pub reach-by_serial : (serial owner fill : ℕ → ℕ) (page : ℕ) → serial page ≡ serial (owner page) → reach_by serial owner fill page ≡ fill page
reach-by_serial serial owner fill page e = cond-true (serial page == serial (owner page)) (fill page) 0 (eq-eqb (serial page) (serial (owner page)) e)

pub reach-stale : (serial owner fill : ℕ → ℕ) (page : ℕ) → (serial page ≡ serial (owner page) → ⊥) → reach_by serial owner fill page ≡ 0
reach-stale serial owner fill page ne = cond-false (serial page == serial (owner page)) (fill page) 0 (ne_eqb (serial page) (serial (owner page)) ne)

pub reach-empty : (serial owner fill : ℕ → ℕ) (page : ℕ) → fill page ≡ 0 → reach_by serial owner fill page ≡ 0
reach-empty serial owner fill page none = elim (cases_eq (serial page) (serial (owner page))) [
  | inl e ↦ reach-by_serial serial owner fill page e ∙ none
  | inr ne ↦ reach-stale serial owner fill page ne
]

-- If the end of a page's filled words, its owner (its region's first page), its serial and its owner's
-- serial are unchanged, so are its live words.
pub reach-same : (serial owner fill serial' owner' fill' : ℕ → ℕ) (page : ℕ) → owner' page ≡ owner page → serial' page ≡ serial page → serial' (owner page) ≡ serial (owner page) → fill' page ≡ fill page
    → reach_by serial' owner' fill' page ≡ reach_by serial owner fill page
reach-same serial owner fill serial' owner' fill' page o s t f = λ j. if s j == (ap serial' o ∙ t) j then f j else 0
