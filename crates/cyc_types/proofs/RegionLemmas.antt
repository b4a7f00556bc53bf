-- The equality function of regions decides equality of regions.
use Rattle.std.proofs.Common.{◌≡◌, true, refl, ap, sym, ◌∙◌, subst}
use Rattle.std.specs.Bool.{Decides}
use Rattle.std.proofs.lemmas.Bool.{eqb-true, eq-eqb}
use Rattle.cyc_types.specs.declared.region.Region.{Region}
use Rattle.cyc_types.specs.declared.region.Region.TheVariants.{Heap, Unique, Variable}
use Rattle.cyc_types.specs.contracts.region.RegionPartialEq.TheImpl.{ghosts}
use Rattle.cyc_types.specs.Types.{region_eq}

pub region_eq-refl : (a : Region) → region_eq a a ≡ true
region_eq-refl Heap = refl
region_eq-refl Unique = refl
region_eq-refl (Variable n) = eq-eqb n n refl

pub region_eq-true : (a b : Region) → region_eq a b ≡ true → a ≡ b
region_eq-true Heap Heap h = refl
region_eq-true Heap Unique h = cc
region_eq-true Heap (Variable n) h = cc
region_eq-true Unique Heap h = cc
region_eq-true Unique Unique h = refl
region_eq-true Unique (Variable n) h = cc
region_eq-true (Variable m) Heap h = cc
region_eq-true (Variable m) Unique h = cc
region_eq-true (Variable m) (Variable n) h = ap Variable (eqb-true m n h)

pub derived-region_eq : (a b : Region) → ghosts.eq a b ≡ region_eq a b
derived-region_eq Heap Heap = refl
derived-region_eq Heap Unique = refl
derived-region_eq Heap (Variable n) = refl
derived-region_eq Unique Heap = refl
derived-region_eq Unique Unique = refl
derived-region_eq Unique (Variable n) = refl
derived-region_eq (Variable m) Heap = refl
derived-region_eq (Variable m) Unique = refl
derived-region_eq (Variable m) (Variable n) = refl

pub derived-Decides : (a b : Region) → Decides (ghosts.eq a b) (a ≡ b)
derived-Decides a b = (
  λ h. region_eq-true a b (sym (derived-region_eq a b) ∙ h),
  λ e. derived-region_eq a b ∙ subst (λ z. region_eq a z ≡ true) e (region_eq-refl a),
)
