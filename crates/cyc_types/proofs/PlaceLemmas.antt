-- Lemmas about a table with the index of each region's first constraint: a constraint added at the front becomes the
-- first constraint of its region.
use Rattle.std.proofs.Common.{◌≡◌, inl, inr, ℕ, ◌+◌, ◌<◌, cond, List, [], ◌∷◌, length, get_or, drop, Option, Some, None, refl, ap, sym, ◌∙◌, subst}
use Rattle.std.proofs.lemmas.Bool.{cases_Bool, true≢false, cond-true, cond-false}
use Rattle.std.proofs.lemmas.List.{drop_more, get_or_default}
use Rattle.cyc_types.specs.declared.region.Region.{Region}
use Rattle.cyc_types.specs.declared.constraints.Constraint.{Constraint}
use Rattle.cyc_types.specs.declared.constraint_table.Places.{Places}
use Rattle.cyc_types.specs.Types.{region_eq}
use Rattle.cyc_types.specs.Closure.{entry_leads, table_leads}
use Rattle.cyc_types.specs.inside.ConstraintPlaces.{place_of, IsFirst, AreFirst}
use Rattle.cyc_types.proofs.RegionLemmas.{region_eq-true}
use Rattle.cyc_types.proofs.TableLemmas.{eq_true_at, table_leads-here, table_leads-there}

-- adding constraints in front that have other longer-lived regions does not change the index of a region's first constraint
first_kept : (all last more : List Constraint) (a : Region) (place : Option ℕ) → ((b : Region) → table_leads more a b ≡ table_leads last a b)
    → IsFirst all last a place → IsFirst all more a place
first_kept all last more a None same first = λ b. same b ∙ first b
first_kept all last more a (Some k) same first = (first.0, λ d. ((first.1 d).0, λ b. same b ∙ (first.1 d).1 b))

pub none_first : (all : List Constraint) (places : Places) → ((a : Region) → place_of places a ≡ None) → AreFirst all [] places
none_first all places none a = subst (λ (p : Option ℕ). IsFirst all [] a p) (sym (none a)) (λ b. refl)

module _ (all : List Constraint) (i : ℕ) (d : Constraint) (within : i < length all) (a : Region) where
  from : drop i all ≡ get_or all i d ∷ drop (i + 1) all
  from = drop_more all i d within

  here : (get_or all i d).longer ≡ a → IsFirst all (drop i all) a (Some i)
  here is = (
    within,
    λ e.
        let same : get_or all i e ≡ get_or all i d = get_or_default all i e d within in (
          ap (λ (c : Constraint). c.longer) same ∙ is,
          λ b. ap (λ cs. table_leads cs a b) from ∙ table_leads-here (get_or all i d) (drop (i + 1) all) a b is ∙ ap (λ c. entry_leads c b) (sym same),
        ),
  )

  there : (place : Option ℕ) → ((get_or all i d).longer ≡ a → ⊥) → IsFirst all (drop (i + 1) all) a place → IsFirst all (drop i all) a place
  there place apart first =
      first_kept all (drop (i + 1) all) (drop i all) a place (λ b. ap (λ cs. table_leads cs a b) from ∙ table_leads-there (get_or all i d) (drop (i + 1) all) a b apart) first

pub first_more : (all : List Constraint) (i : ℕ) (c : Constraint) (old new : Places) → i < length all → c ≡ get_or all i c → AreFirst all (drop (i + 1) all) old
    → ((a : Region) → place_of new a ≡ cond (region_eq c.longer a) (Some i) (place_of old a)) → AreFirst all (drop i all) new
first_more all i c old new within read before set a =
    let longer : c.longer ≡ (get_or all i c).longer = ap (λ (k : Constraint). k.longer) read in
    elim (cases_Bool (region_eq c.longer a)) [
      | inl e ↦
          subst (λ (p : Option ℕ). IsFirst all (drop i all) a p) (sym (set a ∙ cond-true _ _ _ e))
          (here all i c within a (sym longer ∙ region_eq-true c.longer a e))
      | inr n ↦
          subst (λ (p : Option ℕ). IsFirst all (drop i all) a p) (sym (set a ∙ cond-false _ _ _ n))
          (there all i c within a (place_of old a) (λ q. true≢false (sym (eq_true_at c.longer a (longer ∙ q)) ∙ n)) (before a))
    ]
