-- For each name, the table stores the index of the first declaration with the name in a list of declarations.
use Rattle.std.proofs.Common.{◌≡◌, ◌≢◌, ℕ, suc, ◌<◌, Bool, true, false, cond, nat_eq, List, [], ◌∷◌, ◌++◌, length, map, set, get_or, Option, Some, None, option_map, refl, sym, ap, ◌∙◌, arith}
use Rattle.std.specs.List.{slice_get}
use Rattle.std.proofs.lemmas.Bool.{eqb-true, eq-eqb}
use Rattle.std.proofs.lemmas.List.{get_or-set_same, get_or-set_other}
use Rattle.std.proofs.lemmas.Option.{same_Some, slice_get-get_or, slice_get_past}
use denote.Ref.{Bor}
use Rattle.std.specs.Slice.{IsItemAt}
use Rattle.cyc_words.proofs.Options.{option_map-cond}
use Rattle.cyc_types.specs.typing.Scopes.{Exception, Declared, meaning_in}
use Rattle.cyc_types.specs.typing.Statements.{exception_among, exception_number}
use Rattle.cyc_scope.specs.inside.Tables.{first_place, first_by, exception_names, first_declared, meaning_by}

-- ---- one more name at the end

pub first_known : (ys : List ℕ) (y x i : ℕ) → first_place ys x ≡ Some i → first_place (ys ++ y ∷ []) x ≡ Some i
first_known [] y x i e = cc
first_known (z ∷ ys) y x i e = by_test (first_known ys y x) (nat_eq z x) e
  where
    by_place : ((j : ℕ) → first_place ys x ≡ Some j → first_place (ys ++ y ∷ []) x ≡ Some j) → (o : Option ℕ) → first_place ys x ≡ o
        → option_map suc o ≡ Some i → option_map suc (first_place (ys ++ y ∷ []) x) ≡ Some i
    by_place h None f e = cc
    by_place h (Some j) f e = ap (option_map suc) (h j f) ∙ e

    by_test : ((j : ℕ) → first_place ys x ≡ Some j → first_place (ys ++ y ∷ []) x ≡ Some j) → (t : Bool)
        → cond t (Some 0) (option_map suc (first_place ys x)) ≡ Some i → cond t (Some 0) (option_map suc (first_place (ys ++ y ∷ []) x)) ≡ Some i
    by_test h true e = e
    by_test h false e = by_place h (first_place ys x) refl e

pub first_new : (ys : List ℕ) (y x : ℕ) → first_place ys x ≡ None → first_place (ys ++ y ∷ []) x ≡ cond (nat_eq y x) (Some (length ys)) None
first_new [] y x e = refl
first_new (z ∷ ys) y x e = by_test (first_new ys y x) (nat_eq z x) e
  where
    by_place : (first_place ys x ≡ None → first_place (ys ++ y ∷ []) x ≡ cond (nat_eq y x) (Some (length ys)) None) → (o : Option ℕ) → first_place ys x ≡ o
        → option_map suc o ≡ None → option_map suc (first_place (ys ++ y ∷ []) x) ≡ cond (nat_eq y x) (Some (suc (length ys))) None
    by_place h None f e = ap (option_map suc) (h f) ∙ option_map-cond (length ys) (nat_eq y x)
    by_place h (Some j) f e = cc

    by_test : (first_place ys x ≡ None → first_place (ys ++ y ∷ []) x ≡ cond (nat_eq y x) (Some (length ys)) None) → (t : Bool)
        → cond t (Some 0) (option_map suc (first_place ys x)) ≡ None → cond t (Some 0) (option_map suc (first_place (ys ++ y ∷ []) x)) ≡ cond (nat_eq y x) (Some (suc (length ys))) None
    by_test h true e = cc
    by_test h false e = by_place h (first_place ys x) refl e

first_old : (ys : List ℕ) (y x : ℕ) → nat_eq y x ≡ false → first_place (ys ++ y ∷ []) x ≡ first_place ys x
first_old ys y x f = by_place (first_place ys x) refl
  where
    by_place : (o : Option ℕ) → first_place ys x ≡ o → first_place (ys ++ y ∷ []) x ≡ first_place ys x
    by_place None e = first_new ys y x e ∙ ap (λ t. cond t (Some (length ys)) None) f ∙ sym e
    by_place (Some i) e = first_known ys y x i e ∙ sym e

-- storing a name that is new to the table keeps the table correct in which each name has the index of its first declaration
pub set_first : (table : List (Option ℕ)) (ys : List ℕ) (y n x : ℕ) → n ≡ length ys → y < length table → ((z : ℕ) → get_or table z None ≡ first_place ys z) → first_place ys y ≡ None
    → get_or (set table y (Some n)) x None ≡ first_place (ys ++ y ∷ []) x
set_first table ys y n x at lt finds none = by_test (nat_eq y x) refl
  where
    other : nat_eq y x ≡ false → x ≢ y
    other f e = let g = eq-eqb y x (sym e) in cc

    by_test : (t : Bool) → nat_eq y x ≡ t → get_or (set table y (Some n)) x None ≡ first_place (ys ++ y ∷ []) x
    by_test true f =
        let same : y ≡ x = eqb-true y x f in
        ap (λ (i : ℕ). get_or (set table y (Some n)) i None) (sym same) ∙ get_or-set_same table y (Some n) None lt ∙ ap (λ (m : ℕ). Some m) at
        ∙ sym (first_new ys y x (ap (first_place ys) (sym same) ∙ none) ∙ ap (λ t. cond t (Some (length ys)) None) f)
    by_test false f = get_or-set_other table y x (Some n) None (other f) ∙ finds x ∙ sym (first_old ys y x f)

-- the table that maps each name to its first declaration needs no change when a name that it already contains is declared again
pub keep_first : (table : List (Option ℕ)) (ys : List ℕ) (y i x : ℕ) → ((z : ℕ) → get_or table z None ≡ first_place ys z) → first_place ys y ≡ Some i → get_or table x None ≡ first_place (ys ++ y ∷ []) x
keep_first table ys y i x finds known = by_test (nat_eq y x) refl
  where
    by_test : (t : Bool) → nat_eq y x ≡ t → get_or table x None ≡ first_place (ys ++ y ∷ []) x
    by_test true f =
        let here : first_place ys x ≡ Some i = ap (first_place ys) (sym (eqb-true y x f)) ∙ known in
        finds x ∙ here ∙ sym (first_known ys y x i here)
    by_test false f = finds x ∙ sym (first_old ys y x f)

-- ---- the entry at the index of a name

module _ {A : Type 0} (name : A → ℕ) where
  pub first_found : (as' : List A) (x i : ℕ) → first_place (map name as') x ≡ Some i → slice_get as' i ≡ first_by name as' x
  first_found [] x i e = cc
  first_found (a ∷ as') x i e = by_test (first_found as' x) (nat_eq (name a) x) e
    where
      by_place : ((j : ℕ) → first_place (map name as') x ≡ Some j → slice_get as' j ≡ first_by name as' x) → (o : Option ℕ) → first_place (map name as') x ≡ o
          → option_map suc o ≡ Some i → slice_get (a ∷ as') i ≡ first_by name as' x
      by_place h None f e = cc
      by_place h (Some j) f e = ap (slice_get (a ∷ as')) (sym (same_Some (suc j) i e)) ∙ h j f

      by_test : ((j : ℕ) → first_place (map name as') x ≡ Some j → slice_get as' j ≡ first_by name as' x) → (t : Bool)
          → cond t (Some 0) (option_map suc (first_place (map name as') x)) ≡ Some i → slice_get (a ∷ as') i ≡ cond t (Some a) (first_by name as' x)
      by_test h true e = ap (slice_get (a ∷ as')) (sym (same_Some 0 i e))
      by_test h false e = by_place h (first_place (map name as') x) refl e

  pub first_lost : (as' : List A) (x : ℕ) → first_place (map name as') x ≡ None → first_by name as' x ≡ None
  first_lost [] x e = refl
  first_lost (a ∷ as') x e = by_test (first_lost as' x) (nat_eq (name a) x) e
    where
      by_place : (first_place (map name as') x ≡ None → first_by name as' x ≡ None) → (o : Option ℕ) → first_place (map name as') x ≡ o → option_map suc o ≡ None → first_by name as' x ≡ None
      by_place h None f e = h f
      by_place h (Some j) f e = cc

      by_test : (first_place (map name as') x ≡ None → first_by name as' x ≡ None) → (t : Bool)
          → cond t (Some 0) (option_map suc (first_place (map name as') x)) ≡ None → cond t (Some a) (first_by name as' x) ≡ None
      by_test h true e = cc
      by_test h false e = by_place h (first_place (map name as') x) refl e

-- ---- a borrowed element

pub lent : {A : Type 0} (xs : List A) (i : ℕ) (r : Option (Bor A)) → IsItemAt xs i r → option_map (λ (x : Bor A). x.now) r ≡ slice_get xs i
lent xs i None h = sym (slice_get_past xs i h.3)
lent xs i (Some x) h = ap Some h.1 ∙ sym (slice_get-get_or xs i x.now h.3.0)

pub seen_through : {A B : Type 0} (f : A → B) (r : Option (Bor A)) → option_map (λ (x : Bor A). f x.now) r ≡ option_map f (option_map (λ (x : Bor A). x.now) r)
seen_through f None = refl
seen_through f (Some x) = refl

-- ---- functions and globals

pub meaning_first : (ds : List Declared) (x : ℕ) → meaning_in ds x ≡ meaning_by (first_declared ds x)
meaning_first [] x = refl
meaning_first (d ∷ ds) x = by_test (meaning_first ds x) (nat_eq d.name x)
  where
    by_test : meaning_in ds x ≡ meaning_by (first_declared ds x) → (t : Bool) → cond t d.meaning (meaning_in ds x) ≡ meaning_by (cond t (Some d) (first_declared ds x))
    by_test h true = refl
    by_test h false = h

-- ---- exceptions

pub among_first : (es : List Exception) (x : ℕ) → exception_among es x ≡ option_map (λ (e : Exception). e.has_int) (first_by (λ (e : Exception). e.name) es x)
among_first [] x = refl
among_first (e ∷ es) x = by_test (among_first es x) (nat_eq e.name x)
  where
    by_test : exception_among es x ≡ option_map (λ (e : Exception). e.has_int) (first_by (λ (e : Exception). e.name) es x) → (t : Bool)
        → cond t (Some e.has_int) (exception_among es x) ≡ option_map (λ (e : Exception). e.has_int) (cond t (Some e) (first_by (λ (e : Exception). e.name) es x))
    by_test h true = refl
    by_test h false = h

-- the number that identifies an exception is one more than the index of the first declaration with its name
pub number_first : (es : List Exception) (x i : ℕ) → first_place (exception_names es) x ≡ Some i → exception_number es x ≡ suc i
number_first [] x i e = cc
number_first (c ∷ es) x i e = by_test (number_first es x) (nat_eq c.name x) e
  where
    by_place : ((j : ℕ) → first_place (exception_names es) x ≡ Some j → exception_number es x ≡ suc j) → (o : Option ℕ) → first_place (exception_names es) x ≡ o
        → option_map suc o ≡ Some i → suc (exception_number es x) ≡ suc i
    by_place h None f e = cc
    by_place h (Some j) f e = ap suc (h j f ∙ same_Some (suc j) i e)

    by_test : ((j : ℕ) → first_place (exception_names es) x ≡ Some j → exception_number es x ≡ suc j) → (t : Bool)
        → cond t (Some 0) (option_map suc (first_place (exception_names es) x)) ≡ Some i → cond t 1 (suc (exception_number es x)) ≡ suc i
    by_test h true e = ap suc (same_Some 0 i e)
    by_test h false e = by_place h (first_place (exception_names es) x) refl e

pub first_within : (ys : List ℕ) (x i : ℕ) → first_place ys x ≡ Some i → i < length ys
first_within [] x i e = cc
first_within (y ∷ ys) x i e = by_test (first_within ys x) (nat_eq y x) e
  where
    by_place : ((j : ℕ) → first_place ys x ≡ Some j → j < length ys) → (o : Option ℕ) → first_place ys x ≡ o → option_map suc o ≡ Some i → i < suc (length ys)
    by_place h None f e = cc
    by_place h (Some j) f e = let less = h j f in let at = same_Some (suc j) i e in omega (arith, less, at)

    by_test : ((j : ℕ) → first_place ys x ≡ Some j → j < length ys) → (t : Bool) → cond t (Some 0) (option_map suc (first_place ys x)) ≡ Some i → i < suc (length ys)
    by_test h true e = let at = same_Some 0 i e in omega (arith, at)
    by_test h false e = by_place h (first_place ys x) refl e
