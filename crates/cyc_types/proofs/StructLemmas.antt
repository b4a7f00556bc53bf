-- The table of structs maps each name to the first struct that was declared with this name.
use Rattle.std.proofs.Common.{◌≡◌, ◌≢◌, ℕ, suc, ◌+◌, Bool, true, false, cond, nat_eq, List, [], ◌∷◌, ◌++◌, length, set, get_or, ◌<◌, Option, Some, None, refl, sym, ap, ◌∙◌, arith}
use Rattle.std.proofs.lemmas.Bool.{eqb-true, eq-eqb}
use Rattle.std.proofs.lemmas.List.{get_or-set_same, get_or-set_other}
use Rattle.cyc_types.specs.declared.structs.Known.{Known}
use Rattle.cyc_types.specs.typing.Scopes.{StructName}
use Rattle.cyc_types.specs.typing.Formation.{struct_number, parameters_among}
use Rattle.cyc_types.specs.inside.StructTables.{known_from}

number_from : (n : ℕ) (ss : List StructName) (x : ℕ) (k : Known) → known_from n ss x ≡ Some k → k.number ≡ n + struct_number ss x
number_from n [] x k e = cc
number_from n (s ∷ ss) x k e = by_test (number_from (suc n) ss x k) (nat_eq s.name x) e
  where
    by_test : (known_from (suc n) ss x ≡ Some k → k.number ≡ suc n + struct_number ss x)
        → (t : Bool) → cond t (Some (record { number = n; parameters = s.parameters })) (known_from (suc n) ss x) ≡ Some k → k.number ≡ n + cond t 0 (suc (struct_number ss x))
    by_test h true e =
        let number : Option Known → ℕ = λ o. elim o as (λ _. ℕ) [ None ↦ 0 | Some k ↦ k.number ] in
        let same : n ≡ k.number = ap number e in
        omega (arith, same)
    by_test h false e = omega (arith, h e)

pub number_found : (ss : List StructName) (x : ℕ) (k : Known) → known_from 0 ss x ≡ Some k → k.number ≡ struct_number ss x
number_found ss x k e = omega (arith, number_from 0 ss x k e)

lost_from : (n : ℕ) (ss : List StructName) (x : ℕ) → known_from n ss x ≡ None → (length ss ≡ struct_number ss x) × (parameters_among ss x ≡ None)
lost_from n [] x e = (refl, refl)
lost_from n (s ∷ ss) x e = by_test (lost_from (suc n) ss x) (nat_eq s.name x) e
  where
    by_test : (known_from (suc n) ss x ≡ None → (length ss ≡ struct_number ss x) × (parameters_among ss x ≡ None))
        → (t : Bool) → cond t (Some (record { number = n; parameters = s.parameters })) (known_from (suc n) ss x) ≡ None
        → (suc (length ss) ≡ cond t 0 (suc (struct_number ss x))) × (cond t (Some s.parameters) (parameters_among ss x) ≡ None)
    by_test h true e = cc
    by_test h false e = let (l, p) = h e in (ap suc l, p)

pub number_lost : (ss : List StructName) (x : ℕ) → known_from 0 ss x ≡ None → length ss ≡ struct_number ss x
number_lost ss x e = (lost_from 0 ss x e).0

pub parameters_lost : (ss : List StructName) (x : ℕ) → known_from 0 ss x ≡ None → parameters_among ss x ≡ None
parameters_lost ss x e = (lost_from 0 ss x e).1

parameters_from : (n : ℕ) (ss : List StructName) (x : ℕ) (k : Known) → known_from n ss x ≡ Some k → parameters_among ss x ≡ Some k.parameters
parameters_from n [] x k e = cc
parameters_from n (s ∷ ss) x k e = by_test (parameters_from (suc n) ss x k) (nat_eq s.name x) e
  where
    by_test : (known_from (suc n) ss x ≡ Some k → parameters_among ss x ≡ Some k.parameters)
        → (t : Bool) → cond t (Some (record { number = n; parameters = s.parameters })) (known_from (suc n) ss x) ≡ Some k → cond t (Some s.parameters) (parameters_among ss x) ≡ Some k.parameters
    by_test h true e =
        let many : Option Known → Option ℕ = λ o. elim o as (λ _. Option ℕ) [ None ↦ None | Some k ↦ Some k.parameters ] in
        ap many e
    by_test h false e = h e

pub parameters_found : (ss : List StructName) (x : ℕ) (k : Known) → known_from 0 ss x ≡ Some k → parameters_among ss x ≡ Some k.parameters
parameters_found ss x k e = parameters_from 0 ss x k e

-- ---- one more struct at the end

more_from : (n : ℕ) (ss : List StructName) (s : StructName) (x : ℕ) (k : Known) → known_from n ss x ≡ Some k → known_from n (ss ++ s ∷ []) x ≡ Some k
more_from n [] s x k e = cc
more_from n (r ∷ ss) s x k e = by_test (more_from (suc n) ss s x k) (nat_eq r.name x) e
  where
    by_test : (known_from (suc n) ss x ≡ Some k → known_from (suc n) (ss ++ s ∷ []) x ≡ Some k)
        → (t : Bool) → cond t (Some (record { number = n; parameters = r.parameters })) (known_from (suc n) ss x) ≡ Some k → cond t (Some (record { number = n; parameters = r.parameters })) (known_from (suc n) (ss ++ s ∷ []) x) ≡ Some k
    by_test h true e = e
    by_test h false e = h e

new_from : (n : ℕ) (ss : List StructName) (s : StructName) (x : ℕ) → known_from n ss x ≡ None
    → known_from n (ss ++ s ∷ []) x ≡ cond (nat_eq s.name x) (Some (record { number = n + length ss; parameters = s.parameters })) None
new_from n [] s x e = let next : n ≡ n + 0 = omega arith in ap (λ (m : ℕ). cond (nat_eq s.name x) (Some (record { number = m; parameters = s.parameters })) None) next
new_from n (r ∷ ss) s x e = by_test (new_from (suc n) ss s x) (nat_eq r.name x) e
  where
    by_test : (known_from (suc n) ss x ≡ None → known_from (suc n) (ss ++ s ∷ []) x ≡ cond (nat_eq s.name x) (Some (record { number = suc n + length ss; parameters = s.parameters })) None)
        → (t : Bool) → cond t (Some (record { number = n; parameters = r.parameters })) (known_from (suc n) ss x) ≡ None
        → cond t (Some (record { number = n; parameters = r.parameters })) (known_from (suc n) (ss ++ s ∷ []) x) ≡ cond (nat_eq s.name x) (Some (record { number = n + suc (length ss); parameters = s.parameters })) None
    by_test h true e = cc
    by_test h false e = let next : suc n + length ss ≡ n + suc (length ss) = omega arith in h e ∙ ap (λ (m : ℕ). cond (nat_eq s.name x) (Some (record { number = m; parameters = s.parameters })) None) next

old_from : (ss : List StructName) (s : StructName) (x : ℕ) → nat_eq s.name x ≡ false → known_from 0 (ss ++ s ∷ []) x ≡ known_from 0 ss x
old_from ss s x f = by_result (known_from 0 ss x) refl
  where
    by_result : (o : Option Known) → known_from 0 ss x ≡ o → known_from 0 (ss ++ s ∷ []) x ≡ known_from 0 ss x
    by_result None e = new_from 0 ss s x e ∙ ap (λ t. cond t (Some (record { number = 0 + length ss; parameters = s.parameters })) None) f ∙ sym e
    by_result (Some k) e = more_from 0 ss s x k e ∙ sym e

pub set_known : (table : List (Option Known)) (ss : List StructName) (s : StructName) (n x : ℕ) → n ≡ length ss → s.name < length table → ((y : ℕ) → get_or table y None ≡ known_from 0 ss y) → get_or table s.name None ≡ None
    → get_or (set table s.name (Some (record { number = n; parameters = s.parameters }))) x None ≡ known_from 0 (ss ++ s ∷ []) x
set_known table ss s n x at lt finds none = by_test (nat_eq s.name x) refl
  where
    other : nat_eq s.name x ≡ false → x ≢ s.name
    other f e = let g = eq-eqb s.name x (sym e) in cc

    by_test : (t : Bool) → nat_eq s.name x ≡ t → get_or (set table s.name (Some (record { number = n; parameters = s.parameters }))) x None ≡ known_from 0 (ss ++ s ∷ []) x
    by_test true f =
        let same : s.name ≡ x = eqb-true s.name x f in
        let next : n ≡ 0 + length ss = omega (arith, at) in
        ap (λ (i : ℕ). get_or (set table s.name (Some (record { number = n; parameters = s.parameters }))) i None) (sym same) ∙ get_or-set_same table s.name (Some (record { number = n; parameters = s.parameters })) None lt
        ∙ ap (λ (m : ℕ). Some (record { number = m; parameters = s.parameters })) next
        ∙ sym (new_from 0 ss s x (ap (known_from 0 ss) (sym same) ∙ sym (finds s.name) ∙ none) ∙ ap (λ t. cond t (Some (record { number = 0 + length ss; parameters = s.parameters })) None) f)
    by_test false f = get_or-set_other table s.name x (Some (record { number = n; parameters = s.parameters })) None (other f) ∙ finds x ∙ sym (old_from ss s x f)

pub old_known : (table : List (Option Known)) (ss : List StructName) (s : StructName) (k : Known) (x : ℕ) → ((y : ℕ) → get_or table y None ≡ known_from 0 ss y) → known_from 0 ss s.name ≡ Some k → get_or table x None ≡ known_from 0 (ss ++ s ∷ []) x
old_known table ss s k x finds known = by_test (nat_eq s.name x) refl
  where
    by_test : (t : Bool) → nat_eq s.name x ≡ t → get_or table x None ≡ known_from 0 (ss ++ s ∷ []) x
    by_test true f =
        let here : known_from 0 ss x ≡ Some k = ap (known_from 0 ss) (sym (eqb-true s.name x f)) ∙ known in
        finds x ∙ here ∙ sym (more_from 0 ss s x k here)
    by_test false f = finds x ∙ sym (old_from ss s x f)
