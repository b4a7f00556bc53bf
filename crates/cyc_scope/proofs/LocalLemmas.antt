-- The table of locals contains, for each name, the newest local with the name, also after locals are declared and removed.
use Rattle.std.proofs.Common.{◌≡◌, ℕ, suc, ◌≤◌, ◌<◌, Bool, true, false, cond, nat_eq, ◌&&◌, ◌||◌, List, [], ◌∷◌, ◌++◌, length, map, reverse, Option, Some, None, option_map, refl, sym, ap, ◌∙◌, arith}
use Rattle.std.specs.List.{slice_get}
use Rattle.std.proofs.lemmas.List.{reverse-append, reverse-reverse, length-map, length-reverse}
use Rattle.std.proofs.lemmas.Bool.{eqb-true, eq-eqb}
use Rattle.std.proofs.lemmas.Option.{same_Some}
use denote.Ref.{Bor}
use Rattle.std.specs.Slice.{IsItemAt}
use Rattle.cyc_words.proofs.Booleans.{and_false}
use Rattle.cyc_words.proofs.Lists.{get_or_within, slice_get_last, slice_get_before}
use Rattle.cyc_words.proofs.Numbers.{nat_eq-false}
use Rattle.cyc_syntax.specs.Trees.{Named}
use Rattle.cyc_types.specs.typing.Scopes.{LocalVariable, Meaning, Declared, meaning_in, local_meaning, meaning_among, is_declared_in}
use Rattle.cyc_scope.specs.declared.locals.Binding.{Binding}
use Rattle.cyc_scope.specs.inside.Marks.{Descends}
use Rattle.cyc_scope.specs.inside.Tables.{newest_place}
use Rattle.cyc_scope.specs.inside.Entries.{view_binding, locals_of, local_names, newest, Finds}
use Rattle.cyc_scope.proofs.TableLemmas.{lent, seen_through}

-- ---- lists from their end

-- ---- the newest local of a name

newest_within : (ys : List ℕ) (x i : ℕ) → newest_place ys x ≡ Some i → i < length ys
newest_within [] x i e = cc
newest_within (y ∷ ys) x i e = by_test (newest_within ys x i) (nat_eq y x) e
  where
    by_test : (newest_place ys x ≡ Some i → i < length ys) → (t : Bool) → cond t (Some (length ys)) (newest_place ys x) ≡ Some i → i < suc (length ys)
    by_test h true e = let here = same_Some (length ys) i e in omega (arith, here)
    by_test h false e = omega (arith, h e)

-- the index that the table of locals stores for a name finds the newest local with the name; the list of locals begins with the newest
place_in : (rs : List Binding) (x i : ℕ) → newest_place (local_names (map view_binding rs)) x ≡ Some i → option_map view_binding (slice_get (reverse rs) i) ≡ newest (map view_binding rs) x
place_in [] x i e = cc
place_in (r ∷ rs) x i e = by_test (place_in rs x i) (nat_eq (view_binding r).name x) e
  where
    names : List ℕ
    names = local_names (map view_binding rs)

    many : length names ≡ length (reverse rs)
    many = length-map (map view_binding rs) (λ (v : LocalVariable). v.name) ∙ length-map rs view_binding ∙ sym (length-reverse rs)

    back : reverse (r ∷ rs) ≡ reverse rs ++ r ∷ []
    back = reverse-append (r ∷ []) rs

    by_test : (newest_place names x ≡ Some i → option_map view_binding (slice_get (reverse rs) i) ≡ newest (map view_binding rs) x) → (t : Bool) → cond t (Some (length names)) (newest_place names x) ≡ Some i
        → option_map view_binding (slice_get (reverse (r ∷ rs)) i) ≡ cond t (Some (view_binding r)) (newest (map view_binding rs) x)
    by_test h true e =
        let at : i ≡ length (reverse rs) = sym (same_Some (length names) i e) ∙ many in
        ap (λ bs. option_map view_binding (slice_get bs i)) back ∙ ap (λ (k : ℕ). option_map view_binding (slice_get (reverse rs ++ r ∷ []) k)) at ∙ ap (option_map view_binding) (slice_get_last (reverse rs) r)
    by_test h false e =
        let less = newest_within names x i e in
        ap (λ bs. option_map view_binding (slice_get bs i)) back ∙ ap (option_map view_binding) (slice_get_before (reverse rs) r i (omega (arith, less, many))) ∙ h e

newest_found : (bs : List Binding) (x i : ℕ) → newest_place (local_names (locals_of bs)) x ≡ Some i → option_map view_binding (slice_get bs i) ≡ newest (locals_of bs) x
newest_found bs x i e = ap (λ cs. option_map view_binding (slice_get cs i)) (sym (reverse-reverse bs)) ∙ place_in (reverse bs) x i e

-- the index that the table stores for a name finds the newest local with the name; the result is a reference to a table entry
pub newest_lent : (bs : List Binding) (x i : ℕ) (r : Option (Bor Binding)) → newest_place (local_names (locals_of bs)) x ≡ Some i → IsItemAt bs i r
    → option_map (λ (b : Bor Binding). view_binding b.now) r ≡ newest (locals_of bs) x
newest_lent bs x i r e h = seen_through view_binding r ∙ ap (option_map view_binding) (lent bs i r h) ∙ newest_found bs x i e

pub newest_lost : (vs : List LocalVariable) (x : ℕ) → newest_place (local_names vs) x ≡ None → newest vs x ≡ None
newest_lost [] x e = refl
newest_lost (v ∷ vs) x e = by_test (newest_lost vs x) (nat_eq v.name x) e
  where
    by_test : (newest_place (local_names vs) x ≡ None → newest vs x ≡ None) → (t : Bool) → cond t (Some (length (local_names vs))) (newest_place (local_names vs) x) ≡ None → cond t (Some v) (newest vs x) ≡ None
    by_test h true e = cc
    by_test h false e = h e

-- ---- the meaning of a name

abbrev meaning_by : Option LocalVariable → Meaning → Named → Meaning
meaning_by None m x = m
meaning_by (Some v) m x = local_meaning v.sort v x.place

meaning_newest : (vs : List LocalVariable) (x : Named) (ds : List Declared) → meaning_among vs ds x ≡ meaning_by (newest vs x.name) (meaning_in ds x.name) x
meaning_newest [] x ds = refl
meaning_newest (v ∷ vs) x ds = by_test (meaning_newest vs x ds) (nat_eq v.name x.name)
  where
    by_test : meaning_among vs ds x ≡ meaning_by (newest vs x.name) (meaning_in ds x.name) x → (t : Bool)
        → cond t (local_meaning v.sort v x.place) (meaning_among vs ds x) ≡ meaning_by (cond t (Some v) (newest vs x.name)) (meaning_in ds x.name) x
    by_test h true = refl
    by_test h false = h

pub meaning_found : (vs : List LocalVariable) (x : Named) (v : LocalVariable) (ds : List Declared) → newest vs x.name ≡ Some v → meaning_among vs ds x ≡ local_meaning v.sort v x.place
meaning_found vs x v ds e = meaning_newest vs x ds ∙ ap (λ o. meaning_by o (meaning_in ds x.name) x) e

pub meaning_lost : (vs : List LocalVariable) (x : Named) (ds : List Declared) → newest vs x.name ≡ None → meaning_among vs ds x ≡ meaning_in ds x.name
meaning_lost vs x ds e = meaning_newest vs x ds ∙ ap (λ o. meaning_by o (meaning_in ds x.name) x) e

-- ---- locals of the innermost block

-- a local of an enclosing block is not declared in the innermost block
below : (q r x : ℕ) (vs : List LocalVariable) → Descends q vs → q < r → is_declared_in r vs x ≡ false
below q r x [] d lt = refl
below q r x (v ∷ vs) d lt = by_test (below v.region r x vs d.1 (omega (arith, d.0, lt))) (nat_eq v.region r) refl
  where
    by_test : is_declared_in r vs x ≡ false → (t : Bool) → nat_eq v.region r ≡ t → ((nat_eq v.name x && t) || is_declared_in r vs x) ≡ false
    by_test h true f = let g = eqb-true v.region r f in absurd (omega (arith, g, d.0, lt))
    by_test h false f = ap (λ (b : Bool). b || is_declared_in r vs x) (and_false (nat_eq v.name x)) ∙ h

pub widened : (q r : ℕ) (vs : List LocalVariable) → q ≤ r → Descends q vs → Descends r vs
widened q r [] le d = tt
widened q r (v ∷ vs) le d = (omega (arith, d.0, le), d.1)

pub declared_found : (r x : ℕ) (vs : List LocalVariable) (l : LocalVariable) → Descends r vs → newest vs x ≡ Some l → is_declared_in r vs x ≡ nat_eq l.region r
declared_found r x [] l d e = cc
declared_found r x (v ∷ vs) l d e = by_test (declared_found r x vs l (widened v.region r vs d.0 d.1)) (nat_eq v.name x) e
  where
    by_region : (t : Bool) → nat_eq v.region r ≡ t → (t || is_declared_in r vs x) ≡ t
    by_region true f = refl
    by_region false f = let g = nat_eq-false v.region r f in below v.region r x vs d.1 (omega (arith, d.0, g))

    by_test : (newest vs x ≡ Some l → is_declared_in r vs x ≡ nat_eq l.region r)
        → (t : Bool) → cond t (Some v) (newest vs x) ≡ Some l → ((t && nat_eq v.region r) || is_declared_in r vs x) ≡ nat_eq l.region r
    by_test h true e = by_region (nat_eq v.region r) refl ∙ ap (λ (k : LocalVariable). nat_eq k.region r) (same_Some v l e)
    by_test h false e = h e

pub declared_lost : (r x : ℕ) (vs : List LocalVariable) → newest vs x ≡ None → is_declared_in r vs x ≡ false
declared_lost r x [] e = refl
declared_lost r x (v ∷ vs) e = by_test (declared_lost r x vs) (nat_eq v.name x) e
  where
    by_test : (newest vs x ≡ None → is_declared_in r vs x ≡ false) → (t : Bool) → cond t (Some v) (newest vs x) ≡ None → ((t && nat_eq v.region r) || is_declared_in r vs x) ≡ false
    by_test h true e = cc
    by_test h false e = h e

-- ---- removing a local

-- the number that identifies the name of the oldest local in scope is a valid index of the table of locals
pub local_in_range : (table : List (Option ℕ)) (bs old : List Binding) (b : Binding) → Finds table old → old ≡ bs ++ b ∷ [] → b.local.name < length table
local_in_range table bs old b f e =
    get_or_within table b.local.name (length (local_names (locals_of bs)))
    (f.0 b.local.name ∙ ap (λ vs. newest_place (local_names vs) b.local.name) front
    ∙ ap (λ t. cond t (Some (length (local_names (locals_of bs)))) (newest_place (local_names (locals_of bs)) b.local.name)) (eq-eqb b.local.name b.local.name refl))
  where
    front : locals_of old ≡ view_binding b ∷ locals_of bs
    front = ap locals_of e ∙ ap (map view_binding) (reverse-append bs (b ∷ []))
