-- Values that fit the parameters of a signature: the regions that the traversal of parameters and values has
-- recorded, and the traversal's result.
use Rattle.std.proofs.Common.{◌≡◌, ℕ, zero, suc, ◌+◌, ◌<◌, ◌≤◌, true, false, ◌&&◌, nat_eq, not, List, [], ◌∷◌, ◌++◌, length, map, drop, get_or, slice_get, slice_set, replicate, Option, Some, None, Ok, refl, sym, ap, subst, ◌∙◌}
use Rattle.std.specs.List.{list_any}
use Rattle.std.proofs.lemmas.Bool.{and_from, eq-eqb, or_from}
use Rattle.std.proofs.lemmas.List.{drop_all, drop_more}
use Rattle.cyc_words.proofs.Lists.{drop_read}
use Rattle.cyc_words.specs.declared.fault.Fault.{Fault}
use Rattle.cyc_words.specs.declared.fault.Code.TheVariants as codes
use Rattle.cyc_words.proofs.Searches.{any-push_turned}
use Rattle.cyc_syntax.specs.Symbols.{Place}
use Rattle.cyc_syntax.specs.Trees.{Expressions, NoExpressions, MoreExpressions, place_of}
use Rattle.cyc_syntax.specs.declared.tree.PointerKind.{PointerKind}
use Rattle.cyc_types.specs.declared.region.Region.{Region}
use Rattle.cyc_types.specs.declared.region.Region.TheVariants.{Heap, Unique, Variable}
use Rattle.cyc_types.specs.Outlives.{RegionContext}
use Rattle.cyc_types.specs.Types.{region_eq, substituted_region, Ty, Pointer, Handle, Key, Struct, Value, substituted_ty}
use Rattle.cyc_types.specs.declared.ty.Ty.{Ty as TyCode}
use Rattle.cyc_types.specs.declared.typed.Converted.{Converted as ConvertedCode}
use Rattle.cyc_types.specs.TypeView.{view_ty}
use Rattle.cyc_types.specs.TypedTrees.{Signature, type_of}
use Rattle.cyc_types.specs.TypedTrees as typed
use Rattle.cyc_types.specs.Rules.{Demand, AllKept, demand, noted, settled, unless, run}
use Rattle.cyc_types.specs.typing.Scopes.{Scope}
use Rattle.cyc_types.specs.typing.Tests.{mark_eq, regions_eq, ty_eq}
use Rattle.cyc_types.specs.typing.Expressions.{conversion, passed_demanded, all_paired, paired, paired_argument, paired_arguments, is_unique_for_variable, variables_demanded, instance_of, instantiated, call_demanded}
use Rattle.cyc_types.proofs.RuleLaws.{kept_settled, settled_append, from_ok, ok_is_no_err}
use Rattle.cyc_operands.specs.inside.Operands.{value_in}
use Rattle.cyc_calls.specs.inside.Instances.{noted_at, noted_place, noted_places, instance_in}
use Rattle.cyc_calls.specs.inside.Calls.{regions_demanded, instance_wanted}
use Rattle.cyc_calls.specs.inside.Fitting.{instance_later, AllStand, Stands, FitsRegion, FitsRegions, FitsType, FitsOutermost, FitsValue, FitsValues, FitsCall}
use Rattle.cyc_calls.proofs.Instances.{noted_append, noted_before, instance_at, instance_found}

abbrev pub Table : Type 0
Table = List (Option Region)

abbrev pub Places : Type 0
Places = List (Region × Region)

-- ---- noted regions remain

noted_here : (table : Table) (n : ℕ) (o p : Option Region) → slice_get table n ≡ Some o → slice_get (slice_set table n p) n ≡ Some p
noted_here [] n o p h = absurd (cc)
noted_here (x ∷ xs) zero o p h = refl
noted_here (x ∷ xs) (suc n) o p h = noted_here xs n o p h

noted_after : (o : Option Region) (os : Table) (k : Option (Option Region)) (m : ℕ) (r : Region) → noted_at k (suc m) r (o ∷ os) ≡ o ∷ noted_at k m r os
noted_after o os None m r = refl
noted_after o os (Some None) m r = refl
noted_after o os (Some (Some s)) m r = refl

stays_at : (table : Table) (m n : ℕ) (r s : Region) → slice_get table n ≡ Some (Some s) → slice_get (noted_at (slice_get table m) m r table) n ≡ Some (Some s)
stays_at [] m n r s h = absurd (cc)
stays_at (Some q ∷ os) zero n r s h = h
stays_at (None ∷ os) zero zero r s h = absurd (cc)
stays_at (None ∷ os) zero (suc n) r s h = h
stays_at (o ∷ os) (suc m) zero r s h = ap (λ t. slice_get t 0) (noted_after o os (slice_get os m) m r) ∙ h
stays_at (o ∷ os) (suc m) (suc n) r s h = ap (λ t. slice_get t (suc n)) (noted_after o os (slice_get os m) m r) ∙ stays_at os m n r s h

stays_one : (table : Table) (p : Region × Region) (n : ℕ) (s : Region) → slice_get table n ≡ Some (Some s) → slice_get (noted_place table p) n ≡ Some (Some s)
stays_one table (Heap, r) n s h = h
stays_one table (Unique, r) n s h = h
stays_one table (Variable m, r) n s h = stays_at table m n r s h

noted_stays : (table : Table) (ps : Places) (n : ℕ) (s : Region) → slice_get table n ≡ Some (Some s) → slice_get (noted_places table ps) n ≡ Some (Some s)
noted_stays table [] n s h = h
noted_stays table (p ∷ ps) n s h = noted_stays (noted_place table p) ps n s (stays_one table p n s h)

-- Once a region is recorded for a region variable, the variable keeps it.
found_later : (table : Table) (n : ℕ) (s : Region) → slice_get table n ≡ Some (Some s) → (later : Places) → substituted_region (instance_later table later) (Variable n) ≡ s
found_later table n s h later = instance_at (noted_places table later) n (Some s) (Variable n) (noted_stays table later n s h)

-- ---- one region

usual_variable : (n : ℕ) (s : Region) → region_eq s Unique ≡ false → is_unique_for_variable (Variable n, s) ≡ false
usual_variable n s h = h

-- If a region occurs at a region variable whose region is already recorded, the recorded region stays in the table.
pub stands_known : (table : Table) (n : ℕ) (s known : Region) → slice_get table n ≡ Some (Some known) → region_eq s Unique ≡ false → Stands table table (Variable n) s known
stands_known table n s known h other = record {
  noted = sym (ap (λ o. noted_at o n s table) h);
  found = found_later table n known h;
  usual = usual_variable n s other;
}

-- At the first occurrence of a region variable in the parameter types, the table records for the variable the argument's region at this
-- occurrence.
pub first_stands : (table : Table) (n : ℕ) (s : Region) → slice_get table n ≡ Some None → region_eq s Unique ≡ false → Stands table (slice_set table n (Some s)) (Variable n) s s
first_stands table n s h other = record {
  noted = sym (ap (λ o. noted_at o n s table) h);
  found = found_later (slice_set table n (Some s)) n s (noted_here table n None (Some s) h);
  usual = usual_variable n s other;
}

-- If an argument's region fits a parameter's region, it still fits after the table also records the
-- regions at later occurrences of region variables.
alike_after : {a b c : Table} {r s : Region} (ps : Places) → FitsRegion a b r s → c ≡ noted_places b ps → (later : Places) → region_eq s (substituted_region (instance_later c later) r) ≡ true
alike_after {b = b} {r = r} {s = s} ps one is_c later =
    subst (λ t. region_eq s (substituted_region (instance_in t) r) ≡ true) (noted_append b ps later ∙ ap (λ t. noted_places t later) (sym is_c)) (one.alike (ps ++ later))

-- ---- the regions of structs

pub fits_none : (table : Table) → FitsRegions table table [] []
fits_none table = record { noted = refl; alike = λ later. refl; stand = tt; usual = refl }

pub fits_more : {a b c : Table} {r s : Region} {rs ss : List Region} → FitsRegion a b r s → FitsRegions b c rs ss → FitsRegions a c (r ∷ rs) (s ∷ ss)
fits_more {a} {b} {c} {r} {s} {rs} {ss} one more = record {
  noted = more.noted ∙ ap (λ t. noted_places t (all_paired rs ss)) one.noted;
  alike = λ later.
      and_from (region_eq s (substituted_region (instance_later c later) r)) (regions_eq ss (map (substituted_region (instance_later c later)) rs))
      (alike_after (all_paired rs ss) one more.noted later) (more.alike later);
  stand = (alike_after (all_paired rs ss) one more.noted [], more.stand);
  usual = or_from (is_unique_for_variable (r, s)) (list_any is_unique_for_variable (all_paired rs ss)) one.usual more.usual;
}

-- ---- types

pub fits_handle : {a b : Table} {r s : Region} → FitsRegion a b r s → FitsType a b (Handle r) (Handle s)
fits_handle {r = r} {s = s} one = record { noted = one.noted; alike = one.alike; stand = (one.alike [], tt); usual = or_from (is_unique_for_variable (r, s)) false one.usual refl }

pub fits_key : {a b : Table} {r s : Region} → FitsRegion a b r s → FitsType a b (Key r) (Key s)
fits_key {r = r} {s = s} one = record { noted = one.noted; alike = one.alike; stand = (one.alike [], tt); usual = or_from (is_unique_for_variable (r, s)) false one.usual refl }

pub fits_struct : {a b : Table} {m n : ℕ} {rs ss : List Region} → nat_eq m n ≡ true → FitsRegions a b rs ss → FitsType a b (Struct n rs) (Struct m ss)
fits_struct {a} {b} {m} {n} {rs} {ss} same all = record {
  noted = all.noted;
  alike = λ later. and_from (nat_eq m n) (regions_eq ss (map (substituted_region (instance_later b later)) rs)) same (all.alike later);
  stand = all.stand;
  usual = all.usual;
}

all_stand : (m : List Region) (ps qs : Places) → AllStand m ps → AllStand m qs → AllStand m (ps ++ qs)
all_stand m [] qs h k = k
all_stand m (p ∷ ps) qs h k = (h.0, all_stand m ps qs h.1 k)

pub fits_pointer : {a b c : Table} {k l : PointerKind} {t u : Ty} {r s : Region} → mark_eq l k ≡ true → FitsRegion a b r s → FitsType b c t u → FitsType a c (Pointer k t r) (Pointer l u s)
fits_pointer {a} {b} {c} {k} {l} {t} {u} {r} {s} same one target = record {
  noted = target.noted ∙ ap (λ table. noted_places table (paired t u)) one.noted
      ∙ noted_before (instance_in c) a (r, s) (paired t u) (alike_after (paired t u) one target.noted []) target.stand ∙ sym (noted_append a (paired t u) ((r, s) ∷ []));
  alike = λ later.
      and_from (mark_eq l k) (ty_eq u (substituted_ty (instance_later c later) t) && region_eq s (substituted_region (instance_later c later) r)) same
      (and_from (ty_eq u (substituted_ty (instance_later c later) t)) (region_eq s (substituted_region (instance_later c later) r))
      (target.alike later) (alike_after (paired t u) one target.noted later));
  stand = all_stand (instance_in c) (paired t u) ((r, s) ∷ []) target.stand (alike_after (paired t u) one target.noted [], tt);
  usual = any-push_turned is_unique_for_variable (paired t u) (r, s)
      ∙ or_from (is_unique_for_variable (r, s)) (list_any is_unique_for_variable (paired t u)) one.usual target.usual;
}

-- ---- values

module _ (c : RegionContext) where
  pub fits_given_pointer : {a b d : Table} {k l : PointerKind} {t u : Ty} {r s : Region} → FitsType a b t u → FitsOutermost c b d r s → FitsValue c a d (Pointer k t r) (Value (Pointer l u s))
  fits_given_pointer {a} {b} {d} {k} {l} {t} {u} {r} {s} target st = record {
    noted = st.noted ∙ ap (λ table. noted_place table (r, s)) target.noted ∙ sym (noted_append a (paired t u) ((r, s) ∷ []));
    kept = λ later p. (
      subst (λ table. ty_eq u (substituted_ty (instance_in (noted_places table later)) t) ≡ true) (sym st.noted) (target.alike ((r, s) ∷ later)),
      (refl, (st.outlived later, tt)),
    );
    usual = any-push_turned is_unique_for_variable (paired t u) (r, s)
        ∙ or_from (is_unique_for_variable (r, s)) (list_any is_unique_for_variable (paired t u)) st.usual target.usual;
  }

  -- ---- all values

  kept_both : (ds es : List Demand) → AllKept ds → AllKept es → AllKept (ds ++ es)
  kept_both [] es h k = k
  kept_both (d ∷ ds) es h k = (h.0, kept_both ds es h.1 k)

  pub fits_no_value : (table : Table) → FitsValues c table table [] []
  fits_no_value table = record {
    noted = refl;
    count = refl;
    passed = λ later es. none es;
    varied = λ es. no_variable es;
  }
    where
      none : (es : Expressions) → AllKept (passed_demanded c es [] [])
      none NoExpressions = tt
      none (MoreExpressions e es) = tt

      no_variable : (es : Expressions) → AllKept (variables_demanded es [] [])
      no_variable NoExpressions = tt
      no_variable (MoreExpressions e es) = tt

  pub fits_more_values : {old mid new : Table} {t : Ty} {a : typed.Expression} {ts : List Ty} {as' : List typed.Expression}
      → FitsValue c old mid t (type_of a) → FitsValues c mid new ts as' → FitsValues c old new (t ∷ ts) (a ∷ as')
  fits_more_values {old} {mid} {new} {t} {a} {ts} {as'} one more = record {
    noted = more.noted ∙ ap (λ table. noted_places table (paired_arguments ts as')) one.noted ∙ sym (noted_append old (paired_argument t (type_of a)) (paired_arguments ts as'));
    count = ap suc more.count;
    passed = λ later es. all_passed later es;
    varied = λ es. all_varied es;
  }
    where
      all_passed : (later : Places) (es : Expressions) → AllKept (passed_demanded c es (a ∷ as') (map (substituted_ty (instance_later new later)) (t ∷ ts)))
      all_passed later NoExpressions = tt
      all_passed later (MoreExpressions e es) =
          kept_both (conversion c (type_of a) (substituted_ty (instance_later new later) t) (place_of e)) (passed_demanded c es as' (map (substituted_ty (instance_later new later)) ts))
          (subst (λ table. AllKept (conversion c (type_of a) (substituted_ty (instance_in table) t) (place_of e)))
          (noted_append mid (paired_arguments ts as') later ∙ ap (λ table. noted_places table later) (sym more.noted)) (one.kept (paired_arguments ts as' ++ later) (place_of e)))
          (more.passed later es)

      all_varied : (es : Expressions) → AllKept (variables_demanded es (a ∷ as') (t ∷ ts))
      all_varied NoExpressions = tt
      all_varied (MoreExpressions e es) = (ap not one.usual, more.varied es)

-- ---- loops

-- If the region at an index fits that of a parameter's type, and the regions after the index fit theirs, all regions from the index on fit.
pub fits_from : {a b c : Table} (rs ss : List Region) (i : ℕ) (d e : Region) → i < length rs → i < length ss
    → FitsRegion a b (get_or rs i d) (get_or ss i e) → FitsRegions b c (drop (i + 1) rs) (drop (i + 1) ss) → FitsRegions a c (drop i rs) (drop i ss)
fits_from {a} {b} {c} rs ss i d e lt_r lt_s one more =
    subst (λ xs. FitsRegions a c xs (drop i ss)) (sym (drop_more rs i d lt_r))
    (subst (λ xs. FitsRegions a c (get_or rs i d ∷ drop (i + 1) rs) xs) (sym (drop_more ss i e lt_s)) (fits_more one more))

-- If two lists, of a parameter type's regions and an argument's regions, have no elements from an
-- index on, the remaining regions (none) fit.
pub fits_past : (table : Table) (rs ss : List Region) (i : ℕ) → length rs ≤ i → length ss ≤ i → FitsRegions table table (drop i rs) (drop i ss)
fits_past table rs ss i le_r le_s =
    subst (λ xs. FitsRegions table table xs (drop i ss)) (sym (drop_all i rs le_r)) (subst (λ xs. FitsRegions table table [] xs) (sym (drop_all i ss le_s)) (fits_none table))

module _ (c : RegionContext) where
  -- If the value at an index fits its parameter, and the later values fit theirs, then all values from the index on fit their parameters.
  pub fits_values_from : {old mid new : Table} (ts : List TyCode) (vs : List ConvertedCode) (i : ℕ) (t : TyCode) (v : ConvertedCode)
      → i < length ts → t ≡ get_or ts i t → i < length vs → v ≡ get_or vs i v
      → FitsValue c old mid (view_ty t) (type_of (value_in v)) → FitsValues c mid new (map view_ty (drop (i + 1) ts)) (map value_in (drop (i + 1) vs))
      → FitsValues c old new (map view_ty (drop i ts)) (map value_in (drop i vs))
  fits_values_from {old} {mid} {new} ts vs i t v lt_t is_t lt_v is_v one more =
      subst (λ xs. FitsValues c old new (map view_ty xs) (map value_in (drop i vs))) (sym (drop_read ts i t lt_t is_t))
      (subst (λ xs. FitsValues c old new (map view_ty (t ∷ drop (i + 1) ts)) (map value_in xs)) (sym (drop_read vs i v lt_v is_v)) (fits_more_values c one more))

  -- If no values and no parameters are left from an index on, then the remaining values (none) fit the remaining parameters.
  pub fits_values_past : (table : Table) (ts : List TyCode) (vs : List ConvertedCode) (i : ℕ) → length ts ≤ i → length vs ≤ i
      → FitsValues c table table (map view_ty (drop i ts)) (map value_in (drop i vs))
  fits_values_past table ts vs i le_t le_v =
      subst (λ xs. FitsValues c table table (map view_ty xs) (map value_in (drop i vs))) (sym (drop_all i ts le_t))
      (subst (λ xs. FitsValues c table table [] (map value_in xs)) (sym (drop_all i vs le_v)) (fits_no_value c table))

-- ---- calls

-- If the values of a call fit, the recorded table gives the regions of the signature's region variables.
pub fitting_instance : (c : RegionContext) (s : Signature) (as' : List typed.Expression) (table : Table) → FitsCall c s as' table → instance_in table ≡ instance_of s as'
fitting_instance c s as' table fits = ap instance_in fits.noted ∙ instance_found s.variables (paired_arguments s.parameters as')

-- If the values of a call fit, then the only requirements of the call left to check are those on regions.
pub fitting_settled : (g : Scope) (p : Place) (es : Expressions) (as' : List typed.Expression) (s : Signature) (old new : Table) → FitsValues g.regions old new s.parameters as'
    → settled None (call_demanded g p es as' s (instantiated (instance_in new) s)) ≡ settled None (regions_demanded g p (instance_in new) s)
fitting_settled g p es as' s old new fits =
    let passed = passed_demanded g.regions es as' (map (substituted_ty (instance_in new)) s.parameters) in
    let varied = variables_demanded es as' s.parameters in
    let rest = regions_demanded g p (instance_in new) s in
    ap (λ b. settled (noted None (demand codes.TypeMismatch p b)) (passed ++ (varied ++ rest))) (eq-eqb (length as') (length s.parameters) fits.count)
    ∙ settled_append None passed (varied ++ rest) ∙ ap (λ o. settled o (varied ++ rest)) (kept_settled None passed (fits.passed [] es))
    ∙ settled_append None varied rest ∙ ap (λ o. settled o rest) (kept_settled None varied (fits.varied es))

-- If the values of a call fit and the requirements on regions hold, then the call is well typed.
pub fitting_run : (g : Scope) (p : Place) (es : Expressions) (as' : List typed.Expression) (s : Signature) (table : Table) → FitsCall g.regions s as' table
    → unless (settled None (regions_demanded g p (instance_in table) s)) (instance_in table) ≡ run (instance_wanted g p es as' s)
fitting_run g p es as' s table fits =
    ap (λ o. unless o (instance_in table)) (sym (fitting_settled g p es as' s (Some Heap ∷ replicate s.variables None) table fits))
    ∙ ap (λ (m : List Region). unless (settled None (call_demanded g p es as' s (instantiated m s))) m) (fitting_instance g.regions s as' table fits)

-- If `unless`, which returns a known fault instead of a result, returns a result, then no fault is known.
pub given_kept : {A : Type 0} (known : Option Fault) (a b : A) → unless known a ≡ Ok b → known ≡ None
given_kept None a b h = refl
given_kept (Some f) a b h = absurd (ok_is_no_err b f (sym h))

pub given_same : {A : Type 0} (known : Option Fault) (a b : A) → unless known a ≡ Ok b → a ≡ b
given_same None a b h = from_ok a b h
given_same (Some f) a b h = absurd (ok_is_no_err b f (sym h))
