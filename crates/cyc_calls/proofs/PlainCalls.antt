-- Calls of plain signatures (each region of a parameter is a region variable that occurs only once).
-- The traversal of such a call's values checks all requirements of the typing rules on the values.
use Rattle.std.proofs.Common.{◌≡◌, ℕ, zero, suc, ◌+◌, ◌<◌, ◌≤◌, true, false, ◌&&◌, not, nat_eq, List, [], ◌∷◌, ◌++◌, length, map, get_or, drop, slice_get, slice_set, replicate, unwrap_or, Option, Some, None, refl, sym, ap, subst, ◌∙◌, arith}
use Rattle.std.specs.List.{list_any, list_all}
use Rattle.std.proofs.lemmas.Bool.{and_from, or_from, or_left}
use Rattle.std.proofs.lemmas.List.{drop_all, length-set, length-replicate}
use Rattle.std.proofs.lemmas.Option.{same_Some}
use Rattle.cyc_words.proofs.Lists.{drop_read}
use Rattle.cyc_words.proofs.Searches.{any-push_turned}
use Rattle.cyc_syntax.specs.Symbols.{Place}
use Rattle.cyc_syntax.specs.Trees.{Expressions}
use Rattle.cyc_syntax.specs.declared.tree.PointerKind.{PointerKind}
use Rattle.cyc_syntax.specs.declared.tree.PointerKind.TheVariants.{Nullable, NonNull, Fat}
use Rattle.cyc_types.specs.declared.region.Region.{Region}
use Rattle.cyc_types.specs.declared.region.Region.TheVariants.{Heap, Unique, Variable}
use Rattle.cyc_types.specs.declared.ty.Ty.{Ty as TyCode}
use Rattle.cyc_types.specs.declared.typed.Converted.{Converted as ConvertedCode}
use Rattle.cyc_types.specs.Types.{region_eq, substituted_region, Ty, Int, Char, Pointer, Handle, Key, Struct, ValueType, Void, Null, Value, substituted_ty}
use Rattle.cyc_types.specs.TypeView.{view_ty}
use Rattle.cyc_types.specs.TypedTrees.{Signature, type_of}
use Rattle.cyc_types.specs.TypedTrees as typed
use Rattle.cyc_types.specs.Rules.{AllKept, settled}
use Rattle.cyc_types.specs.Closure.{is_outliving}
use Rattle.cyc_types.specs.typing.Scopes.{Scope, is_live}
use Rattle.cyc_types.specs.typing.Tests.{mark_eq, regions_eq, ty_eq, is_pointer, is_non_null}
use Rattle.cyc_types.specs.typing.Expressions.{conversion, paired, is_unique_for_variable, instance_of, instantiated, call_demanded, constraints_demanded, effect_demanded}
use Rattle.cyc_types.specs.inside.SignatureView.{substituted_pair}
use Rattle.cyc_types.proofs.RegionLemmas.{region_eq-refl}
use Rattle.cyc_scope.specs.inside.Plain.{regions_in, all_regions, Ascend, AreVariables}
use Rattle.cyc_operands.specs.inside.Operands.{value_in}
use Rattle.cyc_calls.specs.inside.Instances.{noted_place, noted_places, instance_in}
use Rattle.cyc_calls.specs.inside.Fitting.{instance_later, Stands, FitsRegion, FitsRegions, FitsValue, FitsValues}
use Rattle.cyc_calls.specs.inside.Calls.{regions_demanded}
use Rattle.cyc_calls.specs.inside.Plain.{IsUsual, AreUsual, IsAlike, TakesType, TakesValue, TakesAll, IsTakenPlainly}
use Rattle.cyc_calls.proofs.Settling.{covered_settled}
use Rattle.cyc_calls.proofs.Instances.{noted_append, instance_at}
use Rattle.cyc_calls.proofs.FittedValues.{Table, first_stands, fits_none, fits_more, fits_no_value, fits_more_values, fitting_instance, fitting_settled}

-- ---- a table whose variables have no place yet

-- Says that the variables from `low` up to `high`, exclusive, have no recorded region. All recorded regions are live, and the
-- table has the length `size`.
record State (g : Scope) (size low high : ℕ) (table : Table) : Type 0 where
  vacant : (n : ℕ) → low ≤ n → n < high → slice_get table n ≡ Some None
  live : (n : ℕ) (s : Region) → slice_get table n ≡ Some (Some s) → is_live g s ≡ true
  long : length table ≡ size

set_after : (table : Table) (n m : ℕ) (o : Option Region) → n < m → slice_get (slice_set table n o) m ≡ slice_get table m
set_after [] n m o lt = refl
set_after (x ∷ xs) zero zero o lt = absurd (omega (arith, lt))
set_after (x ∷ xs) zero (suc m) o lt = refl
set_after (x ∷ xs) (suc n) zero o lt = absurd (omega (arith, lt))
set_after (x ∷ xs) (suc n) (suc m) o lt = set_after xs n m o (omega (arith, lt))

-- If all recorded regions are live and one more live region is recorded, then all recorded regions are still live.
set_live : (g : Scope) (table : Table) (n m : ℕ) (r s : Region) → is_live g r ≡ true → ((t : Region) → slice_get table m ≡ Some (Some t) → is_live g t ≡ true)
    → slice_get (slice_set table n (Some r)) m ≡ Some (Some s) → is_live g s ≡ true
set_live g [] n m r s alive old h = old s h
set_live g (x ∷ xs) zero zero r s alive old h = subst (λ t. is_live g t ≡ true) (same_Some r s (same_Some (Some r) (Some s) h)) alive
set_live g (x ∷ xs) zero (suc m) r s alive old h = old s h
set_live g (x ∷ xs) (suc n) zero r s alive old h = old s h
set_live g (x ∷ xs) (suc n) (suc m) r s alive old h = set_live g xs n m r s alive old h

-- ---- rising numbers

ascend_le : (a : ℕ) (rs : List Region) (b : ℕ) → Ascend a rs b → a ≤ b
ascend_le a [] b h = h
ascend_le a (Variable n ∷ rs) b h = let rest = ascend_le (suc n) rs b h.1 in omega (arith, h.0, rest)
ascend_le a (Heap ∷ rs) b h = absurd h
ascend_le a (Unique ∷ rs) b h = absurd h

ascend_split : (a : ℕ) (rs ss : List Region) (c : ℕ) → Ascend a (rs ++ ss) c → (b : ℕ) × Ascend a rs b × Ascend b ss c
ascend_split a [] ss c h = (a, omega arith, h)
ascend_split a (Variable n ∷ rs) ss c h = let rest = ascend_split (suc n) rs ss c h.1 in (rest.0, (h.0, rest.1), rest.2)
ascend_split a (Heap ∷ rs) ss c h = absurd h
ascend_split a (Unique ∷ rs) ss c h = absurd h

-- ---- types that are equal except for their regions

record FitsPlainly (old new : Table) (t u : Ty) : Type 0 where
  noted : new ≡ noted_places old (paired t u)
  alike : (later : List (Region × Region)) → ty_eq u (substituted_ty (instance_later new later) t) ≡ true
  usual : list_any is_unique_for_variable (paired t u) ≡ false

plain_int : (table : Table) → FitsPlainly table table Int Int
plain_int table = record { noted = refl; alike = λ later. refl; usual = refl }

plain_char : (table : Table) → FitsPlainly table table Char Char
plain_char table = record { noted = refl; alike = λ later. refl; usual = refl }

plain_handle : {a b : Table} {r s : Region} → FitsRegion a b r s → FitsPlainly a b (Handle r) (Handle s)
plain_handle {r = r} {s = s} one = record { noted = one.noted; alike = one.alike; usual = or_from (is_unique_for_variable (r, s)) false one.usual refl }

plain_key : {a b : Table} {r s : Region} → FitsRegion a b r s → FitsPlainly a b (Key r) (Key s)
plain_key {r = r} {s = s} one = record { noted = one.noted; alike = one.alike; usual = or_from (is_unique_for_variable (r, s)) false one.usual refl }

plain_struct : {a b : Table} {m n : ℕ} {rs ss : List Region} → nat_eq m n ≡ true → FitsRegions a b rs ss → FitsPlainly a b (Struct n rs) (Struct m ss)
plain_struct {a} {b} {m} {n} {rs} {ss} same all = record {
  noted = all.noted;
  alike = λ later. and_from (nat_eq m n) (regions_eq ss (map (substituted_region (instance_later b later)) rs)) same (all.alike later);
  usual = all.usual;
}

-- The target type of a pointer still fits after the region of the pointer is recorded.
target_alike : {a b c : Table} {t u : Ty} (r s : Region) → FitsPlainly a b t u → c ≡ noted_place b (r, s) → (later : List (Region × Region)) → ty_eq u (substituted_ty (instance_later c later) t) ≡ true
target_alike {b = b} {t = t} {u = u} r s target is later =
    subst (λ table. ty_eq u (substituted_ty (instance_later table later) t) ≡ true) (sym is) (target.alike ((r, s) ∷ later))

plain_pointer : {a b c : Table} {k l : PointerKind} {t u : Ty} {r s : Region} → mark_eq l k ≡ true → FitsPlainly a b t u → FitsRegion b c r s → FitsPlainly a c (Pointer k t r) (Pointer l u s)
plain_pointer {a} {b} {c} {k} {l} {t} {u} {r} {s} same target one = record {
  noted = one.noted ∙ ap (λ table. noted_place table (r, s)) target.noted ∙ sym (noted_append a (paired t u) ((r, s) ∷ []));
  alike = λ later.
      and_from (mark_eq l k) (ty_eq u (substituted_ty (instance_later c later) t) && region_eq s (substituted_region (instance_later c later) r)) same
      (and_from (ty_eq u (substituted_ty (instance_later c later) t)) (region_eq s (substituted_region (instance_later c later) r)) (target_alike r s target one.noted later) (one.alike later));
  usual = any-push_turned is_unique_for_variable (paired t u) (r, s) ∙ or_from (is_unique_for_variable (r, s)) (list_any is_unique_for_variable (paired t u)) one.usual target.usual;
}

module _ (g : Scope) (size high : ℕ) where
  lower : (low next : ℕ) (table : Table) → low ≤ next → State g size low high table → State g size next high table
  lower low next table le st = record { vacant = λ n from below. st.vacant n (omega (arith, le, from)) below; live = st.live; long = st.long }

  -- ---- one region

  next_state : (low n next : ℕ) (s : Region) (table : Table) → low ≤ n → n < next → is_live g s ≡ true → State g size low high table → State g size next high (slice_set table n (Some s))
  next_state low n next s table le lt alive st = record {
    vacant = λ m from below. set_after table n m (Some s) (omega (arith, lt, from)) ∙ st.vacant m (omega (arith, le, lt, from)) below;
    live = λ m t h. set_live g table n m s t alive (st.live m) h;
    long = length-set table n (Some s) ∙ st.long;
  }

  one_fits : (low n : ℕ) (s : Region) (table : Table) → low ≤ n → n < high → IsUsual g s → State g size low high table → FitsRegion table (slice_set table n (Some s)) (Variable n) s
  one_fits low n s table le lt usual st =
      let one : Stands table (slice_set table n (Some s)) (Variable n) s s = first_stands table n s (st.vacant n le lt) usual.other in
      record { noted = one.noted; alike = λ later. ap (region_eq s) (one.found later) ∙ region_eq-refl s; usual = one.usual }

  region_fits : (low next : ℕ) (r s : Region) (table : Table) → Ascend low (r ∷ []) next → next ≤ high → IsUsual g s → State g size low high table
      → (new : Table) × FitsRegion table new r s × State g size next high new
  region_fits low next (Variable n) s table up most usual st =
      let above : suc n ≤ next = up.1 in
      (slice_set table n (Some s), one_fits low n s table up.0 (omega (arith, above, most)) usual st, next_state low n next s table up.0 (omega (arith, above)) usual.live st)
  region_fits low next Heap s table up most usual st = absurd up
  region_fits low next Unique s table up most usual st = absurd up

  -- ---- the regions of structs

  regions_fit : (low next : ℕ) (rs ss : List Region) (table : Table) → Ascend low rs next → next ≤ high → length ss ≡ length rs → AreUsual g ss → State g size low high table
      → (new : Table) × FitsRegions table new rs ss × State g size next high new
  regions_fit low next [] [] table up most long usual st = (table, fits_none table, lower low next table up st)
  regions_fit low next [] (s ∷ ss) table up most long usual st = absurd (omega (arith, long))
  regions_fit low next (r ∷ rs) [] table up most long usual st = absurd (omega (arith, long))
  regions_fit low next (Heap ∷ rs) (s ∷ ss) table up most long usual st = absurd up
  regions_fit low next (Unique ∷ rs) (s ∷ ss) table up most long usual st = absurd up
  regions_fit low next (Variable n ∷ rs) (s ∷ ss) table up most long usual st =
      let within : suc n ≤ next = ascend_le (suc n) rs next up.1 in
      let rest = regions_fit (suc n) next rs ss (slice_set table n (Some s)) up.1 most (omega (arith, long)) usual.1 (next_state low n (suc n) s table up.0 (omega arith) usual.0.live st) in
      (rest.0, fits_more (one_fits low n s table up.0 (omega (arith, within, most)) usual.0 st) rest.1, rest.2)

  -- ---- types

  type_fits : (low next : ℕ) (table : Table) → next ≤ high → State g size low high table → (t u : Ty) → Ascend low (regions_in t) next → IsAlike g t u
      → (new : Table) × FitsPlainly table new t u × State g size next high new
  type_fits low next table most st Int Int up h = (table, plain_int table, lower low next table up st)
  type_fits low next table most st Char Char up h = (table, plain_char table, lower low next table up st)
  type_fits low next table most st (Pointer k t r) (Pointer l u s) up h =
      let parts = ascend_split low (regions_in t) (r ∷ []) next up in
      let within : parts.0 ≤ next = ascend_le parts.0 (r ∷ []) next parts.2 in
      let target = type_fits low parts.0 table (omega (arith, within, most)) st t u parts.1 h.2 in
      let one = region_fits parts.0 next r s target.0 parts.2 most h.1 target.2 in
      (one.0, plain_pointer h.0 target.1 one.1, one.2)
  type_fits low next table most st (Handle r) (Handle s) up h = let one = region_fits low next r s table up most h st in (one.0, plain_handle one.1, one.2)
  type_fits low next table most st (Key r) (Key s) up h = let one = region_fits low next r s table up most h st in (one.0, plain_key one.1, one.2)
  type_fits low next table most st (Struct n rs) (Struct m ss) up h =
      let all = regions_fit low next rs ss table up most h.1 h.2 st in
      (all.0, plain_struct h.0 all.1, all.2)
  type_fits low next table most st Int Char up h = absurd h
  type_fits low next table most st Int (Pointer l u s) up h = absurd h
  type_fits low next table most st Int (Handle s) up h = absurd h
  type_fits low next table most st Int (Key s) up h = absurd h
  type_fits low next table most st Int (Struct m ss) up h = absurd h
  type_fits low next table most st Char Int up h = absurd h
  type_fits low next table most st Char (Pointer l u s) up h = absurd h
  type_fits low next table most st Char (Handle s) up h = absurd h
  type_fits low next table most st Char (Key s) up h = absurd h
  type_fits low next table most st Char (Struct m ss) up h = absurd h
  type_fits low next table most st (Pointer k t r) Int up h = absurd h
  type_fits low next table most st (Pointer k t r) Char up h = absurd h
  type_fits low next table most st (Pointer k t r) (Handle s) up h = absurd h
  type_fits low next table most st (Pointer k t r) (Key s) up h = absurd h
  type_fits low next table most st (Pointer k t r) (Struct m ss) up h = absurd h
  type_fits low next table most st (Handle r) Int up h = absurd h
  type_fits low next table most st (Handle r) Char up h = absurd h
  type_fits low next table most st (Handle r) (Pointer l u s) up h = absurd h
  type_fits low next table most st (Handle r) (Key s) up h = absurd h
  type_fits low next table most st (Handle r) (Struct m ss) up h = absurd h
  type_fits low next table most st (Key r) Int up h = absurd h
  type_fits low next table most st (Key r) Char up h = absurd h
  type_fits low next table most st (Key r) (Pointer l u s) up h = absurd h
  type_fits low next table most st (Key r) (Handle s) up h = absurd h
  type_fits low next table most st (Key r) (Struct m ss) up h = absurd h
  type_fits low next table most st (Struct n rs) Int up h = absurd h
  type_fits low next table most st (Struct n rs) Char up h = absurd h
  type_fits low next table most st (Struct n rs) (Pointer l u s) up h = absurd h
  type_fits low next table most st (Struct n rs) (Handle s) up h = absurd h
  type_fits low next table most st (Struct n rs) (Key s) up h = absurd h

  -- ---- values

  -- A value of type int or char fits a parameter of one of these types.
  number_fits : (table : Table) (t u : Ty) → paired t u ≡ [] → ((later : List (Region × Region)) (p : Place) → AllKept (conversion g.regions (Value u) (substituted_ty (instance_later table later) t) p))
      → FitsValue g.regions table table t (Value u)
  number_fits table t u none kept = record { noted = ap (noted_places table) (sym none); kept = kept; usual = ap (list_any is_unique_for_variable) none }

  pointer_fits : {a b d : Table} {k l : PointerKind} {t u : Ty} {r s : Region} → FitsPlainly a b t u → FitsRegion b d r s → FitsValue g.regions a d (Pointer k t r) (Value (Pointer l u s))
  pointer_fits {a} {b} {d} {k} {l} {t} {u} {r} {s} target one = record {
    noted = one.noted ∙ ap (λ table. noted_place table (r, s)) target.noted ∙ sym (noted_append a (paired t u) ((r, s) ∷ []));
    kept = λ later p. (target_alike r s target one.noted later, (refl, (outlived (substituted_region (instance_later d later) r) (one.alike later), tt)));
    usual = any-push_turned is_unique_for_variable (paired t u) (r, s) ∙ or_from (is_unique_for_variable (r, s)) (list_any is_unique_for_variable (paired t u)) one.usual target.usual;
  }
    where
      outlived : (q : Region) → region_eq s q ≡ true → is_outliving g.regions s q ≡ true
      outlived q h = or_left (region_eq s q) _ h

  handle_fits : {a b : Table} {r s : Region} → FitsRegion a b r s → FitsValue g.regions a b (Handle r) (Value (Handle s))
  handle_fits {r = r} {s = s} one = record { noted = one.noted; kept = λ later p. (one.alike later, (refl, (refl, tt))); usual = or_from (is_unique_for_variable (r, s)) false one.usual refl }

  key_fits : {a b : Table} {r s : Region} → FitsRegion a b r s → FitsValue g.regions a b (Key r) (Value (Key s))
  key_fits {r = r} {s = s} one = record { noted = one.noted; kept = λ later p. (one.alike later, (refl, (refl, tt))); usual = or_from (is_unique_for_variable (r, s)) false one.usual refl }

  taken_fits : (low next : ℕ) (table : Table) → next ≤ high → State g size low high table → (t u : Ty) → Ascend low (regions_in t) next → TakesType g t u
      → (new : Table) × FitsValue g.regions table new t (Value u) × State g size next high new
  taken_fits low next table most st Int Int up h = (table, number_fits table Int Int refl (λ later p. (refl, (refl, (refl, tt)))), lower low next table up st)
  taken_fits low next table most st Int Char up h = (table, number_fits table Int Char refl (λ later p. (refl, (refl, (refl, tt)))), lower low next table up st)
  taken_fits low next table most st Char Int up h = (table, number_fits table Char Int refl (λ later p. (refl, (refl, (refl, tt)))), lower low next table up st)
  taken_fits low next table most st Char Char up h = (table, number_fits table Char Char refl (λ later p. (refl, (refl, (refl, tt)))), lower low next table up st)
  taken_fits low next table most st (Pointer k t r) (Pointer l u s) up h =
      let parts = ascend_split low (regions_in t) (r ∷ []) next up in
      let within : parts.0 ≤ next = ascend_le parts.0 (r ∷ []) next parts.2 in
      let target = type_fits low parts.0 table (omega (arith, within, most)) st t u parts.1 h.1 in
      let one = region_fits parts.0 next r s target.0 parts.2 most h.0 target.2 in
      (one.0, pointer_fits target.1 one.1, one.2)
  taken_fits low next table most st (Handle r) (Handle s) up h = let one = region_fits low next r s table up most h st in (one.0, handle_fits one.1, one.2)
  taken_fits low next table most st (Key r) (Key s) up h = let one = region_fits low next r s table up most h st in (one.0, key_fits one.1, one.2)
  taken_fits low next table most st Int (Pointer l u s) up h = absurd h
  taken_fits low next table most st Int (Handle s) up h = absurd h
  taken_fits low next table most st Int (Key s) up h = absurd h
  taken_fits low next table most st Int (Struct m ss) up h = absurd h
  taken_fits low next table most st Char (Pointer l u s) up h = absurd h
  taken_fits low next table most st Char (Handle s) up h = absurd h
  taken_fits low next table most st Char (Key s) up h = absurd h
  taken_fits low next table most st Char (Struct m ss) up h = absurd h
  taken_fits low next table most st (Pointer k t r) Int up h = absurd h
  taken_fits low next table most st (Pointer k t r) Char up h = absurd h
  taken_fits low next table most st (Pointer k t r) (Handle s) up h = absurd h
  taken_fits low next table most st (Pointer k t r) (Key s) up h = absurd h
  taken_fits low next table most st (Pointer k t r) (Struct m ss) up h = absurd h
  taken_fits low next table most st (Handle r) Int up h = absurd h
  taken_fits low next table most st (Handle r) Char up h = absurd h
  taken_fits low next table most st (Handle r) (Pointer l u s) up h = absurd h
  taken_fits low next table most st (Handle r) (Key s) up h = absurd h
  taken_fits low next table most st (Handle r) (Struct m ss) up h = absurd h
  taken_fits low next table most st (Key r) Int up h = absurd h
  taken_fits low next table most st (Key r) Char up h = absurd h
  taken_fits low next table most st (Key r) (Pointer l u s) up h = absurd h
  taken_fits low next table most st (Key r) (Handle s) up h = absurd h
  taken_fits low next table most st (Key r) (Struct m ss) up h = absurd h
  taken_fits low next table most st (Struct n rs) Int up h = absurd h
  taken_fits low next table most st (Struct n rs) Char up h = absurd h
  taken_fits low next table most st (Struct n rs) (Pointer l u s) up h = absurd h
  taken_fits low next table most st (Struct n rs) (Handle s) up h = absurd h
  taken_fits low next table most st (Struct n rs) (Key s) up h = absurd h
  taken_fits low next table most st (Struct n rs) (Struct m ss) up h = absurd h

  null_fits : (table : Table) (t : Ty) → (is_pointer t && not (is_non_null t)) ≡ true → FitsValue g.regions table table t Null
  null_fits table (Pointer Nullable t r) h = record { noted = refl; kept = λ later p. (refl, (refl, (refl, tt))); usual = refl }
  null_fits table (Pointer NonNull t r) h = absurd (cc)
  null_fits table (Pointer Fat t r) h = record { noted = refl; kept = λ later p. (refl, (refl, (refl, tt))); usual = refl }
  null_fits table Int h = absurd (cc)
  null_fits table Char h = absurd (cc)
  null_fits table (Handle r) h = absurd (cc)
  null_fits table (Key r) h = absurd (cc)
  null_fits table (Struct n rs) h = absurd (cc)

  value_fits : (low next : ℕ) (table : Table) → next ≤ high → State g size low high table → (t : Ty) (v : ValueType) → Ascend low (regions_in t) next → TakesValue g t v
      → (new : Table) × FitsValue g.regions table new t v × State g size next high new
  value_fits low next table most st t Void up h = absurd h
  value_fits low next table most st t Null up h = (table, null_fits table t h, lower low next table (ascend_le low (regions_in t) next up) st)
  value_fits low next table most st t (Value u) up h = taken_fits low next table most st t u up h

  values_fit : (low next : ℕ) (table : Table) → next ≤ high → State g size low high table → (ts : List Ty) (as' : List typed.Expression) → Ascend low (all_regions ts) next → TakesAll g ts as'
      → (new : Table) × FitsValues g.regions table new ts as' × State g size next high new
  values_fit low next table most st [] [] up h = (table, fits_no_value g.regions table, lower low next table up st)
  values_fit low next table most st [] (a ∷ as') up h = absurd h
  values_fit low next table most st (t ∷ ts) [] up h = absurd h
  values_fit low next table most st (t ∷ ts) (a ∷ as') up h =
      let parts = ascend_split low (regions_in t) (all_regions ts) next up in
      let within : parts.0 ≤ next = ascend_le parts.0 (all_regions ts) next parts.2 in
      let one = value_fits low parts.0 table (omega (arith, within, most)) st t (type_of a) parts.1 h.0 in
      let rest = values_fit parts.0 next one.0 most one.2 ts as' parts.2 h.1 in
      (rest.0, fits_more_values g.regions one.1 rest.1, rest.2)

-- ---- the effect

within_table : (table : Table) (n : ℕ) → n < length table → (o : Option Region) × (slice_get table n ≡ Some o)
within_table [] n lt = absurd (omega (arith, lt))
within_table (x ∷ xs) zero lt = (x, refl)
within_table (x ∷ xs) (suc n) lt = within_table xs n (omega (arith, lt))

module _ (g : Scope) (size low high : ℕ) (table : Table) (heap : is_live g Heap ≡ true) (st : State g size low high table) where
  live_at : (o : Option Region) (n : ℕ) → slice_get table n ≡ Some o → is_live g (unwrap_or o Heap) ≡ true
  live_at None n h = heap
  live_at (Some s) n h = st.live n s h

  effect_live : (count : ℕ) (rs : List Region) → suc count ≡ size → AreVariables count rs → list_all (λ r. is_live g r) (map (substituted_region (instance_in table)) rs) ≡ true
  effect_live count [] is h = refl
  effect_live count (Heap ∷ rs) is h = absurd h
  effect_live count (Unique ∷ rs) is h = absurd h
  effect_live count (Variable n ∷ rs) is h =
      let le : n ≤ count = h.0 in
      let long : length table ≡ size = st.long in
      let there = within_table table n (omega (arith, is, le, long)) in
      and_from (is_live g (substituted_region (instance_in table) (Variable n))) (list_all (λ r. is_live g r) (map (substituted_region (instance_in table)) rs))
      (ap (is_live g) (instance_at table n there.0 (Variable n) there.1) ∙ live_at there.0 n there.1) (effect_live count rs is h.1)

-- ---- calls

abbrev no_place : Option Region
no_place = None

none_there : (count n : ℕ) → n < count → slice_get (replicate count no_place) n ≡ Some None
none_there zero n lt = absurd (omega (arith, lt))
none_there (suc count) zero lt = refl
none_there (suc count) (suc n) lt = none_there count n (omega (arith, lt))

nothing_there : (count n : ℕ) (s : Region) → slice_get (replicate count no_place) n ≡ Some (Some s) → no_place ≡ Some s
nothing_there zero n s h = absurd (cc)
nothing_there (suc count) zero s h = same_Some no_place (Some s) h
nothing_there (suc count) (suc n) s h = nothing_there count n s h

first_state : (g : Scope) (count : ℕ) → is_live g Heap ≡ true → State g (suc count) 1 (suc count) (Some Heap ∷ replicate count None)
first_state g count heap = record {
  vacant = λ n from below. vacant n from below;
  live = λ n s h. live n s h;
  long = ap suc (length-replicate count None);
}
  where
    vacant : (n : ℕ) → 1 ≤ n → n < suc count → slice_get (Some Heap ∷ replicate count None) n ≡ Some None
    vacant zero from below = absurd (omega (arith, from))
    vacant (suc n) from below = none_there count n (omega (arith, below))

    some_none : (s : Region) → no_place ≡ Some s → ⊥
    some_none s h = cc

    live : (n : ℕ) (s : Region) → slice_get (Some Heap ∷ replicate count None) n ≡ Some (Some s) → is_live g s ≡ true
    live zero s h = subst (λ t. is_live g t ≡ true) (same_Some Heap s (same_Some (Some Heap) (Some s) h)) heap
    live (suc n) s h = absurd (some_none s (nothing_there count n s h))

-- If a signature has no constraints and its effect is live, then the requirements on regions hold.
regions_settled : (g : Scope) (p : Place) (m : List Region) (s : Signature) → s.constraints ≡ [] → list_all (λ r. is_live g r) (map (substituted_region m) s.effect) ≡ true
    → settled None (regions_demanded g p m s) ≡ None
regions_settled g p m s none live =
    ap (λ (cs : List (Region × Region)). settled None (constraints_demanded g.regions p (map (substituted_pair m) cs) ++ effect_demanded g p (map (substituted_region m) s.effect))) none
    ∙ covered_settled None g p (map (substituted_region m) s.effect) live

pub taken_settled : (g : Scope) (p : Place) (es : Expressions) (as' : List typed.Expression) (s : Signature) → IsTakenPlainly g s as'
    → settled None (call_demanded g p es as' s (instantiated (instance_of s as') s)) ≡ None
taken_settled g p es as' s is =
    let old : Table = Some Heap ∷ replicate s.variables None in
    let all = values_fit g (suc s.variables) (suc s.variables) 1 (suc s.variables) old (omega arith) (first_state g s.variables is.heap) s.parameters as' is.plain.ascend is.taken in
    let m = instance_in all.0 in
    ap (λ (i : List Region). settled None (call_demanded g p es as' s (instantiated i s))) (sym (fitting_instance g.regions s as' all.0 all.1))
    ∙ fitting_settled g p es as' s old all.0 all.1
    ∙ regions_settled g p m s is.plain.constraints (effect_live g (suc s.variables) (suc s.variables) (suc s.variables) all.0 is.heap all.2 s.variables s.effect refl is.plain.effect)

-- ---- loops

-- If the value at an index can be converted to its parameter's type, and the later values can, then all values from the index on can.
pub taken_from : (g : Scope) (ts : List TyCode) (vs : List ConvertedCode) (i : ℕ) (t : TyCode) (v : ConvertedCode) → i < length ts → t ≡ get_or ts i t → i < length vs → v ≡ get_or vs i v
    → TakesValue g (view_ty t) (type_of (value_in v)) → TakesAll g (map view_ty (drop (i + 1) ts)) (map value_in (drop (i + 1) vs)) → TakesAll g (map view_ty (drop i ts)) (map value_in (drop i vs))
taken_from g ts vs i t v lt_t is_t lt_v is_v one rest =
    subst (λ xs. TakesAll g (map view_ty xs) (map value_in (drop i vs))) (sym (drop_read ts i t lt_t is_t))
    (subst (λ xs. TakesAll g (map view_ty (t ∷ drop (i + 1) ts)) (map value_in xs)) (sym (drop_read vs i v lt_v is_v)) (one, rest))

-- If no values and no parameters are left from an index on, then all remaining values (none) can be converted to their parameters' types.
pub taken_past : (g : Scope) (ts : List TyCode) (vs : List ConvertedCode) (i : ℕ) → length ts ≤ i → length vs ≤ i → TakesAll g (map view_ty (drop i ts)) (map value_in (drop i vs))
taken_past g ts vs i le_t le_v =
    subst (λ xs. TakesAll g (map view_ty xs) (map value_in (drop i vs))) (sym (drop_all i ts le_t)) (subst (λ xs. TakesAll g [] (map value_in xs)) (sym (drop_all i vs le_v)) tt)
