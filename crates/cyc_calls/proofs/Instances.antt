-- The table of the regions at the first occurrences of region variables yields the regions that the typing rules
-- define for these variables.
use Rattle.std.proofs.Common.{◌≡◌, ℕ, zero, suc, ◌+◌, ◌-◌, ◌<◌, ◌≤◌, Bool, true, false, cond, if◌then◌else◌, List, [], ◌∷◌, ◌++◌, map, replicate, drop, take, length, append-nil, get_or, slice_get, slice_index_or, unwrap_or, Option, Some, None, refl, sym, ap, ◌∙◌, arith}
use Rattle.std.specs.List.{list_any, refill}
use Rattle.std.proofs.lemmas.Bool.{eq-eqb}
use Rattle.std.proofs.lemmas.Bool.Decides.{nat_tests}
use Rattle.std.proofs.lemmas.List.{drop_all, take_all, length-set, take-replicate, replicate-append-replicate}
use Rattle.std.proofs.lemmas.Option.{same_Some}
use Rattle.cyc_words.proofs.Lists.{drop_read}
use Rattle.cyc_words.proofs.Numbers.{zero_plus}
use Rattle.cyc_types.specs.declared.region.Region.{Region}
use Rattle.cyc_types.specs.declared.region.Region.TheVariants.{Heap, Unique, Variable}
use Rattle.cyc_types.specs.Types.{region_eq, substituted_region, Ty, Int, Char, Pointer, Handle, Key, Struct}
use Rattle.cyc_types.specs.declared.ty.Ty.{Ty as TyCode}
use Rattle.cyc_types.specs.declared.typed.Converted.{Converted as ConvertedCode}
use Rattle.cyc_types.specs.TypeView.{view_ty}
use Rattle.cyc_types.specs.TypedTrees.{type_of}
use Rattle.cyc_types.specs.typing.Expressions.{all_paired, paired, paired_argument, paired_arguments, first_place, first_places, is_unique_for_variable}
use Rattle.cyc_operands.specs.inside.Operands.{value_in}
use Rattle.cyc_types.proofs.RegionLemmas.{region_eq-true}
use Rattle.cyc_calls.specs.inside.Instances.{instance_in, noted_at, noted_place, noted_places}
use Rattle.cyc_calls.specs.inside.Fitting.{AllStand}

pub noted_append : (table : List (Option Region)) (ps qs : List (Region × Region)) → noted_places table (ps ++ qs) ≡ noted_places (noted_places table ps) qs
noted_append table [] qs = refl
noted_append table (p ∷ ps) qs = noted_append (noted_place table p) ps qs

-- Recording a region at an occurrence of a variable does not change the length of the table.
noted_at_length : (known : Option (Option Region)) (n : ℕ) (r : Region) (table : List (Option Region)) → length (noted_at known n r table) ≡ length table
noted_at_length None n r table = refl
noted_at_length (Some (Some s)) n r table = refl
noted_at_length (Some None) n r table = length-set table n (Some r)

noted_length : (table : List (Option Region)) (ps : List (Region × Region)) → length (noted_places table ps) ≡ length table
noted_length table [] = refl
noted_length table ((Variable n, r) ∷ ps) = noted_length (noted_at (slice_get table n) n r table) ps ∙ noted_at_length (slice_get table n) n r table
noted_length table ((Heap, r) ∷ ps) = noted_length table ps
noted_length table ((Unique, r) ∷ ps) = noted_length table ps

-- In a table of regions, all elements are replaced by those of the table in which further regions are recorded. Replacing all elements
-- in this way yields the table with the further regions, since both tables have equal length.
pub noted_whole : (table : List (Option Region)) (ps : List (Region × Region)) → refill (length table) table (noted_places table ps) ≡ noted_places table ps
noted_whole table ps =
    let long : length (noted_places table ps) ≡ length table = noted_length table ps in
    ap (λ rest. take (length table) (noted_places table ps ++ rest)) (drop_all (length (noted_places table ps)) table (omega (arith, long)))
    ∙ ap (take (length table)) (append-nil (noted_places table ps))
    ∙ take_all (length table) (noted_places table ps) (omega (arith, long))

-- The region that a table gives for a region variable is the table's element at the variable's index, or the heap if none is recorded.
pub instance_at : (table : List (Option Region)) (n : ℕ) (o : Option Region) (d : Region) → slice_get table n ≡ Some o → slice_index_or (instance_in table) n d ≡ unwrap_or o Heap
instance_at [] n o d h = absurd (cc)
instance_at (x ∷ xs) zero o d h = ap (λ y. unwrap_or y Heap) (same_Some x o h)
instance_at (x ∷ xs) (suc n) o d h = instance_at xs n o d h

-- If up to 64 of the remaining region variables, none with a recorded region, are appended to the table,
-- the table still has only empty entries.
pub unplaced_more : (count left next : ℕ) (old new : List (Option Region)) → next ≤ 64 → next ≤ left → left ≤ count
    → old ≡ replicate (count - left) None → new ≡ old ++ take next (replicate 64 None) → new ≡ replicate (count - (left - next)) None
unplaced_more count left next old new few within most filled added =
    let sum : (count - left) + next ≡ count - (left - next) = omega arith in
    let none : Option Region = None in
    added ∙ ap (λ z. z ++ take next (replicate 64 none)) filled
    ∙ ap (λ z. replicate (count - left) none ++ z) (take-replicate next 64 none few)
    ∙ replicate-append-replicate (count - left) next none ∙ ap (λ (n : ℕ). replicate n none) sum

none_paired : (rs : List Region) → all_paired rs [] ≡ []
none_paired [] = refl
none_paired (r ∷ rs) = refl

-- If a list of regions has no elements from an index on, then pairing the regions of two lists from this index on yields no pairs.
pub paired_past : (rs ss : List Region) (i : ℕ) → length ss ≤ i → all_paired (drop i rs) (drop i ss) ≡ []
paired_past rs ss i le = ap (all_paired (drop i rs)) (drop_all i ss le) ∙ none_paired (drop i rs)

none_given : (ts : List Ty) → paired_arguments ts [] ≡ []
none_given [] = refl
none_given (t ∷ ts) = refl

module _ (ts : List TyCode) (cs : List ConvertedCode) (i : ℕ) where
  -- If a call has no values from an index on, then pairing the regions of parameters and arguments from this index on yields no pairs.
  pub given_past : length cs ≤ i → paired_arguments (map view_ty (drop i ts)) (map value_in (drop i cs)) ≡ []
  given_past le = ap (λ xs. paired_arguments (map view_ty (drop i ts)) (map value_in xs)) (drop_all i cs le) ∙ none_given (map view_ty (drop i ts))

  pub given_next : (table : List (Option Region)) (t : TyCode) (c : ConvertedCode) → i < length ts → t ≡ get_or ts i t → i < length cs → c ≡ get_or cs i c
      → noted_places table (paired_arguments (map view_ty (drop i ts)) (map value_in (drop i cs)))
      ≡ noted_places (noted_places table (paired_argument (view_ty t) (type_of (value_in c)))) (paired_arguments (map view_ty (drop (i + 1) ts)) (map value_in (drop (i + 1) cs)))
  given_next table t c lt_t is_t lt_c is_c =
      ap (λ xs. noted_places table (paired_arguments (map view_ty xs) (map value_in (drop i cs)))) (drop_read ts i t lt_t is_t)
      ∙ ap (λ xs. noted_places table (paired_arguments (map view_ty (t ∷ drop (i + 1) ts)) (map value_in xs))) (drop_read cs i c lt_c is_c)
      ∙ noted_append table (paired_argument (view_ty t) (type_of (value_in c))) (paired_arguments (map view_ty (drop (i + 1) ts)) (map value_in (drop (i + 1) cs)))

pub paired_int : (t : Ty) → paired t Int ≡ []
paired_int Int = refl
paired_int Char = refl
paired_int (Pointer k t r) = refl
paired_int (Handle r) = refl
paired_int (Key r) = refl
paired_int (Struct n rs) = refl

pub paired_char : (t : Ty) → paired t Char ≡ []
paired_char Int = refl
paired_char Char = refl
paired_char (Pointer k t r) = refl
paired_char (Handle r) = refl
paired_char (Key r) = refl
paired_char (Struct n rs) = refl

pub no_unique_int : (t : Ty) → list_any is_unique_for_variable (paired t Int) ≡ false
no_unique_int t = ap (list_any is_unique_for_variable) (paired_int t)

pub no_unique_char : (t : Ty) → list_any is_unique_for_variable (paired t Char) ≡ false
no_unique_char t = ap (list_any is_unique_for_variable) (paired_char t)

pub no_unique_heap : (t : Ty) → list_any is_unique_for_variable (paired t (Handle Heap)) ≡ false
no_unique_heap Int = refl
no_unique_heap Char = refl
no_unique_heap (Pointer k t r) = refl
no_unique_heap (Handle Heap) = refl
no_unique_heap (Handle Unique) = refl
no_unique_heap (Handle (Variable n)) = refl
no_unique_heap (Key r) = refl
no_unique_heap (Struct n rs) = refl

-- ---- the table from the variable with this number on

-- Returns the region at the first occurrence of a variable, if the variable occurs.
abbrev found : List (Region × Region) → ℕ → Option Region
found [] n = None
found (p ∷ ps) n = if region_eq p.0 (Variable n) then Some p.1 else found ps n

first_found : (ps : List (Region × Region)) (n : ℕ) → unwrap_or (found ps n) Heap ≡ first_place ps n
first_found [] n = refl
first_found (p ∷ ps) n = by_test (region_eq p.0 (Variable n)) (first_found ps n)
  where
    by_test : (b : Bool) → unwrap_or (found ps n) Heap ≡ first_place ps n → unwrap_or (cond b (Some p.1) (found ps n)) Heap ≡ cond b p.1 (first_place ps n)
    by_test true h = refl
    by_test false h = h

abbrev or_found : Option Region → List (Region × Region) → ℕ → Option Region
or_found (Some r) ps n = Some r
or_found None ps n = found ps n

abbrev filled : List (Option Region) → ℕ → List (Region × Region) → List (Option Region)
filled [] n ps = []
filled (o ∷ os) n ps = or_found o ps n ∷ filled os (suc n) ps

abbrev noted_if : Bool → Region → Option Region → Option Region
noted_if b s (Some r) = Some r
noted_if b s None = if b then Some s else None

abbrev noted_one : Option Region → ℕ → Region × Region → Option Region
noted_one o n p = noted_if (region_eq p.0 (Variable n)) p.1 o

abbrev noted_from : List (Option Region) → ℕ → Region × Region → List (Option Region)
noted_from [] n p = []
noted_from (o ∷ os) n p = noted_one o n p ∷ noted_from os (suc n) p

or_found_noted : (o : Option Region) (p : Region × Region) (ps : List (Region × Region)) (n : ℕ) → or_found (noted_one o n p) ps n ≡ or_found o (p ∷ ps) n
or_found_noted (Some r) p ps n = refl
or_found_noted None p ps n = by_test (region_eq p.0 (Variable n))
  where
    by_test : (b : Bool) → or_found (cond b (Some p.1) None) ps n ≡ cond b (Some p.1) (found ps n)
    by_test true = refl
    by_test false = refl

filled_noted : (table : List (Option Region)) (n : ℕ) (p : Region × Region) (ps : List (Region × Region)) → filled (noted_from table n p) n ps ≡ filled table n (p ∷ ps)
filled_noted [] n p ps = refl
filled_noted (o ∷ os) n p ps = ap (λ x. x ∷ filled (noted_from os (suc n) p) (suc n) ps) (or_found_noted o p ps n) ∙ ap (λ xs. or_found o (p ∷ ps) n ∷ xs) (filled_noted os (suc n) p ps)

filled_none : (table : List (Option Region)) (n : ℕ) → filled table n [] ≡ table
filled_none [] n = refl
filled_none (Some r ∷ os) n = ap (λ xs. Some r ∷ xs) (filled_none os (suc n))
filled_none (None ∷ os) n = ap (λ xs. None ∷ xs) (filled_none os (suc n))

noted_one-not : (o : Option Region) (n : ℕ) (r s : Region) → region_eq r (Variable n) ≡ false → noted_one o n (r, s) ≡ o
noted_one-not (Some q) n r s h = refl
noted_one-not None n r s h = ap (λ b. cond b (Some s) None) h

-- If a variable's number is smaller than the number of every variable in the table, then recording its region changes nothing.
noted_from-not : (table : List (Option Region)) (n : ℕ) (r s : Region) → ((k : ℕ) → n ≤ k → region_eq r (Variable k) ≡ false) → noted_from table n (r, s) ≡ table
noted_from-not [] n r s h = refl
noted_from-not (o ∷ os) n r s h =
    ap (λ x. x ∷ noted_from os (suc n) (r, s)) (noted_one-not o n r s (h n (omega arith)))
    ∙ ap (λ xs. o ∷ xs) (noted_from-not os (suc n) r s (λ k le. h k (omega (arith, le))))

below_is_another : (m k : ℕ) → m < k → region_eq (Variable m) (Variable k) ≡ false
below_is_another m k l = grind (arith, nat_tests)

above_is_another : (m k : ℕ) → m < k → region_eq (Variable k) (Variable m) ≡ false
above_is_another m k l = grind (arith, nat_tests)

same_variable : (m k : ℕ) → m ≡ k → region_eq (Variable m) (Variable k) ≡ true
same_variable m k e = eq-eqb m k e

-- The table contains, under the number of a variable, the region at the variable's first occurrence.
noted_from-at : (table : List (Option Region)) (n m : ℕ) (s : Region) → noted_from table n (Variable (n + m), s) ≡ noted_at (slice_get table m) m s table
noted_from-at [] n m s = refl
noted_from-at (o ∷ os) n zero s =
    ap (λ xs. noted_one o n (Variable (n + 0), s) ∷ xs) (noted_from-not os (suc n) (Variable (n + 0)) s (λ k le. below_is_another (n + 0) k (omega (arith, le))))
    ∙ at_head o
  where
    at_head : (o : Option Region) → noted_one o n (Variable (n + 0), s) ∷ os ≡ noted_at (Some o) 0 s (o ∷ os)
    at_head (Some r) = refl
    at_head None = ap (λ b. cond b (Some s) None ∷ os) (same_variable (n + 0) n (omega arith))
noted_from-at (o ∷ os) n (suc m) s =
    ap (λ x. x ∷ noted_from os (suc n) (Variable (n + suc m), s)) (noted_one-not o n (Variable (n + suc m)) s (above_is_another n (n + suc m) (omega arith)))
    ∙ ap (λ k. o ∷ noted_from os (suc n) (Variable k, s)) (next n m)
    ∙ ap (λ xs. o ∷ xs) (noted_from-at os (suc n) m s) ∙ following (slice_get os m)
  where
    next : (n m : ℕ) → n + suc m ≡ suc n + m
    next n m = omega arith

    following : (k : Option (Option Region)) → o ∷ noted_at k m s os ≡ noted_at k (suc m) s (o ∷ os)
    following None = refl
    following (Some None) = refl
    following (Some (Some r)) = refl

noted_from-place : (table : List (Option Region)) (p : Region × Region) → noted_place table p ≡ noted_from table 0 p
noted_from-place table (Heap, s) = sym (noted_from-not table 0 Heap s (λ k le. refl))
noted_from-place table (Unique, s) = sym (noted_from-not table 0 Unique s (λ k le. refl))
noted_from-place table (Variable m, s) = sym (noted_from-at table 0 m s) ∙ ap (λ k. noted_from table 0 (Variable k, s)) (zero_plus m)

-- ---- the order in which places are noted

noted_if-swap : (b c : Bool) (s t : Region) (o : Option Region) → (b ≡ true → c ≡ true → s ≡ t) → noted_if c t (noted_if b s o) ≡ noted_if b s (noted_if c t o)
noted_if-swap b c s t (Some r) h = refl
noted_if-swap true true s t None h = ap Some (h refl refl)
noted_if-swap true false s t None h = refl
noted_if-swap false true s t None h = refl
noted_if-swap false false s t None h = refl

noted_from-swap : (table : List (Option Region)) (n : ℕ) (p q : Region × Region) → ((k : ℕ) → region_eq p.0 (Variable k) ≡ true → region_eq q.0 (Variable k) ≡ true → p.1 ≡ q.1)
    → noted_from (noted_from table n p) n q ≡ noted_from (noted_from table n q) n p
noted_from-swap [] n p q h = refl
noted_from-swap (o ∷ os) n p q h =
    ap (λ x. x ∷ noted_from (noted_from os (suc n) p) (suc n) q) (noted_if-swap (region_eq p.0 (Variable n)) (region_eq q.0 (Variable n)) p.1 q.1 o (h n))
    ∙ ap (λ xs. noted_one (noted_one o n q) n p ∷ xs) (noted_from-swap os (suc n) p q h)

noted_place-swap : (table : List (Option Region)) (p q : Region × Region) → ((k : ℕ) → region_eq p.0 (Variable k) ≡ true → region_eq q.0 (Variable k) ≡ true → p.1 ≡ q.1)
    → noted_place (noted_place table p) q ≡ noted_place (noted_place table q) p
noted_place-swap table p q h =
    noted_from-place (noted_place table p) q ∙ ap (λ t. noted_from t 0 q) (noted_from-place table p) ∙ noted_from-swap table 0 p q h
    ∙ sym (noted_from-place (noted_place table q) p ∙ ap (λ t. noted_from t 0 p) (noted_from-place table q))

-- If the regions at two occurrences of one region variable both agree with the table of the variables'
-- regions at the call, then these regions are equal.
stand_alike : (m : List Region) (p q : Region × Region) (k : ℕ) → region_eq p.1 (substituted_region m p.0) ≡ true → region_eq q.1 (substituted_region m q.0) ≡ true
    → region_eq p.0 (Variable k) ≡ true → region_eq q.0 (Variable k) ≡ true → p.1 ≡ q.1
stand_alike m p q k h i f g =
    region_eq-true p.1 (substituted_region m p.0) h ∙ ap (substituted_region m) (region_eq-true p.0 (Variable k) f ∙ sym (region_eq-true q.0 (Variable k) g))
    ∙ sym (region_eq-true q.1 (substituted_region m q.0) i)

-- The region at one occurrence may be recorded before or after the regions at the other occurrences.
pub noted_before : (m : List Region) (table : List (Option Region)) (p : Region × Region) (ps : List (Region × Region)) → region_eq p.1 (substituted_region m p.0) ≡ true → AllStand m ps
    → noted_places (noted_place table p) ps ≡ noted_place (noted_places table ps) p
noted_before m table p [] h all = refl
noted_before m table p (q ∷ ps) h all =
    ap (λ t. noted_places t ps) (noted_place-swap table p q (λ k. stand_alike m p q k h all.0)) ∙ noted_before m (noted_place table q) p ps h all.1

filled_places : (table : List (Option Region)) (ps : List (Region × Region)) → noted_places table ps ≡ filled table 0 ps
filled_places table [] = sym (filled_none table 0)
filled_places table (p ∷ ps) = filled_places (noted_place table p) ps ∙ ap (λ t. filled t 0 ps) (noted_from-place table p) ∙ filled_noted table 0 p ps

unplaced : (k n : ℕ) (ps : List (Region × Region)) → map (λ o. unwrap_or o Heap) (filled (replicate k None) n ps) ≡ first_places ps k n
unplaced zero n ps = refl
unplaced (suc k) n ps = ap (λ r. r ∷ map (λ o. unwrap_or o Heap) (filled (replicate k None) (suc n) ps)) (first_found ps n) ∙ ap (λ rs. first_place ps n ∷ rs) (unplaced k (suc n) ps)

-- The recorded table contains the heap, followed by the region at the first occurrence of each variable.
pub instance_found : (k : ℕ) (ps : List (Region × Region)) → map (λ o. unwrap_or o Heap) (noted_places (Some Heap ∷ replicate k None) ps) ≡ Heap ∷ first_places ps k 1
instance_found k ps = ap (map (λ o. unwrap_or o Heap)) (filled_places (Some Heap ∷ replicate k None) ps) ∙ ap (λ rs. Heap ∷ rs) (unplaced k 1 ps)
