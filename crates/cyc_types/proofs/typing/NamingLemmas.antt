-- Lemmas: a region named in a signature is one that its parameters declare, the heap, or the unique region.
use Rattle.std.proofs.Common.{◌≡◌, ◌≢◌, ◌⊎◌, ℕ, zero, suc, ◌+◌, ◌<◌, ◌≤◌, Bool, true, false, cond, not, nat_eq, ◌&&◌, ◌||◌, List, [], ◌∷◌, Option, Some, None, map, replicate, inl, inr, refl, sym, ap, subst, ◌∙◌, arith}
use Rattle.std.specs.Prelude.{is_some, unwrap_or}
use Rattle.std.proofs.lemmas.Bool.{and_parts, and_from, or_left, eqb-true, true≢false, not-true}
use Rattle.std.proofs.lemmas.Option.{none-some}
use Rattle.cyc_words.proofs.Numbers.{le_trans}
use Rattle.cyc_syntax.specs.Trees.{Named, Pointer, BaseType, Struct, WrittenType, Member, Constraint}
use Rattle.cyc_syntax.specs.Trees as written
use Rattle.cyc_types.specs.declared.region.Region.{Region}
use Rattle.cyc_types.specs.declared.region.Region.TheVariants.{Heap, Unique, Variable}
use Rattle.cyc_types.specs.Types.{region_eq, Ty, Int, Handle, Key}
use Rattle.cyc_types.specs.Types as types
use Rattle.cyc_types.specs.Outlives.{names_no_unique}
use Rattle.cyc_types.specs.Rules.{AllKept, Derives}
use Rattle.cyc_types.specs.typing.Scopes.{RegionName, StructName, region_among}
use Rattle.cyc_types.specs.typing.Formation.{region_of, region_or, base_written, left_out_at, pointers_written, Naming, region_for, after_known, after_region, mark_for, after_mark, regions_for, after_regions}
use Rattle.cyc_types.specs.typing.Formation.{base_for, after_base, pointers_for, after_marks, type_for, after_type, types_for, after_members, is_known, is_name_of, base_demanded, type_demanded, is_key_of}
use Rattle.cyc_types.specs.typing.DeclarationRules.{Known, result_written, has_key, and_result, without_keys, effect_of, constraints_of, rule_parameters, effect_demanded, rule_effect, constraints_demanded}
use Rattle.cyc_types.specs.typing.WellTyped.{IsNamed, AreNamed, IsNamedIn, AreNamedIn, IsNamedResult, AreConstraints, IsKeyless, AreKeyless}
use Rattle.cyc_types.proofs.RegionLemmas.{region_eq-refl}
use Rattle.cyc_types.proofs.ClosureLemmas.{not_unique}
use Rattle.cyc_types.proofs.typing.TestLemmas.{kept_append}
use Rattle.cyc_types.proofs.typing.ExpressionLemmas.{IsKeyOfVariable}

-- says that each name either is no declared region name, or denotes the heap or the unique region, as at a program's start
abbrev pub IsBase : List RegionName → Type 0
IsBase names = (x : ℕ) → (region_among names x ≡ None) ⊎ ((region_among names x ≡ Some Heap) ⊎ (region_among names x ≡ Some Unique))

-- says that a name denotes the same region before and after some declarations, or was undeclared and now denotes a
-- region variable below `next`
abbrev IsOld : ℕ → (before now : Option Region) → Type 0
IsOld next before now = (now ≡ before) ⊎ ((m : ℕ) × (now ≡ Some (Variable m)) × (1 ≤ m) × (m < next) × (before ≡ None))

old_weaker : (n m : ℕ) (before now : Option Region) → n ≤ m → IsOld n before now → IsOld m before now
old_weaker n m before now l (inl e) = inl e
old_weaker n m before now l (inr (k, is, one, below, none)) = inr (k, is, one, (omega arith), none)

-- the region that a name denotes is one of the first k region variables, the heap or the unique region
named_of : (k n : ℕ) (before : Option Region) (now : Option Region) → (before ≡ None) ⊎ ((before ≡ Some Heap) ⊎ (before ≡ Some Unique)) → IsOld n before now → n ≤ suc k → (r : Region) → now ≡ Some r → IsNamed k r
named_of k n before now (inl e) (inl same) l r is = absurd (none-some r (sym e ∙ (sym same ∙ is)))
named_of k n before now (inr (inl e)) (inl same) l Heap is = tt
named_of k n before now (inr (inl e)) (inl same) l Unique is = tt
named_of k n before now (inr (inl e)) (inl same) l (Variable m) is = let f : Some Heap ≡ Some (Variable m) = sym e ∙ (sym same ∙ is) in absurd (cc)
named_of k n before now (inr (inr e)) (inl same) l Heap is = tt
named_of k n before now (inr (inr e)) (inl same) l Unique is = tt
named_of k n before now (inr (inr e)) (inl same) l (Variable m) is = let f : Some Unique ≡ Some (Variable m) = sym e ∙ (sym same ∙ is) in absurd (cc)
named_of k n before now b (inr (m, at_m, one, below, none)) l r is =
    subst (IsNamed k) (ap (λ o. unwrap_or o Heap) (sym at_m ∙ is)) (one, (omega arith))

module _ (base : List RegionName) (is_base : IsBase base) where
  pub record IsNumbered (n : Naming) : Type 0 where
    pub one : 1 ≤ n.next
    pub old : (x : ℕ) → IsOld n.next (region_among base x) (region_among n.names x)

  -- ---- names keep consecutive numbers

  after_region_numbered : (n : Naming) (r : Named) → IsNumbered n → IsNumbered (after_region n r)
  after_region_numbered n r i = go (region_among n.names r.name) refl
    where
      new : region_among n.names r.name ≡ None → (x : ℕ) (b : Bool) → nat_eq r.name x ≡ b → IsOld (suc n.next) (region_among base x) (cond b (Some (Variable n.next)) (region_among n.names x))
      new e x false is = old_weaker n.next (suc n.next) (region_among base x) (region_among n.names x) (omega arith) (i.old x)
      new e x true is =
          let same : r.name ≡ x = eqb-true r.name x is in
          let none : region_among base r.name ≡ None = elim (i.old r.name) [ inl s ↦ sym s ∙ e | inr m ↦ absurd (none-some (Variable m.0) (sym e ∙ m.1)) ] in
          let l : 1 ≤ n.next = i.one in
          inr (n.next, refl, l, (omega arith), subst (λ y. region_among base y ≡ None) same none)

      go : (o : Option Region) → region_among n.names r.name ≡ o → IsNumbered (after_known o r n)
      go (Some k) e = i
      go None e = record { one = (let l : 1 ≤ n.next = i.one in let k : 1 ≤ suc n.next = omega arith in k); old = λ x. new e x (nat_eq r.name x) refl }

  after_mark_numbered : (n : Naming) (o : Option Named) → IsNumbered n → IsNumbered (after_mark n o)
  after_mark_numbered n None i = record {
    one = (let l : 1 ≤ n.next = i.one in let k : 1 ≤ suc n.next = omega arith in k);
    old = λ x. old_weaker n.next (suc n.next) (region_among base x) (region_among n.names x) (omega arith) (i.old x);
  }
  after_mark_numbered n (Some r) i = after_region_numbered n r i

  after_regions_numbered : (n : Naming) (rs : List Named) → IsNumbered n → IsNumbered (after_regions n rs)
  after_regions_numbered n [] i = i
  after_regions_numbered n (r ∷ rs) i = after_regions_numbered (after_region n r) rs (after_region_numbered n r i)

  after_base_numbered : (n : Naming) (b : BaseType) → IsNumbered n → IsNumbered (after_base n b)
  after_base_numbered n written.Int i = i
  after_base_numbered n written.Char i = i
  after_base_numbered n (Struct s rs) i = after_regions_numbered n rs i
  after_base_numbered n (written.Handle r) i = after_region_numbered n r i
  after_base_numbered n (written.Key r) i = after_region_numbered n r i

  after_marks_numbered : (n : Naming) (ms : List Pointer) → IsNumbered n → IsNumbered (after_marks n ms)
  after_marks_numbered n [] i = i
  after_marks_numbered n (m ∷ ms) i = after_marks_numbered (after_mark n m.region) ms (after_mark_numbered n m.region i)

  after_type_numbered : (n : Naming) (w : WrittenType) → IsNumbered n → IsNumbered (after_type n w)
  after_type_numbered n w i = after_marks_numbered (after_base n w.base) w.marks (after_base_numbered n w.base i)

  pub after_members_numbered : (n : Naming) (ms : List Member) → IsNumbered n → IsNumbered (after_members n ms)
  after_members_numbered n [] i = i
  after_members_numbered n (m ∷ ms) i = after_members_numbered (after_type n m.of_type) ms (after_type_numbered n m.of_type i)

  -- ---- the next number only grows

  region_grows : (n : Naming) (r : Named) → n.next ≤ (after_region n r).next
  region_grows n r = go (region_among n.names r.name)
    where
      go : (o : Option Region) → n.next ≤ (after_known o r n).next
      go (Some k) = omega arith
      go None = let l : n.next ≤ suc n.next = omega arith in l

  mark_grows : (n : Naming) (o : Option Named) → n.next ≤ (after_mark n o).next
  mark_grows n None = let l : n.next ≤ suc n.next = omega arith in l
  mark_grows n (Some r) = region_grows n r

  regions_grow : (n : Naming) (rs : List Named) → n.next ≤ (after_regions n rs).next
  regions_grow n [] = omega arith
  regions_grow n (r ∷ rs) = le_trans n.next (after_region n r).next (after_regions (after_region n r) rs).next (region_grows n r) (regions_grow (after_region n r) rs)

  marks_grow : (n : Naming) (ms : List Pointer) → n.next ≤ (after_marks n ms).next
  marks_grow n [] = omega arith
  marks_grow n (m ∷ ms) = le_trans n.next (after_mark n m.region).next (after_marks (after_mark n m.region) ms).next (mark_grows n m.region) (marks_grow (after_mark n m.region) ms)

  base_grows : (n : Naming) (b : BaseType) → n.next ≤ (after_base n b).next
  base_grows n written.Int = omega arith
  base_grows n written.Char = omega arith
  base_grows n (Struct s rs) = regions_grow n rs
  base_grows n (written.Handle r) = region_grows n r
  base_grows n (written.Key r) = region_grows n r

  members_grow : (n : Naming) (ms : List Member) → n.next ≤ (after_members n ms).next
  members_grow n [] = omega arith
  members_grow n (m ∷ ms) =
      le_trans n.next (after_type n m.of_type).next (after_members (after_type n m.of_type) ms).next
      (le_trans n.next (after_base n m.of_type.base).next (after_type n m.of_type).next (base_grows n m.of_type.base) (marks_grow (after_base n m.of_type.base) m.of_type.marks))
      (members_grow (after_type n m.of_type) ms)

  -- ---- the types of parameters

  region_named : (k : ℕ) (n : Naming) (r : Named) → IsNumbered n → (after_region n r).next ≤ suc k → IsNamed k (region_for n r)
  region_named k n r i l = go (region_among n.names r.name) refl l
    where
      go : (o : Option Region) → region_among n.names r.name ≡ o → (after_known o r n).next ≤ suc k → IsNamed k (unwrap_or o (Variable n.next))
      go (Some s) e m = named_of k n.next (region_among base r.name) (region_among n.names r.name) (is_base r.name) (i.old r.name) m s e
      go None e m = let one : 1 ≤ n.next = i.one in (one, (omega arith))

  mark_named : (k : ℕ) (n : Naming) (o : Option Named) → IsNumbered n → (after_mark n o).next ≤ suc k → IsNamed k (mark_for n o)
  mark_named k n None i l = let one : 1 ≤ n.next = i.one in (one, (omega arith))
  mark_named k n (Some r) i l = region_named k n r i l

  regions_named : (k : ℕ) (n : Naming) (rs : List Named) → IsNumbered n → (after_regions n rs).next ≤ suc k → AreNamed k (regions_for n rs)
  regions_named k n [] i l = tt
  regions_named k n (r ∷ rs) i l = (
    region_named k n r i (le_trans (after_region n r).next (after_regions (after_region n r) rs).next (suc k) (regions_grow (after_region n r) rs) l),
    regions_named k (after_region n r) rs (after_region_numbered n r i) l,
  )

  heaps_named : (k m : ℕ) → AreNamed k (replicate m Heap)
  heaps_named k zero = tt
  heaps_named k (suc m) = (tt, heaps_named k m)

  base_named : (structs : List StructName) (k : ℕ) (n : Naming) (b : BaseType) → IsNumbered n → (after_base n b).next ≤ suc k → IsNamedIn k (base_for structs n b)
  base_named structs k n written.Int i l = tt
  base_named structs k n written.Char i l = tt
  base_named structs k n (Struct s []) i l = heaps_named k _
  base_named structs k n (Struct s (r ∷ rs)) i l = regions_named k n (r ∷ rs) i l
  base_named structs k n (written.Handle r) i l = region_named k n r i l
  base_named structs k n (written.Key r) i l = region_named k n r i l

  pointers_named : (k : ℕ) (n : Naming) (t : Ty) (ms : List Pointer) → IsNumbered n → IsNamedIn k t → (after_marks n ms).next ≤ suc k → IsNamedIn k (pointers_for n t ms)
  pointers_named k n t [] i named l = named
  pointers_named k n t (m ∷ ms) i named l =
      pointers_named k (after_mark n m.region) (types.Pointer m.kind t (mark_for n m.region)) ms (after_mark_numbered n m.region i)
      (named, mark_named k n m.region i (le_trans (after_mark n m.region).next (after_marks (after_mark n m.region) ms).next (suc k) (marks_grow (after_mark n m.region) ms) l)) l

  pub types_named : (structs : List StructName) (k : ℕ) (n : Naming) (ms : List Member) → IsNumbered n → (after_members n ms).next ≤ suc k → AreNamedIn k (types_for structs n ms)
  types_named structs k n [] i l = tt
  types_named structs k n (m ∷ ms) i l =
      let bound : (after_type n m.of_type).next ≤ suc k = le_trans (after_type n m.of_type).next (after_members (after_type n m.of_type) ms).next (suc k) (members_grow (after_type n m.of_type) ms) l in (
        pointers_named k (after_base n m.of_type.base) (base_for structs n m.of_type.base) m.of_type.marks (after_base_numbered n m.of_type.base i)
            (base_named structs k n m.of_type.base i (le_trans (after_base n m.of_type.base).next (after_type n m.of_type).next (suc k) (marks_grow (after_base n m.of_type.base) m.of_type.marks) bound)) bound,
        types_named structs k (after_type n m.of_type) ms (after_type_numbered n m.of_type i) l,
      )

  -- ---- types and regions mention only what the parameters declare

  known_named : (k : ℕ) (n : Naming) (r : Named) → IsNumbered n → n.next ≤ suc k → IsNamed k (region_of n.names r)
  known_named k n r i l = go (region_among n.names r.name) refl
    where
      go : (o : Option Region) → region_among n.names r.name ≡ o → IsNamed k (unwrap_or o Heap)
      go None e = tt
      go (Some s) e = named_of k n.next (region_among base r.name) (region_among n.names r.name) (is_base r.name) (i.old r.name) l s e

  all_known_named : (k : ℕ) (n : Naming) (rs : List Named) → IsNumbered n → n.next ≤ suc k → AreNamed k (map (region_of n.names) rs)
  all_known_named k n [] i l = tt
  all_known_named k n (r ∷ rs) i l = (known_named k n r i l, all_known_named k n rs i l)

  written_base_named : (structs : List StructName) (k : ℕ) (n : Naming) (b : BaseType) → IsNumbered n → n.next ≤ suc k → IsNamedIn k (base_written structs n.names b)
  written_base_named structs k n written.Int i l = tt
  written_base_named structs k n written.Char i l = tt
  written_base_named structs k n (Struct s []) i l = heaps_named k _
  written_base_named structs k n (Struct s (r ∷ rs)) i l = all_known_named k n (r ∷ rs) i l
  written_base_named structs k n (written.Handle r) i l = known_named k n r i l
  written_base_named structs k n (written.Key r) i l = known_named k n r i l

  left_out_named : (k : ℕ) (n : Naming) (d : Region) (o : Option Named) → IsNumbered n → n.next ≤ suc k → IsNamed k d → IsNamed k (region_or n.names d o)
  left_out_named k n d None i l named = named
  left_out_named k n d (Some r) i l named = known_named k n r i l

  at_heap : (k : ℕ) (ms : List Pointer) → IsNamed k (left_out_at Heap ms)
  at_heap k [] = tt
  at_heap k (m ∷ ms) = tt

  written_pointers_named : (k : ℕ) (n : Naming) (t : Ty) (ms : List Pointer) → IsNumbered n → n.next ≤ suc k → IsNamedIn k t → IsNamedIn k (pointers_written n.names Heap t ms)
  written_pointers_named k n t [] i l named = named
  written_pointers_named k n t (m ∷ ms) i l named =
      written_pointers_named k n (types.Pointer m.kind t (region_or n.names (left_out_at Heap ms) m.region)) ms i l (named, left_out_named k n (left_out_at Heap ms) m.region i l (at_heap k ms))

  pub result_named : (known : Known) (k : ℕ) (n : Naming) (r : Option WrittenType) → IsNumbered n → n.next ≤ suc k → IsNamedResult k (result_written known n.names r)
  result_named known k n None i l = tt
  result_named known k n (Some w) i l = written_pointers_named k n (base_written known.structs n.names w.base) w.marks i l (written_base_named known.structs k n w.base i l)

  -- ---- effects and constraints

  variables_named : (ts : List Ty) (k m n : ℕ) → 1 ≤ n → n + m ≤ suc k → AreNamed k (without_keys ts m n)
  variables_named ts k zero n one l = tt
  variables_named ts k (suc m) n one l = go (has_key ts (Variable n)) (variables_named ts k m (suc n) (omega arith) (omega arith))
    where
      go : (b : Bool) → AreNamed k (without_keys ts m (suc n)) → AreNamed k (cond b (without_keys ts m (suc n)) (Variable n ∷ without_keys ts m (suc n)))
      go true rest = rest
      go false rest = ((one, (omega arith)), rest)

  pub effect_named : (ts : List Ty) (k : ℕ) (n : Naming) (o : Option (List Named)) → IsNumbered n → n.next ≤ suc k → AreNamed k (effect_of n.names ts k o)
  effect_named ts k n None i l = variables_named ts k k 1 (omega arith) (omega arith)
  effect_named ts k n (Some rs) i l = all_known_named k n rs i l

no_key_keyless : (r : Region) (ts : List Ty) → has_key ts r ≡ false → IsKeyless r ts
no_key_keyless r [] e = tt
no_key_keyless r (t ∷ ts) e = (one, no_key_keyless r ts (rest (is_key_of r t) e))
  where
    rest : (b : Bool) → b || has_key ts r ≡ false → has_key ts r ≡ false
    rest true f = absurd (cc)
    rest false f = f

    one : t ≢ Key r
    one is = absurd (true≢false (sym (or_left (is_key_of r t) (has_key ts r) (subst (λ z. is_key_of r z ≡ true) (sym is) (region_eq-refl r))) ∙ e))

-- if neither a parameter type nor the result type is a key of a region, then no parameter type is
without_result : (r : Region) (ts : List Ty) (o : Option Ty) → has_key (and_result ts o) r ≡ false → has_key ts r ≡ false
without_result r ts None e = e
without_result r ts (Some t) e = rest (is_key_of r t) e
  where
    rest : (b : Bool) → b || has_key ts r ≡ false → has_key ts r ≡ false
    rest true f = absurd (cc)
    rest false f = f

variable_not_unique : (n : ℕ) → Variable n ≢ Unique
variable_not_unique n e = absurd (cc)

variables_keyless : (ts : List Ty) (o : Option Ty) (m n : ℕ) → AreKeyless (without_keys (and_result ts o) m n) ts
variables_keyless ts o zero n = tt
variables_keyless ts o (suc m) n = go (has_key (and_result ts o) (Variable n)) refl (variables_keyless ts o m (suc n))
  where
    go : (b : Bool) → has_key (and_result ts o) (Variable n) ≡ b → AreKeyless (without_keys (and_result ts o) m (suc n)) ts → AreKeyless (cond b (without_keys (and_result ts o) m (suc n)) (Variable n ∷ without_keys (and_result ts o) m (suc n))) ts
    go true e rest = rest
    go false e rest = ((variable_not_unique n, no_key_keyless (Variable n) ts (without_result (Variable n) ts o e)), rest)

-- if a region name is declared and does not name the unique region, its region differs from the unique region
pub other_than_unique : (names : List RegionName) (r : Named) → is_known names r ≡ true → not (is_name_of names Unique r) ≡ true → region_of names r ≢ Unique
other_than_unique names r k u = go (region_among names r.name) k u
  where
    stands : Region → Option Region → Bool
    stands s None = false
    stands s (Some known) = region_eq known s

    go : (o : Option Region) → is_some o ≡ true → not (stands Unique o) ≡ true → unwrap_or o Heap ≢ Unique
    go None k u = absurd (cc)
    go (Some s) k u = λ is. absurd (true≢false (sym (subst (λ z. region_eq z Unique ≡ true) (sym is) refl) ∙ not-true (region_eq s Unique) u))

written_keyless : (names : List RegionName) (ts : List Ty) (o : Option Ty) (rs : List Named) → AllKept (effect_demanded names (and_result ts o) rs) → AreKeyless (map (region_of names) rs) ts
written_keyless names ts o [] kept = tt
written_keyless names ts o (r ∷ rs) (known, (one, kept)) =
    let (unique, keyless) = and_parts (not (is_name_of names Unique r)) (not (has_key (and_result ts o) (region_of names r))) one in
    ((other_than_unique names r known unique, no_key_keyless (region_of names r) ts (without_result (region_of names r) ts o (not-true (has_key (and_result ts o) (region_of names r)) keyless))), written_keyless names ts o rs kept)

pub effect_keyless : (names : List RegionName) (ts : List Ty) (o : Option Ty) (n : ℕ) (e : Option (List Named)) → Derives (rule_effect names (and_result ts o) e) tt → AreKeyless (effect_of names (and_result ts o) n e) ts
effect_keyless names ts o n None d = variables_keyless ts o n 1
effect_keyless names ts o n (Some rs) (kept, eq) = written_keyless names ts o rs kept

pub constraints_written : (base : List RegionName) (is_base : IsBase base) (k : ℕ) (n : Naming) (cs : List Constraint) → IsNumbered base is_base n → n.next ≤ suc k → AllKept (constraints_demanded n.names cs)
    → AreConstraints k (constraints_of n.names cs) × (names_no_unique (constraints_of n.names cs) ≡ true)
constraints_written base is_base k n [] i l kept = (tt, refl)
constraints_written base is_base k n (c ∷ cs) i l (a, (b, (d, (e, kept)))) =
    let longer : region_of n.names c.longer ≢ Unique = other_than_unique n.names c.longer a b in
    let shorter : region_of n.names c.shorter ≢ Unique = other_than_unique n.names c.shorter d e in
    let (rest, none) = constraints_written base is_base k n cs i l kept in (
      ((known_named base is_base k n c.longer i l, longer, known_named base is_base k n c.shorter i l, shorter), rest),
      and_from (not (region_eq (region_of n.names c.longer) Unique) && not (region_eq (region_of n.names c.shorter) Unique)) _
          (and_from (not (region_eq (region_of n.names c.longer) Unique)) (not (region_eq (region_of n.names c.shorter) Unique)) (not_unique (region_of n.names c.longer) longer) (not_unique (region_of n.names c.shorter) shorter)) none,
    )

-- ---- keys among the parameters

abbrev pub AreKeysOfVariables : List Ty → Type 0
AreKeysOfVariables [] = Unit {0}
AreKeysOfVariables (t ∷ ts) = IsKeyOfVariable t × AreKeysOfVariables ts

module _ (base : List RegionName) (is_base : IsBase base) where
  key_for : (n : Naming) (r : Named) → IsNumbered base is_base n → not (is_name_of base Unique r) ≡ true → not (is_name_of base Heap r) ≡ true → IsKeyOfVariable (Key (region_for n r))
  key_for n r i u e = go (region_among base r.name) (region_among n.names r.name) (i.old r.name) (is_base r.name) u e
    where
      stands : Region → Option Region → Bool
      stands s None = false
      stands s (Some known) = region_eq known s

      go : (before now : Option Region) → IsOld n.next before now → (before ≡ None) ⊎ ((before ≡ Some Heap) ⊎ (before ≡ Some Unique)) → not (stands Unique before) ≡ true → not (stands Heap before) ≡ true
          → IsKeyOfVariable (Key (unwrap_or now (Variable n.next)))
      go before now (inr (m, is, one, below, none)) b u e = subst (λ o. IsKeyOfVariable (Key (unwrap_or o (Variable n.next)))) (sym is) tt
      go before now (inl same) (inl none) u e = subst (λ o. IsKeyOfVariable (Key (unwrap_or o (Variable n.next)))) (sym (same ∙ none)) tt
      go before now (inl same) (inr (inl heap)) u e = absurd (true≢false (sym (subst (λ o. not (stands Heap o) ≡ true) heap e)))
      go before now (inl same) (inr (inr unique)) u e = absurd (true≢false (sym (subst (λ o. not (stands Unique o) ≡ true) unique u)))

  pointers_for_no_key : (n : Naming) (t : Ty) (m : Pointer) (ms : List Pointer) → IsKeyOfVariable (pointers_for n t (m ∷ ms))
  pointers_for_no_key n t m [] = tt
  pointers_for_no_key n t m (o ∷ ms) = pointers_for_no_key (after_mark n m.region) (types.Pointer m.kind t (mark_for n m.region)) o ms

  key_formed : (structs : List StructName) (own : ℕ) (n : Naming) (w : WrittenType) → IsNumbered base is_base n → AllKept (type_demanded structs base (Some own) w) → IsKeyOfVariable (type_for structs n w)
  key_formed structs own n w i kept = go w.base w.marks (kept_append (base_demanded structs base (Some own) w.place w.base) _ kept).0
    where
      go : (b : BaseType) (ms : List Pointer) → AllKept (base_demanded structs base (Some own) w.place b) → IsKeyOfVariable (pointers_for (after_base n b) (base_for structs n b) ms)
      go written.Int [] k = tt
      go written.Char [] k = tt
      go (Struct s rs) [] k = tt
      go (written.Handle r) [] k = tt
      go (written.Key r) [] (new, (unique, (heap, u))) = key_for n r i unique heap
      go b (m ∷ ms) k = pointers_for_no_key (after_base n b) (base_for structs n b) m ms

pub keys_formed : (k : Known) (is_base : IsBase k.regions) (own : ℕ) (before : List ℕ) (n : Naming) (ms : List Member) (u : Unit {0}) → IsNumbered k.regions is_base n → Derives (rule_parameters k own before ms) u
    → AreKeysOfVariables (types_for k.structs n ms)
keys_formed k is_base own before n [] u i d = tt
keys_formed k is_base own before n (m ∷ ms) u i (v, (kept, eq), (w, new, d)) =
    (key_formed k.regions is_base k.structs own n m.of_type i kept, keys_formed k is_base own (m.name.name ∷ before) (after_type n m.of_type) ms u (after_type_numbered k.regions is_base n m.of_type i) d)
