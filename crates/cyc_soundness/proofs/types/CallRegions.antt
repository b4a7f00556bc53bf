-- This file is about the lifetimes that region variables denote in a call: those of the call's loans, of the types in its
-- function, and of its struct fields and globals.
use Rattle.std.proofs.Common.{◌≡◌, ◌≢◌, inl, inr, ℕ, zero, suc, ◌≤◌, ◌<◌, Bool, true, false, List, [], ◌∷◌, length, map, Some, slice_get, refl, sym, ap, subst, ◌∙◌, arith}
use Rattle.std.specs.Prelude.{Option, None, option_map, if◌then◌else◌, ◌==◌, Contains, slice_index_or}
use Rattle.std.proofs.lemmas.Bool.{eqb-true, eq-eqb}
use Rattle.cyc_words.proofs.Members.{Contains-empty, Contains-cons_cases}
use Rattle.cyc_types.specs.declared.region.Region.{Region}
use Rattle.cyc_types.specs.declared.region.Region.TheVariants as regions
use Rattle.cyc_types.specs.declared.scope.Kind.{Kind}
use Rattle.cyc_types.specs.declared.scope.Kind.TheVariants as scopes
use Rattle.cyc_types.specs.Outlives.{RegionContext, live_regions, is_outlived_by_live, IsGiven, OutlivesIn}
use Rattle.cyc_types.specs.Types.{substituted_region, Ty, result_type, substituted_ty}
use Rattle.cyc_types.specs.TypedTrees.{Dereference, Target, Member, Element, StructType, Function, Program}
use Rattle.cyc_types.specs.Types as types
use Rattle.cyc_types.specs.typing.Scopes.{with_scope}
use Rattle.cyc_types.specs.typing.WellTyped.{LocalInScope, Context, IsLive, AreLive, AreOutliving, IsCell, body_context, parameters_in_scope, IsNamed, AreNamed as AreNamedRegions, IsNamedIn}
use Rattle.cyc_types.specs.typing.WellTyped.{AreNamedIn, IsNamedResult, AreConstraints, IsWellTypedFunction, with_region, with_opened, with_key_opened, AreNotUnique}
use Rattle.cyc_soundness.specs.inside.Lives.{Life, Lives, at, value_at, heap_life, lives_of, as_heap, AllOf, AllIn, AllInValue, IsKnown, IsOther}
use Rattle.cyc_soundness.specs.inside.Worlds.{Outlasts, heap as for_ever, IsNumber}
use Rattle.cyc_soundness.specs.inside.Classes.{IsDeclarable}
use Rattle.cyc_soundness.specs.inside.Frames.{later, InScope, Names, life_named, is_live_named, lives_in, read, read_value, home_of, lives_among, IsThereBy, Exits, AreNamed, Stand, IsHome, AreKnownLocals, AreKnown, IsContext}
use Rattle.cyc_soundness.specs.inside.Awaited.{regions_at_call, IsInstance}
use Rattle.cyc_soundness.proofs.types.TypeLemmas.{all_in_weaker, every_in, read_alike, value_alike, lives_by, instance_by, result_by}
use Rattle.cyc_soundness.proofs.types.RegionLemmas.{other_name, same_name, other_life, other_there, also_opened, again_life, again_there, in_value, every_value, others_value, known_others, scope_kept, known_after, known_opened, known_live, known_pairs, renamed, there_of, agrees_of}

stand_named : (number : ℕ) (l : Life) (alive : Bool) (c : RegionContext) (bs : List InScope)
    → ((r : Region) → Contains (live_regions c.live c.opened) r → IsOther number r) → ((a b : Region) → Contains c.written (a, b) → IsOther number a × IsOther number b)
    → Stand c bs → Stand c (Names number l alive ∷ bs)
stand_named number l alive c bs others pairs stand =
    renamed number l alive c bs (IsOther number) (λ r other. other_life number l alive bs r other) (λ r other there. other_there number l alive bs r other there) others pairs stand

stand_again : (number : ℕ) (c : RegionContext) (bs : List InScope) → Stand c bs → Stand c (Names number (life_named bs number) true ∷ bs)
stand_again number c bs stand =
    renamed number (life_named bs number) true c bs (λ r. Unit {0}) (λ r is. again_life number bs r) (λ r is there. again_there number (life_named bs number) bs r there) (λ r has. tt) (λ a b has. (tt, tt)) stand

stand_also : (kind : Kind) (number : ℕ) (l : Life) (c : RegionContext) (bs : List InScope) → is_outlived_by_live kind ≡ false → Stand c (Names number l true ∷ bs)
    → Stand (with_scope kind (regions.Variable number) c) (Names number l true ∷ bs)
stand_also kind number l c bs older stand =
    also_opened kind number c (λ n. life_named (Names number l true ∷ bs) n) (λ n. is_live_named (Names number l true ∷ bs) n) older (same_name number true (is_live_named bs number)) stand

home_named : (region number : ℕ) (l : Life) (alive : Bool) (bs : List InScope) → life_named bs region ≡ life_named (Names number l alive ∷ bs) region
    → (is_live_named bs region ≡ true → is_live_named (Names number l alive ∷ bs) region ≡ true) → IsHome region bs → IsHome region (Names number l alive ∷ bs)
home_named region number l alive bs same still (at_home, there) = (subst (λ k. IsNumber k (home_of bs)) same at_home, still there)

known_in_dynamic : (n r : ℕ) (c : RegionContext) (vs : List LocalInScope) (result : Option Ty) → r < n → AreKnown n c vs result → AreKnown n (with_scope scopes.Dynamic (regions.Variable r) c) vs result
known_in_dynamic n r c vs result less known = record { live = live; pairs = known.pairs; locals = known.locals; gives = known.gives }
  where
    live : (s : Region) → Contains (regions.Variable r ∷ live_regions c.live c.opened) s → IsKnown n s
    live s has = elim (Contains-cons_cases (regions.Variable r) (live_regions c.live c.opened) s has) [
      | inl new ↦ subst (λ z. IsKnown n z) new less
      | inr old ↦ known.live s old
    ]

live_other : (c : Context) → AreKnown c.next_region c.regions c.locals c.result → IsLive c (regions.Variable c.region) → c.region ≢ c.next_region
live_other c known live = let less : c.region < c.next_region = known.live (regions.Variable c.region) live in λ e. absurd (omega (arith, less, e))

module _ (p : Program) (x : Exits) (bs : List InScope) (c : Context) (stands : IsContext p x bs c) (alive : IsLive c (regions.Variable c.region)) where
  context_named : (number : ℕ) (l : Life) (live : Bool) → ((r : Region) → IsOther c.next_region r → lives_in bs r ≡ lives_in (Names number l live ∷ bs) r) → (n : ℕ) (regions : RegionContext)
      → AreKnown n regions c.locals c.result → Stand regions (Names number l live ∷ bs) → IsHome c.region (Names number l live ∷ bs)
      → IsContext p x (Names number l live ∷ bs) (record c { next_region = n; regions = regions })
  context_named number l live same n regions known stand at_home =
      let inner : List InScope = Names number l live ∷ bs in
      record {
        globals = stands.globals;
        functions = stands.functions;
        structs = stands.structs;
        result = stands.result;
        gives = sym (value_alike (lives_in bs) (lives_in inner) (result_type c.result)
            (in_value (IsOther c.next_region) (λ r. lives_in bs r ≡ lives_in inner r) same (result_type c.result)
            (others_value c.next_region c.regions c.locals c.result stands.known))) ∙ stands.gives;
        loop = stands.loop;
        scope = (c.locals, refl, scope_kept c.next_region (lives_in bs) (lives_in inner) c.locals bs same (known_others c.next_region c.locals stands.known.locals) stands.scope);
        below = (tt, stands.below);
        counters = λ k less. later (Names number l live) bs (stands.counters k less);
        known = known;
        regions = stand;
        home = at_home;
      }

  stand_new : (l : Life) (live : Bool) → Stand c.regions (Names c.next_region l live ∷ bs)
  stand_new l live = stand_named c.next_region l live c.regions bs (known_live c.next_region c.regions c.locals c.result stands.known)
      (known_pairs c.next_region c.regions c.locals c.result stands.known) stands.regions

  home_new : (l : Life) (live : Bool) → IsHome c.region (Names c.next_region l live ∷ bs)
  home_new l live =
      let apart = live_other c stands.known alive in
      home_named c.region c.next_region l live bs (sym (other_name c.next_region c.region l (life_named bs c.region) apart))
      (λ there. other_name c.next_region c.region live (is_live_named bs c.region) apart ∙ there) stands.home

  -- The typing context after the declaration of a key, whose dynamic region is not open.
  pub context_key : (l : Life) → IsContext p x (Names c.next_region l false ∷ bs) (with_region c)
  context_key l = context_named c.next_region l false (other_life c.next_region l false bs) (suc c.next_region) c.regions
      (known_after c.next_region (suc c.next_region) c.regions c.locals c.result (let most : c.next_region ≤ suc c.next_region = omega arith in most) stands.known) (stand_new l false) (home_new l false)

  -- The typing context after the declaration of an alias.
  pub context_alias : (l : Life) → IsContext p x (Names c.next_region l true ∷ bs) (with_opened scopes.Alias c)
  context_alias l = context_named c.next_region l true (other_life c.next_region l true bs) (suc c.next_region) (with_scope scopes.Alias (regions.Variable c.next_region) c.regions)
      (known_opened c.next_region scopes.Alias c.regions c.locals c.result stands.known)
      (stand_also scopes.Alias c.next_region l c.regions bs refl (stand_new l true)) (home_new l true)

  -- The typing context in which the dynamic region of a key is open.
  pub context_again : (r : ℕ) → r < c.next_region → IsContext p x (Names r (life_named bs r) true ∷ bs) (with_key_opened r c)
  context_again r less = context_named r (life_named bs r) true (λ s other. again_life r bs s) c.next_region (with_scope scopes.Dynamic (regions.Variable r) c.regions)
      (known_in_dynamic c.next_region r c.regions c.locals c.result less stands.known)
      (stand_also scopes.Dynamic r (life_named bs r) c.regions bs refl (stand_again r c.regions bs stands.regions))
      (home_named c.region r (life_named bs r) true bs (again_life r bs (regions.Variable c.region)) (λ there. again_there r (life_named bs r) bs (regions.Variable c.region) there) stands.home)

-- ---- the start of a function

named_other : (k : ℕ) (r : Region) → IsNamed k r → IsOther 0 r
named_other k regions.Heap named = tt
named_other k regions.Unique named = tt
named_other k (regions.Variable n) (some, most) = λ e. (let z : n ≡ 0 = e in absurd (omega (arith, some, z)))

named_known : (k : ℕ) (r : Region) → IsNamed k r → IsKnown (suc k) r
named_known k regions.Heap named = tt
named_known k regions.Unique named = tt
named_known k (regions.Variable n) (some, most) = omega (arith, most)

all_named : (k : ℕ) (rs : List Region) → AreNamedRegions k rs → AllOf (IsNamed k) rs
all_named k [] named = tt
all_named k (r ∷ rs) (one, named) = (one, all_named k rs named)

named_in : (k : ℕ) (t : Ty) → IsNamedIn k t → AllIn (IsNamed k) t
named_in k types.Int named = tt
named_in k types.Char named = tt
named_in k (types.Pointer m t r) (named, one) = (named_in k t named, one)
named_in k (types.Handle r) named = named
named_in k (types.Key r) named = named
named_in k (types.Struct n rs) named = all_named k rs named

named_result : (k : ℕ) (o : Option Ty) → IsNamedResult k o → AllInValue (IsNamed k) (result_type o)
named_result k None named = tt
named_result k (Some t) named = named_in k t named

named_among : (k : ℕ) (rs : List Region) (r : Region) → AreNamedRegions k rs → Contains rs r → IsNamed k r
named_among k [] r named has = absurd (Contains-empty r has)
named_among k (a ∷ rs) r (one, named) has = elim (Contains-cons_cases a rs r has) [ inl same ↦ subst (λ z. IsNamed k z) same one | inr old ↦ named_among k rs r named old ]

named_pairs : (k : ℕ) (ps : List (Region × Region)) (a b : Region) → AreConstraints k ps → Contains ps (a, b) → IsNamed k a × IsNamed k b
named_pairs k [] a b named has = absurd (Contains-empty (a, b) has)
named_pairs k (q ∷ ps) a b ((first, plain, second, also), named) has = elim (Contains-cons_cases q ps (a, b) has) [
  | inl same ↦ subst (λ (z : Region × Region). IsNamed k z.0 × IsNamed k z.1) same (first, second)
  | inr old ↦ named_pairs k ps a b named old
]

named_live : (k : ℕ) (effect : List Region) (r : Region) → AreNamedRegions k effect → Contains (regions.Heap ∷ regions.Unique ∷ effect) r → IsNamed k r
named_live k effect r named has = elim (Contains-cons_cases regions.Heap (regions.Unique ∷ effect) r has) [
  | inl heap ↦ subst (λ z. IsNamed k z) heap tt
  | inr later' ↦ elim (Contains-cons_cases regions.Unique effect r later') [ inl unique ↦ subst (λ z. IsNamed k z) unique tt | inr old ↦ named_among k effect r named old ]
]

alike_parameters : (k : ℕ) (i j : Lives) (ts : List Ty) → AreNamedIn k ts → ((r : Region) → IsOther 0 r → i r ≡ j r) → map (at i) ts ≡ map (at j) ts
alike_parameters k i j [] named same = refl
alike_parameters k i j (t ∷ ts) (one, named) same =
    let here : at i t ≡ at j t = read_alike i j t (all_in_weaker (IsNamed k) (λ r. i r ≡ j r) (λ r is. same r (named_other k r is)) t (named_in k t one)) in
    ap (λ u. u ∷ map (at i) ts) here ∙ ap (λ us. at j t ∷ us) (alike_parameters k i j ts named same)

-- a function's types, effect and constraints do not mention the function's own region
pub record NamesOthers (h : Function) : Type 0 where
  pub result : (i j : Lives) → ((r : Region) → IsOther 0 r → i r ≡ j r) → value_at i (result_type h.result) ≡ value_at j (result_type h.result)
  pub parameters : (i j : Lives) → ((r : Region) → IsOther 0 r → i r ≡ j r) → map (at i) h.parameters ≡ map (at j) h.parameters
  pub live : (r : Region) → Contains (regions.Heap ∷ regions.Unique ∷ h.effect) r → IsOther 0 r
  pub pairs : (a b : Region) → Contains h.constraints (a, b) → IsOther 0 a × IsOther 0 b

pub named_function : (p : Program) (h : Function) → IsWellTypedFunction p h → NamesOthers h
named_function p h well = record {
  result = λ i j same. value_alike i j (result_type h.result)
      (in_value (IsNamed h.variables) (λ r. i r ≡ j r) (λ r is. same r (named_other h.variables r is)) (result_type h.result) (named_result h.variables h.result well.result));
  parameters = λ i j same. alike_parameters h.variables i j h.parameters well.parameters same;
  live = λ r has. named_other h.variables r (named_live h.variables h.effect r well.effect has);
  pairs = λ a b has. (let (one, two) = named_pairs h.variables h.constraints a b well.constraints has in (named_other h.variables a one, named_other h.variables b two));
}

known_parameters : (k number : ℕ) (ts : List Ty) (vs : List LocalInScope) → AreNamedIn k ts → AreKnownLocals (suc k) vs → AreKnownLocals (suc k) (parameters_in_scope ts number vs)
known_parameters k number [] vs named known = known
known_parameters k number (t ∷ ts) vs (one, named) known =
    known_parameters k (suc number) ts (record { number = number; of_type = t; region = 0; is_place = true } ∷ vs) named
    ((all_in_weaker (IsNamed k) (IsKnown (suc k)) (λ r is. named_known k r is) t (named_in k t one), (let e : 0 < suc k = omega arith in e)), known)

-- Each region that the typing context of a function's body lists is a declared region.
pub known_body : (p : Program) (h : Function) → IsWellTypedFunction p h → AreKnown (suc h.variables) (body_context p h).regions (parameters_in_scope h.parameters 0 []) h.result
known_body p h well = record {
  live = live;
  pairs = λ a b has. (let (one, two) = named_pairs h.variables h.constraints a b well.constraints has in (named_known h.variables a one, named_known h.variables b two));
  locals = known_parameters h.variables 0 h.parameters [] well.parameters tt;
  gives = in_value (IsNamed h.variables) (IsKnown (suc h.variables)) (λ r is. named_known h.variables r is) (result_type h.result) (named_result h.variables h.result well.result);
}
  where
    live : (r : Region) → Contains (regions.Variable 0 ∷ regions.Heap ∷ regions.Unique ∷ h.effect) r → IsKnown (suc h.variables) r
    live r has = elim (Contains-cons_cases (regions.Variable 0) (regions.Heap ∷ regions.Unique ∷ h.effect) r has) [
      | inl own ↦ subst (λ z. IsKnown (suc h.variables) z) own (let e : 0 < suc h.variables = omega arith in e)
      | inr old ↦ named_known h.variables r (named_live h.variables h.effect r well.effect old)
    ]

-- ---- the fields of a struct

life_among : (m : Lives) (rs : List Region) (k : ℕ) (r : Region) → k < length rs → slice_index_or (map m rs) k heap_life ≡ m (slice_index_or rs k r)
life_among m [] k r less = absurd (omega (arith, less))
life_among m (a ∷ rs) zero r less = refl
life_among m (a ∷ rs) (suc k) r less = life_among m rs k r (let e : k < length rs = omega (arith, less) in e)

field_lives : (bs : List InScope) (rs : List Region) (r : Region) → IsKnown (length rs) r → lives_among (map (lives_in bs) rs) r ≡ lives_by (lives_in bs) rs r
field_lives bs rs regions.Heap known = refl
field_lives bs rs regions.Unique known = refl
field_lives bs rs (regions.Variable n) known = life_among (lives_in bs) rs n (regions.Variable n) known

-- The type of a field after the struct's region parameters are instantiated.
pub field_means : (bs : List InScope) (rs : List Region) (s : StructType) (t : Ty) → length rs ≡ s.parameters → IsDeclarable s.parameters t
    → at (lives_among (map (lives_in bs) rs)) t ≡ read bs (substituted_ty rs t)
field_means bs rs s t count known = read_alike (lives_among (map (lives_in bs) rs)) (lives_by (lives_in bs) rs) t
    (all_in_weaker (IsKnown s.parameters) (λ r. lives_among (map (lives_in bs) rs) r ≡ lives_by (lives_in bs) rs r)
    (λ r is. field_lives bs rs r (subst (λ n. IsKnown n r) (sym count) is)) t known) ∙ sym (instance_by (lives_in bs) rs t)

all_mean : (bs : List InScope) (rs : List Region) (s : StructType) (ts : List Ty) → length rs ≡ s.parameters
    → ((field : ℕ) (t : Ty) → slice_get ts field ≡ Some t → IsDeclarable s.parameters t) → map (read bs) (map (substituted_ty rs) ts) ≡ map (at (lives_among (map (lives_in bs) rs))) ts
all_mean bs rs s [] count known = refl
all_mean bs rs s (t ∷ ts) count known =
    ap (λ u. u ∷ map (read bs) (map (substituted_ty rs) ts)) (sym (field_means bs rs s t count (known 0 t refl)))
    ∙ ap (λ us. at (lives_among (map (lives_in bs) rs)) t ∷ us) (all_mean bs rs s ts count (λ field u found. known (suc field) u found))

pub fields_mean : (bs : List InScope) (rs : List Region) (s : StructType) → length rs ≡ s.parameters
    → ((field : ℕ) (t : Ty) → slice_get s.fields field ≡ Some t → IsDeclarable s.parameters t) → map (read bs) (map (substituted_ty rs) s.fields) ≡ map (at (lives_among (map (lives_in bs) rs))) s.fields
fields_mean bs rs s count known = all_mean bs rs s s.fields count known

-- ---- globals

-- the type of a global mentions no region variable, so it means the same in every scope
pub global_means : (bs : List InScope) (t : Ty) → IsDeclarable 0 t → read bs t ≡ at as_heap t
global_means bs t known = read_alike (lives_in bs) as_heap t (all_in_weaker (IsKnown 0) (λ r. lives_in bs r ≡ as_heap r) none t known)
  where
    none : (r : Region) → IsKnown 0 r → lives_in bs r ≡ as_heap r
    none regions.Heap is = refl
    none regions.Unique is = refl
    none (regions.Variable n) less = absurd (omega (arith, less))

-- The cell of a well-typed memory access is in a live region.
pub cell_live : (c : Context) (d : Dereference) (t : Ty) (r : Region) → IsCell c d t r → IsLive c r
cell_live c (Target k a u) t r (m, well, alive, kind, same) = alive
cell_live c (Member k a n field u) t r (m, rs, s, v, well, thin, alive, kind, at, there, of, same) = alive
cell_live c (Element a i u) t r (well, index, alive, same) = alive

-- ---- calls

-- The lifetimes that the region variables of a called function denote.
abbrev pub these_by : Lives → List Region → ℕ → Life
these_by n m k = n (substituted_region m (regions.Variable k))

-- The region variables that are live in a called function.
abbrev pub is_among : ℕ → List Region → Bool
is_among n [] = false
is_among n (regions.Variable k ∷ rs) = if n == k then true else is_among n rs
is_among n (r ∷ rs) = is_among n rs

-- The lifetime of an instantiated region is the lifetime of the region variable under the instantiation.
these_are : (bs : List InScope) (m : List Region) (r : Region) → lives_by (lives_in bs) m r ≡ lives_of (these_by (lives_in bs) m) r
these_are bs m regions.Heap = refl
these_are bs m regions.Unique = refl
these_are bs m (regions.Variable k) = refl

pub parameters_mean : (bs : List InScope) (m : List Region) (ts : List Ty) → map (read bs) (map (substituted_ty m) ts) ≡ map (at (lives_of (these_by (lives_in bs) m))) ts
parameters_mean bs m [] = refl
parameters_mean bs m (t ∷ ts) =
    let n = lives_in bs in
    let same : at n (substituted_ty m t) ≡ at (lives_of (these_by n m)) t =
    instance_by n m t ∙ read_alike (lives_by n m) (lives_of (these_by n m)) t (every_in (λ r. lives_by n m r ≡ lives_of (these_by n m) r) (these_are bs m) t) in
    ap (λ u. u ∷ map (at n) (map (substituted_ty m) ts)) same ∙ ap (λ us. at (lives_of (these_by n m)) t ∷ us) (parameters_mean bs m ts)

pub result_means : (bs : List InScope) (m : List Region) (t : Option Ty) → read_value bs (result_type (option_map (substituted_ty m) t)) ≡ value_at (lives_of (these_by (lives_in bs) m)) (result_type t)
result_means bs m t =
    let n = lives_in bs in
    result_by n m t ∙ value_alike (lives_by n m) (lives_of (these_by n m)) (result_type t) (every_value (λ r. lives_by n m r ≡ lives_of (these_by n m) r) (these_are bs m) (result_type t))

contained : (rs : List Region) (n : ℕ) → Contains rs (regions.Variable n) → is_among n rs ≡ true
contained [] n has = absurd (Contains-empty (regions.Variable n) has)
contained (regions.Heap ∷ rs) n has = elim (Contains-cons_cases regions.Heap rs (regions.Variable n) has) [ inl e ↦ (let z : regions.Heap ≡ regions.Variable n = e in absurd (cc)) | inr old ↦ contained rs n old ]
contained (regions.Unique ∷ rs) n has = elim (Contains-cons_cases regions.Unique rs (regions.Variable n) has) [ inl e ↦ (let z : regions.Unique ≡ regions.Variable n = e in absurd (cc)) | inr old ↦ contained rs n old ]
contained (regions.Variable k ∷ rs) n has = elim (Contains-cons_cases (regions.Variable k) rs (regions.Variable n) has) [
  | inl e ↦ (let z : regions.Variable k ≡ regions.Variable n = e in let same : n ≡ k = cc in ap (λ (b : Bool). if b then true else is_among n rs) (eq-eqb n k same))
  | inr old ↦ either (n == k) (is_among n rs) (contained rs n old)
]
  where
    either : (b c : Bool) → c ≡ true → (if b then true else c) ≡ true
    either true c e = refl
    either false c e = e

substituted_among_live : (c : Context) (m rs : List Region) (n : ℕ) → AreLive c (map (substituted_region m) rs) → is_among n rs ≡ true → IsLive c (substituted_region m (regions.Variable n))
substituted_among_live c m [] n are e = absurd (let k : false ≡ true = e in cc)
substituted_among_live c m (regions.Heap ∷ rs) n (is, are) e = substituted_among_live c m rs n are e
substituted_among_live c m (regions.Unique ∷ rs) n (is, are) e = substituted_among_live c m rs n are e
substituted_among_live c m (regions.Variable k ∷ rs) n (is, are) e = among_either (n == k) refl e (substituted_among_live c m rs n are)
  where
    among_either : (b : Bool) → (n == k) ≡ b → (if b then true else is_among n rs) ≡ true → (is_among n rs ≡ true → IsLive c (substituted_region m (regions.Variable n)))
        → IsLive c (substituted_region m (regions.Variable n))
    among_either true same e later' = subst (λ i. IsLive c (substituted_region m (regions.Variable i))) (sym (eqb-true n k same)) is
    among_either false other e later' = later' e

outliving : (c : Context) (m : List Region) (ps : List (Region × Region)) (a b : Region)
    → AreOutliving c (map (λ (p : Region × Region). (substituted_region m p.0, substituted_region m p.1)) ps) → Contains ps (a, b) → OutlivesIn c.regions (substituted_region m a) (substituted_region m b)
outliving c m [] a b are has = absurd (Contains-empty (a, b) has)
outliving c m (q ∷ ps) a b (is, are) has = elim (Contains-cons_cases q ps (a, b) has) [
  | inl same ↦ subst (λ (z : Region × Region). OutlivesIn c.regions (substituted_region m z.0) (substituted_region m z.1)) same is
  | inr old ↦ outliving c m ps a b are old
]

-- No region variable of a call is instantiated with the unique region.
never_unique : (m : List Region) (n : ℕ) → AreNotUnique m → substituted_region m (regions.Variable n) ≢ regions.Unique
never_unique [] n apart = λ e. (let k : regions.Variable n ≡ regions.Unique = e in absurd (cc))
never_unique (r ∷ m) zero (one, apart) = one
never_unique (r ∷ m) (suc n) (one, apart) = λ e. never_other m n n apart e
  where
    never_other : (m : List Region) (i n : ℕ) → AreNotUnique m → slice_index_or m i (regions.Variable (suc n)) ≢ regions.Unique
    never_other [] i n apart = λ e. (let k : regions.Variable (suc n) ≡ regions.Unique = e in absurd (cc))
    never_other (r ∷ m) zero n (one, apart) = one
    never_other (r ∷ m) (suc i) n (one, apart) = never_other m i n apart

-- no outlives constraint mentions the unique region
unmixed : (k : ℕ) (ps : List (Region × Region)) (a : Region) → AreConstraints k ps → Contains ps (a, regions.Unique) → ⊥
unmixed k [] a named has = absurd (Contains-empty (a, regions.Unique) has)
unmixed k (q ∷ ps) a ((first, plain, second, also), named) has = elim (Contains-cons_cases q ps (a, regions.Unique) has) [
  | inl same ↦ also (ap (λ (z : Region × Region). z.1) same)
  | inr old ↦ unmixed k ps a named old
]

module _ (p : Program) (x : Exits) (bs : List InScope) (c : Context) (stands : IsContext p x bs c) (h : Function) (m : List Region) (apart : AreNotUnique m) (constraints : AreConstraints h.variables h.constraints) (alive : AreLive c (map (substituted_region m) h.effect))
    (outlive : AreOutliving c (map (λ (p : Region × Region). (substituted_region m p.0, substituted_region m p.1)) h.constraints)) where
  instance_by_scope : AreNamed (regions_at_call h) (these_by (lives_in bs) m) (λ k. is_among k h.effect)
  instance_by_scope = record { there = there; agrees = agrees; plain = plain }
    where
      there : (r : Region) → Contains (regions.Heap ∷ regions.Unique ∷ h.effect) r → IsThereBy (λ k. is_among k h.effect) r
      there regions.Heap has = tt
      there regions.Unique has = tt
      there (regions.Variable n) has = contained (regions.Heap ∷ regions.Unique ∷ h.effect) n has

      agrees : (a b : Region) → IsGiven (regions_at_call h) a b → Outlasts (lives_of (these_by (lives_in bs) m) a) (lives_of (these_by (lives_in bs) m) b)
      agrees a b (inl (heap, plain)) =
          subst (λ z. Outlasts (lives_of (these_by (lives_in bs) m) z) (lives_of (these_by (lives_in bs) m) b)) (sym heap) (for_ever (lives_of (these_by (lives_in bs) m) b))
      agrees a b (inr (inl written)) =
          subst (λ l. Outlasts l (lives_of (these_by (lives_in bs) m) b)) (these_are bs m a)
          (subst (λ l. Outlasts (lives_by (lives_in bs) m a) l) (these_are bs m b)
          (agrees_of p x bs c stands (substituted_region m a) (substituted_region m b) (outliving c m h.constraints a b outlive written)))
      agrees a b (inr (inr old)) = absurd old

      plain : (a : Region) → IsGiven (regions_at_call h) a regions.Unique → ⊥
      plain a (inl (heap, other)) = other refl
      plain a (inr (inl written)) = unmixed h.variables h.constraints a constraints written
      plain a (inr (inr old)) = absurd old

  pub instance_is : IsInstance bs h (these_by (lives_in bs) m) (λ k. is_among k h.effect)
  instance_is = record {
    stand = instance_by_scope;
    lasting = λ n live. (substituted_region m (regions.Variable n), never_unique m n apart, there_of p x bs c stands (substituted_region m (regions.Variable n)) (substituted_among_live c m h.effect n alive live), refl);
    named = λ n. (substituted_region m (regions.Variable n), never_unique m n apart, refl);
  }
