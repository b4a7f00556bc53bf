-- Lemmas about a program in which some functions are replaced, one function after the other.
use Rattle.std.proofs.Common.{◌≡◌, ℕ, zero, suc, ◌+◌, ◌<◌, ◌≤◌, List, [], ◌∷◌, ◌++◌, length, Option, Some, None, map, max, slice_get, refl, sym, ap, subst, ◌∙◌, arith, inl, inr}
use Rattle.std.specs.Prelude.{◌⊎◌, sum_by, slice_index_or}
use Rattle.std.proofs.lemmas.Bool.{cases_lt}
use Rattle.std.proofs.lemmas.List.{length-map}
use Rattle.std.proofs.lemmas.List.Sums.{sum_by-cons}
use Rattle.cyc_words.proofs.Items.{slice_index_or_before, slice_index_or_last}
use Rattle.cyc_plain.specs.declared.limits.TheConstants.{MOST_SIZE}
use Rattle.cyc_plain.specs.declared.program.Function.{Function}
use Rattle.cyc_plain.specs.inside.Program.{Routine, Program, no_routine, routine_of, routine_at, program_of, size}
use Rattle.cyc_plain.specs.inside.WellFormed.{IsPlain}
use Rattle.cyc_inline.specs.declared.making.Made.{Made}
use Rattle.cyc_inline.specs.declared.replacing.Opened.{Opened}
use Rattle.cyc_inline.specs.inside.Changes.{first_of, others, change_at, function_of, note_of, replaced, noted, routine_made, changed, own_origins, origins_made, all_origins, IsMadeFor, left_of, IsChange, AreBegun, note, notes_of, IsReported, AreReported}
use Rattle.cyc_inline.specs.inside.Emission.{IsMade, AreOwn, AreFirstMade}
use Rattle.cyc_inline.specs.inside.Inlined.{IsInlined}
use Rattle.cyc_inline.specs.inside.Opened.{origin_at, origins_of}
use Rattle.cyc_inline.proofs.RangesCopied.{copied_is_made}
use Rattle.cyc_inline.proofs.Whole.{is_plain, are_inlined}

pub first_at : {X : Type 0} (xs : List (Option X)) → first_of xs ≡ slice_index_or xs 0 None
first_at [] = refl
first_at (x ∷ xs) = refl

pub others_at : {X : Type 0} (xs : List (Option X)) (k : ℕ) → slice_index_or (others xs) k None ≡ slice_index_or xs (suc k) None
others_at [] k = refl
others_at (x ∷ xs) k = refl

-- ---- the functions after replacement

changed_none : (rs : List Routine) → changed rs [] ≡ rs
changed_none [] = refl
changed_none (r ∷ rs) = ap (λ (xs : List Routine). r ∷ xs) (changed_none rs)

length_changed : (rs : List Routine) (cs : List (Option Made)) → length (changed rs cs) ≡ length rs
length_changed [] cs = refl
length_changed (r ∷ rs) cs = ap suc (length_changed rs (others cs))

changed_at : (rs : List Routine) (cs : List (Option Made)) (k : ℕ) → k < length rs
    → slice_index_or (changed rs cs) k no_routine ≡ routine_made (slice_index_or rs k no_routine) (change_at cs k)
changed_at [] cs k below = absurd (omega (arith, below))
changed_at (r ∷ rs) cs zero below = ap (routine_made r) (first_at cs)
changed_at (r ∷ rs) cs (suc k) below = changed_at rs (others cs) k (omega (arith, below)) ∙ ap (routine_made (slice_index_or rs k no_routine)) (others_at cs k)

length_origins : (number : ℕ) (rs : List Routine) (cs : List (Option Made)) → length (all_origins number rs cs) ≡ length rs
length_origins number [] cs = refl
length_origins number (r ∷ rs) cs = ap suc (length_origins (suc number) rs (others cs))

origins_at : (number : ℕ) (rs : List Routine) (cs : List (Option Made)) (k : ℕ) → k < length rs
    → origins_of (all_origins number rs cs) k ≡ origins_made (number + k) (length (slice_index_or rs k no_routine).code) (change_at cs k)
origins_at number [] cs k below = absurd (omega (arith, below))
origins_at number (r ∷ rs) cs zero below =
    let same : number ≡ number + 0 = omega arith in
    λ i. origins_made (same i) (length r.code) (first_at cs i)
origins_at number (r ∷ rs) cs (suc k) below =
    let same : suc number + k ≡ number + suc k = omega arith in
    origins_at (suc number) rs (others cs) k (omega (arith, below)) ∙ (λ i. origins_made (same i) (length (slice_index_or rs k no_routine).code) (others_at cs k i))

-- ---- a function without a replacement is unchanged

length_own : (number index count : ℕ) → length (own_origins number index count) ≡ count
length_own number index zero = refl
length_own number index (suc count) = ap suc (length_own number (suc index) count)

own_at : (number index count k : ℕ) → k < count → slice_get (own_origins number index count) k ≡ Some (origin_at number (index + k))
own_at number index zero k below = absurd (omega (arith, below))
own_at number index (suc count) zero below =
    let same : index ≡ index + 0 = omega arith in
    ap (λ (n : ℕ). Some (origin_at number n)) same
own_at number index (suc count) (suc k) below =
    let same : suc index + k ≡ index + suc k = omega arith in
    own_at number (suc index) count k (omega (arith, below)) ∙ ap (λ (n : ℕ). Some (origin_at number n)) same

are_own : (number count : ℕ) → AreOwn number count (own_origins number 0 count)
are_own number count = record {
  as_many = length_own number 0 count;
  each = λ k below. (let same : 0 + k ≡ k = omega arith in own_at number 0 count k below ∙ ap (λ (n : ℕ). Some (origin_at number n)) same);
}

stands_made : (program : Program) (number : ℕ) (change : Option Made) → IsPlain program → number < length program.functions → IsMadeFor program number change
    → IsMade program number (routine_made (routine_at program number) change) (origins_made number (length (routine_at program number).code) change)
stands_made program number (Some made) plain known is = is
stands_made program number None plain known is =
    copied_is_made program number (own_origins number 0 (length (routine_at program number).code)) plain known (are_own number (length (routine_at program number).code))

are_first : (program : Program) (changes : List (Option Made)) → IsPlain program → length changes ≡ length program.functions
    → ((k : ℕ) → k < length changes → IsMadeFor program k (change_at changes k))
    → AreFirstMade program (length program.functions) (changed program.functions changes) (all_origins 0 program.functions changes)
are_first program changes plain many are = record {
  as_many = length_changed program.functions changes;
  as_many_origins = length_origins 0 program.functions changes;
  each = λ k below.
      (let same : 0 + k ≡ k = omega arith in
      let own = origins_at 0 program.functions changes k below ∙ ap (λ (n : ℕ). origins_made n (length (routine_at program k).code) (change_at changes k)) same in
      subst (IsMade program k (slice_index_or (changed program.functions changes) k no_routine)) (sym own)
      (subst (λ (s : Routine). IsMade program k s (origins_made k (length (routine_at program k).code) (change_at changes k))) (sym (changed_at program.functions changes k below))
      (stands_made program k (change_at changes k) plain below (are k (omega (arith, many, below))))));
}

-- ---- one function at a time

sum_changed : (rs : List Routine) (cs : List (Option Made)) (c : Option Made) → length cs < length rs
    → sum_by size (changed rs (cs ++ c ∷ [])) + size (slice_index_or rs (length cs) no_routine)
    ≡ sum_by size (changed rs cs) + size (routine_made (slice_index_or rs (length cs) no_routine) c)
sum_changed [] cs c below = absurd (omega (arith, below))
sum_changed (r ∷ rs) [] c below = omega (arith, sum_by-cons size (routine_made r c) (changed rs []), sum_by-cons size r (changed rs []))
sum_changed (r ∷ rs) (d ∷ cs) c below =
    let head = sum_by-cons size (routine_made r d) (changed rs (cs ++ c ∷ [])) in
    let other = sum_by-cons size (routine_made r d) (changed rs cs) in
    let rest = sum_changed rs cs c (omega (arith, below)) in
    omega (arith, head, other, rest)

-- The loop invariant `AreBegun`, on the functions replaced so far, holds before any function is replaced.
pub begun_first : (program : Program) (room spare : ℕ) → sum_by size program.functions ≤ MOST_SIZE
    → (spare ≡ 0) ⊎ ((sum_by size program.functions + spare ≤ room) × (sum_by size program.functions + spare ≤ MOST_SIZE)) → AreBegun program room [] spare
begun_first program room spare small either = record {
  each = λ k below. absurd (omega (arith, below));
  most = subst (λ (rs : List Routine). (sum_by size rs + spare ≤ max (sum_by size program.functions) room) × (sum_by size rs + spare ≤ MOST_SIZE)) (sym (changed_none program.functions)) most;
}
  where
    most : (sum_by size program.functions + spare ≤ max (sum_by size program.functions) room) × (sum_by size program.functions + spare ≤ MOST_SIZE)
    most = elim either [
      | inl none ↦ (omega (arith, none), omega (arith, none, small))
      | inr (first, second) ↦ (omega (arith, first), second)
    ]

-- The loop invariant `AreBegun`, on the functions replaced so far, still holds after one more function is replaced or left unchanged.
pub begun_next : (program : Program) (room : ℕ) (changes : List (Option Made)) (spare : ℕ) (change : Option Made) → AreBegun program room changes spare
    → length changes < length program.functions → IsChange program (length changes) spare change → AreBegun program room (changes ++ change ∷ []) (left_of change spare)
begun_next program room changes spare change are below is = record {
  each = λ k within. elim (cases_lt k (length changes)) [
    | inl before ↦ subst (IsMadeFor program k) (sym (slice_index_or_before changes change None k before)) (are.each k before)
    | inr not_before ↦ last k (omega (arith, within, not_before, length_more))
  ];
  most =
      let more = sum_changed program.functions changes change below in
      let fits = is.fits in
      let (first, second) = are.most in
      (omega (arith, more, fits, first), omega (arith, more, fits, second));
}
  where
    length_more : length (changes ++ change ∷ []) ≡ length changes + 1
    length_more = more changes
      where
        more : (cs : List (Option Made)) → length (cs ++ change ∷ []) ≡ length cs + 1
        more [] = refl
        more (c ∷ cs) = (let rest = more cs in omega (arith, rest))

    last : (k : ℕ) → k ≡ length changes → IsMadeFor program k (change_at (changes ++ change ∷ []) k)
    last k same =
        subst (λ (n : ℕ). IsMadeFor program n (change_at (changes ++ change ∷ []) n)) (sym same)
        (subst (IsMadeFor program (length changes)) (sym (slice_index_or_last changes change None)) is.made)

pub begun_last : (program : Program) (room : ℕ) (changes : List (Option Made)) (spare : ℕ) → AreBegun program room changes spare → AreBegun program room changes 0
begun_last program room changes spare are = record {
  each = are.each;
  most = (let (first, second) = are.most in (omega (arith, first), omega (arith, second)));
}

-- ---- all functions

routine_is : (f : Function) (change : Option Made) → routine_of (function_of f change) ≡ routine_made (routine_of f) change
routine_is f (Some made) = refl
routine_is f None = refl

routines_are : (fs : List Function) (cs : List (Option Made)) → map routine_of (replaced fs cs) ≡ changed (map routine_of fs) cs
routines_are [] cs = refl
routines_are (f ∷ fs) cs = λ i. routine_is f (first_of cs) i ∷ routines_are fs (others cs) i

length_noted : (fs : List Function) (cs : List (Option Made)) → length (notes_of (noted fs cs)) ≡ length fs
length_noted [] cs = refl
length_noted (f ∷ fs) cs = ap suc (length_noted fs (others cs))

abbrev HasOrigins : Option Made → Type 0
HasOrigins (Some made) = length made.origins.items ≡ length made.function.code.items
HasOrigins None = Unit {0}

has_origins : (program : Program) (number : ℕ) (change : Option Made) → IsMadeFor program number change → HasOrigins change
has_origins program number (Some made) is = is.opened.as_many
has_origins program number None is = tt

reported_first : (f : Function) (change : Option Made) → HasOrigins change → IsReported (routine_of f) (routine_made (routine_of f) change) (note (note_of f change))
reported_first f (Some made) has = (refl, has)
reported_first f None has = refl

reported_at : (fs : List Function) (cs : List (Option Made)) → ((j : ℕ) → j < length fs → HasOrigins (change_at cs j)) → (k : ℕ) → k < length fs
    → IsReported (slice_index_or (map routine_of fs) k no_routine) (slice_index_or (changed (map routine_of fs) cs) k no_routine) (slice_index_or (notes_of (noted fs cs)) k None)
reported_at [] cs has k below = absurd (omega (arith, below))
reported_at (f ∷ fs) cs has zero below = reported_first f (first_of cs) (subst HasOrigins (sym (first_at cs)) (has 0 (omega arith)))
reported_at (f ∷ fs) cs has (suc k) below =
    reported_at fs (others cs) (λ j lower. subst HasOrigins (sym (others_at cs j)) (has (suc j) (omega (arith, lower)))) k (omega (arith, below))

module _ (program : Program) (room : ℕ) (given functions : List Function) (changes : List (Option Made)) (opened : List (Option Opened)) (globals : List ℕ) (main : ℕ) (plain : IsPlain program)
    (parts : program_of given globals main ≡ program) (many : length changes ≡ length program.functions) (begun : AreBegun program room changes 0)
    (are : functions ≡ replaced given changes) (reported : opened ≡ noted given changes) where
  abbrev routines : List Routine
  routines = changed program.functions changes

  made : AreFirstMade program (length program.functions) routines (all_origins 0 program.functions changes)
  made = are_first program changes plain many begun.each

  small : sum_by size routines ≤ MOST_SIZE
  small = (let (first, second) = begun.most in omega (arith, second))

  given_are : map routine_of given ≡ program.functions
  given_are = ap (λ (p : Program). p.functions) parts

  functions_are : map routine_of functions ≡ routines
  functions_are = ap (map routine_of) are ∙ routines_are given changes ∙ ap (λ (rs : List Routine). changed rs changes) given_are

  same : program_of functions globals main ≡ record program { functions = routines }
  same = λ k. record { functions = functions_are k; globals = (parts k).globals; main = (parts k).main }

  pub whole_plain : IsPlain (program_of functions globals main)
  whole_plain = subst IsPlain (sym same) (is_plain program routines (all_origins 0 program.functions changes) plain made small)

  pub whole_inlined : IsInlined program (program_of functions globals main)
  whole_inlined = subst (IsInlined program) (sym same) (are_inlined program routines (all_origins 0 program.functions changes) plain made small)

  -- The program with replaced functions has at most `room` words of machine code, or at most as many as the source program.
  pub whole_small : sum_by size (map routine_of functions) ≤ max (sum_by size program.functions) room
  whole_small = (let (first, second) = begun.most in let equal = ap (λ (rs : List Routine). sum_by size rs) functions_are in omega (arith, first, equal))

  long : length given ≡ length program.functions
  long = sym (length-map given routine_of) ∙ ap (λ (rs : List Routine). length rs) given_are

  pub whole_reported : AreReported program (program_of functions globals main) (notes_of opened)
  whole_reported = record {
    as_many = ap (λ (os : List (Option Opened)). length (notes_of os)) reported ∙ length_noted given changes ∙ long;
    each = λ k below.
        subst (λ (os : List (Option Opened)). IsReported (routine_at program k) (slice_index_or (map routine_of functions) k no_routine) (slice_index_or (notes_of os) k None)) (sym reported)
        (subst (λ (rs : List Routine). IsReported (routine_at program k) (slice_index_or rs k no_routine) (slice_index_or (notes_of (noted given changes)) k None)) (sym functions_are)
        (subst (λ (rs : List Routine). IsReported (slice_index_or rs k no_routine) (slice_index_or (changed rs changes) k no_routine) (slice_index_or (notes_of (noted given changes)) k None)) given_are
        (reported_at given changes (λ j lower. has_origins program j (change_at changes j) (begun.each j (omega (arith, lower, long, many)))) k (omega (arith, below, long)))));
  }
