-- The ranges of slots computed for a function contain each slot whose address the function's code takes.
use Rattle.std.proofs.Common.{◌≡◌, ℕ, zero, suc, ◌+◌, ◌-◌, ◌<◌, ◌≤◌, Bool, true, false, ◌&&◌, ◌||◌, List, [], ◌∷◌, ◌++◌, drop, length, Some, None, slice_get, refl, sym, ap, subst, ◌∙◌, arith, inl, inr}
use Rattle.std.specs.Prelude.{◌⊎◌, not, slice_index_or, replicate}
use Rattle.std.proofs.lemmas.Bool.{cases_Bool, cases_lt, or_cases, and_parts, and_from, false≢true, not-true, both_ways, false_from_ne_true}
use Rattle.std.proofs.lemmas.List.{length-append}
use Rattle.std.proofs.lemmas.Option.{none-some}
use Rattle.cyc_words.proofs.Numbers.{suc_plus_one}
use Rattle.cyc_words.proofs.Items.{slice_index_or_before, slice_index_or_last, slice_index_or_beyond, slice_index_or_replicate_same}
use Rattle.cyc_plain.specs.declared.instruction.Instruction.{Instruction}
use Rattle.cyc_plain.specs.declared.instruction.Instruction.TheVariants as instructions
use Rattle.cyc_plain.specs.inside.Memory.{pins, is_pinned}
use Rattle.cyc_plain.specs.inside.Program.{Routine}
use Rattle.cyc_propagation.specs.declared.fact.Written.{Written}
use Rattle.cyc_propagation.specs.inside.Facts.{leaves_slot, is_free, are_free, lie_apart, are_copied}
use Rattle.cyc_propagation.specs.inside.Pins.{is_within, range_of, AreRanges, AreFirstPins}
use Rattle.cyc_propagation.specs.inside.Table.{ArePins}
use Rattle.cyc_propagation.proofs.Truth.{each_free}

-- `AreRangesBut` says that each slot whose address the code takes lies in a range, or its address is taken by code not yet visited.
abbrev pub AreRangesBut : (code left : List Instruction) → List Written → Type 0
AreRangesBut code left ranges = (slot : ℕ) → is_pinned code slot ≡ true → (is_within ranges slot ≡ true) ⊎ (is_pinned left slot ≡ true)

pub no_range_yet : (code : List Instruction) → AreRangesBut code code []
no_range_yet code slot is = inr is

within_more_ranges : (ranges : List Written) (range : Written) (slot : ℕ) → is_within ranges slot ≡ true → is_within (ranges ++ range ∷ []) slot ≡ true
within_more_ranges [] range slot is = absurd (false≢true is)
within_more_ranges (other ∷ ranges) range slot is = elim (or_cases (not (leaves_slot other slot)) (is_within ranges slot) is) [
  | inl here ↦ ap (λ (b : Bool). b || is_within (ranges ++ range ∷ []) slot) here
  | inr following ↦ or_right (not (leaves_slot other slot)) (within_more_ranges ranges range slot following)
]
  where
    or_right : (b : Bool) {c : Bool} → c ≡ true → (b || c) ≡ true
    or_right true is = refl
    or_right false is = is

within_last : (ranges : List Written) (range : Written) (slot : ℕ) → leaves_slot range slot ≡ false → is_within (ranges ++ range ∷ []) slot ≡ true
within_last [] range slot is = ap (λ (b : Bool). not b || false) is
within_last (other ∷ ranges) range slot is = or_right (not (leaves_slot other slot)) (within_last ranges range slot is)
  where
    or_right : (b : Bool) {c : Bool} → c ≡ true → (b || c) ≡ true
    or_right true is = refl
    or_right false is = is

-- The range that is computed for an instruction contains the slots whose address the instruction takes.
pinned_in : (i : Instruction) (slot : ℕ) → pins i slot ≡ true → (range : Written) × (range_of i ≡ Some range) × (leaves_slot range slot ≡ false)
pinned_in (instructions.AddressOf destination first count) slot is = (record { first = first; count = count }, refl, ap not is)
pinned_in i slot is = absurd (false≢true is)

drop_code_at : (code : List Instruction) (k : ℕ) (i : Instruction) → slice_get code k ≡ Some i → drop k code ≡ i ∷ drop (suc k) code
drop_code_at [] k i at = absurd (none-some i at)
drop_code_at (j ∷ code) zero i at = let same : j ≡ i = cc in ap (λ (x : Instruction). x ∷ code) same
drop_code_at (j ∷ code) (suc k) i at = drop_code_at code k i at

pub drop_here : (code : List Instruction) (k : ℕ) (i : Instruction) → slice_get code k ≡ Some i → drop k code ≡ i ∷ drop (k + 1) code
drop_here code k i at = let after : suc k ≡ k + 1 = omega arith in subst (λ (n : ℕ). drop k code ≡ i ∷ drop n code) after (drop_code_at code k i at)

module _ (code : List Instruction) (k : ℕ) (i : Instruction) (ranges : List Written) (at : slice_get code k ≡ Some i) (are : AreRangesBut code (drop k code) ranges) where
  here_or_after : (slot : ℕ) → is_pinned (drop k code) slot ≡ true → (pins i slot ≡ true) ⊎ (is_pinned (drop (k + 1) code) slot ≡ true)
  here_or_after slot is = or_cases (pins i slot) (is_pinned (drop (k + 1) code) slot) (subst (λ (is : List Instruction). is_pinned is slot ≡ true) (drop_here code k i at) is)

  pub no_range : range_of i ≡ None → AreRangesBut code (drop (k + 1) code) ranges
  no_range none slot is = elim (are slot is) [
    | inl within ↦ inl within
    | inr pinned ↦ elim (here_or_after slot pinned) [
      | inl here ↦ let (range, some, leaves) = pinned_in i slot here in absurd (none-some range (sym none ∙ some))
      | inr following ↦ inr following
    ]
  ]

  pub one_range : (range : Written) → range_of i ≡ Some range → AreRangesBut code (drop (k + 1) code) (ranges ++ range ∷ [])
  one_range range its slot is = elim (are slot is) [
    | inl within ↦ inl (within_more_ranges ranges range slot within)
    | inr pinned ↦ elim (here_or_after slot pinned) [
      | inl here ↦
          let (other, some, leaves) = pinned_in i slot here in
          let e : Some other ≡ Some range = sym some ∙ its in
          let same : other ≡ range = cc in
          inl (within_last ranges range slot (subst (λ (w : Written). leaves_slot w slot ≡ false) same leaves))
      | inr following ↦ inr following
    ]
  ]

pub are_ranges : (code : List Instruction) (ranges : List Written) → AreRangesBut code [] ranges → AreRanges code ranges
are_ranges code ranges are slot is = elim (are slot is) [
  | inl within ↦ within
  | inr none ↦ absurd (false≢true none)
]

-- ---- one slot at a time

pub no_pins : (ranges : List Written) → AreFirstPins ranges 0 []
no_pins ranges = record { as_many = refl; each = λ slot below. absurd (omega arith) }

pub more_pins : (ranges : List Written) (count : ℕ) (pinned : List Bool) (b : Bool) → AreFirstPins ranges count pinned → b ≡ is_within ranges count
    → AreFirstPins ranges (count + 1) (pinned ++ b ∷ [])
more_pins ranges count pinned b are is = record {
  as_many = omega (arith, length-append pinned (b ∷ []), are.as_many);
  each = λ slot below. elim (cases_lt slot count) [
    | inl first ↦ slice_index_or_before pinned b true slot (omega (arith, first, are.as_many)) ∙ are.each slot first
    | inr not_first ↦
        let same : slot ≡ length pinned = omega (arith, below, not_first, are.as_many) in
        let last : slice_index_or (pinned ++ b ∷ []) slot true ≡ b =
        subst (λ (k : ℕ). slice_index_or (pinned ++ b ∷ []) k true ≡ b) (sym same) (slice_index_or_last pinned b true) in
        let there : b ≡ is_within ranges slot = subst (λ (k : ℕ). b ≡ is_within ranges k) (sym (same ∙ are.as_many)) is in
        last ∙ there
  ];
}

pub are_pins : (r : Routine) (ranges : List Written) (pinned : List Bool) → AreRanges r.code ranges → AreFirstPins ranges r.slots pinned → ArePins r pinned
are_pins r ranges pinned are first = record {
  as_many = first.as_many;
  right = λ slot free. false_from_ne_true (is_pinned r.code slot) (λ is. not_free slot free (is_pinned_there slot is));
}
  where
    is_pinned_there : (slot : ℕ) → is_pinned r.code slot ≡ true → slice_index_or pinned slot true ≡ true
    is_pinned_there slot is = elim (cases_lt slot r.slots) [
      | inl below ↦ first.each slot below ∙ are slot is
      | inr above ↦ slice_index_or_beyond pinned slot (omega (arith, above, first.as_many))
    ]

    not_free : (slot : ℕ) → is_free pinned slot ≡ true → slice_index_or pinned slot true ≡ true → ⊥
    not_free slot free is = both_ways (slice_index_or pinned slot true) (not-true (slice_index_or pinned slot true) free) is

pub all_pinned : (r : Routine) (pinned : List Bool) → pinned ≡ replicate r.slots true → length pinned ≡ r.slots → ArePins r pinned
all_pinned r pinned are as_many = record {
  as_many = as_many;
  right = λ slot free.
      absurd (both_ways (slice_index_or pinned slot true) (not-true (slice_index_or pinned slot true) free)
      (subst (λ (bs : List Bool). slice_index_or bs slot true ≡ true) (sym are) (slice_index_or_replicate_same r.slots true slot)));
}

-- ---- consecutive free slots

pub free_more : (pinned : List Bool) (first count : ℕ) → are_free pinned first count ≡ true → is_free pinned (first + count) ≡ true → are_free pinned first (count + 1) ≡ true
free_more pinned first count before last =
    subst (λ (n : ℕ). are_free pinned first n ≡ true) (suc_plus_one count) (and_from (are_free pinned first count) (is_free pinned (first + count)) before last)

pub not_all_free : (pinned : List Bool) (first count k : ℕ) → k < count → is_free pinned (first + k) ≡ false → false ≡ are_free pinned first count
not_all_free pinned first count k below taken = elim (cases_Bool (are_free pinned first count)) [
  | inl free ↦ absurd (false≢true (sym taken ∙ each_free pinned first count k free below))
  | inr none ↦ sym none
]

free_below : (pinned : List Bool) (slot : ℕ) → is_free pinned slot ≡ true → slot < length pinned
free_below pinned slot free = elim (cases_lt slot (length pinned)) [
  | inl below ↦ below
  | inr beyond ↦ absurd (false≢true (sym (ap not (slice_index_or_beyond pinned slot beyond)) ∙ free))
]

-- A range of slots that are all free lies within the slots of the function. (A slot is free if its address is not taken.)
pub free_within : (pinned : List Bool) (first count : ℕ) → are_free pinned first count ≡ true → 0 < count → first + count ≤ length pinned
free_within pinned first count free some =
    let last : is_free pinned (first + (count - 1)) ≡ true = each_free pinned first count (count - 1) free (omega (arith, some)) in
    omega (arith, free_below pinned (first + (count - 1)) last, some)

-- The destination slots of copied words are slots of the function.
pub destination_within : (pinned : List Bool) (destination source count index : ℕ) → are_copied pinned destination source count ≡ true → index < count → destination + index < length pinned
destination_within pinned destination source count index copies below =
    let (apart, both) = and_parts (lie_apart destination source count) (are_free pinned destination count && are_free pinned source count) copies in
    let free = (and_parts (are_free pinned destination count) (are_free pinned source count) both).0 in
    free_below pinned (destination + index) (each_free pinned destination count index free below)

pub source_within : (pinned : List Bool) (destination source count index : ℕ) → are_copied pinned destination source count ≡ true → index < count → source + index < length pinned
source_within pinned destination source count index copies below =
    let (apart, both) = and_parts (lie_apart destination source count) (are_free pinned destination count && are_free pinned source count) copies in
    let free = (and_parts (are_free pinned destination count) (are_free pinned source count) both).1 in
    free_below pinned (source + index) (each_free pinned source count index free below)
