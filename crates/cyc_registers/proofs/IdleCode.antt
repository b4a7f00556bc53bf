-- The code positions that are flagged as needing no machine code indeed need none.
use Rattle.std.proofs.Common.{◌≡◌, ◌≢◌, ℕ, zero, suc, ◌+◌, ◌<◌, Bool, false, true, List, [], ◌∷◌, ◌++◌, length, Some, length-append, refl, sym, ap, subst, ◌∙◌, arith, inl, inr}
use Rattle.std.specs.Prelude.{◌==◌, ◌&&◌, ◌||◌, not, nat_le, nat_lt, if◌then◌else◌, bit_and, slice_get, slice_set}
use Rattle.std.proofs.lemmas.Bool.{and_parts, and_from, or_cases, cases_eq, leb-true, ltb-true, lt-ltb, eqb-true, false≢true, not_from_true, not-true}
use Rattle.std.proofs.lemmas.List.{get_or-set_same, get_or-set_other, length-set}
use Rattle.cyc_plain.specs.declared.instruction.Comparison.{Comparison}
use Rattle.cyc_plain.specs.declared.instruction.Comparison.TheVariants as comparisons
use Rattle.cyc_plain.specs.declared.instruction.Instruction.{Instruction}
use Rattle.cyc_plain.specs.declared.instruction.Instruction.TheVariants as instructions
use Rattle.cyc_plain.specs.declared.instruction.Operand.{Operand}
use Rattle.cyc_plain.specs.declared.instruction.Operand.TheVariants as operands
use Rattle.cyc_plain.specs.inside.Program.{Routine, Program}
use Rattle.cyc_plain.specs.inside.Uses.{At, is_slot, is_among}
use Rattle.cyc_registers.specs.declared.home.Home.{Home}
use Rattle.cyc_registers.specs.declared.home.Home.TheVariants as homes
use Rattle.cyc_registers.specs.declared.liveness.TheConstants.{MOST_CHOSEN}
use Rattle.cyc_registers.specs.inside.Interference.{is_kept, home_of, register_of}
use Rattle.cyc_registers.specs.inside.Idle.{always_has_result, AreIdle, IsIdle, LeadsOver, IsThere, IsUnused, NeverHolds, idle_at}
use Rattle.cyc_registers.specs.inside.IdlePlaces.{is_idle, is_there, is_unused, are_unused, never_holds, shares_register}
use Rattle.cyc_registers.specs.inside.LivenessTable.{IsSound}
use Rattle.cyc_registers.specs.inside.Masks.{AreMasks, mask_at}
use Rattle.cyc_words.proofs.Bits.{apart_bits}
use Rattle.cyc_registers.proofs.CheckedLiveness.{live_bit}
use Rattle.cyc_registers.specs.inside.Liveness.{IsLiveAt}

-- ---- slots that are not live after a place

among_unused : (masks live : List ℕ) (hs : List Home) (index first count : ℕ) → are_unused masks live hs index first count ≡ true
    → (slot : ℕ) → is_among first count slot ≡ true → is_unused masks live hs index slot ≡ true
among_unused masks live hs index first zero are slot among =
    let (from, before) = and_parts (nat_le first slot) (nat_lt slot (first + 0)) among in
    absurd (omega (arith, leb-true first slot from, ltb-true slot (first + 0) before))
among_unused masks live hs index first (suc count) are slot among =
    let (from, before) = and_parts (nat_le first slot) (nat_lt slot (first + suc count)) among in
    let (others, last) = and_parts (are_unused masks live hs index first count) (is_unused masks live hs index (first + count)) are in
    elim (cases_eq slot (first + count)) [
      | inl same ↦ ap (is_unused masks live hs index) same ∙ last
      | inr apart ↦
          among_unused masks live hs index first count others slot
          (and_from (nat_le first slot) (nat_lt slot (first + count)) from (lt-ltb slot (first + count) (omega (arith, apart, ltb-true slot (first + suc count) before))))
    ]

-- ---- correctness of the check by the liveness table

same_slot : (operand : Operand) (slot : ℕ) → is_slot operand slot ≡ true → operand ≡ operands.Slot slot
same_slot (operands.Slot number) slot is = ap operands.Slot (eqb-true number slot is)
same_slot (operands.Word word) slot is = absurd (false≢true is)

never_holds_right : (comparison : Comparison) (left right : Operand) → never_holds comparison left right ≡ true → NeverHolds comparison left right
never_holds_right comparisons.NotEqual (operands.Word left) (operands.Word right) is = not_from_true (left == right) is
never_holds_right comparison left right is = absurd (false≢true is)

module _ (program : Program) (r : Routine) (masks live : List ℕ) (calls clauses barred : ℕ) (sound : IsSound program r masks live calls clauses barred)
    (are : AreMasks masks MOST_CHOSEN) (hs : List Home) (flags : List Bool) (index : ℕ) where
  unused : (slot : ℕ) → is_unused masks live hs index slot ≡ true → IsUnused program r hs index slot
  unused slot is =
      let without : Bool = bit_and (mask_at live (index + 1)) (mask_at masks slot) == 0 in
      let alone : Bool = not (is_kept (home_of hs slot)) in
      let first = and_parts (nat_lt 0 (mask_at masks slot)) (without && alone) is in
      let second = and_parts without alone first.1 in
      let (j, has) = are.some slot (ltb-true 0 (mask_at masks slot) first.0) in (
        not-true (is_kept (home_of hs slot)) second.1,
        λ wanted.
            apart_bits (mask_at live (index + 1)) (mask_at masks slot) j
            (eqb-true (bit_and (mask_at live (index + 1)) (mask_at masks slot)) 0 second.0) has
            (live_bit program r masks live calls clauses barred sound slot j are has (index + 1)
            (subst (IsLiveAt program r slot) (let e : suc index ≡ index + 1 = omega arith in e) wanted)),
      )

  there : (slot : ℕ) (operand : Operand) → is_there hs slot operand ≡ true → IsThere hs slot operand
  there slot (operands.Slot number) is = of_homes (home_of hs slot) (home_of hs number) is refl refl
    where
      of_homes : (home other : Home) → shares_register home other ≡ true → home_of hs slot ≡ home → home_of hs number ≡ other
          → IsThere hs slot (operands.Slot number)
      of_homes (homes.Register register) (homes.Register other) same at at_other =
          (register, at, (ap register_of at_other ∙ ap Some (sym (eqb-true register other same))))
      of_homes (homes.Register register) (homes.Both other) same at at_other =
          (register, at, (ap register_of at_other ∙ ap Some (sym (eqb-true register other same))))
      of_homes home other same at at_other = absurd (false≢true same)
  there slot (operands.Word word) is = absurd (false≢true is)

  next_index : (target : ℕ) → (target == index + 1) ≡ true → target ≡ suc index
  next_index target is = omega (arith, eqb-true target (index + 1) is)

  pub idle : (i : Instruction) → is_idle masks live hs index i ≡ true → IsIdle program r hs flags index i
  idle (instructions.Move destination source) is = elim (or_cases (is_unused masks live hs index destination) (is_slot source destination || is_there hs destination source) is) [
    | inl never ↦ inr (inl (unused destination never))
    | inr moved ↦ elim (or_cases (is_slot source destination) (is_there hs destination source) moved) [
      | inl same ↦ inl (same_slot source destination same)
      | inr shared ↦ inr (inr (there destination source shared))
    ]
  ]
  idle (instructions.MoveWords destination source count) is =
      λ slot among. unused slot (among_unused masks live hs index destination count is slot among)
  idle (instructions.Unary operator destination operand) is = unused destination is
  idle (instructions.Binary operator destination left right) is =
      let parts = and_parts (is_unused masks live hs index destination) (always_has_result operator) is in
      (parts.1, unused destination parts.0)
  idle (instructions.Jump target) is = let next = next_index target is in (omega (arith, next), λ k low high. absurd (omega (arith, next, low, high)))
  idle (instructions.Branch comparison left right target) is = elim (or_cases (target == index + 1) (never_holds comparison left right) is) [
    | inl next ↦ inl (next_index target next)
    | inr other ↦ inr (never_holds_right comparison left right other)
  ]
  idle i is = absurd (false≢true is)

-- ---- one place at a time

flag_before : (flags : List Bool) (flag : Bool) (index : ℕ) → index ≢ length flags → idle_at (flags ++ flag ∷ []) index ≡ idle_at flags index
flag_before [] flag zero apart = absurd (apart refl)
flag_before [] flag (suc index) apart = refl
flag_before (f ∷ flags) flag zero apart = refl
flag_before (f ∷ flags) flag (suc index) apart = flag_before flags flag index (λ same. apart (ap suc same))

flag_last : (flags : List Bool) (flag : Bool) → idle_at (flags ++ flag ∷ []) (length flags) ≡ flag
flag_last [] flag = refl
flag_last (f ∷ flags) flag = flag_last flags flag

-- If a code position needs no machine code given some flagged positions, it also needs none if more positions are flagged as needing none.
still_idle : (program : Program) (r : Routine) (hs : List Home) (flags more : List Bool) (index : ℕ) → ((k : ℕ) → idle_at flags k ≡ true → idle_at more k ≡ true)
    → (i : Instruction) → IsIdle program r hs flags index i → IsIdle program r hs more index i
still_idle program r hs flags more index still (instructions.Move destination source) is = is
still_idle program r hs flags more index still (instructions.MoveWords destination source count) is = is
still_idle program r hs flags more index still (instructions.Unary operator destination operand) is = is
still_idle program r hs flags more index still (instructions.Binary operator destination left right) is = is
still_idle program r hs flags more index still (instructions.Jump target) (further, are) = (further, λ k low high. still k (are k low high))
still_idle program r hs flags more index still (instructions.Branch comparison left right target) is = is
still_idle program r hs flags more index still i is = is

idle_before : (flags : List Bool) (flag : Bool) (k : ℕ) → idle_at flags k ≡ true → idle_at (flags ++ flag ∷ []) k ≡ true
idle_before [] flag k is = absurd (false≢true is)
idle_before (f ∷ flags) flag zero is = is
idle_before (f ∷ flags) flag (suc k) is = idle_before flags flag k is

-- Says that the first `count` flags are right: each tells if the instruction with its index needs no machine code.
abbrev pub AreFirstIdle : Program → Routine → List Home → (count : ℕ) → List Bool → Type 0
AreFirstIdle program r hs count flags = AreIdle program r hs flags × (length flags ≡ count)

pub more_idle : (program : Program) (r : Routine) (hs : List Home) (count : ℕ) (flags : List Bool) (flag : Bool) (last : Instruction)
    → AreFirstIdle program r hs count flags → At r count last → (flag ≡ true → IsIdle program r hs flags count last)
    → AreFirstIdle program r hs (count + 1) (flags ++ flag ∷ [])
more_idle program r hs count flags flag last (are, many) at idle = (each, omega (arith, many, length-append flags (flag ∷ [])))
  where
    more : (index : ℕ) (i : Instruction) → IsIdle program r hs flags index i → IsIdle program r hs (flags ++ flag ∷ []) index i
    more index i is = still_idle program r hs flags (flags ++ flag ∷ []) index (idle_before flags flag) i is

    each : AreIdle program r hs (flags ++ flag ∷ [])
    each index i at_i is = elim (cases_eq index (length flags)) [
      | inl same ↦
          let here : index ≡ count = same ∙ many in
          let its : last ≡ i = (let e : Some last ≡ Some i = sym at ∙ (ap (slice_get r.code) (sym here) ∙ at_i) in cc) in
          subst (λ (n : ℕ). IsIdle program r hs (flags ++ flag ∷ []) n i) (sym here)
          (more count i (subst (IsIdle program r hs flags count) its (idle (sym (ap (idle_at (flags ++ flag ∷ [])) same ∙ flag_last flags flag) ∙ is))))
      | inr apart ↦ more index i (are index i at_i (sym (flag_before flags flag index apart) ∙ is))
    ]

-- ---- jumps over idle places

-- A jump that skips only code positions that need no machine code needs no machine code itself.
pub over_idle : (program : Program) (r : Routine) (hs : List Home) (flags : List Bool) (index : ℕ) (i : Instruction) → LeadsOver flags index i → IsIdle program r hs flags index i
over_idle program r hs flags index (instructions.Jump target) leads = leads
over_idle program r hs flags index i leads = absurd leads

-- Returns the flags with one more code position marked, if this position needs no machine code.
abbrev pub with_place : (flags : List Bool) (place : ℕ) (is_more : Bool) → List Bool
with_place flags place is_more = if is_more then slice_set flags place true else flags

module _ (program : Program) (r : Routine) (hs : List Home) (flags : List Bool) (are : AreIdle program r hs flags) (place : ℕ) (inside : place < length flags) where
  still_set : (k : ℕ) → idle_at flags k ≡ true → idle_at (slice_set flags place true) k ≡ true
  still_set k is = elim (cases_eq k place) [
    | inl same ↦ ap (idle_at (slice_set flags place true)) same ∙ get_or-set_same flags place true false inside
    | inr other ↦ get_or-set_other flags place k true false other ∙ is
  ]

  pub one_more : (is_more : Bool) (last : Instruction) → At r place last → (is_more ≡ true → IsIdle program r hs flags place last)
      → AreIdle program r hs (with_place flags place is_more)
  one_more false last at_last idle index i at_i is = are index i at_i is
  one_more true last at_last idle index i at_i is = still_idle program r hs flags (slice_set flags place true) index still_set i so_far
    where
      so_far : IsIdle program r hs flags index i
      so_far = elim (cases_eq index place) [
        | inl same ↦
            let its : last ≡ i = (let e : Some last ≡ Some i = sym at_last ∙ (ap (slice_get r.code) (sym same) ∙ at_i) in cc) in
            subst (λ (n : ℕ). IsIdle program r hs flags n i) (sym same) (subst (IsIdle program r hs flags place) its (idle refl))
        | inr other ↦ are index i at_i (sym (get_or-set_other flags place index true false other) ∙ is)
      ]

pub length-with_place : (flags : List Bool) (place : ℕ) (is_more : Bool) → length (with_place flags place is_more) ≡ length flags
length-with_place flags place true = length-set flags place true
length-with_place flags place false = refl
