-- If the table of known stack space passes its check, the code made from it has no redundant checks for stack space.
-- Functions and programs with code made from checked tables have no redundant checks for stack space either.
use Rattle.std.proofs.Common.{◌≡◌, ℕ, suc, ◌+◌, ◌^◌, ◌<◌, ◌≤◌, true, ◌&&◌, ◌||◌, List, [], ◌∷◌, ◌++◌, length, map, Some, slice_get, refl, sym, ap, subst, ◌∙◌, arith, inl, inr}
use Rattle.std.specs.Prelude.{◌==◌, slice_index_or}
use Rattle.std.proofs.lemmas.Bool.{cases_lt, and_parts, eqb-true, leb-true, or_cases, false≢true}
use Rattle.std.proofs.lemmas.List.{length-append, length-map}
use Rattle.cyc_words.proofs.Items.{below_from_slice_get}
use Rattle.cyc_plain.specs.declared.instruction.Instruction.{Instruction}
use Rattle.cyc_plain.specs.declared.instruction.Instruction.TheVariants as instructions
use Rattle.cyc_plain.specs.declared.program.Function.{Function}
use Rattle.cyc_plain.specs.inside.Program.{Routine, Program, no_routine, routine_of, routine_at, program_of}
use Rattle.cyc_plain.specs.inside.Uses.{leads}
use Rattle.cyc_plain.specs.inside.WellFormed.{IsPlain}
use Rattle.cyc_plain.proofs.Placed.{routine_in}
use Rattle.cyc_propagation.specs.inside.Entries.{with_code}
use Rattle.cyc_propagation.specs.inside.Room.{slots_in, room_following, room_at, is_enough, leads_to_enough, spared_instruction, IsSparedCode, AreSparedFirst, IsSpared, AreSpared, AreMadeFirst, IsMadeFunction}
use Rattle.cyc_propagation.specs.inside.Simplified.{IsSimplified}
use Rattle.cyc_propagation.specs.inside.Table.{IsReplaced, AreReplaced}
use Rattle.cyc_propagation.proofs.Runs.{each_replaced}
use Rattle.cyc_propagation.proofs.Plain.{is_plain, is_simplified}
use Rattle.cyc_propagation.proofs.Spared.{spared_plain, spared_simplified}
use Rattle.cyc_propagation.proofs.Walks.{get_before, get_last, next_replaced, routine_before, routine_last, routines_last}

-- ---- sizes

-- The number of a function's slots plus one fits a machine word, since the number of words of its frame does.
pub slots_and_one_fit : (program : Program) (function : ℕ) (f : Function) → IsPlain program → function < length program.functions → routine_of f ≡ routine_at program function → f.frame_count < 2 ^ 64
    → f.slots + 1 < 2 ^ 64
slots_and_one_fit program function f plain below same few =
    let routine = routine_in program function plain.well_formed below in
    omega (arith, routine.frame, ap (λ (s : Routine). s.slots) same, ap (λ (s : Routine). s.frame_count) same, few)

-- ---- the check

module _ (rooms : List ℕ) (room index : ℕ) where
  same_place : (place next : ℕ) → (place == next) ≡ true → is_enough rooms room place ≡ true → room_at rooms next ≤ room
  same_place place next same enough = leb-true (room_at rooms next) room (subst (λ (k : ℕ). is_enough rooms room k ≡ true) (eqb-true place next same) enough)

  next_place : (next : ℕ) → (suc index == next) ≡ true → is_enough rooms room (index + 1) ≡ true → room_at rooms next ≤ room
  next_place next same enough = same_place (suc index) next same (subst (λ (k : ℕ). is_enough rooms room k ≡ true) (let e : index + 1 ≡ suc index = omega arith in e) enough)

  either_place : (target next : ℕ) → (is_enough rooms room target && is_enough rooms room (index + 1)) ≡ true → (next_is : (suc index == next || target == next) ≡ true) → room_at rooms next ≤ room
  either_place target next enough led =
      let (there, following) = and_parts (is_enough rooms room target) (is_enough rooms room (index + 1)) enough in
      elim (or_cases (suc index == next) (target == next) led) [
        | inl on ↦ next_place next on following
        | inr off ↦ same_place target next off there
      ]

  enough_led : (i : Instruction) (next : ℕ) → leads_to_enough rooms room i index ≡ true → leads i index next ≡ true → room_at rooms next ≤ room
  enough_led (instructions.Jump target) next enough led = same_place target next led enough
  enough_led (instructions.Branch comparison left right target) next enough led = either_place target next enough led
  enough_led (instructions.Try first handler) next enough led = either_place handler next enough led
  enough_led (instructions.Return value) next enough led = absurd (false≢true led)
  enough_led (instructions.Throw tag value) next enough led = absurd (false≢true led)
  enough_led (instructions.Finish value) next enough led = absurd (false≢true led)
  enough_led (instructions.Uncaught tag value) next enough led = absurd (false≢true led)
  enough_led i next enough led = next_place next led enough

-- ---- one instruction at a time

module _ (slots : ℕ → ℕ) (code : List Instruction) (rooms : List ℕ) where
  pub none_spared : AreSparedFirst slots code rooms 0 []
  none_spared = record { as_many = refl; each = λ index i at below. absurd (omega arith); checked = λ index i at below. absurd (omega arith) }

  pub next_spared : (count : ℕ) (spared all : List Instruction) (i made : Instruction) → AreSparedFirst slots code rooms count spared → slice_get code count ≡ Some i
      → made ≡ spared_instruction slots (room_at rooms count) count i → all ≡ spared ++ made ∷ []
      → leads_to_enough rooms (room_following slots (room_at rooms count) i) i count ≡ true → AreSparedFirst slots code rooms (count + 1) all
  next_spared count spared all i made are at is all_is right = subst (AreSparedFirst slots code rooms (count + 1)) (sym all_is) (record {
    as_many = omega (arith, length-append spared (made ∷ []), are.as_many);
    each = λ k j there below. elim (cases_lt k count) [
      | inl before ↦ get_before spared made k (omega (arith, before, are.as_many)) ∙ are.each k j there before
      | inr not_before ↦ last_each k j there (omega (arith, below, not_before))
    ];
    checked = λ k j there below. elim (cases_lt k count) [
      | inl before ↦ are.checked k j there before
      | inr not_before ↦ last_checked k j there (omega (arith, below, not_before))
    ];
  })
    where
      same_there : (k : ℕ) (j : Instruction) → slice_get code k ≡ Some j → k ≡ count → i ≡ j
      same_there k j there same = let e : Some i ≡ Some j = sym at ∙ ap (slice_get code) (sym same) ∙ there in cc

      last_each : (k : ℕ) (j : Instruction) → slice_get code k ≡ Some j → k ≡ count → slice_get (spared ++ made ∷ []) k ≡ Some (spared_instruction slots (room_at rooms k) k j)
      last_each k j there same =
          let here : slice_get (spared ++ made ∷ []) count ≡ Some (spared_instruction slots (room_at rooms count) count i) =
          subst (λ (n : ℕ). slice_get (spared ++ made ∷ []) n ≡ Some made) are.as_many (get_last spared made) ∙ ap Some is in
          subst (λ (n : ℕ). slice_get (spared ++ made ∷ []) n ≡ Some (spared_instruction slots (room_at rooms n) n j)) (sym same)
          (subst (λ (x : Instruction). slice_get (spared ++ made ∷ []) count ≡ Some (spared_instruction slots (room_at rooms count) count x)) (same_there k j there same) here)

      last_checked : (k : ℕ) (j : Instruction) → slice_get code k ≡ Some j → k ≡ count → leads_to_enough rooms (room_following slots (room_at rooms k) j) j k ≡ true
      last_checked k j there same =
          subst (λ (n : ℕ). leads_to_enough rooms (room_following slots (room_at rooms n) j) j n ≡ true) (sym same)
          (subst (λ (x : Instruction). leads_to_enough rooms (room_following slots (room_at rooms count) x) x count ≡ true) (same_there k j there same) right)

  pub code_spared : (count : ℕ) (spared : List Instruction) → AreSparedFirst slots code rooms count spared → count ≡ length code → room_at rooms 0 ≡ 0 → IsSparedCode slots code spared
  code_spared count spared are all none = record {
    as_many = are.as_many ∙ all;
    rooms = room_at rooms;
    table = record {
      first = none;
      edges = λ index next i at led.
          (let below : index < count = omega (arith, below_from_slice_get code index i at, all) in
          enough_led rooms (room_following slots (room_at rooms index) i) index i next (are.checked index i at below) led);
    };
    each = λ index i at. are.each index i at (omega (arith, below_from_slice_get code index i at, all));
  }

-- ---- one function at a time

next_made : (program : Program) (count : ℕ) (routines : List Routine) (s : Routine) → AreMadeFirst program count routines → IsMadeFunction program (routine_at program count) s
    → AreMadeFirst program (count + 1) (routines ++ s ∷ [])
next_made program count routines s are is = record {
  between = are.between ++ is.between ∷ [];
  replaced = next_replaced program count are.between is.between are.replaced is.replaced;
  as_many = omega (arith, length-append routines (s ∷ []), are.as_many);
  spared = λ k below. elim (cases_lt k count) [
    | inl before ↦
        subst (λ (x : Routine). IsSpared (slots_in program) x (slice_index_or (routines ++ s ∷ []) k no_routine)) (sym (routine_before are.between is.between k (omega (arith, before, are.replaced.as_many))))
        (subst (IsSpared (slots_in program) (slice_index_or are.between k no_routine)) (sym (routine_before routines s k (omega (arith, before, are.as_many)))) (are.spared k before))
    | inr not_before ↦
        let same : k ≡ count = omega (arith, below, not_before) in
        let one : slice_index_or (are.between ++ is.between ∷ []) k no_routine ≡ is.between =
        subst (λ (n : ℕ). slice_index_or (are.between ++ is.between ∷ []) n no_routine ≡ is.between) (are.replaced.as_many ∙ sym same) (routine_last are.between is.between) in
        let other : slice_index_or (routines ++ s ∷ []) k no_routine ≡ s =
        subst (λ (n : ℕ). slice_index_or (routines ++ s ∷ []) n no_routine ≡ s) (are.as_many ∙ sym same) (routine_last routines s) in
        subst (λ (x : Routine). IsSpared (slots_in program) x (slice_index_or (routines ++ s ∷ []) k no_routine)) (sym one) (subst (IsSpared (slots_in program) is.between) (sym other) is.spared)
  ];
}

pub more_made : (program : Program) (count : ℕ) (functions : List Function) (f : Function) (r : Routine) → AreMadeFirst program count (map routine_of functions)
    → r ≡ routine_at program count → IsMadeFunction program r (routine_of f) → AreMadeFirst program (count + 1) (map routine_of (functions ++ f ∷ []))
more_made program count functions f r are same is =
    subst (AreMadeFirst program (count + 1)) (sym (routines_last functions f))
    (next_made program count (map routine_of functions) (routine_of f) are (subst (λ (s : Routine). IsMadeFunction program s (routine_of f)) same is))

module _ (program : Program) (given functions : List Function) (number : ℕ) (globals : List ℕ) (main : ℕ) (are_given : map routine_of given ≡ program.functions)
    (most : number ≤ length given) (least : length given ≤ number) (are : AreMadeFirst program number (map routine_of functions)) (same_globals : globals ≡ program.globals)
    (same_main : main ≡ program.main) where
  all_made : number ≡ length program.functions
  all_made = omega (arith, most, least, length-map given routine_of, ap (λ (rs : List Routine). length rs) are_given)

  abbrev middle : Program
  middle = record { functions = are.between; globals = globals; main = main }

  middle_replaced : AreReplaced program middle
  middle_replaced = record {
    as_many = are.replaced.as_many ∙ all_made;
    each = λ k below. are.replaced.each k (omega (arith, below, all_made));
    globals = same_globals;
    main = same_main;
  }

  slots_same : slots_in program ≡ slots_in middle
  slots_same = λ k function. sym ((each_replaced program middle middle_replaced function).slots) k

  middle_spared : AreSpared middle (program_of functions globals main)
  middle_spared = record {
    as_many = are.as_many ∙ sym are.replaced.as_many;
    each = λ k below.
        subst (λ (slots : ℕ → ℕ). IsSpared slots (routine_at middle k) (slice_index_or (map routine_of functions) k no_routine)) slots_same (are.spared k (omega (arith, below, are.replaced.as_many)));
    globals = refl;
    main = refl;
  }

  pub made_plain : IsPlain program → IsPlain (program_of functions globals main)
  made_plain plain = spared_plain middle (program_of functions globals main) middle_spared (is_plain program middle middle_replaced plain)

  pub made_simplified : IsPlain program → IsSimplified program (program_of functions globals main)
  made_simplified plain = spared_simplified middle (program_of functions globals main) middle_spared program (is_simplified program middle middle_replaced plain)

-- A simplified function without redundant checks for stack space satisfies `IsMadeFunction`, the condition on each function of the result.
pub code_made : (program : Program) (r : Routine) (code spared : List Instruction) → IsReplaced program r (with_code r code) → IsSparedCode (slots_in program) code spared → IsMadeFunction program r (with_code r spared)
code_made program r code spared replaced is = record { between = with_code r code; replaced = replaced; spared = record { same = refl; code = is } }
