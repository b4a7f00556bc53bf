-- How the labelled machine represents the waiting calls: callee-saved registers, handler records, and the addresses of frames and slots.
use Rattle.std.proofs.Common.{◌≡◌, ℕ, zero, suc, ◌+◌, ◌*◌, ◌%◌, ◌<◌, ◌≤◌, Bool, true, false, List, [], ◌∷◌, length, Some, None, slice_get, refl, sym, ap, subst, ◌∙◌, arith, inl, inr}
use Rattle.std.specs.Prelude.{nat_lt, if◌then◌else◌}
use Rattle.cyc_plain.specs.declared.limits.TheConstants.{MOST_FRAME_WORDS}
use Rattle.cyc_machine_model.specs.declared.constants.TheConstants.{RETURN_ADDRESS}
use Rattle.cyc_machine_model.specs.State.{stack_end}
use Rattle.cyc_store.specs.State.{saved}
use Rattle.cyc_plain.specs.declared.instruction.Instruction.{Instruction}
use Rattle.cyc_plain.specs.declared.instruction.Instruction.TheVariants as plain
use Rattle.cyc_plain.specs.inside.Program.{Routine, Program, routine_at}
use Rattle.cyc_plain.specs.inside.State as states
use Rattle.cyc_plain.specs.inside.State.{Words}
use Rattle.cyc_plain.specs.inside.Step.{instruction_at}
use Rattle.cyc_plain.specs.inside.Uses.{writes}
use Rattle.std.proofs.lemmas.Bool.{cases_lt, or_left, or_right, lt-ltb, le-ltb, cond-true, cond-false}
use Rattle.cyc_frame.specs.inside.Layout.{IsFrame, AreFrames, slot_word, frame_at, loses, loses_any, opens, opens_any}
use Rattle.cyc_frame.specs.inside.Frame.{Frame}
use Rattle.cyc_registers.specs.inside.Liveness.{IsLiveAt}
use Rattle.cyc_select.specs.inside.Instructions.{slot_offset}
use Rattle.cyc_select.specs.inside.Slots.{value_register, is_kept}
use Rattle.cyc_select.specs.inside.Counts.{instruction_line, body_count}
use Rattle.cyc_select.proofs.effects.Views.{Contents}

-- Returns the size of a stack frame in bytes, the same for all functions.
abbrev pub frame_size : ℕ
frame_size = 4 * MOST_FRAME_WORDS

-- `Holds` says that the frame at the address `base`, of a call of `function`, contains the words of all slots whose home includes memory.
abbrev pub Holds : Program → List Frame → (function base : ℕ) → (w : Contents) (slots : Words) → Type 0
Holds program frames function base w slots =
    (slot : ℕ) → slot < (routine_at program function).slots → is_kept (frame_at frames function) slot ≡ true
    → w.words (base + slot_offset (frame_at frames function) slot) ≡ slots slot

-- Returns the number of the line at which a call returns.
abbrev pub after_line : Program → List Frame → (function index callee arguments count result : ℕ) → ℕ
after_line program frames function index callee arguments count result =
    instruction_line program frames function index + body_count program frames function (plain.Call callee arguments count result)

-- ---- callee-saved registers

abbrev pub preserved_of : Words → Words
preserved_of r j = r (17 + j)

-- `Left` gives the words of the callee-saved registers when a call returns. The registers that the call saved are restored from its
-- frame; each other register has the word that the calls made by this call left in it.
abbrev pub Left : (first saved base : ℕ) (inner : Words) (w : Contents) → Words
Left first saved base inner w j = if nat_lt j saved then w.words (base + 4 * (first + j)) else inner j

-- `LeftBy` gives the callee-saved registers that a function leaves when it returns, once it has saved all those that it uses.
abbrev pub LeftBy : Frame → (base : ℕ) (inner : Words) (w : Contents) → Words
LeftBy frame base inner w = Left frame.first_saved frame.saved base inner w

-- `Finds` says that a caller finds its slots in the callee-saved registers after a call, if they are live then and
-- are not results of the call.
abbrev pub Finds : Program → List Frame → (function index callee arguments count result : ℕ) → (left slots : Words) → Type 0
Finds program frames function index callee arguments count result left slots =
    (slot j : ℕ) → j < 7 → value_register (frame_at frames function) slot ≡ Some (17 + j)
    → writes program (plain.Call callee arguments count result) slot ≡ false
    → IsLiveAt program (routine_at program function) slot (suc index) → left j ≡ slots slot

pub left_past : (first saved base : ℕ) (inner : Words) (w : Contents) (j : ℕ) → saved ≤ j → Left first saved base inner w j ≡ inner j
left_past first saved base inner w j past = cond-false (nat_lt j saved) (w.words (base + 4 * (first + j))) (inner j) (le-ltb j saved past)

pub left_inside : (first saved base : ℕ) (inner : Words) (w : Contents) (j : ℕ) → j < saved → Left first saved base inner w j ≡ w.words (base + 4 * (first + j))
left_inside first saved base inner w j below = cond-true (nat_lt j saved) (w.words (base + 4 * (first + j))) (inner j) (lt-ltb j saved below)

-- The words left in the callee-saved registers are unchanged if the saved words and the unsaved registers are unchanged.
pub left_same : (first saved base : ℕ) (inner inner' : Words) (w w' : Contents) → ((j : ℕ) → saved ≤ j → j < 7 → inner' j ≡ inner j)
    → ((j : ℕ) → j < saved → j < 7 → w'.words (base + 4 * (first + j)) ≡ w.words (base + 4 * (first + j))) → (j : ℕ) → j < 7 → Left first saved base inner' w' j ≡ Left first saved base inner w j
left_same first saved base inner inner' w w' same words j high = elim (cases_lt j saved) [
  | inl below ↦ left_inside first saved base inner' w' j below ∙ (words j below high ∙ sym (left_inside first saved base inner w j below))
  | inr past ↦ left_past first saved base inner' w' j past ∙ (same j past high ∙ sym (left_past first saved base inner w j past))
]

-- ---- the waiting calls

-- `Chain` describes the waiting calls above a call whose frame is at `base`, which returns to the address `back` and leaves the words
-- `left` in the callee-saved registers.
abbrev pub Chain : Program → List Frame → (addresses : ℕ → ℕ) → (w : Contents) → (base back : ℕ) → (left : Words) → (function : ℕ) → List states.Frame → Type 0
Chain program frames addresses w base back left function [] =
    (base + frame_size ≡ stack_end) × (back ≡ 0) × (function ≡ program.main)
Chain program frames addresses w base back left function (f ∷ waiting) =
    (arguments count index : ℕ) × (f.caller.function < length program.functions)
    × (instruction_at program (record { function = f.caller.function; index = index }) ≡ Some (plain.Call function arguments count f.result))
    × (f.caller.next ≡ index + 1)
    × (back ≡ addresses (after_line program frames f.caller.function index function arguments count f.result))
    × Holds program frames f.caller.function (base + frame_size) w f.caller.slots
    × Finds program frames f.caller.function index function arguments count f.result left f.caller.slots
    × Chain program frames addresses w (base + frame_size)
    (w.words (base + frame_size + 4 * (frame_at frames f.caller.function).return_address))
    (LeftBy (frame_at frames f.caller.function) (base + frame_size) left w) f.caller.function waiting

-- All slots of a function lie within the function's stack frame.
pub slots_fit : (r : Routine) (frame : Frame) → IsFrame r frame → frame.first_slot + r.slots ≤ MOST_FRAME_WORDS
slots_fit r frame is = go r.slots is.inside
  where
    go : (slots : ℕ) → ((slot : ℕ) → slot < slots → slot_word frame slot < r.frame_count) → frame.first_slot + slots ≤ MOST_FRAME_WORDS
    go zero inside = omega (arith, is.first_inside, is.small)
    go (suc n) inside = omega (arith, inside n (omega arith), is.small)

module _ (program : Program) (frames : List Frame) (fit : AreFrames program frames) (addresses : ℕ → ℕ) where
  -- The relation `Chain` on the waiting calls still holds if their frames in memory and each word left in a callee-saved register are
  -- unchanged.
  pub chain_kept : (w w' : Contents) (base back : ℕ) (left left' : Words) (function : ℕ) (waiting : List states.Frame) → ((a : ℕ) → base + frame_size ≤ a → w'.words a ≡ w.words a)
      → ((j : ℕ) → j < 7 → left' j ≡ left j) → Chain program frames addresses w base back left function waiting → Chain program frames addresses w' base back left' function waiting
  chain_kept w w' base back left left' function [] same alike chain = chain
  chain_kept w w' base back left left' function (f ∷ waiting) same alike (arguments, count, index, known, at, next, is_back, holds, finds, chain) =
      let above : ℕ = base + frame_size in
      let its : Frame = frame_at frames f.caller.function in
      let back_there : ℕ = w.words (above + 4 * its.return_address) in (
        arguments,
        count,
        index,
        known,
        at,
        next,
        is_back,
        λ slot below slot_kept. same (above + slot_offset (frame_at frames f.caller.function) slot) (omega arith) ∙ holds slot below slot_kept,
        λ slot j high has unwritten live. alike j high ∙ finds slot j high has unwritten live,
        subst (λ (b : ℕ). Chain program frames addresses w' above b (LeftBy its above left' w') f.caller.function waiting) (sym (same (above + 4 * its.return_address) (omega arith)))
            (chain_kept w w' above back_there (LeftBy its above left w) (LeftBy its above left' w') f.caller.function waiting (λ a from. same a (omega arith))
            (left_same its.first_saved its.saved above left left' w w' (λ j past high. alike j high) (λ j below high. same (above + 4 * (its.first_saved + j)) (omega arith))) chain),
      )

  -- `Lies` says that `base` is the address of the stack frame of a call with this depth of nesting.
  pub record Lies (base depth : ℕ) : Type 0 where
    pub below_end : base + frame_size ≤ stack_end
    pub above_low : base + frame_size * depth ≡ stack_end
    pub aligned : base % 4 ≡ 0

  pub chain_lies : (w : Contents) (base back : ℕ) (left : Words) (function : ℕ) (waiting : List states.Frame) → Chain program frames addresses w base back left function waiting
      → Lies base (suc (length waiting))
  chain_lies w base back left function [] (last, is_back, is_main) = record { below_end = omega arith; above_low = omega (arith, last); aligned = omega (arith, last) }
  chain_lies w base back left function (f ∷ waiting) (arguments, count, index, caller_known, at, next, is_back, holds, finds, chain) =
      let above : ℕ = base + frame_size in
      let lies = chain_lies w above (w.words (above + 4 * (frame_at frames f.caller.function).return_address)) (LeftBy (frame_at frames f.caller.function) above left w) f.caller.function waiting chain in
      record { below_end = omega (arith, lies.below_end); above_low = omega (arith, lies.above_low); aligned = omega (arith, lies.aligned) }

-- ---- handler records

-- `IsRecord` describes the record of an exception handler, word by word: the previous handler, the frame, and the
-- line at which an exception arrives.
pub record IsRecord (program : Program) (frames : List Frame) (addresses : ℕ → ℕ) (newest base function index first : ℕ) (contents : Words) : Type 0 where
  pub at : newest ≡ base + slot_offset (frame_at frames function) first
  pub handler : ℕ
  pub opened : instruction_at program (record { function = function; index = index }) ≡ Some (plain.Try first handler)
  pub frame : contents 1 ≡ base
  pub line : contents 2 ≡ addresses (instruction_line program frames function index + 3)

-- `AreRecords` says that the handler records of a call form a linked list from the newest record to the newest one of its caller.
abbrev pub AreRecords : Program → List Frame → (addresses : ℕ → ℕ) → (base function : ℕ) → (rest : ℕ → Type 0) → (newest : ℕ) → List states.Handler → Type 0
AreRecords program frames addresses base function rest newest [] = rest newest
AreRecords program frames addresses base function rest newest (states.Caught ∷ handlers) = ⊥
AreRecords program frames addresses base function rest newest (states.Open index first contents ∷ handlers) =
    IsRecord program frames addresses newest base function index first contents
    × AreRecords program frames addresses base function rest (contents 0) handlers

abbrev pub IsBeyond : Program → List Frame → (addresses : ℕ → ℕ) → (base function : ℕ) → List states.Frame → (newest : ℕ) → Type 0
IsBeyond program frames addresses base function [] newest = newest ≡ 0
IsBeyond program frames addresses base function (f ∷ waiting) newest =
    AreRecords program frames addresses (base + frame_size) f.caller.function
    (IsBeyond program frames addresses (base + frame_size) f.caller.function waiting) newest f.caller.handlers

abbrev pub IsNewest : Program → List Frame → (addresses : ℕ → ℕ) → (newest base function : ℕ) → List states.Handler → List states.Frame → Type 0
IsNewest program frames addresses newest base function handlers waiting =
    AreRecords program frames addresses base function
    (IsBeyond program frames addresses base function waiting) newest handlers

-- ---- addresses of slots

-- `AreBased` says that the slots of the active call and of each waiting call have their addresses in the frame of this call.
abbrev pub AreBased : List Frame → (base function place : ℕ) → List states.Frame → Type 0
AreBased frames base function place [] = place ≡ base + 4 * (frame_at frames function).first_slot
AreBased frames base function place (f ∷ waiting) =
    (place ≡ base + 4 * (frame_at frames function).first_slot)
    × AreBased frames (base + frame_size) f.caller.function f.caller.base waiting

pub based_here : (frames : List Frame) (base function place : ℕ) (waiting : List states.Frame) → AreBased frames base function place waiting → place ≡ base + 4 * (frame_at frames function).first_slot
based_here frames base function place [] based = based
based_here frames base function place (f ∷ waiting) (here, based) = here

-- `IsBack` says that the return address of a call is in its frame or in the return address register.
abbrev pub IsBack : (in_frame : Bool) (frame : Frame) (r : Words) (w : Contents) (base back : ℕ) → Type 0
IsBack true frame r w base back = w.words (base + 4 * frame.return_address) ≡ back
IsBack false frame r w base back = r RETURN_ADDRESS ≡ back

-- The return address is unchanged if its word in the frame and the return address register are unchanged.
pub back_in : (in_frame : Bool) (frame : Frame) (r : Words) (w w' : Contents) (base back : ℕ) → w'.words (base + 4 * frame.return_address) ≡ w.words (base + 4 * frame.return_address)
    → IsBack in_frame frame r w base back → IsBack in_frame frame r w' base back
back_in true frame r w w' base back same is = same ∙ is
back_in false frame r w w' base back same is = is

pub back_by : (in_frame : Bool) (frame : Frame) (r r' : Words) (w : Contents) (base back : ℕ) → (in_frame ≡ false → r' RETURN_ADDRESS ≡ r RETURN_ADDRESS)
    → IsBack in_frame frame r w base back → IsBack in_frame frame r' w base back
back_by true frame r r' w base back same is = is
back_by false frame r r' w base back same is = same refl ∙ is

-- If code contains a call or opens a handler, it overwrites the return address register.
loses_at : (code : List Instruction) (index : ℕ) (i : Instruction) → slice_get code index ≡ Some i → loses i ≡ true → loses_any code ≡ true
loses_at [] index i at is = absurd (let e : None ≡ Some i = at in cc)
loses_at (x ∷ code) zero i at is = let same : x ≡ i = (let e : Some x ≡ Some i = at in cc) in or_left (loses x) (loses_any code) (ap loses same ∙ is)
loses_at (x ∷ code) (suc index) i at is = or_right (loses x) (loses_any code) (loses_at code index i at is)

-- If code contains a `Try` instruction, it opens handlers.
pub opens_at : (code : List Instruction) (index first handler : ℕ) → slice_get code index ≡ Some (plain.Try first handler) → opens_any code ≡ true
opens_at [] index first handler at = absurd (let e : None ≡ Some (plain.Try first handler) = at in cc)
opens_at (x ∷ code) zero first handler at =
    let same : x ≡ plain.Try first handler = (let e : Some x ≡ Some (plain.Try first handler) = at in cc) in
    or_left (opens x) (opens_any code) (ap opens same)
opens_at (x ∷ code) (suc index) first handler at = or_right (opens x) (opens_any code) (opens_at code index first handler at)

-- A function that contains a call or opens a handler saves the return address in its frame.
pub saves_at : (program : Program) (frames : List Frame) → AreFrames program frames → (function index : ℕ) (i : Instruction) → function < length program.functions
    → instruction_at program (record { function = function; index = index }) ≡ Some i → loses i ≡ true → (frame_at frames function).saves ≡ true
saves_at program frames fit function index i known at is = (fit.each function known).saved ∙ loses_at (routine_at program function).code index i at is
