-- The code that passes arguments from the caller's slots to those of the callee, and the number of its lines.
use Rattle.std.specs.Prelude.{ℕ, zero, suc, ◌+◌, ◌*◌, ◌==◌, ◌||◌, Bool, false, if◌then◌else◌, List, [], ◌∷◌, ◌++◌, Option, Some, None}
use Rattle.cyc_plain.specs.declared.limits.TheConstants.{MOST_FRAME_WORDS}
use Rattle.cyc_isa.specs.declared.instr.Instr.{Instr}
use Rattle.cyc_frame.specs.inside.Frame.{Frame}
use Rattle.cyc_select.specs.inside.Instructions.{load, slot_offset, store_slot}
use Rattle.cyc_select.specs.inside.Slots.{value_register, is_kept, made_in, keep_code, hand_code}
use Rattle.cyc_select.specs.inside.Operands.{keep_count, hand_count}

-- Returns true if one of the parameters before `slot` is passed in this register.
abbrev pub is_taken : (callee : Frame) → (slot register : ℕ) → Bool
is_taken callee zero register = false
is_taken callee (suc slot) register = is_taken callee slot register || made_in callee slot == register

-- Returns the register from which an argument is passed: its slot's own, unless an earlier parameter is passed in it. Returns `None` if
-- the argument is passed from memory.
abbrev pub free_register : Option ℕ → (callee : Frame) → (slot : ℕ) → Option ℕ
free_register None callee slot = None
free_register (Some register) callee slot = if is_taken callee slot register then None else Some register

abbrev pub passed_from : (caller callee : Frame) → (source slot : ℕ) → Option ℕ
passed_from caller callee source slot = free_register (value_register caller source) callee slot

-- Returns the code that stores a slot, whose home is a register alone, in its word of memory if the argument is passed from memory.
abbrev pub spill_from : Option ℕ → (caller : Frame) → (source : ℕ) → List Instr
spill_from None caller source = if is_kept caller source then [] else store_slot caller (made_in caller source) source ∷ []
spill_from (Some register) caller source = []

abbrev pub spill : (caller callee : Frame) → (source slot : ℕ) → List Instr
spill caller callee source slot = spill_from (passed_from caller callee source slot) caller source

abbrev pub spills : (caller callee : Frame) → (source slot count : ℕ) → List Instr
spills caller callee source slot zero = []
spills caller callee source slot (suc count) =
    spill caller callee source slot ++ spills caller callee (suc source) (suc slot) count

abbrev pub spill_count_from : Option ℕ → (caller : Frame) → (source : ℕ) → ℕ
spill_count_from None caller source = if is_kept caller source then 0 else 1
spill_count_from (Some register) caller source = 0

abbrev pub spill_count : (caller callee : Frame) → (source slot : ℕ) → ℕ
spill_count caller callee source slot = spill_count_from (passed_from caller callee source slot) caller source

abbrev pub spills_count : (caller callee : Frame) → (source slot count : ℕ) → ℕ
spills_count caller callee source slot zero = 0
spills_count caller callee source slot (suc count) =
    spill_count caller callee source slot + spills_count caller callee (suc source) (suc slot) count

-- Returns the code that passes an argument from the caller's slot to the callee's, after the switch to the callee's frame. An argument
-- passed from memory is loaded into the callee's register for it.
abbrev pub pass_from : Option ℕ → (caller callee : Frame) → (source slot : ℕ) → List Instr
pass_from None caller callee source slot =
    load (made_in callee slot) (4 * MOST_FRAME_WORDS + slot_offset caller source) ∷ keep_code callee slot
pass_from (Some register) caller callee source slot = hand_code callee register slot

abbrev pub pass : (caller callee : Frame) → (source slot : ℕ) → List Instr
pass caller callee source slot = pass_from (passed_from caller callee source slot) caller callee source slot

abbrev pub copies : (caller callee : Frame) → (source slot count : ℕ) → List Instr
copies caller callee source slot zero = []
copies caller callee source slot (suc count) =
    pass caller callee source slot ++ copies caller callee (suc source) (suc slot) count

abbrev pub pass_count_from : Option ℕ → (callee : Frame) → (slot : ℕ) → ℕ
pass_count_from None callee slot = keep_count callee slot + 1
pass_count_from (Some register) callee slot = hand_count callee register slot

abbrev pub pass_count : (caller callee : Frame) → (source slot : ℕ) → ℕ
pass_count caller callee source slot = pass_count_from (passed_from caller callee source slot) callee slot

abbrev pub copies_count : (caller callee : Frame) → (source slot count : ℕ) → ℕ
copies_count caller callee source slot zero = 0
copies_count caller callee source slot (suc count) =
    pass_count caller callee source slot + copies_count caller callee (suc source) (suc slot) count
