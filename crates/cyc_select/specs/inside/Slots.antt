-- The code that reads and writes slots and globals, and the code that saves registers at a function's entry.
use Rattle.std.specs.Prelude.{ℕ, zero, suc, ◌+◌, ◌*◌, ◌/◌, ◌%◌, ◌^◌, ◌==◌, ◌&&◌, Bool, false, nat_lt, if◌then◌else◌, List, [], ◌∷◌, ◌++◌, map, sum_by, take, Option, Some, None}
use Rattle.cyc_plain.specs.declared.limits.TheConstants.{MOST_FRAME_WORDS}
use Rattle.cyc_isa.specs.Decoding.{register_of}
use Rattle.cyc_isa.specs.declared.instr.Instr.{Instr}
use Rattle.cyc_isa.specs.declared.instr.Instr.TheVariants as machine
use Rattle.cyc_isa.specs.declared.instr.MemoryOp.{MemoryOp}
use Rattle.cyc_machine_model.specs.declared.constants.TheConstants.{RETURN_ADDRESS}
use Rattle.cyc_machine_model.specs.State.{data_base}
use Rattle.cyc_registers.specs.declared.home.Home.{Home}
use Rattle.cyc_registers.specs.declared.home.Home.TheVariants as homes
use Rattle.cyc_registers.specs.declared.home.TheConstants.{FIRST_PRESERVED}
use Rattle.cyc_registers.specs.inside.Interference as homing
use Rattle.cyc_frame.specs.inside.Frame.{Frame}
use Rattle.cyc_select.specs.declared.constants.TheConstants.{FIRST_RESULT, SECOND_RESULT, THIRD_RESULT, FIRST, SECOND, FRAME, GLOBALS, NEAR_GLOBALS}
use Rattle.cyc_select.specs.inside.Instructions.{load, store, slot_offset, store_slot, add_immediate, minus, copy}

-- ---- slots and registers

-- Returns the register of a slot, or `None` if the slot's home is memory alone.
abbrev pub value_register : Frame → (slot : ℕ) → Option ℕ
value_register frame slot = homing.register_of (homing.home_of frame.homes slot)

abbrev pub or_else : Option ℕ → ℕ → ℕ
or_else None other = other
or_else (Some register) other = register

-- Returns true if a slot's value is also in its word of the frame, so that its home includes memory.
abbrev pub is_kept : Frame → (slot : ℕ) → Bool
is_kept frame slot = homing.is_kept (homing.home_of frame.homes slot)

-- Returns the instruction that loads a slot's word into a register.
abbrev pub load_from : Option ℕ → Frame → (target slot : ℕ) → Instr
load_from None frame target slot = load target (slot_offset frame slot)
load_from (Some register) frame target slot = copy target register

abbrev pub load_slot : Frame → (target slot : ℕ) → Instr
load_slot frame target slot = load_from (value_register frame slot) frame target slot

-- Returns the register in which a slot's word is computed: the slot's own, or else the first temporary.
abbrev pub made_in : Frame → (slot : ℕ) → ℕ
made_in frame slot = or_else (value_register frame slot) FIRST

abbrev pub keep_code : Frame → (slot : ℕ) → List Instr
keep_code frame slot = if is_kept frame slot then store_slot frame (made_in frame slot) slot ∷ [] else []

-- Returns the code that writes a register to a slot.
abbrev pub give_to : Option ℕ → Frame → (source slot : ℕ) → List Instr
give_to None frame source slot = store_slot frame source slot ∷ []
give_to (Some register) frame source slot = copy register source ∷ keep_code frame slot

abbrev pub give_code : Frame → (source slot : ℕ) → List Instr
give_code frame source slot = give_to (value_register frame slot) frame source slot

-- Returns true if the given register is the slot's own register.
abbrev pub is_own : Option ℕ → (register : ℕ) → Bool
is_own None register = false
is_own (Some own) register = own == register

-- Returns the code that writes a register to a slot. If the register is the slot's own, no copy is needed.
abbrev pub hand_code : Frame → (source slot : ℕ) → List Instr
hand_code frame source slot =
    if is_own (value_register frame slot) source then keep_code frame slot else give_code frame source slot

-- Returns the code that writes a register to a slot, as `give_code` does. If all registers are reloaded after this write (`again`), a
-- slot whose home is both a register and memory is written in memory only.
abbrev pub bring_code : (again : Bool) → Frame → (source slot : ℕ) → List Instr
bring_code again frame source slot =
    if again && is_kept frame slot then store_slot frame source slot ∷ [] else give_code frame source slot

-- Returns the code that writes registers to the slots from `slot` on.
abbrev pub bring_all : (again : Bool) → Frame → (slot : ℕ) → List ℕ → List Instr
bring_all again frame slot [] = []
bring_all again frame slot (source ∷ sources) = bring_code again frame source slot ++ bring_all again frame (suc slot) sources

-- Returns the code that reloads the register of a slot whose word is also in memory.
abbrev pub reload : Frame → Home → (slot : ℕ) → List Instr
reload frame homes.Memory slot = []
reload frame (homes.Both register) slot = load register (slot_offset frame slot) ∷ []
reload frame (homes.Register register) slot = []

abbrev pub reloads_from : Frame → (slot : ℕ) → List Home → List Instr
reloads_from frame slot [] = []
reloads_from frame slot (h ∷ hs) = reload frame h slot ++ reloads_from frame (suc slot) hs

abbrev pub reloads : Frame → List Instr
reloads frame = reloads_from frame 0 frame.homes

-- A base register holds the address in the middle of the first globals, which signed offsets reach. The address of a global that no
-- offset from the base register reaches is split, and its upper half is loaded first.
abbrev pub global_address : ℕ → ℕ
global_address global = data_base + 4 * global

abbrev pub is_near : (global : ℕ) → Bool
is_near global = nat_lt global NEAR_GLOBALS

abbrev pub upper_of_global : ℕ → Instr
upper_of_global global = machine.LoadUpper (register_of SECOND) ((global_address global + 2 ^ 15) / 2 ^ 16)

abbrev pub reach_code : (global : ℕ) → List Instr
reach_code global = if is_near global then [] else upper_of_global global ∷ []

abbrev pub reach_register : (global : ℕ) → ℕ
reach_register global = if is_near global then GLOBALS else SECOND

abbrev pub reach_half : (global : ℕ) → ℕ
reach_half global = (if is_near global then global_address global + 2 ^ 15 else global_address global) % 2 ^ 16

abbrev pub at_global : MemoryOp → (register global : ℕ) → Instr
at_global op register global =
    machine.Memory op (register_of register) (register_of (reach_register global)) (reach_half global)

-- Returns the code that loads a global into a register or stores it from one.
abbrev pub global_code : MemoryOp → (register global : ℕ) → List Instr
global_code op register global = reach_code global ++ at_global op register global ∷ []

-- The instruction that moves the frame pointer to the callee's frame, below the current one.
abbrev pub push_frame : Instr
push_frame = add_immediate FRAME FRAME (minus (4 * MOST_FRAME_WORDS))

abbrev pub pop_frame : Instr
pop_frame = add_immediate FRAME FRAME (4 * MOST_FRAME_WORDS)

-- Returns the code that saves `count` callee-saved registers in the frame at a function's entry.
abbrev pub saves_from : (first j count : ℕ) → List Instr
saves_from first j zero = []
saves_from first j (suc count) = store (FIRST_PRESERVED + j) (4 * (first + j)) ∷ saves_from first (suc j) count

abbrev pub restores_from : (first j count : ℕ) → List Instr
restores_from first j zero = []
restores_from first j (suc count) = load (FIRST_PRESERVED + j) (4 * (first + j)) ∷ restores_from first (suc j) count

abbrev pub saves : Frame → List Instr
saves frame = saves_from frame.first_saved 0 frame.saved

abbrev pub restores : Frame → List Instr
restores frame = restores_from frame.first_saved 0 frame.saved

-- Returns the code that saves the return address, if the function overwrites its register.
abbrev pub way_code : Frame → List Instr
way_code frame = if frame.saves then store RETURN_ADDRESS (4 * frame.return_address) ∷ [] else []

abbrev pub restoring_code : Frame → List Instr
restoring_code frame = if frame.saves then load RETURN_ADDRESS (4 * frame.return_address) ∷ [] else []

abbrev pub way_count : Frame → ℕ
way_count frame = if frame.saves then 1 else 0

-- Returns the home (register or memory) in which a parameter arrives: its own, or memory if its register is callee-saved and still holds
-- the caller's word.
abbrev pub coming_home : Home → Home
coming_home homes.Memory = homes.Memory
coming_home (homes.Both register) = if homing.is_preserved register then homes.Memory else homes.Both register
coming_home (homes.Register register) = if homing.is_preserved register then homes.Memory else homes.Register register

-- Returns the frame with each parameter's own home replaced by the home (register or memory) in which callers pass the parameter.
abbrev pub coming : Frame → Frame
coming frame = record frame { homes = map coming_home frame.homes }

-- Returns the home into which an arrived parameter is loaded at a function's entry, after the lines that save the home's register.
abbrev pub arriving_home : Home → Home
arriving_home homes.Memory = homes.Memory
arriving_home (homes.Both register) = if homing.is_preserved register then homes.Both register else homes.Memory
arriving_home (homes.Register register) = if homing.is_preserved register then homes.Both register else homes.Memory

abbrev pub arriving : Frame → List Home
arriving frame = map arriving_home (take frame.parameters frame.homes)

abbrev pub arrivals : Frame → List Instr
arrivals frame = reloads_from frame 0 (arriving frame)

abbrev pub arrival_count : Frame → ℕ
arrival_count frame = sum_by homing.saved_count (take frame.parameters frame.homes)

-- Returns the MIPS lines at a function's entry: they save registers, then load into registers the parameters that
-- arrive in memory but have a register.
abbrev pub saving_code : Frame → List Instr
saving_code frame = way_code frame ++ (saves frame ++ arrivals frame)

abbrev pub saving_count : Frame → ℕ
saving_count frame = way_count frame + (frame.saved + arrival_count frame)

-- Returns the registers that hold the result words of a function.
abbrev pub result_registers : ℕ → List ℕ
result_registers count = take count (FIRST_RESULT ∷ SECOND_RESULT ∷ THIRD_RESULT ∷ [])

abbrev pub load_all : Frame → (slot : ℕ) → List ℕ → List Instr
load_all frame slot [] = []
load_all frame slot (target ∷ targets) = load_slot frame target slot ∷ load_all frame (suc slot) targets

-- Returns the code that loads into registers the words of slots whose home is memory alone.
abbrev pub load_words : Frame → (slot : ℕ) → List ℕ → List Instr
load_words frame slot [] = []
load_words frame slot (target ∷ targets) = load target (slot_offset frame slot) ∷ load_words frame (suc slot) targets

abbrev pub store_all : Frame → (slot : ℕ) → List ℕ → List Instr
store_all frame slot [] = []
store_all frame slot (source ∷ sources) = store_slot frame source slot ∷ store_all frame (suc slot) sources
