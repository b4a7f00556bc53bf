-- Stack space for calls. An `Enter` is dropped if an earlier call of the same activation already had the stack space that the `Enter`
-- checks. The available stack space depends on the address of the caller's slots and on the number of active calls. The address of the
-- caller's slots and the number of active calls do not change until the call ends, so facts about stack space are never forgotten.
use Rattle.std.specs.Prelude.{◌≡◌, ℕ, zero, suc, ◌+◌, ◌*◌, ◌<◌, ◌≤◌, Bool, true, ◌&&◌, nat_le, nat_lt, if◌then◌else◌, List, length, Some, slice_get, slice_index_or}
use Rattle.cyc_plain.specs.declared.instruction.Instruction.{Instruction}
use Rattle.cyc_plain.specs.declared.instruction.Instruction.TheVariants as instructions
use Rattle.cyc_plain.specs.inside.Memory.{slots_base}
use Rattle.cyc_plain.specs.inside.Program.{Program, Routine, no_routine, routine_at}
use Rattle.cyc_plain.specs.inside.Uses.{leads}
use Rattle.cyc_propagation.specs.inside.Entries.{with_code, AreFirstReplaced}
use Rattle.cyc_propagation.specs.inside.Table.{IsReplaced}

-- ---- stack room

-- Returns the number of slots of a function.
abbrev pub slots_in : Program → ℕ → ℕ
slots_in program function = (routine_at program function).slots

-- A number represents the stack space known to be available: 0 if nothing is known, otherwise one more than a callee's number of
-- slots. `HasRoom` says that the slots of one more call fit on the stack below the address `base` when `depth` of at most `calls`
-- calls are active.
abbrev pub HasRoom : (calls : ℕ) → (room base depth : ℕ) → Type 0
HasRoom calls zero base depth = Unit {0}
HasRoom calls (suc slots) base depth = (slots_base + 4 * slots ≤ base) × (depth < calls)

-- Returns the stack space that an instruction has proved to be available when control continues after it.
abbrev pub room_of : (slots : ℕ → ℕ) → Instruction → ℕ
room_of slots (instructions.Call function arguments count result) = suc (slots function)
room_of slots (instructions.Enter function) = suc (slots function)
room_of slots i = 0

abbrev pub greater : (one other : ℕ) → ℕ
greater one other = if nat_lt one other then other else one

-- Returns the stack space known to be available after an instruction.
abbrev pub room_following : (slots : ℕ → ℕ) → (room : ℕ) → Instruction → ℕ
room_following slots room i = greater room (room_of slots i)

-- ---- tables

-- `IsRoomTable` describes the stack space known at each position of the code: none at the entry, and at each other position at most
-- the space known on every edge to it.
pub record IsRoomTable (slots : ℕ → ℕ) (code : List Instruction) (rooms : ℕ → ℕ) : Type 0 where
  pub first : rooms 0 ≡ 0
  pub edges : (index next : ℕ) (i : Instruction) → slice_get code index ≡ Some i → leads i index next ≡ true
      → rooms next ≤ room_following slots (rooms index) i

-- ---- the check

-- Returns the stack space recorded for a code position, or 0 if nothing is recorded.
abbrev pub room_at : List ℕ → (place : ℕ) → ℕ
room_at rooms place = slice_index_or rooms place 0

-- Returns true if the stack space recorded for a code position is at most this much.
abbrev pub is_enough : List ℕ → (room place : ℕ) → Bool
is_enough rooms room place = nat_le (room_at rooms place) room

-- Returns true if the stack space recorded for each successor of an instruction is at most this much.
abbrev pub leads_to_enough : List ℕ → (room : ℕ) → Instruction → (index : ℕ) → Bool
leads_to_enough rooms room (instructions.Jump target) index = is_enough rooms room target
leads_to_enough rooms room (instructions.Branch comparison left right target) index =
    is_enough rooms room target && is_enough rooms room (index + 1)
leads_to_enough rooms room (instructions.Try first handler) index = is_enough rooms room handler && is_enough rooms room (index + 1)
leads_to_enough rooms room (instructions.Return value) index = true
leads_to_enough rooms room (instructions.Throw tag value) index = true
leads_to_enough rooms room (instructions.Finish value) index = true
leads_to_enough rooms room (instructions.Uncaught tag value) index = true
leads_to_enough rooms room i index = is_enough rooms room (index + 1)

-- ---- dropped checks

-- Returns a jump to the next position, which has no effect.
abbrev pub nothing_at : (index : ℕ) → Instruction
nothing_at index = instructions.Jump (index + 1)

abbrev pub spared_instruction : (slots : ℕ → ℕ) → (room index : ℕ) → Instruction → Instruction
spared_instruction slots room index (instructions.Enter function) =
    if nat_lt room (suc (slots function)) then instructions.Enter function else nothing_at index
spared_instruction slots room index i = i

-- `IsSparedCode` says that each redundant `Enter` of the code is replaced by a jump to the next position.
pub record IsSparedCode (slots : ℕ → ℕ) (code spared : List Instruction) : Type 0 where
  pub as_many : length spared ≡ length code
  pub rooms : ℕ → ℕ
  pub table : IsRoomTable slots code rooms
  pub each : (index : ℕ) (i : Instruction) → slice_get code index ≡ Some i
      → slice_get spared index ≡ Some (spared_instruction slots (rooms index) index i)

-- `AreSparedFirst` says that the first `count` instructions are checked, and that the redundant checks for stack space among them are
-- dropped.
pub record AreSparedFirst (slots : ℕ → ℕ) (code : List Instruction) (rooms : List ℕ) (count : ℕ) (spared : List Instruction) : Type 0 where
  pub as_many : length spared ≡ count
  pub each : (index : ℕ) (i : Instruction) → slice_get code index ≡ Some i → index < count
      → slice_get spared index ≡ Some (spared_instruction slots (room_at rooms index) index i)
  pub checked : (index : ℕ) (i : Instruction) → slice_get code index ≡ Some i → index < count
      → leads_to_enough rooms (room_following slots (room_at rooms index) i) i index ≡ true

-- ---- functions

pub record IsSpared (slots : ℕ → ℕ) (r s : Routine) : Type 0 where
  pub same : s ≡ with_code r s.code
  pub code : IsSparedCode slots r.code s.code

-- `AreSpared` relates the functions of two programs in order: redundant checks for stack space are dropped in each.
pub record AreSpared (program spared : Program) : Type 0 where
  pub as_many : length spared.functions ≡ length program.functions
  pub each : (k : ℕ) → k < length program.functions → IsSpared (slots_in program) (routine_at program k) (routine_at spared k)
  pub globals : spared.globals ≡ program.globals
  pub main : spared.main ≡ program.main

-- ---- simplified functions

-- `AreMadeFirst` says that the first `count` functions of a program were simplified, and their redundant checks for stack space then
-- dropped. The stack space that a call needs is computed from the callee's number of slots in the original program.
pub record AreMadeFirst (program : Program) (count : ℕ) (routines : List Routine) : Type 0 where
  pub between : List Routine
  pub replaced : AreFirstReplaced program count between
  pub as_many : length routines ≡ count
  pub spared : (k : ℕ) → k < count → IsSpared (slots_in program) (slice_index_or between k no_routine) (slice_index_or routines k no_routine)

-- `IsMadeFunction` says that a function was simplified, and its redundant checks for stack space then dropped.
pub record IsMadeFunction (program : Program) (r s : Routine) : Type 0 where
  pub between : Routine
  pub replaced : IsReplaced program r between
  pub spared : IsSpared (slots_in program) between s
