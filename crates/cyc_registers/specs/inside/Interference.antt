-- Interference: the conditions for correct homes (registers or memory) of a function's slots. Slots that are live simultaneously share no
-- register. A slot that is live across a call is in a callee-saved register, or is in memory (perhaps in addition to a register).
use Rattle.std.specs.Prelude.{◌≡◌, ℕ, suc, ◌+◌, ◌<◌, ◌≤◌, Bool, true, false, if◌then◌else◌, List, length, nat_le, sum_by, take, Option, Some, None, slice_index_or}
use Rattle.cyc_plain.specs.declared.instruction.Instruction.{Instruction}
use Rattle.cyc_plain.specs.declared.instruction.Instruction.TheVariants as instructions
use Rattle.cyc_plain.specs.inside.Program.{Routine, Program}
use Rattle.cyc_plain.specs.inside.Uses.{At, is_among, writes, leads}
use Rattle.cyc_registers.specs.declared.home.Home.{Home}
use Rattle.cyc_registers.specs.declared.home.Home.TheVariants as homes
use Rattle.cyc_registers.specs.declared.home.TheConstants.{FIRST_REGISTER, REGISTERS_END, FIRST_PRESERVED, MOST_BOTH}
use Rattle.cyc_registers.specs.inside.Bars.{bars}
use Rattle.cyc_registers.specs.inside.Liveness.{IsLiveAt, IsLiveLater}

-- Returns the register of a slot's home (a register, memory or both), if the home includes a register.
abbrev pub register_of : Home → Option ℕ
register_of homes.Memory = None
register_of (homes.Both register) = Some register
register_of (homes.Register register) = Some register

-- Returns true if the slot's home (a register, memory or both) includes its word in memory.
abbrev pub is_kept : Home → Bool
is_kept homes.Memory = true
is_kept (homes.Both register) = true
is_kept (homes.Register register) = false

-- A callee-saved register.
abbrev pub is_preserved : (register : ℕ) → Bool
is_preserved register = nat_le FIRST_PRESERVED register

-- Returns true if the home (memory or a callee-saved register) still holds its slot's word after a call.
abbrev pub outlives : Home → Bool
outlives homes.Memory = true
outlives (homes.Both register) = true
outlives (homes.Register register) = is_preserved register

abbrev pub both_count : Home → ℕ
both_count homes.Memory = 0
both_count (homes.Both register) = 1
both_count (homes.Register register) = 0

-- Returns the number of callee-saved registers in the home of one slot: 0 or 1.
abbrev pub saved_count : Home → ℕ
saved_count homes.Memory = 0
saved_count (homes.Both register) = if is_preserved register then 1 else 0
saved_count (homes.Register register) = if is_preserved register then 1 else 0

-- Returns the home of a slot (a register, memory or both); a slot past the end of the list of homes is in memory.
abbrev pub home_of : List Home → (slot : ℕ) → Home
home_of hs slot = slice_index_or hs slot homes.Memory

-- Says that the home of the slot (a register, memory or both) includes the given register.
abbrev pub HasRegister : List Home → (slot register : ℕ) → Type 0
HasRegister hs slot register = register_of (home_of hs slot) ≡ Some register

-- Says that the homes of a function's slots (registers or memory) are correct, if the function saves `saved` callee-saved
-- registers. Any slot may have a register, and slots may share one.
pub record AreHomes (program : Program) (r : Routine) (saved : ℕ) (hs : List Home) : Type 0 where
  pub as_many : length hs ≡ r.slots
  pub low : (slot k : ℕ) → HasRegister hs slot k → FIRST_REGISTER ≤ k
  pub high : (slot k : ℕ) → HasRegister hs slot k → k < REGISTERS_END
  -- Of the callee-saved registers, only those that the function saves are assigned to slots.
  pub saved_registers : (slot k : ℕ) → HasRegister hs slot k → FIRST_PRESERVED ≤ k → k < FIRST_PRESERVED + saved
  -- A parameter is loaded into a callee-saved register from memory, since the register holds a word of the caller until it is saved. No two
  -- parameters get one saved register, and at most as many parameters get saved registers as the function saves.
  pub arrivals : sum_by saved_count (take r.parameters hs) ≤ saved
  pub arriving : (a c k : ℕ) → HasRegister hs a k → HasRegister hs c k → FIRST_PRESERVED ≤ k → a < r.parameters → c < r.parameters → a ≡ c
  pub few : sum_by both_count hs ≤ MOST_BOTH
  -- Two different slots that are live at a code position or in an exception handler opened there share no register.
  pub apart : (index a c k : ℕ) → HasRegister hs a k → HasRegister hs c k
      → IsLiveLater program r a index → IsLiveLater program r c index → a ≡ c
  -- A written slot shares no register with another slot that is live after the write.
  pub made : (index next a d k : ℕ) (i : Instruction) → At r index i → writes program i d ≡ true → leads i index next ≡ true
      → HasRegister hs d k → HasRegister hs a k → IsLiveAt program r a next → a ≡ d
  -- In a move of several words, no destination slot has the register of another slot that is a source of the move.
  pub moved : (index destination source count a d k : ℕ) → At r index (instructions.MoveWords destination source count)
      → is_among source count a ≡ true → is_among destination count d ≡ true → HasRegister hs a k → HasRegister hs d k → a ≡ d
  -- A slot both in a register and in memory shares its register with no other slot, since the register may be reloaded at any time.
  pub alone : (a c k : ℕ) → home_of hs a ≡ homes.Both k → HasRegister hs c k → a ≡ c
  -- At the function's entry only parameters are live, and two parameters share no register if at least one of them is live there.
  pub entry : (a k : ℕ) → HasRegister hs a k → IsLiveAt program r a 0 → a < r.parameters
  pub parameters : (a c k : ℕ) → HasRegister hs a k → HasRegister hs c k → c < r.parameters → IsLiveAt program r a 0 → a ≡ c
  -- A slot that is live after a call, and that receives no result of the call, is also in memory or is in a callee-saved register. A
  -- slot live in an exception handler is also in memory, since exceptions arrive from calls that have restored no register.
  pub following : (index function arguments count result a : ℕ) → At r index (instructions.Call function arguments count result)
      → writes program (instructions.Call function arguments count result) a ≡ false → IsLiveAt program r a (suc index) → outlives (home_of hs a) ≡ true
  pub clause : (index first handler a : ℕ) → At r index (instructions.Try first handler)
      → IsLiveAt program r a handler → is_kept (home_of hs a) ≡ true
  pub barred : (index a : ℕ) (i : Instruction) → At r index i → bars i a ≡ true → register_of (home_of hs a) ≡ None
