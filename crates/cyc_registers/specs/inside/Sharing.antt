-- The check of the homes (registers or memory of slots). `holders` contains for each register the slots that have it, and `groups`
-- contains those of these sets that have more than one slot. The slots of a group, which share a register, must never interfere.
use Rattle.std.specs.Prelude.{◌≡◌, ℕ, suc, ◌+◌, ◌-◌, ◌<◌, ◌⊎◌, Bool, true, false, ◌==◌, ◌&&◌, ◌||◌, nat_le, nat_lt, if◌then◌else◌, List, [], ◌∷◌, ◌++◌, length, Some, None, slice_get, bit_and, bit_or}
use Rattle.std.specs.Int.{bit_at}
use Rattle.cyc_plain.specs.declared.instruction.Instruction.{Instruction}
use Rattle.cyc_plain.specs.declared.instruction.Instruction.TheVariants as instructions
use Rattle.cyc_plain.specs.inside.Program.{Routine, Program}
use Rattle.cyc_plain.specs.inside.Uses.{At, writes}
use Rattle.cyc_registers.specs.declared.home.Home.{Home}
use Rattle.cyc_registers.specs.declared.home.Home.TheVariants as homes
use Rattle.cyc_registers.specs.declared.home.TheConstants.{FIRST_REGISTER, FIRST_PRESERVED}
use Rattle.cyc_registers.specs.inside.Interference.{HasRegister, register_of, is_kept, is_preserved, outlives, home_of}
use Rattle.cyc_registers.specs.inside.Bars.{bars}
use Rattle.cyc_registers.specs.inside.Liveness.{IsLiveAt}
use Rattle.cyc_registers.specs.inside.LivenessTable.{after_mask, is_within, may_have}
use Rattle.cyc_registers.specs.declared.uses.Uses.{Uses}
use Rattle.cyc_registers.specs.inside.Masks.{mask_at, uses_of}

-- Returns true if the set has at most one slot.
abbrev pub is_single : (slots : ℕ) → Bool
is_single slots = bit_and slots (slots - 1) == 0

-- Returns true for a register that slots may have if the function saves `saved` callee-saved registers.
abbrev pub is_given : (saved register : ℕ) → Bool
is_given saved register = nat_le FIRST_REGISTER register && nat_lt register (FIRST_PRESERVED + saved)

-- Returns true if the home of a slot is correct in isolation, and the set of its register in `holders` includes the slot. A slot
-- that is both in a register and in memory shares its register with no slot. A slot live in an exception handler is in memory. A
-- slot live after a call is in memory or in a callee-saved register.
abbrev pub suits : (masks live holders : List ℕ) → (calls clauses barred parameters saved slot : ℕ) → Home → Bool
suits masks live holders calls clauses barred parameters saved slot homes.Memory = true
suits masks live holders calls clauses barred parameters saved slot (homes.Both register) =
    may_have masks live barred parameters slot
    && (is_given saved register && mask_at holders register == mask_at masks slot)
suits masks live holders calls clauses barred parameters saved slot (homes.Register register) =
    may_have masks live barred parameters slot
    && (is_given saved register
    && (is_within (mask_at masks slot) (mask_at holders register)
    && (bit_and clauses (mask_at masks slot) == 0 && (is_preserved register || bit_and calls (mask_at masks slot) == 0))))

abbrev pub AllSuit : (masks live holders : List ℕ) → (calls clauses barred parameters saved : ℕ) → List Home → Type 0
AllSuit masks live holders calls clauses barred parameters saved hs =
    (slot : ℕ) → slot < length hs → suits masks live holders calls clauses barred parameters saved slot (home_of hs slot) ≡ true

-- Returns the list of the sets of slots that share a register, extended by the given set of slots if this set has more than one slot.
abbrev pub with_group : (groups : List ℕ) → (slots : ℕ) → List ℕ
with_group groups slots = if is_single slots then groups else groups ++ slots ∷ []

-- Says that at most one slot has each of the first `count` registers, or `groups` contains the set of the slots that have it.
abbrev pub AreGroups : (holders : List ℕ) → (count : ℕ) → (groups : List ℕ) → Type 0
AreGroups holders count groups =
    (register : ℕ) → register < count
    → (is_single (mask_at holders register) ≡ true) ⊎ ((number : ℕ) × (slice_get groups number ≡ Some (mask_at holders register)))

-- Returns the slots that are live at an instruction. For a move of several words, the slots to which the words are moved are
-- included. No two of the returned slots may share a register.
abbrev pub standing_mask : Uses → Instruction → (index : ℕ) → List ℕ → ℕ
standing_mask uses (instructions.MoveWords destination source count) index live = bit_or (mask_at live index) uses.writes
standing_mask uses i index live = mask_at live index

-- Says that the set contains at most one slot of each group of slots that share a register.
abbrev pub AreSingle : (groups : List ℕ) → (set : ℕ) → Type 0
AreSingle groups set = (number slots : ℕ) → slice_get groups number ≡ Some slots → is_single (bit_and set slots) ≡ true

-- Says, bit by bit, that the set contains at most one slot of each group of slots that share a register.
abbrev pub AreAlone : (groups : List ℕ) → (set : ℕ) → Type 0
AreAlone groups set =
    (number slots j l : ℕ) → slice_get groups number ≡ Some slots → bit_at (bit_and set slots) j ≡ 1 → bit_at (bit_and set slots) l ≡ 1 → j ≡ l

-- Returns true if the instruction writes none of the slots that share a register, or at most one is written or live after it.
abbrev pub is_apart : (written following slots : ℕ) → Bool
is_apart written following slots = bit_and written slots == 0 || is_single (bit_and (bit_or written following) slots)

abbrev pub AreApart : (groups : List ℕ) → (written following : ℕ) → Type 0
AreApart groups written following =
    (number slots : ℕ) → slice_get groups number ≡ Some slots → is_apart written following slots ≡ true

-- Says that no two slots of a group (slots that share a register) interfere at an instruction: at most one of them is live there,
-- and the instruction writes none of them while another slot of the group is live after the instruction.
abbrev pub AreApartAt : Uses → (live groups : List ℕ) → Instruction → (index : ℕ) → Type 0
AreApartAt uses live groups i index =
    AreAlone groups (standing_mask uses i index live) × AreApart groups uses.writes (after_mask i index live)

-- Says that no two slots of a group that shares a register interfere at any of the first `count` instructions.
abbrev pub NeverMeet : Program → Routine → (masks live groups : List ℕ) → (count : ℕ) → Type 0
NeverMeet program r masks live groups count =
    (index : ℕ) (i : Instruction) → At r index i → index < count → AreApartAt (uses_of program r.results masks i) live groups i index

-- Says that the home (a register, memory or both) suits the slot, no matter which other slots have the same register.
pub record Suits (program : Program) (r : Routine) (slot : ℕ) (home : Home) : Type 0 where
  pub entry : (k : ℕ) → register_of home ≡ Some k → IsLiveAt program r slot 0 → slot < r.parameters
  pub following : (index function arguments count result : ℕ) → At r index (instructions.Call function arguments count result)
      → writes program (instructions.Call function arguments count result) slot ≡ false → IsLiveAt program r slot (suc index) → outlives home ≡ true
  pub clause : (index first handler : ℕ) → At r index (instructions.Try first handler)
      → IsLiveAt program r slot handler → is_kept home ≡ true
  pub barred : (index : ℕ) (i : Instruction) → At r index i → bars i slot ≡ true → register_of home ≡ None

-- Says that a slot with a register is a candidate for registers, and that the set of this register in `holders` includes the slot.
abbrev pub AreHolders : (masks holders : List ℕ) → List Home → Type 0
AreHolders masks holders hs =
    (slot k : ℕ) → HasRegister hs slot k
    → (0 < mask_at masks slot) × (is_within (mask_at masks slot) (mask_at holders k) ≡ true)
