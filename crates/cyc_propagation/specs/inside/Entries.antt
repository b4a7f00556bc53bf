-- The facts required at jump targets, in the form in which the Rust code stores them. The check of the facts required at an
-- instruction's successors has two halves: one for its jump target, and one for the next instruction.
use Rattle.std.specs.Prelude.{◌≡◌, ℕ, ◌+◌, ◌<◌, ◌≤◌, Bool, true, false, not, ◌==◌, ◌&&◌, ◌||◌, if◌then◌else◌, List, length, Option, Some, None, slice_get, slice_index_or}
use Rattle.cyc_plain.specs.declared.instruction.Instruction.{Instruction}
use Rattle.cyc_plain.specs.declared.instruction.Instruction.TheVariants as instructions
use Rattle.cyc_plain.specs.inside.Uses.{At, is_slot}
use Rattle.cyc_propagation.specs.declared.entry.Entry.{Entry}
use Rattle.cyc_propagation.specs.declared.fact.Fact.{Fact}
use Rattle.cyc_propagation.specs.declared.fact.Fact.TheVariants as facts_are
use Rattle.cyc_plain.specs.inside.Program.{Program, Routine, no_routine, routine_at}
use Rattle.cyc_propagation.specs.declared.fact.Touched.{Touched}
use Rattle.cyc_propagation.specs.declared.fact.Touched.TheVariants as touches
use Rattle.cyc_propagation.specs.declared.fact.Written.{Written}
use Rattle.cyc_propagation.specs.inside.Facts.{is_unreached, is_untouched, made}
use Rattle.cyc_propagation.specs.inside.Replacement.{put_at}
use Rattle.cyc_propagation.specs.inside.Table.{facts_at, are_known, may_jump, may_go_on, is_checked_at, IsReplaced}

abbrev pub entry_of : Option Entry → Option (List Fact)
entry_of (Some entry) = if entry.is_target then Some entry.facts.items else None
entry_of None = None

abbrev pub entry_in : List Entry → (index : ℕ) → Option (List Fact)
entry_in entries index = entry_of (slice_get entries index)

-- `IsLess` says that the second list requires less than the first: known facts that imply the first list also imply the second.
abbrev pub IsLess : (asked less : List Fact) → Type 0
IsLess asked less = (facts : List Fact) (more : Option Fact) → are_known asked facts more ≡ true → are_known less facts more ≡ true

-- `AreNarrowed` compares the facts required at code positions before and after a change. Positions up to `index` require
-- the same facts as before the change, and each later jump target requires at most the facts of before. A later position
-- that was no jump target before the change may require any facts after it.
pub record AreNarrowed (index : ℕ) (old new : ℕ → Option (List Fact)) : Type 0 where
  pub same : (k : ℕ) → k ≤ index → new k ≡ old k
  pub less : (k : ℕ) (facts : List Fact) (more : Option Fact) → may_jump (old k) facts more ≡ true → may_jump (new k) facts more ≡ true

-- Returns true if an instruction jumps only to targets whose required facts are known.
abbrev pub jumps_well : List Bool → (entry : ℕ → Option (List Fact)) → List Fact → Instruction → (index : ℕ) → Bool
jumps_well pinned entry facts (instructions.Jump target) index = is_unreached facts || may_jump (entry target) facts None
jumps_well pinned entry facts (instructions.Branch comparison left right target) index =
    may_jump (entry target) facts (made pinned (instructions.Branch comparison left right target) index target)
jumps_well pinned entry facts (instructions.Try first handler) index = length facts == 0 && may_jump (entry handler) facts None
jumps_well pinned entry facts i index = true

-- Returns true if the next instruction requires only known facts, or control cannot reach it.
abbrev pub goes_well : (entry : ℕ → Option (List Fact)) → (following : List Fact) → Instruction → (index : ℕ) → Bool
goes_well entry following (instructions.Jump target) index = true
goes_well entry following (instructions.Return value) index = true
goes_well entry following (instructions.Throw tag value) index = true
goes_well entry following (instructions.Finish value) index = true
goes_well entry following (instructions.Uncaught tag value) index = true
goes_well entry following i index = may_go_on (entry (index + 1)) following None

-- Returns true if a code position is a jump target.
abbrev pub is_entered : Option (List Fact) → Bool
is_entered (Some facts) = true
is_entered None = false

-- Returns true if an instruction does not jump and the next instruction is no jump target. An unreachable jump is treated as not jumping.
abbrev pub is_straight : (entry : ℕ → Option (List Fact)) → List Fact → Instruction → (index : ℕ) → Bool
is_straight entry facts (instructions.Jump target) index = is_unreached facts && not (is_entered (entry (index + 1)))
is_straight entry facts (instructions.Branch comparison left right target) index = false
is_straight entry facts (instructions.Try first handler) index = false
is_straight entry facts i index = not (is_entered (entry (index + 1)))

-- `AreWalked` says that the first `count` instructions of a function are checked and simplified, and that `facts` are known after them.
pub record AreWalked (program : Program) (r : Routine) (pinned : List Bool) (entries : List Entry) (count : ℕ) (code : List Instruction) (facts : List Fact) : Type 0 where
  pub as_many : length code ≡ count
  pub known : facts ≡ facts_at program pinned (entry_in entries) r.code count
  pub each : (k : ℕ) (i : Instruction) → At r k i → k < count
      → slice_get code k ≡ Some (put_at (facts_at program pinned (entry_in entries) r.code k) k (length r.code) i)
  pub checked : (k : ℕ) (i : Instruction) → At r k i → k < count
      → is_checked_at program pinned (entry_in entries) (facts_at program pinned (entry_in entries) r.code k)
      (put_at (facts_at program pinned (entry_in entries) r.code k) k (length r.code) i) k
      ≡ true

-- `IsWalked` says that all instructions of a function are checked and simplified.
abbrev pub IsWalked : Program → Routine → List Bool → List Entry → (code : List Instruction) → Type 0
IsWalked program r pinned entries code = (facts : List Fact) × AreWalked program r pinned entries (length r.code) code facts

-- `IsWalkedBySome` says that all instructions of a function are checked and simplified, for some choice of the facts required
-- at its jump targets.
abbrev pub IsWalkedBySome : Program → Routine → List Bool → (code : List Instruction) → Type 0
IsWalkedBySome program r pinned code = (entries : List Entry) × IsWalked program r pinned entries code

-- Returns the function with its code replaced by `code`.
abbrev pub with_code : Routine → List Instruction → Routine
with_code r code = record r { code = code }

-- `AreFirstReplaced` says that the first `count` functions of a program are replaced by their simplified forms.
pub record AreFirstReplaced (program : Program) (count : ℕ) (routines : List Routine) : Type 0 where
  pub as_many : length routines ≡ count
  pub each : (k : ℕ) → k < count → IsReplaced program (routine_at program k) (slice_index_or routines k no_routine)

-- Returns true if this slot does not occur in a fact.
abbrev pub leaves_out : (slot : ℕ) → Fact → Bool
leaves_out slot (facts_are.Equal other operand) = not (other == slot) && not (is_slot operand slot)
leaves_out slot (facts_are.Computed other operator left right) = not (other == slot) && (not (is_slot left slot) && not (is_slot right slot))
leaves_out slot (facts_are.Holds comparison left right) = not (is_slot left slot) && not (is_slot right slot)
leaves_out slot (facts_are.Held address offset value) = not (is_slot address slot) && not (is_slot value slot)

-- Returns true if a fact says nothing about the part of memory that an instruction may change.
abbrev pub leaves_memory : Touched → Fact → Bool
leaves_memory touched (facts_are.Held address offset value) = is_untouched touched address offset
leaves_memory touched fact = true

-- Returns true if one slot is written and memory is unchanged.
abbrev pub changes_one : Written → Touched → Bool
changes_one slots touches.Nothing = slots.count == 1
changes_one slots touched = false

-- Returns true if no slot is written and memory is unchanged.
abbrev pub changes_nothing : Written → Touched → Bool
changes_nothing slots touches.Nothing = slots.count == 0
changes_nothing slots touched = false
