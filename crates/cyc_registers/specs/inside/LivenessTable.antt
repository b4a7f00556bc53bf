-- A table of the candidate slots that are live at each code position, and its check, instruction by instruction. The table is
-- untrusted: if the check succeeds everywhere, the table misses no live slot. `calls` contains the slots live after a call, `clauses`
-- those live in an exception handler, and `barred` those excluded from registers.
use Rattle.std.specs.Prelude.{◌≡◌, ℕ, ◌+◌, Bool, true, ◌==◌, ◌&&◌, ◌||◌, nat_lt, List, bit_and, bit_or, bit_xor}
use Rattle.cyc_plain.specs.declared.instruction.Instruction.{Instruction}
use Rattle.cyc_plain.specs.declared.instruction.Instruction.TheVariants as instructions
use Rattle.cyc_plain.specs.inside.Program.{Routine, Program}
use Rattle.cyc_plain.specs.inside.Uses.{At}
use Rattle.cyc_registers.specs.declared.liveness.TheConstants.{ALL_NUMBERS}
use Rattle.cyc_registers.specs.declared.uses.Uses.{Uses}
use Rattle.cyc_registers.specs.inside.Masks.{mask_at, uses_of}

-- Returns the slots that the liveness table lists as live at the successors of an instruction.
abbrev pub after_mask : Instruction → (index : ℕ) → List ℕ → ℕ
after_mask (instructions.Jump target) index live = mask_at live target
after_mask (instructions.Branch comparison left right target) index live =
    bit_or (mask_at live (index + 1)) (mask_at live target)
after_mask (instructions.Return value) index live = 0
after_mask (instructions.Try first handler) index live = bit_or (mask_at live (index + 1)) (mask_at live handler)
after_mask (instructions.Throw tag value) index live = 0
after_mask (instructions.Finish value) index live = 0
after_mask (instructions.Uncaught tag value) index live = 0
after_mask instruction index live = mask_at live (index + 1)

-- Returns the mask of all candidates for registers except those that an instruction writes.
abbrev pub unwritten_mask : Uses → ℕ
unwritten_mask uses = bit_xor ALL_NUMBERS uses.writes

-- Returns the slots that the liveness table must contain at an instruction: those that the instruction reads, and those live
-- after it that it does not write.
abbrev pub needed_mask : Uses → Instruction → (index : ℕ) → List ℕ → ℕ
needed_mask uses i index live = bit_or uses.reads (bit_and (after_mask i index live) (unwritten_mask uses))

-- Returns the slots that must survive a call: those live after the call, except the ones that the call returns.
abbrev pub call_mask : Uses → Instruction → (index : ℕ) → List ℕ → ℕ
call_mask uses (instructions.Call function arguments count result) index live =
    bit_and (mask_at live (index + 1)) (unwritten_mask uses)
call_mask uses instruction index live = 0

-- Returns the bit mask of the slots that must also be in memory: those live in the exception handler that an instruction opens.
abbrev pub clause_mask : Instruction → List ℕ → ℕ
clause_mask (instructions.Try first handler) live = mask_at live handler
clause_mask instruction live = 0

-- Returns true if each bit of the first mask is a bit of the second.
abbrev pub is_within : (part whole : ℕ) → Bool
is_within part whole = bit_or part whole == whole

unfoldable pub is_sound_at : Uses → Instruction → (index : ℕ) → List ℕ → (calls clauses barred : ℕ) → Bool
is_sound_at uses i index live calls clauses barred =
    is_within (needed_mask uses i index live) (mask_at live index)
    && (is_within (call_mask uses i index live) calls
    && (is_within (clause_mask i live) clauses && is_within uses.bars barred))

abbrev pub IsSound : Program → Routine → (masks live : List ℕ) → (calls clauses barred : ℕ) → Type 0
IsSound program r masks live calls clauses barred =
    (index : ℕ) (i : Instruction) → At r index i → is_sound_at (uses_of program r.results masks i) i index live calls clauses barred ≡ true

-- Returns true if a slot may have a register: it is a numbered candidate, no instruction excludes it, and at the function's
-- entry it is not live or is a parameter.
abbrev pub may_have : (masks live : List ℕ) → (barred parameters slot : ℕ) → Bool
may_have masks live barred parameters slot =
    nat_lt 0 (mask_at masks slot)
    && (bit_and barred (mask_at masks slot) == 0 && (nat_lt slot parameters || bit_and (mask_at live 0) (mask_at masks slot) == 0))
