-- Examples of assembled words, proved by computation.
use Rattle.std.proofs.Common.{◌≡◌, ℕ, suc, List, [], ◌∷◌, false, Some, pos, refl, ap, ◌∙◌}
use Rattle.std.specs.Prelude.{slice_get}
use Rattle.cyc_isa.specs.Encoding.{word_of}
use Rattle.cyc_isa.specs.Decoding.{register_of, trap_code_of}
use Rattle.cyc_isa.specs.declared.instr.Instr.{Instr}
use Rattle.cyc_isa.specs.declared.instr.Instr.TheVariants.{Immediate, Memory, Arithmetic, MoveFrom, MultiplyDivide, Exception}
use Rattle.cyc_isa.specs.declared.instr.ArithmeticOp.TheVariants as operations
use Rattle.cyc_isa.specs.declared.instr.ExceptionOp.TheVariants.{Syscall}
use Rattle.cyc_isa.specs.declared.instr.ImmediateOp.TheVariants as immediates
use Rattle.cyc_isa.specs.declared.instr.MemoryOp.TheVariants.{LoadWord, StoreWord}
use Rattle.cyc_isa.specs.declared.instr.MoveFromOp.TheVariants.{Low}
use Rattle.cyc_isa.specs.declared.instr.MultiplyDivideOp.TheVariants.{Multiply}
use Rattle.cyc_isa.specs.declared.instr.BranchOp.TheVariants.{Equal, NotEqual}
use Rattle.cyc_isa.specs.declared.instr.BranchZeroOp.TheVariants as signs
use Rattle.cyc_isa.specs.declared.instr.JumpOp.TheVariants.{Plain}
use Rattle.cyc_store.specs.State.{StoreState, start}
use Rattle.cyc_store.specs.Services.{any_choice}
use Rattle.cyc_select.specs.inside.Labelled.{Labelled}
use Rattle.cyc_select.specs.declared.code.Condition.TheVariants as conditions
use Rattle.cyc_select.specs.declared.code.Line.{Line}
use Rattle.cyc_select.specs.declared.code.Line.TheVariants as lines
use Rattle.cyc_machine_model.specs.declared.event.End.TheVariants.{Returned}
use Rattle.cyc_machine_model.specs.Run.{end_of}
use Rattle.cyc_machine_model.specs.Step.{instruction_of}
use Rattle.cyc_machine_model.proofs.Choosing.{after}
use Rattle.cyc_words.specs.Word.{sign_extended, slt_of}
use Rattle.cyc_asm.specs.inside.Slots.{filling}
use Rattle.cyc_asm.specs.inside.Layout.{is_near, position}
use Rattle.cyc_asm.specs.inside.Words.{jump_words, head_of_branch, head_in, round_words, words_filled, words_ordinary, words_in, assembled}
use Rattle.cyc_asm.specs.inside.Machine.{start_in}

-- The words of these examples are worked out by hand from the architecture's manual. In the examples, each line is preceded by its line
-- number and followed by the instruction in its delay slot.

-- Example: register 8 counts down from 3. No delay slot is filled: a label stands at the first branch, and a call precedes the jump. A
-- branch precedes each call and return, and the second branch tests the register set just before it.
abbrev counting : Labelled
counting = record {
  lines =
      lines.Ordinary (Immediate immediates.AddUnsigned (register_of 8) (register_of 0) 3)
      ∷ lines.Branch (conditions.Registers Equal (register_of 8) (register_of 0)) 4
      ∷ lines.Call 5
      ∷ lines.Jump 1
      ∷ lines.Return
      ∷ lines.Ordinary (Immediate immediates.AddUnsigned (register_of 8) (register_of 8) 65535)
      ∷ lines.Branch (conditions.Registers NotEqual (register_of 8) (register_of 0)) 4
      ∷ lines.Return
      ∷ [];
  globals = [];
}

counting_words : assembled counting ≡
    0x24080003
    ∷ 0x11000005 ∷ 0
    ∷ 0x0c100009 ∷ 0
    ∷ 0x08100001 ∷ 0
    ∷ 0x03e00008 ∷ 0
    ∷ 0x2508ffff
    ∷ 0x1500fffc ∷ 0
    ∷ 0x03e00008 ∷ 0
    ∷ []
counting_words = refl

-- Example: an instruction that writes register 8 fills the delay slot of a jump or a branch on register 9, but not on register 8. An
-- instruction that reads the return address does not move into the delay slot of a call.
abbrev moving : Labelled
moving = record {
  lines =
      lines.Ordinary (Immediate immediates.AddUnsigned (register_of 8) (register_of 8) 1)
      ∷ lines.Branch (conditions.Registers NotEqual (register_of 9) (register_of 0)) 4
      ∷ lines.Ordinary (Immediate immediates.AddUnsigned (register_of 8) (register_of 8) 1)
      ∷ lines.Jump 0
      ∷ lines.Ordinary (Immediate immediates.AddUnsigned (register_of 8) (register_of 8) 1)
      ∷ lines.Branch (conditions.Registers NotEqual (register_of 8) (register_of 0)) 0
      ∷ lines.Ordinary (Arithmetic operations.AddUnsigned (register_of 8) (register_of 31) (register_of 0))
      ∷ lines.Call 0
      ∷ lines.Return
      ∷ [];
  globals = [];
}

moving_words : assembled moving ≡
    0x15200003 ∷ 0x25080001
    ∷ 0x08100000 ∷ 0x25080001
    ∷ 0x25080001
    ∷ 0x1500fffa ∷ 0
    ∷ 0x03e04021
    ∷ 0x0c100000 ∷ 0
    ∷ 0x03e00008 ∷ 0
    ∷ []
moving_words = refl

-- Example: at a call, an instruction that writes register 31 does not move into the delay slot, and one that does not use register
-- 31 does. Before a return, a load into register 31 stays, and the pop of the frame moves.
abbrev calling : Labelled
calling = record {
  lines =
      lines.Ordinary (Immediate immediates.AddUnsigned (register_of 31) (register_of 0) 4)
      ∷ lines.Call 4
      ∷ lines.Ordinary (Memory StoreWord (register_of 8) (register_of 29) 4)
      ∷ lines.Call 7
      ∷ lines.Ordinary (Memory LoadWord (register_of 31) (register_of 29) 4)
      ∷ lines.Ordinary (Immediate immediates.AddUnsigned (register_of 29) (register_of 29) 32)
      ∷ lines.Return
      ∷ lines.Ordinary (Memory LoadWord (register_of 31) (register_of 29) 4)
      ∷ lines.Return
      ∷ [];
  globals = [];
}

calling_words : assembled calling ≡
    0x241f0004
    ∷ 0x0c100005 ∷ 0
    ∷ 0x0c100008 ∷ 0xafa80004
    ∷ 0x8fbf0004
    ∷ 0x03e00008 ∷ 0x27bd0020
    ∷ 0x8fbf0004
    ∷ 0x03e00008 ∷ 0
    ∷ []
calling_words = refl

-- Example: branches do not test HI and LO, so `mult` and `mflo` move into a branch's delay slot, unless `mflo` writes a tested
-- register. A branch after a branch, and a jump after a `syscall`, have empty delay slots.
abbrev multiplying : Labelled
multiplying = record {
  lines =
      lines.Ordinary (MultiplyDivide Multiply (register_of 8) (register_of 9))
      ∷ lines.Branch (conditions.Registers Equal (register_of 10) (register_of 0)) 9
      ∷ lines.Ordinary (MoveFrom Low (register_of 8))
      ∷ lines.Branch (conditions.Sign signs.Less (register_of 10)) 9
      ∷ lines.Branch (conditions.Sign signs.Greater (register_of 11)) 9
      ∷ lines.Ordinary (MoveFrom Low (register_of 10))
      ∷ lines.Branch (conditions.Sign signs.LessOrEqual (register_of 10)) 9
      ∷ lines.Ordinary (Exception Syscall (trap_code_of 0))
      ∷ lines.Jump 9
      ∷ lines.Return
      ∷ [];
  globals = [];
}

multiplying_words : assembled multiplying ≡
    0x1140000b ∷ 0x01090018
    ∷ 0x05400009 ∷ 0x00004012
    ∷ 0x1d600007 ∷ 0
    ∷ 0x00005012
    ∷ 0x19400004 ∷ 0
    ∷ 0x0000000c
    ∷ 0x0810000c ∷ 0
    ∷ 0x03e00008 ∷ 0
    ∷ []
multiplying_words = refl

-- Example: two jumps to one label, each with its own instruction in its delay slot. The branch at the label has an empty delay slot.
-- A jump to an instruction that moved into a delay slot goes to the branch or jump of this delay slot. The three lines before the
-- branch are unreachable.
abbrev meeting : Labelled
meeting = record {
  lines =
      lines.Ordinary (Immediate immediates.AddUnsigned (register_of 8) (register_of 0) 1)
      ∷ lines.Jump 7
      ∷ lines.Ordinary (Immediate immediates.AddUnsigned (register_of 8) (register_of 0) 2)
      ∷ lines.Jump 7
      ∷ lines.Ordinary (Immediate immediates.AddUnsigned (register_of 9) (register_of 0) 3)
      ∷ lines.Jump 7
      ∷ lines.Return
      ∷ lines.Branch (conditions.Registers Equal (register_of 8) (register_of 0)) 2
      ∷ [];
  globals = [];
}

meeting_words : assembled meeting ≡
    0x08100004 ∷ 0x24080001
    ∷ 0x08100004 ∷ 0x24080002
    ∷ 0x1100fffd ∷ 0
    ∷ []
meeting_words = refl

-- Example: instructions are moved down into delay slots of branches. One passes the instruction that sets the tested register, one passes
-- two instructions, and a store passes a comparison. An instruction is not moved down to a branch in four cases. It sets a register that is
-- read after it, reads one that is set after it, precedes a line with a label, or would pass a load.
abbrev passing : Labelled
passing = record {
  lines =
      lines.Ordinary (Immediate immediates.AddUnsigned (register_of 8) (register_of 8) 1)
      ∷ lines.Ordinary (Immediate immediates.SetLess (register_of 24) (register_of 10) 200)
      ∷ lines.Branch (conditions.Registers NotEqual (register_of 24) (register_of 0)) 0
      ∷ lines.Ordinary (Arithmetic operations.AddUnsigned (register_of 8) (register_of 8) (register_of 9))
      ∷ lines.Ordinary (Immediate immediates.AddUnsigned (register_of 10) (register_of 10) 1)
      ∷ lines.Ordinary (Immediate immediates.SetLess (register_of 24) (register_of 10) 200)
      ∷ lines.Branch (conditions.Registers NotEqual (register_of 24) (register_of 0)) 3
      ∷ lines.Ordinary (Memory StoreWord (register_of 8) (register_of 29) 4)
      ∷ lines.Ordinary (Arithmetic operations.SetLessUnsigned (register_of 24) (register_of 9) (register_of 8))
      ∷ lines.Branch (conditions.Registers Equal (register_of 24) (register_of 0)) 3
      ∷ lines.Ordinary (Memory LoadWord (register_of 8) (register_of 29) 4)
      ∷ lines.Ordinary (Arithmetic operations.SetLessUnsigned (register_of 24) (register_of 9) (register_of 8))
      ∷ lines.Branch (conditions.Registers Equal (register_of 24) (register_of 0)) 3
      ∷ lines.Ordinary (Arithmetic operations.AddUnsigned (register_of 8) (register_of 24) (register_of 0))
      ∷ lines.Ordinary (Immediate immediates.SetLess (register_of 24) (register_of 10) 200)
      ∷ lines.Branch (conditions.Registers NotEqual (register_of 24) (register_of 0)) 3
      ∷ lines.Ordinary (Immediate immediates.AddUnsigned (register_of 8) (register_of 8) 1)
      ∷ lines.Ordinary (Immediate immediates.SetLess (register_of 24) (register_of 10) 200)
      ∷ lines.Branch (conditions.Registers NotEqual (register_of 24) (register_of 0)) 17
      ∷ lines.Ordinary (Immediate immediates.AddUnsigned (register_of 8) (register_of 8) 1)
      ∷ lines.Ordinary (Memory LoadWord (register_of 24) (register_of 29) 4)
      ∷ lines.Branch (conditions.Registers NotEqual (register_of 24) (register_of 0)) 3
      ∷ lines.Return
      ∷ [];
  globals = [];
}

passing_words : assembled passing ≡
    0x295800c8
    ∷ 0x1700fffe ∷ 0x25080001
    ∷ 0x254a0001
    ∷ 0x295800c8
    ∷ 0x1700fffd ∷ 0x01094021
    ∷ 0x0128c02b
    ∷ 0x1300fffa ∷ 0xafa80004
    ∷ 0x8fa80004
    ∷ 0x0128c02b
    ∷ 0x1300fff6 ∷ 0
    ∷ 0x03004021
    ∷ 0x295800c8
    ∷ 0x1700fff2 ∷ 0
    ∷ 0x25080001
    ∷ 0x295800c8
    ∷ 0x1700fffe ∷ 0
    ∷ 0x25080001
    ∷ 0x8fb80004
    ∷ 0x1700ffea ∷ 0
    ∷ 0x03e00008 ∷ 0
    ∷ []
passing_words = refl

-- A branch to a far target becomes the inverse branch over a jump, with the moved instruction in the delay slot of the inverse branch.
-- (This form of a far branch is proved for any labelled code, not for one example only.)
far_words : (code : List Line) (number label : ℕ) (i : Instr) → slice_get code number ≡ Some (lines.Ordinary i) → filling code (suc number) ≡ Some i
    → slice_get code (suc number) ≡ Some (lines.Branch (conditions.Registers NotEqual (register_of 9) (register_of 0)) label) → is_near code (suc number) label ≡ false
    → (words_in code number (slice_get code number) ≡ 0x11200003 ∷ [])
    × (words_in code (suc number) (slice_get code (suc number)) ≡ word_of i ∷ jump_words Plain (position code label))
far_words code number label i at some branch far = (
  ap (words_in code number) at ∙ ap (λ o. words_ordinary o code number i) some
      ∙ ap (λ o. word_of (head_in code (position code number) (suc number) o) ∷ []) branch
      ∙ ap (λ b. word_of (head_of_branch b code (position code number) (conditions.Registers NotEqual (register_of 9) (register_of 0)) label) ∷ []) far,
  ap (words_in code (suc number)) branch
      ∙ ap (λ o. words_filled o code (suc number) (lines.Branch (conditions.Registers NotEqual (register_of 9) (register_of 0)) label)) some
      ∙ ap (λ b. word_of i ∷ round_words b code label) far,
)

-- Example: the sum of 3, 2 and 1 is computed by a loop that calls a function, in 30 instructions. The addition is in the delay slot of
-- the return, and the decrement in that of the jump.
abbrev summing : Labelled
summing = record {
  lines =
      lines.Ordinary (Immediate immediates.AddUnsigned (register_of 4) (register_of 0) 0)
      ∷ lines.Ordinary (Immediate immediates.AddUnsigned (register_of 8) (register_of 0) 3)
      ∷ lines.Branch (conditions.Registers Equal (register_of 8) (register_of 0)) 6
      ∷ lines.Call 8
      ∷ lines.Ordinary (Immediate immediates.AddUnsigned (register_of 8) (register_of 8) 65535)
      ∷ lines.Jump 2
      ∷ lines.Ordinary (Immediate immediates.AddUnsigned (register_of 2) (register_of 0) 3)
      ∷ lines.Ordinary (Exception Syscall (trap_code_of 0))
      ∷ lines.Ordinary (Arithmetic operations.AddUnsigned (register_of 4) (register_of 4) (register_of 8))
      ∷ lines.Return
      ∷ [];
  globals = [];
}

-- Returns an empty store, since the example program allocates nothing.
abbrev empty_store : StoreState
empty_store = start 3 (λ (x : ℕ). 0)

sum_is_six : end_of (after 30 (any_choice empty_store) (start_in (assembled summing) [] [] empty_store 1 [])) ≡ Some (Returned (pos 6))
unfolding instruction_of sign_extended
sum_is_six = refl

-- Example: the sum of three 2s is computed by a loop whose test is at its end, in 16 instructions. The addition is moved past the
-- decrement and the test, into the delay slot of the backward branch.
abbrev adding : Labelled
adding = record {
  lines =
      lines.Ordinary (Immediate immediates.AddUnsigned (register_of 4) (register_of 0) 0)
      ∷ lines.Ordinary (Immediate immediates.AddUnsigned (register_of 8) (register_of 0) 0)
      ∷ lines.Ordinary (Immediate immediates.AddUnsigned (register_of 4) (register_of 4) 2)
      ∷ lines.Ordinary (Immediate immediates.AddUnsigned (register_of 8) (register_of 8) 1)
      ∷ lines.Ordinary (Immediate immediates.SetLess (register_of 24) (register_of 8) 3)
      ∷ lines.Branch (conditions.Registers NotEqual (register_of 24) (register_of 0)) 2
      ∷ lines.Ordinary (Immediate immediates.AddUnsigned (register_of 2) (register_of 0) 3)
      ∷ lines.Ordinary (Exception Syscall (trap_code_of 0))
      ∷ [];
  globals = [];
}

twos_are_six : end_of (after 16 (any_choice empty_store) (start_in (assembled adding) [] [] empty_store 1 [])) ≡ Some (Returned (pos 6))
unfolding instruction_of sign_extended slt_of
twos_are_six = refl
