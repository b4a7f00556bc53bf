-- The words that decode to an instruction are exactly those that match a row of the instruction table in the row's fixed fields.
use Rattle.std.proofs.Common.{◌≡◌, ℕ, Some, arith, eq-eqb}
use Rattle.cyc_words.proofs.Members.{Any-one_to, Any-map_to}
use Rattle.cyc_isa.specs.Table.{Row, groups, immediate_row, load_upper_row, memory_row, branch_row, branch_zero_row, jump_row, shift_row, shift_variable_row, jump_register_row, jump_register_link_row, exception_row}
use Rattle.cyc_isa.specs.Table.{move_from_row, multiply_divide_row, arithmetic_row, immediate_ops, memory_ops, branch_ops, branch_zero_ops, jump_ops, shift_ops, exception_ops, move_from_ops, multiply_divide_ops, arithmetic_ops}
use Rattle.cyc_isa.specs.Encoding.{word_of, IsInstance, IsInstruction}
use Rattle.cyc_isa.specs.Decoding.{decode_of, immediate_in, load_upper_in, memory_in, branch_in, branch_zero_in, jump_in, shift_in, shift_variable_in, jump_register_in, jump_register_link_in, exception_in, move_from_in, multiply_divide_in, arithmetic_in}
use Rattle.cyc_isa.proofs.AnyLemmas.{Any-joined}
use Rattle.cyc_isa.proofs.Selected.{selected_of-immediate, selected_of-load_upper, selected_of-memory, selected_of-branch, selected_of-branch_zero, selected_of-jump, selected_of-shift, selected_of-shift_variable}
use Rattle.cyc_isa.proofs.Selected.{selected_of-jump_register, selected_of-jump_register_link, selected_of-exception, selected_of-move_from, selected_of-multiply_divide, selected_of-arithmetic}
use Rattle.cyc_isa.specs.declared.instr.Instr.{Instr}
use Rattle.cyc_isa.specs.declared.instr.ImmediateOp.{ImmediateOp}
use Rattle.cyc_isa.specs.declared.instr.MemoryOp.{MemoryOp}
use Rattle.cyc_isa.specs.declared.instr.BranchOp.{BranchOp}
use Rattle.cyc_isa.specs.declared.instr.BranchZeroOp.{BranchZeroOp}
use Rattle.cyc_isa.specs.declared.instr.JumpOp.{JumpOp}
use Rattle.cyc_isa.specs.declared.instr.ShiftOp.{ShiftOp}
use Rattle.cyc_isa.specs.declared.instr.ExceptionOp.{ExceptionOp}
use Rattle.cyc_isa.specs.declared.instr.MoveFromOp.{MoveFromOp}
use Rattle.cyc_isa.specs.declared.instr.MultiplyDivideOp.{MultiplyDivideOp}
use Rattle.cyc_isa.specs.declared.instr.ArithmeticOp.{ArithmeticOp}

-- Says that a word decodes to some instruction.
abbrev pub Decodes : ℕ → Type 0
Decodes w = (i : Instr) × (decode_of w ≡ Some i)

immediate-decodes : (op : ImmediateOp) (w : ℕ) → IsInstance (immediate_row op) w → Decodes w
immediate-decodes op w h =
    (immediate_in op w, rw (selected_of-immediate op w h.fields.0, eq-eqb (word_of (immediate_in op w)) w (omega (arith, h.is_word, h.fields))))

load_upper-decodes : (w : ℕ) → IsInstance load_upper_row w → Decodes w
load_upper-decodes w h =
    (load_upper_in w, rw (selected_of-load_upper w h.fields.0, eq-eqb (word_of (load_upper_in w)) w (omega (arith, h.is_word, h.fields))))

memory-decodes : (op : MemoryOp) (w : ℕ) → IsInstance (memory_row op) w → Decodes w
memory-decodes op w h =
    (memory_in op w, rw (selected_of-memory op w h.fields.0, eq-eqb (word_of (memory_in op w)) w (omega (arith, h.is_word, h.fields))))

branch-decodes : (op : BranchOp) (w : ℕ) → IsInstance (branch_row op) w → Decodes w
branch-decodes op w h =
    (branch_in op w, rw (selected_of-branch op w h.fields.0, eq-eqb (word_of (branch_in op w)) w (omega (arith, h.is_word, h.fields))))

branch_zero-decodes : (op : BranchZeroOp) (w : ℕ) → IsInstance (branch_zero_row op) w → Decodes w
branch_zero-decodes op w h =
    (branch_zero_in op w, rw (selected_of-branch_zero op w h.fields.0 h.fields.1.0, eq-eqb (word_of (branch_zero_in op w)) w (omega (arith, h.is_word, h.fields))))

jump-decodes : (op : JumpOp) (w : ℕ) → IsInstance (jump_row op) w → Decodes w
jump-decodes op w h =
    (jump_in op w, rw (selected_of-jump op w h.fields.0, eq-eqb (word_of (jump_in op w)) w (omega (arith, h.is_word, h.fields))))

shift-decodes : (op : ShiftOp) (w : ℕ) → IsInstance (shift_row op) w → Decodes w
shift-decodes op w h =
    (shift_in op w, rw (selected_of-shift op w h.fields.0 h.fields.1.1.0, eq-eqb (word_of (shift_in op w)) w (omega (arith, h.is_word, h.fields))))

shift_variable-decodes : (op : ShiftOp) (w : ℕ) → IsInstance (shift_variable_row op) w → Decodes w
shift_variable-decodes op w h =
    (shift_variable_in op w, rw (selected_of-shift_variable op w h.fields.0 h.fields.1.1.0, eq-eqb (word_of (shift_variable_in op w)) w (omega (arith, h.is_word, h.fields))))

jump_register-decodes : (w : ℕ) → IsInstance jump_register_row w → Decodes w
jump_register-decodes w h =
    (jump_register_in w, rw (selected_of-jump_register w h.fields.0 h.fields.1.1.1.1.0, eq-eqb (word_of (jump_register_in w)) w (omega (arith, h.is_word, h.fields))))

jump_register_link-decodes : (w : ℕ) → IsInstance jump_register_link_row w → Decodes w
jump_register_link-decodes w h =
    (jump_register_link_in w, rw (selected_of-jump_register_link w h.fields.0 h.fields.1.1.1.0, eq-eqb (word_of (jump_register_link_in w)) w (omega (arith, h.is_word, h.fields))))

exception-decodes : (op : ExceptionOp) (w : ℕ) → IsInstance (exception_row op) w → Decodes w
exception-decodes op w h =
    (exception_in op w, rw (selected_of-exception op w h.fields.0 h.fields.1.0, eq-eqb (word_of (exception_in op w)) w (omega (arith, h.is_word, h.fields))))

move_from-decodes : (op : MoveFromOp) (w : ℕ) → IsInstance (move_from_row op) w → Decodes w
move_from-decodes op w h =
    (move_from_in op w, rw (selected_of-move_from op w h.fields.0 h.fields.1.1.1.1.0, eq-eqb (word_of (move_from_in op w)) w (omega (arith, h.is_word, h.fields))))

multiply_divide-decodes : (op : MultiplyDivideOp) (w : ℕ) → IsInstance (multiply_divide_row op) w → Decodes w
multiply_divide-decodes op w h =
    (multiply_divide_in op w, rw (selected_of-multiply_divide op w h.fields.0 h.fields.1.1.1.0, eq-eqb (word_of (multiply_divide_in op w)) w (omega (arith, h.is_word, h.fields))))

arithmetic-decodes : (op : ArithmeticOp) (w : ℕ) → IsInstance (arithmetic_row op) w → Decodes w
arithmetic-decodes op w h =
    (arithmetic_in op w, rw (selected_of-arithmetic op w h.fields.0 h.fields.1.1.0, eq-eqb (word_of (arithmetic_in op w)) w (omega (arith, h.is_word, h.fields))))

pub Decodes-from_instruction : (w : ℕ) → IsInstruction w → Decodes w
Decodes-from_instruction w =
    let P : Row → Type 0 = λ row. IsInstance row w in
    Any-joined P (Decodes w) groups (
      Any-map_to P immediate_row immediate_ops (λ op h. immediate-decodes op w h),
      (
        Any-one_to P load_upper_row (λ h. load_upper-decodes w h),
        (
          Any-map_to P memory_row memory_ops (λ op h. memory-decodes op w h),
          (
            Any-map_to P branch_row branch_ops (λ op h. branch-decodes op w h),
            (
              Any-map_to P branch_zero_row branch_zero_ops (λ op h. branch_zero-decodes op w h),
              (
                Any-map_to P jump_row jump_ops (λ op h. jump-decodes op w h),
                (
                  Any-map_to P shift_row shift_ops (λ op h. shift-decodes op w h),
                  (
                    Any-map_to P shift_variable_row shift_ops (λ op h. shift_variable-decodes op w h),
                    (
                      Any-one_to P jump_register_row (λ h. jump_register-decodes w h),
                      (
                        Any-one_to P jump_register_link_row (λ h. jump_register_link-decodes w h),
                        (
                          Any-map_to P exception_row exception_ops (λ op h. exception-decodes op w h),
                          (
                            Any-map_to P move_from_row move_from_ops (λ op h. move_from-decodes op w h),
                            (
                              Any-map_to P multiply_divide_row multiply_divide_ops (λ op h. multiply_divide-decodes op w h),
                              (Any-map_to P arithmetic_row arithmetic_ops (λ op h. arithmetic-decodes op w h), tt),
                            ),
                          ),
                        ),
                      ),
                    ),
                  ),
                ),
              ),
            ),
          ),
        ),
      ),
    )

-- ---- the converse
