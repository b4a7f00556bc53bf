-- Looking up the fixed numbers of an instruction's row of the instruction table in the decoding tables finds the operation of this row.
use Rattle.std.proofs.Common.{◌≡◌, ℕ, ◌==◌, false, Some, refl}
use Rattle.cyc_isa.specs.Field.{Opcode, Rt, Function, field_of}
use Rattle.cyc_isa.specs.Table.{immediate, memory, branch, branch_zero, jump, shift, shift_variable, exception, move_from, multiply_divide, arithmetic}
use Rattle.cyc_isa.specs.Decoding.{opcodes, sign_branches, functions, entry_at, selected_of, immediate_in, load_upper_in, memory_in, branch_in, branch_zero_in, jump_in}
use Rattle.cyc_isa.specs.Decoding.{shift_in, shift_variable_in, jump_register_in, jump_register_link_in, exception_in, move_from_in, multiply_divide_in, arithmetic_in}
use Rattle.cyc_isa.specs.declared.instr.ImmediateOp.{ImmediateOp}
use Rattle.cyc_isa.specs.declared.instr.MemoryOp.{MemoryOp}
use Rattle.cyc_isa.specs.declared.instr.BranchOp.{BranchOp}
use Rattle.cyc_isa.specs.declared.instr.BranchZeroOp.{BranchZeroOp}
use Rattle.cyc_isa.specs.declared.instr.JumpOp.{JumpOp}
use Rattle.cyc_isa.specs.declared.instr.ShiftOp.{ShiftOp}
use Rattle.cyc_isa.specs.declared.instr.ExceptionOp.{ExceptionOp}
use Rattle.cyc_isa.specs.declared.instr.MoveFromOp.{MoveFromOp}
use Rattle.cyc_isa.specs.declared.instr.MultiplyDivideOp.{MultiplyDivideOp}
use Rattle.cyc_isa.specs.declared.instr.ArithmeticOp.{ArithmeticOp}

pub by_opcode : (w n : ℕ) → field_of Opcode w ≡ n → (n == 0) ≡ false → (n == 1) ≡ false → selected_of w ≡ entry_at opcodes n w
by_opcode w n e not_0 not_1 = rw e (rw (not_0, not_1))

pub by_rt : (w n : ℕ) → field_of Opcode w ≡ 1 → field_of Rt w ≡ n → selected_of w ≡ entry_at sign_branches n w
by_rt w n op e = rw (op, e)

pub by_function : (w n : ℕ) → field_of Opcode w ≡ 0 → field_of Function w ≡ n → selected_of w ≡ entry_at functions n w
by_function w n op e = rw (op, e)

pub selected_of-immediate : (op : ImmediateOp) (w : ℕ) → field_of Opcode w ≡ (immediate op).number → selected_of w ≡ Some (immediate_in op w)
selected_of-immediate ImmediateOp.AddUnsigned w e = by_opcode w _ e refl refl
selected_of-immediate ImmediateOp.SetLess w e = by_opcode w _ e refl refl
selected_of-immediate ImmediateOp.SetLessUnsigned w e = by_opcode w _ e refl refl
selected_of-immediate ImmediateOp.And w e = by_opcode w _ e refl refl
selected_of-immediate ImmediateOp.Or w e = by_opcode w _ e refl refl
selected_of-immediate ImmediateOp.Xor w e = by_opcode w _ e refl refl

pub selected_of-memory : (op : MemoryOp) (w : ℕ) → field_of Opcode w ≡ (memory op).number → selected_of w ≡ Some (memory_in op w)
selected_of-memory MemoryOp.LoadWord w e = by_opcode w _ e refl refl
selected_of-memory MemoryOp.StoreWord w e = by_opcode w _ e refl refl
selected_of-memory MemoryOp.LoadByte w e = by_opcode w _ e refl refl
selected_of-memory MemoryOp.StoreByte w e = by_opcode w _ e refl refl

pub selected_of-branch : (op : BranchOp) (w : ℕ) → field_of Opcode w ≡ (branch op).number → selected_of w ≡ Some (branch_in op w)
selected_of-branch BranchOp.Equal w e = by_opcode w _ e refl refl
selected_of-branch BranchOp.NotEqual w e = by_opcode w _ e refl refl

pub selected_of-jump : (op : JumpOp) (w : ℕ) → field_of Opcode w ≡ (jump op).number → selected_of w ≡ Some (jump_in op w)
selected_of-jump JumpOp.Plain w e = by_opcode w _ e refl refl
selected_of-jump JumpOp.AndLink w e = by_opcode w _ e refl refl

pub selected_of-shift : (op : ShiftOp) (w : ℕ) → field_of Opcode w ≡ 0 → field_of Function w ≡ (shift op).number → selected_of w ≡ Some (shift_in op w)
selected_of-shift ShiftOp.Left w e f = by_function w _ e f
selected_of-shift ShiftOp.RightLogical w e f = by_function w _ e f
selected_of-shift ShiftOp.RightArithmetic w e f = by_function w _ e f

pub selected_of-shift_variable : (op : ShiftOp) (w : ℕ) → field_of Opcode w ≡ 0 → field_of Function w ≡ (shift_variable op).number → selected_of w ≡ Some (shift_variable_in op w)
selected_of-shift_variable ShiftOp.Left w e f = by_function w _ e f
selected_of-shift_variable ShiftOp.RightLogical w e f = by_function w _ e f
selected_of-shift_variable ShiftOp.RightArithmetic w e f = by_function w _ e f

pub selected_of-exception : (op : ExceptionOp) (w : ℕ) → field_of Opcode w ≡ 0 → field_of Function w ≡ (exception op).number → selected_of w ≡ Some (exception_in op w)
selected_of-exception ExceptionOp.Syscall w e f = by_function w _ e f
selected_of-exception ExceptionOp.Break w e f = by_function w _ e f

pub selected_of-move_from : (op : MoveFromOp) (w : ℕ) → field_of Opcode w ≡ 0 → field_of Function w ≡ (move_from op).number → selected_of w ≡ Some (move_from_in op w)
selected_of-move_from MoveFromOp.High w e f = by_function w _ e f
selected_of-move_from MoveFromOp.Low w e f = by_function w _ e f

pub selected_of-multiply_divide : (op : MultiplyDivideOp) (w : ℕ) → field_of Opcode w ≡ 0 → field_of Function w ≡ (multiply_divide op).number → selected_of w ≡ Some (multiply_divide_in op w)
selected_of-multiply_divide MultiplyDivideOp.Multiply w e f = by_function w _ e f
selected_of-multiply_divide MultiplyDivideOp.Divide w e f = by_function w _ e f

pub selected_of-arithmetic : (op : ArithmeticOp) (w : ℕ) → field_of Opcode w ≡ 0 → field_of Function w ≡ (arithmetic op).number → selected_of w ≡ Some (arithmetic_in op w)
selected_of-arithmetic ArithmeticOp.AddUnsigned w e f = by_function w _ e f
selected_of-arithmetic ArithmeticOp.SubtractUnsigned w e f = by_function w _ e f
selected_of-arithmetic ArithmeticOp.And w e f = by_function w _ e f
selected_of-arithmetic ArithmeticOp.Or w e f = by_function w _ e f
selected_of-arithmetic ArithmeticOp.Xor w e f = by_function w _ e f
selected_of-arithmetic ArithmeticOp.Nor w e f = by_function w _ e f
selected_of-arithmetic ArithmeticOp.SetLess w e f = by_function w _ e f
selected_of-arithmetic ArithmeticOp.SetLessUnsigned w e f = by_function w _ e f

pub selected_of-load_upper : (w : ℕ) → field_of Opcode w ≡ 0x0f → selected_of w ≡ Some (load_upper_in w)
selected_of-load_upper w e = by_opcode w _ e refl refl

pub selected_of-branch_zero : (op : BranchZeroOp) (w : ℕ) → field_of Opcode w ≡ (branch_zero op).0.number → field_of Rt w ≡ (branch_zero op).1 → selected_of w ≡ Some (branch_zero_in op w)
selected_of-branch_zero BranchZeroOp.LessOrEqual w e f = by_opcode w _ e refl refl
selected_of-branch_zero BranchZeroOp.Greater w e f = by_opcode w _ e refl refl
selected_of-branch_zero BranchZeroOp.Less w e f = by_rt w _ e f
selected_of-branch_zero BranchZeroOp.GreaterOrEqual w e f = by_rt w _ e f

pub selected_of-jump_register : (w : ℕ) → field_of Opcode w ≡ 0 → field_of Function w ≡ 0x08 → selected_of w ≡ Some (jump_register_in w)
selected_of-jump_register w e f = by_function w _ e f

pub selected_of-jump_register_link : (w : ℕ) → field_of Opcode w ≡ 0 → field_of Function w ≡ 0x09 → selected_of w ≡ Some (jump_register_link_in w)
selected_of-jump_register_link w e f = by_function w _ e f
