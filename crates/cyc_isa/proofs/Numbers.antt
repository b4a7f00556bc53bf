-- The code number of each operation fits the field of the instruction word that contains it.
use Rattle.std.proofs.Common.{◌<◌, lit<}
use Rattle.cyc_isa.specs.Table.{immediate, memory, branch, branch_zero, jump, shift, shift_variable, exception, move_from, multiply_divide, arithmetic}
use Rattle.cyc_isa.specs.declared.instr.ImmediateOp.{ImmediateOp}
use Rattle.cyc_isa.specs.declared.instr.MemoryOp.{MemoryOp}
use Rattle.cyc_isa.specs.declared.instr.BranchOp.{BranchOp}
use Rattle.cyc_isa.specs.declared.instr.BranchZeroOp.{BranchZeroOp}
use Rattle.cyc_isa.specs.declared.instr.JumpOp.{JumpOp}
use Rattle.cyc_isa.specs.declared.instr.ShiftOp.{ShiftOp}
use Rattle.cyc_isa.specs.declared.instr.ExceptionOp.{ExceptionOp}
use Rattle.cyc_isa.specs.declared.instr.MoveFromOp.{MoveFromOp}
use Rattle.cyc_isa.specs.declared.instr.MultiplyDivideOp.{MultiplyDivideOp}
use Rattle.cyc_isa.specs.declared.instr.ArithmeticOp.{ArithmeticOp}

pub immediate-number_fits : (op : ImmediateOp) → (immediate op).number < 64
immediate-number_fits ImmediateOp.AddUnsigned = lit< tt
immediate-number_fits ImmediateOp.SetLess = lit< tt
immediate-number_fits ImmediateOp.SetLessUnsigned = lit< tt
immediate-number_fits ImmediateOp.And = lit< tt
immediate-number_fits ImmediateOp.Or = lit< tt
immediate-number_fits ImmediateOp.Xor = lit< tt

pub memory-number_fits : (op : MemoryOp) → (memory op).number < 64
memory-number_fits MemoryOp.LoadWord = lit< tt
memory-number_fits MemoryOp.StoreWord = lit< tt
memory-number_fits MemoryOp.LoadByte = lit< tt
memory-number_fits MemoryOp.StoreByte = lit< tt

pub branch-number_fits : (op : BranchOp) → (branch op).number < 64
branch-number_fits BranchOp.Equal = lit< tt
branch-number_fits BranchOp.NotEqual = lit< tt

pub jump-number_fits : (op : JumpOp) → (jump op).number < 64
jump-number_fits JumpOp.Plain = lit< tt
jump-number_fits JumpOp.AndLink = lit< tt

pub shift-number_fits : (op : ShiftOp) → (shift op).number < 64
shift-number_fits ShiftOp.Left = lit< tt
shift-number_fits ShiftOp.RightLogical = lit< tt
shift-number_fits ShiftOp.RightArithmetic = lit< tt

pub shift_variable-number_fits : (op : ShiftOp) → (shift_variable op).number < 64
shift_variable-number_fits ShiftOp.Left = lit< tt
shift_variable-number_fits ShiftOp.RightLogical = lit< tt
shift_variable-number_fits ShiftOp.RightArithmetic = lit< tt

pub exception-number_fits : (op : ExceptionOp) → (exception op).number < 64
exception-number_fits ExceptionOp.Syscall = lit< tt
exception-number_fits ExceptionOp.Break = lit< tt

pub move_from-number_fits : (op : MoveFromOp) → (move_from op).number < 64
move_from-number_fits MoveFromOp.High = lit< tt
move_from-number_fits MoveFromOp.Low = lit< tt

pub multiply_divide-number_fits : (op : MultiplyDivideOp) → (multiply_divide op).number < 64
multiply_divide-number_fits MultiplyDivideOp.Multiply = lit< tt
multiply_divide-number_fits MultiplyDivideOp.Divide = lit< tt

pub arithmetic-number_fits : (op : ArithmeticOp) → (arithmetic op).number < 64
arithmetic-number_fits ArithmeticOp.AddUnsigned = lit< tt
arithmetic-number_fits ArithmeticOp.SubtractUnsigned = lit< tt
arithmetic-number_fits ArithmeticOp.And = lit< tt
arithmetic-number_fits ArithmeticOp.Or = lit< tt
arithmetic-number_fits ArithmeticOp.Xor = lit< tt
arithmetic-number_fits ArithmeticOp.Nor = lit< tt
arithmetic-number_fits ArithmeticOp.SetLess = lit< tt
arithmetic-number_fits ArithmeticOp.SetLessUnsigned = lit< tt

pub branch_zero-number_fits : (op : BranchZeroOp) → (branch_zero op).0.number < 64
branch_zero-number_fits BranchZeroOp.LessOrEqual = lit< tt
branch_zero-number_fits BranchZeroOp.Greater = lit< tt
branch_zero-number_fits BranchZeroOp.Less = lit< tt
branch_zero-number_fits BranchZeroOp.GreaterOrEqual = lit< tt

pub branch_zero-rt_fits : (op : BranchZeroOp) → (branch_zero op).1 < 32
branch_zero-rt_fits BranchZeroOp.LessOrEqual = lit< tt
branch_zero-rt_fits BranchZeroOp.Greater = lit< tt
branch_zero-rt_fits BranchZeroOp.Less = lit< tt
branch_zero-rt_fits BranchZeroOp.GreaterOrEqual = lit< tt
