-- Each operation is in the list of operations of its format, so each instruction's row is a row of the instruction table.
use Rattle.std.proofs.Common.{ℕ, ◌<◌, ◌^◌, ◌++◌, List, [], ◌∷◌, Contains, Any, refl, lit<, arith}
use Rattle.cyc_words.proofs.Members.{Any-first, Any-map_from}
use Rattle.cyc_isa.specs.Field.{Field, HasFields}
use Rattle.cyc_isa.specs.Table.{Row, groups, immediate_row, load_upper_row, memory_row, branch_row, branch_zero_row, jump_row, shift_row, shift_variable_row, jump_register_row, jump_register_link_row, exception_row}
use Rattle.cyc_isa.specs.Table.{move_from_row, multiply_divide_row, arithmetic_row, immediate_ops, memory_ops, branch_ops, branch_zero_ops, jump_ops, shift_ops, exception_ops, move_from_ops, multiply_divide_ops, arithmetic_ops}
use Rattle.cyc_isa.specs.Encoding.{row_of, operands_of, word_of, IsEncodable, IsInstance, IsInstruction}
use Rattle.cyc_isa.proofs.AnyLemmas.{Any-joined_from}
use Rattle.cyc_isa.proofs.Numbers.{immediate-number_fits, memory-number_fits, branch-number_fits, branch_zero-number_fits, jump-number_fits, shift-number_fits, exception-number_fits}
use Rattle.cyc_isa.proofs.Numbers.{move_from-number_fits, multiply_divide-number_fits, arithmetic-number_fits, shift_variable-number_fits, branch_zero-rt_fits}
use Rattle.cyc_isa.proofs.RoundTrip.{fields-word_of}
use Rattle.cyc_isa.specs.declared.instr.Instr.{Instr}
use Rattle.cyc_isa.specs.declared.instr.Instr.TheVariants.{Immediate, LoadUpper, Memory, Branch, BranchZero, Jump, Shift, ShiftVariable, JumpRegister, JumpRegisterLink, Exception, MoveFrom, MultiplyDivide, Arithmetic}
use Rattle.cyc_isa.specs.declared.instr.ImmediateOp.{ImmediateOp}
use Rattle.cyc_isa.specs.declared.instr.MemoryOp.{MemoryOp}
use Rattle.cyc_isa.specs.declared.instr.BranchOp.{BranchOp}
use Rattle.cyc_isa.specs.declared.instr.BranchZeroOp.{BranchZeroOp}
use Rattle.cyc_isa.specs.declared.instr.JumpOp.{JumpOp}
use Rattle.cyc_isa.specs.declared.instr.ShiftOp.{ShiftOp}
use Rattle.cyc_isa.specs.declared.instr.ExceptionOp.{ExceptionOp}
use Rattle.cyc_isa.specs.declared.instr.MoveFromOp.{MoveFromOp}
use Rattle.cyc_isa.specs.declared.instr.MultiplyDivideOp.{MultiplyDivideOp}
use Rattle.cyc_isa.specs.declared.instr.ArithmeticOp.{ArithmeticOp}

immediate-listed : (op : ImmediateOp) → Contains immediate_ops op
immediate-listed ImmediateOp.AddUnsigned = (0, lit< tt, refl)
immediate-listed ImmediateOp.SetLess = (1, lit< tt, refl)
immediate-listed ImmediateOp.SetLessUnsigned = (2, lit< tt, refl)
immediate-listed ImmediateOp.And = (3, lit< tt, refl)
immediate-listed ImmediateOp.Or = (4, lit< tt, refl)
immediate-listed ImmediateOp.Xor = (5, lit< tt, refl)

memory-listed : (op : MemoryOp) → Contains memory_ops op
memory-listed MemoryOp.LoadWord = (0, lit< tt, refl)
memory-listed MemoryOp.StoreWord = (1, lit< tt, refl)
memory-listed MemoryOp.LoadByte = (2, lit< tt, refl)
memory-listed MemoryOp.StoreByte = (3, lit< tt, refl)

branch-listed : (op : BranchOp) → Contains branch_ops op
branch-listed BranchOp.Equal = (0, lit< tt, refl)
branch-listed BranchOp.NotEqual = (1, lit< tt, refl)

branch_zero-listed : (op : BranchZeroOp) → Contains branch_zero_ops op
branch_zero-listed BranchZeroOp.LessOrEqual = (0, lit< tt, refl)
branch_zero-listed BranchZeroOp.Greater = (1, lit< tt, refl)
branch_zero-listed BranchZeroOp.Less = (2, lit< tt, refl)
branch_zero-listed BranchZeroOp.GreaterOrEqual = (3, lit< tt, refl)

jump-listed : (op : JumpOp) → Contains jump_ops op
jump-listed JumpOp.Plain = (0, lit< tt, refl)
jump-listed JumpOp.AndLink = (1, lit< tt, refl)

shift-listed : (op : ShiftOp) → Contains shift_ops op
shift-listed ShiftOp.Left = (0, lit< tt, refl)
shift-listed ShiftOp.RightLogical = (1, lit< tt, refl)
shift-listed ShiftOp.RightArithmetic = (2, lit< tt, refl)

exception-listed : (op : ExceptionOp) → Contains exception_ops op
exception-listed ExceptionOp.Syscall = (0, lit< tt, refl)
exception-listed ExceptionOp.Break = (1, lit< tt, refl)

move_from-listed : (op : MoveFromOp) → Contains move_from_ops op
move_from-listed MoveFromOp.High = (0, lit< tt, refl)
move_from-listed MoveFromOp.Low = (1, lit< tt, refl)

multiply_divide-listed : (op : MultiplyDivideOp) → Contains multiply_divide_ops op
multiply_divide-listed MultiplyDivideOp.Multiply = (0, lit< tt, refl)
multiply_divide-listed MultiplyDivideOp.Divide = (1, lit< tt, refl)

arithmetic-listed : (op : ArithmeticOp) → Contains arithmetic_ops op
arithmetic-listed ArithmeticOp.AddUnsigned = (0, lit< tt, refl)
arithmetic-listed ArithmeticOp.SubtractUnsigned = (1, lit< tt, refl)
arithmetic-listed ArithmeticOp.And = (2, lit< tt, refl)
arithmetic-listed ArithmeticOp.Or = (3, lit< tt, refl)
arithmetic-listed ArithmeticOp.Xor = (4, lit< tt, refl)
arithmetic-listed ArithmeticOp.Nor = (5, lit< tt, refl)
arithmetic-listed ArithmeticOp.SetLess = (6, lit< tt, refl)
arithmetic-listed ArithmeticOp.SetLessUnsigned = (7, lit< tt, refl)

HasFields-first : (xs ys : List (Field × ℕ)) (w : ℕ) → HasFields (xs ++ ys) w → HasFields xs w
HasFields-first [] ys w f = tt
HasFields-first (x ∷ xs) ys w f = (f.0, HasFields-first xs ys w f.1)

pub word_of-fits : (i : Instr) → IsEncodable i → word_of i < 2 ^ 32
word_of-fits (Immediate op t s h) fits = omega (arith, immediate-number_fits op, s.in_range, t.in_range, fits)
word_of-fits (LoadUpper t h) fits = omega (arith, t.in_range, fits)
word_of-fits (Memory op t b h) fits = omega (arith, memory-number_fits op, b.in_range, t.in_range, fits)
word_of-fits (Branch op l r h) fits = omega (arith, branch-number_fits op, l.in_range, r.in_range, fits)
word_of-fits (BranchZero op s h) fits = omega (arith, branch_zero-number_fits op, branch_zero-rt_fits op, s.in_range, fits)
word_of-fits (Jump op x) fits = omega (arith, jump-number_fits op, x.in_range)
word_of-fits (Shift op d s a) fits = omega (arith, shift-number_fits op, d.in_range, s.in_range, a.in_range)
word_of-fits (ShiftVariable op d s b) fits = omega (arith, shift_variable-number_fits op, d.in_range, s.in_range, b.in_range)
word_of-fits (JumpRegister s) fits = omega (arith, s.in_range)
word_of-fits (JumpRegisterLink d s) fits = omega (arith, d.in_range, s.in_range)
word_of-fits (Exception op c) fits = omega (arith, exception-number_fits op, c.in_range)
word_of-fits (MoveFrom op d) fits = omega (arith, move_from-number_fits op, d.in_range)
word_of-fits (MultiplyDivide op l r) fits = omega (arith, multiply_divide-number_fits op, l.in_range, r.in_range)
word_of-fits (Arithmetic op d l r) fits = omega (arith, arithmetic-number_fits op, d.in_range, l.in_range, r.in_range)

pub IsInstance-word_of : (i : Instr) → IsEncodable i → IsInstance (row_of i) (word_of i)
IsInstance-word_of i fits = record {
  is_word = word_of-fits i fits;
  fields = HasFields-first (row_of i).fixed (operands_of i) (word_of i) (fields-word_of i fits);
}

-- If a property holds for the row of an instruction, it holds for some row of the instruction table.
in_table : (P : Row → Type 0) (i : Instr) → P (row_of i) → Any (Any P) groups
in_table P (Immediate op t s h) p = (0, _, lit< tt, refl, Any-map_from P immediate_row immediate_ops op (immediate-listed op) p)
in_table P (LoadUpper t h) p = (1, _, lit< tt, refl, Any-first P load_upper_row [] p)
in_table P (Memory op t b h) p = (2, _, lit< tt, refl, Any-map_from P memory_row memory_ops op (memory-listed op) p)
in_table P (Branch op l r h) p = (3, _, lit< tt, refl, Any-map_from P branch_row branch_ops op (branch-listed op) p)
in_table P (BranchZero op s h) p = (4, _, lit< tt, refl, Any-map_from P branch_zero_row branch_zero_ops op (branch_zero-listed op) p)
in_table P (Jump op x) p = (5, _, lit< tt, refl, Any-map_from P jump_row jump_ops op (jump-listed op) p)
in_table P (Shift op d s a) p = (6, _, lit< tt, refl, Any-map_from P shift_row shift_ops op (shift-listed op) p)
in_table P (ShiftVariable op d s b) p = (7, _, lit< tt, refl, Any-map_from P shift_variable_row shift_ops op (shift-listed op) p)
in_table P (JumpRegister s) p = (8, _, lit< tt, refl, Any-first P jump_register_row [] p)
in_table P (JumpRegisterLink d s) p = (9, _, lit< tt, refl, Any-first P jump_register_link_row [] p)
in_table P (Exception op c) p = (10, _, lit< tt, refl, Any-map_from P exception_row exception_ops op (exception-listed op) p)
in_table P (MoveFrom op d) p = (11, _, lit< tt, refl, Any-map_from P move_from_row move_from_ops op (move_from-listed op) p)
in_table P (MultiplyDivide op l r) p = (12, _, lit< tt, refl, Any-map_from P multiply_divide_row multiply_divide_ops op (multiply_divide-listed op) p)
in_table P (Arithmetic op d l r) p = (13, _, lit< tt, refl, Any-map_from P arithmetic_row arithmetic_ops op (arithmetic-listed op) p)

-- The word that encodes an instruction matches a row of the instruction table in the row's fixed fields.
pub IsInstruction-word_of : (i : Instr) → IsEncodable i → IsInstruction (word_of i)
IsInstruction-word_of i fits =
    let P : Row → Type 0 = λ row. IsInstance row (word_of i) in
    Any-joined_from P groups (in_table P i (IsInstance-word_of i fits))
