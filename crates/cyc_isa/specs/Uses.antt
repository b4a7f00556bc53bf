-- The general registers that an instruction reads and writes, according to its entry in the architecture's manual, volume II. HI, LO,
-- memory and the program counter do not count as registers. (The used registers are those of the MIPS32 architecture, volume II.)
use Rattle.std.specs.Prelude.{ℕ, Bool, false, not, ◌==◌, ◌||◌, ◌&&◌}
use Rattle.cyc_isa.specs.declared.instr.Instr.{Instr}
use Rattle.cyc_isa.specs.declared.instr.Instr.TheVariants.{Immediate, LoadUpper, Memory, Branch, BranchZero, Jump, Shift, ShiftVariable, JumpRegister, JumpRegisterLink, Exception, MoveFrom, MultiplyDivide, Arithmetic}
use Rattle.cyc_isa.specs.declared.instr.MemoryOp.TheVariants.{LoadWord, StoreWord, LoadByte, StoreByte}
use Rattle.cyc_isa.specs.declared.instr.JumpOp.TheVariants.{Plain, AndLink}
use Rattle.cyc_isa.specs.declared.instr.ExceptionOp.TheVariants.{Syscall, Break}

-- Returns true if an instruction reads a register. `syscall` passes a system call's number, in register 2, and its arguments, in
-- registers 4 and 5, to the system: this project's own choice.
abbrev pub reads : Instr → ℕ → Bool
reads (Immediate op target source immediate) number = source.number == number
reads (LoadUpper target immediate) number = false
reads (Memory LoadWord target base offset) number = base.number == number
reads (Memory StoreWord target base offset) number = target.number == number || base.number == number
reads (Memory LoadByte target base offset) number = base.number == number
reads (Memory StoreByte target base offset) number = target.number == number || base.number == number
reads (Branch op left right offset) number = left.number == number || right.number == number
reads (BranchZero op source offset) number = source.number == number
reads (Jump op index) number = false
reads (Shift op destination source amount) number = source.number == number
reads (ShiftVariable op destination source by) number = source.number == number || by.number == number
reads (JumpRegister source) number = source.number == number
reads (JumpRegisterLink destination source) number = source.number == number
reads (Exception Syscall code) number = number == 2 || (number == 4 || number == 5)
reads (Exception Break code) number = false
reads (MoveFrom op destination) number = false
reads (MultiplyDivide op left right) number = left.number == number || right.number == number
reads (Arithmetic op destination left right) number = left.number == number || right.number == number

-- Returns true if a register is the destination of an instruction's result. `jal` stores its return address in register 31,
-- and `syscall` its results in registers 2 and 3.
abbrev pub names_result : Instr → ℕ → Bool
names_result (Immediate op target source immediate) number = target.number == number
names_result (LoadUpper target immediate) number = target.number == number
names_result (Memory LoadWord target base offset) number = target.number == number
names_result (Memory StoreWord target base offset) number = false
names_result (Memory LoadByte target base offset) number = target.number == number
names_result (Memory StoreByte target base offset) number = false
names_result (Branch op left right offset) number = false
names_result (BranchZero op source offset) number = false
names_result (Jump Plain index) number = false
names_result (Jump AndLink index) number = number == 31
names_result (Shift op destination source amount) number = destination.number == number
names_result (ShiftVariable op destination source by) number = destination.number == number
names_result (JumpRegister source) number = false
names_result (JumpRegisterLink destination source) number = destination.number == number
names_result (Exception Syscall code) number = number == 2 || number == 3
names_result (Exception Break code) number = false
names_result (MoveFrom op destination) number = destination.number == number
names_result (MultiplyDivide op left right) number = false
names_result (Arithmetic op destination left right) number = destination.number == number

-- Returns true if an instruction writes a register. Register 0 is never written, even if the instruction names it as the destination.
abbrev pub writes : Instr → ℕ → Bool
writes instruction number = not (number == 0) && names_result instruction number
