-- The single machine instructions of which the emitted code consists.
use Rattle.std.specs.Prelude.{ℕ, ◌-◌, ◌*◌, ◌/◌, ◌%◌, ◌^◌, List, [], ◌∷◌}
use Rattle.cyc_isa.specs.Decoding.{register_of, shift_amount_of, trap_code_of}
use Rattle.cyc_isa.specs.declared.instr.Instr.{Instr}
use Rattle.cyc_isa.specs.declared.instr.Instr.TheVariants as machine
use Rattle.cyc_isa.specs.declared.instr.ImmediateOp.{ImmediateOp}
use Rattle.cyc_isa.specs.declared.instr.ImmediateOp.TheVariants as immediate
use Rattle.cyc_isa.specs.declared.instr.MemoryOp.TheVariants.{LoadWord, StoreWord}
use Rattle.cyc_isa.specs.declared.instr.ShiftOp.{ShiftOp}
use Rattle.cyc_isa.specs.declared.instr.ExceptionOp.TheVariants.{Syscall}
use Rattle.cyc_isa.specs.declared.instr.MoveFromOp.{MoveFromOp}
use Rattle.cyc_isa.specs.declared.instr.MultiplyDivideOp.{MultiplyDivideOp}
use Rattle.cyc_isa.specs.declared.instr.ArithmeticOp.{ArithmeticOp}
use Rattle.cyc_isa.specs.declared.instr.ArithmeticOp.TheVariants as arithmetic
use Rattle.cyc_frame.specs.inside.Layout.{slot_word}
use Rattle.cyc_frame.specs.inside.Frame.{Frame}
use Rattle.cyc_select.specs.declared.constants.TheConstants.{ZERO, FRAME}

-- Returns the instruction that loads the word at an offset from the frame pointer.
abbrev pub load : (target offset : ℕ) → Instr
load target offset = machine.Memory LoadWord (register_of target) (register_of FRAME) offset

abbrev pub store : (source offset : ℕ) → Instr
store source offset = machine.Memory StoreWord (register_of source) (register_of FRAME) offset

-- Returns the offset of a slot in the current frame, in bytes.
abbrev pub slot_offset : Frame → ℕ → ℕ
slot_offset frame slot = 4 * slot_word frame slot

abbrev pub store_slot : Frame → (source slot : ℕ) → Instr
store_slot frame source slot = store source (slot_offset frame slot)

abbrev pub add_immediate : (target source half : ℕ) → Instr
add_immediate target source half = machine.Immediate immediate.AddUnsigned (register_of target) (register_of source) half

-- Returns the instruction that loads a small non-negative number into a register.
abbrev pub small : (target number : ℕ) → Instr
small target number = add_immediate target ZERO number

-- Returns the 16-bit immediate of the negative of `number`.
abbrev pub minus : ℕ → ℕ
minus number = 2 ^ 16 - number

-- Returns the instruction that sets a register to 1 if its word is 0, otherwise to 0.
abbrev pub is_zero : ℕ → Instr
is_zero number = machine.Immediate immediate.SetLessUnsigned (register_of number) (register_of number) 1

abbrev pub syscall : Instr
syscall = machine.Exception Syscall (trap_code_of 0)

-- Returns the instruction that loads the upper half of a word into a register.
abbrev pub load_upper : (target word : ℕ) → Instr
load_upper target word = machine.LoadUpper (register_of target) (word / 2 ^ 16)

abbrev pub or_lower : (target word : ℕ) → Instr
or_lower target word =
    machine.Immediate immediate.Or (register_of target) (register_of target) (word % 2 ^ 16)

-- Returns the two instructions that load a word into a register, the upper half first.
abbrev pub constant : (target word : ℕ) → List Instr
constant target word = load_upper target word ∷ or_lower target word ∷ []

-- Returns the instruction that applies an operator to two registers and writes a third one.
abbrev pub arithmetic_of : ArithmeticOp → (target left right : ℕ) → Instr
arithmetic_of op target left right = machine.Arithmetic op (register_of target) (register_of left) (register_of right)

abbrev pub shift_of : ShiftOp → (target source by : ℕ) → Instr
shift_of op target source by = machine.ShiftVariable op (register_of target) (register_of source) (register_of by)

abbrev pub immediate_of : ImmediateOp → (target left half : ℕ) → Instr
immediate_of op target left half = machine.Immediate op (register_of target) (register_of left) half

abbrev pub shift_by_of : ShiftOp → (target source amount : ℕ) → Instr
shift_by_of op target source amount = machine.Shift op (register_of target) (register_of source) (shift_amount_of amount)

abbrev pub multiply_divide_of : MultiplyDivideOp → (left right : ℕ) → Instr
multiply_divide_of op left right = machine.MultiplyDivide op (register_of left) (register_of right)

abbrev pub move_from_of : MoveFromOp → (target : ℕ) → Instr
move_from_of op target = machine.MoveFrom op (register_of target)

-- Returns the instruction that copies a register to another one.
abbrev pub copy : (target source : ℕ) → Instr
copy target source = arithmetic_of arithmetic.AddUnsigned target source ZERO
