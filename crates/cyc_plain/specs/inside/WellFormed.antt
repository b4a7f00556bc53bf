-- A well-formed plain program: all slots, jump targets, globals and functions that its instructions name exist, and the size
-- of its frames is within the limit.
use Rattle.std.specs.Prelude.{◌≡◌, ◌≢◌, ℕ, ◌+◌, ◌-◌, ◌<◌, ◌≤◌, Bool, true, false, length, sum_by, All, IsSomeAnd, Option, Some, None, slice_get}
use Rattle.cyc_words.specs.Word.{IsWord, add_of}
use Rattle.cyc_words.specs.Bytes.{word_of}
use Rattle.cyc_store.specs.Services.{Call, Refusal, Full, refusal}
use Rattle.cyc_plain.specs.declared.instruction.Instruction.{Instruction}
use Rattle.cyc_plain.specs.declared.instruction.Instruction.TheVariants as instructions
use Rattle.cyc_plain.specs.declared.instruction.Operand.{Operand}
use Rattle.cyc_plain.specs.declared.instruction.Operand.TheVariants as operands
use Rattle.cyc_plain.specs.inside.Operators.{has_no_result}
use Rattle.cyc_plain.specs.declared.instruction.BinaryOperator.{BinaryOperator}
use Rattle.cyc_plain.specs.declared.instruction.Request.{Request}
use Rattle.cyc_plain.specs.inside.Requests.{first_operand, second_operand, answer_count, destination_of}
use Rattle.cyc_plain.specs.inside.State.{Configuration, State, Running, Ended, Stuck, place_of}
use Rattle.cyc_plain.specs.inside.Memory.{memory_at}
use Rattle.cyc_plain.specs.inside.Step.{operand_word, instruction_at, asked}
use Rattle.cyc_plain.specs.inside.Program.{Routine, Program, routine_at, size}
use Rattle.cyc_plain.specs.declared.limits.TheConstants.{LAYOUT_WORDS, GREATEST_VALUE, MOST_GLOBALS, MOST_SIZE, RECORD_WORDS}

-- `HasSlots` says that the `count` slots from `first` on are slots of the function.
abbrev pub HasSlots : Routine → (first count : ℕ) → Type 0
HasSlots r first count = first + count ≤ r.slots

-- `IsCallInRange` says that the callee exists and takes the number of words passed. The argument slots and the slots that receive the
-- results exist.
pub record IsCallInRange (program : Program) (r : Routine) (function arguments count result : ℕ) : Type 0 where
  pub function_in_range : function < length program.functions
  pub takes : count ≡ (routine_at program function).parameters
  pub arguments_in_range : HasSlots r arguments count
  pub result_in_range : HasSlots r result (routine_at program function).results

-- `IsOperand` says that an operand is a constant word or a slot of the function.
abbrev pub IsOperand : Routine → Operand → Type 0
IsOperand r (operands.Slot number) = number < r.slots
IsOperand r (operands.Word word) = Unit {0}

-- `IsMoveInRange` says that the slots of a move of several words exist, and that the move copies no more words than a value can have.
pub record IsMoveInRange (r : Routine) (destination source count : ℕ) : Type 0 where
  pub some : 0 < count
  pub few : count ≤ GREATEST_VALUE
  pub destination_in_range : HasSlots r destination count
  pub source_in_range : HasSlots r source count

-- The record of a handler consists of slots of the function, and the handler's target is in the code. A function with
-- handlers returns only by `Finish`.
abbrev pub is_return : Instruction → Bool
is_return (instructions.Return value) = true
is_return instruction = false

pub record IsTryInRange (r : Routine) (first handler : ℕ) : Type 0 where
  pub record_in_range : HasSlots r first RECORD_WORDS
  pub handler_in_range : handler < length r.code
  pub no_return : All (λ i. is_return i ≡ false) r.code

-- An optional operand.
abbrev pub IsArgument : Routine → Option Operand → Type 0
IsArgument r (Some operand) = IsOperand r operand
IsArgument r None = Unit {0}

-- `IsRequestInRange` says that the operands of a request and the slots that receive its result exist.
pub record IsRequestInRange (r : Routine) (request : Request) : Type 0 where
  pub answer_in_range : HasSlots r (destination_of request) (answer_count request)
  pub first_in_range : IsArgument r (first_operand request)
  pub second_in_range : IsArgument r (second_operand request)

-- `IsInRange` says that the slots, targets, globals and functions that an instruction names exist.
abbrev pub IsInRange : Program → Routine → Instruction → Type 0
IsInRange program r (instructions.Move destination source) = (destination < r.slots) × IsOperand r source
IsInRange program r (instructions.MoveWords destination source count) = IsMoveInRange r destination source count
IsInRange program r (instructions.Unary operator destination operand) =
    (destination < r.slots) × IsOperand r operand
IsInRange program r (instructions.Binary operator destination left right) =
    (destination < r.slots) × IsOperand r left × IsOperand r right
IsInRange program r (instructions.Jump target) = target < length r.code
IsInRange program r (instructions.Branch comparison left right target) =
    IsOperand r left × IsOperand r right × (target < length r.code)
IsInRange program r (instructions.Call function arguments count result) =
    IsCallInRange program r function arguments count result
IsInRange program r (instructions.Return value) = HasSlots r value r.results
IsInRange program r (instructions.ReadByte destination) = destination < r.slots
IsInRange program r (instructions.WriteByte source) = IsOperand r source
IsInRange program r (instructions.AddressOf destination slot count) =
    (destination < r.slots) × (0 < count) × HasSlots r slot count
IsInRange program r (instructions.LoadGlobal destination global) =
    (destination < r.slots) × (global < length program.globals)
IsInRange program r (instructions.StoreGlobal global source) =
    (global < length program.globals) × IsOperand r source
IsInRange program r (instructions.Load destination address offset) = (destination < r.slots) × IsOperand r address
IsInRange program r (instructions.Store address offset source) = IsOperand r address × IsOperand r source
IsInRange program r (instructions.LoadByte destination address offset) = (destination < r.slots) × IsOperand r address
IsInRange program r (instructions.StoreByte address offset source) = IsOperand r address × IsOperand r source
IsInRange program r (instructions.Ask request) = IsRequestInRange r request
IsInRange program r (instructions.CountLexical destination) = destination < r.slots
IsInRange program r (instructions.Try first handler) = IsTryInRange r first handler
IsInRange program r (instructions.Leave first) = HasSlots r first RECORD_WORDS
IsInRange program r (instructions.Throw tag value) = IsOperand r tag × IsOperand r value
IsInRange program r (instructions.Finish value) = HasSlots r value r.results
IsInRange program r (instructions.Uncaught tag value) = IsOperand r value
IsInRange program r (instructions.Enter function) = function < length program.functions

-- Returns true if control never passes from an instruction to the next one in the code.
abbrev pub leaves : Instruction → Bool
leaves (instructions.Jump target) = true
leaves (instructions.Return value) = true
leaves (instructions.Throw tag value) = true
leaves (instructions.Finish value) = true
leaves (instructions.Uncaught tag value) = true
leaves instruction = false

-- `IsRoutine` says that a function is well-formed: its parameters are slots, and its result is at most one value. The function's frame
-- has space for the slots and for the words that `layout` adds. All slots, jump targets, globals and functions that the function's
-- instructions name exist, and its last instruction never falls through.
pub record IsRoutine (program : Program) (r : Routine) : Type 0 where
  pub parameters : r.parameters ≤ r.slots
  pub results : r.results ≤ GREATEST_VALUE
  pub frame : r.slots + LAYOUT_WORDS ≤ r.frame_count
  pub instructions : All (IsInRange program r) r.code
  pub last : IsSomeAnd (slice_get r.code (length r.code - 1)) (λ i. leaves i ≡ true)

-- `IsWellFormed` says that a program's functions are well-formed, `main` is a function that takes nothing and returns one word, and
-- the number of globals is within the limit.
pub record IsWellFormed (program : Program) : Type 0 where
  pub functions : All (IsRoutine program) program.functions
  pub main : program.main < length program.functions
  pub main_parameters : (routine_at program program.main).parameters ≡ 0
  pub main_results : (routine_at program program.main).results ≡ 1
  pub globals : length program.globals ≤ MOST_GLOBALS

-- The numbers in a program fit machine words: its constant operands, its exception tags, and the initial values of its globals.
abbrev pub IsOfWord : Operand → Type 0
IsOfWord (operands.Slot number) = Unit {0}
IsOfWord (operands.Word word) = IsWord word

abbrev pub IsArgumentOfWord : Option Operand → Type 0
IsArgumentOfWord (Some operand) = IsOfWord operand
IsArgumentOfWord None = Unit {0}

abbrev pub HasWord : Instruction → Type 0
HasWord (instructions.Move destination source) = IsOfWord source
HasWord (instructions.Unary operator destination operand) = IsOfWord operand
HasWord (instructions.Binary operator destination left right) = IsOfWord left × IsOfWord right
HasWord (instructions.Branch comparison left right target) = IsOfWord left × IsOfWord right
HasWord (instructions.WriteByte source) = IsOfWord source
HasWord (instructions.StoreGlobal global source) = IsOfWord source
HasWord (instructions.Load destination address offset) = IsOfWord address × IsWord offset
HasWord (instructions.Store address offset source) = IsOfWord address × IsWord offset × IsOfWord source
HasWord (instructions.LoadByte destination address offset) = IsOfWord address × IsWord offset
HasWord (instructions.StoreByte address offset source) = IsOfWord address × IsWord offset × IsOfWord source
HasWord (instructions.Ask request) = IsArgumentOfWord (first_operand request) × IsArgumentOfWord (second_operand request)
HasWord (instructions.Throw tag value) = IsOfWord tag × IsOfWord value
HasWord (instructions.Uncaught tag value) = IsWord tag × IsOfWord value
HasWord instruction = Unit {0}

pub record HasWords (program : Program) : Type 0 where
  pub functions : All (λ r. All HasWord r.code) program.functions
  pub globals : All IsWord program.globals

-- `IsPlain`, the invariant of the type `Plain`, says that the program is well-formed, its numbers
-- fit machine words, and its code is within the size limit.
pub record IsPlain (program : Program) : Type 0 where
  pub well_formed : IsWellFormed program
  pub words : HasWords program
  pub small : sum_by size program.functions ≤ MOST_SIZE

-- `DividesByZero` says that the next instruction divides by 0.
abbrev pub DividesByZero : Program → State → Type 0
DividesByZero program (Running c) =
    (operator : BinaryOperator) × (destination : ℕ) × (left : Operand) × (right : Operand)
    × (instruction_at program (place_of (Running c)) ≡ Some (instructions.Binary operator destination left right))
    × (has_no_result operator (operand_word c.active.slots right) ≡ true)
DividesByZero program (Ended ending output input) = ⊥
DividesByZero program (Stuck output input) = ⊥

-- `AsksAt` says that an instruction accesses the word of memory at this address, or a byte of it.
abbrev pub AsksAt : Configuration → (address : ℕ) → Instruction → Type 0
AsksAt c address (instructions.Load destination base offset) =
    add_of (operand_word c.active.slots base) offset ≡ address
AsksAt c address (instructions.Store base offset source) = add_of (operand_word c.active.slots base) offset ≡ address
AsksAt c address (instructions.LoadByte destination base offset) =
    word_of (add_of (operand_word c.active.slots base) offset) ≡ address
AsksAt c address (instructions.StoreByte base offset source) =
    word_of (add_of (operand_word c.active.slots base) offset) ≡ address
AsksAt c address instruction = ⊥

-- `AsksForNoWord` says that the next instruction accesses an address at which memory has no word.
abbrev pub AsksForNoWord : Program → State → Type 0
AsksForNoWord program (Running c) =
    (i : Instruction) × (address : ℕ) × (instruction_at program (place_of (Running c)) ≡ Some i) × AsksAt c address i
    × (memory_at program c address ≡ None)
AsksForNoWord program (Ended ending output input) = ⊥
AsksForNoWord program (Stuck output input) = ⊥

-- `AsksInVain` says that the next instruction makes a request that the store refuses for a reason other than lack of memory.
abbrev pub AsksInVain : Program → State → Type 0
AsksInVain program (Running c) =
    (call : Call) × (why : Refusal) × (asked program (Running c) ≡ Some call) × (refusal c.store call ≡ Some why)
    × (why ≢ Full)
AsksInVain program (Ended ending output input) = ⊥
AsksInVain program (Stuck output input) = ⊥

-- Returns true if an instruction closes a handler, throws, or returns from a function with handlers.
abbrev pub is_of_handlers : Instruction → Bool
is_of_handlers (instructions.Leave first) = true
is_of_handlers (instructions.Throw tag value) = true
is_of_handlers (instructions.Finish value) = true
is_of_handlers instruction = false

abbrev pub AsksForHandlers : Program → State → Type 0
AsksForHandlers program (Running c) =
    (i : Instruction) × (instruction_at program (place_of (Running c)) ≡ Some i) × (is_of_handlers i ≡ true)
AsksForHandlers program (Ended ending output input) = ⊥
AsksForHandlers program (Stuck output input) = ⊥
