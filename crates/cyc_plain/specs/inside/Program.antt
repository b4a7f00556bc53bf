-- Plain programs as mathematical data. The form of plain programs, three-address code over numbered slots, is common in compilers. The
-- components of plain programs, and the numbers in the bounds on their code size, are this project's own choice.
use Rattle.std.specs.Prelude.{ℕ, suc, ◌+◌, ◌*◌, List, [], ◌∷◌, ◌++◌, length, map, sum_by, slice_index_or}
use Rattle.std.specs.List.{range_with_len}
use Rattle.cyc_words.specs.declared.span.Span.{Span}
use Rattle.cyc_plain.specs.declared.instruction.Instruction.{Instruction}
use Rattle.cyc_plain.specs.declared.instruction.Instruction.TheVariants as instructions
use Rattle.cyc_plain.specs.declared.instruction.BinaryOperator.{BinaryOperator}
use Rattle.cyc_plain.specs.declared.instruction.BinaryOperator.TheVariants as binary
use Rattle.cyc_plain.specs.declared.program.Function.{Function}
use Rattle.cyc_plain.specs.inside.Requests.{request_size}

-- A function of a plain program: the source position of its name, the counts of its parameter words, result words, slots and
-- frame words, and its code.
pub record Routine : Type 0 where
  pub name : Span
  pub parameters : ℕ
  pub results : ℕ
  pub slots : ℕ
  pub frame_count : ℕ
  pub code : List Instruction

-- A plain program: its functions, the initial words of its globals, and the index of the function that is called first.
pub record Program : Type 0 where
  pub functions : List Routine
  pub globals : List ℕ
  pub main : ℕ

abbrev pub routine_of : Function → Routine
routine_of f = record {
  name = f.name;
  parameters = f.parameters;
  results = f.results;
  slots = f.slots;
  frame_count = f.frame_count;
  code = f.code.items;
}

abbrev pub program_of : (functions : List Function) → (globals : List ℕ) → (main : ℕ) → Program
program_of functions globals main =
    record { functions = map routine_of functions; globals = globals; main = main }

-- An empty function, which stands for a function index that does not exist.
abbrev pub no_routine : Routine
no_routine = record {
  name = record { line = 0; column = 0 };
  parameters = 0;
  results = 0;
  slots = 0;
  frame_count = 0;
  code = [];
}

abbrev pub routine_at : Program → ℕ → Routine
routine_at program function = slice_index_or program.functions function no_routine

-- The size of an instruction is an upper bound of the words of its machine code. The bound allows two more words for each slot that the
-- instruction names, since register allocation saves and loads some slots. The size of a call includes words for each word passed.
abbrev pub operator_size : BinaryOperator → ℕ
operator_size binary.Divide = 18
operator_size binary.Remainder = 18
operator_size operator = 11

abbrev pub instruction_size : Instruction → ℕ
instruction_size (instructions.Move destination source) = 6
instruction_size (instructions.MoveWords destination source count) = 2 + 6 * count
instruction_size (instructions.Unary operator destination operand) = 7
instruction_size (instructions.Binary operator destination left right) = operator_size operator
instruction_size (instructions.Jump target) = 2
instruction_size (instructions.Branch comparison left right target) = 11
instruction_size (instructions.Call function arguments count result) = 22 + 4 * count
instruction_size (instructions.Return value) = 36
instruction_size (instructions.ReadByte destination) = 5
instruction_size (instructions.WriteByte source) = 5
instruction_size (instructions.AddressOf destination slot count) = 4
instruction_size (instructions.LoadGlobal destination global) = 6
instruction_size (instructions.StoreGlobal global source) = 5
instruction_size (instructions.Load destination address offset) = 10
instruction_size (instructions.Store address offset source) = 10
instruction_size (instructions.LoadByte destination address offset) = 10
instruction_size (instructions.StoreByte address offset source) = 10
instruction_size (instructions.Ask request) = request_size request
instruction_size (instructions.CountLexical destination) = 3
instruction_size (instructions.Try first handler) = 20
instruction_size (instructions.Leave first) = 5
instruction_size (instructions.Throw tag value) = 24
instruction_size (instructions.Finish value) = 36
instruction_size (instructions.Uncaught tag value) = 7
instruction_size (instructions.Enter function) = 6

abbrev pub size : Routine → ℕ
size r = sum_by instruction_size r.code

-- The position of an instruction in a program: its function, and its index in the code.
pub record CodePlace : Type 0 where
  pub function : ℕ
  pub index : ℕ

-- Returns the code positions of these functions, the first of which has the index `function`.
abbrev pub places_from : ℕ → List Routine → List CodePlace
places_from function [] = []
places_from function (r ∷ routines) =
    map (λ (i : ℕ). record { function = function; index = i }) (range_with_len 0 (length r.code))
    ++ places_from (suc function) routines

-- Returns all code positions of a program.
abbrev pub places_of : Program → List CodePlace
places_of program = places_from 0 program.functions
