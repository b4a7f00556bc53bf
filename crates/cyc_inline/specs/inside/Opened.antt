-- The definition of a function in which some calls are inlined.
use Rattle.std.specs.Prelude.{◌≡◌, ℕ, zero, suc, ◌+◌, ◌<◌, ◌≤◌, ◌⊎◌, Bool, true, false, not, if◌then◌else◌, List, [], ◌∷◌, ◌++◌, length, Option, Some, None, slice_get, slice_index_or}
use Rattle.std.specs.List.{AllByRecursion}
use Rattle.cyc_plain.specs.declared.instruction.Instruction.{Instruction}
use Rattle.cyc_plain.specs.declared.instruction.Instruction.TheVariants as instructions
use Rattle.cyc_plain.specs.declared.instruction.BinaryOperator.{BinaryOperator}
use Rattle.cyc_plain.specs.declared.instruction.BinaryOperator.TheVariants as binary
use Rattle.cyc_plain.specs.declared.instruction.Operand.{Operand}
use Rattle.cyc_plain.specs.declared.instruction.Operand.TheVariants as operands
use Rattle.cyc_plain.specs.inside.Memory.{pins, is_pinned}
use Rattle.cyc_plain.specs.inside.Program.{Routine, Program, routine_at}
use Rattle.cyc_plain.specs.inside.Straight.{At, HasAt}
use Rattle.cyc_plain.specs.inside.WellFormed.{leaves}
use Rattle.cyc_inline.specs.declared.origin.Origin.{Origin}
use Rattle.cyc_inline.specs.inside.Inlined.{IsLike}

-- The next definitions shift the slots and move the jump targets of an operand or an instruction. The slots of an inlined leaf function
-- are shifted by `shift`; the caller's slots are not (`shift` 0).
abbrev pub shifted_operand : (shift : ℕ) → Operand → Operand
shifted_operand shift (operands.Slot number) = operands.Slot (shift + number)
shifted_operand shift (operands.Word word) = operands.Word word

abbrev pub moved : (shift : ℕ) → (place : ℕ → ℕ) → Instruction → Instruction
moved shift place (instructions.Move destination source) = instructions.Move (shift + destination) (shifted_operand shift source)
moved shift place (instructions.MoveWords destination source count) = instructions.MoveWords (shift + destination) (shift + source) count
moved shift place (instructions.Unary operator destination operand) = instructions.Unary operator (shift + destination) (shifted_operand shift operand)
moved shift place (instructions.Binary operator destination left right) =
    instructions.Binary operator (shift + destination) (shifted_operand shift left) (shifted_operand shift right)
moved shift place (instructions.Jump target) = instructions.Jump (place target)
moved shift place (instructions.Branch comparison left right target) =
    instructions.Branch comparison (shifted_operand shift left) (shifted_operand shift right) (place target)
moved shift place (instructions.ReadByte destination) = instructions.ReadByte (shift + destination)
moved shift place (instructions.WriteByte source) = instructions.WriteByte (shifted_operand shift source)
moved shift place (instructions.LoadGlobal destination global) = instructions.LoadGlobal (shift + destination) global
moved shift place (instructions.StoreGlobal global source) = instructions.StoreGlobal global (shifted_operand shift source)
moved shift place (instructions.Load destination address offset) = instructions.Load (shift + destination) (shifted_operand shift address) offset
moved shift place (instructions.Store address offset source) = instructions.Store (shifted_operand shift address) offset (shifted_operand shift source)
moved shift place (instructions.LoadByte destination address offset) = instructions.LoadByte (shift + destination) (shifted_operand shift address) offset
moved shift place (instructions.StoreByte address offset source) = instructions.StoreByte (shifted_operand shift address) offset (shifted_operand shift source)
moved shift place (instructions.CountLexical destination) = instructions.CountLexical (shift + destination)
moved shift place (instructions.Throw tag value) = instructions.Throw (shifted_operand shift tag) (shifted_operand shift value)
moved shift place (instructions.Try first handler) = instructions.Try first (place handler)
moved shift place instruction = instruction

-- Returns true if a leaf function may contain the instruction: it opens no handler, calls no function, and takes no slot's address.
abbrev pub is_of_leaf : Instruction → Bool
is_of_leaf (instructions.Call function arguments count result) = false
is_of_leaf (instructions.Enter function) = false
is_of_leaf (instructions.AddressOf destination slot count) = false
is_of_leaf (instructions.Ask request) = false
is_of_leaf (instructions.Try first handler) = false
is_of_leaf (instructions.Leave first) = false
is_of_leaf (instructions.Uncaught tag value) = false
is_of_leaf instruction = true

-- The instructions that move `count` words from slots at `source` to slots at `destination`, one by one.
abbrev pub passing : (destination source count : ℕ) → List Instruction
passing destination source zero = []
passing destination source (suc count) =
    instructions.Move destination (operands.Slot source) ∷ passing (destination + 1) (source + 1) count

abbrev pub is_end : Instruction → Option ℕ
is_end (instructions.Return value) = Some value
is_end (instructions.Finish value) = Some value
is_end instruction = None

-- ---- the origins of the code

-- An instruction of the source program, from which one or more instructions of the inlined program are made.
abbrev pub origin_at : (function index : ℕ) → Origin
origin_at function index = record { function = function; index = index }

-- Says that each of the `count` instructions from code position `from` on is made from the given source instruction.
abbrev pub AreMadeOf : List Origin → (from count : ℕ) → Origin → Type 0
AreMadeOf origins from count origin = (k : ℕ) → k < count → slice_get origins (from + k) ≡ Some origin

-- Says that control passes from one code position to another: the positions are equal, or a jump instruction at the first
-- leads to the second.
abbrev pub GoesTo : List Instruction → List Origin → (from to : ℕ) → Origin → Type 0
GoesTo code origins from to origin = (from ≡ to) ⊎ (At code from (instructions.Jump to) × AreMadeOf origins from 1 origin)

-- Says that the caller's code contains the replacement of an instruction of an inlined leaf function. The replacement is the
-- instruction with its slots shifted; for a return it is moves of the results and a jump after the call.
abbrev pub StandsInside : (code : List Instruction) → List Origin → (shift result results following callee : ℕ) → (place : ℕ → ℕ) → (index : ℕ) → Instruction → Option ℕ → Type 0
StandsInside code origins shift result results following callee place index i (Some value) =
    HasAt code (place index) (passing result (shift + value) results)
    × AreMadeOf origins (place index) results (origin_at callee index)
    × GoesTo code origins (place index + results) following (origin_at callee index)
StandsInside code origins shift result results following callee place index i None =
    At code (place index) (moved shift place i)
    × AreMadeOf origins (place index) 1 (origin_at callee index)
    × (leaves i ≡ false → GoesTo code origins (place index + 1) (place (index + 1)) (origin_at callee index))

-- Says that a call is inlined: its arguments are moved to extra slots, stack space is checked, and the callee's code follows.
pub record IsSite (program : Program) (s : Routine) (origins : List Origin) (shift function index here following callee arguments count result : ℕ) : Type 0 where
  pub place : ℕ → ℕ
  pub room : shift + (routine_at program callee).slots ≤ s.slots
  pub entry : HasAt s.code here (passing shift arguments count ++ instructions.Enter callee ∷ [])
  pub made : AreMadeOf origins here (count + 1) (origin_at function index)
  pub first : place 0 ≡ here + count + 1
  pub leaf : AllByRecursion (λ (i : Instruction). is_of_leaf i ≡ true) (routine_at program callee).code
  pub body : (k : ℕ) (i : Instruction) → slice_get (routine_at program callee).code k ≡ Some i
      → StandsInside s.code origins shift result (routine_at program callee).results following callee place k i (is_end i)

-- ---- duplicates

-- An instruction that computes or loads a word may be duplicated just before it, with an extra slot as destination. A division may not be
-- duplicated, because it can fail.
abbrev pub is_division : BinaryOperator → Bool
is_division binary.Divide = true
is_division binary.Remainder = true
is_division operator = false

abbrev pub may_have_duplicate : Instruction → Bool
may_have_duplicate (instructions.Binary operator destination left right) = not (is_division operator)
may_have_duplicate (instructions.LoadGlobal destination global) = true
may_have_duplicate (instructions.Load destination address offset) = true
may_have_duplicate instruction = false

-- A copy of an instruction with another destination slot.
abbrev pub duplicate : (slot : ℕ) → Instruction → Instruction
duplicate slot (instructions.Binary operator destination left right) = instructions.Binary operator slot left right
duplicate slot (instructions.LoadGlobal destination global) = instructions.LoadGlobal slot global
duplicate slot (instructions.Load destination address offset) = instructions.Load slot address offset
duplicate slot instruction = instruction

-- Says that an instruction duplicates another one and writes a slot that the source function does not have.
pub record IsDuplicate (given slots : ℕ) (i j : Instruction) : Type 0 where
  pub slot : ℕ
  pub further : given ≤ slot
  pub room : slot < slots
  pub may : may_have_duplicate i ≡ true
  pub is : j ≡ duplicate slot i

-- ---- hoisted instructions

-- Returns true if hoisted instructions may precede an instruction that is not an inlined call, that is, if
-- control can continue after the instruction.
abbrev pub may_follow_hoisted : Instruction → Bool
may_follow_hoisted (instructions.Move destination source) = true
may_follow_hoisted (instructions.MoveWords destination source count) = true
may_follow_hoisted (instructions.Unary operator destination operand) = true
may_follow_hoisted (instructions.Binary operator destination left right) = true
may_follow_hoisted (instructions.Branch comparison left right target) = true
may_follow_hoisted (instructions.ReadByte destination) = true
may_follow_hoisted (instructions.WriteByte source) = true
may_follow_hoisted (instructions.LoadGlobal destination global) = true
may_follow_hoisted (instructions.StoreGlobal global source) = true
may_follow_hoisted (instructions.Load destination address offset) = true
may_follow_hoisted (instructions.Store address offset source) = true
may_follow_hoisted (instructions.LoadByte destination address offset) = true
may_follow_hoisted (instructions.StoreByte address offset source) = true
may_follow_hoisted instruction = false

-- The slot that an instruction writes if it may be hoisted. A hoisted instruction cannot fail.
abbrev pub preceded_slot : Instruction → Option ℕ
preceded_slot (instructions.Move destination source) = Some destination
preceded_slot (instructions.Binary operator destination left right) = if is_division operator then None else Some destination
preceded_slot (instructions.LoadGlobal destination global) = Some destination
preceded_slot instruction = None

-- Says that an instruction is hoisted: it cannot fail and writes a slot that the source function does not have.
pub record IsHoisted (given slots : ℕ) (j : Instruction) : Type 0 where
  pub slot : ℕ
  pub further : given ≤ slot
  pub room : slot < slots
  pub is : preceded_slot j ≡ Some slot

-- Says that an instruction may be inserted before another one: it is a hoisted instruction or a duplicate of the other one.
abbrev pub MayPrecede : (given slots : ℕ) → (i j : Instruction) → Type 0
MayPrecede given slots i j = IsHoisted given slots j ⊎ IsDuplicate given slots i j

-- Says that an instruction is preceded by hoisted instructions and possibly by its duplicate.
pub record IsPreceded (r s : Routine) (origins : List Origin) (function : ℕ) (place : ℕ → ℕ) (index : ℕ) (i : Instruction) : Type 0 where
  pub front : List Instruction
  pub each : AllByRecursion (MayPrecede r.slots s.slots i) front
  pub may : may_follow_hoisted i ≡ true
  pub at : HasAt s.code (place index) (front ++ moved 0 place i ∷ [])
  pub made : AreMadeOf origins (place index) (suc (length front)) (origin_at function index)
  pub next : place (index + 1) ≡ place index + suc (length front)

-- Says that the code contains the replacement of a caller's instruction: the instruction itself, perhaps with inserted
-- instructions before it, or the callee's code in place of a call.
abbrev pub StandsFor : Program → (r s : Routine) → List Origin → (function : ℕ) → (place : ℕ → ℕ) → (index : ℕ) → Instruction → Type 0
StandsFor program r s origins function place index (instructions.Call callee arguments count result) =
    (At s.code (place index) (instructions.Call callee arguments count result) × AreMadeOf origins (place index) 1 (origin_at function index)
    × (place (index + 1) ≡ place index + 1))
    ⊎ IsSite program s origins r.slots function index (place index) (place (index + 1)) callee arguments count result
StandsFor program r s origins function place index i =
    (At s.code (place index) (moved 0 place i) × AreMadeOf origins (place index) 1 (origin_at function index)
    × (leaves i ≡ false → place (index + 1) ≡ place index + 1))
    ⊎ IsPreceded r s origins function place index i

-- Says that a function has some of its calls inlined. Each instruction of the result is made from an instruction of the function
-- or of an inlined leaf function.
pub record IsOpened (program : Program) (function : ℕ) (r s : Routine) (origins : List Origin) : Type 0 where
  pub like : IsLike r s
  pub as_many : length origins ≡ length s.code
  pub place : ℕ → ℕ
  pub first : place 0 ≡ 0
  pub stands : (index : ℕ) (i : Instruction) → slice_get r.code index ≡ Some i → StandsFor program r s origins function place index i
  -- Each slot whose address the new code takes has its address taken in the source function too.
  pub pinned : (p : ℕ) (i : Instruction) → At s.code p i → (slot : ℕ) → pins i slot ≡ true → is_pinned r.code slot ≡ true

-- The source instructions from which a function's instructions are made, by the function's index.
abbrev pub origins_of : List (List Origin) → (function : ℕ) → List Origin
origins_of origins function = slice_index_or origins function []

-- Says that in a program some calls of the source program are inlined.
pub record AreOpened (program inlined : Program) (origins : List (List Origin)) : Type 0 where
  pub as_many : length inlined.functions ≡ length program.functions
  pub all_reported : length origins ≡ length program.functions
  pub each : (k : ℕ) → k < length program.functions → IsOpened program k (routine_at program k) (routine_at inlined k) (origins_of origins k)
  pub globals : inlined.globals ≡ program.globals
  pub main : inlined.main ≡ program.main
