-- Straight-line code consists of instructions without jumps. The final configuration of straight-line code is a function of the initial
-- one. A proof about a pass that emits straight-line code need not treat each instruction.
use Rattle.std.specs.Prelude.{◌≡◌, ℕ, zero, suc, ◌+◌, Bool, true, false, List, [], ◌∷◌, Some, slice_get}
use Rattle.cyc_plain.specs.declared.instruction.Instruction.{Instruction}
use Rattle.cyc_plain.specs.declared.instruction.Instruction.TheVariants as instructions
use Rattle.cyc_plain.specs.declared.instruction.BinaryOperator.{BinaryOperator}
use Rattle.cyc_plain.specs.declared.instruction.BinaryOperator.TheVariants as binary
use Rattle.cyc_plain.specs.inside.Program.{Program, CodePlace}
use Rattle.cyc_plain.specs.inside.State.{Configuration, State, Running, Ended, Stuck}
use Rattle.cyc_plain.specs.inside.Step.{Choice, performed}

-- `At` says that the code contains this instruction at this index.
abbrev pub At : List Instruction → ℕ → Instruction → Type 0
At code p i = slice_get code p ≡ Some i

abbrev pub HasAt : List Instruction → ℕ → List Instruction → Type 0
HasAt code p [] = Unit {0}
HasAt code p (i ∷ is) = At code p i × HasAt code (p + 1) is

-- Returns true if an operator has a result for all words: it is no division or remainder.
abbrev pub is_total : BinaryOperator → Bool
is_total binary.Divide = false
is_total binary.Remainder = false
is_total operator = true

-- Returns true if control passes from an instruction only to the next one.
abbrev pub is_straight : Instruction → Bool
is_straight (instructions.Move destination source) = true
is_straight (instructions.MoveWords destination source count) = true
is_straight (instructions.Unary operator destination operand) = true
is_straight (instructions.Binary operator destination left right) = is_total operator
is_straight (instructions.ReadByte destination) = true
is_straight (instructions.WriteByte source) = true
is_straight (instructions.AddressOf destination slot count) = true
is_straight (instructions.LoadGlobal destination global) = true
is_straight (instructions.StoreGlobal global source) = true
is_straight (instructions.CountLexical destination) = true
is_straight instruction = false

abbrev pub AreStraight : List Instruction → Type 0
AreStraight [] = Unit {0}
AreStraight (i ∷ is) = (is_straight i ≡ true) × AreStraight is

-- Returns the configuration of a running state, otherwise the default configuration `other`.
abbrev pub configuration_or : State → Configuration → Configuration
configuration_or (Running c) other = c
configuration_or (Ended ending output input) other = other
configuration_or (Stuck output input) other = other

-- Returns the configuration after straight-line code, which does not depend on the values that the steps choose.
abbrev pub executed_in : Program → Choice → Configuration → List Instruction → Configuration
executed_in program choice c [] = c
executed_in program choice c (i ∷ is) =
    executed_in program choice (configuration_or (performed program choice c i) c) is

-- Returns the `count` code positions of a function from `index` on.
abbrev pub places_after : (function index count : ℕ) → List CodePlace
places_after function index zero = []
places_after function index (suc count) =
    record { function = function; index = index } ∷ places_after function (index + 1) count
