-- The replacement of an instruction under known facts has exactly the effect of the original, if the facts are true.
use Rattle.std.specs.Prelude.{ℕ, ◌+◌, Bool, true, false, nat_lt, bit_and, bit_or, bit_xor, ◌&&◌, ◌||◌, not, if◌then◌else◌, List, [], ◌∷◌, Option, Some, None, unwrap_or}
use Rattle.cyc_words.specs.Word.{add_of, sub_of, mul_of, shl_of, sar_of}
use Rattle.cyc_plain.specs.declared.instruction.Instruction.{Instruction}
use Rattle.cyc_plain.specs.declared.instruction.Instruction.TheVariants as instructions
use Rattle.cyc_plain.specs.declared.instruction.Operand.{Operand}
use Rattle.cyc_plain.specs.declared.instruction.Operand.TheVariants as operands
use Rattle.cyc_plain.specs.declared.instruction.Request.{Request}
use Rattle.cyc_plain.specs.declared.instruction.Request.TheVariants as requests
use Rattle.cyc_plain.specs.declared.instruction.UnaryOperator.{UnaryOperator}
use Rattle.cyc_plain.specs.declared.instruction.BinaryOperator.{BinaryOperator}
use Rattle.cyc_plain.specs.declared.instruction.BinaryOperator.TheVariants as binary
use Rattle.cyc_plain.specs.declared.instruction.Comparison.{Comparison}
use Rattle.cyc_plain.specs.declared.instruction.Comparison.TheVariants as comparisons
use Rattle.cyc_plain.specs.inside.Operators.{unary_result}
use Rattle.cyc_plain.specs.inside.Uses.{is_slot}
use Rattle.cyc_propagation.specs.declared.fact.Fact.{Fact}
use Rattle.cyc_propagation.specs.declared.fact.Fact.TheVariants as facts_are
use Rattle.cyc_propagation.specs.inside.Facts.{is_same_operator, is_same_word, is_same_comparison, is_same_operand, is_known, is_unreached, first_global, global_offset, negated}

-- ---- operands

-- Returns true if reading an operand costs no more instructions than reading a slot.
abbrev pub is_cheap : Operand → Bool
is_cheap (operands.Slot number) = true
is_cheap (operands.Word word) = false

-- Returns the operand that a fact offers as a replacement of an operand, if it offers one.
abbrev pub instead : Fact → Operand → Option Operand
instead (facts_are.Equal slot other) operand = if is_slot operand slot && is_cheap other then Some other else None
instead fact operand = None

abbrev pub simplified_operand : List Fact → Operand → Operand
simplified_operand [] operand = operand
simplified_operand (fact ∷ facts) operand = unwrap_or (instead fact operand) (simplified_operand facts operand)

-- ---- words

abbrev pub or_number : Option ℕ → Option ℕ → Option ℕ
or_number (Some number) other = Some number
or_number None other = other

abbrev pub own_word : Operand → Option ℕ
own_word (operands.Slot number) = None
own_word (operands.Word word) = Some word

-- Returns the word that an operand denotes, if this fact states it.
abbrev pub word_by : Fact → Operand → Option ℕ
word_by (facts_are.Equal slot (operands.Word word)) operand = if is_slot operand slot then Some word else None
word_by fact operand = None

abbrev pub word_in : List Fact → Operand → Option ℕ
word_in [] operand = own_word operand
word_in (fact ∷ facts) operand = or_number (word_by fact operand) (word_in facts operand)

-- Returns true if this operator's machine instruction can contain a small constant as its second operand, so that the constant needs no
-- extra instruction.
abbrev pub takes_word : BinaryOperator → Bool
takes_word binary.And = true
takes_word binary.Or = true
takes_word binary.Xor = true
takes_word binary.ShiftLeft = true
takes_word binary.ShiftRight = true
takes_word operator = false

abbrev pub small_or : Option ℕ → Operand → Operand
small_or (Some word) operand = if nat_lt word 32768 then operands.Word word else operand
small_or None operand = operand

-- Returns an operand that equals an operator's second operand and costs no more instructions.
abbrev pub right_operand : List Fact → BinaryOperator → Operand → Operand
right_operand facts operator operand = if takes_word operator then small_or (word_in facts operand) operand else operand

-- Returns the result of an operator on two words, or `None` if it has none.
abbrev pub folded : BinaryOperator → (left right : ℕ) → Option ℕ
folded binary.Add left right = Some (add_of left right)
folded binary.Subtract left right = Some (sub_of left right)
folded binary.Multiply left right = Some (mul_of left right)
folded binary.And left right = Some (bit_and left right)
folded binary.Or left right = Some (bit_or left right)
folded binary.Xor left right = Some (bit_xor left right)
folded binary.ShiftLeft left right = Some (shl_of left right)
folded binary.ShiftRight left right = Some (sar_of left right)
folded operator left right = None

abbrev pub folded_of : BinaryOperator → (left right : Option ℕ) → Option ℕ
folded_of operator (Some left) (Some right) = folded operator left right
folded_of operator left right = None

-- Returns the result of an operator on two operands whose words are known. If the list of facts is empty, no operator is folded.
abbrev pub folded_in : List Fact → BinaryOperator → (left right : Operand) → Option ℕ
folded_in [] operator left right = None
folded_in (fact ∷ facts) operator left right = folded_of operator (word_in (fact ∷ facts) left) (word_in (fact ∷ facts) right)

abbrev pub negated_of : UnaryOperator → Option ℕ → Option ℕ
negated_of operator (Some word) = Some (unary_result operator word)
negated_of operator None = None

-- Returns the result of an operator on one operand whose word is known.
abbrev pub folded_unary : List Fact → UnaryOperator → Operand → Option ℕ
folded_unary [] operator operand = None
folded_unary (fact ∷ facts) operator operand = negated_of operator (word_in (fact ∷ facts) operand)

abbrev pub simplified_unary : Option ℕ → UnaryOperator → (destination : ℕ) → Operand → Instruction
simplified_unary (Some word) operator destination operand = instructions.Move destination (operands.Word word)
simplified_unary None operator destination operand = instructions.Unary operator destination operand

-- Returns true if constant folding of an operator loses no fact about how its result was computed: its left operand is constant, or
-- it overwrites an operand. An operator of any other form is not folded (replaced by its constant result), so that the fact about
-- how its result was computed is recorded. With such facts, a value that a loop recomputes from the same slots as the code before
-- the loop is known at the loop's header.
abbrev pub may_fold : (destination : ℕ) → (left right : Operand) → Bool
may_fold destination left right = not (is_cheap left) || (is_slot left destination || is_slot right destination)

abbrev pub folded_at : List Fact → BinaryOperator → (destination : ℕ) → (left right : Operand) → Option ℕ
folded_at facts operator destination left right =
    if may_fold destination left right then folded_in facts operator left right else None

-- ---- known results

-- Returns true if an operator compares a truth value with 0 by `!=`, so that its result is the truth value.
abbrev pub is_truth_test : Comparison → (bound : Operand) → BinaryOperator → (right : Operand) → Bool
is_truth_test comparison bound operator right =
    is_same_comparison comparison comparisons.LessUnsigned
    && (is_same_operand bound (operands.Word 2) && (is_same_operator operator binary.NotEqual && is_same_operand right (operands.Word 0)))

abbrev pub own_slot : Operand → Option ℕ
own_slot (operands.Slot number) = Some number
own_slot (operands.Word word) = None

-- Returns the slot that already contains a result, if this fact states one.
abbrev pub holder : Fact → BinaryOperator → (left right : Operand) → Option ℕ
holder (facts_are.Computed slot other left_2 right_2) operator left right =
    if is_same_operator other operator && (is_same_operand left_2 left && is_same_operand right_2 right) then Some slot else None
holder (facts_are.Holds comparison left_2 bound) operator left right =
    if is_same_operand left_2 left && is_truth_test comparison bound operator right then own_slot left_2 else None
holder fact operator left right = None

abbrev pub or_slot : Option ℕ → Option ℕ → Option ℕ
or_slot (Some slot) other = Some slot
or_slot None other = other

abbrev pub holder_in : List Fact → BinaryOperator → (left right : Operand) → Option ℕ
holder_in [] operator left right = None
holder_in (fact ∷ facts) operator left right = or_slot (holder fact operator left right) (holder_in facts operator left right)

abbrev pub simplified_binary : (folded holder : Option ℕ) → BinaryOperator → (destination : ℕ) → (left right : Operand) → Instruction
simplified_binary (Some word) holder operator destination left right = instructions.Move destination (operands.Word word)
simplified_binary None (Some slot) operator destination left right = instructions.Move destination (operands.Slot slot)
simplified_binary None None operator destination left right = instructions.Binary operator destination left right

abbrev pub simplified_of : List Fact → BinaryOperator → (destination : ℕ) → (left right : Operand) → Instruction
simplified_of facts operator destination left right =
    simplified_binary (folded_at facts operator destination left right) (holder_in facts operator left right) operator destination left right

-- ---- moves

abbrev pub simplified_move : (is_there : Bool) → (destination : ℕ) → Operand → Instruction
simplified_move true destination source = instructions.Move destination (operands.Slot destination)
simplified_move false destination source = instructions.Move destination source

-- Returns true if the comparison `known` implies the comparison `asked`, for all words.
abbrev pub implies : (known asked : Comparison) → Bool
implies comparisons.Equal comparisons.LessOrEqual = true
implies comparisons.Equal comparisons.GreaterOrEqual = true
implies comparisons.Equal comparisons.GreaterOrEqualUnsigned = true
implies comparisons.Less comparisons.NotEqual = true
implies comparisons.Less comparisons.LessOrEqual = true
implies comparisons.Greater comparisons.NotEqual = true
implies comparisons.Greater comparisons.GreaterOrEqual = true
implies comparisons.LessUnsigned comparisons.NotEqual = true
implies known asked = is_same_comparison known asked

-- Returns the outcome of the comparison `asked`, if the comparison `known` decides it.
abbrev pub verdict : (known asked : Comparison) → Option Bool
verdict known asked = if implies known asked then Some true else if implies known (negated asked) then Some false else None

abbrev pub decision : Fact → Comparison → (left right : Operand) → Option Bool
decision (facts_are.Holds known left_2 right_2) comparison left right =
    if is_same_operand left_2 left && is_same_operand right_2 right then verdict known comparison else None
decision fact comparison left right = None

abbrev pub or_verdict : Option Bool → Option Bool → Option Bool
or_verdict (Some holds) other = Some holds
or_verdict None other = other

abbrev pub decision_in : List Fact → Comparison → (left right : Operand) → Option Bool
decision_in [] comparison left right = None
decision_in (fact ∷ facts) comparison left right = or_verdict (decision fact comparison left right) (decision_in facts comparison left right)

-- Returns the replacement of a branch that is never taken: a move from a slot to the same slot, which also has no effect and has
-- a smaller size. If the branch compares two constants, its replacement is another branch that is never taken.
abbrev pub passed_by : (left right : Operand) → (target : ℕ) → Instruction
passed_by (operands.Slot number) right target = instructions.Move number (operands.Slot number)
passed_by (operands.Word word) (operands.Slot number) target = instructions.Move number (operands.Slot number)
passed_by (operands.Word word) (operands.Word other) target =
    instructions.Branch comparisons.NotEqual (operands.Word 0) (operands.Word 0) target

abbrev pub simplified_branch : Option Bool → Comparison → (left right : Operand) → (target : ℕ) → Instruction
simplified_branch (Some true) comparison left right target = instructions.Jump target
simplified_branch (Some false) comparison left right target = passed_by left right target
simplified_branch None comparison left right target = instructions.Branch comparison left right target

-- ---- loads

-- Returns the word that memory has at this address, if this fact states it.
abbrev pub value_by : Fact → (address : Operand) → (offset : ℕ) → Option Operand
value_by (facts_are.Held other other_offset value) address offset = if is_same_word other other_offset address offset then Some value else None
value_by fact address offset = None

abbrev pub or_value : Option Operand → Option Operand → Option Operand
or_value (Some value) other = Some value
or_value None other = other

abbrev pub value_in : List Fact → (address : Operand) → (offset : ℕ) → Option Operand
value_in [] address offset = None
value_in (fact ∷ facts) address offset = or_value (value_by fact address offset) (value_in facts address offset)

abbrev pub simplified_load : Option Operand → (destination : ℕ) → (address : Operand) → (offset : ℕ) → Instruction
simplified_load (Some value) destination address offset = instructions.Move destination value
simplified_load None destination address offset = instructions.Load destination address offset

-- Returns the word that a global is known to contain, if facts state one.
abbrev pub global_value : List Fact → (offset : Option ℕ) → Option Operand
global_value facts (Some offset) = value_in facts first_global offset
global_value facts None = None

abbrev pub simplified_global : Option Operand → (destination global : ℕ) → Instruction
simplified_global (Some value) destination global = instructions.Move destination value
simplified_global None destination global = instructions.LoadGlobal destination global

-- ---- instructions

abbrev pub simplified_request : List Fact → Request → Request
simplified_request facts (requests.CloseTo mark) = requests.CloseTo (simplified_operand facts mark)
simplified_request facts (requests.CloseDynamic handle) = requests.CloseDynamic (simplified_operand facts handle)
simplified_request facts (requests.Allocate destination handle words) =
    requests.Allocate destination (simplified_operand facts handle) (simplified_operand facts words)
simplified_request facts (requests.Free address) = requests.Free (simplified_operand facts address)
simplified_request facts request = request

abbrev pub simplified_otherwise : List Fact → Instruction → Instruction
simplified_otherwise facts (instructions.Unary operator destination operand) =
    simplified_unary (folded_unary facts operator (simplified_operand facts operand)) operator destination (simplified_operand facts operand)
simplified_otherwise facts (instructions.WriteByte source) = instructions.WriteByte (simplified_operand facts source)
simplified_otherwise facts (instructions.LoadGlobal destination global) =
    simplified_global (global_value facts (global_offset global)) destination global
simplified_otherwise facts (instructions.StoreGlobal global source) = instructions.StoreGlobal global (simplified_operand facts source)
simplified_otherwise facts (instructions.LoadByte destination address offset) =
    instructions.LoadByte destination (simplified_operand facts address) offset
simplified_otherwise facts (instructions.StoreByte address offset source) =
    instructions.StoreByte (simplified_operand facts address) offset (simplified_operand facts source)
simplified_otherwise facts (instructions.Ask request) = instructions.Ask (simplified_request facts request)
simplified_otherwise facts (instructions.Throw tag value) =
    instructions.Throw (simplified_operand facts tag) (simplified_operand facts value)
simplified_otherwise facts (instructions.Uncaught tag value) = instructions.Uncaught tag (simplified_operand facts value)
simplified_otherwise facts instruction = instruction

-- Returns the replacement of an instruction. The most frequent kinds of instructions come first.
abbrev pub simplified_instruction : List Fact → Instruction → Instruction
simplified_instruction facts (instructions.Move destination source) =
    simplified_move (is_known facts (facts_are.Equal destination (simplified_operand facts source))) destination (simplified_operand facts source)
simplified_instruction facts (instructions.Binary operator destination left right) =
    simplified_of facts operator destination (simplified_operand facts left) (right_operand facts operator (simplified_operand facts right))
simplified_instruction facts (instructions.Branch comparison left right target) =
    simplified_branch (decision_in facts comparison (simplified_operand facts left) (simplified_operand facts right))
    comparison (simplified_operand facts left) (simplified_operand facts right) target
simplified_instruction facts (instructions.Load destination address offset) =
    simplified_load (value_in facts (simplified_operand facts address) offset) destination (simplified_operand facts address) offset
simplified_instruction facts (instructions.Store address offset source) =
    instructions.Store (simplified_operand facts address) offset (simplified_operand facts source)
simplified_instruction facts instruction = simplified_otherwise facts instruction

-- ---- unreachable places

-- Returns true if an instruction may be dropped when it is unreachable. An instruction that takes the address of slots is
-- not dropped, so that the set of slots whose address is taken is unchanged.
abbrev pub may_vanish : Instruction → Bool
may_vanish (instructions.AddressOf destination slot count) = false
may_vanish i = true

abbrev pub vanishes : List Fact → Instruction → Bool
vanishes facts i = is_unreached facts && may_vanish i

-- Returns the position after `index`, or `index` if it is the last one, so that control never leaves the code.
abbrev pub place_after : (index count : ℕ) → ℕ
place_after index count = if nat_lt (index + 1) count then index + 1 else index

-- Returns the replacement of the instruction at position `index` of `count`. An unreachable instruction becomes a jump to the next
-- position, which needs no machine code except at the last position.
abbrev pub put_at : List Fact → (index count : ℕ) → Instruction → Instruction
put_at facts index count i = if vanishes facts i then instructions.Jump (place_after index count) else simplified_instruction facts i
