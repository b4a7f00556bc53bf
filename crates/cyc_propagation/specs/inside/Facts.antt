-- Facts about a function's slots and about memory: their truth, the facts that an instruction preserves, and those that it establishes.
use Rattle.std.specs.Prelude.{◌≡◌, ℕ, zero, suc, ◌+◌, ◌*◌, ◌<◌, ◌^◌, Bool, true, false, not, ◌==◌, ◌&&◌, ◌||◌, nat_le, nat_lt, if◌then◌else◌, List, [], ◌∷◌, ◌++◌, length, filter, drop, Option, Some, None, slice_get, slice_index_or}
use Rattle.std.specs.List.{AllByRecursion}
use Rattle.cyc_words.specs.Word.{add_of}
use Rattle.cyc_plain.specs.declared.instruction.Instruction.{Instruction}
use Rattle.cyc_plain.specs.declared.instruction.Instruction.TheVariants as instructions
use Rattle.cyc_plain.specs.declared.instruction.Operand.{Operand}
use Rattle.cyc_plain.specs.declared.instruction.Operand.TheVariants as operands
use Rattle.cyc_plain.specs.declared.instruction.UnaryOperator.{UnaryOperator}
use Rattle.cyc_plain.specs.declared.instruction.UnaryOperator.TheVariants as unary
use Rattle.cyc_plain.specs.declared.instruction.BinaryOperator.{BinaryOperator}
use Rattle.cyc_plain.specs.declared.instruction.BinaryOperator.TheVariants as binary
use Rattle.cyc_plain.specs.declared.instruction.Comparison.{Comparison}
use Rattle.cyc_plain.specs.declared.instruction.Comparison.TheVariants as comparisons
use Rattle.cyc_plain.specs.declared.limits.TheConstants.{GLOBALS_BASE, MOST_GLOBALS, RECORD_WORDS}
use Rattle.cyc_plain.specs.inside.Requests.{destination_of, answer_count}
use Rattle.cyc_plain.specs.inside.Operators.{binary_result, has_no_result, compares}
use Rattle.cyc_plain.specs.inside.Program.{Program, routine_at}
use Rattle.cyc_plain.specs.inside.State.{Words, Configuration}
use Rattle.cyc_plain.specs.inside.Memory.{memory_at}
use Rattle.cyc_plain.specs.inside.Step.{operand_word}
use Rattle.cyc_plain.specs.inside.Uses.{is_slot, is_among}
use Rattle.cyc_propagation.specs.declared.fact.Fact.{Fact}
use Rattle.cyc_propagation.specs.declared.fact.Fact.TheVariants as facts_are
use Rattle.cyc_propagation.specs.declared.fact.Touched.{Touched}
use Rattle.cyc_propagation.specs.declared.fact.Touched.TheVariants as touches
use Rattle.cyc_propagation.specs.declared.fact.Written.{Written}
use Rattle.cyc_propagation.specs.declared.fact.TheConstants.{MOST_FACTS}

-- ---- truth of facts

-- A scene is the part of a state that facts describe: the words in a call's slots, and memory, which has a word at some addresses.
pub record Scene : Type 0 where
  pub slots : Words
  pub memory : (address : ℕ) → Option ℕ

-- Returns the slots of the active call, and memory.
abbrev pub scene_of : Program → Configuration → Scene
scene_of program c = record { slots = c.active.slots; memory = memory_at program c }

-- Returns the word that a load reads, or `None` if memory has no word at the load's address.
abbrev pub found : Scene → (address : Operand) → (offset : ℕ) → Option ℕ
found scene address offset = scene.memory (add_of (operand_word scene.slots address) offset)

abbrev pub IsTrueIn : Scene → Fact → Type 0
IsTrueIn scene (facts_are.Equal slot operand) = scene.slots slot ≡ operand_word scene.slots operand
IsTrueIn scene (facts_are.Computed slot operator left right) =
    (scene.slots slot ≡ binary_result operator (operand_word scene.slots left) (operand_word scene.slots right))
    × (has_no_result operator (operand_word scene.slots right) ≡ false)
IsTrueIn scene (facts_are.Holds comparison left right) =
    compares comparison (operand_word scene.slots left) (operand_word scene.slots right) ≡ true
IsTrueIn scene (facts_are.Held address offset value) = found scene address offset ≡ Some (operand_word scene.slots value)

abbrev pub AreTrueIn : Scene → List Fact → Type 0
AreTrueIn scene facts = AllByRecursion (IsTrueIn scene) facts

abbrev pub IsTrueIfAny : Scene → Option Fact → Type 0
IsTrueIfAny scene (Some fact) = IsTrueIn scene fact
IsTrueIfAny scene None = Unit {0}

-- ---- equality of facts

abbrev pub operator_number : BinaryOperator → ℕ
operator_number binary.Add = 0
operator_number binary.Subtract = 1
operator_number binary.Multiply = 2
operator_number binary.Divide = 3
operator_number binary.Remainder = 4
operator_number binary.And = 5
operator_number binary.Or = 6
operator_number binary.Xor = 7
operator_number binary.ShiftLeft = 8
operator_number binary.ShiftRight = 9
operator_number binary.Equal = 10
operator_number binary.NotEqual = 11
operator_number binary.Less = 12
operator_number binary.LessOrEqual = 13
operator_number binary.Greater = 14
operator_number binary.GreaterOrEqual = 15

abbrev pub comparison_number : Comparison → ℕ
comparison_number comparisons.Equal = 0
comparison_number comparisons.NotEqual = 1
comparison_number comparisons.Less = 2
comparison_number comparisons.LessOrEqual = 3
comparison_number comparisons.Greater = 4
comparison_number comparisons.GreaterOrEqual = 5
comparison_number comparisons.LessUnsigned = 6
comparison_number comparisons.GreaterOrEqualUnsigned = 7

abbrev pub is_same_operator : BinaryOperator → BinaryOperator → Bool
is_same_operator one other = operator_number one == operator_number other

abbrev pub is_same_comparison : Comparison → Comparison → Bool
is_same_comparison one other = comparison_number one == comparison_number other

abbrev pub is_same_operand : Operand → Operand → Bool
is_same_operand (operands.Slot number) (operands.Slot other) = number == other
is_same_operand (operands.Word word) (operands.Word other) = word == other
is_same_operand operand other = false

-- Returns true if two references to memory have equal address operands and offsets.
abbrev pub is_same_word : (address : Operand) → (offset : ℕ) → (other_address : Operand) → (other_offset : ℕ) → Bool
is_same_word address offset other_address other_offset = is_same_operand address other_address && offset == other_offset

abbrev pub is_same_fact : Fact → Fact → Bool
is_same_fact (facts_are.Equal slot operand) (facts_are.Equal slot_2 operand_2) = slot == slot_2 && is_same_operand operand operand_2
is_same_fact (facts_are.Computed slot operator left right) (facts_are.Computed slot_2 operator_2 left_2 right_2) =
    slot == slot_2 && (is_same_operator operator operator_2 && (is_same_operand left left_2 && is_same_operand right right_2))
is_same_fact (facts_are.Holds comparison left right) (facts_are.Holds comparison_2 left_2 right_2) =
    is_same_comparison comparison comparison_2 && (is_same_operand left left_2 && is_same_operand right right_2)
is_same_fact (facts_are.Held address offset value) (facts_are.Held address_2 offset_2 value_2) =
    is_same_word address offset address_2 offset_2 && is_same_operand value value_2
is_same_fact fact other = false

-- Returns true if the list of facts contains the fact, or contains a fact that is never true, as at unreachable positions.
abbrev pub is_known : List Fact → Fact → Bool
is_known [] fact = false
is_known (other ∷ facts) fact = is_same_fact other fact || is_known facts fact

-- ---- unreachable places

-- The fact `never` is never true and hence implies every fact. The fact `never` is known at unreachable positions.
abbrev pub never : Fact
never = facts_are.Holds comparisons.NotEqual (operands.Word 0) (operands.Word 0)

abbrev pub is_never : Option Fact → Bool
is_never (Some fact) = is_same_fact fact never
is_never None = false

-- Returns true if `never` is the first fact of the list, so that the position is unreachable.
abbrev pub is_unreached : List Fact → Bool
is_unreached facts = is_never (slice_get facts 0)

-- ---- globals

-- A global is also a word of memory, at a byte offset from the first global, if its index is below the maximal number of globals.
abbrev pub first_global : Operand
first_global = operands.Word GLOBALS_BASE

abbrev pub global_offset : (global : ℕ) → Option ℕ
global_offset global = if nat_lt global MOST_GLOBALS then Some (4 * global) else None

-- ---- slots that facts may mention

-- Returns true if a slot is free: its address is not taken (`pinned`), so no store instruction changes it.
abbrev pub is_free : List Bool → (slot : ℕ) → Bool
is_free pinned slot = not (slice_index_or pinned slot true)

-- Returns true if the `count` slots from `first` on are free, that is, their address is not taken.
abbrev pub are_free : List Bool → (first count : ℕ) → Bool
are_free pinned first zero = true
are_free pinned first (suc count) = are_free pinned first count && is_free pinned (first + count)

abbrev pub suits_operand : List Bool → Operand → Bool
suits_operand pinned (operands.Slot number) = is_free pinned number
suits_operand pinned (operands.Word word) = nat_lt word (2 ^ 32)

-- Returns true if a fact contains only slots whose address is not taken, and constants that fit a machine word.
abbrev pub suits : List Bool → Fact → Bool
suits pinned (facts_are.Equal slot operand) = is_free pinned slot && suits_operand pinned operand
suits pinned (facts_are.Computed slot operator left right) =
    is_free pinned slot && (suits_operand pinned left && suits_operand pinned right)
suits pinned (facts_are.Holds comparison left right) = suits_operand pinned left && suits_operand pinned right
suits pinned (facts_are.Held address offset value) = suits_operand pinned address && suits_operand pinned value

abbrev pub are_suited : List Bool → List Fact → Bool
are_suited pinned [] = true
are_suited pinned (fact ∷ facts) = suits pinned fact && are_suited pinned facts

-- ---- facts that an instruction preserves

-- Returns the slots that an instruction writes before the next instruction of its call. A move from a slot to the same slot writes nothing.
abbrev pub written : Program → Instruction → Written
written program (instructions.Move destination source) =
    if is_slot source destination then record { first = destination; count = 0 } else record { first = destination; count = 1 }
written program (instructions.MoveWords destination source count) = record { first = destination; count = count }
written program (instructions.Unary operator destination operand) = record { first = destination; count = 1 }
written program (instructions.Binary operator destination left right) = record { first = destination; count = 1 }
written program (instructions.Call function arguments count result) =
    record { first = result; count = (routine_at program function).results }
written program (instructions.ReadByte destination) = record { first = destination; count = 1 }
written program (instructions.AddressOf destination slot count) = record { first = destination; count = 1 }
written program (instructions.LoadGlobal destination global) = record { first = destination; count = 1 }
written program (instructions.Load destination address offset) = record { first = destination; count = 1 }
written program (instructions.LoadByte destination address offset) = record { first = destination; count = 1 }
written program (instructions.Ask request) = record { first = destination_of request; count = answer_count request }
written program (instructions.CountLexical destination) = record { first = destination; count = 1 }
written program (instructions.Try first handler) = record { first = first; count = RECORD_WORDS }
written program instruction = record { first = 0; count = 0 }

abbrev pub leaves_slot : Written → (slot : ℕ) → Bool
leaves_slot slots slot = not (is_among slots.first slots.count slot)

abbrev pub leaves_operand : Written → Operand → Bool
leaves_operand slots (operands.Slot number) = leaves_slot slots number
leaves_operand slots (operands.Word word) = true

-- Returns the part of memory that a write to a slot may change: nothing if the slot's address is not taken.
abbrev pub touched_by : List Bool → (slot : ℕ) → Touched
touched_by pinned slot = if is_free pinned slot then touches.Nothing else touches.All

abbrev pub touched_by_words : List Bool → (first count : ℕ) → Touched
touched_by_words pinned first count = if are_free pinned first count then touches.Nothing else touches.All

-- Returns the range of addresses that a write to a global changes.
abbrev pub touched_global : (offset : Option ℕ) → Touched
touched_global (Some offset) = touches.Word first_global offset
touched_global None = touches.All

abbrev pub touched : List Bool → Instruction → Touched
touched pinned (instructions.Move destination source) = touched_by pinned destination
touched pinned (instructions.Unary operator destination operand) = touched_by pinned destination
touched pinned (instructions.Binary operator destination left right) = touched_by pinned destination
touched pinned (instructions.ReadByte destination) = touched_by pinned destination
touched pinned (instructions.AddressOf destination slot count) = touched_by pinned destination
touched pinned (instructions.LoadGlobal destination global) = touched_by pinned destination
touched pinned (instructions.Load destination address offset) = touched_by pinned destination
touched pinned (instructions.LoadByte destination address offset) = touched_by pinned destination
touched pinned (instructions.CountLexical destination) = touched_by pinned destination
touched pinned (instructions.Store address offset source) = touches.Word address offset
touched pinned (instructions.StoreByte address offset source) = touches.All
touched pinned (instructions.StoreGlobal global source) = touched_global (global_offset global)
touched pinned (instructions.MoveWords destination source count) = touched_by_words pinned destination count
touched pinned (instructions.Call function arguments count result) = touches.All
touched pinned (instructions.Ask request) = touches.All
touched pinned (instructions.Try first handler) = touches.All
touched pinned instruction = touches.Nothing

-- Returns true if loads with these two offsets from one address read disjoint words.
abbrev pub are_apart : (offset other : ℕ) → Bool
are_apart offset other = nat_lt offset (2 ^ 32) && (nat_lt other (2 ^ 32) && not (offset == other))

-- Returns true if a write leaves the word at this address unchanged.
abbrev pub is_untouched : Touched → (address : Operand) → (offset : ℕ) → Bool
is_untouched touches.Nothing address offset = true
is_untouched (touches.Word other written) address offset = is_same_operand other address && are_apart written offset
is_untouched touches.All address offset = false

-- Returns true if a fact is preserved: no slot in the fact is written, and no word of memory in the fact is changed.
abbrev pub keeps : Written → Touched → Fact → Bool
keeps slots touched (facts_are.Equal slot operand) = leaves_slot slots slot && leaves_operand slots operand
keeps slots touched (facts_are.Computed slot operator left right) =
    leaves_slot slots slot && (leaves_operand slots left && leaves_operand slots right)
keeps slots touched (facts_are.Holds comparison left right) = leaves_operand slots left && leaves_operand slots right
keeps slots touched (facts_are.Held address offset value) =
    leaves_operand slots address && (leaves_operand slots value && is_untouched touched address offset)

abbrev pub kept : Written → Touched → List Fact → List Fact
kept slots touched facts = filter (keeps slots touched) facts

-- ---- facts that an instruction makes true

-- Returns the comparison that holds exactly if this comparison does not.
abbrev pub negated : Comparison → Comparison
negated comparisons.Equal = comparisons.NotEqual
negated comparisons.NotEqual = comparisons.Equal
negated comparisons.Less = comparisons.GreaterOrEqual
negated comparisons.LessOrEqual = comparisons.Greater
negated comparisons.Greater = comparisons.LessOrEqual
negated comparisons.GreaterOrEqual = comparisons.Less
negated comparisons.LessUnsigned = comparisons.GreaterOrEqualUnsigned
negated comparisons.GreaterOrEqualUnsigned = comparisons.LessUnsigned

abbrev pub is_any_slot : Operand → Bool
is_any_slot (operands.Slot number) = true
is_any_slot (operands.Word word) = false

abbrev pub suited : List Bool → Fact → Option Fact
suited pinned fact = if suits pinned fact then Some fact else None

-- Returns the fact that a branch establishes if control continues at `next`.
abbrev pub shown : List Bool → Comparison → (left right : Operand) → (target index next : ℕ) → Option Fact
shown pinned comparison left right target index next =
    if target == index + 1 || not (is_any_slot left || is_any_slot right)
    then None
    else suited pinned (facts_are.Holds (if next == target then comparison else negated comparison) left right)

-- Returns the fact that memory has this word at an address.
abbrev pub held : List Bool → (address : Operand) → (offset : ℕ) → (value : Operand) → Option Fact
held pinned address offset value = suited pinned (facts_are.Held address offset value)

-- Returns the fact that a load establishes, or `None` if its destination is the slot that contains the address.
abbrev pub loaded : List Bool → (address : Operand) → (offset destination : ℕ) → Option Fact
loaded pinned address offset destination =
    if is_slot address destination then None else held pinned address offset (operands.Slot destination)

-- Returns the fact that a global contains this word.
abbrev pub held_global : List Bool → (offset : Option ℕ) → (value : Operand) → Option Fact
held_global pinned (Some offset) value = held pinned first_global offset value
held_global pinned None value = None

-- Returns the fact that a move establishes. A move from a slot to the same slot establishes no fact.
abbrev pub moved : List Bool → (destination : ℕ) → (source : Operand) → Option Fact
moved pinned destination source = if is_slot source destination then None else suited pinned (facts_are.Equal destination source)

-- Returns the fact that an operator establishes, or `None` if its destination is the slot of an operand.
abbrev pub computed : List Bool → BinaryOperator → (destination : ℕ) → (left right : Operand) → Option Fact
computed pinned operator destination left right =
    if is_slot left destination || is_slot right destination then None else suited pinned (facts_are.Computed destination operator left right)

-- Returns the fact that is true after the instruction at `index` if control continues at `next`, whatever was true before.
abbrev pub made : List Bool → Instruction → (index next : ℕ) → Option Fact
made pinned (instructions.Move destination source) index next = moved pinned destination source
made pinned (instructions.Binary operator destination left right) index next = computed pinned operator destination left right
made pinned (instructions.Branch comparison left right target) index next = shown pinned comparison left right target index next
made pinned (instructions.LoadGlobal destination global) index next = held_global pinned (global_offset global) (operands.Slot destination)
made pinned (instructions.StoreGlobal global source) index next = held_global pinned (global_offset global) source
made pinned (instructions.Load destination address offset) index next = loaded pinned address offset destination
made pinned (instructions.Store address offset source) index next = held pinned address offset source
made pinned instruction index next = None

-- Returns true if an operator's result is a truth value, 1 or 0.
abbrev pub is_test : BinaryOperator → Bool
is_test binary.Equal = true
is_test binary.NotEqual = true
is_test binary.Less = true
is_test binary.LessOrEqual = true
is_test binary.Greater = true
is_test binary.GreaterOrEqual = true
is_test operator = false

abbrev pub is_not : UnaryOperator → Bool
is_not unary.Not = true
is_not operator = false

-- Returns the fact that a slot contains a truth value, 1 or 0.
abbrev pub truth_in : (slot : ℕ) → Fact
truth_in slot = facts_are.Holds comparisons.LessUnsigned (operands.Slot slot) (operands.Word 2)

abbrev pub truth_of : List Bool → BinaryOperator → (destination : ℕ) → Option Fact
truth_of pinned operator destination = if is_test operator then suited pinned (truth_in destination) else None

-- Returns the fact that a test's result is a truth value, which is true even if the test's destination is one of its operands.
abbrev pub tested : List Bool → Instruction → Option Fact
tested pinned (instructions.Unary operator destination operand) = if is_not operator then suited pinned (truth_in destination) else None
tested pinned (instructions.Binary operator destination left right) = truth_of pinned operator destination
tested pinned instruction = None

-- Returns the facts with one more fact. If the list of facts has its maximal length, the oldest fact is dropped.
abbrev pub remembered : List Fact → Option Fact → List Fact
remembered facts (Some fact) = (if nat_lt (length facts) MOST_FACTS then facts else drop 1 facts) ++ fact ∷ []
remembered facts None = facts

-- Returns true if two ranges of `count` slots are disjoint.
abbrev pub lie_apart : (first other count : ℕ) → Bool
lie_apart first other count = nat_le (first + count) other || nat_le (other + count) first

-- Returns true if moved words stay equal to their sources: the addresses of source and destination
-- slots are not taken, and no source is overwritten.
abbrev pub are_copied : List Bool → (destination source count : ℕ) → Bool
are_copied pinned destination source count =
    lie_apart destination source count && (are_free pinned destination count && are_free pinned source count)

-- Returns the fact that the word at `index` among the words that a move copies equals its source word, if the move copies that many words.
abbrev pub copied : List Bool → Instruction → (index : ℕ) → Option Fact
copied pinned (instructions.MoveWords destination source count) index =
    if nat_lt index count && are_copied pinned destination source count
    then Some (facts_are.Equal (destination + index) (operands.Slot (source + index)))
    else None
copied pinned instruction index = None

-- Returns the list of facts, extended by facts that copied words equal their sources: at most three, for
-- the words of a pointer with its bounds.
abbrev pub with_copies : List Bool → Instruction → List Fact → List Fact
with_copies pinned i facts = remembered (remembered (remembered facts (copied pinned i 0)) (copied pinned i 1)) (copied pinned i 2)

-- `IsMade` says that the facts that an instruction establishes are true: copied words equal their sources, a test computes a truth
-- value, and the fact of any other instruction is true.
abbrev pub IsMade : Scene → List Bool → Instruction → (index next : ℕ) → Type 0
IsMade scene pinned (instructions.MoveWords destination source count) index next =
    are_copied pinned destination source count ≡ true → (k : ℕ) → k < count → scene.slots (destination + k) ≡ scene.slots (source + k)
IsMade scene pinned (instructions.Unary operator destination operand) index next = IsTrueIfAny scene (tested pinned (instructions.Unary operator destination operand))
IsMade scene pinned (instructions.Binary operator destination left right) index next =
    IsTrueIfAny scene (tested pinned (instructions.Binary operator destination left right))
    × IsTrueIfAny scene (made pinned (instructions.Binary operator destination left right) index next)
IsMade scene pinned instruction index next = IsTrueIfAny scene (made pinned instruction index next)

-- Returns the facts known after an operator.
abbrev pub facts_after_operator : List Bool → List Fact → BinaryOperator → (destination : ℕ) → (left right : Operand) → List Fact
facts_after_operator pinned facts operator destination left right =
    remembered
    (remembered (kept (record { first = destination; count = 1 }) (touched_by pinned destination) facts)
    (truth_of pinned operator destination))
    (computed pinned operator destination left right)

-- Returns the facts known after an instruction.
abbrev pub facts_after : Program → List Bool → List Fact → Instruction → (index next : ℕ) → List Fact
facts_after program pinned facts i index next =
    remembered (remembered (with_copies pinned i (kept (written program i) (touched pinned i) facts)) (tested pinned i)) (made pinned i index next)
