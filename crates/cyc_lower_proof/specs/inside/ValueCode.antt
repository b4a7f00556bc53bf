-- This file defines the code that moves words to slots: for operands, addresses, operators and conversions.
use Rattle.std.specs.Prelude.{ℕ, zero, suc, ◌+◌, ◌==◌, Bool, false, not, ◌&&◌, if◌then◌else◌, List, [], ◌∷◌, ◌++◌, length, Option, None, Some, ◌%◌, ◌^◌, true, option_map, unwrap_or}
use Rattle.cyc_words.specs.Word.{add_of, mul_of}
use Rattle.cyc_types.specs.declared.typed.Kind.{Kind}
use Rattle.cyc_types.specs.declared.typed.Kind.TheVariants as kinds
use Rattle.cyc_types.specs.declared.typed.UnaryOperator.{UnaryOperator}
use Rattle.cyc_types.specs.declared.typed.UnaryOperator.TheVariants as unary
use Rattle.cyc_types.specs.declared.typed.Operator.{Operator}
use Rattle.cyc_types.specs.declared.typed.Operator.TheVariants as operators
use Rattle.cyc_types.specs.declared.typed.PointerOperator.{PointerOperator}
use Rattle.cyc_types.specs.declared.typed.PointerOperator.TheVariants as pointers
use Rattle.cyc_types.specs.declared.typed.LogicalOperator.{LogicalOperator}
use Rattle.cyc_types.specs.declared.typed.LogicalOperator.TheVariants as logical
use Rattle.cyc_types.specs.Types.{Ty, Value}
use Rattle.cyc_types.specs.TypedTrees.{Lvalue, Local, Global, Expression, Converted, Convert, Arguments, NoArguments, MoreArguments, Operations, NoOperations, Function}
use Rattle.cyc_plain.specs.declared.instruction.UnaryOperator.TheVariants as plain_unary
use Rattle.cyc_plain.specs.declared.instruction.BinaryOperator.{BinaryOperator as PlainBinary}
use Rattle.cyc_plain.specs.declared.instruction.BinaryOperator.TheVariants as plain_binary
use Rattle.cyc_plain.specs.declared.instruction.Comparison.{Comparison}
use Rattle.cyc_plain.specs.declared.instruction.Comparison.TheVariants as comparisons
use Rattle.cyc_plain.specs.declared.instruction.Operand.{Operand}
use Rattle.cyc_plain.specs.declared.instruction.Operand.TheVariants as operands
use Rattle.cyc_plain.specs.declared.instruction.Instruction.{Instruction}
use Rattle.cyc_plain.specs.declared.instruction.Instruction.TheVariants as instructions
use Rattle.cyc_plain.specs.declared.limits.TheConstants.{GLOBALS_BASE}
use Rattle.cyc_meaning.specs.Values.{words_of_kind, bytes_of_kind}
use Rattle.cyc_meaning.specs.Operators.{null_exception, array_size, division_by_zero, array_bounds}
use Rattle.cyc_meaning.specs.FrameCount.{words_of_all}
use Rattle.cyc_lower_proof.specs.inside.Slots.{Starts, slot_of, global_of}
use Rattle.cyc_meaning.specs.Parts.{target_of, target_by, target_of_value}

-- ---- slots and operators

-- the types that determine the slots of a function's locals
abbrev pub slot_types : Function → List Ty
slot_types h = h.parameters ++ h.locals

-- The slot after a function's locals, in which a failing access stores a word that tells which exception it raises.
abbrev pub tag_slot : Function → ℕ
tag_slot h = words_of_all (slot_types h)

-- the first slot for temporaries, after the slot that holds an exception's tag
abbrev pub first_temporary : Function → ℕ
first_temporary h = tag_slot h + 1

-- the low 8 bits of a word
abbrev pub low_byte : Operand → (d : ℕ) → Instruction
low_byte o d = instructions.Binary plain_binary.And d o (operands.Word 255)

-- The instruction for a unary operator; the conversion of a char to an int keeps the word of the char.
abbrev pub unary_instruction : UnaryOperator → (d : ℕ) → Operand → Instruction
unary_instruction unary.Negate d o = instructions.Unary plain_unary.Negate d o
unary_instruction unary.Not d o = instructions.Unary plain_unary.Not d o
unary_instruction unary.Complement d o = instructions.Unary plain_unary.Complement d o
unary_instruction unary.Widen d o = instructions.Move d o
unary_instruction unary.LowByte d o = low_byte o d

abbrev pub binary_operator : Operator → PlainBinary
binary_operator operators.Or = plain_binary.Or
binary_operator operators.Xor = plain_binary.Xor
binary_operator operators.And = plain_binary.And
binary_operator operators.Equal = plain_binary.Equal
binary_operator operators.NotEqual = plain_binary.NotEqual
binary_operator operators.Less = plain_binary.Less
binary_operator operators.LessOrEqual = plain_binary.LessOrEqual
binary_operator operators.Greater = plain_binary.Greater
binary_operator operators.GreaterOrEqual = plain_binary.GreaterOrEqual
binary_operator operators.ShiftLeft = plain_binary.ShiftLeft
binary_operator operators.ShiftRight = plain_binary.ShiftRight
binary_operator operators.Add = plain_binary.Add
binary_operator operators.Subtract = plain_binary.Subtract
binary_operator operators.Multiply = plain_binary.Multiply
binary_operator operators.Divide = plain_binary.Divide
binary_operator operators.Remainder = plain_binary.Remainder

-- The operation of a pointer operator on words: it compares the first words of two pointers (0 for null), or changes an index.
abbrev pub pointer_operator : PointerOperator → PlainBinary
pointer_operator pointers.AddFat = plain_binary.Add
pointer_operator pointers.SubtractFat = plain_binary.Subtract
pointer_operator pointers.ThinIsNull = plain_binary.Equal
pointer_operator pointers.ThinIsNotNull = plain_binary.NotEqual
pointer_operator pointers.FatIsNull = plain_binary.Equal
pointer_operator pointers.FatIsNotNull = plain_binary.NotEqual
pointer_operator pointers.NullIs = plain_binary.Equal
pointer_operator pointers.NullIsNot = plain_binary.NotEqual
pointer_operator pointers.EqualThin = plain_binary.Equal
pointer_operator pointers.NotEqualThin = plain_binary.NotEqual

-- A representation kind whose values have as many words as the left operand of a pointer operator.
abbrev pub left_kind : PointerOperator → Kind
left_kind pointers.AddFat = kinds.Fat
left_kind pointers.SubtractFat = kinds.Fat
left_kind pointers.FatIsNull = kinds.Fat
left_kind pointers.FatIsNotNull = kinds.Fat
left_kind o = kinds.Nullable

-- The slot after the left operand of a pointer operator, which is in slot t.
abbrev pub after_left : PointerOperator → (t : ℕ) → ℕ
after_left o t = t + words_of_kind (left_kind o)

-- The comparison that holds exactly if the operator's comparison fails, or `None` if the operator is not a comparison.
abbrev pub failing_comparison : Operator → Option Comparison
failing_comparison operators.Equal = Some comparisons.NotEqual
failing_comparison operators.NotEqual = Some comparisons.Equal
failing_comparison operators.Less = Some comparisons.GreaterOrEqual
failing_comparison operators.LessOrEqual = Some comparisons.Greater
failing_comparison operators.Greater = Some comparisons.LessOrEqual
failing_comparison operators.GreaterOrEqual = Some comparisons.Less
failing_comparison o = None

-- ---- operands

-- The operand of a value: the operand that needs no code, or the slot to which the code moves the value.
abbrev pub operand_or : Option Operand → (slot : ℕ) → Operand
operand_or (Some o) slot = o
operand_or None slot = operands.Slot slot

abbrev pub code_unless : Option Operand → List Instruction → List Instruction
code_unless (Some o) code = []
code_unless None code = code

-- The slot of a value: the slot of the operand that needs no code, or else the slot `slot`.
abbrev pub slot_or : Option Operand → (slot : ℕ) → ℕ
slot_or (Some (operands.Slot n)) slot = n
slot_or o slot = slot

abbrev pub code_unless_slot : Option Operand → List Instruction → List Instruction
code_unless_slot (Some (operands.Slot n)) code = []
code_unless_slot o code = code

-- A left operand is used without code only if the right operand has no effect, so that no code assigns the left operand before its use.
abbrev pub left_with : (simple : Bool) → (left : Option Operand) → Option Operand
left_with true left = left
left_with false left = None

-- The slot for the result of the operators that come before the operators `os` in a chain of operators. It is the destination if
-- `os` is empty.
abbrev pub next_slot : Operations → (d t : ℕ) → ℕ
next_slot NoOperations d t = d
next_slot os d t = t

-- Holds if the operand is already the destination slot, so that no move is needed.
abbrev pub is_in : Operand → (d : ℕ) → Bool
is_in (operands.Slot n) d = n == d
is_in (operands.Word n) d = false

-- ---- instructions

-- The jump that is taken if a word is 0. The next definition is the jump that is taken if the word is not 0.
abbrev pub jump_if_zero : Operand → (target : ℕ) → Instruction
jump_if_zero o target = instructions.Branch comparisons.Equal o (operands.Word 0) target

abbrev pub jump_if_nonzero : Operand → (target : ℕ) → Instruction
jump_if_nonzero o target = instructions.Branch comparisons.NotEqual o (operands.Word 0) target

-- The instruction that raises an exception whose int is 0.
abbrev pub raising : (tag : ℕ) → Instruction
raising tag = instructions.Throw (operands.Word tag) (operands.Word 0)

-- The code that raises the exception of a failed access through a fat pointer. The slot `slot` contains 0 if the pointer is null,
-- and 1 if it is not. The sum of this word and the index of the null exception is the index of the raised exception.
abbrev pub telling : (slot : ℕ) → List Instruction
telling slot = instructions.Binary plain_binary.Add slot (operands.Slot slot) (operands.Word null_exception) ∷ instructions.Throw (operands.Slot slot) (operands.Word 0) ∷ []

-- The blocks that raise exceptions, after a function's body. First comes the code for a failed access through a fat
-- pointer. One raising instruction for each built-in exception follows, in the order of the exceptions' indices.
abbrev pub blocks : (slot : ℕ) → List Instruction
blocks slot = telling slot ++ (raising null_exception ∷ raising array_bounds ∷ raising array_size ∷ raising division_by_zero ∷ [])

-- raises an exception if this comparison of two operands holds
abbrev pub guard_code : Starts → (tag : ℕ) → Comparison → (l r : Operand) → List Instruction
guard_code starts tag failing l r = instructions.Branch failing l r (starts.raises + 2 + tag) ∷ []

-- raises an exception if a word is 0
abbrev pub check_code : Starts → (tag : ℕ) → Operand → List Instruction
check_code starts tag o = guard_code starts tag comparisons.Equal o (operands.Word 0)

-- Moves a value of this many machine words to a slot and the following slots. A constant has one word; a value with more words is always
-- in slots.
abbrev pub move_of : (words d : ℕ) → Operand → Instruction
move_of words d (operands.Slot n) = if words == 1 then instructions.Move d (operands.Slot n) else instructions.MoveWords d n words
move_of words d (operands.Word n) = instructions.Move d (operands.Word n)

-- Checks that a value is not null if the pointer kind to which it is converted does not allow null.
abbrev pub tested_code : Starts → (to : Kind) → Operand → List Instruction
tested_code starts kinds.NonNull o = check_code starts null_exception o
tested_code starts to o = []

-- raises an exception if an index is not below a length
abbrev pub bounds_code : Starts → (index length : Operand) → List Instruction
bounds_code starts index length = guard_code starts array_bounds comparisons.GreaterOrEqualUnsigned index length

-- Multiplies an index by the number of bytes of a cell.
abbrev pub scale_of : (bytes d m : ℕ) → Instruction
scale_of bytes d m =
    if bytes == 4
    then instructions.Binary plain_binary.ShiftLeft d (operands.Slot m) (operands.Word 2)
    else if bytes == 1
    then instructions.Move d (operands.Slot m)
    else instructions.Binary plain_binary.Multiply d (operands.Slot m) (operands.Word 12)

-- Computes into slot t the address of the cell at an index. The address of the first cell is in slot n, the index in slot m, and each cell
-- has `span` bytes. For a struct the index is 0, because no source run has a fault.
abbrev pub stepped_code : (span : Option ℕ) → (n m t : ℕ) → List Instruction
stepped_code None n m t = []
stepped_code (Some bytes) n m t =
    scale_of bytes (t + 2) m
    ∷ instructions.Binary plain_binary.Add t (operands.Slot n) (operands.Slot (t + 2))
    ∷ []

-- Computes the address of the cell at an index, after comparing the index in slot m with the pointer's length, which is in the
-- slot after n.
abbrev pub bounded_code : Starts → (span : Option ℕ) → (n m t : ℕ) → List Instruction
bounded_code starts span n m t = bounds_code starts (operands.Slot m) (operands.Slot (n + 1)) ++ stepped_code span n m t

-- Multiplies the index in slot m by the bytes of a cell, into slot x. The next definition adds slot x to the address of the first cell.
abbrev pub scaled_code : (span : Option ℕ) → (m x : ℕ) → List Instruction
scaled_code None m x = []
scaled_code (Some bytes) m x = scale_of bytes x m ∷ []

abbrev pub summed_code : (span : Option ℕ) → (n x t : ℕ) → List Instruction
summed_code None n x t = []
summed_code (Some bytes) n x t = instructions.Binary plain_binary.Add t (operands.Slot n) (operands.Slot x) ∷ []

-- At position p, compares the index in slot m with the length in the slot after n, which is 0 for a null pointer. A pointer is tested for
-- null only if the comparison of its index fails, to determine the exception. All failing accesses of a function jump to one block.
abbrev pub inside_code : Starts → (n m p : ℕ) → List Instruction
inside_code starts n m p =
    instructions.Branch comparisons.LessUnsigned (operands.Slot m) (operands.Slot (n + 1)) (p + 3)
    ∷ instructions.Binary plain_binary.NotEqual starts.tag_slot (operands.Slot n) (operands.Word 0)
    ∷ instructions.Jump (starts.raises + 1)
    ∷ []

-- An access at position p through a fat pointer, with its first words in slots n and n + 1 and the index in slot m. The byte offset is
-- computed in the third slot after t before the index is compared. The byte offset is useless if the index is out of bounds, but harmless.
-- Computing the byte offset first gives the branch a preceding instruction that can fill its delay slot.
abbrev pub reached_code : Starts → (span : Option ℕ) → (n m t p : ℕ) → List Instruction
reached_code starts span n m t p =
    scaled_code span m (t + 3) ++ (inside_code starts n m (p + length (scaled_code span m (t + 3))) ++ summed_code span n (t + 3) t)

abbrev pub reached_operand : (span : Option ℕ) → (n t : ℕ) → Operand
reached_operand None n t = operands.Slot n
reached_operand (Some bytes) n t = operands.Slot t

-- The code of an access through a thin or fat pointer in an operand.
abbrev pub followed_code : Starts → (thin : Bool) → (span : Option ℕ) → Operand → (t p : ℕ) → List Instruction
followed_code starts true span o t p = check_code starts null_exception o
followed_code starts false span (operands.Slot n) t p = reached_code starts span n (n + 2) t p
followed_code starts false span (operands.Word w) t p = check_code starts null_exception (operands.Word w)

abbrev pub followed_operand : (thin : Bool) → (span : Option ℕ) → Operand → (t : ℕ) → Operand
followed_operand true span o t = o
followed_operand false span (operands.Slot n) t = reached_operand span n t
followed_operand false span (operands.Word w) t = operands.Word w

-- the number of bytes of a cell of this type, unless it is a struct
abbrev pub span_in : Ty → Option ℕ
span_in t = option_map bytes_of_kind (target_of t)

-- Gives a thin pointer the length 1 and the index 0 of a fat pointer; null gets the length 0.
abbrev pub widened_code : Operand → List Instruction
widened_code (operands.Slot n) =
    instructions.Binary plain_binary.NotEqual (n + 1) (operands.Slot n) (operands.Word 0) ∷ instructions.Move (n + 2) (operands.Word 0) ∷ []
widened_code (operands.Word n) = []

-- The length of the code that computes a cell's address with a bounds check, including a jump over that code.
abbrev pub past_bounded : (span : Option ℕ) → ℕ
past_bounded None = 2
past_bounded (Some bytes) = 4

-- Converts a fat pointer in slots to a thin pointer in the first of these slots, which points to the cell at the fat pointer's index. Null
-- stays null, or raises an exception.
abbrev pub thinned_code : Starts → (to : Kind) → (span : Option ℕ) → Operand → (p : ℕ) → List Instruction
thinned_code starts kinds.NonNull span (operands.Slot n) p = check_code starts null_exception (operands.Slot n) ++ bounded_code starts span n (n + 2) n
thinned_code starts kinds.Nullable span (operands.Slot n) p =
    jump_if_zero (operands.Slot n) (p + past_bounded span) ∷ bounded_code starts span n (n + 2) n
thinned_code starts to span o p = []

-- Holds if a value has as many words after the conversion as before it.
abbrev pub are_as_wide : (from to : Kind) → Bool
are_as_wide from to = words_of_kind from == words_of_kind to

-- Holds for a conversion in which an int loses all but its low byte.
abbrev pub masks : (from to : Kind) → Bool
masks kinds.Int kinds.Char = true
masks from to = false

-- Holds if a value has the same words after the conversion as before it.
abbrev pub keeps_words : (from to : Kind) → Bool
keeps_words from to = are_as_wide from to && not (masks from to)

-- Converts a value in the slots that hold it. For a pointer to cells, `span` is the number of bytes of each cell. An int that becomes a
-- char has already been masked.
abbrev pub conversion_by : Starts → (same : Bool) → (to : Kind) → (span : Option ℕ) → Operand → (p : ℕ) → List Instruction
conversion_by starts true to span o p = tested_code starts to o
conversion_by starts false kinds.Fat span o p = widened_code o
conversion_by starts false to span o p = thinned_code starts to span o p

abbrev pub conversion_code : Starts → (from to : Kind) → (span : Option ℕ) → Operand → (p : ℕ) → List Instruction
conversion_code starts from to span o p = conversion_by starts (keeps_words from to) to span o p

abbrev pub span_of : Expression → Option ℕ
span_of a = option_map bytes_of_kind (target_by a)

-- Checks that a divisor is not 0, unless it is a constant other than 0.
abbrev pub divisor_code : Starts → Operand → List Instruction
divisor_code starts (operands.Word (suc n)) = []
divisor_code starts o = check_code starts division_by_zero o

abbrev pub checked_code : Starts → Operator → (l r : Operand) → (d : ℕ) → List Instruction
checked_code starts o l r d = divisor_code starts r ++ instructions.Binary (binary_operator o) d l r ∷ []

abbrev pub operator_code : Starts → Operator → (l r : Operand) → (d : ℕ) → List Instruction
operator_code starts operators.Divide l r d = checked_code starts operators.Divide l r d
operator_code starts operators.Remainder l r d = checked_code starts operators.Remainder l r d
operator_code starts o l r d = instructions.Binary (binary_operator o) d l r ∷ []

-- Skips the next operand of `&&` or `||` if the value in slot t decides the result.
abbrev pub test_jump : LogicalOperator → (t target : ℕ) → Instruction
test_jump logical.AndThen t target = jump_if_zero (operands.Slot t) target
test_jump logical.OrElse t target = jump_if_nonzero (operands.Slot t) target

-- Arithmetic changes only the third word of a fat pointer, its index. The first two words of the fat pointer are moved before the index,
-- unless they are already in the destination.
abbrev pub index_of : Operand → Operand
index_of (operands.Slot n) = operands.Slot (n + 2)
index_of (operands.Word n) = operands.Word n

abbrev pub first_two : Operand → (d : ℕ) → List Instruction
first_two (operands.Slot n) d = if n == d then [] else instructions.MoveWords d n 2 ∷ []
first_two (operands.Word n) d = []

abbrev pub index_code : PlainBinary → (l r : Operand) → (d : ℕ) → List Instruction
index_code o l r d = instructions.Binary o (d + 2) (index_of l) r ∷ first_two l d

-- The instructions of a pointer operator, which compare first words or change an index.
abbrev pub pointer_instructions : PointerOperator → (l r : Operand) → (d : ℕ) → List Instruction
pointer_instructions pointers.AddFat l r d = index_code (pointer_operator pointers.AddFat) l r d
pointer_instructions pointers.SubtractFat l r d = index_code (pointer_operator pointers.SubtractFat) l r d
pointer_instructions o l r d = instructions.Binary (pointer_operator o) d l r ∷ []

-- Computes the number of elements of a fat pointer from its index on. The number is 0 if the index is past the length; the length is 0 for
-- null.
abbrev pub count_code : Operand → (p d : ℕ) → List Instruction
count_code (operands.Slot n) p d =
    instructions.Branch comparisons.LessUnsigned (operands.Slot (n + 1)) (operands.Slot (n + 2)) (p + 3)
    ∷ instructions.Binary plain_binary.Subtract d (operands.Slot (n + 1)) (operands.Slot (n + 2))
    ∷ instructions.Jump (p + 4)
    ∷ instructions.Move d (operands.Word 0)
    ∷ []
count_code (operands.Word n) p d = instructions.Move d (operands.Word 0) ∷ []

-- converts a word to a truth value: 0 stays 0, and any other word becomes 1
abbrev pub truth_code : (t d : ℕ) → List Instruction
truth_code t d = instructions.Binary plain_binary.NotEqual d (operands.Slot t) (operands.Word 0) ∷ []

-- the code of an operator and its right operand
abbrev pub compute_code : Starts → Operator → (l r : Operand) → (operand : List Instruction) → (d : ℕ) → List Instruction
compute_code starts o l r operand d = operand ++ operator_code starts o l r d

-- the code of a pointer operator and its right operand
abbrev pub pointer_code : PointerOperator → (l r : Operand) → (operand : List Instruction) → (d : ℕ) → List Instruction
pointer_code o l r operand d = operand ++ pointer_instructions o l r d

-- The code at position p of a test by `&&` or `||` with its right operand, which comes after the jump.
abbrev pub test_code : LogicalOperator → (operand : List Instruction) → (p d t : ℕ) → List Instruction
test_code o operand p d t = test_jump o t (p + 1 + length operand) ∷ operand ++ truth_code t d

abbrev pub copy_code : (words : ℕ) → Operand → (d : ℕ) → List Instruction
copy_code words o d = if is_in o d then [] else move_of words d o ∷ []

-- Computes an address into a slot: the word of an operand, plus this many bytes.
abbrev pub address_code : Operand → (bytes d : ℕ) → List Instruction
address_code o zero d = copy_code 1 o d
address_code o (suc bytes) d = instructions.Binary plain_binary.Add d o (operands.Word (suc bytes)) ∷ []

-- Computes the address of a memory access, which is the word of an operand plus this many bytes.
abbrev pub addressed_by : (place : List Instruction) → Operand → (bytes d : ℕ) → List Instruction
addressed_by place o bytes d = place ++ address_code o bytes d

-- One instruction for each of `words` words, given the word's index among the words of all globals and its slot.
abbrev pub word_by_word : (each : (global slot : ℕ) → Instruction) → (words first slot : ℕ) → List Instruction
word_by_word each zero first slot = []
word_by_word each (suc words) first slot = each first slot ∷ word_by_word each words (suc first) (suc slot)

abbrev pub load_word : (global slot : ℕ) → Instruction
load_word global slot = instructions.LoadGlobal slot global

abbrev pub store_word : (global slot : ℕ) → Instruction
store_word global slot = instructions.StoreGlobal global (operands.Slot slot)

-- Stores a value of this many machine words in a global. A constant has one word; a value with more words is always in slots.
abbrev pub global_code : (words first : ℕ) → Operand → List Instruction
global_code words first (operands.Slot n) = word_by_word store_word words first n
global_code words first (operands.Word n) = instructions.StoreGlobal first (operands.Word n) ∷ []

-- Loads a word of a cell into a slot, or a byte if the cell is a char.
abbrev pub load_of : Kind → (d : ℕ) → (address : Operand) → (offset : ℕ) → Instruction
load_of kinds.Char d address offset = instructions.LoadByte d address offset
load_of kind d address offset = instructions.Load d address offset

-- Stores a word in a cell, or a byte if the cell is a char.
abbrev pub store_of : Kind → (address : Operand) → (offset : ℕ) → Operand → Instruction
store_of kinds.Char address offset o = instructions.StoreByte address offset o
store_of kind address offset o = instructions.Store address offset o

-- Loads a cell of this kind into a slot and the following slots; the cell's address is an operand plus `bytes`. For a cell of several words
-- the address is moved to slot t, and not to a local, because a local may be the loaded cell. The first word is loaded last, since it may
-- go to slot t.
abbrev pub loaded_code : Kind → Operand → (bytes d t : ℕ) → List Instruction
loaded_code kind o bytes d t =
    if words_of_kind kind == 1
    then load_of kind d o bytes ∷ []
    else address_code o bytes t
    ++ instructions.Load (d + 2) (operands.Slot t) 8
    ∷ instructions.Load (d + 1) (operands.Slot t) 4
    ∷ instructions.Load d (operands.Slot t) 0
    ∷ []

-- The representation kind (int, char, pointer, ..) of the variable to which a pointer of a given type points.
abbrev pub kind_after : Ty → Kind
kind_after t = unwrap_or (target_of_value (Value t)) kinds.Int

-- The offset of a variable in its machine words, in bytes: a char is the last byte of its word.
abbrev pub variable_bytes : Kind → ℕ
variable_bytes kinds.Char = 3
variable_bytes kind = 0

-- The address of the global whose first word has the index `first` among the words of all globals; the address
-- of a char is that of its word's last byte.
abbrev pub address_of_global : Kind → (first : ℕ) → ℕ
address_of_global kind first = add_of (add_of GLOBALS_BASE (mul_of (first % 2 ^ 32) 4)) (variable_bytes kind)

-- Turns the address of a variable's first word into the address of the variable.
abbrev pub last_byte_code : Kind → (d : ℕ) → List Instruction
last_byte_code kinds.Char d = instructions.Binary plain_binary.Add d (operands.Slot d) (operands.Word 3) ∷ []
last_byte_code kind d = []

-- Computes the address of a variable of a kind. The address of a global is a constant.
abbrev pub address_of_code : Starts → Lvalue → Kind → (d : ℕ) → List Instruction
address_of_code starts (Local w n) kind d = instructions.AddressOf d (slot_of starts n) (words_of_kind kind) ∷ last_byte_code kind d
address_of_code starts (Global n) kind d = instructions.Move d (operands.Word (address_of_global kind (global_of starts n))) ∷ []

-- A local that is declared without a value has no value, but the word of a char must be below 256.
abbrev pub blank_code : Kind → (slot : ℕ) → List Instruction
blank_code kinds.Char slot = instructions.Move slot (operands.Word 0) ∷ []
blank_code kind slot = []

-- ---- conversions

-- Holds if a value may be moved to its destination before its conversion: the conversion keeps its number of words and does not check it.
abbrev pub converts_there : (from to : Kind) → Bool
converts_there from kinds.NonNull = false
converts_there from to = are_as_wide from to

-- the number of machine words with which an argument is passed
abbrev pub passed_words : Converted → ℕ
passed_words (Convert from to a) = words_of_kind to

abbrev pub all_passed : Arguments → ℕ
all_passed NoArguments = 0
all_passed (MoreArguments c cs) = passed_words c + all_passed cs

-- the representation kind (int, char, pointer, ..) to which an argument is converted before it is passed
abbrev pub kind_passed : Converted → Kind
kind_passed (Convert from to a) = to

abbrev pub kinds_passed : Arguments → List Kind
kinds_passed NoArguments = []
kinds_passed (MoreArguments c cs) = kind_passed c ∷ kinds_passed cs

-- the code of an int, whose low byte is moved to slot d
abbrev pub masked_by : Option Operand → (code : List Instruction) → Operand → (d : ℕ) → List Instruction
masked_by known code o d = code_unless known code ++ low_byte o d ∷ []

-- The code of a value, which is moved to slot d before its conversion; for an int that becomes a char, only the low byte is moved.
abbrev pub brought_by : (from to : Kind) → Option Operand → (code : List Instruction) → Operand → (at_once : List Instruction) → (d : ℕ) → List Instruction
brought_by from to known code o at_once d = if masks from to then masked_by known code o d else at_once

-- the code of a value, followed by its conversion in place
abbrev pub converted_by : Starts → Option Operand → (code : List Instruction) → (from to : Kind) → (span : Option ℕ) → Operand → (p : ℕ) → List Instruction
converted_by starts known code from to span o p = code_unless known code ++ conversion_code starts from to span o (p + length (code_unless known code))

-- the code of a value, followed by its conversion and a move to slot d
abbrev pub moved_by : Starts → Option Operand → (code : List Instruction) → (from to : Kind) → (span : Option ℕ) → Operand → (p d : ℕ) → List Instruction
moved_by starts known code from to span o p d = converted_by starts known code from to span o p ++ move_of (words_of_kind to) d o ∷ []

-- the code of a pointer, followed by an access through it
abbrev pub followed_by : Starts → Option Operand → (code : List Instruction) → (thin : Bool) → (span : Option ℕ) → Operand → (t p : ℕ) → List Instruction
followed_by starts known code thin span o t p = code_unless known code ++ followed_code starts thin span o t (p + length (code_unless known code))

-- The code of a fat pointer in slot n and of an index, which is added to the pointer before the access.
abbrev pub element_by : Starts → (pointer index : List Instruction) → (span : Option ℕ) → (n : ℕ) → Operand → (t p : ℕ) → List Instruction
element_by starts pointer index span n o t p =
    pointer
    ++ (index
    ++ instructions.Binary plain_binary.Add (t + 2) (operands.Slot (n + 2)) o
    ∷ reached_code starts span n (t + 2) t (p + length pointer + length index + 1))

-- The code of a pointer, followed by its check for null in place.
abbrev pub tested_by : Starts → Option Operand → (code : List Instruction) → Operand → List Instruction
tested_by starts known code o = code_unless known code ++ check_code starts null_exception o
