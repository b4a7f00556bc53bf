-- This file bounds the sizes of the pieces of code of which expressions and statements consist.
use Rattle.std.proofs.Common.{◌≡◌, ℕ, zero, suc, ◌+◌, ◌*◌, ◌≤◌, Bool, true, false, List, [], ◌∷◌, ◌++◌, length, take, Option, None, Some, max, refl, arith}
use Rattle.std.specs.Prelude.{◌==◌, sum_by, if◌then◌else◌}
use Rattle.std.proofs.lemmas.List.Sums.{sum_by-append, sum_by-cons}
use Rattle.cyc_types.specs.declared.typed.Kind.{Kind}
use Rattle.cyc_types.specs.declared.typed.Kind.TheVariants as kinds
use Rattle.cyc_types.specs.declared.typed.UnaryOperator.{UnaryOperator}
use Rattle.cyc_types.specs.declared.typed.UnaryOperator.TheVariants as unary
use Rattle.cyc_types.specs.declared.typed.Operator.{Operator}
use Rattle.cyc_types.specs.declared.typed.Operator.TheVariants as operators
use Rattle.cyc_types.specs.declared.typed.PointerOperator.{PointerOperator}
use Rattle.cyc_types.specs.declared.typed.PointerOperator.TheVariants as pointers
use Rattle.cyc_types.specs.declared.typed.LogicalOperator.{LogicalOperator}
use Rattle.cyc_types.specs.declared.typed.LogicalOperator.TheVariants as logical
use Rattle.cyc_types.specs.TypedTrees.{Converted, Arguments, NoArguments, MoreArguments}
use Rattle.cyc_types.specs.Weight.{arguments_weight, more_arguments_weight}
use Rattle.cyc_plain.specs.declared.instruction.BinaryOperator.TheVariants as plain_binary
use Rattle.cyc_plain.specs.declared.instruction.UnaryOperator.TheVariants as plain_unary
use Rattle.cyc_plain.specs.declared.instruction.Operand.{Operand}
use Rattle.cyc_plain.specs.declared.instruction.Operand.TheVariants as operands
use Rattle.cyc_plain.specs.declared.instruction.Request.TheVariants as requests
use Rattle.cyc_plain.specs.declared.instruction.Instruction.{Instruction}
use Rattle.cyc_plain.specs.declared.instruction.Instruction.TheVariants as instructions
use Rattle.cyc_plain.specs.inside.Program.{instruction_size}
use Rattle.cyc_plain.specs.declared.limits.TheConstants.{RECORD_WORDS}
use Rattle.cyc_lower_proof.specs.inside.Slots.{Starts}
use Rattle.cyc_meaning.specs.Values.{words_of_kind, begins, following, bytes_from, words_for}
use Rattle.cyc_lower_proof.proofs.slots.Widths.{kind_few}
use Rattle.cyc_lower_proof.specs.inside.ValueCode.{passed_words, converted_by, moved_by, move_of, binary_operator, code_unless, code_unless_slot, conversion_code, divisor_code, checked_code, operator_code, truth_code, low_byte, test_code, is_in, copy_code, jump_if_zero}
use Rattle.cyc_lower_proof.specs.inside.ValueCode.{jump_if_nonzero, pointer_operator, index_of, first_two, pointer_instructions, address_code, element_by, count_code, tested_code, widened_code, conversion_by, tested_by, check_code, bounds_code, stepped_code, scaled_code}
use Rattle.cyc_lower_proof.specs.inside.ValueCode.{summed_code, bounded_code, past_bounded, thinned_code, reached_code, followed_code, followed_by, keeps_words, load_of, store_of, unary_instruction, last_byte_code, blank_code, scale_of, masks, masked_by, inside_code}
use Rattle.cyc_lower_proof.specs.inside.ObjectCode.{begun_code, filled_code, stores_code, cells_code, slots_of_kinds, object_code, saved_code, measured_code, sized_code}
use Rattle.cyc_lower_proof.specs.inside.ControlCode.{leave_code, opened_code, closed_code, named_code, handlers_code, marks_code, kept_code_in, restored_code_in}
use Rattle.cyc_meaning.specs.Operators.{null_exception}
use Rattle.cyc_lower_proof.specs.declared.exits.Opened.{Opened}
use Rattle.cyc_lower_proof.proofs.sizes.PieceWords.{passed_few}

abbrev pub code_size : List Instruction → ℕ
code_size code = sum_by instruction_size code

pub code_size-append : (a b : List Instruction) → code_size (a ++ b) ≡ code_size a + code_size b
code_size-append a b = sum_by-append instruction_size a b

pub cons : (i : Instruction) (a : List Instruction) → code_size (i ∷ a) ≡ instruction_size i + code_size a
cons i a = sum_by-cons instruction_size i a

pub taken_size : (n : ℕ) (code : List Instruction) → code_size (take n code) ≤ code_size code
taken_size zero code = omega arith
taken_size (suc n) [] = omega arith
taken_size (suc n) (i ∷ code) = omega (arith, cons i code, cons i (take n code), taken_size n code)

-- ---- expressions

pub unless_size : (known : Option Operand) (x : List Instruction) → code_size (code_unless known x) ≤ code_size x
unless_size (Some o) x = omega arith
unless_size None x = omega arith

pub unless_slot_size : (known : Option Operand) (x : List Instruction) → code_size (code_unless_slot known x) ≤ code_size x
unless_slot_size (Some (operands.Slot n)) x = omega arith
unless_slot_size (Some (operands.Word n)) x = omega arith
unless_slot_size None x = omega arith

tested_size : (starts : Starts) (to : Kind) (o : Operand) → code_size (tested_code starts to o) ≤ 18
tested_size starts kinds.NonNull o = omega arith
tested_size starts to o = omega arith

widened_size : (o : Operand) → code_size (widened_code o) ≤ 18
widened_size (operands.Slot n) = omega arith
widened_size (operands.Word w) = omega arith

scale_size : (bytes d m : ℕ) → code_size (scale_of bytes d m ∷ []) ≤ 11
scale_size bytes d m = by (bytes == 4) (bytes == 1)
  where
    by : (narrow one : Bool)
        → code_size ((if narrow then instructions.Binary plain_binary.ShiftLeft d (operands.Slot m) (operands.Word 2) else if one then instructions.Move d (operands.Slot m) else instructions.Binary plain_binary.Multiply d (operands.Slot m) (operands.Word 12)) ∷ []) ≤ 11
    by true one = omega arith
    by false true = omega arith
    by false false = omega arith

scaled_size : (span : Option ℕ) (m x : ℕ) → code_size (scaled_code span m x) ≤ 11
scaled_size None m x = omega arith
scaled_size (Some bytes) m x = scale_size bytes x m

summed_size : (span : Option ℕ) (n x t : ℕ) → code_size (summed_code span n x t) ≤ 11
summed_size None n x t = omega arith
summed_size (Some bytes) n x t = omega arith

stepped_size : (span : Option ℕ) (n m t : ℕ) → code_size (stepped_code span n m t) ≤ 22
stepped_size None n m t = omega arith
stepped_size (Some bytes) n m t =
    omega (arith, code_size-append (scale_of bytes (t + 2) m ∷ []) (instructions.Binary plain_binary.Add t (operands.Slot n) (operands.Slot (t + 2)) ∷ []), scale_size bytes (t + 2) m)

bounded_size : (starts : Starts) (span : Option ℕ) (n m t : ℕ) → code_size (bounded_code starts span n m t) ≤ 33
bounded_size starts span n m t = omega (arith, code_size-append (bounds_code starts (operands.Slot m) (operands.Slot (n + 1))) (stepped_code span n m t), stepped_size span n m t)

reached_size : (starts : Starts) (span : Option ℕ) (n m t p : ℕ) → code_size (reached_code starts span n m t p) ≤ 55
reached_size starts span n m t p =
    let scaled = scaled_code span m (t + 3) in
    let inside = inside_code starts n m (p + length scaled) in
    let summed = summed_code span n (t + 3) t in
    omega (
      arith,
      code_size-append scaled (inside ++ summed),
      code_size-append inside summed,
      scaled_size span m (t + 3),
      summed_size span n (t + 3) t,
    )

thinned_size : (starts : Starts) (to : Kind) (span : Option ℕ) (o : Operand) (p : ℕ) → code_size (thinned_code starts to span o p) ≤ 44
thinned_size starts kinds.NonNull span (operands.Slot n) p =
    omega (arith, code_size-append (check_code starts null_exception (operands.Slot n)) (bounded_code starts span n (n + 2) n), bounded_size starts span n (n + 2) n)
thinned_size starts kinds.Nullable span (operands.Slot n) p =
    omega (arith, cons (jump_if_zero (operands.Slot n) (p + past_bounded span)) (bounded_code starts span n (n + 2) n), bounded_size starts span n (n + 2) n)
thinned_size starts to span o p = omega arith

conversion_by_size : (starts : Starts) (wide : Bool) (to : Kind) (span : Option ℕ) (o : Operand) (p : ℕ) → code_size (conversion_by starts wide to span o p) ≤ 44
conversion_by_size starts true to span o p = omega (arith, tested_size starts to o)
conversion_by_size starts false kinds.Fat span o p = omega (arith, widened_size o)
conversion_by_size starts false to span o p = thinned_size starts to span o p

-- The size of the code that moves the low byte of an int that becomes a char.
abbrev masking_size : (from to : Kind) → ℕ
masking_size from to = if masks from to then 11 else 0

-- A bound for the size of the code that converts a value, including the code that masks the low byte of an int.
pub conversion_size : (starts : Starts) (from to : Kind) (span : Option ℕ) (o : Operand) (p : ℕ) → masking_size from to + code_size (conversion_code starts from to span o p) ≤ 44
conversion_size starts kinds.Int kinds.Char span o p = omega arith
conversion_size starts from to span o p = omega (arith, conversion_by_size starts (keeps_words from to) to span o p)

divisor_size : (starts : Starts) (o : Operand) → code_size (divisor_code starts o) ≤ 18
divisor_size starts (operands.Word (suc n)) = omega arith
divisor_size starts (operands.Word zero) = omega arith
divisor_size starts (operands.Slot n) = omega arith

binary_size : (o : Operator) (l r : Operand) (d : ℕ) → instruction_size (instructions.Binary (binary_operator o) d l r) ≤ 18
binary_size operators.Divide l r d = omega arith
binary_size operators.Remainder l r d = omega arith
binary_size o l r d = omega arith

checked_size : (starts : Starts) (o : Operator) (l r : Operand) (d : ℕ) → code_size (checked_code starts o l r d) ≤ 36
checked_size starts o l r d = omega (arith, code_size-append (divisor_code starts r) (instructions.Binary (binary_operator o) d l r ∷ []), divisor_size starts r, binary_size o l r d)

pub operator_size : (starts : Starts) (o : Operator) (l r : Operand) (d : ℕ) → code_size (operator_code starts o l r d) ≤ 36
operator_size starts operators.Divide l r d = checked_size starts operators.Divide l r d
operator_size starts operators.Remainder l r d = checked_size starts operators.Remainder l r d
operator_size starts o l r d = omega arith

pub move_size : (words d : ℕ) (o : Operand) → words ≤ 3 → code_size (move_of words d o ∷ []) ≤ 20
move_size words d (operands.Word n) few = omega arith
move_size words d (operands.Slot n) few = by (words == 1)
  where
    by : (one : Bool) → code_size ((if one then instructions.Move d (operands.Slot n) else instructions.MoveWords d n words) ∷ []) ≤ 20
    by true = omega arith
    by false = omega (arith, few)

pub copy_size : (c : Converted) (o : Operand) (d : ℕ) → code_size (copy_code (passed_words c) o d) ≤ 20
copy_size c o d = by (is_in o d)
  where
    by : (is : Bool) → code_size (if is then [] else move_of (passed_words c) d o ∷ []) ≤ 20
    by true = omega arith
    by false = move_size (passed_words c) d o (passed_few c)

-- A bound for the size of the code that moves an address.
pub copied_address_size : (o : Operand) (d : ℕ) → code_size (copy_code 1 o d) ≤ 6
copied_address_size (operands.Word n) d = omega arith
copied_address_size (operands.Slot n) d = by (n == d)
  where
    by : (is : Bool) → code_size (if is then [] else instructions.Move d (operands.Slot n) ∷ []) ≤ 6
    by true = omega arith
    by false = omega arith

-- A bound for the size of the code that moves a fat pointer.
pub copied_pointer_size : (t d : ℕ) → code_size (copy_code 3 (operands.Slot t) d) ≤ 20
copied_pointer_size t d = by (t == d)
  where
    by : (is : Bool) → code_size (if is then [] else instructions.MoveWords d t 3 ∷ []) ≤ 20
    by true = omega arith
    by false = omega arith

pub address_size : (o : Operand) (bytes d : ℕ) → code_size (address_code o bytes d) ≤ 11
address_size o zero d = omega (arith, copied_address_size o d)
address_size o (suc bytes) d = omega arith

pub brought_by_size : (from to : Kind) (known : Option Operand) (inner at_once : List Instruction) (o : Operand) (d bound : ℕ) → code_size inner ≤ bound → code_size at_once ≤ bound
    → code_size (if masks from to then masked_by known inner o d else at_once) ≤ bound + masking_size from to
brought_by_size from to known inner at_once o d bound few other = by (masks from to)
  where
    by : (masking : Bool) → code_size (if masking then masked_by known inner o d else at_once) ≤ bound + (if masking then 11 else 0)
    by true = omega (arith, code_size-append (code_unless known inner) (low_byte o d ∷ []), unless_size known inner, few)
    by false = omega (arith, other)

pub converted_by_size : (starts : Starts) (known : Option Operand) (inner : List Instruction) (from to : Kind) (span : Option ℕ) (o : Operand) (p bound : ℕ) → code_size inner ≤ bound + masking_size from to → code_size (converted_by starts known inner from to span o p) ≤ bound + 44
converted_by_size starts known inner from to span o p bound few =
    let front = code_unless known inner in
    omega (arith, code_size-append front (conversion_code starts from to span o (p + length front)), unless_size known inner, few, conversion_size starts from to span o (p + length front))

followed_size : (starts : Starts) (thin : Bool) (span : Option ℕ) (o : Operand) (t p : ℕ) → code_size (followed_code starts thin span o t p) ≤ 55
followed_size starts true span o t p = omega arith
followed_size starts false span (operands.Slot n) t p = reached_size starts span n (n + 2) t p
followed_size starts false span (operands.Word w) t p = omega arith

pub followed_by_size : (starts : Starts) (known : Option Operand) (inner : List Instruction) (thin : Bool) (span : Option ℕ) (o : Operand) (t p bound : ℕ) → code_size inner ≤ bound → code_size (followed_by starts known inner thin span o t p) ≤ bound + 55
followed_by_size starts known inner thin span o t p bound few =
    let q = p + length (code_unless known inner) in
    omega (arith, code_size-append (code_unless known inner) (followed_code starts thin span o t q), unless_size known inner, few, followed_size starts thin span o t q)

pub tested_by_size : (starts : Starts) (known : Option Operand) (inner : List Instruction) (o : Operand) (bound : ℕ) → code_size inner ≤ bound → code_size (tested_by starts known inner o) ≤ bound + 18
tested_by_size starts known inner o bound few = omega (arith, code_size-append (code_unless known inner) (check_code starts null_exception o), unless_size known inner, few)

pub initial_by_size : (starts : Starts) (there : Bool) (known : Option Operand) (at_once inner : List Instruction) (from to : Kind) (span : Option ℕ) (o : Operand) (p d bound : ℕ) → code_size at_once ≤ bound + masking_size from to → code_size inner ≤ bound + masking_size from to
    → code_size (if there then at_once else moved_by starts known inner from to span o p d) ≤ bound + 64
initial_by_size starts true known at_once inner from to span o p d bound few other = omega (arith, few, conversion_size starts from to span o p)
initial_by_size starts false known at_once inner from to span o p d bound few other =
    omega (
      arith,
      code_size-append (converted_by starts known inner from to span o p) (move_of (words_of_kind to) d o ∷ []),
      converted_by_size starts known inner from to span o p bound other,
      move_size (words_of_kind to) d o (kind_few to),
    )

first_two_size : (l : Operand) (d : ℕ) → code_size (first_two l d) ≤ 14
first_two_size (operands.Word n) d = omega arith
first_two_size (operands.Slot n) d = by (n == d)
  where
    by : (there : Bool) → code_size (if there then [] else instructions.MoveWords d n 2 ∷ []) ≤ 14
    by true = omega arith
    by false = omega arith

pub unary_size : (o : UnaryOperator) (d : ℕ) (r : Operand) → instruction_size (unary_instruction o d r) ≤ 11
unary_size unary.LowByte d r = omega arith
unary_size o d r = omega arith

pub pointer_size : (o : PointerOperator) (l r : Operand) (d : ℕ) → code_size (pointer_instructions o l r d) ≤ 36
pointer_size pointers.AddFat l r d = omega (arith, cons (instructions.Binary (pointer_operator pointers.AddFat) (d + 2) (index_of l) r) (first_two l d), first_two_size l d)
pointer_size pointers.SubtractFat l r d = omega (arith, cons (instructions.Binary (pointer_operator pointers.SubtractFat) (d + 2) (index_of l) r) (first_two l d), first_two_size l d)
pointer_size pointers.ThinIsNull l r d = omega arith
pointer_size pointers.ThinIsNotNull l r d = omega arith
pointer_size pointers.FatIsNull l r d = omega arith
pointer_size pointers.FatIsNotNull l r d = omega arith
pointer_size pointers.NullIs l r d = omega arith
pointer_size pointers.NullIsNot l r d = omega arith
pointer_size pointers.EqualThin l r d = omega arith
pointer_size pointers.NotEqualThin l r d = omega arith

pub count_size : (o : Operand) (p d : ℕ) → code_size (count_code o p d) ≤ 30
count_size (operands.Word n) p d = omega arith
count_size (operands.Slot n) p d = omega arith

pub element_by_size : (starts : Starts) (there : Option Operand) (front : List Instruction) (known : Option Operand) (inner : List Instruction) (span : Option ℕ) (s : ℕ) (o : Operand) (t p n m : ℕ)
    → code_size front ≤ n
    → code_size inner ≤ m
    → code_size (element_by starts (code_unless_slot there front) (code_unless known inner) span s o t p) ≤ n + m + 69
element_by_size starts there front known inner span s o t p n m first second =
    let operand = code_unless known inner in
    let sum = instructions.Binary plain_binary.Add (t + 2) (operands.Slot (s + 2)) o in
    let q = p + length (code_unless_slot there front) + length operand + 1 in
    let reached = reached_code starts span s (t + 2) t q in
    omega (
      arith,
      code_size-append (code_unless_slot there front) (operand ++ sum ∷ reached),
      code_size-append operand (sum ∷ reached),
      cons sum reached,
      unless_slot_size there front,
      unless_size known inner,
      first,
      second,
      reached_size starts span s (t + 2) t q,
    )

pub test_size : (o : LogicalOperator) (operand : List Instruction) (p d t : ℕ) → code_size (test_code o operand p d t) ≤ 25 + code_size operand
test_size logical.AndThen operand p d t = omega (arith, code_size-append operand (truth_code t d), cons (jump_if_zero (operands.Slot t) (p + 1 + length operand)) (operand ++ truth_code t d))
test_size logical.OrElse operand p d t = omega (arith, code_size-append operand (truth_code t d), cons (jump_if_nonzero (operands.Slot t) (p + 1 + length operand)) (operand ++ truth_code t d))

-- A load or store of a byte has the same size as a load or store of a word.
pub load_of_size : (kind : Kind) (d : ℕ) (address : Operand) (offset : ℕ) → instruction_size (load_of kind d address offset) ≡ 10
load_of_size kinds.Char d address offset = refl
load_of_size kind d address offset = refl

store_of_size : (kind : Kind) (address : Operand) (offset : ℕ) (o : Operand) → instruction_size (store_of kind address offset o) ≡ 10
store_of_size kinds.Char address offset o = refl
store_of_size kind address offset o = refl

pub stores_size : (kind : Kind) (many address offset slot : ℕ) → code_size (stores_code kind many address offset slot) ≡ 10 * many
stores_size kind zero address offset slot = refl
stores_size kind (suc many) address offset slot =
    omega (
      arith,
      cons (store_of kind (operands.Slot address) offset (operands.Slot slot)) (stores_code kind many address (offset + 4) (suc slot)),
      store_of_size kind (operands.Slot address) offset (operands.Slot slot),
      stores_size kind many address (offset + 4) (suc slot),
    )

pub saved_size : (kind : Kind) (address : ℕ) (o : Operand) → code_size (saved_code kind address o) ≤ 30
saved_size kind address (operands.Slot n) = omega (arith, stores_size kind (words_of_kind kind) address 0 n, kind_few kind)
saved_size kind address (operands.Word n) =
    omega (arith, cons (store_of kind (operands.Slot address) 0 (operands.Word n)) [], store_of_size kind (operands.Slot address) 0 (operands.Word n))

pub loaded_size : (narrow : Bool) (kind : Kind) (o : Operand) (bytes d t : ℕ)
    → code_size (if narrow then load_of kind d o bytes ∷ [] else address_code o bytes t ++ (instructions.Load (d + 2) (operands.Slot t) 8 ∷ instructions.Load (d + 1) (operands.Slot t) 4 ∷ instructions.Load d (operands.Slot t) 0 ∷ [])) ≤ 41
loaded_size true kind o bytes d t = omega (arith, cons (load_of kind d o bytes) [], load_of_size kind d o bytes)
loaded_size false kind o bytes d t =
    omega (arith, code_size-append (address_code o bytes t) (instructions.Load (d + 2) (operands.Slot t) 8 ∷ instructions.Load (d + 1) (operands.Slot t) 4 ∷ instructions.Load d (operands.Slot t) 0 ∷ []), address_size o bytes t)

cells_size : (ks : List Kind) (address at slot : ℕ) → code_size (cells_code ks address at slot) ≡ 10 * slots_of_kinds ks
cells_size [] address at slot = refl
cells_size (kind ∷ ks) address at slot =
    let first = stores_code kind (words_of_kind kind) address (begins kind at) slot in
    let others = cells_code ks address (following kind at) (slot + words_of_kind kind) in
    omega (arith, code_size-append first others, stores_size kind (words_of_kind kind) address (begins kind at) slot, cells_size ks address (following kind at) (slot + words_of_kind kind))

pub object_size : (handle : Operand) (ks : List Kind) (d t : ℕ) → code_size (object_code handle ks d t) ≡ 17 + 10 * slots_of_kinds ks
object_size handle ks d t =
    let words = slots_of_kinds ks in
    let move = instructions.Move d (operands.Slot (t + words)) ∷ [] in
    omega (
      arith,
      cons (instructions.Ask (requests.Allocate (t + words) handle (operands.Word (max 1 (words_for (bytes_from 0 ks)))))) (cells_code ks (t + words) 0 t ++ move),
      code_size-append (cells_code ks (t + words) 0 t) move,
      cells_size ks (t + words) 0 t,
    )

-- A bound for the size of the code that begins an array.
sized_size : (kind : Kind) (t : ℕ) → code_size (sized_code kind t) ≤ 22
sized_size kinds.Int t = omega arith
sized_size kinds.Char t = omega arith
sized_size kinds.Nullable t = omega arith
sized_size kinds.NonNull t = omega arith
sized_size kinds.Fat t = omega arith
sized_size kinds.Handle t = omega arith
sized_size kinds.Key t = omega arith

pub begun_size : (starts : Starts) (handle : Operand) (kind : Kind) (t : ℕ) → code_size (begun_code starts handle kind t) ≤ 80
begun_size starts handle kind t =
    let asks = instructions.Unary plain_unary.Not (t + 3) (operands.Slot t) ∷ instructions.Binary plain_binary.Add (t + 3) (operands.Slot (t + 3)) (operands.Slot t) ∷ instructions.Ask (requests.Allocate t handle (operands.Slot (t + 3))) ∷ [] in
    omega (arith, code_size-append (measured_code starts kind (t + 1) (t + 2) t) (sized_code kind t ++ asks), code_size-append (sized_code kind t) asks, sized_size kind t)

-- A bound for the size of the code for the address of the last byte of a variable.
pub last_byte_size : (kind : Kind) (d : ℕ) → code_size (last_byte_code kind d) ≤ 11
last_byte_size kinds.Char d = omega arith
last_byte_size kind d = omega arith

pub blank_size : (kind : Kind) (slot : ℕ) → code_size (blank_code kind slot) ≤ 6
blank_size kinds.Char slot = omega arith
blank_size kind slot = omega arith

-- A bound for the size of the code that stores an element of an array in its cell.
pub filled_size : (kind : Kind) (head t : ℕ) → code_size (filled_code kind head t) ≤ 80
filled_size kinds.Int head t = omega arith
filled_size kinds.Char head t = omega arith
filled_size kinds.Nullable head t = omega arith
filled_size kinds.NonNull head t = omega arith
filled_size kinds.Fat head t = omega arith
filled_size kinds.Handle head t = omega arith
filled_size kinds.Key head t = omega arith

-- ---- regions and handlers

pub closed_size : (m : ℕ) → code_size (closed_code m) ≤ 10
closed_size m = omega arith

pub opened_size : (starts : Starts) (n t : ℕ) → code_size (opened_code starts n t) ≤ 36
opened_size starts n t =
    let name = named_code starts 1 n (operands.Slot (t + 1)) in
    let keep = instructions.Move t (operands.Slot (t + 2)) in
    omega (arith, cons (instructions.Ask (requests.OpenLexical (t + 1))) (keep ∷ name), cons keep name)

handlers_size : (first : Option ℕ) → code_size (handlers_code first) ≤ 5
handlers_size None = omega arith
handlers_size (Some first) = omega arith

marks_size : (mark : Option ℕ) → code_size (marks_code mark) ≤ 10
marks_size None = omega arith
marks_size (Some m) = closed_size m

-- The code that leaves a construct has one instruction that closes all of its handlers, if there are any, and one that closes all of its
-- regions.
pub leave_size : (opened : Opened) → code_size (leave_code opened) ≤ 15
leave_size opened = omega (arith, code_size-append (handlers_code opened.handler) (marks_code opened.mark), handlers_size opened.handler, marks_size opened.mark)

pub kept_size : (scopes : Option ℕ) (t : ℕ) → code_size (kept_code_in scopes t) ≤ 5
kept_size None t = omega arith
kept_size (Some place) t = omega arith

pub restored_size : (scopes : Option ℕ) (t : ℕ) → code_size (restored_code_in scopes t) ≤ 10
restored_size None t = omega arith
restored_size (Some place) t = closed_size (t + RECORD_WORDS)

-- A list of arguments with a comma before each argument has at most one token more than the list without the first comma.
pub more_weight : (cs : Arguments) → more_arguments_weight cs ≤ arguments_weight cs + 1
more_weight NoArguments = omega arith
more_weight (MoreArguments c cs) = omega arith
