-- The pieces of code of which expressions and statements consist contain only 32-bit words if the operands
-- and smaller pieces of code inside them do.
use Rattle.std.proofs.Common.{◌≡◌, ℕ, zero, suc, ◌+◌, ◌*◌, ◌≤◌, max, Bool, true, false, List, [], ◌∷◌, ◌++◌, length, take, Option, None, Some, refl, arith}
use Rattle.cyc_meaning.specs.Operators.{null_exception, division_by_zero, array_bounds}
use Rattle.std.specs.List.{AllByRecursion}
use Rattle.cyc_words.proofs.WordLemmas.{IsWord-add_of}
use Rattle.cyc_words.specs.Word.{IsWord, add_of}
use Rattle.cyc_types.specs.declared.typed.Kind.{Kind}
use Rattle.cyc_types.specs.declared.typed.Kind.TheVariants as kinds
use Rattle.cyc_types.specs.declared.typed.UnaryOperator.{UnaryOperator}
use Rattle.cyc_types.specs.declared.typed.UnaryOperator.TheVariants as unary
use Rattle.cyc_types.specs.declared.typed.Operator.{Operator}
use Rattle.cyc_types.specs.declared.typed.Operator.TheVariants as operators
use Rattle.cyc_types.specs.declared.typed.PointerOperator.{PointerOperator}
use Rattle.cyc_types.specs.declared.typed.PointerOperator.TheVariants as pointers
use Rattle.cyc_types.specs.declared.typed.LogicalOperator.{LogicalOperator}
use Rattle.cyc_types.specs.declared.typed.LogicalOperator.TheVariants as logical
use Rattle.cyc_types.specs.TypedTrees.{Converted, Convert, StructType}
use Rattle.cyc_plain.specs.declared.instruction.Comparison.{Comparison}
use Rattle.cyc_plain.specs.declared.instruction.BinaryOperator.TheVariants as plain_binary
use Rattle.cyc_plain.specs.declared.instruction.Comparison.TheVariants as comparisons
use Rattle.cyc_plain.specs.declared.instruction.Operand.{Operand}
use Rattle.cyc_plain.specs.declared.instruction.Operand.TheVariants as operands
use Rattle.cyc_plain.specs.declared.instruction.Instruction.{Instruction}
use Rattle.cyc_plain.specs.declared.instruction.Instruction.TheVariants as instructions
use Rattle.cyc_plain.specs.inside.WellFormed.{IsOfWord, HasWord, is_return}
use Rattle.cyc_lower_proof.specs.inside.Slots.{Starts, begins_word, field_from, field_in}
use Rattle.std.specs.Prelude.{◌==◌, if◌then◌else◌}
use Rattle.cyc_words.proofs.Lists.{all_append}
use Rattle.cyc_types.specs.Types.{Ty}
use Rattle.cyc_meaning.specs.Values.{words_of_kind, bytes_of_kind, begins, following, bytes_from, words_for, kind_of}
use Rattle.cyc_lower_proof.specs.inside.ValueCode.{passed_words, converted_by, moved_by, move_of, code_unless, code_unless_slot, check_code, conversion_code, divisor_code, checked_code, operator_code, truth_code, test_code, is_in, index_of, first_two}
use Rattle.cyc_lower_proof.specs.inside.ValueCode.{pointer_instructions, address_code, guard_code, blocks, element_by, count_code, tested_code, widened_code, conversion_by, tested_by, bounds_code, stepped_code, scaled_code, summed_code, bounded_code}
use Rattle.cyc_lower_proof.specs.inside.ValueCode.{thinned_code, reached_code, followed_code, followed_operand, followed_by, reached_operand, keeps_words, scale_of, load_of, store_of, unary_instruction, last_byte_code, blank_code, masked_by, low_byte, inside_code}
use Rattle.cyc_lower_proof.specs.inside.ObjectCode.{begun_code, filled_code, stores_code, cells_code, slots_of_kinds, object_code, saved_code, asked_code, measured_code, sized_code, most_elements}
use Rattle.cyc_lower_proof.proofs.slots.Widths.{kind_few}
use Rattle.cyc_lower_proof.proofs.slots.CellBytes.{begins_within, after_within, bytes_within}

-- ---- instructions

-- Says that the lowering may emit an instruction. An instruction that the lowering may emit contains only 32-bit words, is not a
-- return that leaves handlers open, and is not an `Enter`.
abbrev pub IsMade : Instruction → Type 0
IsMade (instructions.Return value) = ⊥
IsMade (instructions.Enter function) = ⊥
IsMade i = HasWord i

pub made_word : (i : Instruction) → IsMade i → HasWord i
made_word (instructions.Return value) made = absurd made
made_word (instructions.Enter function) made = absurd made
made_word i made = made

pub made_no_return : (i : Instruction) → IsMade i → is_return i ≡ false
made_no_return (instructions.Return value) made = absurd made
made_no_return (instructions.Enter function) made = absurd made
made_no_return i made = refl

abbrev pub HaveWords : List Instruction → Type 0
HaveWords code = AllByRecursion IsMade code

pub passed_few : (c : Converted) → passed_words c ≤ 3
passed_few (Convert from to a) = kind_few to

pub append : (x y : List Instruction) → HaveWords x → HaveWords y → HaveWords (x ++ y)
append x y first rest = all_append IsMade x y first rest

-- ---- operands

pub unless_words : (known : Option Operand) (x : List Instruction) → HaveWords x → HaveWords (code_unless known x)
unless_words (Some o) x words = tt
unless_words None x words = words

pub unless_slot_words : (known : Option Operand) (x : List Instruction) → HaveWords x → HaveWords (code_unless_slot known x)
unless_slot_words (Some (operands.Slot n)) x words = tt
unless_slot_words (Some (operands.Word n)) x words = words
unless_slot_words None x words = words

-- ---- expressions

guard_words : (starts : Starts) (tag : ℕ) (failing : Comparison) (l r : Operand) → IsOfWord l → IsOfWord r → HaveWords (guard_code starts tag failing l r)
guard_words starts tag failing l r left right = ((left, right), tt)

check_words : (starts : Starts) (tag : ℕ) (o : Operand) → IsOfWord o → HaveWords (check_code starts tag o)
check_words starts tag o word = guard_words starts tag comparisons.Equal o (operands.Word 0) word (omega arith)

tested_words : (starts : Starts) (to : Kind) (o : Operand) → IsOfWord o → HaveWords (tested_code starts to o)
tested_words starts kinds.NonNull o word = check_words starts null_exception o word
tested_words starts to o word = tt

widened_words : (o : Operand) → HaveWords (widened_code o)
widened_words (operands.Slot n) = ((tt, omega arith), (omega arith, tt))
widened_words (operands.Word w) = tt

bounds_words : (starts : Starts) (index bound : Operand) → IsOfWord index → IsOfWord bound → HaveWords (bounds_code starts index bound)
bounds_words starts index bound first second = guard_words starts array_bounds comparisons.GreaterOrEqualUnsigned index bound first second

scale_words : (bytes d m : ℕ) → IsMade (scale_of bytes d m)
scale_words bytes d m = by (bytes == 4) (bytes == 1)
  where
    by : (narrow one : Bool)
        → IsMade (if narrow then instructions.Binary plain_binary.ShiftLeft d (operands.Slot m) (operands.Word 2) else if one then instructions.Move d (operands.Slot m) else instructions.Binary plain_binary.Multiply d (operands.Slot m) (operands.Word 12))
    by true one = (tt, omega arith)
    by false true = tt
    by false false = (tt, omega arith)

stepped_words : (span : Option ℕ) (n m t : ℕ) → HaveWords (stepped_code span n m t)
stepped_words None n m t = tt
stepped_words (Some bytes) n m t = (scale_words bytes (t + 2) m, ((tt, tt), tt))

bounded_words : (starts : Starts) (span : Option ℕ) (n m t : ℕ) → HaveWords (bounded_code starts span n m t)
bounded_words starts span n m t =
    append (bounds_code starts (operands.Slot m) (operands.Slot (n + 1))) (stepped_code span n m t) (bounds_words starts (operands.Slot m) (operands.Slot (n + 1)) tt tt) (stepped_words span n m t)

scaled_words : (span : Option ℕ) (m x : ℕ) → HaveWords (scaled_code span m x)
scaled_words None m x = tt
scaled_words (Some bytes) m x = (scale_words bytes x m, tt)

summed_words : (span : Option ℕ) (n x t : ℕ) → HaveWords (summed_code span n x t)
summed_words None n x t = tt
summed_words (Some bytes) n x t = ((tt, tt), tt)

inside_words : (starts : Starts) (n m p : ℕ) → HaveWords (inside_code starts n m p)
inside_words starts n m p = ((tt, tt), ((tt, omega arith), (tt, tt)))

reached_words : (starts : Starts) (span : Option ℕ) (n m t p : ℕ) → HaveWords (reached_code starts span n m t p)
reached_words starts span n m t p =
    let scaled = scaled_code span m (t + 3) in
    let inside = inside_code starts n m (p + length scaled) in
    let summed = summed_code span n (t + 3) t in
    append scaled (inside ++ summed) (scaled_words span m (t + 3)) (append inside summed (inside_words starts n m (p + length scaled)) (summed_words span n (t + 3) t))

thinned_words : (starts : Starts) (to : Kind) (span : Option ℕ) (o : Operand) (p : ℕ) → HaveWords (thinned_code starts to span o p)
thinned_words starts kinds.NonNull span (operands.Slot n) p =
    append (check_code starts null_exception (operands.Slot n)) (bounded_code starts span n (n + 2) n) (check_words starts null_exception (operands.Slot n) tt) (bounded_words starts span n (n + 2) n)
thinned_words starts kinds.Nullable span (operands.Slot n) p = ((tt, omega arith), bounded_words starts span n (n + 2) n)
thinned_words starts to span o p = tt

conversion_by_words : (starts : Starts) (wide : Bool) (to : Kind) (span : Option ℕ) (o : Operand) (p : ℕ) → IsOfWord o → HaveWords (conversion_by starts wide to span o p)
conversion_by_words starts true to span o p word = tested_words starts to o word
conversion_by_words starts false kinds.Fat span o p word = widened_words o
conversion_by_words starts false to span o p word = thinned_words starts to span o p

pub conversion_words : (starts : Starts) (from to : Kind) (span : Option ℕ) (o : Operand) (p : ℕ) → IsOfWord o → HaveWords (conversion_code starts from to span o p)
conversion_words starts from to span o p word = conversion_by_words starts (keeps_words from to) to span o p word

divisor_words : (starts : Starts) (o : Operand) → IsOfWord o → HaveWords (divisor_code starts o)
divisor_words starts (operands.Word (suc n)) word = tt
divisor_words starts (operands.Word zero) word = check_words starts division_by_zero (operands.Word zero) word
divisor_words starts (operands.Slot n) word = check_words starts division_by_zero (operands.Slot n) word

checked_words : (starts : Starts) (o : Operator) (l r : Operand) (d : ℕ) → IsOfWord l → IsOfWord r → HaveWords (checked_code starts o l r d)
checked_words starts o l r d left right = append (divisor_code starts r) _ (divisor_words starts r right) ((left, right), tt)

pub operator_words : (starts : Starts) (o : Operator) (l r : Operand) (d : ℕ) → IsOfWord l → IsOfWord r → HaveWords (operator_code starts o l r d)
operator_words starts operators.Divide l r d left right = checked_words starts operators.Divide l r d left right
operator_words starts operators.Remainder l r d left right = checked_words starts operators.Remainder l r d left right
operator_words starts o l r d left right = ((left, right), tt)

-- The blocks that raise exceptions, after the body of a function, contain only 32-bit words.
pub taken_words : (n : ℕ) (code : List Instruction) → HaveWords code → HaveWords (take n code)
taken_words zero code words = tt
taken_words (suc n) [] words = tt
taken_words (suc n) (i ∷ code) (first, rest) = (first, taken_words n code rest)

pub blocks_words : (slot : ℕ) → HaveWords (blocks slot)
blocks_words slot = ((tt, omega arith), ((tt, omega arith), ((omega arith, omega arith), ((omega arith, omega arith), ((omega arith, omega arith), ((omega arith, omega arith), tt))))))

pub move_words : (words d : ℕ) (o : Operand) → IsOfWord o → HaveWords (move_of words d o ∷ [])
move_words words d (operands.Word n) word = (word, tt)
move_words words d (operands.Slot n) word = by (words == 1)
  where
    by : (one : Bool) → HaveWords ((if one then instructions.Move d (operands.Slot n) else instructions.MoveWords d n words) ∷ [])
    by true = (tt, tt)
    by false = (tt, tt)

pub copy_words : (is : Bool) (words : ℕ) (o : Operand) (d : ℕ) → IsOfWord o → HaveWords (if is then [] else move_of words d o ∷ [])
copy_words true words o d word = tt
copy_words false words o d word = move_words words d o word

pub address_words : (o : Operand) (bytes d : ℕ) → IsOfWord o → IsWord bytes → HaveWords (address_code o bytes d)
address_words o zero d word small = copy_words (is_in o d) 1 o d word
address_words o (suc bytes) d word small = ((word, small), tt)

begins_small : (kind : Kind) (at : ℕ) → IsWord at → IsWord (begins_word kind at)
begins_small kinds.Int at small = omega arith
begins_small kinds.Char at small = small
begins_small kinds.Nullable at small = omega arith
begins_small kinds.NonNull at small = omega arith
begins_small kinds.Fat at small = omega arith
begins_small kinds.Handle at small = omega arith
begins_small kinds.Key at small = omega arith

bytes_word : (ts : List Ty) (field bytes : ℕ) → IsWord bytes → IsWord (field_from bytes ts field)
bytes_word [] field bytes small = small
bytes_word (t ∷ ts) zero bytes small = begins_small (kind_of t) bytes small
bytes_word (t ∷ ts) (suc field) bytes small =
    bytes_word ts field (add_of (begins_word (kind_of t) bytes) (bytes_of_kind (kind_of t))) (IsWord-add_of (begins_word (kind_of t) bytes) (bytes_of_kind (kind_of t)))

pub field_word : (s : Option StructType) (field : ℕ) → IsWord (field_in s field)
field_word None field = omega arith
field_word (Some s) field = bytes_word s.fields field 0 (omega arith)

pub converted_by_words : (starts : Starts) (known : Option Operand) (inner : List Instruction) (from to : Kind) (span : Option ℕ) (o : Operand) (p : ℕ) → HaveWords inner → IsOfWord o → HaveWords (converted_by starts known inner from to span o p)
converted_by_words starts known inner from to span o p all word =
    let front = code_unless known inner in
    append front (conversion_code starts from to span o (p + length front)) (unless_words known inner all) (conversion_words starts from to span o (p + length front) word)

followed_words : (starts : Starts) (thin : Bool) (span : Option ℕ) (o : Operand) (t p : ℕ) → IsOfWord o → HaveWords (followed_code starts thin span o t p)
followed_words starts true span o t p word = check_words starts null_exception o word
followed_words starts false span (operands.Slot n) t p word = reached_words starts span n (n + 2) t p
followed_words starts false span (operands.Word w) t p word = check_words starts null_exception (operands.Word w) word

pub reached_word : (span : Option ℕ) (n t : ℕ) → IsOfWord (reached_operand span n t)
reached_word None n t = tt
reached_word (Some words) n t = tt

pub followed_word : (thin : Bool) (span : Option ℕ) (o : Operand) (t : ℕ) → IsOfWord o → IsOfWord (followed_operand thin span o t)
followed_word true span o t word = word
followed_word false None (operands.Slot n) t word = tt
followed_word false (Some words) (operands.Slot n) t word = tt
followed_word false span (operands.Word w) t word = word

pub followed_by_words : (starts : Starts) (known : Option Operand) (inner : List Instruction) (thin : Bool) (span : Option ℕ) (o : Operand) (t p : ℕ) → HaveWords inner → IsOfWord o → HaveWords (followed_by starts known inner thin span o t p)
followed_by_words starts known inner thin span o t p all word =
    append (code_unless known inner) _ (unless_words known inner all) (followed_words starts thin span o t (p + length (code_unless known inner)) word)

pub element_by_words : (starts : Starts) (there : Option Operand) (front : List Instruction) (known : Option Operand) (inner : List Instruction) (span : Option ℕ) (n : ℕ) (o : Operand) (t p : ℕ) → HaveWords front → HaveWords inner → IsOfWord o
    → HaveWords (element_by starts (code_unless_slot there front) (code_unless known inner) span n o t p)
element_by_words starts there front known inner span n o t p first second word =
    append (code_unless_slot there front) _ (unless_slot_words there front first) (append (code_unless known inner) _ (unless_words known inner second) ((tt, word), reached_words starts span n (t + 2) t (p + length (code_unless_slot there front) + length (code_unless known inner) + 1)))

pub tested_by_words : (starts : Starts) (known : Option Operand) (inner : List Instruction) (o : Operand) → HaveWords inner → IsOfWord o → HaveWords (tested_by starts known inner o)
tested_by_words starts known inner o all word = append (code_unless known inner) (check_code starts null_exception o) (unless_words known inner all) (check_words starts null_exception o word)

pub brought_by_words : (masking : Bool) (known : Option Operand) (inner at_once : List Instruction) (o : Operand) (d : ℕ) → HaveWords inner → HaveWords at_once → IsOfWord o → HaveWords (if masking then masked_by known inner o d else at_once)
brought_by_words true known inner at_once o d all other word = append (code_unless known inner) (low_byte o d ∷ []) (unless_words known inner all) ((word, omega arith), tt)
brought_by_words false known inner at_once o d all other word = other

pub initial_by_words : (starts : Starts) (there : Bool) (known : Option Operand) (at_once inner : List Instruction) (from to : Kind) (span : Option ℕ) (o : Operand) (p d : ℕ) → HaveWords at_once → HaveWords inner → IsOfWord o
    → HaveWords (if there then at_once else moved_by starts known inner from to span o p d)
initial_by_words starts true known at_once inner from to span o p d all other word = all
initial_by_words starts false known at_once inner from to span o p d all other word =
    append (converted_by starts known inner from to span o p) _ (converted_by_words starts known inner from to span o p other word) (move_words (words_of_kind to) d o word)

pub unary_words : (o : UnaryOperator) (d : ℕ) (r : Operand) → IsOfWord r → IsMade (unary_instruction o d r)
unary_words unary.LowByte d r word = (word, omega arith)
unary_words o d r word = word

index_word : (l : Operand) → IsOfWord l → IsOfWord (index_of l)
index_word (operands.Slot n) word = tt
index_word (operands.Word n) word = word

first_two_words : (l : Operand) (d : ℕ) → HaveWords (first_two l d)
first_two_words (operands.Word n) d = tt
first_two_words (operands.Slot n) d = by (n == d)
  where
    by : (there : Bool) → HaveWords (if there then [] else instructions.MoveWords d n 2 ∷ [])
    by true = tt
    by false = (tt, tt)

pub pointer_words : (o : PointerOperator) (l r : Operand) (d : ℕ) → IsOfWord l → IsOfWord r → HaveWords (pointer_instructions o l r d)
pointer_words pointers.AddFat l r d left right = ((index_word l left, right), first_two_words l d)
pointer_words pointers.SubtractFat l r d left right = ((index_word l left, right), first_two_words l d)
pointer_words o l r d left right = ((left, right), tt)

pub count_words : (o : Operand) (p d : ℕ) → HaveWords (count_code o p d)
count_words (operands.Word n) p d = (omega arith, tt)
count_words (operands.Slot n) p d = ((tt, tt), ((tt, tt), (tt, (omega arith, tt))))

pub test_words : (o : LogicalOperator) (operand : List Instruction) (p d t : ℕ) → HaveWords operand → HaveWords (test_code o operand p d t)
test_words logical.AndThen operand p d t all = ((tt, omega arith), append operand (truth_code t d) all ((tt, omega arith), tt))
test_words logical.OrElse operand p d t all = ((tt, omega arith), append operand (truth_code t d) all ((tt, omega arith), tt))

store_words : (kind : Kind) (address : Operand) (offset : ℕ) (o : Operand) → IsOfWord address → IsWord offset → IsOfWord o → IsMade (store_of kind address offset o)
store_words kinds.Char address offset o first second third = (first, second, third)
store_words kind address offset o first second third = (first, second, third)

pub load_word_of : (kind : Kind) (d : ℕ) (address : Operand) (offset : ℕ) → IsOfWord address → IsWord offset → IsMade (load_of kind d address offset)
load_word_of kinds.Char d address offset first second = (first, second)
load_word_of kind d address offset first second = (first, second)

pub stores_words : (kind : Kind) (many address offset slot : ℕ) → offset + 4 * many ≤ 12000 → HaveWords (stores_code kind many address offset slot)
stores_words kind zero address offset slot few = tt
stores_words kind (suc many) address offset slot few =
    (store_words kind (operands.Slot address) offset (operands.Slot slot) tt (omega (arith, few)) tt, stores_words kind many address (offset + 4) (suc slot) (omega (arith, few)))

pub saved_words : (kind : Kind) (address : ℕ) (o : Operand) → IsOfWord o → HaveWords (saved_code kind address o)
saved_words kind address (operands.Slot n) word = stores_words kind (words_of_kind kind) address 0 n (omega (arith, kind_few kind))
saved_words kind address (operands.Word n) word = (store_words kind (operands.Slot address) 0 (operands.Word n) tt (omega arith) word, tt)

pub loaded_words : (narrow : Bool) (kind : Kind) (o : Operand) (bytes d t : ℕ) → IsOfWord o → IsWord bytes
    → HaveWords (if narrow then load_of kind d o bytes ∷ [] else address_code o bytes t ++ (instructions.Load (d + 2) (operands.Slot t) 8 ∷ instructions.Load (d + 1) (operands.Slot t) 4 ∷ instructions.Load d (operands.Slot t) 0 ∷ []))
loaded_words true kind o bytes d t word small = (load_word_of kind d o bytes word small, tt)
loaded_words false kind o bytes d t word small = append (address_code o bytes t) _ (address_words o bytes t word small) ((tt, omega arith), ((tt, omega arith), ((tt, omega arith), tt)))

pub last_byte_words : (kind : Kind) (d : ℕ) → HaveWords (last_byte_code kind d)
last_byte_words kinds.Char d = ((tt, omega arith), tt)
last_byte_words kind d = tt

pub blank_words : (kind : Kind) (slot : ℕ) → HaveWords (blank_code kind slot)
blank_words kinds.Char slot = (omega arith, tt)
blank_words kind slot = tt

-- The code that writes the cells of an object contains only 32-bit words, if at most n words come before these cells.
cells_words : (ks : List Kind) (address at n slot : ℕ) → at ≤ 4 * n → n + slots_of_kinds ks ≤ 3000 → HaveWords (cells_code ks address at slot)
cells_words [] address at n slot within few = tt
cells_words (kind ∷ ks) address at n slot within few =
    let first = stores_code kind (words_of_kind kind) address (begins kind at) slot in
    append first (cells_code ks address (following kind at) (slot + words_of_kind kind)) (stores_words kind (words_of_kind kind) address (begins kind at) slot (omega (arith, begins_within kind at n within, few)))
    (cells_words ks address (following kind at) (n + words_of_kind kind) (slot + words_of_kind kind) (after_within kind at n within) (omega (arith, few)))

-- The number of words of a block fits in a 32-bit word.
pub object_words : (handle : Operand) (ks : List Kind) (d t : ℕ) → IsOfWord handle → slots_of_kinds ks ≤ 3000 → HaveWords (object_code handle ks d t)
object_words handle ks d t word few =
    let words = slots_of_kinds ks in
    ((word, at_least (words_for (bytes_from 0 ks)) (omega (arith, bytes_within ks 0 0 (omega arith), few))), append (cells_code ks (t + words) 0 t) _ (cells_words ks (t + words) 0 0 t (omega arith) (omega (arith, few))) (tt, tt))
  where
    at_least : (n : ℕ) → n ≤ 3000 → IsWord (max 1 n)
    at_least zero fits = omega arith
    at_least (suc n) fits = omega (arith, fits)

-- The code that begins an array contains only 32-bit words.
sized_words : (kind : Kind) (t : ℕ) → HaveWords (sized_code kind t)
sized_words kinds.Char t = ((tt, omega arith), ((tt, omega arith), tt))
sized_words kinds.Int t = ((tt, omega arith), tt)
sized_words kinds.Nullable t = ((tt, omega arith), tt)
sized_words kinds.NonNull t = ((tt, omega arith), tt)
sized_words kinds.Fat t = ((tt, omega arith), tt)
sized_words kinds.Handle t = ((tt, omega arith), tt)
sized_words kinds.Key t = ((tt, omega arith), tt)

most_words : (kind : Kind) → IsWord (most_elements (bytes_of_kind kind) + 1)
most_words kinds.Int = omega arith
most_words kinds.Char = omega arith
most_words kinds.Nullable = omega arith
most_words kinds.NonNull = omega arith
most_words kinds.Fat = omega arith
most_words kinds.Handle = omega arith
most_words kinds.Key = omega arith

pub begun_words : (starts : Starts) (kind : Kind) (handle : Operand) (t : ℕ) → IsOfWord handle → HaveWords (begun_code starts handle kind t)
begun_words starts kind handle t word =
    append (measured_code starts kind (t + 1) (t + 2) t) (asked_code handle kind (t + 3) t)
    ((tt, most_words kind), (tt, (omega arith, tt)))
    (append (sized_code kind t) _ (sized_words kind t) (tt, ((tt, tt), ((word, tt), tt))))

-- The code that stores an array element in its cell contains only 32-bit words.
pub filled_words : (kind : Kind) (head t : ℕ) → HaveWords (filled_code kind head t)
filled_words kind head t =
    let z = t + 3 + words_of_kind kind in
    let stores = stores_code kind (words_of_kind kind) z 0 (t + 3) in
    (scale_words (bytes_of_kind kind) z (t + 2), ((tt, tt), append stores _ (stores_words kind (words_of_kind kind) z 0 (t + 3) (omega (arith, kind_few kind))) ((tt, omega arith), (tt, tt))))
