-- Examples of conversions and of demand (pages of the store in use), each proved by computation.
use Rattle.std.proofs.Common.{◌≡◌, [], ◌∷◌, Some, None, true, false, refl}
use Rattle.cyc_types.specs.declared.typed.Kind.TheVariants as kinds
use Rattle.cyc_types.specs.declared.typed.Operator.TheVariants as operators
use Rattle.cyc_types.specs.declared.typed.UnaryOperator.TheVariants as unary
use Rattle.cyc_meaning.specs.Values.{Int, Null, Thin, Fat, Handle, Key, begins, following, words_for, block_size}
use Rattle.cyc_meaning.specs.Operators.{Gives, Raises, Misfits, is_zero, binary_result, unary_result}
use Rattle.cyc_meaning.specs.Conversion.{conversion}
use Rattle.cyc_meaning.specs.Allocation.{blanks}
use Rattle.cyc_words.specs.Demand.{region_pages, class_of, blocks_in_page, pages_for, class_pages, demand_of}
use Rattle.cyc_meaning.specs.State.{Heap, Globals, Stack, Lexical, Dynamic, counted}

-- ---- conversion

int_to_int : conversion kinds.Int (Int 4294967295) ≡ Gives (Int 4294967295)
int_to_int = refl

int_to_char : conversion kinds.Char (Int 300) ≡ Gives (Int 44)
int_to_char = refl

char_to_int : conversion kinds.Int (Int 44) ≡ Gives (Int 44)
char_to_int = refl

pointer_to_char : conversion kinds.Char Null ≡ Misfits
pointer_to_char = refl

int_to_pointer : conversion kinds.Nullable (Int 0) ≡ Misfits
int_to_pointer = refl

null_to_nullable : conversion kinds.Nullable Null ≡ Gives Null
null_to_nullable = refl

null_to_non_null : conversion kinds.NonNull Null ≡ Raises 1
null_to_non_null = refl

null_to_fat : conversion kinds.Fat Null ≡ Gives Null
null_to_fat = refl

thin_to_non_null : conversion kinds.NonNull (Thin 3 1) ≡ Gives (Thin 3 1)
thin_to_non_null = refl

thin_to_fat : conversion kinds.Fat (Thin 3 1) ≡ Gives (Fat 3 1 1 0)
thin_to_fat = refl

fat_to_thin : conversion kinds.Nullable (Fat 3 1 4 2) ≡ Gives (Thin 3 3)
fat_to_thin = refl

fat_at_its_last : conversion kinds.NonNull (Fat 3 0 4 3) ≡ Gives (Thin 3 3)
fat_at_its_last = refl

fat_past_its_last : conversion kinds.NonNull (Fat 3 0 4 4) ≡ Raises 2
fat_past_its_last = refl

fat_before_its_first : conversion kinds.Nullable (Fat 3 0 4 4294967295) ≡ Raises 2
fat_before_its_first = refl

fat_of_no_cells : conversion kinds.Nullable (Fat 3 0 0 0) ≡ Raises 2
fat_of_no_cells = refl

fat_stays : conversion kinds.Fat (Fat 3 0 4 9) ≡ Gives (Fat 3 0 4 9)
fat_stays = refl

handle_stays : conversion kinds.Handle (Handle 2) ≡ Gives (Handle 2)
handle_stays = refl

key_is_no_handle : conversion kinds.Handle (Key 2) ≡ Misfits
key_is_no_handle = refl

-- ---- shapes

null_is_zero : is_zero Null ≡ Some true
null_is_zero = refl

pointer_past_its_end_is_not : is_zero (Fat 3 0 4 9) ≡ Some false
pointer_past_its_end_is_not = refl

not_of_null : unary_result unary.Not Null ≡ Gives (Int 1)
not_of_null = refl

low_byte_of_a_negative : unary_result unary.LowByte (Int 4294967294) ≡ Gives (Int 254)
low_byte_of_a_negative = refl

key_is_no_condition : unary_result unary.Not (Key 2) ≡ Misfits
key_is_no_condition = refl

sum_with_a_handle : binary_result operators.Add (Int 1) (Handle 0) ≡ Misfits
sum_with_a_handle = refl

-- ---- demand

empty_region : region_pages [] ≡ 1
empty_region = refl

page_is_full : region_pages (1000 ∷ 24 ∷ []) ≡ 1
page_is_full = refl

page_is_passed : region_pages (1000 ∷ 25 ∷ []) ≡ 2
page_is_passed = refl

-- A block that does not fit into a page begins the next page, and no later block goes back to an earlier page.
blocks_are_in_order : region_pages (600 ∷ 600 ∷ 400 ∷ 30 ∷ []) ≡ 3
blocks_are_in_order = refl

class_of_one_word : class_of 1 ≡ 0
class_of_one_word = refl

class_of_three_words : class_of 3 ≡ 2
class_of_three_words = refl

class_of_a_power : class_of 512 ≡ 9
class_of_a_power = refl

class_above_a_power : class_of 513 ≡ 10
class_above_a_power = refl

four_words_to_a_block : blocks_in_page 2 ≡ 256
four_words_to_a_block = refl

no_live_block : pages_for 2 0 ≡ 0
no_live_block = refl

one_page_of_blocks : pages_for 2 256 ≡ 1
one_page_of_blocks = refl

one_block_more : pages_for 2 257 ≡ 2
one_block_more = refl

-- Pages stay in use when the unique blocks in them are freed.
greatest_so_far : class_pages 10 (0 ∷ 1 ∷ 2 ∷ 1 ∷ 0 ∷ []) ≡ 2
greatest_so_far = refl

all_together : demand_of ([] ∷ (1000 ∷ 25 ∷ []) ∷ []) (0 ∷ 2 ∷ 1 ∷ []) ≡ 6
all_together = refl

block_of_no_cells : block_size [] ≡ 1
block_of_no_cells = refl

block_of_two_cells : block_size (record { kind = kinds.Fat; content = None } ∷ record { kind = kinds.Int; content = None } ∷ []) ≡ 4
block_of_two_cells = refl

block_of_five_chars : block_size (blanks 5 kinds.Char) ≡ 2
block_of_five_chars = refl

-- A cell of one word begins at a byte offset that is a multiple of 4, and the cell after it begins at its end.
rounded_up : begins kinds.Int 5 ≡ 8
rounded_up = refl

one_after_another : begins kinds.Int (following kinds.Fat 4) ≡ 16
one_after_another = refl

-- A char cell begins at the next free byte, at any offset.
char_after_a_word : begins kinds.Char (following kinds.Int 1) ≡ 8
char_after_a_word = refl

char_after_a_char : begins kinds.Char 9 ≡ 9
char_after_a_char = refl

word_after_chars : begins kinds.Int (following kinds.Char 8) ≡ 12
word_after_chars = refl

a_word_begun : words_for 5 ≡ 2
a_word_begun = refl

open_regions_count : counted (
    record { sort = Heap; is_open = true; blocks = [] }
    ∷ record { sort = Globals; is_open = true; blocks = [] }
    ∷ record { sort = Stack; is_open = true; blocks = [] }
    ∷ record { sort = Lexical; is_open = true; blocks = 5 ∷ [] }
    ∷ record { sort = Lexical; is_open = false; blocks = 6 ∷ [] }
    ∷ record { sort = Dynamic; is_open = true; blocks = 7 ∷ [] }
    ∷ record { sort = Dynamic; is_open = false; blocks = 8 ∷ [] }
    ∷ []) ≡ [] ∷ (5 ∷ []) ∷ (7 ∷ []) ∷ []
open_regions_count = refl
