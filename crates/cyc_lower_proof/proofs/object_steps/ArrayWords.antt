-- This file proves facts about the words of arrays: the largest number of elements, the offset of each element, and the words of the block.
use Rattle.std.proofs.Common.{◌≡◌, ℕ, zero, suc, ◌+◌, ◌*◌, ◌/◌, ◌%◌, ◌≤◌, ◌<◌, max, ap, ◌∙◌, arith}
use Rattle.std.specs.Prelude.{◌==◌}
use Rattle.std.proofs.lemmas.Bool.{eqb-true, false_from_ne_true}
use Rattle.std.proofs.Math.Nat.{mod-eq_of_lt}
use Rattle.cyc_words.specs.Word.{unsigned, floor_div, add_of, mul_of, sar_of}
use Rattle.cyc_words.specs.Word.{IsWord as IsMachineWord}
use Rattle.cyc_words.proofs.WordLemmas.{signed_low, IsWord-mul_of, IsWord-shl_of}
use Rattle.cyc_types.specs.declared.typed.Kind.{Kind}
use Rattle.cyc_types.specs.declared.typed.Kind.TheVariants as kinds
use Rattle.cyc_store.specs.declared.range.TheConstants.{MOST_BLOCK_WORDS}
use Rattle.cyc_plain.specs.inside.Operators.{truth}
use Rattle.cyc_meaning.specs.Values.{bytes_of_kind, words_for}
use Rattle.cyc_lower_proof.specs.inside.ObjectCode.{most_elements}
use Rattle.cyc_lower_proof.proofs.place_steps.PlaceWords.{add_is, shifted_is, multiplied_is}
use Rattle.cyc_lower_proof.proofs.pointer_steps.ElementWords.{scaled}

-- For each representation kind (int, char, pointer, ..) of array elements: their number is within
-- its limit exactly if the machine words of these elements are within the limit for a block.
pub elements_few : (kind : Kind) (n : ℕ) → words_for (n * bytes_of_kind kind) ≤ MOST_BLOCK_WORDS → n ≤ most_elements (bytes_of_kind kind)
elements_few kinds.Int n few = omega (arith, few)
elements_few kinds.Char n few = omega (arith, few)
elements_few kinds.Nullable n few = omega (arith, few)
elements_few kinds.NonNull n few = omega (arith, few)
elements_few kinds.Fat n few = omega (arith, few)
elements_few kinds.Handle n few = omega (arith, few)
elements_few kinds.Key n few = omega (arith, few)

pub array_words_few : (kind : Kind) (n : ℕ) → n ≤ most_elements (bytes_of_kind kind) → words_for (n * bytes_of_kind kind) ≤ MOST_BLOCK_WORDS
array_words_few kinds.Int n few = omega (arith, few)
array_words_few kinds.Char n few = omega (arith, few)
array_words_few kinds.Nullable n few = omega (arith, few)
array_words_few kinds.NonNull n few = omega (arith, few)
array_words_few kinds.Fat n few = omega (arith, few)
array_words_few kinds.Handle n few = omega (arith, few)
array_words_few kinds.Key n few = omega (arith, few)

pub most_is : (kind : Kind) → most_elements (bytes_of_kind kind) ≤ 4 * MOST_BLOCK_WORDS
most_is kinds.Int = omega arith
most_is kinds.Char = omega arith
most_is kinds.Nullable = omega arith
most_is kinds.NonNull = omega arith
most_is kinds.Fat = omega arith
most_is kinds.Handle = omega arith
most_is kinds.Key = omega arith

-- ---- the offset of an element

pub scaled_is : (kind : Kind) (i : ℕ) → i < 4 * MOST_BLOCK_WORDS → scaled (bytes_of_kind kind) i ≡ i * bytes_of_kind kind
scaled_is kinds.Int i few = shifted_is i (omega (arith, few))
scaled_is kinds.Char i few = omega arith
scaled_is kinds.Nullable i few = shifted_is i (omega (arith, few))
scaled_is kinds.NonNull i few = shifted_is i (omega (arith, few))
scaled_is kinds.Fat i few = multiplied_is i (omega (arith, few))
scaled_is kinds.Handle i few = shifted_is i (omega (arith, few))
scaled_is kinds.Key i few = shifted_is i (omega (arith, few))

pub scaled_word : (kind : Kind) (n : ℕ) → IsMachineWord n → IsMachineWord (scaled (bytes_of_kind kind) n)
scaled_word kinds.Int n word = IsWord-shl_of n 2
scaled_word kinds.Char n word = word
scaled_word kinds.Nullable n word = IsWord-shl_of n 2
scaled_word kinds.NonNull n word = IsWord-shl_of n 2
scaled_word kinds.Fat n word = IsWord-mul_of n 12
scaled_word kinds.Handle n word = IsWord-shl_of n 2
scaled_word kinds.Key n word = IsWord-shl_of n 2

-- ---- the words of all elements

-- an arithmetic right shift by two divides a word by four
quarter : (a : ℕ) → a < 2147483648 → sar_of a 2 ≡ a / 4
unfolding sar_of
quarter a low = ap (λ z. unsigned (floor_div z 4)) (signed_low a low) ∙ (let e : a / 4 % 4294967296 ≡ a / 4 = omega (arith, low) in e)

-- The number of words of an array of chars: four chars share a word.
pub quarter_is : (n : ℕ) → words_for (n * bytes_of_kind kinds.Char) ≤ MOST_BLOCK_WORDS → sar_of (add_of n 3) 2 ≡ words_for (n * bytes_of_kind kinds.Char)
quarter_is n few =
    ap (λ m. sar_of m 2) (add_is n 3 (omega (arith, few)))
    ∙ (quarter (n + 3) (omega (arith, few)) ∙ (let e : (n + 3) / 4 ≡ (n * 1 + 3) / 4 = omega arith in e))

-- The number of words of an array that is not of chars is the number of elements times the words of one element.
pub product_is : (n words : ℕ) → n * words ≤ MOST_BLOCK_WORDS → mul_of n words ≡ n * words
product_is n words few = mod-eq_of_lt (omega (arith, few))

-- A block has as many words as its elements take, and at least one word.
pub sized_is : (count : ℕ) → count ≤ MOST_BLOCK_WORDS → add_of (truth (count == 0)) count ≡ max 1 count
sized_is zero few = add_is 1 0 (omega arith)
sized_is (suc n) few =
    ap (λ b. add_of (truth b) (suc n)) (false_from_ne_true (suc n == 0) (λ reported. absurd (omega (arith, eqb-true (suc n) 0 reported)))) ∙ add_is 0 (suc n) (omega (arith, few)) ∙ at_least n
  where
    at_least : (n : ℕ) → 0 + suc n ≡ max 1 (suc n)
    at_least n = omega arith
