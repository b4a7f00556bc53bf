-- This file computes the bytes of cells from the words of their values. A cell has four bytes for each word, but a cell of
-- a char has one byte.
use Rattle.std.proofs.Common.{◌≡◌, ℕ, ◌+◌, ◌*◌, ◌<◌, ◌≤◌, true, false, List, [], ◌∷◌, length, refl, arith}
use Rattle.std.specs.Prelude.{◌==◌}
use Rattle.cyc_types.specs.declared.typed.Kind.{Kind}
use Rattle.cyc_types.specs.declared.typed.Kind.TheVariants as kinds
use Rattle.cyc_types.specs.TypedTrees.{Convert, Arguments, NoArguments, MoreArguments}
use Rattle.cyc_types.specs.Numbered.{argument_count}
use Rattle.cyc_meaning.specs.Values.{words_of_kind, bytes_of_kind, begins, following, bytes_from}
use Rattle.cyc_lower_proof.specs.inside.Slots.{begins_word}
use Rattle.cyc_lower_proof.specs.inside.ValueCode.{variable_bytes, all_passed, kinds_passed}
use Rattle.cyc_lower_proof.specs.inside.ObjectCode.{slots_of_kinds}

-- For every representation kind (int, char, pointer, ..), the value of a variable ends at the last byte of the variable's last word.
pub kind_bytes : (kind : Kind) → variable_bytes kind + bytes_of_kind kind ≡ 4 * words_of_kind kind
kind_bytes kinds.Int = refl
kind_bytes kinds.Char = refl
kind_bytes kinds.Nullable = refl
kind_bytes kinds.NonNull = refl
kind_bytes kinds.Fat = refl
kind_bytes kinds.Handle = refl
kind_bytes kinds.Key = refl

pub last_low : (kind : Kind) → variable_bytes kind ≤ 3
last_low kinds.Char = omega arith
last_low kind = omega arith

-- a cell of more than one word holds a fat pointer
pub wide_cell : (kind : Kind) → (bytes_of_kind kind == 4) ≡ false → (bytes_of_kind kind == 1) ≡ false → kind ≡ kinds.Fat
wide_cell kinds.Fat wide more = refl
wide_cell kinds.Char wide more = absurd (let f : true ≡ false = more in cc)
wide_cell kind wide more = absurd (let f : true ≡ false = wide in cc)

-- The computation of the first byte of a cell does not overflow if its result fits in a 32-bit word.
pub begins_is : (kind : Kind) (at : ℕ) → begins kind at < 4294967296 → begins_word kind at ≡ begins kind at
begins_is kinds.Int at below = omega (arith, below)
begins_is kinds.Char at below = refl
begins_is kinds.Nullable at below = omega (arith, below)
begins_is kinds.NonNull at below = omega (arith, below)
begins_is kinds.Fat at below = omega (arith, below)
begins_is kinds.Handle at below = omega (arith, below)
begins_is kinds.Key at below = omega (arith, below)

-- ---- cells by the slots of their values

-- If at most n words come before a cell, then the cell begins at word n or before.
pub begins_within : (kind : Kind) (at n : ℕ) → at ≤ 4 * n → begins kind at ≤ 4 * n
begins_within kinds.Int at n within = omega (arith, within)
begins_within kinds.Char at n within = omega (arith, within)
begins_within kinds.Nullable at n within = omega (arith, within)
begins_within kinds.NonNull at n within = omega (arith, within)
begins_within kinds.Fat at n within = omega (arith, within)
begins_within kinds.Handle at n within = omega (arith, within)
begins_within kinds.Key at n within = omega (arith, within)

pub after_within : (kind : Kind) (at n : ℕ) → at ≤ 4 * n → following kind at ≤ 4 * (n + words_of_kind kind)
after_within kind at n within = omega (arith, begins_within kind at n within, kind_bytes kind)

-- an object has at most as many words as its values have slots
pub bytes_within : (ks : List Kind) (at n : ℕ) → at ≤ 4 * n → bytes_from at ks ≤ 4 * (n + slots_of_kinds ks)
bytes_within [] at n within = omega (arith, within)
bytes_within (kind ∷ ks) at n within =
    omega (arith, bytes_within ks (following kind at) (n + words_of_kind kind) (after_within kind at n within))

-- ---- the kinds of passed arguments

pub passed_slots : (cs : Arguments) → slots_of_kinds (kinds_passed cs) ≡ all_passed cs
passed_slots NoArguments = refl
passed_slots (MoreArguments (Convert from to a) cs) = omega (arith, passed_slots cs)

pub passed_many : (cs : Arguments) → length (kinds_passed cs) ≡ argument_count cs
passed_many NoArguments = refl
passed_many (MoreArguments c cs) = omega (arith, passed_many cs)
