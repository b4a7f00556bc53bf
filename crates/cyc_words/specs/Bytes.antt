-- This file defines a word as four bytes, the highest byte first (big-endian), and the access to one byte by its position. (The
-- order is that of the MIPS32 architecture, volume I, in its big-endian form.)
use Rattle.std.specs.Prelude.{ℕ, ◌+◌, ◌*◌, ◌/◌, ◌%◌, ◌^◌, ◌<◌, List, [], ◌∷◌, slice_index, zero, suc}

-- Says that a number fits in 8 bits.
abbrev pub IsByte : ℕ → Type 0
IsByte b = b < 2 ^ 8

-- the four bytes of a word, the highest first
abbrev pub bytes_of_word : ℕ → List ℕ
bytes_of_word w = w / 2 ^ 24 % 256 ∷ w / 2 ^ 16 % 256 ∷ w / 2 ^ 8 % 256 ∷ w % 256 ∷ []

-- The word whose four bytes are given, the highest byte first.
abbrev pub word_of_bytes : List ℕ → ℕ
word_of_bytes bs =
    slice_index bs 0 * 2 ^ 24 + slice_index bs 1 * 2 ^ 16 + slice_index bs 2 * 2 ^ 8 + slice_index bs 3

-- ---- access by position: position 0 is the highest byte of a word, which lies at its lowest address

-- the byte of a word at a position
abbrev pub byte_in : (word place : ℕ) → ℕ
byte_in w zero = w / 16777216 % 256
byte_in w (suc zero) = w / 65536 % 256
byte_in w (suc (suc zero)) = w / 256 % 256
byte_in w (suc (suc (suc n))) = w % 256

-- The word after its byte at this position is replaced.
abbrev pub with_byte : (word place byte : ℕ) → ℕ
with_byte w zero b = b * 16777216 + w % 16777216
with_byte w (suc zero) b = w / 16777216 * 16777216 + b * 65536 + w % 65536
with_byte w (suc (suc zero)) b = w / 65536 * 65536 + b * 256 + w % 256
with_byte w (suc (suc (suc n))) b = w / 256 * 256 + b

-- the address of the word that contains the byte at this address
abbrev pub word_of : (address : ℕ) → ℕ
word_of x = 4 * (x / 4)
