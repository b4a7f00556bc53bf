-- A word and its four bytes determine each other.
use Rattle.std.proofs.Common.{◌≡◌, ℕ, List, [], ◌∷◌, length, arith}
use Rattle.std.specs.Prelude.{All}
use Rattle.cyc_words.specs.Word.{IsWord}
use Rattle.cyc_words.specs.Bytes.{IsByte, bytes_of_word, word_of_bytes}

pub word_of_bytes-bytes_of_word : (w : ℕ) → IsWord w → word_of_bytes (bytes_of_word w) ≡ w
word_of_bytes-bytes_of_word w h = omega arith

-- Joining four bytes into one word and splitting the word yields the original bytes.
joined : (a b c d : ℕ) → IsByte a → IsByte b → IsByte c → IsByte d → bytes_of_word (word_of_bytes (a ∷ b ∷ c ∷ d ∷ [])) ≡ a ∷ b ∷ c ∷ d ∷ []
joined a b c d ha hb hc hd = grind arith

pub bytes_of_word-word_of_bytes : (bs : List ℕ) → length bs ≡ 4 → All IsByte bs → bytes_of_word (word_of_bytes bs) ≡ bs
bytes_of_word-word_of_bytes [] n each = absurd (omega arith)
bytes_of_word-word_of_bytes (a ∷ []) n each = absurd (omega arith)
bytes_of_word-word_of_bytes (a ∷ b ∷ []) n each = absurd (omega arith)
bytes_of_word-word_of_bytes (a ∷ b ∷ c ∷ []) n each = absurd (omega arith)
bytes_of_word-word_of_bytes (a ∷ b ∷ c ∷ d ∷ []) n each =
    joined a b c d (each 0 0 (omega arith)) (each 1 0 (omega arith)) (each 2 0 (omega arith)) (each 3 0 (omega arith))
bytes_of_word-word_of_bytes (a ∷ b ∷ c ∷ d ∷ e ∷ rest) n each = absurd (omega arith)
