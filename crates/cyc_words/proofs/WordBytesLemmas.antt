-- Writing one byte of a word leaves the other three bytes of the word unchanged.
use Rattle.std.proofs.Common.{◌≡◌, ◌≢◌, ℕ, zero, suc, ◌<◌, refl, arith}
use Rattle.cyc_words.specs.Bytes.{byte_in, with_byte}

pub byte-small : (w p : ℕ) → byte_in w p < 256
byte-small w zero = omega arith
byte-small w (suc zero) = omega arith
byte-small w (suc (suc zero)) = omega arith
byte-small w (suc (suc (suc p))) = omega arith

pub byte-same : (w p b : ℕ) → b < 256 → byte_in (with_byte w p b) p ≡ b
byte-same w zero b small = omega (arith, small)
byte-same w (suc zero) b small = omega (arith, small)
byte-same w (suc (suc zero)) b small = omega (arith, small)
byte-same w (suc (suc (suc p))) b small = omega (arith, small)

pub byte-other : (w p q b : ℕ) → p < 4 → q < 4 → q ≢ p → b < 256 → byte_in (with_byte w p b) q ≡ byte_in w q
byte-other w zero zero b hp hq other small = absurd (other refl)
byte-other w zero (suc zero) b hp hq other small = omega (arith, small)
byte-other w zero (suc (suc zero)) b hp hq other small = omega (arith, small)
byte-other w zero (suc (suc (suc q))) b hp hq other small = omega (arith, small)
byte-other w (suc zero) zero b hp hq other small = omega (arith, small)
byte-other w (suc zero) (suc zero) b hp hq other small = absurd (other refl)
byte-other w (suc zero) (suc (suc zero)) b hp hq other small = omega (arith, small)
byte-other w (suc zero) (suc (suc (suc q))) b hp hq other small = omega (arith, small)
byte-other w (suc (suc zero)) zero b hp hq other small = omega (arith, small)
byte-other w (suc (suc zero)) (suc zero) b hp hq other small = omega (arith, small)
byte-other w (suc (suc zero)) (suc (suc zero)) b hp hq other small = absurd (other refl)
byte-other w (suc (suc zero)) (suc (suc (suc q))) b hp hq other small = omega (arith, small)
byte-other w (suc (suc (suc p))) zero b hp hq other small = omega (arith, small)
byte-other w (suc (suc (suc p))) (suc zero) b hp hq other small = omega (arith, small)
byte-other w (suc (suc (suc p))) (suc (suc zero)) b hp hq other small = omega (arith, small)
byte-other w (suc (suc (suc p))) (suc (suc (suc q))) b hp hq other small = absurd (other (omega (arith, hp, hq)))

pub with_byte-word : (w p b : ℕ) → w < 4294967296 → b < 256 → with_byte w p b < 4294967296
with_byte-word w zero b word small = omega (arith, word, small)
with_byte-word w (suc zero) b word small = omega (arith, word, small)
with_byte-word w (suc (suc zero)) b word small = omega (arith, word, small)
with_byte-word w (suc (suc (suc p))) b word small = omega (arith, word, small)

-- Two words with equal bytes are equal.
pub word-same : (v w : ℕ) → v < 4294967296 → w < 4294967296 → ((p : ℕ) → p < 4 → byte_in v p ≡ byte_in w p) → v ≡ w
word-same v w first second same =
    omega (arith, first, second, same 0 (omega arith), same 1 (omega arith), same 2 (omega arith), same 3 (omega arith))
