-- Lemmas about writing a text in several parts.
use Rattle.std.proofs.Common.{◌≡◌, ℕ, List, ◌++◌, Option, Result, Ok, Err, IsErr, subst}
use Rattle.std.specs.Io.KnownBytes.{Appends}
use Rattle.cyc_words.specs.Seen.{IsPrefix}
use Rattle.cyc_words.specs.Device.{TakesText}
use Rattle.cyc_words.proofs.DeviceLemmas.{TakesText-append, TakesText-fails}

-- If a writer accepts the first part of a text and then takes the second part, it takes the whole text.
pub TakesText-parts : {A E : Type 0} (a b c : Option (List ℕ)) (xs ys text : List ℕ) (r : Result A E) → xs ++ ys ≡ text
    → Appends a b xs → TakesText b ys r c → TakesText a text r c
TakesText-parts a b c xs ys text r is first second =
    subst (λ t. TakesText a t r c) is (TakesText-append a b c xs ys r first second)

-- If writing fails within the first part of a text, a prefix of the text was written.
pub TakesText-stopped : {A E : Type 0} (a b : Option (List ℕ)) (xs ys text : List ℕ) (r : Result A E) → xs ++ ys ≡ text
    → IsErr r → (bytes : List ℕ) × IsPrefix bytes xs × Appends a b bytes → TakesText a text r b
TakesText-stopped a b xs ys text (Ok v) is err h = cc
TakesText-stopped {A = A} {E = E} a b xs ys text (Err e) is err h =
    subst (λ t. TakesText {A = A} {E = E} a t (Err e) b) is (TakesText-fails {A = A} {E = E} a b xs ys (Err e) err h)
