-- This file has machines that full preservation rejects although they print the right bytes. These machines read too early, read bytes
-- that the program never reads, print before a read, omit a read, or request input at the end of the run.
use Rattle.std.proofs.Common.{◌≡◌, ℕ, zero, suc, List, [], ◌∷◌, drop, refl, ap}
use Rattle.cyc_words.specs.Ending.{Full}
use Rattle.cyc_words.specs.Seen.{Seen, showing}
use Rattle.cyc_words.specs.Simulation.{Status, Running, Ended, Machine, Preserves}

-- A machine that shows three given observations one after the other: `first`, `next`, and then `last` for ever.
abbrev shown : (first next last : Seen) → ℕ → Seen
shown first next last zero = first
shown first next last (suc zero) = next
shown first next last (suc (suc n)) = last

abbrev status_after : ℕ → Status
status_after zero = Running
status_after (suc zero) = Running
status_after (suc (suc n)) = Ended Full

abbrev stepped : ℕ → ℕ
stepped zero = 1
stepped (suc n) = 2

abbrev playing : (first next last : Seen) → Machine
playing first next last = record {
  State = ℕ;
  Place = Unit {0};
  Step = λ old new. new ≡ stepped old;
  place = λ s. tt;
  seen = shown first next last;
  status = status_after;
}

-- The unread input of the examples, which is one byte.
abbrev one : List ℕ
one = 7 ∷ []

abbrev letter : List ℕ
letter = 65 ∷ []

output_same : (output other rest left : List ℕ) → showing output rest ≡ showing other left → output ≡ other
output_same output other rest left same = ap (λ (s : Seen). s.output) same

rest_same : (output other rest left : List ℕ) → showing output rest ≡ showing other left → rest ≡ left
rest_same output other rest left same = ap (λ (s : Seen). s.rest) same

some_none : one ≡ [] → ⊥
some_none is = cc

none_some : [] ≡ one → ⊥
none_some is = cc

letter_none : letter ≡ [] → ⊥
letter_none is = cc

none_letter : [] ≡ letter → ⊥
none_letter is = cc

-- Rejected: the program prints and then reads, but the machine reads before it prints.
pub reads_ahead : (each : ℕ) → Preserves (playing (showing [] one) (showing letter one) (showing letter [])) (playing (showing [] one) (showing [] []) (showing letter [])) each 0 0 → ⊥
reads_ahead each p =
    let (n, state, run, seen, ends) = p.following 1 1 (1, refl, refl) in
    never state seen
  where
    never : (state : ℕ) → showing [] [] ≡ shown (showing [] one) (showing letter one) (showing letter []) state → ⊥
    never zero seen = none_some (rest_same [] [] [] one seen)
    never (suc zero) seen = none_some (rest_same [] letter [] one seen)
    never (suc (suc n)) seen = none_letter (output_same [] letter [] [] seen)

-- Rejected: the program reads and then prints, but the machine prints first.
pub prints_ahead : (each : ℕ) → Preserves (playing (showing [] one) (showing [] []) (showing letter [])) (playing (showing [] one) (showing letter one) (showing letter [])) each 0 0 → ⊥
prints_ahead each p =
    let (n, state, run, seen, ends) = p.following 1 1 (1, refl, refl) in
    never state seen
  where
    never : (state : ℕ) → showing letter one ≡ shown (showing [] one) (showing [] []) (showing letter []) state → ⊥
    never zero seen = letter_none (output_same letter [] one one seen)
    never (suc zero) seen = letter_none (output_same letter [] one [] seen)
    never (suc (suc n)) seen = some_none (rest_same letter letter one [] seen)

-- Rejected: the program prints and never reads, but the machine prints and, at the end of its run, reads the rest of the input.
pub reads_at_its_end : (each : ℕ) → Preserves (playing (showing [] one) (showing letter one) (showing letter one)) (playing (showing [] one) (showing letter one) (showing letter [])) each 0 0 → ⊥
reads_at_its_end each p =
    let (n, state, run, seen, ends) = p.following 2 2 (1, refl, (2, refl, refl)) in
    never state seen
  where
    never : (state : ℕ) → showing letter [] ≡ shown (showing [] one) (showing letter one) (showing letter one) state → ⊥
    never zero seen = none_some (rest_same letter [] [] one seen)
    never (suc zero) seen = none_some (rest_same letter letter [] one seen)
    never (suc (suc n)) seen = none_some (rest_same letter letter [] one seen)

-- Rejected: the program reads, but the machine never reads; it prints and ends like the program.
pub never_reads : Preserves (playing (showing [] one) (showing [] []) (showing letter [])) (playing (showing [] one) (showing [] one) (showing letter one)) 1 0 0 → ⊥
never_reads p =
    let (n, state, run, seen, ends) = p.following 2 2 (1, refl, (2, refl, refl)) in
    never state seen
  where
    never : (state : ℕ) → showing letter one ≡ shown (showing [] one) (showing [] []) (showing letter []) state → ⊥
    never zero seen = letter_none (output_same letter [] one one seen)
    never (suc zero) seen = letter_none (output_same letter [] one [] seen)
    never (suc (suc n)) seen = some_none (rest_same letter letter one [] seen)

-- Rejected: the program prints and never reads, but the machine then requests one byte more than the input has. If the input is at its
-- end, the request for a byte shows nothing, but the machine cannot know the end in advance. If a byte of the input is left, then the
-- machine's request reads that byte.
pub asks_at_the_end : (each : ℕ)
    → ((input : List ℕ) → Preserves (playing (showing [] input) (showing letter input) (showing letter input)) (playing (showing [] input) (showing letter input) (showing letter (drop 1 input))) each 0 0)
    → ⊥
asks_at_the_end each p = reads_at_its_end each (p one)
