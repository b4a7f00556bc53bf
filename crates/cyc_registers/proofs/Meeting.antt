-- Before and after an instruction, a set of slots contains at most one slot of each group of slots that share a register.
use Rattle.std.proofs.Common.{◌≡◌, ℕ, true, List, inl, inr}
use Rattle.std.specs.Prelude.{◌==◌, bit_and, bit_or}
use Rattle.std.specs.Int.{bit_at}
use Rattle.std.proofs.lemmas.Bool.{eqb-true, or_cases}
use Rattle.cyc_registers.specs.inside.LivenessTable.{is_within}
use Rattle.cyc_registers.specs.inside.Sharing.{AreAlone, AreApart, AreSingle, is_single}
use Rattle.cyc_words.proofs.Bits.{apart_bits, in_either, bit_before, bit_between, bit_both, bit_left, bit_right, bit_within}
use Rattle.cyc_registers.proofs.Bits.{one_alone}

module _ (groups : List ℕ) where
  pub alone_single : (set : ℕ) → AreSingle groups set → AreAlone groups set
  alone_single set single number slots j l is first second = one_alone (bit_and set slots) j l (single number slots is) first second

  pub alone_within : (set known : ℕ) → is_within set known ≡ true → AreAlone groups known → AreAlone groups set
  alone_within set known within alone number slots j l is first second = alone number slots j l is (still j first) (still l second)
    where
      still : (k : ℕ) → bit_at (bit_and set slots) k ≡ 1 → bit_at (bit_and known slots) k ≡ 1
      still k has =
          bit_both known slots k (bit_within set known k (eqb-true (bit_or set known) known within) (bit_before set slots k has)) (bit_between set slots k has)

  -- The set of live slots after an instruction consists of the slots that stay live and the written ones. The set of slots live after an
  -- instruction contains at most one of the slots that share a register.
  pub alone_after : (standing written following : ℕ) → AreAlone groups standing → AreApart groups written following
      → AreAlone groups (bit_or (bit_and standing following) written)
  alone_after standing written following alone apart number slots j l is first second =
      elim (or_cases (bit_and written slots == 0) (is_single (bit_and (bit_or written following) slots)) (apart number slots is)) [
        | inl none ↦ alone number slots j l is (stood (eqb-true (bit_and written slots) 0 none) j first) (stood (eqb-true (bit_and written slots) 0 none) l second)
        | inr single ↦ one_alone (bit_and (bit_or written following) slots) j l single (goes_on j first) (goes_on l second)
      ]
    where
      now : ℕ
      now = bit_or (bit_and standing following) written

      stood : bit_and written slots ≡ 0 → (k : ℕ) → bit_at (bit_and now slots) k ≡ 1 → bit_at (bit_and standing slots) k ≡ 1
      stood none k has = elim (in_either (bit_and standing following) written k (bit_before now slots k has)) [
        | inl both ↦ bit_both standing slots k (bit_before standing following k both) (bit_between now slots k has)
        | inr in_written ↦ absurd (apart_bits written slots k none (bit_between now slots k has) in_written)
      ]

      goes_on : (k : ℕ) → bit_at (bit_and now slots) k ≡ 1 → bit_at (bit_and (bit_or written following) slots) k ≡ 1
      goes_on k has = elim (in_either (bit_and standing following) written k (bit_before now slots k has)) [
        | inl both ↦ bit_both (bit_or written following) slots k (bit_right written following k (bit_between standing following k both)) (bit_between now slots k has)
        | inr in_written ↦ bit_both (bit_or written following) slots k (bit_left written following k in_written) (bit_between now slots k has)
      ]
