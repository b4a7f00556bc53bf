use Rattle.std.proofs.Common.{◌≡◌, ◌<◌, true, ℕ, Some}
use Rattle.std.specs.Prelude.{bit_and, slice_get}
use Rattle.cyc_registers.specs.inside.Sharing.{is_single}
use Rattle.cyc_registers.proofs.sharing.are_single.Given as goal

-- Invariant: of each group of slots that share a register examined so far, the set contains at most one slot.
abbrev pub invariant-loop-number : goal.invariant-loop-number
invariant-loop-number l =
    (k slots : ℕ) → slice_get l.groups k ≡ Some slots → k < l.number → is_single (bit_and l.set slots) ≡ true
