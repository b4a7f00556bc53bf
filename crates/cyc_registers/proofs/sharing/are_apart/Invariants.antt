use Rattle.std.proofs.Common.{◌≡◌, ◌<◌, true, ℕ, Some}
use Rattle.std.specs.Prelude.{slice_get}
use Rattle.cyc_registers.specs.inside.Sharing.{is_apart}
use Rattle.cyc_registers.proofs.sharing.are_apart.Given as goal

-- Invariant: of the groups of slots that share a register examined so far, no group has two slots that interfere at the instruction.
abbrev pub invariant-loop-number : goal.invariant-loop-number
invariant-loop-number l =
    (k slots : ℕ) → slice_get l.groups k ≡ Some slots → k < l.number → is_apart l.written l.following slots ≡ true
