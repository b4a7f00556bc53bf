use Rattle.std.proofs.Common.{◌≡◌, ℕ, length, slice_get}
use Rattle.cyc_interpret.specs.View.{flat}
use Rattle.cyc_interpret.proofs.cells.put_object.Given as goal

abbrev pub invariant-loop : goal.invariant-loop
invariant-loop l = ((other : ℕ) → flat (slice_get l.numbers.items other) ≡ flat (slice_get l.fn.numbers.items other)) × (length l.numbers.items ≡ l.counter)
