-- This file defines the absence of accesses to freed memory: it is the property of a program that the typing rules and the flow rules
-- accept. (The property is that of Grossman et al. 2002, with unique pointers and locks; the form is this project's own choice.)
use Rattle.std.specs.Prelude.{◌≢◌, ℕ, List}
use Rattle.cyc_types.specs.TypedTrees.{Program}
use Rattle.cyc_meaning.specs.State.{status_of, IsDead, IsWrong}
use Rattle.cyc_meaning.specs.Run.{run}

-- Says that no state of any run of the program records an access to freed memory (dead) or an operation that has no meaning (wrong).
abbrev pub IsSound : Program → Type 0
IsSound p = (input : List ℕ) (count : ℕ) → (status_of (run p input count) ≢ IsDead) × (status_of (run p input count) ≢ IsWrong)
