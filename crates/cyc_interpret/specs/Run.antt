-- What a run is reported by. This project's own choice.
use Rattle.std.specs.Prelude.{ℕ, zero, suc, Bool, true, false, max, Option, None, Some}
use Rattle.cyc_words.specs.Ending.{Returned, Uncaught, Full}
use Rattle.cyc_meaning.specs.State.{Focus, State, Running, Status, GoesOn, HasEnded, IsDead, IsWrong}
use Rattle.cyc_interpret.specs.declared.entry.Over.{Over}
use Rattle.cyc_interpret.specs.declared.entry.Over.TheVariants as over

-- what is done next, and whether a run is over
abbrev pub focus_by : State → Option Focus
focus_by (Running focus stack e w) = Some focus
focus_by s = None

abbrev pub is_over : State → Bool
is_over (Running focus stack e w) = false
is_over s = true

-- the greatest of so many values and the first one
abbrev pub peak_of : (ℕ → ℕ) → ℕ → ℕ
peak_of value zero = value 0
peak_of value (suc n) = max (peak_of value n) (value (suc n))

-- what a run came to, as it is reported: nothing where it is under way
abbrev pub status_by : Option Over → Status
status_by None = GoesOn
status_by (Some (over.Returned n)) = HasEnded (Returned n)
status_by (Some (over.Uncaught tag n)) = HasEnded (Uncaught tag n)
status_by (Some over.Full) = HasEnded Full
status_by (Some over.Dead) = IsDead
status_by (Some over.Wrong) = IsWrong
