-- The states in which a run has ended. The definition of these states is this project's own choice.
use Rattle.cyc_meaning.specs.State.{State, Running, Ended, Dead, Wrong}

-- says that a state is not running, so the run has ended
abbrev pub IsOver : State → Type 0
IsOver (Running focus stack e w) = ⊥
IsOver (Ended ending output input) = Unit {0}
IsOver (Dead output input) = Unit {0}
IsOver (Wrong output input) = Unit {0}
