-- The meaning of exceptions. The built-in exceptions have the numbers 1 to 4; the exceptions that the program declares are numbered from 5
-- on, in the order of their declarations. Throwing an exception allocates nothing. A throw pops one control-stack entry after another,
-- down to the body of a `try`, and tries the catch clauses of the `try`, one per step. The end of a catch clause leaves the `try`; an
-- exception that no catch clause catches propagates. (Cyclone's exceptions, User's Manual 1.0; the numbers are this project's own choice.)
use Rattle.std.specs.Prelude.{ℕ, ◌==◌, if◌then◌else◌, List, ◌∷◌, Option, Some, None}
use Rattle.cyc_types.specs.declared.typed.Kind.TheVariants as kinds
use Rattle.cyc_types.specs.TypedTrees.{Expression, Statement, Items, Clauses, NoClauses, Default, Case}
use Rattle.cyc_meaning.specs.Values.{Value, Int}
use Rattle.cyc_meaning.specs.State.{World, opened, Environment, ThrowWith, Entry, Needs, Rest, Handler, Evaluating, Executing, Proceeding, Naming, Throwing, Catching, State, Running}
use Rattle.cyc_meaning.specs.Parts.{wrong, inside, region_end}

-- ---- throwing

-- Throws an exception; an exception without an int gets the int 0.
abbrev pub throws : (tag : ℕ) → Option Expression → List Entry → Environment → World → State
throws tag None stack e w = Running (Throwing tag 0) stack e w
throws tag (Some a) stack e w = Running (Evaluating a) (Needs (ThrowWith tag) ∷ stack) e w

abbrev pub throws_value : (tag : ℕ) → Value → List Entry → Environment → World → State
throws_value tag (Int word) stack e w = Running (Throwing tag word) stack e w
throws_value tag value stack e w = wrong w

-- ---- catching

abbrev pub tries : Statement → Clauses → List Entry → Environment → World → State
tries s handler stack e w = Running (Executing s) (Handler handler ∷ stack) e w

-- The declarations and statements of a catch clause form a block, which contains the local that receives the exception's int.
abbrev pub catches : (value : ℕ) → (number : Option ℕ) → Items → List Entry → Environment → World → State
catches value None items stack e w = Running Proceeding (Rest items ∷ region_end e w ∷ stack) (inside e w) (opened w)
catches value (Some number) items stack e w =
    Running (Naming number (record { kind = kinds.Int; value = Int value }) items) (region_end e w ∷ stack) (inside e w) (opened w)

abbrev pub step_catching : (tag value : ℕ) → Clauses → List Entry → Environment → World → State
step_catching tag value NoClauses stack e w = Running (Throwing tag value) stack e w
step_catching tag value (Default region items) stack e w = catches value None items stack e w
step_catching tag value (Case caught number region items later) stack e w =
    if caught == tag then catches value number items stack e w else Running (Catching tag value later) stack e w
