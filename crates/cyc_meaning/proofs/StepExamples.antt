-- Example: a run step by step, from the call of `main` to its end, of the program int main(){ return 1 + 2; }
use Rattle.std.proofs.Common.{◌≡◌, ℕ, List, [], ◌∷◌, Option, Some, None, pos, refl}
use Rattle.cyc_words.specs.Ending.{Returned}
use Rattle.cyc_types.specs.declared.typed.Kind.TheVariants as kinds
use Rattle.cyc_types.specs.declared.typed.Operator.TheVariants as operators
use Rattle.cyc_types.specs.Types.{Int}
use Rattle.cyc_types.specs.TypedTrees.{Expression, Number, Binary, NoOperations, ThenCompute, Convert, Statement, NoItems, MoreItems, Execute}
use Rattle.cyc_types.specs.TypedTrees as typed
use Rattle.cyc_meaning.specs.Values as values
use Rattle.cyc_meaning.specs.Values.{Operand}
use Rattle.cyc_meaning.specs.State.{Entry, Needs, ConvertTo, Chain, Apply, Return, Rest, CloseRegion, Main, Focus, Evaluating, Given, Executing, Proceeding, Entering, Binding, Returning, State, Running, Ended}
use Rattle.cyc_meaning.specs.Run.{run}
use Rattle.cyc_meaning.proofs.ExampleTrees.{function, program}

abbrev sum : Expression
sum = Binary (Number 1) (ThenCompute operators.Add (Number 2) NoOperations) Int

abbrev returns_sum : Statement
returns_sum = typed.Return (Some (Convert kinds.Int kinds.Int sum))

abbrev of_main : List typed.Item
of_main = Execute returns_sum ∷ []

-- Returns the focus (the next action) after a given number of steps, and the waiting stack entries, newest first.
abbrev focus_of : State → Option Focus
focus_of (Running focus stack e w) = Some focus
focus_of s = None

abbrev stack_of : State → List Entry
stack_of (Running focus stack e w) = stack
stack_of s = []

abbrev at : ℕ → Option Focus × List Entry
at n = (focus_of (run (program of_main) [] n), stack_of (run (program of_main) [] n))

abbrev int : ℕ → Operand
int n = record { kind = kinds.Int; value = values.Int n }

-- The control-stack entries below those of the `return` statement are the rest of the body of `main`, the end of the body's region,
-- and the call of `main`. The region in which the `return` is executed has index 2, after the heap and the region of the globals.
abbrev outside : List Entry
outside = Rest NoItems ∷ CloseRegion 2 1 ∷ Main ∷ []

abbrev waiting : List Entry
waiting = Needs (ConvertTo kinds.Int kinds.Int None) ∷ Needs Return ∷ outside

-- `main` is called and its region is opened; `main` has no parameters
at_0 : at 0 ≡ (Some (Entering (function [] of_main) []), Main ∷ [])
at_0 = refl

at_1 : at 1 ≡ (Some (Binding 0 [] [] (MoreItems (Execute returns_sum) NoItems)), CloseRegion 2 1 ∷ Main ∷ [])
at_1 = refl

at_2 : at 2 ≡ (Some Proceeding, Rest (MoreItems (Execute returns_sum) NoItems) ∷ CloseRegion 2 1 ∷ Main ∷ [])
at_2 = refl

at_3 : at 3 ≡ (Some (Executing returns_sum), outside)
at_3 = refl

-- `return` waits for the value of its expression, which must be an int.
at_4 : at 4 ≡ (Some (Evaluating sum), waiting)
at_4 = refl

at_5 : at 5 ≡ (Some (Evaluating (Number 1)), Needs (Chain (ThenCompute operators.Add (Number 2) NoOperations)) ∷ waiting)
at_5 = refl

at_6 : at 6 ≡ (Some (Given (int 1)), Needs (Chain (ThenCompute operators.Add (Number 2) NoOperations)) ∷ waiting)
at_6 = refl

-- The left operand of a sum has its value; the right operand is evaluated next, and a continuation waits for the right operand's value.
at_7 : at 7 ≡ (Some (Evaluating (Number 2)), Needs (Apply operators.Add (int 1)) ∷ Needs (Chain NoOperations) ∷ waiting)
at_7 = refl

at_8 : at 8 ≡ (Some (Given (int 2)), Needs (Apply operators.Add (int 1)) ∷ Needs (Chain NoOperations) ∷ waiting)
at_8 = refl

at_9 : at 9 ≡ (Some (Given (int 3)), Needs (Chain NoOperations) ∷ waiting)
at_9 = refl

at_10 : at 10 ≡ (Some (Given (int 3)), waiting)
at_10 = refl

at_11 : at 11 ≡ (Some (Given (int 3)), Needs Return ∷ outside)
at_11 = refl

-- The `return` pops the stack entries of the call one by one, and closes the call's region.
at_12 : at 12 ≡ (Some (Returning (Some (int 3))), outside)
at_12 = refl

at_13 : at 13 ≡ (Some (Returning (Some (int 3))), CloseRegion 2 1 ∷ Main ∷ [])
at_13 = refl

at_14 : at 14 ≡ (Some (Returning (Some (int 3))), Main ∷ [])
at_14 = refl

at_15 : run (program of_main) [] 15 ≡ Ended (Returned (pos 3)) [] []
at_15 = refl
