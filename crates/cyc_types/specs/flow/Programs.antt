-- The flow rules of functions and of a program. At the start of a function its parameters hold values. The end of a function with a result
-- is never reached. (As in `Expressions`, the demand that a used variable holds a value is Cyclone's, Grossman et al. 2002. Codes and
-- positions are this project's own choice.)
use Rattle.std.specs.Prelude.{not, List, [], ◌∷◌, ◌++◌, Option, Some, None}
use Rattle.cyc_words.specs.declared.fault.Code.TheVariants as codes
use Rattle.cyc_words.specs.declared.fault.Fault.{Fault}
use Rattle.cyc_syntax.specs.Symbols.{Place}
use Rattle.cyc_types.specs.Types.{Ty}
use Rattle.cyc_types.specs.TypedTrees.{Function, Program}
use Rattle.cyc_types.specs.Rules.{Checked, Demand, demand, Rule, Own, Part, Derives, Refuses, run}
use Rattle.cyc_types.specs.flow.States.{Fullness, Vacant, Full, State, Unreached, Reached, is_reached}
use Rattle.cyc_types.specs.flow.Statements.{Around, rule_items}

abbrev pub each_is : Fullness → List Ty → List Fullness
each_is a [] = []
each_is a (t ∷ ts) = a ∷ each_is a ts

abbrev pub start_of : Function → State
start_of h = Reached (each_is Full h.parameters ++ each_is Vacant h.locals)

-- the enclosing loop and the borrowed locals at the start of a function's body: no loop, and no local whose value is borrowed
abbrev pub in_function : Around
in_function = record { loop = None; locks = [] }

-- the requirement that execution does not reach the end of a function with a result; its source position is that of the closing brace
abbrev pub end_demanded : Option Ty → Place → State → List Demand
end_demanded None p f = []
end_demanded (Some t) p f = demand codes.MissingReturn p (not (is_reached f)) ∷ []

abbrev pub rule_function : Function → Rule (Unit {0})
rule_function h = Part (rule_items in_function h.body (record { now = start_of h; breaks = Unreached })) (λ k. Own (end_demanded h.result h.end k.now) tt)

abbrev pub rule_functions : List Function → Rule (Unit {0})
rule_functions [] = Own [] tt
rule_functions (h ∷ hs) = Part (rule_function h) (λ u. rule_functions hs)

abbrev pub rule_program : Program → Rule (Unit {0})
rule_program p = rule_functions p.functions

-- says that the program satisfies the flow rules
abbrev pub IsAllowedProgram : Program → Type 0
IsAllowedProgram p = Derives (rule_program p) tt

-- says that the flow rules reject the program with this fault
abbrev pub IsStoppedProgram : Program → Fault → Type 0
IsStoppedProgram p x = Refuses (rule_program p) x

-- returns success, or the program's first flow fault
abbrev pub flow_of : Program → Checked (Unit {0})
flow_of p = run (rule_program p)
