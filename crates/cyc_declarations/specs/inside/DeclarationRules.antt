-- The result of the checker's code that collects a program's declarations, stated as the result of the typing rules.
use Rattle.std.specs.Prelude.{ℕ, List, [], ◌∷◌, Ok}
use Rattle.cyc_words.specs.declared.fault.Code.TheVariants as codes
use Rattle.cyc_syntax.specs.Trees.{Declaration}
use Rattle.cyc_types.specs.Rules.{Checked, and_then, demand, Rule, demands, run}
use Rattle.cyc_types.specs.typing.DeclarationRules.{rule_declarations, declares}
use Rattle.cyc_types.specs.typing.Programs.{Program, known_of, before_all, program_known, start}

-- the rule that a program declares `main`
abbrev pub rule_main : ℕ → List Declaration → Rule (Unit {0})
rule_main main ds = demands (demand codes.BadMain start (declares main ds) ∷ [])

-- the declarations of a program, if they satisfy the rules and include `main`
abbrev pub collected_program : List (List ℕ) → List Declaration → Checked Program
collected_program texts tree =
    and_then (run (rule_declarations (known_of texts tree) (before_all texts) tree)) (λ _. and_then (run (rule_main (known_of texts tree).main tree)) (λ _. Ok (program_known texts tree)))
