-- The result for a program is the result for its declarations, followed by the result for the bodies of its functions.
use Rattle.std.proofs.Common.{◌≡◌, ℕ, List, Ok, ap, ◌∙◌}
use Rattle.cyc_syntax.specs.Trees.{Declaration}
use Rattle.cyc_types.specs.TypedTrees as typed
use Rattle.cyc_types.specs.Rules.{Checked, and_then, Part, gives, run}
use Rattle.cyc_types.specs.typing.Programs.{Program, program_of, rule_functions, check_of}
use Rattle.cyc_scope.specs.declared.stop.Stop.{Stop}
use Rattle.cyc_scope.specs.declared.stop.Stop.TheVariants as stops
use Rattle.cyc_scope.specs.inside.Code.{Stops}
use Rattle.cyc_declarations.specs.inside.DeclarationRules.{collected_program}
use Rattle.cyc_declarations.proofs.DeclarationLemmas.{bodies_after}

abbrev bodies_of : List Declaration → Program → Checked typed.Program
bodies_of tree p = run (Part (rule_functions p tree) (λ fs. gives (program_of p tree fs)))

pub declarations_stop : (e : Stop) (texts : List (List ℕ)) (tree : List Declaration) → Stops e (collected_program texts tree) → Stops e (check_of texts tree)
declarations_stop stops.Memory texts tree h = tt
declarations_stop (stops.Refused f) texts tree h = bodies_after texts tree ∙ ap (λ o. and_then o (bodies_of tree)) h

after_declarations : (texts : List (List ℕ)) (tree : List Declaration) (p : Program) → collected_program texts tree ≡ Ok p → check_of texts tree ≡ bodies_of tree p
after_declarations texts tree p h = bodies_after texts tree ∙ ap (λ o. and_then o (bodies_of tree)) h

pub bodies_stop : (e : Stop) (texts : List (List ℕ)) (tree : List Declaration) (p : Program) → collected_program texts tree ≡ Ok p → Stops e (run (rule_functions p tree)) → Stops e (check_of texts tree)
bodies_stop stops.Memory texts tree p h k = tt
bodies_stop (stops.Refused f) texts tree p h k = after_declarations texts tree p h ∙ ap (λ o. and_then o (λ fs. Ok (program_of p tree fs))) k

pub made : (texts : List (List ℕ)) (tree : List Declaration) (p : Program) (fs : List typed.Function) → collected_program texts tree ≡ Ok p → run (rule_functions p tree) ≡ Ok fs → check_of texts tree ≡ Ok (program_of p tree fs)
made texts tree p fs h k = after_declarations texts tree p h ∙ ap (λ o. and_then o (λ fs. Ok (program_of p tree fs))) k
