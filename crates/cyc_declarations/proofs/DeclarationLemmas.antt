-- The checker first checks the declarations of a program, and then its function bodies.
use Rattle.std.proofs.Common.{◌≡◌, ℕ, List, Ok, Err, refl, sym, ap}
use Rattle.cyc_syntax.specs.Trees.{Declaration}
use Rattle.cyc_types.specs.TypedTrees as typed
use Rattle.cyc_types.specs.Rules.{Checked, and_then, Part, gives, run}
use Rattle.cyc_types.specs.typing.DeclarationRules.{rule_declarations}
use Rattle.cyc_types.specs.typing.Programs.{Program, known_of, before_all, program_known, program_of, rule_functions, check_of}
use Rattle.cyc_declarations.specs.inside.DeclarationRules.{rule_main, collected_program}
use Rattle.cyc_declarations.specs.inside.Parts.{program_made}

regrouped : {A B C D : Type 0} (a : Checked A) (b : Checked B) (c : C) (next : C → Checked D) → and_then a (λ x. and_then b (λ y. next c)) ≡ and_then (and_then a (λ x. and_then b (λ y. Ok c))) next
regrouped (Ok x) (Ok y) c next = refl
regrouped (Ok x) (Err f) c next = refl
regrouped (Err f) b c next = refl

-- the check of a program first collects the declarations, and then checks the functions
pub bodies_after : (texts : List (List ℕ)) (tree : List Declaration)
    → check_of texts tree ≡ and_then (collected_program texts tree) (λ p. run (Part (rule_functions p tree) (λ fs. gives (program_of p tree fs))))
bodies_after texts tree =
    regrouped (run (rule_declarations (known_of texts tree) (before_all texts) tree)) (run (rule_main (known_of texts tree).main tree)) (program_known texts tree)
    (λ p. run (Part (rule_functions p tree) (λ fs. gives (program_of p tree fs))))

-- if the declarations of a program are well-formed, the checker's code that collects them gives `program_known`, the program
-- with all its declarations
pub declared_is : (texts : List (List ℕ)) (tree : List Declaration) (p : Program) → collected_program texts tree ≡ Ok p → p ≡ program_known texts tree
declared_is texts tree p e = go (run (rule_declarations (known_of texts tree) (before_all texts) tree)) (run (rule_main (known_of texts tree).main tree)) e
  where
    go : {A B : Type 0} (a : Checked A) (b : Checked B) → and_then a (λ x. and_then b (λ y. Ok (program_known texts tree))) ≡ Ok p → p ≡ program_known texts tree
    go (Ok x) (Ok y) e = ap (λ (r : Checked Program). elim r [ Ok q ↦ q | Err f ↦ p ]) (sym e)
    go (Ok x) (Err f) e = absurd (cc)
    go (Err f) b e = absurd (cc)

-- the typed program that the checker's code makes from a program's declarations and functions equals the typed program
-- that the typing rules define
pub made_is : (texts : List (List ℕ)) (tree : List Declaration) (fs : List typed.Function) → program_made (known_of texts tree) tree fs ≡ program_of (program_known texts tree) tree fs
made_is texts tree fs = refl
