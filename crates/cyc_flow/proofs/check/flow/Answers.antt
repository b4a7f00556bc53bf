use Rattle.std.proofs.Common.{◌≡◌, ◌⊎◌, List, map, Ok, Err, inl, inr, refl, sym, ap, ◌∙◌}
use Rattle.std.proofs.lemmas.Result.{err_from_is_err_and}
use Rattle.cyc_words.specs.Fault.{memory_fault}
use Rattle.cyc_words.proofs.Decisions.{decides}
use Rattle.cyc_types.specs.declared.flowed.Flowed.{Flowed}
use Rattle.cyc_types.specs.declared.typed.Function.{Function}
use Rattle.cyc_types.specs.declared.typed.TypedTree.{TypedTree}
use Rattle.cyc_types.specs.TypedTreeView.{view_function, view_program}
use Rattle.cyc_types.specs.Rules.{run}
use Rattle.cyc_types.specs.flow.Programs.{rule_functions, rule_program, IsAllowedProgram, IsStoppedProgram}
use Rattle.cyc_types.proofs.RuleLaws.{answers_tree, answers_fault, is_decided}
use Rattle.cyc_soundness.proofs.FormedLemmas.{typed_sound}
use Rattle.cyc_flow.specs.declared.stop.Stop.{Stop}
use Rattle.cyc_flow.specs.declared.stop.Stop.TheVariants as stops
use Rattle.cyc_flow.specs.inside.Code.{fault_of, Stops}
use Rattle.cyc_flow.proofs.check.flow.Goals as goal

-- The flow check accepts a program if it accepts all of the program's functions.
allows : (t : TypedTree) (fs : List Function) → fs ≡ t.functions.items → run (rule_functions (map view_function fs)) ≡ Ok tt → IsAllowedProgram (view_program t)
allows t fs same h = answers_tree (rule_program (view_program t)) tt (ap (λ (gs : List Function). run (rule_functions (map view_function gs))) (sym same) ∙ h)

fails : (t : TypedTree) (fs : List Function) (e : Stop) → fs ≡ t.functions.items → Stops e (run (rule_functions (map view_function fs))) → (fault_of e ≡ memory_fault) ⊎ IsStoppedProgram (view_program t) (fault_of e)
fails t fs stops.Memory same h = inl refl
fails t fs (stops.Refused x n) same h = inr (answers_fault (rule_program (view_program t)) x (ap (λ (gs : List Function). run (rule_functions (map view_function gs))) (sym same) ∙ h))

pub invariant_of-result : goal.invariant_of-result
invariant_of-result c = record { allowed = ∣ allows c.args.tree c.deref.result.now c.deref.ensures.value c.in_ok-check_functions.ensures ∣₁ }

pub returns-in_err-check_functions : goal.returns-in_err-check_functions
returns-in_err-check_functions c =
    let e = c.in_err-check_functions.field-0.0 in
    let p = err_from_is_err_and c.from_residual.result c.from_residual.ensures.1 in
    record {
      decides = rw (p.1, p.2) (decides {X = Flowed} _ _ _ _ (is_decided (rule_program (view_program c.args.tree))) (Err (fault_of e)) tt (fails c.args.tree c.deref.result.now e c.deref.ensures.value c.in_err-check_functions.ensures));
      sound = rw p.1 tt;
    }

pub returns : goal.returns
returns c =
    let allowed = allows c.args.tree c.deref.result.now c.deref.ensures.value c.in_ok-check_functions.ensures in
    record {
      decides = decides {X = Flowed} _ _ _ _ (is_decided (rule_program (view_program c.args.tree))) (Ok _) (tt, allowed, refl) tt;
      sound = λ texts declarations typed. typed_sound texts declarations (view_program c.args.tree) typed allowed;
    }
