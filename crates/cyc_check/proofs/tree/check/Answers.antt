use Rattle.std.proofs.Common.{◌≡◌, ◌⊎◌, ℕ, List, map, Ok, Err, inl, inr, refl}
use Rattle.std.proofs.lemmas.Result.{err_from_is_err_and}
use Rattle.cyc_words.specs.Fault.{memory_fault}
use Rattle.cyc_words.proofs.Decisions.{decides_by_view}
use Rattle.cyc_syntax.specs.Trees.{Declaration}
use Rattle.cyc_syntax.specs.inside.TreeView.{view_declaration}
use Rattle.cyc_types.specs.TypedTreeView.{view_program}
use Rattle.cyc_types.specs.typing.Programs.{rule_program, IsRefusedProgram, check_of}
use Rattle.cyc_types.proofs.RuleLaws.{answers_tree, answers_fault, is_decided}
use Rattle.cyc_scope.specs.declared.stop.Stop.{Stop}
use Rattle.cyc_scope.specs.declared.stop.Stop.TheVariants as stops
use Rattle.cyc_scope.specs.inside.Code.{fault_of, Stops}
use Rattle.cyc_check.proofs.tree.check.Goals as goal

fails : (texts : List (List ℕ)) (tree : List Declaration) (e : Stop) → Stops e (check_of texts tree) → (fault_of e ≡ memory_fault) ⊎ IsRefusedProgram texts tree (fault_of e)
fails texts tree stops.Memory h = inl refl
fails texts tree (stops.Refused f) h = inr (answers_fault (rule_program texts tree) f h)

pub returns-in_err-typed_tree : goal.returns-in_err-typed_tree
returns-in_err-typed_tree c =
    let texts = c.args.tree.now.names in
    let tree = map view_declaration c.args.tree.now.declarations.items in
    let e = c.in_err-typed_tree.field-0.0 in
    let p = err_from_is_err_and c.from_residual.result c.from_residual.ensures.1 in
    record { decides = rw (p.1, p.2) (decides_by_view view_program _ _ _ (is_decided (rule_program texts tree)) (Err (fault_of e)) tt (fails texts tree e c.in_err-typed_tree.ensures)) }

pub returns : goal.returns
returns c =
    let texts = c.args.tree.now.names in
    let tree = map view_declaration c.args.tree.now.declarations.items in
    let typed = c.in_ok-typed_tree.field-0 in
    record { decides = decides_by_view view_program _ _ _ (is_decided (rule_program texts tree)) (Ok typed) (answers_tree (rule_program texts tree) (view_program typed) c.in_ok-typed_tree.ensures) tt }
