use Rattle.std.proofs.Common.{◌≡◌, map, Ok, sym, ap, subst, ◌∙◌}
use Rattle.std.proofs.lemmas.Result.{err_from_is_err_and}
use Rattle.cyc_syntax.specs.inside.TreeView.{view_declaration}
use Rattle.cyc_types.specs.TypedTreeView.{view_function}
use Rattle.cyc_types.specs.Rules.{run}
use Rattle.cyc_types.specs.typing.Programs.{known_of, program_of, rule_functions}
use Rattle.cyc_scope.specs.inside.Code.{Stops}
use Rattle.cyc_declarations.specs.inside.Parts.{program_made}
use Rattle.cyc_declarations.proofs.DeclarationLemmas.{declared_is, made_is}
use Rattle.cyc_check.proofs.ProgramLemmas.{declarations_stop, bodies_stop, made}
use Rattle.cyc_check.proofs.tree.typed_tree.Goals as goal

pub returns-in_err-program : goal.returns-in_err-program
returns-in_err-program c =
    let p = err_from_is_err_and (c.from_residual).result (c.from_residual).ensures.1 in
    rw (p.1, p.2) (declarations_stop c.in_err-program.field-0.0 c.args.tree.now.names (map view_declaration c.args.tree.now.declarations.items) c.in_err-program.ensures)

pub returns-in_err-functions : goal.returns-in_err-functions
returns-in_err-functions c =
    let e = c.in_err-functions.field-0.0 in
    let p = err_from_is_err_and (c.from_residual-in_err-functions).result (c.from_residual-in_err-functions).ensures.1 in
    rw (p.1, p.2)
    (bodies_stop e c.args.tree.now.names (map view_declaration c.args.tree.now.declarations.items) c.in_ok-program.program c.in_ok-program.ensures
    (subst (λ ds. Stops e (run (rule_functions c.in_ok-program.program (map view_declaration ds)))) c.as_slice-declarations.ensures.value c.in_err-functions.ensures))

pub returns : goal.returns
returns c =
    let texts = c.args.tree.now.names in
    let ds = c.args.tree.now.declarations.items in
    let tree = map view_declaration ds in
    let q = c.in_ok-program.program in
    let fs = map view_function c.in_ok-functions.functions.items in
    let is = declared_is texts tree q c.in_ok-program.ensures in
    let parts =
    ap (λ k. program_made k (map view_declaration c.as_slice-declarations.result.now) fs) (c.known.ensures ∙ ap (λ p. p.known) is)
    ∙ ap (λ xs. program_made (known_of texts tree) (map view_declaration xs) fs) c.as_slice-declarations.ensures.value ∙ made_is texts tree fs ∙ sym (ap (λ p. program_of p tree fs) is) in
    made texts tree q fs c.in_ok-program.ensures (subst (λ xs. run (rule_functions q (map view_declaration xs)) ≡ Ok fs) c.as_slice-declarations.ensures.value c.in_ok-functions.ensures)
    ∙ ap Ok (sym (c.with_functions.ensures ∙ c.in_ok-parts.ensures fs ∙ parts))
