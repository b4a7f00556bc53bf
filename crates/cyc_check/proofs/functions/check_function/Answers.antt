use Rattle.std.proofs.Common.{map, option_map, ap, ◌∙◌}
use Rattle.std.proofs.lemmas.Result.{err_from_is_err_and}
use Rattle.cyc_syntax.specs.inside.TreeView.{place_of_span, view_name, view_type, view_member, view_parameters, items_of}
use Rattle.cyc_types.specs.inside.SignatureView.{view_signature}
use Rattle.cyc_types.specs.typing.DeclarationRules.{parameter_naming, signature_of}
use Rattle.cyc_check.proofs.FunctionLoops.{scope_of_body, body_stops}
use Rattle.cyc_check.proofs.functions.check_function.Goals as goal

pub returns-in_err-body : goal.returns-in_err-body
returns-in_err-body c =
    let p = c.args.program.now in
    let ps = view_parameters c.args.parameters.now in
    let r = option_map view_type c.args.returned.now in
    let s = signature_of p.known r ps in
    let x = view_name c.args.name in
    let q = err_from_is_err_and (c.from_residual-in_err-body).result (c.from_residual-in_err-body).ensures.1 in
    rw (q.1, q.2)
    (body_stops c.in_err-body.field-0.0 p s x ps (place_of_span c.args.block.now.span) (place_of_span c.args.block.now.end) (items_of c.args.block.now.items.items) (items_of c.deref.result.now) c.in_ok-scope.scope
    (scope_of_body p s (view_signature c.in_ok-signature.signature) x ps c.signature_of.new.names (map view_member c.members-members.result.now) c.in_ok-scope.scope c.in_ok-scope.ensures.body
    (c.in_ok-signature.ensures.signature ∙ ap (λ k. signature_of k r ps) c.known.ensures) (c.in_ok-signature.ensures.names ∙ ap (λ k. (parameter_naming k ps).names) c.known.ensures) c.members-members.ensures)
    (ap items_of c.deref.ensures.value) c.in_err-body.ensures.gives)
