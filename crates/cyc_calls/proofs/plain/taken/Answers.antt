use Rattle.std.proofs.Common.{rules, ◌≡◌, map, Ok, option_map, sym, subst, ◌∙◌}
use Rattle.cyc_syntax.specs.inside.TreeView.{place_of_span, expressions_of}
use Rattle.cyc_types.specs.Types.{result_type}
use Rattle.cyc_types.specs.TypeView.{view_ty}
use Rattle.cyc_types.specs.TypedTrees.{Call}
use Rattle.cyc_types.specs.TypedTreeView.{arguments_of}
use Rattle.cyc_types.specs.inside.SignatureView.{view_signature}
use Rattle.cyc_types.specs.typing.Expressions.{instance_of}
use Rattle.cyc_scope.specs.inside.Code.{Gives}
use Rattle.cyc_operands.specs.inside.Operands.{view_boxed, value_in}
use Rattle.cyc_calls.specs.inside.Passing.{all_with_kinds}
use Rattle.cyc_calls.proofs.PassedValues.{called_well}
use Rattle.cyc_calls.proofs.PlainCalls.{taken_settled}
use Rattle.cyc_calls.proofs.plain.taken.Goals as goal

pub returns : goal.returns
returns c =
    let g = c.args.scope.now in
    let p = place_of_span c.args.span in
    let es = expressions_of c.args.expressions.now in
    let cs = c.args.values.items in
    let s = c.args.signature.now in
    let m = instance_of (view_signature s) (map value_in cs) in
    let r = c.in_ok-returned.returned in
    let returned : option_map view_ty r ≡ option_map view_ty s.result = search rules in
    let made : Gives view_boxed c.call_with.result (Ok (Call c.args.callee (arguments_of (all_with_kinds cs s.parameters.items)) (result_type (option_map view_ty r)))) = search rules in
    subst (λ o. Gives view_boxed c.call_with.result o)
    (called_well g c.args.callee p es cs s m r (returned ∙ sym (c.requires.plain.result m)) (taken_settled g p es (map value_in cs) (view_signature s) c.requires))
    made
