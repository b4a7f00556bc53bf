use Rattle.std.proofs.Common.{rules, ◌≡◌, nat_eq, length, map, None, ap, subst}
use Rattle.cyc_words.specs.declared.fault.Code.TheVariants as codes
use Rattle.cyc_syntax.specs.inside.TreeView.{place_of_span, expressions_of}
use Rattle.cyc_types.specs.Types.{substituted_ty}
use Rattle.cyc_types.specs.TypeView.{view_ty}
use Rattle.cyc_types.specs.inside.SignatureView.{view_signature}
use Rattle.cyc_types.specs.Rules.{demand, noted, settled}
use Rattle.cyc_types.specs.typing.Expressions.{passed_demanded, variables_demanded}
use Rattle.cyc_scope.specs.inside.Code.{Ends}
use Rattle.cyc_operands.specs.inside.Operands.{value_in}
use Rattle.cyc_calls.specs.inside.Instances.{instance_in}
use Rattle.cyc_calls.specs.inside.Calls.{regions_demanded}
use Rattle.cyc_calls.proofs.Settling.{settled_three}
use Rattle.cyc_calls.proofs.calls.call_wanted.Goals as goal

pub returns : goal.returns
returns c =
    let g = c.args.scope.now in
    let p = place_of_span c.args.span in
    let es = expressions_of c.args.expressions.now in
    let values = map value_in c.args.values.now in
    let m = instance_in c.args.table.now in
    let s = view_signature c.args.signature.now in
    let us = map view_ty c.args.signature.now.parameters.items in
    let ts = map (substituted_ty m) us in
    let here : map view_ty c.args.here.now.parameters.items ≡ ts = ap (λ x. x.parameters) c.requires in
    let known = noted None (demand codes.TypeMismatch p (nat_eq (length values) (length us))) in
    let k = c.pass.new.so_far.known in
    let l = c.demand_variables.new.so_far.known in
    let n = c.demand_regions.new.so_far.known in
    let asked : k ≡ settled known (passed_demanded g.regions es values (map view_ty c.args.here.now.parameters.items)) = search rules in
    let passed : k ≡ settled known (passed_demanded g.regions es values ts) = subst (λ xs. k ≡ settled known (passed_demanded g.regions es values xs)) here asked in
    let varied : l ≡ settled k (variables_demanded es values us) = search rules in
    let covered : n ≡ settled l (regions_demanded g p m s) = search rules in
    subst (λ x. Ends c.end.result x)
    (settled_three known k l n (passed_demanded g.regions es values ts) (variables_demanded es values us) (regions_demanded g p m s) passed varied covered)
    c.end.ensures
