use Rattle.std.proofs.Common.{rules, ◌≡◌, List, map, Option, Some, None, IfSome, Ok, ap, sym, subst, ◌∙◌}
use Rattle.std.proofs.lemmas.Result.{err_from_is_err_and}
use Rattle.std.specs.declared.alloc.Global.{Global}
use Rattle.smallvec.specs.declared.small_vec.SmallVec.{SmallVec}
use Rattle.cyc_syntax.specs.inside.TreeView.{place_of_span, expressions_of}
use Rattle.cyc_types.specs.declared.region.Region.{Region}
use Rattle.cyc_types.specs.inside.SignatureView.{view_signature}
use Rattle.cyc_types.specs.Rules.{settled, unless}
use Rattle.cyc_types.specs.typing.Expressions.{instance_of, instantiated, call_demanded}
use Rattle.cyc_scope.specs.inside.Code.{Gives}
use Rattle.cyc_operands.specs.inside.Operands.{value_in}
use Rattle.cyc_calls.specs.inside.Instances.{instance_in}
use Rattle.cyc_calls.specs.inside.Fitting.{FitsCall}
use Rattle.cyc_calls.specs.inside.Calls.{regions_demanded}
use Rattle.cyc_calls.proofs.Settling.{stops_unless}
use Rattle.cyc_calls.proofs.FittedValues.{fitting_run}
use Rattle.cyc_calls.proofs.calls.instance_wanted.Goals as goal

pub returns-in_err-fitting_call_wanted : goal.returns-in_err-fitting_call_wanted
returns-in_err-fitting_call_wanted c =
    let g = c.args.scope.now in
    let p = place_of_span c.args.span in
    let es = expressions_of c.args.expressions.now in
    let vs = map value_in c.args.values.now in
    let s = view_signature c.args.signature.now in
    let table = c.in-Some.table.items in
    let here = instance_in table in
    let is : c.in_ok-table.field-0 ≡ Some c.in-Some.table = search rules in
    let fits : FitsCall g.regions s vs table = subst (λ (o : Option (SmallVec (Option Region) 5 Global)). IfSome o (λ t. FitsCall g.regions s vs t.items)) is c.in_ok-table.ensures in
    let stops : Gives (λ (t : SmallVec (Option Region) 5 Global). instance_in t.items) c.from_residual-in_err-fitting_call_wanted.result (unless (settled None (regions_demanded g p here s)) here) = search rules in
    subst (λ o. Gives (λ (t : SmallVec (Option Region) 5 Global). instance_in t.items) c.from_residual-in_err-fitting_call_wanted.result o) (fitting_run g p es vs s table fits) stops

pub returns-in-Some : goal.returns-in-Some
returns-in-Some c =
    let g = c.args.scope.now in
    let p = place_of_span c.args.span in
    let es = expressions_of c.args.expressions.now in
    let vs = map value_in c.args.values.now in
    let s = view_signature c.args.signature.now in
    let table = c.in-Some.table.items in
    let here = instance_in table in
    let is : c.in_ok-table.field-0 ≡ Some c.in-Some.table = search rules in
    let fits : FitsCall g.regions s vs table = subst (λ (o : Option (SmallVec (Option Region) 5 Global)). IfSome o (λ t. FitsCall g.regions s vs t.items)) is c.in_ok-table.ensures in
    let kept : settled None (regions_demanded g p here s) ≡ None = search rules in
    sym (fitting_run g p es vs s table fits) ∙ ap (λ o. unless o here) kept

pub returns-in_err-call_wanted : goal.returns-in_err-call_wanted
returns-in_err-call_wanted c =
    let g = c.args.scope.now in
    let p = place_of_span c.args.span in
    let es = expressions_of c.args.expressions.now in
    let vs = map value_in c.args.values.now in
    let s = view_signature c.args.signature.now in
    let e = c.in_err-call_wanted.field-0.0 in
    let here = instance_in c.deref-3.result.now in
    let asked = settled None (call_demanded g p es vs s (instantiated here s)) in
    let answered = err_from_is_err_and c.from_residual-in_err-call_wanted.result c.from_residual-in_err-call_wanted.ensures.1 in
    let same : c.deref-3.result.now ≡ c.in_ok-table-2.table.items = search rules in
    let is : instance_in c.in_ok-table-2.table.items ≡ instance_of s vs = search rules in
    let stops : Gives (λ (t : SmallVec (Option Region) 5 Global). instance_in t.items) c.from_residual-in_err-call_wanted.result (unless asked here) =
    rw (answered.1, answered.2) (stops_unless e asked here c.in_err-call_wanted.ensures) in
    subst (λ (m : List Region). Gives (λ (t : SmallVec (Option Region) 5 Global). instance_in t.items) c.from_residual-in_err-call_wanted.result (unless (settled None (call_demanded g p es vs s (instantiated m s))) m)) (ap instance_in same ∙ is) stops

pub returns : goal.returns
returns c =
    let g = c.args.scope.now in
    let p = place_of_span c.args.span in
    let es = expressions_of c.args.expressions.now in
    let vs = map value_in c.args.values.now in
    let s = view_signature c.args.signature.now in
    let here = instance_in c.in_ok-table-2.table.items in
    let is : here ≡ instance_of s vs = search rules in
    let kept : settled None (call_demanded g p es vs s (instantiated here s)) ≡ None = search rules in
    subst (λ (m : List Region). unless (settled None (call_demanded g p es vs s (instantiated m s))) m ≡ Ok here) is (ap (λ o. unless o here) kept)
