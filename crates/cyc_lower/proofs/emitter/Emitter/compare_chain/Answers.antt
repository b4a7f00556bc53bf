use Rattle.std.proofs.Common.{rules, ◌≡◌, None, length, ap, sym, subst, ◌∙◌, arith}
use Rattle.std.proofs.lemmas.Result.{IfOk-weaker}
use Rattle.cyc_types.specs.TypedTrees.{Expression}
use Rattle.cyc_types.specs.TypedTreeView.{view_expression}
use Rattle.cyc_lower_proof.specs.inside.ControlCode.{with_zero, compared_of}
use Rattle.cyc_lower_proof.specs.inside.Lowering.{pair_code}
use Rattle.cyc_lower.specs.inside.Emission.{Gives, pair_condition, view_starts}
use Rattle.cyc_lower.proofs.emission.Conditions.{not_single, made_alone, made_null, made_pair}
use Rattle.cyc_lower.proofs.emitter.Emitter.compare_chain.Goals as goal

pub returns-then-rest-ne1 : goal.returns-then-rest-ne1
returns-then-rest-ne1 c =
    let whole = view_expression c.args.value.now in
    let (ty, chain) = c.requires.chain in
    let alone = not_single (view_expression c.args.first.now) c.args.rest.now ty (λ one. omega (arith, one, c.if-rest-ne1.true)) in
    let is : compared_of whole ≡ with_zero whole = ap compared_of chain ∙ alone ∙ ap (λ (x : Expression). with_zero x) (sym chain) in
    IfOk-weaker c.compare_with_zero.result _ _
    (λ answer made. made_alone (view_starts c.args.starts.now) whole whole answer c.args.self.now.code.items c.compare_with_zero.new.self.code.items c.args.free is made)
    c.compare_with_zero.ensures

pub returns-in-Some-null_operation : goal.returns-in-Some-null_operation
returns-in-Some-null_operation c =
    let (ty, chain) = c.requires.chain in
    IfOk-weaker c.compare_with_null.result _ _
    (λ answer made. made_null (view_starts c.args.starts.now) (view_expression c.args.value.now) (view_expression c.args.first.now) c.args.rest.now c.in-Some.operation.now ty c.in-Some-null_operation.failing answer c.args.self.now.code.items c.compare_with_null.new.self.code.items c.args.free
    chain (omega (arith, c.if-rest-ne1.false)) c.in-Some.ensures.value (sym c.null_operation.ensures ∙ c.in-Some-null_operation.is) made)
    c.compare_with_null.ensures

pub returns-in-Some-pair_operation : goal.returns-in-Some-pair_operation
returns-in-Some-pair_operation c =
    let (ty, chain) = c.requires.chain in
    let none : c.null_operation.result ≡ None = search rules in
    IfOk-weaker c.compare_pair.result _ _
    (λ answer made. made_pair (view_starts c.args.starts.now) (view_expression c.args.value.now) (view_expression c.args.first.now) c.args.rest.now c.in-Some.operation.now ty c.in-Some-pair_operation.failing answer c.args.self.now.code.items c.compare_pair.new.self.code.items c.args.free
    chain (omega (arith, c.if-rest-ne1.false)) c.in-Some.ensures.value (sym c.null_operation.ensures ∙ none) (sym c.pair_operation.ensures ∙ c.in-Some-pair_operation.is) made)
    (subst (λ (b : Expression). Gives (pair_condition (view_starts c.args.starts.now) c.in-Some-pair_operation.failing (view_expression c.args.first.now) b c.args.free) c.compare_pair.result c.args.self.now c.compare_pair.new.self
    (pair_code (view_starts c.args.starts.now) (view_expression c.args.first.now) b (length c.args.self.now.code.items) c.args.free)) c.right_of.ensures c.compare_pair.ensures)
