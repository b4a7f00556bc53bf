use Rattle.std.proofs.lemmas.Result.{IfOk-weaker}
use Rattle.cyc_types.specs.TypeView.{view_ty}
use Rattle.cyc_types.specs.TypedTreeView.{view_expression}
use Rattle.cyc_lower.specs.inside.Emission.{view_starts}
use Rattle.cyc_lower.proofs.emission.Conditions.{unary_bare, node_bare, bare_tested}
use Rattle.cyc_lower.proofs.emission.Emitting.{binary_viewed}
use Rattle.cyc_lower.proofs.emitter.Emitter.+lower_branch.Goals as goal

pub branch_chain-requires-clause-chain : goal.branch_chain-requires-clause-chain
branch_chain-requires-clause-chain t c = (
  view_ty c.in-Binary.of_type,
  binary_viewed c.args.value.now c.in-Binary.first c.in-Binary.rest c.in-Binary.of_type c.in-Binary.is c.deref.result.now c.deref.ensures c.deref-in-Binary.result.now c.deref-in-Binary.ensures.value,
)

pub returns-in_default-applied : goal.returns-in_default-applied
returns-in_default-applied t c =
    let starts = view_starts c.args.starts.now in
    let bare = unary_bare starts c.args.operator c.args.value.now c.in-Unary.applied c.in-Unary.operand c.args.free c.in-Unary.is c.in_default-applied.not-Not in
    IfOk-weaker c.lower_settled.result _ _
    (λ tested made. bare_tested starts c.args.operator (view_expression c.args.value.now) c.args.free c.args.self.now.code.items c.lower_settled.new.self.code.items tested bare made)
    c.lower_settled.ensures

pub returns-in_default : goal.returns-in_default
returns-in_default t c =
    let starts = view_starts c.args.starts.now in
    let bare = node_bare starts c.args.operator c.args.value.now c.args.free c.in_default.not-Binary c.in_default.not-Unary in
    IfOk-weaker c.lower_settled-in_default.result _ _
    (λ tested made. bare_tested starts c.args.operator (view_expression c.args.value.now) c.args.free c.args.self.now.code.items c.lower_settled-in_default.new.self.code.items tested bare made)
    c.lower_settled-in_default.ensures
