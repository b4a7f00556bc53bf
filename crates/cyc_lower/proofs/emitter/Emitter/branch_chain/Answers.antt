use Rattle.std.proofs.Common.{sym, ◌∙◌}
use Rattle.std.proofs.lemmas.Result.{IfOk-weaker}
use Rattle.cyc_types.specs.TypedTreeView.{view_expression, operations_of}
use Rattle.cyc_lower.specs.inside.Emission.{view_starts}
use Rattle.cyc_lower.proofs.emission.Conditions.{early_tested, chain_tested}
use Rattle.cyc_lower.proofs.emitter.Emitter.branch_chain.Goals as goal

pub returns-then-are_tests : goal.returns-then-are_tests
returns-then-are_tests c =
    let (ty, chain) = c.requires.chain in
    IfOk-weaker c.lower_early.result _ _
    (λ tested made. early_tested (view_starts c.args.starts.now) c.args.operator (view_expression c.args.value.now) (view_expression c.args.first.now) c.args.rest.now ty c.args.free c.args.self.now.code.items c.lower_early.new.self.code.items tested chain
    (sym c.are_tests.ensures ∙ c.if-are_tests.true) made)
    c.lower_early.ensures

pub returns : goal.returns
returns c =
    let (ty, chain) = c.requires.chain in
    IfOk-weaker c.lower_settled.result _ _
    (λ tested made. chain_tested (view_starts c.args.starts.now) c.args.operator (view_expression c.args.value.now) (view_expression c.args.first.now) (operations_of c.args.rest.now) ty c.args.free c.args.self.now.code.items c.lower_settled.new.self.code.items tested chain
    (sym c.are_tests.ensures ∙ c.if-are_tests.false) made)
    c.lower_settled.ensures
