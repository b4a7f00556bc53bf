use Rattle.std.proofs.Common.{sym, ◌∙◌}
use Rattle.std.proofs.lemmas.Result.{IfOk-weaker}
use Rattle.cyc_types.specs.TypedTreeView.{view_expression, operations_of}
use Rattle.cyc_lower.specs.inside.Emission.{view_starts}
use Rattle.cyc_lower.proofs.emission.Conditions.{chain_chosen, whole_chosen}
use Rattle.cyc_lower.proofs.emitter.Emitter.choose_chain.Goals as goal

pub returns-then-are_tests : goal.returns-then-are_tests
returns-then-are_tests c =
    let (ty, chain) = c.requires.chain in
    IfOk-weaker c.lower_chain.result _ _
    (λ answer made. chain_chosen (view_starts c.args.starts.now) c.args.operator (view_expression c.args.first.now) (operations_of c.args.rest.now) ty (view_expression c.args.value.now) answer c.args.self.now.code.items c.lower_chain.new.self.code.items c.args.free chain
    (sym c.are_tests.ensures ∙ c.if-are_tests.true) made)
    c.lower_chain.ensures

pub returns : goal.returns
returns c =
    let (ty, chain) = c.requires.chain in
    IfOk-weaker c.lower_condition.result _ _
    (λ answer made. whole_chosen (view_starts c.args.starts.now) c.args.operator (view_expression c.args.first.now) (operations_of c.args.rest.now) ty (view_expression c.args.value.now) answer c.args.self.now.code.items c.lower_condition.new.self.code.items c.args.free chain
    (sym c.are_tests.ensures ∙ c.if-are_tests.false) made)
    c.lower_condition.ensures
