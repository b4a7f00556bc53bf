use Rattle.cyc_types.specs.TypedTreeView.{view_expression}
use Rattle.cyc_lower.specs.inside.Emission.{view_starts}
use Rattle.cyc_lower.proofs.emission.Conditions.{others_begin, others_next, others_end}
use Rattle.cyc_lower.proofs.emitter.Emitter.lower_tests.Goals as goal

pub loop-operation-init : goal.loop-operation-init
loop-operation-init c =
    others_begin (view_starts c.args.starts.now) c.args.operator (view_expression c.args.first.now) c.args.rest.now c.args.following c.args.free c.args.self.now.code.items c.lower_condition.new.self.code.items c.in_ok-condition.condition c.requires
    c.in_ok-condition.ensures.0 c.in_ok-condition.ensures.1

pub loop-operation-preserved : goal.loop-operation-preserved
loop-operation-preserved c =
    others_next (view_starts c.args.starts.now) c.args.operator (view_expression c.args.first.now) c.args.rest.now c.args.following c.args.free c.args.self.now.code.items c.loop-operation.operation-index c.loop-operation.self.code.items
    c.lower_other.new.self.code.items c.loop-operation.condition c.in_ok-condition-2.condition c.operation-item.result c.loop-operation-test.true c.operation-item.is c.in_ok-condition-2.ensures.1 c.in_ok-condition-2.ensures.0 c.loop-operation.invariant

pub returns : goal.returns
returns c =
    others_end (view_starts c.args.starts.now) c.args.operator (view_expression c.args.first.now) c.args.rest.now c.args.following c.args.free c.args.self.now.code.items c.loop-operation.operation-index c.loop-operation.self.code.items
    c.loop-operation.condition c.loop-operation-test.false c.loop-operation.invariant
