use Rattle.std.proofs.Common.{ℕ, [], ◌∷◌, ◌++◌, ◌∙◌, ap}
use Rattle.cyc_types.specs.TypedTreeView.{view_expression}
use Rattle.cyc_lower_proof.specs.inside.ControlCode.{deciding_condition}
use Rattle.cyc_lower.specs.inside.Emission.{view_starts}
use Rattle.cyc_lower.specs.declared.conditions.Pending.{Pending}
use Rattle.cyc_lower_proof.specs.declared.condition.Condition.{Condition}
use Rattle.cyc_lower.proofs.emission.Conditions.{early_begin, early_next, early_end}
use Rattle.cyc_lower.proofs.emitter.Emitter.lower_early.Goals as goal

pub loop-operation-init : goal.loop-operation-init
loop-operation-init c =
    early_begin (view_starts c.args.starts.now) c.args.operator (view_expression c.args.first.now) c.args.rest.now c.args.free c.args.self.now.code.items c.lower_condition.new.self.code.items c.in_ok-last.last c.new-early.result.items c.new-early.ensures.items c.requires
    c.in_ok-last.ensures.0 c.in_ok-last.ensures.1

pub loop-operation-preserved : goal.loop-operation-preserved
loop-operation-preserved c =
    early_next (view_starts c.args.starts.now) c.args.operator (view_expression c.args.first.now) c.args.rest.now c.args.free c.args.self.now.code.items c.loop-operation.operation-index c.loop-operation.self.code.items c.lower_other.new.self.code.items
    c.loop-operation.last c.in_ok-last-2.last c.loop-operation.early.items c.push.new.self.items c.operation-item.result c.loop-operation-test.true c.operation-item.is
    (c.in_ok-push.ensures.items
    ∙ ap (λ (x : Condition). let j : Pending = record { place = c.place.result; condition = x } in c.loop-operation.early.items ++ j ∷ []) c.deciding_condition.ensures
    ∙ ap (λ (n : ℕ). let j : Pending = record { place = n; condition = deciding_condition c.args.operator c.loop-operation.last } in c.loop-operation.early.items ++ j ∷ []) c.place.ensures)
    c.in_ok-last-2.ensures.1 c.in_ok-last-2.ensures.0 c.loop-operation.invariant

pub returns : goal.returns
returns c =
    early_end (view_starts c.args.starts.now) c.args.operator (view_expression c.args.first.now) c.args.rest.now c.args.free c.args.self.now.code.items c.loop-operation.operation-index c.loop-operation.self.code.items
    c.loop-operation.last c.loop-operation.early.items c.loop-operation-test.false c.loop-operation.invariant
