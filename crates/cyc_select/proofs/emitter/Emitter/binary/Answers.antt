use Rattle.std.proofs.Common.{sym, subst, ◌∙◌}
use Rattle.cyc_select.specs.inside.Emission.{IsPlanFound}
use Rattle.cyc_select.proofs.values.Found.{binary_found}
use Rattle.cyc_select.proofs.emitter.Emitter.binary.Goals as goal

pub plan-requires-clause-found : goal.plan-requires-clause-found
plan-requires-clause-found c =
    subst (IsPlanFound c.args.frame.now) (sym c.binary_plan-plan.ensures)
    (binary_found c.args.frame.now c.args.operator c.args.parts.left c.args.parts.right (sym c.is_tested.ensures ∙ c.if-is_tested.false) c.requires.left c.requires.right)
