use Rattle.std.proofs.Common.{List, [], ◌∷◌, sym, ap, ◌∙◌}
use Rattle.cyc_flow.specs.declared.state.Change.{Change}
use Rattle.cyc_flow.specs.inside.Code.{view_state, undone}
use Rattle.cyc_flow.proofs.Trails.{undone_append}
use Rattle.cyc_flow.proofs.evaluation.Evaluation.undo.Goals as goal

pub loop-change-preserved : goal.loop-change-preserved
loop-change-preserved c =
    let left = c.pop.new.self.items in (
      ap (undone left) c.set.ensures
          ∙ sym (undone_append left (c.in-Some.change ∷ []) (view_state c.loop-change.self.state))
          ∙ sym (ap (λ (cs : List Change). undone cs (view_state c.loop-change.self.state)) c.in-Some.ensures.items)
          ∙ c.loop-change.invariant.0,
      c.loop-change.invariant.1,
    )
