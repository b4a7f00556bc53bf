use Rattle.std.proofs.Common.{List, [], ◌∷◌, ◌++◌, ap, ◌∙◌}
use Rattle.cyc_flow.specs.declared.state.Change.{Change}
use Rattle.cyc_flow.specs.inside.Code.{view_fullness, view_state, undone}
use Rattle.cyc_flow.proofs.Trails.{noted_begun}
use Rattle.cyc_flow.proofs.evaluation.Evaluation.set.Goals as goal

pub returns-clause-begun : goal.returns-clause-begun
returns-clause-begun c =
    let noted : Change = record { number = c.args.number; before = c.fullness-before.result } in
    ap (λ (cs : List Change). undone cs (view_state c.set.new.self)) c.in_ok-push.ensures.items
    ∙ ap (undone (c.args.self.now.trail.items ++ noted ∷ [])) c.set.ensures
    ∙ noted_begun c.args.self.now.trail.items noted (view_state c.args.self.now.state) (view_fullness c.args.fullness) c.fullness-before.ensures
