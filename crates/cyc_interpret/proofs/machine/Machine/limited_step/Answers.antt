use Rattle.std.proofs.Common.{ap, sym, ◌∙◌}
use Rattle.cyc_types.specs.TypedTreeView.{view_program}
use Rattle.cyc_meaning.specs.State.{State, depth, status_of}
use Rattle.cyc_interpret.specs.View.{state_of}
use Rattle.cyc_interpret.proofs.LimitLaws.{limited_after}
use Rattle.cyc_interpret.proofs.machine.Machine.limited_step.Goals as goal

pub keep_within-requires : goal.keep_within-requires
keep_within-requires c = λ going.
    ap (λ (s : State). depth s) c.in_ok-step.ensures ∙ c.calls_after-after.ensures (view_program c.args.program.now) (sym (ap (λ (s : State). status_of s) c.in_ok-step.ensures) ∙ going)

pub returns-clause-step : goal.returns-clause-step
returns-clause-step c =
    c.keep_within.ensures.state
    ∙ limited_after (view_program c.args.program.now) c.args.limits.pages c.args.limits.calls (state_of c.args.self.now) (state_of c.step.new.self) c.requires.within c.in_ok-step.ensures
