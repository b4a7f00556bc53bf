use Rattle.std.proofs.Common.{ℕ, ◌+◌, refl, ap, sym, ◌∙◌}
use Rattle.cyc_types.specs.TypedTreeView.{view_program}
use Rattle.cyc_meaning.specs.State.{demand, depth, status_of}
use Rattle.cyc_meaning.specs.Run.{limited_step, limited_steps}
use Rattle.cyc_interpret.specs.View.{state_of}
use Rattle.cyc_interpret.proofs.LimitLaws.{steps_more, going_more, goes_on_where_not_over, peak_next}
use Rattle.cyc_interpret.proofs.machine.Machine.run.Goals as goal

pub loop-steps-preserved : goal.loop-steps-preserved
loop-steps-preserved c =
    let p = view_program c.args.program.now in
    let pages = c.args.limits.pages in
    let calls = c.args.limits.calls in
    let s = state_of c.args.self.now in
    let n = c.loop-steps.steps in
    let now = c.loop-steps.invariant.state in
    let next =
    c.in_ok-current.ensures.step ∙ (ap (limited_step p pages calls) now ∙ sym (steps_more p pages calls n (n + 1) s refl)) in record {
      state = next;
      calls = c.in_ok-current.ensures.depth;
      before = going_more (λ (k : ℕ). status_of (limited_steps p pages calls k s)) n (n + 1) refl c.loop-steps.invariant.before
          (ap status_of (sym now) ∙ goes_on_where_not_over (state_of c.loop-steps.self) (sym c.is_over.ensures ∙ c.if-is_over.false));
      within = c.in_ok-current.ensures.within;
      pages = peak_next (λ (k : ℕ). demand (limited_steps p pages calls k s)) n _ _ _ c.loop-steps.invariant.pages (c.demand.ensures ∙ ap demand next) c.max-pages.ensures;
      most = peak_next (λ (k : ℕ). depth (limited_steps p pages calls k s)) n _ _ _ c.loop-steps.invariant.most (sym c.in_ok-current.ensures.depth ∙ ap depth next) c.max-most.ensures;
    }
