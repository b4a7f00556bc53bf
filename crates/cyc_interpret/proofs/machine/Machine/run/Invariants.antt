use Rattle.std.proofs.Common.{◌≡◌, ◌<◌, ℕ, true}
use Rattle.cyc_types.specs.TypedTreeView.{view_program}
use Rattle.cyc_meaning.specs.State.{GoesOn, demand, depth, status_of}
use Rattle.cyc_meaning.specs.Run.{is_within, limited_steps}
use Rattle.cyc_interpret.specs.View.{state_of}
use Rattle.cyc_interpret.specs.Run.{peak_of}
use Rattle.cyc_interpret.proofs.machine.Machine.run.Given as goal

abbrev pub invariant-loop-steps : goal.invariant-loop-steps
invariant-loop-steps l = record {
  state : state_of l.self ≡ limited_steps (view_program l.program) l.limits.pages l.limits.calls l.steps (state_of l.fn.self);
  calls : depth (state_of l.self) ≡ l.current;
  before : (n : ℕ) → n < l.steps → status_of (limited_steps (view_program l.program) l.limits.pages l.limits.calls n (state_of l.fn.self)) ≡ GoesOn;
  within : is_within l.limits.pages l.limits.calls (state_of l.self) ≡ true;
  pages : l.pages ≡ peak_of (λ (n : ℕ). demand (limited_steps (view_program l.program) l.limits.pages l.limits.calls n (state_of l.fn.self))) l.steps;
  most : l.most ≡ peak_of (λ (n : ℕ). depth (limited_steps (view_program l.program) l.limits.pages l.limits.calls n (state_of l.fn.self))) l.steps;
}
