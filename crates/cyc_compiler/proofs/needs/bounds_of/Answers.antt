use Rattle.cyc_types.specs.TypedTreeView.{view_program}
use Rattle.cyc_compiler.proofs.BoundedRuns.{never_calls_more, never_asks_for_more, never_takes_more}
use Rattle.cyc_compiler.proofs.needs.bounds_of.Goals as goal

pub returns : goal.returns
returns c =
    let p = view_program c.args.tree.now in
    record {
      calls = c.in_ok-calls.ensures;
      pages = c.in_ok-pages.ensures;
      steps = c.in_ok-steps.ensures;
      no_more_calls = never_calls_more p c.in_ok-calls.calls c.in_ok-calls.ensures;
      no_more_pages = never_asks_for_more p c.in_ok-pages.pages c.in_ok-pages.ensures;
      no_more_steps = never_takes_more p c.in_ok-steps.steps c.in_ok-steps.ensures;
    }
