use Rattle.cyc_types.specs.TypedTreeView.{view_program}
use Rattle.cyc_interpret.specs.declared.run.Report.{Report}
use Rattle.cyc_interpret.specs.View.{state_of}
use Rattle.cyc_interpret.proofs.Starts.{reported}
use Rattle.cyc_interpret.proofs.run.run_on.Goals as goal

pub returns : goal.returns
returns c =
    let report : Report = record {
      end = c.end.result;
      steps = c.in_ok-counts.counts.steps;
      left = c.left.result;
      pages = c.in_ok-counts.counts.pages;
      calls = c.in_ok-counts.counts.calls;
    } in
    reported (view_program c.args.tree.now) c.args.limits.pages c.args.limits.calls c.args.budget c.args.input.items c.into_output.result.items report
    (state_of c.in_ok-machine.machine) (state_of c.run.new.self) c.in_ok-machine.ensures c.in_ok-counts.ensures.state c.into_output.ensures c.left.ensures c.end.ensures
    c.in_ok-counts.ensures.before c.in_ok-counts.ensures.budget c.in_ok-counts.ensures.spent c.in_ok-counts.ensures.pages c.in_ok-counts.ensures.calls
