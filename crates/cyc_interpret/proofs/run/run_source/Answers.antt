use Rattle.cyc_types.specs.TypedTreeView.{view_program}
use Rattle.cyc_interpret.proofs.Starts.{ends_well}
use Rattle.cyc_interpret.proofs.run.run_source.Goals as goal

pub returns-clause-ends : goal.returns-clause-ends
returns-clause-ends g c = λ sound.
    ends_well (view_program c.args.tree.now) c.args.limits.pages c.args.limits.calls c.args.budget c.in_ok-input.input.items c.in-Ok.output.items c.in-Ok.report c.in-Ok.ensures sound
