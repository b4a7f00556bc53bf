use Rattle.cyc_interpret.specs.WorldView.{view_owner}
use Rattle.cyc_interpret.specs.View.{stack_of, environment_of, world_of}
use Rattle.cyc_interpret.proofs.Nodes.{makes_struct}
use Rattle.cyc_interpret.proofs.machine.Machine.make.Goals as goal

pub returns-in_ok-make_fields-in-Fields : goal.returns-in_ok-make_fields-in-Fields
returns-in_ok-make_fields-in-Fields c =
    let e = makes_struct c.args.initial.now c.in-Fields.values c.in-Fields.is (view_owner c.args.owner) (stack_of c.args.self.now) (environment_of c.args.self.now) (world_of c.args.self.now) in
    rw e (rw c.new.ensures.items at c.in_ok-make_fields-in-Fields.ensures)
