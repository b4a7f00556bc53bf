use Rattle.std.proofs.Common.{rules}
use Rattle.cyc_interpret.specs.View.{view_world, stack_of, environment_of, world_of}
use Rattle.cyc_interpret.proofs.Closes.{closes}
use Rattle.cyc_interpret.proofs.machine.Machine.close.Goals as goal

pub returns-in-Some-true : goal.returns-in-Some-true
returns-in-Some-true c = λ focus.
    closes (world_of c.args.self.now) c.args.region (stack_of c.args.self.now) (environment_of c.args.self.now) (search (rules, c.is_open.ensures, c.in-Some-true.is, c.in-Some-true.field-0-test))
    (view_world c.close.new.self) c.close.ensures c.args.home focus
