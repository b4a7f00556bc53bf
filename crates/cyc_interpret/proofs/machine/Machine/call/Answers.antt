use Rattle.std.proofs.Common.{sym, ◌∙◌}
use Rattle.cyc_interpret.specs.WorldView.{operands_of}
use Rattle.cyc_interpret.specs.View.{stack_of, environment_of, world_of}
use Rattle.cyc_interpret.proofs.PrintedArguments.{prints_back}
use Rattle.cyc_interpret.proofs.machine.Machine.call.Goals as goal

pub returns-in_ok-print-in-Putchar : goal.returns-in_ok-print-in-Putchar
returns-in_ok-print-in-Putchar c =
    rw c.in-Putchar.is (c.in_ok-print-in-Putchar.ensures
    ∙ sym (prints_back (stack_of c.args.self.now) (environment_of c.args.self.now) (world_of c.args.self.now) (operands_of c.args.arguments.items)))
