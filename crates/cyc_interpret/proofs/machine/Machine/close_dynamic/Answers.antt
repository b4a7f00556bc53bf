use Rattle.std.proofs.Common.{rules, sym, ◌∙◌}
use Rattle.cyc_interpret.specs.View.{view_world, stack_of, environment_of, world_of}
use Rattle.cyc_interpret.proofs.Closes.{closes_by_key}
use Rattle.cyc_interpret.proofs.machine.Machine.close_dynamic.Goals as goal

pub returns-then-is_dynamic : goal.returns-then-is_dynamic
returns-then-is_dynamic c =
    c.go.ensures ∙ closes_by_key (world_of c.args.self.now) c.args.region (stack_of c.args.self.now) (environment_of c.args.self.now) (search (rules, c.is_open.ensures, c.in-Some-true.is, c.in-Some-true.field-0-test))
    (view_world c.close.new.self) c.close.ensures (λ r at. sym (c.is_dynamic.ensures r at) ∙ c.if-is_dynamic.true)
