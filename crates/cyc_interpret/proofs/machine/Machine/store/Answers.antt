use Rattle.std.proofs.Common.{sym, ◌∙◌}
use Rattle.cyc_meaning.specs.State.{Located}
use Rattle.cyc_interpret.specs.WorldView.{view_cell, view_operand}
use Rattle.cyc_interpret.specs.View.{view_world, stack_of, environment_of, world_of}
use Rattle.cyc_interpret.proofs.Closes.{stores_found}
use Rattle.cyc_interpret.proofs.machine.Machine.store.Goals as goal

pub write-requires : goal.write-requires
write-requires c = (record { object = c.in-Found.ensures.0; cell = view_cell c.in-Found.cell }, c.in-Found.ensures.2)

pub returns-then-is_kind : goal.returns-then-is_kind
returns-then-is_kind c = λ focus.
    let at : Located = record { object = c.in-Found.ensures.0; cell = view_cell c.in-Found.cell } in
    stores_found (world_of c.args.self.now) (view_world c.write.new.self) c.args.object c.args.offset at (view_operand c.args.operand) focus (stack_of c.args.self.now) (environment_of c.args.self.now)
    c.in-Found.ensures.2 (sym c.is_kind.ensures ∙ c.if-is_kind.true) (c.write.ensures at c.in-Found.ensures.2)
