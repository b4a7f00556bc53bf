use Rattle.cyc_machine.specs.Held.{state_of}
use Rattle.cyc_emulator.proofs.Engines.{reported_step, turned_over}
use Rattle.cyc_emulator.proofs.engine.step_on.Goals as goal

pub returns-in_default : goal.returns-in_default
returns-in_default g c =
    let held = g.S.Store.held in
    let before = state_of held c.args.machine.now in
    let after = state_of held c.respond.new.machine in
    let step = reported_step g.S.Store.GROWS before c.step.result (state_of held c.step.new.self) c.in_default.not-NoMemory c.step.ensures in record {
      turned = turned_over g.S.Store.GROWS before after c.args.exchanged.now c.respond.new.exchanged _ _ c.respond.result (c.respond.ensures.turned before step);
      few = c.respond.ensures.few;
      reader = c.respond.ensures.reader;
      writer = c.respond.ensures.writer;
      past_end = c.respond.ensures.past_end;
    }
