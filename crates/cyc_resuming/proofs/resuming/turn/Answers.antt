use Rattle.cyc_machine.specs.Held.{state_of}
use Rattle.cyc_emulator.proofs.Engines.{reported_step}
use Rattle.cyc_resuming.proofs.Resumings.{turns_over}
use Rattle.cyc_resuming.proofs.resuming.turn.Goals as goal

pub returns-in_default : goal.returns-in_default
returns-in_default g c =
    let held = g.S.Store.held in
    let grows = g.S.Store.GROWS in
    let before = state_of held c.next_event.new.machine in
    let after = state_of held c.answer.new.machine in record {
      turned = λ here stood.
          let step = reported_step grows here c.next_event.result before c.in_default.not-NoMemory (c.next_event.ensures here stood) in
          turns_over grows here after c.answer.new.stands c.args.exchanged.now c.answer.new.exchanged _ _ c.answer.result (c.answer.ensures.turned here step);
      few = c.answer.ensures.few;
      reader = c.answer.ensures.reader;
      writer = c.answer.ensures.writer;
      past_end = c.answer.ensures.past_end;
    }
