use Rattle.std.proofs.Common.{◌≡◌, ◌≤◌, ◌∙◌, ℕ, List, Option, length, ap, subst, sym, arith}
use Rattle.cyc_plain.specs.declared.limits.TheConstants.{MOST_SIZE}
use Rattle.cyc_plain.specs.declared.instruction.Instruction.{Instruction}
use Rattle.cyc_plain.specs.inside.Program.{Routine}
use Rattle.cyc_inline.specs.declared.site.Call.{Call}
use Rattle.cyc_inline.specs.inside.Emission.{front_by, part_count, opened_places, opened_end}
use Rattle.cyc_inline.specs.inside.Sites.{chosen_call, place_in}
use Rattle.cyc_inline.proofs.ChoosingCalls.{few_instructions}
use Rattle.cyc_inline.proofs.EmissionLoops.{placed_next, ended_next}
use Rattle.cyc_inline.proofs.caller.opened_places.Goals as goal

pub overflow_add-here : goal.overflow_add-here
overflow_add-here c =
    let few : length c.function-function.result.now.code.items ≤ MOST_SIZE =
    subst (λ (n : ℕ). n ≤ MOST_SIZE) (ap (λ (r : Routine). length r.code) (sym c.function-function.ensures)) (few_instructions c.args.plain.now c.args.number c.requires.plain c.requires.number) in
    let room = c.loop-index.invariant.room in
    let small = c.part_count-here.ensures.small in
    let below = c.loop-index-test.true in
    let first = c.requires.first in
    omega (arith, few, room, small, below, first)

pub loop-index-preserved : goal.loop-index-preserved
loop-index-preserved c =
    let program = c.args.plain.now in
    let chosen = c.args.choice.now.chosen.items in
    let in_line = c.args.in_line in
    let code = c.function-function.result.now.code.items in
    let index = c.loop-index.index in
    let i = c.instruction_at-instruction.result in
    let room = c.loop-index.invariant.room in
    let small = c.part_count-here.ensures.small in
    let front_at : ℕ → Instruction → List Instruction = front_by program c.args.number c.args.choice.now in
    let line : c.place_in.result ≡ place_in chosen index = c.place_in.ensures ∙ ap (λ (lines : List ℕ). place_in lines index) c.deref.ensures.value in
    let many : c.part_count-here.result ≡ part_count program in_line (chosen_call i (place_in chosen index)) (length (front_at index i)) =
    c.part_count-here.ensures.value ∙ ap (λ (call : Option Call). part_count program in_line call c.front_at-front.result) (c.chosen_call-call.ensures ∙ ap (chosen_call i) line)
    ∙ ap (part_count program in_line (chosen_call i (place_in chosen index))) c.front_at-front.ensures.value in
    record {
      value = placed_next program chosen front_at in_line code index c.loop-index.here c.part_count-here.result i (opened_places program chosen front_at in_line 0 c.args.first code)
          c.loop-index.places.items c.push.new.self.items c.instruction_at-instruction.ensures c.in_ok-push.ensures.items many c.loop-index.invariant.value;
      end = ended_next program chosen front_at in_line code index c.loop-index.here c.part_count-here.result (opened_end program chosen front_at in_line 0 c.args.first code) i
          c.instruction_at-instruction.ensures many c.loop-index.invariant.end;
      room = omega (arith, room, small);
    }

pub returns-clause-few : goal.returns-clause-few
returns-clause-few c =
    let few : length c.function-function.result.now.code.items ≤ MOST_SIZE =
    subst (λ (n : ℕ). n ≤ MOST_SIZE) (ap (λ (r : Routine). length r.code) (sym c.function-function.ensures)) (few_instructions c.args.plain.now c.args.number c.requires.plain c.requires.number) in
    let room = c.loop-index.invariant.room in
    let items = c.function-function.result.now.code.ok.0 in
    let vector = c.len-index-end.ensures in
    let most = c.loop-index.auto.index-end in
    omega (arith, few, room, items, vector, most)
