use Rattle.std.proofs.Common.{arith}
use Rattle.cyc_words.proofs.Items.{below_from_slice_get}
use Rattle.cyc_inline.proofs.EmptiedFunctions.{stay_then, noted_next}
use Rattle.cyc_inline.proofs.emptying.note_calls.Goals as goal

pub loop-index-preserved : goal.loop-index-preserved
loop-index-preserved c =
    let at = c.loop-index in
    let (stay, leads) = at.invariant in
    let one = c.note_call.ensures in (
      stay_then _ at.reached.items c.note_call.new.reached.items stay one.stay,
      noted_next c.args.function.now.code.items at.index c.instruction_at-instruction.result at.reached.items c.note_call.new.reached.items c.instruction_at-instruction.ensures one.stay one.leads leads,
    )

pub returns-clause-leads : goal.returns-clause-leads
returns-clause-leads c = λ p i at.
    (let code = c.args.function.now.code in
    let below = below_from_slice_get code.items p i at in
    let items = code.ok.0 in
    let vector = c.len-index-end.ensures in
    let least = c.loop-index-test.false in
    let (stay, leads) = c.loop-index.invariant in
    leads p i (omega (arith, below, items, vector, least)) at)
