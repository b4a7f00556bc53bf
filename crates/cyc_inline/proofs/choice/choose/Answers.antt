use Rattle.std.proofs.Common.{◌≡◌, ◌≤◌, ◌∙◌, Option, ap, subst}
use Rattle.std.specs.Prelude.{IfSome}
use Rattle.cyc_plain.specs.declared.limits.TheConstants.{MOST_FRAME_WORDS}
use Rattle.cyc_plain.specs.inside.Program.{Routine, routine_at}
use Rattle.cyc_plain.specs.inside.Straight.{At}
use Rattle.cyc_inline.specs.declared.choice.Need.{Need}
use Rattle.cyc_inline.specs.inside.Emission.{IsNeed}
use Rattle.cyc_inline.proofs.ChoosingCalls.{no_calls, chosen_more, length_more}
use Rattle.cyc_inline.proofs.choice.choose.Goals as goal
use Rattle.cyc_inline.proofs.choice.choose.Goals.{then-function-le-MOST_FRAME_WORDS+else-loop-index-test, else-function-le-MOST_FRAME_WORDS}

pub loop-index-preserved : goal.loop-index-preserved
loop-index-preserved c =
    let program = c.args.plain.now in
    let r = routine_at program c.args.number in
    let i = c.instruction_at-instruction.result in
    let index = c.loop-index.index in
    let at : At r.code index i = subst (λ (s : Routine). At s.code index i) c.function-function.ensures c.instruction_at-instruction.ensures in
    let small : r.frame_count ≤ MOST_FRAME_WORDS = subst (λ (s : Routine). s.frame_count ≤ MOST_FRAME_WORDS) c.function-function.ensures c.if-function-le-MOST_FRAME_WORDS.true in
    let by = c.in_ok-add.ensures in
    record {
      chosen = chosen_more program r c.loop-index.choice c.add.new.self c.need_of.result index i at c.loop-index.invariant.as_many
          c.loop-index.invariant.chosen by
          (λ it is. subst (λ (need : Option Need). IfSome need (λ one. IsNeed program r i one)) is c.need_of.ensures) small;
      as_many = length_more c.loop-index.choice c.add.new.self c.need_of.result index c.loop-index.invariant.as_many by;
      growth = by.growth;
    }

pub returns : goal.returns
returns c =
    let program = c.args.plain.now in
    let r = routine_at program c.args.number in
    let slots : c.new-choice.result.slots ≡ r.slots = c.new-choice.ensures.slots ∙ ap (λ (s : Routine). s.slots) c.function-function.ensures in
    elim c.if-function-le-MOST_FRAME_WORDS.branch [
      | then-function-le-MOST_FRAME_WORDS+else-loop-index-test w ↦ rw w.choice-is w.loop-index.invariant.chosen
      | else-function-le-MOST_FRAME_WORDS w ↦
          rw w.choice-is (no_calls program r c.new-choice.result.chosen.items c.new-choice.result.slots c.new-choice.ensures.chosen slots)
    ]
