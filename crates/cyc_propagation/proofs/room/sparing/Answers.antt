use Rattle.std.proofs.Common.{◌∙◌, sym, arith}
use Rattle.std.proofs.lemmas.Option.{slice_get-get_or}
use Rattle.cyc_propagation.specs.inside.Room.{slots_in}
use Rattle.cyc_propagation.proofs.Sparing.{none_spared, next_spared, code_spared}
use Rattle.cyc_propagation.proofs.room.sparing.Goals as goal

pub loop-index-init : goal.loop-index-init
loop-index-init c = grind (arith, none_spared)

pub loop-index-preserved : goal.loop-index-preserved
loop-index-preserved c =
    let at = slice_get-get_or c.args.code.now c.loop-index.index _ c.loop-index-test.true in
    next_spared (slots_in c.args.plain.now) c.args.code.now c.args.rooms.now c.loop-index.index c.loop-index.spared.items c.push.new.self.items _ c.spared_instruction.result
    c.loop-index.invariant at (rw c.room_at-room.ensures at c.spared_instruction.ensures) c.in_ok-push.ensures.items
    (rw c.room_at-room.ensures at (rw c.room_following-following.ensures at (sym c.leads_to_enough.ensures ∙ c.if-not-leads_to_enough.false)))

pub returns : goal.returns
returns c =
    code_spared (slots_in c.args.plain.now) c.args.code.now c.args.rooms.now c.loop-index.index c.loop-index.spared.items c.loop-index.invariant
    (omega (arith, c.loop-index.auto.index-end, c.loop-index-test.false)) (sym c.room_at.ensures ∙ c.if-room_at-ne0.false)
