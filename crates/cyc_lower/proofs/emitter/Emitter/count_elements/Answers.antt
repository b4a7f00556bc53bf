use Rattle.std.proofs.Common.{◌≡◌, ap}
use Rattle.std.proofs.lemmas.Result.{on_ok_weaker}
use borrow.Author.Rules.{rules}
use Rattle.cyc_lower.proofs.emission.Emitting.{made_count}
use Rattle.cyc_lower.proofs.emitter.Emitter.count_elements.Goals as goal
use Rattle.cyc_lower.proofs.emitter.Emitter.count_elements.Goals.{in-Slot+in_ok-following+in_ok-emit_three, in_default}

pub returns : goal.returns
returns c = elim c.match-pointer.branch [
  | in-Slot+in_ok-following+in_ok-emit_three w ↦
      let same : c.match-pointer.self.code.items ≡ w.emit_three.new.self.code.items = ap (λ s. s.code.items) w.self-is in
      on_ok_weaker c.emit.result
      (made_count c.args.pointer w.in-Slot.number w.in_ok-following.following w.place-none.result c.args.slot c.args.self.now.code.items w.emit_three.new.self.code.items c.match-pointer.self.code.items c.emit.new.self.code.items
      w.in-Slot.is w.in_ok-following.ensures.0 w.place-none.ensures w.in_ok-emit_three.ensures same)
      c.emit.ensures
  | in_default w ↦ search rules
]
