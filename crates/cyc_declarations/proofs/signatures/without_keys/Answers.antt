use Rattle.std.proofs.Common.{sym, ◌∙◌}
use Rattle.cyc_declarations.proofs.KeyLemmas.{one_with, one_without}
use Rattle.cyc_declarations.proofs.signatures.without_keys.Goals as goal
use Rattle.cyc_declarations.proofs.signatures.without_keys.Goals.{then-not-has+in_ok-push, else-not-has}

pub loop-i-preserved : goal.loop-i-preserved
loop-i-preserved c = elim c.if-not-has.branch [
  | then-not-has+in_ok-push w ↦
      rw (w.all-is, w.in_ok-push.ensures.ok) (one_without c.args.keys.now c.args.variables c.loop-i.i c.loop-i.all.items _ c.loop-i-test.true (sym c.has.ensures ∙ w.if-not-has.true) c.loop-i.invariant)
  | else-not-has w ↦ rw w.all-is (one_with c.args.keys.now c.args.variables c.loop-i.i c.loop-i.all.items _ c.loop-i-test.true (sym c.has.ensures ∙ w.if-not-has.false) c.loop-i.invariant)
]
