use Rattle.std.proofs.Common.{ap, ◌+◌, ◌/◌, ◌∙◌, length, arith}
use Rattle.cyc_flow.specs.inside.Numbers.{has_number}
use Rattle.cyc_flow.proofs.Sets.{has_grown, has_inserted}
use Rattle.cyc_flow.proofs.touched.insert.Goals as goal
use Rattle.cyc_flow.proofs.touched.insert.Goals.{then-len-place+in_ok-resize, else-len-place}

pub returns : goal.returns
returns c = elim c.if-len-place.branch [
  | then-len-place+in_ok-resize w ↦
      has_inserted c.if-len-place.words.items c.args.words.now.items c.args.number c.index.result.now c.with_bit.result
      (has_grown c.if-len-place.words.items c.args.words.now.items (c.args.number / 64 + 1) _ (omega (arith, w.if-len-place.true, c.len.ensures)) (ap (λ v. v.items) w.words-is ∙ w.in_ok-resize.ensures.items))
      (omega (arith, w.in_ok-resize.ensures.len, ap (λ v. length v.items) w.words-is)) c.index.ensures c.with_bit.ensures.same c.with_bit.ensures.other
  | else-len-place w ↦
      has_inserted c.if-len-place.words.items c.args.words.now.items c.args.number c.index.result.now c.with_bit.result
      (λ n. ap (λ v. has_number v.items n) w.words-is) (omega (arith, w.if-len-place.false, c.len.ensures, ap (λ v. length v.items) w.words-is)) c.index.ensures c.with_bit.ensures.same c.with_bit.ensures.other
]
