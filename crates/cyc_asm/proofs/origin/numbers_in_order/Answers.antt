use Rattle.std.proofs.Common.{◌≡◌, ℕ, suc, ◌+◌, List, ◌++◌, length, take, drop, sym, ap, subst, ◌∙◌, arith}
use Rattle.std.proofs.Math.Seq.{take-append_seam}
use Rattle.cyc_select.specs.declared.code.Line.{Line}
use Rattle.cyc_asm.specs.inside.Slots.{AreNamed}
use Rattle.cyc_asm.specs.inside.Order.{settled, arranged_before}
use Rattle.cyc_asm.proofs.Lengths.{length-settled}
use Rattle.cyc_asm.proofs.Arranging.{permutes_before, still_named}
use Rattle.cyc_asm.proofs.origin.numbers_in_order.Goals as goal

pub passed-count-requires-clause-named : goal.passed-count-requires-clause-named
passed-count-requires-clause-named c =
    let code = c.args.lines.now in
    let same : c.deref.result.now ≡ arranged_before code c.loop-number-2.number = c.deref.ensures.value ∙ c.loop-number-2.invariant in
    subst (λ (order : List Line). AreNamed order (length order) c.args.named.now) (sym same)
    (still_named code (arranged_before code c.loop-number-2.number) c.args.named.now (permutes_before code c.loop-number-2.number) c.requires)

pub settle-requires-clause-named : goal.settle-requires-clause-named
settle-requires-clause-named c =
    let code = c.args.lines.now in
    let same : c.deref_mut-in-loop-number-2.result.now ≡ arranged_before code c.loop-number-2.number = c.deref_mut-in-loop-number-2.ensures.value ∙ c.loop-number-2.invariant in
    subst (λ (order : List Line). AreNamed order (length order) c.args.named.now) (sym same)
    (still_named code (arranged_before code c.loop-number-2.number) c.args.named.now (permutes_before code c.loop-number-2.number) c.requires)

pub loop-number-2-preserved : goal.loop-number-2-preserved
loop-number-2-preserved c =
    let number = c.loop-number-2.number in
    let new = c.settle.new.lines in
    let same : c.deref_mut-in-loop-number-2.result.now ≡ arranged_before c.args.lines.now number = c.deref_mut-in-loop-number-2.ensures.value ∙ c.loop-number-2.invariant in
    let long = ap length c.settle.ensures ∙ length-settled c.deref_mut-in-loop-number-2.result.now number in
    ap (λ (n : ℕ). take n (new ++ drop (length new) c.loop-number-2.order.items)) (let l = c.deref_mut-in-loop-number-2.ensures.len in omega (arith, l, long))
    ∙ take-append_seam new (drop (length new) c.loop-number-2.order.items)
    ∙ c.settle.ensures ∙ ap (λ (order : List Line). settled order number) same
    ∙ ap (arranged_before c.args.lines.now) (let e : suc number ≡ number + 1 = omega arith in e)
