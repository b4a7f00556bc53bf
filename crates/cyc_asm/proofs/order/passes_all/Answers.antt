use Rattle.std.proofs.Common.{◌≡◌, ℕ, suc, ◌+◌, Bool, sym, ap, ◌∙◌, arith}
use Rattle.std.specs.Prelude.{◌&&◌}
use Rattle.cyc_asm.specs.inside.Order.{passes_at, passes_all}
use Rattle.cyc_asm.proofs.order.passes_all.Goals as goal
use Rattle.cyc_asm.proofs.order.passes_all.Goals.{then-all, else-all}

pub loop-passed-preserved : goal.loop-passed-preserved
loop-passed-preserved c =
    let code = c.args.lines.now in
    let from = c.args.from in
    let passed = c.loop-passed.passed in
    let next : suc passed ≡ passed + 1 = omega arith in
    let more : passes_all code from (passed + 1) ≡ (passes_all code from passed && passes_at code from (from + (passed + 1))) =
    ap (passes_all code from) (sym next) ∙ ap (λ (n : ℕ). passes_all code from passed && passes_at code from (from + n)) next in
    elim c.if-all.branch [
      | then-all w ↦ w.all-is ∙ w.passes_at-all.ensures ∙ sym (more ∙ ap (λ (x : Bool). x && passes_at code from (from + (passed + 1))) (sym c.loop-passed.invariant ∙ w.if-all.true))
      | else-all w ↦ w.all-is ∙ w.if-all.false ∙ sym (more ∙ ap (λ (x : Bool). x && passes_at code from (from + (passed + 1))) (sym c.loop-passed.invariant ∙ w.if-all.false))
    ]
