use Rattle.std.proofs.Common.{◌+◌, ◌∙◌, ap, arith}
use Rattle.cyc_select.specs.inside.Labelled.{words_of}
use Rattle.cyc_asm.proofs.Tables.{most_of_more, most_before-low}
use Rattle.cyc_asm.proofs.layout.most_of_each.Goals as goal

pub overflow_add-before : goal.overflow_add-before
overflow_add-before c =
    let more = most_of_more c.args.lines.now c.loop-line.line-index c.loop-line.most.items c.loop-line.before c.max_width-before.result c.line-item.result
    c.loop-line-test.true c.loop-line.invariant.0 c.loop-line.invariant.1 (c.max_width-before.ensures ∙ ap words_of c.line-item.is) in
    let low = most_before-low c.args.lines.now (c.loop-line.line-index + 1) c.requires (omega (arith, c.loop-line-test.true)) in
    omega (arith, more.1, low)

pub loop-line-preserved : goal.loop-line-preserved
loop-line-preserved c =
    let more = most_of_more c.args.lines.now c.loop-line.line-index c.loop-line.most.items c.loop-line.before c.max_width-before.result c.line-item.result
    c.loop-line-test.true c.loop-line.invariant.0 c.loop-line.invariant.1 (c.max_width-before.ensures ∙ ap words_of c.line-item.is) in (
      c.push_reserved.ensures.items ∙ more.0,
      more.1,
      omega (arith, c.push_reserved.ensures.len, c.loop-line.invariant.2),
      omega (arith, c.push_reserved.ensures.capacity, c.loop-line.invariant.3),
    )
