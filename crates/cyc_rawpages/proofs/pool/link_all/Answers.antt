use Rattle.std.proofs.Common.{◌-◌, sym, ap, subst, ◌∙◌}
use Rattle.cyc_rawpages.specs.inside.Words.{headed}
use Rattle.cyc_rawpages.proofs.Fresh.{IsLinking, steps}
use Rattle.cyc_rawpages.proofs.pool.link_all.Goals as goal

pub loop-left-preserved : goal.loop-left-preserved
loop-left-preserved c =
    let l = c.loop-left in
    subst (λ b. IsLinking c.args.pages c.args.block.now b (l.left - 1) (l.left - 1)) (sym (c.set_head.ensures ∙ ap (λ k. headed l.block k l.first) c.header_at.ensures))
    (steps c.args.pages c.args.block.now l.block l.first l.left c.loop-left-test.true l.invariant)
