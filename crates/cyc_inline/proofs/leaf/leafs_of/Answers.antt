use Rattle.std.proofs.Common.{arith}
use Rattle.std.proofs.lemmas.Grind.{common_steps}
use Rattle.cyc_inline.proofs.ChoosingCalls.{leafs_more}
use Rattle.cyc_inline.proofs.leaf.leafs_of.Goals as goal

pub loop-number-preserved : goal.loop-number-preserved
loop-number-preserved c = record {
  leafs = leafs_more c.args.plain.now c.loop-number.lines.items c.push.new.self.items c.loop-number.number c.line_at.result
      c.loop-number.invariant.leafs c.loop-number.invariant.as_many c.line_at.ensures c.in_ok-push.ensures.items;
  as_many = grind (arith, common_steps);
}
