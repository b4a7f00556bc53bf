use Rattle.std.proofs.Common.{arith}
use Rattle.cyc_types.specs.declared.region.Region.TheVariants.{Heap}
use Rattle.cyc_types.proofs.TableLemmas.{push_open, open-leads}
use Rattle.cyc_types.proofs.constraints.unclosed.Goals as goal

pub loop-pair-preserved : goal.loop-pair-preserved
loop-pair-preserved c =
    let r = push_open c.loop-pair.constraints.items c.args.written.now c.loop-pair.pair-index (Heap, Heap) c.new-entry.result c.push.new.self.items
    (omega arith) c.loop-pair.invariant.written c.loop-pair.invariant.are_open c.in_ok-push.ensures.items
    c.new-entry.ensures.longer c.new-entry.ensures.shorter c.new-entry.ensures.outlived in
    record { written = r.0; are_open = r.1 }

pub returns-clause-leads : goal.returns-clause-leads
returns-clause-leads c = open-leads c.loop-pair.constraints.items c.loop-pair.invariant.are_open
