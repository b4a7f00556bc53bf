use Rattle.std.proofs.Common.{◌≡◌, length, arith}
use Rattle.cyc_types.proofs.TableLemmas.{SteppedTo-more, SteppedTo-written, stepped-leads}
use Rattle.cyc_types.proofs.constraints.extend_all.Goals as goal

pub loop-constraint-preserved : goal.loop-constraint-preserved
loop-constraint-preserved c =
    SteppedTo-more c.args.via c.args.below.now c.loop-constraint.constraint-index c.args.constraints.now c.loop-constraint.constraints
    c.constraint-item.result c.extend.new.self (omega arith) c.loop-constraint.invariant (record {
      longer = c.in_ok-extend.ensures.longer;
      shorter = c.in_ok-extend.ensures.shorter;
      leads = c.in_ok-extend.ensures.leads;
    })

pub returns-clause-written : goal.returns-clause-written
returns-clause-written c =
    SteppedTo-written c.args.via c.args.below.now c.loop-constraint.constraint-index c.args.constraints.now c.loop-constraint.constraints
    c.loop-constraint.invariant

pub returns-clause-leads : goal.returns-clause-leads
returns-clause-leads c =
    let all : c.loop-constraint.constraint-index ≡ length c.args.constraints.now = omega arith in
    stepped-leads c.args.via c.args.below.now c.args.constraints.now c.loop-constraint.constraints (rw all at c.loop-constraint.invariant) c.requires
