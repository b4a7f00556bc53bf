use Rattle.std.proofs.Common.{◌+◌, ◌-◌, ◌<◌, ◌≤◌, sym, subst, ◌∙◌, arith}
use Rattle.cyc_interpret.proofs.Classes.{class_from-here, class_from-next}
use Rattle.cyc_interpret.proofs.sizes.class_of.Goals as goal

pub returns-then-size-size_of-clause-is : goal.returns-then-size-size_of-clause-is
returns-then-size-size_of-clause-is c = sym (c.loop-class.invariant ∙ class_from-here (10 - c.loop-class.class) c.loop-class.class c.args.size (omega arith) (subst (λ n. c.args.size ≤ n) c.size_of.ensures c.if-size-size_of.true))

pub loop-class-preserved : goal.loop-class-preserved
loop-class-preserved c =
    c.loop-class.invariant ∙ class_from-next (10 - c.loop-class.class) c.loop-class.class (10 - (c.loop-class.class + 1)) (c.loop-class.class + 1) c.args.size (omega arith) (omega arith) (subst (λ n. n < c.args.size) c.size_of.ensures c.if-size-size_of.false)
