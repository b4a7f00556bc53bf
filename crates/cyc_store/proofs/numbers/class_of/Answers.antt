use Rattle.std.proofs.Common.{◌+◌, ◌-◌, ◌<◌, ◌≤◌, sym, subst, ◌∙◌, arith}
use Rattle.cyc_store.proofs.CountLemmas.{class_from-here, class_from-next}
use Rattle.cyc_store.proofs.numbers.class_of.Goals as goal

pub returns-then-words-size_of : goal.returns-then-words-size_of
returns-then-words-size_of c = sym (c.loop-class.invariant ∙ class_from-here (10 - c.loop-class.class) c.loop-class.class c.args.words (omega arith) (subst (λ n. c.args.words ≤ n) c.size_of.ensures c.if-words-size_of.true))

pub loop-class-preserved : goal.loop-class-preserved
loop-class-preserved c =
    c.loop-class.invariant ∙ class_from-next (10 - c.loop-class.class) c.loop-class.class (10 - (c.loop-class.class + 1)) (c.loop-class.class + 1) c.args.words (omega arith) (omega arith) (subst (λ n. n < c.args.words) c.size_of.ensures c.if-words-size_of.false)
