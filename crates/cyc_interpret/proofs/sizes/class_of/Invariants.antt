use Rattle.std.proofs.Common.{◌≡◌, ◌-◌}
use Rattle.cyc_words.specs.Demand.{class_from, class_of}
use Rattle.cyc_interpret.proofs.sizes.class_of.Given as goal

abbrev pub invariant-loop-class : goal.invariant-loop-class
invariant-loop-class l = class_of l.size ≡ class_from (10 - l.class) l.class l.size
