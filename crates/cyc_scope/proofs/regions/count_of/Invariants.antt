use Rattle.std.proofs.Common.{◌∷◌}
use Rattle.cyc_types.specs.declared.region.Region.TheVariants.{Heap, Unique}
use Rattle.cyc_scope.specs.inside.Throughout.{AreThroughout}
use Rattle.cyc_scope.proofs.regions.count_of.Given as goal

abbrev pub invariant-loop-i : goal.invariant-loop-i
invariant-loop-i l = AreThroughout (Heap ∷ Unique ∷ l.effect) l.i
