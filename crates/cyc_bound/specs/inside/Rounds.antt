-- The effect of a round of the computation on the costs of functions, and the result after the last round.
use Rattle.std.specs.Prelude.{◌≡◌, ℕ, List, max, get_or, set, length, Option, Some, None}
use Rattle.std.specs.declared.vec.Vec.{Vec}
use Rattle.std.specs.declared.alloc.Global.{Global as Heap}
use Rattle.cyc_types.specs.TypedTrees.{Program}
use Rattle.cyc_bound.specs.declared.costs.Measure.{Measure}
use Rattle.cyc_bound.specs.AtOnce.{AreEnough}
use Rattle.cyc_bound.specs.Costs.{next_costs, Below, IsClosed, AreCosts, IsRunCost, StillGrow}

-- the costs after one function's cost has been raised to the cost of its body
abbrev pub raised : Program → Measure → (costs : List ℕ) → (function : ℕ) → List ℕ
raised program m costs f = set costs f (max (get_or costs f 0) (get_or (next_costs program m costs) f 0))

-- Says that a round of the search raised the costs of functions. No function costs less after the round than before it, or less than
-- its body with the costs before the round. Any sufficient costs that are at least the costs before the round are also at least the
-- costs after it.
pub record AreRaised (program : Program) (m : Measure) (before after : List ℕ) : Type 0 where
  pub all : length after ≡ length before
  pub more : Below before after
  pub next : Below (next_costs program m before) after
  pub least : (others : List ℕ) → IsClosed program m others → Below before others → Below after others

-- says that the result contains the costs of functions, or that these costs still grow after the last round
abbrev pub AreFound : Program → Measure → Option (Vec ℕ Heap) → Type 0
AreFound program m (Some costs) = AreCosts program m costs.items
AreFound program m None = StillGrow program m

-- says that the result contains sufficient costs of functions, or that the costs still grow after the last round
abbrev pub AreEnoughFound : Program → Measure → Option (Vec ℕ Heap) → Type 0
AreEnoughFound program m (Some costs) = AreEnough program m costs.items
AreEnoughFound program m None = StillGrow program m

-- says that the result is the cost of a run, or that this cost still grows after the last round
abbrev pub IsFound : Program → Measure → Option ℕ → Type 0
IsFound program m (Some cost) = IsRunCost program m cost
IsFound program m None = StillGrow program m
