use Rattle.std.proofs.Common.{◌≡◌, false, take}
use Rattle.cyc_types.specs.Closure.{above_one_opened, written_in}
use Rattle.cyc_types.proofs.outlives.is_above_one_opened.Given as goal

abbrev pub invariant-loop-scope : goal.invariant-loop-scope
invariant-loop-scope l = above_one_opened (written_in l.constraints) (take l.scope-index l.scopes) l.a ≡ false
