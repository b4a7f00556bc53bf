use Rattle.std.proofs.Common.{◌≡◌, false, take}
use Rattle.std.specs.List.{list_any}
use Rattle.cyc_types.specs.Types.{region_eq}
use Rattle.cyc_types.proofs.outlives.is_opened.Given as goal

abbrev pub invariant-loop-scope : goal.invariant-loop-scope
invariant-loop-scope l = list_any (λ s. region_eq s.region l.region) (take l.scope-index l.scopes) ≡ false
