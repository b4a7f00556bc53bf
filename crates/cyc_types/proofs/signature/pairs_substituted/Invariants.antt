use Rattle.std.proofs.Common.{◌≡◌, map, take}
use Rattle.cyc_types.specs.inside.SignatureView.{substituted_pair}
use Rattle.cyc_types.proofs.signature.pairs_substituted.Given as goal

abbrev pub invariant-loop-pair : goal.invariant-loop-pair
invariant-loop-pair l = l.all.items ≡ map (substituted_pair l.instance) (take l.pair-index l.pairs)
