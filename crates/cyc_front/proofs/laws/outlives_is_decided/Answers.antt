use Rattle.std.proofs.Common.{refl}
use Rattle.cyc_types.specs.Closure.{is_outliving}
use Rattle.cyc_types.proofs.SearchLemmas.{outliving_iff}
use Rattle.cyc_front.proofs.laws.outlives_is_decided.Goals as goal

pub returns : goal.returns
returns c = λ k a b apart. outliving_iff k a b (is_outliving k a b) apart refl
