-- A conversion yields a value of its target type.
use Rattle.cyc_soundness.proofs.types.ValueLemmas.{converted_by}
use Rattle.cyc_soundness.proofs.laws.conversions_fit.Goals as goal

pub returns : goal.returns
returns c = converted_by
