-- A lowered program has the behaviors of its source program.
use Rattle.cyc_lower_proof.proofs.sizes.Lowerings.{is_lowered}
use Rattle.cyc_lower_proof.proofs.laws.lowered_programs_follow.Goals as goal

pub returns : goal.returns
returns c = is_lowered
