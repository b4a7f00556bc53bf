-- The proof of the law about the four cases in which a run of a well-formed program gets stuck.
use Rattle.cyc_plain.proofs.Placed.{few_get_stuck}
use Rattle.cyc_plain.proofs.laws.few_get_stuck.Goals as goal

pub returns : goal.returns
returns c = few_get_stuck
