-- Refusals change nothing.
use Rattle.cyc_store.proofs.ServiceLemmas.{refused-exact}
use Rattle.cyc_store.proofs.laws.refusals_change_nothing.Goals as goal

pub returns : goal.returns
returns c = refused-exact
