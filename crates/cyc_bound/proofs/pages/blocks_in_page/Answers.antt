use Rattle.cyc_bound.proofs.UniqueLemmas.{blocks_some}
use Rattle.cyc_bound.proofs.pages.blocks_in_page.Goals as goal

pub returns-clause-some : goal.returns-clause-some
returns-clause-some c = blocks_some c.args.class c.requires
