use Rattle.cyc_interpret.proofs.Classes.{blocks_some}
use Rattle.cyc_interpret.proofs.sizes.blocks_in_page.Goals as goal

pub returns-clause-some : goal.returns-clause-some
returns-clause-some c = blocks_some c.args.class c.requires
