-- This file proves the law about allocated and freed blocks.
use Rattle.cyc_store.proofs.BlockLemmas.{serves-made, serves-freed, serves-closed}
use Rattle.cyc_store.proofs.laws.blocks_come_and_go.Goals as goal

pub returns-clause-made : goal.returns-clause-made
returns-clause-made c = serves-made

pub returns-clause-freed : goal.returns-clause-freed
returns-clause-freed c = serves-freed

pub returns-clause-closed : goal.returns-clause-closed
returns-clause-closed c = serves-closed
