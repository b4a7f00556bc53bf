use Rattle.cyc_syntax.proofs.TreeViewLemmas.{view_statement_block}
use Rattle.cyc_parse.proofs.statements.block.Goals as goal

pub returns : goal.returns
returns c = view_statement_block c.args.block
