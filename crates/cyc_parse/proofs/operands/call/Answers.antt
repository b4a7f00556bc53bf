use Rattle.cyc_syntax.proofs.TreeViewLemmas.{view_call}
use Rattle.cyc_parse.proofs.operands.call.Goals as goal

pub returns : goal.returns
returns c = view_call c.args.function c.args.arguments
