use Rattle.cyc_flow.proofs.Tables.{emptied_known}
use Rattle.cyc_flow.proofs.table.Table.emptied.Goals as goal

pub returns : goal.returns
returns c = λ ns stands. emptied_known c.args.self c.args.words.now ns c.empty_each.result.items c.empty_each.ensures stands
