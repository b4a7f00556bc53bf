use Rattle.std.proofs.Common.{ap, arith}
use Rattle.cyc_pagestore.specs.inside.Table.{TableState}
use Rattle.cyc_pagestore.proofs.Calls.{idle-past}
use Rattle.cyc_pagestore.proofs.table.PoolTable.made.Goals as goal

pub returns-clause-within : goal.returns-clause-within
returns-clause-within c =
    let within = c.made.ensures.within in let pages = ap (λ (t : TableState). t.most) c.self.view_is in omega (arith, within, pages)

pub returns-clause-idle : goal.returns-clause-idle
returns-clause-idle c =
    let f = c.self.inside in idle-past f.pool f.pages f.spots.items f.next f.roster.links c.self.invariant c.args.self.now c.self.view_is c.made.result c.made.ensures.taken
