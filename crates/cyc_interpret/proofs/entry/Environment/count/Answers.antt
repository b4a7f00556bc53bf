use Rattle.cyc_interpret.proofs.Named.{numbered}
use Rattle.cyc_interpret.proofs.entry.Environment.count.Goals as goal

pub returns : goal.returns
returns c = numbered c.args.self.now c.put_index.new.numbers c.args.level c.args.index c.in_ok-put_index.ensures
