use Rattle.cyc_interpret.proofs.Named.{named}
use Rattle.cyc_interpret.proofs.entry.Environment.name.Goals as goal

pub returns : goal.returns
returns c = named c.args.self.now c.put_object.new.numbers c.args.number c.args.object c.in_ok-put_object.ensures
