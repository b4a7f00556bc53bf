use Rattle.cyc_propagation.specs.inside.Room.{slots_in}
use Rattle.cyc_propagation.proofs.Spared.{code_unspared}
use Rattle.cyc_propagation.proofs.room.spare.Goals as goal

pub returns : goal.returns
returns c = code_unspared (slots_in c.args.plain.now) c.args.code.items
