use Rattle.std.proofs.Common.{arith}
use Rattle.cyc_asm.proofs.Tables.{length-position_of_each, position_left_out}
use Rattle.cyc_asm.proofs.emission.is_left_out.Goals as goal

pub bounds-positions-number : goal.bounds-positions-number
bounds-positions-number c = let long = length-position_of_each c.args.lines.now c.args.positions.now c.requires.positions in omega (arith, long, c.requires.within)

pub bounds-positions-number-2 : goal.bounds-positions-number-2
bounds-positions-number-2 c = let long = length-position_of_each c.args.lines.now c.args.positions.now c.requires.positions in omega (arith, long, c.requires.within)

pub returns : goal.returns
returns c = position_left_out c.args.lines.now c.args.positions.now c.args.number c.requires.positions c.requires.within
