use Rattle.std.proofs.Common.{arith}
use Rattle.cyc_select.proofs.emission.Numbering.{known_fits}
use Rattle.cyc_select.proofs.emitter.Emitter.instruction.Goals as goal

pub body-requires-clause-fits : goal.body-requires-clause-fits
body-requires-clause-fits c =
    omega (arith, c.line.ensures, known_fits c.requires.known c.args.index)
