use Rattle.cyc_plain.specs.inside.Program.{routine_of}
use Rattle.cyc_propagation.proofs.Sparing.{code_made}
use Rattle.cyc_propagation.proofs.simplification.simplified.Goals as goal

pub returns : goal.returns
returns c = code_made c.args.plain.now (routine_of c.args.function.now) _ _ c.in_ok-code.ensures c.in_ok-code-2.ensures
