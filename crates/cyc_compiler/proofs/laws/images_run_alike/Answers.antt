use Rattle.cyc_compiler.proofs.Preservation.{are_alike}
use Rattle.cyc_compiler.proofs.laws.images_run_alike.Goals as goal

pub returns : goal.returns
returns c = are_alike
