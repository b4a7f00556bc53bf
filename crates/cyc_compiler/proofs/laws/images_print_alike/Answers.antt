use Rattle.cyc_compiler.proofs.Preservation.{print_alike}
use Rattle.cyc_compiler.proofs.laws.images_print_alike.Goals as goal

pub returns : goal.returns
returns c = print_alike
