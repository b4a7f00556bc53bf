use Rattle.cyc_compiler.proofs.Preservation.{ends_alike}
use Rattle.cyc_compiler.proofs.laws.images_end_alike_over_every_store.Goals as goal

pub returns : goal.returns
returns c = ends_alike
