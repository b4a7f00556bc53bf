use Rattle.cyc_machine_model.proofs.ShapeLaws.{Run-shape}
use Rattle.cyc_machine_model.proofs.laws.shape_stays.Goals as goal

pub returns : goal.returns
returns c = Run-shape
