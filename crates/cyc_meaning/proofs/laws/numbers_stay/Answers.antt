-- Proves the law that regions and objects keep their indices during a run.
use Rattle.cyc_meaning.specs.State.{Running}
use Rattle.cyc_meaning.proofs.WorldLaws.{steps_stay, world_same}
use Rattle.cyc_meaning.proofs.laws.numbers_stay.Goals as goal

pub returns : goal.returns
returns c = λ program count focus stack e w. steps_stay program count w (Running focus stack e w) (world_same w)
