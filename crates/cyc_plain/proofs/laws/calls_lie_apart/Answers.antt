-- The proof of the law that the slots of different calls have disjoint addresses.
use Rattle.cyc_plain.specs.inside.Step.{start}
use Rattle.cyc_plain.proofs.CallLaws.{below_run, below_start}
use Rattle.cyc_plain.proofs.laws.calls_lie_apart.Goals as goal

pub returns : goal.returns
returns c = λ program pages calls count base store input new below run. below_run program pages calls count (start program base store input) new (below_start program base store input below) run
