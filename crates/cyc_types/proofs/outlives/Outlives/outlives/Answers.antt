use Rattle.cyc_types.proofs.SearchLemmas.{outliving_iff}
use Rattle.cyc_types.proofs.outlives.Outlives.outlives.Goals as goal

pub returns-clause-related : goal.returns-clause-related
returns-clause-related c = λ apart. outliving_iff c.args.self.now c.args.a c.args.b c.is_outliving.result apart c.is_outliving.ensures
