use Rattle.cyc_syntax.proofs.NameLemmas.{distinct_texts_distinct}
use Rattle.cyc_syntax.proofs.laws.texts_are_distinct.Goals as goal

pub returns : goal.returns
returns c = distinct_texts_distinct
