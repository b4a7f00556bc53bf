use Rattle.std.proofs.Common.{ap}
use Rattle.cyc_syntax.specs.Names.{number_of}
use Rattle.cyc_syntax.proofs.NameLemmas.{one_text}
use Rattle.cyc_syntax.proofs.laws.one_number_each.Goals as goal

pub returns : goal.returns
returns c = λ texts a b has also. (one_text texts a b has also, λ same. ap (number_of texts) same)
