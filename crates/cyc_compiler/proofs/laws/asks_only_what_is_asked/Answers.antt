use Rattle.cyc_compiler.proofs.Asking.{asks_what_is_asked}
use Rattle.cyc_compiler.proofs.laws.asks_only_what_is_asked.Goals as goal

pub returns : goal.returns
returns c = asks_what_is_asked
