use Rattle.std.proofs.Common.{rules}
use Rattle.std.proofs.lemmas.Fn.{filter_same}
use Rattle.cyc_propagation.proofs.changes.keep.Goals as goal

pub returns-else-slots-eq0 : goal.returns-else-slots-eq0
returns-else-slots-eq0 c = filter_same _ _ _ (λ x b f' k. search rules) _ _ c.retain.ensures.filtered
