use Rattle.std.proofs.Common.{◌∙◌, rules}
use Rattle.std.proofs.lemmas.Fn.{filter_same}
use Rattle.cyc_propagation.proofs.Keeping.{memory_kept}
use Rattle.cyc_propagation.proofs.changes.keep_memory.Goals as goal

pub returns : goal.returns
returns c = filter_same _ _ _ (λ x b f' k. search rules) _ _ c.retain.ensures.filtered ∙ memory_kept c.args.slots c.requires c.args.touched _
