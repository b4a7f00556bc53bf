use Rattle.std.proofs.Common.{◌∙◌, rules}
use Rattle.std.proofs.lemmas.Fn.{filter_same}
use Rattle.cyc_propagation.proofs.Keeping.{one_changed}
use Rattle.cyc_propagation.proofs.changes.keep_others.Goals as goal

pub returns : goal.returns
returns c = filter_same _ _ _ (λ x b f' k. search rules) _ _ c.retain.ensures.filtered ∙ one_changed c.args.slots c.args.touched _ c.requires
