use Rattle.std.proofs.Common.{◌∙◌, sym}
use Rattle.std.proofs.lemmas.Option.{slice_get-get_or}
use Rattle.cyc_propagation.proofs.Found.{found_is_known}
use Rattle.cyc_propagation.proofs.known.found_from.Goals as goal

pub returns-then-is_same_fact : goal.returns-then-is_same_fact
returns-then-is_same_fact c below =
    let at = slice_get-get_or c.args.facts.now c.loop-index.index _ below in
    found_is_known c.args.facts.now c.loop-index.index _ c.args.fact.now at (sym c.is_same_fact.ensures ∙ c.if-is_same_fact.true)
