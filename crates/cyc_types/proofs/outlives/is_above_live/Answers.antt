use Rattle.std.proofs.Common.{◌||◌, ap, sym, ◌∙◌}
use Rattle.cyc_words.proofs.Booleans.{or_false_right}
use Rattle.cyc_types.specs.Closure.{above_one_opened, written_in}
use Rattle.cyc_types.proofs.SearchLemmas.{live-split}
use Rattle.cyc_types.proofs.outlives.is_above_live.Goals as goal

pub returns-else-is_above_one_of : goal.returns-else-is_above_one_of
returns-else-is_above_one_of c =
    let w = written_in c.args.constraints.now in
    let opened = above_one_opened w c.args.scopes.now c.args.a in
    c.is_above_one_opened.ensures ∙ sym (or_false_right opened) ∙ ap (λ z. opened || z) (sym c.if-is_above_one_of.false ∙ c.is_above_one_of.ensures)
    ∙ sym (live-split w c.args.live.now c.args.scopes.now c.args.a)
