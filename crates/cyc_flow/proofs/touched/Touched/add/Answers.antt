use Rattle.std.proofs.Common.{sym, ap, ◌∙◌}
use Rattle.cyc_flow.specs.inside.Numbers.{is_among}
use Rattle.cyc_flow.proofs.Sets.{stand_more}
use Rattle.cyc_flow.proofs.touched.Touched.add.Goals as goal

pub invariant_of-drop : goal.invariant_of-drop
invariant_of-drop c = record {
  stand = λ n.
      stand_more c.insert.new.words.items c.replace-words.result.words.items c.replace-words.result.numbers.list c.args.number c.replace-words.result.stand c.in_ok-insert.ensures n
      ∙ ap (is_among n) (sym c.with.ensures);
}
