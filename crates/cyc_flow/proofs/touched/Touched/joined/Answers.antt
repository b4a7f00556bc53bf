use Rattle.std.proofs.Common.{sym, ap, ◌∙◌}
use Rattle.cyc_flow.specs.inside.Numbers.{is_among}
use Rattle.cyc_flow.proofs.Sets.{stand_both}
use Rattle.cyc_flow.proofs.touched.Touched.joined.Goals as goal

pub invariant_of-result : goal.invariant_of-result
invariant_of-result c = record {
  stand = λ n.
      stand_both c.united.result.items c.args.self.words.items c.args.more.words.items c.args.self.numbers.list c.args.more.numbers.list c.args.self.stand c.args.more.stand c.united.ensures n
      ∙ ap (is_among n) (sym c.joined-numbers.ensures);
}
