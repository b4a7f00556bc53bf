use Rattle.std.proofs.Common.{◌+◌, ap, subst, ◌∙◌, length, get_or, arith}
use Rattle.std.proofs.lemmas.List.{length-replicate}
use Rattle.std.specs.Prelude.{None}
use Rattle.cyc_rawpages.specs.inside.Words.{AreWritten}
use Rattle.cyc_rawpages.proofs.WordLemmas.{written-first, parts-first}
use Rattle.cyc_rawpages.proofs.block.Block.new.Goals as goal

pub invariant_of-result : goal.invariant_of-result
invariant_of-result c =
    let got = c.in-Some.ensures in let heads = c.args.heads in let words = c.args.words in let cs = c.clear.new.cells.slots in
    record {
      at = c.clear.ensures.at ∙ got.0;
      many = c.clear.ensures.many ∙ ap length got.1 ∙ length-replicate (heads + words) None;
      few = omega arith;
      written = subst (AreWritten cs) {x = heads} {y = heads + 0} (omega arith)
          (written-first (heads + words) heads cs c.clear.ensures.cleared (λ i past. c.clear.ensures.above i past ∙ ap (λ ds. get_or ds i None) got.1));
      leased = got.2;
      size = got.3;
      by = got.4;
    }

pub returns : goal.returns
returns c =
    let got = c.in-Some.ensures in
    parts-first c.args.heads c.args.words c.clear.new.cells.slots (c.clear.ensures.many ∙ ap length got.1) c.clear.ensures.cleared (λ i past. c.clear.ensures.above i past ∙ ap (λ ds. get_or ds i None) got.1)
