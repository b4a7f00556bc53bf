use Rattle.std.proofs.Common.{◌++◌, replicate}
use Rattle.cyc_words.proofs.Lists.{append_replicate_next}
use Rattle.cyc_inline.specs.inside.Opened.{passing}
use Rattle.cyc_inline.proofs.EmissionLoops.{passed_next}
use Rattle.cyc_inline.proofs.emission.Emission.push_passing.Goals as goal

pub loop-word-preserved : goal.loop-word-preserved
loop-word-preserved c = record {
  code = passed_next c.args.destination c.args.source c.args.count c.loop-word.word (c.args.self.now.code.items ++ passing c.args.destination c.args.source c.args.count)
      c.loop-word.self.code.items c.push.new.self.code.items c.loop-word-test.true c.in_ok-push.ensures.code c.loop-word.invariant.code;
  origins = append_replicate_next c.args.origin c.args.count c.loop-word.word (c.args.self.now.origins.items ++ replicate c.args.count c.args.origin)
      c.loop-word.self.origins.items c.push.new.self.origins.items c.loop-word-test.true c.in_ok-push.ensures.origins c.loop-word.invariant.origins;
}
