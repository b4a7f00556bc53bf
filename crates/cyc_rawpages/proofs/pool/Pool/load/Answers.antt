use Rattle.std.proofs.Common.{◌+◌, ◌*◌, ap, ◌∙◌}
use Rattle.std.specs.Prelude.{slice_index}
use Rattle.cyc_rawpages.specs.inside.Pool.{PoolState}
use Rattle.cyc_rawpages.proofs.PoolLemmas.{word-in, there-in}
use Rattle.cyc_rawpages.proofs.pool.Pool.load.Goals as goal

pub word-requires : goal.word-requires
word-requires c =
    let s = c.self.inside in word-in s.pages c.args.page.number c.args.word s.block c.self.invariant.words (there-in _ _ _ c.self.view_is c.requires.0) c.requires.1

pub returns : goal.returns
returns c = c.word.ensures ∙ ap (λ (t : PoolState). slice_index t.words (1024 * c.args.page.number + c.args.word)) c.self.view_is
