use Rattle.std.proofs.Common.{◌%◌, ap, ◌∙◌}
use Rattle.std.specs.Prelude.{slice_index, ◌==◌}
use Rattle.std.specs.Int.{bit_at}
use Rattle.std.proofs.lemmas.Nat.Bits.{shr_and_one}
use Rattle.cyc_rawpages.proofs.PoolLemmas.{bit-read}
use Rattle.cyc_rawpages.proofs.pool.Pool.bit.Goals as goal

pub returns : goal.returns
returns c =
    let s = c.self.inside in
    ap (λ n. n == 1) (shr_and_one c.head-marks.result (c.args.bit % 32) ∙ ap (λ w. bit_at w (c.args.bit % 32)) (c.head-marks.ensures ∙ ap (slice_index s.block.heads) c.bits_at.ensures))
    ∙ bit-read s.pages s.block s.roll.lists c.args.page.number c.args.bit _ c.self.view_is c.requires.0 c.requires.1
