use Rattle.std.proofs.Common.{◌+◌, ◌*◌, ◌^◌, sym, ap, ◌∙◌}
use Rattle.std.specs.Prelude.{slice_index}
use Rattle.cyc_rawpages.specs.inside.Pool.{PoolState, serial_of}
use Rattle.cyc_rawpages.proofs.Columns.{tab-read}
use Rattle.cyc_rawpages.proofs.PoolLemmas.{there-in}
use Rattle.cyc_rawpages.proofs.pool.Pool.serial.Goals as goal

pub returns : goal.returns
returns c =
    let s = c.self.inside in let p = c.args.page.number in
    (λ j. (c.head-low.ensures ∙ ap (slice_index s.block.heads) c.header_at.ensures) j + 2 ^ 32 * (c.head-high.ensures ∙ ap (slice_index s.block.heads) c.header_at-2.ensures) j)
    ∙ sym (tab-read s.pages (serial_of s.block) p 0 (there-in _ _ _ c.self.view_is c.requires)) ∙ ap (λ (t : PoolState). slice_index t.serials p) c.self.view_is
