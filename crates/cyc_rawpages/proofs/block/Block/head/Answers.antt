use Rattle.cyc_rawpages.proofs.WordLemmas.{head-is, head-within}
use Rattle.cyc_rawpages.proofs.block.Block.head.Goals as goal

pub returns : goal.returns
returns c =
    let s = c.self.inside in let low = head-within s.heads s.made s.cells.slots _ c.args.index c.self.view_is c.requires in
    head-is s.heads s.made s.cells.slots _ c.args.index _ c.self.view_is low.0 c.read.ensures
