use Rattle.std.proofs.Common.{◌+◌, arith}
use Rattle.cyc_rawpages.proofs.WordLemmas.{word-is}
use Rattle.cyc_rawpages.proofs.block.Block.word.Goals as goal

pub returns-then-index-self : goal.returns-then-index-self
returns-then-index-self c = let s = c.self.inside in word-is s.heads s.made s.cells.slots _ c.args.index _ c.self.view_is c.read.ensures

pub returns-else-index-self : goal.returns-else-index-self
returns-else-index-self c =
    let s = c.self.inside in let past = c.if-index-self.false in
    word-is s.heads s.made s.cells.slots _ c.args.index _ c.self.view_is (c.self.invariant.written.blank (s.heads + c.args.index) (omega (arith, past)))
