use Rattle.std.proofs.Common.{◌≡◌, length}
use Rattle.cyc_rawpages.specs.inside.Words.{headed_all, parts_of, IsBlock}
use Rattle.cyc_rawpages.proofs.block.Block.set_heads.Given as goal

-- Invariant: the header words visited so far are written, and the block is otherwise unchanged.
abbrev pub invariant-loop-number : goal.invariant-loop-number
invariant-loop-number l = let s = l.self-inside in record {
  written : parts_of s.heads s.made s.cells.slots ≡ headed_all l.fn.self l.first l.number l.word;
  many : length (parts_of s.heads s.made s.cells.slots).heads ≡ length l.fn.self.heads;
  block : IsBlock s.start s.count s.heads s.made s.cells s.lease s.alloc;
  at : s.cells.at ≡ l.start.at;
}
