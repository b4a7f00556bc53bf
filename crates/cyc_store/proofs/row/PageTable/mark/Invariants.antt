use Rattle.std.proofs.Common.{◌≡◌, ℕ, false, length}
use Rattle.std.specs.Prelude.{slice_index_or}
use Rattle.cyc_store.specs.Table.{marked_between}
use Rattle.cyc_store.proofs.row.PageTable.mark.Given as goal

-- Invariant of the loop: the flags that mark words as live are written for all words before the current one, and all else is unchanged.
abbrev pub invariant-loop-number : goal.invariant-loop-number
invariant-loop-number l = record {
  live : (word : ℕ) → slice_index_or l.self.live.items word false ≡ marked_between (λ (other : ℕ). slice_index_or l.initial.self.live.items other false) l.first l.number l.mark word;
  whole : length l.self.live.items ≡ length l.initial.self.live.items;
  words : l.self.words.items ≡ l.initial.self.words.items;
  rows : l.self.rows.items ≡ l.initial.self.rows.items;
  free : l.self.free ≡ l.initial.self.free;
  most : l.self.most ≡ l.initial.self.most;
}
