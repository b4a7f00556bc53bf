use Rattle.std.proofs.Common.{◌≡◌}
use Rattle.cyc_store.proofs.TableLemmas.{IsGiving}
use Rattle.cyc_store.proofs.row.PageTable.give_back.Given as goal

abbrev pub invariant-loop-left : goal.invariant-loop-left
invariant-loop-left l = record {
  giving : IsGiving l.self.rows.items l.page l.left l.self.free l.initial.self.rows.items l.newest l.count l.initial.self.free;
  words : l.self.words.items ≡ l.initial.self.words.items;
  live : l.self.live.items ≡ l.initial.self.live.items;
  most : l.self.most ≡ l.initial.self.most;
}

abbrev pub decreases-loop-left : goal.decreases-loop-left
decreases-loop-left l = l.left
