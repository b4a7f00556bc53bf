use Rattle.std.proofs.Common.{◌-◌, ◌<◌, length, subst}
use Rattle.std.specs.Prelude.{set}
use Rattle.cyc_store.specs.declared.row.Row.{Row}
use Rattle.cyc_store.specs.Table.{free_row}
use Rattle.cyc_store.proofs.TableLemmas.{IsGiving, giving-there, giving-step, row_at-read}
use Rattle.cyc_store.proofs.row.PageTable.give_back.Goals as goal

-- src/row.rt:124:9
pub loop-left-preserved : goal.loop-left-preserved
loop-left-preserved c = record {
  giving = let rows = c.loop-left.self.rows.items in
      let inside : c.loop-left.page < length rows =
      giving-there rows c.loop-left.page c.loop-left.left c.loop-left.self.free c.args.self.now.rows.items c.args.newest c.args.count c.args.self.now.free c.loop-left.invariant.giving c.loop-left-test.true in
      subst (λ (r : Row). IsGiving (set rows c.loop-left.page (free_row c.loop-left.self.free)) r.next (c.loop-left.left - 1) c.loop-left.page c.args.self.now.rows.items c.args.newest c.args.count c.args.self.now.free)
      (row_at-read rows c.loop-left.page c.index.result.now inside c.index.ensures)
      (giving-step rows c.loop-left.page c.loop-left.left c.loop-left.self.free c.args.self.now.rows.items c.args.newest c.args.count c.args.self.now.free c.loop-left.invariant.giving c.loop-left-test.true);
  words = c.loop-left.invariant.words;
  live = c.loop-left.invariant.live;
  most = c.loop-left.invariant.most;
}
