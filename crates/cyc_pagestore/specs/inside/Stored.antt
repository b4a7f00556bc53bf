-- The invariant of every store on a page table over a pool: a page table in memory that gives the same results when read satisfies the
-- invariant of stores.
use Rattle.std.specs.Prelude.{◌≡◌, ℕ, ◌≤◌, List, length}
use Rattle.std.specs.Global.{Vec}
use Rattle.std.specs.Vec.{vec_capacity}
use Rattle.cyc_store.specs.Ledger.{Blocks}
use Rattle.cyc_store.specs.inside.Kept.{IsKept}
use Rattle.cyc_store.specs.declared.row.PageTable.{PageTable}
use Rattle.cyc_store.specs.declared.row.ClassSlots.{ClassSlots}
use Rattle.cyc_pagestore.specs.inside.Table.{TableState}
use Rattle.cyc_pagestore.specs.inside.Usage.{Counts, IsUsage}

-- Says that a page table in memory gives the same results as the table of the pool.
pub record Reads (t : PageTable) (x : TableState) : Type 0 where
  pub most : t.most ≡ x.most
  pub words : t.words.items ≡ x.words
  pub live : t.live.items ≡ x.live
  pub rows : t.rows.items ≡ x.rows
  pub free : t.free ≡ x.free

pub record IsStored (x : TableState) (lexicals : List ℕ) (classes : List ClassSlots) (b : Blocks) : Type 0 where
  pub table : PageTable
  pub reads : Reads table x
  pub whole : length x.rows ≡ x.most
  pub kept : IsKept table lexicals classes b

-- The invariant of a page store: its list of lexical regions has capacity for as many regions as there are pages, and the pages in use
-- are counted.
pub record IsPagedStore (x : TableState) (lexicals : Vec ℕ) (classes : List ClassSlots) (b : Blocks) (counts : Counts) : Type 0 where
  pub room : x.most ≤ vec_capacity lexicals
  pub stored : IsStored x lexicals.items classes b
  pub usage : IsUsage counts x.most b
