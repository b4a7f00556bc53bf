use Rattle.std.proofs.Common.{◌≡◌, ℕ, ◌-◌, ◌≤◌, false, length}
use Rattle.std.specs.Prelude.{slice_index_or}
use Rattle.cyc_store.specs.Table.{marked_between}
use Rattle.cyc_pagestore.proofs.table.PoolTable.mark_parts.Given as goal

abbrev pub decreases-loop-done : goal.decreases-loop-done
decreases-loop-done l = l.count - l.done

-- Invariant: only mark bits have changed, and the bits written so far, from the first one on, equal the mark to be written.
abbrev pub invariant-loop-done : goal.invariant-loop-done
invariant-loop-done l = record {
  few : l.done ≤ l.count;
  same : l.self-inside.pool ≡ record l.initial.self-inside.pool { bits = l.self-inside.pool.bits };
  pages : l.self-inside.pages ≡ l.initial.self-inside.pages;
  spots : l.self-inside.spots ≡ l.initial.self-inside.spots;
  next : l.self-inside.next ≡ l.initial.self-inside.next;
  roster : l.self-inside.roster ≡ l.initial.self-inside.roster;
  whole : length l.self-inside.pool.bits ≡ length l.initial.self-inside.pool.bits;
  live : (word : ℕ) → slice_index_or l.self-inside.pool.bits word false ≡ marked_between (λ (other : ℕ). slice_index_or l.initial.self-inside.pool.bits other false) l.first l.done l.mark word;
}
