use Rattle.std.proofs.Common.{◌≡◌, ◌≤◌, ◌<◌, ℕ, ◌+◌, length}
use Rattle.std.specs.Prelude.{slice_index}
use Rattle.cyc_pagestore.specs.inside.Live.{filled_by, reach}
use Rattle.cyc_pagestore.proofs.serial.renumber.Given as goal

-- Invariant: for the pages renumbered so far, the filled words are the live words.
abbrev pub invariant-loop-number : goal.invariant-loop-number
invariant-loop-number l = record {
  same : l.pool ≡ record l.fn.pool { fills = l.pool.fills };
  count : length l.pool.fills ≡ length l.fn.pool.fills;
  done : (page : ℕ) → page < l.number → filled_by l.pool.fills page ≡ reach l.fn.pool page;
  left : (page : ℕ) → l.number ≤ page → slice_index l.pool.fills page ≡ slice_index l.fn.pool.fills page;
}

-- Invariant: the filled words of all pages are their live words, and the pages visited so far have the serials of their owners
-- (their regions' first pages).
abbrev pub invariant-loop-number-2 : goal.invariant-loop-number-2
invariant-loop-number-2 l = record {
  same : l.pool ≡ record l.fn.pool { fills = l.pool.fills; serials = l.pool.serials };
  fill_count : length l.pool.fills ≡ length l.fn.pool.fills;
  serial_count : length l.pool.serials ≡ length l.fn.pool.serials;
  fills : (page : ℕ) → page < l.fn.pool.pages → filled_by l.pool.fills page ≡ reach l.fn.pool page;
  done : (page : ℕ) → page < l.number → slice_index l.pool.serials page ≡ slice_index l.fn.pool.owners page + 1;
}
