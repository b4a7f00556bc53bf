use Rattle.std.proofs.Common.{◌≡◌, ℕ, ◌<◌, ◌≤◌, None, Some, get_or, length}
use Rattle.cyc_rawpages.proofs.block.clear.Given as goal

-- Invariant: the cells from index `from` up to the loop's index contain 0, and all other cells are unchanged.
abbrev pub invariant-loop-index : goal.invariant-loop-index
invariant-loop-index l = record {
  at : l.cells.at ≡ l.fn.cells.at;
  many : length l.cells.slots ≡ length l.fn.cells.slots;
  cleared : (i : ℕ) → l.from ≤ i → i < l.index → get_or l.cells.slots i None ≡ Some 0;
  below : (i : ℕ) → i < l.from → get_or l.cells.slots i None ≡ get_or l.fn.cells.slots i None;
  above : (i : ℕ) → l.index ≤ i → get_or l.cells.slots i None ≡ get_or l.fn.cells.slots i None;
}
