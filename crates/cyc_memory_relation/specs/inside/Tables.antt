-- This file defines the tables of a run: a row for each object ever created, and an entry for each region ever opened, ordered by their
-- indices. Existing rows and entries of the tables never change. A row does not state if its object is live. A heap store reuses
-- addresses and handles, so one address or handle may occur several times.
use Rattle.std.specs.Prelude.{◌≡◌, ℕ, List, [], ◌∷◌, ◌++◌, map, Option, Some, None, slice_get}
use Rattle.cyc_types.specs.declared.typed.Kind.{Kind}
use Rattle.cyc_types.specs.TypedTrees.{GlobalVariable, Program}
use Rattle.cyc_store.specs.declared.range.TheConstants.{HEAP}

-- Says where an object's words are. A variable whose address is never taken has no address; any other object begins at an address, with
-- cells of these representation kinds in order.
pub data Row : Type 0 where
  Variable : Row
  Placed : (address : ℕ) → (kinds : List Kind) → Row

pub record Tables : Type 0 where
  pub rows : List Row
  -- The handle of each region in the heap store; a region of variables has no handle.
  pub handles : List (Option ℕ)

abbrev pub with_row : Tables → Row → Tables
with_row t row = record t { rows = t.rows ++ row ∷ [] }

abbrev pub with_handle : Tables → Option ℕ → Tables
with_handle t handle = record t { handles = t.handles ++ handle ∷ [] }

-- Says that the table u has all rows and entries of the table t unchanged.
pub record Grows (t u : Tables) : Type 0 where
  pub rows : (object : ℕ) (row : Row) → slice_get t.rows object ≡ Some row → slice_get u.rows object ≡ Some row
  pub handles : (region : ℕ) (handle : Option ℕ) → slice_get t.handles region ≡ Some handle → slice_get u.handles region ≡ Some handle

-- The tables at the start of a run: the globals, the heap, and the region of the globals.
abbrev pub first_tables : (globals : List Row) → Tables
first_tables globals = record { rows = globals; handles = Some HEAP ∷ None ∷ [] }

-- The rows of the globals in the table of objects if no global's address is taken.
abbrev pub without_addresses : Program → List Row
without_addresses program = map (λ (g : GlobalVariable). Variable) program.globals
