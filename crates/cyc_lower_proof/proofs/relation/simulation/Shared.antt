-- This file defines the state that all calls share, and its invariant, while the plain program matches the source.
use Rattle.std.proofs.Common.{◌≡◌, ℕ, suc, ◌≤◌, List, [], ◌∷◌, Option, None, Some, slice_get}
use Rattle.cyc_words.specs.Seen.{Seen, showing}
use Rattle.cyc_words.proofs.SeenLemmas.{seen_same}
use Rattle.cyc_store.specs.State.{StoreState, demand, lexical_count}
use Rattle.cyc_store.specs.Soundness.{IsSound}
use Rattle.cyc_memory_relation.specs.inside.Tables.{Tables}
use Rattle.cyc_memory_relation.specs.inside.Related as objects
use Rattle.cyc_memory_relation.specs.inside.Related.{scopes, closed_to}
use Rattle.cyc_meaning.specs.State.{World, globals_number}

-- Holds if all regions of the list are regions in which variables are declared and have no handle.
abbrev pub AreOfVariables : Tables → List ℕ → Type 0
AreOfVariables t [] = Unit {0}
AreOfVariables t (region ∷ regions) = (slice_get t.handles region ≡ Some None) × AreOfVariables t regions

-- The heap state `w` without its input and output.
abbrev pub silent : World → World
silent w = record w { output = []; input = [] }

-- The state that all calls share, without the globals. The shared state consists of the bytes printed and read, the tables of objects
-- and regions in the heap store, and the waiting calls. The pages that the heap store needs and the number of calls are within the
-- limits. The condition on the loop counters of arrays and on lexical regions is a part of the shared state.
pub record Shared (pages calls : ℕ) (w : World) (regions : List ℕ) (counting : Type 0) (plain_output plain_input : List ℕ) (store : StoreState) (waiting : ℕ) : Type 0 where
  pub tables : Tables
  pub same_output : plain_output ≡ w.output
  pub same_input : plain_input ≡ w.input
  pub related : objects.Related tables (silent w) store
  pub same_pages : store.pages ≡ pages
  -- The region in which the globals are declared holds variables and has no handle, and so do the regions of the list `regions`.
  pub globals : slice_get tables.handles globals_number ≡ Some None
  pub variables : AreOfVariables tables regions
  pub few_pages : demand store ≤ pages
  pub fits : suc waiting ≤ calls
  -- The condition on the loop counters of arrays that are being filled and on the open lexical regions.
  pub counters : counting

-- The observable behavior of a run that continues: its output and input so far.
abbrev pub seen_in : World → Seen
seen_in w = showing w.output w.input

-- Source program and plain program have equal output and equal input so far.
pub shared_seen : {pages calls : ℕ} {w : World} {regions : List ℕ} {counting : Type 0} {plain_output plain_input : List ℕ} {store : StoreState} {waiting : ℕ} → Shared pages calls w regions counting plain_output plain_input store waiting
    → showing plain_output plain_input ≡ seen_in w
shared_seen {pages} {calls} {w} {regions} {counting} {plain_output} {plain_input} s = seen_same plain_output w.output plain_input w.input s.same_output s.same_input

-- While lexical regions are left, the source closes one region in each step, and the heap store closes all of them at the end. The heap
-- store that the relation uses is the real one without the regions that are yet to be closed.
abbrev pub store_by : (closing : Option ℕ) → StoreState → (many : ℕ) → StoreState
store_by None store many = store
store_by (Some mark) store many = closed_to store many

-- If the heap store still has regions that the source has closed, then the program may open lexical regions.
abbrev pub HasScopes : Option ℕ → Type 0
HasScopes None = ⊥
HasScopes (Some place) = Unit {0}

abbrev pub IsAhead : (scopes : Option ℕ) → StoreState → (many : ℕ) → Type 0
IsAhead place store many = HasScopes place × IsSound store × (many ≤ lexical_count store.regions)
