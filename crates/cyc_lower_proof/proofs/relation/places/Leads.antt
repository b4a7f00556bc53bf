-- This file is about the targets of pointers: a cell that exists is a cell of the heap store, a global, or a local of an active call.
use Rattle.std.proofs.Common.{◌≡◌, ℕ, ◌+◌, ◌<◌, true, List, length, Option, Some, slice_get, inl, inr}
use Rattle.cyc_types.specs.TypedTrees.{Program}
use Rattle.cyc_store.specs.State.{StoreState}
use Rattle.cyc_plain.specs.inside.State.{Frame}
use Rattle.cyc_plain.specs.inside.WellFormed.{IsWellFormed}
use Rattle.cyc_plain.specs.inside.Memory.{AreBelow, is_pinned}
use Rattle.cyc_meaning.specs.State.{Object, World, Found, Located, cell_at}
use Rattle.cyc_memory_relation.specs.inside.Tables.{Tables}
use Rattle.cyc_memory_relation.specs.inside.Related as objects
use Rattle.cyc_memory_relation.specs.inside.Related.{Alive, LiveVariable}
use Rattle.cyc_memory_relation.proofs.Cells.{found-either}
use Rattle.cyc_lower_proof.specs.inside.Slots.{starts_of, slot_of, global_types}
use Rattle.cyc_lower_proof.specs.inside.Lowering.{lower_program}
use Rattle.cyc_lower_proof.proofs.slots.Widths.{words_in}
use Rattle.cyc_lower_proof.proofs.relation.contents.HeldValues.{Waiting}
use Rattle.cyc_lower_proof.proofs.relation.simulation.Stacks.{code_of, types_at}
use Rattle.cyc_lower_proof.proofs.relation.simulation.Shared.{silent}

-- Says that an object is the object of a live variable: a global, or a local of the running call or of a waiting call.
pub data IsNamed (globals : ℕ) (locals : ℕ → Option ℕ) (outer : List Waiting) (object : ℕ) : Type 0 where
  is_global : object < globals → IsNamed globals locals outer object
  is_local : (number : ℕ) → locals number ≡ Some object → IsNamed globals locals outer object
  is_waiting : (i number : ℕ) → (x : Waiting) → slice_get outer i ≡ Some x → x.locals number ≡ Some object → IsNamed globals locals outer object

-- The invariants that the source program and the plain program each preserve: every live variable is a global or a local
-- of an active call, and the slots of two calls do not overlap.
pub record AreNamed (source : Program) (locals : ℕ → Option ℕ) (outer : List Waiting) (w : World) (g base : ℕ) (frames : List Frame) (store : StoreState) : Type 0 where
  pub named : (t : Tables) → objects.Related t (silent w) store → (object : ℕ) (x : Object) → LiveVariable t (silent w) object x → IsNamed (length (global_types source.globals)) locals outer object
  pub lie : AreBelow (lower_program source) g base frames
  pub well : IsWellFormed (lower_program source)
  -- If the code takes the address of the first slot of a local, then each slot of the local has an address.
  pub whole : (n number j : ℕ) → number < length (types_at source n).locals → j < words_in (types_at source n).locals number → is_pinned (code_of source n) (slot_of (starts_of (types_at source n)) number) ≡ true
      → is_pinned (code_of source n) (slot_of (starts_of (types_at source n)) number + j) ≡ true

-- The memory to which a pointer points: the heap store, a global or a local of an active call.
pub data Leads (source : Program) (t : Tables) (w : World) (locals : ℕ → Option ℕ) (outer : List Waiting) (object : ℕ) (x : Object) : Type 0 where
  to_store : (h : ℕ) → Alive t (silent w) object h x → Leads source t w locals outer object x
  to_variable : IsNamed (length (global_types source.globals)) locals outer object → Leads source t w locals outer object x

module _ (source : Program) {t : Tables} {w : World} {store : StoreState} {locals : ℕ → Option ℕ} {outer : List Waiting} {g base : ℕ} {frames : List Frame}
    (names : AreNamed source locals outer w g base frames store) (related : objects.Related t (silent w) store) where
  pub leads : (object offset : ℕ) (at : Located) → cell_at w object offset ≡ Found at → Leads source t w locals outer object at.object × (slice_get at.object.cells offset ≡ Some at.cell)
  leads object offset at found =
      let (lives, cell) = found-either related object offset at found in (
        elim lives [
          | inl (h, alive) ↦ to_store h alive
          | inr variable ↦ to_variable (names.named t related object at.object variable)
        ],
        cell,
      )
