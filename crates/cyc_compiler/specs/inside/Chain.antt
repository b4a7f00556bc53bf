-- This file relates a source program to each plain program on the way to its image. The lowering makes a plain program, and each later
-- pass makes another plain program from it. The relation between the programs is this project's own choice.
use Rattle.std.specs.Prelude.{◌≡◌, ◌⊎◌, ℕ, ◌*◌, ◌≤◌, ◌<◌, List, [], ◌∷◌, length, sum_by}
use Rattle.std.specs.List.{AllByRecursion}
use Rattle.cyc_types.specs.TypedTrees.{Function, Program}
use Rattle.cyc_types.specs.Weight.{program_weight}
use Rattle.cyc_store.specs.State.{StoreState, IsNew}
use Rattle.cyc_store.specs.declared.range.TheConstants.{MOST_PAGES}
use Rattle.cyc_meaning.specs.FrameCount.{frame_count, words_of_all}
use Rattle.cyc_meaning.specs.Sizes.{size_per_weight, max_frame_words}
use Rattle.cyc_plain.specs.inside.Program.{Routine, Program as PlainProgram, size}
use Rattle.cyc_plain.specs.inside.Memory.{IsBelow, slots_end}
use Rattle.cyc_lower_proof.specs.inside.Slots.{global_types}
use Rattle.cyc_lower_proof.specs.inside.Lowering.{span_of_place}
use Rattle.cyc_lower_proof.specs.inside.Lowered.{FollowsSource}

-- The plain (lowered) function for a source function has the source function's name. The frames of both functions have equal
-- sizes, or neither frame is too large.
pub record IsFunctionOf (h : Function) (r : Routine) : Type 0 where
  pub name : r.name ≡ span_of_place h.place
  pub frame : (r.frame_count ≡ frame_count h) ⊎ ((frame_count h ≤ max_frame_words) × (r.frame_count ≤ max_frame_words))

-- Says that the functions of a source program and of a plain program correspond one to one, in order.
abbrev pub AreFunctionsOf : List Function → List Routine → Type 0
AreFunctionsOf [] [] = Unit {0}
AreFunctionsOf (h ∷ hs) (r ∷ rs) = IsFunctionOf h r × AreFunctionsOf hs rs
AreFunctionsOf [] (r ∷ rs) = ⊥
AreFunctionsOf (h ∷ hs) [] = ⊥

-- The plain program for a source program: it behaves as the source, and its globals are the words of the source's globals. The size of
-- the plain program is bounded by the number of tokens that the source's spelling needs.
pub record IsProgramOf (source : Program) (plain : PlainProgram) : Type 0 where
  pub functions : AreFunctionsOf source.functions plain.functions
  pub globals : length plain.globals ≡ words_of_all (global_types source.globals)
  pub small : sum_by size plain.functions ≤ size_per_weight * program_weight source
  pub follows : (pages calls base : ℕ) (store : StoreState) (input : List ℕ) → IsNew pages store → 1 ≤ pages → pages ≤ MOST_PAGES → 1 ≤ calls → AllByRecursion (λ b. b < 256) input
      → IsBelow plain plain.main base slots_end → FollowsSource source plain pages calls base store input
