-- This file states the contract of the lowering: the plain program that it produces, and the programs that it accepts.
use Rattle.std.specs.Prelude.{◌≡◌, ℕ, ◌*◌, ◌≤◌, ◌<◌, List, [], ◌∷◌, length}
use Rattle.std.specs.List.{AllByRecursion}
use Rattle.cyc_types.specs.TypedTrees.{Function, Program}
use Rattle.cyc_types.specs.Weight.{function_weight}
use Rattle.cyc_words.specs.Simulation.{NeverFails}
use Rattle.cyc_words.specs.inside.Following.{Follows}
use Rattle.cyc_store.specs.State.{StoreState, IsNew}
use Rattle.cyc_store.specs.declared.range.TheConstants.{MOST_PAGES}
use Rattle.cyc_plain.specs.declared.limits.TheConstants.{MOST_GLOBALS}
use Rattle.cyc_plain.specs.inside.Program.{Routine, Program as PlainProgram, size, places_of}
use Rattle.cyc_plain.specs.inside.Step.{machine}
use Rattle.cyc_plain.specs.inside.Step as plain
use Rattle.cyc_plain.specs.inside.WellFormed.{IsWellFormed, HasWords}
use Rattle.cyc_meaning.specs.Run.{start}
use Rattle.cyc_meaning.specs.SourceMachine.{source_machine}
use Rattle.cyc_meaning.specs.FrameCount.{frame_count, words_of_all}
use Rattle.cyc_meaning.specs.Sizes.{max_functions, size_per_weight}
use Rattle.cyc_lower_proof.specs.inside.Slots.{global_types}
use Rattle.cyc_lower_proof.specs.inside.Lowering.{span_of_place}
use Rattle.cyc_lower_proof.specs.inside.Words.{IsOfWordsProgram}
use Rattle.cyc_plain.specs.inside.Memory.{IsBelow, slots_end}

-- ---- the behavior of the plain program

-- Each run of the plain program follows a run of the source with the same limits (of pages and calls) and the same input, if no run of the
-- source fails. The plain run begins with the heap store `store`, and the slots of `main` are at address `base`. The plain steps that
-- match one source step visit each code position at most once.
abbrev pub FollowsSource : Program → PlainProgram → (pages calls base : ℕ) → StoreState → (input : List ℕ) → Type 0
FollowsSource source lowered pages calls base store input =
    NeverFails (source_machine source pages calls) (start source input)
    → Follows (source_machine source pages calls) (machine lowered pages calls) [] (λ s. places_of lowered) (start source input) (plain.start lowered base store input)

-- ---- the promise of the lowering

pub record IsLoweredFunction (h : Function) (r : Routine) : Type 0 where
  pub name : r.name ≡ span_of_place h.place
  pub frame : r.frame_count ≡ frame_count h
  pub small : size r ≤ size_per_weight * function_weight h

-- Says that all functions are lowered, in order.
abbrev pub AreLoweredFunctions : List Function → List Routine → Type 0
AreLoweredFunctions [] [] = Unit {0}
AreLoweredFunctions (h ∷ hs) (r ∷ rs) = IsLoweredFunction h r × AreLoweredFunctions hs rs
AreLoweredFunctions [] (r ∷ rs) = ⊥
AreLoweredFunctions (h ∷ hs) [] = ⊥

-- Says that a plain program is a lowering of a source program: it is well-formed and follows the source. For each function the plain
-- program records the source position of the name and the size of the frame. The globals of the lowered program are the words of the
-- source's globals.
pub record IsLowered (source : Program) (lowered : PlainProgram) : Type 0 where
  pub well_formed : IsWellFormed lowered
  pub words : HasWords lowered
  pub functions : AreLoweredFunctions source.functions lowered.functions
  pub globals : length lowered.globals ≡ words_of_all (global_types source.globals)
  pub follows : (pages calls base : ℕ) (store : StoreState) (input : List ℕ) → IsNew pages store → 1 ≤ pages → pages ≤ MOST_PAGES → 1 ≤ calls → AllByRecursion (λ b. b < 256) input
      → IsBelow lowered lowered.main base slots_end → FollowsSource source lowered pages calls base store input

-- The requirements of lowering on a well-typed tree. The typed tree of a program text satisfies these requirements. The integers in
-- the tree are 32-bit words. The globals of the tree have at most `MOST_GLOBALS` machine words in all.
pub record CanBeLowered (source : Program) : Type 0 where
  pub of_words : IsOfWordsProgram source
  pub few_globals : words_of_all (global_types source.globals) ≤ MOST_GLOBALS

-- Says that `program` equals the program `given` and has at most `max_functions` functions.
abbrev pub IsAccepted : (given program : Program) → Type 0
IsAccepted given program = (program ≡ given) × (length program.functions ≤ max_functions)
