-- The relation between labelled code and the plain program that this code implements.
use Rattle.std.specs.Prelude.{◌≡◌, ℕ, ◌+◌, ◌<◌, ◌≤◌, List, ◌++◌, length, sum_by, slice_index_or}
use Rattle.std.specs.List.{AllByRecursion, range_with_len, flat_map}
use Rattle.cyc_store.specs.State.{StoreState, IsNew}
use Rattle.cyc_machine_model.specs.Bounds.{AreAllowed}
use Rattle.cyc_words.specs.Simulation.{NeverFails}
use Rattle.cyc_words.specs.inside.Following.{Follows}
use Rattle.cyc_plain.specs.inside.Memory.{IsBelow, slots_end}
use Rattle.cyc_plain.specs.inside.Program.{Program, CodePlace, routine_at, places_of, size}
use Rattle.cyc_plain.specs.inside.Step as plain
use Rattle.cyc_select.specs.declared.constants.TheConstants.{MAX_START_WORDS}
use Rattle.cyc_select.specs.declared.code.Line.TheVariants as lines
use Rattle.cyc_select.specs.inside.Labelled.{Labelled, IsFormed, AreAddresses, words_of, all_words}
use Rattle.cyc_select.specs.inside.Machine as labelled

-- Returns the greatest number of machine words that the line with this number may take.
abbrev pub words_at : Labelled → ℕ → ℕ
words_at code number = words_of (slice_index_or code.lines number lines.Return)

-- Each MIPS line is a line of the start code, or is assigned to one instruction of the plain program. A run of the code follows a run of
-- the program and visits an instruction's lines once for each step that executes the instruction. (An instruction that needs no machine
-- code may have no lines.)
pub record IsCodeOf (program : Program) (code : Labelled) : Type 0 where
  pub formed : IsFormed code
  pub before : List ℕ
  pub own : CodePlace → List ℕ
  pub parts : before ++ flat_map own (places_of program) ≡ range_with_len 0 (length code.lines)
  pub few_before : sum_by (words_at code) before ≤ MAX_START_WORDS
  pub few_own : (function : ℕ) → function < length program.functions
      → sum_by (λ (index : ℕ). sum_by (words_at code) (own (record { function = function; index = index })))
      (range_with_len 0 (length (routine_at program function).code))
      ≤ size (routine_at program function)
  pub few_words : all_words code.lines ≤ MAX_START_WORDS + sum_by size program.functions
  -- `base` is the address of the slots of `main`.
  pub base : ℕ
  pub placed : IsBelow program program.main base slots_end
  pub follows : (pages calls : ℕ) → AreAllowed pages calls → (store : StoreState) → IsNew pages store → (input : List ℕ) → AllByRecursion (λ b. b < 256) input
      → (addresses : ℕ → ℕ) → AreAddresses code addresses
      → NeverFails (plain.machine program pages calls) (plain.start program base store input)
      → Follows (plain.machine program pages calls) (labelled.machine code addresses) before own
      (plain.start program base store input) (labelled.start code store calls input)
