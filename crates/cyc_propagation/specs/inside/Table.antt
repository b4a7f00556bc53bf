-- Tables of the facts known at each position of a function's code, and the check of a table, instruction by instruction. The facts
-- stated for jump targets are untrusted: if the check succeeds for each instruction, the table is true in each run.
use Rattle.std.specs.Prelude.{◌≡◌, ℕ, zero, suc, ◌+◌, ◌<◌, ◌≤◌, Bool, true, false, ◌&&◌, ◌||◌, nat_lt, if◌then◌else◌, List, [], ◌∷◌, length, Option, Some, None, slice_get}
use Rattle.cyc_plain.specs.declared.instruction.Instruction.{Instruction}
use Rattle.cyc_plain.specs.declared.instruction.Instruction.TheVariants as instructions
use Rattle.cyc_plain.specs.declared.instruction.Comparison.TheVariants as comparisons
use Rattle.cyc_plain.specs.inside.Memory.{is_pinned}
use Rattle.cyc_plain.specs.inside.Program.{Routine, Program, routine_at, size}
use Rattle.cyc_plain.specs.inside.Uses.{At, leads}
use Rattle.cyc_propagation.specs.declared.fact.Fact.{Fact}
use Rattle.cyc_propagation.specs.declared.fact.Fact.TheVariants as facts_are
use Rattle.cyc_propagation.specs.inside.Facts.{Scene, AreTrueIn, IsMade, is_same_comparison, is_same_fact, is_known, never, is_unreached, is_free, are_suited, written, touched, kept, made, facts_after}
use Rattle.cyc_propagation.specs.inside.Replacement.{simplified_operand, word_in, put_at}

-- ---- tables

-- `ArePins` says that `pinned` is true for each slot of a function whose address is taken.
pub record ArePins (r : Routine) (pinned : List Bool) : Type 0 where
  pub as_many : length pinned ≡ r.slots
  pub right : (slot : ℕ) → is_free pinned slot ≡ true → is_pinned r.code slot ≡ false

-- `IsTable` describes the facts known at each position of a function's code. No fact is known at a function's
-- entry, nor at an exception handler, which exceptions can reach.
pub record IsTable (program : Program) (r : Routine) (pinned : List Bool) (table : ℕ → List Fact) : Type 0 where
  pub first : table 0 ≡ []
  pub tries : (index first handler : ℕ) → At r index (instructions.Try first handler) → table index ≡ []
  pub suited : (index : ℕ) → index < length r.code → are_suited pinned (table index) ≡ true
  pub edges : (index next : ℕ) (i : Instruction) → At r index i → leads i index next ≡ true
      → (scene : Scene) → AreTrueIn scene (kept (written program i) (touched pinned i) (table index)) → IsMade scene pinned i index next → AreTrueIn scene (table next)

-- `IsReplaced` says that each instruction of the second function is the replacement of that of the
-- first one, under the facts known at its position.
pub record IsReplaced (program : Program) (r s : Routine) : Type 0 where
  pub name : s.name ≡ r.name
  pub parameters : s.parameters ≡ r.parameters
  pub results : s.results ≡ r.results
  pub slots : s.slots ≡ r.slots
  pub frame_count : s.frame_count ≡ r.frame_count
  pub as_many : length s.code ≡ length r.code
  pub small : size s ≤ size r
  pub pinned : List Bool
  pub pins : ArePins r pinned
  pub table : ℕ → List Fact
  pub is_table : IsTable program s pinned table
  pub each : (index : ℕ) (i : Instruction) → At r index i → At s index (put_at (table index) index (length r.code) i)

-- `AreReplaced` relates the functions of two programs in order: each is replaced under the facts known at its positions.
pub record AreReplaced (program simplified : Program) : Type 0 where
  pub as_many : length simplified.functions ≡ length program.functions
  pub each : (k : ℕ) → k < length program.functions → IsReplaced program (routine_at program k) (routine_at simplified k)
  pub globals : simplified.globals ≡ program.globals
  pub main : simplified.main ≡ program.main

-- ---- a table given by its entries at jump targets

-- Returns true if control may continue at the next instruction.
abbrev pub goes_on : Instruction → Bool
goes_on (instructions.Jump target) = false
goes_on (instructions.Return value) = false
goes_on (instructions.Throw tag value) = false
goes_on (instructions.Finish value) = false
goes_on (instructions.Uncaught tag value) = false
goes_on i = true

-- Returns the facts known at the next position, if no jump has the next position as its target.
abbrev pub after_put : Program → List Bool → List Fact → Instruction → (index : ℕ) → List Fact
after_put program pinned facts i index = if goes_on i then facts_after program pinned facts i index (index + 1) else never ∷ []

-- Returns the facts known at a code position: those required there if it is a jump target, otherwise those known after the previous
-- instruction.
abbrev pub entered_or : Option (List Fact) → List Fact → List Fact
entered_or (Some facts) others = facts
entered_or None others = others

abbrev pub facts_after_place : Program → List Bool → List Fact → Option Instruction → (index count : ℕ) → List Fact
facts_after_place program pinned facts (Some i) index count = after_put program pinned facts (put_at facts index count i) index
facts_after_place program pinned facts None index count = []

abbrev pub facts_at : Program → List Bool → (entry : ℕ → Option (List Fact)) → List Instruction → (index : ℕ) → List Fact
facts_at program pinned entry code zero = []
facts_at program pinned entry code (suc index) =
    entered_or (entry (suc index))
    (facts_after_place program pinned (facts_at program pinned entry code index) (slice_get code index) index (length code))

-- ---- the check

-- Returns true if there is an additional fact, such as one that a branch establishes, and if it equals the fact that is looked up.
abbrev pub is_more : Option Fact → Fact → Bool
is_more (Some other) fact = is_same_fact other fact
is_more None fact = false

abbrev pub is_known_with : List Fact → Option Fact → Fact → Bool
is_known_with facts more fact = is_known facts fact || is_more more fact

-- Returns a comparison whose operands are replaced by operands known to be equal.
abbrev pub resolved_fact : List Fact → Fact → Fact
resolved_fact facts (facts_are.Holds comparison left right) =
    facts_are.Holds comparison (simplified_operand facts left) (simplified_operand facts right)
resolved_fact facts fact = fact

abbrev pub are_below : (left right : Option ℕ) → Bool
are_below (Some left) (Some right) = nat_lt left right
are_below left right = false

-- Returns true if a fact is a comparison `<` of two known words that holds.
abbrev pub is_below : List Fact → Fact → Bool
is_below facts (facts_are.Holds comparison left right) =
    is_same_comparison comparison comparisons.LessUnsigned && are_below (word_in facts left) (word_in facts right)
is_below facts fact = false

abbrev pub follows : List Fact → Option Fact → Fact → Bool
follows facts more fact =
    is_unreached facts || (is_known_with facts more fact || (is_known_with facts more (resolved_fact facts fact) || is_below facts fact))

abbrev pub are_known : (asked facts : List Fact) → Option Fact → Bool
are_known [] facts more = true
are_known (fact ∷ asked) facts more = follows facts more fact && are_known asked facts more

-- Returns true if each fact that a jump target requires is known at the jump, or is the fact that the jump itself establishes.
abbrev pub may_jump : Option (List Fact) → (facts : List Fact) → Option Fact → Bool
may_jump (Some asked) facts more = are_known asked facts more
may_jump None facts more = false

-- Returns true if the next position is no jump target, or if all facts required at the next position are known.
abbrev pub may_go_on : Option (List Fact) → (facts : List Fact) → Option Fact → Bool
may_go_on (Some asked) facts more = are_known asked facts more
may_go_on None facts more = true

abbrev pub is_entry_suited : List Bool → Option (List Fact) → Bool
is_entry_suited pinned (Some facts) = are_suited pinned facts
is_entry_suited pinned None = true

abbrev pub is_empty : List Fact → Bool
is_empty [] = true
is_empty (fact ∷ facts) = false

-- Returns true if each successor of the simplified instruction requires only facts that are known after this instruction. A jump and
-- a branch write nothing. An unreachable jump has no successor.
abbrev pub leads_well : Program → List Bool → (entry : ℕ → Option (List Fact)) → List Fact → Instruction → (index : ℕ) → Bool
leads_well program pinned entry facts (instructions.Jump target) index = is_unreached facts || may_jump (entry target) facts None
leads_well program pinned entry facts (instructions.Branch comparison left right target) index =
    may_jump (entry target) facts (made pinned (instructions.Branch comparison left right target) index target)
    && may_go_on (entry (index + 1)) (facts_after program pinned facts (instructions.Branch comparison left right target) index (index + 1)) None
leads_well program pinned entry facts (instructions.Try first handler) index =
    is_empty facts && (may_jump (entry handler) [] None && may_go_on (entry (index + 1)) [] None)
leads_well program pinned entry facts (instructions.Return value) index = true
leads_well program pinned entry facts (instructions.Throw tag value) index = true
leads_well program pinned entry facts (instructions.Finish value) index = true
leads_well program pinned entry facts (instructions.Uncaught tag value) index = true
leads_well program pinned entry facts i index =
    may_go_on (entry (index + 1)) (facts_after program pinned facts i index (index + 1)) None

abbrev pub is_checked_at : Program → List Bool → (entry : ℕ → Option (List Fact)) → List Fact → Instruction → (index : ℕ) → Bool
is_checked_at program pinned entry facts i index =
    is_entry_suited pinned (entry (index + 1)) && leads_well program pinned entry facts i index

-- `IsChecked` says that the check succeeds for each instruction of a function.
abbrev pub IsChecked : Program → Routine → List Bool → (entry : ℕ → Option (List Fact)) → Type 0
IsChecked program r pinned entry = (index : ℕ) (i : Instruction) → At r index i
    → is_checked_at program pinned entry (facts_at program pinned entry r.code index)
    (put_at (facts_at program pinned entry r.code index) index (length r.code) i) index
    ≡ true
