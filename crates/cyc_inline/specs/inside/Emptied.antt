-- A program in which each unreachable function keeps only a return instruction.
use Rattle.std.specs.Prelude.{◌≡◌, ℕ, suc, ◌<◌, Bool, true, false, if◌then◌else◌, List, [], ◌∷◌, length, Option, Some, None, slice_get, slice_index_or}
use Rattle.cyc_plain.specs.declared.instruction.Instruction.{Instruction}
use Rattle.cyc_plain.specs.declared.instruction.Instruction.TheVariants as instructions
use Rattle.cyc_plain.specs.inside.Program.{Routine, Program, routine_at}
use Rattle.cyc_plain.specs.inside.Straight.{At}
use Rattle.cyc_inline.specs.declared.inlining.Inlined.{Inlined}
use Rattle.cyc_inline.specs.inside.Changes.{Note, first_of, others, AreReported, notes_of}

-- Returns true if the function with index k is marked as reached.
abbrev pub is_reached : List Bool → ℕ → Bool
is_reached reached k = slice_index_or reached k false

-- Says that the function that an instruction calls, if it calls one, is marked as reached.
abbrev pub LeadsTo : List Bool → Instruction → Type 0
LeadsTo reached (instructions.Call function arguments count result) = is_reached reached function ≡ true
LeadsTo reached i = Unit {0}

-- Says that the function that an instruction calls, if it calls one, has an index below `count`.
abbrev pub LeadsBelow : (count : ℕ) → Instruction → Type 0
LeadsBelow count (instructions.Call function arguments count_of_arguments result) = function < count
LeadsBelow count i = Unit {0}

-- Says that each function marked as reached in `old` is also marked in `new`.
abbrev pub StayReached : (old new : List Bool) → Type 0
StayReached old new = (length new ≡ length old) × ((k : ℕ) → is_reached old k ≡ true → is_reached new k ≡ true)

-- Says that `main` is marked as reached, and so is every function that a reached function calls.
pub record AreReached (program : Program) (reached : List Bool) : Type 0 where
  pub main : is_reached reached program.main ≡ true
  pub calls : (k : ℕ) → is_reached reached k ≡ true → (p : ℕ) (i : Instruction) → At (routine_at program k).code p i → LeadsTo reached i

-- Returns true if executing the instruction returns from its function.
abbrev pub returns : Instruction → Bool
returns (instructions.Return value) = true
returns (instructions.Finish value) = true
returns instruction = false

-- The index of the first return in a code, or the code's length if it contains no return.
abbrev pub first_return : List Instruction → ℕ
first_return [] = 0
first_return (i ∷ code) = if returns i then 0 else suc (first_return code)

-- The only instruction that an unreachable function keeps: its first return. A function without a return keeps all of its code.
abbrev pub stub_of : Bool → List Instruction → Option Instruction
stub_of true code = None
stub_of false code = slice_get code (first_return code)

abbrev pub routine_with : Option Instruction → Routine → Routine
routine_with (Some i) r = record r { code = i ∷ [] }
routine_with None r = r

abbrev pub routine_kept : Bool → Routine → Routine
routine_kept b r = routine_with (stub_of b r.code) r

abbrev pub first_flag : List Bool → Bool
first_flag [] = false
first_flag (b ∷ bs) = b

abbrev pub other_flags : List Bool → List Bool
other_flags [] = []
other_flags (b ∷ bs) = bs

abbrev pub routines_kept : List Routine → List Bool → List Routine
routines_kept [] reached = []
routines_kept (r ∷ routines) reached = routine_kept (first_flag reached) r ∷ routines_kept routines (other_flags reached)

abbrev pub emptied : Program → (reached : List Bool) → Program
emptied program reached = record program { functions = routines_kept program.functions reached }

-- The record on a function of whose code only one instruction remains: its source function, and the
-- number 1 of instructions whose source is reported.
abbrev pub note_with : Option Instruction → Routine → Option Note → Option Note
note_with (Some i) r (Some note) = Some (record { given = note.given; count = 1 })
note_with (Some i) r None = Some (record { given = r; count = 1 })
note_with None r note = note

abbrev pub note_kept : Bool → Routine → Option Note → Option Note
note_kept b r note = note_with (stub_of b r.code) r note

abbrev pub notes_kept : List Routine → List (Option Note) → List Bool → List (Option Note)
notes_kept [] notes reached = []
notes_kept (r ∷ routines) notes reached = note_kept (first_flag reached) r (first_of notes) ∷ notes_kept routines (others notes) (other_flags reached)

-- Says that a program is the source program without the code of unreachable functions, and that the recorded source instructions
-- are correct.
pub record IsEmptied (given made : Inlined) : Type 0 where
  pub reached : List Bool
  pub are : AreReached given.plain reached
  pub is : made.plain ≡ emptied given.plain reached
  pub reported : (program : Program) → length given.plain.functions ≡ length program.functions → AreReported program given.plain (notes_of given.opened.items) → AreReported program made.plain (notes_of made.opened.items)
