-- A program in which some functions are replaced.
use Rattle.std.specs.Prelude.{◌≡◌, ℕ, zero, suc, ◌+◌, ◌<◌, ◌≤◌, List, [], ◌∷◌, length, map, Option, Some, None, slice_index_or, max, sum_by}
use Rattle.cyc_plain.specs.declared.limits.TheConstants.{MOST_SIZE}
use Rattle.cyc_plain.specs.declared.program.Function.{Function}
use Rattle.cyc_plain.specs.inside.Program.{Routine, Program, routine_of, routine_at, size}
use Rattle.cyc_inline.specs.declared.inlining.Work.{Work}
use Rattle.cyc_inline.specs.declared.inlining.Work.TheVariants as works
use Rattle.cyc_inline.specs.declared.making.Made.{Made}
use Rattle.cyc_inline.specs.declared.origin.Origin.{Origin}
use Rattle.cyc_inline.specs.declared.replacing.Opened.{Opened}
use Rattle.cyc_inline.specs.inside.Opened.{origin_at}
use Rattle.cyc_inline.specs.inside.Emission.{AreLeafs, IsMade}

-- ---- the optional replacement of each function

abbrev pub first_of : {X : Type 0} → List (Option X) → Option X
first_of [] = None
first_of (x ∷ xs) = x

abbrev pub others : {X : Type 0} → List (Option X) → List (Option X)
others [] = []
others (x ∷ xs) = xs

abbrev pub change_at : List (Option Made) → ℕ → Option Made
change_at changes k = slice_index_or changes k None

-- ---- replaced functions and their origins

abbrev pub function_of : Function → Option Made → Function
function_of given (Some made) = made.function
function_of given None = given

abbrev pub note_of : Function → Option Made → Option Opened
note_of given (Some made) = Some (record { given = given; origins = made.origins })
note_of given None = None

abbrev pub replaced : List Function → List (Option Made) → List Function
replaced [] changes = []
replaced (f ∷ functions) changes = function_of f (first_of changes) ∷ replaced functions (others changes)

abbrev pub noted : List Function → List (Option Made) → List (Option Opened)
noted [] changes = []
noted (f ∷ functions) changes = note_of f (first_of changes) ∷ noted functions (others changes)

-- The function after its replacement, or the unchanged function if it has no replacement.
abbrev pub routine_made : Routine → Option Made → Routine
routine_made r (Some made) = routine_of made.function
routine_made r None = r

abbrev pub changed : List Routine → List (Option Made) → List Routine
changed [] changes = []
changed (r ∷ routines) changes = routine_made r (first_of changes) ∷ changed routines (others changes)

-- The list of the source instructions for `count` instructions of an unchanged function, from `index` on: each instruction is made
-- from itself.
abbrev pub own_origins : (number index count : ℕ) → List Origin
own_origins number index zero = []
own_origins number index (suc count) = origin_at number index ∷ own_origins number (suc index) count

-- The source instructions from which a function's replacement is made; for a function that is not replaced, its own `count` instructions.
abbrev pub origins_made : (number count : ℕ) → Option Made → List Origin
origins_made number count (Some made) = made.origins.items
origins_made number count None = own_origins number 0 count

abbrev pub all_origins : (number : ℕ) → List Routine → List (Option Made) → List (List Origin)
all_origins number [] changes = []
all_origins number (r ∷ routines) changes = origins_made number (length r.code) (first_of changes) ∷ all_origins (suc number) routines (others changes)

-- ---- how the replacement is made

-- Says that the requested change of a program is allowed: if calls are to be inlined, only leaf functions are to be inlined.
abbrev pub IsWork : Program → Work → Type 0
IsWork program (works.Calls leafs) = AreLeafs program leafs.now
IsWork program works.Duplicates = Unit {0}

-- Says that the replacement of the function with index `number`, if there is one, is correct.
abbrev pub IsMadeFor : Program → (number : ℕ) → Option Made → Type 0
IsMadeFor program number (Some made) = IsMade program number (routine_of made.function) made.origins.items
IsMadeFor program number None = Unit {0}

abbrev pub left_of : Option Made → (spare : ℕ) → ℕ
left_of (Some made) spare = made.spare
left_of None spare = spare

-- Says that the replacement of a function is valid, and that the functions after it may together still grow by `change.spare` words
-- of machine code.
pub record IsChange (program : Program) (number spare : ℕ) (change : Option Made) : Type 0 where
  pub made : IsMadeFor program number change
  pub fits : size (routine_made (routine_at program number) change) + left_of change spare ≤ size (routine_at program number) + spare

-- Says that the replacements of the first functions are correct, and that the program may still grow by `spare` words of machine code.
pub record AreBegun (program : Program) (room : ℕ) (changes : List (Option Made)) (spare : ℕ) : Type 0 where
  pub each : (k : ℕ) → k < length changes → IsMadeFor program k (change_at changes k)
  pub most : (sum_by size (changed program.functions changes) + spare ≤ max (sum_by size program.functions) room)
      × (sum_by size (changed program.functions changes) + spare ≤ MOST_SIZE)

-- ---- the origins reported for a function

-- For a replaced function: its source function, and the number of its instructions for which source instructions are reported.
pub record Note : Type 0 where
  pub given : Routine
  pub count : ℕ

abbrev pub note : Option Opened → Option Note
note (Some opened) = Some (record { given = routine_of opened.given; count = length opened.origins.items })
note None = None

abbrev pub notes_of : List (Option Opened) → List (Option Note)
notes_of opened = map note opened

-- Says that the function `s` is the source function `r`, or a replacement of `r` with one recorded source
-- instruction for each of its instructions.
abbrev pub IsReported : (r s : Routine) → Option Note → Type 0
IsReported r s (Some reported) = (reported.given ≡ r) × (reported.count ≡ length s.code)
IsReported r s None = s ≡ r

pub record AreReported (program inlined : Program) (notes : List (Option Note)) : Type 0 where
  pub as_many : length notes ≡ length program.functions
  pub each : (k : ℕ) → k < length program.functions → IsReported (routine_at program k) (routine_at inlined k) (slice_index_or notes k None)
