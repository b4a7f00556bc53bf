-- The code that the crate emits for an inlined call: an in-line part in the place of the call, and an out-of-line part after the caller's
-- code.
use Rattle.std.specs.Prelude.{ℕ, suc, ◌+◌, ◌==◌, nat_lt, nat_le, if◌then◌else◌, Bool, true, false, List, [], ◌∷◌, ◌++◌, replicate, Option, Some, None, slice_index_or}
use Rattle.cyc_plain.specs.declared.instruction.Instruction.{Instruction}
use Rattle.cyc_plain.specs.declared.instruction.Instruction.TheVariants as instructions
use Rattle.cyc_inline.specs.declared.origin.Origin.{Origin}
use Rattle.cyc_inline.specs.declared.site.Call.{Call}
use Rattle.cyc_inline.specs.declared.site.Site.{Site}
use Rattle.cyc_inline.specs.inside.Opened.{moved, passing, is_end, origin_at}

-- Returns the call if an instruction is a call chosen for inlining; `line` (more than 0) counts the callee's
-- instructions placed at the call.
abbrev pub chosen_call : Instruction → (line : ℕ) → Option Call
chosen_call (instructions.Call callee arguments count result) line =
    if line == 0
    then None
    else Some (record { callee = callee; arguments = arguments; count = count; result = result; line = line })
chosen_call instruction line = None

-- The code position of an instruction, from a table of positions.
abbrev pub place_in : List ℕ → (index : ℕ) → ℕ
place_in places index = slice_index_or places index 0

-- Returns true if the callee's instruction at `index` is placed at the call, or, if `in_line` is false, after the caller's code.
abbrev pub stands_in : (in_line : Bool) → (line index : ℕ) → Bool
stands_in true line index = nat_lt index line
stands_in false line index = nat_le line index

-- ---- an instruction of the callee

-- The jump after an inlined return; no jump is needed if the return is the last of the callee's instructions placed at the call.
abbrev pub way_following : (is_last : Bool) → (following : ℕ) → List Instruction
way_following true following = []
way_following false following = instructions.Jump following ∷ []

abbrev pub way_count : (is_last : Bool) → ℕ
way_count true = 0
way_count false = 1

-- The replacement of a callee's instruction: the instruction with its slots shifted; for a return, moves of the results and the jump
-- after the call.
abbrev pub inside_part : Site → (place : ℕ → ℕ) → (index : ℕ) → Instruction → Option ℕ → List Instruction
inside_part site place index i (Some value) =
    passing site.call.result (site.shift + value) site.results ++ way_following (index + 1 == site.call.line) site.following
inside_part site place index i None = moved site.shift place i ∷ []

-- The number of instructions in the replacement of a callee's instruction.
abbrev pub inside_count : (results line index : ℕ) → Option ℕ → ℕ
inside_count results line index (Some value) = results + way_count (index + 1 == line)
inside_count results line index None = 1

-- The number of instructions that a callee's instruction contributes to the part placed at the call, or to the part
-- after the caller's code.
abbrev pub count_in : (results line : ℕ) → (in_line : Bool) → (index : ℕ) → Option ℕ → ℕ
count_in results line in_line index end = if stands_in in_line line index then inside_count results line index end else 0

-- ---- the callee's code from an index on, in line or out of line

abbrev pub inside_code : Site → (place : ℕ → ℕ) → (in_line : Bool) → (index : ℕ) → List Instruction → List Instruction
inside_code site place in_line index [] = []
inside_code site place in_line index (i ∷ code) =
    (if stands_in in_line site.call.line index then inside_part site place index i (is_end i) else [])
    ++ inside_code site place in_line (suc index) code

abbrev pub inside_origins : (callee results line : ℕ) → (in_line : Bool) → (index : ℕ) → List Instruction → List Origin
inside_origins callee results line in_line index [] = []
inside_origins callee results line in_line index (i ∷ code) =
    replicate (count_in results line in_line index (is_end i)) (origin_at callee index) ++ inside_origins callee results line in_line (suc index) code

abbrev pub inside_size : (results line : ℕ) → (in_line : Bool) → (index : ℕ) → List Instruction → ℕ
inside_size results line in_line index [] = 0
inside_size results line in_line index (i ∷ code) = count_in results line in_line index (is_end i) + inside_size results line in_line (suc index) code

-- The code positions of the callee's instructions. The next free position is `here` in the code at the call, and `there` in the code after
-- the caller's code.
abbrev pub inside_places : (results line index here there : ℕ) → List Instruction → List ℕ
inside_places results line index here there [] = []
inside_places results line index here there (i ∷ code) =
    (if nat_lt index line then here else there)
    ∷ inside_places results line (suc index) (here + count_in results line true index (is_end i)) (there + count_in results line false index (is_end i)) code

-- ---- an inlined call

abbrev pub places_inside : Site → (here : ℕ) → List Instruction → (index : ℕ) → ℕ
places_inside site here code = place_in (inside_places site.results site.call.line 0 (here + site.call.count + 1) site.rest code)

-- The code that replaces an inlined call: moves of the arguments, the check of stack space, and those of the callee's instructions that
-- are placed at the call.
abbrev pub site_code : Site → (in_line : Bool) → (here : ℕ) → List Instruction → List Instruction
site_code site true here code =
    passing site.shift site.call.arguments site.call.count ++ instructions.Enter site.call.callee ∷ inside_code site (places_inside site here code) true 0 code
site_code site false here code = inside_code site (places_inside site here code) false 0 code

abbrev pub site_origins : Call → (results : ℕ) → (in_line : Bool) → Origin → List Instruction → List Origin
site_origins call results true origin code = replicate call.count origin ++ origin ∷ inside_origins call.callee results call.line true 0 code
site_origins call results false origin code = inside_origins call.callee results call.line false 0 code

abbrev pub site_size : Call → (results : ℕ) → (in_line : Bool) → List Instruction → ℕ
site_size call results true code = call.count + 1 + inside_size results call.line true 0 code
site_size call results false code = inside_size results call.line false 0 code
