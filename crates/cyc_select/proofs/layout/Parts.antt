-- Each emitted MIPS line is a line of the start code, or is assigned to exactly one instruction of the plain program.
use Rattle.std.proofs.Common.{◌≡◌, ℕ, zero, suc, ◌+◌, ◌-◌, ◌<◌, ◌≤◌, true, false, List, [], ◌∷◌, ◌++◌, length, map, take, Option, Some, slice_get, refl, sym, ap, subst, ◌∙◌, arith, length-append}
use Rattle.std.specs.Prelude.{slice_index_or, flat_map, IsSomeAnd}
use Rattle.std.specs.List.{range_with_len}
use Rattle.std.proofs.lemmas.Grind.{flat_map-append}
use Rattle.cyc_words.proofs.Lists.{slice_get_below, take_whole}
use Rattle.cyc_words.proofs.Ranges.{range_append}
use Rattle.cyc_plain.specs.declared.instruction.Instruction.{Instruction}
use Rattle.cyc_plain.specs.declared.instruction.Instruction.TheVariants as plain
use Rattle.cyc_plain.specs.inside.Program.{Routine, Program, CodePlace, no_routine, routine_at, places_from, places_of}
use Rattle.cyc_plain.specs.inside.WellFormed.{IsWellFormed, leaves}
use Rattle.cyc_plain.proofs.Placed.{routine_in, has_code}
use Rattle.cyc_frame.specs.inside.Frame.{Frame}
use Rattle.cyc_select.specs.declared.constants.TheConstants.{START_LINES}
use Rattle.cyc_select.specs.inside.Counts.{after_count, place_count, code_count, function_count, functions_count, function_line, instruction_line}
use Rattle.cyc_select.specs.inside.Selection.{start_lines, function_lines, select_of}
use Rattle.cyc_select.proofs.layout.Inside.{few_results}
use Rattle.cyc_select.proofs.layout.Lines.{line_next, line_first}
use Rattle.cyc_select.proofs.layout.OwnLines.{after_of, previous_count, body_of, own_of, previous_fits}
use Rattle.cyc_select.proofs.layout.Structure.{length_functions}

leaving_counts_none : (program : Program) (frames : List Frame) (function : ℕ) (i : Instruction) → leaves i ≡ true → after_count program frames function i ≡ 0
leaving_counts_none program frames function (plain.Call callee arguments count result) last = absurd (let e : false ≡ true = last in cc)
leaving_counts_none program frames function (plain.Move destination source) last = refl
leaving_counts_none program frames function (plain.Unary operator destination operand) last = refl
leaving_counts_none program frames function (plain.Binary operator destination left right) last = refl
leaving_counts_none program frames function (plain.Jump target) last = refl
leaving_counts_none program frames function (plain.Branch comparison left right target) last = refl
leaving_counts_none program frames function (plain.Return value) last = refl
leaving_counts_none program frames function (plain.ReadByte destination) last = refl
leaving_counts_none program frames function (plain.WriteByte source) last = refl
leaving_counts_none program frames function (plain.AddressOf destination slot count) last = refl
leaving_counts_none program frames function (plain.LoadGlobal destination global) last = refl
leaving_counts_none program frames function (plain.StoreGlobal global source) last = refl
leaving_counts_none program frames function (plain.MoveWords destination source count) last = refl
leaving_counts_none program frames function (plain.Load destination address offset) last = refl
leaving_counts_none program frames function (plain.Store address offset source) last = refl
leaving_counts_none program frames function (plain.LoadByte destination address offset) last = refl
leaving_counts_none program frames function (plain.StoreByte address offset source) last = refl
leaving_counts_none program frames function (plain.Ask request) last = refl
leaving_counts_none program frames function (plain.CountLexical destination) last = refl
leaving_counts_none program frames function (plain.Try first handler) last = refl
leaving_counts_none program frames function (plain.Leave first) last = refl
leaving_counts_none program frames function (plain.Throw tag value) last = refl
leaving_counts_none program frames function (plain.Finish value) last = refl
leaving_counts_none program frames function (plain.Uncaught tag value) last = refl
leaving_counts_none program frames function (plain.Enter callee) last = refl

some_last_leaves : (r : Routine) (i : Instruction) → IsSomeAnd (slice_get r.code (length r.code - 1)) (λ j. leaves j ≡ true) → slice_get r.code (length r.code - 1) ≡ Some i → leaves i ≡ true
some_last_leaves r i last at = subst (λ (o : Option Instruction). IsSomeAnd o (λ j. leaves j ≡ true)) at last

functions_parts_next : (program : Program) (frames : List Frame) (first : ℕ) (routines : List Routine) (k : ℕ) → k < length routines
    → functions_count program frames first (take (suc k) routines) ≡ functions_count program frames first (take k routines) + function_count program frames (first + k) (slice_index_or routines k no_routine)
functions_parts_next program frames first [] k below = absurd (omega arith)
functions_parts_next program frames first (r ∷ routines) zero below =
    let same : first ≡ first + 0 = omega arith in
    let e : function_count program frames first r ≡ function_count program frames (first + 0) r = ap (λ (f : ℕ). function_count program frames f r) same in
    omega (arith, e)
functions_parts_next program frames first (r ∷ routines) (suc k) below =
    let rest = functions_parts_next program frames (suc first) routines k (omega arith) in
    let same : suc first + k ≡ first + suc k = omega arith in
    omega (arith, rest, ap (λ (f : ℕ). function_count program frames f (slice_index_or routines k no_routine)) same)

abbrev pub place_in : ℕ → ℕ → CodePlace
place_in function index = record { function = function; index = index }

module _ (program : Program) (well : IsWellFormed program) (frames : List Frame) where
  -- Returns the number of the line that follows the last MIPS line of a function.
  abbrev end_of : ℕ → ℕ
  end_of function = function_line program frames function + function_count program frames function (routine_at program function)

  abbrev first_of : (function index : ℕ) → ℕ
  first_of function index = instruction_line program frames function index - previous_count program frames function (routine_at program function).code index

  last_line : (function : ℕ) → instruction_line program frames function (length (routine_at program function).code) ≡ end_of function
  last_line function = omega (arith, ap (code_count program frames function 0) (take_whole (routine_at program function).code))

  last_previous : (function : ℕ) → function < length program.functions → (k : ℕ) → k ≡ length (routine_at program function).code → previous_count program frames function (routine_at program function).code k ≡ 0
  last_previous function known zero is = absurd (omega (arith, is, has_code program (routine_at program function) (routine_in program function well known)))
  last_previous function known (suc k) is =
      let routine = routine_in program function well known in
      let (i, at) = slice_get_below (routine_at program function).code k (omega (arith, is)) in
      let last : length (routine_at program function).code - 1 ≡ k = omega (arith, is) in
      ap (after_of program frames function) at ∙ leaving_counts_none program frames function i (some_last_leaves (routine_at program function) i routine.last (ap (slice_get (routine_at program function).code) last ∙ at))

  own_from : (function : ℕ) → function < length program.functions → (k n : ℕ) → k + n ≡ length (routine_at program function).code
      → flat_map (own_of program frames) (map (place_in function) (range_with_len k n)) ≡ range_with_len (first_of function k) (end_of function - first_of function k)
  own_from function known k zero long =
      let at_end : k ≡ length (routine_at program function).code = omega (arith, long) in
      let previous = last_previous function known k at_end in
      let line : instruction_line program frames function k ≡ end_of function = ap (instruction_line program frames function) at_end ∙ last_line function in
      let none : end_of function - first_of function k ≡ 0 = omega (arith, previous, line) in
      ap (range_with_len (first_of function k)) (sym none)
  own_from function known k (suc n) long =
      let (i, at) = slice_get_below (routine_at program function).code k (omega (arith, long)) in
      let next = line_next program frames function k i at in
      let fits = previous_fits program frames function k in
      let one : k + 1 ≡ suc k = omega arith in
      let previous : previous_count program frames function (routine_at program function).code (k + 1) ≡ after_count program frames function i = ap (previous_count program frames function (routine_at program function).code) one ∙ ap (after_of program frames function) at in
      let own_body : body_of program frames function k (slice_get (routine_at program function).code k) ≡ place_count program frames function k i = ap (body_of program frames function k) at in
      let from : first_of function (k + 1) ≡ first_of function k + (previous_count program frames function (routine_at program function).code k + body_of program frames function k (slice_get (routine_at program function).code k)) = omega (arith, next, fits, previous, own_body) in
      let end = first_before function known (k + 1) n (omega (arith, long)) in
      let whole : (previous_count program frames function (routine_at program function).code k + body_of program frames function k (slice_get (routine_at program function).code k)) + (end_of function - first_of function (k + 1)) ≡ end_of function - first_of function k = omega (arith, from, end) in
      ap (λ (l : List ℕ). own_of program frames (place_in function k) ++ l) (own_from function known (k + 1) n (omega (arith, long)))
      ∙ (ap (λ (x : ℕ). own_of program frames (place_in function k) ++ range_with_len x (end_of function - first_of function (k + 1))) from
      ∙ (range_append (first_of function k) (previous_count program frames function (routine_at program function).code k + body_of program frames function k (slice_get (routine_at program function).code k)) (end_of function - first_of function (k + 1))
      ∙ ap (range_with_len (first_of function k)) whole))
    where
      first_before : (function : ℕ) → function < length program.functions → (k n : ℕ) → k + n ≡ length (routine_at program function).code → first_of function k ≤ end_of function
      first_before function known k zero long =
          let at_end : k ≡ length (routine_at program function).code = omega (arith, long) in
          omega (arith, ap (instruction_line program frames function) at_end, last_line function)
      first_before function known k (suc n) long =
          let (i, at) = slice_get_below (routine_at program function).code k (omega (arith, long)) in
          let next = line_next program frames function k i at in
          let one : k + 1 ≡ suc k = omega arith in
          let previous : previous_count program frames function (routine_at program function).code (k + 1) ≡ after_count program frames function i = ap (previous_count program frames function (routine_at program function).code) one ∙ ap (after_of program frames function) at in
          omega (arith, next, previous, first_before function known (k + 1) n (omega (arith, long)))

  -- The MIPS lines of a function are those assigned to the instructions of its plain code.
  pub own_function : (function : ℕ) → function < length program.functions
      → flat_map (own_of program frames) (map (place_in function) (range_with_len 0 (length (routine_at program function).code))) ≡ range_with_len (function_line program frames function) (function_count program frames function (routine_at program function))
  own_function function known =
      let first = line_first program frames function in
      let from : first_of function 0 ≡ function_line program frames function = omega (arith, first) in
      let long : end_of function - first_of function 0 ≡ function_count program frames function (routine_at program function) = omega (arith, first) in
      own_from function known 0 (length (routine_at program function).code) (omega arith)
      ∙ (ap (λ (x : ℕ). range_with_len x (end_of function - first_of function 0)) from ∙ ap (range_with_len (function_line program frames function)) long)

  own_functions : (first : ℕ) (routines : List Routine) → first + length routines ≡ length program.functions → ((k : ℕ) → k < length routines → slice_index_or routines k no_routine ≡ routine_at program (first + k))
      → flat_map (own_of program frames) (places_from first routines) ≡ range_with_len (function_line program frames first) (functions_count program frames first routines)
  own_functions first [] long same = refl
  own_functions first (r ∷ routines) long same =
      let known : first < length program.functions = omega (arith, long) in
      let here : first + 0 ≡ first = omega arith in
      let is : r ≡ routine_at program first = same 0 (omega arith) ∙ ap (routine_at program) here in
      let one : functions_count program frames 0 (take (suc first) program.functions) ≡ functions_count program frames 0 (take first program.functions) + function_count program frames (0 + first) (routine_at program first) = functions_parts_next program frames 0 program.functions first known in
      let zero_first : 0 + first ≡ first = omega arith in
      let next : function_line program frames (suc first) ≡ function_line program frames first + function_count program frames first r = omega (arith, one, ap (λ (f : ℕ). function_count program frames f (routine_at program first)) zero_first, ap (function_count program frames first) is) in
      flat_map-append (own_of program frames) (map (place_in first) (range_with_len 0 (length r.code))) (places_from (suc first) routines)
      ∙ (ap (λ (s : Routine). flat_map (own_of program frames) (map (place_in first) (range_with_len 0 (length s.code))) ++ flat_map (own_of program frames) (places_from (suc first) routines)) is
      ∙ (ap (λ (l : List ℕ). l ++ flat_map (own_of program frames) (places_from (suc first) routines)) (own_function first known)
      ∙ (ap (λ (s : Routine). range_with_len (function_line program frames first) (function_count program frames first s) ++ flat_map (own_of program frames) (places_from (suc first) routines)) (sym is)
      ∙ (ap (λ (l : List ℕ). range_with_len (function_line program frames first) (function_count program frames first r) ++ l)
      (own_functions (suc first) routines (omega (arith, long)) (λ k below. let e : first + suc k ≡ suc first + k = omega arith in same (suc k) (omega (arith, below)) ∙ ap (routine_at program) e))
      ∙ (ap (λ (x : ℕ). range_with_len (function_line program frames first) (function_count program frames first r) ++ range_with_len x (functions_count program frames (suc first) routines)) next
      ∙ range_append (function_line program frames first) (function_count program frames first r) (functions_count program frames (suc first) routines))))))

  pub parts : range_with_len 0 START_LINES ++ flat_map (own_of program frames) (places_of program) ≡ range_with_len 0 (length (select_of program frames).lines)
  parts =
      let none : function_line program frames 0 ≡ START_LINES = omega arith in
      let total = length-append (start_lines program frames) (function_lines program frames 0 START_LINES program.functions) in
      let long = length_functions program frames (few_results program well) 0 START_LINES program.functions in
      let all : START_LINES + functions_count program frames 0 program.functions ≡ length (select_of program frames).lines = omega (arith, total, long) in
      let same : (k : ℕ) → k < length program.functions → slice_index_or program.functions k no_routine ≡ routine_at program (0 + k) =
      λ k below. let e : k ≡ 0 + k = omega arith in ap (routine_at program) e in
      ap (λ (l : List ℕ). range_with_len 0 START_LINES ++ l) (own_functions 0 program.functions (omega arith) same)
      ∙ (ap (λ (x : ℕ). range_with_len 0 START_LINES ++ range_with_len x (functions_count program frames 0 program.functions)) none
      ∙ (range_append 0 START_LINES (functions_count program frames 0 program.functions) ∙ ap (range_with_len 0) all))
