-- The start code calls `main`, so each run of the whole code follows a run of the plain program.
use Rattle.std.proofs.Common.{◌≡◌, ℕ, zero, suc, ◌+◌, ◌-◌, ◌*◌, ◌%◌, ◌^◌, ◌<◌, ◌≤◌, Bool, true, false, List, [], ◌∷◌, ◌++◌, length, replicate, Some, refl, sym, ap, subst, ◌∙◌, arith, inl, inr, length-append}
use Rattle.std.specs.Prelude.{All, slice_index, slice_set, slice_index_or, unwrap_or, Option, None, ◌==◌, if◌then◌else◌}
use Rattle.std.specs.List.{AllByRecursion, range_with_len}
use Rattle.std.proofs.lemmas.Bool.{cases_lt, cases_eq}
use Rattle.std.proofs.lemmas.List.{get_or-set_same, get_or-set_other, get_or_append_left, get_or-append_right, get_or_past, length-replicate}
use Rattle.cyc_select.specs.declared.constants.TheConstants.{FRAME, FRAME_SHIFT, LOWEST, START_LINES, GLOBALS, GLOBALS_MIDDLE}
use Rattle.cyc_machine_model.specs.declared.constants.TheConstants.{RETURN_ADDRESS}
use Rattle.cyc_words.specs.Word.{IsWord, shl_of, sub_of}
use Rattle.cyc_isa.specs.declared.instr.ArithmeticOp.TheVariants as arithmetic
use Rattle.cyc_isa.specs.declared.instr.Instr.{Instr}
use Rattle.cyc_isa.specs.declared.instr.ShiftOp.TheVariants as shift
use Rattle.cyc_store.specs.State as stores
use Rattle.cyc_store.specs.State.{StoreState, Holder, homes, holder, word_at, IsNew}
use Rattle.cyc_store.proofs.NewStores.{new_words}
use Rattle.cyc_machine_model.specs.Bounds.{AreAllowed}
use Rattle.cyc_machine_model.specs.State.{Place, InText, InGlobals, InStack, InStore, Nowhere, loaded, place_of, data_base, stack_base, stack_end, word_number, globals_length, words_per_call}
use Rattle.cyc_plain.specs.declared.instruction.Instruction.{Instruction}
use Rattle.cyc_plain.specs.inside.Memory.{IsBelow, slots_end}
use Rattle.cyc_plain.specs.inside.Program.{Program, routine_at}
use Rattle.cyc_words.specs.Simulation.{NeverFails}
use Rattle.cyc_words.specs.inside.Following.{Comes, Follows, IsOnTheWay}
use Rattle.cyc_plain.specs.inside.State.{Words, AreWords, Configuration}
use Rattle.cyc_plain.specs.inside.Step as steps
use Rattle.cyc_plain.specs.inside.Step.{instruction_at}
use Rattle.cyc_plain.specs.inside.WellFormed.{IsWellFormed, HasWords}
use Rattle.cyc_plain.proofs.WordLaws.{bytes_are_words}
use Rattle.cyc_words.proofs.SeenLemmas.{seen_same}
use Rattle.cyc_words.proofs.Matching.{way_before}
use Rattle.cyc_words.proofs.Simulation.{simulates}
use Rattle.cyc_words.proofs.Items.{slice_index_zeros}
use Rattle.cyc_frame.specs.inside.Layout.{AreFrames, frame_at}
use Rattle.cyc_frame.specs.inside.Frame.{Frame}
use Rattle.cyc_select.specs.declared.code.Line.TheVariants as lines
use Rattle.cyc_select.specs.inside.Labelled.{Labelled, IsFormed, AreAddresses}
use Rattle.cyc_select.specs.inside.Machine as labelled
use Rattle.cyc_select.specs.inside.Machine.{State, Running, machine, memory_of, word_in, globals_of, start}
use Rattle.cyc_select.specs.inside.Instructions.{slot_offset, arithmetic_of, shift_by_of, load_upper, or_lower}
use Rattle.cyc_select.specs.inside.Slots.{push_frame, saving_code}
use Rattle.cyc_select.specs.inside.Counts.{body_count, function_line, instruction_line}
use Rattle.cyc_select.specs.inside.Selection.{body, following, place_lines, ordinary, start_lines}
use Rattle.cyc_select.proofs.relation.Arriving.{came_in}
use Rattle.cyc_select.proofs.relation.Cells.{cell, place_of-data, place_of-stack}
use Rattle.cyc_select.proofs.Laws.{code_is_lawful}
use Rattle.cyc_select.proofs.values.Operations.{take_small}
use Rattle.cyc_select.proofs.effects.Views.{Contents, View}
use Rattle.cyc_select.proofs.effects.Sequences.{Stands, stands_front, stands_back, Rises, comes_map, after_r}
use Rattle.cyc_select.proofs.effects.Walks.{Quiet, Walk, Now, walk_end, walk_few, walk_block, walk_jump}
use Rattle.cyc_select.proofs.relation.Waiting.{left_past, preserved_of, frame_size, slots_fit}
use Rattle.cyc_select.proofs.relation.Standing.{entering, Standing}
use Rattle.cyc_select.proofs.relation.Stores.{new_laid, new_counted}
use Rattle.cyc_select.proofs.relation.Matches.{Matches}
use Rattle.cyc_select.proofs.runs.Runs.{matching, all_steps}
use Rattle.cyc_select.proofs.layout.OwnLines.{own_of}

-- ---- ascending places fill their range

rising_few : (lo hi : ℕ) (places : List ℕ) → Rises lo hi places → lo + length places ≤ hi
rising_few lo hi [] rises = omega arith
rising_few lo hi (p ∷ places) (first, rest) = omega (arith, first, rising_few (suc p) hi places rest)

rising_all : (lo n : ℕ) (places : List ℕ) → Rises lo (lo + n) places → n ≤ length places → places ≡ range_with_len lo n
rising_all lo zero [] rises enough = refl
rising_all lo zero (p ∷ places) (first, rest) enough = absurd (omega (arith, first, rising_few (suc p) (lo + 0) places rest))
rising_all lo (suc n) [] rises enough = absurd (omega (arith, enough))
rising_all lo (suc n) (p ∷ places) (first, rest) enough =
    let same : p ≡ lo = omega (arith, first, enough, rising_few (suc p) (lo + suc n) places rest) in
    let from : suc p ≡ lo + 1 = omega (arith, same) in
    let to : lo + suc n ≡ lo + 1 + n = omega arith in
    let moved : Rises (lo + 1) (lo + 1 + n) places = subst (λ (a : ℕ). Rises a (lo + 1 + n) places) from (subst (λ (b : ℕ). Rises (suc p) b places) to rest) in
    ap (λ (x : ℕ). x ∷ places) same ∙ ap (λ (l : List ℕ). lo ∷ l) (rising_all (lo + 1) n places moved (omega (arith, enough)))

-- ---- words in the initial state

set_words : (xs : List ℕ) (i v : ℕ) → ((n : ℕ) → IsWord (slice_index xs n)) → IsWord v → i < length xs → (n : ℕ) → IsWord (slice_index (slice_set xs i v) n)
set_words xs i v all one below n = elim (cases_eq n i) [
  | inl same ↦ subst IsWord (sym (ap (slice_index (slice_set xs i v)) same ∙ get_or-set_same xs i v 0 below)) one
  | inr other ↦ subst IsWord (sym (get_or-set_other xs i n v 0 other)) (all n)
]

zero_or : (b : Bool) (x : ℕ) → IsWord x → IsWord (if b then 0 else x)
zero_or true x one = omega arith
zero_or false x one = one

all_words : (xs : List ℕ) → All IsWord xs → (n : ℕ) → IsWord (slice_index xs n)
all_words xs all n = elim (cases_lt n (length xs)) [
  | inl below ↦ all n 0 below
  | inr past ↦ subst IsWord (sym (get_or_past xs n 0 past)) (let e : 0 < 2 ^ 32 = omega arith in e)
]

-- If all words in the store are machine words, each word read from it is a machine word.
live_word : (s : StoreState) → stores.AreWords s.memory → (a : ℕ) → IsWord (unwrap_or (word_at s a) 0)
live_word s words a = found (a % 4 == 0) (holder (homes s) a)
  where
    found : (aligned : Bool) (h : Option Holder) → IsWord (unwrap_or (if aligned then stores.word_in h s.memory a else None) 0)
    found false h = omega arith
    found true None = omega arith
    found true (Some h) = words a

globals_hold : (globals : List ℕ) (n : ℕ) → slice_index (globals_of globals) n ≡ slice_index globals n
unfolding globals_of
globals_hold globals n = elim (cases_lt n (length globals)) [
  | inl below ↦ get_or_append_left globals (replicate (globals_length - length globals) 0) 0 n below
  | inr past ↦
      get_or-append_right globals (replicate (globals_length - length globals) 0) (length globals) n 0 refl past
      ∙ (slice_index_zeros (globals_length - length globals) (n - length globals) ∙ sym (get_or_past globals n 0 past))
]

globals_of_long : (globals : List ℕ) → length globals ≤ globals_length → length (globals_of globals) ≡ globals_length
unfolding globals_of
globals_of_long globals few =
    length-append globals (replicate (globals_length - length globals) 0)
    ∙ (ap (λ (n : ℕ). length globals + n) (length-replicate (globals_length - length globals) 0) ∙ (let e : length globals + (globals_length - length globals) ≡ globals_length = omega (arith, few) in e))

-- Returns the address of the slots of `main`.
abbrev pub main_place : Program → List Frame → ℕ
main_place program frames = stack_end - frame_size + 4 * (frame_at frames program.main).first_slot

pub main_below : (program : Program) → IsWellFormed program → (frames : List Frame) → AreFrames program frames → IsBelow program program.main (main_place program frames) slots_end
main_below program well frames fit =
    let fits = slots_fit (routine_at program program.main) (frame_at frames program.main) (fit.each program.main well.main) in
    record {
      aligned = omega arith;
      low = omega arith;
      high = omega (arith, fits);
    }

module _ (program : Program) (well : IsWellFormed program) (words : HasWords program) (frames : List Frame) (fit : AreFrames program frames) (code : Labelled) (formed : IsFormed code) (addresses : ℕ → ℕ) (lie : AreAddresses code addresses)
    (pages calls : ℕ) (allowed : AreAllowed pages calls)
    (stand : (function index : ℕ) (i : Instruction) → instruction_at program (record { function = function; index = index }) ≡ Some i
    → Stands code (instruction_line program frames function index) (place_lines program frames function index (instruction_line program frames function index) i ++ following program frames function i))
    (stand_saving : (function : ℕ) → function < length program.functions → Stands code (function_line program frames function) (ordinary (saving_code (frame_at frames function))))
    (long : (function line : ℕ) (i : Instruction) → length (body program frames function line i) ≡ body_count program frames function i)
    (starts : Stands code 0 (start_lines program frames)) (same_globals : code.globals ≡ program.globals)
    (store : StoreState) (new : IsNew pages store) (input : List ℕ) (bytes : AllByRecursion (λ b. b < 256) input) where
  abbrev few : calls ≤ 4096
  few = allowed.few_calls

  abbrev stack_words : ℕ
  stack_words = words_per_call * calls

  abbrev globals : List ℕ
  globals = globals_of code.globals

  abbrev stack : List ℕ
  stack = replicate (words_per_call * calls) 0

  abbrev run : labelled.Configuration
  run = record {
    registers = slice_set (slice_set (replicate 32 0) 4 calls) FRAME stack_end;
    high = 0;
    low = 0;
    globals = globals_of code.globals;
    stack = replicate (words_per_call * calls) 0;
    store = store;
    output = [];
    input = input;
    line = 0;
  }

  abbrev r : Words
  r = word_in run

  abbrev w : Contents
  w = record { words = cell (memory_of run); store = store }

  few_globals : length code.globals ≤ globals_length
  few_globals = subst (λ (l : List ℕ). length l ≤ globals_length) (sym same_globals) well.globals

  long_globals : length (globals_of code.globals) ≡ globals_length
  long_globals = globals_of_long code.globals few_globals

  long_stack : length (replicate (words_per_call * calls) (zero)) ≡ words_per_call * calls
  long_stack = length-replicate (words_per_call * calls) 0

  global_is : (n : ℕ) → slice_index (globals_of code.globals) n ≡ slice_index program.globals n
  global_is n = globals_hold code.globals n ∙ ap (λ (l : List ℕ). slice_index l n) same_globals

  is_word_at : (place : Place) → IsWord (loaded (memory_of run) place)
  is_word_at (InText n) = no_text n
    where
      no_text : (n : ℕ) → IsWord (unwrap_or (slice_index_or (let none : List (Option ℕ) = [] in none) n None) 0)
      no_text n = omega arith
  is_word_at (InGlobals n) = subst IsWord (sym (global_is n)) (all_words program.globals words.globals n)
  is_word_at (InStack n) = subst IsWord (sym (slice_index_zeros (words_per_call * calls) n)) (let e : 0 < 2 ^ 32 = omega arith in e)
  is_word_at (InStore a) = live_word store (new_words pages store new) a
  is_word_at Nowhere = omega arith

  words_w : AreWords w.words
  words_w a = is_word_at (place_of (memory_of run) a)

  listed : (n : ℕ) → IsWord (slice_index (slice_set (slice_set (replicate 32 0) 4 calls) FRAME stack_end) n)
  listed =
      set_words (slice_set (replicate 32 0) 4 calls) FRAME stack_end
      (set_words (replicate 32 0) 4 calls (λ n. subst IsWord (sym (slice_index_zeros 32 n)) (let e : 0 < 2 ^ 32 = omega arith in e)) (omega (arith, few)) (omega arith))
      (omega arith) (omega arith)

  words_r : AreWords r
  words_r n = zero_or (n == 0) (slice_index (slice_set (slice_set (replicate 32 0) 4 calls) FRAME stack_end) n) (listed n)

  view : View globals_length (words_per_call * calls) run r w
  view = record {
    wide = refl;
    data_words = long_globals;
    stack_words = long_stack;
    few_globals = omega arith;
    few_stack = omega (arith, few);
    reg = λ n below. refl;
    high = refl;
    low = refl;
    mem = λ a at. refl;
    store = refl;
  }

  now : Now code formed addresses globals_length (words_per_call * calls) 0 [] input r w run
  now = record { view = view; r_words = words_r; w_words = words_w; at_line = refl; output = refl; input = refl }

  -- Initially each word of the stack is zero, and the data range holds the initial words of the globals.
  stack_zero : (a : ℕ) → a % 4 ≡ 0 → stack_end - 4 * (words_per_call * calls) ≤ a → a < stack_end → w.words a ≡ 0
  stack_zero a aligned from below =
      ap (loaded (memory_of run)) (place_of-stack (globals_of code.globals) (replicate (words_per_call * calls) 0) store a (omega (arith, long_globals)) (omega (arith, long_stack, few)) (aligned, (omega (arith, from, long_stack)), below))
      ∙ slice_index_zeros (words_per_call * calls) (word_number (stack_base (replicate (words_per_call * calls) 0)) a)

  global_word : (global : ℕ) → global < length program.globals → w.words (data_base + 4 * global) ≡ slice_index program.globals global
  global_word global below =
      ap (loaded (memory_of run)) (place_of-data (globals_of code.globals) (replicate (words_per_call * calls) 0) store (data_base + 4 * global) ((omega arith), (omega arith), (omega (arith, below, well.globals, long_globals))))
      ∙ (global_is (word_number data_base (data_base + 4 * global))
      ∙ ap (slice_index program.globals) (let e : word_number data_base (data_base + 4 * global) ≡ global = omega arith in e))

  -- ---- the call of `main`

  abbrev frame : Frame
  frame = frame_at frames program.main

  abbrev first : List Instr
  first =
      load_upper GLOBALS GLOBALS_MIDDLE
      ∷ or_lower GLOBALS GLOBALS_MIDDLE
      ∷ shift_by_of shift.Left LOWEST 4 FRAME_SHIFT
      ∷ arithmetic_of arithmetic.SubtractUnsigned LOWEST FRAME LOWEST
      ∷ push_frame
      ∷ []

  abbrev q : Words
  q = after_r first r w

  abbrev base : ℕ
  base = stack_end - frame_size

  lowest_is : q LOWEST + frame_size * calls ≡ stack_end
  lowest_is = let e : sub_of stack_end (shl_of calls 10) + frame_size * calls ≡ stack_end = omega (arith, few) in e

  base_is : q FRAME ≡ base
  base_is = take_small stack_end frame_size (omega arith) (omega arith) (omega arith) (omega arith)

  abbrev c : Configuration
  c = record {
    active = record { function = program.main; next = 0; base = base + 4 * frame.first_slot; slots = λ (slot : ℕ). 0; handlers = [] };
    frames = [];
    globals = λ (global : ℕ). slice_index program.globals global;
    store = store;
    output = [];
    input = input;
  }

  standing : Standing program frames addresses pages calls c q w base (q RETURN_ADDRESS) entering c.active.slots
  standing = record {
    known = well.main;
    base_is = base_is;
    zero_is = refl;
    lowest = lowest_is;
    deep = allowed.enough_calls;
    holds = λ slot below slot_kept.
        let own = fit.each program.main well.main in
        stack_zero (base + slot_offset frame slot) (omega arith) (omega (arith, allowed.enough_calls)) (omega (arith, own.inside slot below, own.small));
    left = preserved_of q;
    chain = ((omega arith), refl, refl);
    leaves = λ j high. left_past frame.first_saved 0 base (preserved_of q) w j (omega arith);
    newest = refl;
    way = refl;
    based = refl;
    globals = global_word;
    input = bytes_are_words input bytes;
    store = refl;
    laid = new_laid pages store new (omega (arith, allowed.enough_pages)) allowed.few_pages;
    counted = sym (new_counted pages store new);
    middle = refl;
  }

  first_walk : Walk code formed addresses globals_length (words_per_call * calls) START_LINES 0 START_LINES [] (λ (t : State). ⊥) (Matches program well frames fit code formed addresses pages calls few (steps.start program (main_place program frames) store input)) (Running run)
  first_walk =
      walk_few code formed addresses globals_length (words_per_call * calls) START_LINES (5 + 1) 0 START_LINES [] _ (Running run) (omega arith)
      (walk_block code formed addresses globals_length (words_per_call * calls) first 1 0 0 START_LINES [] input _ r w run now
      (stands_front code 0 (ordinary first) (lines.Jump (function_line program frames program.main) ∷ []) starts) (refl, (refl, (refl, (refl, (refl, tt))))) (omega arith)
      (λ d later.
      walk_jump code formed addresses globals_length (words_per_call * calls) 0 (0 + 5) (0 + 5) START_LINES [] input _ q w d (function_line program frames program.main) later
      (stands_back code 0 (ordinary first) (lines.Jump (function_line program frames program.main) ∷ []) starts).0 (omega arith)
      (λ e jumped.
      walk_end code formed addresses globals_length (words_per_call * calls) (suc (0 + 5)) START_LINES [] _ (Running e) (omega arith)
      (inr (inr (inr (inl (record {
        run = e;
        r = q;
        w = w;
        base = base;
        is = refl;
        first = refl;
        now = jumped;
        standing = standing;
        came = λ slot k comes wanted.
            absurd (let parameters = well.main_parameters in let has = (came_in (frame_at frames program.main) slot k comes).0 in omega (arith, parameters, (fit.homes program.main well.main).entry slot k has wanted));
        there = λ slot below kept. absurd (let parameters = well.main_parameters in omega (arith, parameters, below));
      }))))))))

  pub follows : NeverFails (steps.machine program pages calls) (steps.start program (main_place program frames) store input)
      → Follows (steps.machine program pages calls) (machine code addresses) (range_with_len 0 START_LINES) (own_of program frames) (steps.start program (main_place program frames) store input) (start code store calls input)
  follows never =
      let above = steps.machine program pages calls in
      let below_machine = machine code addresses in
      let m = matching program well words frames fit code formed addresses lie pages calls few stand stand_saving long in
      let places_are : first_walk.places ≡ range_with_len 0 START_LINES = rising_all 0 START_LINES first_walk.places first_walk.rises first_walk.enough in
      let comes = comes_map below_machine (Quiet code formed addresses globals_length (words_per_call * calls) [] input (λ (t : State). ⊥)) (Matches program well frames fit code formed addresses pages calls few (steps.start program (main_place program frames) store input))
      (IsOnTheWay above below_machine (steps.start program (main_place program frames) store input)) (Matches program well frames fit code formed addresses pages calls few (steps.start program (main_place program frames) store input)) first_walk.places (Running run)
      on_the_way (λ u matches. matches) first_walk.comes in
      simulates above below_machine m (all_steps program well words frames fit code formed addresses lie pages calls few stand stand_saving long) (code_is_lawful code addresses) (range_with_len 0 START_LINES) (steps.start program (main_place program frames) store input) never (Running run) refl
      (subst (λ (ps : List ℕ). Comes below_machine (IsOnTheWay above below_machine (steps.start program (main_place program frames) store input)) (Matches program well frames fit code formed addresses pages calls few (steps.start program (main_place program frames) store input)) ps (Running run)) places_are comes)
    where
      on_the_way : (u : State) → Quiet code formed addresses globals_length (words_per_call * calls) [] input (λ (t : State). ⊥) u
          → IsOnTheWay (steps.machine program pages calls) (machine code addresses) (steps.start program (main_place program frames) store input) u
      on_the_way u (inl (running, output, left)) =
          way_before (steps.machine program pages calls) (machine code addresses) (matching program well words frames fit code formed addresses lie pages calls few stand stand_saving long)
          (steps.start program (main_place program frames) store input) u running (seen_same (labelled.output_of u) [] (labelled.input_of u) input output left)
      on_the_way u (inr late) = absurd late
