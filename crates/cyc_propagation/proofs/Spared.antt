-- A program without its redundant checks for stack space is a plain program and not larger, and each of its runs is a run of
-- the original program.
use Rattle.std.proofs.Common.{◌≡◌, ℕ, suc, ◌+◌, ◌-◌, ◌*◌, ◌<◌, ◌≤◌, Bool, true, false, ◌&&◌, List, [], ◌∷◌, length, Option, Some, None, slice_get, refl, sym, ap, subst, ◌∙◌, arith, inl, inr}
use Rattle.std.specs.Prelude.{All, IsSomeAnd, sum_by, nat_le, nat_lt, if◌then◌else◌}
use Rattle.std.proofs.lemmas.Bool.{cases_lt, cond_both, cond-true, and_parts, le-leb, leb-true, lt-ltb, ltb-false}
use Rattle.std.proofs.lemmas.List.{get_or_past}
use Rattle.std.proofs.lemmas.Option.{slice_get_past, slice_get-get_or, get_or_from_slice_get}
use Rattle.cyc_words.specs.Ending.{Full}
use Rattle.cyc_words.specs.Simulation.{NeverFails}
use Rattle.cyc_words.specs.inside.Following.{Matching, Steps, Follows}
use Rattle.cyc_words.proofs.Simulation.{running_ended, running_failed, simulates, in_a_row, follows-never_fails}
use Rattle.cyc_words.proofs.Matching.{by_one}
use Rattle.cyc_words.proofs.Lists.{slice_get_below}
use Rattle.cyc_words.proofs.Members.{All_by_number, All_at}
use Rattle.cyc_words.proofs.Sums.{sum_by-at_most_each}
use Rattle.cyc_words.proofs.Items.{below_from_slice_get}
use Rattle.cyc_store.specs.State.{StoreState}
use Rattle.cyc_store.specs.Services.{Call}
use Rattle.cyc_plain.specs.declared.instruction.Instruction.{Instruction}
use Rattle.cyc_plain.specs.declared.instruction.Instruction.TheVariants as instructions
use Rattle.cyc_plain.specs.declared.instruction.Operand.{Operand}
use Rattle.cyc_plain.specs.declared.instruction.Operand.TheVariants as operands
use Rattle.cyc_plain.specs.inside.Requests.{first_operand, second_operand}
use Rattle.cyc_plain.specs.inside.Memory.{slots_base, pins}
use Rattle.cyc_plain.specs.inside.Program.{Routine, Program, CodePlace, no_routine, routine_at, instruction_size, size}
use Rattle.cyc_plain.specs.inside.State.{Configuration, State, Running, Ended, Stuck, output_of, input_of, seen_of, status_of, place_of, demand, depth}
use Rattle.cyc_plain.specs.inside.Step.{Choice, IsAllowed, MayLie, MayServe, advanced, call_of, callee_of, called, executed, instruction_at, step, limit_of, limit_at, limited, limited_step, Step, start, machine}
use Rattle.cyc_plain.specs.inside.WellFormed.{IsOperand, IsArgument, IsInRange, IsRoutine, is_return, leaves, HasWord, IsPlain}
use Rattle.cyc_plain.specs.declared.limits.TheConstants.{MOST_GLOBALS}
use Rattle.cyc_words.specs.Word.{IsWord}
use Rattle.cyc_plain.proofs.Placed.{goes_after}
use Rattle.cyc_plain.proofs.RunLaws.{lawful, limited_either}
use Rattle.cyc_propagation.specs.inside.Entries.{with_code}
use Rattle.cyc_propagation.specs.inside.Room.{slots_in, HasRoom, IsRoomTable, nothing_at, spared_instruction, IsSparedCode, IsSpared, AreSpared}
use Rattle.cyc_propagation.specs.inside.Simplified.{IsLike, IsSimplified}
use Rattle.cyc_propagation.proofs.Alike.{pinned_alike, DoAlike, either_performs}
use Rattle.cyc_propagation.proofs.Rooms.{HaveRoom, room_less, room_after_it}

-- ---- one instruction

-- If an instruction has a property, and a jump to the next instruction has it, then so has the replacement, which is one
-- of these two instructions.
spared_either : (P : Instruction → Type 0) (slots : ℕ → ℕ) (room index : ℕ) (i : Instruction) → P i → ((function : ℕ) → i ≡ instructions.Enter function → P (nothing_at index))
    → P (spared_instruction slots room index i)
spared_either P slots room index (instructions.Enter function) has nothing =
    cond_both (nat_lt room (suc (slots function))) (instructions.Enter function) (nothing_at index) P (λ asks. has) (λ known. nothing function refl)
spared_either P slots room index i has nothing = has

-- If no stack space is known to be available at an instruction, dropping redundant checks for stack space leaves the instruction unchanged.
unspared_instruction : (slots : ℕ → ℕ) (index : ℕ) (i : Instruction) → spared_instruction slots 0 index i ≡ i
unspared_instruction slots index (instructions.Enter function) =
    cond-true (nat_lt 0 (suc (slots function))) (instructions.Enter function) (nothing_at index) (lt-ltb 0 (suc (slots function)) (omega arith))
unspared_instruction slots index i = refl

-- Unchanged code satisfies `IsSparedCode`, the condition on code without redundant checks for stack space.
pub code_unspared : (slots : ℕ → ℕ) (code : List Instruction) → IsSparedCode slots code code
code_unspared slots code = record {
  as_many = refl;
  rooms = λ index. 0;
  table = record { first = refl; edges = λ index next i at led. omega arith };
  each = λ index i at. at ∙ ap Some (sym (unspared_instruction slots index i));
}

-- ---- the functions

pub each_spared : (program spared : Program) → AreSpared program spared → (k : ℕ) → IsSpared (slots_in program) (routine_at program k) (routine_at spared k)
each_spared program spared are k = elim (cases_lt k (length program.functions)) [
  | inl below ↦ are.each k below
  | inr past ↦
      let none : no_routine ≡ routine_at program k = sym (get_or_past program.functions k no_routine past) in
      let no_other : no_routine ≡ routine_at spared k = sym (get_or_past spared.functions k no_routine (let l = are.as_many in omega (arith, past, l))) in
      subst (λ (s : Routine). IsSpared (slots_in program) (routine_at program k) s) no_other
      (subst (λ (r : Routine). IsSpared (slots_in program) r no_routine) none
      (record { same = refl; code = code_unspared (slots_in program) [] }))
]

module _ (program spared : Program) (are : AreSpared program spared) where
  abbrev spared_at : (k : ℕ) → IsSpared (slots_in program) (routine_at program k) (routine_at spared k)
  spared_at k = each_spared program spared are k

  abbrev rooms_in : (function index : ℕ) → ℕ
  rooms_in function = (spared_at function).code.rooms

  abbrev tables_in : (function : ℕ) → IsRoomTable (slots_in program) (routine_at program function).code (rooms_in function)
  tables_in function = (spared_at function).code.table

  abbrev Rooms : (calls : ℕ) → State → Type 0
  Rooms calls = HaveRoom program rooms_in tables_in calls

  programs_alike : DoAlike program spared
  programs_alike = record {
    results = λ function. ap (λ (r : Routine). r.results) (spared_at function).same;
    pinned = λ function slot.
        pinned_alike slot (routine_at program function).code (routine_at spared function).code (spared_at function).code.as_many
        (λ index i at. (
          spared_instruction (slots_in program) (rooms_in function index) index i,
          (spared_at function).code.each index i at,
          spared_either (λ (j : Instruction). pins j slot ≡ pins i slot) (slots_in program) (rooms_in function index) index i refl (λ callee is. ap (λ (j : Instruction). pins j slot) (sym is)),
        ));
    globals = are.globals;
  }

  -- ---- one step

  module _ (pages calls : ℕ) (choice : Choice) (c : Configuration) (has : HaveRoom program rooms_in tables_in calls (Running c)) (allowed : IsAllowed spared (Running c) choice) where
    abbrev stands : CodePlace
    stands = place_of (Running c)

    -- `IsStepOf` says that some nondeterministic choice that the original program allows leads it in one step to the given state.
    record IsStepOf (next : State) : Type 0 where
      pub other : Choice
      pub may : IsAllowed program (Running c) other
      pub is : next ≡ limited_step program pages calls other (Running c)

    executed_alike : (o : Option Instruction) → executed spared choice c o ≡ executed program choice c o
    executed_alike None = refl
    executed_alike (Some i) = either_performs program spared programs_alike choice c i

    lies_alike : (base : ℕ) (o : Option ℕ) → MayLie spared base o (Running c) → MayLie program base o (Running c)
    lies_alike base None may = may
    lies_alike base (Some function) may = record {
      aligned = may.aligned;
      low = may.low;
      high = subst (λ (n : ℕ). base + 4 * n ≤ c.active.base) (ap (λ (r : Routine). r.slots) (spared_at function).same) may.high;
    }

    -- Where the original program and the one with dropped stack checks have equal instructions, each step of the latter is a step of the
    -- former.
    by_itself : instruction_at spared stands ≡ instruction_at program stands → IsStepOf (limited_step spared pages calls choice (Running c))
    by_itself same = record {
      other = choice;
      may = record {
        contents = allowed.contents;
        lies = lies_alike choice.base (called program (Running c)) (subst (λ (o : Option ℕ). MayLie spared choice.base o (Running c)) (ap callee_of same) allowed.lies);
        serves = subst (λ (o : Option Call). MayServe choice.serving o (Running c)) (ap (call_of c.active.slots) same) allowed.serves;
      };
      is =
          ap (λ (o : Option Instruction). limited pages (limit_of o calls) (Running c) (executed spared choice c o)) same
          ∙ ap (limited pages (limit_at program (Running c) calls) (Running c)) (executed_alike (instruction_at program stands));
    }

    -- A step of the jump that replaces a redundant check for stack space has the result of the check.
    by_nothing : (function : ℕ) → instruction_at program stands ≡ Some (instructions.Enter function) → instruction_at spared stands ≡ Some (nothing_at c.active.next)
        → HasRoom calls (suc (slots_in program function)) c.active.base (suc (length c.frames)) → IsStepOf (limited_step spared pages calls choice (Running c))
    by_nothing function at there (low, few) =
        let new : State = Running (advanced c) in
        let fits : nat_le (depth new) calls ≡ nat_le (depth new) (calls - 1) =
        le-leb (depth new) calls (omega (arith, few)) ∙ sym (le-leb (depth new) (calls - 1) (omega (arith, few))) in
        record {
          other = record choice { base = slots_base };
          may = record {
            contents = allowed.contents;
            lies = subst (λ (o : Option Instruction). MayLie program slots_base (callee_of o) (Running c)) (sym at) (record { aligned = refl; low = omega arith; high = low });
            serves = subst (λ (o : Option Instruction). MayServe choice.serving (call_of c.active.slots o) (Running c)) (sym at) tt;
          };
          is =
              ap (λ (o : Option Instruction). limited pages (limit_of o calls) (Running c) (executed spared choice c o)) there
              ∙ ap (λ (b : Bool). if nat_le (demand new) pages && b then new else Ended Full (output_of (Running c)) (input_of (Running c))) fits
              ∙ ap (λ (o : Option Instruction). limited pages (limit_of o calls) (Running c) (executed program (record choice { base = slots_base }) c o)) (sym at);
        }

    -- `AreThere` says that, at the position executed next, the program with dropped checks has the replacement of the original instruction,
    -- or both have none.
    abbrev AreThere : Option Instruction → Option Instruction → Type 0
    AreThere (Some i) other = other ≡ Some (spared_instruction (slots_in program) (rooms_in c.active.function c.active.next) c.active.next i)
    AreThere None other = other ≡ None

    are_there : (o : Option Instruction) → instruction_at program stands ≡ o → AreThere o (instruction_at spared stands)
    are_there (Some i) at = (spared_at c.active.function).code.each c.active.next i at
    are_there None at = slice_get_past (routine_at spared c.active.function).code c.active.next past
      where
        past : length (routine_at spared c.active.function).code ≤ c.active.next
        past = elim (cases_lt c.active.next (length (routine_at program c.active.function).code)) [
          | inl below ↦
              let (i, there) = slice_get_below (routine_at program c.active.function).code c.active.next below in
              absurd (let e : None ≡ Some i = sym at ∙ there in cc)
          | inr end ↦ (let l = (spared_at c.active.function).code.as_many in omega (arith, end, l))
        ]

    step_of : (o : Option Instruction) → instruction_at program stands ≡ o → AreThere o (instruction_at spared stands) → IsStepOf (limited_step spared pages calls choice (Running c))
    step_of (Some (instructions.Enter function)) at there =
        go (nat_lt (rooms_in c.active.function c.active.next) (suc (slots_in program function))) refl there
      where
        go : (b : Bool) → nat_lt (rooms_in c.active.function c.active.next) (suc (slots_in program function)) ≡ b
            → instruction_at spared stands ≡ Some (if b then instructions.Enter function else nothing_at c.active.next) → IsStepOf (limited_step spared pages calls choice (Running c))
        go true more there = by_itself (there ∙ sym at)
        go false known there =
            by_nothing function at there
            (room_less calls (rooms_in c.active.function c.active.next) (suc (slots_in program function)) c.active.base (suc (length c.frames))
            (ltb-false (rooms_in c.active.function c.active.next) (suc (slots_in program function)) known) has.0.0)
    step_of (Some i) at there = by_itself (there ∙ sym at)
    step_of None at there = by_itself (there ∙ sym at)

    -- The facts about stack space are true after each step of the original program.
    room_executed : (other : Choice) → IsAllowed program (Running c) other → (o : Option Instruction) → instruction_at program stands ≡ o
        → depth (executed program other c o) ≤ limit_of o calls → Rooms calls (executed program other c o)
    room_executed other may None at within = tt
    room_executed other may (Some i) at within =
        room_after_it program rooms_in tables_in calls other c has.0.0 has.0.1 has.1 i at
        (subst (λ (o : Option Instruction). MayLie program other.base (callee_of o) (Running c)) at may.lies) within

    room_stepped : (other : Choice) → IsAllowed program (Running c) other → Rooms calls (limited_step program pages calls other (Running c))
    room_stepped other may =
        limited_either (Rooms calls) pages (limit_at program (Running c) calls) (Running c) (step program other (Running c))
        (λ within.
        let new : State = step program other (Running c) in
        let (paged, some) = and_parts (nat_le (demand new) pages) (nat_le (depth new) (limit_at program (Running c) calls)) within in
        room_executed other may (instruction_at program stands) refl (leb-true (depth new) (limit_at program (Running c) calls) some)) tt

  -- ---- runs

  abbrev Matched : (calls : ℕ) → State → State → Type 0
  Matched calls s t = (t ≡ s) × Rooms calls s

  abbrev match : (pages calls : ℕ) → Matching (machine program pages calls) (machine spared pages calls)
  match pages calls = record {
    Matches = Matched calls;
    weight = λ s. 0;
    own = λ place. place ∷ [];
    alike = λ s t matches. ap seen_of matches.0;
    endings = λ s t ending matches ended. ap status_of matches.0 ∙ ended;
  }

  spared_steps : (pages calls : ℕ) (c : Configuration) (u : State) → Rooms calls (Running c) → Step spared pages calls (Running c) u
      → (next : State) × Step program pages calls (Running c) next × Matched calls next u
  spared_steps pages calls c u has (choice, allowed, is) =
      let one = step_of pages calls choice c has allowed (instruction_at program (place_of (Running c))) refl (are_there pages calls choice c has allowed (instruction_at program (place_of (Running c))) refl) in
      (limited_step program pages calls one.other (Running c), (one.other, one.may, refl), (is ∙ one.is, room_stepped pages calls choice c has allowed one.other one.may))

  all_matched : (pages calls : ℕ) → Steps (machine program pages calls) (machine spared pages calls) (match pages calls)
  all_matched pages calls (Running c) t (is, has) running fine =
      by_one (machine program pages calls) (machine spared pages calls) (match pages calls) (Running c) t (is, has) (ap status_of is) (0, (omega arith), sym (ap place_of is))
      (λ u step. spared_steps pages calls c u has (subst (λ s. Step spared pages calls s u) is step))
  all_matched pages calls (Ended ending output input) t matches running fine = absurd (running_ended ending (sym running))
  all_matched pages calls (Stuck output input) t matches running fine = absurd (running_failed (sym running))

  start_alike : (base : ℕ) (store : StoreState) (input : List ℕ) → start spared base store input ≡ start program base store input
  start_alike base store input = λ i. start (record program { main = are.main i; globals = are.globals i }) base store input

  spared_follows : (pages calls base : ℕ) (store : StoreState) (input : List ℕ) → NeverFails (machine program pages calls) (start program base store input)
      → Follows (machine program pages calls) (machine spared pages calls) [] (λ place. place ∷ []) (start program base store input) (start spared base store input)
  spared_follows pages calls base store input never =
      simulates (machine program pages calls) (machine spared pages calls) (match pages calls) (all_matched pages calls) (lawful spared pages calls) [] (start program base store input) never
      (start spared base store input) refl
      (start_alike base store input, ((subst (λ (room : ℕ). HasRoom calls room base 1) (sym (tables_in program.main).first) tt, tt), tt))

  -- ---- a plain program

  module _ (r s : Routine) (is : IsSpared (slots_in program) r s) where
    abbrev made : Routine
    made = with_code r s.code

    -- `IsSparedOf` says that the instruction `j` is the replacement of the original function's instruction at `index`.
    record IsSparedOf (index : ℕ) (j : Instruction) : Type 0 where
      pub instruction : Instruction
      pub at : slice_get r.code index ≡ Some instruction
      pub stands : j ≡ spared_instruction (slots_in program) (is.code.rooms index) index instruction

    spared_of : (index : ℕ) (j : Instruction) → slice_get s.code index ≡ Some j → IsSparedOf index j
    spared_of index j at =
        let (i, there) = slice_get_below r.code index (omega (arith, below_from_slice_get s.code index j at, is.code.as_many)) in
        record {
          instruction = i;
          at = there;
          stands = (let e : Some j ≡ Some (spared_instruction (slots_in program) (is.code.rooms index) index i) = sym at ∙ is.code.each index i there in cc);
        }

    -- If each instruction has a property, and each jump to the next instruction has it, then all instructions of the new code have it.
    all_spared : (P Q : Instruction → Type 0) → ((i : Instruction) → P i → Q i) → ((index : ℕ) (function : ℕ) → slice_get r.code index ≡ Some (instructions.Enter function) → Q (nothing_at index))
        → All P r.code → All Q s.code
    all_spared P Q each nothing all = All_by_number Q s.code (λ index j at.
        let one = spared_of index j at in
        subst Q (sym one.stands)
        (spared_either Q (slots_in program) (is.code.rooms index) index one.instruction (each one.instruction (All_at P r.code index one.instruction all one.at))
        (λ function entering. nothing index function (one.at ∙ ap Some entering))))

    in_spared : (target : ℕ) → target < length r.code → target < length s.code
    in_spared target below = omega (arith, below, is.code.as_many)

    still_operand : (o : Operand) → IsOperand r o → IsOperand (with_code r s.code) o
    still_operand (operands.Slot number) there = there
    still_operand (operands.Word word) there = tt

    still_argument : (o : Option Operand) → IsArgument r o → IsArgument (with_code r s.code) o
    still_argument (Some operand) there = still_operand operand there
    still_argument None there = tt

    spared_in_range : (i : Instruction) → IsInRange program r i → IsInRange spared (with_code r s.code) i
    spared_in_range (instructions.Move destination source) (first, second) = (first, still_operand source second)
    spared_in_range (instructions.MoveWords destination source count) range =
        record { some = range.some; few = range.few; destination_in_range = range.destination_in_range; source_in_range = range.source_in_range }
    spared_in_range (instructions.Unary operator destination operand) (first, second) = (first, still_operand operand second)
    spared_in_range (instructions.Binary operator destination left right) (first, second, third) = (first, still_operand left second, still_operand right third)
    spared_in_range (instructions.Jump target) range = in_spared target range
    spared_in_range (instructions.Branch comparison left right target) (first, second, third) = (still_operand left first, still_operand right second, in_spared target third)
    spared_in_range (instructions.Call function arguments count result) range =
        let same = (spared_at function).same in
        record {
          function_in_range = omega (arith, range.function_in_range, are.as_many);
          takes = range.takes ∙ sym (ap (λ (t : Routine). t.parameters) same);
          arguments_in_range = range.arguments_in_range;
          result_in_range = omega (arith, range.result_in_range, ap (λ (t : Routine). t.results) same);
        }
    spared_in_range (instructions.WriteByte source) range = still_operand source range
    spared_in_range (instructions.LoadGlobal destination global) (first, second) = (first, subst (λ (l : List ℕ). global < length l) (sym are.globals) second)
    spared_in_range (instructions.StoreGlobal global source) (first, second) = (subst (λ (l : List ℕ). global < length l) (sym are.globals) first, still_operand source second)
    spared_in_range (instructions.Load destination address offset) (first, second) = (first, still_operand address second)
    spared_in_range (instructions.Store address offset source) (first, second) = (still_operand address first, still_operand source second)
    spared_in_range (instructions.LoadByte destination address offset) (first, second) = (first, still_operand address second)
    spared_in_range (instructions.StoreByte address offset source) (first, second) = (still_operand address first, still_operand source second)
    spared_in_range (instructions.Ask request) range = record {
      answer_in_range = range.answer_in_range;
      first_in_range = still_argument (first_operand request) range.first_in_range;
      second_in_range = still_argument (second_operand request) range.second_in_range;
    }
    spared_in_range (instructions.Try first handler) range = record {
      record_in_range = range.record_in_range;
      handler_in_range = in_spared handler range.handler_in_range;
      no_return = all_spared (λ i. is_return i ≡ false) (λ i. is_return i ≡ false) (λ i none. none) (λ index function at. refl) range.no_return;
    }
    spared_in_range (instructions.Throw tag value) (first, second) = (still_operand tag first, still_operand value second)
    spared_in_range (instructions.Uncaught tag value) range = still_operand value range
    spared_in_range (instructions.Enter function) range = omega (arith, range, are.as_many)
    spared_in_range i range = range

    spared_last : (o : Option Instruction) → slice_get r.code (length r.code - 1) ≡ o → IsSomeAnd o (λ i. leaves i ≡ true) → IsSomeAnd (slice_get s.code (length s.code - 1)) (λ i. leaves i ≡ true)
    spared_last None at none = absurd none
    spared_last (Some i) at leaving =
        let index : ℕ = length r.code - 1 in
        let same : index ≡ length s.code - 1 = omega (arith, is.code.as_many) in
        let stays : spared_instruction (slots_in program) (is.code.rooms index) index i ≡ i =
        spared_either (λ (j : Instruction). j ≡ i) (slots_in program) (is.code.rooms index) index i refl
        (λ function entering. absurd (let e : false ≡ true = sym (ap leaves entering) ∙ leaving in cc)) in
        subst (λ (o : Option Instruction). IsSomeAnd o (λ j. leaves j ≡ true)) (sym (subst (λ (k : ℕ). slice_get s.code k ≡ Some i) same (is.code.each index i at ∙ ap Some stays))) leaving

    spared_routine : IsRoutine program r → IsRoutine spared s
    spared_routine routine = subst (IsRoutine spared) (sym is.same) (record {
      parameters = routine.parameters;
      results = routine.results;
      frame = routine.frame;
      instructions = all_spared (IsInRange program r) (IsInRange spared (with_code r s.code)) spared_in_range
          (λ index function at. in_spared (index + 1) (goes_after program r index (instructions.Enter function) routine at refl)) routine.instructions;
      last = spared_last (slice_get r.code (length r.code - 1)) refl routine.last;
    })

    spared_words : All HasWord r.code → All HasWord s.code
    spared_words all = all_spared HasWord HasWord (λ i has. has) (λ index function at. tt) all

    spared_smaller : size s ≤ size r
    spared_smaller = sum_by-at_most_each instruction_size r.code s.code is.code.as_many (λ k i at. (
      spared_instruction (slots_in program) (is.code.rooms k) k i,
      is.code.each k i at,
      spared_either (λ (j : Instruction). instruction_size j ≤ instruction_size i) (slots_in program) (is.code.rooms k) k i (omega arith)
          (λ function entering. subst (λ (j : Instruction). instruction_size (nothing_at k) ≤ instruction_size j) (sym entering) (omega arith)),
    ))

-- ---- the whole program

module _ (program spared : Program) (are : AreSpared program spared) where
  spared_functions : (P Q : Routine → Type 0) → ((r s : Routine) → IsSpared (slots_in program) r s → P r → Q s) → All P program.functions → All Q spared.functions
  spared_functions P Q each all = All_by_number Q spared.functions (λ k s at.
      let within : k < length program.functions = omega (arith, below_from_slice_get spared.functions k s at, are.as_many) in
      subst Q (get_or_from_slice_get spared.functions k s no_routine at) (each (routine_at program k) (routine_at spared k) (are.each k within) (all k no_routine within)))

  spared_sizes : sum_by size spared.functions ≤ sum_by size program.functions
  spared_sizes = sum_by-at_most_each size program.functions spared.functions are.as_many (λ k r at.
      let within = below_from_slice_get program.functions k r at in (
        routine_at spared k,
        slice_get-get_or spared.functions k no_routine (omega (arith, within, are.as_many)),
        subst (λ (x : Routine). size (routine_at spared k) ≤ size x) (get_or_from_slice_get program.functions k r no_routine at)
            (spared_smaller program spared are (routine_at program k) (routine_at spared k) (are.each k within)),
      ))

  pub spared_plain : IsPlain program → IsPlain spared
  spared_plain plain =
      let well = plain.well_formed in
      let main = (each_spared program spared are program.main).same in
      record {
        well_formed = record {
          functions = spared_functions (IsRoutine program) (IsRoutine spared) (spared_routine program spared are) well.functions;
          main = omega (arith, well.main, are.main, are.as_many);
          main_parameters = ap (λ (k : ℕ). (routine_at spared k).parameters) are.main ∙ ap (λ (r : Routine). r.parameters) main ∙ well.main_parameters;
          main_results = ap (λ (k : ℕ). (routine_at spared k).results) are.main ∙ ap (λ (r : Routine). r.results) main ∙ well.main_results;
          globals = subst (λ (l : List ℕ). length l ≤ MOST_GLOBALS) (sym are.globals) well.globals;
        };
        words = record {
          functions = spared_functions (λ r. All HasWord r.code) (λ s. All HasWord s.code) (spared_words program spared are) plain.words.functions;
          globals = subst (All IsWord) (sym are.globals) plain.words.globals;
        };
        small = omega (arith, plain.small, spared_sizes);
      }

  like_spared : (given r s : Routine) → IsLike given r → IsSpared (slots_in program) r s → IsLike given s
  like_spared given r s like is = record {
    name = ap (λ (t : Routine). t.name) is.same ∙ like.name;
    parameters = ap (λ (t : Routine). t.parameters) is.same ∙ like.parameters;
    results = ap (λ (t : Routine). t.results) is.same ∙ like.results;
    slots = ap (λ (t : Routine). t.slots) is.same ∙ like.slots;
    frame_count = ap (λ (t : Routine). t.frame_count) is.same ∙ like.frame_count;
    as_many = is.code.as_many ∙ like.as_many;
    small = omega (arith, like.small, spared_smaller program spared are r s is);
  }

  -- If a program satisfies the contract of value propagation, it still does after its redundant checks for stack space are dropped.
  pub spared_simplified : (given : Program) → IsSimplified given program → IsSimplified given spared
  spared_simplified given by = record {
    plain = spared_plain by.plain;
    as_many = are.as_many ∙ by.as_many;
    each = λ k below. like_spared (routine_at given k) (routine_at program k) (routine_at spared k) (by.each k below) (are.each k (omega (arith, below, by.as_many)));
    globals = are.globals ∙ by.globals;
    main = are.main ∙ by.main;
    follows = λ pages calls base store input never.
        (let first = by.follows pages calls base store input never in
        in_a_row (machine given pages calls) (machine program pages calls) (machine spared pages calls) [] (λ place. place ∷ []) [] (λ place. place ∷ [])
        (start given base store input) (start program base store input) (start spared base store input) first
        (spared_follows program spared are pages calls base store input
        (follows-never_fails (machine given pages calls) (machine program pages calls) (lawful given pages calls) [] (λ place. place ∷ []) (start given base store input) (start program base store input) first)));
  }
