-- In every state of a run of a well-formed program, the next instruction of each call lies in its function's code.
use Rattle.std.proofs.Common.{◌≡◌, ℕ, zero, suc, ◌+◌, ◌-◌, ◌%◌, ◌<◌, Bool, true, false, List, [], ◌∷◌, length, Option, None, Some, slice_get, refl, sym, ap, subst, ◌∙◌, arith, inl, inr}
use Rattle.std.proofs.lemmas.Bool.{cases_lt}
use Rattle.std.specs.Prelude.{IsSomeAnd, ◌==◌, if◌then◌else◌, ◌⊎◌}
use Rattle.std.specs.List.{AllByRecursion}
use Rattle.cyc_words.specs.Ending.{Uncaught, Full}
use Rattle.cyc_words.specs.Word.{signed, add_of}
use Rattle.cyc_words.specs.Bytes.{with_byte, word_of}
use Rattle.cyc_store.specs.State.{StoreState}
use Rattle.cyc_store.specs.Services as services
use Rattle.cyc_store.specs.Services.{Call, Refusal, refusal}
use Rattle.cyc_plain.specs.declared.instruction.Instruction.{Instruction}
use Rattle.cyc_plain.specs.declared.instruction.Instruction.TheVariants as instructions
use Rattle.cyc_plain.specs.declared.instruction.BinaryOperator.{BinaryOperator}
use Rattle.cyc_plain.specs.declared.instruction.Operand.{Operand}
use Rattle.cyc_plain.specs.inside.Operators.{has_no_result, binary_result, compares}
use Rattle.cyc_plain.specs.inside.Requests.{destination_of}
use Rattle.cyc_words.specs.Simulation as simulation
use Rattle.cyc_words.specs.Simulation.{Run}
use Rattle.cyc_words.proofs.Lists.{slice_get_below}
use Rattle.cyc_words.proofs.Items.{below_from_slice_get}
use Rattle.cyc_words.proofs.Members.{All_at}
use Rattle.cyc_plain.specs.inside.Program.{Routine, Program, no_routine, routine_at}
use Rattle.cyc_plain.specs.inside.State.{put, Handler, Open, Caught, Activation, Frame, Configuration, State, Running, Ended, Stuck, status_of, place_of}
use Rattle.cyc_plain.specs.inside.Memory.{Range, OfGlobals, OfStore, OfSlots, range_of, global_at, slot_at, put_or, with_waiting, memory_at, with_global, with_slot, with_word}
use Rattle.cyc_plain.specs.inside.Step.{Choice, gives, operand_word, returns, loads, saves, loads_byte, saves_byte, advanced, asks, is_intact, tries, closes, lands, throws, finishes, call_in, call_of, asked, performed, executed, instruction_at, step, limit_at, Step, start, machine}
use Rattle.cyc_plain.specs.inside.WellFormed.{IsInRange, IsRoutine, IsWellFormed, leaves, DividesByZero, AsksAt, AsksForNoWord, AsksInVain, AsksForHandlers}
use Rattle.cyc_plain.proofs.RunLaws.{limited_either, if_either}

-- ---- well-formed programs

pub routine_in : (program : Program) (function : ℕ) → IsWellFormed program → function < length program.functions → IsRoutine program (routine_at program function)
routine_in program function well below =
    well.functions function no_routine below

last_is_some : (r : Routine) → IsSomeAnd (slice_get r.code (length r.code - 1)) (λ i. leaves i ≡ true) → (i : Instruction) → slice_get r.code (length r.code - 1) ≡ Some i → leaves i ≡ true
last_is_some r last i at = subst (λ (o : Option Instruction). IsSomeAnd o (λ j. leaves j ≡ true)) at last

-- The code of a well-formed function is not empty.
pub has_code : (program : Program) (r : Routine) → IsRoutine program r → 0 < length r.code
has_code program r routine = go r.code routine.last
  where
    go : (code : List Instruction) → IsSomeAnd (slice_get code (length code - 1)) (λ i. leaves i ≡ true) → 0 < length code
    go [] last = absurd last
    go (i ∷ code) last = omega arith

-- In a well-formed function, an instruction that may fall through is followed by another one.
pub goes_after : (program : Program) (r : Routine) (place : ℕ) (i : Instruction) → IsRoutine program r → slice_get r.code place ≡ Some i → leaves i ≡ false → place + 1 < length r.code
goes_after program r place i routine at stays =
    elim (cases_lt (place + 1) (length r.code)) [
      | inl below ↦ below
      | inr end ↦
          let inside = below_from_slice_get r.code place i at in
          let last : length r.code - 1 ≡ place = omega arith in
          let left : leaves i ≡ true = last_is_some r routine.last i (ap (slice_get r.code) last ∙ at) in
          absurd (let e : false ≡ true = sym stays ∙ left in cc)
    ]

-- ---- states

abbrev pub IsPlacedAt : Program → (function next : ℕ) → Type 0
IsPlacedAt program function next = (function < length program.functions) × (next < length (routine_at program function).code)

-- `ArePlaced` says that the instructions at which exceptions arrive at the open handlers lie in the function's code.
abbrev pub ArePlaced : Program → (function : ℕ) → List Handler → Type 0
ArePlaced program function [] = Unit {0}
ArePlaced program function (Open index first contents ∷ handlers) =
    (index < length (routine_at program function).code) × ArePlaced program function handlers
ArePlaced program function (Caught ∷ handlers) = ArePlaced program function handlers

abbrev pub IsWaiting : Program → Frame → Type 0
IsWaiting program f = IsPlacedAt program f.caller.function f.caller.next × ArePlaced program f.caller.function f.caller.handlers

-- `IsPlaced` says that the next instructions of the active call and of each waiting call lie in their functions' code.
abbrev pub IsPlaced : Program → State → Type 0
IsPlaced program (Running c) =
    IsPlacedAt program c.active.function c.active.next × ArePlaced program c.active.function c.active.handlers × AllByRecursion (IsWaiting program) c.frames
IsPlaced program (Ended ending output input) = Unit {0}
IsPlaced program (Stuck output input) = Unit {0}

return_is_placed : (program : Program) (c : Configuration) (value results : ℕ) (frames : List Frame) → AllByRecursion (IsWaiting program) frames → IsPlaced program (returns c value results frames)
return_is_placed program c value results [] waiting = tt
return_is_placed program c value results (f ∷ frames) (first, rest) = (first.0, first.1, rest)

-- A store to a slot of a waiting call leaves unchanged at which instruction the call continues.
waiting_written : (program : Program) (frames : List Frame) (address word : ℕ) → AllByRecursion (IsWaiting program) frames → AllByRecursion (IsWaiting program) (with_waiting program frames address word)
waiting_written program [] address word waiting = tt
waiting_written program (f ∷ frames) address word (first, rest) = go (slot_at program f.caller address) (waiting_written program frames address word rest)
  where
    go : (slot : Option ℕ) → AllByRecursion (IsWaiting program) (with_waiting program frames address word) → AllByRecursion (IsWaiting program) (put_or slot word f frames (with_waiting program frames address word))
    go (Some number) others = (first, rest)
    go None others = (first, others)

module _ (program : Program) (well : IsWellFormed program) (choice : Choice) (c : Configuration) (inside : c.active.function < length program.functions) (next_inside : c.active.next < length (routine_at program c.active.function).code) (handling : ArePlaced program c.active.function c.active.handlers) (waiting : AllByRecursion (IsWaiting program) c.frames) where
  abbrev here : Routine
  here = routine_at program c.active.function

  routine : IsRoutine program here
  routine = routine_in program c.active.function well inside

  -- After an instruction that may fall through, the index of the next instruction lies in the code.
  following : (i : Instruction) → slice_get here.code c.active.next ≡ Some i → leaves i ≡ false → IsPlacedAt program c.active.function (c.active.next + 1)
  following i at stays = (inside, goes_after program here c.active.next i routine at stays)

  chosen : (b : Bool) (target : ℕ) → IsPlacedAt program c.active.function target → IsPlacedAt program c.active.function (c.active.next + 1) → IsPlacedAt program c.active.function (if b then target else c.active.next + 1)
  chosen true target first second = first
  chosen false target first second = second

  loaded : (destination : ℕ) (found : Option ℕ) → IsPlacedAt program c.active.function (c.active.next + 1) → IsPlaced program (loads c destination found)
  loaded destination None next = tt
  loaded destination (Some word) next = (next, handling, waiting)

  loaded_byte : (destination address : ℕ) (found : Option ℕ) → IsPlacedAt program c.active.function (c.active.next + 1) → IsPlaced program (loads_byte c destination address found)
  loaded_byte destination address None next = tt
  loaded_byte destination address (Some word) next = (next, handling, waiting)

  written : (address word : ℕ) (range : Range) → IsPlacedAt program c.active.function (c.active.next + 1) → IsPlaced program (Running (advanced (with_word program c address word range)))
  written address word OfGlobals next = go (global_at program address)
    where
      go : (number : Option ℕ) → IsPlaced program (Running (advanced (with_global c number word)))
      go (Some number) = (next, handling, waiting)
      go None = (next, handling, waiting)
  written address word OfStore next = (next, handling, waiting)
  written address word OfSlots next = go (slot_at program c.active address)
    where
      go : (slot : Option ℕ) → IsPlaced program (Running (advanced (with_slot program c slot address word)))
      go (Some number) = (next, handling, waiting)
      go None = (next, handling, waiting_written program c.frames address word waiting)

  saved : (address word : ℕ) (found : Option ℕ) → IsPlacedAt program c.active.function (c.active.next + 1) → IsPlaced program (saves program c address word found)
  saved address word None next = tt
  saved address word (Some old) next = written address word (range_of address) next

  saved_byte : (address byte : ℕ) (found : Option ℕ) → IsPlacedAt program c.active.function (c.active.next + 1) → IsPlaced program (saves_byte program c address byte found)
  saved_byte address byte None next = tt
  saved_byte address byte (Some old) next = written (word_of address) (with_byte old (address % 4) byte) (range_of (word_of address)) next

  served : (destination : ℕ) (call : Call) (o : Option Refusal) → IsPlacedAt program c.active.function (c.active.next + 1) → IsPlaced program (asks choice.serving c destination call o)
  served destination call None next = (next, handling, waiting)
  served destination call (Some services.BadMark) next = tt
  served destination call (Some services.BadHandle) next = tt
  served destination call (Some services.BadSize) next = tt
  served destination call (Some services.NotABlock) next = tt
  served destination call (Some services.Full) next = tt

  tried : (first handler : ℕ) (handlers : List Handler) → ArePlaced program c.active.function handlers → handler < length here.code → IsPlacedAt program c.active.function (c.active.next + 1)
      → IsPlaced program (tries choice c first handler handlers)
  tried first handler [] all there next = (next, (next_inside, handling), waiting)
  tried first handler (Open index other contents ∷ handlers) all there next = (next, (next_inside, handling), waiting)
  tried first handler (Caught ∷ handlers) all there next = ((inside, there), all, waiting)

  closed : (first : ℕ) (handlers : List Handler) → ArePlaced program c.active.function handlers → IsPlacedAt program c.active.function (c.active.next + 1) → IsPlaced program (closes c first handlers)
  closed first [] all next = tt
  closed first (Caught ∷ handlers) all next = tt
  closed first (Open index other contents ∷ handlers) all next =
      if_either (IsPlaced program) (other == first)
      (if is_intact c.active.slots first contents then Running (advanced (record c { active = record c.active { handlers = handlers } })) else Stuck c.output c.input) (closes c first handlers)
      (if_either (IsPlaced program) (is_intact c.active.slots first contents) (Running (advanced (record c { active = record c.active { handlers = handlers } }))) (Stuck c.output c.input) (next, all.1, waiting) tt)
      (closed first handlers all.1 next)

  landed : (tag value : ℕ) (a : Activation) (frames : List Frame) (beyond : State) (handlers : List Handler) → a.function < length program.functions → ArePlaced program a.function handlers
      → AllByRecursion (IsWaiting program) frames → IsPlaced program beyond → IsPlaced program (lands c tag value a frames beyond handlers)
  landed tag value a frames beyond [] known all rest goes = goes
  landed tag value a frames beyond (Caught ∷ handlers) known all rest goes = tt
  landed tag value a frames beyond (Open index first contents ∷ handlers) known all rest goes =
      if_either (IsPlaced program) (is_intact a.slots first contents)
      (Running (record c { active = record a { next = index; slots = put (put a.slots first tag) (suc first) value; handlers = Caught ∷ handlers }; frames = frames }))
      (Stuck c.output c.input) ((known, all.0), all.1, rest) tt

  thrown : (tag value : ℕ) (a : Activation) (frames : List Frame) → a.function < length program.functions → ArePlaced program a.function a.handlers → AllByRecursion (IsWaiting program) frames
      → IsPlaced program (throws c tag value a frames)
  thrown tag value a [] known all rest = landed tag value a [] (Ended (Uncaught tag (signed value)) c.output c.input) a.handlers known all rest tt
  thrown tag value a (f ∷ frames) known all rest =
      landed tag value a (f ∷ frames) (throws c tag value f.caller frames) a.handlers known all rest (thrown tag value f.caller frames rest.0.0.0 rest.0.1 rest.1)

  finished : (value results : ℕ) (handlers : List Handler) → IsPlaced program (finishes c value results handlers)
  finished value results [] = return_is_placed program c value results c.frames waiting
  finished value results (h ∷ handlers) = tt

  performs : (i : Instruction) → slice_get here.code c.active.next ≡ Some i → IsInRange program here i → IsPlaced program (performed program choice c i)
  performs (instructions.Move destination source) at range = (following _ at refl, handling, waiting)
  performs (instructions.MoveWords destination source count) at range = (following _ at refl, handling, waiting)
  performs (instructions.Load destination address offset) at range =
      loaded destination (memory_at program c (add_of (operand_word c.active.slots address) offset)) (following (instructions.Load destination address offset) at refl)
  performs (instructions.Store address offset source) at range =
      saved (add_of (operand_word c.active.slots address) offset) (operand_word c.active.slots source) (memory_at program c (add_of (operand_word c.active.slots address) offset)) (following (instructions.Store address offset source) at refl)
  performs (instructions.LoadByte destination address offset) at range =
      loaded_byte destination (add_of (operand_word c.active.slots address) offset) (memory_at program c (word_of (add_of (operand_word c.active.slots address) offset))) (following (instructions.LoadByte destination address offset) at refl)
  performs (instructions.StoreByte address offset source) at range =
      saved_byte (add_of (operand_word c.active.slots address) offset) (operand_word c.active.slots source % 256) (memory_at program c (word_of (add_of (operand_word c.active.slots address) offset))) (following (instructions.StoreByte address offset source) at refl)
  performs (instructions.Unary operator destination operand) at range = (following _ at refl, handling, waiting)
  performs (instructions.Binary operator destination left right) at range =
      if_either (IsPlaced program) (has_no_result operator (operand_word c.active.slots right)) (Stuck c.output c.input) (gives c destination (binary_result operator (operand_word c.active.slots left) (operand_word c.active.slots right))) tt (following (instructions.Binary operator destination left right) at refl, handling, waiting)
  performs (instructions.Jump target) at range = ((inside, range), handling, waiting)
  performs (instructions.Branch comparison left right target) at (first, second, reached) =
      (chosen (compares comparison (operand_word c.active.slots left) (operand_word c.active.slots right)) target (inside, reached) (following (instructions.Branch comparison left right target) at refl), handling, waiting)
  performs (instructions.Call function arguments count result) at range =
      ((range.function_in_range, has_code program (routine_at program function) (routine_in program function well range.function_in_range)), tt, ((following _ at refl, handling), waiting))
  performs (instructions.Return value) at range = return_is_placed program c value here.results c.frames waiting
  performs (instructions.ReadByte destination) at range = (following _ at refl, handling, waiting)
  performs (instructions.WriteByte source) at range = (following _ at refl, handling, waiting)
  performs (instructions.AddressOf destination slot count) at range = (following _ at refl, handling, waiting)
  performs (instructions.LoadGlobal destination global) at range = (following _ at refl, handling, waiting)
  performs (instructions.StoreGlobal global source) at range = (following _ at refl, handling, waiting)
  performs (instructions.CountLexical destination) at range = (following _ at refl, handling, waiting)
  performs (instructions.Ask request) at range =
      served (destination_of request) (call_in c.active.slots request) (refusal c.store (call_in c.active.slots request)) (following (instructions.Ask request) at refl)
  performs (instructions.Try first handler) at range =
      tried first handler c.active.handlers handling range.handler_in_range (following (instructions.Try first handler) at refl)
  performs (instructions.Leave first) at range = closed first c.active.handlers handling (following (instructions.Leave first) at refl)
  performs (instructions.Throw tag value) at range =
      thrown (operand_word c.active.slots tag) (operand_word c.active.slots value) c.active c.frames inside handling waiting
  performs (instructions.Finish value) at range = finished value here.results c.active.handlers
  performs (instructions.Uncaught tag value) at range = tt
  performs (instructions.Enter function) at range = (following _ at refl, handling, waiting)

  executes : (o : Option Instruction) → slice_get here.code c.active.next ≡ o → IsPlaced program (executed program choice c o)
  executes (Some i) at = performs i at (All_at (IsInRange program here) here.code c.active.next i routine.instructions at)
  executes None at = tt

-- If the next instruction of the active call and of each waiting call lies in its function's code, then this also holds after one step.
pub placed_step : (program : Program) (choice : Choice) (s : State) → IsWellFormed program → IsPlaced program s → IsPlaced program (step program choice s)
placed_step program choice (Running c) well ((inside, next), handling, waiting) = executes program well choice c inside next handling waiting (instruction_at program (place_of (Running c))) refl
placed_step program choice (Ended ending output input) well placed = tt
placed_step program choice (Stuck output input) well placed = tt

pub placed_run : (program : Program) (pages calls n : ℕ) (old new : State) → IsWellFormed program → IsPlaced program old → Run (machine program pages calls) n old new → IsPlaced program new
placed_run program pages calls zero old new well placed run = subst (IsPlaced program) (sym run) placed
placed_run program pages calls (suc n) old new well placed (mid, (choice, allowed, is), rest) =
    let next : IsPlaced program mid =
    subst (IsPlaced program) (sym is)
    (limited_either (IsPlaced program) pages (limit_at program old calls) old (step program choice old) (λ within. placed_step program choice old well placed) tt) in
    placed_run program pages calls n mid new well next rest

pub placed_start : (program : Program) (base : ℕ) (store : StoreState) (input : List ℕ) → IsWellFormed program → IsPlaced program (start program base store input)
placed_start program base store input well = ((well.main, has_code program (routine_at program program.main) (routine_in program program.main well well.main)), tt, tt)

-- ---- stuck states

running_not_failed : (c : Configuration) → simulation.Running ≡ simulation.Failed → ⊥
running_not_failed c e = cc

-- `Stops` lists the four reasons for which a run can get stuck: a division by 0, an access to an address without a word, a refused request,
-- and an instruction on exception handlers.
abbrev Stops : Program → State → Type 0
Stops program s = DividesByZero program s ⊎ (AsksForNoWord program s ⊎ (AsksInVain program s ⊎ AsksForHandlers program s))

divides : (program : Program) (c : Configuration) (operator : BinaryOperator) (destination : ℕ) (left right : Operand) (b : Bool) → has_no_result operator (operand_word c.active.slots right) ≡ b
    → instruction_at program (place_of (Running c)) ≡ Some (instructions.Binary operator destination left right)
    → status_of (if b then Stuck c.output c.input else gives c destination (binary_result operator (operand_word c.active.slots left) (operand_word c.active.slots right))) ≡ simulation.Failed → Stops program (Running c)
divides program c operator destination left right true is at failed = inl (operator, destination, left, right, at, is)
divides program c operator destination left right false is at failed = absurd (running_not_failed c failed)

-- A load or a store gets stuck only if memory has no word at its address.
access_stops : (program : Program) (c : Configuration) (i : Instruction) (address : ℕ) (found : Option ℕ) (after : Option ℕ → State) → memory_at program c address ≡ found → instruction_at program (place_of (Running c)) ≡ Some i
    → AsksAt c address i → ((word : ℕ) → status_of (after (Some word)) ≡ simulation.Running) → status_of (after found) ≡ simulation.Failed → Stops program (Running c)
access_stops program c i address None after is at asks goes failed = inr (inl (i, address, at, asks, is))
access_stops program c i address (Some word) after is at asks goes failed = absurd (running_not_failed c (sym (goes word) ∙ failed))

-- A request gets stuck only if the store refuses it for a reason other than lack of memory.
asks_stop : (program : Program) (choice : Choice) (c : Configuration) (destination : ℕ) (call : Call) (o : Option Refusal) → refusal c.store call ≡ o → asked program (Running c) ≡ Some call
    → status_of (asks choice.serving c destination call o) ≡ simulation.Failed → Stops program (Running c)
asks_stop program choice c destination call None is called failed = absurd (running_not_failed c failed)
asks_stop program choice c destination call (Some services.BadMark) is called failed =
    inr (inr (inl (call, services.BadMark, called, is, λ e. let other : services.BadMark ≡ services.Full = e in cc)))
asks_stop program choice c destination call (Some services.BadHandle) is called failed =
    inr (inr (inl (call, services.BadHandle, called, is, λ e. let other : services.BadHandle ≡ services.Full = e in cc)))
asks_stop program choice c destination call (Some services.BadSize) is called failed =
    inr (inr (inl (call, services.BadSize, called, is, λ e. let other : services.BadSize ≡ services.Full = e in cc)))
asks_stop program choice c destination call (Some services.NotABlock) is called failed =
    inr (inr (inl (call, services.NotABlock, called, is, λ e. let other : services.NotABlock ≡ services.Full = e in cc)))
asks_stop program choice c destination call (Some services.Full) is called failed =
    absurd (let e : simulation.Ended Full ≡ simulation.Failed = failed in cc)

returns_not : (c : Configuration) (value results : ℕ) (frames : List Frame) → status_of (returns c value results frames) ≡ simulation.Failed → ⊥
returns_not c value results [] failed = let e : status_of (returns c value results []) ≡ simulation.Failed = failed in cc
returns_not c value results (f ∷ frames) failed = running_not_failed c failed

tries_not : (choice : Choice) (c : Configuration) (first handler : ℕ) (handlers : List Handler) → status_of (tries choice c first handler handlers) ≡ simulation.Failed → ⊥
tries_not choice c first handler [] failed = running_not_failed c failed
tries_not choice c first handler (Open index other contents ∷ handlers) failed = running_not_failed c failed
tries_not choice c first handler (Caught ∷ handlers) failed = running_not_failed c failed

fails : (program : Program) (choice : Choice) (c : Configuration) (i : Instruction) → instruction_at program (place_of (Running c)) ≡ Some i → IsInRange program (routine_at program c.active.function) i → status_of (performed program choice c i) ≡ simulation.Failed → Stops program (Running c)
fails program choice c (instructions.Binary operator destination left right) at range failed = divides program c operator destination left right (has_no_result operator (operand_word c.active.slots right)) refl at failed
fails program choice c (instructions.Ask request) at range failed =
    let call : Call = call_in c.active.slots request in
    asks_stop program choice c (destination_of request) call (refusal c.store call) refl (ap (call_of c.active.slots) at) failed
fails program choice c (instructions.Return value) at range failed = absurd (returns_not c value (routine_at program c.active.function).results c.frames failed)
fails program choice c (instructions.Uncaught tag value) at range failed = absurd (let e : status_of (performed program choice c (instructions.Uncaught tag value)) ≡ simulation.Failed = failed in cc)
fails program choice c (instructions.Try first handler) at range failed = absurd (tries_not choice c first handler c.active.handlers failed)
fails program choice c (instructions.Leave first) at range failed = inr (inr (inr (instructions.Leave first, at, refl)))
fails program choice c (instructions.Throw tag value) at range failed = inr (inr (inr (instructions.Throw tag value, at, refl)))
fails program choice c (instructions.Finish value) at range failed = inr (inr (inr (instructions.Finish value, at, refl)))
fails program choice c (instructions.Move destination source) at range failed = absurd (running_not_failed c failed)
fails program choice c (instructions.Unary operator destination operand) at range failed = absurd (running_not_failed c failed)
fails program choice c (instructions.Jump target) at range failed = absurd (running_not_failed c failed)
fails program choice c (instructions.Branch comparison left right target) at range failed = absurd (running_not_failed c failed)
fails program choice c (instructions.Call function arguments count result) at range failed = absurd (running_not_failed c failed)
fails program choice c (instructions.ReadByte destination) at range failed = absurd (running_not_failed c failed)
fails program choice c (instructions.WriteByte source) at range failed = absurd (running_not_failed c failed)
fails program choice c (instructions.AddressOf destination slot count) at range failed = absurd (running_not_failed c failed)
fails program choice c (instructions.LoadGlobal destination global) at range failed = absurd (running_not_failed c failed)
fails program choice c (instructions.StoreGlobal global source) at range failed = absurd (running_not_failed c failed)
fails program choice c (instructions.CountLexical destination) at range failed = absurd (running_not_failed c failed)
fails program choice c (instructions.MoveWords destination source count) at range failed = absurd (running_not_failed c failed)
fails program choice c (instructions.Enter function) at range failed = absurd (running_not_failed c failed)
fails program choice c (instructions.Load destination address offset) at range failed =
    access_stops program c (instructions.Load destination address offset) (add_of (operand_word c.active.slots address) offset) (memory_at program c (add_of (operand_word c.active.slots address) offset)) (loads c destination) refl at refl (λ word. refl) failed
fails program choice c (instructions.Store address offset source) at range failed =
    access_stops program c (instructions.Store address offset source) (add_of (operand_word c.active.slots address) offset) (memory_at program c (add_of (operand_word c.active.slots address) offset)) (saves program c (add_of (operand_word c.active.slots address) offset) (operand_word c.active.slots source)) refl at refl (λ word. refl) failed
fails program choice c (instructions.LoadByte destination address offset) at range failed =
    access_stops program c (instructions.LoadByte destination address offset) (word_of (add_of (operand_word c.active.slots address) offset)) (memory_at program c (word_of (add_of (operand_word c.active.slots address) offset))) (loads_byte c destination (add_of (operand_word c.active.slots address) offset)) refl at refl (λ word. refl) failed
fails program choice c (instructions.StoreByte address offset source) at range failed =
    access_stops program c (instructions.StoreByte address offset source) (word_of (add_of (operand_word c.active.slots address) offset)) (memory_at program c (word_of (add_of (operand_word c.active.slots address) offset))) (saves_byte program c (add_of (operand_word c.active.slots address) offset) (operand_word c.active.slots source % 256)) refl at refl (λ word. refl) failed

fails_placed : (program : Program) (choice : Choice) (s : State) → IsWellFormed program → IsPlaced program s → status_of s ≡ simulation.Running → status_of (step program choice s) ≡ simulation.Failed → Stops program s
fails_placed program choice (Running c) well ((inside, next), handling, waiting) running failed =
    let (i, at) = slice_get_below (routine_at program c.active.function).code c.active.next next in
    let range = All_at (IsInRange program (routine_at program c.active.function)) (routine_at program c.active.function).code c.active.next i (routine_in program c.active.function well inside).instructions at in
    fails program choice c i at range (subst (λ (o : Option Instruction). status_of (executed program choice c o) ≡ simulation.Failed) at failed)
fails_placed program choice (Ended ending output input) well placed running failed = absurd (let e : simulation.Ended ending ≡ simulation.Running = running in cc)
fails_placed program choice (Stuck output input) well placed running failed = absurd (let e : simulation.Failed ≡ simulation.Running = running in cc)

-- A run of a well-formed program gets stuck only at a division by 0, an access to an address without a word, a refused request, or an
-- instruction on exception handlers.
pub few_get_stuck : (program : Program) (pages calls n base : ℕ) (store : StoreState) (input : List ℕ) (old new : State) → IsWellFormed program → Run (machine program pages calls) n (start program base store input) old
    → status_of old ≡ simulation.Running → Step program pages calls old new → status_of new ≡ simulation.Failed → Stops program old
few_get_stuck program pages calls n base store input old new well run running (choice, allowed, is) failed =
    let placed = placed_run program pages calls n (start program base store input) old well (placed_start program base store input well) run in
    limited_either (λ (s : State). status_of s ≡ simulation.Failed → Stops program old) pages (limit_at program old calls) old (step program choice old)
    (λ within fails. fails_placed program choice old well placed running fails)
    (λ fails. absurd (let e : simulation.Ended Full ≡ simulation.Failed = fails in cc))
    (ap status_of (sym is) ∙ failed)
