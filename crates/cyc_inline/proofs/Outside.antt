-- Simulation of an instruction outside inlined calls: an instruction that was not inlined has the same effect in the source and
-- the inlined program.
use Rattle.std.proofs.Common.{◌≡◌, ℕ, suc, ◌+◌, ◌*◌, ◌≤◌, false, List, [], ◌∷◌, map, Option, Some, None, refl, sym, ap, subst, ◌∙◌, arith, inl, inr}
use Rattle.std.specs.Prelude.{◌==◌, if◌then◌else◌}
use Rattle.std.specs.List.{AllByRecursion}
use Rattle.cyc_words.specs.Ending.{Returned, Uncaught}
use Rattle.cyc_words.specs.Word.{signed, add_of}
use Rattle.cyc_store.specs.Services as services
use Rattle.cyc_store.specs.Services.{Answer, Call, Refusal, refusal, answer}
use Rattle.cyc_plain.specs.declared.instruction.Instruction.{Instruction}
use Rattle.cyc_plain.specs.declared.instruction.Instruction.TheVariants as instructions
use Rattle.cyc_plain.specs.declared.instruction.Operand.{Operand}
use Rattle.cyc_plain.specs.declared.instruction.Operand.TheVariants as operands
use Rattle.cyc_plain.specs.declared.instruction.Request.{Request}
use Rattle.cyc_plain.specs.declared.instruction.Request.TheVariants as requests
use Rattle.cyc_plain.specs.declared.limits.TheConstants.{RECORD_WORDS}
use Rattle.cyc_plain.specs.inside.Requests.{destination_of}
use Rattle.cyc_plain.specs.inside.Program.{Routine, Program, routine_at}
use Rattle.cyc_plain.specs.inside.State.{Words, put, copied, Handler, Open, Caught, Activation, Frame, Configuration, State, Running, Ended, Stuck}
use Rattle.cyc_plain.specs.inside.Step.{Choice, operand_word, call_in, reported, asks, is_intact, opens, tries, closes, returns, finishes, advanced, calls, performed}
use Rattle.cyc_plain.specs.inside.WellFormed.{IsOperand, IsInRange, IsRequestInRange, leaves, IsWellFormed}
use Rattle.cyc_inline.specs.declared.origin.Origin.{Origin}
use Rattle.cyc_inline.specs.inside.Opened.{shifted_operand, moved, AreOpened}
use Rattle.cyc_inline.proofs.Agreeing.{Agree, agree_here, agree_from, put_agree, copied_at, intact_agree, operand_agree}
use Rattle.cyc_inline.proofs.Waiting.{moved_handler, each_opened, place_in, HasRecord, AreSlotted, AreCalls, AreWaiting, beside, Outside, outside_if, thrown}
use Rattle.cyc_inline.proofs.Memory.{put_next, memory_outside, written_outside}
use Rattle.cyc_inline.proofs.Performing.{gone, IsNext, Bears, performs}

module _ (program inlined : Program) (origins : List (List Origin)) (are : AreOpened program inlined origins) (well : IsWellFormed program)
    (c : Configuration) (b : Activation) (gs : List Frame) (slotted : AreSlotted program inlined origins are c.active b) (waiting : AreWaiting program inlined origins are c.active.function c.frames gs) where
  abbrev d : Configuration
  d = beside program inlined origins are c b gs

  abbrev r : Routine
  r = routine_at program c.active.function

  abbrev place : ℕ → ℕ
  place = place_in program inlined origins are c.active.function

  abbrev Match : State → State → Type 0
  Match = Outside program inlined origins are

  -- Says that the source program and the inlined program both continue with the instruction after the current one.
  abbrev Falls : Type 0
  Falls = b.next + 1 ≡ place (c.active.next + 1)

  -- The active calls of the source and the inlined program correspond after the step.
  on : (slots others : Words) (to other : ℕ) → Agree r.slots slots others → other ≡ place to
      → AreCalls program inlined origins are (record c.active { slots = slots; next = to }) (record b { slots = others; next = other })
  on slots others to other agree next = record {
    slotted = record { function = slotted.function; base = slotted.base; handlers = slotted.handlers; records = slotted.records; slots = agree };
    next = next;
  }

  there : (to other : ℕ) → IsNext program inlined r 0 place c b gs Falls to other → other ≡ place to
  there to other (inl at) = at
  there to other (inr (following, next, falls)) = next ∙ falls ∙ ap place (sym following)

  pub bears : Bears program inlined r 0 place c b gs Falls Match
  bears = record {
    stuck = λ output input. refl;
    goes = λ slots others to other globals output input agree kept next.
        record {
          active = record b { slots = others; next = other };
          frames = gs;
          is = refl;
          calls = on slots others to other (agree_here r.slots slots others agree) (there to other next);
          waiting = waiting;
        };
    found = memory_outside program inlined origins are well c b gs slotted waiting;
    writes = written_outside program inlined origins are well c b gs slotted waiting;
  }

  -- ---- operands

  pub operand_same : (operand : Operand) → IsOperand r operand → operand_word b.slots operand ≡ operand_word c.active.slots operand
  operand_same (operands.Slot number) inside = slotted.slots number inside
  operand_same (operands.Word word) inside = refl

  thrown_same : (operand : Operand) → IsOperand r operand → operand_word b.slots (shifted_operand 0 operand) ≡ operand_word c.active.slots operand
  thrown_same operand inside = operand_agree r 0 c.active.slots b.slots operand (agree_from r.slots c.active.slots b.slots slotted.slots) inside

  -- ---- calls and returns

  calls_same : (choice : Choice) (function arguments count result : ℕ) → arguments + count ≤ r.slots → Falls → Match (calls choice c function arguments count result) (calls choice d function arguments count result)
  calls_same choice function arguments count result inside falls = record {
    active = record { function = function; next = 0; base = choice.base; slots = copied b.slots arguments count choice.contents 0; handlers = [] };
    frames = record { caller = (advanced d).active; result = result } ∷ gs;
    is = refl;
    calls = record {
      slotted = record {
        function = refl;
        base = refl;
        handlers = refl;
        records = tt;
        slots = λ k below.
            copied_at c.active.slots b.slots choice.contents choice.contents arguments arguments count 0 0 k k 0 refl (omega arith)
            (λ j less. slotted.slots (arguments + j) (omega (arith, less, inside))) refl;
      };
      next = sym (each_opened program inlined origins are function).first;
    };
    waiting = (record { slotted = put_next program inlined origins are well slotted; next = falls }, refl, waiting);
  }

  returned : (value results : ℕ) (fs others : List Frame) → value + results ≤ r.slots → (c.active.function ≡ program.main → results ≡ 1) → AreWaiting program inlined origins are c.active.function fs others
      → Match (returns c value results fs) (returns d value results others)
  returned value results [] [] inside one wait =
      let single = one wait in
      ap (λ (word : ℕ). Ended (Returned (signed word)) c.output c.input) (slotted.slots value (omega (arith, single, inside)))
  returned value results [] (g ∷ others) inside one wait = absurd wait
  returned value results (f ∷ fs) [] inside one wait = absurd wait
  returned value results (f ∷ fs) (g ∷ others) inside one (caller, result, rest) = record {
    active = record g.caller { slots = copied b.slots value results g.caller.slots g.result };
    frames = others;
    is = refl;
    calls = record {
      slotted = record {
        function = caller.slotted.function;
        base = caller.slotted.base;
        handlers = caller.slotted.handlers;
        records = caller.slotted.records;
        slots = λ k below.
            copied_at c.active.slots b.slots f.caller.slots g.caller.slots value value results f.result g.result k k 0 (omega (arith, result)) (omega arith)
            (λ j less. slotted.slots (value + j) (omega (arith, less, inside))) (caller.slotted.slots k below);
      };
      next = caller.next;
    };
    waiting = rest;
  }

  results_same : (routine_at inlined b.function).results ≡ r.results
  results_same = ap (λ (function : ℕ). (routine_at inlined function).results) slotted.function ∙ (each_opened program inlined origins are c.active.function).like.results

  main_returns : c.active.function ≡ program.main → r.results ≡ 1
  main_returns is = ap (λ (function : ℕ). (routine_at program function).results) is ∙ well.main_results

  returns_same : (value : ℕ) → value + r.results ≤ r.slots → Match (returns c value r.results c.frames) (returns d value (routine_at inlined b.function).results gs)
  returns_same value inside =
      subst (λ (n : ℕ). Match (returns c value r.results c.frames) (returns d value n gs)) (sym results_same)
      (returned value r.results c.frames gs inside main_returns waiting)

  -- ---- the store

  pub call_same : (request : Request) → IsRequestInRange r request → call_in b.slots request ≡ call_in c.active.slots request
  call_same (requests.OpenLexical destination) range = refl
  call_same (requests.CloseTo mark) range = ap services.CloseTo (operand_same mark range.first_in_range)
  call_same (requests.OpenDynamic destination) range = refl
  call_same (requests.CloseDynamic handle) range = ap services.CloseDynamic (operand_same handle range.first_in_range)
  call_same (requests.Allocate destination handle words) range =
      ap (λ (x : ℕ). services.Allocate x (operand_word b.slots words)) (operand_same handle range.first_in_range)
      ∙ ap (services.Allocate (operand_word c.active.slots handle)) (operand_same words range.second_in_range)
  call_same (requests.Free address) range = ap services.Free (operand_same address range.first_in_range)

  reported_agree : (a : Answer) (destination : ℕ) → Agree r.slots (reported a destination c.active.slots) (reported a destination b.slots)
  reported_agree (services.Refused why) destination = slotted.slots
  reported_agree services.Done destination = slotted.slots
  reported_agree (services.Opened handle) destination = put_agree r.slots destination handle c.active.slots b.slots slotted.slots
  reported_agree (services.OpenedLexical handle mark) destination =
      put_agree r.slots (suc destination) mark (put c.active.slots destination handle) (put b.slots destination handle) (put_agree r.slots destination handle c.active.slots b.slots slotted.slots)
  reported_agree (services.Allocated address) destination = put_agree r.slots destination address c.active.slots b.slots slotted.slots

  asked_same : (choice : Choice) (destination : ℕ) (call : Call) (o : Option Refusal) → Falls → Match (asks choice.serving c destination call o) (asks choice.serving d destination call o)
  asked_same choice destination call None falls = record {
    active = record b { slots = reported (answer c.store call choice.serving) destination b.slots; next = b.next + 1 };
    frames = gs;
    is = refl;
    calls = on (reported (answer c.store call choice.serving) destination c.active.slots) (reported (answer c.store call choice.serving) destination b.slots) (c.active.next + 1) (b.next + 1)
        (reported_agree (answer c.store call choice.serving) destination) falls;
    waiting = waiting;
  }
  asked_same choice destination call (Some services.BadMark) falls = refl
  asked_same choice destination call (Some services.BadHandle) falls = refl
  asked_same choice destination call (Some services.BadSize) falls = refl
  asked_same choice destination call (Some services.NotABlock) falls = refl
  asked_same choice destination call (Some services.Full) falls = refl

  asks_same : (choice : Choice) (request : Request) → IsRequestInRange r request → Falls
      → Match (performed program choice c (instructions.Ask request)) (performed inlined choice d (instructions.Ask request))
  asks_same choice request range falls =
      let destination : ℕ = destination_of request in
      let call : Call = call_in c.active.slots request in
      subst (λ (x : Call). Match (asks choice.serving c destination call (refusal c.store call)) (asks choice.serving d destination x (refusal c.store x))) (sym (call_same request range))
      (asked_same choice destination call (refusal c.store call) falls)

  -- ---- handlers

  opened : (choice : Choice) (first : ℕ) → first + RECORD_WORDS ≤ r.slots → b.next ≡ place c.active.next → Falls → Match (opens choice c first) (opens choice d first)
  opened choice first room here falls = record {
    active = record b { next = b.next + 1; slots = copied choice.contents 0 RECORD_WORDS b.slots first; handlers = Open b.next first choice.contents ∷ b.handlers };
    frames = gs;
    is = refl;
    calls = record {
      slotted = record {
        function = slotted.function;
        base = slotted.base;
        handlers = λ i. Open (here i) first choice.contents ∷ slotted.handlers i;
        records = (room, slotted.records);
        slots = λ k below.
            copied_at choice.contents choice.contents c.active.slots b.slots 0 0 RECORD_WORDS first first k k 0 (omega arith) (omega arith) (λ j less. refl) (slotted.slots k below);
      };
      next = falls;
    };
    waiting = waiting;
  }

  -- If exception handlers are removed in the source and the inlined program, their states still correspond.
  left : (to other : ℕ) (handlers : List Handler) → AllByRecursion (HasRecord program inlined origins are c.active.function) handlers → other ≡ place to
      → Match (Running (record c { active = record c.active { next = to; handlers = handlers } })) (Running (record d { active = record b { next = other; handlers = map (moved_handler place) handlers } }))
  left to other handlers records next = record {
    active = record b { next = other; handlers = map (moved_handler place) handlers };
    frames = gs;
    is = refl;
    calls = record {
      slotted = record { function = slotted.function; base = slotted.base; handlers = refl; records = records; slots = slotted.slots };
      next = next;
    };
    waiting = waiting;
  }

  tried : (choice : Choice) (first handler : ℕ) (handlers : List Handler) → AllByRecursion (HasRecord program inlined origins are c.active.function) handlers → first + RECORD_WORDS ≤ r.slots → b.next ≡ place c.active.next → Falls
      → Match (tries choice c first handler handlers) (tries choice d first (place handler) (map (moved_handler place) handlers))
  tried choice first handler [] records room here falls = opened choice first room here falls
  tried choice first handler (Open index other contents ∷ handlers) records room here falls = opened choice first room here falls
  tried choice first handler (Caught ∷ handlers) (none, records) room here falls = left handler (place handler) handlers records refl

  closed : (first : ℕ) (handlers : List Handler) → AllByRecursion (HasRecord program inlined origins are c.active.function) handlers → first + RECORD_WORDS ≤ r.slots → Falls
      → Match (closes c first handlers) (closes d first (map (moved_handler place) handlers))
  closed first [] records room falls = refl
  closed first (Caught ∷ handlers) records room falls = refl
  closed first (Open index other contents ∷ handlers) (own, records) room falls =
      outside_if program inlined origins are (other == first) (other == first)
      (if is_intact c.active.slots first contents then Running (advanced (record c { active = record c.active { handlers = handlers } })) else Stuck c.output c.input) (closes c first handlers)
      (if is_intact b.slots first contents then Running (advanced (record d { active = record b { handlers = map (moved_handler place) handlers } })) else Stuck c.output c.input) (closes d first (map (moved_handler place) handlers))
      refl
      (outside_if program inlined origins are (is_intact c.active.slots first contents) (is_intact b.slots first contents)
      (Running (advanced (record c { active = record c.active { handlers = handlers } }))) (Stuck c.output c.input)
      (Running (advanced (record d { active = record b { handlers = map (moved_handler place) handlers } }))) (Stuck c.output c.input)
      (intact_agree r.slots first contents c.active.slots b.slots slotted.slots room)
      (left (c.active.next + 1) (b.next + 1) handlers records falls)
      refl)
      (closed first handlers records room falls)

  finished : (value : ℕ) (handlers : List Handler) → value + r.results ≤ r.slots
      → Match (finishes c value r.results handlers) (finishes d value (routine_at inlined b.function).results (map (moved_handler place) handlers))
  finished value [] inside = returns_same value inside
  finished value (h ∷ handlers) inside = refl

  -- Two states match with the handlers of the inlined program's call if they match with the source call's handlers after the
  -- handlers' targets are moved.
  by_handlers : (s : State) (t : List Handler → State) → Match s (t (map (moved_handler place) c.active.handlers)) → Match s (t b.handlers)
  by_handlers s t matches = subst (λ (handlers : List Handler). Match s (t handlers)) (sym slotted.handlers) matches

  -- ---- one instruction

  pub performs_outside : (choice : Choice) (i : Instruction) → IsInRange program (routine_at program c.active.function) i → b.next ≡ place_in program inlined origins are c.active.function c.active.next
      → (leaves i ≡ false → b.next + 1 ≡ place_in program inlined origins are c.active.function (c.active.next + 1))
      → Outside program inlined origins are (performed program choice c i) (performed inlined choice (beside program inlined origins are c b gs) (moved 0 (place_in program inlined origins are c.active.function) i))
  performs_outside choice (instructions.Call function arguments count result) range here falls = calls_same choice function arguments count result range.arguments_in_range (falls refl)
  performs_outside choice (instructions.Return value) inside here falls = returns_same value inside
  performs_outside choice (instructions.AddressOf destination slot count) range here falls =
      subst (λ (base : ℕ). Match (Running (gone program inlined r 0 place c b gs Falls c (put c.active.slots destination (add_of c.active.base (4 * slot))) (c.active.next + 1) c.globals c.output c.input))
      (Running (gone program inlined r 0 place c b gs Falls d (put b.slots destination (add_of base (4 * slot))) (b.next + 1) c.globals c.output c.input))) (sym slotted.base)
      (record {
        active = record b { slots = put b.slots destination (add_of c.active.base (4 * slot)); next = b.next + 1 };
        frames = gs;
        is = refl;
        calls = on (put c.active.slots destination (add_of c.active.base (4 * slot))) (put b.slots destination (add_of c.active.base (4 * slot))) (c.active.next + 1) (b.next + 1)
            (put_agree r.slots destination (add_of c.active.base (4 * slot)) c.active.slots b.slots slotted.slots) (falls refl);
        waiting = waiting;
      })
  performs_outside choice (instructions.Ask request) range here falls = asks_same choice request range (falls refl)
  performs_outside choice (instructions.Try first handler) range here falls =
      by_handlers (tries choice c first handler c.active.handlers) (tries choice d first (place handler)) (tried choice first handler c.active.handlers slotted.records range.record_in_range here (falls refl))
  performs_outside choice (instructions.Leave first) room here falls =
      by_handlers (closes c first c.active.handlers) (closes d first) (closed first c.active.handlers slotted.records room (falls refl))
  performs_outside choice (instructions.Throw tag value) (first, second) here falls =
      subst (λ (x : ℕ). Match (performed program choice c (instructions.Throw tag value)) (performed inlined choice d (instructions.Throw (operands.Word x) (shifted_operand 0 value)))) (sym (thrown_same tag first))
      (subst (λ (x : ℕ). Match (performed program choice c (instructions.Throw tag value)) (performed inlined choice d (instructions.Throw (operands.Word (operand_word c.active.slots tag)) (operands.Word x)))) (sym (thrown_same value second))
      (thrown program inlined origins are c b gs (operand_word c.active.slots tag) (operand_word c.active.slots value) c.active b c.frames gs slotted waiting))
  performs_outside choice (instructions.Finish value) inside here falls =
      by_handlers (finishes c value r.results c.active.handlers) (finishes d value (routine_at inlined b.function).results) (finished value c.active.handlers inside)
  performs_outside choice (instructions.Uncaught tag value) first here falls =
      ap (λ (word : ℕ). Ended (Uncaught tag (signed word)) c.output c.input) (operand_same value first)
  performs_outside choice (instructions.Enter function) known here falls = record {
    active = record b { next = b.next + 1 };
    frames = gs;
    is = refl;
    calls = on c.active.slots b.slots (c.active.next + 1) (b.next + 1) slotted.slots (falls refl);
    waiting = waiting;
  }
  performs_outside choice i range here falls =
      performs program inlined r 0 place c b gs Falls choice choice (agree_from r.slots c.active.slots b.slots slotted.slots) Match bears i refl range falls
