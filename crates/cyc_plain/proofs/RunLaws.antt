-- General laws of steps and runs of the plain machine.
use Rattle.std.proofs.Common.{◌≡◌, ℕ, zero, suc, ◌%◌, ◌≤◌, Bool, true, false, List, [], ◌∷◌, ◌++◌, drop, Option, Some, None, refl, sym, ap, subst, ◌∙◌, arith}
use Rattle.std.specs.Prelude.{◌==◌, nat_le, if◌then◌else◌}
use Rattle.std.proofs.lemmas.Bool.{le-leb, leb-true, and_from, and_parts}
use Rattle.cyc_words.specs.Ending.{Ending, Uncaught, Full}
use Rattle.cyc_words.specs.Word.{signed, add_of}
use Rattle.cyc_words.specs.Bytes.{with_byte, word_of}
use Rattle.cyc_words.specs.Seen.{IsPrefix}
use Rattle.cyc_words.proofs.PrefixLemmas.{IsPrefix-refl, IsPrefix-append}
use Rattle.cyc_store.specs.State.{StoreState, IsNew}
use Rattle.cyc_store.specs.Services as services
use Rattle.cyc_store.specs.Services.{Call, Refusal, refusal}
use Rattle.cyc_store.proofs.NewStores.{new_demand}
use Rattle.cyc_plain.specs.declared.instruction.Instruction.{Instruction}
use Rattle.cyc_plain.specs.declared.instruction.Instruction.TheVariants as instructions
use Rattle.cyc_plain.specs.inside.Operators.{has_no_result, binary_result}
use Rattle.cyc_plain.specs.inside.Requests.{destination_of}
use Rattle.cyc_words.specs.Simulation as simulation
use Rattle.cyc_words.specs.Simulation.{Run}
use Rattle.cyc_words.specs.inside.Following.{IsLawful}
use Rattle.cyc_plain.specs.inside.Program.{Program, routine_at}
use Rattle.cyc_plain.specs.inside.State.{Words, AreWords, put, Handler, Open, Caught, Activation, Frame, Configuration, State, Running, Ended, Stuck, output_of, input_of, status_of, place_of, demand, depth}
use Rattle.cyc_plain.specs.inside.Memory.{IsBelow, Range, OfGlobals, OfStore, OfSlots, range_of, global_at, slot_at, memory_at, with_global, with_slot, with_word}
use Rattle.cyc_plain.specs.inside.Step.{Choice, IsAllowed, MayServe, MayLie, gives, operand_word, returns, loads, saves, loads_byte, saves_byte, advanced, asks, is_intact, tries, closes, lands, throws, finishes}
use Rattle.cyc_plain.specs.inside.Step.{call_in, call_of, asked, callee_of, called, performed, executed, instruction_at, step, is_within, limit_of, limit_at, limited, limited_step, Step, start, machine}
use Rattle.cyc_words.proofs.Simulation.{Run-grows, Run-stays}

-- Returns true if an instruction calls neither a function nor the store, and does not check for stack space.
abbrev pub calls_nothing : Instruction → Bool
calls_nothing (instructions.Ask request) = false
calls_nothing (instructions.Call function arguments count result) = false
calls_nothing (instructions.Enter function) = false
calls_nothing i = true

-- ---- limits

pub over_within : (pages calls : ℕ) (ending : Ending) (output input : List ℕ) → is_within pages calls (Ended ending output input) ≡ true
over_within pages calls ending output input = and_from _ _ (le-leb 0 pages (omega arith)) (le-leb 0 calls (omega arith))

pub stuck_within : (pages calls : ℕ) (output input : List ℕ) → is_within pages calls (Stuck output input) ≡ true
stuck_within pages calls output input = and_from _ _ (le-leb 0 pages (omega arith)) (le-leb 0 calls (omega arith))

-- A state that is within a limit of calls is within every higher limit. No instruction raises the limit of calls.
pub within_more : (pages less more : ℕ) (s : State) → less ≤ more → is_within pages less s ≡ true → is_within pages more s ≡ true
within_more pages less more s over within =
    let (paged, some) = and_parts (nat_le (demand s) pages) (nat_le (depth s) less) within in
    and_from _ _ paged (le-leb (depth s) more (let d = leb-true (depth s) less some in omega (arith, d, over)))

limit_of_most : (o : Option Instruction) (calls : ℕ) → limit_of o calls ≤ calls
limit_of_most (Some (instructions.Enter function)) calls = omega arith
limit_of_most (Some i) calls = omega arith
limit_of_most None calls = omega arith

pub limit_at_most : (program : Program) (s : State) (calls : ℕ) → limit_at program s calls ≤ calls
limit_at_most program (Running c) calls = limit_of_most (instruction_at program (place_of (Running c))) calls
limit_at_most program (Ended ending output input) calls = omega arith
limit_at_most program (Stuck output input) calls = omega arith

-- An instruction that calls neither a function nor the store leaves the limit on the number of active calls unchanged.
pub limit_free : (i : Instruction) (calls : ℕ) → calls_nothing i ≡ true → limit_of (Some i) calls ≡ calls
limit_free (instructions.Enter function) calls free = absurd (let e : false ≡ true = free in cc)
limit_free i calls free = refl

-- A step to a state within the limits on pages and active calls is the same as on the machine without limits. A
-- step to a state beyond the limits on pages and active calls ends the run instead.
pub limited-within : (pages calls : ℕ) (old new : State) → is_within pages calls new ≡ true → limited pages calls old new ≡ new
limited-within pages calls old new within = ap (λ (b : Bool). if b then new else Ended Full (output_of old) (input_of old)) within

pub limited-full : (pages calls : ℕ) (old new : State) → is_within pages calls new ≡ false → limited pages calls old new ≡ Ended Full (output_of old) (input_of old)
limited-full pages calls old new within = ap (λ (b : Bool). if b then new else Ended Full (output_of old) (input_of old)) within

-- A property holds after a step with limits if it holds after the same step without limits and in the state that ends the run.
pub limited_either : (P : State → Type 0) (pages calls : ℕ) (old new : State) → (is_within pages calls new ≡ true → P new) → P (Ended Full (output_of old) (input_of old)) → P (limited pages calls old new)
limited_either P pages calls old new first second = go (is_within pages calls new) refl
  where
    go : (b : Bool) → is_within pages calls new ≡ b → P (if b then new else Ended Full (output_of old) (input_of old))
    go true e = first e
    go false e = second

-- ---- output and input

pub if_either : (P : State → Type 0) (b : Bool) (s t : State) → P s → P t → P (if b then s else t)
if_either P true s t first second = first
if_either P false s t first second = second

-- An instruction that prints nothing leaves the output unchanged, and the remaining input is a suffix of the input before.
abbrev Shrinks : List ℕ → List ℕ → Type 0
Shrinks old new = (read : List ℕ) × (old ≡ read ++ new)

abbrev GoesOn : Configuration → State → Type 0
GoesOn c s = IsPrefix c.output (output_of s) × Shrinks c.input (input_of s)

same : (c : Configuration) → IsPrefix c.output c.output × Shrinks c.input c.input
same c = (IsPrefix-refl c.output, ([], refl))

one_read_shrinks : (input : List ℕ) → Shrinks input (drop 1 input)
one_read_shrinks [] = ([], refl)
one_read_shrinks (b ∷ input) = (b ∷ [], refl)

returning_goes_on : (c : Configuration) (value results : ℕ) (frames : List Frame) → GoesOn c (returns c value results frames)
returning_goes_on c value results [] = same c
returning_goes_on c value results (f ∷ frames) = same c

loading_goes_on : (c : Configuration) (destination : ℕ) (found : Option ℕ) → GoesOn c (loads c destination found)
loading_goes_on c destination None = same c
loading_goes_on c destination (Some word) = same c

writing_goes_on : (program : Program) (c : Configuration) (address word : ℕ) (range : Range) → GoesOn c (Running (advanced (with_word program c address word range)))
writing_goes_on program c address word OfGlobals = go (global_at program address)
  where
    go : (number : Option ℕ) → GoesOn c (Running (advanced (with_global c number word)))
    go (Some number) = same c
    go None = same c
writing_goes_on program c address word OfStore = same c
writing_goes_on program c address word OfSlots = go (slot_at program c.active address)
  where
    go : (slot : Option ℕ) → GoesOn c (Running (advanced (with_slot program c slot address word)))
    go (Some number) = same c
    go None = same c

saved : (program : Program) (c : Configuration) (address word : ℕ) (found : Option ℕ) → GoesOn c (saves program c address word found)
saved program c address word None = same c
saved program c address word (Some old) = writing_goes_on program c address word (range_of address)

loaded_byte : (c : Configuration) (destination address : ℕ) (found : Option ℕ) → GoesOn c (loads_byte c destination address found)
loaded_byte c destination address None = same c
loaded_byte c destination address (Some word) = same c

saved_byte : (program : Program) (c : Configuration) (address byte : ℕ) (found : Option ℕ) → GoesOn c (saves_byte program c address byte found)
saved_byte program c address byte None = same c
saved_byte program c address byte (Some old) = writing_goes_on program c (word_of address) (with_byte old (address % 4) byte) (range_of (word_of address))

served : (serving : services.Choice) (c : Configuration) (destination : ℕ) (call : Call) (o : Option Refusal) → GoesOn c (asks serving c destination call o)
served serving c destination call None = same c
served serving c destination call (Some services.BadMark) = same c
served serving c destination call (Some services.BadHandle) = same c
served serving c destination call (Some services.BadSize) = same c
served serving c destination call (Some services.NotABlock) = same c
served serving c destination call (Some services.Full) = same c

tried : (choice : Choice) (c : Configuration) (first handler : ℕ) (handlers : List Handler) → GoesOn c (tries choice c first handler handlers)
tried choice c first handler [] = same c
tried choice c first handler (Open index other contents ∷ handlers) = same c
tried choice c first handler (Caught ∷ handlers) = same c

closing_goes_on : (c : Configuration) (first : ℕ) (handlers : List Handler) → GoesOn c (closes c first handlers)
closing_goes_on c first [] = same c
closing_goes_on c first (Caught ∷ handlers) = same c
closing_goes_on c first (Open index other contents ∷ handlers) =
    if_either (GoesOn c) (other == first)
    (if is_intact c.active.slots first contents then Running (advanced (record c { active = record c.active { handlers = handlers } })) else Stuck c.output c.input) (closes c first handlers)
    (if_either (GoesOn c) (is_intact c.active.slots first contents) (Running (advanced (record c { active = record c.active { handlers = handlers } }))) (Stuck c.output c.input) (same c) (same c))
    (closing_goes_on c first handlers)

landed : (c : Configuration) (tag value : ℕ) (a : Activation) (frames : List Frame) (beyond : State) (handlers : List Handler) → GoesOn c beyond → GoesOn c (lands c tag value a frames beyond handlers)
landed c tag value a frames beyond [] goes = goes
landed c tag value a frames beyond (Caught ∷ handlers) goes = same c
landed c tag value a frames beyond (Open index first contents ∷ handlers) goes =
    if_either (GoesOn c) (is_intact a.slots first contents)
    (Running (record c { active = record a { next = index; slots = put (put a.slots first tag) (suc first) value; handlers = Caught ∷ handlers }; frames = frames }))
    (Stuck c.output c.input) (same c) (same c)

thrown : (c : Configuration) (tag value : ℕ) (a : Activation) (frames : List Frame) → GoesOn c (throws c tag value a frames)
thrown c tag value a [] = landed c tag value a [] (Ended (Uncaught tag (signed value)) c.output c.input) a.handlers (same c)
thrown c tag value a (f ∷ frames) = landed c tag value a (f ∷ frames) (throws c tag value f.caller frames) a.handlers (thrown c tag value f.caller frames)

finished : (c : Configuration) (value results : ℕ) (handlers : List Handler) → GoesOn c (finishes c value results handlers)
finished c value results [] = returning_goes_on c value results c.frames
finished c value results (h ∷ handlers) = same c

performs : (program : Program) (choice : Choice) (c : Configuration) (i : Instruction) → GoesOn c (performed program choice c i)
performs program choice c (instructions.Move destination source) = same c
performs program choice c (instructions.MoveWords destination source count) = same c
performs program choice c (instructions.Unary operator destination operand) = same c
performs program choice c (instructions.Binary operator destination left right) = if_either (GoesOn c) (has_no_result operator (operand_word c.active.slots right)) (Stuck c.output c.input) (gives c destination (binary_result operator (operand_word c.active.slots left) (operand_word c.active.slots right))) (same c) (same c)
performs program choice c (instructions.Jump target) = same c
performs program choice c (instructions.Branch comparison left right target) = same c
performs program choice c (instructions.Call function arguments count result) = same c
performs program choice c (instructions.Return value) = returning_goes_on c value (routine_at program c.active.function).results c.frames
performs program choice c (instructions.ReadByte destination) = (IsPrefix-refl c.output, one_read_shrinks c.input)
performs program choice c (instructions.WriteByte source) = (IsPrefix-append c.output _, ([], refl))
performs program choice c (instructions.LoadGlobal destination global) = same c
performs program choice c (instructions.CountLexical destination) = same c
performs program choice c (instructions.StoreGlobal global source) = same c
performs program choice c (instructions.Load destination address offset) = loading_goes_on c destination _
performs program choice c (instructions.Store address offset source) =
    saved program c (add_of (operand_word c.active.slots address) offset) (operand_word c.active.slots source) (memory_at program c (add_of (operand_word c.active.slots address) offset))
performs program choice c (instructions.LoadByte destination address offset) = loaded_byte c destination (add_of (operand_word c.active.slots address) offset) (memory_at program c (word_of (add_of (operand_word c.active.slots address) offset)))
performs program choice c (instructions.StoreByte address offset source) = saved_byte program c (add_of (operand_word c.active.slots address) offset) (operand_word c.active.slots source % 256) (memory_at program c (word_of (add_of (operand_word c.active.slots address) offset)))
performs program choice c (instructions.AddressOf destination slot count) = same c
performs program choice c (instructions.Ask request) =
    served choice.serving c (destination_of request) (call_in c.active.slots request) (refusal c.store (call_in c.active.slots request))
performs program choice c (instructions.Try first handler) = tried choice c first handler c.active.handlers
performs program choice c (instructions.Leave first) = closing_goes_on c first c.active.handlers
performs program choice c (instructions.Throw tag value) = thrown c (operand_word c.active.slots tag) (operand_word c.active.slots value) c.active c.frames
performs program choice c (instructions.Finish value) = finished c value (routine_at program c.active.function).results c.active.handlers
performs program choice c (instructions.Uncaught tag value) = same c
performs program choice c (instructions.Enter function) = same c

executes : (program : Program) (choice : Choice) (c : Configuration) (o : Option Instruction) → GoesOn c (executed program choice c o)
executes program choice c (Some i) = performs program choice c i
executes program choice c None = same c

abbrev StateGoesOn : State → State → Type 0
StateGoesOn old new = IsPrefix (output_of old) (output_of new) × Shrinks (input_of old) (input_of new)

each_step_goes_on : (program : Program) (choice : Choice) (s : State) → StateGoesOn s (step program choice s)
each_step_goes_on program choice (Running c) = executes program choice c (instruction_at program (place_of (Running c)))
each_step_goes_on program choice (Ended ending output input) = (IsPrefix-refl output, ([], refl))
each_step_goes_on program choice (Stuck output input) = (IsPrefix-refl output, ([], refl))

limited_steps : (program : Program) (pages calls : ℕ) (old new : State) → Step program pages calls old new → StateGoesOn old new
limited_steps program pages calls old new (choice, allowed, is) =
    subst (StateGoesOn old) (sym is)
    (limited_either (StateGoesOn old) pages (limit_at program old calls) old (step program choice old) (λ within. each_step_goes_on program choice old) (IsPrefix-refl (output_of old), ([], refl)))

-- ---- ended runs

-- Returns the choice of zeros for all values that a step leaves open. The choice of zeros is allowed
-- for a step that calls neither a function nor the store.
abbrev pub zeros : Choice
zeros = record {
  contents = λ (slot : ℕ). 0;
  base = 0;
  serving = record { handle = 0; address = 0; memory = λ (address : ℕ). 0 };
}

serves_none : (serving : services.Choice) (call : Option Call) (s : State) → call ≡ None → MayServe serving call s
serves_none serving None s none = tt
serves_none serving (Some call) s none = absurd (let e : Some call ≡ None = none in cc)

lies_none : (program : Program) (base : ℕ) (callee : Option ℕ) (s : State) → callee ≡ None → MayLie program base callee s
lies_none program base None s none = tt
lies_none program base (Some function) s none = absurd (let e : Some function ≡ None = none in cc)

-- A step that calls no function is allowed with any choice of the address for a new call's slots.
pub lies_at : (program : Program) (c : Configuration) (i : Instruction) (base : ℕ) → instruction_at program (place_of (Running c)) ≡ Some i → callee_of (Some i) ≡ None
    → MayLie program base (called program (Running c)) (Running c)
lies_at program c i base at free = lies_none program base (called program (Running c)) (Running c) (ap callee_of at ∙ free)

pub zeros_allowed : (program : Program) (s : State) → asked program s ≡ None → called program s ≡ None → IsAllowed program s zeros
zeros_allowed program s none nobody = record {
  contents = λ slot. omega arith;
  lies = lies_none program 0 (called program s) s nobody;
  serves = serves_none zeros.serving (asked program s) s none;
}

asks_none : (slots : Words) (i : Instruction) → calls_nothing i ≡ true → call_of slots (Some i) ≡ None
asks_none slots (instructions.Ask request) free = absurd (let e : false ≡ true = free in cc)
asks_none slots i free = refl

callee_none : (i : Instruction) → calls_nothing i ≡ true → callee_of (Some i) ≡ None
callee_none (instructions.Call function arguments count result) free = absurd (let e : false ≡ true = free in cc)
callee_none (instructions.Enter function) free = absurd (let e : false ≡ true = free in cc)
callee_none i free = refl

pub zeros_at : (program : Program) (c : Configuration) (i : Instruction) → instruction_at program (place_of (Running c)) ≡ Some i → calls_nothing i ≡ true → IsAllowed program (Running c) zeros
zeros_at program c i at free = zeros_allowed program (Running c) (ap (call_of c.active.slots) at ∙ asks_none c.active.slots i free) (ap callee_of at ∙ callee_none i free)

-- A state that has ended makes no request to the store.
over_asks : (program : Program) (s : State) (ending : Ending) → status_of s ≡ simulation.Ended ending → asked program s ≡ None
over_asks program (Running c) ending ended = absurd (let e : simulation.Running ≡ simulation.Ended ending = ended in cc)
over_asks program (Ended other output input) ending ended = refl
over_asks program (Stuck output input) ending ended = refl

over_calls : (program : Program) (s : State) (ending : Ending) → status_of s ≡ simulation.Ended ending → called program s ≡ None
over_calls program (Running c) ending ended = absurd (let e : simulation.Running ≡ simulation.Ended ending = ended in cc)
over_calls program (Ended other output input) ending ended = refl
over_calls program (Stuck output input) ending ended = refl

-- If the store (heap of regions) refuses a request, the step is allowed with any choice of handle, address and memory contents.
refused_serves : (serving : services.Choice) (call : Call) (why : Refusal) (c : Configuration) → refusal c.store call ≡ Some why → MayServe serving (Some call) (Running c)
refused_serves serving call why c refused none = absurd (let e : Some why ≡ None = sym refused ∙ none in cc)

-- An instruction that makes a request to the store calls no function.
asking_calls : (slots : Words) (o : Option Instruction) (call : Call) → call_of slots o ≡ Some call → callee_of o ≡ None
asking_calls slots None call asks = refl
asking_calls slots (Some (instructions.Call function arguments count result)) call asks = absurd (let e : None ≡ Some call = asks in cc)
asking_calls slots (Some (instructions.Enter function)) call asks = absurd (let e : None ≡ Some call = asks in cc)
asking_calls slots (Some i) call asks = refl

pub zeros_refused : (program : Program) (c : Configuration) (call : Call) (why : Refusal) → asked program (Running c) ≡ Some call → refusal c.store call ≡ Some why → IsAllowed program (Running c) zeros
zeros_refused program c call why asks refused = record {
  contents = λ slot. omega arith;
  lies = lies_none program 0 (called program (Running c)) (Running c) (asking_calls c.active.slots (instruction_at program (place_of (Running c))) call asks);
  serves = subst (λ (o : Option Call). MayServe zeros.serving o (Running c)) (sym asks) (refused_serves zeros.serving call why c refused);
}

-- An instruction that calls a function makes no request to the store.
calling_asks : (slots : Words) (o : Option Instruction) (function : ℕ) → callee_of o ≡ Some function → call_of slots o ≡ None
calling_asks slots None function calls = refl
calling_asks slots (Some (instructions.Ask request)) function calls = absurd (let e : None ≡ Some function = calls in cc)
calling_asks slots (Some i) function calls = refl

-- At a call, the callee's slots may be at any address below the caller's slots that leaves space for them.
pub called_at : (program : Program) (c : Configuration) (function : ℕ) (choice : Choice) → called program (Running c) ≡ Some function → AreWords choice.contents
    → IsBelow program function choice.base c.active.base → IsAllowed program (Running c) choice
called_at program c function choice calls contents below = record {
  contents = contents;
  lies = subst (λ (o : Option ℕ). MayLie program choice.base o (Running c)) (sym calls) below;
  serves = serves_none choice.serving (asked program (Running c)) (Running c) (calling_asks c.active.slots (instruction_at program (place_of (Running c))) function calls);
}

over_steps : (program : Program) (pages calls : ℕ) (choice : Choice) (s : State) (ending : Ending) → status_of s ≡ simulation.Ended ending → limited_step program pages calls choice s ≡ s
over_steps program pages calls choice (Running c) ending ended = absurd (let e : simulation.Running ≡ simulation.Ended ending = ended in cc)
over_steps program pages calls choice (Ended other output input) ending ended =
    limited-within pages calls (Ended other output input) (Ended other output input) (over_within pages calls other output input)
over_steps program pages calls choice (Stuck output input) ending ended = absurd (let e : simulation.Failed ≡ simulation.Ended ending = ended in cc)

pub lawful : (program : Program) (pages calls : ℕ) → IsLawful (machine program pages calls)
lawful program pages calls = record {
  grows = limited_steps program pages calls;
  stays = λ old new ending ended stepped. stepped.2 ∙ over_steps program pages calls stepped.0 old ending ended;
  rests = λ s ending ended. (zeros, zeros_allowed program s (over_asks program s ending ended) (over_calls program s ending ended), sym (over_steps program pages calls zeros s ending ended));
}

-- ---- whole runs

pub ended_stays : (program : Program) (pages calls n : ℕ) (old new : State) (ending : Ending) → status_of old ≡ simulation.Ended ending → Run (machine program pages calls) n old new → new ≡ old
ended_stays program pages calls n old new ending ended run = Run-stays (machine program pages calls) (lawful program pages calls) n old new ending ended run

pub output_grows : (program : Program) (pages calls n : ℕ) (old new : State) → Run (machine program pages calls) n old new → IsPrefix (output_of old) (output_of new)
output_grows program pages calls n old new run = (Run-grows (machine program pages calls) (lawful program pages calls) n old new run).0

pub input_shrinks : (program : Program) (pages calls n : ℕ) (old new : State) → Run (machine program pages calls) n old new → (read : List ℕ) × (input_of old ≡ read ++ input_of new)
input_shrinks program pages calls n old new run = (Run-grows (machine program pages calls) (lawful program pages calls) n old new run).1

-- A step exists if the instruction calls no function and makes no request, if the stack has space for the callee's
-- slots, or if the store refuses the request.
pub goes_on : (program : Program) (pages calls : ℕ) (old : State) → asked program old ≡ None → called program old ≡ None → (new : State) × Step program pages calls old new
goes_on program pages calls old none nobody = (limited_step program pages calls zeros old, (zeros, zeros_allowed program old none nobody, refl))

pub goes_on_called : (program : Program) (pages calls : ℕ) (c : Configuration) (function base : ℕ) → called program (Running c) ≡ Some function → IsBelow program function base c.active.base
    → (new : State) × Step program pages calls (Running c) new
goes_on_called program pages calls c function base is below =
    let choice : Choice = record zeros { base = base } in
    (limited_step program pages calls choice (Running c), (choice, called_at program c function choice is (λ slot. omega arith) below, refl))

pub goes_on_refused : (program : Program) (pages calls : ℕ) (c : Configuration) (call : Call) (why : Refusal) → asked program (Running c) ≡ Some call → refusal c.store call ≡ Some why
    → (new : State) × Step program pages calls (Running c) new
goes_on_refused program pages calls c call why asks refused =
    (limited_step program pages calls zeros (Running c), (zeros, zeros_refused program c call why asks refused, refl))

-- A run that starts within its limits of pages and calls stays within them.
pub stays_within : (program : Program) (pages calls n : ℕ) (old new : State) → is_within pages calls old ≡ true → Run (machine program pages calls) n old new → is_within pages calls new ≡ true
stays_within program pages calls zero old new within run = ap (is_within pages calls) run ∙ within
stays_within program pages calls (suc n) old new within (mid, (choice, allowed, is), rest) =
    let next : is_within pages calls mid ≡ true =
    ap (is_within pages calls) is ∙ limited_either (λ (s : State). is_within pages calls s ≡ true) pages (limit_at program old calls) old (step program choice old) (λ (w : is_within pages (limit_at program old calls) (step program choice old) ≡ true). within_more pages (limit_at program old calls) calls (step program choice old) (limit_at_most program old calls) w) (over_within pages calls Full (output_of old) (input_of old)) in
    stays_within program pages calls n mid new next rest

pub starts_within : (program : Program) (pages calls base : ℕ) (store : StoreState) (input : List ℕ) → IsNew pages store → 1 ≤ pages → 1 ≤ calls → is_within pages calls (start program base store input) ≡ true
starts_within program pages calls base store input new some_page some_call =
    and_from _ _ (le-leb _ pages (omega (arith, new_demand pages store new, some_page))) (le-leb 1 calls some_call)
