-- The meaning of a plain program. A step is a function of the state and of a choice of the values that the step leaves open. Steps form a
-- relation, since any allowed choice may be made.
use Rattle.std.specs.Prelude.{◌≡◌, ℕ, zero, suc, ◌+◌, ◌-◌, ◌*◌, ◌%◌, ◌^◌, Bool, ◌==◌, ◌&&◌, nat_le, List, [], ◌∷◌, ◌++◌, drop, Option, Some, None, unwrap_or, slice_get, slice_index, if◌then◌else◌}
use Rattle.cyc_words.specs.Word.{IsWord, signed, add_of}
use Rattle.cyc_words.specs.Bytes.{byte_in, with_byte, word_of}
use Rattle.cyc_words.specs.Ending.{Returned, Uncaught, Full}
use Rattle.cyc_store.specs.State.{StoreState, lexical_count}
use Rattle.cyc_store.specs.Services as services
use Rattle.cyc_store.specs.Services.{Call, Answer, Refusal, refusal, served, answer}
use Rattle.cyc_plain.specs.declared.instruction.Instruction.{Instruction}
use Rattle.cyc_plain.specs.declared.instruction.Instruction.TheVariants as instructions
use Rattle.cyc_plain.specs.declared.instruction.Operand.{Operand}
use Rattle.cyc_plain.specs.declared.instruction.Operand.TheVariants as operands
use Rattle.cyc_plain.specs.declared.instruction.Request.{Request}
use Rattle.cyc_plain.specs.declared.instruction.Request.TheVariants as requests
use Rattle.cyc_plain.specs.inside.Requests.{destination_of}
use Rattle.cyc_plain.specs.inside.Operators.{unary_result, binary_result, has_no_result, compares}
use Rattle.cyc_plain.specs.inside.Program.{Program, CodePlace, routine_at}
use Rattle.cyc_plain.specs.declared.limits.TheConstants.{RECORD_WORDS}
use Rattle.cyc_words.specs.Simulation.{Machine}
use Rattle.cyc_plain.specs.inside.Memory.{IsBelow, memory_at, with_memory}
use Rattle.cyc_plain.specs.inside.State.{Words, AreWords, put, copied, Handler, Open, Caught, Activation, Frame, Configuration, State, Running, Ended, Stuck, output_of, input_of, seen_of, status_of, place_of, demand, depth}

-- The choice made in a step: the initial words of a new call's slots, the address of the first slot, and the store's choice if the step
-- makes a request.
pub record Choice : Type 0 where
  pub contents : Words
  pub base : ℕ
  pub serving : services.Choice

-- Returns the configuration with other words in the active call's slots.

abbrev pub with_slots : Configuration → Words → Configuration
with_slots c slots = record c { active = record c.active { slots = slots } }

abbrev pub at : Configuration → ℕ → Configuration
at c index = record c { active = record c.active { next = index } }

-- Returns the configuration that continues at the next instruction.
abbrev pub advanced : Configuration → Configuration
advanced c = at c (c.active.next + 1)

-- Returns the state after a slot is written, which continues at the next instruction.
abbrev pub gives : Configuration → ℕ → ℕ → State
gives c destination word = Running (advanced (with_slots c (put c.active.slots destination word)))

abbrev pub branches : Configuration → Bool → ℕ → State
branches c taken target = Running (at c (if taken then target else c.active.next + 1))

-- Returns the state after a call: the new activation has its arguments in its first slots, and the
-- caller waits at the instruction after the call.
abbrev pub calls : Choice → Configuration → (function arguments count result : ℕ) → State
calls choice c function arguments count result =
    Running (record c {
      active = record {
        function = function;
        next = 0;
        base = choice.base;
        slots = copied c.active.slots arguments count choice.contents 0;
        handlers = [];
      };
      frames = record { caller = (advanced c).active; result = result } ∷ c.frames;
    })

-- Returns the state after `results` words are returned to the newest waiting call. If no call waits, `main` returns and the run ends.
abbrev pub returns : Configuration → (value results : ℕ) → List Frame → State
returns c value results [] = Ended (Returned (signed (c.active.slots value))) c.output c.input
returns c value results (f ∷ frames) =
    Running (record c {
      active = record f.caller { slots = copied c.active.slots value results f.caller.slots f.result };
      frames = frames;
    })

-- Returns the word that an operand denotes.
abbrev pub operand_word : Words → Operand → ℕ
operand_word slots (operands.Slot number) = slots number
operand_word slots (operands.Word word) = word

-- Returns the state after a word of memory is loaded into a slot. If memory has no word at the address, the run gets stuck.

abbrev pub loads : Configuration → (destination : ℕ) → Option ℕ → State
loads c destination (Some word) = gives c destination word
loads c destination None = Stuck c.output c.input

abbrev pub saves : Program → Configuration → (address word : ℕ) → Option ℕ → State
saves program c address word (Some old) = Running (advanced (with_memory program c address word))
saves program c address word None = Stuck c.output c.input

-- Returns the state after the byte at an address is loaded into a slot; the byte is taken from the word that contains it. If memory
-- has no word at the address, the run gets stuck.

abbrev pub loads_byte : Configuration → (destination address : ℕ) → Option ℕ → State
loads_byte c destination address (Some word) = gives c destination (byte_in word (address % 4))
loads_byte c destination address None = Stuck c.output c.input

abbrev pub saves_byte : Program → Configuration → (address byte : ℕ) → Option ℕ → State
saves_byte program c address byte (Some old) =
    Running (advanced (with_memory program c (word_of address) (with_byte old (address % 4) byte)))
saves_byte program c address byte None = Stuck c.output c.input

-- Returns the call of the store (heap of regions) for a request, with the words of its operands.
abbrev pub call_in : Words → Request → Call
call_in slots (requests.OpenLexical destination) = services.OpenLexical
call_in slots (requests.CloseTo mark) = services.CloseTo (operand_word slots mark)
call_in slots (requests.OpenDynamic destination) = services.OpenDynamic
call_in slots (requests.CloseDynamic handle) = services.CloseDynamic (operand_word slots handle)
call_in slots (requests.Allocate destination handle words) =
    services.Allocate (operand_word slots handle) (operand_word slots words)
call_in slots (requests.Free address) = services.Free (operand_word slots address)

-- Returns the slots after the store's result is written to the slots from `destination` on.
abbrev pub reported : Answer → (destination : ℕ) → Words → Words
reported (services.Opened handle) destination slots = put slots destination handle
reported (services.OpenedLexical handle mark) destination slots = put (put slots destination handle) (suc destination) mark
reported (services.Allocated address) destination slots = put slots destination address
reported other destination slots = slots

-- Returns the configuration after the store has served a call.
abbrev pub served_to : services.Choice → Configuration → (destination : ℕ) → Call → Configuration
served_to serving c destination call =
    advanced (with_slots (record c { store = served c.store call serving }) (reported (answer c.store call serving) destination c.active.slots))

-- Returns the state after a call of the store. If the store lacks memory for the result, the run ends for every choice of the store, since
-- the pages required depend only on sizes. A run gets stuck if the store refuses a call for a reason other than lack of memory.
abbrev pub asks : services.Choice → Configuration → (destination : ℕ) → Call → Option Refusal → State
asks serving c destination call None = Running (served_to serving c destination call)
asks serving c destination call (Some services.Full) = Ended Full c.output c.input
asks serving c destination call (Some why) = Stuck c.output c.input

-- The effect of instructions on exception handlers. The record of a handler occupies slots and is read only by the machine code generated
-- from the plain program. If a handler's record was overwritten, the run gets stuck.

-- Returns true if the slots of a handler's record still have the words from when the handler was opened.
abbrev pub is_intact : Words → (first : ℕ) → (contents : Words) → Bool
is_intact slots first contents =
    slots first == contents 0
    && (slots (first + 1) == contents 1 && (slots (first + 2) == contents 2 && slots (first + 3) == contents 3))

-- Returns the state after one more handler is opened.
abbrev pub opens : Choice → Configuration → (first : ℕ) → State
opens choice c first =
    Running (record c {
      active = record c.active {
        next = c.active.next + 1;
        slots = copied choice.contents 0 RECORD_WORDS c.active.slots first;
        handlers = Open c.active.next first choice.contents ∷ c.active.handlers;
      };
    })

-- Returns the state after `Try`, which opens a handler or catches the exception that has reached its handler.
abbrev pub tries : Choice → Configuration → (first handler : ℕ) → List Handler → State
tries choice c first handler [] = opens choice c first
tries choice c first handler (Open index other contents ∷ handlers) = opens choice c first
tries choice c first handler (Caught ∷ handlers) =
    Running (record c { active = record c.active { next = handler; handlers = handlers } })

-- Returns the state after the handler with this record, and every newer one, is closed.
abbrev pub closes : Configuration → (first : ℕ) → List Handler → State
closes c first [] = Stuck c.output c.input
closes c first (Caught ∷ handlers) = Stuck c.output c.input
closes c first (Open index other contents ∷ handlers) =
    if other == first
    then if is_intact c.active.slots first contents
    then Running (advanced (record c { active = record c.active { handlers = handlers } }))
    else Stuck c.output c.input
    else closes c first handlers

-- Returns the state after an exception is passed to the newest handler of a call, or on to the caller. The exception's tag and value
-- are written to the handler's record.
abbrev pub lands : Configuration → (tag value : ℕ) → Activation → List Frame → (beyond : State) → List Handler → State
lands c tag value a frames beyond [] = beyond
lands c tag value a frames beyond (Caught ∷ handlers) = Stuck c.output c.input
lands c tag value a frames beyond (Open index first contents ∷ handlers) =
    if is_intact a.slots first contents
    then Running (record c {
      active = record a {
        next = index;
        slots = put (put a.slots first tag) (suc first) value;
        handlers = Caught ∷ handlers;
      };
      frames = frames;
    })
    else Stuck c.output c.input

abbrev pub throws : Configuration → (tag value : ℕ) → Activation → List Frame → State
throws c tag value a [] = lands c tag value a [] (Ended (Uncaught tag (signed value)) c.output c.input) a.handlers
throws c tag value a (f ∷ frames) =
    lands c tag value a (f ∷ frames) (throws c tag value f.caller frames) a.handlers

-- Returns the state after a function returns; the run gets stuck if a handler of the call is open.
abbrev pub finishes : Configuration → (value results : ℕ) → List Handler → State
finishes c value results [] = returns c value results c.frames
finishes c value results (h ∷ handlers) = Stuck c.output c.input

-- Returns the state after an instruction is executed.
abbrev pub performed : Program → Choice → Configuration → Instruction → State
performed program choice c (instructions.Move destination source) =
    gives c destination (operand_word c.active.slots source)
performed program choice c (instructions.MoveWords destination source count) =
    Running (advanced (with_slots c (copied c.active.slots source count c.active.slots destination)))
performed program choice c (instructions.Unary operator destination operand) =
    gives c destination (unary_result operator (operand_word c.active.slots operand))
performed program choice c (instructions.Binary operator destination left right) =
    if has_no_result operator (operand_word c.active.slots right)
    then Stuck c.output c.input
    else gives c destination (binary_result operator (operand_word c.active.slots left) (operand_word c.active.slots right))
performed program choice c (instructions.Jump target) = Running (at c target)
performed program choice c (instructions.Branch comparison left right target) =
    branches c (compares comparison (operand_word c.active.slots left) (operand_word c.active.slots right)) target
performed program choice c (instructions.Call function arguments count result) =
    calls choice c function arguments count result
performed program choice c (instructions.Return value) =
    returns c value (routine_at program c.active.function).results c.frames
performed program choice c (instructions.ReadByte destination) =
    gives (record c { input = drop 1 c.input }) destination (unwrap_or (slice_get c.input 0) (2 ^ 32 - 1))
performed program choice c (instructions.WriteByte source) =
    Running (advanced (record c { output = c.output ++ operand_word c.active.slots source % 256 ∷ [] }))
performed program choice c (instructions.AddressOf destination slot count) =
    gives c destination (add_of c.active.base (4 * slot))
performed program choice c (instructions.LoadGlobal destination global) = gives c destination (c.globals global)
performed program choice c (instructions.StoreGlobal global source) =
    Running (advanced (record c { globals = put c.globals global (operand_word c.active.slots source) }))
performed program choice c (instructions.Load destination address offset) =
    loads c destination (memory_at program c (add_of (operand_word c.active.slots address) offset))
performed program choice c (instructions.Store address offset source) =
    saves program c (add_of (operand_word c.active.slots address) offset) (operand_word c.active.slots source)
    (memory_at program c (add_of (operand_word c.active.slots address) offset))
performed program choice c (instructions.LoadByte destination address offset) =
    loads_byte c destination (add_of (operand_word c.active.slots address) offset)
    (memory_at program c (word_of (add_of (operand_word c.active.slots address) offset)))
performed program choice c (instructions.StoreByte address offset source) =
    saves_byte program c (add_of (operand_word c.active.slots address) offset)
    (operand_word c.active.slots source % 256)
    (memory_at program c (word_of (add_of (operand_word c.active.slots address) offset)))
performed program choice c (instructions.Ask request) =
    asks choice.serving c (destination_of request) (call_in c.active.slots request)
    (refusal c.store (call_in c.active.slots request))
performed program choice c (instructions.CountLexical destination) =
    gives c destination (lexical_count c.store.regions % 2 ^ 32)
performed program choice c (instructions.Try first handler) = tries choice c first handler c.active.handlers
performed program choice c (instructions.Leave first) = closes c first c.active.handlers
performed program choice c (instructions.Throw tag value) =
    throws c (operand_word c.active.slots tag) (operand_word c.active.slots value) c.active c.frames
performed program choice c (instructions.Finish value) =
    finishes c value (routine_at program c.active.function).results c.active.handlers
performed program choice c (instructions.Uncaught tag value) =
    Ended (Uncaught tag (signed (operand_word c.active.slots value))) c.output c.input
performed program choice c (instructions.Enter function) = Running (advanced c)

-- Returns the instruction at a code position, if there is one.
abbrev pub instruction_at : Program → CodePlace → Option Instruction
instruction_at program place = slice_get (routine_at program place.function).code place.index

-- Returns the call of the store that an instruction makes, if it makes one.
abbrev pub call_of : Words → Option Instruction → Option Call
call_of slots (Some (instructions.Ask request)) = Some (call_in slots request)
call_of slots (Some instruction) = None
call_of slots None = None

-- Returns the call of the store that the next step makes, if it makes one.
abbrev pub asked : Program → State → Option Call
asked program (Running c) = call_of c.active.slots (instruction_at program (place_of (Running c)))
asked program (Ended ending output input) = None
asked program (Stuck output input) = None

-- `HasAnswerWords` says that each handle, address or count in the store's result fits in a machine word.
abbrev pub HasAnswerWords : Answer → Type 0
HasAnswerWords (services.Opened handle) = IsWord handle
HasAnswerWords (services.OpenedLexical handle mark) = IsWord handle × IsWord mark
HasAnswerWords (services.Allocated address) = IsWord address
HasAnswerWords other = Unit {0}

-- `IsServed` says that the store allows this choice of handle, address and memory contents for a call, and that its result fits in machine
-- words.
pub record IsServed (store : StoreState) (call : Call) (serving : services.Choice) : Type 0 where
  pub allowed : services.IsAllowed store call serving
  pub words : HasAnswerWords (answer store call serving)

abbrev pub MayServe : services.Choice → Option Call → State → Type 0
MayServe serving (Some call) (Running c) = refusal c.store call ≡ None → IsServed c.store call serving
MayServe serving call s = Unit {0}

-- Returns the function that an instruction calls, or for which it checks for stack space, if there is one.
abbrev pub callee_of : Option Instruction → Option ℕ
callee_of (Some (instructions.Call function arguments count result)) = Some function
callee_of (Some (instructions.Enter function)) = Some function
callee_of (Some instruction) = None
callee_of None = None

-- Returns the function that the next step calls, or for which it checks for stack space, if there is one.
abbrev pub called : Program → State → Option ℕ
called program (Running c) = callee_of (instruction_at program (place_of (Running c)))
called program (Ended ending output input) = None
called program (Stuck output input) = None

-- `MayLie` says that the slots of a new call have lower addresses than those of its caller. For `Enter`, which makes no call,
-- `MayLie` requires that a call's slots could have such addresses.
abbrev pub MayLie : Program → (base : ℕ) → Option ℕ → State → Type 0
MayLie program base (Some function) (Running c) = IsBelow program function base c.active.base
MayLie program base callee s = Unit {0}

-- `IsAllowed` describes the choices that a step allows. The initial values of a new call's slots are machine words, and there is
-- space for the slots at the chosen address. The choice of handle, address and memory contents is one that the store allows.
pub record IsAllowed (program : Program) (s : State) (choice : Choice) : Type 0 where
  pub contents : AreWords choice.contents
  pub lies : MayLie program choice.base (called program s) s
  pub serves : MayServe choice.serving (asked program s) s

abbrev pub executed : Program → Choice → Configuration → Option Instruction → State
executed program choice c (Some instruction) = performed program choice c instruction
executed program choice c None = Stuck c.output c.input

-- Returns the state after one step of a plain program without limits. A run that has ended stays in its state.
abbrev pub step : Program → Choice → State → State
step program choice (Running c) = executed program choice c (instruction_at program (place_of (Running c)))
step program choice (Ended ending output input) = Ended ending output input
step program choice (Stuck output input) = Stuck output input

-- A run has limits: at most `pages` pages of the store and `calls` active calls. A step that would exceed a limit ends the run
-- instead, with output and input as before the step.
abbrev pub is_within : (pages calls : ℕ) → State → Bool
is_within pages calls s = nat_le (demand s) pages && nat_le (depth s) calls

abbrev pub limited : (pages calls : ℕ) → (old new : State) → State
limited pages calls old new = if is_within pages calls new then new else Ended Full (output_of old) (input_of old)

-- Returns the limit of calls in the state after an instruction. After `Enter` the limit is one less, so that the call that `Enter` checks,
-- but does not make, would be within the limit.
abbrev pub limit_of : Option Instruction → (calls : ℕ) → ℕ
limit_of (Some (instructions.Enter function)) calls = calls - 1
limit_of (Some instruction) calls = calls
limit_of None calls = calls

-- Returns the limit of calls in the state after the next step.
abbrev pub limit_at : Program → State → (calls : ℕ) → ℕ
limit_at program (Running c) calls = limit_of (instruction_at program (place_of (Running c))) calls
limit_at program (Ended ending output input) calls = calls
limit_at program (Stuck output input) calls = calls

abbrev pub limited_step : Program → (pages calls : ℕ) → Choice → State → State
limited_step program pages calls choice s = limited pages (limit_at program s calls) s (step program choice s)

-- `Step` says that a program with these limits may step from `old` to `new`.
abbrev pub Step : Program → (pages calls : ℕ) → State → State → Type 0
Step program pages calls old new =
    (choice : Choice) × IsAllowed program old choice × (new ≡ limited_step program pages calls choice old)

-- Returns the initial state: `main` is called with its slots from `base` on, nothing is printed, and all input is unread.
abbrev pub start : Program → (base : ℕ) → StoreState → List ℕ → State
start program base store input =
    Running (record {
      active = record { function = program.main; next = 0; base = base; slots = λ (slot : ℕ). 0; handlers = [] };
      frames = [];
      globals = λ (global : ℕ). slice_index program.globals global;
      store = store;
      output = [];
      input = input;
    })

-- Returns the transition system of a plain program with limits.
abbrev pub machine : Program → (pages calls : ℕ) → Machine
machine program pages calls = record {
  State = State;
  Place = CodePlace;
  Step = Step program pages calls;
  place = place_of;
  seen = seen_of;
  status = status_of;
}

-- Returns the state after `n` steps that all make the same choice of the values that a step leaves open.
abbrev pub run : Program → (pages calls : ℕ) → Choice → ℕ → State → State
run program pages calls choice zero s = s
run program pages calls choice (suc n) s =
    run program pages calls choice n (limited_step program pages calls choice s)
