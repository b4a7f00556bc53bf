-- In every state of a run, the slots of each call have lower addresses than those of its caller.
use Rattle.std.proofs.Common.{ℕ, zero, suc, ◌%◌, List, [], ◌∷◌, Option, None, Some, sym, subst}
use Rattle.std.specs.Prelude.{◌==◌, if◌then◌else◌}
use Rattle.cyc_words.specs.Ending.{Uncaught}
use Rattle.cyc_words.specs.Word.{signed, add_of}
use Rattle.cyc_words.specs.Bytes.{with_byte, word_of}
use Rattle.cyc_words.specs.Simulation.{Run}
use Rattle.cyc_store.specs.State.{StoreState}
use Rattle.cyc_store.specs.Services as services
use Rattle.cyc_store.specs.Services.{Call, Refusal, refusal}
use Rattle.cyc_plain.specs.declared.instruction.Instruction.{Instruction}
use Rattle.cyc_plain.specs.declared.instruction.Instruction.TheVariants as instructions
use Rattle.cyc_plain.specs.inside.Operators.{has_no_result, binary_result}
use Rattle.cyc_plain.specs.inside.Requests.{destination_of}
use Rattle.cyc_plain.specs.inside.Program.{Program, routine_at}
use Rattle.cyc_plain.specs.inside.State.{put, Handler, Open, Caught, Activation, Frame, Configuration, State, Running, Ended, Stuck, place_of}
use Rattle.cyc_plain.specs.inside.Memory.{slots_end, IsBelow, AreBelow, LieBelow, Range, OfGlobals, OfStore, OfSlots, range_of, global_at, slot_at, memory_at, with_global, with_slot, with_word}
use Rattle.cyc_plain.specs.inside.Step.{Choice, MayLie, gives, operand_word, returns, loads, saves, loads_byte, saves_byte, advanced, asks, is_intact, tries, closes, lands, throws, finishes, call_in, callee_of, called, performed, executed, instruction_at, step, limit_at, Step, start, machine}
use Rattle.cyc_plain.proofs.RunLaws.{limited_either, if_either}
use Rattle.cyc_plain.proofs.MemoryLaws.{waiting-below}

module _ (program : Program) (choice : Choice) (c : Configuration) (lie : AreBelow program c.active.function c.active.base c.frames) where
  returned : (value results : ℕ) (frames : List Frame) → AreBelow program c.active.function c.active.base frames → LieBelow program (returns c value results frames)
  returned value results [] below = tt
  returned value results (f ∷ frames) (first, rest) = rest

  loaded : (destination : ℕ) (found : Option ℕ) → LieBelow program (loads c destination found)
  loaded destination None = tt
  loaded destination (Some word) = lie

  written : (address word : ℕ) (range : Range) → LieBelow program (Running (advanced (with_word program c address word range)))
  written address word OfGlobals = go (global_at program address)
    where
      go : (number : Option ℕ) → LieBelow program (Running (advanced (with_global c number word)))
      go (Some number) = lie
      go None = lie
  written address word OfStore = lie
  written address word OfSlots = go (slot_at program c.active address)
    where
      go : (slot : Option ℕ) → LieBelow program (Running (advanced (with_slot program c slot address word)))
      go (Some number) = lie
      go None = waiting-below program c.active.function c.active.base c.frames address word lie

  saved : (address word : ℕ) (found : Option ℕ) → LieBelow program (saves program c address word found)
  saved address word None = tt
  saved address word (Some old) = written address word (range_of address)

  loaded_byte : (destination address : ℕ) (found : Option ℕ) → LieBelow program (loads_byte c destination address found)
  loaded_byte destination address None = tt
  loaded_byte destination address (Some word) = lie

  saved_byte : (address byte : ℕ) (found : Option ℕ) → LieBelow program (saves_byte program c address byte found)
  saved_byte address byte None = tt
  saved_byte address byte (Some old) = written (word_of address) (with_byte old (address % 4) byte) (range_of (word_of address))

  served : (destination : ℕ) (call : Call) (o : Option Refusal) → LieBelow program (asks choice.serving c destination call o)
  served destination call None = lie
  served destination call (Some services.BadMark) = tt
  served destination call (Some services.BadHandle) = tt
  served destination call (Some services.BadSize) = tt
  served destination call (Some services.NotABlock) = tt
  served destination call (Some services.Full) = tt

  tried : (first handler : ℕ) (handlers : List Handler) → LieBelow program (tries choice c first handler handlers)
  tried first handler [] = lie
  tried first handler (Open index other contents ∷ handlers) = lie
  tried first handler (Caught ∷ handlers) = lie

  closed : (first : ℕ) (handlers : List Handler) → LieBelow program (closes c first handlers)
  closed first [] = tt
  closed first (Caught ∷ handlers) = tt
  closed first (Open index other contents ∷ handlers) =
      if_either (LieBelow program) (other == first)
      (if is_intact c.active.slots first contents then Running (advanced (record c { active = record c.active { handlers = handlers } })) else Stuck c.output c.input) (closes c first handlers)
      (if_either (LieBelow program) (is_intact c.active.slots first contents) (Running (advanced (record c { active = record c.active { handlers = handlers } }))) (Stuck c.output c.input) lie tt)
      (closed first handlers)

  landed : (tag value : ℕ) (a : Activation) (frames : List Frame) (beyond : State) (handlers : List Handler) → AreBelow program a.function a.base frames → LieBelow program beyond
      → LieBelow program (lands c tag value a frames beyond handlers)
  landed tag value a frames beyond [] below goes = goes
  landed tag value a frames beyond (Caught ∷ handlers) below goes = tt
  landed tag value a frames beyond (Open index first contents ∷ handlers) below goes =
      if_either (LieBelow program) (is_intact a.slots first contents)
      (Running (record c { active = record a { next = index; slots = put (put a.slots first tag) (suc first) value; handlers = Caught ∷ handlers }; frames = frames }))
      (Stuck c.output c.input) below tt

  thrown : (tag value : ℕ) (a : Activation) (frames : List Frame) → AreBelow program a.function a.base frames → LieBelow program (throws c tag value a frames)
  thrown tag value a [] below = landed tag value a [] (Ended (Uncaught tag (signed value)) c.output c.input) a.handlers below tt
  thrown tag value a (f ∷ frames) below =
      landed tag value a (f ∷ frames) (throws c tag value f.caller frames) a.handlers below (thrown tag value f.caller frames below.1)

  finished : (value results : ℕ) (handlers : List Handler) → LieBelow program (finishes c value results handlers)
  finished value results [] = returned value results c.frames lie
  finished value results (h ∷ handlers) = tt

  performs : (i : Instruction) → MayLie program choice.base (callee_of (Some i)) (Running c) → LieBelow program (performed program choice c i)
  performs (instructions.Move destination source) may = lie
  performs (instructions.MoveWords destination source count) may = lie
  performs (instructions.Unary operator destination operand) may = lie
  performs (instructions.Binary operator destination left right) may =
      if_either (LieBelow program) (has_no_result operator (operand_word c.active.slots right)) (Stuck c.output c.input) (gives c destination (binary_result operator (operand_word c.active.slots left) (operand_word c.active.slots right))) tt lie
  performs (instructions.Jump target) may = lie
  performs (instructions.Branch comparison left right target) may = lie
  performs (instructions.Call function arguments count result) may = (may, lie)
  performs (instructions.Return value) may = returned value (routine_at program c.active.function).results c.frames lie
  performs (instructions.ReadByte destination) may = lie
  performs (instructions.WriteByte source) may = lie
  performs (instructions.AddressOf destination slot count) may = lie
  performs (instructions.LoadGlobal destination global) may = lie
  performs (instructions.CountLexical destination) may = lie
  performs (instructions.StoreGlobal global source) may = lie
  performs (instructions.Load destination address offset) may = loaded destination (memory_at program c (add_of (operand_word c.active.slots address) offset))
  performs (instructions.Store address offset source) may =
      saved (add_of (operand_word c.active.slots address) offset) (operand_word c.active.slots source) (memory_at program c (add_of (operand_word c.active.slots address) offset))
  performs (instructions.LoadByte destination address offset) may = loaded_byte destination (add_of (operand_word c.active.slots address) offset) (memory_at program c (word_of (add_of (operand_word c.active.slots address) offset)))
  performs (instructions.StoreByte address offset source) may = saved_byte (add_of (operand_word c.active.slots address) offset) (operand_word c.active.slots source % 256) (memory_at program c (word_of (add_of (operand_word c.active.slots address) offset)))
  performs (instructions.Ask request) may = served (destination_of request) (call_in c.active.slots request) (refusal c.store (call_in c.active.slots request))
  performs (instructions.Try first handler) may = tried first handler c.active.handlers
  performs (instructions.Leave first) may = closed first c.active.handlers
  performs (instructions.Throw tag value) may = thrown (operand_word c.active.slots tag) (operand_word c.active.slots value) c.active c.frames lie
  performs (instructions.Finish value) may = finished value (routine_at program c.active.function).results c.active.handlers
  performs (instructions.Uncaught tag value) may = tt
  performs (instructions.Enter function) may = lie

  executes : (o : Option Instruction) → MayLie program choice.base (callee_of o) (Running c) → LieBelow program (executed program choice c o)
  executes (Some i) may = performs i may
  executes None may = tt

pub below_step : (program : Program) (pages calls : ℕ) (old new : State) → LieBelow program old → Step program pages calls old new → LieBelow program new
below_step program pages calls old new lie (choice, allowed, is) =
    subst (LieBelow program) (sym is) (limited_either (LieBelow program) pages (limit_at program old calls) old (step program choice old) (λ within. steps old lie allowed.lies) tt)
  where
    steps : (s : State) → LieBelow program s → MayLie program choice.base (called program s) s → LieBelow program (step program choice s)
    steps (Running c) lie may = executes program choice c lie (instruction_at program (place_of (Running c))) may
    steps (Ended ending output input) lie may = tt
    steps (Stuck output input) lie may = tt

-- If the slots of `main` lie in the address range of slots, each call's slots have lower addresses than its
-- caller's in every state of a run.
pub below_run : (program : Program) (pages calls n : ℕ) (old new : State) → LieBelow program old → Run (machine program pages calls) n old new → LieBelow program new
below_run program pages calls zero old new lie run = subst (LieBelow program) (sym run) lie
below_run program pages calls (suc n) old new lie (mid, stepped, rest) =
    below_run program pages calls n mid new (below_step program pages calls old mid lie stepped) rest

pub below_start : (program : Program) (base : ℕ) (store : StoreState) (input : List ℕ) → IsBelow program program.main base slots_end → LieBelow program (start program base store input)
below_start program base store input below = below
