-- If the unreachable functions of a program keep only a return, the program takes the same steps as with their full code, because
-- no unreachable function is ever called.
use Rattle.std.proofs.Common.{◌≡◌, ℕ, zero, suc, ◌%◌, ◌<◌, Bool, true, List, [], ◌∷◌, length, Option, Some, None, slice_get, refl, sym, ap, ◌∙◌, arith, inl, inr}
use Rattle.std.specs.Prelude.{◌==◌, if◌then◌else◌, slice_index_or}
use Rattle.std.specs.List.{AllByRecursion}
use Rattle.std.proofs.lemmas.Bool.{cases_lt}
use Rattle.std.proofs.lemmas.List.{get_or_past}
use Rattle.cyc_words.specs.Ending.{Uncaught}
use Rattle.cyc_words.specs.Word.{signed, add_of}
use Rattle.cyc_words.specs.Bytes.{with_byte, word_of}
use Rattle.cyc_store.specs.Services as services
use Rattle.cyc_store.specs.Services.{Call, Refusal, refusal}
use Rattle.cyc_plain.specs.declared.instruction.Instruction.{Instruction}
use Rattle.cyc_plain.specs.declared.instruction.Instruction.TheVariants as instructions
use Rattle.cyc_plain.specs.inside.Operators.{has_no_result, binary_result}
use Rattle.cyc_plain.specs.inside.Requests.{destination_of}
use Rattle.cyc_plain.specs.inside.Program.{Routine, Program, no_routine, routine_at}
use Rattle.cyc_plain.specs.inside.State.{put, Handler, Open, Caught, Activation, Frame, Configuration, State, Running, Ended, Stuck, place_of}
use Rattle.cyc_plain.specs.inside.Memory.{is_pinned, numbered, global_at, slot_at, word_or, word_waiting, put_or, with_waiting, Range, OfGlobals, OfStore, OfSlots, range_of, word_in, memory_at, with_global, with_slot, with_word}
use Rattle.cyc_plain.specs.inside.Step.{Choice, gives, operand_word, returns, loads, saves, loads_byte, saves_byte, advanced, asks, is_intact, tries, closes, lands, throws, finishes, call_in, performed, executed, instruction_at, step, limit_of, limit_at, limited, limited_step}
use Rattle.cyc_plain.proofs.RunLaws.{limited_either, if_either}
use Rattle.cyc_inline.specs.inside.Emptied.{is_reached, LeadsTo, AreReached, stub_of, routine_with, routine_kept, first_flag, other_flags, routines_kept, emptied}

pub flag_first : (bs : List Bool) → first_flag bs ≡ is_reached bs 0
flag_first [] = refl
flag_first (b ∷ bs) = refl

pub flags_other : (bs : List Bool) (k : ℕ) → is_reached (other_flags bs) k ≡ is_reached bs (suc k)
flags_other [] k = refl
flags_other (b ∷ bs) k = refl

pub length_kept : (rs : List Routine) (bs : List Bool) → length (routines_kept rs bs) ≡ length rs
length_kept [] bs = refl
length_kept (r ∷ rs) bs = ap suc (length_kept rs (other_flags bs))

pub kept_at : (rs : List Routine) (bs : List Bool) (k : ℕ) → k < length rs → slice_index_or (routines_kept rs bs) k no_routine ≡ routine_kept (is_reached bs k) (slice_index_or rs k no_routine)
kept_at [] bs k below = absurd (omega (arith, below))
kept_at (r ∷ rs) bs zero below = ap (λ (b : Bool). routine_kept b r) (flag_first bs)
kept_at (r ∷ rs) bs (suc k) below = kept_at rs (other_flags bs) k (omega (arith, below)) ∙ ap (λ (b : Bool). routine_kept b (slice_index_or rs k no_routine)) (flags_other bs k)

slots_with : (stub : Option Instruction) (r : Routine) → (routine_with stub r).slots ≡ r.slots
slots_with (Some i) r = refl
slots_with None r = refl

kept_slots : (b : Bool) (r : Routine) → (routine_kept b r).slots ≡ r.slots
kept_slots b r = slots_with (stub_of b r.code) r

module _ (program : Program) (reached : List Bool) (are : AreReached program reached) where
  abbrev below : Program
  below = emptied program reached

  abbrev IsHere : ℕ → Type 0
  IsHere k = is_reached reached k ≡ true

  pub routine_same : (k : ℕ) → is_reached reached k ≡ true → routine_at (emptied program reached) k ≡ routine_at program k
  routine_same k here = elim (cases_lt k (length program.functions)) [
    | inl known ↦ kept_at program.functions reached k known ∙ ap (λ (b : Bool). routine_kept b (routine_at program k)) here
    | inr past ↦
        get_or_past below.functions k no_routine (let l = length_kept program.functions reached in omega (arith, past, l)) ∙ sym (get_or_past program.functions k no_routine past)
  ]

  pub slots_same : (k : ℕ) → (routine_at (emptied program reached) k).slots ≡ (routine_at program k).slots
  slots_same k = elim (cases_lt k (length program.functions)) [
    | inl known ↦ ap (λ (r : Routine). r.slots) (kept_at program.functions reached k known) ∙ kept_slots (is_reached reached k) (routine_at program k)
    | inr past ↦
        ap (λ (r : Routine). r.slots)
        (get_or_past below.functions k no_routine (let l = length_kept program.functions reached in omega (arith, past, l)) ∙ sym (get_or_past program.functions k no_routine past))
  ]

  -- ---- each active call is of a reached function

  abbrev pub IsWaited : Frame → Type 0
  IsWaited f = is_reached reached f.caller.function ≡ true

  abbrev pub IsLive : State → Type 0
  IsLive (Running c) = (is_reached reached c.active.function ≡ true) × AllByRecursion IsWaited c.frames
  IsLive (Ended ending output input) = Unit {0}
  IsLive (Stuck output input) = Unit {0}

  return_is_live : (c : Configuration) (value results : ℕ) (frames : List Frame) → AllByRecursion IsWaited frames → IsLive (returns c value results frames)
  return_is_live c value results [] waiting = tt
  return_is_live c value results (f ∷ frames) waiting = waiting

  waiting_written : (frames : List Frame) (address word : ℕ) → AllByRecursion IsWaited frames → AllByRecursion IsWaited (with_waiting program frames address word)
  waiting_written [] address word waiting = tt
  waiting_written (f ∷ frames) address word (first, rest) = go (slot_at program f.caller address) (waiting_written frames address word rest)
    where
      go : (slot : Option ℕ) → AllByRecursion IsWaited (with_waiting program frames address word) → AllByRecursion IsWaited (put_or slot word f frames (with_waiting program frames address word))
      go (Some number) others = (first, rest)
      go None others = (first, others)

  module _ (choice : Choice) (c : Configuration) (here : is_reached reached c.active.function ≡ true) (waiting : AllByRecursion IsWaited c.frames) where
    loaded : (destination : ℕ) (found : Option ℕ) → IsLive (loads c destination found)
    loaded destination None = tt
    loaded destination (Some word) = (here, waiting)

    loaded_byte : (destination address : ℕ) (found : Option ℕ) → IsLive (loads_byte c destination address found)
    loaded_byte destination address None = tt
    loaded_byte destination address (Some word) = (here, waiting)

    written : (address word : ℕ) (range : Range) → IsLive (Running (advanced (with_word program c address word range)))
    written address word OfGlobals = go (global_at program address)
      where
        go : (number : Option ℕ) → IsLive (Running (advanced (with_global c number word)))
        go (Some number) = (here, waiting)
        go None = (here, waiting)
    written address word OfStore = (here, waiting)
    written address word OfSlots = go (slot_at program c.active address)
      where
        go : (slot : Option ℕ) → IsLive (Running (advanced (with_slot program c slot address word)))
        go (Some number) = (here, waiting)
        go None = (here, waiting_written c.frames address word waiting)

    saved : (address word : ℕ) (found : Option ℕ) → IsLive (saves program c address word found)
    saved address word None = tt
    saved address word (Some old) = written address word (range_of address)

    saved_byte : (address byte : ℕ) (found : Option ℕ) → IsLive (saves_byte program c address byte found)
    saved_byte address byte None = tt
    saved_byte address byte (Some old) = written (word_of address) (with_byte old (address % 4) byte) (range_of (word_of address))

    served : (destination : ℕ) (call : Call) (o : Option Refusal) → IsLive (asks choice.serving c destination call o)
    served destination call None = (here, waiting)
    served destination call (Some services.BadMark) = tt
    served destination call (Some services.BadHandle) = tt
    served destination call (Some services.BadSize) = tt
    served destination call (Some services.NotABlock) = tt
    served destination call (Some services.Full) = tt

    tried : (first handler : ℕ) (handlers : List Handler) → IsLive (tries choice c first handler handlers)
    tried first handler [] = (here, waiting)
    tried first handler (Open index other contents ∷ handlers) = (here, waiting)
    tried first handler (Caught ∷ handlers) = (here, waiting)

    closed : (first : ℕ) (handlers : List Handler) → IsLive (closes c first handlers)
    closed first [] = tt
    closed first (Caught ∷ handlers) = tt
    closed first (Open index other contents ∷ handlers) =
        if_either IsLive (other == first)
        (if is_intact c.active.slots first contents then Running (advanced (record c { active = record c.active { handlers = handlers } })) else Stuck c.output c.input) (closes c first handlers)
        (if_either IsLive (is_intact c.active.slots first contents) (Running (advanced (record c { active = record c.active { handlers = handlers } }))) (Stuck c.output c.input) (here, waiting) tt)
        (closed first handlers)

    landed : (tag value : ℕ) (a : Activation) (frames : List Frame) (beyond : State) (handlers : List Handler) → is_reached reached a.function ≡ true
        → AllByRecursion IsWaited frames → IsLive beyond → IsLive (lands c tag value a frames beyond handlers)
    landed tag value a frames beyond [] known rest goes = goes
    landed tag value a frames beyond (Caught ∷ handlers) known rest goes = tt
    landed tag value a frames beyond (Open index first contents ∷ handlers) known rest goes =
        if_either IsLive (is_intact a.slots first contents)
        (Running (record c { active = record a { next = index; slots = put (put a.slots first tag) (suc first) value; handlers = Caught ∷ handlers }; frames = frames }))
        (Stuck c.output c.input) (known, rest) tt

    thrown : (tag value : ℕ) (a : Activation) (frames : List Frame) → is_reached reached a.function ≡ true → AllByRecursion IsWaited frames → IsLive (throws c tag value a frames)
    thrown tag value a [] known rest = landed tag value a [] (Ended (Uncaught tag (signed value)) c.output c.input) a.handlers known rest tt
    thrown tag value a (f ∷ frames) known rest =
        landed tag value a (f ∷ frames) (throws c tag value f.caller frames) a.handlers known rest (thrown tag value f.caller frames rest.0 rest.1)

    finished : (value results : ℕ) (handlers : List Handler) → IsLive (finishes c value results handlers)
    finished value results [] = return_is_live c value results c.frames waiting
    finished value results (h ∷ handlers) = tt

    stays_live : (i : Instruction) → LeadsTo reached i → IsLive (performed program choice c i)
    stays_live (instructions.Load destination address offset) leads = loaded destination (memory_at program c (add_of (operand_word c.active.slots address) offset))
    stays_live (instructions.Store address offset source) leads =
        saved (add_of (operand_word c.active.slots address) offset) (operand_word c.active.slots source) (memory_at program c (add_of (operand_word c.active.slots address) offset))
    stays_live (instructions.LoadByte destination address offset) leads =
        loaded_byte destination (add_of (operand_word c.active.slots address) offset) (memory_at program c (word_of (add_of (operand_word c.active.slots address) offset)))
    stays_live (instructions.StoreByte address offset source) leads =
        saved_byte (add_of (operand_word c.active.slots address) offset) (operand_word c.active.slots source % 256) (memory_at program c (word_of (add_of (operand_word c.active.slots address) offset)))
    stays_live (instructions.Binary operator destination left right) leads =
        if_either IsLive (has_no_result operator (operand_word c.active.slots right)) (Stuck c.output c.input) (gives c destination (binary_result operator (operand_word c.active.slots left) (operand_word c.active.slots right))) tt (here, waiting)
    stays_live (instructions.Call function arguments count result) leads = (leads, (here, waiting))
    stays_live (instructions.Return value) leads = return_is_live c value (routine_at program c.active.function).results c.frames waiting
    stays_live (instructions.Ask request) leads = served (destination_of request) (call_in c.active.slots request) (refusal c.store (call_in c.active.slots request))
    stays_live (instructions.Try first handler) leads = tried first handler c.active.handlers
    stays_live (instructions.Leave first) leads = closed first c.active.handlers
    stays_live (instructions.Throw tag value) leads = thrown (operand_word c.active.slots tag) (operand_word c.active.slots value) c.active c.frames here waiting
    stays_live (instructions.Finish value) leads = finished value (routine_at program c.active.function).results c.active.handlers
    stays_live (instructions.Uncaught tag value) leads = tt
    stays_live i leads = (here, waiting)

    executed_live : (o : Option Instruction) → instruction_at program (place_of (Running c)) ≡ o → IsLive (executed program choice c o)
    executed_live (Some i) at = stays_live i (are.calls c.active.function here c.active.next i at)
    executed_live None at = tt

    pub limited_live : (pages calls : ℕ) → IsLive (limited_step program pages calls choice (Running c))
    limited_live pages calls =
        limited_either IsLive pages (limit_at program (Running c) calls) (Running c) (step program choice (Running c)) (λ within. executed_live (instruction_at program (place_of (Running c))) refl) tt

  -- ---- the steps of the two programs

  slot_same : (a : Activation) (address : ℕ) → is_reached reached a.function ≡ true → slot_at (emptied program reached) a address ≡ slot_at program a address
  slot_same a address known = ap (λ (r : Routine). numbered (is_pinned r.code) a.base address) (routine_same a.function known)

  waiting_same : (frames : List Frame) (address : ℕ) → AllByRecursion IsWaited frames → word_waiting (emptied program reached) frames address ≡ word_waiting program frames address
  waiting_same [] address waiting = refl
  waiting_same (f ∷ frames) address (first, rest) = λ k. word_or (slot_same f.caller address first k) f.caller.slots (waiting_same frames address rest k)

  with_waiting_same : (frames : List Frame) (address word : ℕ) → AllByRecursion IsWaited frames → with_waiting (emptied program reached) frames address word ≡ with_waiting program frames address word
  with_waiting_same [] address word waiting = refl
  with_waiting_same (f ∷ frames) address word (first, rest) = λ k. put_or (slot_same f.caller address first k) word f frames (with_waiting_same frames address word rest k)

  module _ (choice : Choice) (c : Configuration) (here : is_reached reached c.active.function ≡ true) (waiting : AllByRecursion IsWaited c.frames) where
    memory_same : (address : ℕ) → memory_at (emptied program reached) c address ≡ memory_at program c address
    memory_same address = go (range_of address)
      where
        go : (range : Range) → word_in (emptied program reached) c address range ≡ word_in program c address range
        go OfGlobals = refl
        go OfStore = refl
        go OfSlots = λ k. word_or (slot_same c.active address here k) c.active.slots (waiting_same c.frames address waiting k)

    with_word_same : (address word : ℕ) (range : Range) → with_word (emptied program reached) c address word range ≡ with_word program c address word range
    with_word_same address word OfGlobals = refl
    with_word_same address word OfStore = refl
    with_word_same address word OfSlots =
        ap (λ (slot : Option ℕ). with_slot (emptied program reached) c slot address word) (slot_same c.active address here) ∙ go (slot_at program c.active address)
      where
        go : (slot : Option ℕ) → with_slot (emptied program reached) c slot address word ≡ with_slot program c slot address word
        go (Some number) = refl
        go None = ap (λ (frames : List Frame). record c { frames = frames }) (with_waiting_same c.frames address word waiting)

    saves_same : (address word : ℕ) (found : Option ℕ) → saves (emptied program reached) c address word found ≡ saves program c address word found
    saves_same address word None = refl
    saves_same address word (Some old) = ap (λ (d : Configuration). Running (advanced d)) (with_word_same address word (range_of address))

    saves_byte_same : (address byte : ℕ) (found : Option ℕ) → saves_byte (emptied program reached) c address byte found ≡ saves_byte program c address byte found
    saves_byte_same address byte None = refl
    saves_byte_same address byte (Some old) = ap (λ (d : Configuration). Running (advanced d)) (with_word_same (word_of address) (with_byte old (address % 4) byte) (range_of (word_of address)))

    results_same : (routine_at (emptied program reached) c.active.function).results ≡ (routine_at program c.active.function).results
    results_same = ap (λ (r : Routine). r.results) (routine_same c.active.function here)

    performs_same : (i : Instruction) → performed (emptied program reached) choice c i ≡ performed program choice c i
    performs_same (instructions.Return value) = ap (λ (n : ℕ). returns c value n c.frames) results_same
    performs_same (instructions.Finish value) = ap (λ (n : ℕ). finishes c value n c.active.handlers) results_same
    performs_same (instructions.Load destination address offset) = ap (loads c destination) (memory_same (add_of (operand_word c.active.slots address) offset))
    performs_same (instructions.LoadByte destination address offset) =
        let a : ℕ = add_of (operand_word c.active.slots address) offset in ap (loads_byte c destination a) (memory_same (word_of a))
    performs_same (instructions.Store address offset source) =
        let a : ℕ = add_of (operand_word c.active.slots address) offset in
        let word : ℕ = operand_word c.active.slots source in
        ap (saves (emptied program reached) c a word) (memory_same a) ∙ saves_same a word (memory_at program c a)
    performs_same (instructions.StoreByte address offset source) =
        let a : ℕ = add_of (operand_word c.active.slots address) offset in
        let byte : ℕ = operand_word c.active.slots source % 256 in
        ap (saves_byte (emptied program reached) c a byte) (memory_same (word_of a)) ∙ saves_byte_same a byte (memory_at program c (word_of a))
    performs_same i = refl

    executes_same : (o : Option Instruction) → executed (emptied program reached) choice c o ≡ executed program choice c o
    executes_same (Some i) = performs_same i
    executes_same None = refl

    pub instruction_same : instruction_at (emptied program reached) (place_of (Running c)) ≡ instruction_at program (place_of (Running c))
    instruction_same = ap (λ (r : Routine). slice_get r.code c.active.next) (routine_same c.active.function here)

    pub step_same : (pages calls : ℕ) → limited_step (emptied program reached) pages calls choice (Running c) ≡ limited_step program pages calls choice (Running c)
    step_same pages calls =
        ap (λ (o : Option Instruction). limited pages (limit_of o calls) (Running c) (executed (emptied program reached) choice c o)) instruction_same
        ∙ ap (limited pages (limit_at program (Running c) calls) (Running c)) (executes_same (instruction_at program (place_of (Running c))))
