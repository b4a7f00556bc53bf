-- In a run, the facts about stack space stay true for the active call and for the waiting calls.
use Rattle.std.proofs.Common.{◌≡◌, ℕ, zero, suc, ◌+◌, ◌*◌, ◌%◌, ◌≤◌, Bool, true, false, List, [], ◌∷◌, length, Option, Some, None, refl, sym, subst, arith}
use Rattle.std.specs.Prelude.{◌==◌, if◌then◌else◌, nat_lt}
use Rattle.std.proofs.lemmas.Bool.{cond_both, eq-eqb, or_left, or_right}
use Rattle.cyc_words.specs.Ending.{Uncaught}
use Rattle.cyc_words.specs.Word.{signed, add_of}
use Rattle.cyc_words.specs.Bytes.{with_byte, word_of}
use Rattle.cyc_words.proofs.Numbers.{eqb_next}
use Rattle.cyc_store.specs.Services as services
use Rattle.cyc_store.specs.Services.{Call, Refusal, refusal}
use Rattle.cyc_plain.specs.declared.instruction.Instruction.{Instruction}
use Rattle.cyc_plain.specs.declared.instruction.Instruction.TheVariants as instructions
use Rattle.cyc_plain.specs.inside.Operators.{has_no_result, binary_result, compares}
use Rattle.cyc_plain.specs.inside.Requests.{destination_of}
use Rattle.cyc_plain.specs.inside.Program.{Program, routine_at}
use Rattle.cyc_plain.specs.inside.State.{put, Handler, Open, Caught, Activation, Frame, Configuration, State, Running, Ended, Stuck, depth}
use Rattle.cyc_plain.specs.inside.Memory.{slots_base, Range, OfGlobals, OfStore, OfSlots, range_of, global_at, slot_at, put_or, with_waiting, memory_at, with_global, with_slot, with_word}
use Rattle.cyc_plain.specs.inside.Step.{Choice, MayLie, gives, operand_word, branches, returns, loads, saves, loads_byte, saves_byte, advanced, asks, is_intact, tries, closes, lands, throws, finishes, call_in, callee_of, performed, limit_of}
use Rattle.cyc_plain.specs.inside.Uses.{At, leads}
use Rattle.cyc_plain.proofs.MemoryLaws.{length-waiting}
use Rattle.cyc_plain.proofs.RunLaws.{if_either}
use Rattle.cyc_propagation.specs.inside.Room.{slots_in, HasRoom, room_of, greater, room_following, IsRoomTable}

-- ---- monotonicity of room

pub room_less : (calls room less base depth : ℕ) → less ≤ room → HasRoom calls room base depth → HasRoom calls less base depth
room_less calls room zero base depth over has = tt
room_less calls zero (suc less) base depth over has = absurd (omega (arith, over))
room_less calls (suc room) (suc less) base depth over (low, few) = ((omega (arith, over, low)), few)

room_greater : (calls one other base depth : ℕ) → HasRoom calls one base depth → HasRoom calls other base depth → HasRoom calls (greater one other) base depth
room_greater calls one other base depth first second =
    cond_both (nat_lt one other) other one (λ (room : ℕ). HasRoom calls room base depth) (λ less. second) (λ more. first)

module _ (program : Program) (rooms : (function index : ℕ) → ℕ) (tables : (function : ℕ) → IsRoomTable (slots_in program) (routine_at program function).code (rooms function)) (calls : ℕ) where
  -- ---- states

  -- `AreOpened` says that, for each open exception handler, the stack space that the tables state for its code position is available.
  abbrev AreOpened : (function base depth : ℕ) → List Handler → Type 0
  AreOpened function base depth [] = Unit {0}
  AreOpened function base depth (Open index first contents ∷ handlers) = HasRoom calls (rooms function index) base depth × AreOpened function base depth handlers
  AreOpened function base depth (Caught ∷ handlers) = AreOpened function base depth handlers

  -- `IsRoomy` says that a call has the stack space that the tables state for its next instruction and for its exception handlers.
  abbrev IsRoomy : Activation → (depth : ℕ) → Type 0
  IsRoomy a depth = HasRoom calls (rooms a.function a.next) a.base depth × AreOpened a.function a.base depth a.handlers

  abbrev AreRoomy : List Frame → Type 0
  AreRoomy [] = Unit {0}
  AreRoomy (f ∷ frames) = IsRoomy f.caller (suc (length frames)) × AreRoomy frames

  abbrev pub HaveRoom : State → Type 0
  HaveRoom (Running c) = IsRoomy c.active (suc (length c.frames)) × AreRoomy c.frames
  HaveRoom (Ended ending output input) = Unit {0}
  HaveRoom (Stuck output input) = Unit {0}

  room_returned : (c : Configuration) (value results : ℕ) (frames : List Frame) → AreRoomy frames → HaveRoom (returns c value results frames)
  room_returned c value results [] waiting = tt
  room_returned c value results (f ∷ frames) waiting = waiting

  room_waiting : (frames : List Frame) (address word : ℕ) → AreRoomy frames → AreRoomy (with_waiting program frames address word)
  room_waiting [] address word waiting = tt
  room_waiting (f ∷ frames) address word (first, rest) = go (slot_at program f.caller address) (room_waiting frames address word rest)
    where
      go : (slot : Option ℕ) → AreRoomy (with_waiting program frames address word) → AreRoomy (put_or slot word f frames (with_waiting program frames address word))
      go (Some number) others = (first, rest)
      go None others = (subst (λ (n : ℕ). IsRoomy f.caller (suc n)) (sym (length-waiting program frames address word)) first, others)

  -- ---- one instruction

  module _ (choice : Choice) (c : Configuration) (has : HasRoom calls (rooms c.active.function c.active.next) c.active.base (suc (length c.frames)))
      (handling : AreOpened c.active.function c.active.base (suc (length c.frames)) c.active.handlers) (waiting : AreRoomy c.frames) where
    abbrev HasRoomAt : (next : ℕ) → Type 0
    HasRoomAt next = HasRoom calls (rooms c.active.function next) c.active.base (suc (length c.frames))

    abbrev StandsHere : Instruction → Type 0
    StandsHere i = At (routine_at program c.active.function) c.active.next i

    room_led : (i : Instruction) → StandsHere i → HasRoom calls (room_of (slots_in program) i) c.active.base (suc (length c.frames))
        → (next : ℕ) → leads i c.active.next next ≡ true → HasRoomAt next
    room_led i at had next led =
        room_less calls (room_following (slots_in program) (rooms c.active.function c.active.next) i) (rooms c.active.function next) c.active.base (suc (length c.frames))
        ((tables c.active.function).edges c.active.next next i at led)
        (room_greater calls (rooms c.active.function c.active.next) (room_of (slots_in program) i) c.active.base (suc (length c.frames)) has had)

    led_on : (suc c.active.next == c.active.next + 1) ≡ true
    led_on = eqb_next c.active.next

    loaded : (destination : ℕ) (found : Option ℕ) → HasRoomAt (c.active.next + 1) → HaveRoom (loads c destination found)
    loaded destination None next = tt
    loaded destination (Some word) next = ((next, handling), waiting)

    loaded_byte : (destination address : ℕ) (found : Option ℕ) → HasRoomAt (c.active.next + 1) → HaveRoom (loads_byte c destination address found)
    loaded_byte destination address None next = tt
    loaded_byte destination address (Some word) next = ((next, handling), waiting)

    written : (address word : ℕ) (range : Range) → HasRoomAt (c.active.next + 1) → HaveRoom (Running (advanced (with_word program c address word range)))
    written address word OfGlobals next = go (global_at program address)
      where
        go : (number : Option ℕ) → HaveRoom (Running (advanced (with_global c number word)))
        go (Some number) = ((next, handling), waiting)
        go None = ((next, handling), waiting)
    written address word OfStore next = ((next, handling), waiting)
    written address word OfSlots next = go (slot_at program c.active address)
      where
        go : (slot : Option ℕ) → HaveRoom (Running (advanced (with_slot program c slot address word)))
        go (Some number) = ((next, handling), waiting)
        go None = (
          subst (λ (n : ℕ). IsRoomy (advanced c).active (suc n)) (sym (length-waiting program c.frames address word)) (next, handling),
          room_waiting c.frames address word waiting,
        )

    saved : (address word : ℕ) (found : Option ℕ) → HasRoomAt (c.active.next + 1) → HaveRoom (saves program c address word found)
    saved address word None next = tt
    saved address word (Some old) next = written address word (range_of address) next

    saved_byte : (address byte : ℕ) (found : Option ℕ) → HasRoomAt (c.active.next + 1) → HaveRoom (saves_byte program c address byte found)
    saved_byte address byte None next = tt
    saved_byte address byte (Some old) next = written (word_of address) (with_byte old (address % 4) byte) (range_of (word_of address)) next

    served : (destination : ℕ) (call : Call) (o : Option Refusal) → HasRoomAt (c.active.next + 1) → HaveRoom (asks choice.serving c destination call o)
    served destination call None next = ((next, handling), waiting)
    served destination call (Some services.BadMark) next = tt
    served destination call (Some services.BadHandle) next = tt
    served destination call (Some services.BadSize) next = tt
    served destination call (Some services.NotABlock) next = tt
    served destination call (Some services.Full) next = tt

    tried : (first handler : ℕ) (handlers : List Handler) → AreOpened c.active.function c.active.base (suc (length c.frames)) handlers → HasRoomAt handler → HasRoomAt (c.active.next + 1)
        → HaveRoom (tries choice c first handler handlers)
    tried first handler [] all there next = ((next, (has, handling)), waiting)
    tried first handler (Open index other contents ∷ handlers) all there next = ((next, (has, handling)), waiting)
    tried first handler (Caught ∷ handlers) all there next = ((there, all), waiting)

    closed : (first : ℕ) (handlers : List Handler) → AreOpened c.active.function c.active.base (suc (length c.frames)) handlers → HasRoomAt (c.active.next + 1) → HaveRoom (closes c first handlers)
    closed first [] all next = tt
    closed first (Caught ∷ handlers) all next = tt
    closed first (Open index other contents ∷ handlers) all next =
        if_either HaveRoom (other == first)
        (if is_intact c.active.slots first contents then Running (advanced (record c { active = record c.active { handlers = handlers } })) else Stuck c.output c.input) (closes c first handlers)
        (if_either HaveRoom (is_intact c.active.slots first contents) (Running (advanced (record c { active = record c.active { handlers = handlers } }))) (Stuck c.output c.input) ((next, all.1), waiting) tt)
        (closed first handlers all.1 next)

    landed : (tag value : ℕ) (a : Activation) (frames : List Frame) (beyond : State) (handlers : List Handler) → AreOpened a.function a.base (suc (length frames)) handlers
        → AreRoomy frames → HaveRoom beyond → HaveRoom (lands c tag value a frames beyond handlers)
    landed tag value a frames beyond [] all rest goes = goes
    landed tag value a frames beyond (Caught ∷ handlers) all rest goes = tt
    landed tag value a frames beyond (Open index first contents ∷ handlers) all rest goes =
        if_either HaveRoom (is_intact a.slots first contents)
        (Running (record c { active = record a { next = index; slots = put (put a.slots first tag) (suc first) value; handlers = Caught ∷ handlers }; frames = frames }))
        (Stuck c.output c.input) (all, rest) tt

    thrown : (tag value : ℕ) (a : Activation) (frames : List Frame) → AreOpened a.function a.base (suc (length frames)) a.handlers → AreRoomy frames → HaveRoom (throws c tag value a frames)
    thrown tag value a [] all rest = landed tag value a [] (Ended (Uncaught tag (signed value)) c.output c.input) a.handlers all rest tt
    thrown tag value a (f ∷ frames) all rest =
        landed tag value a (f ∷ frames) (throws c tag value f.caller frames) a.handlers all rest (thrown tag value f.caller frames rest.0.1 rest.1)

    finished : (value results : ℕ) (handlers : List Handler) → HaveRoom (finishes c value results handlers)
    finished value results [] = room_returned c value results c.frames waiting
    finished value results (h ∷ handlers) = tt

    branched : (taken : Bool) (target : ℕ) → HasRoomAt target → HasRoomAt (c.active.next + 1) → HaveRoom (branches c taken target)
    branched true target there next = ((there, handling), waiting)
    branched false target there next = ((next, handling), waiting)

    -- If control falls through from an instruction to the next one, the stack space that the analysis states for the next one is available.
    on : (i : Instruction) → StandsHere i → room_of (slots_in program) i ≡ 0 → leads i c.active.next (c.active.next + 1) ≡ true → HasRoomAt (c.active.next + 1)
    on i at none led = room_led i at (subst (λ (room : ℕ). HasRoom calls room c.active.base (suc (length c.frames))) (sym none) tt) (c.active.next + 1) led

    pub room_after_it : (i : Instruction) → StandsHere i → MayLie program choice.base (callee_of (Some i)) (Running c) → depth (performed program choice c i) ≤ limit_of (Some i) calls
        → HaveRoom (performed program choice c i)
    room_after_it (instructions.Load destination address offset) at lies within =
        loaded destination (memory_at program c (add_of (operand_word c.active.slots address) offset)) (on (instructions.Load destination address offset) at refl led_on)
    room_after_it (instructions.Store address offset source) at lies within =
        saved (add_of (operand_word c.active.slots address) offset) (operand_word c.active.slots source) (memory_at program c (add_of (operand_word c.active.slots address) offset))
        (on (instructions.Store address offset source) at refl led_on)
    room_after_it (instructions.LoadByte destination address offset) at lies within =
        loaded_byte destination (add_of (operand_word c.active.slots address) offset) (memory_at program c (word_of (add_of (operand_word c.active.slots address) offset)))
        (on (instructions.LoadByte destination address offset) at refl led_on)
    room_after_it (instructions.StoreByte address offset source) at lies within =
        saved_byte (add_of (operand_word c.active.slots address) offset) (operand_word c.active.slots source % 256) (memory_at program c (word_of (add_of (operand_word c.active.slots address) offset)))
        (on (instructions.StoreByte address offset source) at refl led_on)
    room_after_it (instructions.Binary operator destination left right) at lies within =
        if_either HaveRoom (has_no_result operator (operand_word c.active.slots right)) (Stuck c.output c.input) (gives c destination (binary_result operator (operand_word c.active.slots left) (operand_word c.active.slots right))) tt
        ((on (instructions.Binary operator destination left right) at refl led_on, handling), waiting)
    room_after_it (instructions.Jump target) at lies within = ((room_led (instructions.Jump target) at tt target (eq-eqb target target refl), handling), waiting)
    room_after_it (instructions.Branch comparison left right target) at lies within =
        let i : Instruction = instructions.Branch comparison left right target in
        branched (compares comparison (operand_word c.active.slots left) (operand_word c.active.slots right)) target
        (room_led i at tt target (or_right (suc c.active.next == target) (target == target) (eq-eqb target target refl)))
        (on i at refl (or_left (suc c.active.next == c.active.next + 1) (target == c.active.next + 1) led_on))
    room_after_it (instructions.Call function arguments count result) at lies within =
        let base : slots_base + 4 * (routine_at program function).slots ≤ c.active.base = omega (arith, lies.low, lies.high) in (
          (subst (λ (room : ℕ). HasRoom calls room choice.base (suc (suc (length c.frames)))) (sym (tables function).first) tt, tt),
          ((room_led (instructions.Call function arguments count result) at (base, (omega (arith, within))) (c.active.next + 1) led_on, handling), waiting),
        )
    room_after_it (instructions.Enter function) at lies within =
        let base : slots_base + 4 * (routine_at program function).slots ≤ c.active.base = omega (arith, lies.low, lies.high) in
        ((room_led (instructions.Enter function) at (base, (omega (arith, within))) (c.active.next + 1) led_on, handling), waiting)
    room_after_it (instructions.Return value) at lies within = room_returned c value (routine_at program c.active.function).results c.frames waiting
    room_after_it (instructions.Ask request) at lies within =
        served (destination_of request) (call_in c.active.slots request) (refusal c.store (call_in c.active.slots request)) (on (instructions.Ask request) at refl led_on)
    room_after_it (instructions.Try first handler) at lies within =
        let i : Instruction = instructions.Try first handler in
        tried first handler c.active.handlers handling
        (room_led i at tt handler (or_right (suc c.active.next == handler) (handler == handler) (eq-eqb handler handler refl)))
        (on i at refl (or_left (suc c.active.next == c.active.next + 1) (handler == c.active.next + 1) led_on))
    room_after_it (instructions.Leave first) at lies within = closed first c.active.handlers handling (on (instructions.Leave first) at refl led_on)
    room_after_it (instructions.Throw tag value) at lies within = thrown (operand_word c.active.slots tag) (operand_word c.active.slots value) c.active c.frames handling waiting
    room_after_it (instructions.Finish value) at lies within = finished value (routine_at program c.active.function).results c.active.handlers
    room_after_it (instructions.Uncaught tag value) at lies within = tt
    room_after_it (instructions.Move destination source) at lies within = ((on (instructions.Move destination source) at refl led_on, handling), waiting)
    room_after_it (instructions.MoveWords destination source count) at lies within = ((on (instructions.MoveWords destination source count) at refl led_on, handling), waiting)
    room_after_it (instructions.Unary operator destination operand) at lies within = ((on (instructions.Unary operator destination operand) at refl led_on, handling), waiting)
    room_after_it (instructions.ReadByte destination) at lies within = ((on (instructions.ReadByte destination) at refl led_on, handling), waiting)
    room_after_it (instructions.WriteByte source) at lies within = ((on (instructions.WriteByte source) at refl led_on, handling), waiting)
    room_after_it (instructions.AddressOf destination slot count) at lies within = ((on (instructions.AddressOf destination slot count) at refl led_on, handling), waiting)
    room_after_it (instructions.LoadGlobal destination global) at lies within = ((on (instructions.LoadGlobal destination global) at refl led_on, handling), waiting)
    room_after_it (instructions.StoreGlobal global source) at lies within = ((on (instructions.StoreGlobal global source) at refl led_on, handling), waiting)
    room_after_it (instructions.CountLexical destination) at lies within = ((on (instructions.CountLexical destination) at refl led_on, handling), waiting)
