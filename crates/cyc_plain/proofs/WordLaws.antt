-- Every value in a run of a plain program is a machine word.
use Rattle.std.proofs.Common.{◌≡◌, ℕ, zero, suc, ◌+◌, ◌-◌, ◌*◌, ◌%◌, ◌^◌, ◌<◌, Bool, true, false, not, ◌&&◌, List, [], ◌∷◌, length, drop, Option, Some, None, slice_get, refl, sym, subst, arith, inl, inr}
use Rattle.std.specs.Prelude.{◌==◌, if◌then◌else◌, nat_le, nat_lt, int_le, slice_index, unwrap_or}
use Rattle.std.specs.List.{AllByRecursion}
use Rattle.std.proofs.lemmas.Bool.{cases_lt}
use Rattle.std.proofs.lemmas.List.{get_or_past}
use Rattle.cyc_words.specs.Ending.{Uncaught}
use Rattle.cyc_words.specs.Word.{IsWord, signed, add_of}
use Rattle.cyc_words.specs.Bytes.{byte_in, with_byte, word_of}
use Rattle.cyc_words.proofs.WordBytesLemmas.{byte-small, with_byte-word}
use Rattle.cyc_words.proofs.WordLemmas.{IsWord-add_of, IsWord-sub_of, IsWord-shl_of, IsWord-sar_of, IsWord-div_of, IsWord-rem_of, IsWord-slt_of, IsWord-bit_and, IsWord-bit_or, IsWord-bit_xor}
use Rattle.cyc_store.specs.Services as services
use Rattle.cyc_store.specs.Services.{Call, Answer, Refusal, refusal, answer}
use Rattle.cyc_store.specs.State as stores
use Rattle.cyc_store.specs.State.{StoreState, Holder, homes, holder, word_at, has_saved}
use Rattle.cyc_plain.specs.declared.instruction.UnaryOperator.{UnaryOperator}
use Rattle.cyc_plain.specs.declared.instruction.UnaryOperator.TheVariants as unary
use Rattle.cyc_plain.specs.declared.instruction.BinaryOperator.{BinaryOperator}
use Rattle.cyc_plain.specs.declared.instruction.BinaryOperator.TheVariants as binary
use Rattle.cyc_plain.specs.declared.instruction.Operand.{Operand}
use Rattle.cyc_plain.specs.declared.instruction.Operand.TheVariants as operands
use Rattle.cyc_plain.specs.declared.instruction.Instruction.{Instruction}
use Rattle.cyc_plain.specs.declared.instruction.Instruction.TheVariants as instructions
use Rattle.cyc_plain.specs.inside.Operators.{truth, unary_result, binary_result, has_no_result}
use Rattle.cyc_plain.specs.inside.Requests.{destination_of}
use Rattle.cyc_words.specs.Simulation.{Run}
use Rattle.cyc_words.proofs.Members.{All_at}
use Rattle.cyc_plain.specs.inside.Program.{Program, CodePlace, no_routine, routine_at}
use Rattle.cyc_plain.specs.declared.limits.TheConstants.{RECORD_WORDS}
use Rattle.cyc_plain.specs.inside.State.{Words, AreWords, put, copied, Handler, Open, Caught, Activation, Frame, Configuration, State, Running, Ended, Stuck, place_of, HoldsWords}
use Rattle.cyc_plain.specs.inside.Memory.{Range, OfGlobals, OfStore, OfSlots, range_of, global_at, slot_at, word_or, word_waiting, put_or, with_waiting, word_in, memory_at, with_global, with_slot, with_word}
use Rattle.cyc_plain.specs.inside.Step.{Choice, IsAllowed, IsServed, MayServe, HasAnswerWords, gives, operand_word, returns, loads, saves, loads_byte, saves_byte, advanced, reported}
use Rattle.cyc_plain.specs.inside.Step.{asks, is_intact, tries, closes, lands, throws, finishes, call_in, call_of, performed, executed, instruction_at, step, limit_at, start, machine}
use Rattle.cyc_plain.specs.inside.WellFormed.{IsOfWord, HasWord, HasWords}
use Rattle.cyc_plain.proofs.RunLaws.{limited_either, if_either}
use Rattle.cyc_plain.proofs.Steps.{function_known}

-- ---- operators

truth_word : (b : Bool) → IsWord (truth b)
truth_word true = omega arith
truth_word false = omega arith

pub IsWord-unary_result : (operator : UnaryOperator) (a : ℕ) → IsWord a → IsWord (unary_result operator a)
IsWord-unary_result unary.Negate a w = IsWord-sub_of 0 a
IsWord-unary_result unary.Complement a w = omega arith
IsWord-unary_result unary.Not a w = truth_word (a == 0)

pub IsWord-binary_result : (operator : BinaryOperator) (a b : ℕ) → IsWord a → IsWord b → IsWord (binary_result operator a b)
IsWord-binary_result binary.Add a b v w = IsWord-add_of a b
IsWord-binary_result binary.Subtract a b v w = IsWord-sub_of a b
IsWord-binary_result binary.Multiply a b v w = omega arith
IsWord-binary_result binary.Divide a b v w = IsWord-div_of a b
IsWord-binary_result binary.Remainder a b v w = IsWord-rem_of a b
IsWord-binary_result binary.And a b v w = IsWord-bit_and a b v
IsWord-binary_result binary.Or a b v w = IsWord-bit_or a b v w
IsWord-binary_result binary.Xor a b v w = IsWord-bit_xor a b v w
IsWord-binary_result binary.ShiftLeft a b v w = IsWord-shl_of a b
IsWord-binary_result binary.ShiftRight a b v w = IsWord-sar_of a b
IsWord-binary_result binary.Equal a b v w = truth_word (a == b)
IsWord-binary_result binary.NotEqual a b v w = truth_word (not (a == b))
IsWord-binary_result binary.Less a b v w = IsWord-slt_of a b
IsWord-binary_result binary.LessOrEqual a b v w = truth_word (int_le (signed a) (signed b))
IsWord-binary_result binary.Greater a b v w = IsWord-slt_of b a
IsWord-binary_result binary.GreaterOrEqual a b v w = truth_word (int_le (signed b) (signed a))

-- ---- slots and input

pub either_word : (b : Bool) (x y : ℕ) → IsWord x → IsWord y → IsWord (if b then x else y)
either_word true x y v w = v
either_word false x y v w = w

pub put_words : (words : Words) (number word : ℕ) → AreWords words → IsWord word → AreWords (put words number word)
put_words words number word all w other = either_word (other == number) word (words other) w (all other)

copied_words : (from to : Words) (source count destination : ℕ) → AreWords from → AreWords to → AreWords (copied from source count to destination)
copied_words from to source count destination v w number =
    either_word (nat_le destination number && nat_lt number (destination + count)) (from (source + (number - destination))) (to number) (v (source + (number - destination))) (w number)

stored_words : (s : StoreState) (address word : ℕ) (found : Option ℕ) → stores.AreWords s.memory → IsWord word → stores.AreWords (has_saved s address word found).memory
stored_words s address word None all w = all
stored_words s address word (Some old) all w = put_words s.memory address word all w

reported_words : (a : Answer) (destination : ℕ) (slots : Words) → AreWords slots → HasAnswerWords a → AreWords (reported a destination slots)
reported_words (services.Refused why) destination slots all words = all
reported_words services.Done destination slots all words = all
reported_words (services.Opened handle) destination slots all word = put_words slots destination handle all word
reported_words (services.OpenedLexical handle mark) destination slots all (first, second) =
    put_words (put slots destination handle) (suc destination) mark (put_words slots destination handle all first) second
reported_words (services.Allocated address) destination slots all word = put_words slots destination address all word

first_word : (input : List ℕ) → AllByRecursion IsWord input → IsWord (unwrap_or (slice_get input 0) (2 ^ 32 - 1))
first_word [] all = omega arith
first_word (b ∷ input) (first, rest) = first

rest_words : (input : List ℕ) → AllByRecursion IsWord input → AllByRecursion IsWord (drop 1 input)
rest_words [] all = tt
rest_words (b ∷ input) (first, rest) = rest

-- ---- steps

abbrev AreFrames : List Frame → Type 0
AreFrames frames = AllByRecursion (λ f. AreWords f.caller.slots) frames

abbrev AreWordsOf : Option ℕ → Type 0
AreWordsOf (Some word) = IsWord word
AreWordsOf None = Unit {0}

or_word : (number : Option ℕ) (words : Words) (other : Option ℕ) → AreWords words → AreWordsOf other → AreWordsOf (word_or number words other)
or_word (Some number) words other all rest = all number
or_word None words other all rest = rest

-- A load from a slot of a waiting call reads a machine word.
waiting_word : (program : Program) (frames : List Frame) (address : ℕ) → AreFrames frames → AreWordsOf (word_waiting program frames address)
waiting_word program [] address all = tt
waiting_word program (f ∷ frames) address (first, rest) =
    or_word (slot_at program f.caller address) f.caller.slots (word_waiting program frames address) first (waiting_word program frames address rest)

waiting_words : (program : Program) (frames : List Frame) (address word : ℕ) → AreFrames frames → IsWord word → AreFrames (with_waiting program frames address word)
waiting_words program [] address word all w = tt
waiting_words program (f ∷ frames) address word (first, rest) w = go (slot_at program f.caller address) (waiting_words program frames address word rest w)
  where
    go : (slot : Option ℕ) → AreFrames (with_waiting program frames address word) → AreFrames (put_or slot word f frames (with_waiting program frames address word))
    go (Some number) others = (put_words f.caller.slots number word first w, rest)
    go None others = (first, others)

known_word : (program : Program) (place : CodePlace) (i : Instruction) → HasWords program → instruction_at program place ≡ Some i → HasWord i
known_word program place i words at =
    All_at HasWord (routine_at program place.function).code place.index i (words.functions place.function no_routine (function_known program place i at)) at

module _ (program : Program) (choice : Choice) (allowed : AreWords choice.contents) (c : Configuration) (slots : AreWords c.active.slots) (frames : AreFrames c.frames) (globals : AreWords c.globals) (store : stores.AreWords c.store.memory) (input : AllByRecursion IsWord c.input) where
  given : (destination word : ℕ) → IsWord word → HoldsWords (gives c destination word)
  given destination word w = (put_words c.active.slots destination word slots w, frames, globals, store, input)

  known : (o : Operand) → IsOfWord o → IsWord (operand_word c.active.slots o)
  known (operands.Slot number) w = slots number
  known (operands.Word word) w = w

  returned : (value results : ℕ) (waiting : List Frame) → AreFrames waiting → HoldsWords (returns c value results waiting)
  returned value results [] all = tt
  returned value results (f ∷ waiting) (first, rest) = (copied_words c.active.slots f.caller.slots value results f.result slots first, rest, globals, store, input)

  -- A load reads a machine word, from the store, from a global or from a slot.
  stored_word : (address : ℕ) (aligned : Bool) (found : Option Holder) → AreWordsOf (if aligned then stores.word_in found c.store.memory address else None)
  stored_word address false found = tt
  stored_word address true None = tt
  stored_word address true (Some h) = store address

  found_word : (address : ℕ) (range : Range) → AreWordsOf (word_in program c address range)
  found_word address OfGlobals = or_word (global_at program address) c.globals None globals tt
  found_word address OfStore = stored_word address (address % 4 == 0) (holder (homes c.store) address)
  found_word address OfSlots =
      or_word (slot_at program c.active address) c.active.slots (word_waiting program c.frames address) slots (waiting_word program c.frames address frames)

  loaded : (destination : ℕ) (found : Option ℕ) → AreWordsOf found → HoldsWords (loads c destination found)
  loaded destination None is_word = tt
  loaded destination (Some word) is_word = given destination word is_word

  loaded_byte : (destination address : ℕ) (found : Option ℕ) → HoldsWords (loads_byte c destination address found)
  loaded_byte destination address None = tt
  loaded_byte destination address (Some word) =
      let small : byte_in word (address % 4) < 256 = byte-small word (address % 4) in
      given destination (byte_in word (address % 4)) (omega (arith, small))

  written : (address word : ℕ) (range : Range) → IsWord word → HoldsWords (Running (advanced (with_word program c address word range)))
  written address word OfGlobals w = go (global_at program address)
    where
      go : (number : Option ℕ) → HoldsWords (Running (advanced (with_global c number word)))
      go (Some number) = (slots, frames, put_words c.globals number word globals w, store, input)
      go None = (slots, frames, globals, store, input)
  written address word OfStore w = (slots, frames, globals, stored_words c.store address word (word_at c.store address) store w, input)
  written address word OfSlots w = go (slot_at program c.active address)
    where
      go : (slot : Option ℕ) → HoldsWords (Running (advanced (with_slot program c slot address word)))
      go (Some number) = (put_words c.active.slots number word slots w, frames, globals, store, input)
      go None = (slots, waiting_words program c.frames address word frames w, globals, store, input)

  saved : (address word : ℕ) (found : Option ℕ) → IsWord word → HoldsWords (saves program c address word found)
  saved address word None w = tt
  saved address word (Some old) w = written address word (range_of address) w

  saved_byte : (address byte : ℕ) (found : Option ℕ) → AreWordsOf found → byte < 256 → HoldsWords (saves_byte program c address byte found)
  saved_byte address byte None w small = tt
  saved_byte address byte (Some old) w small =
      written (word_of address) (with_byte old (address % 4) byte) (range_of (word_of address)) (with_byte-word old (address % 4) byte w small)

  served : (destination : ℕ) (call : Call) (o : Option Refusal) → (o ≡ None → IsServed c.store call choice.serving) → HoldsWords (asks choice.serving c destination call o)
  served destination call None serves =
      let is = serves refl in
      (reported_words (answer c.store call choice.serving) destination c.active.slots slots is.words, frames, globals, is.allowed.words, input)
  served destination call (Some services.BadMark) serves = tt
  served destination call (Some services.BadHandle) serves = tt
  served destination call (Some services.BadSize) serves = tt
  served destination call (Some services.NotABlock) serves = tt
  served destination call (Some services.Full) serves = tt

  tried : (first handler : ℕ) (handlers : List Handler) → HoldsWords (tries choice c first handler handlers)
  tried first handler [] = (copied_words choice.contents c.active.slots 0 RECORD_WORDS first allowed slots, frames, globals, store, input)
  tried first handler (Open index other contents ∷ handlers) = (copied_words choice.contents c.active.slots 0 RECORD_WORDS first allowed slots, frames, globals, store, input)
  tried first handler (Caught ∷ handlers) = (slots, frames, globals, store, input)

  closed : (first : ℕ) (handlers : List Handler) → HoldsWords (closes c first handlers)
  closed first [] = tt
  closed first (Caught ∷ handlers) = tt
  closed first (Open index other contents ∷ handlers) =
      if_either HoldsWords (other == first)
      (if is_intact c.active.slots first contents then Running (advanced (record c { active = record c.active { handlers = handlers } })) else Stuck c.output c.input) (closes c first handlers)
      (if_either HoldsWords (is_intact c.active.slots first contents) (Running (advanced (record c { active = record c.active { handlers = handlers } }))) (Stuck c.output c.input) (slots, frames, globals, store, input) tt)
      (closed first handlers)

  landed : (tag value : ℕ) (a : Activation) (waiting : List Frame) (beyond : State) (handlers : List Handler) → IsWord tag → IsWord value → AreWords a.slots → AreFrames waiting → HoldsWords beyond
      → HoldsWords (lands c tag value a waiting beyond handlers)
  landed tag value a waiting beyond [] first second all rest goes = goes
  landed tag value a waiting beyond (Caught ∷ handlers) first second all rest goes = tt
  landed tag value a waiting beyond (Open index at contents ∷ handlers) first second all rest goes =
      if_either HoldsWords (is_intact a.slots at contents)
      (Running (record c { active = record a { next = index; slots = put (put a.slots at tag) (suc at) value; handlers = Caught ∷ handlers }; frames = waiting }))
      (Stuck c.output c.input)
      (put_words (put a.slots at tag) (suc at) value (put_words a.slots at tag all first) second, rest, globals, store, input) tt

  thrown : (tag value : ℕ) (a : Activation) (waiting : List Frame) → IsWord tag → IsWord value → AreWords a.slots → AreFrames waiting → HoldsWords (throws c tag value a waiting)
  thrown tag value a [] first second all rest = landed tag value a [] (Ended (Uncaught tag (signed value)) c.output c.input) a.handlers first second all rest tt
  thrown tag value a (f ∷ waiting) first second all rest =
      landed tag value a (f ∷ waiting) (throws c tag value f.caller waiting) a.handlers first second all rest (thrown tag value f.caller waiting first second rest.0 rest.1)

  finished : (value results : ℕ) (handlers : List Handler) → HoldsWords (finishes c value results handlers)
  finished value results [] = returned value results c.frames frames
  finished value results (h ∷ handlers) = tt

  performs : (i : Instruction) → HasWord i → MayServe choice.serving (call_of c.active.slots (Some i)) (Running c) → HoldsWords (performed program choice c i)
  performs (instructions.Move destination source) w serves = given destination (operand_word c.active.slots source) (known source w)
  performs (instructions.MoveWords destination source count) w serves =
      (copied_words c.active.slots c.active.slots source count destination slots slots, frames, globals, store, input)
  performs (instructions.Unary operator destination operand) w serves =
      given destination (unary_result operator (operand_word c.active.slots operand)) (IsWord-unary_result operator (operand_word c.active.slots operand) (known operand w))
  performs (instructions.Binary operator destination left right) (first, second) serves =
      if_either HoldsWords (has_no_result operator (operand_word c.active.slots right)) (Stuck c.output c.input) (gives c destination (binary_result operator (operand_word c.active.slots left) (operand_word c.active.slots right)))
      tt (given destination (binary_result operator (operand_word c.active.slots left) (operand_word c.active.slots right)) (IsWord-binary_result operator (operand_word c.active.slots left) (operand_word c.active.slots right) (known left first) (known right second)))
  performs (instructions.Jump target) w serves = (slots, frames, globals, store, input)
  performs (instructions.Branch comparison left right target) w serves = (slots, frames, globals, store, input)
  performs (instructions.Call function arguments count result) w serves =
      (copied_words c.active.slots choice.contents arguments count 0 slots allowed, (slots, frames), globals, store, input)
  performs (instructions.Return value) w serves = returned value (routine_at program c.active.function).results c.frames frames
  performs (instructions.ReadByte destination) w serves =
      (put_words c.active.slots destination (unwrap_or (slice_get c.input 0) (2 ^ 32 - 1)) slots (first_word c.input input), frames, globals, store, rest_words c.input input)
  performs (instructions.WriteByte source) w serves = (slots, frames, globals, store, input)
  performs (instructions.AddressOf destination slot count) w serves =
      given destination (add_of c.active.base (4 * slot)) (IsWord-add_of c.active.base (4 * slot))
  performs (instructions.LoadGlobal destination global) w serves = given destination (c.globals global) (globals global)
  performs (instructions.CountLexical destination) w serves = given destination (stores.lexical_count c.store.regions % 2 ^ 32) (omega arith)
  performs (instructions.StoreGlobal global source) w serves =
      (slots, frames, put_words c.globals global (operand_word c.active.slots source) globals (known source w), store, input)
  performs (instructions.Load destination address offset) w serves =
      let at : ℕ = add_of (operand_word c.active.slots address) offset in
      loaded destination (memory_at program c at) (found_word at (range_of at))
  performs (instructions.Store address offset source) (first, second, third) serves =
      let at : ℕ = add_of (operand_word c.active.slots address) offset in
      saved at (operand_word c.active.slots source) (memory_at program c at) (known source third)
  performs (instructions.LoadByte destination address offset) w serves =
      loaded_byte destination (add_of (operand_word c.active.slots address) offset) (memory_at program c (word_of (add_of (operand_word c.active.slots address) offset)))
  performs (instructions.StoreByte address offset source) w serves =
      let at : ℕ = (add_of (operand_word c.active.slots address) offset) in
      saved_byte at (operand_word c.active.slots source % 256) (memory_at program c (word_of at)) (found_word (word_of at) (range_of (word_of at))) (omega arith)
  performs (instructions.Ask request) w serves =
      served (destination_of request) (call_in c.active.slots request) (refusal c.store (call_in c.active.slots request)) serves
  performs (instructions.Try first handler) w serves = tried first handler c.active.handlers
  performs (instructions.Leave first) w serves = closed first c.active.handlers
  performs (instructions.Throw tag value) (first, second) serves =
      thrown (operand_word c.active.slots tag) (operand_word c.active.slots value) c.active c.frames (known tag first) (known value second) slots frames
  performs (instructions.Finish value) w serves = finished value (routine_at program c.active.function).results c.active.handlers
  performs (instructions.Uncaught tag value) w serves = tt
  performs (instructions.Enter function) w serves = (slots, frames, globals, store, input)

  executes : (o : Option Instruction) → ((i : Instruction) → o ≡ Some i → HasWord i) → MayServe choice.serving (call_of c.active.slots o) (Running c) → HoldsWords (executed program choice c o)
  executes (Some i) w serves = performs i (w i refl) serves
  executes None w serves = tt

words_step : (program : Program) (choice : Choice) (s : State) → HasWords program → IsAllowed program s choice → HoldsWords s → HoldsWords (step program choice s)
words_step program choice (Running c) words allowed (slots, frames, globals, store, input) =
    executes program choice allowed.contents c slots frames globals store input (instruction_at program (place_of (Running c))) (λ i at. known_word program (place_of (Running c)) i words at) allowed.serves
words_step program choice (Ended ending output input) words allowed holds = tt
words_step program choice (Stuck output input) words allowed holds = tt

-- If the program, the store and the input contain only machine words, every value in a run is a machine word.
pub words_stay : (program : Program) (pages calls n : ℕ) (old new : State) → HasWords program → HoldsWords old → Run (machine program pages calls) n old new → HoldsWords new
words_stay program pages calls zero old new words holds run = subst HoldsWords (sym run) holds
words_stay program pages calls (suc n) old new words holds (mid, (choice, allowed, is), rest) =
    let next : HoldsWords mid =
    subst HoldsWords (sym is) (limited_either HoldsWords pages (limit_at program old calls) old (step program choice old) (λ within. words_step program choice old words allowed holds) tt) in
    words_stay program pages calls n mid new words next rest

pub bytes_are_words : (input : List ℕ) → AllByRecursion (λ b. b < 256) input → AllByRecursion IsWord input
bytes_are_words [] all = tt
bytes_are_words (b ∷ input) (first, rest) = ((omega (arith, first)), bytes_are_words input rest)

pub words_at_start : (program : Program) (base : ℕ) (store : StoreState) (input : List ℕ) → HasWords program → stores.AreWords store.memory → AllByRecursion (λ b. b < 256) input → HoldsWords (start program base store input)
words_at_start program base store input words memory bytes =
    let global_words : (global : ℕ) → IsWord (slice_index program.globals global) = λ global.
    elim (cases_lt global (length program.globals)) [
      | inl below ↦ words.globals global 0 below
      | inr past ↦ subst IsWord (sym (get_or_past program.globals global 0 past)) (let e : 0 < 2 ^ 32 = omega arith in e)
    ] in
    ((λ slot. omega arith), tt, global_words, memory, bytes_are_words input bytes)
