-- In a run of a simplified program, the facts that its tables state for each code position stay true, step by step.
use Rattle.std.proofs.Common.{◌≡◌, ℕ, suc, ◌+◌, ◌-◌, ◌*◌, ◌%◌, ◌^◌, ◌<◌, Bool, true, false, List, [], ◌∷◌, ◌++◌, drop, length, slice_get, Option, Some, None, refl, sym, ap, subst, ◌∙◌, arith, inl, inr}
use Rattle.std.specs.Prelude.{◌==◌, if◌then◌else◌, unwrap_or}
use Rattle.std.proofs.lemmas.Bool.{cases_Bool, eq-eqb, or_left, or_right, cond_both, false≢true, not_from_false}
use Rattle.cyc_words.specs.Ending.{Uncaught}
use Rattle.cyc_words.specs.Word.{signed, add_of}
use Rattle.cyc_words.specs.Bytes.{with_byte, word_of}
use Rattle.cyc_words.proofs.Numbers.{eqb_next}
use Rattle.cyc_store.specs.State.{lexical_count}
use Rattle.cyc_store.specs.Services as services
use Rattle.cyc_store.specs.Services.{Call, Refusal, refusal}
use Rattle.cyc_plain.specs.declared.instruction.Instruction.{Instruction}
use Rattle.cyc_plain.specs.declared.instruction.Instruction.TheVariants as instructions
use Rattle.cyc_plain.specs.declared.instruction.Operand.{Operand}
use Rattle.cyc_plain.specs.declared.instruction.Operand.TheVariants as operands
use Rattle.cyc_plain.specs.declared.instruction.BinaryOperator.{BinaryOperator}
use Rattle.cyc_plain.specs.declared.instruction.Comparison.{Comparison}
use Rattle.cyc_plain.specs.declared.limits.TheConstants.{GLOBALS_BASE, RECORD_WORDS}
use Rattle.cyc_plain.specs.inside.Operators.{unary_result, has_no_result, binary_result, compares}
use Rattle.cyc_plain.specs.inside.Requests.{destination_of}
use Rattle.cyc_plain.specs.inside.Program.{Program, routine_at}
use Rattle.cyc_plain.specs.inside.State.{Words, put, copied, Handler, Open, Caught, Activation, Frame, Configuration, State, Running, Ended, Stuck}
use Rattle.cyc_plain.specs.inside.Memory.{Range, OfGlobals, OfStore, OfSlots, range_of, is_pinned, global_at, slot_at, memory_at, with_global, with_slot, with_word, with_memory}
use Rattle.cyc_plain.specs.inside.Step.{served_to, with_slots, Choice, gives, operand_word, returns, loads, saves, loads_byte, saves_byte, advanced, asks, is_intact, tries, closes, lands, throws, finishes, call_in, performed}
use Rattle.cyc_plain.proofs.RunLaws.{if_either}
use Rattle.cyc_plain.proofs.MemoryLaws.{memory-global, written-global}
use Rattle.cyc_plain.proofs.SlotLaws.{put-other}
use Rattle.cyc_plain.specs.inside.Uses.{At, is_slot, is_among, leads}
use Rattle.cyc_plain.specs.inside.WellFormed.{IsWellFormed}
use Rattle.cyc_propagation.specs.declared.fact.Fact.{Fact}
use Rattle.cyc_propagation.specs.declared.fact.Fact.TheVariants as facts_are
use Rattle.cyc_propagation.specs.declared.fact.Touched.TheVariants as touches
use Rattle.cyc_propagation.specs.inside.Facts.{Scene, scene_of, AreTrueIn, IsTrueIfAny, IsMade, is_free, are_free, written, touched_by, touched_by_words, leaves_slot, first_global, global_offset, touched_global, touched, kept, suited, held, held_global}
use Rattle.cyc_propagation.specs.inside.Table.{IsReplaced}
use Rattle.cyc_propagation.proofs.Memory.{memory_other, memory_there, unnamed_left, IsAlike, memory_alike, global_at_offset}
use Rattle.cyc_propagation.proofs.Truth.{IsLeft, IsUntouched, fact_free, kept_true, suited_true, kept_suited, true_alone, true_after_call, suited_if, free_there}
use Rattle.cyc_propagation.proofs.Trailing.{put_left, put_itself, copied_left, copied_made, reported_left, moved_made, itself_word, test_made, not_made, computed_made, loaded_made, shown_true}
use Rattle.cyc_propagation.proofs.States as states
use Rattle.cyc_propagation.proofs.States.{HasGlobal}

module _ (program simplified : Program) (replaced : (function : ℕ) → IsReplaced program (routine_at program function) (routine_at simplified function)) where
  abbrev facts_in : (function index : ℕ) → List Fact
  facts_in = states.facts_in program simplified replaced

  abbrev pins_in : (function : ℕ) → List Bool
  pins_in = states.pins_in program simplified replaced

  abbrev AreOpen : (function : ℕ) → List Handler → Type 0
  AreOpen = states.AreOpen program simplified replaced

  abbrev AreWaiting : (callee : ℕ) → List Frame → Type 0
  AreWaiting = states.AreWaiting program simplified replaced

  abbrev IsKnown : State → Type 0
  IsKnown = states.IsKnown program simplified replaced

  module _ (choice : Choice) (c : Configuration) (i : Instruction) (at : At (routine_at simplified c.active.function) c.active.next i)
      (holds : AreTrueIn (scene_of program c) (facts_in c.active.function c.active.next)) (handling : AreOpen c.active.function c.active.handlers)
      (waiting : AreWaiting c.active.function c.frames) where
    abbrev old : Words
    old = c.active.slots

    abbrev here : List Fact
    here = facts_in c.active.function c.active.next

    abbrev slots_free : List Bool
    slots_free = pins_in c.active.function

    -- After an instruction, the facts that the table states for the next instruction are true.
    goes : (next : ℕ) (new : Scene) → leads i c.active.next next ≡ true → AreTrueIn new (kept (written program i) (touched slots_free i) here)
        → IsMade new slots_free i c.active.next next → AreTrueIn new (facts_in c.active.function next)
    goes next new led keeps makes = (replaced c.active.function).is_table.edges c.active.next next i at led new keeps makes

    left : (next : ℕ) (new : Scene) → leads i c.active.next next ≡ true → IsLeft old new.slots (written program i) → IsUntouched (scene_of program c) new (touched slots_free i)
        → IsMade new slots_free i c.active.next next → AreTrueIn new (facts_in c.active.function next)
    left next new led leaves untouched makes =
        goes next new led (kept_true (scene_of program c) new (written program i) leaves (touched slots_free i) untouched here holds) makes

    -- An instruction that writes nothing leaves memory unchanged.
    same_memory : (d : Configuration) → IsAlike c d → d.active.slots ≡ c.active.slots → IsUntouched (scene_of program c) (scene_of program d) touches.Nothing
    same_memory d alike same = memory_alike program c d alike (λ slot named. ap (λ (slots : Words). slots slot) same)

    stays : (next : ℕ) (d : Configuration) → leads i c.active.next next ≡ true → IsAlike c d → d.active.slots ≡ c.active.slots
        → touched slots_free i ≡ touches.Nothing → IsMade (scene_of program d) slots_free i c.active.next next → AreTrueIn (scene_of program d) (facts_in c.active.function next)
    stays next d led alike same none makes =
        left next (scene_of program d) led (λ slot leaves. ap (λ (slots : Words). slots slot) same)
        (subst (IsUntouched (scene_of program c) (scene_of program d)) (sym none) (same_memory d alike same)) makes

    -- The facts that an instruction preserves stay true if the instruction writes a word to a slot.
    by_slot : (d : Configuration) (destination word : ℕ) → IsAlike c d → d.active.slots ≡ put old destination word
        → IsUntouched (scene_of program c) (scene_of program d) (touched_by slots_free destination)
    by_slot d destination word alike is =
        cond_both (is_free slots_free destination) touches.Nothing touches.All (IsUntouched (scene_of program c) (scene_of program d))
        (λ free. memory_alike program c d alike (λ slot named. ap (λ (slots : Words). slots slot) is ∙ put-other old destination slot word (other free slot named)))
        (λ taken. tt)
      where
        other : is_free slots_free destination ≡ true → (slot : ℕ) → is_pinned (routine_at program c.active.function).code slot ≡ true → slot ≡ destination → ⊥
        other free slot named same =
            false≢true (sym (states.free_unnamed program simplified replaced c.active.function destination free) ∙ ap (is_pinned (routine_at program c.active.function).code) (sym same) ∙ named)

    -- The facts that an instruction preserves stay true if the instruction writes words to consecutive slots.
    by_slots : (d : Configuration) (source count destination : ℕ) → IsAlike c d → d.active.slots ≡ copied old source count old destination
        → IsUntouched (scene_of program c) (scene_of program d) (touched_by_words slots_free destination count)
    by_slots d source count destination alike is =
        cond_both (are_free slots_free destination count) touches.Nothing touches.All (IsUntouched (scene_of program c) (scene_of program d))
        (λ free.
        memory_alike program c d alike
        (λ slot named. ap (λ (slots : Words). slots slot) is ∙ copied_left old old source count destination slot (outside free slot named)))
        (λ taken. tt)
      where
        outside : are_free slots_free destination count ≡ true → (slot : ℕ) → is_pinned (routine_at program c.active.function).code slot ≡ true
            → leaves_slot (record { first = destination; count = count }) slot ≡ true
        outside free slot named = elim (cases_Bool (is_among destination count slot)) [
          | inl among ↦ absurd (false≢true (sym (states.free_unnamed program simplified replaced c.active.function slot (free_there slots_free destination count slot free among)) ∙ named))
          | inr other ↦ not_from_false (is_among destination count slot) other
        ]

    loaded_so : (destination : ℕ) (found : Option ℕ) → ((word : ℕ) → found ≡ Some word → AreTrueIn (scene_of program (advanced (with_slots c (put old destination word)))) (facts_in c.active.function (c.active.next + 1)))
        → IsKnown (loads c destination found)
    loaded_so destination None goes_on = tt
    loaded_so destination (Some word) goes_on = (goes_on word refl, handling, waiting)

    loaded_byte : (destination address : ℕ) (found : Option ℕ) → ((word : ℕ) → AreTrueIn (scene_of program (advanced (with_slots c (put old destination word)))) (facts_in c.active.function (c.active.next + 1)))
        → IsKnown (loads_byte c destination address found)
    loaded_byte destination address None goes_on = tt
    loaded_byte destination address (Some word) goes_on = (goes_on _, handling, waiting)

    wrote : (address word : ℕ) (range : Range) → AreTrueIn (scene_of program (advanced (with_word program c address word range))) (facts_in c.active.function (c.active.next + 1))
        → IsKnown (Running (advanced (with_word program c address word range)))
    wrote address word OfGlobals goes_on = go (global_at program address) goes_on
      where
        go : (number : Option ℕ) → AreTrueIn (scene_of program (advanced (with_global c number word))) (facts_in c.active.function (c.active.next + 1))
            → IsKnown (Running (advanced (with_global c number word)))
        go (Some number) goes_on = (goes_on, handling, waiting)
        go None goes_on = (goes_on, handling, waiting)
    wrote address word OfStore goes_on = (goes_on, handling, waiting)
    wrote address word OfSlots goes_on = go (slot_at program c.active address) goes_on
      where
        go : (slot : Option ℕ) → AreTrueIn (scene_of program (advanced (with_slot program c slot address word))) (facts_in c.active.function (c.active.next + 1))
            → IsKnown (Running (advanced (with_slot program c slot address word)))
        go (Some number) goes_on = (goes_on, handling, waiting)
        go None goes_on = (goes_on, handling, states.waiting_written program simplified replaced c.active.function c.frames address word waiting)

    -- Besides memory, a store instruction changes at most one slot of the active call, and only a slot whose address is taken.
    module _ (address word : ℕ) where
      abbrev after_store : Configuration
      after_store = advanced (with_memory program c address word)

      -- Combines the words of a call's slots before a store instruction with the words of memory after this instruction.
      abbrev between : Scene
      between = record { slots = old; memory = memory_at program after_store }

      free_left : (slot : ℕ) → is_free slots_free slot ≡ true → after_store.active.slots slot ≡ old slot
      free_left slot free = unnamed_left program c address word slot (states.free_unnamed program simplified replaced c.active.function slot free)

      memory_after : (other : ℕ) → memory_at program after_store other ≡ memory_at program (with_memory program c address word) other
      memory_after other =
          memory_alike program (with_memory program c address word) after_store (record { function = refl; base = refl; frames = refl; globals = refl; store = refl }) (λ slot named. refl) other

      stored : written program i ≡ record { first = 0; count = 0 } → leads i c.active.next (c.active.next + 1) ≡ true → IsUntouched (scene_of program c) between (touched slots_free i)
          → IsMade (scene_of program after_store) slots_free i c.active.next (c.active.next + 1)
          → AreTrueIn (scene_of program after_store) (facts_in c.active.function (c.active.next + 1))
      stored none led untouched makes =
          goes (c.active.next + 1) (scene_of program after_store) led
          (suited_true between (scene_of program after_store) slots_free free_left (λ other. refl) (kept (written program i) (touched slots_free i) here)
          (kept_suited slots_free (written program i) (touched slots_free i) here (states.suited_at program simplified replaced c.active.function c.active.next i at))
          (kept_true (scene_of program c) between (written program i) (λ slot leaves. refl) (touched slots_free i) untouched here holds))
          makes

      -- After a store instruction, memory has the stored word at the address of the store.
      stored_there : (base : Operand) (offset before : ℕ) (source : Operand) → address ≡ add_of (operand_word old base) offset → word ≡ operand_word old source
          → memory_at program c address ≡ Some before → IsTrueIfAny (scene_of program after_store) (held slots_free base offset source)
      stored_there base offset before source is_address is_word there =
          let fact : Fact = facts_are.Held base offset source in
          suited_if (scene_of program after_store) slots_free fact
          (λ suits.
          fact_free between (scene_of program after_store) slots_free free_left (λ other. refl) fact suits
          (ap (memory_at program after_store) (sym is_address) ∙ memory_after address ∙ memory_there program c address word before there ∙ ap Some is_word))

    -- A return writes the result slots of the newest call that waits for its callee. After the return, the facts known about the
    -- slots of the call that waited are true.
    returned : (value results : ℕ) (frames : List Frame) → results ≡ (routine_at program c.active.function).results → AreWaiting c.active.function frames → IsKnown (returns c value results frames)
    returned value results [] same calls = tt
    returned value results (f ∷ frames) same (stands, rest) =
        let function : ℕ = f.caller.function in
        let slots : Words = f.caller.slots in
        let new : Words = copied old value results slots f.result in
        let d : Configuration = record c { active = record f.caller { slots = copied old value results slots f.result }; frames = frames } in
        let following : Scene = scene_of program d in
        let leaves : IsLeft slots new (record { first = f.result; count = (routine_at program c.active.function).results }) =
        subst (λ (n : ℕ). IsLeft slots new (record { first = f.result; count = n })) same (copied_left old slots value results f.result) in
        let led : leads (instructions.Call c.active.function stands.arguments stands.count f.result) stands.index f.caller.next ≡ true =
        eq-eqb (suc stands.index) f.caller.next (sym stands.following) in (
          (replaced function).is_table.edges stands.index f.caller.next (instructions.Call c.active.function stands.arguments stands.count f.result) stands.at led following
              (true_after_call slots following (record { first = f.result; count = (routine_at program c.active.function).results }) leaves (facts_in function stands.index) stands.holds) tt,
          stands.open_handlers,
          rest,
        )

    finished : (value results : ℕ) (handlers : List Handler) → results ≡ (routine_at program c.active.function).results → IsKnown (finishes c value results handlers)
    finished value results [] same = returned value results c.frames same waiting
    finished value results (h ∷ handlers) same = tt

    served : (destination : ℕ) (call : Call) (o : Option Refusal) → AreTrueIn (scene_of program (served_to choice.serving c destination call)) (facts_in c.active.function (c.active.next + 1)) → IsKnown (asks choice.serving c destination call o)
    served destination call None goes_on = (goes_on, handling, waiting)
    served destination call (Some services.BadMark) goes_on = tt
    served destination call (Some services.BadHandle) goes_on = tt
    served destination call (Some services.BadSize) goes_on = tt
    served destination call (Some services.NotABlock) goes_on = tt
    served destination call (Some services.Full) goes_on = tt

    closed : ((handlers : List Handler) → AreTrueIn (scene_of program (advanced (record c { active = record c.active { handlers = handlers } }))) (facts_in c.active.function (c.active.next + 1)))
        → (first : ℕ) (handlers : List Handler) → AreOpen c.active.function handlers → IsKnown (closes c first handlers)
    closed goes_on first [] all = tt
    closed goes_on first (Caught ∷ handlers) all = tt
    closed goes_on first (Open index other contents ∷ handlers) all =
        if_either IsKnown (other == first)
        (if is_intact old first contents then Running (advanced (record c { active = record c.active { handlers = handlers } })) else Stuck c.output c.input) (closes c first handlers)
        (if_either IsKnown (is_intact old first contents) (Running (advanced (record c { active = record c.active { handlers = handlers } }))) (Stuck c.output c.input)
        (goes_on handlers, all.1, waiting) tt)
        (closed goes_on first handlers all.1)

    -- Returns the configuration in which the active call has one more open exception handler.
    abbrev opened : (first : ℕ) → Configuration
    opened first = record c {
      active = record c.active {
        next = c.active.next + 1;
        slots = copied choice.contents 0 RECORD_WORDS c.active.slots first;
        handlers = Open c.active.next first choice.contents ∷ c.active.handlers;
      };
    }

    -- No fact is required where an exception reaches a handler. So executing `Try`, which opens a handler, leaves all
    -- facts that the tables state for code positions true.
    tried : (first handler : ℕ) (handlers : List Handler) → AreOpen c.active.function handlers → here ≡ []
        → ((new : Scene) → AreTrueIn new (facts_in c.active.function (c.active.next + 1))) → ((new : Scene) → AreTrueIn new (facts_in c.active.function handler))
        → IsKnown (tries choice c first handler handlers)
    tried first handler [] all nothing following caught = (following (scene_of program (opened first)), (nothing, handling), waiting)
    tried first handler (Open index other contents ∷ handlers) all nothing following caught = (following (scene_of program (opened first)), (nothing, handling), waiting)
    tried first handler (Caught ∷ handlers) all nothing following caught =
        (caught (scene_of program (record c { active = record c.active { next = handler; handlers = handlers } })), all, waiting)

    landed : (tag value : ℕ) (a : Activation) (frames : List Frame) (beyond : State) (handlers : List Handler) → AreOpen a.function handlers → AreWaiting a.function frames
        → IsKnown beyond → IsKnown (lands c tag value a frames beyond handlers)
    landed tag value a frames beyond [] all rest goes_on = goes_on
    landed tag value a frames beyond (Caught ∷ handlers) all rest goes_on = tt
    landed tag value a frames beyond (Open index first contents ∷ handlers) all rest goes_on =
        let d : Configuration = record c { active = record a { next = index; slots = put (put a.slots first tag) (suc first) value; handlers = Caught ∷ handlers }; frames = frames } in
        if_either IsKnown (is_intact a.slots first contents)
        (Running (record c { active = record a { next = index; slots = put (put a.slots first tag) (suc first) value; handlers = Caught ∷ handlers }; frames = frames }))
        (Stuck c.output c.input)
        (subst (AreTrueIn (scene_of program d)) (sym all.0) tt, all.1, rest) tt

    thrown : (tag value : ℕ) (a : Activation) (frames : List Frame) → AreOpen a.function a.handlers → AreWaiting a.function frames → IsKnown (throws c tag value a frames)
    thrown tag value a [] all rest = landed tag value a [] (Ended (Uncaught tag (signed value)) c.output c.input) a.handlers all rest tt
    thrown tag value a (f ∷ frames) all rest =
        landed tag value a (f ∷ frames) (throws c tag value f.caller frames) a.handlers all rest (thrown tag value f.caller frames rest.0.open_handlers rest.1)

  module _ (choice : Choice) (c : Configuration) (holds : AreTrueIn (scene_of program c) (facts_in c.active.function c.active.next))
      (handling : AreOpen c.active.function c.active.handlers) (waiting : AreWaiting c.active.function c.frames) where
    abbrev words : Words
    words = c.active.slots

    abbrev pins : List Bool
    pins = pins_in c.active.function

    abbrev here_at : Instruction → Type 0
    here_at i = At (routine_at simplified c.active.function) c.active.next i

    abbrev led : (suc c.active.next == c.active.next + 1) ≡ true
    led = eqb_next c.active.next

    -- The facts known after an instruction are true if the instruction writes a word to a slot.
    gets : (i : Instruction) → here_at i → (d : Configuration) (destination word : ℕ) → IsAlike c d → d.active.slots ≡ put words destination word
        → leads i c.active.next (c.active.next + 1) ≡ true → written program i ≡ record { first = destination; count = 1 } → touched pins i ≡ touched_by pins destination
        → IsMade (scene_of program d) pins i c.active.next (c.active.next + 1) → AreTrueIn (scene_of program d) (facts_in c.active.function (c.active.next + 1))
    gets i at d destination word same is led writes touches makes =
        left choice c i at holds handling waiting (c.active.next + 1) (scene_of program d) led
        (subst (IsLeft words d.active.slots) (sym writes) (subst (λ (new : Words). IsLeft words new (record { first = destination; count = 1 })) (sym is) (put_left words destination word)))
        (subst (IsUntouched (scene_of program c) (scene_of program d)) (sym touches) (by_slot choice c i at holds handling waiting d destination word same is)) makes

    abbrev given : (destination word : ℕ) → Configuration
    given destination word = advanced (with_slots c (put words destination word))

    moved : (destination : ℕ) (source : Operand) → here_at (instructions.Move destination source) → IsKnown (performed program choice c (instructions.Move destination source))
    moved destination source at =
        let i : Instruction = instructions.Move destination source in
        let d : Configuration = given destination (operand_word words source) in (
          left choice c i at holds handling waiting (c.active.next + 1) (scene_of program d) led (leaves (is_slot source destination) refl)
              (by_slot choice c i at holds handling waiting d destination (operand_word words source) (record { function = refl; base = refl; frames = refl; globals = refl; store = refl }) refl)
              (makes (is_slot source destination) refl),
          handling,
          waiting,
        )
      where
        leaves : (b : Bool) → is_slot source destination ≡ b
            → IsLeft words (put words destination (operand_word words source)) (if b then record { first = destination; count = 0 } else record { first = destination; count = 1 })
        leaves true is = put_itself words destination (operand_word words source) (itself_word words destination source is) (record { first = destination; count = 0 })
        leaves false is = put_left words destination (operand_word words source)

        makes : (b : Bool) → is_slot source destination ≡ b
            → IsTrueIfAny (scene_of program (given destination (operand_word words source))) (if b then None else suited pins (facts_are.Equal destination source))
        makes true is = tt
        makes false is = moved_made words (memory_at program (given destination (operand_word words source))) pins destination source is

    computed : (operator : BinaryOperator) (destination : ℕ) (left right : Operand) → here_at (instructions.Binary operator destination left right)
        → IsKnown (performed program choice c (instructions.Binary operator destination left right))
    computed operator destination left right at = go (has_no_result operator (operand_word words right)) refl
      where
        go : (b : Bool) → has_no_result operator (operand_word words right) ≡ b → IsKnown (if b then Stuck c.output c.input else gives c destination (binary_result operator (operand_word words left) (operand_word words right)))
        go true none = tt
        go false some =
            let word : ℕ = binary_result operator (operand_word words left) (operand_word words right) in (
              gets (instructions.Binary operator destination left right) at (given destination word) destination word (record { function = refl; base = refl; frames = refl; globals = refl; store = refl })
                  refl led refl refl
                  (test_made words (memory_at program (given destination word)) pins destination operator left right, computed_made words (memory_at program (given destination word)) pins operator destination left right some),
              handling,
              waiting,
            )

    branched : (comparison : Comparison) (left right : Operand) (target : ℕ) → here_at (instructions.Branch comparison left right target)
        → IsKnown (performed program choice c (instructions.Branch comparison left right target))
    branched comparison left_operand right_operand target at =
        let i : Instruction = instructions.Branch comparison left_operand right_operand target in
        let taken : Bool = compares comparison (operand_word words left_operand) (operand_word words right_operand) in
        let next : ℕ = if taken then target else c.active.next + 1 in (
          stays choice c i at holds handling waiting next (with_next next) (leads_there taken) (record { function = refl; base = refl; frames = refl; globals = refl; store = refl }) refl refl
              (shown_true (scene_of program (with_next next)) pins comparison left_operand right_operand target c.active.next taken refl),
          handling,
          waiting,
        )
      where
        with_next : ℕ → Configuration
        with_next next = record c { active = record c.active { next = next } }

        leads_there : (b : Bool) → leads (instructions.Branch comparison left_operand right_operand target) c.active.next (if b then target else c.active.next + 1) ≡ true
        leads_there true = or_right (suc c.active.next == target) (target == target) (eq-eqb target target refl)
        leads_there false = or_left (suc c.active.next == c.active.next + 1) (target == c.active.next + 1) led

    try_after : (first handler next : ℕ) → here_at (instructions.Try first handler) → leads (instructions.Try first handler) c.active.next next ≡ true
        → (new : Scene) → AreTrueIn new (facts_in c.active.function next)
    try_after first handler next at led new =
        let i : Instruction = instructions.Try first handler in
        goes choice c i at holds handling waiting next new led
        (subst (λ (facts : List Fact). AreTrueIn new (kept (written program i) (touched pins i) facts)) (sym ((replaced c.active.function).is_table.tries c.active.next first handler at)) tt) tt

    -- The facts known after an instruction are true if the instruction writes a word to a slot, and if the facts that the instruction
    -- establishes are true.
    gets_any : (i : Instruction) → here_at i → (d : Configuration) (destination word : ℕ) → IsAlike c d → d.active.slots ≡ put words destination word
        → leads i c.active.next (c.active.next + 1) ≡ true → written program i ≡ record { first = destination; count = 1 } → touched pins i ≡ touched_by pins destination
        → IsMade (scene_of program d) pins i c.active.next (c.active.next + 1) → AreTrueIn (scene_of program d) (facts_in c.active.function (c.active.next + 1))
    gets_any i at d destination word same is led writes touches makes =
        gets i at d destination word same is led writes touches makes

    -- The facts known after an instruction are true if the instruction changes only the output and the open exception handlers.
    goes_by : (i : Instruction) → here_at i → (d : Configuration) → leads i c.active.next (c.active.next + 1) ≡ true → IsAlike c d → d.active.slots ≡ words → touched pins i ≡ touches.Nothing
        → IsMade (scene_of program d) pins i c.active.next (c.active.next + 1) → AreTrueIn (scene_of program d) (facts_in c.active.function (c.active.next + 1))
    goes_by i at d led same is nothing makes =
        stays choice c i at holds handling waiting (c.active.next + 1) d led same is nothing makes

    saved : (address : Operand) (offset : ℕ) (source : Operand) → here_at (instructions.Store address offset source)
        → (found : Option ℕ) → memory_at program c (add_of (operand_word words address) offset) ≡ found
        → IsKnown (saves program c (add_of (operand_word words address) offset) (operand_word words source) found)
    saved address offset source at None found = tt
    saved address offset source at (Some before) found =
        let i : Instruction = instructions.Store address offset source in
        let a : ℕ = add_of (operand_word words address) offset in
        let word : ℕ = operand_word words source in
        wrote choice c i at holds handling waiting a word (range_of a)
        (stored choice c i at holds handling waiting a word refl led
        (λ other apart. memory_after choice c i at holds handling waiting a word other ∙ memory_other program c a word other apart)
        (stored_there choice c i at holds handling waiting a word address offset before source refl refl found))

    saved_byte : (address : Operand) (offset : ℕ) (source : Operand) → here_at (instructions.StoreByte address offset source) → (found : Option ℕ)
        → IsKnown (saves_byte program c (add_of (operand_word words address) offset) (operand_word words source % 256) found)
    saved_byte address offset source at None = tt
    saved_byte address offset source at (Some before) =
        let i : Instruction = instructions.StoreByte address offset source in
        let a : ℕ = add_of (operand_word words address) offset in
        let word : ℕ = with_byte before (a % 4) (operand_word words source % 256) in
        wrote choice c i at holds handling waiting (word_of a) word (range_of (word_of a)) (stored choice c i at holds handling waiting (word_of a) word refl led tt tt)

    loaded : (destination : ℕ) (address : Operand) (offset : ℕ) → here_at (instructions.Load destination address offset)
        → IsKnown (performed program choice c (instructions.Load destination address offset))
    loaded destination address offset at =
        let i : Instruction = instructions.Load destination address offset in
        let a : ℕ = add_of (operand_word words address) offset in
        loaded_so choice c i at holds handling waiting destination (memory_at program c a)
        (λ word there.
        let d : Configuration = given destination word in
        gets i at d destination word (record { function = refl; base = refl; frames = refl; globals = refl; store = refl }) refl led refl refl
        (loaded_made words (memory_at program d) pins address offset destination word
        (λ free.
        memory_alike program c d (record { function = refl; base = refl; frames = refl; globals = refl; store = refl })
        (λ slot named. put-other words destination slot word (λ same. false≢true (sym (states.free_unnamed program simplified replaced c.active.function destination free) ∙ ap (is_pinned (routine_at program c.active.function).code) (sym same) ∙ named))) a
        ∙ there)))

    -- The facts known after a load of a global are true.
    from_global : IsWellFormed program → (destination global : ℕ) → global < length program.globals → here_at (instructions.LoadGlobal destination global)
        → IsKnown (performed program choice c (instructions.LoadGlobal destination global))
    from_global well destination global below at = (
      gets (instructions.LoadGlobal destination global) at following destination (c.globals global) (record { function = refl; base = refl; frames = refl; globals = refl; store = refl }) refl led refl refl
          (makes (global_offset global) refl),
      handling,
      waiting,
    )
      where
        following : Configuration
        following = given destination (c.globals global)

        makes : (o : Option ℕ) → global_offset global ≡ o → IsTrueIfAny (scene_of program following) (held_global pins o (operands.Slot destination))
        makes (Some offset) is =
            loaded_made words (memory_at program following) pins first_global offset destination (c.globals global)
            (λ free. ap (memory_at program following) (global_at_offset global offset is) ∙ memory-global program well following global below)
        makes None is = tt

    -- A store to a global has the same effect as a store to the global's address, so the facts known after it are true.
    to_global : IsWellFormed program → (global : ℕ) (source : Operand) → global < length program.globals → here_at (instructions.StoreGlobal global source)
        → IsKnown (performed program choice c (instructions.StoreGlobal global source))
    to_global well global source below at = (
      subst (λ (d : Configuration). AreTrueIn (scene_of program (advanced d)) (facts_in c.active.function (c.active.next + 1))) (written-global program well c global word below)
          (stored choice c i at holds handling waiting address word refl led (leaves (global_offset global) refl) (makes (global_offset global) refl)),
      handling,
      waiting,
    )
      where
        i : Instruction
        i = instructions.StoreGlobal global source

        address : ℕ
        address = GLOBALS_BASE + 4 * global

        word : ℕ
        word = operand_word words source

        leaves : (o : Option ℕ) → global_offset global ≡ o → IsUntouched (scene_of program c) (between choice c i at holds handling waiting address word) (touched_global o)
        leaves (Some offset) is = λ other apart.
            memory_after choice c i at holds handling waiting address word other
            ∙ memory_other program c address word other (λ same. apart (same ∙ sym (global_at_offset global offset is)))
        leaves None is = tt

        makes : (o : Option ℕ) → global_offset global ≡ o
            → IsTrueIfAny (scene_of program (after_store choice c i at holds handling waiting address word)) (held_global pins o source)
        makes (Some offset) is =
            stored_there choice c i at holds handling waiting address word first_global offset (c.globals global) source (sym (global_at_offset global offset is)) refl (memory-global program well c global below)
        makes None is = tt

    performs : IsWellFormed program → (i : Instruction) → HasGlobal program i → here_at i → IsKnown (performed program choice c i)
    performs well (instructions.Move destination source) has at = moved destination source at
    performs well (instructions.MoveWords destination source count) has at = (
      left choice c (instructions.MoveWords destination source count) at holds handling waiting (c.active.next + 1) (scene_of program (advanced (with_slots c (copied words source count words destination)))) led (copied_left words words source count destination)
          (by_slots choice c (instructions.MoveWords destination source count) at holds handling waiting (advanced (with_slots c (copied words source count words destination))) source count destination (record { function = refl; base = refl; frames = refl; globals = refl; store = refl }) refl)
          (copied_made words pins source count destination),
      handling,
      waiting,
    )
    performs well (instructions.Unary operator destination operand) has at = (gets_any (instructions.Unary operator destination operand) at (given destination (unary_result operator (operand_word words operand))) destination (unary_result operator (operand_word words operand)) (record { function = refl; base = refl; frames = refl; globals = refl; store = refl }) refl led refl refl (not_made words (memory_at program (given destination (unary_result operator (operand_word words operand)))) pins destination operator operand), handling, waiting)
    performs well (instructions.Binary operator destination left right) has at = computed operator destination left right at
    performs well (instructions.Jump target) has at = (
      stays choice c (instructions.Jump target) at holds handling waiting target (record c { active = record c.active { next = target } }) (eq-eqb target target refl) (record { function = refl; base = refl; frames = refl; globals = refl; store = refl }) refl refl tt,
      handling,
      waiting,
    )
    performs well (instructions.Branch comparison left right target) has at = branched comparison left right target at
    performs well (instructions.Call function arguments count result) has at = (
      subst (AreTrueIn (scene_of program (record c {
        active = record { function = function; next = 0; base = choice.base; slots = copied words arguments count choice.contents 0; handlers = [] };
        frames = record { caller = (advanced c).active; result = result } ∷ c.frames;
      }))) (sym (replaced function).is_table.first) tt,
      tt,
      (
        record {
          index = c.active.next;
          arguments = arguments;
          count = count;
          following = omega arith;
          at = at;
          holds = true_alone (scene_of program c) (facts_in c.active.function c.active.next) holds;
          open_handlers = handling;
        },
        waiting,
      ),
    )
    performs well (instructions.Return value) has at = returned choice c _ at holds handling waiting value (routine_at program c.active.function).results c.frames refl waiting
    performs well (instructions.ReadByte destination) has at = (gets_any (instructions.ReadByte destination) at (advanced (with_slots (record c { input = drop 1 c.input }) (put words destination (unwrap_or (slice_get c.input 0) (2 ^ 32 - 1))))) destination (unwrap_or (slice_get c.input 0) (2 ^ 32 - 1)) (record { function = refl; base = refl; frames = refl; globals = refl; store = refl }) refl led refl refl tt, handling, waiting)
    performs well (instructions.WriteByte source) has at = (goes_by (instructions.WriteByte source) at (advanced (record c { output = c.output ++ operand_word words source % 256 ∷ [] })) led (record { function = refl; base = refl; frames = refl; globals = refl; store = refl }) refl refl tt, handling, waiting)
    performs well (instructions.AddressOf destination slot count) has at = (gets_any (instructions.AddressOf destination slot count) at (given destination (add_of c.active.base (4 * slot))) destination (add_of c.active.base (4 * slot)) (record { function = refl; base = refl; frames = refl; globals = refl; store = refl }) refl led refl refl tt, handling, waiting)
    performs well (instructions.LoadGlobal destination global) has at = from_global well destination global has at
    performs well (instructions.StoreGlobal global source) has at = to_global well global source has at
    performs well (instructions.Load destination address offset) has at = loaded destination address offset at
    performs well (instructions.Store address offset source) has at = saved address offset source at (memory_at program c (add_of (operand_word words address) offset)) refl
    performs well (instructions.LoadByte destination address offset) has at =
        loaded_byte choice c (instructions.LoadByte destination address offset) at holds handling waiting destination (add_of (operand_word words address) offset)
        (memory_at program c (word_of (add_of (operand_word words address) offset)))
        (λ word. gets_any (instructions.LoadByte destination address offset) at (given destination word) destination word (record { function = refl; base = refl; frames = refl; globals = refl; store = refl }) refl led refl refl tt)
    performs well (instructions.StoreByte address offset source) has at = saved_byte address offset source at (memory_at program c (word_of (add_of (operand_word words address) offset)))
    performs well (instructions.Ask request) has at =
        served choice c (instructions.Ask request) at holds handling waiting (destination_of request) (call_in words request) (refusal c.store (call_in words request))
        (left choice c (instructions.Ask request) at holds handling waiting (c.active.next + 1) (scene_of program (served_to choice.serving c (destination_of request) (call_in words request))) led (reported_left c.store words words request choice.serving) tt tt)
    performs well (instructions.CountLexical destination) has at = (gets_any (instructions.CountLexical destination) at (given destination (lexical_count c.store.regions % 2 ^ 32)) destination (lexical_count c.store.regions % 2 ^ 32) (record { function = refl; base = refl; frames = refl; globals = refl; store = refl }) refl led refl refl tt, handling, waiting)
    performs well (instructions.Try first handler) has at =
        tried choice c (instructions.Try first handler) at holds handling waiting first handler c.active.handlers handling ((replaced c.active.function).is_table.tries c.active.next first handler at)
        (try_after first handler (c.active.next + 1) at (or_left (suc c.active.next == c.active.next + 1) (handler == c.active.next + 1) led))
        (try_after first handler handler at (or_right (suc c.active.next == handler) (handler == handler) (eq-eqb handler handler refl)))
    performs well (instructions.Leave first) has at =
        closed choice c (instructions.Leave first) at holds handling waiting
        (λ handlers. goes_by (instructions.Leave first) at (advanced (record c { active = record c.active { handlers = handlers } })) led (record { function = refl; base = refl; frames = refl; globals = refl; store = refl }) refl refl tt) first c.active.handlers handling
    performs well (instructions.Throw tag value) has at =
        thrown choice c (instructions.Throw tag value) at holds handling waiting (operand_word words tag) (operand_word words value) c.active c.frames handling waiting
    performs well (instructions.Finish value) has at = finished choice c (instructions.Finish value) at holds handling waiting value (routine_at program c.active.function).results c.active.handlers refl
    performs well (instructions.Uncaught tag value) has at = tt
    performs well (instructions.Enter function) has at = (goes_by (instructions.Enter function) at (advanced c) led (record { function = refl; base = refl; frames = refl; globals = refl; store = refl }) refl refl tt, handling, waiting)

  -- If the known facts are true before a step, the facts known after this step are true.
  pub known_after : IsWellFormed program → (choice : Choice) (c : Configuration) (i : Instruction) → HasGlobal program i → At (routine_at simplified c.active.function) c.active.next i
      → IsKnown (Running c) → IsKnown (performed program choice c i)
  known_after well choice c i has at (holds, handling, waiting) = performs choice c holds handling waiting well i has at
