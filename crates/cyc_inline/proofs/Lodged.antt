-- The relation between the states of the source program and of the inlined program during an inlined call. In the source program, the
-- inlined call is a call of its own. In the inlined program, the slots of the inlined callee are extra slots of its caller, and the
-- caller's code contains the callee's code.
use Rattle.std.proofs.Common.{◌≡◌, ℕ, suc, ◌+◌, Bool, true, false, List, [], ◌∷◌, length, Option, Some, None, refl, sym, ap, subst, ◌∙◌, arith, inr}
use Rattle.std.specs.Prelude.{◌&&◌, ◌==◌, ◌*◌, ◌/◌, ◌-◌, if◌then◌else◌}
use Rattle.cyc_store.specs.State.{StoreState, has_saved, word_at}
use Rattle.cyc_store.specs.State as stores
use Rattle.cyc_plain.specs.declared.instruction.Instruction.{Instruction}
use Rattle.cyc_plain.specs.declared.instruction.Instruction.TheVariants as instructions
use Rattle.cyc_plain.specs.inside.Memory.{global_at, slot_at, word_or, word_waiting, put_or, with_waiting, Range, OfGlobals, OfStore, OfSlots, range_of, word_in, memory_at, with_global, with_slot, with_word}
use Rattle.cyc_plain.specs.inside.Program.{Routine, Program, routine_at}
use Rattle.cyc_plain.specs.inside.State.{Words, put, Activation, Frame, Configuration, State, Running, Ended, Stuck}
use Rattle.cyc_plain.specs.inside.Step.{Choice, advanced, performed}
use Rattle.cyc_plain.specs.inside.Straight.{At}
use Rattle.cyc_plain.specs.inside.WellFormed.{IsInRange, IsWellFormed, leaves}
use Rattle.cyc_plain.proofs.MemoryLaws.{length-waiting}
use Rattle.cyc_plain.proofs.SlotLaws.{put-other}
use Rattle.cyc_inline.specs.declared.origin.Origin.{Origin}
use Rattle.cyc_inline.specs.inside.Opened.{moved, origin_at, GoesTo, IsSite, origins_of, AreOpened}
use Rattle.cyc_inline.proofs.Agreeing.{Agree, from_slot}
use Rattle.cyc_inline.proofs.Waiting.{place_in, slots_of, AreSlotted, AreWaiting, beside}
use Rattle.cyc_inline.proofs.Memory.{leaf_pinned, slot_same, slot_inside, word_same, waiting_same, global_same, put_slotted, put_next, written_waiting}
use Rattle.cyc_inline.proofs.Performing.{is_ordinary, IsNext, Bears, performs}

module _ (program inlined : Program) (origins : List (List Origin)) (are : AreOpened program inlined origins) where
  pub record IsLodged (c : Configuration) (b : Activation) (gs : List Frame) : Type 0 where
    -- During an inlined call, the caller waits for the callee's return in the source program, but is itself the active call in the inlined
    -- program.
    pub waits : Frame
    pub rest : List Frame
    pub frames : c.frames ≡ waits ∷ rest
    pub slotted : AreSlotted program inlined origins are waits.caller b
    pub waiting : AreWaiting program inlined origins are waits.caller.function rest gs
    -- The call instruction of the caller that was inlined: its index, its arguments and the code that replaces it.
    pub index : ℕ
    pub arguments : ℕ
    pub count : ℕ
    pub following : waits.caller.next ≡ index + 1
    pub calls : At (routine_at program waits.caller.function).code index (instructions.Call c.active.function arguments count waits.result)
    pub site : IsSite program (routine_at inlined waits.caller.function) (origins_of origins waits.caller.function) (slots_of program inlined origins are waits.caller.function) waits.caller.function index
        (place_in program inlined origins are waits.caller.function index) (place_in program inlined origins are waits.caller.function (index + 1)) c.active.function arguments count waits.result
    -- The slots of the inlined call agree in the source and the inlined program, and the call has no exception handler.
    pub slots : Agree (slots_of program inlined origins are c.active.function) c.active.slots (from_slot (slots_of program inlined origins are waits.caller.function) b.slots)
    pub handlers : c.active.handlers ≡ []

  module _ (well : IsWellFormed program) (c : Configuration) (b : Activation) (gs : List Frame) (lodged : IsLodged c b gs) where
    abbrev d : Configuration
    d = beside program inlined origins are c b gs

    abbrev f : Frame
    f = lodged.waits

    abbrev shift : ℕ
    shift = slots_of program inlined origins are lodged.waits.caller.function

    abbrev leaf : Routine
    leaf = routine_at program c.active.function

    -- ---- memory

    hidden : (address : ℕ) → slot_at program c.active address ≡ None
    hidden address =
        let number : ℕ = (address - c.active.base) / 4 in
        ap (λ (t : Bool). if c.active.base + 4 * number == address && t then Some number else None) (leaf_pinned leaf.code number lodged.site.leaf) ∙ none (c.active.base + 4 * number == address) number
      where
        none : (t : Bool) (number : ℕ) → (if t && false then Some number else None) ≡ None
        none true number = refl
        none false number = refl

    memory_inside : (address : ℕ) → memory_at inlined d address ≡ memory_at program c address
    memory_inside address = go (range_of address)
      where
        go : (range : Range) → word_in inlined d address range ≡ word_in program c address range
        go OfGlobals = ap (λ (o : Option ℕ). word_or o c.globals None) (global_same program inlined origins are well address)
        go OfStore = refl
        go OfSlots =
            word_same program inlined origins are well f.caller b address (word_waiting program lodged.rest address) (word_waiting inlined gs address) lodged.slotted
            (waiting_same program inlined origins are well f.caller.function lodged.rest gs address lodged.waiting)
            ∙ sym (ap (λ (o : Option ℕ). word_or o c.active.slots (word_waiting program c.frames address)) (hidden address)
            ∙ ap (λ (frames : List Frame). word_waiting program frames address) lodged.frames)

    -- ---- the call continues

    -- Says that, after an instruction of the inlined call, control falls through or jumps to the given code position.
    abbrev pub Falls : Type 0
    Falls = GoesTo (routine_at inlined lodged.waits.caller.function).code (origins_of origins lodged.waits.caller.function) (b.next + 1) (lodged.site.place (c.active.next + 1)) (origin_at c.active.function c.active.next)

    abbrev pub IsAfter : (to other : ℕ) → Type 0
    IsAfter = IsNext program inlined (routine_at program c.active.function) (slots_of program inlined origins are lodged.waits.caller.function) lodged.site.place c b gs Falls

    pub record IsGoing (e : Configuration) (t : State) : Type 0 where
      pub active : Activation
      pub frames : List Frame
      pub is : t ≡ Running (beside program inlined origins are e active frames)
      pub lodges : IsLodged e active frames
      pub same_site : (to : ℕ) → lodges.site.place to ≡ lodged.site.place to
      pub caller : lodges.waits.caller.function ≡ lodged.waits.caller.function
      pub next : IsAfter e.active.next active.next
      pub as_much : stores.demand e.store ≡ stores.demand c.store
      pub as_deep : length e.frames ≡ length c.frames

    -- Says that states match during an inlined call; the source run does not end inside the inlined call.
    abbrev pub Going : State → State → Type 0
    Going (Running e) t = IsGoing e t
    Going (Ended ending output input) t = ⊥
    Going (Stuck output input) t = Unit {0}

    -- The relation of an inlined call still holds after its slots and code position change correspondingly in the source and
    -- the inlined program.
    abbrev moved_on : (slots others : Words) (to other : ℕ) (globals : Words) (store : StoreState) (output input : List ℕ) → Agree leaf.slots slots (from_slot shift others) → Agree shift b.slots others
        → IsLodged (record c { active = record c.active { slots = slots; next = to }; globals = globals; store = store; output = output; input = input }) (record b { slots = others; next = other }) gs
    moved_on slots others to other globals store output input agree kept = record {
      waits = f;
      rest = lodged.rest;
      frames = lodged.frames;
      slotted = record {
        function = lodged.slotted.function;
        base = lodged.slotted.base;
        handlers = lodged.slotted.handlers;
        records = lodged.slotted.records;
        slots = λ k below. kept k below ∙ lodged.slotted.slots k below;
      };
      waiting = lodged.waiting;
      index = lodged.index;
      arguments = lodged.arguments;
      count = lodged.count;
      following = lodged.following;
      calls = lodged.calls;
      site = lodged.site;
      slots = agree;
      handlers = lodged.handlers;
    }

    -- ---- writes

    module _ (address word : ℕ) (falls : Falls) where
      abbrev IsWritten : Configuration → Configuration → Type 0
      IsWritten e g = Going (Running (advanced e)) (Running (advanced g))

      stays : (globals : Words) (store : StoreState) → stores.demand store ≡ stores.demand c.store
          → IsWritten (record c { globals = globals; store = store }) (record d { globals = globals; store = store })
      stays globals store as_much = record {
        active = record b { next = b.next + 1 };
        frames = gs;
        is = refl;
        lodges = moved_on c.active.slots b.slots (c.active.next + 1) (b.next + 1) globals store c.output c.input lodged.slots (λ k below. refl);
        same_site = λ to. refl;
        caller = refl;
        next = inr (refl, refl, falls);
        as_much = as_much;
        as_deep = refl;
      }

      by_global : (o : Option ℕ) → IsWritten (with_global c o word) (with_global d o word)
      by_global (Some number) = stays (put c.globals number word) c.store refl
      by_global None = stays c.globals c.store refl

      by_store : (o : Option ℕ) → IsWritten (record c { store = has_saved c.store address word o }) (record d { store = has_saved c.store address word o })
      by_store (Some old) = stays c.globals (has_saved c.store address word (Some old)) refl
      by_store None = stays c.globals c.store refl

      -- During an inlined call, a write to the address of a slot changes a slot of the caller or of a call waiting for it.
      by_slot : (o : Option ℕ) → slot_at program f.caller address ≡ o
          → IsWritten (record c { frames = put_or o word f lodged.rest (with_waiting program lodged.rest address word) }) (with_slot inlined d o address word)
      by_slot (Some number) at = record {
        active = record b { slots = put b.slots number word; next = b.next + 1 };
        frames = gs;
        is = refl;
        lodges = record {
          waits = record f { caller = record f.caller { slots = put f.caller.slots number word } };
          rest = lodged.rest;
          frames = refl;
          slotted = put_next program inlined origins are well (put_slotted program inlined origins are well f.caller b number word lodged.slotted);
          waiting = lodged.waiting;
          index = lodged.index;
          arguments = lodged.arguments;
          count = lodged.count;
          following = lodged.following;
          calls = lodged.calls;
          site = lodged.site;
          slots = λ k below.
              put-other b.slots number (shift + k) word (λ e. let inside = slot_inside program inlined origins are well f.caller address number at in omega (arith, e, inside))
              ∙ lodged.slots k below;
          handlers = lodged.handlers;
        };
        same_site = λ to. refl;
        caller = refl;
        next = inr (refl, refl, falls);
        as_much = refl;
        as_deep = sym (ap length lodged.frames);
      }
      by_slot None at = record {
        active = record b { next = b.next + 1 };
        frames = with_waiting inlined gs address word;
        is = refl;
        lodges = record {
          waits = f;
          rest = with_waiting program lodged.rest address word;
          frames = refl;
          slotted = put_next program inlined origins are well lodged.slotted;
          waiting = written_waiting program inlined origins are well f.caller.function lodged.rest gs address word lodged.waiting;
          index = lodged.index;
          arguments = lodged.arguments;
          count = lodged.count;
          following = lodged.following;
          calls = lodged.calls;
          site = lodged.site;
          slots = lodged.slots;
          handlers = lodged.handlers;
        };
        same_site = λ to. refl;
        caller = refl;
        next = inr (refl, refl, falls);
        as_much = refl;
        as_deep = ap (λ (n : ℕ). suc n) (length-waiting program lodged.rest address word) ∙ sym (ap length lodged.frames);
      }

      by_range : (range : Range) → IsWritten (with_word program c address word range) (with_word inlined d address word range)
      by_range OfGlobals =
          subst (λ (o : Option ℕ). IsWritten (with_global c (global_at program address) word) (with_global d o word)) (sym (global_same program inlined origins are well address))
          (by_global (global_at program address))
      by_range OfStore = by_store (word_at c.store address)
      by_range OfSlots =
          subst (λ (o : Option ℕ). IsWritten (with_slot program c o address word) (with_slot inlined d (slot_at inlined b address) address word)) (sym (hidden address))
          (subst (λ (frames : List Frame). IsWritten (record c { frames = with_waiting program frames address word }) (with_slot inlined d (slot_at inlined b address) address word)) (sym lodged.frames)
          (subst (λ (o : Option ℕ). IsWritten (record c { frames = with_waiting program (f ∷ lodged.rest) address word }) (with_slot inlined d o address word))
          (sym (slot_same program inlined origins are well f.caller b address lodged.slotted))
          (by_slot (slot_at program f.caller address) refl)))

    -- ---- one instruction

    bears : Bears program inlined leaf shift lodged.site.place c b gs Falls Going
    bears = record {
      stuck = λ output input. tt;
      goes = λ slots others to other globals output input agree kept next.
          record {
            active = record b { slots = others; next = other };
            frames = gs;
            is = refl;
            lodges = moved_on slots others to other globals c.store output input agree kept;
            same_site = λ n. refl;
            caller = refl;
            next = next;
            as_much = refl;
            as_deep = refl;
          };
      found = memory_inside;
      writes = λ address word falls. by_range address word falls (range_of address);
    }

    pub performs_inside : (choice other : Choice) (i : Instruction) → is_ordinary i ≡ true → IsInRange program (routine_at program c.active.function) i → (leaves i ≡ false → Falls)
        → Going (performed program choice c i) (performed inlined other (beside program inlined origins are c b gs) (moved (slots_of program inlined origins are lodged.waits.caller.function) lodged.site.place i))
    performs_inside choice other i ordinary range falls =
        performs program inlined leaf shift lodged.site.place c b gs Falls choice other lodged.slots Going bears i ordinary range falls
