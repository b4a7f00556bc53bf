-- Lemmas: memory is the same in the source and the inlined program. The addresses of slots denote the same slots of the same
-- calls in both, because no slot of an inlined function has an address.
use Rattle.std.proofs.Common.{◌≡◌, ℕ, zero, suc, ◌+◌, ◌-◌, ◌*◌, ◌/◌, ◌<◌, Bool, true, false, ◌&&◌, ◌||◌, List, [], ◌∷◌, Option, Some, None, refl, sym, ap, subst, ◌∙◌, inl, inr}
use Rattle.std.specs.Prelude.{◌==◌, if◌then◌else◌}
use Rattle.std.specs.List.{AllByRecursion}
use Rattle.std.proofs.lemmas.Bool.{or_left, or_right, or_cases}
use Rattle.cyc_words.proofs.Booleans.{same_tests}
use Rattle.cyc_store.specs.State.{StoreState, saved}
use Rattle.cyc_plain.specs.declared.instruction.Instruction.{Instruction}
use Rattle.cyc_plain.specs.declared.instruction.Instruction.TheVariants as instructions
use Rattle.cyc_plain.specs.inside.Memory.{pins, is_pinned, numbered, global_at, slot_at, word_or, word_waiting, put_or, with_waiting, Range, OfGlobals, OfStore, OfSlots, range_of, word_in, memory_at, with_global, with_slot, with_word, with_memory}
use Rattle.cyc_plain.specs.inside.Program.{Program, routine_at}
use Rattle.cyc_plain.specs.inside.State.{Words, put, Activation, Frame, Configuration, Running}
use Rattle.cyc_plain.specs.inside.Step.{advanced}
use Rattle.cyc_plain.specs.inside.Straight.{At}
use Rattle.cyc_plain.specs.inside.WellFormed.{IsWellFormed}
use Rattle.cyc_plain.proofs.MemoryLaws.{numbered-from, pinned-inside}
use Rattle.cyc_inline.specs.declared.origin.Origin.{Origin}
use Rattle.cyc_inline.specs.inside.Opened.{is_of_leaf, AreOpened}
use Rattle.cyc_inline.proofs.Agreeing.{put_agree}
use Rattle.cyc_inline.proofs.Waiting.{each_opened, place_in, slots_of, AreSlotted, AreWaiting, beside, Outside}

-- ---- slots whose address is taken

-- If a slot is pinned (its address is taken in its function), some instruction of the function's code takes the slot's address.
pinned_there : (code : List Instruction) (slot : ℕ) → is_pinned code slot ≡ true → (p : ℕ) × (i : Instruction) × At code p i × (pins i slot ≡ true)
pinned_there [] slot pinned = absurd (let e : false ≡ true = pinned in cc)
pinned_there (i ∷ code) slot pinned = elim (or_cases (pins i slot) (is_pinned code slot) pinned) [
  | inl here ↦ (0, i, refl, here)
  | inr there ↦ (let (p, j, at, names) = pinned_there code slot there in (suc p, j, at, names))
]

pub pinned_by : (code : List Instruction) (p : ℕ) (i : Instruction) (slot : ℕ) → At code p i → pins i slot ≡ true → is_pinned code slot ≡ true
pinned_by [] p i slot at names = absurd (let e : None ≡ Some i = at in cc)
pinned_by (j ∷ code) zero i slot at names =
    or_left (pins j slot) (is_pinned code slot) (ap (λ (x : Instruction). pins x slot) (let e : Some j ≡ Some i = at in cc) ∙ names)
pinned_by (j ∷ code) (suc p) i slot at names = or_right (pins j slot) (is_pinned code slot) (pinned_by code p i slot at names)

-- No instruction of a leaf function takes the address of a slot.
leaf_pins : (i : Instruction) (slot : ℕ) → is_of_leaf i ≡ true → pins i slot ≡ false
leaf_pins (instructions.AddressOf destination first count) slot leaf = absurd (let e : false ≡ true = leaf in cc)
leaf_pins i slot leaf = refl

pub leaf_pinned : (code : List Instruction) (slot : ℕ) → AllByRecursion (λ (i : Instruction). is_of_leaf i ≡ true) code → is_pinned code slot ≡ false
leaf_pinned [] slot leaf = refl
leaf_pinned (i ∷ code) slot (first, rest) = ap (λ (b : Bool). b || is_pinned code slot) (leaf_pins i slot first) ∙ leaf_pinned code slot rest

module _ (program inlined : Program) (origins : List (List Origin)) (are : AreOpened program inlined origins) (well : IsWellFormed program) where
  pinned_same : (function slot : ℕ) → is_pinned (routine_at inlined function).code slot ≡ is_pinned (routine_at program function).code slot
  pinned_same function slot = same_tests (is_pinned (routine_at inlined function).code slot) (is_pinned (routine_at program function).code slot) above below
    where
      above : is_pinned (routine_at inlined function).code slot ≡ true → is_pinned (routine_at program function).code slot ≡ true
      above pinned =
          let (p, i, at, names) = pinned_there (routine_at inlined function).code slot pinned in
          (each_opened program inlined origins are function).pinned p i at slot names

      by : (p : ℕ) (i : Instruction) → At (routine_at program function).code p i → pins i slot ≡ true → is_pinned (routine_at inlined function).code slot ≡ true
      by p (instructions.AddressOf destination first count) at names =
          let o = each_opened program inlined origins are function in
          elim (o.stands p (instructions.AddressOf destination first count) at) [
            | inl itself ↦ pinned_by (routine_at inlined function).code (o.place p) (instructions.AddressOf destination first count) slot itself.0 names
            | inr duplicated ↦ absurd (let e : false ≡ true = duplicated.may in cc)
          ]
      by p i at names = absurd (let e : false ≡ true = names in cc)

      below : is_pinned (routine_at program function).code slot ≡ true → is_pinned (routine_at inlined function).code slot ≡ true
      below pinned = let (p, i, at, names) = pinned_there (routine_at program function).code slot pinned in by p i at names

  -- An address denotes the same slot in the source and the inlined program.
  pub slot_same : (a b : Activation) (address : ℕ) → AreSlotted program inlined origins are a b → slot_at inlined b address ≡ slot_at program a address
  slot_same a b address slotted =
      ap (λ (function : ℕ). numbered (is_pinned (routine_at inlined function).code) b.base address) slotted.function
      ∙ (ap (λ (base : ℕ). numbered (is_pinned (routine_at inlined a.function).code) base address) slotted.base
      ∙ ap (λ (t : Bool). if a.base + 4 * ((address - a.base) / 4) == address && t then Some ((address - a.base) / 4) else None) (pinned_same a.function ((address - a.base) / 4)))

  pub slot_inside : (a : Activation) (address number : ℕ) → slot_at program a address ≡ Some number → number < slots_of program inlined origins are a.function
  slot_inside a address number at =
      pinned-inside program well a.function number (numbered-from (is_pinned (routine_at program a.function).code) a.base address number at).1

  -- ---- the word at an address

  pub word_same : (a b : Activation) (address : ℕ) (rest other : Option ℕ) → AreSlotted program inlined origins are a b → other ≡ rest
      → word_or (slot_at inlined b address) b.slots other ≡ word_or (slot_at program a address) a.slots rest
  word_same a b address rest other slotted same =
      ap (λ (o : Option ℕ). word_or o b.slots other) (slot_same a b address slotted) ∙ go (slot_at program a address) refl
    where
      go : (o : Option ℕ) → slot_at program a address ≡ o → word_or o b.slots other ≡ word_or o a.slots rest
      go (Some number) at = ap (λ (word : ℕ). Some word) (slotted.slots number (slot_inside a address number at))
      go None at = same

  pub waiting_same : (function : ℕ) (fs gs : List Frame) (address : ℕ) → AreWaiting program inlined origins are function fs gs → word_waiting inlined gs address ≡ word_waiting program fs address
  waiting_same function [] [] address waiting = refl
  waiting_same function [] (g ∷ gs) address waiting = absurd waiting
  waiting_same function (f ∷ fs) [] address waiting = absurd waiting
  waiting_same function (f ∷ fs) (g ∷ gs) address (calls, result, rest) =
      word_same f.caller g.caller address (word_waiting program fs address) (word_waiting inlined gs address) calls.slotted (waiting_same f.caller.function fs gs address rest)

  pub global_same : (address : ℕ) → global_at inlined address ≡ global_at program address
  global_same address = ap (λ (globals : List ℕ). global_at (record program { globals = globals }) address) are.globals

  -- ---- writes to memory

  pub put_slotted : (a b : Activation) (number word : ℕ) → AreSlotted program inlined origins are a b
      → AreSlotted program inlined origins are (record a { slots = put a.slots number word }) (record b { slots = put b.slots number word })
  put_slotted a b number word slotted = record {
    function = slotted.function;
    base = slotted.base;
    handlers = slotted.handlers;
    records = slotted.records;
    slots = put_agree (slots_of program inlined origins are a.function) number word a.slots b.slots slotted.slots;
  }

  -- Two calls, one of the source and one of the inlined program, still correspond if only their next code positions change.
  pub put_next : {a b : Activation} {n m : ℕ} → AreSlotted program inlined origins are a b → AreSlotted program inlined origins are (record a { next = n }) (record b { next = m })
  put_next slotted = record { function = slotted.function; base = slotted.base; handlers = slotted.handlers; records = slotted.records; slots = slotted.slots }

  pub written_waiting : (function : ℕ) (fs gs : List Frame) (address word : ℕ) → AreWaiting program inlined origins are function fs gs → AreWaiting program inlined origins are function (with_waiting program fs address word) (with_waiting inlined gs address word)
  written_waiting function [] [] address word waiting = waiting
  written_waiting function [] (g ∷ gs) address word waiting = absurd waiting
  written_waiting function (f ∷ fs) [] address word waiting = absurd waiting
  written_waiting function (f ∷ fs) (g ∷ gs) address word (calls, result, rest) =
      subst (λ (o : Option ℕ). AreWaiting program inlined origins are function (with_waiting program (f ∷ fs) address word) (put_or o word g gs (with_waiting inlined gs address word)))
      (sym (slot_same f.caller g.caller address calls.slotted)) (go (written_waiting f.caller.function fs gs address word rest) (slot_at program f.caller address))
    where
      go : AreWaiting program inlined origins are f.caller.function (with_waiting program fs address word) (with_waiting inlined gs address word) → (o : Option ℕ)
          → AreWaiting program inlined origins are function (put_or o word f fs (with_waiting program fs address word)) (put_or o word g gs (with_waiting inlined gs address word))
      go others (Some number) = (record { slotted = put_slotted f.caller g.caller number word calls.slotted; next = calls.next }, result, rest)
      go others None = (calls, result, others)

  -- ---- loads and stores outside inlined calls

  module _ (c : Configuration) (b : Activation) (gs : List Frame) (slotted : AreSlotted program inlined origins are c.active b) (waiting : AreWaiting program inlined origins are c.active.function c.frames gs) where
    pub memory_outside : (address : ℕ) → memory_at inlined (beside program inlined origins are c b gs) address ≡ memory_at program c address
    memory_outside address = go (range_of address)
      where
        go : (range : Range) → word_in inlined (beside program inlined origins are c b gs) address range ≡ word_in program c address range
        go OfGlobals = ap (λ (o : Option ℕ). word_or o c.globals None) (global_same address)
        go OfStore = refl
        go OfSlots = word_same c.active b address (word_waiting program c.frames address) (word_waiting inlined gs address) slotted (waiting_same c.active.function c.frames gs address waiting)

    abbrev d : Configuration
    d = beside program inlined origins are c b gs

    module _ (address word : ℕ) (next : b.next + 1 ≡ place_in program inlined origins are c.active.function (c.active.next + 1)) where
      abbrev IsWritten : Configuration → Configuration → Type 0
      IsWritten e f = Outside program inlined origins are (Running (advanced e)) (Running (advanced f))

      stays : (globals : Words) (store : StoreState) → IsWritten (record c { globals = globals; store = store }) (record d { globals = globals; store = store })
      stays globals store = record {
        active = record b { next = b.next + 1 };
        frames = gs;
        is = refl;
        calls = record { slotted = put_next slotted; next = next };
        waiting = waiting;
      }

      by_global : (o : Option ℕ) → IsWritten (with_global c o word) (with_global d o word)
      by_global (Some number) = stays (put c.globals number word) c.store
      by_global None = stays c.globals c.store

      by_slot : (o : Option ℕ) → IsWritten (with_slot program c o address word) (with_slot inlined d o address word)
      by_slot (Some number) = record {
        active = record b { next = b.next + 1; slots = put b.slots number word };
        frames = gs;
        is = refl;
        calls = record { slotted = put_next (put_slotted c.active b number word slotted); next = next };
        waiting = waiting;
      }
      by_slot None = record {
        active = record b { next = b.next + 1 };
        frames = with_waiting inlined gs address word;
        is = refl;
        calls = record { slotted = put_next slotted; next = next };
        waiting = written_waiting c.active.function c.frames gs address word waiting;
      }

      by_range : (range : Range) → IsWritten (with_word program c address word range) (with_word inlined d address word range)
      by_range OfGlobals =
          subst (λ (o : Option ℕ). IsWritten (with_global c (global_at program address) word) (with_global d o word)) (sym (global_same address))
          (by_global (global_at program address))
      by_range OfStore = stays c.globals (saved c.store address word)
      by_range OfSlots =
          subst (λ (o : Option ℕ). IsWritten (with_slot program c (slot_at program c.active address) address word) (with_slot inlined d o address word))
          (sym (slot_same c.active b address slotted))
          (by_slot (slot_at program c.active address))

      pub written_outside : Outside program inlined origins are (Running (advanced (with_memory program c address word))) (Running (advanced (with_memory inlined (beside program inlined origins are c b gs) address word)))
      written_outside = by_range (range_of address)
