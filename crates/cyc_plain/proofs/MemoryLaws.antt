-- Each global, each word of a live block, and each slot whose address is taken has a memory address of its own. The slots of different
-- calls are disjoint, since those of each call lie below those of its caller.
use Rattle.std.proofs.Common.{◌≡◌, ◌≢◌, ℕ, zero, suc, ◌+◌, ◌-◌, ◌*◌, ◌/◌, ◌<◌, ◌≤◌, Bool, true, false, ◌&&◌, List, [], ◌∷◌, length, Option, None, Some, set, slice_get, refl, sym, ap, subst, ◌∙◌, arith, inl, inr}
use Rattle.std.specs.Prelude.{◌==◌, nat_le, nat_lt, if◌then◌else◌}
use Rattle.std.proofs.lemmas.Bool.{cond-true, cond-false, and_from, and_parts, eq-eqb, eqb-true, ltb-true, leb-true, lt-ltb, le-leb, le-ltb, or_left, or_right, or_cases}
use Rattle.cyc_words.proofs.Members.{All_at}
use Rattle.cyc_store.specs.State.{StoreState, word_at, saved}
use Rattle.cyc_store.specs.declared.range.TheConstants.{STORE_BASE}
use Rattle.cyc_plain.specs.declared.instruction.Instruction.{Instruction}
use Rattle.cyc_plain.specs.declared.instruction.Instruction.TheVariants as instructions
use Rattle.cyc_plain.specs.declared.limits.TheConstants.{GLOBALS_BASE}
use Rattle.cyc_plain.specs.inside.Program.{Program, routine_at}
use Rattle.cyc_plain.specs.inside.State.{put, Frame, Configuration}
use Rattle.cyc_plain.specs.inside.WellFormed.{IsInRange, IsWellFormed}
use Rattle.cyc_plain.specs.inside.Memory.{slots_base, slots_end, AreBelow, Range, pins, is_pinned, numbered, global_at, slot_at, word_or, word_waiting, put_or, with_waiting, OfGlobals, OfStore, OfSlots, range_of, word_in, memory_at, with_global, with_slot, with_word, with_memory}
use Rattle.cyc_plain.proofs.Placed.{routine_in}
use Rattle.cyc_plain.proofs.Steps.{function_known}

-- ---- consecutive words

pub numbered-there : (is_asked : ℕ → Bool) (base n : ℕ) → is_asked n ≡ true → numbered is_asked base (base + 4 * n) ≡ Some n
numbered-there is_asked base n asked =
    let same : (base + 4 * n - base) / 4 ≡ n = omega arith in
    ap (λ (k : ℕ). if base + 4 * k == base + 4 * n && is_asked k then Some k else None) same
    ∙ cond-true (base + 4 * n == base + 4 * n && is_asked n) (Some n) None (and_from _ _ (eq-eqb (base + 4 * n) (base + 4 * n) refl) asked)

pub numbered-from : (is_asked : ℕ → Bool) (base a n : ℕ) → numbered is_asked base a ≡ Some n → (a ≡ base + 4 * n) × (is_asked n ≡ true)
numbered-from is_asked base a n found = go (base + 4 * ((a - base) / 4) == a && is_asked ((a - base) / 4)) refl found
  where
    go : (b : Bool) → (base + 4 * ((a - base) / 4) == a && is_asked ((a - base) / 4)) ≡ b → (if b then Some ((a - base) / 4) else None) ≡ Some n → (a ≡ base + 4 * n) × (is_asked n ≡ true)
    go false is found = absurd (let e : None ≡ Some n = found in cc)
    go true is found =
        let same : (a - base) / 4 ≡ n = let e : Some ((a - base) / 4) ≡ Some n = found in cc in
        let (here, asked) = and_parts (base + 4 * ((a - base) / 4) == a) (is_asked ((a - base) / 4)) is in
        (sym (eqb-true (base + 4 * ((a - base) / 4)) a here) ∙ ap (λ (m : ℕ). base + 4 * m) same, ap is_asked (sym same) ∙ asked)

pub numbered-none : (is_asked : ℕ → Bool) (base a : ℕ) → ((n : ℕ) → is_asked n ≡ true → a ≢ base + 4 * n) → numbered is_asked base a ≡ None
numbered-none is_asked base a apart = go (numbered is_asked base a) refl
  where
    go : (o : Option ℕ) → numbered is_asked base a ≡ o → o ≡ None
    go None found = refl
    go (Some n) found = absurd (apart n (numbered-from is_asked base a n found).1 (numbered-from is_asked base a n found).0)

-- ---- slots whose address is taken

-- `IsPinned` says that an instruction of the code takes the address of the slot.
record IsPinned (code : List Instruction) (slot : ℕ) : Type 0 where
  index : ℕ
  destination : ℕ
  first : ℕ
  count : ℕ
  at : slice_get code index ≡ Some (instructions.AddressOf destination first count)
  from : first ≤ slot
  below : slot < first + count

pinned_is_pinned : (code : List Instruction) (slot : ℕ) → is_pinned code slot ≡ true → IsPinned code slot
pinned_is_pinned [] slot pinned = absurd (let e : false ≡ true = pinned in cc)
pinned_is_pinned (i ∷ code) slot pinned = elim (or_cases (pins i slot) (is_pinned code slot) pinned) [
  | inl here ↦ by_first i here
  | inr there ↦
      let p = pinned_is_pinned code slot there in
      record { index = suc p.index; destination = p.destination; first = p.first; count = p.count; at = p.at; from = p.from; below = p.below }
]
  where
    by_first : (i : Instruction) → pins i slot ≡ true → IsPinned (i ∷ code) slot
    by_first (instructions.AddressOf destination first count) is =
        let (low, high) = and_parts (nat_le first slot) (nat_lt slot (first + count)) is in
        record { index = 0; destination = destination; first = first; count = count; at = refl; from = leb-true first slot low; below = ltb-true slot (first + count) high }
    by_first i is = absurd (let e : false ≡ true = is in cc)

address_of_pins : (destination first count slot : ℕ) → first ≤ slot → slot < first + count → pins (instructions.AddressOf destination first count) slot ≡ true
address_of_pins destination first count slot from below = and_from (nat_le first slot) (nat_lt slot (first + count)) (le-leb first slot from) (lt-ltb slot (first + count) below)

-- If an instruction takes the address of slots, these slots are pinned: loads and stores can access them.
pub pinned-at : (code : List Instruction) (index destination first count slot : ℕ) → slice_get code index ≡ Some (instructions.AddressOf destination first count)
    → first ≤ slot → slot < first + count → is_pinned code slot ≡ true
pinned-at [] index destination first count slot at from below = absurd (let e : None ≡ Some (instructions.AddressOf destination first count) = at in cc)
pinned-at (i ∷ code) zero destination first count slot at from below =
    let same : i ≡ instructions.AddressOf destination first count = let e : Some i ≡ Some (instructions.AddressOf destination first count) = at in cc in
    or_left (pins i slot) (is_pinned code slot) (ap (λ (j : Instruction). pins j slot) same ∙ address_of_pins destination first count slot from below)
pinned-at (i ∷ code) (suc index) destination first count slot at from below =
    or_right (pins i slot) (is_pinned code slot) (pinned-at code index destination first count slot at from below)

-- A slot whose address is taken is one of the function's slots.
pub pinned-inside : (program : Program) → IsWellFormed program → (function slot : ℕ) → is_pinned (routine_at program function).code slot ≡ true → slot < (routine_at program function).slots
pinned-inside program well function slot pinned =
    let p = pinned_is_pinned (routine_at program function).code slot pinned in
    let known = function_known program (record { function = function; index = p.index }) (instructions.AddressOf p.destination p.first p.count) p.at in
    let routine = routine_in program function well known in
    let range : IsInRange program (routine_at program function) (instructions.AddressOf p.destination p.first p.count) =
    All_at (IsInRange program (routine_at program function)) (routine_at program function).code p.index (instructions.AddressOf p.destination p.first p.count) routine.instructions p.at in
    omega (arith, p.below, range.2)

-- ---- waiting calls

-- The slots of a call have lower addresses than those of the calls that wait for it.
pub below-waiting : (program : Program) (function base : ℕ) (frames : List Frame) (k : ℕ) (f : Frame) → AreBelow program function base frames → slice_get frames k ≡ Some f
    → base + 4 * (routine_at program function).slots ≤ f.caller.base
below-waiting program function base [] k f below at = absurd (let e : None ≡ Some f = at in cc)
below-waiting program function base (h ∷ frames) zero f (first, rest) at =
    let same : h ≡ f = let e : Some h ≡ Some f = at in cc in
    subst (λ (g : Frame). base + 4 * (routine_at program function).slots ≤ g.caller.base) same first.high
below-waiting program function base (h ∷ frames) (suc k) f (first, rest) at =
    omega (arith, first.high, below-waiting program h.caller.function h.caller.base frames k f rest at)

pub below-end : (program : Program) (function base : ℕ) (frames : List Frame) → AreBelow program function base frames → base + 4 * (routine_at program function).slots ≤ slots_end
below-end program function base [] below = below.high
below-end program function base (f ∷ frames) (first, rest) = omega (arith, first.high, below-end program f.caller.function f.caller.base frames rest)

pub below-low : (program : Program) (function base : ℕ) (frames : List Frame) → AreBelow program function base frames → slots_base ≤ base
below-low program function base [] below = below.low
below-low program function base (f ∷ frames) (first, rest) = first.low

-- The slots of a waiting call have lower addresses than the slots of the calls that wait for it.
pub below-there : (program : Program) (function base : ℕ) (frames : List Frame) (k : ℕ) (f : Frame) → AreBelow program function base frames → slice_get frames k ≡ Some f
    → (others : List Frame) × AreBelow program f.caller.function f.caller.base others
below-there program function base [] k f below at = absurd (let e : None ≡ Some f = at in cc)
below-there program function base (h ∷ frames) zero f (first, rest) at =
    let same : h ≡ f = let e : Some h ≡ Some f = at in cc in
    (frames, subst (λ (g : Frame). AreBelow program g.caller.function g.caller.base frames) same rest)
below-there program function base (h ∷ frames) (suc k) f (first, rest) at = below-there program h.caller.function h.caller.base frames k f rest at

-- Loads and stores at the address of a waiting call's slot access this slot, if its address is taken.
waiting-hidden : (program : Program) → IsWellFormed program → (h : Frame) (a : ℕ) → h.caller.base + 4 * (routine_at program h.caller.function).slots ≤ a → slot_at program h.caller a ≡ None
waiting-hidden program well h a past =
    numbered-none (is_pinned (routine_at program h.caller.function).code) h.caller.base a
    (λ n pinned same. absurd (omega (arith, same, past, pinned-inside program well h.caller.function n pinned)))

pub found-waiting : (program : Program) → IsWellFormed program → (function base : ℕ) (frames : List Frame) (k : ℕ) (f : Frame) (slot : ℕ) → AreBelow program function base frames → slice_get frames k ≡ Some f
    → is_pinned (routine_at program f.caller.function).code slot ≡ true → word_waiting program frames (f.caller.base + 4 * slot) ≡ Some (f.caller.slots slot)
found-waiting program well function base [] k f slot below at pinned = absurd (let e : None ≡ Some f = at in cc)
found-waiting program well function base (h ∷ frames) zero f slot (first, rest) at pinned =
    let same : h ≡ f = let e : Some h ≡ Some f = at in cc in
    let here : slot_at program f.caller (f.caller.base + 4 * slot) ≡ Some slot = numbered-there (is_pinned (routine_at program f.caller.function).code) f.caller.base slot pinned in
    ap (λ (g : Frame). word_or (slot_at program g.caller (f.caller.base + 4 * slot)) g.caller.slots (word_waiting program frames (f.caller.base + 4 * slot))) same
    ∙ ap (λ (o : Option ℕ). word_or o f.caller.slots (word_waiting program frames (f.caller.base + 4 * slot))) here
found-waiting program well function base (h ∷ frames) (suc k) f slot (first, rest) at pinned =
    let above = below-waiting program h.caller.function h.caller.base frames k f rest at in
    let hidden : slot_at program h.caller (f.caller.base + 4 * slot) ≡ None = waiting-hidden program well h (f.caller.base + 4 * slot) (omega (arith, above)) in
    ap (λ (o : Option ℕ). word_or o h.caller.slots (word_waiting program frames (f.caller.base + 4 * slot))) hidden
    ∙ found-waiting program well h.caller.function h.caller.base frames k f slot rest at pinned

-- Returns a waiting call with a new word stored in one of its slots.
abbrev pub with_slot_of : Frame → (slot word : ℕ) → Frame
with_slot_of f slot word = record f { caller = record f.caller { slots = put f.caller.slots slot word } }

pub written-waiting : (program : Program) → IsWellFormed program → (function base : ℕ) (frames : List Frame) (k : ℕ) (f : Frame) (slot word : ℕ) → AreBelow program function base frames → slice_get frames k ≡ Some f
    → is_pinned (routine_at program f.caller.function).code slot ≡ true → with_waiting program frames (f.caller.base + 4 * slot) word ≡ set frames k (with_slot_of f slot word)
written-waiting program well function base [] k f slot word below at pinned = absurd (let e : None ≡ Some f = at in cc)
written-waiting program well function base (h ∷ frames) zero f slot word (first, rest) at pinned =
    let same : h ≡ f = let e : Some h ≡ Some f = at in cc in
    let a : ℕ = f.caller.base + 4 * slot in
    let here : slot_at program f.caller (f.caller.base + 4 * slot) ≡ Some slot = numbered-there (is_pinned (routine_at program f.caller.function).code) f.caller.base slot pinned in
    ap (λ (g : Frame). put_or (slot_at program g.caller a) word g frames (with_waiting program frames a word)) same
    ∙ ap (λ (o : Option ℕ). put_or o word f frames (with_waiting program frames a word)) here
written-waiting program well function base (h ∷ frames) (suc k) f slot word (first, rest) at pinned =
    let above = below-waiting program h.caller.function h.caller.base frames k f rest at in
    let a : ℕ = f.caller.base + 4 * slot in
    let hidden : slot_at program h.caller (f.caller.base + 4 * slot) ≡ None = waiting-hidden program well h (f.caller.base + 4 * slot) (omega (arith, above)) in
    ap (λ (o : Option ℕ). put_or o word h frames (with_waiting program frames a word)) hidden
    ∙ ap (λ (fs : List Frame). h ∷ fs) (written-waiting program well h.caller.function h.caller.base frames k f slot word rest at pinned)

-- A write to a slot of a waiting call leaves the addresses of all calls' slots unchanged.
pub waiting-below : (program : Program) (function base : ℕ) (frames : List Frame) (a word : ℕ) → AreBelow program function base frames → AreBelow program function base (with_waiting program frames a word)
waiting-below program function base [] a word below = below
waiting-below program function base (f ∷ frames) a word (first, rest) =
    go (slot_at program f.caller a) (waiting-below program f.caller.function f.caller.base frames a word rest)
  where
    go : (slot : Option ℕ) → AreBelow program f.caller.function f.caller.base (with_waiting program frames a word)
        → AreBelow program function base (put_or slot word f frames (with_waiting program frames a word))
    go (Some number) others = (first, rest)
    go None others = (first, others)

pub length-waiting : (program : Program) (frames : List Frame) (a word : ℕ) → length (with_waiting program frames a word) ≡ length frames
length-waiting program [] a word = refl
length-waiting program (f ∷ frames) a word = go (slot_at program f.caller a) (length-waiting program frames a word)
  where
    go : (slot : Option ℕ) → length (with_waiting program frames a word) ≡ length frames → length (put_or slot word f frames (with_waiting program frames a word)) ≡ suc (length frames)
    go (Some number) others = refl
    go None others = ap (λ (n : ℕ). suc n) others

-- `IsLeft` says that two configurations agree in everything that no store instruction can change, wherever it writes.
pub record IsLeft (c d : Configuration) : Type 0 where
  pub function : d.active.function ≡ c.active.function
  pub next : d.active.next ≡ c.active.next
  pub depth : length d.frames ≡ length c.frames
  pub output : d.output ≡ c.output
  pub input : d.input ≡ c.input

pub memory-left : (program : Program) (c : Configuration) (a word : ℕ) → IsLeft c (with_memory program c a word)
memory-left program c a word = by (range_of a)
  where
    by_global : (number : Option ℕ) → IsLeft c (with_global c number word)
    by_global (Some number) = record { function = refl; next = refl; depth = refl; output = refl; input = refl }
    by_global None = record { function = refl; next = refl; depth = refl; output = refl; input = refl }

    by_slot : (slot : Option ℕ) → IsLeft c (with_slot program c slot a word)
    by_slot (Some number) = record { function = refl; next = refl; depth = refl; output = refl; input = refl }
    by_slot None = record { function = refl; next = refl; depth = length-waiting program c.frames a word; output = refl; input = refl }

    by : (range : Range) → IsLeft c (with_word program c a word range)
    by OfGlobals = by_global (global_at program a)
    by OfStore = record { function = refl; next = refl; depth = refl; output = refl; input = refl }
    by OfSlots = by_slot (slot_at program c.active a)

-- ---- the three ranges of memory

pub range-globals : (a : ℕ) → a < STORE_BASE → range_of a ≡ OfGlobals
range-globals a below = cond-true (nat_lt a STORE_BASE) OfGlobals (if nat_lt a slots_base then OfStore else OfSlots) (lt-ltb a STORE_BASE below)

pub range-store : (a : ℕ) → STORE_BASE ≤ a → a < slots_base → range_of a ≡ OfStore
range-store a from below =
    cond-false (nat_lt a STORE_BASE) OfGlobals (if nat_lt a slots_base then OfStore else OfSlots) (le-ltb a STORE_BASE from)
    ∙ cond-true (nat_lt a slots_base) OfStore OfSlots (lt-ltb a slots_base below)

pub range-slots : (a : ℕ) → slots_base ≤ a → range_of a ≡ OfSlots
range-slots a from =
    cond-false (nat_lt a STORE_BASE) OfGlobals (if nat_lt a slots_base then OfStore else OfSlots) (le-ltb a STORE_BASE (omega (arith, from)))
    ∙ cond-false (nat_lt a slots_base) OfStore OfSlots (le-ltb a slots_base from)

-- If an address lies in the store's range, memory has the same word there as the store (the heap).
pub memory-store : (program : Program) (c : Configuration) (a : ℕ) → STORE_BASE ≤ a → a < slots_base → memory_at program c a ≡ word_at c.store a
memory-store program c a from below = ap (word_in program c a) (range-store a from below)

-- Returns the word of a live block at an address, if the address lies in the store's range.
abbrev pub store_word_in : StoreState → (address : ℕ) → Range → Option ℕ
store_word_in s address OfGlobals = None
store_word_in s address OfStore = word_at s address
store_word_in s address OfSlots = None

abbrev pub store_word : StoreState → (address : ℕ) → Option ℕ
store_word s address = store_word_in s address (range_of address)

pub stored-there : (s : StoreState) (a : ℕ) → STORE_BASE ≤ a → a < slots_base → store_word s a ≡ word_at s a
stored-there s a from below = ap (store_word_in s a) (range-store a from below)

pub stored-word : (s : StoreState) (a word : ℕ) → store_word s a ≡ Some word → word_at s a ≡ Some word
stored-word s a word there = go (range_of a) there
  where
    go : (range : Range) → store_word_in s a range ≡ Some word → word_at s a ≡ Some word
    go OfGlobals found = absurd (let e : None ≡ Some word = found in cc)
    go OfStore found = found
    go OfSlots found = absurd (let e : None ≡ Some word = found in cc)

-- Loads and stores at the address of a live block's word access this word, whatever else memory contains.
module _ (program : Program) (c : Configuration) (a word : ℕ) (there : store_word c.store a ≡ Some word) where
  in-store : range_of a ≡ OfStore
  in-store = go (range_of a) refl there
    where
      go : (range : Range) → range_of a ≡ range → store_word_in c.store a range ≡ Some word → range_of a ≡ OfStore
      go OfGlobals is found = absurd (let e : None ≡ Some word = found in cc)
      go OfStore is found = is
      go OfSlots is found = absurd (let e : None ≡ Some word = found in cc)

  pub memory-stored : memory_at program c a ≡ Some word
  memory-stored = ap (word_in program c a) in-store ∙ (sym (ap (store_word_in c.store a) in-store) ∙ there)

  pub written-stored : (new : ℕ) → with_memory program c a new ≡ record c { store = saved c.store a new }
  written-stored new = ap (with_word program c a new) in-store

module _ (program : Program) (well : IsWellFormed program) (c : Configuration) where
  -- A lookup of the address of a global finds exactly this global.
  global-there : (number : ℕ) → number < length program.globals → global_at program (GLOBALS_BASE + 4 * number) ≡ Some number
  global-there number below = numbered-there (λ (n : ℕ). nat_lt n (length program.globals)) GLOBALS_BASE number (lt-ltb number (length program.globals) below)

  pub memory-global : (number : ℕ) → number < length program.globals → memory_at program c (GLOBALS_BASE + 4 * number) ≡ Some (c.globals number)
  memory-global number below =
      ap (word_in program c (GLOBALS_BASE + 4 * number)) (range-globals (GLOBALS_BASE + 4 * number) (omega (arith, below, well.globals)))
      ∙ ap (λ (o : Option ℕ). word_or o c.globals None) (global-there number below)

  pub written-global : (number word : ℕ) → number < length program.globals → with_memory program c (GLOBALS_BASE + 4 * number) word ≡ record c { globals = put c.globals number word }
  written-global number word below =
      ap (with_word program c (GLOBALS_BASE + 4 * number) word) (range-globals (GLOBALS_BASE + 4 * number) (omega (arith, below, well.globals)))
      ∙ ap (λ (o : Option ℕ). with_global c o word) (global-there number below)

  module _ (lie : AreBelow program c.active.function c.active.base c.frames) where
    -- A lookup of the address of a slot of the active call finds exactly this slot, if the code takes its address.
    active-there : (slot : ℕ) → is_pinned (routine_at program c.active.function).code slot ≡ true → slot_at program c.active (c.active.base + 4 * slot) ≡ Some slot
    active-there slot pinned = numbered-there (is_pinned (routine_at program c.active.function).code) c.active.base slot pinned

    active-range : (slot : ℕ) → range_of (c.active.base + 4 * slot) ≡ OfSlots
    active-range slot = range-slots (c.active.base + 4 * slot) (omega (arith, below-low program c.active.function c.active.base c.frames lie))

    pub memory-active : (slot : ℕ) → is_pinned (routine_at program c.active.function).code slot ≡ true → memory_at program c (c.active.base + 4 * slot) ≡ Some (c.active.slots slot)
    memory-active slot pinned =
        ap (word_in program c (c.active.base + 4 * slot)) (active-range slot)
        ∙ ap (λ (o : Option ℕ). word_or o c.active.slots (word_waiting program c.frames (c.active.base + 4 * slot))) (active-there slot pinned)

    pub written-active : (slot word : ℕ) → is_pinned (routine_at program c.active.function).code slot ≡ true
        → with_memory program c (c.active.base + 4 * slot) word ≡ record c { active = record c.active { slots = put c.active.slots slot word } }
    written-active slot word pinned =
        ap (with_word program c (c.active.base + 4 * slot) word) (active-range slot)
        ∙ ap (λ (o : Option ℕ). with_slot program c o (c.active.base + 4 * slot) word) (active-there slot pinned)

    -- The module shows that a lookup of the address of a waiting call's slot finds exactly this slot, if the code takes its address.
    module _ (k : ℕ) (f : Frame) (at : slice_get c.frames k ≡ Some f) where
      above : c.active.base + 4 * (routine_at program c.active.function).slots ≤ f.caller.base
      above = below-waiting program c.active.function c.active.base c.frames k f lie at

      waiting-range : (slot : ℕ) → range_of (f.caller.base + 4 * slot) ≡ OfSlots
      waiting-range slot = range-slots (f.caller.base + 4 * slot) (omega (arith, below-low program c.active.function c.active.base c.frames lie, above))

      active-hidden : (slot : ℕ) → slot_at program c.active (f.caller.base + 4 * slot) ≡ None
      active-hidden slot =
          numbered-none (is_pinned (routine_at program c.active.function).code) c.active.base (f.caller.base + 4 * slot)
          (λ n pinned same. absurd (omega (arith, same, above, pinned-inside program well c.active.function n pinned)))

      pub memory-waiting : (slot : ℕ) → is_pinned (routine_at program f.caller.function).code slot ≡ true → memory_at program c (f.caller.base + 4 * slot) ≡ Some (f.caller.slots slot)
      memory-waiting slot pinned =
          ap (word_in program c (f.caller.base + 4 * slot)) (waiting-range slot)
          ∙ (ap (λ (o : Option ℕ). word_or o c.active.slots (word_waiting program c.frames (f.caller.base + 4 * slot))) (active-hidden slot)
          ∙ found-waiting program well c.active.function c.active.base c.frames k f slot lie at pinned)

      pub written-waiting_at : (slot word : ℕ) → is_pinned (routine_at program f.caller.function).code slot ≡ true
          → with_memory program c (f.caller.base + 4 * slot) word ≡ record c { frames = set c.frames k (with_slot_of f slot word) }
      written-waiting_at slot word pinned =
          ap (with_word program c (f.caller.base + 4 * slot) word) (waiting-range slot)
          ∙ (ap (λ (o : Option ℕ). with_slot program c o (f.caller.base + 4 * slot) word) (active-hidden slot)
          ∙ ap (λ (fs : List Frame). let d : Configuration = record c { frames = fs } in d) (written-waiting program well c.active.function c.active.base c.frames k f slot word lie at pinned))
