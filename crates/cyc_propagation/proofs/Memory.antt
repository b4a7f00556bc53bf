-- The effect of a store instruction, and of a write to a slot, on memory.
use Rattle.std.proofs.Common.{◌≡◌, ◌≢◌, ℕ, ◌+◌, ◌*◌, ◌<◌, Bool, true, false, List, [], ◌∷◌, length, Option, None, Some, refl, sym, ap, ◌∙◌, arith}
use Rattle.std.specs.Prelude.{nat_lt, if◌then◌else◌}
use Rattle.std.proofs.lemmas.Bool.{ltb-true, false≢true}
use Rattle.cyc_words.specs.Word.{add_of}
use Rattle.cyc_store.specs.State.{StoreState, word_at}
use Rattle.cyc_store.proofs.ServiceLemmas.{saved-same, saved-other}
use Rattle.cyc_plain.specs.declared.limits.TheConstants.{GLOBALS_BASE, MOST_GLOBALS}
use Rattle.cyc_plain.specs.inside.Program.{Program, routine_at}
use Rattle.cyc_plain.specs.inside.State.{Words, put, Frame, Configuration}
use Rattle.cyc_plain.specs.inside.Memory.{is_pinned, numbered, global_at, slot_at, word_or, word_waiting, put_or, with_waiting, Range, OfGlobals, OfStore, OfSlots, range_of, word_in, memory_at, with_global, with_slot, with_word, with_memory}
use Rattle.cyc_plain.proofs.MemoryLaws.{numbered-from, range-globals}
use Rattle.cyc_plain.proofs.SlotLaws.{put-same, put-other}
use Rattle.cyc_propagation.specs.inside.Facts.{global_offset}

-- ---- consecutive words

module _ (is_asked : ℕ → Bool) (base : ℕ) where
  -- Two different addresses in a range of words are the addresses of two different words.
  words_apart : (a b m n : ℕ) → numbered is_asked base a ≡ Some m → numbered is_asked base b ≡ Some n → b ≢ a → n ≢ m
  words_apart a b m n at other apart same =
      apart ((numbered-from is_asked base b n other).0 ∙ ap (λ (k : ℕ). base + 4 * k) same ∙ sym (numbered-from is_asked base a m at).0)

  -- A read from an address is not affected by a write to another address.
  read_other : (a b m word : ℕ) (words : Words) (rest : Option ℕ) → numbered is_asked base a ≡ Some m → b ≢ a
      → word_or (numbered is_asked base b) (put words m word) rest ≡ word_or (numbered is_asked base b) words rest
  read_other a b m word words rest at apart = go (numbered is_asked base b) refl
    where
      go : (o : Option ℕ) → numbered is_asked base b ≡ o → word_or o (put words m word) rest ≡ word_or o words rest
      go (Some n) other = ap Some (put-other words m n word (words_apart a b m n at other apart))
      go None other = refl

-- ---- a store

module _ (program : Program) where
  waiting_other : (frames : List Frame) (a b word : ℕ) → b ≢ a → word_waiting program (with_waiting program frames a word) b ≡ word_waiting program frames b
  waiting_other [] a b word apart = refl
  waiting_other (f ∷ frames) a b word apart = go (slot_at program f.caller a) refl (waiting_other frames a b word apart)
    where
      go : (o : Option ℕ) → slot_at program f.caller a ≡ o → word_waiting program (with_waiting program frames a word) b ≡ word_waiting program frames b
          → word_waiting program (put_or o word f frames (with_waiting program frames a word)) b ≡ word_waiting program (f ∷ frames) b
      go (Some slot) at others =
          read_other (is_pinned (routine_at program f.caller.function).code) f.caller.base a b slot word f.caller.slots (word_waiting program frames b) at apart
      go None at others = ap (word_or (slot_at program f.caller b) f.caller.slots) others

  waiting_there : (frames : List Frame) (a word old : ℕ) → word_waiting program frames a ≡ Some old → word_waiting program (with_waiting program frames a word) a ≡ Some word
  waiting_there [] a word old found = absurd (let e : None ≡ Some old = found in cc)
  waiting_there (f ∷ frames) a word old found = go (slot_at program f.caller a) refl found (waiting_there frames a word old)
    where
      go : (o : Option ℕ) → slot_at program f.caller a ≡ o → word_or o f.caller.slots (word_waiting program frames a) ≡ Some old
          → (word_waiting program frames a ≡ Some old → word_waiting program (with_waiting program frames a word) a ≡ Some word)
          → word_waiting program (put_or o word f frames (with_waiting program frames a word)) a ≡ Some word
      go (Some slot) at is others =
          ap (λ (o : Option ℕ). word_or o (put f.caller.slots slot word) (word_waiting program frames a)) at ∙ ap Some (put-same f.caller.slots slot word)
      go None at is others =
          ap (λ (o : Option ℕ). word_or o f.caller.slots (word_waiting program (with_waiting program frames a word) a)) at
          ∙ others is

  module _ (c : Configuration) (a word : ℕ) where
    abbrev read_in : Range → Configuration → (address : ℕ) → Option ℕ
    read_in range d address = word_in program d address range

    -- A store instruction leaves the words at all other addresses unchanged.
    pub memory_other : (b : ℕ) → b ≢ a → memory_at program (with_memory program c a word) b ≡ memory_at program c b
    memory_other b apart = go (range_of a) (range_of b)
      where
        globals_other : (o : Option ℕ) → global_at program a ≡ o → (range : Range) → word_in program (with_global c o word) b range ≡ word_in program c b range
        globals_other None at range = refl
        globals_other (Some n) at OfGlobals =
            read_other (λ (number : ℕ). nat_lt number (length program.globals)) GLOBALS_BASE a b n word c.globals None at apart
        globals_other (Some n) at OfStore = refl
        globals_other (Some n) at OfSlots = refl

        slots_other : (o : Option ℕ) → slot_at program c.active a ≡ o → (range : Range) → word_in program (with_slot program c o a word) b range ≡ word_in program c b range
        slots_other (Some n) at OfGlobals = refl
        slots_other (Some n) at OfStore = refl
        slots_other (Some n) at OfSlots =
            read_other (is_pinned (routine_at program c.active.function).code) c.active.base a b n word c.active.slots (word_waiting program c.frames b) at apart
        slots_other None at OfGlobals = refl
        slots_other None at OfStore = refl
        slots_other None at OfSlots = ap (word_or (slot_at program c.active b) c.active.slots) (waiting_other c.frames a b word apart)

        go : (range other : Range) → word_in program (with_word program c a word range) b other ≡ word_in program c b other
        go OfGlobals other = globals_other (global_at program a) refl other
        go OfStore OfGlobals = refl
        go OfStore OfStore = saved-other c.store a word b apart
        go OfStore OfSlots = refl
        go OfSlots other = slots_other (slot_at program c.active a) refl other

    -- If memory has a word at an address, then after a store to this address it has the stored word at this address.
    pub memory_there : (old : ℕ) → memory_at program c a ≡ Some old → memory_at program (with_memory program c a word) a ≡ Some word
    memory_there old found = go (range_of a) found
      where
        globals_there : (o : Option ℕ) → global_at program a ≡ o → word_or o c.globals None ≡ Some old → word_or (global_at program a) (with_global c o word).globals None ≡ Some word
        globals_there (Some n) at is = ap (λ (o : Option ℕ). word_or o (put c.globals n word) None) at ∙ ap Some (put-same c.globals n word)
        globals_there None at is = absurd (let e : None ≡ Some old = is in cc)

        slots_there : (o : Option ℕ) → slot_at program c.active a ≡ o → word_or o c.active.slots (word_waiting program c.frames a) ≡ Some old
            → word_in program (with_slot program c o a word) a OfSlots ≡ Some word
        slots_there (Some n) at is =
            ap (λ (o : Option ℕ). word_or o (put c.active.slots n word) (word_waiting program c.frames a)) at ∙ ap Some (put-same c.active.slots n word)
        slots_there None at is =
            ap (λ (o : Option ℕ). word_or o c.active.slots (word_waiting program (with_waiting program c.frames a word) a)) at
            ∙ waiting_there c.frames a word old is

        go : (range : Range) → word_in program c a range ≡ Some old → word_in program (with_word program c a word range) a range ≡ Some word
        go OfGlobals is = globals_there (global_at program a) refl is
        go OfStore is = saved-same c.store a word old is
        go OfSlots is = slots_there (slot_at program c.active a) refl is

-- A store instruction leaves a slot unchanged whose address is not taken.
pub unnamed_left : (program : Program) (c : Configuration) (a word slot : ℕ) → is_pinned (routine_at program c.active.function).code slot ≡ false
    → (with_memory program c a word).active.slots slot ≡ c.active.slots slot
unnamed_left program c a word slot free = go (range_of a)
  where
    named : (o : Option ℕ) → slot_at program c.active a ≡ o → (with_slot program c o a word).active.slots slot ≡ c.active.slots slot
    named (Some n) at =
        put-other c.active.slots n slot word
        (λ same.
        let pinned : is_pinned (routine_at program c.active.function).code n ≡ true =
        (numbered-from (is_pinned (routine_at program c.active.function).code) c.active.base a n at).1 in
        false≢true (sym free ∙ ap (is_pinned (routine_at program c.active.function).code) same ∙ pinned))
    named None at = refl

    by_global : (o : Option ℕ) → (with_global c o word).active.slots slot ≡ c.active.slots slot
    by_global (Some n) = refl
    by_global None = refl

    go : (range : Range) → (with_word program c a word range).active.slots slot ≡ c.active.slots slot
    go OfGlobals = by_global (global_at program a)
    go OfStore = refl
    go OfSlots = named (slot_at program c.active a) refl

-- ---- slots

-- `IsAlike` says that two configurations have equal globals, equal heap blocks and equal calls, except that the slots
-- of the active calls may differ.
pub record IsAlike (c d : Configuration) : Type 0 where
  pub function : d.active.function ≡ c.active.function
  pub base : d.active.base ≡ c.active.base
  pub frames : d.frames ≡ c.frames
  pub globals : d.globals ≡ c.globals
  pub store : d.store ≡ c.store

-- A write to a slot whose address is not taken leaves memory unchanged.
pub memory_alike : (program : Program) (c d : Configuration) → IsAlike c d
    → ((slot : ℕ) → is_pinned (routine_at program c.active.function).code slot ≡ true → d.active.slots slot ≡ c.active.slots slot)
    → (address : ℕ) → memory_at program d address ≡ memory_at program c address
memory_alike program c d alike same address = go (range_of address)
  where
    at_same : slot_at program d.active address ≡ slot_at program c.active address
    at_same =
        ap (λ (f : ℕ). numbered (is_pinned (routine_at program f).code) d.active.base address) alike.function
        ∙ ap (λ (b : ℕ). numbered (is_pinned (routine_at program c.active.function).code) b address) alike.base

    named : (o : Option ℕ) → slot_at program c.active address ≡ o
        → word_or o d.active.slots (word_waiting program c.frames address) ≡ word_or o c.active.slots (word_waiting program c.frames address)
    named (Some n) at = ap Some (same n (numbered-from (is_pinned (routine_at program c.active.function).code) c.active.base address n at).1)
    named None at = refl

    go : (range : Range) → word_in program d address range ≡ word_in program c address range
    go OfGlobals = ap (λ (globals : Words). word_or (global_at program address) globals None) alike.globals
    go OfStore = ap (λ (s : StoreState). word_at s address) alike.store
    go OfSlots =
        ap (λ (o : Option ℕ). word_or o d.active.slots (word_waiting program d.frames address)) at_same
        ∙ ap (λ (frames : List Frame). word_or (slot_at program c.active address) d.active.slots (word_waiting program frames address)) alike.frames
        ∙ named (slot_at program c.active address) refl

-- ---- globals

offset_is : (global offset : ℕ) → global_offset global ≡ Some offset → (global < MOST_GLOBALS) × (offset ≡ 4 * global)
offset_is global offset is = go (nat_lt global MOST_GLOBALS) refl is
  where
    go : (b : Bool) → nat_lt global MOST_GLOBALS ≡ b → (if b then Some (4 * global) else None) ≡ Some offset → (global < MOST_GLOBALS) × (offset ≡ 4 * global)
    go true few is = (ltb-true global MOST_GLOBALS few, let e : Some (4 * global) ≡ Some offset = is in cc)
    go false many is = absurd (let e : None ≡ Some offset = is in cc)

pub global_at_offset : (global offset : ℕ) → global_offset global ≡ Some offset → add_of GLOBALS_BASE offset ≡ GLOBALS_BASE + 4 * global
global_at_offset global offset is = let (few, same) = offset_is global offset is in omega (arith, few, same)

-- A load from the address of a global reads this global.
pub global_found : (program : Program) (c : Configuration) (global offset word : ℕ) → global_offset global ≡ Some offset
    → memory_at program c (add_of GLOBALS_BASE offset) ≡ Some word → word ≡ c.globals global
global_found program c global offset word is found =
    let (few, same) = offset_is global offset is in
    let address : ℕ = GLOBALS_BASE + 4 * global in
    let there : word_in program c address OfGlobals ≡ Some word =
    sym (ap (word_in program c address) (range-globals address (omega (arith, few)))) ∙ (sym (ap (memory_at program c) (global_at_offset global offset is)) ∙ found) in
    go (global_at program address) refl there
  where
    go : (o : Option ℕ) → global_at program (GLOBALS_BASE + 4 * global) ≡ o → word_or o c.globals None ≡ Some word → word ≡ c.globals global
    go (Some number) at is =
        let (here, among) = numbered-from (λ (number : ℕ). nat_lt number (length program.globals)) GLOBALS_BASE (GLOBALS_BASE + 4 * global) number at in
        let same : number ≡ global = omega (arith, here) in
        (let e : Some (c.globals number) ≡ Some word = is in let w : word ≡ c.globals number = cc in w) ∙ ap c.globals same
    go None at is = absurd (let e : None ≡ Some word = is in cc)
