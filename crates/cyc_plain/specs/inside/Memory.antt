-- Memory as loads and stores see it. Memory has three ranges: the globals, the live blocks of the store, and the slots of active calls
-- whose address is taken. A slot whose address is not taken is private to its call, like a register, and no store instruction changes it.
use Rattle.std.specs.Prelude.{◌≡◌, ℕ, ◌+◌, ◌-◌, ◌*◌, ◌/◌, ◌%◌, ◌^◌, ◌≤◌, Bool, false, ◌&&◌, ◌||◌, ◌==◌, nat_le, nat_lt, if◌then◌else◌, List, [], ◌∷◌, length, Option, Some, None}
use Rattle.cyc_store.specs.State.{word_at, saved}
use Rattle.cyc_store.specs.declared.range.TheConstants.{STORE_BASE, PAGE_WORDS, MOST_PAGES}
use Rattle.cyc_plain.specs.declared.instruction.Instruction.{Instruction}
use Rattle.cyc_plain.specs.declared.instruction.Instruction.TheVariants as instructions
use Rattle.cyc_plain.specs.declared.limits.TheConstants.{GLOBALS_BASE}
use Rattle.cyc_plain.specs.inside.Program.{Program, routine_at}
use Rattle.cyc_plain.specs.inside.State.{Words, put, Activation, Frame, Configuration, State, Running, Ended, Stuck}

-- ---- addresses of the slots of calls

-- The lowest address of slots, after all addresses of the store and in the lower half of memory.
abbrev pub slots_base : ℕ
slots_base = STORE_BASE + 4 * (PAGE_WORDS * MOST_PAGES)

abbrev pub slots_end : ℕ
slots_end = 2 ^ 31

-- `IsBelow` says that the slots of a call of this function may be allocated from address `base` on: they end below address `above`.
pub record IsBelow (program : Program) (function base above : ℕ) : Type 0 where
  pub aligned : base % 4 ≡ 0
  pub low : slots_base ≤ base
  pub high : base + 4 * (routine_at program function).slots ≤ above

-- `AreBelow` says that the slots of each call have lower addresses than those of its caller.
abbrev pub AreBelow : Program → (function base : ℕ) → List Frame → Type 0
AreBelow program function base [] = IsBelow program function base slots_end
AreBelow program function base (f ∷ frames) =
    IsBelow program function base f.caller.base × AreBelow program f.caller.function f.caller.base frames

abbrev pub LieBelow : Program → State → Type 0
LieBelow program (Running c) = AreBelow program c.active.function c.active.base c.frames
LieBelow program (Ended ending output input) = Unit {0}
LieBelow program (Stuck output input) = Unit {0}

-- ---- words with an address

-- Returns true if an instruction takes the address of this slot, so that loads and stores can access the slot.
abbrev pub pins : Instruction → (slot : ℕ) → Bool
pins (instructions.AddressOf destination first count) slot = nat_le first slot && nat_lt slot (first + count)
pins instruction slot = false

abbrev pub is_pinned : List Instruction → (slot : ℕ) → Bool
is_pinned [] slot = false
is_pinned (i ∷ code) slot = pins i slot || is_pinned code slot

-- Returns the index of the word at this address among consecutive words from address `base` on, if the predicate `is_asked` accepts
-- the index.
abbrev pub numbered : (is_asked : ℕ → Bool) → (base address : ℕ) → Option ℕ
numbered is_asked base address =
    if base + 4 * ((address - base) / 4) == address && is_asked ((address - base) / 4) then Some ((address - base) / 4) else None

-- Returns the index of the global at this address, if there is one.
abbrev pub global_at : Program → (address : ℕ) → Option ℕ
global_at program address = numbered (λ (number : ℕ). nat_lt number (length program.globals)) GLOBALS_BASE address

-- Returns the index of a call's slot at this address, if there is a slot at this address whose address an instruction takes.
abbrev pub slot_at : Program → Activation → (address : ℕ) → Option ℕ
slot_at program a address = numbered (is_pinned (routine_at program a.function).code) a.base address

-- ---- waiting calls

abbrev pub word_or : Option ℕ → Words → (other : Option ℕ) → Option ℕ
word_or (Some number) words other = Some (words number)
word_or None words other = other

-- Returns the word of the slot at an address, if this is the address of a slot of one of the given waiting calls, or `None`.
abbrev pub word_waiting : Program → List Frame → (address : ℕ) → Option ℕ
word_waiting program [] address = None
word_waiting program (f ∷ frames) address =
    word_or (slot_at program f.caller address) f.caller.slots (word_waiting program frames address)

abbrev pub put_or : Option ℕ → (word : ℕ) → Frame → (frames others : List Frame) → List Frame
put_or (Some slot) word f frames others =
    record f { caller = record f.caller { slots = put f.caller.slots slot word } } ∷ frames
put_or None word f frames others = f ∷ others

-- Returns the waiting calls after a word is written to an address in memory, which may be that of one of their slots.
abbrev pub with_waiting : Program → List Frame → (address word : ℕ) → List Frame
with_waiting program [] address word = []
with_waiting program (f ∷ frames) address word =
    put_or (slot_at program f.caller address) word f frames (with_waiting program frames address word)

-- ---- loads and stores

-- The range of memory in which an address lies: that of the globals, that of the store or that of the slots.
pub data Range : Type 0 where
  OfGlobals : Range
  OfStore : Range
  OfSlots : Range

abbrev pub range_of : (address : ℕ) → Range
range_of address =
    if nat_lt address STORE_BASE then OfGlobals else if nat_lt address slots_base then OfStore else OfSlots

abbrev pub word_in : Program → Configuration → (address : ℕ) → Range → Option ℕ
word_in program c address OfGlobals = word_or (global_at program address) c.globals None
word_in program c address OfStore = word_at c.store address
word_in program c address OfSlots =
    word_or (slot_at program c.active address) c.active.slots (word_waiting program c.frames address)

-- Returns the word at an address, or `None` if memory has no word at that address.
abbrev pub memory_at : Program → Configuration → (address : ℕ) → Option ℕ
memory_at program c address = word_in program c address (range_of address)

abbrev pub with_global : Configuration → Option ℕ → (word : ℕ) → Configuration
with_global c (Some number) word = record c { globals = put c.globals number word }
with_global c None word = c

abbrev pub with_slot : Program → Configuration → Option ℕ → (address word : ℕ) → Configuration
with_slot program c (Some number) address word =
    record c { active = record c.active { slots = put c.active.slots number word } }
with_slot program c None address word = record c { frames = with_waiting program c.frames address word }

abbrev pub with_word : Program → Configuration → (address word : ℕ) → Range → Configuration
with_word program c address word OfGlobals = with_global c (global_at program address) word
with_word program c address word OfStore = record c { store = saved c.store address word }
with_word program c address word OfSlots = with_slot program c (slot_at program c.active address) address word

-- Returns the configuration after a word is written to an address, if memory has a word at that address.
abbrev pub with_memory : Program → Configuration → (address word : ℕ) → Configuration
with_memory program c address word = with_word program c address word (range_of address)
