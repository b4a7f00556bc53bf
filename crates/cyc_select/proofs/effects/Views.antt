-- The effect of an ordinary instruction on registers and memory. The registers are viewed as a function from register numbers to words,
-- and the memory as a function from addresses to words.
use Rattle.std.proofs.Common.{◌≡◌, ◌≢◌, ℕ, ◌+◌, ◌-◌, ◌%◌, ◌^◌, ◌<◌, ◌≤◌, false, List, [], length, refl, sym, ap, subst, ◌∙◌, arith, inl, inr}
use Rattle.std.specs.Prelude.{◌==◌, if◌then◌else◌, slice_set, slice_index}
use Rattle.std.proofs.lemmas.Bool.{cases_eq, cond-false}
use Rattle.std.proofs.lemmas.List.{get_or-set_same, get_or-set_other, length-set}
use Rattle.cyc_words.specs.Bytes.{byte_in, with_byte, word_of}
use Rattle.cyc_isa.specs.declared.instr.Instr.{Instr}
use Rattle.cyc_isa.specs.declared.instr.Instr.TheVariants.{Immediate, LoadUpper, Memory, Shift, ShiftVariable, MoveFrom, MultiplyDivide, Arithmetic}
use Rattle.cyc_isa.specs.declared.instr.MemoryOp.{MemoryOp}
use Rattle.cyc_isa.specs.declared.instr.MemoryOp.TheVariants.{LoadWord, StoreWord, LoadByte, StoreByte}
use Rattle.cyc_isa.specs.declared.instr.MoveFromOp.TheVariants.{High, Low}
use Rattle.cyc_isa.specs.declared.instr.MultiplyDivideOp.TheVariants.{Multiply, Divide}
use Rattle.cyc_isa.specs.Effect.{immediate_result, load_upper_result, arithmetic_result, shift_result, high_result, low_result, memory_address}
use Rattle.cyc_store.specs.State.{StoreState, saved}
use Rattle.cyc_store.specs.Services.{Answer, Refused, Done, Opened, OpenedLexical, Allocated}
use Rattle.cyc_machine_model.specs.State as machines
use Rattle.cyc_machine_model.specs.State.{Core, Place, InText, InGlobals, InStack, InStore, Nowhere, register, with_register, place_of, stored}
use Rattle.cyc_machine_model.specs.Step.{after}
use Rattle.cyc_machine_model.proofs.MemoryLaws.{length-globals-stored, length-stack-stored}
use Rattle.cyc_plain.specs.inside.State.{Words, put}
use Rattle.cyc_plain.proofs.SlotLaws.{put-same, put-other}
use Rattle.cyc_select.specs.inside.Machine.{Configuration, core_of, memory_of, machine_of, from_world, word_in}
use Rattle.cyc_select.proofs.relation.Cells.{IsCell, IsLive, cell, place_of-data, place_of-stack, place_of-live, cell-store, cell-stored}

-- `Contents` describes memory: the words of the data range and the stack, indexed by address, and the store (the heap).
pub record Contents : Type 0 where
  pub words : Words
  pub store : StoreState

-- Returns the contents of memory after a word of the data range or the stack is written.
abbrev pub written : Contents → (address word : ℕ) → Contents
written w address word = record w { words = put w.words address word }

-- Returns the contents of memory after a word of a live heap block is written.
abbrev pub saved_in : Contents → (address word : ℕ) → Contents
saved_in w address word = record w { store = saved w.store address word }

-- `View` says that a configuration has the registers `r` (HI and LO are numbers 32 and 33) and the memory `w`, and that its
-- data range and stack have the sizes given.
pub record View (globals stack : ℕ) (c : Configuration) (r : Words) (w : Contents) : Type 0 where
  pub wide : length c.registers ≡ 32
  pub data_words : length c.globals ≡ globals
  pub stack_words : length c.stack ≡ stack
  pub few_globals : globals ≤ 1048576
  pub few_stack : stack ≤ 1048576
  pub reg : (n : ℕ) → n < 32 → word_in c n ≡ r n
  pub high : c.high ≡ r 32
  pub low : c.low ≡ r 33
  pub mem : (a : ℕ) → IsCell globals stack a → cell (memory_of c) a ≡ w.words a
  pub store : c.store ≡ w.store

-- ---- loads and stores, of a word and of a byte

pub data Width : Type 0 where
  OneWord : Width
  OneByte : Width

abbrev pub load_op : Width → MemoryOp
load_op OneWord = LoadWord
load_op OneByte = LoadByte

abbrev pub store_op : Width → MemoryOp
store_op OneWord = StoreWord
store_op OneByte = StoreByte

-- Returns the address of the aligned word that contains the accessed byte or word.
abbrev pub word_place : Width → (address : ℕ) → ℕ
word_place OneWord address = address
word_place OneByte address = word_of address

-- Returns the byte or word that a load extracts from the aligned memory word at its address.
abbrev pub loaded_part : Width → (address word : ℕ) → ℕ
loaded_part OneWord address word = word
loaded_part OneByte address word = byte_in word (address % 4)

abbrev pub stored_word : Width → (address old word : ℕ) → ℕ
stored_word OneWord address old word = word
stored_word OneByte address old word = with_byte old (address % 4) (word % 256)

-- ---- the effect of an instruction

abbrev pub does_r : Instr → (r : Words) (w : Contents) → Words
does_r (Immediate op target source half) r w = put r target.number (immediate_result op (r source.number) half)
does_r (LoadUpper target half) r w = put r target.number (load_upper_result half)
does_r (Memory LoadWord target base offset) r w = put r target.number (w.words (memory_address (r base.number) offset))
does_r (Memory LoadByte target base offset) r w =
    put r target.number (loaded_part OneByte (memory_address (r base.number) offset) (w.words (word_of (memory_address (r base.number) offset))))
does_r (Shift op destination source amount) r w = put r destination.number (shift_result op (r source.number) amount.bits)
does_r (ShiftVariable op destination source by) r w = put r destination.number (shift_result op (r source.number) (r by.number))
does_r (MoveFrom High destination) r w = put r destination.number (r 32)
does_r (MoveFrom Low destination) r w = put r destination.number (r 33)
does_r (MultiplyDivide op left right) r w = put (put r 32 (high_result op (r left.number) (r right.number))) 33 (low_result op (r left.number) (r right.number))
does_r (Arithmetic op destination left right) r w = put r destination.number (arithmetic_result op (r left.number) (r right.number))
does_r i r w = r

abbrev pub does_w : Instr → (r : Words) (w : Contents) → Contents
does_w (Memory StoreWord source base offset) r w = written w (memory_address (r base.number) offset) (r source.number)
does_w (Memory StoreByte source base offset) r w =
    let address : ℕ = memory_address (r base.number) offset in
    written w (word_of address) (stored_word OneByte address (w.words (word_of address)) (r source.number))
does_w i r w = w

-- `IsWritable` says that code may write the register with this number: the number is not 0.
abbrev pub IsWritable : ℕ → Type 0
IsWritable number = (number == 0) ≡ false

-- `IsSafe` holds if an instruction, executed with these registers, does not trap and has the effect that its definition gives.
abbrev pub IsSafe : (globals stack : ℕ) → Instr → Words → Type 0
IsSafe globals stack (Immediate op target source half) r = IsWritable target.number
IsSafe globals stack (LoadUpper target half) r = IsWritable target.number
IsSafe globals stack (Memory LoadWord target base offset) r =
    IsWritable target.number × IsCell globals stack (memory_address (r base.number) offset)
IsSafe globals stack (Memory StoreWord source base offset) r = IsCell globals stack (memory_address (r base.number) offset)
IsSafe globals stack (Memory LoadByte target base offset) r =
    IsWritable target.number × IsCell globals stack (word_of (memory_address (r base.number) offset))
IsSafe globals stack (Memory StoreByte source base offset) r = IsCell globals stack (word_of (memory_address (r base.number) offset))
IsSafe globals stack (Shift op destination source amount) r = IsWritable destination.number
IsSafe globals stack (ShiftVariable op destination source by) r = IsWritable destination.number
IsSafe globals stack (MoveFrom op destination) r = IsWritable destination.number
IsSafe globals stack (MultiplyDivide Multiply left right) r = Unit {0}
IsSafe globals stack (MultiplyDivide Divide left right) r =
    (r right.number ≢ 0) × (r left.number ≡ 2 ^ 31 → r right.number ≡ 2 ^ 32 - 1 → ⊥)
IsSafe globals stack (Arithmetic op destination left right) r = IsWritable destination.number
IsSafe globals stack i r = ⊥

-- Returns the registers after the store (the heap of regions) has written its result to them.
abbrev pub answered_r : Answer → Words → Words
answered_r (Refused why) r = r
answered_r Done r = r
answered_r (Opened handle) r = put r 2 handle
answered_r (OpenedLexical handle mark) r = put (put r 2 handle) 3 mark
answered_r (Allocated address) r = put r 2 address

abbrev pub answered_registers : Configuration → Answer → List ℕ
answered_registers c (Refused why) = c.registers
answered_registers c Done = c.registers
answered_registers c (Opened handle) = (with_register (core_of c) 2 handle).registers
answered_registers c (OpenedLexical handle mark) =
    (with_register (with_register (core_of c) 2 handle) 3 mark).registers
answered_registers c (Allocated address) = (with_register (core_of c) 2 address).registers

-- Returns the configuration after an instruction that does not jump.
abbrev pub moved : Configuration → Instr → Configuration
moved c i = from_world (record { machine = after (machine_of c) i; output = c.output; input = c.input }) (c.line + 1)

-- ---- registers

pub set_register : (core : Core) (n v m : ℕ) → length core.registers ≡ 32 → n < 32 → IsWritable n → register (with_register core n v) m ≡ put (register core) n v m
set_register core n v m wide below writable =
    let regs : (with_register core n v).registers ≡ slice_set core.registers n v = cond-false (n == 0) core.registers (slice_set core.registers n v) writable in
    ap (λ (l : List ℕ). if m == 0 then 0 else slice_index l m) regs
    ∙ elim (cases_eq m n) [
      | inl same ↦
          let not_zero : (m == 0) ≡ false = ap (λ (k : ℕ). k == 0) same ∙ writable in
          cond-false (m == 0) 0 (slice_index (slice_set core.registers n v) m) not_zero
          ∙ (ap (slice_index (slice_set core.registers n v)) same ∙ get_or-set_same core.registers n v 0 (omega (arith, wide, below)))
          ∙ sym (ap (put (register core) n v) same ∙ put-same (register core) n v)
      | inr other ↦
          ap (λ (x : ℕ). if m == 0 then 0 else x) (get_or-set_other core.registers n m v 0 other)
          ∙ sym (put-other (register core) n m v other)
    ]

module _ (globals stack : ℕ) (c : Configuration) (r : Words) (w : Contents) (view : View globals stack c r w) where
  -- After a register is written, the configuration's registers are the old ones with this register replaced, and its memory is the same.
  pub view_put : (n v word line : ℕ) → n < 32 → IsWritable n → v ≡ word
      → View globals stack (record c { registers = (with_register (core_of c) n v).registers; line = line }) (put r n word) w
  view_put n v word line below writable same = record {
    wide = ap length (cond-false (n == 0) c.registers (slice_set c.registers n v) writable) ∙ (length-set c.registers n v ∙ view.wide);
    data_words = view.data_words;
    stack_words = view.stack_words;
    few_globals = view.few_globals;
    few_stack = view.few_stack;
    reg = λ m m_below.
        set_register (core_of c) n v m view.wide below writable
        ∙ elim (cases_eq m n) [
          | inl equal ↦ (ap (put (register (core_of c)) n v) equal ∙ put-same (register (core_of c)) n v) ∙ (same ∙ sym (ap (put r n word) equal ∙ put-same r n word))
          | inr other ↦ put-other (register (core_of c)) n m v other ∙ (view.reg m m_below ∙ sym (put-other r n m word other))
        ];
    high = view.high ∙ sym (put-other r n 32 word (λ e. absurd (omega (arith, e, below))));
    low = view.low ∙ sym (put-other r n 33 word (λ e. absurd (omega (arith, e, below))));
    mem = view.mem;
    store = view.store;
  }

  -- The relation `View` (a configuration has these registers and this memory) does not depend on the next line, the output and the input.
  pub view_seen : (line : ℕ) (output input : List ℕ) → View globals stack (record c { line = line; output = output; input = input }) r w
  view_seen line output input = record {
    wide = view.wide;
    data_words = view.data_words;
    stack_words = view.stack_words;
    few_globals = view.few_globals;
    few_stack = view.few_stack;
    reg = view.reg;
    high = view.high;
    low = view.low;
    mem = view.mem;
    store = view.store;
  }

  pub view_at : (line : ℕ) → View globals stack (record c { line = line }) r w
  view_at line = view_seen line c.output c.input

  -- After HI and LO are written, the configuration's registers are the old ones with HI and LO replaced, and its memory is the same.
  pub view_product : (h l high low line : ℕ) → h ≡ high → l ≡ low → View globals stack (record c { high = h; low = l; line = line }) (put (put r 32 high) 33 low) w
  view_product h l high low line same_high same_low = record {
    wide = view.wide;
    data_words = view.data_words;
    stack_words = view.stack_words;
    few_globals = view.few_globals;
    few_stack = view.few_stack;
    reg = λ m m_below.
        view.reg m m_below
        ∙ sym (put-other (put r 32 high) 33 m low (λ e. absurd (omega (arith, e, m_below))) ∙ put-other r 32 m high (λ e. absurd (omega (arith, e, m_below))));
    high = same_high ∙ sym (put-other (put r 32 high) 33 32 low (λ e. absurd (omega (arith, e))) ∙ put-same r 32 high);
    low = same_low ∙ sym (put-same (put r 32 high) 33 low);
    mem = view.mem;
    store = view.store;
  }

  -- A write to a word of the data range or the stack leaves the store (the heap) unchanged.
  same_store : (a word : ℕ) → IsCell globals stack a → (stored (memory_of c) (place_of (memory_of c) a) word).store ≡ c.store
  same_store a word (inl (aligned, from, below)) =
      ap (λ (p : Place). (stored (memory_of c) p word).store) (place_of-data c.globals c.stack c.store a (aligned, from, omega (arith, below, view.data_words)))
  same_store a word (inr (aligned, from, below)) =
      ap (λ (p : Place). (stored (memory_of c) p word).store)
      (place_of-stack c.globals c.stack c.store a (omega (arith, view.data_words, view.few_globals)) (omega (arith, view.stack_words, view.few_stack)) (aligned, omega (arith, from, view.stack_words), below))

  -- The address of a word in a live block is mapped to the store (the heap).
  pub live_place : (a word : ℕ) → IsLive w.store a word → place_of (memory_of c) a ≡ InStore a
  live_place a word live =
      place_of-live c.globals c.stack c.store a word (omega (arith, view.data_words, view.few_globals)) (omega (arith, view.stack_words, view.few_stack))
      (subst (λ (s : StoreState). IsLive s a word) (sym view.store) live)

  same_memory : (place : Place) (word : ℕ)
      → let m : machines.Memory = record { text = []; globals = (stored (memory_of c) place word).globals; stack = (stored (memory_of c) place word).stack; store = (stored (memory_of c) place word).store } in
      m ≡ stored (memory_of c) place word
  same_memory (InText n) word = refl
  same_memory (InGlobals n) word = refl
  same_memory (InStack n) word = refl
  same_memory (InStore n) word = refl
  same_memory Nowhere word = refl

  pub view_store : (a address v word line : ℕ) → IsCell globals stack a → address ≡ a → v ≡ word
      → View globals stack (record c {
        globals = (stored (memory_of c) (place_of (memory_of c) address) v).globals;
        stack = (stored (memory_of c) (place_of (memory_of c) address) v).stack;
        store = (stored (memory_of c) (place_of (memory_of c) address) v).store;
        line = line;
      }) r (written w a word)
  view_store a address v word line at same_address same = record {
    wide = view.wide;
    data_words = length-globals-stored (memory_of c) (place_of (memory_of c) address) v ∙ view.data_words;
    stack_words = length-stack-stored (memory_of c) (place_of (memory_of c) address) v ∙ view.stack_words;
    few_globals = view.few_globals;
    few_stack = view.few_stack;
    reg = view.reg;
    high = view.high;
    low = view.low;
    mem = λ b b_at.
        ap (λ (m : machines.Memory). cell m b) (same_memory (place_of (memory_of c) address) v)
        ∙ (ap (λ (x : ℕ). cell (stored (memory_of c) (place_of (memory_of c) x) v) b) same_address
        ∙ (ap (λ (x : ℕ). cell (stored (memory_of c) (place_of (memory_of c) a) x) b) same
        ∙ (cell-stored c.globals c.stack c.store (omega (arith, view.data_words, view.few_globals)) (omega (arith, view.stack_words, view.few_stack)) a word b
        (subst (λ (n : ℕ). IsCell n (length c.stack) a) (sym view.data_words) (subst (λ (n : ℕ). IsCell globals n a) (sym view.stack_words) at))
        (subst (λ (n : ℕ). IsCell n (length c.stack) b) (sym view.data_words) (subst (λ (n : ℕ). IsCell globals n b) (sym view.stack_words) b_at))
        ∙ kept b b_at)));
    store = ap (λ (x : ℕ). (stored (memory_of c) (place_of (memory_of c) x) v).store) same_address ∙ (same_store a v at ∙ view.store);
  }
    where
      kept : (b : ℕ) → IsCell globals stack b → put (cell (memory_of c)) a word b ≡ put w.words a word b
      kept b b_at = elim (cases_eq b a) [
        | inl equal ↦ (ap (put (cell (memory_of c)) a word) equal ∙ put-same (cell (memory_of c)) a word) ∙ sym (ap (put w.words a word) equal ∙ put-same w.words a word)
        | inr other ↦ put-other (cell (memory_of c)) a b word other ∙ (view.mem b b_at ∙ sym (put-other w.words a b word other))
      ]

  -- If the store (the heap of regions) changes, the configuration's registers are the same, and its memory is the old one
  -- with the new store.
  pub view_stored : (line : ℕ) (store other : StoreState) → other ≡ store → View globals stack (record c { store = other; line = line }) r (record w { store = store })
  view_stored line store other same = record {
    wide = view.wide;
    data_words = view.data_words;
    stack_words = view.stack_words;
    few_globals = view.few_globals;
    few_stack = view.few_stack;
    reg = view.reg;
    high = view.high;
    low = view.low;
    mem = λ a at.
        cell-store c.globals c.stack c.store other a (omega (arith, view.data_words, view.few_globals)) (omega (arith, view.stack_words, view.few_stack))
        (subst (λ (m : ℕ). IsCell m (length c.stack) a) (sym view.data_words) (subst (λ (m : ℕ). IsCell globals m a) (sym view.stack_words) at))
        ∙ view.mem a at;
    store = same;
  }

  -- After a word of a live block is written, the configuration's registers are the same, and only this word of its memory is replaced.
  pub view_saved : (a old address v word line : ℕ) → IsLive w.store a old → address ≡ a → v ≡ word
      → View globals stack (record c {
        globals = (stored (memory_of c) (place_of (memory_of c) address) v).globals;
        stack = (stored (memory_of c) (place_of (memory_of c) address) v).stack;
        store = (stored (memory_of c) (place_of (memory_of c) address) v).store;
        line = line;
      }) r (saved_in w a word)
  view_saved a old address v word line live same_address same = record {
    wide = view.wide;
    data_words = ap (λ (m : machines.Memory). length m.globals) is ∙ view.data_words;
    stack_words = ap (λ (m : machines.Memory). length m.stack) is ∙ view.stack_words;
    few_globals = view.few_globals;
    few_stack = view.few_stack;
    reg = view.reg;
    high = view.high;
    low = view.low;
    mem = λ b b_at.
        ap (λ (m : machines.Memory). cell m b) (same_memory (place_of (memory_of c) address) v)
        ∙ (ap (λ (m : machines.Memory). cell m b) is
        ∙ (cell-store c.globals c.stack c.store (saved c.store a word) b (omega (arith, view.data_words, view.few_globals)) (omega (arith, view.stack_words, view.few_stack))
        (subst (λ (n : ℕ). IsCell n (length c.stack) b) (sym view.data_words) (subst (λ (n : ℕ). IsCell globals n b) (sym view.stack_words) b_at))
        ∙ view.mem b b_at));
    store = ap (λ (m : machines.Memory). m.store) is ∙ ap (λ (s : StoreState). saved s a word) view.store;
  }
    where
      is : stored (memory_of c) (place_of (memory_of c) address) v ≡ record (memory_of c) { store = saved c.store a word }
      is =
          ap (λ (x : ℕ). stored (memory_of c) (place_of (memory_of c) x) v) same_address
          ∙ (ap (λ (p : Place). stored (memory_of c) p v) (live_place a old live)
          ∙ ap (λ (x : ℕ). let m : machines.Memory = record (memory_of c) { store = saved c.store a x } in m) same)

-- After the store (the heap of regions) has answered a call, its result is in the configuration's
-- registers, and the memory contains the new store.
pub view_answered : (globals stack : ℕ) (c : Configuration) (r : Words) (w : Contents) → View globals stack c r w → (a : Answer) (line : ℕ) (store other : StoreState) → other ≡ store
    → View globals stack (record c { registers = answered_registers c a; store = other; line = line }) (answered_r a r) (record w { store = store })
view_answered globals stack c r w view (Refused why) line store other same = view_stored globals stack c r w view line store other same
view_answered globals stack c r w view Done line store other same = view_stored globals stack c r w view line store other same
view_answered globals stack c r w view (Opened handle) line store other same =
    view_put globals stack (record c { store = other; line = line }) r (record w { store = store }) (view_stored globals stack c r w view line store other same) 2 handle handle line (omega arith) refl refl
view_answered globals stack c r w view (OpenedLexical handle mark) line store other same =
    let first = view_put globals stack (record c { store = other; line = line }) r (record w { store = store }) (view_stored globals stack c r w view line store other same) 2 handle handle line (omega arith) refl refl in
    view_put globals stack (record c { registers = (with_register (core_of c) 2 handle).registers; store = other; line = line }) (put r 2 handle) (record w { store = store }) first 3 mark mark line (omega arith) refl refl
view_answered globals stack c r w view (Allocated address) line store other same =
    view_put globals stack (record c { store = other; line = line }) r (record w { store = store }) (view_stored globals stack c r w view line store other same) 2 address address line (omega arith) refl refl
