-- The words that loads and stores of a plain program access are in the machine's memory: those of live blocks in its store, those of
-- globals in its data range, and those of slots in the stack frames.
use Rattle.std.proofs.Common.{◌≡◌, ◌≢◌, ℕ, suc, ◌+◌, ◌*◌, ◌%◌, ◌<◌, ◌≤◌, true, false, List, [], ◌∷◌, length, Option, Some, None, slice_get, refl, sym, ap, subst, ◌∙◌, arith, inl, inr}
use Rattle.std.specs.Prelude.{nat_lt}
use Rattle.std.proofs.lemmas.Bool.{cases_eq, ltb-true, or_cases}
use Rattle.cyc_words.specs.Word.{IsWord}
use Rattle.cyc_registers.specs.inside.Bars.{bars}
use Rattle.cyc_isa.specs.Effect.{memory_address}
use Rattle.cyc_isa.specs.declared.instr.Instr.TheVariants.{Memory}
use Rattle.cyc_isa.specs.declared.instr.MemoryOp.TheVariants.{LoadWord, StoreWord, LoadByte, StoreByte}
use Rattle.cyc_isa.specs.declared.operand.Register.{Register}
use Rattle.cyc_machine_model.specs.State.{data_base, stack_end, globals_length, words_per_call}
use Rattle.cyc_store.specs.State.{StoreState}
use Rattle.cyc_plain.specs.declared.limits.TheConstants.{GLOBALS_BASE, MOST_FRAME_WORDS}
use Rattle.cyc_plain.specs.declared.instruction.Instruction.{Instruction}
use Rattle.cyc_plain.specs.declared.instruction.Instruction.TheVariants as instructions
use Rattle.cyc_plain.specs.inside.Memory.{pins, is_pinned, global_at, slot_at, word_or, word_waiting, put_or, with_waiting, Range, OfGlobals, OfStore, OfSlots, range_of, word_in, memory_at, with_global, with_slot, with_word, with_memory}
use Rattle.cyc_plain.specs.inside.Program.{Program, routine_at}
use Rattle.cyc_plain.specs.inside.State as states
use Rattle.cyc_plain.specs.inside.State.{Words, put, Configuration}
use Rattle.cyc_plain.specs.inside.WellFormed.{IsWellFormed}
use Rattle.cyc_plain.proofs.MemoryLaws.{numbered-from, pinned-inside, length-waiting}
use Rattle.cyc_plain.proofs.SlotLaws.{put-same, put-other}
use Rattle.cyc_registers.specs.inside.Interference.{AreHomes}
use Rattle.cyc_frame.specs.inside.Layout.{AreFrames, IsFrame, slot_word, frame_at}
use Rattle.cyc_frame.specs.inside.Frame.{Frame}
use Rattle.cyc_select.specs.declared.constants.TheConstants.{HANDLERS}
use Rattle.cyc_select.specs.declared.code.Line.TheVariants as lines
use Rattle.cyc_select.specs.inside.Labelled.{Labelled, IsFormed}
use Rattle.cyc_select.specs.inside.Machine as labelled
use Rattle.cyc_select.specs.inside.Machine.{State, Running}
use Rattle.cyc_select.specs.inside.Instructions.{slot_offset}
use Rattle.cyc_select.specs.inside.Slots.{value_register, is_kept}
use Rattle.cyc_select.proofs.relation.Cells.{IsCell, IsLive}
use Rattle.cyc_select.proofs.relation.Waiting.{preserved_of, left_same, LeftBy, frame_size, Chain, Lies, chain_kept, chain_lies, AreRecords, IsBeyond, IsNewest, AreBased, based_here, back_in}
use Rattle.cyc_select.proofs.relation.Standing.{in_frame_at, saved_at, Stage, Standing, lies, word_cell, global_cell, standing_at, standing_slot, standing_global, standing_saved}
use Rattle.cyc_select.proofs.relation.Stores.{laid_live}
use Rattle.cyc_select.proofs.relation.Values.{barred_kept, unbarred}
use Rattle.cyc_select.proofs.effects.Views.{Contents, written, saved_in, IsWritable, Width, OneWord, OneByte, load_op, store_op, word_place, loaded_part, stored_word}
use Rattle.cyc_select.proofs.effects.Walks.{Walk, Now, now_is, walk_few, walk_from, walk_block, walk_load, walk_save}

-- ---- the two kinds of words

pub data Sort : Type 0 where
  OfBlock : Sort
  OfCell : Sort

-- `IsWordAt` says that `word` is at the address `a`, in a live block or in the data range or the stack.
abbrev pub IsWordAt : Sort → (globals stack : ℕ) → Contents → (a word : ℕ) → Type 0
IsWordAt OfBlock globals stack w a word = IsLive w.store a word × IsWord word
IsWordAt OfCell globals stack w a word = IsCell globals stack a × (w.words a ≡ word)

-- Returns the contents of memory after the word at an address is replaced.
abbrev pub placed : Sort → Contents → (a word : ℕ) → Contents
placed OfBlock w a word = saved_in w a word
placed OfCell w a word = written w a word

module _ (code : Labelled) (formed : IsFormed code) (addresses : ℕ → ℕ) (globals stack : ℕ) where
  -- An instruction that loads a word of the data range or the stack, followed by a walk, is a walk (stretch of a run).
  cell_read : {Late : State → Type 0} (width : Width) (n k lo hi : ℕ) (out input : List ℕ) (Goal : State → Type 0) (r : Words) (w : Contents) (c : labelled.Configuration) (target base : Register) (offset : ℕ)
      → Now code formed addresses globals stack k out input r w c → slice_get code.lines k ≡ Some (lines.Ordinary (Memory (load_op width) target base offset)) → lo ≤ k → IsWritable target.number → IsCell globals stack (word_place width (memory_address (r base.number) offset))
      → ((d : labelled.Configuration) → Now code formed addresses globals stack (k + 1) out input (put r target.number (loaded_part width (memory_address (r base.number) offset) (w.words (word_place width (memory_address (r base.number) offset))))) w d → Walk code formed addresses globals stack n (k + 1) hi out Late Goal (Running d))
      → Walk code formed addresses globals stack (1 + n) lo hi out Late Goal (Running c)
  cell_read OneWord n k lo hi out input Goal r w c target base offset now stands from writable cell rest =
      walk_block code formed addresses globals stack (Memory LoadWord target base offset ∷ []) n k lo hi out input Goal r w c now (stands, tt) ((writable, cell), tt) from rest
  cell_read OneByte n k lo hi out input Goal r w c target base offset now stands from writable cell rest =
      walk_block code formed addresses globals stack (Memory LoadByte target base offset ∷ []) n k lo hi out input Goal r w c now (stands, tt) ((writable, cell), tt) from rest

  cell_written : {Late : State → Type 0} (width : Width) (n k lo hi : ℕ) (out input : List ℕ) (Goal : State → Type 0) (r : Words) (w : Contents) (c : labelled.Configuration) (source base : Register) (offset : ℕ)
      → Now code formed addresses globals stack k out input r w c → slice_get code.lines k ≡ Some (lines.Ordinary (Memory (store_op width) source base offset)) → lo ≤ k → IsCell globals stack (word_place width (memory_address (r base.number) offset))
      → ((d : labelled.Configuration) → Now code formed addresses globals stack (k + 1) out input r (written w (word_place width (memory_address (r base.number) offset)) (stored_word width (memory_address (r base.number) offset) (w.words (word_place width (memory_address (r base.number) offset))) (r source.number))) d → Walk code formed addresses globals stack n (k + 1) hi out Late Goal (Running d))
      → Walk code formed addresses globals stack (1 + n) lo hi out Late Goal (Running c)
  cell_written OneWord n k lo hi out input Goal r w c source base offset now stands from cell rest =
      walk_block code formed addresses globals stack (Memory StoreWord source base offset ∷ []) n k lo hi out input Goal r w c now (stands, tt) (cell, tt) from rest
  cell_written OneByte n k lo hi out input Goal r w c source base offset now stands from cell rest =
      walk_block code formed addresses globals stack (Memory StoreByte source base offset ∷ []) n k lo hi out input Goal r w c now (stands, tt) (cell, tt) from rest

  -- An instruction that loads the word at an address into a register, followed by a walk, is a walk (stretch of a run).
  pub walk_read : {Late : State → Type 0} (width : Width) (sort : Sort) (n k lo hi : ℕ) (out input : List ℕ) (Goal : State → Type 0) (r : Words) (w : Contents) (c : labelled.Configuration) (target base : Register) (offset word : ℕ)
      → Now code formed addresses globals stack k out input r w c → slice_get code.lines k ≡ Some (lines.Ordinary (Memory (load_op width) target base offset)) → lo ≤ k → IsWritable target.number
      → IsWordAt sort globals stack w (word_place width (memory_address (r base.number) offset)) word
      → ((d : labelled.Configuration) → Now code formed addresses globals stack (k + 1) out input (put r target.number (loaded_part width (memory_address (r base.number) offset) word)) w d → Walk code formed addresses globals stack n (suc k) hi out Late Goal (Running d))
      → Walk code formed addresses globals stack (suc n) lo hi out Late Goal (Running c)
  walk_read width OfBlock n k lo hi out input Goal r w c target base offset word now stands from writable (live, is_word) rest =
      walk_load code formed addresses globals stack width n k lo hi out input Goal r w c target base offset word now stands from writable live is_word rest
  walk_read width OfCell n k lo hi out input Goal r w c target base offset word now stands from writable (cell, is) rest =
      walk_few code formed addresses globals stack (suc n) (1 + n) lo hi out Goal (Running c) (omega arith)
      (cell_read width n k lo hi out input Goal r w c target base offset now stands from writable cell
      (λ d later.
      walk_from code formed addresses globals stack n (k + 1) (suc k) hi out Goal (Running d) (omega arith)
      (rest d (now_is code formed addresses globals stack (k + 1) out input (put r target.number (loaded_part width (memory_address (r base.number) offset) (w.words (word_place width (memory_address (r base.number) offset))))) w (put r target.number (loaded_part width (memory_address (r base.number) offset) word)) w d
      (ap (λ (v : ℕ). put r target.number (loaded_part width (memory_address (r base.number) offset) v)) is) refl later))))

  -- A store instruction followed by a walk is a walk (stretch of a run).
  pub walk_write : {Late : State → Type 0} (width : Width) (sort : Sort) (n k lo hi : ℕ) (out input : List ℕ) (Goal : State → Type 0) (r : Words) (w : Contents) (c : labelled.Configuration) (source base : Register) (offset old : ℕ)
      → Now code formed addresses globals stack k out input r w c → slice_get code.lines k ≡ Some (lines.Ordinary (Memory (store_op width) source base offset)) → lo ≤ k
      → IsWordAt sort globals stack w (word_place width (memory_address (r base.number) offset)) old
      → ((d : labelled.Configuration) → Now code formed addresses globals stack (k + 1) out input r (placed sort w (word_place width (memory_address (r base.number) offset)) (stored_word width (memory_address (r base.number) offset) old (r source.number))) d → Walk code formed addresses globals stack n (suc k) hi out Late Goal (Running d))
      → Walk code formed addresses globals stack (suc n) lo hi out Late Goal (Running c)
  walk_write width OfBlock n k lo hi out input Goal r w c source base offset old now stands from (live, is_word) rest =
      walk_save code formed addresses globals stack width n k lo hi out input Goal r w c source base offset old now stands from live rest
  walk_write width OfCell n k lo hi out input Goal r w c source base offset old now stands from (cell, is) rest =
      walk_few code formed addresses globals stack (suc n) (1 + n) lo hi out Goal (Running c) (omega arith)
      (cell_written width n k lo hi out input Goal r w c source base offset now stands from cell
      (λ d later.
      walk_from code formed addresses globals stack n (k + 1) (suc k) hi out Goal (Running d) (omega arith)
      (rest d (now_is code formed addresses globals stack (k + 1) out input r (written w (word_place width (memory_address (r base.number) offset)) (stored_word width (memory_address (r base.number) offset) (w.words (word_place width (memory_address (r base.number) offset))) (r source.number))) r (written w (word_place width (memory_address (r base.number) offset)) (stored_word width (memory_address (r base.number) offset) old (r source.number))) d refl
      (ap (λ (v : ℕ). written w (word_place width (memory_address (r base.number) offset)) (stored_word width (memory_address (r base.number) offset) v (r source.number))) is) later))))

-- ---- slots whose address is taken have their home in memory

pinned_by_instruction : (code : List Instruction) (slot : ℕ) → is_pinned code slot ≡ true → (index : ℕ) × (i : Instruction) × (slice_get code index ≡ Some i) × (pins i slot ≡ true)
pinned_by_instruction [] slot pinned = absurd (let e : false ≡ true = pinned in cc)
pinned_by_instruction (i ∷ code) slot pinned = elim (or_cases (pins i slot) (is_pinned code slot) pinned) [
  | inl here ↦ (0, i, refl, here)
  | inr later ↦ let (index, j, at, there) = pinned_by_instruction code slot later in (suc index, j, at, there)
]

pins_bar : (i : Instruction) (slot : ℕ) → pins i slot ≡ true → bars i slot ≡ true
pins_bar (instructions.AddressOf destination first count) slot is = is
pins_bar i slot is = absurd (let e : false ≡ true = is in cc)

module _ (program : Program) (frames : List Frame) (function : ℕ) (right : AreHomes program (routine_at program function) (frame_at frames function).saved (frame_at frames function).homes) where
  pub pinned_kept : (slot : ℕ) → is_pinned (routine_at program function).code slot ≡ true → is_kept (frame_at frames function) slot ≡ true
  pinned_kept slot pinned =
      let (index, i, at, is) = pinned_by_instruction (routine_at program function).code slot pinned in
      barred_kept program frames function right index slot i at (pins_bar i slot is)

  pub unpinned : (slot k : ℕ) → is_pinned (routine_at program function).code slot ≡ true → value_register (frame_at frames function) slot ≡ Some k → ⊥
  unpinned slot k pinned has =
      let (index, i, at, is) = pinned_by_instruction (routine_at program function).code slot pinned in
      let e : true ≡ false = sym (pins_bar i slot is) ∙ unbarred program frames function right index slot k i at has in
      cc

-- ---- a store to a slot of a waiting call

module _ (program : Program) (a word : ℕ) where
  -- If no frame of a waiting call changes, the addresses of the calls' slots are unchanged.
  based_waiting : (frames : List Frame) (base function place : ℕ) (waiting : List states.Frame) → AreBased frames base function place waiting → AreBased frames base function place (with_waiting program waiting a word)
  based_waiting frames base function place [] based = based
  based_waiting frames base function place (f ∷ waiting) (here, based) =
      go (slot_at program f.caller a) (based_waiting frames (base + frame_size) f.caller.function f.caller.base waiting based)
    where
      go : (slot : Option ℕ) → AreBased frames (base + frame_size) f.caller.function f.caller.base (with_waiting program waiting a word)
          → AreBased frames base function place (put_or slot word f waiting (with_waiting program waiting a word))
      go (Some number) others = (here, based)
      go None others = (here, others)

  -- A call's oldest handler record is linked to an older record. If the condition on the older record is weakened, the list of the
  -- call's handler records still satisfies `AreRecords`.
  records_map : (frames : List Frame) (addresses : ℕ → ℕ) (base function : ℕ) (rest rest' : ℕ → Type 0) → ((n : ℕ) → rest n → rest' n) → (newest : ℕ) (handlers : List states.Handler)
      → AreRecords program frames addresses base function rest newest handlers → AreRecords program frames addresses base function rest' newest handlers
  records_map frames addresses base function rest rest' goes newest [] records = goes newest records
  records_map frames addresses base function rest rest' goes newest (states.Caught ∷ handlers) records = absurd records
  records_map frames addresses base function rest rest' goes newest (states.Open index first contents ∷ handlers) (one, others) =
      (one, records_map frames addresses base function rest rest' goes (contents 0) handlers others)

  beyond_waiting : (frames : List Frame) (addresses : ℕ → ℕ) (base function : ℕ) (waiting : List states.Frame) (newest : ℕ) → IsBeyond program frames addresses base function waiting newest
      → IsBeyond program frames addresses base function (with_waiting program waiting a word) newest
  beyond_waiting frames addresses base function [] newest beyond = beyond
  beyond_waiting frames addresses base function (f ∷ waiting) newest beyond =
      go (slot_at program f.caller a) (λ n others. beyond_waiting frames addresses (base + frame_size) f.caller.function waiting n others)
    where
      above : ℕ
      above = base + frame_size

      Others : List states.Frame → ℕ → Type 0
      Others fs n = IsBeyond program frames addresses above f.caller.function fs n

      go : (slot : Option ℕ) → ((n : ℕ) → Others waiting n → Others (with_waiting program waiting a word) n) → IsBeyond program frames addresses base function (put_or slot word f waiting (with_waiting program waiting a word)) newest
      go (Some number) later = beyond
      go None later =
          records_map frames addresses above f.caller.function (Others waiting) (Others (with_waiting program waiting a word)) later newest f.caller.handlers beyond

  newest_waiting : (frames : List Frame) (addresses : ℕ → ℕ) (newest base function : ℕ) (handlers : List states.Handler) (waiting : List states.Frame) → IsNewest program frames addresses newest base function handlers waiting
      → IsNewest program frames addresses newest base function handlers (with_waiting program waiting a word)
  newest_waiting frames addresses newest base function handlers waiting records =
      records_map frames addresses base function (IsBeyond program frames addresses base function waiting) (IsBeyond program frames addresses base function (with_waiting program waiting a word))
      (λ n others. beyond_waiting frames addresses base function waiting n others) newest handlers records

module _ (program : Program) (well : IsWellFormed program) (frames : List Frame) (fit : AreFrames program frames) (addresses : ℕ → ℕ) where
  -- `IsAbove` says that `word` is the word of a waiting call's slot at the address `a`. A write to this slot of a waiting call must
  -- preserve `Chain`, the relation that describes the waiting calls.
  record IsAbove (w : Contents) (base back : ℕ) (left : Words) (function : ℕ) (waiting : List states.Frame) (a word : ℕ) : Type 0 where
    low : base + frame_size ≤ a
    high : a < stack_end
    aligned : a % 4 ≡ 0
    is : w.words a ≡ word
    chain : (new : ℕ) → Chain program frames addresses (written w a new) base back left function (with_waiting program waiting a new)

  is_above : (w : Contents) (base back : ℕ) (left : Words) (function : ℕ) (waiting : List states.Frame) (place a word : ℕ) → Chain program frames addresses w base back left function waiting → AreBased frames base function place waiting
      → word_waiting program waiting a ≡ Some word → IsAbove w base back left function waiting a word
  is_above w base back left function [] place a word chain based found = absurd (let e : None ≡ Some word = found in cc)
  is_above w base back left function (f ∷ waiting) place a word (arguments, count, index, known, at, next, is_back, holds, finds, chain) (here, based) found =
      go (slot_at program f.caller a) refl (λ there. is_above w above its_back (LeftBy its above left w) f.caller.function waiting f.caller.base a word chain based there) found
    where
      above : ℕ
      above = base + frame_size

      its : Frame
      its = frame_at frames f.caller.function

      its_back : ℕ
      its_back = w.words (base + frame_size + 4 * (frame_at frames f.caller.function).return_address)

      lies_there : Lies program frames fit addresses above (suc (length waiting))
      lies_there = chain_lies program frames fit addresses w above its_back (LeftBy its above left w) f.caller.function waiting chain

      frame : IsFrame (routine_at program f.caller.function) its
      frame = fit.each f.caller.function known

      -- If no saved register of a waiting call lies at the written address, the words that this call restores to callee-saved
      -- registers are unchanged.
      left_there : (new : ℕ) → ((j : ℕ) → j < 7 → a ≢ above + 4 * (its.first_saved + j)) → (j : ℕ) → j < 7 → LeftBy its above left (written w a new) j ≡ LeftBy its above left w j
      left_there new apart =
          left_same its.first_saved its.saved above left left w (written w a new) (λ j past high. refl)
          (λ j below high. put-other w.words a (above + 4 * (its.first_saved + j)) new (λ e. apart j high (sym e)))

      -- If the address is that of a slot of the newest waiting call, the slot's word is found in this call's frame.
      here_found : (slot : ℕ) → slot_at program f.caller a ≡ Some slot → f.caller.slots slot ≡ word → IsAbove w base back left function (f ∷ waiting) a word
      here_found slot is value =
          let (address, pinned) = numbered-from (is_pinned (routine_at program f.caller.function).code) f.caller.base a slot is in
          let below : slot < (routine_at program f.caller.function).slots = pinned-inside program well f.caller.function slot pinned in
          let place_is : f.caller.base ≡ above + 4 * its.first_slot = based_here frames above f.caller.function f.caller.base waiting based in
          let a_is : a ≡ above + slot_offset its slot = omega (arith, address, place_is) in
          let inside : slot_word its slot < MOST_FRAME_WORDS = omega (arith, frame.inside slot below, frame.small) in
          let other_word : (new b : ℕ) → b ≢ a → put w.words a new b ≡ w.words b = λ new b apart. put-other w.words a b new apart in
          record {
            low = omega (arith, a_is);
            high = omega (arith, a_is, inside, lies_there.below_end);
            aligned = omega (arith, a_is, lies_there.aligned);
            is = ap w.words a_is ∙ (holds slot below (pinned_kept program frames f.caller.function (fit.homes f.caller.function known) slot pinned) ∙ value);
            chain = λ new.
                subst (λ (o : Option ℕ). Chain program frames addresses (written w a new) base back left function (put_or o new f waiting (with_waiting program waiting a new))) (sym is) (
                  arguments,
                  count,
                  index,
                  known,
                  at,
                  next,
                  is_back,
                  (λ other other_below other_kept. elim (cases_eq other slot) [
                    | inl same ↦
                        ap (put w.words a new) (ap (λ (x : ℕ). above + slot_offset its x) same ∙ sym a_is)
                        ∙ (put-same w.words a new ∙ sym (ap (put f.caller.slots slot new) same ∙ put-same f.caller.slots slot new))
                    | inr apart ↦
                        put-other w.words a (above + slot_offset its other) new (λ e. apart (frame.apart other slot other_below below (omega (arith, e, a_is))))
                        ∙ (holds other other_below other_kept ∙ sym (put-other f.caller.slots slot other new apart))
                  ]),
                  (λ other j high has unwritten live.
                      finds other j high has unwritten live
                      ∙ sym (put-other f.caller.slots slot other new
                      (λ same. unpinned program frames f.caller.function (fit.homes f.caller.function known) slot (17 + j) pinned (ap (value_register its) (sym same) ∙ has)))),
                  subst (λ (b : ℕ). Chain program frames addresses (written w a new) above b (LeftBy its above left (written w a new)) f.caller.function waiting)
                      (sym (put-other w.words a (above + 4 * its.return_address) new (λ e. frame.beside slot below (omega (arith, e, a_is)))))
                      (chain_kept program frames fit addresses w (written w a new) above its_back (LeftBy its above left w) (LeftBy its above left (written w a new)) f.caller.function waiting
                      (λ b from. put-other w.words a b new (λ e. absurd (omega (arith, e, from, a_is, inside))))
                      (left_there new (λ j high e. frame.saved_beside slot j below high (omega (arith, e, a_is)))) chain),
                );
          }

      go : (slot : Option ℕ) → slot_at program f.caller a ≡ slot → (word_waiting program waiting a ≡ Some word → IsAbove w above its_back (LeftBy its above left w) f.caller.function waiting a word)
          → word_or slot f.caller.slots (word_waiting program waiting a) ≡ Some word → IsAbove w base back left function (f ∷ waiting) a word
      go (Some slot) is later there = here_found slot is (let e : Some (f.caller.slots slot) ≡ Some word = there in let same : f.caller.slots slot ≡ word = cc in same)
      go None is later there =
          let rest = later there in
          record {
            low = omega (arith, rest.low);
            high = rest.high;
            aligned = rest.aligned;
            is = rest.is;
            chain = λ new.
                subst (λ (o : Option ℕ). Chain program frames addresses (written w a new) base back left function (put_or o new f waiting (with_waiting program waiting a new))) (sym is) (
                  arguments,
                  count,
                  index,
                  known,
                  at,
                  next,
                  is_back,
                  (λ slot below slot_kept. put-other w.words a (above + slot_offset its slot) new (λ e. absurd (omega (arith, e, rest.low, frame.inside slot below, frame.small))) ∙ holds slot below slot_kept),
                  finds,
                  subst (λ (b : ℕ). Chain program frames addresses (written w a new) above b (LeftBy its above left (written w a new)) f.caller.function (with_waiting program waiting a new))
                      (sym (put-other w.words a (above + 4 * its.return_address) new (λ e. absurd (omega (arith, e, rest.low, frame.return_inside, frame.small)))))
                      (chain_kept program frames fit addresses (written w a new) (written w a new) above its_back (LeftBy its above left w) (LeftBy its above left (written w a new)) f.caller.function (with_waiting program waiting a new) (λ b from. refl)
                      (left_there new (λ j high e. absurd (let inside = frame.saved_inside j high in omega (arith, e, rest.low, inside, frame.small)))) (rest.chain new)),
                );
          }

-- ---- loads and stores by address

module _ (program : Program) (well : IsWellFormed program) (frames : List Frame) (fit : AreFrames program frames) (addresses : ℕ → ℕ) (pages calls : ℕ) (few : calls ≤ 4096)
    (c : Configuration) (r : Words) (w : Contents) (base back : ℕ) (stage : Stage) (s : Standing program frames addresses pages calls c r w base back stage c.active.slots) (a word : ℕ) where
  -- `IsFound` says that the word at an address of the plain program is in the machine's memory. If the machine and the plain program both
  -- write a new word at this address, the machine still represents the plain program's calls.
  pub record IsFound : Type 0 where
    pub sort : Sort
    pub at : IsWordAt sort globals_length (words_per_call * calls) w a word
    pub standing : (new : ℕ) → IsWord new
        → Standing program frames addresses pages calls (with_memory program c a new) r (placed sort w a new) base back stage (with_memory program c a new).active.slots
    -- A write through an address of the plain program does not change a slot that has a register.
    pub values : (new slot k : ℕ) → value_register (frame_at frames c.active.function) slot ≡ Some k → (with_memory program c a new).active.slots slot ≡ c.active.slots slot

  abbrev Stands : Configuration → Contents → Type 0
  Stands d v = Standing program frames addresses pages calls d r v base back stage d.active.slots

  own : IsFrame (routine_at program c.active.function) (frame_at frames c.active.function)
  own = fit.each c.active.function s.known

  lie : Lies program frames fit addresses base (suc (length c.frames))
  lie = lies program well frames fit addresses pages calls few c r w base back stage c.active.slots s

  place_is : c.active.base ≡ base + 4 * (frame_at frames c.active.function).first_slot
  place_is = based_here frames base c.active.function c.active.base c.frames s.based

  -- A load from the address of a global reads the word of this global in the machine's data range.
  global_found : (number : ℕ) → range_of a ≡ OfGlobals → global_at program a ≡ Some number → c.globals number ≡ word → IsFound
  global_found number is at value =
      let (address, asked) = numbered-from (λ (n : ℕ). nat_lt n (length program.globals)) GLOBALS_BASE a number at in
      let below : number < length program.globals = ltb-true number (length program.globals) asked in
      let writes : (new : ℕ) → with_memory program c a new ≡ record c { globals = put c.globals number new } =
      λ new. ap (with_word program c a new) is ∙ ap (λ (o : Option ℕ). with_global c o new) at in
      record {
        sort = OfCell;
        at = (
          subst (IsCell globals_length (words_per_call * calls)) (sym address) (global_cell program well frames fit addresses pages calls few c r w base back stage c.active.slots s number below),
          ap w.words address ∙ (s.globals number below ∙ value),
        );
        standing = λ new is_word.
            subst (λ (d : Configuration). Stands d (written w a new)) (sym (writes new))
            (subst (λ (x : ℕ). Stands (record c { globals = put c.globals number new }) (written w x new)) (sym address)
            (standing_global program well frames fit addresses pages calls few c r w base back stage c.active.slots s number new below));
        values = λ new slot k has. ap (λ (d : Configuration). d.active.slots slot) (writes new);
      }

  -- A load from the address of a slot of the active call reads this slot's word in the machine's stack.
  slot_found : (slot : ℕ) → range_of a ≡ OfSlots → slot_at program c.active a ≡ Some slot → c.active.slots slot ≡ word → IsFound
  slot_found slot is at value =
      let its : Frame = frame_at frames c.active.function in
      let (address, pinned) = numbered-from (is_pinned (routine_at program c.active.function).code) c.active.base a slot at in
      let below : slot < (routine_at program c.active.function).slots = pinned-inside program well c.active.function slot pinned in
      let a_is : a ≡ base + slot_offset its slot = omega (arith, address, place_is) in
      let d : ℕ → Configuration = λ (new : ℕ). record c { active = record c.active { slots = put c.active.slots slot new } } in
      let writes : (new : ℕ) → with_memory program c a new ≡ d new =
      λ new. ap (with_word program c a new) is ∙ ap (λ (o : Option ℕ). with_slot program c o a new) at in
      record {
        sort = OfCell;
        at = (
          subst (IsCell globals_length (words_per_call * calls)) (sym a_is)
              (word_cell program well frames fit addresses pages calls few c r w base back stage c.active.slots s (slot_word its slot) (omega (arith, own.inside slot below, own.small))),
          ap w.words a_is ∙ (s.holds slot below (pinned_kept program frames c.active.function (fit.homes c.active.function s.known) slot pinned) ∙ value),
        );
        standing = λ new is_word.
            subst (λ (e : Configuration). Stands e (written w a new)) (sym (writes new))
            (subst (λ (x : ℕ). Stands (d new) (written w x new)) (sym a_is)
            (standing_at program well frames fit addresses pages calls few c r (written w (base + slot_offset its slot) new) base back stage (put c.active.slots slot new)
            (standing_slot program well frames fit addresses pages calls few c r w base back stage c.active.slots s slot new below) (d new) refl refl refl refl refl refl s.input));
        values = λ new other k has.
            ap (λ (e : Configuration). e.active.slots other) (writes new)
            ∙ put-other c.active.slots slot other new
            (λ same. unpinned program frames c.active.function (fit.homes c.active.function s.known) slot k pinned (ap (value_register (frame_at frames c.active.function)) (sym same) ∙ has));
      }

  -- A load from the address of a waiting call's slot reads this slot's word in the machine's stack.
  waiting_found : range_of a ≡ OfSlots → slot_at program c.active a ≡ None → word_waiting program c.frames a ≡ Some word → IsFound
  waiting_found is none there =
      let its : Frame = frame_at frames c.active.function in
      let above = is_above program well frames fit addresses w base back s.left c.active.function c.frames c.active.base a word s.chain s.based there in
      let d : ℕ → Configuration = λ (new : ℕ). record c { frames = with_waiting program c.frames a new } in
      let writes : (new : ℕ) → with_memory program c a new ≡ d new =
      λ new. ap (with_word program c a new) is ∙ ap (λ (o : Option ℕ). with_slot program c o a new) none in
      record {
        sort = OfCell;
        at = (inr (above.aligned, omega (arith, above.low, lie.above_low, s.deep), above.high), above.is);
        standing = λ new is_word.
            subst (λ (e : Configuration). Stands e (written w a new)) (sym (writes new)) (record {
              known = s.known;
              base_is = s.base_is;
              zero_is = s.zero_is;
              lowest = s.lowest;
              deep = subst (λ (n : ℕ). suc n ≤ calls) (sym (length-waiting program c.frames a new)) s.deep;
              holds = λ slot below slot_kept.
                  put-other w.words a (base + slot_offset its slot) new (λ e. absurd (omega (arith, e, above.low, own.inside slot below, own.small)))
                  ∙ s.holds slot below slot_kept;
              left = s.left;
              chain = above.chain new;
              leaves = λ j high.
                  left_same its.first_saved (saved_at stage its) base (preserved_of r) (preserved_of r) w (written w a new) (λ i past small. refl)
                  (λ i below small. put-other w.words a (base + 4 * (its.first_saved + i)) new (λ e. absurd (let inside = own.saved_inside i small in omega (arith, e, above.low, inside, own.small)))) j high
                  ∙ s.leaves j high;
              globals = λ global below.
                  put-other w.words a (data_base + 4 * global) new (λ e. absurd (omega (arith, e, above.low, below, well.globals, lie.above_low, s.deep)))
                  ∙ s.globals global below;
              input = s.input;
              newest = newest_waiting program a new frames addresses (r HANDLERS) base c.active.function c.active.handlers c.frames s.newest;
              way = back_in (in_frame_at stage) its r w (written w a new) base back
                  (put-other w.words a (base + 4 * its.return_address) new (λ e. absurd (omega (arith, e, above.low, own.return_inside, own.small)))) s.way;
              based = based_waiting program a new frames base c.active.function c.active.base c.frames s.based;
              store = s.store;
              laid = s.laid;
              counted = s.counted;
              middle = s.middle;
            });
        values = λ new slot k has. ap (λ (e : Configuration). e.active.slots slot) (writes new);
      }

  pub is_found : memory_at program c a ≡ Some word → IsFound
  is_found found = by_range (range_of a) refl found
    where
      some_same : (n : ℕ) → Some n ≡ Some word → n ≡ word
      some_same n e = cc

      of_global : (number : Option ℕ) → global_at program a ≡ number → range_of a ≡ OfGlobals → word_or number c.globals None ≡ Some word → IsFound
      of_global (Some number) at is there = global_found number is at (some_same (c.globals number) there)
      of_global None at is there = absurd (let e : None ≡ Some word = there in cc)

      of_slot : (slot : Option ℕ) → slot_at program c.active a ≡ slot → range_of a ≡ OfSlots → word_or slot c.active.slots (word_waiting program c.frames a) ≡ Some word → IsFound
      of_slot (Some slot) at is there = slot_found slot is at (some_same (c.active.slots slot) there)
      of_slot None at is there = waiting_found is at there

      by_range : (range : Range) → range_of a ≡ range → word_in program c a range ≡ Some word → IsFound
      by_range OfGlobals is there = of_global (global_at program a) refl is there
      by_range OfStore is there =
          let lives = laid_live pages c.store a word s.laid there in
          record {
            sort = OfBlock;
            at = (subst (λ (x : StoreState). IsLive x a word) (sym s.store) lives.0, lives.1);
            standing = λ new is_word.
                subst (λ (d : Configuration). Stands d (saved_in w a new)) (sym (ap (with_word program c a new) is))
                (standing_saved program well frames fit addresses pages calls few c r w base back stage c.active.slots s a new is_word);
            values = λ new slot k has. ap (λ (d : Configuration). d.active.slots slot) (ap (with_word program c a new) is);
          }
      by_range OfSlots is there = of_slot (slot_at program c.active a) refl is there
