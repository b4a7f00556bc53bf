-- The simulation of instructions that move several words, and of those that load and store words of memory.
use Rattle.std.proofs.Common.{◌≡◌, ◌≢◌, ℕ, zero, suc, ◌+◌, ◌*◌, ◌%◌, ◌^◌, ◌<◌, ◌≤◌, Bool, true, false, List, [], ◌∷◌, ◌++◌, length, Option, None, Some, refl, sym, ap, subst, ◌∙◌, arith, inl, inr}
use Rattle.std.specs.Prelude.{◌||◌, ◌&&◌, if◌then◌else◌}
use Rattle.std.proofs.lemmas.Bool.{and_from, eqb-true, or_left, or_right, or_parts}
use Rattle.cyc_words.specs.Word.{IsWord, add_of, sign_extended}
use Rattle.cyc_words.proofs.WordLemmas.{sign_extended_low}
use Rattle.cyc_words.proofs.Numbers.{remainder_below_32, eqb_next}
use Rattle.cyc_plain.specs.inside.Uses.{is_among, is_slot, leads, reads, writes}
use Rattle.cyc_registers.specs.inside.Bars.{is_crossing}
use Rattle.cyc_isa.specs.Effect.{memory_address}
use Rattle.cyc_isa.specs.declared.instr.Instr.{Instr}
use Rattle.cyc_isa.specs.Decoding.{register_of}
use Rattle.cyc_machine_model.specs.State.{globals_length, words_per_call}
use Rattle.cyc_machine_model.specs.declared.constants.TheConstants.{RETURN_ADDRESS}
use Rattle.cyc_plain.specs.declared.instruction.Instruction.{Instruction}
use Rattle.cyc_plain.specs.declared.instruction.Instruction.TheVariants as plain
use Rattle.cyc_plain.specs.declared.instruction.Operand.{Operand}
use Rattle.cyc_plain.specs.declared.instruction.Operand.TheVariants as operands
use Rattle.cyc_plain.specs.inside.Program.{Program, routine_at}
use Rattle.cyc_plain.specs.inside.State as states
use Rattle.cyc_plain.specs.inside.Memory.{memory_at, with_memory}
use Rattle.cyc_plain.specs.inside.State.{Words, put, copied, Configuration}
use Rattle.cyc_plain.specs.inside.Step.{advanced, gives, instruction_at, operand_word, performed, loads, saves, loads_byte, saves_byte, is_within}
use Rattle.cyc_plain.specs.inside.WellFormed.{IsOperand, IsOfWord, IsWellFormed, IsMoveInRange}
use Rattle.cyc_plain.proofs.MemoryLaws.{memory-left}
use Rattle.cyc_plain.proofs.SlotLaws.{put-same, put-other, copied-below, copied-above}
use Rattle.cyc_plain.proofs.RunLaws.{zeros, zeros_at, calls_nothing, limit_free}
use Rattle.cyc_registers.specs.inside.Interference.{AreHomes}
use Rattle.cyc_frame.specs.inside.Layout.{AreFrames, frame_at}
use Rattle.cyc_frame.specs.inside.Frame.{Frame}
use Rattle.cyc_select.specs.declared.constants.TheConstants.{FIRST, SECOND, ZERO, LOWEST, FRAME, HANDLERS, REGIONS, GLOBALS}
use Rattle.cyc_select.specs.inside.Labelled.{Labelled, IsFormed}
use Rattle.cyc_select.specs.inside.Machine as labelled
use Rattle.cyc_select.specs.inside.Machine.{State, Running}
use Rattle.cyc_select.specs.inside.Numbers.{fits_signed}
use Rattle.cyc_select.specs.inside.Instructions.{slot_offset}
use Rattle.cyc_select.specs.inside.Slots.{value_register, is_kept, made_in, keep_code, load_words, store_all, result_registers}
use Rattle.cyc_select.specs.inside.Operands.{keep_count, moves_count, operand_code, operand_register, operation_of, far_plan, address_code, address_register, near_half, at_address, address_count, operand_count}
use Rattle.cyc_select.specs.inside.Counts.{move_words_count, body_count, instruction_line, count_of}
use Rattle.cyc_select.specs.inside.Selection.{ordinary, all_moved, moves, body, load_at, store_at}
use Rattle.cyc_select.proofs.values.Blocks.{ValuesSame, all_same, lasting_same, Keeps, puts_keeps}
use Rattle.cyc_select.proofs.relation.Cells.{IsCell}
use Rattle.cyc_select.proofs.values.Computing.{IsHeld, operand_puts, operation_leaves, not_second, first_scratch, second_scratch, first_aside, second_aside, scratch_writable, made_scratch}
use Rattle.cyc_select.proofs.emission.Counts.{length_operand, length_address, length_words, length_stores, length_moves, moves_some, length_registers}
use Rattle.cyc_select.proofs.values.Halves.{fits_is}
use Rattle.cyc_select.proofs.relation.Held.{operand_held, operand_is_word}
use Rattle.cyc_select.proofs.layout.Lines.{line_next}
use Rattle.cyc_select.proofs.relation.Matches.{After, At, Reached, reached, result_register, within}
use Rattle.cyc_select.proofs.steps.Moves.{is_ahead, moved, moved_copied, are_moved}
use Rattle.cyc_select.proofs.steps.Trailing.{same_slots, stored}
use Rattle.cyc_select.proofs.steps.Simple.{Agrees, gets, gives_made}
use Rattle.cyc_select.proofs.relation.Standing.{under_way, Standing, slot_cell, slot_word_is, standing_registers, standing_at, stage_of}
use Rattle.cyc_select.proofs.relation.Places.{Sort, OfBlock, OfCell, IsWordAt, placed, walk_read, walk_write, is_found}
use Rattle.cyc_select.proofs.relation.Values.{Caches, caches_past, moved_caches, unbarred, barred_kept, among, not_among}
use Rattle.cyc_select.proofs.effects.Views.{Contents, Width, OneWord, OneByte, load_op, store_op, word_place, loaded_part, stored_word}
use Rattle.cyc_select.proofs.effects.Sequences.{stored_is_word, Stands, stands_first, stands_after, after_r, after_w}
use Rattle.cyc_select.proofs.effects.Walks.{Walk, now_at, now_is, walk_end, walk_few, walk_from, walk_block}

-- ---- several words loaded into registers

module _ (globals stack : ℕ) (frame : Frame) (r : Words) (w : Contents) (slots : Words) (source number : ℕ)
    (cell : (slot : ℕ) → slot < number → IsCell globals stack (memory_address (r FRAME) (slot_offset frame slot)))
    (kept : ℕ → Type 0) (word_is : (slot : ℕ) → slot < number → kept slot → w.words (memory_address (r FRAME) (slot_offset frame slot)) ≡ slots slot) where
  -- `AreTaken` says that after the lines that load slots into the result registers, these registers hold the words of the slots.
  record AreTaken (count : ℕ) : Type 0 where
    pub keeps : Keeps globals stack (load_words frame source (result_registers count)) r w FIRST
    pub taken : (k : ℕ) → k < count → after_r (load_words frame source (result_registers count)) r w (result_register k) ≡ slots (source + k)

  word_of : (slot k : ℕ) → slot ≡ source + k → slot < number → kept slot → w.words (memory_address (r FRAME) (slot_offset frame slot)) ≡ slots (source + k)
  word_of slot k is below there = word_is slot below there ∙ ap slots is

  one_taken : (k : ℕ) (q : Words) → k < 1 → q 2 ≡ slots (source + 0) → q (result_register k) ≡ slots (source + k)
  one_taken zero q below a = a
  one_taken (suc k) q below a = absurd (omega (arith, below))

  two_taken : (k : ℕ) (q : Words) → k < 2 → q 2 ≡ slots (source + 0) → q 3 ≡ slots (source + 1) → q (result_register k) ≡ slots (source + k)
  two_taken zero q below a b = a
  two_taken (suc zero) q below a b = b
  two_taken (suc (suc k)) q below a b = absurd (omega (arith, below))

  three_taken : (k : ℕ) (q : Words) → k < 3 → q 2 ≡ slots (source + 0) → q 3 ≡ slots (source + 1) → q 5 ≡ slots (source + 2) → q (result_register k) ≡ slots (source + k)
  three_taken zero q below a b d = a
  three_taken (suc zero) q below a b d = b
  three_taken (suc (suc zero)) q below a b d = d
  three_taken (suc (suc (suc k))) q below a b d = absurd (omega (arith, below))

  other_kept : (q : Words) (n at word : ℕ) → 6 ≤ n → at < 6 → put q at word n ≡ q n
  other_kept q n at word low small = put-other q at n word (λ e. absurd (omega (arith, e, low, small)))

  are_taken : (count : ℕ) → count ≤ 3 → source + count ≤ number → ((slot : ℕ) → source ≤ slot → slot < source + count → kept slot) → AreTaken count
  are_taken zero few fits there = record {
    keeps = record { safe = tt; memory = refl; zero = refl; base = refl; lowest = refl; back = refl; lasts = refl; values = λ n low high other. refl };
    taken = λ k below. absurd (omega (arith, below));
  }
  are_taken (suc zero) few fits there = record {
    keeps = record { safe = ((refl, cell source (omega (arith, fits))), tt); memory = refl; zero = refl; base = refl; lowest = refl; back = refl; lasts = refl; values = λ n low high other. other_kept r n 2 _ low (omega arith) };
    taken = λ k below. one_taken k (after_r (load_words frame source (result_registers 1)) r w) below (word_of source 0 (omega arith) (omega (arith, fits)) (there source (omega arith) (omega arith)));
  }
  are_taken (suc (suc zero)) few fits there = record {
    keeps = record {
      safe = ((refl, cell source (omega (arith, fits))), ((refl, cell (suc source) (omega (arith, fits))), tt));
      memory = refl;
      zero = refl;
      base = refl;
      lowest = refl;
      back = refl;
      lasts = refl;
      values = λ n low high other. other_kept (put r 2 _) n 3 _ low (omega arith) ∙ other_kept r n 2 _ low (omega arith);
    };
    taken = λ k below.
        two_taken k (after_r (load_words frame source (result_registers 2)) r w) below (word_of source 0 (omega arith) (omega (arith, fits)) (there source (omega arith) (omega arith)))
        (word_of (suc source) 1 (omega arith) (omega (arith, fits)) (there (suc source) (omega arith) (omega arith)));
  }
  are_taken (suc (suc (suc zero))) few fits there = record {
    keeps = record {
      safe = ((refl, cell source (omega (arith, fits))), ((refl, cell (suc source) (omega (arith, fits))), ((refl, cell (suc (suc source)) (omega (arith, fits))), tt)));
      memory = refl;
      zero = refl;
      base = refl;
      lowest = refl;
      back = refl;
      lasts = refl;
      values = λ n low high other. other_kept (put (put r 2 _) 3 _) n 5 _ low (omega arith) ∙ (other_kept (put r 2 _) n 3 _ low (omega arith) ∙ other_kept r n 2 _ low (omega arith));
    };
    taken = λ k below.
        three_taken k (after_r (load_words frame source (result_registers 3)) r w) below (word_of source 0 (omega arith) (omega (arith, fits)) (there source (omega arith) (omega arith)))
        (word_of (suc source) 1 (omega arith) (omega (arith, fits)) (there (suc source) (omega arith) (omega arith))) (word_of (suc (suc source)) 2 (omega arith) (omega (arith, fits)) (there (suc (suc source)) (omega arith) (omega arith)));
  }
  are_taken (suc (suc (suc (suc count)))) few fits there = absurd (omega (arith, few))

-- ---- addresses

module _ (globals stack : ℕ) (frame : Frame) (base : ℕ) (w : Contents) (r slots : Words) (q : Words) (m : Contents) (zero_is : q ZERO ≡ 0) (same : q FRAME ≡ base) (memory : m ≡ w) (values : ValuesSame q r) where
  -- `IsAddressed` says that after the instructions in the list `is`, the sum of a register and an immediate is the accessed address.
  record IsAddressed (is : List Instr) (register half address : ℕ) : Type 0 where
    pub keeps : Keeps globals stack is q m FIRST
    pub comes : memory_address (after_r is q m (register % 32)) half ≡ address

  -- The register that holds the address is not the register that holds the word to be stored.
  not_in_second : (address : Operand) (offset : ℕ) → IsHeld globals stack frame base w r slots address → address_register frame address offset % 32 ≢ SECOND
  not_in_second address offset held = go (fits_signed offset)
    where
      go : (b : Bool) → (if b then operand_register frame FIRST address else FIRST) % 32 ≢ SECOND
      go true = not_second globals stack frame base w r slots q m zero_is same memory values address held
      go false = λ e. absurd (omega (arith, e))

  is_addressed : (address : Operand) (offset : ℕ) → IsHeld globals stack frame base w r slots address → IsWord offset
      → IsAddressed (address_code frame address offset) (address_register frame address offset) (near_half offset) (add_of (operand_word slots address) offset)
  is_addressed address offset held is_word = go (fits_signed offset) refl
    where
      near : List Instr
      near = operand_code frame FIRST address

      far : List Instr
      far = operation_of frame FIRST (far_plan address offset)

      whole : (n : ℕ) → add_of (add_of n offset) (sign_extended 0) ≡ add_of n offset
      whole n = ap (add_of (add_of n offset)) (sign_extended_low 0 (omega arith)) ∙ (let e : add_of (add_of n offset) 0 ≡ add_of n offset = omega arith in e)

      go : (b : Bool) → fits_signed offset ≡ b
          → IsAddressed (if b then near else far) (if b then operand_register frame FIRST address else FIRST) (if b then offset % 2 ^ 16 else 0) (add_of (operand_word slots address) offset)
      go true fits =
          let puts = operand_puts globals stack frame base w r slots q m zero_is same memory values FIRST refl address held in
          record {
            keeps = puts_keeps globals stack near q m FIRST _ _ FIRST (first_scratch globals stack) (first_aside globals stack FIRST) puts;
            comes = ap (λ (x : ℕ). memory_address x (offset % 2 ^ 16)) puts.result ∙ ap (add_of (operand_word slots address)) (fits_is offset is_word fits);
          }
      go false fits =
          let leaves = operation_leaves globals stack frame base w r slots q m zero_is same memory values FIRST (first_scratch globals stack) (far_plan address offset) held is_word tt in
          record { keeps = leaves.keeps; comes = ap (λ (x : ℕ). memory_address x 0) leaves.result ∙ whole (operand_word slots address) }

module _ (program : Program) (well : IsWellFormed program) (frames : List Frame) (fit : AreFrames program frames) (code : Labelled) (formed : IsFormed code) (addresses : ℕ → ℕ) (pages calls : ℕ) (few : calls ≤ 4096)
    (c : Configuration)
    (run : labelled.Configuration) (r : Words) (w : Contents) (base back : ℕ)
    (now : At program well frames fit code formed addresses pages calls few (instruction_line program frames c.active.function c.active.next) c.output c.input r w run)
    (s : Standing program frames addresses pages calls c r w base back (stage_of frames c) c.active.slots)
    (caches : Caches program frames c.active.function c.active.next r c.active.slots) where
  abbrev here : ℕ
  here = instruction_line program frames c.active.function c.active.next

  abbrev frame : Frame
  frame = frame_at frames c.active.function

  abbrev slots : ℕ
  slots = (routine_at program c.active.function).slots

  abbrev Goes : (least lo hi : ℕ) → State → Type 0
  Goes least lo hi t = Walk code formed addresses globals_length (words_per_call * calls) least lo hi c.output (After program pages calls c) (Reached program well frames fit code formed addresses pages calls few c) t

  abbrev AtNow : ℕ → (output input : List ℕ) → Words → Contents → labelled.Configuration → Type 0
  AtNow line output input q m d = At program well frames fit code formed addresses pages calls few line output input q m d

  abbrev IsAt : Instruction → Type 0
  IsAt i = instruction_at program (states.place_of (states.Running c)) ≡ Some i

  abbrev IsThere : Operand → Type 0
  IsThere o = IsOperand (routine_at program c.active.function) o × IsOfWord o

  abbrev word_in : Operand → ℕ
  word_in o = operand_word c.active.slots o

  cell_at : (slot : ℕ) → slot < slots → IsCell globals_length (words_per_call * calls) (memory_address (r FRAME) (slot_offset frame slot))
  cell_at slot below = slot_cell program well frames fit addresses pages calls few c r w base back (stage_of frames c) c.active.slots s slot below

  slot_is : (slot : ℕ) → slot < slots → is_kept frame slot ≡ true → w.words (memory_address (r FRAME) (slot_offset frame slot)) ≡ c.active.slots slot
  slot_is slot below kept = slot_word_is program well frames fit addresses pages calls few c r w base back (stage_of frames c) c.active.slots s slot below kept

  homes_right : AreHomes program (routine_at program c.active.function) (frame_at frames c.active.function).saved (frame_at frames c.active.function).homes
  homes_right = fit.homes c.active.function s.known

  abbrev Held : Operand → Type 0
  Held o = IsHeld globals_length (words_per_call * calls) frame (r FRAME) w r c.active.slots o

  held : (i : Instruction) → IsAt i → (o : Operand) → ((slot : ℕ) → is_slot o slot ≡ true → reads (routine_at program c.active.function).results i slot ≡ true) → IsThere o → Held o
  held i at_i o used there = operand_held program well frames fit code formed addresses pages calls few c run r w base back now s caches i at_i o used there

  -- ---- several words

  -- If a move loads all its words before it stores them, no destination slot has a register.
  moved_apart : (destination source count : ℕ) → IsAt (plain.MoveWords destination source count) → is_crossing destination source count ≡ true → (slot k : ℕ) → value_register frame slot ≡ Some k
      → (is_among destination count slot ≡ false) × (copied c.active.slots source count c.active.slots destination slot ≡ c.active.slots slot)
  moved_apart destination source count at_i crossing slot k has =
      let none = unbarred program frames c.active.function homes_right c.active.next slot k (plain.MoveWords destination source count) at_i has in
      let both : (is_among destination count slot || is_among source count slot) ≡ false =
      subst (λ (b : Bool). (b && (is_among destination count slot || is_among source count slot)) ≡ false) crossing none in
      let apart = (or_parts (is_among destination count slot) (is_among source count slot) both).0 in (
        apart,
        elim (not_among destination count slot apart) [
          | inl below ↦ copied-below c.active.slots c.active.slots source count destination slot below
          | inr above ↦ copied-above c.active.slots c.active.slots source count destination slot above
        ],
      )

  -- `IsCounted` says that the MIPS lines counted for an instruction are all lines of its code, not 0 as for an
  -- instruction without machine code.
  abbrev pub IsCounted : Instruction → Type 0
  IsCounted i = count_of program frames c.active.function c.active.next i ≡ body_count program frames c.active.function i

  counted_by : (destination source count : ℕ) (b : Bool) → is_crossing destination source count ≡ b
      → move_words_count frame destination source count ≡ (if b then 2 * length (result_registers count) else moves_count frame destination source count)
  counted_by destination source count b is = ap (λ (a : Bool). if a then 2 * length (result_registers count) else moves_count frame destination source count) is

  all_goes : (destination source count : ℕ) → IsAt (plain.MoveWords destination source count) → IsMoveInRange (routine_at program c.active.function) destination source count
      → is_crossing destination source count ≡ true → IsCounted (plain.MoveWords destination source count)
      → Stands code here (ordinary (all_moved frame destination source count)) → Goes 1 here (here + 2 * length (result_registers count)) (Running run)
  all_goes destination source count at_i in_range crossing all_counted stands =
      let registers : List ℕ = result_registers count in
      let is : List Instr = load_words frame source (result_registers count) in
      let js : List Instr = store_all frame destination (result_registers count) in
      let q : Words = after_r is r w in
      let v : Contents = after_w is r w in
      let long : length is ≡ length registers = length_words frame source registers in
      let also : length js ≡ length registers = length_stores frame destination registers in
      let some = length_registers count in_range.few in
      let hi : ℕ = here + 2 * length registers in
      let take = are_taken globals_length (words_per_call * calls) frame r w c.active.slots source slots cell_at (λ slot. is_kept frame slot ≡ true) slot_is count in_range.few in_range.source_in_range
      (λ slot from below. barred_kept program frames c.active.function homes_right c.active.next slot (plain.MoveWords destination source count) at_i
      (and_from (is_crossing destination source count) (is_among destination count slot || is_among source count slot) crossing (or_right (is_among destination count slot) (is_among source count slot) (among source count slot from below)))) in
      let in_q = standing_registers program well frames fit addresses pages calls few c r w base back (stage_of frames c) c.active.slots s q take.keeps.zero take.keeps.base take.keeps.lowest (λ outside. take.keeps.back) take.keeps.lasts
      (λ j past high. all_same q r take.keeps.values (17 + j) (omega arith) (omega (arith, high))) in
      let in_v = subst (λ (x : Contents). Standing program frames addresses pages calls c q x base back (stage_of frames c) c.active.slots) (sym take.keeps.memory) in_q in
      let puts = stored program well frames fit addresses pages calls few c q base back (stage_of frames c) destination source c.active.slots c.active.slots count v in_range.few in_range.destination_in_range take.taken in_v in
      let m : Contents = after_w js q v in
      let there : Words = copied c.active.slots source count c.active.slots destination in
      let d : Configuration = record c { active = record c.active { next = c.active.next + 1; slots = copied c.active.slots source count c.active.slots destination } } in
      let at_d = standing_at program well frames fit addresses pages calls few c q m base back (stage_of frames c) there puts.2 d refl refl refl refl refl refl s.input in
      let line : here + length is + length js ≡ instruction_line program frames c.active.function (c.active.next + 1) = omega (arith, line_next program frames c.active.function c.active.next (plain.MoveWords destination source count) at_i, all_counted, counted_by destination source count true crossing, long, also) in
      walk_few code formed addresses globals_length (words_per_call * calls) 1 (length is + (length js + 0)) here hi c.output _ (Running run) (omega (arith, long, also, some, in_range.some))
      (walk_block code formed addresses globals_length (words_per_call * calls) is (length js + 0) here here hi c.output c.input _ r w run now (stands_first code here is js stands) take.keeps.safe (omega arith)
      (λ e before.
      walk_block code formed addresses globals_length (words_per_call * calls) js 0 (here + length is) (here + length is) hi c.output c.input _ q v e before (stands_after code here is js stands) puts.0 (omega arith)
      (λ f later.
      walk_end code formed addresses globals_length (words_per_call * calls) (here + length is + length js) hi c.output _ (Running f) (omega (arith, long, also))
      (reached program well frames fit code formed addresses pages calls few c zeros (plain.MoveWords destination source count) (states.Running d) (Running f) (zeros_at program c (plain.MoveWords destination source count) at_i refl) at_i refl
      (within program well frames fit code formed addresses pages calls few d s.laid.paged s.deep)
      (inl (record {
        run = f;
        r = q;
        w = m;
        base = base;
        back = back;
        is = refl;
        now = now_at code formed addresses globals_length (words_per_call * calls) (here + length is + length js) (instruction_line program frames c.active.function (c.active.next + 1)) c.output c.input q m f line
            (now_is code formed addresses globals_length (words_per_call * calls) (here + length is + length js) c.output c.input (after_r js q v) m q m f puts.1 refl later);
        standing = at_d;
        caches =
            caches_past program frames c.active.function homes_right c.active.next (c.active.next + 1) r q c.active.slots there (plain.MoveWords destination source count) at_i (eqb_next c.active.next)
            (λ slot k has. (moved_apart destination source count at_i crossing slot k has).0) (λ slot k has. (moved_apart destination source count at_i crossing slot k has).1) (all_same q r take.keeps.values) caches;
      }))))))

  -- The labelled machine (MIPS lines) simulates a move of several words if the words are moved one by one.
  each_goes : (destination source count : ℕ) → IsAt (plain.MoveWords destination source count) → IsMoveInRange (routine_at program c.active.function) destination source count
      → is_crossing destination source count ≡ false → IsCounted (plain.MoveWords destination source count)
      → Stands code here (ordinary (moves frame destination source count)) → Goes 1 here (here + moves_count frame destination source count) (Running run)
  each_goes destination source count at_i in_range apart all_counted stands =
      let is : List Instr = moves frame destination source count in
      let q : Words = after_r is r w in
      let m : Contents = after_w is r w in
      let long : length is ≡ moves_count frame destination source count = length_moves frame destination source count in
      let hi : ℕ = here + moves_count frame destination source count in
      let ahead = is_ahead destination source count apart in
      let moves_them = are_moved program well frames fit addresses pages calls few c base back (frame_at frames c.active.function).saves homes_right destination source count r w c.active.slots s
      in_range.destination_in_range in_range.source_in_range ahead
      (λ i j k before below has there.
      ahead i j before below
      (homes_right.moved c.active.next destination source count (source + j) (destination + i) k at_i
      (among source count (source + j) (omega arith) (omega (arith, below))) (among destination count (destination + i) (omega arith) (omega (arith, before, below))) there has))
      (λ j k below has. caches (source + j) k has (0, (plain.MoveWords destination source count, at_i, among source count (source + j) (omega arith) (omega (arith, below)))))
      (λ j below.
      operand_is_word program well frames fit code formed addresses pages calls few c run r w base back now s caches (operands.Slot (source + j))
      (held (plain.MoveWords destination source count) at_i (operands.Slot (source + j))
      (λ slot is. subst (λ (n : ℕ). is_among source count n ≡ true) (eqb-true (source + j) slot is) (among source count (source + j) (omega arith) (omega (arith, below))))
      ((omega (arith, below, in_range.source_in_range)), tt))) in
      let there : Words = copied c.active.slots source count c.active.slots destination in
      let d : Configuration = record c { active = record c.active { next = c.active.next + 1; slots = copied c.active.slots source count c.active.slots destination } } in
      let in_place = same_slots program well frames fit addresses pages calls few c q base back (stage_of frames c) destination source c.active.slots c.active.slots m
      (moved c.active.slots destination source count) there (moved_copied c.active.slots destination source count ahead) moves_them.standing in
      let at_d = standing_at program well frames fit addresses pages calls few c q m base back (stage_of frames c) there in_place d refl refl refl refl refl refl s.input in
      let line : here + length is ≡ instruction_line program frames c.active.function (c.active.next + 1) =
      omega (arith, line_next program frames c.active.function c.active.next (plain.MoveWords destination source count) at_i, all_counted, counted_by destination source count false apart, long) in
      walk_few code formed addresses globals_length (words_per_call * calls) 1 (length is + 0) here hi c.output _ (Running run) (omega (arith, long, moves_some frame destination source count in_range.some))
      (walk_block code formed addresses globals_length (words_per_call * calls) is 0 here here hi c.output c.input _ r w run now stands moves_them.safe (omega arith)
      (λ f later.
      walk_end code formed addresses globals_length (words_per_call * calls) (here + length is) hi c.output _ (Running f) (omega (arith, long))
      (reached program well frames fit code formed addresses pages calls few c zeros (plain.MoveWords destination source count) (states.Running d) (Running f) (zeros_at program c (plain.MoveWords destination source count) at_i refl) at_i refl
      (within program well frames fit code formed addresses pages calls few d s.laid.paged s.deep)
      (inl (record {
        run = f;
        r = q;
        w = m;
        base = base;
        back = back;
        is = refl;
        now = now_at code formed addresses globals_length (words_per_call * calls) (here + length is) (instruction_line program frames c.active.function (c.active.next + 1)) c.output c.input q m f line later;
        standing = at_d;
        caches = moved_caches program frames c.active.function homes_right c.active.next destination source count r q c.active.slots at_i moves_them.given moves_them.others caches;
      })))))

  pub move_words_goes : (destination source count : ℕ) → IsAt (plain.MoveWords destination source count) → IsMoveInRange (routine_at program c.active.function) destination source count
      → IsCounted (plain.MoveWords destination source count)
      → Stands code here (body program frames c.active.function here (plain.MoveWords destination source count)) → Goes 1 here (here + body_count program frames c.active.function (plain.MoveWords destination source count)) (Running run)
  move_words_goes destination source count at_i in_range all_counted stands = go (is_crossing destination source count) refl stands
    where
      go : (b : Bool) → is_crossing destination source count ≡ b
          → Stands code here (ordinary (if b then all_moved frame destination source count else moves frame destination source count))
          → Goes 1 here (here + (if b then 2 * length (result_registers count) else moves_count frame destination source count)) (Running run)
      go true crossing stands_here = all_goes destination source count at_i in_range crossing all_counted stands_here
      go false apart stands_here = each_goes destination source count at_i in_range apart all_counted stands_here

  -- ---- a load

  -- `IsLoad` describes an instruction that loads a word or a byte.
  record IsLoad (width : Width) (i : Instruction) (destination : ℕ) (address : Operand) (offset : ℕ) : Type 0 where
    pub at : IsAt i
    pub free : calls_nothing i ≡ true
    pub needs : (slot : ℕ) → is_slot address slot ≡ true → reads (routine_at program c.active.function).results i slot ≡ true
    pub given : ((slot : ℕ) → slot ≢ destination → writes program i slot ≡ false) × (writes program i destination ≡ true) × (leads i c.active.next (c.active.next + 1) ≡ true)
    pub does : (word : ℕ) → memory_at program c (word_place width (add_of (word_in address) offset)) ≡ Some word → performed program zeros c i ≡ gives c destination (loaded_part width (add_of (word_in address) offset) word)
    pub count : count_of program frames c.active.function c.active.next i ≡ address_count frame address offset + 1 + keep_count frame destination

  -- The labelled machine (MIPS lines) simulates a load from an address at which the plain program has a word.
  loaded_goes : (width : Width) (i : Instruction) (destination : ℕ) (address : Operand) (offset word : ℕ) → IsLoad width i destination address offset → destination < slots → IsThere address → IsWord offset
      → memory_at program c (word_place width (add_of (word_in address) offset)) ≡ Some word
      → Stands code here (load_at frame (load_op width) destination address offset) → Goes 1 here (here + (address_count frame address offset + 1 + keep_count frame destination)) (Running run)
  loaded_goes width i destination address offset word loads_it below there fits found stands =
      let is : List Instr = address_code frame address offset in
      let last : List Instr = at_address frame (load_op width) (made_in frame destination) address offset ∷ keep_code frame destination in
      let hi : ℕ = here + (address_count frame address offset + 1 + keep_count frame destination) in
      let long : length is ≡ address_count frame address offset = length_address frame address offset in
      let q : Words = after_r is r w in
      let v : Contents = after_w is r w in
      let register : ℕ = address_register frame address offset in
      let target : ℕ = made_in frame destination % 32 in
      let a : ℕ = add_of (word_in address) offset in
      let address_held = held i loads_it.at address loads_it.needs there in
      let scratch = made_scratch globals_length (words_per_call * calls) program (routine_at program c.active.function) frame homes_right destination in
      let reaches = is_addressed globals_length (words_per_call * calls) frame (r FRAME) w r c.active.slots r w s.zero_is refl refl (λ n low high. refl) address offset address_held fits in
      let its = is_found program well frames fit addresses pages calls few c r w base back (stage_of frames c) s (word_place width a) word found in
      let part : ℕ = loaded_part width a word in
      let there_is : IsWordAt its.sort globals_length (words_per_call * calls) v (word_place width (memory_address (q (register % 32)) (near_half offset))) word =
      subst (λ (x : ℕ). IsWordAt its.sort globals_length (words_per_call * calls) v (word_place width x) word) (sym reaches.comes)
      (subst (λ (x : Contents). IsWordAt its.sort globals_length (words_per_call * calls) x (word_place width a) word) (sym reaches.keeps.memory) its.at) in
      let following = stands_after code here is last stands in
      let p : Words = put q (made_in frame destination % 32) part in
      let agrees : Agrees program well frames fit code formed addresses pages calls few c run r w base back now s caches target p = record {
        zero_same = put-other q target 0 part scratch.not_zero ∙ reaches.keeps.zero;
        base_same = put-other q target FRAME part scratch.not_base ∙ reaches.keeps.base;
        lowest_same = put-other q target LOWEST part scratch.not_lowest ∙ reaches.keeps.lowest;
        back_same = put-other q target RETURN_ADDRESS part scratch.not_back ∙ reaches.keeps.back;
        lasts_same = lasting_same p q (put-other q target HANDLERS part scratch.not_newest) (put-other q target REGIONS part scratch.not_counted) (put-other q target GLOBALS part scratch.not_middle) ∙ reaches.keeps.lasts;
        values_same = λ n low high other. put-other q target n part other ∙ all_same q r reaches.keeps.values n low high;
      } in
      walk_few code formed addresses globals_length (words_per_call * calls) 1 (length is + suc (keep_count frame destination)) here hi c.output _ (Running run) (omega arith)
      (walk_block code formed addresses globals_length (words_per_call * calls) is (suc (keep_count frame destination)) here here hi c.output c.input _ r w run now (stands_first code here is last stands) reaches.keeps.safe (omega arith)
      (λ d before.
      walk_read code formed addresses globals_length (words_per_call * calls) width its.sort (keep_count frame destination) (here + length is) (here + length is) hi c.output c.input _ q v d (register_of (made_in frame destination)) (register_of register) (near_half offset) word before following.0 (omega arith)
      (scratch_writable globals_length (words_per_call * calls) target scratch) there_is
      (λ e later.
      walk_from code formed addresses globals_length (words_per_call * calls) (keep_count frame destination) (suc (here + length is)) (here + length is + 1) hi c.output _ (Running e) (omega arith)
      (walk_few code formed addresses globals_length (words_per_call * calls) (keep_count frame destination) (0 + keep_count frame destination) (here + length is + 1) hi c.output _ (Running e) (omega arith)
      (gives_made program well frames fit code formed addresses pages calls few c run r w base back now s caches i loads_it.at loads_it.free destination part c.input
      loads_it.given below (loads_it.does word found) s.input
      (here + length is + 1) (address_count frame address offset + 1 + keep_count frame destination) p e
      (now_is code formed addresses globals_length (words_per_call * calls) (here + length is + 1) c.output c.input (put q target (loaded_part width (memory_address (q (register % 32)) (near_half offset)) word)) v p w e
      (ap (λ (x : ℕ). put q target (loaded_part width x word)) reaches.comes) reaches.keeps.memory later)
      [] agrees (record { safe = tt; memory = refl; zero = refl; base = refl; lowest = refl; back = refl; lasts = refl; values = λ n low high other. refl })
      (put-same q target part) (omega (arith, long)) loads_it.count following.1)))))

  pub load_goes : (destination : ℕ) (address : Operand) (offset : ℕ) → IsAt (plain.Load destination address offset) → destination < slots → IsThere address → IsWord offset
      → (performed program zeros c (plain.Load destination address offset) ≡ states.Stuck c.output c.input → ⊥)
      → Stands code here (body program frames c.active.function here (plain.Load destination address offset)) → Goes 1 here (here + (address_count frame address offset + 1 + keep_count frame destination)) (Running run)
  load_goes destination address offset at_i below there fits never stands = go (memory_at program c (word_place OneWord (add_of (word_in address) offset))) refl
    where
      loads_it : IsLoad OneWord (plain.Load destination address offset) destination address offset
      loads_it = record {
        at = at_i;
        free = refl;
        needs = λ slot is. is;
        given = gets program well frames fit code formed addresses pages calls few c run r w base back now s caches destination;
        does = λ word found. ap (loads c destination) found;
        count = omega arith;
      }

      go : (o : Option ℕ) → memory_at program c (word_place OneWord (add_of (word_in address) offset)) ≡ o → Goes 1 here (here + (address_count frame address offset + 1 + keep_count frame destination)) (Running run)
      go (Some word) found = loaded_goes OneWord (plain.Load destination address offset) destination address offset word loads_it below there fits found stands
      go None found = absurd (never (ap (loads c destination) found))

  pub load_byte_goes : (destination : ℕ) (address : Operand) (offset : ℕ) → IsAt (plain.LoadByte destination address offset) → destination < slots → IsThere address → IsWord offset
      → (performed program zeros c (plain.LoadByte destination address offset) ≡ states.Stuck c.output c.input → ⊥)
      → Stands code here (body program frames c.active.function here (plain.LoadByte destination address offset)) → Goes 1 here (here + (address_count frame address offset + 1 + keep_count frame destination)) (Running run)
  load_byte_goes destination address offset at_i below there fits never stands = go (memory_at program c (word_place OneByte (add_of (word_in address) offset))) refl
    where
      loads_it : IsLoad OneByte (plain.LoadByte destination address offset) destination address offset
      loads_it = record {
        at = at_i;
        free = refl;
        needs = λ slot is. is;
        given = gets program well frames fit code formed addresses pages calls few c run r w base back now s caches destination;
        does = λ word found. ap (loads_byte c destination (add_of (word_in address) offset)) found;
        count = omega arith;
      }

      go : (o : Option ℕ) → memory_at program c (word_place OneByte (add_of (word_in address) offset)) ≡ o → Goes 1 here (here + (address_count frame address offset + 1 + keep_count frame destination)) (Running run)
      go (Some word) found = loaded_goes OneByte (plain.LoadByte destination address offset) destination address offset word loads_it below there fits found stands
      go None found = absurd (never (ap (loads_byte c destination (add_of (word_in address) offset)) found))

  -- ---- a store

  -- `IsStore` describes an instruction that stores a word or a byte.
  record IsStore (width : Width) (i : Instruction) (address : Operand) (offset : ℕ) (source : Operand) : Type 0 where
    pub at : IsAt i
    pub free : calls_nothing i ≡ true
    pub needs : (slot : ℕ) → (is_slot address slot || is_slot source slot) ≡ true → reads (routine_at program c.active.function).results i slot ≡ true
    pub apart : (slot : ℕ) → writes program i slot ≡ false
    pub led : leads i c.active.next (c.active.next + 1) ≡ true
    pub does : (old : ℕ) → memory_at program c (word_place width (add_of (word_in address) offset)) ≡ Some old
        → performed program zeros c i ≡ states.Running (advanced (with_memory program c (word_place width (add_of (word_in address) offset)) (stored_word width (add_of (word_in address) offset) old (word_in source))))
    pub count : count_of program frames c.active.function c.active.next i ≡ address_count frame address offset + operand_count frame source + 1

  -- Each word that memory contains at an address fits a machine word.
  word_at_is : (sort : Sort) (a word : ℕ) → IsWordAt sort globals_length (words_per_call * calls) w a word → IsWord word
  word_at_is OfBlock a word (live, is) = is
  word_at_is OfCell a word (cell, is) = subst IsWord is (now.w_words a)

  saved_goes : (width : Width) (i : Instruction) (address : Operand) (offset : ℕ) (source : Operand) (old : ℕ) → IsStore width i address offset source → IsThere address → IsWord offset → IsThere source
      → memory_at program c (word_place width (add_of (word_in address) offset)) ≡ Some old
      → Stands code here (store_at frame (store_op width) address offset source) → Goes 1 here (here + (address_count frame address offset + operand_count frame source + 1)) (Running run)
  saved_goes width i address offset source old stores_it there fits from_there found stands =
      let is : List Instr = address_code frame address offset in
      let js : List Instr = operand_code frame SECOND source in
      let last : List Instr = at_address frame (store_op width) (operand_register frame SECOND source) address offset ∷ [] in
      let hi : ℕ = here + (address_count frame address offset + operand_count frame source + 1) in
      let long : length is ≡ address_count frame address offset = length_address frame address offset in
      let more : length js ≡ operand_count frame source = length_operand frame SECOND source in
      let q : Words = after_r is r w in
      let v : Contents = after_w is r w in
      let register : ℕ = address_register frame address offset in
      let from : ℕ = operand_register frame SECOND source in
      let a : ℕ = add_of (word_in address) offset in
      let place : ℕ = word_place width a in
      let word : ℕ = stored_word width a old (word_in source) in
      let address_held = held i stores_it.at address (λ slot is. stores_it.needs slot (or_left (is_slot address slot) (is_slot source slot) is)) there in
      let source_held = held i stores_it.at source (λ slot is. stores_it.needs slot (or_right (is_slot address slot) (is_slot source slot) is)) from_there in
      let reaches = is_addressed globals_length (words_per_call * calls) frame (r FRAME) w r c.active.slots r w s.zero_is refl refl (λ n low high. refl) address offset address_held fits in
      let second = operand_puts globals_length (words_per_call * calls) frame (r FRAME) w r c.active.slots q v (reaches.keeps.zero ∙ s.zero_is) reaches.keeps.base reaches.keeps.memory (all_same q r reaches.keeps.values) SECOND refl source source_held in
      let keeps = puts_keeps globals_length (words_per_call * calls) js q v SECOND _ _ FIRST (second_scratch globals_length (words_per_call * calls)) (second_aside globals_length (words_per_call * calls) FIRST) second in
      let p : Words = after_r js q v in
      let u : Contents = after_w js q v in
      let same : u ≡ w = keeps.memory ∙ reaches.keeps.memory in
      let comes : memory_address (p (register % 32)) (near_half offset) ≡ a =
      ap (λ (x : ℕ). memory_address x (near_half offset)) (second.others (register % 32) (remainder_below_32 register) (not_in_second globals_length (words_per_call * calls) frame (r FRAME) w r c.active.slots r w s.zero_is refl refl (λ n low high. refl) address offset address_held)) ∙ reaches.comes in
      let its = is_found program well frames fit addresses pages calls few c r w base back (stage_of frames c) s place old found in
      let there_is : IsWordAt its.sort globals_length (words_per_call * calls) u (word_place width (memory_address (p (register % 32)) (near_half offset))) old =
      subst (λ (x : ℕ). IsWordAt its.sort globals_length (words_per_call * calls) u (word_place width x) old) (sym comes)
      (subst (λ (x : Contents). IsWordAt its.sort globals_length (words_per_call * calls) x place old) (sym same) its.at) in
      let x : Contents = placed its.sort u (word_place width (memory_address (p (register % 32)) (near_half offset))) (stored_word width (memory_address (p (register % 32)) (near_half offset)) old (p (from % 32))) in
      let puts : x ≡ placed its.sort w place word =
      ap (λ (y : Contents). placed its.sort y (word_place width (memory_address (p (register % 32)) (near_half offset))) (stored_word width (memory_address (p (register % 32)) (near_half offset)) old (p (from % 32)))) same
      ∙ (ap (λ (n : ℕ). placed its.sort w (word_place width n) (stored_word width n old (p (from % 32)))) comes ∙ ap (λ (n : ℕ). placed its.sort w place (stored_word width a old n)) second.result) in
      let was_word : IsWord old = word_at_is its.sort place old its.at in
      let is_word : IsWord word = stored_is_word width a old (word_in source) was_word (operand_is_word program well frames fit code formed addresses pages calls few c run r w base back now s caches source source_held) in
      let c' : Configuration = with_memory program c place word in
      let d : Configuration = advanced c' in
      let left = memory-left program c place word in
      let one = its.standing word is_word in
      let two = standing_registers program well frames fit addresses pages calls few c' r (placed its.sort w place word) base back (stage_of frames c) c'.active.slots one p (keeps.zero ∙ reaches.keeps.zero) (keeps.base ∙ reaches.keeps.base) (keeps.lowest ∙ reaches.keeps.lowest) (λ outside. keeps.back ∙ reaches.keeps.back) (keeps.lasts ∙ reaches.keeps.lasts)
      (λ j past high. all_same p q keeps.values (17 + j) (omega arith) (omega (arith, high)) ∙ all_same q r reaches.keeps.values (17 + j) (omega arith) (omega (arith, high))) in
      let three = standing_at program well frames fit addresses pages calls few c' p (placed its.sort w place word) base back (stage_of frames c) c'.active.slots two d refl refl refl refl refl refl one.input in
      let with_function = subst (λ (f : ℕ). Standing program frames addresses pages calls d p (placed its.sort w place word) base back (under_way (frame_at frames f).saves) d.active.slots) (sym left.function) three in
      let four = subst (λ (y : Contents). Standing program frames addresses pages calls d p y base back (stage_of frames d) d.active.slots) (sym puts) with_function in
      let next : here + length is + length js + 1 ≡ instruction_line program frames c.active.function (c.active.next + 1) = omega (arith, line_next program frames c.active.function c.active.next i stores_it.at, stores_it.count, long, more) in
      let line : here + length is + length js + 1 ≡ instruction_line program frames d.active.function d.active.next =
      next
      ∙ (ap (λ (f : ℕ). instruction_line program frames f (c.active.next + 1)) (sym left.function)
      ∙ ap (λ (n : ℕ). instruction_line program frames d.active.function (n + 1)) (sym left.next)) in
      let following = stands_after code here is (js ++ last) stands in
      let at_last = stands_after code (here + length is) js last following in
      walk_few code formed addresses globals_length (words_per_call * calls) 1 (length is + (length js + 1)) here hi c.output _ (Running run) (omega arith)
      (walk_block code formed addresses globals_length (words_per_call * calls) is (length js + 1) here here hi c.output c.input _ r w run now (stands_first code here is (js ++ last) stands) reaches.keeps.safe (omega arith)
      (λ e before.
      walk_block code formed addresses globals_length (words_per_call * calls) js 1 (here + length is) (here + length is) hi c.output c.input _ q v e before (stands_first code (here + length is) js last following) second.safe (omega arith)
      (λ f after.
      walk_write code formed addresses globals_length (words_per_call * calls) width its.sort 0 (here + length is + length js) (here + length is + length js) hi c.output c.input _ p u f (register_of from) (register_of register) (near_half offset) old after at_last.0 (omega arith) there_is
      (λ g later.
      walk_end code formed addresses globals_length (words_per_call * calls) (suc (here + length is + length js)) hi c.output _ (Running g) (omega (arith, long, more))
      (reached program well frames fit code formed addresses pages calls few c zeros i (states.Running d) (Running g) (zeros_at program c i stores_it.at stores_it.free) stores_it.at (stores_it.does old found)
      (ap (λ (n : ℕ). is_within pages n (states.Running d)) (limit_free i calls stores_it.free) ∙ within program well frames fit code formed addresses pages calls few d four.laid.paged four.deep)
      (inl (record {
        run = g;
        r = p;
        w = x;
        base = base;
        back = back;
        is = refl;
        now =
            subst (λ (out : List ℕ). AtNow (instruction_line program frames d.active.function d.active.next) out d.input p x g) (sym left.output)
            (subst (λ (input : List ℕ). AtNow (instruction_line program frames d.active.function d.active.next) c.output input p x g) (sym left.input)
            (now_at code formed addresses globals_length (words_per_call * calls) (here + length is + length js + 1) (instruction_line program frames d.active.function d.active.next) c.output c.input p x g line later));
        standing = four;
        caches =
            subst (λ (n : ℕ). Caches program frames n d.active.next p d.active.slots) (sym left.function)
            (subst (λ (n : ℕ). Caches program frames c.active.function n p d.active.slots) (ap (λ (n : ℕ). n + 1) (sym left.next))
            (caches_past program frames c.active.function homes_right c.active.next (c.active.next + 1) r p c.active.slots d.active.slots i stores_it.at stores_it.led
            (λ slot k has. stores_it.apart slot) (λ slot k has. its.values word slot k has)
            (λ n low high. all_same p q keeps.values n low high ∙ all_same q r reaches.keeps.values n low high) caches));
      })))))))

  pub store_goes : (address : Operand) (offset : ℕ) (source : Operand) → IsAt (plain.Store address offset source) → IsThere address → IsWord offset → IsThere source
      → (performed program zeros c (plain.Store address offset source) ≡ states.Stuck c.output c.input → ⊥)
      → Stands code here (body program frames c.active.function here (plain.Store address offset source)) → Goes 1 here (here + (address_count frame address offset + operand_count frame source + 1)) (Running run)
  store_goes address offset source at_i there fits from_there never stands = go (memory_at program c (word_place OneWord (add_of (word_in address) offset))) refl
    where
      stores_it : IsStore OneWord (plain.Store address offset source) address offset source
      stores_it = record {
        at = at_i;
        free = refl;
        needs = λ slot is. is;
        apart = λ slot. refl;
        led = eqb_next c.active.next;
        does = λ old found. ap (saves program c (add_of (word_in address) offset) (word_in source)) found;
        count = omega arith;
      }

      go : (o : Option ℕ) → memory_at program c (word_place OneWord (add_of (word_in address) offset)) ≡ o → Goes 1 here (here + (address_count frame address offset + operand_count frame source + 1)) (Running run)
      go (Some old) found = saved_goes OneWord (plain.Store address offset source) address offset source old stores_it there fits from_there found stands
      go None found = absurd (never (ap (saves program c (add_of (word_in address) offset) (word_in source)) found))

  pub store_byte_goes : (address : Operand) (offset : ℕ) (source : Operand) → IsAt (plain.StoreByte address offset source) → IsThere address → IsWord offset → IsThere source
      → (performed program zeros c (plain.StoreByte address offset source) ≡ states.Stuck c.output c.input → ⊥)
      → Stands code here (body program frames c.active.function here (plain.StoreByte address offset source)) → Goes 1 here (here + (address_count frame address offset + operand_count frame source + 1)) (Running run)
  store_byte_goes address offset source at_i there fits from_there never stands = go (memory_at program c (word_place OneByte (add_of (word_in address) offset))) refl
    where
      stores_it : IsStore OneByte (plain.StoreByte address offset source) address offset source
      stores_it = record {
        at = at_i;
        free = refl;
        needs = λ slot is. is;
        apart = λ slot. refl;
        led = eqb_next c.active.next;
        does = λ old found. ap (saves_byte program c (add_of (word_in address) offset) (word_in source % 256)) found;
        count = omega arith;
      }

      go : (o : Option ℕ) → memory_at program c (word_place OneByte (add_of (word_in address) offset)) ≡ o → Goes 1 here (here + (address_count frame address offset + operand_count frame source + 1)) (Running run)
      go (Some old) found = saved_goes OneByte (plain.StoreByte address offset source) address offset source old stores_it there fits from_there found stands
      go None found = absurd (never (ap (saves_byte program c (add_of (word_in address) offset) (word_in source % 256)) found))
