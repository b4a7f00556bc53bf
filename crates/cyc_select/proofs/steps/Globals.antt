-- The simulation of instructions on globals, the number of open lexical regions, and addresses of slots.
use Rattle.std.proofs.Common.{◌≡◌, ℕ, length-append, ◌+◌, ◌-◌, ◌*◌, ◌%◌, ◌^◌, ◌<◌, ◌≤◌, List, [], ◌∷◌, ◌++◌, length, Some, refl, sym, ap, subst, ◌∙◌, arith, inl}
use Rattle.cyc_words.specs.Word.{add_of, sign_extended}
use Rattle.cyc_words.proofs.Numbers.{eqb_next}
use Rattle.cyc_isa.specs.Effect.{memory_address}
use Rattle.cyc_isa.specs.declared.instr.Instr.{Instr}
use Rattle.cyc_isa.specs.declared.instr.MemoryOp.TheVariants.{LoadWord, StoreWord}
use Rattle.cyc_machine_model.specs.State.{data_base, globals_length, words_per_call}
use Rattle.cyc_plain.specs.declared.instruction.Instruction.{Instruction}
use Rattle.cyc_plain.specs.declared.instruction.Instruction.TheVariants as plain
use Rattle.cyc_plain.specs.declared.instruction.Operand.{Operand}
use Rattle.cyc_plain.specs.inside.Program.{Program, routine_at}
use Rattle.cyc_plain.specs.inside.State as states
use Rattle.cyc_plain.specs.inside.State.{Words, put, Configuration}
use Rattle.cyc_plain.specs.inside.Step.{instruction_at, operand_word}
use Rattle.cyc_plain.specs.inside.WellFormed.{IsOperand, IsOfWord, IsWellFormed}
use Rattle.cyc_plain.proofs.SlotLaws.{put-same, put-other}
use Rattle.cyc_plain.proofs.RunLaws.{zeros, zeros_at}
use Rattle.cyc_frame.specs.inside.Layout.{AreFrames, frame_at}
use Rattle.cyc_frame.specs.inside.Frame.{Frame}
use Rattle.cyc_select.specs.declared.constants.TheConstants.{FIRST, FRAME, REGIONS}
use Rattle.cyc_select.specs.inside.Labelled.{Labelled, IsFormed}
use Rattle.cyc_select.specs.inside.Machine as labelled
use Rattle.cyc_select.specs.inside.Machine.{State, Running}
use Rattle.cyc_select.specs.inside.Instructions.{add_immediate, slot_offset}
use Rattle.cyc_select.specs.inside.Slots.{at_global, made_in, reach_code, reach_register, reach_half, global_code}
use Rattle.cyc_select.specs.inside.Operands.{keep_count, give_count, operand_code, operand_register, operand_count, reach_count}
use Rattle.cyc_select.specs.inside.Counts.{body_count, instruction_line}
use Rattle.cyc_select.specs.inside.Selection.{body}
use Rattle.cyc_select.proofs.values.Blocks.{all_same, Puts, puts_keeps, keeps_append, middle_lasts, after_both}
use Rattle.cyc_store.specs.State.{lexical_count}
use Rattle.cyc_select.proofs.relation.Cells.{IsCell}
use Rattle.cyc_select.proofs.values.Computing.{operand_puts, first_scratch, first_aside, scratch_writable, not_second}
use Rattle.cyc_select.proofs.emission.Counts.{length_operand, length_global}
use Rattle.cyc_select.proofs.layout.Lines.{line_next}
use Rattle.cyc_select.proofs.values.Operations.{add_small}
use Rattle.cyc_select.proofs.relation.Values.{Caches, caches_past}
use Rattle.cyc_select.proofs.effects.Views.{Contents, written}
use Rattle.cyc_select.proofs.effects.Sequences.{Stands, stands_first, stands_after, after_r, after_w}
use Rattle.cyc_select.proofs.effects.Walks.{Walk, now_at, walk_end, walk_few, walk_block}
use Rattle.cyc_select.proofs.relation.Waiting.{based_here}
use Rattle.cyc_select.proofs.relation.Standing.{Standing, lies, slot_inside, global_cell, standing_global, standing_registers, standing_at, stage_of}
use Rattle.cyc_select.proofs.relation.Matches.{After, At, Reached, reached, within}
use Rattle.cyc_select.proofs.values.Reaching.{reaches}
use Rattle.cyc_select.proofs.steps.Simple.{homes_right, made_in_scratch, held, gets, agrees_itself, gives_by, gives_register}

module _ (program : Program) (well : IsWellFormed program) (frames : List Frame) (fit : AreFrames program frames) (code : Labelled) (formed : IsFormed code) (addresses : ℕ → ℕ) (pages calls : ℕ) (few : calls ≤ 4096)
    (c : Configuration)
    (run : labelled.Configuration) (r : Words) (w : Contents) (base back : ℕ)
    (now : At program well frames fit code formed addresses pages calls few (instruction_line program frames c.active.function c.active.next) c.output c.input r w run)
    (s : Standing program frames addresses pages calls c r w base back (stage_of frames c) c.active.slots)
    (caches : Caches program frames c.active.function c.active.next r c.active.slots) where
  abbrev here : ℕ
  here = instruction_line program frames c.active.function c.active.next

  abbrev frame : Frame
  frame = frame_at frames c.active.function

  abbrev slots : ℕ
  slots = (routine_at program c.active.function).slots

  abbrev Goes : (least lo hi : ℕ) → State → Type 0
  Goes least lo hi t = Walk code formed addresses globals_length (words_per_call * calls) least lo hi c.output (After program pages calls c) (Reached program well frames fit code formed addresses pages calls few c) t

  abbrev word_of : Operand → ℕ
  word_of o = operand_word c.active.slots o

  abbrev IsAt : Instruction → Type 0
  IsAt i = instruction_at program (states.place_of (states.Running c)) ≡ Some i

  abbrev IsThere : Operand → Type 0
  IsThere o = IsOperand (routine_at program c.active.function) o × IsOfWord o

  -- ---- globals

  -- The address computed for a global is that of an aligned word in the data range.
  global_there : (global address : ℕ) → address ≡ data_base + 4 * global → global < length program.globals → IsCell globals_length (words_per_call * calls) address
  global_there global address is below =
      subst (IsCell globals_length (words_per_call * calls)) (sym is)
      (global_cell program well frames fit addresses pages calls few c r w base back (stage_of frames c) c.active.slots s global below)

  pub load_global_goes : (destination global : ℕ) → IsAt (plain.LoadGlobal destination global) → destination < slots → global < length program.globals
      → Stands code here (body program frames c.active.function here (plain.LoadGlobal destination global))
      → Goes 1 here (here + body_count program frames c.active.function (plain.LoadGlobal destination global)) (Running run)
  load_global_goes destination global at_i below global_below stands =
      let target : ℕ = made_in frame destination in
      let js : List Instr = reach_code global in
      let last : List Instr = at_global LoadWord (made_in frame destination) global ∷ [] in
      let reach = reaches globals_length (words_per_call * calls) global (made_in frame destination % 32) r w s.middle (omega (arith, global_below, well.globals)) in
      let q : Words = after_r js r w in
      let m : Contents = after_w js r w in
      let word : ℕ = m.words (memory_address (q (reach_register global % 32)) (reach_half global)) in
      let scratch = made_in_scratch program well frames fit code formed addresses pages calls few c run r w base back now s caches destination in
      let puts : Puts globals_length (words_per_call * calls) (at_global LoadWord (made_in frame destination) global ∷ []) (after_r (reach_code global) r w) (after_w (reach_code global) r w) (made_in frame destination % 32) (made_in frame destination % 32) word = record {
        safe = ((scratch_writable globals_length (words_per_call * calls) (target % 32) scratch, global_there global (memory_address (q (reach_register global % 32)) (reach_half global)) reach.there global_below), tt);
        memory = refl;
        result = put-same q (target % 32) word;
        others = λ n n_below other. put-other q (target % 32) n word other;
      } in
      let keeps = keeps_append globals_length (words_per_call * calls) js last r w (target % 32) reach.keeps
      (puts_keeps globals_length (words_per_call * calls) last q m (target % 32) (target % 32) word (target % 32) scratch (λ n low high other. other) puts) in
      let word_is : word ≡ c.globals global =
      ap (λ (x : Contents). x.words (memory_address (q (reach_register global % 32)) (reach_half global))) reach.keeps.memory
      ∙ (ap w.words reach.there ∙ s.globals global global_below) in
      let long = length_global LoadWord (made_in frame destination) global in
      gives_by program well frames fit code formed addresses pages calls few c run r w base back now s caches (plain.LoadGlobal destination global) at_i refl (global_code LoadWord (made_in frame destination) global) destination (c.globals global) (reach_count global + 1 + keep_count frame destination) (omega (arith, long)) keeps
      (after_both globals_length (words_per_call * calls) js last r w (target % 32) ∙ (puts.result ∙ word_is)) (gets program well frames fit code formed addresses pages calls few c run r w base back now s caches destination) below refl (omega (arith, long)) (omega arith) stands

  -- ---- the number of open lexical regions

  pub count_lexical_goes : (destination : ℕ) → IsAt (plain.CountLexical destination) → destination < slots
      → Stands code here (body program frames c.active.function here (plain.CountLexical destination))
      → Goes 1 here (here + body_count program frames c.active.function (plain.CountLexical destination)) (Running run)
  count_lexical_goes destination at_i below stands =
      gives_register program well frames fit code formed addresses pages calls few c run r w base back now s caches (plain.CountLexical destination) at_i refl destination (lexical_count c.store.regions % 2 ^ 32) c.input (gets program well frames fit code formed addresses pages calls few c run r w base back now s caches destination) below refl s.input here (give_count frame destination) REGIONS r run now (agrees_itself program well frames fit code formed addresses pages calls few c run r w base back now s caches FIRST)
      s.counted (omega arith) refl (omega arith) stands

  pub store_global_goes : (global : ℕ) (source : Operand) → IsAt (plain.StoreGlobal global source) → global < length program.globals → IsThere source
      → Stands code here (body program frames c.active.function here (plain.StoreGlobal global source)) → Goes 1 here (here + (operand_count frame source + reach_count global + 1)) (Running run)
  store_global_goes global source at_i global_below there stands =
      let is : List Instr = operand_code frame FIRST source in
      let js : List Instr = reach_code global in
      let register : ℕ = operand_register frame FIRST source in
      let last : List Instr = at_global StoreWord (operand_register frame FIRST source) global ∷ [] in
      let hi : ℕ = here + (operand_count frame source + reach_count global + 1) in
      let source_held = held program well frames fit code formed addresses pages calls few c run r w base back now s caches (plain.StoreGlobal global source) at_i source (λ slot is. is) there in
      let puts = operand_puts globals_length (words_per_call * calls) frame (r FRAME) w r c.active.slots r w s.zero_is refl refl (λ n low high. refl) FIRST refl source source_held in
      let keeps = puts_keeps globals_length (words_per_call * calls) is r w FIRST _ _ FIRST (first_scratch globals_length (words_per_call * calls)) (first_aside globals_length (words_per_call * calls) FIRST) puts in
      let p : Words = after_r is r w in
      let u : Contents = after_w is r w in
      let reach = reaches globals_length (words_per_call * calls) global FIRST (after_r (operand_code frame FIRST source) r w) (after_w (operand_code frame FIRST source) r w) (middle_lasts p r keeps.lasts ∙ s.middle) (omega (arith, global_below, well.globals)) in
      let q : Words = after_r (reach_code global) (after_r (operand_code frame FIRST source) r w) (after_w (operand_code frame FIRST source) r w) in
      let m : Contents = after_w (reach_code global) (after_r (operand_code frame FIRST source) r w) (after_w (operand_code frame FIRST source) r w) in
      let at_word : ℕ = memory_address (q (reach_register global % 32)) (reach_half global) in
      let v : Contents = written m (memory_address (q (reach_register global % 32)) (reach_half global)) (q (operand_register frame FIRST source % 32)) in
      let d : Configuration = record c { active = record c.active { next = c.active.next + 1 }; globals = put c.globals global (word_of source) } in
      let stored : q (register % 32) ≡ word_of source =
      reach.others (register % 32) (omega arith) (not_second globals_length (words_per_call * calls) frame (r FRAME) w r c.active.slots r w s.zero_is refl refl (λ n low high. refl) source source_held) ∙ puts.result in
      let wrote : v ≡ written w (data_base + 4 * global) (word_of source) =
      ap (λ (x : Contents). written x at_word (q (operand_register frame FIRST source % 32))) (reach.keeps.memory ∙ keeps.memory)
      ∙ (ap (λ (a : ℕ). written w a (q (operand_register frame FIRST source % 32))) reach.there ∙ ap (written w (data_base + 4 * global)) stored) in
      let one = standing_global program well frames fit addresses pages calls few c r w base back (stage_of frames c) c.active.slots s global (word_of source) global_below in
      let c' : Configuration = record c { globals = put c.globals global (word_of source) } in
      let two = standing_registers program well frames fit addresses pages calls few c' r (written w (data_base + 4 * global) (word_of source)) base back (stage_of frames c) c.active.slots one q
      (reach.keeps.zero ∙ keeps.zero) (reach.keeps.base ∙ keeps.base) (reach.keeps.lowest ∙ keeps.lowest) (λ outside. reach.keeps.back ∙ keeps.back) (reach.keeps.lasts ∙ keeps.lasts)
      (λ j past high. all_same q p reach.keeps.values (17 + j) (omega arith) (omega (arith, high)) ∙ all_same p r keeps.values (17 + j) (omega arith) (omega (arith, high))) in
      let three = standing_at program well frames fit addresses pages calls few c' q (written w (data_base + 4 * global) (word_of source)) base back (stage_of frames c) c.active.slots two d refl refl refl refl refl refl s.input in
      let four = subst (λ (x : Contents). Standing program frames addresses pages calls d q x base back (stage_of frames c) c.active.slots) (sym wrote) three in
      let long : length is + (length js + 1) ≡ operand_count frame source + reach_count global + 1 =
      omega (arith, length_operand frame FIRST source, length_global StoreWord (operand_register frame FIRST source) global, length-append js last) in
      let line : here + length is + length js + 1 ≡ instruction_line program frames c.active.function (c.active.next + 1) = omega (arith, line_next program frames c.active.function c.active.next (plain.StoreGlobal global source) at_i, long) in
      let following = stands_after code here is (js ++ last) stands in
      walk_few code formed addresses globals_length (words_per_call * calls) 1 (length is + (length js + (1 + 0))) here hi c.output _ (Running run) (omega arith)
      (walk_block code formed addresses globals_length (words_per_call * calls) is (length js + (1 + 0)) here here hi c.output c.input _ r w run now (stands_first code here is (js ++ last) stands) keeps.safe (omega arith)
      (λ g before.
      walk_block code formed addresses globals_length (words_per_call * calls) js (1 + 0) (here + length is) (here + length is) hi c.output c.input _ (after_r is r w) (after_w is r w) g before (stands_first code (here + length is) js last following) reach.keeps.safe (omega arith)
      (λ f between.
      walk_block code formed addresses globals_length (words_per_call * calls) last 0 (here + length is + length js) (here + length is + length js) hi c.output c.input _ q m f between (stands_after code (here + length is) js last following)
      (global_there global at_word reach.there global_below, tt) (omega arith)
      (λ e later.
      walk_end code formed addresses globals_length (words_per_call * calls) (here + length is + length js + 1) hi c.output _ (Running e) (omega (arith, long))
      (reached program well frames fit code formed addresses pages calls few c zeros (plain.StoreGlobal global source) (states.Running d) (Running e) (zeros_at program c (plain.StoreGlobal global source) at_i refl) at_i refl
      (within program well frames fit code formed addresses pages calls few d s.laid.paged s.deep)
      (inl (record {
        run = e;
        r = q;
        w = v;
        base = base;
        back = back;
        is = refl;
        now = now_at code formed addresses globals_length (words_per_call * calls) (here + length is + length js + 1) (instruction_line program frames c.active.function (c.active.next + 1)) c.output c.input _ _ e line later;
        standing = four;
        caches =
            caches_past program frames c.active.function (homes_right program well frames fit code formed addresses pages calls few c run r w base back now s caches) c.active.next (c.active.next + 1) r q c.active.slots c.active.slots (plain.StoreGlobal global source) at_i (eqb_next c.active.next)
            (λ slot k has. refl) (λ slot k has. refl)
            (λ n low high. all_same q p reach.keeps.values n low high ∙ all_same p r keeps.values n low high) caches;
      })))))))

  -- ---- addresses

  pub address_goes : (destination slot count : ℕ) → IsAt (plain.AddressOf destination slot count) → destination < slots → slot < slots
      → Stands code here (body program frames c.active.function here (plain.AddressOf destination slot count)) → Goes 1 here (here + body_count program frames c.active.function (plain.AddressOf destination slot count)) (Running run)
  address_goes destination slot count at_i below named stands =
      let inside = slot_inside program well frames fit addresses pages calls few c r w base back (stage_of frames c) c.active.slots s slot named in
      let lie = lies program well frames fit addresses pages calls few c r w base back (stage_of frames c) c.active.slots s in
      let place = based_here frames base c.active.function c.active.base c.frames s.based in
      let sum : add_of (r FRAME) (sign_extended (slot_offset frame slot)) ≡ base + slot_offset frame slot =
      ap (λ (x : ℕ). add_of x (sign_extended (slot_offset frame slot))) s.base_is
      ∙ add_small base (slot_offset frame slot) (omega (arith, inside)) (omega (arith, inside, lie.below_end)) in
      let same : base + slot_offset frame slot ≡ add_of c.active.base (4 * slot) = omega (arith, place, inside, lie.below_end) in
      let target : ℕ = made_in frame destination in
      let puts : Puts globals_length (words_per_call * calls) (add_immediate (made_in frame destination) FRAME (slot_offset frame slot) ∷ []) r w (made_in frame destination % 32) (made_in frame destination % 32) (add_of (r FRAME) (sign_extended (slot_offset frame slot))) =
      record {
        safe = (scratch_writable globals_length (words_per_call * calls) (target % 32) (made_in_scratch program well frames fit code formed addresses pages calls few c run r w base back now s caches destination), tt);
        memory = refl;
        result = put-same r (target % 32) (add_of (r FRAME) (sign_extended (slot_offset frame slot)));
        others = λ n n_below other. put-other r (target % 32) n (add_of (r FRAME) (sign_extended (slot_offset frame slot))) other;
      } in
      gives_by program well frames fit code formed addresses pages calls few c run r w base back now s caches (plain.AddressOf destination slot count) at_i refl (add_immediate (made_in frame destination) FRAME (slot_offset frame slot) ∷ []) destination (add_of c.active.base (4 * slot)) (1 + keep_count frame destination) (omega arith)
      (puts_keeps globals_length (words_per_call * calls) (add_immediate (made_in frame destination) FRAME (slot_offset frame slot) ∷ []) r w (target % 32) _ _ (target % 32) (made_in_scratch program well frames fit code formed addresses pages calls few c run r w base back now s caches destination) (λ n low high other. other) puts)
      (puts.result ∙ (sum ∙ same)) (gets program well frames fit code formed addresses pages calls few c run r w base back now s caches destination) below refl refl (omega arith) stands
