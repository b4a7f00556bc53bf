-- The simulation of the machine's system calls: reading a byte, writing a byte, and ending the run by an uncaught exception.
use Rattle.std.proofs.Common.{◌≡◌, ℕ, suc, ◌+◌, ◌-◌, ◌*◌, ◌%◌, ◌^◌, ◌<◌, ◌≤◌, List, [], ◌∷◌, ◌++◌, length, drop, Some, refl, sym, ap, subst, ◌∙◌, arith}
use Rattle.std.specs.List.{AllByRecursion}
use Rattle.cyc_words.specs.Ending.{Ending, Uncaught}
use Rattle.cyc_words.specs.Word.{IsWord, signed, add_of, sign_extended}
use Rattle.cyc_words.specs.Simulation as simulation
use Rattle.cyc_words.proofs.SeenLemmas.{seen_same}
use Rattle.cyc_words.proofs.Numbers.{eqb_next}
use Rattle.cyc_isa.specs.declared.instr.Instr.{Instr}
use Rattle.cyc_machine_model.specs.State.{globals_length, words_per_call}
use Rattle.cyc_plain.specs.declared.instruction.Instruction.{Instruction}
use Rattle.cyc_plain.specs.declared.instruction.Instruction.TheVariants as plain
use Rattle.cyc_plain.specs.declared.instruction.Operand.{Operand}
use Rattle.cyc_plain.specs.inside.Program.{Program, routine_at}
use Rattle.cyc_plain.specs.inside.State as states
use Rattle.cyc_plain.specs.inside.State.{Words, put, Configuration}
use Rattle.cyc_plain.specs.inside.Step.{instruction_at, operand_word}
use Rattle.cyc_plain.specs.inside.WellFormed.{IsOperand, IsOfWord, IsWellFormed}
use Rattle.cyc_plain.proofs.SlotLaws.{put-other}
use Rattle.cyc_plain.proofs.RunLaws.{zeros, over_within, zeros_at}
use Rattle.cyc_frame.specs.inside.Layout.{AreFrames, frame_at}
use Rattle.cyc_frame.specs.inside.Frame.{Frame}
use Rattle.cyc_machine_model.specs.declared.constants.TheConstants.{ARGUMENT, END_UNCAUGHT, PUT_BYTE, SECOND_ARGUMENT, SERVICE}
use Rattle.cyc_select.specs.declared.constants.TheConstants.{FIRST, ZERO, FRAME}
use Rattle.cyc_select.specs.inside.Labelled.{Labelled, IsFormed}
use Rattle.cyc_select.specs.inside.Machine as labelled
use Rattle.cyc_select.specs.inside.Machine.{State, Running, Ended}
use Rattle.cyc_select.specs.inside.Instructions.{small, syscall}
use Rattle.cyc_select.specs.inside.Slots.{give_code}
use Rattle.cyc_select.specs.inside.Operands.{give_count, word_code, load_code, word_count, load_count}
use Rattle.cyc_select.specs.inside.Counts.{body_count, instruction_line}
use Rattle.cyc_select.specs.inside.Selection.{ordinary, body}
use Rattle.cyc_select.proofs.values.Blocks.{all_same, puts_keeps}
use Rattle.cyc_select.proofs.values.Computing.{word_puts, load_puts, argument_scratch, argument_aside}
use Rattle.cyc_select.proofs.emission.Counts.{length_word, length_load}
use Rattle.cyc_select.proofs.effects.Effects.{byte_of}
use Rattle.cyc_select.proofs.layout.Lines.{line_next}
use Rattle.cyc_select.proofs.values.Operations.{add_small}
use Rattle.cyc_select.proofs.relation.Values.{Caches}
use Rattle.cyc_select.proofs.effects.Views.{Contents}
use Rattle.cyc_select.proofs.effects.Sequences.{Stands, stands_back, stands_first, stands_after, after_r, after_w}
use Rattle.cyc_select.proofs.effects.Walks.{Walk, walk_few, walk_from, walk_block, walk_get, walk_put, walk_uncaught}
use Rattle.cyc_select.proofs.relation.Standing.{Standing, stage_of}
use Rattle.cyc_select.proofs.relation.Matches.{After, steps_to, At, Reached, reached, reached_at, within}
use Rattle.cyc_select.proofs.steps.Simple.{held, gets, gives_register}

module _ (program : Program) (well : IsWellFormed program) (frames : List Frame) (fit : AreFrames program frames) (code : Labelled) (formed : IsFormed code) (addresses : ℕ → ℕ) (pages calls : ℕ) (few : calls ≤ 4096)
    (c : Configuration)
    (run : labelled.Configuration) (r : Words) (w : Contents) (base back : ℕ)
    (now : At program well frames fit code formed addresses pages calls few (instruction_line program frames c.active.function c.active.next) c.output c.input r w run)
    (s : Standing program frames addresses pages calls c r w base back (stage_of frames c) c.active.slots)
    (caches : Caches program frames c.active.function c.active.next r c.active.slots) where
  abbrev here : ℕ
  here = instruction_line program frames c.active.function c.active.next

  abbrev frame : Frame
  frame = frame_at frames c.active.function

  abbrev slots : ℕ
  slots = (routine_at program c.active.function).slots

  abbrev Goes : (least lo hi : ℕ) → State → Type 0
  Goes least lo hi t = Walk code formed addresses globals_length (words_per_call * calls) least lo hi c.output (After program pages calls c) (Reached program well frames fit code formed addresses pages calls few c) t

  abbrev word_of : Operand → ℕ
  word_of o = operand_word c.active.slots o

  abbrev IsAt : Instruction → Type 0
  IsAt i = instruction_at program (states.place_of (states.Running c)) ≡ Some i

  abbrev IsThere : Operand → Type 0
  IsThere o = IsOperand (routine_at program c.active.function) o × IsOfWord o

  small_is : (n : ℕ) → n < 2 ^ 15 → add_of (r 0) (sign_extended n) ≡ n
  small_is n is_small = ap (λ (x : ℕ). add_of x (sign_extended n)) s.zero_is ∙ (add_small 0 n is_small (omega arith) ∙ (let e : 0 + n ≡ n = omega arith in e))

  -- ---- bytes

  read_word : (input : List ℕ) → AllByRecursion IsWord input → IsWord (byte_of input)
  read_word [] all = omega arith
  read_word (b ∷ input) (first, rest) = first

  read_rest : (input : List ℕ) → AllByRecursion IsWord input → AllByRecursion IsWord (drop 1 input)
  read_rest [] all = tt
  read_rest (b ∷ input) (first, rest) = rest

  pub read_goes : (destination : ℕ) → IsAt (plain.ReadByte destination) → destination < slots → Stands code here (body program frames c.active.function here (plain.ReadByte destination))
      → Goes 1 here (here + body_count program frames c.active.function (plain.ReadByte destination)) (Running run)
  read_goes destination at_i below stands =
      let following = stands_back code here (ordinary (small 2 1 ∷ [])) (ordinary (syscall ∷ give_code frame 2 destination)) stands in
      let hi : ℕ = here + (2 + give_count frame destination) in
      let read : Words = put (after_r (small 2 1 ∷ []) r w) 2 (byte_of c.input) in
      walk_few code formed addresses globals_length (words_per_call * calls) 1 (1 + 1) here hi c.output _ (Running run) (omega arith)
      (walk_block code formed addresses globals_length (words_per_call * calls) (small 2 1 ∷ []) 1 here here hi c.output c.input _ r w run now (stands.0, tt) (refl, tt) (omega arith)
      (λ d later.
      walk_get code formed addresses globals_length (words_per_call * calls) 0 (here + 1) (here + 1) hi c.output c.input _ (after_r (small 2 1 ∷ []) r w) w d later following.0 (omega arith) (small_is 1 (omega arith)) (read_word c.input s.input) has_read
      (λ e after.
      walk_few code formed addresses globals_length (words_per_call * calls) 0 1 (suc (here + 1)) hi c.output _ (Running e) (omega arith)
      (walk_from code formed addresses globals_length (words_per_call * calls) 1 (suc (here + 1)) (here + 1 + 1) hi c.output _ (Running e) (omega arith)
      (gives_register program well frames fit code formed addresses pages calls few c run r w base back now s caches (plain.ReadByte destination) at_i refl destination (byte_of c.input) (drop 1 c.input) (gets program well frames fit code formed addresses pages calls few c run r w base back now s caches destination) below refl (read_rest c.input s.input) (here + 1 + 1) (2 + give_count frame destination) 2 read e after
      (record {
        zero_same = refl;
        base_same = refl;
        lowest_same = refl;
        back_same = refl;
        lasts_same = refl;
        values_same = λ n low high other. put-other (put r 2 _) 2 n (byte_of c.input) (λ x. absurd (omega (arith, x, low))) ∙ put-other r 2 n _ (λ x. absurd (omega (arith, x, low)));
      })
      refl (read_word c.input s.input) (omega arith) (omega arith) following.1)))))
    where
      next : Configuration
      next = record c { active = record c.active { next = c.active.next + 1; slots = put c.active.slots destination (byte_of c.input) }; input = drop 1 c.input }

      -- After the system call has read a byte, the byte still has to be written to its slot.
      has_read : (t : State) → labelled.status_of t ≡ simulation.Running → labelled.output_of t ≡ c.output → labelled.input_of t ≡ drop 1 c.input → After program pages calls c t
      has_read t running output left = (
        running,
        states.Running next,
        steps_to program well frames fit code formed addresses pages calls few c zeros (plain.ReadByte destination) (states.Running next) (zeros_at program c (plain.ReadByte destination) at_i refl) at_i refl
            (within program well frames fit code formed addresses pages calls few next s.laid.paged s.deep),
        seen_same (labelled.output_of t) c.output (labelled.input_of t) (drop 1 c.input) output left,
      )

  pub write_goes : (source : Operand) → IsAt (plain.WriteByte source) → IsThere source → Stands code here (body program frames c.active.function here (plain.WriteByte source)) → Goes 1 here (here + (load_count source + 2)) (Running run)
  write_goes source at_i there stands =
      let is : List Instr = load_code frame ARGUMENT source in
      let last : List Instr = small SERVICE PUT_BYTE ∷ syscall ∷ [] in
      let puts = load_puts globals_length (words_per_call * calls) frame (r FRAME) w r c.active.slots r w s.zero_is refl refl (λ n low high. refl) ARGUMENT refl source (held program well frames fit code formed addresses pages calls few c run r w base back now s caches (plain.WriteByte source) at_i source (λ slot is. is) there) in
      let keeps = puts_keeps globals_length (words_per_call * calls) is r w ARGUMENT _ _ FIRST (argument_scratch globals_length (words_per_call * calls)) (argument_aside globals_length (words_per_call * calls) FIRST) puts in
      let following = stands_after code here is last stands in
      let long : length is ≡ load_count source = length_load frame ARGUMENT source in
      let q : Words = after_r is r w in
      let service : add_of (after_r is r w 0) (sign_extended 2) ≡ 2 = ap (λ (x : ℕ). add_of x (sign_extended 2)) keeps.zero ∙ small_is 2 (omega arith) in
      walk_few code formed addresses globals_length (words_per_call * calls) 1 (length is + (1 + 1)) here (here + (load_count source + 2)) c.output _ (Running run) (omega arith)
      (walk_block code formed addresses globals_length (words_per_call * calls) is (1 + 1) here here (here + (load_count source + 2)) c.output c.input _ r w run now
      (stands_first code here is last stands) keeps.safe (omega arith)
      (λ d later.
      walk_block code formed addresses globals_length (words_per_call * calls) (small SERVICE PUT_BYTE ∷ []) 1 (here + length is) (here + length is) (here + (load_count source + 2)) c.output c.input _ (after_r is r w) (after_w is r w) d later
      (following.0, tt) (refl, tt) (omega arith)
      (λ e after.
      walk_put code formed addresses globals_length (words_per_call * calls) (here + length is + 1) (here + length is + 1) (here + (load_count source + 2)) c.output c.input _ (put (after_r is r w) 2 (add_of (after_r is r w 0) (sign_extended 2))) (after_w is r w) e after following.1.0 (omega arith) (omega (arith, long)) service
      (λ f printed.
      reached_at program well frames fit code formed addresses pages calls few c (plain.WriteByte source) at_i refl r w base back s caches
      (record c { active = record c.active { next = c.active.next + 1 }; output = c.output ++ word_of source % 256 ∷ [] }) (here + length is + 1 + 1) f (put (after_r is r w) 2 (add_of (after_r is r w 0) (sign_extended 2))) (after_w is r w) refl refl refl refl refl refl refl refl refl
      (omega (arith, line_next program frames c.active.function c.active.next (plain.WriteByte source) at_i, long)) keeps.zero keeps.base keeps.lowest keeps.back keeps.lasts
      (λ n low high. put-other (after_r is r w) 2 n _ (λ x. absurd (omega (arith, x, low))) ∙ all_same (after_r is r w) r keeps.values n low high) keeps.memory (λ slot. refl) (eqb_next c.active.next)
      (subst (λ (x : ℕ). At program well frames fit code formed addresses pages calls few (here + length is + 1 + 1) (c.output ++ x % 256 ∷ []) c.input (put (after_r is r w) 2 (add_of (after_r is r w 0) (sign_extended 2))) (after_w is r w) f) puts.result printed)))))

  -- ---- the end by an uncaught exception

  pub uncaught_goes : (tag : ℕ) (value : Operand) → IsAt (plain.Uncaught tag value) → IsThere value → IsWord tag → Stands code here (body program frames c.active.function here (plain.Uncaught tag value)) → Goes 1 here (here + (word_count tag + load_count value + 2)) (Running run)
  uncaught_goes tag value at_i there fits stands =
      let is : List Instr = word_code ARGUMENT tag in
      let js : List Instr = load_code frame SECOND_ARGUMENT value in
      let last : List Instr = small SERVICE END_UNCAUGHT ∷ syscall ∷ [] in
      let first = word_puts globals_length (words_per_call * calls) r w ARGUMENT tag s.zero_is refl fits in
      let keeps = puts_keeps globals_length (words_per_call * calls) is r w ARGUMENT _ _ FIRST (argument_scratch globals_length (words_per_call * calls)) (argument_aside globals_length (words_per_call * calls) FIRST) first in
      let second = load_puts globals_length (words_per_call * calls) frame (r FRAME) w r c.active.slots (after_r is r w) (after_w is r w) (keeps.zero ∙ s.zero_is) keeps.base keeps.memory (all_same (after_r is r w) r keeps.values)
      SECOND_ARGUMENT refl value (held program well frames fit code formed addresses pages calls few c run r w base back now s caches (plain.Uncaught tag value) at_i value (λ slot is. is) there) in
      let q : Words = after_r js (after_r is r w) (after_w is r w) in
      let zero : q 0 ≡ 0 = second.others ZERO (omega arith) (λ e. absurd (omega (arith, e))) ∙ (keeps.zero ∙ s.zero_is) in
      let service : add_of (q 0) (sign_extended 4) ≡ 4 = ap (λ (x : ℕ). add_of x (sign_extended 4)) (zero ∙ sym s.zero_is) ∙ small_is 4 (omega arith) in
      let tagged : q ARGUMENT ≡ tag = second.others ARGUMENT (omega arith) (λ e. absurd (omega (arith, e))) ∙ first.result in
      let same : Uncaught (q ARGUMENT) (signed (q SECOND_ARGUMENT)) ≡ Uncaught tag (signed (word_of value)) =
      ap (λ (x : ℕ). Uncaught x (signed (q SECOND_ARGUMENT))) tagged ∙ ap (λ (x : ℕ). Uncaught tag (signed x)) second.result in
      let following = stands_after code here is (js ++ last) stands in
      let at_last = stands_after code (here + length is) js last following in
      let hi : ℕ = here + (word_count tag + load_count value + 2) in
      let long : length is ≡ word_count tag = length_word ARGUMENT tag in
      let more : length js ≡ load_count value = length_load frame SECOND_ARGUMENT value in
      walk_few code formed addresses globals_length (words_per_call * calls) 1 (length is + (length js + (1 + 1))) here hi c.output _ (Running run) (omega arith)
      (walk_block code formed addresses globals_length (words_per_call * calls) is (length js + (1 + 1)) here here hi c.output c.input _ r w run now (stands_first code here is (js ++ last) stands) first.safe (omega arith)
      (λ d later.
      walk_block code formed addresses globals_length (words_per_call * calls) js (1 + 1) (here + length is) (here + length is) hi c.output c.input _ (after_r is r w) (after_w is r w) d later (stands_first code (here + length is) js last following) second.safe (omega arith)
      (λ e after.
      walk_block code formed addresses globals_length (words_per_call * calls) (small SERVICE END_UNCAUGHT ∷ []) 1 (here + length is + length js) (here + length is + length js) hi c.output c.input _ q (after_w js (after_r is r w) (after_w is r w)) e after (at_last.0, tt) (refl, tt) (omega arith)
      (λ f prepared.
      walk_uncaught code formed addresses globals_length (words_per_call * calls) (here + length is + length js + 1) (here + length is + length js + 1) hi c.output c.input _ (put q 2 (add_of (q 0) (sign_extended 4))) (after_w js (after_r is r w) (after_w is r w)) f prepared at_last.1.0 (omega arith) (omega (arith, long, more)) service
      (reached program well frames fit code formed addresses pages calls few c zeros (plain.Uncaught tag value) (states.Ended (Uncaught tag (signed (word_of value))) c.output c.input) _ (zeros_at program c (plain.Uncaught tag value) at_i refl) at_i refl
      (over_within pages calls (Uncaught tag (signed (word_of value))) c.output c.input)
      (ap (λ (x : Ending). Ended x c.output c.input) same))))))
