-- The simulation of the instructions that open and close exception handlers, and of the lines at which an exception arrives.
use Rattle.std.proofs.Common.{◌≡◌, ℕ, suc, ◌+◌, ◌*◌, ◌<◌, ◌≤◌, Bool, true, false, List, [], ◌∷◌, ◌++◌, length, Some, slice_get, refl, sym, ap, subst, ◌∙◌, arith, inl, inr}
use Rattle.std.specs.Prelude.{◌==◌, if◌then◌else◌}
use Rattle.std.proofs.lemmas.Bool.{or_left, false≢true}
use Rattle.cyc_words.specs.Word.{IsWord, add_of, sign_extended}
use Rattle.cyc_words.proofs.Numbers.{eqb_next}
use Rattle.cyc_plain.specs.inside.Uses.{is_among}
use Rattle.cyc_isa.specs.Effect.{memory_address}
use Rattle.cyc_isa.specs.declared.instr.Instr.{Instr}
use Rattle.cyc_machine_model.specs.State.{globals_length, words_per_call}
use Rattle.cyc_machine_model.specs.declared.constants.TheConstants.{ARGUMENT, RETURN_ADDRESS, SECOND_ARGUMENT}
use Rattle.cyc_plain.specs.declared.instruction.Instruction.{Instruction}
use Rattle.cyc_plain.specs.declared.instruction.Instruction.TheVariants as plain
use Rattle.cyc_plain.specs.inside.Program.{Program, routine_at}
use Rattle.cyc_plain.specs.inside.State as states
use Rattle.cyc_plain.specs.inside.State.{Words, AreWords, put, copied, Handler, Open, Caught, Configuration}
use Rattle.cyc_plain.specs.inside.Step.{Choice, is_intact, opens, tries, closes, instruction_at, performed, advanced}
use Rattle.cyc_plain.specs.inside.WellFormed.{IsTryInRange, IsWellFormed}
use Rattle.cyc_plain.proofs.SlotLaws.{put-other, copied-below, copied-above}
use Rattle.cyc_plain.proofs.RunLaws.{zeros, zeros_at, lies_at}
use Rattle.cyc_plain.proofs.WordLaws.{either_word}
use Rattle.cyc_registers.specs.inside.Interference.{AreHomes}
use Rattle.cyc_frame.specs.inside.Layout.{AreFrames, frame_at}
use Rattle.cyc_frame.specs.inside.Frame.{Frame}
use Rattle.cyc_select.specs.declared.constants.TheConstants.{FRAME, LOWEST, HANDLERS, REGIONS, GLOBALS}
use Rattle.cyc_select.specs.declared.code.Line.{Line}
use Rattle.cyc_select.specs.declared.code.Line.TheVariants as lines
use Rattle.cyc_select.specs.inside.Labelled.{Labelled, IsFormed, IsReturnPoint, AreAddresses}
use Rattle.cyc_select.specs.inside.Machine as labelled
use Rattle.cyc_select.specs.inside.Machine.{State, Running}
use Rattle.cyc_select.specs.inside.Instructions.{load, slot_offset}
use Rattle.cyc_select.specs.inside.Slots.{reloads, store_all}
use Rattle.cyc_select.specs.inside.Operands.{reload_count}
use Rattle.cyc_select.specs.inside.Counts.{instruction_line}
use Rattle.cyc_select.specs.inside.Selection.{ordinary, recorded_code, caught_code, opened_code, body}
use Rattle.cyc_select.proofs.values.Blocks.{lasting_same, safe_append}
use Rattle.cyc_select.proofs.steps.Calls.{length_ordinary}
use Rattle.cyc_select.proofs.relation.Cells.{IsCell}
use Rattle.cyc_select.proofs.layout.Lines.{line_next}
use Rattle.cyc_select.proofs.relation.Matches.{After, At, Landed, Reached, reached, within}
use Rattle.cyc_select.proofs.values.Operations.{add_small}
use Rattle.cyc_select.proofs.steps.Requests.{are_stored}
use Rattle.cyc_select.proofs.relation.Waiting.{left_same, preserved_of, Lies, IsNewest, saves_at}
use Rattle.cyc_select.proofs.relation.Standing.{under_way, Stage, stage_of, Standing, lies, slot_inside, slot_address, slot_cell, slot_word_is, standing_registers, standing_handlers, standing_at, standing_slot}
use Rattle.cyc_select.proofs.relation.Values.{Caches, caches_past, barred_kept, unbarred, among, not_among, length_reloads, reloaded}
use Rattle.cyc_select.proofs.effects.Views.{Contents, written}
use Rattle.cyc_select.proofs.effects.Sequences.{Stands, stands_front, stands_back, after_r, after_w, after_r-append, after_w-append, AreSafe}
use Rattle.cyc_select.proofs.effects.Walks.{Walk, now_at, now_is, walk_end, walk_few, walk_block, walk_jump, walk_call}
use Rattle.cyc_select.proofs.steps.Records.{record_words, recorded, recorded_is, holds_four}

module _ (program : Program) (well : IsWellFormed program) (frames : List Frame) (fit : AreFrames program frames) (code : Labelled) (formed : IsFormed code) (addresses : ℕ → ℕ) (pages calls : ℕ) (few : calls ≤ 4096)
    (lie : AreAddresses code addresses) (c : Configuration)
    (range_of : (function index first handler : ℕ) → instruction_at program (record { function = function; index = index }) ≡ Some (plain.Try first handler) → IsTryInRange (routine_at program function) first handler)
    (lands_at : (function index first handler : ℕ) → instruction_at program (record { function = function; index = index }) ≡ Some (plain.Try first handler) → IsReturnPoint code (instruction_line program frames function index + 3)) where
  abbrev frame : Frame
  frame = frame_at frames c.active.function

  abbrev slots : ℕ
  slots = (routine_at program c.active.function).slots

  abbrev here : ℕ
  here = instruction_line program frames c.active.function c.active.next

  abbrev Goes : (least lo hi : ℕ) → State → Type 0
  Goes least lo hi t = Walk code formed addresses globals_length (words_per_call * calls) least lo hi c.output (After program pages calls c) (Reached program well frames fit code formed addresses pages calls few c) t

  abbrev IsAt : Instruction → Type 0
  IsAt i = instruction_at program (states.place_of (states.Running c)) ≡ Some i

  -- ---- an exception arrives at a handler

  module _ (t : State) (l : Landed program well frames fit code formed addresses pages calls few c t) (stands : Stands code (here + 3) (ordinary (caught_code frame l.first) ++ lines.Jump (instruction_line program frames c.active.function l.handler) ∷ [])) where
    abbrev c0 : Configuration
    c0 = record c { active = record c.active { handlers = l.handlers } }

    abbrev back : ℕ
    back = l.w.words (l.base + 4 * frame.return_address)

    saved : stage_of frames c ≡ under_way true
    saved = ap under_way (saves_at program frames fit c.active.function c.active.next (plain.Try l.first l.handler) l.standing.known l.opened refl)

    inside : l.first + 4 ≤ slots
    inside = (range_of c.active.function c.active.next l.first l.handler l.opened).record_in_range

    abbrev stores : List Instr
    stores = store_all frame l.first (ARGUMENT ∷ SECOND_ARGUMENT ∷ [])

    abbrev m : Contents
    m = after_w stores l.r l.w

    abbrev read_again : List Instr
    read_again = reloads frame

    pub catch_goes : Goes 1 (here + 3) (here + (8 + reload_count frame)) (Running l.run)
    catch_goes =
        let all = are_stored program well frames fit addresses pages calls few c0 l.r l.base back (under_way true) l.first (ARGUMENT ∷ SECOND_ARGUMENT ∷ []) l.w l.waiting (omega (arith, inside)) l.standing in
        let next : Configuration = record c { active = record c.active { next = l.handler; handlers = l.handlers } } in
        let in_slots : Standing program frames addresses pages calls c0 l.r m l.base back (under_way true) c.active.slots =
        subst (λ (x : Words). Standing program frames addresses pages calls c0 l.r m l.base back (under_way true) x) (sym l.slots) all.standing in
        let right = fit.homes c.active.function l.standing.known in
        let again = reloaded globals_length (words_per_call * calls) program frames c.active.function right l.handler l.r m c.active.slots
        (λ slot below. slot_cell program well frames fit addresses pages calls few c0 l.r m l.base back (under_way true) c.active.slots in_slots slot below)
        (λ slot below slot_kept. slot_word_is program well frames fit addresses pages calls few c0 l.r m l.base back (under_way true) c.active.slots in_slots slot below slot_kept)
        (λ slot k has wanted unkept. absurd (false≢true (sym unkept ∙ right.clause c.active.next l.first l.handler slot l.opened wanted))) in
        let final : Words = after_r read_again l.r m in
        let registers : after_r (stores ++ read_again) l.r l.w ≡ after_r read_again l.r m =
        after_r-append stores read_again l.r l.w ∙ ap (λ (q : Words). after_r read_again q m) all.same in
        let memory : after_w (stores ++ read_again) l.r l.w ≡ m =
        after_w-append stores read_again l.r l.w ∙ (ap (λ (q : Words). after_w read_again q m) all.same ∙ again.memory) in
        let safe_again = subst (λ (q : Words). AreSafe globals_length (words_per_call * calls) read_again q m) (sym all.same) again.safe in
        let in_final = standing_registers program well frames fit addresses pages calls few c0 l.r m l.base back (under_way true) c.active.slots in_slots final
        (again.others 0 (inl (omega arith))) (again.others FRAME (inr (omega arith))) (again.others LOWEST (inr (omega arith))) (λ outside. again.others RETURN_ADDRESS (inr (omega arith)))
        (lasting_same final l.r (again.others HANDLERS (inr (omega arith))) (again.others REGIONS (inr (omega arith))) (again.others GLOBALS (inr (omega arith))))
        (λ j past high. again.aside (17 + j) (λ slot has. absurd (let own = right.saved_registers slot (17 + j) has (omega arith) in omega (arith, own, past)))) in
        let at_next = standing_at program well frames fit addresses pages calls few c0 final m l.base back (under_way true) c.active.slots in_final next refl refl refl refl refl refl l.standing.input in
        let with_way = subst (λ (x : Stage). Standing program frames addresses pages calls next final m l.base back x c.active.slots) (sym saved) at_next in
        let does : performed program zeros c (plain.Try l.first l.handler) ≡ states.Running next = ap (tries zeros c l.first l.handler) l.caught in
        let long : length (caught_code frame l.first) ≡ 2 + reload_count frame = (let e : suc (suc (length (reloads frame))) ≡ 2 + reload_count frame = omega (arith, length_reloads frame) in e) in
        let hi : ℕ = here + (8 + reload_count frame) in
        walk_few code formed addresses globals_length (words_per_call * calls) 1 (length (caught_code frame l.first) + 1) (here + 3) hi c.output _ (Running l.run) (omega arith)
        (walk_block code formed addresses globals_length (words_per_call * calls) (caught_code frame l.first) 1 (here + 3) (here + 3) hi c.output c.input _ l.r l.w l.run l.now
        (stands_front code (here + 3) (ordinary (caught_code frame l.first)) (lines.Jump (instruction_line program frames c.active.function l.handler) ∷ []) stands) (safe_append globals_length (words_per_call * calls) stores read_again l.r l.w all.safe safe_again) (omega arith)
        (λ d later.
        walk_jump code formed addresses globals_length (words_per_call * calls) 0 (here + 3 + length (caught_code frame l.first)) (here + 3 + length (caught_code frame l.first)) hi c.output c.input _ final m d (instruction_line program frames c.active.function l.handler)
        (now_is code formed addresses globals_length (words_per_call * calls) (here + 3 + length (caught_code frame l.first)) c.output c.input (after_r (stores ++ read_again) l.r l.w) (after_w (stores ++ read_again) l.r l.w) final m d registers memory later)
        (subst (λ (n : ℕ). slice_get code.lines (here + 3 + n) ≡ Some (lines.Jump (instruction_line program frames c.active.function l.handler))) (length_ordinary (caught_code frame l.first))
        (stands_back code (here + 3) (ordinary (caught_code frame l.first)) (lines.Jump (instruction_line program frames c.active.function l.handler) ∷ []) stands).0) (omega arith)
        (λ e jumped.
        walk_end code formed addresses globals_length (words_per_call * calls) (suc (here + 3 + length (caught_code frame l.first))) hi c.output _ (Running e) (omega (arith, long))
        (reached program well frames fit code formed addresses pages calls few c zeros (plain.Try l.first l.handler) (states.Running next) (Running e) (zeros_at program c (plain.Try l.first l.handler) l.opened refl) l.opened does
        (within program well frames fit code formed addresses pages calls few next l.standing.laid.paged l.standing.deep)
        (inl (record {
          run = e;
          r = final;
          w = m;
          base = l.base;
          back = back;
          is = refl;
          now = jumped;
          standing = with_way;
          caches = again.caches;
        }))))))

  module _ (run : labelled.Configuration) (r : Words) (w : Contents) (base back : ℕ)
      (now : At program well frames fit code formed addresses pages calls few here c.output c.input r w run)
      (s : Standing program frames addresses pages calls c r w base back (stage_of frames c) c.active.slots)
      (caches : Caches program frames c.active.function c.active.next r c.active.slots) where
    homes_right : AreHomes program (routine_at program c.active.function) (frame_at frames c.active.function).saved (frame_at frames c.active.function).homes
    homes_right = fit.homes c.active.function s.known

    -- ---- a handler is closed

    -- `IsClosed` says that the innermost handler is the one whose record begins at the slot `first`.
    record IsClosed (first : ℕ) (handlers : List Handler) : Type 0 where
      pub contents : Words
      pub rest : List Handler
      pub intact : is_intact c.active.slots first contents ≡ true
      pub does : closes c first handlers ≡ states.Running (advanced (record c { active = record c.active { handlers = rest } }))
      pub newest : IsNewest program frames addresses (contents 0) base c.active.function rest c.frames

    abbrev gone : List Handler → states.State
    gone handlers = states.Running (advanced (record c { active = record c.active { handlers = handlers } }))

    find_closed : (first newest : ℕ) (handlers : List Handler) → IsNewest program frames addresses newest base c.active.function handlers c.frames
        → (closes c first handlers ≡ states.Stuck c.output c.input → ⊥) → IsClosed first handlers
    find_closed first newest [] records never = absurd (never refl)
    find_closed first newest (Caught ∷ handlers) records never = absurd records
    find_closed first newest (Open index other contents ∷ handlers) (one, others) never =
        go (other == first) (is_intact c.active.slots first contents) refl refl (λ again. find_closed first (contents 0) handlers others again)
      where
        go : (is whole : Bool) → (other == first) ≡ is → is_intact c.active.slots first contents ≡ whole → ((closes c first handlers ≡ states.Stuck c.output c.input → ⊥) → IsClosed first handlers) → IsClosed first (Open index other contents ∷ handlers)
        go true true same intact later = record {
          contents = contents;
          rest = handlers;
          intact = intact;
          does = ap (λ (b : Bool). if b then (if is_intact c.active.slots first contents then gone handlers else states.Stuck c.output c.input) else closes c first handlers) same
              ∙ ap (λ (b : Bool). if b then gone handlers else states.Stuck c.output c.input) intact;
          newest = others;
        }
        go true false same broken later =
            absurd (never (ap (λ (b : Bool). if b then (if is_intact c.active.slots first contents then gone handlers else states.Stuck c.output c.input) else closes c first handlers) same
            ∙ ap (λ (b : Bool). if b then gone handlers else states.Stuck c.output c.input) broken))
        go false whole same intact later =
            let skips : closes c first (Open index other contents ∷ handlers) ≡ closes c first handlers =
            ap (λ (b : Bool). if b then (if is_intact c.active.slots first contents then gone handlers else states.Stuck c.output c.input) else closes c first handlers) same in
            let found = later (λ stuck. never (skips ∙ stuck)) in
            record { contents = found.contents; rest = found.rest; intact = found.intact; does = skips ∙ found.does; newest = found.newest }

    pub leave_goes : (first : ℕ) → IsAt (plain.Leave first) → first + 4 ≤ slots → (performed program zeros c (plain.Leave first) ≡ states.Stuck c.output c.input → ⊥)
        → Stands code here (body program frames c.active.function here (plain.Leave first)) → Goes 1 here (here + 1) (Running run)
    leave_goes first at_i inside never stands =
        let found = find_closed first (r HANDLERS) c.active.handlers s.newest never in
        let below : first < slots = omega (arith, inside) in
        let closing : List Instr = load HANDLERS (slot_offset frame first) ∷ [] in
        let q : Words = after_r (load HANDLERS (slot_offset frame first) ∷ []) r w in
        let is : q HANDLERS ≡ found.contents 0 =
        slot_word_is program well frames fit addresses pages calls few c r w base back (stage_of frames c) c.active.slots s first below
        (barred_kept program frames c.active.function homes_right c.active.next first (plain.Leave first) at_i (among first 4 first (omega arith) (omega arith))) ∙ (holds_four c.active.slots first found.contents found.intact).zeroth in
        let next : Configuration = advanced (record c { active = record c.active { handlers = found.rest } }) in
        let c0 : Configuration = record c { active = record c.active { handlers = found.rest } } in
        let in_rest = standing_handlers program well frames fit addresses pages calls few c r w base back (stage_of frames c) c.active.slots s found.rest q refl refl refl refl refl refl
        (λ j past high. put-other r HANDLERS (17 + j) _ (λ e. absurd (omega (arith, e, high))))
        (subst (λ (n : ℕ). IsNewest program frames addresses n base c.active.function found.rest c.frames) (sym is) found.newest) in
        let at_next = standing_at program well frames fit addresses pages calls few c0 q w base back (stage_of frames c) c.active.slots in_rest next refl refl refl refl refl refl s.input in
        let line : here + 1 ≡ instruction_line program frames c.active.function (c.active.next + 1) = omega (arith, line_next program frames c.active.function c.active.next (plain.Leave first) at_i) in
        walk_few code formed addresses globals_length (words_per_call * calls) 1 (1 + 0) here (here + 1) c.output _ (Running run) (omega arith)
        (walk_block code formed addresses globals_length (words_per_call * calls) closing 0 here here (here + 1) c.output c.input _ r w run now stands
        ((refl, slot_cell program well frames fit addresses pages calls few c r w base back (stage_of frames c) c.active.slots s first below), tt) (omega arith)
        (λ d later.
        walk_end code formed addresses globals_length (words_per_call * calls) (here + 1) (here + 1) c.output _ (Running d) (omega arith)
        (reached program well frames fit code formed addresses pages calls few c zeros (plain.Leave first) (states.Running next) (Running d) (zeros_at program c (plain.Leave first) at_i refl) at_i found.does
        (within program well frames fit code formed addresses pages calls few next s.laid.paged s.deep)
        (inl (record {
          run = d;
          r = q;
          w = w;
          base = base;
          back = back;
          is = refl;
          now = now_at code formed addresses globals_length (words_per_call * calls) (here + 1) (instruction_line program frames c.active.function (c.active.next + 1)) c.output c.input q w d line later;
          standing = at_next;
          caches =
              caches_past program frames c.active.function homes_right c.active.next (c.active.next + 1) r q c.active.slots c.active.slots (plain.Leave first) at_i (eqb_next c.active.next)
              (λ slot k has. refl) (λ slot k has. refl) (λ n low high. put-other r HANDLERS n _ (λ e. absurd (omega (arith, e, high)))) caches;
        })))))

    -- ---- a handler is opened

    module _ (first handler : ℕ) (at_i : IsAt (plain.Try first handler)) (in_range : IsTryInRange (routine_at program c.active.function) first handler)
        (stands : Stands code here (body program frames c.active.function here (plain.Try first handler))) where
      stored : stage_of frames c ≡ under_way true
      stored = ap under_way (saves_at program frames fit c.active.function c.active.next (plain.Try first handler) s.known at_i refl)

      -- The frame of the active call contains its return address.
      s0 : Standing program frames addresses pages calls c r w base back (under_way true) c.active.slots
      s0 = subst (λ (x : Stage). Standing program frames addresses pages calls c r w base back x c.active.slots) stored s

      in_record : first + 4 ≤ slots
      in_record = in_range.record_in_range

      -- Storing a register's word at a slot's word of the frame writes this slot and keeps `Standing` (registers and memory represent the
      -- calls).
      put_slot : (q : Words) (m : Contents) (there : Words) (slot word : ℕ) → slot < slots → Standing program frames addresses pages calls c q m base back (under_way true) there
          → Standing program frames addresses pages calls c q (written m (memory_address (q FRAME) (slot_offset frame slot)) word) base back (under_way true) (put there slot word)
      put_slot q m there slot word below stands =
          subst (λ (a : ℕ). Standing program frames addresses pages calls c q (written m a word) base back (under_way true) (put there slot word))
          (sym (slot_address program well frames fit addresses pages calls few c q m base back (under_way true) there stands slot below))
          (standing_slot program well frames fit addresses pages calls few c q m base back (under_way true) there stands slot word below)

      abbrev before : List Instr
      before = recorded_code frame first

      abbrev after : List Instr
      after = opened_code frame first

      abbrev w1 : Contents
      w1 = written w (memory_address (r FRAME) (slot_offset frame first)) (r HANDLERS)

      abbrev w2 : Contents
      w2 = written w1 (memory_address (r FRAME) (slot_offset frame (first + 1))) (r FRAME)

      abbrev slots2 : Words
      slots2 = put (put c.active.slots first (r HANDLERS)) (first + 1) (r FRAME)

      s2 : Standing program frames addresses pages calls c r w2 base back (under_way true) slots2
      s2 =
          put_slot r w1 (put c.active.slots first (r HANDLERS)) (first + 1) (r FRAME) (omega (arith, in_record))
          (put_slot r w c.active.slots first (r HANDLERS) (omega (arith, in_record)) s0)

      -- Returns the address of the line at which an exception arrives.
      abbrev landing : ℕ
      landing = addresses (here + 2 + 1)

      landing_is : landing ≡ addresses (here + 3)
      landing_is = ap addresses (let e : here + 2 + 1 ≡ here + 3 = omega arith in e)

      landing_word : IsWord landing
      landing_word = omega (arith, landing_is, lie.below (here + 3) (lands_at c.active.function c.active.next first handler at_i).inside)

      abbrev r1 : Words
      r1 = put r RETURN_ADDRESS (addresses (here + 2 + 1))

      abbrev w3 : Contents
      w3 = written w2 (memory_address (r1 FRAME) (slot_offset frame (first + 2))) (r1 RETURN_ADDRESS)

      abbrev slots3 : Words
      slots3 = recorded c.active.slots first (r HANDLERS) (r FRAME) (addresses (here + 2 + 1))

      s3 : Standing program frames addresses pages calls c r1 w3 base back (under_way true) slots3
      s3 =
          put_slot r1 w2 slots2 (first + 2) (addresses (here + 2 + 1)) (omega (arith, in_record))
          (standing_registers program well frames fit addresses pages calls few c r w2 base back (under_way true) slots2 s2 r1 refl refl refl (λ outside. absurd (let e : true ≡ false = outside in cc)) refl
          (λ j past high. put-other r RETURN_ADDRESS (17 + j) _ (λ e. absurd (omega (arith, e, high)))))

      abbrev r3 : Words
      r3 = after_r after r1 w2

      own_lies : Lies program frames fit addresses base (suc (length c.frames))
      own_lies = lies program well frames fit addresses pages calls few c r w base back (under_way true) c.active.slots s0

      newest_is : r3 HANDLERS ≡ base + slot_offset frame first
      newest_is =
          let word = slot_inside program well frames fit addresses pages calls few c r w base back (under_way true) c.active.slots s0 first (omega (arith, in_record)) in
          ap (λ (x : ℕ). add_of x (sign_extended (slot_offset frame first))) s.base_is
          ∙ add_small base (slot_offset frame first) (omega (arith, word)) (omega (arith, word, own_lies.below_end))

      abbrev contents : Words
      contents = record_words (r HANDLERS) (r FRAME) (addresses (here + 2 + 1)) (c.active.slots (first + 3))

      -- The slot of the last word of a handler's record, which opening the handler leaves unchanged, contains a machine word.
      last_word : IsWord (c.active.slots (first + 3))
      last_word =
          subst IsWord
          (slot_word_is program well frames fit addresses pages calls few c r w base back (under_way true) c.active.slots s0 (first + 3) (omega (arith, in_record))
          (barred_kept program frames c.active.function homes_right c.active.next (first + 3) (plain.Try first handler) at_i (among first 4 (first + 3) (omega arith) (omega arith))))
          (now.w_words (memory_address (r FRAME) (slot_offset frame (first + 3))))

      abbrev choice : Choice
      choice = record { contents = contents; base = 0; serving = zeros.serving }

      contents_words : AreWords contents
      contents_words j =
          either_word (j == 0) (r HANDLERS) (if j == 1 then r FRAME else (if j == 2 then addresses (here + 2 + 1) else c.active.slots (first + 3))) (now.r_words HANDLERS)
          (either_word (j == 1) (r FRAME) (if j == 2 then addresses (here + 2 + 1) else c.active.slots (first + 3)) (now.r_words FRAME)
          (either_word (j == 2) (addresses (here + 2 + 1)) (c.active.slots (first + 3)) landing_word last_word))

      abbrev opened_at : Configuration
      opened_at = record c {
        active = record c.active {
          next = c.active.next + 1;
          slots = copied contents 0 4 c.active.slots first;
          handlers = Open c.active.next first contents ∷ c.active.handlers;
        };
      }

      does : performed program choice c (plain.Try first handler) ≡ states.Running opened_at
      does = go c.active.handlers s.newest
        where
          go : (handlers : List Handler) → IsNewest program frames addresses (r HANDLERS) base c.active.function handlers c.frames → tries choice c first handler handlers ≡ opens choice c first
          go [] records = refl
          go (Open index other held_words ∷ handlers) records = refl
          go (Caught ∷ handlers) records = absurd records

      ends_at : Standing program frames addresses pages calls opened_at r3 w3 base back (under_way true) (copied contents 0 4 c.active.slots first)
      ends_at = record {
        known = s.known;
        base_is = s.base_is;
        zero_is = s.zero_is;
        lowest = s.lowest;
        deep = s.deep;
        holds = λ slot below slot_kept. s3.holds slot below slot_kept ∙ recorded_is c.active.slots first (r HANDLERS) (r FRAME) (addresses (here + 2 + 1)) slot;
        left = s3.left;
        chain = s3.chain;
        leaves = λ j high.
            left_same frame.first_saved frame.saved base (preserved_of r1) (preserved_of r3) w3 w3
            (λ i past small. put-other r1 HANDLERS (17 + i) _ (λ e. absurd (omega (arith, e, small)))) (λ i below small. refl) j high
            ∙ s3.leaves j high;
        globals = s3.globals;
        input = s.input;
        newest = (record { at = newest_is; handler = handler; opened = at_i; frame = s.base_is; line = landing_is }, s.newest);
        way = s3.way;
        based = s.based;
        store = s3.store;
        laid = s.laid;
        counted = s.counted;
        middle = s.middle;
      }

      abbrev following : List Line
      following = lines.Call (here + 6 + reload_count frame) ∷ (ordinary (caught_code frame first) ++ lines.Jump (instruction_line program frames c.active.function handler) ∷ ordinary after)

      call_stands : Stands code (here + 2) following
      call_stands = stands_back code here (ordinary before) following stands

      length_caught : length (ordinary (caught_code frame first)) ≡ 2 + reload_count frame
      length_caught = length_ordinary (caught_code frame first) ∙ (let e : suc (suc (length (reloads frame))) ≡ 2 + reload_count frame = omega (arith, length_reloads frame) in e)

      after_stands : Stands code (here + 6 + reload_count frame) (ordinary after)
      after_stands =
          subst (λ (n : ℕ). Stands code n (ordinary after)) (let e : here + 2 + 1 + length (ordinary (caught_code frame first)) + 1 ≡ here + 6 + reload_count frame = omega (arith, length_caught) in e)
          (stands_back code (here + 2 + 1) (ordinary (caught_code frame first)) (lines.Jump (instruction_line program frames c.active.function handler) ∷ ordinary after) call_stands.1).1

      -- Writing the handler's record leaves the slots outside the record unchanged.
      record_apart : (slot : ℕ) → is_among first 4 slot ≡ false → copied contents 0 4 c.active.slots first slot ≡ c.active.slots slot
      record_apart slot apart = elim (not_among first 4 slot apart) [
        | inl below ↦ copied-below contents c.active.slots 0 4 first slot below
        | inr above ↦ copied-above contents c.active.slots 0 4 first slot above
      ]

      pub try_goes : Goes 1 here (here + (8 + reload_count frame)) (Running run)
      try_goes =
          let frame_cell : (slot : ℕ) → slot < slots → IsCell globals_length (words_per_call * calls) (memory_address (r FRAME) (slot_offset frame slot)) =
          λ slot below. slot_cell program well frames fit addresses pages calls few c r w base back (under_way true) c.active.slots s0 slot below in
          walk_few code formed addresses globals_length (words_per_call * calls) 1 (2 + 1) here (here + (8 + reload_count frame)) c.output _ (Running run) (omega arith)
          (walk_block code formed addresses globals_length (words_per_call * calls) before 1 here here (here + (8 + reload_count frame)) c.output c.input _ r w run now
          (stands_front code here (ordinary before) following stands)
          (frame_cell first (omega (arith, in_record)), (frame_cell (first + 1) (omega (arith, in_record)), tt)) (omega arith)
          (λ d recorded_now.
          walk_call code formed addresses globals_length (words_per_call * calls) 0 (here + 2) (here + 2) (here + (8 + reload_count frame)) c.output c.input _ r w2 d (here + 6 + reload_count frame) recorded_now call_stands.0 (omega arith) landing_word
          (λ e called.
          walk_few code formed addresses globals_length (words_per_call * calls) 0 (2 + 0) (suc (here + 2)) (here + (8 + reload_count frame)) c.output _ (Running e) (omega arith)
          (walk_block code formed addresses globals_length (words_per_call * calls) after 0 (here + 6 + reload_count frame) (suc (here + 2)) (here + (8 + reload_count frame)) c.output c.input _ r1 w2 e called after_stands
          (frame_cell (first + 2) (omega (arith, in_record)), (refl, tt)) (omega arith)
          (λ f opened_now.
          walk_end code formed addresses globals_length (words_per_call * calls) (here + 6 + reload_count frame + 2) (here + (8 + reload_count frame)) c.output _ (Running f) (omega arith)
          (reached program well frames fit code formed addresses pages calls few c choice (plain.Try first handler) (states.Running opened_at) (Running f)
          (record { contents = contents_words; lies = lies_at program c (plain.Try first handler) 0 at_i refl; serves = (zeros_at program c (plain.Try first handler) at_i refl).serves }) at_i does
          (within program well frames fit code formed addresses pages calls few opened_at s.laid.paged s.deep)
          (inl (record {
            run = f;
            r = r3;
            w = w3;
            base = base;
            back = back;
            is = refl;
            now = now_at code formed addresses globals_length (words_per_call * calls) (here + 6 + reload_count frame + 2) (instruction_line program frames c.active.function (c.active.next + 1)) c.output c.input r3 w3 f
                (let e : here + 6 + reload_count frame + 2 ≡ instruction_line program frames c.active.function (c.active.next + 1) = omega (arith, line_next program frames c.active.function c.active.next (plain.Try first handler) at_i) in e) opened_now;
            standing = subst (λ (x : Stage). Standing program frames addresses pages calls opened_at r3 w3 base back x (copied contents 0 4 c.active.slots first)) (sym stored) ends_at;
            caches =
                caches_past program frames c.active.function homes_right c.active.next (c.active.next + 1) r r3 c.active.slots (copied contents 0 4 c.active.slots first) (plain.Try first handler) at_i
                (or_left (suc c.active.next == c.active.next + 1) (handler == c.active.next + 1) (eqb_next c.active.next))
                (λ slot k has. unbarred program frames c.active.function homes_right c.active.next slot k (plain.Try first handler) at_i has)
                (λ slot k has. record_apart slot (unbarred program frames c.active.function homes_right c.active.next slot k (plain.Try first handler) at_i has))
                (λ n low high.
                put-other r1 HANDLERS n _ (λ e. absurd (omega (arith, e, high))) ∙ put-other r RETURN_ADDRESS n _ (λ e. absurd (omega (arith, e, high))))
                caches;
          }))))))))
