-- The simulation of jumps and branches, including branches before which a line is hoisted.
use Rattle.std.proofs.Common.{◌≡◌, ◌≢◌, ℕ, suc, slice_get, length-append, ◌+◌, ◌-◌, ◌*◌, ◌%◌, ◌<◌, ◌≤◌, Bool, true, false, List, [], ◌∷◌, ◌++◌, length, Option, Some, None, refl, ap, subst, ◌∙◌, arith, inl, inr}
use Rattle.std.specs.Prelude.{◌==◌, ◌||◌, if◌then◌else◌}
use Rattle.std.proofs.lemmas.Bool.{cases_eq, or_left, or_right}
use Rattle.cyc_words.proofs.Numbers.{eqb_itself, eqb_next}
use Rattle.cyc_plain.specs.inside.Uses.{writes, leads}
use Rattle.cyc_isa.specs.Effect.{branch_taken, branch_zero_taken}
use Rattle.cyc_isa.specs.declared.instr.Instr.{Instr}
use Rattle.cyc_isa.specs.Decoding.{register_of}
use Rattle.cyc_machine_model.specs.State.{globals_length, words_per_call}
use Rattle.cyc_plain.specs.declared.instruction.Instruction.{Instruction}
use Rattle.cyc_plain.specs.declared.instruction.Instruction.TheVariants as plain
use Rattle.cyc_plain.specs.declared.instruction.Comparison.{Comparison}
use Rattle.cyc_plain.specs.declared.instruction.Operand.{Operand}
use Rattle.cyc_plain.specs.inside.Operators.{compares}
use Rattle.cyc_plain.specs.inside.Program.{Program, routine_at}
use Rattle.cyc_plain.specs.inside.State as states
use Rattle.cyc_plain.specs.inside.State.{Words, Configuration}
use Rattle.cyc_plain.specs.inside.Step.{instruction_at, operand_word, performed, gives, at}
use Rattle.cyc_plain.specs.inside.WellFormed.{IsOperand, IsOfWord, IsWellFormed}
use Rattle.cyc_plain.proofs.RunLaws.{zeros, calls_nothing}
use Rattle.cyc_registers.specs.inside.Liveness.{IsLiveAt}
use Rattle.cyc_frame.specs.inside.Layout.{AreFrames, frame_at}
use Rattle.cyc_frame.specs.inside.Frame.{Frame}
use Rattle.cyc_machine_model.specs.declared.constants.TheConstants.{RETURN_ADDRESS}
use Rattle.cyc_select.specs.declared.code.Line.{Line}
use Rattle.cyc_select.specs.declared.code.Condition.{Condition}
use Rattle.cyc_select.specs.declared.code.Condition.TheVariants as conditions
use Rattle.cyc_select.specs.declared.code.Line.TheVariants as lines
use Rattle.cyc_select.specs.declared.constants.TheConstants.{FIRST, SECOND, ZERO, LOWEST, FRAME, REGIONS, HANDLERS, GLOBALS}
use Rattle.cyc_select.specs.declared.plan.Plan.{Plan}
use Rattle.cyc_select.specs.declared.plan.Test.{Test}
use Rattle.cyc_select.specs.declared.plan.Test.TheVariants as tests
use Rattle.cyc_select.specs.inside.Plans.{test_of}
use Rattle.cyc_select.specs.inside.Labelled.{Labelled, IsFormed}
use Rattle.cyc_select.specs.inside.Machine as labelled
use Rattle.cyc_select.specs.inside.Machine.{State, Running, holds_of}
use Rattle.cyc_select.specs.inside.Slots.{value_register}
use Rattle.cyc_select.specs.inside.Operands.{operand_code, operand_register, operands_code, operation_of, branch_on, condition_of, test_count}
use Rattle.cyc_select.specs.inside.Hoisting.{hoisted, hoisted_count, with_hoisted, after_hoisted, is_idle}
use Rattle.cyc_select.specs.inside.Counts.{body_count, count_of, instruction_line}
use Rattle.cyc_select.specs.inside.Selection.{ordinary, branch_code, body}
use Rattle.cyc_select.proofs.values.Blocks.{all_same, lasting_same, Keeps, IsScratch, puts_keeps}
use Rattle.cyc_select.proofs.steps.Calls.{length_ordinary}
use Rattle.cyc_select.proofs.values.Computing.{IsHeld, IsComputable, operand_puts, operands_put, operation_leaves, first_scratch, first_aside}
use Rattle.cyc_select.proofs.emission.Counts.{length_test}
use Rattle.cyc_select.proofs.layout.Lines.{line_next}
use Rattle.cyc_select.proofs.values.Plans.{AllOfTest, operation_word, test_taken, test_goes, all_test}
use Rattle.cyc_select.proofs.relation.Values.{Caches, caches_past}
use Rattle.cyc_select.proofs.effects.Views.{Contents, does_r, does_w, IsSafe, moved}
use Rattle.cyc_select.proofs.effects.Sequences.{Stands, stands_front, stands_back, stands_first, stands_after, after_r, after_w}
use Rattle.cyc_select.proofs.effects.Walks.{Walk, walk_end, walk_few, walk_one, walk_block, walk_branch, walk_branch_to, at_now, walk_jump}
use Rattle.cyc_select.proofs.relation.Standing.{Standing, stage_of}
use Rattle.cyc_select.proofs.relation.Matches.{After, At, Reached, ready_by, steps_by, reached_at}
use Rattle.cyc_select.proofs.steps.Hoisting.{Hoists, hoists, first_begins, stands_at_head, copy_steps, pure_safe, pure_others, pure_memory, holds_beside, untested, of_value, writable, scratch}
use Rattle.cyc_select.proofs.steps.Simple.{homes_right, held, is_word, left_used, right_used, zero_held}

module _ (program : Program) (well : IsWellFormed program) (frames : List Frame) (fit : AreFrames program frames) (code : Labelled) (formed : IsFormed code) (addresses : ℕ → ℕ) (pages calls : ℕ) (few : calls ≤ 4096)
    (c : Configuration)
    (run : labelled.Configuration) (r : Words) (w : Contents) (base back : ℕ)
    (now : At program well frames fit code formed addresses pages calls few (instruction_line program frames c.active.function c.active.next) c.output c.input r w run)
    (s : Standing program frames addresses pages calls c r w base back (stage_of frames c) c.active.slots)
    (caches : Caches program frames c.active.function c.active.next r c.active.slots) where
  abbrev here : ℕ
  here = instruction_line program frames c.active.function c.active.next

  abbrev frame : Frame
  frame = frame_at frames c.active.function

  abbrev Goes : (least lo hi : ℕ) → State → Type 0
  Goes least lo hi t = Walk code formed addresses globals_length (words_per_call * calls) least lo hi c.output (After program pages calls c) (Reached program well frames fit code formed addresses pages calls few c) t

  abbrev word_of : Operand → ℕ
  word_of o = operand_word c.active.slots o

  abbrev IsAt : Instruction → Type 0
  IsAt i = instruction_at program (states.place_of (states.Running c)) ≡ Some i

  abbrev IsThere : Operand → Type 0
  IsThere o = IsOperand (routine_at program c.active.function) o × IsOfWord o

  abbrev Held : Operand → Type 0
  Held o = IsHeld globals_length (words_per_call * calls) frame (r FRAME) w r c.active.slots o

  abbrev KeepsHere : List Instr → Type 0
  KeepsHere is = Keeps globals_length (words_per_call * calls) is r w FIRST

  -- `IsFree` says that an instruction makes no call of the store (the heap of regions).
  abbrev IsFree : Instruction → Type 0
  IsFree i = calls_nothing i ≡ true

  -- `IsCounted` says that the MIPS lines counted for an instruction are all lines of its code, not 0 as for an
  -- instruction without machine code.
  abbrev IsCounted : Instruction → Type 0
  IsCounted i = count_of program frames c.active.function c.active.next i ≡ body_count program frames c.active.function i

  -- `IsPlanThere` says that registers or memory hold the operands of a plan (a sequence of machine operations), and the machine can
  -- compute its operation.
  abbrev IsPlanThere : Plan → Type 0
  IsPlanThere plan =
      Held plan.left × Held plan.right × IsComputable globals_length (words_per_call * calls) plan.operation (word_of plan.left) (word_of plan.right)

  -- ---- jumps

  pub jump_goes : (target : ℕ) → IsAt (plain.Jump target) → Stands code here (body program frames c.active.function here (plain.Jump target)) → Goes 1 here (here + 1) (Running run)
  jump_goes target at_i stands =
      walk_jump code formed addresses globals_length (words_per_call * calls) 0 here here (here + 1) c.output c.input _ r w run (instruction_line program frames c.active.function target) now stands.0 (omega arith)
      (λ d later.
      walk_end code formed addresses globals_length (words_per_call * calls) (suc here) (here + 1) c.output _ (Running d) (omega arith)
      (reached_at program well frames fit code formed addresses pages calls few c (plain.Jump target) at_i refl r w base back s caches (at c target) (instruction_line program frames c.active.function target) d r w refl refl refl refl refl refl refl refl refl refl refl refl refl refl refl (λ n low high. refl) refl (λ slot. refl) (eqb_itself target) later))

  -- A branch goes to the line of its target if it is taken, otherwise to the line of the next instruction.
  line_taken : (b : Bool) (target other : ℕ) (line : ℕ → ℕ) (n : ℕ) → n ≡ line other → (if b then line target else n) ≡ line (if b then target else other)
  line_taken true target other line n same = refl
  line_taken false target other line n same = same

  -- A block of instructions that leaves the tested words in two registers, followed by the branch, simulates a branch of the plain program.
  branch_plain : (i : Instruction) → IsAt i → IsFree i → (is : List Instr) (condition : Condition) (target count : ℕ) (taken : Bool) → KeepsHere is
      → holds_of (after_r is r w) condition ≡ taken → performed program zeros c i ≡ states.Running (at c (if taken then target else c.active.next + 1))
      → ((slot : ℕ) → writes program i slot ≡ false) → leads i c.active.next (if taken then target else c.active.next + 1) ≡ true
      → length is + 1 ≡ count → count_of program frames c.active.function c.active.next i ≡ count
      → Stands code here (ordinary is ++ lines.Branch condition (instruction_line program frames c.active.function target) ∷ []) → Goes count here (here + count) (Running run)
  branch_plain i at_i free is condition target count taken keeps takes does unwritten led long counted stands =
      let line : ℕ → ℕ = instruction_line program frames c.active.function in
      let last : Line = lines.Branch condition (line target) in
      let following = stands_back code here (ordinary is) (last ∷ []) stands in
      let here_is : here + length (ordinary is) ≡ here + length is = ap (λ (n : ℕ). here + n) (length_ordinary is) in
      let last_stands : slice_get code.lines (here + length is) ≡ Some last = subst (λ (n : ℕ). slice_get code.lines n ≡ Some last) here_is following.0 in
      let next : here + length is + 1 ≡ line (c.active.next + 1) = omega (arith, line_next program frames c.active.function c.active.next i at_i, counted, long) in
      let there : (if holds_of (after_r is r w) condition then line target else here + length is + 1) ≡ line (if taken then target else c.active.next + 1) =
      ap (λ (b : Bool). if b then line target else here + length is + 1) takes ∙ line_taken taken target (c.active.next + 1) line (here + length is + 1) next in
      walk_few code formed addresses globals_length (words_per_call * calls) count (length is + 1) here (here + count) c.output _ (Running run) (omega (arith, long))
      (walk_block code formed addresses globals_length (words_per_call * calls) is 1 here here (here + count) c.output c.input _ r w run now (stands_front code here (ordinary is) (last ∷ []) stands) keeps.safe (omega arith)
      (λ d later.
      walk_branch code formed addresses globals_length (words_per_call * calls) 0 (here + length is) (here + length is) (here + count) c.output c.input _ (after_r is r w) (after_w is r w) d condition (line target) (line (if taken then target else c.active.next + 1)) later last_stands (omega arith) there
      (λ e after.
      walk_end code formed addresses globals_length (words_per_call * calls) (suc (here + length is)) (here + count) c.output _ (Running e) (omega (arith, long))
      (reached_at program well frames fit code formed addresses pages calls few c i at_i free r w base back s caches (at c (if taken then target else c.active.next + 1)) (line (if taken then target else c.active.next + 1)) e (after_r is r w) (after_w is r w)
      refl refl refl refl refl refl refl refl does refl keeps.zero keeps.base keeps.lowest keeps.back keeps.lasts (all_same (after_r is r w) r keeps.values) keeps.memory unwritten led after))))

  -- ---- branches with a hoisted line

  abbrev lines_of : ℕ → ℕ
  lines_of index = instruction_line program frames c.active.function index

  -- `IsKnownFirst` says that the hoisted line is a copy of the first line of the branch target, and that it overwrites no word
  -- that is live if the branch is not taken.
  abbrev IsKnownFirst : (condition : Condition) (target : ℕ) → Option Instr → Type 0
  IsKnownFirst condition target None = Unit {0}
  IsKnownFirst condition target (Some x) =
      (its : Hoists program frames c.active.function target condition x) × (slice_get code.lines (instruction_line program frames c.active.function target) ≡ Some (lines.Ordinary x))
      × ((slot n : ℕ) → its.own ≡ Some n → value_register (frame_at frames c.active.function) slot ≡ Some n
      → IsLiveAt program (routine_at program c.active.function) slot (suc c.active.next) → ⊥)

  module _ (i : Instruction) (at_i : IsAt i) (free : IsFree i) (condition : Condition) (target : ℕ) (x : Instr) (known : IsKnownFirst condition target (Some x))
      (unwritten : (slot : ℕ) → writes program i slot ≡ false) (is : List Instr) (keeps : KeepsHere is) where
    abbrev its : Hoists program frames c.active.function target condition x
    its = known.0

    -- `q` are the registers before the hoisted copy of the branch target's first line is executed.
    abbrev q : Words
    q = after_r is r w

    abbrev p : Words
    p = does_r x (after_r is r w) (after_w is r w)

    others : (n : ℕ) → n ≢ its.register → p n ≡ q n
    others n other = pure_others x its.register q (after_w is r w) its.computes n other

    own_value : (n : ℕ) → its.own ≡ Some n → (6 ≤ n) × (n < 24)
    own_value n is =
        let gives = its.gives n is in
        ((homes_right program well frames fit code formed addresses pages calls few c run r w base back now s caches).low gives.destination n gives.has, (homes_right program well frames fit code formed addresses pages calls few c run r w base back now s caches).high gives.destination n gives.has)

    is_scratch : IsScratch globals_length (words_per_call * calls) its.register
    is_scratch = scratch condition its.own its.register its.may own_value globals_length (words_per_call * calls)

    safe_here : IsSafe globals_length (words_per_call * calls) x q
    safe_here = pure_safe globals_length (words_per_call * calls) x its.register q its.computes (writable condition its.own its.register its.may own_value)

    -- Before the hoisted line, registers hold the words of all slots that are live at either successor of the branch.
    cached : (next : ℕ) → leads i c.active.next next ≡ true → Caches program frames c.active.function next q c.active.slots
    cached next led =
        caches_past program frames c.active.function (homes_right program well frames fit code formed addresses pages calls few c run r w base back now s caches) c.active.next next r q c.active.slots c.active.slots i at_i led (λ slot k has. unwritten slot) (λ slot k has. refl) (all_same q r keeps.values) caches

    -- After the hoisted line, registers still hold the words of all slots that are live if the branch is not taken.
    cached_after : leads i c.active.next (c.active.next + 1) ≡ true → Caches program frames c.active.function (c.active.next + 1) p c.active.slots
    cached_after led slot n has wanted = elim (cases_eq n its.register) [
      | inl same ↦
          absurd (known.2 slot n (of_value condition its.own its.register its.may n ((homes_right program well frames fit code formed addresses pages calls few c run r w base back now s caches).low slot n has) ((homes_right program well frames fit code formed addresses pages calls few c run r w base back now s caches).high slot n has) same) has
          (subst (IsLiveAt program (routine_at program c.active.function) slot) (let e : c.active.next + 1 ≡ suc c.active.next = omega arith in e) wanted))
      | inr other ↦ others n other ∙ cached (c.active.next + 1) led slot n has wanted
    ]

    -- The hoisted line changes no callee-saved register that the function does not save.
    unsaved : (j : ℕ) → (frame_at frames c.active.function).saved ≤ j → j < 7 → 17 + j ≡ its.register → ⊥
    unsaved j past high same =
        let gives = its.gives (17 + j) (of_value condition its.own its.register its.may (17 + j) (omega arith) (omega (arith, high)) same) in
        let saved = (homes_right program well frames fit code formed addresses pages calls few c run r w base back now s caches).saved_registers gives.destination (17 + j) gives.has (omega arith) in
        omega (arith, saved, past)

    -- If the branch is taken, the first line of its target is already executed, as the hoisted copy.
    taken_reached : (d : labelled.Configuration) → At program well frames fit code formed addresses pages calls few (here + length is) c.output c.input q (after_w is r w) d
        → At program well frames fit code formed addresses pages calls few (lines_of target + 1) c.output c.input p (does_w x q (after_w is r w)) (labelled.at (moved d x) (lines_of target + 1))
        → performed program zeros c i ≡ states.Running (at c target) → leads i c.active.next target ≡ true → Reached program well frames fit code formed addresses pages calls few c (Running (labelled.at (moved d x) (lines_of target + 1)))
    taken_reached d before following does led =
        let ready = ready_by program well frames fit code formed addresses pages calls few c i at_i free r w base back s caches (at c target) (lines_of target) (labelled.at d (lines_of target)) q (after_w is r w)
        refl refl refl refl refl refl refl refl refl keeps.zero keeps.base keeps.lowest keeps.back keeps.lasts (λ j past high. all_same q r keeps.values (17 + j) (omega arith) (omega (arith, high))) keeps.memory (cached target led)
        (at_now code formed addresses globals_length (words_per_call * calls) (here + length is) (lines_of target) c.output c.input q (after_w is r w) d before) in (
          states.Running (at c target),
          steps_by program well frames fit code formed addresses pages calls few c i at_i free r w base back s caches (at c target) (Running (labelled.at d (lines_of target))) ready does,
          inr (inr (inr (inr (record {
            run = labelled.at (moved d x) (lines_of target + 1);
            before = labelled.at d (lines_of target);
            i = its.i;
            is = refl;
            ready = ready;
            at = its.at;
            more = its.more;
            busy = its.busy;
            output = following.output;
            input = following.input;
            goes = copy_steps code addresses x its.register d (lines_of target) its.computes known.1;
          })))),
        )

    other_reached : (line : ℕ) (e : labelled.Configuration) → line ≡ lines_of (c.active.next + 1) → At program well frames fit code formed addresses pages calls few line c.output c.input p (does_w x q (after_w is r w)) e
        → performed program zeros c i ≡ states.Running (at c (c.active.next + 1)) → leads i c.active.next (c.active.next + 1) ≡ true → Reached program well frames fit code formed addresses pages calls few c (Running e)
    other_reached line e line_is following does led =
        let kept : (n : ℕ) → n ≢ its.register → p n ≡ q n = others in
        let ready = ready_by program well frames fit code formed addresses pages calls few c i at_i free r w base back s caches (at c (c.active.next + 1)) line e p (does_w x q (after_w is r w))
        refl refl refl refl refl refl refl refl line_is (others 0 is_scratch.not_zero ∙ keeps.zero) (others FRAME is_scratch.not_base ∙ keeps.base) (others LOWEST is_scratch.not_lowest ∙ keeps.lowest) (others RETURN_ADDRESS is_scratch.not_back ∙ keeps.back)
        (lasting_same p q (others HANDLERS is_scratch.not_newest) (others REGIONS is_scratch.not_counted) (others GLOBALS is_scratch.not_middle) ∙ keeps.lasts)
        (λ j past high. others (17 + j) (λ same. absurd (unsaved j past high same)) ∙ all_same q r keeps.values (17 + j) (omega arith) (omega (arith, high)))
        (pure_memory x its.register q (after_w is r w) its.computes ∙ keeps.memory) (cached_after led) following in
        (states.Running (at c (c.active.next + 1)), steps_by program well frames fit code formed addresses pages calls few c i at_i free r w base back s caches (at c (c.active.next + 1)) (Running e) ready does, inl ready)

    branch_copied : (count : ℕ) (taken : Bool) → holds_of q condition ≡ taken → performed program zeros c i ≡ states.Running (at c (if taken then target else c.active.next + 1)) → leads i c.active.next (if taken then target else c.active.next + 1) ≡ true
        → length is + 1 + 1 ≡ count → count_of program frames c.active.function c.active.next i ≡ count
        → Stands code here (ordinary (is ++ x ∷ []) ++ lines.Branch condition (instruction_line program frames c.active.function target + 1) ∷ []) → Goes count here (here + count) (Running run)
    branch_copied count taken takes does led long counted stands =
        let last : Line = lines.Branch condition (lines_of target + 1) in
        let all : List Instr = is ++ x ∷ [] in
        let long_all : length (ordinary all) ≡ length is + 1 = length_ordinary all ∙ length-append is (x ∷ []) in
        let following = stands_back code here (ordinary all) (last ∷ []) stands in
        let last_stands : slice_get code.lines (here + length is + 1) ≡ Some last = subst (λ (n : ℕ). slice_get code.lines n ≡ Some last) (let e : here + length (ordinary (is ++ x ∷ [])) ≡ here + length is + 1 = omega (arith, long_all) in e) following.0 in
        let front = stands_front code here (ordinary all) (last ∷ []) stands in
        let x_stands = (stands_after code here is (x ∷ []) front).0 in
        let next : here + length is + 1 + 1 ≡ lines_of (c.active.next + 1) = omega (arith, line_next program frames c.active.function c.active.next i at_i, counted, long) in
        let holds : holds_of p condition ≡ taken = holds_beside condition its.register p q (untested condition its.own its.register its.may) others ∙ takes in
        walk_few code formed addresses globals_length (words_per_call * calls) count (length is + 2) here (here + count) c.output _ (Running run) (omega (arith, long))
        (walk_block code formed addresses globals_length (words_per_call * calls) is 2 here here (here + count) c.output c.input _ r w run now (stands_first code here is (x ∷ []) front) keeps.safe (omega arith)
        (λ d later.
        walk_one code formed addresses globals_length (words_per_call * calls) x 1 (here + length is) (here + length is) (here + count) c.output c.input _ q (after_w is r w) d later x_stands safe_here (omega arith)
        (λ there.
        ends d later next long taken holds does led last_stands there)))
      where
        ends : (d : labelled.Configuration) → At program well frames fit code formed addresses pages calls few (here + length is) c.output c.input q (after_w is r w) d
            → here + length is + 1 + 1 ≡ lines_of (c.active.next + 1) → length is + 1 + 1 ≡ count
            → (b : Bool) → holds_of p condition ≡ b → performed program zeros c i ≡ states.Running (at c (if b then target else c.active.next + 1)) → leads i c.active.next (if b then target else c.active.next + 1) ≡ true
            → slice_get code.lines (here + length is + 1) ≡ Some (lines.Branch condition (lines_of target + 1))
            → At program well frames fit code formed addresses pages calls few (here + length is + 1) c.output c.input p (does_w x q (after_w is r w)) (moved d x)
            → Goes 1 (here + length is + 1) (here + count) (Running (moved d x))
        ends d before next long true holds does led last_stands there =
            walk_branch_to code formed addresses globals_length (words_per_call * calls) 0 (here + length is + 1) (here + length is + 1) (here + count) c.output c.input _ p (does_w x q (after_w is r w)) (moved d x) condition (lines_of target + 1) (lines_of target + 1) there last_stands (omega arith)
            (ap (λ (b : Bool). if b then lines_of target + 1 else here + length is + 1 + 1) holds)
            (λ after.
            walk_end code formed addresses globals_length (words_per_call * calls) (suc (here + length is + 1)) (here + count) c.output _ _ (omega (arith, long))
            (taken_reached d before after does led))
        ends d before next long false holds does led last_stands there =
            walk_branch_to code formed addresses globals_length (words_per_call * calls) 0 (here + length is + 1) (here + length is + 1) (here + count) c.output c.input _ p (does_w x q (after_w is r w)) (moved d x) condition (lines_of target + 1) (here + length is + 1 + 1) there last_stands (omega arith)
            (ap (λ (b : Bool). if b then lines_of target + 1 else here + length is + 1 + 1) holds)
            (λ after.
            walk_end code formed addresses globals_length (words_per_call * calls) (suc (here + length is + 1)) (here + count) c.output _ _ (omega (arith, long))
            (other_reached (here + length is + 1 + 1) (labelled.at (moved d x) (here + length is + 1 + 1)) next after does led))

  -- The labelled machine (MIPS lines) simulates a branch with or without a hoisted line.
  branch_by : (i : Instruction) → IsAt i → IsFree i → (is : List Instr) (condition : Condition) (target count : ℕ) (taken : Bool) (first : Option Instr) → IsKnownFirst condition target first → KeepsHere is
      → holds_of (after_r is r w) condition ≡ taken → performed program zeros c i ≡ states.Running (at c (if taken then target else c.active.next + 1))
      → ((slot : ℕ) → writes program i slot ≡ false) → leads i c.active.next (if taken then target else c.active.next + 1) ≡ true
      → length is + hoisted_count first + 1 ≡ count → count_of program frames c.active.function c.active.next i ≡ count
      → Stands code here (ordinary (with_hoisted is first) ++ lines.Branch condition (after_hoisted first (instruction_line program frames c.active.function target)) ∷ []) → Goes count here (here + count) (Running run)
  branch_by i at_i free is condition target count taken None known keeps takes does unwritten led long counted stands =
      branch_plain i at_i free is condition target count taken keeps takes does unwritten led (omega (arith, long)) counted stands
  branch_by i at_i free is condition target count taken (Some x) known keeps takes does unwritten led long counted stands =
      branch_copied i at_i free condition target x known unwritten is keeps count taken takes does led (omega (arith, long)) counted stands

  abbrev IsTestThere : Test → Type 0
  IsTestThere = AllOfTest Held (zero_held program well frames fit code formed addresses pages calls few c run r w base back now s caches) IsPlanThere (λ op left right outcome l t. (l, t, tt)) (λ op left half outcome fits l. (l, (zero_held program well frames fit code formed addresses pages calls few c run r w base back now s caches), tt))

  test_there : (comparison : Comparison) (left right : Operand) → Held left → Held right → IsTestThere (test_of comparison left right)
  test_there = all_test Held (zero_held program well frames fit code formed addresses pages calls few c run r w base back now s caches) IsPlanThere (λ op left right outcome l t. (l, t, tt)) (λ op left half outcome fits l. (l, (zero_held program well frames fit code formed addresses pages calls few c run r w base back now s caches), tt))

  test_goes_by : (i : Instruction) → IsAt i → IsFree i → (test : Test) (target : ℕ) (taken : Bool) (first : Option Instr) → IsKnownFirst (condition_of frame test) target first → IsTestThere test → test_taken c.active.slots test ≡ taken
      → performed program zeros c i ≡ states.Running (at c (if taken then target else c.active.next + 1))
      → ((slot : ℕ) → writes program i slot ≡ false) → leads i c.active.next (if taken then target else c.active.next + 1) ≡ true → count_of program frames c.active.function c.active.next i ≡ test_count frame test + hoisted_count first + 1
      → Stands code here (branch_code frame test first (instruction_line program frames c.active.function target))
      → Goes (test_count frame test + hoisted_count first + 1) here (here + (test_count frame test + hoisted_count first + 1)) (Running run)
  test_goes_by i at_i free (tests.Operands op left right) target taken first known (l, t) is does unwritten led counted stands =
      let loaded = operands_put globals_length (words_per_call * calls) frame (r FRAME) w r c.active.slots r w s.zero_is refl refl (λ n low high. refl) FIRST left right l t in
      branch_by i at_i free (operands_code frame left right) (conditions.Registers op (register_of (operand_register frame FIRST left)) (register_of (operand_register frame SECOND right))) target (test_count frame (tests.Operands op left right) + hoisted_count first + 1) taken first known loaded.keeps
      (ap (λ (x : ℕ). branch_taken op x (after_r (operands_code frame left right) r w (operand_register frame SECOND right % 32))) loaded.left_is ∙ (ap (branch_taken op (word_of left)) loaded.right_is ∙ is))
      does unwritten led (omega (arith, length_test frame (tests.Operands op left right))) counted stands
  test_goes_by i at_i free (tests.Sign op operand) target taken first known o is does unwritten led counted stands =
      let puts = operand_puts globals_length (words_per_call * calls) frame (r FRAME) w r c.active.slots r w s.zero_is refl refl (λ n low high. refl) FIRST refl operand o in
      branch_by i at_i free (operand_code frame FIRST operand) (conditions.Sign op (register_of (operand_register frame FIRST operand))) target (test_count frame (tests.Sign op operand) + hoisted_count first + 1) taken first known
      (puts_keeps globals_length (words_per_call * calls) (operand_code frame FIRST operand) r w FIRST _ _ FIRST (first_scratch globals_length (words_per_call * calls)) (first_aside globals_length (words_per_call * calls) FIRST) puts)
      (ap (branch_zero_taken op) puts.result ∙ is)
      does unwritten led (omega (arith, length_test frame (tests.Sign op operand))) counted stands
  test_goes_by i at_i free (tests.Computed plan) target taken first known (l, t, fine) is does unwritten led counted stands =
      let leaves = operation_leaves globals_length (words_per_call * calls) frame (r FRAME) w r c.active.slots r w s.zero_is refl refl (λ n low high. refl) FIRST (first_scratch globals_length (words_per_call * calls)) plan l t fine in
      branch_by i at_i free (operation_of frame FIRST plan) (conditions.Registers (branch_on plan.outcome) (register_of FIRST) (register_of ZERO)) target (test_count frame (tests.Computed plan) + hoisted_count first + 1) taken first known leaves.keeps
      (ap (λ (x : ℕ). branch_taken (branch_on plan.outcome) x (after_r (operation_of frame FIRST plan) r w ZERO)) leaves.result
      ∙ (ap (branch_taken (branch_on plan.outcome) (operation_word c.active.slots plan)) (leaves.keeps.zero ∙ s.zero_is) ∙ is))
      does unwritten led (omega (arith, length_test frame (tests.Computed plan))) counted stands

  pub branch_goes : (comparison : Comparison) (left right : Operand) (target : ℕ) → IsAt (plain.Branch comparison left right target) → IsThere left → IsThere right → IsCounted (plain.Branch comparison left right target)
      → ((j : Instruction) → instruction_at program (record { function = c.active.function; index = target }) ≡ Some j → is_idle (frame_at frames c.active.function) target j ≡ false
      → Stands code (instruction_line program frames c.active.function target) (body program frames c.active.function (instruction_line program frames c.active.function target) j))
      → Stands code here (body program frames c.active.function here (plain.Branch comparison left right target))
      → Goes (body_count program frames c.active.function (plain.Branch comparison left right target)) here (here + body_count program frames c.active.function (plain.Branch comparison left right target)) (Running run)
  branch_goes comparison left right target at_i l t counted target_stands stands =
      let left_held = held program well frames fit code formed addresses pages calls few c run r w base back now s caches (plain.Branch comparison left right target) at_i left (left_used program well frames fit code formed addresses pages calls few c run r w base back now s caches left right) l in
      let right_held = held program well frames fit code formed addresses pages calls few c run r w base back now s caches (plain.Branch comparison left right target) at_i right (right_used program well frames fit code formed addresses pages calls few c run r w base back now s caches left right) t in
      let test : Test = test_of comparison left right in
      test_goes_by (plain.Branch comparison left right target) at_i refl (test_of comparison left right) target (compares comparison (word_of left) (word_of right))
      (hoisted frame (routine_at program c.active.function).code test target) (known (hoisted frame (routine_at program c.active.function).code (test_of comparison left right) target) refl)
      (test_there comparison left right left_held right_held)
      (test_goes c.active.slots left right (is_word program well frames fit code formed addresses pages calls few c run r w base back now s caches left left_held) (is_word program well frames fit code formed addresses pages calls few c run r w base back now s caches right right_held) comparison) refl
      (λ slot. refl) (either_led (compares comparison (word_of left) (word_of right))) counted stands
    where
      known : (first : Option Instr) → hoisted (frame_at frames c.active.function) (routine_at program c.active.function).code (test_of comparison left right) target ≡ first
          → IsKnownFirst (condition_of (frame_at frames c.active.function) (test_of comparison left right)) target first
      known None is = tt
      known (Some x) is =
          let its = hoists program frames c.active.function target (test_of comparison left right) x is in
          let head = first_begins program frames c.active.function its.i x its.line (instruction_line program frames c.active.function target) in (
            its,
            stands_at_head code (instruction_line program frames c.active.function target) _ head.0 (lines.Ordinary x) head.1 (target_stands its.i its.at its.busy),
            (λ slot n is has live.
                let gives = its.gives n is in
                fit.fills c.active.function s.known c.active.next target gives.destination slot n comparison left right its.i at_i its.at gives.written gives.fills gives.has has live),
          )

      either_led : (taken : Bool) → (suc c.active.next == (if taken then target else c.active.next + 1) || target == (if taken then target else c.active.next + 1)) ≡ true
      either_led true = or_right (suc c.active.next == target) (target == target) (eqb_itself target)
      either_led false = or_left (suc c.active.next == c.active.next + 1) (target == c.active.next + 1) (eqb_next c.active.next)
