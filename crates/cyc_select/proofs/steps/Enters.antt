-- The simulation of checks for stack space: the run continues if enough is left, otherwise it ends.
use Rattle.std.proofs.Common.{◌≡◌, ◌≢◌, ℕ, suc, ◌+◌, ◌-◌, ◌*◌, ◌%◌, ◌<◌, ◌≤◌, Bool, false, not, List, [], ◌∷◌, length, Option, Some, refl, sym, ap, ◌∙◌, arith, inl, inr}
use Rattle.std.specs.Prelude.{◌==◌, if◌then◌else◌, nat_le}
use Rattle.std.proofs.lemmas.Bool.{cases_eq, eq-eqb, ne_eqb, and_right, lt-leb}
use Rattle.cyc_select.specs.declared.constants.TheConstants.{FRAME, LOWEST}
use Rattle.cyc_words.specs.Ending.{Full}
use Rattle.cyc_words.specs.Word.{add_of, sign_extended}
use Rattle.cyc_isa.specs.declared.instr.BranchOp.TheVariants as branch
use Rattle.cyc_isa.specs.Decoding.{register_of}
use Rattle.cyc_machine_model.specs.State.{stack_end, globals_length, words_per_call}
use Rattle.cyc_store.specs.State.{demand}
use Rattle.cyc_plain.specs.declared.instruction.Instruction.{Instruction}
use Rattle.cyc_plain.specs.declared.instruction.Instruction.TheVariants as plain
use Rattle.cyc_plain.specs.inside.Memory.{IsBelow}
use Rattle.cyc_plain.specs.inside.Program.{Program, routine_at}
use Rattle.cyc_plain.specs.inside.State as states
use Rattle.cyc_plain.specs.inside.State.{Words, Configuration}
use Rattle.cyc_plain.specs.inside.Step.{Choice, instruction_at, performed, executed, IsAllowed, step, is_within, limit_of, limit_at, limited, callee_of}
use Rattle.cyc_plain.specs.inside.WellFormed.{IsWellFormed}
use Rattle.cyc_plain.proofs.RunLaws.{zeros, limited-full, called_at}
use Rattle.cyc_frame.specs.inside.Layout.{AreFrames, frame_at}
use Rattle.cyc_frame.specs.inside.Frame.{Frame}
use Rattle.cyc_select.specs.declared.code.Condition.TheVariants as conditions
use Rattle.cyc_select.specs.declared.code.Line.TheVariants as lines
use Rattle.cyc_select.specs.inside.Labelled.{Labelled, IsFormed}
use Rattle.cyc_select.specs.inside.Machine as labelled
use Rattle.cyc_select.specs.inside.Machine.{State, Running, Ended}
use Rattle.cyc_select.specs.inside.Instructions.{small, syscall}
use Rattle.cyc_select.specs.inside.Counts.{instruction_line}
use Rattle.cyc_select.specs.inside.Selection.{ordinary, room_code}
use Rattle.cyc_select.proofs.values.Operations.{add_small}
use Rattle.cyc_select.proofs.relation.Values.{Caches}
use Rattle.cyc_select.proofs.effects.Views.{Contents}
use Rattle.cyc_select.proofs.effects.Sequences.{Stands, stands_back, after_r}
use Rattle.cyc_select.proofs.effects.Walks.{Walk, walk_end, walk_few, walk_block, walk_branch, walk_full}
use Rattle.cyc_select.proofs.relation.Waiting.{frame_size, based_here, slots_fit}
use Rattle.cyc_select.proofs.relation.Standing.{Standing, stage_of, lies}
use Rattle.cyc_select.proofs.relation.Matches.{After, At, Reached, reached_entering}

module _ (program : Program) (well : IsWellFormed program) (frames : List Frame) (fit : AreFrames program frames) (code : Labelled) (formed : IsFormed code) (addresses : ℕ → ℕ) (pages calls : ℕ) (few : calls ≤ 4096)
    (c : Configuration) (run : labelled.Configuration) (r : Words) (w : Contents) (base back : ℕ)
    (now : At program well frames fit code formed addresses pages calls few (instruction_line program frames c.active.function c.active.next) c.output c.input r w run)
    (s : Standing program frames addresses pages calls c r w base back (stage_of frames c) c.active.slots)
    (caches : Caches program frames c.active.function c.active.next r c.active.slots)
    (callee : ℕ) (at_i : instruction_at program (states.place_of (states.Running c)) ≡ Some (plain.Enter callee)) (known : callee < length program.functions)
    (stands : Stands code (instruction_line program frames c.active.function c.active.next) (room_code (instruction_line program frames c.active.function c.active.next)))
    (line_is : instruction_line program frames c.active.function c.active.next + 3 ≡ instruction_line program frames c.active.function (c.active.next + 1)) where
  abbrev here : ℕ
  here = instruction_line program frames c.active.function c.active.next

  abbrev Goes : (least lo hi : ℕ) → State → Type 0
  Goes least lo hi t = Walk code formed addresses globals_length (words_per_call * calls) least lo hi c.output (After program pages calls c) (Reached program well frames fit code formed addresses pages calls few c) t

  abbrev AtLine : ℕ → (q : Words) (m : Contents) → labelled.Configuration → Type 0
  AtLine line q m d = At program well frames fit code formed addresses pages calls few line c.output c.input q m d

  at_full : Stands code (here + 1) (ordinary (small 2 11 ∷ syscall ∷ []))
  at_full = stands_back code here (lines.Branch (conditions.Registers branch.NotEqual (register_of FRAME) (register_of LOWEST)) (here + 3) ∷ []) (ordinary (small 2 11 ∷ syscall ∷ [])) stands

  place_is : c.active.base ≡ base + 4 * (frame_at frames c.active.function).first_slot
  place_is = based_here frames base c.active.function c.active.base c.frames s.based

  here_lies : (base + frame_size ≤ stack_end) × (base + frame_size * suc (length c.frames) ≡ stack_end) × (base % 4 ≡ 0)
  here_lies =
      let l = lies program well frames fit addresses pages calls few c r w base back (stage_of frames c) c.active.slots s in
      (l.below_end, l.above_low, l.aligned)

  -- Below the caller's frame, the stack has space for the slots of the callee.
  room_below : IsBelow program callee (c.active.base - 4 * (routine_at program callee).slots) c.active.base
  room_below =
      let fits = slots_fit (routine_at program callee) (frame_at frames callee) (fit.each callee known) in
      record {
        aligned = omega (arith, place_is, here_lies.2, here_lies.1, s.deep, fits);
        low = omega (arith, place_is, here_lies.1, s.deep, fits);
        high = omega (arith, place_is, here_lies.1, s.deep, fits);
      }

  abbrev choice : Choice
  choice = record zeros { base = c.active.base - 4 * (routine_at program callee).slots }

  allowed : IsAllowed program (states.Running c) choice
  allowed = called_at program c callee choice (ap callee_of at_i) (λ slot. omega arith) room_below

  full_step : r FRAME ≡ r LOWEST → Reached program well frames fit code formed addresses pages calls few c (Ended Full c.output c.input)
  full_step lowest =
      let deep : nat_le (suc (length c.frames)) (calls - 1) ≡ false = lt-leb (suc (length c.frames)) (calls - 1) (omega (arith, lowest, s.base_is, s.lowest, here_lies.1, s.deep)) in
      let over : is_within pages (calls - 1) (performed program choice c (plain.Enter callee)) ≡ false = and_right (nat_le (demand c.store) pages) _ deep in
      let is : step program choice (states.Running c) ≡ performed program choice c (plain.Enter callee) = ap (executed program choice c) at_i in
      let limit : limit_at program (states.Running c) calls ≡ calls - 1 = ap (λ (o : Option Instruction). limit_of o calls) at_i in (
        states.Ended Full c.output c.input,
        (
          choice,
          allowed,
          sym (ap (λ (n : ℕ). limited pages n (states.Running c) (step program choice (states.Running c))) limit
              ∙ limited-full pages (calls - 1) (states.Running c) (step program choice (states.Running c)) (ap (is_within pages (calls - 1)) is ∙ over)),
        ),
        refl,
      )

  full_goes : (d : labelled.Configuration) → r FRAME ≡ r LOWEST → AtLine (here + 1) r w d → Goes 0 (suc here) (here + 3) (Running d)
  full_goes d lowest later =
      walk_few code formed addresses globals_length (words_per_call * calls) 0 (1 + 1) (suc here) (here + 3) c.output _ (Running d) (omega arith)
      (walk_block code formed addresses globals_length (words_per_call * calls) (small 2 11 ∷ []) 1 (here + 1) (suc here) (here + 3) c.output c.input _ r w d later (at_full.0, tt) (refl, tt) (omega arith)
      (λ e after.
      walk_full code formed addresses globals_length (words_per_call * calls) (here + 1 + 1) (here + 1 + 1) (here + 3) c.output c.input _ (after_r (small 2 11 ∷ []) r w) w e after at_full.1.0 (omega arith) (omega arith)
      (ap (λ (x : ℕ). add_of x (sign_extended 11)) s.zero_is ∙ add_small 0 11 (omega arith) (omega arith))
      (full_step lowest)))

  deeper : r FRAME ≢ r LOWEST → suc (suc (length c.frames)) ≤ calls
  deeper other =
      let not_all : suc (length c.frames) ≢ calls = λ all. other (omega (arith, all, s.base_is, s.lowest, here_lies.1)) in
      omega (arith, s.deep, not_all)

  pub enter_goes : Goes 1 here (here + 3) (Running run)
  enter_goes = elim (cases_eq (r FRAME) (r LOWEST)) [
    | inl lowest ↦
        let stays : (if not (r FRAME == r LOWEST) then here + 3 else here + 1) ≡ here + 1 = ap (λ (b : Bool). if not b then here + 3 else here + 1) (eq-eqb (r FRAME) (r LOWEST) lowest) in
        walk_branch code formed addresses globals_length (words_per_call * calls) 0 here here (here + 3) c.output c.input _ r w run (conditions.Registers branch.NotEqual (register_of FRAME) (register_of LOWEST)) (here + 3) (here + 1) now stands.0 (omega arith) stays
        (λ d later. full_goes d lowest later)
    | inr other ↦
        let leaps : (if not (r FRAME == r LOWEST) then here + 3 else here + 1) ≡ here + 3 = ap (λ (b : Bool). if not b then here + 3 else here + 1) (ne_eqb (r FRAME) (r LOWEST) other) in
        walk_branch code formed addresses globals_length (words_per_call * calls) 0 here here (here + 3) c.output c.input _ r w run (conditions.Registers branch.NotEqual (register_of FRAME) (register_of LOWEST)) (here + 3) (here + 3) now stands.0 (omega arith) leaps
        (λ d later.
        walk_end code formed addresses globals_length (words_per_call * calls) (suc here) (here + 3) c.output _ (Running d) (omega arith)
        (reached_entering program well frames fit code formed addresses pages calls few c callee choice d r w base back (here + 3) at_i allowed s caches (deeper other) (eq-eqb (suc c.active.next) (c.active.next + 1) (omega arith)) line_is later))
  ]
