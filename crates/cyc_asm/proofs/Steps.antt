-- Each step of the labelled machine is matched by steps of the MIPS machine that runs the assembled words.
use Rattle.std.proofs.Common.{◌≡◌, ℕ, suc, ◌+◌, ◌*◌, ◌%◌, ◌≤◌, ◌<◌, List, [], ◌∷◌, length, Bool, true, false, cond, not, Option, None, Some, refl, sym, ap, subst, ◌∙◌, arith, inl, inr}
use Rattle.std.specs.Prelude.{Contains, slice_get, slice_set}
use Rattle.std.proofs.lemmas.Option.{slice_get_within}
use Rattle.cyc_words.specs.Ending.{Ending}
use Rattle.cyc_words.specs.Word.{add_of}
use Rattle.cyc_words.specs.Simulation.{Running, Ended, Failed}
use Rattle.cyc_words.specs.inside.Following.{IsOnTheWay, IsMatchedStep, IsStepped, Steps, Comes}
use Rattle.cyc_words.proofs.Simulation.{running_ended}
use Rattle.cyc_words.proofs.SeenLemmas.{seen_same}
use Rattle.cyc_words.proofs.Matching.{by_one, way_before}
use Rattle.cyc_isa.specs.Effect.{branch_target, jump_target, return_address}
use Rattle.cyc_isa.specs.declared.instr.Instr.{Instr}
use Rattle.cyc_isa.specs.declared.instr.Instr.TheVariants.{Jump, JumpRegister}
use Rattle.cyc_isa.specs.declared.instr.JumpOp.TheVariants.{Plain, AndLink}
use Rattle.cyc_machine_model.specs.declared.constants.TheConstants.{RETURN_ADDRESS}
use Rattle.cyc_machine_model.specs.declared.event.Cause.{Cause}
use Rattle.cyc_machine_model.specs.declared.event.End.{End}
use Rattle.cyc_machine_model.specs.declared.event.Event.TheVariants as events
use Rattle.cyc_machine_model.specs.declared.phase.Phase.{Phase}
use Rattle.cyc_machine_model.specs.declared.phase.Phase.TheVariants as phases
use Rattle.cyc_machine_model.specs.State.{text_end, with_register}
use Rattle.cyc_machine_model.specs.Step.{Action, Acts, Does, cause_of, executes, performs}
use Rattle.cyc_machine_model.specs.Run.{World, reported, Goes, ending_of}
use Rattle.cyc_machine_model.specs.WorldMachine.{world_machine, status_in, status_at, seen_of}
use Rattle.cyc_machine_model.proofs.StepLaws.{executes-performs, Step-action}
use Rattle.cyc_machine_model.proofs.ShapeLaws.{Goes-shape}
use Rattle.cyc_select.specs.declared.code.Condition.{Condition}
use Rattle.cyc_select.specs.declared.code.Line.{Line}
use Rattle.cyc_select.specs.declared.code.Line.TheVariants as lines
use Rattle.cyc_select.specs.inside.Labelled.{Labelled, is_ordinary}
use Rattle.cyc_select.specs.inside.Machine as labelled
use Rattle.cyc_select.specs.inside.Machine.{Configuration, core_of, machine_of, world_of, from_world, word_in, holds_of, linked}
use Rattle.cyc_asm.specs.inside.Slots.{is_movable, moves, label_of, is_unreached, filling}
use Rattle.cyc_asm.specs.inside.Layout.{is_near}
use Rattle.cyc_asm.specs.inside.Text.{IsAt, IsJumpAt, IsTextInOrder, Stands, StandsBranch, StandsFrom, StandsFilled, StandsOrdinary, own, nothing, branch_of, inverse_of, return_register}
use Rattle.cyc_asm.proofs.Fetching.{world_at, fetches, through}
use Rattle.cyc_asm.proofs.Moving.{did, performs_did, performs_refused, same_stack}
use Rattle.cyc_asm.proofs.Ordinary.{Shown, same_cause, performed}
use Rattle.cyc_asm.proofs.Fillings.{IsFilled, filled, filled_moves, ordinary_empty, reached_after, IsMet, named_met, after_met, point_met}
use Rattle.cyc_asm.proofs.Stretches.{in_own}
use Rattle.cyc_asm.proofs.Leading.{find, branches_to, holds-inverse, above, placed, headed, leads, taken_to, Between, MatchesAs, Matches, at_empty, same_seen, matching, jump_stands, head_goes, headed_moves, headed_allowed, leads_moves, line_stands, slot_goes}

module _ (code : Labelled) (addresses : ℕ → ℕ) (words : List ℕ) (text : IsTextInOrder code code addresses words) where
  module _ (c : Configuration) (small : length c.stack ≤ 1048576) (reached : is_unreached code.lines c.line ≡ false) where
    abbrev here : ℕ
    here = addresses c.line

    abbrev Stepped : World → Type 0
    Stepped w = IsStepped (above code addresses) world_machine (matching code addresses words) (labelled.Running c) w

    abbrev Way : World → Type 0
    Way w = IsOnTheWay (above code addresses) world_machine (labelled.Running c) w

    abbrev Goal : List ℕ → World → Type 0
    Goal places w = IsMatchedStep (above code addresses) world_machine (matching code addresses words) (labelled.Running c) places w

    -- `May` says that the machine of labelled code may reach this state by executing the given line.
    abbrev May : Line → labelled.State → Type 0
    May line next = labelled.Executes code addresses c line next

    module _ (line : Line) (found : slice_get code.lines c.line ≡ Some line) (fine : (next : labelled.State) → May line next → labelled.status_of next ≡ Failed → ⊥) where
      step_of : (next : labelled.State) → May line next → labelled.Step code addresses (labelled.Running c) next
      step_of next may = subst (λ (o : Option Line). labelled.ExecutesAt code addresses c o next) (sym found) may

      multiple : here % 4 ≡ 0
      multiple = text.places.aligned c.line (slice_get_within code.lines c.line line found)

      low : here < text_end
      low = text.places.below c.line (slice_get_within code.lines c.line line found)

      following : add_of here 4 ≡ here + 4
      following = let inside = low in omega arith

      on_the_way : (w : World) → seen_of w ≡ labelled.seen_of (labelled.Running c) → status_in w.machine.phase ≡ Running → Way w
      on_the_way w seen running = way_before (above code addresses) world_machine (matching code addresses words) (labelled.Running c) w running seen

      -- If the MIPS machine has reached the state that matches the next state of the labelled machine, the step of the labelled machine is
      -- matched.
      arrived : (places : List ℕ) (c' : Configuration) (target : ℕ) → May line (labelled.Running c') → length c'.stack ≤ 1048576 → IsMet code.lines c'.line → target ≡ addresses c'.line
          → 0 < length places → Goal places (world_at words c' target (add_of target 4) false)
      arrived places c' target may few met is some = record {
        next = labelled.Running c';
        step = step_of (labelled.Running c') may;
        matches = (few, met.reached, at_empty code addresses words c' _ met.empty (ap (λ (a : ℕ). world_at words c' a (add_of a 4) false) is));
        lighter = λ none. absurd (omega (arith, some, none));
      }

      -- A step of the labelled machine is matched if the MIPS machine executes a jump and its empty delay slot.
      by_jump : (count : ℕ) (c' : Configuration) (target : ℕ) (i : Instr) → IsAt words here i → IsAt words (here + 4) nothing
          → addresses (suc c.line) ≡ here + 4 * count → 2 ≤ count → c'.output ≡ c.output → c'.input ≡ c.input → length c'.stack ≤ 1048576
          → executes (world_at words c here (here + 4) false).machine i ≡ Does events.Ran (world_at words c' (here + 4) target true).machine
          → May line (labelled.Running c') → IsMet code.lines c'.line → target ≡ addresses c'.line → Stepped (placed code addresses words c)
      by_jump count c' target i at slot next many output input few does may met is =
          subst (λ (n : ℕ). Stepped (world_at words c here n false)) (sym following) (record {
            places = here ∷ (here + 4) ∷ [];
            distinct = (((λ e. omega arith), tt), (tt, tt));
            inside = (
              in_own addresses c.line count 0 here next (omega (arith, many)) (omega arith),
              (in_own addresses c.line count 1 (here + 4) next (omega (arith, many)) (omega arith), tt),
            );
            comes = through words c c' here target i at slot multiple output input does Way (Goal (here ∷ (here + 4) ∷ [])) []
                (on_the_way _ refl refl) (on_the_way _ (seen_same c'.output c.output c'.input c.input output input) refl)
                (arrived (here ∷ (here + 4) ∷ []) c' target may few met is (omega arith));
          })

      -- A branch continues at its label if it is taken, and at the next line otherwise.
      lands : (b : Bool) (taken label next at : ℕ) → taken ≡ addresses label → next ≡ addresses at → cond b taken next ≡ addresses (cond b label at)
      lands true taken label next at first second = first
      lands false taken label next at first second = second

      -- The address after a branch and its delay slot is the address of the next line.
      over_slot : addresses (suc c.line) ≡ here + 8 → add_of (here + 4) 4 ≡ addresses (c.line + 1)
      over_slot next =
          let inside = low in
          let same : c.line + 1 ≡ suc c.line = omega arith in
          let sum : add_of (here + 4) 4 ≡ here + 8 = omega arith in
          sum ∙ sym next ∙ ap addresses (sym same)

    -- A branch or jump with an empty delay slot is at the address of its line.
    stands_empty : (line : Line) → filling code.lines c.line ≡ None → StandsFilled (filling code.lines c.line) code words addresses c.line line → StandsFrom code words addresses c.line line nothing here
    stands_empty line empty stands = subst (λ o. StandsFilled o code words addresses c.line line) empty stands

    -- If the delay slot of the next line is filled, it is filled by the instruction of this line.
    its_own : (i slotted : Instr) → slice_get code.lines c.line ≡ Some (lines.Ordinary i) → filling code.lines (suc c.line) ≡ Some slotted
        → (filling code.lines (suc c.line) ≡ Some i) × IsFilled code.lines (suc c.line) i
    its_own i slotted found some =
        let f = filled code.lines (suc c.line) slotted some in
        let there : f.before ≡ c.line = (let e = f.is in omega (arith, e)) in
        let both : Some (lines.Ordinary slotted) ≡ Some (lines.Ordinary i) = sym f.from ∙ ap (slice_get code.lines) there ∙ found in
        let one : slotted ≡ i = cc in
        let mine : filling code.lines (suc c.line) ≡ Some i = some ∙ ap (λ (x : Instr). Some x) one in
        (mine, filled code.lines (suc c.line) i mine)

    -- The line after a branch and the branch's target are reachable, and their delay slots are not filled.
    next_met : (condition : Condition) (label : ℕ) → slice_get code.lines c.line ≡ Some (lines.Branch condition label) → IsMet code.lines (c.line + 1)
    next_met condition label found =
        subst (IsMet code.lines) (let e : suc c.line ≡ c.line + 1 = omega arith in e) (after_met code.lines c.line (lines.Branch condition label) found refl refl reached)

    goes_met : (b : Bool) (condition : Condition) (label : ℕ) → slice_get code.lines c.line ≡ Some (lines.Branch condition label) → IsMet code.lines (cond b label (c.line + 1))
    goes_met true condition label found = named_met code.lines c.line label (lines.Branch condition label) found refl
    goes_met false condition label found = next_met condition label found

    jump : (label : ℕ) (found : slice_get code.lines c.line ≡ Some (lines.Jump label)) → ((next : labelled.State) → May (lines.Jump label) next → labelled.status_of next ≡ Failed → ⊥)
        → StandsFrom code words addresses c.line (lines.Jump label) nothing here → Stepped (placed code addresses words c)
    jump label found fine (jumps, next) =
        by_jump (lines.Jump label) found fine 2 (record c { line = label }) (jump_target here jumps.index.index) (Jump Plain jumps.index) jumps.jump jumps.slot (omega (arith, next)) (omega arith)
        refl refl small refl refl (named_met code.lines c.line label (lines.Jump label) found refl) jumps.target

    call : (label : ℕ) (found : slice_get code.lines c.line ≡ Some (lines.Call label)) → ((next : labelled.State) → May (lines.Call label) next → labelled.status_of next ≡ Failed → ⊥)
        → StandsFrom code words addresses c.line (lines.Call label) nothing here → Stepped (placed code addresses words c)
    call label found fine (jumps, next) =
        let inside = low (lines.Call label) found fine in
        let same : c.line + 1 ≡ suc c.line = omega arith in
        let sum : return_address here ≡ here + 8 = omega arith in
        let back : return_address here ≡ addresses (c.line + 1) = sum ∙ sym next ∙ ap addresses (sym same) in
        by_jump (lines.Call label) found fine 2 (record (linked addresses c) { line = label }) (jump_target here jumps.index.index) (Jump AndLink jumps.index) jumps.jump jumps.slot (omega (arith, next)) (omega arith)
        refl refl small
        (ap (λ (address : ℕ). Does events.Ran (world_at words (record c { registers = slice_set c.registers RETURN_ADDRESS address }) (here + 4) (jump_target here jumps.index.index) true).machine) back)
        refl (named_met code.lines c.line label (lines.Call label) found refl) jumps.target

    return : (found : slice_get code.lines c.line ≡ Some lines.Return) → ((next : labelled.State) → May lines.Return next → labelled.status_of next ≡ Failed → ⊥)
        → StandsFrom code words addresses c.line lines.Return nothing here → Stepped (placed code addresses words c)
    return found fine (at, slot, next) = elim (find code addresses (word_in c RETURN_ADDRESS) (length code.lines) (omega arith)) [
      | inl there ↦
          let (line, point, is) = there in
          by_jump lines.Return found fine 2 (record c { line = line }) (word_in c RETURN_ADDRESS) (JumpRegister return_register) at slot (omega (arith, next)) (omega arith)
          refl refl small refl (inl (line, point, is, refl)) (point_met code line point) (sym is)
      | inr none ↦ absurd (fine (labelled.Stopped c.output c.input) (inr ((λ line point. none line point.inside point), refl)) refl)
    ]

    near : (condition : Condition) (label : ℕ) (found : slice_get code.lines c.line ≡ Some (lines.Branch condition label))
        → ((next : labelled.State) → May (lines.Branch condition label) next → labelled.status_of next ≡ Failed → ⊥)
        → StandsBranch true words addresses c.line condition label nothing here → Stepped (placed code addresses words c)
    near condition label found fine (branches, next) =
        let line : Line = lines.Branch condition label in
        let taken : Bool = holds_of (word_in c) condition in
        by_jump line found fine 2 (record c { line = cond taken label (c.line + 1) }) (cond taken (branch_target here branches.offset) (add_of (here + 4) 4))
        (branch_of condition branches.offset) branches.branch branches.slot (omega (arith, next)) (omega arith)
        refl refl small (branches_to words c here condition branches.offset) refl (goes_met taken condition label found)
        (lands line found fine taken (branch_target here branches.offset) label (add_of (here + 4) 4) (c.line + 1) branches.target (over_slot line found fine next))

    far : (condition : Condition) (label : ℕ) (found : slice_get code.lines c.line ≡ Some (lines.Branch condition label))
        → ((next : labelled.State) → May (lines.Branch condition label) next → labelled.status_of next ≡ Failed → ⊥)
        → StandsBranch false words addresses c.line condition label nothing here → Stepped (placed code addresses words c)
    far condition label found fine (branches, jumps, next) =
        let line : Line = lines.Branch condition label in
        let inside = low line found fine in
        let taken : Bool = holds_of (word_in c) condition in
        let round : Instr = branch_of (inverse_of condition) branches.offset in
        let inverse = holds-inverse (word_in c) condition in
        elim (holds_of (word_in c) condition) as (λ b. holds_of (word_in c) condition ≡ b → Stepped (placed code addresses words c)) [
          | true ↦ λ is_taken.
              let c' : Configuration = record c { line = label } in
              let places : List ℕ = here ∷ (here + 4) ∷ (here + 8) ∷ (here + 8 + 4) ∷ [] in
              let first_after : add_of (here + 4) 4 ≡ here + 8 = omega arith in
              let second_after : add_of (here + 8) 4 ≡ here + 8 + 4 = omega arith in
              let aligned = multiple line found fine in
              let may : May line (labelled.Running c') = ap (λ b. labelled.Running (record c { line = cond b label (c.line + 1) })) (sym is_taken) in
              subst (λ (n : ℕ). Stepped (world_at words c here n false)) (sym (following line found fine)) (record {
                places = places;
                distinct = (((λ e. omega arith), ((λ e. omega arith), ((λ e. omega arith), tt))), (((λ e. omega arith), ((λ e. omega arith), tt)), (((λ e. omega arith), tt), (tt, tt))));
                inside = (
                  in_own addresses c.line 4 0 here (omega (arith, next)) (omega arith) (omega arith),
                  (
                    in_own addresses c.line 4 1 (here + 4) (omega (arith, next)) (omega arith) (omega arith),
                    (
                      in_own addresses c.line 4 2 (here + 8) (omega (arith, next)) (omega arith) (omega arith),
                      (in_own addresses c.line 4 3 (here + 8 + 4) (omega (arith, next)) (omega arith) (omega arith), tt),
                    ),
                  ),
                );
                comes = through words c c here (here + 8) round branches.branch branches.slot aligned refl refl
                    (branches_to words c here (inverse_of condition) branches.offset ∙ ap (λ b. Does events.Ran (world_at words c (here + 4) (cond b (branch_target here branches.offset) (add_of (here + 4) 4)) true).machine) (inverse ∙ ap not is_taken)
                    ∙ ap (λ (n : ℕ). Does events.Ran (world_at words c (here + 4) n true).machine) first_after)
                    Way (Goal places) ((here + 8) ∷ (here + 8 + 4) ∷ [])
                    (on_the_way line found fine _ refl refl) (on_the_way line found fine _ refl refl)
                    (subst (λ (n : ℕ). Comes world_machine Way (Goal places) ((here + 8) ∷ (here + 8 + 4) ∷ []) (world_at words c (here + 8) n false)) (sym second_after) (
                    through words c c' (here + 8) (jump_target (here + 8) jumps.index.index) (Jump Plain jumps.index) jumps.jump jumps.slot (omega (arith, aligned)) refl refl refl
                    Way (Goal places) [] (on_the_way line found fine _ refl refl) (on_the_way line found fine _ refl refl)
                    (arrived line found fine places c' (jump_target (here + 8) jumps.index.index) may small (named_met code.lines c.line label line found refl) jumps.target (omega arith))));
              })
          | false ↦ λ not_taken.
              let same : c.line + 1 ≡ suc c.line = omega arith in
              by_jump line found fine 4 (record c { line = c.line + 1 }) (branch_target here branches.offset) round branches.branch branches.slot (omega (arith, next)) (omega arith)
              refl refl small
              (branches_to words c here (inverse_of condition) branches.offset ∙ ap (λ b. Does events.Ran (world_at words c (here + 4) (cond b (branch_target here branches.offset) (add_of (here + 4) 4)) true).machine) (inverse ∙ ap not not_taken))
              (ap (λ b. labelled.Running (record c { line = cond b label (c.line + 1) })) (sym not_taken)) (next_met condition label found)
              (branches.target ∙ ap addresses (sym same))
        ] refl

    -- ---- ordinary instructions

    abbrev Result : Line → World → Type 0
    Result line u = (next : labelled.State) × labelled.Step code addresses (labelled.Running c) next × Matches code addresses words next u

    module _ (i : Instr) (is_one : is_ordinary i ≡ true) (found : slice_get code.lines c.line ≡ Some (lines.Ordinary i)) (fine : (next : labelled.State) → May (lines.Ordinary i) next → labelled.status_of next ≡ Failed → ⊥) (next_line : addresses (suc c.line) ≡ here + 4) (empty : filling code.lines c.line ≡ None) where
      may_perform : (next : labelled.State) → labelled.Performs c i next → May (lines.Ordinary i) next
      may_perform next performs = subst (λ b. labelled.PerformsOrdinary b c i next) (sym is_one) performs

      one_more : c.line + 1 ≡ suc c.line
      one_more = omega arith

      next_reached : is_unreached code.lines (c.line + 1) ≡ false
      next_reached = ap (is_unreached code.lines) one_more ∙ reached_after code.lines c.line (lines.Ordinary i) found refl reached

      shown_next : add_of here 4 ≡ addresses (c.line + 1)
      shown_next =
          let same : c.line + 1 ≡ suc c.line = omega arith in
          following (lines.Ordinary i) found fine ∙ sym next_line ∙ ap addresses (sym same)

      ending_or_trap : (above_world u : World) (end : End) (o : Option Ending) → ending_of end ≡ o → u.machine.phase ≡ phases.Over end → seen_of u ≡ seen_of above_world
          → labelled.Performs c i (labelled.closed above_world (ending_of end)) → Result (lines.Ordinary i) u
      ending_or_trap above_world u end (Some ending) is over seen performs =
          let may = subst (λ o. labelled.Performs c i (labelled.closed above_world o)) is performs in (
            labelled.Ended ending above_world.output above_world.input,
            step_of (lines.Ordinary i) found fine _ (may_perform _ may),
            (ap status_in over ∙ ap status_at is, seen),
          )
      ending_or_trap above_world u end None is over seen performs =
          let may = subst (λ o. labelled.Performs c i (labelled.closed above_world o)) is performs in
          absurd (fine _ (may_perform _ may) refl)

      shown : filling code.lines (suc c.line) ≡ None → (u above_world : World) → Goes (placed code addresses words c) u → labelled.Performs c i (labelled.settled above_world (c.line + 1) above_world.machine.phase)
          → Shown words text.inside c small (add_of here 4) above_world u → Result (lines.Ordinary i) u
      shown after_it u above_world goes performs (inl (running, is)) = (
        labelled.Running (from_world above_world (c.line + 1)),
        step_of (lines.Ordinary i) found fine _ (may_perform _ (subst (λ (p : Phase). labelled.Performs c i (labelled.settled above_world (c.line + 1) p)) running performs)),
        (
          (let same = (Goes-shape (placed code addresses words c) u goes).stack in
              let kept = ap (λ (w : World). length w.machine.memory.stack) is in
              omega (arith, same, kept, small)),
          next_reached,
          at_empty code addresses words (from_world above_world (c.line + 1)) u (ap (filling code.lines) one_more ∙ after_it)
              (is ∙ ap (λ (a : ℕ). world_at words (from_world above_world (c.line + 1)) a (add_of a 4) false) shown_next),
        ),
      )
      shown after_it u above_world goes performs (inr (end, over, over_below, seen)) =
          ending_or_trap above_world u end (ending_of end) refl over_below seen
          (subst (λ (p : Phase). labelled.Performs c i (labelled.settled above_world (c.line + 1) p)) over performs)

      goes_as : filling code.lines (suc c.line) ≡ None → IsAt words here i → cause_of (machine_of c) i ≡ None → (u : World) → Goes (placed code addresses words c) u → Result (lines.Ordinary i) u
      goes_as after_it at none u (event, s, step, is) =
          let w : World = placed code addresses words c in
          let does = fetches words c here (add_of here 4) false i at (multiple (lines.Ordinary i) found fine)
          ∙ executes-performs w.machine i (same_cause words text.inside c small here (add_of here 4) false i is_one none) in
          let acts : Acts (performs w.machine i) w.machine event s = Step-action w.machine (performs w.machine i) event s refl does step in
          let (e, t, does_above, shows) = performed words text.inside c small here (add_of here 4) false i is_one none event s acts in
          shown after_it u (reported (world_of c) e t) (event, s, step, is)
          (e, t, subst (λ (a : Action). Acts a (machine_of c) e t) (sym (executes-performs (machine_of c) i none)) does_above, refl)
          (subst (λ (v : World). Shown words text.inside c small (add_of here 4) (reported (world_of c) e t) v) (sym is) shows)

      performs_it : filling code.lines (suc c.line) ≡ None → IsAt words here i → (cause : Option Cause) → cause_of (machine_of c) i ≡ cause → Stepped (placed code addresses words c)
      performs_it after_it at (Some cause) is = absurd (fine _ (may_perform _ (performs_refused c i cause is)) refl)
      performs_it after_it at None is =
          by_one (above code addresses) world_machine (matching code addresses words) (labelled.Running c) (placed code addresses words c) (small, reached, at_empty code addresses words c _ empty refl) refl (in_own addresses c.line 1 0 here (omega (arith, next_line)) (omega arith) (omega arith))
          (goes_as after_it at is)

      -- If the next line's delay slot is filled, the MIPS machine executes the branch or jump while the labelled machine
      -- executes the instruction.
      module _ (filled_after : IsFilled code.lines (suc c.line) i) (some : filling code.lines (suc c.line) ≡ Some i) where
        may_move : is_movable i ≡ true
        may_move = (filled_moves i filled_after.line filled_after.moves).0

        stands_here : StandsFrom code words addresses (suc c.line) filled_after.line i here
        stands_here =
            let whole = jump_stands code addresses words (suc c.line) filled_after.line (filled_moves i filled_after.line filled_after.moves).1
            (line_stands code addresses words text (suc c.line) filled_after.line filled_after.at (reached_after code.lines c.line (lines.Ordinary i) found refl reached)) in
            let (from, is, stands) = subst (λ o. StandsFilled o code words addresses (suc c.line) filled_after.line) some whole in
            subst (StandsFrom code words addresses (suc c.line) filled_after.line i) (let e : from ≡ here = omega (arith, is, next_line) in e) stands

        between : cause_of (machine_of c) i ≡ None → (u : World) → Goes (placed code addresses words c) u → Between code addresses words (did c i) i filled_after.line u
        between allowed u goes =
            let goes_here = subst (λ (n : ℕ). Goes (world_at words c here n false) u) (following (lines.Ordinary i) found fine) goes in
            let is = head_goes code addresses words (suc c.line) filled_after.line i here c stands_here next_line (multiple (lines.Ordinary i) found fine) (low (lines.Ordinary i) found fine) u goes_here in
            record {
              before = c;
              found = ap (slice_get code.lines) one_more ∙ filled_after.at;
              moves = filled_after.moves;
              allowed = allowed;
              did = refl;
              is = is ∙ ap (λ (a : ℕ). world_at words (headed code addresses (suc c.line) filled_after.line c) a (leads code addresses (suc c.line) filled_after.line c) true) (sym next_line)
                  ∙ ap (λ (n : ℕ). world_at words (headed code addresses n filled_after.line c) (addresses n) (leads code addresses n filled_after.line c) true) (sym one_more);
            }

        moves_on : (cause : Option Cause) → cause_of (machine_of c) i ≡ cause → Stepped (placed code addresses words c)
        moves_on (Some cause) is = absurd (fine _ (may_perform _ (performs_refused c i cause is)) refl)
        moves_on None is =
            by_one (above code addresses) world_machine (matching code addresses words) (labelled.Running c) (placed code addresses words c) (small, reached, at_empty code addresses words c _ empty refl) refl (in_own addresses c.line 1 0 here (omega (arith, next_line)) (omega arith) (omega arith))
            (λ u goes. (
              labelled.Running (did c i),
              step_of (lines.Ordinary i) found fine _ (may_perform _ (performs_did c i may_move is)),
              (
                (let long = same_stack c i may_move in omega (arith, long, small)),
                next_reached,
                subst (λ (o : Option Instr). MatchesAs code addresses words o (did c i) u) (sym (ap (filling code.lines) one_more ∙ some)) (filled_after.line, between is u goes),
              ),
            ))

    ordinary : (i : Instr) (b : Bool) → is_ordinary i ≡ b → (found : slice_get code.lines c.line ≡ Some (lines.Ordinary i)) → ((next : labelled.State) → May (lines.Ordinary i) next → labelled.status_of next ≡ Failed → ⊥)
        → (o : Option Instr) → filling code.lines (suc c.line) ≡ o → StandsOrdinary o words addresses c.line i → Stepped (placed code addresses words c)
    ordinary i true is found fine None none (at, next) =
        performs_it i is found fine next (ordinary_empty code.lines c.line i found) none at (cause_of (machine_of c) i) refl
    ordinary i true is found fine (Some slotted) some next =
        let (one, whole) = its_own i slotted found some in
        moves_on i is found fine next (ordinary_empty code.lines c.line i found) whole one (cause_of (machine_of c) i) refl
    ordinary i false is found fine o some stands =
        absurd (fine (labelled.Stopped c.output c.input) (subst (λ b. labelled.PerformsOrdinary b c i (labelled.Stopped c.output c.input)) (sym is) refl) refl)

    -- ---- any line

    branch : (b : Bool) (condition : Condition) (label : ℕ) → is_near code.lines c.line label ≡ b → (found : slice_get code.lines c.line ≡ Some (lines.Branch condition label))
        → ((next : labelled.State) → May (lines.Branch condition label) next → labelled.status_of next ≡ Failed → ⊥)
        → StandsBranch b words addresses c.line condition label nothing here → Stepped (placed code addresses words c)
    branch true condition label is found fine stands = near condition label found fine stands
    branch false condition label is found fine stands = far condition label found fine stands

    by_line : (line : Line) → filling code.lines c.line ≡ None → slice_get code.lines c.line ≡ Some line → ((next : labelled.State) → May line next → labelled.status_of next ≡ Failed → ⊥)
        → Stands code words addresses c.line line → Stepped (placed code addresses words c)
    by_line (lines.Ordinary i) empty found fine stands = ordinary i (is_ordinary i) refl found fine (filling code.lines (suc c.line)) refl stands
    by_line (lines.Branch condition label) empty found fine stands =
        branch (is_near code.lines c.line label) condition label refl found fine (stands_empty (lines.Branch condition label) empty stands)
    by_line (lines.Jump label) empty found fine stands = jump label found fine (stands_empty (lines.Jump label) empty stands)
    by_line (lines.Call label) empty found fine stands = call label found fine (stands_empty (lines.Call label) empty stands)
    by_line lines.Return empty found fine stands = return found fine (stands_empty lines.Return empty stands)

    at_line : filling code.lines c.line ≡ None → (found : Option Line) → slice_get code.lines c.line ≡ found
        → ((next : labelled.State) → labelled.ExecutesAt code addresses c found next → labelled.status_of next ≡ Failed → ⊥) → Stepped (placed code addresses words c)
    at_line empty (Some line) is fine = by_line line empty is fine (line_stands code addresses words text c.line line is reached)
    at_line empty None is fine = absurd (fine (labelled.Stopped c.output c.input) refl refl)

    -- ---- the instruction in a filled slot

    module _ (i : Instr) (some : filling code.lines c.line ≡ Some i) (w : World) (line : Line) (mid : Between code addresses words c i line w) (never : (next : labelled.State) → labelled.Step code addresses (labelled.Running c) next → labelled.status_of next ≡ Failed → ⊥) where
      fine_here : (next : labelled.State) → May line next → labelled.status_of next ≡ Failed → ⊥
      fine_here next may failed = never next (subst (λ (o : Option Line). labelled.ExecutesAt code addresses c o next) (sym mid.found) may) failed

      may_move_here : is_movable i ≡ true
      may_move_here = (filled_moves i line mid.moves).0

      matches_here : Matches code addresses words (labelled.Running c) w
      matches_here = (small, reached, subst (λ (o : Option Instr). MatchesAs code addresses words o c w) (sym some) (line, mid))

      way_here : Way w
      way_here = way_before (above code addresses) world_machine (matching code addresses words) (labelled.Running c) w (ap (λ (x : World). status_in x.machine.phase) mid.is) (same_seen code addresses words (labelled.Running c) w matches_here)

      module _ (from : ℕ) (place : here ≡ from + 4) (slot : IsAt words (from + 4) i) where
        slot_here : IsAt words here i
        slot_here = subst (λ (a : ℕ). IsAt words a i) (sym place) slot

        few_before : length mid.before.stack ≤ 1048576
        few_before = let long = same_stack mid.before i may_move_here in let same = ap (λ (d : Configuration). length d.stack) mid.did in omega (arith, long, same, small)

        aligned : here % 4 ≡ 0
        aligned = multiple line mid.found fine_here

        -- After the instruction in the delay slot, the MIPS machine is at the target of the branch or jump.
        after_slot : (u : World) → Goes w u → u ≡ world_at words (headed code addresses c.line line c) (leads code addresses c.line line c) (add_of (leads code addresses c.line line c) 4) false
        after_slot u goes =
            slot_goes code addresses words text (headed code addresses c.line line mid.before) few_before i may_move_here (headed_allowed code addresses c.line line mid.before i mid.moves mid.allowed) here (leads code addresses c.line line mid.before) slot_here aligned u
            (subst (λ (x : World). Goes x u) mid.is goes)
            ∙ ap (λ (d : Configuration). world_at words d (leads code addresses c.line line mid.before) (add_of (leads code addresses c.line line mid.before) 4) false) (headed_moves code addresses c.line line mid.before i mid.moves ∙ ap (headed code addresses c.line line) (sym mid.did))
            ∙ ap (λ (n : ℕ). world_at words (headed code addresses c.line line c) n (add_of n 4) false) (leads_moves code addresses c.line line mid.before i mid.moves ∙ ap (leads code addresses c.line line) (sym mid.did))

        by_slot : (count : ℕ) (c' : Configuration) → addresses (suc c.line) ≡ here + 4 * count → 0 < count → May line (labelled.Running c') → length c'.stack ≤ 1048576 → IsMet code.lines c'.line
            → leads code addresses c.line line c ≡ addresses c'.line → ((n : ℕ) → world_at words (headed code addresses c.line line c) n (add_of n 4) false ≡ world_at words c' n (add_of n 4) false) → Stepped w
        by_slot count c' next many may few met is same =
            by_one (above code addresses) world_machine (matching code addresses words) (labelled.Running c) w matches_here (ap (λ (x : World). status_in x.machine.phase) mid.is)
            (subst (Contains (own addresses c.line)) (sym (ap (λ (x : World). x.machine.core.counter) mid.is)) (in_own addresses c.line count 0 here next many (omega arith)))
            (λ u goes. (
              labelled.Running c',
              step_of line mid.found fine_here (labelled.Running c') may,
              (few, met.reached, at_empty code addresses words c' u met.empty (after_slot u goes ∙ same (leads code addresses c.line line c) ∙ ap (λ (n : ℕ). world_at words c' n (add_of n 4) false) is)),
            ))

        -- If a far branch is taken, the MIPS machine also executes the jump after it, which the inverse branch skips if the far branch is
        -- not taken.
        round_slot : (condition : Condition) (label : ℕ) → line ≡ lines.Branch condition label → addresses (suc c.line) ≡ here + 12 → IsJumpAt words Plain nothing (from + 8) (addresses label)
            → headed code addresses c.line line c ≡ c → leads code addresses c.line line c ≡ here + 4 → May line (labelled.Running (record c { line = label })) → Stepped w
        round_slot condition label is_branch next jumps same goes_round may =
            let places : List ℕ = here ∷ (here + 4) ∷ (here + 4 + 4) ∷ [] in
            let in_text = low line mid.found fine_here in
            let round : from + 8 ≡ here + 4 = omega (arith, place) in
            let to_label = subst (λ (a : ℕ). IsJumpAt words Plain nothing a (addresses label)) round jumps in
            record {
              places = places;
              distinct = (((λ e. omega arith), ((λ e. omega arith), tt)), (((λ e. omega arith), tt), (tt, tt)));
              inside = (
                in_own addresses c.line 3 0 here (omega (arith, next)) (omega arith) (omega arith),
                (
                  in_own addresses c.line 3 1 (here + 4) (omega (arith, next)) (omega arith) (omega arith),
                  (in_own addresses c.line 3 2 (here + 4 + 4) (omega (arith, next)) (omega arith) (omega arith), tt),
                ),
              );
              comes = (
                ap (λ (x : World). x.machine.core.counter) mid.is,
                way_here,
                λ u goes. subst (Comes world_machine Way (Goal places) ((here + 4) ∷ (here + 4 + 4) ∷ []))
                    (sym (after_slot u goes
                    ∙ ap (λ (d : Configuration). world_at words d (leads code addresses c.line line c) (add_of (leads code addresses c.line line c) 4) false) same
                    ∙ ap (λ (n : ℕ). world_at words c n (add_of n 4) false) goes_round
                    ∙ ap (λ (n : ℕ). world_at words c (here + 4) n false) (let e : add_of (here + 4) 4 ≡ here + 4 + 4 = omega (arith, in_text) in e)))
                    (through words c c (here + 4) (jump_target (here + 4) to_label.index.index) (Jump Plain to_label.index) to_label.jump to_label.slot (let multiple = aligned in omega (arith, multiple)) refl refl refl
                    Way (Goal places) [] (on_the_way line mid.found fine_here _ refl refl) (on_the_way line mid.found fine_here _ refl refl)
                    (arrived line mid.found fine_here places (record c { line = label }) (jump_target (here + 4) to_label.index.index) may small
                    (named_met code.lines c.line label line mid.found (ap label_of is_branch)) to_label.target (omega arith))),
              );
            }

    abbrev Slotted : Line → Type 0
    Slotted line = (i : Instr) (some : filling code.lines c.line ≡ Some i) (w : World) (mid : Between code addresses words c i line w)
        (never : (next : labelled.State) → labelled.Step code addresses (labelled.Running c) next → labelled.status_of next ≡ Failed → ⊥)
        (from : ℕ) (place : here ≡ from + 4) → StandsFrom code words addresses c.line line i from → Stepped w

    not_taken : (condition : Condition) (label : ℕ) → holds_of (word_in c) condition ≡ false → (i : Instr) (some : filling code.lines c.line ≡ Some i) (w : World) (mid : Between code addresses words c i (lines.Branch condition label) w)
        (never : (next : labelled.State) → labelled.Step code addresses (labelled.Running c) next → labelled.status_of next ≡ Failed → ⊥)
        (from : ℕ) (place : here ≡ from + 4) → IsAt words (from + 4) i → (count : ℕ) → addresses (suc c.line) ≡ here + 4 * count → 0 < count → Stepped w
    not_taken condition label untaken i some w mid never from place slot count next many =
        let same : c.line + 1 ≡ suc c.line = omega arith in
        by_slot i some w (lines.Branch condition label) mid never from place slot count (record c { line = c.line + 1 }) next many
        (ap (λ b. labelled.Running (record c { line = cond b label (c.line + 1) })) (sym untaken)) small (goes_met false condition label mid.found)
        (ap (λ b. cond b (taken_to code addresses (is_near code.lines c.line label) c.line label) (addresses (suc c.line))) untaken ∙ ap addresses (sym same)) (λ n. refl)

    -- The labelled machine's step of a branch is matched once the MIPS machine has executed the delay
    -- slot, whether the branch is near or far, taken or not.
    branch_slotted : (near taken : Bool) (condition : Condition) (label : ℕ) → is_near code.lines c.line label ≡ near → holds_of (word_in c) condition ≡ taken
        → (i : Instr) (some : filling code.lines c.line ≡ Some i) (w : World) (mid : Between code addresses words c i (lines.Branch condition label) w)
        (never : (next : labelled.State) → labelled.Step code addresses (labelled.Running c) next → labelled.status_of next ≡ Failed → ⊥)
        (from : ℕ) (place : here ≡ from + 4) → StandsBranch near words addresses c.line condition label i from → Stepped w
    branch_slotted true true condition label is_label is_taken i some w mid never from place (branches, next) =
        let leads_there = ap (λ b. cond b (taken_to code addresses (is_near code.lines c.line label) c.line label) (addresses (suc c.line))) is_taken ∙ ap (λ b. taken_to code addresses b c.line label) is_label in
        by_slot i some w (lines.Branch condition label) mid never from place branches.slot 1 (record c { line = label }) (omega (arith, next, place)) (omega arith)
        (ap (λ b. labelled.Running (record c { line = cond b label (c.line + 1) })) (sym is_taken)) small (goes_met true condition label mid.found) leads_there (λ n. refl)
    branch_slotted true false condition label is_label is_taken i some w mid never from place (branches, next) =
        not_taken condition label is_taken i some w mid never from place branches.slot 1 (omega (arith, next, place)) (omega arith)
    branch_slotted false false condition label is_label is_taken i some w mid never from place (branches, jumps, next) =
        not_taken condition label is_taken i some w mid never from place branches.slot 3 (omega (arith, next, place)) (omega arith)
    branch_slotted false true condition label is_label is_taken i some w mid never from place (branches, jumps, next) =
        let leads_there = ap (λ b. cond b (taken_to code addresses (is_near code.lines c.line label) c.line label) (addresses (suc c.line))) is_taken ∙ ap (λ b. taken_to code addresses b c.line label) is_label in
        round_slot i some w (lines.Branch condition label) mid never from place branches.slot condition label refl (omega (arith, next, place)) jumps refl leads_there
        (ap (λ b. labelled.Running (record c { line = cond b label (c.line + 1) })) (sym is_taken))

    slotted : (line : Line) → Slotted line
    slotted (lines.Ordinary other) i some w mid never from place stands = absurd stands
    slotted (lines.Branch condition label) i some w mid never from place stands =
        branch_slotted (is_near code.lines c.line label) (holds_of (word_in c) condition) condition label refl refl i some w mid never from place stands
    slotted (lines.Jump label) i some w mid never from place (jumps, next) =
        by_slot i some w (lines.Jump label) mid never from place jumps.slot 1 (record c { line = label }) (omega (arith, next, place)) (omega arith)
        refl small (named_met code.lines c.line label (lines.Jump label) mid.found refl) refl (λ n. refl)
    slotted (lines.Call label) i some w mid never from place (jumps, next) =
        by_slot i some w (lines.Call label) mid never from place jumps.slot 1 (record (linked addresses c) { line = label }) (omega (arith, next, place)) (omega arith)
        refl small (named_met code.lines c.line label (lines.Call label) mid.found refl) refl
        (λ n. ap (λ (k : ℕ). world_at words (record c { registers = (with_register (core_of c) RETURN_ADDRESS (addresses k)).registers }) n (add_of n 4) false) (let e : suc c.line ≡ c.line + 1 = omega arith in e))
    slotted lines.Return i some w mid never from place (at, slot, next) = elim (find code addresses (word_in c RETURN_ADDRESS) (length code.lines) (omega arith)) [
      | inl there ↦
          let (line, point, is) = there in
          by_slot i some w lines.Return mid never from place slot 1 (record c { line = line }) (omega (arith, next, place)) (omega arith)
          (inl (line, point, is, refl)) small (point_met code line point) (sym is) (λ n. refl)
      | inr none ↦ absurd (fine_here i some w lines.Return mid never (labelled.Stopped c.output c.input) (inr ((λ line point. none line point.inside point), refl)) refl)
    ]

    between_goes : (i : Instr) → filling code.lines c.line ≡ Some i → (w : World) → (line : Line) × Between code addresses words c i line w
        → ((next : labelled.State) → labelled.Step code addresses (labelled.Running c) next → labelled.status_of next ≡ Failed → ⊥) → Stepped w
    between_goes i some w (line, mid) never =
        let whole = jump_stands code addresses words c.line line (filled_moves i line mid.moves).1 (line_stands code addresses words text c.line line mid.found reached) in
        let (from, place, stands) = subst (λ o. StandsFilled o code words addresses c.line line) some whole in
        slotted line i some w mid never from place stands

  pub matched : Steps (above code addresses) world_machine (matching code addresses words)
  matched (labelled.Running c) t (small, reached, is) running fine = by (filling code.lines c.line) refl is
    where
      by : (o : Option Instr) → filling code.lines c.line ≡ o → MatchesAs code addresses words o c t → IsStepped (above code addresses) world_machine (matching code addresses words) (labelled.Running c) t
      by None empty is =
          subst (λ (w : World). IsStepped (above code addresses) world_machine (matching code addresses words) (labelled.Running c) w) (sym is) (at_line c small reached empty (slice_get code.lines c.line) refl fine)
      by (Some i) some mid = between_goes c small reached i some t mid fine
  matched (labelled.Ended ending output input) t matches running fine = absurd (running_ended ending (sym running))
  matched (labelled.Stopped output input) t matches running fine = absurd matches
