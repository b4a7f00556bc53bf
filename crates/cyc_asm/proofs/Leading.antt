-- The targets of returns, branches and jumps, and the states of the MIPS machine that match a configuration of labelled code. In the
-- text, a branch or jump whose delay slot is filled is executed before the instruction that fills it.
use Rattle.std.proofs.Common.{◌≡◌, ◌≢◌, ℕ, zero, suc, pos, ◌+◌, ◌%◌, ◌≤◌, ◌<◌, List, length, Bool, true, false, cond, not, nat_eq, Option, None, Some, refl, sym, ap, subst, ◌∙◌, arith, inl, inr}
use Rattle.std.specs.Prelude.{◌⊎◌, ◌&&◌, slice_get}
use Rattle.std.proofs.lemmas.Bool.{cases_eq, cases_lt, not-true}
use Rattle.cyc_words.specs.Ending.{Ending}
use Rattle.cyc_words.specs.Word.{add_of, signed}
use Rattle.cyc_words.specs.Seen.{showing}
use Rattle.cyc_words.specs.Simulation.{Machine, Running, Ended}
use Rattle.cyc_words.specs.inside.Following.{Matching}
use Rattle.cyc_words.proofs.Simulation.{running_ended}
use Rattle.cyc_words.proofs.Booleans.{and_right, and_left, not_not, cond-not}
use Rattle.cyc_words.proofs.Integers.{int_lt-not_le, int_le-not_lt}
use Rattle.cyc_isa.specs.Effect.{branch_target, jump_target, return_address}
use Rattle.cyc_isa.specs.Uses.{reads, writes}
use Rattle.cyc_isa.specs.declared.instr.Instr.{Instr}
use Rattle.cyc_isa.specs.declared.instr.Instr.TheVariants.{Jump, JumpRegister}
use Rattle.cyc_isa.specs.declared.instr.BranchOp.TheVariants.{Equal, NotEqual}
use Rattle.cyc_isa.specs.declared.instr.BranchZeroOp.TheVariants as signs
use Rattle.cyc_isa.specs.declared.instr.JumpOp.TheVariants.{Plain, AndLink}
use Rattle.cyc_machine_model.specs.declared.constants.TheConstants.{RETURN_ADDRESS}
use Rattle.cyc_machine_model.specs.declared.event.End.{End}
use Rattle.cyc_machine_model.specs.declared.event.Event.{Event}
use Rattle.cyc_machine_model.specs.declared.event.Event.TheVariants as events
use Rattle.cyc_machine_model.specs.declared.phase.Phase.TheVariants as phases
use Rattle.cyc_machine_model.specs.State as machines
use Rattle.cyc_machine_model.specs.State.{text_end, with_register}
use Rattle.cyc_machine_model.specs.Step.{Action, Acts, Does, cause_of, after, executes, performs}
use Rattle.cyc_machine_model.specs.Run.{World, reported, Goes}
use Rattle.cyc_machine_model.specs.WorldMachine.{world_machine, status_in, seen_of}
use Rattle.cyc_machine_model.proofs.StepLaws.{executes-performs, Step-action}
use Rattle.cyc_select.specs.declared.code.Condition.{Condition}
use Rattle.cyc_select.specs.declared.code.Condition.TheVariants as conditions
use Rattle.cyc_select.specs.declared.code.Line.{Line}
use Rattle.cyc_select.specs.declared.code.Line.TheVariants as lines
use Rattle.cyc_select.specs.inside.Labelled.{Labelled, IsReturnPoint}
use Rattle.cyc_select.specs.inside.Machine as labelled
use Rattle.cyc_select.specs.inside.Machine.{Configuration, core_of, machine_of, world_of, from_world, word_in, holds_of}
use Rattle.cyc_asm.specs.inside.Slots.{is_movable, leaves, moves, is_unreached, filling}
use Rattle.cyc_asm.specs.inside.Layout.{is_near}
use Rattle.cyc_asm.specs.inside.Text.{IsAt, IsTextInOrder, Stands, StandsBranch, StandsFrom, StandsFilled, StandsUnless, own, branch_of, inverse_of, return_register}
use Rattle.cyc_asm.proofs.Fetching.{world_at, fetches, goes_to}
use Rattle.cyc_asm.proofs.Moving.{did, with_word, movable_ordinary, movable_does, after_runs, unwritten_stays, holds_stays, commutes, same_refusal}
use Rattle.cyc_asm.proofs.Ordinary.{Shown, same_cause, performed}
use Rattle.cyc_asm.proofs.Fillings.{is_jump}

-- ---- the target of a return

-- `Found` says that one of the first `count` return points (lines directly after calls) is at this address, or that none is.
abbrev Found : Labelled → (ℕ → ℕ) → (address count : ℕ) → Type 0
Found code addresses address count =
    ((line : ℕ) × IsReturnPoint code line × (addresses line ≡ address)) ⊎ ((line : ℕ) → line < count → IsReturnPoint code line → addresses line ≢ address)

call_or_not : (o : Option Line) → ((label : ℕ) × (o ≡ Some (lines.Call label))) ⊎ ((label : ℕ) → o ≢ Some (lines.Call label))
call_or_not None = inr (λ label is. let e : None ≡ Some (lines.Call label) = is in cc)
call_or_not (Some (lines.Ordinary i)) = inr (λ label is. let e : Some (lines.Ordinary i) ≡ Some (lines.Call label) = is in cc)
call_or_not (Some (lines.Branch condition other)) = inr (λ label is. let e : Some (lines.Branch condition other) ≡ Some (lines.Call label) = is in cc)
call_or_not (Some (lines.Jump other)) = inr (λ label is. let e : Some (lines.Jump other) ≡ Some (lines.Call label) = is in cc)
call_or_not (Some (lines.Call label)) = inl (label, refl)
call_or_not (Some lines.Return) = inr (λ label is. let e : Some lines.Return ≡ Some (lines.Call label) = is in cc)

pub find : (code : Labelled) (addresses : ℕ → ℕ) (address count : ℕ) → count ≤ length code.lines → Found code addresses address count
find code addresses address zero within = inr (λ line below. absurd (omega arith))
find code addresses address (suc count) within = elim (find code addresses address count (omega (arith, within))) [
  | inl found ↦ inl found
  | inr none ↦ here count within none
]
  where
    here : (count : ℕ) → suc count ≤ length code.lines → ((line : ℕ) → line < count → IsReturnPoint code line → addresses line ≢ address) → Found code addresses address (suc count)
    here zero within none = inr (λ line below point at. absurd (omega (arith, below, point.following)))
    here (suc call) within none = elim (call_or_not (slice_get code.lines call)) [
      | inl calls ↦ elim (cases_eq (addresses (suc call)) address) [
        | inl same ↦ inl (suc call, record { inside = omega (arith, within); call = call; label = calls.0; following = refl; calls = calls.1 }, same)
        | inr other ↦ inr (λ line below point at. elim (cases_lt line (suc call)) [
          | inl before ↦ none line before point at
          | inr last ↦ other (ap addresses (let e : suc call ≡ line = omega (arith, last, below) in e) ∙ at)
        ])
      ]
      | inr no_call ↦ inr (λ line below point at. elim (cases_lt line (suc call)) [
        | inl before ↦ none line before point at
        | inr last ↦ no_call point.label (ap (slice_get code.lines) (let e : call ≡ point.call = omega (arith, last, below, point.following) in e) ∙ point.calls)
      ])
    ]

-- ---- branches

running_over : (end : End) → phases.Running ≡ phases.Over end → ⊥
running_over end is = let e : phases.Running ≡ phases.Over end = is in cc

-- The inverse of a branch is taken exactly if the branch is not. (The function `words` maps each register to its word.)
pub holds-inverse : (words : ℕ → ℕ) (condition : Condition) → holds_of words (inverse_of condition) ≡ not (holds_of words condition)
holds-inverse words (conditions.Registers Equal left right) = refl
holds-inverse words (conditions.Registers NotEqual left right) = sym (not_not (nat_eq (words left.number) (words right.number)))
holds-inverse words (conditions.Sign signs.LessOrEqual source) = int_lt-not_le (signed (words source.number)) (pos 0)
holds-inverse words (conditions.Sign signs.Greater source) = int_le-not_lt (signed (words source.number)) (pos 0)
holds-inverse words (conditions.Sign signs.Less source) = int_le-not_lt (pos 0) (signed (words source.number))
holds-inverse words (conditions.Sign signs.GreaterOrEqual source) = int_lt-not_le (pos 0) (signed (words source.number))

-- A branch executes its delay slot, and then continues at its target or after the delay slot.
pub branches_to : (words : List ℕ) (c : Configuration) (from : ℕ) (condition : Condition) (offset : ℕ) → executes (world_at words c from (from + 4) false).machine (branch_of condition offset)
    ≡ Does events.Ran (world_at words c (from + 4) (cond (holds_of (word_in c) condition) (branch_target from offset) (add_of (from + 4) 4)) true).machine
branches_to words c from (conditions.Registers op left right) offset = refl
branches_to words c from (conditions.Sign op source) offset = refl

-- ---- branches and jumps, and matching worlds

module _ (code : Labelled) (addresses : ℕ → ℕ) where
  abbrev pub above : Machine
  above = labelled.machine code addresses

  -- Returns the registers after a branch or jump, before its delay slot: a call has stored its return address.
  abbrev linked_in : (number : ℕ) → Line → Configuration → List ℕ
  linked_in number (lines.Call label) c = (with_register (core_of c) RETURN_ADDRESS (addresses (suc number))).registers
  linked_in number line c = c.registers

  abbrev pub headed : (number : ℕ) → Line → Configuration → Configuration
  headed number line c = record c { registers = linked_in number line c }

  -- Returns the address at which control continues after the delay slot of a taken branch. A far branch
  -- continues at the jump that it skips if it is not taken.
  abbrev pub taken_to : (near : Bool) → (number label : ℕ) → ℕ
  taken_to true number label = addresses label
  taken_to false number label = addresses number + 4

  abbrev leads_by : (near : Bool) → (number : ℕ) → Condition → (label : ℕ) → Configuration → ℕ
  leads_by near number condition label c = cond (holds_of (word_in c) condition) (taken_to near number label) (addresses (suc number))

  abbrev pub leads : (number : ℕ) → Line → Configuration → ℕ
  leads number (lines.Ordinary i) c = 0
  leads number (lines.Branch condition label) c = leads_by (is_near code.lines number label) number condition label c
  leads number (lines.Jump label) c = addresses label
  leads number (lines.Call label) c = addresses label
  leads number lines.Return c = word_in c RETURN_ADDRESS

  -- An instruction that may be moved into a delay slot has the same effect before the branch or jump of this slot and after it.
  pub headed_moves : (number : ℕ) (line : Line) (c : Configuration) (i : Instr) → moves i line ≡ true → did (headed number line c) i ≡ headed number line (did c i)
  headed_moves number (lines.Ordinary other) c i may = refl
  headed_moves number (lines.Branch condition label) c i may = refl
  headed_moves number (lines.Jump label) c i may = refl
  headed_moves number (lines.Call label) c i may =
      let free = and_right (is_movable i) (not (reads i RETURN_ADDRESS) && not (writes i RETURN_ADDRESS)) may in
      commutes c i RETURN_ADDRESS (addresses (suc number)) (and_left (is_movable i) (not (reads i RETURN_ADDRESS) && not (writes i RETURN_ADDRESS)) may)
      (not-true (reads i RETURN_ADDRESS) (and_left (not (reads i RETURN_ADDRESS)) (not (writes i RETURN_ADDRESS)) free))
      (not-true (writes i RETURN_ADDRESS) (and_right (not (reads i RETURN_ADDRESS)) (not (writes i RETURN_ADDRESS)) free))
  headed_moves number lines.Return c i may = refl

  pub headed_allowed : (number : ℕ) (line : Line) (c : Configuration) (i : Instr) → moves i line ≡ true → cause_of (machine_of c) i ≡ None → cause_of (machine_of (headed number line c)) i ≡ None
  headed_allowed number (lines.Ordinary other) c i may allowed = allowed
  headed_allowed number (lines.Branch condition label) c i may allowed = allowed
  headed_allowed number (lines.Jump label) c i may allowed = allowed
  headed_allowed number (lines.Call label) c i may allowed =
      let free = and_right (is_movable i) (not (reads i RETURN_ADDRESS) && not (writes i RETURN_ADDRESS)) may in
      same_refusal c i RETURN_ADDRESS (addresses (suc number)) (and_left (is_movable i) (not (reads i RETURN_ADDRESS) && not (writes i RETURN_ADDRESS)) may)
      (not-true (reads i RETURN_ADDRESS) (and_left (not (reads i RETURN_ADDRESS)) (not (writes i RETURN_ADDRESS)) free)) ∙ allowed
  headed_allowed number lines.Return c i may allowed = allowed

  -- An instruction that may be moved into the delay slot of a branch or jump does not change the target of this branch or jump.
  pub leads_moves : (number : ℕ) (line : Line) (c : Configuration) (i : Instr) → moves i line ≡ true → leads number line c ≡ leads number line (did c i)
  leads_moves number (lines.Ordinary other) c i may = refl
  leads_moves number (lines.Branch condition label) c i may =
      ap (λ b. cond b (taken_to (is_near code.lines number label) number label) (addresses (suc number)))
      (sym (holds_stays c i condition (and_left (is_movable i) (leaves i condition) may) (and_right (is_movable i) (leaves i condition) may)))
  leads_moves number (lines.Jump label) c i may = refl
  leads_moves number (lines.Call label) c i may = refl
  leads_moves number lines.Return c i may =
      sym (unwritten_stays c i RETURN_ADDRESS (and_left (is_movable i) (not (writes i RETURN_ADDRESS)) may) (not-true (writes i RETURN_ADDRESS) (and_right (is_movable i) (not (writes i RETURN_ADDRESS)) may)))

  module _ (words : List ℕ) where
    -- Returns the state of the MIPS machine, its memory and its devices that matches a configuration of labelled code.
    abbrev pub placed : Configuration → World
    placed c = world_at words c (addresses c.line) (add_of (addresses c.line) 4) false

    -- `Between` relates states in the middle of a filled delay slot. In the states that `Between` relates, the labelled machine has
    -- executed the instruction before the branch or jump. The MIPS machine has executed the branch or jump, and executes the instruction in
    -- the delay slot next.
    pub record Between (c : Configuration) (i : Instr) (line : Line) (w : World) : Type 0 where
      pub before : Configuration
      pub found : slice_get code.lines c.line ≡ Some line
      pub moves : moves i line ≡ true
      pub allowed : cause_of (machine_of before) i ≡ None
      pub did : c ≡ did before i
      pub is : w ≡ world_at words (headed c.line line before) (addresses c.line) (leads c.line line before) true

    abbrev pub MatchesAs : Option Instr → Configuration → World → Type 0
    MatchesAs None c w = w ≡ placed c
    MatchesAs (Some i) c w = (line : Line) × Between c i line w

    abbrev pub Matches : labelled.State → World → Type 0
    Matches (labelled.Running c) w = (length c.stack ≤ 1048576) × (is_unreached code.lines c.line ≡ false) × MatchesAs (filling code.lines c.line) c w
    Matches (labelled.Ended ending output input) w = (status_in w.machine.phase ≡ Ended ending) × (seen_of w ≡ showing output input)
    Matches (labelled.Stopped output input) w = ⊥

    matched_seen : (o : Option Instr) (c : Configuration) (w : World) → MatchesAs o c w → seen_of w ≡ labelled.seen_of (labelled.Running c)
    matched_seen None c w is = ap seen_of is
    matched_seen (Some i) c w (line, mid) = ap seen_of mid.is ∙ ap (λ (c : Configuration). labelled.seen_of (labelled.Running c)) (sym mid.did)

    -- At a line whose delay slot is not filled, the matching state of the MIPS machine is at the address of the line.
    pub at_empty : (c : Configuration) (w : World) → filling code.lines c.line ≡ None → w ≡ placed c → MatchesAs (filling code.lines c.line) c w
    at_empty c w empty is = subst (λ (o : Option Instr). MatchesAs o c w) (sym empty) is

    pub same_seen : (s : labelled.State) (t : World) → Matches s t → seen_of t ≡ labelled.seen_of s
    same_seen (labelled.Running c) t (small, reached, is) = matched_seen (filling code.lines c.line) c t is
    same_seen (labelled.Ended ending output input) t (ended, is) = is
    same_seen (labelled.Stopped output input) t matches = absurd matches

    pub same_ending : (s : labelled.State) (t : World) (ending : Ending) → Matches s t → labelled.status_of s ≡ Ended ending → status_in t.machine.phase ≡ Ended ending
    same_ending (labelled.Running c) t ending matches ended = absurd (running_ended ending ended)
    same_ending (labelled.Ended e output input) t ending (over, is) ended = over ∙ ended
    same_ending (labelled.Stopped output input) t ending matches ended = absurd matches

    abbrev pub matching : Matching above world_machine
    matching = record {
      Matches = Matches;
      weight = λ s. 0;
      own = own addresses;
      alike = same_seen;
      endings = same_ending;
    }

    -- ---- a branch or jump and its delay slot

    -- If a line is a branch or jump, the text contains its words, with its delay slot filled or empty.
    pub jump_stands : (number : ℕ) (line : Line) → is_jump line ≡ true → Stands code words addresses number line → StandsFilled (filling code.lines number) code words addresses number line
    jump_stands number (lines.Ordinary i) jumps stands = absurd (let e : false ≡ true = jumps in cc)
    jump_stands number (lines.Branch condition label) jumps stands = stands
    jump_stands number (lines.Jump label) jumps stands = stands
    jump_stands number (lines.Call label) jumps stands = stands
    jump_stands number lines.Return jumps stands = stands

    -- After the MIPS machine executes a branch or jump, it is at the delay slot.
    pub head_goes : (number : ℕ) (line : Line) (i : Instr) (from : ℕ) (c : Configuration) → StandsFrom code words addresses number line i from → addresses number ≡ from + 4 → from % 4 ≡ 0 → from < text_end
        → (u : World) → Goes (world_at words c from (from + 4) false) u → u ≡ world_at words (headed number line c) (from + 4) (leads number line c) true
    head_goes number (lines.Ordinary other) i from c stands place multiple low u goes = absurd stands
    head_goes number (lines.Branch condition label) i from c stands place multiple low u goes = by (is_near code.lines number label) refl stands
      where
        by : (near : Bool) → is_near code.lines number label ≡ near → StandsBranch near words addresses number condition label i from → u ≡ world_at words c (from + 4) (leads_by (is_near code.lines number label) number condition label c) true
        by true is (branches, next) =
            let following : add_of (from + 4) 4 ≡ addresses (suc number) = omega (arith, low, next) in
            goes_to words c c from (from + 4) (cond (holds_of (word_in c) condition) (branch_target from branches.offset) (add_of (from + 4) 4)) false true (branch_of condition branches.offset) branches.branch multiple refl refl
            (branches_to words c from condition branches.offset) u goes
            ∙ ap (λ (n : ℕ). world_at words c (from + 4) (cond (holds_of (word_in c) condition) n (add_of (from + 4) 4)) true) branches.target
            ∙ ap (λ (n : ℕ). world_at words c (from + 4) (cond (holds_of (word_in c) condition) (addresses label) n) true) following
            ∙ ap (λ b. world_at words c (from + 4) (leads_by b number condition label c) true) (sym is)
        by false is (branches, jumps, next) =
            let following : add_of (from + 4) 4 ≡ addresses number + 4 = omega (arith, low, place) in
            goes_to words c c from (from + 4) (cond (holds_of (word_in c) (inverse_of condition)) (branch_target from branches.offset) (add_of (from + 4) 4)) false true (branch_of (inverse_of condition) branches.offset) branches.branch multiple refl refl
            (branches_to words c from (inverse_of condition) branches.offset) u goes
            ∙ ap (λ (n : ℕ). world_at words c (from + 4) (cond (holds_of (word_in c) (inverse_of condition)) n (add_of (from + 4) 4)) true) branches.target
            ∙ ap (λ (n : ℕ). world_at words c (from + 4) (cond (holds_of (word_in c) (inverse_of condition)) (addresses (suc number)) n) true) following
            ∙ ap (λ b. world_at words c (from + 4) (cond b (addresses (suc number)) (addresses number + 4)) true) (holds-inverse (word_in c) condition)
            ∙ ap (λ (n : ℕ). world_at words c (from + 4) n true) (cond-not (holds_of (word_in c) condition) (addresses (suc number)) (addresses number + 4))
            ∙ ap (λ b. world_at words c (from + 4) (leads_by b number condition label c) true) (sym is)
    head_goes number (lines.Jump label) i from c (jumps, next) place multiple low u goes =
        goes_to words c c from (from + 4) (jump_target from jumps.index.index) false true (Jump Plain jumps.index) jumps.jump multiple refl refl refl u goes
        ∙ ap (λ (n : ℕ). world_at words c (from + 4) n true) jumps.target
    head_goes number (lines.Call label) i from c (jumps, next) place multiple low u goes =
        let back : return_address from ≡ addresses (suc number) = omega (arith, low, next) in
        goes_to words c (with_word c RETURN_ADDRESS (return_address from)) from (from + 4) (jump_target from jumps.index.index) false true (Jump AndLink jumps.index) jumps.jump multiple refl refl refl u goes
        ∙ ap (λ (n : ℕ). world_at words (with_word c RETURN_ADDRESS (return_address from)) (from + 4) n true) jumps.target
        ∙ ap (λ (a : ℕ). world_at words (with_word c RETURN_ADDRESS a) (from + 4) (addresses label) true) back
    head_goes number lines.Return i from c (at, slot, next) place multiple low u goes =
        goes_to words c c from (from + 4) (word_in c RETURN_ADDRESS) false true (JumpRegister return_register) at multiple refl refl refl u goes

    module _ (text : IsTextInOrder code code addresses words) where
      pub line_stands : (number : ℕ) (line : Line) → slice_get code.lines number ≡ Some line → is_unreached code.lines number ≡ false → Stands code words addresses number line
      line_stands number line found reached = subst (λ b. StandsUnless b code words addresses number line) reached (text.stands number line found)

      -- An instruction in a delay slot has its usual effect.
      pub slot_goes : (c : Configuration) (small : length c.stack ≤ 1048576) (i : Instr) → is_movable i ≡ true → cause_of (machine_of c) i ≡ None → (at next : ℕ) → IsAt words at i → at % 4 ≡ 0
          → (u : World) → Goes (world_at words c at next true) u → u ≡ world_at words (did c i) next (add_of next 4) false
      slot_goes c small i movable allowed at next here multiple u (event, s, step, is) =
          let ordinary = movable_ordinary i movable in
          let w : World = world_at words c at next true in
          let does = fetches words c at next true i here multiple ∙ executes-performs w.machine i (same_cause words text.inside c small at next true i ordinary allowed) in
          let acts : Acts (performs w.machine i) w.machine event s = Step-action w.machine (performs w.machine i) event s refl does step in
          let (e, t, does_above, shows) = performed words text.inside c small at next true i ordinary allowed event s acts in
          let ran : (e ≡ events.Ran) × (t ≡ after (machine_of c) i) = subst (λ (a : Action). Acts a (machine_of c) e t) (movable_does (machine_of c) i movable) does_above in
          by e t ran (subst (λ (v : World). Shown words text.inside c small next (reported (world_of c) e t) v) (sym is) shows)
        where
          same_reported : (e : Event) (t : machines.State) → (e ≡ events.Ran) × (t ≡ after (machine_of c) i) → reported (world_of c) e t ≡ reported (world_of c) events.Ran (after (machine_of c) i)
          same_reported e t ran = ap (λ (x : Event). reported (world_of c) x t) ran.0 ∙ ap (reported (world_of c) events.Ran) ran.1

          by : (e : Event) (t : machines.State) → (e ≡ events.Ran) × (t ≡ after (machine_of c) i) → Shown words text.inside c small next (reported (world_of c) e t) u → u ≡ world_at words (did c i) next (add_of next 4) false
          by e t ran (inl (running, shown)) = shown ∙ ap (λ (v : World). world_at words (from_world v 0) next (add_of next 4) false) (same_reported e t ran)
          by e t ran (inr (end, over, over_below, seen)) =
              let runs : phases.Running ≡ phases.Over end = sym (after_runs c i movable) ∙ ap (λ (v : World). v.machine.phase) (sym (same_reported e t ran)) ∙ over in
              absurd (running_over end runs)
