-- If two adjacent instructions are exchanged, the first of which may be moved past the second, labelled code behaves as before. The
-- machines of the original and the exchanged code run in lockstep; between the exchanged lines, each has executed one of the instructions.
use Rattle.std.proofs.Common.{◌≡◌, ◌≢◌, ℕ, suc, ◌+◌, List, [], ◌∷◌, length, Bool, true, false, cond, Option, None, Some, refl, sym, ap, subst, ◌∙◌, arith, inl, inr, append-nil}
use Rattle.std.specs.Prelude.{◌⊎◌, slice_get, sum_by, flat_map}
use Rattle.std.proofs.lemmas.Bool.{cases_eq}
use Rattle.std.proofs.lemmas.List.Sums.{sum_by-cons}
use Rattle.cyc_words.specs.Ending.{Ending}
use Rattle.cyc_words.specs.Simulation.{Machine, Running, Ended, Failed, NeverFails}
use Rattle.cyc_words.specs.inside.Following.{Matching, IsStepped, IsUnderWay, IsOver, Steps, Follows}
use Rattle.cyc_words.proofs.Simulation.{running_ended, simulates, in_a_row, follows-never_fails}
use Rattle.cyc_words.proofs.Matching.{by_one}
use Rattle.cyc_words.proofs.Booleans.{true_is_not_false}
use Rattle.cyc_isa.specs.declared.instr.Instr.{Instr}
use Rattle.cyc_machine_model.specs.declared.event.Cause.{Cause}
use Rattle.cyc_machine_model.specs.declared.phase.Phase.{Phase}
use Rattle.cyc_machine_model.specs.declared.phase.Phase.TheVariants as phases
use Rattle.cyc_machine_model.specs.Step.{cause_of}
use Rattle.cyc_machine_model.specs.Run.{World, reported, ending_of}
use Rattle.cyc_machine_model.specs.WorldMachine.{world_machine}
use Rattle.cyc_store.specs.State.{StoreState}
use Rattle.cyc_select.specs.declared.code.Line.{Line}
use Rattle.cyc_select.specs.declared.code.Line.TheVariants as lines
use Rattle.cyc_select.specs.inside.Labelled.{Labelled, is_ordinary, IsReturnPoint}
use Rattle.cyc_select.specs.inside.Machine as labelled
use Rattle.cyc_select.specs.inside.Machine.{Configuration, machine_of, world_of, word_in, holds_of}
use Rattle.cyc_select.proofs.Laws.{code_is_lawful}
use Rattle.cyc_asm.specs.inside.Slots.{is_movable, label_of, is_named}
use Rattle.cyc_asm.specs.inside.Order.{passes}
use Rattle.cyc_asm.specs.inside.Text.{own}
use Rattle.cyc_asm.specs.inside.Machine.{Runs, start}
use Rattle.cyc_asm.proofs.Moving.{did, movable_ordinary, performs_did, performs_refused, only_did}
use Rattle.cyc_asm.proofs.Passing.{passed_movable, passed_allowed, either_order, passing_refusal}
use Rattle.cyc_asm.proofs.Fillings.{label_named}

-- ---- exchanged code

-- `IsExchange` says that the second code is the first one in which the instructions of two adjacent lines are exchanged.
pub record IsExchange (code exchanged : List Line) (number : ℕ) (first second : Instr) : Type 0 where
  pub movable : is_movable first ≡ true
  pub passing : passes first second ≡ true
  pub unnamed : is_named code (suc number) ≡ false
  pub here : slice_get code number ≡ Some (lines.Ordinary first)
  pub following : slice_get code (suc number) ≡ Some (lines.Ordinary second)
  pub new_here : slice_get exchanged number ≡ Some (lines.Ordinary second)
  pub new_after : slice_get exchanged (suc number) ≡ Some (lines.Ordinary first)
  pub others : (n : ℕ) → n ≢ number → n ≢ suc number → slice_get exchanged n ≡ slice_get code n
  pub long : length exchanged ≡ length code

ordinary_no_call : (i : Instr) (label : ℕ) → Some (lines.Ordinary i) ≡ Some (lines.Call label) → ⊥
ordinary_no_call i label is = cc

failed_running : Failed ≡ Running → ⊥
failed_running is = cc

-- After the exchange of two lines, calls return to the same lines as before.
module _ (code : Labelled) (exchanged : List Line) (number : ℕ) (first second : Instr) (x : IsExchange code.lines exchanged number first second) where
  -- Neither of the two exchanged lines is a call instruction.
  call_apart : (call label : ℕ) → slice_get code.lines call ≡ Some (lines.Call label) → (call ≢ number) × (call ≢ suc number)
  call_apart call label calls = (
    λ same. ordinary_no_call first label (sym x.here ∙ ap (slice_get code.lines) (sym same) ∙ calls),
    λ same. ordinary_no_call second label (sym x.following ∙ ap (slice_get code.lines) (sym same) ∙ calls),
  )

  new_call_apart : (call label : ℕ) → slice_get exchanged call ≡ Some (lines.Call label) → (call ≢ number) × (call ≢ suc number)
  new_call_apart call label calls = (
    λ same. ordinary_no_call second label (sym x.new_here ∙ ap (slice_get exchanged) (sym same) ∙ calls),
    λ same. ordinary_no_call first label (sym x.new_after ∙ ap (slice_get exchanged) (sym same) ∙ calls),
  )

  pub point_before : (line : ℕ) → IsReturnPoint (record { lines = exchanged; globals = code.globals }) line → IsReturnPoint code line
  point_before line p =
      let (not_here, not_after) = new_call_apart p.call p.label p.calls in
      record { inside = (let i = p.inside in let l = x.long in omega (arith, i, l)); call = p.call; label = p.label; following = p.following; calls = sym (x.others p.call not_here not_after) ∙ p.calls }

  pub point_after : (line : ℕ) → IsReturnPoint code line → IsReturnPoint (record { lines = exchanged; globals = code.globals }) line
  point_after line p =
      let (not_here, not_after) = call_apart p.call p.label p.calls in
      record { inside = (let i = p.inside in let l = x.long in omega (arith, i, l)); call = p.call; label = p.label; following = p.following; calls = x.others p.call not_here not_after ∙ p.calls }

module _ (code : Labelled) (exchanged : List Line) (number : ℕ) (first second : Instr) (x : IsExchange code.lines exchanged number first second) (addresses : ℕ → ℕ) where
  abbrev new_code : Labelled
  new_code = record { lines = exchanged; globals = code.globals }

  abbrev above : Machine
  above = labelled.machine code addresses

  abbrev below : Machine
  below = labelled.machine new_code addresses

  -- `Between` relates the states of the machines for the original and the exchanged code, when each
  -- has executed one of the two exchanged lines.
  record Between (c d : Configuration) : Type 0 where
    pub before : Configuration
    pub at : before.line ≡ number
    pub allowed : cause_of (machine_of before) first ≡ None
    pub first_done : c ≡ did before first
    pub second_done : d ≡ did before second

  abbrev Matches : labelled.State → labelled.State → Type 0
  Matches (labelled.Running c) t = ((t ≡ labelled.Running c) × (c.line ≢ suc number)) ⊎ ((d : Configuration) × (t ≡ labelled.Running d) × Between c d)
  Matches (labelled.Ended ending output input) t = t ≡ labelled.Ended ending output input
  Matches (labelled.Stopped output input) t = t ≡ labelled.Stopped output input

  -- `IsOutside` says that a state is not between the two exchanged lines.
  abbrev IsOutside : labelled.State → Type 0
  IsOutside (labelled.Running c) = c.line ≢ suc number
  IsOutside (labelled.Ended ending output input) = Unit {0}
  IsOutside (labelled.Stopped output input) = Unit {0}

  same_matches : (s t : labelled.State) → t ≡ s → IsOutside s → Matches s t
  same_matches (labelled.Running c) t is outside = inl (is, outside)
  same_matches (labelled.Ended ending output input) t is outside = is
  same_matches (labelled.Stopped output input) t is outside = is

  same_seen : (s t : labelled.State) → Matches s t → labelled.seen_of t ≡ labelled.seen_of s
  same_seen (labelled.Running c) t (inl (is, outside)) = ap labelled.seen_of is
  same_seen (labelled.Running c) t (inr (d, is, between)) =
      ap labelled.seen_of is ∙ ap (λ (e : Configuration). labelled.seen_of (labelled.Running e)) between.second_done ∙ ap (λ (e : Configuration). labelled.seen_of (labelled.Running e)) (sym between.first_done)
  same_seen (labelled.Ended ending output input) t is = ap labelled.seen_of is
  same_seen (labelled.Stopped output input) t is = ap labelled.seen_of is

  same_ending : (s t : labelled.State) (ending : Ending) → Matches s t → labelled.status_of s ≡ Ended ending → labelled.status_of t ≡ Ended ending
  same_ending (labelled.Running c) t ending matches ended = absurd (running_ended ending ended)
  same_ending (labelled.Ended e output input) t ending is ended = ap labelled.status_of is ∙ ended
  same_ending (labelled.Stopped output input) t ending is ended = ap labelled.status_of is ∙ ended

  abbrev matching : Matching above below
  matching = record {
    Matches = Matches;
    weight = λ s. 0;
    own = λ line. line ∷ [];
    alike = same_seen;
    endings = same_ending;
  }

  -- ---- any other line

  point : (line : ℕ) → IsReturnPoint new_code line → IsReturnPoint code line
  point = point_before code exchanged number first second x

  new_point : (line : ℕ) → IsReturnPoint code line → IsReturnPoint new_code line
  new_point = point_after code exchanged number first second x

  point_outside : (line : ℕ) → IsReturnPoint code line → line ≢ suc number
  point_outside line p same =
      let (not_here, not_after) = call_apart code exchanged number first second x p.call p.label p.calls in
      not_here (let b = p.following in omega (arith, same, b))

  -- No line of the code jumps to the second of the two exchanged lines.
  label_outside : (at label : ℕ) (line : Line) → slice_get code.lines at ≡ Some line → label_of line ≡ Some label → label ≢ suc number
  label_outside at label line found goes same =
      true_is_not_false (sym (label_named code.lines at label line found goes) ∙ ap (is_named code.lines) same ∙ x.unnamed)

  module _ (c : Configuration) (not_first : c.line ≢ number) (outside : c.line ≢ suc number) where
    next_outside : c.line + 1 ≢ suc number
    next_outside same = not_first (omega (arith, same))

    closed_outside : (w : World) (o : Option Ending) → IsOutside (labelled.closed w o)
    closed_outside w (Some ending) = tt
    closed_outside w None = tt

    settled_outside : (w : World) (p : Phase) → IsOutside (labelled.settled w (c.line + 1) p)
    settled_outside w phases.Running = next_outside
    settled_outside w phases.Waiting = tt
    settled_outside w (phases.Over end) = closed_outside w (ending_of end)

    performs_outside : (b : Bool) (i : Instr) (u : labelled.State) → labelled.PerformsOrdinary b c i u → IsOutside u
    performs_outside true i u (event, left, acts, is) = subst IsOutside (sym is) (settled_outside (reported (world_of c) event left) (reported (world_of c) event left).machine.phase)
    performs_outside false i u is = subst IsOutside (sym is) tt

    branch_outside : (b : Bool) (label : ℕ) → label ≢ suc number → IsOutside (labelled.Running (record c { line = cond b label (c.line + 1) }))
    branch_outside true label free = free
    branch_outside false label free = next_outside

    by_line : (o : Option Line) → slice_get code.lines c.line ≡ o → (u : labelled.State) → labelled.ExecutesAt new_code addresses c o u → labelled.ExecutesAt code addresses c o u × IsOutside u
    by_line None found u is = (is, subst IsOutside (sym is) tt)
    by_line (Some (lines.Ordinary i)) found u performs = (performs, performs_outside (is_ordinary i) i u performs)
    by_line (Some (lines.Branch condition label)) found u is =
        (is, subst IsOutside (sym is) (branch_outside (holds_of (word_in c) condition) label (label_outside c.line label (lines.Branch condition label) found refl)))
    by_line (Some (lines.Jump label)) found u is = (is, subst IsOutside (sym is) (label_outside c.line label (lines.Jump label) found refl))
    by_line (Some (lines.Call label)) found u is = (is, subst IsOutside (sym is) (label_outside c.line label (lines.Call label) found refl))
    by_line (Some lines.Return) found u (inl (line, p, at, is)) = (inl (line, point line p, at, is), subst IsOutside (sym is) (point_outside line (point line p)))
    by_line (Some lines.Return) found u (inr (none, is)) = (inr ((λ line p. none line (new_point line p)), is), subst IsOutside (sym is) tt)

    other_line : (t : labelled.State) → t ≡ labelled.Running c → IsStepped above below matching (labelled.Running c) t
    other_line t is =
        by_one above below matching (labelled.Running c) t (inl (is, outside)) (ap labelled.status_of is) (0, (omega arith), sym (ap labelled.line_of is)) (λ u step.
        let here = subst (λ o. labelled.ExecutesAt new_code addresses c o u) (x.others c.line not_first outside) (subst (λ s. labelled.Step new_code addresses s u) is step) in
        let (step_above, free) = by_line (slice_get code.lines c.line) refl u here in
        (u, step_above, same_matches u u refl free))

  -- ---- the two lines

  -- A line with an ordinary instruction has the effect of this instruction.
  steps_as : (some : Labelled) (c : Configuration) (i : Instr) → is_movable i ≡ true → slice_get some.lines c.line ≡ Some (lines.Ordinary i) → (next : labelled.State)
      → labelled.Performs c i next → labelled.Step some addresses (labelled.Running c) next
  steps_as some c i movable found next performs =
      subst (λ (o : Option Line). labelled.ExecutesAt some addresses c o next) (sym found)
      (subst (λ b. labelled.PerformsOrdinary b c i next) (sym (movable_ordinary i movable)) performs)

  performs_as : (some : Labelled) (c : Configuration) (i : Instr) → is_movable i ≡ true → slice_get some.lines c.line ≡ Some (lines.Ordinary i) → (next : labelled.State)
      → labelled.Step some addresses (labelled.Running c) next → labelled.Performs c i next
  performs_as some c i movable found next step =
      subst (λ b. labelled.PerformsOrdinary b c i next) (movable_ordinary i movable) (subst (λ (o : Option Line). labelled.ExecutesAt some addresses c o next) found step)

  abbrev second_movable : is_movable second ≡ true
  second_movable = passed_movable first second x.passing

  first_line : (c : Configuration) (t : labelled.State) → c.line ≡ number → t ≡ labelled.Running c
      → ((next : labelled.State) → labelled.Step code addresses (labelled.Running c) next → labelled.status_of next ≡ Failed → ⊥) → IsStepped above below matching (labelled.Running c) t
  first_line c t at is fine = by (cause_of (machine_of c) first) refl
    where
      found : slice_get code.lines c.line ≡ Some (lines.Ordinary first)
      found = ap (slice_get code.lines) at ∙ x.here

      by : (cause : Option Cause) → cause_of (machine_of c) first ≡ cause → IsStepped above below matching (labelled.Running c) t
      by (Some cause) refused =
          absurd (fine (labelled.Stopped c.output c.input) (steps_as code c first x.movable found _ (performs_refused c first cause refused)) refl)
      by None allowed =
          by_one above below matching (labelled.Running c) t (inl (is, (λ same. omega (arith, same, at)))) (ap labelled.status_of is) (0, (omega arith), sym (ap labelled.line_of is)) (λ u step.
          let performs = performs_as new_code c second second_movable (ap (slice_get exchanged) at ∙ x.new_here) u (subst (λ s. labelled.Step new_code addresses s u) is step) in (
            labelled.Running (did c first),
            steps_as code c first x.movable found _ (performs_did c first x.movable allowed),
            inr (
              did c second,
              only_did c second second_movable (passed_allowed c first second x.passing) u performs,
              record { before = c; at = at; allowed = allowed; first_done = refl; second_done = refl },
            ),
          ))

  second_line : (c d : Configuration) (t : labelled.State) → t ≡ labelled.Running d → Between c d → IsStepped above below matching (labelled.Running c) t
  second_line c d t is between =
      by_one above below matching (labelled.Running c) t (inr (d, is, between)) (ap labelled.status_of is) (0, (omega arith), line_first ∙ sym line_second ∙ sym (ap labelled.line_of is)) goes
    where
      line_first : c.line ≡ between.before.line + 1
      line_first = ap (λ (e : Configuration). e.line) between.first_done

      line_second : d.line ≡ between.before.line + 1
      line_second = ap (λ (e : Configuration). e.line) between.second_done

      following : between.before.line + 1 ≡ suc number
      following = let at = between.at in omega (arith, at)

      both_done : did (did between.before second) first ≡ did c second
      both_done = sym (either_order between.before first second x.movable x.passing) ∙ ap (λ (e : Configuration). did e second) (sym between.first_done)

      goes : (u : labelled.State) → labelled.Step new_code addresses t u → (next : labelled.State) × labelled.Step code addresses (labelled.Running c) next × Matches next u
      goes u step =
          let performs = performs_as new_code d first x.movable (ap (slice_get exchanged) (line_second ∙ following) ∙ x.new_after) u (subst (λ s. labelled.Step new_code addresses s u) is step) in
          let done = only_did (did between.before second) first x.movable (passing_refusal between.before first second x.movable x.passing ∙ between.allowed) u
          (subst (λ (e : Configuration). labelled.Performs e first u) between.second_done performs) in (
            labelled.Running (did c second),
            steps_as code c second second_movable (ap (slice_get code.lines) (line_first ∙ following) ∙ x.following) _
                (performs_did c second second_movable (passed_allowed c first second x.passing)),
            inl (done ∙ ap (λ (e : Configuration). labelled.Running e) both_done, (λ same. omega (arith, same, line_first, following))),
          )

  matched : Steps above below matching
  matched (labelled.Running c) t (inl (is, outside)) running fine = elim (cases_eq c.line number) [
    | inl at ↦ first_line c t at is fine
    | inr other ↦ other_line c other outside t is
  ]
  matched (labelled.Running c) t (inr (d, is, between)) running fine = second_line c d t is between
  matched (labelled.Ended ending output input) t matches running fine = absurd (running_ended ending (sym running))
  matched (labelled.Stopped output input) t matches running fine = absurd (failed_running running)

  -- ---- whole runs

  abbrev here_only : ℕ → List ℕ
  here_only line = line ∷ []

  follows : (store : StoreState) (calls : ℕ) (input : List ℕ) → NeverFails above (labelled.start code store calls input)
      → Follows above below [] here_only (labelled.start code store calls input) (labelled.start new_code store calls input)
  follows store calls input never =
      simulates above below matching matched (code_is_lawful new_code addresses) [] (labelled.start code store calls input) never (labelled.start new_code store calls input) refl (inl (refl, (λ same. omega (arith, same))))

  -- Two functions map each line to addresses of text. If the addresses of each line have equal total costs under both
  -- functions, so have the addresses of each run.
  module _ (one other : ℕ → List ℕ) (same : (price : ℕ → ℕ) (line : ℕ) → sum_by price (one line) ≡ sum_by price (other line)) (from : labelled.State) (w : World) where
    sums : (price : ℕ → ℕ) (places : List ℕ) → sum_by (λ (p : ℕ). sum_by price (one p)) places ≡ sum_by (λ (p : ℕ). sum_by price (other p)) places
    sums price [] = refl
    sums price (p ∷ places) =
        let left = sum_by-cons (λ (q : ℕ). sum_by price (one q)) p places in
        let right = sum_by-cons (λ (q : ℕ). sum_by price (other q)) p places in
        omega (arith, left, right, same price p, sums price places)

    as_other : (met : List ℕ) (now : World) → IsUnderWay above world_machine [] one from met now ⊎ IsOver above world_machine from now → IsUnderWay above world_machine [] other from met now ⊎ IsOver above world_machine from now
    as_other met now (inl u) =
        inl (record {
          places = u.places;
          state = u.state;
          path = u.path;
          running = u.running;
          goes_on = u.goes_on;
          ahead = u.ahead;
          following = u.following;
          cost = λ price. omega (arith, u.cost price, sums price u.places, same price (labelled.line_of u.state));
        })
    as_other met now (inr over) = inr over

    by_other : Follows above world_machine [] one from w → Follows above world_machine [] other from w
    by_other before = record { runs = λ met now path. as_other met now (before.runs met now path) }

  pub exchange_runs : (words : List ℕ) → Runs new_code addresses words → Runs code addresses words
  exchange_runs words runs store calls input few never =
      let goes_with = follows store calls input never in
      let from : labelled.State = labelled.start code store calls input in
      let between : labelled.State = labelled.start new_code store calls input in
      let never_below = follows-never_fails above below (code_is_lawful code addresses) [] here_only from between goes_with in
      by_other (λ line. flat_map (own addresses) (here_only line)) (own addresses) (λ price line. ap (sum_by price) (append-nil (own addresses line))) from (start code words store calls input)
      (in_a_row above below world_machine [] here_only [] (own addresses) from between (start code words store calls input) goes_with (runs store calls input few never_below))
