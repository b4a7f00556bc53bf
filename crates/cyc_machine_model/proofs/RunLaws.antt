-- Laws of runs.
use Rattle.std.proofs.Common.{◌≡◌, ℕ, zero, suc, ◌+◌, List, [], ◌∷◌, ◌++◌, Some, refl, sym, ◌∙◌, ap, subst, append_assoc, append-nil, zero-add, arith, take, take-append-drop}
use Rattle.cyc_words.specs.Seen.{IsPrefix}
use Rattle.cyc_machine_model.specs.declared.event.Event.{Event}
use Rattle.cyc_machine_model.specs.declared.event.Event.TheVariants.{Ran, WantsByte, Puts, Ended, NoMemory}
use Rattle.cyc_machine_model.specs.declared.event.End.{End}
use Rattle.cyc_machine_model.specs.declared.phase.Phase.{Phase}
use Rattle.cyc_machine_model.specs.declared.phase.Phase.TheVariants.{Running, Waiting, Over}
use Rattle.cyc_machine_model.specs.State.{State}
use Rattle.cyc_machine_model.specs.Step.{StepIn}
use Rattle.cyc_machine_model.specs.Run.{World, reported, Goes, Run, end_in, end_of}

pub Goes-over : (w w' : World) (end : End) → w.machine.phase ≡ Over end → Goes w w' → w' ≡ w
Goes-over w w' end ended (event, s, step, is) =
    let stays = subst (λ (p : Phase). StepIn p w.machine event s) ended step in
    is ∙ (ap (λ e. reported w e s) stays.0 ∙ ap (λ m. reported w (Ended end) m) stays.1)

-- If a run has ended, the state of machine, input and output can step to itself.
pub Goes-rests : (w : World) (end : End) → w.machine.phase ≡ Over end → Goes w w
Goes-rests w end over = (Ended end, w.machine, subst (λ (p : Phase). StepIn p w.machine (Ended end) w.machine) (sym over) (refl, refl), refl)

pub Run-over : (count : ℕ) (w w' : World) (end : End) → w.machine.phase ≡ Over end → Run count w w' → w' ≡ w
Run-over zero w w' end ended run = run
Run-over (suc count) w w' end ended (mid, goes, run) =
    let same = Goes-over w mid end ended goes in
    Run-over count mid w' end (ap (λ v. v.machine.phase) same ∙ ended) run ∙ same

-- A step appends new output to the end of the output so far.
reported-output : (w : World) (event : Event) (s : State) → IsPrefix w.output (reported w event s).output
reported-output w Ran s = ([], sym (append-nil w.output))
reported-output w WantsByte s = ([], sym (append-nil w.output))
reported-output w (Puts byte) s = (byte ∷ [], refl)
reported-output w (Ended end) s = ([], sym (append-nil w.output))
reported-output w NoMemory s = ([], sym (append-nil w.output))

pub Goes-output : (w w' : World) → Goes w w' → IsPrefix w.output w'.output
Goes-output w w' (event, s, step, is) =
    subst (λ (v : World). IsPrefix w.output v.output) (sym is) (reported-output w event s)

pub Run-output : (count : ℕ) (w w' : World) → Run count w w' → IsPrefix w.output w'.output
Run-output zero w w' run = ([], ap (λ v. v.output) run ∙ sym (append-nil w.output))
Run-output (suc count) w w' (mid, goes, run) =
    let first = Goes-output w mid goes in
    let then = Run-output count mid w' run in
    (first.0 ++ then.0, then.1 ∙ (ap (λ out. out ++ then.0) first.1 ∙ append_assoc w.output first.0 then.0))

pub run_after_run : (m n : ℕ) (u v w : World) → Run m u v → Run n v w → Run (m + n) u w
run_after_run zero n u v w first second =
    subst (λ (k : ℕ). Run k u w) (sym (zero-add n)) (subst (λ (x : World). Run n x w) first second)
run_after_run (suc m) n u v w (mid, goes, run) second =
    let more : Run (suc (m + n)) u w = (mid, goes, run_after_run m n mid v w run second) in
    let all : suc (m + n) ≡ suc m + n = omega arith in
    subst (λ (k : ℕ). Run k u w) all more

pub run_in_parts : (m n : ℕ) (u w : World) → Run (m + n) u w → (v : World) × Run m u v × Run n v w
run_in_parts zero n u w run = (u, refl, subst (λ (k : ℕ). Run k u w) (zero-add n) run)
run_in_parts (suc m) n u w run =
    let all : suc m + n ≡ suc (m + n) = omega arith in
    let more : Run (suc (m + n)) u w = subst (λ (k : ℕ). Run k u w) all run in
    let rest = run_in_parts m n more.0 w more.2 in
    (rest.0, (more.0, more.1, rest.1), rest.2)

-- A step consumes input from its front.
reported-input : (w : World) (event : Event) (s : State) → (read : List ℕ) × (w.input ≡ read ++ (reported w event s).input)
reported-input w Ran s = ([], refl)
reported-input w WantsByte s = (take 1 w.input, sym (take-append-drop 1 w.input))
reported-input w (Puts byte) s = ([], refl)
reported-input w (Ended end) s = ([], refl)
reported-input w NoMemory s = ([], refl)

pub Goes-input : (w w' : World) → Goes w w' → (read : List ℕ) × (w.input ≡ read ++ w'.input)
Goes-input w w' (event, s, step, is) =
    let read = reported-input w event s in
    (read.0, read.1 ∙ ap (λ v. read.0 ++ v.input) (sym is))

pub Run-input : (count : ℕ) (w w' : World) → Run count w w' → (read : List ℕ) × (w.input ≡ read ++ w'.input)
Run-input zero w w' run = ([], ap (λ v. v.input) (sym run))
Run-input (suc count) w w' (mid, goes, run) =
    let first = Goes-input w mid goes in
    let then = Run-input count mid w' run in
    (first.0 ++ then.0, first.1 ∙ (ap (λ rest. first.0 ++ rest) then.1 ∙ sym (append_assoc first.0 then.0 w'.input)))

-- If `end_in` finds that a run in a given phase has ended in some way, the phase is `Over` with this way of ending.
over-end_in : (phase : Phase) (end : End) → end_in phase ≡ Some end → phase ≡ Over end
over-end_in Running end ended = cc
over-end_in Waiting end ended = cc
over-end_in (Over e) end ended = cc

pub over-end_of : (w : World) (end : End) → end_of w ≡ Some end → w.machine.phase ≡ Over end
over-end_of w end ended = over-end_in w.machine.phase end ended
