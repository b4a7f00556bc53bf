-- The event of a step determines the machine's phase (running, waiting or ended) after the step.
use Rattle.std.proofs.Common.{◌≡◌, ◌∙◌, ℕ, Option, None, Some, true, false, cond, refl, sym, ap}
use Rattle.cyc_isa.specs.declared.instr.Instr.{Instr}
use Rattle.cyc_isa.specs.declared.instr.Instr.TheVariants.{Immediate, LoadUpper, Memory, Branch, BranchZero, Jump, Shift, ShiftVariable, JumpRegister, JumpRegisterLink, Exception, MoveFrom, MultiplyDivide, Arithmetic}
use Rattle.cyc_isa.specs.declared.instr.MemoryOp.TheVariants.{LoadWord, StoreWord, LoadByte, StoreByte}
use Rattle.cyc_isa.specs.declared.instr.ExceptionOp.TheVariants.{Syscall, Break}
use Rattle.cyc_store.specs.Services.{Answer, Refused, Done, Opened, OpenedLexical, Allocated}
use Rattle.cyc_machine_model.specs.declared.event.Cause.{Cause}
use Rattle.cyc_machine_model.specs.declared.event.Cause.TheVariants.{Misaligned}
use Rattle.cyc_machine_model.specs.declared.event.Event.{Event}
use Rattle.cyc_machine_model.specs.declared.phase.Phase.{Phase}
use Rattle.cyc_machine_model.specs.declared.phase.Phase.TheVariants.{Running, Waiting, Over}
use Rattle.cyc_machine_model.specs.Shape.{phase_after}
use Rattle.cyc_machine_model.specs.State.{State, text_at}
use Rattle.cyc_machine_model.specs.Step.{Action, Does, Calls, Service, GetByte, PutByte, EndReturned, EndUncaught, Asks, EndFull, reported_by, answered, with_store, Serves, Acts, StepIn}
use Rattle.cyc_machine_model.specs.Step.{Step, action_of, refuses, reads_text, decodes, refuses_or_performs, performs, calls, asked, cause_of, after, instruction_of, is_aligned}

-- Executing an ordinary instruction leaves the machine's phase (running, waiting or ended) unchanged.
phase-after : (s : State) (i : Instr) → (after s i).phase ≡ s.phase
phase-after s (Memory LoadWord t b h) = refl
phase-after s (Memory StoreWord t b h) = refl
phase-after s (Memory LoadByte t b h) = refl
phase-after s (Memory StoreByte t b h) = refl
phase-after s (Immediate op t b h) = refl
phase-after s (LoadUpper t h) = refl
phase-after s (Branch op l r h) = refl
phase-after s (BranchZero op b h) = refl
phase-after s (Jump op x) = refl
phase-after s (Shift op d b a) = refl
phase-after s (ShiftVariable op d b k) = refl
phase-after s (JumpRegister b) = refl
phase-after s (JumpRegisterLink d b) = refl
phase-after s (Exception op x) = refl
phase-after s (MoveFrom op d) = refl
phase-after s (MultiplyDivide op l r) = refl
phase-after s (Arithmetic op d l r) = refl

-- `Tells` says that the event of an action that involves no choice of the store determines the machine's phase (running, waiting or ended)
-- after the action.
abbrev Tells : Action → Type 0
Tells (Does event new) = new.phase ≡ phase_after event
Tells (Calls service) = Unit {0}

calls_tells : (service : Option Service) (s : State) → Tells (calls service s)
calls_tells (Some service) s = tt
calls_tells None s = refl

performs_tells : (s : State) (i : Instr) → s.phase ≡ Running → Tells (performs s i)
performs_tells s (Exception Syscall x) running = calls_tells (asked s.core) s
performs_tells s (Exception Break x) running = phase-after s (Exception Break x) ∙ running
performs_tells s (Memory op t b h) running = phase-after s (Memory op t b h) ∙ running
performs_tells s (Immediate op t b h) running = running
performs_tells s (LoadUpper t h) running = running
performs_tells s (Branch op l r h) running = running
performs_tells s (BranchZero op b h) running = running
performs_tells s (Jump op x) running = running
performs_tells s (Shift op d b a) running = running
performs_tells s (ShiftVariable op d b k) running = running
performs_tells s (JumpRegister b) running = running
performs_tells s (JumpRegisterLink d b) running = running
performs_tells s (MoveFrom op d) running = running
performs_tells s (MultiplyDivide op l r) running = running
performs_tells s (Arithmetic op d l r) running = running

refuses_or_performs_tells : (cause : Option Cause) (s : State) (i : Instr) → s.phase ≡ Running → Tells (refuses_or_performs cause s i)
refuses_or_performs_tells (Some cause) s i running = refl
refuses_or_performs_tells None s i running = performs_tells s i running

decodes_tells : (s : State) (i : Option Instr) → s.phase ≡ Running → Tells (decodes s i)
decodes_tells s (Some i) running = refuses_or_performs_tells (cause_of s i) s i running
decodes_tells s None running = refl

reads_text_tells : (s : State) (word : Option ℕ) → s.phase ≡ Running → Tells (reads_text s word)
reads_text_tells s (Some word) running = decodes_tells s (instruction_of word) running
reads_text_tells s None running = refl

action_of_tells : (s : State) → s.phase ≡ Running → Tells (action_of s)
action_of_tells s running =
    elim (is_aligned s.core.counter) as (λ b. Tells (cond b (reads_text s (text_at s.memory.text s.core.counter)) (refuses s Misaligned))) [
      | true ↦ reads_text_tells s (text_at s.memory.text s.core.counter) running
      | false ↦ refl
    ]

-- If a step's event and state equal those of an action, the event determines the machine's phase (running, waiting or ended) after the
-- step.
tells_both : (old : State) (event reported : Event) (new left : State) → left.phase ≡ phase_after reported → event ≡ reported → new ≡ left → new.phase ≡ phase_after event
tells_both old event reported new left tells same_event same_state =
    ap (λ s. s.phase) same_state ∙ (tells ∙ ap phase_after (sym same_event))

-- The event of the store's result determines the machine's phase (running, waiting or ended) after the result.
answered_tells : (s : State) (answer : Answer) → s.phase ≡ Running → (answered s answer).phase ≡ phase_after (reported_by answer)
answered_tells s (Refused why) running = refl
answered_tells s Done running = running
answered_tells s (Opened handle) running = running
answered_tells s (OpenedLexical handle mark) running = running
answered_tells s (Allocated address) running = running

Serves_tells : (service : Service) (old : State) (event : Event) (new : State) → old.phase ≡ Running → Serves service old event new → new.phase ≡ phase_after event
Serves_tells GetByte old event new running served = tells_both old event _ new _ refl served.0 served.1
Serves_tells PutByte old event new running served = tells_both old event _ new _ running served.0 served.1
Serves_tells EndReturned old event new running served = tells_both old event _ new _ refl served.0 served.1
Serves_tells EndUncaught old event new running served = tells_both old event _ new _ refl served.0 served.1
Serves_tells (Asks call) old event new running (answer, store, serves, reported, left) =
    tells_both old event (reported_by answer) new (answered (with_store old store) answer) (answered_tells (with_store old store) answer running) reported left
Serves_tells EndFull old event new running served = tells_both old event _ new _ refl served.0 served.1

Acts_tells : (action : Action) (old : State) (event : Event) (new : State) → old.phase ≡ Running → Tells action → Acts action old event new → new.phase ≡ phase_after event
Acts_tells (Does reported left) old event new running tells acts = tells_both old event reported new left tells acts.0 acts.1
Acts_tells (Calls service) old event new running tells acts = Serves_tells service old event new running acts

StepIn_tells : (phase : Phase) (old : State) (event : Event) (new : State) → old.phase ≡ phase → StepIn phase old event new → new.phase ≡ phase_after event
StepIn_tells Running old event new is step = Acts_tells (action_of old) old event new is (action_of_tells old is) step
StepIn_tells Waiting old event new is step = tells_both old event _ new old is step.0 step.1
StepIn_tells (Over end) old event new is step = tells_both old event _ new old is step.0 step.1

pub Step-phase : (old : State) (event : Event) (new : State) → Step old event new → new.phase ≡ phase_after event
Step-phase old event new step = StepIn_tells old.phase old event new refl step
