-- Loop invariant of a call: the instructions executed so far are a part of the run, from the state at which the run stood before the call.
use Rattle.std.proofs.Common.{◌≡◌, ℕ, zero, suc, ◌+◌, ◌<◌, ◌≤◌, List, [], ◌∷◌, ◌++◌, length, Bool, true, false, Option, None, Some, refl, sym, ap, subst, ◌∙◌, arith}
use Rattle.std.specs.Io.KnownBytes.{Keeps, Appends, Consumes}
use Rattle.std.proofs.KnownBytes.{Appends-kept, Consumes-kept}
use Rattle.cyc_words.proofs.DeviceLemmas.{Keeps-refl, Keeps_trans, Appends-nil, Consumes-nil}
use Rattle.cyc_machine_model.specs.declared.event.End.{End}
use Rattle.cyc_machine_model.specs.declared.event.Event.{Event}
use Rattle.cyc_machine_model.specs.declared.event.Event.TheVariants.{Ran, WantsByte, Puts, NoMemory}
use Rattle.cyc_machine_model.specs.declared.event.Event.TheVariants as events
use Rattle.cyc_machine_model.specs.declared.phase.Phase.TheVariants.{Running}
use Rattle.cyc_machine_model.specs.State.{State}
use Rattle.cyc_machine_model.specs.Step.{Step, StepOver}
use Rattle.cyc_machine_model.specs.Run.{World, Goes, end_in}
use Rattle.cyc_machine_model.proofs.PhaseLaws.{Step-phase}
use Rattle.cyc_machine.specs.declared.exchanged.Device.{Device}
use Rattle.cyc_machine.specs.declared.exchanged.Device.TheVariants.{Reader, Writer}
use Rattle.cyc_machine.specs.declared.exchanged.Exchanged.{Exchanged}
use Rattle.cyc_machine.specs.Between.{Asked, Exchanges, FailsAt, RunsAhead, RunsBetween, Traffic, after_byte}
use Rattle.cyc_emulator.specs.Engine.{Devices, Rests, Leaves, Counted}
use Rattle.cyc_emulator.specs.inside.Turn.{WentOn}
use Rattle.cyc_emulator.proofs.Engines.{Progress, Progress-ahead, Progress-turn, counted_run, devices_of}
use Rattle.cyc_resuming.specs.declared.pause.Standing.{Standing}
use Rattle.cyc_resuming.specs.declared.pause.Standing.TheVariants.{Ready, Wants, Prints, Ended}
use Rattle.cyc_resuming.specs.declared.pause.Pause.{Pause}
use Rattle.cyc_resuming.specs.declared.pause.Pause.TheVariants as pauses
use Rattle.cyc_resuming.specs.declared.pause.Slice.{Slice}
use Rattle.cyc_resuming.specs.Resuming.{IsPart, Pauses, Point, ResumesAt, StandsAs, StandsAt, phase_at}
use Rattle.cyc_resuming.specs.inside.Turn.{GoesAhead, Turns, TurnsOver, last_of, pause_of}

-- ---- after the end of the input

-- Once the end of the input was seen, no byte is read, and the reader is left as it is.
pub record ReadsNothing (x x' : Exchanged) (old new : Option (List ℕ)) : Type 0 where
  pub ended : x'.ended ≡ true
  pub read : x'.read ≡ x.read
  pub kept : Keeps old new

asks_nothing : (seen : Bool) (x x' : Exchanged) (byte : Option ℕ) (old new : Option (List ℕ)) → seen ≡ true → Asked seen byte old new → x' ≡ after_byte x byte → ReadsNothing x x' old new
asks_nothing true x x' byte old new was (none, kept) counts =
    let is : x' ≡ record x { ended = true } = counts ∙ ap (after_byte x) none in record {
      ended = ap (λ (y : Exchanged). y.ended) is;
      read = ap (λ (y : Exchanged). y.read) is;
      kept = kept;
    }
asks_nothing false x x' byte old new was asked counts = absurd (let never : false ≡ true = was in cc)

exchanges_nothing : (event : Event) (s machine : State) (before after : Traffic) → before.counts.ended ≡ true → Exchanges event s machine before after
    → ReadsNothing before.counts after.counts before.remaining after.remaining
exchanges_nothing Ran s machine before after ended (is, same) =
    subst (λ (t : Traffic). ReadsNothing before.counts t.counts before.remaining t.remaining) (sym same)
    (record { ended = ended; read = refl; kept = Keeps-refl before.remaining })
exchanges_nothing WantsByte s machine before after ended (byte, is, (asked, silent, counts)) =
    asks_nothing before.counts.ended before.counts after.counts byte before.remaining after.remaining ended asked counts
exchanges_nothing (Puts byte) s machine before after ended (is, (kept, appends, counts)) = record {
  ended = ap (λ (y : Exchanged). y.ended) counts ∙ ended;
  read = ap (λ (y : Exchanged). y.read) counts;
  kept = subst (Keeps before.remaining) (sym kept) (Keeps-refl before.remaining);
}
exchanges_nothing (events.Ended end) s machine before after ended none = absurd none
exchanges_nothing NoMemory s machine before after ended none = absurd none

then_nothing : (x y z : Exchanged) (a b c : Option (List ℕ)) → ReadsNothing x y a b → ReadsNothing y z b c → ReadsNothing x z a c
then_nothing x y z a b c first second = record {
  ended = second.ended;
  read = second.read ∙ first.read;
  kept = Keeps_trans a b c first.kept second.kept;
}

between_nothing : (count : ℕ) (old : State) (before : Traffic) (new : State) (after : Traffic) → before.counts.ended ≡ true → RunsBetween count old before new after
    → ReadsNothing before.counts after.counts before.remaining after.remaining
between_nothing zero old before new after ended (same, none) =
    subst (λ (t : Traffic). ReadsNothing before.counts t.counts before.remaining t.remaining) (sym none)
    (record { ended = ended; read = refl; kept = Keeps-refl before.remaining })
between_nothing (suc count) old before new after ended (mid, between, run, event, s, step, exchanges) =
    let first = between_nothing count old before mid between ended run in
    then_nothing before.counts between.counts after.counts before.remaining between.remaining after.remaining first
    (exchanges_nothing event s new between after first.ended exchanges)

ahead_nothing : (count : ℕ) (old : State) (before : Traffic) (new : State) (after : Traffic) → before.counts.ended ≡ true → RunsAhead count old before new after
    → ReadsNothing before.counts after.counts before.remaining after.remaining
ahead_nothing count old before new after ended runs =
    let first = between_nothing count old before new runs.last ended runs.runs in record {
      ended = ap (λ (y : Exchanged). y.ended) runs.stays.2 ∙ first.ended;
      read = ap (λ (y : Exchanged). y.read) runs.stays.2 ∙ first.read;
      kept = Keeps_trans before.remaining runs.last.remaining after.remaining first.kept runs.stays.0;
    }

went_nothing : (event : Event) (s machine : State) (x x' : Exchanged) (old new : Devices) → x.ended ≡ true → WentOn event s machine x x' old new
    → ReadsNothing x x' old.remaining new.remaining
went_nothing Ran s machine x x' old new ended (is, same, (kept, silent)) = record {
  ended = ap (λ (y : Exchanged). y.ended) same ∙ ended;
  read = ap (λ (y : Exchanged). y.read) same;
  kept = kept;
}
went_nothing WantsByte s machine x x' old new ended (byte, is, counts, asked, silent) =
    asks_nothing x.ended x x' byte old.remaining new.remaining ended asked counts
went_nothing (Puts byte) s machine x x' old new ended (is, same, kept, appends) = record {
  ended = ap (λ (y : Exchanged). y.ended) same ∙ ended;
  read = ap (λ (y : Exchanged). y.read) same;
  kept = kept;
}
went_nothing (events.Ended end) s machine x x' old new ended none = absurd none
went_nothing NoMemory s machine x x' old new ended none = absurd none

-- ---- the invariant

abbrev pub begin : State → List ℕ → World
begin at input = record { machine = at; output = []; input = input }

-- Returns the devices as a call sees them. If the run has seen the end of its input, what a reader has is of no account.
abbrev pub seen : Bool → Devices → Devices
seen true d = record { remaining = None; written = d.written }
seen false d = d

-- `Going` is the invariant: the instructions so far lead from the state `at` to the one at which the run stands now.
pub record Going (at : State) (saw : Bool) (old now : Devices) (count : ℕ) (x : Exchanged) (stands : Standing) (machine : State) : Type 0 where
  pub here : State
  pub going : phase_at stands ≡ Running
  pub stood : StandsAs stands machine here
  pub progress : Progress (begin at) (seen saw old) now count x None here
  pub after_end : saw ≡ true → (x.ended ≡ true) × (x.read ≡ 0) × Keeps old.remaining now.remaining

starts_in : (at : State) (saw : Bool) (devices : Devices) (x : Exchanged) → at.phase ≡ Running → x.ended ≡ saw → x.read ≡ 0 → x.written ≡ 0
    → Progress (begin at) (seen saw devices) devices 0 x None at
starts_in at true devices x running ended read written = record {
  read = [];
  output = [];
  consumed = tt;
  printed = Appends-nil devices.written devices.written (Keeps-refl devices.written);
  reads = read;
  writes = written;
  at_end = λ end. tt;
  running = running;
  runs = λ rest end. (refl, tt);
}
starts_in at false devices x running ended read written = record {
  read = [];
  output = [];
  consumed = Consumes-nil devices.remaining devices.remaining (Keeps-refl devices.remaining);
  printed = Appends-nil devices.written devices.written (Keeps-refl devices.written);
  reads = read;
  writes = written;
  at_end = λ end. absurd (let never : false ≡ true = sym ended ∙ end in cc);
  running = running;
  runs = λ rest end. (refl, tt);
}

-- Before the first instruction of a call.
pub starts : (at machine : State) (stands : Standing) (devices : Devices) (x : Exchanged) → phase_at stands ≡ Running → StandsAs stands machine at × (at.phase ≡ phase_at stands)
    → x.read ≡ 0 → x.written ≡ 0 → Going at x.ended devices devices 0 x stands machine
starts at machine stands devices x going stood read written = record {
  here = at;
  going = going;
  stood = stood.0;
  progress = starts_in at x.ended devices x (stood.1 ∙ going) refl read written;
  after_end = λ ended. (ended, read, Keeps-refl devices.remaining);
}

-- After instructions that were executed fast.
pub goes_ahead : (at : State) (saw : Bool) (old : Devices) (count more : ℕ) (failed : Option Device) (stands stands' : Standing) (machine machine' : State) (before after : Traffic)
    → (g : Going at saw old (devices_of before) count before.counts stands machine) → phase_at stands' ≡ Running → GoesAhead more failed g.here before stands' machine' after
    → Going at saw old (devices_of after) (count + more) after.counts stands' machine'
goes_ahead at saw old count more failed stands stands' machine machine' before after g going a = record {
  here = a.there;
  going = going;
  stood = a.stands_as;
  progress = Progress-ahead (begin at) (seen saw old) count more g.here a.there before after g.progress a.runs;
  after_end = λ was.
      let so_far = g.after_end was in
      let nothing = ahead_nothing more g.here before a.there after so_far.0 a.runs in
      (nothing.ended, nothing.read ∙ so_far.1, Keeps_trans old.remaining before.remaining after.remaining so_far.2 nothing.kept);
}

-- After one more instruction from the state at which the run stood.
pub goes_turn : (at : State) (saw : Bool) (old now new : Devices) (count : ℕ) (x x' : Exchanged) (stands stands' : Standing) (machine machine' : State)
    → (g : Going at saw old now count x stands machine) → Turns g.here machine' stands' x x' now new None
    → Going at saw old new (count + 1) x' stands' machine'
goes_turn at saw old now new count x x' stands stands' machine machine' g (is, event, s, step, went) = record {
  here = machine';
  going = ap phase_at is;
  stood = subst (λ (how : Standing). StandsAs how machine' machine') (sym is) refl;
  progress = Progress-turn (begin at) (seen saw old) now new count x x' None g.here machine' g.progress (event, s, step, went);
  after_end = λ was.
      let so_far = g.after_end was in
      let nothing = went_nothing event s machine' x x' now new so_far.0 went in
      (nothing.ended, nothing.read ∙ so_far.1, Keeps_trans old.remaining now.remaining new.remaining so_far.2 nothing.kept);
}

leaves_rest : (a b c : Option (List ℕ)) → Leaves a b [] → Keeps b c → Leaves a c []
leaves_rest None b c h k = tt
leaves_rest (Some reported) None c h k = absurd h
leaves_rest (Some reported) (Some left) None h k = absurd k
leaves_rest (Some reported) (Some left) (Some more) h k = k ∙ h

-- If a device was asked in vain, the instructions so far are the same.
progress_stays : (start : List ℕ → World) (old now new : Devices) (count : ℕ) (x : Exchanged) (here : State) → Progress start old now count x None here → Rests now new → Progress start old new count x None here
progress_stays start old now new count x here p (kept, silent) = record {
  read = p.read;
  output = p.output;
  consumed = Consumes-kept old.remaining now.remaining new.remaining p.read p.consumed kept;
  printed = Appends-kept old.written now.written new.written p.output p.printed silent;
  reads = p.reads;
  writes = p.writes;
  at_end = λ end. leaves_rest old.remaining now.remaining new.remaining (p.at_end end) kept;
  running = p.running;
  runs = p.runs;
}

pub goes_nowhere : (at : State) (saw : Bool) (old now new : Devices) (count : ℕ) (x : Exchanged) (stands stands' : Standing) (machine machine' : State)
    → (g : Going at saw old now count x stands machine) → phase_at stands' ≡ Running → StandsAs stands' machine' g.here → Rests now new
    → Going at saw old new count x stands' machine'
goes_nowhere at saw old now new count x stands stands' machine machine' g going stood rests = record {
  here = g.here;
  going = going;
  stood = stood;
  progress = progress_stays (begin at) (seen saw old) now new count x g.here g.progress rests;
  after_end = λ was.
      let so_far = g.after_end was in
      (so_far.0, so_far.1, Keeps_trans old.remaining now.remaining new.remaining so_far.2 rests.0);
}

-- ---- what comes of a call

no_bytes : (read : List ℕ) → length read ≡ 0 → read ≡ []
no_bytes [] none = refl
no_bytes (byte ∷ read) none = absurd (let never : suc (length read) ≡ 0 = none in cc)

-- The bytes that a call read, and whether anything is left, by whether the run had seen the end of its input before.
pub record Taken (saw : Bool) (old now : Devices) (x : Exchanged) (read printed : List ℕ) : Type 0 where
  pub consumed : Consumes old.remaining now.remaining read
  pub written : Appends old.written now.written printed
  pub after_end : saw ≡ true → (read ≡ []) × (x.ended ≡ true)
  pub at_end : saw ≡ false → x.ended ≡ true → Leaves old.remaining now.remaining []

taken : (saw : Bool) (at here : State) (old now : Devices) (count : ℕ) (x : Exchanged) → (p : Progress (begin at) (seen saw old) now count x None here)
    → (saw ≡ true → (x.ended ≡ true) × (x.read ≡ 0) × Keeps old.remaining now.remaining) → Taken saw old now x p.read p.output
taken true at here old now count x p after_end =
    let after = after_end refl in
    let none : p.read ≡ [] = no_bytes p.read (sym p.reads ∙ after.1) in record {
      consumed = subst (λ (bytes : List ℕ). Consumes old.remaining now.remaining bytes) (sym none) (Consumes-nil old.remaining now.remaining after.2);
      written = p.printed;
      after_end = λ was. (none, after.0);
      at_end = λ was end. absurd (let never : true ≡ false = was in cc);
    }
taken false at here old now count x p after_end = record {
  consumed = p.consumed;
  written = p.printed;
  after_end = λ was. absurd (let never : false ≡ true = was in cc);
  at_end = λ was end. p.at_end end;
}

-- The run goes on in a later call.
pub pauses_at : (grows : Bool) (old : Point) (at : State) (budget : ℕ) (before after : Devices) (count : ℕ) (x : Exchanged) (pause : Pause) (stands : Standing) (machine : State)
    → (g : Going at old.saw_end before after count x stands machine) → count ≤ budget → Pauses grows pause stands g.here count budget
    → ResumesAt grows old (record { machine = machine; stands = stands; saw_end = x.ended }) budget before after
    (record { count = count; read = x.read; written = x.written; pause = pause }) at
pauses_at grows old at budget before after count x pause stands machine g few why =
    let p = g.progress in
    let t = taken old.saw_end at g.here before after count x p g.after_end in record {
      now = g.here;
      stands = (g.stood, p.running ∙ sym g.going);
      read = p.read;
      printed = p.output;
      consumed = t.consumed;
      written = t.written;
      part = λ rest ended. (p.runs rest ended).0;
      few = few;
      reads = p.reads;
      prints = p.writes;
      pauses = why;
      after_end = t.after_end;
      at_end = t.at_end;
    }

-- One more instruction, after instructions that did not end the run.
counted_more : (count : ℕ) (u v w : World) → Counted count u v → v.machine.phase ≡ Running → Goes v w → Counted (count + 1) u w
counted_more count u v w counted running goes =
    subst (λ k. Counted k u w) (let one : suc count ≡ count + 1 = omega arith in one) (v, counted_run count u v counted, ap end_in running, goes)

-- The run ends.
pub ends_at : (grows : Bool) (old : Point) (at : State) (budget : ℕ) (before now after : Devices) (count : ℕ) (x x' : Exchanged) (end : End) (stands stands' : Standing) (machine machine' : State)
    → (g : Going at old.saw_end before now count x stands machine) → count < budget → Turns g.here machine' stands' x x' now after (Some (pauses.Ended end))
    → ResumesAt grows old (record { machine = machine'; stands = stands'; saw_end = x'.ended }) budget before after
    (record { count = count + 1; read = x'.read; written = x'.written; pause = pauses.Ended end }) at
ends_at grows old at budget before now after count x x' end stands stands' machine machine' g below (is, step, same, rests) =
    let p = progress_stays (begin at) (seen old.saw_end before) now after count x g.here g.progress rests in
    let t = taken old.saw_end at g.here before after count x p
    (λ was. let so_far = g.after_end was in (so_far.0, so_far.1, Keeps_trans before.remaining now.remaining after.remaining so_far.2 rests.0)) in
    let all : ResumesAt grows old (record { machine = machine'; stands = Ended end; saw_end = x.ended }) budget before after
    (record { count = count + 1; read = x.read; written = x.written; pause = pauses.Ended end }) at = record {
      now = machine';
      stands = (refl, Step-phase g.here (events.Ended end) machine' step);
      read = p.read;
      printed = p.output;
      consumed = t.consumed;
      written = t.written;
      part = λ rest ended. counted_more count (begin at (p.read ++ rest)) (record { machine = g.here; output = p.output; input = rest }) (record { machine = machine'; output = p.output; input = rest })
          (p.runs rest ended).0 p.running (events.Ended end, machine', step, refl);
      few = omega (arith, below);
      reads = p.reads;
      prints = p.writes;
      pauses = refl;
      after_end = t.after_end;
      at_end = t.at_end;
    } in
    subst (λ (y : Exchanged). ResumesAt grows old (record { machine = machine'; stands = stands'; saw_end = y.ended }) budget before after
    (record { count = count + 1; read = y.read; written = y.written; pause = pauses.Ended end }) at) (sym same)
    (subst (λ (how : Standing). ResumesAt grows old (record { machine = machine'; stands = how; saw_end = x.ended }) budget before after
    (record { count = count + 1; read = x.read; written = x.written; pause = pauses.Ended end }) at) (sym is) all)

-- The run was over before the call.
pub rests_over : (grows : Bool) (point : Point) (at : State) (budget : ℕ) (devices : Devices) (end : End) → point.stands ≡ Ended end → StandsAt point at
    → ResumesAt grows point point budget devices devices (record { count = 0; read = 0; written = 0; pause = pauses.Ended end }) at
rests_over grows point at budget devices end over stands = record {
  now = at;
  stands = stands;
  read = [];
  printed = [];
  consumed = Consumes-nil devices.remaining devices.remaining (Keeps-refl devices.remaining);
  written = Appends-nil devices.written devices.written (Keeps-refl devices.written);
  part = λ rest ended. refl;
  few = omega arith;
  reads = refl;
  prints = refl;
  pauses = over;
  after_end = λ was. (refl, was);
  at_end = λ was end. absurd (let never : true ≡ false = sym end ∙ was in cc);
}

pub turns_over : (grows : Bool) (here machine' : State) (stands' : Standing) (x x' : Exchanged) (old new : Devices) (result : Option Pause) → Turns here machine' stands' x x' old new result
    → TurnsOver grows here machine' stands' x x' old new result
turns_over grows here machine' stands' x x' old new None turned = turned
turns_over grows here machine' stands' x x' old new (Some (pauses.Ended end)) turned = turned
turns_over grows here machine' stands' x x' old new (Some pauses.Spent) turned = turned
turns_over grows here machine' stands' x x' old new (Some pauses.NoByte) turned = turned
turns_over grows here machine' stands' x x' old new (Some pauses.NoRoom) turned = turned
turns_over grows here machine' stands' x x' old new (Some pauses.NoMemory) turned = absurd turned

-- What comes of a turn after which the run goes on in a later call.
stops_by : (grows : Bool) (old : Point) (at : State) (budget : ℕ) (before now after : Devices) (count : ℕ) (x x' : Exchanged) (pause : Pause) (stands stands' : Standing) (machine machine' : State)
    → (g : Going at old.saw_end before now count x stands machine) → count < budget → ((end : End) → pause ≡ pauses.Ended end → ⊥)
    → TurnsOver grows g.here machine' stands' x x' now after (Some pause)
    → ResumesAt grows old (record { machine = machine'; stands = stands'; saw_end = x'.ended }) budget before after
    (record { count = count; read = x'.read; written = x'.written; pause = pause }) at
unfolding goes_nowhere
stops_by grows old at budget before now after count x x' (pauses.Ended end) stands stands' machine machine' g below never turned = absurd (never end refl)
stops_by grows old at budget before now after count x x' pauses.Spent stands stands' machine machine' g below never turned = absurd turned
stops_by grows old at budget before now after count x x' pauses.NoByte stands stands' machine machine' g below never (is, step, same, rests) =
    let stood : StandsAs stands' machine' g.here = subst (λ (how : Standing). StandsAs how machine' g.here) (sym is) step in
    let there = goes_nowhere at old.saw_end before now after count x stands stands' machine machine' g (ap phase_at is) stood rests in
    subst (λ (y : Exchanged). ResumesAt grows old (record { machine = machine'; stands = stands'; saw_end = y.ended }) budget before after
    (record { count = count; read = y.read; written = y.written; pause = pauses.NoByte }) at) (sym same)
    (pauses_at grows old at budget before after count x pauses.NoByte stands' machine' there (omega (arith, below)) (g.progress.running, below, machine', step))
stops_by grows old at budget before now after count x x' pauses.NoRoom stands stands' machine machine' g below never (byte, is, step, same, rests) =
    let stood : StandsAs stands' machine' g.here = subst (λ (how : Standing). StandsAs how machine' g.here) (sym is) step in
    let there = goes_nowhere at old.saw_end before now after count x stands stands' machine machine' g (ap phase_at is) stood rests in
    subst (λ (y : Exchanged). ResumesAt grows old (record { machine = machine'; stands = stands'; saw_end = y.ended }) budget before after
    (record { count = count; read = y.read; written = y.written; pause = pauses.NoRoom }) at) (sym same)
    (pauses_at grows old at budget before after count x pauses.NoRoom stands' machine' there (omega (arith, below)) (g.progress.running, below, byte, machine', step))
stops_by grows old at budget before now after count x x' pauses.NoMemory stands stands' machine machine' g below never (is, stays, wants, same, rests) =
    let stood : StandsAs stands' machine' g.here = subst (λ (how : Standing). StandsAs how machine' g.here) (sym is) stays in
    let there = goes_nowhere at old.saw_end before now after count x stands stands' machine machine' g (ap phase_at is) stood rests in
    subst (λ (y : Exchanged). ResumesAt grows old (record { machine = machine'; stands = stands'; saw_end = y.ended }) budget before after
    (record { count = count; read = y.read; written = y.written; pause = pauses.NoMemory }) at) (sym same)
    (pauses_at grows old at budget before after count x pauses.NoMemory stands' machine' there (omega (arith, below)) (below, wants))

uncounted : (grows : Bool) (old : Point) (at : State) (budget : ℕ) (before after : Devices) (count : ℕ) (x : Exchanged) (pause : Pause) (stands : Standing) (machine : State)
    → ResumesAt grows old (record { machine = machine; stands = stands; saw_end = x.ended }) budget before after (record { count = count; read = x.read; written = x.written; pause = pause }) at
    → ResumesAt grows old (record { machine = machine; stands = stands; saw_end = x.ended }) budget before after (record { count = count + 0; read = x.read; written = x.written; pause = pause }) at
uncounted grows old at budget before after count x pause stands machine resumes =
    subst (λ (k : ℕ). ResumesAt grows old (record { machine = machine; stands = stands; saw_end = x.ended }) budget before after (record { count = k; read = x.read; written = x.written; pause = pause }) at)
    (let none : count ≡ count + 0 = omega arith in none) resumes

-- What comes of a turn that paused the run: the run ends with it, or goes on in a later call.
pub stops : (grows : Bool) (old : Point) (at : State) (budget : ℕ) (before now after : Devices) (count : ℕ) (x x' : Exchanged) (pause : Pause) (stands stands' : Standing) (machine machine' : State)
    → (g : Going at old.saw_end before now count x stands machine) → count < budget → TurnsOver grows g.here machine' stands' x x' now after (Some pause)
    → ResumesAt grows old (record { machine = machine'; stands = stands'; saw_end = x'.ended }) budget before after
    (record { count = count + last_of pause; read = x'.read; written = x'.written; pause = pause }) at
stops grows old at budget before now after count x x' (pauses.Ended end) stands stands' machine machine' g below turned =
    ends_at grows old at budget before now after count x x' end stands stands' machine machine' g below turned
stops grows old at budget before now after count x x' pauses.Spent stands stands' machine machine' g below turned = absurd turned
stops grows old at budget before now after count x x' pauses.NoByte stands stands' machine machine' g below turned =
    uncounted grows old at budget before after count x' pauses.NoByte stands' machine'
    (stops_by grows old at budget before now after count x x' pauses.NoByte stands stands' machine machine' g below (λ end is. cc) turned)
stops grows old at budget before now after count x x' pauses.NoRoom stands stands' machine machine' g below turned =
    uncounted grows old at budget before after count x' pauses.NoRoom stands' machine'
    (stops_by grows old at budget before now after count x x' pauses.NoRoom stands stands' machine machine' g below (λ end is. cc) turned)
stops grows old at budget before now after count x x' pauses.NoMemory stands stands' machine machine' g below turned =
    uncounted grows old at budget before after count x' pauses.NoMemory stands' machine'
    (stops_by grows old at budget before now after count x x' pauses.NoMemory stands stands' machine machine' g below (λ end is. cc) turned)

-- A device failed while instructions were executed fast.
pub device_fails_by : (grows : Bool) (old : Point) (at : State) (budget : ℕ) (before : Devices) (count more : ℕ) (device : Device) (pause : Pause) (stands stands' : Standing) (machine machine' : State) (t t' : Traffic)
    → (g : Going at old.saw_end before (devices_of t) count t.counts stands machine) → count + more < budget → phase_at stands' ≡ Running → pause ≡ pause_of device
    → GoesAhead more (Some device) g.here t stands' machine' t'
    → ResumesAt grows old (record { machine = machine'; stands = stands'; saw_end = t'.counts.ended }) budget before (devices_of t')
    (record { count = count + more; read = t'.counts.read; written = t'.counts.written; pause = pause }) at
unfolding goes_ahead
device_fails_by grows old at budget before count more Reader pause stands stands' machine machine' t t' g below going is a =
    let there = goes_ahead at old.saw_end before count more (Some Reader) stands stands' machine machine' t t' g going a in
    subst (λ (p : Pause). ResumesAt grows old (record { machine = machine'; stands = stands'; saw_end = t'.counts.ended }) budget before (devices_of t')
    (record { count = count + more; read = t'.counts.read; written = t'.counts.written; pause = p }) at) (sym is)
    (pauses_at grows old at budget before (devices_of t') (count + more) t'.counts pauses.NoByte stands' machine' there (omega (arith, below)) (there.progress.running, below, a.fails.0, a.fails.1))
device_fails_by grows old at budget before count more Writer pause stands stands' machine machine' t t' g below going is a =
    let there = goes_ahead at old.saw_end before count more (Some Writer) stands stands' machine machine' t t' g going a in
    subst (λ (p : Pause). ResumesAt grows old (record { machine = machine'; stands = stands'; saw_end = t'.counts.ended }) budget before (devices_of t')
    (record { count = count + more; read = t'.counts.read; written = t'.counts.written; pause = p }) at) (sym is)
    (pauses_at grows old at budget before (devices_of t') (count + more) t'.counts pauses.NoRoom stands' machine' there (omega (arith, below)) (there.progress.running, below, a.fails.0, a.fails.1, a.fails.2))
