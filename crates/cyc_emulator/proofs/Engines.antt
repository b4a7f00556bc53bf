-- Loop invariant of the engine: the instructions executed so far are a run of the machine, on every input that begins with the bytes read.
use Rattle.std.proofs.Common.{◌≡◌, ℕ, zero, suc, ◌+◌, ◌<◌, ◌≤◌, List, [], ◌∷◌, ◌++◌, drop, Bool, true, false, Option, None, Some, Result, Ok, Err, refl, sym, ap, subst, ◌∙◌, arith, append_assoc, append-nil, inl, inr}
use Rattle.std.specs.Prelude.{unwrap_or, slice_get, MatchBool, length, IfSome}
use Rattle.std.specs.Io.KnownBytes.{Keeps, Appends, Consumes, IsAtEnd}
use Rattle.std.proofs.lemmas.List.{length-append}
use Rattle.std.proofs.KnownBytes.{Appends-kept, Consumes-kept}
use Rattle.cyc_words.proofs.DeviceLemmas.{Keeps-refl, Appends-nil, Appends-append, Consumes-append}
use Rattle.cyc_words.proofs.Booleans.{MatchBool-false}
use Rattle.cyc_words.proofs.Lists.{length_in_two}
use Rattle.cyc_machine_model.specs.declared.event.End.{End}
use Rattle.cyc_machine.specs.declared.exchanged.Device.{Device}
use Rattle.cyc_machine.specs.declared.exchanged.Device.TheVariants.{Reader, Writer}
use Rattle.cyc_machine.specs.declared.exchanged.Exchanged.{Exchanged}
use Rattle.cyc_machine_model.specs.declared.event.Event.{Event}
use Rattle.cyc_machine_model.specs.declared.event.Event.TheVariants.{Ran, WantsByte, Puts, Ended, NoMemory}
use Rattle.cyc_machine_model.specs.declared.phase.Phase.TheVariants.{Running, Waiting}
use Rattle.cyc_machine_model.specs.State.{State}
use Rattle.cyc_machine_model.specs.Step.{Step, StepOver, given, given_in}
use Rattle.cyc_machine.specs.Between.{Asked, Exchanges, FailsAt, RunsAhead, RunsBetween, Traffic, after_byte}
use Rattle.cyc_machine_model.specs.Run.{World, reported, Goes, Run, end_in}
use Rattle.cyc_elf.specs.declared.fault.ElfFault.{ElfFault}
use Rattle.cyc_elf.specs.Image.{ImageContents}
use Rattle.cyc_machine.specs.declared.fault.LoadFault.TheVariants as load
use Rattle.cyc_store.specs.State.{StoreState}
use Rattle.cyc_store.specs.State as stores
use Rattle.cyc_machine_model.specs.Bounds.{Bounds}
use Rattle.cyc_machine_model.specs.Shape.{phase_after}
use Rattle.cyc_machine_model.specs.Start.{has_outside, start_state, start_world}
use Rattle.cyc_machine_model.proofs.PhaseLaws.{Step-phase}
use Rattle.cyc_emulator.specs.declared.report.Peaks.{Peaks}
use Rattle.cyc_emulator.specs.declared.report.Report.{Report}
use Rattle.cyc_emulator.specs.declared.report.Stop.{Stop}
use Rattle.cyc_emulator.specs.declared.report.Stop.TheVariants as stops
use Rattle.cyc_emulator.specs.declared.report.RunFault.{RunFault}
use Rattle.cyc_emulator.specs.declared.report.RunFault.TheVariants.{Elf, Load, Read, Write, Memory}
use Rattle.cyc_emulator.specs.Engine.{Devices, Rests, Tells, Leaves, Counted, HasPeaks, Executes, Runs, uses_in, higher, Refuses, Starts, Answers, AnswersAnew, IsReported, limit_at}
use Rattle.cyc_emulator.specs.Faults.{fault_of, is_read, is_write}
use Rattle.cyc_emulator.specs.inside.Loading.{Declines, Loads}
use Rattle.cyc_emulator.specs.inside.Turn.{Turned, TurnedOver, WentOn, counted_at}

-- A run followed by one more instruction is a run.
pub Run-more : (count : ℕ) (u v w : World) → Run count u v → Goes v w → Run (suc count) u w
Run-more zero u v w run goes = (w, subst (λ x. Goes x w) run goes, refl)
Run-more (suc count) u v w (mid, first, rest) goes = (mid, first, Run-more count mid v w rest goes)

pub counted_run : (count : ℕ) (u w : World) → Counted count u w → Run count u w
counted_run zero u w counted = counted
counted_run (suc count) u w (mid, run, none, goes) = Run-more count u mid w run goes

-- If a run of `count` instructions has not ended the machine, one more instruction makes it a run of `count` + 1 instructions.
counted_more : (count : ℕ) (u v w : World) → Counted count u v → v.machine.phase ≡ Running → Goes v w → Counted (count + 1) u w
counted_more count u v w counted running goes =
    subst (λ k. Counted k u w) (let one : suc count ≡ count + 1 = omega arith in one) (v, counted_run count u v counted, ap end_in running, goes)

-- `Way` says that `count` instructions lead from one state of machine and devices to another. If `peaks` is given, it contains the maximal
-- numbers of active calls and used pages during these instructions.
abbrev pub Way : (peaks : Option Peaks) → ℕ → World → World → Type 0
Way peaks count u v = Counted count u v × IfSome peaks (HasPeaks count u v)

way_more : (peaks : Option Peaks) (count : ℕ) (u v w : World) → Way peaks count u v → v.machine.phase ≡ Running → Goes v w → Way (counted_at peaks w.machine) (count + 1) u w
way_more None count u v w (counted, none) running goes = (counted_more count u v w counted running goes, tt)
way_more (Some most) count u v w (counted, peaks) running goes = (
  counted_more count u v w counted running goes,
  subst (λ k. HasPeaks k u w (higher most (uses_in w))) (let one : suc count ≡ count + 1 = omega arith in one) (v, most, peaks, ap end_in running, goes, refl),
)

-- `Progress` is the invariant of the engine's loop: the instructions so far are a run on each input that begins
-- with the bytes read. If the end of the input was reported, the input consists of these bytes.
pub record Progress (start : List ℕ → World) (old now : Devices) (count : ℕ) (x : Exchanged) (peaks : Option Peaks) (machine : State) : Type 0 where
  pub read : List ℕ
  pub output : List ℕ
  pub consumed : Consumes old.remaining now.remaining read
  pub printed : Appends old.written now.written output
  pub reads : x.read ≡ length read
  pub writes : x.written ≡ length output
  pub at_end : x.ended ≡ true → Leaves old.remaining now.remaining []
  pub running : machine.phase ≡ Running
  pub runs : (rest : List ℕ) → (x.ended ≡ true → rest ≡ []) → Way peaks count (start (read ++ rest)) (record { machine = machine; output = output; input = rest })

-- A reader or writer that is not used while one instruction is executed keeps its remaining input or its output.

leaves_kept : (a b c : Option (List ℕ)) (xs : List ℕ) → Leaves a b xs → Keeps b c → Leaves a c xs
leaves_kept None b c xs h k = tt
leaves_kept (Some reported) None c xs h k = absurd h
leaves_kept (Some reported) (Some left) None xs h k = absurd k
leaves_kept (Some reported) (Some left) (Some more) xs h k = k ∙ h

-- If the reader has reported the end of the input, no input is left.
end_seen : (a b c : Option (List ℕ)) (xs : List ℕ) → Consumes a b xs → IsAtEnd b → Keeps b c → Leaves a c []
end_seen None b c xs h e k = tt
end_seen (Some reported) None c xs h e k = absurd h
end_seen (Some reported) (Some left) None xs h e k = absurd k
end_seen (Some reported) (Some left) (Some more) xs h e k = k ∙ e

-- One more iteration of the engine's loop preserves the invariant `Progress`. The proof is by cases of the event that the instruction
-- reports, such as a requested or printed byte.

-- An instruction that uses no device, or only the writer, keeps `Progress`.
quiet : (start : List ℕ → World) (old now new : Devices) (count : ℕ) (x x' : Exchanged) (peaks : Option Peaks) (machine machine' : State) (event : Event) (s : State) (more : List ℕ)
    → (p : Progress start old now count x peaks machine) → Step machine event s → machine' ≡ s → phase_after event ≡ Running → Keeps now.remaining new.remaining → Appends now.written new.written more
    → x'.ended ≡ x.ended → x'.read ≡ x.read → x'.written ≡ x.written + length more
    → ((rest : List ℕ) → reported (record { machine = machine; output = p.output; input = rest }) event s ≡ record { machine = s; output = p.output ++ more; input = rest })
    → Progress start old new (count + 1) x' (counted_at peaks machine') machine'
quiet start old now new count x x' peaks machine machine' event s more p step is on kept appends ends reads writes leaves = record {
  read = p.read;
  output = p.output ++ more;
  consumed = Consumes-kept old.remaining now.remaining new.remaining p.read p.consumed kept;
  printed = Appends-append old.written now.written new.written p.output more p.printed appends;
  reads = reads ∙ p.reads;
  writes = writes ∙ (ap (λ n. n + length more) p.writes ∙ sym (length-append p.output more));
  at_end = λ end. leaves_kept old.remaining now.remaining new.remaining [] (p.at_end (sym ends ∙ end)) kept;
  running = ap (λ t. t.phase) is ∙ Step-phase machine event s step ∙ on;
  runs = λ rest ended.
      way_more peaks count (start (p.read ++ rest)) (record { machine = machine; output = p.output; input = rest }) (record { machine = machine'; output = p.output ++ more; input = rest })
      (p.runs rest (λ e. ended (ends ∙ e))) p.running
      (event, s, step, ap (λ m. record { machine = m; output = p.output ++ more; input = rest }) is ∙ sym (leaves rest));
}

-- A machine that waits for a byte is running after it receives the byte.
given_running : (s : State) (byte : Option ℕ) → s.phase ≡ Waiting → (given s byte).phase ≡ Running
given_running s byte waiting = ap (λ q. (given_in q s byte).phase) waiting

-- `Took` describes the state of machine and devices before an instruction took a byte from the input, where `rest` is
-- the input after this byte.
pub record Took (start : List ℕ → World) (count : ℕ) (peaks : Option Peaks) (machine : State) (output read : List ℕ) (byte : Option ℕ) (rest : List ℕ) : Type 0 where
  pub before : List ℕ
  pub runs : Way peaks count (start (read ++ rest)) (record { machine = machine; output = output; input = before })
  pub first : slice_get before 0 ≡ byte
  pub others : drop 1 before ≡ rest

wanting : (start : List ℕ → World) (old now new : Devices) (count : ℕ) (x x' : Exchanged) (peaks : Option Peaks) (machine machine' s : State) (byte : Option ℕ) (read : List ℕ)
    → (p : Progress start old now count x peaks machine) → Step machine WantsByte s → machine' ≡ given s byte → Keeps now.written new.written
    → Consumes old.remaining new.remaining read → (x'.ended ≡ true → Leaves old.remaining new.remaining []) → x'.read ≡ length read → x'.written ≡ x.written
    → ((rest : List ℕ) → (x'.ended ≡ true → rest ≡ []) → Took start count peaks machine p.output read byte rest)
    → Progress start old new (count + 1) x' (counted_at peaks machine') machine'
wanting start old now new count x x' peaks machine machine' s byte read p step is kept consumed at_end reads writes took = record {
  read = read;
  output = p.output;
  consumed = consumed;
  printed = Appends-kept old.written now.written new.written p.output p.printed kept;
  reads = reads;
  writes = writes ∙ p.writes;
  at_end = at_end;
  running = ap (λ t. t.phase) is ∙ given_running s byte (Step-phase machine WantsByte s step);
  runs = λ rest ended.
      let t = took rest ended in
      let here : World = record { machine = machine; output = p.output; input = t.before } in
      let there : World = record { machine = machine'; output = p.output; input = rest } in
      let leads : there ≡ reported here WantsByte s =
      ap (λ m. record { machine = m; output = p.output; input = rest }) (is ∙ ap (given s) (sym t.first))
      ∙ ap (λ i. record { machine = given s (slice_get t.before 0); output = p.output; input = i }) (sym t.others) in
      way_more peaks count (start (read ++ rest)) here there t.runs p.running (WantsByte, s, step, leads);
}

-- At the end of the input no byte is read, and no input remains.
none_left_to_read : (start : List ℕ → World) (count : ℕ) (peaks : Option Peaks) (machine : State) (output read rest : List ℕ) → rest ≡ [] → Way peaks count (start (read ++ rest)) (record { machine = machine; output = output; input = rest }) → Took start count peaks machine output read None rest
none_left_to_read start count peaks machine output read rest empty runs = record {
  before = rest;
  runs = runs;
  first = ap (λ xs. slice_get xs 0) empty;
  others = ap (drop 1) empty ∙ sym empty;
}

asked_turn : (start : List ℕ → World) (old now new : Devices) (count : ℕ) (x : Exchanged) (seen : Bool) (peaks : Option Peaks) (machine machine' s : State) (byte : Option ℕ) → x.ended ≡ seen
    → Progress start old now count x peaks machine → Step machine WantsByte s → machine' ≡ given s byte → Asked seen byte now.remaining new.remaining → Keeps now.written new.written
    → Progress start old new (count + 1) (after_byte x byte) (counted_at peaks machine') machine'
asked_turn start old now new count x true peaks machine machine' s byte was p step is (none, kept) silent =
    subst (λ b. Progress start old new (count + 1) (after_byte x b) (counted_at peaks machine') machine') (sym none)
    (wanting start old now new count x (after_byte x None) peaks machine machine' s None p.read p step (is ∙ ap (given s) none) silent
    (Consumes-kept old.remaining now.remaining new.remaining p.read p.consumed kept)
    (λ end. leaves_kept old.remaining now.remaining new.remaining [] (p.at_end was) kept) p.reads refl
    (λ rest ended. none_left_to_read start count peaks machine p.output p.read rest (ended refl) (p.runs rest (λ e. ended refl))))
asked_turn start old now new count x false peaks machine machine' s None was p step is (ends, kept) silent =
    wanting start old now new count x (after_byte x None) peaks machine machine' s None p.read p step is silent
    (Consumes-kept old.remaining now.remaining new.remaining p.read p.consumed kept)
    (λ end. end_seen old.remaining now.remaining new.remaining p.read p.consumed ends kept) p.reads refl
    (λ rest ended. none_left_to_read start count peaks machine p.output p.read rest (ended refl) (p.runs rest (λ e. ended refl)))
asked_turn start old now new count x false peaks machine machine' s (Some byte) was p step is consumes silent =
    wanting start old now new count x (after_byte x (Some byte)) peaks machine machine' s (Some byte) (p.read ++ byte ∷ []) p step is silent
    (Consumes-append old.remaining now.remaining new.remaining p.read (byte ∷ []) p.consumed consumes)
    (λ e. cc) (ap (λ n. n + 1) p.reads ∙ sym (length-append p.read (byte ∷ []))) refl
    (λ rest ended. record {
      before = byte ∷ rest;
      runs = subst (λ xs. Way peaks count (start xs) (record { machine = machine; output = p.output; input = byte ∷ rest })) (sym (append_assoc p.read (byte ∷ []) rest)) (p.runs (byte ∷ rest) (λ e. let never : false ≡ true = sym was ∙ e in cc));
      first = refl;
      others = refl;
    })

pub Progress-turn : (start : List ℕ → World) (old now new : Devices) (count : ℕ) (x x' : Exchanged) (peaks : Option Peaks) (machine machine' : State)
    → Progress start old now count x peaks machine → Turned machine machine' x x' now new (Ok None) → Progress start old new (count + 1) x' (counted_at peaks machine') machine'
Progress-turn start old now new count x x' peaks machine machine' p (Ran, s, step, (is, same, (kept, silent))) =
    subst (λ y. Progress start old new (count + 1) y (counted_at peaks machine') machine') (sym same)
    (quiet start old now new count x x peaks machine machine' Ran s [] p step is refl kept (Appends-nil now.written new.written silent) refl refl (let none : x.written ≡ x.written + 0 = omega arith in none)
    (λ rest. ap (λ o. record { machine = s; output = o; input = rest }) (sym (append-nil p.output))))
Progress-turn start old now new count x x' peaks machine machine' p (WantsByte, s, step, (byte, is, ends, asked, silent)) =
    subst (λ y. Progress start old new (count + 1) y (counted_at peaks machine') machine') (sym ends)
    (asked_turn start old now new count x x.ended peaks machine machine' s byte refl p step is asked silent)
Progress-turn start old now new count x x' peaks machine machine' p (Puts byte, s, step, (is, same, kept, printed)) =
    subst (λ y. Progress start old new (count + 1) y (counted_at peaks machine') machine') (sym same)
    (quiet start old now new count x (record x { written = x.written + 1 }) peaks machine machine' (Puts byte) s (byte ∷ []) p step is refl kept printed refl refl refl (λ rest. refl))
Progress-turn start old now new count x x' peaks machine machine' p (Ended end, s, step, none) = absurd none
Progress-turn start old now new count x x' peaks machine machine' p (NoMemory, s, step, none) = absurd none

-- If the maximal numbers of calls and pages are not counted, byte input and output between two iterations of
-- the loop have the effects that `WentOn` describes.

-- Returns the observable state of the reader and the writer during a run.
abbrev pub devices_of : Traffic → Devices
devices_of t = record { remaining = t.remaining; written = t.written }

went_on : (event : Event) (s machine : State) (before after : Traffic) → Exchanges event s machine before after → WentOn event s machine before.counts after.counts (devices_of before) (devices_of after)
went_on Ran s machine before after (is, same) = (
  is,
  ap (λ (t : Traffic). t.counts) same,
  subst (λ (t : Traffic). Rests (devices_of before) (devices_of t)) (sym same) (Keeps-refl before.remaining, Keeps-refl before.written),
)
went_on WantsByte s machine before after (byte, is, (asked, silent, counts)) =
    (byte, is, counts, asked, subst (Keeps before.written) (sym silent) (Keeps-refl before.written))
went_on (Puts byte) s machine before after (is, (kept, appends, counts)) =
    (is, counts, subst (Keeps before.remaining) (sym kept) (Keeps-refl before.remaining), appends)
went_on (Ended end) s machine before after none = absurd none
went_on NoMemory s machine before after none = absurd none

progress_between : (start : List ℕ → World) (old : Devices) (count more : ℕ) (machine machine' : State) (before after : Traffic)
    → Progress start old (devices_of before) count before.counts None machine → RunsBetween more machine before machine' after → Progress start old (devices_of after) (count + more) after.counts None machine'
progress_between start old count zero machine machine' before after p (same, none) =
    subst (λ (k : ℕ). Progress start old (devices_of after) k after.counts None machine') (let all : count ≡ count + zero = omega arith in all)
    (subst (λ (t : Traffic). Progress start old (devices_of t) count t.counts None machine') (sym none)
    (subst (λ (s : State). Progress start old (devices_of before) count before.counts None s) (sym same) p))
progress_between start old count (suc more) machine machine' before after p (mid, between, run, event, s, step, exchanges) =
    let so_far = progress_between start old count more machine mid before between p run in
    let last = Progress-turn start old (devices_of between) (devices_of after) (count + more) between.counts after.counts None mid machine' so_far (event, s, step, went_on event s machine' between after exchanges) in
    subst (λ (k : ℕ). Progress start old (devices_of after) k after.counts None machine') (let all : count + more + 1 ≡ count + suc more = omega arith in all) last

-- If the input and the output of the devices do not change, as in a failed call of a device, `Progress` stays true.
progress_kept : (start : List ℕ → World) (old now new : Devices) (count : ℕ) (x : Exchanged) (peaks : Option Peaks) (machine : State) → Progress start old now count x peaks machine → Rests now new → Progress start old new count x peaks machine
progress_kept start old now new count x peaks machine p (kept, silent) = record {
  read = p.read;
  output = p.output;
  consumed = Consumes-kept old.remaining now.remaining new.remaining p.read p.consumed kept;
  printed = Appends-kept old.written now.written new.written p.output p.printed silent;
  reads = p.reads;
  writes = p.writes;
  at_end = λ end. leaves_kept old.remaining now.remaining new.remaining [] (p.at_end end) kept;
  running = p.running;
  runs = p.runs;
}

pub Progress-ahead : (start : List ℕ → World) (old : Devices) (count more : ℕ) (machine machine' : State) (before after : Traffic)
    → Progress start old (devices_of before) count before.counts None machine → RunsAhead more machine before machine' after → Progress start old (devices_of after) (count + more) after.counts None machine'
Progress-ahead start old count more machine machine' before after p runs =
    subst (λ (x : Exchanged). Progress start old (devices_of after) (count + more) x None machine') (sym runs.stays.2)
    (progress_kept start old (devices_of runs.last) (devices_of after) (count + more) runs.last.counts None machine'
    (progress_between start old count more machine machine' before runs.last p runs.runs) (runs.stays.0, runs.stays.1))

-- The result of the engine's loop, computed from `Progress`.

-- Returns the bytes that the reader can still supply, or the empty list if these bytes are not known.
rest_of : Option (List ℕ) → Option (List ℕ) → List ℕ
rest_of None now = []
rest_of (Some reported) now = unwrap_or now []

reported_all : (old now : Option (List ℕ)) (read : List ℕ) → Consumes old now read → Tells old (read ++ rest_of old now)
unfolding rest_of
reported_all None now read consumed = tt
reported_all (Some reported) None read consumed = absurd consumed
reported_all (Some reported) (Some left) read consumed = consumed

left_over : (old now : Option (List ℕ)) (read : List ℕ) → Consumes old now read → Leaves old now (rest_of old now)
unfolding rest_of
left_over None now read consumed = tt
left_over (Some reported) None read consumed = absurd consumed
left_over (Some reported) (Some left) read consumed = refl

nothing_over : (old now : Option (List ℕ)) → Leaves old now [] → rest_of old now ≡ []
unfolding rest_of
nothing_over None now leaves = refl
nothing_over (Some reported) None leaves = absurd leaves
nothing_over (Some reported) (Some left) leaves = leaves

-- The instructions that the loop has executed are a run on the bytes read followed by the remaining input.
way_of : (start : List ℕ → World) (old now : Devices) (count : ℕ) (x : Exchanged) (peaks : Option Peaks) (machine : State) → (p : Progress start old now count x peaks machine)
    → Way peaks count (start (p.read ++ rest_of old.remaining now.remaining)) (record { machine = machine; output = p.output; input = rest_of old.remaining now.remaining })
way_of start old now count x peaks machine p = p.runs (rest_of old.remaining now.remaining) (λ end. nothing_over old.remaining now.remaining (p.at_end end))

executes_of : (start : List ℕ → World) (old now : Devices) (count : ℕ) (x : Exchanged) (peaks : Option Peaks) (machine : State) → (p : Progress start old now count x peaks machine)
    → Executes start old now count (record { machine = machine; output = p.output; input = rest_of old.remaining now.remaining })
executes_of start old now count x peaks machine p = record {
  input = p.read ++ rest_of old.remaining now.remaining;
  reported = reported_all old.remaining now.remaining p.read p.consumed;
  counted = (way_of start old now count x peaks machine p).0;
  unread = left_over old.remaining now.remaining p.read p.consumed;
  written = p.printed;
}

-- If the reader and the writer are not used after the executed instructions, the statement `Executes` about these instructions stays true.
executes_kept : (start : List ℕ → World) (old now new : Devices) (count : ℕ) (w : World) → Executes start old now count w → Rests now new → Executes start old new count w
executes_kept start old now new count w x (kept, silent) = record {
  input = x.input;
  reported = x.reported;
  counted = x.counted;
  unread = leaves_kept old.remaining now.remaining new.remaining w.input x.unread kept;
  written = Appends-kept old.written now.written new.written w.output x.written silent;
}

-- Returns the report of a run that stops for the reason that the `Stop` value states.
abbrev pub report_of : Stop → (count : ℕ) → Exchanged → (peaks : Option Peaks) → State → Report
report_of stop count x peaks machine = record {
  stop = stop;
  count = count;
  counter = machine.core.counter;
  limit = limit_at stop machine.core;
  read = x.read;
  written = x.written;
  peaks = peaks;
}

-- If the budget of instructions is used up, the report is correct.
pub spends : (start : List ℕ → World) (old now : Devices) (count budget : ℕ) (x : Exchanged) (peaks : Option Peaks) (machine : State) → Progress start old now count x peaks machine → count ≡ budget
    → IsReported start budget old now (report_of stops.Spent budget x peaks machine)
spends start old now count budget x peaks machine p is =
    let here : IsReported start budget old now (report_of stops.Spent count x peaks machine) = record {
      world = record { machine = machine; output = p.output; input = rest_of old.remaining now.remaining };
      executes = record {
        input = p.read ++ rest_of old.remaining now.remaining;
        reported = reported_all old.remaining now.remaining p.read p.consumed;
        counted = (way_of start old now count x peaks machine p).0;
        unread = left_over old.remaining now.remaining p.read p.consumed;
        written = p.printed;
      };
      few = omega (arith, is);
      stops = (ap end_in p.running, is);
      stands = (refl, refl);
      read = length_in_two x.read p.read (rest_of old.remaining now.remaining) p.reads;
      printed = p.writes;
      peaks = (way_of start old now count x peaks machine p).1;
    } in
    subst (λ (k : ℕ). IsReported start budget old now (report_of stops.Spent k x peaks machine)) is here

-- The run ends.
pub stops_at : (start : List ℕ → World) (old now new : Devices) (count budget : ℕ) (x x' : Exchanged) (peaks : Option Peaks) (machine machine' : State) (end : End) → Progress start old now count x peaks machine → count + 1 ≤ budget
    → Turned machine machine' x x' now new (Ok (Some end))
    → IsReported start budget old new (report_of (stops.End end) (count + 1) x' (counted_at peaks machine') machine')
stops_at start old now new count budget x x' peaks machine machine' end p few (step, same, (kept, silent)) =
    let rest = rest_of old.remaining now.remaining in
    let here : World = record { machine = machine; output = p.output; input = rest } in
    let there : World = record { machine = machine'; output = p.output; input = rest } in
    let way = way_more peaks count (start (p.read ++ rest)) here there (way_of start old now count x peaks machine p) p.running (Ended end, machine', step, refl) in
    let all : IsReported start budget old new (report_of (stops.End end) (count + 1) x (counted_at peaks machine') machine') = record {
      world = there;
      executes = record {
        input = p.read ++ rest;
        reported = reported_all old.remaining now.remaining p.read p.consumed;
        counted = way.0;
        unread = leaves_kept old.remaining now.remaining new.remaining rest (left_over old.remaining now.remaining p.read p.consumed) kept;
        written = Appends-kept old.written now.written new.written p.output p.printed silent;
      };
      few = few;
      stops = ap end_in (Step-phase machine (Ended end) machine' step);
      stands = (refl, refl);
      read = length_in_two x.read p.read rest p.reads;
      printed = p.writes;
      peaks = way.1;
    } in
    subst (λ y. IsReported start budget old new (report_of (stops.End end) (count + 1) y (counted_at peaks machine') machine')) (sym same) all

-- If a device fails while an instruction is executed, the result of the run is correct.
fails_at : (grows : Bool) (start : List ℕ → World) (old now new : Devices) (count budget : ℕ) (x x' : Exchanged) (peaks : Option Peaks) (machine machine' : State) (e : RunFault) → Progress start old now count x peaks machine → count < budget
    → Turned machine machine' x x' now new (Err e) → Runs grows start budget old new (Err e)
fails_at grows start old now new count budget x x' peaks machine machine' Read p below (s, step, rests) =
    let rest = rest_of old.remaining now.remaining in
    let here : World = record { machine = machine; output = p.output; input = rest } in
    (count, here, executes_kept start old now new count here (executes_of start old now count x peaks machine p) rests, below, ap end_in p.running, (s, step))
fails_at grows start old now new count budget x x' peaks machine machine' Write p below (byte, s, step, rests) =
    let rest = rest_of old.remaining now.remaining in
    let here : World = record { machine = machine; output = p.output; input = rest } in
    (count, here, executes_kept start old now new count here (executes_of start old now count x peaks machine p) rests, below, ap end_in p.running, (byte, s, step))
fails_at grows start old now new count budget x x' peaks machine machine' (Elf f) p below none = absurd none
fails_at grows start old now new count budget x x' peaks machine machine' (Load f) p below none = absurd none
fails_at grows start old now new count budget x x' peaks machine machine' Memory p below none = absurd none

-- If a device fails between two iterations of the loop, the result of the run is correct.
pub fails_ahead : (grows : Bool) (start : List ℕ → World) (old now : Devices) (count budget : ℕ) (x : Exchanged) (machine : State) (device : Device) → Progress start old now count x None machine → count < budget
    → FailsAt (Some device) machine → Runs grows start budget old now (Err (fault_of device))
fails_ahead grows start old now count budget x machine Reader p below (s, step) =
    fails_at grows start old now now count budget x x None machine machine Read p below (s, step, (Keeps-refl now.remaining, Keeps-refl now.written))
fails_ahead grows start old now count budget x machine Writer p below (byte, s, step) =
    fails_at grows start old now now count budget x x None machine machine Write p below (byte, s, step, (Keeps-refl now.remaining, Keeps-refl now.written))

-- If a device fails, or if the store (the heap of regions) lacks memory and no device was used, the result of the run is correct.
pub fails_turn : (grows : Bool) (start : List ℕ → World) (old now new : Devices) (count budget : ℕ) (x x' : Exchanged) (peaks : Option Peaks) (machine machine' : State) (e : RunFault) → Progress start old now count x peaks machine → count < budget
    → TurnedOver grows machine machine' x x' now new (Err e) → Runs grows start budget old new (Err e)
fails_turn grows start old now new count budget x x' peaks machine machine' Read p below turned = fails_at grows start old now new count budget x x' peaks machine machine' Read p below turned
fails_turn grows start old now new count budget x x' peaks machine machine' Write p below turned = fails_at grows start old now new count budget x x' peaks machine machine' Write p below turned
fails_turn grows start old now new count budget x x' peaks machine machine' (Elf f) p below turned = absurd turned
fails_turn grows start old now new count budget x x' peaks machine machine' (Load f) p below turned = absurd turned
fails_turn grows start old now new count budget x x' peaks machine machine' Memory p below (wants, rests) =
    let here : World = record { machine = machine; output = p.output; input = rest_of old.remaining now.remaining } in
    (count, here, executes_kept start old now new count here (executes_of start old now count x peaks machine p) rests, below, ap end_in p.running, wants)

answers_run : (grows : Bool) (store : StoreState) (read : Result ImageContents ElfFault) (image : ImageContents) (limits : Bounds) (budget : ℕ) (machine : State) (old new : Devices) (result : Result Report RunFault)
    → read ≡ Ok image → (has_outside image ≡ true → ⊥) → machine ≡ start_state image limits store
    → Runs grows (λ input. record { machine = machine; output = []; input = input }) budget old new result → Answers grows store read limits budget old new result
answers_run grows store read image limits budget machine old new result is inside begins runs =
    subst (λ r. Answers grows store r limits budget old new result) (sym is)
    (MatchBool-false (has_outside image) (Refuses (Load load.Outside) old new result) (Starts grows (start_world image limits store) budget old new result) inside
    (inr (subst (λ m. Runs grows (λ input. record { machine = m; output = []; input = input }) budget old new result) begins runs)))

-- If the machine's memory has no address range for a segment of an image, the result `Outside` is correct.
answers_outside : (grows : Bool) (store : StoreState) (read : Result ImageContents ElfFault) (image : ImageContents) (limits : Bounds) (budget : ℕ) (old new : Devices) (result : Result Report RunFault)
    → read ≡ Ok image → has_outside image ≡ true → Refuses (Load load.Outside) old new result → Answers grows store read limits budget old new result
answers_outside grows store read image limits budget old new result is outside refuses =
    subst (λ r. Answers grows store r limits budget old new result) (sym is)
    (subst (λ b. MatchBool b (Refuses (Load load.Outside) old new result) (Starts grows (start_world image limits store) budget old new result)) (sym outside) refuses)

-- If memory runs out before an image is read, the result `Memory` is correct.
refuses_memory : (fault : RunFault) (old new : Devices) → Rests old new → Refuses fault old new (Err Memory)
refuses_memory fault old new rests = (inr refl, rests)

answers_inside : (outside : Bool) (grows : Bool) (start : List ℕ → World) (budget : ℕ) (old new : Devices) → Rests old new
    → MatchBool outside (Refuses (Load load.Outside) old new (Err Memory)) (Starts grows start budget old new (Err Memory))
answers_inside true grows start budget old new rests = refuses_memory (Load load.Outside) old new rests
answers_inside false grows start budget old new rests = inl (refl, rests)

answers_memory : (grows : Bool) (store : StoreState) (read : Result ImageContents ElfFault) (limits : Bounds) (budget : ℕ) (old new : Devices) → Rests old new
    → Answers grows store read limits budget old new (Err Memory)
answers_memory grows store (Err f) limits budget old new rests = refuses_memory (Elf f) old new rests
answers_memory grows store (Ok image) limits budget old new rests = answers_inside (has_outside image) grows (start_world image limits store) budget old new rests

-- If memory runs out before the store (the heap of regions) is made, the result `Memory` is correct.
pub anew_memory : (grows : Bool) (read : Result ImageContents ElfFault) (limits : Bounds) (budget : ℕ) (devices : Devices) → AnswersAnew grows read limits budget devices devices (Err Memory)
anew_memory grows read limits budget devices =
    let store : StoreState = stores.start limits.pages (λ (address : ℕ). 0) in (
      store,
      ((λ (address : ℕ). 0), (λ address. omega arith), refl),
      answers_memory grows store read limits budget devices devices (Keeps-refl devices.remaining, Keeps-refl devices.written),
    )

-- After an image was loaded, the machine is in the running phase.

pub loads_running : (read : Result ImageContents ElfFault) (limits : Bounds) (store : StoreState) (machine : State) → Loads read limits store machine → machine.phase ≡ Running
loads_running (Err f) limits store machine loads = absurd loads
loads_running (Ok image) limits store machine (inside, is) = ap (λ (s : State). s.phase) is

pub answers_loaded : (grows : Bool) (store : StoreState) (read : Result ImageContents ElfFault) (limits : Bounds) (budget : ℕ) (machine : State) (old new : Devices) (result : Result Report RunFault)
    → Loads read limits store machine → Runs grows (λ input. record { machine = machine; output = []; input = input }) budget old new result → Answers grows store read limits budget old new result
answers_loaded grows store (Err f) limits budget machine old new result loads runs = absurd loads
answers_loaded grows store (Ok image) limits budget machine old new result (inside, is) runs =
    answers_run grows store (Ok image) image limits budget machine old new result refl (λ outside. let both : true ≡ false = sym outside ∙ inside in cc) is runs

pub answers_declined : (grows : Bool) (store : StoreState) (read : Result ImageContents ElfFault) (limits : Bounds) (budget : ℕ) (old new : Devices) (fault : RunFault)
    → Declines read fault → Rests old new → Answers grows store read limits budget old new (Err fault)
answers_declined grows store (Err f) limits budget old new fault (inl is) rests = (inl (ap (λ e. Err e) is), rests)
answers_declined grows store (Err f) limits budget old new fault (inr is) rests = (inr (ap (λ e. Err e) is), rests)
answers_declined grows store (Ok image) limits budget old new fault (inl (outside, is)) rests =
    answers_outside grows store (Ok image) image limits budget old new (Err fault) refl outside (inl (ap (λ e. Err e) is), rests)
answers_declined grows store (Ok image) limits budget old new fault (inr is) rests =
    subst (λ e. Answers grows store (Ok image) limits budget old new (Err e)) (sym is) (answers_memory grows store (Ok image) limits budget old new rests)

-- If loading an image fails, the fault is not that of a failed device.
pub declined_read : (read : Result ImageContents ElfFault) (fault : RunFault) → Declines read fault → is_read {T = Report} (Err fault) ≡ false
declined_read (Err f) fault (inl is) = ap (λ e. is_read {T = Report} (Err e)) is
declined_read (Err f) fault (inr is) = ap (λ e. is_read {T = Report} (Err e)) is
declined_read (Ok image) fault (inl (outside, is)) = ap (λ e. is_read {T = Report} (Err e)) is
declined_read (Ok image) fault (inr is) = ap (λ e. is_read {T = Report} (Err e)) is

pub declined_write : (read : Result ImageContents ElfFault) (fault : RunFault) → Declines read fault → is_write {T = Report} (Err fault) ≡ false
declined_write (Err f) fault (inl is) = ap (λ e. is_write {T = Report} (Err e)) is
declined_write (Err f) fault (inr is) = ap (λ e. is_write {T = Report} (Err e)) is
declined_write (Ok image) fault (inl (outside, is)) = ap (λ e. is_write {T = Report} (Err e)) is
declined_write (Ok image) fault (inr is) = ap (λ e. is_write {T = Report} (Err e)) is

-- A store (heap) that does not grow lacks memory only before any byte is read or written, since no instruction allocates.
early_inside : (outside : Bool) (start : List ℕ → World) (budget : ℕ) (old new : Devices)
    → MatchBool outside (Refuses (Load load.Outside) old new (Err Memory)) (Starts false start budget old new (Err Memory)) → Rests old new
early_inside true start budget old new (_, rests) = rests
early_inside false start budget old new (inl (_, rests)) = rests
early_inside false start budget old new (inr (_, _, _, _, _, (_, wants))) = let grows = wants.growing in cc

early_answers : (store : StoreState) (read : Result ImageContents ElfFault) (limits : Bounds) (budget : ℕ) (old new : Devices)
    → Answers false store read limits budget old new (Err Memory) → Rests old new
early_answers store (Err f) limits budget old new (_, rests) = rests
early_answers store (Ok image) limits budget old new answers = early_inside (has_outside image) (start_world image limits store) budget old new answers

pub early_memory : (read : Result ImageContents ElfFault) (limits : Bounds) (budget : ℕ) (old new : Devices) (result : Result Report RunFault)
    → AnswersAnew false read limits budget old new result → result ≡ Err Memory → Rests old new
early_memory read limits budget old new result (store, _, answers) is =
    early_answers store read limits budget old new (subst (λ r. Answers false store read limits budget old new r) is answers)

-- If memory suffices, a step of the emulator's code is a step of the machine.

pub reported_step : (grows : Bool) (old : State) (event : Event) (new : State) → (event ≡ NoMemory → ⊥) → StepOver grows old event new → Step old event new
reported_step grows old Ran new memory step = step
reported_step grows old WantsByte new memory step = step
reported_step grows old (Puts byte) new memory step = step
reported_step grows old (Ended end) new memory step = step
reported_step grows old NoMemory new memory step = absurd (memory refl)

-- A correct result of an iteration of the engine's loop that never lacks memory is also correct for an iteration that may lack memory.
pub turned_over : (grows : Bool) (machine machine' : State) (x x' : Exchanged) (old new : Devices) (result : Result (Option End) RunFault) → Turned machine machine' x x' old new result → TurnedOver grows machine machine' x x' old new result
turned_over grows machine machine' x x' old new (Ok end) turned = turned
turned_over grows machine machine' x x' old new (Err Read) turned = turned
turned_over grows machine machine' x x' old new (Err Write) turned = turned
turned_over grows machine machine' x x' old new (Err (Elf f)) turned = turned
turned_over grows machine machine' x x' old new (Err (Load f)) turned = turned
turned_over grows machine machine' x x' old new (Err Memory) turned = absurd turned
