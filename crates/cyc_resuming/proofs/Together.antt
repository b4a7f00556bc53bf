-- Calls one after another are one call, and a run that is continued in several calls is the whole run.
use Rattle.std.proofs.Common.{◌≡◌, ℕ, zero, suc, ◌+◌, ◌≤◌, List, [], ◌∷◌, ◌++◌, length, Bool, true, false, Option, None, Some, Result, Ok, Err, refl, sym, ap, subst, ◌∙◌, arith, append_assoc, append-nil, inr}
use Rattle.std.specs.Prelude.{MatchBool}
use Rattle.std.proofs.lemmas.List.{length-append}
use Rattle.cyc_words.proofs.Booleans.{MatchBool-false}
use Rattle.cyc_words.proofs.Lists.{length_in_two}
use Rattle.cyc_elf.specs.declared.fault.ElfFault.{ElfFault}
use Rattle.cyc_elf.specs.Image.{ImageContents}
use Rattle.cyc_store.specs.State.{StoreState}
use Rattle.cyc_machine.specs.declared.fault.LoadFault.TheVariants as load
use Rattle.cyc_machine_model.specs.declared.event.End.{End}
use Rattle.cyc_machine_model.specs.declared.event.Event.TheVariants.{Ran, WantsByte, Puts, Ended, NoMemory}
use Rattle.cyc_machine_model.specs.declared.phase.Phase.TheVariants.{Running}
use Rattle.cyc_machine_model.specs.Bounds.{Bounds}
use Rattle.cyc_machine_model.specs.State.{State}
use Rattle.cyc_machine_model.specs.Run.{World, Goes, Run, end_in, end_of}
use Rattle.cyc_machine_model.specs.Start.{has_outside, start_state, start_world}
use Rattle.cyc_emulator.specs.declared.report.Report.{Report}
use Rattle.cyc_emulator.specs.declared.report.RunFault.TheVariants.{Load}
use Rattle.cyc_emulator.specs.declared.report.Stop.{Stop}
use Rattle.cyc_emulator.specs.declared.report.Stop.TheVariants as stops
use Rattle.cyc_emulator.specs.Engine.{Devices, Counted, IsReported, Answers, Refuses, Starts, Stops}
use Rattle.cyc_emulator.proofs.Engines.{counted_run}
use Rattle.cyc_resuming.specs.declared.pause.Standing.{Standing}
use Rattle.cyc_resuming.specs.declared.pause.Standing.TheVariants as standings
use Rattle.cyc_resuming.specs.Resuming.{IsPart, Opens, Point, StandsAs, StandsAt, phase_at}
use Rattle.cyc_resuming.specs.Rows.{IsPiece, IsPieceAt, IsRow, IsWhole, Piece, RowsEnd, RowsJoin, RowsSpend, all_of, report_of}
use Rattle.cyc_resuming.proofs.Resumings.{begin}

-- ---- a run behind what was printed before it

framed : List ℕ → World → World
framed before w = record w { output = before ++ w.output }

goes_framed : (before : List ℕ) (u v : World) → Goes u v → Goes (framed before u) (framed before v)
unfolding framed
goes_framed before u v (Ran, s, step, is) = (Ran, s, step, ap (framed before) is)
goes_framed before u v (WantsByte, s, step, is) = (WantsByte, s, step, ap (framed before) is)
goes_framed before u v (Puts byte, s, step, is) =
    (Puts byte, s, step, ap (framed before) is ∙ ap (λ (printed : List ℕ). record u { machine = s; output = printed }) (sym (append_assoc before u.output (byte ∷ []))))
goes_framed before u v (Ended end, s, step, is) = (Ended end, s, step, ap (framed before) is)
goes_framed before u v (NoMemory, s, step, is) = (NoMemory, s, step, ap (framed before) is)

run_framed : (before : List ℕ) (count : ℕ) (u v : World) → Run count u v → Run count (framed before u) (framed before v)
run_framed before zero u v is = ap (framed before) is
run_framed before (suc count) u v (mid, goes, rest) = (framed before mid, goes_framed before u mid goes, run_framed before count mid v rest)

counted_framed : (before : List ℕ) (count : ℕ) (u v : World) → Counted count u v → Counted count (framed before u) (framed before v)
unfolding framed
counted_framed before zero u v is = ap (framed before) is
counted_framed before (suc count) u v (mid, run, none, goes) = (framed before mid, run_framed before count u mid run, none, goes_framed before mid v goes)

-- ---- runs one after another

run_then : (m n : ℕ) (u v w : World) → Run m u v → Run n v w → Run (m + n) u w
run_then zero n u v w is run = subst (λ k. Run k u w) (let none : n ≡ 0 + n = omega arith in none) (subst (λ x. Run n x w) is run)
run_then (suc m) n u v w (mid, goes, rest) run =
    subst (λ k. Run k u w) (let one : suc (m + n) ≡ suc m + n = omega arith in one) (mid, goes, run_then m n mid v w rest run)

counted_then : (m n : ℕ) (u v w : World) → Counted m u v → Counted n v w → Counted (m + n) u w
counted_then m zero u v w first is = subst (λ k. Counted k u w) (let none : m ≡ m + 0 = omega arith in none) (subst (λ x. Counted m u x) (sym is) first)
counted_then m (suc n) u v w first (mid, run, none, goes) =
    subst (λ k. Counted k u w) (let one : suc (m + n) ≡ m + suc n = omega arith in one) (mid, run_then m n u v mid (counted_run m u v first) run, none, goes)

-- ---- calls one after another

row_part_then : (m n : ℕ) (a b c : State) (read printed read' printed' : List ℕ) (saw saw' : Bool) → IsPart m a read printed saw b → IsPart n b read' printed' saw' c
    → (saw ≡ true → (read' ≡ []) × (saw' ≡ true)) → IsPart (m + n) a (read ++ read') (printed ++ printed') saw' c
unfolding framed
row_part_then m n a b c read printed read' printed' saw saw' first second after_end rest ended =
    let mid : World = record { machine = b; output = printed; input = read' ++ rest } in
    let none : saw ≡ true → read' ++ rest ≡ [] = λ was. let after = after_end was in ap (λ (bytes : List ℕ). bytes ++ rest) after.0 ∙ ended after.1 in
    let from : Counted n mid (record { machine = c; output = printed ++ printed'; input = rest }) =
    subst (λ (output : List ℕ). Counted n (record { machine = b; output = output; input = read' ++ rest }) (record { machine = c; output = printed ++ printed'; input = rest })) (append-nil printed)
    (counted_framed printed n (begin b (read' ++ rest)) (record { machine = c; output = printed'; input = rest }) (second rest ended)) in
    subst (λ (input : List ℕ). Counted (m + n) (begin a input) (record { machine = c; output = printed ++ printed'; input = rest })) (sym (append_assoc read read' rest))
    (counted_then m n (begin a (read ++ (read' ++ rest))) mid (record { machine = c; output = printed ++ printed'; input = rest }) (first (read' ++ rest) none) from)

no_call : (old new : Point) → new ≡ old → IsPiece (all_of []) old new
no_call old new is at stands = record {
  now = at;
  stands = subst (λ (p : Point). StandsAt p at) (sym is) stands;
  part = λ rest ended. refl;
  after_end = λ was. (refl, ap (λ (p : Point). p.saw_end) is ∙ was);
}

pub join_rows : RowsJoin
join_rows [] old new is at stands = no_call old new is at stands
join_rows (piece ∷ pieces) old new (mid, first, others) at stands =
    let p = first at stands in
    let q = join_rows pieces mid new others p.now p.stands in record {
      now = q.now;
      stands = q.stands;
      part = row_part_then piece.count (all_of pieces).count at p.now q.now piece.read piece.printed (all_of pieces).read (all_of pieces).printed mid.saw_end new.saw_end p.part q.part q.after_end;
      after_end = λ was.
          let before = p.after_end was in
          let after = q.after_end before.1 in
          (ap (λ (bytes : List ℕ). bytes ++ (all_of pieces).read) before.0 ∙ after.0, after.1);
    }

-- ---- the whole run

reported : (start : List ℕ → World) (at now : State) (budget : ℕ) (stop : Stop) (piece : Piece) (saw : Bool) (rest : List ℕ) → ((input : List ℕ) → start input ≡ begin at input)
    → IsPart piece.count at piece.read piece.printed saw now → (saw ≡ true → rest ≡ []) → piece.count ≤ budget
    → Stops stop budget piece.count (record { machine = now; output = piece.printed; input = rest })
    → IsReported start budget (record { remaining = Some (piece.read ++ rest); written = Some [] }) (record { remaining = Some rest; written = Some piece.printed }) (report_of stop piece now)
reported start at now budget stop piece saw rest begins part ended few stopped = record {
  world = record { machine = now; output = piece.printed; input = rest };
  executes = record {
    input = piece.read ++ rest;
    reported = refl;
    counted = subst (λ (w : World). Counted piece.count w (record { machine = now; output = piece.printed; input = rest })) (sym (begins (piece.read ++ rest))) (part rest ended);
    unread = refl;
    written = refl;
  };
  few = few;
  stops = stopped;
  stands = (refl, refl);
  read = sym (length-append piece.read rest);
  printed = refl;
  peaks = tt;
}

whole_row_of : (grows : Bool) (store : StoreState) (image : ImageContents) (limits : Bounds) (budget : ℕ) (stop : Stop) (piece : Piece) (rest : List ℕ) (machine : State) → has_outside image ≡ false
    → IsReported (start_world image limits store) budget (record { remaining = Some (piece.read ++ rest); written = Some [] }) (record { remaining = Some rest; written = Some piece.printed }) (report_of stop piece machine)
    → IsWhole grows store (Ok image) limits budget stop piece rest machine
whole_row_of grows store image limits budget stop piece rest machine inside is =
    let old : Devices = record { remaining = Some (piece.read ++ rest); written = Some [] } in
    let new : Devices = record { remaining = Some rest; written = Some piece.printed } in
    MatchBool-false (has_outside image) (Refuses (Load load.Outside) old new (Ok (report_of stop piece machine)))
    (Starts grows (start_world image limits store) budget old new (Ok (report_of stop piece machine)))
    (λ outside. let both : true ≡ false = sym outside ∙ inside in cc) (inr is)

-- What calls did that begin with a run which was opened.
opened : (image : ImageContents) (limits : Bounds) (store : StoreState) (pieces : List Piece) (first last : Point) → Opens (Ok image) limits store first → IsRow pieces first last
    → IsPieceAt (all_of pieces) first last (start_state image limits store)
opened image limits store pieces first last (inside, is) row =
    join_rows pieces first last row (start_state image limits store) (subst (λ (p : Point). StandsAt p (start_state image limits store)) (sym is) (refl, refl))

over_at : (stands : Standing) (machine at : State) (end : End) → stands ≡ standings.Ended end → StandsAs stands machine at → machine ≡ at
over_at stands machine at end is stood = subst (λ (how : Standing). StandsAs how machine at) is stood

pub rows_end : RowsEnd
rows_end grows store (Err fault) limits pieces first last end opens row over rest ended budget few = absurd opens
rows_end grows store (Ok image) limits pieces first last end opens row over rest ended budget few =
    let p = opened image limits store pieces first last opens row in
    let same = over_at last.stands last.machine p.now end over p.stands.0 in
    let gone : end_in p.now.phase ≡ Some end = ap end_in p.stands.1 ∙ ap (λ (how : Standing). end_in (phase_at how)) over in
    subst (λ (machine : State). IsWhole grows store (Ok image) limits budget (stops.End end) (all_of pieces) rest machine) (sym same)
    (whole_row_of grows store image limits budget (stops.End end) (all_of pieces) rest p.now opens.0
    (reported (start_world image limits store) (start_state image limits store) p.now budget (stops.End end) (all_of pieces) last.saw_end rest (λ input. refl) p.part ended few gone))

pub rows_spend : RowsSpend
rows_spend grows store (Err fault) limits pieces first last opens row rest ended = absurd opens
rows_spend grows store (Ok image) limits pieces first last opens row rest ended =
    let p = opened image limits store pieces first last opens row in (
      p.now,
      p.stands,
      λ running.
          whole_row_of grows store image limits (all_of pieces).count stops.Spent (all_of pieces) rest p.now opens.0
          (reported (start_world image limits store) (start_state image limits store) p.now (all_of pieces).count stops.Spent (all_of pieces) last.saw_end rest (λ input. refl) p.part ended (omega arith) (ap end_in running, refl)),
    )
