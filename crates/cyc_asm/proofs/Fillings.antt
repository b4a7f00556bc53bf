-- Laws of filled delay slots, and of the reachability of lines.
use Rattle.std.proofs.Common.{◌≡◌, ℕ, zero, suc, List, Bool, true, false, cond, Option, None, Some, refl, sym, ap, subst, ◌∙◌, eq-eqb}
use Rattle.std.specs.Prelude.{◌&&◌, ◌||◌, not, slice_get}
use Rattle.std.proofs.lemmas.List.Folds.{list_any_at}
use Rattle.std.proofs.lemmas.Option.{slice_get_within, get_or_from_slice_get}
use Rattle.cyc_words.proofs.Booleans.{and_left, and_false, and_and_false}
use Rattle.cyc_isa.specs.declared.instr.Instr.{Instr}
use Rattle.cyc_select.specs.inside.Labelled.{Labelled, IsReturnPoint}
use Rattle.cyc_select.specs.declared.code.Line.{Line}
use Rattle.cyc_select.specs.declared.code.Line.TheVariants as lines
use Rattle.cyc_asm.specs.inside.Slots.{is_movable, moves, label_of, is_label, is_named, goes_on, is_call, may_lack, fills_after, is_unreached_after, is_unreached, is_unreached_before, moved, filling}

-- Returns true if a line is a branch or a jump.
abbrev pub is_jump : Line → Bool
is_jump (lines.Ordinary instruction) = false
is_jump line = true

-- ---- a filled delay slot

-- `IsFilled` states the properties of an instruction that fills the delay slot of a line.
pub record IsFilled (code : List Line) (number : ℕ) (i : Instr) : Type 0 where
  pub before : ℕ
  pub line : Line
  pub is : number ≡ suc before
  pub from : slice_get code before ≡ Some (lines.Ordinary i)
  pub at : slice_get code number ≡ Some line
  pub moves : moves i line ≡ true
  pub unnamed : is_named code number ≡ false

pub filled : (code : List Line) (number : ℕ) (i : Instr) → filling code number ≡ Some i → IsFilled code number i
filled code zero i is = absurd (let e : None ≡ Some i = is in cc)
filled code (suc before) i is = unless (is_named code (suc before)) refl is
  where
    same : (b : Bool) (j : Instr) → cond b (Some j) None ≡ Some i → (b ≡ true) × (j ≡ i)
    same true j is = (refl, let e : Some j ≡ Some i = is in cc)
    same false j is = absurd (let e : None ≡ Some i = is in cc)

    by : (first second : Option Line) → slice_get code before ≡ first → slice_get code (suc before) ≡ second → moved first second ≡ Some i → is_named code (suc before) ≡ false → IsFilled code (suc before) i
    by (Some (lines.Ordinary j)) (Some line) from at is unnamed =
        let (may, one) = same (moves j line) j is in
        record {
          before = before;
          line = line;
          is = refl;
          from = from ∙ ap (λ (x : Instr). Some (lines.Ordinary x)) one;
          at = at;
          moves = subst (λ (x : Instr). moves x line ≡ true) one may;
          unnamed = unnamed;
        }
    by (Some (lines.Ordinary j)) None from at is unnamed = absurd (let e : None ≡ Some i = is in cc)
    by (Some (lines.Branch condition label)) second from at is unnamed = absurd (let e : None ≡ Some i = is in cc)
    by (Some (lines.Jump label)) second from at is unnamed = absurd (let e : None ≡ Some i = is in cc)
    by (Some (lines.Call label)) second from at is unnamed = absurd (let e : None ≡ Some i = is in cc)
    by (Some lines.Return) second from at is unnamed = absurd (let e : None ≡ Some i = is in cc)
    by None second from at is unnamed = absurd (let e : None ≡ Some i = is in cc)

    unless : (named : Bool) → is_named code (suc before) ≡ named → cond named None (moved (slice_get code before) (slice_get code (suc before))) ≡ Some i → IsFilled code (suc before) i
    unless true named is = absurd (let e : None ≡ Some i = is in cc)
    unless false unnamed is = by (slice_get code before) (slice_get code (suc before)) refl refl is unnamed

-- If an instruction fills the delay slot of a line, the instruction may be moved, and the line is a branch or a jump.
pub filled_moves : (i : Instr) (line : Line) → moves i line ≡ true → (is_movable i ≡ true) × (is_jump line ≡ true)
filled_moves i (lines.Ordinary other) may = absurd (let e : false ≡ true = may in cc)
filled_moves i (lines.Branch condition label) may = (and_left (is_movable i) _ may, refl)
filled_moves i (lines.Jump label) may = (may, refl)
filled_moves i (lines.Call label) may = (and_left (is_movable i) _ may, refl)
filled_moves i lines.Return may = (and_left (is_movable i) _ may, refl)

-- ---- empty delay slots

-- If a line jumps to a label, the label counts as one to which some line jumps.
pub label_named : (code : List Line) (number label : ℕ) (line : Line) → slice_get code number ≡ Some line → label_of line ≡ Some label → is_named code label ≡ true
label_named code number label line at goes =
    list_any_at (λ (l : Line). is_label label (label_of l)) code number line (slice_get_within code number line at)
    (ap (λ (l : Line). is_label label (label_of l)) (get_or_from_slice_get code number line line at)
    ∙ ap (is_label label) goes ∙ eq-eqb label label refl)

-- If some line jumps to a label, the delay slot of the line with this label is not filled.
pub named_empty : (code : List Line) (number label : ℕ) (line : Line) → slice_get code number ≡ Some line → label_of line ≡ Some label → filling code label ≡ None
named_empty code number zero line at goes = refl
named_empty code number (suc before) line at goes =
    ap (λ b. cond b None (moved (slice_get code before) (slice_get code (suc before)))) (label_named code number (suc before) line at goes)

-- If a line is a branch or a jump, the delay slot of the next line is empty.
pub after_empty : (code : List Line) (number : ℕ) (line : Line) → slice_get code number ≡ Some line → is_jump line ≡ true → filling code (suc number) ≡ None
after_empty code number line at jumps =
    unless (is_named code (suc number)) (ap (λ (o : Option Line). moved o (slice_get code (suc number))) at ∙ still line jumps (slice_get code (suc number)))
  where
    still : (line : Line) → is_jump line ≡ true → (following : Option Line) → moved (Some line) following ≡ None
    still (lines.Ordinary i) jumps following = absurd (let e : false ≡ true = jumps in cc)
    still (lines.Branch condition label) jumps following = refl
    still (lines.Jump label) jumps following = refl
    still (lines.Call label) jumps following = refl
    still lines.Return jumps following = refl

    unless : (named : Bool) → moved (slice_get code number) (slice_get code (suc number)) ≡ None → cond named None (moved (slice_get code number) (slice_get code (suc number))) ≡ None
    unless true none = refl
    unless false none = none

-- A line with an ordinary instruction has no delay slot.
pub ordinary_empty : (code : List Line) (number : ℕ) (i : Instr) → slice_get code number ≡ Some (lines.Ordinary i) → filling code number ≡ None
ordinary_empty code number i at = by (filling code number) refl
  where
    by : (o : Option Instr) → filling code number ≡ o → filling code number ≡ None
    by None is = is
    by (Some j) is =
        let f = filled code number j is in
        let one : Some f.line ≡ Some (lines.Ordinary i) = sym f.at ∙ at in
        let same : f.line ≡ lines.Ordinary i = cc in
        absurd (let e : false ≡ true = ap (moves j) (sym same) ∙ f.moves in cc)

-- ---- reachable lines

-- The reachability of a line is computed from that of the line before it.
pub unreached_in_turn : (code : List Line) (unreached : Bool) (number : ℕ) → unreached ≡ is_unreached_before code number → is_unreached_after unreached code number ≡ is_unreached code number
unreached_in_turn code unreached zero is = refl
unreached_in_turn code unreached (suc before) is = ap (λ b. is_unreached_after b code (suc before)) is

-- If a line is reachable and control continues after it, the next line is reachable.
pub reached_after : (code : List Line) (number : ℕ) (line : Line) → slice_get code number ≡ Some line → goes_on (Some line) ≡ true → is_unreached code number ≡ false → is_unreached code (suc number) ≡ false
reached_after code number line at on reached =
    ap (λ b. is_unreached_after b code (suc number)) reached
    ∙ ap (λ b. not b && (not (is_named code (suc number)) && may_lack (fills_after code (suc number)) (slice_get code (suc number)))) (ap goes_on at ∙ on)

-- A line to which some line jumps is reachable.
named_reached : (code : List Line) (number : ℕ) → is_named code number ≡ true → is_unreached code number ≡ false
named_reached code zero named = refl
named_reached code (suc before) named =
    let following : Bool = is_unreached code before || not (goes_on (slice_get code before)) in
    ap (λ b. following && (not b && may_lack (fills_after code (suc before)) (slice_get code (suc before)))) named ∙ and_false following

-- A line that must not be omitted from the text is reachable.
kept_reached : (code : List Line) (number : ℕ) (line : Option Line) → slice_get code number ≡ line → may_lack (fills_after code number) line ≡ false → is_unreached code number ≡ false
kept_reached code zero line at kept = refl
kept_reached code (suc before) line at kept =
    let following : Bool = is_unreached code before || not (goes_on (slice_get code before)) in
    ap (λ b. following && (not (is_named code (suc before)) && b)) (ap (may_lack (fills_after code (suc before))) at ∙ kept)
    ∙ and_and_false following (not (is_named code (suc before)))

pub call_reached : (code : List Line) (number label : ℕ) → slice_get code number ≡ Some (lines.Call label) → is_unreached code number ≡ false
call_reached code number label at = kept_reached code number (Some (lines.Call label)) at refl

-- If a line is reachable and an instruction fills its delay slot, this instruction is reachable.
pub filling_reached : (code : List Line) (number : ℕ) (i : Instr) (f : IsFilled code number i) → is_unreached code number ≡ false → is_unreached code f.before ≡ false
filling_reached code number i f reached = by f.line f.at f.moves
  where
    unnamed : is_named code (suc f.before) ≡ false
    unnamed = ap (is_named code) (sym f.is) ∙ f.unnamed

    at_after : (line : Line) → slice_get code number ≡ Some line → slice_get code (suc f.before) ≡ Some line
    at_after line at = ap (slice_get code) (sym f.is) ∙ at

    -- If the instruction before a branch or jump, which fills its delay slot, is unreachable, so is the branch or jump.
    neither : (line : Line) → slice_get code number ≡ Some line → may_lack (fills_after code (suc f.before)) (Some line) ≡ true → is_unreached code f.before ≡ true → is_unreached code (suc f.before) ≡ true
    neither line at lacks unreached =
        ap (λ b. is_unreached_after b code (suc f.before)) unreached
        ∙ ap (λ b. not b && may_lack (fills_after code (suc f.before)) (slice_get code (suc f.before))) unnamed
        ∙ ap (may_lack (fills_after code (suc f.before))) (at_after line at) ∙ lacks

    unless : (line : Line) → slice_get code number ≡ Some line → may_lack (fills_after code (suc f.before)) (Some line) ≡ true → (b : Bool) → is_unreached code f.before ≡ b → is_unreached code f.before ≡ false
    unless line at lacks false is = is
    unless line at lacks true is = absurd (let e : false ≡ true = sym reached ∙ ap (is_unreached code) f.is ∙ neither line at lacks is in cc)

    by : (line : Line) → slice_get code number ≡ Some line → moves i line ≡ true → is_unreached code f.before ≡ false
    by (lines.Ordinary other) at may = absurd (let e : false ≡ true = may in cc)
    by (lines.Branch condition label) at may = unless (lines.Branch condition label) at refl (is_unreached code f.before) refl
    by (lines.Jump label) at may = unless (lines.Jump label) at refl (is_unreached code f.before) refl
    by (lines.Call label) at may =
        kept_reached code f.before (Some (lines.Ordinary i)) f.from
        (ap (λ b. not (not b && is_call (slice_get code (suc f.before)))) unnamed ∙ ap (λ o. not (is_call o)) (at_after (lines.Call label) at))
    by lines.Return at may = unless lines.Return at refl (is_unreached code f.before) refl

-- `IsMet` says that a line is reachable and that its delay slot is not filled.
pub record IsMet (code : List Line) (number : ℕ) : Type 0 where
  pub empty : filling code number ≡ None
  pub reached : is_unreached code number ≡ false

-- A line to which some line jumps is reachable, and its delay slot is not filled.
pub named_met : (code : List Line) (number label : ℕ) (line : Line) → slice_get code number ≡ Some line → label_of line ≡ Some label → IsMet code label
named_met code number label line at goes =
    record { empty = named_empty code number label line at goes; reached = named_reached code label (label_named code number label line at goes) }

-- The line after a reachable branch or call is reachable, and its delay slot is not filled.
pub after_met : (code : List Line) (number : ℕ) (line : Line) → slice_get code number ≡ Some line → is_jump line ≡ true → goes_on (Some line) ≡ true → is_unreached code number ≡ false → IsMet code (suc number)
after_met code number line at jumps on reached = record { empty = after_empty code number line at jumps; reached = reached_after code number line at on reached }

pub point_met : (code : Labelled) (line : ℕ) → IsReturnPoint code line → IsMet code.lines line
point_met code line point =
    subst (IsMet code.lines) (sym point.following)
    (after_met code.lines point.call (lines.Call point.label) point.calls refl refl (call_reached code.lines point.call point.label point.calls))
