-- The stack frames that `layout` returns are correct. If `layout` reports a function, it is the first one whose frame
-- has more than `MOST_FRAME_WORDS` words.
use Rattle.std.proofs.Common.{◌≡◌, ℕ, zero, suc, ◌+◌, ◌<◌, ◌≤◌, Bool, false, List, [], ◌∷◌, ◌++◌, length, map, Some, None, Result, Ok, Err, refl, sym, ap, subst, ◌∙◌, arith, inl, inr}
use Rattle.std.specs.Prelude.{if◌then◌else◌, slice_index_or, slice_set, true, ◌⊎◌, Option}
use Rattle.std.proofs.lemmas.Bool.{cases_eq, cases_lt, lt-ltb}
use Rattle.std.proofs.lemmas.List.{length-append, length-set, get_or-set_same, get_or-set_other}
use Rattle.cyc_frame.specs.inside.Frame.{Frame}
use Rattle.cyc_words.specs.declared.fault.Fault.{Fault}
use Rattle.cyc_words.specs.declared.fault.Code.TheVariants as faults
use Rattle.cyc_words.specs.declared.span.Span.{Span}
use Rattle.cyc_plain.specs.declared.program.Function.{Function}
use Rattle.cyc_plain.specs.declared.limits.TheConstants.{MOST_FRAME_WORDS}
use Rattle.cyc_plain.specs.inside.Program.{Routine, Program, no_routine, routine_of, routine_at}
use Rattle.cyc_plain.specs.inside.WellFormed.{IsWellFormed}
use Rattle.cyc_words.specs.Decision.{Decides}
use Rattle.cyc_words.specs.Fault.{memory_fault}
use Rattle.cyc_words.proofs.Decisions.{IsDecided, decides}
use Rattle.cyc_registers.specs.declared.home.Home.{Home}
use Rattle.cyc_registers.specs.declared.home.TheConstants.{MOST_SAVED}
use Rattle.cyc_registers.specs.inside.Interference.{AreHomes}
use Rattle.cyc_registers.specs.inside.Idle.{AreIdle}
use Rattle.cyc_registers.specs.inside.Fills.{AreFillable}
use Rattle.cyc_frame.specs.inside.Layout.{AllReturn, AreFirstFrames, AreFrames, AreRaised, HasSmallFrames, IsAccepted, IsFrame, IsTooLarge, first_too_large, frame_at, is_too_large, opens_any, returns_any}

-- ---- the first frame that is too large

abbrev count_at : List Routine → ℕ → ℕ
count_at routines k = (slice_index_or routines k no_routine).frame_count

-- `IsFirst` says that the function at this index is the first whose stack frame has more than `MOST_FRAME_WORDS` words.
abbrev IsFirst : List Routine → ℕ → Type 0
IsFirst routines k =
    (k < length routines) × (MOST_FRAME_WORDS < count_at routines k) × ((j : ℕ) → j < k → count_at routines j ≤ MOST_FRAME_WORDS)

-- `Found` describes the result of the search for the first function whose stack frame has more than `MOST_FRAME_WORDS` words.
abbrev Found : List Routine → Option Span → Type 0
Found routines None = (k : ℕ) → k < length routines → count_at routines k ≤ MOST_FRAME_WORDS
Found routines (Some place) = (k : ℕ) × IsFirst routines k × ((slice_index_or routines k no_routine).name ≡ place)

found_after_small : (r : Routine) (routines : List Routine) → r.frame_count ≤ MOST_FRAME_WORDS → (o : Option Span) → Found routines o → Found (r ∷ routines) o
found_after_small r routines small None all = go
  where
    go : (k : ℕ) → k < length (r ∷ routines) → count_at (r ∷ routines) k ≤ MOST_FRAME_WORDS
    go zero below = small
    go (suc k) below = all k (omega arith)
found_after_small r routines small (Some place) (k, (below, large, first), name) = (suc k, ((omega arith), large, go), name)
  where
    go : (j : ℕ) → j < suc k → count_at (r ∷ routines) j ≤ MOST_FRAME_WORDS
    go zero before = small
    go (suc j) before = first j (omega arith)

found : (routines : List Routine) → Found routines (first_too_large routines)
found [] = λ k below. absurd (omega arith)
found (r ∷ routines) = elim (cases_lt MOST_FRAME_WORDS r.frame_count) [
  | inl large ↦
      let here : first_too_large (r ∷ routines) ≡ Some r.name =
      ap (λ (b : Bool). if b then Some r.name else first_too_large routines) (lt-ltb MOST_FRAME_WORDS r.frame_count large) in
      subst (Found (r ∷ routines)) (sym here) (0, ((omega arith), large, (λ j before. absurd (omega arith))), refl)
  | inr small ↦
      let following : first_too_large (r ∷ routines) ≡ first_too_large routines = ap (λ (b : Bool). if b then Some r.name else first_too_large routines) (not_large small) in
      subst (Found (r ∷ routines)) (sym following) (found_after_small r routines small (first_too_large routines) (found routines))
]
  where
    not_large : r.frame_count ≤ MOST_FRAME_WORDS → is_too_large r ≡ false
    not_large small = grind arith

pub none_large : (program : Program) → first_too_large program.functions ≡ None → HasSmallFrames program
none_large program none = subst (Found program.functions) none (found program.functions)

pub some_large : (program : Program) (place : Span) (fault : Fault) → first_too_large program.functions ≡ Some place
    → fault.code ≡ faults.FrameTooLarge → fault.line ≡ place.line → fault.column ≡ place.column → IsTooLarge program fault
some_large program place fault some code line column =
    let (k, (below, large, first), name) = subst (Found program.functions) some (found program.functions) in
    record {
      function = k;
      is_function = below;
      large = large;
      first = first;
      code = code;
      line = line ∙ sym (ap (λ (s : Span). s.line) name);
      column = column ∙ sym (ap (λ (s : Span). s.column) name);
    }

-- A program in which each stack frame is within the limit `MOST_FRAME_WORDS` has no fault `IsTooLarge`, which reports a function with a
-- larger frame.
pub not_small_and_large : (program : Program) (fault : Fault) → HasSmallFrames program → IsTooLarge program fault → ⊥
not_small_and_large program fault small large = omega (arith, small large.function large.is_function, large.large)

same_fault : (f g : Fault) → f.code ≡ g.code → f.line ≡ g.line → f.column ≡ g.column → f ≡ g
same_fault f g code line column = λ i. record { code = code i; line = line i; column = column i }

-- If two faults both report the first function of a program whose stack frame is too large, then the faults are equal.
pub one_first : (program : Program) (f g : Fault) → IsTooLarge program f → IsTooLarge program g → f ≡ g
one_first program f g a b = elim (cases_lt a.function b.function) [
  | inl before ↦ absurd (omega (arith, b.first a.function before, a.large))
  | inr not_before ↦ elim (cases_lt b.function a.function) [
    | inl before ↦ absurd (omega (arith, a.first b.function before, b.large))
    | inr not_after ↦
        let same : a.function ≡ b.function = omega (arith, not_before, not_after) in
        let code : f.code ≡ g.code = a.code ∙ sym b.code in
        let line : f.line ≡ g.line = a.line ∙ ap (λ (k : ℕ). (routine_at program k).name.line) same ∙ sym b.line in
        let column : f.column ≡ g.column = a.column ∙ ap (λ (k : ℕ). (routine_at program k).name.column) same ∙ sym b.column in
        same_fault f g code line column
  ]
]

-- ---- the frames

frame_before : (frames : List Frame) (frame : Frame) (k : ℕ) → k < length frames → frame_at (frames ++ frame ∷ []) k ≡ frame_at frames k
frame_before [] frame k below = absurd (omega arith)
frame_before (f ∷ frames) frame zero below = refl
frame_before (f ∷ frames) frame (suc k) below = frame_before frames frame k (omega arith)

frame_last : (frames : List Frame) (frame : Frame) → frame_at (frames ++ frame ∷ []) (length frames) ≡ frame
frame_last [] frame = refl
frame_last (f ∷ frames) frame = frame_last frames frame

-- If a function has a frame in the list of frames, the look-up of this frame gives the same result with any default frame.
pub frame_there : (frames : List Frame) (k : ℕ) (other : Frame) → k < length frames → slice_index_or frames k other ≡ frame_at frames k
frame_there [] k other below = absurd (omega arith)
frame_there (f ∷ frames) zero other below = refl
frame_there (f ∷ frames) (suc k) other below = frame_there frames k other (omega arith)

-- Adding the correct frame of the next function to a list of correct frames keeps the loop invariant that all frames so far are correct.
pub more_frames : (program : Program) (count before most : ℕ) (frames : List Frame) (frame : Frame) (r : Routine) → AreFirstFrames program count before frames → before ≤ most → frame.saved ≤ most
    → r ≡ routine_at program count → IsFrame r frame → AreHomes program r frame.saved frame.homes → AreIdle program r frame.homes frame.idle → AreFillable program r frame.homes frame.fills → AreFirstFrames program (count + 1) most (frames ++ frame ∷ [])
more_frames program count before most frames frame r are rises saved is framed homes idle fills = record {
  as_many = omega (arith, length-append frames (frame ∷ []), are.as_many);
  each = λ k below. of (λ (k : ℕ) (f : Frame). IsFrame (routine_at program k) f) are.each (subst (λ (r : Routine). IsFrame r frame) is framed) k below;
  homes = λ k below. of (λ (k : ℕ) (f : Frame). AreHomes program (routine_at program k) f.saved f.homes) are.homes (subst (λ (r : Routine). AreHomes program r frame.saved frame.homes) is homes) k below;
  within = λ k below. of (λ (k : ℕ) (f : Frame). f.saved ≤ most) (λ j first. (let few = are.within j first in omega (arith, few, rises))) saved k below;
  idle = λ k below. of (λ (k : ℕ) (f : Frame). AreIdle program (routine_at program k) f.homes f.idle) are.idle (subst (λ (r : Routine). AreIdle program r frame.homes frame.idle) is idle) k below;
  fills = λ k below. of (λ (k : ℕ) (f : Frame). AreFillable program (routine_at program k) f.homes f.fills) are.fills (subst (λ (r : Routine). AreFillable program r frame.homes frame.fills) is fills) k below;
}
  where
    of : (P : ℕ → Frame → Type 0) → ((k : ℕ) → k < count → P k (frame_at frames k)) → P count frame
        → (k : ℕ) → k < count + 1 → P k (frame_at (frames ++ frame ∷ []) k)
    of P before last k below = elim (cases_lt k count) [
      | inl first ↦ subst (P k) (sym (frame_before frames frame k (omega (arith, first, are.as_many)))) (before k first)
      | inr not_first ↦
          let same : k ≡ length frames = omega (arith, below, not_first, are.as_many) in
          subst (λ (j : ℕ). P j (frame_at (frames ++ frame ∷ []) j)) (sym same)
          (subst (P (length frames)) (sym (frame_last frames frame)) (subst (λ (j : ℕ). P j frame) (sym are.as_many) last))
    ]

-- ---- frames that save more registers

-- The default frame, for functions without a frame in the list.
abbrev no_frame : Frame
no_frame = record { return_address = 0; saves = false; first_saved = 0; saved = 0; first_slot = 0; parameters = 0; homes = []; idle = []; fills = [] }

-- The homes (registers or memory) of slots stay correct if the frame saves more registers.
module _ (program : Program) (most : ℕ) (few : most ≤ MOST_SAVED) where
  more_homes : (r : Routine) (saved : ℕ) (homes : List Home) → saved ≤ most → AreHomes program r saved homes → AreHomes program r most homes
  more_homes r saved homes fewer are = record {
    as_many = are.as_many;
    low = are.low;
    high = are.high;
    saved_registers = λ slot k has from. (let below = are.saved_registers slot k has from in omega (arith, below, fewer));
    arrivals = (let few_arrive = are.arrivals in omega (arith, few_arrive, fewer));
    arriving = are.arriving;
    few = are.few;
    apart = are.apart;
    made = are.made;
    moved = are.moved;
    alone = are.alone;
    entry = are.entry;
    parameters = are.parameters;
    following = are.following;
    clause = are.clause;
    barred = are.barred;
  }

  more_saved : (r : Routine) (frame : Frame) → (0 < most → returns_any r.code ≡ true) → IsFrame r frame → IsFrame r (record frame { saved = most })
  more_saved r frame returns is = record {
    apart = is.apart;
    inside = is.inside;
    first_inside = is.first_inside;
    beside = is.beside;
    return_inside = is.return_inside;
    small = is.small;
    saved = is.saved;
    saved_inside = is.saved_inside;
    saved_beside = is.saved_beside;
    saved_apart = is.saved_apart;
    most_saved = few;
    parameters = is.parameters;
    returning = returns;
  }

  -- `raising` are the frames after the frame of function `n` is changed to save `most` registers.
  module _ (all : 0 < most → AllReturn program) (frames : List Frame) (are : AreFirstFrames program (length program.functions) most frames) where
    abbrev raising : (n : ℕ) → List Frame
    raising n = slice_set frames n (record (frame_at frames n) { saved = most })

    at_raised : (n k : ℕ) → n < length frames → k ≡ n → frame_at (raising n) k ≡ record (frame_at frames n) { saved = most }
    at_raised n k below same = ap (frame_at (raising n)) same ∙ get_or-set_same frames n (record (frame_at frames n) { saved = most }) no_frame below

    -- A property of all frames still holds after one frame is changed to save more registers, if it holds for the changed frame.
    still : (P : ℕ → Frame → Type 0) (n : ℕ) → n < length program.functions → ((k : ℕ) → k < length program.functions → P k (frame_at frames k)) → P n (record (frame_at frames n) { saved = most })
        → (k : ℕ) → k < length program.functions → P k (frame_at (raising n) k)
    still P n known each one k below = elim (cases_eq k n) [
      | inl same ↦
          subst (P k) (sym (at_raised n k (omega (arith, known, are.as_many)) same))
          (subst (λ (j : ℕ). P j (record (frame_at frames n) { saved = most })) (sym same) one)
      | inr other ↦ subst (P k) (sym (get_or-set_other frames n k (record (frame_at frames n) { saved = most }) no_frame other)) (each k below)
    ]

    pub raised_first : (n : ℕ) → n < length program.functions → AreFirstFrames program (length program.functions) most (raising n)
    raised_first n known = record {
      as_many = length-set frames n (record (frame_at frames n) { saved = most }) ∙ are.as_many;
      each = still (λ (k : ℕ) (f : Frame). IsFrame (routine_at program k) f) n known are.each (more_saved (routine_at program n) (frame_at frames n) (λ some. all some n known) (are.each n known));
      homes = still (λ (k : ℕ) (f : Frame). AreHomes program (routine_at program k) f.saved f.homes) n known are.homes (more_homes (routine_at program n) (frame_at frames n).saved (frame_at frames n).homes (are.within n known) (are.homes n known));
      within = still (λ (k : ℕ) (f : Frame). f.saved ≤ most) n known are.within (omega arith);
      idle = still (λ (k : ℕ) (f : Frame). AreIdle program (routine_at program k) f.homes f.idle) n known are.idle (are.idle n known);
      fills = still (λ (k : ℕ) (f : Frame). AreFillable program (routine_at program k) f.homes f.fills) n known are.fills (are.fills n known);
    }

    pub raised_more : (n : ℕ) → n < length program.functions → AreRaised program n most frames → AreRaised program (n + 1) most (raising n)
    raised_more n known so_far k below opens = elim (cases_eq k n) [
      | inl same ↦ omega (arith, ap (λ (f : Frame). f.saved) (at_raised n k (omega (arith, known, are.as_many)) same))
      | inr other ↦
          let before : most ≤ (frame_at frames k).saved = so_far k (omega (arith, below, other)) opens in
          omega (arith, before, ap (λ (f : Frame). f.saved) (get_or-set_other frames n k (record (frame_at frames n) { saved = most }) no_frame other))
    ]

    -- A function that opens no exception handler keeps the invariant that each visited function with a
    -- handler saves at least `most` registers.
    pub raised_past : (n : ℕ) → opens_any (routine_at program n).code ≡ false → AreRaised program n most frames → AreRaised program (n + 1) most frames
    raised_past n none so_far k below opens = elim (cases_eq k n) [
      | inl same ↦ absurd (let e : false ≡ true = sym none ∙ (sym (ap (λ (j : ℕ). opens_any (routine_at program j).code) same) ∙ opens) in cc)
      | inr other ↦ so_far k (omega (arith, below, other)) opens
    ]

    pub all_raised : AreRaised program (length program.functions) most frames → AreFrames program frames
    all_raised so_far = record {
      as_many = are.as_many;
      each = are.each;
      homes = are.homes;
      opening = λ k g known its_known opens. (let most_of = so_far k known opens in let within = are.within g its_known in omega (arith, most_of, within));
      idle = are.idle;
      fills = are.fills;
    }

-- ---- the answer is determined

layout_is_decided : (program : Program) → IsDecided (IsAccepted program) (IsTooLarge program) (IsTooLarge program)
layout_is_decided program =
    record {
      one = λ a b first second. first.0 ∙ sym second.0;
      same = one_first program;
      never_refused = λ a fault accepted large. not_small_and_large program fault (subst HasSmallFrames accepted.0 accepted.1) large;
      never_faulty = λ a fault accepted large. not_small_and_large program fault (subst HasSmallFrames accepted.0 accepted.1) large;
    }

abbrev Answers : Program → Result (List Frame) Fault → Type 0
Answers program result = Decides (IsAccepted program) AreFrames (IsTooLarge program) (IsTooLarge program) result

answers_refused : (program : Program) (fault : Fault) → (fault ≡ memory_fault) ⊎ IsTooLarge program fault → Answers program (Err fault)
answers_refused program fault why =
    decides (IsAccepted program) AreFrames (IsTooLarge program) (IsTooLarge program) (layout_is_decided program) (Err fault) tt why

module _ (program : Program) (functions : List Function) (are : map routine_of functions ≡ program.functions) where
  pub too_large : (place : Span) (fault : Fault) → first_too_large (map routine_of functions) ≡ Some place
      → fault.code ≡ faults.FrameTooLarge → fault.line ≡ place.line → fault.column ≡ place.column → Answers program (Err fault)
  too_large place fault some code line column =
      answers_refused program fault (inr (some_large program place fault (ap first_too_large (sym are) ∙ some) code line column))

  pub small_frames : first_too_large (map routine_of functions) ≡ None → HasSmallFrames program
  small_frames none = none_large program (ap first_too_large (sym are) ∙ none)

  pub framed : (frames : List Frame) → AreFrames program frames
      → first_too_large (map routine_of functions) ≡ None → Answers program (Ok frames)
  framed frames made none =
      decides (IsAccepted program) AreFrames (IsTooLarge program) (IsTooLarge program) (layout_is_decided program) (Ok frames)
      (program, (refl, small_frames none), made) tt
