-- The order of code lines that the assembler chooses contains each line once. The machine that executes labelled code directly behaves
-- with the new order as with the original order.
use Rattle.std.proofs.Common.{◌≡◌, ℕ, zero, suc, ◌+◌, ◌-◌, ◌<◌, List, [], length, nat_le, Bool, true, false, cond, not, Option, None, Some, refl, sym, ap, subst, ◌∙◌, arith, inl, inr}
use Rattle.std.specs.Prelude.{◌&&◌, All, slice_get, flat_map}
use Rattle.std.specs.List.{swap, range_with_len}
use Rattle.std.specs.List.Sorted.{IsPermutation}
use Rattle.std.specs.Option.{is_some}
use Rattle.std.proofs.lemmas.Bool.{cases_lt, not-true}
use Rattle.std.proofs.lemmas.List.Edits.{length-swap, swapped_from_swap}
use Rattle.std.proofs.lemmas.List.Sorted.{IsPermutation-refl, IsPermutation-trans, IsPermutation-swap, length_permutation, All-permutation, sum_by-IsPermutation, list_any-IsPermutation}
use Rattle.std.proofs.lemmas.Option.{slice_get_within, slice_get_past, slice_get-get_or, get_or_from_slice_get}
use Rattle.cyc_words.proofs.Booleans.{and_right, and_left}
use Rattle.cyc_isa.specs.declared.instr.Instr.{Instr}
use Rattle.cyc_select.specs.declared.code.Line.{Line}
use Rattle.cyc_select.specs.declared.code.Line.TheVariants as lines
use Rattle.cyc_select.specs.inside.Labelled.{Labelled, Fits, IsFormed, IsFormedLine, IsReturnPoint, AreAddresses, words_of, all_words}
use Rattle.cyc_asm.specs.inside.Slots.{is_movable, moves, label_of, is_label, is_named, moved, filling, AreNamed}
use Rattle.cyc_asm.specs.inside.Order.{passes, passes_line, passes_at, passes_all, comes_down, sunk, sunk_from, tried, settled, arranged_before, arranged, in_order}
use Rattle.cyc_asm.specs.inside.Layout.{addresses_of}
use Rattle.cyc_machine_model.specs.State.{text_base}
use Rattle.cyc_asm.specs.inside.Text.{stretch, own, IsTextInOrder, IsTextOf}
use Rattle.cyc_asm.specs.inside.Words.{assembled}
use Rattle.cyc_asm.specs.inside.Machine.{Runs}
use Rattle.cyc_asm.proofs.Fillings.{filled_moves}
use Rattle.cyc_asm.proofs.Lengths.{length-arranged}
use Rattle.cyc_asm.proofs.Exchanging.{IsExchange, point_before, point_after, exchange_runs}
use Rattle.cyc_asm.proofs.Standing.{in_order_means}
use Rattle.cyc_asm.proofs.Running.{runs_in_order}

-- ---- two lines exchanged

swap_places : (code : List Line) (number : ℕ) (first second : Instr) → is_movable first ≡ true → passes first second ≡ true → is_named code (suc number) ≡ false
    → slice_get code number ≡ Some (lines.Ordinary first) → slice_get code (suc number) ≡ Some (lines.Ordinary second) → IsExchange code (swap code number (suc number)) number first second
swap_places code number first second movable passing unnamed here following =
    let low = slice_get_within code number (lines.Ordinary first) here in
    let inside = slice_get_within code (suc number) (lines.Ordinary second) following in
    let long = length-swap code number (suc number) in
    let (at_first, at_second, elsewhere) = swapped_from_swap code (swap code number (suc number)) number (suc number) lines.Return low inside refl in
    record {
      movable = movable;
      passing = passing;
      unnamed = unnamed;
      here = here;
      following = following;
      new_here = slice_get-get_or (swap code number (suc number)) number lines.Return (omega (arith, long, low))
          ∙ ap (λ (line : Line). Some line) (at_first ∙ get_or_from_slice_get code (suc number) (lines.Ordinary second) lines.Return following);
      new_after = slice_get-get_or (swap code number (suc number)) (suc number) lines.Return (omega (arith, long, inside))
          ∙ ap (λ (line : Line). Some line) (at_second ∙ get_or_from_slice_get code number (lines.Ordinary first) lines.Return here);
      others = λ n first_not second_not. elim (cases_lt n (length code)) [
        | inl within ↦
            slice_get-get_or (swap code number (suc number)) n lines.Return (omega (arith, long, within))
            ∙ ap (λ (line : Line). Some line) (elsewhere n first_not second_not) ∙ sym (slice_get-get_or code n lines.Return within)
        | inr past ↦ slice_get_past (swap code number (suc number)) n (omega (arith, long, past)) ∙ sym (slice_get_past code n (omega (arith, past)))
      ];
      long = long;
    }

-- ---- properties that a reordering keeps

-- `Keeps` says that the new order is a permutation of the original lines and that returns after calls go to the same lines.
-- Each run of the reordered code follows a run of the original code.
pub record Keeps (globals : List ℕ) (code order : List Line) : Type 0 where
  pub permutes : IsPermutation code order
  pub points : (line : ℕ) → IsReturnPoint (record { lines = order; globals = globals }) line → IsReturnPoint (record { lines = code; globals = globals }) line
  pub new_points : (line : ℕ) → IsReturnPoint (record { lines = code; globals = globals }) line → IsReturnPoint (record { lines = order; globals = globals }) line
  pub runs : (addresses : ℕ → ℕ) (words : List ℕ) → Runs (record { lines = order; globals = globals }) addresses words → Runs (record { lines = code; globals = globals }) addresses words

keeps_same : (globals : List ℕ) (code : List Line) → Keeps globals code code
keeps_same globals code =
    record { permutes = IsPermutation-refl code; points = λ line point. point; new_points = λ line point. point; runs = λ addresses words runs. runs }

keeps_more : (globals : List ℕ) (code middle order : List Line) → Keeps globals code middle → Keeps globals middle order → Keeps globals code order
keeps_more globals code middle order first second = record {
  permutes = IsPermutation-trans code middle order first.permutes second.permutes;
  points = λ line point. first.points line (second.points line point);
  new_points = λ line point. second.new_points line (first.new_points line point);
  runs = λ addresses words runs. first.runs addresses words (second.runs addresses words runs);
}

keeps_swapped : (globals : List ℕ) (code : List Line) (number : ℕ) (first second : Instr) → IsExchange code (swap code number (suc number)) number first second → Keeps globals code (swap code number (suc number))
keeps_swapped globals code number first second x = record {
  permutes = IsPermutation-swap code (swap code number (suc number)) number (suc number)
      (slice_get_within code number (lines.Ordinary first) x.here) (slice_get_within code (suc number) (lines.Ordinary second) x.following) refl;
  points = point_before (record { lines = code; globals = globals }) (swap code number (suc number)) number first second x;
  new_points = point_after (record { lines = code; globals = globals }) (swap code number (suc number)) number first second x;
  runs = λ addresses words runs. exchange_runs (record { lines = code; globals = globals }) (swap code number (suc number)) number first second x addresses words runs;
}

same_named : (code order : List Line) (number : ℕ) → IsPermutation code order → is_named order number ≡ is_named code number
same_named code order number permutes = sym (list_any-IsPermutation (λ (line : Line). is_label number (label_of line)) code order permutes)

-- ---- an instruction moved down

-- If a line may be moved past the next one, both lines are instructions.
passing_lines : (line following : Option Line) → passes_line line following ≡ true
    → (first second : Instr) × (line ≡ Some (lines.Ordinary first)) × (following ≡ Some (lines.Ordinary second)) × (passes first second ≡ true)
passing_lines (Some (lines.Ordinary first)) (Some (lines.Ordinary second)) may = (first, second, refl, refl, may)
passing_lines (Some (lines.Ordinary first)) (Some (lines.Branch condition label)) may = absurd (let e : false ≡ true = may in cc)
passing_lines (Some (lines.Ordinary first)) (Some (lines.Jump label)) may = absurd (let e : false ≡ true = may in cc)
passing_lines (Some (lines.Ordinary first)) (Some (lines.Call label)) may = absurd (let e : false ≡ true = may in cc)
passing_lines (Some (lines.Ordinary first)) (Some lines.Return) may = absurd (let e : false ≡ true = may in cc)
passing_lines (Some (lines.Ordinary first)) None may = absurd (let e : false ≡ true = may in cc)
passing_lines (Some (lines.Branch condition label)) following may = absurd (let e : false ≡ true = may in cc)
passing_lines (Some (lines.Jump label)) following may = absurd (let e : false ≡ true = may in cc)
passing_lines (Some (lines.Call label)) following may = absurd (let e : false ≡ true = may in cc)
passing_lines (Some lines.Return) following may = absurd (let e : false ≡ true = may in cc)
passing_lines None following may = absurd (let e : false ≡ true = may in cc)

-- A line that fills a delay slot is an instruction that may be moved.
moving_line : (line following : Option Line) → is_some (moved line following) ≡ true → (i : Instr) × (line ≡ Some (lines.Ordinary i)) × (is_movable i ≡ true)
moving_line (Some (lines.Ordinary i)) (Some other) some = (i, refl, (filled_moves i other (it_moves (moves i other) some)).0)
  where
    it_moves : (b : Bool) → is_some (cond b (Some i) None) ≡ true → b ≡ true
    it_moves true is = refl
    it_moves false is = absurd (let e : false ≡ true = is in cc)
moving_line (Some (lines.Ordinary i)) None some = absurd (let e : false ≡ true = some in cc)
moving_line (Some (lines.Branch condition label)) following some = absurd (let e : false ≡ true = some in cc)
moving_line (Some (lines.Jump label)) following some = absurd (let e : false ≡ true = some in cc)
moving_line (Some (lines.Call label)) following some = absurd (let e : false ≡ true = some in cc)
moving_line (Some lines.Return) following some = absurd (let e : false ≡ true = some in cc)
moving_line None following some = absurd (let e : false ≡ true = some in cc)

same_instruction : (i j : Instr) → Some (lines.Ordinary i) ≡ Some (lines.Ordinary j) → i ≡ j
same_instruction i j is = cc

module _ (globals : List ℕ) (code : List Line) (from : ℕ) (i : Instr) (found : slice_get code from ≡ Some (lines.Ordinary i)) (movable : is_movable i ≡ true) where
  -- `IsSunk` says that an instruction has been moved past `count` lines.
  record IsSunk (count : ℕ) : Type 0 where
    pub keeps : Keeps globals code (sunk code from count)
    pub here : slice_get (sunk code from count) (from + count) ≡ Some (lines.Ordinary i)
    pub following : (n : ℕ) → from + count < n → slice_get (sunk code from count) n ≡ slice_get code n

  one_more : (count : ℕ) → IsSunk count → is_named code (from + suc count) ≡ false → passes_line (slice_get code from) (slice_get code (from + suc count)) ≡ true → IsSunk (suc count)
  one_more count so_far unnamed may =
      let before : List Line = sunk code from count in
      let (first, second, is_first, is_second, passing) = passing_lines (slice_get code from) (slice_get code (from + suc count)) may in
      let next : suc (from + count) ≡ from + suc count = omega arith in
      let same = same_instruction first i (sym is_first ∙ found) in
      let x = swap_places before (from + count) i second movable (subst (λ (j : Instr). passes j second ≡ true) same passing)
      (same_named code before (suc (from + count)) so_far.keeps.permutes ∙ ap (is_named code) next ∙ unnamed)
      so_far.here (so_far.following (suc (from + count)) (omega arith) ∙ ap (slice_get code) next ∙ is_second) in
      let swapped : swap before (from + count) (suc (from + count)) ≡ sunk code from (suc count) = ap (swap before (from + count)) next in
      record {
        keeps = subst (Keeps globals code) swapped (keeps_more globals code before _ so_far.keeps (keeps_swapped globals before (from + count) i second x));
        here = ap (slice_get (sunk code from (suc count))) (sym next) ∙ ap (λ (order : List Line). slice_get order (suc (from + count))) (sym swapped) ∙ x.new_after;
        following = λ n past. ap (λ (order : List Line). slice_get order n) (sym swapped) ∙ x.others n (λ same. omega (arith, past, same)) (λ same. omega (arith, past, same))
            ∙ so_far.following n (omega (arith, past));
      }

  sinks : (count : ℕ) → passes_all code from count ≡ true → IsSunk count
  sinks zero may = record {
    keeps = keeps_same globals code;
    here = ap (slice_get code) (let e : from + zero ≡ from = omega arith in e) ∙ found;
    following = λ n past. refl;
  }
  sinks (suc count) may =
      let last = passes_at code from (from + suc count) in
      let both = and_right (passes_all code from count) last may in
      one_more count (sinks count (and_left (passes_all code from count) last may))
      (not-true (is_named code (from + suc count)) (and_left (not (is_named code (from + suc count))) (passes_line (slice_get code from) (slice_get code (from + suc count))) both))
      (and_right (not (is_named code (from + suc count))) (passes_line (slice_get code from) (slice_get code (from + suc count))) both)

-- ---- the order of all lines

module _ (globals : List ℕ) where
  keeps_sunk : (code : List Line) (from count : ℕ) → Keeps globals code (sunk_from code from count)
  keeps_sunk code from count = by (comes_down code from count) refl
    where
      by : (b : Bool) → comes_down code from count ≡ b → Keeps globals code (cond b (sunk code from count) code)
      by false none = keeps_same globals code
      by true may =
          let last = not (is_named code (from + suc count)) && is_some (moved (slice_get code from) (slice_get code (from + suc count))) in
          let moving = and_right (not (is_named code (from + suc count))) (is_some (moved (slice_get code from) (slice_get code (from + suc count)))) (and_right (passes_all code from count) last may) in
          let (i, found, movable) = moving_line (slice_get code from) (slice_get code (from + suc count)) moving in
          (sinks globals code from i found movable count (and_left (passes_all code from count) last may)).keeps

  pub keeps_tried : (code : List Line) (number count : ℕ) → Keeps globals code (tried code number count)
  keeps_tried code number count = by (nat_le number count) (is_some (filling code number))
    where
      by : (few filled : Bool) → Keeps globals code (cond few code (cond filled code (sunk_from code (number - suc count) count)))
      by true filled = keeps_same globals code
      by false true = keeps_same globals code
      by false false = keeps_sunk code (number - suc count) count

  keeps_settled : (code : List Line) (number : ℕ) → Keeps globals code (settled code number)
  keeps_settled code number =
      keeps_more globals code (tried code number 1) (settled code number) (keeps_tried code number 1) (keeps_tried (tried code number 1) number 2)

  keeps_before : (code : List Line) (count : ℕ) → Keeps globals code (arranged_before code count)
  keeps_before code zero = keeps_same globals code
  keeps_before code (suc number) =
      keeps_more globals code (arranged_before code number) (arranged_before code (suc number)) (keeps_before code number) (keeps_settled (arranged_before code number) number)

-- The reordered lines are a permutation of the original ones.
pub permutes_tried : (code : List Line) (number count : ℕ) → IsPermutation code (tried code number count)
permutes_tried code number count = (keeps_tried [] code number count).permutes

pub permutes_before : (code : List Line) (count : ℕ) → IsPermutation code (arranged_before code count)
permutes_before code count = (keeps_before [] code count).permutes

pub permutes : (code : List Line) → IsPermutation code (arranged code)
permutes code = permutes_before code (length code)

-- A reordering of lines leaves the set of labels to which lines jump unchanged.
pub still_named : (code order : List Line) (named : List Bool) → IsPermutation code order → AreNamed code (length code) named → AreNamed order (length order) named
still_named code order named permutes are = record {
  long = are.long ∙ sym (length_permutation code order permutes);
  each = λ number inside. are.each number (let long = length_permutation code order permutes in omega (arith, inside, long)) ∙ sym (same_named code order number permutes);
}

pub still_formed : (code : List Line) → All (IsFormedLine (length code)) code → All (IsFormedLine (length (arranged code))) (arranged code)
still_formed code formed =
    subst (λ (count : ℕ). All (IsFormedLine count) (arranged code)) (sym (length-arranged code))
    (All-permutation (IsFormedLine (length code)) code (arranged code) (permutes code) formed)

same_words : (code : List Line) → all_words (arranged code) ≡ all_words code
same_words code = sum_by-IsPermutation words_of code (arranged code) (permutes code)

pub still_fits : (code : List Line) → Fits code → Fits (arranged code)
still_fits code fits = let same = same_words code in omega (arith, same, fits)

-- ---- the text of reordered code

abbrev Points : (code other : Labelled) → Type 0
Points code other = (line : ℕ) → IsReturnPoint other line → IsReturnPoint code line

same_addresses : (code other : Labelled) (addresses : ℕ → ℕ) → length other.lines ≡ length code.lines → Points code other → AreAddresses code addresses → AreAddresses other addresses
same_addresses code other addresses long points places = record {
  apart = λ a b point_a point_b. places.apart a b (points a point_a) (points b point_b);
  aligned = λ line inside. places.aligned line (omega (arith, inside, long));
  from = λ line inside. places.from line (omega (arith, inside, long));
  below = λ line inside. places.below line (omega (arith, inside, long));
}

-- Words that represent the labelled code `code` also represent the labelled code `other` under three conditions. The codes `code` and
-- `other` have equally many lines and the same maximal number of words. Each line to which calls return in `other` is a line to which
-- calls return in `code`.
text_as : (code other order : Labelled) (addresses : ℕ → ℕ) (words : List ℕ) → length other.lines ≡ length code.lines → Points code other → all_words other.lines ≡ all_words code.lines
    → IsTextInOrder code order addresses words → IsTextInOrder other order addresses words
text_as code other order addresses words long points most text = record {
  places = same_addresses code other addresses long points text.places;
  first = text.first;
  stands = text.stands;
  all = subst (λ (count : ℕ). flat_map (own addresses) (range_with_len 0 count) ≡ stretch text_base (length words)) (sym long) text.all;
  few = let few = text.few in omega (arith, few, most);
  inside = text.inside;
}

pub in_its_order : (code : Labelled) (addresses : ℕ → ℕ) (words : List ℕ) → IsTextOf code addresses words → IsTextInOrder (in_order code) (in_order code) addresses words
in_its_order code addresses words text = text_as code (in_order code) (in_order code) addresses words (length-arranged code.lines)
    (keeps_before code.globals code.lines (length code.lines)).points (same_words code.lines) text

pub assembled_means : (code : Labelled) → IsFormed code → Fits code.lines → IsTextOf code (addresses_of code) (assembled code)
assembled_means code formed fits =
    text_as (in_order code) code (in_order code) (addresses_of code) (assembled code) (sym (length-arranged code.lines))
    (keeps_before code.globals code.lines (length code.lines)).new_points (sym (same_words code.lines))
    (in_order_means (in_order code) (still_formed code.lines formed) (still_fits code.lines fits))

-- Words that represent labelled code have the behavior that the labelled code has on its own abstract machine.
pub runs : (code : Labelled) (addresses : ℕ → ℕ) (words : List ℕ) → IsTextOf code addresses words → Runs code addresses words
runs code addresses words text =
    (keeps_before code.globals code.lines (length code.lines)).runs addresses words (runs_in_order (in_order code) addresses words (in_its_order code addresses words text))
