-- Lemmas about code that does not run off its end: control never falls through the last instruction.
use Rattle.std.proofs.Common.{◌≡◌, ℕ, zero, suc, ◌+◌, ◌-◌, ◌<◌, ◌≤◌, Bool, true, false, List, [], ◌∷◌, ◌++◌, length, Option, Some, None, slice_get, refl, sym, ap, subst, ◌∙◌, arith, length-append}
use Rattle.std.specs.Prelude.{IsSomeAnd, ◌==◌, nat_le, if◌then◌else◌}
use Rattle.std.proofs.lemmas.Bool.{eqb-true, leb-true}
use Rattle.std.proofs.lemmas.List.{append-nil}
use Rattle.cyc_words.proofs.Lists.{slice_get_below}
use Rattle.cyc_words.proofs.Items.{slice_get_back}
use Rattle.cyc_plain.specs.declared.instruction.Instruction.{Instruction}
use Rattle.cyc_plain.specs.declared.instruction.Instruction.TheVariants as instructions
use Rattle.cyc_plain.specs.inside.Program.{Routine, Program}
use Rattle.cyc_plain.specs.inside.Straight.{At}
use Rattle.cyc_plain.specs.inside.WellFormed.{IsRoutine, leaves}
use Rattle.cyc_inline.specs.declared.site.Site.{Site}
use Rattle.cyc_inline.specs.inside.Opened.{moved, passing, is_end}
use Rattle.cyc_inline.specs.inside.Sites.{way_following, inside_part, inside_code}
use Rattle.cyc_inline.proofs.EmissionPieces.{pieces}
use Rattle.cyc_inline.proofs.EmissionSites.{piece_inside, piece_long}
use Rattle.cyc_inline.proofs.RangesCode.{rest_some}
use Rattle.cyc_inline.proofs.RangesMoved.{same_leaving}

-- ---- lists

abbrev pub EndsWell : List Instruction → Type 0
EndsWell code = (k : ℕ) (i : Instruction) → At code k i → k + 1 ≡ length code → leaves i ≡ true

ends_right : (front back : List Instruction) → 0 < length back → EndsWell back → EndsWell (front ++ back)
ends_right front back some ends k i at last =
    let long = length-append front back in
    let j = length back - 1 in
    let here : k ≡ length front + j = omega (arith, last, long, some) in
    let there : slice_get back j ≡ Some i = sym (slice_get_back front back j) ∙ sym (ap (slice_get (front ++ back)) here) ∙ at in
    ends j i there (omega (arith, some))

pub ends_both : (front back : List Instruction) → EndsWell front → EndsWell back → EndsWell (front ++ back)
ends_both front [] first second = subst EndsWell (sym (append-nil front)) first
ends_both front (i ∷ back) first second = ends_right front (i ∷ back) (omega arith) second

pub none_ends : EndsWell []
none_ends k i at last = absurd (let e : None ≡ Some i = at in cc)

one_ends : (i : Instruction) → leaves i ≡ true → EndsWell (i ∷ [])
one_ends i leaving zero j at last = subst (λ (x : Instruction). leaves x ≡ true) (let e : Some i ≡ Some j = at in let s : i ≡ j = cc in s) leaving
one_ends i leaving (suc k) j at last = absurd (let e : None ≡ Some j = at in cc)

pub ends_pieces : (piece : ℕ → Instruction → List Instruction) (first : ℕ) (code : List Instruction) → ((k : ℕ) (i : Instruction) → At code k i → EndsWell (piece (first + k) i))
    → EndsWell (pieces piece first code)
ends_pieces piece first [] each = none_ends
ends_pieces piece first (i ∷ code) each =
    ends_both (piece first i) (pieces piece (suc first) code) (let e : first + 0 ≡ first = omega arith in subst (λ (n : ℕ). EndsWell (piece n i)) e (each 0 i refl))
    (ends_pieces piece (suc first) code (λ k j at. let e : first + suc k ≡ suc first + k = omega arith in subst (λ (n : ℕ). EndsWell (piece n j)) e (each (suc k) j at)))

-- ---- the out-of-line part of a callee's code

-- If control never falls through an instruction, its replacement does not run off its end.
part_ends : (site : Site) (place : ℕ → ℕ) (index : ℕ) (i : Instruction) (end : Option ℕ) → site.call.line ≤ index → leaves i ≡ true → EndsWell (inside_part site place index i end)
part_ends site place index i (Some value) past leaving =
    go (index + 1 == site.call.line) refl
  where
    go : (is_last : Bool) → (index + 1 == site.call.line) ≡ is_last → EndsWell (passing site.call.result (site.shift + value) site.results ++ way_following is_last site.following)
    go true is = (let last = eqb-true (index + 1) site.call.line is in absurd (omega (arith, last, past)))
    go false is =
        ends_right (passing site.call.result (site.shift + value) site.results) (instructions.Jump site.following ∷ []) (omega arith) (one_ends (instructions.Jump site.following) refl)
part_ends site place index i None past leaving = one_ends (moved site.shift place i) (same_leaving site.shift place i ∙ leaving)

module _ (site : Site) (place : ℕ → ℕ) where
  one_of_rest : (first : ℕ) (i : Instruction) → leaves i ≡ true → EndsWell (piece_inside site place false first i)
  one_of_rest first i leaving = go (nat_le site.call.line first) refl
    where
      go : (b : Bool) → nat_le site.call.line first ≡ b → EndsWell (if b then inside_part site place first i (is_end i) else [])
      go true there = part_ends site place first i (is_end i) (leb-true site.call.line first there) leaving
      go false there = none_ends

  -- If code does not run off its end, the code with one more instruction in front does not either.
  further : (first : ℕ) (i j : Instruction) (code : List Instruction) → EndsWell (inside_code site place false (suc first) (j ∷ code))
      → (b : Bool) → nat_le site.call.line first ≡ b → EndsWell ((if b then inside_part site place first i (is_end i) else []) ++ inside_code site place false (suc first) (j ∷ code))
  further first i j code well false there = well
  further first i j code well true there =
      let past = leb-true site.call.line first there in
      let some = rest_some site.results site.call.line (suc first) j (omega (arith, past)) in
      ends_right (inside_part site place first i (is_end i)) (inside_code site place false (suc first) (j ∷ code))
      (omega (
        arith,
        length-append (piece_inside site place false (suc first) j) (inside_code site place false (suc (suc first)) code),
        piece_long site place false (suc first) j,
        some,
      ))
      well

  pub rest_ends : (first : ℕ) (code : List Instruction) → EndsWell code → EndsWell (inside_code site place false first code)
  rest_ends first [] ends = none_ends
  rest_ends first (i ∷ []) ends = subst EndsWell (sym (append-nil (piece_inside site place false first i))) (one_of_rest first i (ends 0 i refl (omega arith)))
  rest_ends first (i ∷ j ∷ code) ends =
      further first i j code (rest_ends (suc first) (j ∷ code) (λ k x at last. ends (suc k) x at (omega (arith, last)))) (nat_le site.call.line first) refl

-- ---- functions

pub function_ends : (program : Program) (t : Routine) → IsRoutine program t → EndsWell t.code
function_ends program t routine k i at last =
    let here : length t.code - 1 ≡ k = omega (arith, last) in
    subst (λ (o : Option Instruction). IsSomeAnd o (λ j. leaves j ≡ true)) (ap (slice_get t.code) here ∙ at) routine.last

pub last_leaves : (code : List Instruction) → 0 < length code → EndsWell code → IsSomeAnd (slice_get code (length code - 1)) (λ i. leaves i ≡ true)
last_leaves code some ends =
    let (i, at) = slice_get_below code (length code - 1) (omega (arith, some)) in
    subst (λ (o : Option Instruction). IsSomeAnd o (λ j. leaves j ≡ true)) (sym at) (ends (length code - 1) i at (omega (arith, some)))
