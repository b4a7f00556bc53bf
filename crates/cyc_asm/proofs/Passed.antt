-- The assembler skips a line without a delay slot: it moves no earlier instruction down to this line.
use Rattle.std.proofs.Common.{◌≡◌, ℕ, suc, ◌+◌, ◌-◌, ◌<◌, nat_le, List, Bool, true, false, cond, not, Option, Some, refl, ap, ◌∙◌, arith}
use Rattle.std.specs.Prelude.{◌&&◌, slice_get}
use Rattle.std.specs.Option.{is_some}
use Rattle.std.proofs.lemmas.Bool.{leb-false}
use Rattle.cyc_words.proofs.Booleans.{and_and_false}
use Rattle.cyc_select.specs.declared.code.Line.{Line}
use Rattle.cyc_select.specs.declared.code.Line.TheVariants as lines
use Rattle.cyc_asm.specs.inside.Slots.{is_named, moved, filling}
use Rattle.cyc_asm.specs.inside.Order.{passes_all, comes_down, sunk, sunk_from, tried, is_ordinary, settled}

none_moves : (before : Option Line) (line : Line) → is_ordinary line ≡ true → is_some (moved before (Some line)) ≡ false
none_moves (Some (lines.Ordinary instruction)) (lines.Ordinary other) ordinary = refl
none_moves before (lines.Ordinary other) ordinary = refl
none_moves before line ordinary = absurd (let f : false ≡ true = ordinary in cc)

none_comes : (code : List Line) (number count : ℕ) (line : Line) → slice_get code number ≡ Some line → is_ordinary line ≡ true → count < number → comes_down code (number - suc count) count ≡ false
none_comes code number count line here ordinary many =
    let from = number - suc count in
    let there : from + suc count ≡ number = omega (arith, many) in
    let none = ap (λ n. is_some (moved (slice_get code from) (slice_get code n))) there
    ∙ ap (λ (x : Option Line). is_some (moved (slice_get code from) x)) here
    ∙ none_moves (slice_get code from) line ordinary in
    ap (λ (x : Bool). passes_all code from count && (not (is_named code (from + suc count)) && x)) none
    ∙ and_and_false (passes_all code from count) (not (is_named code (from + suc count)))

tried_passed : (code : List Line) (number count : ℕ) (line : Line) → slice_get code number ≡ Some line → is_ordinary line ≡ true → tried code number count ≡ code
tried_passed code number count line here ordinary = by (nat_le number count) refl (is_some (filling code number))
  where
    by : (few : Bool) → nat_le number count ≡ few → (filled : Bool) → cond few code (cond filled code (sunk_from code (number - suc count) count)) ≡ code
    by true few filled = refl
    by false few true = refl
    by false few false =
        ap (λ (may : Bool). cond may (sunk code (number - suc count) count) code)
        (none_comes code number count line here ordinary (leb-false number count few))

pub settled_passed : (code : List Line) (number : ℕ) (line : Line) → slice_get code number ≡ Some line → is_ordinary line ≡ true → settled code number ≡ code
settled_passed code number line here ordinary =
    ap (λ (order : List Line). tried order number 2) (tried_passed code number 1 line here ordinary) ∙ tried_passed code number 2 line here ordinary

-- The assembler skips a line whose delay slot is already filled.
tried_filled : (code : List Line) (number count : ℕ) → is_some (filling code number) ≡ true → tried code number count ≡ code
tried_filled code number count filled =
    ap (λ (b : Bool). cond (nat_le number count) code (cond b code (sunk_from code (number - suc count) count))) filled ∙ by (nat_le number count)
  where
    by : (few : Bool) → cond few code code ≡ code
    by true = refl
    by false = refl

pub settled_filled : (code : List Line) (number : ℕ) → is_some (filling code number) ≡ true → settled code number ≡ code
settled_filled code number filled =
    ap (λ (order : List Line). tried order number 2) (tried_filled code number 1 filled) ∙ tried_filled code number 2 filled
