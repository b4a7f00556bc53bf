-- A reordering leaves the number of lines unchanged.
use Rattle.std.proofs.Common.{◌≡◌, ℕ, zero, suc, ◌+◌, ◌-◌, nat_le, List, length, Bool, true, false, cond, refl, ◌∙◌}
use Rattle.std.specs.Option.{is_some}
use Rattle.std.proofs.lemmas.List.Edits.{length-swap}
use Rattle.cyc_select.specs.declared.code.Line.{Line}
use Rattle.cyc_asm.specs.inside.Slots.{filling}
use Rattle.cyc_asm.specs.inside.Order.{comes_down, sunk, tried, settled, arranged_before, arranged}

length-sunk : (code : List Line) (from count : ℕ) → length (sunk code from count) ≡ length code
length-sunk code from zero = refl
length-sunk code from (suc count) = length-swap (sunk code from count) (from + count) (from + suc count) ∙ length-sunk code from count

length-tried : (code : List Line) (number count : ℕ) → length (tried code number count) ≡ length code
length-tried code number count = by (nat_le number count) (is_some (filling code number)) (comes_down code (number - suc count) count)
  where
    by : (few filled may : Bool) → length (cond few code (cond filled code (cond may (sunk code (number - suc count) count) code))) ≡ length code
    by true filled may = refl
    by false true may = refl
    by false false false = refl
    by false false true = length-sunk code (number - suc count) count

pub length-settled : (code : List Line) (number : ℕ) → length (settled code number) ≡ length code
length-settled code number = length-tried (tried code number 1) number 2 ∙ length-tried code number 1

length-before : (code : List Line) (count : ℕ) → length (arranged_before code count) ≡ length code
length-before code zero = refl
length-before code (suc number) =
    length-settled (arranged_before code number) number ∙ length-before code number

pub length-arranged : (code : List Line) → length (arranged code) ≡ length code
length-arranged code = length-before code (length code)
