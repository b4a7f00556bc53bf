-- The classes of unique blocks.
use Rattle.std.proofs.Common.{◌≡◌, ℕ, zero, suc, ◌^◌, ◌<◌, ◌≤◌, Bool, sym, ap, ◌∙◌, arith}
use Rattle.std.specs.Prelude.{if◌then◌else◌}
use Rattle.std.proofs.lemmas.Bool.{le-leb, lt-leb}
use Rattle.cyc_words.specs.Demand.{class_from, greatest_class, blocks_in_page}

pub class_from-here : (left class size : ℕ) → 0 < left → size ≤ 2 ^ class → class_from left class size ≡ class
class_from-here zero class size some fits = absurd (omega (arith, some))
class_from-here (suc left) class size some fits = ap (λ (b : Bool). if b then class else class_from left (suc class) size) (le-leb size (2 ^ class) fits)

pub class_from-next : (left class less next size : ℕ) → left ≡ suc less → next ≡ suc class → 2 ^ class < size → class_from left class size ≡ class_from less next size
class_from-next left class less next size one_less one_more past =
    ap (λ (n : ℕ). class_from n class size) one_less
    ∙ (ap (λ (b : Bool). if b then class else class_from less (suc class) size) (lt-leb size (2 ^ class) past) ∙ ap (λ (n : ℕ). class_from less n size) (sym one_more))

pub blocks_some : (class : ℕ) → class ≤ greatest_class → 0 < blocks_in_page class
blocks_some zero below = omega arith
blocks_some (suc zero) below = omega arith
blocks_some (suc (suc zero)) below = omega arith
blocks_some (suc (suc (suc zero))) below = omega arith
blocks_some (suc (suc (suc (suc zero)))) below = omega arith
blocks_some (suc (suc (suc (suc (suc zero))))) below = omega arith
blocks_some (suc (suc (suc (suc (suc (suc zero)))))) below = omega arith
blocks_some (suc (suc (suc (suc (suc (suc (suc zero))))))) below = omega arith
blocks_some (suc (suc (suc (suc (suc (suc (suc (suc zero)))))))) below = omega arith
blocks_some (suc (suc (suc (suc (suc (suc (suc (suc (suc zero))))))))) below = omega arith
blocks_some (suc (suc (suc (suc (suc (suc (suc (suc (suc (suc zero)))))))))) below = omega arith
blocks_some (suc (suc (suc (suc (suc (suc (suc (suc (suc (suc (suc class))))))))))) below = absurd (omega (arith, below))
