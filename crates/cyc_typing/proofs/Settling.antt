-- Lemmas about requirements of the typing rules that are checked in two steps.
use Rattle.std.proofs.Common.{◌≡◌, Bool, true, false, cond, nat_lt, List, [], ◌∷◌, ◌++◌, Option, Some, None, refl, sym, ap, ◌∙◌}
use Rattle.cyc_words.specs.declared.fault.Fault.{Fault}
use Rattle.cyc_words.specs.Fault.{number_of}
use Rattle.cyc_words.proofs.Numbers.{nat_lt-trans, nat_lt-false_trans}
use Rattle.cyc_types.specs.Rules.{Demand, fault_of, lesser, noted, settled}
use Rattle.cyc_types.proofs.RuleLaws.{settled_append}
use Rattle.cyc_typing.specs.inside.Forms.{merged}

-- Checking further requirements after requirements that are already checked gives the same fault as checking all of them at once.
pub settled_after : (known : Option Fault) (ds es : List Demand) → known ≡ settled None ds → settled None (ds ++ es) ≡ settled known es
settled_after known ds es h = settled_append None ds es ∙ ap (λ o. settled o es) (sym h)

-- ---- the result of two lists of demands, each settled separately

by_tests : (a b c : Bool) (e f g : Fault) → (a ≡ true → b ≡ true → c ≡ true) → (a ≡ false → b ≡ false → c ≡ false)
    → cond a (cond b (Some g) (Some f)) (cond c (Some g) (Some e)) ≡ cond b (cond c (Some g) (Some e)) (cond a (Some f) (Some e))
by_tests true true c e f g h k = ap (λ z. cond z (Some g) (Some e)) (sym (h refl refl))
by_tests true false c e f g h k = refl
by_tests false true c e f g h k = refl
by_tests false false c e f g h k = ap (λ z. cond z (Some g) (Some e)) (k refl refl)

first_test : (a : Bool) (e f g : Fault) → lesser (cond a (Some f) (Some e)) g ≡ cond a (lesser (Some f) g) (lesser (Some e) g)
first_test true e f g = refl
first_test false e f g = refl

second_test : (b : Bool) (e f g : Fault) → merged (Some e) (cond b (Some g) (Some f)) ≡ cond b (lesser (Some e) g) (lesser (Some e) f)
second_test true e f g = refl
second_test false e f g = refl

lesser_lesser : (known : Option Fault) (f g : Fault) → lesser (lesser known f) g ≡ merged known (lesser (Some f) g)
lesser_lesser None f g = by_test (nat_lt (number_of g.code) (number_of f.code))
  where
    by_test : (b : Bool) → cond b (Some g) (Some f) ≡ merged None (cond b (Some g) (Some f))
    by_test true = refl
    by_test false = refl
lesser_lesser (Some e) f g =
    let m = number_of e.code in
    let n = number_of f.code in
    let k = number_of g.code in
    first_test (nat_lt n m) e f g ∙ by_tests (nat_lt n m) (nat_lt k n) (nat_lt k m) e f g (nat_lt-trans k n m) (nat_lt-false_trans k n m) ∙ sym (second_test (nat_lt k n) e f g)

merged_noted : (known : Option Fault) (d : Demand) (o : Option Fault) → merged (noted known d) o ≡ merged known (merged (noted None d) o)
merged_noted known d o = by_test d.kept o
  where
    by_test : (b : Bool) (o : Option Fault) → merged (cond b known (lesser known (fault_of d))) o ≡ merged known (merged (cond b None (Some (fault_of d))) o)
    by_test true None = refl
    by_test true (Some g) = refl
    by_test false None = refl
    by_test false (Some g) = lesser_lesser known (fault_of d) g

pub settled_merged : (known : Option Fault) (ds : List Demand) → settled known ds ≡ merged known (settled None ds)
settled_merged known [] = refl
settled_merged known (d ∷ ds) = settled_merged (noted known d) ds ∙ merged_noted known d (settled None ds) ∙ sym (ap (merged known) (settled_merged (noted None d) ds))
