-- This file is about the cases of an option, and about conditionals that return an option.
use Rattle.std.proofs.Common.{◌≡◌, Option, None, Some, refl, inl, inr, sym, ◌∙◌, ℕ, Bool, false, ap, true, cond, suc, option_map, ◌<◌, List, [], ◌∷◌, ◌++◌, length, arith, IfSome, Result, Ok, Err, OnOk}
use Rattle.std.specs.Prelude.{◌⊎◌, is_some, unwrap_or}
use Rattle.std.proofs.lemmas.Bool.{true≢false}
use Rattle.std.specs.Option.{option_or}
use Rattle.std.proofs.lemmas.List.{length_push}

-- ---- the two cases of an option

pub none_or_some : {A : Type 0} (o : Option A) → (o ≡ None) ⊎ ((x : A) × (o ≡ Some x))
none_or_some None = inl refl
none_or_some (Some x) = inr (x, refl)

pub never_none_and_some : {A : Type 0} {o : Option A} {x : A} → o ≡ None → o ≡ Some x → ⊥
never_none_and_some {A} {o} {x} none some = let e : None ≡ Some x = sym none ∙ some in cc

pub same_from_some : {A : Type 0} {x y : A} → Some x ≡ Some y → x ≡ y
same_from_some {A} {x} {y} e = cc

pub same_from_some_some : {o : Option (Option ℕ)} {g h : ℕ} → o ≡ Some (Some g) → o ≡ Some (Some h) → g ≡ h
same_from_some_some first second = same_from_some (same_from_some (sym first ∙ second))

pub false_from_some_false : (has : Bool) → ◌≡◌ {A = Option Bool} (Some false) (Some has) → has ≡ false
false_from_some_false has e = sym (ap (λ (o : Option Bool). elim o [ None ↦ false | Some b ↦ b ]) e)

pub anything_from_none_is_some : (number : ℕ) → None ≡ Some number → (P : Type 0) → P
anything_from_none_is_some number e P = cc

-- ---- the test for a present value

pub none_from_is_some : {A : Type 0} (o : Option A) → is_some o ≡ false → o ≡ None
none_from_is_some None e = refl
none_from_is_some (Some x) e = absurd (let f : true ≡ false = e in cc)

pub some_from_is_some : (o : Option ℕ) → is_some o ≡ true → (n : ℕ) × (o ≡ Some n)
some_from_is_some None there = absurd (true≢false (sym there))
some_from_is_some (Some n) there = (n, refl)

-- ---- a conditional that returns an option

pub cond-some_same : (b : Bool) (k l : ℕ) → cond b (Some k) None ≡ Some l → k ≡ l
cond-some_same true k l h = cc
cond-some_same false k l h = absurd (cc)

pub cond-some_none : (b : Bool) (k : ℕ) → cond b (Some k) None ≡ None → b ≡ false
cond-some_none true k h = absurd (cc)
cond-some_none false k h = refl

pub option_map-cond : (n : ℕ) (t : Bool) → option_map suc (cond t (Some n) None) ≡ cond t (Some (suc n)) None
option_map-cond n true = refl
option_map-cond n false = refl

pub unwrap_or-option_or : (a b : Option ℕ) → unwrap_or a (unwrap_or b 0) ≡ unwrap_or (option_or a b) 0
unwrap_or-option_or None b = refl
unwrap_or-option_or (Some word) b = refl

pub IfSome-below_more : (texts : List (List ℕ)) (text : List ℕ) (first : Option ℕ) → IfSome first (λ n. n < length texts) → IfSome first (λ n. n < length (texts ++ text ∷ []))
IfSome-below_more texts text None below = tt
IfSome-below_more texts text (Some n) below = omega (arith, length_push texts text)

pub OnOk-always : {A E : Type 0} (r : Result A E) (P : Type 0) → P → OnOk r P
OnOk-always (Ok a) P p = p
OnOk-always (Err e) P p = tt
