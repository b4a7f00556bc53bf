-- This file is about conjunctions of tests, and about the facts that follow from a true test.
use Rattle.std.proofs.Common.{◌≡◌, Bool, true, false, not, ◌&&◌, Option, Some, None, refl, sym, ◌||◌, true≢false, ◌∙◌, ℕ, cond}
use Rattle.std.specs.Option.{is_some}
use Rattle.std.specs.Prelude.{MatchBool}

-- ---- conjunction

pub and_left : (a b : Bool) → (a && b) ≡ true → a ≡ true
and_left true b h = refl
and_left false b h = h

pub and_right : (a b : Bool) → (a && b) ≡ true → b ≡ true
and_right true b h = h
and_right false b h = absurd (let e : false ≡ true = h in cc)

pub and_false : (b : Bool) → (b && false) ≡ false
and_false true = refl
and_false false = refl

pub and_false_not_both : (b c : Bool) → b && c ≡ false → b ≡ true → c ≡ true → ⊥
and_false_not_both true true h p q = absurd (cc)
and_false_not_both true false h p q = absurd (cc)
and_false_not_both false c h p q = absurd (cc)

pub and_false_cases : {A : Type 0} (x y : Bool) → (x && y) ≡ false → (x ≡ false → A) → (y ≡ false → A) → A
and_false_cases true y e one two = two e
and_false_cases false y e one two = one refl

pub and_and_false : (a b : Bool) → (a && (b && false)) ≡ false
and_and_false true true = refl
and_and_false true false = refl
and_and_false false b = refl

pub not_and_itself : (b : Bool) → (not b && b) ≡ false
not_and_itself true = refl
not_and_itself false = refl

-- ---- negation

pub not_not : (b : Bool) → not (not b) ≡ b
not_not true = refl
not_not false = refl

-- If a test implies a second test and the second test is false, then the first test is false too.
pub false_from_false : (a b : Bool) → (a ≡ true → b ≡ true) → b ≡ false → a ≡ false
false_from_false true b h k = let e : b ≡ true = h refl in absurd (cc)
false_from_false false b h k = refl

pub true_is_not_false : true ≡ false → ⊥
true_is_not_false is = cc

pub false_is_not_true : false ≡ true → ⊥
false_is_not_true e = cc

pub false_from_not : (b : Bool) → not b ≡ true → b ≡ false
false_from_not true is = absurd (false_is_not_true is)
false_from_not false is = refl

pub anything_from_false_is_true : {P : Type 0} → false ≡ true → P
anything_from_false_is_true e = absurd (true≢false (sym e))

pub never_true_and_false : {b : Bool} → b ≡ true → b ≡ false → ⊥
never_true_and_false first second = let e : true ≡ false = sym first ∙ second in cc

-- ---- equality of boolean tests

-- Two tests that imply each other have equal results.
pub same_tests : (a b : Bool) → (a ≡ true → b ≡ true) → (b ≡ true → a ≡ true) → a ≡ b
same_tests true b to from = sym (to refl)
same_tests false true to from = from refl
same_tests false false to from = refl

-- ---- options: a test for a value

pub some_there : {A : Type 0} (o : Option A) → is_some o ≡ true → (x : A) × (o ≡ Some x)
some_there None h = absurd (let e : false ≡ true = h in cc)
some_there (Some x) h = (x, refl)

-- ---- disjunction

pub or_false_right : (b : Bool) → (b || false) ≡ b
or_false_right true = refl
or_false_right false = refl

pub or_true_right : (b : Bool) → (b || true) ≡ true
or_true_right true = refl
or_true_right false = refl

pub or_comm : (a b : Bool) → (a || b) ≡ (b || a)
or_comm true true = refl
or_comm true false = refl
or_comm false true = refl
or_comm false false = refl

pub or_assoc : (a b c : Bool) → ((a || b) || c) ≡ (a || (b || c))
or_assoc true b c = refl
or_assoc false b c = refl

pub or_left_false : (a b : Bool) → (a || b) ≡ false → a ≡ false
or_left_false true b none = none
or_left_false false b none = refl

pub or_right_false : (a b : Bool) → (a || b) ≡ false → b ≡ false
or_right_false true b none = absurd (let e : true ≡ false = none in cc)
or_right_false false b none = none

pub or_false_parts : (a b : Bool) → (a || b) ≡ false → (a ≡ false) × (b ≡ false)
or_false_parts true b none = absurd (let e : true ≡ false = none in cc)
or_false_parts false b none = (refl, none)

-- If a disjunction is true and its left operand is false, then its right operand is true.
pub or_right_without_left : (c d : Bool) → not c ≡ true → c || d ≡ true → d ≡ true
or_right_without_left true d e h = absurd (cc)
or_right_without_left false d e h = h

pub not_or_parts : (a b : Bool) → not (a || b) ≡ true → (not a ≡ true) × (not b ≡ true)
not_or_parts true b e = absurd (let k : false ≡ true = e in cc)
not_or_parts false b e = (refl, e)

-- ---- a conditional and its test

pub cond-not : (b : Bool) (x y : ℕ) → cond (not b) x y ≡ cond b y x
cond-not true x y = refl
cond-not false x y = refl

pub MatchBool-false : (inside : Bool) (refused runs : Type 0) → (inside ≡ true → ⊥) → runs → MatchBool inside refused runs
MatchBool-false true refused runs not_so go = absurd (not_so refl)
MatchBool-false false refused runs not_so go = go
