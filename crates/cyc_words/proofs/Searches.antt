-- This file is about tests of the items of a list, and about the index of the first item that passes a test.
use Rattle.std.proofs.Common.{◌≡◌, inl, inr, Bool, true, List, [], ◌∷◌, sym, subst, ◌||◌, map, refl, ap, false, reverse, ◌∙◌, ◌++◌, ⊎_elim, ◌+◌, not, cond, Some, slice_get, length, ℕ, take, ◌≤◌, arith}
use Rattle.std.specs.Prelude.{Contains}
use Rattle.std.specs.List.{list_any, list_all, position_or_len, prefix_len}
use Rattle.std.proofs.lemmas.Bool.{or_cases, or_left, or_right, and_parts, true≢false, cases_Bool, or_parts, and_from, cond-true}
use Rattle.std.proofs.lemmas.List.{reverse-append}
use Rattle.std.proofs.lemmas.List.Folds.{list_any-append}
use Rattle.std.proofs.lemmas.List.Recursion.{or_push}
use Rattle.std.proofs.Math.Numerals.{one-add}
use Rattle.std.specs.Str.{bytes_eq}
use Rattle.std.proofs.lemmas.Slice.Eq.{bytes_eq-Decides}
use Rattle.cyc_words.proofs.Members.{Contains-head, Contains-tail, Contains-empty, Contains-cons_cases}
use Rattle.cyc_words.proofs.Booleans.{or_comm, or_false_right}

-- ---- a test of all or of some items

-- Testing if some item of a list passes a test may check the last item first.
pub any_last_first : {A : Type 0} (test : A → Bool) (xs : List A) (x : A) → list_any test (xs ++ x ∷ []) ≡ (test x || list_any test xs)
any_last_first test xs x =
    list_any-append test xs (x ∷ []) ∙ ap (λ (b : Bool). list_any test xs || b) (or_false_right (test x)) ∙ or_comm (list_any test xs) (test x)

pub any-true : {X : Type 0} (f : X → Bool) (xs : List X) → list_any f xs ≡ true → (x : X) × Contains xs x × (f x ≡ true)
any-true f [] h = cc
any-true f (x ∷ xs) h =
    elim (or_cases (f x) (list_any f xs) h) [
      | inl e ↦ (x, Contains-head x xs, e)
      | inr e ↦ let r = any-true f xs e in (r.0, Contains-tail x xs r.0 r.1, r.2)
    ]

pub any-from : {X : Type 0} (f : X → Bool) (xs : List X) (x : X) → Contains xs x → f x ≡ true → list_any f xs ≡ true
any-from f [] x h e = absurd (Contains-empty x h)
any-from f (y ∷ ys) x h e =
    elim (Contains-cons_cases y ys x h) [
      | inl s ↦ or_left (f y) (list_any f ys) (subst (λ z. f z ≡ true) (sym s) e)
      | inr k ↦ or_right (f y) (list_any f ys) (any-from f ys x k e)
    ]

pub all-true : {X : Type 0} (f : X → Bool) (xs : List X) (x : X) → list_all f xs ≡ true → Contains xs x → f x ≡ true
all-true f [] x h k = absurd (Contains-empty x k)
all-true f (y ∷ ys) x h k =
    elim (Contains-cons_cases y ys x k) [
      | inl s ↦ subst (λ z. f z ≡ true) s ((and_parts (f y) (list_all f ys) h).0)
      | inr m ↦ all-true f ys x ((and_parts (f y) (list_all f ys) h).1) m
    ]

pub any-map : {X Y : Type 0} (f : Y → Bool) (g : X → Y) (xs : List X) → list_any f (map g xs) ≡ list_any (λ x. f (g x)) xs
any-map f g [] = refl
any-map f g (x ∷ xs) = ap (λ z. f (g x) || z) (any-map f g xs)

pub any-reverse : {X : Type 0} (f : X → Bool) (xs : List X) → list_any f (reverse xs) ≡ list_any f xs
any-reverse f [] = refl
any-reverse f (x ∷ xs) =
    ap (list_any f) (reverse-append (x ∷ []) xs) ∙ list_any-append f (reverse xs) (x ∷ []) ∙ or_comm (list_any f (reverse xs)) (f x || false)
    ∙ ap (λ z. z || list_any f (reverse xs)) (or_false_right (f x)) ∙ ap (λ z. f x || z) (any-reverse f xs)

pub any-push : {X : Type 0} (p : X → Bool) (xs : List X) (x : X) → list_any p (xs ++ x ∷ []) ≡ list_any p xs || p x
any-push p = or_push (list_any p) p refl (λ x xs. refl)

pub any-push_turned : {A : Type 0} (test : A → Bool) (ps : List A) (q : A) → list_any test (ps ++ q ∷ []) ≡ (test q || list_any test ps)
any-push_turned test ps q = list_any-append test ps (q ∷ []) ∙ by_tests (list_any test ps) (test q)
  where
    by_tests : (a b : Bool) → (a || (b || false)) ≡ (b || a)
    by_tests true true = refl
    by_tests true false = refl
    by_tests false true = refl
    by_tests false false = refl

-- ---- the first item that passes a test

pub position-found : {X : Type 0} (p : X → Bool) (xs : List X) → list_any p xs ≡ true → (x : X) × (slice_get xs (position_or_len p xs) ≡ Some x) × (p x ≡ true)
position-found p [] any = absurd (true≢false (sym any))
position-found p (x ∷ xs) any =
    ⊎_elim
    (λ passes. (x, ap (λ b. slice_get (x ∷ xs) (cond (not b) (1 + position_or_len p xs) 0)) passes, passes))
    (λ fails.
    let found = position-found p xs (ap (λ b. b || list_any p xs) (sym fails) ∙ any) in
    (found.0, ap (λ b. slice_get (x ∷ xs) (cond (not b) (1 + position_or_len p xs) 0)) fails ∙ rw one-add found.1, found.2))
    (cases_Bool (p x))

pub position-none : {X : Type 0} (p : X → Bool) (xs : List X) → list_any p xs ≡ false → position_or_len p xs ≡ length xs
position-none p [] none = refl
position-none p (x ∷ xs) none =
    ap (λ b. cond (not b) (1 + position_or_len p xs) 0) (or_parts _ _ none).0 ∙ ap (λ n. 1 + n) (position-none p xs (or_parts _ _ none).1) ∙ one-add (length xs)

pub position_push : {X : Type 0} (p : X → Bool) (xs : List X) (x : X) → list_any p xs ≡ false → p x ≡ true
    → position_or_len p (xs ++ x ∷ []) ≡ position_or_len p xs
position_push p [] x none passes = ap (λ b. cond (not b) 1 0) passes
position_push p (y ∷ xs) x none passes =
    ap (λ n. cond (not (p y)) (1 + n) 0) (position_push p xs x (or_parts _ _ none).1 passes)

pub position-append : {X : Type 0} (p : X → Bool) (xs ys : List X) → list_any p xs ≡ true → position_or_len p (xs ++ ys) ≡ position_or_len p xs
position-append p [] ys any = absurd (true≢false (sym any))
position-append p (x ∷ xs) ys any =
    ⊎_elim
    (λ passes. ap (λ b. cond (not b) (1 + position_or_len p (xs ++ ys)) 0) passes ∙ sym (ap (λ b. cond (not b) (1 + position_or_len p xs) 0) passes))
    (λ fails. ap (λ n. cond (not (p x)) (1 + n) 0) (position-append p xs ys (ap (λ b. b || list_any p xs) (sym fails) ∙ any)))
    (cases_Bool (p x))

-- ---- the longest prefix whose items pass a test

pub prefix_len-passes : (p : ℕ → Bool) (text : List ℕ) → list_all p (take (prefix_len p text) text) ≡ true
prefix_len-passes p [] = refl
prefix_len-passes p (b ∷ bs) =
    ⊎_elim
    (λ passes. ap (λ t. list_all p (take (cond t (1 + prefix_len p bs) 0) (b ∷ bs))) passes ∙ rw one-add (and_from _ _ passes (prefix_len-passes p bs)))
    (λ fails. ap (λ t. list_all p (take (cond t (1 + prefix_len p bs) 0) (b ∷ bs))) fails)
    (cases_Bool (p b))

pub prefix_len-at_least : (p : ℕ → Bool) (text front rest : List ℕ) → text ≡ front ++ rest → list_all p front ≡ true → length front ≤ prefix_len p text
prefix_len-at_least p text front rest e passes = subst (λ t. length front ≤ prefix_len p t) (sym e) (within front passes)
  where
    within : (front : List ℕ) → list_all p front ≡ true → length front ≤ prefix_len p (front ++ rest)
    within [] passes = omega arith
    within (b ∷ bs) passes =
        let parts = and_parts (p b) (list_all p bs) passes in
        let here : prefix_len p ((b ∷ bs) ++ rest) ≡ 1 + prefix_len p (bs ++ rest) = cond-true (p b) (1 + prefix_len p (bs ++ rest)) 0 parts.0 in
        omega (arith, here, within bs parts.1)

-- ---- equality of byte strings

pub bytes_eq-itself : (text : List ℕ) → bytes_eq text text ≡ true
bytes_eq-itself text = (bytes_eq-Decides text text).1 refl

pub bytes_eq-apart_turned : (a b : List ℕ) → bytes_eq a b ≡ false → bytes_eq b a ≡ false
bytes_eq-apart_turned a b apart =
    ⊎_elim
    (λ same. absurd (true≢false (sym (bytes_eq-same b a same) ∙ apart)))
    (λ not_same. not_same)
    (cases_Bool (bytes_eq b a))
  where
    bytes_eq-same : (x y : List ℕ) → bytes_eq x y ≡ true → bytes_eq y x ≡ true
    bytes_eq-same x y same = (bytes_eq-Decides y x).1 (sym ((bytes_eq-Decides x y).0 same))
