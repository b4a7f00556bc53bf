-- This file is about facts that hold for all items of a list, or for some item.
use Rattle.std.proofs.Common.{List, [], ◌∷◌, arith, ◌≡◌, ◌⊎◌, inl, inr, ℕ, ◌<◌, length, get_or, sym, Some, slice_get, subst, ◌++◌, zero, suc, None, set, Any, refl, map}
use Rattle.std.specs.Prelude.{Contains, All}
use Rattle.std.proofs.lemmas.List.Elements.{Contains-push, Contains-append_left, Contains-append_right, Contains-push_cases, Contains-append_cases}
use Rattle.std.proofs.lemmas.Option.{get_or_from_slice_get, slice_get-get_or}
use Rattle.std.specs.List.{AllByRecursion}
use Rattle.cyc_words.proofs.Items.{below_from_slice_get}

-- ---- members

pub Contains-head : {X : Type 0} (x : X) (xs : List X) → Contains (x ∷ xs) x
Contains-head x xs = Contains-append_left (x ∷ []) xs x (Contains-push [] x)

pub Contains-tail : {X : Type 0} (x : X) (xs : List X) (y : X) → Contains xs y → Contains (x ∷ xs) y
Contains-tail x xs y h = Contains-append_right (x ∷ []) xs y h

pub Contains-empty : {X : Type 0} (y : X) → Contains [] y → ⊥
Contains-empty y h = omega (arith, h.1)

pub Contains-cons_cases : {X : Type 0} (x : X) (xs : List X) (y : X) → Contains (x ∷ xs) y → (x ≡ y) ⊎ Contains xs y
Contains-cons_cases x xs y h =
    elim (Contains-append_cases (x ∷ []) xs y h) [
      | inl k ↦ elim (Contains-push_cases [] x y k) [ inl none ↦ absurd (Contains-empty y none) | inr e ↦ inl e ]
      | inr k ↦ inr k
    ]

pub Contains-read : (callees : List ℕ) (i callee : ℕ) → i < length callees → callee ≡ get_or callees i callee → Contains callees callee
Contains-read callees i callee less at = (i, less, sym at)

-- ---- predicates of all items, by index

pub All_at : {X : Type 0} (P : X → Type 0) (xs : List X) (k : ℕ) (x : X) → All P xs → slice_get xs k ≡ Some x → P x
All_at P xs k x all at = subst P (get_or_from_slice_get xs k x x at) (all k x (below_from_slice_get xs k x at))

pub All_by_number : {X : Type 0} (P : X → Type 0) (xs : List X) → ((k : ℕ) (x : X) → slice_get xs k ≡ Some x → P x) → All P xs
All_by_number P xs each = λ k d below. each k (get_or xs k d) (slice_get-get_or xs k d below)

-- ---- predicates of all items, by recursion

pub all_append_parts : (P : ℕ → Type 0) (xs ys : List ℕ) → AllByRecursion P (xs ++ ys) → AllByRecursion P xs × AllByRecursion P ys
all_append_parts P [] ys h = (tt, h)
all_append_parts P (x ∷ xs) ys h = let k = all_append_parts P xs ys h.1 in ((h.0, k.0), k.1)

pub all_append_left : (P : ℕ → Type 0) (xs ys : List ℕ) → AllByRecursion P (xs ++ ys) → AllByRecursion P xs
all_append_left P [] ys all = tt
all_append_left P (x ∷ xs) ys all = (all.0, all_append_left P xs ys all.1)

pub all_at : {X : Type 0} (P : X → Type 0) (xs : List X) (k : ℕ) (x : X) → AllByRecursion P xs → slice_get xs k ≡ Some x → P x
all_at P [] k x all at = absurd (let e : None ≡ Some x = at in cc)
all_at P (y ∷ ys) zero x (first, rest) at = subst P (let e : Some y ≡ Some x = at in cc) first
all_at P (y ∷ ys) (suc k) x (first, rest) at = all_at P ys k x rest at

pub all_set : {A : Type 0} (P : A → Type 0) (xs : List A) (n : ℕ) (x : A) → P x → AllByRecursion P xs → AllByRecursion P (set xs n x)
all_set P [] n x new h = tt
all_set P (y ∷ xs) zero x new h = (new, h.1)
all_set P (y ∷ xs) (suc n) x new h = (h.0, all_set P xs n x new h.1)

pub all_from_members : (P : ℕ → Type 0) (xs : List ℕ) → ((x : ℕ) → Contains xs x → P x) → AllByRecursion P xs
all_from_members P [] h = tt
all_from_members P (x ∷ xs) h = (h x (Contains-head x xs), all_from_members P xs (λ y k. h y (Contains-tail x xs y k)))

pub all_weaker : {X : Type 0} (P Q : X → Type 0) → ((x : X) → P x → Q x) → (xs : List X) → AllByRecursion P xs → AllByRecursion Q xs
all_weaker P Q tells [] all = tt
all_weaker P Q tells (x ∷ xs) (first, rest) = (tells x first, all_weaker P Q tells xs rest)

pub All_from_recursion : {X : Type 0} (P : X → Type 0) (xs : List X) → AllByRecursion P xs → All P xs
All_from_recursion P [] all k d below = absurd (omega arith)
All_from_recursion P (x ∷ xs) (one, rest) zero d below = one
All_from_recursion P (x ∷ xs) (one, rest) (suc k) d below = All_from_recursion P xs rest k d (omega arith)

-- ---- predicates of some item

pub Any-cons : {X : Type 0} (P : X → Type 0) (x : X) (xs : List X) → Any P (x ∷ xs) → P x ⊎ Any P xs
Any-cons P x xs (zero, y, within, is, holds) = inl (subst P (sym is) holds)
Any-cons P x xs (suc k, y, within, is, holds) = inr (k, y, omega arith, is, holds)

pub Any-first : {X : Type 0} (P : X → Type 0) (x : X) (xs : List X) → P x → Any P (x ∷ xs)
Any-first P x xs holds = (0, x, omega arith, refl, holds)

pub Any-later : {X : Type 0} (P : X → Type 0) (x : X) (xs : List X) → Any P xs → Any P (x ∷ xs)
Any-later P x xs (k, y, within, is, holds) = (suc k, y, omega arith, is, holds)

pub Any-append : {X : Type 0} (P : X → Type 0) (xs ys : List X) → Any P (xs ++ ys) → Any P xs ⊎ Any P ys
Any-append P [] ys a = inr a
Any-append P (x ∷ xs) ys a = elim (Any-cons P x (xs ++ ys) a) [
  | inl holds ↦ inl (Any-first P x xs holds)
  | inr later ↦ elim (Any-append P xs ys later) [ inl b ↦ inl (Any-later P x xs b) | inr b ↦ inr b ]
]

pub Any-append_left : {X : Type 0} (P : X → Type 0) (xs ys : List X) → Any P xs → Any P (xs ++ ys)
Any-append_left P [] ys a = absurd (omega (arith, a.2))
Any-append_left P (x ∷ xs) ys a = elim (Any-cons P x xs a) [
  | inl holds ↦ Any-first P x (xs ++ ys) holds
  | inr later ↦ Any-later P x (xs ++ ys) (Any-append_left P xs ys later)
]

pub Any-append_right : {X : Type 0} (P : X → Type 0) (xs ys : List X) → Any P ys → Any P (xs ++ ys)
Any-append_right P [] ys a = a
Any-append_right P (x ∷ xs) ys a = Any-later P x (xs ++ ys) (Any-append_right P xs ys a)

pub Any-map : {A X : Type 0} (P : X → Type 0) (f : A → X) (xs : List A) → Any P (map f xs) → (x : A) × P (f x)
Any-map P f [] a = absurd (omega (arith, a.2))
Any-map P f (x ∷ xs) a = elim (Any-cons P (f x) (map f xs) a) [ inl holds ↦ (x, holds) | inr later ↦ Any-map P f xs later ]

pub Any-map_from : {A X : Type 0} (P : X → Type 0) (f : A → X) (xs : List A) (x : A) → Contains xs x → P (f x) → Any P (map f xs)
Any-map_from P f [] x c holds = absurd (omega (arith, c.1))
Any-map_from P f (y ∷ xs) x (zero, within, is) holds = Any-first P (f y) (map f xs) (let Q : _ → Type 0 = λ z. P (f z) in subst Q (sym is) holds)
Any-map_from P f (y ∷ xs) x (suc k, within, is) holds = Any-later P (f y) (map f xs) (Any-map_from P f xs x (k, omega arith, is) holds)

pub Any-map_to : {A X : Type 0} {Q : Type 0} (P : X → Type 0) (f : A → X) (xs : List A) → ((x : A) → P (f x) → Q) → Any P (map f xs) → Q
Any-map_to P f xs from a = let found = Any-map P f xs a in from found.0 found.1

pub Any-one_to : {X : Type 0} {Q : Type 0} (P : X → Type 0) (x : X) → (P x → Q) → Any P (x ∷ []) → Q
Any-one_to P x from a = elim (Any-cons P x [] a) [ inl h ↦ from h | inr b ↦ absurd (omega (arith, b.2)) ]
