-- This file is about the item at an index of a list, after the list was appended to, updated or mapped.
use Rattle.std.proofs.Common.{◌≡◌, ℕ, zero, suc, ◌<◌, List, [], ◌∷◌, length, None, Some, slice_get, arith, Option, ◌++◌, ◌+◌, ap, ◌∙◌, subst, ◌-◌, length-append, refl, sym, inl, inr, get_or, ◌≤◌, Bool, true, replicate, false, set, map}
use Rattle.std.specs.Prelude.{slice_index_or, ◌⊎◌, slice_index, ◌≢◌}
use Rattle.std.proofs.lemmas.Grind.{common_steps}
use Rattle.std.proofs.lemmas.Bool.{cases_lt}
use Rattle.std.proofs.lemmas.List.{get_or-replicate, get_or_past, length-replicate, get_or-append_right, get_or_append_left}
use Rattle.std.proofs.lemmas.Option.{same_Some}
use Rattle.cyc_words.proofs.Options.{same_from_some}

-- ---- an item exists exactly below the length

pub below_from_slice_get : {X : Type 0} (xs : List X) (k : ℕ) (x : X) → slice_get xs k ≡ Some x → k < length xs
below_from_slice_get [] k x at = absurd (let e : None ≡ Some x = at in cc)
below_from_slice_get (y ∷ ys) zero x at = omega arith
below_from_slice_get (y ∷ ys) (suc k) x at = omega (arith, below_from_slice_get ys k x at)

pub never_at_length : {A : Type 0} (xs : List A) (n : ℕ) (x : A) → slice_get xs n ≡ Some x → n ≡ length xs → ⊥
never_at_length [] n x found same = absurd (let e : None ≡ Some x = found in cc)
never_at_length (y ∷ xs) zero x found same = absurd (omega (arith, same))
never_at_length (y ∷ xs) (suc n) x found same = never_at_length xs n x found (let e : n ≡ length xs = omega (arith, same) in e)

pub below_from_slice_index_or : (text : List (Option ℕ)) (number word : ℕ) → slice_index_or text number None ≡ Some word → number < length text
below_from_slice_index_or text number word here = grind (arith, common_steps)

-- ---- items of a concatenation

pub slice_get_front : {A : Type 0} (front back : List A) (k : ℕ) (x : A) → slice_get front k ≡ Some x → slice_get (front ++ back) k ≡ Some x
slice_get_front {A} [] back k x is = absurd (let e : None ≡ Some x = is in cc)
slice_get_front (y ∷ front) back zero x is = is
slice_get_front (y ∷ front) back (suc k) x is = slice_get_front front back k x is

pub slice_get_back : {A : Type 0} (front back : List A) (k : ℕ) → slice_get (front ++ back) (length front + k) ≡ slice_get back k
slice_get_back [] back k = ap (slice_get back) (let e : 0 + k ≡ k = omega arith in e)
slice_get_back (y ∷ front) back k =
    let next : suc (length front) + k ≡ suc (length front + k) = omega arith in
    ap (slice_get (y ∷ (front ++ back))) next ∙ slice_get_back front back k

pub slice_get_after : {A : Type 0} (xs ys : List A) (k j : ℕ) (x : A) → j ≡ length xs + k → slice_get ys k ≡ Some x → slice_get (xs ++ ys) j ≡ Some x
slice_get_after [] ys k j x at e = subst (λ i. slice_get ys i ≡ Some x) (let same : k ≡ j = omega arith in same) e
slice_get_after (y ∷ xs) ys k zero x at e = absurd (omega arith)
slice_get_after (y ∷ xs) ys k (suc j) x at e = slice_get_after xs ys k j x (omega arith) e

pub slice_get_last_after : {X : Type 0} (xs ys : List X) → 0 < length ys → slice_get (xs ++ ys) (length (xs ++ ys) - 1) ≡ slice_get ys (length ys - 1)
slice_get_last_after xs ys some = following_all xs (length ys - 1) (length (xs ++ ys) - 1) (omega (arith, length-append xs ys, some))
  where
    following_all : (zs : _) (n m : ℕ) → m ≡ length zs + n → slice_get (zs ++ ys) m ≡ slice_get ys n
    following_all [] n m is = ap (slice_get ys) (omega (arith, is))
    following_all (z ∷ zs) n zero is = absurd (omega (arith, is))
    following_all (z ∷ zs) n (suc m) is = following_all zs n m (omega (arith, is))

-- An item of a list with one item appended is an item of the original list, or the appended item.
pub slice_get_last_cases : {A : Type 0} (xs : List A) (y : A) (i : ℕ) (x : A) → slice_get (xs ++ y ∷ []) i ≡ Some x
    → (slice_get xs i ≡ Some x) ⊎ ((i ≡ length xs) × (x ≡ y))
slice_get_last_cases [] y zero x found = inr (refl, sym (same_from_some found))
slice_get_last_cases [] y (suc i) x found = absurd (let e : None ≡ Some x = found in cc)
slice_get_last_cases (a ∷ xs) y zero x found = inl found
slice_get_last_cases (a ∷ xs) y (suc i) x found = elim (slice_get_last_cases xs y i x found) [
  | inl there ↦ inl there
  | inr new ↦ inr (ap suc new.0, new.1)
]

pub slice_get_last_cases_turned : {A : Type 0} (xs : List A) (y : A) (i : ℕ) (x : A) → slice_get (xs ++ y ∷ []) i ≡ Some x → (slice_get xs i ≡ Some x) ⊎ ((i ≡ length xs) × (y ≡ x))
slice_get_last_cases_turned [] y zero x found = let e : Some y ≡ Some x = found in inr (refl, cc)
slice_get_last_cases_turned [] y (suc i) x found = absurd (let e : None ≡ Some x = found in cc)
slice_get_last_cases_turned (a ∷ xs) y zero x found = inl found
slice_get_last_cases_turned (a ∷ xs) y (suc i) x found = elim (slice_get_last_cases_turned xs y i x found) [ inl old ↦ inl old | inr new ↦ inr (ap suc new.0, new.1) ]

pub get_or_before : (before : List ℕ) (f : ℕ) (k : ℕ) → k < length before → get_or (before ++ f ∷ []) k 0 ≡ get_or before k 0
get_or_before [] f k less = absurd (omega (arith, less))
get_or_before (x ∷ before) f zero less = refl
get_or_before (x ∷ before) f (suc k) less = get_or_before before f k (omega (arith, less))

pub slice_index_or_before : {A : Type 0} (xs : List A) (x d : A) (k : ℕ) → k < length xs → slice_index_or (xs ++ x ∷ []) k d ≡ slice_index_or xs k d
slice_index_or_before [] x d k below = absurd (omega (arith, below))
slice_index_or_before (y ∷ xs) x d zero below = refl
slice_index_or_before (y ∷ xs) x d (suc k) below = slice_index_or_before xs x d k (omega (arith, below))

pub slice_index_or_last : {A : Type 0} (xs : List A) (x d : A) → slice_index_or (xs ++ x ∷ []) (length xs) d ≡ x
slice_index_or_last [] x d = refl
slice_index_or_last (y ∷ xs) x d = slice_index_or_last xs x d

pub slice_index_or_beyond : (pinned : List Bool) (slot : ℕ) → length pinned ≤ slot → slice_index_or pinned slot true ≡ true
slice_index_or_beyond [] slot above = refl
slice_index_or_beyond (b ∷ pinned) zero above = absurd (omega arith)
slice_index_or_beyond (b ∷ pinned) (suc slot) above = slice_index_or_beyond pinned slot (omega arith)

-- ---- items of a constant list

pub slice_get_replicate : {A : Type 0} (count : ℕ) (x : A) (k : ℕ) → k < count → slice_get (replicate count x) k ≡ Some x
slice_get_replicate zero x k below = absurd (omega (arith, below))
slice_get_replicate (suc count) x zero below = refl
slice_get_replicate (suc count) x (suc k) below = slice_get_replicate count x k (omega (arith, below))

pub slice_index_or_replicate_same : {A : Type 0} (n : ℕ) (x : A) (i : ℕ) → slice_index_or (replicate n x) i x ≡ x
slice_index_or_replicate_same zero x i = refl
slice_index_or_replicate_same (suc n) x zero = refl
slice_index_or_replicate_same (suc n) x (suc i) = slice_index_or_replicate_same n x i

pub slice_index_or_replicate : {A : Type 0} (n : ℕ) (x d : A) (i : ℕ) → i < n → slice_index_or (replicate n x) i d ≡ x
slice_index_or_replicate zero x d i lt = absurd (omega (arith, lt))
slice_index_or_replicate (suc n) x d zero lt = refl
slice_index_or_replicate (suc n) x d (suc i) lt = slice_index_or_replicate n x d i (omega (arith, lt))

pub never_in_falses : (n page : ℕ) → slice_index_or (replicate n false) page false ≡ true → ⊥
never_in_falses zero page e = cc
never_in_falses (suc n) zero e = cc
never_in_falses (suc n) (suc page) e = never_in_falses n page e

pub slice_index_zeros : (n k : ℕ) → slice_index (replicate n 0) k ≡ 0
slice_index_zeros n k = elim (cases_lt k n) [
  | inl below ↦ get_or-replicate n k 0 0 below
  | inr past ↦ get_or_past (replicate n 0) k 0 (omega (arith, past, length-replicate {A = ℕ} n 0))
]

pub slice_index_zeros_after : (globals : List ℕ) (count k : ℕ) → k < length globals + count → slice_index (globals ++ replicate count 0) k ≡ slice_index globals k
slice_index_zeros_after globals count k within = elim (cases_lt k (length globals)) [
  | inl below ↦ get_or_append_left globals (replicate count 0) 0 k below
  | inr past ↦
      get_or-append_right globals (replicate count 0) (length globals) k 0 refl past
      ∙ get_or-replicate count (k - length globals) 0 0 (omega arith)
      ∙ sym (get_or_past globals k 0 past)
]

-- ---- items after an update

pub slice_get-set_same : {A : Type 0} (xs : List A) (i : ℕ) (x y : A) → slice_get xs i ≡ Some x → slice_get (set xs i y) i ≡ Some y
slice_get-set_same [] i x y found = absurd (let e : None ≡ Some x = found in cc)
slice_get-set_same (a ∷ xs) zero x y found = refl
slice_get-set_same (a ∷ xs) (suc i) x y found = slice_get-set_same xs i x y found

pub slice_get-set_other : {A : Type 0} (xs : List A) (i j : ℕ) (y : A) → j ≢ i → slice_get (set xs i y) j ≡ slice_get xs j
slice_get-set_other [] i j y other = refl
slice_get-set_other (a ∷ xs) zero zero y other = absurd (other refl)
slice_get-set_other (a ∷ xs) zero (suc j) y other = refl
slice_get-set_other (a ∷ xs) (suc i) zero y other = refl
slice_get-set_other (a ∷ xs) (suc i) (suc j) y other = slice_get-set_other xs i j y (λ e. other (ap suc e))

-- An item of an updated list is the new item or an item of the original list.
pub slice_get-set_cases : {A : Type 0} (xs : List A) (i j : ℕ) (x y z : A) → slice_get xs i ≡ Some x → slice_get (set xs i y) j ≡ Some z
    → ((j ≡ i) × (z ≡ y)) ⊎ ((j ≢ i) × (slice_get xs j ≡ Some z))
slice_get-set_cases [] i j x y z there found = absurd (let e : None ≡ Some x = there in cc)
slice_get-set_cases (a ∷ xs) zero zero x y z there found = inl (refl, sym (same_from_some found))
slice_get-set_cases (a ∷ xs) zero (suc j) x y z there found = inr (λ e. absurd (omega (arith, e)), found)
slice_get-set_cases (a ∷ xs) (suc i) zero x y z there found = inr (λ e. absurd (omega (arith, e)), found)
slice_get-set_cases (a ∷ xs) (suc i) (suc j) x y z there found = elim (slice_get-set_cases xs i j x y z there found) [
  | inl here ↦ inl (ap suc here.0, here.1)
  | inr other ↦ inr (λ e. other.0 (omega (arith, e)), other.1)
]

pub slice_get-set_related : {A : Type 0} (R : A → A → Type 0) (xs : List A) (i : ℕ) (x y : A) → slice_get xs i ≡ Some x → R x y → ((a : A) → R a a) → (j : ℕ) (a : A) → slice_get xs j ≡ Some a → (b : A) × (slice_get (set xs i y) j ≡ Some b) × R a b
slice_get-set_related R [] i x y there related same j a found = absurd (let e : None ≡ Some a = found in cc)
slice_get-set_related R (c ∷ xs) zero x y there related same zero a found =
    let e : Some x ≡ Some a = sym there ∙ found in
    let k : x ≡ a = cc in
    (y, refl, subst (λ z. R z y) k related)
slice_get-set_related R (c ∷ xs) zero x y there related same (suc j) a found = (a, found, same a)
slice_get-set_related R (c ∷ xs) (suc i) x y there related same zero a found = (a, found, same a)
slice_get-set_related R (c ∷ xs) (suc i) x y there related same (suc j) a found = slice_get-set_related R xs i x y there related same j a found

pub set-again : {A : Type 0} (xs : List A) (i : ℕ) (x z d : A) → i < length xs → slice_index_or xs i d ≡ z → set (set xs i x) i z ≡ xs
set-again [] i x z d there is = absurd (omega (arith, there))
set-again (a ∷ xs) zero x z d there is = ap (λ y. y ∷ xs) (sym is)
set-again (a ∷ xs) (suc i) x z d there is = ap (λ ys. a ∷ ys) (set-again xs i x z d (omega (arith, there)) is)

pub set-back : {A : Type 0} (xs : List A) (i j : ℕ) (x y z d : A) → (i ≡ j → ⊥) → i < length xs → slice_index_or xs i d ≡ z → set (set (set xs i x) j y) i z ≡ set xs j y
set-back [] i j x y z d other there is = absurd (omega (arith, there))
set-back (a ∷ xs) zero zero x y z d other there is = absurd (other refl)
set-back (a ∷ xs) zero (suc j) x y z d other there is = ap (λ b. b ∷ set xs j y) (sym is)
set-back (a ∷ xs) (suc i) zero x y z d other there is = ap (λ ys. y ∷ ys) (set-again xs i x z d (omega (arith, there)) is)
set-back (a ∷ xs) (suc i) (suc j) x y z d other there is = ap (λ ys. a ∷ ys) (set-back xs i j x y z d (λ e. other (ap suc e)) (omega (arith, there)) is)

-- ---- items of a mapped list

pub slice_get-map : {A : Type 0} {B : Type 0} (f : A → B) (xs : List A) (i : ℕ) (x : A) → slice_get xs i ≡ Some x → slice_get (map f xs) i ≡ Some (f x)
slice_get-map f [] i x found = absurd (let e : None ≡ Some x = found in cc)
slice_get-map f (a ∷ xs) zero x found = ap (λ z. Some (f z)) (same_from_some found)
slice_get-map f (a ∷ xs) (suc i) x found = slice_get-map f xs i x found

pub slice_get-map_from : {A B : Type 0} (f : A → B) (xs : List A) (i : ℕ) (y : B) → slice_get (map f xs) i ≡ Some y → (x : A) × (slice_get xs i ≡ Some x) × (y ≡ f x)
slice_get-map_from f [] i y found = absurd (let e : None ≡ Some y = found in cc)
slice_get-map_from f (x ∷ xs) zero y found = (x, refl, sym (same_from_some found))
slice_get-map_from f (x ∷ xs) (suc i) y found = slice_get-map_from f xs i y found

pub slice_get-map_from_turned : {A B : Type 0} (f : A → B) (xs : List A) (i : ℕ) (y : B) → slice_get (map f xs) i ≡ Some y → (x : A) × (slice_get xs i ≡ Some x) × (f x ≡ y)
slice_get-map_from_turned f [] i y found = absurd (let e : None ≡ Some y = found in cc)
slice_get-map_from_turned f (x ∷ xs) zero y found = (x, refl, same_Some (f x) y found)
slice_get-map_from_turned f (x ∷ xs) (suc i) y found = slice_get-map_from_turned f xs i y found

pub slice_get-map_read : {A B : Type 0} (f : A → B) (xs : List A) (n : ℕ) (x : A) → n < length xs → x ≡ get_or xs n x → slice_get (map f xs) n ≡ Some (f x)
slice_get-map_read f [] n x inside at = absurd (omega arith)
slice_get-map_read f (y ∷ ys) zero x inside at = ap (λ z. Some (f z)) (sym at)
slice_get-map_read f (y ∷ ys) (suc n) x inside at = slice_get-map_read f ys n x (omega arith) at

pub get_or-map : {A : Type 0} (f : A → ℕ) (xs : List A) (n : ℕ) (x : A) → slice_get xs n ≡ Some x → get_or (map f xs) n 0 ≡ f x
get_or-map f [] n x there = absurd (let e : None ≡ Some x = there in cc)
get_or-map f (y ∷ xs) zero x there = let e : Some y ≡ Some x = there in let same : y ≡ x = cc in ap f same
get_or-map f (y ∷ xs) (suc n) x there = get_or-map f xs n x there

pub map-set : {A : Type 0} {B : Type 0} (f : A → B) (xs : List A) (i : ℕ) (x y : A) → slice_get xs i ≡ Some x → f y ≡ f x → map f (set xs i y) ≡ map f xs
map-set f [] i x y found same = refl
map-set f (a ∷ xs) zero x y found same = let e : Some a ≡ Some x = found in let k : a ≡ x = cc in ap (λ b. b ∷ map f xs) (same ∙ ap f (sym k))
map-set f (a ∷ xs) (suc i) x y found same = ap (λ l. f a ∷ l) (map-set f xs i x y found same)
