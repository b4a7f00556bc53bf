-- This file is about the elements of a list, and the rest of the list after an element.
use Rattle.std.proofs.Common.{◌≡◌, ℕ, zero, suc, ◌+◌, ◌<◌, List, [], ◌∷◌, ◌++◌, length, drop, get_or, Option, Some, None, refl, sym, ap, ◌∙◌, arith, ◌-◌, reverse, take, ◌≤◌, append_assoc, replicate, map, append-nil}
use Rattle.std.specs.List.{slice_get, AllByRecursion}
use Rattle.std.proofs.lemmas.List.{drop_more, length-append, reverse-append, take-append-drop, length-reverse, length-drop, drop_at, drop-drop, take_all, take_more}
use Rattle.std.specs.Prelude.{flat_map}
use Rattle.std.proofs.lemmas.Grind.{flat_map-append}

-- ---- the rest of a list after its first items

pub drop_next : {A : Type 0} (k : ℕ) (xs : List A) → drop 1 (drop k xs) ≡ drop (suc k) xs
drop_next zero xs = refl
drop_next (suc k) [] = refl
drop_next (suc k) (x ∷ xs) = drop_next k xs

pub drop_one_more : {A : Type 0} (k : ℕ) (xs : List A) → drop 1 (drop k xs) ≡ drop (k + 1) xs
drop_one_more k xs =
    let next : suc k ≡ k + 1 = omega arith in
    drop_next k xs ∙ ap (λ (n : ℕ). drop n xs) next

-- The element that a loop reads at an index is the first element of the rest of the list from this index on.
pub drop_read : {A : Type 0} (xs : List A) (i : ℕ) (x : A) → i < length xs → x ≡ get_or xs i x → drop i xs ≡ x ∷ drop (i + 1) xs
drop_read xs i x lt is = drop_more xs i x lt ∙ ap (λ y. y ∷ drop (i + 1) xs) (sym is)

pub drop_first : {A : Type 0} (xs : List A) (i : ℕ) → i < length xs → (x : A) × (drop i xs ≡ x ∷ drop (i + 1) xs)
drop_first [] i lt = absurd (omega (arith, lt))
drop_first (x ∷ xs) i lt = (get_or (x ∷ xs) i x, drop_more (x ∷ xs) i x lt)

pub drop_found : {A : Type 0} (xs : List A) (k : ℕ) (x : A) → slice_get xs k ≡ Some x → drop k xs ≡ x ∷ drop (k + 1) xs
drop_found {A} [] k x at = absurd (let e : None ≡ Some x = at in cc)
drop_found {A} (y ∷ xs) zero x at = ap (λ (z : A). z ∷ xs) (let e : Some y ≡ Some x = at in cc)
drop_found (y ∷ xs) (suc k) x at =
    let next : suc k + 1 ≡ suc (k + 1) = omega arith in
    drop_found xs k x at ∙ ap (λ (n : ℕ). x ∷ drop n (y ∷ xs)) (sym next)

pub drop_to_last : {A : Type 0} (xs ys : List A) → drop (length (xs ++ ys) - length ys) (xs ++ ys) ≡ ys
drop_to_last xs ys =
    let n : length (xs ++ ys) - length ys ≡ length xs = omega (arith, length-append xs ys) in
    ap (λ (k : ℕ). drop k (xs ++ ys)) n ∙ front xs
  where
    front : (zs : List _) → drop (length zs) (zs ++ ys) ≡ ys
    front [] = refl
    front (z ∷ zs) = front zs

pub reverse_take : {X : Type 0} (xs : List X) (n : ℕ) → reverse (take n xs) ≡ drop (length (reverse xs) - n) (reverse xs)
reverse_take xs n =
    let newer : length (reverse (drop n xs)) ≡ length (reverse xs) - n =
    length-reverse (drop n xs) ∙ length-drop n xs ∙ ap (λ (k : ℕ). k - n) (sym (length-reverse xs)) in
    sym (ap (drop (length (reverse xs) - n)) (ap reverse (sym (take-append-drop n xs)) ∙ reverse-append (take n xs) (drop n xs))
    ∙ drop_at (reverse (drop n xs)) (reverse (take n xs)) (length (reverse xs) - n) newer)

pub drop_in_two : (text : List ℕ) (start len : ℕ) → drop start text ≡ take len (drop start text) ++ drop (start + len) text
drop_in_two text start len =
    sym (take-append-drop len (drop start text)) ∙ ap (λ l. take len (drop start text) ++ l) (drop-drop len start text)

pub read_before_drop : (count : ℕ) (input : List ℕ) → (read : List ℕ) × (input ≡ read ++ drop count input)
read_before_drop zero input = ([], refl)
read_before_drop (suc count) [] = ([], refl)
read_before_drop (suc count) (b ∷ input) = let (read, is) = read_before_drop count input in (b ∷ read, ap (λ l. b ∷ l) is)

-- ---- the item at an index

pub slice_get_last : {A : Type 0} (xs : List A) (x : A) → slice_get (xs ++ x ∷ []) (length xs) ≡ Some x
slice_get_last [] x = refl
slice_get_last (y ∷ ys) x = slice_get_last ys x

pub slice_get_before : {A : Type 0} (xs : List A) (x : A) (i : ℕ) → i < length xs → slice_get (xs ++ x ∷ []) i ≡ slice_get xs i
slice_get_before [] x i lt = absurd (omega (arith, lt))
slice_get_before (y ∷ ys) x zero lt = refl
slice_get_before (y ∷ ys) x (suc i) lt = slice_get_before ys x i (omega (arith, lt))

pub slice_get_below : {A : Type 0} (xs : List A) (i : ℕ) → i < length xs → (x : A) × (slice_get xs i ≡ Some x)
slice_get_below [] i lt = absurd (omega (arith, lt))
slice_get_below (y ∷ ys) zero lt = (y, refl)
slice_get_below (y ∷ ys) (suc i) lt = slice_get_below ys i (omega (arith, lt))

-- in a list of options, an index with a present value is less than the length
pub get_or_within : {A : Type 0} (xs : List (Option A)) (n : ℕ) (y : A) → get_or xs n None ≡ Some y → n < length xs
get_or_within [] n y e = cc
get_or_within (x ∷ xs) zero y e = omega arith
get_or_within (x ∷ xs) (suc n) y e = omega (arith, get_or_within xs n y e)

-- ---- predicates that hold of all items

pub all_append : {A : Type 0} (P : A → Type 0) (xs ys : List A) → AllByRecursion P xs → AllByRecursion P ys → AllByRecursion P (xs ++ ys)
all_append P [] ys all more = more
all_append P (x ∷ xs) ys (first, rest) more = (first, all_append P xs ys rest more)

-- ---- prefixes of a list

pub take_whole : {X : Type 0} (xs : List X) → take (length xs) xs ≡ xs
take_whole [] = refl
take_whole (x ∷ xs) = ap (λ (l : List _). x ∷ l) (take_whole xs)

pub take_all_but_last : (xs : List ℕ) (y : ℕ) → take (length xs) (xs ++ y ∷ []) ≡ xs
take_all_but_last [] y = refl
take_all_but_last (x ∷ xs) y = ap (λ (l : List ℕ). x ∷ l) (take_all_but_last xs y)

-- Pushing an item to a list and then removing the last item restores the original list.
pub take_popped : (old now after : List ℕ) (f count : ℕ) → now ≡ old ++ f ∷ [] → count ≡ length now → after ≡ take (count - 1) now → after ≡ old
take_popped old now after f count is counted taken =
    let e : count - 1 ≡ length old = omega (arith, counted, ap (λ (l : List ℕ). length l) is, length-append old (f ∷ [])) in
    taken ∙ ap (λ (l : List ℕ). take (count - 1) l) is ∙ ap (λ (n : ℕ). take n (old ++ f ∷ [])) e ∙ take_all_but_last old f

pub take_rest : (place : ℕ) (xs : List ℕ) → take (length xs - place) (drop place xs) ≡ drop place xs
take_rest place xs = take_all (length xs - place) (drop place xs) (omega (arith, length-drop place xs))

pub take_read : {A : Type 0} (xs : List A) (i : ℕ) (x : A) → i < length xs → x ≡ get_or xs i x → take (suc i) xs ≡ take i xs ++ x ∷ []
take_read [] i x inside at = absurd (omega (arith, inside))
take_read (y ∷ xs) zero x inside at = ap (λ z. z ∷ []) (sym at)
take_read (y ∷ xs) (suc i) x inside at = ap (λ l. y ∷ l) (take_read xs i x (omega (arith, inside)) at)

pub two_first : (text : List ℕ) → 2 ≤ length text → text ≡ get_or text 0 0 ∷ get_or text 1 0 ∷ drop 2 text
two_first [] long = absurd (omega arith)
two_first (b ∷ []) long = absurd (omega arith)
two_first (b ∷ c ∷ bs) long = refl

pub take_two_first : (text : List ℕ) (n : ℕ) → 2 ≤ length text → take (2 + n) text ≡ get_or text 0 0 ∷ get_or text 1 0 ∷ take n (drop 2 text)
take_two_first text n long =
    let two : 2 + n ≡ suc (suc n) = omega arith in
    ap (λ k. take k text) two ∙ ap (take (suc (suc n))) (two_first text long)

pub get_or_first : (text front rest : List ℕ) → text ≡ front ++ rest → 0 < length front → get_or front 0 0 ≡ get_or text 0 0
get_or_first text [] rest whole some = absurd (omega arith)
get_or_first text (b ∷ bs) rest whole some = ap (λ l. get_or l 0 0) (sym whole)

-- ---- lists built by several appends

pub push_then_append : (old first second : List ℕ) (a : ℕ) (rest : List ℕ) → first ≡ old ++ a ∷ [] → second ≡ first ++ rest → second ≡ old ++ a ∷ rest
push_then_append old first second a rest one two = two ∙ ap (λ (xs : List ℕ). xs ++ rest) one ∙ append_assoc old (a ∷ []) rest

pub push_three : (old first second third : List ℕ) (a b c : ℕ) → first ≡ old ++ a ∷ [] → second ≡ first ++ b ∷ [] → third ≡ second ++ c ∷ [] → third ≡ old ++ a ∷ b ∷ c ∷ []
push_three old first second third a b c one two three =
    push_then_append old first third a (b ∷ c ∷ []) one (push_then_append first second third b (c ∷ []) two three)

pub append_one_part : (new old a whole : List ℕ) → whole ≡ a → new ≡ old ++ a → new ≡ old ++ whole
append_one_part new old a whole is added = added ∙ ap (λ (l : List ℕ). old ++ l) (sym is)

pub append_two_parts : (new middle old a b whole : List ℕ) → whole ≡ a ++ b → middle ≡ old ++ a → new ≡ middle ++ b → new ≡ old ++ whole
append_two_parts new middle old a b whole is first second =
    second ∙ ap (λ (l : List ℕ). l ++ b) first ∙ append_assoc old a b ∙ ap (λ (l : List ℕ). old ++ l) (sym is)

-- After one part of a text was appended, appending the remaining parts yields the complete text.
pub append_goes_on : {A : Type 0} (all old new next rest whole : List A) → new ≡ old ++ next → whole ≡ next ++ rest → old ++ whole ≡ all → new ++ rest ≡ all
append_goes_on {A} all old new next rest whole is parts before =
    ap (λ (l : List A). l ++ rest) is ∙ append_assoc old next rest ∙ ap (λ (l : List A). old ++ l) (sym parts) ∙ before

pub append_replicate_next : {A : Type 0} (x : A) (count word : ℕ) (all old new : List A) → word < count → new ≡ old ++ x ∷ []
    → old ++ replicate (count - word) x ≡ all → new ++ replicate (count - (word + 1)) x ≡ all
append_replicate_next {A} x count word all old new below is before =
    let left : count - word ≡ suc (count - (word + 1)) = omega (arith, below) in
    append_goes_on all old new (x ∷ []) (replicate (count - (word + 1)) x) (replicate (count - word) x) is
    (ap (λ (n : ℕ). replicate n x) left) before

pub append_take_next : (front bytes : List ℕ) (i : ℕ) → i < length bytes → (front ++ take i bytes) ++ get_or bytes i 0 ∷ [] ≡ front ++ take (i + 1) bytes
append_take_next front bytes i within =
    append_assoc front (take i bytes) (get_or bytes i 0 ∷ []) ∙ ap (λ l. front ++ l) (sym (take_more bytes i 0 within))

-- if two concatenations are equal and their left operands have equal length, then the left operands are equal, and so are the right ones
pub same_fronts : {X : Type 0} (a b x y : List X) → length a ≡ length b → a ++ x ≡ b ++ y → (a ≡ b) × (x ≡ y)
same_fronts [] [] x y len e = (refl, e)
same_fronts [] (c ∷ b) x y len e = absurd (omega arith)
same_fronts (c ∷ a) [] x y len e = absurd (omega arith)
same_fronts (c ∷ a) (d ∷ b) x y len e =
    let head : c ≡ d = cc in
    let tail : a ++ x ≡ b ++ y = cc in
    let rest = same_fronts a b x y (omega arith) tail in
    ((λ i. head i ∷ rest.0 i), rest.1)

-- ---- lengths

pub not_empty : (w : ℕ) (rest xs : List ℕ) → xs ≡ w ∷ rest → 0 < length xs
not_empty w rest xs is = more (length rest) (length xs) (ap length is)
  where
    more : (n m : ℕ) → m ≡ suc n → 0 < m
    more n m e = omega (arith, e)

pub length_pushed : (old now : List ℕ) (f m n : ℕ) → now ≡ old ++ f ∷ [] → m ≡ length old → n ≡ length now → n ≡ m + 1
length_pushed old now f m n is first second = omega (arith, first, second, ap (λ (l : List ℕ). length l) is, length-append old (f ∷ []))

pub same_length_pushed : {A B : Type 0} (xs : List A) (ys : List B) (x : A) (y : B) → length xs ≡ length ys → length (xs ++ x ∷ []) ≡ length (ys ++ y ∷ [])
same_length_pushed xs ys x y same =
    let a : length (xs ++ x ∷ []) ≡ length xs + length (x ∷ []) = length-append xs (x ∷ []) in
    let b : length (ys ++ y ∷ []) ≡ length ys + length (y ∷ []) = length-append ys (y ∷ []) in
    a ∙ ap (λ n. n + 1) same ∙ sym b

pub same_length_mapped : {A B C : Type 0} (f : A → B) (h : A → C) (xs : List A) → length (map f xs) ≡ length (map h xs)
same_length_mapped f h [] = refl
same_length_mapped f h (x ∷ xs) = ap suc (same_length_mapped f h xs)

pub length-insert : (x : ℕ) (xs ys : List ℕ) → length (xs ++ x ∷ ys) ≡ suc (length (xs ++ ys))
length-insert x [] ys = refl
length-insert x (y ∷ xs) ys = ap suc (length-insert x xs ys)

pub length_in_two : (taken : ℕ) (read rest : List ℕ) → taken ≡ length read → taken + length rest ≡ length (read ++ rest)
length_in_two taken read rest reads = ap (λ n. n + length rest) reads ∙ sym (length-append read rest)

-- ---- mapped lists

pub map_last : {A B : Type 0} (f : A → B) (xs : List A) (x : A) → map f (xs ++ x ∷ []) ≡ map f xs ++ f x ∷ []
map_last f [] x = refl
map_last {A} {B} f (y ∷ xs) x = ap (λ (zs : List B). f y ∷ zs) (map_last f xs x)

pub flat_map-alone : {X : Type 0} (xs : List X) → flat_map (λ (x : X). x ∷ []) xs ≡ xs
flat_map-alone [] = refl
flat_map-alone (x ∷ xs) = ap (λ (ys : List _). x ∷ ys) (flat_map-alone xs)

pub flat_map-take_next : {X : Type 0} (f : X → List ℕ) (xs : List X) (i : ℕ) (x : X) → i < length xs → get_or xs i x ≡ x → flat_map f (take i xs) ++ f x ≡ flat_map f (take (i + 1) xs)
flat_map-take_next f xs i x below is =
    ap (λ ys. flat_map f (take i xs) ++ ys) (sym (append-nil (f x)))
    ∙ sym (flat_map-append f (take i xs) (x ∷ []))
    ∙ ap (λ y. flat_map f (take i xs ++ y ∷ [])) (sym is)
    ∙ ap (flat_map f) (sym (take_more xs i x below))
