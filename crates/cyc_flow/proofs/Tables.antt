-- The bits of a table of words represent the state of each local variable: empty, lent or full.
use Rattle.std.proofs.Common.{◌≡◌, ◌≢◌, ℕ, zero, suc, ◌+◌, ◌*◌, ◌/◌, ◌%◌, ◌<◌, ◌≤◌, min, Bool, true, false, ◌==◌, ◌&&◌, ◌||◌, if◌then◌else◌, List, [], ◌∷◌, ◌++◌, length, take, drop, replicate, get_or, set, refl, sym, ap, subst, ◌∙◌, arith, inl, inr}
use Rattle.std.specs.Prelude.{bit_and, bit_or, bit_xor}
use Rattle.std.specs.Int.{bit_at}
use Rattle.std.proofs.lemmas.Nat.Bits.{bit_at_and, bit_at_or, bit_at_xor, bit_at-lt, bit_at-zero}
use Rattle.std.proofs.lemmas.List.{length-set, length-replicate, get_or_read, get_or_past, get_or-set_same, get_or-set_other, length-drop}
use Rattle.std.proofs.lemmas.Bool.{cases_eq}
use Rattle.cyc_types.specs.flow.States.{Fullness, Vacant, Locked, Full, Reached, lower, lower_each, is_as_full, are_as_full, is_locked, emptied}
use Rattle.cyc_flow.specs.declared.table.Marks.{Marks}
use Rattle.cyc_flow.specs.declared.table.Table.{Table}
use Rattle.cyc_flow.specs.inside.Bits.{has_bit}
use Rattle.cyc_flow.specs.inside.Tables.{reported, marked, no_marks, marks_at, known_at, each_below, table_length, view_table, missing, Covers, met, met_each, emptied_marks}
use Rattle.cyc_flow.specs.inside.Numbers.{is_among, Stand, with_words}
use Rattle.cyc_flow.proofs.Sets.{length-with_words}
use Rattle.cyc_words.proofs.Numbers.{eqb_itself, eqb_other}

-- ---- lists by index

pub length-each_below : (n : ℕ) (f : ℕ → Fullness) → length (each_below n f) ≡ n
length-each_below zero f = refl
length-each_below (suc n) f = ap suc (length-each_below n (λ i. f (suc i)))

pub get_or-each_below : (n i : ℕ) (f : ℕ → Fullness) (d : Fullness) → i < n → get_or (each_below n f) i d ≡ f i
get_or-each_below zero i f d below = absurd (omega (arith, below))
get_or-each_below (suc n) zero f d below = refl
get_or-each_below (suc n) (suc i) f d below = get_or-each_below n i (λ j. f (suc j)) d (omega (arith, below))

pub same_each : (n : ℕ) (f g : ℕ → Fullness) → ((i : ℕ) → i < n → f i ≡ g i) → each_below n f ≡ each_below n g
same_each zero f g each = refl
same_each (suc n) f g each =
    ap (λ a. a ∷ each_below n (λ i. f (suc i))) (each 0 (omega arith))
    ∙ ap (λ as'. g 0 ∷ as') (same_each n (λ i. f (suc i)) (λ i. g (suc i)) (λ i below. each (suc i) (omega (arith, below))))

-- If two functions differ only at one number, then the lists of their values differ only in the element at this index.
pub set_each : (n : ℕ) (f g : ℕ → Fullness) (i : ℕ) (a : Fullness) → ((j : ℕ) → j < n → j ≢ i → g j ≡ f j) → (i < n → g i ≡ a) → each_below n g ≡ set (each_below n f) i a
set_each zero f g i a other same = refl
set_each (suc n) f g zero a other same =
    ap (λ b. b ∷ each_below n (λ j. g (suc j))) (same (omega arith))
    ∙ ap (λ as'. a ∷ as') (same_each n (λ j. g (suc j)) (λ j. f (suc j)) (λ j below. other (suc j) (omega (arith, below)) (λ e. omega (arith, e))))
set_each (suc n) f g (suc i) a other same =
    ap (λ b. b ∷ each_below n (λ j. g (suc j))) (other 0 (omega arith) (λ e. omega (arith, e)))
    ∙ ap (λ as'. f 0 ∷ as') (set_each n (λ j. f (suc j)) (λ j. g (suc j)) i a (λ j below apart. other (suc j) (omega (arith, below)) (λ e. apart (omega (arith, e)))) (λ below. same (omega (arith, below))))

pub lower_each_below : (k n m : ℕ) (f g h : ℕ → Fullness) → k ≡ min n m → ((i : ℕ) → i < k → h i ≡ lower (f i) (g i))
    → each_below k h ≡ lower_each (each_below n f) (each_below m g)
lower_each_below zero zero m f g h is each = refl
lower_each_below zero (suc n) zero f g h is each = refl
lower_each_below zero (suc n) (suc m) f g h is each = absurd (omega (arith, is))
lower_each_below (suc k) zero m f g h is each = absurd (omega (arith, is))
lower_each_below (suc k) (suc n) zero f g h is each = absurd (omega (arith, is))
lower_each_below (suc k) (suc n) (suc m) f g h is each =
    ap (λ a. a ∷ each_below k (λ i. h (suc i))) (each 0 (omega arith))
    ∙ ap (λ as'. lower (f 0) (g 0) ∷ as') (lower_each_below k n m (λ i. f (suc i)) (λ i. g (suc i)) (λ i. h (suc i)) (omega (arith, is)) (λ i below. each (suc i) (omega (arith, below))))

pub as_full_below : (n : ℕ) (f g : ℕ → Fullness) → ((i : ℕ) → i < n → is_as_full (f i) (g i) ≡ true) → are_as_full (each_below n f) (each_below n g) ≡ true
as_full_below zero f g each = refl
as_full_below (suc n) f g each = both (is_as_full (f 0) (g 0)) (each 0 (omega arith)) (as_full_below n (λ i. f (suc i)) (λ i. g (suc i)) (λ i below. each (suc i) (omega (arith, below))))
  where
    both : (a : Bool) {b : Bool} → a ≡ true → b ≡ true → (a && b) ≡ true
    both true h k = k
    both false h k = absurd (let e : false ≡ true = h in cc)

-- The comparison `are_as_full` is false for two flow states with different numbers of locals.
pub unequal : (xs ys : List Fullness) → (length xs ≡ length ys → ⊥) → are_as_full xs ys ≡ false
unequal [] [] n = absurd (n refl)
unequal [] (y ∷ ys) n = refl
unequal (x ∷ xs) [] n = refl
unequal (x ∷ xs) (y ∷ ys) n = and_false (is_as_full x y) (unequal xs ys (λ e. n (omega (arith, e))))
  where
    and_false : (a : Bool) {b : Bool} → b ≡ false → (a && b) ≡ false
    and_false true e = e
    and_false false e = refl

pub as_full_more : (xs ys : List Fullness) (i : ℕ) → i < length xs → length xs ≡ length ys
    → are_as_full (drop i xs) (drop i ys) ≡ (is_as_full (get_or xs i Vacant) (get_or ys i Vacant) && are_as_full (drop (suc i) xs) (drop (suc i) ys))
as_full_more [] ys i below same = absurd (omega (arith, below))
as_full_more (x ∷ xs) [] i below same = absurd (omega (arith, same))
as_full_more (x ∷ xs) (y ∷ ys) zero below same = refl
as_full_more (x ∷ xs) (y ∷ ys) (suc i) below same = as_full_more xs ys i (omega (arith, below)) (omega (arith, same))

pub as_full_step : (xs ys : List Fullness) (i : ℕ) (a b : Fullness) (whole : Bool) → i < length xs → length xs ≡ length ys
    → a ≡ get_or xs i Vacant → b ≡ get_or ys i Vacant → true ≡ is_as_full a b → are_as_full (drop i xs) (drop i ys) ≡ whole
    → are_as_full (drop (i + 1) xs) (drop (i + 1) ys) ≡ whole
as_full_step xs ys i a b whole below same d e is h =
    ap (λ (n : ℕ). are_as_full (drop n xs) (drop n ys)) (let next : i + 1 ≡ suc i = omega arith in next)
    ∙ ap (λ (c : Bool). c && are_as_full (drop (suc i) xs) (drop (suc i) ys)) (is ∙ ap (λ (c : Fullness). is_as_full c b) d ∙ ap (is_as_full (get_or xs i Vacant)) e)
    ∙ sym (as_full_more xs ys i below same)
    ∙ h

pub as_full_end : (xs ys : List Fullness) (i : ℕ) → length xs ≤ i → length xs ≡ length ys → are_as_full (drop i xs) (drop i ys) ≡ true
as_full_end [] [] zero past same = refl
as_full_end [] [] (suc i) past same = refl
as_full_end [] (y ∷ ys) i past same = absurd (omega (arith, same))
as_full_end (x ∷ xs) [] i past same = absurd (omega (arith, same))
as_full_end (x ∷ xs) (y ∷ ys) zero past same = absurd (omega (arith, past))
as_full_end (x ∷ xs) (y ∷ ys) (suc i) past same = as_full_end xs ys i (omega (arith, past)) (omega (arith, same))

fill_more : (n : ℕ) (a : Fullness) (ds : List Fullness) → n < length ds → set (replicate n a ++ drop n ds) n a ≡ replicate (suc n) a ++ drop (suc n) ds
fill_more n a [] below = absurd (omega (arith, below))
fill_more zero a (d ∷ ds) below = refl
fill_more (suc n) a (d ∷ ds) below = ap (λ bs. a ∷ bs) (fill_more n a ds (omega (arith, below)))

pub fill_step : (n : ℕ) (a : Fullness) (ds as' bs : List Fullness) → n < length ds → as' ≡ replicate n a ++ drop n ds → bs ≡ set as' n a
    → bs ≡ replicate (n + 1) a ++ drop (n + 1) ds
fill_step n a ds as' bs below h k =
    k
    ∙ ap (λ cs. set cs n a) h
    ∙ fill_more n a ds below
    ∙ ap (λ (m : ℕ). replicate m a ++ drop m ds) (let next : suc n ≡ n + 1 = omega arith in next)

each_vacant : (n : ℕ) (f : ℕ → Fullness) → ((i : ℕ) → f i ≡ Vacant) → each_below n f ≡ replicate n Vacant
each_vacant zero f each = refl
each_vacant (suc n) f each = ap (λ a. a ∷ each_below n (λ i. f (suc i))) (each 0) ∙ ap (λ as'. Vacant ∷ as') (each_vacant n (λ i. f (suc i)) (λ i. each (suc i)))

-- ---- bits

bit_of_both : (x y : ℕ) → x < 2 → y < 2 → (min x y == 1) ≡ ((x == 1) && (y == 1))
bit_of_both zero zero small less = refl
bit_of_both zero (suc zero) small less = refl
bit_of_both zero (suc (suc y)) small less = absurd (omega (arith, less))
bit_of_both (suc zero) zero small less = refl
bit_of_both (suc zero) (suc zero) small less = refl
bit_of_both (suc zero) (suc (suc y)) small less = absurd (omega (arith, less))
bit_of_both (suc (suc x)) y small less = absurd (omega (arith, small))

has_both : (a b i : ℕ) → has_bit (bit_and a b) i ≡ (has_bit a i && has_bit b i)
has_both a b i = ap (λ (n : ℕ). n == 1) (bit_at_and a b i) ∙ bit_of_both (bit_at a i) (bit_at b i) (bit_at-lt a i) (bit_at-lt b i)

lower_reported : (a b c d : Bool) → reported (a && c) (b && d) ≡ lower (reported a b) (reported c d)
lower_reported false b c d = refl
lower_reported true false false d = refl
lower_reported true false true false = refl
lower_reported true false true true = refl
lower_reported true true c d = refl

pub marked_met : (m o : Marks) (i : ℕ) → marked (met m o) i ≡ lower (marked m i) (marked o i)
marked_met m o i =
    ap (λ (a : Bool). reported a (has_bit (bit_and m.free o.free) i)) (has_both m.held o.held i)
    ∙ ap (reported (has_bit m.held i && has_bit o.held i)) (has_both m.free o.free i)
    ∙ lower_reported (has_bit m.held i) (has_bit m.free i) (has_bit o.held i) (has_bit o.free i)

as_full_reported : (a b c d : Bool) → (a && c) ≡ c → (b && d) ≡ d → is_as_full (reported a b) (reported c d) ≡ true
as_full_reported false false false d h k = refl
as_full_reported false true false d h k = refl
as_full_reported false b true d h k = absurd (let e : false ≡ true = h in cc)
as_full_reported true false false d h k = refl
as_full_reported true false true false h k = refl
as_full_reported true false true true h k = absurd (let e : false ≡ true = k in cc)
as_full_reported true true c d h k = refl

covered_bit : (x z : ℕ) → x < 2 → z < 2 → (min x z + z) % 2 ≡ 0 → ((x == 1) && (z == 1)) ≡ (z == 1)
covered_bit zero zero small less h = refl
covered_bit zero (suc zero) small less h = absurd (omega (arith, h))
covered_bit zero (suc (suc z)) small less h = absurd (omega (arith, less))
covered_bit (suc zero) z small less h = refl
covered_bit (suc (suc x)) z small less h = absurd (omega (arith, small))

-- A bit counts as missing in the first of two words if it is set in the second word but not in the first.
lacking : (a b i : ℕ) → bit_at (bit_xor (bit_and a b) b) i ≡ (min (bit_at a i) (bit_at b i) + bit_at b i) % 2
lacking a b i = bit_at_xor (bit_and a b) b i ∙ ap (λ (x : ℕ). (x + bit_at b i) % 2) (bit_at_and a b i)

covered : (a b i : ℕ) → bit_at (bit_xor (bit_and a b) b) i ≡ 0 → (has_bit a i && has_bit b i) ≡ has_bit b i
covered a b i h = covered_bit (bit_at a i) (bit_at b i) (bit_at-lt a i) (bit_at-lt b i) (sym (lacking a b i) ∙ h)

pub covers_marked : (m o : Marks) (i : ℕ) → Covers m o → is_as_full (marked m i) (marked o i) ≡ true
covers_marked m o i h =
    let each = bit_at_or (bit_xor (bit_and m.held o.held) o.held) (bit_xor (bit_and m.free o.free) o.free) i in
    as_full_reported (has_bit m.held i) (has_bit m.free i) (has_bit o.held i) (has_bit o.free i)
    (covered m.held o.held i (omega (arith, each, h i)))
    (covered m.free o.free i (omega (arith, each, h i)))

-- ---- tables

-- The two bits stored for a local in the table determine its state: empty, lent or full.
pub known_read : (t : Table) (n : ℕ) (m : Marks) → n < table_length t → m ≡ get_or t.marks.items (n / 64) m
    → marked m (n % 64) ≡ get_or (view_table t) n Vacant
known_read t n m below read =
    ap (λ (o : Marks). marked o (n % 64)) (get_or_read t.marks.items (n / 64) m (omega (arith, below)) read no_marks)
    ∙ sym (get_or-each_below (table_length t) n (known_at t.marks.items) Vacant below)

pub known_past : (t : Table) (n : ℕ) → table_length t ≤ n → Vacant ≡ get_or (view_table t) n Vacant
known_past t n past = sym (get_or_past (view_table t) n Vacant (omega (arith, past, length-each_below (table_length t) (known_at t.marks.items))))

-- Changing the bits of one local changes only the state (empty, lent or full) of this local.
module _ (ms : List Marks) (n : ℕ) (m o : Marks) (a : Fullness) (within : n / 64 < length ms) (read : m ≡ get_or ms (n / 64) m)
    (same : marked o (n % 64) ≡ a) (other : (i : ℕ) → i < 64 → i ≢ n % 64 → marked o i ≡ marked m i) where
  at_place : marks_at (set ms (n / 64) o) (n / 64) ≡ o
  at_place = get_or-set_same ms (n / 64) o no_marks within

  other_known : (j : ℕ) → j ≢ n → known_at (set ms (n / 64) o) j ≡ known_at ms j
  other_known j apart = elim (cases_eq (j / 64) (n / 64)) [
    | inl here ↦
        ap (λ (p : ℕ). marked (marks_at (set ms (n / 64) o) p) (j % 64)) here
        ∙ ap (λ (k : Marks). marked k (j % 64)) at_place
        ∙ other (j % 64) (omega arith) (λ e. apart (omega (arith, e, here)))
        ∙ ap (λ (k : Marks). marked k (j % 64)) (get_or_read ms (n / 64) m within read no_marks)
        ∙ sym (ap (λ (p : ℕ). marked (marks_at ms p) (j % 64)) here)
    | inr there ↦ ap (λ (k : Marks). marked k (j % 64)) (get_or-set_other ms (n / 64) (j / 64) o no_marks there)
  ]

  pub set_known : (count : ℕ) → each_below (min count (64 * length (set ms (n / 64) o))) (known_at (set ms (n / 64) o)) ≡ set (each_below (min count (64 * length ms)) (known_at ms)) n a
  set_known count =
      ap (λ (l : ℕ). each_below (min count (64 * l)) (known_at (set ms (n / 64) o))) (length-set ms (n / 64) o)
      ∙ set_each (min count (64 * length ms)) (known_at ms) (known_at (set ms (n / 64) o)) n a (λ j below. other_known j)
      (λ below. ap (λ (k : Marks). marked k (n % 64)) at_place ∙ same)

set_past : (as' : List Fullness) (n : ℕ) (a : Fullness) → length as' ≤ n → as' ≡ set as' n a
set_past [] n a past = refl
set_past (b ∷ as') zero a past = absurd (omega (arith, past))
set_past (b ∷ as') (suc n) a past = ap (λ bs. b ∷ bs) (set_past as' n a (omega (arith, past)))

pub set_unknown : (t : Table) (n : ℕ) (a : Fullness) → length t.marks.items ≤ n / 64 → view_table t ≡ set (view_table t) n a
set_unknown t n a past = set_past (view_table t) n a (omega (arith, past, length-each_below (table_length t) (known_at t.marks.items)))

none_at : (k i : ℕ) → marks_at (replicate k no_marks) i ≡ no_marks
none_at zero i = refl
none_at (suc k) zero = refl
none_at (suc k) (suc i) = none_at k i

none_known : (k n : ℕ) → known_at (replicate k no_marks) n ≡ Vacant
none_known k n =
    ap (λ (m : Marks). marked m (n % 64)) (none_at k (n / 64))
    ∙ ap (λ (b : ℕ). reported (b == 1) (b == 1)) (bit_at-zero (n % 64))

pub new_known : (count : ℕ) (ms : List Marks) → ms ≡ replicate (count / 64 + 1) no_marks → each_below (min count (64 * length ms)) (known_at ms) ≡ replicate count Vacant
new_known count ms are =
    let l : length ms ≡ count / 64 + 1 = ap length are ∙ length-replicate (count / 64 + 1) no_marks in
    ap (λ (k : ℕ). each_below k (known_at ms)) (let e : min count (64 * length ms) ≡ count = omega (arith, l) in e)
    ∙ ap (λ (os : List Marks). each_below count (known_at os)) are
    ∙ each_vacant count (known_at (replicate (count / 64 + 1) no_marks)) (none_known (count / 64 + 1))

-- ---- the meet of two tables

length_met : (ms os : List Marks) → length (met_each ms os) ≡ min (length ms) (length os)
length_met [] os = omega arith
length_met (m ∷ ms) [] = omega arith
length_met (m ∷ ms) (o ∷ os) = omega (arith, length_met ms os)

met_at : (ms os : List Marks) (p : ℕ) → p < length ms → p < length os → marks_at (met_each ms os) p ≡ met (marks_at ms p) (marks_at os p)
met_at [] os p below less = absurd (omega (arith, below))
met_at (m ∷ ms) [] p below less = absurd (omega (arith, less))
met_at (m ∷ ms) (o ∷ os) zero below less = refl
met_at (m ∷ ms) (o ∷ os) (suc p) below less = met_at ms os p (omega (arith, below)) (omega (arith, less))

pub lower_known : (k c d : ℕ) (ms os ns : List Marks) → k ≡ min c d → ns ≡ met_each ms os
    → each_below (min k (64 * length ns)) (known_at ns) ≡ lower_each (each_below (min c (64 * length ms)) (known_at ms)) (each_below (min d (64 * length os)) (known_at os))
lower_known k c d ms os ns least are =
    let l : length ns ≡ min (length ms) (length os) = ap length are ∙ length_met ms os in
    lower_each_below (min k (64 * length ns)) (min c (64 * length ms)) (min d (64 * length os)) (known_at ms) (known_at os) (known_at ns) (omega (arith, l, least))
    (λ i below.
    ap (λ (ps : List Marks). marked (marks_at ps (i / 64)) (i % 64)) are
    ∙ ap (λ (m : Marks). marked m (i % 64)) (met_at ms os (i / 64) (omega (arith, below, l)) (omega (arith, below, l)))
    ∙ marked_met (marks_at ms (i / 64)) (marks_at os (i / 64)) (i % 64))

none_met : (ms os : List Marks) → min (length ms) (length os) ≡ 0 → met_each ms os ≡ []
none_met [] os h = refl
none_met (m ∷ ms) [] h = refl
none_met (m ∷ ms) (o ∷ os) h = absurd (omega (arith, h))

-- `Met` says that the first `i` words of bits are the meet of two tables of local states, and the remaining words are still unchanged.
abbrev pub Met : (ms os : List Marks) → ℕ → (whole : List Marks) → Type 0
Met ms os i whole = take i ms ++ met_each (drop i ms) (drop i os) ≡ whole

append_none : (ms os : List Marks) → os ≡ [] → ms ++ os ≡ ms
append_none [] os e = e
append_none (m ∷ ms) os e = ap (λ ns. m ∷ ns) (append_none ms os e)

pub met_all : (ms os whole : List Marks) (i n : ℕ) → i ≡ n → n ≡ min (length ms) (length os) → Met ms os i whole → take n ms ≡ whole
met_all ms os whole i n d e k =
    let h : Met ms os n whole = let P : ℕ → Type 0 = λ m. Met ms os m whole in subst P d k in
    let none : min (length (drop n ms)) (length (drop n os)) ≡ 0 = omega (arith, length-drop n ms, length-drop n os, e) in
    sym (append_none (take n ms) (met_each (drop n ms) (drop n os)) (none_met (drop n ms) (drop n os) none)) ∙ h

-- ---- comparing two tables

abbrev CoverEach : List Marks → List Marks → Type 0
CoverEach ms os = (p : ℕ) → p < length ms → p < length os → Covers (marks_at ms p) (marks_at os p)

-- `LacksBelow` compares the first `n` words of bits of two tables. The word `w` collects the bits that are set in the second table but not
-- in the first: a bit that is 0 in `w` is such a bit in none of these words.
abbrev pub LacksBelow : List Marks → List Marks → (word : ℕ) → ℕ → Type 0
LacksBelow ms os w n = (i : ℕ) → bit_at w i ≡ 0 → (p : ℕ) → p < n → bit_at (missing (marks_at ms p) (marks_at os p)) i ≡ 0

pub lacks_more : (ms os : List Marks) (w n r : ℕ) → r ≡ missing (marks_at ms n) (marks_at os n) → LacksBelow ms os w n → LacksBelow ms os (bit_or w r) (n + 1)
lacks_more ms os w n r is h i none p under = elim (cases_eq p n) [
  | inl here ↦
      ap (λ (q : ℕ). bit_at (missing (marks_at ms q) (marks_at os q)) i) here
      ∙ ap (λ (v : ℕ). bit_at v i) (sym is)
      ∙ omega (arith, bit_at_or w r i, none)
  | inr apart ↦ h i (omega (arith, bit_at_or w r i, none)) p (omega (arith, under, apart))
]

-- A word collects the bits that are set in the second of two tables but not in the first. If this word
-- is zero after all words of the tables are compared, then the first table has all bits of the second.
pub lacks_none : (ms os : List Marks) (w n : ℕ) → w ≡ 0 → min (length ms) (length os) ≤ n → LacksBelow ms os w n → CoverEach ms os
lacks_none ms os w n none past h p below less i = h i (ap (λ (v : ℕ). bit_at v i) none ∙ bit_at-zero i) p (omega (arith, below, less, past))

pub cover_known : (t u : Table) (ms os : List Marks) → table_length t ≡ table_length u → ms ≡ t.marks.items → os ≡ u.marks.items → CoverEach ms os
    → true ≡ are_as_full (view_table t) (view_table u)
cover_known t u ms os same d e all =
    let each : CoverEach t.marks.items u.marks.items = subst (λ (ns : List Marks). CoverEach ns u.marks.items) d (subst (CoverEach ms) e all) in
    sym (
    ap (λ (n : ℕ). are_as_full (each_below n (known_at t.marks.items)) (view_table u)) same
    ∙ as_full_below (table_length u) (known_at t.marks.items) (known_at u.marks.items)
    (λ i below. covers_marked (marks_at t.marks.items (i / 64)) (marks_at u.marks.items (i / 64)) (i % 64) (each (i / 64) (omega (arith, below, same)) (omega (arith, below)))))

pub unequal_known : (t u : Table) → (table_length t ≡ table_length u → ⊥) → false ≡ are_as_full (view_table t) (view_table u)
unequal_known t u apart =
    sym (unequal (view_table t) (view_table u) (λ e. apart (sym (length-each_below (table_length t) (known_at t.marks.items)) ∙ e ∙ length-each_below (table_length u) (known_at u.marks.items))))

pub length_known : (t : Table) (n : ℕ) → n ≡ table_length t → length (view_table t) ≡ n
length_known t n e = length-each_below (table_length t) (known_at t.marks.items) ∙ sym e

-- ---- emptied locals

-- Returns the new flow state of a local: empty if the flag is true and the local is not lent, otherwise the old state.
abbrev emptied_if : Bool → Fullness → Fullness
emptied_if true a = if is_locked a then a else Vacant
emptied_if false a = a

reported_emptied : (x y z : ℕ) → x < 2 → y < 2 → z < 2 → reported (((x + min (min x y) z) % 2) == 1) (y == 1) ≡ emptied_if (z == 1) (reported (x == 1) (y == 1))
reported_emptied zero zero zero a b c = refl
reported_emptied zero zero (suc zero) a b c = refl
reported_emptied zero (suc zero) zero a b c = refl
reported_emptied zero (suc zero) (suc zero) a b c = refl
reported_emptied (suc zero) zero zero a b c = refl
reported_emptied (suc zero) zero (suc zero) a b c = refl
reported_emptied (suc zero) (suc zero) zero a b c = refl
reported_emptied (suc zero) (suc zero) (suc zero) a b c = refl
reported_emptied (suc (suc x)) y z a b c = absurd (omega (arith, a))
reported_emptied x (suc (suc y)) z a b c = absurd (omega (arith, b))
reported_emptied x y (suc (suc z)) a b c = absurd (omega (arith, c))

marked_emptied : (m : Marks) (w i : ℕ) → marked (emptied_marks m w) i ≡ emptied_if (has_bit w i) (marked m i)
marked_emptied m w i =
    let both = bit_at_and (bit_and m.held m.free) w i ∙ ap (λ (x : ℕ). min x (bit_at w i)) (bit_at_and m.held m.free i) in
    ap (λ (x : ℕ). reported (x == 1) (has_bit m.free i)) (bit_at_xor m.held (bit_and (bit_and m.held m.free) w) i ∙ ap (λ (x : ℕ). (bit_at m.held i + x) % 2) both)
    ∙ reported_emptied (bit_at m.held i) (bit_at m.free i) (bit_at w i) (bit_at-lt m.held i) (bit_at-lt m.free i) (bit_at-lt w i)

none_marked : (i : ℕ) → marked no_marks i ≡ Vacant
none_marked i = ap (λ (b : ℕ). reported (b == 1) (b == 1)) (bit_at-zero i)

still_vacant : (b : Bool) (a : Fullness) → a ≡ Vacant → a ≡ emptied_if b a
still_vacant true a e = e ∙ ap (emptied_if true) (sym e)
still_vacant false a e = refl

marks_emptied_at : (ms : List Marks) (ws : List ℕ) (p i : ℕ) → marked (marks_at (with_words emptied_marks ms ws) p) i ≡ emptied_if (has_bit (get_or ws p 0) i) (marked (marks_at ms p) i)
marks_emptied_at [] ws p i = still_vacant (has_bit (get_or ws p 0) i) (marked no_marks i) (none_marked i)
marks_emptied_at (m ∷ ms) [] p i = sym (ap (λ (b : ℕ). emptied_if (b == 1) (marked (marks_at (m ∷ ms) p) i)) (bit_at-zero i))
marks_emptied_at (m ∷ ms) (w ∷ ws) zero i = marked_emptied m w i
marks_emptied_at (m ∷ ms) (w ∷ ws) (suc p) i = marks_emptied_at ms ws p i

lent_stays : (a : Fullness) → is_locked a ≡ true → emptied_if true a ≡ a
lent_stays a e = ap (λ (b : Bool). if b then a else Vacant) e

others_empty : (a : Fullness) → is_locked a ≡ false → emptied_if true a ≡ Vacant
others_empty a e = ap (λ (b : Bool). if b then a else Vacant) e

module _ (c n : ℕ) (f : ℕ → Fullness) where
  abbrev one_less : ℕ → Fullness
  one_less i = emptied_if (i == n) (f i)

  abbrev all_known : List Fullness
  all_known = each_below c f

  at_number : (i : ℕ) → i < c → i ≡ n → (b : Bool) → is_locked (get_or all_known n Vacant) ≡ b → is_locked (f i) ≡ b
  at_number i below e b h = ap is_locked (sym (get_or-each_below c i f Vacant below) ∙ ap (λ (j : ℕ). get_or all_known j Vacant) e) ∙ h

  other_number : (i : ℕ) → i ≢ n → one_less i ≡ f i
  other_number i apart = ap (λ (b : Bool). emptied_if b (f i)) (eqb_other i n (λ e. apart (sym e)))

  same_number : (i : ℕ) → i ≡ n → one_less i ≡ emptied_if true (f i)
  same_number i e = ap (λ (b : Bool). emptied_if b (f i)) (ap (λ (j : ℕ). i == j) (sym e) ∙ eqb_itself i)

  one_empty : (b : Bool) → is_locked (get_or all_known n Vacant) ≡ b → (if b then Reached all_known else Reached (set all_known n Vacant)) ≡ Reached (each_below c one_less)
  one_empty true h = ap Reached (same_each c f one_less (λ i below. elim (cases_eq i n) [
    | inl e ↦ sym (same_number i e ∙ lent_stays (f i) (at_number i below e true h))
    | inr apart ↦ sym (other_number i apart)
  ]))
  one_empty false h = sym (ap Reached (set_each c f one_less n Vacant (λ i below. other_number i) (λ below. same_number n refl ∙ others_empty (f n) (at_number n below refl false h))))

  one_emptied : emptied (n ∷ []) (Reached all_known) ≡ Reached (each_below c one_less)
  one_emptied = ap (λ (b : Bool). if b then Reached all_known else Reached (set all_known n Vacant)) {x = is_locked (get_or all_known n Vacant)} refl ∙ one_empty (is_locked (get_or all_known n Vacant)) refl

emptied_twice : (a b : Bool) (x : Fullness) → emptied_if b (emptied_if a x) ≡ emptied_if (a || b) x
emptied_twice true true Vacant = refl
emptied_twice true true Locked = refl
emptied_twice true true Full = refl
emptied_twice true false x = refl
emptied_twice false b x = refl

-- Emptying the locals one by one has the same result as emptying them all at once.
emptied_below : (ns : List ℕ) (c : ℕ) (f : ℕ → Fullness) → emptied ns (Reached (each_below c f)) ≡ Reached (each_below c (λ i. emptied_if (is_among i ns) (f i)))
emptied_below [] c f = refl
emptied_below (n ∷ ns) c f =
    ap (emptied ns) (one_emptied c n f)
    ∙ emptied_below ns c (one_less c n f)
    ∙ ap Reached (same_each c (λ i. emptied_if (is_among i ns) (one_less c n f i)) (λ i. emptied_if (is_among i (n ∷ ns)) (f i)) (λ i below. emptied_twice (i == n) (is_among i ns) (f i)))

pub emptied_known : (t : Table) (ws ns : List ℕ) (ms : List Marks) → ms ≡ with_words emptied_marks t.marks.items ws → Stand ws ns
    → Reached (each_below (min t.count (64 * length ms)) (known_at ms)) ≡ emptied ns (Reached (view_table t))
emptied_known t ws ns ms are stands =
    let own = t.marks.items in
    ap (λ (os : List Marks). Reached (each_below (min t.count (64 * length os)) (known_at os))) are
    ∙ ap (λ (l : ℕ). Reached (each_below (min t.count (64 * l)) (known_at (with_words emptied_marks own ws)))) (length-with_words emptied_marks own ws)
    ∙ ap Reached (same_each (table_length t) (known_at (with_words emptied_marks own ws)) (λ i. emptied_if (is_among i ns) (known_at own i))
    (λ i below. marks_emptied_at own ws (i / 64) (i % 64) ∙ ap (λ (b : Bool). emptied_if b (known_at own i)) (stands i)))
    ∙ sym (emptied_below ns (table_length t) (known_at own))
