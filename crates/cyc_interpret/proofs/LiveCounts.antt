-- How many unique objects of a class are live, as objects are made, freed and written.
use Rattle.std.proofs.Common.{◌≡◌, ℕ, zero, suc, ◌+◌, ◌≤◌, Bool, true, false, List, [], ◌∷◌, ◌++◌, length, set, Some, None, refl, ap, sym, ◌∙◌, arith}
use Rattle.std.specs.Prelude.{◌==◌, ◌&&◌, if◌then◌else◌, slice_get}
use Rattle.cyc_words.specs.Demand.{class_of}
use Rattle.cyc_meaning.specs.Values.{Cell, block_size}
use Rattle.cyc_meaning.specs.State.{Owner, InRegion, Unique, Object}
use Rattle.cyc_meaning.specs.Objects.{is_live_in, live_in}

-- an object as a number of those that are live
abbrev pub one : Bool → ℕ
one b = if b then 1 else 0

abbrev pub counts_in : (class : ℕ) → Object → ℕ
counts_in class x = one (is_live_in class x.owner x.cells)

shifts : (b : Bool) (m n k : ℕ) → m ≡ n + k → (if b then suc m else m) ≡ (if b then suc n else n) + k
shifts true m n k e = omega (arith, e)
shifts false m n k e = e

counted_alone : (b : Bool) → (if b then 1 else 0) ≡ 0 + one b
counted_alone true = omega arith
counted_alone false = omega arith

-- one object more
pub live-more : (class : ℕ) (xs : List Object) (y : Object) → live_in class (xs ++ y ∷ []) ≡ live_in class xs + counts_in class y
live-more class [] y = counted_alone (is_live_in class y.owner y.cells)
live-more class (x ∷ xs) y = shifts (is_live_in class x.owner x.cells) (live_in class (xs ++ y ∷ [])) (live_in class xs) (counts_in class y) (live-more class xs y)

keeps_counts : (b : Bool) (m n j k : ℕ) → m + j ≡ n + k → (if b then suc m else m) + j ≡ (if b then suc n else n) + k
keeps_counts true m n j k e = omega (arith, e)
keeps_counts false m n j k e = e

trades : (b c : Bool) (n : ℕ) → (if c then suc n else n) + one b ≡ (if b then suc n else n) + one c
trades true true n = refl
trades true false n = omega arith
trades false true n = omega arith
trades false false n = refl

-- one object changed
pub live-set : (class : ℕ) (xs : List Object) (o : ℕ) (x y : Object) → slice_get xs o ≡ Some x → live_in class (set xs o y) + counts_in class x ≡ live_in class xs + counts_in class y
live-set class [] o x y there = absurd (let e : None ≡ Some x = there in cc)
live-set class (a ∷ xs) zero x y there =
    let e : Some a ≡ Some x = there in
    let same : a ≡ x = cc in
    trades (is_live_in class x.owner x.cells) (is_live_in class y.owner y.cells) (live_in class xs)
    ∙ ap (λ (z : Object). (if is_live_in class z.owner z.cells then suc (live_in class xs) else live_in class xs) + counts_in class y) (sym same)
live-set class (a ∷ xs) (suc o) x y there = keeps_counts (is_live_in class a.owner a.cells) (live_in class (set xs o y)) (live_in class xs) (counts_in class x) (counts_in class y) (live-set class xs o x y there)

few : (b : Bool) (m n : ℕ) → m ≤ n → (if b then suc m else m) ≤ suc n
few true m n e = omega (arith, e)
few false m n e = omega (arith, e)

pub live-few : (class : ℕ) (xs : List Object) → live_in class xs ≤ length xs
live-few class [] = omega arith
live-few class (x ∷ xs) = few (is_live_in class x.owner x.cells) (live_in class xs) (length xs) (live-few class xs)

-- what a unique object counts, and one in a region
pub counts-region : (class region : ℕ) (cells : List Cell) → counts_in class (record { owner = InRegion region; cells = cells }) ≡ 0
counts-region class region cells = refl

pub counts-freed : (class : ℕ) (cells : List Cell) → counts_in class (record { owner = Unique false; cells = cells }) ≡ 0
counts-freed class cells = refl

counted : (b : Bool) → one (true && b) ≡ one b
counted true = refl
counted false = refl

pub counts-unique : (class : ℕ) (cells : List Cell) → counts_in class (record { owner = Unique true; cells = cells }) ≡ one (class_of (block_size cells) == class)
counts-unique class cells = counted (class_of (block_size cells) == class)

-- an object of the same owner and size counts the same
pub counts-same : (class : ℕ) (owner : Owner) (cells others : List Cell) → block_size cells ≡ block_size others
    → counts_in class (record { owner = owner; cells = cells }) ≡ counts_in class (record { owner = owner; cells = others })
counts-same class (InRegion region) cells others same = refl
counts-same class (Unique live) cells others same = ap (λ n. one (live && class_of n == class)) same
