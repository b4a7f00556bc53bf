-- Lemmas about the costs of code positions in an inlined program. Each code position of an inlined program is made from one
-- instruction of the source program, so no cost is counted twice.
use Rattle.std.proofs.Common.{◌≡◌, ◌≢◌, ℕ, zero, suc, ◌+◌, ◌<◌, ◌≤◌, Bool, true, false, List, [], ◌∷◌, ◌++◌, length, map, get_or, Option, Some, None, slice_get, refl, sym, ap, subst, ◌∙◌, arith}
use Rattle.std.specs.Prelude.{◌==◌, ◌&&◌, sum_by, Contains, if◌then◌else◌}
use Rattle.std.specs.List.{AllByRecursion, range_with_len}
use Rattle.std.proofs.lemmas.Bool.{and_from, and_parts, eq-eqb, eqb-true}
use Rattle.std.proofs.lemmas.List.Sums.{sum_by-cons}
use Rattle.cyc_words.specs.Distinct.{IsDistinct}
use Rattle.cyc_words.proofs.Lists.{all_append}
use Rattle.cyc_words.proofs.Sums.{sum_by-plus}
use Rattle.cyc_plain.specs.declared.instruction.Instruction.{Instruction}
use Rattle.cyc_plain.specs.inside.Program.{Routine, Program, CodePlace, routine_at, places_from, places_of}
use Rattle.cyc_plain.specs.inside.Straight.{At, places_after}
use Rattle.cyc_plain.proofs.Straight.{following-distinct}
use Rattle.cyc_plain.proofs.Steps.{place_known}
use Rattle.cyc_inline.specs.declared.origin.Origin.{Origin}
use Rattle.cyc_inline.specs.inside.Opened.{origin_at, origins_of}

-- Lists the code positions of the inlined program that are made from a given source instruction; it
-- is decidable if two source instructions are equal.
module _ {P Q : Type 0} (same : P → P → Bool) (is : (p r : P) → same p r ≡ true → p ≡ r) (origin : Q → P) where
  abbrev pub made_of : List Q → P → List Q
  made_of [] p = []
  made_of (q ∷ qs) p = if same p (origin q) then q ∷ made_of qs p else made_of qs p

  own_sum : (price : Q → ℕ) (q : Q) (qs : List Q) (p : P) (b : Bool) → same p (origin q) ≡ b
      → sum_by price (if b then q ∷ made_of qs p else made_of qs p) ≡ (if b then price q else 0) + sum_by price (made_of qs p)
  own_sum price q qs p true e = sum_by-cons price q (made_of qs p)
  own_sum price q qs p false e = omega arith

  -- If a list has no duplicates and only one of its elements is charged a cost, the total over the list is that cost.
  none_there : (x : ℕ) (r : P) (ps : List P) → AllByRecursion (λ p. r ≢ p) ps → sum_by (λ (p : P). if same p r then x else 0) ps ≡ 0
  none_there x r [] apart = refl
  none_there x r (p ∷ ps) (first, rest) =
      let head = sum_by-cons (λ (y : P). if same y r then x else 0) p ps in
      let later = none_there x r ps rest in
      let zero_here : (if same p r then x else 0) ≡ 0 = go (same p r) refl in
      omega (arith, head, later, zero_here)
    where
      go : (b : Bool) → same p r ≡ b → (if b then x else 0) ≡ 0
      go true e = absurd (first (sym (is p r e)))
      go false e = refl

  once : (x : ℕ) (r : P) (ps : List P) → IsDistinct ps → sum_by (λ (p : P). if same p r then x else 0) ps ≤ x
  once x r [] distinct = omega arith
  once x r (p ∷ ps) (apart, distinct) =
      let head = sum_by-cons (λ (y : P). if same y r then x else 0) p ps in
      go head (once x r ps distinct) (same p r) refl
    where
      go : sum_by (λ (y : P). if same y r then x else 0) (p ∷ ps) ≡ (if same p r then x else 0) + sum_by (λ (y : P). if same y r then x else 0) ps
          → sum_by (λ (y : P). if same y r then x else 0) ps ≤ x → (b : Bool) → same p r ≡ b → sum_by (λ (y : P). if same y r then x else 0) (p ∷ ps) ≤ x
      go head later_once true e =
          let here : (if same p r then x else 0) ≡ x = ap (λ (b : Bool). if b then x else 0) e in
          let later = none_there x r ps (subst (λ (y : P). AllByRecursion (λ z. y ≢ z) ps) (is p r e) apart) in
          omega (arith, head, here, later)
      go head later false e =
          let here : (if same p r then x else 0) ≡ 0 = ap (λ (b : Bool). if b then x else 0) e in
          omega (arith, head, here, later)

  nothing : (ps : List P) (price : Q → ℕ) → sum_by (λ (p : P). sum_by price (made_of [] p)) ps ≡ 0
  nothing [] price = refl
  nothing (p ∷ ps) price = let a = sum_by-cons (λ (x : P). sum_by price (made_of [] x)) p ps in let r = nothing ps price in let z : sum_by price (made_of [] p) ≡ 0 = refl in omega (arith, a, r, z)

  -- The costs of all code positions made from distinct source instructions add up to at most the cost of the whole inlined program.
  pub parts_cheap : (price : Q → ℕ) (ps : List P) (qs : List Q) → IsDistinct ps → sum_by (λ (p : P). sum_by price (made_of qs p)) ps ≤ sum_by price qs
  parts_cheap price ps [] distinct = let n = nothing ps price in omega (arith, n)
  parts_cheap price ps (q ∷ qs) distinct =
      let split = sum_by-plus (λ (p : P). sum_by price (made_of (q ∷ qs) p)) (λ (p : P). if same p (origin q) then price q else 0) (λ (p : P). sum_by price (made_of qs p)) ps
      (λ p. own_sum price q qs p (same p (origin q)) refl) in
      let one = once (price q) (origin q) ps distinct in
      let rest = parts_cheap price ps qs distinct in
      let all = sum_by-cons price q qs in
      omega (arith, split, one, rest, all)

  -- Each code position of the inlined program is in the list of the positions made from its source instruction.
  pub made_has : (qs : List Q) (q : Q) (p : P) → same p (origin q) ≡ true → Contains qs q → Contains (made_of qs p) q
  made_has [] q p made (k, below, at) = absurd (omega (arith, below))
  made_has (x ∷ qs) q p made (zero, below, at) = (
    0,
    subst (λ (l : List Q). 0 < length l) (sym first) (omega arith),
    subst (λ (l : List Q). get_or l 0 q ≡ q) (sym first) at,
  )
    where
      first : made_of (x ∷ qs) p ≡ x ∷ made_of qs p
      first = ap (λ (b : Bool). if b then x ∷ made_of qs p else made_of qs p) (ap (λ (y : Q). same p (origin y)) at ∙ made)
  made_has (x ∷ qs) q p made (suc k, below, at) = go (same p (origin x)) (made_has qs q p made (k, (omega (arith, below)), at))
    where
      go : (b : Bool) → Contains (made_of qs p) q → Contains (if b then x ∷ made_of qs p else made_of qs p) q
      go true (n, less, there) = (suc n, omega (arith, less), there)
      go false there = there

-- ---- places

abbrev pub place_at : (function index : ℕ) → CodePlace
place_at function index = record { function = function; index = index }

abbrev same_place : CodePlace → CodePlace → Bool
same_place p q = p.function == q.function && p.index == q.index

pub same_is : (p q : CodePlace) → same_place p q ≡ true → p ≡ q
same_is p q same =
    let (function, index) = and_parts (p.function == q.function) (p.index == q.index) same in
    let e : p.function ≡ q.function = eqb-true p.function q.function function in
    let f : p.index ≡ q.index = eqb-true p.index q.index index in
    λ i. record { function = e i; index = f i }

is_same : (p q : CodePlace) → p ≡ q → same_place p q ≡ true
is_same p q e = and_from (p.function == q.function) (p.index == q.index) (eq-eqb p.function q.function (ap (λ (x : CodePlace). x.function) e)) (eq-eqb p.index q.index (ap (λ (x : CodePlace). x.index) e))

-- The list of the code positions of one function, and the list of those of all functions from a given function on.
one_function : (function index count : ℕ) → map (place_at function) (range_with_len index count) ≡ places_after function index count
one_function function index zero = refl
one_function function index (suc count) = ap (λ (places : List CodePlace). place_at function index ∷ places) (one_function function (index + 1) count)

own_function : (least function index count : ℕ) → least ≤ function → AllByRecursion (λ (p : CodePlace). least ≤ p.function) (places_after function index count)
own_function least function index zero later = tt
own_function least function index (suc count) later = (later, own_function least function (index + 1) count later)

later_functions : (least first : ℕ) (routines : List Routine) → least ≤ first → AllByRecursion (λ (p : CodePlace). least ≤ p.function) (places_from first routines)
later_functions least first [] later = tt
later_functions least first (r ∷ routines) later =
    all_append (λ (p : CodePlace). least ≤ p.function) (map (place_at first) (range_with_len 0 (length r.code))) (places_from (suc first) routines)
    (subst (AllByRecursion (λ (p : CodePlace). least ≤ p.function)) (sym (one_function first 0 (length r.code))) (own_function least first 0 (length r.code) later))
    (later_functions least (suc first) routines (omega (arith, later)))

none_later : (first index : ℕ) (places : List CodePlace) → AllByRecursion (λ (p : CodePlace). suc first ≤ p.function) places → AllByRecursion (λ (q : CodePlace). place_at first index ≢ q) places
none_later first index [] all = tt
none_later first index (p ∷ places) (later, all) = (
  (λ same. let e : first ≡ p.function = ap (λ (q : CodePlace). q.function) same in omega (arith, e, later)),
  none_later first index places all,
)

joined_distinct : (first index count : ℕ) (places : List CodePlace) → AllByRecursion (λ (p : CodePlace). suc first ≤ p.function) places → IsDistinct places → IsDistinct (places_after first index count ++ places)
joined_distinct first index zero places later distinct = distinct
joined_distinct first index (suc count) places later distinct = (
  all_append (λ (q : CodePlace). place_at first index ≢ q) (places_after first (index + 1) count) places (following-distinct first index (suc count)).0 (none_later first index places later),
  joined_distinct first (index + 1) count places later distinct,
)

places_distinct : (first : ℕ) (routines : List Routine) → IsDistinct (places_from first routines)
places_distinct first [] = tt
places_distinct first (r ∷ routines) =
    subst (λ (l : List CodePlace). IsDistinct (l ++ places_from (suc first) routines)) (sym (one_function first 0 (length r.code)))
    (joined_distinct first 0 (length r.code) (places_from (suc first) routines) (later_functions (suc first) (suc first) routines (omega arith)) (places_distinct (suc first) routines))

-- ---- the places with one origin

module _ (inlined : Program) (origins : List (List Origin)) where
  abbrev place_of_origin : Option Origin → CodePlace
  place_of_origin (Some origin) = place_at origin.function origin.index
  place_of_origin None = place_at 0 0

  abbrev origin_of : CodePlace → CodePlace
  origin_of q = place_of_origin (slice_get (origins_of origins q.function) q.index)

  abbrev pub own : CodePlace → List CodePlace
  own p = made_of same_place same_is origin_of (places_of inlined) p

  pub cheap : (program : Program) (price : CodePlace → ℕ) → sum_by (λ (p : CodePlace). sum_by price (own p)) (places_of program) ≤ sum_by price (places_of inlined)
  cheap program price = parts_cheap same_place same_is origin_of price (places_of program) (places_of inlined) (places_distinct 0 program.functions)

  pub own_has : (function index callee from : ℕ) (i : Instruction) → At (routine_at inlined function).code index i → slice_get (origins_of origins function) index ≡ Some (origin_at callee from)
      → Contains (own (place_at callee from)) (place_at function index)
  own_has function index callee from i at made =
      made_has same_place same_is origin_of (places_of inlined) (place_at function index) (place_at callee from)
      (is_same (place_at callee from) (origin_of (place_at function index)) (sym (ap place_of_origin made)))
      (place_known inlined (place_at function index) i at)
