-- This file is about counts of blocks, the pages of size classes, and the number of pages that a store needs.
use Rattle.std.proofs.Common.{◌≡◌, ℕ, zero, suc, ◌+◌, ◌-◌, ◌*◌, ◌/◌, ◌^◌, ◌<◌, ◌≤◌, max, List, [], ◌∷◌, ◌++◌, length, refl, sym, ap, subst, ◌∙◌, inl, inr, arith, get_or-set_same, get_or-set_other, length-set, zero-add}
use Rattle.std.specs.Prelude.{nat_le, slice_index}
use Rattle.std.proofs.Math.Nat.{div-mul-le_self, pow-le-pow_right, le-max_left, le-max_right}
use Rattle.std.proofs.lemmas.Nat.{le-div, pow_pos}
use Rattle.std.proofs.lemmas.Bool.{cases_eq, cond_both, cond-true, cond-false, leb-true, le-leb, lt-leb}
use Rattle.cyc_words.specs.Demand.{page_words, greatest_class, class_from, class_of, blocks_in_page, pages_for, region_pages, demand_of}
use Rattle.cyc_words.proofs.Numbers.{when_equal}
use Rattle.cyc_store.specs.State.{Block, Sort, Home, empty_home, sizes_of, sizes_in, live_in, raised}
use Rattle.cyc_store.specs.Soundness.{AreEnough}
use Rattle.cyc_store.proofs.LookupLemmas.{when_other, IsPart, is_empty, is_left, is_kept}

-- ---- classes

class_from-bound : (left class size : ℕ) → class_from left class size ≤ left + class
class_from-bound zero class size = omega arith
class_from-bound (suc left) class size =
    let rest : class_from left (suc class) size ≤ left + suc class = class_from-bound left (suc class) size in
    cond_both (nat_le size (2 ^ class)) class (class_from left (suc class) size) (λ n. n ≤ suc left + class) (λ _. omega arith) (λ _. omega (arith, rest))

pub class_of-bound : (size : ℕ) → class_of size ≤ greatest_class
class_of-bound size = let bound : class_from 10 0 size ≤ 10 + 0 = class_from-bound 10 0 size in bound

class_from-holds : (left class size : ℕ) → size ≤ 2 ^ (left + class) → size ≤ 2 ^ class_from left class size
class_from-holds zero class size fits = subst (λ n. size ≤ 2 ^ n) (zero-add class) fits
class_from-holds (suc left) class size fits = cond_both (nat_le size (2 ^ class)) class (class_from left (suc class) size) (λ n. size ≤ 2 ^ n)
    (λ e. leb-true size (2 ^ class) e)
    (λ _. class_from-holds left (suc class) size (subst (λ n. size ≤ 2 ^ n) (shift left class) fits))
  where
    shift : (m n : ℕ) → suc m + n ≡ m + suc n
    shift m n = omega arith

-- A block of a size class is large enough for each request for which the class is chosen.
pub class_of-holds : (size : ℕ) → size ≤ page_words → size ≤ 2 ^ class_of size
class_of-holds size fits = class_from-holds 10 0 size fits

-- A page has room for at least one block of each size class.
pub blocks-some : (class : ℕ) → class ≤ greatest_class → 0 < blocks_in_page class
blocks-some class bound =
    let fits : 2 ^ class ≤ 2 ^ 10 = pow-le-pow_right (omega arith) bound in
    let one : 1 ≤ page_words / 2 ^ class = le-div 1 page_words (2 ^ class) (pow_pos class) (omega (arith, fits)) in
    omega (arith, one)

pub pages_for-more : (class m n : ℕ) → class ≤ greatest_class → m ≤ n → pages_for class m ≤ pages_for class n
pages_for-more class m n bound more = below (blocks_in_page class) (blocks-some class bound)
  where
    below : (k : ℕ) → 0 < k → (m + (k - 1)) / k ≤ (n + (k - 1)) / k
    below k some =
        let least : (m + (k - 1)) / k * k ≤ m + (k - 1) = div-mul-le_self (m + (k - 1)) k in
        le-div ((m + (k - 1)) / k) (n + (k - 1)) k some (omega (arith, least, more))

-- ---- the number of blocks of a class

pub live-here : (c : ℕ) (b : Block) (bs : List Block) → class_of b.size ≡ c → live_in c (b ∷ bs) ≡ suc (live_in c bs)
live-here c b bs same = when_equal (class_of b.size) c (suc (live_in c bs)) (live_in c bs) same

pub live-there : (c : ℕ) (b : Block) (bs : List Block) → (class_of b.size ≡ c → ⊥) → live_in c (b ∷ bs) ≡ live_in c bs
live-there c b bs other = when_other (class_of b.size) c (suc (live_in c bs)) (live_in c bs) other

pub live_in-append_same : (c : ℕ) (bs : List Block) (b : Block) → class_of b.size ≡ c → live_in c (bs ++ b ∷ []) ≡ suc (live_in c bs)
live_in-append_same c [] b same = live-here c b [] same
live_in-append_same c (a ∷ bs) b same = elim (cases_eq (class_of a.size) c) [
  | inl here ↦ live-here c a (bs ++ b ∷ []) here ∙ (ap suc (live_in-append_same c bs b same) ∙ ap suc (sym (live-here c a bs here)))
  | inr there ↦ live-there c a (bs ++ b ∷ []) there ∙ (live_in-append_same c bs b same ∙ ap suc (sym (live-there c a bs there)))
]

pub live_in-append_other : (c : ℕ) (bs : List Block) (b : Block) → (class_of b.size ≡ c → ⊥) → live_in c (bs ++ b ∷ []) ≡ live_in c bs
live_in-append_other c [] b other = live-there c b [] other
live_in-append_other c (a ∷ bs) b other = elim (cases_eq (class_of a.size) c) [
  | inl here ↦ live-here c a (bs ++ b ∷ []) here ∙ (ap suc (live_in-append_other c bs b other) ∙ sym (live-here c a bs here))
  | inr there ↦ live-there c a (bs ++ b ∷ []) there ∙ (live_in-append_other c bs b other ∙ sym (live-there c a bs there))
]

pub live_in-part : (c : ℕ) {xs ys : List Block} → IsPart xs ys → live_in c xs ≤ live_in c ys
live_in-part c is_empty = omega arith
live_in-part c (is_left {x = b} {xs} {ys} part) =
    let rest : live_in c xs ≤ live_in c ys = live_in-part c part in
    elim (cases_eq (class_of b.size) c) [
      | inl here ↦ let e : live_in c (b ∷ ys) ≡ suc (live_in c ys) = live-here c b ys here in omega (arith, e, rest)
      | inr there ↦ let e : live_in c (b ∷ ys) ≡ live_in c ys = live-there c b ys there in omega (arith, e, rest)
    ]
live_in-part c (is_kept {x = b} {xs} {ys} part) =
    let rest : live_in c xs ≤ live_in c ys = live_in-part c part in
    elim (cases_eq (class_of b.size) c) [
      | inl here ↦
          let e : live_in c (b ∷ ys) ≡ suc (live_in c ys) = live-here c b ys here in
          let f : live_in c (b ∷ xs) ≡ suc (live_in c xs) = live-here c b xs here in
          omega (arith, e, f, rest)
      | inr there ↦
          let e : live_in c (b ∷ ys) ≡ live_in c ys = live-there c b ys there in
          let f : live_in c (b ∷ xs) ≡ live_in c xs = live-there c b xs there in
          omega (arith, e, f, rest)
    ]

-- ---- the pages of classes

pub raised-same : (classes : List ℕ) (class live : ℕ) → class < length classes
    → slice_index (raised classes class live) class ≡ max (slice_index classes class) (pages_for class live)
raised-same classes class live below = get_or-set_same classes class (max (slice_index classes class) (pages_for class live)) 0 below

pub raised-other : (classes : List ℕ) (class live c : ℕ) → (c ≡ class → ⊥) → slice_index (raised classes class live) c ≡ slice_index classes c
raised-other classes class live c other = get_or-set_other classes class c (max (slice_index classes class) (pages_for class live)) 0 other

pub raised-length : (classes : List ℕ) (class live : ℕ) → length (raised classes class live) ≡ length classes
raised-length classes class live = length-set classes class (max (slice_index classes class) (pages_for class live))

-- Giving one size class more pages does not reduce the number of pages of any size class.
pub raised-more : (classes : List ℕ) (class live c : ℕ) → class < length classes → slice_index classes c ≤ slice_index (raised classes class live) c
raised-more classes class live c below = elim (cases_eq c class) [
  | inl same ↦
      subst (λ n. slice_index classes n ≤ slice_index (raised classes class live) n) (sym same)
      (subst (λ n. slice_index classes class ≤ n) (sym (raised-same classes class live below)) (le-max_left (slice_index classes class) (pages_for class live)))
  | inr other ↦ let e : slice_index (raised classes class live) c ≡ slice_index classes c = raised-other classes class live c other in omega (arith, e)
]

pub AreEnough-made : (unique : List Block) (classes : List ℕ) (b : Block) → length classes ≡ 11 → AreEnough unique classes
    → AreEnough (unique ++ b ∷ []) (raised classes (class_of b.size) (suc (live_in (class_of b.size) unique)))
AreEnough-made unique classes b eleven enough c bound = elim (cases_eq c (class_of b.size)) [
  | inl same ↦ subst
      (λ n. pages_for n (live_in n (unique ++ b ∷ [])) ≤ slice_index (raised classes (class_of b.size) (suc (live_in (class_of b.size) unique))) n)
      (sym same)
      (subst (λ n. pages_for (class_of b.size) (live_in (class_of b.size) (unique ++ b ∷ [])) ≤ n) (sym (raised-same classes (class_of b.size) (suc (live_in (class_of b.size) unique)) below))
      (subst (λ n. pages_for (class_of b.size) n ≤ max (slice_index classes (class_of b.size)) (pages_for (class_of b.size) (suc (live_in (class_of b.size) unique))))
      (sym (live_in-append_same (class_of b.size) unique b refl))
      (le-max_right (slice_index classes (class_of b.size)) (pages_for (class_of b.size) (suc (live_in (class_of b.size) unique))))))
  | inr other ↦
      let kept : pages_for c (live_in c unique) ≤ slice_index classes c = enough c bound in
      let count : pages_for c (live_in c (unique ++ b ∷ [])) ≡ pages_for c (live_in c unique) = ap (pages_for c) (live_in-append_other c unique b (λ e. other (sym e))) in
      subst (λ n. pages_for c (live_in c (unique ++ b ∷ [])) ≤ n) (sym (raised-other classes (class_of b.size) (suc (live_in (class_of b.size) unique)) c other))
      (subst (λ n. n ≤ slice_index classes c) (sym count) kept)
]
  where
    below : class_of b.size < length classes
    below = let bound : class_of b.size ≤ 10 = class_of-bound b.size in omega (arith, bound, eleven)

pub AreEnough-part : (unique fewer : List Block) (classes : List ℕ) → IsPart fewer unique → AreEnough unique classes → AreEnough fewer classes
AreEnough-part unique fewer classes part enough c bound =
    let kept : pages_for c (live_in c unique) ≤ slice_index classes c = enough c bound in
    let less : pages_for c (live_in c fewer) ≤ pages_for c (live_in c unique) = pages_for-more c (live_in c fewer) (live_in c unique) bound (live_in-part c part) in
    omega (arith, kept, less)

-- ---- demand

pub demand-part : {qs rs : List Home} → IsPart qs rs → (classes : List ℕ) → demand_of (sizes_in qs) classes ≤ demand_of (sizes_in rs) classes
demand-part is_empty classes = omega arith
demand-part (is_left {x = r} {xs = qs} {ys = rs} part) classes = let rest : demand_of (sizes_in qs) classes ≤ demand_of (sizes_in rs) classes = demand-part part classes in
    above (region_pages (sizes_of r.blocks)) (demand_of (sizes_in qs) classes) (demand_of (sizes_in rs) classes) rest
  where
    above : (p m n : ℕ) → m ≤ n → m ≤ p + n
    above p m n less = omega (arith, less)
demand-part (is_kept {x = r} {xs = qs} {ys = rs} part) classes = let rest : demand_of (sizes_in qs) classes ≤ demand_of (sizes_in rs) classes = demand-part part classes in
    both (region_pages (sizes_of r.blocks)) (demand_of (sizes_in qs) classes) (demand_of (sizes_in rs) classes) rest
  where
    both : (p m n : ℕ) → m ≤ n → p + m ≤ p + n
    both p m n less = omega (arith, less)

-- The list of all regions' block sizes, after a region without blocks is added, does not depend on the handle of the added region.
pub sizes-opened : (rs : List Home) (g h : ℕ) (sort : Sort) → sizes_in (rs ++ empty_home g sort ∷ []) ≡ sizes_in (rs ++ empty_home h sort ∷ [])
sizes-opened [] g h sort = refl
sizes-opened (r ∷ rs) g h sort = ap (λ l. sizes_of r.blocks ∷ l) (sizes-opened rs g h sort)

-- ---- the search for a class, from the least on

pub class_from-here : (left class size : ℕ) → 0 < left → size ≤ 2 ^ class → class_from left class size ≡ class
class_from-here zero class size some fits = absurd (omega (arith, some))
class_from-here (suc left) class size some fits = cond-true (nat_le size (2 ^ class)) class (class_from left (suc class) size) (le-leb size (2 ^ class) fits)

pub class_from-next : (left class less next size : ℕ) → left ≡ suc less → next ≡ suc class → 2 ^ class < size → class_from left class size ≡ class_from less next size
class_from-next left class less next size one_less one_more past =
    ap (λ n. class_from n class size) one_less
    ∙ (cond-false (nat_le size (2 ^ class)) class (class_from less (suc class) size) (lt-leb size (2 ^ class) past) ∙ ap (λ n. class_from less n size) (sym one_more))
