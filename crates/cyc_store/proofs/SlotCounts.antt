-- This file computes the number of pages that a size class of unique blocks needs, by counting the slots of the class.
use Rattle.std.proofs.Common.{◌≡◌, ℕ, zero, suc, ◌+◌, ◌-◌, ◌*◌, ◌/◌, ◌^◌, ◌<◌, ◌≤◌, max, List, [], ◌∷◌, length, None, Some, refl, sym, ap, subst, ◌∙◌, inl, inr, arith}
use Rattle.std.specs.Prelude.{slice_index, set}
use Rattle.std.proofs.Math.Nat.{mul-le-mul_right, suc-mul, div-mul-le_self, mul-div_cancel, max-eq_left, max-eq_right}
use Rattle.std.proofs.lemmas.Bool.{cases_eq, cases_lt}
use Rattle.std.proofs.lemmas.List.{set-get_or}
use Rattle.cyc_words.specs.Demand.{greatest_class, class_of, blocks_in_page, pages_for, total, demand_of}
use Rattle.cyc_words.proofs.Numbers.{when_equal}
use Rattle.cyc_words.proofs.Options.{same_from_some}
use Rattle.cyc_store.specs.State.{lookup, without, AreDistinct, Block, address_of, live_in, raised}
use Rattle.cyc_store.proofs.LookupLemmas.{when_other, lookup-here, lookup-there, lookup-none}
use Rattle.cyc_store.proofs.CountLemmas.{blocks-some, live-here, live-there}

-- the size class of a block whose size is a power of two is the exponent of this power
pub class-power : (class : ℕ) → class ≤ greatest_class → class_of (2 ^ class) ≡ class
class-power zero bound = refl
class-power (suc zero) bound = refl
class-power (suc (suc zero)) bound = refl
class-power (suc (suc (suc zero))) bound = refl
class-power (suc (suc (suc (suc zero)))) bound = refl
class-power (suc (suc (suc (suc (suc zero))))) bound = refl
class-power (suc (suc (suc (suc (suc (suc zero)))))) bound = refl
class-power (suc (suc (suc (suc (suc (suc (suc zero))))))) bound = refl
class-power (suc (suc (suc (suc (suc (suc (suc (suc zero)))))))) bound = refl
class-power (suc (suc (suc (suc (suc (suc (suc (suc (suc zero))))))))) bound = refl
class-power (suc (suc (suc (suc (suc (suc (suc (suc (suc (suc zero)))))))))) bound = refl
class-power (suc (suc (suc (suc (suc (suc (suc (suc (suc (suc (suc class))))))))))) bound = absurd (omega (arith, bound))

-- If n blocks of a size class fit into a number of pages, then the class needs at most this number of pages.
pub pages-within : (class n pages : ℕ) → class ≤ greatest_class → n ≤ pages * blocks_in_page class → pages_for class n ≤ pages
pages-within class n pages bound few = below (blocks_in_page class) (blocks-some class bound) few
  where
    below : (k : ℕ) → 0 < k → n ≤ pages * k → (n + (k - 1)) / k ≤ pages
    below k some room = elim (cases_lt pages ((n + (k - 1)) / k)) [
      | inl more ↦
          let most : suc pages * k ≤ (n + (k - 1)) / k * k = mul-le-mul_right k (omega (arith, more)) in
          let next : suc pages * k ≡ pages * k + k = suc-mul pages k in
          let least : (n + (k - 1)) / k * k ≤ n + (k - 1) = div-mul-le_self (n + (k - 1)) k in
          absurd (omega (arith, most, next, least, room, some))
      | inr fits ↦ fits
    ]

-- If the blocks of a size class fill their pages exactly, then one block more needs one more page.
pub pages-past : (class n pages : ℕ) → class ≤ greatest_class → n ≡ pages * blocks_in_page class → pages_for class (suc n) ≡ suc pages
pages-past class n pages bound all = above (blocks_in_page class) (blocks-some class bound) all
  where
    above : (k : ℕ) → 0 < k → n ≡ pages * k → (suc n + (k - 1)) / k ≡ suc pages
    above k some is =
        let next : suc pages * k ≡ pages * k + k = suc-mul pages k in
        let whole : suc n + (k - 1) ≡ suc pages * k = omega (arith, is, next, some) in
        ap (λ x. x / k) whole ∙ mul-div_cancel (suc pages) some

-- If a size class has an empty slot, then one more block does not raise the number of pages of the class.
pub raised-fits : (classes : List ℕ) (class n rest : ℕ) → class ≤ greatest_class → suc n + rest ≡ slice_index classes class * blocks_in_page class
    → raised classes class (suc n) ≡ classes
raised-fits classes class n rest bound count =
    let few : pages_for class (suc n) ≤ slice_index classes class = pages-within class (suc n) (slice_index classes class) bound (least (suc n) rest _ count) in
    ap (λ m. set classes class m) (max-eq_left few) ∙ set-get_or classes class 0
  where
    least : (m r p : ℕ) → m + r ≡ p → m ≤ p
    least m r p e = omega (arith, e)

-- If a size class has no empty slot, then one more block raises the number of pages of the class by one.
pub raised-past : (classes : List ℕ) (class n : ℕ) → class ≤ greatest_class → n ≡ slice_index classes class * blocks_in_page class
    → raised classes class (suc n) ≡ set classes class (suc (slice_index classes class))
raised-past classes class n bound all =
    let next : pages_for class (suc n) ≡ suc (slice_index classes class) = pages-past class n (slice_index classes class) bound all in
    ap (λ m. set classes class m) (ap (λ m. max (slice_index classes class) m) next ∙ max-eq_right (least (slice_index classes class)))
  where
    least : (m : ℕ) → m ≤ suc m
    least m = omega arith

total-set : (classes : List ℕ) (class : ℕ) → class < length classes → total (set classes class (suc (slice_index classes class))) ≡ suc (total classes)
total-set [] class below = absurd (omega (arith, below))
total-set (n ∷ classes) zero below = omega arith
total-set (n ∷ classes) (suc class) below =
    let rest : total (set classes class (suc (slice_index classes class))) ≡ suc (total classes) = total-set classes class (omega (arith, below)) in
    omega (arith, rest)

pub demand-set : (regions : List (List ℕ)) (classes : List ℕ) (class : ℕ) → class < length classes
    → demand_of regions (set classes class (suc (slice_index classes class))) ≡ suc (demand_of regions classes)
demand-set [] classes class below = total-set classes class below
demand-set (sizes ∷ regions) classes class below =
    let rest : demand_of regions (set classes class (suc (slice_index classes class))) ≡ suc (demand_of regions classes) = demand-set regions classes class below in
    omega (arith, rest)

-- ---- removing a block

without-missing : (bs : List Block) (a : ℕ) → lookup address_of bs a ≡ None → without address_of bs a ≡ bs
without-missing [] a none = refl
without-missing (b ∷ bs) a none =
    let (other, rest) = lookup-none address_of b bs a none in
    when_other b.address a (without address_of bs a) (b ∷ without address_of bs a) other ∙ ap (λ l. b ∷ l) (without-missing bs a rest)

pub live_in-without_same : (c : ℕ) (bs : List Block) (a : ℕ) (b : Block) → AreDistinct address_of bs → lookup address_of bs a ≡ Some b → class_of b.size ≡ c
    → suc (live_in c (without address_of bs a)) ≡ live_in c bs
live_in-without_same c [] a b distinct there is = absurd (let e : None ≡ Some b = there in cc)
live_in-without_same c (x ∷ bs) a b distinct there is = elim (cases_eq x.address a) [
  | inl same ↦
      let found : x ≡ b = same_from_some (sym (lookup-here address_of x bs a same) ∙ there) in
      let none : lookup address_of bs a ≡ None = subst (λ n. lookup address_of bs n ≡ None) same distinct.0 in
      ap (λ l. suc (live_in c l)) (when_equal x.address a (without address_of bs a) (x ∷ without address_of bs a) same ∙ without-missing bs a none)
      ∙ sym (live-here c x bs (ap (λ (y : Block). class_of y.size) found ∙ is))
  | inr other ↦
      let rest : suc (live_in c (without address_of bs a)) ≡ live_in c bs = live_in-without_same c bs a b distinct.1 (sym (lookup-there address_of x bs a other) ∙ there) is in
      ap (λ l. suc (live_in c l)) (when_other x.address a (without address_of bs a) (x ∷ without address_of bs a) other)
      ∙ elim (cases_eq (class_of x.size) c) [
        | inl here ↦ ap suc (live-here c x (without address_of bs a) here) ∙ (ap suc rest ∙ sym (live-here c x bs here))
        | inr away ↦ ap suc (live-there c x (without address_of bs a) away) ∙ (rest ∙ sym (live-there c x bs away))
      ]
]

pub live_in-without_other : (c : ℕ) (bs : List Block) (a : ℕ) (b : Block) → AreDistinct address_of bs → lookup address_of bs a ≡ Some b → (class_of b.size ≡ c → ⊥)
    → live_in c (without address_of bs a) ≡ live_in c bs
live_in-without_other c [] a b distinct there is = absurd (let e : None ≡ Some b = there in cc)
live_in-without_other c (x ∷ bs) a b distinct there is = elim (cases_eq x.address a) [
  | inl same ↦
      let found : x ≡ b = same_from_some (sym (lookup-here address_of x bs a same) ∙ there) in
      let none : lookup address_of bs a ≡ None = subst (λ n. lookup address_of bs n ≡ None) same distinct.0 in
      ap (live_in c) (when_equal x.address a (without address_of bs a) (x ∷ without address_of bs a) same ∙ without-missing bs a none)
      ∙ sym (live-there c x bs (λ e. is (sym (ap (λ (y : Block). class_of y.size) found) ∙ e)))
  | inr other ↦
      let rest : live_in c (without address_of bs a) ≡ live_in c bs = live_in-without_other c bs a b distinct.1 (sym (lookup-there address_of x bs a other) ∙ there) is in
      ap (live_in c) (when_other x.address a (without address_of bs a) (x ∷ without address_of bs a) other)
      ∙ elim (cases_eq (class_of x.size) c) [
        | inl here ↦ live-here c x (without address_of bs a) here ∙ (ap suc rest ∙ sym (live-here c x bs here))
        | inr away ↦ live-there c x (without address_of bs a) away ∙ (rest ∙ sym (live-there c x bs away))
      ]
]
