-- This file proves that slots of unique blocks are disjoint, and determines the live words of a store with a layout.
use Rattle.std.proofs.Common.{◌≡◌, ℕ, ◌+◌, ◌*◌, ◌^◌, ◌<◌, ◌≤◌, true, List, [], ◌∷◌, Option, None, Some, refl, sym, ap, subst, ◌∙◌, inl, inr, arith}
use Rattle.std.proofs.lemmas.Bool.{cases_Bool}
use Rattle.std.proofs.lemmas.Nat.{pow_pos}
use Rattle.cyc_words.proofs.Numbers.{multiples_same}
use Rattle.cyc_words.proofs.Options.{none_or_some, never_none_and_some, same_from_some}
use Rattle.cyc_store.specs.State.{lookup, AreDistinct, Block, address_of, Uniques, handle_of, StoreState, homes, covers, Holder, holder_in, holder, block_in}
use Rattle.cyc_store.specs.Services.{IsApart}
use Rattle.cyc_store.specs.Soundness.{IsSound}
use Rattle.cyc_store.specs.declared.range.TheConstants.{STORE_BASE, PAGE_WORDS, UNIQUE}
use Rattle.cyc_store.proofs.LookupLemmas.{lookup-here, lookup-there, lookup-key}
use Rattle.cyc_store.proofs.HolderLemmas.{covers_from, or_else-cases, in-here, in-there, holder-named}
use Rattle.cyc_store.specs.Pages.{IsLaid}
use Rattle.cyc_store.proofs.PageLemmas.{covers_bounds, holder-laid}
use Rattle.cyc_store.specs.Slots.{place_of, Layout, slot_block, IsSlot, IsLiveSlot, IsCovered, IsLaidOut}

-- ---- arithmetic on slots

page-one : (base p q a b m n v w x : ℕ) → v ≡ 1024 * p + a → w ≡ 1024 * q + b → base + 4 * v ≤ x → x < base + 4 * v + 4 * m
    → base + 4 * w ≤ x → x < base + 4 * w + 4 * n → a + m ≤ 1024 → b + n ≤ 1024 → p ≡ q
page-one base p q a b m n v w x v_is w_is low high also_low also_high fits also_fits =
    omega (arith, v_is, w_is, low, high, also_low, also_high, fits, also_fits)

offset-below : (base p q a b m n v w x : ℕ) → p ≡ q → v ≡ 1024 * p + a → w ≡ 1024 * q + b → base + 4 * v ≤ x → x < base + 4 * w + 4 * n → m ≡ n → a < b + m
offset-below base p q a b m n v w x same v_is w_is low high sizes = omega (arith, same, v_is, w_is, low, high, sizes)

words-one : (p q a b v w : ℕ) → v ≡ 1024 * p + a → w ≡ 1024 * q + b → p ≡ q → a ≡ b → v ≡ w
words-one p q a b v w v_is w_is same also = omega (arith, v_is, w_is, same, also)

-- ---- two slots that share an address

module _ (owner : ℕ → Option ℕ) (class_at : ℕ → ℕ) where
  pub slots-one : (c d v w x : ℕ) → IsSlot owner class_at c v → IsSlot owner class_at d w → covers (slot_block c v) x ≡ true
      → covers (slot_block d w) x ≡ true → (c ≡ d) × (v ≡ w)
  slots-one c d v w x one other inside also =
      let (low, high) = covers_bounds (slot_block c v) x inside in
      let (also_low, also_high) = covers_bounds (slot_block d w) x also in
      let pages : one.page ≡ other.page =
      page-one STORE_BASE one.page other.page (one.number * 2 ^ c) (other.number * 2 ^ d) (2 ^ c) (2 ^ d) v w x one.at other.at low high also_low also_high one.fits other.fits in
      let classes : c ≡ d = sym one.same ∙ (ap class_at pages ∙ other.same) in
      let sizes : 2 ^ c ≡ 2 ^ d = ap (λ n. 2 ^ n) classes in
      let moved : other.number * 2 ^ d ≡ other.number * 2 ^ c = ap (λ z. other.number * z) (sym sizes) in
      let numbers : one.number ≡ other.number = multiples_same one.number other.number (2 ^ c)
      (subst (λ z. one.number * 2 ^ c < z + 2 ^ c) moved
      (offset-below STORE_BASE one.page other.page (one.number * 2 ^ c) (other.number * 2 ^ d) (2 ^ c) (2 ^ d) v w x pages one.at other.at low also_high sizes))
      (subst (λ z. z < one.number * 2 ^ c + 2 ^ c) moved
      (subst (λ z. other.number * 2 ^ d < one.number * 2 ^ c + z) (sym sizes)
      (offset-below STORE_BASE other.page one.page (other.number * 2 ^ d) (one.number * 2 ^ c) (2 ^ d) (2 ^ c) w v x (sym pages) other.at one.at also_low high (sym sizes)))) in
      (classes, words-one one.page other.page (one.number * 2 ^ c) (other.number * 2 ^ d) v w one.at other.at pages (ap (λ n. n * 2 ^ c) numbers ∙ sym moved))

-- ---- lookups of blocks

-- A block that is found by any of its addresses is found by its first address.
pub holder_in-lookup : (h : ℕ) (bs : List Block) (x : ℕ) (k : Holder) → AreDistinct address_of bs → holder_in h bs x ≡ Some k
    → lookup address_of bs k.block.address ≡ Some k.block
holder_in-lookup h [] x k distinct found = absurd (let e : None ≡ Some k = found in cc)
holder_in-lookup h (b ∷ bs) x k distinct found = elim (cases_Bool (covers b x)) [
  | inl inside ↦
      let is : record { handle = h; block = b } ≡ k = same_from_some (sym (in-here h x b bs inside) ∙ found) in
      subst (λ (z : Holder). lookup address_of (b ∷ bs) z.block.address ≡ Some z.block) is (lookup-here address_of b bs b.address refl)
  | inr not ↦
      let rest : lookup address_of bs k.block.address ≡ Some k.block = holder_in-lookup h bs x k distinct.1 (sym (in-there h x b bs not) ∙ found) in
      lookup-there address_of b bs k.block.address (λ e. never_none_and_some (subst (λ n. lookup address_of bs n ≡ None) e distinct.0) rest) ∙ rest
]

pub holder-unique : (s : StoreState) (x : ℕ) (k : Holder) → IsSound s → holder (homes s) x ≡ Some k → k.handle ≡ UNIQUE
    → lookup address_of s.unique k.block.address ≡ Some k.block
holder-unique s x k sound found is = elim (or_else-cases (holder_in UNIQUE s.unique x) (holder s.regions x) k found) [
  | inl here ↦ holder_in-lookup UNIQUE s.unique x k sound.uniques here
  | inr there ↦ absurd (holder-named s.regions x k there.1 (subst (λ n. lookup handle_of s.regions n ≡ None) (sym is) sound.regions.handles.0))
]

-- ---- live words

module _ (s : StoreState) (l : Layout) (laid : IsLaidOut s l) where
  -- A live block that contains an address of a slot fills the slot.
  slot-holder : (c w x : ℕ) (k : Holder) → IsSlot l.pages.owner l.class c w → covers (slot_block c w) x ≡ true → holder (homes s) x ≡ Some k
      → k.block ≡ slot_block c w
  slot-holder c w x k slot inside found =
      let (old, also) = holder-laid l.pages (homes s) x k laid.paged.laid found in
      let (low, high) = covers_bounds (slot_block c w) x inside in
      let (also_low, also_high) = covers_bounds k.block x also in
      let most : l.pages.filled old.page ≤ 1024 = laid.paged.filled old.page in
      let bound : old.lies.word + k.block.size ≤ l.pages.filled old.page = old.lies.before in
      let place : k.block.address ≡ STORE_BASE + 4 * (1024 * old.page) + 4 * old.lies.word = old.lies.at in
      let pages : slot.page ≡ old.page = page-same STORE_BASE slot.page old.page (slot.number * 2 ^ c) old.lies.word (2 ^ c) k.block.size w k.block.address x
      slot.at place low high also_low also_high slot.fits (omega (arith, bound, most)) in
      let unique : k.handle ≡ UNIQUE = same_from_some (sym old.owned ∙ (sym (ap l.pages.owner pages) ∙ slot.owned)) in
      let there : lookup address_of s.unique k.block.address ≡ Some k.block = holder-unique s x k laid.sound found unique in
      let live : IsLiveSlot l.pages.owner l.class k.block = laid.slots.live k.block.address k.block there in
      let (classes, words) = slots-one l.pages.owner l.class live.class c live.word w x live.slot slot (subst (λ b. covers b x ≡ true) live.is also) inside in
      live.is ∙ (ap (λ n. slot_block n live.word) classes ∙ ap (slot_block c) words)
    where
      page-same : (base p q a b m n v y x : ℕ) → v ≡ 1024 * p + a → y ≡ base + 4 * (1024 * q) + 4 * b → base + 4 * v ≤ x → x < base + 4 * v + 4 * m
          → y ≤ x → x < y + 4 * n → a + m ≤ 1024 → b + n ≤ 1024 → p ≡ q
      page-same base p q a b m n v y x v_is y_is low high also_low also_high fits also_fits =
          omega (arith, v_is, y_is, low, high, also_low, also_high, fits, also_fits)

  -- If no block begins at the first word of a slot, then the slot contains no block.
  pub slot-apart : (c w : ℕ) → IsSlot l.pages.owner l.class c w → lookup address_of s.unique (place_of w) ≡ None → IsApart (homes s) (slot_block c w)
  slot-apart c w slot none x inside = elim (none_or_some (holder (homes s) x)) [
    | inl nothing ↦ nothing
    | inr held ↦
        let is : held.0.block ≡ slot_block c w = slot-holder c w x held.0 slot inside held.1 in
        let (old, also) = holder-laid l.pages (homes s) x held.0 laid.paged.laid held.1 in
        absurd (clash held.0 is held.1 old)
  ]
    where
      clash : (k : Holder) → k.block ≡ slot_block c w → holder (homes s) x ≡ Some k → IsLaid l.pages k.handle k.block → ⊥
      clash k is found old =
          let low_in : covers k.block x ≡ true = subst (λ b. covers b x ≡ true) (sym is) inside in
          let (low, high) = covers_bounds (slot_block c w) x inside in
          let most : l.pages.filled old.page ≤ 1024 = laid.paged.filled old.page in
          let bound : old.lies.word + k.block.size ≤ l.pages.filled old.page = old.lies.before in
          let place : place_of w ≡ STORE_BASE + 4 * (1024 * old.page) + 4 * old.lies.word = ap address_of (sym is) ∙ old.lies.at in
          let size : k.block.size ≡ 2 ^ c = ap (λ (b : Block). b.size) is in
          let pages : slot.page ≡ old.page = begins STORE_BASE slot.page old.page (slot.number * 2 ^ c) old.lies.word (2 ^ c) k.block.size w slot.at place slot.fits (omega (arith, bound, most)) size (pow_pos c) in
          let unique : k.handle ≡ UNIQUE = same_from_some (sym old.owned ∙ (sym (ap l.pages.owner pages) ∙ slot.owned)) in
          never_none_and_some (subst (λ n. lookup address_of s.unique n ≡ None) (sym (ap address_of is)) none) (holder-unique s x k laid.sound found unique)
        where
          begins : (base p q a b m n v : ℕ) → v ≡ 1024 * p + a → base + 4 * v ≡ base + 4 * (1024 * q) + 4 * b → a + m ≤ 1024 → b + n ≤ 1024 → n ≡ m → 0 < m → p ≡ q
          begins base p q a b m n v v_is place fits also_fits same some = omega (arith, v_is, place, fits, also_fits, same, some)

  -- A block that begins at a slot's first word contains all addresses of the slot.
  pub slot-live : (c w x : ℕ) (b : Block) → IsSlot l.pages.owner l.class c w → covers (slot_block c w) x ≡ true → lookup address_of s.unique (place_of w) ≡ Some b
      → holder (homes s) x ≡ Some (record { handle = UNIQUE; block = b })
  slot-live c w x b slot inside there =
      let live : IsLiveSlot l.pages.owner l.class b = laid.slots.live (place_of w) b there in
      let first : b.address ≡ place_of w = lookup-key address_of s.unique (place_of w) b there in
      let same_place : live.word ≡ w = words (live.word) w (sym (ap address_of live.is) ∙ first) in
      let (classes, _) = slots-one l.pages.owner l.class live.class c live.word w (place_of w) live.slot slot
      (covers_from (slot_block live.class live.word) (place_of w) (starts live.word w same_place) (within live.word w (2 ^ live.class) same_place (pow_pos live.class)))
      (covers_from (slot_block c w) (place_of w) (starts w w refl) (within w w (2 ^ c) refl (pow_pos c))) in
      let is : b ≡ slot_block c w = live.is ∙ (ap (λ n. slot_block n live.word) classes ∙ ap (slot_block c) same_place) in
      laid.sound.regions.apart UNIQUE (place_of w) x b there (subst (λ a. covers a x ≡ true) (sym is) inside)
    where
      words : (v w : ℕ) → STORE_BASE + 4 * v ≡ STORE_BASE + 4 * w → v ≡ w
      words v w e = omega (arith, e)

      starts : (v w : ℕ) → v ≡ w → STORE_BASE + 4 * v ≤ STORE_BASE + 4 * w
      starts v w e = omega (arith, e)

      within : (v w z : ℕ) → v ≡ w → 0 < z → STORE_BASE + 4 * w < STORE_BASE + 4 * v + 4 * z
      within v w z e some = omega (arith, e, some)

  -- each word among the filled words of a region's page is live
  pub filled-live : (page word handle : ℕ) → l.pages.owner page ≡ Some handle → (handle ≡ UNIQUE → ⊥) → word < l.pages.filled page
      → (k : Holder) × (holder (homes s) (place_of (PAGE_WORDS * page + word)) ≡ Some k)
  filled-live page word handle owned ordinary below =
      let found : IsCovered s.regions handle (place_of (PAGE_WORDS * page + word)) = laid.covered page word handle owned ordinary below in (
        record { handle = handle; block = found.block },
        laid.sound.regions.apart handle found.block.address (place_of (PAGE_WORDS * page + word)) found.block
            (ap (λ o. block_in o found.block.address) (lookup-there handle_of (record { handle = UNIQUE; sort = Uniques; blocks = s.unique }) s.regions handle (λ e. ordinary (sym e))) ∙ found.at)
            found.inside,
      )

  -- A word of a region's page past the filled words is not live, and neither is a word of a free page.
  pub past-dead : (page word : ℕ) → word < PAGE_WORDS → ((handle : ℕ) → l.pages.owner page ≡ Some handle → l.pages.filled page ≤ word)
      → holder (homes s) (place_of (PAGE_WORDS * page + word)) ≡ None
  past-dead page word small past = elim (none_or_some (holder (homes s) (place_of (PAGE_WORDS * page + word)))) [
    | inl none ↦ none
    | inr held ↦
        let (old, also) = holder-laid l.pages (homes s) (place_of (PAGE_WORDS * page + word)) held.0 laid.paged.laid held.1 in
        absurd (clash held.0 old also)
  ]
    where
      here : (base p q u b n y : ℕ) → y ≡ base + 4 * (1024 * q) + 4 * b → y ≤ base + 4 * (1024 * p + u) → base + 4 * (1024 * p + u) < y + 4 * n → u < 1024 → b + n ≤ 1024 → p ≡ q
      here base p q u b n y y_is low high small fits = omega (arith, y_is, low, high, small, fits)

      below : (base p q u b n y f g : ℕ) → p ≡ q → y ≡ base + 4 * (1024 * q) + 4 * b → base + 4 * (1024 * p + u) < y + 4 * n → b + n ≤ g → g ≡ f → f ≤ u → ⊥
      below base p q u b n y f g same y_is high fits marks past = omega (arith, same, y_is, high, fits, marks, past)

      clash : (k : Holder) → IsLaid l.pages k.handle k.block → covers k.block (place_of (PAGE_WORDS * page + word)) ≡ true → ⊥
      clash k old also =
          let (low, high) = covers_bounds k.block (place_of (PAGE_WORDS * page + word)) also in
          let most : l.pages.filled old.page ≤ 1024 = laid.paged.filled old.page in
          let bound : old.lies.word + k.block.size ≤ l.pages.filled old.page = old.lies.before in
          let same : page ≡ old.page = here STORE_BASE page old.page word old.lies.word k.block.size k.block.address old.lies.at low high small (omega (arith, bound, most)) in
          below STORE_BASE page old.page word old.lies.word k.block.size k.block.address (l.pages.filled page) (l.pages.filled old.page) same old.lies.at high bound (ap l.pages.filled (sym same))
          (past k.handle (ap l.pages.owner same ∙ old.owned))
