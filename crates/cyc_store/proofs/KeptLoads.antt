-- This file is about reads from a store on a table of pages.
use Rattle.std.proofs.Common.{◌≡◌, ℕ, ◌+◌, ◌-◌, ◌*◌, ◌/◌, ◌%◌, ◌<◌, ◌≤◌, true, false, List, length, Option, None, Some, refl, sym, ap, ◌∙◌, inl, inr, arith}
use Rattle.std.specs.Prelude.{◌==◌, ◌&&◌, ◌⊎◌, nat_le, is_some, slice_index, slice_index_or}
use Rattle.std.proofs.lemmas.Bool.{cases_eq, cond-true, le-leb, eq-eqb}
use Rattle.std.proofs.lemmas.List.{get_or_default}
use Rattle.cyc_words.proofs.Booleans.{some_there}
use Rattle.cyc_words.proofs.Numbers.{when_equal}
use Rattle.cyc_words.proofs.Options.{none_or_some}
use Rattle.cyc_store.specs.State.{StoreState, homes, Holder, holder, word_in, word_at}
use Rattle.cyc_store.specs.Ledger.{Blocks, memory_of, store_of}
use Rattle.cyc_store.specs.inside.Kept.{IsKept}
use Rattle.cyc_store.specs.declared.row.PageTable.{PageTable}
use Rattle.cyc_store.specs.declared.row.ClassSlots.{ClassSlots}
use Rattle.cyc_store.proofs.LookupLemmas.{when_other}
use Rattle.cyc_store.proofs.PageLemmas.{covers_bounds, holder-laid}

-- ---- words at addresses

pub odd-word : (s : StoreState) (x : ℕ) → (x % 4 ≡ 0 → ⊥) → word_at s x ≡ None
odd-word s x odd = when_other (x % 4) 0 (word_in (holder (homes s) x) s.memory x) None odd

pub dead-word : (s : StoreState) (x : ℕ) → holder (homes s) x ≡ None → word_at s x ≡ None
dead-word s x none = elim (cases_eq (x % 4) 0) [
  | inl even ↦ when_equal (x % 4) 0 (word_in (holder (homes s) x) s.memory x) None even ∙ ap (λ o. word_in o s.memory x) none
  | inr odd ↦ odd-word s x odd
]

pub none-held : (o : Option Holder) → is_some o ≡ false → o ≡ None
none-held None e = refl
none-held (Some k) e = absurd (let f : true ≡ false = e in cc)

pub live-word : (s : StoreState) (x : ℕ) → x % 4 ≡ 0 → is_some (holder (homes s) x) ≡ true → word_at s x ≡ Some (s.memory x)
live-word s x even live =
    let (k, held) = some_there (holder (homes s) x) live in
    when_equal (x % 4) 0 (word_in (holder (homes s) x) s.memory x) None even ∙ ap (λ o. word_in o s.memory x) held

pub memory-word : (words : List ℕ) (x : ℕ) → x % 4 ≡ 0 → 536870912 ≤ x → memory_of words x ≡ slice_index words ((x - 536870912) / 4)
memory-word words x even low = cond-true ((x % 4 == 0) && nat_le 536870912 x) (slice_index words ((x - 536870912) / 4)) 0
    (ap (λ a. a && nat_le 536870912 x) (eq-eqb (x % 4) 0 even) ∙ le-leb 536870912 x low)

-- The address of an aligned word is computed from the index of the word.
pub word-place : (x : ℕ) → x % 4 ≡ 0 → 536870912 ≤ x → 536870912 + 4 * ((x - 536870912) / 4) ≡ x
word-place x even low = omega (arith, even, low)

-- ---- no word outside the used pages is live

module _ (t : PageTable) (lexicals : List ℕ) (classes : List ClassSlots) (b : Blocks) (k : IsKept t lexicals classes b) where
  abbrev s : StoreState
  s = store_of t.most t.words.items b

  outside : (x : ℕ) → ((h : Holder) → holder (homes s) x ≡ Some h → (536870912 ≤ x) → (x < 536870912 + 4 * length t.words.items) → ⊥) → holder (homes s) x ≡ None
  outside x never = elim (none_or_some (holder (homes s) x)) [
    | inl none ↦ none
    | inr (h, held) ↦
        let (old, also) = holder-laid k.layout.pages (homes s) x h k.laid.paged.laid held in
        let (low, high) = covers_bounds h.block x also in
        let most : k.layout.pages.filled old.page ≤ 1024 = k.laid.paged.filled old.page in
        let bound : old.lies.word + h.block.size ≤ k.layout.pages.filled old.page = old.lies.before in
        let there : old.page < length t.rows.items = k.tied.drawn old.page h.handle old.owned in
        absurd (never h held (above old.page old.lies.word h.block.address x old.lies.at low)
        (below old.page old.lies.word h.block.size h.block.address x (length t.rows.items) (length t.words.items) old.lies.at high (omega (arith, bound, most)) there k.whole.words))
  ]
    where
      above : (p w a x : ℕ) → a ≡ 536870912 + 4 * (1024 * p) + 4 * w → a ≤ x → 536870912 ≤ x
      above p w a x is low = omega (arith, is, low)

      below : (p w n a x m l : ℕ) → a ≡ 536870912 + 4 * (1024 * p) + 4 * w → x < a + 4 * n → w + n ≤ 1024 → p < m → l ≡ 1024 * m → x < 536870912 + 4 * l
      below p w n a x m l is high fits less whole = omega (arith, is, high, fits, less, whole)

  pub load-below : (x : ℕ) → x < 536870912 → word_at s x ≡ None
  load-below x less = dead-word s x (outside x (λ h held low high. clash x less low))
    where
      clash : (x : ℕ) → x < 536870912 → 536870912 ≤ x → ⊥
      clash x less low = omega (arith, less, low)

  pub load-past : (x : ℕ) → length t.words.items ≤ (x - 536870912) / 4 → word_at s x ≡ None
  load-past x past = dead-word s x (outside x (λ h held low high. clash x (length t.words.items) past low high))
    where
      clash : (x l : ℕ) → l ≤ (x - 536870912) / 4 → 536870912 ≤ x → x < 536870912 + 4 * l → ⊥
      clash x l past low high = omega (arith, past, low, high)

  pub load-none : (x count : ℕ) → count ≡ length t.words.items → (x < 536870912) ⊎ (x % 4 ≡ 0 → ⊥) ⊎ (536870912 + 4 * count ≤ x) → word_at s x ≡ None
  load-none x count all (inl less) = load-below x less
  load-none x count all (inr (inl odd)) = odd-word s x odd
  load-none x count all (inr (inr past)) = load-past x (quarter x count (length t.words.items) all past)
    where
      quarter : (x n l : ℕ) → n ≡ l → 536870912 + 4 * n ≤ x → l ≤ (x - 536870912) / 4
      quarter x n l all past = omega (arith, all, past)

  -- The page table has at most as many words as the largest allowed number of pages contains.
  pub words-few : length t.words.items ≤ 67108864
  words-few = within (length t.words.items) (length t.rows.items) t.most k.whole.words k.tied.few k.tied.most
    where
      within : (w n m : ℕ) → w ≡ 1024 * n → n ≤ m → m ≤ 65536 → w ≤ 67108864
      within w n m whole few most = omega (arith, whole, few, most)

  pub load-inside : (x n : ℕ) → x ≡ 536870912 + 4 * n → n < length t.words.items → (536870912 ≤ x) × (x < 536870912 + 4 * (1024 * t.most))
  load-inside x n place inside = within x n (length t.words.items) (length t.rows.items) t.most place inside k.whole.words k.tied.few
    where
      within : (x n w r m : ℕ) → x ≡ 536870912 + 4 * n → n < w → w ≡ 1024 * r → r ≤ m → (536870912 ≤ x) × (x < 536870912 + 4 * (1024 * m))
      within x n w r m place inside whole few = (omega (arith, place), omega (arith, place, inside, whole, few))

-- ---- words by number

place-even : (x n : ℕ) → x ≡ 536870912 + 4 * n → x % 4 ≡ 0
place-even x n place = omega (arith, place)

pub load-dead : (s : StoreState) (x n : ℕ) → x ≡ 536870912 + 4 * n → false ≡ is_some (holder (homes s) (536870912 + 4 * n)) → word_at s x ≡ None
load-dead s x n place dead = dead-word s x (none-held (holder (homes s) x) (ap (λ y. is_some (holder (homes s) y)) place ∙ sym dead))

pub load-live : (s : StoreState) (x n : ℕ) → x ≡ 536870912 + 4 * n → true ≡ is_some (holder (homes s) (536870912 + 4 * n)) → is_some (word_at s x) ≡ true
load-live s x n place live = ap is_some (live-word s x (place-even x n place) (ap (λ y. is_some (holder (homes s) y)) place ∙ sym live))

-- The word that the page table has for an address in a live block is the word that the store relation gives for this address.
pub load-word : (pages : ℕ) (words : List ℕ) (b : Blocks) (x n r : ℕ) → x ≡ 536870912 + 4 * n → n < length words → is_some (word_at (store_of pages words b) x) ≡ true
    → r ≡ slice_index_or words n r → Some r ≡ word_at (store_of pages words b) x
load-word pages words b x n r place inside live read = elim (none_or_some (holder (homes (store_of pages words b)) x)) [
  | inl none ↦ absurd (none-live (word_at (store_of pages words b) x) (dead-word (store_of pages words b) x none) live)
  | inr (h, held) ↦ sym (live-word (store_of pages words b) x (place-even x n place) (ap is_some held)
      ∙ ap (λ w. Some w) (memory-word words x (place-even x n place) (low x n place) ∙ (ap (slice_index words) (quarter x n place) ∙ (get_or_default words n 0 r inside ∙ sym read))))
]
  where
    none-live : (o : Option ℕ) → o ≡ None → is_some o ≡ true → ⊥
    none-live o none live = let e : false ≡ true = sym (ap is_some none) ∙ live in cc

    low : (x n : ℕ) → x ≡ 536870912 + 4 * n → 536870912 ≤ x
    low x n place = omega (arith, place)

    quarter : (x n : ℕ) → x ≡ 536870912 + 4 * n → (x - 536870912) / 4 ≡ n
    quarter x n place = omega (arith, place)
