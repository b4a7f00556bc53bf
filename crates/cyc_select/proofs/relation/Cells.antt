-- Memory is viewed as a function from addresses to the words of the data range and the stack.
use Rattle.std.proofs.Common.{◌≡◌, ◌≢◌, ℕ, ◌+◌, ◌-◌, ◌*◌, ◌%◌, ◌<◌, ◌≤◌, Bool, true, false, List, [], length, None, Some, refl, sym, ap, ◌∙◌, arith, inl, inr}
use Rattle.std.specs.Prelude.{◌⊎◌, nat_le, nat_lt, if◌then◌else◌, is_some, Option, slice_index_or}
use Rattle.std.proofs.lemmas.Bool.{cases_eq, le-leb, lt-ltb, le-ltb, lt-leb, and_from, and_left, and_right, cond-true, cond-false}
use Rattle.cyc_store.specs.State.{StoreState, word_at}
use Rattle.cyc_store.specs.declared.range.TheConstants.{STORE_BASE, PAGE_WORDS, MOST_PAGES}
use Rattle.cyc_machine_model.specs.State.{Memory, Place, InText, InGlobals, InStack, InStore, Nowhere, text_base, text_at, data_base, stack_end, stack_base, store_base, words_per_page, word_number, is_within, place_of, loaded, stored}
use Rattle.cyc_machine_model.proofs.MemoryLaws.{place_of-stored, loaded-stored_globals, loaded-stored_stack, loaded-stored_other}
use Rattle.cyc_plain.specs.inside.State.{put}
use Rattle.cyc_plain.proofs.SlotLaws.{put-same, put-other}

-- `IsData` says that an address is that of an aligned word of the data range of this size.
abbrev pub IsData : (globals : ℕ) → ℕ → Type 0
IsData globals a = (a % 4 ≡ 0) × (data_base ≤ a) × (a < data_base + 4 * globals)

abbrev pub IsStack : (stack : ℕ) → ℕ → Type 0
IsStack stack a = (a % 4 ≡ 0) × (stack_end - 4 * stack ≤ a) × (a < stack_end)

abbrev pub IsCell : (globals stack : ℕ) → ℕ → Type 0
IsCell globals stack a = IsData globals a ⊎ IsStack stack a

-- `IsLive` says that `word` is the word of a live block at the address `a`, which lies in the store's pages.
pub record IsLive (store : StoreState) (a word : ℕ) : Type 0 where
  pub aligned : a % 4 ≡ 0
  pub low : STORE_BASE ≤ a
  pub high : a < STORE_BASE + 4 * (PAGE_WORDS * store.pages)
  pub few : store.pages ≤ MOST_PAGES
  pub there : word_at store a ≡ Some word

-- Returns the word that a load from an address reads.
abbrev pub cell : Memory → ℕ → ℕ
cell m a = loaded m (place_of m a)

-- Returns the memory of the labelled machine, whose text range is empty.
abbrev pub memory : (globals stack : List ℕ) → StoreState → Memory
memory globals stack store = record { text = []; globals = globals; stack = stack; store = store }

abbrev nothing : List (Option ℕ)
nothing = []

nothing_or : (b : Bool) (n : ℕ) → is_some (if b then slice_index_or nothing n None else None) ≡ false
nothing_or true n = refl
nothing_or false n = refl

nothing_is_text : (a : ℕ) → is_some (text_at nothing a) ≡ false
nothing_is_text a = nothing_or (nat_le text_base a) (word_number text_base a)

between_is_within : (base count a : ℕ) → base ≤ a → a < base + 4 * count → is_within base count a ≡ true
between_is_within base count a from below = and_from (nat_le base a) (nat_lt a (base + 4 * count)) (le-leb base a from) (lt-ltb a (base + 4 * count) below)

outside : (base count a : ℕ) → base + 4 * count ≤ a → is_within base count a ≡ false
outside base count a past = and_right (nat_le base a) (nat_lt a (base + 4 * count)) (le-ltb a (base + 4 * count) past)

before_is_outside : (base count a : ℕ) → a < base → is_within base count a ≡ false
before_is_outside base count a below = and_left (nat_le base a) (nat_lt a (base + 4 * count)) (lt-leb base a below)

pub place_of-data : (globals stack : List ℕ) (store : StoreState) (a : ℕ) → IsData (length globals) a → place_of (memory globals stack store) a ≡ InGlobals (word_number data_base a)
place_of-data globals stack store a (aligned, from, below) =
    cond-false _ _ _ (nothing_is_text a) ∙ cond-true _ _ _ (between_is_within data_base (length globals) a from below)

pub place_of-stack : (globals stack : List ℕ) (store : StoreState) (a : ℕ) → length globals ≤ 1048576 → length stack ≤ 1048576 → IsStack (length stack) a → place_of (memory globals stack store) a ≡ InStack (word_number (stack_base stack) a)
place_of-stack globals stack store a few_globals few_stack (aligned, from, below) =
    cond-false _ _ _ (nothing_is_text a)
    ∙ (cond-false _ _ _ (outside data_base (length globals) a (omega arith)) ∙ cond-true _ _ _ (between_is_within (stack_base stack) (length stack) a from (omega arith)))

pub place_of-live : (globals stack : List ℕ) (store : StoreState) (a word : ℕ) → length globals ≤ 1048576 → length stack ≤ 1048576 → IsLive store a word → place_of (memory globals stack store) a ≡ InStore a
place_of-live globals stack store a word few_globals few_stack live =
    cond-false _ _ _ (nothing_is_text a)
    ∙ (cond-false _ _ _ (outside data_base (length globals) a (omega (arith, live.low)))
    ∙ (cond-false _ _ _ (before_is_outside (stack_base stack) (length stack) a (omega (arith, live.high, live.few)))
    ∙ cond-true _ _ _ (between_is_within store_base (words_per_page * store.pages) a live.low live.high)))

-- The words of the data range and the stack do not change if the store (the heap) changes.
pub cell-store : (globals stack : List ℕ) (store other : StoreState) (a : ℕ) → length globals ≤ 1048576 → length stack ≤ 1048576 → IsCell (length globals) (length stack) a
    → cell (memory globals stack other) a ≡ cell (memory globals stack store) a
cell-store globals stack store other a few_globals few_stack (inl in_data) =
    ap (loaded (memory globals stack other)) (place_of-data globals stack other a in_data)
    ∙ sym (ap (loaded (memory globals stack store)) (place_of-data globals stack store a in_data))
cell-store globals stack store other a few_globals few_stack (inr on_stack) =
    ap (loaded (memory globals stack other)) (place_of-stack globals stack other a few_globals few_stack on_stack)
    ∙ sym (ap (loaded (memory globals stack store)) (place_of-stack globals stack store a few_globals few_stack on_stack))

-- A store instruction changes one word of the data range or the stack and no other.
module _ (globals stack : List ℕ) (store : StoreState) (few_globals : length globals ≤ 1048576) (few_stack : length stack ≤ 1048576) where
  abbrev m : Memory
  m = memory globals stack store

  written : (a word : ℕ) → IsCell (length globals) (length stack) a → loaded (stored m (place_of m a) word) (place_of m a) ≡ word
  written a word (inl (aligned, from, below)) =
      let at = place_of-data globals stack store a (aligned, from, below) in
      ap (λ (p : Place). loaded (stored m p word) p) at ∙ loaded-stored_globals m (word_number data_base a) word (omega arith)
  written a word (inr (aligned, from, below)) =
      let at = place_of-stack globals stack store a few_globals few_stack (aligned, from, below) in
      ap (λ (p : Place). loaded (stored m p word) p) at ∙ loaded-stored_stack m (word_number (stack_base stack) a) word (omega arith)

  number_in : Place → ℕ
  number_in (InText n) = n
  number_in (InGlobals n) = n
  number_in (InStack n) = n
  number_in (InStore a) = a
  number_in Nowhere = 0

  is_data : Place → Bool
  is_data (InGlobals n) = true
  is_data p = false

  apart : (a b : ℕ) → IsCell (length globals) (length stack) a → IsCell (length globals) (length stack) b → b ≢ a → place_of m b ≢ place_of m a
  unfolding number_in is_data
  apart a b (inl (a_aligned, a_from, a_below)) (inl (b_aligned, b_from, b_below)) other same =
      let e : word_number data_base b ≡ word_number data_base a =
      ap number_in (sym (place_of-data globals stack store b (b_aligned, b_from, b_below)) ∙ (same ∙ place_of-data globals stack store a (a_aligned, a_from, a_below))) in
      other (omega arith)
  apart a b (inr (a_aligned, a_from, a_below)) (inr (b_aligned, b_from, b_below)) other same =
      let e : word_number (stack_base stack) b ≡ word_number (stack_base stack) a =
      ap number_in (sym (place_of-stack globals stack store b few_globals few_stack (b_aligned, b_from, b_below)) ∙ (same ∙ place_of-stack globals stack store a few_globals few_stack (a_aligned, a_from, a_below))) in
      other (omega arith)
  apart a b (inl a_data) (inr b_stack) other same =
      let e : false ≡ true =
      ap is_data (sym (place_of-stack globals stack store b few_globals few_stack b_stack) ∙ (same ∙ place_of-data globals stack store a a_data)) in
      cc
  apart a b (inr a_stack) (inl b_data) other same =
      let e : true ≡ false =
      ap is_data (sym (place_of-data globals stack store b b_data) ∙ (same ∙ place_of-stack globals stack store a few_globals few_stack a_stack)) in
      cc

  pub cell-stored : (a word b : ℕ) → IsCell (length globals) (length stack) a → IsCell (length globals) (length stack) b
      → cell (stored m (place_of m a) word) b ≡ put (cell m) a word b
  cell-stored a word b a_cell b_cell =
      ap (loaded (stored m (place_of m a) word)) (place_of-stored m (place_of m a) word b)
      ∙ elim (cases_eq b a) [
        | inl same ↦
            ap (λ (x : ℕ). loaded (stored m (place_of m a) word) (place_of m x)) same
            ∙ (written a word a_cell ∙ sym (ap (put (cell m) a word) same ∙ put-same (cell m) a word))
        | inr other ↦
            loaded-stored_other m (place_of m a) (place_of m b) word (apart a b a_cell b_cell other)
            ∙ sym (put-other (cell m) a b word other)
      ]
