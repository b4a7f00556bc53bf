-- Filling a slot, freeing a unique block, and cutting a taken page into slots preserve the correspondence
-- between the page table and the layout of blocks.
use Rattle.std.proofs.Common.{◌≡◌, ◌≢◌, ℕ, ◌+◌, ◌*◌, ◌/◌, ◌^◌, ◌<◌, ◌≤◌, Bool, List, [], None, Some, refl, sym, ap, subst, ◌∙◌, inl, inr, arith}
use Rattle.std.specs.Prelude.{◌==◌, ◌⊎◌, if◌then◌else◌, is_some}
use Rattle.std.specs.List.{AllByRecursion}
use Rattle.std.proofs.lemmas.Bool.{cases_eq}
use Rattle.std.proofs.Math.Nat.{div-mul-le_self, lt-div-mul-add}
use Rattle.std.proofs.lemmas.Nat.{pow_pos}
use Rattle.cyc_words.specs.Demand.{greatest_class, blocks_in_page}
use Rattle.cyc_words.proofs.Numbers.{when_equal, multiples_same, cases_within}
use Rattle.cyc_words.proofs.Options.{never_none_and_some, same_from_some}
use Rattle.cyc_store.specs.State.{lookup, Block, address_of, Home, handle_of}
use Rattle.cyc_store.specs.Ledger.{Blocks}
use Rattle.cyc_store.specs.Pages.{drawn}
use Rattle.cyc_store.specs.Slots.{place_of, Layout, IsSlot, slots_from}
use Rattle.cyc_store.specs.Table.{marked_between}
use Rattle.cyc_store.specs.inside.Kept.{Table, limit, role_of, role_of_owner, sort_of, handle_of_page, IsRow, IsRooted, IsStocked, IsTied}
use Rattle.cyc_store.specs.declared.row.Role.TheVariants as role
use Rattle.cyc_store.specs.declared.row.Row.{Row}
use Rattle.cyc_store.specs.declared.row.TheConstants.{NONE}
use Rattle.cyc_store.specs.declared.row.ClassSlots.{ClassSlots}
use Rattle.cyc_store.specs.declared.range.TheConstants.{PAGE_WORDS, UNIQUE}
use Rattle.cyc_store.proofs.LookupLemmas.{when_other, lookup-key}
use Rattle.cyc_store.proofs.PagedRegions.{chain-filled}
use Rattle.cyc_store.proofs.SlotServices.{with_dead, same-words}
use Rattle.cyc_store.proofs.SlotStock.{stocked}
use Rattle.cyc_store.proofs.TableLemmas.{marked-in, marked-out}
use Rattle.cyc_store.proofs.TieOpening.{with_row, owner-away, fresh-handle, free-linked, rooted-drawn}

-- ---- changes of a table

abbrev pub with_marks : Table → (first count : ℕ) → Bool → Table
with_marks t first count mark = record t { live = marked_between t.live first count mark }

abbrev pub with_word : Table → (at word : ℕ) → Table
with_word t at word = record t { word = λ (other : ℕ). if other == at then word else t.word other }

abbrev pub with_slots : (ℕ → ClassSlots) → (class : ℕ) → ClassSlots → ℕ → ClassSlots
with_slots classes class slots = λ (other : ℕ). if other == class then slots else classes other

-- The index of a word determines the index of its page and the word's index in the page.
split-one : (p q m n : ℕ) → m < 1024 → n < 1024 → 1024 * p + m ≡ 1024 * q + n → (p ≡ q) × (m ≡ n)
split-one p q m n small also e = (omega (arith, small, also, e), omega (arith, small, also, e))

-- ---- filling or emptying a slot

module _ (t : Table) (lexicals : List ℕ) (classes : ℕ → ClassSlots) (b : Blocks) (l : Layout) (tied : IsTied t lexicals classes b l)
    (class word : ℕ) (slot : IsSlot l.pages.owner l.class class word) (mark : Bool) (unique : List Block) (counts : List ℕ)
    (here : is_some (lookup address_of unique (place_of word)) ≡ mark)
    (elsewhere : (first : ℕ) → (first ≡ place_of word → ⊥) → lookup address_of unique first ≡ lookup address_of b.unique first)
    (slots : ClassSlots) (dead : List ℕ) (words : ℕ → ℕ) (new : IsStocked words slots class dead)
    (old : (other : ℕ) → (other ≡ class → ⊥) → other ≤ greatest_class → IsStocked t.word (classes other) other (l.dead other) → IsStocked words (classes other) other (l.dead other)) where
  abbrev after_marks : Table
  after_marks = record (with_marks t word (2 ^ class) mark) { word = words }

  -- A word of the given slot lies in the slot's page. The slot that is computed for this word begins at the given slot's first word.
  slot-page : (p n : ℕ) → n < 1024 → word ≤ PAGE_WORDS * p + n → PAGE_WORDS * p + n < word + 2 ^ class → p ≡ slot.page
  slot-page p n few low high = one p slot.page n (slot.number * 2 ^ class) (2 ^ class) word slot.at slot.fits few low high
    where
      one : (p q n a z w : ℕ) → w ≡ 1024 * q + a → a + z ≤ 1024 → n < 1024 → w ≤ 1024 * p + n → 1024 * p + n < w + z → p ≡ q
      one p q n a z w at fits few low high = omega (arith, at, fits, few, low, high)

  first-of : (p n : ℕ) → n < 1024 → word ≤ PAGE_WORDS * p + n → PAGE_WORDS * p + n < word + 2 ^ class → PAGE_WORDS * p + n / 2 ^ l.class p * 2 ^ l.class p ≡ word
  first-of p n few low high =
      let pages : p ≡ slot.page = slot-page p n few low high in
      let (above, below) = bounds p slot.page n (slot.number * 2 ^ class) (2 ^ class) word slot.at pages low high in
      let least : n / 2 ^ class * 2 ^ class ≤ n = div-mul-le_self n (2 ^ class) in
      let most : n < n / 2 ^ class * 2 ^ class + 2 ^ class = lt-div-mul-add {a = n} {b = 2 ^ class} (pow_pos class) in
      let numbers : n / 2 ^ class ≡ slot.number = multiples_same (n / 2 ^ class) slot.number (2 ^ class)
      (first (n / 2 ^ class * 2 ^ class) n (slot.number * 2 ^ class + 2 ^ class) least below) (first (slot.number * 2 ^ class) n (n / 2 ^ class * 2 ^ class + 2 ^ class) above most) in
      ap (λ c. PAGE_WORDS * p + n / 2 ^ c * 2 ^ c) (ap l.class pages ∙ slot.same)
      ∙ (ap (λ q. PAGE_WORDS * q + n / 2 ^ class * 2 ^ class) pages ∙ (ap (λ m. PAGE_WORDS * slot.page + m * 2 ^ class) numbers ∙ sym slot.at))
    where
      bounds : (p q n a z w : ℕ) → w ≡ 1024 * q + a → p ≡ q → w ≤ 1024 * p + n → 1024 * p + n < w + z → (a ≤ n) × (n < a + z)
      bounds p q n a z w at pages low high = (omega (arith, at, pages, low), omega (arith, at, pages, high))

      first : (m n k : ℕ) → m ≤ n → n < k → m < k
      first m n k low high = omega (arith, low, high)

  -- If the slot that is computed for a word begins at the given slot's first word, then the given slot contains the word.
  not-out : (p n : ℕ) → n < 1024 → PAGE_WORDS * p + n / 2 ^ l.class p * 2 ^ l.class p ≡ word → (PAGE_WORDS * p + n < word) ⊎ (word + 2 ^ class ≤ PAGE_WORDS * p + n) → ⊥
  not-out p n few begins (inl below) = clash (PAGE_WORDS * p) (n / 2 ^ l.class p * 2 ^ l.class p) n word begins (div-mul-le_self n (2 ^ l.class p)) below
    where
      clash : (p a n w : ℕ) → p + a ≡ w → a ≤ n → p + n < w → ⊥
      clash p a n w at least below = omega (arith, at, least, below)
  not-out p n few begins (inr past) =
      let least : n / 2 ^ l.class p * 2 ^ l.class p ≤ n = div-mul-le_self n (2 ^ l.class p) in
      let (pages, offsets) = split-one p slot.page (n / 2 ^ l.class p * 2 ^ l.class p) (slot.number * 2 ^ class) (small (n / 2 ^ l.class p * 2 ^ l.class p) n least few) (inside (slot.number * 2 ^ class) (2 ^ class) slot.fits (pow_pos class)) (begins ∙ slot.at) in
      let sizes : 2 ^ l.class p ≡ 2 ^ class = ap (λ c. 2 ^ c) (ap l.class pages ∙ slot.same) in
      clash (PAGE_WORDS * p) (n / 2 ^ l.class p * 2 ^ l.class p) n (2 ^ l.class p) (2 ^ class) word begins (lt-div-mul-add {a = n} {b = 2 ^ l.class p} (pow_pos (l.class p))) sizes past
    where
      small : (a n : ℕ) → a ≤ n → n < 1024 → a < 1024
      small a n least few = omega (arith, least, few)

      inside : (a z : ℕ) → a + z ≤ 1024 → 0 < z → a < 1024
      inside a z e some = omega (arith, e, some)

      clash : (p a n y z w : ℕ) → p + a ≡ w → n < a + y → y ≡ z → w + z ≤ p + n → ⊥
      clash p a n y z w at most same past = omega (arith, at, most, same, past)

  pub slot-tied : IsTied after_marks lexicals (with_slots classes class slots) (record { regions = b.regions; unique = unique; classes = counts }) (with_dead l class dead)
  slot-tied = record {
    most = tied.most;
    few = tied.few;
    drawn = tied.drawn;
    rows = tied.rows;
    given = tied.given;
    free = tied.free;
    linked = tied.linked;
    within = tied.within;
    homes = tied.homes;
    roots = tied.roots;
    newest = tied.newest;
    stock = λ other bound. elim (cases_eq other class) [
      | inl same ↦
          subst (λ s. IsStocked words s other (if other == class then dead else l.dead other)) (sym (when_equal other class slots (classes other) same))
          (subst (IsStocked words slots other) (sym (when_equal other class dead (l.dead other) same)) (subst (λ n. IsStocked words slots n dead) (sym same) new))
      | inr away ↦
          subst (λ s. IsStocked words s other (if other == class then dead else l.dead other)) (sym (when_other other class slots (classes other) away))
          (subst (IsStocked words (classes other) other) (sym (when_other other class dead (l.dead other) away)) (old other away bound (tied.stock other bound)))
    ];
    marked = λ p n owned few. elim (cases_within word (2 ^ class) (PAGE_WORDS * p + n)) [
      | inl (low, high) ↦
          marked-in t.live word (2 ^ class) mark (PAGE_WORDS * p + n) low high
          ∙ sym (ap (λ w. is_some (lookup address_of unique (place_of w))) (first-of p n few low high) ∙ here)
      | inr out ↦
          marked-out t.live word (2 ^ class) mark (PAGE_WORDS * p + n) out
          ∙ (tied.marked p n owned few
          ∙ sym (ap is_some (elsewhere (place_of (PAGE_WORDS * p + n / 2 ^ l.class p * 2 ^ l.class p)) (λ e. not-out p n few (same-words (PAGE_WORDS * p + n / 2 ^ l.class p * 2 ^ l.class p) word e) out))))
    ];
    unmarked = λ p n other few. elim (cases_within word (2 ^ class) (PAGE_WORDS * p + n)) [
      | inl (low, high) ↦ absurd (other (ap l.pages.owner (slot-page p n few low high) ∙ slot.owned))
      | inr out ↦ marked-out t.live word (2 ^ class) mark (PAGE_WORDS * p + n) out ∙ tied.unmarked p n other few
    ];
  }

-- ---- cutting a taken page into slots

abbrev pub slots_row : (class : ℕ) → Row
slots_row class = record { role = role.Slots class; filled = 0; next = NONE; newest = NONE; count = 0 }

abbrev pub fresh_slots : (page class : ℕ) → ClassSlots
fresh_slots page class = record { dead = NONE; fresh = PAGE_WORDS * page; left = blocks_in_page class }

module _ (t : Table) (lexicals : List ℕ) (classes : ℕ → ClassSlots) (b : Blocks) (l : Layout) (tied : IsTied t lexicals classes b l) (page : ℕ) (none : l.pages.owner page ≡ None)
    (away : AllByRecursion (λ x. page ≢ x) l.free) (there : page < t.count) (class : ℕ)
    (distinct : lookup handle_of b.regions UNIQUE ≡ None)
    (empty : (w u : ℕ) → w ≡ PAGE_WORDS * page + u → u < PAGE_WORDS → lookup address_of b.unique (place_of w) ≡ None) where
  abbrev now : Layout
  now = stocked l page l.free class

  pub stock-tied : IsTied (with_row t page (slots_row class)) lexicals (with_slots classes class (fresh_slots page class)) b now
  stock-tied = record {
    most = tied.most;
    few = tied.few;
    drawn = λ p g owned. elim (cases_eq p page) [
      | inl here ↦ subst (λ n. n < t.count) (sym here) there
      | inr other ↦ tied.drawn p g (sym (when_other p page (Some UNIQUE) (l.pages.owner p) other) ∙ owned)
    ];
    rows = λ p. elim (cases_eq p page) [
      | inl here ↦ subst (λ n. IsRow ((with_row t page (slots_row class)).row n) (now.pages.owner n) (now.pages.filled n) (now.class n) (sort_of (lookup handle_of b.regions (handle_of_page n))))
          (sym here) (record {
            marks =
                ap (λ (x : Row). x.filled) row-new
                ∙ sym (ap (λ o. limit o (now.pages.filled page)) owner-new ∙ when_equal UNIQUE UNIQUE 0 (now.pages.filled page) refl);
            plays =
                ap (λ (x : Row). x.role) row-new
                ∙ sym (ap (λ o. role_of (sort_of o) (now.pages.owner page) (now.class page)) (fresh-handle t lexicals classes b l tied page none away there)
                ∙ (ap (λ o. role_of_owner o (now.class page)) owner-new ∙ (when_equal UNIQUE UNIQUE (role.Slots (now.class page)) role.Rest refl
                ∙ ap (λ n. role.Slots n) (when_equal page page class (l.class page) refl))));
          })
      | inr other ↦ record {
        marks =
            ap (λ (x : Row). x.filled) (when_other p page (slots_row class) (t.row p) other) ∙ ((tied.rows p).marks
            ∙ (ap (limit (l.pages.owner p)) (sym (when_other p page PAGE_WORDS ((drawn l.pages page UNIQUE).filled p) other ∙ when_other p page 0 (l.pages.filled p) other))
            ∙ ap (λ o. limit o (now.pages.filled p)) (sym (when_other p page (Some UNIQUE) (l.pages.owner p) other))));
        plays =
            ap (λ (x : Row). x.role) (when_other p page (slots_row class) (t.row p) other) ∙ ((tied.rows p).plays
            ∙ (ap (λ o. role_of (sort_of (lookup handle_of b.regions (handle_of_page p))) o (l.class p)) (sym (when_other p page (Some UNIQUE) (l.pages.owner p) other))
            ∙ ap (λ n. role_of (sort_of (lookup handle_of b.regions (handle_of_page p))) (now.pages.owner p) n) (sym (when_other p page class (l.class p) other))));
      }
    ];
    given = tied.given;
    free = tied.free;
    linked = free-linked t lexicals classes b l tied page none away there (slots_row class);
    within = tied.within;
    homes = λ p g owned other. elim (cases_eq p page) [
      | inl here ↦ absurd (other (sym (same_from_some (sym (when_equal p page (Some UNIQUE) (l.pages.owner p) here) ∙ owned))))
      | inr apart ↦ tied.homes p g (sym (when_other p page (Some UNIQUE) (l.pages.owner p) apart) ∙ owned) other
    ];
    roots = λ g q found.
        let ordinary : (q.handle ≡ UNIQUE → ⊥) = λ e. never_none_and_some distinct (subst (λ n. lookup handle_of b.regions n ≡ Some q) (sym (lookup-key handle_of b.regions g q found) ∙ e) found) in
        refilled q ordinary (rooted-drawn t.row l.pages page UNIQUE (slots_row class) q none ordinary (tied.roots g q found));
    newest = tied.newest;
    stock = λ other bound. elim (cases_eq other class) [
      | inl same ↦
          subst (λ s. IsStocked t.word s other (now.dead other)) (sym (when_equal other class (fresh_slots page class) (classes other) same))
          (subst (IsStocked t.word (fresh_slots page class) other) (sym (when_equal other class (slots_from (2 ^ class) (PAGE_WORDS * page) (blocks_in_page class)) (l.dead other) same))
          (record { chain = []; all = ap (λ n. slots_from (2 ^ n) (PAGE_WORDS * page) (blocks_in_page class)) (sym same); linked = refl }))
      | inr apart ↦
          subst (λ s. IsStocked t.word s other (now.dead other)) (sym (when_other other class (fresh_slots page class) (classes other) apart))
          (subst (IsStocked t.word (classes other) other) (sym (when_other other class (slots_from (2 ^ class) (PAGE_WORDS * page) (blocks_in_page class)) (l.dead other) apart)) (tied.stock other bound))
    ];
    marked = λ p n owned few. elim (cases_eq p page) [
      | inl here ↦
          let least : n / 2 ^ now.class p * 2 ^ now.class p ≤ n = div-mul-le_self n (2 ^ now.class p) in
          ap (λ q. t.live (PAGE_WORDS * q + n)) here
          ∙ (tied.unmarked page n (λ e. never_none_and_some none e) few
          ∙ sym (ap is_some (empty (PAGE_WORDS * p + n / 2 ^ now.class p * 2 ^ now.class p) (n / 2 ^ now.class p * 2 ^ now.class p) (ap (λ q. PAGE_WORDS * q + n / 2 ^ now.class p * 2 ^ now.class p) here)
          (small (n / 2 ^ now.class p * 2 ^ now.class p) n least few))))
      | inr other ↦
          tied.marked p n (sym (when_other p page (Some UNIQUE) (l.pages.owner p) other) ∙ owned) few
          ∙ ap (λ c. is_some (lookup address_of b.unique (place_of (PAGE_WORDS * p + n / 2 ^ c * 2 ^ c)))) (sym (when_other p page class (l.class p) other))
    ];
    unmarked = λ p n other few. tied.unmarked p n (λ owned. other (when_other p page (Some UNIQUE) (l.pages.owner p) (owner-away l.pages page p UNIQUE none owned) ∙ owned)) few;
  }
    where
      small : (a n : ℕ) → a ≤ n → n < 1024 → a < 1024
      small a n least few = omega (arith, least, few)

      row-new : (with_row t page (slots_row class)).row page ≡ slots_row class
      row-new = when_equal page page (slots_row class) (t.row page) refl

      owner-new : now.pages.owner page ≡ Some UNIQUE
      owner-new = when_equal page page (Some UNIQUE) (l.pages.owner page) refl

      refilled : (q : Home) → (q.handle ≡ UNIQUE → ⊥) → IsRooted (with_row t page (slots_row class)).row (drawn l.pages page UNIQUE) q → IsRooted (with_row t page (slots_row class)).row now.pages q
      refilled q ordinary old = record {
        root = old.root;
        handle = old.handle;
        owned = old.owned;
        chain = chain-filled (drawn l.pages page UNIQUE) page PAGE_WORDS UNIQUE q owner-new ordinary old.chain;
        newest = old.newest;
        count = old.count;
        linked = old.linked;
        complete = old.complete;
      }
