-- Lemmas for the proof obligations of the functions of a page pool.
use Rattle.std.proofs.Common.{◌≡◌, ℕ, ◌+◌, ◌*◌, ◌/◌, ◌%◌, ◌^◌, ◌<◌, ◌≤◌, List, [], ◌∷◌, ◌++◌, drop, length, replicate, set, sym, ap, subst, ◌∙◌, arith, inl, inr, length-set, get_or-set_same}
use Rattle.std.specs.Prelude.{◌==◌, false, slice_index, slice_index_or}
use Rattle.std.specs.List.{AllByRecursion}
use Rattle.std.specs.Int.{bit_at}
use Rattle.std.proofs.lemmas.Bool.{cases_eq}
use Rattle.cyc_rawpages.specs.inside.Lists.{Lists, chain_at, after, is_among, freed}
use Rattle.cyc_rawpages.specs.declared.change.Change.TheVariants.{Taken, Pushed, Given}
use Rattle.cyc_rawpages.specs.inside.Words.{Parts, headed}
use Rattle.cyc_rawpages.specs.inside.Pool.{PoolState, tabulate, header_at, field_of, bits_at, bit_of, state_of, put, IsFree, IsHead, IsDistinct, IsChain, IsLinkedUp, IsPool}
use Rattle.cyc_rawpages.specs.declared.header.TheConstants.{NEXT, TAIL, NONE}
use Rattle.cyc_rawpages.proofs.Columns.{tab-read, field-kept}
use Rattle.cyc_rawpages.proofs.FreePages.{other-among, among-following, free-none as none-free, free-first, free-taken, free-given}
use Rattle.cyc_rawpages.proofs.Links.{put-there, put-elsewhere, all-map, free-none, free-some, free-there, taken, tail-in, given, pushed}

-- The index of a page's header field is below the number of words at the pool's start. These words hold, for each page, a
-- header and 1,024 bits, one for each word of the page.
pub header-in : (pages page field : ℕ) (raw : Parts) → length raw.heads ≡ 40 * pages → page < pages → field < 8 → header_at page field < length raw.heads
header-in pages page field raw whole there low = omega (arith, whole, there, low)

pub word-in : (pages page word : ℕ) (raw : Parts) → length raw.words ≡ 1024 * pages → page < pages → word < 1024 → 1024 * page + word < length raw.words
word-in pages page word raw whole there low = omega (arith, whole, there, low)

-- After a header field is written for one page, the field's values are the old values, except for that page.
pub field-put : (pages page field v : ℕ) (raw : Parts) → header_at page field < length raw.heads → field_of (headed raw (header_at page field) v) field ≡ put (field_of raw field) page v
field-put pages page field v raw inside = λ j p. at p j where
  at : (p : ℕ) → field_of (headed raw (header_at page field) v) field p ≡ put (field_of raw field) page v p
  at p = elim (cases_eq p page) [
    | inl same ↦ ap (λ q. field_of (headed raw (header_at page field) v) field q) same ∙ get_or-set_same raw.heads (header_at page field) v 0 inside ∙ sym (put-there (field_of raw field) page v p same)
    | inr other ↦ field-kept pages raw (header_at page field) v field p (λ e. other (omega (arith, e))) ∙ sym (put-elsewhere (field_of raw field) page v p other)
  ]

field-apart : (pages page written v field : ℕ) (raw : Parts) → written < 8 → field < 8 → (written ≡ field → ⊥) → field_of (headed raw (header_at page written) v) field ≡ field_of raw field
field-apart pages page written v field raw low high ne = λ j p. field-kept pages raw (header_at page written) v field p (λ e. ne (omega (arith, e, low, high))) j

module _ (pages : ℕ) (raw : Parts) (first : ℕ) (l : Lists) (is : IsPool pages raw first l) where
  -- Writing a header word that is neither the link to a next page nor the number of a chain's last page keeps the pool's invariant.
  pub kept : (k v : ℕ) → ((page : ℕ) → (header_at page NEXT ≡ k → ⊥) × (header_at page TAIL ≡ k → ⊥)) → IsPool pages (headed raw k v) first l
  kept k v ne = record {
    whole = length-set raw.heads k v ∙ is.whole;
    words = is.words;
    up = subst (λ (u : (ℕ → ℕ) × (ℕ → ℕ)). IsLinkedUp pages u.0 u.1 first l)
        (λ j. ((λ p. sym (field-kept pages raw k v NEXT p (ne p).0) j), (λ p. sym (field-kept pages raw k v TAIL p (ne p).1) j))) is.up;
    made = is.made;
  }

  pub first-there : (first ≡ NONE → ⊥) → first < pages
  first-there some =
      let had = free-some pages (field_of raw NEXT) (field_of raw TAIL) first l is.up some in
      free-there pages (field_of raw NEXT) (field_of raw TAIL) first l is.up had.0 had.1

  -- The pool's invariant holds after the first free page is taken.
  pub pool-taken : (first ≡ NONE → ⊥) → (made : ℕ) → raw.made ≤ made → 1024 * (first + 1) ≤ made
      → IsPool pages (record (headed raw (header_at first TAIL) first) { made = made }) (field_of raw NEXT first) (after l (Taken first))
  pool-taken some made more least =
      let had = free-some pages (field_of raw NEXT) (field_of raw TAIL) first l is.up some in
      let there = free-there pages (field_of raw NEXT) (field_of raw TAIL) first l is.up had.0 had.1 in
      let k = header_at first TAIL in
      record {
        whole = length-set raw.heads k first ∙ is.whole;
        words = is.words;
        up = subst (λ (u : (ℕ → ℕ) × (ℕ → ℕ)). IsLinkedUp pages u.0 u.1 (field_of raw NEXT first) (after l (Taken first)))
            (λ j. (sym (field-apart pages first TAIL first NEXT raw (omega arith) (omega arith) (λ e. omega (arith, e))) j, sym (field-put pages first TAIL first raw (header-in pages first TAIL raw is.whole there (omega arith))) j))
            (taken pages (field_of raw NEXT) (field_of raw TAIL) first l is.up had.0 had.1);
        made = λ page below. elim (cases_eq page first) [
          | inl same ↦ inr (omega (arith, same, least))
          | inr other ↦ elim (is.made page below) [
            | inl among ↦ inl (ap (λ xs. is_among (drop 1 xs) page) had.1 ∙ sym (other-among first had.0 page other) ∙ sym (ap (λ xs. is_among xs page) had.1) ∙ among)
            | inr low ↦ inr (omega (arith, low, more))
          ]
        ];
      }

  pub first-free : (first ≡ NONE → ⊥) → IsFree (tabulate pages (is_among l.free)) first
  first-free some =
      let had = free-some pages (field_of raw NEXT) (field_of raw TAIL) first l is.up some in
      subst (λ free. IsFree (tabulate pages (is_among free)) first) (sym had.1) (free-first pages first had.0 (first-there some))

  pub taken-free : (first ≡ NONE → ⊥) → tabulate pages (is_among (drop 1 l.free)) ≡ set (tabulate pages (is_among l.free)) first false
  taken-free some =
      let had = free-some pages (field_of raw NEXT) (field_of raw TAIL) first l is.up some in
      ap (λ free. tabulate pages (is_among (drop 1 free))) had.1 ∙ free-taken pages first had.0 (first-there some) (subst IsDistinct had.1 is.up.apart).0
      ∙ ap (λ free. set (tabulate pages (is_among free)) first false) (sym had.1)

  pub no-free : first ≡ NONE → tabulate pages (is_among l.free) ≡ replicate pages false
  no-free none = ap (λ free. tabulate pages (is_among free)) (free-none pages (field_of raw NEXT) (field_of raw TAIL) first l is.up none) ∙ none-free pages

  module _ (head : ℕ) (rest : List ℕ) (below : head < pages) (e : chain_at l.chains head ≡ head ∷ rest) where
    abbrev tail : ℕ
    tail = field_of raw TAIL head

    pub tail-there : tail < pages
    tail-there = (tail-in pages (field_of raw NEXT) (field_of raw TAIL) first l is.up head rest below e).0

    -- The pool's invariant holds after all pages of a chain (a list of linked pages) are freed.
    pub pool-given : IsPool pages (headed raw (header_at tail NEXT) first) head (after l (Given head))
    pool-given = record {
      whole = length-set raw.heads (header_at tail NEXT) first ∙ is.whole;
      words = is.words;
      up = subst (λ (u : (ℕ → ℕ) × (ℕ → ℕ)). IsLinkedUp pages u.0 u.1 head (after l (Given head)))
          (λ j. (sym (field-put pages tail NEXT first raw (header-in pages tail NEXT raw is.whole tail-there (omega arith))) j, sym (field-apart pages tail NEXT first TAIL raw (omega arith) (omega arith) (λ same. omega (arith, same))) j))
          (given pages (field_of raw NEXT) (field_of raw TAIL) first l is.up head rest below e);
      made = λ page there. elim (is.made page there) [
        | inl among ↦ inl (among-following (chain_at l.chains head) l.free page among)
        | inr low ↦ inr low
      ];
    }

    pub given-free : tabulate pages (is_among (chain_at l.chains head ++ l.free)) ≡ freed (tabulate pages (is_among l.free)) (chain_at l.chains head)
    given-free =
        let chain = subst (IsChain pages (field_of raw NEXT) (field_of raw TAIL) is.up.home head) e (is.up.run head below) in
        free-given pages (chain_at l.chains head) l.free (subst (AllByRecursion (λ page. page < pages)) (sym e) (all-map (head ∷ rest) (λ page here. here.0) chain.3))

    -- The pool's invariant holds after a page is appended to a chain (a list of linked pages).
    pub pool-pushed : (page : ℕ) → page < pages → (head ≡ page → ⊥) → chain_at l.chains page ≡ page ∷ []
        → IsPool pages (headed (headed raw (header_at tail NEXT) page) (header_at head TAIL) page) first (after l (Pushed head page))
    pool-pushed page there ne alone =
        let n = header_at tail NEXT in let t = header_at head TAIL in let mid = headed raw n page in let long : length mid.heads ≡ 40 * pages = length-set raw.heads n page ∙ is.whole in
        record {
          whole = length-set mid.heads t page ∙ long;
          words = is.words;
          up = subst (λ (u : (ℕ → ℕ) × (ℕ → ℕ)). IsLinkedUp pages u.0 u.1 first (after l (Pushed head page)))
              (λ j. (
                sym (field-apart pages head TAIL page NEXT mid (omega arith) (omega arith) (λ same. omega (arith, same)) ∙ field-put pages tail NEXT page raw (header-in pages tail NEXT raw is.whole tail-there (omega arith))) j,
                sym (field-put pages head TAIL page mid (header-in pages head TAIL mid long below (omega arith)) ∙ ap (λ f. put f head page) (field-apart pages tail NEXT page TAIL raw (omega arith) (omega arith) (λ same. omega (arith, same)))) j,
              ))
              (pushed pages (field_of raw NEXT) (field_of raw TAIL) first l is.up head page rest below there ne e alone);
          made = is.made;
        }

-- ---- a serial in two halves
pub words_of_long : (n : ℕ) → n % 2 ^ 32 + 2 ^ 32 * (n / 2 ^ 32) ≡ n
words_of_long n = omega arith

-- ---- fields that are read
pub column-read : (pages page field : ℕ) (raw : Parts) → page < pages → slice_index (tabulate pages (field_of raw field)) page ≡ slice_index raw.heads (header_at page field)
column-read pages page field raw there = tab-read pages (field_of raw field) page 0 there

-- ---- preconditions on a pool's state hold for its parts
pub there-in : (s now : PoolState) (page : ℕ) → s ≡ now → page < now.pages → page < s.pages
there-in s now page is there = subst (λ (n : ℕ). page < n) (sym (ap (λ (t : PoolState). t.pages) is)) there

pub head-in : (s now : PoolState) (page : ℕ) → s ≡ now → IsHead now.chains page → IsHead s.chains page
head-in s now page is has = subst (λ cs. IsHead cs page) (sym (ap (λ (t : PoolState). t.chains) is)) has

pub alone-in : (s now : PoolState) (page : ℕ) → s ≡ now → chain_at now.chains page ≡ page ∷ [] → chain_at s.chains page ≡ page ∷ []
alone-in s now page is has = subst (λ cs. chain_at cs page ≡ page ∷ []) (sym (ap (λ (t : PoolState). t.chains) is)) has

pub bit-read : (pages : ℕ) (raw : Parts) (l : Lists) (page bit : ℕ) (now : PoolState) → state_of pages raw l ≡ now → page < now.pages → bit < 1024
    → (bit_at (slice_index raw.heads (bits_at (1024 * page + bit))) (bit % 32) == 1) ≡ slice_index_or now.bits (1024 * page + bit) false
bit-read pages raw l page bit now is there low =
    let number = 1024 * page + bit in let same = ap (λ (t : PoolState). t.pages) is in
    let rest : bit % 32 ≡ number % 32 = omega arith in
    (λ j. bit_at (slice_index raw.heads (bits_at number)) (rest j) == 1) ∙ sym (tab-read (1024 * pages) (bit_of raw) number false (omega (arith, there, low, same))) ∙ ap (λ (t : PoolState). slice_index_or t.bits number false) is
