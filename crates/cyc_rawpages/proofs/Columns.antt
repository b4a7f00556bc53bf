-- Lemmas: the values stored in a page pool after one word of its headers is written.
use Rattle.std.proofs.Common.{◌≡◌, ℕ, zero, suc, ◌+◌, ◌*◌, ◌%◌, ◌^◌, ◌<◌, ◌≤◌, ◌∷◌, length, set, length-set, replicate, refl, ap, sym, ◌∙◌, inl, inr, arith, get_or-set_same, get_or-set_other}
use Rattle.std.specs.Prelude.{◌==◌, Bool, slice_index, slice_index_or}
use Rattle.std.specs.Int.{bit_at}
use Rattle.std.proofs.lemmas.Bool.{cases_eq}
use Rattle.cyc_rawpages.specs.inside.Lists.{Lists, is_among}
use Rattle.cyc_rawpages.specs.inside.Words.{Parts, headed}
use Rattle.cyc_rawpages.specs.inside.Pool.{tabulate, header_at, field_of, serial_of, state_of, bits_at, bit_of}
use Rattle.cyc_rawpages.specs.declared.header.TheConstants.{FILL, OWNER, LOW, HIGH}

pub tab-read : {A : Type 0} (n : ℕ) (f : ℕ → A) (i : ℕ) (none : A) → i < n → slice_index_or (tabulate n f) i none ≡ f i
tab-read zero f i none lt = absurd (omega (arith, lt))
tab-read (suc n) f zero none lt = refl
tab-read (suc n) f (suc i) none lt = tab-read n (λ k. f (suc k)) i none (omega (arith, lt))

pub tab-past : {A : Type 0} (n : ℕ) (f : ℕ → A) (i : ℕ) (none : A) → n ≤ i → slice_index_or (tabulate n f) i none ≡ none
tab-past zero f i none past = refl
tab-past (suc n) f zero none past = absurd (omega (arith, past))
tab-past (suc n) f (suc i) none past = tab-past n (λ k. f (suc k)) i none (omega (arith, past))

pub length-tab : {A : Type 0} (n : ℕ) (f : ℕ → A) → length (tabulate n f) ≡ n
length-tab zero f = refl
length-tab (suc n) f = ap suc (length-tab n (λ k. f (suc k)))

pub tab-ext : {A : Type 0} (n : ℕ) (f g : ℕ → A) → ((i : ℕ) → i < n → f i ≡ g i) → tabulate n f ≡ tabulate n g
tab-ext zero f g e = refl
tab-ext (suc n) f g e = λ j. e 0 (omega arith) j ∷ tab-ext n (λ k. f (suc k)) (λ k. g (suc k)) (λ i lt. e (suc i) (omega (arith, lt))) j

pub tab-set : {A : Type 0} (n : ℕ) (f g : ℕ → A) (q : ℕ) (w : A) → q < n → g q ≡ w → ((i : ℕ) → i < n → (i ≡ q → ⊥) → g i ≡ f i) → tabulate n g ≡ set (tabulate n f) q w
tab-set zero f g q w lt at other = absurd (omega (arith, lt))
tab-set (suc n) f g zero w lt at other = λ j. at j ∷ tab-ext n (λ k. g (suc k)) (λ k. f (suc k)) (λ i below. other (suc i) (omega (arith, below)) (λ e. omega (arith, e))) j
tab-set (suc n) f g (suc q) w lt at other =
    λ j. other 0 (omega arith) (λ e. omega (arith, e)) j ∷ tab-set n (λ k. f (suc k)) (λ k. g (suc k)) q w (omega (arith, lt)) at (λ i below ne. other (suc i) (omega (arith, below)) (λ e. ne (omega (arith, e)))) j

pub tab-all : {A : Type 0} (n : ℕ) (f : ℕ → A) (v : A) → ((i : ℕ) → i < n → f i ≡ v) → tabulate n f ≡ replicate n v
tab-all zero f v e = refl
tab-all (suc n) f v e = λ j. e 0 (omega arith) j ∷ tab-all n (λ k. f (suc k)) v (λ i lt. e (suc i) (omega (arith, lt))) j

module _ (pages : ℕ) (raw : Parts) (k v : ℕ) where
  abbrev new : Parts
  new = headed raw k v

  -- If the written word is not the given field of a page, the field keeps its value.
  pub field-kept : (field page : ℕ) → (header_at page field ≡ k → ⊥) → field_of new field page ≡ field_of raw field page
  field-kept field page ne = get_or-set_other raw.heads k (header_at page field) v 0 ne

  column-kept : (field : ℕ) → ((page : ℕ) → page < pages → header_at page field ≡ k → ⊥) → tabulate pages (field_of new field) ≡ tabulate pages (field_of raw field)
  column-kept field ne = tab-ext pages (field_of new field) (field_of raw field) (λ i lt. field-kept field i (ne i lt))

  serials-kept : ((page : ℕ) → page < pages → header_at page LOW ≡ k → ⊥) → ((page : ℕ) → page < pages → header_at page HIGH ≡ k → ⊥)
      → tabulate pages (serial_of new) ≡ tabulate pages (serial_of raw)
  serials-kept low high = tab-ext pages (serial_of new) (serial_of raw) (λ i lt. λ j. field-kept LOW i (low i lt) j + 2 ^ 32 * field-kept HIGH i (high i lt) j)

  -- If the written machine word contains no page's bits, the bits of all pages (one for each word) keep their values.
  bits-kept : ((number : ℕ) → number < 1024 * pages → bits_at number ≡ k → ⊥) → tabulate (1024 * pages) (bit_of new) ≡ tabulate (1024 * pages) (bit_of raw)
  bits-kept ne = tab-ext (1024 * pages) (bit_of new) (bit_of raw) (λ i lt. ap (λ w. bit_at w (i % 32) == 1) (get_or-set_other raw.heads k (bits_at i) v 0 (ne i lt)))

module _ (pages : ℕ) (raw : Parts) (l : Lists) (whole : length raw.heads ≡ 40 * pages) where
  -- Writing the fill-mark field of a page's header sets the page's fill mark.
  pub filled : (page v : ℕ) → page < pages
      → state_of pages (headed raw (header_at page FILL) v) l ≡ record (state_of pages raw l) { fills = set (state_of pages raw l).fills page v }
  filled page v there =
      let k = header_at page FILL in
      λ j. record {
        pages = pages;
        words = raw.words;
        fills = tab-set pages (field_of raw FILL) (field_of (headed raw k v) FILL) page v there (get_or-set_same raw.heads k v 0 (omega (arith, whole, there))) (λ i below ne. field-kept pages raw k v FILL i (λ e. ne (omega (arith, e)))) j;
        owners = column-kept pages raw k v OWNER (λ p below e. omega (arith, e)) j;
        serials = serials-kept pages raw k v (λ p below e. omega (arith, e)) (λ p below e. omega (arith, e)) j;
        bits = bits-kept pages raw k v (λ i below e. omega (arith, e, below)) j;
        free = tabulate pages (is_among l.free);
        chains = l.chains;
      }

  -- Writing the owner field of a page's header sets the page's owner.
  pub owned : (page v : ℕ) → page < pages
      → state_of pages (headed raw (header_at page OWNER) v) l ≡ record (state_of pages raw l) { owners = set (state_of pages raw l).owners page v }
  owned page v there =
      let k = header_at page OWNER in
      λ j. record {
        pages = pages;
        words = raw.words;
        fills = column-kept pages raw k v FILL (λ p below e. omega (arith, e)) j;
        owners = tab-set pages (field_of raw OWNER) (field_of (headed raw k v) OWNER) page v there (get_or-set_same raw.heads k v 0 (omega (arith, whole, there))) (λ i below ne. field-kept pages raw k v OWNER i (λ e. ne (omega (arith, e)))) j;
        serials = serials-kept pages raw k v (λ p below e. omega (arith, e)) (λ p below e. omega (arith, e)) j;
        bits = bits-kept pages raw k v (λ i below e. omega (arith, e, below)) j;
        free = tabulate pages (is_among l.free);
        chains = l.chains;
      }

  -- Writing the low and the high half of the serial number in a page's header sets the page's serial number.
  pub numbered : (page low high : ℕ) → page < pages
      → state_of pages (headed (headed raw (header_at page LOW) low) (header_at page HIGH) high) l ≡ record (state_of pages raw l) { serials = set (state_of pages raw l).serials page (low + 2 ^ 32 * high) }
  numbered page low high there =
      let k = header_at page LOW in let h = header_at page HIGH in let mid = headed raw k low in let long = length-set raw.heads k low in
      λ j. record {
        pages = pages;
        words = raw.words;
        fills = (column-kept pages mid h high FILL (λ p below e. omega (arith, e)) ∙ column-kept pages raw k low FILL (λ p below e. omega (arith, e))) j;
        owners = (column-kept pages mid h high OWNER (λ p below e. omega (arith, e)) ∙ column-kept pages raw k low OWNER (λ p below e. omega (arith, e))) j;
        serials = tab-set pages (serial_of raw) (serial_of (headed mid h high)) page (low + 2 ^ 32 * high) there
            (λ i. (field-kept pages mid h high LOW page (λ e. omega (arith, e)) ∙ get_or-set_same raw.heads k low 0 (omega (arith, whole, there))) i + 2 ^ 32 * get_or-set_same mid.heads h high 0 (omega (arith, whole, there, long)) i)
            (λ q below ne. λ i. (field-kept pages mid h high LOW q (λ e. omega (arith, e)) ∙ field-kept pages raw k low LOW q (λ e. ne (omega (arith, e)))) i
            + 2 ^ 32 * (field-kept pages mid h high HIGH q (λ e. ne (omega (arith, e))) ∙ field-kept pages raw k low HIGH q (λ e. omega (arith, e))) i) j;
        bits = (bits-kept pages mid h high (λ i below e. omega (arith, e, below)) ∙ bits-kept pages raw k low (λ i below e. omega (arith, e, below))) j;
        free = tabulate pages (is_among l.free);
        chains = l.chains;
      }

  -- Writing the link to a next page, or to a chain's last page, changes only the pool's lists of pages and nothing else.
  pub linked : (page field v : ℕ) → 4 ≤ field → field < 8 → state_of pages (headed raw (header_at page field) v) l ≡ state_of pages raw l
  linked page field v low high =
      let k = header_at page field in
      λ j. record {
        pages = pages;
        words = raw.words;
        fills = column-kept pages raw k v FILL (λ p below e. omega (arith, e, low, high)) j;
        owners = column-kept pages raw k v OWNER (λ p below e. omega (arith, e, low, high)) j;
        serials = serials-kept pages raw k v (λ p below e. omega (arith, e, low, high)) (λ p below e. omega (arith, e, low, high)) j;
        bits = bits-kept pages raw k v (λ i below e. omega (arith, e, below)) j;
        free = tabulate pages (is_among l.free);
        chains = l.chains;
      }

  -- Writing a word of bits in which one bit differs from the old word sets or clears this bit of a page.
  pub marked : (page bit w : ℕ) (v : Bool) → page < pages → bit < 1024 → (bit_at w (bit % 32) == 1) ≡ v
      → ((i : ℕ) → i < 32 → (i ≡ bit % 32 → ⊥) → bit_at w i ≡ bit_at (slice_index raw.heads (bits_at (1024 * page + bit))) i)
      → state_of pages (headed raw (bits_at (1024 * page + bit)) w) l ≡ record (state_of pages raw l) { bits = set (state_of pages raw l).bits (1024 * page + bit) v }
  marked page bit w v there low same other =
      let k = bits_at (1024 * page + bit) in let number = 1024 * page + bit in let new = headed raw k w in
      let rest : number % 32 ≡ bit % 32 = omega arith in
      let inside : k < length raw.heads = omega (arith, whole, there, low) in
      λ j. record {
        pages = pages;
        words = raw.words;
        fills = column-kept pages raw k w FILL (λ p below e. omega (arith, e, there, low)) j;
        owners = column-kept pages raw k w OWNER (λ p below e. omega (arith, e, there, low)) j;
        serials = serials-kept pages raw k w (λ p below e. omega (arith, e, there, low)) (λ p below e. omega (arith, e, there, low)) j;
        bits = tab-set (1024 * pages) (bit_of raw) (bit_of new) number v (omega (arith, there, low))
            ((λ i. bit_at (slice_index new.heads k) (rest i) == 1) ∙ ap (λ x. bit_at x (bit % 32) == 1) (get_or-set_same raw.heads k w 0 inside) ∙ same)
            (λ i below ne. elim (cases_eq (bits_at i) k) [
              | inl at ↦ (λ n. bit_at (slice_index new.heads (at n)) (i % 32) == 1) ∙ ap (λ x. bit_at x (i % 32) == 1) (get_or-set_same raw.heads k w 0 inside)
                  ∙ ap (λ x. x == 1) (other (i % 32) (omega arith) (λ e. ne (omega (arith, at, e, low)))) ∙ (λ n. bit_at (slice_index raw.heads (sym at n)) (i % 32) == 1)
              | inr away ↦ ap (λ x. bit_at x (i % 32) == 1) (get_or-set_other raw.heads k (bits_at i) w 0 away)
            ]) j;
        free = tabulate pages (is_among l.free);
        chains = l.chains;
      }

  -- Writing a machine word that contains bits of pages changes only the pool's bits (one for each word of a page).
  pub rewritten : (k w : ℕ) → ((page field : ℕ) → field < 8 → header_at page field ≡ k → ⊥) → state_of pages (headed raw k w) l ≡ record (state_of pages raw l) { bits = tabulate (1024 * pages) (bit_of (headed raw k w)) }
  rewritten k w apart =
      λ j. record {
        pages = pages;
        words = raw.words;
        fills = column-kept pages raw k w FILL (λ p below. apart p FILL (omega arith)) j;
        owners = column-kept pages raw k w OWNER (λ p below. apart p OWNER (omega arith)) j;
        serials = serials-kept pages raw k w (λ p below. apart p LOW (omega arith)) (λ p below. apart p HIGH (omega arith)) j;
        bits = tabulate (1024 * pages) (bit_of (headed raw k w));
        free = tabulate pages (is_among l.free);
        chains = l.chains;
      }
