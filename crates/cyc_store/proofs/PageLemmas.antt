-- Blocks that are laid out in pages are disjoint, and their pages are those that the page count of the store includes.
use Rattle.std.proofs.Common.{◌≡◌, ℕ, suc, ◌+◌, ◌*◌, ◌<◌, ◌≤◌, ◌%◌, Bool, true, false, List, [], ◌∷◌, ◌++◌, None, Some, refl, sym, ap, subst, ◌∙◌, inl, inr, arith}
use Rattle.std.specs.Prelude.{nat_le, nat_lt, if◌then◌else◌}
use Rattle.std.proofs.Math.Nat.{add-mul-mod_self_left}
use Rattle.std.proofs.lemmas.Bool.{cases_eq, cases_Bool, and_parts, leb-true, ltb-true}
use Rattle.cyc_words.specs.Demand.{page_words, pages_from}
use Rattle.cyc_words.proofs.Numbers.{when_equal, words_regrouped}
use Rattle.cyc_words.proofs.Options.{none_or_some, never_none_and_some, same_from_some}
use Rattle.cyc_store.specs.State.{lookup, changed, put, Block, Sort, Home, handle_of, empty_home, Holder, covers, holder_in, holder, with_block}
use Rattle.cyc_store.specs.Services.{IsPlaced, IsApart}
use Rattle.cyc_store.specs.declared.range.TheConstants.{STORE_BASE, PAGE_WORDS}
use Rattle.cyc_store.proofs.LookupLemmas.{when_other, IsPart, is_empty, is_left, is_kept, lookup-none}
use Rattle.cyc_store.proofs.HolderLemmas.{in-here, in-there, or_else-cases}
use Rattle.cyc_store.specs.Pages.{page_start, LiesIn, Pages, AreFilled, IsLaid, AreLaidIn, AreLaid, filled_to, drawn, owner_without, given_back, Mark, next_mark, mark_from}

-- ---- the addresses of a block

pub covers_bounds : (b : Block) (x : ℕ) → covers b x ≡ true → (b.address ≤ x) × (x < b.address + 4 * b.size)
covers_bounds b x inside =
    let both = and_parts (nat_le b.address x) (nat_lt x (b.address + 4 * b.size)) inside in
    (leb-true b.address x both.0, ltb-true x (b.address + 4 * b.size) both.1)

-- an address lies in only one page
one_page : (base p q u v m n x a c : ℕ) → a ≡ base + 4 * (1024 * p) + 4 * u → c ≡ base + 4 * (1024 * q) + 4 * v
    → a ≤ x → x < a + 4 * m → c ≤ x → x < c + 4 * n → u + m ≤ 1024 → v + n ≤ 1024 → p ≡ q
one_page base p q u v m n x a c a_is c_is a_low a_high c_low c_high a_in c_in = omega arith

-- An address past the fill mark of a page (the end of its filled words) is not among the page's filled words.
below_mark : (base p q u v n x a c f g : ℕ) → p ≡ q → f ≡ g → a ≡ base + 4 * (1024 * p) + 4 * u → c ≡ base + 4 * (1024 * q) + 4 * v
    → a ≤ x → x < c + 4 * n → f ≤ u → v + n ≤ g → ⊥
below_mark base p q u v n x a c f g same marks a_is c_is a_low c_high past below = omega arith

holder_in-laid : (pages : Pages) (h : ℕ) (bs : List Block) (x : ℕ) (k : Holder) → AreLaidIn pages h bs → holder_in h bs x ≡ Some k
    → IsLaid pages k.handle k.block × (covers k.block x ≡ true)
holder_in-laid pages h [] x k laid found = absurd (let e : None ≡ Some k = found in cc)
holder_in-laid pages h (b ∷ bs) x k laid found = elim (cases_Bool (covers b x)) [
  | inl inside ↦
      let is : record { handle = h; block = b } ≡ k = same_from_some (sym (in-here h x b bs inside) ∙ found) in
      subst (λ (z : Holder). IsLaid pages z.handle z.block × (covers z.block x ≡ true)) is (laid.0, inside)
  | inr not ↦ holder_in-laid pages h bs x k laid.1 (sym (in-there h x b bs not) ∙ found)
]

pub holder-laid : (pages : Pages) (rs : List Home) (x : ℕ) (k : Holder) → AreLaid pages rs → holder rs x ≡ Some k
    → IsLaid pages k.handle k.block × (covers k.block x ≡ true)
holder-laid pages [] x k laid found = absurd (let e : None ≡ Some k = found in cc)
holder-laid pages (r ∷ rs) x k laid found = elim (or_else-cases (holder_in r.handle r.blocks x) (holder rs x) k found) [
  | inl here ↦ holder_in-laid pages r.handle r.blocks x k laid.0 here
  | inr there ↦ holder-laid pages rs x k laid.1 there.1
]

-- a block past the fill mark of its page (the end of the filled words) is disjoint from all laid-out blocks
pub laid-apart : (pages : Pages) (rs : List Home) (page : ℕ) (b : Block) → AreLaid pages rs → AreFilled pages
    → LiesIn page (pages.filled page) PAGE_WORDS b → IsApart rs b
laid-apart pages rs page b laid full new x inside = elim (none_or_some (holder rs x)) [
  | inl none ↦ none
  | inr held ↦
      let (old, also) = holder-laid pages rs x held.0 laid held.1 in
      absurd (clash held.0 old also)
]
  where
    clash : (k : Holder) → IsLaid pages k.handle k.block → covers k.block x ≡ true → ⊥
    clash k old also =
        let (low, high) = covers_bounds b x inside in
        let (under, over) = covers_bounds k.block x also in
        let bound : old.lies.word + k.block.size ≤ pages.filled old.page = old.lies.before in
        let most : pages.filled old.page ≤ 1024 = full old.page in
        let same : page ≡ old.page =
        one_page STORE_BASE page old.page new.word old.lies.word b.size k.block.size x b.address k.block.address
        new.at old.lies.at low high under over new.before (omega (arith, bound, most)) in
        below_mark STORE_BASE page old.page new.word old.lies.word k.block.size x b.address k.block.address (pages.filled page) (pages.filled old.page)
        same (ap pages.filled same) new.at old.lies.at low over new.after bound

-- ---- a block in a page lies in the store's address range

above_base : (base a w x : ℕ) → x ≡ base + 4 * a + 4 * w → base ≤ x
above_base base a w x is = omega arith

below_end : (base p w n count x : ℕ) → x ≡ base + 4 * (1024 * p) + 4 * w → w + n ≤ 1024 → p < count → x + 4 * n ≤ base + 4 * (1024 * count)
below_end base p w n count x is inside below = omega arith

pub lies-placed : (count page low high : ℕ) (b : Block) → page < count → high ≤ PAGE_WORDS → LiesIn page low high b → IsPlaced count b
lies-placed count page low high b below most new = record {
  aligned =
      ap (λ n. n % 4) (new.at ∙ words_regrouped STORE_BASE (PAGE_WORDS * page) new.word)
      ∙ add-mul-mod_self_left STORE_BASE 4 (PAGE_WORDS * page + new.word);
  low = above_base STORE_BASE (PAGE_WORDS * page) new.word b.address new.at;
  high = below_end STORE_BASE page new.word b.size count b.address new.at (at_most (new.word + b.size) high PAGE_WORDS new.before most) below;
  some = new.some;
}
  where
    at_most : (k m n : ℕ) → k ≤ m → m ≤ n → k ≤ n
    at_most k m n first second = omega arith

-- ---- laid-out blocks stay laid out when pages change

stays-in : (pages others : Pages) (h : ℕ) (bs : List Block) → ((b : Block) → IsLaid pages h b → IsLaid others h b) → AreLaidIn pages h bs → AreLaidIn others h bs
stays-in pages others h [] stays laid = tt
stays-in pages others h (b ∷ bs) stays laid = (stays b laid.0, stays-in pages others h bs stays laid.1)

pub stays-all : (pages others : Pages) (rs : List Home) → ((h : ℕ) (b : Block) → IsLaid pages h b → IsLaid others h b) → AreLaid pages rs → AreLaid others rs
stays-all pages others [] stays laid = tt
stays-all pages others (r ∷ rs) stays laid =
    (stays-in pages others r.handle r.blocks (stays r.handle) laid.0, stays-all pages others rs stays laid.1)

-- If more words of a page are filled, each block in the pages stays correctly laid out.
pub filled-stays : (pages : Pages) (page words : ℕ) → pages.filled page ≤ words → (h : ℕ) (b : Block) → IsLaid pages h b → IsLaid (filled_to pages page words) h b
filled-stays pages page words more h b laid = record {
  page = laid.page;
  owned = laid.owned;
  lies = record {
    word = laid.lies.word;
    at = laid.lies.at;
    after = laid.lies.after;
    before = elim (cases_eq laid.page page) [
      | inl same ↦
          let bound : laid.lies.word + b.size ≤ pages.filled page = subst (λ p. laid.lies.word + b.size ≤ pages.filled p) same laid.lies.before in
          let mark : put pages.filled page words laid.page ≡ words = when_equal laid.page page words (pages.filled laid.page) same in
          subst (λ n. laid.lies.word + b.size ≤ n) (sym mark) (omega (arith, bound, more))
      | inr other ↦
          subst (λ n. laid.lies.word + b.size ≤ n) (sym (when_other laid.page page words (pages.filled laid.page) other)) laid.lies.before
    ];
    some = laid.lies.some;
  };
}

-- Taking a free page preserves the layout of all blocks.
pub drawn-stays : (pages : Pages) (page handle : ℕ) → pages.owner page ≡ None → (h : ℕ) (b : Block) → IsLaid pages h b → IsLaid (drawn pages page handle) h b
drawn-stays pages page handle free h b laid = record {
  page = laid.page;
  owned = when_other laid.page page (Some handle) (pages.owner laid.page) other ∙ laid.owned;
  lies = record {
    word = laid.lies.word;
    at = laid.lies.at;
    after = laid.lies.after;
    before = subst (λ n. laid.lies.word + b.size ≤ n) (sym (when_other laid.page page 0 (pages.filled laid.page) other)) laid.lies.before;
    some = laid.lies.some;
  };
}
  where
    other : laid.page ≡ page → ⊥
    other same = never_none_and_some free (subst (λ p. pages.owner p ≡ Some h) same laid.owned)

-- Freeing the pages of one region preserves the layout of the blocks of other regions.
pub given-stays : (pages : Pages) (gone h : ℕ) → (h ≡ gone → ⊥) → (b : Block) → IsLaid pages h b → IsLaid (given_back pages gone) h b
given-stays pages gone h other b laid = record {
  page = laid.page;
  owned = ap (owner_without gone) laid.owned ∙ when_other h gone None (Some h) other;
  lies = laid.lies;
}

-- ---- the services on regions

pub laid-drawn : (pages : Pages) (page handle : ℕ) (rs : List Home) → pages.owner page ≡ None → AreLaid pages rs → AreLaid (drawn pages page handle) rs
laid-drawn pages page handle rs free laid = stays-all pages (drawn pages page handle) rs (drawn-stays pages page handle free) laid

AreLaid-append : (pages : Pages) (rs qs : List Home) → AreLaid pages rs → AreLaid pages qs → AreLaid pages (rs ++ qs)
AreLaid-append pages [] qs laid more = more
AreLaid-append pages (r ∷ rs) qs laid more = (laid.0, AreLaid-append pages rs qs laid.1 more)

-- Opening a region with a new page preserves the layout of all blocks.
pub laid-opened : (pages : Pages) (rs : List Home) (page handle : ℕ) (sort : Sort) → pages.owner page ≡ None → AreLaid pages rs
    → AreLaid (drawn pages page handle) (rs ++ empty_home handle sort ∷ [])
laid-opened pages rs page handle sort free laid =
    AreLaid-append (drawn pages page handle) rs (empty_home handle sort ∷ [])
    (stays-all pages (drawn pages page handle) rs (drawn-stays pages page handle free) laid)
    (tt, tt)

pub laid-last : (pages : Pages) (h : ℕ) (bs : List Block) (b : Block) → AreLaidIn pages h bs → IsLaid pages h b → AreLaidIn pages h (bs ++ b ∷ [])
laid-last pages h [] b laid new = (new, tt)
laid-last pages h (a ∷ bs) b laid new = (laid.0, laid-last pages h bs b laid.1 new)

laid-changed : (pages : Pages) (h : ℕ) (rs : List Home) (b : Block) → AreLaid pages rs → IsLaid pages h b → AreLaid pages (changed handle_of (with_block b) rs h)
laid-changed pages h [] b laid new = tt
laid-changed pages h (r ∷ rs) b laid new = elim (cases_eq r.handle h) [
  | inl same ↦
      subst (AreLaid pages) (sym (when_equal r.handle h (with_block b r ∷ rs) (r ∷ changed handle_of (with_block b) rs h) same))
      (laid-last pages r.handle r.blocks b laid.0 (subst (λ n. IsLaid pages n b) (sym same) new), laid.1)
  | inr other ↦
      subst (AreLaid pages) (sym (when_other r.handle h (with_block b r ∷ rs) (r ∷ changed handle_of (with_block b) rs h) other))
      (laid.0, laid-changed pages h rs b laid.1 new)
]

-- Allocating a block past the filled words of a page, and moving the page's fill mark (their end) past the block, preserves the layout.
pub laid-made : (pages : Pages) (rs : List Home) (page h word size : ℕ) → pages.owner page ≡ Some h → pages.filled page ≤ word → 0 < size → AreLaid pages rs
    → AreLaid (filled_to pages page (word + size)) (changed handle_of (with_block (record { address = page_start page + 4 * word; size = size })) rs h)
laid-made pages rs page h word size owned past some laid =
    laid-changed (filled_to pages page (word + size)) h rs (record { address = page_start page + 4 * word; size = size })
    (stays-all pages (filled_to pages page (word + size)) rs (filled-stays pages page (word + size) (more (pages.filled page) word size past)) laid)
    (record {
      page = page;
      owned = owned;
      lies = record {
        word = word;
        at = refl;
        after = least word;
        before = subst (λ n. word + size ≤ n) (sym (when_equal page page (word + size) (pages.filled page) refl)) (same (word + size));
        some = some;
      };
    })
  where
    more : (f w n : ℕ) → f ≤ w → f ≤ w + n
    more f w n e = omega arith

    least : (n : ℕ) → 0 ≤ n
    least n = omega arith

    same : (n : ℕ) → n ≤ n
    same n = omega arith

-- Closing a region and freeing its pages preserves the layout of all other blocks.
pub laid-closed : (pages : Pages) (gone : ℕ) (rs : List Home) → lookup handle_of rs gone ≡ None → AreLaid pages rs → AreLaid (given_back pages gone) rs
laid-closed pages gone [] none laid = tt
laid-closed pages gone (r ∷ rs) none laid =
    let (other, rest) = lookup-none handle_of r rs gone none in
    (stays-in pages (given_back pages gone) r.handle r.blocks (given-stays pages gone r.handle other) laid.0, laid-closed pages gone rs rest laid.1)

pub laid-part : (pages : Pages) {qs rs : List Home} → IsPart qs rs → AreLaid pages rs → AreLaid pages qs
laid-part pages is_empty laid = tt
laid-part pages (is_left part) laid = laid-part pages part laid.1
laid-part pages (is_kept part) laid = (laid.0, laid-part pages part laid.1)

-- ---- the pages of a region

abbrev chosen : Bool → Mark → Mark → Mark
chosen b stays goes = if b then stays else goes

pages-chosen : (stays goes : Mark) (sizes : List ℕ) (b : Bool) → pages_from (chosen b stays goes).pages (chosen b stays goes).filled sizes
    ≡ (if b then pages_from stays.pages stays.filled sizes else pages_from goes.pages goes.filled sizes)
pages-chosen stays goes sizes true = refl
pages-chosen stays goes sizes false = refl

pub mark-pages : (m : Mark) (sizes : List ℕ) → (mark_from m sizes).pages ≡ pages_from m.pages m.filled sizes
mark-pages m [] = refl
mark-pages m (size ∷ sizes) =
    mark-pages (next_mark m size) sizes
    ∙ pages-chosen (record { pages = m.pages; filled = m.filled + size }) (record { pages = suc m.pages; filled = size }) sizes (nat_le (m.filled + size) page_words)

-- Adding a block to a region advances the region's fill mark (the end of its filled words) as `next_mark`
-- computes it from the block's size.
pub mark-append : (m : Mark) (sizes : List ℕ) (size : ℕ) → mark_from m (sizes ++ size ∷ []) ≡ next_mark (mark_from m sizes) size
mark-append m [] size = refl
mark-append m (first ∷ sizes) size = mark-append (next_mark m first) sizes size
