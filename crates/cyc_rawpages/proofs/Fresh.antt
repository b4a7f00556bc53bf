-- Lemmas about creating a pool, whose pages are linked one after the other, beginning with the last page.
use Rattle.std.proofs.Common.{◌≡◌, ℕ, zero, suc, ◌+◌, ◌-◌, ◌*◌, ◌%◌, ◌^◌, ◌<◌, ◌≤◌, [], ◌∷◌, length, replicate, refl, sym, ap, subst, ◌∙◌, arith, length-set, inl, inr}
use Rattle.std.specs.Prelude.{◌==◌, true, false, slice_index}
use Rattle.std.specs.List.{AllByRecursion}
use Rattle.std.specs.Int.{bit_at}
use Rattle.std.proofs.lemmas.Nat.Bits.{bit_at-zero}
use Rattle.std.proofs.lemmas.Bool.{cases_eq, cond-true, cond-false, eq-eqb, ne_eqb}
use Rattle.std.proofs.lemmas.List.{length-replicate}
use Rattle.cyc_rawpages.specs.inside.Lists.{Lists, chain_at, numbers_from, all_free, is_among}
use Rattle.cyc_rawpages.specs.inside.Words.{Parts, headed}
use Rattle.cyc_rawpages.specs.inside.Pool.{header_at, field_of, serial_of, bits_at, bit_of, state_of, put, IsLinked, IsDistinct, IsIn, IsChain, LinksAll, IsPool, new_pool}
use Rattle.cyc_rawpages.specs.declared.header.TheConstants.{FILL, OWNER, LOW, HIGH, NEXT, TAIL, NONE}
use Rattle.cyc_rawpages.proofs.Columns.{tab-all, linked}
use Rattle.cyc_rawpages.proofs.Links.{put-there, put-elsewhere, all-map, linked-same}
use Rattle.cyc_rawpages.proofs.PoolLemmas.{header-in, field-put}

-- Says that the pages from index `left` on are linked as free pages.
pub record IsLinking (pages : ℕ) (old new : Parts) (first left : ℕ) : Type 0 where
  pub fits : left ≤ pages
  pub whole : length new.heads ≡ 40 * pages
  pub words : new.words ≡ old.words
  pub same : (l : Lists) → state_of pages new l ≡ state_of pages old l
  pub linked : IsLinked (field_of new NEXT) first (numbers_from left (pages - left)) NONE

above : (first count k : ℕ) → k < first → AllByRecursion (λ x. k < x) (numbers_from first count)
above first zero k lt = tt
above first (suc count) k lt = (lt, above (suc first) count k (omega (arith, lt)))

pub steps : (pages : ℕ) (old new : Parts) (first left : ℕ) → 0 < left → IsLinking pages old new first left
    → IsLinking pages old (headed new (header_at (left - 1) NEXT) first) (left - 1) (left - 1)
steps pages old new first zero some is = absurd (omega (arith, some))
steps pages old new first (suc left) some is =
    let less : suc left - 1 ≡ left = omega arith in let fits = is.fits in let there : left < pages = omega (arith, fits) in let k = header_at left NEXT in
    let next = put (field_of new NEXT) left first in
    rw less (record {
      fits = omega (arith, fits);
      whole = length-set new.heads k first ∙ is.whole;
      words = is.words;
      same = λ l. linked pages new l is.whole left NEXT first (omega arith) (omega arith) ∙ is.same l;
      linked = subst (λ n. IsLinked (field_of (headed new k first) NEXT) left (numbers_from left n) NONE) {x = suc (pages - suc left)} {y = pages - left} (omega (arith, there))
          (subst (λ f. IsLinked f left (left ∷ numbers_from (suc left) (pages - suc left)) NONE) (sym (field-put pages left NEXT first new (header-in pages left NEXT new is.whole there (omega arith)))) (
            refl,
            subst (λ q. IsLinked next q (numbers_from (suc left) (pages - suc left)) NONE) (sym (put-there (field_of new NEXT) left first left refl))
                (linked-same (field_of new NEXT) next first (numbers_from (suc left) (pages - suc left)) NONE
                (all-map (numbers_from (suc left) (pages - suc left)) (λ q high. put-elsewhere (field_of new NEXT) left first q (λ e. omega (arith, e, high))) (above (suc left) (pages - suc left) left (omega arith)))
                is.linked),
          ));
    })

-- ---- all pages linked
distinct-numbers : (first count : ℕ) → IsDistinct (numbers_from first count)
distinct-numbers first zero = tt
distinct-numbers first (suc count) = (all-map (numbers_from (suc first) count) (λ q high e. omega (arith, e, high)) (above (suc first) count first (omega arith)), distinct-numbers (suc first) count)

in-range : (first count pages : ℕ) → first + count ≤ pages → AllByRecursion (IsIn pages (λ _. NONE) NONE) (numbers_from first count)
in-range first zero pages le = tt
in-range first (suc count) pages le = ((omega (arith, le), refl), in-range (suc first) count pages (omega (arith, le)))

no-chain : (n head : ℕ) → chain_at (replicate n []) head ≡ []
no-chain zero head = refl
no-chain (suc n) zero = refl
no-chain (suc n) (suc head) = no-chain n head

among-numbers : (first count page : ℕ) → first ≤ page → page < first + count → is_among (numbers_from first count) page ≡ true
among-numbers first zero page from to = absurd (omega (arith, from, to))
among-numbers first (suc count) page from to = elim (cases_eq page first) [
  | inl same ↦ cond-true (page == first) true (is_among (numbers_from (suc first) count) page) (eq-eqb page first same)
  | inr other ↦ cond-false (page == first) true (is_among (numbers_from (suc first) count) page) (ne_eqb page first other) ∙ among-numbers (suc first) count page (omega (arith, from, other)) (omega (arith, to))
]

pub fresh-pool : (pages : ℕ) (old new : Parts) (first : ℕ) → pages ≤ 65536 → length old.words ≡ 1024 * pages → LinksAll pages old new first → IsPool pages new first (all_free pages)
fresh-pool pages old new first few long is = record {
  whole = is.whole;
  words = ap length is.words ∙ long;
  up = record {
    few = few;
    many = length-replicate pages [];
    home = λ _. NONE;
    linked = is.linked;
    unused = in-range 0 pages pages (omega arith);
    apart = distinct-numbers 0 pages;
    run = λ head below. subst (IsChain pages (field_of new NEXT) (field_of new TAIL) (λ _. NONE) head) (sym (no-chain pages head)) tt;
  };
  made = λ page below. inl (among-numbers 0 pages page (omega arith) (omega (arith, below)));
}

zero-at : (n i : ℕ) → slice_index (replicate n 0) i ≡ 0
zero-at zero i = refl
zero-at (suc n) zero = refl
zero-at (suc n) (suc i) = zero-at n i

abbrev blank : (heads words : ℕ) → Parts
blank heads words = record { heads = replicate heads 0; words = replicate words 0; made = 0 }

pub fresh-state : (pages n : ℕ) → state_of pages (blank n (1024 * pages)) (all_free pages) ≡ new_pool pages
fresh-state pages n =
    let raw = blank n (1024 * pages) in
    λ j. record {
      pages = pages;
      words = raw.words;
      fills = tab-all pages (field_of raw FILL) 0 (λ i lt. zero-at n _) j;
      owners = tab-all pages (field_of raw OWNER) 0 (λ i lt. zero-at n _) j;
      serials = tab-all pages (serial_of raw) 0 (λ i lt. λ k. zero-at n (header_at i LOW) k + 2 ^ 32 * zero-at n (header_at i HIGH) k) j;
      bits = tab-all (1024 * pages) (bit_of raw) false (λ i lt. ap (λ w. bit_at w (i % 32) == 1) (zero-at n (bits_at i)) ∙ ap (λ k. k == 1) (bit_at-zero (i % 32))) j;
      free = tab-all pages (is_among (numbers_from 0 pages)) true (λ i lt. among-numbers 0 pages i (omega arith) (omega (arith, lt))) j;
      chains = replicate pages [];
    }
