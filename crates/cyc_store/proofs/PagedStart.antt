-- A new store has a layout in pages; opening a region for which enough pages are left preserves it.
use Rattle.std.proofs.Common.{◌≡◌, ◌≢◌, ℕ, zero, suc, ◌+◌, ◌<◌, ◌≤◌, [], length, None, Some, refl, ap, ◌∙◌, arith}
use Rattle.std.specs.List.{AllByRecursion}
use Rattle.cyc_words.specs.Distinct.{IsDistinct}
use Rattle.cyc_words.proofs.Numbers.{below_next, below_suc, below_is_not_same, le_suc_moved, below_total}
use Rattle.cyc_store.specs.State.{Memory, StoreState, start}
use Rattle.cyc_store.specs.inside.Kept.{numbers_from}
use Rattle.cyc_store.specs.declared.range.TheConstants.{PAGE_WORDS}
use Rattle.cyc_store.specs.Pages.{Pages, IsFree, IsPaged}

abbrev pub all_free : Pages
all_free = record { owner = λ (page : ℕ). None; filled = λ (page : ℕ). 0 }

-- A store before its heap region is opened.
abbrev bare : (count : ℕ) → Memory → StoreState
bare count memory = record (start count memory) { regions = [] }

are-free : (total first count : ℕ) → first + count ≤ total → AllByRecursion (IsFree total all_free) (numbers_from first count)
are-free total first zero fits = tt
are-free total first (suc count) fits =
    (record { owner = refl; below = below_total first count total fits }, are-free total (suc first) count (le_suc_moved first count total fits))

unlike_above : (x first count : ℕ) → x < first → AllByRecursion (λ (y : ℕ). x ≢ y) (numbers_from first count)
unlike_above x first zero less = tt
unlike_above x first (suc count) less = (below_is_not_same x first less, unlike_above x (suc first) count (below_suc x first less))

pub are-distinct : (first count : ℕ) → IsDistinct (numbers_from first count)
are-distinct first zero = tt
are-distinct first (suc count) = (unlike_above first (suc first) count (below_next first), are-distinct (suc first) count)

pub are-many : (first count : ℕ) → length (numbers_from first count) ≡ count
are-many first zero = refl
are-many first (suc count) = ap suc (are-many (suc first) count)

pub bare-paged : (count : ℕ) (memory : Memory) → IsPaged (bare count memory) all_free (numbers_from 0 count)
bare-paged count memory = record {
  laid = (tt, tt);
  filled = λ page. least PAGE_WORDS;
  below = λ page h e. absurd (let k : None ≡ Some h = e in cc);
  unowned = are-free count 0 count (all_of count);
  apart = are-distinct 0 count;
  count = ap (λ n. n + 0) (are-many 0 count) ∙ plain count;
  chains = λ h r e. absurd (let k : None ≡ Some r = e in cc);
}
  where
    least : (n : ℕ) → 0 ≤ n
    least n = omega arith

    all_of : (n : ℕ) → 0 + n ≤ n
    all_of n = omega arith

    plain : (n : ℕ) → n + 0 ≡ n
    plain n = omega arith
