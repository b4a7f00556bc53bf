-- A new pool represents a page table whose pages are all free.
use Rattle.std.proofs.Common.{◌≡◌, ℕ, zero, suc, ◌+◌, ◌*◌, ◌<◌, ◌≤◌, true, false, List, [], length, replicate, refl, sym, ap, subst, ◌∙◌, inl, inr, arith}
use Rattle.std.specs.List.{AllByRecursion}
use Rattle.std.proofs.lemmas.Bool.{cases_eq}
use Rattle.std.proofs.lemmas.List.{length-replicate}
use Rattle.cyc_words.proofs.Items.{slice_index_or_replicate_same, slice_index_or_replicate, slice_index_zeros}
use Rattle.cyc_store.specs.Table.{free_row, row_at}
use Rattle.cyc_store.specs.inside.Kept.{IsOneOf, numbers_from}
use Rattle.cyc_store.specs.declared.row.Row.{Row}
use Rattle.cyc_store.specs.declared.row.TheConstants.{NONE}
use Rattle.cyc_store.proofs.TieClosing.{all-from}
use Rattle.cyc_store.proofs.PagedStart.{are-distinct}
use Rattle.cyc_rawpages.specs.inside.Pool.{PoolState, new_pool}
use Rattle.cyc_pagestore.specs.declared.step.Step.TheVariants.{Made}
use Rattle.cyc_pagestore.specs.declared.table.Spot.{Spot}
use Rattle.cyc_pagestore.specs.inside.Links.{Links, no_links, after}
use Rattle.cyc_pagestore.specs.inside.Table.{no_spot, spot_at, backing_of, reach_of, Backs, IsBacked}
use Rattle.cyc_pagestore.proofs.Rows.{relinked-length, relinked-row, relinked-chain}
use Rattle.cyc_pagestore.proofs.Reaching.{reach-empty}
use Rattle.cyc_pagestore.proofs.Backing.{rest-no_root}

-- ---- consecutive numbers

pub numbers-out : (first count p : ℕ) → IsOneOf (numbers_from first count) p → (first ≤ p) × (p < first + count)
numbers-out first zero p inside = absurd inside
numbers-out first (suc count) p (inl same) = (omega (arith, same), omega (arith, same))
numbers-out first (suc count) p (inr later) = let (low, high) = numbers-out (suc first) count p later in (omega (arith, low), omega (arith, high))

pub numbers-in : (first count p : ℕ) → first ≤ p → p < first + count → IsOneOf (numbers_from first count) p
numbers-in first zero p low high = absurd (omega (arith, low, high))
numbers-in first (suc count) p low high = elim (cases_eq p first) [
  | inl same ↦ inl same
  | inr other ↦ inr (numbers-in (suc first) count p (omega (arith, low, other)) (omega (arith, high)))
]

-- ---- the whole pool

module _ (n : ℕ) (few : n ≤ 65536) where
  abbrev p : PoolState
  p = new_pool n

  abbrev spots : List Spot
  spots = replicate n no_spot

  abbrev l : Links
  l = after no_links (Made n)

  abbrev blank : List Row
  blank = replicate n (free_row NONE)

  abbrev order : List ℕ
  order = numbers_from 0 n

  pub within : AllByRecursion (λ x. x < length blank) order
  within = all-from (λ x. x < length blank) order (λ x inside. subst (λ m. x < m) (sym (length-replicate n (free_row NONE))) (below x (numbers-out 0 n x inside).1))
    where
      below : (x : ℕ) → x < 0 + n → x < n
      below x lt = omega (arith, lt)

  row-is : (q : ℕ) → (link : ℕ) × (row_at l.rows q ≡ free_row link)
  row-is q = let r = relinked-row blank order q within in (r.0, r.1 ∙ ap (λ (s : Row). record s { next = r.0 }) (slice_index_or_replicate_same n (free_row NONE) q))

  spot-is : (q : ℕ) → spot_at spots q ≡ no_spot
  spot-is q = slice_index_or_replicate_same n no_spot q

  unfilled : (q : ℕ) → reach_of (backing_of p spots) q ≡ 0
  unfilled q = reach-empty (backing_of p spots).serial (backing_of p spots).owner (backing_of p spots).fill q (let e = slice_index_zeros n q in omega (arith, e))

  backs : Backs (backing_of p spots) 1 (λ (q : ℕ). row_at l.rows q) l.free l.order
  backs = record {
    few = few;
    owned = λ q below. let e = slice_index_zeros n q in omega (arith, e, below);
    newer = λ q below. let e = slice_index_zeros n q in omega (arith, e);
    one = λ q r below also e. slice_index_zeros n q ∙ sym (slice_index_zeros n r);
    filled = λ q below. ap (λ (s : Row). s.filled) (row-is q).1 ∙ sym (unfilled q);
    role = λ q below. ap (λ (s : Row). s.role) (row-is q).1 ∙ sym (ap (λ (s : Spot). s.role) (spot-is q));
    newest = λ q below. ap (λ (s : Row). s.newest) (row-is q).1 ∙ sym (ap (λ (s : Spot). s.newest) (spot-is q));
    idle = λ q below idle. ap (λ (s : Spot). s.newest) (spot-is q);
    held = λ q below. inl (unfilled q);
    linked = relinked-chain blank order within (are-distinct 0 n);
    apart = are-distinct 0 n;
    free = λ q inside. let b = (numbers-out 0 n q inside).1 in let lt : q < n = omega (arith, b) in (lt, slice_index_or_replicate n true false q lt);
    all = λ q below free. numbers-in 0 n q (omega arith) (omega (arith, below));
    unused = λ q inside. ap (λ (s : Spot). s.role) (spot-is q);
    root = λ r below root. absurd (rest-no_root (spot_at spots r).role (ap (λ (s : Spot). s.role) (spot-is r)) root);
  }

  pub new-backed : IsBacked p n spots 1 l
  new-backed = record {
    counted = refl;
    whole = record {
      few = few;
      fills = length-replicate n 0;
      owners = length-replicate n 0;
      serials = length-replicate n 0;
      owned = backs.owned;
    };
    words = length-replicate (1024 * n) 0;
    bits = length-replicate (1024 * n) false;
    free = length-replicate n true;
    chains = length-replicate n [];
    placed = length-replicate n no_spot;
    rows = relinked-length blank order ∙ length-replicate n (free_row NONE);
    last = omega arith;
    backs = backs;
  }
