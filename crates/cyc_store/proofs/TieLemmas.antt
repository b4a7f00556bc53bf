-- This file is about chains (linked lists of pages or slots) in a page table, and about taking a free page.
use Rattle.std.proofs.Common.{◌≡◌, ◌≢◌, ℕ, suc, ◌-◌, ◌<◌, ◌≤◌, List, [], ◌∷◌, ◌++◌, length, refl, sym, ap, subst, ◌∙◌, inl, inr, arith}
use Rattle.std.specs.Prelude.{◌⊎◌, ◌==◌, if◌then◌else◌}
use Rattle.std.specs.List.{AllByRecursion}
use Rattle.std.proofs.lemmas.Bool.{cases_lt}
use mathlib.Core.Path.{fun_ext}
use Rattle.cyc_store.specs.Ledger.{Blocks}
use Rattle.cyc_store.specs.Slots.{Layout}
use Rattle.cyc_store.specs.Table.{row_at, Draws}
use Rattle.cyc_store.specs.inside.Kept.{Table, IsChain, numbers_from, IsTied, table_of}
use Rattle.cyc_store.specs.declared.row.PageTable.{PageTable}
use Rattle.cyc_store.specs.declared.row.Row.{Row}
use Rattle.cyc_store.specs.declared.row.TheConstants.{NONE}
use Rattle.cyc_store.specs.declared.row.ClassSlots.{ClassSlots}
use Rattle.cyc_store.proofs.LookupLemmas.{when_other}

-- ---- chains of pages

-- If the links of all elements of a linked list (chain) are unchanged, then the linked list is unchanged.
pub chain-also : (next also : ℕ → ℕ) (first : ℕ) (xs : List ℕ) → AllByRecursion (λ x. also x ≡ next x) xs → IsChain next first xs → IsChain also first xs
chain-also next also first [] all linked = linked
chain-also next also first (x ∷ xs) all linked = (linked.0, chain-also next also (also x) xs all.1 (subst (λ n. IsChain next n xs) (sym all.0) linked.1))

-- Changing the page table's row of one page does not affect lists of other pages.
pub all-away : (row : ℕ → Row) (page : ℕ) (r : Row) (xs : List ℕ) → AllByRecursion (λ x. page ≢ x) xs
    → AllByRecursion (λ x. (if x == page then r else row x).next ≡ (row x).next) xs
all-away row page r [] away = tt
all-away row page r (x ∷ xs) away = (ap (λ (y : Row). y.next) (when_other x page r (row x) (λ e. away.0 (sym e))), all-away row page r xs away.1)

-- ---- taking a page

module _ (t : Table) (lexicals : List ℕ) (classes : ℕ → ClassSlots) (b : Blocks) (l : Layout) (tied : IsTied t lexicals classes b l) where
  below-none : t.count < NONE
  below-none = few t.count t.most tied.few tied.most
    where
      few : (n m : ℕ) → n ≤ m → m ≤ 65536 → n < 4294967295
      few n m first second = omega (arith, first, second)

  -- If no page that was used before is free, then the free pages are those that were never used.
  pub all-fresh : t.count ≤ t.free → l.free ≡ numbers_from t.count (t.most - t.count)
  all-fresh past = by tied.given tied.free tied.linked tied.within
    where
      by : (given : List ℕ) → l.free ≡ given ++ numbers_from t.count (t.most - t.count) → IsChain (λ p. (t.row p).next) t.free given → AllByRecursion (λ p. p < t.count) given
          → l.free ≡ numbers_from t.count (t.most - t.count)
      by [] free linked within = free
      by (x ∷ given) free linked within = absurd (clash t.free x t.count linked.0 within.0 past)
        where
          clash : (f x n : ℕ) → f ≡ x → x < n → n ≤ f → ⊥
          clash f x n same less more = omega (arith, same, less, more)

  -- If no page that was used before is free, and no page is left that was never used, then there is no free page.
  pub none-free : t.count ≤ t.free → t.most ≤ t.count → l.free ≡ []
  none-free past most = all-fresh past ∙ ap (numbers_from t.count) (nothing t.most t.count most)
    where
      nothing : (m n : ℕ) → m ≤ n → m - n ≡ 0
      nothing m n e = omega (arith, e)

  -- the table after the first free page is taken
  abbrev taken : (count free : ℕ) → Table
  taken count free = record t { count = count; free = free }

  pub record IsTaken (page count free : ℕ) : Type 0 where
    pub rest : List ℕ
    pub first : l.free ≡ page ∷ rest
    pub ties : IsTied (taken count free) lexicals classes b (record l { free = rest })

  moved : (count free : ℕ) (rest given : List ℕ) → t.count ≤ count → count ≤ t.most → rest ≡ given ++ numbers_from count (t.most - count)
      → IsChain (λ p. (t.row p).next) free given → AllByRecursion (λ p. p < count) given → IsTied (taken count free) lexicals classes b (record l { free = rest })
  moved count free rest given more few is linked within = record {
    most = tied.most;
    few = few;
    drawn = λ p h owned. reach p t.count count (tied.drawn p h owned) more;
    rows = tied.rows;
    given = given;
    free = is;
    linked = linked;
    within = within;
    homes = tied.homes;
    roots = tied.roots;
    newest = tied.newest;
    stock = tied.stock;
    marked = tied.marked;
    unmarked = tied.unmarked;
  }
    where
      reach : (p n m : ℕ) → p < n → n ≤ m → p < m
      reach p n m less more = omega (arith, less, more)

  -- If a page that was used before is free, then the page that is taken is one that was used before.
  pub taken-again : t.free < t.count → IsTaken t.free t.count (t.row t.free).next
  taken-again below = by tied.given tied.free tied.linked tied.within
    where
      by : (given : List ℕ) → l.free ≡ given ++ numbers_from t.count (t.most - t.count) → IsChain (λ p. (t.row p).next) t.free given → AllByRecursion (λ p. p < t.count) given
          → IsTaken t.free t.count (t.row t.free).next
      by [] free linked within = absurd (clash t.free t.count NONE linked below below-none)
        where
          clash : (f n e : ℕ) → f ≡ e → f < n → n < e → ⊥
          clash f n e same less more = omega (arith, same, less, more)
      by (x ∷ given) free linked within = record {
        rest = given ++ numbers_from t.count (t.most - t.count);
        first = free ∙ ap (λ n. n ∷ (given ++ numbers_from t.count (t.most - t.count))) (sym linked.0);
        ties = moved t.count (t.row t.free).next (given ++ numbers_from t.count (t.most - t.count)) given (same t.count) tied.few refl
            (subst (λ n. IsChain (λ p. (t.row p).next) (t.row n).next given) (sym linked.0) linked.1) within.1;
      }
        where
          same : (n : ℕ) → n ≤ n
          same n = omega arith

  -- If no page that was used before is free, then a page that was never used is taken.
  pub taken-new : t.count ≤ t.free → t.count < t.most → IsTaken t.count (suc t.count) t.free
  taken-new past room = by tied.given tied.free tied.linked tied.within
    where
      by : (given : List ℕ) → l.free ≡ given ++ numbers_from t.count (t.most - t.count) → IsChain (λ p. (t.row p).next) t.free given → AllByRecursion (λ p. p < t.count) given
          → IsTaken t.count (suc t.count) t.free
      by [] free linked within = record {
        rest = numbers_from (suc t.count) (t.most - suc t.count);
        first = free ∙ ap (numbers_from t.count) (one_more t.most t.count room);
        ties = moved (suc t.count) t.free (numbers_from (suc t.count) (t.most - suc t.count)) [] (more t.count) (within_most t.count t.most room) refl linked tt;
      }
        where
          one_more : (m n : ℕ) → n < m → m - n ≡ suc (m - suc n)
          one_more m n e = omega (arith, e)

          more : (n : ℕ) → n ≤ suc n
          more n = omega arith

          within_most : (n m : ℕ) → n < m → suc n ≤ m
          within_most n m e = omega (arith, e)
      by (x ∷ given) free linked within = absurd (clash t.free x t.count linked.0 within.0 past)
        where
          clash : (f x n : ℕ) → f ≡ x → x < n → n ≤ f → ⊥
          clash f x n same less more = omega (arith, same, less, more)

-- ---- the effect of `draw`

-- After a page is taken, the page table's rows, words and flags read as before; only the number of
-- used pages and the first free page differ.
pub drawn-table : (old new : PageTable) (page : ℕ) → Draws old new page
    → table_of new ≡ record (table_of old) { count = length new.rows.items; free = new.free }
drawn-table old new page draws =
    let rows : (λ (p : ℕ). row_at new.rows.items p) ≡ (λ (p : ℕ). row_at old.rows.items p) = fun_ext draws.rows in
    let words : (table_of new).word ≡ (table_of old).word = fun_ext draws.words in
    let live : (table_of new).live ≡ (table_of old).live = fun_ext draws.live in
    ap (λ n. record (table_of new) { most = n }) draws.most
    ∙ (ap (λ (f : ℕ → Row). record (table_of new) { most = old.most; row = f }) rows
    ∙ (ap (λ f. record (table_of new) { most = old.most; row = (table_of old).row; word = f }) words
    ∙ ap (λ f. record (table_of new) { most = old.most; row = (table_of old).row; word = (table_of old).word; live = f }) live))

pub record IsDrawn (old new : PageTable) (lexicals : List ℕ) (classes : ℕ → ClassSlots) (b : Blocks) (l : Layout) (page : ℕ) : Type 0 where
  pub rest : List ℕ
  pub first : l.free ≡ page ∷ rest
  pub tied : IsTied (table_of new) lexicals classes b (record l { free = rest })
  pub there : page < length new.rows.items

pub drawn-tied : (old new : PageTable) (lexicals : List ℕ) (classes : ℕ → ClassSlots) (b : Blocks) (l : Layout) (page : ℕ) → Draws old new page
    → IsTied (table_of old) lexicals classes b l → ((length old.rows.items ≤ old.free) × (old.most ≤ length old.rows.items) → ⊥) → IsDrawn old new lexicals classes b l page
drawn-tied old new lexicals classes b l page draws tied room = by draws.from
  where
    by : ((old.free < length old.rows.items) × (page ≡ old.free) × (new.free ≡ (row_at old.rows.items page).next) × (length new.rows.items ≡ length old.rows.items))
        ⊎ ((length old.rows.items ≤ old.free) × (page ≡ length old.rows.items) × (new.free ≡ old.free) × (length new.rows.items ≡ suc (length old.rows.items)))
        → IsDrawn old new lexicals classes b l page
    by (inl again) =
        let took = taken-again (table_of old) lexicals classes b l tied again.0 in
        record {
          rest = took.rest;
          first = took.first ∙ ap (λ n. n ∷ took.rest) (sym again.1);
          tied = subst (λ (t : Table). IsTied t lexicals classes b (record l { free = took.rest }))
              (sym (drawn-table old new page draws
              ∙ (ap (λ n. record (table_of old) { count = n; free = new.free }) again.3
              ∙ ap (λ n. record (table_of old) { count = length old.rows.items; free = n }) (again.2 ∙ ap (λ n. (row_at old.rows.items n).next) again.1))))
              took.ties;
          there = inside page old.free (length old.rows.items) (length new.rows.items) again.1 again.0 again.3;
        }
      where
        inside : (p f n m : ℕ) → p ≡ f → f < n → m ≡ n → p < m
        inside p f n m first second third = omega (arith, first, second, third)
    by (inr more) =
        let took = taken-new (table_of old) lexicals classes b l tied more.0 (less (length old.rows.items) old.most (λ e. room (more.0, e))) in
        record {
          rest = took.rest;
          first = took.first ∙ ap (λ n. n ∷ took.rest) (sym more.1);
          tied = subst (λ (t : Table). IsTied t lexicals classes b (record l { free = took.rest }))
              (sym (drawn-table old new page draws
              ∙ (ap (λ n. record (table_of old) { count = n; free = new.free }) more.3
              ∙ ap (λ n. record (table_of old) { count = suc (length old.rows.items); free = n }) more.2)))
              took.ties;
          there = inside page (length old.rows.items) (length new.rows.items) more.1 more.3;
        }
      where
        less : (n m : ℕ) → (m ≤ n → ⊥) → n < m
        less n m not = elim (cases_lt n m) [ inl is ↦ is | inr past ↦ absurd (not past) ]

        inside : (p n m : ℕ) → p ≡ n → m ≡ suc n → p < m
        inside p n m first second = omega (arith, first, second)
