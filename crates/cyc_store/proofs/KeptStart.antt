-- A table of pages without used pages represents a store without regions.
use Rattle.std.proofs.Common.{◌≡◌, ℕ, zero, suc, ◌+◌, ◌-◌, ◌*◌, ◌/◌, ◌%◌, ◌<◌, ◌≤◌, Bool, true, false, List, [], ◌∷◌, length, None, Some, refl, sym, ap, subst, ◌∙◌, inl, inr, arith}
use Rattle.std.specs.Prelude.{◌==◌, ◌&&◌, nat_le, if◌then◌else◌, slice_index, slice_index_or}
use Rattle.cyc_words.specs.Demand.{greatest_class}
use Rattle.cyc_words.proofs.Numbers.{zero_least}
use Rattle.cyc_store.specs.State.{AreWords, Heap, Uniques, StoreState, start, opened}
use Rattle.cyc_store.specs.Soundness.{IsSound}
use Rattle.cyc_store.specs.Ledger.{Blocks, memory_of, store_of, plain_store, blocks_of, no_blocks}
use Rattle.cyc_store.specs.Slots.{Layout, IsLaidOut}
use Rattle.cyc_store.specs.Table.{Draws, row_at}
use Rattle.cyc_store.specs.inside.Kept.{handle_of_page, numbers_from, IsStocked, IsKept, no_slots}
use Rattle.cyc_store.specs.declared.row.PageTable.{PageTable}
use Rattle.cyc_store.specs.declared.row.TheConstants.{NONE}
use Rattle.cyc_store.specs.declared.row.ClassSlots.{ClassSlots}
use Rattle.cyc_store.specs.declared.range.TheConstants.{STORE_BASE, UNIQUE}
use Rattle.cyc_store.proofs.HolderLemmas.{AreSound-opened}
use Rattle.cyc_store.proofs.ServiceLemmas.{none-sound, no-pages, start-sound}
use Rattle.cyc_store.proofs.PagedStart.{all_free, bare-paged}
use Rattle.cyc_store.proofs.TieOpening.{first_row}
use Rattle.cyc_store.proofs.KeptServices.{Rewrites, kept-opened}

abbrev pub no_regions : Blocks
no_regions = record { regions = []; unique = []; classes = 0 ∷ 0 ∷ 0 ∷ 0 ∷ 0 ∷ 0 ∷ 0 ∷ 0 ∷ 0 ∷ 0 ∷ 0 ∷ [] }

abbrev pub new_slots : ClassSlots
new_slots = record { dead = NONE; fresh = 0; left = 0 }

abbrev pub all_new : List ClassSlots
all_new = new_slots ∷ new_slots ∷ new_slots ∷ new_slots ∷ new_slots ∷ new_slots ∷ new_slots ∷ new_slots ∷ new_slots ∷ new_slots ∷ new_slots ∷ []

slots-new : (c : ℕ) → c ≤ greatest_class → slice_index_or all_new c no_slots ≡ new_slots
slots-new zero bound = refl
slots-new (suc zero) bound = refl
slots-new (suc (suc zero)) bound = refl
slots-new (suc (suc (suc zero))) bound = refl
slots-new (suc (suc (suc (suc zero)))) bound = refl
slots-new (suc (suc (suc (suc (suc zero))))) bound = refl
slots-new (suc (suc (suc (suc (suc (suc zero)))))) bound = refl
slots-new (suc (suc (suc (suc (suc (suc (suc zero))))))) bound = refl
slots-new (suc (suc (suc (suc (suc (suc (suc (suc zero)))))))) bound = refl
slots-new (suc (suc (suc (suc (suc (suc (suc (suc (suc zero))))))))) bound = refl
slots-new (suc (suc (suc (suc (suc (suc (suc (suc (suc (suc zero)))))))))) bound = refl
slots-new (suc (suc (suc (suc (suc (suc (suc (suc (suc (suc (suc c))))))))))) bound = absurd (omega (arith, bound))

none-of : (c : ℕ) → c ≤ greatest_class → slice_index no_regions.classes c ≡ 0
none-of zero bound = refl
none-of (suc zero) bound = refl
none-of (suc (suc zero)) bound = refl
none-of (suc (suc (suc zero))) bound = refl
none-of (suc (suc (suc (suc zero)))) bound = refl
none-of (suc (suc (suc (suc (suc zero))))) bound = refl
none-of (suc (suc (suc (suc (suc (suc zero)))))) bound = refl
none-of (suc (suc (suc (suc (suc (suc (suc zero))))))) bound = refl
none-of (suc (suc (suc (suc (suc (suc (suc (suc zero)))))))) bound = refl
none-of (suc (suc (suc (suc (suc (suc (suc (suc (suc zero))))))))) bound = refl
none-of (suc (suc (suc (suc (suc (suc (suc (suc (suc (suc zero)))))))))) bound = refl
none-of (suc (suc (suc (suc (suc (suc (suc (suc (suc (suc (suc c))))))))))) bound = absurd (omega (arith, bound))

no-words : AreWords (memory_of [])
no-words address = either ((address % 4 == 0) && nat_le 536870912 address)
  where
    either : (b : Bool) → (if b then 0 else 0) < 4294967296
    either true = omega arith
    either false = omega arith

abbrev pub first_layout : (most : ℕ) → Layout
first_layout most = record { pages = all_free; free = numbers_from 0 most; class = λ (page : ℕ). 0; dead = λ (class : ℕ). [] }

first-sound : (most : ℕ) → IsSound (store_of most [] no_regions)
first-sound most = record {
  regions = AreSound-opened [] UNIQUE Uniques (none-sound most) refl;
  uniques = tt;
  words = no-words;
  classes = refl;
  enough = λ c bound. few c _ _ (no-pages c bound);
  demand = zero_least most;
}
  where
    few : (c m n : ℕ) → m ≡ 0 → m ≤ n
    few c m n none = omega (arith, none)

pub first-laid : (most : ℕ) → IsLaidOut (store_of most [] no_regions) (first_layout most)
first-laid most = record {
  sound = first-sound most;
  paged = bare-paged most (memory_of []);
  covered = λ page word h owned other below. absurd (let e : None ≡ Some h = owned in cc);
  slots = record {
    bound = λ page owned. absurd (let e : None ≡ Some UNIQUE = owned in cc);
    whole = λ page owned. absurd (let e : None ≡ Some UNIQUE = owned in cc);
    live = λ first b there. absurd (let e : None ≡ Some b = there in cc);
    dead = λ c bound. tt;
    apart = λ c bound. tt;
    count = λ c bound. none (slice_index no_regions.classes c) _ (none-of c bound);
  };
}
  where
    none : (n m : ℕ) → n ≡ 0 → 0 + 0 ≡ n * m
    none n m e = sym (ap (λ k. k * m) e ∙ zeroes m)
      where
        zeroes : (k : ℕ) → 0 * k ≡ 0 + 0
        zeroes k = omega arith

-- A table from which no page was taken satisfies the invariant for a store without regions.
pub first-kept : (t : PageTable) → t.most ≤ 65536 → t.words.items ≡ [] → t.live.items ≡ [] → t.rows.items ≡ [] → t.free ≡ NONE → IsKept t [] all_new no_regions
first-kept t most words live rows free = record {
  whole = record {
    words = ap length words ∙ (none ∙ ap (λ rs. 1024 * length rs) (sym rows));
    live = ap length live ∙ (none ∙ ap (λ rs. 1024 * length rs) (sym rows));
  };
  eleven = refl;
  layout = first_layout t.most;
  laid = subst (λ ws. IsLaidOut (store_of t.most ws no_regions) (first_layout t.most)) (sym words) (first-laid t.most);
  tied = record {
    most = most;
    few = subst (λ rs. length rs ≤ t.most) (sym rows) (zero_least t.most);
    drawn = λ page h owned. absurd (let e : None ≡ Some h = owned in cc);
    rows = λ page. record { marks = ap (λ rs. (row_at rs page).filled) rows; plays = ap (λ rs. (row_at rs page).role) rows };
    given = [];
    free = ap (numbers_from 0) (whole t.most) ∙ ap (λ n. numbers_from n (t.most - n)) (sym (ap length rows));
    linked = free;
    within = tt;
    homes = λ page h owned other. absurd (let e : None ≡ Some h = owned in cc);
    roots = λ h r found. absurd (let e : None ≡ Some r = found in cc);
    newest = refl;
    stock = λ c bound. subst (λ s. IsStocked (λ i. slice_index t.words.items i) s c []) (sym (slots-new c bound)) (record { chain = []; all = refl; linked = refl });
    marked = λ page number owned inside. absurd (let e : None ≡ Some UNIQUE = owned in cc);
    unmarked = λ page number other small. ap (λ ms. slice_index_or ms (1024 * page + number) false) live;
  };
}
  where
    none : 0 ≡ 1024 * 0
    none = omega arith

    whole : (n : ℕ) → n ≡ n - 0
    whole n = omega arith

-- ---- opening the heap

module _ (t : PageTable) (least_pages : 1 ≤ t.most) (most : t.most ≤ 65536) (words : t.words.items ≡ []) (live : t.live.items ≡ []) (rows : t.rows.items ≡ []) (free : t.free ≡ NONE)
    (u : PageTable) (page : ℕ) (draws : Draws t u page) where
  first : IsKept t [] all_new no_regions
  first = first-kept t most words live rows free

  page-zero : page ≡ 0
  page-zero = elim draws.from [
    | inl again ↦ absurd (never (length t.rows.items) t.free (ap length rows) again.0)
    | inr new ↦ new.1 ∙ ap length rows
  ]
    where
      never : (n f : ℕ) → n ≡ 0 → f < n → ⊥
      never n f none less = omega (arith, none, less)

  room : (length t.rows.items ≤ t.free) × (t.most ≤ length t.rows.items) → ⊥
  room full = past (length t.rows.items) t.most (ap length rows) least_pages full.1
    where
      past : (n m : ℕ) → n ≡ 0 → 1 ≤ m → m ≤ n → ⊥
      past n m none some more = omega (arith, none, some, more)

  -- The store in which only the heap is open, with the page `root` as the heap's first page.
  abbrev with_heap : (root : ℕ) → StoreState
  with_heap root = opened (store_of t.most t.words.items no_regions) (handle_of_page root) Heap

  heap-sound : IsSound (with_heap page)
  heap-sound = subst (λ p. IsSound (with_heap p)) (sym page-zero) (start-sound t.most (memory_of t.words.items) (subst (λ ws. AreWords (memory_of ws)) (sym words) no-words) least_pages)

  pub heap-kept : (v : PageTable) → Rewrites u v page (first_row Heap page) → (c : Blocks) → c ≡ no_blocks → (lexicals : List ℕ) → lexicals ≡ [] → IsKept v lexicals all_new c
  heap-kept v is c noted lexicals none =
      subst (λ xs. IsKept v xs all_new c) (sym none) (subst (IsKept v [] all_new) (sym (noted ∙ ap (λ p. blocks_of (opened (plain_store no_regions) (handle_of_page p) Heap)) (sym page-zero)))
      (kept-opened t [] all_new no_regions first u page draws room v Heap is heap-sound))

  pub heap-held : (pages : ℕ) → t.most ≡ pages → (ws : List ℕ) (c : Blocks) → c ≡ no_blocks → store_of u.most ws c ≡ start pages (memory_of ws)
  heap-held pages is ws c noted = ap (λ n. store_of n ws c) (draws.most ∙ is) ∙ ap (store_of pages ws) noted

  -- All contents of memory are 32-bit words.
  pub heap-words : AreWords (memory_of u.words.items)
  heap-words address = found ((address % 4 == 0) && nat_le STORE_BASE address) ((address - STORE_BASE) / 4)
    where
      nothing : (word : ℕ) → slice_index (let none : List ℕ = [] in none) word < 4294967296
      nothing zero = omega arith
      nothing (suc word) = omega arith

      found : (b : Bool) (word : ℕ) → (if b then slice_index u.words.items word else 0) < 4294967296
      found true word = subst (λ n. n < 4294967296) (sym (draws.words word ∙ ap (λ ws. slice_index ws word) words)) (nothing word)
      found false word = omega arith
