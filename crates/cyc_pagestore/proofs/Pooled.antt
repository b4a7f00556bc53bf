-- In terms of lists, a pool with the table's data stored outside the pool represents a page table before and after each call of the table.
use Rattle.std.proofs.Common.{◌≡◌, ℕ, ◌+◌, ◌*◌, ◌-◌, ◌^◌, ◌<◌, Bool, true, false, List, [], ◌∷◌, ◌++◌, length, set, length-set, refl, sym, ap, subst, ◌∙◌, inl, inr, arith, get_or-set_same, get_or-set_other}
use Rattle.std.specs.Prelude.{◌⊎◌, slice_index, slice_index_or}
use Rattle.std.proofs.lemmas.Bool.{cases_eq}
use mathlib.Core.Path.{fun_ext}
use Rattle.cyc_store.specs.Table.{free_row, row_at}
use Rattle.cyc_store.specs.inside.Kept.{IsChain, IsOneOf}
use Rattle.cyc_store.specs.declared.row.Role.{Role}
use Rattle.cyc_store.specs.declared.row.Role.TheVariants.{Rest, Slots}
use Rattle.cyc_store.specs.declared.row.Row.{Row}
use Rattle.cyc_store.specs.declared.row.TheConstants.{NONE}
use Rattle.cyc_store.proofs.SlotTables.{read-set}
use Rattle.cyc_rawpages.specs.inside.Lists.{chain_at, freed}
use Rattle.cyc_rawpages.specs.inside.Pool.{PoolState, IsFree, IsHead}
use Rattle.cyc_pagestore.specs.declared.step.Step.TheVariants.{Taken, Began, Added, Filled, Cut, Closed}
use Rattle.cyc_pagestore.specs.declared.table.Spot.{Spot}
use Rattle.cyc_pagestore.specs.inside.Links.{Links, removed, first_of, next_of, longer_of, slots_of, added_rows, after}
use Rattle.cyc_pagestore.specs.inside.Live.{filled_by, reach, AreNewer, AreOne, Readies}
use Rattle.cyc_pagestore.specs.inside.Table.{IsRoot, no_spot, spot_at, Backing, backing_of, Backs, IsBacked}
use Rattle.cyc_pagestore.proofs.Rows.{relinked-length}
use Rattle.cyc_pagestore.proofs.Backing.{with_at, at-same, at-other, taken-backs, readied-backs}
use Rattle.cyc_pagestore.proofs.Fresh.{root-away, cut-backs, begun-backs}
use Rattle.cyc_pagestore.proofs.Growing.{added-backs, filled-backs, newest-member}
use Rattle.cyc_pagestore.proofs.Closing.{gives, closed-backs}

-- Replacing a row (the data of one page) in the list of rows also replaces it in the function from page numbers to rows.
rows-set : (rows : List Row) (page : ℕ) (r : Row) → page < length rows → ◌≡◌ {A = ℕ → Row} (λ p. row_at (set rows page r) p) (with_at (λ (p : ℕ). row_at rows p) page r)
rows-set rows page r there = read-set rows page r (free_row NONE) there

spots-set : {A : Type 0} (of : Spot → A) (spots : List Spot) (page : ℕ) (x : Spot) → page < length spots
    → ◌≡◌ {A = ℕ → A} (λ q. of (spot_at (set spots page x) q)) (with_at (λ q. of (spot_at spots q)) page (of x))
spots-set of spots page x there = fun_ext (λ q. elim (cases_eq q page) [
  | inl same ↦ ap (λ n. of (spot_at (set spots page x) n)) same ∙ ap of (get_or-set_same spots page x no_spot there) ∙ sym (at-same (λ n. of (spot_at spots n)) page (of x) q same)
  | inr other ↦ ap of (get_or-set_other spots page q x no_spot other) ∙ sym (at-other (λ n. of (spot_at spots n)) page (of x) q other)
])

-- Writing one fill mark (the end of a page's filled words) changes the number of filled words of one page.
fill-set : (fills : List ℕ) (page mark filled : ℕ) → page < length fills → mark - 1024 * page ≡ filled
    → ◌≡◌ {A = ℕ → ℕ} (λ q. filled_by (set fills page mark) q) (with_at (λ (q : ℕ). filled_by fills q) page filled)
fill-set fills page mark filled there is = fun_ext (λ q. elim (cases_eq q page) [
  | inl same ↦ ap (λ n. filled_by (set fills page mark) n) same ∙ ap (λ n. n - 1024 * page) (get_or-set_same fills page mark 0 there) ∙ is ∙ sym (at-same (λ (n : ℕ). filled_by fills n) page filled q same)
  | inr other ↦ ap (λ n. n - 1024 * q) (get_or-set_other fills page q mark 0 other) ∙ sym (at-other (λ (n : ℕ). filled_by fills n) page filled q other)
])

-- Writing the value that a function already has at an argument changes nothing.
with_itself_at : {A : Type 0} (f : ℕ → A) (at : ℕ) → f ≡ with_at f at (f at)
with_itself_at f at = fun_ext (λ q. elim (cases_eq q at) [
  | inl same ↦ ap f same ∙ sym (at-same f at (f at) q same)
  | inr other ↦ sym (at-other f at (f at) q other)
])

-- ---- free pages

pub freed-in : (free : List Bool) (xs : List ℕ) (p : ℕ) → slice_index_or (freed free xs) p false ≡ true → IsOneOf xs p ⊎ (slice_index_or free p false ≡ true)
freed-in free [] p now = inr now
freed-in free (x ∷ xs) p now = elim (cases_eq p x) [
  | inl same ↦ inl (inl same)
  | inr other ↦ elim (freed-in free xs p (sym (get_or-set_other (freed free xs) x p true false other) ∙ now)) [
    | inl inside ↦ inl (inr inside)
    | inr old ↦ inr old
  ]
]

pub freed-length : (free : List Bool) (xs : List ℕ) → length (freed free xs) ≡ length free
freed-length free [] = refl
freed-length free (x ∷ xs) = length-set (freed free xs) x true ∙ freed-length free xs

pub freed-out : (free : List Bool) (xs : List ℕ) (p : ℕ) → p < length free → IsOneOf xs p ⊎ (slice_index_or free p false ≡ true) → slice_index_or (freed free xs) p false ≡ true
freed-out free [] p there which = elim which [ inl inside ↦ absurd inside | inr old ↦ old ]
freed-out free (x ∷ xs) p there which = elim (cases_eq p x) [
  | inl same ↦ ap (λ n. slice_index_or (set (freed free xs) n true) p false) (sym same) ∙ get_or-set_same (freed free xs) p true false (subst (λ n. p < n) (sym (freed-length free xs)) there)
  | inr other ↦ get_or-set_other (freed free xs) x p true false other ∙ freed-out free xs p there (elim which [
    | inl inside ↦ elim inside [ inl same ↦ absurd (other same) | inr later ↦ inl later ]
    | inr old ↦ inr old
  ])
]

-- ---- calls of the table

module _ (p : PoolState) (pages : ℕ) (spots : List Spot) (next : ℕ) (l : Links) (is : IsBacked p pages spots next l) where
  abbrev b : Backing
  b = backing_of p spots

  in_rows : (page : ℕ) → page < p.pages → page < length l.rows
  in_rows page there = subst (λ n. page < n) (sym is.rows) there

  in_spots : (page : ℕ) → page < p.pages → page < length spots
  in_spots page there = subst (λ n. page < n) (sym is.placed) there

  pub serial_of_newer : AreNewer p next
  serial_of_newer = is.backs.newer

  pub serials_one : AreOne p
  serials_one = is.backs.one

  -- If no page is free, then the list of free pages is empty.
  pub none-first : ((page : ℕ) → IsFree p.free page → ⊥) → l.free ≡ NONE
  none-first never = at l.order is.backs.linked is.backs.free
    where
      at : (order : List ℕ) → IsChain (λ (q : ℕ). (row_at l.rows q).next) l.free order → ((page : ℕ) → IsOneOf order page → (page < p.pages) × (b.free page ≡ true)) → l.free ≡ NONE
      at [] linked free = linked
      at (x ∷ xs) linked free = absurd (never x (free x (inl refl)).1)

  -- ---- a page is taken
  module _ (page : ℕ) (there : page < p.pages) (free : IsFree p.free page) where
    abbrev p-taken : PoolState
    p-taken = record p { free = set p.free page false; chains = set p.chains page (page ∷ []) }

    pub page-inside : IsOneOf l.order page
    page-inside = is.backs.all page there free

    taken-backing : backing_of p-taken spots ≡ record b { free = with_at b.free page false; chain = with_at b.chain page (page ∷ []) }
    taken-backing = λ j. record b {
      free = read-set p.free page false false (subst (λ n. page < n) (sym is.free) there) j;
      chain = read-set p.chains page (page ∷ []) [] (subst (λ n. page < n) (sym is.chains) there) j;
    }

    pub taken-backed : IsBacked p-taken pages spots next (after l (Taken page))
    taken-backed = record {
      counted = is.counted;
      whole = record { few = is.whole.few; fills = is.whole.fills; owners = is.whole.owners; serials = is.whole.serials; owned = is.whole.owned };
      words = is.words;
      bits = is.bits;
      free = length-set p.free page false ∙ is.free;
      chains = length-set p.chains page (page ∷ []) ∙ is.chains;
      placed = is.placed;
      rows = relinked-length l.rows (page ∷ removed l.order page) ∙ is.rows;
      last = is.last;
      backs = subst (λ (c : Backing). Backs c next (λ (q : ℕ). row_at (after l (Taken page)).rows q) (after l (Taken page)).free (after l (Taken page)).order) (sym taken-backing)
          (taken-backs b next l.rows l.free l.order is.backs is.rows page page-inside);
    }

    pub taken-not_free : slice_index_or p-taken.free page false ≡ false
    taken-not_free = get_or-set_same p.free page false false (subst (λ n. page < n) (sym is.free) there)

    pub taken-alone : chain_at p-taken.chains page ≡ page ∷ []
    taken-alone = get_or-set_same p.chains page (page ∷ []) [] (subst (λ n. page < n) (sym is.chains) there)

    pub taken-rest : (spot_at spots page).role ≡ Rest
    taken-rest = is.backs.unused page page-inside

  -- ---- a new serial
  module _ (q : PoolState) (s : ℕ) (ready : Readies p q s) where
    abbrev p-ready : PoolState
    p-ready = record p { fills = q.fills; serials = q.serials }

    small : s < 2 ^ 64
    small = let few = ready.few in omega (arith, few)

    same-count : q.pages ≡ p.pages
    same-count = ap (λ (t : PoolState). t.pages) ready.same

    same-owners : q.owners ≡ p.owners
    same-owners = ap (λ (t : PoolState). t.owners) ready.same

    pub ready-backed : IsBacked q pages spots s l
    ready-backed = subst (λ (t : PoolState). IsBacked t pages spots s l) (sym ready.same) (record {
      counted = is.counted;
      whole = record { few = is.whole.few; fills = ready.fill_count ∙ is.whole.fills; owners = is.whole.owners; serials = ready.serial_count ∙ is.whole.serials; owned = is.whole.owned };
      words = is.words;
      bits = is.bits;
      free = is.free;
      chains = is.chains;
      placed = is.placed;
      rows = is.rows;
      last = small;
      backs = readied-backs b next (λ (page : ℕ). row_at l.rows page) l.free l.order is.backs (λ (page : ℕ). slice_index q.serials page) (λ (page : ℕ). filled_by q.fills page) s
          (λ page below. ap (λ (os : List ℕ). reach (record q { owners = os }) page) (sym same-owners) ∙ ready.reach page below)
          (λ page below. ready.newer page (subst (λ n. page < n) (sym same-count) below))
          (λ page other below also e. sym (ap (λ (os : List ℕ). slice_index os page) same-owners)
          ∙ ready.one page other (subst (λ n. page < n) (sym same-count) below) (subst (λ n. other < n) (sym same-count) also) e ∙ ap (λ (os : List ℕ). slice_index os other) same-owners)
          ready.kept;
    })

  -- ---- a taken page
  module _ (page : ℕ) (there : page < p.pages) (rest : (spot_at spots page).role ≡ Rest) (taken : slice_index_or p.free page false ≡ false) (alone : chain_at p.chains page ≡ page ∷ []) where
    -- If a region begins in a page, the pool still represents the page table.
    module _ (role : Role) (is_root : IsRoot role) (few : next < 2 ^ 64 - 1) where
      abbrev p-begun : PoolState
      p-begun = record p { owners = set p.owners page page; fills = set p.fills page 0; serials = set p.serials page next }

      abbrev new_spots : List Spot
      new_spots = set spots page (record { role = role; newest = page })

      begun-backing : backing_of p-begun new_spots ≡ record b {
        owner = with_at b.owner page page;
        fill = with_at b.fill page 0;
        serial = with_at b.serial page next;
        role = with_at b.role page role;
        newest = with_at b.newest page page;
      }
      begun-backing = λ j. record b {
        owner = read-set p.owners page page 0 (subst (λ n. page < n) (sym is.whole.owners) there) j;
        fill = fill-set p.fills page 0 0 (subst (λ n. page < n) (sym is.whole.fills) there) (omega arith) j;
        serial = read-set p.serials page next 0 (subst (λ n. page < n) (sym is.whole.serials) there) j;
        role = spots-set (λ (s : Spot). s.role) spots page (record { role = role; newest = page }) (in_spots page there) j;
        newest = spots-set (λ (s : Spot). s.newest) spots page (record { role = role; newest = page }) (in_spots page there) j;
      }

      pub begun-backed : IsBacked p-begun pages new_spots (next + 1) (after l (Began page role))
      begun-backed = record {
        counted = is.counted;
        whole = record {
          few = is.whole.few;
          fills = length-set p.fills page 0 ∙ is.whole.fills;
          owners = length-set p.owners page page ∙ is.whole.owners;
          serials = length-set p.serials page next ∙ is.whole.serials;
          owned = λ q below. begun.owned q below;
        };
        words = is.words;
        bits = is.bits;
        free = is.free;
        chains = is.chains;
        placed = length-set spots page (record { role = role; newest = page }) ∙ is.placed;
        rows = length-set l.rows page (first_of role page) ∙ is.rows;
        last = omega (arith, few);
        backs = begun;
      }
        where
          begun : Backs (backing_of p-begun new_spots) (next + 1) (λ (q : ℕ). row_at (set l.rows page (first_of role page)) q) l.free l.order
          begun = subst (λ (u : Backing × (ℕ → Row)). Backs u.0 (next + 1) u.1 l.free l.order) (λ j. (sym begun-backing j, sym (rows-set l.rows page (first_of role page) (in_rows page there)) j))
              (begun-backs b next (λ (q : ℕ). row_at l.rows q) l.free l.order is.backs page there rest taken alone (first_of role page) role refl refl refl refl refl is_root next is.backs.newer)

    -- If a page is split into slots, the pool still represents the page table.
    module _ (class : ℕ) where
      abbrev p-cut : PoolState
      p-cut = record p { fills = set p.fills page 0 }

      abbrev cut_spots : List Spot
      cut_spots = set spots page (record { role = Slots class; newest = NONE })

      cut-backing : backing_of p-cut cut_spots ≡ record b { fill = with_at b.fill page 0; role = with_at b.role page (Slots class); newest = with_at b.newest page NONE }
      cut-backing = λ j. record b {
        fill = fill-set p.fills page 0 0 (subst (λ n. page < n) (sym is.whole.fills) there) (omega arith) j;
        role = spots-set (λ (s : Spot). s.role) spots page (record { role = Slots class; newest = NONE }) (in_spots page there) j;
        newest = spots-set (λ (s : Spot). s.newest) spots page (record { role = Slots class; newest = NONE }) (in_spots page there) j;
      }

      pub cut-backed : IsBacked p-cut pages cut_spots next (after l (Cut page class))
      cut-backed = record {
        counted = is.counted;
        whole = record { few = is.whole.few; fills = length-set p.fills page 0 ∙ is.whole.fills; owners = is.whole.owners; serials = is.whole.serials; owned = is.whole.owned };
        words = is.words;
        bits = is.bits;
        free = is.free;
        chains = is.chains;
        placed = length-set spots page (record { role = Slots class; newest = NONE }) ∙ is.placed;
        rows = length-set l.rows page (slots_of class) ∙ is.rows;
        last = is.last;
        backs = subst (λ (u : Backing × (ℕ → Row)). Backs u.0 next u.1 l.free l.order) (λ j. (sym cut-backing j, sym (rows-set l.rows page (slots_of class) (in_rows page there)) j))
            (cut-backs b next (λ (q : ℕ). row_at l.rows q) l.free l.order is.backs page there rest taken alone (slots_of class) (Slots class) refl refl refl no-root);
      }
        where
          no-root : IsRoot (Slots class) → ⊥
          no-root (inl e) = cc
          no-root (inr (inl e)) = cc
          no-root (inr (inr e)) = cc

    -- If a page is added to a region, the pool still represents the page table.
    module _ (root : ℕ) (below : root < p.pages) (is_root : IsRoot (spot_at spots root).role) (words : ℕ) where
      abbrev p-added : PoolState
      p-added = record p {
        owners = set p.owners page root;
        fills = set p.fills page (1024 * page + words);
        serials = set p.serials page (slice_index p.serials root);
        chains = set (set p.chains root (chain_at p.chains root ++ page ∷ [])) page [];
      }

      abbrev added_spots : List Spot
      added_spots = set spots root (record { role = (spot_at spots root).role; newest = page })

      added-backing : backing_of p-added added_spots ≡ record b {
        owner = with_at b.owner page root;
        fill = with_at b.fill page words;
        serial = with_at b.serial page (b.serial root);
        chain = with_at (with_at b.chain root (b.chain root ++ page ∷ [])) page [];
        newest = with_at b.newest root page;
      }
      added-backing = λ j. record b {
        owner = read-set p.owners page root 0 (subst (λ n. page < n) (sym is.whole.owners) there) j;
        fill = fill-set p.fills page (1024 * page + words) words (subst (λ n. page < n) (sym is.whole.fills) there) (omega arith) j;
        serial = read-set p.serials page (slice_index p.serials root) 0 (subst (λ n. page < n) (sym is.whole.serials) there) j;
        chain = (read-set (set p.chains root (chain_at p.chains root ++ page ∷ [])) page [] [] (subst (λ n. page < n) (sym (length-set p.chains root (chain_at p.chains root ++ page ∷ []) ∙ is.chains)) there)
            ∙ ap (λ f. with_at f page []) (read-set p.chains root (chain_at p.chains root ++ page ∷ []) [] (subst (λ n. root < n) (sym is.chains) below))) j;
        role = (spots-set (λ (s : Spot). s.role) spots root (record { role = (spot_at spots root).role; newest = page }) (in_spots root below) ∙ sym (with_itself_at b.role root)) j;
        newest = spots-set (λ (s : Spot). s.newest) spots root (record { role = (spot_at spots root).role; newest = page }) (in_spots root below) j;
      }

      added-rows : ◌≡◌ {A = ℕ → Row} (λ q. row_at (added_rows l.rows root page words) q)
          (with_at (with_at (λ (q : ℕ). row_at l.rows q) page (next_of words (row_at l.rows root).newest)) root (longer_of (row_at l.rows root) page))
      added-rows =
          rows-set (set l.rows page (next_of words (row_at l.rows root).newest)) root (longer_of (row_at l.rows root) page)
          (subst (λ n. root < n) (sym (length-set l.rows page (next_of words (row_at l.rows root).newest) ∙ is.rows)) below)
          ∙ ap (λ f. with_at f root (longer_of (row_at l.rows root) page)) (rows-set l.rows page (next_of words (row_at l.rows root).newest) (in_rows page there))

      pub added-backed : IsBacked p-added pages added_spots next (after l (Added root page words))
      added-backed = record {
        counted = is.counted;
        whole = record {
          few = is.whole.few;
          fills = length-set p.fills page (1024 * page + words) ∙ is.whole.fills;
          owners = length-set p.owners page root ∙ is.whole.owners;
          serials = length-set p.serials page (slice_index p.serials root) ∙ is.whole.serials;
          owned = λ q small. added.owned q small;
        };
        words = is.words;
        bits = is.bits;
        free = is.free;
        chains = length-set (set p.chains root (chain_at p.chains root ++ page ∷ [])) page [] ∙ length-set p.chains root (chain_at p.chains root ++ page ∷ []) ∙ is.chains;
        placed = length-set spots root (record { role = (spot_at spots root).role; newest = page }) ∙ is.placed;
        rows = length-set (set l.rows page (next_of words (row_at l.rows root).newest)) root (longer_of (row_at l.rows root) page) ∙ length-set l.rows page (next_of words (row_at l.rows root).newest) ∙ is.rows;
        last = is.last;
        backs = added;
      }
        where
          added : Backs (backing_of p-added added_spots) next (λ (q : ℕ). row_at (added_rows l.rows root page words) q) l.free l.order
          added = subst (λ (u : Backing × (ℕ → Row)). Backs u.0 next u.1 l.free l.order) (λ j. (sym added-backing j, sym added-rows j))
              (added-backs b next (λ (q : ℕ). row_at l.rows q) l.free l.order is.backs root below is_root page there rest taken alone words)

      pub root-apart : root ≡ page → ⊥
      root-apart e = root-away b next (λ (q : ℕ). row_at l.rows q) l.free l.order is.backs page there rest taken alone root is_root e

  -- ---- the region with this first page
  module _ (root : ℕ) (there : root < p.pages) (is_root : IsRoot (spot_at spots root).role) where
    abbrev newest : ℕ
    newest = (spot_at spots root).newest

    pub newest-there : newest < p.pages
    newest-there = (newest-member b next (λ (q : ℕ). row_at l.rows q) l.free l.order is.backs root there is_root).there

    pub root-head : IsHead p.chains root
    root-head = let region = is.backs.root root there is_root in (region.rest, region.head)

    -- If the fill mark (the end of the filled words) of a region's newest page is set, the pool still represents the page table.
    module _ (v : ℕ) where
      abbrev p-filled : PoolState
      p-filled = record p { fills = set p.fills newest (1024 * newest + v) }

      filled-backing : backing_of p-filled spots ≡ record b { fill = with_at b.fill newest v }
      filled-backing = λ j. record b { fill = fill-set p.fills newest (1024 * newest + v) v (subst (λ n. newest < n) (sym is.whole.fills) newest-there) (omega arith) j }

      pub filled-backed : IsBacked p-filled pages spots next (after l (Filled newest v))
      filled-backed = record {
        counted = is.counted;
        whole = record { few = is.whole.few; fills = length-set p.fills newest (1024 * newest + v) ∙ is.whole.fills; owners = is.whole.owners; serials = is.whole.serials; owned = is.whole.owned };
        words = is.words;
        bits = is.bits;
        free = is.free;
        chains = is.chains;
        placed = is.placed;
        rows = length-set l.rows newest (record (row_at l.rows newest) { filled = v }) ∙ is.rows;
        last = is.last;
        backs = subst (λ (u : Backing × (ℕ → Row)). Backs u.0 next u.1 l.free l.order)
            (λ j. (sym filled-backing j, sym (rows-set l.rows newest (record (row_at l.rows newest) { filled = v }) (in_rows newest newest-there)) j))
            (filled-backs b next (λ (q : ℕ). row_at l.rows q) l.free l.order is.backs root there is_root v);
      }

    -- If a region is closed, the pool still represents the page table.
    module _ (few : next < 2 ^ 64 - 1) where
      abbrev p-closed : PoolState
      p-closed = record p {
        fills = set p.fills root 0;
        serials = set p.serials root next;
        free = freed p.free (chain_at p.chains root);
        chains = set p.chains root [];
      }

      abbrev closed_spots : List Spot
      closed_spots = set spots root (record { role = Rest; newest = NONE })

      closed-backing : backing_of p-closed closed_spots ≡ record b {
        fill = with_at b.fill root 0;
        serial = with_at b.serial root next;
        free = λ (q : ℕ). slice_index_or (freed p.free (chain_at p.chains root)) q false;
        chain = with_at b.chain root [];
        role = with_at b.role root Rest;
        newest = with_at b.newest root NONE;
      }
      closed-backing = λ j. record b {
        fill = fill-set p.fills root 0 0 (subst (λ n. root < n) (sym is.whole.fills) there) (omega arith) j;
        serial = read-set p.serials root next 0 (subst (λ n. root < n) (sym is.whole.serials) there) j;
        free = λ (q : ℕ). slice_index_or (freed p.free (chain_at p.chains root)) q false;
        chain = read-set p.chains root [] [] (subst (λ n. root < n) (sym is.chains) there) j;
        role = spots-set (λ (s : Spot). s.role) spots root (record { role = Rest; newest = NONE }) (in_spots root there) j;
        newest = spots-set (λ (s : Spot). s.newest) spots root (record { role = Rest; newest = NONE }) (in_spots root there) j;
      }

      pub closed-backed : IsBacked p-closed pages closed_spots (next + 1) (after l (Closed root))
      closed-backed = record {
        counted = is.counted;
        whole = record {
          few = is.whole.few;
          fills = length-set p.fills root 0 ∙ is.whole.fills;
          owners = is.whole.owners;
          serials = length-set p.serials root next ∙ is.whole.serials;
          owned = is.whole.owned;
        };
        words = is.words;
        bits = is.bits;
        free = freed-length p.free (chain_at p.chains root) ∙ is.free;
        chains = length-set p.chains root [] ∙ is.chains;
        placed = length-set spots root (record { role = Rest; newest = NONE }) ∙ is.placed;
        rows = (gives b next l.rows l.free l.order is.backs is.rows root there is_root next is.backs.newer free-now free-in free-out).many ∙ is.rows;
        last = omega (arith, few);
        backs = subst (λ (c : Backing). Backs c (next + 1) (λ (q : ℕ). row_at (after l (Closed root)).rows q) (after l (Closed root)).free (after l (Closed root)).order) (sym closed-backing)
            (closed-backs b next l.rows l.free l.order is.backs is.rows root there is_root next is.backs.newer free-now free-in free-out);
      }
        where
          free-now : ℕ → Bool
          free-now q = slice_index_or (freed p.free (chain_at p.chains root)) q false

          free-in : (q : ℕ) → q < p.pages → free-now q ≡ true → IsOneOf (b.chain root) q ⊎ (b.free q ≡ true)
          free-in q below now = freed-in p.free (chain_at p.chains root) q now

          free-out : (q : ℕ) → q < p.pages → IsOneOf (b.chain root) q ⊎ (b.free q ≡ true) → free-now q ≡ true
          free-out q below which = freed-out p.free (chain_at p.chains root) q (subst (λ n. q < n) (sym is.free) below) which
