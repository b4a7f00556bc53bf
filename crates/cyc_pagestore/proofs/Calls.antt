-- Proof obligations of the calls of a page table over a pool.
use Rattle.std.proofs.Common.{◌≡◌, ℕ, ◌+◌, ◌*◌, ◌^◌, ◌<◌, ◌≤◌, Bool, true, false, List, [], ◌∷◌, ◌++◌, length, set, replicate, refl, sym, ap, subst, ◌∙◌, inl, inr, arith}
use Rattle.std.specs.Prelude.{◌⊎◌, slice_index, slice_index_or}
use Rattle.std.proofs.lemmas.Bool.{true≢false}
use Rattle.std.proofs.lemmas.List.{get_or_default}
use Rattle.cyc_words.proofs.Items.{never_in_falses}
use Rattle.cyc_store.specs.Table.{marked_between, row_at}
use Rattle.cyc_store.specs.declared.row.Role.{Role}
use Rattle.cyc_store.specs.declared.row.Role.TheVariants.{Rest, Slots}
use Rattle.cyc_store.specs.declared.row.TheConstants.{NONE}
use Rattle.cyc_rawpages.specs.inside.Lists.{chain_at, freed}
use Rattle.cyc_rawpages.specs.inside.Pool.{PoolState, IsFree, IsHead}
use Rattle.cyc_pagestore.specs.declared.step.Step.TheVariants.{Taken, Began, Added, Filled, Cut, Closed}
use Rattle.cyc_pagestore.specs.declared.table.Spot.{Spot}
use Rattle.cyc_pagestore.specs.inside.Links.{Links, after}
use Rattle.cyc_pagestore.specs.inside.Live.{Readies}
use Rattle.cyc_pagestore.specs.inside.Table.{TableState, row_of, IsFull, IsIdlePast, IsRoot, Takes, Opens, Adds, Cuts, Fills, Closes, Marks, no_spot, spot_at, IsBacked}
use Rattle.cyc_pagestore.proofs.Backing.{within}
use Rattle.cyc_pagestore.proofs.Pooled.{none-first, page-inside, taken-backed, taken-not_free, taken-alone, taken-rest, ready-backed, begun-backed, cut-backed, added-backed, root-apart, newest-there, root-head, filled-backed, closed-backed}

abbrev pub view_of : PoolState → Links → TableState
view_of p l = record { most = p.pages; words = p.words; live = p.bits; rows = l.rows; free = l.free }

pub spot-read : (spots : List Spot) (page : ℕ) (s : Spot) → page < length spots → s ≡ slice_index_or spots page s → spot_at spots page ≡ s
spot-read spots page s there read = get_or_default spots page no_spot s there ∙ sym read

module _ (p : PoolState) (pages : ℕ) (spots : List Spot) (next : ℕ) (l : Links) (is : IsBacked p pages spots next l) (x : TableState) (view : view_of p l ≡ x) where
  pub there-in : (page : ℕ) → page < x.most → page < p.pages
  there-in page there = subst (λ (t : TableState). page < t.most) (sym view) there

  pub in-spots : (page : ℕ) → page < x.most → page < length spots
  in-spots page there = subst (λ n. page < n) (sym is.placed) (there-in page there)

  pub root-in : (root : ℕ) → root < x.most → IsRoot (row_of x root).role → IsRoot (spot_at spots root).role
  root-in root there role = subst IsRoot (is.backs.role root (there-in root there)) (subst (λ (t : TableState). IsRoot (row_of t root).role) (sym view) role)

  pub is-full : p.free ≡ replicate p.pages false → IsFull x
  is-full none = subst IsFull view (record {
    past = subst (λ n. length l.rows ≤ n) (sym (none-first p pages spots next l is (λ page free. never_in_falses p.pages page (subst (λ marks. IsFree marks page) none free)))) few;
    all = least;
  })
    where
      few : length l.rows ≤ NONE
      few = let small = is.whole.few in let many = is.rows in omega (arith, small, many)

      least : p.pages ≤ length l.rows
      least = let many = is.rows in omega (arith, many)

  module _ (page : ℕ) (there : page < p.pages) (free : IsFree p.free page) where
    abbrev p1 : PoolState
    p1 = record p { free = set p.free page false; chains = set p.chains page (page ∷ []) }

    abbrev l1 : Links
    l1 = after l (Taken page)

    pub is1 : IsBacked p1 pages spots next l1
    is1 = taken-backed p pages spots next l is page there free

    taking : Takes (view_of p l) (view_of p1 l1) page
    taking = record {
      order = l.order;
      linked = is.backs.linked;
      inside = page-inside p pages spots next l is page there free;
      within = within _ next l.rows l.free l.order is.backs is.rows page (page-inside p pages spots next l is page there free);
      apart = is.backs.apart;
      is = refl;
    }

    rest1 : (spot_at spots page).role ≡ Rest
    rest1 = taken-rest p pages spots next l is page there free

    taken1 : slice_index_or p1.free page false ≡ false
    taken1 = taken-not_free p pages spots next l is page there free

    alone1 : chain_at p1.chains page ≡ page ∷ []
    alone1 = taken-alone p pages spots next l is page there free

    -- ---- the page is split into slots
    module _ (class : ℕ) (q : PoolState) (made : q ≡ record p1 { fills = set p1.fills page 0 }) (m : Links) (noted : m ≡ after l1 (Cut page class)) where
      pub cut-keeps : IsBacked q pages (set spots page (record { role = Slots class; newest = NONE })) next m
      cut-keeps = subst (λ (u : PoolState × Links). IsBacked u.0 pages (set spots page (record { role = Slots class; newest = NONE })) next u.1) (λ j. (sym made j, sym noted j))
          (cut-backed p1 pages spots next l1 is1 page there rest1 taken1 alone1 class)

      pub cut-gives : Cuts x (view_of q m) page class
      cut-gives = subst (λ (t : TableState). Cuts t (view_of q m) page class) view (record { middle = view_of p1 l1; takes = taking; is = λ j. view_of (made j) (noted j) })

    -- ---- the page is added to a region
    module _ (root words : ℕ) (below : root < p.pages) (role : IsRoot (spot_at spots root).role) where
      pub add-apart : root ≡ page → ⊥
      add-apart e = root-apart p1 pages spots next l1 is1 page there rest1 taken1 alone1 root below role words e

      pub add-head : IsHead p1.chains root
      add-head = root-head p1 pages spots next l1 is1 root below role

      pub add-alone : chain_at p1.chains page ≡ page ∷ []
      add-alone = alone1

      module _ (q : PoolState) (made : q ≡ record p1 {
        owners = set p1.owners page root;
        fills = set p1.fills page (1024 * page + words);
        serials = set p1.serials page (slice_index p1.serials root);
        chains = set (set p1.chains root (chain_at p1.chains root ++ page ∷ [])) page [];
      }) (m : Links) (noted : m ≡ after l1 (Added root page words)) where
        pub add-keeps : IsBacked q pages (set spots root (record { role = (spot_at spots root).role; newest = page })) next m
        add-keeps = subst (λ (u : PoolState × Links). IsBacked u.0 pages (set spots root (record { role = (spot_at spots root).role; newest = page })) next u.1) (λ j. (sym made j, sym noted j))
            (added-backed p1 pages spots next l1 is1 page there rest1 taken1 alone1 root below role words)

        pub add-gives : Adds x (view_of q m) root page words
        add-gives = subst (λ (t : TableState). Adds t (view_of q m) root page words) view (record { middle = view_of p1 l1; takes = taking; is = λ j. view_of (made j) (noted j) })

    -- ---- a region begins in the page
    module _ (role : Role) (is_root : IsRoot role) (r : PoolState) (s : ℕ) (ready : Readies p1 r s) where
      is2 : IsBacked r pages spots s l1
      is2 = ready-backed p1 pages spots next l1 is1 r s ready

      pub open-there : page < r.pages
      open-there = subst (λ n. page < n) (sym (ap (λ (t : PoolState). t.pages) ready.same)) there

      module _ (q : PoolState) (made : q ≡ record r { owners = set r.owners page page; fills = set r.fills page 0; serials = set r.serials page s }) (m : Links) (noted : m ≡ after l1 (Began page role)) where
        pub open-keeps : IsBacked q pages (set spots page (record { role = role; newest = page })) (s + 1) m
        open-keeps = subst (λ (u : PoolState × Links). IsBacked u.0 pages (set spots page (record { role = role; newest = page })) (s + 1) u.1) (λ j. (sym made j, sym noted j))
            (begun-backed r pages spots s l1 is2 page open-there rest1
            (ap (λ (t : PoolState). slice_index_or t.free page false) ready.same ∙ taken1) (ap (λ (t : PoolState). chain_at t.chains page) ready.same ∙ alone1) role is_root ready.few)

        pub open-gives : Opens x (view_of q m) page role
        open-gives = subst (λ (t : TableState). Opens t (view_of q m) page role) view (record {
          middle = view_of p1 l1;
          takes = taking;
          is = (λ j. view_of (made j) (noted j)) ∙ (λ j. view_of (ready.same j) (after l1 (Began page role)));
        })

  -- ---- the fill mark of a region's newest page is set
  module _ (root : ℕ) (there : root < x.most) (role : IsRoot (row_of x root).role) (s : Spot) (read : s ≡ slice_index_or spots root s) where
    spot-is : spot_at spots root ≡ s
    spot-is = spot-read spots root s (in-spots root there) read

    pub fill-there : s.newest < p.pages
    fill-there = subst (λ (t : Spot). t.newest < p.pages) spot-is (newest-there p pages spots next l is root (there-in root there) (root-in root there role))

    newest-row : (row_of x root).newest ≡ s.newest
    newest-row = ap (λ (t : TableState). (row_of t root).newest) (sym view) ∙ is.backs.newest root (there-in root there) ∙ ap (λ (t : Spot). t.newest) spot-is

    module _ (filled : ℕ) (q : PoolState) (made : q ≡ record p { fills = set p.fills s.newest (1024 * s.newest + filled) }) (m : Links) (noted : m ≡ after l (Filled s.newest filled)) where
      pub fill-keeps : IsBacked q pages spots next m
      fill-keeps = subst (λ (u : PoolState × Links). IsBacked u.0 pages spots next u.1) (λ j. (sym made j, sym noted j))
          (subst (λ (t : Spot). IsBacked (record p { fills = set p.fills t.newest (1024 * t.newest + filled) }) pages spots next (after l (Filled t.newest filled))) spot-is
          (filled-backed p pages spots next l is root (there-in root there) (root-in root there role) filled))

      pub fill-gives : Fills x (view_of q m) (row_of x root).newest filled
      fill-gives = subst (λ n. Fills x (view_of q m) n filled) (sym newest-row)
          (subst (λ (t : TableState). Fills t (view_of q m) s.newest filled) view (λ j. view_of (made j) (noted j)))

  -- ---- a free page
  free-idle : (page : ℕ) → page < p.pages → IsFree p.free page → ((row_at l.rows page).role ≡ Rest) × ((row_at l.rows page).filled ≡ 0)
  free-idle page there free = (
    is.backs.role page there ∙ is.backs.unused page (page-inside p pages spots next l is page there free),
    is.backs.filled page there ∙ elim (is.backs.held page there) [
      | inl none ↦ none
      | inr (root, which) ↦ (let region = is.backs.root _ (is.backs.owned page there) root in
          absurd (true≢false (sym free ∙ (region.members page (region.chained page which)).taken)))
    ],
  )

  pub idle-past : (end : ℕ) → ((page : ℕ) → page < p.pages → IsFree p.free page ⊎ (1024 * page + 1024 ≤ end)) → IsIdlePast x end
  idle-past end taken = subst (λ (t : TableState). IsIdlePast t end) view (λ page there. elim (taken page there) [
    | inl free ↦ inl (free-idle page there free)
    | inr low ↦ inr low
  ])

  -- ---- words are written
  pub words-keep : (words : List ℕ) → length words ≡ length p.words → (q : PoolState) → q ≡ record p { words = words } → IsBacked q pages spots next l
  words-keep words whole q made = subst (λ (t : PoolState). IsBacked t pages spots next l) (sym made) (record {
    counted = is.counted;
    whole = record { few = is.whole.few; fills = is.whole.fills; owners = is.whole.owners; serials = is.whole.serials; owned = is.whole.owned };
    words = whole ∙ is.words;
    bits = is.bits;
    free = is.free;
    chains = is.chains;
    placed = is.placed;
    rows = is.rows;
    last = is.last;
    backs = is.backs;
  })

  -- ---- words are marked
  module _ (bits : List Bool) (whole : length bits ≡ length p.bits) (q : PoolState) (made : q ≡ record p { bits = bits }) where
    pub mark-keeps : IsBacked q pages spots next l
    mark-keeps = subst (λ (t : PoolState). IsBacked t pages spots next l) (sym made) (record {
      counted = is.counted;
      whole = record { few = is.whole.few; fills = is.whole.fills; owners = is.whole.owners; serials = is.whole.serials; owned = is.whole.owned };
      words = is.words;
      bits = whole ∙ is.bits;
      free = is.free;
      chains = is.chains;
      placed = is.placed;
      rows = is.rows;
      last = is.last;
      backs = is.backs;
    })

    pub mark-gives : (first count : ℕ) (mark : Bool) → ((word : ℕ) → slice_index_or bits word false ≡ marked_between (λ (other : ℕ). slice_index_or p.bits other false) first count mark word)
        → Marks x (view_of q l) first count mark
    mark-gives first count mark live = subst (λ (t : TableState). Marks t (view_of q l) first count mark) view (record {
      same = (λ j. view_of (made j) l) ∙ (λ j. record (view_of p l) { live = (sym made j).bits });
      whole = ap (λ (t : PoolState). length t.bits) made ∙ whole;
      live = λ word. ap (λ (t : PoolState). slice_index_or t.bits word false) made ∙ live word;
    })

  -- ---- a region is closed
  module _ (root : ℕ) (there : root < x.most) (role : IsRoot (row_of x root).role) (r : PoolState) (s : ℕ) (ready : Readies p r s) where
    is3 : IsBacked r pages spots s l
    is3 = ready-backed p pages spots next l is r s ready

    pub close-there : root < r.pages
    close-there = subst (λ n. root < n) (sym (ap (λ (t : PoolState). t.pages) ready.same)) (there-in root there)

    pub close-head : IsHead r.chains root
    close-head = root-head r pages spots s l is3 root close-there (root-in root there role)

    module _ (q : PoolState) (made : q ≡ record r { fills = set r.fills root 0; serials = set r.serials root s; free = freed r.free (chain_at r.chains root); chains = set r.chains root [] })
        (m : Links) (noted : m ≡ after l (Closed root)) where
      pub close-keeps : IsBacked q pages (set spots root (record { role = Rest; newest = NONE })) (s + 1) m
      close-keeps = subst (λ (u : PoolState × Links). IsBacked u.0 pages (set spots root (record { role = Rest; newest = NONE })) (s + 1) u.1) (λ j. (sym made j, sym noted j))
          (closed-backed r pages spots s l is3 root close-there (root-in root there role) ready.few)

      pub close-gives : Closes x (view_of q m) root
      close-gives = subst (λ (t : TableState). Closes t (view_of q m) root) view ((λ j. view_of (made j) (noted j)) ∙ (λ j. view_of (ready.same j) (after l (Closed root))))

-- ---- serials are skipped
pub later_backed : (p : PoolState) (pages : ℕ) (spots : List Spot) (next : ℕ) (l : Links) → IsBacked p pages spots next l → (later : ℕ) → next < later → later < 2 ^ 64 → IsBacked p pages spots later l
later_backed p pages spots next l is later more few = record {
  counted = is.counted;
  whole = is.whole;
  words = is.words;
  bits = is.bits;
  free = is.free;
  chains = is.chains;
  placed = is.placed;
  rows = is.rows;
  last = few;
  backs = record {
    few = is.backs.few;
    owned = is.backs.owned;
    newer = λ page below. let less = is.backs.newer page below in omega (arith, less, more);
    one = is.backs.one;
    filled = is.backs.filled;
    role = is.backs.role;
    newest = is.backs.newest;
    idle = is.backs.idle;
    held = is.backs.held;
    linked = is.backs.linked;
    apart = is.backs.apart;
    free = is.backs.free;
    all = is.backs.all;
    unused = is.backs.unused;
    root = is.backs.root;
  };
}
