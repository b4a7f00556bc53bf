-- Allocating a block in a region preserves the correspondence between the page table and the layout of blocks.
use Rattle.std.proofs.Common.{◌≡◌, ◌≢◌, ℕ, suc, ◌+◌, ◌<◌, ◌≤◌, List, [], ◌∷◌, length, None, Some, refl, sym, ap, subst, ◌∙◌, inl, inr, arith}
use Rattle.std.specs.Prelude.{if◌then◌else◌}
use Rattle.std.specs.List.{AllByRecursion}
use Rattle.std.proofs.lemmas.Bool.{cases_eq}
use Rattle.cyc_words.proofs.Numbers.{when_equal}
use Rattle.cyc_words.proofs.Options.{same_from_some}
use Rattle.cyc_store.specs.State.{lookup, changed, Block, Home, handle_of, is_lexical, with_block, made_in}
use Rattle.cyc_store.specs.Ledger.{Blocks, plain_store, blocks_of}
use Rattle.cyc_store.specs.Pages.{Pages, filled_to, drawn, Mark, mark_of, HasChain}
use Rattle.cyc_store.specs.Slots.{Layout}
use Rattle.cyc_store.specs.inside.Kept.{Table, IsChain, limit, role_of, sort_of, handle_of_page, IsRow, IsRooted, lexical_handles, IsTied}
use Rattle.cyc_store.specs.declared.row.Role.TheVariants as role
use Rattle.cyc_store.specs.declared.row.Row.{Row}
use Rattle.cyc_store.specs.declared.row.TheConstants.{NONE}
use Rattle.cyc_store.specs.declared.row.ClassSlots.{ClassSlots}
use Rattle.cyc_store.specs.declared.range.TheConstants.{PAGE_WORDS, UNIQUE}
use Rattle.cyc_store.proofs.LookupLemmas.{when_other, lookup-key, lookup-changed_same, lookup-changed_other}
use Rattle.cyc_store.proofs.PageServices.{mark-made, mark-stays, mark-goes}
use Rattle.cyc_store.proofs.PagedRegions.{block_in_page, chain-filled, owned-drawn, free-apart}
use Rattle.cyc_store.proofs.TieLemmas.{chain-also, all-away}
use Rattle.cyc_store.proofs.TieOpening.{with_row, owner-away, owned-away, fresh-handle, free-linked, rooted-drawn}

-- ---- parts unchanged by an allocation in a region

module _ (rs : List Home) (h : ℕ) (r : Home) (named : lookup handle_of rs h ≡ Some r) (b : Block) where
  pub sort-changed : (g : ℕ) → sort_of (lookup handle_of (changed handle_of (with_block b) rs h) g) ≡ sort_of (lookup handle_of rs g)
  sort-changed g = elim (cases_eq g h) [
    | inl same ↦
        ap (λ n. sort_of (lookup handle_of (changed handle_of (with_block b) rs h) n)) same
        ∙ (ap sort_of (lookup-changed_same handle_of (with_block b) (λ z. refl) rs h r named) ∙ sym (ap sort_of (ap (lookup handle_of rs) same ∙ named)))
    | inr other ↦ ap sort_of (lookup-changed_other handle_of (with_block b) (λ z. refl) rs h g other)
  ]

  pub home-changed : (g : ℕ) (q : Home) → lookup handle_of rs g ≡ Some q → (p : Home) × (lookup handle_of (changed handle_of (with_block b) rs h) g ≡ Some p)
  home-changed g q found = elim (cases_eq g h) [
    | inl same ↦ (with_block b r, ap (lookup handle_of (changed handle_of (with_block b) rs h)) same ∙ lookup-changed_same handle_of (with_block b) (λ z. refl) rs h r named)
    | inr other ↦ (q, lookup-changed_other handle_of (with_block b) (λ z. refl) rs h g other ∙ found)
  ]

pub lexical-changed : (rs : List Home) (h : ℕ) (b : Block) → lexical_handles (changed handle_of (with_block b) rs h) ≡ lexical_handles rs
lexical-changed [] h b = refl
lexical-changed (r ∷ rs) h b = elim (cases_eq r.handle h) [
  | inl same ↦ ap lexical_handles (when_equal r.handle h (with_block b r ∷ rs) (r ∷ changed handle_of (with_block b) rs h) same)
  | inr other ↦
      ap lexical_handles (when_other r.handle h (with_block b r ∷ rs) (r ∷ changed handle_of (with_block b) rs h) other)
      ∙ ap (λ l. if is_lexical r.sort then r.handle ∷ l else l) (lexical-changed rs h b)
]

-- ---- allocation in the newest page

abbrev pub filled_row : Row → (filled : ℕ) → Row
filled_row r filled = record r { filled = filled }

module _ (t : Table) (lexicals : List ℕ) (classes : ℕ → ClassSlots) (b : Blocks) (l : Layout) (tied : IsTied t lexicals classes b l)
    (h : ℕ) (r : Home) (named : lookup handle_of b.regions h ≡ Some r) (ordinary : h ≡ UNIQUE → ⊥) (size : ℕ) where
  same-handle : r.handle ≡ h
  same-handle = lookup-key handle_of b.regions h r named

  module _ (rooted : IsRooted t.row l.pages r) (room : (mark_of r).filled + size ≤ PAGE_WORDS) where
    abbrev page : ℕ
    page = rooted.chain.newest.page

    abbrev mark : ℕ
    mark = (mark_of r).filled + size

    abbrev block : Block
    block = block_in_page page (mark_of r).filled size

    abbrev now : Table
    now = with_row t page (filled_row (t.row page) mark)

    owner : l.pages.owner page ≡ Some h
    owner = rooted.chain.newest.owned ∙ ap (λ n. Some n) same-handle

    same-next : (p : ℕ) → (now.row p).next ≡ (t.row p).next
    same-next p = elim (cases_eq p page) [
      | inl here ↦ ap (λ (x : Row). x.next) (when_equal p page (filled_row (t.row page) mark) (t.row p) here) ∙ ap (λ n. (t.row n).next) (sym here)
      | inr other ↦ ap (λ (x : Row). x.next) (when_other p page (filled_row (t.row page) mark) (t.row p) other)
    ]

    same-newest : (p : ℕ) → (now.row p).newest ≡ (t.row p).newest
    same-newest p = elim (cases_eq p page) [
      | inl here ↦ ap (λ (x : Row). x.newest) (when_equal p page (filled_row (t.row page) mark) (t.row p) here) ∙ ap (λ n. (t.row n).newest) (sym here)
      | inr other ↦ ap (λ (x : Row). x.newest) (when_other p page (filled_row (t.row page) mark) (t.row p) other)
    ]

    same-count : (p : ℕ) → (now.row p).count ≡ (t.row p).count
    same-count p = elim (cases_eq p page) [
      | inl here ↦ ap (λ (x : Row). x.count) (when_equal p page (filled_row (t.row page) mark) (t.row p) here) ∙ ap (λ n. (t.row n).count) (sym here)
      | inr other ↦ ap (λ (x : Row). x.count) (when_other p page (filled_row (t.row page) mark) (t.row p) other)
    ]

    all-next : (xs : List ℕ) → AllByRecursion (λ x. (now.row x).next ≡ (t.row x).next) xs
    all-next [] = tt
    all-next (x ∷ xs) = (same-next x, all-next xs)

    moves : mark_of (with_block block r) ≡ record { pages = (mark_of r).pages; filled = mark }
    moves = mark-made r block ∙ mark-stays (mark_of r) size room

    -- After an allocation, the page table still represents the region that contains the new block.
    stays-rooted : IsRooted now.row (filled_to l.pages page mark) (with_block block r)
    stays-rooted = record {
      root = rooted.root;
      handle = rooted.handle;
      owned = rooted.owned;
      chain = record {
        newest = record {
          page = page;
          owned = rooted.chain.newest.owned;
          mark = when_equal page page mark (l.pages.filled page) refl ∙ sym (ap (λ (m : Mark). m.filled) moves);
        };
        older = rooted.chain.older;
        owned = rooted.chain.owned;
        apart = rooted.chain.apart;
        many = rooted.chain.many ∙ sym (ap (λ (m : Mark). m.pages) moves);
      };
      newest = same-newest rooted.root ∙ rooted.newest;
      count = same-count rooted.root ∙ rooted.count;
      linked = chain-also (λ p. (t.row p).next) (λ p. (now.row p).next) page (page ∷ rooted.chain.older) (all-next (page ∷ rooted.chain.older)) rooted.linked;
      complete = rooted.complete;
    }

    -- another region
    other-rooted : (q : Home) → (q.handle ≡ h → ⊥) → IsRooted t.row l.pages q → IsRooted now.row (filled_to l.pages page mark) q
    other-rooted q other old = record {
      root = old.root;
      handle = old.handle;
      owned = old.owned;
      chain = chain-filled l.pages page mark h q owner other old.chain;
      newest = same-newest old.root ∙ old.newest;
      count = same-count old.root ∙ old.count;
      linked = chain-also (λ p. (t.row p).next) (λ p. (now.row p).next) old.chain.newest.page (old.chain.newest.page ∷ old.chain.older) (all-next (old.chain.newest.page ∷ old.chain.older)) old.linked;
      complete = old.complete;
    }

    pub stays-tied : IsTied now lexicals classes (blocks_of (made_in (plain_store b) h block)) (record l { pages = filled_to l.pages page mark })
    stays-tied = record {
      most = tied.most;
      few = tied.few;
      drawn = tied.drawn;
      rows = λ p. elim (cases_eq p page) [
        | inl here ↦ subst
            (λ n. IsRow (now.row n) (l.pages.owner n) ((filled_to l.pages page mark).filled n) (l.class n) (sort_of (lookup handle_of (changed handle_of (with_block block) b.regions h) (handle_of_page n))))
            (sym here) (record {
              marks =
                  ap (λ (x : Row). x.filled) (when_equal page page (filled_row (t.row page) mark) (t.row page) refl)
                  ∙ sym (ap (λ o. limit o ((filled_to l.pages page mark).filled page)) owner
                  ∙ (when_other h UNIQUE 0 ((filled_to l.pages page mark).filled page) ordinary ∙ when_equal page page mark (l.pages.filled page) refl));
              plays =
                  ap (λ (x : Row). x.role) (when_equal page page (filled_row (t.row page) mark) (t.row page) refl)
                  ∙ ((tied.rows page).plays ∙ ap (λ o. role_of o (l.pages.owner page) (l.class page)) (sym (sort-changed b.regions h r named block (handle_of_page page))));
            })
        | inr other ↦ record {
          marks =
              ap (λ (x : Row). x.filled) (when_other p page (filled_row (t.row page) mark) (t.row p) other)
              ∙ ((tied.rows p).marks ∙ ap (limit (l.pages.owner p)) (sym (when_other p page mark (l.pages.filled p) other)));
          plays =
              ap (λ (x : Row). x.role) (when_other p page (filled_row (t.row page) mark) (t.row p) other)
              ∙ ((tied.rows p).plays ∙ ap (λ o. role_of o (l.pages.owner p) (l.class p)) (sym (sort-changed b.regions h r named block (handle_of_page p))));
        }
      ];
      given = tied.given;
      free = tied.free;
      linked = chain-also (λ p. (t.row p).next) (λ p. (now.row p).next) t.free tied.given (all-next tied.given) tied.linked;
      within = tied.within;
      homes = λ p g owned other. let (q, found) = tied.homes p g owned other in home-changed b.regions h r named block g q found;
      roots = λ g q found. elim (cases_eq g h) [
        | inl same ↦ subst (IsRooted now.row (filled_to l.pages page mark))
            (same_from_some (sym (lookup-changed_same handle_of (with_block block) (λ z. refl) b.regions h r named) ∙ (ap (lookup handle_of (changed handle_of (with_block block) b.regions h)) (sym same) ∙ found)))
            stays-rooted
        | inr other ↦
            let old : lookup handle_of b.regions g ≡ Some q = sym (lookup-changed_other handle_of (with_block block) (λ z. refl) b.regions h g other) ∙ found in
            other-rooted q (λ e. other (sym (lookup-key handle_of b.regions g q old) ∙ e)) (tied.roots g q old)
      ];
      newest = tied.newest ∙ sym (lexical-changed b.regions h block);
      stock = tied.stock;
      marked = tied.marked;
      unmarked = tied.unmarked;
    }

-- ---- allocation at the start of a new page

abbrev pub next_row : (size next : ℕ) → Row
next_row size next = record { role = role.Rest; filled = size; next = next; newest = NONE; count = 0 }

abbrev pub longer_row : Row → (newest : ℕ) → Row
longer_row r newest = record r { newest = newest; count = r.count + 1 }

module _ (t : Table) (lexicals : List ℕ) (classes : ℕ → ClassSlots) (b : Blocks) (l : Layout) (tied : IsTied t lexicals classes b l) (page : ℕ) (none : l.pages.owner page ≡ None)
    (away : AllByRecursion (λ x. page ≢ x) l.free) (there : page < t.count)
    (h : ℕ) (r : Home) (named : lookup handle_of b.regions h ≡ Some r) (ordinary : h ≡ UNIQUE → ⊥) (size : ℕ) (past : PAGE_WORDS < (mark_of r).filled + size)
    (rooted : IsRooted t.row l.pages r) where
  abbrev drawn_block : Block
  drawn_block = block_in_page page 0 size

  abbrev half : Table
  half = with_row t page (next_row size rooted.chain.newest.page)

  abbrev whole : Table
  whole = with_row half rooted.root (longer_row (half.row rooted.root) page)

  abbrev pages : Pages
  pages = filled_to (drawn l.pages page h) page (0 + size)

  root-away : rooted.root ≡ page → ⊥
  root-away = owner-away l.pages page rooted.root r.handle none rooted.owned

  handle-is : r.handle ≡ h
  handle-is = lookup-key handle_of b.regions h r named

  owner-new : pages.owner page ≡ Some h
  owner-new = when_equal page page (Some h) (l.pages.owner page) refl

  half-new : half.row page ≡ next_row size rooted.chain.newest.page
  half-new = when_equal page page (next_row size rooted.chain.newest.page) (t.row page) refl

  half-old : (p : ℕ) → (p ≡ page → ⊥) → half.row p ≡ t.row p
  half-old p other = when_other p page (next_row size rooted.chain.newest.page) (t.row p) other

  -- An allocation in a new page writes two rows of the page table. The second write of an allocation in a
  -- new page changes only the entries about the region in the row of the region's first page.
  whole-next : (p : ℕ) → (whole.row p).next ≡ (half.row p).next
  whole-next p = elim (cases_eq p rooted.root) [
    | inl here ↦ ap (λ (x : Row). x.next) (when_equal p rooted.root (longer_row (half.row rooted.root) page) (half.row p) here) ∙ ap (λ n. (half.row n).next) (sym here)
    | inr other ↦ ap (λ (x : Row). x.next) (when_other p rooted.root (longer_row (half.row rooted.root) page) (half.row p) other)
  ]

  whole-filled : (p : ℕ) → (whole.row p).filled ≡ (half.row p).filled
  whole-filled p = elim (cases_eq p rooted.root) [
    | inl here ↦ ap (λ (x : Row). x.filled) (when_equal p rooted.root (longer_row (half.row rooted.root) page) (half.row p) here) ∙ ap (λ n. (half.row n).filled) (sym here)
    | inr other ↦ ap (λ (x : Row). x.filled) (when_other p rooted.root (longer_row (half.row rooted.root) page) (half.row p) other)
  ]

  whole-role : (p : ℕ) → (whole.row p).role ≡ (half.row p).role
  whole-role p = elim (cases_eq p rooted.root) [
    | inl here ↦ ap (λ (x : Row). x.role) (when_equal p rooted.root (longer_row (half.row rooted.root) page) (half.row p) here) ∙ ap (λ n. (half.row n).role) (sym here)
    | inr other ↦ ap (λ (x : Row). x.role) (when_other p rooted.root (longer_row (half.row rooted.root) page) (half.row p) other)
  ]

  all-whole : (xs : List ℕ) → AllByRecursion (λ x. (whole.row x).next ≡ (half.row x).next) xs
  all-whole [] = tt
  all-whole (x ∷ xs) = (whole-next x, all-whole xs)

  refilled : (q : Home) → (q.handle ≡ h → ⊥) → HasChain (drawn l.pages page h) q → HasChain pages q
  refilled q other chain = chain-filled (drawn l.pages page h) page (0 + size) h q owner-new other chain

  moved : mark_of (with_block drawn_block r) ≡ record { pages = suc (mark_of r).pages; filled = size }
  moved = mark-made r drawn_block ∙ mark-goes (mark_of r) size past

  draws-rooted : IsRooted whole.row pages (with_block drawn_block r)
  draws-rooted = record {
    root = rooted.root;
    handle = rooted.handle;
    owned = when_other rooted.root page (Some h) (l.pages.owner rooted.root) root-away ∙ rooted.owned;
    chain = record {
      newest = record {
        page = page;
        owned = owner-new ∙ ap (λ n. Some n) (sym handle-is);
        mark = when_equal page page (0 + size) ((drawn l.pages page h).filled page) refl ∙ (plain size ∙ sym (ap (λ (m : Mark). m.filled) moved));
      };
      older = rooted.chain.newest.page ∷ rooted.chain.older;
      owned = owned-drawn l.pages page h r.handle none (rooted.chain.newest.page ∷ rooted.chain.older) (rooted.chain.newest.owned, rooted.chain.owned);
      apart = (free-apart l.pages page r.handle none (rooted.chain.newest.page ∷ rooted.chain.older) (rooted.chain.newest.owned, rooted.chain.owned), rooted.chain.apart);
      many = ap suc rooted.chain.many ∙ sym (ap (λ (m : Mark). m.pages) moved);
    };
    newest = ap (λ (x : Row). x.newest) (when_equal rooted.root rooted.root (longer_row (half.row rooted.root) page) (half.row rooted.root) refl);
    count =
        ap (λ (x : Row). x.count) (when_equal rooted.root rooted.root (longer_row (half.row rooted.root) page) (half.row rooted.root) refl)
        ∙ (ap (λ (x : Row). x.count + 1) (half-old rooted.root root-away) ∙ more (t.row rooted.root).count (length rooted.chain.older) rooted.count);
    linked = (
      refl,
      chain-also (λ p. (half.row p).next) (λ p. (whole.row p).next) (whole.row page).next (rooted.chain.newest.page ∷ rooted.chain.older)
          (all-whole (rooted.chain.newest.page ∷ rooted.chain.older))
          (subst (λ n. IsChain (λ p. (half.row p).next) n (rooted.chain.newest.page ∷ rooted.chain.older)) (sym (whole-next page ∙ ap (λ (x : Row). x.next) half-new))
          (chain-also (λ p. (t.row p).next) (λ p. (half.row p).next) rooted.chain.newest.page (rooted.chain.newest.page ∷ rooted.chain.older)
          (all-away t.row page (next_row size rooted.chain.newest.page) (rooted.chain.newest.page ∷ rooted.chain.older)
          (owned-away l.pages page r.handle none (rooted.chain.newest.page ∷ rooted.chain.older) (rooted.chain.newest.owned, rooted.chain.owned)))
          rooted.linked)),
    );
    complete = λ p owned. elim (cases_eq p page) [
      | inl here ↦ inl here
      | inr other ↦ inr (rooted.complete p (sym (when_other p page (Some h) (l.pages.owner p) other) ∙ owned))
    ];
  }
    where
      plain : (n : ℕ) → 0 + n ≡ n
      plain n = omega arith

      more : (n m : ℕ) → n ≡ suc m → n + 1 ≡ suc (suc m)
      more n m e = omega (arith, e)

  others-rooted : (q : Home) → (q.handle ≡ h → ⊥) → IsRooted t.row l.pages q → IsRooted whole.row pages q
  unfolding refilled
  others-rooted q other old =
      let first : IsRooted half.row (drawn l.pages page h) q = rooted-drawn t.row l.pages page h (next_row size rooted.chain.newest.page) q none other old in
      let same : (whole.row first.root ≡ half.row first.root) =
      when_other first.root rooted.root (longer_row (half.row rooted.root) page) (half.row first.root)
      (λ e. other (same_from_some (sym first.owned ∙ (ap (drawn l.pages page h).owner e
      ∙ (when_other rooted.root page (Some h) (l.pages.owner rooted.root) root-away ∙ (rooted.owned ∙ ap (λ n. Some n) handle-is)))))) in
      record {
        root = first.root;
        handle = first.handle;
        owned = first.owned;
        chain = refilled q other first.chain;
        newest = ap (λ (x : Row). x.newest) same ∙ first.newest;
        count = ap (λ (x : Row). x.count) same ∙ first.count;
        linked = chain-also (λ p. (half.row p).next) (λ p. (whole.row p).next) first.chain.newest.page (first.chain.newest.page ∷ first.chain.older)
            (all-whole (first.chain.newest.page ∷ first.chain.older)) first.linked;
        complete = first.complete;
      }

  pub draws-tied : IsTied whole lexicals classes (blocks_of (made_in (plain_store b) h drawn_block)) (record l { pages = pages })
  draws-tied = record {
    most = tied.most;
    few = tied.few;
    drawn = λ p g owned. elim (cases_eq p page) [
      | inl here ↦ subst (λ n. n < t.count) (sym here) there
      | inr other ↦ tied.drawn p g (sym (when_other p page (Some h) (l.pages.owner p) other) ∙ owned)
    ];
    rows = λ p. elim (cases_eq p page) [
      | inl here ↦ subst
          (λ n. IsRow (whole.row n) (pages.owner n) (pages.filled n) (l.class n) (sort_of (lookup handle_of (changed handle_of (with_block drawn_block) b.regions h) (handle_of_page n))))
          (sym here) new-row
      | inr other ↦ record {
        marks =
            whole-filled p ∙ (ap (λ (x : Row). x.filled) (half-old p other) ∙ ((tied.rows p).marks
            ∙ (ap (limit (l.pages.owner p)) (sym (when_other p page (0 + size) ((drawn l.pages page h).filled p) other ∙ when_other p page 0 (l.pages.filled p) other))
            ∙ ap (λ o. limit o (pages.filled p)) (sym (when_other p page (Some h) (l.pages.owner p) other)))));
        plays =
            whole-role p ∙ (ap (λ (x : Row). x.role) (half-old p other) ∙ ((tied.rows p).plays
            ∙ (ap (λ o. role_of o (l.pages.owner p) (l.class p)) (sym (sort-changed b.regions h r named drawn_block (handle_of_page p)))
            ∙ ap (λ o. role_of (sort_of (lookup handle_of (changed handle_of (with_block drawn_block) b.regions h) (handle_of_page p))) o (l.class p)) (sym (when_other p page (Some h) (l.pages.owner p) other)))));
      }
    ];
    given = tied.given;
    free = tied.free;
    linked = chain-also (λ p. (half.row p).next) (λ p. (whole.row p).next) t.free tied.given (all-whole tied.given)
        (free-linked t lexicals classes b l tied page none away there (next_row size rooted.chain.newest.page));
    within = tied.within;
    homes = λ p g owned other. elim (cases_eq p page) [
      | inl here ↦
          let same : h ≡ g = same_from_some (sym (when_equal p page (Some h) (l.pages.owner p) here) ∙ owned) in
          home-changed b.regions h r named drawn_block g r (ap (lookup handle_of b.regions) (sym same) ∙ named)
      | inr away_from ↦
          let (q, found) = tied.homes p g (sym (when_other p page (Some h) (l.pages.owner p) away_from) ∙ owned) other in
          home-changed b.regions h r named drawn_block g q found
    ];
    roots = λ g q found. elim (cases_eq g h) [
      | inl same ↦ subst (IsRooted whole.row pages)
          (same_from_some (sym (lookup-changed_same handle_of (with_block drawn_block) (λ z. refl) b.regions h r named)
          ∙ (ap (lookup handle_of (changed handle_of (with_block drawn_block) b.regions h)) (sym same) ∙ found)))
          draws-rooted
      | inr other ↦
          let old : lookup handle_of b.regions g ≡ Some q = sym (lookup-changed_other handle_of (with_block drawn_block) (λ z. refl) b.regions h g other) ∙ found in
          others-rooted q (λ e. other (sym (lookup-key handle_of b.regions g q old) ∙ e)) (tied.roots g q old)
    ];
    newest = tied.newest ∙ sym (lexical-changed b.regions h drawn_block);
    stock = tied.stock;
    marked = λ p n owned inside. tied.marked p n (sym (when_other p page (Some h) (l.pages.owner p) (unique-away p owned)) ∙ owned) inside;
    unmarked = λ p n other small. tied.unmarked p n (λ owned. other (when_other p page (Some h) (l.pages.owner p) (owner-away l.pages page p UNIQUE none owned) ∙ owned)) small;
  }
    where
      unique-away : (p : ℕ) → pages.owner p ≡ Some UNIQUE → p ≡ page → ⊥
      unique-away p owned here = ordinary (same_from_some (sym (when_equal p page (Some h) (l.pages.owner p) here) ∙ owned))

      no-sort : sort_of (lookup handle_of b.regions (handle_of_page page)) ≡ None
      no-sort = ap sort_of (fresh-handle t lexicals classes b l tied page none away there)

      new-row : IsRow (whole.row page) (pages.owner page) (pages.filled page) (l.class page) (sort_of (lookup handle_of (changed handle_of (with_block drawn_block) b.regions h) (handle_of_page page)))
      new-row = record {
        marks =
            whole-filled page ∙ (ap (λ (x : Row). x.filled) half-new
            ∙ sym (ap (λ o. limit o (pages.filled page)) owner-new ∙ (when_other h UNIQUE 0 (pages.filled page) ordinary
            ∙ (when_equal page page (0 + size) ((drawn l.pages page h).filled page) refl ∙ plain size))));
        plays =
            whole-role page ∙ (ap (λ (x : Row). x.role) half-new
            ∙ sym (ap (λ o. role_of o (pages.owner page) (l.class page)) (sort-changed b.regions h r named drawn_block (handle_of_page page) ∙ no-sort)
            ∙ (ap (λ o. role_of None o (l.class page)) owner-new ∙ when_other h UNIQUE (role.Slots (l.class page)) role.Rest ordinary)));
      }
        where
          plain : (n : ℕ) → 0 + n ≡ n
          plain n = omega arith
