-- Making a taken page the first page of a new region preserves the correspondence between the page table and the layout of blocks.
use Rattle.std.proofs.Common.{◌≡◌, ◌≢◌, ℕ, ◌-◌, ◌<◌, Bool, false, true, List, [], ◌∷◌, ◌++◌, None, Some, refl, sym, ap, subst, ◌∙◌, inl, inr, arith}
use Rattle.std.specs.Prelude.{◌==◌, if◌then◌else◌}
use Rattle.std.specs.List.{AllByRecursion}
use Rattle.std.proofs.lemmas.Bool.{cases_eq}
use Rattle.cyc_words.proofs.Numbers.{when_equal}
use Rattle.cyc_words.proofs.Options.{none_or_some, never_none_and_some, same_from_some}
use Rattle.cyc_words.proofs.Members.{all_append_left}
use Rattle.cyc_store.specs.State.{lookup, Sort, Heap, Lexical, Dynamic, Uniques, Home, handle_of, empty_home, is_lexical, opened}
use Rattle.cyc_store.specs.Ledger.{Blocks, plain_store, blocks_of}
use Rattle.cyc_store.specs.Pages.{Pages, drawn}
use Rattle.cyc_store.specs.Slots.{Layout}
use Rattle.cyc_store.specs.inside.Kept.{Table, IsChain, numbers_from, limit, role_of, role_of_sort, sort_of, handle_of_page, IsRow, IsRooted, lexical_handles, IsTied}
use Rattle.cyc_store.specs.declared.row.Row.{Row}
use Rattle.cyc_store.specs.declared.row.TheConstants.{NONE}
use Rattle.cyc_store.specs.declared.row.ClassSlots.{ClassSlots}
use Rattle.cyc_store.specs.declared.range.TheConstants.{UNIQUE}
use Rattle.cyc_store.proofs.LookupLemmas.{when_other, lookup-key, lookup-append, lookup-append_cases, lookup-append_new, lookup-append_other}
use Rattle.cyc_store.proofs.PagedRegions.{still-chained}
use Rattle.cyc_store.proofs.LiveWords.{odd-apart}
use Rattle.cyc_store.proofs.TieLemmas.{chain-also, all-away}

-- The page table's row for the first page of a region with one empty page.
abbrev pub first_row : (sort : Sort) → (page : ℕ) → Row
first_row sort page = record { role = role_of_sort sort; filled = 0; next = NONE; newest = page; count = 1 }

abbrev pub with_row : Table → (page : ℕ) → Row → Table
with_row t page r = record t { row = λ (other : ℕ). if other == page then r else t.row other }

-- The handles that the opening of a region of this sort appends to the list of lexical regions: the region's own handle if the region is
-- lexical, otherwise no handle.
abbrev pub lexicals_with : Sort → (handle : ℕ) → List ℕ
lexicals_with Heap handle = []
lexicals_with Lexical handle = handle ∷ []
lexicals_with Dynamic handle = []
lexicals_with Uniques handle = []

last-lexical : (sort : Sort) (h : ℕ) → lexical_handles (empty_home h sort ∷ []) ≡ lexicals_with sort h
last-lexical Heap h = refl
last-lexical Lexical h = refl
last-lexical Dynamic h = refl
last-lexical Uniques h = refl

pub lexical-append : (rs qs : List Home) → lexical_handles (rs ++ qs) ≡ lexical_handles rs ++ lexical_handles qs
lexical-append [] qs = refl
lexical-append (r ∷ rs) qs = either (is_lexical r.sort) r.handle (lexical_handles (rs ++ qs)) (lexical_handles rs) (lexical_handles qs) (lexical-append rs qs)
  where
    either : (l : Bool) (h : ℕ) (all xs ys : List ℕ) → all ≡ xs ++ ys → (if l then h ∷ all else all) ≡ (if l then h ∷ xs else xs) ++ ys
    either true h all xs ys e = ap (λ k. h ∷ k) e
    either false h all xs ys e = e

handle_of_one_page : (m n : ℕ) → handle_of_page m ≡ handle_of_page n → m ≡ n
handle_of_one_page m n e = omega (arith, e)

-- A page that has an owner differs from every free page, since a free page has no owner.
pub owner-away : (pages : Pages) (page p h : ℕ) → pages.owner page ≡ None → pages.owner p ≡ Some h → p ≡ page → ⊥
owner-away pages page p h none owned e = never_none_and_some none (ap pages.owner (sym e) ∙ owned)

pub owned-away : (pages : Pages) (page h : ℕ) → pages.owner page ≡ None → (xs : List ℕ) → AllByRecursion (λ (p : ℕ). pages.owner p ≡ Some h) xs → AllByRecursion (λ x. page ≢ x) xs
owned-away pages page h none [] all = tt
owned-away pages page h none (x ∷ xs) all = (λ e. never_none_and_some none (ap pages.owner e ∙ all.0), owned-away pages page h none xs all.1)

-- Taking a free page for one region does not affect how the page table represents any other region.
pub rooted-drawn : (row : ℕ → Row) (pages : Pages) (page h : ℕ) (new : Row) (r : Home) → pages.owner page ≡ None → (r.handle ≡ h → ⊥) → IsRooted row pages r
    → IsRooted (λ (other : ℕ). if other == page then new else row other) (drawn pages page h) r
rooted-drawn row pages page h new r none other rooted = record {
  root = rooted.root;
  handle = rooted.handle;
  owned = when_other rooted.root page (Some h) (pages.owner rooted.root) away ∙ rooted.owned;
  chain = still-chained pages page h none r rooted.chain;
  newest = ap (λ (x : Row). x.newest) (when_other rooted.root page new (row rooted.root) away) ∙ rooted.newest;
  count = ap (λ (x : Row). x.count) (when_other rooted.root page new (row rooted.root) away) ∙ rooted.count;
  linked = chain-also (λ p. (row p).next) (λ p. (if p == page then new else row p).next) rooted.chain.newest.page (rooted.chain.newest.page ∷ rooted.chain.older)
      (all-away row page new (rooted.chain.newest.page ∷ rooted.chain.older)
      (owned-away pages page r.handle none (rooted.chain.newest.page ∷ rooted.chain.older) (rooted.chain.newest.owned, rooted.chain.owned)))
      rooted.linked;
  complete = λ p owned. elim (cases_eq p page) [
    | inl here ↦ absurd (other (sym (same_from_some (sym (when_equal p page (Some h) (pages.owner p) here) ∙ owned))))
    | inr there ↦ rooted.complete p (sym (when_other p page (Some h) (pages.owner p) there) ∙ owned)
  ];
}
  where
    away : rooted.root ≡ page → ⊥
    away = owner-away pages page rooted.root r.handle none rooted.owned

module _ (t : Table) (lexicals : List ℕ) (classes : ℕ → ClassSlots) (b : Blocks) (l : Layout) (tied : IsTied t lexicals classes b l) (page : ℕ) (none : l.pages.owner page ≡ None)
    (away : AllByRecursion (λ x. page ≢ x) l.free) (there : page < t.count) where
  -- No region has the handle that is computed from the taken page's index.
  pub fresh-handle : lookup handle_of b.regions (handle_of_page page) ≡ None
  fresh-handle = elim (none_or_some (lookup handle_of b.regions (handle_of_page page))) [
    | inl nothing ↦ nothing
    | inr (r, found) ↦
        let rooted : IsRooted t.row l.pages r = tied.roots (handle_of_page page) r found in
        absurd (owner-away l.pages page rooted.root r.handle none rooted.owned (handle_of_one_page rooted.root page (sym rooted.handle ∙ lookup-key handle_of b.regions (handle_of_page page) r found)))
  ]

  given-away : AllByRecursion (λ x. page ≢ x) tied.given
  given-away = all_append_left (λ x. page ≢ x) tied.given (numbers_from t.count (t.most - t.count)) (subst (AllByRecursion (λ x. page ≢ x)) tied.free away)

  pub free-linked : (r : Row) → IsChain (λ p. ((with_row t page r).row p).next) t.free tied.given
  free-linked r = chain-also (λ p. (t.row p).next) (λ p. ((with_row t page r).row p).next) t.free tied.given (all-away t.row page r tied.given given-away) tied.linked

  pub opened-tied : (sort : Sort) → IsTied (with_row t page (first_row sort page)) (lexicals ++ lexicals_with sort (handle_of_page page)) classes
      (blocks_of (opened (plain_store b) (handle_of_page page) sort)) (record l { pages = drawn l.pages page (handle_of_page page) })
  opened-tied sort = record {
    most = tied.most;
    few = tied.few;
    drawn = λ p g owned. elim (cases_eq p page) [
      | inl here ↦ subst (λ n. n < t.count) (sym here) there
      | inr other ↦ tied.drawn p g (sym (when_other p page (Some (handle_of_page page)) (l.pages.owner p) other) ∙ owned)
    ];
    rows = λ p. elim (cases_eq p page) [
      | inl here ↦ subst
          (λ n. IsRow ((with_row t page (first_row sort page)).row n) ((drawn l.pages page (handle_of_page page)).owner n) ((drawn l.pages page (handle_of_page page)).filled n) (l.class n)
          (sort_of (lookup handle_of (b.regions ++ empty_home (handle_of_page page) sort ∷ []) (handle_of_page n)))) (sym here) new-row
      | inr other ↦ old-row p other
    ];
    given = tied.given;
    free = tied.free;
    linked = free-linked (first_row sort page);
    within = tied.within;
    homes = λ p g owned ordinary. elim (cases_eq p page) [
      | inl here ↦
          let same : g ≡ handle_of_page page = same_from_some (sym owned ∙ when_equal p page (Some (handle_of_page page)) (l.pages.owner p) here) in
          (empty_home (handle_of_page page) sort, ap (lookup handle_of (b.regions ++ empty_home (handle_of_page page) sort ∷ [])) same ∙ found-new)
      | inr other ↦
          let (r, found) = tied.homes p g (sym (when_other p page (Some (handle_of_page page)) (l.pages.owner p) other) ∙ owned) ordinary in
          (r, lookup-append handle_of b.regions (empty_home (handle_of_page page) sort ∷ []) g r found)
    ];
    roots = λ g r found. elim (lookup-append_cases handle_of b.regions (empty_home (handle_of_page page) sort) g r found) [
      | inl old ↦ rooted-drawn t.row l.pages page (handle_of_page page) (first_row sort page) r none
          (λ e. never_none_and_some fresh-handle (subst (λ n. lookup handle_of b.regions n ≡ Some r) (sym (lookup-key handle_of b.regions g r old) ∙ e) old))
          (tied.roots g r old)
      | inr new ↦ subst (IsRooted (with_row t page (first_row sort page)).row (drawn l.pages page (handle_of_page page))) (sym new) new-rooted
    ];
    newest =
        ap (λ xs. xs ++ lexicals_with sort (handle_of_page page)) tied.newest
        ∙ (ap (λ xs. lexical_handles b.regions ++ xs) (sym (last-lexical sort (handle_of_page page)))
        ∙ sym (lexical-append b.regions (empty_home (handle_of_page page) sort ∷ [])));
    stock = tied.stock;
    marked = λ p n owned inside. tied.marked p n (sym (when_other p page (Some (handle_of_page page)) (l.pages.owner p) (unique-away p owned)) ∙ owned) inside;
    unmarked = λ p n other small. tied.unmarked p n (λ owned. other (when_other p page (Some (handle_of_page page)) (l.pages.owner p) (owner-away l.pages page p UNIQUE none owned) ∙ owned)) small;
  }
    where
      unique-away : (p : ℕ) → (drawn l.pages page (handle_of_page page)).owner p ≡ Some UNIQUE → p ≡ page → ⊥
      unique-away p owned here = odd-apart page (same_from_some (sym (when_equal p page (Some (handle_of_page page)) (l.pages.owner p) here) ∙ owned))

      found-new : lookup handle_of (b.regions ++ empty_home (handle_of_page page) sort ∷ []) (handle_of_page page) ≡ Some (empty_home (handle_of_page page) sort)
      found-new = lookup-append_new handle_of b.regions (empty_home (handle_of_page page) sort) (handle_of_page page) fresh-handle refl

      owner-new : (drawn l.pages page (handle_of_page page)).owner page ≡ Some (handle_of_page page)
      owner-new = when_equal page page (Some (handle_of_page page)) (l.pages.owner page) refl

      row-new : (with_row t page (first_row sort page)).row page ≡ first_row sort page
      row-new = when_equal page page (first_row sort page) (t.row page) refl

      new-row : IsRow ((with_row t page (first_row sort page)).row page) ((drawn l.pages page (handle_of_page page)).owner page) ((drawn l.pages page (handle_of_page page)).filled page)
          (l.class page) (sort_of (lookup handle_of (b.regions ++ empty_home (handle_of_page page) sort ∷ []) (handle_of_page page)))
      new-row = record {
        marks = ap (λ (x : Row). x.filled) row-new
            ∙ sym (ap (λ o. limit o ((drawn l.pages page (handle_of_page page)).filled page)) owner-new
            ∙ (when_other (handle_of_page page) UNIQUE 0 ((drawn l.pages page (handle_of_page page)).filled page) (odd-apart page) ∙ when_equal page page 0 (l.pages.filled page) refl));
        plays = ap (λ (x : Row). x.role) row-new
            ∙ sym (ap (λ o. role_of (sort_of o) ((drawn l.pages page (handle_of_page page)).owner page) (l.class page)) found-new);
      }

      old-row : (p : ℕ) → (p ≡ page → ⊥) → IsRow ((with_row t page (first_row sort page)).row p) ((drawn l.pages page (handle_of_page page)).owner p)
          ((drawn l.pages page (handle_of_page page)).filled p) (l.class p) (sort_of (lookup handle_of (b.regions ++ empty_home (handle_of_page page) sort ∷ []) (handle_of_page p)))
      old-row p other =
          let row_is = when_other p page (first_row sort page) (t.row p) other in
          let owner_is = when_other p page (Some (handle_of_page page)) (l.pages.owner p) other in
          let filled_is = when_other p page 0 (l.pages.filled p) other in
          let found_is = lookup-append_other handle_of b.regions (empty_home (handle_of_page page) sort) (handle_of_page p) (λ e. other (sym (handle_of_one_page page p e))) in
          record {
            marks = ap (λ (x : Row). x.filled) row_is ∙ ((tied.rows p).marks ∙ (ap (limit (l.pages.owner p)) (sym filled_is)
                ∙ ap (λ o. limit o ((drawn l.pages page (handle_of_page page)).filled p)) (sym owner_is)));
            plays = ap (λ (x : Row). x.role) row_is ∙ ((tied.rows p).plays ∙ (ap (λ o. role_of (sort_of o) (l.pages.owner p) (l.class p)) (sym found_is)
                ∙ ap (λ o. role_of (sort_of (lookup handle_of (b.regions ++ empty_home (handle_of_page page) sort ∷ []) (handle_of_page p))) o (l.class p)) (sym owner_is)));
          }

      new-rooted : IsRooted (with_row t page (first_row sort page)).row (drawn l.pages page (handle_of_page page)) (empty_home (handle_of_page page) sort)
      new-rooted = record {
        root = page;
        handle = refl;
        owned = owner-new;
        chain = record {
          newest = record { page = page; owned = owner-new; mark = when_equal page page 0 (l.pages.filled page) refl };
          older = [];
          owned = tt;
          apart = (tt, tt);
          many = refl;
        };
        newest = ap (λ (x : Row). x.newest) row-new;
        count = ap (λ (x : Row). x.count) row-new;
        linked = (refl, ap (λ (x : Row). x.next) row-new);
        complete = λ p owned. elim (cases_eq p page) [
          | inl here ↦ inl here
          | inr other ↦
              let (r, found) = tied.homes p (handle_of_page page) (sym (when_other p page (Some (handle_of_page page)) (l.pages.owner p) other) ∙ owned) (odd-apart page) in
              absurd (never_none_and_some fresh-handle found)
        ];
      }
