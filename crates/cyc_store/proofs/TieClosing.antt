-- Freeing the linked pages of a closed region, page by page, preserves the correspondence between the page table and the layout of blocks.
use Rattle.std.proofs.Common.{◌≡◌, ◌≢◌, ℕ, zero, suc, ◌-◌, ◌<◌, List, [], ◌∷◌, ◌++◌, length, Option, None, Some, refl, sym, ap, subst, ◌∙◌, inl, inr, arith, get_or-set_same, get_or-set_other, length-set}
use Rattle.std.specs.Prelude.{◌⊎◌, set}
use Rattle.std.specs.List.{AllByRecursion}
use Rattle.std.proofs.lemmas.Bool.{cases_eq}
use Rattle.cyc_words.specs.Distinct.{IsDistinct}
use Rattle.cyc_words.proofs.Lists.{all_append}
use Rattle.cyc_words.proofs.Numbers.{when_equal}
use Rattle.cyc_words.proofs.Options.{none_or_some, never_none_and_some, same_from_some}
use Rattle.cyc_words.proofs.Members.{all_append_left}
use Rattle.cyc_store.specs.State.{lookup, without, Home, handle_of}
use Rattle.cyc_store.specs.Ledger.{Blocks}
use Rattle.cyc_store.specs.Pages.{owner_without, given_back}
use Rattle.cyc_store.specs.Slots.{Layout}
use Rattle.cyc_store.specs.Table.{free_row, row_at, given_rows, given_free, AreThere}
use Rattle.cyc_store.specs.inside.Kept.{Table, IsChain, IsOneOf, numbers_from, limit, role_of, sort_of, handle_of_page, IsRooted, lexical_handles, IsTied}
use Rattle.cyc_store.specs.declared.row.Role.TheVariants as role
use Rattle.cyc_store.specs.declared.row.Row.{Row}
use Rattle.cyc_store.specs.declared.row.TheConstants.{NONE}
use Rattle.cyc_store.specs.declared.row.ClassSlots.{ClassSlots}
use Rattle.cyc_store.specs.declared.range.TheConstants.{UNIQUE}
use Rattle.cyc_store.proofs.LookupLemmas.{when_other, lookup-key, lookup-without, lookup-without_other}
use Rattle.cyc_store.proofs.PagedClosing.{owner-kept, owner-stays, chain-stays}
use Rattle.cyc_store.proofs.RegionServices.{moved, all-moved}
use Rattle.cyc_store.proofs.TieLemmas.{chain-also}

-- ---- lists

one-cases : (xs : List ℕ) (p : ℕ) → IsOneOf xs p ⊎ AllByRecursion (λ x. p ≢ x) xs
one-cases [] p = inr tt
one-cases (x ∷ xs) p = elim (cases_eq p x) [
  | inl same ↦ inl (inl same)
  | inr other ↦ elim (one-cases xs p) [
    | inl inside ↦ inl (inr inside)
    | inr away ↦ inr (other, away)
  ]
]

pub one-all : (P : ℕ → Type 0) (xs : List ℕ) (p : ℕ) → AllByRecursion P xs → IsOneOf xs p → P p
one-all P [] p all inside = absurd inside
one-all P (x ∷ xs) p all (inl same) = subst P (sym same) all.0
one-all P (x ∷ xs) p all (inr inside) = one-all P xs p all.1 inside

pub all-from : (P : ℕ → Type 0) (xs : List ℕ) → ((p : ℕ) → IsOneOf xs p → P p) → AllByRecursion P xs
all-from P [] each = tt
all-from P (x ∷ xs) each = (each x (inl refl), all-from P xs (λ p inside. each p (inr inside)))

moved-append : (xs ys zs : List ℕ) → moved xs (ys ++ zs) ≡ moved xs ys ++ zs
moved-append [] ys zs = refl
moved-append (x ∷ xs) ys zs = moved-append xs (x ∷ ys) zs

-- ---- freeing a chain

pub record IsGone (r : Row) : Type 0 where
  pub filled : r.filled ≡ 0
  pub role : r.role ≡ role.Rest

pub record Frees (rows : List Row) (page count free : ℕ) (chain given : List ℕ) : Type 0 where
  pub there : AreThere rows page count free
  pub others : (p : ℕ) → AllByRecursion (λ x. p ≢ x) chain → row_at (given_rows rows page count free) p ≡ row_at rows p
  pub gone : (p : ℕ) → IsOneOf chain p → IsGone (row_at (given_rows rows page count free) p)
  pub linked : IsChain (λ p. (row_at (given_rows rows page count free) p).next) (given_free rows page count free) (moved chain given)
  pub many : length (given_rows rows page count free) ≡ length rows

pub frees : (rows : List Row) (page count free : ℕ) (chain given : List ℕ) → count ≡ length chain → IsChain (λ p. (row_at rows p).next) page chain
    → IsDistinct chain → AllByRecursion (λ x. x < length rows) chain → ((p : ℕ) → IsOneOf chain p → AllByRecursion (λ x. p ≢ x) given)
    → IsChain (λ p. (row_at rows p).next) free given → Frees rows page count free chain given
frees rows page zero free [] given is linked distinct below away free_linked =
    record { there = tt; others = λ p far. refl; gone = λ p inside. absurd inside; linked = free_linked; many = refl }
frees rows page (suc count) free [] given is linked distinct below away free_linked = absurd (let e : suc count ≡ 0 = is in cc)
frees rows page zero free (x ∷ chain) given is linked distinct below away free_linked = absurd (let e : 0 ≡ suc (length chain) = is in cc)
frees rows page (suc count) free (x ∷ chain) given is linked distinct below away free_linked =
    let rest : Frees (set rows page (free_row free)) (row_at rows page).next count page chain (page ∷ given) =
    frees (set rows page (free_row free)) (row_at rows page).next count page chain (page ∷ given) (less count (length chain) is)
    (chain-also (λ p. (row_at rows p).next) (λ p. (row_at (set rows page (free_row free)) p).next) (row_at rows page).next chain (unchanged chain far_chain)
    (subst (λ n. IsChain (λ p. (row_at rows p).next) (row_at rows n).next chain) (sym linked.0) linked.1))
    distinct.1 (still chain below.1)
    (λ p inside. ((λ e. one-all (λ y. x ≢ y) chain p distinct.0 inside (sym linked.0 ∙ sym e)), away p (inr inside))) (
      refl,
      subst (λ n. IsChain (λ p. (row_at (set rows page (free_row free)) p).next) n given) (sym (ap (λ (r : Row). r.next) here))
          (chain-also (λ p. (row_at rows p).next) (λ p. (row_at (set rows page (free_row free)) p).next) free given
          (unchanged given (subst (λ n. AllByRecursion (λ y. n ≢ y) given) (sym linked.0) (away x (inl refl)))) free_linked),
    ) in
    record {
      there = (inside, rest.there);
      others = λ p far. rest.others p far.1 ∙ get_or-set_other rows page p (free_row free) (free_row NONE) (λ e. far.0 (e ∙ linked.0));
      gone = λ p which. first_or_rest p which rest;
      linked = subst (λ n. IsChain (λ p. (row_at (given_rows (set rows page (free_row free)) (row_at rows page).next count page) p).next)
          (given_free (set rows page (free_row free)) (row_at rows page).next count page) (moved chain (n ∷ given))) linked.0 rest.linked;
      many = rest.many ∙ length-set rows page (free_row free);
    }
  where
    inside : page < length rows
    inside = subst (λ n. n < length rows) (sym linked.0) below.0

    less : (m n : ℕ) → suc m ≡ suc n → m ≡ n
    less m n e = omega (arith, e)

    here : row_at (set rows page (free_row free)) page ≡ free_row free
    here = get_or-set_same rows page (free_row free) (free_row NONE) inside

    far_chain : AllByRecursion (λ y. page ≢ y) chain
    far_chain = subst (λ n. AllByRecursion (λ y. n ≢ y) chain) (sym linked.0) distinct.0

    unchanged : (xs : List ℕ) → AllByRecursion (λ y. page ≢ y) xs → AllByRecursion (λ y. (row_at (set rows page (free_row free)) y).next ≡ (row_at rows y).next) xs
    unchanged [] far = tt
    unchanged (y ∷ xs) far = (ap (λ (r : Row). r.next) (get_or-set_other rows page y (free_row free) (free_row NONE) (λ e. far.0 (sym e))), unchanged xs far.1)

    still : (xs : List ℕ) → AllByRecursion (λ y. y < length rows) xs → AllByRecursion (λ y. y < length (set rows page (free_row free))) xs
    still [] all = tt
    still (y ∷ xs) all = (subst (λ n. y < n) (sym (length-set rows page (free_row free))) all.0, still xs all.1)

    first_or_rest : (p : ℕ) → IsOneOf (x ∷ chain) p → Frees (set rows page (free_row free)) (row_at rows page).next count page chain (page ∷ given)
        → IsGone (row_at (given_rows (set rows page (free_row free)) (row_at rows page).next count page) p)
    first_or_rest p (inl same) rest =
        let is : row_at (given_rows (set rows page (free_row free)) (row_at rows page).next count page) p ≡ free_row free =
        rest.others p (subst (λ n. AllByRecursion (λ y. n ≢ y) chain) (sym same) distinct.0)
        ∙ (ap (row_at (set rows page (free_row free))) (same ∙ sym linked.0) ∙ here) in
        record { filled = ap (λ (r : Row). r.filled) is; role = ap (λ (r : Row). r.role) is }
    first_or_rest p (inr which) rest = rest.gone p which

-- ---- closing a region

module _ (t : Table) (lexicals : List ℕ) (classes : ℕ → ClassSlots) (b : Blocks) (l : Layout) (tied : IsTied t lexicals classes b l)
    (h : ℕ) (r : Home) (named : lookup handle_of b.regions h ≡ Some r) (ordinary : h ≡ UNIQUE → ⊥) (rooted : IsRooted t.row l.pages r)
    (apart : (p : ℕ) → l.pages.owner p ≡ Some h → AllByRecursion (λ x. p ≢ x) l.free) where
  abbrev chain : List ℕ
  chain = rooted.chain.newest.page ∷ rooted.chain.older

  handle-is : r.handle ≡ h
  handle-is = lookup-key handle_of b.regions h r named

  chain-owned : AllByRecursion (λ (p : ℕ). l.pages.owner p ≡ Some h) chain
  chain-owned = subst (λ n. AllByRecursion (λ (p : ℕ). l.pages.owner p ≡ Some n) chain) handle-is (rooted.chain.newest.owned, rooted.chain.owned)

  pub chain-below : AllByRecursion (λ x. x < t.count) chain
  chain-below = all-from (λ x. x < t.count) chain (λ p inside. tied.drawn p h (one-all (λ (x : ℕ). l.pages.owner x ≡ Some h) chain p chain-owned inside))

  pub given-apart : (p : ℕ) → IsOneOf chain p → AllByRecursion (λ x. p ≢ x) tied.given
  given-apart p inside = all_append_left (λ x. p ≢ x) tied.given (numbers_from t.count (t.most - t.count))
      (subst (AllByRecursion (λ x. p ≢ x)) tied.free (apart p (one-all (λ (x : ℕ). l.pages.owner x ≡ Some h) chain p chain-owned inside)))

  owner-same : (o : Option ℕ) → (o ≡ Some h → ⊥) → owner_without h o ≡ o
  owner-same None other = refl
  owner-same (Some n) other = when_other n h None (Some n) (λ e. other (ap (λ m. Some m) e))

  owner-gone : (o : Option ℕ) → o ≡ Some h → owner_without h o ≡ None
  owner-gone o is = ap (owner_without h) is ∙ when_equal h h None (Some h) refl

  halves : (m n : ℕ) → handle_of_page m ≡ handle_of_page n → m ≡ n
  halves m n e = omega (arith, e)

  -- No region other than the closed one has a page of the closed region as its first page.
  rootless : (p : ℕ) → l.pages.owner p ≡ Some h → lookup handle_of (without handle_of b.regions h) (handle_of_page p) ≡ None
  rootless p owned = elim (cases_eq (handle_of_page p) h) [
    | inl same ↦ ap (lookup handle_of (without handle_of b.regions h)) same ∙ lookup-without handle_of b.regions h
    | inr other ↦ lookup-without_other handle_of b.regions h (handle_of_page p) other ∙ elim (none_or_some (lookup handle_of b.regions (handle_of_page p))) [
      | inl none ↦ none
      | inr (q, found) ↦
          let old : IsRooted t.row l.pages q = tied.roots (handle_of_page p) q found in
          let is : q.handle ≡ handle_of_page p = lookup-key handle_of b.regions (handle_of_page p) q found in
          let root : old.root ≡ p = halves old.root p (sym old.handle ∙ is) in
          absurd (other (sym is ∙ same_from_some (sym old.owned ∙ (ap l.pages.owner root ∙ owned))))
    ]
  ]

  -- If a region's handle is the one computed from a page's index, then this page is owned by the region.
  root-owned : (p : ℕ) → handle_of_page p ≡ h → l.pages.owner p ≡ Some h
  root-owned p same =
      let root : rooted.root ≡ p = halves rooted.root p (sym rooted.handle ∙ (handle-is ∙ sym same)) in
      sym (ap l.pages.owner root) ∙ (rooted.owned ∙ ap (λ n. Some n) handle-is)

  module _ (row : ℕ → Row) (free : ℕ) (others : (p : ℕ) → AllByRecursion (λ x. p ≢ x) chain → row p ≡ t.row p) (gone : (p : ℕ) → IsOneOf chain p → IsGone (row p))
      (linked : IsChain (λ p. (row p).next) free (moved chain tied.given)) (left : List ℕ) (lexical : left ≡ lexical_handles (without handle_of b.regions h)) where
    -- Freeing the pages of a region leaves the page table's rows for pages with other owners unchanged.
    kept : (p : ℕ) → (l.pages.owner p ≡ Some h → ⊥) → row p ≡ t.row p
    kept p other = elim (one-cases chain p) [
      | inl inside ↦ absurd (other (one-all (λ (x : ℕ). l.pages.owner x ≡ Some h) chain p chain-owned inside))
      | inr away ↦ others p away
    ]

    kept-rooted : (q : Home) → (q.handle ≡ h → ⊥) → IsRooted t.row l.pages q → IsRooted row (given_back l.pages h) q
    kept-rooted q other old = record {
      root = old.root;
      handle = old.handle;
      owned = owner-stays h q.handle (l.pages.owner old.root) other old.owned;
      chain = chain-stays l.pages h q other old.chain;
      newest = ap (λ (x : Row). x.newest) (kept old.root (not-ours old.root old.owned)) ∙ old.newest;
      count = ap (λ (x : Row). x.count) (kept old.root (not-ours old.root old.owned)) ∙ old.count;
      linked = chain-also (λ p. (t.row p).next) (λ p. (row p).next) old.chain.newest.page (old.chain.newest.page ∷ old.chain.older)
          (same-next (old.chain.newest.page ∷ old.chain.older) (old.chain.newest.owned, old.chain.owned)) old.linked;
      complete = λ p owned. old.complete p (owner-kept h q.handle (l.pages.owner p) owned);
    }
      where
        not-ours : (p : ℕ) → l.pages.owner p ≡ Some q.handle → l.pages.owner p ≡ Some h → ⊥
        not-ours p owned is = other (same_from_some (sym owned ∙ is))

        same-next : (xs : List ℕ) → AllByRecursion (λ (p : ℕ). l.pages.owner p ≡ Some q.handle) xs → AllByRecursion (λ x. (row x).next ≡ (t.row x).next) xs
        same-next [] all = tt
        same-next (x ∷ xs) all = (ap (λ (y : Row). y.next) (kept x (not-ours x all.0)), same-next xs all.1)

    pub closed-tied : IsTied (record t { row = row; free = free }) left classes (record b { regions = without handle_of b.regions h })
        (record l { pages = given_back l.pages h; free = moved chain l.free })
    closed-tied = record {
      most = tied.most;
      few = tied.few;
      drawn = λ p g owned. tied.drawn p g (owner-kept h g (l.pages.owner p) owned);
      rows = λ p. elim (one-cases chain p) [
        | inl inside ↦
            let owned : l.pages.owner p ≡ Some h = one-all (λ (x : ℕ). l.pages.owner x ≡ Some h) chain p chain-owned inside in
            record {
              marks = (gone p inside).filled ∙ sym (ap (λ o. limit o (l.pages.filled p)) (owner-gone (l.pages.owner p) owned));
              plays = (gone p inside).role ∙ sym (ap (λ o. role_of (sort_of o) (owner_without h (l.pages.owner p)) (l.class p)) (rootless p owned)
                  ∙ ap (λ o. role_of None o (l.class p)) (owner-gone (l.pages.owner p) owned));
            }
        | inr away ↦
            let other : (l.pages.owner p ≡ Some h → ⊥) = λ owned. not-one chain p away (rooted.complete p (owned ∙ ap (λ n. Some n) (sym handle-is))) in
            record {
              marks = ap (λ (x : Row). x.filled) (others p away) ∙ ((tied.rows p).marks ∙ ap (λ o. limit o (l.pages.filled p)) (sym (owner-same (l.pages.owner p) other)));
              plays = ap (λ (x : Row). x.role) (others p away) ∙ ((tied.rows p).plays
                  ∙ (ap (λ o. role_of (sort_of o) (l.pages.owner p) (l.class p)) (sym (lookup-without_other handle_of b.regions h (handle_of_page p) (λ e. other (root-owned p e))))
                  ∙ ap (λ o. role_of (sort_of (lookup handle_of (without handle_of b.regions h) (handle_of_page p))) o (l.class p)) (sym (owner-same (l.pages.owner p) other))));
            }
      ];
      given = moved chain tied.given;
      free = ap (moved chain) tied.free ∙ moved-append chain tied.given (numbers_from t.count (t.most - t.count));
      linked = linked;
      within = all-moved (λ p. p < t.count) chain tied.given (all_append (λ p. p < t.count) chain tied.given chain-below tied.within);
      homes = λ p g owned other.
          let old : l.pages.owner p ≡ Some g = owner-kept h g (l.pages.owner p) owned in
          let (q, found) = tied.homes p g old other in
          (q, lookup-without_other handle_of b.regions h g (λ e. never_none_and_some (owner-gone (l.pages.owner p) (old ∙ ap (λ n. Some n) e)) owned) ∙ found);
      roots = λ g q found. by g q found (cases_eq g h);
      newest = lexical;
      stock = tied.stock;
      marked = λ p n owned inside. tied.marked p n (owner-kept h UNIQUE (l.pages.owner p) owned) inside;
      unmarked = λ p n other small. tied.unmarked p n (λ owned. other (owner-stays h UNIQUE (l.pages.owner p) (λ e. ordinary (sym e)) owned)) small;
    }
      where
        not-one : (xs : List ℕ) (p : ℕ) → AllByRecursion (λ x. p ≢ x) xs → IsOneOf xs p → ⊥
        not-one xs p away inside = one-all (λ x. p ≡ x → ⊥) xs p away inside refl

        by : (g : ℕ) (q : Home) → lookup handle_of (without handle_of b.regions h) g ≡ Some q → (g ≡ h) ⊎ (g ≡ h → ⊥) → IsRooted row (given_back l.pages h) q
        by g q found (inl same) = absurd (never_none_and_some (lookup-without handle_of b.regions h) (ap (lookup handle_of (without handle_of b.regions h)) (sym same) ∙ found))
        by g q found (inr other) =
            let old : lookup handle_of b.regions g ≡ Some q = sym (lookup-without_other handle_of b.regions h g other) ∙ found in
            kept-rooted q (λ e. other (sym (lookup-key handle_of b.regions g q old) ∙ e)) (tied.roots g q old)
