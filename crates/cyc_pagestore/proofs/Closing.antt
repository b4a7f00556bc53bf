-- A pool, with the table's data stored outside the pool, still represents a page table after all pages of a region are freed.
use Rattle.std.proofs.Common.{◌≡◌, ℕ, zero, suc, ◌+◌, ◌<◌, Bool, true, false, List, [], ◌∷◌, length, length-set, refl, sym, ap, subst, ◌∙◌, inl, inr, arith, get_or-set_same, get_or-set_other}
use Rattle.std.specs.Prelude.{◌⊎◌, set}
use Rattle.std.specs.List.{AllByRecursion}
use Rattle.std.proofs.lemmas.Bool.{cases_eq}
use Rattle.cyc_words.specs.Distinct.{IsDistinct}
use Rattle.cyc_store.specs.Table.{free_row, row_at, given_rows, given_free}
use Rattle.cyc_store.specs.inside.Kept.{IsChain, IsOneOf}
use Rattle.cyc_store.specs.declared.row.Role.TheVariants.{Rest}
use Rattle.cyc_store.specs.declared.row.Row.{Row}
use Rattle.cyc_store.specs.declared.row.TheConstants.{NONE}
use Rattle.cyc_pagestore.specs.inside.Links.{moved, chain_from}
use Rattle.cyc_pagestore.specs.inside.Table.{IsRoot, Backing, reach_of, IsMember, IsRegion, Backs}
use Rattle.cyc_store.proofs.TieLemmas.{chain-also}
use Rattle.cyc_store.proofs.TieClosing.{one-all, all-from}
use Rattle.cyc_pagestore.proofs.Rows.{not-away, one-or-not, moved-out, moved-in, moved-apart}
use Rattle.cyc_pagestore.proofs.Reaching.{reach-stale, reach-empty, reach-same}
use Rattle.cyc_pagestore.proofs.Backing.{with_at, at-same, at-other, rest-no_root, root-in, region-stays, as-row}
use Rattle.cyc_pagestore.proofs.Growing.{root-member}

-- ---- a chain of rows is freed

-- If a list is a chain of the links from a first page on, then following the links yields the list.
pub chain-is : (rows : List Row) (first count : ℕ) (xs : List ℕ) → IsChain (λ (p : ℕ). (row_at rows p).next) first xs → count ≡ length xs → chain_from rows first count ≡ xs
chain-is rows first zero [] linked is = refl
chain-is rows first (suc count) [] linked is = absurd (let e : suc count ≡ 0 = is in cc)
chain-is rows first zero (x ∷ xs) linked is = absurd (let e : 0 ≡ suc (length xs) = is in cc)
chain-is rows first (suc count) (x ∷ xs) linked is =
    (λ j. linked.0 j ∷ chain_from rows (row_at rows (linked.0 j)).next count) ∙ ap (λ ys. x ∷ ys) (chain-is rows (row_at rows x).next count xs linked.1 (omega (arith, is)))

pub record Given (rows : List Row) (page count free : ℕ) (chain order : List ℕ) : Type 0 where
  pub others : (p : ℕ) → (IsOneOf chain p → ⊥) → row_at (given_rows rows page count free) p ≡ row_at rows p
  pub gone : (p : ℕ) → IsOneOf chain p → (next : ℕ) × (row_at (given_rows rows page count free) p ≡ free_row next)
  pub linked : IsChain (λ (p : ℕ). (row_at (given_rows rows page count free) p).next) (given_free rows page count free) (moved chain order)
  pub many : length (given_rows rows page count free) ≡ length rows

pub links_given : (rows : List Row) (page count free : ℕ) (chain order : List ℕ) → count ≡ length chain → IsChain (λ (p : ℕ). (row_at rows p).next) page chain → IsDistinct chain
    → AllByRecursion (λ x. x < length rows) chain → ((p : ℕ) → IsOneOf chain p → IsOneOf order p → ⊥) → IsChain (λ (p : ℕ). (row_at rows p).next) free order → Given rows page count free chain order
links_given rows page zero free [] order is linked apart below away free_linked = record { others = λ p never. refl; gone = λ p inside. absurd inside; linked = free_linked; many = refl }
links_given rows page (suc count) free [] order is linked apart below away free_linked = absurd (let e : suc count ≡ 0 = is in cc)
links_given rows page zero free (x ∷ chain) order is linked apart below away free_linked = absurd (let e : 0 ≡ suc (length chain) = is in cc)
links_given rows page (suc count) free (x ∷ chain) order is linked apart below away free_linked =
    let rest : Given new (row_at rows page).next count page chain (page ∷ order) =
    links_given new (row_at rows page).next count page chain (page ∷ order) (less count (length chain) is)
    (chain-also (λ p. (row_at rows p).next) (λ p. (row_at new p).next) (row_at rows page).next chain (unchanged chain page-out)
    (subst (λ n. IsChain (λ (p : ℕ). (row_at rows p).next) (row_at rows n).next chain) (sym linked.0) linked.1))
    apart.1
    (all-from (λ y. y < length new) chain (λ y inside. subst (λ n. y < n) (sym (length-set rows page (free_row free))) (one-all (λ z. z < length rows) chain y below.1 inside)))
    (λ p inside which. elim which [
      | inl same ↦ page-out (subst (IsOneOf chain) same inside)
      | inr later ↦ away p (inr inside) later
    ]) (
      refl,
      subst (λ n. IsChain (λ (p : ℕ). (row_at new p).next) n order) (sym (ap (λ (r : Row). r.next) here))
          (chain-also (λ p. (row_at rows p).next) (λ p. (row_at new p).next) free order (unchanged order (λ inside. away x (inl refl) (subst (IsOneOf order) linked.0 inside))) free_linked),
    ) in
    record {
      others = λ p never. rest.others p (λ inside. never (inr inside)) ∙ get_or-set_other rows page p (free_row free) (free_row NONE) (λ e. never (inl (e ∙ linked.0)));
      gone = λ p which. elim which [
        | inl same ↦ (free, ap (row_at (given_rows new (row_at rows page).next count page)) (same ∙ sym linked.0) ∙ rest.others page page-out ∙ here)
        | inr later ↦ rest.gone p later
      ];
      linked = subst (λ n. IsChain (λ (p : ℕ). (row_at (given_rows new (row_at rows page).next count page) p).next) (given_free new (row_at rows page).next count page) (moved chain (n ∷ order))) linked.0 rest.linked;
      many = rest.many ∙ length-set rows page (free_row free);
    }
  where
    new : List Row
    new = set rows page (free_row free)

    there : page < length rows
    there = subst (λ n. n < length rows) (sym linked.0) below.0

    here : row_at new page ≡ free_row free
    here = get_or-set_same rows page (free_row free) (free_row NONE) there

    page-out : IsOneOf chain page → ⊥
    page-out inside = not-away chain x apart.0 (subst (IsOneOf chain) linked.0 inside)

    unchanged : (xs : List ℕ) → (IsOneOf xs page → ⊥) → AllByRecursion (λ y. (row_at new y).next ≡ (row_at rows y).next) xs
    unchanged xs never = all-from (λ y. (row_at new y).next ≡ (row_at rows y).next) xs
        (λ y inside. ap (λ (r : Row). r.next) (get_or-set_other rows page y (free_row free) (free_row NONE) (λ e. never (subst (IsOneOf xs) e inside))))

    less : (m n : ℕ) → suc m ≡ suc n → m ≡ n
    less m n e = omega (arith, e)

-- ---- a region is closed

module _ (b : Backing) (next : ℕ) (rows : List Row) (first : ℕ) (order : List ℕ) (is : Backs b next (λ (p : ℕ). row_at rows p) first order) (whole : length rows ≡ b.pages)
    (root : ℕ) (there : root < b.pages) (role : IsRoot (b.role root)) (s : ℕ) (above : (p : ℕ) → p < b.pages → b.serial p < s)
    (free : ℕ → Bool) (given_free_in : (p : ℕ) → p < b.pages → free p ≡ true → IsOneOf (b.chain root) p ⊎ (b.free p ≡ true))
    (given_free_out : (p : ℕ) → p < b.pages → IsOneOf (b.chain root) p ⊎ (b.free p ≡ true) → free p ≡ true) where
  abbrev region : IsRegion b (λ (p : ℕ). row_at rows p) root
  region = is.root root there role

  abbrev count : ℕ
  count = (row_at rows root).count

  abbrev start : ℕ
  start = (row_at rows root).newest

  abbrev new_rows : List Row
  new_rows = given_rows rows start count first

  abbrev closed : Backing
  closed = record b {
    fill = with_at b.fill root 0;
    serial = with_at b.serial root s;
    free = free;
    chain = with_at b.chain root [];
    role = with_at b.role root Rest;
    newest = with_at b.newest root NONE;
  }

  own : IsMember b root root
  own = root-member b next (λ p. row_at rows p) first order is root there role

  not-free : (p : ℕ) → IsOneOf region.chain p → IsOneOf order p → ⊥
  not-free p inside which = clash (is.free p which).1 (region.members p inside).taken
    where
      clash : {f : Bool} → f ≡ true → f ≡ false → ⊥
      clash first_is second_is = let e : true ≡ false = sym first_is ∙ second_is in cc

  pub chain-below : AllByRecursion (λ x. x < length rows) region.chain
  chain-below = all-from (λ x. x < length rows) region.chain (λ p inside. subst (λ n. p < n) (sym whole) (region.members p inside).there)

  pub gives : Given rows start count first region.chain order
  gives = links_given rows start count first region.chain order region.count region.linked region.apart chain-below not-free is.linked

  pub chain-found : chain_from rows start count ≡ region.chain
  chain-found = chain-is rows start count region.chain region.linked region.count

  gone-none : (p : ℕ) → p < b.pages → b.owner p ≡ root → reach_of closed p ≡ 0
  gone-none p below owner = elim (cases_eq p root) [
    | inl same ↦ reach-empty closed.serial closed.owner closed.fill p (at-same b.fill root 0 p same)
    | inr other ↦ reach-stale closed.serial closed.owner closed.fill p
        (λ e. let less = above p below in let same = sym (at-other b.serial root s p other) ∙ e ∙ at-same b.serial root s (b.owner p) owner in omega (arith, less, same))
  ]

  kept-reach : (p : ℕ) → (b.owner p ≡ root → ⊥) → reach_of closed p ≡ reach_of b p
  kept-reach p other =
      let second : (p ≡ root → ⊥) = λ e. other (ap b.owner e ∙ own.owner) in
      reach-same b.serial b.owner b.fill closed.serial closed.owner closed.fill p refl (at-other b.serial root s p second) (at-other b.serial root s (b.owner p) other) (at-other b.fill root 0 p second)

  -- A page whose owner is the first page of a region, but which is not in the region's chain of pages, has no live words.
  outside-none : (p : ℕ) → p < b.pages → (IsOneOf region.chain p → ⊥) → b.owner p ≡ root → reach_of b p ≡ 0
  outside-none p below never owner = elim (is.held p below) [
    | inl none ↦ none
    | inr (owns, which) ↦ absurd (never (region.chained p (subst (λ o. IsOneOf (b.chain o) p) owner which)))
  ]

  outside-reach : (p : ℕ) → p < b.pages → (IsOneOf region.chain p → ⊥) → reach_of closed p ≡ reach_of b p
  outside-reach p below never = elim (cases_eq (b.owner p) root) [
    | inl owner ↦ gone-none p below owner ∙ sym (outside-none p below never owner)
    | inr other ↦ kept-reach p other
  ]

  root-inside : IsOneOf region.chain root
  root-inside = root-in b (λ p. row_at rows p) root region

  never-root : (p : ℕ) → (IsOneOf region.chain p → ⊥) → p ≡ root → ⊥
  never-root p never e = never (subst (IsOneOf region.chain) (sym e) root-inside)

  pub closed-backs : Backs closed (s + 1) (λ (p : ℕ). row_at new_rows p) (given_free rows start count first) (moved (chain_from rows start count) order)
  closed-backs = subst (λ xs. Backs closed (s + 1) (λ (p : ℕ). row_at new_rows p) (given_free rows start count first) (moved xs order)) (sym chain-found) (record {
    few = is.few;
    owned = is.owned;
    newer = λ p below. elim (cases_eq p root) [
      | inl same ↦ let e = at-same b.serial root s p same in omega (arith, e)
      | inr other ↦ let e = at-other b.serial root s p other in let less = above p below in omega (arith, e, less)
    ];
    one = λ p q below more e. elim (cases_eq p root) [
      | inl same ↦ elim (cases_eq q root) [
        | inl too ↦ ap b.owner (same ∙ sym too)
        | inr other ↦ absurd (let less = above q more in let f = sym (at-same b.serial root s p same) ∙ e ∙ at-other b.serial root s q other in omega (arith, less, f))
      ]
      | inr away ↦ elim (cases_eq q root) [
        | inl too ↦ absurd (let less = above p below in let f = sym (at-other b.serial root s p away) ∙ e ∙ at-same b.serial root s q too in omega (arith, less, f))
        | inr other ↦ is.one p q below more (sym (at-other b.serial root s p away) ∙ e ∙ at-other b.serial root s q other)
      ]
    ];
    filled = λ p below. elim (one-or-not region.chain p) [
      | inl inside ↦ ap (λ (r : Row). r.filled) (gives.gone p inside).1 ∙ sym (gone-none p below (region.members p inside).owner)
      | inr never ↦ ap (λ (r : Row). r.filled) (gives.others p never) ∙ is.filled p below ∙ sym (outside-reach p below never)
    ];
    role = λ p below. elim (one-or-not region.chain p) [
      | inl inside ↦ ap (λ (r : Row). r.role) (gives.gone p inside).1 ∙ sym (inside-role p inside)
      | inr never ↦ ap (λ (r : Row). r.role) (gives.others p never) ∙ is.role p below ∙ sym (at-other b.role root Rest p (never-root p never))
    ];
    newest = λ p below. elim (one-or-not region.chain p) [
      | inl inside ↦ ap (λ (r : Row). r.newest) (gives.gone p inside).1 ∙ sym (elim (cases_eq p root) [
        | inl same ↦ at-same b.newest root NONE p same
        | inr other ↦ at-other b.newest root NONE p other ∙ is.idle p below ((region.members p inside).role other)
      ])
      | inr never ↦ ap (λ (r : Row). r.newest) (gives.others p never) ∙ is.newest p below ∙ sym (at-other b.newest root NONE p (never-root p never))
    ];
    idle = λ p below idle. elim (cases_eq p root) [
      | inl same ↦ at-same b.newest root NONE p same
      | inr other ↦ at-other b.newest root NONE p other ∙ is.idle p below (sym (at-other b.role root Rest p other) ∙ idle)
    ];
    held = λ p below. elim (cases_eq (b.owner p) root) [
      | inl owner ↦ inl (gone-none p below owner)
      | inr other ↦ elim (is.held p below) [
        | inl none ↦ inl (kept-reach p other ∙ none)
        | inr (owns, which) ↦ inr (
          subst IsRoot (sym (at-other b.role root Rest (b.owner p) other)) owns,
          subst (λ xs. IsOneOf xs p) (sym (at-other b.chain root [] (b.owner p) other)) which,
        )
      ]
    ];
    linked = gives.linked;
    apart = moved-apart region.chain order region.apart is.apart not-free;
    free = λ p which. elim (moved-out region.chain order p which) [
      | inl inside ↦ let below = (region.members p inside).there in (below, given_free_out p below (inl (region.pooled p inside)))
      | inr old ↦ let f = is.free p old in (f.0, given_free_out p f.0 (inr f.1))
    ];
    all = λ p below now. moved-in region.chain order p (elim (given_free_in p below now) [
      | inl inside ↦ inl (region.chained p inside)
      | inr old ↦ inr (is.all p below old)
    ]);
    unused = λ p which. elim (moved-out region.chain order p which) [
      | inl inside ↦ inside-role p inside
      | inr old ↦ at-other b.role root Rest p (λ e. not-free p (subst (IsOneOf region.chain) (sym e) root-inside) old) ∙ is.unused p old
    ];
    root = λ r below also.
        let second : (r ≡ root → ⊥) = λ e. rest-no_root (closed.role r) (at-same b.role root Rest r e) also in
        let old = is.root r below (subst IsRoot (at-other b.role root Rest r second) also) in
        region-stays b closed (λ p. row_at rows p) (λ p. row_at new_rows p) r refl old (λ p which.
        let m = old.members p which in
        let apart : (p ≡ root → ⊥) = λ e. second (sym m.owner ∙ ap b.owner e ∙ own.owner) in
        let never : (IsOneOf region.chain p → ⊥) = λ inside. second (sym m.owner ∙ (region.members p inside).owner) in
        record {
          owner = refl;
          serial = at-other b.serial root s p apart;
          free = still p m.there never m.taken ∙ sym m.taken;
          role = at-other b.role root Rest p apart;
          chain = at-other b.chain root [] p apart;
          rows = as-row (gives.others p never);
        });
  })
    where
      inside-role : (p : ℕ) → IsOneOf region.chain p → closed.role p ≡ Rest
      inside-role p inside = elim (cases_eq p root) [
        | inl same ↦ at-same b.role root Rest p same
        | inr other ↦ at-other b.role root Rest p other ∙ (region.members p inside).role other
      ]

      either : (f : Bool) → (f ≡ true) ⊎ (f ≡ false)
      either true = inl refl
      either false = inr refl

      still : (p : ℕ) → p < b.pages → (IsOneOf region.chain p → ⊥) → b.free p ≡ false → free p ≡ false
      still p below never taken = elim (either (free p)) [
        | inl now ↦ elim (given_free_in p below now) [
          | inl inside ↦ absurd (never (region.chained p inside))
          | inr old ↦ absurd (let e : true ≡ false = sym old ∙ taken in cc)
        ]
        | inr not ↦ not
      ]
