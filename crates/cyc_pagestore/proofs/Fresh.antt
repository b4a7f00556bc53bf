-- A taken page that belongs to no region yet may be split into slots, or a region may begin in it.
use Rattle.std.proofs.Common.{◌≡◌, ℕ, ◌+◌, ◌<◌, false, List, [], ◌∷◌, refl, sym, ap, subst, ◌∙◌, inl, inr, arith}
use Rattle.std.proofs.lemmas.Bool.{cases_eq}
use Rattle.cyc_words.proofs.Booleans.{never_true_and_false}
use Rattle.cyc_store.specs.inside.Kept.{IsChain, IsOneOf}
use Rattle.cyc_store.specs.declared.row.Role.{Role}
use Rattle.cyc_store.specs.declared.row.Role.TheVariants.{Rest}
use Rattle.cyc_store.specs.declared.row.Row.{Row}
use Rattle.cyc_store.specs.declared.row.TheConstants.{NONE}
use Rattle.cyc_store.proofs.TieLemmas.{chain-also}
use Rattle.cyc_store.proofs.TieClosing.{all-from}
use Rattle.cyc_pagestore.specs.inside.Table.{IsRoot, Backing, reach_of, IsRegion, Backs}
use Rattle.cyc_pagestore.proofs.Reaching.{reach-stale, reach-empty, reach-same}
use Rattle.cyc_pagestore.proofs.Backing.{with_at, at-same, at-other, rest-no_root, as-row, region-stays}

-- ---- writes to a page that no region contains

-- A taken page that belongs to no region has no live words. No page with live words has the taken
-- page as its owner (its region's first page).
module _ (b : Backing) (next : ℕ) (row : ℕ → Row) (first : ℕ) (order : List ℕ) (is : Backs b next row first order) (page : ℕ) (there : page < b.pages)
    (rest : b.role page ≡ Rest) (taken : b.free page ≡ false) (alone : b.chain page ≡ page ∷ []) where
  pub away-order : IsOneOf order page → ⊥
  away-order which = never_true_and_false (is.free page which).1 taken

  -- No page with live words has a page that was just taken as its owner (its region's first page).
  pub owns-none : (p : ℕ) → p < b.pages → b.owner p ≡ page → reach_of b p ≡ 0
  owns-none p below owner = elim (is.held p below) [
    | inl none ↦ none
    | inr (root, which) ↦ absurd (rest-no_root (b.role (b.owner p)) (ap b.role owner ∙ rest) root)
  ]

  pub root-away : (r : ℕ) → IsRoot (b.role r) → r ≡ page → ⊥
  root-away r root e = rest-no_root (b.role r) (ap b.role e ∙ rest) root

  linked-away : (new : Row) → IsChain (λ (p : ℕ). (with_at row page new p).next) first order
  linked-away new = chain-also (λ p. (row p).next) (λ p. (with_at row page new p).next) first order
      (all-from (λ p. (with_at row page new p).next ≡ (row p).next) order
      (λ p which. ap (λ (r : Row). r.next) (at-other row page new p (λ e. away-order (subst (IsOneOf order) e which))))) is.linked

  -- No region contains the taken page, since the page begins a chain of pages of its own.
  pub member-away : (r : ℕ) (old : IsRegion b row r) → (r ≡ page → ⊥) → (p : ℕ) → IsOneOf old.chain p → p ≡ page → ⊥
  member-away r old away p which e =
      let empty : b.chain page ≡ [] = ap b.chain (sym e) ∙ (old.members p which).inner (λ same. away (sym same ∙ e)) in
      let clash : page ∷ [] ≡ [] = sym alone ∙ empty in cc

  -- ---- the page is split into slots
  module _ (new : Row) (role : Role) (filled : new.filled ≡ 0) (plays : new.role ≡ role) (last : new.newest ≡ NONE) (other_role : IsRoot role → ⊥) where
    abbrev cut : Backing
    cut = record b { fill = with_at b.fill page 0; role = with_at b.role page role; newest = with_at b.newest page NONE }

    cut-reach : (p : ℕ) → (p ≡ page → ⊥) → reach_of cut p ≡ reach_of b p
    cut-reach p other = reach-same b.serial b.owner b.fill b.serial b.owner (with_at b.fill page 0) p refl refl refl (at-other b.fill page 0 p other)

    cut-none : (p : ℕ) → p ≡ page → reach_of cut p ≡ 0
    cut-none p same = reach-empty b.serial b.owner (with_at b.fill page 0) p (at-same b.fill page 0 p same)

    cut-root : (r : ℕ) → IsRoot (cut.role r) → r ≡ page → ⊥
    cut-root r root e = other_role (subst IsRoot (at-same b.role page role r e) root)

    pub cut-backs : Backs cut next (with_at row page new) first order
    cut-backs = record {
      few = is.few;
      owned = is.owned;
      newer = is.newer;
      one = is.one;
      filled = λ p below. elim (cases_eq p page) [
        | inl same ↦ ap (λ (r : Row). r.filled) (at-same row page new p same) ∙ filled ∙ sym (cut-none p same)
        | inr other ↦ ap (λ (r : Row). r.filled) (at-other row page new p other) ∙ is.filled p below ∙ sym (cut-reach p other)
      ];
      role = λ p below. elim (cases_eq p page) [
        | inl same ↦ ap (λ (r : Row). r.role) (at-same row page new p same) ∙ plays ∙ sym (at-same b.role page role p same)
        | inr other ↦ ap (λ (r : Row). r.role) (at-other row page new p other) ∙ is.role p below ∙ sym (at-other b.role page role p other)
      ];
      newest = λ p below. elim (cases_eq p page) [
        | inl same ↦ ap (λ (r : Row). r.newest) (at-same row page new p same) ∙ last ∙ sym (at-same b.newest page NONE p same)
        | inr other ↦ ap (λ (r : Row). r.newest) (at-other row page new p other) ∙ is.newest p below ∙ sym (at-other b.newest page NONE p other)
      ];
      idle = λ p below idle. elim (cases_eq p page) [
        | inl same ↦ at-same b.newest page NONE p same
        | inr other ↦ at-other b.newest page NONE p other ∙ is.idle p below (sym (at-other b.role page role p other) ∙ idle)
      ];
      held = λ p below. elim (cases_eq p page) [
        | inl same ↦ inl (cut-none p same)
        | inr other ↦ elim (is.held p below) [
          | inl none ↦ inl (cut-reach p other ∙ none)
          | inr (root, which) ↦ inr (subst IsRoot (sym (at-other b.role page role (b.owner p) (root-away (b.owner p) root))) root, which)
        ]
      ];
      linked = linked-away new;
      apart = is.apart;
      free = is.free;
      all = is.all;
      unused = λ p which. at-other b.role page role p (λ e. away-order (subst (IsOneOf order) e which)) ∙ is.unused p which;
      root = λ r below root.
          let away = cut-root r root in let old = is.root r below (subst IsRoot (at-other b.role page role r away) root) in
          region-stays b cut row (with_at row page new) r refl old (λ p which. let apart = member-away r old away p which in
          record { owner = refl; serial = refl; free = refl; role = at-other b.role page role p apart; chain = refl; rows = as-row (at-other row page new p apart) });
    }

  -- ---- a region begins in the page
  module _ (new : Row) (role : Role) (filled : new.filled ≡ 0) (plays : new.role ≡ role) (last : new.newest ≡ page) (link : new.next ≡ NONE) (count : new.count ≡ 1) (is_root : IsRoot role)
      (s : ℕ) (above : (p : ℕ) → p < b.pages → b.serial p < s) where
    abbrev begun : Backing
    begun = record b {
      owner = with_at b.owner page page;
      fill = with_at b.fill page 0;
      serial = with_at b.serial page s;
      role = with_at b.role page role;
      newest = with_at b.newest page page;
    }

    begun-none : (p : ℕ) → p ≡ page → reach_of begun p ≡ 0
    begun-none p same = reach-empty begun.serial begun.owner begun.fill p (at-same b.fill page 0 p same)

    begun-reach : (p : ℕ) → p < b.pages → (p ≡ page → ⊥) → reach_of begun p ≡ reach_of b p
    begun-reach p below other = elim (cases_eq (b.owner p) page) [
      | inl its ↦
          reach-stale begun.serial begun.owner begun.fill p
          (λ e. let less = above p below in let same = sym (at-other b.serial page s p other) ∙ e ∙ ap begun.serial (at-other b.owner page page p other) ∙ at-same b.serial page s (b.owner p) its in omega (arith, less, same))
          ∙ sym (owns-none p below its)
      | inr apart ↦ reach-same b.serial b.owner b.fill begun.serial begun.owner begun.fill p (at-other b.owner page page p other) (at-other b.serial page s p other) (at-other b.serial page s (b.owner p) apart) (at-other b.fill page 0 p other)
    ]

    pub begun-backs : Backs begun (s + 1) (with_at row page new) first order
    begun-backs = record {
      few = is.few;
      owned = λ p below. elim (cases_eq p page) [
        | inl same ↦ subst (λ n. n < b.pages) (sym (at-same b.owner page page p same)) there
        | inr other ↦ subst (λ n. n < b.pages) (sym (at-other b.owner page page p other)) (is.owned p below)
      ];
      newer = λ p below. elim (cases_eq p page) [
        | inl same ↦ let e = at-same b.serial page s p same in omega (arith, e)
        | inr other ↦ let e = at-other b.serial page s p other in let less = above p below in omega (arith, e, less)
      ];
      one = λ p q below also e. elim (cases_eq p page) [
        | inl same ↦ elim (cases_eq q page) [
          | inl too ↦ at-same b.owner page page p same ∙ sym (at-same b.owner page page q too)
          | inr other ↦ absurd (let less = above q also in let f = sym (at-same b.serial page s p same) ∙ e ∙ at-other b.serial page s q other in omega (arith, less, f))
        ]
        | inr apart ↦ elim (cases_eq q page) [
          | inl too ↦ absurd (let less = above p below in let f = sym (at-other b.serial page s p apart) ∙ e ∙ at-same b.serial page s q too in omega (arith, less, f))
          | inr other ↦ at-other b.owner page page p apart ∙ is.one p q below also (sym (at-other b.serial page s p apart) ∙ e ∙ at-other b.serial page s q other) ∙ sym (at-other b.owner page page q other)
        ]
      ];
      filled = λ p below. elim (cases_eq p page) [
        | inl same ↦ ap (λ (r : Row). r.filled) (at-same row page new p same) ∙ filled ∙ sym (begun-none p same)
        | inr other ↦ ap (λ (r : Row). r.filled) (at-other row page new p other) ∙ is.filled p below ∙ sym (begun-reach p below other)
      ];
      role = λ p below. elim (cases_eq p page) [
        | inl same ↦ ap (λ (r : Row). r.role) (at-same row page new p same) ∙ plays ∙ sym (at-same b.role page role p same)
        | inr other ↦ ap (λ (r : Row). r.role) (at-other row page new p other) ∙ is.role p below ∙ sym (at-other b.role page role p other)
      ];
      newest = λ p below. elim (cases_eq p page) [
        | inl same ↦ ap (λ (r : Row). r.newest) (at-same row page new p same) ∙ last ∙ sym (at-same b.newest page page p same)
        | inr other ↦ ap (λ (r : Row). r.newest) (at-other row page new p other) ∙ is.newest p below ∙ sym (at-other b.newest page page p other)
      ];
      idle = λ p below idle. elim (cases_eq p page) [
        | inl same ↦ absurd (rest-no_root role (sym (at-same b.role page role p same) ∙ idle) is_root)
        | inr other ↦ at-other b.newest page page p other ∙ is.idle p below (sym (at-other b.role page role p other) ∙ idle)
      ];
      held = λ p below. elim (cases_eq p page) [
        | inl same ↦ inl (begun-none p same)
        | inr other ↦ elim (is.held p below) [
          | inl none ↦ inl (begun-reach p below other ∙ none)
          | inr (root, which) ↦
              let owner = at-other b.owner page page p other in
              inr (
                subst (λ o. IsRoot (begun.role o)) (sym owner) (subst IsRoot (sym (at-other b.role page role (b.owner p) (root-away (b.owner p) root))) root),
                subst (λ o. IsOneOf (b.chain o) p) (sym owner) which,
              )
        ]
      ];
      linked = linked-away new;
      apart = is.apart;
      free = is.free;
      all = is.all;
      unused = λ p which. at-other b.role page role p (λ e. away-order (subst (IsOneOf order) e which)) ∙ is.unused p which;
      root = λ r below root. elim (cases_eq r page) [
        | inl same ↦ subst (IsRegion begun (with_at row page new)) (sym same) new-region
        | inr away ↦
            let old = is.root r below (subst IsRoot (at-other b.role page role r away) root) in
            region-stays b begun row (with_at row page new) r refl old (λ p which. let apart = member-away r old away p which in
            record {
              owner = at-other b.owner page page p apart;
              serial = at-other b.serial page s p apart;
              free = refl;
              role = at-other b.role page role p apart;
              chain = refl;
              rows = as-row (at-other row page new p apart);
            })
      ];
    }
      where
        here : with_at row page new page ≡ new
        here = at-same row page new page refl

        new-region : IsRegion begun (with_at row page new) page
        new-region = record {
          chain = page ∷ [];
          linked = (ap (λ (r : Row). r.newest) here ∙ last, ap (λ (r : Row). r.next) here ∙ link);
          count = ap (λ (r : Row). r.count) here ∙ count;
          apart = (tt, tt);
          rest = [];
          head = alone;
          pooled = λ p which. subst (λ xs. IsOneOf xs p) (sym alone) which;
          chained = λ p which. subst (λ xs. IsOneOf xs p) alone which;
          members = λ p which. elim which [
            | inl same ↦ record {
              there = subst (λ n. n < b.pages) (sym same) there;
              owner = at-same b.owner page page p same;
              serial = at-same b.serial page s p same ∙ sym (at-same b.serial page s page refl);
              taken = ap b.free same ∙ taken;
              role = λ other. absurd (other same);
              inner = λ other. absurd (other same);
            }
            | inr none ↦ absurd none
          ];
        }
