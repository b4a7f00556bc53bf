-- Proofs that more words of the newest page of a region may be allocated, and that a page may be added to the region.
use Rattle.std.proofs.Common.{◌≡◌, ◌≢◌, ℕ, suc, ◌+◌, ◌<◌, false, List, [], ◌∷◌, ◌++◌, length, refl, sym, ap, subst, ◌∙◌, inl, inr, arith}
use Rattle.std.specs.Prelude.{◌⊎◌}
use Rattle.std.proofs.lemmas.Bool.{cases_eq}
use Rattle.cyc_store.specs.inside.Kept.{IsChain, IsOneOf}
use Rattle.cyc_store.specs.declared.row.Role.TheVariants.{Rest}
use Rattle.cyc_store.specs.declared.row.Row.{Row}
use Rattle.cyc_store.proofs.TieLemmas.{chain-also}
use Rattle.cyc_store.proofs.TieClosing.{all-from}
use Rattle.cyc_pagestore.specs.inside.Links.{next_of, longer_of}
use Rattle.cyc_pagestore.specs.inside.Table.{IsRoot, Backing, reach_of, IsMember, IsRegion, Backs}
use Rattle.cyc_pagestore.proofs.Reaching.{reach-by_serial, reach-stale, reach-same}
use Rattle.cyc_pagestore.proofs.Backing.{with_at, at-same, at-other, rest-no_root, as-row, root-in, region-stays}
use Rattle.cyc_pagestore.proofs.Fresh.{away-order, owns-none, root-away, member-away}

-- ---- elements of a list with one more at its end

pub one-left : (xs ys : List ℕ) (p : ℕ) → IsOneOf xs p → IsOneOf (xs ++ ys) p
one-left [] ys p inside = absurd inside
one-left (x ∷ xs) ys p (inl same) = inl same
one-left (x ∷ xs) ys p (inr later) = inr (one-left xs ys p later)

pub one-last : (xs : List ℕ) (p : ℕ) → IsOneOf (xs ++ p ∷ []) p
one-last [] p = inl refl
one-last (x ∷ xs) p = inr (one-last xs p)

pub one-split : (xs : List ℕ) (page p : ℕ) → IsOneOf (xs ++ page ∷ []) p → IsOneOf xs p ⊎ (p ≡ page)
one-split [] page p inside = elim inside [ inl same ↦ inr same | inr none ↦ absurd none ]
one-split (x ∷ xs) page p (inl same) = inl (inl same)
one-split (x ∷ xs) page p (inr later) = elim (one-split xs page p later) [ inl inside ↦ inl (inr inside) | inr same ↦ inr same ]

-- ---- the newest page of a region

newest-in : (next : ℕ → ℕ) (n : ℕ) (xs : List ℕ) (p : ℕ) → IsChain next n xs → IsOneOf xs p → IsOneOf xs n
newest-in next n [] p linked inside = absurd inside
newest-in next n (x ∷ xs) p linked inside = inl linked.0

module _ (b : Backing) (next : ℕ) (row : ℕ → Row) (first : ℕ) (order : List ℕ) (is : Backs b next row first order) (root : ℕ) (there : root < b.pages) (role : IsRoot (b.role root)) where
  abbrev region : IsRegion b row root
  region = is.root root there role

  pub root-member : IsMember b root root
  root-member = region.members root (root-in b row root region)

  pub newest-one : IsOneOf region.chain (row root).newest
  newest-one = newest-in (λ p. (row p).next) (row root).newest region.chain root region.linked (root-in b row root region)

  abbrev newest : ℕ
  newest = b.newest root

  newest-is : (row root).newest ≡ newest
  newest-is = is.newest root there

  pub newest-member : IsMember b root newest
  newest-member = subst (IsMember b root) newest-is (region.members (row root).newest newest-one)

  -- ---- the fill mark of the newest page is set
  module _ (v : ℕ) where
    abbrev filled : Backing
    filled = record b { fill = with_at b.fill newest v }

    abbrev new_row : Row
    new_row = record (row newest) { filled = v }

    filled-reach : (p : ℕ) → (p ≡ newest → ⊥) → reach_of filled p ≡ reach_of b p
    filled-reach p other = reach-same b.serial b.owner b.fill b.serial b.owner filled.fill p refl refl refl (at-other b.fill newest v p other)

    filled-new : reach_of filled newest ≡ v
    filled-new = reach-by_serial b.serial b.owner filled.fill newest (newest-member.serial ∙ ap b.serial (sym newest-member.owner)) ∙ at-same b.fill newest v newest refl

    -- Filling the newest page leaves its row unchanged except for the fill mark (the end of its filled words).
    part : {A : Type 0} (of : Row → A) → of new_row ≡ of (row newest) → (p : ℕ) → of (with_at row newest new_row p) ≡ of (row p)
    part of e p = elim (cases_eq p newest) [
      | inl same ↦ ap of (at-same row newest new_row p same) ∙ e ∙ ap (λ q. of (row q)) (sym same)
      | inr other ↦ ap of (at-other row newest new_row p other)
    ]

    pub filled-backs : Backs filled next (with_at row newest new_row) first order
    filled-backs = record {
      few = is.few;
      owned = is.owned;
      newer = is.newer;
      one = is.one;
      filled = λ p below. elim (cases_eq p newest) [
        | inl same ↦ ap (λ (r : Row). r.filled) (at-same row newest new_row p same) ∙ sym (ap (reach_of filled) same ∙ filled-new)
        | inr other ↦ ap (λ (r : Row). r.filled) (at-other row newest new_row p other) ∙ is.filled p below ∙ sym (filled-reach p other)
      ];
      role = λ p below. part (λ (r : Row). r.role) refl p ∙ is.role p below;
      newest = λ p below. part (λ (r : Row). r.newest) refl p ∙ is.newest p below;
      idle = is.idle;
      held = λ p below. elim (cases_eq p newest) [
        | inl same ↦ inr (
          subst (λ o. IsRoot (b.role o)) (sym (ap b.owner same ∙ newest-member.owner)) role,
          subst (λ (u : ℕ × ℕ). IsOneOf (b.chain u.0) u.1) {x = (root, newest)} {y = (b.owner p, p)} (λ j. (sym (ap b.owner same ∙ newest-member.owner) j, sym same j)) (subst (IsOneOf (b.chain root)) newest-is (region.pooled (row root).newest newest-one)),
        )
        | inr other ↦ elim (is.held p below) [
          | inl none ↦ inl (filled-reach p other ∙ none)
          | inr live ↦ inr live
        ]
      ];
      linked = chain-also (λ p. (row p).next) (λ p. (with_at row newest new_row p).next) first order (all-from (λ p. (with_at row newest new_row p).next ≡ (row p).next) order (λ p which. part (λ (r : Row). r.next) refl p)) is.linked;
      apart = is.apart;
      free = is.free;
      all = is.all;
      unused = is.unused;
      root = λ r below also. region-stays b filled row (with_at row newest new_row) r refl (is.root r below also) (λ p which.
          record {
            owner = refl;
            serial = refl;
            free = refl;
            role = refl;
            chain = refl;
            rows = record { next = part (λ (x : Row). x.next) refl p; newest = part (λ (x : Row). x.newest) refl p; count = part (λ (x : Row). x.count) refl p };
          });
    }

  -- ---- a page is added to the region
  module _ (page : ℕ) (in_pool : page < b.pages) (rest : b.role page ≡ Rest) (taken : b.free page ≡ false) (alone : b.chain page ≡ page ∷ []) (words : ℕ) where
    abbrev added : Backing
    added = record b {
      owner = with_at b.owner page root;
      fill = with_at b.fill page words;
      serial = with_at b.serial page (b.serial root);
      chain = with_at (with_at b.chain root (b.chain root ++ page ∷ [])) page [];
      newest = with_at b.newest root page;
    }

    abbrev also : ℕ → Row
    also = with_at (with_at row page (next_of words (row root).newest)) root (longer_of (row root) page)

    apart : root ≡ page → ⊥
    apart = root-away b next row first order is page in_pool rest taken alone root role

    also-page : also page ≡ next_of words (row root).newest
    also-page = at-other (with_at row page (next_of words (row root).newest)) root (longer_of (row root) page) page (λ e. apart (sym e)) ∙ at-same row page (next_of words (row root).newest) page refl

    also-root : also root ≡ longer_of (row root) page
    also-root = at-same (with_at row page (next_of words (row root).newest)) root (longer_of (row root) page) root refl

    also-other : (p : ℕ) → (p ≡ page → ⊥) → (p ≡ root → ⊥) → also p ≡ row p
    also-other p first_other second = at-other (with_at row page (next_of words (row root).newest)) root (longer_of (row root) page) p second ∙ at-other row page (next_of words (row root).newest) p first_other

    chain-root : added.chain root ≡ b.chain root ++ page ∷ []
    chain-root = at-other (with_at b.chain root (b.chain root ++ page ∷ [])) page [] root apart ∙ at-same b.chain root (b.chain root ++ page ∷ []) root refl

    chain-other : (p : ℕ) → (p ≡ page → ⊥) → (p ≡ root → ⊥) → added.chain p ≡ b.chain p
    chain-other p first_other second = at-other (with_at b.chain root (b.chain root ++ page ∷ [])) page [] p first_other ∙ at-other b.chain root (b.chain root ++ page ∷ []) p second

    chain-page : added.chain page ≡ []
    chain-page = at-same (with_at b.chain root (b.chain root ++ page ∷ [])) page [] page refl

    serial-page : added.serial page ≡ b.serial root
    serial-page = at-same b.serial page (b.serial root) page refl

    serial-root : added.serial root ≡ b.serial root
    serial-root = at-other b.serial page (b.serial root) root apart

    owner-page : added.owner page ≡ root
    owner-page = at-same b.owner page root page refl

    added-new : reach_of added page ≡ words
    added-new = reach-by_serial added.serial added.owner added.fill page (serial-page ∙ sym (ap added.serial owner-page ∙ serial-root)) ∙ at-same b.fill page words page refl

    added-reach : (p : ℕ) → p < b.pages → (p ≡ page → ⊥) → reach_of added p ≡ reach_of b p
    added-reach p below other = elim (cases_eq (b.owner p) page) [
      | inl its ↦
          reach-stale added.serial added.owner added.fill p
          (λ e. apart (sym root-member.owner
          ∙ sym (is.one p root below there (sym (at-other b.serial page (b.serial root) p other) ∙ e ∙ ap added.serial (at-other b.owner page root p other ∙ its) ∙ serial-page)) ∙ its))
          ∙ sym (owns-none b next row first order is page in_pool rest taken alone p below its)
      | inr away ↦ reach-same b.serial b.owner b.fill added.serial added.owner added.fill p (at-other b.owner page root p other) (at-other b.serial page (b.serial root) p other) (at-other b.serial page (b.serial root) (b.owner p) away) (at-other b.fill page words p other)
    ]

    away-member : (p : ℕ) → IsOneOf region.chain p → p ≡ page → ⊥
    away-member p which = member-away b next row first order is page in_pool rest taken alone root region apart p which

    next-kept : (p : ℕ) → (p ≡ page → ⊥) → (also p).next ≡ (row p).next
    next-kept p other = elim (cases_eq p root) [
      | inl same ↦ ap (λ n. (also n).next) same ∙ ap (λ (r : Row). r.next) also-root ∙ ap (λ n. (row n).next) (sym same)
      | inr second ↦ ap (λ (r : Row). r.next) (also-other p other second)
    ]

    new-region : IsRegion added also root
    new-region = record {
      chain = page ∷ region.chain;
      linked = (
        ap (λ (r : Row). r.newest) also-root,
        subst (λ n. IsChain (λ p. (also p).next) n region.chain) (sym (ap (λ (r : Row). r.next) also-page))
            (chain-also (λ p. (row p).next) (λ p. (also p).next) (row root).newest region.chain (all-from (λ p. (also p).next ≡ (row p).next) region.chain (λ p which. next-kept p (away-member p which))) region.linked),
      );
      count = ap (λ (r : Row). r.count) also-root ∙ ap (λ n. n + 1) region.count ∙ more (length region.chain);
      apart = (all-from (λ p. page ≢ p) region.chain (λ p which e. away-member p which (sym e)), region.apart);
      rest = region.rest ++ page ∷ [];
      head = chain-root ∙ ap (λ xs. xs ++ page ∷ []) region.head;
      pooled = λ p which. subst (λ xs. IsOneOf xs p) (sym chain-root) (elim which [
        | inl same ↦ subst (IsOneOf (b.chain root ++ page ∷ [])) (sym same) (one-last (b.chain root) page)
        | inr later ↦ one-left (b.chain root) (page ∷ []) p (region.pooled p later)
      ]);
      chained = λ p which. elim (one-split (b.chain root) page p (subst (λ xs. IsOneOf xs p) chain-root which)) [
        | inl old ↦ inr (region.chained p old)
        | inr same ↦ inl same
      ];
      members = λ p which. elim which [
        | inl same ↦ subst (IsMember added root) (sym same) (record { there = in_pool; owner = owner-page; serial = serial-page ∙ sym serial-root; taken = taken; role = λ other. rest; inner = λ other. chain-page })
        | inr later ↦
            let m = region.members p later in let other = away-member p later in
            record {
              there = m.there;
              owner = at-other b.owner page root p other ∙ m.owner;
              serial = at-other b.serial page (b.serial root) p other ∙ m.serial ∙ sym serial-root;
              taken = m.taken;
              role = m.role;
              inner = λ second. chain-other p other second ∙ m.inner second;
            }
      ];
    }
      where
        more : (n : ℕ) → n + 1 ≡ suc n
        more n = omega arith

    root-order : IsOneOf order root → ⊥
    root-order which = rest-no_root (b.role root) (is.unused root which) role

    order-other : (p : ℕ) → IsOneOf order p → also p ≡ row p
    order-other p which = also-other p
        (λ e. away-order b next row first order is page in_pool rest taken alone (subst (IsOneOf order) e which)) (λ e. root-order (subst (IsOneOf order) e which))

    pub added-backs : Backs added next also first order
    added-backs = record {
      few = is.few;
      owned = λ p below. elim (cases_eq p page) [
        | inl same ↦ subst (λ n. n < b.pages) (sym (at-same b.owner page root p same)) there
        | inr other ↦ subst (λ n. n < b.pages) (sym (at-other b.owner page root p other)) (is.owned p below)
      ];
      newer = λ p below. elim (cases_eq p page) [
        | inl same ↦ subst (λ n. n < next) (sym (at-same b.serial page (b.serial root) p same)) (is.newer root there)
        | inr other ↦ subst (λ n. n < next) (sym (at-other b.serial page (b.serial root) p other)) (is.newer p below)
      ];
      one = λ p q below more e. elim (cases_eq p page) [
        | inl same ↦ at-same b.owner page root p same ∙ elim (cases_eq q page) [
          | inl too ↦ sym (at-same b.owner page root q too)
          | inr other ↦ sym root-member.owner ∙ is.one root q there more (sym (at-same b.serial page (b.serial root) p same) ∙ e ∙ at-other b.serial page (b.serial root) q other) ∙ sym (at-other b.owner page root q other)
        ]
        | inr away ↦ at-other b.owner page root p away ∙ elim (cases_eq q page) [
          | inl too ↦ is.one p root below there (sym (at-other b.serial page (b.serial root) p away) ∙ e ∙ at-same b.serial page (b.serial root) q too) ∙ root-member.owner ∙ sym (at-same b.owner page root q too)
          | inr other ↦ is.one p q below more (sym (at-other b.serial page (b.serial root) p away) ∙ e ∙ at-other b.serial page (b.serial root) q other) ∙ sym (at-other b.owner page root q other)
        ]
      ];
      filled = λ p below. elim (cases_eq p page) [
        | inl same ↦ ap (λ n. (also n).filled) same ∙ ap (λ (r : Row). r.filled) also-page ∙ sym (ap (reach_of added) same ∙ added-new)
        | inr other ↦ elim (cases_eq p root) [
          | inl first_page ↦ ap (λ n. (also n).filled) first_page ∙ ap (λ (r : Row). r.filled) also-root ∙ is.filled root there ∙ ap (reach_of b) (sym first_page) ∙ sym (added-reach p below other)
          | inr second ↦ ap (λ (r : Row). r.filled) (also-other p other second) ∙ is.filled p below ∙ sym (added-reach p below other)
        ]
      ];
      role = λ p below. elim (cases_eq p page) [
        | inl same ↦ ap (λ n. (also n).role) same ∙ ap (λ (r : Row). r.role) also-page ∙ sym (ap b.role same ∙ rest)
        | inr other ↦ elim (cases_eq p root) [
          | inl first_page ↦ ap (λ n. (also n).role) first_page ∙ ap (λ (r : Row). r.role) also-root ∙ is.role root there ∙ ap b.role (sym first_page)
          | inr second ↦ ap (λ (r : Row). r.role) (also-other p other second) ∙ is.role p below
        ]
      ];
      newest = λ p below. elim (cases_eq p page) [
        | inl same ↦ ap (λ n. (also n).newest) same ∙ ap (λ (r : Row). r.newest) also-page ∙ sym (at-other b.newest root page p (λ e. apart (sym e ∙ same)) ∙ ap b.newest same ∙ is.idle page in_pool rest)
        | inr other ↦ elim (cases_eq p root) [
          | inl first_page ↦ ap (λ n. (also n).newest) first_page ∙ ap (λ (r : Row). r.newest) also-root ∙ sym (at-same b.newest root page p first_page)
          | inr second ↦ ap (λ (r : Row). r.newest) (also-other p other second) ∙ is.newest p below ∙ sym (at-other b.newest root page p second)
        ]
      ];
      idle = λ p below idle. at-other b.newest root page p (λ e. rest-no_root (b.role root) (ap b.role (sym e) ∙ idle) role) ∙ is.idle p below idle;
      held = λ p below. elim (cases_eq p page) [
        | inl same ↦
            let owner = at-same b.owner page root p same in
            inr (
              subst (λ o. IsRoot (b.role o)) (sym owner) role,
              subst (λ o. IsOneOf (added.chain o) p) (sym owner)
                  (subst (λ xs. IsOneOf xs p) (sym chain-root) (subst (IsOneOf (b.chain root ++ page ∷ [])) (sym same) (one-last (b.chain root) page))),
            )
        | inr other ↦ elim (is.held p below) [
          | inl none ↦ inl (added-reach p below other ∙ none)
          | inr (owns, which) ↦
              let owner = at-other b.owner page root p other in
              inr (
                subst (λ o. IsRoot (b.role o)) (sym owner) owns,
                subst (λ o. IsOneOf (added.chain o) p) (sym owner) (elim (cases_eq (b.owner p) root) [
                  | inl its ↦ subst (λ xs. IsOneOf xs p) (sym (ap added.chain its ∙ chain-root)) (one-left (b.chain root) (page ∷ []) p (subst (λ o. IsOneOf (b.chain o) p) its which))
                  | inr second ↦ subst (λ xs. IsOneOf xs p) (sym (chain-other (b.owner p) (root-away b next row first order is page in_pool rest taken alone (b.owner p) owns) second)) which
                ]),
              )
        ]
      ];
      linked = chain-also (λ p. (row p).next) (λ p. (also p).next) first order (all-from (λ p. (also p).next ≡ (row p).next) order (λ p which. ap (λ (r : Row). r.next) (order-other p which))) is.linked;
      apart = is.apart;
      free = is.free;
      all = is.all;
      unused = is.unused;
      root = λ r below more. elim (cases_eq r root) [
        | inl same ↦ subst (IsRegion added also) (sym same) new-region
        | inr second ↦
            let old = is.root r below more in let away = root-away b next row first order is page in_pool rest taken alone r more in
            region-stays b added row also r refl old (λ p which.
            let m = old.members p which in let other = member-away b next row first order is page in_pool rest taken alone r old away p which in
            let third : (p ≡ root → ⊥) = λ e. second (sym m.owner ∙ ap b.owner e ∙ root-member.owner) in
            record {
              owner = at-other b.owner page root p other;
              serial = at-other b.serial page (b.serial root) p other;
              free = refl;
              role = refl;
              chain = chain-other p other third;
              rows = as-row (also-other p other third);
            })
      ];
    }
