-- A pool of pages, together with the data of the page table that are stored outside the pool, represents a page table. The pool still
-- represents a page table after a page is taken and after all pages are renumbered. In the lemmas the data of pages are functions
-- from page numbers.
use Rattle.std.proofs.Common.{◌≡◌, ℕ, ◌<◌, true, false, List, [], ◌∷◌, length, refl, sym, ap, subst, ◌∙◌, inl, inr}
use Rattle.std.specs.Prelude.{◌==◌, if◌then◌else◌}
use Rattle.std.specs.List.{AllByRecursion}
use Rattle.std.proofs.lemmas.Bool.{cases_eq}
use Rattle.cyc_words.proofs.Numbers.{when_equal}
use Rattle.cyc_words.proofs.Booleans.{never_true_and_false}
use Rattle.cyc_store.specs.Table.{row_at}
use Rattle.cyc_store.specs.inside.Kept.{IsChain, IsOneOf}
use Rattle.cyc_store.specs.declared.row.Role.{Role}
use Rattle.cyc_store.specs.declared.row.Role.TheVariants.{Rest, Heap, Lexical, Dynamic}
use Rattle.cyc_store.specs.declared.row.Row.{Row}
use Rattle.cyc_store.proofs.LookupLemmas.{when_other}
use Rattle.cyc_store.proofs.TieLemmas.{chain-also}
use Rattle.cyc_store.proofs.TieClosing.{one-all, all-from}
use Rattle.cyc_pagestore.specs.inside.Links.{head_or_none, relinked, removed}
use Rattle.cyc_pagestore.specs.inside.Live.{reach_by}
use Rattle.cyc_pagestore.specs.inside.Table.{IsRoot, Backing, reach_of, IsRegion, Backs}
use Rattle.cyc_pagestore.proofs.Rows.{removed-out, removed-in, removed-apart, fronted-apart, relinked-other, relinked-row, relinked-chain}

-- Returns a function whose value at one argument is replaced.
abbrev pub with_at : {A : Type 0} → (ℕ → A) → (at : ℕ) → A → ℕ → A
with_at f at v = λ (other : ℕ). if other == at then v else f other

pub at-same : {A : Type 0} (f : ℕ → A) (at : ℕ) (v : A) (p : ℕ) → p ≡ at → with_at f at v p ≡ v
at-same f at v p same = when_equal p at v (f p) same

pub at-other : {A : Type 0} (f : ℕ → A) (at : ℕ) (v : A) (p : ℕ) → (p ≡ at → ⊥) → with_at f at v p ≡ f p
at-other f at v p other = when_other p at v (f p) other

pub rest-no_root : (r : Role) → r ≡ Rest → IsRoot r → ⊥
rest-no_root r is (inl heap) = clash (sym is ∙ heap) where
  clash : Rest ≡ Heap → ⊥
  clash e = cc
rest-no_root r is (inr (inl lexical)) = clash (sym is ∙ lexical) where
  clash : Rest ≡ Lexical → ⊥
  clash e = cc
rest-no_root r is (inr (inr dynamic)) = clash (sym is ∙ dynamic) where
  clash : Rest ≡ Dynamic → ⊥
  clash e = cc

-- ---- an unchanged region

-- Says that one row of a page table has the same next page, newest page and number of pages as another row.
pub record LinksAs (new old : Row) : Type 0 where
  pub next : new.next ≡ old.next
  pub newest : new.newest ≡ old.newest
  pub count : new.count ≡ old.count

pub as-row : {new old : Row} → new ≡ old → LinksAs new old
as-row e = record { next = ap (λ (r : Row). r.next) e; newest = ap (λ (r : Row). r.newest) e; count = ap (λ (r : Row). r.count) e }

pub record Agrees (b c : Backing) (row also : ℕ → Row) (page : ℕ) : Type 0 where
  pub owner : c.owner page ≡ b.owner page
  pub serial : c.serial page ≡ b.serial page
  pub free : c.free page ≡ b.free page
  pub role : c.role page ≡ b.role page
  pub chain : c.chain page ≡ b.chain page
  pub rows : LinksAs (also page) (row page)

pub root-in : (b : Backing) (row : ℕ → Row) (root : ℕ) (is : IsRegion b row root) → IsOneOf is.chain root
root-in b row root is = is.chained root (subst (λ xs. IsOneOf xs root) (sym is.head) (inl refl))

pub region-stays : (b c : Backing) (row also : ℕ → Row) (root : ℕ) → c.pages ≡ b.pages → (is : IsRegion b row root)
    → ((page : ℕ) → IsOneOf is.chain page → Agrees b c row also page) → IsRegion c also root
region-stays b c row also root pages is agree =
    let here = agree root (root-in b row root is) in let chain = here.chain in
    record {
      chain = is.chain;
      linked = subst (λ n. IsChain (λ p. (also p).next) n is.chain) (sym here.rows.newest)
          (chain-also (λ p. (row p).next) (λ p. (also p).next) (row root).newest is.chain
          (all-from (λ p. (also p).next ≡ (row p).next) is.chain (λ p inside. (agree p inside).rows.next)) is.linked);
      count = here.rows.count ∙ is.count;
      apart = is.apart;
      rest = is.rest;
      head = chain ∙ is.head;
      pooled = λ p inside. subst (λ xs. IsOneOf xs p) (sym chain) (is.pooled p inside);
      chained = λ p inside. is.chained p (subst (λ xs. IsOneOf xs p) chain inside);
      members = λ p inside.
          let m = is.members p inside in let a = agree p inside in
          record {
            there = subst (λ n. p < n) (sym pages) m.there;
            owner = a.owner ∙ m.owner;
            serial = a.serial ∙ m.serial ∙ sym here.serial;
            taken = a.free ∙ m.taken;
            role = λ other. a.role ∙ m.role other;
            inner = λ other. a.chain ∙ m.inner other;
          };
    }

-- ---- a page is taken

module _ (b : Backing) (next : ℕ) (rows : List Row) (first : ℕ) (order : List ℕ) (is : Backs b next (λ (p : ℕ). row_at rows p) first order) (whole : length rows ≡ b.pages)
    (page : ℕ) (inside : IsOneOf order page) where
  abbrev taken : Backing
  taken = record b { free = with_at b.free page false; chain = with_at b.chain page (page ∷ []) }

  abbrev linked_rows : List Row
  linked_rows = relinked rows (page ∷ removed order page)

  pub there : page < b.pages
  there = (is.free page inside).0

  pub was-free : b.free page ≡ true
  was-free = (is.free page inside).1

  pub was-rest : b.role page ≡ Rest
  was-rest = is.unused page inside

  pub within : AllByRecursion (λ p. p < length rows) order
  within = all-from (λ p. p < length rows) order (λ p which. subst (λ n. p < n) (sym whole) (is.free p which).0)

  within-new : AllByRecursion (λ p. p < length rows) (page ∷ removed order page)
  within-new = (subst (λ n. page < n) (sym whole) there, all-from (λ p. p < length rows) (removed order page) (λ p which. one-all (λ q. q < length rows) order p within (removed-out order page p which).0))

  fronted : IsChain (λ (p : ℕ). (row_at linked_rows p).next) page (page ∷ removed order page)
  fronted = relinked-chain rows (page ∷ removed order page) within-new (fronted-apart order page is.apart)

  row-now : (p : ℕ) → (link : ℕ) × (row_at linked_rows p ≡ record (row_at rows p) { next = link })
  row-now p = relinked-row rows (page ∷ removed order page) p within-new

  row-other : (p : ℕ) → (IsOneOf order p → ⊥) → row_at linked_rows p ≡ row_at rows p
  row-other p never = relinked-other rows (page ∷ removed order page) p (λ which. elim which [
    | inl same ↦ never (subst (IsOneOf order) (sym same) inside)
    | inr later ↦ never (removed-out order page p later).0
  ])

  not-free : (p : ℕ) → b.free p ≡ false → IsOneOf order p → ⊥
  not-free p taken which = never_true_and_false (is.free p which).1 taken

  pub taken-backs : Backs taken next (λ (p : ℕ). row_at linked_rows p) (head_or_none (removed order page)) (removed order page)
  taken-backs = record {
    few = is.few;
    owned = is.owned;
    newer = is.newer;
    one = is.one;
    filled = λ p below. ap (λ (r : Row). r.filled) (row-now p).1 ∙ is.filled p below;
    role = λ p below. ap (λ (r : Row). r.role) (row-now p).1 ∙ is.role p below;
    newest = λ p below. ap (λ (r : Row). r.newest) (row-now p).1 ∙ is.newest p below;
    idle = is.idle;
    held = λ p below. elim (is.held p below) [
      | inl none ↦ inl none
      | inr (root, which) ↦ inr (root, subst (λ xs. IsOneOf xs p) (sym (at-other b.chain page (page ∷ []) (b.owner p) (λ e. rest-no_root (b.role (b.owner p)) (ap b.role e ∙ was-rest) root))) which)
    ];
    linked = subst (λ n. IsChain (λ (p : ℕ). (row_at linked_rows p).next) n (removed order page)) next-first fronted.1;
    apart = removed-apart order page is.apart;
    free = λ p which. let old = removed-out order page p which in ((is.free p old.0).0, at-other b.free page false p old.1 ∙ (is.free p old.0).1);
    all = λ p below free. elim (cases_eq p page) [
      | inl same ↦ absurd (never_true_and_false free (at-same b.free page false p same))
      | inr other ↦ removed-in order page p (is.all p below (sym (at-other b.free page false p other) ∙ free)) other
    ];
    unused = λ p which. is.unused p (removed-out order page p which).0;
    root = λ r below root.
        let old = is.root r below root in
        region-stays b taken (λ p. row_at rows p) (λ p. row_at linked_rows p) r refl old
        (λ p which.
        let m = old.members p which in let other : (p ≡ page → ⊥) = λ e. never_true_and_false was-free (ap b.free (sym e) ∙ m.taken) in
        record { owner = refl; serial = refl; free = at-other b.free page false p other; role = refl; chain = at-other b.chain page (page ∷ []) p other; rows = as-row (row-other p (not-free p m.taken)) });
  }
    where
      head-is : (xs : List ℕ) (n : ℕ) → IsChain (λ (p : ℕ). (row_at linked_rows p).next) n xs → n ≡ head_or_none xs
      head-is [] n linked = linked
      head-is (x ∷ xs) n linked = linked.0

      next-first : (row_at linked_rows page).next ≡ head_or_none (removed order page)
      next-first = head-is (removed order page) (row_at linked_rows page).next fronted.1

-- ---- all pages may be renumbered
module _ (b : Backing) (next : ℕ) (row : ℕ → Row) (first : ℕ) (order : List ℕ) (is : Backs b next row first order) (serial fill : ℕ → ℕ) (s : ℕ)
    (reach : (p : ℕ) → p < b.pages → reach_by serial b.owner fill p ≡ reach_of b p) (newer : (p : ℕ) → p < b.pages → serial p < s)
    (one : (p q : ℕ) → p < b.pages → q < b.pages → serial p ≡ serial q → b.owner p ≡ b.owner q)
    (kept : (p q : ℕ) → p < b.pages → q < b.pages → b.serial p ≡ b.serial q → serial p ≡ serial q) where
  pub readied-backs : Backs (record b { serial = serial; fill = fill }) s row first order
  readied-backs = record {
    few = is.few;
    owned = is.owned;
    newer = newer;
    one = one;
    filled = λ p below. is.filled p below ∙ sym (reach p below);
    role = is.role;
    newest = is.newest;
    idle = is.idle;
    held = λ p below. elim (is.held p below) [
      | inl none ↦ inl (reach p below ∙ none)
      | inr live ↦ inr live
    ];
    linked = is.linked;
    apart = is.apart;
    free = is.free;
    all = is.all;
    unused = is.unused;
    root = λ r below root. let old = is.root r below root in record {
      chain = old.chain;
      linked = old.linked;
      count = old.count;
      apart = old.apart;
      rest = old.rest;
      head = old.head;
      pooled = old.pooled;
      chained = old.chained;
      members = λ p inside. let m = old.members p inside in
          record { there = m.there; owner = m.owner; serial = kept p r m.there below m.serial; taken = m.taken; role = m.role; inner = m.inner };
    };
  }
