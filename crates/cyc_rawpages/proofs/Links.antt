-- Lemmas about a pool's free pages and its chains (lists of linked pages), computed from the links in the page headers.
use Rattle.std.proofs.Common.{◌≡◌, ℕ, ◌<◌, List, [], ◌∷◌, ◌++◌, length, set, drop, refl, sym, ap, subst, ◌∙◌, arith, inl, inr, length-set, get_or-set_same, get_or-set_other}
use Rattle.std.specs.Prelude.{◌==◌, if◌then◌else◌}
use Rattle.std.specs.List.{AllByRecursion}
use Rattle.std.proofs.lemmas.Bool.{cases_eq, cond-true, cond-false, eq-eqb, ne_eqb}
use Rattle.cyc_rawpages.specs.inside.Lists.{Lists, chain_at, after}
use Rattle.cyc_rawpages.specs.declared.change.Change.TheVariants.{Taken, Pushed, Given}
use Rattle.cyc_rawpages.specs.inside.Pool.{put, IsLinked, Runs, IsDistinct, IsIn, IsChain, IsLinkedUp}
use Rattle.cyc_rawpages.specs.declared.header.TheConstants.{NONE}

pub put-there : (f : ℕ → ℕ) (at v i : ℕ) → i ≡ at → put f at v i ≡ v
put-there f at v i same = cond-true (i == at) v (f i) (eq-eqb i at same)

pub put-elsewhere : (f : ℕ → ℕ) (at v i : ℕ) → (i ≡ at → ⊥) → put f at v i ≡ f i
put-elsewhere f at v i other = cond-false (i == at) v (f i) (ne_eqb i at other)

-- ---- properties of all elements
pub all-map : {P Q : ℕ → Type 0} (xs : List ℕ) → ((x : ℕ) → P x → Q x) → AllByRecursion P xs → AllByRecursion Q xs
all-map [] f all = tt
all-map (x ∷ xs) f all = (f x all.0, all-map xs f all.1)

all-two : {P Q R : ℕ → Type 0} (xs : List ℕ) → ((x : ℕ) → P x → Q x → R x) → AllByRecursion P xs → AllByRecursion Q xs → AllByRecursion R xs
all-two [] f p q = tt
all-two (x ∷ xs) f p q = (f x p.0 q.0, all-two xs f p.1 q.1)

all-append : (P : ℕ → Type 0) (xs ys : List ℕ) → AllByRecursion P xs → AllByRecursion P ys → AllByRecursion P (xs ++ ys)
all-append P [] ys p q = q
all-append P (x ∷ xs) ys p q = (p.0, all-append P xs ys p.1 q)

-- If two lists have no duplicates and no common element, their concatenation has no duplicates.
distinct-append : (P Q : ℕ → Type 0) (xs ys : List ℕ) → ((x y : ℕ) → P x → Q y → x ≡ y → ⊥) → IsDistinct xs → AllByRecursion P xs → IsDistinct ys → AllByRecursion Q ys → IsDistinct (xs ++ ys)
distinct-append P Q [] ys apart dx p dy q = dy
distinct-append P Q (x ∷ xs) ys apart dx p dy q = (all-append (λ y. x ≡ y → ⊥) xs ys dx.0 (all-map ys (λ y has. apart x y p.0 has) q), distinct-append P Q xs ys apart dx.1 p.1 dy q)

-- ---- links
pub linked-same : (next new : ℕ → ℕ) (first : ℕ) (xs : List ℕ) (end : ℕ) → AllByRecursion (λ x. new x ≡ next x) xs → IsLinked next first xs end → IsLinked new first xs end
linked-same next new first [] end all l = l
linked-same next new first (x ∷ xs) end all l = (l.0, linked-same next new (new x) xs end all.1 (subst (λ k. IsLinked next k xs end) (sym all.0) l.1))

runs-same : (next new : ℕ → ℕ) (x : ℕ) (xs : List ℕ) (last : ℕ) → AllByRecursion (λ y. new y ≡ next y) (x ∷ xs) → Runs next x xs last → Runs new x xs last
runs-same next new x [] last all r = r
runs-same next new x (y ∷ ys) last all r = (all.0 ∙ r.0, runs-same next new y ys last all.1 r.1)

-- The last page of a chain (a list of linked pages) is an element of the chain.
last-in : (P : ℕ → Type 0) (next : ℕ → ℕ) (x : ℕ) (xs : List ℕ) (last : ℕ) → AllByRecursion P (x ∷ xs) → Runs next x xs last → P last
last-in P next x [] last all r = subst P r all.0
last-in P next x (y ∷ ys) last all r = last-in P next y ys last all.1 r.1

runs-push : (next : ℕ → ℕ) (x : ℕ) (xs : List ℕ) (last y : ℕ) → IsDistinct (x ∷ xs) → Runs next x xs last → Runs (put next last y) x (xs ++ y ∷ []) y
runs-push next x [] last y d r = (put-there next last y x r, refl)
runs-push next x (z ∷ zs) last y d r = (put-elsewhere next last y x (last-in (λ q. x ≡ q → ⊥) next z zs last d.0 r.1) ∙ r.0, runs-push next z zs last y d.1 r.1)

linked-splice : (next : ℕ → ℕ) (x : ℕ) (xs : List ℕ) (last first : ℕ) (free : List ℕ) (end : ℕ) → IsDistinct (x ∷ xs) → Runs next x xs last → IsLinked (put next last first) first free end
    → IsLinked (put next last first) x (x ∷ xs ++ free) end
linked-splice next x [] last first free end d r l = (refl, subst (λ k. IsLinked (put next last first) k free end) (sym (put-there next last first x r)) l)
linked-splice next x (z ∷ zs) last first free end d r l =
    (refl, subst (λ k. IsLinked (put next last first) k (z ∷ zs ++ free) end) (sym (put-elsewhere next last first x (last-in (λ q. x ≡ q → ⊥) next z zs last d.0 r.1) ∙ r.0)) (linked-splice next z zs last first free end d.1 r.1 l))

-- ---- an unchanged chain
chain-same : (pages : ℕ) (next tail home next' tail' home' : ℕ → ℕ) (head : ℕ) (xs : List ℕ) → tail' head ≡ tail head
    → ((q : ℕ) → IsIn pages home head q → (next' q ≡ next q) × (home' q ≡ home q)) → IsChain pages next tail home head xs → IsChain pages next' tail' home' head xs
chain-same pages next tail home next' tail' home' head [] e same c = tt
chain-same pages next tail home next' tail' home' head (x ∷ xs) e same c = (
  c.0,
  subst (λ k. Runs next' x xs k) (sym e) (runs-same next next' x xs (tail head) (all-map (x ∷ xs) (λ q here. (same q here).0) c.3) c.1),
  c.2,
  all-map (x ∷ xs) (λ q here. (here.0, (same q here).1 ∙ here.1)) c.3,
)

-- ---- the calls of a pool
module _ (pages : ℕ) (next tail : ℕ → ℕ) (first : ℕ) (l : Lists) (up : IsLinkedUp pages next tail first l) where
  -- The index of a page differs from `NONE`, which represents no page.
  small : (p : ℕ) → p < pages → p ≡ NONE → ⊥
  small p there e = omega (arith, there, e, up.few)

  pub free-none : first ≡ NONE → l.free ≡ []
  free-none none = at l.free up.linked up.unused none where
    at : (free : List ℕ) → IsLinked next first free NONE → AllByRecursion (IsIn pages up.home NONE) free → first ≡ NONE → free ≡ []
    at [] linked unused none = refl
    at (p ∷ rest) linked unused none = absurd (small p unused.0.0 (sym linked.0 ∙ none))

  pub free-some : (first ≡ NONE → ⊥) → (rest : List ℕ) × (l.free ≡ first ∷ rest)
  free-some some = at l.free up.linked some where
    at : (free : List ℕ) → IsLinked next first free NONE → (first ≡ NONE → ⊥) → (rest : List ℕ) × (free ≡ first ∷ rest)
    at [] linked some = absurd (some linked)
    at (p ∷ rest) linked some = (rest, λ j. sym linked.0 j ∷ rest)

  pub free-there : (rest : List ℕ) → l.free ≡ first ∷ rest → first < pages
  free-there rest e = (subst (AllByRecursion (IsIn pages up.home NONE)) e up.unused).0.0

  pub taken : (rest : List ℕ) → l.free ≡ first ∷ rest → IsLinkedUp pages next (put tail first first) (next first) (after l (Taken first))
  taken rest e =
      let unused = subst (AllByRecursion (IsIn pages up.home NONE)) e up.unused in let linked = subst (λ f. IsLinked next first f NONE) e up.linked in let apart = subst IsDistinct e up.apart in
      let there = unused.0.0 in let home' = put up.home first first in let long : first < length l.chains = omega (arith, there, up.many) in
      record {
        few = up.few;
        many = length-set l.chains first (first ∷ []) ∙ up.many;
        home = home';
        linked = subst (λ f. IsLinked next (next first) (drop 1 f) NONE) (sym e) linked.1;
        unused = subst (λ f. AllByRecursion (IsIn pages home' NONE) (drop 1 f)) (sym e) (all-two rest (λ q here ne. (here.0, put-elsewhere up.home first first q (λ same. ne (sym same)) ∙ here.1)) unused.1 apart.0);
        apart = subst (λ f. IsDistinct (drop 1 f)) (sym e) apart.1;
        run = λ head below. elim (cases_eq head first) [
          | inl same ↦ subst (IsChain pages next (put tail first first) home' head) (sym (get_or-set_same l.chains first (first ∷ []) [] long) ∙ ap (chain_at (set l.chains first (first ∷ []))) (sym same))
              (sym same, sym (put-there tail first first head same), (tt, tt), ((there, put-there up.home first first first refl ∙ sym same), tt))
          | inr other ↦ subst (IsChain pages next (put tail first first) home' head) (sym (get_or-set_other l.chains first head (first ∷ []) [] other))
              (chain-same pages next tail up.home next (put tail first first) home' head (chain_at l.chains head) (put-elsewhere tail first first head other)
              (λ q here. (refl, put-elsewhere up.home first first q (λ same. small head below (sym here.1 ∙ ap up.home same ∙ unused.0.1)))) (up.run head below))
        ];
      }

  -- The last page of a chain is a page of this chain: its home (the first page of the chain that contains it) is the chain's head.
  pub tail-in : (head : ℕ) (rest : List ℕ) → head < pages → chain_at l.chains head ≡ head ∷ rest → IsIn pages up.home head (tail head)
  tail-in head rest below e = let c = subst (IsChain pages next tail up.home head) e (up.run head below) in last-in (IsIn pages up.home head) next head rest (tail head) c.3 c.1

  pub given : (head : ℕ) (rest : List ℕ) → head < pages → chain_at l.chains head ≡ head ∷ rest → IsLinkedUp pages (put next (tail head) first) tail head (after l (Given head))
  given head rest below e =
      let c = subst (IsChain pages next tail up.home head) e (up.run head below) in let last = tail-in head rest below e in let next' = put next (tail head) first in
      let home' : ℕ → ℕ = λ q. if up.home q == head then NONE else up.home q in
      let stays : (q h : ℕ) → up.home q ≡ h → (h ≡ head → ⊥) → (next' q ≡ next q) × (home' q ≡ up.home q) =
      λ q h at ne. (put-elsewhere next (tail head) first q (λ same. ne (sym at ∙ ap up.home same ∙ last.1)), cond-false (up.home q == head) NONE (up.home q) (ne_eqb (up.home q) head (λ same. ne (sym at ∙ same)))) in
      let unfree : NONE ≡ head → ⊥ = λ same. small head below (sym same) in
      record {
        few = up.few;
        many = length-set l.chains head [] ∙ up.many;
        home = home';
        linked = subst (λ xs. IsLinked next' head (xs ++ l.free) NONE) (sym e)
            (linked-splice next head rest (tail head) first l.free NONE c.2 c.1 (linked-same next next' first l.free NONE (all-map l.free (λ q here. (stays q NONE here.1 unfree).0) up.unused) up.linked));
        unused = all-append (IsIn pages home' NONE) (chain_at l.chains head) l.free
            (subst (AllByRecursion (IsIn pages home' NONE)) (sym e) (all-map (head ∷ rest) (λ q here. (here.0, cond-true (up.home q == head) NONE (up.home q) (eq-eqb (up.home q) head here.1))) c.3))
            (all-map l.free (λ q here. (here.0, (stays q NONE here.1 unfree).1 ∙ here.1)) up.unused);
        apart = subst (λ xs. IsDistinct (xs ++ l.free)) (sym e)
            (distinct-append (IsIn pages up.home head) (IsIn pages up.home NONE) (head ∷ rest) l.free (λ x y at_x at_y same. unfree (sym at_y.1 ∙ ap up.home (sym same) ∙ at_x.1)) c.2 c.3 up.apart up.unused);
        run = λ k there. elim (cases_eq k head) [
          | inl same ↦ subst (IsChain pages next' tail home' k) (sym (get_or-set_same l.chains head [] [] (omega (arith, below, up.many))) ∙ ap (chain_at (set l.chains head [])) (sym same)) tt
          | inr other ↦ subst (IsChain pages next' tail home' k) (sym (get_or-set_other l.chains head k [] [] other))
              (chain-same pages next tail up.home next' tail home' k (chain_at l.chains k) refl (λ q here. stays q k here.1 other) (up.run k there))
        ];
      }

  pub pushed : (head page : ℕ) (rest : List ℕ) → head < pages → page < pages → (head ≡ page → ⊥) → chain_at l.chains head ≡ head ∷ rest → chain_at l.chains page ≡ page ∷ []
      → IsLinkedUp pages (put next (tail head) page) (put tail head page) first (after l (Pushed head page))
  pushed head page rest below there ne e alone =
      let c = subst (IsChain pages next tail up.home head) e (up.run head below) in let last = tail-in head rest below e in
      let one = subst (IsChain pages next tail up.home page) alone (up.run page there) in let at_page = one.3.0.1 in
      let next' = put next (tail head) page in let tail' = put tail head page in let home' = put up.home page head in
      let longer = chain_at l.chains head ++ page ∷ [] in let middle = set l.chains head longer in
      let long : head < length l.chains = omega (arith, below, up.many) in let wide : page < length middle = omega (arith, there, up.many, length-set l.chains head longer) in
      let stays : (q h : ℕ) → up.home q ≡ h → (h ≡ head → ⊥) → next' q ≡ next q = λ q h at other. put-elsewhere next (tail head) page q (λ same. other (sym at ∙ ap up.home same ∙ last.1)) in
      let rests : (q h : ℕ) → up.home q ≡ h → (h ≡ page → ⊥) → home' q ≡ up.home q = λ q h at other. put-elsewhere up.home page head q (λ same. other (sym at ∙ ap up.home same ∙ at_page)) in
      record {
        few = up.few;
        many = length-set middle page [] ∙ length-set l.chains head longer ∙ up.many;
        home = home';
        linked = linked-same next next' first l.free NONE (all-map l.free (λ q here. stays q NONE here.1 (λ same. small head below (sym same))) up.unused) up.linked;
        unused = all-map l.free (λ q here. (here.0, rests q NONE here.1 (λ same. small page there (sym same)) ∙ here.1)) up.unused;
        apart = up.apart;
        run = λ k in_pool. elim (cases_eq k page) [
          | inl same ↦ subst (IsChain pages next' tail' home' k) (sym (get_or-set_same middle page [] [] wide) ∙ ap (chain_at (set middle page [])) (sym same)) tt
          | inr other ↦ subst (IsChain pages next' tail' home' k) (sym (get_or-set_other middle page k [] [] other)) (elim (cases_eq k head) [
            | inl is_head ↦ subst (IsChain pages next' tail' home' k) (sym (get_or-set_same l.chains head longer [] long ∙ ap (λ xs. xs ++ page ∷ []) e) ∙ ap (chain_at middle) (sym is_head)) (
              sym is_head,
              subst (Runs next' head (rest ++ page ∷ [])) (sym (put-there tail head page k is_head)) (runs-push next head rest (tail head) page c.2 c.1),
              distinct-append (IsIn pages up.home head) (IsIn pages up.home page) (head ∷ rest) (page ∷ []) (λ x y at_x at_y same. ne (sym at_x.1 ∙ ap up.home same ∙ at_y.1)) c.2 c.3 (tt, tt) one.3,
              all-append (IsIn pages home' k) (head ∷ rest) (page ∷ []) (all-map (head ∷ rest) (λ q here. (here.0, rests q head here.1 ne ∙ here.1 ∙ sym is_head)) c.3) ((there, put-there up.home page head page refl ∙ sym is_head), tt),
            )
            | inr not_head ↦ subst (IsChain pages next' tail' home' k) (sym (get_or-set_other l.chains head k longer [] not_head))
                (chain-same pages next tail up.home next' tail' home' k (chain_at l.chains k) (put-elsewhere tail head page k not_head) (λ q here. (stays q k here.1 not_head, rests q k here.1 other)) (up.run k in_pool))
          ])
        ];
      }
