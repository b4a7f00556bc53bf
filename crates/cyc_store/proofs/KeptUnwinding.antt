-- This file is about closing the lexical regions one after another, the newest first.
use Rattle.std.proofs.Common.{◌≡◌, ℕ, zero, suc, ◌+◌, ◌*◌, ◌/◌, ◌≤◌, true, false, List, [], ◌∷◌, ◌++◌, length, None, Some, refl, sym, ap, subst, ◌∙◌, inl, inr, arith}
use Rattle.std.specs.Prelude.{◌⊎◌}
use Rattle.std.proofs.lemmas.Bool.{cases_Bool, cond-true, cond-false}
use Rattle.cyc_words.proofs.Numbers.{zero_least, when_equal, suc_not_below_zero, le_from_suc}
use Rattle.cyc_words.proofs.Options.{never_none_and_some}
use Rattle.cyc_store.specs.State.{lookup, without, AreDistinct, Home, handle_of, is_lexical, lexical_count, down_to}
use Rattle.cyc_store.specs.Ledger.{Blocks, Stored, held_of, Unwinds}
use Rattle.cyc_store.specs.inside.Kept.{handle_of_page, lexical_handles, IsKept}
use Rattle.cyc_store.specs.declared.row.PageTable.{PageTable}
use Rattle.cyc_store.specs.declared.row.ClassSlots.{ClassSlots}
use Rattle.cyc_store.proofs.LookupLemmas.{when_other, lookup-here, lookup-there}
use Rattle.cyc_store.proofs.PagedClosing.{without-none}
use Rattle.cyc_store.proofs.KeptServices.{lexical-length}
use Rattle.cyc_store.proofs.KeptClosing.{handle-page}

-- ---- closing down to a mark

pub step-in : (m : ℕ) (r : Home) (rs : List Home) → is_lexical r.sort ≡ true → down_to (suc m) (r ∷ rs) ≡ r ∷ down_to m rs
step-in m r rs is = cond-true (is_lexical r.sort) (r ∷ down_to m rs) (r ∷ down_to (suc m) rs) is

step-out : (r : Home) (rs : List Home) → is_lexical r.sort ≡ true → down_to zero (r ∷ rs) ≡ down_to zero rs
step-out r rs is = cond-true (is_lexical r.sort) (down_to zero rs) (r ∷ down_to zero rs) is

pub step-by : (m : ℕ) (r : Home) (rs : List Home) → is_lexical r.sort ≡ false → down_to m (r ∷ rs) ≡ r ∷ down_to m rs
step-by zero r rs not = cond-false (is_lexical r.sort) (down_to zero rs) (r ∷ down_to zero rs) not
step-by (suc m) r rs not = cond-false (is_lexical r.sort) (r ∷ down_to m rs) (r ∷ down_to (suc m) rs) not

-- Closing until n regions stay open, and then until fewer stay open, equals closing to the lower number at once.
pub down_to-lower : (m n : ℕ) (rs : List Home) → m ≤ n → down_to m (down_to n rs) ≡ down_to m rs
down_to-lower zero zero [] few = refl
down_to-lower zero (suc n) [] few = refl
down_to-lower (suc m) zero [] few = refl
down_to-lower (suc m) (suc n) [] few = refl
down_to-lower m n (r ∷ rs) few = by m n few (cases_Bool (is_lexical r.sort)) (λ k j also. down_to-lower k j rs also)
  where
    by : (m n : ℕ) → m ≤ n → (is_lexical r.sort ≡ true) ⊎ (is_lexical r.sort ≡ false) → ((k j : ℕ) → k ≤ j → down_to k (down_to j rs) ≡ down_to k rs)
        → down_to m (down_to n (r ∷ rs)) ≡ down_to m (r ∷ rs)
    by m n few (inr not) rest = ap (down_to m) (step-by n r rs not) ∙ (step-by m r (down_to n rs) not ∙ (ap (λ l. r ∷ l) (rest m n few) ∙ sym (step-by m r rs not)))
    by zero zero few (inl is) rest = ap (down_to zero) (step-out r rs is) ∙ (rest zero zero few ∙ sym (step-out r rs is))
    by zero (suc n) few (inl is) rest = ap (down_to zero) (step-in n r rs is) ∙ (step-out r (down_to n rs) is ∙ (rest zero n (zero_least n) ∙ sym (step-out r rs is)))
    by (suc m) zero few (inl is) rest = absurd (suc_not_below_zero m few)
    by (suc m) (suc n) few (inl is) rest = ap (down_to (suc m)) (step-in n r rs is)
        ∙ (step-in m r (down_to n rs) is ∙ (ap (λ l. r ∷ l) (rest m n (le_from_suc m n few)) ∙ sym (step-in m r rs is)))

-- If the number of lexical regions that may stay open is at least the number of lexical regions, then no region is closed.
pub down_to-all : (m : ℕ) (rs : List Home) → lexical_count rs ≤ m → down_to m rs ≡ rs
down_to-all zero [] few = refl
down_to-all (suc m) [] few = refl
down_to-all m (r ∷ rs) few = by m few (cases_Bool (is_lexical r.sort)) (λ k also. down_to-all k rs also)
  where
    by : (m : ℕ) → lexical_count (r ∷ rs) ≤ m → (is_lexical r.sort ≡ true) ⊎ (is_lexical r.sort ≡ false) → ((k : ℕ) → lexical_count rs ≤ k → down_to k rs ≡ rs) → down_to m (r ∷ rs) ≡ r ∷ rs
    by m few (inr not) rest = step-by m r rs not ∙ ap (λ l. r ∷ l) (rest m (subst (λ n. n ≤ m) (cond-false (is_lexical r.sort) (suc (lexical_count rs)) (lexical_count rs) not) few))
    by zero few (inl is) rest = absurd (suc_not_below_zero (lexical_count rs) (subst (λ n. n ≤ 0) (cond-true (is_lexical r.sort) (suc (lexical_count rs)) (lexical_count rs) is) few))
    by (suc m) few (inl is) rest = step-in m r rs is
        ∙ ap (λ l. r ∷ l) (rest m (le_from_suc (lexical_count rs) m (subst (λ n. n ≤ suc m) (cond-true (is_lexical r.sort) (suc (lexical_count rs)) (lexical_count rs) is) few)))

-- ---- the newest lexical region

-- The last handle in the list of lexical handles names the newest lexical region. Closing this region equals closing lexical
-- regions until one less is open.
record IsNewest (rs : List Home) (older : List ℕ) (h : ℕ) : Type 0 where
  pub region : Home
  pub named : lookup handle_of rs h ≡ Some region
  pub stay : older ≡ lexical_handles (without handle_of rs h)
  pub down : without handle_of rs h ≡ down_to (length older) rs

abbrev head-of : ℕ → List ℕ → ℕ
head-of d [] = d
head-of d (x ∷ xs) = x

abbrev tail-of : List ℕ → List ℕ
tail-of [] = []
tail-of (x ∷ xs) = xs

newest-is : (rs : List Home) (left : List ℕ) (h : ℕ) → AreDistinct handle_of rs → lexical_handles rs ≡ left ++ h ∷ [] → IsNewest rs left h
newest-is [] left h distinct is = absurd (empty left is)
  where
    empty : (xs : List ℕ) → [] ≡ xs ++ h ∷ [] → ⊥
    empty [] e = cc
    empty (x ∷ xs) e = cc
newest-is (r ∷ rs) left h distinct is = by left is (cases_Bool (is_lexical r.sort)) (λ xs e. newest-is rs xs h distinct.1 e)
  where
    -- If a newer lexical region follows a lexical region in the list of regions, the older region's handle is not the last
    -- of the lexical handles.
    following : (xs : List ℕ) → IsNewest rs xs h → (r.handle ≡ h → ⊥)
    following xs rest e = never_none_and_some (subst (λ n. lookup handle_of rs n ≡ None) e distinct.0) rest.named

    by : (xs : List ℕ) → lexical_handles (r ∷ rs) ≡ xs ++ h ∷ [] → (is_lexical r.sort ≡ true) ⊎ (is_lexical r.sort ≡ false)
        → ((ys : List ℕ) → lexical_handles rs ≡ ys ++ h ∷ [] → IsNewest rs ys h) → IsNewest (r ∷ rs) xs h
    by [] e (inl lexical) rest =
        let handles : r.handle ∷ lexical_handles rs ≡ h ∷ [] = sym (cond-true (is_lexical r.sort) (r.handle ∷ lexical_handles rs) (lexical_handles rs) lexical) ∙ e in
        let here : r.handle ≡ h = ap (head-of 0) handles in
        let others : lexical_handles rs ≡ [] = ap tail-of handles in
        let gone : without handle_of (r ∷ rs) h ≡ rs = when_equal r.handle h (without handle_of rs h) (r ∷ without handle_of rs h) here
        ∙ without-none rs h (subst (λ n. lookup handle_of rs n ≡ None) here distinct.0) in
        let count : lexical_count rs ≡ 0 = sym (lexical-length rs) ∙ ap length others in
        record {
          region = r;
          named = lookup-here handle_of r rs h here;
          stay = sym (ap lexical_handles gone ∙ others);
          down = gone ∙ sym (step-out r rs lexical ∙ down_to-all 0 rs (none (lexical_count rs) count));
        }
      where
        none : (n : ℕ) → n ≡ 0 → n ≤ 0
        none n e = omega (arith, e)
    by (x ∷ xs) e (inl lexical) rest =
        let handles : r.handle ∷ lexical_handles rs ≡ x ∷ (xs ++ h ∷ []) = sym (cond-true (is_lexical r.sort) (r.handle ∷ lexical_handles rs) (lexical_handles rs) lexical) ∙ e in
        let newest = rest xs (ap tail-of handles) in
        let other = following xs newest in
        let gone : without handle_of (r ∷ rs) h ≡ r ∷ without handle_of rs h = when_other r.handle h (without handle_of rs h) (r ∷ without handle_of rs h) other in
        record {
          region = newest.region;
          named = lookup-there handle_of r rs h other ∙ newest.named;
          stay = sym (ap lexical_handles gone
              ∙ (cond-true (is_lexical r.sort) (r.handle ∷ lexical_handles (without handle_of rs h)) (lexical_handles (without handle_of rs h)) lexical
              ∙ (ap (λ n. n ∷ lexical_handles (without handle_of rs h)) (ap (head-of 0) handles) ∙ ap (λ l. x ∷ l) (sym newest.stay))));
          down = gone ∙ (ap (λ l. r ∷ l) newest.down ∙ sym (step-in (length xs) r rs lexical));
        }
    by xs e (inr not) rest =
        let newest = rest xs (sym (cond-false (is_lexical r.sort) (r.handle ∷ lexical_handles rs) (lexical_handles rs) not) ∙ e) in
        let other = following xs newest in
        let gone : without handle_of (r ∷ rs) h ≡ r ∷ without handle_of rs h = when_other r.handle h (without handle_of rs h) (r ∷ without handle_of rs h) other in
        record {
          region = newest.region;
          named = lookup-there handle_of r rs h other ∙ newest.named;
          stay = sym (ap lexical_handles gone
              ∙ (cond-false (is_lexical r.sort) (r.handle ∷ lexical_handles (without handle_of rs h)) (lexical_handles (without handle_of rs h)) not ∙ sym newest.stay));
          down = gone ∙ (ap (λ l. r ∷ l) newest.down ∙ sym (step-by (length xs) r rs not));
        }

module _ (t : PageTable) (lexicals : List ℕ) (classes : List ClassSlots) (b : Blocks) (k : IsKept t lexicals classes b) (left : List ℕ) (h : ℕ) (popped : lexicals ≡ left ++ h ∷ []) where
  newest : IsNewest b.regions left h
  newest = newest-is b.regions left h k.laid.sound.regions.handles.1 (sym k.tied.newest ∙ popped)

  pub newest-handle : h ≡ handle_of_page (h / 2)
  newest-handle = let (page, is, below) = handle-page t lexicals classes b k h newest.region newest.named in half h page is
    where
      half : (h p : ℕ) → h ≡ 2 * p + 1 → h ≡ 2 * (h / 2) + 1
      half h p is = omega (arith, is)

  pub newest-named : (r : Home) × (lookup handle_of b.regions (handle_of_page (h / 2)) ≡ Some r)
  newest-named = (newest.region, subst (λ n. lookup handle_of b.regions n ≡ Some newest.region) newest-handle newest.named)

  pub newest-left : left ≡ lexical_handles (without handle_of b.regions (handle_of_page (h / 2)))
  newest-left = subst (λ n. left ≡ lexical_handles (without handle_of b.regions n)) newest-handle newest.stay

  module _ (c : Blocks) (noted : c ≡ record b { regions = without handle_of b.regions h }) where
    pub newest-blocks : c ≡ record b { regions = without handle_of b.regions (handle_of_page (h / 2)) }
    newest-blocks = subst (λ n. c ≡ record b { regions = without handle_of b.regions n }) newest-handle noted

    regions-are : c.regions ≡ without handle_of b.regions h
    regions-are = ap (λ (d : Blocks). d.regions) noted

    many-left : lexical_count c.regions ≡ length left
    many-left = ap lexical_count regions-are ∙ (sym (lexical-length (without handle_of b.regions h)) ∙ ap length (sym newest.stay))

    newest-count : lexical_count b.regions ≡ lexical_count c.regions + 1
    newest-count = sym (lexical-length b.regions) ∙ (ap length (sym k.tied.newest ∙ popped) ∙ (one-more left ∙ ap (λ n. n + 1) (sym many-left)))
      where
        one-more : (xs : List ℕ) → length (xs ++ h ∷ []) ≡ length xs + 1
        one-more [] = refl
        one-more (x ∷ xs) = ap suc (one-more xs) ∙ turned (length xs)
          where
            turned : (n : ℕ) → suc (n + 1) ≡ suc n + 1
            turned n = omega arith

    newest-down : c.regions ≡ down_to (lexical_count c.regions) b.regions
    newest-down = regions-are ∙ (newest.down ∙ ap (λ n. down_to n b.regions) (sym many-left))

    newest-same : (v : PageTable) (old new : ℕ) → v.most ≡ t.most → v.words.items ≡ t.words.items → new ≡ old
        → ◌≡◌ {A = Stored} (record { pages = v.most; words = v.words.items; blocks = c; room = new })
        (record { pages = t.most; words = t.words.items; blocks = record b { regions = c.regions }; room = old })
    newest-same v old new most words room =
        ap (λ n. record { pages = n; words = v.words.items; blocks = c; room = new }) most
        ∙ (ap (λ ws. record { pages = t.most; words = ws; blocks = c; room = new }) words
        ∙ (ap (λ n. record { pages = t.most; words = t.words.items; blocks = c; room = n }) room
        ∙ ap (λ (d : Blocks). record { pages = t.most; words = t.words.items; blocks = d; room = old }) (noted ∙ ap (λ rs. record b { regions = rs }) (sym regions-are))))

    pub newest-unwinds : (v : PageTable) (old new : ℕ) → v.most ≡ t.most → v.words.items ≡ t.words.items → new ≡ old
        → Unwinds (record { pages = t.most; words = t.words.items; blocks = b; room = old }) (record { pages = v.most; words = v.words.items; blocks = c; room = new })
    newest-unwinds v old new most words room = record { count = newest-count; regions = newest-down; same = newest-same v old new most words room }

-- After the loop that closes lexical regions one by one, the open regions are as if all but the oldest `mark` lexical regions
-- were closed at once.
pub unwound : (old new : Stored) (mark : ℕ) → new ≡ record old { blocks = record old.blocks { regions = new.blocks.regions } }
    → down_to mark new.blocks.regions ≡ down_to mark old.blocks.regions → lexical_count new.blocks.regions ≤ mark
    → held_of new ≡ record (held_of old) { regions = down_to mark old.blocks.regions }
unwound old new mark same down few = ap held_of same ∙ ap (λ rs. record (held_of old) { regions = rs }) (sym (down_to-all mark new.blocks.regions few) ∙ down)
