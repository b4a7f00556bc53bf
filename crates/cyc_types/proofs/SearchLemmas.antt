-- Lemmas about the search through the open scopes, from the oldest to the newest, for a path in the outlives relation.
use Rattle.std.proofs.Common.{◌≡◌, ℕ, ◌+◌, ◌<◌, Bool, true, false, ◌&&◌, ◌||◌, not, List, [], ◌∷◌, ◌++◌, map, reverse, length, get_or, take, drop, refl, ap, sym, ◌∙◌, subst, arith, ◌↔◌, Option, Some}
use Rattle.std.specs.Prelude.{IsTrue}
use Rattle.std.specs.Option.{ForSome}
use Rattle.std.specs.List.{list_any}
use Rattle.std.proofs.lemmas.Bool.{or_left, or_right}
use Rattle.std.proofs.lemmas.List.{take_more, reverse-append, take-append-drop, length-reverse}
use Rattle.std.proofs.lemmas.List.Folds.{list_any-append}
use Rattle.cyc_words.proofs.Searches.{any-map, any-reverse}
use Rattle.cyc_words.proofs.Booleans.{or_comm}
use Rattle.cyc_types.specs.declared.region.Region.{Region}
use Rattle.cyc_types.specs.declared.region.Region.TheVariants.{Unique}
use Rattle.cyc_types.specs.declared.scope.Scope.{Scope}
use Rattle.cyc_types.specs.Types.{region_eq, is_region_among}
use Rattle.cyc_types.specs.Outlives.{RegionContext, OutlivesIn, live_regions, is_outlived_by_live}
use Rattle.cyc_types.specs.Closure.{above, above_one_of, above_one_opened, leads, is_outliving, is_above_known, HasNoUnique}
use Rattle.cyc_types.proofs.ClosureLemmas.{newest-from, outliving-sound, outliving-complete}

-- a region has a path to a live region exactly if it has one to an open scope's region or to a region live at the start
pub live-split : (w : List (Region × Region)) (live : List Region) (scopes : List Scope) (a : Region) →
    above_one_of w (live_regions live (reverse scopes)) a ≡ (above_one_opened w scopes a || above_one_of w live a)
live-split w live scopes a =
    list_any-append (λ r. not (region_eq r Unique) && above w a r) (map (λ (s : Scope). s.region) (reverse scopes)) live
    ∙ ap (λ z. z || above_one_of w live a)
    (any-map (λ r. not (region_eq r Unique) && above w a r) (λ (s : Scope). s.region) (reverse scopes)
    ∙ any-reverse (λ (s : Scope). not (region_eq s.region Unique) && above w a s.region) scopes)

-- in the order from newest to oldest, the first i + 1 scopes are the scope at index i followed by the first i scopes
pub reverse-take_more : (scopes : List Scope) (i : ℕ) (d : Scope) → i < length scopes →
    reverse (take (i + 1) scopes) ≡ get_or scopes i d ∷ reverse (take i scopes)
reverse-take_more scopes i d h = ap reverse (take_more scopes i d h) ∙ reverse-append (take i scopes) (get_or scopes i d ∷ [])

module _ (w : List (Region × Region)) (live : List Region) where
  -- every path between regions over the open scopes is still a path after further scopes are opened
  leads-grows : (newer opened : List Scope) (a b : Region) → leads w live opened a b ≡ true → leads w live (newer ++ opened) a b ≡ true
  leads-grows [] opened a b h = h
  leads-grows (s ∷ ss) opened a b h = or_left (leads w live (ss ++ opened) a b) _ (leads-grows ss opened a b h)

  pub leads-all : (scopes : List Scope) (n : ℕ) (a b : Region) → leads w live (reverse (take n scopes)) a b ≡ true →
      leads w live (reverse scopes) a b ≡ true
  leads-all scopes n a b h =
      subst (λ z. leads w live z a b ≡ true) (sym (reverse-append (take n scopes) (drop n scopes)) ∙ ap reverse (take-append-drop n scopes))
      (leads-grows (reverse (drop n scopes)) (reverse (take n scopes)) a b h)

  -- a path leads from a to b over the scope at index i if a reaches a region live before that scope, and the scope's region reaches b
  pub leads-found : (scopes : List Scope) (i : ℕ) (d : Scope) (a b : Region) → i < length scopes →
      is_outlived_by_live (get_or scopes i d).kind ≡ true →
      above_one_of w (live_regions live (reverse (take i scopes))) a ≡ true →
      leads w live (reverse (take i scopes)) (get_or scopes i d).region b ≡ true →
      leads w live (reverse scopes) a b ≡ true
  leads-found scopes i d a b h k u r =
      leads-all scopes (i + 1) a b
      (subst (λ z. leads w live z a b ≡ true) (sym (reverse-take_more scopes i d h))
      (newest-from w live (get_or scopes i d) (reverse (take i scopes)) a b k u r))

  -- if no path leads over the scope at index i to b, the search for paths to b can skip that scope
  pub leads-passed : (scopes : List Scope) (i : ℕ) (d : Scope) (x b : Region) → i < length scopes →
      (is_outlived_by_live (get_or scopes i d).kind && leads w live (reverse (take i scopes)) (get_or scopes i d).region b) ≡ false →
      leads w live (reverse (take (i + 1) scopes)) x b ≡ leads w live (reverse (take i scopes)) x b
  leads-passed scopes i d x b h e =
      ap (λ z. leads w live z x b) (reverse-take_more scopes i d h)
      ∙ passed (leads w live (reverse (take i scopes)) x b) (is_outlived_by_live (get_or scopes i d).kind)
      (above_one_of w (live_regions live (reverse (take i scopes))) x) (leads w live (reverse (take i scopes)) (get_or scopes i d).region b) e
    where
      passed : (p k u r : Bool) → (k && r) ≡ false → (p || (k && u && r)) ≡ p
      passed true k u r e = refl
      passed false true true r e = e
      passed false true false r e = refl
      passed false false u r e = refl

  -- if a path leads over the scope at index i to b, every region that was live before this scope has a path to b
  pub leads-taken : (scopes : List Scope) (i : ℕ) (d : Scope) (known : Bool) (x b : Region) → i < length scopes →
      is_outlived_by_live (get_or scopes i d).kind ≡ true →
      leads w live (reverse (take i scopes)) (get_or scopes i d).region b ≡ true →
      leads w live (reverse (take i scopes)) x b ≡ (above w x b || known) →
      (known ≡ true → above_one_of w (live_regions live (reverse (take i scopes))) x ≡ true) →
      leads w live (reverse (take (i + 1) scopes)) x b ≡ (above w x b || above_one_of w (live_regions live (reverse (take i scopes))) x)
  leads-taken scopes i d known x b h k r e within =
      ap (λ z. leads w live z x b) (reverse-take_more scopes i d h)
      ∙ taken (leads w live (reverse (take i scopes)) x b) (is_outlived_by_live (get_or scopes i d).kind)
      (above_one_of w (live_regions live (reverse (take i scopes))) x) (leads w live (reverse (take i scopes)) (get_or scopes i d).region b)
      (above w x b) known e k r within
    where
      taken : (p k u r q known : Bool) → p ≡ (q || known) → k ≡ true → r ≡ true → (known ≡ true → u ≡ true) →
          (p || (k && u && r)) ≡ (q || u)
      taken p true u true true known e k r within = ap (λ z. z || (u && true)) e
      taken p true true true false known e k r within = subst (λ z. (z || true) ≡ true) (sym e) (or_true known)
        where
          or_true : (b : Bool) → (b || true) ≡ true
          or_true true = refl
          or_true false = refl
      taken p true false true false true e k r within = absurd (apart (within refl))
        where
          apart : false ≡ true → ⊥
          apart h = cc
      taken p true false true false false e k r within = ap (λ z. z || false) e
      taken p false u r q known e k s within = cc
      taken p true u false q known e k s within = cc

  -- a region with a path to the regions live before one scope opened also has a path to those live before the next scope opened
  pub live-more : (scopes : List Scope) (i : ℕ) (d : Scope) (x : Region) → i < length scopes →
      above_one_of w (live_regions live (reverse (take i scopes))) x ≡ true →
      above_one_of w (live_regions live (reverse (take (i + 1) scopes))) x ≡ true
  live-more scopes i d x h u =
      subst (λ z. above_one_of w (live_regions live z) x ≡ true) (sym (reverse-take_more scopes i d h))
      (or_right (not (region_eq (get_or scopes i d).region Unique) && above w x (get_or scopes i d).region)
      (above_one_of w (live_regions live (reverse (take i scopes))) x) u)

-- Invariant of the search for paths to region b: the oldest i scopes are visited, and a recorded scope index decides which regions have a
-- path over these scopes to b. Region a has no path over the visited scopes to b.
pub record IsSearched (w : List (Region × Region)) (live : List Region) (scopes : List Scope) (i : ℕ) (known : Option ℕ) (a b : Region) : Type 0 where
  pub same : (x : Region) → leads w live (reverse (take i scopes)) x b ≡ (above w x b || is_above_known w live scopes known x)
  pub within : (x : Region) → is_above_known w live scopes known x ≡ true →
      above_one_of w (live_regions live (reverse (take i scopes))) x ≡ true
  pub not_yet : is_above_known w live scopes known a ≡ false
  pub bound : ForSome known (λ k. k < length scopes)

module _ (w : List (Region × Region)) (live : List Region) (scopes : List Scope) (i : ℕ) (known : Option ℕ) (a b : Region)
    (before : IsSearched w live scopes i known a b) (d : Scope) (h : i < length scopes) where
  -- the invariant of the search for paths to region b holds after the next scope is visited, if a path leads over that scope to b
  pub searched-taken : is_outlived_by_live (get_or scopes i d).kind ≡ true →
      (above w (get_or scopes i d).region b || is_above_known w live scopes known (get_or scopes i d).region) ≡ true →
      above_one_of w (live_regions live (reverse (take i scopes))) a ≡ false →
      IsSearched w live scopes (i + 1) (Some i) a b
  searched-taken k r n = record {
    same = λ x. leads-taken w live scopes i d (is_above_known w live scopes known x) x b h k
        (before.same (get_or scopes i d).region ∙ r) (before.same x) (before.within x);
    within = λ x u. live-more w live scopes i d x h u;
    not_yet = n;
    bound = λ x e. let q : i ≡ x = cc in omega (arith, q, h);
  }

  -- the invariant of the search for paths to region b holds after the next scope is visited, if no path leads over that scope to b
  pub searched-passed :
      (is_outlived_by_live (get_or scopes i d).kind
      && (above w (get_or scopes i d).region b || is_above_known w live scopes known (get_or scopes i d).region)) ≡ false →
      IsSearched w live scopes (i + 1) known a b
  searched-passed n = record {
    same = λ x. leads-passed w live scopes i d x b h
        (ap (λ z. is_outlived_by_live (get_or scopes i d).kind && z) (before.same (get_or scopes i d).region) ∙ n) ∙ before.same x;
    within = λ x u. live-more w live scopes i d x h (before.within x u);
    not_yet = before.not_yet;
    bound = before.bound;
  }

-- if neither constraints nor open scopes contain the unique region, the boolean test `is_outliving` decides the outlives relation
pub outliving_iff : (c : RegionContext) (a b : Region) (r : Bool) → HasNoUnique c → r ≡ is_outliving c a b → IsTrue r ↔ OutlivesIn c a b
outliving_iff c a b r apart s = (
  λ h. outliving-sound c apart.written apart.opened a b (sym s ∙ h),
  λ h. s ∙ outliving-complete c apart.written apart.opened a b h,
)

-- a region is live exactly if it is in the list of regions live at the start or is the region of an open scope
pub live_among : (r : Region) (live : List Region) (scopes : List Scope) →
    is_region_among r (live_regions live (reverse scopes)) ≡ (is_region_among r live || list_any (λ (s : Scope). region_eq s.region r) scopes)
live_among r live scopes =
    list_any-append (λ a. region_eq a r) (map (λ (s : Scope). s.region) (reverse scopes)) live
    ∙ ap (λ z. z || is_region_among r live)
    (any-map (λ a. region_eq a r) (λ (s : Scope). s.region) (reverse scopes) ∙ any-reverse (λ (s : Scope). region_eq s.region r) scopes)
    ∙ or_comm (list_any (λ (s : Scope). region_eq s.region r) scopes) (is_region_among r live)
