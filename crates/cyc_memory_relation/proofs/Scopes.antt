-- The open lexical regions are exactly those that continuation frames will close. Lexical regions can therefore be counted on the
-- control stack, the innermost one is the newest, and their number is bounded.
use Rattle.std.proofs.Common.{◌≡◌, ℕ, suc, ◌≤◌, Bool, true, false, List, [], ◌∷◌, length, set, Option, None, Some, refl, sym, ap, ◌∙◌, inl, inr, arith}
use Rattle.std.specs.Prelude.{slice_get}
use Rattle.std.proofs.lemmas.Bool.{cases_lt, cond-true}
use Rattle.cyc_words.proofs.Booleans.{never_true_and_false}
use Rattle.cyc_store.specs.State.{StoreState, lexical_count}
use Rattle.cyc_store.specs.Soundness.{IsSound}
use Rattle.cyc_store.proofs.KeptServices.{lexical-few, regions-few}
use Rattle.cyc_meaning.specs.State.{Sort, Heap, Globals, Stack, Lexical, Dynamic, Region, World, Found, Closed, region_at, found_region, Environment, Entry, CloseRegion, CloseLexical}
use Rattle.cyc_meaning.specs.inside.Nesting.{ends_of, AreBelow, lexicals_of, is_scope, is_open_scope, AreScopes, IsNested}
use Rattle.cyc_meaning.proofs.NestingLemmas.{one_here, one_there, none_above, scopes_closed}
use Rattle.cyc_memory_relation.specs.inside.Related.{scopes, IsNewest}
use Rattle.cyc_memory_relation.proofs.RegionLemmas.{shut}
use Rattle.cyc_memory_relation.proofs.Closing.{scopes-closed, scopes-none}

-- If a lookup finds an open lexical region, then this region exists.
scope-there : (o : Option Region) → is_open_scope o ≡ true → (r : Region) × (o ≡ Some r) × (is_scope r.sort r.is_open ≡ true)
scope-there None scope = absurd (let e : false ≡ true = scope in cc)
scope-there (Some r) scope = (r, refl, scope)

scopes-are : (stack : List Entry) (regions : List Region) (bound : ℕ) → AreBelow bound (ends_of stack) → AreScopes regions (lexicals_of stack) → scopes regions ≡ length (lexicals_of stack)
scopes-are [] regions bound below are =
    scopes-none regions (λ i q there scope. never_true_and_false scope (sym (ap is_open_scope there) ∙ are i))
scopes-are (CloseLexical region ∷ stack) regions bound (less, below) are =
    let (r, there, scope) = scope-there (slice_get regions region) (are region ∙ one_here region region (lexicals_of stack) refl) in
    scopes-closed regions region r there scope
    ∙ ap suc (scopes-are stack (set regions region (shut r)) region below (scopes_closed region r stack regions below are))
scopes-are (CloseRegion region home ∷ stack) regions bound (less, below) are = scopes-are stack regions region below are
scopes-are (entry ∷ stack) regions bound below are = scopes-are stack regions bound below are

-- The number of open lexical regions is the number of continuation frames that close one.
pub scopes-counted : (stack : List Entry) (e : Environment) (w : World) → IsNested stack e w → scopes w.regions ≡ length (lexicals_of stack)
scopes-counted stack e w (found, below, home, are) = scopes-are stack w.regions (length w.regions) below are

-- The lexical region that the newest continuation frame closes.
pub record Ends (w : World) (number : ℕ) : Type 0 where
  pub region : Region
  pub there : slice_get w.regions number ≡ Some region
  pub scope : is_scope region.sort region.is_open ≡ true
  pub newest : IsNewest w.regions number
  pub found : region_at w number ≡ Found region

is-open : (sort : Sort) (flag : Bool) → is_scope sort flag ≡ true → flag ≡ true
is-open Lexical flag scope = scope
is-open Heap flag scope = absurd (let e : false ≡ true = scope in cc)
is-open Globals flag scope = absurd (let e : false ≡ true = scope in cc)
is-open Stack flag scope = absurd (let e : false ≡ true = scope in cc)
is-open Dynamic flag scope = absurd (let e : false ≡ true = scope in cc)

pub ends-newest : (number : ℕ) (stack : List Entry) (e : Environment) (w : World) → IsNested (CloseLexical number ∷ stack) e w → Ends w number
ends-newest number stack e w (found, (less, below), home, are) =
    let (r, there, scope) = scope-there (slice_get w.regions number) (are number ∙ one_here number number (lexicals_of stack) refl) in
    record {
      region = r;
      there = there;
      scope = scope;
      newest = newest;
      found = ap found_region there ∙ cond-true r.is_open (Found r) Closed (is-open r.sort r.is_open scope);
    }
  where
    newest : IsNewest w.regions number
    newest other q at open_too = elim (cases_lt number other) [
      | inl past ↦
          absurd (never_true_and_false (sym (are other) ∙ (ap is_open_scope at ∙ open_too)) (one_there other number (lexicals_of stack) (λ e. (let same : number ≡ other = e in absurd (omega (arith, past, same)))) ∙ none_above stack number other below (omega (arith, past))))
      | inr before ↦ before
    ]

-- ---- the number of open lexical regions

-- Each region of a heap store has at least one page, so a heap store has at most as many lexical regions as pages.
pub lexicals-within : (s : StoreState) → IsSound s → lexical_count s.regions ≤ s.pages
lexicals-within s sound = omega (arith, lexical-few s.regions, regions-few s.regions s.classes, sound.demand)
