-- The nesting of block regions and lexical regions under each change of the state: opening, closing, calling, returning and allocating.
use Rattle.std.proofs.Common.{◌≡◌, ℕ, zero, suc, ◌≤◌, Bool, true, false, List, [], ◌∷◌, ◌++◌, set, length, Option, Some, None, refl, sym, ap, subst, ◌∙◌, inl, inr, arith, length-append}
use Rattle.std.specs.Prelude.{◌≢◌, ◌==◌, ◌||◌, if◌then◌else◌, slice_get}
use Rattle.std.specs.List.{list_any}
use Rattle.std.proofs.lemmas.Bool.{eq-eqb, eqb-true, false_from_ne_true, cases_eq}
use Rattle.std.proofs.lemmas.List.{length-set}
use Rattle.cyc_words.proofs.Lists.{slice_get_last}
use Rattle.cyc_words.proofs.Items.{slice_get-set_other}
use Rattle.cyc_meaning.specs.Values.{Cell, block_size}
use Rattle.cyc_meaning.specs.State.{Sort, Stack, Lexical, Dynamic, Region, World, Found, Closed, Missing, found_region, is_open, region_at, globals_number, new_region, stack_region, opened, opened_as, closed, Environment, no_locals, Entry, CloseRegion, CloseLexical, Caller}
use Rattle.cyc_meaning.specs.Parts.{inside, region_end}
use Rattle.cyc_meaning.specs.Objects.{made_in}
use Rattle.cyc_meaning.specs.inside.Nesting.{ends_of, IsScoped, IsFound, AreOpen, AreBelow, IsHome, lexicals_of, is_scope, is_open_scope, AreScopes, IsNested}

-- ---- results of an access

pub region_is : (o : Option Region) (r : Region) → found_region o ≡ Found r → o ≡ Some r
region_is None r found = absurd (let e : Missing ≡ Found r = found in cc)
region_is (Some s) r found = go s.is_open refl
  where
    go : (b : Bool) → s.is_open ≡ b → Some s ≡ Some r
    go true e =
        let k : Found s ≡ Found r = ap (λ (b : Bool). if b then Found s else Closed) (sym e) ∙ found in
        let h : s ≡ r = cc in ap (λ t. Some t) h
    go false e = absurd (let k : Closed ≡ Found r = ap (λ (b : Bool). if b then Found s else Closed) (sym e) ∙ found in cc)

pub region_found : (w : World) (number : ℕ) (r : Region) → region_at w number ≡ Found r → slice_get w.regions number ≡ Some r
region_found w number r found = region_is (slice_get w.regions number) r found

pub open_region : (o : Option Region) → is_open o ≡ true → (r : Region) × (o ≡ Some r) × (r.is_open ≡ true)
open_region None opens = absurd (let e : false ≡ true = opens in cc)
open_region (Some r) opens = (r, refl, opens)

-- ---- regions

still_there : (regions more : List Region) (n : ℕ) → IsFound (found_region (slice_get regions n)) → IsFound (found_region (slice_get (regions ++ more) n))
still_there [] more n found = absurd found
still_there (r ∷ regions) more zero found = found
still_there (r ∷ regions) more (suc n) found = still_there regions more n found

pub still_open : (regions more : List Region) (ns : List ℕ) → AreOpen regions ns → AreOpen (regions ++ more) ns
still_open regions more [] h = tt
still_open regions more (n ∷ ns) (found, h) = (still_there regions more n found, still_open regions more ns h)

all_below_more : (ns : List ℕ) (bound more : ℕ) → bound ≤ more → AreBelow bound ns → AreBelow more ns
all_below_more [] bound more less h = tt
all_below_more (n ∷ ns) bound more less (first, h) = (omega (arith, first, less), h)

-- If a region is closed, the open regions with lower indices stay open.
open_below : (regions : List Region) (number : ℕ) (r : Region) (ns : List ℕ) → AreBelow number ns → AreOpen regions ns → AreOpen (set regions number r) ns
open_below regions number r [] below h = tt
open_below regions number r (n ∷ ns) (less, below) (found, h) =
    let other : n ≢ number = λ e. (let k : n ≡ number = e in absurd (omega (arith, less, k))) in (
      subst (λ (o : Option Region). IsFound (found_region o)) (sym (slice_get-set_other regions number n r other)) found,
      open_below regions number r ns (all_below_more ns n number (omega (arith, less)) below) h,
    )

-- If an open region is replaced by another open one, every region that was found open is still found open.
set_found : (regions : List Region) (number n : ℕ) (r s : Region) → slice_get regions number ≡ Some r → (IsFound (found_region (Some r)) → IsFound (found_region (Some s)))
    → IsFound (found_region (slice_get regions n)) → IsFound (found_region (slice_get (set regions number s) n))
set_found [] number n r s at keep found = absurd found
set_found (x ∷ regions) zero zero r s at keep found = keep (subst (λ (o : Option Region). IsFound (found_region o)) at found)
set_found (x ∷ regions) zero (suc n) r s at keep found = found
set_found (x ∷ regions) (suc number) zero r s at keep found = found
set_found (x ∷ regions) (suc number) (suc n) r s at keep found = set_found regions number n r s at keep found

set_open : (regions : List Region) (number : ℕ) (r s : Region) (ns : List ℕ) → slice_get regions number ≡ Some r → (IsFound (found_region (Some r)) → IsFound (found_region (Some s))) → AreOpen regions ns → AreOpen (set regions number s) ns
set_open regions number r s [] at keep h = tt
set_open regions number r s (n ∷ ns) at keep (found, h) = (set_found regions number n r s at keep found, set_open regions number r s ns at keep h)

pub globals_found : (regions : List Region) (stack : List Entry) → AreOpen regions (ends_of stack) → IsFound (found_region (slice_get regions globals_number))
globals_found regions [] h = h.0
globals_found regions (CloseRegion region home ∷ stack) h = globals_found regions stack h.1
globals_found regions (CloseLexical region ∷ stack) h = globals_found regions stack h.1
globals_found regions (entry ∷ stack) h = globals_found regions stack h

-- The region in which the running call allocates its variables is open.
pub home_found : (regions : List Region) (home : ℕ) (stack : List Entry) → IsHome home stack → AreOpen regions (ends_of stack) → IsFound (found_region (slice_get regions home))
home_found regions home [] is h = subst (λ (n : ℕ). IsFound (found_region (slice_get regions n))) (sym is) h.0
home_found regions home (CloseRegion region outer ∷ stack) is h = subst (λ (n : ℕ). IsFound (found_region (slice_get regions n))) (sym is.0) h.0
home_found regions home (CloseLexical region ∷ stack) is h = home_found regions home stack is h.1
home_found regions home (Caller outer ∷ stack) is h = subst (λ (n : ℕ). IsFound (found_region (slice_get regions n))) (sym is.0) (globals_found regions stack h)
home_found regions home (entry ∷ stack) is h = home_found regions home stack is h

-- ---- lexical regions

-- Returns true if the given region index is in the given list of region indices.
abbrev pub is_one : ℕ → List ℕ → Bool
is_one number ns = list_any (λ (n : ℕ). n == number) ns

pub one_here : (number n : ℕ) (ns : List ℕ) → n ≡ number → is_one number (n ∷ ns) ≡ true
one_here number n ns same = ap (λ (b : Bool). b || is_one number ns) (eq-eqb n number same)

pub one_there : (number n : ℕ) (ns : List ℕ) → n ≢ number → is_one number (n ∷ ns) ≡ is_one number ns
one_there number n ns other = ap (λ (b : Bool). b || is_one number ns) (false_from_ne_true (n == number) (λ e. other (eqb-true n number e)))

-- The lexical regions that continuation frames of the control stack will close have lower indices than any region opened later.
pub none_above : (stack : List Entry) (bound number : ℕ) → AreBelow bound (ends_of stack) → bound ≤ number → is_one number (lexicals_of stack) ≡ false
none_above [] bound number below less = refl
none_above (CloseLexical region ∷ stack) bound number (lower, below) less =
    one_there number region (lexicals_of stack) (λ e. (let same : region ≡ number = e in absurd (omega (arith, lower, less, same))))
    ∙ none_above stack region number below (omega (arith, lower, less))
none_above (CloseRegion region home ∷ stack) bound number (lower, below) less = none_above stack region number below (omega (arith, lower, less))
none_above (entry ∷ stack) bound number below less = none_above stack bound number below less

-- A region appended at the end of the list does not change the other regions.
after_others : (regions : List Region) (r : Region) (number : ℕ) → number ≢ length regions → is_open_scope (slice_get (regions ++ r ∷ []) number) ≡ is_open_scope (slice_get regions number)
after_others [] r zero other = absurd (other refl)
after_others [] r (suc number) other = refl
after_others (q ∷ regions) r zero other = refl
after_others (q ∷ regions) r (suc number) other = after_others regions r number (λ e. other (ap suc e))

-- Appending a region that is not an open lexical region keeps the list of open lexical regions.
scopes_more : (regions : List Region) (r : Region) (ns : List ℕ) → is_scope r.sort r.is_open ≡ false → AreScopes regions ns → AreScopes (regions ++ r ∷ []) ns
scopes_more regions r ns none are number = go regions number ∙ are number
  where
    go : (rs : List Region) (i : ℕ) → is_open_scope (slice_get (rs ++ r ∷ []) i) ≡ is_open_scope (slice_get rs i)
    go [] zero = none
    go [] (suc i) = refl
    go (q ∷ rs) zero = refl
    go (q ∷ rs) (suc i) = go rs i

-- Appending an open lexical region adds its index to the list of the indices of open lexical regions.
scopes_new : (regions : List Region) (r : Region) (ns : List ℕ) → is_scope r.sort r.is_open ≡ true → AreScopes regions ns → AreScopes (regions ++ r ∷ []) (length regions ∷ ns)
scopes_new regions r ns scope are number = elim (cases_eq (length regions) number) [
  | inl same ↦
      ap (λ (i : ℕ). is_open_scope (slice_get (regions ++ r ∷ []) i)) (sym same)
      ∙ (ap is_open_scope (slice_get_last regions r) ∙ (scope ∙ sym (one_here number (length regions) ns same)))
  | inr other ↦ after_others regions r number (λ e. other (sym e)) ∙ (are number ∙ sym (one_there number (length regions) ns other))
]

-- If a region is replaced by one that is not an open lexical region, then its index no longer identifies an open lexical region.
set_none : (regions : List Region) (number : ℕ) (r : Region) → is_scope r.sort r.is_open ≡ false → is_open_scope (slice_get (set regions number r) number) ≡ false
set_none [] number r none = refl
set_none (q ∷ regions) zero r none = none
set_none (q ∷ regions) (suc number) r none = set_none regions number r none

-- After a region is closed, a list without its index is exactly that of the open lexical regions if it was right for the other regions.
scopes_less : (regions : List Region) (closes : ℕ) (r : Region) (ns : List ℕ) → is_scope r.sort r.is_open ≡ false → is_one closes ns ≡ false
    → ((number : ℕ) → closes ≢ number → is_open_scope (slice_get regions number) ≡ is_one number ns) → AreScopes (set regions closes r) ns
scopes_less regions closes r ns none gone are number = elim (cases_eq closes number) [
  | inl same ↦
      ap (λ (i : ℕ). is_open_scope (slice_get (set regions closes r) i)) (sym same)
      ∙ (set_none regions closes r none ∙ (sym gone ∙ ap (λ (i : ℕ). is_one i ns) same))
  | inr other ↦ ap is_open_scope (slice_get-set_other regions closes number r (λ e. other (sym e))) ∙ are number other
]

-- If a region is replaced by one that is an open lexical region exactly if the old one is, the list of open lexical regions stays correct.
scopes_set : (regions : List Region) (number : ℕ) (r s : Region) (ns : List ℕ) → slice_get regions number ≡ Some r → is_scope s.sort s.is_open ≡ is_scope r.sort r.is_open → AreScopes regions ns → AreScopes (set regions number s) ns
scopes_set regions number r s ns there same are i = go regions number i there ∙ are i
  where
    go : (rs : List Region) (n i : ℕ) → slice_get rs n ≡ Some r → is_open_scope (slice_get (set rs n s) i) ≡ is_open_scope (slice_get rs i)
    go [] n i at = refl
    go (q ∷ rs) zero zero at = same ∙ sym (ap is_open_scope at)
    go (q ∷ rs) zero (suc i) at = refl
    go (q ∷ rs) (suc n) zero at = refl
    go (q ∷ rs) (suc n) (suc i) at = go rs n i at

shut_free : (sort : Sort) (flag : Bool) → (IsScoped sort → ⊥) → is_scope sort false ≡ is_scope sort flag
shut_free Lexical flag free = absurd (free tt)
shut_free sort flag free = refl

shut_none : (r : Region) → is_scope r.sort false ≡ false
shut_none r = go r.sort
  where
    go : (sort : Sort) → is_scope sort false ≡ false
    go Lexical = refl
    go sort = refl

-- ---- opening, closing, calling and returning

opened_open : (sort : Sort) (stack : List Entry) (w : World) → AreOpen w.regions (ends_of stack) → AreOpen (opened_as sort w).regions (ends_of stack)
opened_open sort stack w h = still_open w.regions (new_region sort ∷ []) (ends_of stack) h

opened_found : (sort : Sort) (w : World) → IsScoped sort → IsFound (found_region (slice_get (opened_as sort w).regions (length w.regions)))
opened_found sort w scoped = subst (λ (o : Option Region). IsFound (found_region o)) (sym (slice_get_last w.regions (new_region sort))) scoped

pub nested_opened : (stack : List Entry) (e : Environment) (w : World) → IsNested stack e w → IsNested (region_end e w ∷ stack) (inside e w) (opened w)
nested_opened stack e w (open_all, below, is, are) = (
  (opened_found Stack w tt, opened_open Stack stack w open_all),
  (omega (arith, length-append w.regions (stack_region ∷ [])), below),
  (refl, is),
  scopes_more w.regions stack_region (lexicals_of stack) refl are,
)

pub nested_lexical : (stack : List Entry) (e : Environment) (w : World) → IsNested stack e w → IsNested (CloseLexical (length w.regions) ∷ stack) e (opened_as Lexical w)
nested_lexical stack e w (open_all, below, is, are) = (
  (opened_found Lexical w tt, opened_open Lexical stack w open_all),
  (omega (arith, length-append w.regions (new_region Lexical ∷ [])), below),
  is,
  scopes_new w.regions (new_region Lexical) (lexicals_of stack) refl are,
)

pub nested_dynamic : (stack : List Entry) (e : Environment) (w : World) → IsNested stack e w → IsNested stack e (opened_as Dynamic w)
nested_dynamic stack e w (open_all, below, is, are) = (
  opened_open Dynamic stack w open_all,
  all_below_more (ends_of stack) (length w.regions) (length (w.regions ++ new_region Dynamic ∷ [])) (omega (arith, length-append w.regions (new_region Dynamic ∷ []))) below,
  is,
  scopes_more w.regions (new_region Dynamic) (lexicals_of stack) refl are,
)

below_closed : (region number : ℕ) (r : Region) (ns : List ℕ) (w : World) → AreBelow region ns → AreBelow (length w.regions) (region ∷ ns) → AreBelow (length (closed w number r).regions) ns
below_closed region number r ns w below (less, rest) =
    all_below_more ns region (length (set w.regions number (record r { is_open = false }))) (omega (arith, less, length-set w.regions number (record r { is_open = false }))) below

pub nested_closed : (region home : ℕ) (r : Region) (stack : List Entry) (e : Environment) (w : World) → IsNested (CloseRegion region home ∷ stack) e w → IsNested stack (record e { home = home }) (closed w region r)
nested_closed region home r stack e w ((found, open_all), (less, below), (same, is), are) = (
  open_below w.regions region (record r { is_open = false }) (ends_of stack) below open_all,
  below_closed region region r (ends_of stack) w below (less, below),
  is,
  scopes_less w.regions region (record r { is_open = false }) (lexicals_of stack) (shut_none r) (none_above stack region region below (omega arith)) (λ number other. are number),
)

-- Closing the innermost region keeps the nesting of regions.
pub scopes_closed : (region : ℕ) (r : Region) (stack : List Entry) (regions : List Region) → AreBelow region (ends_of stack) → AreScopes regions (region ∷ lexicals_of stack)
    → AreScopes (set regions region (record r { is_open = false })) (lexicals_of stack)
scopes_closed region r stack regions below are =
    scopes_less regions region (record r { is_open = false }) (lexicals_of stack) (shut_none r) (none_above stack region region below (omega arith))
    (λ number other. are number ∙ one_there number region (lexicals_of stack) other)

pub nested_closed_lexical : (region : ℕ) (r : Region) (stack : List Entry) (e : Environment) (w : World) → IsNested (CloseLexical region ∷ stack) e w → IsNested stack e (closed w region r)
nested_closed_lexical region r stack e w ((found, open_all), (less, below), is, are) = (
  open_below w.regions region (record r { is_open = false }) (ends_of stack) below open_all,
  below_closed region region r (ends_of stack) w below (less, below),
  is,
  scopes_closed region r stack w.regions below are,
)

-- Closing a dynamic region, which no scope closes, keeps the nesting of regions.
pub nested_closed_dynamic : (number : ℕ) (r : Region) (stack : List Entry) (e : Environment) (w : World) → region_at w number ≡ Found r → (IsScoped r.sort → ⊥) → IsNested stack e w → IsNested stack e (closed w number r)
nested_closed_dynamic number r stack e w found free (open_all, below, is, are) =
    let there : slice_get w.regions number ≡ Some r = region_found w number r found in
    let here : found_region (Some r) ≡ Found r = sym (ap found_region there) ∙ found in (
      set_open w.regions number r (record r { is_open = false }) (ends_of stack) there (λ scoped. absurd (free (subst IsFound here scoped))) open_all,
      all_below_more (ends_of stack) (length w.regions) (length (set w.regions number (record r { is_open = false }))) (omega (arith, length-set w.regions number (record r { is_open = false }))) below,
      is,
      scopes_set w.regions number r (record r { is_open = false }) (lexicals_of stack) there (shut_free r.sort r.is_open free) are,
    )

with_blocks : (r : Region) (blocks : List ℕ) (b : Bool) → IsFound (if b then Found r else Closed) → IsFound (if b then Found (record r { blocks = blocks }) else Closed)
with_blocks r blocks true scoped = scoped
with_blocks r blocks false scoped = scoped

pub nested_made_in : (number : ℕ) (r : Region) (cells : List Cell) (stack : List Entry) (e : Environment) (w : World) → region_at w number ≡ Found r → IsNested stack e w → IsNested stack e (made_in w number r cells)
nested_made_in number r cells stack e w found (open_all, below, is, are) =
    let s : Region = record r { blocks = r.blocks ++ block_size cells ∷ [] } in (
      set_open w.regions number r s (ends_of stack) (region_found w number r found) (with_blocks r (r.blocks ++ block_size cells ∷ []) r.is_open) open_all,
      all_below_more (ends_of stack) (length w.regions) (length (set w.regions number s)) (omega (arith, length-set w.regions number s)) below,
      is,
      scopes_set w.regions number r s (lexicals_of stack) (region_found w number r found) refl are,
    )

pub nested_call : (stack : List Entry) (e : Environment) (w : World) → IsNested stack e w → IsNested (Caller e ∷ stack) no_locals w
nested_call stack e w (open_all, below, is, are) = (open_all, below, (refl, is), are)

pub nested_return : (stack : List Entry) (e outer : Environment) (w : World) → IsNested (Caller outer ∷ stack) e w → IsNested stack outer w
nested_return stack e outer w (open_all, below, (same, is), are) = (open_all, below, is, are)
