-- The cost since the opening of the present outermost region, if lexical regions free their blocks at their end. The used and remaining
-- costs of the open regions are at most the cost of that outermost region.
use Rattle.std.proofs.Common.{◌≡◌, ℕ, zero, suc, ◌+◌, ◌*◌, ◌-◌, ◌<◌, ◌≤◌, ◌⊎◌, Bool, true, false, List, [], ◌∷◌, ◌++◌, drop, set, length, Option, Some, None, refl, sym, ap, subst, ◌∙◌, inl, inr, arith, length-append}
use Rattle.std.specs.Prelude.{◌==◌, if◌then◌else◌, slice_get, map}
use Rattle.std.specs.List.{list_any}
use Rattle.std.proofs.lemmas.List.{length-set}
use Rattle.cyc_types.specs.declared.typed.Callee.TheVariants as callees
use Rattle.cyc_types.specs.TypedTrees.{Items, MoreItems, DeclareRegion, GlobalVariable, Function, Program, Constant, Word}
use Rattle.cyc_types.specs.TypedTrees as typed
use Rattle.cyc_meaning.specs.Values.{Cell, kind_of, block_size}
use Rattle.cyc_meaning.specs.State.{Sort, Lexical, Region, Owner, InRegion, Unique, World, Access, Found, Closed, Missing, region_at, new_region, opened_as, constant_value, global_object}
use Rattle.cyc_meaning.specs.State.{no_locals, first_world, Environment, Entry, Rest, CloseLexical, Main, Focus, Proceeding, Calling, Entering, State, Running, Ended, Dead, Wrong}
use Rattle.cyc_meaning.specs.Objects.{made_in, made_unique, created_in, created}
use Rattle.cyc_meaning.specs.Parts.{wrong}
use Rattle.cyc_meaning.specs.Step.{called, step, stepped}
use Rattle.cyc_meaning.specs.Run.{start, run}
use Rattle.cyc_meaning.specs.inside.Effects.{printed_by, read_by, Changes, Keeps, Opens, Closes, Makes, MakesIn, MakesUnique, Frees, Writes, Prints, Reads, ChangesIn}
use Rattle.cyc_meaning.specs.inside.Nesting.{lexicals_of, is_scope, is_open_scope, IsNested, Nests}
use Rattle.cyc_meaning.proofs.NestingLemmas.{region_found}
use Rattle.cyc_meaning.proofs.RunLaws.{step_changes, steps-last}
use Rattle.cyc_meaning.proofs.Nested.{nests_run}
use Rattle.cyc_bound.specs.declared.costs.Measure.{Measure}
use Rattle.cyc_bound.specs.declared.costs.Measure.TheVariants as measures
use Rattle.cyc_bound.specs.declared.costs.Site.TheVariants as sites
use Rattle.cyc_bound.specs.Bound.{Row, Alone}
use Rattle.cyc_bound.specs.Costs.{too_many, step_cost, block_cost, items_cost, IsClosed}
use Rattle.cyc_bound.specs.AtOnce.{at_once_of}
use Rattle.cyc_bound.specs.inside.Remaining.{focus_delivers, site_of_owner, stack_cost, focus_cost, sort_spent, regions_spent, TakesAtMost, CostsAtMost}
use Rattle.cyc_bound.specs.inside.Outermost.{IsOwnCell, AreOwnObjects, AreSorted, AreKept, IsKept}
use Rattle.cyc_bound.proofs.CallLemmas.{following, row_of}
use Rattle.cyc_bound.proofs.CallSteps.{IsInSome}
use Rattle.cyc_bound.proofs.CallRuns.{run_in}
use Rattle.cyc_bound.proofs.CostLemmas.{IsNoMore, always_fits}
use Rattle.cyc_bound.proofs.CostWorlds.{site_at, regions_more, regions_closed, regions_made, Counts}
use Rattle.cyc_bound.proofs.CostSteps.{step_costs}
use Rattle.cyc_bound.proofs.FrameValues.{under}
use Rattle.cyc_bound.proofs.FrameSteps.{stepping}
use Rattle.cyc_bound.proofs.KeptSteps.{CalleeFits, CalleeFitsIn, MayOpen, step_kept}

-- ---- costs counted since the opening of a region

-- the cost of the regions from index `from` on, with all allocations in these regions
abbrev pub since : Measure → (from : ℕ) → World → ℕ
since m from w = regions_spent m sites.Region (drop from w.regions)

module _ (m : Measure) where
  abbrev S : ℕ → List Region → ℕ
  S from regions = regions_spent m sites.Region (drop from regions)

  none_left : (from : ℕ) → S from [] ≡ 0
  none_left zero = refl
  none_left (suc from) = refl

  opened_since : (from : ℕ) (regions : List Region) (sort : Sort) → S from (regions ++ new_region sort ∷ []) ≤ S from regions + sort_spent m sort
  opened_since zero regions sort = omega (arith, regions_more m sites.Region regions sort)
  opened_since (suc from) [] sort = omega (arith, none_left from)
  opened_since (suc from) (r ∷ regions) sort = opened_since from regions sort

  closed_since : (from n : ℕ) (regions : List Region) (r : Region) → slice_get regions n ≡ Some r → S from (set regions n (record r { is_open = false })) ≤ S from regions
  closed_since zero n regions r there = omega (arith, regions_closed m sites.Region regions n r there)
  closed_since (suc from) n [] r there = omega arith
  closed_since (suc from) zero (x ∷ regions) r there = omega arith
  closed_since (suc from) (suc n) (x ∷ regions) r there = closed_since from n regions r there

  region_site : (n size : ℕ) → block_cost m (site_at sites.Region n) size ≡ block_cost m sites.Region size
  region_site zero size = refl
  region_site (suc n) size = refl

  made_since : (from n : ℕ) (regions : List Region) (r : Region) (size : ℕ) → slice_get regions n ≡ Some r
      → S from (set regions n (record r { blocks = r.blocks ++ size ∷ [] })) ≤ S from regions + block_cost m sites.Region size
  made_since zero n regions r size there = omega (arith, regions_made m sites.Region regions n r size there, region_site n size)
  made_since (suc from) n [] r size there = omega arith
  made_since (suc from) zero (x ∷ regions) r size there = omega arith
  made_since (suc from) (suc n) (x ∷ regions) r size there = made_since from n regions r size there

  -- the cost counted since a region was opened does not include allocations in the heap
  heap_since : (from : ℕ) (regions : List Region) (r : Region) → S (suc from) (set regions 0 r) ≡ S (suc from) regions
  heap_since from [] r = refl
  heap_since from (x ∷ regions) r = refl

  made_in_since : (from : ℕ) (w : World) (region : ℕ) (r : Region) (cells : List Cell) → region_at w region ≡ Found r
      → since m (suc from) (made_in w region r cells) ≤ since m (suc from) w + block_cost m (site_of_owner (InRegion region)) (block_size cells)
  made_in_since from w zero r cells found = omega (arith, heap_since from w.regions (record r { blocks = r.blocks ++ block_size cells ∷ [] }))
  made_in_since from w (suc region) r cells found = made_since (suc from) (suc region) w.regions r (block_size cells) (region_found w (suc region) r found)

  created_since : (from : ℕ) (w new : World) (owner : Owner) (cells : List Cell) → created w owner cells ≡ Found new → since m (suc from) new ≤ since m (suc from) w + block_cost m (site_of_owner owner) (block_size cells)
  created_since from w new (InRegion region) cells is = go (region_at w region) refl
    where
      go : (a : Access Region) → region_at w region ≡ a → since m (suc from) new ≤ since m (suc from) w + block_cost m (site_of_owner (InRegion region)) (block_size cells)
      go (Found r) at =
          let e : Found (made_in w region r cells) ≡ Found new = ap (λ (a : Access Region). created_in w region a cells) (sym at) ∙ is in
          let same : made_in w region r cells ≡ new = cc in
          subst (λ (v : World). since m (suc from) v ≤ since m (suc from) w + block_cost m (site_of_owner (InRegion region)) (block_size cells)) same (made_in_since from w region r cells at)
      go Closed at = absurd (let e : Closed ≡ Found new = ap (λ (a : Access Region). created_in w region a cells) (sym at) ∙ is in cc)
      go Missing at = absurd (let e : Missing ≡ Found new = ap (λ (a : Access Region). created_in w region a cells) (sym at) ∙ is in cc)
  created_since from w new (Unique true) cells is =
      let e : Found (made_unique w cells) ≡ Found new = is in
      let same : made_unique w cells ≡ new = cc in
      subst (λ (v : World). since m (suc from) v ≤ since m (suc from) w + block_cost m sites.Unique (block_size cells)) same (omega arith)
  created_since from w new (Unique false) cells is = absurd (let e : Missing ≡ Found new = is in cc)

  since_counts : (from : ℕ) → Counts m (since m (suc from))
  since_counts from = record {
    opened = λ sort w. opened_since (suc from) w.regions sort;
    closed = λ w n r found. closed_since (suc from) n w.regions r (region_found w n r found);
    named = λ w region kind content. omega arith;
    created = λ w new owner cells is. created_since from w new owner cells is;
    freed = λ w n x there owner. omega arith;
    written = λ w object offset at value found. omega arith;
    printed = λ w output. omega arith;
    read = λ w input. omega arith;
  }

  -- appending a newly opened region adds the cost of opening the region
  last_since : (regions : List Region) (sort : Sort) → S (length regions) (regions ++ new_region sort ∷ []) ≡ sort_spent m sort
  last_since [] sort = omega arith
  last_since (r ∷ regions) sort = last_since regions sort

-- ---- open lexical regions

-- says that the index of every open lexical region is at least `from`
abbrev pub IsFrom : (from : ℕ) → List Region → Type 0
IsFrom from regions = ((n : ℕ) → is_open_scope (slice_get regions n) ≡ true → from ≤ n) × (from ≤ length regions)

older : (regions : List Region) (r : Region) (n : ℕ) → (slice_get (regions ++ r ∷ []) n ≡ slice_get regions n) ⊎ (length regions ≤ n)
older [] r n = inr (omega arith)
older (x ∷ regions) r zero = inl refl
older (x ∷ regions) r (suc n) = elim (older regions r n) [
  | inl same ↦ inl same
  | inr less ↦ inr (omega (arith, less))
]

from_opened : (from : ℕ) (regions : List Region) (r : Region) → IsFrom from regions → IsFrom from (regions ++ r ∷ [])
from_opened from regions r h = (
  λ n opens. elim (older regions r n) [
    | inl same ↦ h.0 n (sym (ap is_open_scope same) ∙ opens)
    | inr less ↦ omega (arith, less, h.1)
  ],
  omega (arith, h.1, length-append regions (r ∷ [])),
)

scope_set : (regions : List Region) (k n : ℕ) (r s : Region) → slice_get regions k ≡ Some r → (is_scope s.sort s.is_open ≡ true → is_scope r.sort r.is_open ≡ true) → is_open_scope (slice_get (set regions k s) n) ≡ true
    → is_open_scope (slice_get regions n) ≡ true
scope_set [] k n r s there keep opens = opens
scope_set (x ∷ regions) zero zero r s there keep opens = subst (λ (o : Option Region). is_open_scope o ≡ true) (sym there) (keep opens)
scope_set (x ∷ regions) zero (suc n) r s there keep opens = opens
scope_set (x ∷ regions) (suc k) zero r s there keep opens = opens
scope_set (x ∷ regions) (suc k) (suc n) r s there keep opens = scope_set regions k n r s there keep opens

from_set : (from : ℕ) (regions : List Region) (k : ℕ) (r s : Region) → slice_get regions k ≡ Some r → (is_scope s.sort s.is_open ≡ true → is_scope r.sort r.is_open ≡ true) → IsFrom from regions → IsFrom from (set regions k s)
from_set from regions k r s there keep h = (λ n opens. h.0 n (scope_set regions k n r s there keep opens), omega (arith, h.1, length-set regions k s))

shut : (sort : Sort) → is_scope sort false ≡ true → ⊥
shut Lexical opens = let e : false ≡ true = opens in cc
shut sort opens = let e : false ≡ true = opens in cc

from_changes : (from : ℕ) (w new : World) (printed : List ℕ) (count : ℕ) → Changes w printed count new → IsFrom from w.regions → IsFrom from new.regions
from_changes from w new printed count Keeps h = h
from_changes from w new printed count (Opens sort) h = from_opened from w.regions (new_region sort) h
from_changes from w new printed count (Closes number r found) h = from_set from w.regions number r (record r { is_open = false }) (region_found w number r found) (λ opens. absurd (shut r.sort opens)) h
from_changes from w new printed count (Makes number r kind content found) h = h
from_changes from w new printed count (MakesIn number r cells found) h = from_set from w.regions number r (record r { blocks = r.blocks ++ block_size cells ∷ [] }) (region_found w number r found) (λ opens. opens) h
from_changes from w new printed count (MakesUnique cells) h = h
from_changes from w new printed count (Frees number x there live) h = h
from_changes from w new printed count (Writes object offset at value found) h = h
from_changes from w new printed count (Prints word) h = h
from_changes from w new printed count Reads h = h

abbrev IsFromIn : (from : ℕ) → State → Type 0
IsFromIn from (Running focus stack e w) = IsFrom from w.regions
IsFromIn from (Ended ending output input) = Unit {0}
IsFromIn from (Dead output input) = Unit {0}
IsFromIn from (Wrong output input) = Unit {0}

from_after : (from : ℕ) (w : World) (printed : List ℕ) (count : ℕ) (s : State) → ChangesIn w printed count s → IsFrom from w.regions → IsFromIn from s
from_after from w printed count (Running focus stack e new) change h = from_changes from w new printed count change h
from_after from w printed count (Ended ending output input) change h = tt
from_after from w printed count (Dead output input) change h = tt
from_after from w printed count (Wrong output input) change h = tt

-- ---- states

-- says that a measure (a kind of counted cost) counts the openings, blocks or words of lexical regions that are open at the same time
abbrev pub IsRegional : Measure → Type 0
IsRegional measures.Openings = Unit {0}
IsRegional measures.RegionBlocks = Unit {0}
IsRegional measures.RegionWords = Unit {0}
IsRegional m = ⊥

-- the facts about a measure (a kind of counted cost) that follow from the costs of functions and from the greatest cost of an outermost
-- region
pub record Facts (program : Program) (m : Measure) (costs : List ℕ) (most : ℕ) : Type 0 where
  pub closed : IsClosed program m costs
  pub few : most < too_many
  pub free : step_cost m ≡ 0
  pub no_more : IsNoMore m
  pub rows : (f count : ℕ) → Row program program.main f count → at_once_of m costs (slice_get program.functions f) ≤ most

module _ (program : Program) (lasting : List ℕ) (tables : Measure → List ℕ) (cost : Measure → ℕ) where
  abbrev AreOutside : List Entry → Type 0
  AreOutside stack = (m : Measure) → IsRegional m → AreKept false m (tables m) (cost m) stack

  -- Either no lexical region is open, or there is an index such that all open lexical regions have at least this index. If lexical
  -- regions are open, the newest stack entries are those inside the present outermost region, and all older entries are outside of it.
  -- To the cost used since the opening of the outermost region, the remaining cost of the focus (next action) and of the newest
  -- entries is added. The sum is at most the cost stated for outermost regions.
  pub data Split (focus : Focus) (w : World) : List Entry → Type 0 where
    Outside : (stack : List Entry) → AreOutside stack → Split focus w stack
    Inside : (from : ℕ) (entry : Entry) (rest below : List Entry) → AreOutside below → IsFrom (suc from) w.regions
        → ((m : Measure) → IsRegional m → focus_cost m (tables m) focus + (stack_cost m (tables m) (focus_delivers focus) (entry ∷ rest) + since m (suc from) w) ≤ cost m)
        → Split focus w (entry ∷ (rest ++ below))

  abbrev pub IsSplit : State → Type 0
  IsSplit (Running focus stack e w) = Split focus w stack
  IsSplit (Ended ending output input) = Unit {0}
  IsSplit (Dead output input) = Unit {0}
  IsSplit (Wrong output input) = Unit {0}

  split_under : (from : ℕ) (below : List Entry) (s : State) → AreOutside below → IsFromIn (suc from) s → ((m : Measure) → IsRegional m → TakesAtMost (since m (suc from)) m (tables m) (cost m) s) → IsSplit (under program below s)
  split_under from below (Running focus [] e w) out is h = Outside below out
  split_under from below (Running focus (entry ∷ rest) e w) out is h = Inside from entry rest below out is h
  split_under from below (Ended ending output input) out is h = tt
  split_under from below (Dead output input) out is h = tt
  split_under from below (Wrong output input) out is h = tt

  outside_in : (s : State) → ((m : Measure) → IsRegional m → IsKept false m (tables m) (cost m) s) → IsSplit s
  outside_in (Running focus stack e w) h = Outside stack (λ m is. (h m is).1.0)
  outside_in (Ended ending output input) h = tt
  outside_in (Dead output input) h = tt
  outside_in (Wrong output input) h = tt

  module _ (facts : (m : Measure) → IsRegional m → Facts program m (tables m) (cost m)) where
    step_inside : (from : ℕ) (focus : Focus) (entry : Entry) (rest below : List Entry) (e : Environment) (w : World) → AreOutside below → IsFrom (suc from) w.regions
        → ((m : Measure) → IsRegional m → focus_cost m (tables m) focus + (stack_cost m (tables m) (focus_delivers focus) (entry ∷ rest) + since m (suc from) w) ≤ cost m)
        → IsSplit (stepped program focus (entry ∷ (rest ++ below)) e w)
    step_inside from focus entry rest below e w out is h =
        subst IsSplit (sym (stepping program below focus entry rest e w))
        (split_under from below (stepped program focus (entry ∷ rest) e w) out
        (from_after (suc from) w (printed_by focus) (read_by focus) (stepped program focus (entry ∷ rest) e w) (step_changes program focus (entry ∷ rest) e w) is)
        (λ m regional. go m (facts m regional) (h m regional)))
      where
        go : (m : Measure) → Facts program m (tables m) (cost m) → focus_cost m (tables m) focus + (stack_cost m (tables m) (focus_delivers focus) (entry ∷ rest) + since m (suc from) w) ≤ cost m
            → TakesAtMost (since m (suc from)) m (tables m) (cost m) (stepped program focus (entry ∷ rest) e w)
        go m f less =
            step_costs program m (tables m) f.closed (since m (suc from)) (since_counts m from) (cost m) (omega (arith, f.few, f.free)) (Running focus (entry ∷ rest) e w)
            (always_fits m f.no_more (Running focus (entry ∷ rest) e w)) (omega (arith, less))

    -- if the invariant allows no open lexical region, the stack contains none
    no_lexicals : (m : Measure) (stack : List Entry) → AreKept false m (tables m) (cost m) stack → lexicals_of stack ≡ []
    no_lexicals m [] h = refl
    no_lexicals m (CloseLexical region ∷ stack) h = absurd (let e : false ≡ true = h.0.0 in cc)
    no_lexicals m (entry ∷ stack) h = no_lexicals m stack h.1

    pub none_open : (stack : List Entry) (e : Environment) (w : World) → IsNested stack e w → AreOutside stack → (n : ℕ) → is_open_scope (slice_get w.regions n) ≡ false
    none_open stack e w (open_all, below, is, are) out n = are n ∙ ap (λ (ns : List ℕ). list_any (λ (i : ℕ). i == n) ns) (no_lexicals measures.Openings stack (out measures.Openings tt))

    some_region : (regions : List Region) → AreSorted regions → suc (length regions - 1) ≡ length regions
    some_region [] h = absurd h
    some_region (heap ∷ regions) h = omega arith

    -- opening an outermost region keeps the invariant of nested regions
    opening : (region number : ℕ) (items : Items) (stack : List Entry) (e : Environment) (w : World) → IsNested (Rest (MoreItems (DeclareRegion region number) items) ∷ stack) e w
        → ((m : Measure) → IsRegional m → IsKept false m (tables m) (cost m) (Running Proceeding (Rest (MoreItems (DeclareRegion region number) items) ∷ stack) e w))
        → IsSplit (stepped program Proceeding (Rest (MoreItems (DeclareRegion region number) items) ∷ stack) e w)
    opening region number items stack e w nested kept =
        Inside from (CloseLexical (length w.regions)) [] stack (λ m regional. (kept m regional).1.0.1) is (λ m regional. go m (facts m regional) (kept m regional).1.0.0.1)
      where
        from : ℕ
        from = length w.regions - 1

        next : suc from ≡ length w.regions
        next = some_region w.regions (kept measures.Openings tt).1.1.0

        closed_before : (n : ℕ) → is_open_scope (slice_get w.regions n) ≡ false
        closed_before n = none_open (Rest (MoreItems (DeclareRegion region number) items) ∷ stack) e w nested (λ m regional. (kept m regional).1.0) n

        is : IsFrom (suc from) (opened_as Lexical w).regions
        is = from_opened (suc from) w.regions (new_region Lexical) (λ n opens. absurd (let f : false ≡ true = sym (closed_before n) ∙ opens in cc), omega (arith, next))

        go : (m : Measure) → Facts program m (tables m) (cost m) → items_cost m (tables m) (MoreItems (DeclareRegion region number) items) ≤ cost m
            → 2 * step_cost m + items_cost m (tables m) items + (step_cost m + 0 + since m (suc from) (opened_as Lexical w)) ≤ cost m
        go m f less =
            let same : since m (suc from) (opened_as Lexical w) ≡ since m (length w.regions) (opened_as Lexical w) = ap (λ (n : ℕ). since m n (opened_as Lexical w)) next in
            omega (arith, less, f.free, same, last_since m w.regions Lexical)

    step_outside : (focus : Focus) (stack : List Entry) (e : Environment) (w : World) → IsNested stack e w → CostsAtMost measures.Lasting lasting 0 (Running focus stack e w)
        → ((m : Measure) → IsRegional m → CalleeFits program m (tables m) (cost m) focus) → ((m : Measure) → IsRegional m → IsKept false m (tables m) (cost m) (Running focus stack e w))
        → IsSplit (stepped program focus stack e w)
    step_outside Proceeding (Rest (MoreItems (DeclareRegion region number) items) ∷ stack) e w nested free fits kept = opening region number items stack e w nested kept
    step_outside focus stack e w nested free fits kept =
        outside_in (stepped program focus stack e w) (λ m regional. step_kept program lasting false m (tables m) (cost m) (facts m regional).few (Running focus stack e w) free (fits m regional) (λ opens. absurd opens) (kept m regional))

    step_split : (s : State) → Nests s → CostsAtMost measures.Lasting lasting 0 s → ((m : Measure) → IsRegional m → CalleeFitsIn program m (tables m) (cost m) s)
        → ((m : Measure) → IsRegional m → IsKept true m (tables m) (cost m) s) → IsSplit s → IsSplit (step program s)
    step_split (Running focus stack e w) nested free fits kept (Outside _ out) =
        step_outside focus stack e w nested free fits (λ m regional. ((kept m regional).0, (out m regional, (kept m regional).1.1)))
    step_split (Running focus _ e w) nested free fits kept (Inside from entry rest below out is h) = step_inside from focus entry rest below e w out is h
    step_split (Ended ending output input) nested free fits kept h = tt
    step_split (Dead output input) nested free fits kept h = tt
    step_split (Wrong output input) nested free fits kept h = tt

    -- ---- runs

    callee_fits : (m : Measure) → Facts program m (tables m) (cost m) → (focus : Focus) (stack : List Entry) (e : Environment) (w : World) → IsInSome program (Running focus stack e w) → CalleeFits program m (tables m) (cost m) focus
    callee_fits m f (Calling (callees.Function number) arguments) stack e w (g, (now, h)) =
        let (count, row, less) = row_of program g stack h in
        f.rows number (suc count) (following program program.main g number count row now.0)
    callee_fits m f focus stack e w is = tt

    callee_fits_in : (m : Measure) → Facts program m (tables m) (cost m) → (s : State) → IsInSome program s → CalleeFitsIn program m (tables m) (cost m) s
    callee_fits_in m f (Running focus stack e w) is = callee_fits m f focus stack e w is
    callee_fits_in m f (Ended ending output input) is = tt
    callee_fits_in m f (Dead output input) is = tt
    callee_fits_in m f (Wrong output input) is = tt

    constant_own : (kind : _) (c : Constant) → IsOwnCell (record { kind = kind; content = Some (constant_value c) })
    constant_own kind (Word word) = tt
    constant_own kind typed.Null = tt

    globals_own : (globals : List GlobalVariable) → AreOwnObjects (map global_object globals)
    globals_own [] = tt
    globals_own (g ∷ globals) = ((constant_own (kind_of g.of_type) g.value, tt), globals_own globals)

    start_kept : (opens : Bool) (m : Measure) → Facts program m (tables m) (cost m) → (input : List ℕ) → IsKept opens m (tables m) (cost m) (start program input)
    start_kept opens m f input = go (slice_get program.functions program.main) (f.rows program.main 1 (Alone program.main))
      where
        go : (o : Option Function) → at_once_of m (tables m) o ≤ cost m → IsKept opens m (tables m) (cost m) (called o [] (Main ∷ []) (first_world program input))
        go None less = tt
        go (Some g) less = fits (0 == length g.parameters)
          where
            fits : (b : Bool) → IsKept opens m (tables m) (cost m) (if b then Running (Entering g []) (Main ∷ []) no_locals (first_world program input) else wrong (first_world program input))
            fits true = ((tt, less), (((tt, omega arith), tt), ((refl, (tt, tt)), globals_own program.globals)))
            fits false = tt

    module _ (input : List ℕ) (free : (n : ℕ) → CostsAtMost measures.Lasting lasting 0 (run program input n)) where
      pub run_kept : (m : Measure) → Facts program m (tables m) (cost m) → (n : ℕ) → IsKept true m (tables m) (cost m) (run program input n)
      run_kept m f zero = start_kept true m f input
      run_kept m f (suc n) =
          subst (λ (s : State). IsKept true m (tables m) (cost m) s) (sym (steps-last program n (start program input)))
          (step_kept program lasting true m (tables m) (cost m) f.few (run program input n) (free n) (callee_fits_in m f (run program input n) (run_in program input n)) (may_open (run program input n)) (run_kept m f n))
        where
          may_open : (s : State) → MayOpen true s
          may_open (Running focus stack e w) = λ opens. refl
          may_open (Ended ending output input) = tt
          may_open (Dead output input) = tt
          may_open (Wrong output input) = tt

      pub run_split : (n : ℕ) → IsSplit (run program input n)
      run_split zero = outside_in (start program input) (λ m regional. start_kept false m (facts m regional) input)
      run_split (suc n) =
          subst IsSplit (sym (steps-last program n (start program input)))
          (step_split (run program input n) (nests_run program input n) (free n) (λ m regional. callee_fits_in m (facts m regional) (run program input n) (run_in program input n))
          (λ m regional. run_kept m (facts m regional) n) (run_split n))
