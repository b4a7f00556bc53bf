-- No run of a program requests more pages than the program's costs state.
use Rattle.std.proofs.Common.{◌≡◌, ℕ, zero, suc, ◌+◌, ◌-◌, ◌*◌, ◌/◌, ◌<◌, ◌≤◌, max, Bool, true, false, List, [], ◌∷◌, drop, set, length, get_or, Option, Some, None, refl, sym, ap, subst, ◌∙◌, inl, inr, arith}
use Rattle.std.specs.Prelude.{◌==◌, ◌&&◌, nat_le, if◌then◌else◌, slice_get}
use Rattle.std.specs.List.{AllByRecursion}
use Rattle.std.proofs.lemmas.Bool.{cases_eq, le-leb, leb-false, eq-eqb}
use Rattle.std.proofs.lemmas.List.{length-set, get_or-set_same, get_or-set_other}
use Rattle.std.proofs.lemmas.Nat.{le-div}
use Rattle.cyc_words.specs.Demand.{page_words, pages_from, region_pages, greatest_class, blocks_in_page, pages_for, total, demand_of}
use Rattle.cyc_words.specs.Ending.{Full}
use Rattle.cyc_words.proofs.Numbers.{quotient_monotone}
use Rattle.cyc_types.specs.TypedTrees.{Function, Program}
use Rattle.cyc_meaning.specs.Values.{block_size}
use Rattle.cyc_meaning.specs.State.{Sort, Heap, Globals, Stack, Lexical, Dynamic, Region, Owner, InRegion, Unique, Object, World, first_world, first_classes, has_pages, counted, Main}
use Rattle.cyc_meaning.specs.State.{no_locals, Environment, Entry, Focus, Given, Entering, State, HasEnded, GoesOn, Running, Ended, Dead, Wrong, output_of, input_of, demand, depth}
use Rattle.cyc_meaning.specs.Objects.{class_of_cells, is_live_in, live_in}
use Rattle.cyc_meaning.specs.Parts.{wrong}
use Rattle.cyc_meaning.specs.Step.{called, step}
use Rattle.cyc_meaning.specs.Run.{start, run, is_within, limited_steps, limited_run}
use Rattle.cyc_meaning.specs.inside.Effects.{printed_by, read_by, Changes, Keeps, Opens, Closes, Makes, MakesIn, MakesUnique, Frees, Writes, Prints, Reads, ChangesIn}
use Rattle.cyc_meaning.specs.inside.Nesting.{is_scope, is_open_scope, IsNested, Nests}
use Rattle.cyc_meaning.proofs.RunLaws.{step_changes, steps-last, limited_over_stays}
use Rattle.cyc_meaning.proofs.Nested.{nests_run}
use Rattle.cyc_bound.specs.declared.costs.Measure.{Measure}
use Rattle.cyc_bound.specs.declared.costs.Measure.TheVariants as measures
use Rattle.cyc_bound.specs.declared.costs.Site.{Site}
use Rattle.cyc_bound.specs.declared.costs.Site.TheVariants as sites
use Rattle.cyc_bound.specs.Costs.{too_many, step_cost, block_cost, run_cost, IsRunCost}
use Rattle.cyc_bound.specs.AtOnce.{IsAtOnce}
use Rattle.cyc_bound.specs.Pages.{IsForPages, AreCounted, further_pages, unique_pages, most_region_pages, most_pages}
use Rattle.cyc_bound.specs.inside.Remaining.{blocks_spent, sort_spent, regions_spent, object_spent, objects_spent, spent, CostsAtMost}
use Rattle.cyc_bound.specs.inside.Outermost.{IsOwn, focus_own, IsLeft, AreSorted, IsKept}
use Rattle.cyc_bound.proofs.CostLemmas.{IsNoMore, Fits, FitsIn, always_fits}
use Rattle.cyc_bound.proofs.CostWorlds.{spent_unique}
use Rattle.cyc_bound.proofs.CostRuns.{run_costs}
use Rattle.cyc_bound.proofs.OutermostRuns.{since, IsRegional, Facts, Split, Outside, Inside, IsSplit, none_open, run_kept, run_split}

-- ---- regions

-- says that the measure `ones` counts the blocks at an allocation site, and that `sums` counts the words of these blocks
pub record AreBlocks (ones sums : Measure) (site : Site) : Type 0 where
  pub one : (size : ℕ) → block_cost ones site size ≡ 1
  pub all : (size : ℕ) → block_cost sums site size ≡ size

-- says that blocks placed one after the other need at most one page each, and that two consecutive pages contain more
-- words than fit one page
abbrev Grows : (ones sums : Measure) → Site → (pages filled : ℕ) → (sizes : List ℕ) → (after : ℕ) → Type 0
Grows ones sums site pages filled sizes after =
    (after ≤ pages + blocks_spent ones site sizes) × ((suc page_words * after ≤ suc page_words * pages + filled + 2 * blocks_spent sums site sizes) × (pages ≤ after))

pages_grow : (ones sums : Measure) (site : Site) → AreBlocks ones sums site → (pages filled : ℕ) (sizes : List ℕ) → Grows ones sums site pages filled sizes (pages_from pages filled sizes)
pages_grow ones sums site are pages filled [] = (omega arith, (omega arith, omega arith))
pages_grow ones sums site are pages filled (size ∷ sizes) =
    go (nat_le (filled + size) page_words) refl (pages_grow ones sums site are pages (filled + size) sizes) (pages_grow ones sums site are (suc pages) size sizes)
  where
    go : (b : Bool) → nat_le (filled + size) page_words ≡ b → Grows ones sums site pages (filled + size) sizes (pages_from pages (filled + size) sizes)
        → Grows ones sums site (suc pages) size sizes (pages_from (suc pages) size sizes)
        → Grows ones sums site pages filled (size ∷ sizes) (if b then pages_from pages (filled + size) sizes else pages_from (suc pages) size sizes)
    go true is fits past = (omega (arith, fits.0, are.one size), (omega (arith, fits.1.0, are.all size), fits.1.1))
    go false is fits past =
        let more = leb-false (filled + size) page_words is in
        (omega (arith, past.0, are.one size), (omega (arith, past.1.0, more, are.all size), omega (arith, past.1.1)))

-- says that the regions need one page each, plus at most the pages that the blocks counted by `ones` and the words counted by `sums` need
pub record RegionsAsk (ones sums : Measure) (site : Site) (regions : List Region) (pages : ℕ) : Type 0 where
  pub further : ℕ
  pub all : pages ≤ regions_spent measures.Openings site regions + further
  pub by_blocks : further ≤ regions_spent ones site regions
  pub by_words : suc page_words * further ≤ 2 * regions_spent sums site regions

abbrev pages_of : List Region → ℕ
pages_of regions = demand_of (counted regions) []

sort_costs : (sort : Sort) (flag : Bool) → has_pages sort flag ≡ true → sort_spent measures.Openings sort ≡ 1
sort_costs Heap flag has = refl
sort_costs Globals flag has = absurd (let e : false ≡ true = has in cc)
sort_costs Stack flag has = absurd (let e : false ≡ true = has in cc)
sort_costs Lexical flag has = refl
sort_costs Dynamic flag has = refl

more_pages : (ones sums : Measure) (site : Site) → AreBlocks ones sums site → (r : Region) (regions : List Region) → RegionsAsk ones sums sites.Region regions (pages_of regions)
    → RegionsAsk ones sums site (r ∷ regions) (pages_of (r ∷ regions))
more_pages ones sums site are r regions h = go (has_pages r.sort r.is_open) refl
  where
    go : (b : Bool) → has_pages r.sort r.is_open ≡ b → RegionsAsk ones sums site (r ∷ regions) (demand_of (if b then r.blocks ∷ counted regions else counted regions) [])
    go true has =
        let g = pages_grow ones sums site are 1 0 r.blocks in
        let one = sort_costs r.sort r.is_open has in
        record {
          further = region_pages r.blocks - 1 + h.further;
          all = omega (arith, h.all, g.1.1, one);
          by_blocks = omega (arith, h.by_blocks, g.0, g.1.1);
          by_words = omega (arith, h.by_words, g.1.0, g.1.1);
        }
    go false has = record {
      further = h.further;
      all = omega (arith, h.all);
      by_blocks = omega (arith, h.by_blocks);
      by_words = omega (arith, h.by_words);
    }

regions_ask : (ones sums : Measure) (site : Site) → AreBlocks ones sums site → AreBlocks ones sums sites.Region → (regions : List Region) → RegionsAsk ones sums site regions (pages_of regions)
regions_ask ones sums site are others [] = record { further = 0; all = omega arith; by_blocks = omega arith; by_words = omega arith }
regions_ask ones sums site are others (r ∷ regions) = more_pages ones sums site are r regions (regions_ask ones sums sites.Region others others regions)

demand_split : (regions : List (List ℕ)) (classes : List ℕ) → demand_of regions classes ≡ demand_of regions [] + total classes
demand_split [] classes = omega arith
demand_split (sizes ∷ regions) classes = omega (arith, demand_split regions classes)

-- ---- runs that are over

-- a run that ended because the pages or calls exceeded a limit stays ended, whatever its limits
over : (program : Program) (pages more limit count : ℕ) (output input : List ℕ)
    → limited_steps program pages limit count (Ended Full output input) ≡ limited_steps program more limit count (Ended Full output input)
over program pages more limit count output input =
    limited_over_stays program pages limit count (Ended Full output input) (λ going. let e : HasEnded Full ≡ GoesOn = going in cc)
    ∙ sym (limited_over_stays program more limit count (Ended Full output input) (λ going. let e : HasEnded Full ≡ GoesOn = going in cc))

-- says that the regions of a state need at most `most` pages
abbrev RegionsWithin : ℕ → State → Type 0
RegionsWithin most (Running focus stack e w) = pages_of w.regions ≤ most
RegionsWithin most (Ended ending output input) = Unit {0}
RegionsWithin most (Dead output input) = Unit {0}
RegionsWithin most (Wrong output input) = Unit {0}

abbrev spent_in : Measure → State → ℕ
spent_in m (Running focus stack e w) = spent m w
spent_in m (Ended ending output input) = 0
spent_in m (Dead output input) = 0
spent_in m (Wrong output input) = 0

-- ---- classes of unique blocks

live_within : (class : ℕ) (objects : List Object) → live_in class objects ≤ objects_spent (measures.Uniques class) objects
live_within class [] = omega arith
live_within class (x ∷ objects) = go x.owner (live_within class objects)
  where
    counts : (b : Bool) (live : ℕ) (all : ℕ) → live ≤ all → (if b then suc live else live) ≤ (if b then 1 else 0) + all
    counts true live all less = omega (arith, less)
    counts false live all less = omega (arith, less)

    go : (owner : Owner) → live_in class objects ≤ objects_spent (measures.Uniques class) objects
        → (if is_live_in class owner x.cells then suc (live_in class objects) else live_in class objects)
        ≤ object_spent (measures.Uniques class) owner (block_size x.cells) + objects_spent (measures.Uniques class) objects
    go (InRegion region) less = omega (arith, less)
    go (Unique true) less = counts (class_of_cells x.cells == class) (live_in class objects) (objects_spent (measures.Uniques class) objects) less
    go (Unique false) less = omega (arith, less)

module _ (program : Program) (cost : Measure → ℕ) where
  abbrev P : ℕ → ℕ
  P class = pages_for class (cost (measures.Uniques class))

  -- says that each size class has at most the pages that its unique blocks need
  pub record AreFew (classes : List ℕ) : Type 0 where
    pub all : length classes ≡ suc greatest_class
    pub few : (class : ℕ) → class ≤ greatest_class → get_or classes class 0 ≤ P class

  classes_below : (classes : List ℕ) (from : ℕ) → ((i : ℕ) → i < length classes → get_or classes i 0 ≤ P (from + i)) → total classes + unique_pages cost from ≤ unique_pages cost (from + length classes)
  classes_below [] from few = subst (λ (n : ℕ). 0 + unique_pages cost from ≤ unique_pages cost n) (none from) (omega arith)
    where
      none : (n : ℕ) → n ≡ n + 0
      none n = omega arith
  classes_below (pages ∷ classes) from few =
      let rest = classes_below classes (suc from) (λ i less. subst (λ (n : ℕ). get_or classes i 0 ≤ P n) (turned i) (few (suc i) (omega (arith, less)))) in
      let first : pages ≤ P from = subst (λ (n : ℕ). pages ≤ P n) (none from) (few 0 (omega arith)) in
      let same : unique_pages cost (suc from + length classes) ≡ unique_pages cost (from + suc (length classes)) = ap (λ (n : ℕ). unique_pages cost n) (later (length classes)) in
      omega (arith, rest, first, same)
    where
      none : (n : ℕ) → n + 0 ≡ n
      none n = omega arith

      turned : (i : ℕ) → from + suc i ≡ suc from + i
      turned i = omega arith

      later : (n : ℕ) → suc from + n ≡ from + suc n
      later n = omega arith

  total_few : (classes : List ℕ) → AreFew classes → total classes ≤ unique_pages cost (suc greatest_class)
  total_few classes h =
      let below = classes_below classes 0 (λ i less. subst (λ (n : ℕ). get_or classes i 0 ≤ P n) (zero_more i) (h.few i (omega (arith, less, h.all)))) in
      let same : unique_pages cost (0 + length classes) ≡ unique_pages cost (suc greatest_class) = ap (λ (n : ℕ). unique_pages cost n) (zero_less (length classes) ∙ h.all) in
      omega (arith, below, same)
    where
      zero_more : (i : ℕ) → i ≡ 0 + i
      zero_more i = omega arith

      zero_less : (i : ℕ) → 0 + i ≡ i
      zero_less i = omega arith

  -- ---- runs

  pages_more : (class m n : ℕ) → m ≤ n → pages_for class m ≤ pages_for class n
  pages_more class m n less = quotient_monotone (m + (blocks_in_page class - 1)) (n + (blocks_in_page class - 1)) (blocks_in_page class) (omega (arith, less))

  raised_few : (classes : List ℕ) (class value : ℕ) → AreFew classes → (class ≤ greatest_class → value ≤ P class) → AreFew (set classes class (max (get_or classes class 0) value))
  raised_few classes class value h most = record {
    all = length-set classes class (max (get_or classes class 0) value) ∙ h.all;
    few = λ other below. elim (cases_eq other class) [
      | inl same ↦
          let less : class < length classes = omega (arith, below, same, h.all) in
          let there : get_or (set classes class (max (get_or classes class 0) value)) other 0 ≡ max (get_or classes class 0) value =
          ap (λ (n : ℕ). get_or (set classes class (max (get_or classes class 0) value)) n 0) same ∙ get_or-set_same classes class (max (get_or classes class 0) value) 0 less in
          let bound : P other ≡ P class = ap (λ (n : ℕ). P n) same in
          omega (arith, there, bound, h.few class (omega (arith, below, same)), most (omega (arith, below, same)))
      | inr apart ↦
          let there : get_or (set classes class (max (get_or classes class 0) value)) other 0 ≡ get_or classes other 0 = get_or-set_other classes class other (max (get_or classes class 0) value) 0 apart in
          omega (arith, there, h.few other below)
    ];
  }

  abbrev AreSpent : World → Type 0
  AreSpent w = (class : ℕ) → class ≤ greatest_class → spent (measures.Uniques class) w ≤ cost (measures.Uniques class)

  one_block : (b : Bool) → b ≡ true → 1 ≤ (if b then 1 else 0)
  one_block true is = omega arith
  one_block false is = absurd (let e : false ≡ true = is in cc)

  classes_stay : (w new : World) (printed : List ℕ) (count : ℕ) → Changes w printed count new → AreSpent new → AreFew w.classes → AreFew new.classes
  classes_stay w new printed count Keeps spends h = h
  classes_stay w new printed count (Opens sort) spends h = h
  classes_stay w new printed count (Closes number r found) spends h = h
  classes_stay w new printed count (Makes number r kind content found) spends h = h
  classes_stay w new printed count (MakesIn number r cells found) spends h = h
  classes_stay w new printed count (MakesUnique cells) spends h =
      let class = class_of_cells cells in
      raised_few w.classes class (pages_for class (suc (live_in class w.objects))) h (λ below.
      pages_more class (suc (live_in class w.objects)) (cost (measures.Uniques class))
      (omega (arith, spends class below, spent_unique (measures.Uniques class) w cells, live_within class w.objects, one_block (class == class) (eq-eqb class class refl))))
  classes_stay w new printed count (Frees number x there live) spends h = h
  classes_stay w new printed count (Writes object offset at value found) spends h = h
  classes_stay w new printed count (Prints word) spends h = h
  classes_stay w new printed count Reads spends h = h

  abbrev IsFew : State → Type 0
  IsFew (Running focus stack e w) = AreFew w.classes
  IsFew (Ended ending output input) = Unit {0}
  IsFew (Dead output input) = Unit {0}
  IsFew (Wrong output input) = Unit {0}

  abbrev IsSpent : State → Type 0
  IsSpent (Running focus stack e w) = AreSpent w
  IsSpent (Ended ending output input) = Unit {0}
  IsSpent (Dead output input) = Unit {0}
  IsSpent (Wrong output input) = Unit {0}

  -- the resources used by any state of a run are at most the cost of the run
  spent_most : (m : Measure) (most : ℕ) (input : List ℕ) (n : ℕ) → step_cost m ≡ 0 → ((i : ℕ) → FitsIn m (run program input i)) → IsRunCost program m most × (most < too_many) → spent_in m (run program input n) ≤ most
  spent_most m most input n free fits ((costs, are, is), less) =
      within (run program input n) (run_costs program m costs are.0 (omega (arith, is, less)) input free n (λ i below. fits i))
    where
      within : (s : State) → CostsAtMost m costs (run_cost program m costs) s → spent_in m s ≤ most
      within (Running focus stack e w) h = omega (arith, h, is)
      within (Ended ending output input) h = omega arith
      within (Dead output input) h = omega arith
      within (Wrong output input) h = omega arith

  -- says that the costs bound the number of unique blocks of each size class
  abbrev pub UniquesCost : Type 0
  UniquesCost = (class : ℕ) → class ≤ greatest_class → IsRunCost program (measures.Uniques class) (cost (measures.Uniques class)) × (cost (measures.Uniques class) < too_many)

  module _ (are : UniquesCost) (input : List ℕ) where
    uniques_spent : (n class : ℕ) → class ≤ greatest_class → spent_in (measures.Uniques class) (run program input n) ≤ cost (measures.Uniques class)
    uniques_spent n class below =
        spent_most (measures.Uniques class) (cost (measures.Uniques class)) input n refl (λ i. always_fits (measures.Uniques class) ((λ size. omega arith), omega arith) (run program input i)) (are class below)

    are_spent : (s : State) → ((class : ℕ) → class ≤ greatest_class → spent_in (measures.Uniques class) s ≤ cost (measures.Uniques class)) → IsSpent s
    are_spent (Running focus stack e w) h = h
    are_spent (Ended ending output input) h = tt
    are_spent (Dead output input) h = tt
    are_spent (Wrong output input) h = tt

    after : (w : World) (printed : List ℕ) (count : ℕ) (s : State) → ChangesIn w printed count s → IsSpent s → AreFew w.classes → IsFew s
    after w printed count (Running focus stack e new) change spends h = classes_stay w new printed count change spends h
    after w printed count (Ended ending output input) change spends h = tt
    after w printed count (Dead output input) change spends h = tt
    after w printed count (Wrong output input) change spends h = tt

    few_next : (s : State) → IsSpent (step program s) → IsFew s → IsFew (step program s)
    few_next (Running focus stack e w) spends h = after w (printed_by focus) (read_by focus) (step program (Running focus stack e w)) (step_changes program focus stack e w) spends h
    few_next (Ended ending output input) spends h = tt
    few_next (Dead output input) spends h = tt
    few_next (Wrong output input) spends h = tt

    abbrev zeros : ℕ → List ℕ
    zeros zero = []
    zeros (suc n) = 0 ∷ zeros n

    all_zero : (n class : ℕ) → get_or (zeros n) class 0 ≡ 0
    all_zero zero class = refl
    all_zero (suc n) zero = refl
    all_zero (suc n) (suc class) = all_zero n class

    first_few : AreFew first_classes
    first_few = record { all = refl; few = λ class below. subst (λ (n : ℕ). n ≤ P class) (sym (none class)) (omega arith) }
      where
        none : (class : ℕ) → get_or first_classes class 0 ≡ 0
        none class = all_zero (suc greatest_class) class

    few_start : IsFew (start program input)
    few_start = go (slice_get program.functions program.main)
      where
        go : (o : Option Function) → IsFew (called o [] (Main ∷ []) (first_world program input))
        go None = tt
        go (Some f) = fits (0 == length f.parameters)
          where
            fits : (b : Bool) → IsFew (if b then Running (Entering f []) (Main ∷ []) no_locals (first_world program input) else wrong (first_world program input))
            fits true = first_few
            fits false = tt

    few_all : (n : ℕ) → IsFew (run program input n)
    few_all zero = few_start
    few_all (suc n) =
        let last = steps-last program n (start program input) in
        let spends = are_spent (run program input (suc n)) (uniques_spent (suc n)) in
        subst IsFew (sym last) (few_next (run program input n) (subst IsSpent last spends) (few_all n))

    -- the pages that a state requests are at most the pages of its regions plus those of the unique blocks
    within_pages : (s : State) (regions : ℕ) → IsFew s → RegionsWithin regions s → demand s ≤ regions + unique_pages cost (suc greatest_class)
    within_pages (Running focus stack e w) regions h less = omega (arith, demand_split (counted w.regions) w.classes, less, total_few w.classes h)
    within_pages (Ended ending output input) regions h less = omega arith
    within_pages (Dead output input) regions h less = omega arith
    within_pages (Wrong output input) regions h less = omega arith

    pub demand_by : (regions n : ℕ) → RegionsWithin regions (run program input n) → demand (run program input n) ≤ regions + unique_pages cost (suc greatest_class)
    demand_by regions n less = within_pages (run program input n) regions (few_all n) less

-- ---- if nothing is subtracted

sum_blocks : (site : Site) → (site ≡ sites.Unique → ⊥) → AreBlocks measures.Blocks measures.Words site
sum_blocks sites.Heap region = record { one = λ size. refl; all = λ size. refl }
sum_blocks sites.Region region = record { one = λ size. refl; all = λ size. refl }
sum_blocks sites.Unique region = absurd (region refl)

heap_blocks : AreBlocks measures.HeapBlocks measures.HeapWords sites.Heap
heap_blocks = record { one = λ size. refl; all = λ size. refl }

region_blocks : AreBlocks measures.RegionBlocks measures.RegionWords sites.Region
region_blocks = record { one = λ size. refl; all = λ size. refl }

further_within : (further blocks words : ℕ) → further ≤ blocks → suc page_words * further ≤ 2 * words → further ≤ further_pages blocks words
further_within further blocks words by_blocks by_words =
    let less : further ≤ 2 * words / suc page_words = le-div further (2 * words) (suc page_words) (omega arith) (omega (arith, by_words)) in
    omega (arith, by_blocks, less)

-- the bound on the pages besides the first page of each region does not fall when the number of blocks and the number of words grow
further_more : (further blocks words most all : ℕ) → further ≤ blocks → suc page_words * further ≤ 2 * words → blocks ≤ most → words ≤ all → further ≤ further_pages most all
further_more further blocks words most all by_blocks by_words less few = further_within further most all (omega (arith, by_blocks, less)) (omega (arith, by_words, few))

module _ (program : Program) (cost : Measure → ℕ) (input : List ℕ) where
  uniques_of : (gives_back : Bool) → AreCounted program gives_back cost → UniquesCost program cost
  uniques_of true are class below = are.1 (measures.Uniques class) below
  uniques_of false are class below = are.1 (measures.Uniques class) below

  module _ (are : AreCounted program false cost) where
    all_spent : (m : Measure) → IsForPages false m → step_cost m ≡ 0 → IsNoMore m → IsRunCost program m (cost m) × (cost m < too_many) → (n : ℕ) → spent_in m (run program input n) ≤ cost m
    all_spent m there free no_more is n = spent_most program cost m (cost m) input n free (λ i. always_fits m no_more (run program input i)) is

    all_within : (s : State) → spent_in measures.Openings s ≤ cost measures.Openings → spent_in measures.Blocks s ≤ cost measures.Blocks → spent_in measures.Words s ≤ cost measures.Words
        → RegionsWithin (most_region_pages false cost) s
    all_within (Running focus stack e w) openings blocks words =
        let r = regions_ask measures.Blocks measures.Words sites.Heap (sum_blocks sites.Heap (λ is. let e : sites.Heap ≡ sites.Unique = is in cc)) (sum_blocks sites.Region (λ is. let e : sites.Region ≡ sites.Unique = is in cc)) w.regions in
        let further = further_more r.further (regions_spent measures.Blocks sites.Heap w.regions) (regions_spent measures.Words sites.Heap w.regions) (cost measures.Blocks) (cost measures.Words) r.by_blocks r.by_words (omega (arith, blocks)) (omega (arith, words)) in
        omega (arith, r.all, openings, further)
    all_within (Ended ending output input) openings blocks words = tt
    all_within (Dead output input) openings blocks words = tt
    all_within (Wrong output input) openings blocks words = tt

    sum_within : (n : ℕ) → RegionsWithin (most_region_pages false cost) (run program input n)
    sum_within n =
        all_within (run program input n)
        (all_spent measures.Openings tt refl ((λ size. omega arith), omega arith) (are.1 measures.Openings tt) n)
        (all_spent measures.Blocks tt refl ((λ size. omega arith), omega arith) (are.1 measures.Blocks tt) n)
        (all_spent measures.Words tt refl ((λ size. omega arith), omega arith) (are.1 measures.Words tt) n)

  -- ---- lexical regions that free their content

  module _ (are : AreCounted program true cost) where
    abbrev tables : Measure → List ℕ
    tables measures.Openings = (are.1 measures.Openings tt).0.0
    tables measures.RegionBlocks = (are.1 measures.RegionBlocks tt).0.0
    tables measures.RegionWords = (are.1 measures.RegionWords tt).0.0
    tables m = []

    facts_of : (m : Measure) → step_cost m ≡ 0 → IsNoMore m → (h : IsAtOnce program m (cost m)) → cost m < too_many → Facts program m h.0 (cost m)
    facts_of m free no_more (costs, closed, rows, least) few = record {
      closed = closed.0;
      few = few;
      free = free;
      no_more = no_more;
      rows = λ f count row. omega (arith, rows f count row, few);
    }

    facts : (m : Measure) → IsRegional m → Facts program m (tables m) (cost m)
    facts measures.Openings regional = facts_of measures.Openings refl ((λ size. omega arith), omega arith) (are.1 measures.Openings tt).0 (are.1 measures.Openings tt).1
    facts measures.RegionBlocks regional = facts_of measures.RegionBlocks refl ((λ size. omega arith), omega arith) (are.1 measures.RegionBlocks tt).0 (are.1 measures.RegionBlocks tt).1
    facts measures.RegionWords regional = facts_of measures.RegionWords refl ((λ size. omega arith), omega arith) (are.1 measures.RegionWords tt).0 (are.1 measures.RegionWords tt).1
    facts m regional = absurd regional

    abbrev lasting : List ℕ
    lasting = are.0.0

    -- if the cost counted for handles of the heap used as values and for dynamic regions is 0, no run creates such a handle or region
    free : (n : ℕ) → CostsAtMost measures.Lasting lasting 0 (run program input n)
    free n =
        let none : run_cost program measures.Lasting lasting ≡ 0 = sym are.0.2 in
        subst (λ (k : ℕ). CostsAtMost measures.Lasting lasting k (run program input n)) none
        (run_costs program measures.Lasting lasting are.0.1.0 (omega (arith, none)) input refl n (λ i below. always_fits measures.Lasting ((λ size. omega arith), omega arith) (run program input i)))

    kept : (n : ℕ) → IsKept true measures.Openings (tables measures.Openings) (cost measures.Openings) (run program input n)
    kept n = run_kept program lasting tables cost facts input free measures.Openings (facts measures.Openings tt) n

    -- no step of the run passes a handle of the heap to a continuation
    own_fits : (m : Measure) (s : State) → IsKept true measures.Openings (tables measures.Openings) (cost measures.Openings) s → FitsIn m s
    own_fits m (Running focus stack e w) h = go focus h.0.0
      where
        go : (focus : Focus) → focus_own focus → Fits m focus
        go (Given v) own = λ is. absurd (subst IsOwn is own)
        go focus own = tt
    own_fits m (Ended ending output input) h = tt
    own_fits m (Dead output input) h = tt
    own_fits m (Wrong output input) h = tt

    heap_spent : (m : Measure) → step_cost m ≡ 0 → IsRunCost program m (cost m) × (cost m < too_many) → (n : ℕ) → spent_in m (run program input n) ≤ cost m
    heap_spent m free is n = spent_most program cost m (cost m) input n free (λ i. own_fits m (run program input i) (kept i)) is

    -- a region that is neither the heap nor dynamic has pages only while it is an open lexical region
    left_pages : (sort : Sort) (flag : Bool) → IsLeft sort → has_pages sort flag ≡ is_scope sort flag
    left_pages Heap flag left = absurd left
    left_pages Globals flag left = refl
    left_pages Stack flag left = refl
    left_pages Lexical flag left = refl
    left_pages Dynamic flag left = absurd left

    skipped : (from : ℕ) (regions : List Region) → AllByRecursion (λ (r : Region). IsLeft r.sort) regions → ((n : ℕ) → is_open_scope (slice_get regions n) ≡ true → from ≤ n) → pages_of regions ≡ pages_of (drop from regions)
    skipped zero regions left h = refl
    skipped (suc from) [] left h = refl
    skipped (suc from) (r ∷ regions) left h = go (has_pages r.sort r.is_open) refl (skipped from regions left.1 (λ n opens. omega (arith, h (suc n) opens)))
      where
        go : (b : Bool) → has_pages r.sort r.is_open ≡ b → pages_of regions ≡ pages_of (drop from regions)
            → demand_of (if b then r.blocks ∷ counted regions else counted regions) [] ≡ pages_of (drop from regions)
        go true has rest = absurd (omega (arith, h 0 (sym (left_pages r.sort r.is_open left.0) ∙ has)))
        go false has rest = rest

    none_there : (regions : List Region) → AllByRecursion (λ (r : Region). IsLeft r.sort) regions → ((n : ℕ) → is_open_scope (slice_get regions n) ≡ false) → pages_of regions ≡ 0
    none_there [] left h = refl
    none_there (r ∷ regions) left h = go (has_pages r.sort r.is_open) refl (none_there regions left.1 (λ n. h (suc n)))
      where
        go : (b : Bool) → has_pages r.sort r.is_open ≡ b → pages_of regions ≡ 0 → demand_of (if b then r.blocks ∷ counted regions else counted regions) [] ≡ 0
        go true has rest = absurd (let e : true ≡ false = sym has ∙ (left_pages r.sort r.is_open left.0 ∙ h 0) in cc)
        go false has rest = rest

    -- the number of pages of the lexical regions that are open at the same time
    abbrev AtOnce : ℕ
    AtOnce = cost measures.Openings + further_pages (cost measures.RegionBlocks) (cost measures.RegionWords)

    since_within : (from : ℕ) (heap : Region) (regions : List Region) (e : World) → e.regions ≡ heap ∷ regions → AllByRecursion (λ (r : Region). IsLeft r.sort) regions
        → ((n : ℕ) → is_open_scope (slice_get (heap ∷ regions) n) ≡ true → suc from ≤ n) → ((m : Measure) → IsRegional m → since m (suc from) e ≤ cost m) → pages_of regions ≤ AtOnce
    since_within from heap regions w is left h less =
        let r = regions_ask measures.RegionBlocks measures.RegionWords sites.Region region_blocks region_blocks (drop from regions) in
        let at : (m : Measure) → since m (suc from) w ≡ regions_spent m sites.Region (drop from regions) = λ m. ap (λ (rs : List Region). regions_spent m sites.Region (drop (suc from) rs)) is in
        let further = further_more r.further (regions_spent measures.RegionBlocks sites.Region (drop from regions)) (regions_spent measures.RegionWords sites.Region (drop from regions)) (cost measures.RegionBlocks) (cost measures.RegionWords)
        r.by_blocks r.by_words (omega (arith, at measures.RegionBlocks, less measures.RegionBlocks tt)) (omega (arith, at measures.RegionWords, less measures.RegionWords tt)) in
        omega (arith, skipped from regions left (λ n opens. omega (arith, h (suc n) opens)), r.all, at measures.Openings, less measures.Openings tt, further)

    others_within : (focus : Focus) (stack : List Entry) (e : Environment) (w : World) (heap : Region) (regions : List Region) → w.regions ≡ heap ∷ regions → AllByRecursion (λ (r : Region). IsLeft r.sort) regions
        → IsNested stack e w → Split program lasting tables cost focus w stack → pages_of regions ≤ AtOnce
    others_within focus stack e w heap regions is left nested (Outside _ out) =
        let none = none_there regions left (λ n. ap (λ (rs : List Region). is_open_scope (slice_get rs (suc n))) (sym is) ∙ none_open program lasting tables cost facts stack e w nested out (suc n)) in
        omega (arith, none)
    others_within focus _ e w heap regions is left nested (Inside from entry rest below out open_from h) =
        since_within from heap regions w is left (λ n opens. open_from.0 n (ap (λ (rs : List Region). is_open_scope (slice_get rs n)) is ∙ opens)) (λ m regional. omega (arith, h m regional))

    heap_within : (w : World) (heap : Region) (regions : List Region) → w.regions ≡ heap ∷ regions → heap.sort ≡ Heap → spent measures.HeapBlocks w ≤ cost measures.HeapBlocks → spent measures.HeapWords w ≤ cost measures.HeapWords
        → pages_of regions ≤ AtOnce → pages_of w.regions ≤ most_region_pages true cost
    heap_within w heap regions is sort blocks words less =
        let g = pages_grow measures.HeapBlocks measures.HeapWords sites.Heap heap_blocks 1 0 heap.blocks in
        let at : (m : Measure) → regions_spent m sites.Heap w.regions ≡ regions_spent m sites.Heap (heap ∷ regions) = λ m. ap (λ (rs : List Region). regions_spent m sites.Heap rs) is in
        let further = further_more (region_pages heap.blocks - 1) (blocks_spent measures.HeapBlocks sites.Heap heap.blocks) (blocks_spent measures.HeapWords sites.Heap heap.blocks) (cost measures.HeapBlocks) (cost measures.HeapWords)
        (omega (arith, g.0)) (omega (arith, g.1.0, g.1.1)) (omega (arith, blocks, at measures.HeapBlocks)) (omega (arith, words, at measures.HeapWords)) in
        let whole : pages_of w.regions ≡ pages_of (heap ∷ regions) = ap pages_of is in
        let there : pages_of (heap ∷ regions) ≡ region_pages heap.blocks + pages_of regions = ap (λ (s : Sort). demand_of (if has_pages s heap.is_open then heap.blocks ∷ counted regions else counted regions) []) sort in
        omega (arith, whole, there, g.1.1, further, less)

    back_in : (s : State) → Nests s → IsKept true measures.Openings (tables measures.Openings) (cost measures.Openings) s → IsSplit program lasting tables cost s
        → spent_in measures.HeapBlocks s ≤ cost measures.HeapBlocks → spent_in measures.HeapWords s ≤ cost measures.HeapWords → RegionsWithin (most_region_pages true cost) s
    back_in (Running focus stack e w) nested h split blocks words = go w.regions refl h.1.1.0
      where
        go : (rs : List Region) → w.regions ≡ rs → AreSorted rs → pages_of w.regions ≤ most_region_pages true cost
        go [] is sorted = absurd sorted
        go (heap ∷ regions) is sorted = heap_within w heap regions is sorted.0 blocks words (others_within focus stack e w heap regions is sorted.1 nested split)
    back_in (Ended ending output input) nested h split blocks words = tt
    back_in (Dead output input) nested h split blocks words = tt
    back_in (Wrong output input) nested h split blocks words = tt

    back_within : (n : ℕ) → RegionsWithin (most_region_pages true cost) (run program input n)
    back_within n =
        back_in (run program input n) (nests_run program input n) (kept n) (run_split program lasting tables cost facts input free n)
        (heap_spent measures.HeapBlocks refl (are.1 measures.HeapBlocks tt) n) (heap_spent measures.HeapWords refl (are.1 measures.HeapWords tt) n)

  -- ---- both rules

  pub demand_within : (gives_back : Bool) → AreCounted program gives_back cost → (n : ℕ) → demand (run program input n) ≤ most_pages gives_back cost
  demand_within true are n = demand_by program cost (uniques_of true are) input (most_region_pages true cost) n (back_within are n)
  demand_within false are n = demand_by program cost (uniques_of false are) input (most_region_pages false cost) n (sum_within are n)

-- ---- limits

module _ (program : Program) (input : List ℕ) (most : ℕ) (least : (n : ℕ) → demand (run program input n) ≤ most) where
  pub pages_within : (pages limit n : ℕ) → most ≤ pages → is_within pages limit (run program input n) ≡ nat_le (depth (run program input n)) limit
  pages_within pages limit n enough = ap (λ (b : Bool). b && nat_le (depth (run program input n)) limit) (le-leb (demand (run program input n)) pages (omega (arith, least n, enough)))

  -- if two page limits are both at least the bound, a run has the same steps under both limits
  alike : (pages more limit : ℕ) → most ≤ pages → most ≤ more → (count n : ℕ)
      → limited_steps program pages limit count (run program input n) ≡ limited_steps program more limit count (run program input n)
  alike pages more limit enough also zero n = refl
  alike pages more limit enough also (suc count) n =
      let s = run program input n in
      let last = steps-last program n (start program input) in
      let same : is_within pages limit (step program s) ≡ is_within more limit (step program s) =
      ap (λ (u : State). is_within pages limit u) (sym last) ∙ pages_within pages limit (suc n) enough ∙ sym (pages_within more limit (suc n) also) ∙ ap (λ (u : State). is_within more limit u) last in
      ap (λ (b : Bool). limited_steps program pages limit count (if b then step program s else Ended Full (output_of s) (input_of s))) same
      ∙ go (is_within more limit (step program s)) (subst (λ (u : State). limited_steps program pages limit count u ≡ limited_steps program more limit count u) last (alike pages more limit enough also count (suc n)))
    where
      go : (b : Bool) → limited_steps program pages limit count (step program (run program input n)) ≡ limited_steps program more limit count (step program (run program input n))
          → limited_steps program pages limit count (if b then step program (run program input n) else Ended Full (output_of (run program input n)) (input_of (run program input n)))
          ≡ limited_steps program more limit count (if b then step program (run program input n) else Ended Full (output_of (run program input n)) (input_of (run program input n)))
      go true same = same
      go false same = over program pages more limit count (output_of (run program input n)) (input_of (run program input n))

  pub runs_alike : (pages more limit count : ℕ) → most ≤ pages → most ≤ more → limited_run program pages limit input count ≡ limited_run program more limit input count
  runs_alike pages more limit count enough also = alike pages more limit enough also count 0
