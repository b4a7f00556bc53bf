-- The start of a run, and its report.
use Rattle.std.proofs.Common.{◌≡◌, ◌≢◌, Option, None, Some, ℕ, ◌<◌, ◌≤◌, List, [], ◌∷◌, ◌++◌, map, length, get_or, replicate, refl, ap, sym, ◌∙◌}
use Rattle.std.proofs.lemmas.List.{get_or-replicate}
use Rattle.std.specs.Io.KnownBytes.{Consumes, Keeps, IsAtEnd}
use Rattle.cyc_words.specs.Demand.{demand_of}
use Rattle.cyc_types.specs.TypedTrees.{GlobalVariable, Program}
use Rattle.cyc_meaning.specs.State.{GoesOn, IsDead, IsWrong, Heap, Globals, Region, new_region, counted, global_object, State, demand, depth, status_of, output_of, input_of}
use Rattle.cyc_meaning.specs.Objects.{live_in}
use Rattle.cyc_meaning.specs.Run.{start, limited_steps, limited_run}
use Rattle.cyc_meaning.proofs.RunLaws.{limited_comes_to}
use Rattle.cyc_soundness.specs.Sound.{IsSound}
use Rattle.cyc_interpret.specs.declared.objects.Region.{Region as RegionCode}
use Rattle.cyc_interpret.specs.declared.objects.Object.{Object as ObjectCode}
use Rattle.cyc_interpret.specs.declared.entry.Over.TheVariants as over
use Rattle.cyc_interpret.specs.declared.run.Report.{Report}
use Rattle.cyc_interpret.specs.WorldView.{view_region, view_object}
use Rattle.cyc_interpret.specs.Run.{status_by, peak_of}
use Rattle.cyc_interpret.specs.Reported.{Leaves, RunsOn, EndsWell}

-- the heap has a page from the start
pub first_pages : (regions : List RegionCode) (a b : RegionCode) → regions ≡ ([] ++ a ∷ []) ++ b ∷ [] → view_region a ≡ new_region Heap → view_region b ≡ new_region Globals
    → demand_of (counted (map view_region regions)) (replicate 11 0) ≡ 1
first_pages regions a b is heap globals =
    ap (λ (rs : List RegionCode). demand_of (counted (map view_region rs)) (replicate 11 0)) is
    ∙ (ap (λ (r : Region). demand_of (counted (r ∷ view_region b ∷ [])) (replicate 11 0)) heap
    ∙ ap (λ (r : Region). demand_of (counted (new_region Heap ∷ r ∷ [])) (replicate 11 0)) globals)

-- no global is a unique object
no_unique_global : (class : ℕ) (gs : List GlobalVariable) → live_in class (map global_object gs) ≡ 0
no_unique_global class [] = refl
no_unique_global class (g ∷ gs) = no_unique_global class gs

pub first_counts : (objects : List ObjectCode) (gs : List GlobalVariable) → map view_object objects ≡ map global_object gs → (class : ℕ) → class < 11 → live_in class (map view_object objects) ≡ get_or (replicate 11 0) class 0
first_counts objects gs is class less = ap (live_in class) is ∙ (no_unique_global class gs ∙ sym (get_or-replicate 11 class 0 0 less))

-- what a report says of the state that a run came to
module _ (p : Program) (pages calls budget : ℕ) (input output : List ℕ) (report : Report) (s t : State) where
  pub reported : s ≡ start p input → t ≡ limited_steps p pages calls report.steps s → output_of t ≡ output → length (input_of t) ≡ report.left → status_of t ≡ status_by report.end
      → ((n : ℕ) → n < report.steps → status_of (limited_steps p pages calls n s) ≡ GoesOn) → report.steps ≤ budget → (status_of t ≡ GoesOn → report.steps ≡ budget)
      → report.pages ≡ peak_of (λ (n : ℕ). demand (limited_steps p pages calls n s)) report.steps → report.calls ≡ peak_of (λ (n : ℕ). depth (limited_steps p pages calls n s)) report.steps → RunsOn p pages calls budget input output report
  reported begins ends printed left ending before few spent demanded called =
      let is : limited_run p pages calls input report.steps ≡ t = sym (ends ∙ ap (limited_steps p pages calls report.steps) begins) in record {
        printed = ap output_of is ∙ printed;
        left = ap (λ (x : State). length (input_of x)) is ∙ left;
        ending = ap status_of is ∙ ending;
        before = λ n less. ap (λ (x : State). status_of (limited_steps p pages calls n x)) (sym begins) ∙ before n less;
        few = few;
        spent = λ none. spent (ending ∙ ap status_by none);
        demanded = demanded ∙ ap (λ (x : State). peak_of (λ (n : ℕ). demand (limited_steps p pages calls n x)) report.steps) begins;
        called = called ∙ ap (λ (x : State). peak_of (λ (n : ℕ). depth (limited_steps p pages calls n x)) report.steps) begins;
      }

-- the run of a program that never fails ends well, with limits too
module _ (p : Program) (pages calls budget : ℕ) (input output : List ℕ) (report : Report) (runs : RunsOn p pages calls budget input output report) (never : IsSound p) where
  not_dead : report.end ≢ Some over.Dead
  not_dead is = (never input report.steps).0 (limited_comes_to p pages calls report.steps (start p input) IsDead (λ no. cc) (runs.ending ∙ ap status_by is))

  not_wrong : report.end ≢ Some over.Wrong
  not_wrong is = (never input report.steps).1 (limited_comes_to p pages calls report.steps (start p input) IsWrong (λ no. cc) (runs.ending ∙ ap status_by is))

  pub ends_well : EndsWell report.end
  ends_well = (not_dead, not_wrong)

-- a reader that has told its end leaves nothing
pub end_seen : (a b c : Option (List ℕ)) (xs : List ℕ) → Consumes a b xs → IsAtEnd b → Keeps b c → Leaves a c []
end_seen None b c xs h e k = tt
end_seen (Some reported) None c xs h e k = absurd h
end_seen (Some reported) (Some left) None xs h e k = absurd k
end_seen (Some reported) (Some left) (Some more) xs h e k = k ∙ e
