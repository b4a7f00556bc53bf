-- The costs of whole runs: a run ends after at most as many steps as its cost states, and uses at most the resources that its cost states.
use Rattle.std.proofs.Common.{◌≡◌, ℕ, zero, suc, ◌+◌, ◌*◌, ◌-◌, ◌<◌, ◌≤◌, min, Bool, true, false, List, [], ◌∷◌, length, Option, Some, None, refl, sym, subst, arith, suc-mul}
use Rattle.std.specs.Prelude.{◌==◌, if◌then◌else◌, slice_get, map}
use Rattle.cyc_words.proofs.Items.{get_or-map}
use Rattle.cyc_types.specs.TypedTrees.{GlobalVariable, Function, Program}
use Rattle.cyc_meaning.specs.State.{global_object, no_locals, first_world, Main, Entering, State, Running, Ended, Dead, Wrong}
use Rattle.cyc_meaning.specs.Parts.{wrong}
use Rattle.cyc_meaning.specs.Step.{called, step}
use Rattle.cyc_meaning.specs.Run.{start, steps, run}
use Rattle.cyc_meaning.proofs.RunLaws.{steps-add, steps-last}
use Rattle.cyc_bound.specs.declared.costs.Measure.{Measure}
use Rattle.cyc_bound.specs.declared.costs.Measure.TheVariants as measures
use Rattle.cyc_bound.specs.Costs.{too_many, step_cost, opening_cost, function_cost, IsClosed, run_cost, IsRunCost}
use Rattle.cyc_bound.specs.Steps.{IsOver}
use Rattle.cyc_bound.specs.inside.Remaining.{objects_spent, spent, CostsAtMost}
use Rattle.cyc_bound.proofs.CostLemmas.{IsNoMore, FitsIn, always_fits, focus_least}
use Rattle.cyc_bound.proofs.CostWorlds.{all_counts}
use Rattle.cyc_bound.proofs.CostSteps.{step_costs}

module _ (program : Program) (m : Measure) where
  -- at the start of a run, the objects of the globals count as no used resources
  globals_spent : (globals : List GlobalVariable) → objects_spent m (map global_object globals) ≡ 0
  globals_spent [] = refl
  globals_spent (g ∷ globals) = omega (arith, globals_spent globals)

  start_spent : (input : List ℕ) → spent m (first_world program input) ≡ opening_cost m
  start_spent input = omega (arith, globals_spent program.globals)

  module _ (costs : List ℕ) (closed : IsClosed program m costs) (less : run_cost program m costs < too_many) where
    start_called : (input : List ℕ) (o : Option Function) → slice_get program.functions program.main ≡ o
        → CostsAtMost m costs (run_cost program m costs) (called o [] (Main ∷ []) (first_world program input))
    start_called input None there = tt
    start_called input (Some f) there =
        let cost = get_or-map (λ (g : Function). min too_many (function_cost m costs g)) program.functions program.main f there in
        starts (omega (arith, less, cost, closed program.main, start_spent input))
      where
        starts : function_cost m costs f + (step_cost m + 0 + spent m (first_world program input)) ≤ run_cost program m costs
            → CostsAtMost m costs (run_cost program m costs) (called (Some f) [] (Main ∷ []) (first_world program input))
        starts h = go (0 == length f.parameters)
          where
            go : (b : Bool) → CostsAtMost m costs (run_cost program m costs) (if b then Running (Entering f []) (Main ∷ []) no_locals (first_world program input) else wrong (first_world program input))
            go true = h
            go false = tt

    pub start_costs : (input : List ℕ) → CostsAtMost m costs (run_cost program m costs) (start program input)
    start_costs input = start_called input (slice_get program.functions program.main) refl

    -- a run uses at most its cost, by each measure other than steps, provided that each earlier state satisfies `FitsIn`
    pub run_costs : (input : List ℕ) → step_cost m ≡ 0 → (n : ℕ) → ((i : ℕ) → i < n → FitsIn m (run program input i)) → CostsAtMost m costs (run_cost program m costs) (run program input n)
    run_costs input free zero fits = start_costs input
    run_costs input free (suc n) fits =
        let k : ℕ = run_cost program m costs in
        let same : k ≡ k + step_cost m = omega (arith, free) in
        subst (λ (s : State). CostsAtMost m costs k s) (sym (steps-last program n (start program input)))
        (step_costs program m costs closed (spent m) (all_counts m) k (omega (arith, less, free)) (run program input n) (fits n (omega arith))
        (subst (λ (most : ℕ). CostsAtMost m costs most (run program input n)) same (run_costs input free n (λ i below. fits i (omega (arith, below))))))

  -- ---- the number of steps

  pub steps_cost : (costs : List ℕ) → IsClosed program m costs → IsNoMore m → (n k : ℕ) (s : State) → k + n * step_cost m < too_many → CostsAtMost m costs (k + n * step_cost m) s → CostsAtMost m costs k (steps program n s)
  steps_cost costs closed no_more zero k s few h = subst (λ (most : ℕ). CostsAtMost m costs most s) (none k) h
    where
      none : (k : ℕ) → k + 0 * step_cost m ≡ k
      none k = omega arith
  steps_cost costs closed no_more (suc n) k s few h =
      let same : k + suc n * step_cost m ≡ k + n * step_cost m + step_cost m = omega (arith, suc-mul n (step_cost m)) in
      steps_cost costs closed no_more n k (step program s) (omega (arith, few, same))
      (step_costs program m costs closed (spent m) (all_counts m) (k + n * step_cost m) (omega (arith, few, same)) s (always_fits m no_more s) (subst (λ (most : ℕ). CostsAtMost m costs most s) same h))

module _ (program : Program) where
  over_stays : (n : ℕ) (s : State) → IsOver s → IsOver (steps program n s)
  over_stays zero s over = over
  over_stays (suc n) (Running focus stack e w) over = absurd over
  over_stays (suc n) (Ended ending output input) over = over_stays n (Ended ending output input) over
  over_stays (suc n) (Dead output input) over = over_stays n (Dead output input) over
  over_stays (suc n) (Wrong output input) over = over_stays n (Wrong output input) over

  -- a running state costs at least one step, so a state without remaining cost has ended
  spent_all : (costs : List ℕ) (s : State) → CostsAtMost measures.Steps costs 0 s → IsOver s
  spent_all costs (Running focus stack e w) h = absurd (omega (arith, h, focus_least measures.Steps costs focus (omega (arith, h))))
  spent_all costs (Ended ending output input) h = tt
  spent_all costs (Dead output input) h = tt
  spent_all costs (Wrong output input) h = tt

  pub runs_end : (cost : ℕ) (input : List ℕ) (count : ℕ) → IsRunCost program measures.Steps cost → cost < too_many → cost ≤ count → IsOver (run program input count)
  runs_end cost input count (costs, are, is) less enough =
      let closed = are.0 in
      let c : ℕ = run_cost program measures.Steps costs in
      let few : c < too_many = omega (arith, is, less) in
      let same : c ≡ 0 + c * 1 = omega arith in
      let started = subst (λ (most : ℕ). CostsAtMost measures.Steps costs most (start program input)) same (start_costs program measures.Steps costs closed few input) in
      let ended : IsOver (run program input c) = spent_all costs (run program input c) (steps_cost program measures.Steps costs closed ((λ size. omega arith), omega arith) c 0 (start program input) (omega (arith, few)) started) in
      let split : c + (count - c) ≡ count = omega (arith, enough, is) in
      subst (λ (n : ℕ). IsOver (run program input n)) split
      (subst IsOver (sym (steps-add program c (count - c) (start program input))) (over_stays (count - c) (run program input c) ended))
