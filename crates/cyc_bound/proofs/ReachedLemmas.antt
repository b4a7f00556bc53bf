-- The search for the functions reachable from `main`: each function found is reachable, and the callees of each visited function are found.
use Rattle.std.proofs.Common.{◌≡◌, ℕ, suc, ◌+◌, ◌<◌, ◌≤◌, ◌⊎◌, Bool, List, [], ◌∷◌, ◌++◌, length, get_or, sym, ap, subst, ◌∙◌, inl, inr, arith}
use Rattle.std.specs.Prelude.{slice_get, Contains}
use Rattle.std.proofs.lemmas.Bool.{cases_lt}
use Rattle.std.proofs.lemmas.List.{get_or_default, length-append}
use Rattle.std.proofs.lemmas.List.Elements.{Contains-append_left, Contains-push_cases, Contains-get_or}
use Rattle.cyc_words.proofs.Items.{get_or_before}
use Rattle.cyc_types.specs.TypedTrees.{Program}
use Rattle.cyc_bound.specs.Bound.{callees_of, Calls, Row, Alone, Before}
use Rattle.cyc_bound.specs.inside.Reached.{AreMarked, IsNoted, AreLedTo, AreReached}
use Rattle.cyc_bound.proofs.CallLemmas.{following}
use Rattle.cyc_bound.proofs.WalkLemmas.{calls_at}

module _ (program : Program) where
  -- says that the search has visited the functions before index `place` in the list of functions found, and that the list
  -- contains the callees of these functions
  pub record IsWalked (marks : List Bool) (found : List ℕ) (place : ℕ) : Type 0 where
    pub marked : AreMarked marks found
    pub first : Contains found program.main
    pub led : AreLedTo program found
    pub closed : (k : ℕ) → k < place → (callee : ℕ) → Calls program (get_or found k 0) callee → Contains found callee

  kept : (before : List ℕ) (f : ℕ) (marks : List Bool) (after : List ℕ) → IsNoted before f marks after → (g : ℕ) → Contains before g → Contains after g
  kept before f marks after h g is = elim h.alike [
    | inl same ↦ subst (λ (l : List ℕ). Contains l g) (sym same) is
    | inr more ↦ subst (λ (l : List ℕ). Contains l g) (sym more) (Contains-append_left before (f ∷ []) g is)
  ]

  pub same_at : (before : List ℕ) (f : ℕ) (marks : List Bool) (after : List ℕ) → IsNoted before f marks after → (k : ℕ) → k < length before → get_or after k 0 ≡ get_or before k 0
  same_at before f marks after h k less = elim h.alike [
    | inl same ↦ ap (λ (l : List ℕ). get_or l k 0) same
    | inr more ↦ ap (λ (l : List ℕ). get_or l k 0) more ∙ get_or_before before f k less
  ]

  -- adding a function to the functions found adds no other function to them
  new_one : (before : List ℕ) (f : ℕ) (marks : List Bool) (after : List ℕ) → IsNoted before f marks after → (g : ℕ) → Contains after g → Contains before g ⊎ (f ≡ g)
  new_one before f marks after h g is = elim h.alike [
    | inl same ↦ inl (subst (λ (l : List ℕ). Contains l g) same is)
    | inr more ↦ Contains-push_cases before f g (subst (λ (l : List ℕ). Contains l g) more is)
  ]

  pub walk_begins : (marked : List Bool) (found : List ℕ) → IsNoted [] program.main marked found → IsWalked marked found 0
  walk_begins marked found h = record {
    marked = h.marked;
    first = h.there;
    led = λ f is. elim (new_one [] program.main marked found h f is) [
      | inl none ↦ absurd (omega (arith, none.1))
      | inr same ↦ (1, subst (λ (n : ℕ). Row program program.main n 1) same (Alone program.main))
    ];
    closed = λ k less. absurd (omega (arith, less));
  }

  walk_more : (marks marked : List Bool) (found after : List ℕ) (place f : ℕ) → IsWalked marks found place → place ≤ length found → (count : ℕ) × Row program program.main f count
      → IsNoted found f marked after → IsWalked marked after place
  walk_more marks marked found after place f w less (count, row) h = record {
    marked = h.marked;
    first = kept found f marked after h program.main w.first;
    led = λ g is. elim (new_one found f marked after h g is) [
      | inl there ↦ w.led g there
      | inr same ↦ (count, subst (λ (n : ℕ). Row program program.main n count) same row)
    ];
    closed = λ k below callee call.
        let before = subst (λ (n : ℕ). Calls program n callee) (same_at found f marked after h k (omega (arith, below, less))) call in
        kept found f marked after h callee (w.closed k below callee before);
  }

  -- says that the search is visiting a function, and that the list of functions found already contains the
  -- callees before index `i` in the function's list of callees
  pub record IsAtPlace (function : ℕ) (callees : List ℕ) (i : ℕ) (marks : List Bool) (found : List ℕ) (place : ℕ) : Type 0 where
    pub walked : IsWalked marks found place
    pub less : place < length found
    pub here : get_or found place 0 ≡ function
    pub are : callees ≡ callees_of (slice_get program.functions function)
    pub there : (k : ℕ) → k < i → Contains found (get_or callees k 0)

  pub place_next : (function : ℕ) (callees : List ℕ) (i callee : ℕ) (marks marked : List Bool) (found after : List ℕ) (place : ℕ) → IsAtPlace function callees i marks found place
      → i < length callees → callee ≡ get_or callees i callee → IsNoted found callee marked after → IsAtPlace function callees (i + 1) marked after place
  place_next function callees i callee marks marked found after place h less at n =
      let call = calls_at program function callees i callee h.are less at in
      let led = h.walked.led function (subst (λ (g : ℕ). Contains found g) h.here (Contains-get_or found place 0 h.less)) in record {
        walked = walk_more marks marked found after place callee h.walked (omega (arith, h.less)) (suc led.0, following program program.main function callee led.0 led.1 call) n;
        less = longer n.alike;
        here = same_at found callee marked after n place h.less ∙ h.here;
        are = h.are;
        there = λ k below. elim (cases_lt k i) [
          | inl before ↦ kept found callee marked after n (get_or callees k 0) (h.there k before)
          | inr past ↦
              let same : k ≡ i = omega (arith, below, past) in
              subst (λ (g : ℕ). Contains after g) (at ∙ get_or_default callees i callee 0 less ∙ ap (λ (j : ℕ). get_or callees j 0) (sym same)) n.there
        ];
      }
    where
      longer : (after ≡ found) ⊎ (after ≡ found ++ callee ∷ []) → place < length after
      longer (inl same) = omega (arith, h.less, ap (λ (l : List ℕ). length l) same)
      longer (inr more) = omega (arith, h.less, ap (λ (l : List ℕ). length l) more, length-append found (callee ∷ []))

  pub place_ends : (function : ℕ) (callees : List ℕ) (i : ℕ) (marks : List Bool) (found : List ℕ) (place : ℕ) → IsAtPlace function callees i marks found place → length callees ≤ i
      → IsWalked marks found (place + 1)
  place_ends function callees i marks found place h whole = record {
    marked = h.walked.marked;
    first = h.walked.first;
    led = h.walked.led;
    closed = λ k below callee call. elim (cases_lt k place) [
      | inl before ↦ h.walked.closed k before callee call
      | inr past ↦
          let same : k ≡ place = omega (arith, below, past) in
          let of_this = subst (λ (g : ℕ). Calls program g callee) (ap (λ (j : ℕ). get_or found j 0) same ∙ h.here) call in
          let (j, less, at) = subst (λ (l : List ℕ). Contains l callee) (sym h.are) of_this in
          subst (λ (g : ℕ). Contains found g) (get_or_default callees j 0 callee less ∙ at) (h.there j (omega (arith, less, whole)))
    ];
  }

  -- if the search has visited all functions found, the functions found are exactly the reachable ones
  pub walk_ends : (marks : List Bool) (found : List ℕ) (place : ℕ) → IsWalked marks found place → length found ≤ place → AreReached program found
  walk_ends marks found place w whole = (λ f count row. from program.main f count row w.first, w.led)
    where
      from : (f last count : ℕ) → Row program f last count → Contains found f → Contains found last
      from f last count (Alone g) there = there
      from f last count (Before g next l n call row) (k, less, at) =
          from next last n row (w.closed k (omega (arith, less, whole)) next (subst (λ (j : ℕ). Calls program j next) (sym (get_or_default found k 0 g less ∙ at)) call))
