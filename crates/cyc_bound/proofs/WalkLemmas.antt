-- Lemmas for the search over calls: paths and cycles of calls, joined chains of calls, and heights of functions
-- (lengths of their longest chains of calls).
use Rattle.std.proofs.Common.{◌≡◌, ℕ, zero, suc, ◌+◌, ◌<◌, ◌≤◌, max, List, [], ◌∷◌, ◌++◌, length, get_or, set, drop, subst, sym, ap, ◌∙◌, inl, inr, arith}
use Rattle.std.specs.Prelude.{slice_get, Contains}
use Rattle.std.proofs.lemmas.Bool.{cases_eq, cases_lt}
use Rattle.std.proofs.lemmas.List.{get_or-set_same, get_or-set_other, get_or_default, set_past}
use Rattle.cyc_words.proofs.Members.{Contains-read}
use Rattle.cyc_types.specs.TypedTrees.{Program}
use Rattle.cyc_bound.specs.Bound.{callees_of, Calls, Row, Alone, Before, IsAtMost, IsHeight, most_calls, LeadTo, IsCycle}
use Rattle.cyc_bound.specs.inside.Walk.{AreHeights}
use Rattle.cyc_bound.proofs.CallLemmas.{following}

module _ (program : Program) where
  -- ---- paths

  pub lead_more : (path : List ℕ) (f g : ℕ) → LeadTo program path f → Calls program f g → LeadTo program (path ++ f ∷ []) g
  lead_more [] f g h call = call
  lead_more (x ∷ []) f g h call = (h, call)
  lead_more (x ∷ y ∷ path) f g h call = (h.0, lead_more (y ∷ path) f g h.1 call)

  -- a path of calls that returns to one of its functions contains a cycle
  pub cycle_from : (path : List ℕ) (n f count : ℕ) → LeadTo program path f → n < length path → get_or path n 0 ≡ f → Row program program.main f count → IsCycle program (drop n path)
  cycle_from [] n f count h less at row = absurd (omega (arith, less))
  cycle_from (x ∷ path) zero f count h less at row =
      (subst (λ (g : ℕ). LeadTo program (x ∷ path) g) (sym at) h, (count, subst (λ (g : ℕ). Row program program.main g count) (sym at) row))
  cycle_from (x ∷ []) (suc n) f count h less at row = absurd (omega (arith, less))
  cycle_from (x ∷ y ∷ path) (suc n) f count h less at row = cycle_from (y ∷ path) n f count h.1 (omega (arith, less)) at row

  -- ---- chains of calls

  pub row_counts : (f g m n : ℕ) → m ≡ n → Row program f g m → Row program f g n
  row_counts f g m n same row = subst (λ (k : ℕ). Row program f g k) same row

  pub row_after : (first last next count : ℕ) → Row program first last count → Calls program last next → Row program first next (count + 1)
  row_after first last next count row call = row_counts first next (suc count) (count + 1) (omega arith) (following program first last next count row call)

  -- two chains of calls can be joined if the second begins with the last function of the first
  pub rows_joined : (f g l m n : ℕ) → Row program f g m → Row program g l (suc n) → Row program f l (m + n)
  rows_joined f g l m n (Alone h) later = row_counts h l (suc n) (1 + n) (omega arith) later
  rows_joined f g l m n (Before a next b k call row) later =
      row_counts a l (suc (k + n)) (suc k + n) (omega arith) (Before a next l (k + n) call (rows_joined next b l k n row later))

  -- ---- heights of functions

  -- says that `height` is the height of a function (the length of its longest chain of calls) computed from its first i callees
  pub record IsSoFar (f : ℕ) (callees : List ℕ) (i height : ℕ) : Type 0 where
    pub some : 1 ≤ height
    pub few : height ≤ most_calls
    pub row : (last : ℕ) × Row program f last height
    pub above : (k : ℕ) → k < i → (last count : ℕ) → Row program (get_or callees k 0) last count → count < height

  pub so_far_none : (f : ℕ) (callees : List ℕ) → IsSoFar f callees 0 1
  so_far_none f callees = record {
    some = omega arith;
    few = omega arith;
    row = (f, Alone f);
    above = λ k less last count row. absurd (omega (arith, less));
  }

  pub so_far_more : (f : ℕ) (callees : List ℕ) (i height callee count : ℕ) → callees ≡ callees_of (slice_get program.functions f)
      → IsSoFar f callees i height → i < length callees → callee ≡ get_or callees i callee → IsHeight program callee count → count < most_calls
      → IsSoFar f callees (i + 1) (max height (count + 1))
  so_far_more f callees i height callee count are h less at is few = record {
    some = omega (arith, h.some);
    few = omega (arith, h.few, few);
    row = elim (cases_lt height (count + 1)) [
      | inl lower ↦ (is.0.0, row_counts f is.0.0 (suc count) (max height (count + 1)) (omega (arith, lower)) (Before f callee is.0.0 count call is.0.1))
      | inr enough ↦ (h.row.0, row_counts f h.row.0 height (max height (count + 1)) (omega (arith, enough)) h.row.1)
    ];
    above = λ k below last n row. elim (cases_lt k i) [
      | inl before ↦ omega (arith, h.above k before last n row)
      | inr there ↦
          let here : k ≡ i = omega (arith, below, there) in
          let same : get_or callees k 0 ≡ callee = ap (λ (j : ℕ). get_or callees j 0) here ∙ get_or_default callees i 0 callee less ∙ sym at in
          omega (arith, is.1 last n (subst (λ (g : ℕ). Row program g last n) same row))
    ];
  }
    where
      call : Calls program f callee
      call = subst (λ (cs : List ℕ). Contains cs callee) are (Contains-read callees i callee less at)

  pub so_far_all : (f : ℕ) (callees : List ℕ) (i height : ℕ) → callees ≡ callees_of (slice_get program.functions f) → length callees ≤ i → IsSoFar f callees i height → IsHeight program f height
  so_far_all f callees i height are whole h = (h.row, most)
    where
      most : IsAtMost program f height
      most last count (Alone g) = h.some
      most last count (Before a next l n call row) =
          let (k, less, at) = subst (λ (cs : List ℕ). Contains cs next) (sym are) call in
          let same : next ≡ get_or callees k 0 = sym at ∙ get_or_default callees k next 0 less in
          omega (arith, h.above k (omega (arith, less, whole)) l n (subst (λ (g : ℕ). Row program g l n) same row))

  -- storing the height of a function (the length of its longest chain of calls) keeps the table of heights correct
  pub heights_more : (heights : List ℕ) (f height : ℕ) → AreHeights program heights → IsHeight program f height → height ≤ most_calls → AreHeights program (set heights f height)
  heights_more heights f height are is few g above = elim (cases_eq g f) [
    | inl same ↦ elim (cases_lt f (length heights)) [
      | inl less ↦
          let there : height ≡ get_or (set heights f height) g 0 = sym (ap (λ (j : ℕ). get_or (set heights f height) j 0) same ∙ get_or-set_same heights f height 0 less) in
          subst (λ (n : ℕ). IsHeight program g n × (n ≤ most_calls)) there (subst (λ (j : ℕ). IsHeight program j height) (sym same) is, few)
      | inr past ↦ subst (λ (hs : List ℕ). 0 < get_or hs g 0 → IsHeight program g (get_or hs g 0) × (get_or hs g 0 ≤ most_calls)) (sym (set_past heights f height past)) (are g) above
    ]
    | inr other ↦
        let there : get_or heights g 0 ≡ get_or (set heights f height) g 0 = sym (get_or-set_other heights f g height 0 other) in
        subst (λ (n : ℕ). 0 < n → IsHeight program g n × (n ≤ most_calls)) there (are g) above
  ]

  -- if a callee has a chain of calls longer than the limit allows, so does the function that calls it
  pub deep_through : (f : ℕ) (callees : List ℕ) (i callee count before : ℕ) → callees ≡ callees_of (slice_get program.functions f) → i < length callees → callee ≡ get_or callees i callee
      → Row program program.main f before → 1 ≤ before → IsHeight program callee count → most_calls ≤ count → (last n : ℕ) × Row program program.main last n × (most_calls < n)
  deep_through f callees i callee count before are less at row some is many =
      let call = subst (λ (cs : List ℕ). Contains cs callee) are (Contains-read callees i callee less at) in
      (is.0.0, before + count, rows_joined program.main f is.0.0 before count row (Before f callee is.0.0 count call is.0.1), omega (arith, some, many))

  pub calls_at : (f : ℕ) (callees : List ℕ) (i callee : ℕ) → callees ≡ callees_of (slice_get program.functions f) → i < length callees → callee ≡ get_or callees i callee → Calls program f callee
  calls_at f callees i callee are less at = subst (λ (cs : List ℕ). Contains cs callee) are (Contains-read callees i callee less at)

  -- ---- cycles of calls

  round : (f : ℕ) (functions : List ℕ) (g : ℕ) → LeadTo program (f ∷ functions) g → Row program f g (suc (suc (length functions)))
  round f [] g h = Before f g g 1 h (Alone g)
  round f (next ∷ functions) g h = Before f next g (suc (suc (length functions))) h.0 (round next functions g h.1)

  -- chains of calls can go round a cycle any number of times, so they have no greatest length
  grows : (f count : ℕ) (functions : List ℕ) → LeadTo program (f ∷ functions) f → Row program program.main f count → (times : ℕ) → (n : ℕ) × Row program program.main f n × (times ≤ n)
  grows f count functions h row zero = (count, row, omega arith)
  grows f count functions h row (suc times) =
      let (n, so_far, less) = grows f count functions h row times in
      (n + suc (length functions), rows_joined program.main f f n (suc (length functions)) so_far (round f functions f h), omega (arith, less))

  pub no_bound : (functions : List ℕ) (bound : ℕ) → IsCycle program functions → IsAtMost program program.main bound → ⊥
  no_bound [] bound is most = is
  no_bound (f ∷ functions) bound is most =
      let (n, row, less) = grows f is.1.0 functions is.0 is.1.1 (suc bound) in
      omega (arith, less, most f n row)
