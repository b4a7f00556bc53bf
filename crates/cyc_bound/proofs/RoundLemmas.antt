-- Each round of the computation raises costs of functions. The costs after a round are at most any costs that suffice for all
-- functions. After n rounds, the costs cover at least all calls that are nested at most n deep.
use Rattle.std.proofs.Common.{◌≡◌, ℕ, suc, ◌+◌, ◌<◌, ◌≤◌, max, List, length, get_or, sym, ap, subst, ◌∙◌, inl, inr, arith}
use Rattle.std.proofs.lemmas.Bool.{cases_eq, cases_lt}
use Rattle.std.proofs.lemmas.List.{length-set, get_or-set_same, get_or-set_other, set_past}
use Rattle.cyc_types.specs.TypedTrees.{Program}
use Rattle.cyc_bound.specs.declared.costs.Measure.{Measure}
use Rattle.cyc_bound.specs.Costs.{next_costs, Below, IsClosed, IsRunCost, costs_after, most_rounds, StillGrow}
use Rattle.cyc_bound.specs.inside.Rounds.{raised, AreRaised}
use Rattle.cyc_bound.proofs.MoreLemmas.{next_more}

module _ (program : Program) (m : Measure) where
  abbrev N : List ℕ → ℕ → ℕ
  N costs f = get_or (next_costs program m costs) f 0

  -- ---- one function

  raised_other : (costs : List ℕ) (f g : ℕ) → (g ≡ f → ⊥) → get_or (raised program m costs f) g 0 ≡ get_or costs g 0
  raised_other costs f g other = get_or-set_other costs f g (max (get_or costs f 0) (N costs f)) 0 other

  raised_past : (costs : List ℕ) (f : ℕ) → length costs ≤ f → raised program m costs f ≡ costs
  raised_past costs f past = set_past costs f (max (get_or costs f 0) (N costs f)) past

  raised_here : (costs : List ℕ) (f : ℕ) → f < length costs → get_or (raised program m costs f) f 0 ≡ max (get_or costs f 0) (N costs f)
  raised_here costs f less = get_or-set_same costs f (max (get_or costs f 0) (N costs f)) 0 less

  raised_more : (costs : List ℕ) (f : ℕ) → Below costs (raised program m costs f)
  raised_more costs f g = elim (cases_eq g f) [
    | inl same ↦ elim (cases_lt f (length costs)) [
      | inl less ↦
          let there : get_or (raised program m costs f) g 0 ≡ get_or (raised program m costs f) f 0 = ap (λ (n : ℕ). get_or (raised program m costs f) n 0) same in
          let here : get_or costs g 0 ≡ get_or costs f 0 = ap (λ (n : ℕ). get_or costs n 0) same in
          omega (arith, there, here, raised_here costs f less)
      | inr past ↦ omega (arith, ap (λ (l : List ℕ). get_or l g 0) (raised_past costs f past))
    ]
    | inr other ↦ omega (arith, raised_other costs f g other)
  ]

  raised_least : (costs others : List ℕ) (f : ℕ) → IsClosed program m others → Below costs others → Below (raised program m costs f) others
  raised_least costs others f closed below g = elim (cases_eq g f) [
    | inl same ↦ elim (cases_lt f (length costs)) [
      | inl less ↦
          let there : get_or (raised program m costs f) g 0 ≡ get_or (raised program m costs f) f 0 = ap (λ (n : ℕ). get_or (raised program m costs f) n 0) same in
          let here : get_or others g 0 ≡ get_or others f 0 = ap (λ (n : ℕ). get_or others n 0) same in
          omega (arith, there, here, raised_here costs f less, below f, next_more m costs others below program f, closed f)
      | inr past ↦ omega (arith, ap (λ (l : List ℕ). get_or l g 0) (raised_past costs f past), below g)
    ]
    | inr other ↦ omega (arith, raised_other costs f g other, below g)
  ]

  -- ---- one round

  -- says that a round of the computation has raised the costs of the functions before function i, as `AreRaised` requires
  pub record AreRaisedTo (before : List ℕ) (i : ℕ) (after : List ℕ) : Type 0 where
    pub all : length after ≡ length before
    pub more : Below before after
    pub next : (f : ℕ) → f < i → N before f ≤ get_or after f 0
    pub least : (others : List ℕ) → IsClosed program m others → Below before others → Below after others

  -- raising the cost of any function to the cost of its body keeps the invariant of a round of the computation
  pub to_same : (before : List ℕ) (i : ℕ) (after : List ℕ) (f : ℕ) → AreRaisedTo before i after → AreRaisedTo before i (raised program m after f)
  to_same before i after f h = record {
    all = length-set after f (max (get_or after f 0) (N after f)) ∙ h.all;
    more = λ g. omega (arith, h.more g, raised_more after f g);
    next = λ g less. omega (arith, h.next g less, raised_more after f g);
    least = λ others closed below. raised_least after others f closed (h.least others closed below);
  }

  pub to_next : (before : List ℕ) (i : ℕ) (after : List ℕ) → AreRaisedTo before i after → i < length before → AreRaisedTo before (i + 1) (raised program m after i)
  to_next before i after h less =
      let s = to_same before i after i h in
      record {
        all = s.all;
        more = s.more;
        next = λ g below. elim (cases_lt g i) [
          | inl earlier ↦ s.next g earlier
          | inr there ↦
              let here : g ≡ i = omega (arith, below, there) in
              subst (λ (n : ℕ). N before n ≤ get_or (raised program m after i) n 0) (sym here)
              (omega (arith, raised_here after i (omega (arith, less, h.all)), next_more m before after h.more program i))
        ];
        least = s.least;
      }

  -- ---- all rounds

  pub record AreAfter (rounds : ℕ) (costs : List ℕ) : Type 0 where
    pub all : length costs ≡ length program.functions
    pub least : (others : List ℕ) → IsClosed program m others → Below costs others
    pub more : Below (costs_after program m rounds) costs
    pub grow : 0 < rounds → IsClosed program m (costs_after program m rounds) → ⊥

  pub after_more : (rounds : ℕ) (before after : List ℕ) → AreAfter rounds before → AreRaised program m before after → (IsClosed program m after → ⊥) → AreAfter (rounds + 1) after
  after_more rounds before after h r not_closed = subst (λ (n : ℕ). AreAfter n after) (one_more rounds) (record {
    all = r.all ∙ h.all;
    least = least;
    more = more;
    grow = λ some closed. not_closed (λ f. omega (arith, next_more m after (costs_after program m (suc rounds)) (least (costs_after program m (suc rounds)) closed) program f, closed f, more f));
  })
    where
      one_more : (n : ℕ) → suc n ≡ n + 1
      one_more n = omega arith

      least : (others : List ℕ) → IsClosed program m others → Below after others
      least others closed = r.least others closed (h.least others closed)

      more : Below (costs_after program m (suc rounds)) after
      more f = omega (arith, next_more m (costs_after program m rounds) before h.more program f, r.next f)

  pub after_all : (rounds : ℕ) (costs : List ℕ) → most_rounds ≤ rounds → rounds ≤ most_rounds → AreAfter rounds costs → StillGrow program m
  after_all rounds costs whole within h =
      let same : rounds ≡ most_rounds = omega (arith, whole, within) in
      subst (λ (n : ℕ). IsClosed program m (costs_after program m n) → ⊥) same (h.grow (omega (arith, whole)))

  -- ---- a run

  pub one_cost : (cost other : ℕ) → IsRunCost program m cost → IsRunCost program m other → cost ≡ other
  one_cost cost other (costs, are, is) (others, also, same) = omega (arith, is, same, are.1 others also.0 program.main, also.1 costs are.0 program.main)
