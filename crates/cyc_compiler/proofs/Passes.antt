-- Each plain program on the way to an image has the source program's meaning: the lowered program, the program with inlined calls,
-- and the simplified program.
use Rattle.std.proofs.Common.{◌≡◌, ◌⊎◌, inl, inr, ℕ, suc, ◌*◌, ◌≤◌, ◌<◌, List, [], ◌∷◌, ◌++◌, length, refl, sym, ap, subst, ◌∙◌, arith}
use Rattle.std.specs.Prelude.{flat_map, map, max, slice_index_or, sum_by}
use Rattle.std.specs.List.{range_with_len}
use Rattle.std.proofs.lemmas.List.Sums.{sum_by-cons}
use Rattle.cyc_words.specs.Simulation.{Machine, NeverFails}
use Rattle.cyc_words.specs.inside.Following.{IsUnderWay, IsOver, Follows}
use Rattle.cyc_words.proofs.Prices.{sum_by-flat_map}
use Rattle.cyc_words.proofs.Simulation.{in_a_row, follows-never_fails}
use Rattle.cyc_words.proofs.Lists.{flat_map-alone}
use Rattle.cyc_store.specs.State.{StoreState}
use Rattle.cyc_syntax.specs.Sums.{sum_of}
use Rattle.cyc_types.specs.TypedTrees.{Function, Program}
use Rattle.cyc_types.specs.Weight.{function_weight, program_weight}
use Rattle.cyc_meaning.specs.FrameCount.{frame_count}
use Rattle.cyc_meaning.specs.Run.{start}
use Rattle.cyc_meaning.specs.Sizes.{size_per_weight}
use Rattle.cyc_meaning.specs.SourceMachine.{source_machine}
use Rattle.cyc_plain.specs.inside.Memory.{IsBelow, slots_end}
use Rattle.cyc_plain.specs.inside.Program.{Routine, Program as PlainProgram, CodePlace, no_routine, places_from, places_of, size}
use Rattle.cyc_plain.specs.inside.Step as plain
use Rattle.cyc_plain.specs.inside.Step.{machine}
use Rattle.cyc_lower_proof.specs.inside.Lowered.{AreLoweredFunctions, FollowsSource, IsLowered}
use Rattle.cyc_inline.specs.inside.Inlined as inlined
use Rattle.cyc_inline.specs.inside.Inlined.{IsInlined}
use Rattle.cyc_propagation.specs.inside.Simplified as simplified
use Rattle.cyc_propagation.specs.inside.Simplified.{IsSimplified}
use Rattle.cyc_compiler.specs.inside.Chain.{IsFunctionOf, AreFunctionsOf, IsProgramOf}
use Rattle.cyc_compiler.proofs.Composition.{source_lawful}

-- ---- the lowering

lowered_functions : (hs : List Function) (rs : List Routine) → AreLoweredFunctions hs rs → AreFunctionsOf hs rs
lowered_functions [] [] are = tt
lowered_functions [] (r ∷ rs) are = absurd are
lowered_functions (h ∷ hs) [] are = absurd are
lowered_functions (h ∷ hs) (r ∷ rs) (is, are) = (record { name = is.name; frame = inl is.frame }, lowered_functions hs rs are)

lowered_small : (hs : List Function) (rs : List Routine) → AreLoweredFunctions hs rs → sum_by size rs ≤ size_per_weight * sum_of function_weight hs
lowered_small [] [] are = omega arith
lowered_small [] (r ∷ rs) are = absurd are
lowered_small (h ∷ hs) [] are = absurd are
lowered_small (h ∷ hs) (r ∷ rs) (is, are) = omega (arith, sum_by-cons size r rs, is.small, lowered_small hs rs are)

pub lowered_is : (p : Program) (lowered : PlainProgram) → IsLowered p lowered → IsProgramOf p lowered
lowered_is p lowered is = record {
  functions = lowered_functions p.functions lowered.functions is.functions;
  globals = is.globals;
  small = omega (arith, lowered_small p.functions lowered.functions is.functions);
  follows = is.follows;
}

-- ---- a pass: its result follows its argument, at places of the same total cost or less

-- Says that a pass over a program makes exactly one function of its output from each function of its input.
abbrev AreMade : (Routine → Routine → Type 0) → List Routine → List Routine → Type 0
AreMade IsLike rs ss = (k : ℕ) → k < length rs → IsLike (slice_index_or rs k no_routine) (slice_index_or ss k no_routine)

module _ (IsLike : Routine → Routine → Type 0) (like_of : (h : Function) (r s : Routine) → IsFunctionOf h r → IsLike r s → IsFunctionOf h s) where
  functions_made : (hs : List Function) (rs ss : List Routine) → length ss ≡ length rs → AreMade IsLike rs ss → AreFunctionsOf hs rs → AreFunctionsOf hs ss
  functions_made [] [] [] long like are = tt
  functions_made [] [] (s ∷ ss) long like are = absurd (omega (arith, long))
  functions_made [] (r ∷ rs) ss long like are = absurd are
  functions_made (h ∷ hs) [] ss long like are = absurd are
  functions_made (h ∷ hs) (r ∷ rs) [] long like are = absurd (omega (arith, long))
  functions_made (h ∷ hs) (r ∷ rs) (s ∷ ss) long like (is, are) =
      (like_of h r s is (like 0 (omega arith)), functions_made hs rs ss (omega (arith, long)) (λ k below. like (suc k) (omega (arith, below))) are)

-- A simulation assigns to each step of the upper (source-level) machine a list of code positions of the lower machine. Each of these
-- lists may be replaced by a list that costs at least as much, no matter how the positions are priced.
module _ (above below : Machine) (before : List below.Place) (own dearer : above.Place → List below.Place) (start : above.State) (from : below.State)
    (more : (price : below.Place → ℕ) (p : above.Place) → sum_by price (own p) ≤ sum_by price (dearer p)) where
  sums_dearer : (price : below.Place → ℕ) (places : List above.Place)
      → sum_by (λ (p : above.Place). sum_by price (own p)) places ≤ sum_by (λ (p : above.Place). sum_by price (dearer p)) places
  sums_dearer price [] = omega arith
  sums_dearer price (p ∷ places) =
      omega (
        arith,
        sum_by-cons (λ (x : above.Place). sum_by price (own x)) p places,
        sum_by-cons (λ (x : above.Place). sum_by price (dearer x)) p places,
        more price p,
        sums_dearer price places,
      )

  way_dearer : (met : List below.Place) (now : below.State) → IsUnderWay above below before own start met now ⊎ IsOver above below start now
      → IsUnderWay above below before dearer start met now ⊎ IsOver above below start now
  way_dearer met now (inl under) = inl (record {
    places = under.places;
    state = under.state;
    path = under.path;
    running = under.running;
    goes_on = under.goes_on;
    ahead = under.ahead;
    following = under.following;
    cost = λ price. omega (arith, under.cost price, sums_dearer price under.places, more price (above.place under.state));
  })
  way_dearer met now (inr over) = inr over

  follows_dearer : Follows above below before own start from → Follows above below before dearer start from
  follows_dearer follows = record { runs = λ met now path. way_dearer met now (follows.runs met now path) }

module _ (p : Program) (given made : PlainProgram) (own : CodePlace → List CodePlace)
    (cheap : (price : CodePlace → ℕ) → sum_by (λ (place : CodePlace). sum_by price (own place)) (places_of given) ≤ sum_by price (places_of made)) where
  followed : (pages calls base : ℕ) (store : StoreState) (input : List ℕ) → FollowsSource p given pages calls base store input
      → (NeverFails (machine given pages calls) (plain.start given base store input) → Follows (machine given pages calls) (machine made pages calls) [] own (plain.start given base store input) (plain.start made base store input))
      → FollowsSource p made pages calls base store input
  followed pages calls base store input follows by never =
      let source : Machine = source_machine p pages calls in
      let middle : Machine = machine given pages calls in
      let first = follows never in
      let second = by (follows-never_fails source middle (source_lawful p pages calls) [] (λ s. places_of given) (start p input) (plain.start given base store input) first) in
      follows_dearer source (machine made pages calls) [] (λ s. flat_map own (places_of given)) (λ s. places_of made) (start p input) (plain.start made base store input)
      (λ price place. omega (arith, sum_by-flat_map price own (places_of given), cheap price))
      (in_a_row source middle (machine made pages calls) [] (λ s. places_of given) [] own
      (start p input) (plain.start given base store input) (plain.start made base store input) first second)

-- ---- inlining

inlined_like : (h : Function) (r s : Routine) → IsFunctionOf h r → inlined.IsLike r s → IsFunctionOf h s
inlined_like h r s is like = record { name = like.name ∙ is.name; frame = framed like.frame is.frame }
  where
    framed : (s.frame_count ≡ r.frame_count) ⊎ ((r.frame_count ≤ 256) × (s.frame_count ≤ 256)) → (r.frame_count ≡ frame_count h) ⊎ ((frame_count h ≤ 256) × (r.frame_count ≤ 256))
        → (s.frame_count ≡ frame_count h) ⊎ ((frame_count h ≤ 256) × (s.frame_count ≤ 256))
    framed (inl same) (inl equal) = inl (same ∙ equal)
    framed (inl same) (inr (few, small)) = inr (few, omega (arith, same, small))
    framed (inr (few, small)) (inl equal) = inr (omega (arith, few, equal), small)
    framed (inr (few, small)) (inr (low, less)) = inr (low, small)

pub inlined_is : (p : Program) (given made : PlainProgram) (room : ℕ) → given.main < length given.functions → IsProgramOf p given → IsInlined given made
    → sum_by size made.functions ≤ max (sum_by size given.functions) room → room ≤ size_per_weight * program_weight p → IsProgramOf p made
inlined_is p given made room main is by small enough = record {
  functions = functions_made inlined.IsLike inlined_like p.functions given.functions made.functions by.as_many by.each is.functions;
  globals = ap length by.globals ∙ is.globals;
  small = omega (arith, small, enough, is.small);
  follows = λ pages calls base store input new some few_pages some_calls bytes below.
      followed p given made by.own by.cheap pages calls base store input
      (is.follows pages calls base store input new some few_pages some_calls bytes (lies_below base below))
      (λ never. by.follows pages calls base store input new some some_calls bytes never);
}
  where
    lies_below : (base : ℕ) → IsBelow made made.main base slots_end → IsBelow given given.main base slots_end
    lies_below base below =
        let lies = subst (λ (k : ℕ). IsBelow made k base slots_end) by.main below in
        record { aligned = lies.aligned; low = lies.low; high = omega (arith, lies.high, (by.each given.main main).slots) }

-- ---- simplification

simplified_like : (h : Function) (r s : Routine) → IsFunctionOf h r → simplified.IsLike r s → IsFunctionOf h s
simplified_like h r s is like = record { name = like.name ∙ is.name; frame = framed is.frame }
  where
    framed : (r.frame_count ≡ frame_count h) ⊎ ((frame_count h ≤ 256) × (r.frame_count ≤ 256)) → (s.frame_count ≡ frame_count h) ⊎ ((frame_count h ≤ 256) × (s.frame_count ≤ 256))
    framed (inl equal) = inl (like.frame_count ∙ equal)
    framed (inr (few, small)) = inr (few, omega (arith, like.frame_count, small))

simplified_small : (rs ss : List Routine) → length ss ≡ length rs → AreMade simplified.IsLike rs ss → sum_by size ss ≤ sum_by size rs
simplified_small [] [] long like = omega arith
simplified_small [] (s ∷ ss) long like = absurd (omega (arith, long))
simplified_small (r ∷ rs) [] long like = absurd (omega (arith, long))
simplified_small (r ∷ rs) (s ∷ ss) long like =
    omega (
      arith,
      sum_by-cons size r rs,
      sum_by-cons size s ss,
      (like 0 (omega arith)).small,
      simplified_small rs ss (omega (arith, long)) (λ k below. like (suc k) (omega (arith, below))),
    )

-- The simplified program has the same code positions as the program before simplification.
simplified_places : (function : ℕ) (rs ss : List Routine) → length ss ≡ length rs → AreMade simplified.IsLike rs ss → places_from function rs ≡ places_from function ss
simplified_places function [] [] long like = refl
simplified_places function [] (s ∷ ss) long like = absurd (omega (arith, long))
simplified_places function (r ∷ rs) [] long like = absurd (omega (arith, long))
simplified_places function (r ∷ rs) (s ∷ ss) long like =
    ap (λ (n : ℕ). places_with n ++ places_from (suc function) rs) (sym (like 0 (omega arith)).as_many)
    ∙ ap (λ (places : List CodePlace). places_with (length s.code) ++ places) (simplified_places (suc function) rs ss (omega (arith, long)) (λ k below. like (suc k) (omega (arith, below))))
  where
    places_with : ℕ → List CodePlace
    places_with n = map (λ (i : ℕ). record { function = function; index = i }) (range_with_len 0 n)

pub simplified_is : (p : Program) (given made : PlainProgram) → given.main < length given.functions → IsProgramOf p given → IsSimplified given made → IsProgramOf p made
simplified_is p given made main is by = record {
  functions = functions_made simplified.IsLike simplified_like p.functions given.functions made.functions by.as_many by.each is.functions;
  globals = ap length by.globals ∙ is.globals;
  small = omega (arith, simplified_small given.functions made.functions by.as_many by.each, is.small);
  follows = λ pages calls base store input new some few_pages some_calls bytes below.
      followed p given made (λ (place : CodePlace). place ∷ []) cheap pages calls base store input
      (is.follows pages calls base store input new some few_pages some_calls bytes (lies_below base below)) (by.follows pages calls base store input);
}
  where
    lies_below : (base : ℕ) → IsBelow made made.main base slots_end → IsBelow given given.main base slots_end
    lies_below base below =
        let lies = subst (λ (k : ℕ). IsBelow made k base slots_end) by.main below in
        record { aligned = lies.aligned; low = lies.low; high = omega (arith, lies.high, (by.each given.main main).slots) }

    cheap : (price : CodePlace → ℕ) → sum_by (λ (place : CodePlace). sum_by price (place ∷ [])) (places_of given) ≤ sum_by price (places_of made)
    cheap price =
        let same = flat_map-alone (places_of given) ∙ simplified_places 0 given.functions made.functions by.as_many by.each in
        omega (arith, sum_by-flat_map price (λ (place : CodePlace). place ∷ []) (places_of given), ap (sum_by price) same)
