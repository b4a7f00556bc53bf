-- This file is about how a step of the upper machine is matched: by no step of the lower machine, by one step, or by two.
use Rattle.std.proofs.Common.{◌≡◌, ◌<◌, List, [], ◌∷◌, refl, sym, subst, arith}
use Rattle.std.specs.Prelude.{Contains}
use Rattle.cyc_words.specs.Seen.{ComesTo}
use Rattle.cyc_words.proofs.SeenLemmas.{ComesTo-refl}
use Rattle.cyc_words.specs.Simulation.{Running, Machine}
use Rattle.cyc_words.specs.inside.Following.{Matching, IsOnTheWay, IsMatchedStep, IsStepped}

module _ (above below : Machine) (m : Matching above below) where
  -- A state of the lower machine is between two matches if it shows what the upper state shows before the step, or after the step.
  pub way_before : (s : above.State) (t : below.State) → below.status t ≡ Running → below.seen t ≡ above.seen s → IsOnTheWay above below s t
  way_before s t running seen = record {
    goes_on = running;
    ahead = subst (ComesTo (above.seen s)) (sym seen) (ComesTo-refl (above.seen s));
    following = (0, s, refl, seen);
  }

  pub way_after : (s next : above.State) (t : below.State) → above.Step s next → ComesTo (above.seen s) (above.seen next) → below.status t ≡ Running → below.seen t ≡ above.seen next → IsOnTheWay above below s t
  way_after s next t step grows running seen = record {
    goes_on = running;
    ahead = subst (ComesTo (above.seen s)) (sym seen) grows;
    following = (1, next, (next, step, refl), seen);
  }

  -- Says that a step of the upper machine was taken, and that its result matches the given state of the lower machine.
  abbrev Matched : above.State → below.State → Type 0
  Matched s t = (next : above.State) × above.Step s next × m.Matches next t

  pub by_none : (s next : above.State) (t : below.State) → above.Step s next → m.Matches next t → m.weight next < m.weight s → IsStepped above below m s t
  by_none s next t step matches lighter = record {
    places = [];
    distinct = tt;
    inside = tt;
    comes = record { next = next; step = step; matches = matches; lighter = λ none. lighter };
  }

  matched_by_some : (s : above.State) (t : below.State) (p : below.Place) (places : List below.Place) → Matched s t → IsMatchedStep above below m s (p ∷ places) t
  matched_by_some s t p places (next, step, matches) = record { next = next; step = step; matches = matches; lighter = λ none. absurd (omega (arith, none)) }

  pub by_one : (s : above.State) (t : below.State) → m.Matches s t → below.status t ≡ Running → Contains (m.own (above.place s)) (below.place t)
      → ((u : below.State) → below.Step t u → Matched s u) → IsStepped above below m s t
  by_one s t matches running inside goes = record {
    places = below.place t ∷ [];
    distinct = (tt, tt);
    inside = (inside, tt);
    comes = (refl, way_before s t running (m.alike s t matches), λ u step. matched_by_some s u (below.place t) [] (goes u step));
  }
