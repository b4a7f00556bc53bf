-- This file proves that an invariant that a machine preserves in every step may be assumed when its states are matched.
use Rattle.std.proofs.Common.{List, [], ◌∷◌}
use Rattle.cyc_words.specs.Simulation.{Machine}
use Rattle.cyc_words.specs.inside.Following.{Matching, Comes, IsOnTheWay, IsMatchedStep, IsStepped}

module _ (above below : Machine) (m : Matching above below) (Keeps : below.State → Type 0)
    (stays : (old new : below.State) → Keeps old → below.Step old new → Keeps new) where
  -- A matching of two machines, of which the lower one executes compiled code, restricted to the lower
  -- machine's states that satisfy the invariant.
  abbrev pub keeping : Matching above below
  keeping = record {
    Matches = λ s t. m.Matches s t × Keeps t;
    weight = m.weight;
    own = m.own;
    alike = λ s t both. m.alike s t both.0;
    endings = λ s t ending both ended. m.endings s t ending both.0 ended;
  }

  comes_keeping : (s : above.State) (all places : List below.Place) (t : below.State) → Keeps t → Comes below (IsOnTheWay above below s) (IsMatchedStep above below m s all) places t
      → Comes below (IsOnTheWay above below s) (IsMatchedStep above below keeping s all) places t
  comes_keeping s all [] t keeps is = record { next = is.next; step = is.step; matches = (is.matches, keeps); lighter = is.lighter }
  comes_keeping s all (p ∷ places) t keeps (stands, way, goes) = (stands, way, λ u stepped. comes_keeping s all places u (stays t u keeps stepped) (goes u stepped))

  pub stepped_keeping : (s : above.State) (t : below.State) → Keeps t → IsStepped above below m s t → IsStepped above below keeping s t
  stepped_keeping s t keeps is = record {
    places = is.places;
    distinct = is.distinct;
    inside = is.inside;
    comes = comes_keeping s is.places is.places t keeps is.comes;
  }

-- A matching of two machines, of which the upper one runs the source of the compilation, restricted to
-- the upper machine's states that satisfy an invariant.
module _ (above below : Machine) (m : Matching above below) (Keeps : above.State → Type 0)
    (stays : (old new : above.State) → Keeps old → above.Step old new → Keeps new) where
  abbrev pub keeping_above : Matching above below
  keeping_above = record {
    Matches = λ s t. m.Matches s t × Keeps s;
    weight = m.weight;
    own = m.own;
    alike = λ s t both. m.alike s t both.0;
    endings = λ s t ending both ended. m.endings s t ending both.0 ended;
  }

  comes_above : (s : above.State) (all places : List below.Place) (t : below.State) → Keeps s → Comes below (IsOnTheWay above below s) (IsMatchedStep above below m s all) places t
      → Comes below (IsOnTheWay above below s) (IsMatchedStep above below keeping_above s all) places t
  comes_above s all [] t keeps is = record { next = is.next; step = is.step; matches = (is.matches, stays s is.next keeps is.step); lighter = is.lighter }
  comes_above s all (p ∷ places) t keeps (stands, way, goes) = (stands, way, λ u stepped. comes_above s all places u keeps (goes u stepped))

  pub stepped_above : (s : above.State) (t : below.State) → Keeps s → IsStepped above below m s t → IsStepped above below keeping_above s t
  stepped_above s t keeps is = record {
    places = is.places;
    distinct = is.distinct;
    inside = is.inside;
    comes = comes_above s is.places is.places t keeps is.comes;
  }
