-- The check that a fact follows from a list of known facts succeeds for each fact in the list. The check that a fact
-- follows from known facts also accepts the additional fact (such as one from a branch) that is passed with the list.
use Rattle.std.proofs.Common.{◌≡◌, ℕ, zero, suc, true, ◌||◌, List, [], ◌∷◌, Option, Some, None, slice_get, ap, ◌∙◌}
use Rattle.std.proofs.lemmas.Bool.{or_left, or_right}
use Rattle.cyc_propagation.specs.declared.fact.Fact.{Fact}
use Rattle.cyc_propagation.specs.inside.Facts.{is_same_fact, is_known, is_unreached}
use Rattle.cyc_propagation.specs.inside.Table.{is_more, is_known_with, resolved_fact, is_below, follows}

pub found_is_known : (facts : List Fact) (k : ℕ) (other fact : Fact) → slice_get facts k ≡ Some other → is_same_fact other fact ≡ true → is_known facts fact ≡ true
found_is_known [] k other fact at same = absurd (let e : None ≡ Some other = at in cc)
found_is_known (first ∷ facts) zero other fact at same =
    let here : first ≡ other = (let e : Some first ≡ Some other = at in cc) in
    or_left (is_same_fact first fact) (is_known facts fact) (ap (λ (x : Fact). is_same_fact x fact) here ∙ same)
found_is_known (first ∷ facts) (suc k) other fact at same = or_right (is_same_fact first fact) (is_known facts fact) (found_is_known facts k other fact at same)

pub known_follows : (facts : List Fact) (more : Option Fact) (fact : Fact) → is_known facts fact ≡ true → follows facts more fact ≡ true
known_follows facts more fact known =
    or_right (is_unreached facts) (is_known_with facts more fact || (is_known_with facts more (resolved_fact facts fact) || is_below facts fact))
    (or_left (is_known_with facts more fact) (is_known_with facts more (resolved_fact facts fact) || is_below facts fact) (or_left (is_known facts fact) (is_more more fact) known))

pub more_follows : (facts : List Fact) (more : Option Fact) (fact : Fact) → is_more more fact ≡ true → follows facts more fact ≡ true
more_follows facts more fact is =
    or_right (is_unreached facts) (is_known_with facts more fact || (is_known_with facts more (resolved_fact facts fact) || is_below facts fact))
    (or_left (is_known_with facts more fact) (is_known_with facts more (resolved_fact facts fact) || is_below facts fact) (or_right (is_known facts fact) (is_more more fact) is))
