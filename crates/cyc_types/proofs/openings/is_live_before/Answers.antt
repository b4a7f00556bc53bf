use Rattle.std.proofs.Common.{◌≡◌, ℕ, ◌<◌, ◌≤◌, false, sym, ◌∙◌, arith}
use Rattle.cyc_types.specs.Types.{region_eq, is_region_among}
use Rattle.cyc_types.specs.inside.Openings.{scope_at}
use Rattle.cyc_types.proofs.RegionLemmas.{derived-region_eq}
use Rattle.cyc_types.proofs.OpeningLemmas.{live-missed, live-tested}
use Rattle.cyc_types.proofs.openings.is_live_before.Goals as goal

pub returns-then-place-count : goal.returns-then-place-count
returns-then-place-count c =
    let e : c.eq.result ≡ region_eq (scope_at c.args.scopes.now c.opening_of-place.result).region c.args.region =
    c.eq.ensures ∙ derived-region_eq (scope_at c.args.scopes.now c.opening_of-place.result).region c.args.region in
    let not_live : is_region_among c.args.region c.args.live.now ≡ false = sym c.has.ensures ∙ c.if-has.false in
    (rw c.opening_of-place.ensures at e)
    ∙ live-tested c.requires.0 c.args.live.now c.args.openings.now c.args.scopes.now c.requires.1 c.requires.3 c.args.count c.args.region c.requires.2
    not_live (rw c.opening_of-place.ensures at c.if-place-count.true)

pub returns : goal.returns
returns c =
    let not_live : is_region_among c.args.region c.args.live.now ≡ false = sym c.has.ensures ∙ c.if-has.false in
    sym (live-missed c.requires.0 c.args.live.now c.args.openings.now c.args.scopes.now c.requires.1 c.requires.3 c.args.count c.args.region c.requires.2
    not_live (λ lt. absurd (out (rw c.opening_of-place.ensures at c.if-place-count.false) lt)))
  where
    out : {m n : ℕ} → m ≤ n → n < m → ⊥
    out ge lt = omega (arith, ge, lt)
