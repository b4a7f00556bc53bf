use Rattle.std.proofs.Common.{rules, ◌≡◌, ◌<◌, ◌≤◌, true, length, sym, subst}
use Rattle.cyc_calls.proofs.FittedValues.{fits_from, fits_past}
use Rattle.cyc_calls.proofs.fitting.fits_regions.Goals as goal

pub loop-i-preserved : goal.loop-i-preserved
loop-i-preserved c new rest =
    let rs = c.args.wanted.now in
    let ss = c.args.regions.now in
    let i = c.loop-i.i in
    let long : length ss ≡ length rs = search rules in
    let fits_one : c.fits_region.result ≡ true = search rules in
    c.loop-i.invariant new
    (fits_from rs ss i _ _ c.loop-i-test.true (subst (λ n. i < n) (sym long) c.loop-i-test.true) (c.fits_region.ensures fits_one) rest)

pub returns : goal.returns
returns c all =
    let rs = c.args.wanted.now in
    let ss = c.args.regions.now in
    let i = c.loop-i.i in
    let long : length ss ≡ length rs = search rules in
    c.loop-i.invariant c.loop-i.table (fits_past c.loop-i.table rs ss i c.loop-i-test.false (subst (λ n. n ≤ i) (sym long) c.loop-i-test.false))
