use Rattle.std.proofs.Common.{ℕ, ◌+◌, sym, subst, arith}
use Rattle.std.proofs.lemmas.Option.{slice_get-get_or}
use Rattle.cyc_propagation.specs.inside.Tail.{IsLastOf}
use Rattle.cyc_propagation.proofs.Tails.{no_last, next_last, last_found, last_of_all}
use Rattle.cyc_propagation.proofs.tail.last_place.Goals as goal

pub loop-index-init : goal.loop-index-init
loop-index-init c = no_last c.args.code.now

pub loop-index-preserved : goal.loop-index-preserved
loop-index-preserved c =
    let at = slice_get-get_or c.args.code.now c.loop-index.index _ c.loop-index-test.true in
    subst (λ (last : ℕ). IsLastOf c.args.code.now (c.loop-index.index + 1) last) (sym c.last_after-last.ensures)
    (next_last c.args.code.now c.loop-index.index c.loop-index.last _ at c.loop-index.invariant)

pub returns-then-index-last : goal.returns-then-index-last
returns-then-index-last c =
    last_found c.args.code.now c.loop-index.index c.loop-index.last c.loop-index.invariant c.if-index-last.true

pub returns : goal.returns
returns c = last_of_all c.args.code.now c.loop-index.index c.loop-index.last c.loop-index.invariant (omega (arith, c.loop-index-test.false))
