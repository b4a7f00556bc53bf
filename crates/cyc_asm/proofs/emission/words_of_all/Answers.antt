use Rattle.std.proofs.Common.{◌≡◌, ℕ, suc, ◌+◌, List, ◌++◌, ◌∙◌, ap, arith}
use Rattle.cyc_asm.specs.inside.Words.{words_at, words_before}
use Rattle.cyc_asm.proofs.Tables.{length-position_of_each}
use Rattle.cyc_asm.proofs.emission.words_of_all.Goals as goal

pub bounds-positions-lines : goal.bounds-positions-lines
bounds-positions-lines c = let long = length-position_of_each c.args.lines.now c.args.positions.now c.requires.positions in omega (arith, long)

pub loop-number-preserved : goal.loop-number-preserved
loop-number-preserved c =
    let code = c.args.lines.now in
    let next : suc c.loop-number.number ≡ c.loop-number.number + 1 = omega arith in
    c.in_ok-push_line.ensures
    ∙ ap (λ (front : List ℕ). front ++ words_at code c.loop-number.number) c.loop-number.invariant
    ∙ ap (words_before code) next
