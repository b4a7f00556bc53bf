use Rattle.std.proofs.Common.{◌≡◌, ◌∙◌, ℕ, ◌+◌, ◌-◌, List, length, ap, arith}
use Rattle.cyc_machine_model.specs.declared.constants.TheConstants.{DATA_WORDS}
use Rattle.cyc_machine.specs.Arrays.{all_globals}
use Rattle.cyc_machine.proofs.Widening.{globals-more, next-enough}
use Rattle.cyc_machine.proofs.kept.keep_global_word.Goals as goal

pub returns-clause-words : goal.returns-clause-words
returns-clause-words c =
    let kept : List ℕ = c.args.kept.now.items in
    let next : ℕ = c.kept_next-next.result in
    let long : c.len.result ≡ length kept = omega (arith, c.len.ensures) in
    let (more, wanted, few) = next-enough c.len.result (c.args.number + 1) DATA_WORDS next (omega (arith, long, c.requires.short)) (omega (arith, c.requires.inside)) c.kept_next-next.ensures in
    ap all_globals c.keep_first.ensures.words ∙ globals-more kept (next - length kept) (omega (arith, long, more, few))
