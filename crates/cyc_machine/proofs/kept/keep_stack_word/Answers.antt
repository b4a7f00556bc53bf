use Rattle.std.proofs.Common.{◌≡◌, ◌∙◌, ℕ, ◌-◌, List, length, ap, arith}
use Rattle.cyc_machine.specs.Arrays.{all_stack}
use Rattle.cyc_machine.proofs.Widening.{next-enough, stack-more}
use Rattle.cyc_machine.proofs.kept.keep_stack_word.Goals as goal

pub returns-clause-words : goal.returns-clause-words
returns-clause-words c =
    let kept : List ℕ = c.args.kept.now.items in
    let count : ℕ = c.args.count in
    let next : ℕ = c.kept_next-next.result in
    let long : c.len.result ≡ length kept = omega (arith, c.len.ensures) in
    let (more, wanted, few) = next-enough c.len.result (count - c.args.number) count next (omega (arith, long, c.requires.short)) (omega arith) c.kept_next-next.ensures in
    ap (all_stack count) c.keep_last.ensures.words ∙ stack-more count kept (next - length kept) (omega (arith, long, more, few))
