use Rattle.std.proofs.Common.{◌≡◌, ◌∙◌, ℕ, ◌-◌, List, length, set, ap, arith}
use Rattle.cyc_machine.specs.Arrays.{all_stack}
use Rattle.cyc_machine.proofs.Widening.{next-enough, stack-written}
use Rattle.cyc_machine.proofs.kept.set_stack_word.Goals as goal

pub returns-clause-words : goal.returns-clause-words
returns-clause-words c =
    let kept : List ℕ = c.args.kept.now.items in
    let count : ℕ = c.args.count in
    let next : ℕ = c.kept_next-next.result in
    let long : c.len.result ≡ length kept = omega (arith, c.len.ensures) in
    let (more, wanted, few) = next-enough c.len.result (count - c.args.number) count next (omega (arith, long, c.requires.short)) (omega arith) c.kept_next-next.ensures in
    ap (λ (items : List ℕ). all_stack count (set items (next - (count - c.args.number)) c.args.word)) c.keep_last.ensures.words
    ∙ stack-written count kept next c.args.number c.args.word (omega (arith, long, more)) few c.requires.inside wanted
