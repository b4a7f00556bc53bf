use Rattle.std.proofs.Common.{◌≡◌, ℕ, ◌∙◌, ap, arith}
use Rattle.std.specs.Prelude.{length}
use Rattle.cyc_plain.specs.inside.Program.{routine_of}
use Rattle.cyc_propagation.specs.inside.Replacement.{put_at}
use Rattle.cyc_propagation.proofs.Narrowed.{walked_narrowed}
use Rattle.cyc_propagation.proofs.Walks.{none_walked, stepped}
use Rattle.cyc_propagation.proofs.walk.walked.Goals as goal

pub loop-index-init : goal.loop-index-init
loop-index-init c = grind (arith, none_walked)

pub loop-index-preserved : goal.loop-index-preserved
loop-index-preserved c =
    let a = c.args in
    let old = c.loop-index in
    let i = c.instruction_at-given.result in
    let entries = c.pass_on.new.entries.items in
    let long : c.len-in-loop-index.result ≡ length (routine_of a.function.now).code = omega (arith, c.len-in-loop-index.ensures, a.function.now.code.ok.0) in (
      stepped a.plain.now (routine_of a.function.now) a.pinned.now entries old.index old.code.items old.facts c.pass_on.new.facts
          i (walked_narrowed a.plain.now (routine_of a.function.now) a.pinned.now old.entries.items entries old.index old.code.items old.facts (c.in_ok-pass_on.ensures.narrowed c.if-not-branch.false) old.invariant.0)
          c.instruction_at-given.ensures c.put_at-instruction.result c.push_reserved.new.self.items
          (c.put_at-instruction.ensures ∙ ap (λ (count : ℕ). put_at old.facts old.index count i) long)
          c.push_reserved.ensures.items
          (c.in_ok-pass_on.ensures.checked c.if-not-branch.false) (c.in_ok-pass_on.ensures.facts c.if-not-branch.false),
      omega (arith, c.push_reserved.ensures.len, old.invariant.1),
      omega (arith, c.push_reserved.ensures.capacity, old.invariant.2),
    )
