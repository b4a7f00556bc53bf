use Rattle.std.proofs.Common.{◌≡◌, ◌∙◌, true, List, length, subst, sym}
use Rattle.std.specs.Prelude.{◌==◌}
use Rattle.cyc_propagation.specs.declared.fact.Fact.{Fact}
use Rattle.cyc_propagation.proofs.Tables.{unaltered_without}
use Rattle.cyc_propagation.proofs.replacement.simplified_instruction.Goals as goal

pub returns-then-is_empty : goal.returns-then-is_empty
returns-then-is_empty c =
    unaltered_without c.args.facts.now c.args.instruction
    (subst (λ (facts : List Fact). (length facts == 0) ≡ true) c.all.ensures (sym c.is_empty.ensures ∙ c.if-is_empty.true))
