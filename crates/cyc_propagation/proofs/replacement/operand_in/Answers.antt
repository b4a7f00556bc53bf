use Rattle.std.proofs.Common.{◌≡◌, sym, subst}
use Rattle.cyc_plain.specs.declared.instruction.Operand.{Operand}
use Rattle.cyc_propagation.specs.inside.Replacement.{simplified_operand}
use Rattle.cyc_propagation.proofs.Keeping.{simplified_word}
use Rattle.cyc_propagation.proofs.replacement.operand_in.Goals as goal

pub returns-in-Word : goal.returns-in-Word
returns-in-Word c =
    subst (λ (o : Operand). o ≡ simplified_operand c.args.facts.now o) (sym c.in-Word.is) (sym (simplified_word c.args.facts.now c.in-Word.word))
