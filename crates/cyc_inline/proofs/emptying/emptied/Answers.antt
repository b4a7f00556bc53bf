use Rattle.std.proofs.Common.{◌≡◌, List, [], ◌∷◌, ◌++◌, ap, ◌∙◌}
use Rattle.cyc_plain.specs.declared.instruction.Instruction.{Instruction}
use Rattle.cyc_plain.specs.inside.Program.{routine_of}
use Rattle.cyc_inline.proofs.emptying.emptied.Goals as goal

pub returns-clause-function : goal.returns-clause-function
returns-clause-function c =
    let alone : c.push.new.self.items ≡ c.args.stub ∷ [] = c.in_ok-push.ensures.items ∙ ap (λ (code : List Instruction). code ++ c.args.stub ∷ []) c.in_ok-code.ensures.items in
    ap (λ (code : List Instruction). record (routine_of c.args.function) { code = code }) alone
