use Rattle.std.proofs.Common.{◌≡◌, true, drop}
use Rattle.std.specs.List.{AllByRecursion}
use Rattle.cyc_plain.specs.declared.instruction.Instruction.{Instruction}
use Rattle.cyc_inline.specs.inside.Opened.{is_of_leaf}
use Rattle.cyc_inline.proofs.leaf.are_of_leaf.Given as goal

-- Invariant: if a leaf function may contain each of the instructions not yet visited, then it may contain each instruction of the function.
abbrev pub invariant-loop-index : goal.invariant-loop-index
invariant-loop-index l =
    AllByRecursion (λ (i : Instruction). is_of_leaf i ≡ true) (drop l.index l.function.code.items)
    → AllByRecursion (λ (i : Instruction). is_of_leaf i ≡ true) l.function.code.items
