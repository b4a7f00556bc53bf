use Rattle.std.specs.Prelude.{◌≡◌, ◌+◌, ◌≤◌, length, drop}
use Rattle.cyc_types.specs.TypedTreeView.{arguments_of}
use Rattle.cyc_plain.specs.declared.instruction.Operand.TheVariants as operands
use Rattle.cyc_lower_proof.specs.inside.ValueCode.{all_passed}
use Rattle.cyc_lower.specs.inside.Emission.{most_locals, view_starts}
use Rattle.cyc_lower.proofs.emission.Emitting.{Remains}
use Rattle.cyc_lower.proofs.emission.ExpressionEmitting.{all_arguments, all_printed, all_operations, PrintedLeft}
use Rattle.cyc_lower.proofs.emitter.Emitter.+expression.Given as goal

abbrev pub invariant-lower_arguments-loop-argument : goal.invariant-lower_arguments-loop-argument
invariant-lower_arguments-loop-argument l =
    Remains (all_arguments (view_starts l.starts)) l.fn.self.code.items l.arguments l.fn.first l.argument-index l.self.code.items l.slot
    × (l.slot ≤ most_locals + length l.self.code.items)
    × (l.slot + all_passed (arguments_of (drop l.argument-index l.arguments)) ≡ l.fn.first + all_passed (arguments_of l.arguments))

abbrev pub invariant-print-loop-argument : goal.invariant-print-loop-argument
invariant-print-loop-argument l =
    Remains (all_printed (view_starts l.starts) l.free) l.fn.self.code.items l.arguments (operands.Slot l.free) l.argument-index l.self.code.items l.byte
    × PrintedLeft (view_starts l.starts) l.arguments l.argument-index l.byte l.free
    × (l.free ≤ most_locals + length l.self.code.items)

abbrev pub invariant-lower_operations-loop-operation : goal.invariant-lower_operations-loop-operation
invariant-lower_operations-loop-operation l =
    Remains (all_operations (view_starts l.starts) l.slot l.free) l.fn.self.code.items l.operations l.fn.first l.operation-index l.self.code.items l.left
    × (l.following + l.operation-index ≡ length l.operations)
    × (l.free ≤ most_locals + length l.self.code.items)
