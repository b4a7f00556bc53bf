-- The operation that a comparison for equality performs, which depends on the types of its operands.
use Rattle.cyc_types.specs.TypedTrees as typed
use Rattle.cyc_types.specs.typing.Expressions.{then_pointer}
use Rattle.cyc_typing.specs.declared.comparisons.Comparison.{Comparison}
use Rattle.cyc_typing.specs.declared.comparisons.Comparison.TheVariants as comparison

-- puts a comparison and its right operand before the list of the further operators of the same expression, each with its right operand
abbrev pub then_comparison : Comparison → typed.Expression → typed.Operations → typed.Operations
then_comparison (comparison.OfInts o) = typed.ThenCompute o
then_comparison (comparison.OfPointers k o) = then_pointer k o
