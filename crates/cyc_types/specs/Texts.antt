-- Properties of typed programs that come from source texts, beyond the requirements of the typing rules. A struct has few fields,
-- because the lists of a source text are short. The number that identifies an exception fits a 32-bit word, because a source text has
-- few tokens. An operator chain with pointer arithmetic contains no comparison, because `+` and `-` bind more tightly than comparisons.
-- These properties are this project's own choice.
use Rattle.std.specs.Prelude.{◌≡◌, ◌≤◌, Bool, true, false, not, ◌&&◌}
use Rattle.cyc_words.specs.Word.{IsWord}
use Rattle.cyc_syntax.specs.Grammar.{max_items}
use Rattle.cyc_types.specs.declared.typed.PointerOperator.{PointerOperator}
use Rattle.cyc_types.specs.declared.typed.PointerOperator.TheVariants as pointers
use Rattle.cyc_types.specs.TypedTrees.{Operations, NoOperations, ThenPointer, ThenPointerPeek, Program}
use Rattle.cyc_types.specs.Numbered.{argument_count}
use Rattle.cyc_types.specs.Demands.{Demands, FunctionsMeet}

-- ---- chains of operators

-- returns true if an operator compares a pointer with another pointer or with `NULL`
abbrev pub is_comparison : PointerOperator → Bool
is_comparison pointers.AddFat = false
is_comparison pointers.SubtractFat = false
is_comparison o = true

-- returns true if all operators of an operator chain are pointer arithmetic
abbrev pub are_sums : Operations → Bool
are_sums NoOperations = true
are_sums (ThenPointer o a os) = not (is_comparison o) && are_sums os
are_sums (ThenPointerPeek n o a os) = not (is_comparison o) && are_sums os
are_sums os = false

-- returns true unless the first operator is pointer arithmetic and one of the operators after it is not
abbrev pub stands_alone : PointerOperator → Operations → Bool
stands_alone pointers.AddFat os = are_sums os
stands_alone pointers.SubtractFat os = are_sums os
stands_alone o os = true

-- ---- programs

-- the requirements that typed programs of source texts satisfy; for instance, a struct has from 1 to 64 fields
abbrev pub text_demands : Demands
text_demands = record {
  number = λ n. Unit {0};
  fields = λ cs. (1 ≤ argument_count cs) × (argument_count cs ≤ max_items);
  pointer = λ o os. stands_alone o os ≡ true;
  exception = IsWord;
}

abbrev pub IsOfTextProgram : Program → Type 0
IsOfTextProgram p = FunctionsMeet text_demands p.functions
