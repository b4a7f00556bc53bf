-- This file defines the frame words that each single element of a list needs; `cyc_meaning` defines only the frame words
-- that whole lists need. The file also defines the upper bound on counts of frame words.
use Rattle.std.specs.Prelude.{ℕ, ◌+◌, ◌^◌, max, option_map}
use Rattle.cyc_types.specs.declared.typed.Operation.{Operation}
use Rattle.cyc_types.specs.declared.typed.Operation.TheVariants as operation
use Rattle.cyc_types.specs.declared.typed.Item.{Item}
use Rattle.cyc_types.specs.declared.typed.Item.TheVariants as item
use Rattle.cyc_types.specs.Types.{Ty, words_of}
use Rattle.cyc_types.specs.TypedTrees.{Arguments, type_of}
use Rattle.cyc_types.specs.TypedTreeView.{view_expression, view_converted, view_statement}
use Rattle.cyc_meaning.specs.FrameCount.{operand_words, argument_words, arguments_need, expression_need, initial_need, statement_need, kept_by}

-- The largest frame count (number of words of a stack frame) of a function in a program short enough to be read by the compiler.
abbrev pub most_frame_count : ℕ
most_frame_count = 2 ^ 32

-- The number of frame words that operands need, if `before` words of the frame are occupied before them and their result has `own` words.
abbrev pub operands_need : Arguments → (before own : ℕ) → ℕ
operands_need cs before own = max (before + argument_words cs + own) (arguments_need cs before)

-- The frame words that one operator, with its right operand, needs in a chain of binary operators of this type, if the left
-- operand has `left` words.
abbrev pub operation_need : Operation → Ty → (left : ℕ) → ℕ
operation_need (operation.Compute w o e) t left =
    max (left + operand_words (type_of (view_expression e)) + words_of t) (left + expression_need (view_expression e))
operation_need (operation.Test o e) t left =
    max (left + operand_words (type_of (view_expression e)) + words_of t) (left + expression_need (view_expression e))
operation_need (operation.Pointer o e) t left =
    max (left + operand_words (type_of (view_expression e)) + words_of t) (left + expression_need (view_expression e))
operation_need (operation.PointerPeek n o e) t left =
    max (left + operand_words (type_of (view_expression e)) + words_of t) (left + expression_need (view_expression e))

-- The frame words that the evaluation of one declaration or statement of a block needs.
abbrev pub item_need : Item → ℕ
item_need (item.Execute s) = statement_need (view_statement s)
item_need (item.Local w n t v) = initial_need (option_map view_converted v)
item_need i = 0

-- The frame words that one declaration or statement of a block reserves in addition to those of its variables, as for a `try` or a region.
abbrev pub kept_by_item : Item → ℕ
kept_by_item (item.Execute s) = kept_by (view_statement s)
kept_by_item (item.Region w r n) = 1
kept_by_item i = 0
