-- Facts about operators and the signs (punctuation tokens) that denote them.
use Rattle.std.proofs.Common.{◌≡◌, true, Option, Some, None, refl, ap}
use Rattle.cyc_syntax.specs.declared.tokens.Sign.{Sign}
use Rattle.cyc_syntax.specs.declared.tokens.Sign.TheVariants as signs
use Rattle.cyc_syntax.specs.declared.tree.PrefixOperator.{PrefixOperator}
use Rattle.cyc_syntax.specs.declared.tree.PrefixOperator.TheVariants as prefixes
use Rattle.cyc_syntax.specs.declared.tree.BinaryOperator.{BinaryOperator}
use Rattle.cyc_syntax.specs.declared.tree.BinaryOperator.TheVariants as operators
use Rattle.cyc_syntax.specs.Symbols.{Mark}
use Rattle.cyc_syntax.specs.Yields.{prefix_sign, operator_sign}
use Rattle.cyc_syntax.specs.Grammar.{level}
use Rattle.cyc_parse.specs.inside.Expressions.{prefix_operator, begins_by_sign, binary_operator}
use Rattle.cyc_parse.proofs.Stops.{binds_terminal}

-- A fact about every operator or sign (punctuation token) is computed case by case. Each proof first names one operator or sign, so that
-- the cases are distinguished.

-- ---- prefix operators

pub at_prefix_sign : (o : PrefixOperator) → prefix_operator (prefix_sign o) ≡ Some o
at_prefix_sign prefixes.Not = refl
at_prefix_sign o = refl

pub is_prefix_sign : (s : Sign) (o : PrefixOperator) → prefix_operator s ≡ Some o → s ≡ prefix_sign o
is_prefix_sign signs.LeftParen o h = absurd (cc)
is_prefix_sign s o h = ap sign_or h
  where
    sign_or : Option PrefixOperator → Sign
    sign_or None = s
    sign_or (Some o) = prefix_sign o

pub prefix_begins : (o : PrefixOperator) → begins_by_sign (prefix_sign o) ≡ true
prefix_begins prefixes.Not = refl
prefix_begins o = refl

-- ---- binary operators

pub at_operator_sign : (o : BinaryOperator) → binary_operator (operator_sign o) ≡ Some o
at_operator_sign operators.Add = refl
at_operator_sign o = refl

pub is_operator_sign : (s : Sign) (o : BinaryOperator) → binary_operator s ≡ Some o → s ≡ operator_sign o
is_operator_sign signs.LeftParen o h = absurd (cc)
is_operator_sign s o h = ap sign_or h
  where
    sign_or : Option BinaryOperator → Sign
    sign_or None = s
    sign_or (Some o) = operator_sign o

pub operator_binds : (o : BinaryOperator) → binds_terminal (Mark (operator_sign o)) ≡ level o
operator_binds operators.Add = refl
operator_binds o = refl
