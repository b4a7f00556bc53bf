-- The conversion of arguments in the code: the code sets the source and target types of each argument in place.
use Rattle.std.specs.Prelude.{ℕ, nat_eq, List, [], ◌∷◌, ◌++◌, length, slice_set, Option, Some, None}
use Rattle.cyc_words.specs.declared.fault.Code.TheVariants as codes
use Rattle.cyc_syntax.specs.Trees.{Named, Expressions}
use Rattle.cyc_types.specs.declared.ty.Ty.{Ty as TyCode}
use Rattle.cyc_types.specs.declared.typed.Converted.{Converted as ConvertedCode}
use Rattle.cyc_types.specs.Types.{Ty}
use Rattle.cyc_types.specs.TypeView.{view_ty}
use Rattle.cyc_types.specs.TypedTrees.{type_of}
use Rattle.cyc_types.specs.TypedTrees as typed
use Rattle.cyc_types.specs.Rules.{Demand, demand}
use Rattle.cyc_types.specs.typing.Scopes.{Scope}
use Rattle.cyc_types.specs.typing.Formation.{struct_demanded}
use Rattle.cyc_types.specs.typing.Expressions.{passed_demanded}
use Rattle.cyc_types.specs.typing.Tests.{kind_of, kind_of_value}
use Rattle.cyc_operands.specs.inside.Operands.{value_in}

abbrev pub with_kinds : ConvertedCode → TyCode → ConvertedCode
with_kinds c t = record c { from = kind_of_value (type_of (value_in c)); to = kind_of (view_ty t) }

-- Sets the source type and the target type in the conversion of the argument at an index, if there is an argument at this index.
abbrev pub with_kinds_at : Option ConvertedCode → List ConvertedCode → ℕ → TyCode → List ConvertedCode
with_kinds_at None cs i t = cs
with_kinds_at (Some c) cs i t = slice_set cs i (with_kinds c t)

-- Sets the source type and the target type in the conversion of each argument for which the list of types has an element.
abbrev pub all_with_kinds : List ConvertedCode → List TyCode → List ConvertedCode
all_with_kinds [] ts = []
all_with_kinds (c ∷ cs) [] = c ∷ cs
all_with_kinds (c ∷ cs) (t ∷ ts) = with_kinds c t ∷ all_with_kinds cs ts

-- Returns the requirements on a new struct with the given values, given the types of its fields.
abbrev pub fields_asked : Scope → Named → List Named → Expressions → List typed.Expression → List Ty → List Demand
fields_asked g s rs es as' ts =
    struct_demanded g.structs g.names None s.place s rs ++ (demand codes.TypeMismatch s.place (nat_eq (length as') (length ts)) ∷ passed_demanded g.regions es as' ts)
