-- The mathematical view of the compiler's data type for Cyclone types; the view omits the memory layout. The view of types is
-- this project's own choice.
use Rattle.cyc_types.specs.declared.ty.Ty.{Ty as TyCode}
use Rattle.cyc_types.specs.declared.ty.Ty.TheVariants as ty
use Rattle.cyc_types.specs.declared.typed.ValueType.{ValueType as ValueTypeCode}
use Rattle.cyc_types.specs.declared.typed.ValueType.TheVariants as value_type
use Rattle.cyc_types.specs.Types.{Ty, Int, Char, Pointer, Handle, Key, Struct, ValueType, Void, Null, Value}

abbrev pub view_ty : TyCode → Ty
view_ty ty.Int = Int
view_ty ty.Char = Char
view_ty (ty.Pointer' k b t r) = Pointer k (view_ty t) r
view_ty (ty.Handle r) = Handle r
view_ty (ty.Key r) = Key r
view_ty (ty.Struct n rs) = Struct n rs.value.items

abbrev pub view_value_type : ValueTypeCode → ValueType
view_value_type value_type.Void = Void
view_value_type value_type.Null = Null
view_value_type (value_type.Value t) = Value (view_ty t)
