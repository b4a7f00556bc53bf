-- This file proves, for the conversions in a well-typed tree and for its pointers of one word, that they can be lowered.
use Rattle.std.proofs.Common.{◌≡◌, ◌*◌, ◌≤◌, true, refl, ap, arith}
use Rattle.cyc_syntax.specs.declared.tree.PointerKind.{PointerKind}
use Rattle.cyc_syntax.specs.declared.tree.PointerKind.TheVariants as marks
use Rattle.cyc_types.specs.declared.typed.Kind.{Kind}
use Rattle.cyc_types.specs.Types.{Ty, Int, Char, Pointer, Handle, Key, ValueType, Null, Value}
use Rattle.cyc_types.specs.TypedTrees.{Convert, Arguments, NoArguments, MoreArguments}
use Rattle.cyc_types.specs.Numbered.{argument_count}
use Rattle.cyc_types.specs.typing.Tests.{is_thin_mark, kind_of_mark, kind_of, kind_of_value}
use Rattle.cyc_types.specs.typing.WellTyped.{Converts, Context}
use Rattle.cyc_meaning.specs.Values.{is_thin, words_of_kind}
use Rattle.cyc_lower_proof.specs.inside.ValueCode.{all_passed}
use Rattle.cyc_lower_proof.specs.inside.Lowerable.{is_converted}
use Rattle.cyc_lower_proof.proofs.slots.Widths.{kind_few}

-- ---- objects

-- The value of an argument that is passed takes at most three machine words.
pub all_few : (cs : Arguments) → all_passed cs ≤ 3 * argument_count cs
all_few NoArguments = omega arith
all_few (MoreArguments (Convert from to a) cs) =
    let first : words_of_kind to ≤ 3 = kind_few to in
    let rest : all_passed cs ≤ 3 * argument_count cs = all_few cs in
    omega (arith, first, rest)

-- ---- pointers

pub thin_by_mark : (k : Kind) (m : PointerKind) → k ≡ kind_of_mark m → is_thin_mark m ≡ true → is_thin k ≡ true
thin_by_mark k marks.Nullable eq thin = ap is_thin eq
thin_by_mark k marks.NonNull eq thin = ap is_thin eq
thin_by_mark k marks.Fat eq thin = absurd (cc)

pointers_converted : (m l : PointerKind) → is_converted (kind_of_mark m) (kind_of_mark l) ≡ true
pointers_converted marks.Nullable marks.Nullable = refl
pointers_converted marks.Nullable marks.NonNull = refl
pointers_converted marks.Nullable marks.Fat = refl
pointers_converted marks.NonNull marks.Nullable = refl
pointers_converted marks.NonNull marks.NonNull = refl
pointers_converted marks.NonNull marks.Fat = refl
pointers_converted marks.Fat marks.Nullable = refl
pointers_converted marks.Fat marks.NonNull = refl
pointers_converted marks.Fat marks.Fat = refl

pub types_converted : (c : Context) (v : ValueType) (t : Ty) → Converts c v t → is_converted (kind_of_value v) (kind_of t) ≡ true
types_converted c (Value Int) Int converts = refl
types_converted c (Value Int) Char converts = refl
types_converted c (Value Char) Int converts = refl
types_converted c (Value Char) Char converts = refl
types_converted c (Value (Pointer m t r)) (Pointer l u s) converts = pointers_converted m l
types_converted c (Value (Handle r)) (Handle s) converts = refl
types_converted c (Value (Key r)) (Key s) converts = refl
types_converted c Null (Pointer l u s) converts = pointers_converted marks.Nullable l
types_converted c v t converts = absurd converts
