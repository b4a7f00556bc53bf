-- This file is about types whose regions are those of typed trees, and types whose regions are lifetimes of a run. The file also treats
-- representation kinds (int, char, pointer, ..) of types, and conversions.
use Rattle.std.proofs.Common.{◌≡◌, ◌⊎◌, inl, inr, true, List, [], ◌∷◌, map, Option, Some, None, refl, sym, ap, subst, ◌∙◌}
use Rattle.std.specs.Prelude.{option_map}
use Rattle.cyc_syntax.specs.declared.tree.PointerKind.{PointerKind}
use Rattle.cyc_syntax.specs.declared.tree.PointerKind.TheVariants as marks
use Rattle.cyc_types.specs.declared.region.Region.{Region}
use Rattle.cyc_types.specs.declared.typed.Kind.{Kind}
use Rattle.cyc_types.specs.declared.typed.Kind.TheVariants as kinds
use Rattle.cyc_types.specs.Types.{substituted_region, Ty, ValueType, substituted_ty, result_type}
use Rattle.cyc_types.specs.Types as types
use Rattle.cyc_types.specs.TypedTrees.{Expression, Number, NullPointer, HeapRegion, Counter, Copy, Move, Peek, Load, AddressOf, AddressOfCell, NumberOfElements, FreeUnique, FreeKey, Call, Unary, Binary, Assign, Store, New, Dereference, Target, Member, Element, type_of, type_of_place}
use Rattle.cyc_types.specs.typing.Tests as tests
use Rattle.cyc_types.specs.typing.WellTyped.{Context, WellTyped, IsPeek, IsCell}
use Rattle.cyc_meaning.specs.Values.{is_kind}
use Rattle.cyc_meaning.specs.Values as values
use Rattle.cyc_meaning.specs.Parts.{target_of_value, target_by}
use Rattle.cyc_soundness.specs.inside.Lives.{Lives, Value, at, value_at, kind_at, AllOf, AllIn, AllInValue}
use Rattle.cyc_soundness.specs.inside.Lives as lives

-- ---- kinds

pub is_kind_self : (k : Kind) → is_kind k k ≡ true
is_kind_self kinds.Int = refl
is_kind_self kinds.Char = refl
is_kind_self kinds.Nullable = refl
is_kind_self kinds.NonNull = refl
is_kind_self kinds.Fat = refl
is_kind_self kinds.Handle = refl
is_kind_self kinds.Key = refl

pub is_kind_same : (k l : Kind) → k ≡ l → is_kind k l ≡ true
is_kind_same k l e = subst (λ z. is_kind k z ≡ true) e (is_kind_self k)

pub mark_kinds : (k : PointerKind) → values.kind_of_mark k ≡ tests.kind_of_mark k
mark_kinds marks.Nullable = refl
mark_kinds marks.NonNull = refl
mark_kinds marks.Fat = refl

-- The representation kind (int, char, pointer, ..) of a type does not depend on the lifetimes of its regions.
pub kind_read : (n : Lives) (t : Ty) → kind_at (at n t) ≡ tests.kind_of t
kind_read n types.Int = refl
kind_read n types.Char = refl
kind_read n (types.Pointer k t r) = mark_kinds k
kind_read n (types.Handle r) = refl
kind_read n (types.Key r) = refl
kind_read n (types.Struct m rs) = refl

pub kind_meant : (n : Lives) (t : Ty) → kind_at (at n t) ≡ values.kind_of t
kind_meant n types.Int = refl
kind_meant n types.Char = refl
kind_meant n (types.Pointer k t r) = refl
kind_meant n (types.Handle r) = refl
kind_meant n (types.Key r) = refl
kind_meant n (types.Struct s rs) = refl

-- ---- the regions that a type mentions

all_of : (P Q : Region → Type 0) → ((r : Region) → P r → Q r) → (rs : List Region) → AllOf P rs → AllOf Q rs
all_of P Q so [] all = tt
all_of P Q so (r ∷ rs) (one, all) = (so r one, all_of P Q so rs all)

pub all_in_weaker : (P Q : Region → Type 0) → ((r : Region) → P r → Q r) → (t : Ty) → AllIn P t → AllIn Q t
all_in_weaker P Q so types.Int all = tt
all_in_weaker P Q so types.Char all = tt
all_in_weaker P Q so (types.Pointer k t r) (all, one) = (all_in_weaker P Q so t all, so r one)
all_in_weaker P Q so (types.Handle r) one = so r one
all_in_weaker P Q so (types.Key r) one = so r one
all_in_weaker P Q so (types.Struct n rs) all = all_of P Q so rs all

every_of : (P : Region → Type 0) → ((r : Region) → P r) → (rs : List Region) → AllOf P rs
every_of P so [] = tt
every_of P so (r ∷ rs) = (so r, every_of P so rs)

pub every_in : (P : Region → Type 0) → ((r : Region) → P r) → (t : Ty) → AllIn P t
every_in P so types.Int = tt
every_in P so types.Char = tt
every_in P so (types.Pointer k t r) = (every_in P so t, so r)
every_in P so (types.Handle r) = so r
every_in P so (types.Key r) = so r
every_in P so (types.Struct n rs) = every_of P so rs

same_of : (m n : Lives) (rs : List Region) → AllOf (λ r. m r ≡ n r) rs → map m rs ≡ map n rs
same_of m n [] same = refl
same_of m n (r ∷ rs) (one, same) = ap (λ l. l ∷ map m rs) one ∙ ap (λ ls. n r ∷ ls) (same_of m n rs same)

-- If two assignments of lifetimes agree on the regions of a type, then the type becomes the same run-time type under both.
pub read_alike : (m n : Lives) (t : Ty) → AllIn (λ r. m r ≡ n r) t → at m t ≡ at n t
read_alike m n types.Int same = refl
read_alike m n types.Char same = refl
read_alike m n (types.Pointer k t r) (same, one) = ap (λ u. lives.Pointer k u (m r)) (read_alike m n t same) ∙ ap (λ l. lives.Pointer k (at n t) l) one
read_alike m n (types.Handle r) same = ap lives.Handle same
read_alike m n (types.Key r) same = ap lives.Key same
read_alike m n (types.Struct s rs) same = ap (lives.Struct s) (same_of m n rs same)

pub value_alike : (m n : Lives) (v : ValueType) → AllInValue (λ r. m r ≡ n r) v → value_at m v ≡ value_at n v
value_alike m n types.Void same = refl
value_alike m n types.Null same = refl
value_alike m n (types.Value t) same = ap Value (read_alike m n t same)

-- ---- instantiation

-- the lifetimes of the region parameters of a called function or of a struct, given the regions that instantiate these parameters
abbrev pub lives_by : Lives → List Region → Lives
lives_by n m r = n (substituted_region m r)

regions_by : (n : Lives) (m rs : List Region) → map n (map (substituted_region m) rs) ≡ map (lives_by n m) rs
regions_by n m [] = refl
regions_by n m (r ∷ rs) = ap (λ ls. lives_by n m r ∷ ls) (regions_by n m rs)

-- A type whose regions are instantiated becomes the same run-time type as the uninstantiated type under the
-- lifetimes of the instantiating regions.
pub instance_by : (n : Lives) (m : List Region) (t : Ty) → at n (substituted_ty m t) ≡ at (lives_by n m) t
instance_by n m types.Int = refl
instance_by n m types.Char = refl
instance_by n m (types.Pointer k t r) = ap (λ u. lives.Pointer k u (lives_by n m r)) (instance_by n m t)
instance_by n m (types.Handle r) = refl
instance_by n m (types.Key r) = refl
instance_by n m (types.Struct s rs) = ap (lives.Struct s) (regions_by n m rs)

pub result_by : (n : Lives) (m : List Region) (t : Option Ty) → value_at n (result_type (option_map (substituted_ty m) t)) ≡ value_at (lives_by n m) (result_type t)
result_by n m None = refl
result_by n m (Some t) = ap Value (instance_by n m t)

-- ---- the types of trees

pub place_type : (c : Context) (d : Dereference) (t : Ty) (r : Region) → IsCell c d t r → t ≡ type_of_place d
place_type c (Target k a u) t r (m, well, alive, kind, same) = same
place_type c (Member k a n field u) t r (m, rs, s, v, well, thin, alive, kind, at, there, of, same) = same
place_type c (Element a i u) t r (well, index, alive, same) = same

well_type : (c : Context) (a : Expression) (t : ValueType) → WellTyped c a t → t ≡ type_of a
well_type c (Number n) t is = is
well_type c NullPointer t is = is
well_type c HeapRegion t is = is
well_type c (Counter l) t (less, is) = is
well_type c (Copy l u) t (variable, plain, same) = same
well_type c (Move p n u) t (variable, plain, same) = same
well_type c (Peek p n u) t is = absurd is
well_type c (Load d) t (u, r, cell, plain, unique, same) = same ∙ ap types.Value (place_type c d u r cell)
well_type c (AddressOf l u) t (v, r, place, plain, u_is, same) = same
well_type c (AddressOfCell d u) t (v, r, cell, plain, other, u_is, same) = same
well_type c (NumberOfElements a) t (u, r, well, same) = same
well_type c (FreeUnique a) t (k, u, well, same) = same
well_type c (FreeKey a) t (r, well, same) = same
well_type c (Call f as' u) t (s, m, is, count, apart, passed, alive, outlive, gives_u, same) = same
well_type c (Unary o a) t (v, operand, same) = same
well_type c (Binary a os u) t (v, left, chain, same) = same
well_type c (Assign l d u) t (v, r, place, converted, gives_u, same) = same
well_type c (Store d e u) t (v, r, cell, converted, gives_u, same) = same
well_type c (New w i u) t (k, v, r, placement, made, u_is, same) = same

-- An expression has the type that its tree states, even if it is a peek (a read that does not move a local's value).
seen_type : (c : Context) (a : Expression) (t : ValueType) → WellTyped c a t ⊎ IsPeek c a t → t ≡ type_of a
seen_type c a t (inl well) = well_type c a t well
seen_type c (Peek p n u) t (inr (variable, unique, same)) = same
seen_type c a t (inr is) = absurd is

-- The pointer target that a typed tree states for an expression is the target of the expression's type.
pub target_typed : (c : Context) (a : Expression) (t : ValueType) → WellTyped c a t ⊎ IsPeek c a t → target_by a ≡ target_of_value t
target_typed c a t is = ap target_of_value (sym (seen_type c a t is))
