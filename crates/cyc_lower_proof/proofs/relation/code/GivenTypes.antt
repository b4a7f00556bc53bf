-- This file proves the types and the representation kinds (int, char, pointer, ..) of the results of expressions in a well-typed tree.
use Rattle.std.proofs.Common.{◌≡◌, ◌⊎◌, ◌≤◌, true, false, List, [], ◌∷◌, map, Option, None, Some, refl, sym, ap, subst, ◌∙◌, arith, inl, inr}
use Rattle.std.specs.Prelude.{option_map, not, ◌&&◌}
use Rattle.cyc_syntax.specs.declared.tree.PointerKind.{PointerKind}
use Rattle.cyc_syntax.specs.declared.tree.PointerKind.TheVariants as marks
use Rattle.cyc_types.specs.declared.region.Region.{Region}
use Rattle.cyc_types.specs.declared.typed.Kind.{Kind}
use Rattle.cyc_types.specs.declared.typed.Kind.TheVariants as kinds
use Rattle.cyc_types.specs.declared.typed.PointerOperator.{PointerOperator}
use Rattle.cyc_types.specs.declared.typed.PointerOperator.TheVariants as pointers
use Rattle.cyc_types.specs.Types.{Ty, words_of, words_of_mark, substituted_ty, ValueType, Void, Value, result_type}
use Rattle.cyc_types.specs.Types as type_forms
use Rattle.cyc_types.specs.TypedTrees.{Load, New, Dereference, Target, Expression, Number, NullPointer, Copy, Peek, Call, Unary, Binary, Assign, Operations, NoOperations, ThenCompute, ThenTest, ThenPointer}
use Rattle.cyc_types.specs.TypedTrees.{Store, Member, Element, type_of_place, type_of, HeapRegion, Counter, Move, AddressOf, AddressOfCell, NumberOfElements, FreeUnique, FreeKey, ThenPointerPeek}
use Rattle.cyc_types.specs.typing.Statements.{with_region_of}
use Rattle.cyc_types.specs.typing.Tests as tests
use Rattle.cyc_types.specs.typing.WellTyped.{Context, PointerOperation, adds, subtracts, equals, differs, thin_null, thin_there, fat_null, fat_there, null_is, null_is_not, IsPeek, WellTyped, IsCell, IsChain, IsLeft}
use Rattle.cyc_types.specs.Texts.{is_comparison, are_sums, stands_alone}
use Rattle.cyc_meaning.specs.Pointers.{result_kind as operator_kind}
use Rattle.cyc_meaning.specs.Values.{kind_of, words_of_kind}
use Rattle.cyc_meaning.specs.FrameCount.{result_words, words_of_all, operand_words}
use Rattle.cyc_lower_proof.specs.inside.ValueCode.{left_kind}
use Rattle.cyc_lower_proof.specs.inside.Lowering.{results_of}
use Rattle.cyc_lower_proof.proofs.slots.Widths.{kind_of_result, chain_kind}
use Rattle.cyc_lower_proof.proofs.slots.Slots.{words_positive}

pub kinds_same : (t : Ty) → kind_of t ≡ tests.kind_of t
kinds_same type_forms.Int = refl
kinds_same type_forms.Char = refl
kinds_same (type_forms.Pointer marks.Nullable t r) = refl
kinds_same (type_forms.Pointer marks.NonNull t r) = refl
kinds_same (type_forms.Pointer marks.Fat t r) = refl
kinds_same (type_forms.Handle r) = refl
kinds_same (type_forms.Key r) = refl
kinds_same (type_forms.Struct n rs) = refl

-- Substituting regions in a type does not change the representation kind (int, char, pointer, ..) of its values.
kind_substituted : (m : List Region) (t : Ty) → kind_of (substituted_ty m t) ≡ kind_of t
kind_substituted m type_forms.Int = refl
kind_substituted m type_forms.Char = refl
kind_substituted m (type_forms.Pointer k t r) = refl
kind_substituted m (type_forms.Handle r) = refl
kind_substituted m (type_forms.Key r) = refl
kind_substituted m (type_forms.Struct n rs) = refl

-- Replacing the region in a pointer type does not change the representation kind (nullable, non-null or fat pointer) of its values.
pub kind_moved : (r : Region) (t : Ty) → kind_of (with_region_of r t) ≡ kind_of t
kind_moved r type_forms.Int = refl
kind_moved r type_forms.Char = refl
kind_moved r (type_forms.Pointer k t s) = refl
kind_moved r (type_forms.Handle s) = refl
kind_moved r (type_forms.Key s) = refl
kind_moved r (type_forms.Struct n rs) = refl

words_substituted : (m : List Region) (t : Ty) → words_of (substituted_ty m t) ≡ words_of t
words_substituted m type_forms.Int = refl
words_substituted m type_forms.Char = refl
words_substituted m (type_forms.Pointer k t r) = refl
words_substituted m (type_forms.Handle r) = refl
words_substituted m (type_forms.Key r) = refl
words_substituted m (type_forms.Struct n rs) = refl

pub all_words_substituted : (m : List Region) (ts : List Ty) → words_of_all (map (substituted_ty m) ts) ≡ words_of_all ts
all_words_substituted m [] = refl
all_words_substituted m (t ∷ ts) = omega (arith, words_substituted m t, all_words_substituted m ts)

pub result_substituted : (m : List Region) (t : Option Ty) (u : ValueType) → u ≡ result_type (option_map (substituted_ty m) t) → results_of t ≤ result_words u
result_substituted m None u is = omega arith
result_substituted m (Some t) u is = omega (arith, words_substituted m t, ap result_words is)

-- Holds if values of a type have the representation kind `kind` (int, char, pointer, ..); the type
-- `void`, which has no values, may have any kind.
abbrev pub IsGiven : Kind → ValueType → Type 0
IsGiven kind Void = Unit {0}
IsGiven kind type_forms.Null = kind ≡ kinds.Nullable
IsGiven kind (Value t) = kind ≡ kind_of t

pub given_result : (m : List Region) (t : Option Ty) (u : ValueType) → u ≡ result_type (option_map (substituted_ty m) t) → IsGiven (kind_of_result t) u
given_result m None u is = subst (IsGiven kinds.Int) (sym is) tt
given_result m (Some t) u is = subst (IsGiven (kind_of t)) (sym is) (sym (kind_substituted m t))

-- A memory access has the type of the cell that it reads or writes.
cell_type : (x : Dereference) (c : Context) (t : Ty) (r : Region) → IsCell c x t r → type_of_place x ≡ t
cell_type (Target k a u) c t r (m, well, live, kind, same) = sym same
cell_type (Member k a n f u) c t r (m, rs, s, v, well, thin, live, kind, there, field, substituted, same) = sym same
cell_type (Element a i u) c t r (well, index, live, same) = sym same

pub type_given : (a : Expression) (c : Context) (v : ValueType) → WellTyped c a v ⊎ IsPeek c a v → type_of a ≡ v
type_given (Number n) c v (inl is) = sym is
type_given NullPointer c v (inl is) = sym is
type_given HeapRegion c v (inl is) = sym is
type_given (Counter l) c v (inl (few, is)) = sym is
type_given (Copy l t) c v (inl (there, stays, is)) = sym is
type_given (Move p n t) c v (inl (there, moved, is)) = sym is
type_given (Peek p n t) c v (inl well) = absurd well
type_given (Peek p n t) c v (inr (there, unique, is)) = sym is
type_given (Load x) c v (inl (u, r, cell, flat, shared, is)) = ap Value (cell_type x c u r cell) ∙ sym is
type_given (AddressOf l t) c v (inl (u, r, place, stays, same, is)) = sym is
type_given (AddressOfCell x t) c v (inl (u, r, cell, stays, shared, same, is)) = sym is
type_given (NumberOfElements a) c v (inl (u, r, well, is)) = sym is
type_given (FreeUnique a) c v (inl (k, u, well, is)) = sym is
type_given (FreeKey a) c v (inl (r, well, is)) = sym is
type_given (Call f cs t) c v (inl (s, m, callee, long, regions, passed, live, outliving, same, is)) = sym is
type_given (Unary o a) c v (inl (w, well, is)) = sym is
type_given (Binary a os t) c v (inl (w, well, chain, is)) = sym is
type_given (Assign l d t) c v (inl (u, r, place, converted, same, is)) = sym is
type_given (Store x d t) c v (inl (u, r, cell, converted, same, is)) = sym is
type_given (New w i t) c v (inl (k, u, r, placed, made, same, is)) = sym is
type_given a c v (inr peek) = absurd peek

fat_words : (k : PointerKind) → tests.is_thin_mark k ≡ false → 3 ≤ words_of_mark k
fat_words marks.Fat is = omega arith
fat_words marks.Nullable is = absurd (let f : true ≡ false = is in cc)
fat_words marks.NonNull is = absurd (let f : true ≡ false = is in cc)

-- The result of a pointer operator has the representation kind (int, char, pointer, ..) that the operator yields.
operation_given : (o : PointerOperator) (c : Context) (left right result : ValueType) → PointerOperation c o left right result → IsGiven (operator_kind o) result
operation_given pointers.AddFat c left right result (adds t r other) = refl
operation_given pointers.SubtractFat c left right result (subtracts t r other) = refl
operation_given pointers.EqualThin c left right result (equals k l t r s is also live other) = refl
operation_given pointers.NotEqualThin c left right result (differs k l t r s is also live other) = refl
operation_given pointers.ThinIsNull c left right result (thin_null k t r is) = refl
operation_given pointers.ThinIsNotNull c left right result (thin_there k t r is) = refl
operation_given pointers.FatIsNull c left right result (fat_null k t r is) = refl
operation_given pointers.FatIsNotNull c left right result (fat_there k t r is) = refl
operation_given pointers.NullIs c left right result (null_is k t r) = refl
operation_given pointers.NullIsNot c left right result (null_is_not k t r) = refl

-- The left operand of a pointer operator has at least as many words as the code expects.
pub left_least : (o : PointerOperator) (c : Context) (left right result : ValueType) → PointerOperation c o left right result → words_of_kind (left_kind o) ≤ operand_words left
left_least pointers.AddFat c left right result (adds t r other) = omega arith
left_least pointers.SubtractFat c left right result (subtracts t r other) = omega arith
left_least pointers.EqualThin c left right result (equals k l t r s is also live other) = words_positive (type_forms.Pointer k t r)
left_least pointers.NotEqualThin c left right result (differs k l t r s is also live other) = words_positive (type_forms.Pointer k t r)
left_least pointers.ThinIsNull c left right result (thin_null k t r is) = words_positive (type_forms.Pointer k t r)
left_least pointers.ThinIsNotNull c left right result (thin_there k t r is) = words_positive (type_forms.Pointer k t r)
left_least pointers.FatIsNull c left right result (fat_null k t r is) = fat_words k is
left_least pointers.FatIsNotNull c left right result (fat_there k t r is) = fat_words k is
left_least pointers.NullIs c left right result (null_is k t r) = omega arith
left_least pointers.NullIsNot c left right result (null_is_not k t r) = omega arith

-- Among the pointer operators, only sums keep the type of their left operand.
sum_words : (o : PointerOperator) (os : Operations) (c : Context) (left right result : ValueType) (u : Ty) → (not (is_comparison o) && are_sums os) ≡ true → PointerOperation c o left right result
    → (are_sums os ≡ true → operand_words result ≤ words_of u) → operand_words left ≤ words_of u
sum_words pointers.AddFat os c left right result u alone (adds t r other) rest = rest alone
sum_words pointers.SubtractFat os c left right result u alone (subtracts t r other) rest = rest alone
sum_words pointers.EqualThin os c left right result u alone operation rest = absurd (let f : false ≡ true = alone in cc)
sum_words pointers.NotEqualThin os c left right result u alone operation rest = absurd (let f : false ≡ true = alone in cc)
sum_words pointers.ThinIsNull os c left right result u alone operation rest = absurd (let f : false ≡ true = alone in cc)
sum_words pointers.ThinIsNotNull os c left right result u alone operation rest = absurd (let f : false ≡ true = alone in cc)
sum_words pointers.FatIsNull os c left right result u alone operation rest = absurd (let f : false ≡ true = alone in cc)
sum_words pointers.FatIsNotNull os c left right result u alone operation rest = absurd (let f : false ≡ true = alone in cc)
sum_words pointers.NullIs os c left right result u alone operation rest = absurd (let f : false ≡ true = alone in cc)
sum_words pointers.NullIsNot os c left right result u alone operation rest = absurd (let f : false ≡ true = alone in cc)

sums_words : (os : Operations) (c : Context) (left : ValueType) (u : Ty) → are_sums os ≡ true → IsChain c left os u → operand_words left ≤ words_of u
sums_words NoOperations c left u alone is = omega (arith, ap operand_words is)
sums_words (ThenCompute o x os) c left u alone is = absurd (let f : false ≡ true = alone in cc)
sums_words (ThenTest o x os) c left u alone is = absurd (let f : false ≡ true = alone in cc)
sums_words (ThenPointer o x os) c left u alone (v, w, right, operation, rest) = sum_words o os c left v w u alone operation (λ sums. sums_words os c w u sums rest)
sums_words (ThenPointerPeek n o x os) c left u alone (v, w, right, operation, rest) = sum_words o os c left v w u alone operation (λ sums. sums_words os c w u sums rest)

-- The left operand of the next operator has as many words as the result of the operator before it.
pub next_words : (o : PointerOperator) (os : Operations) (c : Context) (left right result : ValueType) (u : Ty) → stands_alone o os ≡ true → PointerOperation c o left right result → IsChain c result os u
    → operand_words result ≤ words_of u
next_words pointers.AddFat os c left right result u alone operation rest = sums_words os c result u alone rest
next_words pointers.SubtractFat os c left right result u alone operation rest = sums_words os c result u alone rest
next_words pointers.EqualThin os c left right result u alone (equals k l t r s is also live other) rest = words_positive u
next_words pointers.NotEqualThin os c left right result u alone (differs k l t r s is also live other) rest = words_positive u
next_words pointers.ThinIsNull os c left right result u alone (thin_null k t r is) rest = words_positive u
next_words pointers.ThinIsNotNull os c left right result u alone (thin_there k t r is) rest = words_positive u
next_words pointers.FatIsNull os c left right result u alone (fat_null k t r is) rest = words_positive u
next_words pointers.FatIsNotNull os c left right result u alone (fat_there k t r is) rest = words_positive u
next_words pointers.NullIs os c left right result u alone (null_is k t r) rest = words_positive u
next_words pointers.NullIsNot os c left right result u alone (null_is_not k t r) rest = words_positive u

-- The result of a chain of operators has the representation kind (int, char, pointer, ..) that `chain_kind` computes.
pub chain_given : (os : Operations) (c : Context) (left : ValueType) (kind : Kind) (u : Ty) → IsChain c left os u → IsGiven kind left → IsGiven (chain_kind kind os) (Value u)
chain_given NoOperations c left kind u is given_left = subst (IsGiven kind) is given_left
chain_given (ThenCompute o x os) c left kind u (int, right, rest) given_left = chain_given os c (Value type_forms.Int) kinds.Int u rest refl
chain_given (ThenTest o x os) c left kind u (tested, right, rest) given_left = chain_given os c (Value type_forms.Int) kinds.Int u rest refl
chain_given (ThenPointer o x os) c left kind u (v, w, right, operation, rest) given_left = chain_given os c w (operator_kind o) u rest (operation_given o c left v w operation)
chain_given (ThenPointerPeek n o x os) c left kind u (v, w, right, operation, rest) given_left = chain_given os c w (operator_kind o) u rest (operation_given o c left v w operation)

-- The left operand of a chain of operators is a well-typed value, or an early read of a local that must not change
-- until the operator is applied.
pub seen_left : (os : Operations) (a : Expression) (c : Context) (v : ValueType) → IsLeft (WellTyped c a v) c a v os → WellTyped c a v ⊎ IsPeek c a v
seen_left NoOperations a c v well = inl well
seen_left (ThenCompute o x os) a c v well = inl well
seen_left (ThenTest o x os) a c v well = well
seen_left (ThenPointer o x os) a c v well = inl well
seen_left (ThenPointerPeek n o x os) a c v (peek, of) = inr peek
