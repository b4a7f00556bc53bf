-- This file is about the representation kinds (int, char, pointer, ..) of the results of expressions and the words of locals.
use Rattle.std.proofs.Common.{◌≡◌, ◌⊎◌, ℕ, zero, suc, ◌+◌, ◌≤◌, ◌<◌, true, false, List, [], ◌∷◌, length, Option, None, Some, slice_get, refl, sym, ap, ◌∙◌, arith, inl, inr, Bool}
use Rattle.std.specs.Prelude.{◌==◌, max, not, ◌&&◌, if◌then◌else◌}
use Rattle.std.proofs.lemmas.Bool.{eqb-true, eqb-false, and_parts, cases_Bool}
use Rattle.cyc_syntax.specs.declared.tree.PointerKind.TheVariants as marks
use Rattle.cyc_types.specs.declared.typed.Kind.{Kind}
use Rattle.cyc_types.specs.declared.typed.Kind.TheVariants as kinds
use Rattle.cyc_types.specs.declared.typed.UnaryOperator.{UnaryOperator}
use Rattle.cyc_types.specs.declared.typed.UnaryOperator.TheVariants as unary
use Rattle.cyc_types.specs.declared.typed.Callee.{Callee}
use Rattle.cyc_types.specs.declared.typed.Callee.TheVariants as callees
use Rattle.cyc_types.specs.Types.{Ty, words_of}
use Rattle.cyc_types.specs.Types as types
use Rattle.cyc_types.specs.TypedTrees.{Load, type_of_place, Expression, NullPointer, HeapRegion, Copy, Move, Peek, Call, Unary, Binary, Assign, Convert, Operations, NoOperations}
use Rattle.cyc_types.specs.TypedTrees.{ThenCompute, ThenTest, ThenPointer, ThenPointerPeek, Signature, New, Initial, Array, AddressOfCell, Store, StructType, AddressOf, Converted}
use Rattle.cyc_meaning.specs.Pointers.{result_kind as operator_kind}
use Rattle.cyc_meaning.specs.Values.{kind_of, number_of_kind, is_kind, words_of_kind, are_kinds}
use Rattle.cyc_lower_proof.specs.inside.Slots.{Types}
use Rattle.cyc_meaning.specs.Operators.{unary_kind}
use Rattle.cyc_lower_proof.specs.inside.ValueCode.{kind_after, are_as_wide, keeps_words, masks, passed_words, kind_passed}
use Rattle.cyc_lower_proof.specs.inside.Lowerable.{is_converted, is_pointer}

-- ---- kinds and their words

pub kind_positive : (kind : Kind) → 1 ≤ words_of_kind kind
kind_positive kinds.Int = omega arith
kind_positive kinds.Char = omega arith
kind_positive kinds.Nullable = omega arith
kind_positive kinds.NonNull = omega arith
kind_positive kinds.Fat = omega arith
kind_positive kinds.Handle = omega arith
kind_positive kinds.Key = omega arith

pub kind_few : (kind : Kind) → words_of_kind kind ≤ 3
kind_few kinds.Int = omega arith
kind_few kinds.Char = omega arith
kind_few kinds.Nullable = omega arith
kind_few kinds.NonNull = omega arith
kind_few kinds.Fat = omega arith
kind_few kinds.Handle = omega arith
kind_few kinds.Key = omega arith

-- A representation kind (int, char, pointer, ..) whose values have more than one word is the kind of fat pointers.
pub wide_kind : (kind : Kind) → (words_of_kind kind == 1) ≡ false → kind ≡ kinds.Fat
wide_kind kinds.Fat wide = refl
wide_kind kinds.Int wide = absurd (let f : true ≡ false = wide in cc)
wide_kind kinds.Char wide = absurd (let f : true ≡ false = wide in cc)
wide_kind kinds.Nullable wide = absurd (let f : true ≡ false = wide in cc)
wide_kind kinds.NonNull wide = absurd (let f : true ≡ false = wide in cc)
wide_kind kinds.Handle wide = absurd (let f : true ≡ false = wide in cc)
wide_kind kinds.Key wide = absurd (let f : true ≡ false = wide in cc)

one_or_three : (kind : Kind) → (words_of_kind kind ≡ 1) ⊎ (words_of_kind kind ≡ 3)
one_or_three kinds.Fat = inr refl
one_or_three kinds.Int = inl refl
one_or_three kinds.Char = inl refl
one_or_three kinds.Nullable = inl refl
one_or_three kinds.NonNull = inl refl
one_or_three kinds.Handle = inl refl
one_or_three kinds.Key = inl refl

-- If a conversion changes the number of words, then the value has three words before or after the conversion.
pub more_words : (from to : Kind) → (words_of_kind from == words_of_kind to) ≡ false → 3 ≤ max (words_of_kind from) (words_of_kind to)
more_words from to apart = elim (one_or_three from) [
  | inl one ↦ elim (one_or_three to) [
    | inl other ↦ absurd (eqb-false (words_of_kind from) (words_of_kind to) apart (one ∙ sym other))
    | inr three ↦ omega (arith, three)
  ]
  | inr three ↦ omega (arith, three)
]

-- A conversion that keeps the words of a value keeps their number.
pub keeps_wide : (from to : Kind) → keeps_words from to ≡ true → words_of_kind from ≡ words_of_kind to
keeps_wide from to keeps = eqb-true (words_of_kind from) (words_of_kind to) (and_parts (are_as_wide from to) (not (masks from to)) keeps).0

-- A conversion that keeps the words of a value does not mask them to a byte.
pub keeps_whole : (from to : Kind) → keeps_words from to ≡ true → masks from to ≡ false
keeps_whole from to keeps = elim (cases_Bool (masks from to)) [
  | inl masked ↦ absurd (let f : false ≡ true = sym (ap (λ (b : Bool). not b) masked) ∙ (and_parts (are_as_wide from to) (not (masks from to)) keeps).1 in cc)
  | inr whole ↦ whole
]

masks_are : (from to : Kind) → masks from to ≡ true → (from ≡ kinds.Int) × (to ≡ kinds.Char)
masks_are kinds.Int kinds.Char is = (refl, refl)
masks_are from to is = absurd (let f : false ≡ true = is in cc)

-- A conversion that does not keep the words of a value is from an int to a char, or changes the number of words.
pub changes_words : (from to : Kind) → keeps_words from to ≡ false → ((from ≡ kinds.Int) × (to ≡ kinds.Char)) ⊎ (are_as_wide from to ≡ false)
changes_words from to changes = elim (cases_Bool (are_as_wide from to)) [
  | inl wide ↦ elim (cases_Bool (masks from to)) [
    | inl masked ↦ inl (masks_are from to masked)
    | inr whole ↦
        let keeps : keeps_words from to ≡ true = ap (λ (b : Bool). b && not (masks from to)) wide ∙ ap (λ (b : Bool). not b) whole in
        absurd (let f : true ≡ false = sym keeps ∙ changes in cc)
  ]
  | inr narrow ↦ inr narrow
]

-- If a conversion to a type other than char changes the words of the value, then it changes the number of these words.
pub changes_wide : (from to : Kind) → is_kind to kinds.Char ≡ false → keeps_words from to ≡ false → are_as_wide from to ≡ false
changes_wide from to plain changes = elim (changes_words from to changes) [
  | inl masked ↦ absurd (let f : true ≡ false = sym (ap (λ (k : Kind). is_kind k kinds.Char) masked.1) ∙ plain in cc)
  | inr narrow ↦ narrow
]

-- If a conversion to another representation kind (int, char, pointer, ..) changes the words of the
-- value, then its target is a pointer or a char.
pub changes : (from to : Kind) → is_converted from to ≡ true → keeps_words from to ≡ false → (to ≡ kinds.Char) ⊎ (is_pointer to ≡ true)
changes from to known changed = elim (changes_words from to changed) [
  | inl masked ↦ inl masked.1
  | inr narrow ↦ inr (sym (ap (λ (b : Bool). if b then true else is_pointer to) narrow) ∙ known)
]

-- A value of a type has as many words as the representation kind of the type (int, char, pointer, ..) says.
pub type_words : (t : Ty) → words_of_kind (kind_of t) ≡ words_of t
type_words types.Int = refl
type_words types.Char = refl
type_words (types.Pointer marks.Nullable t r) = refl
type_words (types.Pointer marks.NonNull t r) = refl
type_words (types.Pointer marks.Fat t r) = refl
type_words (types.Handle r) = refl
type_words (types.Key r) = refl
type_words (types.Struct n rs) = refl

abbrev kind_numbered : ℕ → Kind
kind_numbered zero = kinds.Int
kind_numbered (suc zero) = kinds.Nullable
kind_numbered (suc (suc zero)) = kinds.NonNull
kind_numbered (suc (suc (suc zero))) = kinds.Fat
kind_numbered (suc (suc (suc (suc zero)))) = kinds.Handle
kind_numbered (suc (suc (suc (suc (suc zero))))) = kinds.Key
kind_numbered n = kinds.Char

number_tells : (kind : Kind) → kind_numbered (number_of_kind kind) ≡ kind
number_tells kinds.Int = refl
number_tells kinds.Char = refl
number_tells kinds.Nullable = refl
number_tells kinds.NonNull = refl
number_tells kinds.Fat = refl
number_tells kinds.Handle = refl
number_tells kinds.Key = refl

pub same_kind : (a b : Kind) → is_kind a b ≡ true → a ≡ b
same_kind a b is = sym (number_tells a) ∙ ap kind_numbered (eqb-true (number_of_kind a) (number_of_kind b) is) ∙ number_tells b

pub same_kinds : (these those : List Kind) → are_kinds these those ≡ true → these ≡ those
same_kinds [] [] are = refl
same_kinds [] (b ∷ bs) are = absurd (let f : false ≡ true = are in cc)
same_kinds (a ∷ these) [] are = absurd (let f : false ≡ true = are in cc)
same_kinds (a ∷ these) (b ∷ those) are =
    let (first, rest) = and_parts (is_kind a b) (are_kinds these those) are in
    ap (λ (k : Kind). k ∷ these) (same_kind a b first) ∙ ap (λ (ks : List Kind). b ∷ ks) (same_kinds these those rest)

-- ---- the results of expressions

-- The representation kind (int, char, pointer, ..) of the result of a function.
abbrev pub kind_of_result : Option Ty → Kind
kind_of_result None = kinds.Int
kind_of_result (Some t) = kind_of t

abbrev pub result_kind : Option Signature → Kind
result_kind None = kinds.Int
result_kind (Some s) = kind_of_result s.result

-- The representation kind (int, char, pointer, ..) of the result of a chain of operators, given that of its left operand.
abbrev pub chain_kind : Kind → Operations → Kind
chain_kind kind NoOperations = kind
chain_kind kind (ThenCompute o b os) = chain_kind kinds.Int os
chain_kind kind (ThenTest o b os) = chain_kind kinds.Int os
chain_kind kind (ThenPointer o b os) = chain_kind (operator_kind o) os
chain_kind kind (ThenPointerPeek n o b os) = chain_kind (operator_kind o) os

-- the representation kind of the pointer to a new object (non-null pointer or fat pointer)
abbrev pub made_kind : Initial → Kind
made_kind (Array p level n kind a) = kinds.Fat
made_kind i = kinds.NonNull

module _ (signatures : List Signature) where
  abbrev pub called_kind : Callee → Kind
  called_kind callees.Putchar = kinds.Int
  called_kind callees.Getchar = kinds.Int
  called_kind (callees.Function n) = result_kind (slice_get signatures n)

  abbrev pub given : Expression → Kind
  given NullPointer = kinds.Nullable
  given HeapRegion = kinds.Handle
  given (Load x) = kind_of (type_of_place x)
  given (Copy l t) = kind_of t
  given (New w i t) = made_kind i
  given (Move p n t) = kind_of t
  given (Peek p n t) = kind_of t
  given (Call f cs t) = called_kind f
  given (Binary a os t) = chain_kind (given a) os
  given (AddressOf l t) = kinds.NonNull
  given (AddressOfCell x t) = kinds.NonNull
  given (Assign l (Convert from to a) t) = to
  given (Store x (Convert from to a) t) = to
  given (Unary o a) = unary_kind o
  given a = kinds.Int

-- ---- the words of locals

-- the number of machine words of the local, or global, with this index
abbrev pub words_in : List Ty → ℕ → ℕ
words_in [] n = 0
words_in (t ∷ ts) zero = words_of t
words_in (t ∷ ts) (suc n) = words_in ts n

-- Holds if the local with this index has enough words for a value of this kind.
abbrev pub HasRoom : Types → ℕ → Kind → Type 0
HasRoom types n kind = words_of_kind kind ≤ words_in types.locals n

-- The representation kind (int, char, pointer, ..) of the local or global with index n in a list of types.
abbrev pub kind_in : List Ty → ℕ → Kind
kind_in [] n = kinds.Int
kind_in (t ∷ ts) zero = kind_of t
kind_in (t ∷ ts) (suc n) = kind_in ts n

-- Holds if a local has the representation kind `kind` (int, char, pointer, ..) and enough words for a value of this kind.
abbrev pub HasLocal : Types → ℕ → Kind → Type 0
HasLocal types n kind = HasRoom types n kind × (kind_in types.locals n ≡ kind)

-- Holds if the global with this index has enough words for a value of this kind.
abbrev pub HasGlobal : Types → ℕ → Kind → Type 0
HasGlobal types n kind = words_of_kind kind ≤ words_in types.globals n

-- Holds if a local or global has the representation kind (int, char, pointer, ..) of the target of pointers of type `pointer`.
abbrev pub HasVariable : List Ty → ℕ → (pointer : Ty) → Type 0
HasVariable ts n pointer = (t : Ty) × (slice_get ts n ≡ Some t) × (kind_after pointer ≡ kind_of t)

-- Holds if the struct with this index has a field with index `field`.
abbrev pub HasField : Types → (number field : ℕ) → Type 0
HasField types number field = (s : StructType) × (slice_get types.structs number ≡ Some s) × (field < length s.fields)

-- Holds if n is not one of the `many` numbers from `first` on.
abbrev pub Outside : (first many n : ℕ) → Type 0
Outside first many n = (n < first) ⊎ (first + many ≤ n)

-- the result of a unary operator is one word
pub unary_one_word : (o : UnaryOperator) → words_of_kind (unary_kind o) ≡ 1
unary_one_word unary.LowByte = refl
unary_one_word o = refl

-- A value is passed with as many words as the representation kind (int, char, pointer, ..) to which it is converted.
pub passed_is : (c : Converted) → passed_words c ≡ words_of_kind (kind_passed c)
passed_is (Convert from to a) = refl
