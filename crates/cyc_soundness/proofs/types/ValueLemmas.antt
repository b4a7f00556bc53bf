-- This file is about the results of operators, tests and conversions on typed values: a value of the expected type, or an exception.
use Rattle.std.proofs.Common.{◌≡◌, ℕ, ◌+◌, ◌<◌, Bool, true, false, List, ◌∷◌, Some, eqb, refl, sym, subst, ◌∙◌, arith}
use Rattle.std.specs.Prelude.{if◌then◌else◌, nat_lt}
use Rattle.std.proofs.lemmas.Bool.{ltb-true}
use Rattle.cyc_syntax.specs.declared.tree.PointerKind.{PointerKind}
use Rattle.cyc_syntax.specs.declared.tree.PointerKind.TheVariants as marks
use Rattle.cyc_types.specs.declared.typed.Kind.TheVariants as kinds
use Rattle.cyc_types.specs.declared.typed.Operator.{Operator}
use Rattle.cyc_types.specs.declared.typed.UnaryOperator.TheVariants as unary
use Rattle.cyc_types.specs.Types.{Ty, ValueType}
use Rattle.cyc_types.specs.Types as types
use Rattle.cyc_types.specs.declared.region.Region.{Region}
use Rattle.cyc_types.specs.Outlives.{RegionContext, IsGiven, itself, given, through}
use Rattle.cyc_types.specs.typing.Tests.{is_tested}
use Rattle.cyc_types.specs.typing.Tests as tests
use Rattle.cyc_types.specs.typing.WellTyped.{Context, Converts}
use Rattle.cyc_meaning.specs.Values.{Operand}
use Rattle.cyc_meaning.specs.Values as values
use Rattle.cyc_meaning.specs.Operators.{Gives, Raises, is_zero, binary_result, has_no_result, unary_result, binary_word, division_by_zero, array_bounds}
use Rattle.cyc_meaning.specs.Conversion.{conversion, thinned}
use Rattle.cyc_soundness.specs.inside.Lives.{Life, OfRegion, Owned, Kept, RunTy, Int, Char, Pointer, Handle, Key, Lives, at, value_at}
use Rattle.cyc_soundness.specs.inside.Worlds.{Typing, Outlasts, alike, heap as for_ever, globals as with_globals, stays, encloses, borrows, life_at, IsEndOf, whole, following, AgreesWith, IsTarget, HasType, IsResult, Fits}
use Rattle.cyc_soundness.proofs.types.TypeLemmas.{kind_read}

-- ---- lifetimes that last at least as long

pub ends_through : (ls ms : List ℕ) (n : ℕ) (ns : List ℕ) → IsEndOf ls ms → IsEndOf (n ∷ ms) ns → IsEndOf ls ns
ends_through ls ms n ns end whole = following n ms end
ends_through ls ms n ns end (following o os later) = following o os (ends_through ls ms n os end later)

pub outlasts_through : (a b c : Life) → Outlasts a b → Outlasts b c → Outlasts a c
outlasts_through a b c (alike _) second = second
outlasts_through a b c (for_ever _) second = for_ever c
outlasts_through a b c (with_globals _) second = with_globals c
outlasts_through a b c (stays r n ns us has) (alike _) = stays r n ns us has
outlasts_through a b c (stays r n ns us has) (for_ever _) = absurd (let k : false ≡ true = has in cc)
outlasts_through a b c (stays r n ns us has) (with_globals _) = absurd (let k : false ≡ true = has in cc)
outlasts_through a b c (stays r n ns us has) (encloses _ m _ ms _ vs end more) = stays r m ms vs (more r has)
outlasts_through a b c (borrows object) (alike _) = borrows object
outlasts_through a b c (encloses l m ls ms us vs end more) (alike _) = encloses l m ls ms us vs end more
outlasts_through a b c (encloses l m ls ms us vs end more) (for_ever _) = elim end [ ]
outlasts_through a b c (encloses l m ls ms us vs end more) (with_globals _) = elim end [ ]
outlasts_through a b c (encloses l m ls ms us vs end more) (encloses _ n _ ns _ ws next too) = encloses l n ls ns us ws (ends_through (l ∷ ls) ms m ns end next) (λ r is. too r (more r is))

-- The lifetime that a pointer's type states for the pointer's object outlasts the object's own lifetime.
pub lasts_itself : (object : ℕ) (l : Life) → Outlasts (life_at object l) l
lasts_itself object (OfRegion number ns us) = alike (OfRegion number ns us)
lasts_itself object Owned = borrows object
lasts_itself object (Kept a) = alike (Kept a)

-- If each outlives pair that a region context states also holds between the lifetimes of its two regions, then so does
-- each outlives pair that follows from the stated pairs.
pub given_agree : (c : RegionContext) (n : Lives) → ((a b : Region) → IsGiven c a b → Outlasts (n a) (n b)) → AgreesWith c n
given_agree c n agree a b (itself _) = alike (n a)
given_agree c n agree a b (given _ _ is) = agree a b is
given_agree c n agree a d (through _ b _ first second) = outlasts_through (n a) (n b) (n d) (given_agree c n agree a b first) (given_agree c n agree b d second)

module _ (g : Typing) where
  -- ---- ints and chars

  pub negated : (v : values.Value) → HasType g Int v → Fits g Int (unary_result unary.Negate v)
  negated (values.Int a) is = tt
  negated v is = absurd is

  pub complemented : (v : values.Value) → HasType g Int v → Fits g Int (unary_result unary.Complement v)
  complemented (values.Int a) is = tt
  complemented v is = absurd is

  pub widened : (v : values.Value) → HasType g Char v → Fits g Int (unary_result unary.Widen v)
  widened (values.Int a) is = tt
  widened v is = absurd is

  pub narrowed : (v : values.Value) → HasType g Int v → Fits g Char (unary_result unary.LowByte v)
  narrowed (values.Int a) is = tt
  narrowed v is = absurd is

  pub combined : (o : Operator) (a b : values.Value) → HasType g Int a → HasType g Int b → Fits g Int (binary_result o a b)
  combined o (values.Int a) (values.Int b) first second = go (has_no_result o b)
    where
      go : (none : Bool) → Fits g Int (if none then Raises division_by_zero else Gives (values.Int (binary_word o a b)))
      go true = tt
      go false = tt
  combined o (values.Int a) v first second = absurd second
  combined o v b first second = absurd first

  int_zero : (v : values.Value) → HasType g Int v → (b : Bool) × (is_zero v ≡ Some b)
  int_zero (values.Int a) is = (eqb a 0, refl)
  int_zero v is = absurd is

  pointer_zero : (k : PointerKind) (t : RunTy) (l : Life) (v : values.Value) → HasType g (Pointer k t l) v → (b : Bool) × (is_zero v ≡ Some b)
  pointer_zero k t l values.Null is = (true, refl)
  pointer_zero k t l (values.Thin object offset) is = (false, refl)
  pointer_zero k t l (values.Fat object start count index) is = (false, refl)
  pointer_zero marks.Nullable t l v is = absurd is
  pointer_zero marks.NonNull t l v is = absurd is
  pointer_zero marks.Fat t l v is = absurd is

  -- A value that is tested (for zero or null) is zero or is not zero.
  pub zero_is : (n : Lives) (t : ValueType) (v : Operand) → is_tested t ≡ true → IsResult g (value_at n t) v → (b : Bool) × (is_zero v.value ≡ Some b)
  zero_is n (types.Value types.Int) v tested is = int_zero v.value is.1
  zero_is n (types.Value (types.Pointer k t r)) v tested is = pointer_zero k (at n t) (n r) v.value is.1
  zero_is n t v tested is = absurd (let e : false ≡ true = tested in cc)

  -- ---- conversions

  int_converted : (v : values.Value) → HasType g Int v → Fits g Int (conversion kinds.Int v)
  int_converted (values.Int a) is = tt
  int_converted v is = absurd is

  low_converted : (v : values.Value) → HasType g Int v → Fits g Char (conversion kinds.Char v)
  low_converted (values.Int a) is = tt
  low_converted v is = absurd is

  char_converted : (v : values.Value) → HasType g Char v → Fits g Char (conversion kinds.Char v)
  char_converted (values.Int a) is = tt
  char_converted v is = absurd is

  char_to_int : (v : values.Value) → HasType g Char v → Fits g Int (conversion kinds.Int v)
  char_to_int (values.Int a) is = tt
  char_to_int v is = absurd is

  null_converted : (k : PointerKind) (t : RunTy) (l : Life) → Fits g (Pointer k t l) (conversion (tests.kind_of_mark k) values.Null)
  null_converted marks.Nullable t l = tt
  null_converted marks.NonNull t l = tt
  null_converted marks.Fat t l = tt

  only_target : (t : RunTy) (l : Life) (object offset i : ℕ) → i < 1 → IsTarget g t l object offset → IsTarget g t l object (offset + i)
  only_target t l object offset i less is = let e : offset ≡ offset + i = omega (arith, less) in subst (λ n. IsTarget g t l object n) e is

  thin_converted : (k : PointerKind) (t : RunTy) (l : Life) (object offset : ℕ) → IsTarget g t l object offset
      → Fits g (Pointer k t l) (conversion (tests.kind_of_mark k) (values.Thin object offset))
  thin_converted marks.Nullable t l object offset is = is
  thin_converted marks.NonNull t l object offset is = is
  thin_converted marks.Fat t l object offset is = λ i less. only_target t l object offset i less is

  thinned_nullable : (t : RunTy) (l : Life) (object start count index : ℕ) → ((i : ℕ) → i < count → IsTarget g t l object (start + i))
      → Fits g (Pointer marks.Nullable t l) (thinned object start count index)
  thinned_nullable t l object start count index is = go (nat_lt index count) refl
    where
      go : (b : Bool) → nat_lt index count ≡ b → Fits g (Pointer marks.Nullable t l) (if b then Gives (values.Thin object (start + index)) else Raises array_bounds)
      go true e = is index (ltb-true index count e)
      go false e = tt

  thinned_non_null : (t : RunTy) (l : Life) (object start count index : ℕ) → ((i : ℕ) → i < count → IsTarget g t l object (start + i))
      → Fits g (Pointer marks.NonNull t l) (thinned object start count index)
  thinned_non_null t l object start count index is = go (nat_lt index count) refl
    where
      go : (b : Bool) → nat_lt index count ≡ b → Fits g (Pointer marks.NonNull t l) (if b then Gives (values.Thin object (start + index)) else Raises array_bounds)
      go true e = is index (ltb-true index count e)
      go false e = tt

  fat_converted : (k : PointerKind) (t : RunTy) (l : Life) (object start count index : ℕ) → ((i : ℕ) → i < count → IsTarget g t l object (start + i))
      → Fits g (Pointer k t l) (conversion (tests.kind_of_mark k) (values.Fat object start count index))
  fat_converted marks.Nullable t l object start count index is = thinned_nullable t l object start count index is
  fat_converted marks.NonNull t l object start count index is = thinned_non_null t l object start count index is
  fat_converted marks.Fat t l object start count index is = is

  pointer_converted : (k m : PointerKind) (t : RunTy) (l : Life) (v : values.Value) → HasType g (Pointer k t l) v → Fits g (Pointer m t l) (conversion (tests.kind_of_mark m) v)
  pointer_converted marks.Nullable m t l values.Null is = null_converted m t l
  pointer_converted marks.Nullable m t l (values.Thin object offset) is = thin_converted m t l object offset is
  pointer_converted marks.NonNull m t l (values.Thin object offset) is = thin_converted m t l object offset is
  pointer_converted marks.Fat m t l values.Null is = null_converted m t l
  pointer_converted marks.Fat m t l (values.Fat object start count index) is = fat_converted m t l object start count index is
  pointer_converted k m t l v is = absurd is

  handle_converted : (l : Life) (v : values.Value) → HasType g (Handle l) v → Fits g (Handle l) (conversion kinds.Handle v)
  handle_converted l (values.Handle region) is = is
  handle_converted l v is = absurd is

  key_converted : (l : Life) (v : values.Value) → HasType g (Key l) v → Fits g (Key l) (conversion kinds.Key v)
  key_converted l (values.Key region) is = is
  key_converted l v is = absurd is

  -- If a pointer's lifetime outlasts another lifetime, then the pointer keeps its target when it gets the shorter lifetime.
  shortened : (t : RunTy) (l m : Life) (object offset : ℕ) → Outlasts l m → IsTarget g t l object offset → IsTarget g t m object offset
  shortened t l m object offset outlasts (x, there, shown, lasts, part) = (x, there, shown, outlasts_through (life_at object x.life) l m lasts outlasts, part)

  pointer_shortened : (k : PointerKind) (t : RunTy) (l m : Life) (v : values.Value) → Outlasts l m → HasType g (Pointer k t l) v → HasType g (Pointer k t m) v
  pointer_shortened marks.Nullable t l m values.Null outlasts is = tt
  pointer_shortened marks.Nullable t l m (values.Thin object offset) outlasts is = shortened t l m object offset outlasts is
  pointer_shortened marks.NonNull t l m (values.Thin object offset) outlasts is = shortened t l m object offset outlasts is
  pointer_shortened marks.Fat t l m values.Null outlasts is = tt
  pointer_shortened marks.Fat t l m (values.Fat object start count index) outlasts is = λ i less. shortened t l m object (start + i) outlasts (is i less)
  pointer_shortened k t l m v outlasts is = absurd is

  -- For all lifetimes of the regions, converting a convertible value yields a value of the target type.
  pub converted_by : (n : Lives) (c : Context) (s : ValueType) (t : Ty) (v : Operand) → AgreesWith c.regions n → Converts c s t → IsResult g (value_at n s) v
      → Fits g (at n t) (conversion (tests.kind_of t) v.value)
  converted_by n c (types.Value types.Int) types.Int v agrees conv is = int_converted v.value is.1
  converted_by n c (types.Value types.Int) types.Char v agrees conv is = low_converted v.value is.1
  converted_by n c (types.Value types.Char) types.Int v agrees conv is = char_to_int v.value is.1
  converted_by n c (types.Value types.Char) types.Char v agrees conv is = char_converted v.value is.1
  converted_by n c (types.Value (types.Pointer k t r)) (types.Pointer m u s) v agrees conv is =
      subst (λ z. Fits g (Pointer m (at n z) (n s)) (conversion (tests.kind_of_mark m) v.value)) conv.0
      (pointer_converted k m (at n t) (n s) v.value (pointer_shortened k (at n t) (n r) (n s) v.value (agrees r s conv.1) is.1))
  converted_by n c (types.Value (types.Handle r)) (types.Handle s) v agrees conv is =
      subst (λ z. Fits g (Handle (n z)) (conversion kinds.Handle v.value)) conv (handle_converted (n r) v.value is.1)
  converted_by n c (types.Value (types.Key r)) (types.Key s) v agrees conv is =
      subst (λ z. Fits g (Key (n z)) (conversion kinds.Key v.value)) conv (key_converted (n r) v.value is.1)
  converted_by n c types.Null (types.Pointer k t r) v agrees conv is =
      subst (λ z. Fits g (Pointer k (at n t) (n r)) (conversion (tests.kind_of_mark k) z)) (sym is.1) (null_converted k (at n t) (n r))
  converted_by n c s t v agrees conv is = absurd conv

  -- A value that is converted has the representation kind (int, char, pointer, ..) that the typed tree
  -- states as the source of the conversion.
  pub kind_given : (n : Lives) (c : Context) (s : ValueType) (t : Ty) (v : Operand) → Converts c s t → IsResult g (value_at n s) v → v.kind ≡ tests.kind_of_value s
  kind_given n c types.Void types.Int v conv is = absurd conv
  kind_given n c types.Void types.Char v conv is = absurd conv
  kind_given n c types.Void (types.Pointer k t r) v conv is = absurd conv
  kind_given n c types.Void (types.Handle r) v conv is = absurd conv
  kind_given n c types.Void (types.Key r) v conv is = absurd conv
  kind_given n c types.Void (types.Struct m rs) v conv is = absurd conv
  kind_given n c types.Null t v conv is = is.0
  kind_given n c (types.Value s) t v conv is = is.0 ∙ kind_read n s
