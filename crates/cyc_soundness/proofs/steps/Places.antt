-- This file is about the cells to which a pointer points, the stack entries that wait for such a cell, and operators on pointers.
use Rattle.std.proofs.Common.{◌≡◌, ◌⊎◌, inl, inr, ℕ, zero, suc, ◌+◌, ◌<◌, ◌≤◌, Bool, true, false, List, [], ◌∷◌, length, map, Option, Some, None, slice_get, refl, sym, ap, subst, ◌∙◌, arith}
use Rattle.std.specs.Prelude.{if◌then◌else◌, nat_lt, ◌==◌, ◌&&◌}
use Rattle.std.proofs.lemmas.Bool.{eq-eqb, ltb-true, and_from}
use Rattle.std.proofs.lemmas.List.{length-map}
use Rattle.std.proofs.lemmas.Option.{same_Some}
use Rattle.cyc_syntax.specs.declared.tree.PointerKind.{PointerKind}
use Rattle.cyc_syntax.specs.declared.tree.PointerKind.TheVariants as marks
use Rattle.cyc_words.specs.Word.{add_of, sub_of}
use Rattle.cyc_words.proofs.Items.{below_from_slice_get, slice_get-map}
use Rattle.cyc_types.specs.declared.region.Region.{Region as Named}
use Rattle.cyc_types.specs.declared.typed.Kind.{Kind}
use Rattle.cyc_types.specs.declared.typed.Kind.TheVariants as kinds
use Rattle.cyc_types.specs.declared.typed.PointerOperator.{PointerOperator}
use Rattle.cyc_types.specs.declared.typed.PointerOperator.TheVariants as operators
use Rattle.cyc_types.specs.Types.{Ty, ValueType, substituted_ty}
use Rattle.cyc_types.specs.Types as types
use Rattle.cyc_types.specs.TypedTrees.{Expression, Peek, Dereference, Target, Member, Element, peeked, StructType, Program}
use Rattle.cyc_types.specs.Rules.{Derives}
use Rattle.cyc_types.specs.typing.Tests.{is_thin_mark}
use Rattle.cyc_types.specs.typing.Tests as tests
use Rattle.cyc_types.specs.typing.Expressions.{assigned_type}
use Rattle.cyc_types.specs.typing.WellTyped.{Context, WellTyped, IsPeek, IsLive, IsCell, Converts, PointerOperation, adds, subtracts, equals, differs, thin_null, thin_there, fat_null, fat_there, null_is, null_is_not}
use Rattle.cyc_types.specs.flow.States as flow
use Rattle.cyc_types.specs.flow.States.{is_reached}
use Rattle.cyc_types.specs.flow.Expressions.{and_peeked, peek_of, peek_after, rule_place}
use Rattle.cyc_meaning.specs.Values.{Operand, Cell, is_kind, are_kinds, is_thin, kinds_of}
use Rattle.cyc_meaning.specs.Values as values
use Rattle.cyc_meaning.specs.Operators.{Result, Gives, Raises, Misfits, null_exception, array_bounds, truth}
use Rattle.cyc_meaning.specs.Pointers.{null_test, moved, element_count, pointer_result, takes_kind, followed, At, Stops, Nowhere}
use Rattle.cyc_meaning.specs.State.{Object, World, Found, Environment, ConvertTo, StoreCell, Follow, FollowMember, Index, Advance, AwaitingPlace, Entry, Needs, Focus, Evaluating, Given, GivenPlace, Throwing, Running}
use Rattle.cyc_meaning.specs.Objects.{object_at, both_found, compared}
use Rattle.cyc_meaning.specs.Parts.{target_of, target_of_value, target_by, is_target, cell_of, leads_to, wrong, computed, stored_at}
use Rattle.cyc_meaning.specs.Places.{arrives, follows, field_of, member_of, follows_member, indexes, advances, locates_member, step_locating, placed}
use Rattle.cyc_meaning.specs.inside.Nesting.{ends_of, AreOpen}
use Rattle.cyc_meaning.specs.Step.{tells, applies_pointer}
use Rattle.cyc_soundness.specs.inside.Lives.{Life, RunTy, RunValue, Value, looked, Lives, at, value_at, kind_at}
use Rattle.cyc_soundness.specs.inside.Lives as lives
use Rattle.cyc_soundness.specs.inside.Worlds.{ObjectType, Typing, IsFilled, IsPart, IsTarget, HasType, IsResult, Fits, AreCells, IsObject, IsTyped}
use Rattle.cyc_soundness.specs.inside.Frames.{InScope, IsBound, AreVariables, LiveIn, lives_among, Holds, Exits, IsContext, KnowsProgram, lives_in, read, read_value, IsThere}
use Rattle.cyc_soundness.specs.inside.Classes.{and_looked, InExpression, InPlace}
use Rattle.cyc_soundness.specs.inside.Judgements.{seen_by, EvaluatesWhole}
use Rattle.cyc_soundness.specs.inside.Awaited.{IsThrough, relied_at, Val, PlaceOf, WaitsPlace, of_cell, left_cell, KeepsPlace}
use Rattle.cyc_soundness.specs.inside.Awaited as awaited
use Rattle.cyc_soundness.specs.inside.Stacks.{IsStack, IsFocus, IsWell}
use Rattle.cyc_soundness.proofs.types.TypeLemmas.{target_typed, is_kind_same, mark_kinds, kind_meant}
use Rattle.cyc_soundness.proofs.states.WorldLemmas.{result_grown, typed_cell}
use Rattle.cyc_soundness.proofs.states.Hands.{at_no_hand, holds_kept, variables_kept}
use Rattle.cyc_soundness.proofs.types.Sharing.{region_common, plain_read, keeps_by}
use Rattle.cyc_soundness.proofs.states.StackClaims.{stack_changed}
use Rattle.cyc_soundness.proofs.states.StackLemmas.{part_alone}
use Rattle.cyc_soundness.proofs.states.StackLocals.{IsPresent, there_present}
use Rattle.cyc_soundness.proofs.types.RegionLemmas.{agrees_of, there_of}
use Rattle.cyc_soundness.proofs.types.CallRegions.{field_means}
use Rattle.cyc_soundness.proofs.flow.Looking.{looked_expression, peeked_so}
use Rattle.cyc_soundness.proofs.steps.Swapping.{left_spot, finds_right_on, both_on}
use Rattle.cyc_soundness.specs.inside.Worlds.{Hand, pointer_at, thing_of, Claims, ClaimsPart, ClaimsBy, IsHad, IsPlain}
use Rattle.cyc_soundness.proofs.states.Cells.{plain_claims, pointer_plain, part_had, running, part_at, target_live, reads_target, writes_target}

-- ---- pointers

-- Says that a thin pointer is null, or points to a cell.
data IsThin (g : Typing) (t : RunTy) (l : Life) : values.Value → Type 0 where
  is_null : IsThin g t l values.Null
  leads : (object offset : ℕ) → IsTarget g t l object offset → IsThin g t l (values.Thin object offset)

thin_value : (g : Typing) (m : PointerKind) (t : RunTy) (l : Life) (v : values.Value) → is_thin_mark m ≡ true → HasType g (lives.Pointer m t l) v → IsThin g t l v
thin_value g marks.Nullable t l values.Null thin has = is_null
thin_value g marks.Nullable t l (values.Thin object offset) thin has = leads object offset has
thin_value g marks.NonNull t l (values.Thin object offset) thin has = leads object offset has
thin_value g marks.Fat t l v thin has = absurd (let e : false ≡ true = thin in cc)
thin_value g m t l v thin has = absurd has

pub gives_same : (u v : values.Value) → Gives u ≡ Gives v → u ≡ v
gives_same u v e = let k : Gives u ≡ Gives v = e in cc

moved_fat : (g : Typing) (t : RunTy) (l : Life) (change : ℕ → ℕ) (v : values.Value) → HasType g (lives.Pointer marks.Fat t l) v → Fits g (lives.Pointer marks.Fat t l) (moved change v)
moved_fat g t l change values.Null has = tt
moved_fat g t l change (values.Fat object start count index) has = has
moved_fat g t l change v has = absurd has

added : (g : Typing) (t : RunTy) (l : Life) (left right : values.Value) → HasType g (lives.Pointer marks.Fat t l) left → HasType g lives.Int right → Fits g (lives.Pointer marks.Fat t l) (pointer_result operators.AddFat left right)
added g t l left (values.Int n) has int = moved_fat g t l (λ index. add_of index n) left has
added g t l left v has int = absurd int

subtracted : (g : Typing) (t : RunTy) (l : Life) (left right : values.Value) → HasType g (lives.Pointer marks.Fat t l) left → HasType g lives.Int right → Fits g (lives.Pointer marks.Fat t l) (pointer_result operators.SubtractFat left right)
subtracted g t l left (values.Int n) has int = moved_fat g t l (λ index. sub_of index n) left has
subtracted g t l left v has int = absurd int

element_count_fits : (g : Typing) (t : RunTy) (l : Life) (v : values.Value) → HasType g (lives.Pointer marks.Fat t l) v → Fits g lives.Int (element_count v)
element_count_fits g t l values.Null has = tt
element_count_fits g t l (values.Fat object start count index) has = tt
element_count_fits g t l v has = absurd has

null_tested : (g : Typing) (negated : Bool) (m : PointerKind) (t : RunTy) (l : Life) (v : values.Value) → HasType g (lives.Pointer m t l) v → Fits g lives.Int (null_test negated v)
null_tested g negated m t l values.Null has = tt
null_tested g negated m t l (values.Thin object offset) has = tt
null_tested g negated m t l (values.Fat object start count index) has = tt
null_tested g negated marks.Nullable t l v has = absurd has
null_tested g negated marks.NonNull t l v has = absurd has
null_tested g negated marks.Fat t l v has = absurd has

thin_kind : (m : PointerKind) → is_thin_mark m ≡ true → is_thin (values.kind_of_mark m) ≡ true
thin_kind marks.Nullable thin = refl
thin_kind marks.NonNull thin = refl
thin_kind marks.Fat thin = thin

fat_kind : (m : PointerKind) → is_thin_mark m ≡ false → values.kind_of_mark m ≡ kinds.Fat
fat_kind marks.Nullable fat = absurd (let e : true ≡ false = fat in cc)
fat_kind marks.NonNull fat = absurd (let e : true ≡ false = fat in cc)
fat_kind marks.Fat fat = refl

-- The left operand of a well-typed pointer operator has a pointer kind (nullable, non-null or fat) that the operator accepts.
pub takes_left : (n : Lives) (g : Typing) {c : Context} {o : PointerOperator} {u v w : ValueType} (left : Operand) → PointerOperation c o u v w → IsResult g (value_at n u) left → takes_kind o left.kind ≡ true
takes_left n g left (adds t r other) is = is_kind_same left.kind kinds.Fat is.0
takes_left n g left (subtracts t r other) is = is_kind_same left.kind kinds.Fat is.0
takes_left n g left (equals k l t r s one two here there) is = ap is_thin is.0 ∙ thin_kind k one
takes_left n g left (differs k l t r s one two here there) is = ap is_thin is.0 ∙ thin_kind k one
takes_left n g left (thin_null k t r thin) is = ap is_thin is.0 ∙ thin_kind k thin
takes_left n g left (thin_there k t r thin) is = ap is_thin is.0 ∙ thin_kind k thin
takes_left n g left (fat_null k t r fat) is = is_kind_same left.kind kinds.Fat (is.0 ∙ fat_kind k fat)
takes_left n g left (fat_there k t r fat) is = is_kind_same left.kind kinds.Fat (is.0 ∙ fat_kind k fat)
takes_left n g left (null_is k t r) is = ap is_thin is.0
takes_left n g left (null_is_not k t r) is = ap is_thin is.0

-- ---- peeks

not_peek : (c : Context) (a : Expression) (t : ValueType) → WellTyped c a t → peek_of a ≡ None
not_peek c (Peek p n u) t well = absurd well
not_peek c a t well = refl

seen_so : (c : Context) (a : Expression) (t : ValueType) (well : WellTyped c a t ⊎ IsPeek c a t) → seen_by a well ≡ peek_of a
seen_so c a t (inl well) = sym (not_peek c a t well)
seen_so c a t (inr peek) = refl

pub looked_result : (g : Typing) (peek : Option ℕ) (r : RunValue) (v : Operand) → IsResult g (looked peek r) v → IsResult g r v
looked_result g None r v is = is
looked_result g (Some n) (Value t) v is = is
looked_result g (Some n) lives.Void v is = is
looked_result g (Some n) lives.Null v is = is
looked_result g (Some n) (lives.Seen object t) v is = is
looked_result g (Some n) (lives.Into peek t) v is = is

pub looked_part : (g : Typing) (i : ℕ) (peek : Option ℕ) (t : RunTy) (v : values.Value) → ClaimsBy g i (looked peek (Value t)) v → ClaimsPart g i peek (thing_of t v)
looked_part g i None t v is = is.0
looked_part g i (Some n) t v is = is

looked_had : (g : Typing) (i : ℕ) (peek : Option ℕ) (t : RunTy) (v : values.Value) → ClaimsBy g i (looked peek (Value t)) v → IsHad g (thing_of t v)
looked_had g i peek t v is = part_had g i peek (thing_of t v) (looked_part g i peek t v is)

through_result : (g : Typing) (peek : Option ℕ) (t : RunTy) (r : RunValue) (v : Operand) → IsThrough peek t r → IsResult g r v → IsResult g (Value t) v
through_result g peek t r v (inl same) is = looked_result g peek (Value t) v (subst (λ z. IsResult g z v) same is)
through_result g peek t r v (inr same) is = subst (λ z. IsResult g z v) same is

through_part : (g : Typing) (i : ℕ) (peek : Option ℕ) (t : RunTy) (r : RunValue) (v : values.Value) → IsThrough peek t r → ClaimsBy g i r v → ClaimsPart g i peek (thing_of t v)
through_part g i peek t r v (inl same) is = looked_part g i peek t v (subst (λ z. ClaimsBy g i z v) same is)
through_part g i peek t r v (inr same) is = subst (λ z. ClaimsBy g i z v) same is

-- The value that an assignment passes on is not a linear resource.
pub moved_comes : (g : Typing) (i : ℕ) (bs : List InScope) (t : Ty) (v : values.Value) → AreVariables g bs → ClaimsBy g i (read_value bs (assigned_type t)) v
moved_comes g i bs t v variables = go (tests.is_moved t) refl
  where
    go : (b : Bool) → tests.is_moved t ≡ b → ClaimsBy g i (read_value bs (if b then types.Void else types.Value t)) v
    go true e = tt
    go false e = plain_claims g.own (Hand i) (read bs t) v (plain_read g bs variables t e)

-- Pointer arithmetic yields a pointer into the object of the original pointer.
moved_thing : (t : RunTy) (l : Life) (change : ℕ → ℕ) (v z : values.Value) → moved change v ≡ Gives z → thing_of (lives.Pointer marks.Fat t l) z ≡ thing_of (lives.Pointer marks.Fat t l) v
moved_thing t l change values.Null z same = ap (λ k. thing_of (lives.Pointer marks.Fat t l) k) (sym (gives_same values.Null z same))
moved_thing t l change (values.Fat object start count index) z same = ap (λ k. thing_of (lives.Pointer marks.Fat t l) k) (sym (gives_same (values.Fat object start count (change index)) z same))
moved_thing t l change (values.Int n) z same = absurd (let k : Misfits ≡ Gives z = same in cc)
moved_thing t l change (values.Thin object offset) z same = absurd (let k : Misfits ≡ Gives z = same in cc)
moved_thing t l change (values.Handle n) z same = absurd (let k : Misfits ≡ Gives z = same in cc)
moved_thing t l change (values.Key n) z same = absurd (let k : Misfits ≡ Gives z = same in cc)

added_thing : (t : RunTy) (l : Life) (left right z : values.Value) → pointer_result operators.AddFat left right ≡ Gives z → thing_of (lives.Pointer marks.Fat t l) z ≡ thing_of (lives.Pointer marks.Fat t l) left
added_thing t l left (values.Int n) z same = moved_thing t l (λ index. add_of index n) left z same
added_thing t l left values.Null z same = absurd (let k : Misfits ≡ Gives z = same in cc)
added_thing t l left (values.Thin object offset) z same = absurd (let k : Misfits ≡ Gives z = same in cc)
added_thing t l left (values.Fat object start count index) z same = absurd (let k : Misfits ≡ Gives z = same in cc)
added_thing t l left (values.Handle n) z same = absurd (let k : Misfits ≡ Gives z = same in cc)
added_thing t l left (values.Key n) z same = absurd (let k : Misfits ≡ Gives z = same in cc)

-- ---- structs

-- Cells of the given types have the representation kinds (int, char, pointer, ..) of these types.
kinds_typed : (l : Lives) (g : Typing) (ts : List Ty) (cs : List Cell) (n : ℕ) → AreCells g (map (at l) ts) cs n → are_kinds (kinds_of cs) (map values.kind_of ts) ≡ true
kinds_typed l g [] [] n are = refl
kinds_typed l g [] (c ∷ cs) n are = absurd are
kinds_typed l g (t ∷ ts) [] n are = absurd are
kinds_typed l g (t ∷ ts) (c ∷ cs) zero (one, are) = and_from (is_kind c.kind (values.kind_of t)) (are_kinds (kinds_of cs) (map values.kind_of ts)) (is_kind_same c.kind (values.kind_of t) (one.0 ∙ kind_meant l t)) (kinds_typed l g ts cs zero are)
kinds_typed l g (t ∷ ts) (c ∷ cs) (suc n) (one, are) = and_from (is_kind c.kind (values.kind_of t)) (are_kinds (kinds_of cs) (map values.kind_of ts)) (is_kind_same c.kind (values.kind_of t) (one.0 ∙ kind_meant l t)) (kinds_typed l g ts cs n are)

-- ---- the target of a pointer is the one that the tree states

abbrev leads_nowhere : RunTy → Type 0
leads_nowhere (lives.Pointer k t l) = ⊥
leads_nowhere t = Unit {0}

module _ (g : Typing) (w : World) (typed : IsTyped g w.regions w.objects) where
  -- The cell of an object has the type that the typed tree states.
  value_there : (l : Lives) (y : ObjectType) (t : Ty) (offset : ℕ) (z : Object) (n : ℕ) → IsObject g n y z → slice_get y.cells offset ≡ Some (at l t)
      → is_target (Some (values.kind_of t)) offset (slice_get z.cells offset) ≡ true
  value_there l y t offset z n is here =
      let c = typed_cell g y.cells z.cells n offset (at l t) is.cells here in
      ap (λ o. is_target (Some (values.kind_of t)) offset o) c.at ∙ is_kind_same c.cell.kind (values.kind_of t) (c.kind ∙ kind_meant l t)

  part_there : (l : Lives) (object : ℕ) (y : ObjectType) (t : Ty) (offset : ℕ) (z : Object) (n : ℕ) → IsPart g object y (at l t) offset → IsObject g n y z → is_target (target_of t) offset (slice_get z.cells offset) ≡ true
  part_there l object y types.Int offset z n part is = value_there l y types.Int offset z n is part.0
  part_there l object y types.Char offset z n part is = value_there l y types.Char offset z n is part.0
  part_there l object y (types.Pointer k t r) offset z n part is = value_there l y (types.Pointer k t r) offset z n is part.0
  part_there l object y (types.Handle r) offset z n part is = value_there l y (types.Handle r) offset z n is part.0
  part_there l object y (types.Key r) offset z n part is = value_there l y (types.Key r) offset z n is part.0
  part_there l object y (types.Struct m rs) offset z n part is = eq-eqb offset 0 part.0

  is_target_of : (l : Lives) (t : Ty) (m : Life) (object offset : ℕ) → IsTarget g (at l t) m object offset → leads_to w (target_of t) (At object offset) ≡ true
  is_target_of l t m object offset (y, there, shown, outlasts, part) =
      let (z, n, stands, flag, is) = typed.each object y there in
      ap (λ o. is_target (target_of t) offset (cell_of o offset)) stands ∙ part_there l object y t offset z n part is

  pub leads_there : (l : Lives) (k : PointerKind) (t : Ty) (m : Life) (v : values.Value) → HasType g (lives.Pointer k (at l t) m) v → leads_to w (target_of t) (followed v) ≡ true
  leads_there l k t m values.Null has = refl
  leads_there l marks.Nullable t m (values.Thin object offset) has = is_target_of l t m object offset has
  leads_there l marks.NonNull t m (values.Thin object offset) has = is_target_of l t m object offset has
  leads_there l marks.Fat t m (values.Fat object start count index) has = go (nat_lt index count) refl
    where
      go : (b : Bool) → nat_lt index count ≡ b → leads_to w (target_of t) (if b then At object (start + index) else Stops array_bounds) ≡ true
      go true less = is_target_of l t m object (start + index) (has index (ltb-true index count less))
      go false less = refl
  leads_there l marks.Nullable t m v has = absurd has
  leads_there l marks.NonNull t m v has = absurd has
  leads_there l marks.Fat t m v has = absurd has

  no_pointer : (t : RunTy) (target : Option Kind) (v : values.Value) → leads_nowhere t → HasType g t v → leads_to w target (followed v) ≡ true
  no_pointer lives.Int target (values.Int n) plain has = refl
  no_pointer lives.Char target (values.Int n) plain has = refl
  no_pointer (lives.Handle l) target (values.Handle r) plain has = refl
  no_pointer (lives.Key l) target (values.Key r) plain has = refl
  no_pointer (lives.Pointer k t l) target v plain has = absurd plain
  no_pointer t target v plain has = absurd has

  -- A pointer value points to an object of the target type that the typed tree states, even if this value is then converted to
  -- another type.
  pub converted_leads : (l : Lives) (c : Context) (s : ValueType) (t : Ty) (v : Operand) → Converts c s t → IsResult g (value_at l s) v → leads_to w (target_of_value s) (followed v.value) ≡ true
  converted_leads l c (types.Value types.Int) t v conv is = no_pointer lives.Int None v.value tt is.1
  converted_leads l c (types.Value types.Char) t v conv is = no_pointer lives.Char None v.value tt is.1
  converted_leads l c (types.Value (types.Pointer k u r)) t v conv is = leads_there l k u (l r) v.value is.1
  converted_leads l c (types.Value (types.Handle r)) t v conv is = no_pointer (lives.Handle (l r)) None v.value tt is.1
  converted_leads l c (types.Value (types.Key r)) t v conv is = no_pointer (lives.Key (l r)) None v.value tt is.1
  converted_leads l c (types.Value (types.Struct n rs)) t v conv is = absurd is.1
  converted_leads l c types.Null t v conv is = ap (λ z. leads_to w None (followed z)) is.1
  converted_leads l c types.Void types.Int v conv is = absurd conv
  converted_leads l c types.Void types.Char v conv is = absurd conv
  converted_leads l c types.Void (types.Pointer k t r) v conv is = absurd conv
  converted_leads l c types.Void (types.Handle r) v conv is = absurd conv
  converted_leads l c types.Void (types.Key r) v conv is = absurd conv
  converted_leads l c types.Void (types.Struct n rs) v conv is = absurd conv

module _ (p : Program) (g : Typing) (x : Exits) (bs : List InScope) (e : Environment) (w : World) (typed : IsTyped g w.regions w.objects) (globals : KnowsProgram g p) (bound : IsBound e.locals e.counters bs) (variables : AreVariables g bs) where
  on : (focus : Focus) (k : List Entry) → LiveIn k bs → IsFocus p g x bs focus k → IsWell p (Running focus k e w)
  on focus k live stands = running p g x bs e w typed globals bound variables focus k live stands

  -- Passing a computed value to the stack yields a well-typed run state.
  pub gives_by : (k : List Entry) (kind : Kind) (t : RunTy) (f : flow.State) (r : Result) → LiveIn k bs → Holds g f bs → kind ≡ kind_at t → Fits g t r → ((v : values.Value) → r ≡ Gives v → Claims g.own (Hand (awaited.operands_in k)) t v)
      → IsStack p g x bs (Val (Value t) f) k → IsWell p (computed kind r k e w)
  gives_by k kind t f (Gives v) live holds same fits comes stack = on (Given (record { kind = kind; value = v })) k live (Value t, f, holds, (same, fits), comes v refl, stack)
  gives_by k kind t f (Raises tag) live holds same fits comes stack = on (Throwing tag 0) k live (Val (Value t) f, stack)
  gives_by k kind t f Misfits live holds same fits comes stack = absurd fits

  -- The computed result that the step passes to the stack is a pointer into an object. The pointer to this object was read from a local by
  -- a peek (without a move), or an operand on the stack owns it.
  gives_into : (k : List Entry) (peek : Option ℕ) (kind : Kind) (t : RunTy) (f : flow.State) (r : Result) → LiveIn k bs → Holds g f bs → kind ≡ kind_at t → Fits g t r → ((v : values.Value) → r ≡ Gives v → ClaimsPart g (awaited.operands_in k) peek (thing_of t v))
      → IsStack p g x bs (Val (lives.Into peek t) f) k → IsWell p (computed kind r k e w)
  gives_into k peek kind t f (Gives v) live holds same fits comes stack = on (Given (record { kind = kind; value = v })) k live (lives.Into peek t, f, holds, (same, fits), comes v refl, stack)
  gives_into k peek kind t f (Raises tag) live holds same fits comes stack = on (Throwing tag 0) k live (Val (lives.Into peek t) f, stack)
  gives_into k peek kind t f Misfits live holds same fits comes stack = absurd fits

  -- The computed result that the step passes to the stack is a value that is not a linear resource (key or unique pointer).
  pub gives : (k : List Entry) (kind : Kind) (t : RunTy) (f : flow.State) (r : Result) → LiveIn k bs → Holds g f bs → IsPlain t → kind ≡ kind_at t → Fits g t r → IsStack p g x bs (Val (Value t) f) k
      → IsWell p (computed kind r k e w)
  gives k kind t f r live holds plain same fits stack = gives_by k kind t f r live holds same fits (λ v given. plain_claims g.own (Hand (awaited.operands_in k)) t v plain) stack

  -- ---- evaluating a place

  pub locate : (d : Dereference) (k : List Entry) (c : Context) (t : Ty) (f h : flow.State) (q : List ℕ) (r : Named) → LiveIn k bs → IsContext p x bs c → Holds g f bs → IsCell c d t r → Derives (rule_place q d f) h → InPlace (relied_at x.relied k) d
      → IsStack p g x bs (PlaceOf (peek_after d) (read bs t) (lives_in bs r) h) k → IsWell p (step_locating p d k e w)
  locate (Target pk a u) k c t f h q r live stands holds (m, well, alive, kind, same) flows kept stack =
      on (Evaluating a) (Needs (Follow pk (target_of u)) ∷ k) live (
        c,
        types.Value (types.Pointer m u r),
        f,
        h,
        stands,
        holds,
        record { waiting = q; typed = well; flows = flows; kept = kept },
        (
          [],
          bs,
          PlaceOf (peek_of a) (read bs u) (lives_in bs r) h,
          awaited.follows (peek_of a) (looked (seen_by a well) (Value (lives.Pointer m (read bs u) (lives_in bs r)))) m u r h
              (inl (ap (λ o. looked o (Value (lives.Pointer m (read bs u) (lives_in bs r)))) (seen_so c a (types.Value (types.Pointer m u r)) well))) kind refl (there_of p x bs c stands r alive),
          tt,
          subst (λ z. IsStack p g x bs (PlaceOf (peek_of a) (read bs z) (lives_in bs r) h) k) same stack,
        ),
      )
  locate (Member pk a n field u) k c t f h q r live stands holds (m, rs, s, v, well, thin, alive, kind, found, there, of, same) flows kept stack =
      let struct : slice_get p.structs n ≡ Some s = ap (λ ss. slice_get ss n) (sym stands.structs) ∙ found in
      let ls = map (lives_in bs) rs in
      let means = λ (enough : length ls ≡ s.parameters). field_means bs rs s v (sym (length-map rs (lives_in bs)) ∙ enough) (globals.fields n s struct field v there) in
      subst (λ o. IsWell p (locates_member o pk a field k e w)) (sym struct)
      (on (Evaluating a) (Needs (FollowMember pk (map values.kind_of s.fields) field) ∷ k) live (
        c,
        types.Value (types.Pointer m (types.Struct n rs) r),
        f,
        h,
        stands,
        holds,
        record { waiting = q; typed = well; flows = flows; kept = kept },
        subst (λ o. IsStack p g x bs (Val (looked o (Value (lives.Pointer m (lives.Struct n ls) (lives_in bs r)))) h) (Needs (FollowMember pk (map values.kind_of s.fields) field) ∷ k)) (sym (seen_so c a (types.Value (types.Pointer m (types.Struct n rs) r)) well)) (
          [],
          bs,
          PlaceOf (peek_of a) (read bs (substituted_ty rs v)) (lives_in bs r) h,
          awaited.follows_member (peek_of a) m n ls s v (read bs (substituted_ty rs v)) r h kind struct refl there means (there_of p x bs c stands r alive),
          tt,
          subst (λ z. IsStack p g x bs (PlaceOf (peek_of a) (read bs z) (lives_in bs r) h) k) (same ∙ of) stack,
        ),
      ))
  locate (Element a i u) k c t f h q r live stands holds (well, index, alive, same) (f1, d, di) (ka, ki) stack =
      on (Evaluating a) (Needs (Index (peeked (Element a i u)) (target_of u) i) ∷ k) live (
        c,
        types.Value (types.Pointer marks.Fat u r),
        f,
        f1,
        stands,
        holds,
        record { waiting = q; typed = well; flows = d; kept = ka },
        subst (λ o. IsStack p g x bs (Val (looked o (Value (lives.Pointer marks.Fat (read bs u) (lives_in bs r)))) f1) (Needs (Index (peeked (Element a i u)) (target_of u) i) ∷ k))
            (peeked_so (Element a i u) ∙ sym (seen_so c a (types.Value (types.Pointer marks.Fat u r)) well)) (
              [],
              bs,
              PlaceOf (peeked (Element a i u)) (read bs u) (lives_in bs r) h,
              awaited.indexes c u r f1 h stands (λ reached. (
                record {
                  waiting = and_peeked (peek_of a) q;
                  typed = inl index;
                  flows = di;
                  kept = subst (λ o. InExpression (and_looked o (relied_at x.relied k)) i) (sym (peeked_so (Element a i u))) (looked_expression (relied_at x.relied k) (peek_of a) i q f1 h reached di ki);
                },
                refl,
              )) refl (there_of p x bs c stands r alive),
              tt,
              subst (λ o. IsStack p g x bs (PlaceOf o (read bs u) (lives_in bs r) h) k) (sym (peeked_so (Element a i u))) (subst (λ z. IsStack p g x bs (PlaceOf (peek_of a) (read bs z) (lives_in bs r) h) k) same stack),
            ),
      )

  arrived : (peek : Option ℕ) (m : PointerKind) (t : RunTy) (l : Life) (v : values.Value) (k : List Entry) (f : flow.State) → LiveIn k bs → Holds g f bs → HasType g (lives.Pointer m t l) v → ClaimsPart g (awaited.operands_in k) peek (thing_of (lives.Pointer m t l) v)
      → IsStack p g x bs (PlaceOf peek t l f) k → IsWell p (arrives (followed v) k e w)
  arrived peek marks.Nullable t l values.Null k f live holds has part stack = on (Throwing null_exception 0) k live (PlaceOf peek t l f, stack)
  arrived peek marks.Nullable t l (values.Thin object offset) k f live holds has part stack = on (GivenPlace (values.Thin object offset)) k live (peek, t, l, f, holds, has, part, stack)
  arrived peek marks.NonNull t l (values.Thin object offset) k f live holds has part stack = on (GivenPlace (values.Thin object offset)) k live (peek, t, l, f, holds, has, part, stack)
  arrived peek marks.Fat t l values.Null k f live holds has part stack = on (Throwing null_exception 0) k live (PlaceOf peek t l f, stack)
  arrived peek marks.Fat t l (values.Fat object start count index) k f live holds has part stack = go (nat_lt index count) refl
    where
      go : (b : Bool) → nat_lt index count ≡ b → IsWell p (arrives (if b then At object (start + index) else Stops array_bounds) k e w)
      go true less = on (GivenPlace (values.Thin object (start + index))) k live (peek, t, l, f, holds, has index (ltb-true index count less), part, stack)
      go false less = on (Throwing array_bounds 0) k live (PlaceOf peek t l f, stack)
  arrived peek m t l v k f live holds has part stack = absurd has

  pub follow_on : (peek : Option ℕ) (r : RunValue) (m : PointerKind) (pk : Kind) (target : Option Kind) (t : Ty) (l : Life) (v : Operand) (k : List Entry) (f : flow.State) → LiveIn k bs → Holds g f bs → IsThrough peek (lives.Pointer m (read bs t) l) r → pk ≡ tests.kind_of_mark m → target ≡ target_of t
      → IsResult g r v → ClaimsBy g (awaited.operands_in k) r v.value → IsStack p g x bs (PlaceOf peek (read bs t) l f) k → IsWell p (follows pk target v k e w)
  follow_on peek r m pk target t l v k f live holds through kind same is' comes stack =
      let is = through_result g peek (lives.Pointer m (read bs t) l) r v through is' in
      let part = through_part g (awaited.operands_in k) peek (lives.Pointer m (read bs t) l) r v.value through comes in
      let leads_so : leads_to w target (followed v.value) ≡ true = ap (λ z. leads_to w z (followed v.value)) same ∙ leads_there g w typed (lives_in bs) m t l v.value is.1 in
      subst (λ (b : Bool). IsWell p (if b then arrives (followed v.value) k e w else wrong w))
      (sym (and_from (is_kind v.kind pk) (leads_to w target (followed v.value)) (is_kind_same v.kind pk (is.0 ∙ mark_kinds m ∙ sym kind)) leads_so))
      (arrived peek m (read bs t) l v.value k f live holds is.1 part stack)

  -- ---- fields

  -- A step that looks up a field of an object that is a struct finds the field's cell, and yields a well-typed run state.
  field_found : (n : ℕ) (ls : List Life) (s : StructType) (t : Ty) (u : RunTy) (l : Life) (field object offset : ℕ) (peek : Option ℕ) (k : List Entry) (f : flow.State) → LiveIn k bs → Holds g f bs
      → slice_get p.structs n ≡ Some s → slice_get s.fields field ≡ Some t → (length ls ≡ s.parameters → at (lives_among ls) t ≡ u) → IsTarget g (lives.Struct n ls) l object offset
      → ClaimsPart g (awaited.operands_in k) peek (pointer_at l object) → IsStack p g x bs (PlaceOf peek u l f) k → IsWell p (arrives (member_of w (At object offset) (map values.kind_of s.fields) field) k e w)
  field_found n ls s t u l field object offset peek k f live holds struct there means (y, at', shown, outlasts, (first, fields, (m, flag, full))) claims stack =
      let (z, count, stands, filled, is) = typed.each object y at' in
      let enough : length ls ≡ s.parameters = globals.counts n s ls y.cells struct fields in
      let ts : List RunTy = map (at (lives_among ls)) s.fields in
      let cells : y.cells ≡ ts = same_Some y.cells ts (sym fields ∙ globals.structs n s ls struct enough) in
      let alike : are_kinds (kinds_of z.cells) (map values.kind_of s.fields) ≡ true = kinds_typed (lives_among ls) g s.fields z.cells count (subst (λ ts. AreCells g ts z.cells count) cells is.cells) in
      let found : slice_get y.cells field ≡ Some u = ap (λ us. slice_get us field) cells ∙ slice_get-map (at (lives_among ls)) s.fields field t there ∙ ap (λ z. Some z) (means enough) in
      let within : field < length y.cells = below_from_slice_get y.cells field u found in
      let some : IsFilled g object (suc field) = (m, flag, (let le : suc field ≤ m = omega (arith, within, full) in le)) in
      let test : ((offset == 0) && are_kinds (kinds_of z.cells) (map values.kind_of s.fields)) ≡ true = and_from (offset == 0) (are_kinds (kinds_of z.cells) (map values.kind_of s.fields)) (eq-eqb offset 0 first) alike in
      subst (λ o. IsWell p (arrives (field_of o object offset (map values.kind_of s.fields) field) k e w)) (sym stands)
      (subst (λ (b : Bool). IsWell p (arrives (if b then At object field else Nowhere) k e w)) (sym test)
      (on (GivenPlace (values.Thin object field)) k live (peek, u, l, f, holds, (y, at', shown, outlasts, part_at g w typed object y u field at' found some), claims, stack)))

  members : (peek : Option ℕ) (m : PointerKind) (n : ℕ) (ls : List Life) (s : StructType) (t : Ty) (u : RunTy) (l : Life) (field : ℕ) (v : values.Value) (k : List Entry) (f : flow.State) → LiveIn k bs
      → Holds g f bs → slice_get p.structs n ≡ Some s → slice_get s.fields field ≡ Some t → (length ls ≡ s.parameters → at (lives_among ls) t ≡ u)
      → HasType g (lives.Pointer m (lives.Struct n ls) l) v → ClaimsPart g (awaited.operands_in k) peek (thing_of (lives.Pointer m (lives.Struct n ls) l) v) → IsStack p g x bs (PlaceOf peek u l f) k → IsWell p (arrives (member_of w (followed v) (map values.kind_of s.fields) field) k e w)
  members peek marks.Nullable n ls s t u l field values.Null k f live holds struct there means has part stack = on (Throwing null_exception 0) k live (PlaceOf peek u l f, stack)
  members peek marks.Nullable n ls s t u l field (values.Thin object offset) k f live holds struct there means has part stack =
      field_found n ls s t u l field object offset peek k f live holds struct there means has part stack
  members peek marks.NonNull n ls s t u l field (values.Thin object offset) k f live holds struct there means has part stack =
      field_found n ls s t u l field object offset peek k f live holds struct there means has part stack
  members peek marks.Fat n ls s t u l field values.Null k f live holds struct there means has part stack = on (Throwing null_exception 0) k live (PlaceOf peek u l f, stack)
  members peek marks.Fat n ls s t u l field (values.Fat object start count index) k f live holds struct there means has part stack = go (nat_lt index count) refl
    where
      go : (b : Bool) → nat_lt index count ≡ b → IsWell p (arrives (member_of w (if b then At object (start + index) else Stops array_bounds) (map values.kind_of s.fields) field) k e w)
      go true less = field_found n ls s t u l field object (start + index) peek k f live holds struct there means (has index (ltb-true index count less)) part stack
      go false less = on (Throwing array_bounds 0) k live (PlaceOf peek u l f, stack)
  members peek m n ls s t u l field v k f live holds struct there means has part stack = absurd has

  pub member_on : (peek : Option ℕ) (m : PointerKind) (pk : Kind) (fields : List Kind) (n : ℕ) (ls : List Life) (s : StructType) (t : Ty) (u : RunTy) (l : Life) (field : ℕ) (v : Operand) (k : List Entry) (f : flow.State)
      → LiveIn k bs → Holds g f bs → pk ≡ tests.kind_of_mark m → fields ≡ map values.kind_of s.fields → slice_get p.structs n ≡ Some s → slice_get s.fields field ≡ Some t
      → (length ls ≡ s.parameters → at (lives_among ls) t ≡ u) → IsResult g (looked peek (Value (lives.Pointer m (lives.Struct n ls) l))) v → ClaimsBy g (awaited.operands_in k) (looked peek (Value (lives.Pointer m (lives.Struct n ls) l))) v.value
      → IsStack p g x bs (PlaceOf peek u l f) k → IsWell p (follows_member pk fields field v k e w)
  member_on peek m pk fields n ls s t u l field v k f live holds kind fields_are struct there means is' comes stack =
      let is = looked_result g peek (Value (lives.Pointer m (lives.Struct n ls) l)) v is' in
      subst (λ ks. IsWell p (follows_member pk ks field v k e w)) (sym fields_are)
      (subst (λ (b : Bool). IsWell p (if b then arrives (member_of w (followed v.value) (map values.kind_of s.fields) field) k e w else wrong w)) (sym (is_kind_same v.kind pk (is.0 ∙ mark_kinds m ∙ sym kind)))
      (members peek m n ls s t u l field v.value k f live holds struct there means is.1 (looked_part g (awaited.operands_in k) peek (lives.Pointer m (lives.Struct n ls) l) v.value comes) stack))

  -- ---- elements

  pub index_on : (peek : Option ℕ) (target : Option Kind) (index : Expression) (c : Context) (t : Ty) (r : Named) (base : Operand) (k : List Entry) (f h : flow.State) → LiveIn k bs → Holds g f bs → IsContext p x bs c
      → (is_reached f ≡ true → EvaluatesWhole (and_looked peek (relied_at x.relied k)) c index f (types.Value types.Int) h) → target ≡ target_of t → IsThere bs r → IsResult g (looked peek (Value (lives.Pointer marks.Fat (read bs t) (lives_in bs r)))) base
      → ClaimsBy g (awaited.operands_in k) (looked peek (Value (lives.Pointer marks.Fat (read bs t) (lives_in bs r)))) base.value → IsStack p g x bs (PlaceOf peek (read bs t) (lives_in bs r) h) k → IsWell p (indexes peek target index base k e w)
  index_on peek target index c t r base k f h live holds stands evaluates same alive is' comes stack =
      let u = lives.Pointer marks.Fat (read bs t) (lives_in bs r) in
      let is = looked_result g peek (Value u) base is' in
      let (now, whole) = evaluates holds.0 in
      subst (λ (b : Bool). IsWell p (if b then Running (Evaluating index) (Needs (Advance peek target base) ∷ k) e w else wrong w)) (sym (is_kind_same base.kind kinds.Fat is.0))
      (on (Evaluating index) (Needs (Advance peek target base) ∷ k) live (
        c,
        types.Value types.Int,
        f,
        h,
        stands,
        holds,
        now,
        subst (λ o. IsStack p g x bs (Val (looked o (Value lives.Int)) h) (Needs (Advance peek target base) ∷ k)) (sym whole)
            (u ∷ [], bs, PlaceOf peek (read bs t) (lives_in bs r) h, awaited.advances t r h same alive, ((is, tt), looked_part g (awaited.operands_in k) peek u base.value comes), stack),
      ))

  pub advance_on : (peek : Option ℕ) (t : Ty) (r : Named) (target : Option Kind) (base index : Operand) (k : List Entry) (f : flow.State) → LiveIn k bs → Holds g f bs → target ≡ target_of t → IsThere bs r → IsResult g (Value (lives.Pointer marks.Fat (read bs t) (lives_in bs r))) base
      → ClaimsPart g (awaited.operands_in k) peek (thing_of (lives.Pointer marks.Fat (read bs t) (lives_in bs r)) base.value) → IsResult g (Value lives.Int) index → IsStack p g x bs (PlaceOf peek (read bs t) (lives_in bs r) f) k → IsWell p (advances target base index k e w)
  advance_on peek t r target base index k f live holds same alive is part int stack =
      let u = lives.Pointer marks.Fat (read bs t) (lives_in bs r) in
      let under : awaited.operands_in k ≡ 0 + awaited.operands_in k = omega arith in
      gives_into (Needs (Follow kinds.Fat target) ∷ k) peek kinds.Fat u f (pointer_result operators.AddFat base.value index.value) live holds refl (added g (read bs t) (lives_in bs r) base.value index.value is.1 int.1)
      (λ v given. subst (λ o. ClaimsPart g (0 + awaited.operands_in k) peek o) (sym (added_thing (read bs t) (lives_in bs r) base.value index.value v given)) (subst (λ i. ClaimsPart g i peek (thing_of u base.value)) under part))
      ([], bs, PlaceOf peek (read bs t) (lives_in bs r) f, awaited.follows peek (lives.Into peek u) marks.Fat t r f (inr refl) refl same alive, tt, stack)

  pub count_on : (peek : Option ℕ) (t : RunTy) (l : Life) (v : Operand) (k : List Entry) (f : flow.State) → LiveIn k bs → Holds g f bs → IsResult g (looked peek (Value (lives.Pointer marks.Fat t l))) v → IsStack p g x bs (Val (Value lives.Int) f) k
      → IsWell p (computed kinds.Int (element_count v.value) k e w)
  count_on peek t l v k f live holds is stack = gives k kinds.Int lives.Int f (element_count v.value) live holds tt refl (element_count_fits g t l v.value (looked_result g peek (Value (lives.Pointer marks.Fat t l)) v is).1) stack

  -- ---- entries that wait for a place

  pub place_given : {a : AwaitingPlace} {o : Option ℕ} {t : RunTy} {l : Life} {f : flow.State} {next : awaited.Want} (place : values.Value) (k : List Entry) → AreOpen w.regions (ends_of k) → LiveIn k bs → Holds g f bs → HasType g (lives.Pointer marks.NonNull t l) place
      → ClaimsPart g (awaited.count_place a + awaited.operands_in k) o (thing_of (lives.Pointer marks.NonNull t l) place) → WaitsPlace p x (relied_at x.relied k) bs a o t l f next → KeepsPlace p g (awaited.operands_in k) bs a t f → IsStack p g x bs next k → IsWell p (placed a place k e w)
  place_given (values.Thin object offset) k opens live holds has part (awaited.loads_from {kind} seen t r f alive by plain same) keeps stack =
      reads_target p g x bs e w typed globals bound variables k kind object offset (lives_in bs) t (lives_in bs r) f opens live (there_present g (ends_of k) bs r live.0 variables alive)
      (part_had g (0 + awaited.operands_in k) seen (pointer_at (lives_in bs r) object) part) holds has by plain (kind_meant (lives_in bs) t ∙ sym same) stack
  place_given place k opens live holds has part (awaited.takes_address seen t l f common) keeps stack =
      on (Given (record { kind = kinds.NonNull; value = place })) k live (Value (lives.Pointer marks.NonNull t l), f, holds, (refl, has), plain_claims g.own (Hand (awaited.operands_in k)) (lives.Pointer marks.NonNull t l) place (pointer_plain marks.NonNull t l common), stack)
  place_given place k opens live holds has part (awaited.stores_to {peek} {from} {to} {a} c v t r f h alive stands later conv from_is to_is) keeps stack =
      let (evaluates, whole) = later holds.0 in
      on (Evaluating a) (Needs (ConvertTo from to (target_by a)) ∷ Needs (StoreCell peek place) ∷ k) live (
        c,
        v,
        f,
        h,
        stands,
        holds,
        evaluates,
        subst (λ o. IsStack p g x bs (Val (looked o (read_value bs v)) h) (Needs (ConvertTo from to (target_by a)) ∷ Needs (StoreCell peek place) ∷ k)) (sym whole) (
          [],
          bs,
          Val (Value (read bs t)) h,
          awaited.converts c v t h (agrees_of p x bs c stands) (keeps_by g bs variables c.regions stands.regions) conv from_is to_is (target_typed c a v evaluates.typed),
          tt,
          (lives.Pointer marks.NonNull (read bs t) (lives_in bs r) ∷ [], bs, Val (read_value bs (assigned_type t)) h, awaited.stores_cell t r h alive, (((refl, has), tt), part_alone g k peek (thing_of (lives.Pointer marks.NonNull (read bs t) (lives_in bs r)) place) part), stack),
        ),
      )
  place_given place k opens live holds has part (awaited.swaps_left {kind} {peek} {right} c t r f h alive stands kind_is plain later) keeps stack =
      let finds = later holds.0 in
      finds_right_on p g x bs e w typed globals bound variables kind peek true place right c t k f h finds.waiting live stands holds kind_is plain
      (left_cell place r alive has (part_alone g k peek (thing_of (lives.Pointer marks.NonNull (read bs t) (lives_in bs r)) place) part)) finds.typed finds.flows finds.used finds.kept stack
  place_given place k opens live holds has part (awaited.swaps_right {kind} {peek} {is_cell} {left} through t r f alive kind_is) (u, same, plain, spot) stack =
      let pointer = λ (z : RunTy). lives.Pointer marks.NonNull z (lives_in bs r) in
      both_on p g x bs e w typed globals bound variables kind left place u k f live holds (kind_is ∙ sym (kind_meant (lives_in bs) t) ∙ ap kind_at same ∙ kind_meant (lives_in bs) u) plain
      (left_spot p g x bs e w typed globals bound variables (awaited.operands_in k) peek u f left spot)
      (of_cell place r alive (subst (λ z. HasType g (pointer z) place) same has)
      (subst (λ z. IsHad g (thing_of (pointer z) place)) same (part_had g (1 + awaited.operands_in k) through (thing_of (pointer (read bs t)) place) part))) stack
  place_given place k opens live holds has part waits keeps stack = absurd has

  pub cell_stored : (place : values.Value) (v : Operand) (t : Ty) (l : Life) (k : List Entry) (f : flow.State) → AreOpen w.regions (ends_of k) → LiveIn k bs → IsPresent g (ends_of k) l → IsHad g (thing_of (lives.Pointer marks.NonNull (read bs t) l) place) → Holds g f bs
      → HasType g (lives.Pointer marks.NonNull (read bs t) l) place → IsResult g (Value (read bs t)) v
      → (i : ℕ) → awaited.operands_in k ≤ i → Claims g.own (Hand i) (read bs t) v.value → IsStack p g x bs (Val (read_value bs (assigned_type t)) f) k → IsWell p (stored_at place v (Given v) k e w)
  cell_stored (values.Thin object offset) v t l k f opens live lasting had holds has is i above claims stack =
      writes_target p g x bs e w typed globals bound variables v k object offset i (read bs t) l (Given v) opens live lasting had has is claims
      (λ h changed. (
        read_value bs (assigned_type t),
        f,
        holds_kept (Hand i) g h changed f bs (λ n object full slot. at_no_hand object 0 i) holds,
        handed h (tests.is_moved t) (result_grown g h changed.grows (Value (read bs t)) v is),
        moved_comes h (awaited.operands_in k) bs t v.value (variables_kept (Hand i) g h changed bs refl variables),
        stack_changed p (Hand i) g h x bs (Val (read_value bs (assigned_type t)) f) k changed above stack,
      ))
    where
      handed : (h : Typing) (b : Bool) → IsResult h (Value (read bs t)) v → IsResult h (read_value bs (if b then types.Void else types.Value t)) v
      handed h true has = tt
      handed h false has = has
  cell_stored place v t l k f opens live lasting had holds has is i above claims stack = absurd has

  -- ---- operators

  reflects : (negated equal : Bool) (k : List Entry) (f : flow.State) → LiveIn k bs → Holds g f bs → IsStack p g x bs (Val (Value lives.Int) f) k → IsWell p (tells negated (Found equal) k e w)
  reflects false equal k f live holds stack = on (Given (record { kind = kinds.Int; value = values.Int (truth equal) })) k live (Value lives.Int, f, holds, (refl, tt), (tt, tt), stack)
  reflects true equal k f live holds stack = on (Given (record { kind = kinds.Int; value = values.Int (if equal then 0 else 1) })) k live (Value lives.Int, f, holds, (refl, tt), (tt, tt), stack)

  compared_on : (negated : Bool) (t u : RunTy) (l m : Life) (left right : values.Value) (k : List Entry) (f : flow.State) → AreOpen w.regions (ends_of k) → LiveIn k bs → IsPresent g (ends_of k) l → IsPresent g (ends_of k) m
      → (a b : PointerKind) → IsHad g (thing_of (lives.Pointer a t l) left) → IsHad g (thing_of (lives.Pointer b u m) right) → Holds g f bs → IsThin g t l left → IsThin g u m right → IsStack p g x bs (Val (Value lives.Int) f) k → IsWell p (tells negated (compared w left right) k e w)
  compared_on negated t u l m left right k f opens live one two a b here_had there_had holds is_null is_null stack = reflects negated true k f live holds stack
  compared_on negated t u l m left right k f opens live one two a b here_had there_had holds is_null (leads object offset there) stack = reflects negated false k f live holds stack
  compared_on negated t u l m left right k f opens live one two a b here_had there_had holds (leads object offset here) is_null stack = reflects negated false k f live holds stack
  compared_on negated t u l m left right k f opens live one two a b here_had there_had holds (leads object offset here) (leads other place there) stack =
      let (y, found) = target_live g w typed k t l object offset opens one here_had here in
      let (z, also) = target_live g w typed k u m other place opens two there_had there in
      let equal : Bool = (object == other) && (offset == place) in
      subst (λ a. IsWell p (tells negated (both_found a (object_at w other) equal) k e w)) (sym found)
      (subst (λ a. IsWell p (tells negated (both_found (Found y) a equal) k e w)) (sym also) (reflects negated equal k f live holds stack))

  lasts : (c : Context) (r : Named) (k : List Entry) → IsContext p x bs c → LiveIn k bs → IsLive c r → IsPresent g (ends_of k) (lives_in bs r)
  lasts c r k stands live alive = there_present g (ends_of k) bs r live.0 variables (there_of p x bs c stands r alive)

  pub point_on : {c : Context} {o : PointerOperator} {t : Ty} {v u : ValueType} (also : Option ℕ) (left right : Operand) (i : ℕ) (k : List Entry) (f : flow.State) → AreOpen w.regions (ends_of k) → LiveIn k bs → Holds g f bs → IsContext p x bs c
      → PointerOperation c o (types.Value t) v u → IsResult g (Value (read bs t)) left → IsHad g (thing_of (read bs t) left.value) → IsResult g (looked also (read_value bs v)) right → ClaimsBy g i (looked also (read_value bs v)) right.value → IsStack p g x bs (Val (read_value bs u) f) k
      → IsWell p (applies_pointer o left.value right.value k e w)
  point_on {c} also left right i k f opens live holds stands (adds t r other) is had too' comes stack =
      let too = looked_result g also (Value lives.Int) right too' in
      gives k kinds.Fat (lives.Pointer marks.Fat (read bs t) (lives_in bs r)) f (pointer_result operators.AddFat left.value right.value) live holds (pointer_plain marks.Fat (read bs t) (lives_in bs r) (region_common g bs variables r other)) refl (added g (read bs t) (lives_in bs r) left.value right.value is.1 too.1) stack
  point_on {c} also left right i k f opens live holds stands (subtracts t r other) is had too' comes stack =
      let too = looked_result g also (Value lives.Int) right too' in
      gives k kinds.Fat (lives.Pointer marks.Fat (read bs t) (lives_in bs r)) f (pointer_result operators.SubtractFat left.value right.value) live holds (pointer_plain marks.Fat (read bs t) (lives_in bs r) (region_common g bs variables r other)) refl (subtracted g (read bs t) (lives_in bs r) left.value right.value is.1 too.1) stack
  point_on {c} also left right i k f opens live holds stands (equals m l t r s one two here there) is had too' comes stack =
      let too = looked_result g also (Value (lives.Pointer l (read bs t) (lives_in bs s))) right too' in
      compared_on false (read bs t) (read bs t) (lives_in bs r) (lives_in bs s) left.value right.value k f opens live (lasts c r k stands live here) (lasts c s k stands live there) m l had (looked_had g i also (lives.Pointer l (read bs t) (lives_in bs s)) right.value comes) holds
      (thin_value g m (read bs t) (lives_in bs r) left.value one is.1) (thin_value g l (read bs t) (lives_in bs s) right.value two too.1) stack
  point_on {c} also left right i k f opens live holds stands (differs m l t r s one two here there) is had too' comes stack =
      let too = looked_result g also (Value (lives.Pointer l (read bs t) (lives_in bs s))) right too' in
      compared_on true (read bs t) (read bs t) (lives_in bs r) (lives_in bs s) left.value right.value k f opens live (lasts c r k stands live here) (lasts c s k stands live there) m l had (looked_had g i also (lives.Pointer l (read bs t) (lives_in bs s)) right.value comes) holds
      (thin_value g m (read bs t) (lives_in bs r) left.value one is.1) (thin_value g l (read bs t) (lives_in bs s) right.value two too.1) stack
  point_on {c} also left right i k f opens live holds stands (thin_null m t r thin) is had too' comes stack =
      let too = looked_result g also lives.Null right too' in
      subst (λ z. IsWell p (applies_pointer operators.ThinIsNull left.value z k e w)) (sym too.1) (gives k kinds.Int lives.Int f (null_test false left.value) live holds tt refl (null_tested g false m (read bs t) (lives_in bs r) left.value is.1) stack)
  point_on {c} also left right i k f opens live holds stands (thin_there m t r thin) is had too' comes stack =
      let too = looked_result g also lives.Null right too' in
      subst (λ z. IsWell p (applies_pointer operators.ThinIsNotNull left.value z k e w)) (sym too.1) (gives k kinds.Int lives.Int f (null_test true left.value) live holds tt refl (null_tested g true m (read bs t) (lives_in bs r) left.value is.1) stack)
  point_on {c} also left right i k f opens live holds stands (fat_null m t r fat) is had too' comes stack =
      let too = looked_result g also lives.Null right too' in
      subst (λ z. IsWell p (applies_pointer operators.FatIsNull left.value z k e w)) (sym too.1) (gives k kinds.Int lives.Int f (null_test false left.value) live holds tt refl (null_tested g false m (read bs t) (lives_in bs r) left.value is.1) stack)
  point_on {c} also left right i k f opens live holds stands (fat_there m t r fat) is had too' comes stack =
      let too = looked_result g also lives.Null right too' in
      subst (λ z. IsWell p (applies_pointer operators.FatIsNotNull left.value z k e w)) (sym too.1) (gives k kinds.Int lives.Int f (null_test true left.value) live holds tt refl (null_tested g true m (read bs t) (lives_in bs r) left.value is.1) stack)

  pub null_point_on : {c : Context} {o : PointerOperator} {v u : ValueType} (also : Option ℕ) (right : Operand) (k : List Entry) (f : flow.State) → LiveIn k bs → Holds g f bs
      → PointerOperation c o types.Null v u → IsResult g (looked also (read_value bs v)) right → IsStack p g x bs (Val (read_value bs u) f) k → IsWell p (applies_pointer o values.Null right.value k e w)
  null_point_on also right k f live holds (null_is m t r) too' stack =
      let too = looked_result g also (Value (lives.Pointer m (read bs t) (lives_in bs r))) right too' in gives k kinds.Int lives.Int f (null_test false right.value) live holds tt refl (null_tested g false m (read bs t) (lives_in bs r) right.value too.1) stack
  null_point_on also right k f live holds (null_is_not m t r) too' stack =
      let too = looked_result g also (Value (lives.Pointer m (read bs t) (lives_in bs r))) right too' in gives k kinds.Int lives.Int f (null_test true right.value) live holds tt refl (null_tested g true m (read bs t) (lives_in bs r) right.value too.1) stack
