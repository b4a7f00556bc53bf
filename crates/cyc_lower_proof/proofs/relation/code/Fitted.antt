-- If the typed tree of a well-typed program meets the requirements on its nodes, then it also meets the requirements of
-- lowering, the pass that translates it to plain code.
use Rattle.std.proofs.Common.{◌≡◌, ◌⊎◌, ℕ, ◌≤◌, ◌<◌, Bool, true, false, List, [], ◌∷◌, length, map, Option, None, Some, slice_get, refl, sym, ap, subst, ◌∙◌, arith, inl, inr, suc, length-append, zero, ◌++◌}
use Rattle.std.specs.Prelude.{if◌then◌else◌, ◌||◌}
use Rattle.std.proofs.lemmas.List.{length-map}
use Rattle.std.proofs.lemmas.Option.{same_Some, none-some, slice_get_within}
use Rattle.cyc_syntax.specs.declared.tree.PointerKind.{PointerKind}
use Rattle.cyc_syntax.specs.declared.tree.PointerKind.TheVariants as marks
use Rattle.cyc_types.specs.declared.region.Region.{Region}
use Rattle.cyc_types.specs.declared.region.Region.TheVariants.{Variable}
use Rattle.cyc_types.specs.declared.scope.Kind.TheVariants as scopes
use Rattle.cyc_types.specs.declared.typed.Kind.{Kind}
use Rattle.cyc_types.specs.declared.typed.Kind.TheVariants as kinds
use Rattle.cyc_types.specs.declared.typed.Callee.{Callee}
use Rattle.cyc_types.specs.declared.typed.Callee.TheVariants as callees
use Rattle.cyc_types.specs.declared.typed.UnaryOperator.TheVariants as unary
use Rattle.cyc_types.specs.Types.{Ty, words_of, substituted_ty, ValueType, Void, Value}
use Rattle.cyc_types.specs.Types as type_forms
use Rattle.cyc_types.specs.TypedTrees.{Load, New, OnHeap, AsUnique, ByHandle, Initial, Plain, Fields, Array, Dereference, Target, Lvalue, Local, Global, Expression, Number, NullPointer, Copy, Peek, Call, Unary, Binary, Assign}
use Rattle.cyc_types.specs.TypedTrees.{Converted, Convert, Arguments, NoArguments, MoreArguments, Operations, NoOperations, ThenCompute, ThenTest, ThenPointer, Statement, Block, Empty, Evaluate, If, While, Return, Break, Continue}
use Rattle.cyc_types.specs.TypedTrees.{Items, NoItems, MoreItems, Execute, Declare, Signature, StructType, Function, Program, Store, Member, Element, type_of_place, type_of, HeapRegion, Counter, Move, AddressOf, AddressOfCell}
use Rattle.cyc_types.specs.TypedTrees.{NumberOfElements, FreeUnique, FreeKey, ThenPointerPeek, Side, VariableSide, CellSide, Swap, Throw, Try, Clauses, NoClauses, Default, Case, DeclareRegion, OpenRegion, DeclareAlias, DeclareKey}
use Rattle.cyc_types.specs.typing.Tests as tests
use Rattle.cyc_types.specs.typing.Expressions.{type_of_side}
use Rattle.cyc_types.specs.typing.WellTyped.{with_counter, Context, IsCallee, Converts, IsPeek, WellTyped, IsCell, IsConverted, ArePassed, IsChain, IsCondition, IsReturned, IsInitial, WellTypedStatement, WellTypedItems, following, in_block, in_body, with_local, body_context}
use Rattle.cyc_types.specs.typing.WellTyped.{AreWellTypedFunctions, IsWellTypedProgram, IsMade, IsSide, IsThrown, IsCaught, WellTypedClauses, with_caught, after_clause, with_opened, with_key_opened, with_region, IsPlace}
use Rattle.cyc_types.specs.Numbered.{Numbering, signatures_of, IsSignature, argument_count, numbering_of}
use Rattle.cyc_types.specs.Demands.{Meets, CellMeets, ObjectMeets, ConvertedMeets, ArgumentsMeet, OperationsMeet, SideMeets, ValueMeets, ThrownMeets, StatementMeets, ItemsMeet, ClausesMeet, FunctionsMeet}
use Rattle.cyc_lower_proof.specs.inside.Lowerable.{is_converted, is_pointer, lowering_demands}
use Rattle.cyc_lower_proof.proofs.acceptance.LowerableLemmas.{thin_by_mark, types_converted}
use Rattle.cyc_meaning.specs.Values.{kind_of, words_of_kind}
use Rattle.cyc_meaning.specs.FrameCount.{words_of_all, operand_words}
use Rattle.cyc_lower_proof.specs.inside.Slots.{Types, counted, global_types}
use Rattle.cyc_lower_proof.specs.inside.ValueCode.{all_passed, kind_after, kind_passed}
use Rattle.cyc_lower_proof.specs.inside.Lowering.{types_of, scopes_of, is_handle, may_open, scopes_if}
use Rattle.cyc_lower_proof.proofs.slots.Widths.{kind_of_result, result_kind, called_kind, given, type_words, HasRoom, HasGlobal, HasLocal, passed_is}
use Rattle.cyc_lower_proof.proofs.slots.Slots.{words-there, words_positive, kind-there}
use Rattle.cyc_plain.specs.declared.limits.TheConstants.{RECORD_WORDS}
use Rattle.std.specs.List.{list_any}
use Rattle.std.proofs.lemmas.List.Folds.{list_any-append}
use Rattle.std.proofs.lemmas.Bool.{or_right}
use Rattle.cyc_words.proofs.Items.{below_from_slice_get}
use Rattle.cyc_lower_proof.proofs.relation.code.Fitting.{FitsAddress, Fits, FitsCell, FitsObject, FitsConverted, FitArguments, FitOperations, IsCounting, FitsSide, FitsReturn, FitsInitial, FitsThrown, FitsCaught, FitsStatement, FitItems, FitClauses, AreFitting, IsFitting}
use Rattle.cyc_lower_proof.proofs.relation.code.GivenTypes.{kinds_same, kind_moved, all_words_substituted, result_substituted, IsGiven, given_result, type_given, left_least, next_words, chain_given, seen_left}

-- ---- properties of a well-typed tree

module _ (b : Numbering) (types : Types) where
  -- Says that a typing context agrees with a function whose indices have the bounds `b` and whose locals have the types `types`.
  record Suits (c : Context) : Type 0 where
    functions : c.functions ≡ b.functions
    structs : c.structs ≡ types.structs
    variables : c.variables ≡ types.locals
    globals : c.globals ≡ types.globals
    counters : c.counters ≡ length types.counters
    result : c.result ≡ b.result
    locals : length c.variables ≡ b.locals
    -- A local that is a region handle may be the handle of a region that the program opens.
    scopes : (n : ℕ) (r : Region) → slice_get c.variables n ≡ Some (type_forms.Handle r) → IsCounting types.scopes

  room_in : (c : Context) (n : ℕ) (t : Ty) (kind : Kind) → Suits c → slice_get c.variables n ≡ Some t → kind ≡ kind_of t → HasRoom types n kind
  room_in c n t kind suits at same =
      omega (arith, words-there types.locals n t (ap (λ (ts : List Ty). slice_get ts n) (sym suits.variables) ∙ at), type_words t, ap words_of_kind same)

  -- The index of a declared local is below the number of locals that the bounds allow.
  low_in : (c : Context) (n : ℕ) (t : Ty) → Suits c → slice_get c.variables n ≡ Some t → n < b.locals
  low_in c n t suits at = omega (arith, slice_get_within c.variables n t at, suits.locals)

  local_in : (c : Context) (n : ℕ) (t : Ty) → Suits c → slice_get c.variables n ≡ Some t → HasLocal types n (kind_of t)
  local_in c n t suits at =
      (room_in c n t (kind_of t) suits at refl, kind-there types.locals n t (ap (λ (ts : List Ty). slice_get ts n) (sym suits.variables) ∙ at))

  global_in : (c : Context) (n : ℕ) (t : Ty) (kind : Kind) → Suits c → slice_get c.globals n ≡ Some t → kind ≡ kind_of t → HasGlobal types n kind
  global_in c n t kind suits at same =
      omega (arith, words-there types.globals n t (ap (λ (ts : List Ty). slice_get ts n) (sym suits.globals) ∙ at), type_words t, ap words_of_kind same)

  -- The representation kind of a variable is the kind that a pointer to this variable has for its target.
  pointed_kind : (mark : PointerKind) (t : Ty) (r : Region) (pointer : Ty) → pointer ≡ type_forms.Pointer mark t r → kind_after pointer ≡ kind_of t
  pointed_kind mark type_forms.Int r pointer is = ap kind_after is
  pointed_kind mark type_forms.Char r pointer is = ap kind_after is
  pointed_kind mark (type_forms.Pointer marks.Nullable u s) r pointer is = ap kind_after is
  pointed_kind mark (type_forms.Pointer marks.NonNull u s) r pointer is = ap kind_after is
  pointed_kind mark (type_forms.Pointer marks.Fat u s) r pointer is = ap kind_after is
  pointed_kind mark (type_forms.Handle s) r pointer is = ap kind_after is
  pointed_kind mark (type_forms.Key s) r pointer is = ap kind_after is
  pointed_kind mark (type_forms.Struct n rs) r pointer is = ap kind_after is

  address_fits : (l : Lvalue) (c : Context) (pointer t : Ty) (r : Region) → Suits c → IsPlace c l t r → kind_after pointer ≡ kind_of t → FitsAddress b types l pointer
  address_fits (Local p n) c pointer t r suits (m, place, home, there) kind =
      (low_in c n t suits there, (t, ap (λ (ts : List Ty). slice_get ts n) (sym suits.variables) ∙ there, kind))
  address_fits (Global n) c pointer t r suits (home, there) kind = (t, ap (λ (ts : List Ty). slice_get ts n) (sym suits.globals) ∙ there, kind)

  callee_is : (f : Callee) (c : Context) (s : Signature) → Suits c → IsCallee c f s → IsSignature b f s
  callee_is callees.Putchar c s suits is = is
  callee_is callees.Getchar c s suits is = is
  callee_is (callees.Function n) c s suits is = ap (λ (ss : List Signature). slice_get ss n) (sym suits.functions) ∙ is

  called_is : (f : Callee) (s : Signature) → IsSignature b f s → called_kind b.functions f ≡ kind_of_result s.result
  called_is callees.Putchar s is = sym (ap (λ (x : Signature). kind_of_result x.result) is)
  called_is callees.Getchar s is = sym (ap (λ (x : Signature). kind_of_result x.result) is)
  called_is (callees.Function n) s is = ap result_kind is

  assigned_given : (l : Lvalue) (d : Converted) (u : ValueType) (t : Ty) (v : ValueType) → kind_passed d ≡ kind_of t → v ≡ (if tests.is_moved t then Void else Value t) → IsGiven (given b.functions (Assign l d u)) v
  assigned_given l (Convert from to a) u t v kind is = subst (IsGiven to) (sym is) (by (tests.is_moved t))
    where
      by : (moved : Bool) → IsGiven to (if moved then Void else Value t)
      by true = tt
      by false = kind

  -- a pointer to a new object is never null
  pointer_given : (mark : PointerKind) (u : Ty) (r : Region) (t : Ty) (v : ValueType) → mark ≡ marks.NonNull → t ≡ type_forms.Pointer mark u r → v ≡ Value t → IsGiven kinds.NonNull v
  pointer_given mark u r t v mark_is t_is is = subst (IsGiven kinds.NonNull) (sym is) (sym (ap kind_of (t_is ∙ ap (λ m. type_forms.Pointer m u r) mark_is)))

  array_given : (mark : PointerKind) (u : Ty) (r : Region) (t : Ty) (v : ValueType) → mark ≡ marks.Fat → t ≡ type_forms.Pointer mark u r → v ≡ Value t → IsGiven kinds.Fat v
  array_given mark u r t v mark_is t_is is = subst (IsGiven kinds.Fat) (sym is) (sym (ap kind_of (t_is ∙ ap (λ m. type_forms.Pointer m u r) mark_is)))

  stored_given : (x : Dereference) (d : Converted) (u : ValueType) (t : Ty) (v : ValueType) → kind_passed d ≡ kind_of t → v ≡ (if tests.is_moved t then Void else Value t) → IsGiven (given b.functions (Store x d u)) v
  stored_given x (Convert from to a) u t v kind is = assigned_given (Global 0) (Convert from to a) u t v kind is

  -- the kind of a nullable or non-null pointer is a pointer kind
  pointer_mark : (m : PointerKind) (k : Kind) → k ≡ tests.kind_of_mark m → is_pointer k ≡ true
  pointer_mark marks.Nullable k is = ap is_pointer is
  pointer_mark marks.NonNull k is = ap is_pointer is
  pointer_mark marks.Fat k is = ap is_pointer is

  kind_of_pointer : (m : PointerKind) (u : Ty) (r : Region) → tests.kind_of_mark m ≡ kind_of (type_forms.Pointer m u r)
  kind_of_pointer marks.Nullable u r = refl
  kind_of_pointer marks.NonNull u r = refl
  kind_of_pointer marks.Fat u r = refl

  looked_fits : (a : Expression) (c : Context) (v : ValueType) → Suits c → Meets lowering_demands a → (WellTyped c a v → IsGiven (given b.functions a) v × Fits b types a) → WellTyped c a v ⊎ IsPeek c a v
      → IsGiven (given b.functions a) v × Fits b types a
  looked_fits (Peek p n u) c v suits met well_fits (inr (there, unique, is)) = (subst (IsGiven (kind_of u)) (sym is) refl, (low_in c n u suits there.1, room_in c n u (kind_of u) suits there.1 refl))
  looked_fits a c v suits met well_fits (inl well) = well_fits well
  looked_fits a c v suits met well_fits (inr peek) = absurd peek

module _ (b : Numbering) where
  -- The elements of an array are evaluated in a context with one more loop counter, the one that counts these elements.
  suits_inside : (types : Types) (c : Context) (slot : ℕ) → Suits b types c → Suits b (counted types slot) (with_counter c)
  suits_inside types c slot suits = record {
    functions = suits.functions;
    structs = suits.structs;
    variables = suits.variables;
    globals = suits.globals;
    counters = ap suc suits.counters ∙ sym (length-append types.counters (slot ∷ []) ∙ omega arith);
    result = suits.result;
    locals = suits.locals;
    scopes = suits.scopes;
  }

  mutual
    fits : (types : Types) → (a : Expression) (c : Context) (v : ValueType) → Suits b types c → Meets lowering_demands a → WellTyped c a v → IsGiven (given b.functions a) v × Fits b types a
    fits types (Number n) c v suits met is = (subst (IsGiven kinds.Int) (sym is) refl, tt)
    fits types NullPointer c v suits met is = (subst (IsGiven kinds.Nullable) (sym is) refl, tt)
    fits types HeapRegion c v suits met is = (subst (IsGiven kinds.Handle) (sym is) refl, tt)
    fits types (Copy (Local p n) t) c v suits met (there, stays, is) = (subst (IsGiven (kind_of t)) (sym is) refl, (low_in b types c n t suits there.1, room_in b types c n t (kind_of t) suits there.1 refl))
    fits types (Move p n t) c v suits met (there, moved, is) = (subst (IsGiven (kind_of t)) (sym is) refl, (low_in b types c n t suits there.1, room_in b types c n t (kind_of t) suits there.1 refl))
    fits types (Peek p n t) c v suits met well = absurd well
    fits types (Counter l) c v suits met (few, is) = (subst (IsGiven kinds.Int) (sym is) refl, omega (arith, few, suits.counters))
    fits types (Copy (Global n) t) c v suits met (there, stays, is) = (subst (IsGiven (kind_of t)) (sym is) refl, global_in b types c n t (kind_of t) suits there refl)
    fits types (Call f cs u) c v suits met (s, m, callee, long, regions, passed, live, outliving, u_is, v_is) =
        let signature = callee_is b types f c s suits callee in
        let (count, words, fitting) = fit_arguments types cs c (map (substituted_ty m) s.parameters) suits met passed in (
          subst (λ kind. IsGiven kind v) (sym (called_is b types f s signature)) (given_result m s.result v (v_is ∙ u_is)),
          (s, signature, count ∙ length-map s.parameters (substituted_ty m), words ∙ all_words_substituted m s.parameters, result_substituted m s.result u u_is, fitting),
        )
    fits types (NumberOfElements a) c v suits met (u, r, well, is) =
        let fat = Value (type_forms.Pointer marks.Fat u r) in
        (subst (IsGiven kinds.Int) (sym is) refl, looked_fits b types a c fat suits met (λ h. fits types a c fat suits met h) well)
    fits types (Unary unary.Not a) c v suits met (w, (well, tested), is) = (subst (IsGiven kinds.Int) (sym is) refl, (looked_fits b types a c w suits met (λ h. fits types a c w suits met h) well).1)
    fits types (Unary unary.Widen a) c v suits met (w, (well, char), is) =
        let (kind, fitting) = fits types a c w suits met well in
        (subst (IsGiven kinds.Int) (sym is) refl, (ap words_of_kind (subst (IsGiven (given b.functions a)) char kind), fitting))
    fits types (Unary unary.LowByte a) c v suits met (w, (well, int), is) = (subst (IsGiven kinds.Char) (sym is) refl, (fits types a c w suits met well).1)
    fits types (Unary u a) c v suits met (w, (well, int), is) = (subst (IsGiven kinds.Int) (sym is) refl, (fits types a c w suits met well).1)
    fits types (Binary a os u) c v suits (met, all) (w, left, chain, is) =
        let seen = seen_left os a c w left in
        let (kind, fitting) = looked_fits b types a c w suits met (λ h. fits types a c w suits met h) seen in (
          subst (IsGiven (given b.functions (Binary a os u))) (sym is) (chain_given os c w (given b.functions a) u chain kind),
          (fitting, fit_operations types os c w u (operand_words (type_of a)) suits all chain (omega (arith, ap operand_words (type_given a c w seen)))),
        )
    fits types (Assign (Local p n) d u) c v suits met (t, r, (m, place, home, there), converted, u_is, is) =
        let (kind, fitting) = fits_converted types d c t suits met converted in
        (assigned_given b types (Local p n) d u t v kind (is ∙ u_is), ((low_in b types c n t suits there, room_in b types c n t (kind_passed d) suits there kind), fitting))
    fits types (Assign (Global n) d u) c v suits met (t, r, (home, there), converted, u_is, is) =
        let (kind, fitting) = fits_converted types d c t suits met converted in
        (assigned_given b types (Global n) d u t v kind (is ∙ u_is), (global_in b types c n t (kind_passed d) suits there kind, fitting))
    fits types (Load x) c v suits met (u, r, cell, flat, shared, is) =
        let (same, fitting) = fits_cell types x c u r suits met cell in
        (subst (IsGiven (kind_of (type_of_place x))) (sym (is ∙ ap Value same)) refl, fitting)
    fits types (AddressOf l t) c v suits met (u, r, place, stays, t_is, is) =
        (pointer_given b types marks.NonNull u r t v refl t_is is, address_fits b types l c t u r suits place (pointed_kind b types marks.NonNull u r t t_is))
    fits types (AddressOfCell x t) c v suits met (u, r, cell, stays, shared, t_is, is) =
        (subst (IsGiven kinds.NonNull) (sym (is ∙ ap Value t_is)) refl, (fits_cell types x c u r suits met cell).1)
    fits types (Store x d u) c v suits (place, met) (t, r, cell, converted, u_is, is) =
        let (same, fits_place) = fits_cell types x c t r suits place cell in
        let (kind, fitting) = fits_converted types d c t suits met converted in
        (stored_given b types x d u t v kind (is ∙ u_is), (fits_place, fitting))
    fits types (FreeUnique a) c v suits met (k, u, well, is) = (subst (IsGiven kinds.Int) (sym is) tt, (fits types a c _ suits met well).1)
    fits types (New OnHeap (Plain kind a) t) c v suits (placed, met) (mark, u, r, place, made, t_is, is) =
        (pointer_given b types mark u r t v made.3 t_is is, fits_object types (Plain kind a) c mark u suits met made)
    fits types (New OnHeap (Fields cs) t) c v suits (placed, met) (mark, u, r, place, (n, rs, s, there, many, passed, u_is, mark_is), t_is, is) =
        (pointer_given b types mark u r t v mark_is t_is is, fits_object types (Fields cs) c mark u suits met (n, rs, s, there, many, passed, u_is, mark_is))
    fits types (New OnHeap (Array p level n kind a) t) c v suits (placed, met) (mark, u, r, place, (level_is, length, well, unlocked, kind_is, mark_is), t_is, is) =
        (array_given b types mark u r t v mark_is t_is is, fits_object types (Array p level n kind a) c mark u suits met (level_is, length, well, unlocked, kind_is, mark_is))
    fits types (New AsUnique (Plain kind a) t) c v suits (placed, met) (mark, u, r, place, made, t_is, is) =
        (pointer_given b types mark u r t v made.3 t_is is, fits_object types (Plain kind a) c mark u suits met made)
    fits types (New AsUnique (Fields cs) t) c v suits (placed, met) (mark, u, r, place, (n, rs, s, there, many, passed, u_is, mark_is), t_is, is) =
        (pointer_given b types mark u r t v mark_is t_is is, fits_object types (Fields cs) c mark u suits met (n, rs, s, there, many, passed, u_is, mark_is))
    fits types (New AsUnique (Array p level n kind a) t) c v suits (placed, met) (mark, u, r, place, (level_is, length, well, unlocked, kind_is, mark_is), t_is, is) =
        (array_given b types mark u r t v mark_is t_is is, fits_object types (Array p level n kind a) c mark u suits met (level_is, length, well, unlocked, kind_is, mark_is))
    fits types (FreeKey a) c v suits met (r, well, is) = (subst (IsGiven kinds.Int) (sym is) tt, (fits types a c _ suits met well).1)
    fits types (New (ByHandle a) (Plain kind x) t) c v suits (handle, met) (mark, u, r, (well, live), made, t_is, is) =
        let (given_is, fitting) = fits types a c (Value (type_forms.Handle r)) suits handle well in
        (pointer_given b types mark u r t v made.3 t_is is, (given_is, fitting, fits_object types (Plain kind x) c mark u suits met made))
    fits types (New (ByHandle a) (Fields cs) t) c v suits (handle, met) (mark, u, r, (well, live), (n, rs, s, there, many, passed, u_is, mark_is), t_is, is) =
        let (given_is, fitting) = fits types a c (Value (type_forms.Handle r)) suits handle well in
        (pointer_given b types mark u r t v mark_is t_is is, (given_is, fitting, fits_object types (Fields cs) c mark u suits met (n, rs, s, there, many, passed, u_is, mark_is)))
    fits types (New (ByHandle a) (Array p level n kind x) t) c v suits (handle, met) (mark, u, r, (well, live), (level_is, length, element, unlocked, kind_is, mark_is), t_is, is) =
        let (given_is, fitting) = fits types a c (Value (type_forms.Handle r)) suits handle well in
        (array_given b types mark u r t v mark_is t_is is, (given_is, fitting, fits_object types (Array p level n kind x) c mark u suits met (level_is, length, element, unlocked, kind_is, mark_is)))

    fits_object : (types : Types) → (i : Initial) (c : Context) (mark : PointerKind) (u : Ty) → Suits b types c → ObjectMeets lowering_demands i → IsMade c i mark u → FitsObject b types i
    fits_object types (Plain kind a) c mark u suits met (well, unlocked, kind_is, mark_is) =
        let (given_is, fitting) = fits types a c (Value u) suits met well in
        (kind_is ∙ sym (kinds_same u) ∙ sym given_is, fitting)
    fits_object types (Fields cs) c mark u suits ((some, few), met) (n, rs, s, there, many, passed, u_is, mark_is) =
        (some, few, (fit_arguments types cs c (map (substituted_ty rs) s.fields) suits met passed).2)
    fits_object types (Array p level n kind a) c mark u suits (count, met) (level_is, length, well, unlocked, kind_is, mark_is) =
        let inside = λ (slot : ℕ). fits (counted types slot) a (with_counter c) (Value u) (suits_inside types c slot suits) met well in
        (level_is ∙ suits.counters, kind_is ∙ sym (kinds_same u) ∙ sym (inside 0).0, (fits types n c (Value type_forms.Int) suits count length).1, λ slot. (inside slot).1)

    fits_cell : (types : Types) → (x : Dereference) (c : Context) (t : Ty) (r : Region) → Suits b types c → CellMeets lowering_demands x → IsCell c x t r → (t ≡ type_of_place x) × FitsCell b types x
    fits_cell types (Target k a u) c t r suits met (m, well, live, kind, same) =
        let pointer = type_forms.Pointer m u r in
        let (given_is, fitting) = looked_fits b types a c (Value pointer) suits met (λ h. fits types a c (Value pointer) suits met h) well in
        let kind_is = kind ∙ kind_of_pointer b types m u r in
        (same, (pointer_mark b types m k kind, kind_is ∙ sym given_is, omega (arith, ap operand_words (type_given a c (Value pointer) well), type_words pointer, ap words_of_kind kind_is), fitting))
    fits_cell types (Member k a s f u) c t r suits met (m, rs, st, w, well, mark, live, kind, there, field, is_u, same) =
        let pointer = Value (type_forms.Pointer m (type_forms.Struct s rs) r) in (
          same,
          (
            thin_by_mark k m kind mark,
            (st, ap (λ (ss : List StructType). slice_get ss s) (sym suits.structs) ∙ there, below_from_slice_get st.fields f w field),
            (looked_fits b types a c pointer suits met (λ h. fits types a c pointer suits met h) well).1,
          ),
        )
    fits_cell types (Element a i u) c t r suits (first, second) (well, index, live, same) =
        let fat = Value (type_forms.Pointer marks.Fat u r) in
        let (given_is, fitting) = looked_fits b types a c fat suits first (λ h. fits types a c fat suits first h) well in
        (same, (given_is, omega (arith, ap operand_words (type_given a c fat well)), fitting, (fits types i c (Value type_forms.Int) suits second index).1))

    fits_converted : (types : Types) → (d : Converted) (c : Context) (t : Ty) → Suits b types c → ConvertedMeets lowering_demands d → IsConverted c d t → (kind_passed d ≡ kind_of t) × FitsConverted b types d
    fits_converted types (Convert from to a) c t suits met (v, well, converts, from_is, to_is) =
        let (kind, fitting) = fits types a c v suits met well in
        let wide = ap (λ l. is_converted l to) from_is ∙ ap (λ l. is_converted (tests.kind_of_value v) l) to_is ∙ types_converted c v t converts in
        (to_is ∙ sym (kinds_same t), (from_given v converts from_is kind, wide, fitting))
      where
        from_given : (w : ValueType) → Converts c w t → from ≡ tests.kind_of_value w → IsGiven (given b.functions a) w → from ≡ given b.functions a
        from_given Void can is kind = absurd can
        from_given type_forms.Null can is kind = is ∙ sym kind
        from_given (Value u) can is kind = is ∙ sym (kinds_same u) ∙ sym kind

    fit_arguments : (types : Types) → (ds : Arguments) (c : Context) (ts : List Ty) → Suits b types c → ArgumentsMeet lowering_demands ds → ArePassed c ts ds → (argument_count ds ≡ length ts) × (all_passed ds ≡ words_of_all ts) × FitArguments b types ds
    fit_arguments types NoArguments c [] suits met passed = (refl, refl, tt)
    fit_arguments types NoArguments c (t ∷ ts) suits met passed = absurd passed
    fit_arguments types (MoreArguments d ds) c [] suits met passed = absurd passed
    fit_arguments types (MoreArguments d ds) c (t ∷ ts) suits (one, all) (passed, rest) =
        let (kind, fitting) = fits_converted types d c t suits one passed in
        let (count, words, others) = fit_arguments types ds c ts suits all rest in
        (ap suc count, omega (arith, words, passed_is d, ap words_of_kind kind, type_words t), (fitting, others))

    -- The operators after a left operand with at most `words` words meet the requirements of lowering.
    fit_operations : (types : Types) → (os : Operations) (c : Context) (left : ValueType) (u : Ty) (words : ℕ) → Suits b types c → OperationsMeet lowering_demands os → IsChain c left os u → operand_words left ≤ words → FitOperations b types words u os
    fit_operations types NoOperations c left u words suits all is few = tt
    fit_operations types (ThenCompute o x os) c left u words suits (one, all) (is, right, rest) few =
        ((fits types x c (Value type_forms.Int) suits one right).1, fit_operations types os c (Value type_forms.Int) u (words_of u) suits all rest (words_positive u))
    fit_operations types (ThenTest o x os) c left u words suits (one, all) (is, (y, right, tested), rest) few =
        ((looked_fits b types x c y suits one (λ h. fits types x c y suits one h) right).1, fit_operations types os c (Value type_forms.Int) u (words_of u) suits all rest (words_positive u))
    fit_operations types (ThenPointer o x os) c left u words suits (alone, one, all) (v, w, right, operation, rest) few = (
      omega (arith, left_least o c left v w operation, few),
      (looked_fits b types x c v suits one (λ h. fits types x c v suits one h) right).1,
      fit_operations types os c w u (words_of u) suits all rest (next_words o os c left v w u alone operation rest),
    )
    fit_operations types (ThenPointerPeek n o x os) c left u words suits (alone, one, all) (v, w, right, operation, rest) few = (
      omega (arith, left_least o c left v w operation, few),
      (looked_fits b types x c v suits one (λ h. fits types x c v suits one h) right).1,
      fit_operations types os c w u (words_of u) suits all rest (next_words o os c left v w u alone operation rest),
    )

module _ (b : Numbering) (types : Types) where
  fits_condition : (a : Expression) (c : Context) → Suits b types c → Meets lowering_demands a → IsCondition c a → Fits b types a
  fits_condition a c suits met (v, well, tested) = (looked_fits b types a c v suits met (λ h. fits b types a c v suits met h) well).1

  fits_return : (result : Option Ty) (v : Option Converted) (c : Context) → Suits b types c → ValueMeets lowering_demands v → IsReturned c result v → FitsReturn b types result v
  fits_return None None c suits met well = tt
  fits_return None (Some d) c suits met well = absurd well
  fits_return (Some t) None c suits met well = absurd well
  fits_return (Some t) (Some d) c suits met well = fits_converted b types d c t suits met well

  fits_initial : (v : Option Converted) (n : ℕ) (t : Ty) (c : Context) → Suits b types c → slice_get c.variables n ≡ Some t → ValueMeets lowering_demands v → IsInitial c v t → FitsInitial b types n v
  fits_initial None n t c suits there met well = tt
  fits_initial (Some d) n t c suits there met well =
      let (kind, fitting) = fits_converted b types d c t suits met well in
      (room_in b types c n t (kind_passed d) suits there kind, fitting)

  suits_after : (s : Statement) (c : Context) → Suits b types c → Suits b types (following c s)
  suits_after s c suits = record { functions = suits.functions; structs = suits.structs; variables = suits.variables; globals = suits.globals; counters = suits.counters; result = suits.result; locals = suits.locals; scopes = suits.scopes }

  fits_side : (x : Side) (c : Context) (t : Ty) → Suits b types c → SideMeets lowering_demands x → IsSide c x t → (t ≡ type_of_side x) × FitsSide b types x (kind_of t)
  fits_side (VariableSide (Local p n) u) c t suits met (r, (m, place, home, there), is) = (is, (low_in b types c n u suits there, room_in b types c n u (kind_of t) suits there (ap kind_of is)))
  fits_side (VariableSide (Global n) u) c t suits met (r, (home, there), is) = (is, global_in b types c n u (kind_of t) suits there (ap kind_of is))
  fits_side (CellSide x) c t suits met (r, cell) = fits_cell b types x c t r suits met cell

  suits_caught : (x : Option ℕ) (c : Context) → Suits b types c → Suits b types (with_caught x (in_block c))
  suits_caught None c suits = record { functions = suits.functions; structs = suits.structs; variables = suits.variables; globals = suits.globals; counters = suits.counters; result = suits.result; locals = suits.locals; scopes = suits.scopes }
  suits_caught (Some n) c suits = record { functions = suits.functions; structs = suits.structs; variables = suits.variables; globals = suits.globals; counters = suits.counters; result = suits.result; locals = suits.locals; scopes = suits.scopes }

  loop_caught : (x : Option ℕ) (c : Context) → (with_caught x c).in_loop ≡ c.in_loop
  loop_caught None c = refl
  loop_caught (Some n) c = refl

  fits_thrown : (v : Option Expression) (has : Bool) (c : Context) → Suits b types c → ThrownMeets lowering_demands v → IsThrown c has v → FitsThrown b types v
  fits_thrown None has c suits met well = tt
  fits_thrown (Some a) true c suits met well = (fits b types a c (Value type_forms.Int) suits met well).1
  fits_thrown (Some a) false c suits met well = absurd well

  fits_caught : (x : Option ℕ) (has : Bool) (c : Context) → Suits b types c → IsCaught c has x → FitsCaught b types x
  fits_caught None has c suits well = tt
  fits_caught (Some n) true c suits (next, there) = (low_in b types c n type_forms.Int suits there, local_in b types c n type_forms.Int suits there)
  fits_caught (Some n) false c suits well = absurd well

  mutual
    fits_statement : (s : Statement) (c : Context) → Suits b types c → StatementMeets lowering_demands s → WellTypedStatement c s → FitsStatement b types c.in_loop s
    fits_statement (Block r js) c suits met (next, well) =
        fit_items js (in_block c) (record { functions = suits.functions; structs = suits.structs; variables = suits.variables; globals = suits.globals; counters = suits.counters; result = suits.result; locals = suits.locals; scopes = suits.scopes }) met well
    fits_statement Empty c suits met well = tt
    fits_statement (Evaluate a) c suits met (t, well) = (fits b types a c t suits met well).1
    fits_statement (Swap x y) c suits (low_x, low_y) (t, side_x, side_y, flat) =
        let (same, fits_x) = fits_side x c t suits low_x side_x in
        let (same_y, fits_y) = fits_side y c t suits low_y side_y in
        (subst (λ u. FitsSide b types x (kind_of u)) same fits_x, subst (λ u. FitsSide b types y (kind_of u)) same fits_y)
    fits_statement (If a s t) c suits (met_a, met_s, met_t) (well_a, well_s, well_t) =
        (fits_condition a c suits met_a well_a, fits_statement s c suits met_s well_s, fits_statement t (following c s) (suits_after s c suits) met_t well_t)
    fits_statement (While p a s) c suits (met_a, met_s) (well_a, well_s) = (
      fits_condition a c suits met_a well_a,
      fits_statement s (in_body c) (record { functions = suits.functions; structs = suits.structs; variables = suits.variables; globals = suits.globals; counters = suits.counters; result = suits.result; locals = suits.locals; scopes = suits.scopes }) met_s well_s,
    )
    fits_statement (Return v) c suits met well = fits_return b.result v c suits met (subst (λ (r : Option Ty). IsReturned c r v) suits.result well)
    fits_statement Break c suits met well = well
    fits_statement Continue c suits met well = well
    fits_statement (Throw tag v) c suits (word, met) (has, known, well) = (word, fits_thrown v has c suits met well)
    fits_statement (Try s cs) c suits (met_s, met) (well_s, well) = (fits_statement s c suits met_s well_s, fit_clauses cs (following c s) (suits_after s c suits) met well)

    fit_items : (js : Items) (c : Context) → Suits b types c → ItemsMeet lowering_demands js → WellTypedItems c js → FitItems b types c.in_loop js
    fit_items NoItems c suits met well = tt
    fit_items (MoreItems (Execute s) js) c suits (one, all) (well, rest) =
        (fits_statement s c suits one well, fit_items js (following c s) (suits_after s c suits) all rest)
    fit_items (MoreItems (Declare n t v) js) c suits (one, all) ((next, there, live), well, rest) = (
      low_in b types c n t suits there,
      local_in b types c n t suits there,
      fits_initial v n t c suits there one well,
      fit_items js (with_local true t c) (record { functions = suits.functions; structs = suits.structs; variables = suits.variables; globals = suits.globals; counters = suits.counters; result = suits.result; locals = suits.locals; scopes = suits.scopes }) all rest,
    )
    fit_items (MoreItems (DeclareRegion r n) js) c suits all (next, (number, there, live), rest) = (
      suits.scopes n (Variable r) there,
      low_in b types c n (type_forms.Handle (Variable r)) suits there,
      local_in b types c n (type_forms.Handle (Variable r)) suits there,
      fit_items js (with_local false (type_forms.Handle (Variable r)) (with_opened scopes.Lexical c)) (record { functions = suits.functions; structs = suits.structs; variables = suits.variables; globals = suits.globals; counters = suits.counters; result = suits.result; locals = suits.locals; scopes = suits.scopes }) all rest,
    )
    fit_items (MoreItems (OpenRegion r n w k) js) c suits all (key, (number, there, live), rest) = (
      low_in b types c n (type_forms.Handle (Variable r)) suits there,
      local_in b types c n (type_forms.Handle (Variable r)) suits there,
      low_in b types c k (type_forms.Key (Variable r)) suits key.1,
      room_in b types c k (type_forms.Key (Variable r)) kinds.Key suits key.1 refl,
      fit_items js (with_local false (type_forms.Handle (Variable r)) (with_key_opened r c)) (record { functions = suits.functions; structs = suits.structs; variables = suits.variables; globals = suits.globals; counters = suits.counters; result = suits.result; locals = suits.locals; scopes = suits.scopes }) all rest,
    )
    fit_items (MoreItems (DeclareAlias r n t w m) js) c suits all (next, (u, lent, unique, t_is), (number, there, live), rest) = (
      low_in b types c n t suits there,
      local_in b types c n t suits there,
      low_in b types c m u suits lent.1,
      room_in b types c m u (kind_of t) suits lent.1 (ap kind_of t_is ∙ kind_moved (Variable r) u),
      fit_items js (with_local true t (with_opened scopes.Alias c)) (record { functions = suits.functions; structs = suits.structs; variables = suits.variables; globals = suits.globals; counters = suits.counters; result = suits.result; locals = suits.locals; scopes = suits.scopes }) all rest,
    )
    fit_items (MoreItems (DeclareKey r n) js) c suits all (next, (number, there, live), rest) = (
      low_in b types c n (type_forms.Key (Variable r)) suits there,
      local_in b types c n (type_forms.Key (Variable r)) suits there,
      fit_items js (with_local true (type_forms.Key (Variable r)) (with_region c)) (record { functions = suits.functions; structs = suits.structs; variables = suits.variables; globals = suits.globals; counters = suits.counters; result = suits.result; locals = suits.locals; scopes = suits.scopes }) all rest,
    )

    fit_clauses : (cs : Clauses) (c : Context) → Suits b types c → ClausesMeet lowering_demands cs → WellTypedClauses c cs → FitClauses b types c.in_loop cs
    fit_clauses NoClauses c suits met well = tt
    fit_clauses (Default r js) c suits met (next, well) =
        fit_items js (in_block c) (record { functions = suits.functions; structs = suits.structs; variables = suits.variables; globals = suits.globals; counters = suits.counters; result = suits.result; locals = suits.locals; scopes = suits.scopes }) met well
    fit_clauses (Case tag x r js cs) c suits (word, one, all) (has, known, caught, next, well, rest) = (
      word,
      fits_caught x has c suits caught,
      subst (λ l. FitItems b types l js) (loop_caught x (in_block c)) (fit_items js (with_caught x (in_block c)) (suits_caught x c suits) one well),
      fit_clauses cs (after_clause c x js) (record { functions = suits.functions; structs = suits.structs; variables = suits.variables; globals = suits.globals; counters = suits.counters; result = suits.result; locals = suits.locals; scopes = suits.scopes }) all rest,
    )

  pub body_fits : (js : Items) (c : Context) → c.functions ≡ b.functions → c.structs ≡ types.structs → c.variables ≡ types.locals → c.globals ≡ types.globals → c.counters ≡ length types.counters → c.result ≡ b.result → length c.variables ≡ b.locals
      → ((n : ℕ) (r : Region) → slice_get c.variables n ≡ Some (type_forms.Handle r) → IsCounting types.scopes) → ItemsMeet lowering_demands js → WellTypedItems c js → FitItems b types c.in_loop js
  body_fits js c functions structs variables globals counters result locals scopes met well =
      fit_items js c (record { functions = functions; structs = structs; variables = variables; globals = globals; counters = counters; result = result; locals = locals; scopes = scopes }) met well

-- ---- programs

-- If a function has a local that is a region handle, then the function may open regions.
handle_among : (ts : List Ty) (n : ℕ) (r : Region) → slice_get ts n ≡ Some (type_forms.Handle r) → list_any is_handle ts ≡ true
handle_among [] n r there = absurd (none-some (type_forms.Handle r) there)
handle_among (t ∷ ts) zero r there = ap (λ (u : Ty). is_handle u || list_any is_handle ts) (same_Some t (type_forms.Handle r) there)
handle_among (t ∷ ts) (suc n) r there = or_right (is_handle t) (list_any is_handle ts) (handle_among ts n r there)

may_count : (may : Bool) → may ≡ true → IsCounting (scopes_if may)
may_count true is = (RECORD_WORDS, refl)
may_count false is = absurd (let f : false ≡ true = is in cc)

-- The functions of the list `hs` are functions of the program and meet the requirements of lowering.
functions_fit : (p : Program) (hs : List Function) → (list_any may_open hs ≡ true → list_any may_open p.functions ≡ true) → FunctionsMeet lowering_demands hs → AreWellTypedFunctions p hs
    → AreFitting p.structs p.globals (scopes_of p) (signatures_of p.functions) hs
functions_fit p [] among met well = tt
functions_fit p (h ∷ hs) among (one, all) (well, rest) = (
  body_fits (numbering_of (length p.globals) (signatures_of p.functions) h) (types_of p.structs (global_types p.globals) (scopes_of p) h) h.body (body_context p h) refl refl refl refl refl refl (length-append h.parameters h.locals)
      (λ n r there. may_count (list_any may_open p.functions) (among (ap (λ (x : Bool). x || list_any may_open hs) (opens n r there)))) one well.body,
  functions_fit p hs (λ later. among (or_right (may_open h) (list_any may_open hs) later)) all rest,
)
  where
    opens : (n : ℕ) (r : Region) → slice_get (h.parameters ++ h.locals) n ≡ Some (type_forms.Handle r) → may_open h ≡ true
    opens n r there = sym (list_any-append is_handle h.parameters h.locals) ∙ handle_among (h.parameters ++ h.locals) n r there

pub is_fitting_program : (p : Program) → FunctionsMeet lowering_demands p.functions → IsWellTypedProgram p → IsFitting p
is_fitting_program p met well = record {
  functions = functions_fit p p.functions (λ is. is) met well.functions;
  globals = well.globals;
  main = well.main;
}
