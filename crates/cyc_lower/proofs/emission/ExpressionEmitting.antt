-- The code of an expression is emitted piece by piece, also for tree nodes that contain lists. No expression has empty code.
use Rattle.std.proofs.Common.{◌≡◌, ℕ, zero, suc, ◌+◌, ◌-◌, ◌<◌, ◌≤◌, Bool, true, false, List, [], ◌∷◌, ◌++◌, length, drop, set, Option, Some, None, refl, sym, ap, ◌∙◌, arith, append_assoc}
use Rattle.std.specs.Prelude.{◌==◌, if◌then◌else◌}
use Rattle.std.proofs.lemmas.Bool.{eqb-true, eq-eqb}
use Rattle.std.proofs.lemmas.List.{drop_all, length-append}
use Rattle.std.specs.declared.vec.Vec.{Vec}
use Rattle.std.specs.declared.boxed.Box.{Box}
use Rattle.std.specs.declared.alloc.Global.{Global as Heap}
use Rattle.cyc_words.specs.declared.span.Span.{Span}
use Rattle.cyc_types.specs.declared.ty.Ty.{Ty as TyCode}
use Rattle.cyc_types.specs.declared.typed.ValueType.{ValueType as ValueTypeCode}
use Rattle.cyc_types.specs.declared.typed.Lvalue.{Lvalue as LvalueCode}
use Rattle.cyc_types.specs.declared.typed.Callee.{Callee}
use Rattle.cyc_types.specs.declared.typed.Callee.TheVariants as callees
use Rattle.cyc_types.specs.declared.typed.Operator.{Operator}
use Rattle.cyc_types.specs.declared.typed.UnaryOperator.TheVariants as unary
use Rattle.cyc_types.specs.declared.typed.LogicalOperator.{LogicalOperator}
use Rattle.cyc_types.specs.declared.typed.Expr.{Expr}
use Rattle.cyc_types.specs.declared.typed.Expr.TheVariants as expr
use Rattle.cyc_types.specs.declared.typed.Initial.{Initial as InitialCode}
use Rattle.cyc_types.specs.declared.typed.Initial.TheVariants as initial
use Rattle.cyc_types.specs.declared.typed.Dereference.{Dereference as DereferenceCode}
use Rattle.cyc_types.specs.declared.typed.Converted.{Converted as ConvertedCode}
use Rattle.cyc_types.specs.declared.typed.Operation.{Operation}
use Rattle.cyc_types.specs.declared.typed.Operation.TheVariants as operation
use Rattle.cyc_store.specs.declared.range.TheConstants.{HEAP, UNIQUE}
use Rattle.cyc_types.specs.Types.{ValueType, Void, words_of}
use Rattle.cyc_types.specs.TypeView.{view_value_type}
use Rattle.cyc_types.specs.TypedTrees.{Load, New, OnHeap, AsUnique, ByHandle, FreeKey, Initial, Plain, Fields, Array, Dereference, Target, Lvalue, Local, Global, Expression, Number, Copy, Call, Unary, Binary, Assign}
use Rattle.cyc_types.specs.TypedTrees.{Converted, Convert, Arguments, Operations, NoOperations, ThenCompute, ThenTest, Move, Peek, AddressOfCell, Store, Member, Element, FreeUnique, NumberOfElements, type_of_place, AddressOf}
use Rattle.cyc_types.specs.TypedTreeView.{view_lvalue, view_initial, view_expression, view_converted, arguments_of, operations_of, view_dereference}
use Rattle.cyc_types.specs.declared.typed.Kind.{Kind}
use Rattle.cyc_meaning.specs.Values.{words_of_kind, kind_of, is_thin}
use Rattle.cyc_types.proofs.TypedTreeViewLemmas.{view_typed_fields}
use Rattle.cyc_plain.specs.declared.instruction.BinaryOperator.TheVariants as plain_binary
use Rattle.cyc_plain.specs.declared.instruction.Comparison.TheVariants as comparisons
use Rattle.cyc_plain.specs.declared.instruction.Operand.{Operand}
use Rattle.cyc_plain.specs.declared.instruction.Operand.TheVariants as operands
use Rattle.cyc_plain.specs.declared.instruction.Instruction.{Instruction}
use Rattle.cyc_plain.specs.declared.instruction.Instruction.TheVariants as instructions
use Rattle.cyc_lower_proof.specs.inside.Slots.{slot_of, Starts, global_of}
use Rattle.cyc_lower_proof.specs.inside.ValueCode.{passed_words, kind_passed, all_passed, kinds_passed, converts_there, converted_by, moved_by, move_of, operand_or, code_unless, left_with, low_byte, next_slot, operator_code, compute_code, test_jump}
use Rattle.cyc_lower_proof.specs.inside.ValueCode.{truth_code, test_code, copy_code, address_code, addressed_by, reached_code, span_of, followed_code, span_in, code_unless_slot, global_code, masked_by, masks, inside_code, scaled_code, summed_code}
use Rattle.cyc_lower_proof.specs.inside.ObjectCode.{object_code, saved_code}
use Rattle.cyc_lower_proof.specs.inside.ExpressionCode.{source_of, source_slot, operand_of, left_of, slot_with, left_slot, value_operand, converted_operand, printed_operand, load_code, expression_code, value_slot, arguments_code}
use Rattle.cyc_lower_proof.specs.inside.ExpressionCode.{converted_code, converted_operand_code, printed_code, initial_code, operations_code, made_code, place_operand, place_offset, place_code, pointer_of, brought_code, is_simple}
use Rattle.cyc_lower_proof.specs.inside.Lowering.{assignment_code, assigned_operand, discarded_code, store_address_code, store_code}
use Rattle.cyc_lower.specs.inside.Emission.{most_locals, value_code, print_code, left_code, takes_operand, operation_code}
use Rattle.cyc_lower_proof.proofs.slots.Widths.{kind_positive}
use Rattle.cyc_lower_proof.proofs.slots.Slots.{words_positive}
use Rattle.cyc_lower.proofs.emission.Emitting.{some_after, before, loaded_some, counted_some, operates, Lowers, Remains, all_made, call_viewed, binary_viewed, tested, emitted_joined, no_shorter_than}

-- ---- the first slots of locals

module _ (starts : Starts) where
  -- ---- no expression has empty code

  loads : (words : ℕ) (l : Lvalue) (d : ℕ) → 1 ≤ words → 0 < length (load_code starts words l d)
  loads words (Local p n) d some = omega arith
  loads zero (Global n) d some = absurd (omega (arith, some))
  loads (suc words) (Global n) d some = omega arith

  saves : (words first : ℕ) (o : Operand) → 1 ≤ words → 0 < length (global_code words first o)
  saves zero first (operands.Slot n) some = absurd (omega (arith, some))
  saves (suc words) first (operands.Slot n) some = omega arith
  saves words first (operands.Word n) some = omega arith

  passed_some : (c : Converted) → 1 ≤ passed_words c
  passed_some (Convert from to a) = kind_positive to

  computes : (o : Operator) (b : Expression) (os : Operations) (p : ℕ) (l : Operand) (d t : ℕ) → 0 < length (operations_code starts (ThenCompute o b os) p l d t)
  computes o b os p l d t =
      before (compute_code starts o l (value_operand starts b (suc t)) (value_code starts b p (suc t)) (next_slot os d t)) _
      (some_after (value_code starts b p (suc t)) _ (operates starts o l (value_operand starts b (suc t)) (next_slot os d t)))

  tests : (o : LogicalOperator) (b : Expression) (os : Operations) (p : ℕ) (l : Operand) (d t : ℕ) → 0 < length (operations_code starts (ThenTest o b os) p l d t)
  tests o b os p l d t = before (test_code o (expression_code starts b (p + 1) t t) p (next_slot os d t) t) _ (omega arith)

  initial_by : (there : Bool) (known : Option Operand) (at_once inner : List Instruction) (from to : Kind) (span : Option ℕ) (o : Operand) (p d : ℕ) → 0 < length at_once
      → 0 < length (if there then at_once else moved_by starts known inner from to span o p d)
  initial_by true known at_once inner from to span o p d some = some
  initial_by false known at_once inner from to span o p d some = some_after (converted_by starts known inner from to span o p) (move_of (words_of_kind to) d o ∷ []) (omega arith)

  reached_some : (span : Option ℕ) (n m t p : ℕ) → 0 < length (reached_code starts span n m t p)
  reached_some None n m t p = omega arith
  reached_some (Some bytes) n m t p = omega arith

  followed_some : (thin : Bool) (span : Option ℕ) (o : Operand) (t p : ℕ) → 0 < length (followed_code starts thin span o t p)
  followed_some true span o t p = omega arith
  followed_some false span (operands.Slot n) t p = reached_some span n (n + 2) t p
  followed_some false span (operands.Word w) t p = omega arith

  place_some : (x : Dereference) (p t : ℕ) → 0 < length (place_code starts x p t)
  place_some (Target k a ty) p t =
      some_after (code_unless (operand_of starts a) (expression_code starts a p (value_slot starts a t) t)) _ (followed_some (is_thin k) (span_in ty) (value_operand starts a t) t _)
  place_some (Member k a s f ty) p t = some_after (code_unless (operand_of starts a) (expression_code starts a p (value_slot starts a t) t)) _ (omega arith)
  place_some (Element a i ty) p t =
      let front = code_unless_slot (pointer_of starts a i) (expression_code starts a p t t) in
      some_after front _ (some_after (code_unless (operand_of starts i) (expression_code starts i (p + length front) (value_slot starts i (t + 3)) (t + 3))) _ (omega arith))

  brought_by_some : (masking : Bool) (known : Option Operand) (at_once inner : List Instruction) (o : Operand) (d : ℕ) → 0 < length at_once
      → 0 < length (if masking then masked_by known inner o d else at_once)
  brought_by_some true known at_once inner o d some = some_after (code_unless known inner) (low_byte o d ∷ []) (omega arith)
  brought_by_some false known at_once inner o d some = some

  mutual
    pub expression_some : (a : Expression) (p d t : ℕ) → 0 < length (expression_code starts a p d t)
    expression_some (Number n) p d t = omega arith
    expression_some (Copy l ty) p d t = loads (words_of ty) l d (words_positive ty)
    expression_some (Move w n ty) p d t = loads (words_of ty) (Local w n) d (words_positive ty)
    expression_some (Peek w n ty) p d t = loads (words_of ty) (Local w n) d (words_positive ty)
    expression_some (Call callees.Putchar cs ty) p d t = some_after (printed_code starts cs p t) _ (omega arith)
    expression_some (Call callees.Getchar cs ty) p d t = some_after (arguments_code starts cs p t) _ (omega arith)
    expression_some (Call (callees.Function n) cs ty) p d t = some_after (arguments_code starts cs p t) _ (omega arith)
    expression_some (NumberOfElements a) p d t = some_after (value_code starts a p t) _ (counted_some (value_operand starts a t) (p + length (value_code starts a p t)) d)
    expression_some (Unary unary.Widen a) p d t = expression_some a p d t
    expression_some (Unary o a) p d t = some_after (value_code starts a p t) _ (omega arith)
    expression_some (Binary a NoOperations ty) p d t = before (expression_code starts a p d t) _ (expression_some a p d t)
    expression_some (Binary a (ThenCompute o b os) ty) p d t =
        let front = left_code starts a (ThenCompute o b os) p d t in
        some_after front _ (computes o b os (p + length front) (operand_or (left_of starts a (ThenCompute o b os)) (left_slot starts a (ThenCompute o b os) d t)) d t)
    expression_some (Binary a (ThenTest o b os) ty) p d t =
        let front = left_code starts a (ThenTest o b os) p d t in
        some_after front _ (tests o b os (p + length front) (operands.Slot t) d t)
    expression_some (Binary a os ty) p d t = before (expression_code starts a p t t) _ (expression_some a p t t)
    expression_some (Assign (Local w n) c ty) p d t = before (initial_code starts c p (slot_of starts n) t) _ (initial_some c p (slot_of starts n) t)
    expression_some (Assign (Global n) c ty) p d t =
        before (converted_operand_code starts c p t ++ _) (copy_code (passed_words c) (converted_operand starts c t) d) (some_after (converted_operand_code starts c p t) _ (saves (passed_words c) (global_of starts n) (converted_operand starts c t) (passed_some c)))
    expression_some (Load x) p d t = some_after (place_code starts x p t) _ (loaded_some (words_of_kind (kind_of (type_of_place x)) == 1) (kind_of (type_of_place x)) (place_operand starts x t) (place_offset starts x) d t)
    expression_some (AddressOf (Local w n) ty) p d t = omega arith
    expression_some (AddressOf (Global n) ty) p d t = omega arith
    expression_some (AddressOfCell x ty) p d t = before (place_code starts x p t) _ (place_some x p t)
    expression_some (Store x c ty) p d t = before (store_code starts x c p t) _ (before (store_address_code starts x p t) _ (before (place_code starts x p t) _ (place_some x p t)))
    expression_some (FreeUnique a) p d t = some_after (value_code starts a p t) _ (omega arith)
    expression_some (FreeKey a) p d t = some_after (value_code starts a p t) _ (omega arith)
    expression_some (New OnHeap i ty) p d t = made_some i (operands.Word HEAP) p d t
    expression_some (New AsUnique i ty) p d t = made_some i (operands.Word UNIQUE) p d t
    expression_some (New (ByHandle a) i ty) p d t = before (expression_code starts a p t t) _ (expression_some a p t t)
    expression_some a p d t = omega arith

    made_some : (i : Initial) (handle : Operand) (p d t : ℕ) → 0 < length (made_code starts i handle p d t)
    made_some (Plain kind a) handle p d t = some_after (expression_code starts a p t t) (object_code handle (kind ∷ []) d t) (omega arith)
    made_some (Fields cs) handle p d t = some_after (arguments_code starts cs p t) (object_code handle (kinds_passed cs) d t) (omega arith)
    made_some (Array w level n kind a) handle p d t = some_after (expression_code starts n p t t) _ (omega arith)

    initial_some : (c : Converted) (p d t : ℕ) → 0 < length (initial_code starts c p d t)
    initial_some (Convert from to a) p d t =
        let slot = source_slot starts (Convert from to a) t in
        initial_by (converts_there from to) (source_of starts (Convert from to a)) (brought_code starts (Convert from to a) p d t) (brought_code starts (Convert from to a) p slot t) from to (span_of a) (converted_operand starts (Convert from to a) t) p d
        (brought_by_some (masks from to) (operand_of starts a) (expression_code starts a p d t) (expression_code starts a p (value_slot starts a t) t) (value_operand starts a t) d (expression_some a p d t))

  -- Returns the code of the arguments of a call. The state passed from one argument to the next is the slot of the next argument.
  abbrev pub all_arguments : List ConvertedCode → (p t : ℕ) → List Instruction
  all_arguments cs p t = arguments_code starts (arguments_of cs) p t

  abbrev pub one_argument : ConvertedCode → List ConvertedCode → (p t : ℕ) → List Instruction
  one_argument c cs p t = converted_code starts (view_converted c) p t

  abbrev pub next_argument : ConvertedCode → List ConvertedCode → ℕ → ℕ
  next_argument c cs t = t + words_of_kind c.to

  pub arguments_lower : Lowers all_arguments one_argument next_argument
  arguments_lower = record { none = λ p t. refl; more = λ x xs p t. refl }

  -- Returns the code of the argument of `putchar`, as a loop over arguments that passes on the operand of the printed value.
  abbrev pub all_printed : ℕ → List ConvertedCode → ℕ → Operand → List Instruction
  all_printed t cs p o = printed_code starts (arguments_of cs) p t

  abbrev pub one_printed : ℕ → ConvertedCode → List ConvertedCode → ℕ → Operand → List Instruction
  one_printed t c cs p o = converted_operand_code starts (view_converted c) p t

  abbrev pub next_printed : ℕ → ConvertedCode → List ConvertedCode → Operand → Operand
  next_printed t c cs o = converted_operand starts (view_converted c) t

  pub printed_lower : (t : ℕ) → Lowers (all_printed t) (one_printed t) (next_printed t)
  printed_lower t = record { none = λ p o. refl; more = λ x xs p o. refl }

  -- `PrintedLeft` says that, once the remaining arguments of `putchar` are visited, the current operand `o` has
  -- become the operand of the printed value.
  abbrev pub PrintedLeft : List ConvertedCode → (i : ℕ) → Operand → ℕ → Type 0
  PrintedLeft cs i o t = printed_operand starts (arguments_of (drop i cs)) o t ≡ printed_operand starts (arguments_of cs) (operands.Slot t) t

  pub printed_done : (cs : List ConvertedCode) (i : ℕ) (o : Operand) (t : ℕ) → length cs ≤ i → PrintedLeft cs i o t → o ≡ printed_operand starts (arguments_of cs) (operands.Slot t) t
  printed_done cs i o t done left = sym (ap (λ (ys : List ConvertedCode). printed_operand starts (arguments_of ys) o t) (drop_all i cs done)) ∙ left

  -- Returns the code of a chain of operators. The state passed from one operator to the next is the left operand of the next operator.
  abbrev pub all_operations : (d t : ℕ) → List Operation → ℕ → Operand → List Instruction
  all_operations d t os p l = operations_code starts (operations_of os) p l d t

  abbrev pub one_operation : (d t : ℕ) → Operation → List Operation → ℕ → Operand → List Instruction
  one_operation d t o os p l = operation_code starts o p l (next_slot (operations_of os) d t) t

  abbrev pub next_operation : (d t : ℕ) → Operation → List Operation → Operand → Operand
  next_operation d t o os l = operands.Slot (next_slot (operations_of os) d t)

  one_operation_more : (d t : ℕ) (o : Operation) (os : List Operation) (p : ℕ) (l : Operand)
      → all_operations d t (o ∷ os) p l ≡ one_operation d t o os p l ++ all_operations d t os (p + length (one_operation d t o os p l)) (next_operation d t o os l)
  one_operation_more d t (operation.Compute w o e) os p l = refl
  one_operation_more d t (operation.Test o e) os p l = refl
  one_operation_more d t (operation.Pointer o e) os p l = refl
  one_operation_more d t (operation.PointerPeek n o e) os p l = refl

  pub operations_lower : (d t : ℕ) → Lowers (all_operations d t) (one_operation d t) (next_operation d t)
  operations_lower d t = record { none = λ p l. refl; more = one_operation_more d t }

  -- ---- nodes with lists

  -- The type of a call's result does not affect the code of the call.
  pub call_alike : (f : Callee) (cs : Arguments) (ty other : ValueType) (p d t : ℕ) → expression_code starts (Call f cs ty) p d t ≡ expression_code starts (Call f cs other) p d t
  call_alike callees.Putchar cs ty other p d t = refl
  call_alike callees.Getchar cs ty other p d t = refl
  call_alike (callees.Function n) cs ty other p d t = refl

  module _ (value : Operation) (o : LogicalOperator) (e : Expr) (is : value ≡ operation.Test o e) (old : List Instruction) (x : Instruction) (begun made patched new : List Instruction) (l : Operand) (d t place target : ℕ) where
    pub made_test : place ≡ length old → begun ≡ old ++ x ∷ [] → made ≡ begun ++ expression_code starts (view_expression e) (length begun) t t → target ≡ length made
        → patched ≡ set made place (test_jump o t target) → new ≡ patched ++ truth_code t d → new ≡ old ++ operation_code starts value (length old) l d t
    made_test here b m k p n =
        tested old x (λ (q : ℕ). expression_code starts (view_expression e) q t t) (λ (q : ℕ). test_jump o t q) begun made patched new (truth_code t d) place here target b m k p n
        ∙ ap (λ (y : Operation). old ++ operation_code starts y (length old) l d t) (sym is)

  -- ---- pieces one after the other

  -- ---- calls

  module _ (f : Callee) (items : List ConvertedCode) (old m1 m2 : List Instruction) (d t : ℕ) where
    pub made_putchar : (byte : Operand) → f ≡ callees.Putchar → byte ≡ printed_operand starts (arguments_of items) (operands.Slot t) t → m1 ≡ old ++ print_code starts (arguments_of items) (length old) t
        → m2 ≡ m1 ++ low_byte byte d ∷ [] → m2 ≡ old ++ expression_code starts (Call f (arguments_of items) Void) (length old) d t
    made_putchar byte is byte_is e1 e2 =
        let o = printed_operand starts (arguments_of items) (operands.Slot t) t in
        let front = printed_code starts (arguments_of items) (length old) t in
        emitted_joined old (print_code starts (arguments_of items) (length old) t) (λ n. low_byte o d ∷ []) m1 m2 e1 (e2 ∙ ap (λ b. m1 ++ low_byte b d ∷ []) byte_is)
        ∙ ap (λ (l : List Instruction). old ++ l) (append_assoc front (instructions.WriteByte o ∷ []) (low_byte o d ∷ []))
        ∙ ap (λ (g : Callee). old ++ expression_code starts (Call g (arguments_of items) Void) (length old) d t) (sym is)

    pub made_call : (n many : ℕ) → f ≡ callees.Function n → many ≡ all_passed (arguments_of items) → m1 ≡ old ++ arguments_code starts (arguments_of items) (length old) t
        → m2 ≡ m1 ++ instructions.Call n t many d ∷ [] → m2 ≡ old ++ expression_code starts (Call f (arguments_of items) Void) (length old) d t
    made_call n many is counted e1 e2 =
        let all = all_passed (arguments_of items) in
        emitted_joined old (arguments_code starts (arguments_of items) (length old) t) (λ p. instructions.Call n t all d ∷ []) m1 m2 e1 (e2 ∙ ap (λ k. m1 ++ instructions.Call n t k d ∷ []) counted)
        ∙ ap (λ (g : Callee). old ++ expression_code starts (Call g (arguments_of items) Void) (length old) d t) (sym is)

  -- The code emitted for a call is the code of the call as an expression.
  pub made_called : (value : Expr) {w : Span} (f : Callee) (v : Vec ConvertedCode Heap) (ty : ValueTypeCode) (items : List ConvertedCode) (old new : List Instruction) (d t : ℕ) → value ≡ expr.Call w f v ty → items ≡ v.items
      → new ≡ old ++ expression_code starts (Call f (arguments_of items) Void) (length old) d t → new ≡ old ++ expression_code starts (view_expression value) (length old) d t
  made_called value f v ty items old new d t is same made =
      made ∙ ap (λ (l : List Instruction). old ++ l) (call_alike f (arguments_of items) Void (view_value_type ty) (length old) d t)
      ∙ ap (λ (a : Expression). old ++ expression_code starts a (length old) d t) (sym (call_viewed value f v ty is items same))

  -- The code of a new struct consists of the code of its fields and the code that allocates it.
  pub made_fields : (value : InitialCode) (v : Vec ConvertedCode Heap) (items : List ConvertedCode) (ks : List Kind) (old m1 m2 : List Instruction) (handle : Operand) (d t : ℕ) → value ≡ initial.Fields v → items ≡ v.items → ks ≡ kinds_passed (arguments_of items)
      → m1 ≡ old ++ arguments_code starts (arguments_of items) (length old) t → m2 ≡ m1 ++ object_code handle ks d t → m2 ≡ old ++ made_code starts (view_initial value) handle (length old) d t
  made_fields value v items ks old m1 m2 handle d t is same ks_are first second =
      let cs = arguments_of v.items in
      second
      ∙ ap (λ (l : List Kind). m1 ++ object_code handle l d t) (ks_are ∙ ap (λ (l : List ConvertedCode). kinds_passed (arguments_of l)) same)
      ∙ ap (λ (l : List Instruction). l ++ object_code handle (kinds_passed cs) d t) (first ∙ ap (λ (l : List ConvertedCode). old ++ arguments_code starts (arguments_of l) (length old) t) same)
      ∙ append_assoc old (arguments_code starts cs (length old) t) (object_code handle (kinds_passed cs) d t)
      ∙ ap (λ (i : Initial). old ++ made_code starts i handle (length old) d t) (sym (ap view_initial is ∙ view_typed_fields v))

  -- ---- chains

  pub made_binary : (value : Expr) (b : Box Expr Heap) (v : Vec Operation Heap) (ty : TyCode) (first : Expr) (items others : List Operation) (old m1 m2 : List Instruction) (l : Operand) (d t : ℕ)
      → value ≡ expr.Binary b v ty → first ≡ b.value → items ≡ v.items → others ≡ v.items
      → (l ≡ operand_or (left_of starts (view_expression first) (operations_of items)) (left_slot starts (view_expression first) (operations_of items) d t))
      → m1 ≡ old ++ left_code starts (view_expression first) (operations_of items) (length old) d t
      → m2 ≡ m1 ++ operations_code starts (operations_of others) (length m1) l d t → m2 ≡ old ++ expression_code starts (view_expression value) (length old) d t
  made_binary value b v ty first items others old m1 m2 l d t is at same same_others l_is e1 e2 =
      let a = view_expression first in
      let os = operations_of items in
      let left = operand_or (left_of starts a os) (left_slot starts a os d t) in
      emitted_joined old (left_code starts a os (length old) d t) (λ p. operations_code starts os p left d t) m1 m2 e1
      (e2 ∙ ap (λ (os' : List Operation). m1 ++ operations_code starts (operations_of os') (length m1) l d t) (same_others ∙ sym same) ∙ ap (λ (o : Operand). m1 ++ operations_code starts os (length m1) o d t) l_is)
      ∙ ap (λ (x : Expression). old ++ expression_code starts x (length old) d t) (sym (binary_viewed value b v ty is first at items same))

  -- After the left operand of a chain of operators is emitted, the index of the next free slot is still within the limit of slot indices.
  pub room_following : (a : Expression) (os : Operations) (old new : List Instruction) (d t : ℕ) → t ≤ most_locals + length old → new ≡ old ++ left_code starts a os (length old) d t → t ≤ most_locals + length new
  room_following a os old new d t low is = omega (arith, low, no_shorter_than old _ new is)

  -- If the left operand of a chain of operators needs code, its value is moved to the slot `left_slot`.
  left_plain : (a : Expression) (os : List Operation) (d t to : ℕ) → takes_operand starts (operations_of os) ≡ false → (length os ≡ 0 → to ≡ d) → (0 < length os → to ≡ t)
      → (left_of starts a (operations_of os) ≡ None) × (to ≡ left_slot starts a (operations_of os) d t)
  left_plain a [] d t to plain none some = (refl, none refl)
  left_plain a (operation.Test o e ∷ os) d t to plain none some = (refl, some (omega arith))
  left_plain a (operation.Pointer o e ∷ os) d t to plain none some = (refl, some (omega arith))
  left_plain a (operation.PointerPeek n o e ∷ os) d t to plain none some = (refl, some (omega arith))
  left_plain a (operation.Compute w o e ∷ os) d t to plain none some = by (is_simple starts (view_expression e)) plain
    where
      by : (simple : Bool) → simple ≡ false → (left_with simple (operand_of starts a) ≡ None) × (to ≡ slot_with starts simple a t)
      by true plain = absurd (let f : true ≡ false = plain in cc)
      by false plain = (refl, some (omega arith))

  made_left : (a : Expression) (os : List Operation) (old new : List Instruction) (d t to : ℕ) → takes_operand starts (operations_of os) ≡ false → (length os ≡ 0 → to ≡ d) → (0 < length os → to ≡ t)
      → new ≡ old ++ expression_code starts a (length old) to t
      → (operands.Slot to ≡ operand_or (left_of starts a (operations_of os)) (left_slot starts a (operations_of os) d t)) × (new ≡ old ++ left_code starts a (operations_of os) (length old) d t)
  made_left a os old new d t to plain none some is =
      let (unknown, slot) = left_plain a os d t to plain none some in
      let there = left_slot starts a (operations_of os) d t in (
        ap operands.Slot slot ∙ sym (ap (λ (k : Option Operand). operand_or k there) unknown),
        is ∙ ap (λ (n : ℕ). old ++ expression_code starts a (length old) n t) slot ∙ sym (ap (λ (k : Option Operand). old ++ code_unless k (expression_code starts a (length old) there t)) unknown),
      )

  -- If the left operand of a chain of operators needs no code, it is used as an operand directly.
  pub made_left_operand : (a : Expression) (os : Operations) (old : List Instruction) (d t : ℕ) → takes_operand starts os ≡ true
      → (value_operand starts a t ≡ operand_or (left_of starts a os) (left_slot starts a os d t)) × (value_code starts a (length old) t ≡ left_code starts a os (length old) d t)
  made_left_operand a (ThenCompute o b os) old d t takes = by (is_simple starts b) takes
    where
      by : (simple : Bool) → simple ≡ true
          → (value_operand starts a t ≡ operand_or (left_with simple (operand_of starts a)) (slot_with starts simple a t))
          × (value_code starts a (length old) t ≡ code_unless (left_with simple (operand_of starts a)) (expression_code starts a (length old) (slot_with starts simple a t) t))
      by true takes = (refl, refl)
      by false takes = absurd (let f : false ≡ true = takes in cc)
  made_left_operand a os old d t takes = absurd (let f : false ≡ true = takes in cc)

  pub made_left_alone : (a : Expression) (os : List Operation) (old new : List Instruction) (d t to : ℕ) → takes_operand starts (operations_of os) ≡ false → (length os == 0) ≡ true → to ≡ d
      → new ≡ old ++ expression_code starts a (length old) to t
      → (operands.Slot to ≡ operand_or (left_of starts a (operations_of os)) (left_slot starts a (operations_of os) d t)) × (new ≡ old ++ left_code starts a (operations_of os) (length old) d t)
  made_left_alone a os old new d t to plain empty there is =
      made_left a os old new d t to plain (λ none. there) (λ some. absurd (let none : length os ≡ 0 = eqb-true (length os) 0 empty in omega (arith, some, none))) is

  pub made_left_first : (a : Expression) (os : List Operation) (old new : List Instruction) (d t to : ℕ) → takes_operand starts (operations_of os) ≡ false → (length os == 0) ≡ false → to ≡ t
      → new ≡ old ++ expression_code starts a (length old) to t
      → (operands.Slot to ≡ operand_or (left_of starts a (operations_of os)) (left_slot starts a (operations_of os) d t)) × (new ≡ old ++ left_code starts a (operations_of os) (length old) d t)
  made_left_first a os old new d t to plain more there is =
      made_left a os old new d t to plain (λ none. absurd (let f : false ≡ true = sym more ∙ eq-eqb (length os) 0 none in cc)) (λ some. there) is

  pub made_compute : {w : Span} (value : Operation) (o : Operator) (e : Expr) (old m1 m2 : List Instruction) (l r : Operand) (d t following : ℕ) → value ≡ operation.Compute w o e → following ≡ t + 1
      → r ≡ value_operand starts (view_expression e) following → m1 ≡ old ++ value_code starts (view_expression e) (length old) following → m2 ≡ m1 ++ operator_code starts o l r d
      → m2 ≡ old ++ operation_code starts value (length old) l d t
  made_compute value o e old m1 m2 l r d t following is following_is r_is e1 e2 =
      let a = view_expression e in
      let next : following ≡ suc t = omega (arith, following_is) in
      let right = value_operand starts a (suc t) in
      emitted_joined old (value_code starts a (length old) (suc t)) (λ p. operator_code starts o l right d) m1 m2 (e1 ∙ ap (λ (n : ℕ). old ++ value_code starts a (length old) n) next)
      (e2 ∙ ap (λ (x : Operand). m1 ++ operator_code starts o l x d) (r_is ∙ ap (value_operand starts a) next))
      ∙ ap (λ (x : Operation). old ++ operation_code starts x (length old) l d t) (sym is)

  -- After one operator of a chain is emitted, the index of the next free slot is still within the limit of slot indices.
  pub room_after : (x : Operation) (old new : List Instruction) (l : Operand) (d t : ℕ) → t ≤ most_locals + length old → new ≡ old ++ operation_code starts x (length old) l d t → t ≤ most_locals + length new
  room_after x old new l d t low is = omega (arith, low, no_shorter_than old _ new is)

  -- After its argument, the code of `putchar` prints the low byte of the argument's operand.
  pub made_print : (items : List ConvertedCode) (old code new : List Instruction) (i : ℕ) (byte : Operand) (t : ℕ) → length items ≤ i
      → Remains (all_printed t) old items (operands.Slot t) i code byte → PrintedLeft items i byte t → new ≡ code ++ instructions.WriteByte byte ∷ []
      → (byte ≡ printed_operand starts (arguments_of items) (operands.Slot t) t) × (new ≡ old ++ print_code starts (arguments_of items) (length old) t)
  made_print items old code new i byte t done r left is =
      let o = printed_operand starts (arguments_of items) (operands.Slot t) t in
      let byte_is : byte ≡ o = printed_done items i byte t done left in
      let made = all_made (all_printed t) (one_printed t) (next_printed t) (printed_lower t) old items (operands.Slot t) i code byte done r in (
        byte_is,
        emitted_joined old (printed_code starts (arguments_of items) (length old) t) (λ p. instructions.WriteByte o ∷ []) code new made (is ∙ ap (λ (b : Operand). code ++ instructions.WriteByte b ∷ []) byte_is),
      )

  -- The type of a call's result does not affect the code of a call whose value is dropped.
  discarded_alike : (f : Callee) (cs : Arguments) (ty other : ValueType) (p t : ℕ) → discarded_code starts (Call f cs ty) p t ≡ discarded_code starts (Call f cs other) p t
  discarded_alike callees.Putchar cs ty other p t = refl
  discarded_alike callees.Getchar cs ty other p t = refl
  discarded_alike (callees.Function n) cs ty other p t = refl

  pub made_discarded : (value : Expr) {w : Span} (f : Callee) (v : Vec ConvertedCode Heap) (ty : ValueTypeCode) (items : List ConvertedCode) (old new : List Instruction) (t : ℕ) → value ≡ expr.Call w f v ty → items ≡ v.items
      → new ≡ old ++ discarded_code starts (Call f (arguments_of items) Void) (length old) t → new ≡ old ++ discarded_code starts (view_expression value) (length old) t
  made_discarded value f v ty items old new t is same made =
      made ∙ ap (λ (l : List Instruction). old ++ l) (discarded_alike f (arguments_of items) Void (view_value_type ty) (length old) t)
      ∙ ap (λ (a : Expression). old ++ discarded_code starts a (length old) t) (sym (call_viewed value f v ty is items same))

  -- ---- assignments

  assigned_code : (l : Lvalue) (c : Converted) (ty : ValueType) (p d t : ℕ) → assignment_code starts l c p t ++ copy_code (passed_words c) (assigned_operand starts l c t) d ≡ expression_code starts (Assign l c ty) p d t
  assigned_code (Local w n) c ty p d t = refl
  assigned_code (Global n) c ty p d t = refl

  -- The code of an assignment expression assigns the value and then moves it to a slot.
  pub made_assigned : (value : Expr) (l : LvalueCode) (b : Box ConvertedCode Heap) (ty : ValueTypeCode) → value ≡ expr.Assign l b ty → (x : ConvertedCode) → x ≡ b.value → (old m1 m2 : List Instruction) (o : Operand) (d t : ℕ)
      → o ≡ assigned_operand starts (view_lvalue l) (view_converted x) t → m1 ≡ old ++ assignment_code starts (view_lvalue l) (view_converted x) (length old) t → m2 ≡ m1 ++ copy_code (words_of_kind x.to) o d
      → m2 ≡ old ++ expression_code starts (view_expression value) (length old) d t
  made_assigned value l b ty is x at old m1 m2 o d t o_is e1 e2 =
      let c = view_converted x in
      let front = assignment_code starts (view_lvalue l) c (length old) t in
      let tree : view_expression value ≡ Assign (view_lvalue l) c (view_value_type ty)
      = ap view_expression is ∙ ap (λ (z : ConvertedCode). Assign (view_lvalue l) (view_converted z) (view_value_type ty)) (sym at) in
      emitted_joined old front (λ p. copy_code (words_of_kind x.to) o d) m1 m2 e1 e2
      ∙ ap (λ (q : Operand). old ++ (front ++ copy_code (words_of_kind x.to) q d)) o_is
      ∙ ap (λ (k : List Instruction). old ++ k) (assigned_code (view_lvalue l) c (view_value_type ty) (length old) d t)
      ∙ ap (λ (y : Expression). old ++ expression_code starts y (length old) d t) (sym tree)

  -- ---- written cells

  -- The code that puts an address into a slot has at least one instruction, so the next slot's index is within the limit of slot indices.
  pub room_for_right : (x : Dereference) (old new : List Instruction) (t : ℕ) → t ≤ most_locals + length old
      → new ≡ old ++ addressed_by (place_code starts x (length old) t) (place_operand starts x t) (place_offset starts x) t → t < most_locals + length new
  room_for_right x old new t low made =
      let front = place_code starts x (length old) t in
      let address = address_code (place_operand starts x t) (place_offset starts x) t in
      omega (arith, low, place_some x (length old) t, length-append front address, length-append old (front ++ address), ap (λ (l : List Instruction). length l) made)

  stored_viewed : (value : Expr) (b : Box DereferenceCode Heap) (b' : Box ConvertedCode Heap) (ty : ValueTypeCode) → value ≡ expr.Store b b' ty → (x : DereferenceCode) → x ≡ b.value → (y : ConvertedCode) → y ≡ b'.value
      → view_expression value ≡ Store (view_dereference x) (view_converted y) (view_value_type ty)
  stored_viewed value b b' ty is x x_at y y_at =
      ap view_expression is
      ∙ ap (λ (z : DereferenceCode). Store (view_dereference z) (view_converted b'.value) (view_value_type ty)) (sym x_at)
      ∙ ap (λ (z : ConvertedCode). Store (view_dereference x) (view_converted z) (view_value_type ty)) (sym y_at)

  -- The code that checks an index compares it with a length, and a jump skips the code that chooses which exception is raised.
  pub made_inside : (old new : List Instruction) (n m following here : ℕ) → following ≡ n + 3 → here ≡ length old
      → new
      ≡ old
      ++ instructions.Branch comparisons.LessUnsigned (operands.Slot m) (operands.Slot (following - 2)) (here + 3)
      ∷ instructions.Binary plain_binary.NotEqual starts.tag_slot (operands.Slot n) (operands.Word 0) ∷ instructions.Jump (starts.raises + 1) ∷ []
      → new ≡ old ++ inside_code starts n m (length old)
  made_inside old new n m following here following_is here_is made =
      let question = instructions.Binary plain_binary.NotEqual starts.tag_slot (operands.Slot n) (operands.Word 0) in
      let jump = instructions.Jump (starts.raises + 1) in
      let bound : following - 2 ≡ n + 1 = omega (arith, following_is) in
      made
      ∙ ap (λ (x : ℕ). old ++ instructions.Branch comparisons.LessUnsigned (operands.Slot m) (operands.Slot x) (here + 3) ∷ question ∷ jump ∷ []) bound
      ∙ ap (λ (x : ℕ). old ++ instructions.Branch comparisons.LessUnsigned (operands.Slot m) (operands.Slot (n + 1)) (x + 3) ∷ question ∷ jump ∷ []) here_is

  -- The code of an access through a fat pointer scales the index, checks it and adds it to the address.
  pub made_reached : (span : Option ℕ) (old m1 m2 m3 : List Instruction) (n m t distance : ℕ) → distance ≡ t + 3 → m1 ≡ old ++ scaled_code span m distance → m2 ≡ m1 ++ inside_code starts n m (length m1)
      → m3 ≡ m2 ++ summed_code span n distance t → m3 ≡ old ++ reached_code starts span n m t (length old)
  made_reached span old m1 m2 m3 n m t distance distance_is e1 e2 e3 =
      let scaled = scaled_code span m (t + 3) in
      let summed = summed_code span n (t + 3) t in
      let first : m1 ≡ old ++ scaled = e1 ∙ ap (λ (x : ℕ). old ++ scaled_code span m x) distance_is in
      let last : m3 ≡ m2 ++ summed = e3 ∙ ap (λ (x : ℕ). m2 ++ summed_code span n x t) distance_is in
      emitted_joined old scaled (λ p. inside_code starts n m p ++ summed) m1 m3 first (emitted_joined m1 (inside_code starts n m (length m1)) (λ p. summed) m2 m3 e2 last)

  -- The code of an element access changes the fat pointer's third word, which is its index, and then accesses the cell at this index.
  pub made_element : (span : Option ℕ) (old m1 m2 : List Instruction) (o : Operand) (n past following t : ℕ) → past ≡ n + 3 → following ≡ t + 3
      → m1 ≡ old ++ instructions.Binary plain_binary.Add (following - 1) (operands.Slot (past - 1)) o ∷ []
      → m2 ≡ m1 ++ reached_code starts span n (following - 1) t (length m1)
      → m2 ≡ old ++ (instructions.Binary plain_binary.Add (t + 2) (operands.Slot (n + 2)) o ∷ reached_code starts span n (t + 2) t (length old + 1))
  made_element span old m1 m2 o n past following t past_is following_is e1 e2 =
      let less : following - 1 ≡ t + 2 = omega (arith, following_is) in
      let third : past - 1 ≡ n + 2 = omega (arith, past_is) in
      let sum = instructions.Binary plain_binary.Add (t + 2) (operands.Slot (n + 2)) o in
      let summed : m1 ≡ old ++ sum ∷ [] =
      e1
      ∙ ap (λ (x : ℕ). old ++ instructions.Binary plain_binary.Add x (operands.Slot (past - 1)) o ∷ []) less
      ∙ ap (λ (x : ℕ). old ++ instructions.Binary plain_binary.Add (t + 2) (operands.Slot x) o ∷ []) third in
      emitted_joined old (sum ∷ []) (λ p. reached_code starts span n (t + 2) t p) m1 m2 summed (e2 ∙ ap (λ (x : ℕ). m1 ++ reached_code starts span n x t (length m1)) less)

  -- The code of a store consists of the code of the address, followed by that of the stored value.
  made_store : (x : Dereference) (c : Converted) (old m1 m2 : List Instruction) (t : ℕ)
      → m1 ≡ old ++ addressed_by (place_code starts x (length old) t) (place_operand starts x t) (place_offset starts x) t
      → m2 ≡ m1 ++ (converted_operand_code starts c (length m1) (t + 1) ++ saved_code (kind_passed c) t (converted_operand starts c (t + 1))) → m2 ≡ old ++ store_code starts x c (length old) t
  made_store x c old m1 m2 t e1 e2 =
      emitted_joined old (store_address_code starts x (length old) t) (λ p. converted_operand_code starts c p (t + 1) ++ saved_code (kind_passed c) t (converted_operand starts c (t + 1))) m1 m2 e1 e2

  -- The code of a store expression stores the value in a memory cell and then moves it to a slot.
  pub made_stored : (value : Expr) (b : Box DereferenceCode Heap) (b' : Box ConvertedCode Heap) (ty : ValueTypeCode) → value ≡ expr.Store b b' ty → (x : DereferenceCode) → x ≡ b.value → (y : ConvertedCode) → y ≡ b'.value
      → (old m1 m2 m3 : List Instruction) (o : Operand) (d t : ℕ) → o ≡ converted_operand starts (view_converted y) (t + 1)
      → m1 ≡ old ++ addressed_by (place_code starts (view_dereference x) (length old) t) (place_operand starts (view_dereference x) t) (place_offset starts (view_dereference x)) t
      → m2 ≡ m1 ++ (converted_operand_code starts (view_converted y) (length m1) (t + 1) ++ saved_code y.to t (converted_operand starts (view_converted y) (t + 1)))
      → m3 ≡ m2 ++ copy_code (words_of_kind y.to) o d → m3 ≡ old ++ expression_code starts (view_expression value) (length old) d t
  made_stored value b b' ty is x x_at y y_at old m1 m2 m3 o d t o_is e1 e2 e3 =
      let front = store_code starts (view_dereference x) (view_converted y) (length old) t in
      emitted_joined old front (λ p. copy_code (words_of_kind y.to) o d) m2 m3 (made_store (view_dereference x) (view_converted y) old m1 m2 t e1 e2) e3
      ∙ ap (λ (q : Operand). old ++ (front ++ copy_code (words_of_kind y.to) q d)) o_is
      ∙ ap (λ (z : Expression). old ++ expression_code starts z (length old) d t) (sym (stored_viewed value b b' ty is x x_at y y_at))

  -- The code of a store whose value is dropped only stores the value in a memory cell.
  pub made_stored_only : (value : Expr) (b : Box DereferenceCode Heap) (b' : Box ConvertedCode Heap) (ty : ValueTypeCode) → value ≡ expr.Store b b' ty → (x : DereferenceCode) → x ≡ b.value → (y : ConvertedCode) → y ≡ b'.value
      → (old m1 m2 : List Instruction) (t : ℕ)
      → m1 ≡ old ++ addressed_by (place_code starts (view_dereference x) (length old) t) (place_operand starts (view_dereference x) t) (place_offset starts (view_dereference x)) t
      → m2 ≡ m1 ++ (converted_operand_code starts (view_converted y) (length m1) (t + 1) ++ saved_code y.to t (converted_operand starts (view_converted y) (t + 1)))
      → m2 ≡ old ++ discarded_code starts (view_expression value) (length old) t
  made_stored_only value b b' ty is x x_at y y_at old m1 m2 t e1 e2 =
      made_store (view_dereference x) (view_converted y) old m1 m2 t e1 e2
      ∙ ap (λ (z : Expression). old ++ discarded_code starts z (length old) t) (sym (stored_viewed value b b' ty is x x_at y y_at))
