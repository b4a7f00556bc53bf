-- The body of a `try` touches (consumes, lends or assigns) no local that the catch clauses require to hold a value. The flow state
-- at the start of the catch clauses omits all locals that the body touches (consumes, lends or assigns).
use Rattle.std.proofs.Common.{◌≡◌, ℕ, zero, suc, ◌+◌, Bool, true, false, List, [], ◌∷◌, ◌++◌, Option, Some, None, refl}
use Rattle.std.specs.Prelude.{get_or, slice_set, if◌then◌else◌}
use Rattle.cyc_types.specs.TypedTrees.{Local, Global, Expression, Number, NullPointer, HeapRegion, Counter, Copy, Move, Peek, Load, AddressOf, AddressOfCell, NumberOfElements, FreeUnique, FreeKey, Call, Unary, Binary}
use Rattle.cyc_types.specs.TypedTrees.{Assign, Store, New, Dereference, Target, Member, Element, Placement, OnHeap, AsUnique, ByHandle, Initial, Plain, Fields, Array, Converted, Convert, Arguments, NoArguments}
use Rattle.cyc_types.specs.TypedTrees.{MoreArguments, Operations, NoOperations, ThenCompute, ThenTest, ThenPointer, ThenPointerPeek, Lvalue, Side, VariableSide, CellSide, Statement, Block, Empty, Evaluate, Swap, If}
use Rattle.cyc_types.specs.TypedTrees.{While, Return, Break, Continue, Throw, Try, Items, NoItems, MoreItems, Item, Execute, Declare, DeclareRegion, OpenRegion, DeclareAlias, DeclareKey, Clauses, NoClauses, Default, Case}
use Rattle.cyc_types.specs.Types.{ValueType, Void, Null, Value}
use Rattle.cyc_types.specs.Declarations.{declared_regions, item_regions}
use Rattle.cyc_types.specs.flow.States as flow
use Rattle.cyc_types.specs.flow.States.{Fullness, Vacant, Locked, Full, Unreached, Reached, is_locked, fullness, with_fullness, emptied}
use Rattle.cyc_types.specs.flow.Touched.{and_local, and_assigned, touched, touched_place, touched_placement, touched_initial, touched_converted, touched_arguments, touched_operations}
use Rattle.cyc_types.specs.flow.Touched.{touched_side, touched_value, touched_thrown, touched_declaration, touched_statement, touched_items, touched_item, touched_clauses}
use Rattle.cyc_soundness.specs.inside.Worlds.{IsAmong, first, later}
use Rattle.cyc_soundness.specs.inside.Classes.{is_full, Relied, IsSparedBy, InExpression, InPlace, InPlacement, InInitial, InConverted, InArguments, InOperations, InValue, InThrown, InSide, InStatement, InItems, InClauses, SparesAssigned, Asked, may_end}
use Rattle.cyc_soundness.proofs.flow.FlowLemmas.{before_last, at_last}

-- ---- locals touched before stay in the list

module _ (n : ℕ) where
  assigned_too : (l : Lvalue) (t : ValueType) (ns : List ℕ) → IsAmong n ns → IsAmong n (and_assigned l t ns)
  assigned_too (Local p m) Void ns is = before_last n m ns is
  assigned_too (Local p m) Null ns is = is
  assigned_too (Local p m) (Value t) ns is = is
  assigned_too (Global m) t ns is = is

  mutual
    touched_too : (a : Expression) (ns : List ℕ) → IsAmong n ns → IsAmong n (touched a ns)
    touched_too (Number m) ns is = is
    touched_too NullPointer ns is = is
    touched_too HeapRegion ns is = is
    touched_too (Counter l) ns is = is
    touched_too (Copy l t) ns is = is
    touched_too (Move p m t) ns is = before_last n m ns is
    touched_too (Peek p m t) ns is = is
    touched_too (Load d) ns is = place_too d ns is
    touched_too (AddressOf l t) ns is = is
    touched_too (AddressOfCell d t) ns is = place_too d ns is
    touched_too (NumberOfElements a) ns is = touched_too a ns is
    touched_too (FreeUnique a) ns is = touched_too a ns is
    touched_too (FreeKey a) ns is = touched_too a ns is
    touched_too (Call f as' t) ns is = arguments_too as' ns is
    touched_too (Unary o a) ns is = touched_too a ns is
    touched_too (Binary a os t) ns is = operations_too os (touched a ns) (touched_too a ns is)
    touched_too (Assign l c t) ns is = assigned_too l t (touched_converted c ns) (converted_too c ns is)
    touched_too (Store d c t) ns is = converted_too c (touched_place d ns) (place_too d ns is)
    touched_too (New w i t) ns is = initial_too i (touched_placement w ns) (placement_too w ns is)

    place_too : (d : Dereference) (ns : List ℕ) → IsAmong n ns → IsAmong n (touched_place d ns)
    place_too (Target k a t) ns is = touched_too a ns is
    place_too (Member k a s f t) ns is = touched_too a ns is
    place_too (Element a i t) ns is = touched_too i (touched a ns) (touched_too a ns is)

    placement_too : (w : Placement) (ns : List ℕ) → IsAmong n ns → IsAmong n (touched_placement w ns)
    placement_too OnHeap ns is = is
    placement_too AsUnique ns is = is
    placement_too (ByHandle a) ns is = touched_too a ns is

    initial_too : (i : Initial) (ns : List ℕ) → IsAmong n ns → IsAmong n (touched_initial i ns)
    initial_too (Plain k a) ns is = touched_too a ns is
    initial_too (Fields as') ns is = arguments_too as' ns is
    initial_too (Array p l m k a) ns is = touched_too a (touched m ns) (touched_too m ns is)

    converted_too : (c : Converted) (ns : List ℕ) → IsAmong n ns → IsAmong n (touched_converted c ns)
    converted_too (Convert from to a) ns is = touched_too a ns is

    arguments_too : (as' : Arguments) (ns : List ℕ) → IsAmong n ns → IsAmong n (touched_arguments as' ns)
    arguments_too NoArguments ns is = is
    arguments_too (MoreArguments c as') ns is = arguments_too as' (touched_converted c ns) (converted_too c ns is)

    operations_too : (os : Operations) (ns : List ℕ) → IsAmong n ns → IsAmong n (touched_operations os ns)
    operations_too NoOperations ns is = is
    operations_too (ThenCompute o a os) ns is = operations_too os (touched a ns) (touched_too a ns is)
    operations_too (ThenTest o a os) ns is = operations_too os (touched a ns) (touched_too a ns is)
    operations_too (ThenPointer o a os) ns is = operations_too os (touched a ns) (touched_too a ns is)
    operations_too (ThenPointerPeek m o a os) ns is = operations_too os (touched a ns) (touched_too a ns is)

  side_too : (y : Side) (ns : List ℕ) → IsAmong n ns → IsAmong n (touched_side y ns)
  side_too (VariableSide l t) ns is = is
  side_too (CellSide d) ns is = place_too d ns is

  value_too : (v : Option Converted) (ns : List ℕ) → IsAmong n ns → IsAmong n (touched_value v ns)
  value_too None ns is = is
  value_too (Some c) ns is = converted_too c ns is

  thrown_too : (v : Option Expression) (ns : List ℕ) → IsAmong n ns → IsAmong n (touched_thrown v ns)
  thrown_too None ns is = is
  thrown_too (Some a) ns is = touched_too a ns is

  declaration_too : (m : ℕ) (v : Option Converted) (ns : List ℕ) → IsAmong n ns → IsAmong n (touched_declaration m v ns)
  declaration_too m None ns is = before_last n m ns is
  declaration_too m (Some c) ns is = converted_too c ns is

  joined_first : (ms ns : List ℕ) → IsAmong n ms → IsAmong n (ms ++ ns)
  joined_first ms ns (first as') = first (as' ++ ns)
  joined_first ms ns (later b as' is) = later b (as' ++ ns) (joined_first as' ns is)

  joined_second : (ms ns : List ℕ) → IsAmong n ns → IsAmong n (ms ++ ns)
  joined_second [] ns is = is
  joined_second (m ∷ ms) ns is = later m (ms ++ ns) (joined_second ms ns is)

  mutual
    statement_too : (s : Statement) (ns : List ℕ) → IsAmong n ns → IsAmong n (touched_statement s ns)
    statement_too (Block r js) ns is = items_too js ns is
    statement_too Empty ns is = is
    statement_too (Evaluate a) ns is = touched_too a ns is
    statement_too (Swap x y) ns is = side_too y (touched_side x ns) (side_too x ns is)
    statement_too (If a s t) ns is = statement_too t (touched_statement s (touched a ns)) (statement_too s (touched a ns) (touched_too a ns is))
    statement_too (While p a s) ns is = statement_too s (touched a ns) (touched_too a ns is)
    statement_too (Return v) ns is = value_too v ns is
    statement_too Break ns is = is
    statement_too Continue ns is = is
    statement_too (Throw e v) ns is = thrown_too v ns is
    statement_too (Try s cs) ns is = clauses_too cs (ns ++ touched_statement s []) (joined_first ns (touched_statement s []) is)

    items_too : (js : Items) (ns : List ℕ) → IsAmong n ns → IsAmong n (touched_items js ns)
    items_too NoItems ns is = is
    items_too (MoreItems j js) ns is = items_too js (touched_item j ns) (item_too j ns is)

    item_too : (j : Item) (ns : List ℕ) → IsAmong n ns → IsAmong n (touched_item j ns)
    item_too (Execute s) ns is = statement_too s ns is
    item_too (Declare m t v) ns is = declaration_too m v ns is
    item_too (DeclareRegion r m) ns is = is
    item_too (OpenRegion r m p k) ns is = before_last n k ns is
    item_too (DeclareAlias r m t p s) ns is = before_last n s ns is
    item_too (DeclareKey r m) ns is = is

    clauses_too : (cs : Clauses) (ns : List ℕ) → IsAmong n ns → IsAmong n (touched_clauses cs ns)
    clauses_too NoClauses ns is = is
    clauses_too (Default r js) ns is = items_too js ns is
    clauses_too (Case e m r js cs) ns is = clauses_too cs (touched_items js ns) (items_too js ns is)

-- ---- demands on code that may be run

pub holds_where_asked : {A : Type 0} (run : Bool) → A → Asked run A
holds_where_asked false is = tt
holds_where_asked true is = is

pub asked_of : {A : Type 0} (run : Bool) → run ≡ true → Asked run A → A
asked_of false e is = absurd (let k : false ≡ true = e in cc)
asked_of true e is = is

pub asked_nothing : (A : Type 0) (run : Bool) → run ≡ false → Asked run A
asked_nothing A false e = tt
asked_nothing A true e = absurd (let k : true ≡ false = e in cc)

asked_too : {A B : Type 0} (run : Bool) → (A → B) → Asked run A → Asked run B
asked_too false to is = tt
asked_too true to is = to is

-- ---- the state at the start of the clauses of a `try`

-- Says that a flow state does not require any of these locals to hold a value.
abbrev AreSpared : flow.State → List ℕ → Type 0
AreSpared f ns = (n : ℕ) → IsAmong n ns → IsSparedBy f n

module _ (q : Relied) (f : flow.State) where
  relied_assigned : (l : Lvalue) (t : ValueType) (ns : List ℕ) → AreSpared f (and_assigned l t ns) → SparesAssigned q l t → SparesAssigned (f ∷ q) l t
  relied_assigned (Local p n) Void ns spared kept = (spared n (at_last n n ns refl), kept)
  relied_assigned (Local p n) Null ns spared kept = tt
  relied_assigned (Local p n) (Value t) ns spared kept = tt
  relied_assigned (Global n) t ns spared kept = tt

  mutual
    relied_expression : (a : Expression) (ns : List ℕ) → AreSpared f (touched a ns) → InExpression q a → InExpression (f ∷ q) a
    relied_expression (Number n) ns spared kept = kept
    relied_expression NullPointer ns spared kept = kept
    relied_expression HeapRegion ns spared kept = kept
    relied_expression (Counter l) ns spared kept = kept
    relied_expression (Copy l t) ns spared kept = kept
    relied_expression (Move p n t) ns spared kept = (spared n (at_last n n ns refl), kept)
    relied_expression (Peek p n t) ns spared kept = kept
    relied_expression (Load d) ns spared kept = relied_place d ns spared kept
    relied_expression (AddressOf (Local p n) t) ns spared kept = kept
    relied_expression (AddressOf (Global n) t) ns spared kept = kept
    relied_expression (AddressOfCell d t) ns spared kept = relied_place d ns spared kept
    relied_expression (NumberOfElements a) ns spared kept = relied_expression a ns spared kept
    relied_expression (FreeUnique a) ns spared kept = relied_expression a ns spared kept
    relied_expression (FreeKey a) ns spared kept = relied_expression a ns spared kept
    relied_expression (Call g as' t) ns spared kept = relied_arguments as' ns spared kept
    relied_expression (Unary o a) ns spared kept = relied_expression a ns spared kept
    relied_expression (Binary a os t) ns spared (one, kept) =
        (relied_expression a ns (λ n is. spared n (operations_too n os (touched a ns) is)) one, relied_operations os (touched a ns) spared kept)
    relied_expression (Assign l c t) ns spared (one, kept) =
        (relied_assigned l t (touched_converted c ns) spared one, relied_converted c ns (λ n is. spared n (assigned_too n l t (touched_converted c ns) is)) kept)
    relied_expression (Store d c t) ns spared (one, kept) =
        (relied_place d ns (λ n is. spared n (converted_too n c (touched_place d ns) is)) one, relied_converted c (touched_place d ns) spared kept)
    relied_expression (New w i t) ns spared (one, kept) =
        (relied_placement w ns (λ n is. spared n (initial_too n i (touched_placement w ns) is)) one, relied_initial i (touched_placement w ns) spared kept)

    relied_place : (d : Dereference) (ns : List ℕ) → AreSpared f (touched_place d ns) → InPlace q d → InPlace (f ∷ q) d
    relied_place (Target k a t) ns spared kept = relied_expression a ns spared kept
    relied_place (Member k a s g t) ns spared kept = relied_expression a ns spared kept
    relied_place (Element a i t) ns spared (one, kept) = (relied_expression a ns (λ n is. spared n (touched_too n i (touched a ns) is)) one, relied_expression i (touched a ns) spared kept)

    relied_placement : (w : Placement) (ns : List ℕ) → AreSpared f (touched_placement w ns) → InPlacement q w → InPlacement (f ∷ q) w
    relied_placement OnHeap ns spared kept = kept
    relied_placement AsUnique ns spared kept = kept
    relied_placement (ByHandle a) ns spared kept = relied_expression a ns spared kept

    relied_initial : (i : Initial) (ns : List ℕ) → AreSpared f (touched_initial i ns) → InInitial q i → InInitial (f ∷ q) i
    relied_initial (Plain k a) ns spared kept = relied_expression a ns spared kept
    relied_initial (Fields as') ns spared kept = relied_arguments as' ns spared kept
    relied_initial (Array p l c k a) ns spared (one, kept) = (relied_expression c ns (λ n is. spared n (touched_too n a (touched c ns) is)) one, relied_expression a (touched c ns) spared kept)

    relied_converted : (c : Converted) (ns : List ℕ) → AreSpared f (touched_converted c ns) → InConverted q c → InConverted (f ∷ q) c
    relied_converted (Convert from to a) ns spared kept = relied_expression a ns spared kept

    relied_arguments : (as' : Arguments) (ns : List ℕ) → AreSpared f (touched_arguments as' ns) → InArguments q as' → InArguments (f ∷ q) as'
    relied_arguments NoArguments ns spared kept = kept
    relied_arguments (MoreArguments c as') ns spared (one, kept) =
        (relied_converted c ns (λ n is. spared n (arguments_too n as' (touched_converted c ns) is)) one, relied_arguments as' (touched_converted c ns) spared kept)

    relied_operations : (os : Operations) (ns : List ℕ) → AreSpared f (touched_operations os ns) → InOperations q os → InOperations (f ∷ q) os
    relied_operations NoOperations ns spared kept = kept
    relied_operations (ThenCompute o a os) ns spared (one, kept) = (relied_expression a ns (λ n is. spared n (operations_too n os (touched a ns) is)) one, relied_operations os (touched a ns) spared kept)
    relied_operations (ThenTest o a os) ns spared (one, kept) = (relied_expression a ns (λ n is. spared n (operations_too n os (touched a ns) is)) one, relied_operations os (touched a ns) spared kept)
    relied_operations (ThenPointer o a os) ns spared (one, kept) = (relied_expression a ns (λ n is. spared n (operations_too n os (touched a ns) is)) one, relied_operations os (touched a ns) spared kept)
    relied_operations (ThenPointerPeek l o a os) ns spared (one, kept) = (relied_expression a ns (λ n is. spared n (operations_too n os (touched a ns) is)) one, relied_operations os (touched a ns) spared kept)

  relied_side : (y : Side) (ns : List ℕ) → AreSpared f (touched_side y ns) → InSide q y → InSide (f ∷ q) y
  relied_side (VariableSide l t) ns spared kept = kept
  relied_side (CellSide d) ns spared kept = relied_place d ns spared kept

  relied_value : (v : Option Converted) (ns : List ℕ) → AreSpared f (touched_value v ns) → InValue q v → InValue (f ∷ q) v
  relied_value None ns spared kept = kept
  relied_value (Some c) ns spared kept = relied_converted c ns spared kept

  relied_thrown : (v : Option Expression) (ns : List ℕ) → AreSpared f (touched_thrown v ns) → InThrown q v → InThrown (f ∷ q) v
  relied_thrown None ns spared kept = kept
  relied_thrown (Some a) ns spared kept = relied_expression a ns spared kept

  relied_declared : (l : ℕ) (v : Option Converted) (ns : List ℕ) → AreSpared f (touched_declaration l v ns) → InValue q v → InValue (f ∷ q) v
  relied_declared l None ns spared kept = kept
  relied_declared l (Some c) ns spared kept = relied_converted c ns spared kept

  mutual
    relied_statement : (k : ℕ) (s : Statement) (ns : List ℕ) → AreSpared f (touched_statement s ns) → InStatement q k s → InStatement (f ∷ q) k s
    relied_statement k (Block r js) ns spared kept = relied_items (suc k) js ns spared kept
    relied_statement k Empty ns spared kept = kept
    relied_statement k (Evaluate a) ns spared kept = relied_expression a ns spared kept
    relied_statement k (Swap x y) ns spared (one, kept) = (relied_side x ns (λ n is. spared n (side_too n y (touched_side x ns) is)) one, relied_side y (touched_side x ns) spared kept)
    relied_statement k (If a s t) ns spared (one, two, kept) = (
      relied_expression a ns (λ n is. spared n (statement_too n t (touched_statement s (touched a ns)) (statement_too n s (touched a ns) is))) one,
      relied_statement k s (touched a ns) (λ n is. spared n (statement_too n t (touched_statement s (touched a ns)) is)) two,
      relied_statement (k + declared_regions s) t (touched_statement s (touched a ns)) spared kept,
    )
    relied_statement k (While p a s) ns spared (one, kept) = (relied_expression a ns (λ n is. spared n (statement_too n s (touched a ns) is)) one, relied_statement k s (touched a ns) spared kept)
    relied_statement k (Return v) ns spared kept = relied_value v ns spared kept
    relied_statement k Break ns spared kept = kept
    relied_statement k Continue ns spared kept = kept
    relied_statement k (Throw e v) ns spared kept = relied_thrown v ns spared kept
    relied_statement k (Try s cs) ns spared (one, kept) = (
      relied_statement k s [] (λ n is. spared n (clauses_too n cs (ns ++ touched_statement s []) (joined_second n ns (touched_statement s []) is))) one,
      relied_clauses (k + declared_regions s) cs (ns ++ touched_statement s []) spared kept,
    )

    relied_items : (k : ℕ) (js : Items) (ns : List ℕ) → AreSpared f (touched_items js ns) → InItems q k js → InItems (f ∷ q) k js
    relied_items k NoItems ns spared kept = kept
    relied_items k (MoreItems (Execute s) js) ns spared (one, kept) =
        (relied_statement k s ns (λ n is. spared n (items_too n js (touched_statement s ns) is)) one, asked_too (may_end s) (λ is. relied_items (k + declared_regions s) js (touched_statement s ns) spared is) kept)
    relied_items k (MoreItems (Declare l t v) js) ns spared (named, one, kept) =
        (named, relied_declared l v ns (λ n is. spared n (items_too n js (touched_declaration l v ns) is)) one, relied_items k js (touched_declaration l v ns) spared kept)
    relied_items k (MoreItems (DeclareRegion r l) js) ns spared kept = relied_items (suc k) js ns spared kept
    relied_items k (MoreItems (OpenRegion r l p key) js) ns spared (one, kept) =
        ((spared key (items_too key js (and_local key ns) (at_last key key ns refl)), one), relied_items k js (and_local key ns) spared kept)
    relied_items k (MoreItems (DeclareAlias r l t p source) js) ns spared (one, kept) =
        ((spared source (items_too source js (and_local source ns) (at_last source source ns refl)), one), relied_items (suc k) js (and_local source ns) spared kept)
    relied_items k (MoreItems (DeclareKey r l) js) ns spared kept = relied_items (suc k) js ns spared kept

    relied_clauses : (k : ℕ) (cs : Clauses) (ns : List ℕ) → AreSpared f (touched_clauses cs ns) → InClauses q k cs → InClauses (f ∷ q) k cs
    relied_clauses k NoClauses ns spared kept = kept
    relied_clauses k (Default r js) ns spared kept = relied_items (suc k) js ns spared kept
    relied_clauses k (Case e v r js cs) ns spared (one, kept) = (
      relied_items (suc k) js ns (λ n is. spared n (clauses_too n cs (touched_items js ns) is)) one,
      relied_clauses (k + suc (item_regions js)) cs (touched_items js ns) spared kept,
    )

-- ---- emptied locals

never_full : (as' : List Fullness) (n : ℕ) → is_full (get_or (slice_set as' n Vacant) n Vacant) ≡ false
never_full [] n = refl
never_full (a ∷ as') zero = refl
never_full (a ∷ as') (suc n) = never_full as' n

still_spared : (as' : List Fullness) (n m : ℕ) → is_full (get_or as' m Vacant) ≡ false → is_full (get_or (slice_set as' n Vacant) m Vacant) ≡ false
still_spared [] n m s = s
still_spared (a ∷ as') zero zero s = refl
still_spared (a ∷ as') zero (suc m) s = s
still_spared (a ∷ as') (suc n) zero s = s
still_spared (a ∷ as') (suc n) (suc m) s = still_spared as' n m s

emptied_one : (f : flow.State) (n m : ℕ) → IsSparedBy f m → IsSparedBy (with_fullness Vacant f n) m
emptied_one Unreached n m s = tt
emptied_one (Reached as') n m s = still_spared as' n m s

either_spared : (b : Bool) (f : flow.State) (n m : ℕ) → IsSparedBy f m → IsSparedBy (if b then f else with_fullness Vacant f n) m
either_spared true f n m s = s
either_spared false f n m s = emptied_one f n m s

emptied_still : (ns : List ℕ) (f : flow.State) (m : ℕ) → IsSparedBy f m → IsSparedBy (emptied ns f) m
emptied_still [] f m s = s
emptied_still (n ∷ ns) f m s = emptied_still ns (if is_locked (fullness f n) then f else with_fullness Vacant f n) m (either_spared (is_locked (fullness f n)) f n m s)

locked_spared : (a : Fullness) → is_locked a ≡ true → is_full a ≡ false
locked_spared Locked e = refl
locked_spared Vacant e = refl
locked_spared Full e = absurd (let k : false ≡ true = e in cc)

emptied_now : (f : flow.State) (n : ℕ) → IsSparedBy (if is_locked (fullness f n) then f else with_fullness Vacant f n) n
emptied_now Unreached n = tt
emptied_now (Reached as') n = go (is_locked (get_or as' n Vacant)) refl
  where
    go : (b : Bool) → is_locked (get_or as' n Vacant) ≡ b → IsSparedBy (if b then Reached as' else with_fullness Vacant (Reached as') n) n
    go true is = locked_spared (get_or as' n Vacant) is
    go false other = never_full as' n

pub emptied_spares : (ns : List ℕ) (f : flow.State) → AreSpared (emptied ns f) ns
emptied_spares (n ∷ ns) f m (first as') = emptied_still ns (if is_locked (fullness f n) then f else with_fullness Vacant f n) n (emptied_now f n)
emptied_spares (n ∷ ns) f m (later b as' is) = emptied_spares ns (if is_locked (fullness f n) then f else with_fullness Vacant f n) m is
emptied_spares [] f m is = elim is [ ]

-- The body of a `try` touches (consumes, lends or assigns) no local that the catch clauses of the `try` require to hold a value.
pub relied_body : (q : Relied) (k : ℕ) (s : Statement) (f : flow.State) → InStatement q k s → InStatement (emptied (touched_statement s []) f ∷ q) k s
relied_body q k s f kept = relied_statement q (emptied (touched_statement s []) f) k s [] (emptied_spares (touched_statement s []) f) kept
