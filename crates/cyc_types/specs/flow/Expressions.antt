-- Each flow rule of the whole language is a value (`Rules`). A flow rule computes the state of each local after a typed tree, or the code
-- and source position of the first fault. The file `Expressions` covers expressions. A flow rule takes the state of the locals before the
-- tree, and the list of locals with a pending peek. A local with a pending peek has been read, and must not change while the remaining
-- operands are evaluated. (Two rules are Cyclone's, Grossman et al. 2002: a variable is used only while it holds a value, and a use
-- consumes a unique pointer. Locks, peeks, codes and positions are this project's own choice.)
use Rattle.std.specs.Prelude.{ℕ, Bool, true, not, nat_eq, ◌&&◌, List, [], ◌∷◌, ◌++◌, Option, Some, None}
use Rattle.std.specs.List.{list_any}
use Rattle.cyc_words.specs.declared.fault.Code.TheVariants as codes
use Rattle.cyc_syntax.specs.Symbols.{Place}
use Rattle.cyc_types.specs.TypedTrees.{Lvalue, Local, Global, Expression, Number, NullPointer, HeapRegion, Counter, Copy, Move, Peek, Load, AddressOf, AddressOfCell, NumberOfElements, FreeUnique, FreeKey, Call, Unary, Binary, Assign, Store, New, Dereference, Target}
use Rattle.cyc_types.specs.TypedTrees.{Member, Element, Placement, OnHeap, AsUnique, ByHandle, Initial, Plain, Fields, Array, Converted, Convert, Arguments, NoArguments, MoreArguments, Operations, NoOperations, ThenCompute, ThenTest, ThenPointer, ThenPointerPeek}
use Rattle.cyc_types.specs.Rules.{Demand, demand, Rule, Own, Part, gives}
use Rattle.cyc_types.specs.flow.States.{State, Unreached, Reached, Vacant, Full, meet, is_at_least, fullness, with_fullness, is_vacant, is_locked}

-- ---- variables

-- the requirements on a use of a local: the local holds a value, and no enclosing block has borrowed this value
abbrev pub full_demanded : Place → ℕ → State → List Demand
full_demanded p n f = demand codes.EmptyVariable p (not (is_vacant (fullness f n))) ∷ demand codes.LockedVariable p (not (is_locked (fullness f n))) ∷ []

-- returns true if no unfinished operation has read the local's unique pointer and left it in the local
abbrev pub is_free : (waiting : List ℕ) → ℕ → State → Bool
is_free q n Unreached = true
is_free q n (Reached as') = not (list_any (λ m. nat_eq m n) q)

-- the requirements on a use of a local, other than a read that leaves a unique pointer in the local
abbrev pub use_demanded : (waiting : List ℕ) → Place → ℕ → State → List Demand
use_demanded q p n f = full_demanded p n f ++ demand codes.LockedVariable p (is_free q n f) ∷ []

-- the requirements on an assignment to a local: no block has borrowed its value, and no unfinished
-- operation has read its unique pointer early
abbrev pub store_demanded : (waiting : List ℕ) → Place → ℕ → State → List Demand
store_demanded q p n f = demand codes.LockedVariable p (not (is_locked (fullness f n)) && is_free q n f) ∷ []

-- the flow rule for reading a unique pointer that stays in its local (a peek); the local keeps its value
abbrev pub looked : Place → ℕ → State → Rule State
looked p n f = Own (full_demanded p n f) f

-- the flow rule for a move out of a local; the local becomes empty
abbrev pub moved : (waiting : List ℕ) → Place → ℕ → State → Rule State
moved q p n f = Own (use_demanded q p n f) (with_fullness Vacant f n)

-- the flow rule for a use of a variable that keeps its value; the states do not track globals
abbrev pub used : (waiting : List ℕ) → Lvalue → State → Rule State
used q (Local p n) f = Own (use_demanded q p n f) f
used q (Global n) f = gives f

-- the flow rule for storing a value into a variable
abbrev pub stored : (waiting : List ℕ) → Lvalue → State → Rule State
stored q (Local p n) f = Own (store_demanded q p n f) (with_fullness Full f n)
stored q (Global n) f = gives f

-- the list of locals whose unique pointer an unfinished operation has read early, extended by a local if one is given
abbrev pub and_peeked : Option ℕ → List ℕ → List ℕ
and_peeked None q = q
and_peeked (Some n) q = q ++ (n ∷ [])

-- the local whose unique pointer an operand reads without emptying the local, or `None`
abbrev pub peek_of : Expression → Option ℕ
peek_of (Peek p n t) = Some n
peek_of a = None

-- the local from which an access to a memory cell reads its unique pointer without emptying the local, or `None`
abbrev pub peek_after : Dereference → Option ℕ
peek_after (Target k a t) = peek_of a
peek_after (Member k a s m t) = peek_of a
peek_after (Element a i t) = peek_of a

-- The requirement that at the end of a loop's body each local is at least as full (free, borrowed or perhaps empty) as at
-- the loop's head. The source position of this requirement is that of the loop's keyword.
abbrev pub head_demanded : Place → (now head : State) → List Demand
head_demanded p f head = demand codes.LoopEmptiesVariable p (is_at_least f head) ∷ []

-- ---- expressions

abbrev mutual
  pub rule : (waiting : List ℕ) → Expression → State → Rule State
  rule q (Number n) f = gives f
  rule q NullPointer f = gives f
  rule q HeapRegion f = gives f
  rule q (Counter l) f = gives f
  rule q (Copy l t) f = used q l f
  rule q (Move p n t) f = moved q p n f
  rule q (Peek p n t) f = looked p n f
  rule q (Load d) f = rule_place q d f
  rule q (AddressOf l t) f = used q l f
  rule q (AddressOfCell d t) f = rule_place q d f
  rule q (NumberOfElements a) f = rule q a f
  rule q (FreeUnique a) f = rule q a f
  rule q (FreeKey a) f = rule q a f
  rule q (Call c as' t) f = rule_arguments q as' f
  rule q (Unary o a) f = rule q a f
  rule q (Binary a os t) f = Part (rule q a f) (λ g. rule_operations q os g)
  rule q (Assign l c t) f = Part (rule_converted q c f) (λ g. stored q l g)
  rule q (Store d c t) f = Part (rule_place q d f) (λ g. rule_converted (and_peeked (peek_after d) q) c g)
  rule q (New w i t) f = Part (rule_placement q w f) (λ g. rule_initial q i g)

  -- the flow rule for an access to a memory cell through a pointer
  pub rule_place : (waiting : List ℕ) → Dereference → State → Rule State
  rule_place q (Target k a t) f = rule q a f
  rule_place q (Member k a s m t) f = rule q a f
  rule_place q (Element a i t) f = Part (rule q a f) (λ g. rule (and_peeked (peek_of a) q) i g)

  pub rule_placement : (waiting : List ℕ) → Placement → State → Rule State
  rule_placement q OnHeap f = gives f
  rule_placement q AsUnique f = gives f
  rule_placement q (ByHandle a) f = rule q a f

  -- The elements of an array are evaluated in a loop after the array's length. The loop that evaluates the elements may run zero times.
  pub rule_initial : (waiting : List ℕ) → Initial → State → Rule State
  rule_initial q (Plain k a) f = rule q a f
  rule_initial q (Fields as') f = rule_arguments q as' f
  rule_initial q (Array p l n k a) f = Part (rule q n f) (λ g. Part (rule q a g) (λ h. Own (head_demanded p h g) g))

  pub rule_converted : (waiting : List ℕ) → Converted → State → Rule State
  rule_converted q (Convert from to a) f = rule q a f

  pub rule_arguments : (waiting : List ℕ) → Arguments → State → Rule State
  rule_arguments q NoArguments f = gives f
  rule_arguments q (MoreArguments c as') f = Part (rule_converted q c f) (λ g. rule_arguments q as' g)

  -- the flow rule for the operators after the first operand of an expression, with their right operands; `&&` and `||` may skip theirs
  pub rule_operations : (waiting : List ℕ) → Operations → State → Rule State
  rule_operations q NoOperations f = gives f
  rule_operations q (ThenCompute o a os) f = Part (rule q a f) (λ g. rule_operations q os g)
  rule_operations q (ThenTest o a os) f = Part (rule q a f) (λ g. rule_operations q os (meet f g))
  rule_operations q (ThenPointer o a os) f = Part (rule q a f) (λ g. rule_operations q os g)
  rule_operations q (ThenPointerPeek n o a os) f = Part (rule (and_peeked (Some n) q) a f) (λ g. rule_operations q os g)
