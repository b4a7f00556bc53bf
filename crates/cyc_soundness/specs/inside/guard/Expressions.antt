-- This file defines the flow rules for expressions, in the form for proofs about runs. The flow rules relate the facts about locals
-- before an expression to the facts after it, under a guard. The rules are relations by recursion on the tree, and each rule for a leaf
-- of the tree may forget facts. At the join of branches, the facts of both branches are weakened to one common state.
use Rattle.std.specs.Prelude.{true, false, Some}
use Rattle.cyc_types.specs.TypedTrees.{Lvalue, Local, Global, Expression, Number, NullPointer, HeapRegion, Counter, Copy, Move, Peek, Load, AddressOf, AddressOfCell, NumberOfElements, FreeUnique, FreeKey, Call, Unary, Binary, Assign, Store, New, Dereference, Target}
use Rattle.cyc_types.specs.TypedTrees.{Member, Element, Placement, OnHeap, AsUnique, ByHandle, Initial, Plain, Fields, Array, Converted, Convert, Arguments, NoArguments, MoreArguments, Operations, NoOperations, ThenCompute, ThenTest, ThenPointer, ThenPointerPeek}
use Rattle.cyc_types.specs.flow.Expressions.{peek_of, peek_after}
use Rattle.cyc_soundness.specs.inside.guard.Held.{Held, IsAtLeast, with_held, Guard, peeking, IsSeen, IsUsable, IsAssignable, IsSpared}

-- The flow rule for a variable that is used and keeps its value; for globals no facts are recorded.
abbrev pub KeepsUse : Guard → Lvalue → (before following : Held) → Type 0
KeepsUse p (Local at n) f g = IsUsable p n f × IsAtLeast f g
KeepsUse p (Global n) f g = IsAtLeast f g

-- The flow rule for storing a value in a variable.
abbrev pub KeepsAssignment : Guard → Lvalue → (before following : Held) → Type 0
KeepsAssignment p (Local at n) f g = IsAssignable p n f × IsAtLeast (with_held true f n) g
KeepsAssignment p (Global n) f g = IsAtLeast f g

abbrev mutual
  pub Keeps : Guard → Expression → (before following : Held) → Type 0
  Keeps p (Number n) f g = IsAtLeast f g
  Keeps p NullPointer f g = IsAtLeast f g
  Keeps p HeapRegion f g = IsAtLeast f g
  Keeps p (Counter l) f g = IsAtLeast f g
  Keeps p (Copy l t) f g = KeepsUse p l f g
  Keeps p (Move at n t) f g = IsUsable p n f × IsSpared p n f × IsAtLeast (with_held false f n) g
  Keeps p (Peek at n t) f g = IsSeen p n f × IsAtLeast f g
  Keeps p (Load d) f g = KeepsPlace p d f g
  Keeps p (AddressOf l t) f g = KeepsUse p l f g
  Keeps p (AddressOfCell d t) f g = KeepsPlace p d f g
  Keeps p (NumberOfElements a) f g = Keeps p a f g
  Keeps p (FreeUnique a) f g = Keeps p a f g
  Keeps p (FreeKey a) f g = Keeps p a f g
  Keeps p (Call c as' t) f g = KeepsArguments p as' f g
  Keeps p (Unary o a) f g = Keeps p a f g
  Keeps p (Binary a os t) f g = (h : Held) × Keeps p a f h × KeepsOperations p os h g
  Keeps p (Assign l c t) f g = (h : Held) × KeepsConverted p c f h × KeepsAssignment p l h g
  Keeps p (Store d c t) f g = (h : Held) × KeepsPlace p d f h × KeepsConverted (peeking (peek_after d) p) c h g
  Keeps p (New w i t) f g = (h : Held) × KeepsPlacement p w f h × KeepsInitial p i h g

  -- The flow rule for a memory access through a pointer.
  pub KeepsPlace : Guard → Dereference → (before following : Held) → Type 0
  KeepsPlace p (Target k a t) f g = Keeps p a f g
  KeepsPlace p (Member k a s m t) f g = Keeps p a f g
  KeepsPlace p (Element a i t) f g = (h : Held) × Keeps p a f h × Keeps (peeking (peek_of a) p) i h g

  pub KeepsPlacement : Guard → Placement → (before following : Held) → Type 0
  KeepsPlacement p OnHeap f g = IsAtLeast f g
  KeepsPlacement p AsUnique f g = IsAtLeast f g
  KeepsPlacement p (ByHandle a) f g = Keeps p a f g

  -- The flow rule for an array: the evaluation of an element loses none of the facts that are known before the first element.
  pub KeepsInitial : Guard → Initial → (before following : Held) → Type 0
  KeepsInitial p (Plain k a) f g = Keeps p a f g
  KeepsInitial p (Fields as') f g = KeepsArguments p as' f g
  KeepsInitial p (Array at l n k a) f g = (head : Held) × Keeps p n f head × Keeps p a head head × IsAtLeast head g

  pub KeepsConverted : Guard → Converted → (before following : Held) → Type 0
  KeepsConverted p (Convert from to a) f g = Keeps p a f g

  pub KeepsArguments : Guard → Arguments → (before following : Held) → Type 0
  KeepsArguments p NoArguments f g = IsAtLeast f g
  KeepsArguments p (MoreArguments c as') f g = (h : Held) × KeepsConverted p c f h × KeepsArguments p as' h g

  -- After `&&` and `||`, only those facts about locals are known that hold without the evaluation of the right operand.
  pub KeepsOperations : Guard → Operations → (before following : Held) → Type 0
  KeepsOperations p NoOperations f g = IsAtLeast f g
  KeepsOperations p (ThenCompute o a os) f g = (h : Held) × Keeps p a f h × KeepsOperations p os h g
  KeepsOperations p (ThenTest o a os) f g = (h : Held) × IsAtLeast f h × Keeps p a f h × KeepsOperations p os h g
  KeepsOperations p (ThenPointer o a os) f g = (h : Held) × Keeps p a f h × KeepsOperations p os h g
  KeepsOperations p (ThenPointerPeek n o a os) f g = (h : Held) × Keeps (peeking (Some n) p) a f h × KeepsOperations p os h g
