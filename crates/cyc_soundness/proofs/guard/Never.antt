-- For every statement, unreachable code satisfies the guarded form of the flow rules.
use Rattle.std.proofs.Common.{ℕ, Option, Some, None}
use Rattle.cyc_types.specs.TypedTrees.{Lvalue, Local, Global, Expression, Number, NullPointer, HeapRegion, Counter, Copy, Move, Peek, Load, AddressOf, AddressOfCell, NumberOfElements, FreeUnique, FreeKey, Call, Unary}
use Rattle.cyc_types.specs.TypedTrees.{Binary, Assign, Store, New, Dereference, Target, Member, Element, Placement, OnHeap, AsUnique, ByHandle, Initial, Plain, Fields, Array, Converted, Convert, Arguments, NoArguments}
use Rattle.cyc_types.specs.TypedTrees.{MoreArguments, Operations, NoOperations, ThenCompute, ThenTest, ThenPointer, ThenPointerPeek, Side, VariableSide, CellSide, Statement, Block, Empty, Evaluate, Swap, If, While}
use Rattle.cyc_types.specs.TypedTrees.{Return, Break, Continue, Throw, Try, Items, NoItems, MoreItems, Item, Execute, Declare, DeclareRegion, OpenRegion, DeclareAlias, DeclareKey, Clauses, NoClauses, Default, Case}
use Rattle.cyc_types.specs.flow.Expressions.{peek_of, peek_after}
use Rattle.cyc_types.specs.flow.Statements.{peeked_side}
use Rattle.cyc_soundness.specs.inside.guard.Held.{Held, Never, Guard, nowhere, peeking, relying}
use Rattle.cyc_soundness.specs.inside.guard.Expressions.{KeepsUse, KeepsAssignment, Keeps, KeepsPlace, KeepsPlacement, KeepsInitial, KeepsConverted, KeepsArguments, KeepsOperations}
use Rattle.cyc_soundness.specs.inside.guard.Statements.{Exits, KeepsValue, KeepsThrown, KeepsSide, IsSwappable, KeepsBreak, KeepsContinue, following_item, KeepsDeclaration, KeepsStatement, KeepsItems, KeepsItem, KeepsClauses}

never_use : (p : Guard) (l : Lvalue) (g : Held) → KeepsUse p l Never g
never_use p (Local at n) g = (tt, tt)
never_use p (Global n) g = tt

never_assignment : (p : Guard) (l : Lvalue) (g : Held) → KeepsAssignment p l Never g
never_assignment p (Local at n) g = (tt, tt)
never_assignment p (Global n) g = tt

mutual
  pub never : (p : Guard) (a : Expression) (g : Held) → Keeps p a Never g
  never p (Number n) g = tt
  never p NullPointer g = tt
  never p HeapRegion g = tt
  never p (Counter l) g = tt
  never p (Copy l t) g = never_use p l g
  never p (Move at n t) g = (tt, tt, tt)
  never p (Peek at n t) g = (tt, tt)
  never p (Load d) g = never_place p d g
  never p (AddressOf l t) g = never_use p l g
  never p (AddressOfCell d t) g = never_place p d g
  never p (NumberOfElements a) g = never p a g
  never p (FreeUnique a) g = never p a g
  never p (FreeKey a) g = never p a g
  never p (Call c as' t) g = never_arguments p as' g
  never p (Unary o a) g = never p a g
  never p (Binary a os t) g = (Never, never p a Never, never_operations p os g)
  never p (Assign l c t) g = (Never, never_converted p c Never, never_assignment p l g)
  never p (Store d c t) g = (Never, never_place p d Never, never_converted (peeking (peek_after d) p) c g)
  never p (New w i t) g = (Never, never_placement p w Never, never_initial p i g)

  pub never_place : (p : Guard) (d : Dereference) (g : Held) → KeepsPlace p d Never g
  never_place p (Target k a t) g = never p a g
  never_place p (Member k a s m t) g = never p a g
  never_place p (Element a i t) g = (Never, never p a Never, never (peeking (peek_of a) p) i g)

  never_placement : (p : Guard) (w : Placement) (g : Held) → KeepsPlacement p w Never g
  never_placement p OnHeap g = tt
  never_placement p AsUnique g = tt
  never_placement p (ByHandle a) g = never p a g

  never_initial : (p : Guard) (i : Initial) (g : Held) → KeepsInitial p i Never g
  never_initial p (Plain k a) g = never p a g
  never_initial p (Fields as') g = never_arguments p as' g
  never_initial p (Array at l n k a) g = (Never, never p n Never, never p a Never, tt)

  pub never_converted : (p : Guard) (c : Converted) (g : Held) → KeepsConverted p c Never g
  never_converted p (Convert from to a) g = never p a g

  never_arguments : (p : Guard) (as' : Arguments) (g : Held) → KeepsArguments p as' Never g
  never_arguments p NoArguments g = tt
  never_arguments p (MoreArguments c as') g = (Never, never_converted p c Never, never_arguments p as' g)

  never_operations : (p : Guard) (os : Operations) (g : Held) → KeepsOperations p os Never g
  never_operations p NoOperations g = tt
  never_operations p (ThenCompute o a os) g = (Never, never p a Never, never_operations p os g)
  never_operations p (ThenTest o a os) g = (Never, tt, never p a Never, never_operations p os g)
  never_operations p (ThenPointer o a os) g = (Never, never p a Never, never_operations p os g)
  never_operations p (ThenPointerPeek n o a os) g = (Never, never (peeking (Some n) p) a Never, never_operations p os g)

never_value : (p : Guard) (v : Option Converted) (g : Held) → KeepsValue p v Never g
never_value p None g = tt
never_value p (Some c) g = never_converted p c g

never_thrown : (p : Guard) (v : Option Expression) (g : Held) → KeepsThrown p v Never g
never_thrown p None g = tt
never_thrown p (Some a) g = never p a g

never_side : (p : Guard) (x : Side) (g : Held) → KeepsSide p x Never g
never_side p (VariableSide l t) g = tt
never_side p (CellSide d) g = never_place p d g

never_swappable : (p : Guard) (x : Side) → IsSwappable p x Never
never_swappable p (VariableSide (Local at n) t) = tt
never_swappable p (VariableSide (Global n) t) = tt
never_swappable p (CellSide d) = tt

never_break : (x : Option Exits) → KeepsBreak x Never
never_break None = tt
never_break (Some l) = tt

never_continue : (x : Option Exits) → KeepsContinue x Never
never_continue None = tt
never_continue (Some l) = tt

never_declaration : (p : Guard) (n : ℕ) (v : Option Converted) (g : Held) → KeepsDeclaration p n v Never g
never_declaration p n None g = (tt, tt)
never_declaration p n (Some c) g = (Never, never_converted p c Never, tt)

mutual
  pub never_statement : (p : Guard) (x : Option Exits) (s : Statement) (g : Held) → KeepsStatement p x s Never g
  never_statement p x (Block r js) g = never_items p x js g
  never_statement p x Empty g = tt
  never_statement p x (Evaluate a) g = never p a g
  never_statement p x (Swap l r) g =
      (Never, Never, never_side p l Never, never_side (peeking (peeked_side l) p) r Never, never_swappable p l, never_swappable (peeking (peeked_side l) p) r, tt)
  never_statement p x (If a s t) g = (Never, never p a Never, never_statement p x s g, never_statement p x t g)
  never_statement p x (While at a s) g = (Never, Never, tt, never p a Never, never_statement p (Some (record { head = Never; following = g })) s Never, tt)
  never_statement p x (Return v) g = (Never, never_value p v Never)
  never_statement p x Break g = never_break x
  never_statement p x Continue g = never_continue x
  never_statement p x (Throw e v) g = (Never, never_thrown p v Never)
  never_statement p x (Try s cs) g = (nowhere, tt, never_statement (relying nowhere p) x s g, never_clauses p x cs g)

  pub never_items : (p : Guard) (x : Option Exits) (js : Items) (g : Held) → KeepsItems p x js Never g
  never_items p x NoItems g = tt
  never_items p x (MoreItems j js) g = (Never, never_item p x j Never, never_items (following_item j p) x js g)

  never_item : (p : Guard) (x : Option Exits) (j : Item) (g : Held) → KeepsItem p x j Never g
  never_item p x (Execute s) g = never_statement p x s g
  never_item p x (Declare n t v) g = never_declaration p n v g
  never_item p x (DeclareRegion r n) g = tt
  never_item p x (OpenRegion r n at k) g = (tt, tt)
  never_item p x (DeclareAlias r n t at m) g = (tt, tt)
  never_item p x (DeclareKey r n) g = tt

  never_clauses : (p : Guard) (x : Option Exits) (cs : Clauses) (g : Held) → KeepsClauses p x cs Never g
  never_clauses p x NoClauses g = tt
  never_clauses p x (Default r js) g = never_items p x js g
  never_clauses p x (Case e None r js cs) g = (Never, tt, never_items p x js g, never_clauses p x cs g)
  never_clauses p x (Case e (Some n) r js cs) g = (Never, tt, never_items p x js g, never_clauses p x cs g)
