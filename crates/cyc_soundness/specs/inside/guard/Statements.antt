-- This file defines the flow rules of statements, of block items and of catch clauses, in the form for proofs about runs.
use Rattle.std.specs.Prelude.{ℕ, Bool, true, false, Option, Some, None}
use Rattle.cyc_types.specs.TypedTrees.{Local, Global, Expression, Converted, Side, VariableSide, CellSide, Statement, Block, Empty, Evaluate, Swap, If, While, Return, Break, Continue}
use Rattle.cyc_types.specs.TypedTrees.{Throw, Try, Items, NoItems, MoreItems, Item, Execute, Declare, DeclareRegion, OpenRegion, DeclareAlias, DeclareKey, Clauses, NoClauses, Default, Case}
use Rattle.cyc_types.specs.flow.Statements.{peeked_side}
use Rattle.cyc_soundness.specs.inside.guard.Held.{Held, IsAtLeast, updated, with_held, and_held, Guard, peeking, relying, IsSeen, IsUsable, IsSpared, IsReliable, at_catch}
use Rattle.cyc_soundness.specs.inside.guard.Expressions.{Keeps, KeepsPlace, KeepsConverted}

-- An enclosing loop: the flow facts about locals at the loop's head and after the loop.
pub record Exits : Type 0 where
  pub head : Held
  pub following : Held

-- ---- parts of statements

abbrev pub KeepsValue : Guard → Option Converted → (before following : Held) → Type 0
KeepsValue p None f g = IsAtLeast f g
KeepsValue p (Some c) f g = KeepsConverted p c f g

abbrev pub KeepsThrown : Guard → Option Expression → (before following : Held) → Type 0
KeepsThrown p None f g = IsAtLeast f g
KeepsThrown p (Some a) f g = Keeps p a f g

-- The flow rule for the evaluation of the left or right operand of a swap.
abbrev pub KeepsSide : Guard → Side → (before following : Held) → Type 0
KeepsSide p (VariableSide l t) f g = IsAtLeast f g
KeepsSide p (CellSide d) f g = KeepsPlace p d f g

-- Says that an operand of a swap that is a variable may be used after both operands were evaluated.
abbrev pub IsSwappable : Guard → Side → Held → Type 0
IsSwappable p (VariableSide (Local at n) t) f = IsUsable p n f
IsSwappable p (VariableSide (Global n) t) f = Unit {0}
IsSwappable p (CellSide d) f = Unit {0}

abbrev pub KeepsBreak : Option Exits → Held → Type 0
KeepsBreak None f = Unit {0}
KeepsBreak (Some l) f = IsAtLeast f l.following

abbrev pub KeepsContinue : Option Exits → Held → Type 0
KeepsContinue None f = Unit {0}
KeepsContinue (Some l) f = IsAtLeast f l.head

-- ---- items

abbrev pub KeepsDeclaration : Guard → ℕ → Option Converted → (before following : Held) → Type 0
KeepsDeclaration p n None f g = IsSpared p n f × IsAtLeast (with_held false f n) g
KeepsDeclaration p n (Some c) f g = (h : Held) × KeepsConverted p c f h × IsAtLeast (with_held true h n) g

-- The flow rule for a declaration or statement that lends one local and declares another.
abbrev pub KeepsLoan : Guard → (declared lent : ℕ) → (before following : Held) → Type 0
KeepsLoan p n m f g = IsSeen p m f × IsAtLeast (with_held true f n) g

-- The lent locals after a declaration or statement; a local stays lent to the end of the block.
abbrev pub and_lent : Item → (ℕ → Bool) → ℕ → Bool
and_lent (Execute s) w = w
and_lent (Declare n t v) w = w
and_lent (DeclareRegion r n) w = w
and_lent (OpenRegion r n at k) w = updated w k true
and_lent (DeclareAlias r n t at m) w = updated w m true
and_lent (DeclareKey r n) w = w

-- The guard for the declarations and statements of a block that follow the declaration or statement j.
abbrev pub following_item : Item → Guard → Guard
following_item j p = record p { locked = and_lent j p.locked }

-- ---- all forms

abbrev mutual
  pub KeepsStatement : Guard → Option Exits → Statement → (before following : Held) → Type 0
  KeepsStatement p x (Block r js) f g = KeepsItems p x js f g
  KeepsStatement p x Empty f g = IsAtLeast f g
  KeepsStatement p x (Evaluate a) f g = Keeps p a f g
  KeepsStatement p x (Swap l r) f g =
      (h i : Held) × KeepsSide p l f h × KeepsSide (peeking (peeked_side l) p) r h i × IsSwappable p l i × IsSwappable (peeking (peeked_side l) p) r i × IsAtLeast i g
  KeepsStatement p x (If a s t) f g = (h : Held) × Keeps p a f h × KeepsStatement p x s h g × KeepsStatement p x t h g
  KeepsStatement p x (While at a s) f g =
      (head exit : Held) × IsAtLeast f head × Keeps p a head exit × KeepsStatement p (Some (record { head = head; following = g })) s exit head × IsAtLeast exit g
  KeepsStatement p x (Return v) f g = (h : Held) × KeepsValue p v f h
  KeepsStatement p x Break f g = KeepsBreak x f
  KeepsStatement p x Continue f g = KeepsContinue x f
  KeepsStatement p x (Throw e v) f g = (h : Held) × KeepsThrown p v f h
  KeepsStatement p x (Try s cs) f g = (r : ℕ → Bool) × IsReliable p r f × KeepsStatement (relying r p) x s f g × KeepsClauses p x cs (at_catch r f) g

  pub KeepsItems : Guard → Option Exits → Items → (before following : Held) → Type 0
  KeepsItems p x NoItems f g = IsAtLeast f g
  KeepsItems p x (MoreItems j js) f g = (h : Held) × KeepsItem p x j f h × KeepsItems (following_item j p) x js h g

  pub KeepsItem : Guard → Option Exits → Item → (before following : Held) → Type 0
  KeepsItem p x (Execute s) f g = KeepsStatement p x s f g
  KeepsItem p x (Declare n t v) f g = KeepsDeclaration p n v f g
  KeepsItem p x (DeclareRegion r n) f g = IsAtLeast (with_held true f n) g
  KeepsItem p x (OpenRegion r n at k) f g = KeepsLoan p n k f g
  KeepsItem p x (DeclareAlias r n t at m) f g = KeepsLoan p n m f g
  KeepsItem p x (DeclareKey r n) f g = IsAtLeast (with_held true f n) g

  -- The flow rule for the catch clauses of a `try`, each of which begins with this flow state or a weaker one.
  pub KeepsClauses : Guard → Option Exits → Clauses → (start following : Held) → Type 0
  KeepsClauses p x NoClauses c g = Unit {0}
  KeepsClauses p x (Default r js) c g = KeepsItems p x js c g
  KeepsClauses p x (Case e n r js cs) c g = (start : Held) × IsAtLeast (and_held n c) start × KeepsItems p x js start g × KeepsClauses p x cs c g
