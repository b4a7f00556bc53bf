-- The indices of declared locals are fresh: no local is lent at the moment of its declaration.
use Rattle.std.proofs.Common.{◌≡◌, ℕ, Bool, true, false, Option, Some, None}
use Rattle.cyc_types.specs.TypedTrees.{Statement, Block, Empty, Evaluate, Swap, If, While, Return, Break, Continue, Throw, Try, Items, NoItems, MoreItems, Item, Execute, Declare, DeclareRegion, OpenRegion, DeclareAlias, DeclareKey, Clauses, NoClauses, Default, Case}
use Rattle.cyc_soundness.specs.inside.guard.Held.{updated}
use Rattle.cyc_soundness.specs.inside.guard.Statements.{and_lent}

abbrev pub IsFreshCaught : (locked : ℕ → Bool) → Option ℕ → Type 0
IsFreshCaught w None = Unit {0}
IsFreshCaught w (Some n) = w n ≡ false

abbrev mutual
  pub IsFresh : (locked : ℕ → Bool) → Statement → Type 0
  IsFresh w (Block r js) = AreFresh w js
  IsFresh w Empty = Unit {0}
  IsFresh w (Evaluate a) = Unit {0}
  IsFresh w (Swap x y) = Unit {0}
  IsFresh w (If a s t) = IsFresh w s × IsFresh w t
  IsFresh w (While at a s) = IsFresh w s
  IsFresh w (Return v) = Unit {0}
  IsFresh w Break = Unit {0}
  IsFresh w Continue = Unit {0}
  IsFresh w (Throw e v) = Unit {0}
  IsFresh w (Try s cs) = IsFresh w s × AreFreshClauses w cs

  pub AreFresh : (locked : ℕ → Bool) → Items → Type 0
  AreFresh w NoItems = Unit {0}
  AreFresh w (MoreItems j js) = IsFreshItem w j × AreFresh (and_lent j w) js

  pub IsFreshItem : (locked : ℕ → Bool) → Item → Type 0
  IsFreshItem w (Execute s) = IsFresh w s
  IsFreshItem w (Declare n t v) = w n ≡ false
  IsFreshItem w (DeclareRegion r n) = w n ≡ false
  IsFreshItem w (OpenRegion r n at k) = updated w k true n ≡ false
  IsFreshItem w (DeclareAlias r n t at m) = updated w m true n ≡ false
  IsFreshItem w (DeclareKey r n) = w n ≡ false

  pub AreFreshClauses : (locked : ℕ → Bool) → Clauses → Type 0
  AreFreshClauses w NoClauses = Unit {0}
  AreFreshClauses w (Default r js) = AreFresh w js
  AreFreshClauses w (Case e n r js cs) = IsFreshCaught w n × AreFresh w js × AreFreshClauses w cs
