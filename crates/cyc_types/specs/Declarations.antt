-- The locals and the regions that a typed statement declares, in the order of the indices that identify them. The order in which the
-- locals and the regions get these indices is this project's own choice.
use Rattle.std.specs.Prelude.{ℕ, suc, ◌+◌, List, [], ◌∷◌, ◌++◌, Option, None, Some}
use Rattle.cyc_types.specs.declared.region.Region.TheVariants as regions
use Rattle.cyc_types.specs.Types.{Ty, Int, Handle, Key}
use Rattle.cyc_types.specs.TypedTrees.{Statement, Block, If, While, Try, Items, NoItems, MoreItems, Execute, Declare, DeclareRegion, OpenRegion, DeclareAlias, DeclareKey, Clauses, NoClauses, Default, Case}

-- a list with the type of the local that receives a caught exception's int; the list is empty if the catch clause receives no int
abbrev pub caught_types : Option ℕ → List Ty
caught_types None = []
caught_types (Some n) = Int ∷ []

-- the types of the locals that a statement declares, in order
abbrev mutual
  pub declared_types : Statement → List Ty
  declared_types (Block r js) = item_types js
  declared_types (If a s t) = declared_types s ++ declared_types t
  declared_types (While p a s) = declared_types s
  declared_types (Try s cs) = declared_types s ++ clause_types cs
  declared_types s = []

  pub item_types : Items → List Ty
  item_types NoItems = []
  item_types (MoreItems (Execute s) js) = declared_types s ++ item_types js
  item_types (MoreItems (Declare n t v) js) = t ∷ item_types js
  item_types (MoreItems (DeclareRegion r n) js) = Handle (regions.Variable r) ∷ item_types js
  item_types (MoreItems (OpenRegion r n p k) js) = Handle (regions.Variable r) ∷ item_types js
  item_types (MoreItems (DeclareAlias r n t p m) js) = t ∷ item_types js
  item_types (MoreItems (DeclareKey r n) js) = Key (regions.Variable r) ∷ item_types js

  pub clause_types : Clauses → List Ty
  clause_types NoClauses = []
  clause_types (Default r js) = item_types js
  clause_types (Case e n r js cs) = caught_types n ++ (item_types js ++ clause_types cs)

-- the number of regions that a statement declares; opening a region by its key declares none, since the region was declared with its key
abbrev mutual
  pub declared_regions : Statement → ℕ
  declared_regions (Block r js) = suc (item_regions js)
  declared_regions (If a s t) = declared_regions s + declared_regions t
  declared_regions (While p a s) = declared_regions s
  declared_regions (Try s cs) = declared_regions s + clause_regions cs
  declared_regions s = 0

  pub item_regions : Items → ℕ
  item_regions NoItems = 0
  item_regions (MoreItems (Execute s) js) = declared_regions s + item_regions js
  item_regions (MoreItems (Declare n t v) js) = item_regions js
  item_regions (MoreItems (DeclareRegion r n) js) = suc (item_regions js)
  item_regions (MoreItems (OpenRegion r n p k) js) = item_regions js
  item_regions (MoreItems (DeclareAlias r n t p m) js) = suc (item_regions js)
  item_regions (MoreItems (DeclareKey r n) js) = suc (item_regions js)

  pub clause_regions : Clauses → ℕ
  clause_regions NoClauses = 0
  clause_regions (Default r js) = suc (item_regions js)
  clause_regions (Case e n r js cs) = suc (item_regions js) + clause_regions cs
