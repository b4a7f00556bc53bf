-- The contracts between the functions that traverse statements: they describe the scope afterwards, and the nodes of the typed tree.
use Rattle.std.specs.Prelude.{◌≡◌, suc, ◌+◌, [], ◌∷◌, ◌++◌}
use Rattle.cyc_syntax.specs.Trees.{Named, Items, Clauses}
use Rattle.cyc_types.specs.declared.typed.Clause.{Clause as ClauseCode}
use Rattle.cyc_types.specs.TypedTrees as typed
use Rattle.cyc_types.specs.TypedTreeView as view
use Rattle.cyc_types.specs.typing.Scopes.{Scope, item_locals, item_regions, item_names, clause_locals, clause_regions, clause_names}
use Rattle.cyc_check.specs.inside.Inside.{Inside}

-- `IsAfterItems` describes the scope after the declarations and statements of a block that is still open.
pub record IsAfterItems (g : Scope) (is : Items) (n : Scope) : Type 0 where
  pub inside : Inside g n
  pub numbers : n.next_local ≡ g.next_local + item_locals is
  pub regions : n.next_region ≡ g.next_region + item_regions is
  pub taken : n.taken ≡ item_names is ++ g.taken

-- Returns the scope after a block with these declarations and statements.
abbrev pub following_block : Scope → Items → Scope
following_block g is = record g { next_local = g.next_local + item_locals is; next_region = g.next_region + suc (item_regions is); taken = item_names is ++ g.taken }

-- Returns the scope after a labelled block with these declarations and statements.
abbrev pub after_labelled : Scope → Named → Items → Scope
after_labelled g l is = record g { next_local = g.next_local + item_locals is; next_region = g.next_region + suc (item_regions is); taken = (item_names is ++ l.name ∷ []) ++ g.taken }

-- Returns the scope after the clauses of a `catch`.
abbrev pub after_clauses : Scope → Clauses → Scope
after_clauses g cs = record g { next_local = g.next_local + clause_locals cs; next_region = g.next_region + clause_regions cs; taken = clause_names cs ++ g.taken }

-- ---- nodes

-- Returns the mathematical form (view) of a catch clause without the clauses that follow it.
abbrev pub view_clause : ClauseCode → typed.Clauses
view_clause c = view.clauses_of (c ∷ []) typed.NoClauses
