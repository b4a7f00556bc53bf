-- A mark records how many names a scope contains at the entry of a construct. At the end of the construct, the names that
-- came into scope since its entry are removed.
use Rattle.std.specs.Prelude.{ℕ, suc, ◌-◌, ◌<◌, ◌≤◌, List, [], ◌∷◌, length, drop}
use Rattle.cyc_types.specs.declared.region.Region.TheVariants as regions
use Rattle.cyc_types.specs.declared.scope.Kind.{Kind}
use Rattle.cyc_types.specs.typing.Scopes.{LocalVariable, Scope, with_scope}
use Rattle.cyc_scope.specs.declared.scope.Mark.{Mark}

-- says that the indices of the locals' regions never increase from the newest local to the oldest, and are at most `region`
abbrev pub Descends : ℕ → List LocalVariable → Type 0
Descends region [] = Unit {0}
Descends region (v ∷ vs) = (v.region ≤ region) × Descends v.region vs

-- says that the regions of blocks are numbered from the outermost block to the innermost
pub record IsInOrder (g : Scope) : Type 0 where
  pub locals : Descends g.region g.locals
  pub inside : g.region < g.next_region

abbrev pub mark_of : Scope → Mark
mark_of g = record {
  locals = length g.locals;
  names = length g.names;
  opened = length g.regions.opened;
  region = g.region;
  in_loop = g.in_loop;
  counters = g.counters;
}

-- The scope without the names added since its mark (a record of the scope's size) was taken. The indices of the
-- removed locals and regions, and the removed region names, are not used for later declarations.
abbrev pub left_to : Mark → Scope → Scope
left_to m g = record g {
  names = drop (length g.names - m.names) g.names;
  regions = record g.regions { opened = drop (length g.regions.opened - m.opened) g.regions.opened };
  locals = drop (length g.locals - m.locals) g.locals;
  region = m.region;
  in_loop = m.in_loop;
  counters = m.counters;
}

-- the scope after the region with the next index, which already has a name, is declared and opened
abbrev pub with_next_opened : Kind → Scope → Scope
with_next_opened k g = record g { next_region = suc g.next_region; regions = with_scope k (regions.Variable g.next_region) g.regions }
