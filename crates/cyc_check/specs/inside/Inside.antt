-- A scope is inside another one if its declarations come before the outer ones, so that leaving it removes them.
use Rattle.std.specs.Prelude.{◌≡◌, List, ◌++◌}
use Rattle.cyc_types.specs.declared.scope.Scope.{Scope as Opened}
use Rattle.cyc_types.specs.typing.Scopes.{Scope, RegionName, LocalVariable}

-- Returns the scope `g` with these declarations in front of its own; the next indices and the declared region names
-- are those of the scope `n`.
abbrev pub extended : Scope → List LocalVariable → List RegionName → List Opened → Scope → Scope
extended g ls ns os n = record g {
  names = ns ++ g.names;
  taken = n.taken;
  regions = record g.regions { opened = os ++ g.regions.opened };
  locals = ls ++ g.locals;
  next_local = n.next_local;
  next_region = n.next_region;
  region = n.region;
  in_loop = n.in_loop;
  counters = n.counters;
}

pub record Inside (g n : Scope) : Type 0 where
  pub locals : List LocalVariable
  pub names : List RegionName
  pub opened : List Opened
  pub same : n ≡ extended g locals names opened n
