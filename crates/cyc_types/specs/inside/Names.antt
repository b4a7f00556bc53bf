-- The code finds the region that a name denotes in a table indexed by names. Each binding of a name stores the binding that it hides. The
-- table of region names is this project's own choice.
use Rattle.std.specs.Prelude.{◌≡◌, ℕ, List, [], ◌∷◌, map, reverse, get_or, Option, None}
use Rattle.cyc_types.specs.declared.region.Region.{Region}
use Rattle.cyc_types.specs.declared.names.Binding.{Binding}
use Rattle.cyc_types.specs.typing.Scopes.{RegionName, region_among}

-- lists the names of the bindings, newest first; the bindings are oldest first
abbrev pub names_of : List Binding → List RegionName
names_of bs = map (λ (b : Binding). record { name = b.name; region = b.region }) (reverse bs)

-- for each binding of a region name, the region that the name denoted before this binding, if any
abbrev pub hidden_by : List RegionName → List (Option Region)
hidden_by [] = []
hidden_by (n ∷ ns) = region_among ns n.name ∷ hidden_by ns

-- says that the table maps each name to the region it denotes, and that each binding stores the region it hides
abbrev pub Finds : List (Option Region) → List Binding → Type 0
Finds table bs = ((x : ℕ) → get_or table x None ≡ region_among (names_of bs) x) × (map (λ (b : Binding). b.hidden) (reverse bs) ≡ hidden_by (names_of bs))
