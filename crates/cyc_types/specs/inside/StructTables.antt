-- The code finds a struct by its name in a table that stores the first struct of each name. The table of structs by names is this project's
-- own choice.
use Rattle.std.specs.Prelude.{ℕ, suc, nat_eq, if◌then◌else◌, List, [], ◌∷◌, Option, Some, None}
use Rattle.cyc_types.specs.declared.structs.Entry.{Entry}
use Rattle.cyc_types.specs.declared.structs.Known.{Known}
use Rattle.cyc_types.specs.typing.Scopes.{StructName}

abbrev pub view_entry : Entry → StructName
view_entry e = record { name = e.name; parameters = e.parameters }

-- the first struct with name x, if the structs are numbered from n on
abbrev pub known_from : ℕ → List StructName → ℕ → Option Known
known_from n [] x = None
known_from n (s ∷ ss) x = if nat_eq s.name x then Some (record { number = n; parameters = s.parameters }) else known_from (suc n) ss x
