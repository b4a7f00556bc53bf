-- This file defines the requirements and declarations of a `let alias` whose region is already in scope. The requirements depend on
-- whether the block already declares the local's name, on the names of regions, and on the indices of the local and the region.
use Rattle.std.specs.Prelude.{ℕ, Bool, not, ◌&&◌, ◌||◌, List, [], ◌∷◌, false}
use Rattle.cyc_words.specs.declared.fault.Code.TheVariants as codes
use Rattle.cyc_syntax.specs.Symbols.{Place}
use Rattle.cyc_syntax.specs.Trees.{Named, WrittenType}
use Rattle.cyc_types.specs.declared.region.Region.TheVariants as regions
use Rattle.cyc_types.specs.Types.{Ty, Int}
use Rattle.cyc_types.specs.TypedTrees as typed
use Rattle.cyc_types.specs.Rules.{fault_at, Demand, demand, Rule, Refused, Own}
use Rattle.cyc_types.specs.typing.Scopes.{RegionName, StructName, Meaning, Unknown, Variable, Fixed, Counter, Routine}
use Rattle.cyc_types.specs.typing.Tests.{ty_eq, is_unique, region_of}
use Rattle.cyc_types.specs.typing.Formation.{type_written}
use Rattle.cyc_types.specs.typing.Statements.{is_local, local_number, with_region_of}

abbrev pub alias_asked : (declared : Bool) (region : ℕ) → Named → Place → (written : Ty) → (is_shared : Bool) → Ty → Place → List Demand
alias_asked declared q x w u shared t p =
    demand codes.DeclaredTwice x.place (not declared)
    ∷ demand codes.TypeMismatch w (not (is_unique t) || ty_eq u (with_region_of (regions.Variable q) t))
    ∷ demand codes.UniqueShared p (not shared)
    ∷ demand codes.RegionOrKeyMisused p (is_unique t)
    ∷ []

abbrev pub alias_of : (declared : Bool) → List StructName → List RegionName → (number region : ℕ) → Named → WrittenType → Meaning → Place → Rule typed.Item
alias_of declared structs names n q x w Unknown p = Refused (fault_at codes.UnknownName p)
alias_of declared structs names n q x w (Variable l t home) p =
    Own (alias_asked declared q x w.place (type_written structs names (region_of t) w) (is_unique t && not (is_local l)) t p) (typed.DeclareAlias q n (type_written structs names (region_of t) w) p (local_number l))
alias_of declared structs names n q x w (Fixed l t) p = Own (alias_asked declared q x w.place (type_written structs names (region_of t) w) false t p) (typed.DeclareAlias q n t p (local_number l))
alias_of declared structs names n q x w (Counter m) p = Own (alias_asked declared q x w.place (type_written structs names (region_of Int) w) false Int p) (typed.DeclareAlias q n Int p 0)
alias_of declared structs names n q x w (Routine f s) p = Refused (fault_at codes.TypeMismatch p)
