-- The mathematical views of declared functions, globals and locals, for contracts; the views omit the memory layout of
-- types and signatures.
use Rattle.std.specs.Prelude.{◌≡◌, ℕ, nat_eq, if◌then◌else◌, List, [], ◌∷◌, map, reverse, get_or, Option, Some, None}
use Rattle.std.specs.declared.vec.Vec.{Vec}
use Rattle.std.specs.declared.alloc.Global.{Global}
use Rattle.cyc_types.specs.declared.region.Region.TheVariants as regions
use Rattle.cyc_types.specs.TypedTrees as typed
use Rattle.cyc_types.specs.TypeView.{view_ty}
use Rattle.cyc_types.specs.typing.Scopes.{Exception, Meaning, Variable, Routine, Declared, Sort, Ordinary, OfRegion, OfLoop, LocalVariable}
use Rattle.cyc_types.specs.typing.Scopes as scopes
use Rattle.cyc_scope.specs.declared.program.Field.{Field}
use Rattle.cyc_scope.specs.declared.exceptions.Entry.{Entry as ExceptionEntry}
use Rattle.cyc_scope.specs.declared.declared.Entity.{Entity}
use Rattle.cyc_scope.specs.declared.declared.Entity.TheVariants as entity
use Rattle.cyc_scope.specs.declared.declared.Entry.{Entry}
use Rattle.cyc_scope.specs.declared.locals.Sort.{Sort as SortCode}
use Rattle.cyc_scope.specs.declared.locals.Sort.TheVariants as sort
use Rattle.cyc_scope.specs.declared.locals.Local.{Local}
use Rattle.cyc_scope.specs.declared.locals.Binding.{Binding}
use Rattle.cyc_scope.specs.inside.Tables.{newest_place, hidden_by}

-- ---- declared entities of a program

abbrev pub view_field : Field → scopes.Field
view_field f = record { name = f.name; of_type = view_ty f.of_type }

abbrev pub view_fields : Vec Field Global → List scopes.Field
view_fields fs = map view_field fs.items

abbrev pub view_exception : ExceptionEntry → Exception
view_exception e = record { name = e.name; has_int = e.has_int }

abbrev pub view_entity : Entity → Meaning
view_entity (entity.Global n t) = Variable (typed.Global n) (view_ty t) regions.Heap
view_entity (entity.Function f s) = Routine f s

abbrev pub view_entry : Entry → Declared
view_entry e = record { name = e.name; meaning = view_entity e.entity }

-- ---- locals

abbrev pub view_sort : SortCode → Sort
view_sort sort.Ordinary = Ordinary
view_sort sort.OfRegion = OfRegion
view_sort sort.OfLoop = OfLoop

abbrev pub view_local : Local → LocalVariable
view_local l = record { name = l.name; number = l.number; of_type = view_ty l.of_type; region = l.region; sort = view_sort l.sort }

abbrev pub view_binding : Binding → LocalVariable
view_binding b = view_local b.local

-- lists the locals in the table's entries, newest first; the table's entries are oldest first
abbrev pub locals_of : List Binding → List LocalVariable
locals_of bs = map view_binding (reverse bs)

abbrev pub local_names : List LocalVariable → List ℕ
local_names vs = map (λ (v : LocalVariable). v.name) vs

-- the newest local with the name x
abbrev pub newest : List LocalVariable → ℕ → Option LocalVariable
newest [] x = None
newest (v ∷ vs) x = if nat_eq v.name x then Some v else newest vs x

-- says that the table contains the index of the newest local of each name, and that each local stores the index of the older
-- local that it hides
abbrev pub Finds : List (Option ℕ) → List Binding → Type 0
Finds table bs = ((x : ℕ) → get_or table x None ≡ newest_place (local_names (locals_of bs)) x)
    × (map (λ (b : Binding). b.hidden) (reverse bs) ≡ hidden_by (local_names (locals_of bs)))

-- the meaning of a name as a local in scope, or else the given default meaning
abbrev pub meaning_or : Meaning → Option Meaning → Meaning
meaning_or m None = m
meaning_or m (Some found) = found
