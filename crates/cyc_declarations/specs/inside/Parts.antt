-- A typed program consists of its functions and of other parts (structs, exceptions, globals, `main`), which the checker's code returns
-- separately.
use Rattle.std.specs.Prelude.{List, map}
use Rattle.cyc_syntax.specs.Trees.{Declaration}
use Rattle.cyc_types.specs.TypedTrees.{Function, Program}
use Rattle.cyc_types.specs.TypedTreeView.{view_struct, view_global}
use Rattle.cyc_types.specs.typing.Scopes.{Exception}
use Rattle.cyc_types.specs.typing.DeclarationRules.{Known, structs_of, fields_of, exceptions_of}
use Rattle.cyc_types.specs.typing.Programs.{struct_types, globals_of, function_number}
use Rattle.cyc_declarations.specs.declared.program.Parts.{Parts}

abbrev pub program_with : Parts → List Function → Program
program_with parts fs = record { structs = map view_struct parts.structs.items; exceptions = parts.exceptions.items; globals = map view_global parts.globals.items; functions = fs; main = parts.main }

-- the typed program with the given declarations and functions, from the names of built-in regions, the names of structs, and the
-- number that identifies `main`
abbrev pub program_made : Known → List Declaration → List Function → Program
program_made k tree fs = record {
  structs = struct_types (structs_of tree) (fields_of k tree);
  exceptions = map (λ (e : Exception). e.has_int) (exceptions_of tree);
  globals = globals_of k tree;
  functions = fs;
  main = function_number k.main tree;
}
