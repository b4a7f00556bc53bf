-- The state of the checker's code while it adds the declarations of a program one after the other.
use Rattle.std.specs.Prelude.{ℕ, suc, List, [], ◌∷◌, ◌++◌, map, Option}
use Rattle.cyc_syntax.specs.Trees.{Named, Member, WrittenType, Parameters, Constructor, Declaration, StructType, Exceptions, Global, Function}
use Rattle.cyc_types.specs.declared.region.Region.TheVariants.{Heap}
use Rattle.cyc_types.specs.declared.typed.Callee.TheVariants as callees
use Rattle.cyc_types.specs.TypedTrees as typed
use Rattle.cyc_types.specs.typing.Scopes.{Exception, Routine}
use Rattle.cyc_types.specs.typing.Scopes as scopes
use Rattle.cyc_types.specs.typing.Formation.{type_written}
use Rattle.cyc_types.specs.typing.DeclarationRules.{Known, parameter_names, fields_written, fields_of, exceptions_of, signature_of, declared_from}
use Rattle.cyc_types.specs.typing.Programs.{Program, exceptions_before, declared_before}
use Rattle.cyc_declarations.specs.declared.declared.Declared.{Declared}

-- the declarations added so far, and the indices that the next global and the next function get
pub record State : Type 0 where
  pub program : Program
  pub globals : ℕ
  pub functions : ℕ

abbrev pub state_of : Declared → State
state_of d = record { program = d.program; globals = d.globals; functions = d.functions }

-- the built-in declarations of a program, from the names of built-in regions, the names of structs, and the
-- number that identifies the name `main`
abbrev pub program_before : List (List ℕ) → Known → Program
program_before texts k = record { known = k; fields = []; exceptions = exceptions_before texts; declared = declared_before texts }

abbrev pub first_state : List (List ℕ) → Known → State
first_state texts k = record { program = program_before texts k; globals = 0; functions = 0 }

abbrev pub exceptions_made : List Constructor → List Exception
exceptions_made cs = map (λ (c : Constructor). record { name = c.name.name; has_int = c.has_int }) cs

abbrev pub with_exceptions : List Constructor → Program → Program
with_exceptions cs p = record p { exceptions = p.exceptions ++ exceptions_made cs }

abbrev pub with_struct : List Named → List Member → State → State
with_struct rs ms h = record h { program = record h.program { fields = h.program.fields ++ fields_written h.program.known (parameter_names rs 0 h.program.known.regions) ms ∷ [] } }

abbrev pub with_global : WrittenType → Named → State → State
with_global w x h = record h {
  program = record h.program { declared = h.program.declared ++ record { name = x.name; meaning = scopes.Variable (typed.Global h.globals) (type_written h.program.known.structs h.program.known.regions Heap w) Heap } ∷ [] };
  globals = suc h.globals;
}

abbrev pub with_function : Option WrittenType → Named → Parameters → State → State
with_function r x ps h = record h {
  program = record h.program { declared = h.program.declared ++ record { name = x.name; meaning = Routine (callees.Function h.functions) (signature_of h.program.known r ps) } ∷ [] };
  functions = suc h.functions;
}

-- the state after one more declaration has been added
abbrev pub after_declaration : Declaration → State → State
after_declaration (StructType s rs ms) h = with_struct rs ms h
after_declaration (Exceptions cs) h = record h { program = with_exceptions cs h.program }
after_declaration (Global w x v) h = with_global w x h
after_declaration (Function r x ps b) h = with_function r x ps h

-- the program after all declarations of a list have been added to a state
abbrev pub after_declarations : List Declaration → State → Program
after_declarations ds h = record {
  known = h.program.known;
  fields = h.program.fields ++ fields_of h.program.known ds;
  exceptions = h.program.exceptions ++ exceptions_of ds;
  declared = h.program.declared ++ declared_from h.program.known h.globals h.functions ds;
}
