-- The typing rules of a program check first all signatures in order, then that `main` is declared, then the function bodies in order.
-- (The form of `main` and the order are this project's own choice.)
use Rattle.std.specs.Prelude.{ℕ, suc, ◌+◌, ◌-◌, ◌%◌, ◌^◌, false, nat_eq, if◌then◌else◌, List, [], ◌∷◌, ◌++◌, map, length, Option, Some, None, codes as bytes}
use Rattle.cyc_words.specs.declared.fault.Code.TheVariants as codes
use Rattle.cyc_words.specs.declared.fault.Fault.{Fault}
use Rattle.cyc_syntax.specs.Names.{number_of}
use Rattle.cyc_syntax.specs.Symbols.{Place}
use Rattle.cyc_syntax.specs.Trees.{Named, Body, Braces, Items, Member, GlobalValue, Positive, Negative, Byte, NullPointer, Parameters, Declaration, StructType, Exceptions, Global, Function}
use Rattle.cyc_types.specs.declared.region.Region.TheVariants as regions
use Rattle.cyc_types.specs.declared.scope.Kind.TheVariants as kinds
use Rattle.cyc_types.specs.declared.typed.Callee.TheVariants as callees
use Rattle.cyc_types.specs.Types.{Ty, Int, Char}
use Rattle.cyc_types.specs.Outlives.{RegionContext}
use Rattle.cyc_types.specs.TypedTrees.{Signature}
use Rattle.cyc_types.specs.TypedTrees as typed
use Rattle.cyc_types.specs.Declarations.{item_types}
use Rattle.cyc_types.specs.Rules.{Checked, demand, Rule, Part, gives, demands, Derives, Refuses, run}
use Rattle.cyc_types.specs.typing.Scopes.{signature_of_ints, RegionName, StructName, Field, Exception, Routine, Declared, Ordinary, LocalVariable, Scope, item_regions, with_scope}
use Rattle.cyc_types.specs.typing.Tests.{is_pointer}
use Rattle.cyc_types.specs.typing.Formation.{type_written}
use Rattle.cyc_types.specs.typing.Statements.{rule_items}
use Rattle.cyc_types.specs.typing.DeclarationRules.{Known, members_of, structs_of, fields_of, exceptions_of, parameter_naming, signature_of, declared_from, region_numbers, Before, rule_declarations, declares}

-- ---- the built-in declarations, by the numbers of their names in a list of texts

abbrev pub regions_before : List (List ℕ) → List RegionName
regions_before texts =
    record { name = number_of texts (bytes "H"); region = regions.Heap } ∷ record { name = number_of texts (bytes "U"); region = regions.Unique } ∷ []

-- the built-in exceptions, in the order of the numbers from 1 that identify them; no built-in exception carries an int
abbrev pub exceptions_before : List (List ℕ) → List Exception
exceptions_before texts =
    map (λ (x : List ℕ). record { name = number_of texts x; has_int = false })
    (bytes "Null_Exception" ∷ bytes "Array_bounds" ∷ bytes "Array_size" ∷ bytes "Div_zero" ∷ [])

-- the built-in functions `int putchar(int)` and `int getchar()`
abbrev pub declared_before : List (List ℕ) → List Declared
declared_before texts =
    record { name = number_of texts (bytes "putchar"); meaning = Routine callees.Putchar (signature_of_ints (Int ∷ [])) }
    ∷ record { name = number_of texts (bytes "getchar"); meaning = Routine callees.Getchar (signature_of_ints []) }
    ∷ []

abbrev pub known_of : List (List ℕ) → List Declaration → Known
known_of texts tree = record { regions = regions_before texts; structs = structs_of tree; main = number_of texts (bytes "main") }

abbrev pub before_all : List (List ℕ) → Before
before_all texts = record {
  structs = [];
  exceptions = map (λ (e : Exception). e.name) (exceptions_before texts);
  names = map (λ (d : Declared). d.name) (declared_before texts);
}

-- ---- function bodies

-- the declarations of a program that are visible in all function bodies
pub record Program : Type 0 where
  pub known : Known
  pub fields : List (List Field)
  pub exceptions : List Exception
  pub declared : List Declared

abbrev pub program_known : List (List ℕ) → List Declaration → Program
program_known texts tree = record {
  known = known_of texts tree;
  fields = fields_of (known_of texts tree) tree;
  exceptions = exceptions_before texts ++ exceptions_of tree;
  declared = declared_before texts ++ declared_from (known_of texts tree) 0 0 tree;
}

-- adds a function's parameters to the list of locals, newest first; the first parameter gets the number n
abbrev pub parameter_locals : List Member → List Ty → ℕ → List LocalVariable → List LocalVariable
parameter_locals (m ∷ ms) (t ∷ ts) n vs = parameter_locals ms ts (suc n) (record { name = m.name.name; number = n; of_type = t; region = 0; sort = Ordinary } ∷ vs)
parameter_locals ms ts n vs = vs

-- the region names visible in a function's body: the function's own region and those of the parameters
abbrev pub body_names : Known → Named → Parameters → List RegionName
body_names k x ps = record { name = x.name; region = regions.Variable 0 } ∷ (parameter_naming k ps).names

-- The region context of a function's body: the body's own region opens after the regions of the function's effect, which are live already.
abbrev pub body_regions : Signature → RegionContext
body_regions s =
    with_scope kinds.Block (regions.Variable 0) (record { written = s.constraints; live = regions.Heap ∷ regions.Unique ∷ s.effect; opened = [] })

-- the scope of a function's body; the parameters are in the same scope as the outermost locals of the body
abbrev pub body_scope : Program → Signature → Named → Parameters → Scope
body_scope p s x ps = record {
  structs = p.known.structs;
  fields = p.fields;
  exceptions = p.exceptions;
  program = p.declared;
  result = s.result;
  names = body_names p.known x ps;
  taken = region_numbers (body_names p.known x ps);
  regions = body_regions s;
  locals = parameter_locals (members_of ps.list) s.parameters 0 [];
  next_local = length (members_of ps.list);
  next_region = suc s.variables;
  region = 0;
  in_loop = false;
  counters = 0;
}

abbrev pub function_of : Signature → Named → Items → Place → typed.Items → typed.Function
function_of s x is q js = record {
  name = x.name;
  place = x.place;
  parameters = s.parameters;
  result = s.result;
  variables = s.variables;
  effect = s.effect;
  constraints = s.constraints;
  locals = item_types js;
  region = 0;
  regions = suc s.variables + item_regions is;
  body = js;
  end = q;
}

abbrev pub rule_function : Program → Signature → Named → Parameters → Body → Rule typed.Function
rule_function p s x ps (Braces b is q) = Part (rule_items (body_scope p s x ps) is) (λ js. gives (function_of s x is q js))

abbrev pub rule_functions : Program → List Declaration → Rule (List typed.Function)
rule_functions p [] = gives []
rule_functions p (StructType s rs ms ∷ tree) = rule_functions p tree
rule_functions p (Exceptions cs ∷ tree) = rule_functions p tree
rule_functions p (Global w x v ∷ tree) = rule_functions p tree
rule_functions p (Function r x ps b ∷ tree) =
    Part (rule_function p (signature_of p.known r ps) x ps b) (λ h. Part (rule_functions p tree) (λ hs. gives (h ∷ hs)))

-- ---- programs

-- the 32-bit word that a global holds if it is initialized by a number; a char keeps only the low byte
abbrev pub word_of : Ty → ℕ → ℕ
word_of Char n = n % 256
word_of t n = n

-- the initial value of a global; an omitted initial value is 0 or null
abbrev pub constant_of : Ty → Option GlobalValue → typed.Constant
constant_of t None = if is_pointer t then typed.Null else typed.Word 0
constant_of t (Some (Positive p n)) = typed.Word (word_of t n)
constant_of t (Some (Negative p n)) = typed.Word (word_of t ((2 ^ 32 - n) % 2 ^ 32))
constant_of t (Some (Byte p c)) = typed.Word (word_of t c)
constant_of t (Some (NullPointer p)) = typed.Null

abbrev pub global_of : Named → Option GlobalValue → Ty → typed.GlobalVariable
global_of x v t = record { name = x.name; of_type = t; value = constant_of t v }

abbrev pub globals_of : Known → List Declaration → List typed.GlobalVariable
globals_of k [] = []
globals_of k (StructType s rs ms ∷ tree) = globals_of k tree
globals_of k (Exceptions cs ∷ tree) = globals_of k tree
globals_of k (Global w x v ∷ tree) = global_of x v (type_written k.structs k.regions regions.Heap w) ∷ globals_of k tree
globals_of k (Function r x ps b ∷ tree) = globals_of k tree

abbrev pub struct_types : List StructName → List (List Field) → List typed.StructType
struct_types (s ∷ structs) (fs ∷ fields) = record { parameters = s.parameters; fields = map (λ (f : Field). f.of_type) fs } ∷ struct_types structs fields
struct_types structs fields = []

-- the number that identifies the function named `main`
abbrev pub function_number : ℕ → List Declaration → ℕ
function_number main [] = 0
function_number main (StructType s rs ms ∷ tree) = function_number main tree
function_number main (Exceptions cs ∷ tree) = function_number main tree
function_number main (Global w x v ∷ tree) = function_number main tree
function_number main (Function r x ps b ∷ tree) = if nat_eq x.name main then 0 else suc (function_number main tree)

abbrev pub program_of : Program → List Declaration → List typed.Function → typed.Program
program_of p tree fs = record {
  structs = struct_types p.known.structs p.fields;
  exceptions = map (λ (e : Exception). e.has_int) (exceptions_of tree);
  globals = globals_of p.known tree;
  functions = fs;
  main = function_number p.known.main tree;
}

-- the source position (line 1, column 1) that is reported for a fault without a position in the text
abbrev pub start : Place
start = record { line = 1; column = 1 }

abbrev pub rule_program_known : Program → Before → List Declaration → Rule typed.Program
rule_program_known p b tree =
    Part (rule_declarations p.known b tree)
    (λ u. Part (demands (demand codes.BadMain start (declares p.known.main tree) ∷ []))
    (λ v. Part (rule_functions p tree) (λ fs. gives (program_of p tree fs))))

-- the typing rule for a program; the number of a name is the index of its text in `texts`
abbrev pub rule_program : List (List ℕ) → List Declaration → Rule typed.Program
rule_program texts tree = rule_program_known (program_known texts tree) (before_all texts) tree

-- ---- the judgements of the rules

-- Says that the program is well-typed with the given typed tree. The number of a name is the index of its text in the list.
abbrev pub IsTypedProgram : List (List ℕ) → List Declaration → typed.Program → Type 0
IsTypedProgram texts tree p = Derives (rule_program texts tree) p

-- Says that the typing rules reject the program with this fault.
abbrev pub IsRefusedProgram : List (List ℕ) → List Declaration → Fault → Type 0
IsRefusedProgram texts tree f = Refuses (rule_program texts tree) f

-- returns the typed tree of a program, or its first typing fault
abbrev pub check_of : List (List ℕ) → List Declaration → Checked typed.Program
check_of texts tree = run (rule_program texts tree)
