-- The typing rules of the signatures of declarations, and the entities that the declarations declare. Signatures are checked in order,
-- and the components of a signature (such as types and names) in the order of the source. All names of structs, functions and globals
-- are known in the whole text. (Effects and constraints are Cyclone's, Grossman et al. 2002; codes, positions and their order are this
-- project's own choice.)
use Rattle.std.specs.Prelude.{ℕ, zero, suc, pred, Bool, true, false, not, nat_eq, ◌&&◌, ◌||◌, if◌then◌else◌, List, [], ◌∷◌, ◌++◌, map, length, Option, Some, None, option_map}
use Rattle.std.specs.List.{list_any}
use Rattle.cyc_words.specs.declared.fault.Code.TheVariants as codes
use Rattle.cyc_syntax.specs.Symbols.{Place}
use Rattle.cyc_syntax.specs.Trees.{Named, BaseType, WrittenType, Member, Constructor, GlobalValue, Positive, Negative, Byte, NullPointer, Constraint, ParameterList, Void, Listed, Parameters, Declaration, StructType, Exceptions, Global, Function}
use Rattle.cyc_syntax.specs.Trees as written
use Rattle.cyc_types.specs.declared.region.Region.{Region}
use Rattle.cyc_types.specs.declared.region.Region.TheVariants.{Heap, Unique, Variable}
use Rattle.cyc_types.specs.declared.typed.Callee.TheVariants as callees
use Rattle.cyc_types.specs.Types.{Ty}
use Rattle.cyc_types.specs.TypedTrees.{Signature}
use Rattle.cyc_types.specs.TypedTrees as typed
use Rattle.cyc_types.specs.Rules.{Demand, demand, Rule, Part, gives, demands}
use Rattle.cyc_types.specs.typing.Scopes.{RegionName, StructName, Field, Exception, Routine, Declared}
use Rattle.cyc_types.specs.typing.Scopes as scopes
use Rattle.cyc_types.specs.typing.Tests.{is_empty, is_left_out, is_number, is_pointer, is_non_null}
use Rattle.cyc_types.specs.typing.Formation.{Naming, region_of, type_written, types_for, after_members, is_name_of, no_unique_demanded, name_demanded, type_demanded, field_demanded, global_demanded, is_key_of}

-- ---- the entities that signatures declare

-- the declarations visible in the whole text: the built-in regions, the structs, indexed by the numbers that identify them, and
-- the number that identifies the name `main`
pub record Known : Type 0 where
  pub regions : List RegionName
  pub structs : List StructName
  pub main : ℕ

abbrev pub members_of : ParameterList → List Member
members_of Void = []
members_of (Listed ms) = ms

abbrev pub structs_of : List Declaration → List StructName
structs_of [] = []
structs_of (StructType s rs fs ∷ ds) = record { name = s.name; parameters = length rs } ∷ structs_of ds
structs_of (Exceptions cs ∷ ds) = structs_of ds
structs_of (Global w x v ∷ ds) = structs_of ds
structs_of (Function r x ps b ∷ ds) = structs_of ds

-- adds the names of a struct's region parameters to a list of region names; the parameters are the region variables from n on
abbrev pub parameter_names : List Named → ℕ → List RegionName → List RegionName
parameter_names [] n names = names
parameter_names (r ∷ rs) n names = record { name = r.name; region = Variable n } ∷ parameter_names rs (suc n) names

abbrev pub fields_written : Known → List RegionName → List Member → List Field
fields_written k names ms = map (λ (m : Member). record { name = m.name.name; of_type = type_written k.structs names Heap m.of_type }) ms

abbrev pub fields_of : Known → List Declaration → List (List Field)
fields_of k [] = []
fields_of k (StructType s rs ms ∷ ds) = fields_written k (parameter_names rs 0 k.regions) ms ∷ fields_of k ds
fields_of k (Exceptions cs ∷ ds) = fields_of k ds
fields_of k (Global w x v ∷ ds) = fields_of k ds
fields_of k (Function r x ps b ∷ ds) = fields_of k ds

-- the exceptions that a program declares
abbrev pub exceptions_of : List Declaration → List Exception
exceptions_of [] = []
exceptions_of (StructType s rs ms ∷ ds) = exceptions_of ds
exceptions_of (Exceptions cs ∷ ds) = map (λ (c : Constructor). record { name = c.name.name; has_int = c.has_int }) cs ++ exceptions_of ds
exceptions_of (Global w x v ∷ ds) = exceptions_of ds
exceptions_of (Function r x ps b ∷ ds) = exceptions_of ds

-- ---- signatures

-- the region names and the number that the next region will get, as they are after the parameters of a function
abbrev pub parameter_naming : Known → Parameters → Naming
parameter_naming k ps = after_members (record { names = k.regions; next = 1 }) (members_of ps.list)

abbrev pub parameter_types : Known → Parameters → List Ty
parameter_types k ps = types_for k.structs (record { names = k.regions; next = 1 }) (members_of ps.list)

abbrev pub result_written : Known → List RegionName → Option WrittenType → Option Ty
result_written k names r = option_map (type_written k.structs names Heap) r

-- returns true if a list of types contains a key of the region
abbrev pub has_key : List Ty → Region → Bool
has_key ts r = list_any (is_key_of r) ts

abbrev pub and_result : List Ty → Option Ty → List Ty
and_result ts None = ts
and_result ts (Some t) = t ∷ ts

-- the list of `count` region variables from number `from` on, without those whose key is among the given types
abbrev pub without_keys : List Ty → (count from : ℕ) → List Region
without_keys ts zero n = []
without_keys ts (suc m) n = if has_key ts (Variable n) then without_keys ts m (suc n) else Variable n ∷ without_keys ts m (suc n)

-- An omitted effect consists of all regions in the types of the parameters and of the result, except regions whose key is among these
-- types. (Each region variable occurs in a parameter's type, and the heap is live everywhere.)
abbrev pub effect_of : List RegionName → List Ty → (variables : ℕ) → Option (List Named) → List Region
effect_of names ts n None = without_keys ts n 1
effect_of names ts n (Some rs) = map (region_of names) rs

abbrev pub constraints_of : List RegionName → List Constraint → List (Region × Region)
constraints_of names cs = map (λ (c : Constraint). (region_of names c.longer, region_of names c.shorter)) cs

abbrev pub signature_of : Known → Option WrittenType → Parameters → Signature
signature_of k r ps = record {
  variables = pred (parameter_naming k ps).next;
  parameters = parameter_types k ps;
  result = result_written k (parameter_naming k ps).names r;
  effect = effect_of (parameter_naming k ps).names (and_result (parameter_types k ps) (result_written k (parameter_naming k ps).names r)) (pred (parameter_naming k ps).next) ps.effect;
  constraints = constraints_of (parameter_naming k ps).names ps.constraints;
}

-- the declared functions and globals; functions and globals are each numbered in the order of their declarations
abbrev pub declared_from : Known → (globals functions : ℕ) → List Declaration → List Declared
declared_from k n m [] = []
declared_from k n m (StructType s rs fs ∷ ds) = declared_from k n m ds
declared_from k n m (Exceptions cs ∷ ds) = declared_from k n m ds
declared_from k n m (Global w x v ∷ ds) =
    record { name = x.name; meaning = scopes.Variable (typed.Global n) (type_written k.structs k.regions Heap w) Heap } ∷ declared_from k (suc n) m ds
declared_from k n m (Function r x ps b ∷ ds) = record { name = x.name; meaning = Routine (callees.Function m) (signature_of k r ps) } ∷ declared_from k n (suc m) ds

-- ---- rules of signatures

abbrev pub is_among : ℕ → List ℕ → Bool
is_among x known = list_any (nat_eq x) known

-- the requirements that names in a list differ from each other and from the names declared earlier
abbrev pub distinct_demanded : List ℕ → List Named → List Demand
distinct_demanded known [] = []
distinct_demanded known (x ∷ xs) = demand codes.DeclaredTwice x.place (not (is_among x.name known)) ∷ distinct_demanded (x.name ∷ known) xs

abbrev pub rule_new : List ℕ → Named → Rule (Unit {0})
rule_new known x = demands (distinct_demanded known (x ∷ []))

abbrev pub region_numbers : List RegionName → List ℕ
region_numbers names = map (λ (r : RegionName). r.name) names

abbrev pub rule_fields : Known → List RegionName → (before : List ℕ) → List Member → Rule (Unit {0})
rule_fields k names before [] = gives tt
rule_fields k names before (m ∷ ms) =
    Part (demands (field_demanded k.structs names m.of_type)) (λ u. Part (rule_new before m.name) (λ v. rule_fields k names (m.name.name ∷ before) ms))

abbrev pub rule_struct : Known → (before : List ℕ) → Named → List Named → List Member → Rule (Unit {0})
rule_struct k before s rs ms =
    Part (rule_new before s) (λ u. Part (demands (distinct_demanded (region_numbers k.regions) rs)) (λ v. rule_fields k (parameter_names rs 0 k.regions) [] ms))

-- lists the names of the declared exceptions
abbrev pub constructor_names : List Constructor → List Named
constructor_names cs = map (λ (c : Constructor). c.name) cs

-- An int or a char is initialized by a number or a character, a pointer by `NULL`. A global without an initial value is 0 or null; if
-- its type forbids null, the fault is at the type's source position.
abbrev pub value_demanded : Ty → Place → Option GlobalValue → List Demand
value_demanded t q None = demand codes.NullForNonNull q (not (is_non_null t)) ∷ []
value_demanded t q (Some (Positive p n)) = demand codes.TypeMismatch p (is_number t) ∷ []
value_demanded t q (Some (Negative p n)) = demand codes.TypeMismatch p (is_number t) ∷ []
value_demanded t q (Some (Byte p c)) = demand codes.TypeMismatch p (is_number t) ∷ []
value_demanded t q (Some (NullPointer p)) = demand codes.TypeMismatch p (is_pointer t) ∷ demand codes.NullForNonNull p (not (is_non_null t)) ∷ []

-- the requirements on a declared name: it is new, and it is not `main` unless the declaration may define `main`
abbrev pub head_demanded : Place → (is_new is_no_main : Bool) → List Demand
head_demanded p is_new is_no_main = demand codes.DeclaredTwice p is_new ∷ demand codes.BadMain p is_no_main ∷ []

abbrev pub rule_global : Known → (before : List ℕ) → WrittenType → Named → Option GlobalValue → Rule (Unit {0})
rule_global k before w x v =
    Part (demands (global_demanded k.structs k.regions w))
    (λ u. demands (head_demanded x.place (not (is_among x.name before)) (not (nat_eq x.name k.main)) ++ value_demanded (type_written k.structs k.regions Heap w) w.place v))

-- returns true if the source writes the result type of `main` as `int`
abbrev pub is_int_written : Option WrittenType → Bool
is_int_written None = false
is_int_written (Some w) = is_int_base w.base && is_empty w.marks
  where
    is_int_base : BaseType → Bool
    is_int_base written.Int = true
    is_int_base b = false

abbrev pub is_main_head : Option WrittenType → Parameters → Bool
is_main_head r ps = is_int_written r && (is_empty (members_of ps.list) && (is_left_out ps.effect && is_empty ps.constraints))

-- the rule for the parameters of a function: each parameter's type is checked, and then its name
abbrev pub rule_parameters : Known → (own : ℕ) → (before : List ℕ) → List Member → Rule (Unit {0})
rule_parameters k own before [] = gives tt
rule_parameters k own before (m ∷ ms) =
    Part (demands (type_demanded k.structs k.regions (Some own) m.of_type)) (λ u. Part (rule_new before m.name) (λ v. rule_parameters k own (m.name.name ∷ before) ms))

abbrev pub result_demanded : Known → List RegionName → Option WrittenType → List Demand
result_demanded k names None = []
result_demanded k names (Some w) = type_demanded k.structs names None w

-- the requirements on each region of a written effect: it is declared, is not the unique region, and no parameter or result has the type
-- of its key
abbrev pub effect_demanded : List RegionName → List Ty → List Named → List Demand
effect_demanded names ts [] = []
effect_demanded names ts (r ∷ rs) =
    name_demanded names None r
    ∷ demand codes.RegionOrKeyMisused r.place (not (is_name_of names Unique r) && not (has_key ts (region_of names r)))
    ∷ effect_demanded names ts rs

abbrev pub rule_effect : List RegionName → List Ty → Option (List Named) → Rule (Unit {0})
rule_effect names ts None = gives tt
rule_effect names ts (Some rs) = demands (effect_demanded names ts rs)

abbrev pub constraints_demanded : List RegionName → List Constraint → List Demand
constraints_demanded names [] = []
constraints_demanded names (c ∷ cs) =
    name_demanded names None c.longer ∷ no_unique_demanded names c.longer ∷ name_demanded names None c.shorter ∷ no_unique_demanded names c.shorter ∷ constraints_demanded names cs

-- Returns true if a function's name differs from the names of all functions and globals declared before it, and from the region
-- names in scope. A function's name also names the function's region, so the name must differ from the built-in regions.
abbrev pub is_function_new : Known → (before : List ℕ) → ℕ → Bool
is_function_new k before x = not (is_among x before) && not (is_among x (region_numbers k.regions))

-- the rule for a function's signature; the result type is checked first, as written, although it may name regions that the
-- parameters declare
abbrev pub rule_function_head : Known → (before : List ℕ) → Option WrittenType → Named → Parameters → Rule (Unit {0})
rule_function_head k before r x ps =
    Part (demands (result_demanded k (parameter_naming k ps).names r))
    (λ u. Part (demands (head_demanded x.place (is_function_new k before x.name) (not (nat_eq x.name k.main) || is_main_head r ps)))
    (λ v. Part (rule_parameters k x.name [] (members_of ps.list))
    (λ w. Part (rule_effect (parameter_naming k ps).names (and_result (parameter_types k ps) (result_written k (parameter_naming k ps).names r)) ps.effect)
    (λ y. demands (constraints_demanded (parameter_naming k ps).names ps.constraints)))))

-- the names declared before a signature, in each name space (structs, exceptions, functions with globals)
pub record Before : Type 0 where
  pub structs : List ℕ
  pub exceptions : List ℕ
  -- the names of the functions and globals declared before a signature
  pub names : List ℕ

abbrev pub with_all : List Named → List ℕ → List ℕ
with_all [] known = known
with_all (x ∷ xs) known = with_all xs (x.name ∷ known)

abbrev pub after_head : Before → Declaration → Before
after_head b (StructType s rs ms) = record b { structs = s.name ∷ b.structs }
after_head b (Exceptions cs) = record b { exceptions = with_all (constructor_names cs) b.exceptions }
after_head b (Global w x v) = record b { names = x.name ∷ b.names }
after_head b (Function r x ps c) = record b { names = x.name ∷ b.names }

abbrev pub rule_declaration : Known → Before → Declaration → Rule (Unit {0})
rule_declaration k b (StructType s rs ms) = rule_struct k b.structs s rs ms
rule_declaration k b (Exceptions cs) = demands (distinct_demanded b.exceptions (constructor_names cs))
rule_declaration k b (Global w x v) = rule_global k b.names w x v
rule_declaration k b (Function r x ps c) = rule_function_head k b.names r x ps

abbrev pub rule_declarations : Known → Before → List Declaration → Rule (Unit {0})
rule_declarations k b [] = gives tt
rule_declarations k b (d ∷ ds) = Part (rule_declaration k b d) (λ u. rule_declarations k (after_head b d) ds)

-- returns true if a function or a global named `main` is declared
abbrev pub declares : ℕ → List Declaration → Bool
declares main [] = false
declares main (StructType s rs fs ∷ ds) = declares main ds
declares main (Exceptions cs ∷ ds) = declares main ds
declares main (Global w x v ∷ ds) = nat_eq x.name main || declares main ds
declares main (Function r x ps b ∷ ds) = nat_eq x.name main || declares main ds
