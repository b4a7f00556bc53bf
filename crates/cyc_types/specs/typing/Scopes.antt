-- The meaning of names at an expression or a statement, and the numbers that identify a function's locals and regions. Identifiers and
-- region names share one numbering. Four name spaces are separate: structs, exceptions, functions with globals, and regions. (Scopes of
-- names are C's; the numbers are this project's own choice.)
use Rattle.std.specs.Prelude.{ℕ, suc, ◌+◌, Bool, true, false, nat_eq, ◌&&◌, ◌||◌, if◌then◌else◌, List, [], ◌∷◌, ◌++◌, Option, None, Some}
use Rattle.std.specs.List.{list_any}
use Rattle.cyc_syntax.specs.Symbols.{Place}
use Rattle.cyc_syntax.specs.Trees.{Named, Statement, Block, Labelled, If, IfElse, While, Try, Body, Braces, Items, NoItems, MoreItems, Item, Execute, Region, Alias, DynamicRegion, Clauses, NoClauses, Default, Case}
use Rattle.cyc_syntax.specs.Trees as written
use Rattle.cyc_types.specs.declared.region.Region.{Region as RegionCode}
use Rattle.cyc_types.specs.declared.region.Region.TheVariants as regions
use Rattle.cyc_types.specs.declared.scope.Kind.{Kind}
use Rattle.cyc_types.specs.declared.scope.Kind.TheVariants as kinds
use Rattle.cyc_types.specs.declared.typed.Callee.{Callee}
use Rattle.cyc_types.specs.Types.{Ty, Int, is_region_among}
use Rattle.cyc_types.specs.Outlives.{RegionContext, live_regions}
use Rattle.cyc_types.specs.TypedTrees.{Lvalue, Local, Signature}

-- ---- declared entities

-- a region name, and the region that the name denotes
pub record RegionName : Type 0 where
  pub name : ℕ
  pub region : RegionCode

-- a struct's name, and the number of its region parameters
pub record StructName : Type 0 where
  pub name : ℕ
  pub parameters : ℕ

-- a field of a struct; in the field's type, the i-th region parameter is region variable i
pub record Field : Type 0 where
  pub name : ℕ
  pub of_type : Ty

pub record Exception : Type 0 where
  pub name : ℕ
  pub has_int : Bool

-- the meaning of a name: unknown, an assignable variable, a region handle (not assignable), the loop counter of an array `for`, or a
-- function
pub data Meaning : Type 0 where
  Unknown : Meaning
  -- a name that denotes a variable that may be assigned; `home` is the region that contains the variable
  Variable : Lvalue → Ty → (home : RegionCode) → Meaning
  -- a name that denotes the handle declared by a `region` declaration, which may not be assigned
  Fixed : Lvalue → Ty → Meaning
  -- a name that denotes the loop counter of an array `for`, numbered by the number of enclosing `for`s; a loop counter may not be assigned
  Counter : (level : ℕ) → Meaning
  Routine : Callee → Signature → Meaning

-- the name of a function or global, and its meaning
pub record Declared : Type 0 where
  pub name : ℕ
  pub meaning : Meaning

-- the signature of a built-in function whose parameters have the given types and whose result is an int
abbrev pub signature_of_ints : List Ty → Signature
signature_of_ints ts = record { variables = 0; parameters = ts; result = Some Int; effect = []; constraints = [] }

-- the kind of construct that declares a local
pub data Sort : Type 0 where
  Ordinary : Sort
  -- the local is the handle that a `region` declaration declares
  OfRegion : Sort
  -- the local is the loop counter that an array `for` declares
  OfLoop : Sort

-- a local variable or a parameter, or the loop counter of an array `for`
pub record LocalVariable : Type 0 where
  pub name : ℕ
  -- the index of the local in its function; for the loop counter of an array `for`, the number of enclosing array `for`s
  pub number : ℕ
  pub of_type : Ty
  -- the index, among the function's regions, of the region of the block that declares the local
  pub region : ℕ
  pub sort : Sort

pub record Scope : Type 0 where
  -- the structs and exceptions of the program, indexed by the numbers that identify them, and the fields of the structs; the first
  -- exception has the number 1
  pub structs : List StructName
  pub fields : List (List Field)
  pub exceptions : List Exception
  -- the functions and globals of the program, with their meanings
  pub program : List Declared
  -- the result type of the enclosing function
  pub result : Option Ty
  -- the region names in scope, newest first
  pub names : List RegionName
  -- the region names that the function has declared so far, including those no longer in scope
  pub taken : List ℕ
  -- the live regions and the outlives constraints at the program point that is checked
  pub regions : RegionContext
  -- the locals in scope, newest first
  pub locals : List LocalVariable
  -- the numbers that will identify the next declared local and the next declared region
  pub next_local : ℕ
  pub next_region : ℕ
  -- the number that identifies the region of the innermost enclosing block
  pub region : ℕ
  pub in_loop : Bool
  -- the number of enclosing array `for`s
  pub counters : ℕ

-- ---- regions

-- the region that a name denotes, if the name is declared
abbrev pub region_among : List RegionName → ℕ → Option RegionCode
region_among [] x = None
region_among (r ∷ rs) x = if nat_eq r.name x then Some r.region else region_among rs x

abbrev pub is_taken : Scope → Named → Bool
is_taken g x = list_any (nat_eq x.name) g.taken

abbrev pub is_live : Scope → RegionCode → Bool
is_live g r = is_region_among r (live_regions g.regions.live g.regions.opened)

-- ---- the meaning of a name: the innermost local of that name, otherwise the function or global

abbrev pub meaning_in : List Declared → ℕ → Meaning
meaning_in [] x = Unknown
meaning_in (d ∷ ds) x = if nat_eq d.name x then d.meaning else meaning_in ds x

abbrev pub local_meaning : Sort → LocalVariable → Place → Meaning
local_meaning Ordinary v p = Variable (Local p v.number) v.of_type (regions.Variable v.region)
local_meaning OfRegion v p = Fixed (Local p v.number) v.of_type
local_meaning OfLoop v p = Counter v.number

abbrev pub meaning_among : List LocalVariable → List Declared → Named → Meaning
meaning_among [] ds x = meaning_in ds x.name
meaning_among (v ∷ vs) ds x = if nat_eq v.name x.name then local_meaning v.sort v x.place else meaning_among vs ds x

abbrev pub meaning_of : Scope → Named → Meaning
meaning_of g x = meaning_among g.locals g.program x

-- returns true if the block with the given region declares a local named x
abbrev pub is_declared_in : ℕ → List LocalVariable → ℕ → Bool
is_declared_in region [] x = false
is_declared_in region (v ∷ vs) x = (nat_eq v.name x && nat_eq v.region region) || is_declared_in region vs x

abbrev pub is_declared : Scope → Named → Bool
is_declared g x = is_declared_in g.region g.locals x.name

-- ---- counts of the locals and regions that a statement declares, and its region names

abbrev pub counted : Option Named → ℕ
counted None = 0
counted (Some x) = 1

abbrev mutual
  pub locals_in : Statement → ℕ
  locals_in (Block b) = body_locals b
  locals_in (Labelled l b) = body_locals b
  locals_in (If p c s) = locals_in s
  locals_in (IfElse p c s t) = locals_in s + locals_in t
  locals_in (While p c s) = locals_in s
  locals_in (Try p s cs) = locals_in s + clause_locals cs
  locals_in s = 0

  pub body_locals : Body → ℕ
  body_locals (Braces p is q) = item_locals is

  pub item_locals : Items → ℕ
  item_locals NoItems = 0
  item_locals (MoreItems i is) = one_item_locals i + item_locals is

  pub one_item_locals : Item → ℕ
  one_item_locals (Execute s) = locals_in s
  one_item_locals i = 1

  pub clause_locals : Clauses → ℕ
  clause_locals NoClauses = 0
  clause_locals (Default is) = item_locals is
  clause_locals (Case x v is cs) = counted v + item_locals is + clause_locals cs

-- The number of regions that a statement declares. Each block, labelled or not, declares one region; so does the body of each
-- catch clause. Opening a dynamic region declares none, because the region is counted where its key is declared.
abbrev mutual
  pub regions_in : Statement → ℕ
  regions_in (Block b) = suc (body_regions b)
  regions_in (Labelled l b) = suc (body_regions b)
  regions_in (If p c s) = regions_in s
  regions_in (IfElse p c s t) = regions_in s + regions_in t
  regions_in (While p c s) = regions_in s
  regions_in (Try p s cs) = regions_in s + clause_regions cs
  regions_in s = 0

  pub body_regions : Body → ℕ
  body_regions (Braces p is q) = item_regions is

  pub item_regions : Items → ℕ
  item_regions NoItems = 0
  item_regions (MoreItems i is) = one_item_regions i + item_regions is

  pub one_item_regions : Item → ℕ
  one_item_regions (Execute s) = regions_in s
  one_item_regions (written.Local t x v) = 0
  one_item_regions (Region r h None) = 1
  one_item_regions (Region r h (Some k)) = 0
  one_item_regions (Alias r t x y) = 1
  one_item_regions (DynamicRegion r k) = 1

  pub clause_regions : Clauses → ℕ
  clause_regions NoClauses = 0
  clause_regions (Default is) = suc (item_regions is)
  clause_regions (Case x v is cs) = suc (item_regions is) + clause_regions cs

-- the region names that a statement declares, newest first
abbrev mutual
  pub names_in : Statement → List ℕ
  names_in (Block b) = body_names b
  names_in (Labelled l b) = body_names b ++ l.name ∷ []
  names_in (If p c s) = names_in s
  names_in (IfElse p c s t) = names_in t ++ names_in s
  names_in (While p c s) = names_in s
  names_in (Try p s cs) = clause_names cs ++ names_in s
  names_in s = []

  pub body_names : Body → List ℕ
  body_names (Braces p is q) = item_names is

  pub item_names : Items → List ℕ
  item_names NoItems = []
  item_names (MoreItems i is) = item_names is ++ one_item_names i

  pub one_item_names : Item → List ℕ
  one_item_names (Execute s) = names_in s
  one_item_names (written.Local t x v) = []
  one_item_names (Region r h None) = r.name ∷ []
  one_item_names (Region r h (Some k)) = []
  one_item_names (Alias r t x y) = r.name ∷ []
  one_item_names (DynamicRegion r k) = r.name ∷ []

  pub clause_names : Clauses → List ℕ
  clause_names NoClauses = []
  clause_names (Default is) = item_names is
  clause_names (Case x v is cs) = clause_names cs ++ item_names is

-- ---- scopes

-- the scope after a statement: the statement's declarations are out of scope; the numbers that identify its locals and regions, and
-- its region names, are not reused
abbrev pub following : Scope → Statement → Scope
following g s = record g { next_local = g.next_local + locals_in s; next_region = g.next_region + regions_in s; taken = names_in s ++ g.taken }

-- the region context in which one more scope, with the given region, is open
abbrev pub with_scope : Kind → RegionCode → RegionContext → RegionContext
with_scope k r c = record c { opened = record { region = r; kind = k } ∷ c.opened }

-- the scope inside a block that begins in the given scope
abbrev pub in_block : Scope → Scope
in_block g = record g { region = g.next_region; next_region = suc g.next_region; regions = with_scope kinds.Block (regions.Variable g.next_region) g.regions }

-- the scope in which the given name denotes the region with the next free number
abbrev pub with_name : Named → Scope → Scope
with_name r g = record g { names = record { name = r.name; region = regions.Variable g.next_region } ∷ g.names; taken = r.name ∷ g.taken }

-- the scope inside a block that has a label
abbrev pub in_labelled : Named → Scope → Scope
in_labelled l g = in_block (with_name l g)

-- the scope inside the body of a loop, in which `break` and `continue` are allowed
abbrev pub in_body : Scope → Scope
in_body g = record g { in_loop = true }

-- the scope after a local has been declared
abbrev pub with_local : Sort → Named → Ty → Scope → Scope
with_local s x t g = record g {
  locals = record { name = x.name; number = g.next_local; of_type = t; region = g.region; sort = s } ∷ g.locals;
  next_local = suc g.next_local;
}

-- the scope inside the element expression of an array `for` with the given counter variable
abbrev pub with_counter : Named → Scope → Scope
with_counter x g = record g {
  locals = record { name = x.name; number = g.counters; of_type = Int; region = g.region; sort = OfLoop } ∷ g.locals;
  counters = suc g.counters;
}

-- the scope after a declaration that declares a region with a name and opens it
abbrev pub with_opened : Kind → Named → Scope → Scope
with_opened k r g = record (with_name r g) { next_region = suc g.next_region; regions = with_scope k (regions.Variable g.next_region) g.regions }

-- the scope after a declaration that declares a region with a name without opening it
abbrev pub with_region : Named → Scope → Scope
with_region r g = record (with_name r g) { next_region = suc g.next_region }

-- the scope after a declaration that opens the region of a key
abbrev pub with_key_opened : RegionCode → Scope → Scope
with_key_opened r g = record g { regions = with_scope kinds.Dynamic r g.regions }
