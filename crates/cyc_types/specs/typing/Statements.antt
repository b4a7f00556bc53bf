-- The typing rules of statements, of declarations in blocks and of catch clauses. Statements are checked in order, and the components of a
-- declaration (types, names and values) in the order of the source. The initial value of a local is checked before the local's name.
-- (Lexical and dynamic regions and aliases are Cyclone's, Grossman et al. 2002 and the User's Manual, 1.0. Codes, positions and their order
-- are this project's own choice.)
use Rattle.std.specs.Prelude.{ℕ, suc, ◌+◌, Bool, true, false, not, nat_eq, ◌&&◌, ◌||◌, if◌then◌else◌, List, [], ◌∷◌, ◌++◌, Option, Some, None, is_some, option_map}
use Rattle.std.specs.List.{list_any}
use Rattle.cyc_words.specs.declared.fault.Code.TheVariants as codes
use Rattle.cyc_syntax.specs.Symbols.{Place}
use Rattle.cyc_syntax.specs.Trees.{Named, WrittenType, Expression, Statement, Block, Labelled, Empty, Evaluate, Swap, If, IfElse, While, Return, Break, Continue, Throw, Try}
use Rattle.cyc_syntax.specs.Trees.{Body, Braces, Items, NoItems, MoreItems, Item, Execute, Local, Region, Alias, DynamicRegion, Clauses, NoClauses, Default, Case, place_of}
use Rattle.cyc_types.specs.declared.region.Region.{Region as RegionCode}
use Rattle.cyc_types.specs.declared.region.Region.TheVariants as regions
use Rattle.cyc_types.specs.declared.scope.Kind.TheVariants as kinds
use Rattle.cyc_types.specs.Types.{region_eq, Ty, Int, Pointer, Handle, Key, ValueType, Value}
use Rattle.cyc_types.specs.TypedTrees.{Lvalue, Global, Converted, type_of}
use Rattle.cyc_types.specs.TypedTrees as typed
use Rattle.cyc_types.specs.Rules.{fault_at, Demand, demand, Rule, Refused, Own, Part, gives, demands}
use Rattle.cyc_types.specs.typing.Scopes.{Exception, Meaning, Unknown, Fixed, Counter, Routine, Ordinary, OfRegion, Scope, is_taken, is_declared, meaning_of, counted, item_locals}
use Rattle.cyc_types.specs.typing.Scopes.{item_regions, item_names, following, in_block, with_name, in_labelled, in_body, with_local, with_opened, with_region, with_key_opened}
use Rattle.cyc_types.specs.typing.Scopes as scopes
use Rattle.cyc_types.specs.typing.Tests.{is_left_out, ty_eq, is_unique, is_key, is_struct, is_int, region_of}
use Rattle.cyc_types.specs.typing.Formation.{is_known, type_written, type_demanded}
use Rattle.cyc_types.specs.typing.Formation as formation
use Rattle.cyc_types.specs.typing.Expressions.{conversion, converted, as_int, test_wanted, rule_looked, Found, type_of_side, rule, rule_place}

abbrev pub rule_condition : Scope → Expression → Rule typed.Expression
rule_condition g e = Part (rule_looked g e (rule g e)) (λ a. Own (test_wanted (type_of (as_int a)) (place_of e) ∷ []) (as_int a))

-- The rule for a returned value: a function returns a value exactly if it has a result type. `return` is at source position p, the
-- value at source position q.
abbrev pub returned : Scope → Option Ty → Place → Place → typed.Expression → Rule (Option Converted)
returned g None p q a = Refused (fault_at codes.TypeMismatch p)
returned g (Some t) p q a = Own (conversion g.regions (type_of a) t q) (Some (converted a t))

abbrev pub rule_returned : Scope → Place → Option Expression → Rule (Option Converted)
rule_returned g p None = Own (demand codes.TypeMismatch p (is_left_out g.result) ∷ []) None
rule_returned g p (Some e) = Part (rule g e) (λ a. returned g g.result p (place_of e) a)

-- the rule for `break` and `continue`, which are allowed only in a loop
abbrev pub in_loop_alone : Scope → Place → typed.Statement → Rule typed.Statement
in_loop_alone g p s = Own (demand codes.OutsideLoop p g.in_loop ∷ []) s

-- The rule for a swap: its left and right operands have the same type, which is not a struct type. A fault of the swap has the
-- source position where the left operand begins.
abbrev pub swapped : Place → Found → Found → Rule typed.Statement
swapped p x y =
    Own (demand codes.TypeMismatch p (ty_eq (type_of_side x.side) (type_of_side y.side) && not (is_struct (type_of_side x.side))) ∷ []) (typed.Swap x.side y.side)

-- ---- exceptions

-- the number that identifies the exception named x
abbrev pub exception_number : List Exception → ℕ → ℕ
exception_number [] x = 1
exception_number (e ∷ es) x = if nat_eq e.name x then 1 else suc (exception_number es x)

abbrev pub exception_among : List Exception → ℕ → Option Bool
exception_among [] x = None
exception_among (e ∷ es) x = if nat_eq e.name x then Some e.has_int else exception_among es x

-- returns true if a throw gives an int exactly if its exception is declared with an int
abbrev pub is_given : (declared given : Bool) → Bool
is_given declared given = if declared then given else not given

abbrev pub rule_thrown : Scope → Option Expression → Rule (Option typed.Expression)
rule_thrown g None = gives None
rule_thrown g (Some e) = Part (rule g e) (λ a. gives (Some (as_int a)))

-- the requirement that a thrown exception has an int in parentheses exactly if it is declared with one
abbrev pub thrown_demanded : (has_int : Bool) → Place → Option Expression → Option typed.Expression → List Demand
thrown_demanded has p (Some e) (Some a) = demand codes.TypeMismatch p has ∷ demand codes.TypeMismatch (place_of e) (is_int (type_of a)) ∷ []
thrown_demanded has p v a = demand codes.TypeMismatch p (not has) ∷ []

abbrev pub thrown : Scope → Option Bool → Named → Option Expression → Option typed.Expression → Rule typed.Statement
thrown g None x v a = Refused (fault_at codes.UnknownName x.place)
thrown g (Some has) x v a = Own (thrown_demanded has x.place v a) (typed.Throw (exception_number g.exceptions x.name) a)

-- the rule for a catch clause: no earlier clause catches the exception, and the clause receives an int exactly if the
-- exception is declared with one
abbrev pub caught : Scope → Option Bool → (before : List ℕ) → Named → Option Named → Rule ℕ
caught g None before x v = Refused (fault_at codes.UnknownName x.place)
caught g (Some has) before x v =
    Own (demand codes.DeclaredTwice x.place (not (list_any (nat_eq x.name) before)) ∷ demand codes.TypeMismatch x.place (is_given has (is_some v)) ∷ [])
    (exception_number g.exceptions x.name)

-- the scope inside the body of a catch clause: a block with the local that receives the exception's int, if any
abbrev pub with_caught : Option Named → Scope → Scope
with_caught None g = g
with_caught (Some v) g = with_local Ordinary v Int g

-- the scope after a catch clause
abbrev pub after_clause : Scope → (locals : ℕ) → Items → Scope
after_clause g n is = record g { next_local = g.next_local + (n + item_locals is); next_region = g.next_region + suc (item_regions is); taken = item_names is ++ g.taken }

-- ---- items

-- the requirement that the name of a new local is not yet declared in its block
abbrev pub new_demanded : Scope → Named → Demand
new_demanded g x = demand codes.DeclaredTwice x.place (not (is_declared g x))

abbrev pub new_name_demanded : Scope → Named → Demand
new_name_demanded g r = demand codes.DeclaredTwice r.place (not (is_taken g r))

-- the default for a local's omitted outermost region: the region of its initial value, if this value is a pointer
abbrev pub left_out_of : ValueType → RegionCode
left_out_of (Value (Pointer k t r)) = r
left_out_of t = regions.Heap

abbrev pub local_type : Scope → ValueType → WrittenType → Ty
local_type g v w = type_written g.structs g.names (left_out_of v) w

-- The rule for a local whose initial value is at source position p. Of the faults of the local's name and of the value's conversion, the
-- one with the lowest code is reported.
abbrev pub initialised : Scope → Named → Place → typed.Expression → Ty → Rule (Ty × Option Converted)
initialised g x p a t = Own (new_demanded g x ∷ conversion g.regions (type_of a) t p) (t, Some (converted a t))

-- the rule for the type of a declared local and its optional initial value
abbrev pub rule_initial : Scope → WrittenType → Named → Option Expression → Rule (Ty × Option Converted)
rule_initial g w x None = Own (new_demanded g x ∷ []) (type_written g.structs g.names regions.Heap w, None)
rule_initial g w x (Some e) = Part (rule g e) (λ a. initialised g x (place_of e) a (local_type g (type_of a) w))

abbrev pub rule_local : Scope → WrittenType → Named → Option Expression → Rule typed.Item
rule_local g w x v =
    Part (demands (type_demanded g.structs g.names None w)) (λ u. Part (rule_initial g w x v) (λ c. gives (typed.Declare g.next_local c.0 c.1)))

-- the rule for the declaration of a lexical region and its handle
abbrev pub rule_lexical : Scope → Named → Named → Rule typed.Item
rule_lexical g r h = Own (new_name_demanded g r ∷ new_demanded g h ∷ []) (typed.DeclareRegion g.next_region g.next_local)

-- the rule for the declaration of a dynamic region and its key
abbrev pub rule_dynamic : Scope → Named → Named → Rule typed.Item
rule_dynamic g r k = Own (new_name_demanded g r ∷ new_demanded g k ∷ []) (typed.DeclareKey g.next_region g.next_local)

abbrev pub number_of_region : RegionCode → ℕ
number_of_region (regions.Variable n) = n
number_of_region r = 0

-- the number that identifies a variable that is a local; for a variable that is a global, an arbitrary number
abbrev pub local_number : Lvalue → ℕ
local_number (typed.Local p n) = n
local_number (Global n) = 0

-- The requirements on opening a region r by the variable that a name denotes: the variable is a key, and r is the key's region.
-- If the variable is not a key, the key's region is not checked.
abbrev pub open_demanded : Scope → (r h : Named) → Place → Ty → List Demand
open_demanded g r h p t =
    new_demanded g h
    ∷ demand codes.RegionOrKeyMisused r.place (not (is_key t) || region_eq (formation.region_of g.names r) (region_of t))
    ∷ demand codes.RegionOrKeyMisused p (is_key t)
    ∷ []

abbrev pub opened : Scope → (r h : Named) → Meaning → Place → Rule typed.Item
opened g r h Unknown p = Refused (fault_at codes.UnknownName p)
opened g r h (scopes.Variable l t home) p = Own (open_demanded g r h p t) (typed.OpenRegion (number_of_region (region_of t)) g.next_local p (local_number l))
opened g r h (Fixed l t) p = Own (open_demanded g r h p t) (typed.OpenRegion 0 g.next_local p (local_number l))
opened g r h (Counter n) p = Own (open_demanded g r h p Int) (typed.OpenRegion 0 g.next_local p 0)
opened g r h (Routine f s) p = Refused (fault_at codes.TypeMismatch p)

abbrev pub rule_opened : Scope → (r h k : Named) → Rule typed.Item
rule_opened g r h k = Part (demands (demand codes.UnknownName r.place (is_known g.names r) ∷ [])) (λ u. opened g r h (meaning_of g k) k.place)

-- replaces the region of a pointer type by the region r
abbrev pub with_region_of : RegionCode → Ty → Ty
with_region_of r (Pointer k t s) = Pointer k t r
with_region_of r t = t

-- returns true if a variable is a local; any other variable is a global, whose unique pointer is shared by all functions
abbrev pub is_local : Lvalue → Bool
is_local (typed.Local p n) = true
is_local (Global n) = false

-- The requirements on an alias: its written type is that of the variable whose object it shares, except for the new region. If the
-- alias's type omits its region, the region is that of the shared value.
abbrev pub alias_demanded : Scope → Named → WrittenType → (written : Ty) → (is_shared : Bool) → Ty → Place → List Demand
alias_demanded g x w u shared t p =
    new_demanded g x
    ∷ demand codes.TypeMismatch w.place (not (is_unique t) || ty_eq u (with_region_of (regions.Variable g.next_region) t))
    ∷ demand codes.UniqueShared p (not shared)
    ∷ demand codes.RegionOrKeyMisused p (is_unique t)
    ∷ []

abbrev pub alias_type : Scope → Named → WrittenType → Ty → Ty
alias_type g r w t = type_written g.structs (with_name r g).names (region_of t) w

abbrev pub aliased : Scope → (r x : Named) → WrittenType → Meaning → Place → Rule typed.Item
aliased g r x w Unknown p = Refused (fault_at codes.UnknownName p)
aliased g r x w (scopes.Variable l t home) p =
    Own (alias_demanded g x w (alias_type g r w t) (is_unique t && not (is_local l)) t p) (typed.DeclareAlias g.next_region g.next_local (alias_type g r w t) p (local_number l))
aliased g r x w (Fixed l t) p = Own (alias_demanded g x w (alias_type g r w t) false t p) (typed.DeclareAlias g.next_region g.next_local t p (local_number l))
aliased g r x w (Counter n) p = Own (alias_demanded g x w (alias_type g r w Int) false Int p) (typed.DeclareAlias g.next_region g.next_local Int p 0)
aliased g r x w (Routine f s) p = Refused (fault_at codes.TypeMismatch p)

abbrev pub rule_alias : Scope → Named → WrittenType → (x y : Named) → Rule typed.Item
rule_alias g r w x y =
    Part (demands (new_name_demanded g r ∷ []))
    (λ u. Part (demands (type_demanded g.structs (with_name r g).names None w)) (λ v. aliased g r x w (meaning_of g y) y.place))

-- the type of the local that a typed declaration in a block declares
abbrev pub declared_type : typed.Item → Ty
declared_type (typed.Declare n t v) = t
declared_type (typed.DeclareAlias r n t p m) = t
declared_type i = Int

-- The scope after a declaration or statement of a block, from its typed tree. A local that a block's declaration declares is in
-- scope after it. A region that a declaration declares is open after it, unless it is the region of a new key.
abbrev pub following_item : Scope → Item → typed.Item → Scope
following_item g (Execute s) j = following g s
following_item g (Local w x v) j = with_local Ordinary x (declared_type j) g
following_item g (Region r h None) j = with_local OfRegion h (Handle (regions.Variable g.next_region)) (with_opened kinds.Lexical r g)
following_item g (Region r h (Some k)) j = with_local OfRegion h (Handle (formation.region_of g.names r)) (with_key_opened (formation.region_of g.names r) g)
following_item g (Alias r w x y) j = with_local Ordinary x (declared_type j) (with_opened kinds.Alias r g)
following_item g (DynamicRegion r k) j = with_local Ordinary k (Key (regions.Variable g.next_region)) (with_region r g)

-- ---- all forms

abbrev mutual
  pub rule_statement : Scope → Statement → Rule typed.Statement
  rule_statement g (Block b) = Part (rule_body (in_block g) b) (λ js. gives (typed.Block g.next_region js))
  rule_statement g (Labelled l b) =
      Part (demands (new_name_demanded g l ∷ [])) (λ u. Part (rule_body (in_labelled l g) b) (λ js. gives (typed.Block g.next_region js)))
  rule_statement g (Empty p) = gives typed.Empty
  rule_statement g (Evaluate e) = Part (rule g e) (λ a. gives (typed.Evaluate a))
  rule_statement g (Swap a b) =
      Part (rule_place g (place_of a) a (rule g a)) (λ x. Part (rule_place g (place_of b) b (rule g b)) (λ y. swapped (place_of a) x y))
  rule_statement g (If p e t) = Part (rule_condition g e) (λ a. Part (rule_statement g t) (λ b. gives (typed.If a b typed.Empty)))
  rule_statement g (IfElse p e t u) =
      Part (rule_condition g e) (λ a. Part (rule_statement g t) (λ b. Part (rule_statement (following g t) u) (λ c. gives (typed.If a b c))))
  rule_statement g (While p e t) = Part (rule_condition g e) (λ a. Part (rule_statement (in_body g) t) (λ b. gives (typed.While p a b)))
  rule_statement g (Return p v) = Part (rule_returned g p v) (λ c. gives (typed.Return c))
  rule_statement g (Break p) = in_loop_alone g p typed.Break
  rule_statement g (Continue p) = in_loop_alone g p typed.Continue
  rule_statement g (Throw p x v) = Part (rule_thrown g v) (λ a. thrown g (exception_among g.exceptions x.name) x v a)
  rule_statement g (Try p t cs) = Part (rule_statement g t) (λ b. Part (rule_clauses (following g t) [] cs) (λ ds. gives (typed.Try b ds)))

  pub rule_body : Scope → Body → Rule typed.Items
  rule_body g (Braces p is q) = rule_items g is

  pub rule_items : Scope → Items → Rule typed.Items
  rule_items g NoItems = gives typed.NoItems
  rule_items g (MoreItems i is) = Part (rule_item g i) (λ j. Part (rule_items (following_item g i j) is) (λ js. gives (typed.MoreItems j js)))

  pub rule_item : Scope → Item → Rule typed.Item
  rule_item g (Execute s) = Part (rule_statement g s) (λ t. gives (typed.Execute t))
  rule_item g (Local w x v) = rule_local g w x v
  rule_item g (Region r h None) = rule_lexical g r h
  rule_item g (Region r h (Some k)) = rule_opened g r h k
  rule_item g (Alias r w x y) = rule_alias g r w x y
  rule_item g (DynamicRegion r k) = rule_dynamic g r k

  -- the rule for the clauses of a catch; `before` lists the exceptions that earlier clauses catch
  pub rule_clauses : Scope → (before : List ℕ) → Clauses → Rule typed.Clauses
  rule_clauses g before NoClauses = gives typed.NoClauses
  rule_clauses g before (Default is) = Part (rule_items (in_block g) is) (λ js. gives (typed.Default g.next_region js))
  rule_clauses g before (Case x v is cs) =
      Part (caught g (exception_among g.exceptions x.name) before x v)
      (λ n. Part (rule_items (with_caught v (in_block g)) is)
      (λ js. Part (rule_clauses (after_clause g (counted v) is) (x.name ∷ before) cs)
      (λ ds. gives (typed.Case n (option_map (λ (y : Named). g.next_local) v) g.next_region js ds))))
