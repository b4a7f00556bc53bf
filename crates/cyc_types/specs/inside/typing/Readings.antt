-- The typing rules of the whole language in their usual form: premises and a conclusion. The premises of a rule value compute to a
-- statement about trees. Each lemma in this file states one typing rule by its premises and its conclusion, and `refl` proves the lemma.
use Rattle.std.specs.Prelude.{◌≡◌, true, not, nat_eq, ◌&&◌, List, ◌++◌, Option, Some, length, refl}
use Rattle.cyc_words.specs.declared.fault.Code.TheVariants as codes
use Rattle.cyc_words.specs.declared.fault.Fault.{Fault}
use Rattle.cyc_syntax.specs.declared.tree.PrefixOperator.TheVariants as prefixes
use Rattle.cyc_syntax.specs.Symbols.{Place}
use Rattle.cyc_syntax.specs.Trees.{Named, WrittenType, Expression, UniqueRegion, NumberOfElements, FreeUnique, Prefixed, Assign, Expressions, Body, Labelled, place_of}
use Rattle.cyc_types.specs.declared.region.Region.TheVariants as regions
use Rattle.cyc_types.specs.declared.typed.Callee.{Callee}
use Rattle.cyc_types.specs.declared.typed.UnaryOperator.TheVariants as unary
use Rattle.cyc_types.specs.Types.{region_eq, Ty, result_type}
use Rattle.cyc_types.specs.TypedTrees.{Lvalue, Converted, Signature, type_of, type_of_place}
use Rattle.cyc_types.specs.TypedTrees as typed
use Rattle.cyc_types.specs.Rules.{fault_at, AllKept, Derives, Refuses}
use Rattle.cyc_types.specs.typing.Scopes.{Unknown, Routine, Scope, is_live, is_declared, is_taken, in_labelled}
use Rattle.cyc_types.specs.typing.Scopes as scopes
use Rattle.cyc_types.specs.typing.Tests.{ty_eq, is_pointer, is_unique, is_key, is_struct, is_void, is_tested, is_value, is_fat, value_of, region_of, kind_of, kind_of_value}
use Rattle.cyc_types.specs.typing.Expressions.{is_alike, is_null_allowed, is_outlived, conversion, as_int, is_readable, variable_read, read, rule_looked, Found, type_of_side, pointed, passed, passed_demanded}
use Rattle.cyc_types.specs.typing.Expressions.{pointer_to, address_of, assignment, instance_of, instantiated, variables_demanded, constraints_demanded, effect_demanded, called, rule, rule_place}
use Rattle.cyc_types.specs.typing.Statements.{swapped, local_type, rule_initial, rule_lexical, rule_statement, rule_body}

module _ (g : Scope) where
  -- ---- variables and places

  -- A variable is read by a copy, or by a move if the variable is a local that holds a unique pointer or key. A unique pointer in a
  -- global cannot be read.
  variable_typed : (l : Lvalue) (t : Ty) (home : _) (p : Place) (a : typed.Expression)
      → Derives (read (scopes.Variable l t home) p) a ≡ (((is_readable l t ≡ true) × Unit {0}) × (a ≡ variable_read l t))
  variable_typed l t home p a = refl

  unknown_refused : (p : Place) (f : Fault) → Refuses (read Unknown p) f ≡ (f ≡ fault_at codes.UnknownName p)
  unknown_refused p f = refl

  -- reading `*e` requires that the pointer's region is live, and that the target is neither a struct nor a unique pointer
  loaded_typed : (p : Place) (e : Expression) (a : typed.Expression)
      → Derives (rule g (Prefixed p prefixes.Dereference e)) a
      ≡ ((b : typed.Expression) × Derives (rule_looked g e (rule g e)) b
      × (((is_value is_pointer (type_of b) ≡ true) × ((is_live g (region_of (value_of (type_of b))) ≡ true)
      × ((not (is_struct (type_of_place (pointed g (place_of e) b).cell)) ≡ true) × ((not (is_unique (type_of_place (pointed g (place_of e) b).cell)) ≡ true) × Unit {0}))))
      × (a ≡ typed.Load (pointed g (place_of e) b).cell)))
  loaded_typed p e a = refl

  -- using `*e` as an lvalue requires only that the pointer may be dereferenced
  place_typed : (p q : Place) (e : Expression) (x : Found)
      → Derives (rule_place g p (Prefixed q prefixes.Dereference e) (rule g (Prefixed q prefixes.Dereference e))) x
      ≡ ((b : typed.Expression) × Derives (rule_looked g e (rule g e)) b
      × (((is_value is_pointer (type_of b) ≡ true) × ((is_live g (region_of (value_of (type_of b))) ≡ true) × Unit {0}))
      × (x ≡ record { side = typed.CellSide (pointed g (place_of e) b).cell; region = region_of (value_of (type_of b)) })))
  place_typed p q e x = refl

  -- `&` cannot be applied to a key, a unique pointer, or memory inside a unique object
  address_typed : (p : Place) (e : Expression) (a : typed.Expression)
      → Derives (rule g (Prefixed p prefixes.AddressOf e)) a
      ≡ ((x : Found) × Derives (rule_place g (place_of e) e (rule g e)) x
      × (((not (is_key (type_of_side x.side)) ≡ true) × ((not (is_unique (type_of_side x.side)) && not (region_eq x.region regions.Unique) ≡ true) × Unit {0}))
      × (a ≡ address_of x.side (pointer_to x))))
  address_typed p e a = refl

  -- an assignment evaluates its target first; the assigned value is converted to the target's type
  assignment_typed : (e v : Expression) (a : typed.Expression)
      → Derives (rule g (Assign e v)) a
      ≡ ((x : Found) × Derives (rule_place g (place_of e) e (rule g e)) x
      × ((b : typed.Expression) × Derives (rule g v) b
      × (((is_alike (type_of b) (type_of_side x.side) ≡ true) × ((is_null_allowed (type_of b) (type_of_side x.side) ≡ true) × ((is_outlived g.regions (type_of b) (type_of_side x.side) ≡ true) × Unit {0})))
      × (a ≡ assignment x.side b))))
  assignment_typed e v a = refl

  -- ---- other expressions

  -- the operator `!` takes an int or a pointer, and leaves a unique pointer in its local; a char operand is widened to an int
  negation_typed : (p : Place) (e : Expression) (a : typed.Expression)
      → Derives (rule g (Prefixed p prefixes.Not e)) a
      ≡ ((b : typed.Expression) × Derives (rule_looked g e (rule g e)) b × (((is_tested (type_of (as_int b)) ≡ true) × Unit {0}) × (a ≡ typed.Unary unary.Not (as_int b))))
  negation_typed p e a = refl

  length_typed : (p : Place) (e : Expression) (a : typed.Expression)
      → Derives (rule g (NumberOfElements p e)) a
      ≡ ((b : typed.Expression) × Derives (rule_looked g e (rule g e)) b × (((is_value is_fat (type_of b) ≡ true) × Unit {0}) × (a ≡ typed.NumberOfElements b)))
  length_typed p e a = refl

  freed_typed : (p : Place) (e : Expression) (a : typed.Expression)
      → Derives (rule g (FreeUnique p e)) a
      ≡ ((b : typed.Expression) × Derives (rule g e) b × (((not (is_void (type_of b)) ≡ true) × ((is_value is_unique (type_of b) ≡ true) × Unit {0})) × (a ≡ typed.FreeUnique b)))
  freed_typed p e a = refl

  -- `unique_region` is rejected outside `rnew`
  unique_region_refused : (p : Place) (f : Fault) → Refuses (rule g (UniqueRegion p)) f ≡ (f ≡ fault_at codes.RegionOrKeyMisused p)
  unique_region_refused p f = refl

  -- A call has as many arguments as the function has parameters, and each argument is converted. No region variable of a called
  -- signature denotes the unique region, the constraints hold, and the regions of the effect are live. Of all violated requirements on
  -- a call, the one with the lowest fault code is reported, and the first of several with that code.
  call_typed : (c : Callee) (s : Signature) (p : Place) (es : Expressions) (as' : List typed.Expression) (a : typed.Expression)
      → Derives (called g (Routine c s) p es as') a
      ≡ (((nat_eq (length as') (length s.parameters) ≡ true)
      × AllKept (passed_demanded g.regions es as' (instantiated (instance_of s as') s).parameters
      ++ (variables_demanded es as' s.parameters
      ++ (constraints_demanded g.regions p (instantiated (instance_of s as') s).constraints ++ effect_demanded g p (instantiated (instance_of s as') s).effect))))
      × (a ≡ typed.Call c (passed as' (instantiated (instance_of s as') s).parameters) (result_type (instantiated (instance_of s as') s).result)))
  call_typed c s p es as' a = refl

  -- ---- statements and items

  -- the left and right operands of a swap have equal types, and are not structs
  swap_typed : (p : Place) (x y : Found) (t : typed.Statement)
      → Derives (swapped p x y) t ≡ (((ty_eq (type_of_side x.side) (type_of_side y.side) && not (is_struct (type_of_side x.side)) ≡ true) × Unit {0}) × (t ≡ typed.Swap x.side y.side))
  swap_typed p x y t = refl

  -- the label of a block is a region name that is new in its function, and the name is in scope in the block
  labelled_typed : (l : Named) (b : Body) (t : typed.Statement)
      → Derives (rule_statement g (Labelled l b)) t
      ≡ ((u : Unit {0}) × (((not (is_taken g l) ≡ true) × Unit {0}) × (u ≡ tt)) × ((js : typed.Items) × Derives (rule_body (in_labelled l g) b) js × (Unit {0} × (t ≡ typed.Block g.next_region js))))
  labelled_typed l b t = refl

  -- a local's initial value is checked first; of the faults of its name and of its conversion, the one with the lowest code is reported
  local_typed : (w : WrittenType) (x : Named) (e : Expression) (c : Ty × Option Converted)
      → Derives (rule_initial g w x (Some e)) c
      ≡ ((a : typed.Expression) × Derives (rule g e) a
      × (((not (is_declared g x) ≡ true) × AllKept (conversion g.regions (type_of a) (local_type g (type_of a) w) (place_of e)))
      × (c ≡ (local_type g (type_of a) w, Some (typed.Convert (kind_of_value (type_of a)) (kind_of (local_type g (type_of a) w)) a)))))
  local_typed w x e c = refl

  -- a lexical region has a new region name, and its handle has a new local name
  region_typed : (r h : Named) (j : typed.Item)
      → Derives (rule_lexical g r h) j ≡ (((not (is_taken g r) ≡ true) × ((not (is_declared g h) ≡ true) × Unit {0})) × (j ≡ typed.DeclareRegion g.next_region g.next_local))
  region_typed r h j = refl
