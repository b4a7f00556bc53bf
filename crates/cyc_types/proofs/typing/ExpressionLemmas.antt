-- The typing rules of expressions and of lvalues derive only well-typed trees.
use Rattle.std.proofs.Common.{◌≡◌, ◌≢◌, ◌⊎◌, ℕ, zero, suc, ◌+◌, ◌<◌, ◌≤◌, Bool, true, false, cond, not, nat_eq, ◌&&◌, ◌||◌, List, [], ◌∷◌, ◌++◌, Option, Some, None, map, length, slice_get, inl, inr, refl, sym, ap, subst, ◌∙◌, arith}
use Rattle.std.specs.Prelude.{Contains, is_some, unwrap_or}
use Rattle.std.specs.List.{list_any}
use Rattle.std.proofs.lemmas.Bool.{and_parts, eqb-true, true≢false, not-true}
use Rattle.std.proofs.lemmas.List.{length-map, length-replicate}
use Rattle.cyc_words.proofs.Booleans.{or_false_parts, some_there}
use Rattle.cyc_words.proofs.Searches.{any-true}
use Rattle.cyc_syntax.specs.declared.tree.PointerKind.{PointerKind}
use Rattle.cyc_syntax.specs.declared.tree.PointerKind.TheVariants as marks
use Rattle.cyc_syntax.specs.declared.tree.PrefixOperator.TheVariants as prefixes
use Rattle.cyc_syntax.specs.declared.tree.BinaryOperator.{BinaryOperator}
use Rattle.cyc_syntax.specs.declared.tree.BinaryOperator.TheVariants as operators
use Rattle.cyc_syntax.specs.Symbols.{Place}
use Rattle.cyc_syntax.specs.Trees.{Named, Expression, Number, Character, Null, HeapRegion, UniqueRegion, Variable, Call, Bracketed, NumberOfElements, LowByteOf, FreeUnique, FreeKey, Chained, Prefixed, New, RegionNew}
use Rattle.cyc_syntax.specs.Trees.{Binary, Assign, Initial, Plain, Fields, Array, Expressions, NoExpressions, MoreExpressions, Postfixes, NoPostfixes, ThenIndex, ThenField, Operations, NoOperations, ThenOperation, place_of}
use Rattle.cyc_types.specs.declared.region.Region.{Region}
use Rattle.cyc_types.specs.declared.region.Region.TheVariants as regions
use Rattle.cyc_types.specs.declared.typed.Callee.{Callee}
use Rattle.cyc_types.specs.declared.typed.Callee.TheVariants as callees
use Rattle.cyc_types.specs.declared.typed.UnaryOperator.TheVariants as unary
use Rattle.cyc_types.specs.declared.typed.Operator.{Operator}
use Rattle.cyc_types.specs.declared.typed.Operator.TheVariants as binary
use Rattle.cyc_types.specs.declared.typed.LogicalOperator.{LogicalOperator}
use Rattle.cyc_types.specs.declared.typed.LogicalOperator.TheVariants as logical
use Rattle.cyc_types.specs.declared.typed.PointerOperator.{PointerOperator}
use Rattle.cyc_types.specs.declared.typed.PointerOperator.TheVariants as pointers
use Rattle.cyc_types.specs.Types.{region_eq, Ty, Int, Char, Pointer, Handle, Key, Struct, ValueType, Void, Value, substituted_ty}
use Rattle.cyc_types.specs.Types as types
use Rattle.cyc_types.specs.Outlives.{OutlivesIn, live_regions, names_no_unique}
use Rattle.cyc_types.specs.Closure.{is_outliving, names_no_unique_scope}
use Rattle.cyc_types.specs.TypedTrees.{Lvalue, Side, VariableSide, CellSide, Signature, type_of, type_of_place}
use Rattle.cyc_types.specs.TypedTrees as typed
use Rattle.cyc_types.specs.Rules.{AllKept, Rule, Derives}
use Rattle.cyc_types.specs.typing.Scopes.{signature_of_ints, RegionName, Field, Sort, Ordinary, OfRegion, OfLoop, Meaning, Unknown, Fixed, Counter, Routine, Declared, LocalVariable, Scope, is_live, local_meaning, meaning_in, meaning_among, meaning_of, with_counter}
use Rattle.cyc_types.specs.typing.Scopes as scopes
use Rattle.cyc_types.specs.typing.Tests.{ty_eq, is_thin_mark, is_pointer, is_non_null, is_unique, is_key, is_struct, is_moved, is_int, is_char, is_value, is_fat, is_handle, value_of, target_of, region_of, struct_of, arguments_of, kind_of, kind_of_value}
use Rattle.cyc_types.specs.typing.Formation.{struct_number, parameters_among, arguments_or, is_count, struct_demanded}
use Rattle.cyc_types.specs.typing.Formation as formation
use Rattle.cyc_types.specs.typing.Expressions.{is_alike, is_null_allowed, is_outlived, conversion, converted, passed, passed_demanded, as_int, is_any, is_readable, variable_read, read, looked, rule_looked, Found, type_of_side, place_meant, Reached, pointed}
use Rattle.cyc_types.specs.typing.Expressions.{indexed, has_members, fields_of, field_number, field_among, field_type, selected, content_demanded, loaded, reached, address_of, addressed, place_inside, assignment, assigned, is_looking, is_looking_first, operand}
use Rattle.cyc_types.specs.typing.Expressions.{Joined, peeked_local, is_movable, ints_joined, tests_joined, sums_joined, equality_joined, then_pointer, then_added, are_compared, is_compared_live, null_test, null_tested, thin_test, then_compared, joined}
use Rattle.cyc_types.specs.typing.Expressions.{paired_argument, paired_arguments, first_place, first_places, instance_of, instantiated, is_unique_for_variable, variables_demanded, constraints_demanded, effect_demanded, called, freed, key_freed, Placed, Made}
use Rattle.cyc_types.specs.typing.Expressions.{on_heap, by_handle, rule_placement, plain_made, array_made, field_types, arguments_written, fields_known, fields_made, created, rule, rule_all, rule_chain, rule_place, rule_postfixed, rule_further, rule_made}
use Rattle.cyc_types.specs.typing.Statements.{exception_number, exception_among}
use Rattle.cyc_types.specs.typing.WellTyped.{LocalInScope, Context, IsLive, AreLive, AreOutliving, HasLocal, HasPlace, IsVariable, IsPlace, IsCallee, AreNotUnique, Converts, IsPeek, PointerOperation, adds, subtracts}
use Rattle.cyc_types.specs.typing.WellTyped.{equals, differs, thin_null, thin_there, fat_null, fat_there, null_is, null_is_not, IsLeft, WellTyped, IsConverted, ArePassed, IsCell, IsPlacement, IsMade, IsChain, signature_of}
use Rattle.cyc_types.specs.typing.WellTyped as judgement
use Rattle.cyc_types.proofs.RegionLemmas.{region_eq-true}
use Rattle.cyc_types.proofs.ClosureLemmas.{outliving-sound}
use Rattle.cyc_types.proofs.typing.TestLemmas.{kept_append, ty_eq-true, int_of, char_of, unique_of, fat_of, not_moved, other_region}

-- ---- lists

-- says that a list of source expressions and a list of typed expressions have equal lengths
abbrev pub Aligned : Expressions → List typed.Expression → Type 0
Aligned NoExpressions [] = Unit {0}
Aligned (MoreExpressions e es) (a ∷ as') = Aligned es as'
Aligned es as' = ⊥

pub aligned : (g : Scope) (es : Expressions) (as' : List typed.Expression) → Derives (rule_all g es) as' → Aligned es as'
aligned g NoExpressions as' (u, eq) = subst (Aligned NoExpressions) (sym eq) tt
aligned g (MoreExpressions e es) as' (a, h, (bs, hs, (u, eq))) = subst (Aligned (MoreExpressions e es)) (sym eq) (aligned g es bs hs)

-- if looking up a struct's field by its name finds type t, looking up the field's index also finds type t
field_there : (fs : List Field) (x : ℕ) (t : Ty) → field_among fs x ≡ Some t → slice_get (map (λ (f : Field). f.of_type) fs) (field_number fs x) ≡ Some t
field_there [] x t h = absurd (cc)
field_there (f ∷ fs) x t h = go (nat_eq f.name x) h (field_there fs x t)
  where
    go : (b : Bool) → cond b (Some f.of_type) (field_among fs x) ≡ Some t → (field_among fs x ≡ Some t → slice_get (map (λ (f : Field). f.of_type) fs) (field_number fs x) ≡ Some t)
        → slice_get (map (λ (f : Field). f.of_type) (f ∷ fs)) (cond b 0 (suc (field_number fs x))) ≡ Some t
    go true e rest = e
    go false e rest = rest e

abbrev pub in_scope_of : Sort → LocalVariable → List LocalInScope → List LocalInScope
in_scope_of Ordinary v vs = record { number = v.number; of_type = v.of_type; region = v.region; is_place = true } ∷ vs
in_scope_of OfRegion v vs = record { number = v.number; of_type = v.of_type; region = v.region; is_place = false } ∷ vs
in_scope_of OfLoop v vs = vs

-- the locals in scope, without the loop counters of array `for` initializers
abbrev pub in_scope : List LocalVariable → List LocalInScope
in_scope [] = []
in_scope (v ∷ vs) = in_scope_of v.sort v (in_scope vs)

-- says that a key type has a region variable as its region
abbrev pub IsKeyOfVariable : Ty → Type 0
IsKeyOfVariable (Key (regions.Variable n)) = Unit {0}
IsKeyOfVariable (Key r) = ⊥
IsKeyOfVariable t = Unit {0}

module _ (p : typed.Program) (h : typed.Function) where
  abbrev pub all_variables : List Ty
  all_variables = h.parameters ++ h.locals

  abbrev pub all_globals : List Ty
  all_globals = map (λ (g : typed.GlobalVariable). g.of_type) p.globals

  -- the typing context at which a tree in the given scope is checked
  abbrev pub at : Scope → Context
  at g = record {
    structs = p.structs;
    exceptions = p.exceptions;
    globals = all_globals;
    functions = map signature_of p.functions;
    variables = all_variables;
    region_count = h.regions;
    result = h.result;
    locals = in_scope g.locals;
    next_local = g.next_local;
    next_region = g.next_region;
    region = g.region;
    regions = g.regions;
    in_loop = g.in_loop;
    counters = g.counters;
  }

  -- ---- names

  abbrev pub IsMeantCallee : Callee → Signature → Type 0
  IsMeantCallee callees.Putchar s = s ≡ signature_of_ints (Int ∷ [])
  IsMeantCallee callees.Getchar s = s ≡ signature_of_ints []
  IsMeantCallee (callees.Function n) s = slice_get (map signature_of p.functions) n ≡ Some s

  -- says that the variable, loop counter or function that a name denotes exists, given the locals in scope and the
  -- number of enclosing array `for`s
  abbrev pub IsMeant : List LocalInScope → ℕ → Meaning → Type 0
  IsMeant vs n Unknown = Unit {0}
  IsMeant vs n (scopes.Variable (typed.Local q m) t home) = ((r : ℕ) × HasPlace vs m t r × (home ≡ regions.Variable r)) × (slice_get all_variables m ≡ Some t) × IsKeyOfVariable t
  IsMeant vs n (scopes.Variable (typed.Global m) t home) = (home ≡ regions.Heap) × (slice_get all_globals m ≡ Some t) × (is_key t ≡ false)
  IsMeant vs n (Fixed (typed.Local q m) t) = ((r : ℕ) × HasLocal vs m t r) × (slice_get all_variables m ≡ Some t) × (is_moved t ≡ false)
  IsMeant vs n (Fixed (typed.Global m) t) = ⊥
  IsMeant vs n (Counter l) = l < n
  IsMeant vs n (Routine f s) = IsMeantCallee f s

  -- says that the meaning of a name is a declared function or global
  abbrev pub IsMeantDeclared : Meaning → Type 0
  IsMeantDeclared Unknown = Unit {0}
  IsMeantDeclared (scopes.Variable (typed.Local q m) t home) = ⊥
  IsMeantDeclared (scopes.Variable (typed.Global m) t home) = (home ≡ regions.Heap) × (slice_get all_globals m ≡ Some t) × (is_key t ≡ false)
  IsMeantDeclared (Fixed l t) = ⊥
  IsMeantDeclared (Counter l) = ⊥
  IsMeantDeclared (Routine f s) = IsMeantCallee f s

  abbrev pub IsKnownLocal : ℕ → Sort → LocalVariable → Type 0
  IsKnownLocal n Ordinary v = (slice_get all_variables v.number ≡ Some v.of_type) × IsKeyOfVariable v.of_type
  IsKnownLocal n OfRegion v = (slice_get all_variables v.number ≡ Some v.of_type) × (is_moved v.of_type ≡ false)
  IsKnownLocal n OfLoop v = v.number < n

  abbrev pub AreKnown : ℕ → List LocalVariable → Type 0
  AreKnown n [] = Unit {0}
  AreKnown n (v ∷ vs) = IsKnownLocal n v.sort v × AreKnown n vs

  -- says that an exception number is built in or declared by the program
  abbrev pub IsExceptionOf : ℕ → Bool → Type 0
  IsExceptionOf n has = ((1 ≤ n) × (n < 5) × (has ≡ false)) ⊎ ((m : ℕ) × (n ≡ 5 + m) × (slice_get p.exceptions m ≡ Some has))

  -- says that the names, structs, fields, exceptions and result type in a scope of the typing rules
  -- agree with those of the typed program and function
  pub record Fits (g : Scope) : Type 0 where
    pub locals : AreKnown g.counters g.locals
    pub program : (x : ℕ) → IsMeantDeclared (meaning_in g.program x)
    pub structs : (x k : ℕ) → parameters_among g.structs x ≡ Some k → (s : typed.StructType) × (slice_get p.structs (struct_number g.structs x) ≡ Some s) × (s.parameters ≡ k)
    pub fields : (n : ℕ) (s : typed.StructType) → slice_get p.structs n ≡ Some s → (fs : List Field) × (slice_get g.fields n ≡ Some fs) × (s.fields ≡ map (λ (f : Field). f.of_type) fs)
    pub members : (n : ℕ) (fs : List Field) → slice_get g.fields n ≡ Some fs → (s : typed.StructType) × (slice_get p.structs n ≡ Some s) × (s.fields ≡ map (λ (f : Field). f.of_type) fs)
    pub exceptions : (x : ℕ) (has : Bool) → exception_among g.exceptions x ≡ Some has → IsExceptionOf (exception_number g.exceptions x) has
    pub written : names_no_unique g.regions.written ≡ true
    pub opened : names_no_unique_scope g.regions.opened ≡ true
    pub same : g.result ≡ h.result
    pub live : Contains (live_regions g.regions.live g.regions.opened) (regions.Variable g.region)

  declared_meant : (n : ℕ) (m : Meaning) → IsMeantDeclared m → IsMeant [] n m
  declared_meant n Unknown k = tt
  declared_meant n (scopes.Variable (typed.Local q m) t home) k = absurd k
  declared_meant n (scopes.Variable (typed.Global m) t home) k = k
  declared_meant n (Fixed l t) k = absurd k
  declared_meant n (Counter l) k = absurd k
  declared_meant n (Routine f s) k = k

  by_cond : (vs : List LocalInScope) (n : ℕ) (c : Bool) (m k : Meaning) → IsMeant vs n m → IsMeant vs n k → IsMeant vs n (cond c m k)
  by_cond vs n true m k i j = i
  by_cond vs n false m k i j = j

  after_one : (w : LocalInScope) (vs : List LocalInScope) (n : ℕ) (m : Meaning) → IsMeant vs n m → IsMeant (w ∷ vs) n m
  after_one w vs n Unknown k = tt
  after_one w vs n (scopes.Variable (typed.Local q m) t home) ((r, there, e), known, key) = ((r, inr there, e), known, key)
  after_one w vs n (scopes.Variable (typed.Global m) t home) k = k
  after_one w vs n (Fixed (typed.Local q m) t) ((r, there), known, moved) = ((r, inr there), known, moved)
  after_one w vs n (Fixed (typed.Global m) t) k = k
  after_one w vs n (Counter l) k = k
  after_one w vs n (Routine f s) k = k

  further : (s : Sort) (v : LocalVariable) (vs : List LocalInScope) (n : ℕ) (m : Meaning) → IsMeant vs n m → IsMeant (in_scope_of s v vs) n m
  further Ordinary v vs n m k = after_one _ vs n m k
  further OfRegion v vs n m k = after_one _ vs n m k
  further OfLoop v vs n m k = k

  newest : (s : Sort) (v : LocalVariable) (q : Place) (vs : List LocalInScope) (n : ℕ) → IsKnownLocal n s v → IsMeant (in_scope_of s v vs) n (local_meaning s v q)
  newest Ordinary v q vs n (k, key) = ((v.region, inl (refl, refl, refl, refl), refl), k, key)
  newest OfRegion v q vs n (k, moved) = ((v.region, inl (refl, refl, refl)), k, moved)
  newest OfLoop v q vs n k = k

  among : (n : ℕ) (vs : List LocalVariable) (ds : List Declared) (x : Named) → AreKnown n vs → ((y : ℕ) → IsMeantDeclared (meaning_in ds y)) → IsMeant (in_scope vs) n (meaning_among vs ds x)
  among n [] ds x known k = declared_meant n (meaning_in ds x.name) (k x.name)
  among n (v ∷ vs) ds x (one, known) k =
      by_cond (in_scope (v ∷ vs)) n (nat_eq v.name x.name) (local_meaning v.sort v x.place) (meaning_among vs ds x) (newest v.sort v x.place (in_scope vs) n one)
      (further v.sort v (in_scope vs) n (meaning_among vs ds x) (among n vs ds x known k))

  pub place_of_variable : (g : Scope) (l : Lvalue) (t : Ty) (home : Region) → IsMeant (in_scope g.locals) g.counters (scopes.Variable l t home) → IsPlace (at g) l t home
  place_of_variable g (typed.Local q n) t home ((r, there, e), known, key) = (r, there, e, known)
  place_of_variable g (typed.Global n) t home (e, known, k) = (e, known)

  has_local : (vs : List LocalInScope) (n : ℕ) (t : Ty) (r : ℕ) → HasPlace vs n t r → HasLocal vs n t r
  has_local [] n t r k = k
  has_local (v ∷ vs) n t r (inl (a, b, c, d)) = inl (a, b, c)
  has_local (v ∷ vs) n t r (inr k) = inr (has_local vs n t r k)

  pub variable_of_place : (g : Scope) (l : Lvalue) (t : Ty) (home : Region) → IsPlace (at g) l t home → IsVariable (at g) l t
  variable_of_place g (typed.Local q n) t home (r, there, e, known) = ((r, has_local (in_scope g.locals) n t r there), known)
  variable_of_place g (typed.Global n) t home (e, known) = known

  callee_of : (g : Scope) (f : Callee) (s : Signature) → IsMeantCallee f s → IsCallee (at g) f s
  callee_of g callees.Putchar s k = k
  callee_of g callees.Getchar s k = k
  callee_of g (callees.Function n) s k = k

  known_more : (n : ℕ) (vs : List LocalVariable) → AreKnown n vs → AreKnown (suc n) vs
  known_more n [] k = tt
  known_more n (v ∷ vs) (one, k) = (go v.sort one, known_more n vs k)
    where
      go : (s : Sort) → IsKnownLocal n s v → IsKnownLocal (suc n) s v
      go Ordinary i = i
      go OfRegion i = i
      go OfLoop i = omega arith

  counting : (g : Scope) (x : Named) → Fits g → Fits (with_counter x g)
  counting g x fits = record {
    locals = (let l : g.counters < suc g.counters = omega arith in l, known_more g.counters g.locals fits.locals);
    program = fits.program;
    structs = fits.structs;
    fields = fits.fields;
    members = fits.members;
    exceptions = fits.exceptions;
    written = fits.written;
    opened = fits.opened;
    same = fits.same;
    live = fits.live;
  }

  module _ (g : Scope) (fits : Fits g) where
    abbrev pub here : Context
    here = at g

    pub meant : (x : Named) → IsMeant (in_scope g.locals) g.counters (meaning_of g x)
    meant x = among g.counters g.locals g.program x fits.locals fits.program

    abbrev pub IsWell : typed.Expression → Type 0
    IsWell a = WellTyped here a (type_of a)

    -- says that an expression is well-typed, or only reads a unique pointer that stays in its local (a peek)
    abbrev pub IsSeen : typed.Expression → ValueType → Type 0
    IsSeen a v = WellTyped here a v ⊎ IsPeek here a v

    live_of : (r : Region) → is_live g r ≡ true → IsLive here r
    live_of r k =
        let found = any-true (λ s. region_eq s r) (live_regions g.regions.live g.regions.opened) k in
        subst (Contains (live_regions g.regions.live g.regions.opened)) (region_eq-true found.0 r found.2) found.1

    outlived_of : (r s : Region) → is_outliving g.regions r s ≡ true → OutlivesIn g.regions r s
    outlived_of r s k = outliving-sound g.regions fits.written fits.opened r s k

    pub int_well : (a : typed.Expression) → IsWell a → is_int (type_of a) ≡ true → WellTyped here a (Value Int)
    int_well a w i = subst (WellTyped here a) (int_of (type_of a) i) w

    -- ---- a char used as an int

    by_char : (a : typed.Expression) (b : Bool) → is_char (type_of a) ≡ b → IsWell a → IsWell (cond b (typed.Unary unary.Widen a) a)
    by_char a true e w = (Value Char, (subst (WellTyped here a) (char_of (type_of a) e) w, refl), refl)
    by_char a false e w = w

    pub int_served : (a : typed.Expression) → IsWell a → IsWell (as_int a)
    int_served a w = by_char a (is_char (type_of a)) refl w

    -- conversion to int does not change an expression that reads a unique pointer and leaves the pointer in its local
    peek_served : (q : Place) (n : ℕ) (t : Ty) → IsVariable here (typed.Local q n) t → is_unique t ≡ true → IsSeen (as_int (typed.Peek q n t)) (type_of (as_int (typed.Peek q n t)))
    peek_served q n (Pointer k t r) v u = inr (v, u, refl)
    peek_served q n t v u = absurd (cc)

    pub seen_served : (a : typed.Expression) → IsSeen a (type_of a) → IsSeen (as_int a) (type_of (as_int a))
    seen_served a (inl w) = inl (int_served a w)
    seen_served (typed.Peek q n t) (inr (v, u, e)) = peek_served q n t v u
    seen_served a (inr k) = absurd k

    -- ---- conversion

    converts_of : (v : ValueType) (t : Ty) → is_alike v t ≡ true → is_null_allowed v t ≡ true → is_outlived g.regions v t ≡ true → Converts here v t
    converts_of Void t a n o = absurd (cc)
    converts_of types.Null (Pointer k u r) a n o = not-true (is_non_null (Pointer k u r)) n
    converts_of types.Null t a n o = absurd (cc)
    converts_of (Value Int) Int a n o = tt
    converts_of (Value Int) Char a n o = tt
    converts_of (Value Char) Int a n o = tt
    converts_of (Value Char) Char a n o = tt
    converts_of (Value (Pointer k t r)) (Pointer l u s) a n o = (ty_eq-true t u a, outlived_of r s o)
    converts_of (Value (Handle r)) (Handle s) a n o = region_eq-true r s a
    converts_of (Value (Key r)) (Key s) a n o = region_eq-true r s a
    converts_of (Value t) u a n o = absurd (cc)

    pub converted_well : (a : typed.Expression) (t : Ty) (q : Place) → IsWell a → AllKept (conversion g.regions (type_of a) t q) → IsConverted here (converted a t) t
    converted_well a t q w (i, (n, (o, u))) = (type_of a, w, converts_of (type_of a) t i n o, refl, refl)

    abbrev AreWell : List typed.Expression → Type 0
    AreWell [] = Unit {0}
    AreWell (a ∷ as') = IsWell a × AreWell as'

    passed_well : (es : Expressions) (as' : List typed.Expression) (ts : List Ty) → Aligned es as' → AreWell as' → length as' ≡ length ts → AllKept (passed_demanded g.regions es as' ts) → ArePassed here ts (passed as' ts)
    passed_well es [] [] al w same k = tt
    passed_well es [] (t ∷ ts) al w same k = absurd (omega arith)
    passed_well es (a ∷ as') [] al w same k = absurd (omega arith)
    passed_well NoExpressions (a ∷ as') (t ∷ ts) al w same k = absurd al
    passed_well (MoreExpressions e es) (a ∷ as') (t ∷ ts) al (w, ws) same k =
        let (one, rest) = kept_append (conversion g.regions (type_of a) t (place_of e)) (passed_demanded g.regions es as' ts) k in
        (converted_well a t (place_of e) w one, passed_well es as' ts al ws (omega arith) rest)

    -- ---- variables

    by_moved : (q : Place) (n : ℕ) (t : Ty) (b : Bool) → is_moved t ≡ b → IsVariable here (typed.Local q n) t → IsWell (cond b (typed.Move q n t) (typed.Copy (typed.Local q n) t))
    by_moved q n t true e k = (k, e, refl)
    by_moved q n t false e k = (k, e, refl)

    variable_well : (l : Lvalue) (t : Ty) (home : Region) → IsMeant (in_scope g.locals) g.counters (scopes.Variable l t home) → is_readable l t ≡ true → IsWell (variable_read l t)
    variable_well (typed.Local q n) t home k i = by_moved q n t (is_moved t) refl (variable_of_place g (typed.Local q n) t home (place_of_variable g (typed.Local q n) t home k))
    variable_well (typed.Global n) t home (e, known, key) i = (known, not_moved t (not-true (is_unique t) i) key, refl)

    by_unique : (q : Place) (n : ℕ) (t : Ty) (b : Bool) → is_unique t ≡ b → IsVariable here (typed.Local q n) t → IsWell (variable_read (typed.Local q n) t)
        → let a = cond b (typed.Peek q n t) (variable_read (typed.Local q n) t) in IsSeen a (type_of a)
    by_unique q n t true e k w = inr (k, e, refl)
    by_unique q n t false e k w = inl w

    read_well : (m : Meaning) (q : Place) (a : typed.Expression) → IsMeant (in_scope g.locals) g.counters m → Derives (read m q) a → IsWell a
    read_well Unknown q a k d = absurd d
    read_well (scopes.Variable l t home) q a k ((i, u), eq) = subst IsWell (sym eq) (variable_well l t home k i)
    read_well (Fixed (typed.Local o n) t) q a (k, known, moved) (u, eq) = subst IsWell (sym eq) ((k, known), moved, refl)
    read_well (Fixed (typed.Global n) t) q a k d = absurd k
    read_well (Counter n) q a k (u, eq) = subst IsWell (sym eq) (k, refl)
    read_well (Routine f s) q a k d = absurd d

    looked_seen : (m : Meaning) (q : Place) (a : typed.Expression) → IsMeant (in_scope g.locals) g.counters m → Derives (looked m q) a → IsSeen a (type_of a)
    looked_seen Unknown q a k d = absurd d
    looked_seen (scopes.Variable (typed.Local o n) t home) q a k ((i, u), eq) =
        subst (λ z. IsSeen z (type_of z)) (sym eq)
        (by_unique o n t (is_unique t) refl (variable_of_place g (typed.Local o n) t home (place_of_variable g (typed.Local o n) t home k)) (variable_well (typed.Local o n) t home k refl))
    looked_seen (scopes.Variable (typed.Global n) t home) q a k ((i, u), eq) = inl (subst IsWell (sym eq) (variable_well (typed.Global n) t home k i))
    looked_seen (Fixed l t) q a k d = inl (read_well (Fixed l t) q a k d)
    looked_seen (Counter n) q a k d = inl (read_well (Counter n) q a k d)
    looked_seen (Routine f s) q a k d = absurd d

    pub seen_well : (e : Expression) (walked : Rule typed.Expression) (a : typed.Expression) → ((b : typed.Expression) → Derives walked b → IsWell b) → Derives (rule_looked g e walked) a → IsSeen a (type_of a)
    seen_well (Variable x) walked a w d = looked_seen (meaning_of g x) x.place a (meant x) d
    seen_well (Bracketed q e) walked a w d = seen_well e walked a w d
    seen_well e walked a w d = inl (w a d)

    -- an operand that is well-typed or leaves a unique pointer in its local, and whose type is not a unique pointer, is well-typed
    plain_of : (a : typed.Expression) (v : ValueType) → IsSeen a v → is_value is_unique v ≡ false → WellTyped here a v
    plain_of a v (inl w) n = w
    plain_of (typed.Peek q m t) v (inr (k, u, e)) n = absurd (true≢false (sym u ∙ ap (is_value is_unique) (sym e) ∙ n))
    plain_of a v (inr k) n = absurd k

    -- ---- places

    abbrev pub IsFoundIn : Side → Region → Type 0
    IsFoundIn (VariableSide l t) r = IsPlace here l t r
    IsFoundIn (CellSide d) r = IsCell here d (type_of_place d) r

    abbrev pub IsFound : Found → Type 0
    IsFound x = IsFoundIn x.side x.region

    place_well : (m : Meaning) (q o : Place) (x : Found) → IsMeant (in_scope g.locals) g.counters m → Derives (place_meant m q o) x → IsFound x
    place_well Unknown q o x k d = absurd d
    place_well (scopes.Variable l t home) q o x k (u, eq) = subst IsFound (sym eq) (place_of_variable g l t home k)
    place_well (Fixed l t) q o x k d = absurd d
    place_well (Counter n) q o x k d = absurd d
    place_well (Routine f s) q o x k d = absurd d

    -- says that a memory cell reached by an expression is well-typed if the typing requirements on this access are satisfied
    abbrev IsReached : Reached → Type 0
    IsReached w = AllKept w.asked → IsCell here w.cell (type_of_place w.cell) w.region

    pointed_by : (a : typed.Expression) (v : ValueType) → IsSeen a v → is_value is_pointer v ≡ true → IsLive here (region_of (value_of v))
        → IsCell here (typed.Target (kind_of (value_of v)) a (target_of (value_of v))) (target_of (value_of v)) (region_of (value_of v))
    pointed_by a (Value (Pointer k u r)) s i l = (k, s, l, refl, refl)
    pointed_by a v s i l = absurd (cc)

    pointed_well : (q : Place) (a : typed.Expression) → IsSeen a (type_of a) → IsReached (pointed g q a)
    pointed_well q a s (i, (l, u)) = pointed_by a (type_of a) s i (live_of (region_of (value_of (type_of a))) l)

    counted_by : (a : typed.Expression) (v : ValueType) → IsSeen a v → is_value is_fat v ≡ true → IsWell (typed.NumberOfElements a)
    counted_by a (Value (Pointer k u r)) s i = (u, r, subst (λ m. IsSeen a (Value (Pointer m u r))) (fat_of k i) s, refl)
    counted_by a v s i = absurd (cc)

    indexed_by : (a b : typed.Expression) (v : ValueType) → IsSeen a v → is_value is_fat v ≡ true → WellTyped here b (Value Int) → IsLive here (region_of (value_of v))
        → IsCell here (typed.Element a b (target_of (value_of v))) (target_of (value_of v)) (region_of (value_of v))
    indexed_by a b (Value (Pointer k u r)) s i w l = (subst (λ m. IsSeen a (Value (Pointer m u r))) (fat_of k i) s, w, l, refl)
    indexed_by a b v s i w l = absurd (cc)

    indexed_well : (q o : Place) (a b : typed.Expression) → IsSeen a (type_of a) → IsWell b → IsReached (indexed g q a o b)
    indexed_well q o a b s w (i, (j, (l, u))) = indexed_by a b (type_of a) s i (int_well b w j) (live_of (region_of (value_of (type_of a))) l)

    -- if a struct has a field with a name, the field's type is in the struct's list of field types
    member_there : (n x : ℕ) (o : Option (List Field)) → slice_get g.fields n ≡ o → is_some (field_among (unwrap_or o []) x) ≡ true
        → (s : typed.StructType) × (v : Ty) × (slice_get p.structs n ≡ Some s) × (slice_get s.fields (field_number (unwrap_or o []) x) ≡ Some v) × (field_among (unwrap_or o []) x ≡ Some v)
    member_there n x None e k = absurd (cc)
    member_there n x (Some fs) e k =
        let (t, found) = some_there (field_among fs x) k in
        let (s, there, same) = fits.members n fs e in
        (s, t, there, subst (λ ts. slice_get ts (field_number fs x) ≡ Some t) (sym same) (field_there fs x t found), found)

    selected_by : (a : typed.Expression) (v : ValueType) (x : ℕ) → IsSeen a v → is_value has_members v ≡ true
        → not (is_value has_members v) || is_some (field_among (fields_of g (target_of (value_of v))) x) ≡ true → IsLive here (region_of (value_of v))
        → let t = field_type (arguments_of (target_of (value_of v))) (field_among (fields_of g (target_of (value_of v))) x) in
        IsCell here (typed.Member (kind_of (value_of v)) a (struct_of (target_of (value_of v))) (field_number (fields_of g (target_of (value_of v))) x) t) t (region_of (value_of v))
    selected_by a (Value (Pointer k (Struct n rs) r)) x s i f l =
        let (thin, u) = and_parts (is_thin_mark k) true i in
        let (d, t, there, at_field, found) = member_there n x (slice_get g.fields n) refl (subst (λ b. not b || is_some (field_among (unwrap_or (slice_get g.fields n) []) x) ≡ true) i f) in
        (k, rs, d, t, s, thin, l, refl, there, at_field, ap (field_type rs) found, refl)
    selected_by a (Value (Pointer k u r)) x s i f l = absurd (true≢false (sym ((and_parts (is_thin_mark k) (is_struct u) i).1)))
    selected_by a v x s i f l = absurd (cc)

    selected_well : (q : Place) (a : typed.Expression) (f : Named) → IsSeen a (type_of a) → IsReached (selected g q a f)
    selected_well q a f s (i, (known, (l, u))) = selected_by a (type_of a) f.name s i known (live_of (region_of (value_of (type_of a))) l)

    loaded_well : (q : Place) (w : Reached) (a : typed.Expression) → IsReached w → Derives (loaded q w) a → IsWell a
    loaded_well q w a k (kept, eq) =
        let (asked, (s, (u, t))) = kept_append w.asked (content_demanded (type_of_place w.cell) q) kept in
        subst IsWell (sym eq) (type_of_place w.cell, w.region, k asked, not-true (is_struct (type_of_place w.cell)) s, not-true (is_unique (type_of_place w.cell)) u, refl)

    reached_well : (w : Reached) (x : Found) → IsReached w → Derives (reached w) x → IsFound x
    reached_well w x k (kept, eq) = subst IsFound (sym eq) (k kept)

    address_well : (s : Side) (r : Region) → IsFoundIn s r → is_moved (type_of_side s) ≡ false → r ≢ regions.Unique → IsWell (address_of s (Pointer marks.NonNull (type_of_side s) r))
    address_well (VariableSide l t) r k m n = (t, r, k, m, refl, refl)
    address_well (CellSide d) r k m n = (type_of_place d, r, k, m, n, refl, refl)

    addressed_well : (q : Place) (x : Found) (a : typed.Expression) → IsFound x → Derives (addressed q x) a → IsWell a
    addressed_well q x a k ((key, (shared, u)), eq) =
        let (unique, region) = and_parts (not (is_unique (type_of_side x.side))) (not (region_eq x.region regions.Unique)) shared in
        subst IsWell (sym eq)
        (address_well x.side x.region k (not_moved (type_of_side x.side) (not-true (is_unique (type_of_side x.side)) unique) (not-true (is_key (type_of_side x.side)) key)) (other_region x.region regions.Unique region))

    assignment_well : (s : Side) (r : Region) (b : typed.Expression) → IsFoundIn s r → IsConverted here (converted b (type_of_side s)) (type_of_side s) → IsWell (assignment s b)
    assignment_well (VariableSide l t) r b k c = (t, r, k, c, refl, refl)
    assignment_well (CellSide d) r b k c = (type_of_place d, r, k, c, refl, refl)

    assigned_well : (x : Found) (q : Place) (b a : typed.Expression) → IsFound x → IsWell b → Derives (assigned g.regions x q b) a → IsWell a
    assigned_well x q b a k w (kept, eq) = subst IsWell (sym eq) (assignment_well x.side x.region b k (converted_well b (type_of_side x.side) q w kept))

    -- ---- operators

    -- says that an operand is well-typed; an operand that the operator only tests or compares may be the
    -- read of a unique pointer that stays in its local
    abbrev IsOperand : Bool → typed.Expression → Type 0
    IsOperand true a = IsSeen a (type_of a)
    IsOperand false a = IsWell a

    operand_of : (c : Bool) (e : Expression) (b : typed.Expression) → ((a : typed.Expression) → Derives (rule g e) a → IsWell a) → Derives (operand c (rule g e) (rule_looked g e (rule g e))) b → IsOperand c b
    operand_of true e b w d = seen_well e (rule g e) b w d
    operand_of false e b w d = w b d

    operand_served : (c : Bool) (a : typed.Expression) → IsOperand c a → IsOperand c (as_int a)
    operand_served true a w = seen_served a w
    operand_served false a w = int_served a w

    -- says that an operator with its right operand, put before a well-typed operator chain, gives a chain that continues from a left
    -- operand of the given type
    abbrev IsJoined : ValueType → Joined → Type 0
    IsJoined left j = (os : typed.Operations) (u : Ty) → IsChain here (Value j.1) os u → IsChain here left (j.0 os) u

    sum_joined : (left : ValueType) (o : Operator) (fat : PointerOperator) (a : typed.Expression) → is_int left || is_value is_movable left ≡ true → WellTyped here a (Value Int)
        → ((t : Ty) (r : Region) → r ≢ regions.Unique → PointerOperation here fat (Value (Pointer marks.Fat t r)) (Value Int) (Value (Pointer marks.Fat t r)))
        → IsJoined left (then_added left o fat a, value_of left)
    sum_joined (Value Int) o fat a l w op os u k = (refl, w, k)
    sum_joined (Value (Pointer m t r)) o fat a l w op os u k =
        let (thick, unique) = and_parts (not (is_thin_mark m)) (not (region_eq r regions.Unique)) l in
        (Value Int, Value (Pointer m t r), inl w, subst (λ z. PointerOperation here fat (Value (Pointer z t r)) (Value Int) (Value (Pointer z t r))) (sym (fat_of m thick)) (op t r (other_region r regions.Unique unique)), k)
    sum_joined left o fat a l w op os u k = absurd (cc)

    pointer_joined : (k : Option ℕ) (o : PointerOperator) (a : typed.Expression) (left v w : ValueType) (os : typed.Operations) (u : Ty)
        → IsSeen a v → PointerOperation here o left v w → IsChain here w os u → IsChain here left (then_pointer k o a os) u
    pointer_joined None o a left v w os u s op c = (v, w, s, op, c)
    pointer_joined (Some n) o a left v w os u s op c = (v, w, s, op, c)

    null_operation : (negated b : Bool) (m : PointerKind) (t : Ty) (r : Region) → is_thin_mark m ≡ b
        → PointerOperation here (null_test negated b) (Value (Pointer m t r)) types.Null (Value Int)
    null_operation false true m t r e = thin_null m t r e
    null_operation false false m t r e = fat_null m t r e
    null_operation true true m t r e = thin_there m t r e
    null_operation true false m t r e = fat_there m t r e

    null_tested_operation : (negated : Bool) (m : PointerKind) (t : Ty) (r : Region)
        → PointerOperation here (null_tested negated) types.Null (Value (Pointer m t r)) (Value Int)
    null_tested_operation false m t r = null_is m t r
    null_tested_operation true m t r = null_is_not m t r

    thin_operation : (negated : Bool) (k l : PointerKind) (t : Ty) (r s : Region) → is_thin_mark k ≡ true → is_thin_mark l ≡ true → IsLive here r → IsLive here s
        → PointerOperation here (thin_test negated) (Value (Pointer k t r)) (Value (Pointer l t s)) (Value Int)
    thin_operation false k l t r s e f i j = equals k l t r s e f i j
    thin_operation true k l t r s e f i j = differs k l t r s e f i j

    compared_joined : (k : Option ℕ) (negated : Bool) (left right : ValueType) (a : typed.Expression) → IsSeen a right → are_compared left right ≡ true
        → is_compared_live g left right ≡ true → is_compared_live g right left ≡ true → IsJoined left (then_compared k negated left right a, Int)
    compared_joined k negated (Value Int) (Value Int) a s c i j os u rest = (refl, plain_of a (Value Int) s refl, rest)
    compared_joined k negated (Value (Pointer m t r)) (Value (Pointer l v q)) a s c i j os u rest =
        let (thin, more) = and_parts (is_thin_mark m) (is_thin_mark l && ty_eq t v) c in
        let (fine, same) = and_parts (is_thin_mark l) (ty_eq t v) more in
        pointer_joined k (thin_test negated) a (Value (Pointer m t r)) (Value (Pointer l v q)) (Value Int) os u s
        (subst (λ z. PointerOperation here (thin_test negated) (Value (Pointer m t r)) (Value (Pointer l z q)) (Value Int)) (ty_eq-true t v same)
        (thin_operation negated m l t r q thin fine (live_of r i) (live_of q j))) rest
    compared_joined k negated (Value (Pointer m t r)) types.Null a s c i j os u rest =
        pointer_joined k (null_test negated (is_thin_mark m)) a (Value (Pointer m t r)) types.Null (Value Int) os u s (null_operation negated (is_thin_mark m) m t r refl) rest
    compared_joined k negated types.Null (Value (Pointer m t r)) a s c i j os u rest = (Value (Pointer m t r), Value Int, s, null_tested_operation negated m t r, rest)
    compared_joined k negated left right a s c i j os u rest = absurd (cc)

    -- ---- the left operand of a chain

    no_peek : (a : typed.Expression) (v : ValueType) → WellTyped here a v → peeked_local a ≡ None
    no_peek (typed.Peek q n t) v w = absurd w
    no_peek a v w = refl

    sum_left : (a b : typed.Expression) (left : ValueType) (o : Operator) (fat : PointerOperator) (os : typed.Operations) → IsWell a
        → IsLeft (IsWell a) here a (type_of a) (then_added left o fat b os)
    sum_left a b (Value Int) o fat os w = w
    sum_left a b left o fat os w = w

    well_left : (a b : typed.Expression) (negated : Bool) (left right : ValueType) (os : typed.Operations) → IsWell a
        → IsLeft (IsWell a) here a (type_of a) (then_compared None negated left right b os)
    well_left a b negated (Value (Pointer m t r)) types.Null os w = w
    well_left a b negated (Value (Pointer m t r)) (Value u) os w = w
    well_left a b negated types.Null right os w = w
    well_left a b negated left right os w = w

    peek_left : (q : Place) (n : ℕ) (t : Ty) (b : typed.Expression) (negated : Bool) (right : ValueType) (os : typed.Operations) → IsPeek here (typed.Peek q n t) (Value t) → is_unique t ≡ true
        → are_compared (Value t) right ≡ true → IsLeft ⊥ here (typed.Peek q n t) (Value t) (then_compared (Some n) negated (Value t) right b os)
    peek_left q n (Pointer m t r) b negated types.Null os k u c = (k, refl)
    peek_left q n (Pointer m t r) b negated (Value v) os k u c = (k, refl)
    peek_left q n (Pointer m t r) b negated Void os k u c = absurd (cc)
    peek_left q n t b negated right os k u c = absurd (cc)

    compared_left : (a b : typed.Expression) (negated : Bool) (right : ValueType) (os : typed.Operations) → IsSeen a (type_of a) → are_compared (type_of a) right ≡ true
        → IsLeft (IsWell a) here a (type_of a) (then_compared (peeked_local a) negated (type_of a) right b os)
    compared_left a b negated right os (inl w) c =
        subst (λ k. IsLeft (IsWell a) here a (type_of a) (then_compared k negated (type_of a) right b os)) (sym (no_peek a (type_of a) w)) (well_left a b negated (type_of a) right os w)
    compared_left (typed.Peek q n t) b negated right os (inr (k, u, e)) c = peek_left q n t b negated right os (k, u, refl) u c
    compared_left a b negated right os (inr k) c = absurd k

    -- ---- each operator

    module _ (q o : Place) (k : Option ℕ) (left : ValueType) (a : typed.Expression) where
      ints_well : (op : Operator) (j : Joined) → IsWell a → Derives (ints_joined q left op o a) j → IsJoined left j
      ints_well op j w ((l, (i, u)), eq) = subst (IsJoined left) (sym eq) (λ os t c. (int_of left l, int_well a w i, c))

      tests_well : (op : LogicalOperator) (j : Joined) → IsSeen a (type_of a) → Derives (tests_joined q left op o a) j → IsJoined left j
      tests_well op j s ((l, (i, u)), eq) = subst (IsJoined left) (sym eq) (λ os t c. (l, (type_of a, s, i), c))

      sums_well : (op : Operator) (fat : PointerOperator) (j : Joined) → IsWell a
          → ((t : Ty) (r : Region) → r ≢ regions.Unique → PointerOperation here fat (Value (Pointer marks.Fat t r)) (Value Int) (Value (Pointer marks.Fat t r)))
          → Derives (sums_joined q left op fat o a) j → IsJoined left j
      sums_well op fat j w by ((l, (i, u)), eq) = subst (IsJoined left) (sym eq) (sum_joined left op fat a l (int_well a w i) by)

      equality_well : (negated : Bool) (j : Joined) → IsSeen a (type_of a) → Derives (equality_joined g q k left negated o a) j → IsJoined left j
      equality_well negated j s ((l, (r, (c, (x, (y, u))))), eq) = subst (IsJoined left) (sym eq) (compared_joined k negated left (type_of a) a s c x y)

      joined_well : (op : BinaryOperator) (j : Joined) → IsOperand (is_looking op) a → Derives (joined g q k left op o a) j → IsJoined left j
      joined_well operators.OrElse j w d = tests_well logical.OrElse j w d
      joined_well operators.AndThen j w d = tests_well logical.AndThen j w d
      joined_well operators.Or j w d = ints_well binary.Or j w d
      joined_well operators.Xor j w d = ints_well binary.Xor j w d
      joined_well operators.And j w d = ints_well binary.And j w d
      joined_well operators.Equal j w d = equality_well false j w d
      joined_well operators.NotEqual j w d = equality_well true j w d
      joined_well operators.Less j w d = ints_well binary.Less j w d
      joined_well operators.LessOrEqual j w d = ints_well binary.LessOrEqual j w d
      joined_well operators.Greater j w d = ints_well binary.Greater j w d
      joined_well operators.GreaterOrEqual j w d = ints_well binary.GreaterOrEqual j w d
      joined_well operators.ShiftLeft j w d = ints_well binary.ShiftLeft j w d
      joined_well operators.ShiftRight j w d = ints_well binary.ShiftRight j w d
      joined_well operators.Add j w d = sums_well binary.Add pointers.AddFat j w (λ t r n. adds t r n) d
      joined_well operators.Subtract j w d = sums_well binary.Subtract pointers.SubtractFat j w (λ t r n. subtracts t r n) d
      joined_well operators.Multiply j w d = ints_well binary.Multiply j w d
      joined_well operators.Divide j w d = ints_well binary.Divide j w d
      joined_well operators.Remainder j w d = ints_well binary.Remainder j w d

    -- Lemmas about the first operand of an expression with several left-associative operators, before the first operator.
    module _ (q o : Place) (a b : typed.Expression) where
      abbrev IsFirst : Joined → Type 0
      IsFirst j = (os : typed.Operations) → IsLeft (IsWell a) here a (type_of a) (j.0 os)

      ints_first : (op : Operator) (j : Joined) → IsWell a → Derives (ints_joined q (type_of a) op o b) j → IsFirst j
      ints_first op j w (kept, eq) = subst IsFirst (sym eq) (λ os. w)

      tests_first : (op : LogicalOperator) (j : Joined) → IsSeen a (type_of a) → Derives (tests_joined q (type_of a) op o b) j → IsFirst j
      tests_first op j s (kept, eq) = subst IsFirst (sym eq) (λ os. s)

      sums_first : (op : Operator) (fat : PointerOperator) (j : Joined) → IsWell a → Derives (sums_joined q (type_of a) op fat o b) j → IsFirst j
      sums_first op fat j w (kept, eq) = subst IsFirst (sym eq) (λ os. sum_left a b (type_of a) op fat os w)

      equality_first : (negated : Bool) (j : Joined) → IsSeen a (type_of a) → Derives (equality_joined g q (peeked_local a) (type_of a) negated o b) j → IsFirst j
      equality_first negated j s ((l, (r, (c, rest))), eq) = subst IsFirst (sym eq) (λ os. compared_left a b negated (type_of b) os s c)

      joined_first : (op : BinaryOperator) (j : Joined) → IsOperand (is_looking op) a → Derives (joined g q (peeked_local a) (type_of a) op o b) j → IsFirst j
      joined_first operators.OrElse j w d = tests_first logical.OrElse j w d
      joined_first operators.AndThen j w d = tests_first logical.AndThen j w d
      joined_first operators.Or j w d = ints_first binary.Or j w d
      joined_first operators.Xor j w d = ints_first binary.Xor j w d
      joined_first operators.And j w d = ints_first binary.And j w d
      joined_first operators.Equal j w d = equality_first false j w d
      joined_first operators.NotEqual j w d = equality_first true j w d
      joined_first operators.Less j w d = ints_first binary.Less j w d
      joined_first operators.LessOrEqual j w d = ints_first binary.LessOrEqual j w d
      joined_first operators.Greater j w d = ints_first binary.Greater j w d
      joined_first operators.GreaterOrEqual j w d = ints_first binary.GreaterOrEqual j w d
      joined_first operators.ShiftLeft j w d = ints_first binary.ShiftLeft j w d
      joined_first operators.ShiftRight j w d = ints_first binary.ShiftRight j w d
      joined_first operators.Add j w d = sums_first binary.Add pointers.AddFat j w d
      joined_first operators.Subtract j w d = sums_first binary.Subtract pointers.SubtractFat j w d
      joined_first operators.Multiply j w d = ints_first binary.Multiply j w d
      joined_first operators.Divide j w d = ints_first binary.Divide j w d
      joined_first operators.Remainder j w d = ints_first binary.Remainder j w d

    first_well : (q : Place) (a : typed.Expression) (os : Operations) (bs : typed.Operations × Ty) → IsOperand (is_looking_first os) a → Derives (rule_chain g q (peeked_local a) (type_of a) os) bs
        → IsLeft (IsWell a) here a (type_of a) bs.0
    first_well q a NoOperations bs w (kept, eq) = subst (λ (z : typed.Operations × Ty). IsLeft (IsWell a) here a (type_of a) z.0) (sym eq) w
    first_well q a (ThenOperation op o e os) bs w (put, (b, kb, d), (cs, ks, (u, eq))) =
        subst (λ (z : typed.Operations × Ty). IsLeft (IsWell a) here a (type_of a) z.0) (sym eq) (joined_first q (place_of e) a (as_int b) op put w d cs.0)

    value_there : (v : ValueType) → is_value is_any v ≡ true → v ≡ Value (value_of v)
    value_there (Value t) i = refl
    value_there v i = absurd (cc)

    -- ---- calls

    heap_not_unique : regions.Heap ≢ regions.Unique
    heap_not_unique e = absurd (cc)

    first_not_unique : (ps : List (Region × Region)) (n : ℕ) → list_any is_unique_for_variable ps ≡ false → first_place ps n ≢ regions.Unique
    first_not_unique [] n k = heap_not_unique
    first_not_unique ((r, s) ∷ ps) n k =
        let (one, rest) = or_false_parts (is_unique_for_variable (r, s)) (list_any is_unique_for_variable ps) k in go (region_eq r (regions.Variable n)) refl one (first_not_unique ps n rest)
      where
        go : (b : Bool) → region_eq r (regions.Variable n) ≡ b → is_unique_for_variable (r, s) ≡ false → first_place ps n ≢ regions.Unique → cond b s (first_place ps n) ≢ regions.Unique
        go false e one rest = rest
        go true e one rest = λ is.
            let known : region_eq s regions.Unique ≡ false = subst (λ z. is_unique_for_variable (z, s) ≡ false) (region_eq-true r (regions.Variable n) e) one in
            absurd (true≢false (sym (subst (λ z. region_eq z regions.Unique ≡ true) (sym is) refl) ∙ known))

    firsts_not_unique : (ps : List (Region × Region)) (k n : ℕ) → list_any is_unique_for_variable ps ≡ false → AreNotUnique (first_places ps k n)
    firsts_not_unique ps zero n h = tt
    firsts_not_unique ps (suc k) n h = (first_not_unique ps n h, firsts_not_unique ps k (suc n) h)

    firsts-length : (ps : List (Region × Region)) (k n : ℕ) → length (first_places ps k n) ≡ k
    firsts-length ps zero n = refl
    firsts-length ps (suc k) n = ap suc (firsts-length ps k (suc n))

    none_append : (xs ys : List (Region × Region)) → list_any is_unique_for_variable xs ≡ false → list_any is_unique_for_variable ys ≡ false → list_any is_unique_for_variable (xs ++ ys) ≡ false
    none_append [] ys e f = f
    none_append (x ∷ xs) ys e f =
        let (one, rest) = or_false_parts (is_unique_for_variable x) (list_any is_unique_for_variable xs) e in ap (λ b. b || list_any is_unique_for_variable (xs ++ ys)) one ∙ none_append xs ys rest f

    none_unique : (es : Expressions) (as' : List typed.Expression) (ts : List Ty) → Aligned es as' → AllKept (variables_demanded es as' ts) → list_any is_unique_for_variable (paired_arguments ts as') ≡ false
    none_unique es [] [] al k = refl
    none_unique es [] (t ∷ ts) al k = refl
    none_unique es (a ∷ as') [] al k = refl
    none_unique NoExpressions (a ∷ as') (t ∷ ts) al k = absurd al
    none_unique (MoreExpressions e es) (a ∷ as') (t ∷ ts) al (one, k) =
        none_append (paired_argument t (type_of a)) (paired_arguments ts as') (not-true (list_any is_unique_for_variable (paired_argument t (type_of a))) one) (none_unique es as' ts al k)

    constraints_hold : (q : Place) (ps : List (Region × Region)) → AllKept (constraints_demanded g.regions q ps) → AreOutliving here ps
    constraints_hold q [] k = tt
    constraints_hold q (r ∷ ps) (one, k) = (outlived_of r.0 r.1 one, constraints_hold q ps k)

    effect_live : (q : Place) (rs : List Region) → AllKept (effect_demanded g q rs) → AreLive here rs
    effect_live q [] k = tt
    effect_live q (r ∷ rs) (one, k) = (live_of r one, effect_live q rs k)

    called_well : (m : Meaning) (q : Place) (es : Expressions) (as' : List typed.Expression) (a : typed.Expression) → IsMeant (in_scope g.locals) g.counters m → Aligned es as' → AreWell as' → Derives (called g m q es as') a → IsWell a
    called_well Unknown q es as' a k al ws d = absurd d
    called_well (scopes.Variable l t home) q es as' a k al ws d = absurd d
    called_well (Fixed l t) q es as' a k al ws d = absurd d
    called_well (Counter n) q es as' a k al ws d = absurd d
    called_well (Routine f s) q es as' a k al ws ((count, kept), eq) =
        let m : List Region = instance_of s as' in
        let c : Signature = instantiated m s in
        let (converted, more) = kept_append (passed_demanded g.regions es as' c.parameters) (variables_demanded es as' s.parameters ++ (constraints_demanded g.regions q c.constraints ++ effect_demanded g q c.effect)) kept in
        let (shared, others) = kept_append (variables_demanded es as' s.parameters) (constraints_demanded g.regions q c.constraints ++ effect_demanded g q c.effect) more in
        let (constraints, effect) = kept_append (constraints_demanded g.regions q c.constraints) (effect_demanded g q c.effect) others in
        subst IsWell (sym eq) (
          s,
          m,
          callee_of g f s k,
          ap suc (firsts-length (paired_arguments s.parameters as') s.variables 1),
          (heap_not_unique, firsts_not_unique (paired_arguments s.parameters as') s.variables 1 (none_unique es as' s.parameters al shared)),
          passed_well es as' c.parameters al ws (eqb-true (length as') (length s.parameters) count ∙ sym (length-map s.parameters (substituted_ty m))) converted,
          effect_live q c.effect effect,
          constraints_hold q c.constraints constraints,
          refl,
          refl,
        )

    -- ---- keys and unique objects

    freed_well : (q : Place) (b a : typed.Expression) → IsWell b → Derives (freed q b) a → IsWell a
    freed_well q b a w ((v, (i, u)), eq) = let (k, t, is) = unique_of (type_of b) i in subst IsWell (sym eq) (k, t, subst (WellTyped here b) is w, refl)

    key_moved : (o : Place) (n : ℕ) (t : Ty) → IsVariable here (typed.Local o n) t → is_key t ≡ true → IsWell (typed.FreeKey (typed.Move o n t))
    key_moved o n (Key r) k i = (r, (k, refl, refl), refl)
    key_moved o n t k i = absurd (cc)

    key_freed_well : (m : Meaning) (q : Place) (a : typed.Expression) → IsMeant (in_scope g.locals) g.counters m → Derives (key_freed m q) a → IsWell a
    key_freed_well Unknown q a k d = absurd d
    key_freed_well (scopes.Variable (typed.Local o n) t home) q a k ((i, u), eq) =
        subst IsWell (sym eq) (key_moved o n t (variable_of_place g (typed.Local o n) t home (place_of_variable g (typed.Local o n) t home k)) i)
    key_freed_well (scopes.Variable (typed.Global n) t home) q a k d = absurd d
    key_freed_well (Fixed l t) q a k d = absurd d
    key_freed_well (Counter n) q a k d = absurd d
    key_freed_well (Routine f s) q a k d = absurd d

    -- ---- new objects

    abbrev IsPlaced : Placed → Type 0
    IsPlaced w = AllKept w.asked → IsPlacement here w.placement w.region

    abbrev IsMadeOf : Made → Type 0
    IsMadeOf m = AllKept m.asked → IsMade here m.initial m.mark m.target

    by_handle_of : (a : typed.Expression) (v : ValueType) → WellTyped here a v → is_value is_handle v ≡ true → IsLive here (region_of (value_of v)) → IsPlacement here (typed.ByHandle a) (region_of (value_of v))
    by_handle_of a (Value (Handle r)) w i l = (w, l)
    by_handle_of a v w i l = absurd (cc)

    placement_well : (q : Place) (e : Expression) (walked : Rule typed.Expression) (w : Placed) → ((b : typed.Expression) → Derives walked b → IsWell b) → Derives (rule_placement g q e walked) w → IsPlaced w
    placement_well q (UniqueRegion o) walked w k d = subst IsPlaced (sym d.1) (λ kept. refl)
    placement_well q (Bracketed o e) walked w k d = placement_well q e walked w k d
    placement_well q e walked w k (a, ka, (u, eq)) =
        subst IsPlaced (sym eq) (λ (kept : AllKept (by_handle g q a).asked). by_handle_of a (type_of a) (k a ka) kept.0 (live_of (region_of (value_of (type_of a))) (kept.1).0))

    created_well : (w : Placed) (m : Made) (a : typed.Expression) → IsPlaced w → IsMadeOf m → Derives (created w m) a → IsWell a
    created_well w m a k i (kept, eq) = let (one, two) = kept_append w.asked m.asked kept in subst IsWell (sym eq) (m.mark, m.target, w.region, k one, i two, refl, refl)

    plain_by : (a : typed.Expression) (v : ValueType) → WellTyped here a v → is_value is_any v ≡ true → is_value is_key v ≡ false → IsMade here (typed.Plain (kind_of_value v) a) marks.NonNull (value_of v)
    plain_by a (Value t) w i n = (w, n, refl, refl)
    plain_by a v w i n = absurd (cc)

    array_by : (c : Context) (p : Place) (a b : typed.Expression) (v : ValueType) → WellTyped c a (Value Int) → WellTyped (judgement.with_counter c) b v → is_value is_any v ≡ true → is_value is_key v ≡ false
        → IsMade c (typed.Array p c.counters a (kind_of_value v) b) marks.Fat (value_of v)
    array_by c p a b (Value t) w x i n = (refl, w, x, n, refl, refl)
    array_by c p a b v w x i n = absurd (cc)

    arguments-length : (names : List RegionName) (k : ℕ) (rs : List Named) → is_count (Some k) rs ≡ true → length (arguments_or names k rs) ≡ k
    arguments-length names k [] i = length-replicate k regions.Heap
    arguments-length names k (r ∷ rs) i = length-map (r ∷ rs) (formation.region_of names) ∙ eqb-true (length (r ∷ rs)) k i

    field_types-map : (rs : List Region) (fs : List Field) → field_types rs fs ≡ map (substituted_ty rs) (map (λ (f : Field). f.of_type) fs)
    field_types-map rs [] = refl
    field_types-map rs (f ∷ fs) = ap (λ ts. substituted_ty rs f.of_type ∷ ts) (field_types-map rs fs)

    fields_well : (s : Named) (rs : List Named) (es : Expressions) (as' : List typed.Expression) → Aligned es as' → AreWell as' → IsMadeOf (fields_made g s rs es as')
    fields_well s rs es as' al ws kept =
        let number : ℕ = struct_number g.structs s.name in
        let ts : List Ty = field_types (arguments_written g s rs) (fields_known g s) in
        let ((there, (count, names)), (given, passing)) = kept_append (struct_demanded g.structs g.names None s.place s rs) (_ ∷ passed_demanded g.regions es as' ts) kept in
        let (k, is) = some_there (parameters_among g.structs s.name) there in
        let (d, at_number, parameters) = fits.structs s.name k is in
        let (fs, at_fields, types) = fits.fields number d at_number in
        let known : fields_known g s ≡ fs = ap (λ o. unwrap_or o []) at_fields in
        let same : ts ≡ map (substituted_ty (arguments_written g s rs)) d.fields =
        ap (field_types (arguments_written g s rs)) known ∙ (field_types-map (arguments_written g s rs) fs ∙ ap (map (substituted_ty (arguments_written g s rs))) (sym types)) in
        let counted : length (arguments_written g s rs) ≡ k =
        ap (λ o. length (arguments_or g.names (unwrap_or o 0) rs)) is ∙ arguments-length g.names k rs (subst (λ o. is_count o rs ≡ true) is count) in
        let long : length as' ≡ length ts = eqb-true (length as') (length (fields_known g s)) given ∙ sym (length-map (fields_known g s) (λ (f : Field). substituted_ty (arguments_written g s rs) f.of_type)) in (
          number,
          arguments_written g s rs,
          d,
          at_number,
          counted ∙ sym parameters,
          subst (λ us. ArePassed here us (passed as' ts)) same (passed_well es as' ts al ws long passing),
          refl,
          refl,
        )

  -- ---- all forms

  mutual
    pub well : (g : Scope) (fits : Fits g) (e : Expression) (a : typed.Expression) → Derives (rule g e) a → WellTyped (at g) a (type_of a)
    well g fits (Number q n) a (u, eq) = subst (IsWell g fits) (sym eq) refl
    well g fits (Character q c) a (u, eq) = subst (IsWell g fits) (sym eq) refl
    well g fits (Null q) a (u, eq) = subst (IsWell g fits) (sym eq) refl
    well g fits (HeapRegion q) a (u, eq) = subst (IsWell g fits) (sym eq) refl
    well g fits (UniqueRegion q) a d = absurd d
    well g fits (Variable x) a d = read_well g fits (meaning_of g x) x.place a (meant g fits x) d
    well g fits (Call x es) a (bs, hs, d) = called_well g fits (meaning_of g x) x.place es bs a (meant g fits x) (aligned g es bs hs) (all_well g fits es bs hs) d
    well g fits (Bracketed q e) a d = well g fits e a d
    well g fits (NumberOfElements q e) a (b, kb, ((i, u), eq)) =
        subst (IsWell g fits) (sym eq) (counted_by g fits b (type_of b) (seen_well g fits e (rule g e) b (λ c k. well g fits e c k) kb) i)
    well g fits (LowByteOf q e) a (b, kb, ((i, u), eq)) =
        subst (IsWell g fits) (sym eq) (Value Int, (int_well g fits (as_int b) (int_served g fits b (well g fits e b kb)) i, refl), refl)
    well g fits (FreeUnique q e) a (b, kb, d) = freed_well g fits (place_of e) b a (well g fits e b kb) d
    well g fits (FreeKey q x) a d = key_freed_well g fits (meaning_of g x) x.place a (meant g fits x) d
    well g fits (Chained e ps) a (w, kw, d) =
        loaded_well g fits (place_of e) w a (postfixed_well g fits (place_of e) e ps w (λ b k. seen_well g fits e (rule g e) b (λ c j. well g fits e c j) k) kw) d
    well g fits (Prefixed q prefixes.Negate e) a (b, kb, ((i, u), eq)) =
        subst (IsWell g fits) (sym eq) (Value Int, (int_well g fits (as_int b) (int_served g fits b (well g fits e b kb)) i, refl), refl)
    well g fits (Prefixed q prefixes.Not e) a (b, kb, ((i, u), eq)) =
        subst (IsWell g fits) (sym eq) (type_of (as_int b), (seen_served g fits b (seen_well g fits e (rule g e) b (λ c k. well g fits e c k) kb), i), refl)
    well g fits (Prefixed q prefixes.Complement e) a (b, kb, ((i, u), eq)) =
        subst (IsWell g fits) (sym eq) (Value Int, (int_well g fits (as_int b) (int_served g fits b (well g fits e b kb)) i, refl), refl)
    well g fits (Prefixed q prefixes.Dereference e) a (b, kb, d) =
        loaded_well g fits q (pointed g (place_of e) b) a (pointed_well g fits (place_of e) b (seen_well g fits e (rule g e) b (λ c k. well g fits e c k) kb)) d
    well g fits (Prefixed q prefixes.AddressOf e) a (x, kx, d) = addressed_well g fits (place_inside e) x a (found_well g fits (place_of e) e x kx) d
    well g fits (New q i) a (m, km, d) = created_well g fits on_heap m a (λ kept. refl) (made_well g fits i m km) d
    well g fits (RegionNew q e i) a (w, kw, (m, km, d)) =
        created_well g fits w m a (placement_well g fits (place_of e) e (rule g e) w (λ b k. well g fits e b k) kw) (made_well g fits i m km) d
    well g fits (Binary e os) a (b, kb, (bs, ks, (u, eq))) =
        let c : typed.Expression = as_int b in
        let first : IsOperand g fits (is_looking_first os) c = operand_served g fits (is_looking_first os) b (operand_of g fits (is_looking_first os) e b (λ d k. well g fits e d k) kb) in
        subst (IsWell g fits) (sym eq) (type_of c, first_well g fits (place_of e) c os bs first ks, chain_well g fits (place_of e) (peeked_local c) (type_of c) os bs ks, refl)
    well g fits (Assign e v) a (x, kx, (b, kb, d)) = assigned_well g fits x (place_of v) b a (found_well g fits (place_of e) e x kx) (well g fits v b kb) d

    all_well : (g : Scope) (fits : Fits g) (es : Expressions) (as' : List typed.Expression) → Derives (rule_all g es) as' → AreWell g fits as'
    all_well g fits NoExpressions as' (u, eq) = subst (AreWell g fits) (sym eq) tt
    all_well g fits (MoreExpressions e es) as' (a, k, (bs, ks, (u, eq))) = subst (AreWell g fits) (sym eq) (well g fits e a k, all_well g fits es bs ks)

    chain_well : (g : Scope) (fits : Fits g) (q : Place) (k : Option ℕ) (left : ValueType) (os : Operations) (bs : typed.Operations × Ty) → Derives (rule_chain g q k left os) bs → IsChain (at g) left bs.0 bs.1
    chain_well g fits q k left NoOperations bs ((i, u), eq) = subst (λ (z : typed.Operations × Ty). IsChain (at g) left z.0 z.1) (sym eq) (value_there g fits left i)
    chain_well g fits q k left (ThenOperation op o e os) bs (put, (b, kb, d), (cs, ks, (u, eq))) =
        subst (λ (z : typed.Operations × Ty). IsChain (at g) left z.0 z.1) (sym eq)
        (joined_well g fits q (place_of e) k left (as_int b) op put (operand_served g fits (is_looking op) b (operand_of g fits (is_looking op) e b (λ c j. well g fits e c j) kb)) d cs.0 cs.1 (chain_well g fits q None (Value put.1) os cs ks))

    pub found_well : (g : Scope) (fits : Fits g) (q : Place) (e : Expression) (x : Found) → Derives (rule_place g q e (rule g e)) x → IsFound g fits x
    found_well g fits q (Variable y) x d = place_well g fits (meaning_of g y) y.place q x (meant g fits y) d
    found_well g fits q (Bracketed o e) x d = found_well g fits q e x d
    found_well g fits q (Prefixed o prefixes.Dereference e) x (b, kb, d) =
        reached_well g fits (pointed g (place_of e) b) x (pointed_well g fits (place_of e) b (seen_well g fits e (rule g e) b (λ c k. well g fits e c k) kb)) d
    found_well g fits q (Prefixed o prefixes.Negate e) x (b, kb, d) = absurd d
    found_well g fits q (Prefixed o prefixes.Not e) x (b, kb, d) = absurd d
    found_well g fits q (Prefixed o prefixes.Complement e) x (b, kb, d) = absurd d
    found_well g fits q (Prefixed o prefixes.AddressOf e) x (b, kb, d) = absurd d
    found_well g fits q (Chained e ps) x (w, kw, d) =
        reached_well g fits w x (postfixed_well g fits (place_of e) e ps w (λ b k. seen_well g fits e (rule g e) b (λ c j. well g fits e c j) k) kw) d
    found_well g fits q e x (b, kb, d) = absurd d

    postfixed_well : (g : Scope) (fits : Fits g) (q : Place) (e : Expression) (ps : Postfixes) (w : Reached)
        → ((a : typed.Expression) → Derives (rule_looked g e (rule g e)) a → IsSeen g fits a (type_of a)) → Derives (rule_postfixed g q (rule_looked g e (rule g e)) ps) w → IsReached g fits w
    postfixed_well g fits q e NoPostfixes w first d = absurd d
    postfixed_well g fits q e (ThenIndex i ps) w first (a, ka, (b, kb, d)) =
        further_well g fits q (indexed g q a (place_of i) (as_int b)) ps w (indexed_well g fits q (place_of i) a (as_int b) (first a ka) (int_served g fits b (well g fits i b kb))) d
    postfixed_well g fits q e (ThenField f ps) w first (a, ka, d) = further_well g fits q (selected g q a f) ps w (selected_well g fits q a f (first a ka)) d

    further_well : (g : Scope) (fits : Fits g) (q : Place) (v : Reached) (ps : Postfixes) (w : Reached) → IsReached g fits v → Derives (rule_further g q v ps) w → IsReached g fits w
    further_well g fits q v NoPostfixes w r (u, eq) = subst (IsReached g fits) (sym eq) r
    further_well g fits q v (ThenIndex i ps) w r (a, ka, (b, kb, d)) =
        further_well g fits q (indexed g q a (place_of i) (as_int b)) ps w (indexed_well g fits q (place_of i) a (as_int b) (inl (loaded_well g fits q v a r ka)) (int_served g fits b (well g fits i b kb))) d
    further_well g fits q v (ThenField f ps) w r (a, ka, d) =
        further_well g fits q (selected g q a f) ps w (selected_well g fits q a f (inl (loaded_well g fits q v a r ka))) d

    made_well : (g : Scope) (fits : Fits g) (i : Initial) (m : Made) → Derives (rule_made g i) m → IsMadeOf g fits m
    made_well g fits (Plain e) m (a, ka, (u, eq)) =
        subst (IsMadeOf g fits) (sym eq)
        (λ (kept : AllKept (plain_made (place_of e) a).asked). plain_by g fits a (type_of a) (well g fits e a ka) kept.0 (not-true (is_value is_key (type_of a)) (kept.1).0))
    made_well g fits (Fields s rs es) m (as', ks, (u, eq)) = subst (IsMadeOf g fits) (sym eq) (fields_well g fits s rs es as' (aligned g es as' ks) (all_well g fits es as' ks))
    made_well g fits (Array q x n e) m (a, ka, (b, kb, (u, eq))) =
        subst (IsMadeOf g fits) (sym eq)
        (λ (kept : AllKept (array_made g.counters q (place_of n) (as_int a) (place_of e) b).asked).
        array_by g fits (at g) q (as_int a) b (type_of b) (int_well g fits (as_int a) (int_served g fits a (well g fits n a ka)) kept.0) (well (with_counter x g) (counting g x fits) e b kb) (kept.1).0 (not-true (is_value is_key (type_of b)) ((kept.1).1).0))
