-- The typing rules of statements and of block items derive only well-typed trees.
use Rattle.std.proofs.Common.{◌≡◌, ℕ, suc, ◌+◌, ◌≤◌, Bool, true, false, not, ◌&&◌, ◌||◌, List, [], ◌∷◌, ◌++◌, Option, Some, None, length, slice_get, refl, sym, ap, subst, ◌∙◌, arith}
use Rattle.std.specs.Prelude.{is_some, unwrap_or, option_map}
use Rattle.std.proofs.lemmas.Bool.{and_parts, or_left, or_right, true≢false, not-true}
use Rattle.cyc_words.proofs.Members.{Contains-head, Contains-tail}
use Rattle.cyc_words.proofs.Items.{slice_get_front, slice_get_after}
use Rattle.cyc_syntax.specs.Symbols.{Place}
use Rattle.cyc_syntax.specs.Trees.{Named, Pointer, BaseType, Struct, WrittenType, Expression, Statement, Block, Labelled, Empty, Evaluate, Swap, If, IfElse, While, Return, Break, Continue}
use Rattle.cyc_syntax.specs.Trees.{Throw, Try, Body, Braces, Items, NoItems, MoreItems, Item, Execute, Local, Region, Alias, DynamicRegion, Clauses, NoClauses, Default, Case, place_of}
use Rattle.cyc_syntax.specs.Trees as written
use Rattle.cyc_types.specs.declared.region.Region.{Region as RegionCode}
use Rattle.cyc_types.specs.declared.region.Region.TheVariants as regions
use Rattle.cyc_types.specs.declared.scope.Kind.{Kind}
use Rattle.cyc_types.specs.declared.scope.Kind.TheVariants as kinds
use Rattle.cyc_types.specs.Types.{region_eq, Ty, Int, Handle, Key}
use Rattle.cyc_types.specs.Types as types
use Rattle.cyc_types.specs.Outlives.{live_regions}
use Rattle.cyc_types.specs.Declarations.{declared_types, item_types, clause_types}
use Rattle.cyc_types.specs.TypedTrees.{Side, VariableSide, CellSide, Converted, type_of}
use Rattle.cyc_types.specs.TypedTrees as typed
use Rattle.cyc_types.specs.Rules.{AllKept, Derives}
use Rattle.cyc_types.specs.typing.Scopes.{RegionName, StructName, Ordinary, OfRegion, Meaning, Unknown, Fixed, Counter, Routine, Scope, region_among, meaning_of, counted, locals_in, item_locals, regions_in}
use Rattle.cyc_types.specs.typing.Scopes.{body_regions, item_regions, clause_regions, following, with_scope, in_block, with_name, in_labelled, in_body, with_local, with_opened, with_region, with_key_opened}
use Rattle.cyc_types.specs.typing.Scopes as scopes
use Rattle.cyc_types.specs.typing.Tests.{is_left_out, ty_eq, is_unique, is_key, is_struct, region_of}
use Rattle.cyc_types.specs.typing.Formation.{left_out_at, region_or, pointers_written, base_written, type_written, is_known, is_name_of, base_demanded, type_demanded}
use Rattle.cyc_types.specs.typing.Formation as formation
use Rattle.cyc_types.specs.typing.Expressions.{as_int, Found, type_of_side, rule, rule_place}
use Rattle.cyc_types.specs.typing.Statements.{rule_condition, returned, rule_returned, swapped, exception_among, rule_thrown, thrown_demanded, is_given, thrown, caught, after_clause, local_type}
use Rattle.cyc_types.specs.typing.Statements.{rule_initial, number_of_region, opened, with_region_of, alias_type, aliased, following_item, rule_statement, rule_body, rule_items, rule_clauses}
use Rattle.cyc_types.specs.typing.WellTyped.{Context, IsVariable, WellTyped, IsCell, IsCondition, IsInitial, IsReturned, IsSide, IsException, IsThrown, WellTypedStatement, WellTypedItems, WellTypedClauses}
use Rattle.cyc_types.specs.typing.WellTyped as judgement
use Rattle.cyc_types.proofs.RegionLemmas.{region_eq-true}
use Rattle.cyc_types.proofs.typing.ListLemmas.{Holds}
use Rattle.cyc_types.proofs.typing.TestLemmas.{kept_append, ty_eq-true}
use Rattle.cyc_types.proofs.typing.ExpressionLemmas.{IsKeyOfVariable, in_scope, all_variables, at, IsMeant, Fits, meant, converted_well, int_well, int_served, seen_served, place_of_variable, variable_of_place, seen_well, IsFoundIn, well, found_well}
use Rattle.cyc_types.proofs.typing.CountLemmas.{AreCounted, statement_counted, items_counted}

-- ---- keys in written types

-- if a declared region name denotes neither the heap nor the unique region, it denotes a region variable
variable_named : (names : List RegionName) (r : Named) → is_known names r ≡ true → not (is_name_of names regions.Unique r) ≡ true → not (is_name_of names regions.Heap r) ≡ true
    → IsKeyOfVariable (Key (formation.region_of names r))
variable_named names r k u e = go (region_among names r.name) k u e
  where
    stands : RegionCode → Option RegionCode → Bool
    stands s None = false
    stands s (Some known) = region_eq known s

    go : (o : Option RegionCode) → is_some o ≡ true → not (stands regions.Unique o) ≡ true → not (stands regions.Heap o) ≡ true → IsKeyOfVariable (Key (unwrap_or o regions.Heap))
    go None k u e = absurd (cc)
    go (Some regions.Heap) k u e = absurd (cc)
    go (Some regions.Unique) k u e = absurd (cc)
    go (Some (regions.Variable n)) k u e = tt

pointers_no_key : (names : List RegionName) (d : RegionCode) (t : Ty) (m : Pointer) (ms : List Pointer) → IsKeyOfVariable (pointers_written names d t (m ∷ ms))
pointers_no_key names d t m [] = tt
pointers_no_key names d t m (n ∷ ms) = pointers_no_key names d (types.Pointer m.kind t (region_or names (left_out_at d (n ∷ ms)) m.region)) n ms

pub formed_key : (structs : List StructName) (names : List RegionName) (d : RegionCode) (w : WrittenType) → AllKept (type_demanded structs names None w) → IsKeyOfVariable (type_written structs names d w)
formed_key structs names d w kept = go w.base w.marks (kept_append (base_demanded structs names None w.place w.base) _ kept).0
  where
    go : (b : BaseType) (ms : List Pointer) → AllKept (base_demanded structs names None w.place b) → IsKeyOfVariable (pointers_written names d (base_written structs names b) ms)
    go written.Int [] k = tt
    go written.Char [] k = tt
    go (Struct s rs) [] k = tt
    go (written.Handle r) [] k = tt
    go (written.Key r) [] (known, (unique, (heap, u))) = variable_named names r known unique heap
    go b (m ∷ ms) k = pointers_no_key names d (base_written structs names b) m ms

module _ (p : typed.Program) (h : typed.Function) where
  -- ---- scopes still agree with the program

  abbrev fitting : Scope → Type 0
  fitting g = Fits p h g

  going_on : (g : Scope) (n m : ℕ) (taken : List ℕ) → Fits p h g → Fits p h (record g { next_local = n; next_region = m; taken = taken })
  going_on g n m taken fits = record {
    locals = fits.locals;
    program = fits.program;
    structs = fits.structs;
    fields = fits.fields;
    members = fits.members;
    exceptions = fits.exceptions;
    written = fits.written;
    opened = fits.opened;
    same = fits.same;
    live = fits.live;
  }

  naming : (g : Scope) (r : Named) → Fits p h g → Fits p h (with_name r g)
  naming g r fits = record {
    locals = fits.locals;
    program = fits.program;
    structs = fits.structs;
    fields = fits.fields;
    members = fits.members;
    exceptions = fits.exceptions;
    written = fits.written;
    opened = fits.opened;
    same = fits.same;
    live = fits.live;
  }

  looping : (g : Scope) → Fits p h g → Fits p h (in_body g)
  looping g fits = record {
    locals = fits.locals;
    program = fits.program;
    structs = fits.structs;
    fields = fits.fields;
    members = fits.members;
    exceptions = fits.exceptions;
    written = fits.written;
    opened = fits.opened;
    same = fits.same;
    live = fits.live;
  }

  entering : (g : Scope) → Fits p h g → Fits p h (in_block g)
  entering g fits = record {
    locals = fits.locals;
    program = fits.program;
    structs = fits.structs;
    fields = fits.fields;
    members = fits.members;
    exceptions = fits.exceptions;
    written = fits.written;
    opened = fits.opened;
    same = fits.same;
    live = Contains-head (regions.Variable g.next_region) (live_regions g.regions.live g.regions.opened);
  }

  -- a scope still agrees with the typed function after it opens the region of a region variable in a block
  opening : (g : Scope) (k : Kind) (n m : ℕ) → Fits p h g → Fits p h (record g { next_region = m; regions = with_scope k (regions.Variable n) g.regions })
  opening g k n m fits = record {
    locals = fits.locals;
    program = fits.program;
    structs = fits.structs;
    fields = fits.fields;
    members = fits.members;
    exceptions = fits.exceptions;
    written = fits.written;
    opened = fits.opened;
    same = fits.same;
    live = Contains-tail (regions.Variable n) (live_regions g.regions.live g.regions.opened) (regions.Variable g.region) fits.live;
  }

  declaring : (g : Scope) (x : Named) (t : Ty) → Fits p h g → slice_get (all_variables p h) g.next_local ≡ Some t → IsKeyOfVariable t → Fits p h (with_local Ordinary x t g)
  declaring g x t fits known key = record {
    locals = ((known, key), fits.locals);
    program = fits.program;
    structs = fits.structs;
    fields = fits.fields;
    members = fits.members;
    exceptions = fits.exceptions;
    written = fits.written;
    opened = fits.opened;
    same = fits.same;
    live = fits.live;
  }

  holding : (g : Scope) (x : Named) (r : RegionCode) → Fits p h g → slice_get (all_variables p h) g.next_local ≡ Some (Handle r) → Fits p h (with_local OfRegion x (Handle r) g)
  holding g x r fits known = record {
    locals = ((known, refl), fits.locals);
    program = fits.program;
    structs = fits.structs;
    fields = fits.fields;
    members = fits.members;
    exceptions = fits.exceptions;
    written = fits.written;
    opened = fits.opened;
    same = fits.same;
    live = fits.live;
  }

  -- if a function's locals from number n on are m locals of a construct and then `us`, its locals from n + m on are `us`
  after_locals : (n m : ℕ) (ts us : List Ty) → length ts ≡ m → Holds (all_variables p h) n (ts ++ us) → Holds (all_variables p h) (n + m) us
  after_locals n m ts us same k i j t e at_i = k (length ts + i) j t (omega arith) (slice_get_after ts us i (length ts + i) t refl at_i)

  after_same : (g : Scope) (s : Statement) (t : typed.Statement) → Derives (rule_statement g s) t → at p h (following g s) ≡ judgement.following (at p h g) t
  after_same g s t d =
      let (l, r) = statement_counted g s t d in
      ap (λ n. at p h (record g { next_local = g.next_local + n; next_region = g.next_region + regions_in s })) (sym l)
      ∙ ap (λ n. at p h (record g { next_local = g.next_local + length (declared_types t); next_region = g.next_region + n })) (sym r)

  -- ---- parts of statements

  condition_well : (g : Scope) (fits : Fits p h g) (e : Expression) (a : typed.Expression) → Derives (rule_condition g e) a → IsCondition (at p h g) a
  condition_well g fits e a (b, kb, ((i, u), eq)) =
      subst (IsCondition (at p h g)) (sym eq) (type_of (as_int b), seen_served p h g fits b (seen_well p h g fits e (rule g e) b (λ c k. well p h g fits e c k) kb), i)

  value_well : (g : Scope) (fits : Fits p h g) (o : Option Ty) (q s : Place) (a : typed.Expression) (c : Option Converted) → WellTyped (at p h g) a (type_of a) → Derives (returned g o q s a) c → IsReturned (at p h g) o c
  value_well g fits None q s a c w d = absurd d
  value_well g fits (Some t) q s a c w (kept, eq) = subst (IsReturned (at p h g) (Some t)) (sym eq) (converted_well p h g fits a t s w kept)

  nothing_well : (c : Context) (o : Option Ty) → is_left_out o ≡ true → IsReturned c o None
  nothing_well c None k = tt
  nothing_well c (Some t) k = absurd (cc)

  returned_well : (g : Scope) (fits : Fits p h g) (q : Place) (v : Option Expression) (c : Option Converted) → Derives (rule_returned g q v) c → IsReturned (at p h g) h.result c
  returned_well g fits q None c ((k, u), eq) =
      subst (λ o. IsReturned (at p h g) o c) fits.same (subst (IsReturned (at p h g) g.result) (sym eq) (nothing_well (at p h g) g.result k))
  returned_well g fits q (Some e) c (a, k, d) = subst (λ o. IsReturned (at p h g) o c) fits.same (value_well g fits g.result q (place_of e) a c (well p h g fits e a k) d)

  side_well : (g : Scope) (fits : Fits p h g) (s : Side) (r : RegionCode) (t : Ty) → type_of_side s ≡ t → IsFoundIn p h g fits s r → IsSide (at p h g) s t
  side_well g fits (VariableSide l u) r t e k = (r, k, sym e)
  side_well g fits (CellSide d) r t e k = (r, subst (λ z. IsCell (at p h g) d z r) e k)

  swapped_well : (g : Scope) (fits : Fits p h g) (q : Place) (a b : Expression) (x y : Found) (t : typed.Statement)
      → Derives (rule_place g (place_of a) a (rule g a)) x → Derives (rule_place g (place_of b) b (rule g b)) y → Derives (swapped q x y) t → WellTypedStatement (at p h g) t
  swapped_well g fits q a b x y t kx ky ((k, u), eq) =
      let (same, whole) = and_parts (ty_eq (type_of_side x.side) (type_of_side y.side)) (not (is_struct (type_of_side x.side))) k in
      subst (WellTypedStatement (at p h g)) (sym eq) (
        type_of_side x.side,
        side_well g fits x.side x.region (type_of_side x.side) refl (found_well p h g fits (place_of a) a x kx),
        side_well g fits y.side y.region (type_of_side x.side) (sym (ty_eq-true (type_of_side x.side) (type_of_side y.side) same)) (found_well p h g fits (place_of b) b y ky),
        not-true (is_struct (type_of_side x.side)) whole,
      )

  -- ---- exceptions

  int_thrown : (g : Scope) (fits : Fits p h g) (v : Option Expression) (a : Option typed.Expression) → Derives (rule_thrown g v) a → (has : Bool) (q : Place) → AllKept (thrown_demanded has q v a) → IsThrown (at p h g) has a
  int_thrown g fits None a (u, eq) true q (k, none) = absurd (cc)
  int_thrown g fits None a (u, eq) false q kept = subst (IsThrown (at p h g) false) (sym eq) tt
  int_thrown g fits (Some e) a (b, kb, (u, eq)) false q kept =
      let known : AllKept (thrown_demanded false q (Some e) (Some (as_int b))) = subst (λ z. AllKept (thrown_demanded false q (Some e) z)) eq kept in absurd (true≢false (sym known.0))
  int_thrown g fits (Some e) a (b, kb, (u, eq)) true q kept =
      let known : AllKept (thrown_demanded true q (Some e) (Some (as_int b))) = subst (λ z. AllKept (thrown_demanded true q (Some e) z)) eq kept in
      subst (IsThrown (at p h g) true) (sym eq) (int_well p h g fits (as_int b) (int_served p h g fits b (well p h g fits e b kb)) (known.1).0)

  thrown_well : (g : Scope) (fits : Fits p h g) (x : Named) (v : Option Expression) (a : Option typed.Expression) → Derives (rule_thrown g v) a → (o : Option Bool) → exception_among g.exceptions x.name ≡ o → (t : typed.Statement)
      → Derives (thrown g o x v a) t → WellTypedStatement (at p h g) t
  thrown_well g fits x v a ka None e t d = absurd d
  thrown_well g fits x v a ka (Some has) e t (kept, eq) = subst (WellTypedStatement (at p h g)) (sym eq) (has, fits.exceptions x.name has e, int_thrown g fits v a ka has x.place kept)

  -- ---- items

  initial_well : (g : Scope) (fits : Fits p h g) (w : WrittenType) (x : Named) (v : Option Expression) (c : Ty × Option Converted) → AllKept (type_demanded g.structs g.names None w) → Derives (rule_initial g w x v) c
      → IsInitial (at p h g) c.1 c.0 × IsKeyOfVariable c.0
  initial_well g fits w x None c formed (k, eq) =
      subst (λ (z : Ty × Option Converted). IsInitial (at p h g) z.1 z.0 × IsKeyOfVariable z.0) (sym eq) (tt, formed_key g.structs g.names regions.Heap w formed)
  initial_well g fits w x (Some e) c formed (a, ka, ((new, kept), eq)) =
      subst (λ (z : Ty × Option Converted). IsInitial (at p h g) z.1 z.0 × IsKeyOfVariable z.0) (sym eq)
      (converted_well p h g fits a (local_type g (type_of a) w) (place_of e) (well p h g fits e a ka) kept, formed_key g.structs g.names _ w formed)

  -- says that a declaration that opens a dynamic region by a key opens the region of that key
  abbrev IsOpened : Scope → Named → typed.Item → Place → Type 0
  IsOpened g r j q = (n k : ℕ) × (j ≡ typed.OpenRegion n g.next_local q k) × IsVariable (at p h g) (typed.Local q k) (Key (regions.Variable n)) × (formation.region_of g.names r ≡ regions.Variable n)

  opened_by : (g : Scope) (r : Named) (q : Place) (k : ℕ) (t : Ty) (j : typed.Item) → IsVariable (at p h g) (typed.Local q k) t → IsKeyOfVariable t → is_key t ≡ true
      → not (is_key t) || region_eq (formation.region_of g.names r) (region_of t) ≡ true → j ≡ typed.OpenRegion (number_of_region (region_of t)) g.next_local q k → IsOpened g r j q
  opened_by g r q k (Key (regions.Variable n)) j there key is same eq = (n, k, eq, there, region_eq-true (formation.region_of g.names r) (regions.Variable n) same)
  opened_by g r q k (Key regions.Heap) j there key is same eq = absurd key
  opened_by g r q k (Key regions.Unique) j there key is same eq = absurd key
  opened_by g r q k t j there key is same eq = absurd (cc)

  opened_well : (g : Scope) (fits : Fits p h g) (r x : Named) (m : Meaning) → IsMeant p h (in_scope g.locals) g.counters m → (q : Place) (j : typed.Item) → Derives (opened g r x m q) j → IsOpened g r j q
  opened_well g fits r x Unknown k q j d = absurd d
  opened_well g fits r x (scopes.Variable (typed.Local o n) t home) (there, known, key) q j ((new, (same, (is, u))), eq) =
      opened_by g r q n t j (variable_of_place p h g (typed.Local q n) t home (place_of_variable p h g (typed.Local q n) t home (there, known, key))) key is same eq
  opened_well g fits r x (scopes.Variable (typed.Global n) t home) (e, known, key) q j ((new, (same, (is, u))), eq) = absurd (true≢false (sym is ∙ key))
  opened_well g fits r x (Fixed (typed.Local o n) t) (there, known, moved) q j ((new, (same, (is, u))), eq) = absurd (true≢false (sym (or_right (is_unique t) (is_key t) is) ∙ moved))
  opened_well g fits r x (Fixed (typed.Global n) t) k q j d = absurd k
  opened_well g fits r x (Counter n) k q j ((new, (same, (is, u))), eq) = absurd (cc)
  opened_well g fits r x (Routine f s) k q j d = absurd d

  -- says that an alias has the type of the unique pointer it shares, except for the region
  abbrev IsAliased : Scope → typed.Item → Place → Type 0
  IsAliased g j q = (t u : Ty) × (k : ℕ) × (j ≡ typed.DeclareAlias g.next_region g.next_local t q k) × IsVariable (at p h g) (typed.Local q k) u × (is_unique u ≡ true)
      × (t ≡ with_region_of (regions.Variable g.next_region) u)

  aliased_well : (g : Scope) (fits : Fits p h g) (r x : Named) (w : WrittenType) (m : Meaning) → IsMeant p h (in_scope g.locals) g.counters m → (q : Place) (j : typed.Item) → Derives (aliased g r x w m q) j → IsAliased g j q
  aliased_well g fits r x w Unknown k q j d = absurd d
  aliased_well g fits r x w (scopes.Variable (typed.Local o n) t home) (there, known, key) q j ((new, (same, (shared, (is, u)))), eq) =
      let alike : ty_eq (alias_type g r w t) (with_region_of (regions.Variable g.next_region) t) ≡ true =
      subst (λ b. not b || ty_eq (alias_type g r w t) (with_region_of (regions.Variable g.next_region) t) ≡ true) is same in (
        alias_type g r w t,
        t,
        n,
        eq,
        variable_of_place p h g (typed.Local q n) t home (place_of_variable p h g (typed.Local q n) t home (there, known, key)),
        is,
        ty_eq-true (alias_type g r w t) (with_region_of (regions.Variable g.next_region) t) alike,
      )
  aliased_well g fits r x w (scopes.Variable (typed.Global n) t home) k q j ((new, (same, (shared, (is, u)))), eq) =
      absurd (true≢false (sym (subst (λ b. not (b && true) ≡ true) is shared)))
  aliased_well g fits r x w (Fixed (typed.Local o n) t) (there, known, moved) q j ((new, (same, (shared, (is, u)))), eq) = absurd (true≢false (sym (or_left (is_unique t) (is_key t) is) ∙ moved))
  aliased_well g fits r x w (Fixed (typed.Global n) t) k q j d = absurd k
  aliased_well g fits r x w (Counter n) k q j ((new, (same, (shared, (is, u)))), eq) = absurd (cc)
  aliased_well g fits r x w (Routine f s) k q j d = absurd d

  -- a pointer type is not a key type
  alias_no_key : (r : RegionCode) (u : Ty) → is_unique u ≡ true → IsKeyOfVariable (with_region_of r u)
  alias_no_key r (types.Pointer k t s) is = tt
  alias_no_key r u is = absurd (cc)

  -- says that the exception of a catch clause is declared, and declared with an int exactly if the clause receives an int
  abbrev IsFor : Scope → Option Named → ℕ → Type 0
  IsFor g v n = (has : Bool) × IsException (at p h g) n has × (has ≡ is_some v)

  given_same : (has given : Bool) → is_given has given ≡ true → has ≡ given
  given_same true true e = refl
  given_same true false e = absurd (cc)
  given_same false true e = absurd (cc)
  given_same false false e = refl

  caught_well : (g : Scope) (fits : Fits p h g) (before : List ℕ) (x : Named) (v : Option Named) (o : Option Bool) → exception_among g.exceptions x.name ≡ o → (n : ℕ) → Derives (caught g o before x v) n → IsFor g v n
  caught_well g fits before x v None e n d = absurd d
  caught_well g fits before x v (Some has) e n ((new, (given, u)), eq) = subst (IsFor g v) (sym eq) (has, fits.exceptions x.name has e, given_same has (is_some v) given)

  clause_same : (g : Scope) (v : Option Named) (is : Items) (js : typed.Items) → AreCounted is js → at p h (after_clause g (counted v) is) ≡ judgement.after_clause (at p h g) (option_map (λ (y : Named). g.next_local) v) js
  clause_same g None is js (l, r) =
      ap (λ n. at p h (record g { next_local = g.next_local + (0 + n); next_region = g.next_region + suc (item_regions is) })) (sym l)
      ∙ ap (λ n. at p h (record g { next_local = g.next_local + (0 + length (item_types js)); next_region = g.next_region + suc n })) (sym r)
  clause_same g (Some y) is js (l, r) =
      ap (λ n. at p h (record g { next_local = g.next_local + (1 + n); next_region = g.next_region + suc (item_regions is) })) (sym l)
      ∙ ap (λ n. at p h (record g { next_local = g.next_local + (1 + length (item_types js)); next_region = g.next_region + suc n })) (sym r)

  -- ---- all forms

  mutual
    statement_well : (g : Scope) → Fits p h g → (s : Statement) (t : typed.Statement) → Holds (all_variables p h) g.next_local (declared_types t) → g.next_region + regions_in s ≤ h.regions
        → Derives (rule_statement g s) t → WellTypedStatement (at p h g) t
    statement_well g fits (Block c) t k l (js, d, (u, eq)) =
        subst (WellTypedStatement (at p h g)) (sym eq)
        ((refl, omega arith), body_well (in_block g) (entering g fits) c js (subst (λ z. Holds (all_variables p h) g.next_local (declared_types z)) eq k) (omega arith) d)
    statement_well g fits (Labelled x c) t k l (v, new, (js, d, (u, eq))) =
        subst (WellTypedStatement (at p h g)) (sym eq)
        ((refl, omega arith), body_well (in_labelled x g) (entering (with_name x g) (naming g x fits)) c js (subst (λ z. Holds (all_variables p h) g.next_local (declared_types z)) eq k) (omega arith) d)
    statement_well g fits (Empty q) t k l (u, eq) = subst (WellTypedStatement (at p h g)) (sym eq) tt
    statement_well g fits (Evaluate e) t k l (a, d, (u, eq)) = subst (WellTypedStatement (at p h g)) (sym eq) (type_of a, well p h g fits e a d)
    statement_well g fits (Swap a b) t k l (x, kx, (y, ky, d)) = swapped_well g fits (place_of a) a b x y t kx ky d
    statement_well g fits (If q e s) t k l (a, d, (b, ds, (u, eq))) =
        let inside : Holds (all_variables p h) g.next_local (declared_types b ++ []) = subst (λ z. Holds (all_variables p h) g.next_local (declared_types z)) eq k in
        subst (WellTypedStatement (at p h g)) (sym eq)
        (condition_well g fits e a d, statement_well g fits s b (λ i j x same at_i. inside i j x same (slice_get_front (declared_types b) [] i x at_i)) l ds, tt)
    statement_well g fits (IfElse q e s v) t k l (a, d, (b, ds, (c, es, (u, eq)))) =
        let inside : Holds (all_variables p h) g.next_local (declared_types b ++ declared_types c) = subst (λ z. Holds (all_variables p h) g.next_local (declared_types z)) eq k in
        let counts = statement_counted g s b ds in
        subst (WellTypedStatement (at p h g)) (sym eq) (
          condition_well g fits e a d,
          statement_well g fits s b (λ i j x same at_i. inside i j x same (slice_get_front (declared_types b) (declared_types c) i x at_i)) (omega arith) ds,
          subst (λ z. WellTypedStatement z c) (after_same g s b ds)
              (statement_well (following g s) (going_on g _ _ _ fits) v c (after_locals g.next_local (locals_in s) (declared_types b) (declared_types c) counts.0 inside) (omega arith) es),
        )
    statement_well g fits (While q e s) t k l (a, d, (b, ds, (u, eq))) =
        subst (WellTypedStatement (at p h g)) (sym eq)
        (condition_well g fits e a d, statement_well (in_body g) (looping g fits) s b (subst (λ z. Holds (all_variables p h) g.next_local (declared_types z)) eq k) l ds)
    statement_well g fits (Return q v) t k l (c, d, (u, eq)) = subst (WellTypedStatement (at p h g)) (sym eq) (returned_well g fits q v c d)
    statement_well g fits (Break q) t k l ((i, u), eq) = subst (WellTypedStatement (at p h g)) (sym eq) i
    statement_well g fits (Continue q) t k l ((i, u), eq) = subst (WellTypedStatement (at p h g)) (sym eq) i
    statement_well g fits (Throw q x v) t k l (a, ka, d) = thrown_well g fits x v a ka (exception_among g.exceptions x.name) refl t d
    statement_well g fits (Try q s cs) t k l (b, ds, (es, ks, (u, eq))) =
        let inside : Holds (all_variables p h) g.next_local (declared_types b ++ clause_types es) = subst (λ z. Holds (all_variables p h) g.next_local (declared_types z)) eq k in
        let counts = statement_counted g s b ds in
        subst (WellTypedStatement (at p h g)) (sym eq) (
          statement_well g fits s b (λ i j x same at_i. inside i j x same (slice_get_front (declared_types b) (clause_types es) i x at_i)) (omega arith) ds,
          subst (λ z. WellTypedClauses z es) (after_same g s b ds)
              (clauses_well (following g s) (going_on g _ _ _ fits) [] cs es (after_locals g.next_local (locals_in s) (declared_types b) (clause_types es) counts.0 inside) (omega arith) ks),
        )

    body_well : (g : Scope) → Fits p h g → (c : Body) (js : typed.Items) → Holds (all_variables p h) g.next_local (item_types js) → g.next_region + body_regions c ≤ h.regions
        → Derives (rule_body g c) js → WellTypedItems (at p h g) js
    body_well g fits (Braces o is q) js k l d = items_well g fits is js k l d

    pub items_well : (g : Scope) → Fits p h g → (is : Items) (js : typed.Items) → Holds (all_variables p h) g.next_local (item_types js) → g.next_region + item_regions is ≤ h.regions
        → Derives (rule_items g is) js → WellTypedItems (at p h g) js
    items_well g fits NoItems js k l (u, eq) = subst (WellTypedItems (at p h g)) (sym eq) tt
    items_well g fits (MoreItems (Execute s) is) js k l (j, (t, d, (u, is_j)), (ks, ds, (v, eq))) =
        let whole : js ≡ typed.MoreItems (typed.Execute t) ks = eq ∙ ap (λ i. typed.MoreItems i ks) is_j in
        let inside : Holds (all_variables p h) g.next_local (declared_types t ++ item_types ks) = subst (λ z. Holds (all_variables p h) g.next_local (item_types z)) whole k in
        let counts = statement_counted g s t d in
        subst (WellTypedItems (at p h g)) (sym whole) (
          statement_well g fits s t (λ i n x same at_i. inside i n x same (slice_get_front (declared_types t) (item_types ks) i x at_i)) (omega arith) d,
          subst (λ z. WellTypedItems z ks) (after_same g s t d)
              (items_well (following g s) (going_on g _ _ _ fits) is ks (after_locals g.next_local (locals_in s) (declared_types t) (item_types ks) counts.0 inside) (omega arith) ds),
        )
    items_well g fits (MoreItems (Local w x v) is) js k l (j, (u, formed, (c, d, (y, is_j))), (ks, ds, (z, eq))) =
        let whole : js ≡ typed.MoreItems (typed.Declare g.next_local c.0 c.1) ks = eq ∙ ap (λ i. typed.MoreItems i ks) is_j in
        let inside : Holds (all_variables p h) g.next_local (c.0 ∷ item_types ks) = subst (λ z. Holds (all_variables p h) g.next_local (item_types z)) whole k in
        let known : slice_get (all_variables p h) g.next_local ≡ Some c.0 = inside 0 g.next_local c.0 (omega arith) refl in
        let initial = initial_well g fits w x v c formed.0 d in
        subst (WellTypedItems (at p h g)) (sym whole) (
          (refl, known, fits.live),
          initial.0,
          items_well (with_local Ordinary x c.0 g) (declaring g x c.0 fits known initial.1) is ks (λ i n z same at_i. inside (suc i) n z (omega arith) at_i) (omega arith)
              (subst (λ z. Derives (rule_items (following_item g (Local w x v) z) is) ks) is_j ds),
        )
    items_well g fits (MoreItems (Region r x None) is) js k l (j, (kept, is_j), (ks, ds, (z, eq))) =
        let whole : js ≡ typed.MoreItems (typed.DeclareRegion g.next_region g.next_local) ks = eq ∙ ap (λ i. typed.MoreItems i ks) is_j in
        let t : Ty = Handle (regions.Variable g.next_region) in
        let inside : Holds (all_variables p h) g.next_local (t ∷ item_types ks) = subst (λ z. Holds (all_variables p h) g.next_local (item_types z)) whole k in
        let known : slice_get (all_variables p h) g.next_local ≡ Some t = inside 0 g.next_local t (omega arith) refl in
        subst (WellTypedItems (at p h g)) (sym whole) (
          (refl, omega arith),
          (refl, known, fits.live),
          items_well (with_local OfRegion x t (with_opened kinds.Lexical r g))
              (holding (with_opened kinds.Lexical r g) x (regions.Variable g.next_region) (opening (with_name r g) kinds.Lexical g.next_region (suc g.next_region) (naming g r fits)) known)
              is ks (λ i n z same at_i. inside (suc i) n z (omega arith) at_i) (omega arith) ds,
        )
    items_well g fits (MoreItems (Region r x (Some y)) is) js k l (j, (u, ku, d), (ks, ds, (z, eq))) =
        let (m, o, is_j, there, same) = opened_well g fits r x (meaning_of g y) (meant p h g fits y) y.place j d in
        let whole : js ≡ typed.MoreItems (typed.OpenRegion m g.next_local y.place o) ks = eq ∙ ap (λ i. typed.MoreItems i ks) is_j in
        let t : Ty = Handle (regions.Variable m) in
        let inside : Holds (all_variables p h) g.next_local (t ∷ item_types ks) = subst (λ z. Holds (all_variables p h) g.next_local (item_types z)) whole k in
        let known : slice_get (all_variables p h) g.next_local ≡ Some t = inside 0 g.next_local t (omega arith) refl in
        subst (WellTypedItems (at p h g)) (sym whole) (
          there,
          (refl, known, fits.live),
          items_well (with_local OfRegion x t (with_key_opened (regions.Variable m) g))
              (holding (with_key_opened (regions.Variable m) g) x (regions.Variable m) (opening g kinds.Dynamic m g.next_region fits) known)
              is ks (λ i n z same at_i. inside (suc i) n z (omega arith) at_i) (omega arith)
              (subst (λ z. Derives (rule_items (with_local OfRegion x (Handle z) (with_key_opened z g)) is) ks) same ds),
        )
    items_well g fits (MoreItems (Alias r w x y) is) js k l (j, (u, ku, (v, kv, d)), (ks, ds, (z, eq))) =
        let (t, shared, o, is_j, there, unique, same) = aliased_well g fits r x w (meaning_of g y) (meant p h g fits y) y.place j d in
        let whole : js ≡ typed.MoreItems (typed.DeclareAlias g.next_region g.next_local t y.place o) ks = eq ∙ ap (λ i. typed.MoreItems i ks) is_j in
        let inside : Holds (all_variables p h) g.next_local (t ∷ item_types ks) = subst (λ z. Holds (all_variables p h) g.next_local (item_types z)) whole k in
        let known : slice_get (all_variables p h) g.next_local ≡ Some t = inside 0 g.next_local t (omega arith) refl in
        subst (WellTypedItems (at p h g)) (sym whole) (
          (refl, omega arith),
          (shared, there, unique, same),
          (refl, known, fits.live),
          items_well (with_local Ordinary x t (with_opened kinds.Alias r g))
              (declaring (with_opened kinds.Alias r g) x t (opening (with_name r g) kinds.Alias g.next_region (suc g.next_region) (naming g r fits)) known
              (subst IsKeyOfVariable (sym same) (alias_no_key (regions.Variable g.next_region) shared unique)))
              is ks (λ i n z same at_i. inside (suc i) n z (omega arith) at_i) (omega arith)
              (subst (λ z. Derives (rule_items (following_item g (Alias r w x y) z) is) ks) is_j ds),
        )
    items_well g fits (MoreItems (DynamicRegion r x) is) js k l (j, (kept, is_j), (ks, ds, (z, eq))) =
        let whole : js ≡ typed.MoreItems (typed.DeclareKey g.next_region g.next_local) ks = eq ∙ ap (λ i. typed.MoreItems i ks) is_j in
        let t : Ty = Key (regions.Variable g.next_region) in
        let inside : Holds (all_variables p h) g.next_local (t ∷ item_types ks) = subst (λ z. Holds (all_variables p h) g.next_local (item_types z)) whole k in
        let known : slice_get (all_variables p h) g.next_local ≡ Some t = inside 0 g.next_local t (omega arith) refl in
        subst (WellTypedItems (at p h g)) (sym whole) (
          (refl, omega arith),
          (refl, known, fits.live),
          items_well (with_local Ordinary x t (with_region r g)) (declaring (with_region r g) x t (going_on (with_name r g) g.next_local (suc g.next_region) (with_name r g).taken (naming g r fits)) known tt)
              is ks (λ i n z same at_i. inside (suc i) n z (omega arith) at_i) (omega arith) ds,
        )

    clauses_well : (g : Scope) → Fits p h g → (before : List ℕ) (cs : Clauses) (ds : typed.Clauses) → Holds (all_variables p h) g.next_local (clause_types ds) → g.next_region + clause_regions cs ≤ h.regions
        → Derives (rule_clauses g before cs) ds → WellTypedClauses (at p h g) ds
    clauses_well g fits before NoClauses ds k l (u, eq) = subst (WellTypedClauses (at p h g)) (sym eq) tt
    clauses_well g fits before (Default is) ds k l (js, d, (u, eq)) =
        subst (WellTypedClauses (at p h g)) (sym eq)
        ((refl, omega arith), items_well (in_block g) (entering g fits) is js (subst (λ z. Holds (all_variables p h) g.next_local (clause_types z)) eq k) (omega arith) d)
    clauses_well g fits before (Case x None is cs) ds k l (n, kn, (js, d, (es, ks, (u, eq)))) =
        let inside : Holds (all_variables p h) g.next_local (item_types js ++ clause_types es) = subst (λ z. Holds (all_variables p h) g.next_local (clause_types z)) eq k in
        let (has, there, same) = caught_well g fits before x None (exception_among g.exceptions x.name) refl n kn in
        let counts = items_counted (in_block g) is js d in
        subst (WellTypedClauses (at p h g)) (sym eq) (
          false,
          subst (λ b. IsException (at p h g) n b) same there,
          tt,
          (refl, omega arith),
          items_well (in_block g) (entering g fits) is js (λ i j z same at_i. inside i j z same (slice_get_front (item_types js) (clause_types es) i z at_i)) (omega arith) d,
          subst (λ z. WellTypedClauses z es) (clause_same g None is js counts)
              (clauses_well (after_clause g 0 is) (going_on g _ _ _ fits) (x.name ∷ before) cs es
              (subst (λ m. Holds (all_variables p h) m (clause_types es)) (let e : g.next_local + item_locals is ≡ g.next_local + (0 + item_locals is) = omega arith in e)
              (after_locals g.next_local (item_locals is) (item_types js) (clause_types es) counts.0 inside)) (omega arith) ks),
        )
    clauses_well g fits before (Case x (Some y) is cs) ds k l (n, kn, (js, d, (es, ks, (u, eq)))) =
        let inside : Holds (all_variables p h) g.next_local (Int ∷ (item_types js ++ clause_types es)) = subst (λ z. Holds (all_variables p h) g.next_local (clause_types z)) eq k in
        let known : slice_get (all_variables p h) g.next_local ≡ Some Int = inside 0 g.next_local Int (omega arith) refl in
        let further : Holds (all_variables p h) (suc g.next_local) (item_types js ++ clause_types es) = λ i j z same at_i. inside (suc i) j z (omega arith) at_i in
        let (has, there, same) = caught_well g fits before x (Some y) (exception_among g.exceptions x.name) refl n kn in
        let counts = items_counted (with_local Ordinary y Int (in_block g)) is js d in
        subst (WellTypedClauses (at p h g)) (sym eq) (
          true,
          subst (λ b. IsException (at p h g) n b) same there,
          (refl, known),
          (refl, omega arith),
          items_well (with_local Ordinary y Int (in_block g)) (declaring (in_block g) y Int (entering g fits) known tt) is js
              (λ i j z same at_i. further i j z same (slice_get_front (item_types js) (clause_types es) i z at_i)) (omega arith) d,
          subst (λ z. WellTypedClauses z es) (clause_same g (Some y) is js counts)
              (clauses_well (after_clause g 1 is) (going_on g _ _ _ fits) (x.name ∷ before) cs es
              (subst (λ m. Holds (all_variables p h) m (clause_types es)) (let e : suc g.next_local + item_locals is ≡ g.next_local + (1 + item_locals is) = omega arith in e)
              (after_locals (suc g.next_local) (item_locals is) (item_types js) (clause_types es) counts.0 further)) (omega arith) ks),
        )
