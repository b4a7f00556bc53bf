-- A program accepted by the typing rules has no declaration whose type contains an undeclared region.
use Rattle.std.proofs.Common.{◌≡◌, ℕ, zero, suc, ◌+◌, ◌<◌, ◌≤◌, Bool, true, false, cond, nat_eq, List, [], ◌∷◌, ◌++◌, Option, Some, None, map, length, slice_get, inl, inr, refl, sym, ap, subst, ◌∙◌, arith}
use Rattle.std.specs.Prelude.{unwrap_or, codes}
use Rattle.std.proofs.lemmas.Bool.{true≢false, not-true}
use Rattle.std.proofs.lemmas.List.{length-map}
use Rattle.std.proofs.lemmas.Option.{none-some}
use Rattle.cyc_words.proofs.Numbers.{suc_pred}
use Rattle.cyc_syntax.specs.Names.{number_of}
use Rattle.cyc_syntax.specs.Symbols.{Place}
use Rattle.cyc_syntax.specs.Trees.{Named, Pointer as Mark, BaseType, WrittenType, Expression, Statement, Block, Labelled, Empty, Evaluate, Swap, If, IfElse, While, Return, Break, Continue, Throw, Try, Body, Braces}
use Rattle.cyc_syntax.specs.Trees.{Items, NoItems, MoreItems, Execute, Local, Region, Alias, DynamicRegion, Clauses, NoClauses, Default, Case, Member, Parameters, Declaration, StructType, Exceptions, Global, Function}
use Rattle.cyc_syntax.specs.Trees as written
use Rattle.cyc_types.specs.declared.region.Region.{Region as RegionCode}
use Rattle.cyc_types.specs.declared.region.Region.TheVariants as regions
use Rattle.cyc_types.specs.declared.typed.Callee.TheVariants as callees
use Rattle.cyc_types.specs.Types.{Ty, Int, Char, Handle, Key, ValueType, Value}
use Rattle.cyc_types.specs.Types as types
use Rattle.cyc_types.specs.TypedTrees.{Converted, Signature, type_of}
use Rattle.cyc_types.specs.TypedTrees as typed
use Rattle.cyc_types.specs.Rules.{AllKept, Derives}
use Rattle.cyc_types.specs.typing.Scopes.{signature_of_ints, RegionName, StructName, Field, Sort, Ordinary, OfRegion, Meaning, Unknown, Fixed, Counter, Routine, LocalVariable, Scope}
use Rattle.cyc_types.specs.typing.Scopes.{region_among, meaning_in, meaning_of, following, in_block, with_name, in_labelled, in_body, with_local, with_opened, with_region, with_key_opened}
use Rattle.cyc_types.specs.typing.Scopes as scopes
use Rattle.cyc_types.specs.typing.Tests.{is_key, region_of}
use Rattle.cyc_types.specs.typing.Formation.{Naming, left_out_at, region_or, base_written, pointers_written, type_for, after_type, types_for, base_for, after_base, pointers_for, after_mark, mark_for, after_region, regions_for, is_key_base, base_demanded, type_demanded}
use Rattle.cyc_types.specs.typing.Formation as formation
use Rattle.cyc_types.specs.typing.Statements.{exception_among, left_out_of, rule_initial, opened, alias_type, aliased, with_caught, after_clause, following_item, rule_statement, rule_body, rule_items, rule_clauses}
use Rattle.cyc_types.specs.typing.DeclarationRules.{Known, structs_of, parameter_names, fields_written, fields_of, members_of, parameter_naming, signature_of, declared_from, rule_fields, rule_parameters, rule_function_head, Before, after_head, rule_declarations}
use Rattle.cyc_types.specs.typing.Programs.{declared_before, known_of, before_all, Program, program_known, parameter_locals, body_scope, rule_functions, globals_of, struct_types, IsTypedProgram}
use Rattle.cyc_types.specs.inside.typing.Formed.{AllOf, AllIn, IsKnown, IsFormedStatement, AreFormedItems, AreFormedClauses, AreFormedFunctions, AreFormedGlobals, AreFormedFields, AreFormedStructs, IsFormedProgram}
use Rattle.cyc_types.proofs.typing.TestLemmas.{kept_append}
use Rattle.cyc_types.proofs.typing.ProgramLemmas.{base_before}
use Rattle.cyc_types.proofs.typing.NamingLemmas.{IsBase, IsNumbered, after_members_numbered, types_named}
use Rattle.cyc_types.proofs.typing.CountLemmas.{statement_counted, items_counted, thrown_shape}
use Rattle.cyc_types.specs.typing.WellTyped.{IsNamed, AreNamed, IsNamedIn, AreNamedIn}
use Rattle.cyc_types.proofs.typing.FormedLemmas.{known_more, IsCounted, IsFormed, formed_more, IsFormedValue, region_formed, name_known, arguments_counted, written_formed, AreFormedLocals, locals_more, IsFormedMeaning, IsFormedResult, AreFormedFieldTypes, IsFormedScope, meant_formed, formed_well}

-- ---- well-formedness of later scopes

-- a well-formed scope stays well-formed when the index that its next declared region will get grows
going_on : (g : Scope) (n m : ℕ) (taken : List ℕ) → g.next_region ≤ m → IsFormedScope g → IsFormedScope (record g { next_local = n; next_region = m; taken = taken })
going_on g n m taken l formed = record {
  names = λ x r e. known_more g.next_region m r l (formed.names x r e);
  locals = locals_more g.structs g.next_region m g.locals l formed.locals;
  region = (let k : g.region < g.next_region = formed.region in let j : g.region < m = omega arith in j);
  program = formed.program;
  fields = formed.fields;
}

entering : (g : Scope) → IsFormedScope g → IsFormedScope (in_block g)
entering g formed = record {
  names = λ x r e. known_more g.next_region (suc g.next_region) r (omega arith) (formed.names x r e);
  locals = locals_more g.structs g.next_region (suc g.next_region) g.locals (omega arith) formed.locals;
  region = omega arith;
  program = formed.program;
  fields = formed.fields;
}

-- a scope stays well-formed when the next region variable is declared with a name
named : (g : Scope) (r : Named) → IsFormedScope g → (x : ℕ) (s : RegionCode) → region_among (with_name r g).names x ≡ Some s → IsKnown (suc g.next_region) s
named g r formed x s e = go (nat_eq r.name x) e
  where
    go : (b : Bool) → cond b (Some (regions.Variable g.next_region)) (region_among g.names x) ≡ Some s → IsKnown (suc g.next_region) s
    go true f = subst (λ (o : Option RegionCode). IsKnown (suc g.next_region) (unwrap_or o regions.Heap)) f (let l : g.next_region < suc g.next_region = omega arith in l)
    go false f = known_more g.next_region (suc g.next_region) s (omega arith) (formed.names x s f)

labelled : (g : Scope) (r : Named) → IsFormedScope g → IsFormedScope (in_labelled r g)
labelled g r formed = record {
  names = named g r formed;
  locals = locals_more g.structs g.next_region (suc g.next_region) g.locals (omega arith) formed.locals;
  region = omega arith;
  program = formed.program;
  fields = formed.fields;
}

-- a scope stays well-formed when a block declares a region
declaring_region : (g : Scope) (r : Named) → IsFormedScope g → IsFormedScope (with_region r g)
declaring_region g r formed = record {
  names = named g r formed;
  locals = locals_more g.structs g.next_region (suc g.next_region) g.locals (omega arith) formed.locals;
  region = (let k : g.region < g.next_region = formed.region in let j : g.region < suc g.next_region = omega arith in j);
  program = formed.program;
  fields = formed.fields;
}

-- if two scopes differ only in their live regions and one is well-formed, then so is the other
opening : (g h : Scope) → IsFormedScope g → h.names ≡ g.names → h.next_region ≡ g.next_region → h.locals ≡ g.locals → h.region ≡ g.region → h.structs ≡ g.structs → h.program ≡ g.program → h.fields ≡ g.fields → IsFormedScope h
opening g h formed e1 e2 e3 e4 e5 e6 e7 = record {
  names = λ x r e. subst (λ n. IsKnown n r) (sym e2) (formed.names x r (ap (λ ns. region_among ns x) (sym e1) ∙ e));
  locals = subst (λ ss. AreFormedLocals ss h.next_region h.locals) (sym e5) (subst (λ n. AreFormedLocals g.structs n h.locals) (sym e2) (subst (AreFormedLocals g.structs g.next_region) (sym e3) formed.locals));
  region = subst (λ n. n < h.next_region) (sym e4) (subst (λ n. g.region < n) (sym e2) formed.region);
  program = λ x. subst (λ ss. IsFormedMeaning ss 0 (meaning_in h.program x)) (sym e5) (subst (λ ds. IsFormedMeaning g.structs 0 (meaning_in ds x)) (sym e6) (formed.program x));
  fields = λ n fs at. subst (λ ss. (s : StructName) × (slice_get ss n ≡ Some s) × AreFormedFieldTypes ss s.parameters fs) (sym e5) (formed.fields n fs (ap (λ ff. slice_get ff n) (sym e7) ∙ at));
}

declaring : (g : Scope) (s : Sort) (x : Named) (t : Ty) → IsFormed g.structs g.next_region t → IsFormedScope g → IsFormedScope (with_local s x t g)
declaring g s x t f formed = record { names = formed.names; locals = ((f, formed.region), formed.locals); region = formed.region; program = formed.program; fields = formed.fields }

looping : (g : Scope) → IsFormedScope g → IsFormedScope (in_body g)
looping g formed = opening g (in_body g) formed refl refl refl refl refl refl refl

opened_in : (g : Scope) (k : _) (r : Named) → IsFormedScope g → IsFormedScope (with_opened k r g)
opened_in g k r formed = opening (with_region r g) (with_opened k r g) (declaring_region g r formed) refl refl refl refl refl refl refl

key_opened_in : (g : Scope) (r : RegionCode) → IsFormedScope g → IsFormedScope (with_key_opened r g)
key_opened_in g r formed = opening g (with_key_opened r g) formed refl refl refl refl refl refl refl

caught_in : (g : Scope) (v : Option Named) → IsFormedScope g → IsFormedScope (with_caught v g)
caught_in g None formed = formed
caught_in g (Some v) formed = declaring g Ordinary v Int (tt, tt) formed

caught_same : (g : Scope) (v : Option Named) → (with_caught v (in_block g)).next_region ≡ suc g.next_region
caught_same g None = refl
caught_same g (Some v) = refl

-- ---- items

left_out_known : (structs : List StructName) (n : ℕ) (v : ValueType) → IsFormedValue structs n v → IsKnown n (left_out_of v)
left_out_known structs n (Value (types.Pointer k t r)) ((f, j), c) = j
left_out_known structs n (Value t) f = tt
left_out_known structs n v f = tt

initial_formed : (g : Scope) (formed : IsFormedScope g) (w : WrittenType) (x : Named) (v : Option Expression) (c : Ty × Option Converted) → AllKept (type_demanded g.structs g.names None w) → Derives (rule_initial g w x v) c → IsFormed g.structs g.next_region c.0
initial_formed g formed w x None c kept (k, eq) = subst (λ (z : Ty × Option Converted). IsFormed g.structs g.next_region z.0) (sym eq) (written_formed g.structs g.names g.next_region formed.names None regions.Heap w tt kept)
initial_formed g formed w x (Some e) c kept (a, ka, (k, eq)) =
    subst (λ (z : Ty × Option Converted). IsFormed g.structs g.next_region z.0) (sym eq)
    (written_formed g.structs g.names g.next_region formed.names None (left_out_of (type_of a)) w (left_out_known g.structs g.next_region (type_of a) (formed_well g formed e a ka)) kept)

-- a declaration that opens a dynamic region by its key opens exactly the region that the source names
opened_formed : (g : Scope) (formed : IsFormedScope g) (r h : Named) (m : Meaning) (q : Place) (j : typed.Item) → Derives (opened g r h m q) j → (n k : ℕ) × (j ≡ typed.OpenRegion n g.next_local q k)
opened_formed g formed r h Unknown q j d = absurd d
opened_formed g formed r h (scopes.Variable l t home) q j (kept, eq) = (_, _, eq)
opened_formed g formed r h (Fixed l t) q j (kept, eq) = (_, _, eq)
opened_formed g formed r h (Counter n) q j (kept, eq) = (_, _, eq)
opened_formed g formed r h (Routine f s) q j d = absurd d

-- the type of an alias declaration is well-formed; the type may contain the new region that the declaration introduces
aliased_formed : (g : Scope) (formed : IsFormedScope g) (r x : Named) (w : WrittenType) (m : Meaning) (q : Place) (j : typed.Item) → IsFormedMeaning g.structs g.next_region m
    → AllKept (type_demanded g.structs (with_name r g).names None w) → Derives (aliased g r x w m q) j → (t : Ty) × (k : ℕ) × (j ≡ typed.DeclareAlias g.next_region g.next_local t q k) × IsFormed g.structs (suc g.next_region) t
aliased_formed g formed r x w Unknown q j k kept d = absurd d
aliased_formed g formed r x w (scopes.Variable l t home) q j (f, k) kept (u, eq) = (
  alias_type g r w t,
  _,
  eq,
  written_formed g.structs (with_name r g).names (suc g.next_region) (named g r formed) None (region_of t) w (known_more g.next_region (suc g.next_region) (region_of t) (omega arith) (region_formed g.structs g.next_region t f)) kept,
)
aliased_formed g formed r x w (Fixed l t) q j f kept (u, eq) = (t, _, eq, formed_more g.structs g.next_region (suc g.next_region) t (omega arith) f)
aliased_formed g formed r x w (Counter n) q j k kept (u, eq) = (Int, _, eq, (tt, tt))
aliased_formed g formed r x w (Routine f s) q j k kept d = absurd d

-- ---- all forms

mutual
  statement_formed : (g : Scope) → IsFormedScope g → (s : Statement) (t : typed.Statement) → Derives (rule_statement g s) t → IsFormedStatement g.next_region t
  statement_formed g formed (Block c) t (js, d, (u, eq)) = subst (IsFormedStatement g.next_region) (sym eq) (body_formed (in_block g) (entering g formed) c js d)
  statement_formed g formed (Labelled x c) t (v, new, (js, d, (u, eq))) = subst (IsFormedStatement g.next_region) (sym eq) (body_formed (in_labelled x g) (labelled g x formed) c js d)
  statement_formed g formed (Empty q) t (u, eq) = subst (IsFormedStatement g.next_region) (sym eq) tt
  statement_formed g formed (Evaluate e) t (a, d, (u, eq)) = subst (IsFormedStatement g.next_region) (sym eq) tt
  statement_formed g formed (Swap a b) t (x, kx, (y, ky, (u, eq))) = subst (IsFormedStatement g.next_region) (sym eq) tt
  statement_formed g formed (If q e s) t (a, d, (b, ds, (u, eq))) = subst (IsFormedStatement g.next_region) (sym eq) (statement_formed g formed s b ds, tt)
  statement_formed g formed (IfElse q e s v) t (a, d, (b, ds, (c, es, (u, eq)))) =
      subst (IsFormedStatement g.next_region) (sym eq) (
        statement_formed g formed s b ds,
        subst (λ n. IsFormedStatement (g.next_region + n) c) (sym (statement_counted g s b ds).1) (statement_formed (following g s) (going_on g _ _ _ (omega arith) formed) v c es),
      )
  statement_formed g formed (While q e s) t (a, d, (b, ds, (u, eq))) = subst (IsFormedStatement g.next_region) (sym eq) (statement_formed (in_body g) (looping g formed) s b ds)
  statement_formed g formed (Return q v) t (c, d, (u, eq)) = subst (IsFormedStatement g.next_region) (sym eq) tt
  statement_formed g formed (Break q) t (k, eq) = subst (IsFormedStatement g.next_region) (sym eq) tt
  statement_formed g formed (Continue q) t (k, eq) = subst (IsFormedStatement g.next_region) (sym eq) tt
  statement_formed g formed (Throw q x v) t (a, ka, d) = let (n, is) = thrown_shape g (exception_among g.exceptions x.name) x v a t d in subst (IsFormedStatement g.next_region) (sym is) tt
  statement_formed g formed (Try q s cs) t (b, ds, (es, ks, (u, eq))) =
      subst (IsFormedStatement g.next_region) (sym eq) (
        statement_formed g formed s b ds,
        subst (λ n. AreFormedClauses (g.next_region + n) es) (sym (statement_counted g s b ds).1) (clauses_formed (following g s) (going_on g _ _ _ (omega arith) formed) [] cs es ks),
      )

  body_formed : (g : Scope) → IsFormedScope g → (c : Body) (js : typed.Items) → Derives (rule_body g c) js → AreFormedItems g.next_region js
  body_formed g formed (Braces o is q) js d = items_formed g formed is js d

  items_formed : (g : Scope) → IsFormedScope g → (is : Items) (js : typed.Items) → Derives (rule_items g is) js → AreFormedItems g.next_region js
  items_formed g formed NoItems js (u, eq) = subst (AreFormedItems g.next_region) (sym eq) tt
  items_formed g formed (MoreItems (Execute s) is) js (j, (t, d, (u, is_j)), (ks, ds, (v, eq))) =
      subst (AreFormedItems g.next_region) (sym (eq ∙ ap (λ i. typed.MoreItems i ks) is_j)) (
        statement_formed g formed s t d,
        subst (λ n. AreFormedItems (g.next_region + n) ks) (sym (statement_counted g s t d).1) (items_formed (following g s) (going_on g _ _ _ (omega arith) formed) is ks ds),
      )
  items_formed g formed (MoreItems (Local w x v) is) js (j, (u, (kept, y), (c, d, (z, is_j))), (ks, ds, (q, eq))) =
      let f = initial_formed g formed w x v c kept d in
      subst (AreFormedItems g.next_region) (sym (eq ∙ ap (λ i. typed.MoreItems i ks) is_j)) (
        f.0,
        items_formed (with_local Ordinary x c.0 g) (declaring g Ordinary x c.0 f formed) is ks (subst (λ i. Derives (rule_items (following_item g (Local w x v) i) is) ks) is_j ds),
      )
  items_formed g formed (MoreItems (Region r x None) is) js (j, (kept, is_j), (ks, ds, (z, eq))) =
      subst (AreFormedItems g.next_region) (sym (eq ∙ ap (λ i. typed.MoreItems i ks) is_j))
      (items_formed (following_item g (Region r x None) j) (declaring (with_opened _ r g) OfRegion x (Handle (regions.Variable g.next_region)) ((let l : g.next_region < suc g.next_region = omega arith in l), tt) (opened_in g _ r formed)) is ks ds)
  items_formed g formed (MoreItems (Region r x (Some y)) is) js (j, (u, ku, d), (ks, ds, (z, eq))) =
      let (m, o, is_j) = opened_formed g formed r x (meaning_of g y) y.place j d in
      subst (AreFormedItems g.next_region) (sym (eq ∙ ap (λ i. typed.MoreItems i ks) is_j))
      (items_formed (following_item g (Region r x (Some y)) j)
      (declaring (with_key_opened (formation.region_of g.names r) g) OfRegion x (Handle (formation.region_of g.names r)) (name_known g.structs g.names g.next_region formed.names r, tt) (key_opened_in g (formation.region_of g.names r) formed)) is ks ds)
  items_formed g formed (MoreItems (Alias r w x y) is) js (j, (u, ku, (v, (kept, kv), d)), (ks, ds, (z, eq))) =
      let (t, o, is_j, f) = aliased_formed g formed r x w (meaning_of g y) y.place j (meant_formed g formed y) kept d in
      subst (AreFormedItems g.next_region) (sym (eq ∙ ap (λ i. typed.MoreItems i ks) is_j))
      (items_formed (with_local Ordinary x t (with_opened _ r g)) (declaring (with_opened _ r g) Ordinary x t f (opened_in g _ r formed)) is ks
      (subst (λ i. Derives (rule_items (following_item g (Alias r w x y) i) is) ks) is_j ds))
  items_formed g formed (MoreItems (DynamicRegion r x) is) js (j, (kept, is_j), (ks, ds, (z, eq))) =
      subst (AreFormedItems g.next_region) (sym (eq ∙ ap (λ i. typed.MoreItems i ks) is_j))
      (items_formed (following_item g (DynamicRegion r x) j) (declaring (with_region r g) Ordinary x (Key (regions.Variable g.next_region)) ((let l : g.next_region < suc g.next_region = omega arith in l), tt) (declaring_region g r formed)) is ks ds)

  clauses_formed : (g : Scope) → IsFormedScope g → (before : List ℕ) (cs : Clauses) (ds : typed.Clauses) → Derives (rule_clauses g before cs) ds → AreFormedClauses g.next_region ds
  clauses_formed g formed before NoClauses ds (u, eq) = subst (AreFormedClauses g.next_region) (sym eq) tt
  clauses_formed g formed before (Default is) ds (js, d, (u, eq)) = subst (AreFormedClauses g.next_region) (sym eq) (items_formed (in_block g) (entering g formed) is js d)
  clauses_formed g formed before (Case x v is cs) ds (n, kn, (js, d, (es, ks, (u, eq)))) =
      let counts = items_counted (with_caught v (in_block g)) is js d in
      subst (AreFormedClauses g.next_region) (sym eq) (
        subst (λ m. AreFormedItems m js) (caught_same g v) (items_formed (with_caught v (in_block g)) (caught_in (in_block g) v (entering g formed)) is js d),
        subst (λ m. AreFormedClauses (g.next_region + suc m) es) (sym counts.1) (clauses_formed (after_clause g _ is) (going_on g _ _ _ (omega arith) formed) (x.name ∷ before) cs es ks),
      )

-- ---- signatures

-- the built-in region names denote no region variables, only the heap and the unique region
base_known : (names : List RegionName) → IsBase names → (x : ℕ) (r : RegionCode) → region_among names x ≡ Some r → IsKnown 0 r
base_known names base x r e = elim (base x) [ inl none ↦ absurd (none-some r (sym none ∙ e)) | inr (inl heap) ↦ subst (IsKnown 0) (from_some regions.Heap r (sym heap ∙ e)) tt | inr (inr unique) ↦ subst (IsKnown 0) (from_some regions.Unique r (sym unique ∙ e)) tt ]
  where
    from_some : (a b : RegionCode) → Some a ≡ Some b → a ≡ b
    from_some a b f = ap (λ (o : Option RegionCode). unwrap_or o a) f

-- if a struct's region parameters are numbered from n on, each region name denotes a built-in region or a region variable below n plus the
-- number of parameters
pub parameter_regions_known : (rs : List Named) (n : ℕ) (names : List RegionName) → ((x : ℕ) (r : RegionCode) → region_among names x ≡ Some r → IsKnown 0 r)
    → (x : ℕ) (r : RegionCode) → region_among (parameter_names rs n names) x ≡ Some r → IsKnown (n + length rs) r
parameter_regions_known [] n names known x r e = known_more 0 (n + 0) r (omega arith) (known x r e)
parameter_regions_known (q ∷ rs) n names known x r e = go (nat_eq q.name x) e (λ f. known_more (suc n + length rs) (n + suc (length rs)) r (omega arith) (parameter_regions_known rs (suc n) names known x r f))
  where
    go : (b : Bool) → cond b (Some (regions.Variable n)) (region_among (parameter_names rs (suc n) names) x) ≡ Some r
        → (region_among (parameter_names rs (suc n) names) x ≡ Some r → IsKnown (n + suc (length rs)) r) → IsKnown (n + suc (length rs)) r
    go true f rest = subst (λ (o : Option RegionCode). IsKnown (n + suc (length rs)) (unwrap_or o regions.Heap)) f (let l : n < n + suc (length rs) = omega arith in l)
    go false f rest = rest f

-- a type written with a pointer sign (`*`, `@` or `?`) is not a key type
no_key_after : (names : List RegionName) (d : RegionCode) (t : Ty) (m : Mark) (ms : List Mark) → is_key (pointers_written names d t (m ∷ ms)) ≡ false
no_key_after names d t m [] = refl
no_key_after names d t m (n ∷ ms) = no_key_after names d (types.Pointer m.kind t (region_or names (left_out_at d (n ∷ ms)) m.region)) n ms

no_key_written : (structs : List StructName) (names : List RegionName) (d : RegionCode) (b : BaseType) (ms : List Mark) → is_key_base b ≡ false → is_key (pointers_written names d (base_written structs names b) ms) ≡ false
no_key_written structs names d written.Int [] k = refl
no_key_written structs names d written.Char [] k = refl
no_key_written structs names d (written.Struct s rs) [] k = refl
no_key_written structs names d (written.Handle r) [] k = refl
no_key_written structs names d (written.Key r) [] k = absurd (true≢false k)
no_key_written structs names d b (m ∷ ms) k = no_key_after names d (base_written structs names b) m ms

-- ---- parameters

named-regions-length : (n : Naming) (rs : List Named) → length (regions_for n rs) ≡ length rs
named-regions-length n [] = refl
named-regions-length n (r ∷ rs) = ap suc (named-regions-length (after_region n r) rs)

parameter_counted : (structs : List StructName) (names : List RegionName) (own : Option ℕ) (n : Naming) (w : WrittenType) → AllKept (type_demanded structs names own w) → IsCounted structs (type_for structs n w)
parameter_counted structs names own n w kept = marked (after_base n w.base) (base_for structs n w.base) w.marks (base w.base (kept_append (base_demanded structs names own w.place w.base) _ kept).0)
  where
    marked : (n : Naming) (t : Ty) (ms : List Mark) → IsCounted structs t → IsCounted structs (pointers_for n t ms)
    marked n t [] c = c
    marked n t (m ∷ ms) c = marked (after_mark n m.region) (types.Pointer m.kind t (mark_for n m.region)) ms c

    base : (b : BaseType) → AllKept (base_demanded structs names own w.place b) → IsCounted structs (base_for structs n b)
    base written.Int k = tt
    base written.Char k = tt
    base (written.Struct s []) (there, (count, more)) = arguments_counted structs names s.name [] count
    base (written.Struct s (r ∷ rs)) (there, (count, more)) = λ s' at. named-regions-length n (r ∷ rs) ∙ (sym (length-map (r ∷ rs) (formation.region_of names)) ∙ arguments_counted structs names s.name (r ∷ rs) count s' at)
    base (written.Handle r) k = tt
    base (written.Key r) k = tt

region_known : (k : ℕ) (r : RegionCode) → IsNamed k r → IsKnown (suc k) r
region_known k regions.Heap n = tt
region_known k regions.Unique n = tt
region_known k (regions.Variable m) (one, l) = omega arith

all_known : (k : ℕ) (rs : List RegionCode) → AreNamed k rs → AllOf (IsKnown (suc k)) rs
all_known k [] n = tt
all_known k (r ∷ rs) (one, n) = (region_known k r one, all_known k rs n)

type_known : (k : ℕ) (t : Ty) → IsNamedIn k t → AllIn (IsKnown (suc k)) t
type_known k Int n = tt
type_known k Char n = tt
type_known k (types.Pointer m t r) (n, j) = (type_known k t n, region_known k r j)
type_known k (Handle r) n = region_known k r n
type_known k (Key r) n = region_known k r n
type_known k (types.Struct i rs) n = all_known k rs n

parameters_formed : (k : Known) (own : ℕ) (before : List ℕ) (n : Naming) (ms : List Member) (u : Unit {0}) (m : ℕ) (vs : List LocalVariable) (i : ℕ) → Derives (rule_parameters k own before ms) u → AreNamedIn m (types_for k.structs n ms)
    → AreFormedLocals k.structs (suc m) vs → AreFormedLocals k.structs (suc m) (parameter_locals ms (types_for k.structs n ms) i vs)
parameters_formed k own before n [] u m vs i d named f = f
parameters_formed k own before n (x ∷ ms) u m vs i (v, (kept, eq), (w, new, d)) (one, named) f =
    parameters_formed k own (x.name.name ∷ before) (after_type n x.of_type) ms u m _ (suc i) d named
    (((type_known m (type_for k.structs n x.of_type) one, parameter_counted k.structs k.regions (Some own) n x.of_type kept), (omega arith)), f)

-- ---- programs

module _ (k : Known) (base : IsBase k.regions) where
  numbered_known : (n : Naming) → IsNumbered k.regions base n → (x : ℕ) (r : RegionCode) → region_among n.names x ≡ Some r → IsKnown n.next r
  numbered_known n i x r e = elim (i.old x) [
    | inl same ↦ known_more 0 n.next r (omega arith) (base_known k.regions base x r (sym same ∙ e))
    | inr (m, is, one, below, none) ↦ subst (λ (o : Option RegionCode). IsKnown n.next (unwrap_or o regions.Heap)) (sym is ∙ e) below
  ]

  first : IsNumbered k.regions base (record { names = k.regions; next = 1 })
  first = record { one = (omega arith); old = λ y. inl refl }

  named_by : (ps : Parameters) → IsNumbered k.regions base (parameter_naming k ps)
  named_by ps = after_members_numbered k.regions base (record { names = k.regions; next = 1 }) (members_of ps.list) first

  parameter_names_known : (r : Option WrittenType) (ps : Parameters) (x : ℕ) (s : RegionCode) → region_among (parameter_naming k ps).names x ≡ Some s → IsKnown (suc (signature_of k r ps).variables) s
  parameter_names_known r ps x s e = subst (λ n. IsKnown n s) (suc_pred (parameter_naming k ps).next (named_by ps).one) (numbered_known (parameter_naming k ps) (named_by ps) x s e)

  result_formed : (before : List ℕ) (r : Option WrittenType) (x : Named) (ps : Parameters) → Derives (rule_function_head k before r x ps) tt → IsFormedResult k.structs (suc (signature_of k r ps).variables) (signature_of k r ps).result
  result_formed before None x ps d = tt
  result_formed before (Some w) x ps (a, (kept, eq), more) =
      written_formed k.structs (parameter_naming k ps).names (suc (signature_of k (Some w) ps).variables) (parameter_names_known (Some w) ps) None regions.Heap w tt kept

  fields_formed : (names : List RegionName) (n : ℕ) (before : List ℕ) (ms : List Member) (u : Unit {0}) → ((x : ℕ) (r : RegionCode) → region_among names x ≡ Some r → IsKnown n r) → Derives (rule_fields k names before ms) u
      → AreFormedFieldTypes k.structs n (fields_written k names ms) × AreFormedFields n (map (λ (f : Field). f.of_type) (fields_written k names ms))
  fields_formed names n before [] u known d = (tt, tt)
  fields_formed names n before (m ∷ ms) u known (v, (kept, eq), (w, new, d)) =
      let (type_kept, (no_key, z)) = kept_append (type_demanded k.structs names None m.of_type) _ kept in
      let one = written_formed k.structs names n known None regions.Heap m.of_type tt type_kept in
      let rest = fields_formed names n (m.name.name ∷ before) ms u known d in
      ((one, rest.0), (one.0, no_key_written k.structs names regions.Heap m.of_type.base m.of_type.marks (not-true (is_key_base m.of_type.base) no_key), rest.1))

  declarations_formed : (b : Before) (tree : List Declaration) → Derives (rule_declarations k b tree) tt
      → ((n : ℕ) (fs : List Field) → slice_get (fields_of k tree) n ≡ Some fs → (s : StructName) × (slice_get (structs_of tree) n ≡ Some s) × AreFormedFieldTypes k.structs s.parameters fs)
      × AreFormedStructs (struct_types (structs_of tree) (fields_of k tree)) × AreFormedGlobals (globals_of k tree)
      × ((n m x : ℕ) → IsFormedMeaning k.structs 0 (meaning_in (declared_from k n m tree) x))
  declarations_formed b [] d = ((λ n fs e. absurd (cc)), tt, tt, (λ n m x. tt))
  declarations_formed b (StructType s rs ms ∷ ds) (u, (v, new, (w, distinct, fields)), d) =
      let (types, structs, globals, meanings) = declarations_formed (after_head b (StructType s rs ms)) ds d in
      let (one, two) = fields_formed (parameter_names rs 0 k.regions) (length rs) [] ms u (λ x r e. known_more (0 + length rs) (length rs) r (omega arith) (parameter_regions_known rs 0 k.regions (base_known k.regions base) x r e)) fields in
      ((λ n fs e. there n fs one types e), (two, structs), globals, meanings)
    where
      there : (n : ℕ) (fs : List Field) → AreFormedFieldTypes k.structs (length rs) (fields_written k (parameter_names rs 0 k.regions) ms)
          → ((n : ℕ) (fs : List Field) → slice_get (fields_of k ds) n ≡ Some fs → (s : StructName) × (slice_get (structs_of ds) n ≡ Some s) × AreFormedFieldTypes k.structs s.parameters fs)
          → slice_get (fields_of k (StructType s rs ms ∷ ds)) n ≡ Some fs → (t : StructName) × (slice_get (structs_of (StructType s rs ms ∷ ds)) n ≡ Some t) × AreFormedFieldTypes k.structs t.parameters fs
      there zero fs one rest e = (_, refl, subst (λ (o : Option (List Field)). AreFormedFieldTypes k.structs (length rs) (unwrap_or o [])) e one)
      there (suc n) fs one rest e = rest n fs e
  declarations_formed b (Exceptions cs ∷ ds) (u, hd, d) = declarations_formed (after_head b (Exceptions cs)) ds d
  declarations_formed b (Global w x v ∷ ds) (u, (o, (kept, e), more), d) =
      let (types, structs, globals, meanings) = declarations_formed (after_head b (Global w x v)) ds d in
      let one = written_formed k.structs k.regions 0 (base_known k.regions base) None regions.Heap w tt (kept_append (type_demanded k.structs k.regions None w) _ kept).0 in
      (types, structs, (one.0, globals), (λ n m y. by_cond (nat_eq x.name y) _ _ (one, tt) (meanings (suc n) m y)))
    where
      by_cond : (c : Bool) (m n : Meaning) → IsFormedMeaning k.structs 0 m → IsFormedMeaning k.structs 0 n → IsFormedMeaning k.structs 0 (cond c m n)
      by_cond true m n i j = i
      by_cond false m n i j = j
  declarations_formed b (Function r x ps c ∷ ds) (u, hd, d) =
      let (types, structs, globals, meanings) = declarations_formed (after_head b (Function r x ps c)) ds d in
      (types, structs, globals, (λ n m y. by_cond (nat_eq x.name y) _ _ (result_formed b.names r x ps hd) (meanings n (suc m) y)))
    where
      by_cond : (c : Bool) (m n : Meaning) → IsFormedMeaning k.structs 0 m → IsFormedMeaning k.structs 0 n → IsFormedMeaning k.structs 0 (cond c m n)
      by_cond true m n i j = i
      by_cond false m n i j = j

  function_formed : (q : Program) → q.known ≡ k → (fields : (n : ℕ) (fs : List Field) → slice_get q.fields n ≡ Some fs → (s : StructName) × (slice_get k.structs n ≡ Some s) × AreFormedFieldTypes k.structs s.parameters fs)
      → ((x : ℕ) → IsFormedMeaning k.structs 0 (meaning_in q.declared x)) → (before : List ℕ) (r : Option WrittenType) (x : Named) (ps : Parameters) (is : Items) (js : typed.Items)
      → Derives (rule_function_head k before r x ps) tt → Derives (rule_items (body_scope q (signature_of q.known r ps) x ps) is) js → AreFormedItems (suc (signature_of q.known r ps).variables) js
  function_formed q same fields meanings before r x ps is js (a, resulting, (b, naming, (c, parameters, more))) d =
      let s : Signature = signature_of k r ps in
      let n : Naming = parameter_naming k ps in
      let start : Naming = record { names = k.regions; next = 1 } in
      let bound : n.next ≤ suc s.variables = let e = suc_pred n.next (named_by ps).one in omega arith in
      let at : Known → Scope = λ (known : Known). body_scope (record q { known = known }) (signature_of known r ps) x ps in
      let formed : IsFormedScope (at k) = record {
        names = λ y t e. own_name (suc s.variables) n.names x (omega arith) (parameter_names_known r ps) y t e;
        locals = parameters_formed k x.name [] start (members_of ps.list) c s.variables [] 0 parameters (types_named k.regions base k.structs s.variables start (members_of ps.list) first bound) tt;
        region = (let l : 0 < suc s.variables = omega arith in l);
        program = meanings;
        fields = fields;
      } in
      subst (λ known. Derives (rule_items (at known) is) js → AreFormedItems (suc (signature_of known r ps).variables) js) (sym same) (items_formed (at k) formed is js) d
    where
      own_name : (m : ℕ) (names : List RegionName) (x : Named) → 0 < m → ((y : ℕ) (t : RegionCode) → region_among names y ≡ Some t → IsKnown m t)
          → (y : ℕ) (t : RegionCode) → region_among (record { name = x.name; region = regions.Variable 0 } ∷ names) y ≡ Some t → IsKnown m t
      own_name m names x l known y t e = go (nat_eq x.name y) e
        where
          go : (b : Bool) → cond b (Some (regions.Variable 0)) (region_among names y) ≡ Some t → IsKnown m t
          go true f = subst (λ (o : Option RegionCode). IsKnown m (unwrap_or o regions.Heap)) f l
          go false f = known y t f

  functions_formed : (q : Program) → q.known ≡ k → (fields : (n : ℕ) (fs : List Field) → slice_get q.fields n ≡ Some fs → (s : StructName) × (slice_get k.structs n ≡ Some s) × AreFormedFieldTypes k.structs s.parameters fs)
      → ((x : ℕ) → IsFormedMeaning k.structs 0 (meaning_in q.declared x)) → (b : Before) (tree : List Declaration) (hs : List typed.Function) → Derives (rule_declarations k b tree) tt → Derives (rule_functions q tree) hs → AreFormedFunctions hs
  functions_formed q same fields meanings b [] hs heads (u, eq) = subst AreFormedFunctions (sym eq) tt
  functions_formed q same fields meanings b (StructType s rs ms ∷ tree) hs (u, hd, heads) d = functions_formed q same fields meanings (after_head b (StructType s rs ms)) tree hs heads d
  functions_formed q same fields meanings b (Exceptions cs ∷ tree) hs (u, hd, heads) d = functions_formed q same fields meanings (after_head b (Exceptions cs)) tree hs heads d
  functions_formed q same fields meanings b (Global w x v ∷ tree) hs (u, hd, heads) d = functions_formed q same fields meanings (after_head b (Global w x v)) tree hs heads d
  functions_formed q same fields meanings b (Function r x ps (Braces o is e) ∷ tree) hs (u, hd, heads) (f, (js, d, (v, is_f)), (gs, ds, (w, eq))) =
      subst AreFormedFunctions (sym (eq ∙ ap (λ z. z ∷ gs) is_f))
      (function_formed q same fields meanings b.names r x ps is js hd d, functions_formed q same fields meanings (after_head b (Function r x ps (Braces o is e))) tree gs heads ds)

pub program_formed : (texts : List (List ℕ)) (tree : List Declaration) (p : typed.Program) → IsTypedProgram texts tree p → IsFormedProgram p
program_formed texts tree p (u, heads, (v, main, (fs, functions, (w, eq)))) =
    let k : Known = known_of texts tree in
    let base : IsBase k.regions = base_before texts in
    let (fields, structs, globals, meanings) = declarations_formed k base (before_all texts) tree heads in
    subst IsFormedProgram (sym eq) (record {
      functions = functions_formed k base (program_known texts tree) refl fields (λ x. language k x (meanings 0 0 x)) (before_all texts) tree fs heads functions;
      globals = globals;
      structs = structs;
    })
  where
    language : (k : Known) (x : ℕ) → IsFormedMeaning k.structs 0 (meaning_in (declared_from k 0 0 tree) x) → IsFormedMeaning k.structs 0 (meaning_in (declared_before texts ++ declared_from k 0 0 tree) x)
    language k x i = go (nat_eq (number_of texts (codes "putchar")) x) (nat_eq (number_of texts (codes "getchar")) x)
      where
        go : (a b : Bool) → IsFormedMeaning k.structs 0 (cond a (Routine callees.Putchar (signature_of_ints (Int ∷ []))) (cond b (Routine callees.Getchar (signature_of_ints [])) (meaning_in (declared_from k 0 0 tree) x)))
        go true b = (tt, tt)
        go false true = (tt, tt)
        go false false = i
