-- If the typing rules derive a typed tree of a program, the tree is well-typed.
use Rattle.std.proofs.Common.{◌≡◌, ◌⊎◌, ℕ, zero, suc, ◌+◌, ◌^◌, ◌%◌, ◌-◌, ◌<◌, ◌≤◌, Bool, true, false, cond, if◌then◌else◌, not, nat_eq, ◌&&◌, ◌||◌, List, [], ◌∷◌, ◌++◌, Option, Some, None, map, length, slice_get, inl, inr, refl, sym, ap, subst, ◌∙◌, arith}
use Rattle.std.specs.Prelude.{codes as bytes}
use Rattle.std.proofs.lemmas.Bool.{and_parts, true≢false, not-true}
use Rattle.cyc_words.proofs.Booleans.{or_right_without_left}
use Rattle.cyc_words.proofs.Numbers.{at_most_suc_pred}
use Rattle.cyc_words.proofs.Options.{false_from_some_false}
use Rattle.cyc_words.proofs.Members.{Contains-head}
use Rattle.cyc_words.proofs.Items.{slice_get_front, slice_get_after}
use Rattle.cyc_syntax.specs.Names.{number_of}
use Rattle.cyc_syntax.specs.Symbols.{Place}
use Rattle.cyc_syntax.specs.Trees.{Named, Pointer, BaseType, Struct, WrittenType, Braces, Items, Member, GlobalValue, Positive, Negative, Byte, NullPointer, Constraint, Listed, Parameters, Declaration, StructType, Exceptions, Global, Function}
use Rattle.cyc_syntax.specs.Trees as written
use Rattle.cyc_types.specs.declared.region.Region.{Region}
use Rattle.cyc_types.specs.declared.region.Region.TheVariants as regions
use Rattle.cyc_types.specs.declared.typed.Callee.TheVariants as callees
use Rattle.cyc_types.specs.Types.{Ty, Int, Char}
use Rattle.cyc_types.specs.Types as types
use Rattle.cyc_types.specs.Outlives.{live_regions}
use Rattle.cyc_types.specs.Declarations.{item_types}
use Rattle.cyc_types.specs.TypedTrees.{Signature}
use Rattle.cyc_types.specs.TypedTrees as typed
use Rattle.cyc_types.specs.Rules.{AllKept, Derives}
use Rattle.cyc_types.specs.typing.Scopes.{signature_of_ints, RegionName, StructName, Field, Exception, Routine, Ordinary, LocalVariable, Scope, meaning_in}
use Rattle.cyc_types.specs.typing.Scopes as scopes
use Rattle.cyc_types.specs.typing.Tests.{is_empty, is_left_out, is_key, is_number, is_pointer, is_non_null}
use Rattle.cyc_types.specs.typing.Formation.{Naming, region_or, left_out_at, base_written, pointers_written, type_written, types_for, after_type, parameters_among, struct_number, type_demanded, is_global_shape, global_demanded}
use Rattle.cyc_types.specs.typing.Statements.{exception_number, exception_among, rule_items}
use Rattle.cyc_types.specs.typing.DeclarationRules.{Known, members_of, structs_of, fields_of, exceptions_of, parameter_naming, and_result, signature_of, declared_from, value_demanded, is_int_written, is_main_head, rule_function_head, Before, after_head, rule_declarations, declares}
use Rattle.cyc_types.specs.typing.Programs.{regions_before, exceptions_before, declared_before, known_of, before_all, Program, program_known, parameter_locals, body_scope, function_of, rule_functions, word_of, global_of, globals_of, struct_types, function_number, program_of, IsTypedProgram}
use Rattle.cyc_types.specs.typing.WellTyped.{WellTypedItems, parameters_in_scope, body_context, IsWellTypedFunction, AreWellTypedFunctions, IsWellTypedGlobal, AreWellTypedGlobals, IsWellTypedProgram}
use Rattle.cyc_types.specs.typing.WellTyped as judgement
use Rattle.cyc_types.proofs.typing.ListLemmas.{Holds}
use Rattle.cyc_types.proofs.typing.TestLemmas.{kept_append}
use Rattle.cyc_types.proofs.typing.ExpressionLemmas.{in_scope, all_variables, all_globals, at, IsMeantDeclared, AreKnown, IsExceptionOf, Fits}
use Rattle.cyc_types.proofs.typing.CountLemmas.{items_counted}
use Rattle.cyc_types.proofs.typing.StatementLemmas.{items_well}
use Rattle.cyc_types.proofs.typing.NamingLemmas.{IsBase, IsNumbered, after_members_numbered, types_named, result_named, effect_named, effect_keyless, constraints_written, AreKeysOfVariables, keys_formed}

-- ---- structs

struct_there : (ss : List StructName) (ff : List (List Field)) → length ss ≡ length ff → (x k : ℕ) → parameters_among ss x ≡ Some k
    → (s : typed.StructType) × (slice_get (struct_types ss ff) (struct_number ss x) ≡ Some s) × (s.parameters ≡ k)
struct_there [] ff same x k e = absurd (cc)
struct_there (s ∷ ss) [] same x k e = absurd (omega arith)
struct_there (s ∷ ss) (fs ∷ ff) same x k e = go (nat_eq s.name x) e (struct_there ss ff (omega arith) x k)
  where
    go : (b : Bool) → cond b (Some s.parameters) (parameters_among ss x) ≡ Some k
        → (parameters_among ss x ≡ Some k → (t : typed.StructType) × (slice_get (struct_types ss ff) (struct_number ss x) ≡ Some t) × (t.parameters ≡ k))
        → (t : typed.StructType) × (slice_get (struct_types (s ∷ ss) (fs ∷ ff)) (cond b 0 (suc (struct_number ss x))) ≡ Some t) × (t.parameters ≡ k)
    go true f rest = (record { parameters = s.parameters; fields = map (λ (f : Field). f.of_type) fs }, refl, from_some f)
      where
        from_some : ◌≡◌ {A = Option ℕ} (Some s.parameters) (Some k) → s.parameters ≡ k
        from_some g = ap (λ (o : Option ℕ). elim o [ None ↦ k | Some m ↦ m ]) g
    go false f rest = rest f

fields_there : (ss : List StructName) (ff : List (List Field)) → length ss ≡ length ff → (n : ℕ) (s : typed.StructType) → slice_get (struct_types ss ff) n ≡ Some s
    → (fs : List Field) × (slice_get ff n ≡ Some fs) × (s.fields ≡ map (λ (f : Field). f.of_type) fs)
fields_there [] ff same n s e = absurd (cc)
fields_there (t ∷ ss) [] same n s e = absurd (omega arith)
fields_there (t ∷ ss) (fs ∷ ff) same zero s e = (fs, refl, ap (λ (o : Option typed.StructType). elim o [ None ↦ map (λ (f : Field). f.of_type) fs | Some u ↦ u.fields ]) (sym e))
fields_there (t ∷ ss) (fs ∷ ff) same (suc n) s e = fields_there ss ff (omega arith) n s e

members_there : (ss : List StructName) (ff : List (List Field)) → length ss ≡ length ff → (n : ℕ) (fs : List Field) → slice_get ff n ≡ Some fs
    → (s : typed.StructType) × (slice_get (struct_types ss ff) n ≡ Some s) × (s.fields ≡ map (λ (f : Field). f.of_type) fs)
members_there ss [] same n fs e = absurd (cc)
members_there [] (gs ∷ ff) same n fs e = absurd (omega arith)
members_there (t ∷ ss) (gs ∷ ff) same zero fs e =
    (record { parameters = t.parameters; fields = map (λ (f : Field). f.of_type) gs }, refl, ap (λ (o : Option (List Field)). elim o [ None ↦ map (λ (f : Field). f.of_type) gs | Some hs ↦ map (λ (f : Field). f.of_type) hs ]) e)
members_there (t ∷ ss) (gs ∷ ff) same (suc n) fs e = members_there ss ff (omega arith) n fs e

structs_counted : (k : Known) (tree : List Declaration) → length (structs_of tree) ≡ length (fields_of k tree)
structs_counted k [] = refl
structs_counted k (StructType s rs ms ∷ ds) = ap suc (structs_counted k ds)
structs_counted k (Exceptions cs ∷ ds) = structs_counted k ds
structs_counted k (Global w x v ∷ ds) = structs_counted k ds
structs_counted k (Function r x ps b ∷ ds) = structs_counted k ds

-- ---- exceptions

abbrev ints_of : List Exception → List Bool
ints_of es = map (λ (e : Exception). e.has_int) es

exception_there : (es : List Exception) (x : ℕ) (has : Bool) → exception_among es x ≡ Some has → (m : ℕ) × (exception_number es x ≡ suc m) × (slice_get (ints_of es) m ≡ Some has)
exception_there [] x has e = absurd (cc)
exception_there (f ∷ es) x has e = go (nat_eq f.name x) e (exception_there es x has)
  where
    go : (b : Bool) → cond b (Some f.has_int) (exception_among es x) ≡ Some has → (exception_among es x ≡ Some has → (m : ℕ) × (exception_number es x ≡ suc m) × (slice_get (ints_of es) m ≡ Some has))
        → (m : ℕ) × (cond b 1 (suc (exception_number es x)) ≡ suc m) × (slice_get (ints_of (f ∷ es)) m ≡ Some has)
    go true h rest = (0, refl, h)
    go false h rest = let (m, is, there) = rest h in (suc m, ap suc is, there)

exceptions_fit : (p : typed.Program) (h : typed.Function) (texts : List (List ℕ)) (es : List Exception) → p.exceptions ≡ ints_of es
    → (x : ℕ) (has : Bool) → exception_among (exceptions_before texts ++ es) x ≡ Some has → IsExceptionOf p h (exception_number (exceptions_before texts ++ es) x) has
exceptions_fit p h texts es same x has e = let (m, is, there) = exception_there (exceptions_before texts ++ es) x has e in subst (λ n. IsExceptionOf p h n has) (sym is) (go m there)
  where
    go : (m : ℕ) → slice_get (ints_of (exceptions_before texts ++ es)) m ≡ Some has → IsExceptionOf p h (suc m) has
    go zero t = inl ((omega arith), (omega arith), false_from_some_false has t)
    go (suc zero) t = inl ((omega arith), (omega arith), false_from_some_false has t)
    go (suc (suc zero)) t = inl ((omega arith), (omega arith), false_from_some_false has t)
    go (suc (suc (suc zero))) t = inl ((omega arith), (omega arith), false_from_some_false has t)
    go (suc (suc (suc (suc m)))) t = inr (m, (omega arith), subst (λ bs. slice_get bs m ≡ Some has) (sym same) t)

-- ---- globals

abbrev IsGlobalType : Ty → Type 0
IsGlobalType t = (t ≡ Int) ⊎ (t ≡ Char) ⊎ ((k : _) × (u : Ty) × (r : Region) × (t ≡ types.Pointer k u r))

pointer_written : (names : List RegionName) (d : Region) (t : Ty) (m : Pointer) (ms : List Pointer) → (k : _) × (u : Ty) × (r : Region) × (pointers_written names d t (m ∷ ms) ≡ types.Pointer k u r)
pointer_written names d t m [] = (m.kind, t, region_or names d m.region, refl)
pointer_written names d t m (n ∷ ms) = pointer_written names d (types.Pointer m.kind t (region_or names (left_out_at d (n ∷ ms)) m.region)) n ms

global_formed : (k : Known) (w : WrittenType) → AllKept (global_demanded k.structs k.regions w) → IsGlobalType (type_written k.structs k.regions regions.Heap w)
global_formed k w kept = go w.base w.marks ((kept_append (type_demanded k.structs k.regions None w) _ kept).1).0
  where
    go : (b : BaseType) (ms : List Pointer) → is_global_shape b ms ≡ true → IsGlobalType (pointers_written k.regions regions.Heap (base_written k.structs k.regions b) ms)
    go written.Int [] e = inl refl
    go written.Char [] e = inr (inl refl)
    go (Struct s rs) [] e = absurd (cc)
    go (written.Handle r) [] e = absurd (cc)
    go (written.Key r) [] e = absurd (cc)
    go b (m ∷ ms) e = inr (inr (pointer_written k.regions regions.Heap (base_written k.structs k.regions b) m ms))

-- the constant initial value of a char global is below 256
byte_kept : (t : Ty) (n : ℕ) → t ≡ Char → word_of t n < 256
byte_kept t n e = subst (λ s. word_of s n < 256) (sym e) (let l : n % 256 < 256 = omega arith in l)

global_well : (t : Ty) (q : Place) (x : Named) (v : Option GlobalValue) → IsGlobalType t → AllKept (value_demanded t q v) → IsWellTypedGlobal (global_of x v t)
global_well t q x None (inl e) kept = inl (e, (0, ap (λ s. if is_pointer s then typed.Null else typed.Word 0) e))
global_well t q x (Some (Positive o n)) (inl e) kept = inl (e, (word_of t n, refl))
global_well t q x (Some (Negative o n)) (inl e) kept = inl (e, (word_of t ((2 ^ 32 - n) % 2 ^ 32), refl))
global_well t q x (Some (Byte o n)) (inl e) kept = inl (e, (word_of t n, refl))
global_well t q x (Some (NullPointer o)) (inl e) (i, (n, z)) = absurd (true≢false (sym i ∙ ap is_pointer e))
global_well t q x None (inr (inl e)) kept = inr (inl (e, (0, ap (λ s. if is_pointer s then typed.Null else typed.Word 0) e, (omega arith))))
global_well t q x (Some (Positive o n)) (inr (inl e)) kept = inr (inl (e, (word_of t n, refl, byte_kept t n e)))
global_well t q x (Some (Negative o n)) (inr (inl e)) kept = inr (inl (e, (word_of t ((2 ^ 32 - n) % 2 ^ 32), refl, byte_kept t ((2 ^ 32 - n) % 2 ^ 32) e)))
global_well t q x (Some (Byte o n)) (inr (inl e)) kept = inr (inl (e, (word_of t n, refl, byte_kept t n e)))
global_well t q x (Some (NullPointer o)) (inr (inl e)) (i, (n, z)) = absurd (true≢false (sym i ∙ ap is_pointer e))
global_well t q x None (inr (inr (k, u, r, e))) (n, z) = inr (inr (k, u, r, e, not-true (is_non_null t) n, ap (λ s. if is_pointer s then typed.Null else typed.Word 0) e))
global_well t q x (Some (Positive o n)) (inr (inr (k, u, r, e))) (i, z) = absurd (true≢false (sym i ∙ ap is_number e))
global_well t q x (Some (Negative o n)) (inr (inr (k, u, r, e))) (i, z) = absurd (true≢false (sym i ∙ ap is_number e))
global_well t q x (Some (Byte o n)) (inr (inr (k, u, r, e))) (i, z) = absurd (true≢false (sym i ∙ ap is_number e))
global_well t q x (Some (NullPointer o)) (inr (inr (k, u, r, e))) (i, (n, z)) = inr (inr (k, u, r, e, not-true (is_non_null t) n, refl))

globals_well : (k : Known) (b : Before) (tree : List Declaration) → Derives (rule_declarations k b tree) tt → AreWellTypedGlobals (globals_of k tree)
globals_well k b [] d = tt
globals_well k b (StructType s rs ms ∷ ds) (u, hd, d) = globals_well k (after_head b (StructType s rs ms)) ds d
globals_well k b (Exceptions cs ∷ ds) (u, hd, d) = globals_well k (after_head b (Exceptions cs)) ds d
globals_well k b (Global w x v ∷ ds) (u, (o, (formed, e), ((new, (main, value)), f)), d) =
    (global_well (type_written k.structs k.regions regions.Heap w) w.place x v (global_formed k w formed) value, globals_well k (after_head b (Global w x v)) ds d)
globals_well k b (Function r x ps c ∷ ds) (u, hd, d) = globals_well k (after_head b (Function r x ps c)) ds d

global_no_key : (g : typed.GlobalVariable) → IsWellTypedGlobal g → is_key g.of_type ≡ false
global_no_key g (inl (e, v)) = ap is_key e
global_no_key g (inr (inl (e, v))) = ap is_key e
global_no_key g (inr (inr (k, u, r, e, n, v))) = ap is_key e

-- ---- the entities that signatures declare

abbrev pub signatures : Known → List Declaration → List Signature
signatures k [] = []
signatures k (StructType s rs ms ∷ ds) = signatures k ds
signatures k (Exceptions cs ∷ ds) = signatures k ds
signatures k (Global w x v ∷ ds) = signatures k ds
signatures k (Function r x ps b ∷ ds) = signature_of k r ps ∷ signatures k ds

derived_signatures : (p : Program) (tree : List Declaration) (fs : List typed.Function) → Derives (rule_functions p tree) fs → map judgement.signature_of fs ≡ signatures p.known tree
derived_signatures p [] fs (u, eq) = ap (map judgement.signature_of) eq
derived_signatures p (StructType s rs ms ∷ tree) fs d = derived_signatures p tree fs d
derived_signatures p (Exceptions cs ∷ tree) fs d = derived_signatures p tree fs d
derived_signatures p (Global w x v ∷ tree) fs d = derived_signatures p tree fs d
derived_signatures p (Function r x ps (Braces o is q) ∷ tree) fs (f, (js, d, (u, is_f)), (gs, hs, (v, eq))) =
    ap (map judgement.signature_of) (eq ∙ ap (λ k. k ∷ gs) is_f) ∙ ap (λ ss. signature_of p.known r ps ∷ ss) (derived_signatures p tree gs hs)

abbrev types_of_globals : List typed.GlobalVariable → List Ty
types_of_globals gs = map (λ (g : typed.GlobalVariable). g.of_type) gs

module _ (p : typed.Program) (h : typed.Function) where
  by_cond : (c : Bool) (m n : scopes.Meaning) → IsMeantDeclared p h m → IsMeantDeclared p h n → IsMeantDeclared p h (cond c m n)
  by_cond true m n i j = i
  by_cond false m n i j = j

  declared_meant : (k : Known) (n m : ℕ) (tree : List Declaration) → Holds (all_globals p h) n (types_of_globals (globals_of k tree)) → AreWellTypedGlobals (globals_of k tree)
      → Holds (map judgement.signature_of p.functions) m (signatures k tree) → (x : ℕ) → IsMeantDeclared p h (meaning_in (declared_from k n m tree) x)
  declared_meant k n m [] i w j x = tt
  declared_meant k n m (StructType s rs ms ∷ ds) i w j x = declared_meant k n m ds i w j x
  declared_meant k n m (Exceptions cs ∷ ds) i w j x = declared_meant k n m ds i w j x
  declared_meant k n m (Global t y v ∷ ds) i (one, w) j x =
      by_cond (nat_eq y.name x) (scopes.Variable (typed.Global n) (type_written k.structs k.regions regions.Heap t) regions.Heap) _
      (refl, i 0 n _ (omega arith) refl, global_no_key (global_of y v (type_written k.structs k.regions regions.Heap t)) one)
      (declared_meant k (suc n) m ds (λ a b u e at_a. i (suc a) b u (omega arith) at_a) w j x)
  declared_meant k n m (Function r y ps c ∷ ds) i w j x =
      by_cond (nat_eq y.name x) (Routine (callees.Function m) (signature_of k r ps)) _ (j 0 m _ (omega arith) refl)
      (declared_meant k n (suc m) ds i w (λ a b u e at_a. j (suc a) b u (omega arith) at_a) x)

  all_meant : (texts : List (List ℕ)) (k : Known) (tree : List Declaration) → Holds (all_globals p h) 0 (types_of_globals (globals_of k tree)) → AreWellTypedGlobals (globals_of k tree)
      → Holds (map judgement.signature_of p.functions) 0 (signatures k tree) → (x : ℕ) → IsMeantDeclared p h (meaning_in (declared_before texts ++ declared_from k 0 0 tree) x)
  all_meant texts k tree i w j x =
      by_cond (nat_eq (number_of texts (bytes "putchar")) x) (Routine callees.Putchar (signature_of_ints (Int ∷ []))) _ refl
      (by_cond (nat_eq (number_of texts (bytes "getchar")) x) (Routine callees.Getchar (signature_of_ints [])) _ refl (declared_meant k 0 0 tree i w j x))

-- ---- functions

types_counted : (structs : List StructName) (n : Naming) (ms : List Member) → length (types_for structs n ms) ≡ length ms
types_counted structs n [] = refl
types_counted structs n (m ∷ ms) = ap suc (types_counted structs (after_type n m.of_type) ms)

parameters_same : (ms : List Member) (ts : List Ty) (n : ℕ) (vs : List LocalVariable) → length ts ≡ length ms → in_scope (parameter_locals ms ts n vs) ≡ parameters_in_scope ts n (in_scope vs)
parameters_same [] [] n vs same = refl
parameters_same [] (t ∷ ts) n vs same = absurd (omega arith)
parameters_same (m ∷ ms) [] n vs same = absurd (omega arith)
parameters_same (m ∷ ms) (t ∷ ts) n vs same = parameters_same ms ts (suc n) (record { name = m.name.name; number = n; of_type = t; region = 0; sort = Ordinary } ∷ vs) (omega arith)

parameters_known : (p : typed.Program) (h : typed.Function) (ms : List Member) (ts : List Ty) (n : ℕ) (vs : List LocalVariable) → length ts ≡ length ms → Holds (all_variables p h) n ts → AreKeysOfVariables ts
    → AreKnown p h 0 vs → AreKnown p h 0 (parameter_locals ms ts n vs)
parameters_known p h [] [] n vs same i keys known = known
parameters_known p h [] (t ∷ ts) n vs same i keys known = absurd (omega arith)
parameters_known p h (m ∷ ms) [] n vs same i keys known = absurd (omega arith)
parameters_known p h (m ∷ ms) (t ∷ ts) n vs same i (key, keys) known =
    parameters_known p h ms ts (suc n) _ (omega arith) (λ a b u e at_a. i (suc a) b u (omega arith) at_a) keys ((i 0 n t (omega arith) refl, key), known)

-- says that the global names, structs, fields and exceptions visible in function bodies agree with those of the typed program
record Agrees (p : typed.Program) (q : Program) : Type 0 where
  pub base : IsBase q.known.regions
  pub program : (h : typed.Function) (x : ℕ) → IsMeantDeclared p h (meaning_in q.declared x)
  pub structs : (x k : ℕ) → parameters_among q.known.structs x ≡ Some k → (s : typed.StructType) × (slice_get p.structs (struct_number q.known.structs x) ≡ Some s) × (s.parameters ≡ k)
  pub fields : (n : ℕ) (s : typed.StructType) → slice_get p.structs n ≡ Some s → (fs : List Field) × (slice_get q.fields n ≡ Some fs) × (s.fields ≡ map (λ (f : Field). f.of_type) fs)
  pub members : (n : ℕ) (fs : List Field) → slice_get q.fields n ≡ Some fs → (s : typed.StructType) × (slice_get p.structs n ≡ Some s) × (s.fields ≡ map (λ (f : Field). f.of_type) fs)
  pub exceptions : (h : typed.Function) (x : ℕ) (has : Bool) → exception_among q.exceptions x ≡ Some has → IsExceptionOf p h (exception_number q.exceptions x) has

module _ (p : typed.Program) (q : Program) (agrees : Agrees p q) where
  function_well : (before : List ℕ) (r : Option WrittenType) (x : Named) (ps : Parameters) (is : Items) (o : Place) (js : typed.Items) → Derives (rule_function_head q.known before r x ps) tt
      → Derives (rule_items (body_scope q (signature_of q.known r ps) x ps) is) js → IsWellTypedFunction p (function_of (signature_of q.known r ps) x is o js)
  function_well before r x ps is o js (a, resulting, (b, naming, (c, parameters, (e, effect, (constraints, f))))) d =
      let s : Signature = signature_of q.known r ps in
      let h : typed.Function = function_of s x is o js in
      let ms : List Member = members_of ps.list in
      let start : Naming = record { names = q.known.regions; next = 1 } in
      let n : Naming = parameter_naming q.known ps in
      let first : IsNumbered q.known.regions agrees.base start = record { one = (omega arith); old = λ y. inl refl } in
      let last : IsNumbered q.known.regions agrees.base n = after_members_numbered q.known.regions agrees.base start ms first in
      let bound : n.next ≤ suc s.variables = at_most_suc_pred n.next last.one in
      let count : length s.parameters ≡ length ms = types_counted q.known.structs start ms in
      let keys : AreKeysOfVariables s.parameters = keys_formed q.known agrees.base x.name [] start ms c first parameters in
      let written = constraints_written q.known.regions agrees.base s.variables n ps.constraints last bound constraints in
      let scope : Scope = body_scope q s x ps in
      let fits : Fits p h scope = record {
        locals = parameters_known p h ms s.parameters 0 [] count (λ i j t e at_i. slice_get_front s.parameters (item_types js) j t (subst (λ m. slice_get s.parameters m ≡ Some t) (let same : i ≡ j = omega arith in same) at_i)) keys tt;
        program = agrees.program h;
        structs = agrees.structs;
        fields = agrees.fields;
        members = agrees.members;
        exceptions = agrees.exceptions h;
        written = written.1;
        opened = refl;
        same = refl;
        live = Contains-head (regions.Variable 0) (live_regions (regions.Heap ∷ regions.Unique ∷ s.effect) []);
      } in
      let same : at p h scope ≡ body_context p h =
      ap (λ vs. record (at p h scope) { locals = vs }) (parameters_same ms s.parameters 0 [] count) ∙ ap (λ m. record (body_context p h) { next_local = m }) (sym count) in
      let counts = items_counted scope is js d in
      record {
        body = subst (λ c. WellTypedItems c js) same
            (items_well p h scope fits is js (λ i j t e at_i. slice_get_after s.parameters (item_types js) i j t (omega arith) at_i) (omega arith) d);
        own = refl;
        locals = refl;
        regions = ap (λ m. suc s.variables + m) (sym counts.1);
        parameters = types_named q.known.regions agrees.base q.known.structs s.variables start ms first bound;
        result = result_named q.known.regions agrees.base q.known s.variables n r last bound;
        effect = effect_named q.known.regions agrees.base (and_result s.parameters s.result) s.variables n ps.effect last bound;
        keyless = effect_keyless n.names s.parameters s.result s.variables ps.effect effect;
        constraints = written.0;
      }

  functions_well : (b : Before) (tree : List Declaration) (fs : List typed.Function) → Derives (rule_declarations q.known b tree) tt → Derives (rule_functions q tree) fs → AreWellTypedFunctions p fs
  functions_well b [] fs heads (u, eq) = subst (AreWellTypedFunctions p) (sym eq) tt
  functions_well b (StructType s rs ms ∷ tree) fs (u, hd, heads) d = functions_well (after_head b (StructType s rs ms)) tree fs heads d
  functions_well b (Exceptions cs ∷ tree) fs (u, hd, heads) d = functions_well (after_head b (Exceptions cs)) tree fs heads d
  functions_well b (Global w x v ∷ tree) fs (u, hd, heads) d = functions_well (after_head b (Global w x v)) tree fs heads d
  functions_well b (Function r x ps (Braces o is e) ∷ tree) fs (u, hd, heads) (f, (js, d, (v, is_f)), (gs, k, (w, eq))) =
      subst (AreWellTypedFunctions p) (sym (eq ∙ ap (λ z. z ∷ gs) is_f)) (function_well b.names r x ps is e js hd d, functions_well (after_head b (Function r x ps (Braces o is e))) tree gs heads k)

-- ---- main

-- builds a function's signature from its written parameters, its effect and its outlives constraints
abbrev of_parts : Known → Option WrittenType → List Member → Option (List Named) → List Constraint → Signature
of_parts k r ms e cs = signature_of k r (record { list = Listed ms; effect = e; constraints = cs })

int_written : (k : Known) (r : Option WrittenType) → is_int_written r ≡ true → of_parts k r [] None [] ≡ signature_of_ints []
int_written k None e = absurd (cc)
int_written k (Some w) e = go w.base w.marks e
  where
    is_int_base : BaseType → Bool
    is_int_base written.Int = true
    is_int_base b = false

    result : BaseType → List Pointer → Ty
    result b ms = pointers_written k.regions regions.Heap (base_written k.structs k.regions b) ms

    go : (b : BaseType) (ms : List Pointer) → is_int_base b && is_empty ms ≡ true → record { variables = 0; parameters = []; result = Some (result b ms); effect = []; constraints = [] } ≡ signature_of_ints []
    go written.Int [] f = refl
    go written.Int (m ∷ ms) f = absurd (cc)
    go b ms f = absurd (cc)

nothing_in : {A : Type 0} (xs : List A) → is_empty xs ≡ true → xs ≡ []
nothing_in [] e = refl
nothing_in (x ∷ xs) e = absurd (cc)

left_out_is_none : {A : Type 0} (o : Option A) → is_left_out o ≡ true → o ≡ None
left_out_is_none None e = refl
left_out_is_none (Some x) e = absurd (cc)

main_type : (k : Known) (r : Option WrittenType) (ps : Parameters) → is_main_head r ps ≡ true → signature_of k r ps ≡ signature_of_ints []
main_type k r ps e =
    let (result, more) = and_parts (is_int_written r) (is_empty (members_of ps.list) && (is_left_out ps.effect && is_empty ps.constraints)) e in
    let (none, others) = and_parts (is_empty (members_of ps.list)) (is_left_out ps.effect && is_empty ps.constraints) more in
    let (effect, constraints) = and_parts (is_left_out ps.effect) (is_empty ps.constraints) others in
    ap (λ ms. of_parts k r ms ps.effect ps.constraints) (nothing_in (members_of ps.list) none)
    ∙ (ap (λ o. of_parts k r [] o ps.constraints) (left_out_is_none ps.effect effect) ∙ (ap (λ cs. of_parts k r [] None cs) (nothing_in ps.constraints constraints) ∙ int_written k r result))

main_well : (k : Known) (b : Before) (tree : List Declaration) → Derives (rule_declarations k b tree) tt → declares k.main tree ≡ true → slice_get (signatures k tree) (function_number k.main tree) ≡ Some (signature_of_ints [])
main_well k b [] heads d = absurd (cc)
main_well k b (StructType s rs ms ∷ ds) (u, hd, heads) d = main_well k (after_head b (StructType s rs ms)) ds heads d
main_well k b (Exceptions cs ∷ ds) (u, hd, heads) d = main_well k (after_head b (Exceptions cs)) ds heads d
main_well k b (Global w x v ∷ ds) (u, (o, formed, ((new, (main, value)), f)), heads) d = main_well k (after_head b (Global w x v)) ds heads (or_right_without_left (nat_eq x.name k.main) (declares k.main ds) main d)
main_well k b (Function r x ps c ∷ ds) (u, (o, resulting, (v, ((new, (main, z)), e), more)), heads) d =
    go (nat_eq x.name k.main) main d (λ i. main_well k (after_head b (Function r x ps c)) ds heads i)
  where
    go : (y : Bool) → not y || is_main_head r ps ≡ true → y || declares k.main ds ≡ true → (declares k.main ds ≡ true → slice_get (signatures k ds) (function_number k.main ds) ≡ Some (signature_of_ints []))
        → slice_get (signatures k (Function r x ps c ∷ ds)) (cond y 0 (suc (function_number k.main ds))) ≡ Some (signature_of_ints [])
    go true f i rest = ap Some (main_type k r ps f)
    go false f i rest = rest i

-- ---- programs

pub base_before : (texts : List (List ℕ)) → IsBase (regions_before texts)
base_before texts x = go (nat_eq (number_of texts (bytes "H")) x) (nat_eq (number_of texts (bytes "U")) x)
  where
    go : (a b : Bool) → let o = cond a (Some regions.Heap) (cond b (Some regions.Unique) None) in (o ≡ None) ⊎ ((o ≡ Some regions.Heap) ⊎ (o ≡ Some regions.Unique))
    go true b = inr (inl refl)
    go false true = inr (inr refl)
    go false false = inl refl

derived_well : (texts : List (List ℕ)) (tree : List Declaration) (fs : List typed.Function) → Derives (rule_declarations (known_of texts tree) (before_all texts) tree) tt → declares (known_of texts tree).main tree ≡ true
    → Derives (rule_functions (program_known texts tree) tree) fs → IsWellTypedProgram (program_of (program_known texts tree) tree fs)
derived_well texts tree fs heads main functions =
    let q : Program = program_known texts tree in
    let k : Known = known_of texts tree in
    let p : typed.Program = program_of q tree fs in
    let globals : AreWellTypedGlobals (globals_of k tree) = globals_well k (before_all texts) tree heads in
    let same : map judgement.signature_of fs ≡ signatures k tree = derived_signatures q tree fs functions in
    let aligned : length (structs_of tree) ≡ length (fields_of k tree) = structs_counted k tree in
    let agrees : Agrees p q = record {
      base = base_before texts;
      program = λ h. all_meant p h texts k tree
          (λ i j t e at_i. subst (λ n. slice_get (types_of_globals (globals_of k tree)) n ≡ Some t) (let c : i ≡ j = omega arith in c) at_i) globals
          (λ i j t e at_i. subst (λ ss. slice_get ss j ≡ Some t) (sym same) (subst (λ n. slice_get (signatures k tree) n ≡ Some t) (let c : i ≡ j = omega arith in c) at_i));
      structs = struct_there (structs_of tree) (fields_of k tree) aligned;
      fields = fields_there (structs_of tree) (fields_of k tree) aligned;
      members = members_there (structs_of tree) (fields_of k tree) aligned;
      exceptions = λ h. exceptions_fit p h texts (exceptions_of tree) refl;
    } in
    record {
      functions = functions_well p q agrees (before_all texts) tree fs heads functions;
      globals = globals;
      main = subst (λ ss. slice_get ss (function_number k.main tree) ≡ Some (signature_of_ints [])) (sym same) (main_well k (before_all texts) tree heads main);
    }

pub program_well : (texts : List (List ℕ)) (tree : List Declaration) (p : typed.Program) → IsTypedProgram texts tree p → IsWellTypedProgram p
program_well texts tree p (u, heads, (v, ((main, z), e), (fs, functions, (w, eq)))) = subst IsWellTypedProgram (sym eq) (derived_well texts tree fs heads main functions)
