-- The declarations that the checker's code finds in a program's tables of names agree with those that the typing rules find in lists of
-- declarations.
use Rattle.std.proofs.Common.{◌≡◌, ℕ, ◌≤◌, ◌<◌, List, [], ◌∷◌, ◌++◌, length, map, drop, get_or, Option, Some, option_map, unwrap_or, refl, sym, ap, ◌∙◌}
use Rattle.std.specs.List.{slice_get}
use Rattle.std.proofs.lemmas.List.{map-append, length-map, drop_all}
use Rattle.std.proofs.lemmas.Option.{slice_get-map, slice_get_read}
use denote.Ref.{Bor}
use Rattle.std.specs.Slice.{IsItemAt}
use Rattle.std.specs.declared.vec.Vec.{Vec}
use Rattle.std.specs.declared.alloc.Global.{Global}
use Rattle.cyc_syntax.specs.Trees.{Member}
use Rattle.cyc_types.specs.declared.ty.Ty.{Ty as TyCode}
use Rattle.cyc_types.specs.TypeView.{view_ty}
use Rattle.cyc_types.specs.typing.Scopes.{Exception, Declared, LocalVariable}
use Rattle.cyc_types.specs.typing.Scopes as scopes
use Rattle.cyc_types.specs.typing.Statements.{exception_among}
use Rattle.cyc_types.specs.typing.Programs.{parameter_locals}
use Rattle.cyc_scope.specs.declared.program.Field.{Field}
use Rattle.cyc_scope.specs.declared.exceptions.Entry.{Entry as ExceptionEntry}
use Rattle.cyc_scope.specs.declared.declared.Entry.{Entry}
use Rattle.cyc_scope.specs.inside.Tables.{first_place, exception_names, declared_names, first_declared}
use Rattle.cyc_scope.specs.inside.Entries.{view_fields, view_exception, view_entry}
use Rattle.cyc_scope.proofs.TableLemmas.{first_found, lent, seen_through, among_first}

-- ---- functions and globals

pub declared_count : (es : List Entry) → length (declared_names (map view_entry es)) ≡ length es
declared_count es = length-map (map view_entry es) (λ (d : Declared). d.name) ∙ length-map es view_entry

pub declared_push : (es : List Entry) (e : Entry) → declared_names (map view_entry (es ++ e ∷ [])) ≡ declared_names (map view_entry es) ++ e.name ∷ []
declared_push es e = ap declared_names (map-append view_entry es (e ∷ [])) ∙ map-append (λ (d : Declared). d.name) (map view_entry es) (view_entry e ∷ [])

pub declared_lent : (es : List Entry) (x i : ℕ) (r : Option (Bor Entry)) → first_place (declared_names (map view_entry es)) x ≡ Some i → IsItemAt es i r
    → option_map (λ (e : Bor Entry). view_entry e.now) r ≡ first_declared (map view_entry es) x
declared_lent es x i r e h =
    seen_through view_entry r ∙ ap (option_map view_entry) (lent es i r h) ∙ sym (slice_get-map view_entry es i) ∙ first_found (λ (d : Declared). d.name) (map view_entry es) x i e

-- ---- exceptions

pub exception_count : (es : List ExceptionEntry) → length (exception_names (map view_exception es)) ≡ length es
exception_count es = length-map (map view_exception es) (λ (e : Exception). e.name) ∙ length-map es view_exception

pub exception_push : (es : List ExceptionEntry) (e : ExceptionEntry) → exception_names (map view_exception (es ++ e ∷ [])) ≡ exception_names (map view_exception es) ++ e.name ∷ []
exception_push es e = ap exception_names (map-append view_exception es (e ∷ [])) ∙ map-append (λ (d : Exception). d.name) (map view_exception es) (view_exception e ∷ [])

pub exception_at : (es : List ExceptionEntry) (x i : ℕ) (e : ExceptionEntry) → first_place (exception_names (map view_exception es)) x ≡ Some i → i < length es → e ≡ get_or es i e
    → exception_among (map view_exception es) x ≡ Some e.has_int
exception_at es x i e p lt is =
    among_first (map view_exception es) x
    ∙ ap (option_map (λ (d : Exception). d.has_int))
    (sym (first_found (λ (d : Exception). d.name) (map view_exception es) x i p) ∙ slice_get-map view_exception es i ∙ ap (option_map view_exception) (slice_get_read es (length es) i e refl lt is))

-- ---- fields

pub fields_lent : (fss : List (Vec Field Global)) (n : ℕ) (r : Option (Bor (Vec Field Global))) → IsItemAt fss n r
    → unwrap_or (option_map (λ (fs : Bor (Vec Field Global)). view_fields fs.now) r) [] ≡ unwrap_or (slice_get (map view_fields fss) n) []
fields_lent fss n r h =
    ap (λ (o : Option (List scopes.Field)). unwrap_or o []) (seen_through view_fields r ∙ ap (option_map view_fields) (lent fss n r h) ∙ sym (slice_get-map view_fields fss n))

-- ---- parameters

no_types : (ms : List Member) (n : ℕ) (vs : List LocalVariable) → parameter_locals ms [] n vs ≡ vs
no_types [] n vs = refl
no_types (m ∷ ms) n vs = refl

-- if the parameters of a whole list of types have been declared as locals, no parameter is left to declare
pub parameters_end : (ms : List Member) (ts : List TyCode) (i n : ℕ) (vs : List LocalVariable) → length ts ≤ i → parameter_locals ms (map view_ty (drop i ts)) n vs ≡ vs
parameters_end ms ts i n vs le = ap (λ us. parameter_locals ms (map view_ty us) n vs) (drop_all i ts le) ∙ no_types ms n vs
