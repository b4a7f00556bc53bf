-- The values of a new struct are converted before the check that the struct has as many fields as there are values.
use Rattle.std.proofs.Common.{◌≡◌, true, nat_eq, List, [], ◌∷◌, ◌++◌, length, map, Option, None, sym, ap, ◌∙◌}
use Rattle.std.proofs.lemmas.Bool.{eqb-true}
use Rattle.std.proofs.lemmas.List.{length-map}
use Rattle.cyc_words.specs.declared.fault.Fault.{Fault}
use Rattle.cyc_words.specs.declared.fault.Code.TheVariants as codes
use Rattle.cyc_syntax.specs.Trees.{Named, Expressions}
use Rattle.cyc_types.specs.declared.ty.Ty.{Ty as TyCode}
use Rattle.cyc_types.specs.declared.typed.Converted.{Converted as ConvertedCode}
use Rattle.cyc_types.specs.Types.{Ty, substituted_ty}
use Rattle.cyc_types.specs.TypeView.{view_ty}
use Rattle.cyc_types.specs.TypedTrees as typed
use Rattle.cyc_types.specs.TypedTreeView.{arguments_of}
use Rattle.cyc_types.specs.Rules.{Demand, demand, AllKept, settled}
use Rattle.cyc_types.specs.typing.Scopes.{Scope, Field}
use Rattle.cyc_types.specs.typing.Formation.{struct_demanded}
use Rattle.cyc_types.specs.typing.Expressions.{passed, passed_demanded, field_types, arguments_written, fields_known, fields_made}
use Rattle.cyc_types.proofs.RuleLaws.{settled_kept}
use Rattle.cyc_operands.specs.inside.Operands.{value_in}
use Rattle.cyc_calls.specs.inside.Passing.{all_with_kinds, fields_asked}
use Rattle.cyc_calls.proofs.PassedValues.{passed_all}

kept_after : (ds : List Demand) (d : Demand) (es : List Demand) → AllKept (ds ++ (d ∷ es)) → d.kept ≡ true
kept_after [] d es h = h.0
kept_after (c ∷ ds) d es h = kept_after ds d es h.1

module _ (g : Scope) (s : Named) (rs : List Named) (es : Expressions) (cs : List ConvertedCode) (us : List TyCode) where
  abbrev values : List typed.Expression
  values = map value_in cs

  abbrev types : List Ty
  types = field_types (arguments_written g s rs) (fields_known g s)

  pub asked_is : map view_ty us ≡ types → settled None (fields_asked g s rs es values (map view_ty us)) ≡ settled None (fields_made g s rs es values).asked
  asked_is h =
      ap (λ ts. settled None (fields_asked g s rs es values ts)) h
      ∙ ap (λ n. settled None (struct_demanded g.structs g.names None s.place s rs ++ (demand codes.TypeMismatch s.place (nat_eq (length values) n) ∷ passed_demanded g.regions es values types)))
      (length-map (fields_known g s) (λ (f : Field). substituted_ty (arguments_written g s rs) f.of_type))

  pub initial_is : (known : Option Fault) → known ≡ settled None (fields_asked g s rs es values (map view_ty us)) → map view_ty us ≡ types → known ≡ None
      → typed.Fields (arguments_of (all_with_kinds cs us)) ≡ (fields_made g s rs es values).initial
  initial_is known asked h none =
      let kept : AllKept (fields_asked g s rs es values (map view_ty us)) = settled_kept (fields_asked g s rs es values (map view_ty us)) (sym asked ∙ none) in
      let count : length values ≡ length (map view_ty us) = eqb-true (length values) (length (map view_ty us))
      (kept_after (struct_demanded g.structs g.names None s.place s rs) (demand codes.TypeMismatch s.place (nat_eq (length values) (length (map view_ty us)))) (passed_demanded g.regions es values (map view_ty us)) kept) in
      ap typed.Fields (passed_all cs us count) ∙ ap (λ ts. typed.Fields (passed values ts)) h
