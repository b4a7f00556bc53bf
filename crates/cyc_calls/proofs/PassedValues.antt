-- Lemmas about values passed to parameters or fields, for loops over expressions, values and types.
use Rattle.std.proofs.Common.{◌≡◌, ℕ, zero, suc, not, ◌+◌, ◌≤◌, List, [], ◌∷◌, ◌++◌, length, map, take, drop, slice_get, option_map, Option, Some, None, Ok, refl, sym, ap, ◌∙◌, arith}
use Rattle.std.specs.List.{list_any}
use Rattle.std.proofs.lemmas.Bool.{eqb-true}
use Rattle.std.proofs.lemmas.List.{drop_all}
use Rattle.std.proofs.lemmas.Option.{same_Some}
use Rattle.cyc_words.specs.declared.fault.Fault.{Fault}
use Rattle.cyc_words.specs.declared.fault.Code.TheVariants as codes
use Rattle.cyc_syntax.specs.declared.tree.Expr.{Expr}
use Rattle.cyc_syntax.specs.Symbols.{Place}
use Rattle.cyc_syntax.specs.Trees.{Expression, Expressions, NoExpressions, MoreExpressions, place_of}
use Rattle.cyc_syntax.specs.inside.TreeView.{expressions_of}
use Rattle.cyc_types.specs.declared.ty.Ty.{Ty as TyCode}
use Rattle.cyc_types.specs.declared.signature.Signature.{Signature as SignatureCode}
use Rattle.cyc_types.specs.declared.typed.Callee.{Callee}
use Rattle.cyc_types.specs.declared.typed.Converted.{Converted as ConvertedCode}
use Rattle.cyc_types.specs.declared.region.Region.{Region}
use Rattle.cyc_types.specs.Types.{Ty, Int, Char, Pointer, Handle, Key, Struct, result_type, substituted_ty}
use Rattle.cyc_types.specs.TypeView.{view_ty}
use Rattle.cyc_types.specs.inside.SignatureView.{view_signature}
use Rattle.cyc_types.specs.TypedTrees.{type_of}
use Rattle.cyc_types.specs.TypedTrees as typed
use Rattle.cyc_types.specs.Outlives.{RegionContext}
use Rattle.cyc_types.specs.TypedTreeView.{view_converted, arguments_of}
use Rattle.cyc_types.specs.Rules.{Demand, demand, AllKept, settled, unless, run}
use Rattle.cyc_types.specs.typing.Scopes.{Scope}
use Rattle.cyc_types.specs.typing.Tests.{kind_of, kind_of_value}
use Rattle.cyc_types.specs.typing.Expressions.{conversion, converted, passed, passed_demanded, paired_argument, is_unique_for_variable, variables_demanded, instantiated, call_demanded, called_by}
use Rattle.cyc_types.proofs.RuleLaws.{settled_kept}
use Rattle.cyc_operands.specs.inside.Operands.{value_in}
use Rattle.cyc_calls.specs.inside.Passing.{with_kinds, with_kinds_at, all_with_kinds}

-- ---- the type of a parameter at a call

module _ (m : List Region) where
  kind_at : (t : Ty) → kind_of (substituted_ty m t) ≡ kind_of t
  kind_at Int = refl
  kind_at Char = refl
  kind_at (Pointer k t r) = refl
  kind_at (Handle r) = refl
  kind_at (Key r) = refl
  kind_at (Struct n rs) = refl

-- ---- the demands on each value with an expression and a type

-- Says that `many` collects, for lists, the requirements that `one` states for each expression with its value and type.
pub record Asks (one : Expression → typed.Expression → Ty → List Demand) (many : Expressions → List typed.Expression → List Ty → List Demand) : Type 0 where
  pub no_expressions : (as' : List typed.Expression) (ts : List Ty) → many NoExpressions as' ts ≡ []
  pub no_values : (es : Expressions) (ts : List Ty) → many es [] ts ≡ []
  pub no_types : (es : Expressions) (as' : List typed.Expression) → many es as' [] ≡ []
  pub step : (e : Expression) (es : Expressions) (a : typed.Expression) (as' : List typed.Expression) (t : Ty) (ts : List Ty) → many (MoreExpressions e es) (a ∷ as') (t ∷ ts) ≡ one e a t ++ many es as' ts

module _ (one : Expression → typed.Expression → Ty → List Demand) (many : Expressions → List typed.Expression → List Ty → List Demand) (asks : Asks one many) where
  -- Returns all requirements that `many` states for a list of expressions, the list of their values, and the list of types to which the
  -- values are converted.
  abbrev pub asked : List Expr → List ConvertedCode → List TyCode → List Demand
  asked es cs ts = many (expressions_of es) (map value_in cs) (map view_ty ts)

  pub asked_no_type : (known : Option Fault) (es : List Expr) (cs : List ConvertedCode) (ts : List TyCode) (i : ℕ) → length ts ≤ i → settled known (asked (drop i es) (drop i cs) (drop i ts)) ≡ known
  asked_no_type known es cs ts i le =
      ap (λ xs. settled known (asked (drop i es) (drop i cs) xs)) (drop_all i ts le) ∙ ap (settled known) (asks.no_types (expressions_of (drop i es)) (map value_in (drop i cs)))

-- Returns the requirement that one value can be converted to its type.
abbrev pub one_passed : RegionContext → Expression → typed.Expression → Ty → List Demand
one_passed c e a t = conversion c (type_of a) t (place_of e)

pub passes : (c : RegionContext) → Asks (one_passed c) (passed_demanded c)
passes c = record {
  no_expressions = λ as' ts. refl;
  no_values = no_values;
  no_types = no_types;
  step = λ e es a as' t ts. refl;
}
  where
    no_values : (es : Expressions) (ts : List Ty) → passed_demanded c es [] ts ≡ []
    no_values NoExpressions ts = refl
    no_values (MoreExpressions e es) ts = refl

    no_types : (es : Expressions) (as' : List typed.Expression) → passed_demanded c es as' [] ≡ []
    no_types NoExpressions as' = refl
    no_types (MoreExpressions e es) [] = refl
    no_types (MoreExpressions e es) (a ∷ as') = refl

-- Returns the requirement that no region variable is instantiated to the region of unique pointers.
abbrev pub one_variable : Expression → typed.Expression → Ty → List Demand
one_variable e a t = demand codes.RegionOrKeyMisused (place_of e) (not (list_any is_unique_for_variable (paired_argument t (type_of a)))) ∷ []

pub varies : Asks one_variable variables_demanded
varies = record {
  no_expressions = λ as' ts. refl;
  no_values = no_values;
  no_types = no_types;
  step = λ e es a as' t ts. refl;
}
  where
    no_values : (es : Expressions) (ts : List Ty) → variables_demanded es [] ts ≡ []
    no_values NoExpressions ts = refl
    no_values (MoreExpressions e es) ts = refl

    no_types : (es : Expressions) (as' : List typed.Expression) → variables_demanded es as' [] ≡ []
    no_types NoExpressions as' = refl
    no_types (MoreExpressions e es) [] = refl
    no_types (MoreExpressions e es) (a ∷ as') = refl

-- ---- the source and target types of each value

-- If there are as many values as types, then setting the type of each value's conversion yields the arguments that the typing rules pass.
pub passed_all : (cs : List ConvertedCode) (ts : List TyCode) → length (map value_in cs) ≡ length (map view_ty ts) → arguments_of (all_with_kinds cs ts) ≡ passed (map value_in cs) (map view_ty ts)
passed_all [] ts h = refl
passed_all (c ∷ cs) [] h = absurd (omega (arith, h))
passed_all (c ∷ cs) (t ∷ ts) h = ap (typed.MoreArguments (view_converted (with_kinds c t))) (passed_all cs ts (omega (arith, h)))

pub none_set : (cs : List ConvertedCode) → all_with_kinds cs [] ≡ cs
none_set [] = refl
none_set (c ∷ cs) = refl

pub set_more : (cs : List ConvertedCode) (ts : List TyCode) (i : ℕ) (t : TyCode) → slice_get ts i ≡ Some t
    → with_kinds_at (slice_get (all_with_kinds cs (take i ts)) i) (all_with_kinds cs (take i ts)) i t ≡ all_with_kinds cs (take (suc i) ts)
set_more [] ts zero t h = refl
set_more [] ts (suc i) t h = refl
set_more (c ∷ cs) [] zero t h = absurd (cc)
set_more (c ∷ cs) [] (suc i) t h = absurd (cc)
set_more (c ∷ cs) (u ∷ ts) zero t h = ap (λ x. with_kinds c x ∷ cs) (same_Some t u (sym h)) ∙ ap (λ ds. with_kinds c u ∷ ds) (sym (none_set cs))
set_more (c ∷ cs) (u ∷ ts) (suc i) t h =
    following (slice_get (all_with_kinds cs (take i ts)) i) (all_with_kinds cs (take i ts)) ∙ ap (λ ds. with_kinds c u ∷ ds) (set_more cs ts i t h)
  where
    following : (o : Option ConvertedCode) (ds : List ConvertedCode) → with_kinds_at o (with_kinds c u ∷ ds) (suc i) t ≡ with_kinds c u ∷ with_kinds_at o ds i t
    following None ds = refl
    following (Some d) ds = refl

-- ---- calls

-- Instantiating the regions of the parameter types does not change how the argument values are converted.
passed_alike : (m : List Region) (as' : List typed.Expression) (ts : List Ty) → passed as' (map (substituted_ty m) ts) ≡ passed as' ts
passed_alike m [] ts = refl
passed_alike m (a ∷ as') [] = refl
passed_alike m (a ∷ as') (t ∷ ts) =
    ap (λ k. typed.MoreArguments (typed.Convert (kind_of_value (type_of a)) k a) (passed as' (map (substituted_ty m) ts))) (kind_at m t) ∙ ap (typed.MoreArguments (converted a t)) (passed_alike m as' ts)

-- A call without a fault is well typed, given the regions of the variables of its signature.
pub called_well : (g : Scope) (f : Callee) (p : Place) (es : Expressions) (cs : List ConvertedCode) (s : SignatureCode) (m : List Region) (r : Option TyCode)
    → option_map view_ty r ≡ option_map (substituted_ty m) (option_map view_ty s.result)
    → settled None (call_demanded g p es (map value_in cs) (view_signature s) (instantiated m (view_signature s))) ≡ None
    → Ok (typed.Call f (arguments_of (all_with_kinds cs s.parameters.items)) (result_type (option_map view_ty r))) ≡ run (called_by g f p es (map value_in cs) (view_signature s) (instantiated m (view_signature s)))
called_well g f p es cs s m r is kept =
    let values = map value_in cs in
    let ts = map view_ty s.parameters.items in
    let demands = call_demanded g p es values (view_signature s) (instantiated m (view_signature s)) in
    let all : AllKept demands = settled_kept demands kept in
    let count : length values ≡ length ts = eqb-true (length values) (length ts) all.0 in
    ap (λ as'. Ok (typed.Call f as' (result_type (option_map view_ty r)))) (passed_all cs s.parameters.items count ∙ sym (passed_alike m values ts))
    ∙ ap (λ o. Ok (typed.Call f (passed values (map (substituted_ty m) ts)) (result_type o))) is
    ∙ sym (ap (λ o. unless o (typed.Call f (passed values (map (substituted_ty m) ts)) (result_type (option_map (substituted_ty m) (option_map view_ty s.result))))) kept)
