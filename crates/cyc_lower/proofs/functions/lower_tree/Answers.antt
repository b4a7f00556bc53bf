use Rattle.std.proofs.Common.{◌≡◌, ℕ, List, Option, ◌∙◌, ap, map, subst, sym, arith}
use Rattle.std.specs.List.{list_any}
use Rattle.cyc_types.specs.declared.typed.Function.{Function}
use Rattle.cyc_types.specs.declared.typed.Global.{Global}
use Rattle.cyc_types.specs.declared.typed.StructType.{StructType}
use Rattle.cyc_types.specs.TypedTreeView.{view_struct, view_function, view_global, view_program}
use Rattle.cyc_plain.specs.inside.Program.{program_of, routine_of}
use Rattle.cyc_plain.specs.inside.WellFormed.{IsPlain}
use Rattle.cyc_meaning.specs.FrameCount.{words_of_all}
use Rattle.cyc_lower_proof.specs.inside.Slots.{starts_from, global_types}
use Rattle.cyc_lower_proof.specs.inside.Lowering.{lower_function, lower_globals, globals_of, lower_program, may_open, scopes_if, scopes_of}
use Rattle.cyc_lower_proof.specs.inside.Bounds.{AreClose}
use Rattle.cyc_lower_proof.proofs.sizes.Lowerings.{is_plain, closely_lowered}
use Rattle.cyc_lower.proofs.functions.lower_tree.Goals as goal

pub starts_of_globals-requires : goal.starts_of_globals-requires
starts_of_globals-requires c =
    let globals = ap (λ (gs : List Global). words_of_all (global_types (map view_global gs))) c.deref.ensures.value in
    omega (arith, globals, c.requires.can_be.few_globals)

pub lower_functions-requires-clause-close : goal.lower_functions-requires-clause-close
lower_functions-requires-clause-close c =
    let source = view_program c.args.tree.now in
    let starts : c.in_ok-starts.starts.items ≡ globals_of source = c.in_ok-starts.ensures ∙ ap (λ (gs : List Global). starts_from 0 (global_types (map view_global gs))) c.deref.ensures.value in
    let scopes : c.scopes_of-scopes.result ≡ scopes_of source
    = c.scopes_of-scopes.ensures ∙ ap (λ (fs : List Function). scopes_if (list_any may_open (map view_function fs))) c.deref-3.ensures.value in
    subst (λ (ss : List StructType). AreClose (map view_struct ss) c.deref-5.result.now c.scopes_of-scopes.result (map view_function c.deref-6.result.now)) (sym c.deref-4.ensures.value)
    (subst (λ (l : List ℕ). AreClose source.structs l c.scopes_of-scopes.result (map view_function c.deref-6.result.now)) (sym (c.deref-5.ensures.value ∙ starts))
    (subst (λ (o : Option ℕ). AreClose source.structs (globals_of source) o (map view_function c.deref-6.result.now)) (sym scopes)
    (subst (λ (fs : List Function). AreClose source.structs (globals_of source) (scopes_of source) (map view_function fs)) (sym c.deref-6.ensures.value)
    (closely_lowered source c.requires.well_typed c.requires.can_be))))

pub new-requires : goal.new-requires
new-requires c =
    let source = view_program c.args.tree.now in
    let starts : c.in_ok-starts.starts.items ≡ globals_of source = c.in_ok-starts.ensures ∙ ap (λ (gs : List Global). starts_from 0 (global_types (map view_global gs))) c.deref.ensures.value in
    let words : c.in_ok-globals.globals.items ≡ lower_globals source.globals
    = c.in_ok-globals.ensures ∙ ap (λ (gs : List Global). lower_globals (map view_global gs)) c.deref-2.ensures.value in
    let scopes : c.scopes_of-scopes.result ≡ scopes_of source
    = c.scopes_of-scopes.ensures ∙ ap (λ (fs : List Function). scopes_if (list_any may_open (map view_function fs))) c.deref-3.ensures.value in
    let functions : map routine_of c.in_ok-functions.functions.items ≡ map (lower_function source.structs (globals_of source) (scopes_of source)) source.functions
    = c.in_ok-functions.ensures
    ∙ ap (λ (ss : List StructType). map (lower_function (map view_struct ss) c.deref-5.result.now c.scopes_of-scopes.result) (map view_function c.deref-6.result.now)) c.deref-4.ensures.value
    ∙ ap (λ (l : List ℕ). map (lower_function source.structs l c.scopes_of-scopes.result) (map view_function c.deref-6.result.now)) (c.deref-5.ensures.value ∙ starts)
    ∙ ap (λ (o : Option ℕ). map (lower_function source.structs (globals_of source) o) (map view_function c.deref-6.result.now)) scopes
    ∙ ap (λ (fs : List Function). map (lower_function source.structs (globals_of source) (scopes_of source)) (map view_function fs)) c.deref-6.ensures.value in
    let same : program_of c.in_ok-functions.functions.items c.in_ok-globals.globals.items c.args.tree.now.main ≡ lower_program source
    = λ i. record { functions = functions i; globals = words i; main = source.main } in
    subst IsPlain (sym same) (is_plain source c.requires.well_typed c.requires.can_be c.requires.small)
