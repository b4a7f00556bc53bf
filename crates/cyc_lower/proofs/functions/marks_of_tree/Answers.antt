use Rattle.std.proofs.Common.{List, map, sym, ap, ◌∙◌, arith}
use Rattle.std.specs.Prelude.{slice_get}
use Rattle.cyc_words.proofs.Items.{slice_get-map_read}
use Rattle.cyc_types.specs.declared.typed.Function.{Function}
use Rattle.cyc_types.specs.declared.typed.Global.{Global}
use Rattle.cyc_types.specs.TypedTreeView.{view_function, view_global}
use Rattle.cyc_meaning.specs.FrameCount.{words_of_all}
use Rattle.cyc_lower_proof.specs.inside.Slots.{global_types}
use Rattle.cyc_lower.proofs.functions.marks_of_tree.Goals as goal

pub starts_of_globals-requires : goal.starts_of_globals-requires
starts_of_globals-requires c =
    let globals = ap (λ (gs : List Global). words_of_all (global_types (map view_global gs))) c.deref.ensures.value in
    omega (arith, globals, c.requires.can_be.few_globals)

pub marks_of_function-requires : goal.marks_of_function-requires
marks_of_function-requires c =
    let x = c.function-item.result in
    let index = c.loop-function.function-index in
    let at = slice_get-map_read view_function c.deref-function-items.result.now index x c.loop-function-test.true c.function-item.is in
    c.requires.few index (view_function x) (ap (λ (fs : List Function). slice_get (map view_function fs) index) (sym c.deref-function-items.ensures.value) ∙ at)
