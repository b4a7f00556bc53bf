use Rattle.std.proofs.Common.{◌≡◌, ℕ, ◌+◌, ◌-◌, ◌≤◌, List, map, ap, ◌∙◌, arith, []}
use Rattle.cyc_types.specs.TypedTreeView.{view_struct, view_function}
use Rattle.cyc_types.specs.TypeView.{view_ty}
use Rattle.cyc_types.specs.declared.ty.Ty.{Ty}
use Rattle.cyc_meaning.specs.FrameCount.{items_need, kept_by_items, words_of_all, frame_count}
use Rattle.cyc_lower_proof.specs.inside.ValueCode.{first_temporary}
use Rattle.cyc_lower_proof.specs.inside.ControlCode.{outside_loops}
use Rattle.cyc_lower_proof.specs.inside.Lowering.{function_code, items_code, blocks_kept, span_of_place}
use Rattle.cyc_lower_proof.proofs.slots.Slots.{slots-few}
use Rattle.cyc_lower.proofs.Routines.{few_locals, function_made}
use Rattle.cyc_lower.proofs.functions.lower_function.Goals as goal

pub lower_body-requires : goal.lower_body-requires
lower_body-requires c = omega (arith, (few_locals c.args.function.now c.requires.few).1, c.in_ok-locals.ensures.2)

pub words_of_all-requires : goal.words_of_all-requires
words_of_all-requires c =
    let parameters = ap (λ (ts : List Ty). words_of_all (map view_ty ts)) c.deref-2.ensures.value in
    omega (arith, c.requires.few, parameters)

pub returns : goal.returns
returns c =
    let f = c.args.function.now in
    let h = view_function f in
    let structs = map view_struct c.args.structs.now in
    let globals = c.args.globals.now in
    let scopes = c.args.scopes in
    let slot = c.in_ok-locals.tag_slot in
    let free = c.in_ok-locals.free in
    let far : ℕ = 9223372036854775816 in
    let raises = c.place-raises.result in
    let v = c.in_ok-emitter.emitter.code in
    let parameters : c.words_of_all.result ≡ words_of_all h.parameters = c.words_of_all.ensures ∙ ap (λ (ts : List Ty). words_of_all (map view_ty ts)) c.deref-2.ensures.value in
    let slots : c.frame_count-words.result - 24 + 1 + 3 ≡ first_temporary h + kept_by_items h.body + items_need h.body + 3 = omega (arith, c.frame_count-words.ensures, slots-few h) in
    let code : c.take_back.new.self.code.items ≡ function_code structs globals scopes h =
    function_made structs globals scopes h c.in_ok-locals.locals.items slot free far raises (c.place.result + c.blocks_kept-count.result) c.saturating_sub.result c.blocks_kept-count.result c.in_ok-emitter.emitter.code.items c.settle.new.self.code.items c.emit.new.self.code.items c.lower_blocks.new.self.code.items c.take_back.new.self.code.items
    c.in_ok-locals.ensures.0 c.in_ok-locals.ensures.1 c.in_ok-locals.ensures.2
    (c.in_ok-emitter.ensures ∙ ap (λ (l : List ℕ). items_code (record { locals = l; tag_slot = slot; structs = structs; raises = far; counters = []; globals = globals; scopes = scopes }) h.body 0 outside_loops free) c.deref.ensures.value)
    c.place-raises.ensures c.settle.ensures c.requires.close (omega (arith, c.place-raises.ensures, v.ok.0, v.ok.1, v.small))
    (c.saturating_sub.ensures ∙ ap (λ (n : ℕ). n - raises) c.farthest.ensures) (c.blocks_kept-count.ensures ∙ ap blocks_kept c.min.ensures) c.in_ok-emit.ensures (ap (λ (n : ℕ). n + c.blocks_kept-count.result) c.place.ensures) c.in_ok-lower_blocks.ensures c.take_back.ensures in
    λ i. record {
      name = span_of_place h.place;
      parameters = parameters i;
      results = c.results_of.ensures i;
      slots = slots i;
      frame_count = c.frame_count-words.ensures i;
      code = code i;
    }
