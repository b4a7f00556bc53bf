use Rattle.std.proofs.Common.{◌≡◌, ◌∙◌, ℕ, ◌++◌, List, true, false, ap, arith, inl, inr}
use Rattle.cyc_plain.specs.declared.instruction.Instruction.{Instruction}
use Rattle.cyc_plain.specs.inside.Program.{Routine, routine_at}
use Rattle.cyc_inline.specs.declared.origin.Origin.{Origin}
use Rattle.cyc_inline.specs.inside.Emission.{front_by, opened_code, opened_origins}
use Rattle.cyc_inline.specs.inside.Sites.{place_in}
use Rattle.cyc_inline.proofs.EmissionPlaces.{parts_are}
use Rattle.cyc_inline.proofs.RangesFunction.{is_made}
use Rattle.cyc_inline.proofs.making.opened.Goals as goal

pub push_parts-requires : goal.push_parts-requires
push_parts-requires c =
    let table = c.in_ok-table.ensures in
    let rest = c.in_ok-rest.ensures in
    let first = table.few in
    let last = rest.few in
    parts_are c.args.plain.now c.args.number c.args.choice.now c.deref.result.now c.deref-2.result.now c.in_ok-table.table c.in_ok-rest.rest c.requires.plain c.requires.number c.requires.chosen
    (omega arith) c.deref.ensures.value table.places table.end c.deref-2.ensures.value rest.places rest.end (omega (arith, first, last))

pub push_parts-requires-2 : goal.push_parts-requires-2
push_parts-requires-2 c =
    let table = c.in_ok-table.ensures in
    let rest = c.in_ok-rest.ensures in
    let first = table.few in
    let last = rest.few in
    parts_are c.args.plain.now c.args.number c.args.choice.now c.deref.result.now c.deref-2.result.now c.in_ok-table.table c.in_ok-rest.rest c.requires.plain c.requires.number c.requires.chosen
    (omega arith) c.deref.ensures.value table.places table.end c.deref-2.ensures.value rest.places rest.end (omega (arith, first, last))

pub returns : goal.returns
returns c =
    let program = c.args.plain.now in
    let number = c.args.number in
    let r = routine_at program number in
    let chosen = c.args.choice.now.chosen.items in
    let front_at : ℕ → Instruction → List Instruction = front_by program number c.args.choice.now in
    let places = c.deref.result.now in
    let rests = c.deref-2.result.now in
    let f = c.function-function.result.now in
    let made : Routine = record {
      name = f.name;
      parameters = f.parameters;
      results = f.results;
      slots = c.args.choice.now.slots;
      frame_count = c.larger.result;
      code = c.push_parts-2.new.self.code.items;
    } in
    let same = c.function-function.ensures in
    let given : f.frame_count ≡ r.frame_count = ap (λ (x : Routine). x.frame_count) same in
    let left = c.larger.ensures.left in
    let table = c.in_ok-table.ensures in
    let rest = c.in_ok-rest.ensures in
    let first = table.few in
    let last = rest.few in
    let front : List Instruction = opened_code program number chosen front_at (place_in places) (place_in rests) true 0 r.code in
    let back : List Instruction = opened_code program number chosen front_at (place_in places) (place_in rests) false 0 r.code in
    let front_origins : List Origin = opened_origins program number chosen front_at true 0 r.code in
    let back_origins : List Origin = opened_origins program number chosen front_at false 0 r.code in
    is_made program number chosen front_at places rests made c.push_parts-2.new.self.origins.items (record {
      parts = parts_are program number c.args.choice.now places rests c.in_ok-table.table c.in_ok-rest.rest c.requires.plain c.requires.number c.requires.chosen
          (omega arith) c.deref.ensures.value table.places table.end c.deref-2.ensures.value rest.places rest.end (omega (arith, first, last));
      name = ap (λ (x : Routine). x.name) same;
      parameters = ap (λ (x : Routine). x.parameters) same;
      results = ap (λ (x : Routine). x.results) same;
      room = c.larger.ensures.right;
      least = omega (arith, left, given);
      frame = elim c.larger.ensures.either [
        | inl is ↦ inl (is ∙ given)
        | inr is ↦ inr is
      ];
      code = c.in_ok-push_parts-2.ensures.code
          ∙ ap (λ (before : List Instruction). before ++ back) (c.in_ok-push_parts.ensures.code ∙ ap (λ (before : List Instruction). before ++ front) c.new-emission.ensures.code);
      origins_are = c.in_ok-push_parts-2.ensures.origins
          ∙ ap (λ (before : List Origin). before ++ back_origins) (c.in_ok-push_parts.ensures.origins ∙ ap (λ (before : List Origin). before ++ front_origins) c.new-emission.ensures.origins);
    })
