use Rattle.std.proofs.Common.{◌≡◌, ◌∙◌, ◌+◌, ℕ, true, false, List, length, Option, Some, ap, sym, arith}
use Rattle.cyc_plain.specs.declared.instruction.Instruction.{Instruction}
use Rattle.cyc_plain.specs.inside.Program.{routine_of, routine_at}
use Rattle.cyc_inline.specs.declared.site.Call.{Call}
use Rattle.cyc_inline.specs.inside.Emission.{front_by, part_count, call_size, opened_end}
use Rattle.cyc_inline.specs.inside.Sites.{chosen_call, place_in}
use Rattle.cyc_inline.proofs.ChoosingCalls.{in_code, call_in_range, fit_site, same_size}
use Rattle.cyc_inline.proofs.EmissionPlaces.{place_next}
use Rattle.cyc_inline.proofs.emission.Emission.push_part.Goals as goal

pub push_site-requires-clause-fits : goal.push_site-requires-clause-fits
push_site-requires-clause-fits c =
    let caller = c.args.caller.now in
    let program = caller.plain.now in
    let r = routine_at program caller.number in
    let i = c.args.instruction in
    let chosen = caller.choice.now.chosen.items in
    let line : c.place_in.result ≡ place_in chosen c.args.index = c.place_in.ensures ∙ ap (λ (lines : List ℕ). place_in lines c.args.index) c.deref.ensures.value in
    let is : chosen_call i (place_in chosen c.args.index) ≡ Some c.in-Some.call = sym (c.chosen_call.ensures ∙ ap (chosen_call i) line) ∙ c.in-Some.is in
    fit_site program r caller.choice.now.slots c.in-Some.call c.requires.known.plain c.requires.known.few
    (c.requires.known.calls.each c.args.index i c.in-Some.call c.requires.at is)
    (call_in_range program r i (place_in chosen c.args.index) c.in-Some.call (in_code program caller.number c.args.index i c.requires.known.plain c.requires.known.is_function c.requires.at) is)
    (routine_of c.function.result.now) (routine_of c.function-callee.result.now) c.place_in-in-Some.result c.place_in-in-Some-2.result c.deref-in-Some.result.now
    c.function.ensures c.function-callee.ensures c.deref-in-Some.ensures.value

pub push_site-requires-clause-room : goal.push_site-requires-clause-room
push_site-requires-clause-room c =
    let caller = c.args.caller.now in
    let program = caller.plain.now in
    let i = c.args.instruction in
    let chosen = caller.choice.now.chosen.items in
    let front_at : ℕ → Instruction → List Instruction = front_by program caller.number caller.choice.now in
    let line : c.place_in.result ≡ place_in chosen c.args.index = c.place_in.ensures ∙ ap (λ (lines : List ℕ). place_in lines c.args.index) c.deref.ensures.value in
    let is : chosen_call i (place_in chosen c.args.index) ≡ Some c.in-Some.call = sym (c.chosen_call.ensures ∙ ap (chosen_call i) line) ∙ c.in-Some.is in
    let next : place_in caller.places.now (c.args.index + 1) ≡ place_in caller.places.now c.args.index + call_size program true c.in-Some.call =
    place_next program chosen front_at true 0 (routine_at program caller.number).code caller.places.now c.args.index i c.requires.known.standing c.requires.at
    ∙ ap (λ (call : Option Call). place_in caller.places.now c.args.index + part_count program true call (length (front_at c.args.index i))) is in
    let same = same_size program c.in-Some.call true (routine_of c.function-callee.result.now) c.deref-in-Some.result.now c.function-callee.ensures c.deref-in-Some.ensures.value in
    let here = c.place_in-here.ensures in
    let there = c.place_in-in-Some.ensures in
    let few = c.place_in-in-Some.type_inv in
    omega (arith, next, same, here, there, few)

pub push_site-requires-clause-rest : goal.push_site-requires-clause-rest
push_site-requires-clause-rest c =
    let caller = c.args.caller.now in
    let program = caller.plain.now in
    let i = c.args.instruction in
    let chosen = caller.choice.now.chosen.items in
    let code = (routine_at program caller.number).code in
    let front_at : ℕ → Instruction → List Instruction = front_by program caller.number caller.choice.now in
    let line : c.place_in.result ≡ place_in chosen c.args.index = c.place_in.ensures ∙ ap (λ (lines : List ℕ). place_in lines c.args.index) c.deref.ensures.value in
    let is : chosen_call i (place_in chosen c.args.index) ≡ Some c.in-Some.call = sym (c.chosen_call.ensures ∙ ap (chosen_call i) line) ∙ c.in-Some.is in
    let next : place_in caller.rests.now (c.args.index + 1) ≡ place_in caller.rests.now c.args.index + call_size program false c.in-Some.call =
    place_next program chosen front_at false (opened_end program chosen front_at true 0 0 code) code caller.rests.now c.args.index i c.requires.known.resting c.requires.at
    ∙ ap (λ (call : Option Call). place_in caller.rests.now c.args.index + part_count program false call (length (front_at c.args.index i))) is in
    let same = same_size program c.in-Some.call false (routine_of c.function-callee.result.now) c.deref-in-Some.result.now c.function-callee.ensures c.deref-in-Some.ensures.value in
    let there = c.place_in-in-Some-2.ensures in
    let few = c.requires.known.fit (c.args.index + 1) in
    omega (arith, next, same, there, few)
