use Rattle.std.proofs.Common.{◌≡◌, ◌∙◌, ℕ, List, length, sym, ap, subst, arith}
use Rattle.std.proofs.lemmas.List.{length-map}
use Rattle.cyc_plain.specs.inside.Program.{Routine, routine_of}
use Rattle.cyc_plain.specs.inside.Straight.{At}
use Rattle.cyc_inline.specs.inside.Emptied.{LeadsBelow}
use Rattle.cyc_inline.proofs.EmptiedFunctions.{leads_below, called_next, all_reached}
use Rattle.cyc_inline.proofs.emptying.reached_in.Goals as goal

pub note_calls-requires : goal.note_calls-requires
note_calls-requires c = λ p i at.
    (let program = c.args.plain.now in
    let (many, main, leads) = c.loop-number.invariant in
    let long : length c.functions-count.result.now ≡ length program.functions = sym (length-map c.functions-count.result.now routine_of) ∙ ap (λ (rs : List Routine). length rs) c.functions-count.ensures.value in
    let below = c.loop-number-test.true in
    subst (λ (n : ℕ). LeadsBelow n i) (sym many)
    (leads_below program c.loop-number.number c.functions-count.ensures.plain (omega (arith, long, below)) p i (subst (λ (r : Routine). At r.code p i) c.function-function.ensures at)))

pub loop-number-preserved : goal.loop-number-preserved
loop-number-preserved c =
    let at = c.loop-number in
    let (many, main, leads) = at.invariant in
    let step = c.note_calls.ensures in
    let (as_many, stay) = step.stay in (
      as_many ∙ many,
      stay c.args.plain.now.main main,
      called_next c.args.plain.now at.number (routine_of c.function-function.result.now) at.reached.items c.note_calls.new.reached.items c.function-function.ensures step.stay step.leads leads,
    )

pub returns : goal.returns
returns c =
    let program = c.args.plain.now in
    let (many, main, leads) = c.loop-number.invariant in
    let long : length c.functions-count.result.now ≡ length program.functions = sym (length-map c.functions-count.result.now routine_of) ∙ ap (λ (rs : List Routine). length rs) c.functions-count.ensures.value in
    let least = c.loop-number-test.false in
    all_reached program c.loop-number.reached.items c.loop-number.number (omega (arith, long, least)) main leads
