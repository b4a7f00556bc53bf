use Rattle.std.proofs.Common.{◌≡◌, ℕ, ◌+◌, List, Some, length, ap, sym, subst, ◌∙◌, arith}
use Rattle.std.proofs.lemmas.Option.{slice_get-get_or}
use Rattle.cyc_plain.specs.declared.instruction.Instruction.{Instruction}
use Rattle.cyc_plain.specs.inside.Program.{routine_of}
use Rattle.cyc_registers.specs.inside.FillPlaces.{AreLeft, barring}
use Rattle.cyc_registers.proofs.FillCode.{more_barred, fillable}
use Rattle.cyc_registers.proofs.fills.fills_of.Goals as goal

pub loop-index-preserved : goal.loop-index-preserved
loop-index-preserved c =
    let loop = c.loop-index in
    let holders = c.args.holders.now in
    let live = c.args.lives.now.live.items in
    let homes = c.args.homes.now in
    let code = c.args.function.now.code.items in
    let instruction = c.index-instruction.result.now in
    let made = c.bar.ensures
    ∙ (ap (λ (l : List ℕ). barring holders l homes c.deref-in-loop-index.result.now loop.index instruction loop.fills.items) c.deref.ensures.value
    ∙ ap (λ (l : List Instruction). barring holders live homes l loop.index instruction loop.fills.items) c.deref-in-loop-index.ensures.value) in
    subst (AreLeft holders live homes code (loop.index + 1)) (sym made)
    (more_barred holders live homes code loop.index loop.fills.items loop.invariant instruction
    (slice_get-get_or code loop.index instruction (omega (arith, c.loop-index-test.true, c.len-index-end.ensures)) ∙ ap Some (sym c.index-instruction.ensures)))

pub returns : goal.returns
returns c =
    let loop = c.loop-index in
    let lives = c.args.lives.now in
    let code = c.args.function.now.code.items in
    let same : loop.index ≡ length code = omega (arith, c.loop-index-test.false, loop.auto.index-end, c.len-index-end.ensures) in
    fillable c.args.plain.now (routine_of c.args.function.now) c.args.masks.now lives.live.items c.args.holders.now lives.calls lives.clauses lives.barred c.requires.sound c.requires.numbered c.args.homes.now c.requires.holders loop.fills.items
    (subst (λ (n : ℕ). AreLeft c.args.holders.now lives.live.items c.args.homes.now code n loop.fills.items) same loop.invariant)
