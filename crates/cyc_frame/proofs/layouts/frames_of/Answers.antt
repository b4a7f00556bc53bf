use Rattle.std.proofs.Common.{◌≡◌, ◌≤◌, ℕ, ◌+◌, length, ap, sym, subst, arith, inl, inr}
use Rattle.std.proofs.lemmas.List.{length-map}
use Rattle.cyc_plain.specs.inside.Program.{routine_of}
use Rattle.cyc_frame.specs.inside.Layout.{AreFirstFrames}
use Rattle.cyc_frame.proofs.Sound.{more_frames}
use Rattle.cyc_frame.proofs.layouts.frames_of.Goals as goal

pub loop-number-preserved : goal.loop-number-preserved
loop-number-preserved c =
    let loop = c.loop-number in
    let most = c.greatest-most in
    let within : c.greatest-most.result ≤ c.if-all_return.may_save = elim c.greatest-most.ensures.either [
      | inl before ↦ omega (arith, before, loop.invariant.1)
      | inr its ↦ omega (arith, its, c.in_ok-frame.ensures.saved)
    ] in (
      subst (AreFirstFrames c.args.plain.now (c.loop-number.number + 1) c.greatest-most.result) (sym c.in_ok-push.ensures.items)
          (more_frames c.args.plain.now loop.number loop.most most.result loop.frames.items c.in_ok-frame.frame _ loop.invariant.0 most.ensures.rises most.ensures.covers
          c.function.ensures c.in_ok-frame.ensures.frame c.in_ok-frame.ensures.homes c.in_ok-frame.ensures.idle c.in_ok-frame.ensures.fills),
      within,
    )

pub raise-requires-clause-first : goal.raise-requires-clause-first
raise-requires-clause-first c =
    let functions = c.functions-functions in
    let loop = c.loop-number in
    let all : c.loop-number.number ≡ length c.args.plain.now.functions =
    omega (arith, c.loop-number-test.false, loop.auto.number-end, length-map functions.result.now routine_of, ap length functions.ensures.value) in
    subst (λ (n : ℕ). AreFirstFrames c.args.plain.now n c.loop-number.most c.loop-number.frames.items) all loop.invariant.0
