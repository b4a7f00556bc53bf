use Rattle.std.proofs.Common.{◌≡◌, ℕ, ◌+◌, ◌<◌, false, List, length, ap, sym, subst, ◌∙◌, arith}
use Rattle.std.specs.Prelude.{slice_set}
use Rattle.cyc_plain.specs.inside.Program.{Routine, routine_at}
use Rattle.cyc_frame.specs.inside.Frame.{Frame}
use Rattle.cyc_frame.specs.inside.Layout.{AreFirstFrames, AreRaised, frame_at, opens_any}
use Rattle.cyc_frame.proofs.Sound.{frame_there, raised_first, raised_more, raised_past, all_raised}
use Rattle.cyc_frame.proofs.layouts.raise.Goals.{then-opens_any, else-opens_any}
use Rattle.cyc_frame.proofs.layouts.raise.Goals as goal

pub loop-number-preserved : goal.loop-number-preserved
loop-number-preserved c =
    let program = c.args.plain.now in
    let most = c.args.most in
    let n = c.loop-number.number in
    let items = c.loop-number.frames.items in
    let are = c.loop-number.invariant.0 in
    let listed : c.loop-number.number < length c.loop-number.frames.items = omega (arith, c.loop-number-test.true, c.len-number-end.ensures, are.as_many, c.requires.first.as_many) in
    let known : c.loop-number.number < length c.args.plain.now.functions = omega (arith, listed, are.as_many) in
    elim c.if-opens_any.branch [
      | then-opens_any w ↦
          let is = w.behind-frames.view_is ∙ (w.index_mut.ensures.value ∙ frame_there items n w.index_mut.result.now listed) in
          let made : c.if-opens_any.frames.items ≡ slice_set c.loop-number.frames.items c.loop-number.number (record (frame_at c.loop-number.frames.items c.loop-number.number) { saved = c.args.most }) =
          ap (λ v. v.items) w.frames-is ∙ ap (λ (f : Frame). slice_set c.loop-number.frames.items c.loop-number.number (record f { saved = c.args.most })) is in
          subst (λ (l : List Frame). AreFirstFrames c.args.plain.now (length c.args.plain.now.functions) c.args.most l × AreRaised c.args.plain.now (c.loop-number.number + 1) c.args.most l) (sym made)
          (raised_first program most c.requires.most c.requires.returns items are n known, raised_more program most c.requires.most c.requires.returns items are n known c.loop-number.invariant.1)
      | else-opens_any w ↦
          let none : opens_any (routine_at c.args.plain.now c.loop-number.number).code ≡ false =
          ap (λ (r : Routine). opens_any r.code) (sym c.function.ensures) ∙ (ap opens_any (sym c.deref.ensures.value) ∙ (sym c.opens_any.ensures ∙ w.if-opens_any.false)) in
          let same : c.if-opens_any.frames.items ≡ c.loop-number.frames.items = ap (λ v. v.items) w.frames-is in
          subst (λ (l : List Frame). AreFirstFrames c.args.plain.now (length c.args.plain.now.functions) c.args.most l × AreRaised c.args.plain.now (c.loop-number.number + 1) c.args.most l) (sym same)
          (are, raised_past program most c.requires.most c.requires.returns items are n none c.loop-number.invariant.1)
    ]

pub returns : goal.returns
returns c =
    let loop = c.loop-number in
    let are = loop.invariant.0 in
    let all : c.loop-number.number ≡ length c.args.plain.now.functions = omega (arith, c.loop-number-test.false, loop.auto.number-end, c.len-number-end.ensures, are.as_many, c.requires.first.as_many) in
    all_raised c.args.plain.now c.args.most c.requires.most c.requires.returns loop.frames.items are
    (subst (λ (n : ℕ). AreRaised c.args.plain.now n c.args.most c.loop-number.frames.items) all loop.invariant.1)
