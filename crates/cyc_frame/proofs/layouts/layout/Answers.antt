use Rattle.std.proofs.Common.{◌∙◌, sym, subst}
use Rattle.cyc_frame.specs.inside.Layout.{AreFrames}
use Rattle.cyc_frame.proofs.Sound.{framed, small_frames, too_large}
use Rattle.cyc_frame.proofs.layouts.layout.Goals as goal

pub returns-in-Some : goal.returns-in-Some
returns-in-Some c =
    let functions = c.functions-functions in
    too_large c.args.plain.now functions.result.now functions.ensures.value c.in-Some.place c.new.result
    (sym c.first_too_large.ensures ∙ c.in-Some.is) c.new.ensures.code c.new.ensures.line c.new.ensures.column

pub frames_of-requires : goal.frames_of-requires
frames_of-requires c =
    let functions = c.functions-functions in
    small_frames c.args.plain.now functions.result.now functions.ensures.value (sym c.first_too_large.ensures ∙ c.in_default.is)

pub returns : goal.returns
returns c =
    let functions = c.functions-functions in
    framed c.args.plain.now functions.result.now functions.ensures.value c.new-2.result
    (subst (AreFrames c.args.plain.now) (sym c.new-2.ensures) c.in_ok-frames.ensures)
    (sym c.first_too_large.ensures ∙ c.in_default.is)
