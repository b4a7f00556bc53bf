use Rattle.std.proofs.Common.{◌<◌, length, sym, subst, arith}
use Rattle.cyc_plain.specs.inside.Program.{routine_at}
use Rattle.cyc_plain.specs.declared.limits.TheConstants.{MOST_FRAME_WORDS}
use Rattle.cyc_frame.specs.inside.Frame.{Frame}
use Rattle.cyc_frame.specs.inside.Layout.{frame_at}
use Rattle.cyc_select.specs.inside.Emission.{AreReached}
use Rattle.cyc_select.proofs.emission.Numbering.{slots_reached, homes_reached}
use Rattle.cyc_select.proofs.tables.Tables.frame.Goals as goal

pub returns-clause-return_address : goal.returns-clause-return_address
returns-clause-return_address c =
    let own = c.requires.known.ready.fit.each c.args.function c.requires.function in
    subst (λ (f : Frame). f.return_address < MOST_FRAME_WORDS) (sym c.frame_in.ensures.value) (omega (arith, own.return_inside, own.small))

pub returns-clause-slots : goal.returns-clause-slots
returns-clause-slots c =
    subst (λ (f : Frame). AreReached f 0 (routine_at c.args.self.now.plain.now c.args.function).slots) (sym c.frame_in.ensures.value)
    (slots_reached (routine_at c.args.self.now.plain.now c.args.function) (frame_at c.args.self.now.frames.now c.args.function) (c.requires.known.ready.fit.each c.args.function c.requires.function))

pub returns-clause-homes : goal.returns-clause-homes
returns-clause-homes c =
    subst (λ (f : Frame). AreReached f 0 (length f.homes)) (sym c.frame_in.ensures.value)
    (homes_reached c.args.self.now.plain.now (routine_at c.args.self.now.plain.now c.args.function) (frame_at c.args.self.now.frames.now c.args.function)
    (c.requires.known.ready.fit.each c.args.function c.requires.function) (c.requires.known.ready.fit.homes c.args.function c.requires.function))

pub returns-clause-few : goal.returns-clause-few
returns-clause-few c = c.frame_in.ensures.few
