use Rattle.std.proofs.Common.{◌≤◌, sym, subst, arith}
use Rattle.cyc_frame.specs.inside.Frame.{Frame}
use Rattle.cyc_frame.specs.inside.Layout.{frame_at}
use Rattle.cyc_plain.specs.declared.limits.TheConstants.{MOST_FRAME_WORDS}
use Rattle.cyc_registers.specs.declared.home.TheConstants.{MOST_BOTH, MOST_SAVED}
use Rattle.cyc_select.specs.inside.Slots.{arrival_count}
use Rattle.cyc_select.specs.inside.Operands.{reload_count}
use Rattle.cyc_select.proofs.emission.Numbering.{arrivals_few}
use Rattle.cyc_plain.specs.inside.Program.{routine_at}
use Rattle.cyc_select.proofs.counting.frame_in.Goals as goal

pub known_frame-requires : goal.known_frame-requires
known_frame-requires c = omega (arith, c.requires.function, c.requires.fit.as_many)

pub returns-clause-few : goal.returns-clause-few
returns-clause-few c =
    subst (λ (f : Frame). reload_count f ≤ MOST_BOTH) (sym c.known_frame.ensures) (c.requires.fit.homes c.args.function c.requires.function).few

pub returns-clause-saved : goal.returns-clause-saved
returns-clause-saved c =
    subst (λ (f : Frame). f.saved ≤ MOST_SAVED) (sym c.known_frame.ensures) (c.requires.fit.each c.args.function c.requires.function).most_saved

pub returns-clause-first_saved : goal.returns-clause-first_saved
returns-clause-first_saved c =
    let its = c.requires.fit.each c.args.function c.requires.function in
    let inside = its.saved_inside 0 (omega arith) in
    subst (λ (f : Frame). f.first_saved ≤ MOST_FRAME_WORDS) (sym c.known_frame.ensures) (omega (arith, inside, its.small))

pub returns-clause-arrivals : goal.returns-clause-arrivals
returns-clause-arrivals c =
    let its = c.requires.fit.each c.args.function c.requires.function in
    let right = c.requires.fit.homes c.args.function c.requires.function in
    let few = arrivals_few c.args.plain.now (routine_at c.args.plain.now c.args.function) (frame_at c.args.frames.now c.args.function) its right in
    subst (λ (f : Frame). arrival_count f ≤ MOST_SAVED) (sym c.known_frame.ensures) (omega (arith, few, its.most_saved))
