use Rattle.std.proofs.Common.{Ok, Err, sym, subst}
use Rattle.std.proofs.lemmas.Result.{err_from_is_err_and}
use Rattle.cyc_types.specs.TypedTreeView.{view_program}
use Rattle.cyc_types.proofs.typing.ProgramLemmas.{program_well}
use Rattle.cyc_lower_proof.proofs.acceptance.Accepted.{accepted_can_be_lowered}
use Rattle.cyc_front.specs.Front.{names_in, IsAcceptedText}
use Rattle.cyc_compiler.proofs.Amounts.{accepted_light, accepted_sound}
use Rattle.cyc_front.proofs.Fronts.{HasPhases, refused_by_both, accepted_alike}
use Rattle.cyc_compiler.proofs.Refusals.{HasImage, HasImageBeside, after_answers, front_answers}
use Rattle.cyc_compiler.proofs.compiler.compile_with_tokens.Goals as goal

pub returns-in_err-phases : goal.returns-in_err-phases
returns-in_err-phases c =
    let e = err_from_is_err_and c.from_residual.result c.from_residual.ensures.1 in
    record { decides = rw (e.1, e.2) (front_answers HasImageBeside c.args.text.now HasPhases c.in_err-phases.field-0.0 c.in_err-phases.ensures.decides); tokens = rw e.1 tt; program = rw e.1 tt; sound = rw e.1 tt; note = rw e.1 tt }

pub build-requires-clause-well_typed : goal.build-requires-clause-well_typed
build-requires-clause-well_typed c =
    let (p, is, same) = c.in_ok-phases.ensures.decides.accepted in
    let a = subst (IsAcceptedText c.args.text.now) (sym same) is in
    program_well (names_in a.tokens) a.tree (view_program c.in_ok-phases.phases.program.tree) a.typed

pub build-requires-clause-small : goal.build-requires-clause-small
build-requires-clause-small c =
    let (p, is, same) = c.in_ok-phases.ensures.decides.accepted in
    accepted_light c.args.text.now (view_program c.in_ok-phases.phases.program.tree) (subst (IsAcceptedText c.args.text.now) (sym same) is)

pub build-requires-clause-can_be : goal.build-requires-clause-can_be
build-requires-clause-can_be c =
    let (p, is, same) = c.in_ok-phases.ensures.decides.accepted in
    let a = subst (IsAcceptedText c.args.text.now) (sym same) is in
    accepted_can_be_lowered (names_in a.tokens) c.args.text.now a.tokens a.tree (view_program c.in_ok-phases.phases.program.tree) a.has_tokens.rule a.has_tokens.within a.has_tree.has a.has_tree.within a.typed

-- The front end guarantees that an accepted program is sound.
pub build-requires-clause-sound : goal.build-requires-clause-sound
build-requires-clause-sound c = c.in_ok-phases.ensures.sound

-- If a property holds for the image, then it holds for the complete result of the compilation.
pub returns-in_err-image : goal.returns-in_err-image
returns-in_err-image c =
    let text = c.args.text.now in
    let d = c.in_ok-phases.ensures.decides in
    let (p, is, same) = d.accepted in
    let f = c.in_err-image.field-0.0 in
    let e = err_from_is_err_and c.from_residual-in_err-image.result c.from_residual-in_err-image.ensures.1 in
    record {
      decides = rw (e.1, e.2) (refused_by_both HasImage HasImageBeside f
          (after_answers HasImage text (view_program c.in_ok-phases.phases.program.tree) (subst (IsAcceptedText text) (sym same) is) d.accepts d.refuses (Err f) c.in_err-image.ensures.decides));
      tokens = rw e.1 tt;
      program = rw e.1 tt;
      sound = rw e.1 tt;
      note = rw e.1 tt;
    }

pub returns : goal.returns
returns c =
    let text = c.args.text.now in
    let d = c.in_ok-phases.ensures.decides in
    let (p, is, same) = d.accepted in
    let image = c.in_ok-image.image in
    record {
      decides = accepted_alike HasImage HasImageBeside image _ (λ p has. has)
          (after_answers HasImage text (view_program c.in_ok-phases.phases.program.tree) (subst (IsAcceptedText text) (sym same) is) d.accepts d.refuses (Ok image) c.in_ok-image.ensures.decides);
      tokens = c.in_ok-phases.ensures.tokens;
      program = subst (IsAcceptedText text) (sym same) is;
      sound = accepted_sound text;
      note = c.in_ok-image.ensures.note;
    }
