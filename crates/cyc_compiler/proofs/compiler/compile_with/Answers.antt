use Rattle.std.proofs.lemmas.Result.{err_from_is_err_and}
use Rattle.cyc_front.proofs.Fronts.{refused_by_both, accepted_alike}
use Rattle.cyc_compiler.proofs.Refusals.{HasImage, HasImageBeside}
use Rattle.cyc_compiler.proofs.compiler.compile_with.Goals as goal

pub returns-in_err-made : goal.returns-in_err-made
returns-in_err-made c =
    let e = err_from_is_err_and c.from_residual.result c.from_residual.ensures.1 in
    record { decides = rw (e.1, e.2) (refused_by_both HasImageBeside HasImage c.in_err-made.field-0.0 c.in_err-made.ensures.decides); sound = rw e.1 tt; note = rw e.1 tt }

pub returns : goal.returns
returns c =
    let made = c.in_ok-made.made in
    record {
      decides = accepted_alike HasImageBeside HasImage made made.image (λ p has. has) c.in_ok-made.ensures.decides;
      sound = c.in_ok-made.ensures.sound;
      note = c.in_ok-made.ensures.note;
    }
