use Rattle.std.proofs.lemmas.Result.{err_from_is_err_and}
use Rattle.cyc_elf.specs.Reading.{reading}
use Rattle.cyc_elf.proofs.Answering.{Answers-outlined}
use Rattle.cyc_elf.proofs.reading.read_image.Goals as goal

pub returns-in_err-outline-clause-exact : goal.returns-in_err-outline-clause-exact
returns-in_err-outline-clause-exact c =
    let p = err_from_is_err_and c.from_residual.result c.from_residual.ensures.1 in
    rw (p.1, p.2) (Answers-outlined c.args.file.now c.in_err-outline.field-0.0 (reading c.args.file.now) c.in_err-outline.ensures.exact)
