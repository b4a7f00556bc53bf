use Rattle.std.proofs.Common.{sym, ap}
use Rattle.std.specs.Prelude.{◌||◌}
use Rattle.std.proofs.lemmas.Result.{err_from_is_err_and}
use Rattle.cyc_words.proofs.DeviceLemmas.{Keeps-refl}
use Rattle.cyc_elf.specs.Reading.{reading}
use Rattle.cyc_machine.specs.Held.{state_of}
use Rattle.cyc_emulator.proofs.Engines.{loads_running, answers_loaded, answers_declined, declined_read, declined_write}
use Rattle.cyc_emulator.proofs.engine.run_with.Goals as goal

pub drive-requires : goal.drive-requires
drive-requires g c = loads_running (reading c.args.image.now) c.args.limits (g.S.Store.held c.args.store) (state_of g.S.Store.held c.in_ok-machine.machine) c.in_ok-machine.ensures

pub returns-clause-runs : goal.returns-clause-runs
returns-clause-runs g c = answers_loaded g.S.Store.GROWS (g.S.Store.held c.args.store) (reading c.args.image.now) c.args.limits c.args.budget (state_of g.S.Store.held c.in_ok-machine.machine) _ _ c.drive.result c.in_ok-machine.ensures c.drive.ensures.runs

pub returns-in_err-machine-clause-runs : goal.returns-in_err-machine-clause-runs
returns-in_err-machine-clause-runs g c =
    let p = err_from_is_err_and c.from_residual.result c.from_residual.ensures.1 in
    rw (p.1, p.2) (answers_declined g.S.Store.GROWS (g.S.Store.held c.args.store) (reading c.args.image.now) c.args.limits c.args.budget _ _ _ c.in_err-machine.ensures
    (Keeps-refl (g.R.ByteIn.remaining c.args.reader.now), Keeps-refl (g.W.ByteOut.written c.args.writer.now)))

pub returns-in_err-machine-clause-reader : goal.returns-in_err-machine-clause-reader
returns-in_err-machine-clause-reader g c =
    let p = err_from_is_err_and c.from_residual.result c.from_residual.ensures.1 in
    rw (p.1, p.2) (sym (ap (λ b. b || g.R.ByteIn.failed c.args.reader.now) (declined_read (reading c.args.image.now) _ c.in_err-machine.ensures)))

pub returns-in_err-machine-clause-writer : goal.returns-in_err-machine-clause-writer
returns-in_err-machine-clause-writer g c =
    let p = err_from_is_err_and c.from_residual.result c.from_residual.ensures.1 in
    rw (p.1, p.2) (sym (ap (λ b. b || g.W.ByteOut.failed c.args.writer.now) (declined_write (reading c.args.image.now) _ c.in_err-machine.ensures)))
