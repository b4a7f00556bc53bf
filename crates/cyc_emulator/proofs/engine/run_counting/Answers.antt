use Rattle.std.proofs.Common.{◌∙◌, ℕ, false, sym, ap}
use Rattle.std.specs.Prelude.{◌||◌}
use Rattle.std.proofs.lemmas.Result.{err_from_is_err_and}
use Rattle.cyc_words.proofs.DeviceLemmas.{Keeps-refl}
use Rattle.cyc_elf.specs.Reading.{reading}
use Rattle.cyc_machine.specs.Held.{state_of}
use Rattle.cyc_store.specs.Ledger.{held_of, memory_of}
use Rattle.cyc_store.specs.State.{start}
use Rattle.cyc_emulator.proofs.Engines.{anew_memory, early_memory, loads_running, answers_loaded, answers_declined, declined_read, declined_write}
use Rattle.cyc_emulator.proofs.engine.run_counting.Goals as goal

pub drive_counting-requires : goal.drive_counting-requires
drive_counting-requires g c = loads_running (reading c.args.image.now) c.args.limits (held_of c.in_ok-store.store) (state_of held_of c.in_ok-machine.machine) c.in_ok-machine.ensures

pub returns-clause-runs : goal.returns-clause-runs
returns-clause-runs g c =
    let words = memory_of c.in_ok-store.store.words in (
      held_of c.in_ok-store.store,
      (words, c.in_ok-store.ensures.words, c.in_ok-store.ensures.held ∙ ap (λ (n : ℕ). start n words) c.pages.ensures.value),
      answers_loaded false (held_of c.in_ok-store.store) (reading c.args.image.now) c.args.limits c.args.budget (state_of held_of c.in_ok-machine.machine) _ _ c.drive_counting.result c.in_ok-machine.ensures c.drive_counting.ensures.runs,
    )

pub returns-clause-memory : goal.returns-clause-memory
returns-clause-memory g c =
    early_memory (reading c.args.image.now) c.args.limits c.args.budget
    (record { remaining = g.R.ByteIn.remaining c.args.reader.now; written = g.W.ByteOut.written c.args.writer.now })
    (record { remaining = g.R.ByteIn.remaining c.drive_counting.new.reader; written = g.W.ByteOut.written c.drive_counting.new.writer })
    c.drive_counting.result (returns-clause-runs g c)

pub returns-in_err-machine-clause-runs : goal.returns-in_err-machine-clause-runs
returns-in_err-machine-clause-runs g c =
    let p = err_from_is_err_and c.from_residual-in_err-machine.result c.from_residual-in_err-machine.ensures.1 in
    let words = memory_of c.in_ok-store.store.words in
    rw (p.1, p.2) (
      held_of c.in_ok-store.store,
      (words, c.in_ok-store.ensures.words, c.in_ok-store.ensures.held ∙ ap (λ (n : ℕ). start n words) c.pages.ensures.value),
      answers_declined false (held_of c.in_ok-store.store) (reading c.args.image.now) c.args.limits c.args.budget _ _ _ c.in_err-machine.ensures
          (Keeps-refl (g.R.ByteIn.remaining c.args.reader.now), Keeps-refl (g.W.ByteOut.written c.args.writer.now)),
    )

pub returns-in_err-machine-clause-reader : goal.returns-in_err-machine-clause-reader
returns-in_err-machine-clause-reader g c =
    let p = err_from_is_err_and c.from_residual-in_err-machine.result c.from_residual-in_err-machine.ensures.1 in
    rw (p.1, p.2) (sym (ap (λ b. b || g.R.ByteIn.failed c.args.reader.now) (declined_read (reading c.args.image.now) _ c.in_err-machine.ensures)))

pub returns-in_err-machine-clause-writer : goal.returns-in_err-machine-clause-writer
returns-in_err-machine-clause-writer g c =
    let p = err_from_is_err_and c.from_residual-in_err-machine.result c.from_residual-in_err-machine.ensures.1 in
    rw (p.1, p.2) (sym (ap (λ b. b || g.W.ByteOut.failed c.args.writer.now) (declined_write (reading c.args.image.now) _ c.in_err-machine.ensures)))

pub returns-in_err-store-clause-runs : goal.returns-in_err-store-clause-runs
returns-in_err-store-clause-runs g c =
    let p = err_from_is_err_and c.from_residual.result c.from_residual.ensures.1 in
    rw (p.1, p.2) (anew_memory false (reading c.args.image.now) c.args.limits c.args.budget _)
