use Rattle.std.proofs.Common.{◌∙◌, ℕ, true, ap}
use Rattle.std.proofs.lemmas.Result.{err_from_is_err_and}
use Rattle.cyc_elf.specs.Reading.{reading}
use Rattle.cyc_store.specs.Ledger.{held_of, memory_of}
use Rattle.cyc_store.specs.State.{start}
use Rattle.cyc_emulator.proofs.Engines.{anew_memory}
use Rattle.cyc_emulator.proofs.engine.run_plain.Goals as goal

pub returns-clause-runs : goal.returns-clause-runs
returns-clause-runs g c =
    let words = memory_of c.in_ok-store.store.words in (
      held_of c.in_ok-store.store,
      (words, c.in_ok-store.ensures.words, c.in_ok-store.ensures.held ∙ ap (λ (n : ℕ). start n words) c.pages.ensures.value),
      c.run_with.ensures.runs,
    )

pub returns-in_err-store-clause-runs : goal.returns-in_err-store-clause-runs
returns-in_err-store-clause-runs g c =
    let p = err_from_is_err_and c.from_residual.result c.from_residual.ensures.1 in
    rw (p.1, p.2) (anew_memory true (reading c.args.image.now) c.args.limits c.args.budget _)
