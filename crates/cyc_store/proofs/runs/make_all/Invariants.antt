use Rattle.std.proofs.Common.{drop}
use Rattle.cyc_store.specs.State.{StoreState}
use Rattle.cyc_store.specs.Made.{MakesAll}
use Rattle.cyc_store.proofs.runs.make_all.Given as goal

-- Invariant of the loop: a run over the remaining calls completes a run over all calls.
abbrev pub invariant-loop-asked : goal.invariant-loop-asked
invariant-loop-asked g l =
    (t : StoreState) → MakesAll g.S.Store.GROWS (drop l.asked-index l.calls) (g.S.Store.held l.store) t → MakesAll g.S.Store.GROWS l.calls (g.S.Store.held l.initial.store) t
