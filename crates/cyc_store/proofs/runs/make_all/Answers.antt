use Rattle.std.proofs.Common.{List, ◌+◌, sym, subst, drop}
use Rattle.std.proofs.lemmas.List.{drop_more}
use Rattle.cyc_store.specs.State.{StoreState}
use Rattle.cyc_store.specs.Made.{MakesAll}
use Rattle.cyc_store.specs.declared.runs.Asked.{Asked}
use Rattle.cyc_store.specs.declared.runs.Asked.TheVariants.{OpenLexical}
use Rattle.cyc_store.proofs.MadeLemmas.{one_made}
use Rattle.cyc_store.proofs.runs.make_all.Goals as goal

pub loop-asked-preserved : goal.loop-asked-preserved
loop-asked-preserved g c = λ (t : StoreState) rest.
    let calls = c.args.calls.now in
    let index = c.loop-asked.asked-index in
    c.loop-asked.invariant t
    (subst (λ (left : List Asked). MakesAll g.S.Store.GROWS left (g.S.Store.held c.loop-asked.store) t) (sym (drop_more calls index OpenLexical c.loop-asked-test.true))
    (one_made g.S.Store.GROWS _ (drop (index + 1) calls) _ _ t c.make.ensures rest))
