use Rattle.std.proofs.Common.{ap, subst, sym}
use Rattle.cyc_store.specs.Services as services
use Rattle.cyc_store.specs.Answers.{allocated, done_unless, opened_dynamic, opened_lexical}
use Rattle.cyc_store.specs.Made.{call_of, Makes}
use Rattle.cyc_store.specs.declared.runs.Asked.{Asked}
use Rattle.cyc_store.proofs.MadeLemmas.{responds, loads}
use Rattle.cyc_store.proofs.runs.make.Goals as goal

pub returns-in-OpenLexical : goal.returns-in-OpenLexical
returns-in-OpenLexical g c =
    responds g.S.Store.GROWS c.args.asked services.OpenLexical (opened_lexical c.open_lexical-answer.result) _ _ (ap call_of c.in-OpenLexical.is) c.open_lexical-answer.ensures

pub returns-in-CloseTo : goal.returns-in-CloseTo
returns-in-CloseTo g c =
    responds g.S.Store.GROWS c.args.asked (services.CloseTo c.in-CloseTo.mark) (done_unless services.BadMark c.close_to-answer.result) _ _ (ap call_of c.in-CloseTo.is) c.close_to-answer.ensures

pub returns-in-OpenDynamic : goal.returns-in-OpenDynamic
returns-in-OpenDynamic g c =
    responds g.S.Store.GROWS c.args.asked services.OpenDynamic (opened_dynamic c.open_dynamic-answer.result) _ _ (ap call_of c.in-OpenDynamic.is) c.open_dynamic-answer.ensures

pub returns-in-CloseDynamic : goal.returns-in-CloseDynamic
returns-in-CloseDynamic g c =
    responds g.S.Store.GROWS c.args.asked (services.CloseDynamic c.in-CloseDynamic.handle) (done_unless services.BadHandle c.close_dynamic-answer.result) _ _ (ap call_of c.in-CloseDynamic.is)
    c.close_dynamic-answer.ensures

pub returns-in-Alloc : goal.returns-in-Alloc
returns-in-Alloc g c =
    responds g.S.Store.GROWS c.args.asked (services.Allocate c.in-Alloc.handle c.in-Alloc.words) (allocated c.alloc-answer.result) _ _ (ap call_of c.in-Alloc.is) c.alloc-answer.ensures

pub returns-in-Free : goal.returns-in-Free
returns-in-Free g c =
    responds g.S.Store.GROWS c.args.asked (services.Free c.in-Free.address) (done_unless services.NotABlock c.free-answer.result) _ _ (ap call_of c.in-Free.is) c.free-answer.ensures

pub returns-in-Load : goal.returns-in-Load
returns-in-Load g c =
    subst (λ (a : Asked). Makes g.S.Store.GROWS a (g.S.Store.held c.args.store.now) (g.S.Store.held c.args.store.now)) (sym c.in-Load.is)
    (loads g.S.Store.GROWS c.in-Load.address c.load-word.result (g.S.Store.held c.args.store.now) c.load-word.ensures.word)

pub returns-in-Save : goal.returns-in-Save
returns-in-Save g c =
    subst (λ (a : Asked). Makes g.S.Store.GROWS a (g.S.Store.held c.args.store.now) (g.S.Store.held c.write.new.store)) (sym c.in-Save.is) c.write.ensures
