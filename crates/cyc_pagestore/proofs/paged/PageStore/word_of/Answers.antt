use Rattle.std.proofs.Common.{◌≡◌, ◌<◌, None, length, subst, arith}
use Rattle.cyc_store.specs.Ledger.{Stored, held_of}
use Rattle.cyc_store.specs.State.{word_at}
use Rattle.cyc_store.proofs.KeptLoads.{load-dead, load-live}
use Rattle.cyc_pagestore.proofs.Cutting.{words-all}
use Rattle.cyc_pagestore.proofs.Finding.{pages-few, words-unmade}
use Rattle.cyc_pagestore.proofs.paged.PageStore.word_of.Goals as goal

pub number_below-requires : goal.number_below-requires
number_below-requires c =
    let f = c.self.inside in
    let few = pages-few f.table f.lexicals.items f.classes f.ledger.blocks c.self.invariant.stored in let within = c.made.ensures.within in
    omega (arith, few, within)

pub returns-in_default : goal.returns-in_default
returns-in_default c =
    let f = c.self.inside in
    subst (λ (v : Stored). word_at (held_of v) c.args.address ≡ None) c.self.view_is
    (words-unmade f.table f.lexicals.items f.classes f.ledger.blocks c.self.invariant.stored c.made.result c.args.address c.made.ensures.idle c.in_default.ensures)

pub is_live-requires : goal.is_live-requires
is_live-requires c =
    let f = c.self.inside in let all = words-all f.table f.lexicals.items f.classes f.ledger.blocks c.self.invariant.stored in
    subst (λ (v : Stored). c.in-Some.word < length v.words) c.self.view_is (omega (arith, c.in-Some.ensures.0, c.made.ensures.within, all))

pub returns-then-is_live : goal.returns-then-is_live
returns-then-is_live c =
    let f = c.self.inside in let all = words-all f.table f.lexicals.items f.classes f.ledger.blocks c.self.invariant.stored in (
      subst (λ (v : Stored). c.in-Some.word < length v.words) c.self.view_is (omega (arith, c.in-Some.ensures.0, c.made.ensures.within, all)),
      c.in-Some.ensures.1,
      load-live (held_of c.args.self.now) c.args.address c.in-Some.word c.in-Some.ensures.1 c.if-is_live.ensures,
    )

pub returns-else-is_live : goal.returns-else-is_live
returns-else-is_live c = load-dead (held_of c.args.self.now) c.args.address c.in-Some.word c.in-Some.ensures.1 c.if-is_live.ensures
