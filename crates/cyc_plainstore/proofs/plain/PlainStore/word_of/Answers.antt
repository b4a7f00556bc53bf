use Rattle.std.proofs.Common.{◌≡◌, ◌<◌, None, length, subst, arith}
use Rattle.cyc_store.specs.Ledger.{Stored, held_of}
use Rattle.cyc_store.specs.State.{word_at}
use Rattle.cyc_store.proofs.KeptLoads.{load-none, load-dead, load-live, words-few}
use Rattle.cyc_plainstore.proofs.plain.PlainStore.word_of.Goals as goal

pub number_below-requires : goal.number_below-requires
number_below-requires c =
    let f = c.self.inside in
    omega (arith, words-few f.table f.lexicals.items f.classes f.ledger.blocks c.self.invariant, c.len.ensures)

pub returns-in_default : goal.returns-in_default
returns-in_default c =
    let f = c.self.inside in
    let all : c.len.result ≡ length f.table.words.items = omega (arith, c.len.ensures) in
    subst (λ (v : Stored). word_at (held_of v) c.args.address ≡ None) c.self.view_is
    (load-none f.table f.lexicals.items f.classes f.ledger.blocks c.self.invariant c.args.address c.len.result all c.in_default.ensures)

pub returns-then-is_live : goal.returns-then-is_live
returns-then-is_live c =
    let f = c.self.inside in
    let inside : c.in-Some.word < length f.table.words.items = omega (arith, c.in-Some.ensures.0, c.len.ensures) in (
      subst (λ (v : Stored). c.in-Some.word < length v.words) c.self.view_is inside,
      c.in-Some.ensures.1,
      load-live (held_of c.args.self.now) c.args.address c.in-Some.word c.in-Some.ensures.1 c.if-is_live.ensures,
    )

pub returns-else-is_live : goal.returns-else-is_live
returns-else-is_live c = load-dead (held_of c.args.self.now) c.args.address c.in-Some.word c.in-Some.ensures.1 c.if-is_live.ensures
