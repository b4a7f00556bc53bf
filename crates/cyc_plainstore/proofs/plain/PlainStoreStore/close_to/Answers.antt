use Rattle.std.proofs.Common.{◌≡◌, ◌≤◌, length, ap, subst, sym, ◌∙◌, arith}
use Rattle.cyc_store.specs.Ledger.{Stored, held_of, store_of}
use Rattle.cyc_store.specs.Services.{CloseTo, Refused, BadMark, Done, Serves}
use Rattle.cyc_store.specs.State.{StoreState, lexical_count, down_to}
use Rattle.cyc_store.proofs.Responses.{refuses-close_to, serves-close_to}
use Rattle.cyc_store.proofs.KeptServices.{kept-lexicals}
use Rattle.cyc_store.proofs.KeptUnwinding.{down_to-lower, unwound}
use Rattle.cyc_plainstore.proofs.plain.PlainStoreStore.close_to.Goals as goal

pub returns-then-len-mark : goal.returns-then-len-mark
returns-then-len-mark c =
    let f = c.self.inside in
    let counted : length f.lexicals.items ≡ lexical_count f.ledger.blocks.regions = kept-lexicals f.table f.lexicals.items f.classes f.ledger.blocks c.self.invariant in
    subst (λ (v : Stored). Serves (held_of v) (CloseTo c.args.mark) (Refused BadMark) (held_of v)) c.self.view_is
    (refuses-close_to (store_of f.table.most f.table.words.items f.ledger.blocks) c.args.mark (omega (arith, counted, c.if-len-mark.true, c.len.ensures)))

pub loop-self-preserved : goal.loop-self-preserved
loop-self-preserved c =
    let closed = c.close_newest.ensures in
    let few : c.args.mark ≤ lexical_count c.close_newest.new.self.blocks.regions = omega (arith, closed.count, c.loop-self-test.true, c.lexicals_open.ensures) in
    record {
      same = closed.same ∙ ap (λ (v : Stored). record v { blocks = record v.blocks { regions = c.close_newest.new.self.blocks.regions } }) c.loop-self.invariant.same;
      down = ap (down_to c.args.mark) closed.regions
          ∙ (down_to-lower c.args.mark (lexical_count c.close_newest.new.self.blocks.regions) c.loop-self.self.blocks.regions few ∙ c.loop-self.invariant.down);
    }

pub returns : goal.returns
returns c =
    let f = c.self.inside in let k = c.self.invariant in
    let counted : length f.lexicals.items ≡ lexical_count f.ledger.blocks.regions = kept-lexicals f.table f.lexicals.items f.classes f.ledger.blocks k in
    let most : c.args.mark ≤ lexical_count f.ledger.blocks.regions = omega (arith, counted, c.if-len-mark.false, c.len.ensures) in
    let few : lexical_count c.loop-self.self.blocks.regions ≤ c.args.mark = omega (arith, c.loop-self-test.false, c.lexicals_open.ensures) in
    let served : Serves (held_of c.args.self.now) (CloseTo c.args.mark) Done (record (held_of c.args.self.now) { regions = down_to c.args.mark c.args.self.now.blocks.regions }) =
    subst (λ (v : Stored). Serves (held_of v) (CloseTo c.args.mark) Done (record (held_of v) { regions = down_to c.args.mark v.blocks.regions })) c.self.view_is
    (serves-close_to (store_of f.table.most f.table.words.items f.ledger.blocks) k.layout k.laid c.args.mark most) in
    subst (λ (t : StoreState). Serves (held_of c.args.self.now) (CloseTo c.args.mark) Done t)
    (sym (unwound c.args.self.now c.loop-self.self c.args.mark c.loop-self.invariant.same c.loop-self.invariant.down few)) served
