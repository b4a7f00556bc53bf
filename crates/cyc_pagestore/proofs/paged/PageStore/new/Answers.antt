use Rattle.std.proofs.Common.{◌≤◌, sym, subst, arith}
use Rattle.cyc_store.specs.Ledger.{Blocks, no_blocks}
use Rattle.cyc_store.proofs.KeptStart.{all_new}
use Rattle.cyc_pagestore.specs.inside.Stored.{IsStored}
use Rattle.cyc_pagestore.specs.inside.Usage.{Counts, IsUsage}
use Rattle.cyc_pagestore.proofs.Counting.{usage-new}
use Rattle.cyc_pagestore.proofs.Beginning.{heap-stored, heap-most, heap-held, heap-words}
use Rattle.cyc_pagestore.proofs.paged.PageStore.new.Goals as goal

pub new-requires-clause-least : goal.new-requires-clause-least
new-requires-clause-least c =
    let least : 3 ≤ c.args.pages = c.requires.least in
    omega (arith, least)

pub new-requires-2 : goal.new-requires-2
new-requires-2 c =
    let least : 3 ≤ c.args.pages = c.requires.least in
    omega (arith, least)

pub invariant_of-result : goal.invariant_of-result
invariant_of-result c =
    let least : 3 ≤ c.args.pages = c.requires.least in let most : c.args.pages ≤ 65536 = c.requires.most in
    let same = heap-most c.in_ok-lexicals.lexicals c.args.pages most (omega (arith, least)) c.in_ok-table.table c.in_ok-table.ensures in let room = c.in_ok-lexicals.ensures.capacity in
    record {
      room = omega (arith, same, room);
      stored = subst (λ (b : Blocks). IsStored c.in_ok-table.table c.in_ok-lexicals.lexicals.items all_new b) (sym c.new-3.ensures)
          (subst (λ hs. IsStored c.in_ok-table.table hs all_new no_blocks) (sym c.in_ok-lexicals.ensures.items) (heap-stored c.in_ok-lexicals.lexicals c.args.pages most (omega (arith, least)) c.in_ok-table.table c.in_ok-table.ensures));
      usage = subst (λ (k : Counts). IsUsage k c.in_ok-table.table.most c.new-3.result.blocks) (sym c.in_ok-usage.ensures)
          (usage-new c.args.pages c.in_ok-table.table.most same (omega (arith, least)) c.new-3.result.blocks c.new-3.ensures);
    }

pub returns-clause-held : goal.returns-clause-held
returns-clause-held c =
    let least : 3 ≤ c.args.pages = c.requires.least in let most : c.args.pages ≤ 65536 = c.requires.most in
    heap-held c.in_ok-lexicals.lexicals c.args.pages most (omega (arith, least)) c.in_ok-table.table c.in_ok-table.ensures c.new-3.result.blocks c.new-3.ensures

pub returns-clause-words : goal.returns-clause-words
returns-clause-words c =
    let least : 3 ≤ c.args.pages = c.requires.least in let most : c.args.pages ≤ 65536 = c.requires.most in
    heap-words c.in_ok-lexicals.lexicals c.args.pages most (omega (arith, least)) c.in_ok-table.table c.in_ok-table.ensures
