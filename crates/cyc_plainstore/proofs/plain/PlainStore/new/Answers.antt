use Rattle.std.proofs.Common.{◌≡◌, ◌≤◌, refl, arith}
use Rattle.cyc_store.proofs.KeptStart.{heap-kept, heap-held, heap-words}
use Rattle.cyc_plainstore.proofs.plain.PlainStore.new.Goals as goal

pub invariant_of-result : goal.invariant_of-result
invariant_of-result c =
    let is : c.new-table.result.most ≡ c.args.pages = c.new-table.ensures.most in
    let least : 3 ≤ c.args.pages = c.requires.least in
    let most : c.args.pages ≤ 65536 = c.requires.most in
    heap-kept c.new-table.result (omega (arith, is, least)) (omega (arith, is, most)) c.new-table.ensures.words c.new-table.ensures.live c.new-table.ensures.rows c.new-table.ensures.free
    c.draw.new.self c.in_ok-page.page c.in_ok-page.ensures.draws _ (record { most = refl; words = refl; live = refl; free = refl; rows = refl }) c.new-2.result.blocks c.new-2.ensures _ c.new.ensures.items

pub returns-clause-held : goal.returns-clause-held
returns-clause-held c =
    let is : c.new-table.result.most ≡ c.args.pages = c.new-table.ensures.most in
    let least : 3 ≤ c.args.pages = c.requires.least in
    let most : c.args.pages ≤ 65536 = c.requires.most in
    heap-held c.new-table.result (omega (arith, is, least)) (omega (arith, is, most)) c.new-table.ensures.words c.new-table.ensures.live c.new-table.ensures.rows c.new-table.ensures.free
    c.draw.new.self c.in_ok-page.page c.in_ok-page.ensures.draws c.args.pages is c.draw.new.self.words.items c.new-2.result.blocks c.new-2.ensures

pub returns-clause-words : goal.returns-clause-words
returns-clause-words c =
    let is : c.new-table.result.most ≡ c.args.pages = c.new-table.ensures.most in
    let least : 3 ≤ c.args.pages = c.requires.least in
    let most : c.args.pages ≤ 65536 = c.requires.most in
    heap-words c.new-table.result (omega (arith, is, least)) (omega (arith, is, most)) c.new-table.ensures.words c.new-table.ensures.live c.new-table.ensures.rows c.new-table.ensures.free
    c.draw.new.self c.in_ok-page.page c.in_ok-page.ensures.draws
