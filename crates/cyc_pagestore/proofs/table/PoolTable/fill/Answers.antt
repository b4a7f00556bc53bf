use Rattle.std.proofs.Common.{arith}
use Rattle.cyc_pagestore.proofs.Calls.{fill-there, fill-keeps, fill-gives}
use Rattle.cyc_pagestore.proofs.table.PoolTable.fill.Goals as goal

-- The product of the page number and the words of a page does not overflow, because the page number is below 65,536.
pub overflow_mul-page : goal.overflow_mul-page
overflow_mul-page c =
    let f = c.self.inside in let few = c.self.invariant.whole.few in
    let there = fill-there f.pool f.pages f.spots.items f.next f.roster.links c.self.invariant c.args.self.now c.self.view_is c.args.root c.requires.there c.requires.root c.index.result.now c.index.ensures in
    omega (arith, there, few)

pub overflow_add-page : goal.overflow_add-page
overflow_add-page c =
    let f = c.self.inside in let few = c.self.invariant.whole.few in let last = c.requires.few in
    let there = fill-there f.pool f.pages f.spots.items f.next f.roster.links c.self.invariant c.args.self.now c.self.view_is c.args.root c.requires.there c.requires.root c.index.result.now c.index.ensures in
    omega (arith, there, few, last)

pub set_fill-requires : goal.set_fill-requires
set_fill-requires c =
    let f = c.self.inside in
    fill-there f.pool f.pages f.spots.items f.next f.roster.links c.self.invariant c.args.self.now c.self.view_is c.args.root c.requires.there c.requires.root c.index.result.now c.index.ensures

pub invariant_of-self : goal.invariant_of-self
invariant_of-self c =
    let f = c.self.inside in
    fill-keeps f.pool f.pages f.spots.items f.next f.roster.links c.self.invariant c.args.self.now c.self.view_is c.args.root c.requires.there c.requires.root c.index.result.now c.index.ensures
    c.args.filled c.set_fill.new.self c.set_fill.ensures c.with-self-inside.result.links c.with-self-inside.ensures

pub returns : goal.returns
returns c =
    let f = c.self.inside in
    fill-gives f.pool f.pages f.spots.items f.next f.roster.links c.self.invariant c.args.self.now c.self.view_is c.args.root c.requires.there c.requires.root c.index.result.now c.index.ensures
    c.args.filled c.set_fill.new.self c.set_fill.ensures c.with-self-inside.result.links c.with-self-inside.ensures
