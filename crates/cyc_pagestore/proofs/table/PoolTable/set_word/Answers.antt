use Rattle.std.proofs.Common.{◌+◌, ◌*◌, ◌/◌, ◌%◌, set, length-set}
use Rattle.cyc_pagestore.proofs.Calls.{words-keep}
use Rattle.cyc_pagestore.proofs.table.PoolTable.set_word.Goals as goal

pub invariant_of-self : goal.invariant_of-self
invariant_of-self c =
    let f = c.self.inside in let at = 1024 * (c.args.word / 1024) + c.args.word % 1024 in
    words-keep f.pool f.pages f.spots.items f.next f.roster.links c.self.invariant c.args.self.now c.self.view_is
    (set f.pool.words at c.args.value) (length-set f.pool.words at c.args.value) c.save.new.self c.save.ensures
