use Rattle.std.proofs.Common.{◌≡◌, ℕ, ◌+◌, ◌*◌, ◌/◌, ◌%◌, false, ap, ◌∙◌, arith}
use Rattle.std.specs.Prelude.{slice_index_or}
use Rattle.cyc_store.specs.Table.{marked_between}
use Rattle.cyc_pagestore.proofs.Calls.{mark-keeps, mark-gives}
use Rattle.cyc_pagestore.proofs.table.PoolTable.mark_whole.Goals as goal

pub invariant_of-self : goal.invariant_of-self
invariant_of-self c =
    let f = c.self.inside in let q = c.set_whole_bits.new.self in let reported = c.set_whole_bits.ensures in
    mark-keeps f.pool f.pages f.spots.items f.next f.roster.links c.self.invariant c.args.self.now c.self.view_is q.bits reported.whole q reported.same

pub returns : goal.returns
returns c =
    let f = c.self.inside in let q = c.set_whole_bits.new.self in let reported = c.set_whole_bits.ensures in let first : ℕ = c.args.first in
    let at : 1024 * (first / 1024) + first % 1024 ≡ first = omega arith in
    mark-gives f.pool f.pages f.spots.items f.next f.roster.links c.self.invariant c.args.self.now c.self.view_is q.bits reported.whole q reported.same first c.args.count c.args.mark
    (λ word. reported.bits word ∙ ap (λ n. marked_between (λ (other : ℕ). slice_index_or f.pool.bits other false) n c.args.count c.args.mark word) at)
