use Rattle.std.proofs.Common.{◌≡◌, ℕ, false, ap, sym, subst, ◌∙◌, arith}
use Rattle.std.specs.Prelude.{slice_index_or}
use Rattle.cyc_store.specs.Table.{marked_between}
use Rattle.cyc_pagestore.specs.inside.Table.{IsBacked, Marks}
use Rattle.cyc_pagestore.proofs.Calls.{view_of, mark-keeps, mark-gives}
use Rattle.cyc_pagestore.proofs.table.PoolTable.mark_parts.Goals as goal

pub invariant_of-self : goal.invariant_of-self
invariant_of-self c =
    let f = c.self.inside in let k = c.loop-done.invariant in let g = c.loop-done.self-inside in
    subst (λ n. IsBacked g.pool n g.spots.items g.next g.roster.links) (sym k.pages)
    (subst (λ v. IsBacked g.pool f.pages v.items g.next g.roster.links) (sym k.spots)
    (subst (λ n. IsBacked g.pool f.pages f.spots.items n g.roster.links) (sym k.next)
    (subst (λ r. IsBacked g.pool f.pages f.spots.items f.next r.links) (sym k.roster)
    (mark-keeps f.pool f.pages f.spots.items f.next f.roster.links c.self.invariant c.args.self.now c.self.view_is g.pool.bits k.whole g.pool k.same))))

pub returns : goal.returns
returns c =
    let f = c.self.inside in let k = c.loop-done.invariant in let g = c.loop-done.self-inside in
    let few = k.few in let over : c.loop-done.done ≡ c.args.count = omega (arith, c.loop-done-test.false, few) in
    subst (λ r. Marks c.args.self.now (view_of g.pool r.links) c.args.first c.args.count c.args.mark) (sym k.roster)
    (mark-gives f.pool f.pages f.spots.items f.next f.roster.links c.self.invariant c.args.self.now c.self.view_is g.pool.bits k.whole g.pool k.same c.args.first c.args.count c.args.mark
    (λ word. k.live word ∙ ap (λ n. marked_between (λ (other : ℕ). slice_index_or f.pool.bits other false) c.args.first n c.args.mark word) over))
