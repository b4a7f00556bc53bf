use Rattle.std.proofs.Common.{◌≡◌, true, sym, ◌∙◌, reverse, take, get_or}
use Rattle.std.proofs.lemmas.Bool.{and_left, and_right}
use Rattle.cyc_types.specs.declared.region.Region.TheVariants.{Heap}
use Rattle.cyc_types.specs.declared.scope.Kind.TheVariants.{Block}
use Rattle.cyc_types.specs.declared.scope.Scope.{Scope}
use Rattle.cyc_types.specs.Outlives.{live_regions, is_outlived_by_live}
use Rattle.cyc_types.specs.Closure.{above_one_of, written_in}
use Rattle.cyc_types.proofs.ClosureLemmas.{leads-above}
use Rattle.cyc_types.proofs.SearchLemmas.{IsSearched, leads-found, searched-taken, searched-passed}
use Rattle.cyc_types.proofs.outlives.leads.Goals as goal
use Rattle.cyc_types.proofs.outlives.leads.Goals.{then-is_outlived_by_live+then-is_known+else-is_above_live, else-is_outlived_by_live, else-is_outlived_by_live-via-then-is_outlived_by_live+else-is_known, else-is_outlived_by_live-via-else-is_outlived_by_live}

-- the scope that a read past the end of the scope list returns
abbrev default : Scope
default = record { region = Heap; kind = Block }

pub returns-then-table_leads : goal.returns-then-table_leads
returns-then-table_leads c =
    sym (leads-above (written_in c.args.constraints.now) c.args.live.now (reverse c.args.scopes.now) c.args.a c.args.b
    (sym (c.requires c.args.a c.args.b) ∙ sym c.table_leads.ensures ∙ c.if-table_leads.true))

pub returns-then-is_above_live : goal.returns-then-is_above_live
returns-then-is_above_live c =
    let i = c.loop-i.i in
    let w = written_in c.args.constraints.now in
    let u : above_one_of (written_in c.args.constraints.now) (live_regions c.args.live.now (reverse (take c.loop-i.i c.args.scopes.now))) c.args.a ≡ true =
    sym c.is_above_live.ensures ∙ c.if-is_above_live.true in
    sym (leads-found w c.args.live.now c.args.scopes.now i default c.args.a c.args.b c.loop-i-test.true
    (sym c.is_outlived_by_live.ensures ∙ c.if-is_outlived_by_live.true) u
    (c.loop-i.invariant.same (get_or c.args.scopes.now i default).region ∙ sym c.is_known.ensures ∙ c.if-is_known.true))

pub loop-i-preserved : goal.loop-i-preserved
loop-i-preserved c =
    let w = written_in c.args.constraints.now in
    let inv = c.loop-i.invariant in
    let before : IsSearched (written_in c.args.constraints.now) c.args.live.now c.args.scopes.now c.loop-i.i c.loop-i.known c.args.a c.args.b =
    record { same = inv.same; within = inv.within; not_yet = inv.not_yet; bound = inv.bound } in
    elim c.if-is_outlived_by_live.branch [
      | then-is_outlived_by_live+then-is_known+else-is_above_live v ↦
          let r = searched-taken w c.args.live.now c.args.scopes.now c.loop-i.i c.loop-i.known c.args.a c.args.b before default c.loop-i-test.true
          (sym c.is_outlived_by_live.ensures ∙ v.if-is_outlived_by_live.true) (sym v.is_known.ensures ∙ v.if-is_known.true)
          (sym v.is_above_live.ensures ∙ v.if-is_above_live.false) in
          rw v.known-is (record { same = r.same; within = r.within; not_yet = r.not_yet; bound = r.bound })
      | else-is_outlived_by_live v ↦
          elim v.else-is_outlived_by_live.branch [
            | else-is_outlived_by_live-via-then-is_outlived_by_live+else-is_known u ↦
                let r = searched-passed w c.args.live.now c.args.scopes.now c.loop-i.i c.loop-i.known c.args.a c.args.b before default c.loop-i-test.true
                (and_right (is_outlived_by_live (get_or c.args.scopes.now c.loop-i.i default).kind) _
                (sym u.is_known.ensures ∙ u.if-is_known.false)) in
                rw v.known-is (record { same = r.same; within = r.within; not_yet = r.not_yet; bound = r.bound })
            | else-is_outlived_by_live-via-else-is_outlived_by_live u ↦
                let r = searched-passed w c.args.live.now c.args.scopes.now c.loop-i.i c.loop-i.known c.args.a c.args.b before default c.loop-i-test.true
                (and_left (is_outlived_by_live (get_or c.args.scopes.now c.loop-i.i default).kind) _
                (sym c.is_outlived_by_live.ensures ∙ u.if-is_outlived_by_live.false)) in
                rw v.known-is (record { same = r.same; within = r.within; not_yet = r.not_yet; bound = r.bound })
          ]
    ]
