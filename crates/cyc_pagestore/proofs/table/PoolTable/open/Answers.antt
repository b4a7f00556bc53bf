use Rattle.std.proofs.Common.{set, ap, subst, ◌∙◌}
use Rattle.cyc_rawpages.specs.inside.Pool.{PoolState}
use Rattle.cyc_pagestore.specs.declared.step.Step.TheVariants.{Began}
use Rattle.cyc_pagestore.specs.inside.Links.{Links, after}
use Rattle.cyc_pagestore.specs.inside.Live.{Readies}
use Rattle.cyc_pagestore.proofs.Calls.{view_of, is-full, open-keeps, open-gives}
use Rattle.cyc_pagestore.proofs.table.PoolTable.open.Goals as goal

pub returns-in_default : goal.returns-in_default
returns-in_default c =
    let f = c.self.inside in (
      is-full f.pool f.pages f.spots.items f.next f.roster.links c.self.invariant c.args.self.now c.self.view_is c.in_default.ensures.0,
      ap (λ (t : PoolState). view_of t f.roster.links) c.in_default.ensures.1 ∙ c.self.view_is,
    )

pub invariant_of-self-2 : goal.invariant_of-self-2
invariant_of-self-2 c =
    let f = c.self.inside in let page = c.in-Some.page.number in let got = c.in-Some.ensures in let r = c.next_serial-serial.new.pool in let s = c.next_serial-serial.result in
    open-keeps f.pool f.pages f.spots.items f.next f.roster.links c.self.invariant c.args.self.now c.self.view_is page got.0 got.1 c.args.role c.requires r s
    (subst (λ (t : PoolState). Readies t r s) got.2 c.next_serial-serial.ensures)
    c.set_serial.new.self (c.set_serial.ensures ∙ ap (λ (t : PoolState). record t { serials = set t.serials page s })
    (c.set_fill.ensures ∙ ap (λ (t : PoolState). record t { fills = set t.fills page 0 }) c.set_owner.ensures))
    c.with-self-inside.result.links (c.with-self-inside.ensures ∙ ap (λ (m : Links). after m (Began page c.args.role)) c.with-taken.ensures)

pub returns : goal.returns
returns c =
    let f = c.self.inside in let page = c.in-Some.page.number in let got = c.in-Some.ensures in let r = c.next_serial-serial.new.pool in let s = c.next_serial-serial.result in
    open-gives f.pool f.pages f.spots.items f.next f.roster.links c.self.invariant c.args.self.now c.self.view_is page got.0 got.1 c.args.role c.requires r s
    (subst (λ (t : PoolState). Readies t r s) got.2 c.next_serial-serial.ensures)
    c.set_serial.new.self (c.set_serial.ensures ∙ ap (λ (t : PoolState). record t { serials = set t.serials page s })
    (c.set_fill.ensures ∙ ap (λ (t : PoolState). record t { fills = set t.fills page 0 }) c.set_owner.ensures))
    c.with-self-inside.result.links (c.with-self-inside.ensures ∙ ap (λ (m : Links). after m (Began page c.args.role)) c.with-taken.ensures)
