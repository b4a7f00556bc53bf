use Rattle.std.proofs.Common.{set, ap, ◌∙◌}
use Rattle.cyc_rawpages.specs.inside.Pool.{PoolState}
use Rattle.cyc_pagestore.specs.declared.step.Step.TheVariants.{Cut}
use Rattle.cyc_pagestore.specs.inside.Links.{Links, after}
use Rattle.cyc_pagestore.proofs.Calls.{view_of, is-full, cut-keeps, cut-gives}
use Rattle.cyc_pagestore.proofs.table.PoolTable.cut.Goals as goal

pub returns-in_default : goal.returns-in_default
returns-in_default c =
    let f = c.self.inside in (
      is-full f.pool f.pages f.spots.items f.next f.roster.links c.self.invariant c.args.self.now c.self.view_is c.in_default.ensures.0,
      ap (λ (t : PoolState). view_of t f.roster.links) c.in_default.ensures.1 ∙ c.self.view_is,
    )

pub invariant_of-self-2 : goal.invariant_of-self-2
invariant_of-self-2 c =
    let f = c.self.inside in let page = c.in-Some.page.number in let got = c.in-Some.ensures in
    cut-keeps f.pool f.pages f.spots.items f.next f.roster.links c.self.invariant c.args.self.now c.self.view_is page got.0 got.1 c.args.class
    c.set_fill.new.self (c.set_fill.ensures ∙ ap (λ (t : PoolState). record t { fills = set t.fills page 0 }) got.2)
    c.with-self-inside.result.links (c.with-self-inside.ensures ∙ ap (λ (m : Links). after m (Cut page c.args.class)) c.with-taken.ensures)

pub returns : goal.returns
returns c =
    let f = c.self.inside in let page = c.in-Some.page.number in let got = c.in-Some.ensures in
    cut-gives f.pool f.pages f.spots.items f.next f.roster.links c.self.invariant c.args.self.now c.self.view_is page got.0 got.1 c.args.class
    c.set_fill.new.self (c.set_fill.ensures ∙ ap (λ (t : PoolState). record t { fills = set t.fills page 0 }) got.2)
    c.with-self-inside.result.links (c.with-self-inside.ensures ∙ ap (λ (m : Links). after m (Cut page c.args.class)) c.with-taken.ensures)
