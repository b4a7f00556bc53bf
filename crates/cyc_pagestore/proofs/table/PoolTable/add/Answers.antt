use Rattle.std.proofs.Common.{ℕ, List, [], ◌∷◌, ◌++◌, ◌+◌, ◌*◌, ◌<◌, set, slice_index, ap, sym, subst, ◌∙◌}
use Rattle.cyc_rawpages.specs.inside.Lists.{chain_at}
use Rattle.cyc_rawpages.specs.inside.Pool.{PoolState, IsHead}
use Rattle.cyc_pagestore.specs.declared.step.Step.TheVariants.{Added}
use Rattle.cyc_pagestore.specs.declared.table.Spot.{Spot}
use Rattle.cyc_pagestore.specs.inside.Links.{Links, after}
use Rattle.cyc_pagestore.specs.inside.Table.{IsBacked}
use Rattle.cyc_pagestore.proofs.Calls.{view_of, spot-read, there-in, in-spots, root-in, is-full, add-head, add-keeps, add-gives}
use Rattle.cyc_pagestore.proofs.table.PoolTable.add.Goals as goal

pub returns-in_default : goal.returns-in_default
returns-in_default c =
    let f = c.self.inside in (
      is-full f.pool f.pages f.spots.items f.next f.roster.links c.self.invariant c.args.self.now c.self.view_is c.in_default.ensures.0,
      ap (λ (t : PoolState). view_of t f.roster.links) c.in_default.ensures.1 ∙ c.self.view_is,
    )

pub chain_push-requires-clause-head : goal.chain_push-requires-clause-head
chain_push-requires-clause-head c =
    let f = c.self.inside in let k = c.self.invariant in let x = c.args.self.now in let v = c.self.view_is in let page = c.in-Some.page.number in let got = c.in-Some.ensures in
    let below = there-in f.pool f.pages f.spots.items f.next f.roster.links k x v c.args.root c.requires.there in
    let role = root-in f.pool f.pages f.spots.items f.next f.roster.links k x v c.args.root c.requires.there c.requires.root in
    let chains = ap (λ (t : PoolState). t.chains) c.set_serial.ensures ∙ ap (λ (t : PoolState). t.chains) c.set_fill.ensures ∙ ap (λ (t : PoolState). t.chains) c.set_owner.ensures ∙ ap (λ (t : PoolState). t.chains) got.2 in
    let pages = ap (λ (t : PoolState). t.pages) c.set_serial.ensures ∙ ap (λ (t : PoolState). t.pages) c.set_fill.ensures ∙ ap (λ (t : PoolState). t.pages) c.set_owner.ensures ∙ ap (λ (t : PoolState). t.pages) got.2 in (
      subst (λ n. c.args.root < n) (sym pages) below,
      subst (λ (cs : List (List ℕ)). IsHead cs c.args.root) (sym chains) (add-head f.pool f.pages f.spots.items f.next f.roster.links k x v page got.0 got.1 c.args.root c.args.words below role),
    )

pub invariant_of-self-2 : goal.invariant_of-self-2
invariant_of-self-2 c =
    let f = c.self.inside in let k = c.self.invariant in let x = c.args.self.now in let v = c.self.view_is in let page = c.in-Some.page.number in let got = c.in-Some.ensures in let root = c.args.root in let words = c.args.words in
    let below = there-in f.pool f.pages f.spots.items f.next f.roster.links k x v root c.requires.there in
    let role = root-in f.pool f.pages f.spots.items f.next f.roster.links k x v root c.requires.there c.requires.root in
    let spot = spot-read f.spots.items root c.index.result.now (in-spots f.pool f.pages f.spots.items f.next f.roster.links k x v root c.requires.there) c.index.ensures in
    subst (λ (s : Spot). IsBacked c.chain_push.new.self f.pages (set f.spots.items root (record { role = s.role; newest = page })) f.next c.with-self-inside.result.links) spot
    (add-keeps f.pool f.pages f.spots.items f.next f.roster.links k x v page got.0 got.1 root words below role c.chain_push.new.self
    (c.chain_push.ensures.pushed
    ∙ ap (λ (t : PoolState). record t { chains = set (set t.chains root (chain_at t.chains root ++ page ∷ [])) page [] })
    (c.set_serial.ensures ∙ ap (λ n. record c.set_fill.new.self { serials = set c.set_fill.new.self.serials page n }) (c.serial-serial.ensures ∙ ap (λ (t : PoolState). slice_index t.serials root) got.2)
    ∙ ap (λ (t : PoolState). record t { serials = set t.serials page (slice_index f.pool.serials root) })
    (c.set_fill.ensures ∙ ap (λ (t : PoolState). record t { fills = set t.fills page (1024 * page + words) })
    (c.set_owner.ensures ∙ ap (λ (t : PoolState). record t { owners = set t.owners page root }) got.2))))
    c.with-self-inside.result.links (c.with-self-inside.ensures ∙ ap (λ (m : Links). after m (Added root page words)) c.with-taken.ensures))

pub returns : goal.returns
returns c =
    let f = c.self.inside in let k = c.self.invariant in let x = c.args.self.now in let v = c.self.view_is in let page = c.in-Some.page.number in let got = c.in-Some.ensures in let root = c.args.root in let words = c.args.words in
    let below = there-in f.pool f.pages f.spots.items f.next f.roster.links k x v root c.requires.there in
    let role = root-in f.pool f.pages f.spots.items f.next f.roster.links k x v root c.requires.there c.requires.root in
    add-gives f.pool f.pages f.spots.items f.next f.roster.links k x v page got.0 got.1 root words below role c.chain_push.new.self
    (c.chain_push.ensures.pushed
    ∙ ap (λ (t : PoolState). record t { chains = set (set t.chains root (chain_at t.chains root ++ page ∷ [])) page [] })
    (c.set_serial.ensures ∙ ap (λ n. record c.set_fill.new.self { serials = set c.set_fill.new.self.serials page n }) (c.serial-serial.ensures ∙ ap (λ (t : PoolState). slice_index t.serials root) got.2)
    ∙ ap (λ (t : PoolState). record t { serials = set t.serials page (slice_index f.pool.serials root) })
    (c.set_fill.ensures ∙ ap (λ (t : PoolState). record t { fills = set t.fills page (1024 * page + words) })
    (c.set_owner.ensures ∙ ap (λ (t : PoolState). record t { owners = set t.owners page root }) got.2))))
    c.with-self-inside.result.links (c.with-self-inside.ensures ∙ ap (λ (m : Links). after m (Added root page words)) c.with-taken.ensures)
