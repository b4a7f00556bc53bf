use Rattle.std.proofs.Common.{ℕ, List, [], set, ap, sym, subst, ◌∙◌}
use Rattle.cyc_rawpages.specs.inside.Lists.{chain_at, freed}
use Rattle.cyc_rawpages.specs.inside.Pool.{PoolState, IsHead}
use Rattle.cyc_pagestore.proofs.Calls.{close-head, close-keeps}
use Rattle.cyc_pagestore.proofs.table.PoolTable.close.Goals as goal

pub give_chain-requires-clause-head : goal.give_chain-requires-clause-head
give_chain-requires-clause-head c =
    let f = c.self.inside in let root = c.args.root in
    let chains = ap (λ (t : PoolState). t.chains) c.set_serial.ensures ∙ ap (λ (t : PoolState). t.chains) c.set_fill.ensures in
    subst (λ (cs : List (List ℕ)). IsHead cs root) (sym chains)
    (close-head f.pool f.pages f.spots.items f.next f.roster.links c.self.invariant c.args.self.now c.self.view_is root c.requires.there c.requires.root c.next_serial-serial.new.pool c.next_serial-serial.result c.next_serial-serial.ensures)

pub invariant_of-self : goal.invariant_of-self
invariant_of-self c =
    let f = c.self.inside in let root = c.args.root in let s = c.next_serial-serial.result in
    close-keeps f.pool f.pages f.spots.items f.next f.roster.links c.self.invariant c.args.self.now c.self.view_is root c.requires.there c.requires.root c.next_serial-serial.new.pool s c.next_serial-serial.ensures
    c.give_chain.new.self (c.give_chain.ensures ∙ ap (λ (t : PoolState). record t { free = freed t.free (chain_at t.chains root); chains = set t.chains root [] })
    (c.set_serial.ensures ∙ ap (λ (t : PoolState). record t { serials = set t.serials root s }) c.set_fill.ensures))
    c.with-self-inside.result.links c.with-self-inside.ensures
