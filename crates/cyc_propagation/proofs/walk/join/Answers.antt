use Rattle.std.proofs.Common.{◌<◌, length, arith}
use Rattle.std.proofs.lemmas.Bool.{ltb-true}
use Rattle.cyc_propagation.specs.inside.Entries.{entry_in}
use Rattle.cyc_propagation.proofs.Entered.{jumped_on}
use Rattle.cyc_propagation.proofs.walk.join.Goals as goal

pub returns-clause-known : goal.returns-clause-known
returns-clause-known c is_known =
    let a = c.args in
    let inside : a.place < length a.entries.now.items = omega (arith, ltb-true a.place c.len.result is_known, c.len.ensures, a.entries.now.ok.0) in
    jumped_on (entry_in c.come_to.new.entries.items a.place) a.facts.now (c.in_ok-come_to.ensures.known inside)
