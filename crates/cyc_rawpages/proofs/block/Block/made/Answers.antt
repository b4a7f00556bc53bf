use Rattle.std.proofs.Common.{◌+◌, ◌≤◌, sym, ap, subst}
use Rattle.cyc_rawpages.specs.inside.Words.{Parts}
use Rattle.cyc_rawpages.proofs.WordLemmas.{made-within}
use Rattle.cyc_rawpages.proofs.block.Block.made.Goals as goal

pub returns-clause-is : goal.returns-clause-is
returns-clause-is c = ap (λ (p : Parts). p.made) c.self.view_is

pub returns-clause-within : goal.returns-clause-within
returns-clause-within c =
    let s = c.self.inside in made-within s.heads s.made s.cells.slots _ c.self.view_is (subst (λ n. s.heads + s.made ≤ n) (sym c.self.invariant.many) c.self.invariant.few)
