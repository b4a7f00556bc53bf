use Rattle.std.proofs.Common.{◌+◌, ap, ◌∙◌, take, drop, arith}
use Rattle.cyc_rawpages.specs.inside.Words.{Parts}
use Rattle.cyc_rawpages.proofs.WordLemmas.{words-within, written-cleared, words-cleared}
use Rattle.cyc_rawpages.proofs.block.Block.make_far.Goals as goal

pub overflow_add-self-inside-2 : goal.overflow_add-self-inside-2
overflow_add-self-inside-2 c =
    let s = c.self.inside in let fits = c.self.invariant.few in let many = c.self.invariant.many in let few = s.cells.few in
    let there = words-within s.heads s.made s.cells.slots _ c.args.count c.self.view_is c.requires.there (omega (arith, fits, many)) in
    record { fits = omega (arith, few, there) }

pub clear-requires-clause-inside : goal.clear-requires-clause-inside
clear-requires-clause-inside c =
    let s = c.self.inside in let fits = c.self.invariant.few in let many = c.self.invariant.many in let more = c.requires.more in
    let old = ap (λ (p : Parts). p.made) c.self.view_is in
    (omega (arith, more, old), words-within s.heads s.made s.cells.slots _ c.args.count c.self.view_is c.requires.there (omega (arith, fits, many)))

pub invariant_of-self : goal.invariant_of-self
invariant_of-self c =
    let s = c.self.inside in let is = c.self.invariant in let cs = s.cells.slots in let new = c.clear.new.cells.slots in let count = c.args.count in
    let many = is.many in let fits = is.few in let more = c.requires.more in
    let there = words-within s.heads s.made cs _ count c.self.view_is c.requires.there (omega (arith, fits, many)) in
    let old = ap (λ (p : Parts). p.made) c.self.view_is in
    record {
      at = c.clear.ensures.at ∙ is.at;
      many = c.clear.ensures.many ∙ many;
      few = omega (arith, there, many);
      written = written-cleared cs new (s.heads + s.made) (s.heads + count) is.written c.clear.ensures.cleared c.clear.ensures.below c.clear.ensures.above (omega (arith, more, old));
      leased = is.leased;
      size = is.size;
      by = is.by;
    }

pub returns : goal.returns
returns c =
    let s = c.self.inside in let cs = s.cells.slots in let new = c.clear.new.cells.slots in let count = c.args.count in
    ap (λ ws. record { heads = take s.heads ws; words = drop s.heads ws; made = count })
    (words-cleared cs new (s.heads + s.made) (s.heads + count) c.self.invariant.written c.clear.ensures.cleared c.clear.ensures.below c.clear.ensures.above c.clear.ensures.many)
    ∙ ap (λ (p : Parts). record p { made = count }) c.self.view_is
