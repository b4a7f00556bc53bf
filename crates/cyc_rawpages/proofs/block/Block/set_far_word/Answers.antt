use Rattle.std.proofs.Common.{◌+◌, ◌<◌, ap, sym, subst, ◌∙◌, length, set, take, drop, length-set, arith}
use Rattle.std.specs.Prelude.{Some}
use Rattle.cyc_rawpages.specs.inside.Words.{Parts, parts_of, AreWritten}
use Rattle.cyc_rawpages.proofs.WordLemmas.{word-within, word-set, written-set, written-cleared, words-cleared}
use Rattle.cyc_rawpages.proofs.block.Block.set_far_word.Goals as goal

pub overflow_add-index : goal.overflow_add-index
overflow_add-index c =
    let s = c.self.inside in let few = s.cells.few in let there = word-within s.heads s.made s.cells.slots _ c.args.index c.self.view_is c.requires in record { fits = omega (arith, few, there) }

pub overflow_add-self-inside-3 : goal.overflow_add-self-inside-3
overflow_add-self-inside-3 c =
    let s = c.self.inside in let few = s.cells.few in let there = word-within s.heads s.made s.cells.slots _ c.args.index c.self.view_is c.requires in record { fits = omega (arith, few, there) }

pub write-requires : goal.write-requires
write-requires c =
    let s = c.self.inside in let there = word-within s.heads s.made s.cells.slots _ c.args.index c.self.view_is c.requires in let long = c.clear.ensures.many in
    (sym (c.clear.ensures.at ∙ c.self.invariant.at), omega (arith, there, long))

pub invariant_of-self : goal.invariant_of-self
invariant_of-self c =
    let s = c.self.inside in let is = c.self.invariant in let cs = s.cells.slots in let new = c.clear.new.cells.slots in let i = c.args.index in let w = c.args.word in
    let there = word-within s.heads s.made cs _ i c.self.view_is c.requires in let many = is.many in let fits = is.few in let long = c.clear.ensures.many in
    let least = c.min.ensures in let most = c.max-made.ensures in let to = s.heads + c.max-made.result in
    let low : s.heads + i < to = omega (arith, there, many, least, most) in
    record {
      at = c.write.ensures.0 ∙ c.clear.ensures.at ∙ is.at;
      many = ap length c.write.ensures.1 ∙ length-set new (s.heads + i) (Some w) ∙ long ∙ many;
      few = omega (arith, fits, least, most);
      written = subst (λ ds. AreWritten ds to) (sym c.write.ensures.1)
          (written-set new to (s.heads + i) w low (omega (arith, there, long))
          (written-cleared cs new (s.heads + s.made) to is.written c.clear.ensures.cleared c.clear.ensures.below c.clear.ensures.above (omega (arith, most))));
      leased = is.leased;
      size = is.size;
      by = is.by;
    }

pub returns-clause-more : goal.returns-clause-more
returns-clause-more c =
    let most = c.max-made.ensures in let old = ap (λ (p : Parts). p.made) c.self.view_is in omega (arith, most, old)

pub returns-clause-set : goal.returns-clause-set
returns-clause-set c =
    let s = c.self.inside in let made = c.max-made.result in let cs = s.cells.slots in let new = c.clear.new.cells.slots in let i = c.args.index in let w = c.args.word in
    ap (parts_of s.heads made) c.write.ensures.1 ∙ word-set s.heads made new i w
    ∙ ap (λ ws. record { heads = take s.heads ws; words = set (drop s.heads ws) i w; made = made })
    (words-cleared cs new (s.heads + s.made) (s.heads + c.max-made.result) c.self.invariant.written c.clear.ensures.cleared c.clear.ensures.below c.clear.ensures.above c.clear.ensures.many)
    ∙ ap (λ (p : Parts). record p { words = set p.words i w; made = made }) c.self.view_is
