use Rattle.std.proofs.Common.{◌+◌, ap, sym, subst, ◌∙◌, length, set, length-set, arith}
use Rattle.std.specs.Prelude.{Some}
use Rattle.cyc_rawpages.specs.inside.Words.{Parts, parts_of, AreWritten}
use Rattle.cyc_rawpages.proofs.WordLemmas.{word-within, word-set, written-set}
use Rattle.cyc_rawpages.proofs.block.Block.set_word.Goals as goal

pub invariant_of-self : goal.invariant_of-self
invariant_of-self c =
    let s = c.self.inside in let is = c.self.invariant in let cs = s.cells.slots in let i = s.heads + c.args.index in let low = c.if-index-self.true in
    record {
      at = c.write.ensures.0 ∙ is.at;
      many = ap length c.write.ensures.1 ∙ length-set cs i (Some c.args.word) ∙ is.many;
      few = is.few;
      written = subst (λ ds. AreWritten ds (s.heads + s.made)) (sym c.write.ensures.1)
          (written-set cs (s.heads + s.made) i c.args.word (omega (arith, low)) (word-within s.heads s.made cs _ c.args.index c.self.view_is c.requires) is.written);
      leased = is.leased;
      size = is.size;
      by = is.by;
    }

pub returns-then-index-self-clause-set : goal.returns-then-index-self-clause-set
returns-then-index-self-clause-set c =
    let s = c.self.inside in let cs = s.cells.slots in let i = c.args.index in
    ap (parts_of s.heads s.made) c.write.ensures.1 ∙ word-set s.heads s.made cs i c.args.word ∙ ap (λ (p : Parts). record p { words = set p.words i c.args.word; made = s.made }) c.self.view_is
