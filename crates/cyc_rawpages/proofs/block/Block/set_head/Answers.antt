use Rattle.std.proofs.Common.{◌+◌, ap, sym, subst, ◌∙◌, length, length-set, arith}
use Rattle.std.specs.Prelude.{Some}
use Rattle.cyc_rawpages.specs.inside.Words.{Parts, headed, parts_of, AreWritten}
use Rattle.cyc_rawpages.proofs.WordLemmas.{head-within, head-set, written-set}
use Rattle.cyc_rawpages.proofs.block.Block.set_head.Goals as goal

pub invariant_of-self : goal.invariant_of-self
invariant_of-self c =
    let s = c.self.inside in let is = c.self.invariant in let cs = s.cells.slots in let i = c.args.index in
    let there = head-within s.heads s.made cs _ i c.self.view_is c.requires in let low = there.0 in
    record {
      at = c.write.ensures.0 ∙ is.at;
      many = ap length c.write.ensures.1 ∙ length-set cs i (Some c.args.word) ∙ is.many;
      few = is.few;
      written = subst (λ ds. AreWritten ds (s.heads + s.made)) (sym c.write.ensures.1) (written-set cs (s.heads + s.made) i c.args.word (omega (arith, low)) there.1 is.written);
      leased = is.leased;
      size = is.size;
      by = is.by;
    }

pub returns : goal.returns
returns c =
    let s = c.self.inside in let cs = s.cells.slots in let i = c.args.index in
    ap (parts_of s.heads s.made) c.write.ensures.1 ∙ head-set s.heads s.made cs i c.args.word (head-within s.heads s.made cs _ i c.self.view_is c.requires).0
    ∙ ap (λ (p : Parts). headed p i c.args.word) c.self.view_is
