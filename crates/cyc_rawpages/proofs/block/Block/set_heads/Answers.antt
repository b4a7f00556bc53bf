use Rattle.std.proofs.Common.{◌≡◌, ℕ, suc, ◌+◌, ap, sym, subst, ◌∙◌, refl, length, length-set, arith}
use Rattle.std.specs.Prelude.{Some}
use Rattle.cyc_rawpages.specs.inside.Words.{Parts, headed, headed_all, parts_of, AreWritten}
use Rattle.cyc_rawpages.proofs.WordLemmas.{head-within, head-set, written-set}
use Rattle.cyc_rawpages.proofs.block.Block.set_heads.Goals as goal

pub write-requires : goal.write-requires
write-requires c =
    let s = c.loop-number.self-inside in let is = c.loop-number.invariant in let i = c.args.first + c.loop-number.number in
    (sym is.at, (head-within s.heads s.made s.cells.slots _ i refl (omega (arith, is.many, c.requires.inside, c.loop-number-test.true))).1)

pub loop-number-preserved : goal.loop-number-preserved
loop-number-preserved c =
    let s = c.loop-number.self-inside in let is = c.loop-number.invariant in let cs = s.cells.slots in
    let n = c.loop-number.number in let i = c.args.first + n in let w = c.args.word in let new = c.write.new.self.slots in
    let there = head-within s.heads s.made cs _ i refl (omega (arith, is.many, c.requires.inside, c.loop-number-test.true)) in let low = there.0 in
    let one : parts_of s.heads s.made new ≡ headed (parts_of s.heads s.made cs) i w = ap (parts_of s.heads s.made) c.write.ensures.1 ∙ head-set s.heads s.made cs i w low in
    let all : parts_of s.heads s.made new ≡ headed_all c.args.self.now c.args.first (suc n) w = one ∙ ap (λ (p : Parts). headed p i w) is.written in
    let next : suc n ≡ n + 1 = omega arith in
    record {
      written = subst (λ (k : ℕ). parts_of s.heads s.made new ≡ headed_all c.args.self.now c.args.first k w) next all;
      many = ap (λ (p : Parts). length p.heads) one ∙ length-set (parts_of s.heads s.made cs).heads i w ∙ is.many;
      block = record {
        at = c.write.ensures.0 ∙ is.block.at;
        many = ap length c.write.ensures.1 ∙ length-set cs i (Some w) ∙ is.block.many;
        few = is.block.few;
        written = subst (λ ds. AreWritten ds (s.heads + s.made)) (sym c.write.ensures.1) (written-set cs (s.heads + s.made) i w (omega (arith, low)) there.1 is.block.written);
        leased = is.block.leased;
        size = is.block.size;
        by = is.block.by;
      };
      at = c.write.ensures.0 ∙ is.at;
    }

pub invariant_of-self : goal.invariant_of-self
invariant_of-self c = c.loop-number.invariant.block

pub returns : goal.returns
returns c =
    let all : c.loop-number.number ≡ c.args.count = omega (arith, c.loop-number-test.false, c.loop-number.auto.number-end) in
    c.loop-number.invariant.written ∙ ap (λ k. headed_all c.args.self.now c.args.first k c.args.word) all
