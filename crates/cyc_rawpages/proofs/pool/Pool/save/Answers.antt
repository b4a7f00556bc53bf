use Rattle.std.proofs.Common.{◌+◌, ◌*◌, set, length-set, sym, ap, subst, ◌∙◌, inl, inr, arith}
use Rattle.cyc_rawpages.specs.inside.Pool.{PoolState, state_of, IsPool}
use Rattle.cyc_rawpages.proofs.PoolLemmas.{word-in, there-in}
use Rattle.cyc_rawpages.proofs.pool.Pool.save.Goals as goal

pub set_word-requires : goal.set_word-requires
set_word-requires c =
    let s = c.self.inside in word-in s.pages c.args.page.number c.args.word s.block c.self.invariant.words (there-in _ _ _ c.self.view_is c.requires.0) c.requires.1

pub invariant_of-self : goal.invariant_of-self
invariant_of-self c =
    let s = c.self.inside in let is = c.self.invariant in let k = 1024 * c.args.page.number + c.args.word in
    subst (λ b. IsPool s.pages b s.first s.roll.lists) (sym c.set_word.ensures.set) (record {
      whole = is.whole;
      words = length-set s.block.words k c.args.value ∙ is.words;
      up = is.up;
      made = λ page there. elim (is.made page there) [
        | inl among ↦ inl among
        | inr low ↦ inr (let more = c.set_word.ensures.more in omega (arith, low, more))
      ];
    })

pub returns : goal.returns
returns c =
    let s = c.self.inside in let k = 1024 * c.args.page.number + c.args.word in
    ap (λ b. state_of s.pages b s.roll.lists) c.set_word.ensures.set ∙ ap (λ (t : PoolState). record t { words = set t.words k c.args.value }) c.self.view_is
