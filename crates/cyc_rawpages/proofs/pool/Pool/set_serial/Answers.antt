use Rattle.std.proofs.Common.{◌/◌, ◌%◌, ◌^◌, set, sym, ap, subst, ◌∙◌, arith}
use Rattle.cyc_rawpages.specs.inside.Words.{headed}
use Rattle.cyc_rawpages.specs.inside.Pool.{PoolState, header_at, state_of, IsPool}
use Rattle.cyc_rawpages.specs.declared.header.TheConstants.{LOW, HIGH}
use Rattle.cyc_rawpages.proofs.Columns.{numbered}
use Rattle.cyc_rawpages.proofs.PoolLemmas.{there-in, kept, words_of_long}
use Rattle.cyc_rawpages.proofs.pool.Pool.set_serial.Goals as goal

pub invariant_of-self : goal.invariant_of-self
invariant_of-self c =
    let s = c.self.inside in let p = c.args.page.number in let k = header_at p LOW in let h = header_at p HIGH in
    let low = c.args.serial % 2 ^ 32 in let high = c.args.serial / 2 ^ 32 in
    subst (λ b. IsPool s.pages b s.first s.roll.lists)
    (sym (c.set_head-2.ensures ∙ (λ j. headed ((c.set_head.ensures ∙ ap (λ n. headed s.block n low) c.header_at.ensures) j) (c.header_at-2.ensures j) high)))
    (kept s.pages (headed s.block k low) s.first s.roll.lists
    (kept s.pages s.block s.first s.roll.lists c.self.invariant k low (λ q. ((λ e. omega (arith, e)), (λ e. omega (arith, e)))))
    h high (λ q. ((λ e. omega (arith, e)), (λ e. omega (arith, e)))))

pub returns : goal.returns
returns c =
    let s = c.self.inside in let p = c.args.page.number in let n = c.args.serial in let low = n % 2 ^ 32 in let high = n / 2 ^ 32 in
    ap (λ b. state_of s.pages b s.roll.lists) (c.set_head-2.ensures ∙ (λ j. headed ((c.set_head.ensures ∙ ap (λ m. headed s.block m low) c.header_at.ensures) j) (c.header_at-2.ensures j) high))
    ∙ numbered s.pages s.block s.roll.lists c.self.invariant.whole p low high (there-in _ _ _ c.self.view_is c.requires)
    ∙ (λ j. record (state_of s.pages s.block s.roll.lists) { serials = set (state_of s.pages s.block s.roll.lists).serials p (words_of_long n j) })
    ∙ ap (λ (t : PoolState). record t { serials = set t.serials p n }) c.self.view_is
