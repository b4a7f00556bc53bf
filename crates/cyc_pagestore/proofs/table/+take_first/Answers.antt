use Rattle.std.proofs.Common.{◌≡◌, [], ◌∷◌, ◌<◌, false, set, sym, ap, subst, ◌∙◌, arith}
use Rattle.cyc_words.proofs.Items.{never_in_falses}
use Rattle.cyc_rawpages.specs.inside.Lists.{chain_at, freed}
use Rattle.cyc_rawpages.specs.inside.Pool.{PoolState, IsFree}
use Rattle.cyc_pagestore.specs.inside.Table.{AreAlone}
use Rattle.cyc_pagestore.proofs.First.{true_count, count-less, both, still-free, still-alone, back-is}
use Rattle.cyc_pagestore.proofs.table.+take_first.Goals as goal

pub returns-in_default : goal.returns-in_default
returns-in_default t c = absurd (never_in_falses c.args.pool.now.pages 0 (subst (λ marks. IsFree marks 0) c.in_default.ensures.0 c.requires.first))

pub take_first-requires : goal.take_first-requires
take_first-requires t c =
    let got = c.in-Some.ensures in let p = c.args.pool.now in let page = c.in-Some.page.number in
    let less : true_count c.take.new.self.free < true_count p.free = subst (λ (q : PoolState). true_count q.free < true_count p.free) (sym got.2) (count-less p.free page got.1) in
    let falls : true_count c.take.new.self.free < t = omega (arith, less, c.decreases) in (
      falls,
      (
        subst (λ (q : PoolState). IsFree q.free 0) (sym got.2) (still-free p c.requires.alone page got.0 got.1 c.if-page-eq0.false c.requires.first),
        subst AreAlone (sym got.2) (still-alone p c.requires.alone page got.0 got.1 c.if-page-eq0.false),
      ),
    )

pub returns : goal.returns
returns t c =
    let got = c.in-Some.ensures in let p = c.args.pool.now in let page = c.in-Some.page.number in
    let made : c.take_first.new.pool ≡ both p c.requires.alone page got.0 got.1 c.if-page-eq0.false =
    c.take_first.ensures ∙ ap (λ (q : PoolState). record q { free = set q.free 0 false; chains = set q.chains 0 (0 ∷ []) }) got.2 in
    c.give_chain.ensures ∙ ap (λ (q : PoolState). record q { free = freed q.free (chain_at q.chains page); chains = set q.chains page [] }) made
    ∙ back-is p c.requires.alone page got.0 got.1 c.if-page-eq0.false
