use Rattle.std.proofs.Common.{◌≡◌, ℕ, ◌<◌, ◌+◌, ◌-◌, true, length, get_or, drop, sym, subst, ap, ◌∙◌, arith}
use Rattle.std.proofs.lemmas.List.{get_or_default, drop_more}
use Rattle.cyc_types.specs.declared.region.Region.{Region}
use Rattle.cyc_types.specs.declared.region.Region.TheVariants.{Heap}
use Rattle.cyc_types.specs.Closure.{above, table_leads, written_in}
use Rattle.cyc_types.proofs.ClosureLemmas.{above-known}
use Rattle.cyc_types.proofs.TableLemmas.{has_entry-at}
use Rattle.cyc_types.proofs.constraints.closed.Goals as goal

pub extend_all-requires : goal.extend_all-requires
extend_all-requires c =
    let w = c.args.written.now in
    let i = c.loop-i.i - 1 in
    let p = get_or w i (Heap, Heap) in
    let h : c.loop-i.i - 1 < length c.args.written.now = omega arith in
    has_entry-at c.deref_mut.result.now w i p (ap written_in c.deref_mut.ensures.value ∙ c.loop-i.invariant.written) h
    (get_or_default w i p (Heap, Heap) h)

pub loop-i-preserved-then-is_known : goal.loop-i-preserved-then-is_known
loop-i-preserved-then-is_known c =
    let w = c.args.written.now in
    let i = c.loop-i.i - 1 in
    let p = get_or w i (Heap, Heap) in
    let next : c.loop-i.i ≡ (c.loop-i.i - 1) + 1 = omega (arith, c.loop-i-test.true) in
    let short : c.loop-i.i - 1 < length c.args.written.now = omega arith in
    let rest = drop (i + 1) w in
    let before : (a b : Region) → table_leads c.loop-i.constraints.items a b ≡ above rest a b =
    subst (λ (n : ℕ). (a b : Region) → table_leads c.loop-i.constraints.items a b ≡ above (drop n w) a b) next c.loop-i.invariant.leads in
    let known : above rest p.0 p.1 ≡ true =
    sym (before p.0 p.1) ∙ ap (λ z. table_leads z p.0 p.1) (sym c.deref.ensures.value) ∙ sym c.is_known.ensures ∙ c.if-is_known.true in
    record {
      written = c.loop-i.invariant.written;
      leads = λ a b. before a b ∙ sym (ap (λ z. above z a b) (drop_more w i (Heap, Heap) short) ∙ above-known p rest known a b);
    }
