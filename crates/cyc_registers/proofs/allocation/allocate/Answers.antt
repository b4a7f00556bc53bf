use Rattle.std.proofs.Common.{ℕ, sym, subst, ◌∙◌}
use Rattle.std.specs.Prelude.{List}
use Rattle.cyc_plain.specs.inside.Program.{routine_of}
use Rattle.cyc_registers.specs.declared.home.Home.{Home}
use Rattle.cyc_registers.specs.inside.Fills.{AreFillable}
use Rattle.cyc_registers.specs.inside.Sharing.{AreHolders}
use Rattle.cyc_registers.proofs.allocation.allocate.Goals as goal

pub fills_of-requires-clause-holders : goal.fills_of-requires-clause-holders
fills_of-requires-clause-holders c =
    let holders = c.holders_of-holders.result in
    subst (λ (masks : List ℕ). AreHolders masks holders c.deref-19.result.now) (c.deref-12.ensures.value ∙ sym c.deref-18.ensures.value)
    (subst (λ (homes : List Home). AreHolders c.deref-12.result.now holders homes) (c.deref-15.ensures.value ∙ sym c.deref-19.ensures.value)
    (c.are_right.ensures.holders c.if-not-are_right.false))

pub returns-clause-fills : goal.returns-clause-fills
returns-clause-fills c =
    subst (λ (homes : List Home). AreFillable c.args.plain.now (routine_of c.args.function.now) homes c.in_ok-fills.fills.items) c.deref-19.ensures.value
    c.in_ok-fills.ensures
