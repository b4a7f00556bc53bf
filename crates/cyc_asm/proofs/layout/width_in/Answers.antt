use Rattle.std.proofs.Common.{ℕ, ◌+◌, ◌∙◌, sym, ap, arith, true, false, inl, inr}
use Rattle.cyc_asm.proofs.Tables.{length-most_of_each, most_low, formed_here, width_here, near_here, width_of_branch}
use Rattle.cyc_asm.proofs.layout.width_in.Goals as goal

pub bounds-most-number : goal.bounds-most-number
bounds-most-number c = let long = length-most_of_each c.args.lines.now c.args.most.now c.requires.most in omega (arith, long, c.requires.within)

pub bounds-most-label : goal.bounds-most-label
bounds-most-label c =
    let long = length-most_of_each c.args.lines.now c.args.most.now c.requires.most in
    let label = formed_here c.args.lines.now c.args.number _ _ c.requires.formed c.requires.within c.in-Branch.is in
    omega (arith, long, label)

pub is_near-requires : goal.is_near-requires
is_near-requires c =
    let label = formed_here c.args.lines.now c.args.number _ _ c.requires.formed c.requires.within c.in-Branch.is in (
      most_low c.args.lines.now c.args.most.now c.args.number c.requires.fits c.requires.most c.requires.within,
      most_low c.args.lines.now c.args.most.now c.in-Branch.label c.requires.fits c.requires.most label,
    )

pub returns-in-Ordinary : goal.returns-in-Ordinary
returns-in-Ordinary c = sym (width_here c.args.lines.now c.args.number _ _ c.requires.within c.in-Ordinary.is)

pub returns-then-is_near : goal.returns-then-is_near
returns-then-is_near c =
    let label = formed_here c.args.lines.now c.args.number _ _ c.requires.formed c.requires.within c.in-Branch.is in
    ap (λ (n : ℕ). n + 1) c.head_width.ensures
    ∙ sym (
    width_of_branch c.args.lines.now c.args.number _ _ _ true c.requires.within c.in-Branch.is
    (near_here c.args.lines.now c.args.most.now c.args.number c.in-Branch.label c.is_near.result true c.requires.most c.requires.within label c.is_near.ensures c.if-is_near.true))

pub returns-else-is_near : goal.returns-else-is_near
returns-else-is_near c =
    let label = formed_here c.args.lines.now c.args.number _ _ c.requires.formed c.requires.within c.in-Branch.is in
    ap (λ (n : ℕ). n + 3) c.head_width-else-is_near.ensures
    ∙ sym (
    width_of_branch c.args.lines.now c.args.number _ _ _ false c.requires.within c.in-Branch.is
    (near_here c.args.lines.now c.args.most.now c.args.number c.in-Branch.label c.is_near.result false c.requires.most c.requires.within label c.is_near.ensures c.if-is_near.false))

pub returns-in-Jump : goal.returns-in-Jump
returns-in-Jump c =
    ap (λ (n : ℕ). n + 1) c.head_width-in-Jump.ensures
    ∙ elim c.in-Jump.is [
      | inl jump ↦ sym (width_here c.args.lines.now c.args.number _ _ c.requires.within jump.1)
      | inr others ↦ elim others [
        | inl call ↦ sym (width_here c.args.lines.now c.args.number _ _ c.requires.within call.1)
        | inr return ↦ sym (width_here c.args.lines.now c.args.number _ _ c.requires.within return)
      ]
    ]
