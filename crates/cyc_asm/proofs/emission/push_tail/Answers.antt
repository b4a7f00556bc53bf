use Rattle.std.proofs.Common.{ℕ, List, ◌∷◌, [], ◌++◌, ◌∙◌, sym, ap, arith, true, false, inl, inr}
use Rattle.cyc_words.proofs.Lists.{push_three}
use Rattle.cyc_isa.specs.declared.instr.JumpOp.TheVariants.{Plain}
use Rattle.cyc_asm.proofs.Tables.{length-most_of_each, length-position_of_each, most_low, position_low, formed_here, near_here, tail_here, tail_of_branch_here, jump_here}
use Rattle.cyc_asm.proofs.emission.push_tail.Goals as goal

pub bounds-most-number : goal.bounds-most-number
bounds-most-number c = let long = length-most_of_each c.args.lines.now c.args.most.now c.requires.most in omega (arith, long, c.requires.within)

pub bounds-most-label : goal.bounds-most-label
bounds-most-label c =
    let long = length-most_of_each c.args.lines.now c.args.most.now c.requires.most in
    let label = formed_here c.args.lines.now c.args.number _ _ c.requires.formed c.requires.within c.in-Branch.is in
    omega (arith, long, label)

pub is_near-requires : goal.is_near-requires
is_near-requires c =
    let label = formed_here c.args.lines.now c.args.number _ _ c.requires.formed c.requires.within c.in-Branch.is in (
      most_low c.args.lines.now c.args.most.now c.args.number c.requires.fits c.requires.most c.requires.within,
      most_low c.args.lines.now c.args.most.now c.in-Branch.label c.requires.fits c.requires.most label,
    )

pub bounds-positions-label : goal.bounds-positions-label
bounds-positions-label c =
    let long = length-position_of_each c.args.lines.now c.args.positions.now c.requires.positions in
    let label = formed_here c.args.lines.now c.args.number _ _ c.requires.formed c.requires.within c.in-Branch.is in
    omega (arith, long, label)

pub jump-round-requires : goal.jump-round-requires
jump-round-requires c =
    position_low c.args.lines.now c.args.positions.now c.in-Branch.label c.requires.fits c.requires.positions
    (formed_here c.args.lines.now c.args.number _ _ c.requires.formed c.requires.within c.in-Branch.is)

pub returns-then-is_near : goal.returns-then-is_near
returns-then-is_near c =
    let label = formed_here c.args.lines.now c.args.number _ _ c.requires.formed c.requires.within c.in-Branch.is in
    let near = near_here c.args.lines.now c.args.most.now c.args.number c.in-Branch.label c.is_near.result true c.requires.most c.requires.within label c.is_near.ensures c.if-is_near.true in
    c.in_ok-push.ensures.items
    ∙ ap (λ (ws : List ℕ). c.args.words.now.items ++ ws) (sym (tail_of_branch_here c.args.lines.now c.args.number _ _ c.in-Branch.label true c.args.slot c.requires.within c.in-Branch.is near))

pub returns-in_ok-push-in-Branch-2 : goal.returns-in_ok-push-in-Branch-2
returns-in_ok-push-in-Branch-2 c =
    let label = formed_here c.args.lines.now c.args.number _ _ c.requires.formed c.requires.within c.in-Branch.is in
    let far = near_here c.args.lines.now c.args.most.now c.args.number c.in-Branch.label c.is_near.result false c.requires.most c.requires.within label c.is_near.ensures c.if-is_near.false in
    let round = c.encode.ensures.word ∙ c.jump-round.ensures ∙ jump_here c.args.lines.now c.args.positions.now Plain c.in-Branch.label c.requires.positions label in
    push_three c.args.words.now.items _ _ _ c.args.slot _ 0 c.in_ok-push.ensures.items c.in_ok-push-in-Branch.ensures.items c.in_ok-push-in-Branch-2.ensures.items
    ∙ ap (λ (w : ℕ). c.args.words.now.items ++ c.args.slot ∷ w ∷ 0 ∷ []) round
    ∙ ap (λ (ws : List ℕ). c.args.words.now.items ++ ws) (sym (tail_of_branch_here c.args.lines.now c.args.number _ _ c.in-Branch.label false c.args.slot c.requires.within c.in-Branch.is far))

pub returns-in-Ordinary : goal.returns-in-Ordinary
returns-in-Ordinary c =
    c.in_ok-push.ensures.items
    ∙ ap (λ (ws : List ℕ). c.args.words.now.items ++ ws) (sym (elim c.in-Ordinary.is [
      | inl ordinary ↦ tail_here c.args.lines.now c.args.number _ _ c.args.slot c.requires.within ordinary.1
      | inr others ↦ elim others [
        | inl jump ↦ tail_here c.args.lines.now c.args.number _ _ c.args.slot c.requires.within jump.1
        | inr more ↦ elim more [
          | inl call ↦ tail_here c.args.lines.now c.args.number _ _ c.args.slot c.requires.within call.1
          | inr return ↦ tail_here c.args.lines.now c.args.number _ _ c.args.slot c.requires.within return
        ]
      ]
    ]))
