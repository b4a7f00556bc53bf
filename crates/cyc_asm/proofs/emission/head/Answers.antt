use Rattle.std.proofs.Common.{◌∙◌, sym, ap, arith, true, false}
use Rattle.cyc_isa.specs.declared.instr.JumpOp.TheVariants.{Plain, AndLink}
use Rattle.cyc_isa.specs.Encoding.{word_of}
use Rattle.cyc_select.specs.declared.code.Condition.{Condition}
use Rattle.cyc_asm.specs.declared.constants.TheConstants.{ROUND_OFFSET}
use Rattle.cyc_asm.specs.inside.Text.{branch_of}
use Rattle.cyc_asm.proofs.Tables.{length-most_of_each, length-position_of_each, most_low, position_low, formed_here, near_here, head_here, head_of_branch_here, reach_here, near_branch_here, jump_here}
use Rattle.cyc_asm.proofs.emission.head.Goals as goal

pub bounds-most-number : goal.bounds-most-number
bounds-most-number c = let long = length-most_of_each c.args.lines.now c.args.most.now c.requires.most in omega (arith, long, c.requires.within)

pub bounds-most-label : goal.bounds-most-label
bounds-most-label c =
    let long = length-most_of_each c.args.lines.now c.args.most.now c.requires.most in
    let label = formed_here c.args.lines.now c.args.number _ _ c.requires.formed c.requires.within c.in-Branch.is in
    omega (arith, long, label)

pub is_near-requires : goal.is_near-requires
is_near-requires c =
    let label = formed_here c.args.lines.now c.args.number _ _ c.requires.formed c.requires.within c.in-Branch.is in (
      most_low c.args.lines.now c.args.most.now c.args.number c.requires.fits c.requires.most c.requires.within,
      most_low c.args.lines.now c.args.most.now c.in-Branch.label c.requires.fits c.requires.most label,
    )

pub bounds-positions-label : goal.bounds-positions-label
bounds-positions-label c =
    let long = length-position_of_each c.args.lines.now c.args.positions.now c.requires.positions in
    let label = formed_here c.args.lines.now c.args.number _ _ c.requires.formed c.requires.within c.in-Branch.is in
    omega (arith, long, label)

pub bounds-positions-label-in-Jump : goal.bounds-positions-label-in-Jump
bounds-positions-label-in-Jump c =
    let long = length-position_of_each c.args.lines.now c.args.positions.now c.requires.positions in
    let label = formed_here c.args.lines.now c.args.number _ _ c.requires.formed c.requires.within c.in-Jump.is in
    omega (arith, long, label)

pub bounds-positions-label-in-Call : goal.bounds-positions-label-in-Call
bounds-positions-label-in-Call c =
    let long = length-position_of_each c.args.lines.now c.args.positions.now c.requires.positions in
    let label = formed_here c.args.lines.now c.args.number _ _ c.requires.formed c.requires.within c.in-Call.is in
    omega (arith, long, label)

pub offset-offset-requires : goal.offset-offset-requires
offset-offset-requires c =
    let label = formed_here c.args.lines.now c.args.number _ _ c.requires.formed c.requires.within c.in-Branch.is in
    let near = near_here c.args.lines.now c.args.most.now c.args.number c.in-Branch.label c.is_near.result true c.requires.most c.requires.within label c.is_near.ensures c.if-is_near.true in
    reach_here c.args.lines.now c.args.positions.now c.args.number c.in-Branch.label c.args.from _ c.in-Branch.condition c.requires.fits c.requires.positions c.requires.within label c.in-Branch.is near c.requires.from

pub jump-requires : goal.jump-requires
jump-requires c =
    position_low c.args.lines.now c.args.positions.now c.in-Jump.label c.requires.fits c.requires.positions
    (formed_here c.args.lines.now c.args.number _ _ c.requires.formed c.requires.within c.in-Jump.is)

pub jump-requires-in-Call : goal.jump-requires-in-Call
jump-requires-in-Call c =
    position_low c.args.lines.now c.args.positions.now c.in-Call.label c.requires.fits c.requires.positions
    (formed_here c.args.lines.now c.args.number _ _ c.requires.formed c.requires.within c.in-Call.is)

pub returns-in-Ordinary : goal.returns-in-Ordinary
returns-in-Ordinary c = ap word_of (sym (head_here c.args.lines.now c.args.from c.args.number _ _ c.requires.within c.in-Ordinary.is))

pub returns-then-is_near : goal.returns-then-is_near
returns-then-is_near c =
    let label = formed_here c.args.lines.now c.args.number _ _ c.requires.formed c.requires.within c.in-Branch.is in
    let near = near_here c.args.lines.now c.args.most.now c.args.number c.in-Branch.label c.is_near.result true c.requires.most c.requires.within label c.is_near.ensures c.if-is_near.true in
    ap word_of
    (c.branch-near.ensures
    ∙ near_branch_here c.args.lines.now c.args.positions.now c.args.number c.args.from _ c.in-Branch.condition c.in-Branch.label c.offset-offset.result c.requires.positions c.requires.within label c.in-Branch.is near c.offset-offset.ensures)

pub returns-else-is_near : goal.returns-else-is_near
returns-else-is_near c =
    let label = formed_here c.args.lines.now c.args.number _ _ c.requires.formed c.requires.within c.in-Branch.is in
    let far = near_here c.args.lines.now c.args.most.now c.args.number c.in-Branch.label c.is_near.result false c.requires.most c.requires.within label c.is_near.ensures c.if-is_near.false in
    ap word_of
    (c.branch-far.ensures ∙ ap (λ (condition : Condition). branch_of condition ROUND_OFFSET) c.inverse.ensures
    ∙ sym (head_of_branch_here c.args.lines.now c.args.from c.args.number _ c.in-Branch.condition c.in-Branch.label false c.requires.within c.in-Branch.is far))

pub returns-in-Jump : goal.returns-in-Jump
returns-in-Jump c =
    let label = formed_here c.args.lines.now c.args.number _ _ c.requires.formed c.requires.within c.in-Jump.is in
    c.jump.ensures ∙ jump_here c.args.lines.now c.args.positions.now Plain c.in-Jump.label c.requires.positions label
    ∙ ap word_of (sym (head_here c.args.lines.now c.args.from c.args.number _ _ c.requires.within c.in-Jump.is))

pub returns-in-Call : goal.returns-in-Call
returns-in-Call c =
    let label = formed_here c.args.lines.now c.args.number _ _ c.requires.formed c.requires.within c.in-Call.is in
    c.jump-in-Call.ensures ∙ jump_here c.args.lines.now c.args.positions.now AndLink c.in-Call.label c.requires.positions label
    ∙ ap word_of (sym (head_here c.args.lines.now c.args.from c.args.number _ _ c.requires.within c.in-Call.is))

pub returns-in-Return : goal.returns-in-Return
returns-in-Return c = ap word_of (sym (head_here c.args.lines.now c.args.from c.args.number _ _ c.requires.within c.in-Return.is))
