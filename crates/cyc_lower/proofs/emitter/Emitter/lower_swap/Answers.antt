use Rattle.std.proofs.Common.{◌≡◌, ℕ, ◌+◌, ◌≤◌, List, [], ◌++◌, length, ap, arith}
use Rattle.std.proofs.lemmas.List.{length-append}
use Rattle.cyc_types.specs.TypedTrees.{Side, VariableSide, CellSide}
use Rattle.cyc_types.specs.TypedTreeView.{view_side}
use Rattle.cyc_plain.specs.declared.instruction.Instruction.{Instruction}
use Rattle.cyc_lower_proof.specs.inside.Slots.{Starts}
use Rattle.cyc_lower_proof.specs.inside.ObjectCode.{right_slot}
use Rattle.cyc_lower_proof.specs.inside.Lowering.{side_code}
use Rattle.cyc_lower.specs.inside.Emission.{most_locals, view_starts}
use Rattle.cyc_lower.proofs.emission.ExpressionEmitting.{room_for_right}
use Rattle.cyc_lower.proofs.emitter.Emitter.lower_swap.Goals as goal

-- If a swap's left operand is a memory cell, its address takes a slot and some code. So the index of the slot after the
-- address is within the limit of slot indices.
right_room : (starts : Starts) (a : Side) (old new : List Instruction) (t : ℕ) → t ≤ most_locals + length old → new ≡ old ++ side_code starts a (length old) t
    → right_slot a t ≤ most_locals + length new
right_room starts (VariableSide l ty) old new t low made = omega (arith, low, length-append old [], ap (λ (l : List Instruction). length l) made)
right_room starts (CellSide x) old new t low made = omega (arith, room_for_right starts x old new t low made)

pub lower_side-requires-2 : goal.lower_side-requires-2
lower_side-requires-2 c =
    omega (arith, c.right_slot-following.ensures, right_room (view_starts c.args.starts.now) (view_side c.args.left.now) c.args.self.now.code.items c.lower_side.new.self.code.items c.args.free c.requires c.in_ok-lower_side.ensures)
