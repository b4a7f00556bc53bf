use Rattle.std.proofs.Common.{arith}
use Rattle.cyc_lower_proof.proofs.slots.CellBytes.{bytes_within}
use Rattle.cyc_lower.proofs.emitter.Emitter.make_object.Goals as goal

-- If an object's values take at most as many slots as a block has words, their number of bytes in cells is within the limit for objects.
pub bytes_of_kinds-requires : goal.bytes_of_kinds-requires
bytes_of_kinds-requires c = omega (arith, bytes_within c.args.kinds.now 0 0 (omega arith), c.requires.slots, c.if-words.false)

pub overflow_add-size : goal.overflow_add-size
overflow_add-size c = omega (arith, bytes_within c.args.kinds.now 0 0 (omega arith), c.requires.slots, c.if-words.false, c.bytes_of_kinds.ensures)

pub store_cells-requires-clause-few : goal.store_cells-requires-clause-few
store_cells-requires-clause-few c = omega (arith, bytes_within c.args.kinds.now 0 0 (omega arith), c.requires.slots, c.if-words.false)
