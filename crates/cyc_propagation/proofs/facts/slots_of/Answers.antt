use Rattle.std.proofs.Common.{bit_or}
use Rattle.cyc_propagation.proofs.About.{bit_first, operand_left, operand_right}
use Rattle.cyc_propagation.proofs.facts.slots_of.Goals as goal

pub returns-in-Equal : goal.returns-in-Equal
returns-in-Equal c =
    let bit = c.bit_of.result in
    let bits = c.bits_of.result in
    rw c.in-Equal.is (bit_first bit bits c.in-Equal.slot c.bit_of.ensures, operand_right bit bits c.in-Equal.operand c.bits_of.ensures)

pub returns-in-Computed : goal.returns-in-Computed
returns-in-Computed c =
    let bit = c.bit_of-in-Computed.result in
    let left = c.bits_of-in-Computed.result in
    let right = c.bits_of-in-Computed-2.result in
    rw c.in-Computed.is (
      bit_first bit (bit_or left right) c.in-Computed.slot c.bit_of-in-Computed.ensures,
      (
        operand_right bit (bit_or left right) c.in-Computed.left (operand_left left right c.in-Computed.left c.bits_of-in-Computed.ensures),
        operand_right bit (bit_or left right) c.in-Computed.right (operand_right left right c.in-Computed.right c.bits_of-in-Computed-2.ensures),
      ),
    )

pub returns-in-Holds : goal.returns-in-Holds
returns-in-Holds c =
    let left = c.bits_of-in-Holds.result in
    let right = c.bits_of-in-Holds-2.result in
    rw c.in-Holds.is (operand_left left right c.in-Holds.left c.bits_of-in-Holds.ensures, operand_right left right c.in-Holds.right c.bits_of-in-Holds-2.ensures)

pub returns-in-Held : goal.returns-in-Held
returns-in-Held c =
    let address = c.bits_of-in-Held.result in
    let value = c.bits_of-in-Held-2.result in
    rw c.in-Held.is (operand_left address value c.in-Held.address c.bits_of-in-Held.ensures, operand_right address value c.in-Held.value c.bits_of-in-Held-2.ensures)
