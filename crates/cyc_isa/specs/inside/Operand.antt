-- The text of an operand in the disassembly. The spelling of operands is this project's own choice.
use Rattle.std.specs.Prelude.{ℕ, List, decimal}
use Rattle.cyc_isa.specs.Text.{register_text, signed_text, based_text, address_text}
use Rattle.cyc_isa.specs.declared.text.Operand.{Operand}
use Rattle.cyc_isa.specs.declared.text.Operand.TheVariants.{General, Unsigned, Signed, Based, Address}

abbrev pub operand_text : Operand → List ℕ
operand_text (General register) = register_text register
operand_text (Unsigned number) = decimal number
operand_text (Signed half) = signed_text half
operand_text (Based offset base) = based_text offset base
operand_text (Address addr) = address_text addr
