-- The text of an instruction: its name and its operands, in the order of the MIPS32 architecture. The spelling of
-- operands is this project's own choice. Registers are written by number after `$` and numbers in decimal. Targets
-- of branches and jumps are addresses, written as eight hexadecimal digits after `0x`.
use Rattle.std.specs.Prelude.{ℕ, ◌+◌, ◌/◌, ◌%◌, ◌^◌, List, [], ◌∷◌, ◌++◌, nat_lt, if◌then◌else◌, codes, decimal}
use Rattle.std.specs.Fmt.{signed_decimal}
use Rattle.cyc_words.specs.Word.{signed_half}
use Rattle.cyc_isa.specs.Table.{immediate}
use Rattle.cyc_isa.specs.Encoding.{row_of}
use Rattle.cyc_isa.specs.Effect.{branch_target, jump_target}
use Rattle.cyc_isa.specs.declared.operand.Register.{Register}
use Rattle.cyc_isa.specs.declared.instr.ImmediateOp.{ImmediateOp}
use Rattle.cyc_isa.specs.declared.instr.ImmediateOp.TheVariants.{AddUnsigned, SetLess, SetLessUnsigned, And, Or, Xor}
use Rattle.cyc_isa.specs.declared.instr.Instr.{Instr}
use Rattle.cyc_isa.specs.declared.instr.Instr.TheVariants.{Immediate, LoadUpper, Memory, Branch, BranchZero, Jump, Shift, ShiftVariable, JumpRegister, JumpRegisterLink, Exception, MoveFrom, MultiplyDivide, Arithmetic}

-- ---- operands

abbrev pub register_text : Register → List ℕ
register_text r = codes "$" ++ decimal r.number

-- The text of the 16 bits of an immediate or an offset, as a signed number.
abbrev pub signed_text : ℕ → List ℕ
signed_text half = signed_decimal (signed_half half)

-- The text of an immediate: that of a bit operation is an unsigned number, any other a signed number.
abbrev pub immediate_text : ImmediateOp → ℕ → List ℕ
immediate_text AddUnsigned half = signed_text half
immediate_text SetLess half = signed_text half
immediate_text SetLessUnsigned half = signed_text half
immediate_text And half = decimal half
immediate_text Or half = decimal half
immediate_text Xor half = decimal half

-- The text of an address operand: a signed offset and a base register.
abbrev pub based_text : ℕ → Register → List ℕ
based_text offset base = signed_text offset ++ codes "(" ++ register_text base ++ codes ")"

-- The character code of a hexadecimal digit, in lower case: 48 is `0`, and 87 + 10 is `a`.
abbrev pub hex_digit_of : ℕ → ℕ
hex_digit_of d = if nat_lt d 10 then 48 + d else 87 + d

-- The eight hexadecimal digits of a word.
unfoldable pub hex_digits_of : ℕ → List ℕ
hex_digits_of w =
    hex_digit_of (w / 2 ^ 28 % 16)
    ∷ hex_digit_of (w / 2 ^ 24 % 16)
    ∷ hex_digit_of (w / 2 ^ 20 % 16)
    ∷ hex_digit_of (w / 2 ^ 16 % 16)
    ∷ hex_digit_of (w / 2 ^ 12 % 16)
    ∷ hex_digit_of (w / 2 ^ 8 % 16)
    ∷ hex_digit_of (w / 2 ^ 4 % 16)
    ∷ hex_digit_of (w % 16)
    ∷ []

abbrev pub address_text : ℕ → List ℕ
address_text addr = codes "0x" ++ hex_digits_of addr

-- ---- instructions

-- The operands of an instruction, separated by commas.
abbrev pub listed : List (List ℕ) → List ℕ
listed [] = []
listed (x ∷ []) = x
listed (x ∷ y ∷ rest) = x ++ codes ", " ++ listed (y ∷ rest)

abbrev pub line : List ℕ → List (List ℕ) → List ℕ
line name operands = name ++ codes " " ++ listed operands

-- The texts of the operands of an instruction at the given address.
abbrev pub operand_texts : Instr → ℕ → List (List ℕ)
operand_texts (Immediate op target source immediate) addr =
    register_text target ∷ register_text source ∷ immediate_text op immediate ∷ []
operand_texts (LoadUpper target immediate) addr = register_text target ∷ decimal immediate ∷ []
operand_texts (Memory op target base offset) addr = register_text target ∷ based_text offset base ∷ []
operand_texts (Branch op left right offset) addr =
    register_text left ∷ register_text right ∷ address_text (branch_target addr offset) ∷ []
operand_texts (BranchZero op source offset) addr =
    register_text source ∷ address_text (branch_target addr offset) ∷ []
operand_texts (Jump op index) addr = address_text (jump_target addr index.index) ∷ []
operand_texts (Shift op destination source amount) addr =
    register_text destination ∷ register_text source ∷ decimal amount.bits ∷ []
operand_texts (ShiftVariable op destination source by) addr =
    register_text destination ∷ register_text source ∷ register_text by ∷ []
operand_texts (JumpRegister source) addr = register_text source ∷ []
operand_texts (JumpRegisterLink destination source) addr = register_text destination ∷ register_text source ∷ []
operand_texts (Exception op code) addr = decimal code.code ∷ []
operand_texts (MoveFrom op destination) addr = register_text destination ∷ []
operand_texts (MultiplyDivide op left right) addr = register_text left ∷ register_text right ∷ []
operand_texts (Arithmetic op destination left right) addr =
    register_text destination ∷ register_text left ∷ register_text right ∷ []

-- The text of an instruction at the given address.
abbrev pub text_of : Instr → ℕ → List ℕ
text_of i addr = line (row_of i).name (operand_texts i addr)
