-- Worked examples of the definitions, each proved by computation. The instruction words are those that an assembler produces.
use Rattle.std.specs.Prelude.{◌≡◌, Some, None, true, refl}
use Rattle.cyc_words.specs.Word.{sign_extended, div_of, rem_of}
use Rattle.cyc_isa.specs.Encoding.{word_of}
use Rattle.cyc_isa.specs.Decoding.{register_of, decode_of}
use Rattle.cyc_isa.specs.Effect.{immediate_result, arithmetic_result, high_result, low_result, branch_target, jump_target, branch_zero_taken}
use Rattle.cyc_isa.specs.declared.instr.ImmediateOp.TheVariants as ImmediateOp
use Rattle.cyc_isa.specs.declared.instr.MemoryOp.TheVariants.{LoadWord, LoadByte, StoreByte}
use Rattle.cyc_isa.specs.declared.instr.BranchZeroOp.TheVariants.{Less}
use Rattle.cyc_isa.specs.declared.instr.MultiplyDivideOp.TheVariants.{Multiply, Divide}
use Rattle.cyc_isa.specs.declared.instr.ArithmeticOp.TheVariants as ArithmeticOp
use Rattle.cyc_isa.specs.declared.instr.Instr.TheVariants.{Immediate, Memory, JumpRegister}

-- Example: the word that encodes `addiu $29, $29, -32`.
addiu_word : word_of (Immediate ImmediateOp.AddUnsigned (register_of 29) (register_of 29) 0xffe0) ≡ 0x27bdffe0
addiu_word = refl

addiu_decoded : decode_of 0x27bdffe0 ≡ Some (Immediate ImmediateOp.AddUnsigned (register_of 29) (register_of 29) 0xffe0)
addiu_decoded = refl

-- Example: the word that encodes `lw $8, 4($29)`.
lw_decoded : decode_of 0x8fa80004 ≡ Some (Memory LoadWord (register_of 8) (register_of 29) 4)
lw_decoded = refl

-- Example: the words that encode `lbu $4, 1($8)` and `sb $9, 1($8)`.
lbu_decoded : decode_of 0x91040001 ≡ Some (Memory LoadByte (register_of 4) (register_of 8) 1)
lbu_decoded = refl

sb_decoded : decode_of 0xa1090001 ≡ Some (Memory StoreByte (register_of 9) (register_of 8) 1)
sb_decoded = refl

-- Example: `lb $4, 1($8)`, which would sign-extend its byte, is not an instruction of this machine.
lb_refused : decode_of 0x81040001 ≡ None
lb_refused = refl

-- Example: the word of `jr $31`, and the word of `jr $31` with a nonzero number in its unused field `rt`.
jr_decoded : decode_of 0x03e00008 ≡ Some (JumpRegister (register_of 31))
jr_decoded = refl

jr_refused : decode_of 0x03e10008 ≡ None
jr_refused = refl

-- Example: a branch whose target is its own address, and a backward branch across the end of the address space.
branch_to_itself : branch_target 0x00400000 0xffff ≡ 0x00400000
unfolding sign_extended
branch_to_itself = refl

branch_wraps : branch_target 0xfffffffc 0x8000 ≡ 0xfffe0000
unfolding sign_extended
branch_wraps = refl

-- Example: a jump keeps the upper four bits of its delay slot's address, not of its own address.
jump_from_the_end : jump_target 0x9ffffffc 0x00100000 ≡ 0xa0400000
jump_from_the_end = refl

-- Example: the immediate -1 is sign-extended to the greatest word.
below_the_greatest_word : immediate_result ImmediateOp.SetLessUnsigned 5 0xffff ≡ 1
unfolding sign_extended
below_the_greatest_word = refl

lower_half_alone : immediate_result ImmediateOp.And 0xffffffff 0x8000 ≡ 0x8000
lower_half_alone = refl

not_of_nothing : arithmetic_result ArithmeticOp.Nor 0 0 ≡ 0xffffffff
not_of_nothing = refl

-- Example: the product of -1 and 2 in HI and LO.
product_high : high_result Multiply 0xffffffff 2 ≡ 0xffffffff
product_high = refl

product_low : low_result Multiply 0xffffffff 2 ≡ 0xfffffffe
product_low = refl

-- -7 divided by 2: the quotient -3, and the remainder -1.
quotient_low : low_result Divide 0xfffffff9 2 ≡ 0xfffffffd
unfolding div_of
quotient_low = refl

remainder_high : high_result Divide 0xfffffff9 2 ≡ 0xffffffff
unfolding rem_of
remainder_high = refl

-- Example: the least signed number is below zero.
least_is_below_zero : branch_zero_taken Less 0x80000000 ≡ true
least_is_below_zero = refl
