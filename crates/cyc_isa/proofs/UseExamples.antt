-- Examples: the registers that instructions read and write, with at least one example for each row of the table.
use Rattle.std.specs.Prelude.{◌≡◌, ℕ, List, [], ◌∷◌, map, filter, Option, Some, None, refl}
use Rattle.std.specs.List.{range_with_len}
use Rattle.cyc_isa.specs.Decoding.{decode_of}
use Rattle.cyc_isa.specs.Uses.{reads, writes}
use Rattle.cyc_isa.specs.declared.instr.Instr.{Instr}

-- The lists of the registers that an instruction reads, and of those that it writes.
pub record Uses : Type 0 where
  pub read : List ℕ
  pub set : List ℕ

abbrev uses_of : Option Instr → Option Uses
uses_of (Some instruction) = Some (record {
  read = filter (reads instruction) (range_with_len 0 32);
  set = filter (writes instruction) (range_with_len 0 32);
})
uses_of None = None

abbrev uses : (read set : List ℕ) → Option Uses
uses read set = Some (record { read = read; set = set })

-- Example: the registers that `addiu $29, $29, -32` reads and writes.
addiu_uses : uses_of (decode_of 0x27bdffe0) ≡ uses (29 ∷ []) (29 ∷ [])
addiu_uses = refl

-- Example: the registers that `slti $0, $31, 32767` reads and writes.
slti_uses : uses_of (decode_of 0x2be07fff) ≡ uses (31 ∷ []) ([])
slti_uses = refl

-- Example: the registers that `sltiu $31, $0, -32768` reads and writes.
sltiu_uses : uses_of (decode_of 0x2c1f8000) ≡ uses (0 ∷ []) (31 ∷ [])
sltiu_uses = refl

-- Example: the registers that `andi $1, $2, 65535` reads and writes.
andi_uses : uses_of (decode_of 0x3041ffff) ≡ uses (2 ∷ []) (1 ∷ [])
andi_uses = refl

-- Example: the registers that `ori $1, $2, 65535` reads and writes.
ori_uses : uses_of (decode_of 0x3441ffff) ≡ uses (2 ∷ []) (1 ∷ [])
ori_uses = refl

-- Example: the registers that `andi $0, $31, 32768` reads and writes.
andi_to_zero_uses : uses_of (decode_of 0x33e08000) ≡ uses (31 ∷ []) ([])
andi_to_zero_uses = refl

-- Example: the registers that `xori $1, $2, 65535` reads and writes.
xori_uses : uses_of (decode_of 0x3841ffff) ≡ uses (2 ∷ []) (1 ∷ [])
xori_uses = refl

-- Example: the registers that `lui $1, 65535` reads and writes.
lui_uses : uses_of (decode_of 0x3c01ffff) ≡ uses ([]) (1 ∷ [])
lui_uses = refl

-- Example: the registers that `lw $8, 4($29)` reads and writes.
lw_uses : uses_of (decode_of 0x8fa80004) ≡ uses (29 ∷ []) (8 ∷ [])
lw_uses = refl

-- Example: the registers that `sw $8, -4($29)` reads and writes.
sw_uses : uses_of (decode_of 0xafa8fffc) ≡ uses (8 ∷ 29 ∷ []) ([])
sw_uses = refl

-- Example: the registers that `lbu $8, 5($29)` reads and writes.
lbu_uses : uses_of (decode_of 0x93a80005) ≡ uses (29 ∷ []) (8 ∷ [])
lbu_uses = refl

-- Example: the registers that `sb $8, -3($29)` reads and writes.
sb_uses : uses_of (decode_of 0xa3a8fffd) ≡ uses (8 ∷ 29 ∷ []) ([])
sb_uses = refl

-- Example: the registers that `beq $1, $31` reads and writes.
beq_uses : uses_of (decode_of 0x103f8000) ≡ uses (1 ∷ 31 ∷ []) ([])
beq_uses = refl

-- Example: the registers that `bne $1, $31` reads and writes.
bne_uses : uses_of (decode_of 0x143f8000) ≡ uses (1 ∷ 31 ∷ []) ([])
bne_uses = refl

-- Example: the registers that `blez $1` reads and writes.
blez_uses : uses_of (decode_of 0x18208000) ≡ uses (1 ∷ []) ([])
blez_uses = refl

-- Example: the registers that `bgtz $1` reads and writes.
bgtz_uses : uses_of (decode_of 0x1c208000) ≡ uses (1 ∷ []) ([])
bgtz_uses = refl

-- Example: the registers that `bltz $1` reads and writes.
bltz_uses : uses_of (decode_of 0x04208000) ≡ uses (1 ∷ []) ([])
bltz_uses = refl

-- Example: the registers that `bgez $1` reads and writes.
bgez_uses : uses_of (decode_of 0x04218000) ≡ uses (1 ∷ []) ([])
bgez_uses = refl

-- Example: the registers that `j` reads and writes.
j_uses : uses_of (decode_of 0x08100000) ≡ uses ([]) ([])
j_uses = refl

-- Example: the registers that `jal` reads and writes.
jal_uses : uses_of (decode_of 0x0c100000) ≡ uses ([]) (31 ∷ [])
jal_uses = refl

-- Example: the registers that `sll $1, $31, 16` reads and writes.
sll_uses : uses_of (decode_of 0x001f0c00) ≡ uses (31 ∷ []) (1 ∷ [])
sll_uses = refl

-- Example: the registers that `srl $1, $31, 16` reads and writes.
srl_uses : uses_of (decode_of 0x001f0c02) ≡ uses (31 ∷ []) (1 ∷ [])
srl_uses = refl

-- Example: the registers that `sra $1, $31, 16` reads and writes.
sra_uses : uses_of (decode_of 0x001f0c03) ≡ uses (31 ∷ []) (1 ∷ [])
sra_uses = refl

-- Example: the registers that `sllv $31, $1, $2` reads and writes.
sllv_uses : uses_of (decode_of 0x0041f804) ≡ uses (1 ∷ 2 ∷ []) (31 ∷ [])
sllv_uses = refl

-- Example: the registers that `srlv $31, $1, $2` reads and writes.
srlv_uses : uses_of (decode_of 0x0041f806) ≡ uses (1 ∷ 2 ∷ []) (31 ∷ [])
srlv_uses = refl

-- Example: the registers that `srav $31, $1, $2` reads and writes.
srav_uses : uses_of (decode_of 0x0041f807) ≡ uses (1 ∷ 2 ∷ []) (31 ∷ [])
srav_uses = refl

-- Example: the registers that `jr $31` reads and writes.
jr_uses : uses_of (decode_of 0x03e00008) ≡ uses (31 ∷ []) ([])
jr_uses = refl

-- Example: the registers that `jalr $31, $25` reads and writes.
jalr_uses : uses_of (decode_of 0x0320f809) ≡ uses (25 ∷ []) (31 ∷ [])
jalr_uses = refl

-- Example: the registers that `jalr $0, $1` reads and writes.
jalr_to_zero_uses : uses_of (decode_of 0x00200009) ≡ uses (1 ∷ []) ([])
jalr_to_zero_uses = refl

-- Example: the registers that `syscall` reads and writes.
syscall_uses : uses_of (decode_of 0x03ffffcc) ≡ uses (2 ∷ 4 ∷ 5 ∷ []) (2 ∷ 3 ∷ [])
syscall_uses = refl

-- Example: the registers that `break` reads and writes.
break_uses : uses_of (decode_of 0x03ffffcd) ≡ uses ([]) ([])
break_uses = refl

-- Example: the registers that `mfhi $16` reads and writes.
mfhi_uses : uses_of (decode_of 0x00008010) ≡ uses ([]) (16 ∷ [])
mfhi_uses = refl

-- Example: the registers that `mflo $0` reads and writes.
mflo_uses : uses_of (decode_of 0x00000012) ≡ uses ([]) ([])
mflo_uses = refl

-- Example: the registers that `mult $1, $31` reads and writes.
mult_uses : uses_of (decode_of 0x003f0018) ≡ uses (1 ∷ 31 ∷ []) ([])
mult_uses = refl

-- Example: the registers that `div $1, $31` reads and writes.
div_uses : uses_of (decode_of 0x003f001a) ≡ uses (1 ∷ 31 ∷ []) ([])
div_uses = refl

-- Example: the registers that `addu $31, $1, $2` reads and writes.
addu_uses : uses_of (decode_of 0x0022f821) ≡ uses (1 ∷ 2 ∷ []) (31 ∷ [])
addu_uses = refl

-- Example: the registers that `addu $0, $0, $0` reads and writes.
addu_of_zero_uses : uses_of (decode_of 0x00000021) ≡ uses (0 ∷ []) ([])
addu_of_zero_uses = refl

-- Example: the registers that `subu $31, $1, $2` reads and writes.
subu_uses : uses_of (decode_of 0x0022f823) ≡ uses (1 ∷ 2 ∷ []) (31 ∷ [])
subu_uses = refl

-- Example: the registers that `and $31, $1, $2` reads and writes.
and_uses : uses_of (decode_of 0x0022f824) ≡ uses (1 ∷ 2 ∷ []) (31 ∷ [])
and_uses = refl

-- Example: the registers that `or $31, $1, $2` reads and writes.
or_uses : uses_of (decode_of 0x0022f825) ≡ uses (1 ∷ 2 ∷ []) (31 ∷ [])
or_uses = refl

-- Example: the registers that `xor $31, $1, $2` reads and writes.
xor_uses : uses_of (decode_of 0x0022f826) ≡ uses (1 ∷ 2 ∷ []) (31 ∷ [])
xor_uses = refl

-- Example: the registers that `nor $31, $1, $2` reads and writes.
nor_uses : uses_of (decode_of 0x0022f827) ≡ uses (1 ∷ 2 ∷ []) (31 ∷ [])
nor_uses = refl

-- Example: the registers that `slt $31, $1, $2` reads and writes.
slt_uses : uses_of (decode_of 0x0022f82a) ≡ uses (1 ∷ 2 ∷ []) (31 ∷ [])
slt_uses = refl

-- Example: the registers that `sltu $31, $1, $2` reads and writes.
sltu_uses : uses_of (decode_of 0x0022f82b) ≡ uses (1 ∷ 2 ∷ []) (31 ∷ [])
sltu_uses = refl
