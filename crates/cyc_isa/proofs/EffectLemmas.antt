-- Lemmas: the machine's operations on words give words again, and branch and jump targets are those computed with integers, modulo 2^32.
use Rattle.std.proofs.Common.{◌≡◌, ℕ, ◌*◌, ◌/◌, ◌%◌, ◌^◌, ◌<◌, ℤ, pos, negsuc, ◌+ℤ◌, ◌*ℤ◌, FitsSigned, suc, subst, sym, arith}
use Rattle.std.specs.Int.{w32, w64, cast_unsigned}
use Rattle.std.proofs.lemmas.Nat.{mul-le}
use Rattle.std.proofs.Math.IntN.{pos-*ℤ-pos, pos-*ℤ-negsuc, negsuc-*ℤ-pos, negsuc-*ℤ-negsuc}
use Rattle.std.proofs.Math.Nat.{mod-eq_of_lt}
use Rattle.cyc_words.specs.Word.{IsWord, IsHalf, unsigned, signed, signed_half, sign_extended, mul_of}
use Rattle.cyc_words.proofs.WordLemmas.{IsWord-add_of, IsWord-sub_of, IsWord-shl_of, IsWord-shr_of, IsWord-sar_of, IsWord-div_of, IsWord-rem_of, IsWord-slt_of, IsWord-sltu_of, IsWord-bit_and, IsWord-bit_or, IsWord-bit_xor, unsigned-add, unsigned-mul, FitsSigned-signed}
use Rattle.cyc_words.proofs.Integers.{negated_below_wide_word}
use Rattle.cyc_isa.specs.Effect.{immediate_result, load_upper_result, arithmetic_result, shift_result, product_of, high_result, low_result, memory_address, slot_address, branch_target, jump_target}
use Rattle.cyc_isa.specs.declared.instr.ImmediateOp.{ImmediateOp}
use Rattle.cyc_isa.specs.declared.instr.ShiftOp.{ShiftOp}
use Rattle.cyc_isa.specs.declared.instr.ShiftOp.TheVariants.{Left, RightLogical, RightArithmetic}
use Rattle.cyc_isa.specs.declared.instr.MultiplyDivideOp.{MultiplyDivideOp}
use Rattle.cyc_isa.specs.declared.instr.MultiplyDivideOp.TheVariants.{Multiply, Divide}
use Rattle.cyc_isa.specs.declared.instr.ArithmeticOp.{ArithmeticOp}

pub IsWord-immediate_result : (op : ImmediateOp) (source half : ℕ) → IsWord source → IsHalf half → IsWord (immediate_result op source half)
IsWord-immediate_result ImmediateOp.AddUnsigned s h w f = IsWord-add_of s (sign_extended h)
IsWord-immediate_result ImmediateOp.SetLess s h w f = IsWord-slt_of s (sign_extended h)
IsWord-immediate_result ImmediateOp.SetLessUnsigned s h w f = IsWord-sltu_of s (sign_extended h)
IsWord-immediate_result ImmediateOp.And s h w f = IsWord-bit_and s h w
IsWord-immediate_result ImmediateOp.Or s h w f = IsWord-bit_or s h w (omega arith)
IsWord-immediate_result ImmediateOp.Xor s h w f = IsWord-bit_xor s h w (omega arith)

pub IsWord-load_upper_result : (half : ℕ) → IsHalf half → IsWord (load_upper_result half)
IsWord-load_upper_result h f = omega arith

pub IsWord-arithmetic_result : (op : ArithmeticOp) (left right : ℕ) → IsWord left → IsWord right → IsWord (arithmetic_result op left right)
IsWord-arithmetic_result ArithmeticOp.AddUnsigned a b v w = IsWord-add_of a b
IsWord-arithmetic_result ArithmeticOp.SubtractUnsigned a b v w = IsWord-sub_of a b
IsWord-arithmetic_result ArithmeticOp.And a b v w = IsWord-bit_and a b v
IsWord-arithmetic_result ArithmeticOp.Or a b v w = IsWord-bit_or a b v w
IsWord-arithmetic_result ArithmeticOp.Xor a b v w = IsWord-bit_xor a b v w
IsWord-arithmetic_result ArithmeticOp.Nor a b v w = omega arith
IsWord-arithmetic_result ArithmeticOp.SetLess a b v w = IsWord-slt_of a b
IsWord-arithmetic_result ArithmeticOp.SetLessUnsigned a b v w = IsWord-sltu_of a b

pub IsWord-shift_result : (op : ShiftOp) (source by : ℕ) → IsWord source → IsWord (shift_result op source by)
IsWord-shift_result Left a k w = IsWord-shl_of a k
IsWord-shift_result RightLogical a k w = IsWord-shr_of a k w
IsWord-shift_result RightArithmetic a k w = IsWord-sar_of a k

pub IsWord-low_result : (op : MultiplyDivideOp) (left right : ℕ) → IsWord (low_result op left right)
IsWord-low_result Multiply a b = omega arith
IsWord-low_result Divide a b = IsWord-div_of a b

pub IsWord-memory_address : (base offset : ℕ) → IsWord (memory_address base offset)
IsWord-memory_address b o = IsWord-add_of b (sign_extended o)

pub IsWord-branch_target : (addr offset : ℕ) → IsWord (branch_target addr offset)
IsWord-branch_target a o = IsWord-add_of (slot_address a) (mul_of 4 (sign_extended o))

pub IsWord-jump_target : (addr index : ℕ) → index < 2 ^ 26 → IsWord (jump_target addr index)
IsWord-jump_target a x f = omega arith

-- The target of a branch is the delay slot's address plus four times the signed offset, modulo 2^32.
pub branch_target-unsigned : (addr offset : ℕ) → IsWord addr → branch_target addr offset ≡ unsigned ((pos addr +ℤ pos 4) +ℤ (pos 4 *ℤ signed_half offset))
unfolding sign_extended
branch_target-unsigned a o w =
    rw (unsigned-add (pos a +ℤ pos 4) (pos 4 *ℤ signed_half o), unsigned-add (pos a) (pos 4), unsigned-mul (pos 4) (signed_half o), mod-eq_of_lt w)

-- The target of a jump has the upper four bits of the delay slot's address, and below them the index times four.
pub jump_target-upper : (addr index : ℕ) → index < 2 ^ 26 → jump_target addr index / 2 ^ 28 ≡ slot_address addr / 2 ^ 28
jump_target-upper a x f = omega arith

pub jump_target-lower : (addr index : ℕ) → index < 2 ^ 26 → jump_target addr index % 2 ^ 28 ≡ index * 4
jump_target-lower a x f = omega arith

-- ---- the signed product

-- Says that a number fits 64 bits as two's complement.
abbrev FitsTwoWords : ℤ → Type 0
FitsTwoWords z = cast_unsigned w64 z < 2 ^ 64

product_fits : (x y : ℤ) → FitsSigned w32 x → FitsSigned w32 y → FitsTwoWords (x *ℤ y)
product_fits (pos m) (pos n) f g =
    subst (λ z. FitsTwoWords z) (sym (pos-*ℤ-pos m n))
    (omega (arith, mul-le m n (2 ^ 31) (2 ^ 31) (omega (arith, f.sfits)) (omega (arith, g.sfits))))
product_fits (pos m) (negsuc n) f g = subst (λ z. FitsTwoWords z) (sym (pos-*ℤ-negsuc m n)) (negated_below_wide_word (m * suc n))
product_fits (negsuc m) (pos n) f g = subst (λ z. FitsTwoWords z) (sym (negsuc-*ℤ-pos m n)) (negated_below_wide_word (suc m * n))
product_fits (negsuc m) (negsuc n) f g =
    subst (λ z. FitsTwoWords z) (sym (negsuc-*ℤ-negsuc m n))
    (omega (arith, mul-le (suc m) (suc n) (2 ^ 31) (2 ^ 31) (omega (arith, f.sfits)) (omega (arith, g.sfits))))

pub product_of-fits : (left right : ℕ) → IsWord left → IsWord right → product_of left right < 2 ^ 64
product_of-fits a b v w = product_fits (signed a) (signed b) (FitsSigned-signed a v) (FitsSigned-signed b w)

pub IsWord-high_result : (op : MultiplyDivideOp) (left right : ℕ) → IsWord left → IsWord right → IsWord (high_result op left right)
IsWord-high_result Multiply a b v w = omega (arith, product_of-fits a b v w)
IsWord-high_result Divide a b v w = IsWord-rem_of a b
