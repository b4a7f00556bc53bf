-- If an instruction word is composed from numbers for the fields of its format, its fields contain these numbers.
use Rattle.std.proofs.Common.{◌≡◌, ℕ, ◌+◌, ◌*◌, ◌^◌, ◌<◌, [], ◌∷◌, arith}
use Rattle.cyc_isa.specs.Field.{Opcode, Rs, Rt, Rd, Sa, Function, Half, Target, Trap, HasFields}

module _ (w op rs rt half : ℕ) (op_fits : op < 64) (rs_fits : rs < 32) (rt_fits : rt < 32) (half_fits : half < 2 ^ 16)
    (is : w ≡ op * 2 ^ 26 + rs * 2 ^ 21 + rt * 2 ^ 16 + half) where
  pub half_word_fields : HasFields ((Opcode, op) ∷ (Rs, rs) ∷ (Rt, rt) ∷ (Half, half) ∷ []) w
  half_word_fields = (omega arith, (omega arith, (omega arith, (omega arith, tt))))

module _ (w op target : ℕ) (op_fits : op < 64) (target_fits : target < 2 ^ 26) (is : w ≡ op * 2 ^ 26 + target) where
  pub target_word_fields : HasFields ((Opcode, op) ∷ (Target, target) ∷ []) w
  target_word_fields = (omega arith, (omega arith, tt))

module _ (w trap function : ℕ) (trap_fits : trap < 2 ^ 20) (function_fits : function < 64)
    (is : w ≡ trap * 2 ^ 6 + function) where
  pub trap_word_fields : HasFields ((Opcode, 0) ∷ (Trap, trap) ∷ (Function, function) ∷ []) w
  trap_word_fields = (omega arith, (omega arith, (omega arith, tt)))

module _ (w rs rt rd sa function : ℕ) (rs_fits : rs < 32) (rt_fits : rt < 32) (rd_fits : rd < 32) (sa_fits : sa < 32) (function_fits : function < 64)
    (is : w ≡ rs * 2 ^ 21 + rt * 2 ^ 16 + rd * 2 ^ 11 + sa * 2 ^ 6 + function) where
  pub function_word_fields : HasFields ((Opcode, 0) ∷ (Rs, rs) ∷ (Rt, rt) ∷ (Rd, rd) ∷ (Sa, sa) ∷ (Function, function) ∷ []) w
  function_word_fields = (omega arith, (omega arith, (omega arith, (omega arith, (omega arith, (omega arith, tt))))))
