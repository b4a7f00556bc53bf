-- Laws of registers.
use Rattle.std.proofs.Common.{◌≡◌, ◌≢◌, ℕ, ◌<◌, length, arith}
use Rattle.std.proofs.lemmas.Grind.{common_steps}
use Rattle.cyc_machine_model.specs.State.{Core, register, with_register}

pub register-with_register_same : (core : Core) (number value : ℕ) → number ≢ 0 → number < length core.registers → register (with_register core number value) number ≡ value
register-with_register_same core number value nonzero inside = grind (arith, common_steps)

pub register-with_register_other : (core : Core) (number other value : ℕ) → other ≢ number → register (with_register core number value) other ≡ register core other
register-with_register_other core number other value apart = grind (arith, common_steps)

pub length-with_register : (core : Core) (number value : ℕ) → length (with_register core number value).registers ≡ length core.registers
length-with_register core number value = grind (arith, common_steps)
