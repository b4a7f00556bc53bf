-- A function's stack frame, as contracts describe it.
use Rattle.std.specs.Prelude.{ℕ, Bool, List}
use Rattle.cyc_registers.specs.declared.home.Home.{Home}

-- The first fields of a frame are the word of the return address, and a flag that is true if the return address is saved at the function's
-- entry. Then come the first word for saved registers, their number, the word of slot 0, and the number of parameters. The last fields are
-- the home (register or memory) of each slot, the instructions that need no machine code, and the instructions whose first line of assembly
-- code may fill delay slots.
pub record Frame : Type 0 where
  pub return_address : ℕ
  pub saves : Bool
  pub first_saved : ℕ
  pub saved : ℕ
  pub first_slot : ℕ
  pub parameters : ℕ
  pub homes : List Home
  pub idle : List Bool
  pub fills : List Bool
