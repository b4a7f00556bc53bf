use Rattle.std.proofs.Common.{◌≡◌, ◌≤◌, take}
use Rattle.std.specs.Prelude.{sum_by}
use Rattle.cyc_plain.specs.inside.Program.{instruction_size}
use Rattle.cyc_inline.proofs.sizes.code_size.Given as goal

-- Invariant: the sum computed so far is the size, in words of machine code, of the instructions visited so far.
abbrev pub invariant-loop-instruction : goal.invariant-loop-instruction
invariant-loop-instruction l = record {
  value : l.size ≡ sum_by instruction_size (take l.instruction-index l.code);
  small : l.size ≤ l.most;
}
