use Rattle.std.proofs.Common.{◌≡◌, ◌≤◌, take}
use Rattle.std.specs.Prelude.{sum_by}
use Rattle.cyc_plain.specs.inside.Program.{size}
use Rattle.cyc_inline.proofs.sizes.program_size.Given as goal

-- Invariant: the sum computed so far is the size, in words of machine code, of the functions visited so far.
abbrev pub invariant-loop-number : goal.invariant-loop-number
invariant-loop-number l = record {
  value : l.size ≡ sum_by size (take l.number l.plain.functions);
  small : l.size ≤ l.most;
}
