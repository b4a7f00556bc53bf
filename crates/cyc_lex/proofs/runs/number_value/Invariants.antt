use Rattle.std.proofs.Common.{◌≡◌, ◌≤◌, take}
use Rattle.cyc_syntax.specs.Spelling.{number_in}
use Rattle.cyc_lex.proofs.runs.number_value.Given as goal

abbrev pub invariant-loop-digit : goal.invariant-loop-digit
invariant-loop-digit l = record { so_far : l.value ≡ number_in l.base (take l.digit-index l.digits); small : l.value ≤ 2147483647 }
