-- Invariant of the loop: the characters read so far are written, and the remaining bytes are UTF-8.
use Rattle.std.proofs.Common.{◌≡◌, ℕ, List, ◌++◌, IsUtf8, chars, flat_map}
use Rattle.std.specs.Str.Iter.{chars_rest}
use Rattle.std.specs.Fmt.{HasWritten, IsPlainFormatter}
use Rattle.cyc_cli.specs.inside.Excerpt.{line_char}
use Rattle.cyc_cli.proofs.excerpt.write_lines.Given as goal

abbrev pub invariant-loop-c : goal.invariant-loop-c
invariant-loop-c g l = IsUtf8 (chars_rest l.c-iterator) × (IsPlainFormatter l.fn.f
    → (done : List ℕ) × HasWritten g.W.Write.write_str_gives l.fn.f done l.f
    × (done ++ flat_map line_char (chars (chars_rest l.c-iterator)) ≡ flat_map line_char (chars l.fn.text)))
