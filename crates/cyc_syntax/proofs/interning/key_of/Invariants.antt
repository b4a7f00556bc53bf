use Rattle.std.proofs.Common.{◌≡◌, take}
use Rattle.cyc_syntax.specs.inside.NameIndex.{key_of}
use Rattle.cyc_syntax.proofs.interning.key_of.Given as goal

abbrev pub invariant-loop-byte : goal.invariant-loop-byte
invariant-loop-byte l = l.key ≡ key_of (take l.byte-index l.text)
