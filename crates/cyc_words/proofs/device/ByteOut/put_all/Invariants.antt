-- Invariant of the loop: the device has taken the bytes before the index, and it has not failed.
use Rattle.std.proofs.Common.{◌≡◌, take}
use Rattle.std.specs.Io.KnownBytes.{Appends}
use Rattle.cyc_words.proofs.device.ByteOut.put_all.Given as goal

abbrev pub invariant-loop-byte : goal.invariant-loop-byte
invariant-loop-byte g l = record {
  taken : Appends (g.Self.ByteOut.written l.initial.self) (g.Self.ByteOut.written l.self) (take l.byte-index l.text);
  works : g.Self.ByteOut.failed l.self ≡ g.Self.ByteOut.failed l.initial.self;
}
