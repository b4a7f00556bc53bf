-- Invariant of the loop: the device has taken the parts before the index completely, and it has not failed.
use Rattle.std.proofs.Common.{◌≡◌, take}
use Rattle.std.specs.Prelude.{flat_map}
use Rattle.std.specs.Io.KnownBytes.{Appends}
use Rattle.cyc_words.proofs.device.ByteOut.put_parts.Given as goal

abbrev pub invariant-loop-part : goal.invariant-loop-part
invariant-loop-part g l = record {
  taken : Appends (g.Self.ByteOut.written l.initial.self) (g.Self.ByteOut.written l.self)
      (flat_map (λ part. part.now) (take l.part-index l.parts));
  works : g.Self.ByteOut.failed l.self ≡ g.Self.ByteOut.failed l.initial.self;
}
