-- If writing a byte of a text fails, then the device has taken exactly the bytes before it.
use Rattle.cyc_words.proofs.DeviceLemmas.{TakesText_byte_exit}
use Rattle.cyc_words.proofs.device.ByteOut.put_all.Goals as goal

pub returns-in_err-put-clause-bytes : goal.returns-in_err-put-clause-bytes
returns-in_err-put-clause-bytes g c =
    TakesText_byte_exit (g.Self.ByteOut.written c.args.self.now) (g.Self.ByteOut.written c.loop-byte.self)
    (g.Self.ByteOut.written c.put.new.self) c.args.text.now c.loop-byte.byte-index c.from_residual.result
    c.from_residual.ensures.0 c.loop-byte.invariant.taken c.in_err-put.ensures.bytes
