use Rattle.std.proofs.Common.{rules}
use Rattle.cyc_isa.specs.Encoding.{IsEncodable}
use Rattle.cyc_isa.proofs.RoundTrip.{decode_of-word_of}
use Rattle.cyc_isa.proofs.encoding.encode.Goals as goal

pub returns-clause-decodes : goal.returns-clause-decodes
returns-clause-decodes c =
    let fits : IsEncodable c.args.instr = search rules in
    rw c.word.ensures (decode_of-word_of c.args.instr fits)
