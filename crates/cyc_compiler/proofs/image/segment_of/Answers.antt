use Rattle.std.proofs.Common.{length, ap, arith}
use Rattle.cyc_compiler.proofs.ProgramImages.{length-bytes_of_words}
use Rattle.cyc_compiler.proofs.image.segment_of.Goals as goal

pub overflow_cast-size : goal.overflow_cast-size
overflow_cast-size c =
    omega (arith, c.len-size.ensures, ap length c.in_ok-bytes.ensures.bytes, length-bytes_of_words c.args.words.now, c.requires)
