-- The format `{:02x}` writes the two hexadecimal digits of a byte.
use Rattle.std.proofs.Common.{arith, ◌<◌, false}
use Rattle.std.proofs.lemmas.Fmt.{hex_byte}
use Rattle.std.proofs.Output.{has_written_of_eq}
use Rattle.cyc_image_commands.proofs.info.write_hex.Goals as goal

pub returns : goal.returns
returns g c = λ plain ok.
    let small : c.args.byte < 256 = omega arith in
    let written = rw (c.laid_out.ensures, c.in_radix.ensures) at c.write.ensures.writes in
    has_written_of_eq _ _ _ _ _ (hex_byte false c.args.byte small) (written plain ok)
