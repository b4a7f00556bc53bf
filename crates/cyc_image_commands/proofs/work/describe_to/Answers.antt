use Rattle.std.proofs.Common.{rules}
use Rattle.cyc_elf.specs.Reading.{reading}
use Rattle.cyc_image_commands.proofs.Describing.{part_reported}
use Rattle.cyc_image_commands.proofs.work.describe_to.Goals as goal

pub returns : goal.returns
returns g c =
    part_reported (reading c.args.image.now) c.args.image.now c.in-Ok.outline c.as_bytes.result.now _ _ c.in-Ok.ensures.exact c.in-Ok.ensures.stored
    (search rules) c.in-Err-put_all.ensures.bytes
