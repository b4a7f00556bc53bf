use Rattle.cyc_compiler.proofs.ProgramImages.{image_well_formed, image_fits}
use Rattle.cyc_compiler.proofs.image.write_program.Goals as goal

pub write_image-requires-clause-well_formed : goal.write_image-requires-clause-well_formed
write_image-requires-clause-well_formed c =
    rw c.in_ok-image.ensures.image
    (image_well_formed c.args.words.now c.args.globals.now c.args.note c.requires.some c.requires.fit c.requires.few c.in_ok-image.ensures.words c.in_ok-image.ensures.globals c.requires.allowed)

pub write_image-requires-clause-fits : goal.write_image-requires-clause-fits
write_image-requires-clause-fits c =
    rw c.in_ok-image.ensures.image
    (image_fits c.args.words.now c.args.globals.now c.args.note c.requires.some c.requires.fit c.requires.few c.in_ok-image.ensures.words c.in_ok-image.ensures.globals)
