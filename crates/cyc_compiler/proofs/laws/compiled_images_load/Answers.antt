use Rattle.cyc_compiler.proofs.laws.compiled_images_load.Goals as goal

pub returns : goal.returns
returns c = λ p file is. (is.image, is.read, is.loads)
