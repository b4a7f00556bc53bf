use Rattle.cyc_compiler.proofs.KeepingUp.{keeps_up_by_tokens}
use Rattle.cyc_compiler.proofs.laws.compiled_images_keep_up.Goals as goal

pub returns : goal.returns
returns c = keeps_up_by_tokens
