use Rattle.cyc_image.proofs.Limits.{limits_allowed, allowed_limits}
use Rattle.cyc_image.proofs.laws.note_limits_are_allowed.Goals as goal

pub returns : goal.returns
returns c = λ limits. (limits_allowed limits, allowed_limits limits)
