use Rattle.std.proofs.Common.{◌∙◌, ℕ, ◌++◌, ◌∷◌, [], List, Option, length, replicate, append_assoc, ap}
use Rattle.cyc_plain.specs.declared.instruction.Instruction.{Instruction}
use Rattle.cyc_inline.specs.declared.origin.Origin.{Origin}
use Rattle.cyc_inline.specs.inside.Emission.{all_hoisted_by, duplicate_by, duplicate_in}
use Rattle.cyc_inline.proofs.EmissionLoops.{front_origins, then_ok}
use Rattle.cyc_inline.proofs.emission.Emission.push_itself.Goals as goal

pub returns-clause-origins : goal.returns-clause-origins
returns-clause-origins c =
    let caller = c.args.caller.now in
    let all_hoisted : List Instruction = all_hoisted_by caller.plain.now caller.number caller.choice.now c.args.index c.args.instruction in
    let duplicate : List Instruction = duplicate_in c.args.instruction (duplicate_by caller.plain.now caller.number caller.choice.now c.args.index c.args.instruction) in
    let first : List Origin = replicate (length all_hoisted) c.args.origin in
    let second : List Origin = replicate (length duplicate) c.args.origin in
    let before = c.args.self.now.origins.items in
    let itself : List Origin = c.args.origin ∷ [] in
    then_ok c.push.result c.push.ensures.origins (λ is.
    is
    ∙ ap (λ (os : List Origin). os ++ itself)
    (c.in_ok-push_duplicate.ensures.origins
    ∙ ap (λ (o : Option ℕ). c.push_wanted.new.self.origins.items ++ replicate (length (duplicate_in c.args.instruction o)) c.args.origin) c.duplicate_at-further.ensures
    ∙ ap (λ (os : List Origin). os ++ second) c.in_ok-push_wanted.ensures.origins)
    ∙ append_assoc (before ++ first) second itself
    ∙ append_assoc before first (second ++ itself)
    ∙ ap (λ (os : List Origin). before ++ os) (front_origins c.args.origin all_hoisted duplicate))
