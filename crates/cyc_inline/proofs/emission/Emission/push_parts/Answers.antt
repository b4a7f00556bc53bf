use Rattle.std.proofs.Common.{ℕ, ◌++◌, List}
use Rattle.cyc_plain.specs.declared.instruction.Instruction.{Instruction}
use Rattle.cyc_inline.specs.inside.Emission.{front_by, opened_code, opened_origins}
use Rattle.cyc_inline.specs.inside.Sites.{place_in}
use Rattle.cyc_inline.proofs.EmissionLoops.{opened_next, opened_origins_next}
use Rattle.cyc_inline.proofs.emission.Emission.push_parts.Goals as goal

pub loop-index-preserved : goal.loop-index-preserved
loop-index-preserved c =
    let caller = c.args.caller.now in
    let program = caller.plain.now in
    let chosen = caller.choice.now.chosen.items in
    let front_at : ℕ → Instruction → List Instruction = front_by program caller.number caller.choice.now in
    let place = place_in caller.places.now in
    let rest = place_in caller.rests.now in
    let in_line = c.args.in_line in
    let code = c.function-function.result.now.code.items in
    let i = c.instruction_at-instruction.result in
    record {
      code = opened_next program caller.number chosen front_at place rest in_line code c.loop-index.index i
          (c.args.self.now.code.items ++ opened_code program caller.number chosen front_at place rest in_line 0 code) c.loop-index.self.code.items c.push_part.new.self.code.items
          c.instruction_at-instruction.ensures c.in_ok-push_part.ensures.code c.loop-index.invariant.code;
      origins = opened_origins_next program caller.number chosen front_at in_line code c.loop-index.index i
          (c.args.self.now.origins.items ++ opened_origins program caller.number chosen front_at in_line 0 code) c.loop-index.self.origins.items c.push_part.new.self.origins.items
          c.instruction_at-instruction.ensures c.in_ok-push_part.ensures.origins c.loop-index.invariant.origins;
    }
