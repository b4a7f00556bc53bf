use Rattle.std.proofs.Common.{ℕ, ◌+◌, [], ◌∷◌, ◌++◌, ◌∙◌, sym, ap}
use Rattle.std.proofs.lemmas.Result.{on_ok_weaker}
use Rattle.cyc_types.specs.TypedTreeView.{view_expression}
use Rattle.cyc_plain.specs.declared.instruction.Instruction.{Instruction}
use Rattle.cyc_lower.specs.inside.Emission.{view_starts}
use Rattle.cyc_lower.proofs.emission.Loops.{entered_first}
use Rattle.cyc_lower.proofs.emitter.Emitter.begin_loop.Goals as goal

pub returns : goal.returns
returns c =
    let made = c.lower_choice.new.self.code.items in
    on_ok_weaker c.emit-2.result
    (λ jumps. entered_first (view_starts c.args.starts.now) (view_expression c.args.condition.now) c.args.free c.in_ok-condition.condition c.args.self.now.code.items made c.emit-2.new.self.code.items (c.place-body.result + 2)
    (sym c.is_guard.ensures ∙ c.if-not-is_guard.false) c.in_ok-condition.ensures.0 c.in_ok-condition.ensures.1 (ap (λ (n : ℕ). n + 2) c.place-body.ensures)
    (jumps ∙ ap (λ (i : Instruction). made ++ i ∷ []) c.holding_jump.ensures))
    c.emit-2.ensures
