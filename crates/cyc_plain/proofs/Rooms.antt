-- `Enter` checks for stack space: it continues if a call of its function would be allowed, and otherwise ends the run.
use Rattle.std.proofs.Common.{◌≡◌, ℕ, suc, ◌-◌, ◌≤◌, ◌<◌, true, false, length, Some, ap, ◌∙◌, arith}
use Rattle.std.specs.Prelude.{nat_le, ◌&&◌}
use Rattle.std.proofs.lemmas.Bool.{le-leb, leb-true, and_from, and_parts, false_from_ne_true}
use Rattle.cyc_words.specs.Ending.{Full}
use Rattle.cyc_words.proofs.Numbers.{nat_le-one_less}
use Rattle.cyc_plain.specs.declared.instruction.Instruction.TheVariants as instructions
use Rattle.cyc_plain.specs.inside.Program.{Program}
use Rattle.cyc_plain.specs.inside.State.{Configuration, State, Running, Ended, place_of, demand, depth}
use Rattle.cyc_plain.specs.inside.Step.{Choice, advanced, performed, executed, instruction_at, is_within, limit_of, limited, Step}
use Rattle.cyc_plain.proofs.RunLaws.{limited-within, limited-full}

-- `Enter` checks for stack space for a call. The state after `Enter` is within the limit for `Enter` exactly if the state
-- after the checked call would be within the run's limit.
pub as_called : (program : Program) (pages calls : ℕ) (choice other : Choice) (c : Configuration) (function arguments count result : ℕ)
    → is_within pages (limit_of (Some (instructions.Enter function)) calls) (performed program choice c (instructions.Enter function))
    ≡ is_within pages calls (performed program other c (instructions.Call function arguments count result))
as_called program pages calls choice other c function arguments count result = ap (λ b. nat_le (demand (Running c)) pages && b) (nat_le-one_less (length c.frames) calls)

module _ (program : Program) (pages calls : ℕ) (c : Configuration) (function : ℕ) (new : State)
    (at : instruction_at program (place_of (Running c)) ≡ Some (instructions.Enter function)) (stepped : Step program pages calls (Running c) new) where
  does : new ≡ limited pages (calls - 1) (Running c) (Running (advanced c))
  does = stepped.2 ∙ ap (λ o. limited pages (limit_of o calls) (Running c) (executed program stepped.0 c o)) at

  pub enters : is_within pages calls (Running c) ≡ true → depth (Running c) < calls → new ≡ Running (advanced c)
  enters within room =
      let (paged, some) = and_parts (nat_le (demand (Running c)) pages) (nat_le (depth (Running c)) calls) within in
      let keeps : is_within pages (calls - 1) (Running (advanced c)) ≡ true = and_from _ _ paged (le-leb (depth (Running c)) (calls - 1) (omega (arith, room))) in
      does ∙ limited-within pages (calls - 1) (Running c) (Running (advanced c)) keeps

  past : calls ≤ depth (Running c) → is_within pages (calls - 1) (Running (advanced c)) ≡ true → ⊥
  past none within =
      let (paged, some) = and_parts (nat_le (demand (Running c)) pages) (nat_le (depth (Running c)) (calls - 1)) within in
      let room : suc (length c.frames) ≤ calls - 1 = leb-true (depth (Running c)) (calls - 1) some in
      omega (arith, room, none)

  pub enters_full : calls ≤ depth (Running c) → new ≡ Ended Full c.output c.input
  enters_full none =
      let over : is_within pages (calls - 1) (Running (advanced c)) ≡ false = false_from_ne_true _ (past none) in
      does ∙ limited-full pages (calls - 1) (Running c) (Running (advanced c)) over
