-- On the uniform machine, the limit of calls is the same at each instruction. A program without `Enter` has the same steps on the
-- uniform machine and on the plain machine.
use Rattle.std.proofs.Common.{◌≡◌, ℕ, true, List, [], ◌∷◌, Option, Some, None, refl, sym, ap, subst, ◌∙◌, inl, inr}
use Rattle.std.specs.Prelude.{◌⊎◌}
use Rattle.cyc_words.specs.Ending.{Full}
use Rattle.cyc_words.specs.Simulation.{Machine}
use Rattle.cyc_words.specs.inside.Following.{IsLawful, Path, IsUnderWay, IsOver, Follows}
use Rattle.cyc_store.specs.Services as services
use Rattle.cyc_store.specs.Services.{Call, refusal}
use Rattle.cyc_plain.specs.declared.instruction.Instruction.{Instruction}
use Rattle.cyc_plain.specs.declared.instruction.Instruction.TheVariants as instructions
use Rattle.cyc_plain.specs.declared.instruction.Request.{Request}
use Rattle.cyc_plain.specs.inside.Requests.{destination_of}
use Rattle.cyc_plain.specs.inside.Program.{Program, CodePlace}
use Rattle.cyc_plain.specs.inside.State.{Configuration, State, Running, Ended, Stuck, place_of}
use Rattle.cyc_plain.specs.inside.Step.{Choice, IsAllowed, IsServed, MayServe, call_in, call_of, served_to, asks, performed, executed, is_within, instruction_at, step, limit_of, limit_at, limited, Step, machine}
use Rattle.cyc_plain.specs.inside.Uniform.{AsksNoRoom, UniformStep, uniform_machine}
use Rattle.cyc_plain.proofs.RunLaws.{limited-within, over_within, lawful}

-- On the machine whose limit of calls never changes, each step has the effect of the instruction that comes next. This effect must
-- be within the limits for every choice that the step may make.
pub uniform_performs : (program : Program) (pages calls : ℕ) (c : Configuration) (i : Instruction) (new : State)
    → instruction_at program (place_of (Running c)) ≡ Some i
    → ((choice : Choice) → is_within pages calls (performed program choice c i) ≡ true)
    → UniformStep program pages calls (Running c) new
    → (choice : Choice) × IsAllowed program (Running c) choice × (new ≡ performed program choice c i)
uniform_performs program pages calls c i new at within (choice, allowed, is) =
    let does : step program choice (Running c) ≡ performed program choice c i = ap (executed program choice c) at in
    let keeps : is_within pages calls (step program choice (Running c)) ≡ true = ap (is_within pages calls) does ∙ within choice in
    (choice, allowed, is ∙ limited-within pages calls (Running c) (step program choice (Running c)) keeps ∙ does)

-- The module concerns requests on the machine whose limit of calls never changes. A step serves the request by a handle, an address and
-- memory contents that the store allows. If the store lacks memory for the request's result, the step ends the run.
module _ (program : Program) (pages calls : ℕ) (c : Configuration) (request : Request) (new : State)
    (at : instruction_at program (place_of (Running c)) ≡ Some (instructions.Ask request)) (stepped : UniformStep program pages calls (Running c) new) where
  abbrev call : Call
  call = call_in c.active.slots request

  pub uniform_serves : refusal c.store (call_in c.active.slots request) ≡ None
      → ((choice : services.Choice) → IsServed c.store (call_in c.active.slots request) choice → is_within pages calls (Running (served_to choice c (destination_of request) (call_in c.active.slots request))) ≡ true)
      → (choice : services.Choice) × IsServed c.store (call_in c.active.slots request) choice × (new ≡ Running (served_to choice c (destination_of request) (call_in c.active.slots request)))
  uniform_serves free within =
      let choice : Choice = stepped.0 in
      let serves : IsServed c.store call choice.serving =
      subst (λ (o : Option Call). MayServe choice.serving o (Running c)) (ap (call_of c.active.slots) at) stepped.1.serves free in
      let does : step program choice (Running c) ≡ Running (served_to choice.serving c (destination_of request) call) =
      ap (executed program choice c) at ∙ ap (asks choice.serving c (destination_of request) call) free in
      let keeps : is_within pages calls (step program choice (Running c)) ≡ true = ap (is_within pages calls) does ∙ within choice.serving serves in
      (choice.serving, serves, stepped.2 ∙ limited-within pages calls (Running c) (step program choice (Running c)) keeps ∙ does)

  pub uniform_full : refusal c.store (call_in c.active.slots request) ≡ Some services.Full → new ≡ Ended Full c.output c.input
  uniform_full full =
      let choice : Choice = stepped.0 in
      let does : step program choice (Running c) ≡ Ended Full c.output c.input =
      ap (executed program choice c) at ∙ ap (asks choice.serving c (destination_of request) call) full in
      let keeps : is_within pages calls (step program choice (Running c)) ≡ true = ap (is_within pages calls) does ∙ over_within pages calls Full c.output c.input in
      stepped.2 ∙ limited-within pages calls (Running c) (step program choice (Running c)) keeps ∙ does

module _ (program : Program) (none : AsksNoRoom program) (pages calls : ℕ) where
  limit_same : (s : State) → limit_at program s calls ≡ calls
  limit_same (Ended ending output input) = refl
  limit_same (Stuck output input) = refl
  limit_same (Running c) = go (instruction_at program (place_of (Running c))) refl
    where
      go : (o : Option Instruction) → instruction_at program (place_of (Running c)) ≡ o → limit_of o calls ≡ calls
      go None at = refl
      go (Some (instructions.Enter function)) at = absurd (none (place_of (Running c)) function at)
      go (Some i) at = refl

  pub to_uniform : (old new : State) → Step program pages calls old new → UniformStep program pages calls old new
  to_uniform old new (choice, allowed, is) = (choice, allowed, is ∙ ap (λ (n : ℕ). limited pages n old (step program choice old)) (limit_same old))

  pub of_uniform : (old new : State) → UniformStep program pages calls old new → Step program pages calls old new
  of_uniform old new (choice, allowed, is) = (choice, allowed, is ∙ sym (ap (λ (n : ℕ). limited pages n old (step program choice old)) (limit_same old)))

  pub uniform_lawful : IsLawful (uniform_machine program pages calls)
  uniform_lawful = record {
    grows = λ old new stepped. (lawful program pages calls).grows old new (of_uniform old new stepped);
    stays = λ old new ending ended stepped. (lawful program pages calls).stays old new ending ended (of_uniform old new stepped);
    rests = λ s ending ended. to_uniform s s ((lawful program pages calls).rests s ending ended);
  }

  path_uniform : (places : List CodePlace) (old new : State) → Path (machine program pages calls) places old new → Path (uniform_machine program pages calls) places old new
  path_uniform [] old new path = path
  path_uniform (p ∷ places) old new (mid, at, stepped, rest) = (mid, at, to_uniform old mid stepped, path_uniform places mid new rest)

  module _ (above : Machine) (before : List CodePlace) (own : above.Place → List CodePlace) (start : above.State) (from : State) where
    way : (met : List CodePlace) (now : State) → IsUnderWay above (uniform_machine program pages calls) before own start met now ⊎ IsOver above (uniform_machine program pages calls) start now
        → IsUnderWay above (machine program pages calls) before own start met now ⊎ IsOver above (machine program pages calls) start now
    way met now (inl u) = inl (record { places = u.places; state = u.state; path = u.path; running = u.running; goes_on = u.goes_on; ahead = u.ahead; following = u.following; cost = u.cost })
    way met now (inr o) = inr (record { places = o.places; state = o.state; path = o.path; ending = o.ending; ended = o.ended; over = o.over; seen = o.seen })

    -- The uniform machine has the same limit of active calls at each instruction. A simulation proved for the
    -- uniform machine also holds for the plain machine.
    pub follows_uniform : Follows above (uniform_machine program pages calls) before own start from → Follows above (machine program pages calls) before own start from
    follows_uniform f = record { runs = λ met now path. way met now (f.runs met now (path_uniform met from now path)) }
