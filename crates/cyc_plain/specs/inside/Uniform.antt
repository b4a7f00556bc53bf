-- On the uniform machine, the limit of calls is the same at each instruction, so that `Enter` has no effect. A program without `Enter` has
-- the same steps on the uniform machine and on the plain machine. Passes that produce programs without `Enter` are proved on the uniform
-- machine.
use Rattle.std.specs.Prelude.{◌≡◌, ℕ, Some}
use Rattle.cyc_words.specs.Simulation.{Machine}
use Rattle.cyc_plain.specs.declared.instruction.Instruction.TheVariants as instructions
use Rattle.cyc_plain.specs.inside.Program.{Program, CodePlace}
use Rattle.cyc_plain.specs.inside.State.{State, seen_of, status_of, place_of}
use Rattle.cyc_plain.specs.inside.Step.{Choice, IsAllowed, instruction_at, limited, step}

-- `AsksNoRoom` says that a program contains no `Enter` instruction.
abbrev pub AsksNoRoom : Program → Type 0
AsksNoRoom program = (place : CodePlace) (function : ℕ) → instruction_at program place ≡ Some (instructions.Enter function) → ⊥

-- `UniformStep` says that a program may step from `old` to `new` if the limit of calls is the same at all instructions.
abbrev pub UniformStep : Program → (pages calls : ℕ) → State → State → Type 0
UniformStep program pages calls old new =
    (choice : Choice) × IsAllowed program old choice × (new ≡ limited pages calls old (step program choice old))

abbrev pub uniform_machine : Program → (pages calls : ℕ) → Machine
uniform_machine program pages calls = record {
  State = State;
  Place = CodePlace;
  Step = UniformStep program pages calls;
  place = place_of;
  seen = seen_of;
  status = status_of;
}
