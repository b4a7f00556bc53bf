-- Each run of an inlined program is a run of the source program.
use Rattle.std.proofs.Common.{◌≡◌, ℕ, ◌+◌, ◌<◌, ◌≤◌, true, false, List, [], Some, refl, sym, ap, subst, ◌∙◌, inl, inr}
use Rattle.std.specs.Prelude.{◌⊎◌}
use Rattle.std.specs.List.{AllByRecursion}
use Rattle.cyc_words.specs.Simulation as simulation
use Rattle.cyc_words.specs.Simulation.{NeverFails}
use Rattle.cyc_words.specs.inside.Following.{Steps, IsStepped, Follows}
use Rattle.cyc_words.proofs.Lists.{slice_get_below}
use Rattle.cyc_words.proofs.Simulation.{running_ended, running_failed, simulates}
use Rattle.cyc_words.proofs.Members.{all_at, All_at}
use Rattle.cyc_store.specs.State as stores
use Rattle.cyc_store.specs.State.{StoreState, IsNew}
use Rattle.cyc_plain.specs.declared.instruction.Instruction.{Instruction}
use Rattle.cyc_plain.specs.declared.instruction.Instruction.TheVariants as instructions
use Rattle.cyc_plain.specs.inside.Program.{Program, routine_at}
use Rattle.cyc_plain.specs.inside.State.{Activation, Frame, Configuration, State, Running, Ended, Stuck, status_of}
use Rattle.cyc_plain.specs.inside.Step.{finishes, Step, start, machine}
use Rattle.cyc_plain.specs.inside.Straight.{At}
use Rattle.cyc_plain.specs.inside.WellFormed.{IsInRange, IsPlain}
use Rattle.cyc_plain.proofs.Placed.{routine_in, placed_start}
use Rattle.cyc_plain.proofs.RunLaws.{lawful, starts_within}
use Rattle.cyc_plain.proofs.WordLaws.{words_at_start}
use Rattle.cyc_inline.specs.declared.origin.Origin.{Origin}
use Rattle.cyc_inline.specs.inside.Inlined.{IsInlined}
use Rattle.cyc_inline.specs.inside.Opened.{is_of_leaf, is_end, StandsInside, origins_of, AreOpened}
use Rattle.cyc_inline.proofs.Costs.{own, cheap}
use Rattle.cyc_inline.proofs.Waiting.{each_opened, place_in, slots_of, beside, IsOutside}
use Rattle.cyc_inline.proofs.Lodged.{IsLodged}
use Rattle.cyc_inline.proofs.Matched.{IsInside, Alike, Matches, matching}
use Rattle.cyc_inline.proofs.Steps.{either_stands, steps_itself}
use Rattle.cyc_inline.proofs.Entering.{steps_opened}
use Rattle.cyc_inline.proofs.Inside.{steps_ordinary}
use Rattle.cyc_inline.proofs.Duplicates.{steps_preceded}
use Rattle.cyc_inline.proofs.Returning.{steps_returned, steps_thrown}

module _ (program inlined : Program) (origins : List (List Origin)) (are : AreOpened program inlined origins) (plain : IsPlain program) (fine : IsPlain inlined) (pages calls : ℕ) where
  abbrev Matched : State → State → Type 0
  Matched = Matches program inlined origins are plain fine pages calls

  abbrev IsStep : State → State → Type 0
  IsStep = IsStepped (machine program pages calls) (machine inlined pages calls) (matching program inlined origins are plain fine pages calls)

  abbrev FailsNever : State → Type 0
  FailsNever s = (next : State) → Step program pages calls s next → status_of next ≡ simulation.Failed → ⊥

  -- Says that a configuration's next instruction is in the code of its function, and that everything the instruction names exists.
  record IsFound (c : Configuration) : Type 0 where
    pub i : Instruction
    pub at : At (routine_at program c.active.function).code c.active.next i
    pub range : IsInRange program (routine_at program c.active.function) i

  found : (c : Configuration) (t : State) → Matched (Running c) t → IsFound c
  found c t matches =
      let (known, next) = matches.placed.0 in
      let (i, at) = slice_get_below (routine_at program c.active.function).code c.active.next next in
      record {
        i = i;
        at = at;
        range = All_at (IsInRange program (routine_at program c.active.function)) (routine_at program c.active.function).code c.active.next i (routine_in program c.active.function plain.well_formed known).instructions at;
      }

  -- ---- steps outside inlined calls

  outside : (c : Configuration) (t : State) → IsOutside program inlined origins are c t → Matched (Running c) t → FailsNever (Running c) → IsStep (Running c) t
  outside c t o matches never =
      subst (IsStep (Running c)) (sym o.is) (either (subst (Matched (Running c)) o.is matches))
    where
      either : Matched (Running c) (Running (beside program inlined origins are c o.active o.frames)) → IsStep (Running c) (Running (beside program inlined origins are c o.active o.frames))
      either both =
          let h = found c (Running (beside program inlined origins are c o.active o.frames)) both in
          elim (either_stands program inlined origins are c.active.function c.active.next h.i h.at) [
            | inl itself ↦ steps_itself program inlined origins are plain fine pages calls c o.active o.frames o.calls o.waiting both h.i h.at h.range itself
            | inr (inl opened) ↦
                let call : Instruction = instructions.Call opened.callee opened.arguments opened.count opened.result in
                steps_opened program inlined origins are plain fine pages calls c o.active o.frames o.calls o.waiting both opened.callee opened.arguments opened.count opened.result
                (h.at ∙ ap (λ (i : Instruction). Some i) opened.is) (subst (IsInRange program (routine_at program c.active.function)) opened.is h.range) opened.site
            | inr (inr preceded) ↦ steps_preceded program inlined origins are plain fine pages calls c o.active o.frames o.calls o.waiting both never h.i h.at h.range preceded
          ]

  -- ---- steps inside an inlined call

  module _ (c : Configuration) (b : Activation) (gs : List Frame) (lodged : IsLodged program inlined origins are c b gs) (next : b.next ≡ lodged.site.place c.active.next)
      (matches : Matches program inlined origins are plain fine pages calls (Running c) (Running (beside program inlined origins are c b gs)))
      (never : (next : State) → Step program pages calls (Running c) next → status_of next ≡ simulation.Failed → ⊥) where
    abbrev IsHere : Type 0
    IsHere = IsStep (Running c) (Running (beside program inlined origins are c b gs))

    abbrev Stands : Instruction → Type 0
    Stands i = StandsInside (routine_at inlined lodged.waits.caller.function).code (origins_of origins lodged.waits.caller.function) (slots_of program inlined origins are lodged.waits.caller.function)
        lodged.waits.result (routine_at program c.active.function).results (place_in program inlined origins are lodged.waits.caller.function (lodged.index + 1)) c.active.function lodged.site.place c.active.next i (is_end i)

    by_instruction : (i : Instruction) → At (routine_at program c.active.function).code c.active.next i → IsInRange program (routine_at program c.active.function) i → is_of_leaf i ≡ true → Stands i → IsHere
    by_instruction (instructions.Return value) at range leaf (moves, made, to) =
        steps_returned program inlined origins are plain fine pages calls c b gs lodged next matches (instructions.Return value) at value refl refl range moves made to
    by_instruction (instructions.Finish value) at range leaf (moves, made, to) =
        steps_returned program inlined origins are plain fine pages calls c b gs lodged next matches (instructions.Finish value) at value
        (ap (finishes c value (routine_at program c.active.function).results) lodged.handlers) refl range moves made to
    by_instruction (instructions.Throw tag value) at range leaf (there, made, to) =
        steps_thrown program inlined origins are plain fine pages calls c b gs lodged next matches (instructions.Throw tag value) at tag value refl range there made
    by_instruction (instructions.Call function arguments count result) at range leaf stands = absurd (let e : false ≡ true = leaf in cc)
    by_instruction (instructions.Enter function) at range leaf stands = absurd (let e : false ≡ true = leaf in cc)
    by_instruction (instructions.AddressOf destination slot count) at range leaf stands = absurd (let e : false ≡ true = leaf in cc)
    by_instruction (instructions.Ask request) at range leaf stands = absurd (let e : false ≡ true = leaf in cc)
    by_instruction (instructions.Try first handler) at range leaf stands = absurd (let e : false ≡ true = leaf in cc)
    by_instruction (instructions.Leave first) at range leaf stands = absurd (let e : false ≡ true = leaf in cc)
    by_instruction (instructions.Uncaught tag value) at range leaf stands = absurd (let e : false ≡ true = leaf in cc)
    by_instruction i at range leaf (there, made, falls) =
        steps_ordinary program inlined origins are plain fine pages calls c b gs lodged next matches never i at range there made refl falls

    inside : IsHere
    inside =
        let h = found c (Running (beside program inlined origins are c b gs)) matches in
        by_instruction h.i h.at h.range (all_at (λ (i : Instruction). is_of_leaf i ≡ true) (routine_at program c.active.function).code c.active.next h.i lodged.site.leaf h.at)
        (lodged.site.body c.active.next h.i h.at)

  -- ---- runs

  steps : Steps (machine program pages calls) (machine inlined pages calls) (matching program inlined origins are plain fine pages calls)
  steps (Running c) t matches running never = go matches.alike
    where
      go : IsOutside program inlined origins are c t ⊎ IsInside program inlined origins are c t → IsStep (Running c) t
      go (inl o) = outside c t o matches never
      go (inr s) = subst (IsStep (Running c)) (sym s.is) (inside c s.active s.frames s.lodged s.next (subst (Matched (Running c)) s.is matches) never)
  steps (Ended ending output input) t matches running never = absurd (running_ended ending (sym running))
  steps (Stuck output input) t matches running never = absurd (running_failed (sym running))

  -- The initial states of the source and the inlined program are related.
  start_alike : (base : ℕ) (store : StoreState) (input : List ℕ) → Alike program inlined origins are (start program base store input) (start inlined base store input)
  start_alike base store input = inl (record {
    active = record { function = inlined.main; next = 0; base = base; slots = λ (slot : ℕ). 0; handlers = [] };
    frames = [];
    is = λ i. start (record inlined { globals = are.globals i }) base store input;
    calls = record {
      slotted = record { function = are.main; base = refl; handlers = refl; records = tt; slots = λ k below. refl };
      next = sym (each_opened program inlined origins are program.main).first;
    };
    waiting = refl;
  })

  pub follows : (base : ℕ) (store : StoreState) (input : List ℕ) → IsNew pages store → 1 ≤ pages → 1 ≤ calls → AllByRecursion (λ b. b < 256) input
      → NeverFails (machine program pages calls) (start program base store input)
      → Follows (machine program pages calls) (machine inlined pages calls) [] (own inlined origins) (start program base store input) (start inlined base store input)
  follows base store input new some_page some_call bytes never =
      simulates (machine program pages calls) (machine inlined pages calls) (matching program inlined origins are plain fine pages calls) steps (lawful inlined pages calls) [] (start program base store input) never
      (start inlined base store input) refl
      (record {
        alike = start_alike base store input;
        placed = placed_start program base store input plain.well_formed;
        words = words_at_start inlined base store input fine.words (let (memory, words, is) = new in subst (λ (s : StoreState). stores.AreWords s.memory) (sym is) words) bytes;
        within = starts_within program pages calls base store input new some_page some_call;
      })

-- A program in which some calls are inlined behaves as the source program.
pub is_inlined : (program inlined : Program) (origins : List (List Origin)) → IsPlain program → IsPlain inlined → AreOpened program inlined origins → IsInlined program inlined
is_inlined program inlined origins plain fine are = record {
  plain = fine;
  as_many = are.as_many;
  each = λ k below. (are.each k below).like;
  globals = are.globals;
  main = are.main;
  own = own inlined origins;
  cheap = cheap inlined origins program;
  follows = λ pages calls base store input new some_page some_call bytes never. follows program inlined origins are plain fine pages calls base store input new some_page some_call bytes never;
}
