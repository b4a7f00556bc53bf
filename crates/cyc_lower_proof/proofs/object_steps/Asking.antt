-- This file proves the source steps that are matched by a request to the heap store.
use Rattle.std.proofs.Common.{◌≡◌, ℕ, suc, ◌+◌, Bool, true, false, List, [], ◌∷◌, None, Some, refl, sym, ap, subst, ◌∙◌, arith}
use Rattle.std.specs.Prelude.{Contains, if◌then◌else◌}
use Rattle.std.specs.List.{AllByRecursion}
use Rattle.cyc_words.specs.Ending.{Full}
use Rattle.cyc_types.specs.TypedTrees.{Program}
use Rattle.cyc_store.specs.Services as services
use Rattle.cyc_store.specs.Services.{refusal}
use Rattle.cyc_plain.specs.declared.instruction.Instruction.TheVariants as instructions
use Rattle.cyc_plain.specs.declared.instruction.Request.{Request}
use Rattle.cyc_plain.specs.inside.Program.{places_of}
use Rattle.cyc_plain.specs.inside.Requests as plain_requests
use Rattle.cyc_plain.specs.inside.State as plain
use Rattle.cyc_plain.specs.inside.State.{Configuration}
use Rattle.cyc_plain.specs.inside.Step.{served_to}
use Rattle.cyc_plain.specs.inside.Step as plain_step
use Rattle.cyc_plain.specs.inside.Straight.{At, places_after}
use Rattle.cyc_plain.proofs.Uniform.{uniform_serves as step_serves, uniform_full as step_full}
use Rattle.cyc_meaning.specs.State.{World, Environment, Entry, Focus, State, Running, Ended}
use Rattle.cyc_meaning.specs.Step.{step}
use Rattle.cyc_meaning.specs.Run.{is_within, limited_step}
use Rattle.cyc_plain.proofs.Straight.{following-distinct}
use Rattle.cyc_lower_proof.specs.inside.Lowering.{lower_program}
use Rattle.cyc_lower_proof.proofs.relation.simulation.Relation.{SharedAt, Matches}
use Rattle.cyc_lower_proof.proofs.relation.simulation.Stacks.{code_of}
use Rattle.cyc_lower_proof.proofs.relation.simulation.Shared.{seen_in, shared_seen}
use Rattle.cyc_lower_proof.proofs.relation.simulation.Matched.{IsMatched, Executes, by_places, shared_way, seen_way, place_in, known}

-- ---- consecutive places

module _ (source : Program) (pages calls : ℕ) where
  -- The heap store answers a request of the lowered code, and further instructions follow until the source step is matched.
  pub asks_then : (focus : Focus) (k : List Entry) (e : Environment) (w : World) (c : Configuration) (next : State) (request : Request) (count : ℕ)
      → step source (Running focus k e w) ≡ next → plain.seen_of (plain.Running c) ≡ seen_in w
      → At (code_of source c.active.function) c.active.next (instructions.Ask request)
      → AllByRecursion (Contains (places_of (lower_program source))) (places_after c.active.function (c.active.next + 1) count)
      → refusal c.store (plain_step.call_in c.active.slots request) ≡ None
      → ((choice : services.Choice) → plain_step.IsServed c.store (plain_step.call_in c.active.slots request) choice
      → Executes source pages calls (Running focus k e w) next (places_after c.active.function (c.active.next + 1) count) (plain.Running (served_to choice c (plain_requests.destination_of request) (plain_step.call_in c.active.slots request)))
      × (plain_step.is_within pages calls (plain.Running (served_to choice c (plain_requests.destination_of request) (plain_step.call_in c.active.slots request))) ≡ true))
      → IsMatched source pages calls (Running focus k e w) (plain.Running c)
  asks_then focus k e w c next request count does same here inside free goes =
      let rest = places_after c.active.function (c.active.next + 1) count in
      by_places source pages calls (Running focus k e w) next (place_in source pages calls c) rest (plain.Running c) does
      (following-distinct c.active.function c.active.next (suc count)) (known source pages calls c (instructions.Ask request) here, inside) (
        refl,
        seen_way source pages calls focus k e w c same,
        λ u stepped.
            let (choice, served, is) = step_serves (lower_program source) pages calls c request u here stepped free (λ choice served. (goes choice served).1) in
            subst (Executes source pages calls (Running focus k e w) next rest) (sym is) (goes choice served).0,
      )

  -- The heap store answers a request of the lowered code, and no further instructions are needed to match the source step.
  pub by_asking : (focus : Focus) (k : List Entry) (e : Environment) (w : World) (c : Configuration) (next : State) (request : Request)
      → step source (Running focus k e w) ≡ next → SharedAt source pages calls k e w c
      → At (code_of source c.active.function) c.active.next (instructions.Ask request)
      → refusal c.store (plain_step.call_in c.active.slots request) ≡ None
      → ((choice : services.Choice) → plain_step.IsServed c.store (plain_step.call_in c.active.slots request) choice
      → Matches source pages calls next (plain.Running (served_to choice c (plain_requests.destination_of request) (plain_step.call_in c.active.slots request)))
      × (plain_step.is_within pages calls (plain.Running (served_to choice c (plain_requests.destination_of request) (plain_step.call_in c.active.slots request))) ≡ true))
      → IsMatched source pages calls (Running focus k e w) (plain.Running c)
  by_asking focus k e w c next request does shared here free goes = asks_then focus k e w c next request 0 does (shared_seen shared) here tt free goes

  -- The heap store has too few free pages for the request, so the source run and the plain run both end for lack of space.
  pub by_full : (focus : Focus) (k : List Entry) (e : Environment) (w : World) (c : Configuration) (next : State) (request : Request)
      → step source (Running focus k e w) ≡ next → is_within pages calls next ≡ false → SharedAt source pages calls k e w c
      → At (code_of source c.active.function) c.active.next (instructions.Ask request)
      → refusal c.store (plain_step.call_in c.active.slots request) ≡ Some services.Full
      → IsMatched source pages calls (Running focus k e w) (plain.Running c)
  by_full focus k e w c next request does over shared here full =
      let source_full : limited_step source pages calls (Running focus k e w) ≡ Ended Full w.output w.input =
      ap (λ (b : Bool). if b then step source (Running focus k e w) else Ended Full w.output w.input) (ap (is_within pages calls) does ∙ over) in
      record {
        places = place_in source pages calls c ∷ [];
        distinct = (tt, tt);
        inside = (known source pages calls c (instructions.Ask request) here, tt);
        comes = (
          refl,
          shared_way source pages calls focus k e w c shared,
          λ u stepped. record {
            next = Ended Full w.output w.input;
            step = sym source_full;
            matches = subst (Matches source pages calls (Ended Full w.output w.input)) (sym (step_full (lower_program source) pages calls c request u here stepped full)) (refl, shared_seen shared);
            lighter = λ none. absurd (omega (arith, none));
          },
        );
      }
