-- This file proves that the heap store closes lexical regions down to a saved number of open regions. The source closes one
-- region in each step, and the heap store closes several regions at once.
use Rattle.std.proofs.Common.{◌≡◌, ◌≢◌, ℕ, suc, ◌≤◌, true, List, [], ◌∷◌, Option, None, Some, refl, sym, ap, subst, arith}
use Rattle.std.specs.List.{AllByRecursion}
use Rattle.cyc_types.specs.TypedTrees.{Program}
use Rattle.cyc_words.specs.Demand.{demand_of}
use Rattle.cyc_store.specs.State.{Home, StoreState, sizes_in, down_to, demand, lexical_count}
use Rattle.cyc_store.specs.Services as services
use Rattle.cyc_store.specs.Services.{CloseTo, IsAllowed, served, refusal}
use Rattle.cyc_store.proofs.CountLemmas.{demand-part}
use Rattle.cyc_store.proofs.HolderLemmas.{IsPart-down_to}
use Rattle.cyc_plain.specs.declared.instruction.Operand.TheVariants as operands
use Rattle.cyc_plain.specs.declared.instruction.Request.TheVariants as requests
use Rattle.cyc_plain.specs.declared.instruction.Instruction.{Instruction}
use Rattle.cyc_plain.specs.declared.instruction.Instruction.TheVariants as instructions
use Rattle.cyc_plain.specs.inside.Program.{CodePlace}
use Rattle.cyc_plain.specs.inside.Straight.{At}
use Rattle.cyc_plain.specs.inside.State as plain
use Rattle.cyc_plain.specs.inside.State.{Configuration}
use Rattle.cyc_plain.specs.inside.Step.{at, served_to}
use Rattle.cyc_plain.specs.inside.Step as plain_step
use Rattle.cyc_plain.proofs.Uniform.{uniform_serves as step_serves}
use Rattle.cyc_meaning.specs.State.{World, closed, Environment, Entry, CloseLexical, Focus, State, Running}
use Rattle.cyc_meaning.specs.Step.{step}
use Rattle.cyc_store.proofs.KeptUnwinding.{down_to-lower}
use Rattle.cyc_memory_relation.specs.inside.Related.{Related, scopes, closed_to}
use Rattle.cyc_memory_relation.proofs.Closing.{scopes-closed, closed-following, closed-at_once, refusal-close_to}
use Rattle.cyc_memory_relation.proofs.Scopes.{Ends}
use Rattle.cyc_lower_proof.specs.inside.Lowering.{lower_program, scopes_of}
use Rattle.cyc_lower_proof.proofs.relation.code.Statements.{ClosedAt}
use Rattle.cyc_lower_proof.proofs.relation.contents.HeldValues.{MayBeOpen, scopes_in}
use Rattle.cyc_lower_proof.proofs.relation.simulation.Relation.{ScopesBy, SharedBy, SharedAt, Matches}
use Rattle.cyc_lower_proof.proofs.relation.simulation.Stacks.{code_of, bounds_at, types_at}
use Rattle.cyc_lower_proof.proofs.relation.simulation.Shared.{HasScopes, store_by, silent}
use Rattle.cyc_lower_proof.proofs.relation.simulation.Matched.{Inside, IsMatched, Executes, by_places, place_in, known, elsewhere, seen_way, inside_within}

-- Closing regions does not raise the number of pages that the heap store needs.
pub fewer_pages : (s : StoreState) (mark : ℕ) (choice : services.Choice) → demand (served s (CloseTo mark) choice) ≤ demand s
fewer_pages s mark choice = demand-part (IsPart-down_to mark s.regions) s.classes

-- The configuration after the code that closes regions down to `many` open ones.
abbrev pub closed_down : Configuration → services.Choice → (many q : ℕ) → Configuration
closed_down c choice many q = record (at c q) { store = served c.store (CloseTo many) choice }

module _ (source : Program) (pages calls : ℕ) where
  -- One instruction closes lexical regions until as many are open as the word of a slot says. Any other instruction
  -- is at a different code position.
  pub closing_apart : (c : Configuration) (slot : ℕ) → At (code_of source c.active.function) c.active.next (instructions.Ask (requests.CloseTo (operands.Slot slot)))
      → (place : CodePlace) (i : Instruction) → At (code_of source place.function) place.index i → (i ≢ instructions.Ask (requests.CloseTo (operands.Slot slot)))
      → AllByRecursion (λ q. place ≢ q) (place_in source pages calls c ∷ [])
  closing_apart c slot ask place i here other = (elsewhere source pages calls place (place_in source pages calls c) i _ here ask other, tt)

  -- The instruction that closes lexical regions closes them for every result that the heap store may give.
  pub closing_executes : (focus : Focus) (k : List Entry) (e : Environment) (w : World) (next : State) (c : Configuration) (slot many q : ℕ)
      → ClosedAt (code_of source c.active.function) (bounds_at source c.active.function) (types_at source c.active.function) slot c.active.next q
      → Inside source pages calls w c → c.active.slots slot ≡ many → many ≤ lexical_count c.store.regions
      → ((choice : services.Choice) → IsAllowed c.store (CloseTo many) choice → Matches source pages calls next (plain.Running (closed_down c choice many q)))
      → Executes source pages calls (Running focus k e w) next (place_in source pages calls c ∷ []) (plain.Running c)
  closing_executes focus k e w next c slot many q (ask, end) inside marked more goes = (
    refl,
    seen_way source pages calls focus k e w c inside.0,
    λ u stepped.
        let (choice, served_it, is) = step_serves (lower_program source) pages calls c (requests.CloseTo (operands.Slot slot)) u ask stepped free (λ chosen served_it. asked_within chosen) in
        subst (Executes source pages calls (Running focus k e w) next []) (sym is)
        (subst (λ n. Matches source pages calls next (plain.Running (closed_down c choice mark n))) (sym end)
        (subst (λ m. Matches source pages calls next (plain.Running (closed_down c choice m q))) (sym marked)
        (goes choice (subst (λ m. IsAllowed c.store (CloseTo m) choice) marked served_it.allowed)))),
  )
    where
      mark : ℕ
      mark = c.active.slots slot

      free : refusal c.store (CloseTo mark) ≡ None
      free = refusal-close_to c.store mark (omega (arith, marked, more))

      asked_within : (choice : services.Choice) → plain_step.is_within pages calls (plain.Running (served_to choice c 0 (CloseTo mark))) ≡ true
      asked_within choice =
          inside_within source pages calls w (served_to choice c 0 (CloseTo mark)) (inside.0, omega (arith, inside.1, fewer_pages c.store mark choice), inside.2, inside.3)

  -- The instruction that closes regions matches a source step.
  pub by_closing : (focus : Focus) (k : List Entry) (e : Environment) (w : World) (next : State) (c : Configuration) (slot many q : ℕ) → step source (Running focus k e w) ≡ next
      → ClosedAt (code_of source c.active.function) (bounds_at source c.active.function) (types_at source c.active.function) slot c.active.next q
      → Inside source pages calls w c → c.active.slots slot ≡ many → many ≤ lexical_count c.store.regions
      → ((choice : services.Choice) → IsAllowed c.store (CloseTo many) choice → Matches source pages calls next (plain.Running (closed_down c choice many q)))
      → IsMatched source pages calls (Running focus k e w) (plain.Running c)
  by_closing focus k e w next c slot many q does (ask, end) inside marked more goes =
      by_places source pages calls (Running focus k e w) next (place_in source pages calls c) [] (plain.Running c) does
      (tt, tt) (known source pages calls c _ ask, tt)
      (closing_executes focus k e w next c slot many q (ask, end) inside marked more goes)

  -- ---- the shared state

  -- The invariant that source run and lowered run share, after the source closes its newest lexical region
  -- while the heap store still has this region.
  abbrev pub shared_after : (closing : Option ℕ) (region : ℕ) (k : List Entry) (e : Environment) (w : World) (c : Configuration) (ends : Ends w region)
      → HasScopes (scopes_of source) → HasScopes closing
      → SharedBy source closing pages calls (CloseLexical region ∷ k) e w c → SharedBy source closing pages calls k e (closed w region ends.region) c
  shared_after closing region k e w c ends has leaving s = record {
    tables = s.tables;
    same_output = s.same_output;
    same_input = s.same_input;
    same_pages = pages_same closing leaving s.same_pages;
    related = following closing leaving s.related;
    globals = s.globals;
    variables = s.variables;
    few_pages = fewer closing leaving s.few_pages;
    fits = s.fits;
    counters = (s.counters.0, counted closing leaving s.counters.1);
  }
    where
      after : World
      after = closed w region ends.region

      less : scopes w.regions ≡ suc (scopes after.regions)
      less = scopes-closed w.regions region ends.region ends.there ends.scope

      pages_same : (o : Option ℕ) → HasScopes o → (store_by o c.store (scopes w.regions)).pages ≡ pages → (store_by o c.store (scopes after.regions)).pages ≡ pages
      pages_same None leaves same = same
      pages_same (Some mark) leaves same = same

      following : (o : Option ℕ) → HasScopes o → Related s.tables (silent w) (store_by o c.store (scopes w.regions)) → Related s.tables (silent after) (store_by o c.store (scopes after.regions))
      following None leaves related = absurd leaves
      following (Some mark) leaves related =
          closed-following c.store (scopes after.regions) region ends.region (subst (λ n. Related s.tables (silent w) (closed_to c.store n)) less related) less ends.there ends.scope ends.newest

      fewer : (o : Option ℕ) → HasScopes o → demand (store_by o c.store (scopes w.regions)) ≤ pages → demand (store_by o c.store (scopes after.regions)) ≤ pages
      fewer None leaves few = few
      fewer (Some mark) leaves few =
          let now = scopes after.regions in
          let part : demand (closed_to c.store now) ≤ demand (closed_to c.store (suc now)) =
          subst (λ (rs : List Home). demand_of (sizes_in rs) c.store.classes ≤ demand (closed_to c.store (suc now))) (down_to-lower now (suc now) c.store.regions (omega arith))
          (demand-part (IsPart-down_to now (down_to (suc now) c.store.regions)) c.store.classes) in
          omega (arith, few, ap (λ n. demand (closed_to c.store n)) less, part)

      counted : (o : Option ℕ) → HasScopes o → ScopesBy source o c.store (scopes_in (CloseLexical region ∷ k)) (scopes w.regions)
          → ScopesBy source o c.store (scopes_in k) (scopes after.regions)
      counted None leaves reported = absurd leaves
      counted (Some mark) leaves (has, sound, more) = (has, sound, omega (arith, more, less))

  -- The heap store closes the lexical regions that the source run has already closed.
  abbrev pub settled : (mark : ℕ) (k : List Entry) (e : Environment) (w : World) (c : Configuration) (many q : ℕ) (choice : services.Choice) → scopes w.regions ≡ many → scopes_in k ≡ many
      → IsAllowed c.store (CloseTo many) choice → SharedBy source (Some mark) pages calls k e w c → SharedAt source pages calls k e w (closed_down c choice many q)
  settled mark k e w c many q choice now ended allowed s = record {
    tables = s.tables;
    same_output = s.same_output;
    same_input = s.same_input;
    same_pages = s.same_pages;
    related =
        closed-at_once many choice s.counters.1.1 (subst (λ n. Related s.tables (silent w) (closed_to c.store n)) now s.related) (refusal-close_to c.store many (omega (arith, now, s.counters.1.2))) allowed;
    globals = s.globals;
    variables = s.variables;
    few_pages = subst (λ n. demand (closed_to c.store n) ≤ pages) now s.few_pages;
    fits = s.fits;
    counters = (s.counters.0, may (scopes_of source) s.counters.1.0);
  }
    where
      may : (o : Option ℕ) → HasScopes o → MayBeOpen o (scopes_in k)
      may None has = absurd has
      may (Some place) has = tt
