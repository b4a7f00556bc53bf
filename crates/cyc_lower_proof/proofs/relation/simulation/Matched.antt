-- This file states the facts that are common to all kinds of steps when the plain program matches a step of the source.
use Rattle.std.proofs.Common.{◌≡◌, ◌≢◌, ℕ, suc, ◌≤◌, ◌<◌, Bool, true, false, List, [], ◌∷◌, length, Option, None, Some, slice_get, refl, sym, ap, subst, ◌∙◌, arith}
use Rattle.std.specs.Prelude.{Contains, if◌then◌else◌}
use Rattle.std.specs.List.{AllByRecursion}
use Rattle.std.proofs.lemmas.Bool.{le-leb, and_from}
use Rattle.std.proofs.lemmas.Option.{same_Some}
use Rattle.cyc_words.specs.Ending.{Ending, Full}
use Rattle.cyc_words.specs.Seen.{showing}
use Rattle.cyc_types.specs.TypedTrees.{Program}
use Rattle.cyc_meaning.specs.Values.{Operand as Kinded}
use Rattle.cyc_plain.specs.declared.instruction.Operand.{Operand}
use Rattle.cyc_plain.specs.declared.instruction.Instruction.{Instruction}
use Rattle.cyc_words.specs.Simulation as simulation
use Rattle.cyc_words.specs.Simulation.{Machine}
use Rattle.cyc_words.specs.Distinct.{IsDistinct}
use Rattle.cyc_words.specs.inside.Following.{Matching, Comes, IsOnTheWay, IsMatchedStep, IsStepped}
use Rattle.cyc_plain.specs.inside.Program.{CodePlace, places_of}
use Rattle.cyc_store.specs.State.{demand}
use Rattle.cyc_plain.specs.inside.State as plain
use Rattle.cyc_plain.specs.inside.State.{Words, Configuration}
use Rattle.cyc_plain.specs.inside.Step.{Choice, performed}
use Rattle.cyc_plain.specs.inside.Uniform.{uniform_machine as machine}
use Rattle.cyc_plain.proofs.Uniform.{uniform_performs as step_performs}
use Rattle.cyc_plain.specs.inside.Step as plain_step
use Rattle.cyc_words.proofs.Matching.{by_none, way_before}
use Rattle.cyc_plain.proofs.Steps.{place_known}
use Rattle.cyc_plain.specs.inside.Straight.{At}
use Rattle.cyc_words.specs.Demand.{demand_of}
use Rattle.cyc_meaning.specs.State.{World, Environment, Entry, counted, calls_in, Focus, Given, Proceeding, Breaking, Continuing, Returning, Throwing, State, Running, Ended, Dead, Wrong, output_of, input_of, status_of}
use Rattle.cyc_meaning.specs.Step.{step}
use Rattle.cyc_meaning.specs.Run.{is_within, limited_step}
use Rattle.cyc_memory_relation.specs.inside.Tables.{Tables}
use Rattle.cyc_memory_relation.proofs.RegionLemmas.{counted-same}
use Rattle.cyc_lower_proof.specs.inside.Lowering.{lower_program, scopes_of}
use Rattle.cyc_meaning.specs.SourceMachine.{status_in, seen_of, source_machine}
use Rattle.cyc_lower_proof.proofs.relation.simulation.Weights.{weight}
use Rattle.cyc_lower_proof.proofs.relation.contents.HandlerData.{calls_counted, calls_left}
use Rattle.cyc_lower_proof.proofs.relation.contents.HeldValues.{handling}
use Rattle.cyc_lower_proof.proofs.relation.simulation.Relation.{SharedAt, SharedBy, GivenAt, in_operand, nowhere, ahead, decided, with_left, in_parts, ProceedingAt, following_statement, following_call, following_wrong, Related, Matches, DataFor}
use Rattle.cyc_lower_proof.proofs.relation.simulation.Stacks.{Lands, in_temporary, in_local, HandsOn, drops, leaves, copies, Prints, prints_only, gives_byte, opened_by, code_of}
use Rattle.cyc_lower_proof.proofs.relation.simulation.Shared.{seen_in, shared_seen}

module _ (source : Program) where
  -- ---- the destination of a value

  pub by_lands : {base free d words : ℕ} {temporary ahead : Type 0} {X : Type 0} → Lands source base free d words temporary ahead → (temporary → X) → (ahead → X) → X
  by_lands (in_temporary least stack) first second = first stack
  by_lands (in_local below stack) first second = second stack

  pub by_hands : {code : List Instruction} {words : ℕ} {o : Operand} {p : ℕ} {dropped stays : Type 0} {comes : (d q : ℕ) → Type 0} {X : Type 0} → HandsOn source code words o p dropped stays comes
      → (dropped → X) → (stays → X) → ((d q : ℕ) → comes d q → X) → X
  by_hands (drops stack) first second third = first stack
  by_hands (leaves stack) first second third = second stack
  by_hands (copies d q at stack) first second third = third d q stack

  pub by_prints : {code : List Instruction} {o : Operand} {p : ℕ} {dropped : Type 0} {comes : (d : ℕ) → Type 0} {X : Type 0} → Prints source code o p dropped comes
      → (dropped → X) → ((d : ℕ) → comes d → X) → X
  by_prints (prints_only stack) first second = first stack
  by_prints (gives_byte d at stack) first second = second d stack

  -- Says that source machine and plain machine have equal output and input, and that the plain machine is within the limits
  -- of pages and calls.
  abbrev pub Inside : (pages calls : ℕ) → World → Configuration → Type 0
  Inside pages calls w c = (showing c.output c.input ≡ seen_in w) × (demand c.store ≤ pages) × (suc (length c.frames) ≤ calls) × (demand_of (counted w.regions) w.classes ≤ pages)

  pub inside_by : (closing : Option ℕ) (pages calls : ℕ) (k : List Entry) (e : Environment) (w : World) (c : Configuration) → SharedBy source closing pages calls k e w c → Inside pages calls w c
  inside_by None pages calls k e w c s =
      (shared_seen s, s.few_pages, s.fits, omega (arith, s.few_pages, ap (λ l. demand_of l c.store.classes) (sym (counted-same s.related.regions)) ∙ ap (demand_of (counted w.regions)) s.related.classes))
  inside_by (Some mark) pages calls k e w c s = (
    shared_seen s,
    omega (arith, s.counters.1.1.demand, s.same_pages),
    s.fits,
    omega (arith, s.few_pages, ap (λ l. demand_of l c.store.classes) (sym (counted-same s.related.regions)) ∙ ap (demand_of (counted w.regions)) s.related.classes),
  )

  pub inside_of : (pages calls : ℕ) (focus : Focus) (k : List Entry) (e : Environment) (w : World) (c : Configuration) → Related source pages calls focus k e w c → Inside pages calls w c
  inside_of pages calls (Throwing tag value) k e w c r = inside_by (scopes_of source) pages calls k e w c r.0
  inside_of pages calls Breaking k e w c r = inside_by (opened_by source true c.active.function k).mark pages calls k e w c r.0
  inside_of pages calls Continuing k e w c r = inside_by (opened_by source true c.active.function k).mark pages calls k e w c r.0
  inside_of pages calls (Returning v) k e w c r = inside_by (opened_by source false c.active.function k).mark pages calls k e w c r.0
  inside_of pages calls (Given v) k e w c r = inside_by None pages calls k e w c r.0
  inside_of pages calls Proceeding k e w c r = inside_by None pages calls k e w c r.0
  inside_of pages calls focus k e w c r = inside_by None pages calls k e w c r.0

  -- ---- active calls

  -- The calls among the continuation frames `k` are one more than the plain machine's frames of waiting calls. This holds if the
  -- continuation frames `handled`, whose handlers are open, contain as many calls as `k`.
  counted_in : (t : Tables) (slots : Words) (handled k : List Entry) (e : Environment) (w : World) (c : Configuration) → calls_in handled ≡ calls_in k → DataFor source t slots handled k e w c → calls_in k ≡ suc (length c.frames)
  counted_in t slots handled k e w c same facts = sym same ∙ calls_counted source c.active.function slots c.active.handlers c.frames handled facts.1

  handled_counted : (focus : Focus) (k : List Entry) → calls_in (handling focus k) ≡ calls_in k
  handled_counted Breaking k = calls_left true k
  handled_counted Continuing k = calls_left true k
  handled_counted (Returning v) k = calls_left false k
  handled_counted focus k = refl

  depth_given : (t : Tables) (v : Kinded) (k : List Entry) (e : Environment) (w : World) (c : Configuration) → GivenAt source t v k e w c → calls_in k ≡ suc (length c.frames)
  depth_given t v k e w c (in_operand o facts is holds stack) = counted_in t c.active.slots k k e w c refl facts
  depth_given t v k e w c (nowhere facts stack) = counted_in t c.active.slots k k e w c refl facts
  depth_given t v k e w c (ahead n (old, same, facts) is holds stack) = counted_in t old k k e w c refl facts
  depth_given t v k e w c (decided fails p facts zero holds leads stack) = counted_in t c.active.slots k k e w c refl facts
  depth_given t v k e w c (with_left facts ready) = counted_in t c.active.slots k k e w c refl facts
  depth_given t v k e w c (in_parts facts parts) = counted_in t c.active.slots k k e w c refl facts

  depth_proceeding : (t : Tables) (k : List Entry) (e : Environment) (w : World) (c : Configuration) → ProceedingAt source t k e w c → calls_in k ≡ suc (length c.frames)
  depth_proceeding t k e w c (following_statement exits facts stack) = counted_in t c.active.slots k k e w c refl facts
  depth_proceeding t k e w c (following_call kind o facts stack) = counted_in t c.active.slots k k e w c refl facts
  depth_proceeding t k e w c (following_wrong kind n counted stack) = counted

  depth_fits : (pages calls : ℕ) (focus : Focus) (k : List Entry) (e : Environment) (w : World) (c : Configuration) → Related source pages calls focus k e w c → calls_in k ≤ calls
  depth_fits pages calls (Throwing tag value) k e w c r = r.1
  depth_fits pages calls (Given v) k e w c (shared, at) = omega (arith, depth_given shared.tables v k e w c at, shared.fits)
  depth_fits pages calls Proceeding k e w c (shared, at) = omega (arith, depth_proceeding shared.tables k e w c at, shared.fits)
  depth_fits pages calls focus k e w c r = omega (arith, counted_in r.0.tables c.active.slots (handling focus k) k e w c (handled_counted focus k) r.1, r.0.fits)

module _ (source : Program) (pages calls : ℕ) where
  abbrev pub above : Machine
  above = source_machine source pages calls

  abbrev pub below : Machine
  below = machine (lower_program source) pages calls

  -- ---- limits

  pub related_within : (focus : Focus) (k : List Entry) (e : Environment) (w : World) (c : Configuration) → Related source pages calls focus k e w c → is_within pages calls (Running focus k e w) ≡ true
  related_within focus k e w c r =
      and_from _ _ (le-leb _ pages (inside_of source pages calls focus k e w c r).3) (le-leb _ calls (depth_fits source pages calls focus k e w c r))

  pub inside_within : (w : World) (c : Configuration) → Inside source pages calls w c → plain_step.is_within pages calls (plain.Running c) ≡ true
  inside_within w c inside = and_from _ _ (le-leb _ pages inside.1) (le-leb _ calls inside.2)

  pub shared_within : (k : List Entry) (e : Environment) (w : World) (c : Configuration) → SharedAt source pages calls k e w c → plain_step.is_within pages calls (plain.Running c) ≡ true
  shared_within k e w c s = inside_within w c (inside_by source None pages calls k e w c s)

  pub matches_within : (s : State) (t : plain.State) → Matches source pages calls s t → is_within pages calls s ≡ true
  matches_within (Running focus k e w) (plain.Running c) m = related_within focus k e w c m
  matches_within (Running focus k e w) (plain.Ended ending output input) m = absurd m
  matches_within (Running focus k e w) (plain.Stuck output input) m = absurd m
  matches_within (Ended ending output input) t m = and_from _ _ (le-leb 0 pages (omega arith)) (le-leb 0 calls (omega arith))
  matches_within (Dead output input) t m = absurd m
  matches_within (Wrong output input) t m = absurd m

  pub matches_within_below : (s : State) (t : plain.State) → Matches source pages calls s t → plain_step.is_within pages calls t ≡ true
  matches_within_below (Running focus k e w) (plain.Running c) m = inside_within w c (inside_of source pages calls focus k e w c m)
  matches_within_below (Running focus k e w) (plain.Ended ending output input) m = absurd m
  matches_within_below (Running focus k e w) (plain.Stuck output input) m = absurd m
  matches_within_below (Ended ending output input) (plain.Running c) m = absurd m
  matches_within_below (Ended ending output input) (plain.Ended same same_output same_input) m = and_from _ _ (le-leb 0 pages (omega arith)) (le-leb 0 calls (omega arith))
  matches_within_below (Ended ending output input) (plain.Stuck same_output same_input) m = absurd m
  matches_within_below (Dead output input) t m = absurd m
  matches_within_below (Wrong output input) t m = absurd m

  limited_by : (b : Bool) (x y : State) → b ≡ true → (if b then x else y) ≡ x
  limited_by true x y e = refl
  limited_by false x y e = absurd (let f : false ≡ true = e in cc)

  -- A source step that leads to a state which a plain state matches stays within the limits of pages and calls.
  pub steps_to : (s next : State) (t : plain.State) → step source s ≡ next → Matches source pages calls next t → next ≡ limited_step source pages calls s
  steps_to s next t does m =
      sym (limited_by (is_within pages calls (step source s)) (step source s) (Ended Full (output_of s) (input_of s)) (ap (is_within pages calls) does ∙ matches_within next t m) ∙ does)

  -- ---- the matching

  pub alike : (s : State) (t : plain.State) → Matches source pages calls s t → plain.seen_of t ≡ seen_of s
  alike (Running focus k e w) (plain.Running c) m = (inside_of source pages calls focus k e w c m).0
  alike (Running focus k e w) (plain.Ended ending output input) m = absurd m
  alike (Running focus k e w) (plain.Stuck output input) m = absurd m
  alike (Ended ending output input) (plain.Running c) m = absurd m
  alike (Ended ending output input) (plain.Ended same same_output same_input) m = m.1
  alike (Ended ending output input) (plain.Stuck same_output same_input) m = absurd m
  alike (Dead output input) t m = absurd m
  alike (Wrong output input) t m = absurd m

  pub endings : (s : State) (t : plain.State) (ending : Ending) → Matches source pages calls s t → status_in (status_of s) ≡ simulation.Ended ending → plain.status_of t ≡ simulation.Ended ending
  endings (Running focus k e w) t ending m ended = absurd (let f : simulation.Running ≡ simulation.Ended ending = ended in cc)
  endings (Ended x output input) (plain.Running c) ending m ended = absurd m
  endings (Ended x output input) (plain.Ended y same_output same_input) ending m ended = ap simulation.Ended m.0 ∙ ended
  endings (Ended x output input) (plain.Stuck same_output same_input) ending m ended = absurd m
  endings (Dead output input) t ending m ended = absurd m
  endings (Wrong output input) t ending m ended = absurd m

  abbrev pub matching : Matching above below
  matching = record {
    Matches = Matches source pages calls;
    weight = weight;
    own = λ p. places_of (lower_program source);
    alike = alike;
    endings = endings;
  }

  -- Says that the next step from a source state is matched by the plain machine.
  abbrev pub IsMatched : State → plain.State → Type 0
  IsMatched s t = IsStepped above below matching s t

  -- ---- steps without an instruction

  pub silently : (s next : State) (t : plain.State) → step source s ≡ next → Matches source pages calls next t → weight next < weight s → IsMatched s t
  silently s next t does m lighter = by_none above below matching s next t (steps_to s next t does m) m lighter

  -- ---- steps with instructions

  -- Says that the plain machine executes some instructions from state t, after which the step of the source is matched.
  abbrev pub Executes : State → State → List CodePlace → plain.State → Type 0
  Executes s next places t = Comes below (IsOnTheWay above below s) (λ u. Matches source pages calls next u) places t

  -- If there is an instruction at the current position, and every state that it may lead to matches a source state, then the plain machine
  -- executes it.
  pub executes : (s next : State) (c : Configuration) (i : Instruction) (places : List CodePlace)
      → At (code_of source c.active.function) c.active.next i
      → ((choice : Choice) → plain_step.is_within pages calls (performed (lower_program source) choice c i) ≡ true)
      → IsOnTheWay above below s (plain.Running c)
      → ((choice : Choice) → Executes s next places (performed (lower_program source) choice c i))
      → Executes s next (record { function = c.active.function; index = c.active.next } ∷ places) (plain.Running c)
  executes s next c i places at within way goes = (
    refl,
    way,
    λ u stepped.
        let (choice, allowed, is) = step_performs (lower_program source) pages calls c i u at within stepped in
        subst (Executes s next places) (sym is) (goes choice),
  )

  -- After at least one instruction of the plain program, the step of the source is matched.
  matched_at_end : (s next : State) (p : CodePlace) (all places : List CodePlace) (t : plain.State) → step source s ≡ next
      → Executes s next places t → Comes below (IsOnTheWay above below s) (IsMatchedStep above below matching s (p ∷ all)) places t
  matched_at_end s next p all [] t does m = record {
    next = next;
    step = steps_to s next t does m;
    matches = m;
    lighter = λ none. absurd (omega (arith, none));
  }
  matched_at_end s next p all (q ∷ places) t does (stands, way, goes) = (stands, way, λ u stepped. matched_at_end s next p all places u does (goes u stepped))

  pub by_places : (s next : State) (p : CodePlace) (places : List CodePlace) (t : plain.State) → step source s ≡ next
      → IsDistinct (p ∷ places) → AllByRecursion (Contains (places_of (lower_program source))) (p ∷ places)
      → Executes s next (p ∷ places) t → IsMatched s t
  by_places s next p places t does distinct inside comes = record {
    places = p ∷ places;
    distinct = distinct;
    inside = inside;
    comes = matched_at_end s next p places (p ∷ places) t does comes;
  }

  -- The plain states between two matched states, while the invariant that source run and plain run share is unchanged.
  pub shared_way : (focus : Focus) (k : List Entry) (e : Environment) (w : World) (c : Configuration) → SharedAt source pages calls k e w c → IsOnTheWay above below (Running focus k e w) (plain.Running c)
  shared_way focus k e w c shared = way_before above below matching (Running focus k e w) (plain.Running c) refl (shared_seen shared)

  -- The plain states between two matched states, while memory may have changed.
  pub seen_way : (focus : Focus) (k : List Entry) (e : Environment) (w : World) (c : Configuration) → plain.seen_of (plain.Running c) ≡ seen_in w → IsOnTheWay above below (Running focus k e w) (plain.Running c)
  seen_way focus k e w c same = way_before above below matching (Running focus k e w) (plain.Running c) refl same

  abbrev pub place_in : Configuration → CodePlace
  place_in c = record { function = c.active.function; index = c.active.next }

  pub known : (c : Configuration) (i : Instruction) → At (code_of source c.active.function) c.active.next i → Contains (places_of (lower_program source)) (place_in c)
  known c i at = place_known (lower_program source) (place_in c) i at

  pub apart : (c d : Configuration) → c.active.next ≢ d.active.next → place_in c ≢ place_in d
  apart c d other same = other (ap (λ (p : CodePlace). p.index) same)

  -- Two different instructions are at two different code positions.
  pub elsewhere : (p q : CodePlace) (i j : Instruction) → At (code_of source p.function) p.index i → At (code_of source q.function) q.index j → i ≢ j → p ≢ q
  elsewhere p q i j here there other same =
      other (same_Some i j (sym here ∙ ap (λ (place : CodePlace). slice_get (code_of source place.function) place.index) same ∙ there))

  -- A source step is matched by one instruction that produces the same output.
  pub by_one_seen : {focus : Focus} {k : List Entry} {e : Environment} {w : World} {c : Configuration} {next : State} {i : Instruction}
      → step source (Running focus k e w) ≡ next → plain.seen_of (plain.Running c) ≡ seen_in w → At (code_of source c.active.function) c.active.next i
      → ((choice : Choice) → Matches source pages calls next (performed (lower_program source) choice c i))
      → IsMatched (Running focus k e w) (plain.Running c)
  by_one_seen {focus} {k} {e} {w} {c} {next} {i} does seen at goes =
      by_places (Running focus k e w) next (place_in c) [] (plain.Running c) does (tt, tt) (known c i at, tt)
      (executes (Running focus k e w) next c i [] at (λ choice. matches_within_below next (performed (lower_program source) choice c i) (goes choice)) (seen_way focus k e w c seen) goes)

  -- one instruction
  pub by_one : {focus : Focus} {k : List Entry} {e : Environment} {w : World} {c : Configuration} {next : State} {i : Instruction}
      → step source (Running focus k e w) ≡ next → SharedAt source pages calls k e w c
      → At (code_of source c.active.function) c.active.next i
      → ((choice : Choice) → Matches source pages calls next (performed (lower_program source) choice c i))
      → IsMatched (Running focus k e w) (plain.Running c)
  by_one {focus} {k} {e} {w} {c} {next} {i} does shared at goes = by_one_seen does (shared_seen shared) at goes

  -- A source step is matched by two instructions at any code positions; the lemma takes the configuration after the first
  -- instruction as an argument.
  pub by_two_places : {focus : Focus} {k : List Entry} {e : Environment} {w : World} {c : Configuration} {next : State} {i j : Instruction} (d : Configuration)
      → step source (Running focus k e w) ≡ next → SharedAt source pages calls k e w c
      → plain_step.is_within pages calls (plain.Running d) ≡ true → IsOnTheWay above below (Running focus k e w) (plain.Running d)
      → At (code_of source c.active.function) c.active.next i → ((choice : Choice) → performed (lower_program source) choice c i ≡ plain.Running d)
      → At (code_of source d.active.function) d.active.next j → place_in c ≢ place_in d
      → ((choice : Choice) → Matches source pages calls next (performed (lower_program source) choice d j))
      → IsMatched (Running focus k e w) (plain.Running c)
  by_two_places {focus} {k} {e} {w} {c} {next} {i} {j} d does shared within_d way_d at first at_d other goes =
      by_places (Running focus k e w) next (place_in c) (place_in d ∷ []) (plain.Running c) does ((other, tt), (tt, tt)) (known c i at, (known d j at_d, tt))
      (executes (Running focus k e w) next c i (place_in d ∷ []) at
      (λ choice. ap (plain_step.is_within pages calls) (first choice) ∙ within_d) (shared_way focus k e w c shared)
      (λ choice. subst (Executes (Running focus k e w) next (place_in d ∷ [])) (sym (first choice))
      (executes (Running focus k e w) next d j [] at_d (λ later. matches_within_below next (performed (lower_program source) later d j) (goes later)) way_d goes)))

  -- A source step is matched by two instructions; the lemma takes the configuration after the first instruction as an argument.
  pub by_two_known : {focus : Focus} {k : List Entry} {e : Environment} {w : World} {c : Configuration} {next : State} {i j : Instruction} (d : Configuration)
      → step source (Running focus k e w) ≡ next → SharedAt source pages calls k e w c
      → plain_step.is_within pages calls (plain.Running d) ≡ true → IsOnTheWay above below (Running focus k e w) (plain.Running d)
      → At (code_of source c.active.function) c.active.next i → ((choice : Choice) → performed (lower_program source) choice c i ≡ plain.Running d)
      → At (code_of source d.active.function) d.active.next j → c.active.next ≢ d.active.next
      → ((choice : Choice) → Matches source pages calls next (performed (lower_program source) choice d j))
      → IsMatched (Running focus k e w) (plain.Running c)
  by_two_known {focus} {k} {e} {w} {c} {next} {i} {j} d does shared within_d way_d at first at_d other goes =
      by_two_places d does shared within_d way_d at first at_d (apart c d other) goes

  -- A source step is matched by two instructions, of which the first prints nothing.
  pub by_two : {focus : Focus} {k : List Entry} {e : Environment} {w : World} {c : Configuration} {next : State} {i j : Instruction} (d : Configuration)
      → step source (Running focus k e w) ≡ next → SharedAt source pages calls k e w c → SharedAt source pages calls k e w d
      → At (code_of source c.active.function) c.active.next i → ((choice : Choice) → performed (lower_program source) choice c i ≡ plain.Running d)
      → At (code_of source d.active.function) d.active.next j → c.active.next ≢ d.active.next
      → ((choice : Choice) → Matches source pages calls next (performed (lower_program source) choice d j))
      → IsMatched (Running focus k e w) (plain.Running c)
  by_two {focus} {k} {e} {w} {c} {next} {i} {j} d does shared shared_d at first at_d other goes =
      by_two_known d does shared (shared_within k e w d shared_d) (shared_way focus k e w d shared_d) at first at_d other goes

  -- A source step is matched by three instructions; the lemma takes the configurations after the first and the second instruction as
  -- arguments.
  pub by_three : {focus : Focus} {k : List Entry} {e : Environment} {w : World} {c : Configuration} {next : State} {i j l : Instruction} (d f : Configuration)
      → step source (Running focus k e w) ≡ next → SharedAt source pages calls k e w c
      → plain_step.is_within pages calls (plain.Running d) ≡ true → IsOnTheWay above below (Running focus k e w) (plain.Running d)
      → plain_step.is_within pages calls (plain.Running f) ≡ true → IsOnTheWay above below (Running focus k e w) (plain.Running f)
      → At (code_of source c.active.function) c.active.next i → ((choice : Choice) → performed (lower_program source) choice c i ≡ plain.Running d)
      → At (code_of source d.active.function) d.active.next j → ((choice : Choice) → performed (lower_program source) choice d j ≡ plain.Running f)
      → At (code_of source f.active.function) f.active.next l
      → c.active.next ≢ d.active.next → c.active.next ≢ f.active.next → d.active.next ≢ f.active.next
      → ((choice : Choice) → Matches source pages calls next (performed (lower_program source) choice f l))
      → IsMatched (Running focus k e w) (plain.Running c)
  by_three {focus} {k} {e} {w} {c} {next} {i} {j} {l} d f does shared within_d way_d within_f way_f at first at_d second at_f cd cf df goes =
      by_places (Running focus k e w) next (place_in c) (place_in d ∷ place_in f ∷ []) (plain.Running c) does
      ((apart c d cd, (apart c f cf, tt)), ((apart d f df, tt), (tt, tt))) (known c i at, (known d j at_d, (known f l at_f, tt)))
      (executes (Running focus k e w) next c i (place_in d ∷ place_in f ∷ []) at
      (λ choice. ap (plain_step.is_within pages calls) (first choice) ∙ within_d) (shared_way focus k e w c shared)
      (λ choice. subst (Executes (Running focus k e w) next (place_in d ∷ place_in f ∷ [])) (sym (first choice))
      (executes (Running focus k e w) next d j (place_in f ∷ []) at_d
      (λ choice. ap (plain_step.is_within pages calls) (second choice) ∙ within_f) way_d
      (λ choice. subst (Executes (Running focus k e w) next (place_in f ∷ [])) (sym (second choice))
      (executes (Running focus k e w) next f l [] at_f (λ later. matches_within_below next (performed (lower_program source) later f l) (goes later)) way_f goes)))))
