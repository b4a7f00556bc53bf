-- The simplified program runs in lockstep with the original one: their states are equal, and the known facts are true in them.
use Rattle.std.proofs.Common.{◌≡◌, ℕ, ◌+◌, ◌*◌, ◌≤◌, Bool, true, false, List, [], ◌∷◌, length, Option, Some, None, refl, sym, ap, subst, ◌∙◌, arith, inl, inr}
use Rattle.std.proofs.lemmas.Bool.{cases_lt, and_parts, cond_both, false≢true}
use Rattle.std.proofs.lemmas.List.{get_or_past}
use Rattle.std.proofs.lemmas.Option.{slice_get_past}
use Rattle.cyc_words.specs.Simulation.{Machine, NeverFails}
use Rattle.cyc_words.specs.inside.Following.{Matching, Steps, Follows}
use Rattle.cyc_words.proofs.Simulation.{running_ended, running_failed, simulates}
use Rattle.cyc_words.proofs.Matching.{by_one}
use Rattle.cyc_words.proofs.Lists.{slice_get_below}
use Rattle.cyc_words.proofs.Members.{All_at}
use Rattle.cyc_store.specs.State.{StoreState}
use Rattle.cyc_store.specs.Services.{Call}
use Rattle.cyc_plain.specs.declared.instruction.Instruction.{Instruction}
use Rattle.cyc_plain.specs.declared.instruction.Instruction.TheVariants as instructions
use Rattle.cyc_plain.specs.declared.instruction.Operand.{Operand}
use Rattle.cyc_plain.specs.inside.Program.{Routine, Program, CodePlace, no_routine, routine_at}
use Rattle.cyc_plain.specs.inside.State.{Configuration, State, Running, Ended, Stuck, seen_of, status_of, place_of}
use Rattle.cyc_plain.specs.inside.Memory.{pins, is_pinned}
use Rattle.cyc_plain.specs.inside.Step.{Choice, IsAllowed, MayLie, MayServe, call_of, callee_of, called, performed, executed, instruction_at, step, limit_of, limit_at, limited, limited_step, Step, start, machine}
use Rattle.cyc_plain.specs.inside.WellFormed.{IsInRange, IsWellFormed}
use Rattle.cyc_plain.proofs.Steps.{function_known}
use Rattle.cyc_plain.proofs.Placed.{routine_in}
use Rattle.cyc_plain.proofs.RunLaws.{lawful, limited_either}
use Rattle.cyc_propagation.specs.declared.fact.Fact.{Fact}
use Rattle.cyc_propagation.specs.declared.fact.Fact.TheVariants as facts_are
use Rattle.cyc_propagation.specs.inside.Facts.{scene_of, is_known, is_unreached, global_offset}
use Rattle.cyc_propagation.specs.inside.Replacement.{simplified_operand, right_operand, folded_unary, simplified_unary, folded_at, holder_in, simplified_binary, simplified_move, decision_in, simplified_branch, value_in, simplified_load, global_value, simplified_global, simplified_instruction}
use Rattle.cyc_propagation.specs.inside.Replacement.{may_vanish, vanishes, place_after, put_at}
use Rattle.cyc_propagation.specs.inside.Table.{IsReplaced, AreReplaced}
use Rattle.cyc_propagation.proofs.Alike.{pinned_alike, DoAlike, either_performs}
use Rattle.cyc_propagation.proofs.States.{HasGlobal, facts_in, IsKnown, known_start}
use Rattle.cyc_propagation.proofs.Kept.{known_after}
use Rattle.cyc_propagation.proofs.Same.{passed_either}
use Rattle.cyc_propagation.proofs.Steps.{performs_same, callee_same, limit_same, request_same}
use Rattle.cyc_propagation.proofs.Tables.{unchanged, put_reached}

-- ---- corresponding functions

-- For every function index, even one at which the program has no function, the simplified function replaces the original one.
pub each_replaced : (program simplified : Program) → AreReplaced program simplified → (k : ℕ) → IsReplaced program (routine_at program k) (routine_at simplified k)
each_replaced program simplified are k = elim (cases_lt k (length program.functions)) [
  | inl below ↦ are.each k below
  | inr past ↦
      let none : no_routine ≡ routine_at program k = sym (get_or_past program.functions k no_routine past) in
      let no_other : no_routine ≡ routine_at simplified k = sym (get_or_past simplified.functions k no_routine (let l = are.as_many in omega (arith, past, l))) in
      subst (λ (s : Routine). IsReplaced program (routine_at program k) s) no_other
      (subst (λ (r : Routine). IsReplaced program r no_routine) none
      (unchanged program no_routine [] (record { as_many = refl; right = λ slot free. refl })))
]

-- ---- pinned slots

simplified_pins_same : (facts : List Fact) (i : Instruction) (slot : ℕ) → pins (simplified_instruction facts i) slot ≡ pins i slot
simplified_pins_same facts (instructions.Move destination source) slot = go (is_known facts (facts_are.Equal destination (simplified_operand facts source)))
  where
    go : (b : Bool) → pins (simplified_move b destination (simplified_operand facts source)) slot ≡ false
    go true = refl
    go false = refl
simplified_pins_same facts (instructions.Binary operator destination left right) slot = go (folded_at facts operator destination (simplified_operand facts left) (right_operand facts operator (simplified_operand facts right))) (holder_in facts operator (simplified_operand facts left) (right_operand facts operator (simplified_operand facts right)))
  where
    go : (f o : Option ℕ) → pins (simplified_binary f o operator destination (simplified_operand facts left) (right_operand facts operator (simplified_operand facts right))) slot ≡ false
    go (Some word) o = refl
    go None (Some found) = refl
    go None None = refl
simplified_pins_same facts (instructions.Branch comparison left right target) slot = go (decision_in facts comparison (simplified_operand facts left) (simplified_operand facts right))
  where
    go : (o : Option Bool) → pins (simplified_branch o comparison (simplified_operand facts left) (simplified_operand facts right) target) slot ≡ false
    go (Some true) = refl
    go (Some false) = passed_either (λ (i : Instruction). pins i slot ≡ false) (simplified_operand facts left) (simplified_operand facts right) target (λ number. refl) refl
    go None = refl
simplified_pins_same facts (instructions.Load destination address offset) slot = go (value_in facts (simplified_operand facts address) offset)
  where
    go : (o : Option Operand) → pins (simplified_load o destination (simplified_operand facts address) offset) slot ≡ false
    go (Some value) = refl
    go None = refl
simplified_pins_same facts (instructions.Unary operator destination operand) slot = go (folded_unary facts operator (simplified_operand facts operand))
  where
    go : (o : Option ℕ) → pins (simplified_unary o operator destination (simplified_operand facts operand)) slot ≡ false
    go (Some word) = refl
    go None = refl
simplified_pins_same facts (instructions.LoadGlobal destination global) slot = go (global_value facts (global_offset global))
  where
    go : (o : Option Operand) → pins (simplified_global o destination global) slot ≡ false
    go (Some value) = refl
    go None = refl
simplified_pins_same facts i slot = refl

-- The replacement of an instruction takes the addresses of the same slots, since only instructions that take no address are dropped.
put_pins_same : (facts : List Fact) (index count : ℕ) (i : Instruction) (slot : ℕ) → pins (put_at facts index count i) slot ≡ pins i slot
put_pins_same facts index count i slot =
    cond_both (vanishes facts i) (instructions.Jump (place_after index count)) (simplified_instruction facts i) (λ j. pins j slot ≡ pins i slot)
    (λ is. sym (go i (and_parts (is_unreached facts) (may_vanish i) is).1))
    (λ stays. simplified_pins_same facts i slot)
  where
    go : (i : Instruction) → may_vanish i ≡ true → pins i slot ≡ false
    go (instructions.AddressOf destination first number) may = absurd (false≢true may)
    go i may = refl

-- ---- globals

-- If the global that an instruction names exists, so does the global that its replacement names.
still_has : (program : Program) (facts : List Fact) (i : Instruction) → HasGlobal program i → HasGlobal program (simplified_instruction facts i)
still_has program facts (instructions.Move destination source) has = go (is_known facts (facts_are.Equal destination (simplified_operand facts source)))
  where
    go : (b : Bool) → HasGlobal program (simplified_move b destination (simplified_operand facts source))
    go true = tt
    go false = tt
still_has program facts (instructions.Unary operator destination operand) has = go (folded_unary facts operator (simplified_operand facts operand))
  where
    go : (o : Option ℕ) → HasGlobal program (simplified_unary o operator destination (simplified_operand facts operand))
    go (Some word) = tt
    go None = tt
still_has program facts (instructions.Binary operator destination left right) has = go (folded_at facts operator destination (simplified_operand facts left) (right_operand facts operator (simplified_operand facts right))) (holder_in facts operator (simplified_operand facts left) (right_operand facts operator (simplified_operand facts right)))
  where
    go : (f o : Option ℕ) → HasGlobal program (simplified_binary f o operator destination (simplified_operand facts left) (right_operand facts operator (simplified_operand facts right)))
    go (Some word) o = tt
    go None (Some found) = tt
    go None None = tt
still_has program facts (instructions.Branch comparison left right target) has = go (decision_in facts comparison (simplified_operand facts left) (simplified_operand facts right))
  where
    go : (o : Option Bool) → HasGlobal program (simplified_branch o comparison (simplified_operand facts left) (simplified_operand facts right) target)
    go (Some true) = tt
    go (Some false) = passed_either (HasGlobal program) (simplified_operand facts left) (simplified_operand facts right) target (λ slot. tt) tt
    go None = tt
still_has program facts (instructions.Load destination address offset) has = go (value_in facts (simplified_operand facts address) offset)
  where
    go : (o : Option Operand) → HasGlobal program (simplified_load o destination (simplified_operand facts address) offset)
    go (Some value) = tt
    go None = tt
still_has program facts (instructions.LoadGlobal destination global) has = go (global_value facts (global_offset global))
  where
    go : (o : Option Operand) → HasGlobal program (simplified_global o destination global)
    go (Some value) = tt
    go None = has
still_has program facts i has = has

named_has : (program : Program) (r : Routine) (i : Instruction) → IsInRange program r i → HasGlobal program i
named_has program r (instructions.LoadGlobal destination global) range = range.1
named_has program r (instructions.StoreGlobal global source) range = range.0
named_has program r i range = tt

has_global : (program : Program) → IsWellFormed program → (place : CodePlace) (i : Instruction) → instruction_at program place ≡ Some i → HasGlobal program i
has_global program well place i at =
    let r : Routine = routine_at program place.function in
    let is = routine_in program place.function well (function_known program place i at) in
    named_has program r i (All_at (IsInRange program r) r.code place.index i is.instructions at)

module _ (program simplified : Program) (are : AreReplaced program simplified) where
  pinned_same : (function slot : ℕ) → is_pinned (routine_at simplified function).code slot ≡ is_pinned (routine_at program function).code slot
  pinned_same function slot =
      let r = each_replaced program simplified are function in
      pinned_alike slot (routine_at program function).code (routine_at simplified function).code r.as_many
      (λ index i at.
      let count = length (routine_at program function).code in (put_at (r.table index) index count i, r.each index i at, put_pins_same (r.table index) index count i slot))

  pub are_alike : DoAlike program simplified
  are_alike = record {
    results = λ function. (each_replaced program simplified are function).results;
    pinned = pinned_same;
    globals = are.globals;
  }

  -- ---- steps

  module _ (well : IsWellFormed program) (choice : Choice) (c : Configuration) (known : IsKnown program simplified (each_replaced program simplified are) (Running c)) where
    abbrev place : CodePlace
    place = place_of (Running c)

    abbrev facts : List Fact
    facts = facts_in program simplified (each_replaced program simplified are) c.active.function c.active.next

    -- `AreBoth` says that, at the position executed next, the simplified program has the replacement of the original instruction, or
    -- both programs have none.
    abbrev AreBoth : Option Instruction → Option Instruction → Type 0
    AreBoth (Some i) other = other ≡ Some (put_at facts c.active.next (length (routine_at program c.active.function).code) i)
    AreBoth None other = other ≡ None

    both : (o : Option Instruction) → instruction_at program place ≡ o → AreBoth o (instruction_at simplified place)
    both (Some i) at = (each_replaced program simplified are c.active.function).each c.active.next i at
    both None at = slice_get_past (routine_at simplified c.active.function).code c.active.next past
      where
        past : length (routine_at simplified c.active.function).code ≤ c.active.next
        past = elim (cases_lt c.active.next (length (routine_at program c.active.function).code)) [
          | inl below ↦
              let (i, there) = slice_get_below (routine_at program c.active.function).code c.active.next below in
              absurd (let e : None ≡ Some i = sym at ∙ there in cc)
          | inr end ↦ (let l = (each_replaced program simplified are c.active.function).as_many in omega (arith, end, l))
        ]

    -- `IsSame` says that a step of the simplified program has the same result as in the original one, and
    -- that the facts known after it are true.
    record IsSame (o other : Option Instruction) : Type 0 where
      pub does : executed simplified choice c other ≡ executed program choice c o
      pub knows : IsKnown program simplified (each_replaced program simplified are) (executed program choice c o)
      pub calls : callee_of other ≡ callee_of o
      pub asks : call_of c.active.slots other ≡ call_of c.active.slots o
      pub limits : (most : ℕ) → limit_of other most ≡ limit_of o most

    executes_same : (o other : Option Instruction) → instruction_at program place ≡ o → instruction_at simplified place ≡ other → AreBoth o other → IsSame o other
    executes_same None other here at is = record {
      does = ap (executed simplified choice c) is;
      knows = tt;
      calls = ap callee_of is;
      asks = ap (call_of c.active.slots) is;
      limits = λ most. ap (λ (x : Option Instruction). limit_of x most) is;
    }
    executes_same (Some i) other here at put =
        let is = put ∙ ap Some (put_reached (scene_of program c) facts c.active.next (length (routine_at program c.active.function).code) i known.0) in
        let j : Instruction = simplified_instruction facts i in
        let same : performed program choice c j ≡ performed program choice c i = performs_same program choice c facts known.0 i in
        record {
          does = ap (executed simplified choice c) is ∙ either_performs program simplified are_alike choice c j ∙ same;
          knows = subst (IsKnown program simplified (each_replaced program simplified are)) same
              (known_after program simplified (each_replaced program simplified are) well choice c j (still_has program facts i (has_global program well place i here)) (at ∙ is) known);
          calls = ap callee_of is ∙ callee_same facts i;
          asks = ap (call_of c.active.slots) is ∙ request_same (scene_of program c) facts known.0 i;
          limits = λ most. ap (λ (x : Option Instruction). limit_of x most) is ∙ limit_same most facts i;
        }

    same_step : IsSame (instruction_at program place) (instruction_at simplified place)
    same_step = executes_same (instruction_at program place) (instruction_at simplified place) refl refl (both (instruction_at program place) refl)

    -- If the simplified program may place a callee's slots at an address, the original program may place them there too.
    lies_same : (base : ℕ) (o : Option ℕ) → MayLie simplified base o (Running c) → MayLie program base o (Running c)
    lies_same base None may = may
    lies_same base (Some function) may = record {
      aligned = may.aligned;
      low = may.low;
      high = subst (λ (n : ℕ). base + 4 * n ≤ c.active.base) (each_replaced program simplified are function).slots may.high;
    }

    allowed_same : IsAllowed simplified (Running c) choice → IsAllowed program (Running c) choice
    allowed_same allowed = record {
      contents = allowed.contents;
      lies = lies_same choice.base (called program (Running c)) (subst (λ (o : Option ℕ). MayLie simplified choice.base o (Running c)) same_step.calls allowed.lies);
      serves = subst (λ (o : Option Call). MayServe choice.serving o (Running c)) same_step.asks allowed.serves;
    }

    known_limited : (pages calls : ℕ) → IsKnown program simplified (each_replaced program simplified are) (limited_step program pages calls choice (Running c))
    known_limited pages calls =
        limited_either (IsKnown program simplified (each_replaced program simplified are)) pages (limit_at program (Running c) calls) (Running c) (step program choice (Running c)) (λ within. same_step.knows) tt

    does_limited : (pages calls : ℕ) → limited_step simplified pages calls choice (Running c) ≡ limited_step program pages calls choice (Running c)
    does_limited pages calls =
        ap (λ (n : ℕ). limited pages n (Running c) (step simplified choice (Running c))) (same_step.limits calls)
        ∙ ap (limited pages (limit_at program (Running c) calls) (Running c)) same_step.does

  -- ---- runs

  abbrev above : (pages calls : ℕ) → Machine
  above pages calls = machine program pages calls

  abbrev below : (pages calls : ℕ) → Machine
  below pages calls = machine simplified pages calls

  abbrev Matches : State → State → Type 0
  Matches s t = (t ≡ s) × IsKnown program simplified (each_replaced program simplified are) s

  abbrev matching : (pages calls : ℕ) → Matching (machine program pages calls) (machine simplified pages calls)
  matching pages calls = record {
    Matches = Matches;
    weight = λ s. 0;
    own = λ place. place ∷ [];
    alike = λ s t matches. ap seen_of matches.0;
    endings = λ s t ending matches ended. ap status_of matches.0 ∙ ended;
  }

  stepped : IsWellFormed program → (pages calls : ℕ) (c : Configuration) (u : State) → IsKnown program simplified (each_replaced program simplified are) (Running c)
      → Step simplified pages calls (Running c) u → (next : State) × Step program pages calls (Running c) next × Matches next u
  stepped well pages calls c u known (choice, allowed, is) =
      let next : State = limited_step program pages calls choice (Running c) in
      (next, (choice, allowed_same well choice c known allowed, refl), (is ∙ does_limited well choice c known pages calls, known_limited well choice c known pages calls))

  matched : IsWellFormed program → (pages calls : ℕ) → Steps (machine program pages calls) (machine simplified pages calls) (matching pages calls)
  matched well pages calls (Running c) t (is, known) running fine =
      by_one (above pages calls) (below pages calls) (matching pages calls) (Running c) t (is, known) (ap status_of is) (0, (omega arith), sym (ap place_of is))
      (λ u step. stepped well pages calls c u known (subst (λ s. Step simplified pages calls s u) is step))
  matched well pages calls (Ended ending output input) t matches running fine = absurd (running_ended ending (sym running))
  matched well pages calls (Stuck output input) t matches running fine = absurd (running_failed (sym running))

  start_same : (base : ℕ) (store : StoreState) (input : List ℕ) → start simplified base store input ≡ start program base store input
  start_same base store input = λ i. start (record program { main = are.main i; globals = are.globals i }) base store input

  -- Each run of the simplified program is a run of the original program.
  pub follows : IsWellFormed program → (pages calls base : ℕ) (store : StoreState) (input : List ℕ) → NeverFails (machine program pages calls) (start program base store input)
      → Follows (machine program pages calls) (machine simplified pages calls) [] (λ place. place ∷ []) (start program base store input) (start simplified base store input)
  follows well pages calls base store input never =
      simulates (above pages calls) (below pages calls) (matching pages calls) (matched well pages calls) (lawful simplified pages calls) [] (start program base store input) never
      (start simplified base store input) refl
      (start_same base store input, known_start program simplified (each_replaced program simplified are) base store input)
