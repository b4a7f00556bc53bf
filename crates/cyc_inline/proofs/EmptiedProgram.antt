-- If the unreachable functions of a program keep only a return, the result is a plain (well-formed) program, is no larger, and has
-- only runs of the source program.
use Rattle.std.proofs.Common.{◌≡◌, ℕ, zero, suc, ◌+◌, ◌*◌, ◌<◌, ◌≤◌, Bool, true, false, List, [], ◌∷◌, length, map, Option, Some, None, slice_get, refl, sym, ap, subst, ◌∙◌, arith, inl}
use Rattle.std.specs.Prelude.{All, Contains, if◌then◌else◌, flat_map, sum_by}
use Rattle.std.specs.List.{range_with_len}
use Rattle.std.proofs.lemmas.List.Sums.{sum_by-append, sum_by-cons}
use Rattle.std.proofs.lemmas.Option.{get_or_from_slice_get}
use Rattle.cyc_words.specs.Simulation.{NeverFails}
use Rattle.cyc_words.specs.inside.Following.{Matching, Steps, Follows}
use Rattle.cyc_words.proofs.Items.{below_from_slice_get}
use Rattle.cyc_words.proofs.Matching.{by_one}
use Rattle.cyc_words.proofs.Members.{All_at, All_by_number}
use Rattle.cyc_words.proofs.Prices.{sum_by-flat_map}
use Rattle.cyc_words.proofs.Simulation.{running_ended, running_failed, simulates, in_a_row, follows-never_fails}
use Rattle.cyc_store.specs.State.{StoreState}
use Rattle.cyc_store.specs.Services.{Call}
use Rattle.cyc_plain.specs.declared.instruction.Instruction.{Instruction}
use Rattle.cyc_plain.specs.declared.instruction.Instruction.TheVariants as instructions
use Rattle.cyc_plain.specs.inside.Program.{Routine, Program, CodePlace, no_routine, routine_at, places_from, places_of, instruction_size, size}
use Rattle.cyc_plain.specs.inside.State.{Configuration, State, Running, Ended, Stuck, seen_of, status_of, place_of}
use Rattle.cyc_plain.specs.inside.Step.{Choice, IsAllowed, MayLie, MayServe, callee_of, call_of, called, limited_step, Step, start, machine}
use Rattle.cyc_plain.specs.inside.WellFormed.{HasSlots, leaves, IsInRange, IsRoutine, HasWord, IsPlain}
use Rattle.cyc_plain.proofs.Placed.{routine_in}
use Rattle.cyc_plain.proofs.RunLaws.{lawful}
use Rattle.cyc_inline.specs.inside.Emptied.{is_reached, AreReached, returns, first_return, stub_of, routine_with, routine_kept, first_flag, other_flags, routines_kept, emptied}
use Rattle.cyc_inline.specs.inside.Inlined.{IsLike, IsInlined}
use Rattle.cyc_inline.proofs.EmptiedSteps.{flag_first, flags_other, length_kept, kept_at, slots_same, IsLive, limited_live, instruction_same, step_same}

-- ---- the part of an emptied function after its first return

leaves_at_return : (i : Instruction) → returns i ≡ true → leaves i ≡ true
leaves_at_return (instructions.Return value) returned = refl
leaves_at_return (instructions.Finish value) returned = refl
leaves_at_return i returned = absurd (let e : false ≡ true = returned in cc)

first_returns : (code : List Instruction) (i : Instruction) → slice_get code (first_return code) ≡ Some i → returns i ≡ true
first_returns [] i at = absurd (let e : None ≡ Some i = at in cc)
first_returns (j ∷ code) i at = go (returns j) refl at (first_returns code i)
  where
    go : (b : Bool) → returns j ≡ b → slice_get (j ∷ code) (if b then 0 else suc (first_return code)) ≡ Some i
        → (slice_get code (first_return code) ≡ Some i → returns i ≡ true) → returns i ≡ true
    go true is at others = subst (λ (k : Instruction). returns k ≡ true) (let e : Some j ≡ Some i = at in cc) is
    go false is at others = others at

abbrev IsStub : List Instruction → Instruction → Type 0
IsStub code i = (slice_get code (first_return code) ≡ Some i) × (returns i ≡ true)

stub_is : (b : Bool) (code : List Instruction) (i : Instruction) → stub_of b code ≡ Some i → IsStub code i
stub_is true code i is = absurd (let e : None ≡ Some i = is in cc)
stub_is false code i at = (at, first_returns code i at)

-- ---- sizes

item_least : (code : List Instruction) (k : ℕ) (i : Instruction) → slice_get code k ≡ Some i → instruction_size i ≤ sum_by instruction_size code
item_least [] k i at = absurd (let e : None ≡ Some i = at in cc)
item_least (j ∷ code) zero i at =
    let same : i ≡ j = (let e : Some j ≡ Some i = at in cc) in
    omega (arith, sum_by-cons instruction_size j code, ap instruction_size same)
item_least (j ∷ code) (suc k) i at = omega (arith, sum_by-cons instruction_size j code, item_least code k i at)

kept_smaller : (b : Bool) (r : Routine) → size (routine_kept b r) ≤ size r
kept_smaller b r = go (stub_of b r.code) (stub_is b r.code)
  where
    go : (stub : Option Instruction) → ((i : Instruction) → stub ≡ Some i → IsStub r.code i) → size (routine_with stub r) ≤ size r
    go (Some i) is =
        let (at, returned) = is i refl in
        let least = item_least r.code (first_return r.code) i at in
        let one = sum_by-cons instruction_size i [] in
        omega (arith, least, one)
    go None is = omega arith

kept_small : (rs : List Routine) (bs : List Bool) → sum_by size (routines_kept rs bs) ≤ sum_by size rs
kept_small [] bs = omega arith
kept_small (r ∷ rs) bs =
    omega (
      arith,
      sum_by-cons size r rs,
      sum_by-cons size (routine_kept (first_flag bs) r) (routines_kept rs (other_flags bs)),
      kept_smaller (first_flag bs) r,
      kept_small rs (other_flags bs),
    )

-- ---- places

abbrev own_if : Bool → CodePlace → List CodePlace
own_if true p = p ∷ []
own_if false p = []

abbrev pub own_kept : List Bool → CodePlace → List CodePlace
own_kept reached p = own_if (is_reached reached p.function) p

abbrev in_function : ℕ → List ℕ → List CodePlace
in_function function indices = map (λ (i : ℕ). record { function = function; index = i }) indices

module _ (reached : List Bool) (price : CodePlace → ℕ) where
  abbrev paid : CodePlace → ℕ
  paid p = sum_by price (own_kept reached p)

  paid_if : (p : CodePlace) (b : Bool) → is_reached reached p.function ≡ b → paid p ≡ sum_by price (own_if b p)
  paid_if p b is = ap (λ (x : Bool). sum_by price (own_if x p)) is

  paid_here : (function : ℕ) → is_reached reached function ≡ true → (indices : List ℕ) → sum_by paid (in_function function indices) ≤ sum_by price (in_function function indices)
  paid_here function here [] = omega arith
  paid_here function here (i ∷ indices) =
      let p : CodePlace = record { function = function; index = i } in
      omega (
        arith,
        sum_by-cons paid p (in_function function indices),
        sum_by-cons price p (in_function function indices),
        paid_if p true here,
        sum_by-cons price p [],
        paid_here function here indices,
      )

  paid_nowhere : (function : ℕ) → is_reached reached function ≡ false → (indices : List ℕ) → sum_by paid (in_function function indices) ≤ 0
  paid_nowhere function away [] = omega arith
  paid_nowhere function away (i ∷ indices) =
      let p : CodePlace = record { function = function; index = i } in
      omega (arith, sum_by-cons paid p (in_function function indices), paid_if p false away, paid_nowhere function away indices)

  paid_of : (function : ℕ) (r : Routine) (b : Bool) → is_reached reached function ≡ b
      → sum_by paid (in_function function (range_with_len 0 (length r.code))) ≤ sum_by price (in_function function (range_with_len 0 (length (routine_kept b r).code)))
  paid_of function r true is = paid_here function is (range_with_len 0 (length r.code))
  paid_of function r false is = (let none = paid_nowhere function is (range_with_len 0 (length r.code)) in omega (arith, none))

  paid_from : (function : ℕ) (rs : List Routine) (bs : List Bool) → ((k : ℕ) → is_reached reached (function + k) ≡ is_reached bs k)
      → sum_by paid (places_from function rs) ≤ sum_by price (places_from function (routines_kept rs bs))
  paid_from function [] bs same = omega arith
  paid_from function (r ∷ rs) bs same =
      let here : is_reached reached function ≡ first_flag bs = ap (is_reached reached) (let e : function ≡ function + 0 = omega arith in e) ∙ same 0 ∙ sym (flag_first bs) in
      omega (
        arith,
        sum_by-append paid (in_function function (range_with_len 0 (length r.code))) (places_from (suc function) rs),
        sum_by-append price (in_function function (range_with_len 0 (length (routine_kept (first_flag bs) r).code))) (places_from (suc function) (routines_kept rs (other_flags bs))),
        paid_of function r (first_flag bs) here,
        paid_from (suc function) rs (other_flags bs) (λ k. ap (is_reached reached) (let e : suc function + k ≡ function + suc k = omega arith in e) ∙ same (suc k) ∙ sym (flags_other bs k)),
      )

all_of_one : (P : Instruction → Type 0) (i : Instruction) → P i → All P (i ∷ [])
all_of_one P i holds = All_by_number P (i ∷ []) here
  where
    here : (k : ℕ) (j : Instruction) → slice_get (i ∷ []) k ≡ Some j → P j
    here zero j at = subst P (let e : Some i ≡ Some j = at in cc) holds
    here (suc k) j at = absurd (let e : None ≡ Some j = at in cc)

like_with : (r s : Routine) (stub : Option Instruction) → IsLike r s → IsLike r (routine_with stub s)
like_with r s (Some i) like = record { name = like.name; parameters = like.parameters; results = like.results; slots = like.slots; frame = like.frame }
like_with r s None like = like

like_kept : (r s : Routine) (b : Bool) → IsLike r s → IsLike r (routine_kept b s)
like_kept r s b like = like_with r s (stub_of b s.code) like

like_itself : (r : Routine) → IsLike r r
like_itself r = record { name = refl; parameters = refl; results = refl; slots = omega arith; frame = inl refl }

module _ (program : Program) (reached : List Bool) (plain : IsPlain program) (are : AreReached program reached) where
  abbrev below : Program
  below = emptied program reached

  as_many : length below.functions ≡ length program.functions
  as_many = length_kept program.functions reached

  -- ---- the emptied program is plain

  like : (k : ℕ) → k < length program.functions → IsLike (routine_at program k) (routine_at (emptied program reached) k)
  like k known = subst (IsLike (routine_at program k)) (sym (kept_at program.functions reached k known)) (like_kept (routine_at program k) (routine_at program k) (is_reached reached k) (like_itself (routine_at program k)))

  in_range : (s : Routine) (i : Instruction) → IsInRange program s i → IsInRange (emptied program reached) s i
  in_range s (instructions.Call function arguments count result) range =
      let same = like function range.function_in_range in
      record {
        function_in_range = (let many = as_many in let there = range.function_in_range in omega (arith, many, there));
        takes = range.takes ∙ sym same.parameters;
        arguments_in_range = range.arguments_in_range;
        result_in_range = subst (HasSlots s result) (sym same.results) range.result_in_range;
      }
  in_range s (instructions.Enter function) known = (let many = as_many in omega (arith, many, known))
  in_range s i range = range

  alone_in_range : (r : Routine) (i : Instruction) → returns i ≡ true → IsInRange program r i → IsInRange (emptied program reached) (record r { code = i ∷ [] }) i
  alone_in_range r (instructions.Return value) returned range = range
  alone_in_range r (instructions.Finish value) returned range = range
  alone_in_range r i returned range = absurd (let e : false ≡ true = returned in cc)

  routine : (b : Bool) (r : Routine) → IsRoutine program r → IsRoutine (emptied program reached) (routine_kept b r)
  routine b r is = go (stub_of b r.code) (stub_is b r.code)
    where
      go : (stub : Option Instruction) → ((i : Instruction) → stub ≡ Some i → IsStub r.code i) → IsRoutine (emptied program reached) (routine_with stub r)
      go (Some i) stubs =
          let (at, returned) = stubs i refl in
          record {
            parameters = is.parameters;
            results = is.results;
            frame = is.frame;
            instructions =
                all_of_one (IsInRange (emptied program reached) (record r { code = i ∷ [] })) i
                (alone_in_range r i returned (All_at (IsInRange program r) r.code (first_return r.code) i is.instructions at));
            last = leaves_at_return i returned;
          }
      go None stubs = record {
        parameters = is.parameters;
        results = is.results;
        frame = is.frame;
        instructions = All_by_number (IsInRange (emptied program reached) r) r.code (λ k i at. in_range r i (All_at (IsInRange program r) r.code k i is.instructions at));
        last = is.last;
      }

  words : (b : Bool) (r : Routine) → All HasWord r.code → All HasWord (routine_kept b r).code
  words b r all = go (stub_of b r.code) (stub_is b r.code)
    where
      go : (stub : Option Instruction) → ((i : Instruction) → stub ≡ Some i → IsStub r.code i) → All HasWord (routine_with stub r).code
      go (Some i) stubs = (let (at, returned) = stubs i refl in all_of_one HasWord i (All_at HasWord r.code (first_return r.code) i all at))
      go None stubs = all

  at_kept : (P : Routine → Type 0) → ((k : ℕ) → k < length program.functions → P (routine_kept (is_reached reached k) (routine_at program k))) → All P below.functions
  at_kept P each = All_by_number P below.functions (λ k s at.
      (let there = below_from_slice_get below.functions k s at in
      let many = as_many in
      let known : k < length program.functions = omega (arith, there, many) in
      subst P (sym (kept_at program.functions reached k known) ∙ get_or_from_slice_get below.functions k s no_routine at) (each k known)))

  pub emptied_small : sum_by size (emptied program reached).functions ≤ sum_by size program.functions
  emptied_small = kept_small program.functions reached

  pub emptied_plain : IsPlain (emptied program reached)
  emptied_plain =
      let well = plain.well_formed in
      let same = like program.main well.main in
      record {
        well_formed = record {
          functions = at_kept (IsRoutine (emptied program reached)) (λ k known. routine (is_reached reached k) (routine_at program k) (routine_in program k well known));
          main = (let many = as_many in let known = well.main in omega (arith, many, known));
          main_parameters = same.parameters ∙ well.main_parameters;
          main_results = same.results ∙ well.main_results;
          globals = well.globals;
        };
        words = record {
          functions = at_kept (λ (s : Routine). All HasWord s.code) (λ k known. words (is_reached reached k) (routine_at program k) (plain.words.functions k no_routine known));
          globals = plain.words.globals;
        };
        small = (let less = emptied_small in let small = plain.small in omega (arith, less, small));
      }

  -- ---- runs

  module _ (pages calls : ℕ) where
    abbrev Matches : State → State → Type 0
    Matches s t = (t ≡ s) × IsLive program reached are s

    abbrev matching : Matching (machine program pages calls) (machine (emptied program reached) pages calls)
    matching = record {
      Matches = Matches;
      weight = λ s. 0;
      own = own_kept reached;
      alike = λ s t matches. ap seen_of matches.0;
      endings = λ s t ending matches ended. ap status_of matches.0 ∙ ended;
    }

    -- If unreachable functions are replaced by a single return, a stack address allowed for a step of the new program is also allowed
    -- in the source program.
    lies : (c : Configuration) (base : ℕ) (o : Option ℕ) → MayLie (emptied program reached) base o (Running c) → MayLie program base o (Running c)
    lies c base None may = may
    lies c base (Some function) may = record {
      aligned = may.aligned;
      low = may.low;
      high = subst (λ (n : ℕ). base + 4 * n ≤ c.active.base) (slots_same program reached are function) may.high;
    }

    allowed : (choice : Choice) (c : Configuration) → IsLive program reached are (Running c) → IsAllowed (emptied program reached) (Running c) choice → IsAllowed program (Running c) choice
    allowed choice c (here, waiting) may =
        let same = instruction_same program reached are choice c here waiting in
        record {
          contents = may.contents;
          lies = lies c choice.base (called program (Running c)) (subst (λ (o : Option ℕ). MayLie (emptied program reached) choice.base o (Running c)) (ap callee_of same) may.lies);
          serves = subst (λ (o : Option Call). MayServe choice.serving o (Running c)) (ap (call_of c.active.slots) same) may.serves;
        }

    stepped : (c : Configuration) (u : State) → IsLive program reached are (Running c) → Step (emptied program reached) pages calls (Running c) u
        → (next : State) × Step program pages calls (Running c) next × Matches next u
    stepped c u live (choice, may, is) =
        let (here, waiting) = live in (
          limited_step program pages calls choice (Running c),
          (choice, allowed choice c live may, refl),
          (is ∙ step_same program reached are choice c here waiting pages calls, limited_live program reached are choice c here waiting pages calls),
        )

    owned : (c : Configuration) (t : State) → t ≡ Running c → IsLive program reached are (Running c) → Contains (own_kept reached (place_of (Running c))) (place_of t)
    owned c t is (here, waiting) = subst (λ (b : Bool). Contains (own_if b (place_of (Running c))) (place_of t)) (sym here) (0, (omega arith), sym (ap place_of is))

    matched : Steps (machine program pages calls) (machine (emptied program reached) pages calls) matching
    matched (Running c) t (is, live) running fine =
        by_one (machine program pages calls) (machine (emptied program reached) pages calls) matching (Running c) t (is, live) (ap status_of is) (owned c t is live)
        (λ u step. stepped c u live (subst (λ (s : State). Step (emptied program reached) pages calls s u) is step))
    matched (Ended ending output input) t matches running fine = absurd (running_ended ending (sym running))
    matched (Stuck output input) t matches running fine = absurd (running_failed (sym running))

    follows : (base : ℕ) (store : StoreState) (input : List ℕ) → NeverFails (machine program pages calls) (start program base store input)
        → Follows (machine program pages calls) (machine (emptied program reached) pages calls) [] (own_kept reached) (start program base store input) (start (emptied program reached) base store input)
    follows base store input never =
        simulates (machine program pages calls) (machine (emptied program reached) pages calls) matching matched (lawful (emptied program reached) pages calls) [] (start program base store input) never
        (start (emptied program reached) base store input) refl (refl, (are.main, tt))

  -- ---- emptying keeps the promise of inlining

  pub still_inlined : (given : Program) → IsInlined given program → IsInlined given (emptied program reached)
  still_inlined given by = record {
    plain = emptied_plain;
    as_many = as_many ∙ by.as_many;
    each = λ k known.
        (let many = by.as_many in
        let there : k < length program.functions = omega (arith, many, known) in
        subst (IsLike (routine_at given k)) (sym (kept_at program.functions reached k there)) (like_kept (routine_at given k) (routine_at program k) (is_reached reached k) (by.each k known)));
    globals = by.globals;
    main = by.main;
    own = λ (p : CodePlace). flat_map (own_kept reached) (by.own p);
    cheap = cheap;
    follows = λ pages calls base store input new some_page some_call bytes never.
        (let first = by.follows pages calls base store input new some_page some_call bytes never in
        in_a_row (machine given pages calls) (machine program pages calls) (machine (emptied program reached) pages calls) [] by.own [] (own_kept reached)
        (start given base store input) (start program base store input) (start (emptied program reached) base store input) first
        (follows pages calls base store input
        (follows-never_fails (machine given pages calls) (machine program pages calls) (lawful given pages calls) [] by.own (start given base store input) (start program base store input) first)));
  }
    where
      cheap : (price : CodePlace → ℕ) → sum_by (λ (p : CodePlace). sum_by price (flat_map (own_kept reached) (by.own p))) (places_of given) ≤ sum_by price (places_of (emptied program reached))
      cheap price =
          let paid_each : CodePlace → ℕ = λ (q : CodePlace). sum_by price (own_kept reached q) in
          let same : sum_by (λ (p : CodePlace). sum_by price (flat_map (own_kept reached) (by.own p))) (places_of given) ≡ sum_by (λ (p : CodePlace). sum_by paid_each (by.own p)) (places_of given) =
          λ k. sum_by (λ (p : CodePlace). sum_by-flat_map price (own_kept reached) (by.own p) k) (places_of given) in
          let first = by.cheap paid_each in
          let second = paid_from reached price 0 program.functions reached (λ k. ap (is_reached reached) (let e : 0 + k ≡ k = omega arith in e)) in
          omega (arith, same, first, second)
