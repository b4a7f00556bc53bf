-- This file is about accesses through fat pointers. The pointer is tested, its index is compared with its length, and the address of the
-- cell is computed. If the source has no fault, then a pointer to a struct points to the whole struct.
use Rattle.std.proofs.Common.{◌≡◌, ◌≢◌, ℕ, ◌+◌, ◌≤◌, ◌<◌, Bool, true, false, List, [], ◌∷◌, ◌++◌, Option, None, Some, refl, sym, ap, subst, ◌∙◌, arith, inl, inr}
use Rattle.std.specs.Prelude.{◌==◌, ◌&&◌, nat_lt, if◌then◌else◌, option_map, not}
use Rattle.std.proofs.lemmas.Bool.{false_from_ne_true, eqb-true, cases_Bool, ltb-true, and_parts}
use Rattle.cyc_words.specs.Word.{add_of, IsWord as IsNumber}
use Rattle.cyc_types.specs.declared.typed.Kind.{Kind}
use Rattle.cyc_types.specs.declared.typed.Kind.TheVariants as kinds
use Rattle.cyc_types.specs.TypedTrees.{Expression, Program}
use Rattle.cyc_plain.specs.declared.instruction.BinaryOperator.TheVariants as plain_binary
use Rattle.cyc_plain.specs.declared.instruction.Comparison.TheVariants as comparisons
use Rattle.cyc_plain.specs.declared.instruction.Operand.{Operand}
use Rattle.cyc_plain.specs.declared.instruction.Operand.TheVariants as operands
use Rattle.cyc_plain.specs.declared.instruction.Instruction.{Instruction}
use Rattle.cyc_plain.specs.declared.instruction.Instruction.TheVariants as instructions
use Rattle.cyc_plain.specs.inside.State as plain
use Rattle.cyc_plain.specs.inside.State.{Words, put, Configuration}
use Rattle.cyc_plain.specs.inside.Step.{Choice, operand_word, with_slots, at, advanced, performed}
use Rattle.cyc_plain.specs.inside.Straight.{At}
use Rattle.cyc_plain.proofs.SlotLaws.{put-same, put-other}
use Rattle.cyc_meaning.specs.Values.{Value, Int, Null, Thin, Fat, Handle, Key, Operand as Kinded, is_kind, is_thin, words_of_kind, bytes_of_kind}
use Rattle.cyc_meaning.specs.Operators.{Result, null_exception, array_bounds}
use Rattle.cyc_meaning.specs.Pointers.{Reach, Stops, followed}
use Rattle.cyc_meaning.specs.Pointers as reaches
use Rattle.cyc_meaning.specs.State.{World, Environment, Follow, Index, Advance, Entry, Needs, Focus, Evaluating, Given, GivenPlace, Throwing, State, Running}
use Rattle.cyc_meaning.specs.Places.{arrives}
use Rattle.cyc_meaning.specs.Step.{wrong, computed, step, leads_to}
use Rattle.cyc_memory_relation.specs.inside.Tables.{Tables}
use Rattle.cyc_memory_relation.specs.inside.Words.{IsPartOf, Points, Is}
use Rattle.cyc_memory_relation.proofs.Pointers.{part-not-null, pointer-word, fat-moved}
use Rattle.cyc_lower_proof.specs.inside.Lowerable.{is_pointer}
use Rattle.cyc_lower_proof.specs.inside.ValueCode.{scale_of, reached_operand, followed_operand}
use Rattle.cyc_lower_proof.specs.inside.Lowering.{lower_program}
use Rattle.cyc_lower_proof.proofs.slots.Widths.{same_kind, Outside}
use Rattle.cyc_lower_proof.proofs.relation.code.Stands.{InsideAt, ReachedAt, FollowedAt, ValueAt}
use Rattle.cyc_lower_proof.proofs.relation.contents.HeldValues.{IsIn, IsLow, Holds, held, IsParts}
use Rattle.cyc_lower_proof.proofs.relation.simulation.Relation.{as_operand, DataIn, SharedAt, Matches, ReadyAt, as_right, in_parts}
use Rattle.cyc_lower_proof.proofs.relation.simulation.Stacks.{types_at, types_on, floor, ValueStack, PlaceStack, code_of, bounds_at, top, base_of}
use Rattle.cyc_lower_proof.proofs.relation.contents.Data.{height-least, Holds-same, in_words}
use Rattle.cyc_lower_proof.proofs.relation.contents.HandlerData.{data_written, data_reported}
use Rattle.cyc_lower_proof.proofs.relation.simulation.Accesses.{IsWell, is_fitting}
use Rattle.cyc_lower_proof.proofs.place_steps.PlaceWords.{stays}
use Rattle.cyc_lower_proof.proofs.relation.simulation.Matched.{IsMatched, silently, by_one}
use Rattle.cyc_lower_proof.proofs.handler_steps.Handling.{raised}
use Rattle.cyc_lower_proof.proofs.pointer_steps.PointerSteps.{int_word, is_moved, outside_index}
use Rattle.cyc_lower_proof.proofs.relation.simulation.Paths.{Link, IsPath, end_of, end_joined, path_joined, is_quiet, by_path}
use Rattle.cyc_lower_proof.proofs.value_steps.ValueWords.{goes_wrong, branch_taken, branch_passed}
use Rattle.cyc_plain.specs.inside.Operators.{truth}
use Rattle.cyc_lower_proof.proofs.pointer_steps.ElementWords.{scaled, parts_of, first_is, cell_is, elsewhere, scaled_elsewhere, failing_tag, null_tag, other_tag, scales}

module _ (source : Program) (pages calls : ℕ) where
  -- ---- the comparison of an index with the length, which is 0 for null

  -- A source step is matched by instructions that take the plain machine from one configuration to another.
  by_path_from : (focus : Focus) (k : List Entry) (e : Environment) (w : World) (c b : Configuration) (next : State) (first rest : List Link) (i : Instruction)
      → step source (Running focus k e w) ≡ next → SharedAt source pages calls k e w c → IsPath source c first → end_of c first ≡ b → IsPath source b rest
      → At (code_of source (end_of b rest).active.function) (end_of b rest).active.next i
      → ((choice : Choice) → Matches source pages calls next (performed (lower_program source) choice (end_of b rest) i))
      → IsMatched source pages calls (Running focus k e w) (plain.Running c)
  by_path_from focus k e w c b next first rest i does shared path ends =
      subst (λ (x : Configuration). IsPath source x rest → At (code_of source (end_of x rest).active.function) (end_of x rest).active.next i
      → ((choice : Choice) → Matches source pages calls next (performed (lower_program source) choice (end_of x rest) i)) → IsMatched source pages calls (Running focus k e w) (plain.Running c))
      ends
      (λ following last goes. by_path source pages calls focus k e w c next (first ++ rest) i does shared (path_joined source c first rest path following)
      (subst (λ (y : Configuration). At (code_of source y.active.function) y.active.next i) (sym (end_joined c first rest)) last)
      (λ choice. subst (λ (y : Configuration). Matches source pages calls next (performed (lower_program source) choice y i)) (sym (end_joined c first rest)) (goes choice)))

  module _ (focus : Focus) (k₀ k : List Entry) (e : Environment) (w : World) (c b : Configuration) (first : List Link) (path : IsPath source c first) (ends : end_of c first ≡ b) (n m u : ℕ) (shared : SharedAt source pages calls k₀ e w c)
      (here : InsideAt (code_of source b.active.function) (bounds_at source b.active.function) (types_at source b.active.function) n m b.active.next u) where
    abbrev comparison : Instruction
    comparison = instructions.Branch comparisons.LessUnsigned (operands.Slot m) (operands.Slot (n + 1)) u

    -- The two outcomes of the bounds comparison: the index is out of bounds, or it is within bounds.
    abbrev outside : Link
    outside = record { instruction = comparison; following = at b (b.active.next + 1) }

    outside_path : nat_lt (b.active.slots m) (b.active.slots (n + 1)) ≡ false → (rest : List Link) → IsPath source (at b (b.active.next + 1)) rest → IsPath source b (outside ∷ rest)
    outside_path least rest following =
        (here.0, (λ choice. branch_passed b (nat_lt (b.active.slots m) (b.active.slots (n + 1))) u least), omega arith, is_quiet b (at b (b.active.next + 1)).active, following)

    abbrev within : Link
    within = record { instruction = comparison; following = at b u }

    within_path : nat_lt (b.active.slots m) (b.active.slots (n + 1)) ≡ true → IsPath source b (within ∷ [])
    within_path less = (here.0, (λ choice. branch_taken b (nat_lt (b.active.slots m) (b.active.slots (n + 1))) u less), omega (arith, here.3), is_quiet b (at b u).active, tt)

    -- The slot for an exception's tag receives the first word of the pointer, and then the tag of the exception.
    abbrev tag_slot : ℕ
    tag_slot = base_of source b.active.function

    abbrev asked : Words
    asked = put b.active.slots tag_slot (truth (not (b.active.slots n == 0)))

    abbrev reported : Words
    reported = put asked tag_slot (add_of (asked tag_slot) null_exception)

    reported_elsewhere : (i : ℕ) → Outside tag_slot 1 i → reported i ≡ b.active.slots i
    reported_elsewhere i out = put-other asked tag_slot i (add_of (asked tag_slot) null_exception) (apart i out) ∙ put-other b.active.slots tag_slot i (truth (not (b.active.slots n == 0))) (apart i out)
      where
        apart : (i : ℕ) → Outside tag_slot 1 i → i ≢ tag_slot
        apart i (inl short) same = absurd (omega (arith, same, short))
        apart i (inr long) same = absurd (omega (arith, same, long))

    reported_tag : reported tag_slot ≡ failing_tag (b.active.slots n)
    reported_tag = put-same asked tag_slot (add_of (asked tag_slot) null_exception) ∙ ap (λ (x : ℕ). add_of x null_exception) (put-same b.active.slots tag_slot (truth (not (b.active.slots n == 0))))

    abbrev asking_links : List Link
    asking_links =
        record { instruction = instructions.Binary plain_binary.NotEqual tag_slot (operands.Slot n) (operands.Word 0); following = at (with_slots b asked) (b.active.next + 2) }
        ∷ record { instruction = instructions.Jump here.2.0; following = at (with_slots b asked) here.2.0 }
        ∷ []

    asking_path : nat_lt (b.active.slots m) (b.active.slots (n + 1)) ≡ false → IsPath source b (outside ∷ asking_links)
    asking_path least =
        let (x, jump, on, reported_there) = here.2 in
        let third : Configuration = at (with_slots b asked) (b.active.next + 2) in
        let fourth : Configuration = at (with_slots b asked) x in
        outside_path least asking_links (
          here.1,
          (λ choice. ap (λ i. plain.Running (at (with_slots b asked) i)) (let two : b.active.next + 1 + 1 ≡ b.active.next + 2 = omega arith in two)),
          omega arith,
          is_quiet (at b (b.active.next + 1)) third.active,
          (jump, (λ choice. refl), on, is_quiet third fourth.active, tt),
        )

    -- An index out of bounds raises an exception: the null exception if the pointer is null, else the bounds exception.
    stops_outside : (tag : ℕ) → IsNumber tag → failing_tag (b.active.slots n) ≡ tag → (shared_after : SharedAt source pages calls k e w b) → DataIn source shared_after.tables b.active.slots k e w b → nat_lt (b.active.slots m) (b.active.slots (n + 1)) ≡ false
        → step source (Running focus k₀ e w) ≡ Running (Throwing tag 0) k e w → IsMatched source pages calls (Running focus k₀ e w) (plain.Running c)
    stops_outside tag number tag_is shared_after facts least does =
        let (x, jump, on, (sum, (throw, none))) = here.2 in
        let last : Configuration = at (with_slots b reported) (x + 1) in
        let reported_facts = data_reported source shared_after.tables b.active.function b.active.base w.objects e.locals k b.active.slots reported b.active.handlers b.globals b.frames reported_elsewhere facts in
        by_path_from focus k₀ e w c b (Running (Throwing tag 0) k e w) first (outside ∷ asking_links) (instructions.Binary plain_binary.Add tag_slot (operands.Slot tag_slot) (operands.Word null_exception)) does shared path ends (asking_path least) sum
        (λ choice. raised source pages calls tag 0 k e w last (operands.Slot tag_slot) (operands.Word 0) number shared_after reported_facts throw (reported_tag ∙ tag_is) refl)

    -- If the index is within bounds, then the access continues.
    goes_on : (next : State) → nat_lt (b.active.slots m) (b.active.slots (n + 1)) ≡ true → step source (Running focus k₀ e w) ≡ next → Matches source pages calls next (plain.Running (at b u))
        → IsMatched source pages calls (Running focus k₀ e w) (plain.Running c)
    goes_on next less does goes =
        by_path_from focus k₀ e w c b next first [] comparison does shared path ends tt here.0
        (λ choice. subst (Matches source pages calls next) (sym (branch_taken b (nat_lt (b.active.slots m) (b.active.slots (n + 1))) u less)) goes)

    goes_on_by : (next : State) (i : Instruction) → nat_lt (b.active.slots m) (b.active.slots (n + 1)) ≡ true → step source (Running focus k₀ e w) ≡ next → At (code_of source b.active.function) u i
        → ((choice : Choice) → Matches source pages calls next (performed (lower_program source) choice (at b u) i)) → IsMatched source pages calls (Running focus k₀ e w) (plain.Running c)
    goes_on_by next i less does last goes = by_path_from focus k₀ e w c b next first (within ∷ []) i does shared path ends (within_path less) last goes

  -- ---- scaling an index before the comparison

  module _ (c : Configuration) (bytes n m t q : ℕ)
      (here : ReachedAt (code_of source c.active.function) (bounds_at source c.active.function) (types_at source c.active.function) (Some bytes) n m t c.active.next q) (low : n ≤ t) (apart : m < t + 3) where
    abbrev far : ℕ
    far = scaled bytes (c.active.slots m)

    -- Before the bounds comparison, only a temporary changes.
    abbrev before : Words
    before = put c.active.slots (t + 3) far

    abbrev after_scaling : Configuration
    after_scaling = at (with_slots c before) here.0

    abbrev scaling : List Link
    scaling = record { instruction = scale_of bytes (t + 3) m; following = after_scaling } ∷ []

    scaling_path : IsPath source c scaling
    scaling_path = (
      here.2.0,
      (λ choice. scales source bytes (t + 3) m c choice ∙ ap (λ i. plain.Running (at (with_slots c before) i)) here.2.1),
      omega (arith, here.2.1),
      is_quiet c after_scaling.active,
      tt,
    )

    pointer_stays : before n ≡ c.active.slots n
    pointer_stays = put-other c.active.slots (t + 3) n far (λ same. absurd (omega (arith, same, low)))

    length_stays : before (n + 1) ≡ c.active.slots (n + 1)
    length_stays = put-other c.active.slots (t + 3) (n + 1) far (λ same. absurd (omega (arith, same, low)))

    index_stays : before m ≡ c.active.slots m
    index_stays = put-other c.active.slots (t + 3) m far (λ same. absurd (omega (arith, same, apart)))

    -- The comparison of the index with the length has the same result after a temporary has changed.
    below_stays : (less : Bool) → nat_lt (c.active.slots m) (c.active.slots (n + 1)) ≡ less → nat_lt (before m) (before (n + 1)) ≡ less
    below_stays less is = ap (λ (x : ℕ). nat_lt x (before (n + 1))) index_stays ∙ (ap (nat_lt (c.active.slots m)) length_stays ∙ is)

  -- ---- the accessed place

  -- An access through a fat pointer whose words are in slots from n on.
  module _ (i : Kind) (target : Option Kind) (n m q : ℕ) (k : List Entry) (e : Environment) (w : World) (c : Configuration) where
    abbrev span_there : Option ℕ
    span_there = option_map bytes_of_kind target

    abbrev waiting : List Entry
    waiting = Needs (Follow kinds.Fat target) ∷ k

    abbrev given : Value → Kinded
    given x = record { kind = i; value = x }

    abbrev free : ℕ
    free = top source c.active.function k

    abbrev tests : Value → Bool
    tests x = is_kind i kinds.Fat && leads_to w target (followed x)

    arrives_so : (x : Value) (reach : Reach) → IsWell (step source (Running (Given (given x)) waiting e w)) → followed x ≡ reach → step source (Running (Given (given x)) waiting e w) ≡ arrives reach k e w
    arrives_so x reach well is =
        ap (λ (b : Bool). if b then arrives (followed x) k e w else wrong w) (is_fitting (tests x) (arrives (followed x) k e w) w well) ∙ ap (λ (y : Reach). arrives y k e w) is

    leads_there : (x : Value) → IsWell (step source (Running (Given (given x)) waiting e w)) → leads_to w target (followed x) ≡ true
    leads_there x well = (and_parts (is_kind i kinds.Fat) (leads_to w target (followed x)) (is_fitting (tests x) (arrives (followed x) k e w) w well)).1

    -- If an access through a fat pointer has no cell size, as it reaches the first cell of its target, then the
    -- code multiplies no index by a size.
    inside_first : (here : ReachedAt (code_of source c.active.function) (bounds_at source c.active.function) (types_at source c.active.function) None n m free c.active.next q)
        → InsideAt (code_of source c.active.function) (bounds_at source c.active.function) (types_at source c.active.function) n m c.active.next here.1
    inside_first here = subst (λ i. InsideAt (code_of source c.active.function) (bounds_at source c.active.function) (types_at source c.active.function) n m i here.1) (sym here.2) here.3

    scaled_facts : (bytes : ℕ) (shared : SharedAt source pages calls k e w c) → DataIn source shared.tables c.active.slots k e w c → DataIn source shared.tables (put c.active.slots (free + 3) (scaled bytes (c.active.slots m))) k e w c
    scaled_facts bytes shared facts =
        let far = scaled bytes (c.active.slots m) in
        data_written source shared.tables c.active.function c.active.base w.objects e.locals k c.active.slots (put c.active.slots (free + 3) far) c.active.handlers c.globals c.frames free 4 (height-least (floor source c.active.function k) (held k))
        (λ x out. scaled_elsewhere c.active.slots free far x out) facts

    -- If the index is within bounds, then an access through a fat pointer finds the target's first cell, or the cell at the index.
    cell_reached : (object start count index : ℕ) {x : Value} → c.active.slots n ≢ 0 → nat_lt (c.active.slots m) (c.active.slots (n + 1)) ≡ true → index < count
        → (shared : SharedAt source pages calls k e w c) → (part : IsPartOf shared.tables object start count (c.active.slots n)) → c.active.slots m ≡ index
        → step source (Running (Given (given x)) waiting e w) ≡ Running (GivenPlace (Thin object (start + index))) k e w → leads_to w target (reaches.At object (start + index)) ≡ true
        → DataIn source shared.tables c.active.slots k e w c → Holds shared.tables c.active.slots (floor source c.active.function k) (held k) → (n ≤ free) × (m < free + 3)
        → ReachedAt (code_of source c.active.function) (bounds_at source c.active.function) (types_at source c.active.function) span_there n m free c.active.next q
        → PlaceStack source c.active.function e.locals (reached_operand span_there n free) 0 q c.frames k
        → IsMatched source pages calls (Running (Given (given x)) waiting e w) (plain.Running c)
    cell_reached object start count index {x} some less below shared part index_is does leads facts holds low here place = by target refl leads here place
      where
        by : (found : Option Kind) → target ≡ found → leads_to w found (reaches.At object (start + index)) ≡ true
            → ReachedAt (code_of source c.active.function) (bounds_at source c.active.function) (types_at source c.active.function) (option_map bytes_of_kind found) n m free c.active.next q
            → PlaceStack source c.active.function e.locals (reached_operand (option_map bytes_of_kind found) n free) 0 q c.frames k
            → IsMatched source pages calls (Running (Given (given x)) waiting e w) (plain.Running c)
        by None is leads here place =
            let first : start + index ≡ 0 = eqb-true (start + index) 0 leads in
            let points = first_is index part first below in
            let next = Running (GivenPlace (Thin object (start + index))) k e w in
            goes_on (Given (given x)) waiting k e w c c [] tt refl n m here.1 shared (inside_first here) next less does
            (subst (λ i. Matches source pages calls next (plain.Running (at c i))) (sym here.4) (shared, facts, (operands.Slot n, 0, pointer-word points, stays points, holds, place)))
        by (Some kind) is leads here place =
            let g = c.active.function in
            let base = floor source g k in
            let slots = c.active.slots in
            let bytes = bytes_of_kind kind in
            let address = add_of (slots n) (scaled bytes (slots m)) in
            let points = cell_is shared.related index (slots m) part kind index_is below leads in
            let after = put (put slots (free + 3) (scaled bytes (slots m))) free address in
            let there : Points shared.tables object (start + index) (after free) = subst (Points shared.tables object (start + index)) (sym (put-same (put slots (free + 3) (scaled bytes (slots m))) free address)) points in
            let next = Running (GivenPlace (Thin object (start + index))) k e w in
            let middle = put slots (free + 3) (scaled bytes (slots m)) in
            goes_on_by (Given (given x)) waiting k e w c (after_scaling c bytes n m free q here low.0 low.1) (scaling c bytes n m free q here low.0 low.1) (scaling_path c bytes n m free q here low.0 low.1) refl n m here.1 shared here.3
            next (instructions.Binary plain_binary.Add free (operands.Slot n) (operands.Slot (free + 3))) (below_stays c bytes n m free q here low.0 low.1 true less) does here.4.0
            (λ choice. subst (λ (z : ℕ). Matches source pages calls next (plain.Running (at (with_slots c (put middle free z)) (here.1 + 1))))
            (sym (ap (λ (y : ℕ). add_of y (middle (free + 3))) (pointer_stays c bytes n m free q here low.0 low.1) ∙ ap (add_of (slots n)) (put-same slots (free + 3) (scaled bytes (slots m)))))
            (subst (λ i. Matches source pages calls next (plain.Running (at (with_slots c after) i))) (sym here.4.1) (
              shared,
              data_written source shared.tables g c.active.base w.objects e.locals k slots after c.active.handlers c.globals c.frames free 4 (height-least base (held k)) (λ x out. elsewhere slots free 3 (scaled bytes (slots m)) address x out) facts,
              (operands.Slot free, 0, pointer-word there, stays there, Holds-same shared.tables slots after base (held k) (λ x short. elsewhere slots free 3 (scaled bytes (slots m)) address x (inl short)) holds, place),
            )))

    -- An access with an index out of bounds raises an exception.
    stops_there : (tag : ℕ) (x : Value) → IsNumber tag → failing_tag (c.active.slots n) ≡ tag → (shared : SharedAt source pages calls k e w c) → DataIn source shared.tables c.active.slots k e w c → (n ≤ free) × (m < free + 3)
        → nat_lt (c.active.slots m) (c.active.slots (n + 1)) ≡ false
        → ReachedAt (code_of source c.active.function) (bounds_at source c.active.function) (types_at source c.active.function) span_there n m free c.active.next q
        → step source (Running (Given (given x)) waiting e w) ≡ Running (Throwing tag 0) k e w → IsMatched source pages calls (Running (Given (given x)) waiting e w) (plain.Running c)
    stops_there tag x number tag_is shared facts low least here does = by span_there here
      where
        by : (span : Option ℕ) → ReachedAt (code_of source c.active.function) (bounds_at source c.active.function) (types_at source c.active.function) span n m free c.active.next q
            → IsMatched source pages calls (Running (Given (given x)) waiting e w) (plain.Running c)
        by None here = stops_outside (Given (given x)) waiting k e w c c [] tt refl n m here.1 shared (inside_first here) tag number tag_is shared facts least does
        by (Some bytes) here =
            stops_outside (Given (given x)) waiting k e w c (after_scaling c bytes n m free q here low.0 low.1) (scaling c bytes n m free q here low.0 low.1) (scaling_path c bytes n m free q here low.0 low.1) refl n m here.1 shared here.3
            tag number (ap failing_tag (pointer_stays c bytes n m free q here low.0 low.1) ∙ tag_is) shared (scaled_facts bytes shared facts) (below_stays c bytes n m free q here low.0 low.1 false least) does

    pub follows_parts : (x : Value) → IsWell (step source (Running (Given (given x)) waiting e w)) → (shared : SharedAt source pages calls k e w c) → DataIn source shared.tables c.active.slots k e w c
        → IsParts shared.tables x c.active.slots n m → Holds shared.tables c.active.slots (floor source c.active.function k) (held k) → (n ≤ free) × (m < free + 3)
        → ReachedAt (code_of source c.active.function) (bounds_at source c.active.function) (types_at source c.active.function) span_there n m free c.active.next q
        → PlaceStack source c.active.function e.locals (reached_operand span_there n free) 0 q c.frames k
        → IsMatched source pages calls (Running (Given (given x)) waiting e w) (plain.Running c)
    follows_parts Null well shared facts is holds low here place =
        stops_there null_exception Null (omega arith) (null_tag (c.active.slots n) is.0) shared facts low (false_from_ne_true (nat_lt (c.active.slots m) (c.active.slots (n + 1))) (λ less. omega (arith, is.1, ltb-true (c.active.slots m) (c.active.slots (n + 1)) less))) here
        (arrives_so Null (Stops null_exception) well refl)
    follows_parts (Fat object start count index) well shared facts (part, count_is, index_is) holds low here place =
        let slots = c.active.slots in
        let x = Fat object start count index in
        let some = part-not-null part in
        let same : nat_lt (slots m) (slots (n + 1)) ≡ nat_lt index count = ap (λ (y : ℕ). nat_lt y (slots (n + 1))) index_is ∙ ap (nat_lt index) count_is in
        elim (cases_Bool (nat_lt (slots m) (slots (n + 1)))) [
          | inl less ↦
              let inside = sym same ∙ less in
              let reach : followed x ≡ reaches.At object (start + index) = ap (λ (b : Bool). if b then reaches.At object (start + index) else Stops array_bounds) inside in
              cell_reached object start count index some less (ltb-true index count inside) shared part index_is (arrives_so x (reaches.At object (start + index)) well reach)
              (subst (λ (y : Reach). leads_to w target y ≡ true) reach (leads_there x well)) facts holds low here place
          | inr least ↦
              let reach : followed x ≡ Stops array_bounds = ap (λ (b : Bool). if b then reaches.At object (start + index) else Stops array_bounds) (sym same ∙ least) in
              stops_there array_bounds x (omega arith) (other_tag (slots n) some) shared facts low least here (arrives_so x (Stops array_bounds) well reach)
        ]
    follows_parts x well shared facts is holds low here place = absurd is

  -- Following a value that is not a pointer is a fault.
  not_followed : (i : Kind) (target : Option Kind) (t : Tables) (kind pointer : Kind) (x : Value) (slots : Words) (n : ℕ) (k : List Entry) (e : Environment) (w : World) → Is t kind x slots n
      → IsWell (step source (Running (Given (record { kind = i; value = x })) (Needs (Follow pointer target) ∷ k) e w)) → is_pointer kind ≡ false → ⊥
  not_followed i target t kind pointer (Int a) slots n k e w is well no_pointer = goes_wrong (is_kind i pointer && leads_to w target (followed (Int a))) w well
  not_followed i target t kind pointer (Handle region) slots n k e w is well no_pointer = goes_wrong (is_kind i pointer && leads_to w target (followed (Handle region))) w well
  not_followed i target t kind pointer (Key region) slots n k e w is well no_pointer = goes_wrong (is_kind i pointer && leads_to w target (followed (Key region))) w well
  not_followed i target t kinds.Nullable pointer x slots n k e w is well no_pointer = let f : true ≡ false = no_pointer in cc
  not_followed i target t kinds.NonNull pointer x slots n k e w is well no_pointer = let f : true ≡ false = no_pointer in cc
  not_followed i target t kinds.Fat pointer x slots n k e w is well no_pointer = let f : true ≡ false = no_pointer in cc
  not_followed i target t kind pointer x slots n k e w is well no_pointer = is

  -- The step of an access through a fat pointer in slots.
  pub follows_fat : (pointer : Kind) (target : Option Kind) (v : Kinded) (o : Operand) (q : ℕ) (k : List Entry) (e : Environment) (w : World) (c : Configuration) → is_thin pointer ≡ false → v.kind ≡ pointer
      → IsWell (step source (Running (Given v) (Needs (Follow pointer target) ∷ k) e w)) → (shared : SharedAt source pages calls k e w c) → DataIn source shared.tables c.active.slots k e w c
      → IsIn shared.tables v c.active.slots o → Holds shared.tables c.active.slots (floor source c.active.function k) (held k) → IsLow o (top source c.active.function k)
      → FollowedAt (code_of source c.active.function) (bounds_at source c.active.function) (types_at source c.active.function) false (option_map bytes_of_kind target) o (top source c.active.function k) c.active.next q
      → PlaceStack source c.active.function e.locals (followed_operand false (option_map bytes_of_kind target) o (top source c.active.function k)) 0 q c.frames k
      → IsMatched source pages calls (Running (Given v) (Needs (Follow pointer target) ∷ k) e w) (plain.Running c)
  follows_fat pointer target v (operands.Word x) q k e w c thin kind well shared facts is holds low access place = absurd access
  follows_fat pointer target v (operands.Slot n) q k e w c thin kind well shared facts is holds low access place = by pointer v.kind thin kind is well
    where
      by : (j i : Kind) → is_thin j ≡ false → i ≡ j → Is shared.tables i v.value c.active.slots n → IsWell (step source (Running (Given (record { kind = i; value = v.value })) (Needs (Follow j target) ∷ k) e w))
          → IsMatched source pages calls (Running (Given (record { kind = i; value = v.value })) (Needs (Follow j target) ∷ k) e w) (plain.Running c)
      by kinds.Fat i thin same is well =
          follows_parts i target n (n + 2) q k e w c v.value well shared facts
          (parts_of shared.tables v.value c.active.slots n (subst (λ x. Is shared.tables x v.value c.active.slots n) same is)) holds (low, omega (arith, low)) access place
      by kinds.Nullable i thin same is well = absurd (let f : true ≡ false = thin in cc)
      by kinds.NonNull i thin same is well = absurd (let f : true ≡ false = thin in cc)
      by kinds.Int i thin same is well = absurd (not_followed i target shared.tables kinds.Int kinds.Int v.value c.active.slots n k e w (subst (λ x. Is shared.tables x v.value c.active.slots n) same is) well refl)
      by kinds.Char i thin same is well = absurd (not_followed i target shared.tables kinds.Char kinds.Char v.value c.active.slots n k e w (subst (λ x. Is shared.tables x v.value c.active.slots n) same is) well refl)
      by kinds.Handle i thin same is well = absurd (not_followed i target shared.tables kinds.Handle kinds.Handle v.value c.active.slots n k e w (subst (λ x. Is shared.tables x v.value c.active.slots n) same is) well refl)
      by kinds.Key i thin same is well = absurd (not_followed i target shared.tables kinds.Key kinds.Key v.value c.active.slots n k e w (subst (λ x. Is shared.tables x v.value c.active.slots n) same is) well refl)

  -- ---- indexing

  -- A fat pointer stays in its slots while its index is evaluated.
  pub indexes_pointer : (peek : Option ℕ) (target : Option Kind) (i : Expression) (base : Kinded) (o : Operand) (k : List Entry) (e : Environment) (w : World) (c : Configuration)
      → IsWell (step source (Running (Given base) (Needs (Index peek target i) ∷ k) e w)) → (shared : SharedAt source pages calls k e w c) → DataIn source shared.tables c.active.slots k e w c
      → IsIn shared.tables base c.active.slots o → Holds shared.tables c.active.slots (floor source c.active.function k) (held k)
      → ValueStack source c.active.function e.locals base.kind o c.active.next c.frames (Needs (Index peek target i) ∷ k)
      → IsMatched source pages calls (Running (Given base) (Needs (Index peek target i) ∷ k) e w) (plain.Running c)
  indexes_pointer peek target i base o k e w c well shared facts is holds (inl (x, m, q, there, at_i, sum, reached, place)) =
      let g = c.active.function in
      let goes = Running (Evaluating i) (Needs (Advance peek target base) ∷ k) e w in
      let fits = is_fitting (is_kind base.kind kinds.Fat) goes w well in
      let fat : base.kind ≡ kinds.Fat = same_kind base.kind kinds.Fat fits in
      silently source pages calls (Running (Given base) (Needs (Index peek target i) ∷ k) e w) goes (plain.Running c) (ap (λ (b : Bool). if b then goes else wrong w) fits) (
        shared,
        facts,
        as_operand x m (subst (λ n. ValueAt (code_of source g) (bounds_at source g) (types_on source g k) i (top source g k + n) x c.active.next m) (sym (ap words_of_kind fat)) at_i)
            (subst (IsIn shared.tables base c.active.slots) there is, holds) (q, (fat, sum), reached, place),
      )
      (omega arith)
  indexes_pointer peek target i base o k e w c well shared facts is holds (inr (n, x, m, q, there, low, simple, at_i, sum, reached, place)) =
      let g = c.active.function in
      let goes = Running (Evaluating i) (Needs (Advance peek target base) ∷ k) e w in
      let fits = is_fitting (is_kind base.kind kinds.Fat) goes w well in
      let fat : base.kind ≡ kinds.Fat = same_kind base.kind kinds.Fat fits in
      silently source pages calls (Running (Given base) (Needs (Index peek target i) ∷ k) e w) goes (plain.Running c) (ap (λ (b : Bool). if b then goes else wrong w) fits) (
        shared,
        facts,
        as_right (
          x,
          m,
          simple,
          subst (λ j. ValueAt (code_of source g) (bounds_at source g) (types_on source g k) i (top source g k + j) x c.active.next m) (sym (ap words_of_kind fat)) at_i,
          (n, q, subst (IsIn shared.tables base c.active.slots) there is, low, holds, ((fat, sum), reached, place)),
        ),
      )
      (omega arith)

  -- The index is added to the fat pointer, and then the access is made: only the third word of the pointer changes, in a temporary.
  pub advances_pointer : (peek : Option ℕ) (target : Option Kind) (base : Kinded) (j : Kind) (x : Value) (k : List Entry) (e : Environment) (w : World) (c : Configuration)
      → IsWell (step source (Running (Given (record { kind = j; value = x })) (Needs (Advance peek target base) ∷ k) e w)) → (shared : SharedAt source pages calls k e w c) → DataIn source shared.tables c.active.slots k e w c
      → ReadyAt source shared.tables (record { kind = j; value = x }) e.locals c.active.function c.active.next c.active.slots c.frames (Needs (Advance peek target base) ∷ k)
      → IsMatched source pages calls (Running (Given (record { kind = j; value = x })) (Needs (Advance peek target base) ∷ k) e w) (plain.Running c)
  advances_pointer peek target base j (Int i) k e w c well shared facts (o, is, (n, q, is_base, low, holds, ((fat, sum), reached, place))) =
      let g = c.active.function in
      let slots = c.active.slots in
      let t = top source g k in
      let (others, p, same, is_right) = in_words shared.tables (record { kind = j; value = Int i }) slots o is in
      let word : operand_word slots o ≡ i = sym same ∙ int_word shared.tables j i others p is_right in
      let change = λ (index : ℕ). add_of index i in
      let waiting = Needs (Follow kinds.Fat target) ∷ k in
      let result = is_moved change base.value waiting e w well in
      let v : Kinded = record { kind = kinds.Fat; value = result.value } in
      let index = add_of (slots (n + 2)) i in
      let after = put slots (t + 2) index in
      let elsewhere_same = λ (m : ℕ) (out : Outside t 3 m). outside_index slots t index m out in
      let first : after n ≡ slots n = put-other slots (t + 2) n index (λ h. absurd (omega (arith, h, low))) in
      let second : after (n + 1) ≡ slots (n + 1) = put-other slots (t + 2) (n + 1) index (λ h. absurd (omega (arith, h, low))) in
      by_one source pages calls (ap (λ (r : Result). computed kinds.Fat r waiting e w) result.gives) shared sum
      (λ choice. subst (λ (y : ℕ). Matches source pages calls (Running (Given v) waiting e w) (plain.Running (advanced (with_slots c (put slots (t + 2) (add_of (slots (n + 2)) y)))))) (sym word) (
        shared,
        in_parts
            (data_written source shared.tables g c.active.base w.objects e.locals k slots after c.active.handlers c.globals c.frames t 3 (height-least (floor source g k) (held k)) elsewhere_same facts) (
              n,
              t + 2,
              q,
              refl,
              fat-moved shared.tables change base.value result.value slots (λ m. if m == 0 then after n else if m == 1 then after (n + 1) else after (t + 2)) n 0 (subst (λ i. Is shared.tables i base.value slots n) fat is_base) result.gives
                  first second (put-same slots (t + 2) index),
              (low, omega arith),
              Holds-same shared.tables slots after (floor source g k) (held k) (λ m short. elsewhere_same m (inl short)) holds,
              reached,
              place,
            ),
      ))
  advances_pointer peek target base j x k e w c well shared facts ready = absurd (well refl)
