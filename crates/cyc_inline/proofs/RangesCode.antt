-- Each emitted instruction names only existing slots, globals and functions, and contains only numbers that fit machine
-- words. No emitted instruction takes the address of a slot that was added to the function.
use Rattle.std.proofs.Common.{◌≡◌, ℕ, zero, suc, ◌+◌, ◌<◌, ◌≤◌, Bool, true, false, List, [], ◌∷◌, length, Option, Some, None, refl, sym, ap, subst, ◌∙◌, arith, inl, inr, length-append}
use Rattle.std.specs.Prelude.{All, ◌⊎◌, ◌==◌, ◌||◌, nat_le, if◌then◌else◌}
use Rattle.std.specs.List.{AllByRecursion}
use Rattle.std.proofs.lemmas.Bool.{cases_lt, eqb-true, le-leb, false≢true}
use Rattle.std.proofs.lemmas.List.Elements.{All-from_recursion}
use Rattle.cyc_words.proofs.Lists.{all_append}
use Rattle.cyc_words.proofs.Members.{All_at}
use Rattle.cyc_plain.specs.declared.instruction.Instruction.{Instruction}
use Rattle.cyc_plain.specs.declared.instruction.Instruction.TheVariants as instructions
use Rattle.cyc_plain.specs.declared.instruction.Operand.TheVariants as operands
use Rattle.cyc_plain.specs.inside.Memory.{pins, is_pinned}
use Rattle.cyc_plain.specs.inside.Program.{Routine, Program, routine_at}
use Rattle.cyc_plain.specs.inside.Straight.{At}
use Rattle.cyc_plain.specs.inside.WellFormed.{HasSlots, IsCallInRange, IsInRange, IsRoutine, HasWord, is_return, leaves}
use Rattle.cyc_plain.proofs.Placed.{routine_in, goes_after}
use Rattle.cyc_inline.specs.declared.origin.Origin.{Origin}
use Rattle.cyc_inline.specs.declared.site.Call.{Call}
use Rattle.cyc_inline.specs.declared.site.Site.{Site}
use Rattle.cyc_inline.specs.inside.Opened.{moved, IsDuplicate, passing, is_end, is_of_leaf}
use Rattle.cyc_inline.specs.inside.Sites.{chosen_call, place_in, stands_in, way_following, way_count, inside_part, inside_count, inside_code, places_inside, site_code}
use Rattle.cyc_inline.specs.inside.Emission.{IsOpenable, may_hoisted, own_part, part, part_count, call_size, site_of, opened_code, opened_end}
use Rattle.cyc_inline.proofs.ChoosingCalls.{in_code, call_is, call_in_range}
use Rattle.cyc_inline.proofs.EmissionPieces.{offset, all_pieces, offset_most, offset_below}
use Rattle.cyc_inline.proofs.EmissionSites.{count_inside, size_is, line_place, rest_place, piece_inside, inside_code_is as inside_is}
use Rattle.cyc_inline.proofs.EmissionPlaces.{count_at, end_is, place_next, piece_at, code_is, IsOf, begins_at, long_in}
use Rattle.cyc_inline.proofs.RangesMoved.{moved_in, has_word, same_return_moved, same_pins, duplicate_in, duplicate_word, same_return_duplicate, same_pins_duplicate, hoisted_in, hoisted_word, no_return_hoisted, hoisted_pins_none, leaf_pins_none, no_try, no_return}

-- ---- a property of each instruction of a part

all_passing : (P : Instruction → Type 0) (destination source count : ℕ)
    → ((n : ℕ) → n < count → P (instructions.Move (destination + n) (operands.Slot (source + n)))) → AllByRecursion P (passing destination source count)
all_passing P destination source zero each = tt
all_passing P destination source (suc count) each =
    let to : destination + 0 ≡ destination = omega arith in
    let from : source + 0 ≡ source = omega arith in (
      subst (λ (n : ℕ). P (instructions.Move n (operands.Slot source))) to
          (subst (λ (n : ℕ). P (instructions.Move (destination + 0) (operands.Slot n))) from (each 0 (omega arith))),
      all_passing P (destination + 1) (source + 1) count (λ n below.
          let further : destination + suc n ≡ destination + 1 + n = omega arith in
          let next : source + suc n ≡ source + 1 + n = omega arith in
          subst (λ (k : ℕ). P (instructions.Move k (operands.Slot (source + 1 + n)))) further
          (subst (λ (k : ℕ). P (instructions.Move (destination + suc n) (operands.Slot k))) next (each (suc n) (omega (arith, below))))),
    )

-- Says that a property holds for each instruction that replaces a call.
record HoldsIn (P : Instruction → Type 0) (site : Site) (place : ℕ → ℕ) (t : Routine) : Type 0 where
  pub passed : (n : ℕ) → n < site.call.count → P (instructions.Move (site.shift + n) (operands.Slot (site.call.arguments + n)))
  pub enters : P (instructions.Enter site.call.callee)
  pub inside : (k : ℕ) (i : Instruction) → At t.code k i → is_end i ≡ None → P (moved site.shift place i)
  pub given : (k : ℕ) (i : Instruction) (value n : ℕ) → At t.code k i → is_end i ≡ Some value → n < site.results
      → P (instructions.Move (site.call.result + n) (operands.Slot (site.shift + value + n)))
  pub goes : P (instructions.Jump site.following)

module _ (P : Instruction → Type 0) (site : Site) (t : Routine) (place : ℕ → ℕ) (holds : HoldsIn P site place t) where
  all_way : (is_last : Bool) → AllByRecursion P (way_following is_last site.following)
  all_way true = tt
  all_way false = (holds.goes, tt)

  all_part : (k : ℕ) (i : Instruction) (end : Option ℕ) → is_end i ≡ end → At t.code k i → AllByRecursion P (inside_part site place k i end)
  all_part k i (Some value) is at =
      all_append P (passing site.call.result (site.shift + value) site.results) (way_following (k + 1 == site.call.line) site.following)
      (all_passing P site.call.result (site.shift + value) site.results (λ n below. holds.given k i value n at is below)) (all_way (k + 1 == site.call.line))
  all_part k i None is at = (holds.inside k i at is, tt)

  all_kept : (is : List Instruction) (b : Bool) → AllByRecursion P is → AllByRecursion P (if b then is else [])
  all_kept is true all = all
  all_kept is false all = tt

  all_inside : (in_line : Bool) → AllByRecursion P (inside_code site place in_line 0 t.code)
  all_inside in_line =
      subst (AllByRecursion P) (sym (inside_is site place in_line 0 t.code))
      (all_pieces P (piece_inside site place in_line) 0 t.code (λ k i at.
      let same : k ≡ 0 + k = omega arith in
      subst (λ (n : ℕ). AllByRecursion P (piece_inside site place in_line n i)) same
      (all_kept (inside_part site place k i (is_end i)) (stands_in in_line site.call.line k) (all_part k i (is_end i) refl at))))

all_site : (P : Instruction → Type 0) (site : Site) (in_line : Bool) (here : ℕ) (t : Routine) → HoldsIn P site (places_inside site here t.code) t
    → AllByRecursion P (site_code site in_line here t.code)
all_site P site true here t holds =
    let place = places_inside site here t.code in
    all_append P (passing site.shift site.call.arguments site.call.count) (instructions.Enter site.call.callee ∷ inside_code site place true 0 t.code)
    (all_passing P site.shift site.call.arguments site.call.count holds.passed)
    (holds.enters, all_inside P site t place holds true)
all_site P site false here t holds = all_inside P site t (places_inside site here t.code) holds false

-- ---- pinned slots

pub pinned_at : (code : List Instruction) (k : ℕ) (i : Instruction) (slot : ℕ) → At code k i → pins i slot ≡ true → is_pinned code slot ≡ true
pinned_at [] k i slot at pinned = absurd (let e : None ≡ Some i = at in cc)
pinned_at (j ∷ code) zero i slot at pinned = (let e : j ≡ i = (let s : Some j ≡ Some i = at in cc) in or_left (pins j slot) (is_pinned code slot) (ap (λ (x : Instruction). pins x slot) e ∙ pinned))
  where
    or_left : (a b : Bool) → a ≡ true → (a || b) ≡ true
    or_left true b is = refl
    or_left false b is = absurd (false≢true is)
pinned_at (j ∷ code) (suc k) i slot at pinned = or_right (pins j slot) (is_pinned code slot) (pinned_at code k i slot at pinned)
  where
    or_right : (a b : Bool) → b ≡ true → (a || b) ≡ true
    or_right true b is = refl
    or_right false b is = is

-- ---- the out-of-line part of a callee's code

-- If a callee's instruction is placed after the caller's code, its replacement contains at least one instruction.
pub rest_some : (results line index : ℕ) (i : Instruction) → line ≤ index → 1 ≤ count_inside results line false index i
rest_some results line index i past =
    let there : nat_le line index ≡ true = le-leb line index past in
    let counted : count_inside results line false index i ≡ inside_count results line index (is_end i) = ap (λ (b : Bool). if b then inside_count results line index (is_end i) else 0) there in
    omega (arith, counted, go (is_end i))
  where
    way : (is_last : Bool) → is_last ≡ (index + 1 == line) → 1 ≤ way_count is_last
    way true is = (let last = eqb-true (index + 1) line (sym is) in absurd (omega (arith, last, past)))
    way false is = omega arith

    go : (end : Option ℕ) → 1 ≤ inside_count results line index end
    go (Some value) = omega (arith, way (index + 1 == line) refl)
    go None = omega arith

rest_below : (results line first : ℕ) (code : List Instruction) (k : ℕ) → k < length code → line ≤ first + k
    → offset (count_inside results line false) first code k < offset (count_inside results line false) first code (length code)
rest_below results line first [] k below past = absurd (omega (arith, below))
rest_below results line first (i ∷ code) zero below past = omega (arith, rest_some results line first i (omega (arith, past)))
rest_below results line first (i ∷ code) (suc k) below past = omega (arith, rest_below results line (suc first) code k (omega (arith, below)) (omega (arith, past)))

-- ---- a function with inlined calls

module _ (program : Program) (number : ℕ) (chosen : List ℕ) (front_at : ℕ → Instruction → List Instruction) (places rests : List ℕ) (s : Routine) (origins : List Origin) (is : IsOf program number chosen front_at places rests s origins) where
  abbrev r : Routine
  r = routine_at program number

  abbrev place : ℕ → ℕ
  place = place_in places

  abbrev rest : ℕ → ℕ
  rest = place_in rests

  routine : IsRoutine program r
  routine = routine_in program number is.parts.plain.well_formed is.parts.is_function

  -- Says that the call at index k is inlined and satisfies the conditions for inlining.
  pub record IsOpenedAt (k : ℕ) (call : Call) : Type 0 where
    pub call_in_range : IsCallInRange program r call.callee call.arguments call.count call.result
    pub openable : IsOpenable program r s.slots call
    pub further : k + 1 < length r.code
    pub next : place (k + 1) ≡ place k + call_size program true call
    pub fits : rest k + call_size program false call ≤ length s.code

  abbrev site_at : ℕ → Call → Site
  site_at k call = site_of program r call (place (k + 1)) (rest k)

  abbrev inner : ℕ → Call → ℕ → ℕ
  inner k call = places_inside (site_at k call) (place k) (routine_at program call.callee).code

  some : (k : ℕ) (i : Instruction) → 1 ≤ count_at program chosen front_at true k i
  some k i = go (chosen_call i (place_in chosen k)) (length (front_at k i))
    where
      go : (call : Option Call) (front : ℕ) → 1 ≤ part_count program true call front
      go (Some call) front = omega arith
      go None front = omega arith

  abbrev total : (in_line : Bool) → ℕ
  total in_line = offset (count_at program chosen front_at in_line) 0 r.code (length r.code)

  pub code_long : length s.code ≡ total true + total false
  code_long =
      ap (λ (code : List Instruction). length code) is.code
      ∙ length-append (opened_code program number chosen front_at place rest true 0 r.code) (opened_code program number chosen front_at place rest false 0 r.code)
      ∙ (let front = long_in program number chosen front_at places rests s origins is true in
      let back = long_in program number chosen front_at places rests s origins is false in
      omega (arith, front, back))

  pub placed : (k : ℕ) → k < length r.code → place k < length s.code
  placed k below =
      let here = begins_at program number chosen front_at places rests s origins is true k (omega (arith, below)) in
      omega (arith, here, code_long, offset_below (count_at program chosen front_at true) some 0 r.code k below)

  pub opened_at : (k : ℕ) (i : Instruction) (call : Call) → At r.code k i → chosen_call i (place_in chosen k) ≡ Some call → IsOpenedAt k call
  opened_at k i call at opened =
      let (same, line, some) = call_is i (place_in chosen k) call opened in
      let stays : leaves i ≡ false = ap leaves same in
      let more = goes_after program r k i routine at stays in
      let end = end_is program chosen front_at true 0 0 r.code in
      let following = begins_at program number chosen front_at places rests s origins is false (k + 1) (omega (arith, more)) in
      let most = offset_most (count_at program chosen front_at false) 0 r.code (k + 1) in
      let next : rest (k + 1) ≡ rest k + call_size program false call =
      place_next program chosen front_at false (opened_end program chosen front_at true 0 0 r.code) r.code rests k i is.parts.resting at ∙ ap (λ (o : Option Call). rest k + part_count program false o (length (front_at k i))) opened in
      record {
        call_in_range = call_in_range program r i (place_in chosen k) call (in_code program number k i is.parts.plain is.parts.is_function at) opened;
        openable = is.parts.calls.each k i call at opened;
        further = more;
        next = place_next program chosen front_at true 0 r.code places k i is.parts.standing at ∙ ap (λ (o : Option Call). place k + part_count program true o (length (front_at k i))) opened;
        fits = omega (arith, next, following, end, most, code_long);
      }

  -- If a property holds for each instruction in the replacement of each source instruction, then it
  -- holds for the complete code of the new function.
  module _ (P : Instruction → Type 0) (own : (k : ℕ) (i : Instruction) → At r.code k i → P (moved 0 place i))
      (all_hoisted : (x : Instruction) → may_hoisted (length program.globals) r.slots s.slots x ≡ true → P x)
      (duplicates : (k : ℕ) (i x : Instruction) → At r.code k i → IsDuplicate r.slots s.slots i x → P x)
      (sites : (k : ℕ) (call : Call) → IsOpenedAt k call → HoldsIn P (site_at k call) (inner k call) (routine_at program call.callee)) where
    front_holds : (k : ℕ) (i : Instruction) (front : List Instruction) → At r.code k i
        → AllByRecursion (λ (x : Instruction). (may_hoisted (length program.globals) r.slots s.slots x ≡ true) ⊎ IsDuplicate r.slots s.slots i x) front → AllByRecursion P front
    front_holds k i [] at each = tt
    front_holds k i (x ∷ front) at (inl hoisted, each) = (all_hoisted x hoisted, front_holds k i front at each)
    front_holds k i (x ∷ front) at (inr it, each) = (duplicates k i x at it, front_holds k i front at each)

    own_holds : (in_line : Bool) (k : ℕ) (i : Instruction) → At r.code k i → AllByRecursion P (if in_line then own_part place i (front_at k i) else [])
    own_holds true k i at = all_append P (front_at k i) (moved 0 place i ∷ []) (front_holds k i (front_at k i) at (is.parts.fronts k i).each) (own k i at, tt)
    own_holds false k i at = tt

    part_holds : (in_line : Bool) (k : ℕ) (i : Instruction) (call : Option Call) → At r.code k i → chosen_call i (place_in chosen k) ≡ call
        → AllByRecursion P (part program number place rest in_line k i call (front_at k i))
    part_holds in_line k i (Some call) at opened = all_site P (site_at k call) in_line (place k) (routine_at program call.callee) (sites k call (opened_at k i call at opened))
    part_holds in_line k i None at opened = own_holds in_line k i at

    all_in : (in_line : Bool) → AllByRecursion P (opened_code program number chosen front_at place rest in_line 0 r.code)
    all_in in_line =
        subst (AllByRecursion P) (sym (code_is program number chosen front_at place rest in_line 0 r.code))
        (all_pieces P (piece_at program number chosen front_at place rest in_line) 0 r.code (λ k i at.
        let same : k ≡ 0 + k = omega arith in
        subst (λ (n : ℕ). AllByRecursion P (piece_at program number chosen front_at place rest in_line n i)) same (part_holds in_line k i (chosen_call i (place_in chosen k)) at refl)))

    all_code : AllByRecursion P s.code
    all_code =
        subst (AllByRecursion P) (sym is.code)
        (all_append P (opened_code program number chosen front_at place rest true 0 r.code) (opened_code program number chosen front_at place rest false 0 r.code) (all_in true) (all_in false))

  -- ---- numbers are words, only returns return, and no extra slot is pinned

  module _ (words : All HasWord r.code) (each_words : (f : ℕ) → f < length program.functions → All HasWord (routine_at program f).code) where
    pub words_of : All HasWord s.code
    words_of =
        All-from_recursion HasWord s.code
        (all_code HasWord (λ k i at. has_word 0 place i (All_at HasWord r.code k i words at)) (hoisted_word (length program.globals) r.slots s.slots) (λ k i x at it. subst HasWord (sym it.is) (duplicate_word it.slot i (All_at HasWord r.code k i words at))) (λ k call opened. record {
          passed = λ n below. tt;
          enters = tt;
          inside = λ j i at no_end.
              has_word r.slots (inner k call) i
              (All_at HasWord (routine_at program call.callee).code j i (each_words call.callee opened.call_in_range.function_in_range) at);
          given = λ j i value n at end below. tt;
          goes = tt;
        }))

  returns_no_more : All (λ i. is_return i ≡ false) r.code → All (λ i. is_return i ≡ false) s.code
  returns_no_more none =
      All-from_recursion (λ (i : Instruction). is_return i ≡ false) s.code
      (all_code (λ (i : Instruction). is_return i ≡ false) (λ k i at. same_return_moved 0 place i ∙ All_at (λ (j : Instruction). is_return j ≡ false) r.code k i none at)
      (no_return_hoisted (length program.globals) r.slots s.slots)
      (λ k i x at it. ap is_return it.is ∙ same_return_duplicate it.slot i ∙ All_at (λ (j : Instruction). is_return j ≡ false) r.code k i none at)
      (λ k call opened. record {
        passed = λ n below. refl;
        enters = refl;
        inside = λ j i at no_end. same_return_moved r.slots (inner k call) i ∙ no_return i no_end;
        given = λ j i value n at end below. refl;
        goes = refl;
      }))

  abbrev PinsNoMore : Instruction → Type 0
  PinsNoMore i = (slot : ℕ) → pins i slot ≡ true → is_pinned r.code slot ≡ true

  leaf_at : (k j : ℕ) (call : Call) (i : Instruction) → IsOpenedAt k call → At (routine_at program call.callee).code j i → is_of_leaf i ≡ true
  leaf_at k j call i opened at =
      All_at (λ (x : Instruction). is_of_leaf x ≡ true) (routine_at program call.callee).code j i
      (All-from_recursion (λ (x : Instruction). is_of_leaf x ≡ true) (routine_at program call.callee).code opened.openable.leaf.all) at

  pub pinned : (p : ℕ) (i : Instruction) → At s.code p i → (slot : ℕ) → pins i slot ≡ true → is_pinned r.code slot ≡ true
  pinned p i at =
      All_at PinsNoMore s.code p i
      (All-from_recursion PinsNoMore s.code
      (all_code PinsNoMore (λ k j there slot pinned. pinned_at r.code k j slot there (sym (same_pins 0 place j slot) ∙ pinned))
      (λ x hoisted slot pinned. absurd (false≢true (sym (hoisted_pins_none (length program.globals) r.slots s.slots x hoisted slot) ∙ pinned)))
      (λ k j x there it slot pinned. pinned_at r.code k j slot there (sym (same_pins_duplicate it.slot j slot) ∙ (sym (ap (λ (y : Instruction). pins y slot) it.is) ∙ pinned))) (λ k call opened. record {
        passed = λ n below slot pinned. absurd (false≢true pinned);
        enters = λ slot pinned. absurd (false≢true pinned);
        inside = λ j x there no_end slot pinned.
            absurd (false≢true (sym (leaf_pins_none x (leaf_at k j call x opened there) slot) ∙ sym (same_pins r.slots (inner k call) x slot) ∙ pinned));
        given = λ j x value n there end below slot pinned. absurd (false≢true pinned);
        goes = λ slot pinned. absurd (false≢true pinned);
      })))
      at

  -- ---- everything that the code names exists

  inner_placed : (k : ℕ) (call : Call) → IsOpenedAt k call → (j : ℕ) → j < length (routine_at program call.callee).code → inner k call j < length s.code
  inner_placed k call opened j below =
      let t = routine_at program call.callee in
      let first = place k + call.count + 1 in
      let next = opened.next in
      let following = placed (k + 1) opened.further in
      let fits = opened.fits in
      elim (cases_lt j call.line) [
        | inl before ↦
            (let here = line_place t.results call.line 0 first (rest k) t.code j below (omega (arith, before)) in
            let most = offset_most (count_inside t.results call.line true) 0 t.code j in
            let all = size_is t.results call.line true 0 t.code in
            omega (arith, here, most, all, next, following))
        | inr past ↦
            (let here = rest_place t.results call.line 0 first (rest k) t.code j below (omega (arith, past)) in
            let most = rest_below t.results call.line 0 t.code j below (omega (arith, past)) in
            let all = size_is t.results call.line false 0 t.code in
            omega (arith, here, most, all, fits))
      ]

  own_in : (k : ℕ) (i : Instruction) → At r.code k i → IsInRange program s (moved 0 place i)
  own_in k i at =
      let in_range = in_code program number k i is.parts.plain is.parts.is_function at in
      let least = is.parts.calls.least in
      moved_in program r s 0 place (omega (arith, least)) placed i in_range
      (λ value end.
      let given = given_in i value end in_range in
      let results = is.results in
      omega (arith, given, results, least))
      (λ first handler same. try_in first handler (subst (IsInRange program r) same in_range))
    where
      given_in : (i : Instruction) (value : ℕ) → is_end i ≡ Some value → IsInRange program r i → HasSlots r value r.results
      given_in (instructions.Return other) value end in_range = (let e : other ≡ value = (let s : Some other ≡ Some value = end in cc) in subst (λ (n : ℕ). HasSlots r n r.results) e in_range)
      given_in (instructions.Finish other) value end in_range = (let e : other ≡ value = (let s : Some other ≡ Some value = end in cc) in subst (λ (n : ℕ). HasSlots r n r.results) e in_range)
      given_in i value end in_range = absurd (let e : None ≡ Some value = end in cc)

      try_in : (first handler : ℕ) → IsInRange program r (instructions.Try first handler) → IsInRange program s (instructions.Try first (place handler))
      try_in first handler opens = record {
        record_in_range = (let slots = opens.record_in_range in let least = is.parts.calls.least in omega (arith, slots, least));
        handler_in_range = placed handler opens.handler_in_range;
        no_return = returns_no_more opens.no_return;
      }

  all_hoisted_in : (x : Instruction) → may_hoisted (length program.globals) r.slots s.slots x ≡ true → IsInRange program s x
  all_hoisted_in x hoisted = hoisted_in program s r.slots x hoisted

  duplicates_in : (k : ℕ) (i x : Instruction) → At r.code k i → IsDuplicate r.slots s.slots i x → IsInRange program s x
  duplicates_in k i x at it =
      subst (IsInRange program s) (sym it.is) (duplicate_in program r s it.slot i is.parts.calls.least it.room it.may (in_code program number k i is.parts.plain is.parts.is_function at))

  sites_in : (k : ℕ) (call : Call) → IsOpenedAt k call → HoldsIn (IsInRange program s) (site_at k call) (inner k call) (routine_at program call.callee)
  sites_in k call opened =
      let callee = routine_at program call.callee in
      let in_range = opened.call_in_range in
      let leaf = routine_in program call.callee is.parts.plain.well_formed in_range.function_in_range in
      let room = opened.openable.room in
      let least = is.parts.calls.least in
      let takes = in_range.takes in
      let parameters = leaf.parameters in
      let arguments = in_range.arguments_in_range in
      let results = in_range.result_in_range in
      record {
        passed = λ n below. (omega (arith, below, takes, parameters, room), omega (arith, below, arguments, least));
        enters = in_range.function_in_range;
        inside = λ j i at no_end.
            moved_in program callee s r.slots (inner k call) room (inner_placed k call opened) i (All_at (IsInRange program callee) callee.code j i leaf.instructions at)
            (λ value end. absurd (let e : None ≡ Some value = sym no_end ∙ end in cc))
            (λ first handler same. absurd (no_try first handler i (leaf_at k j call i opened at) same));
        given = λ j i value n at end below. (omega (arith, below, results, least), slot_given callee j i value n end below (All_at (IsInRange program callee) callee.code j i leaf.instructions at) room);
        goes = placed (k + 1) opened.further;
      }
    where
      slot_given : (t : Routine) (j : ℕ) (i : Instruction) (value n : ℕ) → is_end i ≡ Some value → n < t.results → IsInRange program t i → r.slots + t.slots ≤ s.slots → r.slots + value + n < s.slots
      slot_given t j (instructions.Return other) value n end below in_range room = (let e : other ≡ value = (let x : Some other ≡ Some value = end in cc) in omega (arith, e, below, in_range, room))
      slot_given t j (instructions.Finish other) value n end below in_range room = (let e : other ≡ value = (let x : Some other ≡ Some value = end in cc) in omega (arith, e, below, in_range, room))
      slot_given t j i value n end below in_range room = absurd (let e : None ≡ Some value = end in cc)

  pub in_range_of : All (IsInRange program s) s.code
  in_range_of = All-from_recursion (IsInRange program s) s.code (all_code (IsInRange program s) own_in all_hoisted_in duplicates_in sites_in)
