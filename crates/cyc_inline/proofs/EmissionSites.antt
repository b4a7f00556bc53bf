-- The code that the crate emits for an inlined call satisfies `IsSite`, the specification of such
-- code, at whichever code position it begins.
use Rattle.std.proofs.Common.{◌≡◌, ℕ, zero, suc, ◌+◌, ◌<◌, ◌≤◌, Bool, true, false, List, [], ◌∷◌, ◌++◌, length, replicate, Option, Some, None, slice_get, refl, sym, ap, subst, ◌∙◌, arith, inl, inr, append_assoc, length-append}
use Rattle.std.specs.Prelude.{◌==◌, nat_lt, if◌then◌else◌}
use Rattle.std.proofs.lemmas.Bool.{cases_lt, eqb-true, le-leb, false≢true}
use Rattle.std.proofs.lemmas.List.{replicate_more, length-replicate}
use Rattle.cyc_words.proofs.Numbers.{lt-nat_lt, le-nat_lt}
use Rattle.cyc_words.proofs.Items.{below_from_slice_get}
use Rattle.cyc_plain.specs.declared.instruction.Instruction.{Instruction}
use Rattle.cyc_plain.specs.declared.instruction.Instruction.TheVariants as instructions
use Rattle.cyc_plain.specs.inside.Program.{Routine, Program, routine_at}
use Rattle.cyc_plain.specs.inside.Straight.{At}
use Rattle.cyc_plain.specs.inside.WellFormed.{IsRoutine, leaves}
use Rattle.cyc_plain.proofs.Placed.{has_code, goes_after}
use Rattle.cyc_inline.specs.declared.origin.Origin.{Origin}
use Rattle.cyc_inline.specs.declared.site.Call.{Call}
use Rattle.cyc_inline.specs.declared.site.Site.{Site}
use Rattle.cyc_inline.specs.inside.Opened.{moved, passing, is_end, origin_at, AreMadeOf, GoesTo, StandsInside, IsSite}
use Rattle.cyc_inline.specs.inside.Sites.{place_in, stands_in, way_following, way_count, inside_part, inside_count, count_in, inside_code, inside_origins, inside_size, inside_places, places_inside, site_code, site_origins, site_size}
use Rattle.cyc_inline.specs.inside.Emission.{IsLeaf, IsOpenable, call_size, site_of}
use Rattle.cyc_inline.proofs.EmissionPieces.{StandsAt, stands_at_front, stands_at_back, stands_within, has_at, made_of, pieces, offset, offset_next, piece_stands, pieces_long}
use Rattle.cyc_inline.proofs.Passing.{passing_length}

-- ---- an instruction of the callee

way_long : (is_last : Bool) (following : ℕ) → length (way_following is_last following) ≡ way_count is_last
way_long true following = refl
way_long false following = refl

part_long : (site : Site) (place : ℕ → ℕ) (index : ℕ) (i : Instruction) (end : Option ℕ)
    → length (inside_part site place index i end) ≡ inside_count site.results site.call.line index end
part_long site place index i (Some value) =
    omega (
      arith,
      length-append (passing site.call.result (site.shift + value) site.results) (way_following (index + 1 == site.call.line) site.following),
      passing_length site.call.result (site.shift + value) site.results,
      way_long (index + 1 == site.call.line) site.following,
    )
part_long site place index i None = refl

-- The replacement of a callee's instruction at the call or after the caller's code; it is empty for the one of
-- these two where the instruction is not placed.
abbrev pub piece_inside : Site → (place : ℕ → ℕ) → (in_line : Bool) → (index : ℕ) → Instruction → List Instruction
piece_inside site place in_line index i = if stands_in in_line site.call.line index then inside_part site place index i (is_end i) else []

abbrev pub count_inside : (results line : ℕ) → (in_line : Bool) → (index : ℕ) → Instruction → ℕ
count_inside results line in_line index i = count_in results line in_line index (is_end i)

pub piece_long : (site : Site) (place : ℕ → ℕ) (in_line : Bool) (index : ℕ) (i : Instruction)
    → length (piece_inside site place in_line index i) ≡ count_inside site.results site.call.line in_line index i
piece_long site place in_line index i = go (stands_in in_line site.call.line index)
  where
    go : (stands : Bool) → length (if stands then inside_part site place index i (is_end i) else []) ≡ (if stands then inside_count site.results site.call.line index (is_end i) else 0)
    go true = part_long site place index i (is_end i)
    go false = refl

count_there : (results line : ℕ) (in_line : Bool) (index : ℕ) (i : Instruction) → stands_in in_line line index ≡ true → count_inside results line in_line index i ≡ inside_count results line index (is_end i)
count_there results line in_line index i there = ap (λ (b : Bool). if b then inside_count results line index (is_end i) else 0) there

count_elsewhere : (results line : ℕ) (in_line : Bool) (index : ℕ) (i : Instruction) → stands_in in_line line index ≡ false → count_inside results line in_line index i ≡ 0
count_elsewhere results line in_line index i there = ap (λ (b : Bool). if b then inside_count results line index (is_end i) else 0) there

-- ---- the table of places

pub size_is : (results line : ℕ) (in_line : Bool) (first : ℕ) (code : List Instruction) → inside_size results line in_line first code ≡ offset (count_inside results line in_line) first code (length code)
size_is results line in_line first [] = refl
size_is results line in_line first (i ∷ code) = ap (λ (n : ℕ). count_inside results line in_line first i + n) (size_is results line in_line (suc first) code)

pub line_place : (results line first here there : ℕ) (code : List Instruction) (k : ℕ) → k < length code → first + k < line
    → place_in (inside_places results line first here there code) k ≡ here + offset (count_inside results line true) first code k
line_place results line first here there [] k within before = absurd (omega (arith, within))
line_place results line first here there (i ∷ code) zero within before =
    let is : nat_lt first line ≡ true = lt-nat_lt first line (omega (arith, before)) in
    ap (λ (b : Bool). if b then here else there) is ∙ (let e : here ≡ here + 0 = omega arith in e)
line_place results line first here there (i ∷ code) (suc k) within before =
    let rest = line_place results line (suc first) (here + count_inside results line true first i) (there + count_inside results line false first i) code k (omega (arith, within)) (omega (arith, before)) in
    omega (arith, rest)

pub rest_place : (results line first here there : ℕ) (code : List Instruction) (k : ℕ) → k < length code → line ≤ first + k
    → place_in (inside_places results line first here there code) k ≡ there + offset (count_inside results line false) first code k
rest_place results line first here there [] k within past = absurd (omega (arith, within))
rest_place results line first here there (i ∷ code) zero within past =
    let is : nat_lt first line ≡ false = le-nat_lt first line (omega (arith, past)) in
    ap (λ (b : Bool). if b then here else there) is ∙ (let e : there ≡ there + 0 = omega arith in e)
rest_place results line first here there (i ∷ code) (suc k) within past =
    let rest = rest_place results line (suc first) (here + count_inside results line true first i) (there + count_inside results line false first i) code k (omega (arith, within)) (omega (arith, past)) in
    omega (arith, rest)

-- The instructions of the callee that are placed after the caller's code add nothing to the code at the inlined call.
none_past : (results line first : ℕ) (code : List Instruction) (k : ℕ) → line ≤ first → offset (count_inside results line true) first code k ≡ 0
none_past results line first [] k past = refl
none_past results line first (i ∷ code) zero past = refl
none_past results line first (i ∷ code) (suc k) past =
    omega (arith, count_elsewhere results line true first i (le-nat_lt first line past), none_past results line (suc first) code k (omega (arith, past)))

line_end : (results line first : ℕ) (code : List Instruction) (k : ℕ) → line ≤ first + k
    → offset (count_inside results line true) first code k ≡ offset (count_inside results line true) first code (length code)
line_end results line first [] k past = refl
line_end results line first (i ∷ code) zero past = sym (none_past results line first (i ∷ code) (length (i ∷ code)) (omega (arith, past)))
line_end results line first (i ∷ code) (suc k) past =
    ap (λ (n : ℕ). count_inside results line true first i + n) (line_end results line (suc first) code k (omega (arith, past)))

-- ---- the code as pieces

pub inside_code_is : (site : Site) (place : ℕ → ℕ) (in_line : Bool) (first : ℕ) (code : List Instruction) → inside_code site place in_line first code ≡ pieces (piece_inside site place in_line) first code
inside_code_is site place in_line first [] = refl
inside_code_is site place in_line first (i ∷ code) = ap (λ (is : List Instruction). piece_inside site place in_line first i ++ is) (inside_code_is site place in_line (suc first) code)

abbrev origins_inside : (callee results line : ℕ) → (in_line : Bool) → (index : ℕ) → Instruction → List Origin
origins_inside callee results line in_line index i = replicate (count_in results line in_line index (is_end i)) (origin_at callee index)

origins_are : (callee results line : ℕ) (in_line : Bool) (first : ℕ) (code : List Instruction)
    → inside_origins callee results line in_line first code ≡ pieces (origins_inside callee results line in_line) first code
origins_are callee results line in_line first [] = refl
origins_are callee results line in_line first (i ∷ code) =
    ap (λ (os : List Origin). origins_inside callee results line in_line first i ++ os) (origins_are callee results line in_line (suc first) code)

origins_long : (callee results line : ℕ) (in_line : Bool) (k : ℕ) (i : Instruction) → length (origins_inside callee results line in_line k i) ≡ count_inside results line in_line k i
origins_long callee results line in_line k i = length-replicate (count_in results line in_line k (is_end i)) (origin_at callee k)

inside_long : (site : Site) (place : ℕ → ℕ) (in_line : Bool) (code : List Instruction) → length (inside_code site place in_line 0 code) ≡ inside_size site.results site.call.line in_line 0 code
inside_long site place in_line code =
    ap (λ (is : List Instruction). length is) (inside_code_is site place in_line 0 code)
    ∙ pieces_long (piece_inside site place in_line) (count_inside site.results site.call.line in_line) (piece_long site place in_line) 0 code
    ∙ sym (size_is site.results site.call.line in_line 0 code)

inside_origins_long : (callee results line : ℕ) (in_line : Bool) (code : List Instruction) → length (inside_origins callee results line in_line 0 code) ≡ inside_size results line in_line 0 code
inside_origins_long callee results line in_line code =
    ap (λ (os : List Origin). length os) (origins_are callee results line in_line 0 code)
    ∙ pieces_long (origins_inside callee results line in_line) (count_inside results line in_line) (origins_long callee results line in_line) 0 code
    ∙ sym (size_is results line in_line 0 code)

-- ---- the callee's code in the caller

module _ (program : Program) (code : List Instruction) (origins : List Origin) (site : Site) (t : Routine) (first : ℕ) (routine : IsRoutine program t)
    (leaf : IsLeaf t site.call.line) (following : site.following ≡ first + inside_size site.results site.call.line true 0 t.code) (results : site.results ≡ t.results) where
  abbrev line : ℕ
  line = site.call.line

  abbrev place : ℕ → ℕ
  place = place_in (inside_places site.results site.call.line 0 first site.rest t.code)

  abbrev counts : (in_line : Bool) → ℕ → Instruction → ℕ
  counts in_line = count_inside site.results site.call.line in_line

  -- The code position where the code of an inlined call begins: the instructions placed at the call, or those placed
  -- after the caller's code.
  abbrev begin : (in_line : Bool) → ℕ
  begin in_line = if in_line then first else site.rest

  -- Says that a callee's instruction is placed at the call or after the caller's code, at the code position that the table of code
  -- positions gives for it.
  record IsThere (k : ℕ) : Type 0 where
    pub in_line : Bool
    pub stands : stands_in in_line site.call.line k ≡ true
    pub at : place k ≡ begin in_line + offset (counts in_line) 0 t.code k

  there : (k : ℕ) (i : Instruction) → At t.code k i → IsThere k
  there k i at = elim (cases_lt k site.call.line) [
    | inl before ↦ record {
      in_line = true;
      stands = lt-nat_lt k site.call.line before;
      at = line_place site.results site.call.line 0 first site.rest t.code k (below_from_slice_get t.code k i at) (omega (arith, before));
    }
    | inr past ↦ record {
      in_line = false;
      stands = le-leb site.call.line k past;
      at = rest_place site.results site.call.line 0 first site.rest t.code k (below_from_slice_get t.code k i at) (omega (arith, past));
    }
  ]

  module _ (stands : (in_line : Bool) → StandsAt code (inside_code site place in_line 0 t.code) (begin in_line))
      (made : (in_line : Bool) → StandsAt origins (inside_origins site.call.callee site.results site.call.line in_line 0 t.code) (begin in_line)) where
    piece_at : (k : ℕ) (i : Instruction) → At t.code k i → StandsAt code (inside_part site place k i (is_end i)) (place k)
    piece_at k i at =
        let is = there k i at in
        let piece = piece_inside site place is.in_line in
        let whole : StandsAt code (pieces piece 0 t.code) (begin is.in_line) = subst (λ (js : List Instruction). StandsAt code js (begin is.in_line)) (inside_code_is site place is.in_line 0 t.code) (stands is.in_line) in
        let same : 0 + k ≡ k = omega arith in
        let inner = piece_stands piece (counts is.in_line) (piece_long site place is.in_line) 0 t.code k i at in
        subst (λ (b : Bool). StandsAt code (if b then inside_part site place k i (is_end i) else []) (place k)) is.stands
        (subst (λ (n : ℕ). StandsAt code (piece k i) n) (sym is.at)
        (stands_within code (pieces piece 0 t.code) (piece k i) (begin is.in_line) (offset (counts is.in_line) 0 t.code k) whole
        (subst (λ (n : ℕ). StandsAt (pieces piece 0 t.code) (piece n i) (offset (counts is.in_line) 0 t.code k)) same inner)))

    made_at : (k : ℕ) (i : Instruction) → At t.code k i → AreMadeOf origins (place k) (inside_count site.results site.call.line k (is_end i)) (origin_at site.call.callee k)
    made_at k i at =
        let is = there k i at in
        let piece = origins_inside site.call.callee site.results site.call.line is.in_line in
        let whole : StandsAt origins (pieces piece 0 t.code) (begin is.in_line) =
        subst (λ (os : List Origin). StandsAt origins os (begin is.in_line)) (origins_are site.call.callee site.results site.call.line is.in_line 0 t.code) (made is.in_line) in
        let same : 0 + k ≡ k = omega arith in
        let inner = piece_stands piece (counts is.in_line) (origins_long site.call.callee site.results site.call.line is.in_line) 0 t.code k i at in
        made_of origins (place k) (inside_count site.results site.call.line k (is_end i)) (origin_at site.call.callee k)
        (subst (λ (b : Bool). StandsAt origins (replicate (if b then inside_count site.results site.call.line k (is_end i) else 0) (origin_at site.call.callee k)) (place k)) is.stands
        (subst (λ (n : ℕ). StandsAt origins (piece k i) n) (sym is.at)
        (stands_within origins (pieces piece 0 t.code) (piece k i) (begin is.in_line) (offset (counts is.in_line) 0 t.code k) whole
        (subst (λ (n : ℕ). StandsAt (pieces piece 0 t.code) (piece n i) (offset (counts is.in_line) 0 t.code k)) same inner))))

    -- If a callee's instruction is placed at the call, the next one's offset in the code there is its own offset plus its
    -- replacement's size. The same holds for an instruction of the callee that is placed after the caller's code.
    further : (in_line : Bool) (k : ℕ) (i : Instruction) → At t.code k i → stands_in in_line site.call.line k ≡ true
        → offset (counts in_line) 0 t.code (k + 1) ≡ offset (counts in_line) 0 t.code k + inside_count site.results site.call.line k (is_end i)
    further in_line k i at is =
        let same : counts in_line (0 + k) i ≡ counts in_line k i = (let e : 0 + k ≡ k = omega arith in ap (λ (n : ℕ). counts in_line n i) e) in
        offset_next (counts in_line) 0 t.code k i at
        ∙ ap (λ (n : ℕ). offset (counts in_line) 0 t.code k + n) (same ∙ count_there site.results site.call.line in_line k i is)

    -- The replacement of the next instruction directly follows an instruction's replacement, unless control never falls through.
    next_place : (k : ℕ) (i : Instruction) → At t.code k i → leaves i ≡ false → k + 1 < length t.code → place (k + 1) ≡ place k + inside_count site.results site.call.line k (is_end i)
    next_place k i at stays more = elim (cases_lt (k + 1) site.call.line) [
      | inl before ↦
          (let here = line_place site.results site.call.line 0 first site.rest t.code k (below_from_slice_get t.code k i at) (omega (arith, before)) in
          let following = line_place site.results site.call.line 0 first site.rest t.code (k + 1) more (omega (arith, before)) in
          omega (arith, here, following, further true k i at (lt-nat_lt k site.call.line (omega (arith, before)))))
      | inr past ↦ elim (cases_lt k site.call.line) [
        | inl last ↦ absurd (false≢true (sym stays ∙ leaf.last k i at (omega (arith, past, last))))
        | inr rest ↦
            (let here = rest_place site.results site.call.line 0 first site.rest t.code k (below_from_slice_get t.code k i at) (omega (arith, rest)) in
            let following = rest_place site.results site.call.line 0 first site.rest t.code (k + 1) more (omega (arith, rest)) in
            omega (arith, here, following, further false k i at (le-leb site.call.line k rest)))
      ]
    ]

    -- After the last of the callee's instructions that are placed at the call, control continues in the caller.
    last_place : (k : ℕ) (i : Instruction) → At t.code k i → k + 1 ≡ site.call.line → site.following ≡ place k + inside_count site.results site.call.line k (is_end i)
    last_place k i at last =
        let here = line_place site.results site.call.line 0 first site.rest t.code k (below_from_slice_get t.code k i at) (omega (arith, last)) in
        let all = size_is site.results site.call.line true 0 t.code in
        let end = line_end site.results site.call.line 0 t.code (k + 1) (omega (arith, last)) in
        omega (arith, following, here, all, end, further true k i at (lt-nat_lt k site.call.line (omega (arith, last))))

    fewer : (from count more : ℕ) (origin : Origin) → AreMadeOf origins from (count + more) origin → AreMadeOf origins from count origin
    fewer from count more origin are k below = are k (omega (arith, below))

    later : (from count more : ℕ) (origin : Origin) → AreMadeOf origins from (count + more) origin → AreMadeOf origins (from + count) more origin
    later from count more origin are k below =
        let same : from + count + k ≡ from + (count + k) = omega arith in ap (slice_get origins) same ∙ are (count + k) (omega (arith, below))

    -- After the code that replaces a callee's return, control is at the code position after the inlined call.
    goes : (k value : ℕ) (is_last : Bool) → (is_last ≡ true → site.following ≡ place k + (site.results + way_count is_last))
        → StandsAt code (passing site.call.result (site.shift + value) site.results ++ way_following is_last site.following) (place k)
        → AreMadeOf origins (place k) (site.results + way_count is_last) (origin_at site.call.callee k)
        → GoesTo code origins (place k + site.results) site.following (origin_at site.call.callee k)
    goes k value true end stand are = (let e = end refl in inl (omega (arith, e)))
    goes k value false end stand are =
        let moves = passing site.call.result (site.shift + value) site.results in
        let jump = stands_at_back code moves (instructions.Jump site.following ∷ []) (place k) stand in
        let there : place k + length moves ≡ place k + site.results = ap (λ (n : ℕ). place k + n) (passing_length site.call.result (site.shift + value) site.results) in
        let (at, none) = has_at code (instructions.Jump site.following ∷ []) (place k + length moves) jump in
        inr (subst (λ (n : ℕ). At code n (instructions.Jump site.following)) there at, later (place k) site.results 1 (origin_at site.call.callee k) are)

    abbrev Inside : ℕ → Instruction → Option ℕ → Type 0
    Inside k i end = StandsInside code origins site.shift site.call.result site.results site.following site.call.callee place k i end

    inside : (k : ℕ) (i : Instruction) (end : Option ℕ) → is_end i ≡ end → At t.code k i → StandsAt code (inside_part site place k i end) (place k)
        → AreMadeOf origins (place k) (inside_count site.results site.call.line k end) (origin_at site.call.callee k) → Inside k i end
    inside k i (Some value) is at stand are =
        let moves = passing site.call.result (site.shift + value) site.results in (
          has_at code moves (place k) (stands_at_front code moves (way_following (k + 1 == site.call.line) site.following) (place k) stand),
          fewer (place k) site.results (way_count (k + 1 == site.call.line)) (origin_at site.call.callee k) are,
          goes k value (k + 1 == site.call.line) (λ last.
              last_place k i at (eqb-true (k + 1) site.call.line last) ∙ ap (λ (o : Option ℕ). place k + inside_count site.results site.call.line k o) is) stand are,
        )
    inside k i None is at stand are =
        let (there, none) = has_at code (moved site.shift place i ∷ []) (place k) stand in (
          there,
          are,
          λ stays.
              let next = next_place k i at stays (goes_after program t k i routine at stays) in
              let one : inside_count site.results site.call.line k (is_end i) ≡ 1 = ap (inside_count site.results site.call.line k) is in
              inl (omega (arith, next, one)),
        )

    pub body : (k : ℕ) (i : Instruction) → At t.code k i → Inside k i (is_end i)
    body k i at = inside k i (is_end i) refl at (piece_at k i at) (made_at k i at)

-- ---- the inlined call

-- The caller's code contains the whole code of an inlined callee if it contains the instructions placed at the call and those placed after
-- the caller's code, each at its position.
module _ (program : Program) (r s : Routine) (origins : List Origin) (number index here following rest : ℕ) (call : Call) (openable : IsOpenable program r s.slots call)
    (routine : IsRoutine program (routine_at program call.callee)) (next : following ≡ here + call_size program true call)
    (stands : (in_line : Bool) → StandsAt s.code (site_code (site_of program r call following rest) in_line here (routine_at program call.callee).code) (if in_line then here else rest))
    (made : (in_line : Bool)
    → StandsAt origins (site_origins call (routine_at program call.callee).results in_line (origin_at number index) (routine_at program call.callee).code) (if in_line then here else rest)) where
  abbrev callee : Routine
  callee = routine_at program call.callee

  abbrev site : Site
  site = site_of program r call following rest

  abbrev first : ℕ
  first = here + call.count + 1

  abbrev moves : List Instruction
  moves = passing r.slots call.arguments call.count ++ instructions.Enter call.callee ∷ []

  abbrev in_place : List Instruction
  in_place = inside_code site (places_inside site here callee.code) true 0 callee.code

  in_parts : StandsAt s.code (moves ++ in_place) here
  in_parts =
      subst (λ (is : List Instruction). StandsAt s.code is here) (sym (append_assoc (passing r.slots call.arguments call.count) (instructions.Enter call.callee ∷ []) in_place)) (stands true)

  moves_long : length moves ≡ call.count + 1
  moves_long =
      omega (arith, length-append (passing r.slots call.arguments call.count) (instructions.Enter call.callee ∷ []), passing_length r.slots call.arguments call.count)

  body_stands : (in_line : Bool) → StandsAt s.code (inside_code site (places_inside site here callee.code) in_line 0 callee.code) (if in_line then here + call.count + 1 else rest)
  body_stands true =
      let same : here + length moves ≡ here + call.count + 1 = omega (arith, moves_long) in
      subst (λ (n : ℕ). StandsAt s.code in_place n) same (stands_at_back s.code moves in_place here in_parts)
  body_stands false = stands false

  abbrev first_origins : List Origin
  first_origins = replicate call.count (origin_at number index) ++ origin_at number index ∷ []

  abbrev origins_in_place : List Origin
  origins_in_place = inside_origins call.callee callee.results call.line true 0 callee.code

  origins_in_parts : StandsAt origins (first_origins ++ origins_in_place) here
  origins_in_parts =
      subst (λ (os : List Origin). StandsAt origins os here) (sym (append_assoc (replicate call.count (origin_at number index)) (origin_at number index ∷ []) origins_in_place)) (made true)

  first_same : first_origins ≡ replicate (call.count + 1) (origin_at number index)
  first_same = replicate_more call.count (origin_at number index)

  body_made : (in_line : Bool) → StandsAt origins (inside_origins call.callee callee.results call.line in_line 0 callee.code) (if in_line then here + call.count + 1 else rest)
  body_made true =
      let long : length first_origins ≡ call.count + 1 = ap (λ (os : List Origin). length os) first_same ∙ length-replicate (call.count + 1) (origin_at number index) in
      let same : here + length first_origins ≡ here + call.count + 1 = omega (arith, long) in
      subst (λ (n : ℕ). StandsAt origins origins_in_place n) same (stands_at_back origins first_origins origins_in_place here origins_in_parts)
  body_made false = made false

  pub is_site : IsSite program s origins r.slots number index here following call.callee call.arguments call.count call.result
  is_site = record {
    place = places_inside site here callee.code;
    room = openable.room;
    entry = has_at s.code moves here (stands_at_front s.code moves in_place here in_parts);
    made = made_of origins here (call.count + 1) (origin_at number index)
        (subst (λ (os : List Origin). StandsAt origins os here) first_same (stands_at_front origins first_origins origins_in_place here origins_in_parts));
    first =
        line_place callee.results call.line 0 (here + call.count + 1) rest callee.code 0 (has_code program callee routine) (let some = openable.some in omega (arith, some))
        ∙ none_before callee.code;
    leaf = openable.leaf.all;
    body = body program s.code origins site callee (here + call.count + 1) routine openable.leaf following_is refl body_stands body_made;
  }
    where
      none_before : (code : List Instruction) → here + call.count + 1 + offset (count_inside callee.results call.line true) 0 code 0 ≡ here + call.count + 1
      none_before [] = omega arith
      none_before (i ∷ code) = omega arith

      following_is : following ≡ here + call.count + 1 + inside_size callee.results call.line true 0 callee.code
      following_is = omega (arith, next)

-- The number of instructions that replace an inlined call.
pub site_long : (site : Site) (in_line : Bool) (here : ℕ) (code : List Instruction) → length (site_code site in_line here code) ≡ site_size site.call site.results in_line code
site_long site true here code =
    let place = places_inside site here code in
    omega (
      arith,
      length-append (passing site.shift site.call.arguments site.call.count) (instructions.Enter site.call.callee ∷ inside_code site place true 0 code),
      passing_length site.shift site.call.arguments site.call.count,
      inside_long site place true code,
    )
site_long site false here code = inside_long site (places_inside site here code) false code

pub site_origins_long : (call : Call) (results : ℕ) (in_line : Bool) (origin : Origin) (code : List Instruction)
    → length (site_origins call results in_line origin code) ≡ site_size call results in_line code
site_origins_long call results true origin code =
    omega (
      arith,
      length-append (replicate call.count origin) (origin ∷ inside_origins call.callee results call.line true 0 code),
      length-replicate call.count origin,
      inside_origins_long call.callee results call.line true code,
    )
site_origins_long call results false origin code = inside_origins_long call.callee results call.line false code
