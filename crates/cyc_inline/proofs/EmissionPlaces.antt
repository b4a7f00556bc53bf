-- Lemmas about the code positions of a function's instructions after inlining, from which the function's code follows.
use Rattle.std.proofs.Common.{◌≡◌, ℕ, zero, suc, ◌+◌, ◌<◌, ◌^◌, ◌≤◌, Bool, true, false, List, [], ◌∷◌, ◌++◌, length, replicate, Option, Some, None, refl, sym, ap, subst, ◌∙◌, arith, inl, inr, length-append}
use Rattle.std.specs.Prelude.{◌⊎◌, if◌then◌else◌}
use Rattle.std.specs.List.{AllByRecursion}
use Rattle.std.proofs.lemmas.Bool.{false≢true}
use Rattle.std.proofs.lemmas.List.{length-replicate}
use Rattle.cyc_words.proofs.Items.{below_from_slice_get}
use Rattle.cyc_plain.specs.declared.instruction.Instruction.{Instruction}
use Rattle.cyc_plain.specs.declared.instruction.Instruction.TheVariants as instructions
use Rattle.cyc_plain.specs.declared.limits.TheConstants.{LAYOUT_WORDS}
use Rattle.cyc_plain.specs.inside.Program.{Routine, Program, routine_at}
use Rattle.cyc_plain.specs.inside.Straight.{At}
use Rattle.cyc_plain.specs.inside.WellFormed.{leaves, IsPlain}
use Rattle.cyc_plain.proofs.Placed.{routine_in}
use Rattle.cyc_inline.specs.declared.caller.Places.{Places}
use Rattle.cyc_inline.specs.declared.choice.Choice.{Choice}
use Rattle.cyc_inline.specs.declared.origin.Origin.{Origin}
use Rattle.cyc_inline.specs.declared.site.Call.{Call}
use Rattle.cyc_inline.specs.inside.Opened.{moved, may_follow_hoisted, IsDuplicate, MayPrecede, origin_at, AreMadeOf, IsSite, IsPreceded, StandsFor}
use Rattle.cyc_inline.specs.inside.Sites.{chosen_call, place_in}
use Rattle.cyc_inline.specs.inside.Emission.{own_part, own_count, part, part_origins, part_count, site_of, opened_code, opened_origins, opened_places, opened_end, AreChosen, may_hoisted, front_by, IsFront, AreParts}
use Rattle.cyc_inline.proofs.ChoosingCalls.{in_code, call_is, call_in_range, is_hoisted, front_stands}
use Rattle.cyc_inline.proofs.EmissionPieces.{StandsAt, stands_whole, stands_at_front, stands_at_back, stands_within, has_at, made_of, pieces, offset, offset_next, piece_stands, pieces_long}
use Rattle.cyc_inline.proofs.EmissionSites.{is_site, site_long, site_origins_long}

-- ---- the tables of places

-- The number of instructions in an instruction's replacement: of those placed where the instruction was, or of those placed after the
-- caller's code.
abbrev pub count_at : Program → List ℕ → (front_at : ℕ → Instruction → List Instruction) → (in_line : Bool) → (index : ℕ) → Instruction → ℕ
count_at program chosen front_at in_line index i = part_count program in_line (chosen_call i (place_in chosen index)) (length (front_at index i))

pub place_is : (program : Program) (chosen : List ℕ) (front_at : ℕ → Instruction → List Instruction) (in_line : Bool) (first here : ℕ) (code : List Instruction) (k : ℕ) → k ≤ length code
    → place_in (opened_places program chosen front_at in_line first here code) k ≡ here + offset (count_at program chosen front_at in_line) first code k
place_is program chosen front_at in_line first here [] zero within = omega arith
place_is program chosen front_at in_line first here [] (suc k) within = absurd (omega (arith, within))
place_is program chosen front_at in_line first here (i ∷ code) zero within = omega arith
place_is program chosen front_at in_line first here (i ∷ code) (suc k) within =
    let rest = place_is program chosen front_at in_line (suc first) (here + count_at program chosen front_at in_line first i) code k (omega (arith, within)) in
    omega (arith, rest)

pub end_is : (program : Program) (chosen : List ℕ) (front_at : ℕ → Instruction → List Instruction) (in_line : Bool) (first here : ℕ) (code : List Instruction)
    → opened_end program chosen front_at in_line first here code ≡ here + offset (count_at program chosen front_at in_line) first code (length code)
end_is program chosen front_at in_line first here [] = omega arith
end_is program chosen front_at in_line first here (i ∷ code) =
    omega (arith, end_is program chosen front_at in_line (suc first) (here + count_at program chosen front_at in_line first i) code)

-- The end position of the code is not before its start position.
end_least : (program : Program) (chosen : List ℕ) (front_at : ℕ → Instruction → List Instruction) (in_line : Bool) (first here : ℕ) (code : List Instruction) → here ≤ opened_end program chosen front_at in_line first here code
end_least program chosen front_at in_line first here [] = omega arith
end_least program chosen front_at in_line first here (i ∷ code) =
    omega (arith, end_least program chosen front_at in_line (suc first) (here + count_at program chosen front_at in_line first i) code)

place_most : (program : Program) (chosen : List ℕ) (front_at : ℕ → Instruction → List Instruction) (in_line : Bool) (first here : ℕ) (code : List Instruction) (k : ℕ)
    → place_in (opened_places program chosen front_at in_line first here code) k ≤ opened_end program chosen front_at in_line first here code
place_most program chosen front_at in_line first here [] zero = omega arith
place_most program chosen front_at in_line first here [] (suc k) = omega arith
place_most program chosen front_at in_line first here (i ∷ code) zero = end_least program chosen front_at in_line first here (i ∷ code)
place_most program chosen front_at in_line first here (i ∷ code) (suc k) = place_most program chosen front_at in_line (suc first) (here + count_at program chosen front_at in_line first i) code k

-- The tables of code positions that the crate computes for a function with inlined calls satisfy `AreParts`, their specification.
pub parts_are : (program : Program) (number : ℕ) (choice : Choice) (places rests : List ℕ) (table rest : Places) → IsPlain program → number < length program.functions
    → AreChosen program (routine_at program number) choice.chosen.items choice.slots → choice.slots < 2 ^ 64
    → places ≡ table.places.items → table.places.items ≡ opened_places program choice.chosen.items (front_by program number choice) true 0 0 (routine_at program number).code
    → table.end ≡ opened_end program choice.chosen.items (front_by program number choice) true 0 0 (routine_at program number).code
    → rests ≡ rest.places.items → rest.places.items ≡ opened_places program choice.chosen.items (front_by program number choice) false 0 table.end (routine_at program number).code
    → rest.end ≡ opened_end program choice.chosen.items (front_by program number choice) false 0 table.end (routine_at program number).code → rest.end < 2 ^ 64
    → AreParts program number choice.chosen.items (front_by program number choice) places rests choice.slots
parts_are program number choice places rests table rest plain is_function calls few are_places standing is_end are_rests resting is_last within = record {
  plain = plain;
  is_function = is_function;
  calls = calls;
  fronts = front_stands program number choice;
  few = few;
  standing = are_places ∙ standing;
  resting = are_rests ∙ resting ∙ ap (λ (n : ℕ). opened_places program choice.chosen.items (front_by program number choice) false 0 n (routine_at program number).code) is_end;
  fit = λ k. (let most = place_most program choice.chosen.items (front_by program number choice) false 0 table.end (routine_at program number).code k in
      let same = ap (λ (ps : List ℕ). place_in ps k) (are_rests ∙ resting) in
      omega (arith, most, same, is_last, within));
}

-- The replacement of the next instruction directly follows the replacement of the current instruction.
pub place_next : (program : Program) (chosen : List ℕ) (front_at : ℕ → Instruction → List Instruction) (in_line : Bool) (here : ℕ) (code : List Instruction) (places : List ℕ) (k : ℕ) (i : Instruction)
    → places ≡ opened_places program chosen front_at in_line 0 here code → At code k i → place_in places (k + 1) ≡ place_in places k + count_at program chosen front_at in_line k i
place_next program chosen front_at in_line start code places k i are at =
    let within = below_from_slice_get code k i at in
    let here = ap (λ (ps : List ℕ). place_in ps k) are ∙ place_is program chosen front_at in_line 0 start code k (omega (arith, within)) in
    let there = ap (λ (ps : List ℕ). place_in ps (k + 1)) are ∙ place_is program chosen front_at in_line 0 start code (k + 1) (omega (arith, within)) in
    let same : count_at program chosen front_at in_line (0 + k) i ≡ count_at program chosen front_at in_line k i = (let e : 0 + k ≡ k = omega arith in ap (λ (n : ℕ). count_at program chosen front_at in_line n i) e) in
    omega (arith, here, there, offset_next (count_at program chosen front_at in_line) 0 code k i at, same)

-- ---- the code as pieces

module _ (program : Program) (number : ℕ) (chosen : List ℕ) (front_at : ℕ → Instruction → List Instruction) (place rest : ℕ → ℕ) (in_line : Bool) where
  abbrev pub piece_at : ℕ → Instruction → List Instruction
  piece_at index i = part program number place rest in_line index i (chosen_call i (place_in chosen index)) (front_at index i)

  abbrev pub origins_at : ℕ → Instruction → List Origin
  origins_at index i = part_origins program number in_line index (chosen_call i (place_in chosen index)) (length (front_at index i))

  pub code_is : (first : ℕ) (code : List Instruction) → opened_code program number chosen front_at place rest in_line first code ≡ pieces piece_at first code
  code_is first [] = refl
  code_is first (i ∷ code) = ap (λ (is : List Instruction). piece_at first i ++ is) (code_is (suc first) code)

  pub origins_are : (first : ℕ) (code : List Instruction) → opened_origins program number chosen front_at in_line first code ≡ pieces origins_at first code
  origins_are first [] = refl
  origins_are first (i ∷ code) = ap (λ (os : List Origin). origins_at first i ++ os) (origins_are (suc first) code)

  own_long : (i : Instruction) (front : List Instruction) (b : Bool) → length (if b then own_part place i front else []) ≡ (if b then own_count (length front) else 0)
  own_long i front true = (let long = length-append front (moved 0 place i ∷ []) in omega (arith, long))
  own_long i front false = refl

  part_long : (index : ℕ) (i : Instruction) (call : Option Call) (front : List Instruction) → length (part program number place rest in_line index i call front) ≡ part_count program in_line call (length front)
  part_long index i (Some call) front =
      site_long (site_of program (routine_at program number) call (place (index + 1)) (rest index)) in_line (place index) (routine_at program call.callee).code
  part_long index i None front = own_long i front in_line

  pub piece_long : (index : ℕ) (i : Instruction) → length (piece_at index i) ≡ count_at program chosen front_at in_line index i
  piece_long index i = part_long index i (chosen_call i (place_in chosen index)) (front_at index i)

  own_origins_long : (origin : Origin) (count : ℕ) (b : Bool) → length (if b then replicate count origin else []) ≡ (if b then count else 0)
  own_origins_long origin count true = length-replicate count origin
  own_origins_long origin count false = refl

  part_origins_long : (index : ℕ) (call : Option Call) (front : ℕ) → length (part_origins program number in_line index call front) ≡ part_count program in_line call front
  part_origins_long index (Some call) front =
      site_origins_long call (routine_at program call.callee).results in_line (origin_at number index) (routine_at program call.callee).code
  part_origins_long index None front = own_origins_long (origin_at number index) (own_count front) in_line

  pub origins_long : (index : ℕ) (i : Instruction) → length (origins_at index i) ≡ count_at program chosen front_at in_line index i
  origins_long index i = part_origins_long index (chosen_call i (place_in chosen index)) (length (front_at index i))

-- ---- the function of these parts

-- Says that a function's code is built from the chosen calls, the instructions put before each instruction, and the tables of code
-- positions. It says the same of the list of the source instructions from which the code is made.
pub record IsOf (program : Program) (number : ℕ) (chosen : List ℕ) (front_at : ℕ → Instruction → List Instruction) (places rests : List ℕ) (s : Routine) (origins : List Origin) : Type 0 where
  pub parts : AreParts program number chosen front_at places rests s.slots
  pub name : s.name ≡ (routine_at program number).name
  pub parameters : s.parameters ≡ (routine_at program number).parameters
  pub results : s.results ≡ (routine_at program number).results
  pub room : s.slots + LAYOUT_WORDS ≤ s.frame_count
  pub least : (routine_at program number).frame_count ≤ s.frame_count
  pub frame : (s.frame_count ≡ (routine_at program number).frame_count) ⊎ (s.frame_count ≡ s.slots + LAYOUT_WORDS)
  pub code : s.code
      ≡ opened_code program number chosen front_at (place_in places) (place_in rests) true 0 (routine_at program number).code
      ++ opened_code program number chosen front_at (place_in places) (place_in rests) false 0 (routine_at program number).code
  pub origins_are : origins
      ≡ opened_origins program number chosen front_at true 0 (routine_at program number).code ++ opened_origins program number chosen front_at false 0 (routine_at program number).code

module _ (program : Program) (number : ℕ) (chosen : List ℕ) (front_at : ℕ → Instruction → List Instruction) (places rests : List ℕ) (s : Routine) (origins : List Origin) (is : IsOf program number chosen front_at places rests s origins) where
  abbrev r : Routine
  r = routine_at program number

  abbrev place : ℕ → ℕ
  place = place_in places

  abbrev rest : ℕ → ℕ
  rest = place_in rests

  -- The code position where an instruction's replacement begins: the instructions placed where the instruction was, or those placed
  -- after the caller's code.
  abbrev pub begins : (in_line : Bool) → (k : ℕ) → ℕ
  begins in_line k = if in_line then place k else rest k

  -- The code position where a function's own code begins or, for inlined callees, where their instructions begin that are placed after it.
  abbrev pub begin : (in_line : Bool) → ℕ
  begin in_line = if in_line then 0 else opened_end program chosen front_at true 0 0 r.code

  pub begins_at : (in_line : Bool) (k : ℕ) → k ≤ length r.code → begins in_line k ≡ begin in_line + offset (count_at program chosen front_at in_line) 0 r.code k
  begins_at true k within = ap (λ (ps : List ℕ). place_in ps k) is.parts.standing ∙ place_is program chosen front_at true 0 0 r.code k within
  begins_at false k within =
      ap (λ (ps : List ℕ). place_in ps k) is.parts.resting ∙ place_is program chosen front_at false 0 (opened_end program chosen front_at true 0 0 r.code) r.code k within

  abbrev code_in : (in_line : Bool) → List Instruction
  code_in in_line = opened_code program number chosen front_at place rest in_line 0 r.code

  abbrev origins_in : (in_line : Bool) → List Origin
  origins_in in_line = opened_origins program number chosen front_at in_line 0 r.code

  end_at : opened_end program chosen front_at true 0 0 r.code ≡ offset (count_at program chosen front_at true) 0 r.code (length r.code)
  end_at = (let e = end_is program chosen front_at true 0 0 r.code in omega (arith, e))

  pub long_in : (in_line : Bool) → length (code_in in_line) ≡ offset (count_at program chosen front_at in_line) 0 r.code (length r.code)
  long_in in_line =
      ap (λ (is : List Instruction). length is) (code_is program number chosen front_at place rest in_line 0 r.code)
      ∙ pieces_long (piece_at program number chosen front_at place rest in_line) (count_at program chosen front_at in_line) (piece_long program number chosen front_at place rest in_line) 0 r.code

  pub origins_long_in : (in_line : Bool) → length (origins_in in_line) ≡ offset (count_at program chosen front_at in_line) 0 r.code (length r.code)
  origins_long_in in_line =
      ap (λ (os : List Origin). length os) (origins_are program number chosen front_at place rest in_line 0 r.code)
      ∙ pieces_long (origins_at program number chosen front_at place rest in_line) (count_at program chosen front_at in_line) (origins_long program number chosen front_at place rest in_line) 0 r.code

  code_stands : (in_line : Bool) → StandsAt s.code (code_in in_line) (begin in_line)
  code_stands true =
      subst (λ (code : List Instruction). StandsAt code (code_in true) 0) (sym is.code)
      (stands_at_front (code_in true ++ code_in false) (code_in true) (code_in false) 0 (stands_whole (code_in true ++ code_in false)))
  code_stands false =
      let long = long_in true in
      let same : 0 + length (code_in true) ≡ opened_end program chosen front_at true 0 0 r.code = omega (arith, long, end_at) in
      subst (λ (n : ℕ). StandsAt s.code (code_in false) n) same
      (subst (λ (code : List Instruction). StandsAt code (code_in false) (0 + length (code_in true))) (sym is.code)
      (stands_at_back (code_in true ++ code_in false) (code_in true) (code_in false) 0 (stands_whole (code_in true ++ code_in false))))

  origins_stand : (in_line : Bool) → StandsAt origins (origins_in in_line) (begin in_line)
  origins_stand true =
      subst (λ (os : List Origin). StandsAt os (origins_in true) 0) (sym is.origins_are)
      (stands_at_front (origins_in true ++ origins_in false) (origins_in true) (origins_in false) 0 (stands_whole (origins_in true ++ origins_in false)))
  origins_stand false =
      let long = origins_long_in true in
      let same : 0 + length (origins_in true) ≡ opened_end program chosen front_at true 0 0 r.code = omega (arith, long, end_at) in
      subst (λ (n : ℕ). StandsAt origins (origins_in false) n) same
      (subst (λ (os : List Origin). StandsAt os (origins_in false) (0 + length (origins_in true))) (sym is.origins_are)
      (stands_at_back (origins_in true ++ origins_in false) (origins_in true) (origins_in false) 0 (stands_whole (origins_in true ++ origins_in false))))

  piece_stands_at : (in_line : Bool) (k : ℕ) (i : Instruction) → At r.code k i → StandsAt s.code (piece_at program number chosen front_at place rest in_line k i) (begins in_line k)
  piece_stands_at in_line k i at =
      let piece = piece_at program number chosen front_at place rest in_line in
      let within = below_from_slice_get r.code k i at in
      let same : 0 + k ≡ k = omega arith in
      let whole : StandsAt s.code (pieces piece 0 r.code) (begin in_line) =
      subst (λ (js : List Instruction). StandsAt s.code js (begin in_line)) (code_is program number chosen front_at place rest in_line 0 r.code) (code_stands in_line) in
      let inner = piece_stands piece (count_at program chosen front_at in_line) (piece_long program number chosen front_at place rest in_line) 0 r.code k i at in
      subst (λ (n : ℕ). StandsAt s.code (piece k i) n) (sym (begins_at in_line k (omega (arith, within))))
      (stands_within s.code (pieces piece 0 r.code) (piece k i) (begin in_line) (offset (count_at program chosen front_at in_line) 0 r.code k) whole
      (subst (λ (n : ℕ). StandsAt (pieces piece 0 r.code) (piece n i) (offset (count_at program chosen front_at in_line) 0 r.code k)) same inner))

  origins_stand_at : (in_line : Bool) (k : ℕ) (i : Instruction) → At r.code k i → StandsAt origins (origins_at program number chosen front_at place rest in_line k i) (begins in_line k)
  origins_stand_at in_line k i at =
      let piece = origins_at program number chosen front_at place rest in_line in
      let within = below_from_slice_get r.code k i at in
      let same : 0 + k ≡ k = omega arith in
      let whole : StandsAt origins (pieces piece 0 r.code) (begin in_line) =
      subst (λ (os : List Origin). StandsAt origins os (begin in_line)) (origins_are program number chosen front_at place rest in_line 0 r.code) (origins_stand in_line) in
      let inner = piece_stands piece (count_at program chosen front_at in_line) (origins_long program number chosen front_at place rest in_line) 0 r.code k i at in
      subst (λ (n : ℕ). StandsAt origins (piece k i) n) (sym (begins_at in_line k (omega (arith, within))))
      (stands_within origins (pieces piece 0 r.code) (piece k i) (begin in_line) (offset (count_at program chosen front_at in_line) 0 r.code k) whole
      (subst (λ (n : ℕ). StandsAt (pieces piece 0 r.code) (piece n i) (offset (count_at program chosen front_at in_line) 0 r.code k)) same inner))

  next_is : (k : ℕ) (i : Instruction) → At r.code k i → place (k + 1) ≡ place k + count_at program chosen front_at true k i
  next_is k i at = place_next program chosen front_at true 0 r.code places k i is.parts.standing at

  -- If an instruction may not have instructions put before it, it has none before it.
  pub has_no_front : (k : ℕ) (i : Instruction) → may_follow_hoisted i ≡ false → front_at k i ≡ []
  has_no_front k i may_not = go (front_at k i) (is.parts.fronts k i)
    where
      go : (front : List Instruction) → IsFront program r s.slots i front → front ≡ []
      go [] stands = refl
      go (x ∷ front) stands = absurd (false≢true (sym may_not ∙ stands.some (omega arith)))

  -- Says that an instruction is replaced by itself, together with the instructions put before it.
  record IsOwn (k : ℕ) (i : Instruction) (front : List Instruction) : Type 0 where
    pub code : StandsAt s.code (own_part place i front) (place k)
    pub made : AreMadeOf origins (place k) (suc (length front)) (origin_at number k)
    pub next : place (k + 1) ≡ place k + suc (length front)

  is_own : (k : ℕ) (i : Instruction) (front : List Instruction) → At r.code k i → chosen_call i (place_in chosen k) ≡ None → front_at k i ≡ front → IsOwn k i front
  is_own k i front at none has = record {
    code = subst (λ (xs : List Instruction). StandsAt s.code (part program number place rest true k i None xs) (place k)) has
        (subst (λ (o : Option Call). StandsAt s.code (part program number place rest true k i o (front_at k i)) (place k)) none (piece_stands_at true k i at));
    made = made_of origins (place k) (suc (length front)) (origin_at number k)
        (subst (λ (xs : List Instruction). StandsAt origins (part_origins program number true k None (length xs)) (place k)) has
        (subst (λ (o : Option Call). StandsAt origins (part_origins program number true k o (length (front_at k i))) (place k)) none (origins_stand_at true k i at)));
    next = next_is k i at ∙ ap (λ (o : Option Call). place k + part_count program true o (length (front_at k i))) none ∙ ap (λ (xs : List Instruction). place k + suc (length xs)) has;
  }

  abbrev Itself : ℕ → Instruction → Type 0
  Itself k i = At s.code (place k) (moved 0 place i) × AreMadeOf origins (place k) 1 (origin_at number k) × (place (k + 1) ≡ place k + 1)

  pub itself : (k : ℕ) (i : Instruction) → At r.code k i → chosen_call i (place_in chosen k) ≡ None → front_at k i ≡ [] → Itself k i
  itself k i at none alone =
      let own = is_own k i [] at none alone in
      let (here, nothing) = has_at s.code (moved 0 place i ∷ []) (place k) own.code in
      (here, own.made, own.next)

  -- The hoisted instructions and the duplicate that are put before an instruction satisfy `MayPrecede`, the condition on instructions
  -- that are added before that one.
  may_precede : (i : Instruction) (front : List Instruction) → AllByRecursion (λ (x : Instruction). (may_hoisted (length program.globals) r.slots s.slots x ≡ true) ⊎ IsDuplicate r.slots s.slots i x) front
      → AllByRecursion (MayPrecede r.slots s.slots i) front
  may_precede i [] each = tt
  may_precede i (x ∷ front) (inl hoisted, each) = (inl (is_hoisted (length program.globals) r.slots s.slots x hoisted), may_precede i front each)
  may_precede i (x ∷ front) (inr it, each) = (inr it, may_precede i front each)

  preceded : (k : ℕ) (i x : Instruction) (front : List Instruction) → At r.code k i → chosen_call i (place_in chosen k) ≡ None → front_at k i ≡ x ∷ front → IsFront program r s.slots i (x ∷ front)
      → IsPreceded r s origins number place k i
  preceded k i x front at none has stands =
      let own = is_own k i (x ∷ front) at none has in
      record {
        front = x ∷ front;
        each = may_precede i (x ∷ front) stands.each;
        may = stands.some (omega arith);
        at = has_at s.code (own_part place i (x ∷ front)) (place k) own.code;
        made = own.made;
        next = own.next;
      }

  opened_call : (k : ℕ) (i : Instruction) (call : Call) → At r.code k i → chosen_call i (place_in chosen k) ≡ Some call
      → IsSite program s origins r.slots number k (place k) (place (k + 1)) call.callee call.arguments call.count call.result
  opened_call k i call at opened =
      let in_range = call_in_range program r i (place_in chosen k) call (in_code program number k i is.parts.plain is.parts.is_function at) opened in
      is_site program r s origins number k (place k) (place (k + 1)) (rest k) call (is.parts.calls.each k i call at opened)
      (routine_in program call.callee is.parts.plain.well_formed in_range.function_in_range)
      (next_is k i at ∙ ap (λ (o : Option Call). place k + part_count program true o (length (front_at k i))) opened)
      (λ in_line. subst (λ (o : Option Call). StandsAt s.code (part program number place rest in_line k i o (front_at k i)) (begins in_line k)) opened (piece_stands_at in_line k i at))
      (λ in_line. subst (λ (o : Option Call). StandsAt origins (part_origins program number in_line k o (length (front_at k i))) (begins in_line k)) opened (origins_stand_at in_line k i at))

  abbrev IsSiteOf : (k : ℕ) → Instruction → Type 0
  IsSiteOf k (instructions.Call callee arguments count result) = IsSite program s origins r.slots number k (place k) (place (k + 1)) callee arguments count result
  IsSiteOf k i = Unit {0}

  itself_or_preceded : (k : ℕ) (i : Instruction) (front : List Instruction) → At r.code k i → chosen_call i (place_in chosen k) ≡ None → front_at k i ≡ front → IsFront program r s.slots i front
      → (At s.code (place k) (moved 0 place i) × AreMadeOf origins (place k) 1 (origin_at number k) × (leaves i ≡ false → place (k + 1) ≡ place k + 1))
      ⊎ IsPreceded r s origins number place k i
  itself_or_preceded k i (x ∷ front) at none has stands = inr (preceded k i x front at none has stands)
  itself_or_preceded k i [] at none alone stands = (let (here, made, next) = itself k i at none alone in inl (here, made, λ stays. next))

  pub stands : (k : ℕ) (i : Instruction) → At r.code k i → StandsFor program r s origins number place k i
  stands k (instructions.Call callee arguments count result) at = go (chosen_call (instructions.Call callee arguments count result) (place_in chosen k)) refl
    where
      go : (o : Option Call) → chosen_call (instructions.Call callee arguments count result) (place_in chosen k) ≡ o
          → StandsFor program r s origins number place k (instructions.Call callee arguments count result)
      go (Some call) opened =
          let (same, line, some) = call_is (instructions.Call callee arguments count result) (place_in chosen k) call opened in
          inr (subst (IsSiteOf k) (sym same) (opened_call k (instructions.Call callee arguments count result) call at opened))
      go None none = inl (itself k (instructions.Call callee arguments count result) at none (has_no_front k (instructions.Call callee arguments count result) refl))
  stands k i at = itself_or_preceded k i (front_at k i) at refl refl (is.parts.fronts k i)
