-- A function made of the emitted code and tables of code positions is well-formed and correctly replaces the source function.
use Rattle.std.proofs.Common.{◌≡◌, ℕ, ◌+◌, ◌-◌, ◌<◌, ◌≤◌, true, false, List, [], ◌∷◌, length, length-append, Option, Some, None, slice_get, refl, sym, ap, subst, ◌∙◌, arith, inl, inr}
use Rattle.std.specs.Prelude.{All, ◌⊎◌}
use Rattle.std.proofs.lemmas.Bool.{false≢true}
use Rattle.cyc_plain.specs.declared.instruction.Instruction.{Instruction}
use Rattle.cyc_plain.specs.declared.instruction.Instruction.TheVariants as instructions
use Rattle.cyc_plain.specs.declared.limits.TheConstants.{LAYOUT_WORDS, MOST_FRAME_WORDS}
use Rattle.cyc_plain.specs.inside.Program.{Routine, Program, no_routine, routine_at}
use Rattle.cyc_plain.specs.inside.WellFormed.{IsRoutine, IsPlain, HasWord, leaves}
use Rattle.cyc_plain.proofs.Placed.{has_code, routine_in}
use Rattle.cyc_inline.specs.declared.origin.Origin.{Origin}
use Rattle.cyc_inline.specs.inside.Inlined.{IsLike}
use Rattle.cyc_inline.specs.inside.Opened.{moved, IsOpened}
use Rattle.cyc_inline.specs.inside.Sites.{chosen_call, place_in, places_inside}
use Rattle.cyc_inline.specs.inside.Emission.{IsMade, part, site_of, opened_code, opened_origins}
use Rattle.cyc_inline.proofs.EmissionPieces.{offset}
use Rattle.cyc_inline.proofs.EmissionPlaces.{count_at, piece_at, code_is, IsOf, begins_at, long_in, origins_long_in, has_no_front, itself, stands}
use Rattle.cyc_inline.proofs.RangesMoved.{same_leaving, leaves_alone}
use Rattle.cyc_inline.proofs.RangesCode.{code_long, placed, opened_at, words_of, pinned, in_range_of}
use Rattle.cyc_inline.proofs.RangesEnds.{EndsWell, none_ends, ends_both, ends_pieces, rest_ends, function_ends, last_leaves}
use Rattle.cyc_plain.specs.inside.Straight.{At}
use Rattle.cyc_words.proofs.Lists.{slice_get_below}
use Rattle.cyc_words.proofs.Items.{slice_get_front}
use Rattle.cyc_inline.specs.declared.site.Call.{Call}

-- ---- one function

-- An instruction through which control never falls is not a call that was chosen for inlining.
stands_itself : (i : Instruction) (line : ℕ) → leaves i ≡ true → chosen_call i line ≡ None
stands_itself (instructions.Call callee arguments count result) line leaving = absurd (false≢true leaving)
stands_itself i line leaving = refl

none_before : (count : ℕ → Instruction → ℕ) (code : List Instruction) → offset count 0 code 0 ≡ 0
none_before count [] = refl
none_before count (i ∷ code) = refl

-- The numbers in the instructions of a plain program (a program in three-address code) fit machine words.
pub function_words : (program : Program) (number : ℕ) → IsPlain program → number < length program.functions → All HasWord (routine_at program number).code
function_words program number plain is_function = plain.words.functions number no_routine is_function

module _ (program : Program) (number : ℕ) (chosen : List ℕ) (front_at : ℕ → Instruction → List Instruction) (places rests : List ℕ) (s : Routine) (origins : List Origin) (is : IsOf program number chosen front_at places rests s origins) where
  abbrev r : Routine
  r = routine_at program number

  abbrev place : ℕ → ℕ
  place = place_in places

  routine : IsRoutine program r
  routine = routine_in program number is.parts.plain.well_formed is.parts.is_function

  frame_like : (s.frame_count ≡ r.frame_count) ⊎ ((r.frame_count ≤ MOST_FRAME_WORDS) × (s.frame_count ≤ MOST_FRAME_WORDS))
  frame_like = elim is.frame [
    | inl same ↦ inl same
    | inr larger ↦ grown larger
  ]
    where
      grown : s.frame_count ≡ s.slots + LAYOUT_WORDS → (s.frame_count ≡ r.frame_count) ⊎ ((r.frame_count ≤ MOST_FRAME_WORDS) × (s.frame_count ≤ MOST_FRAME_WORDS))
      grown larger = elim is.parts.calls.frame [
        | inl same ↦ (let room = routine.frame in let least = is.least in inl (omega (arith, larger, same, room, least)))
        | inr (given, made) ↦ inr (given, omega (arith, larger, made))
      ]

  like : IsLike r s
  like = record { name = is.name; parameters = is.parameters; results = is.results; slots = is.parts.calls.least; frame = frame_like }

  abbrev rest : ℕ → ℕ
  rest = place_in rests

  abbrev front : List Instruction
  front = opened_code program number chosen front_at place rest true 0 r.code

  abbrev back : List Instruction
  back = opened_code program number chosen front_at place rest false 0 r.code

  as_long : length origins ≡ length s.code
  as_long =
      let first = origins_long_in program number chosen front_at places rests s origins is true in
      let second = origins_long_in program number chosen front_at places rests s origins is false in
      let all = ap (λ (os : List Origin). length os) is.origins_are in
      let both = length-append (opened_origins program number chosen front_at true 0 r.code) (opened_origins program number chosen front_at false 0 r.code) in
      omega (arith, first, second, all, both, code_long program number chosen front_at places rests s origins is)

  opened : IsOpened program number r s origins
  opened = record {
    like = like;
    as_many = as_long;
    place = place;
    first = (let begun = begins_at program number chosen front_at places rests s origins is true 0 (omega arith) in omega (arith, begun, none_before (count_at program chosen front_at true) r.code));
    stands = stands program number chosen front_at places rests s origins is;
    pinned = pinned program number chosen front_at places rests s origins is;
  }

  -- A function's own code, after which instructions of inlined callees follow, does not run off its end, since control never falls through
  -- its last instruction.
  front_ends : EndsWell front
  front_ends k i at last =
      let some = has_code program r routine in
      let n = length r.code - 1 in
      let end : n + 1 ≡ length r.code = omega (arith, some) in
      let (j, there) = slice_get_below r.code n (omega (arith, some)) in
      let leaving = function_ends program r routine n j there end in
      let (here, made, next) = itself program number chosen front_at places rests s origins is n j there (stands_itself j (place_in chosen n) leaving)
      (has_no_front program number chosen front_at places rests s origins is n j (leaves_alone j leaving)) in
      let all = begins_at program number chosen front_at places rests s origins is true (length r.code) (omega arith) in
      let long = long_in program number chosen front_at places rests s origins is true in
      let following : place (n + 1) ≡ place (length r.code) = ap place end in
      let same : place n ≡ k = omega (arith, next, following, all, long, last) in
      let at_code : At s.code k i = subst (λ (code : List Instruction). At code k i) (sym is.code) (slice_get_front front back k i at) in
      let is_it : moved 0 place j ≡ i = (let e : Some (moved 0 place j) ≡ Some i = sym here ∙ ap (slice_get s.code) same ∙ at_code in cc) in
      sym (ap leaves is_it) ∙ same_leaving 0 place j ∙ leaving

  -- Control does not run off the end of those instructions of an inlined callee that are placed after the caller's code.
  rest_part_ends : (k : ℕ) (i : Instruction) (call : Option Call) → At r.code k i → chosen_call i (place_in chosen k) ≡ call
      → EndsWell (part program number place rest false k i call (front_at k i))
  rest_part_ends k i (Some call) at chosen_is =
      let opened = opened_at program number chosen front_at places rests s origins is k i call at chosen_is in
      let t = routine_at program call.callee in
      let site = site_of program r call (place (k + 1)) (rest k) in
      rest_ends site (places_inside site (place k) t.code) 0 t.code
      (function_ends program t (routine_in program call.callee is.parts.plain.well_formed opened.call_in_range.function_in_range))
  rest_part_ends k i None at chosen_is = none_ends

  back_ends : EndsWell back
  back_ends =
      subst EndsWell (sym (code_is program number chosen front_at place rest false 0 r.code))
      (ends_pieces (piece_at program number chosen front_at place rest false) 0 r.code (λ k i at.
      let same : k ≡ 0 + k = omega arith in
      subst (λ (n : ℕ). EndsWell (piece_at program number chosen front_at place rest false n i)) same (rest_part_ends k i (chosen_call i (place_in chosen k)) at refl)))

  code_ends : EndsWell s.code
  code_ends = subst EndsWell (sym is.code) (ends_both front back front_ends back_ends)

  is_routine : IsRoutine program s
  is_routine = record {
    parameters = (let a = routine.parameters in let b = is.parameters in let c = is.parts.calls.least in omega (arith, a, b, c));
    results = (let a = routine.results in let b = is.results in omega (arith, a, b));
    frame = is.room;
    instructions = in_range_of program number chosen front_at places rests s origins is;
    last = last_leaves s.code (let below = placed program number chosen front_at places rests s origins is 0 (has_code program r routine) in omega (arith, below)) code_ends;
  }

  -- A function made of the emitted code and tables of code positions correctly replaces the source function.
  pub is_made : IsMade program number s origins
  is_made = record {
    opened = opened;
    routine = is_routine;
    words = words_of program number chosen front_at places rests s origins is (function_words program number is.parts.plain is.parts.is_function)
        (λ f is_function. function_words program f is.parts.plain is_function);
  }
