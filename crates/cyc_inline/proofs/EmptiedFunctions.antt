-- Lemmas for the contracts of the functions that remove the code of unreachable functions from a program.
use Rattle.std.proofs.Common.{◌≡◌, ℕ, zero, suc, ◌+◌, ◌<◌, ◌≤◌, Bool, true, List, [], ◌∷◌, ◌++◌, length, map, Option, Some, None, slice_get, refl, sym, ap, subst, ◌∙◌, arith, inl, inr, append_assoc}
use Rattle.std.specs.Prelude.{slice_index_or}
use Rattle.std.proofs.lemmas.Bool.{cases_lt}
use Rattle.std.proofs.lemmas.List.{get_or_past}
use Rattle.cyc_words.proofs.Items.{below_from_slice_get}
use Rattle.cyc_words.proofs.Lists.{map_last}
use Rattle.cyc_words.proofs.Members.{All_at}
use Rattle.cyc_plain.specs.declared.instruction.Instruction.{Instruction}
use Rattle.cyc_plain.specs.declared.instruction.Instruction.TheVariants as instructions
use Rattle.cyc_plain.specs.declared.program.Function.{Function}
use Rattle.cyc_plain.specs.inside.Program.{Routine, Program, no_routine, routine_of, routine_at, program_of}
use Rattle.cyc_plain.specs.inside.Straight.{At}
use Rattle.cyc_plain.specs.inside.WellFormed.{IsInRange, IsPlain}
use Rattle.cyc_plain.proofs.Placed.{routine_in}
use Rattle.cyc_inline.specs.declared.replacing.Opened.{Opened}
use Rattle.cyc_inline.specs.inside.Changes.{Note, note, notes_of, first_of, others, IsReported, AreReported}
use Rattle.cyc_inline.specs.inside.Emptied.{is_reached, LeadsTo, LeadsBelow, StayReached, AreReached, first_flag, other_flags, stub_of, routine_with, routine_kept, routines_kept, note_with, note_kept, notes_kept, emptied}
use Rattle.cyc_inline.proofs.EmptiedSteps.{flag_first, flags_other, kept_at}
use Rattle.cyc_inline.proofs.EmissionPrograms.{first_at, others_at}

-- ---- reached functions

leads_still : (old new : List Bool) (i : Instruction) → StayReached old new → LeadsTo old i → LeadsTo new i
leads_still old new (instructions.Call function arguments count result) (many, stay) leads = stay function leads
leads_still old new i stay leads = tt

pub stay_then : (old mid new : List Bool) → StayReached old mid → StayReached mid new → StayReached old new
stay_then old mid new (many, first) (as_many, second) = (as_many ∙ many, λ k is. second k (first k is))

-- The loop invariant still holds after the functions called by one more instruction, or by one more function, are marked as reached.
pub noted_next : (code : List Instruction) (index : ℕ) (i : Instruction) (old new : List Bool) → At code index i → StayReached old new → LeadsTo new i
    → ((p : ℕ) (j : Instruction) → p < index → At code p j → LeadsTo old j) → (p : ℕ) (j : Instruction) → p < index + 1 → At code p j → LeadsTo new j
noted_next code index i old new at stay leads before p j below there = elim (cases_lt p index) [
  | inl earlier ↦ leads_still old new j stay (before p j earlier there)
  | inr not_earlier ↦
      let same : p ≡ index = omega (arith, below, not_earlier) in
      let both : Some i ≡ Some j = sym at ∙ ap (slice_get code) (sym same) ∙ there in
      subst (LeadsTo new) (let e : Some i ≡ Some j = both in cc) leads
]

abbrev AreNoted : Program → List Bool → (k : ℕ) → Type 0
AreNoted program reached k = (p : ℕ) (i : Instruction) → At (routine_at program k).code p i → LeadsTo reached i

pub called_next : (program : Program) (number : ℕ) (r : Routine) (old new : List Bool) → r ≡ routine_at program number → StayReached old new
    → ((p : ℕ) (i : Instruction) → At r.code p i → LeadsTo new i) → ((k : ℕ) → k < number → (p : ℕ) (i : Instruction) → At (routine_at program k).code p i → LeadsTo old i)
    → (k : ℕ) → k < number + 1 → (p : ℕ) (i : Instruction) → At (routine_at program k).code p i → LeadsTo new i
called_next program number r old new is stay leads before k below = elim (cases_lt k number) [
  | inl earlier ↦ λ p i at. leads_still old new i stay (before k earlier p i at)
  | inr not_earlier ↦
      let same : k ≡ number = omega (arith, below, not_earlier) in
      subst (AreNoted program new) (sym same) (λ p i at. leads p i (subst (λ (s : Routine). At s.code p i) (sym is) at))
]

called_below : (program : Program) (r : Routine) (i : Instruction) → IsInRange program r i → LeadsBelow (length program.functions) i
called_below program r (instructions.Call function arguments count result) range = range.function_in_range
called_below program r i range = tt

-- Each function that the code calls exists in the program.
pub leads_below : (program : Program) (k : ℕ) → IsPlain program → k < length program.functions → (p : ℕ) (i : Instruction) → At (routine_at program k).code p i
    → LeadsBelow (length program.functions) i
leads_below program k plain known p i at =
    called_below program (routine_at program k) i (All_at (IsInRange program (routine_at program k)) (routine_at program k).code p i (routine_in program k plain.well_formed known).instructions at)

pub all_reached : (program : Program) (reached : List Bool) (count : ℕ) → length program.functions ≤ count → is_reached reached program.main ≡ true
    → ((k : ℕ) → k < count → (p : ℕ) (i : Instruction) → At (routine_at program k).code p i → LeadsTo reached i) → AreReached program reached
all_reached program reached count all main each = record {
  main = main;
  calls = λ k is p i at. elim (cases_lt k (length program.functions)) [
    | inl known ↦ each k (omega (arith, known, all)) p i at
    | inr past ↦
        let none : At [] p i = subst (λ (r : Routine). At r.code p i) (get_or_past program.functions k no_routine past) at in
        absurd (let few = below_from_slice_get [] p i none in omega (arith, few))
  ];
}

-- ---- the kept functions, one by one

routines_more : (done new whole rs rest : List Routine) (bs following : List Bool) (r s : Routine) → done ++ routines_kept rs bs ≡ whole → rs ≡ r ∷ rest → following ≡ other_flags bs
    → s ≡ routine_kept (first_flag bs) r → new ≡ done ++ s ∷ [] → new ++ routines_kept rest following ≡ whole
routines_more done new whole rs rest bs following r s before is other made pushed =
    ap (λ (xs : List Routine). xs ++ routines_kept rest following) pushed
    ∙ append_assoc done (s ∷ []) (routines_kept rest following)
    ∙ (λ i. done ++ made i ∷ routines_kept rest (other i))
    ∙ ap (λ (xs : List Routine). done ++ routines_kept xs bs) (sym is)
    ∙ before

notes_more : (done new whole : List (Option Note)) (rs rest : List Routine) (vs after : List (Option Note)) (bs following : List Bool) (r : Routine) (v : Option Note)
    → done ++ notes_kept rs vs bs ≡ whole → rs ≡ r ∷ rest → after ≡ others vs → following ≡ other_flags bs → v ≡ note_kept (first_flag bs) r (first_of vs) → new ≡ done ++ v ∷ []
    → new ++ notes_kept rest after following ≡ whole
notes_more done new whole rs rest vs after bs following r v before is next other made pushed =
    ap (λ (xs : List (Option Note)). xs ++ notes_kept rest after following) pushed
    ∙ append_assoc done (v ∷ []) (notes_kept rest after following)
    ∙ (λ i. done ++ made i ∷ notes_kept rest (next i) (other i))
    ∙ ap (λ (xs : List Routine). done ++ notes_kept xs vs bs) (sym is)
    ∙ before

notes_others : (os : List (Option Opened)) → notes_of (others os) ≡ others (notes_of os)
notes_others [] = refl
notes_others (o ∷ os) = refl

note_first : (os : List (Option Opened)) → note (first_of os) ≡ first_of (notes_of os)
note_first [] = refl
note_first (o ∷ os) = refl

pub functions_more : (done new fs rest : List Function) (whole : List Routine) (bs following : List Bool) (b : Bool) (f g : Function)
    → map routine_of done ++ routines_kept (map routine_of fs) bs ≡ whole → fs ≡ f ∷ rest → following ≡ other_flags bs → b ≡ first_flag bs
    → routine_of g ≡ routine_kept b (routine_of f) → new ≡ done ++ g ∷ [] → map routine_of new ++ routines_kept (map routine_of rest) following ≡ whole
functions_more done new fs rest whole bs following b f g before is other flag made pushed =
    routines_more (map routine_of done) (map routine_of new) whole (map routine_of fs) (map routine_of rest) bs following (routine_of f) (routine_of g) before (ap (map routine_of) is) other
    (made ∙ ap (λ (x : Bool). routine_kept x (routine_of f)) flag) (ap (map routine_of) pushed ∙ map_last routine_of done g)

pub opened_more : (done new : List (Option Opened)) (whole : List (Option Note)) (fs rest : List Function) (os after : List (Option Opened)) (bs following : List Bool) (b : Bool) (f : Function)
    (o made : Option Opened) → notes_of done ++ notes_kept (map routine_of fs) (notes_of os) bs ≡ whole → fs ≡ f ∷ rest → after ≡ others os → following ≡ other_flags bs → b ≡ first_flag bs → o ≡ first_of os
    → note made ≡ note_kept b (routine_of f) (note o) → new ≡ done ++ made ∷ [] → notes_of new ++ notes_kept (map routine_of rest) (notes_of after) following ≡ whole
opened_more done new whole fs rest os after bs following b f o made before is next other flag first noted pushed =
    notes_more (notes_of done) (notes_of new) whole (map routine_of fs) (map routine_of rest) (notes_of os) (notes_of after) bs following (routine_of f) (note made) before (ap (map routine_of) is)
    (ap notes_of next ∙ notes_others os) other
    (noted ∙ (λ i. note_kept (flag i) (routine_of f) ((ap note first ∙ note_first os) i))) (ap notes_of pushed ∙ map_last note done made)

-- ---- the reported origins of the whole program

length_notes : (rs : List Routine) (vs : List (Option Note)) (bs : List Bool) → length (notes_kept rs vs bs) ≡ length rs
length_notes [] vs bs = refl
length_notes (r ∷ rs) vs bs = ap suc (length_notes rs (others vs) (other_flags bs))

notes_at : (rs : List Routine) (vs : List (Option Note)) (bs : List Bool) (k : ℕ) → k < length rs
    → slice_index_or (notes_kept rs vs bs) k None ≡ note_kept (is_reached bs k) (slice_index_or rs k no_routine) (slice_index_or vs k None)
notes_at [] vs bs k known = absurd (omega (arith, known))
notes_at (r ∷ rs) vs bs zero known = λ i. note_kept (flag_first bs i) r (first_at vs i)
notes_at (r ∷ rs) vs bs (suc k) known =
    notes_at rs (others vs) (other_flags bs) k (omega (arith, known)) ∙ (λ i. note_kept (flags_other bs k i) (slice_index_or rs k no_routine) (others_at vs k i))

with_is_reported : (stub : Option Instruction) (r s : Routine) (v : Option Note) → IsReported r s v → IsReported r (routine_with stub s) (note_with stub s v)
with_is_reported None r s v reported = reported
with_is_reported (Some i) r s (Some reported) (given, count) = (given, refl)
with_is_reported (Some i) r s None reported = (reported, refl)

kept_is_reported : (b : Bool) (r s : Routine) (v : Option Note) → IsReported r s v → IsReported r (routine_kept b s) (note_kept b s v)
kept_is_reported b r s v reported = with_is_reported (stub_of b s.code) r s v reported

pub reported_still : (program given : Program) (notes : List (Option Note)) (reached : List Bool) → length given.functions ≡ length program.functions → AreReported program given notes
    → AreReported program (emptied given reached) (notes_kept given.functions notes reached)
reported_still program given notes reached many are = record {
  as_many = length_notes given.functions notes reached ∙ many;
  each = λ k below.
      (let known : k < length given.functions = omega (arith, below, many) in
      subst (IsReported (routine_at program k) (routine_at (emptied given reached) k)) (sym (notes_at given.functions notes reached k known))
      (subst (λ (s : Routine). IsReported (routine_at program k) s (note_kept (is_reached reached k) (routine_at given k) (slice_index_or notes k None))) (sym (kept_at given.functions reached k known))
      (kept_is_reported (is_reached reached k) (routine_at program k) (routine_at given k) (slice_index_or notes k None) (are.each k below))));
}

-- If a loop returns the functions with the code of unreachable ones removed, the program made of these functions is the source
-- program without unreachable code.
pub kept_program : (given : Program) (fs gs : List Function) (globals : List ℕ) (main : ℕ) (reached : List Bool) → program_of fs globals main ≡ given
    → map routine_of gs ≡ routines_kept (map routine_of fs) reached → program_of gs globals main ≡ emptied given reached
kept_program given fs gs globals main reached parts kept =
    let same : map routine_of fs ≡ given.functions = ap (λ (p : Program). p.functions) parts in
    λ i. record { functions = (kept ∙ ap (λ (rs : List Routine). routines_kept rs reached) same) i; globals = (parts i).globals; main = (parts i).main }

pub reported_whole : (program given : Program) (fs : List Function) (notes made : List (Option Note)) (reached : List Bool) (whole : Program) → map routine_of fs ≡ given.functions
    → made ≡ notes_kept (map routine_of fs) notes reached → whole ≡ emptied given reached → length given.functions ≡ length program.functions → AreReported program given notes → AreReported program whole made
reported_whole program given fs notes made reached whole parts kept is many are =
    subst (λ (p : Program). AreReported program p made) (sym is)
    (subst (AreReported program (emptied given reached)) (sym (kept ∙ ap (λ (rs : List Routine). notes_kept rs notes reached) parts)) (reported_still program given notes reached many are))
