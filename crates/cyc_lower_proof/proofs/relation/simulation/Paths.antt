-- This file matches a step of the source by several instructions. Each instruction except the last reaches a configuration that is
-- stated in the path, at a later position of the code. Nothing is printed before the last instruction.
use Rattle.std.proofs.Common.{◌≡◌, ◌≢◌, ℕ, suc, ◌<◌, true, List, [], ◌∷◌, ◌++◌, length, refl, sym, ap, subst, ◌∙◌, arith}
use Rattle.std.specs.Prelude.{Contains, nat_le, ◌&&◌}
use Rattle.std.specs.List.{AllByRecursion}
use Rattle.cyc_words.specs.Distinct.{IsDistinct}
use Rattle.cyc_types.specs.TypedTrees.{Program}
use Rattle.cyc_store.specs.State.{demand}
use Rattle.cyc_plain.specs.declared.instruction.Instruction.{Instruction}
use Rattle.cyc_plain.specs.inside.Program.{CodePlace, places_of}
use Rattle.cyc_plain.specs.inside.State as plain
use Rattle.cyc_plain.specs.inside.State.{Configuration}
use Rattle.cyc_plain.specs.inside.Step.{Choice, performed}
use Rattle.cyc_plain.specs.inside.Step as plain_step
use Rattle.cyc_plain.specs.inside.Straight.{At}
use Rattle.cyc_words.proofs.Matching.{way_before}
use Rattle.cyc_meaning.specs.State.{World, Environment, Entry, Focus, State, Running}
use Rattle.cyc_meaning.specs.Step.{step}
use Rattle.cyc_lower_proof.specs.inside.Lowering.{lower_program}
use Rattle.cyc_lower_proof.proofs.relation.simulation.Relation.{SharedAt, Matches}
use Rattle.cyc_lower_proof.proofs.relation.simulation.Stacks.{code_of}
use Rattle.cyc_lower_proof.proofs.relation.simulation.Shared.{seen_in, shared_seen}
use Rattle.cyc_lower_proof.proofs.relation.simulation.Matched.{above, below, matching, shared_within, matches_within_below, Executes, executes, by_places, place_in, known, IsMatched}

-- An instruction of a path, and the configuration after it.
pub record Link : Type 0 where
  pub instruction : Instruction
  pub following : Configuration

-- Says that between two configurations nothing is printed or read, and that the page use and the number of calls are unchanged.
pub record IsQuiet (c d : Configuration) : Type 0 where
  pub seen : plain.seen_of (plain.Running d) ≡ plain.seen_of (plain.Running c)
  pub demand : demand d.store ≡ demand c.store
  pub frames : length d.frames ≡ length c.frames

-- If only the slots and the code position change, then nothing is printed or read.
pub is_quiet : (c : Configuration) (active : plain.Activation) → IsQuiet c (record c { active = active })
is_quiet c active = record { seen = refl; demand = refl; frames = refl }

abbrev pub end_of : Configuration → List Link → Configuration
end_of c [] = c
end_of c (l ∷ links) = end_of l.following links

-- The end of two joined paths of instructions is the end of the second path, which continues from the end of the first.
pub end_joined : (c : Configuration) (first rest : List Link) → end_of c (first ++ rest) ≡ end_of (end_of c first) rest
end_joined c [] rest = refl
end_joined c (l ∷ first) rest = end_joined l.following first rest

module _ (source : Program) where
  abbrev pub IsPath : Configuration → List Link → Type 0
  IsPath c [] = Unit {0}
  IsPath c (l ∷ links) =
      At (code_of source c.active.function) c.active.next l.instruction
      × ((choice : Choice) → performed (lower_program source) choice c l.instruction ≡ plain.Running l.following)
      × (c.active.next < l.following.active.next) × IsQuiet c l.following × IsPath l.following links

  pub path_joined : (c : Configuration) (first rest : List Link) → IsPath c first → IsPath (end_of c first) rest → IsPath c (first ++ rest)
  path_joined c [] rest path following = following
  path_joined c (l ∷ first) rest (at, leads, on, quiet, path) following = (at, leads, on, quiet, path_joined l.following first rest path following)

module _ (source : Program) (pages calls : ℕ) where
  abbrev pub path_places : Configuration → List Link → List CodePlace
  path_places c [] = []
  path_places c (l ∷ links) = place_in source pages calls l.following ∷ path_places l.following links

  -- If a code position comes before the current one, it differs from the current position and from all later positions on the path.
  later : (p : CodePlace) (c : Configuration) (links : List Link) → p.index < c.active.next → IsPath source c links
      → AllByRecursion (λ q. p ≢ q) (place_in source pages calls c ∷ path_places c links)
  later p c [] less path = (λ same. absurd (omega (arith, less, ap (λ (q : CodePlace). q.index) same)), tt)
  later p c (l ∷ links) less (at, leads, on, quiet, path) =
      (λ same. absurd (omega (arith, less, ap (λ (q : CodePlace). q.index) same)), later p l.following links (omega (arith, less, on)) path)

  are_distinct : (c : Configuration) (links : List Link) → IsPath source c links → IsDistinct (place_in source pages calls c ∷ path_places c links)
  are_distinct c [] path = (tt, tt)
  are_distinct c (l ∷ links) (at, leads, on, quiet, path) = (later (place_in source pages calls c) l.following links on path, are_distinct l.following links path)

  are_known : (c : Configuration) (links : List Link) (i : Instruction) → IsPath source c links → At (code_of source (end_of c links).active.function) (end_of c links).active.next i
      → AllByRecursion (Contains (places_of (lower_program source))) (place_in source pages calls c ∷ path_places c links)
  are_known c [] i path last = (known source pages calls c i last, tt)
  are_known c (l ∷ links) i (at, leads, on, quiet, path) last = (known source pages calls c l.instruction at, are_known l.following links i path last)

  pub stays_within : (c d : Configuration) → IsQuiet c d → plain_step.is_within pages calls (plain.Running c) ≡ true → plain_step.is_within pages calls (plain.Running d) ≡ true
  stays_within c d quiet within =
      ap (λ (n : ℕ). nat_le n pages && nat_le (suc (length d.frames)) calls) quiet.demand
      ∙ (ap (λ (n : ℕ). nat_le (demand c.store) pages && nat_le (suc n) calls) quiet.frames ∙ within)

  pub runs : (focus : Focus) (k : List Entry) (e : Environment) (w : World) (next : State) (c : Configuration) (links : List Link) (i : Instruction)
      → plain_step.is_within pages calls (plain.Running c) ≡ true → plain.seen_of (plain.Running c) ≡ seen_in w → IsPath source c links
      → At (code_of source (end_of c links).active.function) (end_of c links).active.next i
      → ((choice : Choice) → Matches source pages calls next (performed (lower_program source) choice (end_of c links) i))
      → Executes source pages calls (Running focus k e w) next (place_in source pages calls c ∷ path_places c links) (plain.Running c)
  runs focus k e w next c [] i within seen path last goes =
      executes source pages calls (Running focus k e w) next c i [] last
      (λ choice. matches_within_below source pages calls next (performed (lower_program source) choice c i) (goes choice))
      (way_before (above source pages calls) (below source pages calls) (matching source pages calls) (Running focus k e w) (plain.Running c) refl seen) goes
  runs focus k e w next c (l ∷ links) i within seen (at, leads, on, quiet, path) last goes =
      let inside = stays_within c l.following quiet within in
      executes source pages calls (Running focus k e w) next c l.instruction (place_in source pages calls l.following ∷ path_places l.following links) at
      (λ choice. ap (plain_step.is_within pages calls) (leads choice) ∙ inside)
      (way_before (above source pages calls) (below source pages calls) (matching source pages calls) (Running focus k e w) (plain.Running c) refl seen)
      (λ choice. subst (Executes source pages calls (Running focus k e w) next (place_in source pages calls l.following ∷ path_places l.following links)) (sym (leads choice))
      (runs focus k e w next l.following links i inside (quiet.seen ∙ seen) path last goes))

  -- A source step is matched by the instructions of a path and one more instruction.
  pub by_path : (focus : Focus) (k : List Entry) (e : Environment) (w : World) (c : Configuration) (next : State) (links : List Link) (i : Instruction)
      → step source (Running focus k e w) ≡ next → SharedAt source pages calls k e w c → IsPath source c links
      → At (code_of source (end_of c links).active.function) (end_of c links).active.next i
      → ((choice : Choice) → Matches source pages calls next (performed (lower_program source) choice (end_of c links) i))
      → IsMatched source pages calls (Running focus k e w) (plain.Running c)
  by_path focus k e w c next links i does shared path last goes =
      by_places source pages calls (Running focus k e w) next (place_in source pages calls c) (path_places c links) (plain.Running c) does
      (are_distinct c links path) (are_known c links i path last)
      (runs focus k e w next c links i (shared_within source pages calls k e w c shared) (shared_seen shared) path last goes)
