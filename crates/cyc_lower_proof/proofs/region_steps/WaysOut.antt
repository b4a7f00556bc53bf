-- This file proves that `break`, `continue` and `return` leave lexical regions: the plain program closes them in the source step that
-- leaves the outermost region.
use Rattle.std.proofs.Common.{◌≡◌, ℕ, suc, ◌<◌, Bool, List, ◌∷◌, Option, None, Some, refl, sym, subst, arith}
use Rattle.cyc_types.specs.TypedTrees.{Program}
use Rattle.cyc_plain.specs.inside.State as plain
use Rattle.cyc_plain.specs.inside.State.{Configuration}
use Rattle.cyc_meaning.specs.State.{Region, World, Found, region_at, closed, Environment, Entry, CloseLexical, Focus, Running}
use Rattle.cyc_meaning.specs.inside.Nesting.{IsNested}
use Rattle.cyc_meaning.specs.Step.{step}
use Rattle.cyc_memory_relation.specs.inside.Related.{scopes}
use Rattle.cyc_memory_relation.proofs.Closing.{scopes-closed}
use Rattle.cyc_memory_relation.proofs.Scopes.{scopes-counted, ends-newest}
use Rattle.cyc_lower_proof.specs.inside.ControlCode.{outermost}
use Rattle.cyc_lower_proof.proofs.relation.code.Statements.{MarksAt}
use Rattle.cyc_lower_proof.proofs.relation.contents.HeldValues.{left_by, scopes_in, callers}
use Rattle.cyc_lower_proof.proofs.relation.simulation.Relation.{IsMark, SharedBy, HandlersStand, FocusAt, Leaves, Related}
use Rattle.cyc_lower_proof.proofs.relation.simulation.Stacks.{DataAt, opened_by, floor, code_of, bounds_at, types_at}
use Rattle.cyc_lower_proof.proofs.relation.simulation.Weights.{weight}
use Rattle.cyc_lower_proof.proofs.relation.simulation.Matched.{inside_by, IsMatched, silently}
use Rattle.cyc_lower_proof.proofs.region_steps.Closings.{closed_down, by_closing, shared_after, settled}
use Rattle.cyc_lower_proof.proofs.handler_steps.Handling.{unmarked}

module _ (source : Program) (pages calls : ℕ) (loop : Bool) (focus : Focus) (region : ℕ) (k : List Entry) (e : Environment) (w : World) (c : Configuration)
    (does : (r : Region) → region_at w region ≡ Found r → step source (Running focus (CloseLexical region ∷ k) e w) ≡ Running focus k e (closed w region r))
    (lighter : (v : World) → weight (Running focus k e v) < weight (Running focus (CloseLexical region ∷ k) e w))
    (enters : (v : World) (d : Configuration) → Leaves source loop (opened_by source loop d.active.function k).mark pages calls focus k e v d → Related source pages calls focus k e v d)
    (nested : IsNested (CloseLexical region ∷ k) e w) where
  abbrev g : ℕ
  g = c.active.function

  -- The source run closes the outermost lexical region that an exit leaves, or it closes inner regions first.
  by_mark : (o : Option ℕ) → (opened_by source loop g k).mark ≡ o → (shared : SharedBy source (outermost o (floor source g k)) pages calls (CloseLexical region ∷ k) e w c)
      → DataAt source shared.tables g c.active.base w.objects e.locals (callers k) c.active.slots c.globals c.frames → HandlersStand source g c.active.slots c.active.handlers c.frames (left_by loop k)
      → (r : ℕ) → MarksAt (code_of source g) (bounds_at source g) (types_at source g) (outermost o (floor source g k)) c.active.next r
      → IsMark source (outermost o (floor source g k)) c.active.slots (scopes_in (left_by loop k)) → FocusAt source shared.tables focus k e.locals g r c.active.slots c.frames
      → IsMatched source pages calls (Running focus (CloseLexical region ∷ k) e w) (plain.Running c)
  by_mark None none shared facts stand r marks marked at =
      let own = floor source g k in
      let many = scopes_in (left_by loop k) in
      let ends = ends-newest region k e w nested in
      let left : many ≡ scopes_in k = unmarked source loop g k none in
      let counted : scopes w.regions ≡ suc (scopes_in k) = scopes-counted (CloseLexical region ∷ k) e w nested in
      let now : scopes w.regions ≡ suc (scopes (closed w region ends.region).regions) = scopes-closed w.regions region ends.region ends.there ends.scope in
      by_closing source pages calls focus (CloseLexical region ∷ k) e w (Running focus k e (closed w region ends.region)) c own many r (does ends.region ends.found) marks
      (inside_by source (Some own) pages calls (CloseLexical region ∷ k) e w c shared) marked (omega (arith, left, counted, shared.counters.1.2))
      (λ choice allowed. enters (closed w region ends.region) (closed_down c choice many r)
      (subst (λ (closing : Option ℕ). Leaves source loop closing pages calls focus k e (closed w region ends.region) (closed_down c choice many r)) (sym none) (
        settled source pages calls own k e (closed w region ends.region) c many r choice (omega (arith, left, counted, now)) (sym left) allowed
            (shared_after source pages calls (Some own) region k e w c ends shared.counters.1.0 tt shared),
        (facts, stand),
        r,
        refl,
        tt,
        at,
      )))
  by_mark (Some mark) there shared facts stand r marks marked at =
      let ends = ends-newest region k e w nested in
      silently source pages calls (Running focus (CloseLexical region ∷ k) e w) (Running focus k e (closed w region ends.region)) (plain.Running c) (does ends.region ends.found)
      (enters (closed w region ends.region) c (subst (λ (closing : Option ℕ). Leaves source loop closing pages calls focus k e (closed w region ends.region) c) (sym there)
      (shared_after source pages calls (Some mark) region k e w c ends shared.counters.1.0 tt shared, (facts, stand), r, marks, marked, at)))
      (lighter (closed w region ends.region))

  pub leaves_region : (shared : SharedBy source (opened_by source loop g (CloseLexical region ∷ k)).mark pages calls (CloseLexical region ∷ k) e w c)
      → DataAt source shared.tables g c.active.base w.objects e.locals (callers k) c.active.slots c.globals c.frames × HandlersStand source g c.active.slots c.active.handlers c.frames (left_by loop k)
      → (r : ℕ) → MarksAt (code_of source g) (bounds_at source g) (types_at source g) (opened_by source loop g (CloseLexical region ∷ k)).mark c.active.next r
      → IsMark source (opened_by source loop g (CloseLexical region ∷ k)).mark c.active.slots (scopes_in (left_by loop k)) → FocusAt source shared.tables focus k e.locals g r c.active.slots c.frames
      → IsMatched source pages calls (Running focus (CloseLexical region ∷ k) e w) (plain.Running c)
  leaves_region shared (facts, stand) r marks marked at = by_mark (opened_by source loop g k).mark refl shared facts stand r marks marked at
