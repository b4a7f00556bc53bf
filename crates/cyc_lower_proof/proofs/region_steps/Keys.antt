-- This file proves the step that closes a dynamic region by its key: the heap store closes the region whose handle is the word of the key.
use Rattle.std.proofs.Common.{◌≡◌, ℕ, ◌≤◌, true, List, ◌∷◌, None, Some, slice_get, refl, sym, ap, ◌∙◌, subst, arith}
use Rattle.std.specs.Prelude.{if◌then◌else◌}
use Rattle.cyc_types.specs.declared.typed.Kind.{Kind}
use Rattle.cyc_types.specs.declared.typed.Kind.TheVariants as kinds
use Rattle.cyc_types.specs.TypedTrees.{Program}
use Rattle.cyc_store.specs.State.{demand}
use Rattle.cyc_store.specs.Services as services
use Rattle.cyc_store.specs.Services.{CloseDynamic}
use Rattle.cyc_store.proofs.ServiceLemmas.{served-sound}
use Rattle.cyc_plain.specs.declared.instruction.Operand.{Operand}
use Rattle.cyc_plain.specs.declared.instruction.Operand.TheVariants as operands
use Rattle.cyc_plain.specs.declared.instruction.Request.TheVariants as requests
use Rattle.cyc_plain.specs.inside.State as plain
use Rattle.cyc_plain.specs.inside.State.{Words, Configuration}
use Rattle.cyc_plain.specs.inside.Step.{operand_word, served_to}
use Rattle.cyc_plain.specs.inside.Step as plain_step
use Rattle.cyc_meaning.specs.Values.{Value, Key}
use Rattle.cyc_meaning.specs.Regions.{is_dynamic, closes_dynamic}
use Rattle.cyc_meaning.specs.State.{Sort, Dynamic, Region, World, Access, Found, Closed, Missing, region_at, closed, Environment, CloseByKey, Entry, Needs, Given, Proceeding, Running}
use Rattle.cyc_meaning.specs.Step.{wrong, step}
use Rattle.cyc_memory_relation.specs.inside.Tables.{Tables}
use Rattle.cyc_memory_relation.specs.inside.Related.{has_home}
use Rattle.cyc_memory_relation.proofs.Making.{open-home}
use Rattle.cyc_memory_relation.proofs.Services.{refusal-close, closed-dynamic}
use Rattle.cyc_lower_proof.proofs.relation.contents.HeldValues.{IsIn}
use Rattle.cyc_lower_proof.proofs.relation.simulation.Relation.{DataIn, SharedAt}
use Rattle.cyc_lower_proof.proofs.relation.simulation.Stacks.{ValueStack, LandsStack}
use Rattle.cyc_lower_proof.proofs.relation.simulation.Accesses.{IsWell}
use Rattle.cyc_lower_proof.proofs.relation.simulation.Matched.{IsMatched, shared_within}
use Rattle.cyc_lower_proof.proofs.object_steps.Asking.{by_asking}
use Rattle.cyc_lower_proof.proofs.object_steps.UniqueBlocks.{proceeds}

-- The word that represents a key is the handle of the key's region.
key_word : (t : Tables) (kind : Kind) (region : ℕ) (slots : Words) (o : Operand) → IsIn t (record { kind = kind; value = Key region }) slots o → slice_get t.handles region ≡ Some (Some (operand_word slots o))
key_word t kinds.Key region slots (operands.Slot n) is = is
key_word t kinds.Key region slots (operands.Word n) is = is
key_word t kind region slots (operands.Slot n) is = absurd is
key_word t kind region slots (operands.Word n) is = absurd is

-- A region that is closed by its key is dynamic and open.
pub record IsOpened (region : ℕ) (k : List Entry) (e : Environment) (w : World) : Type 0 where
  pub at : Region
  pub found : region_at w region ≡ Found at
  pub dynamic : at.sort ≡ Dynamic
  pub gives : closes_dynamic (region_at w region) region k e w ≡ Running Proceeding k e (closed w region at)

is_opened : (region : ℕ) (k : List Entry) (e : Environment) (w : World) → IsWell (closes_dynamic (region_at w region) region k e w) → IsOpened region k e w
is_opened region k e w well = by (region_at w region) refl well
  where
    reported : (sort : Sort) (r : Region) → IsWell (if is_dynamic sort then Running Proceeding k e (closed w region r) else wrong w)
        → (sort ≡ Dynamic) × ((if is_dynamic sort then Running Proceeding k e (closed w region r) else wrong w) ≡ Running Proceeding k e (closed w region r))
    reported Dynamic r well = (refl, refl)
    reported sort r well = absurd (well refl)

    by : (a : Access Region) → region_at w region ≡ a → IsWell (closes_dynamic a region k e w) → IsOpened region k e w
    by (Found r) found well =
        let (dynamic, gives) = reported r.sort r well in
        record { at = r; found = found; dynamic = dynamic; gives = ap (λ a. closes_dynamic a region k e w) found ∙ gives }
    by Closed found well = absurd (well refl)
    by Missing found well = absurd (well refl)

module _ (source : Program) (pages calls : ℕ) where
  module _ (k : List Entry) (e : Environment) (w : World) (c : Configuration) (shared : SharedAt source pages calls k e w c) (region word : ℕ) (r : Region) (found : region_at w region ≡ Found r) (dynamic : r.sort ≡ Dynamic)
      (entry : slice_get shared.tables.handles region ≡ Some (Some word)) where
    abbrev opens : (slice_get w.regions region ≡ Some r) × (has_home r ≡ true)
    opens = open-home shared.related region word r found entry

    free : services.refusal c.store (CloseDynamic word) ≡ None
    free = refusal-close shared.related region word r opens.0 opens.1 dynamic entry

    abbrev shared_without : (choice : services.Choice) → plain_step.IsServed c.store (CloseDynamic word) choice → SharedAt source pages calls k e (closed w region r) (served_to choice c 0 (CloseDynamic word))
    shared_without choice served = record {
      tables = shared.tables;
      same_output = shared.same_output;
      same_input = shared.same_input;
      same_pages = shared.same_pages;
      related = closed-dynamic shared.related region word r choice opens.0 opens.1 dynamic entry served.allowed;
      globals = shared.globals;
      variables = shared.variables;
      few_pages = within_pages;
      fits = shared.fits;
      counters = shared.counters;
    }
      where
        within_pages : demand (services.served c.store (CloseDynamic word) choice) ≤ pages
        within_pages = omega (arith, (served-sound c.store (CloseDynamic word) choice shared.related.sound free served.allowed).demand, shared.same_pages)

  pub closes_by_key : (kind : Kind) (v : Value) (o : Operand) (k : List Entry) (e : Environment) (w : World) (c : Configuration)
      → IsWell (step source (Running (Given (record { kind = kind; value = v })) (Needs CloseByKey ∷ k) e w)) → (shared : SharedAt source pages calls k e w c) → DataIn source shared.tables c.active.slots k e w c
      → IsIn shared.tables (record { kind = kind; value = v }) c.active.slots o → ValueStack source c.active.function e.locals kind o c.active.next c.frames (Needs CloseByKey ∷ k)
      → IsMatched source pages calls (Running (Given (record { kind = kind; value = v })) (Needs CloseByKey ∷ k) e w) (plain.Running c)
  closes_by_key kind (Key region) o k e w c well shared facts is (d, q, ask, end, lands) =
      let word = operand_word c.active.slots o in
      let entry = key_word shared.tables kind region c.active.slots o is in
      let opened = is_opened region k e w well in
      let next = closed w region opened.at in
      by_asking source pages calls (Given (record { kind = kind; value = Key region })) (Needs CloseByKey ∷ k) e w c (Running Proceeding k e next) (requests.CloseDynamic o) opened.gives shared ask
      (free k e w c shared region word opened.at opened.found opened.dynamic entry)
      (λ choice served.
      let later = shared_without k e w c shared region word opened.at opened.found opened.dynamic entry choice served in
      let after = served_to choice c 0 (CloseDynamic word) in (
        (later, proceeds source pages calls shared.tables d k e next after facts (subst (λ p. LandsStack source c.active.function e.locals kinds.Int d p c.frames k) (sym end) lands)),
        shared_within source pages calls k e next after later,
      ))
  closes_by_key kind v o k e w c well shared facts is stack = absurd (well refl)
