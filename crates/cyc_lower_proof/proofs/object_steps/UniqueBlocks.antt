-- This file proves the steps that free objects: freeing null does nothing; freeing any other pointer frees the block of a live object.
use Rattle.std.proofs.Common.{◌≡◌, ◌≢◌, ℕ, ◌+◌, Bool, true, false, List, [], ◌∷◌, length, set, Option, None, Some, slice_get, refl, sym, ap, subst, ◌∙◌, arith, length-set}
use Rattle.std.specs.Prelude.{◌==◌, if◌then◌else◌}
use Rattle.std.proofs.lemmas.Bool.{eqb-true, false_from_ne_true}
use Rattle.cyc_words.proofs.Items.{slice_get-set_other}
use Rattle.cyc_types.specs.declared.typed.Kind.{Kind}
use Rattle.cyc_types.specs.declared.typed.Kind.TheVariants as kinds
use Rattle.cyc_types.specs.TypedTrees.{Program}
use Rattle.cyc_store.specs.Services as services
use Rattle.cyc_store.specs.Services.{Free, refusal, served}
use Rattle.cyc_plain.specs.declared.instruction.Operand.{Operand}
use Rattle.cyc_plain.specs.declared.instruction.Operand.TheVariants as operands
use Rattle.cyc_plain.specs.declared.instruction.Instruction.{Instruction}
use Rattle.cyc_plain.specs.declared.instruction.Instruction.TheVariants as instructions
use Rattle.cyc_plain.specs.declared.instruction.Request.{Request}
use Rattle.cyc_plain.specs.declared.instruction.Request.TheVariants as requests
use Rattle.cyc_plain.specs.inside.State as plain
use Rattle.cyc_plain.specs.inside.State.{Words, Configuration}
use Rattle.cyc_plain.specs.inside.Step.{Choice, at, operand_word, served_to, performed}
use Rattle.cyc_plain.specs.inside.Step as plain_step
use Rattle.cyc_plain.specs.inside.Requests as plain_requests
use Rattle.cyc_plain.specs.inside.Straight.{At}
use Rattle.cyc_plain.proofs.Uniform.{uniform_serves as step_serves}
use Rattle.cyc_meaning.specs.Values.{Value, Int, Null, Thin, Fat, Handle, Key, Operand as Kinded}
use Rattle.cyc_meaning.specs.Objects.{freed}
use Rattle.cyc_meaning.specs.Regions.{frees_in_region, frees_owned, frees_object}
use Rattle.cyc_meaning.specs.State.{Region, Owner, InRegion, Unique, Object, World, Access, Found, Closed, Missing, region_at, Environment, FreeObject, Entry, Needs, Focus, Given, Proceeding, State, Running}
use Rattle.cyc_meaning.specs.Step.{wrong, step}
use Rattle.cyc_memory_relation.specs.inside.Tables.{Placed, Tables}
use Rattle.cyc_memory_relation.specs.inside.Words.{before, IsPartOf, Is}
use Rattle.cyc_memory_relation.proofs.Places.{before-first}
use Rattle.cyc_memory_relation.proofs.Pointers.{not-null, part-not-null}
use Rattle.cyc_memory_relation.proofs.Services.{refusal-free, freed-unique}
use Rattle.cyc_lower_proof.specs.inside.Lowering.{lower_program}
use Rattle.cyc_lower_proof.proofs.relation.contents.HeldValues.{IsIn, content_of, callers}
use Rattle.cyc_lower_proof.proofs.relation.simulation.Relation.{following_call, following_wrong, ProceedingAt, DataIn, SharedAt, Matches}
use Rattle.cyc_lower_proof.proofs.relation.simulation.Stacks.{in_temporary, in_local, LandsStack, ValueStack, code_of}
use Rattle.cyc_lower_proof.proofs.relation.contents.HandlerData.{calls_counted}
use Rattle.cyc_lower_proof.proofs.relation.contents.Data.{in_words, null_is, points_in}
use Rattle.cyc_lower_proof.proofs.relation.simulation.Accesses.{IsWell, is_fitting}
use Rattle.cyc_lower_proof.proofs.place_steps.CellWrites.{SameVariables, data_beside}
use Rattle.cyc_lower_proof.proofs.relation.simulation.Matched.{IsMatched, by_places, by_one, executes, shared_way, shared_within, place_in, known, apart, Executes}
use Rattle.cyc_lower_proof.specs.inside.Slots.{global_types}
use Rattle.cyc_lower_proof.proofs.relation.places.Known.{row-away}
use Rattle.cyc_memory_relation.specs.inside.Related.{lies_in}
use Rattle.cyc_store.specs.declared.range.TheConstants.{UNIQUE}

-- ---- the freed object

-- A record of the facts about freeing: the word is the address of a live unique object, which the source frees.
pub record IsFreed (t : Tables) (word : ℕ) (s : State) (k : List Entry) (e : Environment) (w : World) : Type 0 where
  pub number : ℕ
  pub object : Object
  pub kinds : List Kind
  pub there : slice_get w.objects number ≡ Some object
  pub owned : object.owner ≡ Unique true
  pub row : slice_get t.rows number ≡ Some (Placed word kinds)
  pub gives : s ≡ Running Proceeding k e (freed w number object)

not_freed_in_region : (a : Access Region) (w : World) → IsWell (frees_in_region a w) → ⊥
not_freed_in_region (Found r) w well = well refl
not_freed_in_region Closed w well = well refl
not_freed_in_region Missing w well = well refl

owner_there : (o : Owner) (number : ℕ) (x : Object) (k : List Entry) (e : Environment) (w : World) → IsWell (frees_owned o number x k e w)
    → (o ≡ Unique true) × (frees_owned o number x k e w ≡ Running Proceeding k e (freed w number x))
owner_there (InRegion region) number x k e w well = absurd (not_freed_in_region (region_at w region) w well)
owner_there (Unique true) number x k e w well = (refl, refl)
owner_there (Unique false) number x k e w well = absurd (well refl)

object_there : (t : Tables) (word : ℕ) (ks : List Kind) (x : Option Object) (number : ℕ) (k : List Entry) (e : Environment) (w : World) → slice_get w.objects number ≡ x
    → slice_get t.rows number ≡ Some (Placed word ks) → IsWell (frees_object x number k e w) → IsFreed t word (frees_object x number k e w) k e w
object_there t word ks None number k e w there row well = absurd (well refl)
object_there t word ks (Some x) number k e w there row well =
    let (owned, gives) = owner_there x.owner number x k e w well in
    record { number = number; object = x; kinds = ks; there = there; owned = owned; row = row; gives = gives }

-- A pointer to a whole object is the address that the object table records for this object.
whole : (word address offset : ℕ) (ks : List Kind) → word ≡ address + before offset ks → (offset == 0) ≡ true → address ≡ word
whole word address offset ks at first =
    let begins : word ≡ address + before 0 ks = at ∙ ap (λ n. address + before n ks) (eqb-true offset 0 first) in
    omega (arith, begins, before-first ks)

freed_at : (t : Tables) (object offset word address : ℕ) (ks : List Kind) (k : List Entry) (e : Environment) (w : World) → slice_get t.rows object ≡ Some (Placed address ks)
    → word ≡ address + before offset ks → IsWell (if offset == 0 then frees_object (slice_get w.objects object) object k e w else wrong w)
    → IsFreed t word (if offset == 0 then frees_object (slice_get w.objects object) object k e w else wrong w) k e w
freed_at t object offset word address ks k e w row at well =
    let frees_it = frees_object (slice_get w.objects object) object k e w in
    let first = is_fitting (offset == 0) frees_it w well in
    let does : (if offset == 0 then frees_it else wrong w) ≡ frees_it = ap (λ (b : Bool). if b then frees_it else wrong w) first in
    subst (λ s. IsFreed t word s k e w) (sym does)
    (object_there t word ks (slice_get w.objects object) object k e w refl (subst (λ a. slice_get t.rows object ≡ Some (Placed a ks)) (whole word address offset ks at first) row) (subst IsWell does well))

part_at : (t : Tables) (kind : Kind) (object start count index : ℕ) (words : Words) (p : ℕ) → Is t kind (Fat object start count index) words p → IsPartOf t object start count (words p)
part_at t kinds.Fat object start count index words p is = is.0
part_at t kind object start count index words p is = absurd is

module _ (source : Program) (pages calls : ℕ) where
  -- ---- freeing the block

  -- A source step is matched by one instruction of the lowered code, followed by a request that the heap store answers.
  by_asking_after : (focus : Focus) (k : List Entry) (e : Environment) (w : World) (c d : Configuration) (next : State) (i : Instruction) (request : Request)
      → step source (Running focus k e w) ≡ next → SharedAt source pages calls k e w c → SharedAt source pages calls k e w d
      → At (code_of source c.active.function) c.active.next i → ((choice : Choice) → performed (lower_program source) choice c i ≡ plain.Running d)
      → At (code_of source d.active.function) d.active.next (instructions.Ask request) → c.active.next ≢ d.active.next
      → refusal d.store (plain_step.call_in d.active.slots request) ≡ None
      → ((choice : services.Choice) → plain_step.IsServed d.store (plain_step.call_in d.active.slots request) choice
      → Matches source pages calls next (plain.Running (served_to choice d (plain_requests.destination_of request) (plain_step.call_in d.active.slots request)))
      × (plain_step.is_within pages calls (plain.Running (served_to choice d (plain_requests.destination_of request) (plain_step.call_in d.active.slots request))) ≡ true))
      → IsMatched source pages calls (Running focus k e w) (plain.Running c)
  by_asking_after focus k e w c d next i request does shared shared_d here first there other free goes =
      by_places source pages calls (Running focus k e w) next (place_in source pages calls c) (place_in source pages calls d ∷ []) (plain.Running c) does
      ((apart source pages calls c d other, tt), (tt, tt)) (known source pages calls c i here, (known source pages calls d (instructions.Ask request) there, tt))
      (executes source pages calls (Running focus k e w) next c i (place_in source pages calls d ∷ []) here
      (λ choice. ap (plain_step.is_within pages calls) (first choice) ∙ shared_within source pages calls k e w d shared_d) (shared_way source pages calls focus k e w c shared)
      (λ choice. subst (Executes source pages calls (Running focus k e w) next (place_in source pages calls d ∷ [])) (sym (first choice)) (
        refl,
        shared_way source pages calls focus k e w d shared_d,
        λ u stepped.
            let (chosen, served, is) = step_serves (lower_program source) pages calls d request u there stepped free (λ chosen served. (goes chosen served).1) in
            subst (Executes source pages calls (Running focus k e w) next []) (sym is) (goes chosen served).0,
      )))

  -- Execution continues after a source step that yields no value.
  pub proceeds : (t : Tables) (d : ℕ) (k : List Entry) (e : Environment) (w : World) (c : Configuration) → DataIn source t c.active.slots k e w c
      → LandsStack source c.active.function e.locals kinds.Int d c.active.next c.frames k → ProceedingAt source t k e w c
  proceeds t d k e w c facts (in_temporary least stack) = following_call kinds.Int (operands.Slot d) facts stack
  proceeds t d k e w c facts (in_local below stack) = following_wrong kinds.Int d (calls_counted source c.active.function c.active.slots c.active.handlers c.frames k facts.1) stack

  module _ (k : List Entry) (e : Environment) (w : World) (c : Configuration) (shared : SharedAt source pages calls k e w c) (facts : DataIn source shared.tables c.active.slots k e w c)
      (number word : ℕ) (x : Object) (ks : List Kind) (there : slice_get w.objects number ≡ Some x) (owned : x.owner ≡ Unique true) (row : slice_get shared.tables.rows number ≡ Some (Placed word ks))
      (choice : services.Choice) (served_it : plain_step.IsServed c.store (Free word) choice) where
    abbrev gone : Object
    gone = record x { owner = Unique false }

    abbrev after : Configuration
    after = served_to choice c 0 (Free word)

    abbrev pub shared_freed : SharedAt source pages calls k e (freed w number x) after
    shared_freed = record {
      tables = shared.tables;
      same_output = shared.same_output;
      same_input = shared.same_input;
      same_pages = shared.same_pages;
      related = freed-unique shared.related number word x ks there owned row choice served_it.allowed;
      globals = shared.globals;
      variables = shared.variables;
      few_pages = shared.few_pages;
      fits = shared.fits;
      counters = shared.counters;
    }

    pub data_freed : DataIn source shared.tables c.active.slots k e (freed w number x) after
    data_freed =
        let many : length (set w.objects number gone) ≡ length w.objects = length-set w.objects number gone in
        (data_beside shared.tables source c.active.function c.active.base w.objects (set w.objects number gone) e.locals (callers k) c.active.slots c.globals c.frames (omega (arith, many)) beside facts.0, facts.1)
      where
        beside : SameVariables shared.tables (global_types source.globals) w.objects (set w.objects number gone)
        beside o variable =
            ap content_of
            (slice_get-set_other w.objects number o gone
            (λ same. row-away shared.related (global_types source.globals) o UNIQUE x variable (record { at = ap (slice_get w.objects) same ∙ there; lies = ap (lies_in shared.tables.handles w.regions) owned })))

  -- The step that frees a live object.
  frees_object_at : (v : Kinded) (o : Operand) (k : List Entry) (e : Environment) (w : World) (c : Configuration) → (shared : SharedAt source pages calls k e w c) → DataIn source shared.tables c.active.slots k e w c
      → IsFreed shared.tables (operand_word c.active.slots o) (step source (Running (Given v) (Needs FreeObject ∷ k) e w)) k e w → operand_word c.active.slots o ≢ 0
      → ValueStack source c.active.function e.locals v.kind o c.active.next c.frames (Needs FreeObject ∷ k) → IsMatched source pages calls (Running (Given v) (Needs FreeObject ∷ k) e w) (plain.Running c)
  frees_object_at v o k e w c shared facts gives some (d, q, (jump, ask, end), lands) =
      let word = operand_word c.active.slots o in
      let following = at c (c.active.next + 1) in
      let other : (word == 0) ≡ false = false_from_ne_true (word == 0) (λ is. some (eqb-true word 0 is)) in
      by_asking_after (Given v) (Needs FreeObject ∷ k) e w c following (Running Proceeding k e (freed w gives.number gives.object)) _ (requests.Free o) gives.gives shared shared
      jump (λ choice. ap (λ b. plain_step.branches c b q) other) ask (λ same. omega (arith, same))
      (refusal-free shared.related gives.number word gives.object gives.kinds gives.there gives.owned gives.row)
      (λ choice served_it.
      let made = shared_freed k e w following shared facts gives.number word gives.object gives.kinds gives.there gives.owned gives.row choice served_it in
      let after = served_to choice following 0 (Free word) in (
        (
          made,
          proceeds shared.tables d k e (freed w gives.number gives.object) after
              (data_freed k e w following shared facts gives.number word gives.object gives.kinds gives.there gives.owned gives.row choice served_it)
              (subst (λ p. LandsStack source c.active.function e.locals kinds.Int d p c.frames k) (sym end) lands),
        ),
        shared_within source pages calls k e (freed w gives.number gives.object) after made,
      ))

  -- ---- a value is freed

  pub frees_value : (kind : Kind) (v : Value) (o : Operand) (k : List Entry) (e : Environment) (w : World) (c : Configuration)
      → IsWell (step source (Running (Given (record { kind = kind; value = v })) (Needs FreeObject ∷ k) e w)) → (shared : SharedAt source pages calls k e w c) → DataIn source shared.tables c.active.slots k e w c
      → IsIn shared.tables (record { kind = kind; value = v }) c.active.slots o → ValueStack source c.active.function e.locals kind o c.active.next c.frames (Needs FreeObject ∷ k)
      → IsMatched source pages calls (Running (Given (record { kind = kind; value = v })) (Needs FreeObject ∷ k) e w) (plain.Running c)
  frees_value kind Null o k e w c well shared facts is (d, q, (jump, ask, end), lands) =
      let null = null_is shared.tables kind c.active.slots o is in
      by_one source pages calls refl shared jump
      (λ choice. subst (λ (b : Bool). Matches source pages calls (Running Proceeding k e w) (plain_step.branches c b q)) (sym (ap (λ n. n == 0) null))
      (shared, proceeds shared.tables d k e w (at c q) facts lands))
  frees_value kind (Thin object offset) o k e w c well shared facts is stack =
      let points = points_in shared.tables kind object offset c.active.slots o is in
      frees_object_at (record { kind = kind; value = Thin object offset }) o k e w c shared facts
      (freed_at shared.tables object offset (operand_word c.active.slots o) points.address points.kinds k e w points.row points.at well) (not-null points) stack
  frees_value kind (Fat object start count index) o k e w c well shared facts is stack =
      let (words, p, equal, is_it) = in_words shared.tables (record { kind = kind; value = Fat object start count index }) c.active.slots o is in
      let part = subst (IsPartOf shared.tables object start count) equal (part_at shared.tables kind object start count index words p is_it) in
      frees_object_at (record { kind = kind; value = Fat object start count index }) o k e w c shared facts
      (freed_at shared.tables object start (operand_word c.active.slots o) part.address part.kinds k e w part.row part.at well) (part-not-null part) stack
  frees_value kind (Int a) o k e w c well shared facts is stack = absurd (well refl)
  frees_value kind (Handle region) o k e w c well shared facts is stack = absurd (well refl)
  frees_value kind (Key region) o k e w c well shared facts is stack = absurd (well refl)
