-- This file proves the steps that allocate objects: a block is allocated, and then each cell is written.
use Rattle.std.proofs.Common.{◌≡◌, ℕ, suc, ◌+◌, ◌*◌, ◌≤◌, ◌<◌, Bool, true, false, List, [], ◌∷◌, ◌++◌, length, reverse, None, Some, slice_get, refl, sym, ap, subst, ◌∙◌, inl, inr, arith, length-append, append_assoc, append-nil}
use Rattle.std.proofs.lemmas.List.{reverse-append}
use Rattle.std.specs.Prelude.{◌==◌, nat_lt, if◌then◌else◌}
use Rattle.std.proofs.lemmas.Bool.{le-leb, and_from, cases_Bool, eqb-true}
use Rattle.std.proofs.Math.Nat.{le-max_left}
use Rattle.cyc_words.specs.Word.{add_of}
use Rattle.cyc_words.proofs.Numbers.{max_one_within, nat_le-beyond}
use Rattle.cyc_types.specs.declared.typed.Kind.{Kind}
use Rattle.cyc_types.specs.declared.typed.Kind.TheVariants as kinds
use Rattle.cyc_types.specs.TypedTrees.{Arguments, NoArguments, MoreArguments, Convert, Program}
use Rattle.cyc_store.specs.State.{StoreState, demand}
use Rattle.cyc_store.specs.State as store_state
use Rattle.cyc_store.specs.Services as services
use Rattle.cyc_store.specs.Services.{Allocate, IsAllowed, served, refusal, full_at, is_size}
use Rattle.cyc_store.specs.declared.range.TheConstants.{UNIQUE, MOST_BLOCK_WORDS}
use Rattle.cyc_store.proofs.ServiceLemmas.{served-sound}
use Rattle.cyc_plain.specs.declared.instruction.Operand.{Operand}
use Rattle.cyc_plain.specs.declared.instruction.Operand.TheVariants as operands
use Rattle.cyc_plain.specs.declared.instruction.Instruction.TheVariants as instructions
use Rattle.cyc_plain.specs.declared.instruction.Request.TheVariants as requests
use Rattle.cyc_plain.specs.inside.State as plain
use Rattle.cyc_plain.specs.inside.State.{Words, Configuration}
use Rattle.cyc_plain.specs.inside.Step.{Choice, operand_word, served_to}
use Rattle.cyc_plain.specs.inside.Step as plain_step
use Rattle.cyc_plain.specs.inside.Straight.{At}
use Rattle.cyc_plain.proofs.SlotLaws.{put-same, put-other}
use Rattle.cyc_meaning.specs.Values.{Thin, Operand as Kinded, Cell, kinds_of, is_kind, words_of_kind, bytes_of_kind, begins, following, words_for, block_size}
use Rattle.cyc_meaning.specs.Allocation.{writes_from, blanks_of, filled, makes_of}
use Rattle.cyc_meaning.specs.Objects.{made_in, made_unique, created, created_in}
use Rattle.cyc_meaning.specs.inside.Effects.{pages_of}
use Rattle.cyc_meaning.specs.State.{Region, Owner, InRegion, Unique, World, Access, Found, Closed, Missing, region_at, cell_at, written, Environment, MakePlain, MakeFields, ConvertTo, Write, Entry, Needs, Focus, Evaluating, Given, Writing, Running}
use Rattle.cyc_meaning.specs.Step.{wrong, stored, target_by, step}
use Rattle.cyc_memory_relation.specs.inside.Tables.{Placed, Tables, with_row, Grows}
use Rattle.cyc_memory_relation.specs.inside.Words.{bytes_of_kinds, before, Points, Is, AreBlank}
use Rattle.cyc_memory_relation.specs.inside.Related as objects
use Rattle.cyc_memory_relation.proofs.Places.{before-all, before-first, before-inside, before-joined, bytes-joined}
use Rattle.cyc_memory_relation.proofs.Values.{Grows-row}
use Rattle.cyc_memory_relation.proofs.Making.{open-home, allocated, allocated-unique, refusal-allocate, refusal-unique, operands-blank, row-made, placed-range, room-fits}
use Rattle.cyc_lower_proof.proofs.slots.Widths.{kind_positive, wide_kind, Outside}
use Rattle.cyc_lower_proof.proofs.relation.code.Stands.{StoresAt, CellsAt, ObjectAt}
use Rattle.cyc_lower_proof.proofs.relation.contents.HeldValues.{IsWord, IsIn, IsObject, words_held, Holds, HoldsFrom, held, callers, homes, IsHandleOf, HasHandle, contents}
use Rattle.cyc_lower_proof.proofs.relation.simulation.Relation.{DataIn, SharedAt, Matches}
use Rattle.cyc_lower_proof.proofs.relation.simulation.Stacks.{types_on, LandsMade, ValueStack, code_of, bounds_at, top, floor, base_of}
use Rattle.cyc_lower_proof.proofs.relation.simulation.Shared.{silent}
use Rattle.cyc_lower_proof.proofs.object_steps.Handles.{has_handle}
use Rattle.cyc_lower_proof.proofs.relation.contents.Data.{Is-same, height-least, one_word, Holds-same, Holds-rest, in_order, contents_made, Holds-above}
use Rattle.cyc_lower_proof.proofs.relation.contents.HandlerData.{data_written, floor-least}
use Rattle.cyc_lower_proof.proofs.relation.contents.GrowingData.{Holds-grows, HoldsFrom-grows, data_grows, variables_grow}
use Rattle.cyc_lower_proof.proofs.relation.simulation.Accesses.{IsWell, is_fitting}
use Rattle.cyc_lower_proof.proofs.relation.simulation.Paths.{by_path}
use Rattle.cyc_lower_proof.proofs.object_steps.Asking.{by_asking, by_full}
use Rattle.cyc_lower_proof.proofs.place_steps.WideCells.{store_links, store_path, store_last, shared_stored, data_stored, stored as stored_there, above_stored, frames_stored}
use Rattle.cyc_lower_proof.proofs.place_steps.CellWrites.{SameVariables, data_beside, cell_is_there, saves_there, shared_saved, data_saved, with_word, above_there, frames_there}
use Rattle.cyc_lower_proof.proofs.relation.simulation.Matched.{IsMatched, below, silently, by_one, shared_within}
use Rattle.cyc_lower_proof.proofs.value_steps.Landings.{IsStep, made_moved, brings}
use Rattle.cyc_lower_proof.proofs.relation.places.Known.{row-made_there}
use Rattle.cyc_lower_proof.proofs.relation.places.Leads.{AreNamed}
use Rattle.cyc_lower_proof.proofs.relation.code.Moving.{made_moves}
use Rattle.cyc_lower_proof.specs.inside.Slots.{global_types}
use Rattle.cyc_lower_proof.specs.inside.ValueCode.{kinds_passed}
use Rattle.cyc_lower_proof.specs.inside.ObjectCode.{slots_of_kinds}
use Rattle.cyc_lower_proof.proofs.place_steps.PlaceWords.{add_is}
use Rattle.cyc_lower_proof.proofs.slots.CellBytes.{bytes_within}
use Rattle.cyc_lower_proof.proofs.place_steps.KindWords.{saved_at, saves_by}
use Rattle.cyc_lower_proof.specs.inside.Lowering.{lower_program}

-- ---- words and cells of values

words_many : (vs : List Kinded) → length vs ≤ words_held vs
words_many [] = omega arith
words_many (v ∷ vs) = omega (arith, words_many vs, kind_positive v.kind)

-- The element of a list of representation kinds (int, char, pointer, ..) that comes after the first n elements, which are the list `done`.
there_is : (done rest : List Kind) (kind : Kind) → slice_get (done ++ kind ∷ rest) (length done) ≡ Some kind
there_is [] rest kind = refl
there_is (a ∷ done) rest kind = there_is done rest kind

-- A list of values takes as many slots as the list of their representation kinds (int, char, pointer, ..) says.
slots_held : (vs : List Kinded) → slots_of_kinds (kinds_of (blanks_of vs)) ≡ words_held vs
slots_held [] = refl
slots_held (v ∷ vs) = omega (arith, slots_held vs)

some_held : (vs : List Kinded) → 0 < length (kinds_of (blanks_of vs)) → 1 ≤ words_held vs
some_held [] some = absurd (omega (arith, some))
some_held (v ∷ vs) some = omega (arith, kind_positive v.kind)

kinds-append : (us vs : List Kinded) → kinds_of (blanks_of (us ++ vs)) ≡ kinds_of (blanks_of us) ++ kinds_of (blanks_of vs)
kinds-append [] vs = refl
kinds-append (u ∷ us) vs = ap (λ (ks : List Kind). u.kind ∷ ks) (kinds-append us vs)

-- If a list has the last value first, then the reversed list has the representation kinds (int, char, pointer, ..) of the values in order,
-- from the first value to the last.
kinds_reversed : (v : Kinded) (vs : List Kinded) (ks : List Kind) → kinds_of (blanks_of (reverse (v ∷ vs))) ++ ks ≡ kinds_of (blanks_of (reverse vs)) ++ v.kind ∷ ks
kinds_reversed v vs ks =
    ap (λ (us : List Kinded). kinds_of (blanks_of us) ++ ks) (reverse-append (v ∷ []) vs)
    ∙ ap (λ (ls : List Kind). ls ++ ks) (kinds-append (reverse vs) (v ∷ []))
    ∙ append_assoc (kinds_of (blanks_of (reverse vs))) (v.kind ∷ []) ks

HoldsFrom-same : (t : Tables) (slots other : Words) (first : ℕ) (vs : List Kinded) → ((n : ℕ) → n < first + words_held vs → other n ≡ slots n) → HoldsFrom t slots first vs → HoldsFrom t other first vs
HoldsFrom-same t slots other first [] same holds = tt
HoldsFrom-same t slots other first (v ∷ vs) same (is, holds) = (
  Is-same t v.kind v.value slots other first first (λ i short. same (first + i) (omega (arith, short))) is,
  HoldsFrom-same t slots other (first + words_of_kind v.kind) vs (λ n short. same n (omega (arith, short))) holds,
)

HoldsFrom-later : (t : Tables) (slots other : Words) (first : ℕ) (vs : List Kinded) → ((n : ℕ) → first ≤ n → other n ≡ slots n) → HoldsFrom t slots first vs → HoldsFrom t other first vs
HoldsFrom-later t slots other first [] same holds = tt
HoldsFrom-later t slots other first (v ∷ vs) same (is, holds) = (
  Is-same t v.kind v.value slots other first first (λ i short. same (first + i) (omega arith)) is,
  HoldsFrom-later t slots other (first + words_of_kind v.kind) vs (λ n from. same n (omega (arith, from))) holds,
)

block_size_fits : (vs : List Kinded) → words_held vs ≤ MOST_BLOCK_WORDS → block_size (blanks_of vs) ≤ MOST_BLOCK_WORDS
block_size_fits vs few =
    let ks : List Kind = kinds_of (blanks_of vs) in
    let enough : bytes_of_kinds ks ≤ 4 * (0 + slots_of_kinds ks) = bytes_within ks 0 0 (omega arith) in
    max_one_within (words_for (bytes_of_kinds ks)) MOST_BLOCK_WORDS (omega arith) (omega (arith, enough, slots_held vs, few))

-- ---- allocation for an owner

-- A new object with these cells is allocated for an owner (a region, or the unique pointer to the object), and the allocation
-- yields the heap state `new`. The heap store is out of pages exactly if the source run is, and the heap store after the allocation
-- is related to `new`.
pub record Makes (t : Tables) (w : World) (s : StoreState) (owner : Owner) (handle : ℕ) (cells : List Cell) (new : World) : Type 0 where
  pub creates : created w owner cells ≡ Found new
  pub joined : new.objects ≡ w.objects ++ record { owner = owner; cells = cells } ∷ []
  pub output : new.output ≡ w.output
  pub input : new.input ≡ w.input
  pub pages : (choice : services.Choice) → (served s (Allocate handle (block_size cells)) choice).pages ≡ s.pages
  pub refuses : refusal s (Allocate handle (block_size cells)) ≡ full_at (nat_lt s.pages (pages_of new))
  pub related : (choice : services.Choice) → refusal s (Allocate handle (block_size cells)) ≡ None → IsAllowed s (Allocate handle (block_size cells)) choice
      → objects.Related (with_row t (Placed choice.address (kinds_of cells))) (silent new) (served s (Allocate handle (block_size cells)) choice)

-- An allocation does not change how many pages the heap store has.
asked_pages : (s : StoreState) (handle words : ℕ) (choice : services.Choice) → (served s (Allocate handle words) choice).pages ≡ s.pages
asked_pages s handle words choice = by (handle == UNIQUE)
  where
    by : (unique : Bool) → (if unique then store_state.made_unique s (services.block_of handle words choice) else store_state.made_in s handle (services.block_of handle words choice)).pages ≡ s.pages
    by true = refl
    by false = refl

-- If an object is allocated in a region, then this region is open.
region_there : (a : Access Region) (region : ℕ) (cells : List Cell) (w new : World) → created_in w region a cells ≡ Found new → (r : Region) × (a ≡ Found r)
region_there (Found r) region cells w new found = (r, refl)
region_there Closed region cells w new found = absurd (let f : created_in w region Closed cells ≡ Found new = found in cc)
region_there Missing region cells w new found = absurd (let f : created_in w region Missing cells ≡ Found new = found in cc)

cells_sized : (cells : List Cell) → block_size cells ≤ MOST_BLOCK_WORDS → is_size (block_size cells) ≡ true
cells_sized cells few = and_from _ _ (le-leb 1 (block_size cells) (le-max_left 1 (words_for (bytes_of_kinds (kinds_of cells))))) (le-leb (block_size cells) MOST_BLOCK_WORDS few)

module _ {t : Tables} {w : World} {s : StoreState} (related : objects.Related t (silent w) s) (cells : List Cell) (blank : AreBlank cells) (few : block_size cells ≤ MOST_BLOCK_WORDS) where
  -- The allocation of an object in an open region.
  made_there : (region handle : ℕ) (r : Region) → region_at w region ≡ Found r → slice_get t.handles region ≡ Some (Some handle) → Makes t w s (InRegion region) handle cells (made_in w region r cells)
  made_there region handle r found entry =
      let (there, kept) = open-home related region handle r found entry in record {
        creates = ap (λ a. created_in w region a cells) found;
        joined = refl;
        output = refl;
        input = refl;
        pages = λ choice. asked_pages s handle (block_size cells) choice;
        refuses = refusal-allocate related region handle r cells there kept entry (cells_sized cells few);
        related = λ choice free allowed. allocated related region handle r cells there kept entry choice blank free allowed;
      }

  -- The allocation of an object with a unique pointer.
  made_alone : Makes t w s (Unique true) UNIQUE cells (made_unique w cells)
  made_alone = record {
    creates = refl;
    joined = refl;
    output = refl;
    input = refl;
    pages = λ choice. refl;
    refuses = refusal-unique related cells (cells_sized cells few);
    related = λ choice free allowed. allocated-unique related cells choice blank (omega (arith, few)) free allowed;
  }

  pub made_for : (owner : Owner) (handle : ℕ) (made : World) → HasHandle t owner handle → created w owner cells ≡ Found made → (new : World) × Makes t w s owner handle cells new
  made_for (InRegion region) handle made entry creates =
      let (r, found) = region_there (region_at w region) region cells w made creates in
      (made_in w region r cells, made_there region handle r found entry)
  made_for (Unique true) handle made handle_is creates = (made_unique w cells, subst (λ h. Makes t w s (Unique true) h cells (made_unique w cells)) (sym handle_is) made_alone)
  made_for (Unique false) handle made owned creates = absurd owned

-- If the step that allocates an object is no fault, then the allocation for the object's owner (a region or a unique
-- pointer) yields a new heap state.
object_made : (a : Access World) (object : ℕ) (vs : List Kinded) (k : List Entry) (e : Environment) (w : World) → IsWell (filled a object vs k e w) → (made : World) × (a ≡ Found made)
object_made (Found made) object vs k e w well = (made, refl)
object_made Closed object vs k e w well = absurd (well refl)
object_made Missing object vs k e w well = absurd (well refl)

module _ (source : Program) (pages calls : ℕ) where
  -- ---- allocating an object

  module _ (k : List Entry) (e : Environment) (w : World) (c : Configuration) (shared : SharedAt source pages calls k e w c) (facts : DataIn source shared.tables c.active.slots k e w c)
      (holds : Holds shared.tables c.active.slots (floor source c.active.function k) (held k)) (vs : List Kinded) (owner : Owner) (handle : ℕ) (new : World) (makes : Makes shared.tables w c.store owner handle (blanks_of vs) new)
      (some : 1 ≤ words_held vs) (few : words_held vs ≤ MOST_BLOCK_WORDS) (choice : services.Choice)
      (free : refusal c.store (Allocate handle (block_size (blanks_of vs))) ≡ None)
      (served : plain_step.IsServed c.store (Allocate handle (block_size (blanks_of vs))) choice) where
    abbrev cells : List Cell
    cells = blanks_of vs

    abbrev t : ℕ
    t = top source c.active.function k

    abbrev grown : Tables
    grown = with_row shared.tables (Placed choice.address (kinds_of cells))

    abbrev after : Configuration
    after = served_to choice c (t + words_held vs) (Allocate handle (block_size cells))

    grows : Grows shared.tables grown
    grows = Grows-row shared.tables (Placed choice.address (kinds_of cells))

    related_made : objects.Related grown (silent new) after.store
    related_made = makes.related choice free served.allowed

    abbrev shared_made : SharedAt source pages calls k e new after
    shared_made = record {
      tables = grown;
      same_output = shared.same_output ∙ sym makes.output;
      same_input = shared.same_input ∙ sym makes.input;
      same_pages = makes.pages choice ∙ shared.same_pages;
      related = related_made;
      globals = shared.globals;
      variables = variables_grow shared.tables grown grows (e.home ∷ homes k) shared.variables;
      few_pages = within_pages;
      fits = shared.fits;
      counters = shared.counters;
    }
      where
        within_pages : demand after.store ≤ pages
        within_pages = omega (arith, (served-sound c.store (Allocate handle (block_size cells)) choice shared.related.sound free served.allowed).demand, makes.pages choice, shared.same_pages)

    -- An allocation changes only the slot after the slots of the object's values; that slot receives the address of the object.
    same_slots : (m : ℕ) → Outside (t + words_held vs) 1 m → after.active.slots m ≡ c.active.slots m
    same_slots m (inl short) = put-other c.active.slots (t + words_held vs) m choice.address (λ same. omega (arith, same, short))
    same_slots m (inr long) = put-other c.active.slots (t + words_held vs) m choice.address (λ same. omega (arith, same, long))

    data_made : DataIn source grown after.active.slots k e new after
    data_made =
        let g = c.active.function in
        let many : length new.objects ≡ length w.objects + 1 = ap length makes.joined ∙ length-append w.objects (record { owner = owner; cells = cells } ∷ []) in
        data_written source grown g c.active.base new.objects e.locals k c.active.slots after.active.slots c.active.handlers c.globals c.frames (t + words_held vs) 1 (omega (arith, height-least (floor source g k) (held k))) same_slots (
          data_grows shared.tables grown grows source g c.active.base new.objects e.locals (callers k) c.active.slots c.globals c.frames
              (data_beside shared.tables source g c.active.base w.objects new.objects e.locals (callers k) c.active.slots c.globals c.frames (omega (arith, many)) beside facts.0),
          facts.1,
        )
      where
        beside : SameVariables shared.tables (global_types source.globals) w.objects new.objects
        beside o row = ap (λ l. contents l o) makes.joined ∙ contents_made w.objects (record { owner = owner; cells = cells }) o (row-made_there shared.related (global_types source.globals) o row)

    holds_made : Holds grown after.active.slots (floor source c.active.function k) (held k)
    holds_made =
        Holds-same grown c.active.slots after.active.slots (floor source c.active.function k) (held k) (λ n short. same_slots n (inl (omega (arith, short))))
        (Holds-grows shared.tables grown grows c.active.slots (floor source c.active.function k) (held k) holds)

    values_made : HoldsFrom shared.tables c.active.slots t vs → HoldsFrom grown after.active.slots t vs
    values_made values =
        HoldsFrom-same grown c.active.slots after.active.slots t vs (λ n short. same_slots n (inl (omega (arith, short))))
        (HoldsFrom-grows shared.tables grown grows c.active.slots t vs values)

    object_there : IsObject grown (length w.objects) (after.active.slots (t + words_held vs)) (kinds_of cells)
    object_there =
        subst (λ a. IsObject grown (length w.objects) a (kinds_of cells)) (sym (put-same c.active.slots (t + words_held vs) choice.address))
        (record {
          row = row-made shared.related (Placed choice.address (kinds_of cells));
          range = placed-range c.store.pages (services.block_of handle (block_size cells) choice) (kinds_of cells) served.allowed.may.0 shared.related.few (room-fits handle cells (omega (arith, block_size_fits vs few)));
          some = some_cells vs some;
        })
      where
        some_cells : (us : List Kinded) → 1 ≤ words_held us → 0 < length (kinds_of (blanks_of us))
        some_cells [] none = absurd (omega (arith, none))
        some_cells (u ∷ us) one = omega arith

  -- The step that allocates an object for values in slots.
  pub made_object : (owner : Owner) (handle : Operand) (focus : Focus) (k₀ k : List Entry) (e : Environment) (w : World) (c : Configuration) (vs : List Kinded) (d q : ℕ)
      → IsHandleOf owner handle (top source c.active.function k) k → step source (Running focus k₀ e w) ≡ makes_of owner vs k e w
      → IsWell (makes_of owner vs k e w) → SharedAt source pages calls k₀ e w c → (shared : SharedAt source pages calls k e w c) → DataIn source shared.tables c.active.slots k e w c
      → Holds shared.tables c.active.slots (floor source c.active.function k) (held k) → HoldsFrom shared.tables c.active.slots (top source c.active.function k) vs
      → ObjectAt (code_of source c.active.function) (bounds_at source c.active.function) (types_on source c.active.function k) handle (kinds_of (blanks_of vs)) (top source c.active.function k) d c.active.next q
      → LandsMade source c.active.function e.locals kinds.NonNull d q c.frames k → IsMatched source pages calls (Running focus k₀ e w) (plain.Running c)
  made_object owner handle focus k₀ k e w c vs d q owned does well shared₀ shared facts holds values (m, some_cells, few_slots, ask, stores_at, move_at, end) lands =
      let g = c.active.function in
      let t = top source g k in
      let held_is = slots_held vs in
      let some = some_held vs some_cells in
      let few : words_held vs ≤ MOST_BLOCK_WORDS = omega (arith, few_slots, held_is) in
      let stores = subst (λ n. CellsAt (code_of source g) (bounds_at source g) (types_on source g k) (kinds_of (blanks_of vs)) (t + n) 0 t (c.active.next + 1) m) held_is stores_at in
      let move = subst (λ n. At (code_of source g) m (instructions.Move d (operands.Slot (t + n)))) held_is move_at in
      let word = operand_word c.active.slots handle in
      let has = has_handle shared.tables c.active.slots (floor source c.active.function k) owner handle k shared.related.heap owned holds in
      let cells = blanks_of vs in
      let (made, creates) = object_made (created w owner cells) (length w.objects) vs k e w well in
      let (new, makes) = made_for shared.related cells (operands-blank vs) (block_size_fits vs few) owner word made has creates in
      let pointer : Kinded = record { kind = kinds.NonNull; value = Thin (length w.objects) 0 } in
      let next = Running (Writing (writes_from (length w.objects) 0 vs) (Some pointer)) k e new in
      let is_next : step source (Running focus k₀ e w) ≡ next = does ∙ ap (λ a. filled a (length w.objects) vs k e w) makes.creates in
      let request = requests.Allocate (t + words_held vs) handle (operands.Word (block_size cells)) in
      let here : At (code_of source c.active.function) c.active.next (instructions.Ask request)
      = subst (λ n. At (code_of source c.active.function) c.active.next (instructions.Ask (requests.Allocate (t + n) handle (operands.Word (block_size cells))))) held_is ask in
      elim (cases_Bool (nat_lt c.store.pages (pages_of new))) [
        | inl over ↦
            by_full source pages calls focus k₀ e w c next request is_next
            (nat_le-beyond pages (pages_of new) _ (subst (λ p. nat_lt p (pages_of new) ≡ true) shared.same_pages over))
            shared₀ here (makes.refuses ∙ ap full_at over)
        | inr room ↦
            let free = makes.refuses ∙ ap full_at room in
            by_asking source pages calls focus k₀ e w c next request is_next shared₀ here free
            (λ choice served.
            let made = shared_made k e w c shared facts holds vs owner word new makes some few choice free served in (
              (
                made,
                data_made k e w c shared facts holds vs owner word new makes some few choice free served,
                (
                  length w.objects,
                  [],
                  vs,
                  t + words_held vs,
                  t,
                  d,
                  m,
                  q,
                  refl,
                  refl,
                  object_there k e w c shared facts holds vs owner word new makes some few choice free served,
                  words_many vs,
                  omega (arith, height-least (floor source c.active.function k) (held k), floor-least source c.active.function k),
                  omega (arith, height-least (floor source c.active.function k) (held k), floor-least source c.active.function k),
                  values_made k e w c shared facts holds vs owner word new makes some few choice free served values,
                  stores,
                  move,
                  end,
                  holds_made k e w c shared facts holds vs owner word new makes some few choice free served,
                  lands,
                ),
              ),
              shared_within source pages calls k e new (served_to choice c (t + words_held vs) (Allocate word (block_size cells))) made,
            ))
      ]

  -- ---- entries that wait for the values of an object

  -- The step that writes the value of an object with only one cell.
  pub plain_made : (owner : Owner) (kind : Kind) (v : Kinded) (o : Operand) (k : List Entry) (e : Environment) (w : World) (c : Configuration)
      → IsWell (step source (Running (Given v) (Needs (MakePlain owner kind) ∷ k) e w)) → (shared : SharedAt source pages calls k e w c) → DataIn source shared.tables c.active.slots k e w c
      → IsIn shared.tables v c.active.slots o → Holds shared.tables c.active.slots (floor source c.active.function k) (held k)
      → ValueStack source c.active.function e.locals v.kind o c.active.next c.frames (Needs (MakePlain owner kind) ∷ k)
      → IsMatched source pages calls (Running (Given v) (Needs (MakePlain owner kind) ∷ k) e w) (plain.Running c)
  plain_made owner kind v o k e w c well shared facts is holds (handle, d, q, owned, there, object, lands) =
      let g = c.active.function in
      let makes = makes_of owner (v ∷ []) k e w in
      let does : step source (Running (Given v) (Needs (MakePlain owner kind) ∷ k) e w) ≡ makes = ap (λ (b : Bool). if b then makes else wrong w) (is_fitting (is_kind v.kind kind) makes w well) in
      made_object owner handle (Given v) (Needs (MakePlain owner kind) ∷ k) k e w c (v ∷ []) d q owned does (subst IsWell does well) shared shared facts holds
      (subst (IsIn shared.tables v c.active.slots) there is, tt)
      object lands

  -- The next field of a new object is evaluated, or the object is allocated if no field is left.
  pub fields_made : (owner : Owner) (earlier : List Kinded) (cs : Arguments) (v : Kinded) (o : Operand) (k : List Entry) (e : Environment) (w : World) (c : Configuration)
      → IsWell (step source (Running (Given v) (Needs (MakeFields owner earlier cs) ∷ k) e w)) → (shared : SharedAt source pages calls k e w c) → DataIn source shared.tables c.active.slots k e w c
      → IsIn shared.tables v c.active.slots o → Holds shared.tables c.active.slots (floor source c.active.function k) (earlier ++ held k)
      → ValueStack source c.active.function e.locals v.kind o c.active.next c.frames (Needs (MakeFields owner earlier cs) ∷ k)
      → IsMatched source pages calls (Running (Given v) (Needs (MakeFields owner earlier cs) ∷ k) e w) (plain.Running c)
  fields_made owner earlier NoArguments v o k e w c well shared facts is holds (handle, d, p, q, all, owned, there, none, object, kinds_are, lands) =
      let g = c.active.function in
      let base = floor source g k in
      let t = top source g k in
      let values = reverse (v ∷ earlier) in
      let held_all : Holds shared.tables c.active.slots base ((v ∷ earlier) ++ held k) = (subst (IsIn shared.tables v c.active.slots) there is, holds) in
      let kinds_is : all ≡ kinds_of (blanks_of values) = sym (sym (append-nil (kinds_of (blanks_of values))) ∙ kinds_reversed v earlier [] ∙ kinds_are) in
      made_object owner handle (Given v) (Needs (MakeFields owner earlier NoArguments) ∷ k) k e w c values d q owned refl well shared shared facts (Holds-rest shared.tables c.active.slots base (v ∷ earlier) (held k) held_all)
      (in_order shared.tables c.active.slots base (v ∷ earlier) (held k) held_all)
      (subst (λ ks. ObjectAt (code_of source g) (bounds_at source g) (types_on source g k) handle ks t d c.active.next q) kinds_is
      (subst (λ x. ObjectAt (code_of source g) (bounds_at source g) (types_on source g k) handle all t d x q) (sym none) object))
      lands
  fields_made owner earlier (MoreArguments (Convert from to a) cs) v o k e w c well shared facts is holds (handle, d, p, q, all, owned, there, (r, (s, at_a, at_to), at_cs), object, kinds_are, lands) =
      let g = c.active.function in
      silently source pages calls (Running (Given v) (Needs (MakeFields owner earlier (MoreArguments (Convert from to a) cs)) ∷ k) e w)
      (Running (Evaluating a) (Needs (ConvertTo from to (target_by a)) ∷ Needs (MakeFields owner (v ∷ earlier) cs) ∷ k) e w) (plain.Running c) refl (
        shared,
        facts,
        brings source pages calls shared.tables from to a (Needs (MakeFields owner (v ∷ earlier) cs) ∷ k) e.locals g c.active.next c.active.slots c.frames s r at_a at_to (subst (IsIn shared.tables v c.active.slots) there is, holds)
            (handle, d, p, q, all, owned, refl, at_cs, object, kinds_reversed v earlier (to ∷ kinds_passed cs) ∙ kinds_are, lands),
      )
      (omega arith)

  -- ---- writing the cells

  -- The next cell of a new object comes after the cells that are already written.
  cell_next : (t : Tables) (object address : ℕ) (done rest : List Kind) (kind : Kind) → IsObject t object address (done ++ kind ∷ rest) → Points t object (length done) (add_of address (begins kind (bytes_of_kinds done)))
  cell_next t object address done rest kind is = record {
    address = address;
    kinds = done ++ kind ∷ rest;
    row = is.row;
    range = is.range;
    inside = omega (arith, length-append done (kind ∷ rest));
    at =
        let place = before-joined 0 done rest kind in
        let fits : address + bytes_of_kinds (done ++ kind ∷ rest) < 4294967296 = is.range.high in
        let inside : before (length done) (done ++ kind ∷ rest) ≤ bytes_of_kinds (done ++ kind ∷ rest) = before-all 0 (length done) (done ++ kind ∷ rest) in
        add_is address (begins kind (bytes_of_kinds done)) (omega (arith, fits, place, inside)) ∙ ap (λ n. address + n) (sym place);
  }

  -- The next cell of a new object is written, by one store for one word or by three stores for three words.
  module _ (x : Write) (writes : List Write) (pointer : Kinded) (object : ℕ) (done : List Kind) (u : Kinded) (us : List Kinded) (address slot d m q : ℕ) (k : List Entry) (e : Environment) (w : World) (c : Configuration)
      (does : step source (Running (Writing (x ∷ writes) (Some pointer)) k e w) ≡ stored (cell_at w object (length done)) object (length done) u (Writing (writes_from object (suc (length done)) us) (Some pointer)) k e w)
      (words : plain.HoldsWords (plain.Running c)) (names : AreNamed source e.locals (callers k) w c.active.function c.active.base c.frames c.store) (well : IsWell (step source (Running (Writing (x ∷ writes) (Some pointer)) k e w)))
      (high : base_of source c.active.function ≤ address) (above : base_of source c.active.function ≤ slot)
      (shared : SharedAt source pages calls k e w c) (facts : DataIn source shared.tables c.active.slots k e w c) (is : pointer ≡ record { kind = kinds.NonNull; value = Thin object 0 })
      (there : IsObject shared.tables object (c.active.slots address) (done ++ kinds_of (blanks_of (u ∷ us)))) (is_u : Is shared.tables u.kind u.value c.active.slots slot)
      (held_in : HoldsFrom shared.tables c.active.slots (slot + words_of_kind u.kind) us)
      (r : ℕ) (stores : StoresAt (code_of source c.active.function) (bounds_at source c.active.function) (types_on source c.active.function k) u.kind (words_of_kind u.kind) address (begins u.kind (bytes_of_kinds done)) slot c.active.next r)
      (others : CellsAt (code_of source c.active.function) (bounds_at source c.active.function) (types_on source c.active.function k) (kinds_of (blanks_of us)) address (following u.kind (bytes_of_kinds done)) (slot + words_of_kind u.kind) r m)
      (move : At (code_of source c.active.function) m (instructions.Move d (operands.Slot address))) (end : m + 1 ≡ q) (holds : Holds shared.tables c.active.slots (floor source c.active.function k) (held k))
      (lands : LandsMade source c.active.function e.locals kinds.NonNull d q c.frames k) where
    abbrev next_write : Focus
    next_write = Writing (writes_from object (suc (length done)) us) (Some pointer)

    abbrev place : ℕ
    place = add_of (c.active.slots address) (begins u.kind (bytes_of_kinds done))

    abbrev rest : List Kind
    rest = kinds_of (blanks_of us)

    points : Points shared.tables object (length done) place
    points = cell_next shared.tables object (c.active.slots address) done rest u.kind there

    -- The remaining cells of a new object begin after the cell that is written now.
    later_cells : (n p : ℕ) → slot + words_of_kind u.kind ≡ n → r ≡ p → CellsAt (code_of source c.active.function) (bounds_at source c.active.function) (types_on source c.active.function k) rest address (bytes_of_kinds (done ++ u.kind ∷ [])) n p m
    later_cells n p slot_is end_is =
        subst (λ b. CellsAt (code_of source c.active.function) (bounds_at source c.active.function) (types_on source c.active.function k) rest address b n p m) (sym (bytes-joined 0 done (u.kind ∷ [])))
        (subst (λ x. CellsAt (code_of source c.active.function) (bounds_at source c.active.function) (types_on source c.active.function k) rest address (following u.kind (bytes_of_kinds done)) n x m) end_is
        (subst (λ x. CellsAt (code_of source c.active.function) (bounds_at source c.active.function) (types_on source c.active.function k) rest address (following u.kind (bytes_of_kinds done)) x r m) slot_is others))

    longer : length (done ++ u.kind ∷ []) ≡ suc (length done)
    longer = omega (arith, length-append done (u.kind ∷ []))

    more : IsObject shared.tables object (c.active.slots address) ((done ++ u.kind ∷ []) ++ rest)
    more = subst (IsObject shared.tables object (c.active.slots address)) (sym (append_assoc done (u.kind ∷ []) rest)) there

    writes_word : words_of_kind u.kind ≡ 1 → IsMatched source pages calls (Running (Writing (x ∷ writes) (Some pointer)) k e w) (plain.Running c)
    writes_word one =
        let g = c.active.function in
        let tables = shared.tables in
        let slots = c.active.slots in
        let (cell, found, same, gives) = cell_is_there (cell_at w object (length done)) object (length done) u next_write k e w (subst IsWell does well) in
        let word = slots slot in
        let is_word : IsWord tables cell.cell.kind u.value word = subst (λ i. IsWord tables i u.value word) (sym same) (one_word tables u.kind u.value slots slot one is_u) in
        let (store, last) = subst (λ n. StoresAt (code_of source g) (bounds_at source g) (types_on source g k) u.kind n address (begins u.kind (bytes_of_kinds done)) slot c.active.next r) one stores in
        let later = shared_saved source pages calls k e w c shared names facts object (length done) place word cell u.value found points is_word (words.0 slot) in
        let after = with_word source pages calls k e w c shared names facts object (length done) place word cell u.value found points is_word (words.0 slot) in
        let stands : (n : ℕ) → base_of source g ≤ n → after.active.slots n ≡ slots n = λ n least. above_there source pages calls k e w c shared names facts object (length done) place word cell u.value found points is_word (words.0 slot) n least in
        by_one source pages calls (does ∙ gives) shared store
        (λ choice. subst (Matches source pages calls (Running next_write k e (written w object (length done) cell u.value)))
        (sym (saves_by (lower_program source) choice c u.kind (operands.Slot address) (begins u.kind (bytes_of_kinds done)) (operands.Slot slot)
        ∙ ap (λ (i : Kind). saved_at (lower_program source) i c place word) (sym same)
        ∙ saves_there source pages calls k e w c shared names facts object (length done) place word cell u.value found points is_word (words.0 slot))) (
          later,
          data_saved source pages calls k e w c shared names facts object (length done) place word cell u.value found points is_word (words.0 slot),
          (
            object,
            done ++ u.kind ∷ [],
            us,
            address,
            suc slot,
            d,
            m,
            q,
            ap (λ n. writes_from object n us) (sym longer),
            is,
            subst (λ x. IsObject tables object x ((done ++ u.kind ∷ []) ++ rest)) (sym (stands address high)) more,
            words_many us,
            high,
            omega (arith, above),
            subst (λ n. HoldsFrom tables after.active.slots n us) (let e : slot + words_of_kind u.kind ≡ suc slot = omega (arith, one) in e) (HoldsFrom-later tables slots after.active.slots (slot + words_of_kind u.kind) us (λ n from. stands n (omega (arith, from, above))) held_in),
            later_cells (suc slot) (c.active.next + 1) (omega (arith, one)) (sym last),
            move,
            end,
            Holds-above tables slots after.active.slots (floor source g k) (held k) (λ n from. stands n (omega (arith, from, floor-least source g k))) holds,
            made_moves source g e.locals kinds.NonNull d q c.frames after.frames (frames_there source pages calls k e w c shared names facts object (length done) place word cell u.value found points is_word (words.0 slot)) k lands,
          ),
        ))

    -- The addresses of a cell's words do not wrap around.
    unwrapped : u.kind ≡ kinds.Fat → (j : ℕ) → j < 3 → add_of (c.active.slots address) (begins u.kind (bytes_of_kinds done) + 4 * j) ≡ place + 4 * j
    unwrapped fat j below =
        let bytes = begins u.kind (bytes_of_kinds done) in
        let fits : c.active.slots address + bytes_of_kinds (done ++ u.kind ∷ rest) < 4294967296 = there.range.high in
        let place_is = before-joined 0 done rest u.kind in
        let inside : before (length done) (done ++ u.kind ∷ rest) + bytes_of_kind u.kind ≤ bytes_of_kinds (done ++ u.kind ∷ rest)
        = before-inside 0 (length done) (done ++ u.kind ∷ rest) u.kind (there_is done rest u.kind) in
        let three = ap bytes_of_kind fat in
        let first : place ≡ c.active.slots address + bytes = add_is (c.active.slots address) bytes (omega (arith, fits, place_is, inside)) in
        add_is (c.active.slots address) (bytes + 4 * j) (omega (arith, fits, place_is, inside, three, below)) ∙ omega (arith, first)

    writes_three : u.kind ≡ kinds.Fat → IsMatched source pages calls (Running (Writing (x ∷ writes) (Some pointer)) k e w) (plain.Running c)
    writes_three fat =
        let g = c.active.function in
        let tables = shared.tables in
        let slots = c.active.slots in
        let bytes = begins u.kind (bytes_of_kinds done) in
        let three = ap words_of_kind fat in
        let (cell, found, same, gives) = cell_is_there (cell_at w object (length done)) object (length done) u next_write k e w (subst IsWell does well) in
        let wide = same ∙ fat in
        let fat_is = subst (λ i. Is tables i u.value slots slot) fat is_u in
        let (at_first, (at_second, (at_third, last))) = subst (λ (i : Kind). StoresAt (code_of source g) (bounds_at source g) (types_on source g k) i (words_of_kind i) address bytes slot c.active.next r) fat stores in
        let first : add_of (slots address) bytes ≡ place + 4 * 0 = ap (add_of (slots address)) (let e : bytes ≡ bytes + 4 * 0 = omega arith in e) ∙ unwrapped fat 0 (omega arith) in
        let second : add_of (slots address) (bytes + 4) ≡ place + 4 * 1 = ap (add_of (slots address)) (let e : bytes + 4 ≡ bytes + 4 * 1 = omega arith in e) ∙ unwrapped fat 1 (omega arith) in
        let third : add_of (slots address) (bytes + 4 + 4) ≡ place + 4 * 2 = ap (add_of (slots address)) (let e : bytes + 4 + 4 ≡ bytes + 4 * 2 = omega arith in e) ∙ unwrapped fat 2 (omega arith) in
        let after = stored_there source pages calls k e w c shared names facts object (length done) place address bytes slot high (inl above) cell u.value found points wide fat_is words first second third in
        let stands : (n : ℕ) → base_of source g ≤ n → after.active.slots n ≡ slots n = λ n least. above_stored source pages calls k e w c shared names facts object (length done) place address bytes slot high (inl above) cell u.value found points wide fat_is words first second third n least in
        by_path source pages calls (Writing (x ∷ writes) (Some pointer)) k e w c (Running next_write k e (written w object (length done) cell u.value))
        (store_links source pages calls k e w c shared names facts object (length done) place address bytes slot high (inl above) cell u.value found points wide fat_is words first second third)
        (instructions.Store (operands.Slot address) (bytes + 4 + 4) (operands.Slot (suc (suc slot)))) (does ∙ gives) shared
        (store_path source pages calls k e w c shared names facts object (length done) place address bytes slot high (inl above) cell u.value found points wide fat_is words first second third at_first at_second) at_third
        (λ choice. subst (Matches source pages calls (Running next_write k e (written w object (length done) cell u.value)))
        (sym (store_last source pages calls k e w c shared names facts object (length done) place address bytes slot high (inl above) cell u.value found points wide fat_is words first second third choice)) (
          shared_stored source pages calls k e w c shared names facts object (length done) place address bytes slot high (inl above) cell u.value found points wide fat_is words first second third,
          data_stored source pages calls k e w c shared names facts object (length done) place address bytes slot high (inl above) cell u.value found points wide fat_is words first second third,
          (
            object,
            done ++ u.kind ∷ [],
            us,
            address,
            suc (suc (suc slot)),
            d,
            m,
            q,
            ap (λ n. writes_from object n us) (sym longer),
            is,
            subst (λ x. IsObject tables object x ((done ++ u.kind ∷ []) ++ rest)) (sym (stands address high)) more,
            words_many us,
            high,
            omega (arith, above),
            subst (λ n. HoldsFrom tables after.active.slots n us) (let e : slot + words_of_kind u.kind ≡ suc (suc (suc slot)) = omega (arith, three) in e) (HoldsFrom-later tables slots after.active.slots (slot + words_of_kind u.kind) us (λ n from. stands n (omega (arith, from, above))) held_in),
            later_cells (suc (suc (suc slot))) (c.active.next + 1 + 1 + 1) (omega (arith, three)) (sym last),
            move,
            end,
            Holds-above tables slots after.active.slots (floor source g k) (held k) (λ n from. stands n (omega (arith, from, floor-least source g k))) holds,
            made_moves source g e.locals kinds.NonNull d q c.frames after.frames (frames_stored source pages calls k e w c shared names facts object (length done) place address bytes slot high (inl above) cell u.value found points wide fat_is words first second third) k lands,
          ),
        ))

    writes_cell : (narrow : Bool) → (words_of_kind u.kind == 1) ≡ narrow → IsMatched source pages calls (Running (Writing (x ∷ writes) (Some pointer)) k e w) (plain.Running c)
    writes_cell true narrow = writes_word (eqb-true (words_of_kind u.kind) 1 narrow)
    writes_cell false wide = writes_three (wide_kind u.kind wide)

  -- A cell of a new object is written; after the last cell, the pointer to the object is moved to its slot.
  pub writing : (writes : List Write) (pointer : Kinded) (k : List Entry) (e : Environment) (w : World) (c : Configuration) → plain.HoldsWords (plain.Running c)
      → AreNamed source e.locals (callers k) w c.active.function c.active.base c.frames c.store → IsStep source pages calls (Writing writes (Some pointer)) k e w c
  writing [] pointer k e w c words names well (shared, facts, (object, done, [], address, slot, d, m, q, are, is, there, single, high, above, held_in, at, move, end, holds, lands)) =
      let points : Points shared.tables object 0 (c.active.slots address) = first_cell shared.tables object (c.active.slots address) (done ++ []) there in
      let v : Kinded = record { kind = kinds.NonNull; value = Thin object 0 } in
      by_one source pages calls (ap (λ (x : Kinded). Running (Given x) k e w) is) shared (subst (λ p. At (code_of source c.active.function) p (instructions.Move d (operands.Slot address))) (sym at) move)
      (λ choice. made_moved source pages calls v (operands.Slot address) d k e w c q choice shared points facts holds (omega (arith, at, end)) lands)
    where
      first_cell : (t : Tables) (object address : ℕ) (kinds : List Kind) → IsObject t object address kinds → Points t object 0 address
      first_cell t object address kinds is = record { address = address; kinds = kinds; row = is.row; range = is.range; inside = is.some; at = omega (arith, before-first kinds) }
  writing [] pointer k e w c words names well (shared, facts, (object, done, u ∷ us, address, slot, d, m, q, are, is, there, single, high, above, held_in, at, move, end, holds, lands)) = absurd (let f : [] ≡ writes_from object (length done) (u ∷ us) = are in cc)
  writing (x ∷ writes) pointer k e w c words names well (shared, facts, (object, done, [], address, slot, d, m, q, are, is, there, single, high, above, held_in, at, move, end, holds, lands)) = absurd (let f : x ∷ writes ≡ [] = are in cc)
  writing (x ∷ writes) pointer k e w c words names well (shared, facts, (object, done, u ∷ us, address, slot, d, m, q, are, is, there, single, high, above, (is_u, held_in), (r, at, others), move, end, holds, lands)) =
      writes_cell x writes pointer object done u us address slot d m q k e w c (ap (λ (l : List Write). step source (Running (Writing l (Some pointer)) k e w)) are) words names well high above shared facts is there is_u held_in r at others move end holds lands
      (words_of_kind u.kind == 1) refl
