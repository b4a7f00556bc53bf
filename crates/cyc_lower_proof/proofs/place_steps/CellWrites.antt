-- This file creates objects that are not variables, and writes cells. It shows that the facts about variables, and the invariant that
-- source run and lowered run share, are preserved or updated.
use Rattle.std.proofs.Common.{◌≡◌, ℕ, ◌+◌, ◌*◌, ◌≤◌, ◌<◌, List, [], ◌∷◌, length, set, Option, Some, slice_get, refl, sym, ap, subst, ◌∙◌, arith, length-set, inl, inr, suc, false}
use Rattle.std.specs.Prelude.{if◌then◌else◌, ◌⊎◌}
use Rattle.cyc_words.specs.Word as words
use Rattle.cyc_lower_proof.specs.inside.Slots.{Types, global_types, slot_of}
use Rattle.cyc_types.specs.Types.{Ty}
use Rattle.cyc_types.specs.TypedTrees.{Program}
use Rattle.cyc_store.specs.State.{Memory, put, StoreState, demand, saved}
use Rattle.cyc_store.proofs.LookupLemmas.{when_other}
use Rattle.cyc_store.proofs.WordLemmas.{words-put}
use Rattle.cyc_plain.specs.inside.State as plain
use Rattle.cyc_plain.specs.inside.State.{Words, Frame, Configuration}
use Rattle.cyc_plain.specs.inside.Step.{advanced, saves}
use Rattle.cyc_plain.proofs.SlotLaws.{put-same, put-other}
use Rattle.cyc_meaning.specs.Values.{Value, Operand as Kinded, is_kind, words_of_kind}
use Rattle.cyc_meaning.specs.State.{Object, World, Access, Found, Closed, Missing, Located, cell_at, written, Environment, Entry, Focus, Running}
use Rattle.cyc_meaning.specs.Step.{wrong, stored}
use Rattle.cyc_meaning.proofs.WorldLaws.{cell_found}
use Rattle.cyc_memory_relation.specs.inside.Tables.{Tables, Placed}
use Rattle.cyc_memory_relation.specs.inside.Words.{words_from, Points, Holds, IsBeside}
use Rattle.cyc_memory_relation.specs.inside.Related as objects
use Rattle.cyc_memory_relation.proofs.Bytes.{bytes-beside, put_byte, put_byte-words, byte-beside}
use Rattle.cyc_memory_relation.proofs.Values.{Holds-of_words}
use Rattle.cyc_memory_relation.proofs.Cells.{cell-aligned, related-written, saved-is}
use Rattle.cyc_memory_relation.proofs.Variables.{assigned-away}
use Rattle.cyc_lower_proof.proofs.slots.Widths.{same_kind, kind_positive, words_in, HasGlobal, Outside, HasRoom}
use Rattle.cyc_lower_proof.proofs.slots.Slots.{global-room, slot-room}
use Rattle.cyc_lower_proof.proofs.relation.contents.Moves.{put_elsewhere}
use Rattle.cyc_lower_proof.proofs.relation.places.Known.{IsVariableRow, row-away, global-first, global_kind, first_word}
use Rattle.cyc_lower_proof.proofs.relation.contents.HeldValues.{IsWord, content_of, contents, Waiting, LocalsHold, GlobalsHold, callers, CallSlots, IsCharAt}
use Rattle.cyc_lower_proof.proofs.relation.simulation.Relation.{DataIn, SharedAt}
use Rattle.cyc_lower_proof.proofs.relation.simulation.Stacks.{FramesHold, DataAt, types_at, call_slots, base_of, starts_at}
use Rattle.cyc_lower_proof.proofs.relation.simulation.Shared.{silent}
use Rattle.cyc_lower_proof.proofs.relation.contents.Data.{IsWord-is, locals_raised, data_assigned_global, data_assigned}
use Rattle.cyc_lower_proof.proofs.relation.contents.HandlerData.{handlers_same}
use Rattle.cyc_lower_proof.proofs.relation.simulation.Accesses.{IsWell, is_fitting, written_here, written_elsewhere, written_length}
use Rattle.cyc_lower_proof.proofs.place_steps.PlaceWords.{cell_kind}
use Rattle.cyc_lower_proof.proofs.place_steps.CellReads.{globals_long}
use Rattle.cyc_plain.proofs.MemoryLaws.{store_word, stored-word, memory-active, memory-waiting, written-active, written-waiting_at}
use Rattle.cyc_lower_proof.specs.inside.Lowering.{lower_program, scopes_of}
use Rattle.cyc_lower_proof.proofs.place_steps.StoredWords.{cell-stored, saves-stored, saves-global, byte-stored, saves-stored_byte, global-found}
use Rattle.cyc_lower_proof.proofs.relation.places.Rows.{local-row, local-pointer, local-kind, char_there, char_cell}
use Rattle.cyc_lower_proof.proofs.relation.places.Leads.{AreNamed, Leads, leads, to_store, to_variable, is_global, is_local, is_waiting}
use Rattle.cyc_lower_proof.proofs.relation.contents.WaitingData.{with_slots_of, callers_least, frame_at, data_assigned_waiting}
use Rattle.cyc_lower_proof.proofs.relation.code.Moving.{Like, like_same, like_set, like_long, handlers_move}
use Rattle.std.proofs.lemmas.Bool.{cases_eq, cases_Bool}
use Rattle.cyc_words.proofs.Numbers.{when_equal}
use Rattle.cyc_words.proofs.Items.{slice_get-set_other}
use Rattle.cyc_memory_relation.proofs.Chars.{char-stored, wide-aligned, wide-bytes, char-kind}
use Rattle.cyc_lower_proof.proofs.place_steps.KindWords.{saved_at, saved_wide, saved_variable, small_word, slot_even, waiting_even}
use Rattle.cyc_lower_proof.specs.inside.ValueCode.{variable_bytes}
use Rattle.cyc_types.specs.declared.typed.Kind.{Kind}
use Rattle.cyc_types.specs.declared.typed.Kind.TheVariants as kinds
use Rattle.cyc_plain.specs.declared.limits.TheConstants.{GLOBALS_BASE}
use Rattle.cyc_store.specs.declared.range.TheConstants.{STORE_BASE}

-- ---- variables

module _ (t : Tables) (types : List Ty) where
  -- Holds if the variables contain equal values before and after the write.
  abbrev pub SameVariables : (objects others : List Object) → Type 0
  SameVariables objects others = (o : ℕ) → IsVariableRow t types o → contents others o ≡ contents objects o

module _ (t : Tables) (source : Program) where
  abbrev Same : (objects others : List Object) → Type 0
  Same objects others = SameVariables t (global_types source.globals) objects others

  locals_beside : (types : Types) (s : CallSlots) (objects others : List Object) (locals : ℕ → Option ℕ) (low high : ℕ) (slots : Words) → Same objects others
      → LocalsHold t types s objects locals low high slots → LocalsHold t types s others locals low high slots
  locals_beside types s objects others locals low high slots same hold = record {
    within = hold.within;
    apart = hold.apart;
    rows = hold.rows;
    holds = λ number object v at has. hold.holds number object v at (sym (same object (local-row (global_types source.globals) (hold.rows number object at))) ∙ has);
    small = hold.small;
  }

  frames_beside : (objects others : List Object) (high : ℕ) (frames : List Frame) (outer : List Waiting) → Same objects others
      → FramesHold source t objects high frames outer → FramesHold source t others high frames outer
  frames_beside objects others high [] [] same hold = hold
  frames_beside objects others high [] (x ∷ outer) same hold = absurd hold
  frames_beside objects others high (f ∷ frames) [] same hold = absurd hold
  frames_beside objects others high (f ∷ frames) (x ∷ outer) same (low, below, (hold, values), rest) = (
    low,
    below,
    (locals_beside (types_at source f.caller.function) (call_slots source f.caller.function f.caller.base) objects others x.locals low high f.caller.slots same hold, values),
    frames_beside objects others low frames outer same rest,
  )

  globals_beside : (g : ℕ) (objects others : List Object) (globals : Words) → Same objects others → GlobalsHold t (types_at source g) objects globals
      → GlobalsHold t (types_at source g) others globals
  globals_beside g objects others globals same hold number below =
      let (row, is, small) = hold number below in
      (row, (λ v has. is v (sym (same number (inr (inl row))) ∙ has)), small)

  -- The facts of the simulation relation about data still hold if the source run only adds objects.
  pub data_beside : (g base : ℕ) (objects others : List Object) (locals : ℕ → Option ℕ) (outer : List Waiting) (slots globals : Words) (frames : List Frame) → length objects ≤ length others
      → Same objects others → DataAt source t g base objects locals outer slots globals frames → DataAt source t g base others locals outer slots globals frames
  data_beside g base objects others locals outer slots globals frames many same (low, below, hold, waiting, words) = (
    low,
    omega (arith, below, many),
    locals_raised t (types_at source g) (call_slots source g base) others locals low (length objects) (length others) slots many (locals_beside (types_at source g) (call_slots source g base) objects others locals low (length objects) slots same hold),
    frames_beside objects others low frames outer same waiting,
    globals_beside g objects others globals same words,
  )

-- ---- a cell is written

-- If a value is stored in a cell without a fault, then the cell exists and has the representation
-- kind (int, char, pointer, ..) of the value.
pub cell_is_there : (a : Access Located) (number offset : ℕ) (v : Kinded) (focus : Focus) (k : List Entry) (e : Environment) (w : World) → IsWell (stored a number offset v focus k e w)
    → (at : Located) × (a ≡ Found at) × (at.cell.kind ≡ v.kind) × (stored a number offset v focus k e w ≡ Running focus k e (written w number offset at v.value))
cell_is_there (Found at) number offset v focus k e w well =
    let done = Running focus k e (written w number offset at v.value) in
    let fits = is_fitting (is_kind at.cell.kind v.kind) done w well in
    (at, refl, same_kind at.cell.kind v.kind fits, ap (λ b. if b then done else wrong w) fits)
cell_is_there Closed number offset v focus k e w well = absurd (well refl)
cell_is_there Missing number offset v focus k e w well = absurd (well refl)

-- The configuration with its heap store, globals, slots and frames replaced.
abbrev pub with_parts : Configuration → StoreState → (globals slots : Words) → List Frame → Configuration
with_parts c store globals slots frames = record c { store = store; globals = globals; active = record c.active { slots = slots }; frames = frames }

-- A cell is written with the word that represents a value. The cell is a cell of the heap store, a global, or a local of an
-- active call. A write of the cell changes the heap store, the globals, or the slots of that call.
module _ (source : Program) (pages calls : ℕ) (k : List Entry) (e : Environment) (w : World) (c : Configuration) (shared : SharedAt source pages calls k e w c)
    (names : AreNamed source e.locals (callers k) w c.active.function c.active.base c.frames c.store)
    (facts : DataIn source shared.tables c.active.slots k e w c) (object offset address word : ℕ) (at : Located) (v : Value) (found : cell_at w object offset ≡ Found at)
    (points : Points shared.tables object offset address) (is : IsWord shared.tables at.cell.kind v word) (fits : words.IsWord word) where
  abbrev pub next : World
  next = written w object offset at v

  abbrev now : Object
  now = record at.object { cells = set at.object.cells offset (record at.cell { content = Some v }) }

  abbrev g : ℕ
  g = c.active.function

  abbrev globals_of_source : List Ty
  globals_of_source = global_types source.globals

  objects_many : length next.objects ≡ length w.objects
  objects_many = length-set w.objects object now

  -- The result of a store instruction, and the facts that the instruction preserves.
  pub record IsSaved : Type 0 where
    pub store : StoreState
    pub globals : Words
    pub slots : Words
    pub frames : List Frame
    pub goes : saved_at (lower_program source) at.cell.kind c address word ≡ plain.Running (advanced (with_parts c store globals slots frames))
    pub related : objects.Related shared.tables (silent next) store
    pub same_pages : store.pages ≡ c.store.pages
    pub same_demand : demand store ≡ demand c.store
    pub like : Like source c.frames frames
    pub above : (n : ℕ) → base_of source c.active.function ≤ n → slots n ≡ c.active.slots n
    pub either : (n : ℕ) → (slots n ≡ c.active.slots n) ⊎ (slots n ≡ word)
    pub stays : DataAt source shared.tables c.active.function c.active.base next.objects e.locals (callers k) slots globals frames

  -- the word of a char is a byte
  byte_fits : at.cell.kind ≡ kinds.Char → word < 256
  byte_fits char = small_word shared.tables at.cell.kind v word is char

  -- If a cell of the heap store is written, then the facts that the tables of objects record about variables are preserved.
  data_there : (h : ℕ) → objects.Alive shared.tables (silent w) object h at.object
      → DataAt source shared.tables c.active.function c.active.base next.objects e.locals (callers k) c.active.slots c.globals c.frames
  data_there h alive =
      data_beside shared.tables source c.active.function c.active.base w.objects next.objects e.locals (callers k) c.active.slots c.globals c.frames (omega (arith, objects_many))
      (λ o row. ap content_of (slice_get-set_other w.objects object o now (λ same. row-away shared.related globals_of_source o h at.object row (subst (λ n. objects.Alive shared.tables (silent w) n h at.object) (sym same) alive))))
      facts.0

  -- A write to a cell of the heap store changes only the memory of this store.
  remembers : (m : Memory) (h : ℕ) → objects.Alive shared.tables (silent w) object h at.object
      → saved_at (lower_program source) at.cell.kind c address word ≡ plain.Running (advanced (record c { store = record c.store { memory = m } }))
      → objects.Related shared.tables (silent next) (record c.store { memory = m }) → IsSaved
  remembers m h alive goes related = record {
    store = record c.store { memory = m };
    globals = c.globals;
    slots = c.active.slots;
    frames = c.frames;
    goes = goes;
    related = related;
    same_pages = refl;
    same_demand = refl;
    like = like_same source c.frames;
    above = λ n least. refl;
    either = λ n. inl refl;
    stays = data_there h alive;
  }

  in_words : (h : ℕ) → objects.Alive shared.tables (silent w) object h at.object → slice_get at.object.cells offset ≡ Some at.cell → is_kind at.cell.kind kinds.Char ≡ false → IsSaved
  in_words h alive cell wide =
      let zero_far : address + 4 * 0 ≡ address = omega arith in
      let there : store_word c.store address ≡ Some (c.store.memory address)
      = subst (λ n. store_word c.store n ≡ Some (c.store.memory n)) zero_far (cell-stored shared.related alive points cell wide 0 (kind_positive at.cell.kind)) in
      let m : Memory = put c.store.memory address word in
      let saved_is : saved c.store address word ≡ record c.store { memory = m } = saved-is c.store address word (c.store.memory address) (stored-word c.store address (c.store.memory address) there) in
      remembers m h alive
      (saved_wide (lower_program source) at.cell.kind c address word wide
      ∙ (saves-stored source c address word (c.store.memory address) there ∙ ap (λ (s : StoreState). plain.Running (advanced (record c { store = s }))) saved_is))
      (related-written shared.related alive points cell m v (words-put c.store.memory address word shared.related.sound.words fits)
      (bytes-beside c.store.memory m at.cell.kind address (words_of_kind at.cell.kind) (wide-bytes at.cell.kind wide)
      (wide-aligned at.cell.kind address wide (cell-aligned shared.related alive points cell))
      (λ y other. when_other y address word (c.store.memory y) (λ same. other 0 (kind_positive at.cell.kind) (same ∙ sym zero_far))))
      (Holds-of_words shared.tables at.cell.kind v m address wide
      (IsWord-is shared.tables at.cell.kind v word (words_from m address) 0 (ap m zero_far ∙ when_equal address address word (c.store.memory address) refl) is)))

  in_byte : (h : ℕ) → objects.Alive shared.tables (silent w) object h at.object → slice_get at.object.cells offset ≡ Some at.cell → at.cell.kind ≡ kinds.Char → IsSaved
  in_byte h alive cell char =
      let small : word < 256 = byte_fits char in
      let m : Memory = put_byte c.store.memory address word in
      remembers m h alive
      (ap (λ (kind : Kind). saved_at (lower_program source) kind c address word) char
      ∙ saves-stored_byte source c address word small (byte-stored shared.related alive points cell))
      (related-written shared.related alive points cell m v (put_byte-words c.store.memory address word shared.related.sound.words small)
      (λ x beside. byte-beside c.store.memory address word small x (subst (λ (kind : Kind). IsBeside kind address x) char beside))
      (subst (λ (kind : Kind). Holds shared.tables kind v m address) (sym char)
      (char-stored shared.tables v (λ (j : ℕ). word) 0 c.store.memory address (subst (λ (kind : Kind). IsWord shared.tables kind v word) char is))))

  in_store : (h : ℕ) → objects.Alive shared.tables (silent w) object h at.object → slice_get at.object.cells offset ≡ Some at.cell → IsSaved
  in_store h alive cell = elim (cases_Bool (is_kind at.cell.kind kinds.Char)) [
    | inl char ↦ in_byte h alive cell (char-kind at.cell.kind char)
    | inr wide ↦ in_words h alive cell wide
  ]

  -- The cell that is written is the only cell of a variable (a global or a local).
  module _ (first : offset ≡ 0) (cell : slice_get at.object.cells offset ≡ Some at.cell) (row : IsVariableRow shared.tables globals_of_source object) where
    object_there : slice_get w.objects object ≡ Some at.object
    object_there = (cell_found w object offset at found).0

    cell_there : slice_get at.object.cells 0 ≡ Some at.cell
    cell_there = ap (slice_get at.object.cells) (sym first) ∙ cell

    abbrev first_written : World
    first_written = written w object 0 at v

    written_is : next ≡ first_written
    written_is = ap (λ (n : ℕ). written w object n at v) first

    abbrev value : Kinded
    value = record { kind = at.cell.kind; value = v }

    holds_now : contents first_written.objects object ≡ Some value
    holds_now = written_here w object at v object_there cell_there at.cell.kind refl

    char_now : IsCharAt shared.tables object → at.cell.kind ≡ kinds.Char
    char_now = char_cell shared.related object at.object at.cell object_there cell_there

    related_now : objects.Related shared.tables (silent next) c.store
    related_now = assigned-away shared.related object offset at.object at.cell v object_there cell (λ h alive. row-away shared.related globals_of_source object h at.object row alive)

    moved : (slots globals : Words) (frames : List Frame) → DataAt source shared.tables g c.active.base first_written.objects e.locals (callers k) slots globals frames
        → DataAt source shared.tables g c.active.base next.objects e.locals (callers k) slots globals frames
    moved slots globals frames data_now = subst (λ (x : World). DataAt source shared.tables g c.active.base x.objects e.locals (callers k) slots globals frames) (sym written_is) data_now

  in_globals : object < length globals_of_source → slice_get at.object.cells offset ≡ Some at.cell → IsSaved
  in_globals few cell =
      let (row, holds, small) = facts.0.4 object few in
      let first = first_word globals_of_source object in
      let (start, place) = global-first globals_of_source object offset address row points in
      let kind = global_kind row points (cell_kind shared.related at points found) in
      let room : HasGlobal (types_at source g) object at.cell.kind = subst (λ i. words_of_kind i ≤ words_in globals_of_source object) kind row.room in
      let globals = plain.put c.globals first word in
      let start_at : ℕ = GLOBALS_BASE + 4 * first in
      let low : row.kind ≡ kinds.Char → c.globals first < 256
      = λ char. small (start_at + variable_bytes row.kind, row.row ∙ ap (λ (i : Kind). Some (Placed (start_at + variable_bytes row.kind) (i ∷ []))) char) in
      let first_long = globals_long source first (omega (arith, global-room (types_at source g) object few, row.room, kind_positive row.kind)) in
      let first_low : start_at < STORE_BASE = omega (arith, row.low, kind_positive row.kind) in
      let elsewhere : (m : ℕ) → Outside first (words_of_kind at.cell.kind) m → globals m ≡ c.globals m = λ m out. put_elsewhere c.globals first word (words_of_kind at.cell.kind) m (kind_positive at.cell.kind) out in
      record {
        store = c.store;
        globals = globals;
        slots = c.active.slots;
        frames = c.frames;
        goes = ap (λ (i : Kind). saved_at (lower_program source) i c address word) (sym kind)
            ∙ ap (λ a. saved_at (lower_program source) row.kind c a word) place
            ∙ saved_variable (lower_program source) row.kind c start_at word (c.globals first) (omega arith) (λ char. (low char, byte_fits (sym kind ∙ char)))
            (global-found source c first first_long first_low)
            ∙ saves-global source c first first_long first_low word;
        related = related_now start cell (inr (inl row));
        same_pages = refl;
        same_demand = refl;
        like = like_same source c.frames;
        above = λ n least. refl;
        either = λ n. inl refl;
        stays = moved start cell (inr (inl row)) c.active.slots globals c.frames
            (data_assigned_global shared.tables source g c.active.base w.objects (written w object 0 at v).objects e.locals (callers k) c.active.slots c.globals globals c.frames object (record { kind = at.cell.kind; value = v }) room
            (holds_now start cell (inr (inl row))) (written_elsewhere w object at v (object_there start cell (inr (inl row))) (cell_there start cell (inr (inl row)))) (written_length w object at v (object_there start cell (inr (inl row))) (cell_there start cell (inr (inl row))))
            (IsWord-is shared.tables at.cell.kind v word globals first (put-same c.globals first word) is) (char_now start cell (inr (inl row))) elsewhere facts.0);
      }

  in_local : (number : ℕ) → e.locals number ≡ Some object → slice_get at.object.cells offset ≡ Some at.cell → IsSaved
  in_local number here cell =
      let hold = facts.0.2 in
      let r = hold.rows number object here in
      let row = local-row globals_of_source r in
      let place = local-pointer r points in
      let inside = (hold.within number object here).0 in
      let kind = local-kind r points (cell_kind shared.related at points found) in
      let room : HasRoom (types_at source g) number at.cell.kind = subst (HasRoom (types_at source g) number) kind r.room in
      let slot = slot_of (starts_at source g) number in
      let slots = plain.put c.active.slots slot word in
      let elsewhere : (m : ℕ) → Outside slot (words_of_kind at.cell.kind) m → slots m ≡ c.active.slots m = λ m out. put_elsewhere c.active.slots slot word (words_of_kind at.cell.kind) m (kind_positive at.cell.kind) out in
      record {
        store = c.store;
        globals = c.globals;
        slots = slots;
        frames = c.frames;
        goes = ap (λ (i : Kind). saved_at (lower_program source) i c address word) (sym kind)
            ∙ ap (λ a. saved_at (lower_program source) r.kind c a word) place.at
            ∙ saved_variable (lower_program source) r.kind c (c.active.base + 4 * slot) word (c.active.slots slot) (slot_even (lower_program source) g c.active.base c.frames slot names.lie)
            (λ char. (hold.small number object here (char_there r points char), byte_fits (sym kind ∙ char)))
            (memory-active (lower_program source) names.well c names.lie slot place.pinned)
            ∙ (ap (saves (lower_program source) c (c.active.base + 4 * slot) word) (memory-active (lower_program source) names.well c names.lie slot place.pinned)
            ∙ ap (λ (d : Configuration). plain.Running (advanced d)) (written-active (lower_program source) names.well c names.lie slot word place.pinned));
        related = related_now place.first cell row;
        same_pages = refl;
        same_demand = refl;
        like = like_same source c.frames;
        above = λ n least. elsewhere n (inr (omega (arith, least, slot-room (types_at source g) number inside, room)));
        either = λ n. elim (cases_eq n slot) [
          | inl same ↦ inr (ap (plain.put c.active.slots slot word) same ∙ put-same c.active.slots slot word)
          | inr other ↦ inl (put-other c.active.slots slot n word other)
        ];
        stays = moved place.first cell row slots c.globals c.frames
            (data_assigned shared.tables source g c.active.base w.objects (written w object 0 at v).objects e.locals (callers k) c.active.slots slots c.globals c.frames number object (record { kind = at.cell.kind; value = v }) here
            (holds_now place.first cell row) (written_elsewhere w object at v (object_there place.first cell row) (cell_there place.first cell row)) (written_length w object at v (object_there place.first cell row) (cell_there place.first cell row))
            room (IsWord-is shared.tables at.cell.kind v word slots slot (put-same c.active.slots slot word) is) (char_now place.first cell row) elsewhere facts.0);
      }

  in_waiting : (i number : ℕ) (x : Waiting) → slice_get (callers k) i ≡ Some x → x.locals number ≡ Some object → slice_get at.object.cells offset ≡ Some at.cell → IsSaved
  in_waiting i number x waits here cell =
      let frame = frame_at shared.tables source w.objects facts.0.0 c.frames (callers k) i x facts.0.3 waits in
      let f = frame.frame in
      let h = f.caller.function in
      let hold = frame.holds in
      let r = hold.rows number object here in
      let row = local-row globals_of_source r in
      let place = local-pointer r points in
      let inside = (hold.within number object here).0 in
      let kind = local-kind r points (cell_kind shared.related at points found) in
      let room : HasRoom (types_at source h) number at.cell.kind = subst (HasRoom (types_at source h) number) kind r.room in
      let slot = slot_of (starts_at source h) number in
      let slots = plain.put f.caller.slots slot word in
      let elsewhere : (m : ℕ) → Outside slot (words_of_kind at.cell.kind) m → slots m ≡ f.caller.slots m = λ m out. put_elsewhere f.caller.slots slot word (words_of_kind at.cell.kind) m (kind_positive at.cell.kind) out in
      record {
        store = c.store;
        globals = c.globals;
        slots = c.active.slots;
        frames = set c.frames i (with_slots_of f slots);
        goes = ap (λ (i : Kind). saved_at (lower_program source) i c address word) (sym kind)
            ∙ ap (λ a. saved_at (lower_program source) r.kind c a word) place.at
            ∙ saved_variable (lower_program source) r.kind c (f.caller.base + 4 * slot) word (f.caller.slots slot) (waiting_even (lower_program source) g c.active.base c.frames i f slot names.lie frame.at)
            (λ char. (hold.small number object here (char_there r points char), byte_fits (sym kind ∙ char)))
            (memory-waiting (lower_program source) names.well c names.lie i f frame.at slot place.pinned)
            ∙ (ap (saves (lower_program source) c (f.caller.base + 4 * slot) word) (memory-waiting (lower_program source) names.well c names.lie i f frame.at slot place.pinned)
            ∙ ap (λ (d : Configuration). plain.Running (advanced d)) (written-waiting_at (lower_program source) names.well c names.lie i f frame.at slot word place.pinned));
        related = related_now place.first cell row;
        same_pages = refl;
        same_demand = refl;
        like = like_set source c.frames i f slot word frame.at (omega (arith, slot-room (types_at source h) number inside, room, kind_positive at.cell.kind));
        above = λ n least. refl;
        either = λ n. inl refl;
        stays = moved place.first cell row c.active.slots c.globals (set c.frames i (with_slots_of f slots))
            (data_assigned_waiting shared.tables source w.objects (written w object 0 at v).objects f x number object (record { kind = at.cell.kind; value = v }) slots here
            (holds_now place.first cell row) (written_elsewhere w object at v (object_there place.first cell row) (cell_there place.first cell row)) room
            (IsWord-is shared.tables at.cell.kind v word slots slot (put-same f.caller.slots slot word) is) (char_now place.first cell row) elsewhere (callers_least k (scopes_of source) i x waits)
            g c.active.base e.locals (callers k) c.active.slots c.globals c.frames i (written_length w object at v (object_there place.first cell row) (cell_there place.first cell row)) frame.at waits facts.0);
      }

  pub is_saved : IsSaved
  is_saved =
      let (lies, cell) = leads source names shared.related object offset at found in
      by lies cell
    where
      by : Leads source shared.tables w e.locals (callers k) object at.object → slice_get at.object.cells offset ≡ Some at.cell → IsSaved
      by (to_store h alive) cell = in_store h alive cell
      by (to_variable (is_global few)) cell = in_globals few cell
      by (to_variable (is_local number here)) cell = in_local number here cell
      by (to_variable (is_waiting i number x waits here)) cell = in_waiting i number x waits here cell

  -- The configuration after the word has been written.
  abbrev pub with_word : Configuration
  with_word = with_parts c is_saved.store is_saved.globals is_saved.slots is_saved.frames

  -- The store instruction succeeds, and execution continues at the next instruction.
  pub saves_there : saved_at (lower_program source) at.cell.kind c address word ≡ plain.Running (advanced with_word)
  saves_there = is_saved.goes

  pub demand_there : demand with_word.store ≡ demand c.store
  demand_there = is_saved.same_demand

  pub frames_there : Like source c.frames with_word.frames
  frames_there = is_saved.like

  pub above_there : (n : ℕ) → base_of source c.active.function ≤ n → with_word.active.slots n ≡ c.active.slots n
  above_there = is_saved.above

  -- A slot that held the stored word still holds it after the store instruction.
  pub word_stays : (n : ℕ) → c.active.slots n ≡ word → with_word.active.slots n ≡ word
  word_stays n holds = elim (is_saved.either n) [
    | inl same ↦ same ∙ holds
    | inr now ↦ now
  ]

  -- After the store instruction, the invariant that the source run and the lowered run share still holds with the same tables of objects.
  abbrev pub shared_saved : SharedAt source pages calls k e next (advanced with_word)
  shared_saved = record {
    tables = shared.tables;
    same_output = shared.same_output;
    same_input = shared.same_input;
    same_pages = is_saved.same_pages ∙ shared.same_pages;
    related = is_saved.related;
    globals = shared.globals;
    variables = shared.variables;
    few_pages = subst (λ n. n ≤ pages) (sym is_saved.same_demand) shared.few_pages;
    fits = subst (λ n. suc n ≤ calls) (sym (like_long source c.frames is_saved.frames is_saved.like)) shared.fits;
    counters = shared.counters;
  }

  -- After the store instruction, the slots and globals still represent the values of the source run in all active calls.
  pub data_saved : DataIn source shared.tables with_word.active.slots k e next (advanced with_word)
  data_saved = (
    is_saved.stays,
    handlers_move source g is_saved.slots c.active.handlers c.frames is_saved.frames is_saved.like k
        (handlers_same source g c.active.slots is_saved.slots c.active.handlers c.frames k (λ n from to. is_saved.above n from) facts.1),
  )
