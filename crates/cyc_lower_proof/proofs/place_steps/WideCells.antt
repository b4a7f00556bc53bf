-- This file writes a cell of three words, which holds a fat pointer, by three stores.
use Rattle.std.proofs.Common.{◌≡◌, ◌≢◌, ◌⊎◌, ℕ, zero, suc, ◌+◌, ◌*◌, ◌<◌, ◌≤◌, List, [], ◌∷◌, length, set, Some, slice_get, refl, sym, ap, subst, ◌∙◌, arith, inl, inr, length-set, true}
use Rattle.std.specs.Prelude.{◌==◌, if◌then◌else◌}
use Rattle.cyc_words.specs.Word.{add_of}
use Rattle.cyc_types.specs.declared.typed.Kind.TheVariants as kinds
use Rattle.cyc_types.specs.TypedTrees.{Program}
use Rattle.cyc_store.specs.State.{Memory, put, StoreState, demand}
use Rattle.cyc_plain.specs.declared.limits.TheConstants.{GLOBALS_BASE}
use Rattle.cyc_plain.specs.declared.instruction.Operand.TheVariants as operands
use Rattle.cyc_plain.specs.declared.instruction.Instruction.TheVariants as instructions
use Rattle.cyc_plain.specs.inside.Program.{Program as PlainProgram}
use Rattle.cyc_plain.specs.inside.State as plain
use Rattle.cyc_plain.specs.inside.State.{Words, Configuration, Frame}
use Rattle.cyc_plain.specs.inside.Step.{Choice, saves, performed, advanced}
use Rattle.cyc_plain.specs.inside.Straight.{At}
use Rattle.cyc_meaning.specs.Values.{Value, Operand as Kinded, words_of_kind, bytes_of_kind, is_kind}
use Rattle.cyc_meaning.specs.State.{Object, World, Found, Located, cell_at, written, Environment, Entry}
use Rattle.cyc_meaning.proofs.WorldLaws.{cell_found}
use Rattle.cyc_memory_relation.specs.inside.Words.{Points, Is, Holds}
use Rattle.cyc_memory_relation.specs.inside.Related as objects
use Rattle.cyc_memory_relation.proofs.Bytes.{bytes-beside}
use Rattle.cyc_memory_relation.proofs.Cells.{cell-aligned, related-written, saved-is}
use Rattle.cyc_memory_relation.proofs.Variables.{assigned-away}
use Rattle.cyc_lower_proof.specs.inside.Slots.{global_types, slot_of}
use Rattle.cyc_lower_proof.specs.inside.Lowering.{lower_program, scopes_of}
use Rattle.cyc_lower_proof.proofs.slots.Widths.{Outside, HasGlobal, words_in, HasRoom}
use Rattle.cyc_lower_proof.proofs.slots.Slots.{global-room, slot-room, slot-apart}
use Rattle.cyc_lower_proof.proofs.relation.places.Known.{row-away, global-first, global_kind, first_word, IsVariableRow}
use Rattle.cyc_lower_proof.proofs.place_steps.PlaceWords.{stored_still, three_put, three_words, three_elsewhere, three_written, cell_kind}
use Rattle.cyc_lower_proof.proofs.relation.contents.HeldValues.{content_of, callers, Waiting, contents, IsCharAt}
use Rattle.cyc_lower_proof.proofs.relation.simulation.Relation.{SharedAt, DataIn}
use Rattle.cyc_lower_proof.proofs.relation.simulation.Stacks.{DataAt, code_of, types_at, base_of, starts_at}
use Rattle.cyc_lower_proof.proofs.relation.simulation.Shared.{silent}
use Rattle.cyc_lower_proof.proofs.relation.contents.Data.{Is-same, data_assigned_global, data_assigned}
use Rattle.cyc_lower_proof.proofs.relation.contents.HandlerData.{handlers_same}
use Rattle.cyc_lower_proof.proofs.relation.simulation.Accesses.{written_here, written_elsewhere, written_length}
use Rattle.cyc_lower_proof.proofs.place_steps.CellReads.{globals_long}
use Rattle.cyc_lower_proof.proofs.place_steps.CellWrites.{data_beside}
use Rattle.cyc_lower_proof.proofs.value_steps.GlobalSteps.{each_put, each-outside, each_is, each-inside}
use Rattle.cyc_lower_proof.proofs.relation.simulation.Paths.{Link, IsQuiet, IsPath}
use Rattle.cyc_plain.proofs.MemoryLaws.{store_word, stored-word, memory-active, memory-waiting, written-active, written-waiting_at}
use Rattle.cyc_plain.specs.inside.Memory.{memory_at, is_pinned}
use Rattle.cyc_lower_proof.proofs.place_steps.StoredWords.{cell-stored, saves-stored, saves-global}
use Rattle.cyc_lower_proof.proofs.relation.places.Leads.{AreNamed, Leads, leads, to_store, to_variable, is_global, is_local, is_waiting}
use Rattle.cyc_lower_proof.proofs.relation.contents.WaitingData.{with_slots_of, callers_least, frame_at, data_assigned_waiting, below_set, frame_set_at, set_again}
use Rattle.cyc_lower_proof.proofs.relation.code.Moving.{Like, like_same, like_slots, like_long, handlers_move}
use Rattle.cyc_lower_proof.proofs.relation.places.Rows.{local-row, local-pointer, local-kind, char_cell}
use Rattle.cyc_types.specs.Types.{Ty}
use Rattle.std.proofs.lemmas.Bool.{cases_eq, cases_lt}
use Rattle.cyc_words.proofs.Items.{slice_get-set_other}
use Rattle.cyc_types.specs.declared.typed.Kind.{Kind}
use Rattle.cyc_lower_proof.specs.inside.ValueCode.{variable_bytes}
use Rattle.cyc_memory_relation.proofs.Chars.{wide-aligned}

-- The components of a configuration (heap store, globals, slots, frames) that change while the words of a cell are written.
pub record Parts : Type 0 where
  pub store : StoreState
  pub globals : Words
  pub slots : Words
  pub frames : List Frame

abbrev pub parts_of : Configuration → Parts
parts_of c = record { store = c.store; globals = c.globals; slots = c.active.slots; frames = c.frames }

-- The configuration `c` with the given heap store, globals, slots and frames, at the instruction `next`.
abbrev pub stage : Configuration → Parts → (next : ℕ) → Configuration
stage c s next = record c { store = s.store; globals = s.globals; active = record c.active { next = next; slots = s.slots }; frames = s.frames }

-- Compares the states of the machine at two stages of the write of a cell: the heap stores request equally many pages, and the call
-- stacks have equally many frames.
abbrev IsAsFar : Parts → Parts → Type 0
IsAsFar s others = (demand others.store ≡ demand s.store) × (length others.frames ≡ length s.frames)

stage_quiet : (c : Configuration) (s others : Parts) (p q : ℕ) → IsAsFar s others → IsQuiet (stage c s p) (stage c others q)
stage_quiet c s others p q far = record { seen = refl; demand = far.0; frames = far.1 }

-- Holds if the words of the stored value are in temporaries or in a local.
abbrev pub IsStanding : Program → (g n : ℕ) → Type 0
IsStanding source g n = (base_of source g ≤ n) ⊎ ((number : ℕ) × (number < length (types_at source g).locals) × (slot_of (starts_at source g) number ≡ n) × HasRoom (types_at source g) number kinds.Fat)

-- The words in the slots from n on are stored to the address in slot a plus a number of bytes.
module _ (source : Program) (pages calls : ℕ) (k : List Entry) (e : Environment) (w : World) (c : Configuration) (shared : SharedAt source pages calls k e w c)
    (names : AreNamed source e.locals (callers k) w c.active.function c.active.base c.frames c.store)
    (facts : DataIn source shared.tables c.active.slots k e w c) (object offset address a bytes n : ℕ) (temporary : base_of source c.active.function ≤ a) (standing : IsStanding source c.active.function n)
    (cell : Located) (v : Value) (found : cell_at w object offset ≡ Found cell) (points : Points shared.tables object offset address)
    (fat : cell.cell.kind ≡ kinds.Fat) (is : Is shared.tables kinds.Fat v c.active.slots n) (words : plain.HoldsWords (plain.Running c))
    (first : add_of (c.active.slots a) bytes ≡ address + 4 * 0) (second : add_of (c.active.slots a) (bytes + 4) ≡ address + 4 * 1) (third : add_of (c.active.slots a) (bytes + 4 + 4) ≡ address + 4 * 2) where
  abbrev slots : Words
  slots = c.active.slots

  abbrev p : ℕ
  p = c.active.next

  abbrev g : ℕ
  g = c.active.function

  abbrev lowered : PlainProgram
  lowered = lower_program source

  abbrev pub next : World
  next = written w object offset cell v

  abbrev now : Object
  now = record cell.object { cells = set cell.object.cells offset (record cell.cell { content = Some v }) }

  abbrev globals_of_source : List Ty
  globals_of_source = global_types source.globals

  -- Says that one instruction stores a word and takes the configuration from one stage of the write to the next.
  abbrev pub Goes : (s others : Parts) → (more from : ℕ) → Type 0
  Goes s others more from = (i : ℕ) (choice : Choice) → performed (lower_program source) choice (stage c s i) (instructions.Store (operands.Slot a) more (operands.Slot from)) ≡ plain.Running (stage c others (i + 1))

  -- The written cell is a cell of the heap store, a global or a local. Writing the cell changes the heap store, the
  -- globals, or the slots of a call.
  pub record IsSaved : Type 0 where
    pub one : Parts
    pub two : Parts
    pub all : Parts
    pub goes_first : Goes (parts_of c) one bytes n
    pub goes_second : Goes one two (bytes + 4) (suc n)
    pub goes_third : Goes two all (bytes + 4 + 4) (suc (suc n))
    pub one_far : IsAsFar (parts_of c) one
    pub two_far : IsAsFar one two
    pub all_far : IsAsFar two all
    pub same_pages : all.store.pages ≡ c.store.pages
    pub related : objects.Related shared.tables (silent next) all.store
    pub like : Like source c.frames all.frames
    pub above : (m : ℕ) → base_of source c.active.function ≤ m → all.slots m ≡ c.active.slots m
    pub value : (j : ℕ) → j < 3 → all.slots (n + j) ≡ c.active.slots (n + j)
    pub stays : DataAt source shared.tables c.active.function c.active.base next.objects e.locals (callers k) all.slots all.globals all.frames

  module _ (h : ℕ) (alive : objects.Alive shared.tables (silent w) object h cell.object) (at_cell : slice_get cell.object.cells offset ≡ Some cell.cell) where
    abbrev one_put : Memory
    one_put = put c.store.memory (address + 4 * 0) (slots n)

    abbrev two_put : Memory
    two_put = put one_put (address + 4 * 1) (slots (suc n))

    abbrev all_put : Memory
    all_put = three_put c.store.memory address (slots n) (slots (suc n)) (slots (suc (suc n)))

    abbrev holding : Memory → Parts
    holding m = record { store = record c.store { memory = m }; globals = c.globals; slots = c.active.slots; frames = c.frames }

    -- Each word of the cell exists, even after other words of the cell have been written.
    there : (m : Memory) (j : ℕ) → j < 3 → store_word (holding m).store (address + 4 * j) ≡ Some (m (address + 4 * j))
    there m j below =
        stored_still c.store m (address + 4 * j) (c.store.memory (address + 4 * j)) (cell-stored shared.related alive points at_cell (ap (λ (i : Kind). is_kind i kinds.Char) fat) j (omega (arith, below, ap words_of_kind fat)))

    stores_word : (m : Memory) (i more from j : ℕ) (choice : Choice) → j < 3 → add_of (slots a) more ≡ address + 4 * j
        → performed lowered choice (stage c (holding m) i) (instructions.Store (operands.Slot a) more (operands.Slot from)) ≡ plain.Running (stage c (holding (put m (address + 4 * j) (slots from))) (i + 1))
    stores_word m i more from j choice below same =
        ap (λ x. saves lowered (stage c (holding m) i) x (slots from) (memory_at lowered (stage c (holding m) i) x)) same
        ∙ (saves-stored source (stage c (holding m) i) (address + 4 * j) (slots from) (m (address + 4 * j)) (there m j below)
        ∙ ap (λ (s : StoreState). plain.Running (record c { store = s; active = record c.active { next = i + 1 } }))
        (saved-is (holding m).store (address + 4 * j) (slots from) (m (address + 4 * j)) (stored-word (holding m).store (address + 4 * j) (m (address + 4 * j)) (there m j below))))

    -- The words that were written represent the stored value.
    in_slots : Is shared.tables kinds.Fat v (λ j. if j == 0 then slots n else if j == 1 then slots (suc n) else slots (suc (suc n))) 0
    in_slots = Is-same shared.tables kinds.Fat v slots (λ j. if j == 0 then slots n else if j == 1 then slots (suc n) else slots (suc (suc n))) n 0 each is
      where
        each : (j : ℕ) → j < 3 → (if 0 + j == 0 then slots n else if 0 + j == 1 then slots (suc n) else slots (suc (suc n))) ≡ slots (n + j)
        each zero below = ap slots (let same : n ≡ n + 0 = omega arith in same)
        each (suc zero) below = ap slots (let same : suc n ≡ n + 1 = omega arith in same)
        each (suc (suc zero)) below = ap slots (let same : suc (suc n) ≡ n + 2 = omega arith in same)
        each (suc (suc (suc j))) below = absurd (omega (arith, below))

    in_store : IsSaved
    in_store = record {
      one = holding one_put;
      two = holding two_put;
      all = holding all_put;
      goes_first = λ i choice. stores_word c.store.memory i bytes n 0 choice (omega arith) first;
      goes_second = λ i choice. stores_word one_put i (bytes + 4) (suc n) 1 choice (omega arith) second;
      goes_third = λ i choice. stores_word two_put i (bytes + 4 + 4) (suc (suc n)) 2 choice (omega arith) third;
      one_far = (refl, refl);
      two_far = (refl, refl);
      all_far = (refl, refl);
      same_pages = refl;
      related = related-written shared.related alive points at_cell all_put v
          (three_words c.store.memory address (slots n) (slots (suc n)) (slots (suc (suc n))) shared.related.sound.words (words.0 n) (words.0 (suc n)) (words.0 (suc (suc n))))
          (bytes-beside c.store.memory all_put cell.cell.kind address 3 (ap bytes_of_kind fat)
          (wide-aligned cell.cell.kind address (ap (λ (i : Kind). is_kind i kinds.Char) fat) (cell-aligned shared.related alive points at_cell))
          (λ y other. three_elsewhere c.store.memory address (slots n) (slots (suc n)) (slots (suc (suc n))) y other))
          (subst (λ kind. Holds shared.tables kind v all_put address) (sym fat) (three_written shared.tables v c.store.memory address (slots n) (slots (suc n)) (slots (suc (suc n))) in_slots));
      like = like_same source c.frames;
      above = λ m least. refl;
      value = λ j below. refl;
      stays = data_beside shared.tables source g c.active.base w.objects next.objects e.locals (callers k) c.active.slots c.globals c.frames (omega (arith, length-set w.objects object now))
          (λ o row. ap content_of (slice_get-set_other w.objects object o now (λ same. row-away shared.related globals_of_source o h cell.object row (subst (λ n. objects.Alive shared.tables (silent w) n h cell.object) (sym same) alive))))
          facts.0;
    }

  -- ---- a variable of one cell

  module _ (zeroth : offset ≡ 0) (at_cell : slice_get cell.object.cells offset ≡ Some cell.cell) (row : IsVariableRow shared.tables globals_of_source object) where
    object_there : slice_get w.objects object ≡ Some cell.object
    object_there = (cell_found w object offset cell found).0

    cell_there : slice_get cell.object.cells 0 ≡ Some cell.cell
    cell_there = ap (slice_get cell.object.cells) (sym zeroth) ∙ at_cell

    abbrev first_written : World
    first_written = written w object 0 cell v

    written_is : next ≡ first_written
    written_is = ap (λ (n : ℕ). written w object n cell v) zeroth

    abbrev value : Kinded
    value = record { kind = cell.cell.kind; value = v }

    holds_now : contents first_written.objects object ≡ Some value
    holds_now = written_here w object cell v object_there cell_there cell.cell.kind refl

    char_now : IsCharAt shared.tables object → cell.cell.kind ≡ kinds.Char
    char_now = char_cell shared.related object cell.object cell.cell object_there cell_there

    related_now : objects.Related shared.tables (silent next) c.store
    related_now = assigned-away shared.related object offset cell.object cell.cell v object_there at_cell (λ h alive. row-away shared.related globals_of_source object h cell.object row alive)

    moved : (slots globals : Words) (frames : List Frame) → DataAt source shared.tables g c.active.base first_written.objects e.locals (callers k) slots globals frames
        → DataAt source shared.tables g c.active.base next.objects e.locals (callers k) slots globals frames
    moved slots globals frames data_now = subst (λ (x : World). DataAt source shared.tables g c.active.base x.objects e.locals (callers k) slots globals frames) (sym written_is) data_now

    beside : (o : ℕ) → o ≢ object → contents first_written.objects o ≡ contents w.objects o
    beside = written_elsewhere w object cell v object_there cell_there

    long : length first_written.objects ≡ length w.objects
    long = written_length w object cell v object_there cell_there

  three : words_of_kind cell.cell.kind ≡ 3
  three = ap words_of_kind fat

  fat_value : Is shared.tables cell.cell.kind v slots n
  fat_value = subst (λ i. Is shared.tables i v slots n) (sym fat) is

  -- The slots after `many` consecutive words from slot `start` on are replaced by the words of a value.
  abbrev after : Words → (start many : ℕ) → Words
  after from start many = each_put slots from many n start

  in_globals : object < length globals_of_source → slice_get cell.object.cells offset ≡ Some cell.cell → IsSaved
  in_globals few at_cell =
      let (row, holds, small) = facts.0.4 object few in
      let start = first_word globals_of_source object in
      let (zeroth, place) = global-first globals_of_source object offset address row points in
      let kind = global_kind row points (cell_kind shared.related cell points found) in
      let wide : words_of_kind row.kind ≡ 3 = ap words_of_kind (kind ∙ fat) in
      let whole : variable_bytes row.kind ≡ 0 = ap variable_bytes (kind ∙ fat) in
      let room : HasGlobal (types_at source g) object cell.cell.kind = subst (λ i. words_of_kind i ≤ words_in globals_of_source object) kind row.room in
      let elsewhere : (m : ℕ) → Outside start (words_of_kind cell.cell.kind) m → after c.globals start 3 m ≡ c.globals m
      = λ m out. each-outside slots c.globals 3 n start m (subst (λ x. Outside start x m) three out) in
      let with_globals : Words → Parts = λ globals. record { store = c.store; globals = globals; slots = c.active.slots; frames = c.frames } in
      let goes : (globals : Words) (i more from j x : ℕ) (choice : Choice) → j < 3 → add_of (slots a) more ≡ address + 4 * j → start + j ≡ x
      → performed lowered choice (stage c (with_globals globals) i) (instructions.Store (operands.Slot a) more (operands.Slot from)) ≡ plain.Running (stage c (with_globals (plain.put globals x (slots from))) (i + 1))
      = λ globals i more from j x choice below same at_x.
      ap (λ y. saves lowered (stage c (with_globals globals) i) y (slots from) (memory_at lowered (stage c (with_globals globals) i) y)) (same ∙ (let z : address + 4 * j ≡ GLOBALS_BASE + 4 * x = omega (arith, place, whole, at_x) in z))
      ∙ saves-global source (stage c (with_globals globals) i) x (globals_long source x (omega (arith, at_x, global-room (types_at source g) object few, row.room, wide, below))) (omega (arith, at_x, row.low, wide, below)) (slots from) in
      record {
        one = with_globals (after c.globals start 1);
        two = with_globals (after c.globals start 2);
        all = with_globals (after c.globals start 3);
        goes_first = λ i choice. goes c.globals i bytes n 0 start choice (omega arith) first (omega arith);
        goes_second = λ i choice. goes (after c.globals start 1) i (bytes + 4) (suc n) 1 (suc start) choice (omega arith) second (omega arith);
        goes_third = λ i choice. goes (after c.globals start 2) i (bytes + 4 + 4) (suc (suc n)) 2 (suc (suc start)) choice (omega arith) third (omega arith);
        one_far = (refl, refl);
        two_far = (refl, refl);
        all_far = (refl, refl);
        same_pages = refl;
        related = related_now zeroth at_cell (inr (inl row));
        like = like_same source c.frames;
        above = λ m least. refl;
        value = λ j below. refl;
        stays = moved zeroth at_cell (inr (inl row)) c.active.slots (after c.globals start 3) c.frames
            (data_assigned_global shared.tables source g c.active.base w.objects (written w object 0 cell v).objects e.locals (callers k) c.active.slots c.globals (after c.globals start 3) c.frames object (record { kind = cell.cell.kind; value = v }) room
            (holds_now zeroth at_cell (inr (inl row))) (beside zeroth at_cell (inr (inl row))) (long zeroth at_cell (inr (inl row)))
            (each_is shared.tables (record { kind = cell.cell.kind; value = v }) slots c.globals 3 n start three fat_value) (char_now zeroth at_cell (inr (inl row))) elsewhere facts.0);
      }

  -- The written cell is a local of the running call: the stored words do not overlap the written slots, or
  -- they are the words in these slots.
  module _ (number : ℕ) (inside : number < length (types_at source g).locals) (room : HasRoom (types_at source g) number kinds.Fat) where
    abbrev own : ℕ
    own = slot_of (starts_at source g) number

    still : (many : ℕ) → many ≤ 3 → (j : ℕ) → j < 3 → after slots own many (n + j) ≡ slots (n + j)
    still many few j below = elim standing [
      | inl high ↦ each-outside slots slots many n own (n + j) (inr (omega (arith, high, few, slot-room (types_at source g) number inside, room)))
      | inr (other, there, start, wide) ↦ elim (cases_eq other number) [
        | inl same ↦
            let at_own : own ≡ n = ap (slot_of (starts_at source g)) (sym same) ∙ start in
            elim (cases_lt j many) [
              | inl less ↦ ap (λ m. after slots own many (m + j)) (sym at_own) ∙ each-inside slots slots many n own j less
              | inr most ↦ each-outside slots slots many n own (n + j) (inr (omega (arith, at_own, most)))
            ]
        | inr apart ↦ elim (slot-apart (types_at source g) other number there inside apart) [
          | inl before ↦ each-outside slots slots many n own (n + j) (inl (omega (arith, before, start, wide, below)))
          | inr following ↦ each-outside slots slots many n own (n + j) (inr (omega (arith, following, start, room, few)))
        ]
      ]
    ]

    high_still : (many : ℕ) → many ≤ 3 → (m : ℕ) → base_of source g ≤ m → after slots own many m ≡ slots m
    high_still many few m least = each-outside slots slots many n own m (inr (omega (arith, least, few, slot-room (types_at source g) number inside, room)))

  in_local : (number : ℕ) → e.locals number ≡ Some object → slice_get cell.object.cells offset ≡ Some cell.cell → IsSaved
  in_local number here at_cell =
      let hold = facts.0.2 in
      let r = hold.rows number object here in
      let row = local-row globals_of_source r in
      let place = local-pointer r points in
      let inside = (hold.within number object here).0 in
      let kind = local-kind r points (cell_kind shared.related cell points found) in
      let room : HasRoom (types_at source g) number kinds.Fat = subst (HasRoom (types_at source g) number) (kind ∙ fat) r.room in
      let whole : variable_bytes r.kind ≡ 0 = ap variable_bytes (kind ∙ fat) in
      let start = slot_of (starts_at source g) number in
      let with_slots_now : Words → Parts = λ now. record { store = c.store; globals = c.globals; slots = now; frames = c.frames } in
      let elsewhere : (m : ℕ) → Outside start (words_of_kind cell.cell.kind) m → after slots start 3 m ≡ slots m = λ m out. each-outside slots slots 3 n start m (subst (λ x. Outside start x m) three out) in
      let goes : (many i more j : ℕ) (choice : Choice) → many ≤ 3 → j < 3 → add_of (slots a) more ≡ address + 4 * j
      → performed lowered choice (stage c (with_slots_now (after slots start many)) i) (instructions.Store (operands.Slot a) more (operands.Slot (n + j)))
      ≡ plain.Running (stage c (with_slots_now (plain.put (after slots start many) (start + j) (slots (n + j)))) (i + 1))
      = λ many i more j choice few below same.
      let d = stage c (with_slots_now (after slots start many)) i in
      let pinned = names.whole g number j inside (omega (arith, room, below)) place.pinned in
      ap (λ y. saves lowered d (add_of y more) (after slots start many (n + j)) (memory_at lowered d (add_of y more))) (high_still number inside room many few a temporary)
      ∙ (ap (λ y. saves lowered d (add_of (slots a) more) y (memory_at lowered d (add_of (slots a) more))) (still number inside room many few j below)
      ∙ (ap (λ y. saves lowered d y (slots (n + j)) (memory_at lowered d y)) (same ∙ (let z : address + 4 * j ≡ c.active.base + 4 * (start + j) = omega (arith, place.at, whole) in z))
      ∙ (ap (saves lowered d (c.active.base + 4 * (start + j)) (slots (n + j))) (memory-active lowered names.well d names.lie (start + j) pinned)
      ∙ ap (λ (x : Configuration). plain.Running (advanced x)) (written-active lowered names.well d names.lie (start + j) (slots (n + j)) pinned)))) in
      let step_to : (many i more j from x : ℕ) (choice : Choice) → many ≤ 3 → j < 3 → add_of (slots a) more ≡ address + 4 * j → n + j ≡ from → start + j ≡ x
      → performed lowered choice (stage c (with_slots_now (after slots start many)) i) (instructions.Store (operands.Slot a) more (operands.Slot from))
      ≡ plain.Running (stage c (with_slots_now (plain.put (after slots start many) x (slots from))) (i + 1))
      = λ many i more j from x choice few below same from_is x_is.
      subst (λ y. performed lowered choice (stage c (with_slots_now (after slots start many)) i) (instructions.Store (operands.Slot a) more (operands.Slot from)) ≡ plain.Running (stage c (with_slots_now (plain.put (after slots start many) y (slots from))) (i + 1))) x_is
      (subst (λ y. performed lowered choice (stage c (with_slots_now (after slots start many)) i) (instructions.Store (operands.Slot a) more (operands.Slot y)) ≡ plain.Running (stage c (with_slots_now (plain.put (after slots start many) (start + j) (slots y))) (i + 1))) from_is
      (goes many i more j choice few below same)) in
      record {
        one = with_slots_now (after slots start 1);
        two = with_slots_now (after slots start 2);
        all = with_slots_now (after slots start 3);
        goes_first = λ i choice. step_to 0 i bytes 0 n start choice (omega arith) (omega arith) first (omega arith) (omega arith);
        goes_second = λ i choice. step_to 1 i (bytes + 4) 1 (suc n) (suc start) choice (omega arith) (omega arith) second (omega arith) (omega arith);
        goes_third = λ i choice. step_to 2 i (bytes + 4 + 4) 2 (suc (suc n)) (suc (suc start)) choice (omega arith) (omega arith) third (omega arith) (omega arith);
        one_far = (refl, refl);
        two_far = (refl, refl);
        all_far = (refl, refl);
        same_pages = refl;
        related = related_now place.first at_cell row;
        like = like_same source c.frames;
        above = λ m least. high_still number inside room 3 (omega arith) m least;
        value = λ j below. still number inside room 3 (omega arith) j below;
        stays = moved place.first at_cell row (after slots start 3) c.globals c.frames
            (data_assigned shared.tables source g c.active.base w.objects (written w object 0 cell v).objects e.locals (callers k) slots (after slots start 3) c.globals c.frames number object (record { kind = cell.cell.kind; value = v }) here
            (holds_now place.first at_cell row) (beside place.first at_cell row) (long place.first at_cell row) (subst (HasRoom (types_at source g) number) kind r.room)
            (each_is shared.tables (record { kind = cell.cell.kind; value = v }) slots slots 3 n start three fat_value) (char_now place.first at_cell row) elsewhere facts.0);
      }

  in_waiting : (i number : ℕ) (x : Waiting) → slice_get (callers k) i ≡ Some x → x.locals number ≡ Some object → slice_get cell.object.cells offset ≡ Some cell.cell → IsSaved
  in_waiting i number x waits here at_cell =
      let frame = frame_at shared.tables source w.objects facts.0.0 c.frames (callers k) i x facts.0.3 waits in
      let f = frame.frame in
      let h = f.caller.function in
      let hold = frame.holds in
      let r = hold.rows number object here in
      let row = local-row globals_of_source r in
      let place = local-pointer r points in
      let inside = (hold.within number object here).0 in
      let kind = local-kind r points (cell_kind shared.related cell points found) in
      let room : HasRoom (types_at source h) number kinds.Fat = subst (HasRoom (types_at source h) number) (kind ∙ fat) r.room in
      let whole : variable_bytes r.kind ≡ 0 = ap variable_bytes (kind ∙ fat) in
      let start = slot_of (starts_at source h) number in
      let bound = slot-room (types_at source h) number inside in
      let old = f.caller.slots in
      let elsewhere : (m : ℕ) → Outside start (words_of_kind cell.cell.kind) m → after old start 3 m ≡ old m = λ m out. each-outside slots old 3 n start m (subst (λ x. Outside start x m) three out) in
      let written_in : Words → Parts = λ now. record { store = c.store; globals = c.globals; slots = c.active.slots; frames = set c.frames i (with_slots_of f now) } in
      let goes : (now : Words) (q more j from y : ℕ) (choice : Choice) → j < 3 → add_of (slots a) more ≡ address + 4 * j → start + j ≡ y
      → performed lowered choice (stage c (written_in now) q) (instructions.Store (operands.Slot a) more (operands.Slot from)) ≡ plain.Running (stage c (written_in (plain.put now y (slots from))) (q + 1))
      = λ now q more j from y choice below same y_is.
      let d = stage c (written_in now) q in
      let fd = with_slots_of f now in
      let lie = below_set lowered g c.active.base c.frames i f now frame.at names.lie in
      let at_d = frame_set_at c.frames i f fd frame.at in
      let pinned = subst (λ z. is_pinned (code_of source h) z ≡ true) y_is (names.whole h number j inside (omega (arith, room, below)) place.pinned) in
      ap (λ z. saves lowered d z (slots from) (memory_at lowered d z)) (same ∙ (let z : address + 4 * j ≡ f.caller.base + 4 * y = omega (arith, place.at, whole, y_is) in z))
      ∙ (ap (saves lowered d (f.caller.base + 4 * y) (slots from)) (memory-waiting lowered names.well d lie i fd at_d y pinned)
      ∙ (ap (λ (z : Configuration). plain.Running (advanced z)) (written-waiting_at lowered names.well d lie i fd at_d y (slots from) pinned)
      ∙ ap (λ (fs : List Frame). plain.Running (stage c (record { store = c.store; globals = c.globals; slots = c.active.slots; frames = fs }) (q + 1))) (set_again c.frames i fd (with_slots_of f (plain.put now y (slots from)))))) in
      let begins : Goes (parts_of c) (written_in (after old start 1)) bytes n
      = λ q choice.
      ap (λ z. saves lowered (stage c (parts_of c) q) z (slots n) (memory_at lowered (stage c (parts_of c) q) z)) (first ∙ (let z : address + 4 * 0 ≡ f.caller.base + 4 * start = omega (arith, place.at, whole) in z))
      ∙ (ap (saves lowered (stage c (parts_of c) q) (f.caller.base + 4 * start) (slots n)) (memory-waiting lowered names.well (stage c (parts_of c) q) names.lie i f frame.at start place.pinned)
      ∙ ap (λ (z : Configuration). plain.Running (advanced z)) (written-waiting_at lowered names.well (stage c (parts_of c) q) names.lie i f frame.at start (slots n) place.pinned)) in
      let far : (now : Words) → length (set c.frames i (with_slots_of f now)) ≡ length c.frames = λ now. length-set c.frames i (with_slots_of f now) in
      record {
        one = written_in (after old start 1);
        two = written_in (after old start 2);
        all = written_in (after old start 3);
        goes_first = begins;
        goes_second = λ q choice. goes (after old start 1) q (bytes + 4) 1 (suc n) (suc start) choice (omega arith) second (omega arith);
        goes_third = λ q choice. goes (after old start 2) q (bytes + 4 + 4) 2 (suc (suc n)) (suc (suc start)) choice (omega arith) third (omega arith);
        one_far = (refl, far (after old start 1));
        two_far = (refl, far (after old start 2) ∙ sym (far (after old start 1)));
        all_far = (refl, far (after old start 3) ∙ sym (far (after old start 2)));
        same_pages = refl;
        related = related_now place.first at_cell row;
        like = like_slots source c.frames i f (after old start 3) frame.at (λ m least. elsewhere m (inr (omega (arith, least, bound, room, three))));
        above = λ m least. refl;
        value = λ j below. refl;
        stays = moved place.first at_cell row c.active.slots c.globals (set c.frames i (with_slots_of f (after old start 3)))
            (data_assigned_waiting shared.tables source w.objects (written w object 0 cell v).objects f x number object (record { kind = cell.cell.kind; value = v }) (after old start 3) here
            (holds_now place.first at_cell row) (beside place.first at_cell row) (subst (HasRoom (types_at source h) number) kind r.room)
            (each_is shared.tables (record { kind = cell.cell.kind; value = v }) slots old 3 n start three fat_value) (char_now place.first at_cell row) elsewhere (callers_least k (scopes_of source) i x waits)
            g c.active.base e.locals (callers k) c.active.slots c.globals c.frames i (long place.first at_cell row) frame.at waits facts.0);
      }

  pub is_saved : IsSaved
  is_saved =
      let (lies, at_cell) = leads source names shared.related object offset cell found in
      by lies at_cell
    where
      by : Leads source shared.tables w e.locals (callers k) object cell.object → slice_get cell.object.cells offset ≡ Some cell.cell → IsSaved
      by (to_store h alive) at_cell = in_store h alive at_cell
      by (to_variable (is_global few)) at_cell = in_globals few at_cell
      by (to_variable (is_local number here)) at_cell = in_local number here at_cell
      by (to_variable (is_waiting i number x waits here)) at_cell = in_waiting i number x waits here at_cell

  abbrev pub one_stored : Configuration
  one_stored = stage c is_saved.one (p + 1)

  abbrev pub two_stored : Configuration
  two_stored = stage c is_saved.two (p + 1 + 1)

  abbrev pub stored : Configuration
  stored = stage c is_saved.all (p + 1 + 1 + 1)

  abbrev pub store_links : List Link
  store_links =
      record { instruction = instructions.Store (operands.Slot a) bytes (operands.Slot n); following = one_stored }
      ∷ record { instruction = instructions.Store (operands.Slot a) (bytes + 4) (operands.Slot (suc n)); following = two_stored }
      ∷ []

  pub store_path : At (code_of source c.active.function) p (instructions.Store (operands.Slot a) bytes (operands.Slot n))
      → At (code_of source c.active.function) (p + 1) (instructions.Store (operands.Slot a) (bytes + 4) (operands.Slot (suc n))) → IsPath source c store_links
  store_path at_first at_second = (
    at_first,
    (λ choice. is_saved.goes_first p choice),
    omega arith,
    stage_quiet c (parts_of c) is_saved.one p (p + 1) is_saved.one_far,
    (at_second, (λ choice. is_saved.goes_second (p + 1) choice), omega arith, stage_quiet c is_saved.one is_saved.two (p + 1) (p + 1 + 1) is_saved.two_far, tt),
  )

  pub store_last : (choice : Choice) → performed (lower_program source) choice two_stored (instructions.Store (operands.Slot a) (bytes + 4 + 4) (operands.Slot (suc (suc n)))) ≡ plain.Running stored
  store_last choice = is_saved.goes_third (p + 1 + 1) choice

  -- the three stores
  abbrev pub all_links : List Link
  all_links =
      record { instruction = instructions.Store (operands.Slot a) bytes (operands.Slot n); following = one_stored }
      ∷ record { instruction = instructions.Store (operands.Slot a) (bytes + 4) (operands.Slot (suc n)); following = two_stored }
      ∷ record { instruction = instructions.Store (operands.Slot a) (bytes + 4 + 4) (operands.Slot (suc (suc n))); following = stored }
      ∷ []

  pub all_path : At (code_of source c.active.function) p (instructions.Store (operands.Slot a) bytes (operands.Slot n))
      → At (code_of source c.active.function) (p + 1) (instructions.Store (operands.Slot a) (bytes + 4) (operands.Slot (suc n)))
      → At (code_of source c.active.function) (p + 1 + 1) (instructions.Store (operands.Slot a) (bytes + 4 + 4) (operands.Slot (suc (suc n)))) → IsPath source c all_links
  all_path at_first at_second at_third =
      let (here, leads, on, quiet, (following, leads_on, further, quiet_too, none)) = store_path at_first at_second in (
        here,
        leads,
        on,
        quiet,
        (following, leads_on, further, quiet_too, (at_third, (λ choice. store_last choice), omega arith, stage_quiet c is_saved.two is_saved.all (p + 1 + 1) (p + 1 + 1 + 1) is_saved.all_far, tt)),
      )

  pub frames_stored : Like source c.frames stored.frames
  frames_stored = is_saved.like

  pub above_stored : (m : ℕ) → base_of source c.active.function ≤ m → stored.active.slots m ≡ c.active.slots m
  above_stored = is_saved.above

  -- After a value is stored in a cell, the slots from which it was stored still hold the value.
  pub value_stays : (j : ℕ) → j < 3 → stored.active.slots (n + j) ≡ c.active.slots (n + j)
  value_stays = is_saved.value

  -- After the three stores of a fat pointer's words, the invariant that source run and lowered run share still
  -- holds with the same tables of objects. The facts about the data of all calls hold after these stores as well.
  abbrev pub shared_stored : SharedAt source pages calls k e next stored
  shared_stored = record {
    tables = shared.tables;
    same_output = shared.same_output;
    same_input = shared.same_input;
    same_pages = is_saved.same_pages ∙ shared.same_pages;
    related = is_saved.related;
    globals = shared.globals;
    variables = shared.variables;
    few_pages = subst (λ x. x ≤ pages) (sym (is_saved.all_far.0 ∙ (is_saved.two_far.0 ∙ is_saved.one_far.0))) shared.few_pages;
    fits = subst (λ x. suc x ≤ calls) (sym (like_long source c.frames is_saved.all.frames is_saved.like)) shared.fits;
    counters = shared.counters;
  }

  pub data_stored : DataIn source shared.tables stored.active.slots k e next stored
  data_stored = (
    is_saved.stays,
    handlers_move source g is_saved.all.slots c.active.handlers c.frames is_saved.all.frames is_saved.like k
        (handlers_same source g c.active.slots is_saved.all.slots c.active.handlers c.frames k (λ m from to. is_saved.above m from) facts.1),
  )
