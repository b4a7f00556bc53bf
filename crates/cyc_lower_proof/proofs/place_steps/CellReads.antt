-- This file is about the value stored in a cell at an address: the cell is a cell of the heap store, a global, or a local of an
-- active call.
use Rattle.std.proofs.Common.{◌≡◌, ℕ, ◌+◌, ◌*◌, ◌<◌, List, length, Option, None, Some, refl, sym, ap, subst, ◌∙◌, arith, false, inl, inr, ◌%◌, [], ◌∷◌}
use Rattle.std.specs.Prelude.{slice_get, option_map}
use Rattle.std.proofs.lemmas.Option.{none-some, same_Some}
use Rattle.cyc_words.specs.Word.{add_of}
use Rattle.cyc_types.specs.declared.typed.Kind.{Kind}
use Rattle.cyc_types.specs.Types.{Ty}
use Rattle.cyc_types.specs.TypedTrees.{Program}
use Rattle.cyc_store.specs.State.{StoreState}
use Rattle.cyc_plain.specs.declared.limits.TheConstants.{GLOBALS_BASE}
use Rattle.cyc_plain.specs.inside.State.{Words, Configuration}
use Rattle.cyc_plain.specs.inside.Step.{at, with_slots}
use Rattle.cyc_plain.specs.inside.Memory.{memory_at}
use Rattle.cyc_plain.proofs.MemoryLaws.{memory-stored, memory-active, memory-waiting}
use Rattle.cyc_meaning.specs.Values.{Value, words_of_kind, is_kind}
use Rattle.cyc_meaning.specs.State.{World, Found, Located, cell_at}
use Rattle.cyc_meaning.specs.FrameCount.{words_of_all}
use Rattle.cyc_meaning.proofs.WorldLaws.{cell_found}
use Rattle.cyc_memory_relation.specs.inside.Tables.{Tables, Placed}
use Rattle.cyc_memory_relation.specs.inside.Words.{words_from, Points, Is, IsContent, byte_at, Holds}
use Rattle.cyc_memory_relation.specs.inside.Related as objects
use Rattle.cyc_memory_relation.specs.inside.Related.{Alive}
use Rattle.cyc_memory_relation.proofs.Cells.{cell-read}
use Rattle.cyc_memory_relation.proofs.Values.{Is-same, Holds-words}
use Rattle.cyc_lower_proof.specs.inside.Slots.{slot_of, global_types}
use Rattle.cyc_lower_proof.specs.inside.Lowering.{lower_program}
use Rattle.cyc_lower_proof.proofs.slots.Widths.{HasRoom}
use Rattle.cyc_lower_proof.proofs.slots.Slots.{slot-room, global-room, global_words_counted}
use Rattle.cyc_lower_proof.proofs.relation.places.Known.{global-first, global_kind, first_word}
use Rattle.cyc_lower_proof.proofs.relation.contents.HeldValues.{Waiting, contents, content_of, content_of_cell, with_kind}
use Rattle.cyc_lower_proof.proofs.relation.simulation.Stacks.{DataAt, types_at, starts_at, base_of}
use Rattle.cyc_lower_proof.proofs.relation.simulation.Shared.{silent}
use Rattle.cyc_lower_proof.proofs.relation.places.Rows.{local-pointer, local-kind, char_there}
use Rattle.cyc_lower_proof.proofs.relation.contents.WaitingData.{frame_at}
use Rattle.cyc_lower_proof.proofs.relation.places.Leads.{IsNamed, is_global, is_local, is_waiting, AreNamed, Leads, to_store, to_variable, leads}
use Rattle.cyc_lower_proof.proofs.place_steps.PlaceWords.{cell_kind, word_is}
use Rattle.cyc_lower_proof.proofs.place_steps.StoredWords.{cell-stored, global-found, byte-stored}
use Rattle.std.proofs.lemmas.Bool.{cases_Bool}
use Rattle.cyc_words.specs.Bytes.{byte_in, word_of}
use Rattle.cyc_memory_relation.proofs.Chars.{char-loaded, char-kind}
use Rattle.cyc_lower_proof.proofs.place_steps.KindWords.{loaded_at, loaded_wide, loaded_variable, slot_even, waiting_even}
use Rattle.cyc_lower_proof.specs.inside.ValueCode.{variable_bytes}
use Rattle.cyc_types.specs.declared.typed.Kind.TheVariants as kinds

-- If the object of a variable is found in the heap state, then the object's only cell contains the value that the source run reads.
pub held_there : (w : World) (object : ℕ) (at : Located) (kind : Kind) (v : Value) → cell_at w object 0 ≡ Found at → at.cell.kind ≡ kind → at.cell.content ≡ Some v
    → contents w.objects object ≡ Some (record { kind = kind; value = v })
held_there w object at kind v found same has =
    let (object_there, cell_there) = cell_found w object 0 at found in
    ap content_of object_there ∙ ap content_of_cell cell_there ∙ ap (with_kind at.cell.kind) has ∙ ap (λ (i : Kind). with_kind i (Some v)) same

-- The words of each global exist in the lowered program.
pub globals_long : (source : Program) (number : ℕ) → number < words_of_all (global_types source.globals) → number < length (lower_program source).globals
globals_long source number few =
    omega (arith, few, global_words_counted source.globals)

-- Says that the slots of a local's words are equal in two maps from slots to words.
abbrev pub AreSame : (here : Option ℕ) → (words : ℕ) → (old new : Words) → Type 0
AreSame here words old new = (slot j : ℕ) → here ≡ Some slot → j < words → new (slot + j) ≡ old (slot + j)

-- Says that the slot `here`, if it exists, is the first slot of a local of the running call. This local has enough slots for
-- a value of the representation kind `kind` (int, char, pointer, ..).
abbrev pub IsOwn : Program → (g : ℕ) → Kind → (here : Option ℕ) → Type 0
IsOwn source g kind here = (slot : ℕ) → here ≡ Some slot → (number : ℕ) × (slot_of (starts_at source g) number ≡ slot) × (number < length (types_at source g).locals) × HasRoom (types_at source g) number kind

-- The words of the cell to which a pointer points are at the cell's address and represent the value stored in the cell. If the cell
-- is a local of the running call, then the slots of this local still have these words.
pub record IsRead (source : Program) (t : Tables) (c : Configuration) (address : ℕ) (kind : Kind) (content : Option Value) : Type 0 where
  pub word : ℕ → ℕ
  pub here : Option ℕ
  pub own : IsOwn source c.active.function kind here
  pub stays : (slot j : ℕ) → here ≡ Some slot → word j ≡ c.active.slots (slot + j)
  pub there : (slots : Words) (next j : ℕ) → AreSame here (words_of_kind kind) c.active.slots slots → j < words_of_kind kind
      → loaded_at (lower_program source) kind (at (with_slots c slots) next) (address + 4 * j) ≡ Some (word j)
  pub is : (v : Value) → content ≡ Some v → Is t kind v word 0

module _ (source : Program) {t : Tables} {w : World} (c : Configuration) {locals : ℕ → Option ℕ} {outer : List Waiting} (related : objects.Related t (silent w) c.store)
    (names : AreNamed source locals outer w c.active.function c.active.base c.frames c.store)
    (facts : DataAt source t c.active.function c.active.base w.objects locals outer c.active.slots c.globals c.frames) where
  abbrev globals : List Ty
  globals = global_types source.globals

  abbrev g : ℕ
  g = c.active.function

  none-own : (kind : Kind) → IsOwn source g kind None
  none-own kind slot here = absurd (none-some slot here)

  -- A load through the address of a cell that is not a char yields the value stored in the cell.
  wide_stored : (object offset address h : ℕ) (at : Located) → is_kind at.cell.kind kinds.Char ≡ false → Points t object offset address → Alive t (silent w) object h at.object → slice_get at.object.cells offset ≡ Some at.cell
      → IsRead source t c address at.cell.kind at.cell.content
  wide_stored object offset address h cell wide points alive there = record {
    word = words_from c.store.memory address;
    here = None;
    own = none-own cell.cell.kind;
    stays = λ slot j here. absurd (none-some slot here);
    there = λ slots next j same below.
        loaded_wide (lower_program source) cell.cell.kind (at (with_slots c slots) next) (address + 4 * j) wide
        ∙ memory-stored (lower_program source) (at (with_slots c slots) next) (address + 4 * j) (c.store.memory (address + 4 * j)) (cell-stored related alive points there wide j below);
    is = λ v has.
        Holds-words t cell.cell.kind v c.store.memory address wide
        (subst (λ (x : Option Value). IsContent t cell.cell.kind x c.store.memory address) has (cell-read related alive points there));
  }

  -- A load through the address of a cell of type char yields the char stored in the cell.
  byte_stored : (object offset address h : ℕ) (at : Located) → at.cell.kind ≡ kinds.Char → Points t object offset address → Alive t (silent w) object h at.object → slice_get at.object.cells offset ≡ Some at.cell
      → IsRead source t c address at.cell.kind at.cell.content
  byte_stored object offset address h cell char points alive there =
      let word : ℕ = c.store.memory (word_of address) in
      record {
        word = λ j. byte_at c.store.memory address;
        here = None;
        own = none-own cell.cell.kind;
        stays = λ slot j here. absurd (none-some slot here);
        there = λ slots next j same below.
            let first : address + 4 * j ≡ address = omega (arith, below, ap words_of_kind char) in
            ap (λ (kind : Kind). loaded_at (lower_program source) kind (at (with_slots c slots) next) (address + 4 * j)) char
            ∙ ap (loaded_at (lower_program source) kinds.Char (at (with_slots c slots) next)) first
            ∙ ap (option_map (λ (n : ℕ). byte_in n (address % 4))) (memory-stored (lower_program source) (at (with_slots c slots) next) (word_of address) word (byte-stored related alive points there));
        is = λ v has.
            subst (λ (kind : Kind). Is t kind v (λ j. byte_at c.store.memory address) 0) (sym char)
            (char-loaded t v c.store.memory address
            (subst (λ (kind : Kind). Holds t kind v c.store.memory address) char
            (subst (λ (x : Option Value). IsContent t cell.cell.kind x c.store.memory address) has (cell-read related alive points there))));
      }

  read_stored : (object offset address h : ℕ) (at : Located) → Points t object offset address → Alive t (silent w) object h at.object → slice_get at.object.cells offset ≡ Some at.cell
      → IsRead source t c address at.cell.kind at.cell.content
  read_stored object offset address h cell points alive there = elim (cases_Bool (is_kind cell.cell.kind kinds.Char)) [
    | inl char ↦ byte_stored object offset address h cell (char-kind cell.cell.kind char) points alive there
    | inr wide ↦ wide_stored object offset address h cell wide points alive there
  ]

  -- If consecutive words from index `first` on represent a value, then these words with indices counted from 0 represent the value.
  in_row : (kind : Kind) (v : Value) (words : Words) (first : ℕ) → Is t kind v words first → Is t kind v (λ j. words (first + j)) 0
  in_row kind v words first is = Is-same t kind v words (λ j. words (first + j)) first 0 (λ i below. ap words (let e : first + (0 + i) ≡ first + i = omega arith in e)) is

  read_global : (object offset address : ℕ) (at : Located) → cell_at w object offset ≡ Found at → Points t object offset address → object < length globals → IsRead source t c address at.cell.kind at.cell.content
  read_global object offset address cell found points few =
      let (row, holds, small) = facts.4 object few in
      let first = first_word globals object in
      let (start, place) = global-first globals object offset address row points in
      let kind : row.kind ≡ cell.cell.kind = global_kind row points (cell_kind related cell points found) in
      let inside = global-room (types_at source g) object few in
      let start_at : ℕ = GLOBALS_BASE + 4 * first in
      let far : (j : ℕ) → start_at + 4 * j ≡ GLOBALS_BASE + 4 * (first + j) = λ j. omega arith in
      let low : row.kind ≡ kinds.Char → c.globals first < 256
      = λ char. small (start_at + variable_bytes row.kind, row.row ∙ ap (λ (i : Kind). Some (Placed (start_at + variable_bytes row.kind) (i ∷ []))) char) in
      let short : (j : ℕ) → j < words_of_kind cell.cell.kind → j < words_of_kind row.kind = λ j below. subst (λ i. j < words_of_kind i) (sym kind) below in
      record {
        word = λ j. c.globals (first + j);
        here = None;
        own = none-own cell.cell.kind;
        stays = λ slot j here. absurd (none-some slot here);
        there = λ slots next j same below.
            let d : Configuration = at (with_slots c slots) next in
            let few_words : j < words_of_kind row.kind = short j below in
            ap (λ (i : Kind). loaded_at (lower_program source) i d (address + 4 * j)) (sym kind)
            ∙ ap (λ (n : ℕ). loaded_at (lower_program source) row.kind d (n + 4 * j)) place
            ∙ loaded_variable (lower_program source) row.kind d start_at j (c.globals (first + j)) (omega arith) few_words
            (λ char. subst (λ (n : ℕ). c.globals n < 256) (let e : first ≡ first + j = omega (arith, few_words, ap words_of_kind char) in e) (low char))
            (ap (memory_at (lower_program source) d) (far j)
            ∙ global-found source d (first + j) (globals_long source (first + j) (omega (arith, inside, row.room, few_words))) (omega (arith, row.low, few_words)));
        is = λ v has.
            let (is, room) = holds (record { kind = cell.cell.kind; value = v }) (held_there w object cell cell.cell.kind v (subst (λ i. cell_at w object i ≡ Found cell) start found) refl has) in
            in_row cell.cell.kind v c.globals first is;
      }

  read_local : (object offset address number : ℕ) (at : Located) → cell_at w object offset ≡ Found at → Points t object offset address → locals number ≡ Some object → IsRead source t c address at.cell.kind at.cell.content
  read_local object offset address number cell found points is_there =
      let hold = facts.2 in
      let row = hold.rows number object is_there in
      let place = local-pointer row points in
      let inside = (hold.within number object is_there).0 in
      let kind : row.kind ≡ cell.cell.kind = local-kind row points (cell_kind related cell points found) in
      let room : HasRoom (types_at source g) number cell.cell.kind = subst (HasRoom (types_at source g) number) kind row.room in
      let slot = slot_of (starts_at source g) number in
      let start_at : ℕ = c.active.base + 4 * slot in
      let far : (j : ℕ) → start_at + 4 * j ≡ c.active.base + 4 * (slot + j) = λ j. omega arith in
      let low : row.kind ≡ kinds.Char → c.active.slots slot < 256 = λ char. hold.small number object is_there (char_there row points char) in
      record {
        word = λ j. c.active.slots (slot + j);
        here = Some slot;
        own = λ other here. (number, same_Some slot other here, inside, room);
        stays = λ other j here. ap (λ n. c.active.slots (n + j)) (same_Some slot other here);
        there = λ slots next j same below.
            let d : Configuration = at (with_slots c slots) next in
            let few_words : j < words_of_kind row.kind = subst (λ i. j < words_of_kind i) (sym kind) below in
            ap (λ (i : Kind). loaded_at (lower_program source) i d (address + 4 * j)) (sym kind)
            ∙ ap (λ (n : ℕ). loaded_at (lower_program source) row.kind d (n + 4 * j)) place.at
            ∙ loaded_variable (lower_program source) row.kind d start_at j (c.active.slots (slot + j)) (slot_even (lower_program source) g c.active.base c.frames slot names.lie) few_words
            (λ char. subst (λ (n : ℕ). c.active.slots n < 256) (let e : slot ≡ slot + j = omega (arith, few_words, ap words_of_kind char) in e) (low char))
            (ap (memory_at (lower_program source) d) (far j)
            ∙ memory-active (lower_program source) names.well d names.lie (slot + j) (names.whole g number j inside (omega (arith, below, room)) place.pinned)
            ∙ ap (λ n. Some n) (same slot j refl below));
        is = λ v has.
            let (is, room) = hold.holds number object (record { kind = cell.cell.kind; value = v }) is_there (held_there w object cell cell.cell.kind v (subst (λ i. cell_at w object i ≡ Found cell) place.first found) refl has) in
            in_row cell.cell.kind v c.active.slots slot is;
      }

  read_waiting : (object offset address i number : ℕ) (x : Waiting) (at : Located) → cell_at w object offset ≡ Found at → Points t object offset address → slice_get outer i ≡ Some x → x.locals number ≡ Some object
      → IsRead source t c address at.cell.kind at.cell.content
  read_waiting object offset address i number x cell found points waits is_there =
      let frame = frame_at t source w.objects facts.0 c.frames outer i x facts.3 waits in
      let f = frame.frame in
      let h = f.caller.function in
      let hold = frame.holds in
      let row = hold.rows number object is_there in
      let place = local-pointer row points in
      let inside = (hold.within number object is_there).0 in
      let kind : row.kind ≡ cell.cell.kind = local-kind row points (cell_kind related cell points found) in
      let room : HasRoom (types_at source h) number cell.cell.kind = subst (HasRoom (types_at source h) number) kind row.room in
      let slot = slot_of (starts_at source h) number in
      let start_at : ℕ = f.caller.base + 4 * slot in
      let far : (j : ℕ) → start_at + 4 * j ≡ f.caller.base + 4 * (slot + j) = λ j. omega arith in
      let low : row.kind ≡ kinds.Char → f.caller.slots slot < 256 = λ char. hold.small number object is_there (char_there row points char) in
      record {
        word = λ j. f.caller.slots (slot + j);
        here = None;
        own = none-own cell.cell.kind;
        stays = λ slot j here. absurd (none-some slot here);
        there = λ slots next j same below.
            let d : Configuration = at (with_slots c slots) next in
            let few_words : j < words_of_kind row.kind = subst (λ i. j < words_of_kind i) (sym kind) below in
            ap (λ (i : Kind). loaded_at (lower_program source) i d (address + 4 * j)) (sym kind)
            ∙ ap (λ (n : ℕ). loaded_at (lower_program source) row.kind d (n + 4 * j)) place.at
            ∙ loaded_variable (lower_program source) row.kind d start_at j (f.caller.slots (slot + j)) (waiting_even (lower_program source) g c.active.base c.frames i f slot names.lie frame.at) few_words
            (λ char. subst (λ (n : ℕ). f.caller.slots n < 256) (let e : slot ≡ slot + j = omega (arith, few_words, ap words_of_kind char) in e) (low char))
            (ap (memory_at (lower_program source) d) (far j)
            ∙ memory-waiting (lower_program source) names.well d names.lie i f frame.at (slot + j) (names.whole h number j inside (omega (arith, below, room)) place.pinned));
        is = λ v has.
            let (is, room) = hold.holds number object (record { kind = cell.cell.kind; value = v }) is_there (held_there w object cell cell.cell.kind v (subst (λ i. cell_at w object i ≡ Found cell) place.first found) refl has) in
            in_row cell.cell.kind v f.caller.slots slot is;
      }

  read_named : (object offset address : ℕ) (at : Located) → cell_at w object offset ≡ Found at → Points t object offset address → IsNamed (length globals) locals outer object → IsRead source t c address at.cell.kind at.cell.content
  read_named object offset address cell found points (is_global few) = read_global object offset address cell found points few
  read_named object offset address cell found points (is_local number there) = read_local object offset address number cell found points there
  read_named object offset address cell found points (is_waiting i number x waits there) = read_waiting object offset address i number x cell found points waits there

  pub cell_reads : (object offset address : ℕ) (at : Located) → cell_at w object offset ≡ Found at → Points t object offset address → IsRead source t c address at.cell.kind at.cell.content
  cell_reads object offset address cell found points =
      let (lies, there) = leads source names related object offset cell found in
      by lies there
    where
      by : Leads source t w locals outer object cell.object → slice_get cell.object.cells offset ≡ Some cell.cell → IsRead source t c address cell.cell.kind cell.cell.content
      by (to_store h alive) there = read_stored object offset address h cell points alive there
      by (to_variable named) there = read_named object offset address cell found points named

-- The words of a cell are at the addresses that the code computes.
pub read_there : (source : Program) {t : Tables} {w : World} {s : StoreState} (c : Configuration) → objects.Related t w s → {object offset address : ℕ} (cell : Located) → cell_at w object offset ≡ Found cell → Points t object offset address
    → (reads : IsRead source t c address cell.cell.kind cell.cell.content) → (slots : Words) (next j : ℕ) → AreSame reads.here (words_of_kind cell.cell.kind) c.active.slots slots → j < words_of_kind cell.cell.kind
    → loaded_at (lower_program source) cell.cell.kind (at (with_slots c slots) next) (add_of address (4 * j)) ≡ Some (reads.word j)
read_there source c related cell found points reads slots next j same below =
    ap (loaded_at (lower_program source) cell.cell.kind (at (with_slots c slots) next)) (word_is points cell.cell.kind j (cell_kind related cell points found) below)
    ∙ reads.there slots next j same below

-- If two maps from slots to words are equal below the temporaries, then they are equal in the words of each local.
pub low_same : (source : Program) (g : ℕ) (kind : Kind) (here : Option ℕ) (old new : Words) → IsOwn source g kind here → ((n : ℕ) → n < base_of source g → new n ≡ old n) → AreSame here (words_of_kind kind) old new
low_same source g kind here old new own low slot j is below =
    let (number, first, inside, room) = own slot is in
    low (slot + j) (omega (arith, first, slot-room (types_at source g) number inside, room, below))

-- A value of one word is represented by the word that the code loads.
module _ {source : Program} {t : Tables} {c : Configuration} {address : ℕ} {kind : Kind} {content : Option Value} (reads : IsRead source t c address kind content) (one : words_of_kind kind ≡ 1) where
  pub one_there : loaded_at (lower_program source) kind c address ≡ Some (reads.word 0)
  one_there = ap (loaded_at (lower_program source) kind c) (let first : address ≡ address + 4 * 0 = omega arith in first) ∙ reads.there c.active.slots c.active.next 0 (λ slot j here below. refl) (omega (arith, one))

  pub one_is : (v : Value) → content ≡ Some v → (slots : Words) (d : ℕ) → slots d ≡ reads.word 0 → Is t kind v slots d
  one_is v has slots d same =
      Is-same t kind v reads.word slots 0 d
      (λ i below.
      let at_d : d + i ≡ d = omega (arith, below, one) in
      let at_word : 0 ≡ 0 + i = omega (arith, below, one) in
      ap slots at_d ∙ same ∙ ap reads.word at_word)
      (reads.is v has)
