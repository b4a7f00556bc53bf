-- This file is about the targets of pointers. Each object with an address is an object of the heap store or a global, and
-- its words are consecutive from one address on.
use Rattle.std.proofs.Common.{◌≡◌, ℕ, ◌+◌, ◌*◌, ◌<◌, ◌≤◌, List, [], ◌∷◌, length, Some, sym, ap, subst, ◌∙◌, inl, inr, arith}
use Rattle.std.specs.Prelude.{◌⊎◌, slice_get, unwrap_or, ◌%◌, ◌^◌}
use Rattle.cyc_types.specs.declared.typed.Kind.{Kind}
use Rattle.cyc_types.specs.Types.{Ty}
use Rattle.cyc_store.specs.State.{StoreState, homes, room}
use Rattle.cyc_store.specs.declared.range.TheConstants.{STORE_BASE}
use Rattle.cyc_plain.specs.declared.limits.TheConstants.{GLOBALS_BASE}
use Rattle.cyc_meaning.specs.Values.{words_of_kind, bytes_of_kind, begins, block_size}
use Rattle.cyc_meaning.specs.State.{Object, World}
use Rattle.cyc_memory_relation.specs.inside.Tables.{Variable, Placed, Tables, Grows}
use Rattle.cyc_memory_relation.specs.inside.Words.{bytes_of_kinds, before, Points}
use Rattle.cyc_memory_relation.specs.inside.Related.{Alive, Stands, Related}
use Rattle.cyc_memory_relation.proofs.Places.{bytes-some, begins-first, before-first}
use Rattle.cyc_memory_relation.proofs.Pointers.{same-row}
use Rattle.cyc_memory_relation.proofs.Cells.{variable-alone}
use Rattle.cyc_plain.specs.inside.Memory.{slots_base}
use Rattle.cyc_lower_proof.specs.inside.Slots.{starts_from}
use Rattle.cyc_lower_proof.proofs.slots.Widths.{words_in, kind_in}
use Rattle.cyc_lower_proof.proofs.slots.CellBytes.{kind_bytes}
use Rattle.cyc_words.specs.Word.{add_of, mul_of}
use Rattle.cyc_words.proofs.Options.{same_from_some}
use Rattle.cyc_words.proofs.Items.{below_from_slice_get}
use Rattle.cyc_lower_proof.specs.inside.ValueCode.{address_of_global, variable_bytes}

-- The index of the first word of a global among the words of all globals, given the types of all globals.
abbrev pub first_word : List Ty → (number : ℕ) → ℕ
first_word globals number = unwrap_or (slice_get (starts_from 0 globals) number) 0

-- The row of a global in the table of objects; the words of the global end before the heap store begins.
pub record IsGlobalRow (t : Tables) (globals : List Ty) (number : ℕ) : Type 0 where
  pub kind : Kind
  pub row : slice_get t.rows number ≡ Some (Placed (GLOBALS_BASE + 4 * first_word globals number + variable_bytes kind) (kind ∷ []))
  pub room : words_of_kind kind ≤ words_in globals number
  pub of_type : kind_in globals number ≡ kind
  pub low : GLOBALS_BASE + 4 * (first_word globals number + words_of_kind kind) ≤ STORE_BASE

pub global-row_grows : (t u : Tables) → Grows t u → (globals : List Ty) (number : ℕ) → IsGlobalRow t globals number → IsGlobalRow u globals number
global-row_grows t u grows globals number r = record { kind = r.kind; row = grows.rows number (Placed (GLOBALS_BASE + 4 * first_word globals number + variable_bytes r.kind) (r.kind ∷ [])) r.row; room = r.room; of_type = r.of_type; low = r.low }

-- The row, in the table of objects, of a variable that is in a slot, at a higher address than the heap store.
pub record IsSlotRow (t : Tables) (number : ℕ) : Type 0 where
  pub address : ℕ
  pub kind : Kind
  pub row : slice_get t.rows number ≡ Some (Placed address (kind ∷ []))
  pub following : slots_base ≤ address

-- Says that a row of the table of objects is that of a variable: a global, a local, or a variable without an address.
abbrev pub IsVariableRow : Tables → (globals : List Ty) → (number : ℕ) → Type 0
IsVariableRow t globals number = (slice_get t.rows number ≡ Some Variable) ⊎ (IsGlobalRow t globals number ⊎ IsSlotRow t number)

module _ {t : Tables} {w : World} {s : StoreState} (related : Related t w s) (globals : List Ty) where
  -- An object whose row in the table of objects is that of a variable has been created.
  pub row-made_there : (number : ℕ) → IsVariableRow t globals number → number < length w.objects
  row-made_there number (inl row) = subst (λ n. number < n) related.rows (below_from_slice_get t.rows number Variable row)
  row-made_there number (inr (inr r)) = subst (λ n. number < n) related.rows (below_from_slice_get t.rows number (Placed r.address (r.kind ∷ [])) r.row)
  row-made_there number (inr (inl r)) = subst (λ n. number < n) related.rows (below_from_slice_get t.rows number (Placed (GLOBALS_BASE + 4 * first_word globals number + variable_bytes r.kind) (r.kind ∷ [])) r.row)

  -- The object of a variable is not an object of the heap store.
  pub row-away : (number h : ℕ) (x : Object) → IsVariableRow t globals number → Alive t w number h x → ⊥
  row-away number h x (inl row) alive = variable-alone related number h x row alive
  row-away number h x (inr (inr r)) alive =
      let st : Stands t (homes s) s.memory h number x.cells = related.objects number h x alive in
      let placed = related.sound.regions.placed h st.address (record { address = st.address; size = room h (block_size x.cells) }) st.found in
      let high : st.address + 4 * room h (block_size x.cells) ≤ 536870912 + 4 * (1024 * s.pages) = placed.high in
      let (address, kinds) = same-row r.row st.row in
      let enough : begins r.kind 0 + bytes_of_kind r.kind ≤ 4 * room h (block_size x.cells) = subst (λ ks. bytes_of_kinds ks ≤ 4 * room h (block_size x.cells)) (sym kinds) st.enough in
      let most : s.pages ≤ 65536 = related.few in
      let following : 536870912 + 4 * (1024 * 65536) ≤ r.address = r.following in
      omega (arith, high, address, enough, most, following, bytes-some r.kind)
  row-away number h x (inr (inl r)) alive =
      let st : Stands t (homes s) s.memory h number x.cells = related.objects number h x alive in
      let placed = related.sound.regions.placed h st.address (record { address = st.address; size = room h (block_size x.cells) }) st.found in
      let low : 536870912 ≤ st.address = placed.low in
      let (address, kinds) = same-row r.row st.row in
      let short : 268435456 + 4 * (first_word globals number + words_of_kind r.kind) ≤ 536870912 = r.low in
      omega (arith, low, address, short, kind_bytes r.kind, bytes-some r.kind)

-- A pointer to a global is the address of the global's first word or, if the global is a char, of the last byte of its word.
pub global-first : {t : Tables} (globals : List Ty) (number offset word : ℕ) (r : IsGlobalRow t globals number) → Points t number offset word
    → (offset ≡ 0) × (word ≡ GLOBALS_BASE + 4 * first_word globals number + variable_bytes r.kind)
global-first {t} globals number offset word r points =
    let (address, kinds) = same-row points.row r.row in
    let inside : offset < length (r.kind ∷ []) = subst (λ ks. offset < length ks) kinds points.inside in
    let first : offset ≡ 0 = omega (arith, inside) in
    (first, points.at ∙ (ap (λ n. points.address + before n points.kinds) first ∙ omega (arith, address, before-first points.kinds)))

pub global_points : {t : Tables} (globals : List Ty) (number : ℕ) (r : IsGlobalRow t globals number) → Points t number 0 (GLOBALS_BASE + 4 * first_word globals number + variable_bytes r.kind)
global_points {t} globals number r = record {
  address = GLOBALS_BASE + 4 * first_word globals number + variable_bytes r.kind;
  kinds = r.kind ∷ [];
  row = r.row;
  range = record { low = omega arith; high = let short : GLOBALS_BASE + 4 * (first_word globals number + words_of_kind r.kind) ≤ 536870912 = r.low in omega (arith, short, begins-first r.kind, kind_bytes r.kind) };
  inside = omega arith;
  at = omega (arith, begins-first r.kind);
}

-- The address of a global fits in a 32-bit word.
pub global_address : {t : Tables} (globals : List Ty) (number : ℕ) (r : IsGlobalRow t globals number)
    → address_of_global r.kind (first_word globals number) ≡ GLOBALS_BASE + 4 * first_word globals number + variable_bytes r.kind
global_address {t} globals number r =
    let short : GLOBALS_BASE + 4 * (first_word globals number + words_of_kind r.kind) ≤ 536870912 = r.low in
    let small : first_word globals number % 2 ^ 32 ≡ first_word globals number = omega (arith, short) in
    let product : mul_of (first_word globals number) 4 ≡ first_word globals number * 4 = omega (arith, short) in
    let first : add_of GLOBALS_BASE (mul_of (first_word globals number % 2 ^ 32) 4) ≡ GLOBALS_BASE + 4 * first_word globals number
    = ap (λ n. add_of GLOBALS_BASE (mul_of n 4)) small ∙ (ap (add_of GLOBALS_BASE) product ∙ omega (arith, short)) in
    ap (λ n. add_of n (variable_bytes r.kind)) first ∙ omega (arith, short, kind_bytes r.kind)

-- The row of a global in the table of objects has the representation kind (int, char, pointer, ..) of the global's cell.
pub global_kind : {t : Tables} {globals : List Ty} {number offset word : ℕ} (r : IsGlobalRow t globals number) (points : Points t number offset word) {kind : Kind} → slice_get points.kinds offset ≡ Some kind → r.kind ≡ kind
global_kind {t} {globals} {number} {offset} {word} r points {kind} there =
    let (address, kinds) = same-row points.row r.row in
    let start = (global-first globals number offset word r points).0 in
    same_from_some (sym (ap (slice_get (r.kind ∷ [])) start) ∙ (sym (ap (λ ks. slice_get ks offset) kinds) ∙ there))
