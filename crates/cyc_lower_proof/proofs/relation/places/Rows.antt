-- This file is about the rows of locals in the table of objects. If the code takes the address of a local, then the local
-- is at the address of its slots, which is higher than the store.
use Rattle.std.proofs.Common.{◌≡◌, ℕ, ◌+◌, ◌*◌, ◌<◌, ◌≤◌, Bool, true, false, List, [], ◌∷◌, length, Option, Some, refl, sym, ap, subst, ◌∙◌, inl, inr, arith}
use Rattle.std.specs.Prelude.{◌&&◌, nat_le, slice_get}
use Rattle.std.proofs.lemmas.Bool.{cond-true, cond-false, and_parts, and_from, leb-true, le-leb}
use Rattle.cyc_words.proofs.Options.{same_from_some}
use Rattle.cyc_words.proofs.Items.{slice_get-map}
use Rattle.cyc_types.specs.declared.typed.Kind.{Kind}
use Rattle.cyc_types.specs.Types.{Ty}
use Rattle.cyc_plain.specs.inside.Memory.{slots_base, slots_end, is_pinned}
use Rattle.cyc_meaning.specs.Values.{Value, words_of_kind, Operand, Cell, kinds_of}
use Rattle.cyc_meaning.specs.State.{variable, Object, World}
use Rattle.cyc_memory_relation.specs.inside.Tables.{Row, Variable, Placed, Tables}
use Rattle.cyc_memory_relation.specs.inside.Words.{before, Points, Is}
use Rattle.cyc_memory_relation.specs.inside.Related.{HasKinds, IsOfVariable, Related}
use Rattle.cyc_memory_relation.proofs.Places.{begins-first, before-first}
use Rattle.cyc_memory_relation.proofs.Pointers.{same-row}
use Rattle.cyc_memory_relation.proofs.Cells.{not-placed}
use Rattle.cyc_lower_proof.specs.inside.Slots.{Types, starts_of, slot_of}
use Rattle.cyc_lower_proof.proofs.slots.CellBytes.{kind_bytes}
use Rattle.cyc_lower_proof.proofs.relation.places.Known.{IsVariableRow}
use Rattle.cyc_lower_proof.proofs.relation.contents.HeldValues.{CallSlots, row_of, IsLocalRow, IsCharAt}
use Rattle.cyc_lower_proof.specs.inside.ValueCode.{variable_bytes}
use Rattle.cyc_types.specs.declared.typed.Kind.TheVariants as kinds
use Rattle.cyc_memory_relation.proofs.Chars.{char-small}
use Rattle.cyc_plain.specs.inside.State.{Words}
use Rattle.cyc_store.specs.State.{StoreState}

-- Holds if the code takes the address of the local in this slot.
abbrev pub stands_in : CallSlots → (slot : ℕ) → Bool
stands_in s slot = is_pinned s.code slot && nat_le slots_base s.base

module _ (s : CallSlots) (slot : ℕ) (kind : Kind) where
  pub row-stands : stands_in s slot ≡ true → row_of s slot kind ≡ Placed (s.base + 4 * slot + variable_bytes kind) (kind ∷ [])
  row-stands is = cond-true (stands_in s slot) (Placed (s.base + 4 * slot + variable_bytes kind) (kind ∷ [])) Variable is

  pub row-nowhere : stands_in s slot ≡ false → row_of s slot kind ≡ Variable
  row-nowhere is = cond-false (stands_in s slot) (Placed (s.base + 4 * slot + variable_bytes kind) (kind ∷ [])) Variable is

  following : stands_in s slot ≡ true → slots_base ≤ s.base
  following is = leb-true slots_base s.base (and_parts (is_pinned s.code slot) (nat_le slots_base s.base) is).1

  pub row-fits : (region : ℕ) (content : Option Value) → HasKinds (variable region kind content).cells (row_of s slot kind)
  row-fits region content = go (stands_in s slot) refl
    where
      go : (b : Bool) → stands_in s slot ≡ b → HasKinds (variable region kind content).cells (row_of s slot kind)
      go true is = subst (HasKinds (variable region kind content).cells) (sym (row-stands is)) refl
      go false is = subst (HasKinds (variable region kind content).cells) (sym (row-nowhere is)) tt

  pub row-variable : IsOfVariable (row_of s slot kind)
  row-variable = go (stands_in s slot) refl
    where
      go : (b : Bool) → stands_in s slot ≡ b → IsOfVariable (row_of s slot kind)
      go true is = subst IsOfVariable (sym (row-stands is)) (inr (omega (arith, following is)))
      go false is = subst IsOfVariable (sym (row-nowhere is)) tt

-- If a row of the table of objects is that of a char with an address, then the kind of the local is `Char`.
pub char_row : (t : Tables) (s : CallSlots) (slot : ℕ) (kind : Kind) (object : ℕ) → slice_get t.rows object ≡ Some (row_of s slot kind) → IsCharAt t object → kind ≡ kinds.Char
char_row t s slot kind object there (address, is) = go (stands_in s slot) refl
  where
    same : row_of s slot kind ≡ Placed address (kinds.Char ∷ [])
    same = same_from_some (sym there ∙ is)

    go : (b : Bool) → stands_in s slot ≡ b → kind ≡ kinds.Char
    go true stands = let e : Placed (s.base + 4 * slot + variable_bytes kind) (kind ∷ []) ≡ Placed address (kinds.Char ∷ []) = sym (row-stands s slot kind stands) ∙ same in cc
    go false stands = absurd (let e : Variable ≡ Placed address (kinds.Char ∷ []) = sym (row-nowhere s slot kind stands) ∙ same in cc)

-- The word of a char that is declared with a value is below 256.
pub declared_low : (t : Tables) (s : CallSlots) (slot : ℕ) (kind : Kind) (object : ℕ) (v : Operand) (slots : Words) → slice_get t.rows object ≡ Some (row_of s slot kind) → v.kind ≡ kind
    → Is t v.kind v.value slots slot → IsCharAt t object → slots slot < 256
declared_low t s slot kind object v slots there same is is_char =
    char-small t v.value slots slot (subst (λ (k : Kind). Is t k v.value slots slot) (same ∙ char_row t s slot kind object there is_char) is)

-- A cell of an object that is a char with an address has the kind `Char`.
pub char_cell : {t : Tables} {w : World} {s : StoreState} (related : Related t w s) (object : ℕ) (x : Object) (c : Cell) → slice_get w.objects object ≡ Some x → slice_get x.cells 0 ≡ Some c
    → IsCharAt t object → c.kind ≡ kinds.Char
char_cell related object x c there cell (address, row) =
    let kinds : kinds.Char ∷ [] ≡ kinds_of x.cells = related.shapes object address (kinds.Char ∷ []) x there row in
    same_from_some (sym (slice_get-map (λ (z : Cell). z.kind) x.cells 0 c cell) ∙ ap (λ (ks : List Kind). slice_get ks 0) (sym kinds))

-- The row of a local in the table of objects is the row of a variable.
pub local-row : {t : Tables} {types : Types} {s : CallSlots} {number object : ℕ} (globals : List Ty) → IsLocalRow t types s number object → IsVariableRow t globals object
local-row {t} {types} {s} {number} {object} globals r = go (stands_in s slot) refl
  where
    slot : ℕ
    slot = slot_of (starts_of types) number

    go : (b : Bool) → stands_in s slot ≡ b → IsVariableRow t globals object
    go true is = inr (inr (record { address = s.base + 4 * slot + variable_bytes r.kind; kind = r.kind; row = r.row ∙ ap (λ (x : Row). Some x) (row-stands s slot r.kind is); following = omega (arith, following s slot r.kind is) }))
    go false is = inl (r.row ∙ ap (λ (x : Row). Some x) (row-nowhere s slot r.kind is))

-- A pointer to a local is the address of the local's first slot or, if the local is a char, of the last byte of this slot.
pub record IsLocalPointer (types : Types) (s : CallSlots) (number : ℕ) (kind : Kind) (offset word : ℕ) : Type 0 where
  pub pinned : is_pinned s.code (slot_of (starts_of types) number) ≡ true
  pub first : offset ≡ 0
  pub at : word ≡ s.base + 4 * slot_of (starts_of types) number + variable_bytes kind

module _ {t : Tables} {types : Types} {s : CallSlots} {number object offset word : ℕ} (r : IsLocalRow t types s number object) (points : Points t object offset word) where
  abbrev slot : ℕ
  slot = slot_of (starts_of types) number

  stands : stands_in s slot ≡ true
  stands = go (stands_in s slot) refl
    where
      go : (b : Bool) → stands_in s slot ≡ b → b ≡ true
      go true is = refl
      go false is = absurd (not-placed (r.row ∙ ap (λ (x : Row). Some x) (row-nowhere s slot r.kind is)) points.row)

  placed : slice_get t.rows object ≡ Some (Placed (s.base + 4 * slot + variable_bytes r.kind) (r.kind ∷ []))
  placed = r.row ∙ ap (λ (x : Row). Some x) (row-stands s slot r.kind stands)

  pub local-pointer : IsLocalPointer types s number r.kind offset word
  local-pointer =
      let (address, kinds) = same-row points.row placed in
      let inside : offset < length (r.kind ∷ []) = subst (λ ks. offset < length ks) kinds points.inside in
      let first : offset ≡ 0 = omega (arith, inside) in
      record {
        pinned = (and_parts (is_pinned s.code slot) (nat_le slots_base s.base) stands).0;
        first = first;
        at = points.at ∙ (ap (λ n. points.address + before n points.kinds) first ∙ omega (arith, address, before-first points.kinds));
      }

  -- A char that a pointer points to has an address.
  pub char_there : r.kind ≡ kinds.Char → IsCharAt t object
  char_there char =
      let address : ℕ = s.base + 4 * slot + variable_bytes r.kind in
      (address, placed ∙ ap (λ (i : Kind). Some (Placed address (i ∷ []))) char)

  -- The representation kind (int, char, pointer, ..) in a local's row of the table of objects is that of the local's cell.
  pub local-kind : {kind : Kind} → slice_get points.kinds offset ≡ Some kind → r.kind ≡ kind
  local-kind {kind} there =
      let (address, kinds) = same-row points.row placed in
      let e : Some r.kind ≡ Some kind = sym (ap (slice_get (r.kind ∷ [])) local-pointer.first) ∙ (sym (ap (λ ks. slice_get ks offset) kinds) ∙ there) in
      cc

-- The address that the code computes for a local is a pointer to the local.
pub local-points : {t : Tables} {types : Types} {s : CallSlots} {number object : ℕ} (r : IsLocalRow t types s number object) → is_pinned s.code (slot_of (starts_of types) number) ≡ true
    → slots_base ≤ s.base → s.base + 4 * (slot_of (starts_of types) number + words_of_kind r.kind) ≤ slots_end → Points t object 0 (s.base + 4 * slot_of (starts_of types) number + variable_bytes r.kind)
local-points {t} {types} {s} {number} {object} r pinned low high =
    let slot = slot_of (starts_of types) number in
    record {
      address = s.base + 4 * slot + variable_bytes r.kind;
      kinds = r.kind ∷ [];
      row = r.row ∙ ap (λ (x : Row). Some x) (row-stands s slot r.kind (and_from (is_pinned s.code slot) (nat_le slots_base s.base) pinned (le-leb slots_base s.base low)));
      range = record { low = omega (arith, low); high = omega (arith, high, begins-first r.kind, kind_bytes r.kind) };
      inside = omega arith;
      at = omega (arith, begins-first r.kind);
    }
