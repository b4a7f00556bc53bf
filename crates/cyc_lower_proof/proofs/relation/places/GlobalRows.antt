-- This file says where globals are in memory: one after the other, at lower addresses than the heap store.
use Rattle.std.proofs.Common.{◌≡◌, ℕ, zero, suc, ◌+◌, ◌*◌, ◌<◌, ◌≤◌, List, [], ◌∷◌, length, None, Some, refl, ap, inl, arith}
use Rattle.std.specs.Prelude.{slice_get, unwrap_or}
use Rattle.std.proofs.lemmas.List.{length-map}
use Rattle.std.proofs.lemmas.Option.{none-some}
use Rattle.cyc_words.proofs.Options.{same_from_some}
use Rattle.cyc_words.proofs.Lists.{slice_get_below}
use Rattle.cyc_words.proofs.Items.{below_from_slice_get}
use Rattle.cyc_types.specs.Types.{words_of}
use Rattle.cyc_types.specs.TypedTrees.{GlobalVariable, Program}
use Rattle.cyc_plain.specs.declared.limits.TheConstants.{GLOBALS_BASE, MOST_GLOBALS}
use Rattle.cyc_meaning.specs.Values.{kind_of, words_of_kind}
use Rattle.cyc_meaning.specs.FrameCount.{words_of_all}
use Rattle.cyc_memory_relation.specs.inside.Tables.{Row, Placed, first_tables}
use Rattle.cyc_memory_relation.specs.inside.Related.{AreGlobals}
use Rattle.cyc_lower_proof.specs.inside.Slots.{Types, starts_from, global_types}
use Rattle.cyc_lower_proof.proofs.slots.Widths.{type_words, words_in, kind_in}
use Rattle.cyc_memory_relation.proofs.Places.{begins-first}
use Rattle.cyc_lower_proof.proofs.slots.CellBytes.{kind_bytes}
use Rattle.cyc_lower_proof.proofs.slots.Slots.{global-room}
use Rattle.cyc_lower_proof.proofs.relation.places.Known.{IsGlobalRow, first_word}
use Rattle.cyc_lower_proof.specs.inside.ValueCode.{variable_bytes}

-- The rows of globals in the table of objects, if the words of these globals begin at word `first`.
abbrev pub rows_from : (first : ℕ) → List GlobalVariable → List Row
rows_from first [] = []
rows_from first (g ∷ globals) = Placed (GLOBALS_BASE + 4 * first + variable_bytes (kind_of g.of_type)) (kind_of g.of_type ∷ []) ∷ rows_from (first + words_of g.of_type) globals

rows_many : (first : ℕ) (globals : List GlobalVariable) → length (rows_from first globals) ≡ length globals
rows_many first [] = refl
rows_many first (g ∷ globals) = ap suc (rows_many (first + words_of g.of_type) globals)

row_there : (first : ℕ) (globals : List GlobalVariable) (number : ℕ) (g : GlobalVariable) → slice_get globals number ≡ Some g
    → slice_get (rows_from first globals) number ≡ Some (Placed (GLOBALS_BASE + 4 * unwrap_or (slice_get (starts_from first (global_types globals)) number) 0 + variable_bytes (kind_of g.of_type)) (kind_of g.of_type ∷ []))
row_there first [] number g there = absurd (none-some g there)
row_there first (h ∷ globals) zero g there = ap (λ (x : GlobalVariable). Some (Placed (GLOBALS_BASE + 4 * first + variable_bytes (kind_of x.of_type)) (kind_of x.of_type ∷ []))) (same_from_some there)
row_there first (h ∷ globals) (suc number) g there = row_there (first + words_of h.of_type) globals number g there

words_there : (globals : List GlobalVariable) (number : ℕ) (g : GlobalVariable) → slice_get globals number ≡ Some g → words_in (global_types globals) number ≡ words_of g.of_type
words_there [] number g there = absurd (none-some g there)
words_there (h ∷ globals) zero g there = ap (λ (x : GlobalVariable). words_of x.of_type) (same_from_some there)
words_there (h ∷ globals) (suc number) g there = words_there globals number g there

kind_of_global : (globals : List GlobalVariable) (number : ℕ) (g : GlobalVariable) → slice_get globals number ≡ Some g → kind_in (global_types globals) number ≡ kind_of g.of_type
kind_of_global [] number g there = absurd (none-some g there)
kind_of_global (h ∷ globals) zero g there = ap (λ (x : GlobalVariable). kind_of x.of_type) (same_from_some there)
kind_of_global (h ∷ globals) (suc number) g there = kind_of_global globals number g there

module _ (source : Program) (few : words_of_all (global_types source.globals) ≤ MOST_GLOBALS) where
  abbrev pub global_rows : List Row
  global_rows = rows_from 0 source.globals

  types_many : length (global_types source.globals) ≡ length source.globals
  types_many = length-map source.globals (λ (g : GlobalVariable). g.of_type)

  -- the words of a global end at lower addresses than the heap store
  before_store : (number : ℕ) (g : GlobalVariable) → slice_get source.globals number ≡ Some g
      → GLOBALS_BASE + 4 * (first_word (global_types source.globals) number + words_of_kind (kind_of g.of_type)) ≤ 536870912
  before_store number g there =
      let types : Types = record { locals = []; structs = []; raises = 0; counters = []; globals = global_types source.globals; scopes = None } in
      omega (arith, few, global-room types number (omega (arith, types_many, below_from_slice_get source.globals number g there)), words_there source.globals number g there, type_words g.of_type)

  pub are_globals : AreGlobals source global_rows
  are_globals = record {
    many = rows_many 0 source.globals;
    each = λ o g there. (
      Placed (GLOBALS_BASE + 4 * first_word (global_types source.globals) o + variable_bytes (kind_of g.of_type)) (kind_of g.of_type ∷ []),
      row_there 0 source.globals o g there,
      refl,
      inl (omega (arith, before_store o g there, begins-first (kind_of g.of_type), kind_bytes (kind_of g.of_type))),
    );
  }

  pub start-rows : (number : ℕ) → number < length (global_types source.globals) → IsGlobalRow (first_tables global_rows) (global_types source.globals) number
  start-rows number below =
      let (g, there) = slice_get_below source.globals number (omega (arith, below, types_many)) in
      record {
        kind = kind_of g.of_type;
        row = row_there 0 source.globals number g there;
        room = omega (arith, words_there source.globals number g there, type_words g.of_type);
        of_type = kind_of_global source.globals number g there;
        low = before_store number g there;
      }
