-- This file is about the start of a run: the program's globals are variables, and a new heap store contains the heap region.
use Rattle.std.proofs.Common.{◌≡◌, ℕ, ◌≤◌, List, [], ◌∷◌, map, Some, refl, sym, ap, subst, ◌∙◌, arith}
use Rattle.std.specs.Prelude.{slice_get}
use Rattle.std.proofs.lemmas.List.{length-map}
use Rattle.cyc_words.proofs.Items.{slice_get-map_from}
use Rattle.cyc_words.proofs.Options.{never_none_and_some, same_from_some}
use Rattle.cyc_types.specs.TypedTrees.{GlobalVariable, Program}
use Rattle.cyc_store.specs.State.{Memory, AreWords, start}
use Rattle.cyc_store.specs.declared.range.TheConstants.{MOST_PAGES}
use Rattle.cyc_store.proofs.ServiceLemmas.{start-sound}
use Rattle.cyc_meaning.specs.State.{Object, InRegion, globals_number, global_object, first_regions, first_world}
use Rattle.cyc_meaning.specs.Objects.{live_in}
use Rattle.cyc_memory_relation.specs.inside.Tables.{Row, first_tables}
use Rattle.cyc_memory_relation.specs.inside.Related.{lies_in, IsOfVariable, HasKinds, AreGlobals, Alive, Within, Related, passed, taken, no_regions}

none-unique : (class : ℕ) (globals : List GlobalVariable) → live_in class (map global_object globals) ≡ 0
none-unique class [] = refl
none-unique class (g ∷ globals) = none-unique class globals

module _ (program : Program) (globals : List Row) (are : AreGlobals program globals) (input : List ℕ) (pages : ℕ) (memory : Memory) where
  -- Says that at the start each object is a global, and therefore a variable.
  record IsGlobal (o : ℕ) (x : Object) : Type 0 where
    owner : x.owner ≡ InRegion globals_number
    row : Row
    at : slice_get globals o ≡ Some row
    fits : HasKinds x.cells row
    outside : IsOfVariable row

  first-row : (o : ℕ) (x : Object) → slice_get (map global_object program.globals) o ≡ Some x → IsGlobal o x
  first-row o x at =
      let (g, there, same) = slice_get-map_from global_object program.globals o x at in
      let (row, found, fits, outside) = are.each o g there in
      record {
        owner = ap (λ (z : Object). z.owner) same;
        row = row;
        at = found;
        fits = subst (λ (z : Object). HasKinds z.cells row) (sym same) fits;
        outside = outside;
      }

  none-alive : (o h : ℕ) (x : Object) → Alive (first_tables globals) (first_world program input) o h x → ⊥
  none-alive o h x alive =
      never_none_and_some (ap (lies_in (first_tables globals).handles first_regions) (first-row o x alive.at).owner) alive.lies

  pub start-related : AreWords memory → 1 ≤ pages → pages ≤ MOST_PAGES → Related (first_tables globals) (first_world program input) (start pages memory)
  start-related words some few = record {
    sound = start-sound pages memory words some;
    few = few;
    heap = refl;
    rows = are.many ∙ sym (length-map program.globals global_object);
    regions = taken (record { kept = refl; named = refl; sort = refl; sizes = refl }) (passed refl refl (λ is. refl) no_regions);
    classes = refl;
    uniques = λ class. sym (none-unique class program.globals);
    owned = λ o x at. subst (Within 2) (sym (first-row o x at).owner) (omega arith);
    shapes = λ o a ks x at row. let g = first-row o x at in subst (HasKinds x.cells) (same_from_some (sym g.at ∙ row)) g.fits;
    variables = λ o n x at owner entry. let g = first-row o x at in (g.row, g.at, g.outside);
    objects = λ o h x alive. absurd (none-alive o h x alive);
    alone = λ o i h g a x y ks ls first second row also. absurd (none-alive o h x first);
  }
