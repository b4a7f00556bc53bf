-- This file proves that declaring and assigning variables, and opening and closing their regions, preserves the invariant that source run
-- and lowered run share. The table of objects gets a row, or the table of region handles gets an entry, and the heap store is unchanged.
use Rattle.std.proofs.Common.{◌≡◌, ℕ, List, ◌∷◌, length, Option, None, Some, slice_get, ◌≤◌, refl, sym, ap, subst, ◌∙◌, arith}
use Rattle.cyc_words.proofs.Lists.{slice_get_last}
use Rattle.cyc_types.specs.declared.typed.Kind.{Kind}
use Rattle.cyc_types.specs.TypedTrees.{Program}
use Rattle.cyc_plain.specs.inside.State.{Words, Configuration}
use Rattle.cyc_meaning.specs.Values.{Value}
use Rattle.cyc_meaning.specs.State.{Awaiting, Needs, Stack, Region, World, globals_number, Environment, Located, variable, made, written, opened, closed, with_local, Entry, CloseRegion, Caller}
use Rattle.cyc_meaning.specs.Step.{inside, region_end}
use Rattle.cyc_memory_relation.specs.inside.Tables.{Row, with_row, with_handle}
use Rattle.cyc_memory_relation.specs.inside.Related.{Related, scopes, HasKinds, IsOfVariable}
use Rattle.cyc_memory_relation.proofs.Closing.{scopes-same, related-unclosed}
use Rattle.cyc_store.specs.State.{demand}
use Rattle.cyc_store.proofs.CountLemmas.{demand-part}
use Rattle.cyc_store.proofs.HolderLemmas.{IsPart-down_to}
use Rattle.cyc_memory_relation.proofs.Values.{Grows-row, Grows-handle}
use Rattle.cyc_memory_relation.proofs.Variables.{declared, assigned-away, opened-variables, closed-variables, handle-made}
use Rattle.cyc_lower_proof.proofs.relation.contents.HeldValues.{homes, scopes_in}
use Rattle.cyc_lower_proof.proofs.relation.simulation.Relation.{SharedAt, SharedBy, ScopesBy}
use Rattle.cyc_lower_proof.proofs.relation.simulation.Shared.{HasScopes, store_by, silent}
use Rattle.cyc_lower_proof.specs.inside.Lowering.{scopes_of}
use Rattle.cyc_lower_proof.proofs.relation.contents.Counters.{counted_less}
use Rattle.cyc_lower_proof.proofs.relation.contents.GrowingData.{variables_grow}
use Rattle.cyc_lower_proof.proofs.relation.places.Known.{IsVariableRow, row-away}
use Rattle.cyc_lower_proof.specs.inside.Slots.{global_types}

module _ (source : Program) (pages calls : ℕ) (k : List Entry) (e : Environment) (w : World) (c : Configuration) (s : SharedAt source pages calls k e w c) where
  -- The invariant that source run and lowered run share is preserved when a variable is declared with this row in the table of objects.
  abbrev pub shared_declared : (n : ℕ) (r : Region) (kind : Kind) (content : Option Value) (row : Row) → slice_get w.regions e.home ≡ Some r → HasKinds (variable e.home kind content).cells row → IsOfVariable row
      → SharedAt source pages calls k (with_local e n (length w.objects)) (made w (variable e.home kind content)) c
  shared_declared n r kind content row there fits outside = record {
    tables = with_row s.tables row;
    same_output = s.same_output;
    same_input = s.same_input;
    same_pages = s.same_pages;
    related = declared s.related e.home r kind content row there s.variables.0 fits outside;
    globals = s.globals;
    variables = variables_grow s.tables (with_row s.tables row) (Grows-row s.tables row) (e.home ∷ homes k) s.variables;
    few_pages = s.few_pages;
    fits = s.fits;
    counters = s.counters;
  }

  -- After a declaration, the row of the declared variable is the last row of the table of objects.
  pub row_declared : (row : Row) → slice_get (with_row s.tables row).rows (length w.objects) ≡ Some row
  row_declared row = ap (slice_get (with_row s.tables row).rows) (sym s.related.rows) ∙ slice_get_last s.tables.rows row

  -- The invariant that source run and lowered run share is preserved when a variable is assigned.
  abbrev pub shared_written : (object : ℕ) (at : Located) (v : Value) → slice_get w.objects object ≡ Some at.object → slice_get at.object.cells 0 ≡ Some at.cell
      → IsVariableRow s.tables (global_types source.globals) object → SharedAt source pages calls k e (written w object 0 at v) c
  shared_written object at v there cell row = record {
    tables = s.tables;
    same_output = s.same_output;
    same_input = s.same_input;
    same_pages = s.same_pages;
    related = assigned-away s.related object 0 at.object at.cell v there cell (λ h alive. row-away s.related (global_types source.globals) object h at.object row alive);
    globals = s.globals;
    variables = s.variables;
    few_pages = s.few_pages;
    fits = s.fits;
    counters = s.counters;
  }

  -- The invariant that source run and lowered run share is preserved when a global is written.
  abbrev pub shared_beside : (globals : Words) → SharedAt source pages calls k e w (record c { globals = globals })
  shared_beside globals = record {
    tables = s.tables;
    same_output = s.same_output;
    same_input = s.same_input;
    same_pages = s.same_pages;
    related = s.related;
    globals = s.globals;
    variables = s.variables;
    few_pages = s.few_pages;
    fits = s.fits;
    counters = s.counters;
  }

  -- The invariant that source run and lowered run share is preserved when a block opens its region and pushes the
  -- continuation frame that closes it.
  abbrev pub shared_opened : SharedAt source pages calls (region_end e w ∷ k) (inside e w) (opened w) c
  shared_opened = record {
    tables = with_handle s.tables None;
    same_output = s.same_output;
    same_input = s.same_input;
    same_pages = s.same_pages;
    related = opened-variables s.related Stack refl;
    globals = (Grows-handle s.tables None).handles globals_number None s.globals;
    variables =
        let grown = variables_grow s.tables (with_handle s.tables None) (Grows-handle s.tables None) (e.home ∷ homes k) s.variables in
        let new = handle-made s.related None in
        (new, (new, grown));
    few_pages = s.few_pages;
    fits = s.fits;
    counters = s.counters;
  }

-- When the region of a block closes, its variables pass to the enclosing region. Closing a block's region does not change the
-- number of open lexical regions.
abbrev pub shared_closed : (source : Program) (closing : Option ℕ) (pages calls : ℕ) (k : List Entry) (e : Environment) (w : World) (c : Configuration) (number home : ℕ) (r : Region)
    → slice_get w.regions number ≡ Some r → SharedBy source closing pages calls (CloseRegion number home ∷ k) e w c → SharedBy source closing pages calls k (record e { home = home }) (closed w number r) c
shared_closed source closing pages calls k e w c number home r there s = record {
  tables = s.tables;
  same_output = s.same_output;
  same_input = s.same_input;
  same_pages = subst (λ now. (store_by closing c.store now).pages ≡ pages) same s.same_pages;
  related = subst (λ now. Related s.tables (silent (closed w number r)) (store_by closing c.store now)) same after;
  globals = s.globals;
  variables = s.variables.1.1;
  few_pages = subst (λ now. demand (store_by closing c.store now) ≤ pages) same s.few_pages;
  fits = s.fits;
  counters = (s.counters.0, subst (ScopesBy source closing c.store (scopes_in k)) same s.counters.1);
}
  where
    after : Related s.tables (silent (closed w number r)) (store_by closing c.store (scopes w.regions))
    after = closed-variables s.related number r there s.variables.1.0

    same : scopes w.regions ≡ scopes (closed w number r).regions
    same = sym (scopes-same s.related.regions) ∙ scopes-same after.regions

-- When lexical regions are about to be left, the source run may close them one by one while the heap store still has them open.
abbrev pub shared_ahead : (source : Program) (closing : Option ℕ) (pages calls : ℕ) (k : List Entry) (e : Environment) (w : World) (c : Configuration)
    → ((mark : ℕ) → closing ≡ Some mark → HasScopes (scopes_of source)) → SharedAt source pages calls k e w c → SharedBy source closing pages calls k e w c
shared_ahead source closing pages calls k e w c known s = record {
  tables = s.tables;
  same_output = s.same_output;
  same_input = s.same_input;
  same_pages = pages_same closing ∙ s.same_pages;
  related = ahead closing;
  globals = s.globals;
  variables = s.variables;
  few_pages = omega (arith, fewer closing, s.few_pages);
  fits = s.fits;
  counters = (s.counters.0, counted closing known);
}
  where
    pages_same : (o : Option ℕ) → (store_by o c.store (scopes w.regions)).pages ≡ c.store.pages
    pages_same None = refl
    pages_same (Some mark) = refl

    ahead : (o : Option ℕ) → Related s.tables (silent w) (store_by o c.store (scopes w.regions))
    ahead None = s.related
    ahead (Some mark) = related-unclosed s.related

    fewer : (o : Option ℕ) → demand (store_by o c.store (scopes w.regions)) ≤ demand c.store
    fewer None = omega arith
    fewer (Some mark) = demand-part (IsPart-down_to (scopes w.regions) c.store.regions) c.store.classes

    counted : (o : Option ℕ) → ((mark : ℕ) → o ≡ Some mark → HasScopes (scopes_of source)) → ScopesBy source o c.store (scopes_in k) (scopes w.regions)
    counted None there = s.counters.1
    counted (Some mark) there = (there mark refl, s.related.sound, omega (arith, scopes-same s.related.regions))

-- The invariant that source run and lowered run share is preserved when an exception leaves a call.
abbrev pub shared_left : (source : Program) (closing : Option ℕ) (pages calls : ℕ) (k : List Entry) (e outer : Environment) (w : World) (c : Configuration) → SharedBy source closing pages calls (Caller outer ∷ k) e w c
    → SharedBy source closing pages calls k outer w c
shared_left source closing pages calls k e outer w c s = record {
  tables = s.tables;
  same_output = s.same_output;
  same_input = s.same_input;
  same_pages = s.same_pages;
  related = s.related;
  globals = s.globals;
  variables = s.variables.1;
  few_pages = s.few_pages;
  fits = s.fits;
  counters = s.counters;
}

-- The invariant that source run and lowered run share is preserved when a continuation frame is removed.
abbrev pub shared_less : (source : Program) (closing : Option ℕ) (pages calls : ℕ) (a : Awaiting) (k : List Entry) (e : Environment) (w : World) (c : Configuration) → SharedBy source closing pages calls (Needs a ∷ k) e w c
    → SharedBy source closing pages calls k e w c
shared_less source closing pages calls a k e w c s = record {
  tables = s.tables;
  same_output = s.same_output;
  same_input = s.same_input;
  same_pages = s.same_pages;
  related = s.related;
  globals = s.globals;
  variables = s.variables;
  few_pages = s.few_pages;
  fits = s.fits;
  counters = (counted_less e.counters a k s.counters.0, s.counters.1);
}
