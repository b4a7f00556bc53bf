-- Writing a word of a live block preserves the invariant of a store on a table of pages: the links of dead slots are in other words.
use Rattle.std.proofs.Common.{◌≡◌, ℕ, ◌+◌, ◌*◌, ◌^◌, ◌<◌, true, false, List, [], ◌∷◌, length, None, refl, sym, ap, subst, ◌∙◌, length-set}
use Rattle.std.specs.Prelude.{◌==◌, if◌then◌else◌, is_some, slice_index, slice_index_or, set}
use Rattle.std.specs.List.{AllByRecursion}
use Rattle.cyc_words.proofs.Booleans.{some_there}
use Rattle.cyc_words.proofs.Options.{never_none_and_some}
use Rattle.cyc_store.specs.State.{Memory, put, StoreState, homes, holder, word_at, has_saved, saved}
use Rattle.cyc_store.specs.Ledger.{Blocks, memory_of, store_of}
use Rattle.cyc_store.specs.Slots.{place_of, IsDeadSlot, IsLaidOut}
use Rattle.cyc_store.specs.inside.Kept.{IsTied, IsKept, table_of, no_slots}
use Rattle.cyc_store.specs.declared.row.PageTable.{PageTable}
use Rattle.cyc_store.specs.declared.row.ClassSlots.{ClassSlots}
use Rattle.cyc_store.specs.declared.range.TheConstants.{PAGE_WORDS}
use Rattle.cyc_store.proofs.LookupLemmas.{when_other}
use Rattle.cyc_store.proofs.SlotLemmas.{slot-apart}
use Rattle.cyc_store.proofs.SlotServices.{first-in, paged-unique}
use Rattle.cyc_store.proofs.SlotTables.{read-set, read-table, stock-words}
use Rattle.cyc_store.proofs.WordLemmas.{memory-set, words-put}
use Rattle.cyc_store.proofs.KeptLoads.{dead-word}

module _ (t : PageTable) (lexicals : List ℕ) (classes : List ClassSlots) (b : Blocks) (k : IsKept t lexicals classes b) (word : ℕ) (inside : word < length t.words.items)
    (address : ℕ) (at : address ≡ 536870912 + 4 * word) (live : is_some (word_at (store_of t.most t.words.items b) address) ≡ true)
    (value : ℕ) (small : value < 2 ^ 32) where
  abbrev s : StoreState
  s = store_of t.most t.words.items b

  -- The words of the store after a word is written.
  abbrev written : ℕ → ℕ
  written = λ (i : ℕ). if i == word then value else slice_index t.words.items i

  abbrev memory : Memory
  memory = put s.memory (place_of word) value

  -- The written word is in a live block, so it is in no dead slot.
  word-live : holder (homes s) (place_of word) ≡ None → ⊥
  word-live none =
      let (old, found) = some_there (word_at s address) live in
      never_none_and_some (dead-word s address (ap (holder (homes s)) at ∙ none)) found

  dead-away : (c : ℕ) (xs : List ℕ) → AllByRecursion (IsDeadSlot b.unique k.layout.pages.owner k.layout.class c) xs → AllByRecursion (λ x. written x ≡ slice_index t.words.items x) xs
  dead-away c [] all = tt
  dead-away c (x ∷ xs) all = (
    when_other x word value (slice_index t.words.items x)
        (λ e. word-live (subst (λ n. holder (homes s) (place_of n) ≡ None) e (slot-apart s k.layout k.laid c x all.0.slot all.0.none (place_of x) (first-in c x)))),
    dead-away c xs all.1,
  )

  saved-tied : IsTied (record (table_of t) { word = written }) lexicals (λ (c : ℕ). slice_index_or classes c no_slots) b k.layout
  saved-tied = record {
    most = k.tied.most;
    few = k.tied.few;
    drawn = k.tied.drawn;
    rows = k.tied.rows;
    given = k.tied.given;
    free = k.tied.free;
    linked = k.tied.linked;
    within = k.tied.within;
    homes = k.tied.homes;
    roots = k.tied.roots;
    newest = k.tied.newest;
    stock = λ c few. stock-words (table_of t).word written (slice_index_or classes c no_slots) c (k.layout.dead c) (dead-away c (k.layout.dead c) (k.laid.slots.dead c few)) (k.tied.stock c few);
    marked = k.tied.marked;
    unmarked = k.tied.unmarked;
  }

  saved-laid : IsLaidOut (record s { memory = memory }) k.layout
  saved-laid = record {
    sound = record {
      regions = k.laid.sound.regions;
      uniques = k.laid.sound.uniques;
      words = words-put s.memory (place_of word) value k.laid.sound.words small;
      classes = k.laid.sound.classes;
      enough = k.laid.sound.enough;
      demand = k.laid.sound.demand;
    };
    paged = paged-unique s k.layout.pages k.layout.free b.unique b.classes memory k.laid.paged k.laid.paged.laid.0 refl;
    covered = k.laid.covered;
    slots = k.laid.slots;
  }

  module _ (v : PageTable) (most_is : v.most ≡ t.most) (words_is : v.words.items ≡ set t.words.items word value) (live_is : v.live.items ≡ t.live.items) (free_is : v.free ≡ t.free)
      (rows_is : v.rows.items ≡ t.rows.items) where
    saved-held : store_of v.most v.words.items b ≡ record s { memory = memory }
    saved-held =
        ap (λ n. store_of n v.words.items b) most_is
        ∙ ap (λ m. record s { memory = m }) (ap memory_of words_is ∙ memory-set t.words.items word value inside)

    pub save-saved : store_of v.most v.words.items b ≡ saved s address value
    save-saved =
        let (old, found) = some_there (word_at s address) live in
        saved-held ∙ (ap (λ a. record s { memory = put s.memory a value }) (sym at) ∙ sym (ap (has_saved s address value) found))

    pub save-kept : IsKept v lexicals classes b
    save-kept = record {
      whole = record {
        words = ap length words_is ∙ (length-set t.words.items word value ∙ (k.whole.words ∙ ap (λ rs. PAGE_WORDS * length rs) (sym rows_is)));
        live = ap length live_is ∙ (k.whole.live ∙ ap (λ rs. PAGE_WORDS * length rs) (sym rows_is));
      };
      eleven = k.eleven;
      layout = k.layout;
      laid = subst (λ held. IsLaidOut held k.layout) (sym saved-held) saved-laid;
      tied = subst (λ table. IsTied table lexicals (λ (c : ℕ). slice_index_or classes c no_slots) b k.layout)
          (sym (read-table t v written (table_of t).live most_is (ap (λ ws. λ (i : ℕ). slice_index ws i) words_is ∙ read-set t.words.items word value 0 inside)
          (ap (λ ms. λ (i : ℕ). slice_index_or ms i false) live_is) free_is rows_is))
          saved-tied;
    }
