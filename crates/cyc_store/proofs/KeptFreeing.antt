-- Freeing a unique block preserves the invariant of a store on a table of pages.
use Rattle.std.proofs.Common.{◌≡◌, ℕ, ◌+◌, ◌*◌, ◌^◌, ◌<◌, ◌≤◌, false, List, [], ◌∷◌, length, Some, refl, sym, ap, subst, ◌∙◌, arith, length-set}
use Rattle.std.specs.Prelude.{◌==◌, if◌then◌else◌, is_some, slice_index, slice_index_or, set}
use Rattle.std.specs.List.{AllByRecursion}
use Rattle.cyc_words.specs.Demand.{greatest_class}
use Rattle.cyc_words.proofs.Numbers.{when_equal, same_from_powers}
use Rattle.cyc_words.proofs.Options.{never_none_and_some, same_from_some}
use Rattle.cyc_store.specs.State.{lookup, without, Memory, put, AreWords, Block, address_of, Holder, StoreState, homes, holder}
use Rattle.cyc_store.specs.Services.{Free, Done, Serves}
use Rattle.cyc_store.specs.Soundness.{IsSound}
use Rattle.cyc_store.specs.Ledger.{Blocks, memory_of, store_of, after}
use Rattle.cyc_store.specs.Slots.{place_of, slot_block, IsSlot, IsLiveSlot, IsDeadSlot, IsLaidOut}
use Rattle.cyc_store.specs.Table.{marked_between}
use Rattle.cyc_store.specs.inside.Kept.{IsChain, IsStocked, IsTied, IsKept, table_of, no_slots}
use Rattle.cyc_store.specs.declared.change.Change.TheVariants.{Freed}
use Rattle.cyc_store.specs.declared.row.PageTable.{PageTable}
use Rattle.cyc_store.specs.declared.row.ClassSlots.{ClassSlots}
use Rattle.cyc_store.specs.declared.range.TheConstants.{PAGE_WORDS, UNIQUE}
use Rattle.cyc_store.proofs.LookupLemmas.{when_other, lookup-without, lookup-without_other}
use Rattle.cyc_store.proofs.Responses.{serves-free, sound-free}
use Rattle.cyc_store.proofs.SlotLemmas.{holder-unique, slot-live}
use Rattle.cyc_store.proofs.SlotServices.{with_dead, same-words, first-in, freed-laid}
use Rattle.cyc_store.proofs.SlotTables.{read-set, marked-table, stock-words}
use Rattle.cyc_store.proofs.TieSlots.{with_marks, with_slots, slot-tied}
use Rattle.cyc_store.proofs.WordLemmas.{memory-set, words-put}
use Rattle.cyc_store.proofs.KeptSlots.{class-there, stock-is, slot-there, mark-there, words-few, link-word}

module _ (t : PageTable) (lexicals : List ℕ) (classes : List ClassSlots) (b : Blocks) (k : IsKept t lexicals classes b) (word class : ℕ)
    (there : lookup address_of b.unique (536870912 + 4 * word) ≡ Some (record { address = 536870912 + 4 * word; size = 2 ^ class })) where
  abbrev slots : ClassSlots
  slots = slice_index_or classes class no_slots

  abbrev s : StoreState
  s = store_of t.most t.words.items b

  live : IsLiveSlot k.layout.pages.owner k.layout.class (slot_block class word)
  live = k.laid.slots.live (place_of word) (slot_block class word) there

  slot : IsSlot k.layout.pages.owner k.layout.class class word
  slot = subst (λ c. IsSlot k.layout.pages.owner k.layout.class c word) (same_from_powers live.class class (sym (ap (λ (x : Block). x.size) live.is)))
      (subst (IsSlot k.layout.pages.owner k.layout.class live.class) (same-words live.word word (sym (ap address_of live.is))) live.slot)

  pub empty-class : class ≤ greatest_class
  empty-class = subst (λ n. n ≤ greatest_class) slot.same (k.laid.slots.bound slot.page slot.owned)

  pub empty-word : word < length t.words.items
  empty-word = slot-there t lexicals classes b k class empty-class word slot

  pub empty-small : word < 67108864
  empty-small = below word (length t.words.items) empty-word (words-few t lexicals classes b k class empty-class)
    where
      below : (w n : ℕ) → w < n → n ≤ 67108864 → w < 67108864
      below w n less few = omega (arith, less, few)

  pub empty-live : word + 2 ^ class ≤ length t.live.items
  empty-live = mark-there t lexicals classes b k class empty-class word slot

  -- The words of the store after a unique block was freed.
  abbrev written : ℕ → ℕ
  written = λ (i : ℕ). if i == word then slots.dead else slice_index t.words.items i

  abbrev memory : Memory
  memory = put s.memory (place_of word) slots.dead

  -- The first words of slots that were dead before the free were in no live block, so the free leaves them unchanged.
  dead-away : (c : ℕ) (xs : List ℕ) → AllByRecursion (IsDeadSlot b.unique k.layout.pages.owner k.layout.class c) xs → AllByRecursion (λ x. written x ≡ slice_index t.words.items x) xs
  dead-away c [] all = tt
  dead-away c (x ∷ xs) all = (
    when_other x word slots.dead (slice_index t.words.items x) (λ e. never_none_and_some all.0.none (ap (λ n. lookup address_of b.unique (place_of n)) e ∙ there)),
    dead-away c xs all.1,
  )

  other-stock : (c : ℕ) → c ≤ greatest_class → (others : ClassSlots) → IsStocked (table_of t).word others c (k.layout.dead c) → IsStocked written others c (k.layout.dead c)
  other-stock c few others old = stock-words (table_of t).word written others c (k.layout.dead c) (dead-away c (k.layout.dead c) (k.laid.slots.dead c few)) old

  own-stock : IsStocked written (record slots { dead = word }) class (word ∷ k.layout.dead class)
  own-stock =
      let old : IsStocked written slots class (k.layout.dead class) = other-stock class empty-class slots (stock-is t lexicals classes b k class empty-class) in
      record {
        chain = word ∷ old.chain;
        all = ap (λ xs. word ∷ xs) old.all;
        linked = (refl, subst (λ n. IsChain written n old.chain) (sym (when_equal word word slots.dead (slice_index t.words.items word) refl)) old.linked);
      }

  freed-words : AreWords memory
  freed-words = words-put s.memory (place_of word) slots.dead k.laid.sound.words (link-word t lexicals classes b k class empty-class)

  -- No block that remains after a free contains the freed block's first word.
  without-sound : IsSound (record s { unique = without address_of b.unique (place_of word) })
  without-sound = sound-free s k.layout k.laid (place_of word) (slot_block class word) there s.memory k.laid.sound.words (λ x h old new. refl)

  freed-keeps : (x : ℕ) (h : Holder) → holder (homes s) x ≡ Some h → holder (homes (record s { unique = without address_of b.unique (place_of word) })) x ≡ Some h → memory x ≡ s.memory x
  freed-keeps x h old new = when_other x (place_of word) slots.dead (s.memory x) (λ here. gone (ap (holder (homes s)) (sym here) ∙ old))
    where
      gone : holder (homes s) (place_of word) ≡ Some h → ⊥
      gone held =
          let is : h ≡ record { handle = UNIQUE; block = slot_block class word } =
          sym (same_from_some (sym (slot-live s k.layout k.laid class word (place_of word) (slot_block class word) slot (first-in class word) there) ∙ held)) in
          never_none_and_some (lookup-without address_of b.unique (place_of word))
          (subst (λ (y : Holder). lookup address_of (without address_of b.unique (place_of word)) y.block.address ≡ Some y.block) is
          (holder-unique (record s { unique = without address_of b.unique (place_of word) }) x h without-sound new (ap (λ (y : Holder). y.handle) is)))

  empty-sound : IsSound (record s { unique = without address_of b.unique (place_of word); memory = memory })
  empty-sound = sound-free s k.layout k.laid (place_of word) (slot_block class word) there memory freed-words freed-keeps

  freed-tied : IsTied (record (with_marks (table_of t) word (2 ^ class) false) { word = written }) lexicals
      (with_slots (λ (c : ℕ). slice_index_or classes c no_slots) class (record slots { dead = word })) (record b { unique = without address_of b.unique (place_of word) })
      (with_dead k.layout class (word ∷ k.layout.dead class))
  freed-tied = slot-tied (table_of t) lexicals (λ (c : ℕ). slice_index_or classes c no_slots) b k.layout k.tied class word slot false
      (without address_of b.unique (place_of word)) b.classes (ap is_some (lookup-without address_of b.unique (place_of word)))
      (λ first other. lookup-without_other address_of b.unique (place_of word) first other)
      (record slots { dead = word }) (word ∷ k.layout.dead class) written own-stock
      (λ c away few old. other-stock c few (slice_index_or classes c no_slots) old)

  -- The flags that mark the freed slot's words as live are cleared, and the first word of the slot is written.
  module _ (address : ℕ) (at : address ≡ 536870912 + 4 * word) (c : Blocks) (noted : c ≡ after b (Freed address)) (v : PageTable) (most_is : v.most ≡ t.most)
      (words_is : v.words.items ≡ set t.words.items word slots.dead)
      (size : ℕ) (many : size ≡ 2 ^ class) (live_is : (other : ℕ) → slice_index_or v.live.items other false ≡ marked_between (λ (i : ℕ). slice_index_or t.live.items i false) word size false other)
      (whole_is : length v.live.items ≡ length t.live.items)
      (free_is : v.free ≡ t.free) (rows_is : v.rows.items ≡ t.rows.items) where
    freed-blocks : c ≡ record b { unique = without address_of b.unique (place_of word) }
    freed-blocks = noted ∙ ap (λ a. after b (Freed a)) at

    freed-held : store_of v.most v.words.items (record b { unique = without address_of b.unique (place_of word) })
        ≡ record s { unique = without address_of b.unique (place_of word); memory = memory }
    freed-held =
        ap (λ n. store_of n v.words.items (record b { unique = without address_of b.unique (place_of word) })) most_is
        ∙ ap (λ m. record s { unique = without address_of b.unique (place_of word); memory = m }) (ap memory_of words_is ∙ memory-set t.words.items word slots.dead empty-word)

    pub empty-serves : Serves s (Free (536870912 + 4 * word)) Done (store_of v.most v.words.items c)
    empty-serves = subst (Serves s (Free (536870912 + 4 * word)) Done) (sym (ap (store_of v.most v.words.items) freed-blocks ∙ freed-held))
        (serves-free s k.layout k.laid (place_of word) (slot_block class word) there memory freed-words freed-keeps)

    pub empty-kept : IsKept v lexicals (set classes class (record slots { dead = word })) c
    empty-kept = subst (IsKept v lexicals (set classes class (record slots { dead = word }))) (sym freed-blocks) (record {
      whole = record {
        words = ap length words_is ∙ (length-set t.words.items word slots.dead ∙ (k.whole.words ∙ ap (λ rs. PAGE_WORDS * length rs) (sym rows_is)));
        live = whole_is ∙ (k.whole.live ∙ ap (λ rs. PAGE_WORDS * length rs) (sym rows_is));
      };
      eleven = length-set classes class (record slots { dead = word }) ∙ k.eleven;
      layout = with_dead k.layout class (word ∷ k.layout.dead class);
      laid = subst (λ held. IsLaidOut held (with_dead k.layout class (word ∷ k.layout.dead class))) (sym freed-held)
          (freed-laid s k.layout k.laid class word empty-class slot (slot_block class word) there memory empty-sound);
      tied = subst (λ table. IsTied table lexicals (λ (c : ℕ). slice_index_or (set classes class (record slots { dead = word })) c no_slots)
          (record b { unique = without address_of b.unique (place_of word) }) (with_dead k.layout class (word ∷ k.layout.dead class)))
          (sym (marked-table t v word size false written most_is
          (ap (λ ws. λ (i : ℕ). slice_index ws i) words_is ∙ read-set t.words.items word slots.dead 0 empty-word) live_is free_is rows_is
          ∙ ap (λ n. record (with_marks (table_of t) word n false) { word = written }) many))
          (subst (λ f. IsTied (record (with_marks (table_of t) word (2 ^ class) false) { word = written }) lexicals f
          (record b { unique = without address_of b.unique (place_of word) }) (with_dead k.layout class (word ∷ k.layout.dead class)))
          (sym (read-set classes class (record slots { dead = word }) no_slots (class-there t lexicals classes b k class empty-class))) freed-tied);
    })
