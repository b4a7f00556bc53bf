-- This file is about allocated and freed blocks: allocated blocks are live, freed blocks are not, and the handle of a closed
-- dynamic region names no region.
use Rattle.std.proofs.Common.{◌≡◌, ℕ, ◌∷◌, Option, None, Some, true, refl, sym, ap, subst, ◌∙◌, inl, inr}
use Rattle.std.specs.Prelude.{is_some, if◌then◌else◌}
use Rattle.std.proofs.lemmas.Bool.{cases_eq}
use Rattle.cyc_words.proofs.Booleans.{some_there}
use Rattle.cyc_words.proofs.Numbers.{when_equal}
use Rattle.cyc_words.proofs.Options.{none_or_some, never_none_and_some}
use Rattle.cyc_store.specs.State.{lookup, without, changed, Block, address_of, Uniques, Home, handle_of, StoreState, homes, covers, block_in, block_at, with_block, room}
use Rattle.cyc_store.specs.Services.{Allocate, CloseDynamic, Free, Refusal, BadHandle, BadSize, Refused, Done, Allocated, block_of, made, is_full, full_at, is_size, refusal, IsPlaced, IsApart, ServesBy, Serves}
use Rattle.cyc_store.specs.Soundness.{IsSound}
use Rattle.cyc_store.specs.declared.range.TheConstants.{UNIQUE}
use Rattle.cyc_store.proofs.LookupLemmas.{when_other, lookup-key, lookup-append_new, lookup-changed_same, lookup-without}
use Rattle.cyc_store.proofs.HolderLemmas.{covers_first}
use Rattle.cyc_store.proofs.ServiceLemmas.{made-unique, made-in, then-none}

homes-made : (s : StoreState) (h : ℕ) (b : Block) → homes (made s h b) ≡ changed handle_of (with_block b) (homes s) h
homes-made s h b = elim (cases_eq h UNIQUE) [
  | inl same ↦
      ap homes (made-unique s h b same)
      ∙ sym (when_equal UNIQUE h
      (with_block b (record { handle = UNIQUE; sort = Uniques; blocks = s.unique }) ∷ s.regions)
      (record { handle = UNIQUE; sort = Uniques; blocks = s.unique } ∷ changed handle_of (with_block b) s.regions h)
      (sym same))
  | inr other ↦
      ap homes (made-in s h b other)
      ∙ sym (when_other UNIQUE h
      (with_block b (record { handle = UNIQUE; sort = Uniques; blocks = s.unique }) ∷ s.regions)
      (record { handle = UNIQUE; sort = Uniques; blocks = s.unique } ∷ changed handle_of (with_block b) s.regions h)
      (λ e. other (sym e)))
]

-- No live block of a region has the same address as a new block.
pub address-fresh_in : (s : StoreState) (h : ℕ) (r : Home) (b : Block) → IsSound s → lookup handle_of (homes s) h ≡ Some r → IsPlaced s.pages b → IsApart (homes s) b
    → lookup address_of r.blocks b.address ≡ None
address-fresh_in s h r b sound there placed apart = elim (none_or_some (lookup address_of r.blocks b.address)) [
  | inl none ↦ none
  | inr old ↦
      let at : block_at (homes s) h b.address ≡ Some old.0 = ap (λ o. block_in o b.address) there ∙ old.1 in
      let inside : covers old.0 b.address ≡ true =
      subst (λ n. covers old.0 n ≡ true) (lookup-key address_of r.blocks b.address old.0 old.1)
      (covers_first old.0 (sound.regions.placed h b.address old.0 at).some) in
      absurd (never_none_and_some (apart b.address (covers_first b placed.some)) (sound.regions.apart h b.address b.address old.0 at inside))
]

made-there : (s : StoreState) (h : ℕ) (r : Home) (b : Block) → IsSound s → lookup handle_of (homes s) h ≡ Some r → IsPlaced s.pages b → IsApart (homes s) b
    → block_at (homes (made s h b)) h b.address ≡ Some b
made-there s h r b sound there placed apart =
    ap (λ l. block_at l h b.address) (homes-made s h b)
    ∙ (ap (λ o. block_in o b.address) (lookup-changed_same handle_of (with_block b) (λ q. refl) (homes s) h r there)
    ∙ lookup-append_new address_of r.blocks b b.address (address-fresh_in s h r b sound there placed apart) refl)

-- An allocated block is live. An allocated block has the requested number of words or, if it is a unique block, the size of its size class.
pub serves-made : (s t : StoreState) (h n x : ℕ) → IsSound s → Serves s (Allocate h n) (Allocated x) t
    → block_at (homes t) h x ≡ Some (record { address = x; size = room h n })
serves-made s t h n x sound serves = by (refusal s (Allocate h n)) refl serves
  where
    by : (o : Option Refusal) → refusal s (Allocate h n) ≡ o → ServesBy s (Allocate h n) o (Allocated x) t
        → block_at (homes t) h x ≡ Some (record { address = x; size = room h n })
    by None none (c, allowed, e, is) =
        let (named, rest) = then-none (is_some (lookup handle_of (homes s) h)) (if is_size n then full_at (is_full s (Allocate h n)) else Some BadSize) BadHandle none in
        let (r, there) = some_there (lookup handle_of (homes s) h) named in
        let same : x ≡ c.address = cc in
        ap (λ (u : StoreState). block_at (homes u) h x) is
        ∙ subst (λ a. block_at (homes (made s h (block_of h n c))) h a ≡ Some (record { address = a; size = room h n })) (sym same)
        (made-there s h r (block_of h n c) sound there allowed.may.0 allowed.may.1)
    by (Some why) some (e, is) = absurd (let k : Allocated x ≡ Refused why = e in cc)

-- A block is not live after it is freed.
pub serves-freed : (s t : StoreState) (f : ℕ) → Serves s (Free f) Done t → block_at (homes t) UNIQUE f ≡ None
serves-freed s t f serves = by (refusal s (Free f)) serves
  where
    by : (o : Option Refusal) → ServesBy s (Free f) o Done t → block_at (homes t) UNIQUE f ≡ None
    by None (c, allowed, e, is) =
        ap (λ (u : StoreState). block_at (homes u) UNIQUE f) is
        ∙ (ap (λ o. block_in o f)
        (when_equal UNIQUE UNIQUE (Some (record { handle = UNIQUE; sort = Uniques; blocks = without address_of s.unique f })) (lookup handle_of s.regions UNIQUE) refl)
        ∙ lookup-without address_of s.unique f)
    by (Some why) (e, is) = absurd (let k : Done ≡ Refused why = e in cc)

-- The handle of a dynamic region names no region after the region is closed.
pub serves-closed : (s t : StoreState) (h : ℕ) → Serves s (CloseDynamic h) Done t → lookup handle_of t.regions h ≡ None
serves-closed s t h serves = by (refusal s (CloseDynamic h)) serves
  where
    by : (o : Option Refusal) → ServesBy s (CloseDynamic h) o Done t → lookup handle_of t.regions h ≡ None
    by None (c, allowed, e, is) = ap (λ (u : StoreState). lookup handle_of u.regions h) is ∙ lookup-without handle_of s.regions h
    by (Some why) (e, is) = absurd (let k : Done ≡ Refused why = e in cc)
