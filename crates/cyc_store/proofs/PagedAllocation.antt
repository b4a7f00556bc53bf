-- If a store's blocks are laid out in pages and enough pages are left, an address for a region's new block exists that
-- keeps the blocks laid out so.
use Rattle.std.proofs.Common.{◌≡◌, ℕ, ◌+◌, ◌*◌, ◌<◌, ◌≤◌, List, [], ◌∷◌, Some, refl, sym, subst, inl, inr, arith}
use Rattle.std.specs.Prelude.{◌⊎◌}
use Rattle.cyc_store.specs.State.{lookup, Home, handle_of, StoreState, homes, demand, made_in, room}
use Rattle.cyc_store.specs.Services.{Allocate, Choice, block_of, served, IsPlaced, IsApart, IsAllowed}
use Rattle.cyc_store.specs.Soundness.{IsSound}
use Rattle.cyc_store.specs.declared.range.TheConstants.{PAGE_WORDS, UNIQUE}
use Rattle.cyc_store.proofs.ServiceLemmas.{made-in}
use Rattle.cyc_store.specs.Pages.{page_start, Pages, filled_to, drawn, mark_of, HasChain, IsPaged}
use Rattle.cyc_store.proofs.PageServices.{stays-placed, drawn-placed, full-without}
use Rattle.cyc_store.proofs.PagedRegions.{block_in_page, paged-stays, paged-draws}

-- Says that the blocks of a store are laid out in pages, of which a list of pages is free.
pub record ArePages (s : StoreState) : Type 0 where
  pub pages : Pages
  pub free : List ℕ
  pub paged : IsPaged s pages free

-- Says that the store relation allows a choice of address after which the store has a layout in pages.
pub record FindsPlace (s : StoreState) (h n : ℕ) : Type 0 where
  pub choice : Choice
  pub allowed : IsAllowed s (Allocate h n) choice
  pub pages : ArePages (served s (Allocate h n) choice)

module _ (s : StoreState) (h n : ℕ) (sound : IsSound s) (ordinary : h ≡ UNIQUE → ⊥) where
  -- The store's choice that places the new block at this address and changes nothing else.
  abbrev chosen : (address : ℕ) → Choice
  chosen address = record { handle = 0; address = address; memory = s.memory }

  found : (address : ℕ) → IsPlaced s.pages (block_of h n (chosen address)) × IsApart (homes s) (block_of h n (chosen address))
      → ArePages (made_in s h (block_of h n (chosen address))) → FindsPlace s h n
  found address may pages = record {
    choice = chosen address;
    allowed = record { may = may; keeps = λ x held here there. refl; words = sound.words };
    pages = subst (λ (t : StoreState). ArePages (record t { memory = s.memory })) (sym (made-in s h (block_of h n (chosen address)) ordinary)) pages;
  }

  module _ (r : Home) (named : lookup handle_of s.regions h ≡ Some r) (some : 0 < room h n) (small : room h n ≤ PAGE_WORDS) where
    finds : (pages : Pages) (free : List ℕ) → IsPaged s pages free → demand (made_in s h (block_of h n (chosen 0))) ≤ s.pages
        → (PAGE_WORDS < (mark_of r).filled + room h n) ⊎ ((mark_of r).filled + room h n ≤ PAGE_WORDS) → FindsPlace s h n
    finds pages free paged few (inr fits_page) =
        let chain : HasChain pages r = paged.chains h r named in
        found (page_start chain.newest.page + 4 * (mark_of r).filled)
        (stays-placed s pages free paged h r named (block_in_page chain.newest.page (mark_of r).filled (room h n)) chain.newest refl fits_page some)
        (record { pages = filled_to pages chain.newest.page ((mark_of r).filled + room h n); free = free; paged = paged-stays s pages h r named ordinary (room h n) some free paged chain fits_page })
    finds pages [] paged few (inl past) =
        absurd (never s.pages (demand (made_in s h (block_of h n (chosen 0)))) (full-without s pages [] paged h r named (block_of h n (chosen 0)) refl past) few)
      where
        never : (p d : ℕ) → p < d → d ≤ p → ⊥
        never p d less more = omega (arith, less, more)
    finds pages (page ∷ free) paged few (inl past) =
        found (page_start page + 4 * 0)
        (drawn-placed s pages page free paged h (block_in_page page 0 (room h n)) (no_words (page_start page)) some small)
        (record { pages = filled_to (drawn pages page h) page (0 + room h n); free = free; paged = paged-draws s pages h r named ordinary (room h n) some page free paged past small })
      where
        no_words : (m : ℕ) → m + 4 * 0 ≡ m
        no_words m = omega arith
