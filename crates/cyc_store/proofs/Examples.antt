-- This file has examples of requests to a store of three pages, each proved by computation.
use Rattle.std.proofs.Common.{◌≡◌, ℕ, ◌+◌, ◌*◌, Some, None, refl}
use Rattle.cyc_store.specs.State.{StoreState, start, demand}
use Rattle.cyc_store.specs.Services.{Call, OpenLexical, CloseTo, OpenDynamic, CloseDynamic, Allocate, Free, BadMark, BadHandle, BadSize, NotABlock, Full, Choice, served, refusal}
use Rattle.cyc_store.specs.declared.range.TheConstants.{HEAP, STORE_BASE, UNIQUE}

abbrev choose : (handle address : ℕ) → Choice
choose handle address = record { handle = handle; address = address; memory = λ (x : ℕ). 0 }

-- The address of a word, given the index of the word's page and the index of the word in the page.
abbrev at : (page word : ℕ) → ℕ
at page word = STORE_BASE + 4 * (1024 * page + word)

abbrev then_do : StoreState → Call → (handle address : ℕ) → StoreState
then_do s call handle address = served s call (choose handle address)

abbrev new : StoreState
new = start 3 (λ (x : ℕ). 0)

-- ---- a region

abbrev open_one : StoreState
open_one = then_do new OpenLexical 3 0

abbrev filled : StoreState
filled =
    then_do (then_do (then_do (then_do open_one (Allocate 3 1000) 0 (at 1 0)) (Allocate 3 24) 0 (at 1 1000)) (Allocate 3 1) 0 (at 2 0)) (Allocate 3 1000) 0 (at 2 1)

-- Examples: a new store needs one page, for the heap. An open region needs a second page, and after
-- it is filled a third one; then the store is out of pages.
demand_of_new : demand new ≡ 1
demand_of_new = refl

open_demand : demand open_one ≡ 2
open_demand = refl

filled_demand : demand filled ≡ 3
filled_demand = refl

next_is_full : refusal filled (Allocate 3 24) ≡ Some Full
next_is_full = refl

rest_is_not : refusal filled (Allocate 3 23) ≡ None
rest_is_not = refl

heap_is_not : refusal filled (Allocate HEAP 1000) ≡ None
heap_is_not = refl

region_is_full : refusal filled OpenDynamic ≡ Some Full
region_is_full = refl

-- These examples show requests that the store refuses, one reason after the other, in the order in which the store tests the reasons.
empty_block : refusal filled (Allocate 3 0) ≡ Some BadSize
empty_block = refl

large_block : refusal filled (Allocate 3 1001) ≡ Some BadSize
large_block = refl

no_region : refusal filled (Allocate 77 0) ≡ Some BadHandle
no_region = refl

no_mark : refusal filled (CloseTo 2) ≡ Some BadMark
no_mark = refl

same_mark : refusal filled (CloseTo 1) ≡ None
same_mark = refl

no_dynamic : refusal filled (CloseDynamic 3) ≡ Some BadHandle
no_dynamic = refl

no_unique : refusal filled (Free (at 1 0)) ≡ Some NotABlock
no_unique = refl

-- A region that is closed frees its pages; a new region may get its handle and its addresses.
closed_demand : demand (then_do filled (CloseTo 0) 0 0) ≡ 1
closed_demand = refl

closed_handle : refusal (then_do filled (CloseTo 0) 0 0) (Allocate 3 1) ≡ Some BadHandle
closed_handle = refl

opened_again : demand (then_do (then_do filled (CloseTo 0) 0 0) OpenLexical 3 0) ≡ 2
opened_again = refl

-- ---- unique blocks

abbrev three_halves : StoreState
three_halves =
    then_do (then_do (then_do new (Allocate UNIQUE 512) 0 (at 1 0)) (Allocate UNIQUE 512) 0 (at 1 512)) (Allocate UNIQUE 512) 0 (at 2 0)

abbrev freed : StoreState
freed = then_do (then_do (then_do three_halves (Free (at 1 512)) 0 0) (Free (at 1 0)) 0 0) (Free (at 2 0)) 0 0

abbrev four_halves : StoreState
four_halves =
    then_do (then_do (then_do (then_do freed (Allocate UNIQUE 512) 0 (at 2 0)) (Allocate UNIQUE 512) 0 (at 1 0)) (Allocate UNIQUE 512) 0 (at 1 512)) (Allocate UNIQUE 512) 0 (at 2 512)

halves_demand : demand three_halves ≡ 3
halves_demand = refl

freed_demand : demand freed ≡ 3
freed_demand = refl

freed_twice : refusal freed (Free (at 1 0)) ≡ Some NotABlock
freed_twice = refl

inside_a_block : refusal three_halves (Free (at 1 1)) ≡ Some NotABlock
inside_a_block = refl

freed_is_not_full : refusal freed (Allocate UNIQUE 512) ≡ None
freed_is_not_full = refl

other_class_is_full : refusal freed (Allocate UNIQUE 256) ≡ Some Full
other_class_is_full = refl

four_demand : demand four_halves ≡ 3
four_demand = refl

fifth_is_full : refusal four_halves (Allocate UNIQUE 512) ≡ Some Full
fifth_is_full = refl
