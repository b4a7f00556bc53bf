-- The free pages of a pool and its chains of linked pages, as lists, and the effect of the pool's functions on these lists.
use Rattle.std.specs.Prelude.{◌==◌, ℕ, zero, suc, Bool, true, false, if◌then◌else◌, List, [], ◌∷◌, ◌++◌, drop, replicate, slice_index_or, set}
use Rattle.cyc_rawpages.specs.declared.change.Change.{Change}
use Rattle.cyc_rawpages.specs.declared.change.Change.TheVariants.{Made, Taken, Pushed, Given}

-- The free pages in the order of their links, and for each page the chain that begins with the page.
pub record Lists : Type 0 where
  pub free : List ℕ
  pub chains : List (List ℕ)

-- The chain of linked pages with the given head (first page); the chain is empty if the page is not a head.
abbrev pub chain_at : List (List ℕ) → (head : ℕ) → List ℕ
chain_at chains head = slice_index_or chains head []

-- The list of the `count` numbers from `first` on.
abbrev pub numbers_from : (first count : ℕ) → List ℕ
numbers_from first zero = []
numbers_from first (suc count) = first ∷ numbers_from (suc first) count

abbrev pub no_pages : Lists
no_pages = record { free = []; chains = [] }

abbrev pub all_free : (pages : ℕ) → Lists
all_free pages = record { free = numbers_from 0 pages; chains = replicate pages [] }

abbrev pub after : Lists → Change → Lists
after l (Made pages) = all_free pages
after l (Taken page) = record { free = drop 1 l.free; chains = set l.chains page (page ∷ []) }
after l (Pushed head page) = record l { chains = set (set l.chains head (chain_at l.chains head ++ page ∷ [])) page [] }
after l (Given head) = record { free = chain_at l.chains head ++ l.free; chains = set l.chains head [] }

-- ---- the free pages as a set

abbrev pub is_among : List ℕ → (page : ℕ) → Bool
is_among [] page = false
is_among (x ∷ xs) page = if page == x then true else is_among xs page

-- For each page, true if the page is free after the given pages are freed.
abbrev pub freed : (free : List Bool) → (pages : List ℕ) → List Bool
freed free [] = free
freed free (page ∷ pages) = set (freed free pages) page true
