-- The values stored in a page pool, and their representation in a block of words.
use Rattle.std.specs.Prelude.{◌≡◌, ℕ, zero, suc, replicate, ◌+◌, ◌*◌, ◌/◌, ◌%◌, ◌^◌, ◌<◌, ◌≤◌, ◌==◌, ◌&&◌, ◌⊎◌, nat_le, nat_lt, Bool, true, false, if◌then◌else◌, List, [], ◌∷◌, length, slice_index, slice_index_or}
use Rattle.std.specs.List.{AllByRecursion}
use Rattle.std.specs.Int.{bit_at}
use Rattle.cyc_rawpages.specs.inside.Lists.{Lists, chain_at, numbers_from, is_among}
use Rattle.cyc_rawpages.specs.inside.Words.{Parts}
use Rattle.cyc_rawpages.specs.declared.header.TheConstants.{PAGE_WORDS, HEADER_WORDS, HEAD_WORDS, MOST_PAGES, FILL, OWNER, LOW, HIGH, NEXT, TAIL, NONE}

-- The lists `words` and `bits` have 1,024 elements for each page, and the other lists have one element for each page. All lists
-- are in the order of the page numbers.
pub record PoolState : Type 0 where
  pub pages : ℕ
  pub words : List ℕ
  pub fills : List ℕ
  pub owners : List ℕ
  pub serials : List ℕ
  pub bits : List Bool
  -- For each page, true if the page is free.
  pub free : List Bool
  -- For each page, the pages of the chain that begins with the page, in the order of their links. The list is empty if the page is not
  -- the head of a chain.
  pub chains : List (List ℕ)

abbrev pub IsFree : (free : List Bool) → (page : ℕ) → Type 0
IsFree free page = slice_index_or free page false ≡ true

-- Says that a page is the head (first page) of a chain of linked pages.
abbrev pub IsHead : List (List ℕ) → (page : ℕ) → Type 0
IsHead chains page = (rest : List ℕ) × (chain_at chains page ≡ page ∷ rest)

abbrev pub new_pool : (pages : ℕ) → PoolState
new_pool pages = record {
  pages = pages;
  words = replicate (PAGE_WORDS * pages) 0;
  fills = replicate pages 0;
  owners = replicate pages 0;
  serials = replicate pages 0;
  bits = replicate (PAGE_WORDS * pages) false;
  free = replicate pages true;
  chains = replicate pages [];
}

-- Gives each bit of the pool after `count` bits, from `first` on, are set to `value` and the others are left as they were.
abbrev pub between : (old : ℕ → Bool) → (first count : ℕ) → (value : Bool) → ℕ → Bool
between old first count value number = if nat_le first number && nat_lt number (first + count) then value else old number

-- ---- the representation in the block

-- The list `f 0`, `f 1`, .. with `count` elements.
abbrev pub tabulate : {A : Type 0} → (count : ℕ) → (ℕ → A) → List A
tabulate zero f = []
tabulate (suc count) f = f 0 ∷ tabulate count (λ k. f (suc k))

-- The index of a field of a page's header, among the words at the pool's start. These words hold, for
-- each page, a header and 1,024 bits, one for each word of the page.
abbrev pub header_at : (page field : ℕ) → ℕ
header_at page field = HEAD_WORDS * page + field

abbrev pub field_of : Parts → (field page : ℕ) → ℕ
field_of raw field page = slice_index raw.heads (header_at page field)

abbrev pub serial_of : Parts → (page : ℕ) → ℕ
serial_of raw page = field_of raw LOW page + 2 ^ 32 * field_of raw HIGH page

-- The index of the word that contains a bit; each page has 1,024 bits, one for each of its words. The words with a page's bits follow
-- the page's header. Bits are numbered across all pages.
abbrev pub bits_at : (number : ℕ) → ℕ
bits_at number = header_at (number / PAGE_WORDS) (HEADER_WORDS + number % PAGE_WORDS / 32)

abbrev pub bit_of : Parts → (number : ℕ) → Bool
bit_of raw number = bit_at (slice_index raw.heads (bits_at number)) (number % 32) == 1

abbrev pub state_of : (pages : ℕ) → Parts → Lists → PoolState
state_of pages raw l = record {
  pages = pages;
  words = raw.words;
  fills = tabulate pages (field_of raw FILL);
  owners = tabulate pages (field_of raw OWNER);
  serials = tabulate pages (serial_of raw);
  bits = tabulate (PAGE_WORDS * pages) (bit_of raw);
  free = tabulate pages (is_among l.free);
  chains = l.chains;
}

-- ---- the representation by links in the headers

abbrev pub put : (ℕ → ℕ) → (at value : ℕ) → ℕ → ℕ
put f at value = λ (other : ℕ). if other == at then value else f other

-- Says that, beginning with `first`, each page of a list links to the next page, and the last page links to `end`.
abbrev pub IsLinked : (next : ℕ → ℕ) → (first : ℕ) → List ℕ → (end : ℕ) → Type 0
IsLinked next first [] end = first ≡ end
IsLinked next first (x ∷ xs) end = (first ≡ x) × IsLinked next (next x) xs end

-- Says that, beginning with `first`, each page links to the next page, up to the page `last`.
abbrev pub Runs : (next : ℕ → ℕ) → (first : ℕ) → (rest : List ℕ) → (last : ℕ) → Type 0
Runs next first [] last = first ≡ last
Runs next first (x ∷ xs) last = (next first ≡ x) × Runs next x xs last

abbrev pub IsDistinct : List ℕ → Type 0
IsDistinct [] = Unit {0}
IsDistinct (x ∷ xs) = AllByRecursion (λ y. x ≡ y → ⊥) xs × IsDistinct xs

-- Says that a page exists and has the given home: the head of its chain, or `NONE` if the page is free.
abbrev pub IsIn : (pages : ℕ) → (home : ℕ → ℕ) → (where_to page : ℕ) → Type 0
IsIn pages home where_to page = (page < pages) × (home page ≡ where_to)

-- Says that a chain is empty, or begins with its head and follows links to the tail that the head stores.
abbrev pub IsChain : (pages : ℕ) → (next tail home : ℕ → ℕ) → (head : ℕ) → List ℕ → Type 0
IsChain pages next tail home head [] = Unit {0}
IsChain pages next tail home head (x ∷ xs) =
    (x ≡ head) × Runs next x xs (tail head) × IsDistinct (x ∷ xs) × AllByRecursion (IsIn pages home head) (x ∷ xs)

-- Says that the pages of a pool are linked consistently. No page is in two lists, because each page has one home:
-- the head of its chain, or `NONE` if it is free.
pub record IsLinkedUp (pages : ℕ) (next tail : ℕ → ℕ) (first : ℕ) (l : Lists) : Type 0 where
  pub few : pages ≤ MOST_PAGES
  pub many : length l.chains ≡ pages
  pub home : ℕ → ℕ
  pub linked : IsLinked next first l.free NONE
  pub unused : AllByRecursion (IsIn pages home NONE) l.free
  pub apart : IsDistinct l.free
  pub run : (head : ℕ) → head < pages → IsChain pages next tail home head (chain_at l.chains head)

pub record IsPool (pages : ℕ) (raw : Parts) (first : ℕ) (l : Lists) : Type 0 where
  pub whole : length raw.heads ≡ HEAD_WORDS * pages
  pub words : length raw.words ≡ PAGE_WORDS * pages
  pub up : IsLinkedUp pages (field_of raw NEXT) (field_of raw TAIL) first l
  -- The words of each page that is not free are initialised.
  pub made : (page : ℕ) → page < pages → (is_among l.free page ≡ true) ⊎ (PAGE_WORDS * page + PAGE_WORDS ≤ raw.made)

-- Says that all pages are linked one after the other, and that no other word is written.
pub record LinksAll (pages : ℕ) (old new : Parts) (first : ℕ) : Type 0 where
  pub whole : length new.heads ≡ HEAD_WORDS * pages
  pub words : new.words ≡ old.words
  pub same : (l : Lists) → state_of pages new l ≡ state_of pages old l
  pub linked : IsLinked (field_of new NEXT) first (numbers_from 0 pages) NONE
