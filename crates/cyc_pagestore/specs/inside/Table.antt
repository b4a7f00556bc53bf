-- A page table over a pool: its meaning, the effect of its calls, and its representation by the pool.
use Rattle.std.specs.Prelude.{◌≡◌, ℕ, ◌+◌, ◌*◌, ◌^◌, ◌<◌, ◌≤◌, ◌⊎◌, Bool, true, false, List, [], ◌∷◌, length, replicate, set, slice_index, slice_index_or}
use Rattle.std.specs.List.{AllByRecursion}
use Rattle.cyc_words.specs.Distinct.{IsDistinct}
use Rattle.cyc_store.specs.Table.{free_row, row_at, given_rows, given_free, marked_between}
use Rattle.cyc_store.specs.inside.Kept.{IsChain, IsOneOf, numbers_from}
use Rattle.cyc_store.specs.declared.row.Role.{Role}
use Rattle.cyc_store.specs.declared.row.Role.TheVariants.{Rest, Heap, Lexical, Dynamic}
use Rattle.cyc_store.specs.declared.row.Row.{Row}
use Rattle.cyc_store.specs.declared.row.TheConstants.{NONE}
use Rattle.cyc_rawpages.specs.inside.Lists.{chain_at}
use Rattle.cyc_rawpages.specs.inside.Pool.{PoolState, IsFree}
use Rattle.cyc_pagestore.specs.declared.table.Spot.{Spot}
use Rattle.cyc_pagestore.specs.inside.Links.{Links, head_or_none, relinked, removed, first_of, added_rows, slots_of}
use Rattle.cyc_pagestore.specs.inside.Live.{filled_by, reach_by, IsWhole}

-- The readable state of a page table: a row for each page, the first free page, and all pages' words and marks of live words.
pub record TableState : Type 0 where
  pub most : ℕ
  pub words : List ℕ
  pub live : List Bool
  pub rows : List Row
  pub free : ℕ

abbrev pub row_of : TableState → (page : ℕ) → Row
row_of t page = row_at t.rows page

-- Returns a page table whose pages are all free.
abbrev pub blank_table : (pages : ℕ) → TableState
blank_table pages = record {
  most = pages;
  words = replicate (1024 * pages) 0;
  live = replicate (1024 * pages) false;
  rows = relinked (replicate pages (free_row NONE)) (numbers_from 0 pages);
  free = head_or_none (numbers_from 0 pages);
}

-- Says that no region's chain of pages begins at a free page of a pool.
pub record AreAlone (p : PoolState) : Type 0 where
  pub free : length p.free ≡ p.pages
  pub chains : length p.chains ≡ p.pages
  pub alone : (page : ℕ) → IsFree p.free page → chain_at p.chains page ≡ []

-- Says that no page of the page table is free.
pub record IsFull (t : TableState) : Type 0 where
  pub past : length t.rows ≤ t.free
  pub all : t.most ≤ length t.rows

-- Says that no page with a word from `end` on is in use.
abbrev pub IsIdlePast : TableState → (end : ℕ) → Type 0
IsIdlePast t end = (page : ℕ) → page < t.most → (((row_of t page).role ≡ Rest) × ((row_of t page).filled ≡ 0)) ⊎ (1024 * page + 1024 ≤ end)

-- Says that the role of a page (its use in the page table) is that of a region's first page.
abbrev pub IsRoot : Role → Type 0
IsRoot role = (role ≡ Heap) ⊎ ((role ≡ Lexical) ⊎ (role ≡ Dynamic))

-- ---- effects of the calls

-- Says that a given free page is taken; it may be any free page, because the free pages are first relinked so that it comes first.
pub record Takes (old middle : TableState) (page : ℕ) : Type 0 where
  pub order : List ℕ
  pub linked : IsChain (λ (p : ℕ). (row_of old p).next) old.free order
  pub inside : IsOneOf order page
  pub within : AllByRecursion (λ (p : ℕ). p < length old.rows) order
  pub apart : IsDistinct order
  pub is : middle ≡ record old { rows = relinked old.rows (page ∷ removed order page); free = head_or_none (removed order page) }

pub record Opens (old new : TableState) (page : ℕ) (role : Role) : Type 0 where
  pub middle : TableState
  pub takes : Takes old middle page
  pub is : new ≡ record middle { rows = set middle.rows page (first_of role page) }

pub record Adds (old new : TableState) (root page words : ℕ) : Type 0 where
  pub middle : TableState
  pub takes : Takes old middle page
  pub is : new ≡ record middle { rows = added_rows middle.rows root page words }

pub record Cuts (old new : TableState) (page class : ℕ) : Type 0 where
  pub middle : TableState
  pub takes : Takes old middle page
  pub is : new ≡ record middle { rows = set middle.rows page (slots_of class) }

abbrev pub Fills : (old new : TableState) → (page filled : ℕ) → Type 0
Fills old new page filled = new ≡ record old { rows = set old.rows page (record (row_of old page) { filled = filled }) }

-- Says that all pages of a region are freed, with the same result as freeing them one after another.
abbrev pub Closes : (old new : TableState) → (root : ℕ) → Type 0
Closes old new root = new ≡ record old {
  rows = given_rows old.rows (row_of old root).newest (row_of old root).count old.free;
  free = given_free old.rows (row_of old root).newest (row_of old root).count old.free;
}

pub record Marks (old new : TableState) (first count : ℕ) (mark : Bool) : Type 0 where
  pub same : new ≡ record old { live = new.live }
  pub whole : length new.live ≡ length old.live
  pub live : (word : ℕ) → slice_index_or new.live word false ≡ marked_between (λ (other : ℕ). slice_index_or old.live other false) first count mark word

-- ---- the representation by a pool

abbrev pub no_spot : Spot
no_spot = record { role = Rest; newest = NONE }

abbrev pub spot_at : List Spot → (page : ℕ) → Spot
spot_at spots page = slice_index_or spots page no_spot

-- The readable state of a pool, and of the page table's data stored outside the pool.
pub record Backing : Type 0 where
  pub pages : ℕ
  pub serial : ℕ → ℕ
  pub owner : ℕ → ℕ
  pub fill : ℕ → ℕ
  pub free : ℕ → Bool
  pub chain : ℕ → List ℕ
  pub role : ℕ → Role
  pub newest : ℕ → ℕ

abbrev pub backing_of : PoolState → List Spot → Backing
backing_of p spots = record {
  pages = p.pages;
  serial = λ (page : ℕ). slice_index p.serials page;
  owner = λ (page : ℕ). slice_index p.owners page;
  fill = λ (page : ℕ). filled_by p.fills page;
  free = λ (page : ℕ). slice_index_or p.free page false;
  chain = λ (page : ℕ). chain_at p.chains page;
  role = λ (page : ℕ). (spot_at spots page).role;
  newest = λ (page : ℕ). (spot_at spots page).newest;
}

abbrev pub reach_of : Backing → (page : ℕ) → ℕ
reach_of b page = reach_by b.serial b.owner b.fill page

-- Says that a page belongs to the region whose first page is `root`.
pub record IsMember (b : Backing) (root page : ℕ) : Type 0 where
  pub there : page < b.pages
  pub owner : b.owner page ≡ root
  pub serial : b.serial page ≡ b.serial root
  pub taken : b.free page ≡ false
  pub role : (page ≡ root → ⊥) → b.role page ≡ Rest
  pub inner : (page ≡ root → ⊥) → b.chain page ≡ []

-- Says that an open region's pages, linked newest first by their rows of the page table, are the pool's chain that begins with the
-- region's first page.
pub record IsRegion (b : Backing) (row : ℕ → Row) (root : ℕ) : Type 0 where
  pub chain : List ℕ
  pub linked : IsChain (λ (p : ℕ). (row p).next) (row root).newest chain
  pub count : (row root).count ≡ length chain
  pub apart : IsDistinct chain
  pub rest : List ℕ
  pub head : b.chain root ≡ root ∷ rest
  pub pooled : (page : ℕ) → IsOneOf chain page → IsOneOf (b.chain root) page
  pub chained : (page : ℕ) → IsOneOf (b.chain root) page → IsOneOf chain page
  pub members : (page : ℕ) → IsOneOf chain page → IsMember b root page

pub record Backs (b : Backing) (next : ℕ) (row : ℕ → Row) (first : ℕ) (order : List ℕ) : Type 0 where
  pub few : b.pages ≤ 65536
  pub owned : (page : ℕ) → page < b.pages → b.owner page < b.pages
  pub newer : (page : ℕ) → page < b.pages → b.serial page < next
  pub one : (page other : ℕ) → page < b.pages → other < b.pages → b.serial page ≡ b.serial other → b.owner page ≡ b.owner other
  pub filled : (page : ℕ) → page < b.pages → (row page).filled ≡ reach_of b page
  pub role : (page : ℕ) → page < b.pages → (row page).role ≡ b.role page
  pub newest : (page : ℕ) → page < b.pages → (row page).newest ≡ b.newest page
  pub idle : (page : ℕ) → page < b.pages → b.role page ≡ Rest → b.newest page ≡ NONE
  pub held : (page : ℕ) → page < b.pages → (reach_of b page ≡ 0) ⊎ (IsRoot (b.role (b.owner page)) × IsOneOf (b.chain (b.owner page)) page)
  pub linked : IsChain (λ (p : ℕ). (row p).next) first order
  pub apart : IsDistinct order
  pub free : (page : ℕ) → IsOneOf order page → (page < b.pages) × (b.free page ≡ true)
  pub all : (page : ℕ) → page < b.pages → b.free page ≡ true → IsOneOf order page
  pub unused : (page : ℕ) → IsOneOf order page → b.role page ≡ Rest
  pub root : (page : ℕ) → page < b.pages → IsRoot (b.role page) → IsRegion b row page

pub record IsBacked (p : PoolState) (pages : ℕ) (spots : List Spot) (next : ℕ) (l : Links) : Type 0 where
  pub counted : pages ≡ p.pages
  pub whole : IsWhole p
  pub words : length p.words ≡ 1024 * p.pages
  pub bits : length p.bits ≡ 1024 * p.pages
  pub free : length p.free ≡ p.pages
  pub chains : length p.chains ≡ p.pages
  pub placed : length spots ≡ p.pages
  pub rows : length l.rows ≡ p.pages
  pub last : next < 2 ^ 64
  pub backs : Backs (backing_of p spots) next (λ (page : ℕ). row_at l.rows page) l.free l.order
