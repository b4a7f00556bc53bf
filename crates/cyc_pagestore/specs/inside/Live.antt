-- Definitions of the live words of a page, which depend on the serial numbers of pages, and of the effect of renumbering all pages.
use Rattle.std.specs.Prelude.{◌≡◌, ℕ, ◌+◌, ◌*◌, ◌-◌, ◌^◌, ◌<◌, ◌≤◌, ◌==◌, if◌then◌else◌, List, length, slice_index}
use Rattle.cyc_rawpages.specs.inside.Pool.{PoolState}

-- Returns the number of filled words of a page. A page's fill mark counts the words of all pages up to the page's last filled word; a
-- smaller fill mark means that no word of the page is filled.
abbrev pub filled_by : (fills : List ℕ) → (page : ℕ) → ℕ
filled_by fills page = slice_index fills page - 1024 * page

-- Returns the number of live words of a page: its filled words if the page has the serial of its owner (its region's first page),
-- so that its region is still open. If the region of the page is closed, no word is live.
abbrev pub reach_by : (serial owner fill : ℕ → ℕ) → (page : ℕ) → ℕ
reach_by serial owner fill page = if serial page == serial (owner page) then fill page else 0

abbrev pub reach : PoolState → (page : ℕ) → ℕ
reach p page = reach_by (λ (q : ℕ). slice_index p.serials q) (λ (q : ℕ). slice_index p.owners q) (λ (q : ℕ). filled_by p.fills q) page

-- Says that the pool stores a fill mark (the end of the filled words), an owner (its region's first page) and a
-- serial for each page. Each page's owner is a page.
pub record IsWhole (p : PoolState) : Type 0 where
  pub few : p.pages ≤ 65536
  pub fills : length p.fills ≡ p.pages
  pub owners : length p.owners ≡ p.pages
  pub serials : length p.serials ≡ p.pages
  pub owned : (page : ℕ) → page < p.pages → slice_index p.owners page < p.pages

abbrev pub AreNewer : PoolState → (next : ℕ) → Type 0
AreNewer p next = (page : ℕ) → page < p.pages → slice_index p.serials page < next

-- Says that pages with equal serial numbers have equal owners (first pages of their regions).
abbrev pub AreOne : PoolState → Type 0
AreOne p = (page other : ℕ) → page < p.pages → other < p.pages → slice_index p.serials page ≡ slice_index p.serials other → slice_index p.owners page ≡ slice_index p.owners other

-- Says how renumbering changes a pool: the live words become the filled words, and each page's serial becomes the number of its owner (its
-- region's first page) plus one.
pub record Renumbers (old new : PoolState) : Type 0 where
  pub same : new ≡ record old { fills = new.fills; serials = new.serials }
  pub fills : (page : ℕ) → page < old.pages → filled_by new.fills page ≡ reach old page
  pub serials : (page : ℕ) → page < old.pages → slice_index new.serials page ≡ slice_index old.owners page + 1
  pub fill_count : length new.fills ≡ length old.fills
  pub serial_count : length new.serials ≡ length old.serials

-- Says that a serial is greater than those of all pages. To get a serial above those of all pages, all
-- pages may have been renumbered, which keeps the live words.
pub record Readies (old new : PoolState) (serial : ℕ) : Type 0 where
  pub same : new ≡ record old { fills = new.fills; serials = new.serials }
  pub fill_count : length new.fills ≡ length old.fills
  pub serial_count : length new.serials ≡ length old.serials
  pub reach : (page : ℕ) → page < old.pages → reach new page ≡ reach old page
  pub newer : AreNewer new serial
  pub few : serial < 2 ^ 64 - 1
  pub one : AreOne new
  pub kept : (page other : ℕ) → page < old.pages → other < old.pages → slice_index old.serials page ≡ slice_index old.serials other → slice_index new.serials page ≡ slice_index new.serials other
