-- The words stored in a block of memory, as lists.
use Rattle.std.specs.Prelude.{◌≡◌, ℕ, zero, suc, ◌+◌, ◌<◌, ◌≤◌, List, [], ◌∷◌, length, get_or, set, take, drop, Option, Some, None}
use Rattle.std.specs.declared.alloc.Global.{Global}
use Rattle.cyc_rawpages.specs.declared.cells.Start.{Start}
use Rattle.cyc_rawpages.specs.declared.cells.Cells.{Cells}
use Rattle.cyc_rawpages.specs.declared.cells.Lease.{Lease}
use Rattle.cyc_rawpages.specs.inside.Ownership.{IsFilled}

-- The readable part of a block: the header words at its start, the words after them, and how many of the latter are initialised.
pub record Parts : Type 0 where
  pub heads : List ℕ
  pub words : List ℕ
  pub made : ℕ

-- The words stored in a block after one of the header words at its start is written.
abbrev pub headed : Parts → (index word : ℕ) → Parts
headed parts index word = record parts { heads = set parts.heads index word }

-- The words stored in a block after one word is written to each of `count` header words at its start, from index `first` on.
abbrev pub headed_all : Parts → (first count word : ℕ) → Parts
headed_all parts first zero word = parts
headed_all parts first (suc count) word = headed (headed_all parts first count word) (first + count) word

-- The word read from a cell; a cell that was never written is read as 0.
abbrev pub value_of : Option ℕ → ℕ
value_of None = 0
value_of (Some w) = w

abbrev pub words_of : List (Option ℕ) → List ℕ
words_of [] = []
words_of (c ∷ cs) = value_of c ∷ words_of cs

abbrev pub parts_of : (heads made : ℕ) → List (Option ℕ) → Parts
parts_of heads made cs = record { heads = take heads (words_of cs); words = drop heads (words_of cs); made = made }

-- Says that the cells before `end` contain words, and that all other cells are empty.
pub record AreWritten (cs : List (Option ℕ)) (end : ℕ) : Type 0 where
  pub filled : (index : ℕ) → index < end → IsFilled cs index
  pub blank : (index : ℕ) → end ≤ index → get_or cs index None ≡ None

-- Says that the fields of a struct describe one block. The cells of the block's header words contain words, and so do
-- the first `made` cells after them.
pub record IsBlock (start : Start) (count heads made : ℕ) (cells : Cells) (lease : Lease Global) (alloc : Global) : Type 0 where
  pub at : cells.at ≡ start.at
  pub many : length cells.slots ≡ count
  pub few : heads + made ≤ count
  pub written : AreWritten cells.slots (heads + made)
  pub leased : lease.at ≡ start.at
  pub size : lease.count ≡ count
  pub by : lease.alloc ≡ alloc
