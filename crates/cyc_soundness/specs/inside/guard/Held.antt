-- This file defines the set of locals that are known to hold a value at a program point, in the form for proofs about runs. A lent local
-- still holds its value: loans nest like blocks, so the enclosing scope records the loans, and this set of locals does not. Joins lose
-- no information about loans, and each exit from a block ends the block's loans.
use Rattle.std.specs.Prelude.{◌≡◌, ℕ, Bool, true, false, nat_eq, if◌then◌else◌, Option, Some, None}

pub data Held : Type 0 where
  -- the program point is unreachable
  Never : Held
  -- each local for which the function is true holds a value
  Holds : (ℕ → Bool) → Held

-- Says that all facts of the second flow state hold in the first. Unreachable code satisfies all facts; reachable code is not known
-- to be unreachable.
abbrev pub IsAtLeast : Held → Held → Type 0
IsAtLeast Never g = Unit {0}
IsAtLeast (Holds f) Never = ⊥
IsAtLeast (Holds f) (Holds g) = (n : ℕ) → g n ≡ true → f n ≡ true

abbrev pub updated : (ℕ → Bool) → ℕ → Bool → ℕ → Bool
updated f n b m = if nat_eq n m then b else f m

-- The state in which local n is marked as holding a value, or as empty.
abbrev pub with_held : Bool → Held → ℕ → Held
with_held b Never n = Never
with_held b (Holds f) n = Holds (updated f n b)

-- Returns the flow state with the given local marked as holding a value; if no local is given, returns the flow state unchanged.
abbrev pub and_held : Option ℕ → Held → Held
and_held None f = f
and_held (Some n) f = with_held true f n

-- The guard of a tree: the sets of locals that the tree must not empty, must not use, or may only peek at.
pub record Guard : Type 0 where
  -- The locals on which an enclosing `catch` relies to hold their values: the code must not empty them.
  pub relied : ℕ → Bool
  -- The locals that enclosing declarations and statements have lent to the end of their blocks: such locals are neither
  -- peeked at (read without being moved), used nor assigned.
  pub locked : ℕ → Bool
  -- The locals that were read early (peeked at) and whose read values are not yet used. Until the read value of a peeked local
  -- is used, the code may only read this local again without moving its value.
  pub peeked : ℕ → Bool

abbrev pub nowhere : ℕ → Bool
nowhere n = false

-- the guard at the start of a function, which restricts the use of no local
abbrev pub no_guard : Guard
no_guard = record { relied = nowhere; locked = nowhere; peeked = nowhere }

-- The guard while a local, if one is given, has been read early (peeked at) and its read value is not yet used.
abbrev pub peeking : Option ℕ → Guard → Guard
peeking None p = p
peeking (Some n) p = record p { peeked = updated p.peeked n true }

-- The guard inside the body of a `try` whose catch clauses rely on the locals r.
abbrev pub relying : (ℕ → Bool) → Guard → Guard
relying r p = record p { relied = r }

-- ---- demands on a local; unreachable code has none

-- Says that the value of a local may be peeked at, that is, read without being moved.
abbrev pub IsSeen : Guard → ℕ → Held → Type 0
IsSeen p n Never = Unit {0}
IsSeen p n (Holds f) = (f n ≡ true) × (p.locked n ≡ false)

-- Says that the value of a local may be used.
abbrev pub IsUsable : Guard → ℕ → Held → Type 0
IsUsable p n Never = Unit {0}
IsUsable p n (Holds f) = (f n ≡ true) × (p.locked n ≡ false) × (p.peeked n ≡ false)

-- Says that a local may be assigned, even if it holds no value.
abbrev pub IsAssignable : Guard → ℕ → Held → Type 0
IsAssignable p n Never = Unit {0}
IsAssignable p n (Holds f) = (p.locked n ≡ false) × (p.peeked n ≡ false)

-- Says that a local may be emptied.
abbrev pub IsSpared : Guard → ℕ → Held → Type 0
IsSpared p n Never = Unit {0}
IsSpared p n (Holds f) = p.relied n ≡ false

-- ---- catches

-- Says that the catch clauses of a `try` may rely on the values of the locals r. The locals r include those on which an enclosing
-- `catch` relies; each of the locals r holds a value at the start of the `try`.
abbrev pub IsReliable : Guard → (ℕ → Bool) → Held → Type 0
IsReliable p r Never = Unit {0}
IsReliable p r (Holds f) = ((n : ℕ) → p.relied n ≡ true → r n ≡ true) × ((n : ℕ) → r n ≡ true → f n ≡ true)

-- The flow facts about locals at the start of a catch clause, given the flow facts at the start of its `try`.
abbrev pub at_catch : (ℕ → Bool) → Held → Held
at_catch r Never = Never
at_catch r (Holds f) = Holds r
