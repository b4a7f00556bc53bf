-- The flow state of each local variable, represented by the bits of a table.
use Rattle.std.specs.Prelude.{◌≡◌, ℕ, ◌*◌, ◌/◌, ◌%◌, zero, suc, min, Bool, true, false, List, [], ◌∷◌, length, get_or, bit_and, bit_or, bit_xor}
use Rattle.std.specs.Int.{bit_at}
use Rattle.cyc_types.specs.flow.States.{Fullness, Vacant, Locked, Full}
use Rattle.cyc_flow.specs.declared.table.Marks.{Marks}
use Rattle.cyc_flow.specs.declared.table.Table.{Table}
use Rattle.cyc_flow.specs.inside.Bits.{has_bit}

-- Returns the state of a local (empty, lent or full), decoded from two bits: the local holds a value, and the value is not lent out.
abbrev pub reported : (held free : Bool) → Fullness
reported false free = Vacant
reported true false = Locked
reported true true = Full

abbrev pub marked : Marks → (place : ℕ) → Fullness
marked m place = reported (has_bit m.held place) (has_bit m.free place)

-- The bits of locals that the table does not contain: all are 0.
abbrev pub no_marks : Marks
no_marks = record { held = 0; free = 0 }

abbrev pub marks_at : List Marks → (place : ℕ) → Marks
marks_at ms place = get_or ms place no_marks

-- Returns the fullness (empty, lent or full) of the local with this index.
abbrev pub known_at : List Marks → (number : ℕ) → Fullness
known_at ms number = marked (marks_at ms (number / 64)) (number % 64)

-- Returns the list of the values of a function from local indices to flow states, for all indices below `n`, in order.
abbrev pub each_below : ℕ → (ℕ → Fullness) → List Fullness
each_below zero f = []
each_below (suc n) f = f 0 ∷ each_below n (λ i. f (suc i))

-- Returns the number of locals in the table, bounded by the number of bits that it has.
abbrev pub table_length : Table → ℕ
table_length t = min t.count (64 * length t.marks.items)

abbrev pub view_table : Table → List Fullness
view_table t = each_below (table_length t) (known_at t.marks.items)

-- Returns the bits that are set in the marks `o` but not in the marks `m`. Marks contain two bits for each of 64 locals.
abbrev pub missing : Marks → Marks → ℕ
missing m o = bit_or (bit_xor (bit_and m.held o.held) o.held) (bit_xor (bit_and m.free o.free) o.free)

-- `Covers` compares two pairs of words with the bits of 64 locals. Each local that is full in the second pair is full in the first,
-- and each local with a value in the second has one in the first.
abbrev pub Covers : Marks → Marks → Type 0
Covers m o = (i : ℕ) → bit_at (missing m o) i ≡ 0

abbrev pub met : Marks → Marks → Marks
met m o = record { held = bit_and m.held o.held; free = bit_and m.free o.free }

abbrev pub met_each : List Marks → List Marks → List Marks
met_each [] os = []
met_each (m ∷ ms) [] = []
met_each (m ∷ ms) (o ∷ os) = met m o ∷ met_each ms os

-- Returns the marks (bits of 64 locals) in which each full local whose bit is set in the word becomes empty.
abbrev pub emptied_marks : Marks → (word : ℕ) → Marks
emptied_marks m w = record { held = bit_xor m.held (bit_and (bit_and m.held m.free) w); free = m.free }
