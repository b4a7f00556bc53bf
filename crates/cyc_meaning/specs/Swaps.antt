-- Swaps: first the left operand is evaluated, then the right one. After both operands of a swap are evaluated, both cells are read,
-- the left one first, and written. (The order of evaluation is this project's own choice.)
use Rattle.std.specs.Prelude.{ℕ, List, [], ◌∷◌, Option, Some, None, if◌then◌else◌, Bool, false}
use Rattle.cyc_types.specs.declared.typed.Kind.{Kind}
use Rattle.cyc_types.specs.TypedTrees.{type_of_place, peeked, Side, VariableSide, CellSide}
use Rattle.cyc_meaning.specs.Values.{Value, Thin, Operand, kind_of, is_kind}
use Rattle.cyc_meaning.specs.State.{World, Access, Found, Closed, Missing, Located, cell_at, Environment, SwapLeft, SwapRight, Entry, NeedsPlace, Locating, Writing, Swapping, State, Running}
use Rattle.cyc_meaning.specs.Parts.{dead, wrong, object_of}

-- Both operands of a swap are evaluated, and the reads of their cells follow.
abbrev pub both_places : Kind → (left right : Value) → List Entry → Environment → World → State
both_places kind left right stack e w = Running (Swapping kind left right None) stack e w

-- ---- the places of a swap

abbrev pub finds_right_object : Kind → (left : Value) → Option ℕ → List Entry → Environment → World → State
finds_right_object kind left (Some object) stack e w = both_places kind left (Thin object 0) stack e w
finds_right_object kind left None stack e w = wrong w

abbrev pub finds_right : Kind → (peek : Option ℕ) → (is_cell : Bool) → (left : Value) → Side → List Entry → Environment → World → State
finds_right kind peek is_cell left (VariableSide l t) stack e w = finds_right_object kind left (object_of e l) stack e w
finds_right kind peek is_cell left (CellSide d) stack e w = Running (Locating d) (NeedsPlace (SwapRight kind peek is_cell left) ∷ stack) e w

abbrev pub finds_left_object : Kind → Option ℕ → (right : Side) → List Entry → Environment → World → State
finds_left_object kind (Some object) right stack e w = finds_right kind None false (Thin object 0) right stack e w
finds_left_object kind None right stack e w = wrong w

abbrev pub swaps : (left right : Side) → List Entry → Environment → World → State
swaps (VariableSide l t) right stack e w = finds_left_object (kind_of t) (object_of e l) right stack e w
swaps (CellSide d) right stack e w =
    Running (Locating d) (NeedsPlace (SwapLeft (kind_of (type_of_place d)) (peeked d) right) ∷ stack) e w

-- ---- the values of a swap

-- Reads the left cell of a swap, then the right one, whose value is written to the left cell.
abbrev pub swap_read : Kind → (left right : Value) → (before : Option Operand) → Value → List Entry → Environment → World → State
swap_read kind left right None value stack e w =
    Running (Swapping kind left right (Some (record { kind = kind; value = value }))) stack e w
swap_read kind left right (Some before) value stack e w =
    Running (Writing (
    record { place = left; operand = record { kind = kind; value = value } }
    ∷ record { place = right; operand = before }
    ∷ []) None) stack e w

abbrev pub swap_content : Kind → (left right : Value) → (before : Option Operand) → Option Value → List Entry → Environment → World → State
swap_content kind left right before (Some value) stack e w = swap_read kind left right before value stack e w
swap_content kind left right before None stack e w = wrong w

abbrev pub swap_loaded : Kind → (left right : Value) → (before : Option Operand) → Access Located → List Entry → Environment → World → State
swap_loaded kind left right before (Found at) stack e w =
    if is_kind at.cell.kind kind then swap_content kind left right before at.cell.content stack e w else wrong w
swap_loaded kind left right before Closed stack e w = dead w
swap_loaded kind left right before Missing stack e w = wrong w

abbrev pub swap_loaded_at : Kind → (left right : Value) → (before : Option Operand) → (place : Value) → List Entry → Environment → World → State
swap_loaded_at kind left right before (Thin object offset) stack e w = swap_loaded kind left right before (cell_at w object offset) stack e w
swap_loaded_at kind left right before place stack e w = wrong w

abbrev pub step_swapping : Kind → (left right : Value) → Option Operand → List Entry → Environment → World → State
step_swapping kind left right None stack e w = swap_loaded_at kind left right None left stack e w
step_swapping kind left right (Some before) stack e w = swap_loaded_at kind left right (Some before) right stack e w
