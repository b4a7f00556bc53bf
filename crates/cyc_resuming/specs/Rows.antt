-- Laws of runs that are continued in several calls. The form of these laws is this project's own choice.
use Rattle.std.specs.Prelude.{◌≡◌, ℕ, ◌+◌, ◌≤◌, Bool, true, List, [], ◌∷◌, ◌++◌, length, Option, Some, None, Result, Ok}
use Rattle.cyc_elf.specs.declared.fault.ElfFault.{ElfFault}
use Rattle.cyc_elf.specs.Image.{ImageContents}
use Rattle.cyc_store.specs.State.{StoreState}
use Rattle.cyc_machine_model.specs.declared.event.End.{End}
use Rattle.cyc_machine_model.specs.declared.phase.Phase.TheVariants.{Running}
use Rattle.cyc_machine_model.specs.Bounds.{Bounds}
use Rattle.cyc_machine_model.specs.State.{State}
use Rattle.cyc_emulator.specs.declared.report.Report.{Report}
use Rattle.cyc_emulator.specs.declared.report.Stop.{Stop}
use Rattle.cyc_emulator.specs.declared.report.Stop.TheVariants as stops
use Rattle.cyc_emulator.specs.Engine.{Devices, Answers, limit_at}
use Rattle.cyc_resuming.specs.declared.pause.Standing.TheVariants.{Ended}
use Rattle.cyc_resuming.specs.Resuming.{Point, StandsAt, IsPart, Opens}

-- What a call did: the number of instructions, and the bytes that they read and printed.
pub record Piece : Type 0 where
  pub count : ℕ
  pub read : List ℕ
  pub printed : List ℕ

-- `IsPiece` says that a call did this between two points of a run: it is what `resume` says of a call.
pub record IsPieceAt (piece : Piece) (old new : Point) (at : State) : Type 0 where
  pub now : State
  pub stands : StandsAt new now
  pub part : IsPart piece.count at piece.read piece.printed new.saw_end now
  pub after_end : old.saw_end ≡ true → (piece.read ≡ []) × (new.saw_end ≡ true)

abbrev pub IsPiece : Piece → (old new : Point) → Type 0
IsPiece piece old new = (at : State) → StandsAt old at → IsPieceAt piece old new at

-- `IsRow` says that calls did this one after another, where each begins at the point at which the one before it returned.
abbrev pub IsRow : List Piece → (old new : Point) → Type 0
IsRow [] old new = new ≡ old
IsRow (piece ∷ pieces) old new = (mid : Point) × IsPiece piece old mid × IsRow pieces mid new

-- Returns what several calls did together.
abbrev pub all_of : List Piece → Piece
all_of [] = record { count = 0; read = []; printed = [] }
all_of (piece ∷ pieces) =
    let others = all_of pieces in
    record { count = piece.count + others.count; read = piece.read ++ others.read; printed = piece.printed ++ others.printed }

-- The law that calls one after another are one.
abbrev pub RowsJoin : Type 0
RowsJoin = (pieces : List Piece) (old new : Point) → IsRow pieces old new → IsPiece (all_of pieces) old new

-- The report of a run that stopped in this way after these calls.
abbrev pub report_of : Stop → Piece → State → Report
report_of stop piece machine = record {
  stop = stop;
  count = piece.count;
  counter = machine.core.counter;
  limit = limit_at stop machine.core;
  read = length piece.read;
  written = length piece.printed;
  peaks = None;
}

-- `IsWhole` says that what these calls did is an answer of `run_with`, between a reader that has the bytes that they read and more behind
-- them and a writer that has written nothing.
abbrev pub IsWhole : (grows : Bool) → StoreState → Result ImageContents ElfFault → Bounds → (budget : ℕ) → Stop → Piece → (rest : List ℕ) → State → Type 0
IsWhole grows store read limits budget stop piece rest machine =
    Answers grows store read limits budget
    (record { remaining = Some (piece.read ++ rest); written = Some [] })
    (record { remaining = Some rest; written = Some piece.printed }) (Ok (report_of stop piece machine))

-- The law that a run which ends in some call is the whole run: for each budget that suffices, and each input that goes on behind the bytes
-- that were read. If the run saw the end of its input, no input goes on.
abbrev pub RowsEnd : Type 0
RowsEnd = (grows : Bool) (store : StoreState) (read : Result ImageContents ElfFault) (limits : Bounds) (pieces : List Piece) (first last : Point) (end : End)
    → Opens read limits store first → IsRow pieces first last → last.stands ≡ Ended end
    → (rest : List ℕ) → (last.saw_end ≡ true → rest ≡ []) → (budget : ℕ) → (all_of pieces).count ≤ budget
    → IsWhole grows store read limits budget (stops.End end) (all_of pieces) rest last.machine

-- The law that a run which has not ended yet is the run with a budget of as many instructions, at the state at which it stands.
abbrev pub RowsSpend : Type 0
RowsSpend = (grows : Bool) (store : StoreState) (read : Result ImageContents ElfFault) (limits : Bounds) (pieces : List Piece) (first last : Point)
    → Opens read limits store first → IsRow pieces first last
    → (rest : List ℕ) → (last.saw_end ≡ true → rest ≡ [])
    → (at : State) × StandsAt last at
    × (at.phase ≡ Running → IsWhole grows store read limits (all_of pieces).count stops.Spent (all_of pieces) rest at)
