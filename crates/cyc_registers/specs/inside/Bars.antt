-- The slots that an instruction excludes from registers, because the instruction accesses their words in memory.
use Rattle.std.specs.Prelude.{ℕ, ◌-◌, Bool, false, ◌||◌, ◌&&◌, nat_lt}
use Rattle.cyc_plain.specs.declared.instruction.Instruction.{Instruction}
use Rattle.cyc_plain.specs.declared.instruction.Instruction.TheVariants as instructions
use Rattle.cyc_plain.specs.declared.limits.TheConstants.{RECORD_WORDS}
use Rattle.cyc_plain.specs.inside.Uses.{is_among}

-- Returns true if a move of several words, done word by word, overwrites sources that are still to be moved.
abbrev pub is_crossing : (destination source count : ℕ) → Bool
is_crossing destination source count = nat_lt source destination && nat_lt (destination - source) count

-- Returns true if the instruction accesses the slot's word in memory, so that the slot gets no register.
abbrev pub bars : Instruction → (slot : ℕ) → Bool
bars (instructions.MoveWords destination source count) slot =
    is_crossing destination source count && (is_among destination count slot || is_among source count slot)
bars (instructions.AddressOf destination taken count) slot = is_among taken count slot
bars (instructions.Try first handler) slot = is_among first RECORD_WORDS slot
bars (instructions.Leave first) slot = is_among first RECORD_WORDS slot
bars instruction slot = false
