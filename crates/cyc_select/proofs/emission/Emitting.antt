-- The MIPS lines of a function are emitted piece by piece: appending the next piece keeps the invariant of the emitting loop.
use Rattle.std.proofs.Common.{◌≡◌, ℕ, suc, ◌+◌, ◌-◌, ◌*◌, ◌<◌, List, [], ◌∷◌, ◌++◌, drop, refl, ap, ◌∙◌, arith}
use Rattle.cyc_words.proofs.Lists.{append_goes_on}
use Rattle.cyc_isa.specs.declared.instr.Instr.{Instr}
use Rattle.cyc_plain.specs.declared.instruction.Operand.TheVariants as operands
use Rattle.cyc_frame.specs.inside.Frame.{Frame}
use Rattle.cyc_registers.specs.inside.Interference.{home_of}
use Rattle.cyc_registers.specs.declared.home.TheConstants.{FIRST_PRESERVED}
use Rattle.cyc_registers.specs.declared.home.Home.TheVariants as homes
use Rattle.cyc_select.specs.declared.code.Line.TheVariants as lines
use Rattle.cyc_select.specs.declared.code.Line.{Line}
use Rattle.cyc_select.specs.inside.Instructions.{load, store}
use Rattle.cyc_select.specs.inside.Slots.{arriving, saves_from, restores_from, value_register, reload, reloads_from}
use Rattle.cyc_select.specs.inside.Passing.{pass, copies, spill, spills}
use Rattle.cyc_select.specs.inside.Selection.{move_to, moves, ordinary}
use Rattle.cyc_select.proofs.relation.Arriving.{reloads_next}

ordinary_append : (is js : List Instr) → ordinary (is ++ js) ≡ ordinary is ++ ordinary js
ordinary_append [] js = refl
ordinary_append (i ∷ is) js = ap (λ (l : List Line). lines.Ordinary i ∷ l) (ordinary_append is js)

-- The loop invariant of a move of several words still holds after the lines that move the next word are emitted.
pub moved_next : (frame : Frame) (destination source count word : ℕ) (all old new : List Line) → word < count
    → new ≡ old ++ ordinary (move_to (value_register frame (destination + word)) frame (destination + word) (operands.Slot (source + word)))
    → old ++ ordinary (moves frame (destination + word) (source + word) (count - word)) ≡ all
    → new ++ ordinary (moves frame (destination + (word + 1)) (source + (word + 1)) (count - (word + 1))) ≡ all
moved_next frame destination source count word all old new below is before =
    let one : List Instr = move_to (value_register frame (destination + word)) frame (destination + word) (operands.Slot (source + word)) in
    let left : count - word ≡ suc (count - (word + 1)) = omega (arith, below) in
    let to : suc (destination + word) ≡ destination + (word + 1) = omega arith in
    let from : suc (source + word) ≡ source + (word + 1) = omega arith in
    append_goes_on all old new (ordinary one) (ordinary (moves frame (destination + (word + 1)) (source + (word + 1)) (count - (word + 1))))
    (ordinary (moves frame (destination + word) (source + word) (count - word))) is
    (ap (λ (n : ℕ). ordinary (moves frame (destination + word) (source + word) n)) left
    ∙ ordinary_append one (moves frame (suc (destination + word)) (suc (source + word)) (count - (word + 1)))
    ∙ ap (λ (n : ℕ). ordinary one ++ ordinary (moves frame n (suc (source + word)) (count - (word + 1)))) to
    ∙ ap (λ (n : ℕ). ordinary one ++ ordinary (moves frame (destination + (word + 1)) n (count - (word + 1)))) from)
    before

-- The loop invariant of passing arguments still holds after the lines that pass the next argument are emitted.
pub copied : (caller callee : Frame) (source slot count : ℕ) (all old new : List Line) → slot < count
    → new ≡ old ++ ordinary (pass caller callee (source + slot) slot)
    → old ++ ordinary (copies caller callee (source + slot) slot (count - slot)) ≡ all
    → new ++ ordinary (copies caller callee (source + (slot + 1)) (slot + 1) (count - (slot + 1))) ≡ all
copied caller callee source slot count all old new below is before =
    let one : List Instr = pass caller callee (source + slot) slot in
    let left : count - slot ≡ suc (count - (slot + 1)) = omega (arith, below) in
    let from : suc (source + slot) ≡ source + (slot + 1) = omega arith in
    let to : suc slot ≡ slot + 1 = omega arith in
    append_goes_on all old new (ordinary one) (ordinary (copies caller callee (source + (slot + 1)) (slot + 1) (count - (slot + 1))))
    (ordinary (copies caller callee (source + slot) slot (count - slot))) is
    (ap (λ (n : ℕ). ordinary (copies caller callee (source + slot) slot n)) left
    ∙ ordinary_append one (copies caller callee (suc (source + slot)) (suc slot) (count - (slot + 1)))
    ∙ ap (λ (n : ℕ). ordinary one ++ ordinary (copies caller callee n (suc slot) (count - (slot + 1)))) from
    ∙ ap (λ (n : ℕ). ordinary one ++ ordinary (copies caller callee (source + (slot + 1)) n (count - (slot + 1)))) to)
    before

-- The loop invariant of spilling slots still holds after the lines that spill the next slot are emitted.
pub spilled_next : (caller callee : Frame) (source count slot : ℕ) (all old new : List Line) → slot < count
    → new ≡ old ++ ordinary (spill caller callee (source + slot) slot)
    → old ++ ordinary (spills caller callee (source + slot) slot (count - slot)) ≡ all
    → new ++ ordinary (spills caller callee (source + (slot + 1)) (slot + 1) (count - (slot + 1))) ≡ all
spilled_next caller callee source count slot all old new below is before =
    let one : List Instr = spill caller callee (source + slot) slot in
    let left : count - slot ≡ suc (count - (slot + 1)) = omega (arith, below) in
    let from : suc (source + slot) ≡ source + (slot + 1) = omega arith in
    let to : suc slot ≡ slot + 1 = omega arith in
    append_goes_on all old new (ordinary one) (ordinary (spills caller callee (source + (slot + 1)) (slot + 1) (count - (slot + 1))))
    (ordinary (spills caller callee (source + slot) slot (count - slot))) is
    (ap (λ (n : ℕ). ordinary (spills caller callee (source + slot) slot n)) left
    ∙ ordinary_append one (spills caller callee (suc (source + slot)) (suc slot) (count - (slot + 1)))
    ∙ ap (λ (n : ℕ). ordinary one ++ ordinary (spills caller callee n (suc slot) (count - (slot + 1)))) from
    ∙ ap (λ (n : ℕ). ordinary one ++ ordinary (spills caller callee (source + (slot + 1)) n (count - (slot + 1)))) to)
    before

-- The loop invariant of saving registers still holds after the store of the next register is emitted.
pub saves_next : (frame : Frame) (number : ℕ) (all old new : List Line) → number < frame.saved
    → new ≡ old ++ ordinary (store (FIRST_PRESERVED + number) (4 * (frame.first_saved + number)) ∷ [])
    → old ++ ordinary (saves_from frame.first_saved number (frame.saved - number)) ≡ all
    → new ++ ordinary (saves_from frame.first_saved (number + 1) (frame.saved - (number + 1))) ≡ all
saves_next frame number all old new below is before =
    let one : List Instr = store (FIRST_PRESERVED + number) (4 * (frame.first_saved + number)) ∷ [] in
    let left : frame.saved - number ≡ suc (frame.saved - (number + 1)) = omega (arith, below) in
    let to : suc number ≡ number + 1 = omega arith in
    append_goes_on all old new (ordinary one) (ordinary (saves_from frame.first_saved (number + 1) (frame.saved - (number + 1))))
    (ordinary (saves_from frame.first_saved number (frame.saved - number))) is
    (ap (λ (n : ℕ). ordinary (saves_from frame.first_saved number n)) left
    ∙ ap (λ (n : ℕ). ordinary one ++ ordinary (saves_from frame.first_saved n (frame.saved - (number + 1)))) to)
    before

-- The loop invariant of restoring registers still holds after the load of the next register is emitted.
pub restores_next : (frame : Frame) (number : ℕ) (all old new : List Line) → number < frame.saved
    → new ≡ old ++ ordinary (load (FIRST_PRESERVED + number) (4 * (frame.first_saved + number)) ∷ [])
    → old ++ ordinary (restores_from frame.first_saved number (frame.saved - number)) ≡ all
    → new ++ ordinary (restores_from frame.first_saved (number + 1) (frame.saved - (number + 1))) ≡ all
restores_next frame number all old new below is before =
    let one : List Instr = load (FIRST_PRESERVED + number) (4 * (frame.first_saved + number)) ∷ [] in
    let left : frame.saved - number ≡ suc (frame.saved - (number + 1)) = omega (arith, below) in
    let to : suc number ≡ number + 1 = omega arith in
    append_goes_on all old new (ordinary one) (ordinary (restores_from frame.first_saved (number + 1) (frame.saved - (number + 1))))
    (ordinary (restores_from frame.first_saved number (frame.saved - number))) is
    (ap (λ (n : ℕ). ordinary (restores_from frame.first_saved number n)) left
    ∙ ap (λ (n : ℕ). ordinary one ++ ordinary (restores_from frame.first_saved n (frame.saved - (number + 1)))) to)
    before

-- The loop invariant of loading parameters still holds after the lines that load the next parameter into its register are emitted.
pub arrived_next : (frame : Frame) (slot : ℕ) (all old new : List Line) → new ≡ old ++ ordinary (reload frame (home_of (arriving frame) slot) slot)
    → old ++ ordinary (reloads_from frame slot (drop slot (arriving frame))) ≡ all → new ++ ordinary (reloads_from frame (slot + 1) (drop (slot + 1) (arriving frame))) ≡ all
arrived_next frame slot all old new is before =
    let next : suc slot ≡ slot + 1 = omega arith in
    let one : List Instr = reload frame (home_of (arriving frame) slot) slot in
    append_goes_on all old new (ordinary one) (ordinary (reloads_from frame (slot + 1) (drop (slot + 1) (arriving frame)))) (ordinary (reloads_from frame slot (drop slot (arriving frame)))) is
    (ap ordinary (reloads_next frame (arriving frame) slot slot)
    ∙ ordinary_append one (reloads_from frame (suc slot) (drop (suc slot) (arriving frame)))
    ∙ ap (λ (n : ℕ). ordinary one ++ ordinary (reloads_from frame n (drop n (arriving frame)))) next)
    before
