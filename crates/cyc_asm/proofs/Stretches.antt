-- Lists of consecutive word addresses (stretches of text).
use Rattle.std.proofs.Common.{◌≡◌, ℕ, zero, suc, ◌+◌, ◌-◌, ◌*◌, ◌/◌, ◌≤◌, ◌<◌, List, ◌∷◌, ◌++◌, length, get_or, Bool, true, false, Option, Some, None, refl, sym, ap, subst, ◌∙◌, arith}
use Rattle.std.specs.Prelude.{Contains}
use Rattle.std.specs.List.{range_with_len, flat_map}
use Rattle.std.proofs.lemmas.Grind.{flat_map-append}
use Rattle.std.proofs.lemmas.List.{length-append}
use Rattle.std.proofs.lemmas.Option.{slice_get-get_or}
use Rattle.cyc_isa.specs.declared.instr.Instr.{Instr}
use Rattle.cyc_machine_model.specs.State.{text_base}
use Rattle.cyc_select.specs.declared.code.Condition.{Condition}
use Rattle.cyc_select.specs.declared.code.Line.{Line}
use Rattle.cyc_select.specs.declared.code.Line.TheVariants as lines
use Rattle.cyc_select.specs.inside.Labelled.{Labelled}
use Rattle.cyc_asm.specs.inside.Slots.{filling}
use Rattle.cyc_asm.specs.inside.Order.{arranged, in_order}
use Rattle.cyc_asm.specs.inside.Layout.{is_near}
use Rattle.cyc_asm.specs.inside.Text.{nothing, StandsBranch, StandsOrdinary, Stands, stretch, own, IsTextOf}
use Rattle.cyc_asm.proofs.Lengths.{length-arranged}

pub length-stretch : (from count : ℕ) → length (stretch from count) ≡ count
length-stretch from zero = refl
length-stretch from (suc count) = ap suc (length-stretch (from + 4) count)

-- The address of each word in a range is in the list of the range's addresses.
pub in_stretch : (from count k address : ℕ) → k < count → address ≡ from + 4 * k → Contains (stretch from count) address
in_stretch from zero k address below is = absurd (omega arith)
in_stretch from (suc count) zero address below is = (0, (omega arith), (omega arith))
in_stretch from (suc count) (suc k) address below is =
    let (i, inside, at) = in_stretch (from + 4) count k address (omega arith) (omega arith) in (suc i, (omega (arith, inside)), at)

-- If a line takes `count` words, its own words are at the `count` addresses from the line's address on.
pub own-stretch : (addresses : ℕ → ℕ) (number count : ℕ) → addresses (suc number) ≡ addresses number + 4 * count → own addresses number ≡ stretch (addresses number) count
own-stretch addresses number count next = ap (stretch (addresses number)) (let e : (addresses (suc number) - addresses number) / 4 ≡ count = omega arith in e)

pub in_own : (addresses : ℕ → ℕ) (number count k address : ℕ) → addresses (suc number) ≡ addresses number + 4 * count → k < count → address ≡ addresses number + 4 * k → Contains (own addresses number) address
in_own addresses number count k address next below is =
    subst (λ (places : List ℕ). Contains places address) (sym (own-stretch addresses number count next)) (in_stretch (addresses number) count k address below is)

-- Two adjacent ranges.
pub stretch-append : (from m n : ℕ) → stretch from (m + n) ≡ stretch from m ++ stretch (from + 4 * m) n
stretch-append from zero n = ap (λ (k : ℕ). stretch from k) (let e : zero + n ≡ n = omega arith in e) ∙ ap (λ (a : ℕ). stretch a n) (let e : from ≡ from + 4 * zero = omega arith in e)
stretch-append from (suc m) n =
    ap (λ (k : ℕ). stretch from k) (let e : suc m + n ≡ suc (m + n) = omega arith in e)
    ∙ ap (λ (rest : List ℕ). from ∷ rest) (stretch-append (from + 4) m n)
    ∙ ap (λ (a : ℕ). from ∷ (stretch (from + 4) m ++ stretch a n)) (let e : from + 4 + 4 * m ≡ from + 4 * suc m = omega arith in e)

-- If the lines are partitioned in any way into groups, the words of all groups together are all words of the text.
pub own-parts : (code : Labelled) (addresses : ℕ → ℕ) (words : List ℕ) → IsTextOf code addresses words → (some others : List ℕ)
    → some ++ others ≡ range_with_len 0 (length code.lines)
    → length (flat_map (own addresses) some) + length (flat_map (own addresses) others) ≡ length words
own-parts code addresses words text some others parts =
    let both = ap length (sym (flat_map-append (own addresses) some others) ∙ ap (flat_map (own addresses)) parts ∙ text.all) in
    let sum = length-append (flat_map (own addresses) some) (flat_map (own addresses) others) in
    omega (arith, both, sum, length-stretch text_base (length words))

-- ---- each line of reachable code has a word

branch_wide : (near : Bool) (words : List ℕ) (addresses : ℕ → ℕ) (number : ℕ) (condition : Condition) (label : ℕ) (slotted : Instr) (from : ℕ)
    → StandsBranch near words addresses number condition label slotted from → from + 4 ≤ addresses (suc number)
branch_wide true words addresses number condition label slotted from (branches, next) = omega (arith, next)
branch_wide false words addresses number condition label slotted from (branches, jumps, next) = omega (arith, next)

ordinary_wide : (o : Option Instr) (words : List ℕ) (addresses : ℕ → ℕ) (number : ℕ) (i : Instr) → StandsOrdinary o words addresses number i → addresses number + 4 ≤ addresses (suc number)
ordinary_wide None words addresses number i (at, next) = omega (arith, next)
ordinary_wide (Some slotted) words addresses number i next = omega (arith, next)

first_wide : (code : Labelled) (words : List ℕ) (addresses : ℕ → ℕ) (line : Line) → Stands code words addresses 0 line → addresses 0 + 4 ≤ addresses 1
first_wide code words addresses (lines.Ordinary i) stands = ordinary_wide (filling code.lines 1) words addresses 0 i stands
first_wide code words addresses (lines.Branch condition label) stands = branch_wide (is_near code.lines 0 label) words addresses 0 condition label nothing (addresses 0) stands
first_wide code words addresses (lines.Jump label) (jumps, next) = omega (arith, next)
first_wide code words addresses (lines.Call label) (jumps, next) = omega (arith, next)
first_wide code words addresses lines.Return (at, slot, next) = omega (arith, next)

pub text_has_words : (code : Labelled) (addresses : ℕ → ℕ) (words : List ℕ) → 0 < length code.lines → IsTextOf code addresses words → 0 < length words
text_has_words code addresses words some text =
    let rest : ℕ = length code.lines - 1 in
    let order : List Line = arranged code.lines in
    let still : 0 < length order = omega (arith, some, length-arranged code.lines) in
    let wide = first_wide (in_order code) words addresses (get_or order 0 lines.Return) (text.stands 0 (get_or order 0 lines.Return) (slice_get-get_or order 0 lines.Return still)) in
    let all = ap length (sym (ap (λ (n : ℕ). flat_map (own addresses) (range_with_len 0 n)) (let e : length code.lines ≡ suc rest = omega (arith, some) in e)) ∙ text.all) in
    let parts = length-append (own addresses 0) (flat_map (own addresses) (range_with_len 1 rest)) in
    let first = length-stretch (addresses 0) ((addresses 1 - addresses 0) / 4) in
    omega (arith, wide, all, parts, first, length-stretch text_base (length words))
