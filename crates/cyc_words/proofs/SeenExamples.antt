-- This file observes a run that echoes its input, at three moments. The input is "xyz", the bytes 120, 121 and 122.
use Rattle.std.proofs.Common.{◌≡◌, [], ◌∷◌, refl}
use Rattle.cyc_words.specs.Seen.{Seen, showing, ComesTo}

abbrev at_the_start : Seen
at_the_start = showing [] (120 ∷ 121 ∷ 122 ∷ [])

-- The observation after two bytes were read and the first byte was printed.
abbrev two_read : Seen
two_read = showing (120 ∷ []) (122 ∷ [])

abbrev at_the_end : Seen
at_the_end = showing (120 ∷ 121 ∷ 122 ∷ []) []

-- After the start, a run may come to the state in which "x" was printed and "xy" was read.
first_echo : ComesTo at_the_start two_read
first_echo = ((120 ∷ [], refl), (120 ∷ 121 ∷ [], refl))

other_echoes : ComesTo two_read at_the_end
other_echoes = ((121 ∷ 122 ∷ [], refl), (122 ∷ [], refl))

-- No run goes back: bytes that were printed stay printed, and bytes that were read stay read.
nothing_is_taken_back : ComesTo two_read at_the_start → ⊥
nothing_is_taken_back ((printed, is), read) = absurd (let e : [] ≡ 120 ∷ printed = is in cc)
