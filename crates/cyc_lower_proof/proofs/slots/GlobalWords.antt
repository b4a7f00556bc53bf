-- This file has the invariants of the loop that computes the words of globals and their first words.
use Rattle.std.proofs.Common.{◌≡◌, ℕ, ◌+◌, ◌-◌, List, ◌++◌, map, drop}
use Rattle.std.specs.Prelude.{replicate}
use Rattle.cyc_types.specs.declared.typed.Global.{Global}
use Rattle.cyc_types.specs.TypedTrees.{GlobalVariable}
use Rattle.cyc_types.specs.TypedTreeView.{view_global}
use Rattle.cyc_meaning.specs.FrameCount.{words_of_all}
use Rattle.cyc_lower_proof.specs.inside.Slots.{global_types, starts_from}
use Rattle.cyc_lower_proof.specs.inside.Lowering.{lower_global, lower_globals}

-- The list of globals from index i on.
abbrev following : List Global → ℕ → List GlobalVariable
following gs i = map view_global (drop i gs)

-- ---- the first words

abbrev pub StartsLeft : List Global → (i first : ℕ) → (starts : List ℕ) → Type 0
StartsLeft gs i first starts =
    (first + words_of_all (global_types (following gs i)) ≡ words_of_all (global_types (map view_global gs)))
    × (starts ++ starts_from first (global_types (following gs i)) ≡ starts_from 0 (global_types (map view_global gs)))

-- ---- the initial words

-- Says that the words computed so far, extended by the zeros that are still to be added, are the words of the earlier globals and of
-- the global `g`.
abbrev pub ZerosLeft : (old words : List ℕ) → (g : GlobalVariable) → (left : ℕ) → Type 0
ZerosLeft old words g left = words ++ replicate (left - 1) 0 ≡ old ++ lower_global g

abbrev pub WordsLeft : List Global → (i : ℕ) → (words : List ℕ) → Type 0
WordsLeft gs i words = words ++ lower_globals (following gs i) ≡ lower_globals (map view_global gs)
