-- This file defines the bounds on which the code relies: the number of machine words of frames, and the greatest target of jumps.
use Rattle.std.specs.Prelude.{◌≡◌, ℕ, ◌+◌, ◌≤◌, Option, Some, List, slice_get}
use Rattle.cyc_types.specs.TypedTrees.{StructType, Function}
use Rattle.cyc_meaning.specs.FrameCount.{frame_count}
use Rattle.cyc_sizes.specs.inside.Needs.{most_frame_count}
use Rattle.cyc_lower_proof.specs.inside.Lowering.{farthest, body_code, starts_with, raises_of}

-- Says that the frame of each function has at most `most_frame_count` words.
abbrev pub HaveFewWords : List Function → Type 0
HaveFewWords hs = (n : ℕ) (h : Function) → slice_get hs n ≡ Some h → frame_count h ≤ most_frame_count

-- Says that the jumps in a function's body go at most to the blocks that raise exceptions, which come after the body.
abbrev pub IsClose : List StructType → (globals : List ℕ) → (scopes : Option ℕ) → Function → Type 0
IsClose structs globals scopes h =
    farthest (body_code (starts_with (raises_of structs globals scopes h) structs globals scopes h) h) ≤ raises_of structs globals scopes h + 7

abbrev pub AreClose : List StructType → (globals : List ℕ) → (scopes : Option ℕ) → List Function → Type 0
AreClose structs globals scopes hs = (n : ℕ) (h : Function) → slice_get hs n ≡ Some h → IsClose structs globals scopes h
