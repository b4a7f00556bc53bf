-- A compiled image keeps pace with its program: the number of instructions that it executes for n steps is bounded by n and
-- the number of tokens of the source text.
use Rattle.std.proofs.Common.{ℕ, ◌+◌, ◌*◌, ◌<◌, ◌≤◌, List, length, arith}
use Rattle.std.proofs.Math.Nat.{mul-le-mul_left}
use Rattle.std.specs.List.{AllByRecursion}
use Rattle.cyc_store.specs.State.{IsNew, StoreState}
use Rattle.cyc_machine_model.specs.Bounds.{Bounds, AreAllowed}
use Rattle.cyc_machine_model.specs.Run.{World, Run}
use Rattle.cyc_machine_model.specs.Start.{start_world}
use Rattle.cyc_types.specs.TypedTrees.{Program}
use Rattle.cyc_meaning.specs.Sizes.{max_start_words, size_per_weight}
use Rattle.cyc_front.specs.Front.{IsAcceptedText}
use Rattle.cyc_compiler.specs.FullPreservation.{text_words, limited, IsImageOf, IsAhead}
use Rattle.cyc_compiler.proofs.Amounts.{accepted_weight}
use Rattle.cyc_compiler.proofs.Preservation.{are_alike, keeps_up}

pub keeps_up_by_tokens : (text : List ℕ) (p : Program) (file : List ℕ) (a : IsAcceptedText text p) (is : IsImageOf p file) (limits : Bounds) (store : StoreState) (input : List ℕ)
    → AreAllowed limits.pages limits.calls → IsNew limits.pages store → AllByRecursion (λ b. b < 256) input
    → (n count : ℕ) (w : World) → (n + 1) * (max_start_words + size_per_weight * length a.tokens) ≤ count → Run count (start_world is.image limits store input) w
    → IsAhead (limited p limits input n) w
keeps_up_by_tokens text p file a is limits store input allowed new bytes n count w enough run =
    let few : text_words is.image ≤ max_start_words + size_per_weight * length a.tokens = omega (arith, is.few, accepted_weight text p a) in
    let more = mul-le-mul_left (n + 1) few in
    keeps_up p is.image limits store input (are_alike p is.image is.does limits store input allowed new bytes) n count w (omega (arith, more, enough)) run
