-- The numbers that identify globals, functions, locals and regions in a typed tree lie in ranges that later
-- passes require; this file defines the ranges. The ranges are this project's own choice.
use Rattle.std.specs.Prelude.{◌≡◌, ℕ, suc, ◌+◌, ◌<◌, List, [], ◌∷◌, Option, Some, map, length, slice_get}
use Rattle.cyc_types.specs.declared.typed.Callee.{Callee}
use Rattle.cyc_types.specs.declared.typed.Callee.TheVariants as callees
use Rattle.cyc_types.specs.Types.{Ty, Int}
use Rattle.cyc_types.specs.TypedTrees.{Lvalue, Local, Global, Arguments, NoArguments, MoreArguments, Signature, Function}
use Rattle.cyc_types.specs.typing.Scopes.{signature_of_ints}
use Rattle.cyc_types.specs.typing.WellTyped.{signature_of}

abbrev pub signatures_of : List Function → List Signature
signatures_of hs = map signature_of hs

-- the counts of declared globals, functions, locals and regions; in a typed tree, the numbers that identify a
-- global, function, local or region lie below these counts
pub record Numbering : Type 0 where
  pub globals : ℕ
  pub functions : List Signature
  -- the number of locals of the function being checked
  pub locals : ℕ
  pub regions : ℕ
  pub result : Option Ty

-- says that a called function has the given signature, according to the list of the program's functions
abbrev pub IsSignature : Numbering → Callee → Signature → Type 0
IsSignature b callees.Putchar s = s ≡ signature_of_ints (Int ∷ [])
IsSignature b callees.Getchar s = s ≡ signature_of_ints []
IsSignature b (callees.Function n) s = slice_get b.functions n ≡ Some s

abbrev pub argument_count : Arguments → ℕ
argument_count NoArguments = 0
argument_count (MoreArguments c cs) = suc (argument_count cs)

abbrev pub IsWithin : Numbering → Lvalue → Type 0
IsWithin b (Local p n) = n < b.locals
IsWithin b (Global n) = n < b.globals

abbrev pub numbering_of : ℕ → List Signature → Function → Numbering
numbering_of globals functions h = record { globals = globals; functions = functions; locals = length h.parameters + length h.locals; regions = h.regions; result = h.result }
