-- This file defines the result of a list of calls to a store: a run of the store relation over the calls, in order. The definition of the
-- result of calls is this project's own choice.
use Rattle.std.specs.Prelude.{◌≡◌, ◌⊎◌, Bool, true, List, [], ◌∷◌, Option, Some, None}
use Rattle.cyc_store.specs.State.{StoreState}
use Rattle.cyc_store.specs.Services as services
use Rattle.cyc_store.specs.Services.{Call}
use Rattle.cyc_store.specs.Run.{Exchange, Service, Load, Save, Exchanges, Run}
use Rattle.cyc_store.specs.declared.runs.Asked.{Asked}
use Rattle.cyc_store.specs.declared.runs.Asked.TheVariants as asked

-- The request to the store relation that a call makes, unless the call reads or writes a word.
abbrev pub call_of : Asked → Option Call
call_of asked.OpenLexical = Some services.OpenLexical
call_of (asked.CloseTo mark) = Some (services.CloseTo mark)
call_of asked.OpenDynamic = Some services.OpenDynamic
call_of (asked.CloseDynamic handle) = Some (services.CloseDynamic handle)
call_of (asked.Alloc handle words) = Some (services.Allocate handle words)
call_of (asked.Free address) = Some (services.Free address)
call_of (asked.Load address) = None
call_of (asked.Save address word) = None

-- Says that an exchange (a call with its answer) is a possible result of this call.
abbrev pub IsOf : Asked → Exchange → Type 0
IsOf a (Service call answer) = call_of a ≡ Some call
IsOf a (Load address word) = a ≡ asked.Load address
IsOf a (Save address word done) = a ≡ asked.Save address word

-- The result of one call: an exchange with the store, or nothing, if a growing store runs out of memory.
abbrev pub Makes : (grows : Bool) → Asked → (s t : StoreState) → Type 0
Makes grows a s t = ((e : Exchange) × IsOf a e × Exchanges s e t) ⊎ ((grows ≡ true) × (t ≡ s))

-- Says that a list of exchanges (calls with their answers) has one exchange for each call of a list, in order,
-- except for calls that failed for lack of memory.
abbrev pub AreOf : (grows : Bool) → List Asked → List Exchange → Type 0
AreOf grows [] [] = Unit {0}
AreOf grows [] (e ∷ es) = ⊥
AreOf grows (a ∷ calls) [] = (grows ≡ true) × AreOf grows calls []
AreOf grows (a ∷ calls) (e ∷ es) = (IsOf a e × AreOf grows calls es) ⊎ ((grows ≡ true) × AreOf grows calls (e ∷ es))

-- Says that a run over these calls takes the store from s to t.
pub record MakesAll (grows : Bool) (calls : List Asked) (s t : StoreState) : Type 0 where
  pub exchanges : List Exchange
  pub are : AreOf grows calls exchanges
  pub run : Run exchanges s t
