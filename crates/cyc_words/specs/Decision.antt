-- This file defines the contract of a call that decides: it accepts with a result or rejects with a fault, and the contract characterizes
-- both exactly. The result and the fault may each be replaced by the fault for lack of memory. The form of these contracts is this
-- project's own choice.
use Rattle.std.specs.Prelude.{◌≡◌, ◌⊎◌, Result, IfOk, IfErr, MatchResult}
use Rattle.cyc_words.specs.declared.fault.Fault.{Fault}
use Rattle.cyc_words.specs.Fault.{memory_fault}

-- `Accepted` says which inputs are accepted, and `Gives` relates the accepted value to the result. `Refused` holds of each fault that is
-- returned; each fault of which `Faulty` holds is returned. `Refused` and `Faulty` differ only if several faults may hold at once.
pub record Decides {X A : Type 0} (Accepted : A → Type 0) (Gives : A → X → Type 0) (Refused Faulty : Fault → Type 0) (result : Result X Fault) : Type 0 where
  pub accepted : IfOk result (λ x. (a : A) × Accepted a × Gives a x)
  pub refused : IfErr result (λ f. (f ≡ memory_fault) ⊎ Refused f)
  pub accepts : (a : A) → Accepted a → MatchResult result (Gives a) (λ f. f ≡ memory_fault)
  pub refuses : (fault : Fault) → Faulty fault → MatchResult result (λ _. ⊥) (λ f. (f ≡ memory_fault) ⊎ (f ≡ fault))
