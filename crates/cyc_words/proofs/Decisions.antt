-- If an input has at most one correct result, then a call with a correct result satisfies `Decides`,
-- the contract of accepting or rejecting calls.
use Rattle.std.proofs.Common.{◌≡◌, ◌⊎◌, inl, inr, ⊎_elim, subst, refl, Result, Ok, Err}
use Rattle.std.specs.Prelude.{IfOk, IfErr, MatchResult}
use Rattle.cyc_words.specs.declared.fault.Fault.{Fault}
use Rattle.cyc_words.specs.Fault.{memory_fault}
use Rattle.cyc_words.specs.Decision.{Decides}

-- Says that an input has at most one correct outcome: one accepted value, or one fault.
pub record IsDecided {A : Type 0} (Accepted : A → Type 0) (Refused Faulty : Fault → Type 0) : Type 0 where
  pub one : (a b : A) → Accepted a → Accepted b → a ≡ b
  pub same : (f g : Fault) → Refused f → Faulty g → f ≡ g
  pub never_refused : (a : A) (f : Fault) → Accepted a → Refused f → ⊥
  pub never_faulty : (a : A) (f : Fault) → Accepted a → Faulty f → ⊥

module _ {X A : Type 0} (Accepted : A → Type 0) (Gives : A → X → Type 0) (Refused Faulty : Fault → Type 0) (laws : IsDecided Accepted Refused Faulty) where
  accepts : (result : Result X Fault) → IfOk result (λ x. (a : A) × Accepted a × Gives a x) → IfErr result (λ f. (f ≡ memory_fault) ⊎ Refused f)
      → (a : A) → Accepted a → MatchResult result (Gives a) (λ f. f ≡ memory_fault)
  accepts (Ok x) (b, is, gives) refused a has = subst (λ c. Gives c x) (laws.one b a is has) gives
  accepts (Err f) accepted refused a has = ⊎_elim (λ memory. memory) (λ fault. absurd (laws.never_refused a f has fault)) refused

  refuses : (result : Result X Fault) → IfOk result (λ x. (a : A) × Accepted a × Gives a x) → IfErr result (λ f. (f ≡ memory_fault) ⊎ Refused f)
      → (fault : Fault) → Faulty fault → MatchResult result (λ _. ⊥) (λ f. (f ≡ memory_fault) ⊎ (f ≡ fault))
  refuses (Ok x) (b, is, gives) refused fault has = laws.never_faulty b fault is has
  refuses (Err f) accepted refused fault has = ⊎_elim (λ memory. inl memory) (λ other. inr (laws.same f fault other has)) refused

  pub decides : (result : Result X Fault) → IfOk result (λ x. (a : A) × Accepted a × Gives a x) → IfErr result (λ f. (f ≡ memory_fault) ⊎ Refused f)
      → Decides Accepted Gives Refused Faulty result
  decides result accepted refused =
      record { accepted = accepted; refused = refused; accepts = accepts result accepted refused; refuses = refuses result accepted refused }

-- Let a function `view` compute the accepted value from a call's result. If the result is correct, the call satisfies `Decides`, the
-- contract of calls that accept or reject.
pub decides_by_view : {X A : Type 0} (view : X → A) (Accepted : A → Type 0) (Refused Faulty : Fault → Type 0) → IsDecided Accepted Refused Faulty
    → (result : Result X Fault) → IfOk result (λ x. Accepted (view x)) → IfErr result (λ f. (f ≡ memory_fault) ⊎ Refused f)
    → Decides Accepted (λ a x. view x ≡ a) Refused Faulty result
decides_by_view view Accepted Refused Faulty laws (Ok x) accepted refused = decides Accepted (λ a x. view x ≡ a) Refused Faulty laws (Ok x) (view x, accepted, refl) refused
decides_by_view view Accepted Refused Faulty laws (Err f) accepted refused = decides Accepted (λ a x. view x ≡ a) Refused Faulty laws (Err f) accepted refused
